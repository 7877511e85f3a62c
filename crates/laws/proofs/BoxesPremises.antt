-- What the laws of the listing of boxes ask for, each needed, and met by a JP2 file that holds sample A: for the search the signature and that the boxes are listed; for the
-- standard's tree that it is one, that it lies at depth 8 at most with length 0 at the top alone, and that its bytes may be counted.
use Prim.Native.Nat.{ℕ, ◌+◌, ◌%◌, ◌^◌, ◌≤◌, ◌<◌}
use native.Mathlib.Omega.{arith}
use mathlib.Core.Path.{◌≡◌, refl, sym, ap, ◌∙◌}
use mathlib.Core.Bool.{true}
use mathlib.Core.List.{List, [], ◌∷◌, ◌++◌, append_assoc}
use lib.ListN.{length, get_or, length-append}
use Rattle.std.specs.Prelude.{Some, Ok, Err}
use Rattle.numbers.specs.Bytes.{bytes_of}
use Rattle.numbers.specs.Rows.{bytes_of_rows}
use Rattle.types.specs.Refusals.{refusal}
use Rattle.reader.specs.Search.{JP2C, is_jp2, found_in, part_of, content_of, codestream}
use Rattle.reader.specs.Iso.{Form, plain, extended, last, IsoBox, box_rows, header_size, box_bytes, Stands}
use Rattle.reader.specs.BoxRow.{end_of}
use Rattle.reader.specs.BoxStep.{opens, refused_at, entry_of, step_at}
use Rattle.reader.specs.Boxes.{boxes, before, boxes_in, boxes_of}
use Rattle.reader.specs.BoxTree.{first_codestream, NoCodestream}
use Rattle.reader.specs.IsoBoxes.{Tree, none, leaf, node, holding, tree_bytes, tree_entries, Ends, StandsIn, IsoTree, IsoFile, TopEnds, Listable, ReadBack}
use Rattle.reader.specs.declared.box_row.BoxEntry.{BoxEntry}
use Rattle.reader.specs.declared.box_step.ListStep.TheVariants.{Plain}
use Rattle.reader.specs.declared.search.BoxHeader.{BoxHeader}
use Rattle.reader.proofs.BoxStepLaws.{step_top, judged_other, judged_16}
use Rattle.reader.proofs.BoxesLaws.{boxes_plain, boxes_refused}
use Rattle.reader.proofs.BoxesSearch.{tree_search, search_finds, search_none}
use Rattle.reader.proofs.Iso.{length_box, box_iso}
use Rattle.reader.proofs.IsoBoxes.{tree_listed}
use Rattle.reader.proofs.IsoBoxesRead.{read_back}
use Rattle.laws.specs.Sample.{A, zeros, signature, JP2H, IHDR, UUID, box_head, box}
use Rattle.laws.proofs.SampleComputing.{box_trees}
use Rattle.laws.proofs.Demand3Premises.{all_below, all_bytes}
use Rattle.laws.proofs.SampleBoxes.{listed_as, unlisted, tree_bytes_lem, nested, nested_iso, picture, picture_iso, picture_listable, picture_long, picture_front, picture_boxes, picture_entries}
use Rattle.types.specs.declared.Reason.TheVariants.{NotJpeg2000, BoxTooLong, BoxDoesNotFit, BoxLengthWrong, BoxesTooDeep}
use Rattle.types.specs.declared.Reason.TheVariants as reason

-- ---- the search: met by the signature, jp2h with ihdr, and jp2c; and by the signature alone

abbrev small : List ℕ
small = signature ++ box JP2H (box IHDR (7 ∷ [])) ++ box JP2C (1 ∷ 2 ∷ [])

small_jp2 : is_jp2 small ≡ true
unfolding box_trees
small_jp2 = refl

pub small_listed : boxes_of small ≡ boxes (listed_as 1 0x6a50_2020 0 8 4 ∷ listed_as 1 JP2H 12 20 9 ∷ listed_as 2 IHDR 20 28 1 ∷ listed_as 1 JP2C 29 37 2 ∷ [])
unfolding box_trees
small_listed = refl

pub small_found : found_in small ≡ Ok (codestream (record { 0 = 37 }) 2)
unfolding first_codestream
small_found = tree_search small _ small_jp2 small_listed

signature_listed : boxes_of signature ≡ boxes (listed_as 1 0x6a50_2020 0 8 4 ∷ [])
unfolding box_trees
signature_listed = refl

signature_jp2 : is_jp2 signature ≡ true
unfolding box_trees
signature_jp2 = refl

pub signature_none : found_in signature ≡ Err (refusal reason.NoCodestreamBox 12)
unfolding NoCodestream box_trees
signature_none = search_none signature _ signature_jp2 signature_listed (λ d k. omega arith, tt)

-- a jp2c below the top is none
held_jp2 : is_jp2 (signature ++ box JP2H (box JP2C [])) ≡ true
unfolding box_trees
held_jp2 = refl

held_listed : boxes_of (signature ++ box JP2H (box JP2C [])) ≡ boxes (listed_as 1 0x6a50_2020 0 8 4 ∷ listed_as 1 JP2H 12 20 8 ∷ listed_as 2 JP2C 20 28 0 ∷ [])
unfolding box_trees
held_listed = refl

pub held_none : found_in (signature ++ box JP2H (box JP2C [])) ≡ Err (refusal reason.NoCodestreamBox 28)
unfolding NoCodestream box_trees
held_none = search_none (signature ++ box JP2H (box JP2C [])) _ held_jp2 held_listed (λ d k. omega arith, (λ d k. omega arith, (λ d k. omega arith, tt)))

-- ---- it needs the signature: of a jp2c box alone the tree has one, and the search refuses the file

pub bare_listed : boxes_of (box JP2C (1 ∷ [])) ≡ boxes (listed_as 1 JP2C 0 8 1 ∷ [])
unfolding box_trees
bare_listed = refl

pub bare_first : first_codestream 9 (listed_as 1 JP2C 0 8 1 ∷ []) ≡ Ok (codestream (record { 0 = 8 }) 1)
unfolding first_codestream
bare_first = refl

pub bare_not_found : found_in (box JP2C (1 ∷ [])) ≡ Err (refusal NotJpeg2000 0)
unfolding box_trees
bare_not_found = refl

-- ---- it needs that the boxes are listed: a jp2c that passes the file is refused, and the search clips it

pub past_refused : boxes_of (signature ++ box_head 9 JP2C) ≡ unlisted BoxDoesNotFit 12
unfolding box_trees
past_refused = refl

pub past_found : found_in (signature ++ box_head 9 JP2C) ≡ Ok (codestream (record { 0 = 20 }) 0)
unfolding box_trees
past_found = refl

-- ---- the standard's tree: met by a JP2 file that holds A

pub picture_listed : boxes_of (tree_bytes picture) ≡ boxes picture_boxes
picture_listed = tree_listed picture picture_iso picture_listable (omega (arith, picture_long)) ∙ ap boxes picture_entries

-- so that the search finds A in it
picture_jp2 : is_jp2 (tree_bytes picture) ≡ true
unfolding tree_bytes_lem
picture_jp2 = refl

picture_free : NoCodestream picture_front
unfolding NoCodestream
picture_free =
    (λ d k. omega arith, (λ d k. omega arith, (λ d k. omega arith, (λ d k. omega arith, (λ d k. omega arith, (λ d k. omega arith, (λ d k. omega arith, tt)))))))

pub picture_found : found_in (tree_bytes picture) ≡ Ok (codestream (record { 0 = 111 }) 89)
picture_found = search_finds (tree_bytes picture) _ picture_jp2 picture_listed picture_front _ [] refl picture_free refl refl

pub picture_content : content_of (tree_bytes picture) ≡ A
unfolding content_of part_of tree_bytes_lem
picture_content = ap (part_of (tree_bytes picture)) picture_found

-- ---- it needs depth 8 at most, and length 0 at the top alone

-- a box of length 0 in a superbox of length 0 is the standard's
abbrev endless : Tree
endless = node last JP2H (leaf (holding last UUID []) none) none

pub endless_iso : IsoFile endless
unfolding IsoTree StandsIn Stands Ends tree_bytes_lem
endless_iso = (refl, (omega arith, omega arith, refl), (refl, (omega arith, omega arith, refl), tt), tt)

pub endless_refused : boxes_of (tree_bytes endless) ≡ unlisted BoxLengthWrong 8
unfolding tree_bytes_lem
endless_refused = refl

-- and so are nine superboxes, one in the other
pub nine_iso : IsoFile (nested 9)
nine_iso = nested_iso 9 (omega arith) last

pub nine_refused : boxes_of (tree_bytes (nested 9)) ≡ unlisted BoxesTooDeep 56
unfolding tree_bytes_lem nested
nine_refused = refl

-- ---- it needs the standard's tree: a superbox that holds no list, and a box behind one of length 0, which takes it for its content

pub no_list : Listable 1 (leaf (holding plain JP2H (zeros 1)) none) × (boxes_of (tree_bytes (leaf (holding plain JP2H (zeros 1)) none)) ≡ unlisted BoxDoesNotFit 8)
unfolding Listable TopEnds tree_bytes_lem
no_list = ((omega arith, tt, tt), refl)

abbrev behind_last : Tree
behind_last = leaf (holding last UUID []) (leaf (holding plain UUID []) none)

pub behind_last_listable : Listable 1 behind_last
unfolding Listable TopEnds
behind_last_listable = (omega arith, refl, (omega arith, tt, tt))

pub behind_last_entries : tree_entries 1 0 behind_last ≡ listed_as 1 UUID 0 8 0 ∷ listed_as 1 UUID 8 16 0 ∷ []
unfolding tree_bytes_lem
behind_last_entries = refl

pub behind_last_listed : boxes_of (tree_bytes behind_last) ≡ boxes (listed_as 1 UUID 0 8 8 ∷ [])
unfolding tree_bytes_lem
behind_last_listed = refl

-- ---- it needs fewer bytes than 2^64: two boxes that have more are the standard's, and the second is refused

module _ (x y : List ℕ) (first : 16 + length x < 2 ^ 64) (second : 16 + length y < 2 ^ 64) (many : 2 ^ 64 ≤ 32 + length x + length y) where
  abbrev b : IsoBox
  b = holding extended UUID x

  abbrev c : IsoBox
  c = holding extended UUID y

  abbrev pair : Tree
  pair = leaf b (leaf c none)

  pub many_iso : IsoFile pair
  unfolding IsoTree StandsIn Stands Ends opens
  many_iso = (refl, (omega arith, first, tt), (refl, (omega arith, second, tt), tt))

  pub many_listable : Listable 1 pair
  unfolding Listable TopEnds
  many_listable = (omega arith, tt, (omega arith, tt, tt))

  abbrev s : List ℕ
  s = box_bytes b ++ (box_bytes c ++ [])

  abbrev header : ℕ → BoxHeader
  header n = record { kind = UUID; header = 16; length = n }

  long_b : length (box_bytes b) ≡ 16 + length x
  unfolding header_size
  long_b = length_box b

  long_c : length (box_bytes c) ≡ 16 + length y
  unfolding header_size
  long_c = length_box c

  long : length s ≡ 32 + length x + length y
  long = omega (arith, length-append (box_bytes b) (box_bytes c ++ []), length-append (box_bytes c) [], long_b, long_c)

  abbrev e : BoxEntry
  e = entry_of 1 0 (header (length (box_bytes b)))

  step_b : step_at s 1 0 ≡ Ok (Some (Plain e))
  unfolding Stands header_size opens
  step_b =
      step_top s 1 0 (omega (arith, long)) (header (length (box_bytes b))) (box_iso [] b (box_bytes c ++ []) (omega arith) first) (omega arith)
      ∙ judged_other (length s) 1 0 (header (length (box_bytes b))) (omega (arith, long_b)) (omega (arith, long_b)) (omega (arith, long, long_b)) refl

  step_c : step_at s 1 (length (box_bytes b)) ≡ refused_at BoxTooLong (length (box_bytes b))
  unfolding Stands header_size
  step_c =
      step_top s 1 (length (box_bytes b)) (omega (arith, long, long_b)) (header (length (box_bytes c))) (box_iso (box_bytes b) c [] (omega arith) second) (omega arith)
      ∙ judged_16 (length s) 1 (length (box_bytes b)) (header (length (box_bytes c))) (omega (arith, long_c)) (omega (arith, long_b, long_c))

  pub many_refused : boxes_of (tree_bytes pair) ≡ unlisted BoxTooLong (16 + length x)
  unfolding tree_bytes before
  many_refused =
      let to : end_of e ≡ length (box_bytes b) = omega (arith, long_b) in
      boxes_plain s 1 0 e step_b
      ∙ ap (before (e ∷ [])) (ap (boxes_in s 1) to ∙ boxes_refused s 1 (length (box_bytes b)) _ step_c)
      ∙ ap (λ (n : ℕ). unlisted BoxTooLong n) long_b

-- ---- reading back: met by the same file. It needs that the items are bytes: a type of which one is 256 is listed, and no tree has its bytes

picture_bytes : all_below (tree_bytes picture) ≡ true
unfolding all_below tree_bytes_lem
picture_bytes = refl

pub picture_back : ReadBack (tree_bytes picture) picture_boxes
picture_back = read_back (tree_bytes picture) picture_boxes (all_bytes (tree_bytes picture) picture_bytes) picture_listed

abbrev odd : List ℕ
odd = 0 ∷ 0 ∷ 0 ∷ 8 ∷ 0 ∷ 0 ∷ 0 ∷ 256 ∷ []

pub odd_listed : boxes_of odd ≡ boxes (listed_as 1 256 0 8 0 ∷ [])
unfolding box_trees
odd_listed = refl

-- the last byte of a box's type
type_byte : (form : Form) (TBox n : ℕ) (rest : List ℕ) → get_or (bytes_of_rows (box_rows form TBox n) ++ rest) 7 0 ≡ TBox % 256
unfolding tree_bytes_lem bytes_of
type_byte plain TBox n rest = refl
type_byte extended TBox n rest = refl
type_byte last TBox n rest = refl

box_byte : (b : IsoBox) (rest : List ℕ) → box_bytes b ++ rest ≡ odd → ⊥
unfolding box_bytes
box_byte b rest e =
    let l = type_byte b.form b.TBox (length b.DBox) (b.DBox ++ rest) in
    let is : 256 ≡ b.TBox % 256 = sym (ap (λ (s : List ℕ). get_or s 7 0) (sym (append_assoc (bytes_of_rows (box_rows b.form b.TBox (length b.DBox))) b.DBox rest) ∙ e)) ∙ l in
    omega arith

odd_bytes : (t : Tree) → tree_bytes t ≡ odd → ⊥
unfolding tree_bytes
odd_bytes none e = let z : ◌≡◌ {A = ℕ} 0 8 = ap length e in omega arith
odd_bytes (leaf b rest) e = box_byte b (tree_bytes rest) e
odd_bytes (node form TBox held rest) e = box_byte (holding form TBox (tree_bytes held)) (tree_bytes rest) e

pub odd_not_back : (es : List BoxEntry) → ReadBack odd es → ⊥
odd_not_back es r = odd_bytes r.tree r.bytes
