-- The answer of the whole reading, opened once: a law for each case.
use Prim.Native.Nat.{ℕ, ◌+◌, ◌*◌, ◌^◌, ◌≤◌, ◌<◌}
use native.Mathlib.Omega.{arith}
use mathlib.Core.Path.{◌≡◌, refl, sym, ap, ◌∙◌}
use mathlib.Core.Bool.{true, false, ◌&&◌}
use mathlib.Core.List.{List, [], ◌∷◌, ◌++◌}
use lib.ListN.{length, take, drop, length-append}
use lib.Dec.{leb, eqb}
use borrow.Author.Tests.{le-leb, lt-leb, eq-eqb, leb-true, eqb-true}
use Rattle.std.specs.Prelude.{Result, Ok, Err, ⊤}
use Rattle.numbers.specs.Bytes.{be, put}
use Rattle.numbers.proofs.BytesLaws.{put_start, be_front}
use Rattle.types.specs.Refusals.{refusal}
use Rattle.types.specs.Layout.{Layout}
use Rattle.types.specs.Layout as layout
use Rattle.types.proofs.RowStanding.{put_last, length_all}
use Rattle.types.specs.declared.Refusal.{Refusal}
use Rattle.types.specs.Markers.{SOC, SIZ}
use Rattle.header.specs.Tlm.{Entry, placed}
use Rattle.header.specs.Walk.{WalkEnd, at_first_sot, refused, walk_from}
use Rattle.header.specs.Strip.{decode_header, tlm_entries}
use Rattle.header.specs.Parse.{read_as, stands, front_of, behind_front, judged, judged_as, with_room, parsed, table_by, table_in, table_after, out_after}
use Rattle.header.specs.declared.numbering.Numbering.{Numbering}
use Rattle.header.specs.declared.reading.Reading.{Reading}
use Rattle.header.specs.declared.parse.MainHeaderInfo.{MainHeaderInfo}
use Rattle.numbers.proofs.Choice.{by_test}
use Rattle.header.proofs.TlmLaws.{length_placed}
use Rattle.header.proofs.NumberingLaws.{refused_header, by_from, end_from, length_by, by_accepted}
use Rattle.header.proofs.WalkLaws.{not_true_false}
use Rattle.header.proofs.EditionLaws.{as_accepted}
use Rattle.header.proofs.StripLengths.{entries_bound, stopped_inside, whole_kept, none_met}
use Rattle.types.specs.declared.Reason.TheVariants.{NoSoc, NoSiz, OutputTooSmall, TableTooSmall, HeaderTooLong}

module _ (s : List ℕ) where
  -- ---- before the walk

  pub front_long : 0xffff_ffff < length s → front_of s ≡ Err (refusal HeaderTooLong 0)
  unfolding front_of
  front_long h = rw (lt-leb _ _ h)

  module _ (short : length s ≤ 0xffff_ffff) where
    pub front_no_soc : stands s 0 SOC ≡ false → front_of s ≡ Err (refusal NoSoc 0)
    unfolding front_of
    front_no_soc e = rw (le-leb _ _ short, e)

    pub front_no_siz : stands s 0 SOC ≡ true → stands s 2 SIZ ≡ false → front_of s ≡ Err (refusal NoSiz 2)
    unfolding front_of
    front_no_siz e k = rw (le-leb _ _ short, e, k)

    pub front_sound : stands s 0 SOC ≡ true → stands s 2 SIZ ≡ true → front_of s ≡ Ok tt
    unfolding front_of
    front_sound e k = rw (le-leb _ _ short, e, k)

  -- ---- and with it

  pub judged_refused : (r : Refusal) → front_of s ≡ Err r → judged s ≡ Err r
  unfolding judged behind_front
  judged_refused r e = ap (behind_front s) e

  pub judged_sound : front_of s ≡ Ok tt → judged s ≡ read_as s (walk_from s 2) (walk_from s 2).ended
  unfolding judged behind_front
  judged_sound e = ap (behind_front s) e

  pub judged_long : 0xffff_ffff < length s → judged s ≡ Err (refusal HeaderTooLong 0)
  judged_long h = judged_refused (refusal HeaderTooLong 0) (front_long h)

  module _ (short : length s ≤ 0xffff_ffff) where
    pub judged_no_soc : stands s 0 SOC ≡ false → judged s ≡ Err (refusal NoSoc 0)
    judged_no_soc e = judged_refused (refusal NoSoc 0) (front_no_soc short e)

    pub judged_no_siz : stands s 0 SOC ≡ true → stands s 2 SIZ ≡ false → judged s ≡ Err (refusal NoSiz 2)
    judged_no_siz e k = judged_refused (refusal NoSiz 2) (front_no_siz short e k)

    pub judged_walk : stands s 0 SOC ≡ true → stands s 2 SIZ ≡ true → judged s ≡ read_as s (walk_from s 2) (walk_from s 2).ended
    judged_walk e k = judged_sound (front_sound short e k)

-- a list of no entries
none_long : (es : List Entry) → length es ≡ 0 → es ≡ []
none_long [] e = refl
none_long (x ∷ es) e = absurd (omega arith)

and_both : (a b : mathlib.Core.Bool.Bool) → (a && b) ≡ true → (a ≡ true) × (b ≡ true)
and_both true b e = (refl, e)
and_both false b e = absurd (not_true_false (sym e))

pub stands_there : (s : List ℕ) (at marker : ℕ) → at + 2 ≤ length s → be 2 s at ≡ marker → stands s at marker ≡ true
unfolding stands
stands_there s at marker h e = rw (le-leb _ _ h, eq-eqb _ _ e)

pub stands_inside : (s : List ℕ) (at marker : ℕ) → stands s at marker ≡ true → at + 2 ≤ length s
unfolding stands
stands_inside s at marker e = leb-true (at + 2) (length s) (and_both (leb (at + 2) (length s)) (eqb (be 2 s at) marker) e).0

pub stands_marker : (s : List ℕ) (at marker : ℕ) → stands s at marker ≡ true → be 2 s at ≡ marker
unfolding stands
stands_marker s at marker e = eqb-true (be 2 s at) marker (and_both (leb (at + 2) (length s)) (eqb (be 2 s at) marker) e).1

-- a marker inside a prefix stands there in the whole, or does not
pub stands_front : (q t : List ℕ) (at marker : ℕ) → at + 2 ≤ length q → stands (q ++ t) at marker ≡ stands q at marker
unfolding stands
stands_front q t at marker h = rw (le-leb (at + 2) (length (q ++ t)) (rw length-append (omega arith)), le-leb (at + 2) (length q) h, be_front 2 q t at h)

-- ---- what an accepted header says

pub record Read (s : List ℕ) (h : MainHeaderInfo) : Type 0 where
  pub short : length s ≤ 0xffff_ffff
  pub two : 2 ≤ length s
  pub first : h.first_sot_offset.0 ≡ (walk_from s 2).stopped
  pub header : h.decode_header_length ≡ length (decode_header s (walk_from s 2).visits)
  pub entries : h.tlm_entries ≡ length (tlm_entries s (walk_from s 2).visits)
  pub ends : (walk_from s 2).ended ≡ at_first_sot

abbrev Says : List ℕ → Result MainHeaderInfo Refusal → Type 0
Says s (Ok h) = Read s h
Says s (Err r) = Unit {0}

says_walk : (s : List ℕ) → length s ≤ 0xffff_ffff → 2 ≤ length s → (ended : WalkEnd) → (walk_from s 2).ended ≡ ended → Says s (read_as s (walk_from s 2) ended)
unfolding read_as
says_walk s short two at_first_sot e = record { short = short; two = two; first = refl; header = refl; entries = refl; ends = e }
says_walk s short two (refused r) e = tt

-- a front that is sound has both markers, in few enough bytes to be walked
abbrev Fronts : List ℕ → Result ⊤ Refusal → Type 0
Fronts s (Ok tt) = (4 ≤ length s) × (length s ≤ 0xffff_ffff) × (be 2 s 0 ≡ SOC) × (be 2 s 2 ≡ SIZ)
Fronts s (Err r) = Unit {0}

fronts : (s : List ℕ) → Fronts s (front_of s)
unfolding front_of
fronts s =
    by_test (Fronts s) (leb (length s) 0xffff_ffff)
    (λ short. by_test (Fronts s) (stands s 0 SOC)
    (λ soc. by_test (Fronts s) (stands s 2 SIZ) (λ siz. (stands_inside s 2 SIZ siz, leb-true (length s) 0xffff_ffff short, stands_marker s 0 SOC soc, stands_marker s 2 SIZ siz)) (λ _. tt))
    (λ _. tt))
    (λ _. tt)

pub sound_front : (s : List ℕ) → front_of s ≡ Ok tt → (4 ≤ length s) × (length s ≤ 0xffff_ffff) × (be 2 s 0 ≡ SOC) × (be 2 s 2 ≡ SIZ)
sound_front s e = rw e at (fronts s)

-- so has a header that is accepted
pub opens_with : (s : List ℕ) (h : MainHeaderInfo) → judged s ≡ Ok h → (be 2 s 0 ≡ SOC) × (be 2 s 2 ≡ SIZ)
opens_with s h e = let f = sound_front s (by (front_of s) refl) in (f.2, f.3)
  where
    by : (f : Result ⊤ Refusal) → front_of s ≡ f → front_of s ≡ Ok tt
    by (Ok tt) k = k
    by (Err r) k = absurd (refused_header (sym (judged_refused s r k) ∙ e))

says_behind : (s : List ℕ) (f : Result ⊤ Refusal) → Fronts s f → Says s (behind_front s f)
unfolding behind_front
says_behind s (Ok tt) k = says_walk s k.1 (omega (arith, k.0)) (walk_from s 2).ended refl
says_behind s (Err r) k = tt

says : (s : List ℕ) → Says s (judged s)
unfolding judged
says s = says_behind s (front_of s) (fronts s)

pub judged_read : (s : List ℕ) (h : MainHeaderInfo) → judged s ≡ Ok h → Read s h
judged_read s h e = rw e at (says s)

-- ---- the answer, by the room

module _ (how : Reading) (s : List ℕ) (rows room : ℕ) where
  pub parsed_refused : (r : Refusal) → judged_as how s ≡ Err r → parsed how s rows room ≡ Err r
  unfolding parsed with_room
  parsed_refused r e = ap (with_room rows room) e

  module _ (h : MainHeaderInfo) (e : judged_as how s ≡ Ok h) where
    pub parsed_18 : rows < h.tlm_entries → parsed how s rows room ≡ Err (refusal TableTooSmall h.tlm_entries)
    unfolding parsed with_room
    parsed_18 few = ap (with_room rows room) e ∙ rw (lt-leb _ _ few)

    module _ (many : h.tlm_entries ≤ rows) where
      pub parsed_17 : room < h.decode_header_length → parsed how s rows room ≡ Err (refusal OutputTooSmall h.decode_header_length)
      unfolding parsed with_room
      parsed_17 few = ap (with_room rows room) e ∙ rw (le-leb _ _ many, lt-leb _ _ few)

      pub parsed_header : h.decode_header_length ≤ room → parsed how s rows room ≡ Ok h
      unfolding parsed with_room
      parsed_header fits = ap (with_room rows room) e ∙ rw (le-leb _ _ many, le-leb _ _ fits)

-- ---- what an accepted answer says: the header, that no number passes, that there is room for what is then written, and that the records' offsets fit in
-- 64 bits

pub record Decided (n : Numbering) (s : List ℕ) (rows room : ℕ) (h : MainHeaderInfo) : Type 0 where
  pub read : Read s h
  pub ends : end_from n s 0 2 ≡ at_first_sot
  pub many : length (by_from n s 0 2) ≤ rows
  pub fits : length (decode_header s (walk_from s 2).visits) ≤ room
  pub bound : h.first_sot_offset.0 + length (by_from n s 0 2) * 2 ^ 32 < 2 ^ 64

abbrev Decides : Numbering → List ℕ → ℕ → ℕ → Result MainHeaderInfo Refusal → Type 0
Decides n s rows room (Ok h) = Decided n s rows room h
Decides n s rows room (Err r) = Unit {0}

decides : (how : Reading) (s : List ℕ) (rows room : ℕ) (answer : Result MainHeaderInfo Refusal) → judged_as how s ≡ answer → Decides how.numbering s rows room (with_room rows room answer)
unfolding with_room
decides how s rows room (Ok h) e =
    let n = how.numbering in
    let accepted = by_accepted n s h (as_accepted how s h e) in
    let r = judged_read s h accepted.0 in
    let same = length_by n s 0 (walk_from s 2).visits in
    by_test (Decides n s rows room) (leb h.tlm_entries rows)
    (λ many. by_test (Decides n s rows room) (leb h.decode_header_length room)
    (λ fits. record {
      read = r;
      ends = accepted.1;
      many = omega (arith, r.entries, same, leb-true h.tlm_entries rows many);
      fits = omega (arith, r.header, leb-true h.decode_header_length room fits);
      bound = omega (arith, r.first, r.short, same, entries_bound s r.two, stopped_inside s r.two);
    })
    (λ _. tt))
    (λ _. tt)
decides how s rows room (Err r) e = tt

pub parsed_decided : (how : Reading) (s : List ℕ) (rows room : ℕ) (h : MainHeaderInfo) → parsed how s rows room ≡ Ok h → Decided how.numbering s rows room h
unfolding parsed
parsed_decided how s rows room h e = rw e at (decides how s rows room (judged_as how s) refl)

module _ (s : List ℕ) (h : MainHeaderInfo) (r : Read s h) where
  pub first_inside : h.first_sot_offset.0 ≤ length s
  first_inside = omega (arith, r.first, stopped_inside s r.two)

  -- what is written is one replacement from the start
  pub length_table : (n : Numbering) → length (table_by n s) ≡ h.tlm_entries
  unfolding table_by
  length_table n = length_placed (walk_from s 2).stopped (by_from n s 0 2) ∙ length_by n s 0 (walk_from s 2).visits ∙ sym r.entries

  pub table_put : {B : Type 0} {width : ℕ} (L : Layout B width) (n : Numbering) (table : List B)
      → put table 0 (L.all (placed h.first_sot_offset.0 (by_from n s 0 2))) ≡ table_in L n (Ok h) s table
  unfolding table_in table_by
  table_put {B} {width} L n table =
      let items : List B = L.all (table_by n s) in
      let long : length items ≡ width * h.tlm_entries = length_all L (table_by n s) ∙ ap (λ (m : ℕ). width * m) (length_table n) in
      rw r.first (put_start table items ∙ ap (λ (m : ℕ). items ++ drop m table) long)

  pub out_put : (out : List ℕ) → put out 0 (decode_header s (walk_from s 2).visits) ≡ out_after (Ok h) s out
  unfolding out_after
  out_put out = put_start out _ ∙ ap (λ (n : ℕ). decode_header s (walk_from s 2).visits ++ drop n out) (sym r.header)

  -- a header that is as long as its decode header has no TLM segment: there are no records to write, and it is its own decode header
  module _ (same : h.decode_header_length ≡ h.first_sot_offset.0) where
    plain_long : length (decode_header s (walk_from s 2).visits) ≡ (walk_from s 2).stopped
    plain_long = sym r.header ∙ same ∙ r.first

    none_by : (n : Numbering) → by_from n s 0 2 ≡ []
    none_by n = none_long _ (length_by n s 0 (walk_from s 2).visits ∙ ap length (none_met s r.two plain_long))

    pub none_written : {B : Type 0} {width : ℕ} (L : Layout B width) (n : Numbering) (table : List B) → table ≡ put table 0 (L.all (placed h.first_sot_offset.0 (by_from n s 0 2)))
    unfolding placed
    none_written L n table =
        sym (put_last L table 0) ∙ ap (λ (es : List Entry). put table 0 (L.all (placed h.first_sot_offset.0 es))) (sym (none_by n))

    pub out_plain : (out : List ℕ) → put out 0 (take h.first_sot_offset.0 s) ≡ out_after (Ok h) s out
    out_plain out = ap (put out 0) (ap (λ (n : ℕ). take n s) r.first ∙ sym (whole_kept s r.two plain_long)) ∙ out_put out

-- a table of rows
pub table_rows : (n : Numbering) (a : Result MainHeaderInfo Refusal) (s table : List ℕ) → table_in layout.rows n a s table ≡ table_after n a s table
unfolding table_in table_after
table_rows n (Ok h) s table = refl
table_rows n (Err r) s table = refl
