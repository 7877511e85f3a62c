-- The standard's CAP segment has the length that the newer edition asks for, and nothing else has it; and a main header by the standard that has it as SIZ
-- announces is accepted in the newer edition.
use Prim.Native.Nat.{ℕ, zero, suc, ◌+◌, ◌*◌, ◌%◌, ◌^◌, ◌≤◌, ◌<◌}
use native.Mathlib.Nat.{add_assoc, mod-one, mod-eq_of_lt, two-pow-succ}
use native.Mathlib.Omega.{arith}
use mathlib.Core.Path.{◌≡◌, refl, sym, ap, ap₂, ◌∙◌}
use mathlib.Core.Bool.{Bool, true}
use mathlib.Core.List.{List, [], ◌∷◌, ◌++◌, append_assoc}
use lib.ListN.{length, get_or, take, drop, length-append}
use lib.Dec.{leb, eqb}
use borrow.Author.Tests.{le-leb, eq-eqb, eqb-true, eqb-false}
use Rattle.std.specs.Prelude.{Ok, Err}
use Rattle.numbers.specs.Bits.{bit, ones}
use Rattle.numbers.specs.Bytes.{be, bytes_of}
use Rattle.numbers.specs.Rows.{Row, row, bytes_of_rows, widths}
use Rattle.numbers.proofs.BitsLaws.{bit_small, bit_cut, ones_few, ones_above, bit_top, bit_none}
use Rattle.numbers.proofs.BytesLaws.{be_front, be_rest, be_bound, bytes_next}
use Rattle.numbers.proofs.Rows.{length_rows, be_row, be_behind}
use Rattle.numbers.proofs.Choice.{by_test, by_bool}
use Rattle.types.specs.Markers.{SOC, CAP, SOT}
use Rattle.types.specs.Refusals.{refusal}
use Rattle.header.specs.Step.{segment_end}
use Rattle.header.specs.Tlm.{Within}
use Rattle.header.specs.Edition.{announced, caps_in, lcap, pcap, cap_fits, capped}
use Rattle.header.specs.Reading.{newer_by}
use Rattle.header.specs.Parse.{judged_by, judged_as}
use Rattle.header.specs.Iso.{Segment, segment_bytes, is_marker, is_bare, is_outside, InMain}
use Rattle.header.specs.IsoMain.{Piece, tlm, other, piece_bytes, pieces_bytes, Sound, AllSound, IsMain}
use Rattle.header.specs.IsoCap.{Capability, unused, used, pcap_of, ccap_rows, cap_segment, WordsHeld, IsCap, rsiz, caps_of, Announced, with, without}
use Rattle.header.specs.declared.numbering.Numbering.{Numbering}
use Rattle.header.specs.declared.parse.MainHeaderInfo.{MainHeaderInfo}
use Rattle.header.proofs.StepLaws.{step_sot}
use Rattle.header.proofs.WalkLaws.{not_true_false, walk_sot, walk_found}
use Rattle.header.proofs.EditionLaws.{caps_from, caps_here, caps_later, capped_missing, capped_none, capped_fits, as_newer}
use Rattle.header.proofs.Iso.{segment_marker}
use Rattle.header.proofs.IsoTlm.{tlm_marker}
use Rattle.header.proofs.IsoMain.{passing_of, piece_passed, siz_main, split_main, up_to_sot}
use Rattle.types.specs.declared.Reason.TheVariants.{CapOutOfPlace}

-- ---- Pcap and Ccap

-- a bit for each part
pcap_bound : (parts : List Capability) → pcap_of parts < 2 ^ length parts
unfolding pcap_of
pcap_bound [] = omega arith
pcap_bound (unused ∷ more) = omega (arith, pcap_bound more, two-pow-succ (length more))
pcap_bound (used word ∷ more) = omega (arith, pcap_bound more, two-pow-succ (length more))

-- and a word for each that is set
pub ones_parts : (parts : List Capability) → ones (length parts) (pcap_of parts) ≡ length (ccap_rows parts)
unfolding ones pcap_of ccap_rows
ones_parts [] = refl
ones_parts (unused ∷ more) = omega (arith, ones_parts more, bit_none (length more) (pcap_of more) (pcap_bound more))
ones_parts (used word ∷ more) =
    let w : ℕ = pcap_of more in
    omega (arith, ones_parts more, ones_above (length more) w, bit_top (length more) w (pcap_bound more))

widths_ccap : (parts : List Capability) → widths (ccap_rows parts) ≡ 2 * length (ccap_rows parts)
unfolding widths ccap_rows
widths_ccap [] = refl
widths_ccap (unused ∷ more) = widths_ccap more
widths_ccap (used word ∷ more) = omega (arith, widths_ccap more)

-- ---- the segment

-- its table
abbrev cap_rows : List Capability → List Row
cap_rows parts = row 2 CAP ∷ row 2 (6 + 2 * length (ccap_rows parts)) ∷ row 4 (pcap_of parts) ∷ ccap_rows parts

length_cap : (parts : List Capability) → 2 + length (cap_segment parts).parameters ≡ 6 + 2 * length (ccap_rows parts)
unfolding cap_segment widths
length_cap parts = omega (arith, length_rows (row 4 (pcap_of parts) ∷ ccap_rows parts), widths_ccap parts)

cap_bytes : (parts : List Capability) → segment_bytes (cap_segment parts) ≡ bytes_of_rows (cap_rows parts)
unfolding segment_bytes cap_segment bytes_of_rows
cap_bytes parts = rw (length_cap parts) (simp append_assoc)

module _ (parts : List Capability) (is : IsCap parts) where
  few : length (ccap_rows parts) ≤ 32
  few = omega (arith, ones_parts parts, ones_few (length parts) (pcap_of parts), is.all)

  -- it may stand in a main header
  pub cap_in_main : InMain (cap_segment parts)
  unfolding cap_segment is_marker is_bare is_outside
  cap_in_main = record { marker = refl; parameters = refl; inside = refl; tile_part = λ e. omega arith; fits = omega (arith, few, length_cap parts) }

-- anywhere in a codestream, its length is the one that is asked for
pub cap_standard : (front : List ℕ) (parts : List Capability) (rest : List ℕ) → IsCap parts
    → cap_fits (front ++ (segment_bytes (cap_segment parts) ++ rest)) (length front) ≡ true
unfolding cap_fits widths
cap_standard front parts rest is =
    let s : List ℕ = front ++ (bytes_of_rows (cap_rows parts) ++ rest) in
    let at : ℕ = length front in
    let n : ℕ = length (ccap_rows parts) in
    let long : lcap s at ≡ 6 + 2 * n = be_rest 2 front _ 2 ∙ be_row (take 1 (cap_rows parts)) 2 _ _ rest (omega (arith, few parts is)) in
    let bits : pcap s at ≡ pcap_of parts = be_rest 4 front _ 4 ∙ be_row (take 2 (cap_rows parts)) 4 _ _ rest (rw is.all at (pcap_bound parts)) in
    let many : ones 32 (pcap_of parts) ≡ n = rw is.all at (ones_parts parts) in
    rw (cap_bytes parts, long, bits, many, le-leb 6 (6 + 2 * n) (omega arith)) (eq-eqb (6 + 2 * n) _ refl)

-- ---- what has its length is one

module _ (s : List ℕ) (bytes : (i : ℕ) → get_or s i 0 < 256) where
  -- rows that are read from a position on
  abbrev Reads : ℕ → List Row → Type 0
  Reads at [] = Unit {0}
  Reads at (r ∷ rows) = (be r.width s at ≡ r.value) × Reads (at + r.width) rows

  -- their bytes stand there
  rows_there : (at : ℕ) (rows : List Row) → at + widths rows ≤ length s → Reads at rows → take (widths rows) (drop at s) ≡ bytes_of_rows rows
  unfolding widths bytes_of_rows
  rows_there at [] room reads = refl
  rows_there at (r ∷ rows) room reads =
      bytes_next r.width (widths rows) s at bytes (omega arith)
      ∙ ap₂ ◌++◌ (ap (bytes_of r.width) reads.0) (rows_there (at + r.width) rows (omega arith) reads.1)

  -- parts that the k lowest bits of a number tell, their words read from a position on
  record Told (k v at : ℕ) (parts : List Capability) : Type 0 where
    all : length parts ≡ k
    held : WordsHeld parts
    bits : pcap_of parts ≡ v % 2 ^ k
    words : Reads at (ccap_rows parts)

  -- by one more bit
  told_more : (k v b at : ℕ) → bit k v ≡ b → b ≤ 1 → ((from : ℕ) → (parts : List Capability) × Told k v from parts)
      → (parts : List Capability) × Told (suc k) v at parts
  unfolding WordsHeld pcap_of ccap_rows
  told_more k v zero at e small more =
      let (parts, t) = more at in
      let low : pcap_of parts ≡ v % 2 ^ suc k = omega (arith, t.bits, rw e at (bit_cut k v)) in
      (unused ∷ parts, record { all = ap suc t.all; held = t.held; bits = low; words = t.words })
  told_more k v (suc zero) at e small more =
      let (parts, t) = more (at + 2) in
      let low : 2 ^ length parts + pcap_of parts ≡ v % 2 ^ suc k = rw t.all (omega (arith, t.bits, rw e at (bit_cut k v))) in
      (used (be 2 s at) ∷ parts, record { all = ap suc t.all; held = (be_bound 2 s at bytes, t.held); bits = low; words = (refl, t.words) })
  told_more k v (suc (suc b)) at e small more = absurd (omega arith)

  told : (k v at : ℕ) → (parts : List Capability) × Told k v at parts
  unfolding WordsHeld pcap_of ccap_rows
  told zero v at = ([], record { all = refl; held = tt; bits = sym (mod-one v); words = tt })
  told (suc k) v at = told_more k v (bit k v) at refl (bit_small k v) (told k v)

-- the length that is asked for
fits_only : (s : List ℕ) (at : ℕ) → cap_fits s at ≡ true → lcap s at ≡ 6 + 2 * ones 32 (pcap s at)
unfolding cap_fits
fits_only s at e = by_bool (leb 6 (lcap s at)) (λ t. eqb-true _ _ (rw t at e)) (λ t. absurd (not_true_false (sym (rw t at e))))

-- a segment with CAP's marker and that length is one by the standard
pub cap_only : (s : List ℕ) → ((i : ℕ) → get_or s i 0 < 256) → (at : ℕ) → Within s at → be 2 s at ≡ CAP → cap_fits s at ≡ true
    → (parts : List Capability) × IsCap parts × (take (2 + lcap s at) (drop at s) ≡ segment_bytes (cap_segment parts))
unfolding segment_end widths
cap_only s bytes at within marked fits =
    let (parts, t) = told s bytes 32 (pcap s at) (at + 4 + 4) in
    let n : ℕ = length (ccap_rows parts) in
    let bits : pcap_of parts ≡ pcap s at = t.bits ∙ mod-eq_of_lt (be_bound 4 s (at + 4) bytes) in
    let many : n ≡ ones 32 (pcap s at) = sym (ones_parts parts) ∙ ap₂ ones t.all bits in
    let long : lcap s at ≡ 6 + 2 * n = fits_only s at fits ∙ omega arith in
    let size : widths (cap_rows parts) ≡ 2 + lcap s at = omega (arith, widths_ccap parts) in
    let reads : Reads s bytes at (cap_rows parts) = rw (add_assoc at 2 2) (marked, (long, (sym bits, t.words))) in
    let there = rows_there s bytes at (cap_rows parts) (omega (arith, within.ends)) reads in
    (parts, record { all = t.all; held = t.held }, ap (λ (k : ℕ). take k (drop at s)) (sym size) ∙ there ∙ sym (cap_bytes parts))

-- ---- a main header that has it

-- where segments stand in a codestream, in order
data Stand (s : List ℕ) : List Segment → List ℕ → Type 0 where
  none : Stand s [] []
  one : {g : Segment} {more : List Segment} {places : List ℕ} (front rest : List ℕ) → s ≡ front ++ (segment_bytes g ++ rest) → Stand s more places
      → Stand s (g ∷ more) (length front ∷ places)

-- a piece is passed, and noted where it is CAP
noted : (front : List ℕ) (p : Piece) (ps : List Piece) (rest : List ℕ) → Sound p
    → Stand (front ++ (piece_bytes p ++ rest)) (caps_of ps) (caps_from (front ++ (piece_bytes p ++ rest)) (length front + length (piece_bytes p)))
    → Stand (front ++ (piece_bytes p ++ rest)) (caps_of (p ∷ ps)) (caps_from (front ++ (piece_bytes p ++ rest)) (length front))
unfolding Sound piece_bytes caps_of passing_of
noted front (tlm t) ps rest h w =
    rw (caps_later _ _ _ (piece_passed front (tlm t) rest h) (λ e. omega (arith, tlm_marker front t rest h))) w
noted front (other g) ps rest h w =
    let s : List ℕ = front ++ (segment_bytes g ++ rest) in
    let found = piece_passed front (other g) rest h in
    let read : be 2 s (length front) ≡ g.marker = segment_marker front g rest h.0 in
    by_test (λ (gs : List Segment). Stand s gs (caps_from s (length front))) (eqb g.marker CAP)
    (λ e. rw (caps_here _ _ _ found (read ∙ eqb-true _ _ e)) (one front rest refl w))
    (λ e. rw (caps_later _ _ _ found (λ c. eqb-false _ _ e (sym read ∙ c))) w)

-- each piece in turn, up to the SOT
caps_stand : (front : List ℕ) (ps : List Piece) (rest : List ℕ) → AllSound ps
    → Stand (front ++ (pieces_bytes ps ++ (bytes_of 2 SOT ++ rest))) (caps_of ps) (caps_from (front ++ (pieces_bytes ps ++ (bytes_of 2 SOT ++ rest))) (length front))
unfolding AllSound pieces_bytes caps_of caps_in bytes_of bytes_of_rows widths
caps_stand front [] rest h =
    let s : List ℕ = front ++ (bytes_of 2 SOT ++ rest) in
    let at : ℕ = length front in
    let long : at + 2 ≤ length s = simp length-append (omega arith) in
    let marked : be 2 s at ≡ SOT = be_behind 2 front _ ∙ be_row [] 2 SOT [] rest (omega arith) in
    rw (walk_found s at (walk_sot s at (step_sot s at long marked))) none
caps_stand front (p ∷ ps) rest h =
    let after : List ℕ = pieces_bytes ps ++ (bytes_of 2 SOT ++ rest) in
    rw (append_assoc (piece_bytes p) (pieces_bytes ps) (bytes_of 2 SOT ++ rest))
    (noted front p ps after h.0
    (rw (← append_assoc front (piece_bytes p) after, ← length-append front (piece_bytes p)) (caps_stand (front ++ piece_bytes p) ps rest h.1)))

-- what the walk over a main header meets of CAP are the header's own: SIZ is none
caps_main : (g : Segment) (ps : List Piece) (rest : List ℕ) → IsMain g ps → Stand (up_to_sot g ps rest) (caps_of ps) (caps_from (up_to_sot g ps rest) 2)
unfolding bytes_of pieces_bytes piece_bytes AllSound Sound caps_of
caps_main g ps rest m =
    let own : caps_of (other g ∷ ps) ≡ caps_of ps = rw m.siz in
    rw (split_main g ps (bytes_of 2 SOT ++ rest), ← append_assoc (segment_bytes g) (pieces_bytes ps) _, ← own)
    (caps_stand (bytes_of 2 SOC) (other g ∷ ps) rest ((siz_main m, λ e. omega (arith, m.siz)), m.pieces))

-- bytes 6 and 7 are Rsiz
announced_main : (g : Segment) (ps : List Piece) (rest : List ℕ) → 2 ≤ length g.parameters → announced (up_to_sot g ps rest) ≡ eqb (bit 14 (rsiz g)) 1
unfolding announced bytes_of segment_bytes bytes_of_rows
announced_main g ps rest long =
    let before : List ℕ = bytes_of 2 SOC ++ bytes_of_rows (row 2 g.marker ∷ row 2 (2 + length g.parameters) ∷ []) in
    let read : be 2 (up_to_sot g ps rest) 6 ≡ rsiz g =
    rw (split_main g ps (bytes_of 2 SOT ++ rest)) (be_rest 2 before (g.parameters ++ _) 0 ∙ be_front 2 g.parameters _ 0 long) in
    ap (λ (v : ℕ). eqb (bit 14 v) 1) read

-- the answer by what stands there
stand_none : {s places : List ℕ} → Stand s [] places → places ≡ []
stand_none none = refl

stand_cap : (s places : List ℕ) (h : MainHeaderInfo) (parts : List Capability) → IsCap parts → Stand s (cap_segment parts ∷ []) places
    → capped true s places h ≡ Ok h
stand_cap s places h parts is (one front rest e none) = capped_fits s h (length front) (rw e (cap_standard front parts rest is))

module _ (n : Numbering) (g : Segment) (ps : List Piece) (rest : List ℕ) (m : IsMain g ps) (long : 2 ≤ length g.parameters) where
  -- by bit 14 and what the walk meets
  answered : (h : MainHeaderInfo) → judged_by n (up_to_sot g ps rest) ≡ Ok h → (b : ℕ) → bit 14 (rsiz g) ≡ b
      → judged_as (newer_by n) (up_to_sot g ps rest) ≡ capped (eqb b 1) (up_to_sot g ps rest) (caps_from (up_to_sot g ps rest) 2) h
  answered h judged b e =
      as_newer (newer_by n) (up_to_sot g ps rest) refl h judged
      ∙ ap (λ (wanted : Bool). capped wanted (up_to_sot g ps rest) (caps_from (up_to_sot g ps rest) 2) h) (announced_main g ps rest long ∙ ap (λ (v : ℕ). eqb v 1) e)

  -- with CAP as SIZ announces it, a header is accepted in the newer edition as in the older
  pub newer_standard : Announced g ps → (h : MainHeaderInfo) → judged_by n (up_to_sot g ps rest) ≡ Ok h → judged_as (newer_by n) (up_to_sot g ps rest) ≡ Ok h
  newer_standard (with parts is set caps) h judged = answered h judged 1 set ∙ stand_cap _ _ h parts is (rw caps at (caps_main g ps rest m))
  newer_standard (without clear caps) h judged = answered h judged 0 clear ∙ rw (stand_none (rw caps at (caps_main g ps rest m))) (capped_none _ h)

  -- without the CAP that SIZ announces it is refused
  pub newer_missing : bit 14 (rsiz g) ≡ 1 → caps_of ps ≡ [] → (h : MainHeaderInfo) → judged_by n (up_to_sot g ps rest) ≡ Ok h
      → judged_as (newer_by n) (up_to_sot g ps rest) ≡ Err (refusal CapOutOfPlace 2)
  newer_missing set caps h judged = answered h judged 1 set ∙ rw (stand_none (rw caps at (caps_main g ps rest m))) (capped_missing _ h)
