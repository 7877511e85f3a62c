-- A TLM segment by the standard, anywhere in a codestream, is passed whole and read entry by entry: each row stands where the rows before it end.
-- Segments in the order of Ztlm make the standard's table where the numbers are carried on; all with indices, and a single one, make it also where they
-- restart.
use Prim.Native.Nat.{ℕ, ◌+◌, ◌*◌, ◌^◌, ◌<◌}
use native.Mathlib.Nat.{add-zero, add_assoc, zero-mul, suc-mul, add-mul, add-sub_cancel_left, mul-div_cancel}
use native.Mathlib.Omega.{arith}
use mathlib.Core.Path.{◌≡◌, refl, sym, ap, ap₂, ◌∙◌}
use mathlib.Core.Bool.{Bool, true, false, cond}
use mathlib.Core.List.{List, [], ◌∷◌, ◌++◌, append_assoc}
use lib.ListN.{length, take, length-append}
use lib.Dec.{eqb}
use borrow.Author.Tests.{le-leb, ne_eqb}
use Rattle.std.specs.Prelude.{Ok}
use Rattle.numbers.specs.Bytes.{be}
use Rattle.numbers.specs.Rows.{row, bytes_of_rows, widths}
use Rattle.numbers.proofs.BytesLaws.{be_rest}
use Rattle.numbers.proofs.Rows.{length_rows, be_row, be_behind, be_one}
use Rattle.types.specs.Markers.{TLM}
use Rattle.header.specs.Step.{delimits, high_ff, segment_end, step_at}
use Rattle.header.specs.Tlm.{ltlm, stlm, index_size, length_size, entry_count, tlm_at, entry_in, entries_in, unindexed, entry_on, entries_on}
use Rattle.header.specs.IsoTlm.{Pointer, TlmSegment, pointer_width, pointer_rows, tlm_rows, Held, TlmRanges, numbered, numbered_on, insert, ordered, iso_table, restarted, InOrder, AllIndexed}
use Rattle.header.specs.declared.step.HeaderStep.TheVariants.{Segment}
use Rattle.header.proofs.StepLaws.{step_segment}
use Rattle.header.proofs.TlmLaws as tlms

-- ---- a segment's entries

widths_pointers : (ST SP : ℕ) (ps : List Pointer) → widths (pointer_rows ST SP ps) ≡ length ps * (ST + pointer_width SP)
unfolding pointer_rows widths
widths_pointers ST SP [] = sym (zero-mul _)
widths_pointers ST SP (p ∷ more) = omega (arith, widths_pointers ST SP more, suc-mul (length more) (ST + pointer_width SP))

-- the first entry's index, and its length
module _ (front : List ℕ) (ST SP : ℕ) (p : Pointer) (more : List Pointer) (rest : List ℕ) where
  index_read : p.Ttlm < 256 ^ ST → be ST (front ++ (bytes_of_rows (pointer_rows ST SP (p ∷ more)) ++ rest)) (length front) ≡ p.Ttlm
  unfolding pointer_rows widths
  index_read h = be_behind ST front _ ∙ be_row [] ST p.Ttlm _ rest h

  length_read : p.Ptlm < 256 ^ pointer_width SP → be (pointer_width SP) (front ++ (bytes_of_rows (pointer_rows ST SP (p ∷ more)) ++ rest)) (length front + ST) ≡ p.Ptlm
  unfolding pointer_rows widths
  length_read h = be_rest (pointer_width SP) front _ ST ∙ rw add-zero at (be_row (row ST p.Ttlm ∷ []) (pointer_width SP) p.Ptlm (pointer_rows ST SP more) rest h)

same_choice : (b : Bool) (x : ℕ) {y z : ℕ} → (b ≡ false → y ≡ z) → cond b x y ≡ cond b x z
same_choice true x e = refl
same_choice false x e = e refl

-- the entries whose rows stand where the i-th has its place
module _ (s : List ℕ) (at ST SP : ℕ) (narrow : index_size (stlm s at) ≡ ST) (wide : length_size (stlm s at) ≡ pointer_width SP) where
  entries_rows : (front : List ℕ) (k i : ℕ) (ps : List Pointer) (rest : List ℕ) → s ≡ front ++ (bytes_of_rows (pointer_rows ST SP ps) ++ rest)
      → length front ≡ at + 6 + i * (ST + pointer_width SP) → Held ST SP ps → entries_on s at k i (length ps) ≡ numbered ST (k + i) ps
  unfolding entries_on entry_on entry_in numbered pointer_rows bytes_of_rows widths Held
  entries_rows front k i [] rest whole place h = refl
  entries_rows front k i (p ∷ more) rest whole place h =
      let index : (entry_on s at k i).index ≡ cond (eqb ST 0) (k + i) p.Ttlm =
      rw (narrow, wide, whole, ← place) (same_choice (eqb ST 0) (k + i) (λ e. rw e (index_read front ST SP p more rest (h.0.0 e)))) in
      let bytes : (entry_on s at k i).bytes ≡ p.Ptlm = rw (narrow, wide, whole, ← place) (length_read front ST SP p more rest h.0.1) in
      let passed : List ℕ = front ++ bytes_of_rows (row ST p.Ttlm ∷ row (pointer_width SP) p.Ptlm ∷ []) in
      let next : length passed ≡ at + 6 + (i + 1) * (ST + pointer_width SP) =
      rw (length-append, length_rows) (omega (arith, add-mul i 1 (ST + pointer_width SP))) in
      ap₂ ◌∷◌ (λ j. record { index = index j; bytes = bytes j })
      (entries_rows passed k (i + 1) more rest (whole ∙ simp append_assoc) next h.1 ∙ ap (λ (m : ℕ). numbered ST m more) (sym (add_assoc k i 1)))

-- ---- a segment

pub length_tlm : (t : TlmSegment) → length (bytes_of_rows (tlm_rows t)) ≡ 6 + length t.pointers * (t.ST + pointer_width t.SP)
unfolding tlm_rows widths
length_tlm t = length_rows (tlm_rows t) ∙ omega (arith, widths_pointers t.ST t.SP t.pointers)

module _ (front : List ℕ) (t : TlmSegment) (rest : List ℕ) (r : TlmRanges t) where
  pub tlm_marker : be 2 (front ++ (bytes_of_rows (tlm_rows t) ++ rest)) (length front) ≡ TLM
  unfolding tlm_rows widths
  tlm_marker = be_behind 2 front _ ∙ be_row [] 2 TLM _ rest (omega arith)

  -- Ltlm, and Stlm taken apart
  length_field : ltlm (front ++ (bytes_of_rows (tlm_rows t) ++ rest)) (length front) ≡ 4 + length t.pointers * (t.ST + pointer_width t.SP)
  unfolding tlm_rows widths
  length_field = be_rest 2 front _ 2 ∙ be_row (take 1 (tlm_rows t)) 2 _ _ rest r.Ltlm

  sizes_field : stlm (front ++ (bytes_of_rows (tlm_rows t) ++ rest)) (length front) ≡ 64 * t.SP + 16 * t.ST
  unfolding tlm_rows widths
  sizes_field = sym (be_one _ _) ∙ be_rest 1 front _ 5 ∙ be_row (take 3 (tlm_rows t)) 1 _ _ rest (omega arith)

  narrow : index_size (stlm (front ++ (bytes_of_rows (tlm_rows t) ++ rest)) (length front)) ≡ t.ST
  narrow = omega (arith, sizes_field)

  wide : length_size (stlm (front ++ (bytes_of_rows (tlm_rows t) ++ rest)) (length front)) ≡ pointer_width t.SP
  wide = omega (arith, sizes_field)

  -- it is passed whole
  pub tlm_step_lem : step_at (front ++ (bytes_of_rows (tlm_rows t) ++ rest)) (length front)
      ≡ Segment (record { code = TLM; high_ff = true; next = length front + length (bytes_of_rows (tlm_rows t)) })
  unfolding delimits high_ff segment_end
  tlm_step_lem =
      let s : List ℕ = front ++ (bytes_of_rows (tlm_rows t) ++ rest) in
      let size = length_tlm t in
      let whole : length s ≡ length front + (length (bytes_of_rows (tlm_rows t)) + length rest) = simp length-append in
      let ends : segment_end s (length front) ≡ length front + length (bytes_of_rows (tlm_rows t)) = omega (arith, length_field) in
      step_segment s (length front) (omega arith) (λ e. omega (arith, tlm_marker)) (ap delimits tlm_marker) (omega arith) (omega arith)
      ∙ (λ i. Segment (record { code = tlm_marker i; high_ff = high_ff (tlm_marker i); next = ends i }))

  -- it is accepted, and read entry by entry
  pub tlm_count : entry_count (front ++ (bytes_of_rows (tlm_rows t) ++ rest)) (length front) ≡ length t.pointers
  unfolding entry_count
  tlm_count = rw (length_field, narrow, wide, add-sub_cancel_left 4) (mul-div_cancel (length t.pointers) (omega arith))

  pub tlm_read : tlm_at (front ++ (bytes_of_rows (tlm_rows t) ++ rest)) (length front) ≡ Ok (length t.pointers)
  tlm_read = tlms.tlm_entries_lem _ _ (omega (arith, length_field)) (λ e. omega (arith, narrow)) ∙ ap Ok tlm_count

  pub tlm_numbered : (k : ℕ) → entries_on (front ++ (bytes_of_rows (tlm_rows t) ++ rest)) (length front) k 0 (length t.pointers) ≡ numbered t.ST k t.pointers
  unfolding tlm_rows bytes_of_rows widths
  tlm_numbered k =
      let head : List ℕ = front ++ bytes_of_rows (take 4 (tlm_rows t)) in
      entries_rows _ (length front) t.ST t.SP narrow wide head k 0 t.pointers rest (simp append_assoc) (rw (length-append, length_rows) (omega arith)) r.held
      ∙ ap (λ (m : ℕ). numbered t.ST m t.pointers) (add-zero k)

  pub tlm_entries_lem : entries_in (front ++ (bytes_of_rows (tlm_rows t) ++ rest)) (length front) 0 (length t.pointers) ≡ numbered t.ST 0 t.pointers
  tlm_entries_lem = sym (tlms.entries_from_0 _ _ _ _) ∙ tlm_numbered 0

  pub tlm_unindexed : unindexed (front ++ (bytes_of_rows (tlm_rows t) ++ rest)) (length front) ≡ cond (eqb t.ST 0) (length t.pointers) 0
  unfolding unindexed
  tlm_unindexed = rw (narrow, tlm_count)

-- ---- the table

ordered_same : (ts : List TlmSegment) → InOrder ts → ordered ts ≡ ts
unfolding ordered insert InOrder
ordered_same [] o = refl
ordered_same (t ∷ []) o = refl
ordered_same (t ∷ u ∷ more) o = ap (insert t) (ordered_same (u ∷ more) o.1) ∙ rw (le-leb _ _ o.0)

-- Carried on in file order it is the standard's, for segments in the order of Ztlm.
pub carried_ordered : (ts : List TlmSegment) → InOrder ts → numbered_on 0 ts ≡ iso_table ts
unfolding iso_table
carried_ordered ts o = ap (numbered_on 0) (sym (ordered_same ts o))

-- with an index, the numbering is not looked at
numbered_indexed : (ST k n : ℕ) (ps : List Pointer) → (ST ≡ 0 → ⊥) → numbered ST k ps ≡ numbered ST n ps
unfolding numbered
numbered_indexed ST k n [] h = refl
numbered_indexed ST k n (p ∷ more) h = rw (ne_eqb ST 0 h, numbered_indexed ST (k + 1) (n + 1) more h)

on_indexed : (k : ℕ) (ts : List TlmSegment) → AllIndexed ts → restarted ts ≡ numbered_on k ts
unfolding restarted numbered_on AllIndexed
on_indexed k [] a = refl
on_indexed k (t ∷ more) a = ap₂ ◌++◌ (numbered_indexed t.ST 0 k t.pointers a.0) (on_indexed (cond (eqb t.ST 0) (k + length t.pointers) k) more a.1)

-- Restarting it is the standard's for indexed segments in the order of Ztlm, and for a single segment.
pub restarted_indexed : (ts : List TlmSegment) → InOrder ts → AllIndexed ts → restarted ts ≡ iso_table ts
unfolding iso_table
restarted_indexed ts o a = on_indexed 0 ts a ∙ ap (numbered_on 0) (sym (ordered_same ts o))

pub restarted_single : (t : TlmSegment) → restarted (t ∷ []) ≡ iso_table (t ∷ [])
unfolding restarted iso_table ordered insert numbered_on
restarted_single t = refl
