-- Headers with many entries without an index, of which the edges of 26 are made: two full segments, and one of n entries. Their counts and lengths are
-- had by laws and not by computing.
use Prim.Native.Nat.{ℕ, zero, suc, ◌+◌, ◌*◌, ◌^◌, ◌≤◌, ◌<◌}
use native.Mathlib.Omega.{arith}
use mathlib.Core.Path.{◌≡◌, refl, sym, ap, ◌∙◌}
use mathlib.Core.Bool.{false}
use mathlib.Core.List.{List, [], ◌∷◌, ◌++◌}
use lib.ListN.{length, replicate, length-append, length-replicate}
use lib.Dec.{eqb}
use borrow.Author.Tests.{le-leb}
use Rattle.std.specs.Prelude.{Ok, Err}
use Rattle.numbers.specs.Bytes.{be, bytes_of}
use Rattle.numbers.specs.Rows.{bytes_of_rows}
use Rattle.numbers.proofs.BytesLaws.{length_bytes, be_rest}
use Rattle.numbers.proofs.Rows.{be_behind, be_one}
use Rattle.types.specs.Markers.{SOC, TLM, SOT}
use Rattle.types.specs.Refusals.{refusal}
use Rattle.types.specs.declared.Reason.{Reason}
use Rattle.types.specs.declared.Refusal.{Refusal}
use Rattle.header.specs.Iso.{segment_bytes}
use Rattle.header.specs.IsoTlm.{Pointer, TlmSegment, tlm_rows, Held, TlmRanges, numbered, numbered_on, insert, ordered, iso_table, without_index, InOrder}
use Rattle.header.specs.IsoMain.{Piece, tlm, piece_bytes, pieces_bytes, main_header, Sound, AllSound, IsMain, tables, pointer_count, without}
use Rattle.header.specs.Parse.{judged, judged_by}
use Rattle.header.specs.declared.numbering.Numbering.TheVariants.{CarriedOn, Restarting}
use Rattle.header.specs.Step.{delimits, passing, segment_end}
use Rattle.header.specs.declared.step.Marker.{Marker}
use Rattle.header.specs.Tlm.{Entry, index_size, tlm_at}
use Rattle.header.specs.Walk.{cut_at, tlm_step, walk_step_at, walk_from}
use Rattle.header.specs.Numbering.{entries_by}
use Rattle.header.proofs.StepLaws.{step_no_end, step_segment}
use Rattle.header.proofs.TlmLaws.{tlm_short, tlm_unknown}
use Rattle.header.proofs.WalkLaws.{pass_tlm, walk_segment, walk_cut}
use Rattle.header.proofs.NumberingLaws.{judged_restart}
use Rattle.header.proofs.IsoTlm.{length_tlm}
use Rattle.header.proofs.IsoMain.{up_to_sot, main_standard, carried_main, tlm_carried}
use Rattle.header.proofs.IsoNumbering.{carried_standard, own_carried, own_restarting, past_standard}
use Rattle.laws.proofs.SampleStandard.{siz, A-main, siz_length}
use Rattle.types.specs.declared.Reason.TheVariants.{SegmentPastEnd, TlmTooShort, TlmFormUnknown, TlmTooManyEntries}

-- so many entries of 2 bytes, without an index, in a segment of a Ztlm
abbrev pub entries_of : ℕ → ℕ → TlmSegment
entries_of z n = record { Ztlm = z; ST = 0; SP = 0; pointers = replicate n (record { Ttlm = 0; Ptlm = 14 }) }

abbrev pub entries : ℕ → TlmSegment
entries n = entries_of 0 n

not_equal : eqb 0 0 ≡ false → ⊥
not_equal e = let z : ◌≡◌ {A = ℕ} 0 1 = cc in omega arith

held : (n : ℕ) → Held 0 0 (replicate n (record { Ttlm = 0; Ptlm = 14 }))
unfolding Held
held zero = tt
held (suc n) = ((λ e. absurd (not_equal e), omega arith), held n)

pub count : (n : ℕ) → length (entries n).pointers ≡ n
count n = length-replicate {A = Pointer} n (record { Ttlm = 0; Ptlm = 14 })

pub ranges : (z n : ℕ) → z < 256 → n ≤ 32_765 → TlmRanges (entries_of z n)
ranges z n small h =
    let long = count n in
    record { Ztlm = small; ST = omega arith; SP = omega arith; Ltlm = omega arith; held = held n }

abbrev two_full : ℕ → List Piece
two_full full = tlm (entries full) ∷ tlm (entries full) ∷ []

abbrev pub three : ℕ → ℕ → List Piece
three full n = tlm (entries full) ∷ tlm (entries full) ∷ tlm (entries n) ∷ []

module _ (full n : ℕ) (fits : full ≤ 32_765) (few : n ≤ 32_765) where
  main : IsMain siz (three full n)
  unfolding AllSound Sound
  main = record { siz = A-main.siz; fits = A-main.fits; pieces = (ranges 0 full (omega arith) fits, (ranges 0 full (omega arith) fits, (ranges 0 n (omega arith) few, tt))) }

  -- SOC and SIZ are 45 bytes
  length_before : length (main_header siz (two_full full)) ≡ 57 + 4 * full
  unfolding main_header pieces_bytes piece_bytes
  length_before =
      let one = bytes_of_rows (tlm_rows (entries full)) in
      omega (
        arith,
        length-append (bytes_of 2 SOC) (segment_bytes siz ++ (one ++ (one ++ []))),
        length-append (segment_bytes siz) (one ++ (one ++ [])),
        length-append one (one ++ []),
        length-append one [],
        length_bytes 2 SOC,
        siz_length,
        count full,
        length_tlm (entries full),
      )

  length_pieces : length (main_header siz (three full n)) ≡ 63 + 4 * full + 2 * n
  unfolding main_header pieces_bytes piece_bytes
  length_pieces =
      let one = bytes_of_rows (tlm_rows (entries full)) in
      let last = bytes_of_rows (tlm_rows (entries n)) in
      omega (
        arith,
        length-append (bytes_of 2 SOC) (segment_bytes siz ++ (one ++ (one ++ (last ++ [])))),
        length-append (segment_bytes siz) (one ++ (one ++ (last ++ []))),
        length-append one (one ++ (last ++ [])),
        length-append one (last ++ []),
        length-append last [],
        length_bytes 2 SOC,
        siz_length,
        count full,
        count n,
        length_tlm (entries full),
        length_tlm (entries n),
      )

  short : (tail : List ℕ) → length tail ≤ 8 → length (main_header siz (three full n) ++ tail) ≤ 0xffff_ffff
  short tail h = omega (arith, length-append (main_header siz (three full n)) tail, length_pieces)

  -- a header and the first tile-part's SOT: the walk accepts it, and so does either numbering, if the numbers do not pass
  walked : judged (up_to_sot siz (three full n) []) ≡ Ok (record {
    first_sot_offset = record { 0 = 63 + 4 * full + 2 * n };
    decode_header_length = 45;
    tlm_entries = full + (full + n);
    fillers = 0;
  })
  unfolding bytes_of without main_header pieces_bytes tables pointer_count
  walked =
      let header : length (main_header siz []) ≡ 45 = omega (arith, length-append (bytes_of 2 SOC) (segment_bytes siz ++ []), length-append (segment_bytes siz) [], length_bytes 2 SOC, siz_length) in
      let many : pointer_count (tables (three full n)) ≡ full + (full + n) = omega (arith, count full, count n) in
      main_standard siz (three full n) [] main (short (bytes_of 2 SOT ++ []) (omega arith))
      ∙ (λ i. Ok (record { first_sot_offset = record { 0 = length_pieces i }; decode_header_length = header i; tlm_entries = many i; fillers = 0 }))

  pub restarting : judged_by Restarting (up_to_sot siz (three full n) []) ≡ Ok (record {
    first_sot_offset = record { 0 = 63 + 4 * full + 2 * n };
    decode_header_length = 45;
    tlm_entries = full + (full + n);
    fillers = 0;
  })
  restarting = judged_restart (up_to_sot siz (three full n) []) ∙ walked

  pub carried : full + (full + n) ≤ 65_535 → judged_by CarriedOn (up_to_sot siz (three full n) []) ≡ Ok (record {
    first_sot_offset = record { 0 = 63 + 4 * full + 2 * n };
    decode_header_length = 45;
    tlm_entries = full + (full + n);
    fillers = 0;
  })
  unfolding tables without_index
  carried h = carried_standard siz (three full n) [] main (omega (arith, count full, count n)) ∙ walked

  -- they pass in the third segment, whatever stands behind it
  pub past : full + full ≤ 65_535 → 65_535 < full + full + n → (tail : List ℕ) → length tail ≤ 8
      → judged_by CarriedOn (main_header siz (three full n) ++ tail) ≡ Err (refusal TlmTooManyEntries (57 + 4 * full))
  unfolding tables without_index
  past h many tail little =
      past_standard siz (two_full full) (entries n) [] tail main (short tail little) (omega (arith, count full)) refl (omega (arith, count full, count n))
      ∙ (λ i. Err (refusal TlmTooManyEntries (length_before i)))

  -- what the walk refuses behind the three
  module _ (tail : List ℕ) (little : length tail ≤ 8) (reason : Reason)
      (found : (front : List ℕ) → walk_step_at (front ++ tail) (length front) ≡ Err (refusal reason (length front))) where
    pub own_restarts : judged_by Restarting (main_header siz (three full n) ++ tail) ≡ Err (refusal reason (63 + 4 * full + 2 * n))
    own_restarts =
        own_restarting siz (three full n) tail main (short tail little) (refusal reason (length (main_header siz (three full n)))) (found (main_header siz (three full n)))
        ∙ (λ i. Err (refusal reason (length_pieces i)))

    pub own_carries : full + (full + n) ≤ 65_535 → judged_by CarriedOn (main_header siz (three full n) ++ tail) ≡ Err (refusal reason (63 + 4 * full + 2 * n))
    unfolding tables without_index
    own_carries h =
        own_carried siz (three full n) tail main (short tail little) (refusal reason (length (main_header siz (three full n)))) (found (main_header siz (three full n))) (omega (arith, count full, count n))
        ∙ (λ i. Err (refusal reason (length_pieces i)))

-- ---- what the walk refuses at its next marker

-- a COM of which only marker and length are there; TLM with Ltlm 3, and with ST 3
abbrev pub cut : List ℕ
cut = 0xff ∷ 0x64 ∷ 0 ∷ 4 ∷ []

abbrev pub ltlm_3 : List ℕ
ltlm_3 = 0xff ∷ 0x55 ∷ 0 ∷ 3 ∷ 0 ∷ []

abbrev pub st_3 : List ℕ
st_3 = 0xff ∷ 0x55 ∷ 0 ∷ 4 ∷ 0 ∷ 0x30 ∷ []

-- none: a segment of one more entry without an index
abbrev pub one_more : List ℕ
one_more = 0xff ∷ 0x55 ∷ 0 ∷ 6 ∷ 0 ∷ 0 ∷ 0 ∷ 14 ∷ []

module _ (front : List ℕ) where
  pub cut_there : walk_step_at (front ++ cut) (length front) ≡ Err (refusal SegmentPastEnd (length front))
  unfolding delimits segment_end be cut_at
  cut_there =
      let s : List ℕ = front ++ cut in
      let long : length s ≡ length front + 4 = length-append front cut in
      let marker : be 2 s (length front) ≡ 0xff64 = be_behind 2 front cut in
      let size : be 2 s (length front + 2) ≡ 4 = be_rest 2 front cut 2 in
      walk_cut s (length front)
      (step_no_end s (length front) (omega arith) (λ e. omega arith) (rw marker) (omega arith) (omega arith))
      ∙ rw (le-leb (length front + 2) (length s) (omega arith))

  -- a TLM segment that stands whole is refused as it refuses itself
  whole_tlm : (tail : List ℕ) → be 2 tail 0 ≡ TLM → 2 + be 2 tail 2 ≡ length tail → 4 ≤ length tail → (r : Refusal) → tlm_at (front ++ tail) (length front) ≡ Err r
      → walk_step_at (front ++ tail) (length front) ≡ Err r
  unfolding delimits segment_end tlm_step
  whole_tlm tail is ends four r found =
      let s : List ℕ = front ++ tail in
      let long : length s ≡ length front + length tail = length-append front tail in
      let marker : be 2 s (length front) ≡ TLM = be_behind 2 front tail ∙ is in
      let size : be 2 s (length front + 2) ≡ be 2 tail 2 = be_rest 2 front tail 2 in
      let m : Marker = passing (be 2 s (length front)) (segment_end s (length front)) in
      walk_segment s (length front) m (step_segment s (length front) (omega arith) (λ e. omega arith) (rw marker) (omega arith) (omega arith))
      ∙ pass_tlm s (length front) m marker
      ∙ ap (tlm_step m) found

  pub ltlm_3_there : walk_step_at (front ++ ltlm_3) (length front) ≡ Err (refusal TlmTooShort (length front))
  unfolding be
  ltlm_3_there =
      whole_tlm ltlm_3 refl refl (omega arith) (refusal TlmTooShort (length front)) (tlm_short (front ++ ltlm_3) (length front) (omega (arith, be_rest 2 front ltlm_3 2)))

  pub st_3_there : walk_step_at (front ++ st_3) (length front) ≡ Err (refusal TlmFormUnknown (length front))
  unfolding be
  st_3_there =
      whole_tlm st_3 refl refl (omega arith) (refusal TlmFormUnknown (length front))
      (tlm_unknown (front ++ st_3) (length front) (omega (arith, be_rest 2 front st_3 2)) (ap index_size (sym (be_one (front ++ st_3) (length front + 5)) ∙ be_rest 1 front st_3 5)))

-- ---- the standard's table of two segments

-- two lengths without an index
abbrev pub half : ℕ → ℕ → ℕ → TlmSegment
half z a b = record { Ztlm = z; ST = 0; SP = 0; pointers = record { Ttlm = 0; Ptlm = a } ∷ record { Ttlm = 0; Ptlm = b } ∷ [] }

abbrev of : ℕ → ℕ → Entry
of index bytes = record { index = index; bytes = bytes }

half_held : (a b : ℕ) → a < 256 ^ 2 → b < 256 ^ 2 → Held 0 0 (record { Ttlm = 0; Ptlm = a } ∷ record { Ttlm = 0; Ptlm = b } ∷ [])
unfolding Held
half_held a b h k = ((λ e. absurd (not_equal e), h), ((λ e. absurd (not_equal e), k), tt))

module _ (z y : ℕ) (small : z < 256) (little : y < 256) where
  halves : IsMain siz (tlm (half z 20 30) ∷ tlm (half y 40 50) ∷ [])
  unfolding AllSound Sound
  halves =
      record {
        siz = A-main.siz;
        fits = A-main.fits;
        pieces = (
          record { Ztlm = small; ST = omega arith; SP = omega arith; Ltlm = omega arith; held = half_held 20 30 (omega arith) (omega arith) },
          (record { Ztlm = little; ST = omega arith; SP = omega arith; Ltlm = omega arith; held = half_held 40 50 (omega arith) (omega arith) }, tt),
        );
      }

  -- carried on in file order
  pub halves_carried : (rest : List ℕ)
      → let s = up_to_sot siz (tlm (half z 20 30) ∷ tlm (half y 40 50) ∷ []) rest in
      entries_by CarriedOn s 0 (walk_from s 2).visits ≡ of 0 20 ∷ of 1 30 ∷ of 2 40 ∷ of 3 50 ∷ []
  unfolding tables numbered_on numbered
  halves_carried rest = carried_main siz (tlm (half z 20 30) ∷ tlm (half y 40 50) ∷ []) rest halves

-- the standard's, where Ztlm rises: the same, as the law says
pub halves_ordered : (rest : List ℕ)
    → let s = up_to_sot siz (tlm (half 0 20 30) ∷ tlm (half 1 40 50) ∷ []) rest in
    entries_by CarriedOn s 0 (walk_from s 2).visits ≡ iso_table (half 0 20 30 ∷ half 1 40 50 ∷ [])
unfolding tables InOrder
halves_ordered rest = tlm_carried siz (tlm (half 0 20 30) ∷ tlm (half 1 40 50) ∷ []) rest (halves 0 1 (omega arith) (omega arith)) (omega arith, tt)

-- where it falls: another
pub halves_turned : iso_table (half 1 20 30 ∷ half 0 40 50 ∷ []) ≡ of 0 40 ∷ of 1 50 ∷ of 2 20 ∷ of 3 30 ∷ []
unfolding iso_table ordered insert numbered_on numbered
halves_turned = refl
