-- Length tables with many entries without an index, of which the check's edges of 26 are made: the first segment in the file is the last in the order of Ztlm,
-- behind two full ones. Counts and places are had by laws and not by computing.
use Prim.Native.Nat.{ℕ, ◌+◌, ◌*◌, ◌≤◌, ◌<◌}
use native.Mathlib.Omega.{arith}
use mathlib.Core.Path.{◌≡◌, refl, sym, ap, ◌∙◌}
use mathlib.Core.List.{List, [], ◌∷◌, ◌++◌, map}
use lib.ListN.{length, length-append}
use lib.Seq.{take-length}
use borrow.Author.Tests.{eq-eqb, le-leb, lt-leb}
use Rattle.std.specs.Prelude.{Err}
use Rattle.numbers.specs.Bytes.{be, bytes_of}
use Rattle.numbers.specs.Rows.{bytes_of_rows}
use Rattle.numbers.proofs.BytesLaws.{length_bytes, be_bytes_of, be_front}
use Rattle.numbers.proofs.Rows.{be_behind}
use Rattle.types.specs.Markers.{SOC, SOT}
use Rattle.types.specs.Refusals.{refusal}
use Rattle.chain.specs.Chain.{Visit}
use Rattle.header.specs.Tlm.{unindexed}
use Rattle.header.specs.Walk.{at_first_sot, refused, walk_from}
use Rattle.header.specs.Numbering.{next_number, ended_by}
use Rattle.header.specs.declared.numbering.Numbering.TheVariants.{CarriedOn}
use Rattle.header.specs.Iso.{segment_bytes}
use Rattle.header.specs.IsoTlm.{tlm_rows, without_index}
use Rattle.header.specs.IsoMain.{Piece, tlm, other, piece_bytes, pieces_bytes, main_header, Sound, AllSound, IsMain, tables}
use Rattle.header.proofs.ParseLaws.{judged_sound}
use Rattle.header.proofs.IsoTlm.{length_tlm}
use Rattle.header.proofs.IsoMain.{up_to_sot, front_main, ended_main}
use Rattle.parts.proofs.ScanLaws.{step_short, sot_no_eoc, scan_refused}
use Rattle.lengths.specs.Segments.{tlms_of, is_in, once, insert, ordered}
use Rattle.lengths.specs.Check.{behind_scan, behind_table, behind_header, checked}
use Rattle.lengths.specs.Iso.{Apart, Distinct}
use Rattle.lengths.proofs.CheckLaws.{behind_sound, repeat_refuses, order_accepts}
use Rattle.lengths.proofs.IsoListed.{Met, none, next, stands_from, main_met, main_places, once_standard}
use Rattle.lengths.proofs.IsoCheck.{check_standard}
use Rattle.laws.proofs.SampleStandard.{siz, A-main, siz_length}
use Rattle.laws.proofs.SampleNumbering.{entries_of, count, ranges}
use Rattle.types.specs.declared.Reason.TheVariants.{TilePartCutShort, TlmTooManyEntries, TlmNumberRepeated}

-- segments of these Ztlm: n entries, then two full ones
abbrev pub segments : ℕ → ℕ → ℕ → ℕ → ℕ → List Piece
segments z y x full n = tlm (entries_of z n) ∷ tlm (entries_of y full) ∷ tlm (entries_of x full) ∷ []

module _ (z y x full n : ℕ) (hz : z < 256) (hy : y < 256) (hx : x < 256) (fits : full ≤ 32_765) (few : n ≤ 32_765) where
  main : IsMain siz (segments z y x full n)
  unfolding AllSound Sound
  main = record { siz = A-main.siz; fits = A-main.fits; pieces = (ranges z n hz few, (ranges y full hy fits, (ranges x full hx fits, tt))) }

  -- SOC and SIZ are 45 bytes
  pub length_header : length (main_header siz (segments z y x full n)) ≡ 63 + 4 * full + 2 * n
  unfolding main_header pieces_bytes piece_bytes
  length_header =
      let a = bytes_of_rows (tlm_rows (entries_of z n)) in
      let b = bytes_of_rows (tlm_rows (entries_of y full)) in
      let c = bytes_of_rows (tlm_rows (entries_of x full)) in
      omega (
        arith,
        length-append (bytes_of 2 SOC) (segment_bytes siz ++ (a ++ (b ++ (c ++ [])))),
        length-append (segment_bytes siz) (a ++ (b ++ (c ++ []))),
        length-append a (b ++ (c ++ [])),
        length-append b (c ++ []),
        length-append c [],
        length_bytes 2 SOC,
        siz_length,
        count full,
        count n,
        length_tlm (entries_of z n),
        length_tlm (entries_of y full),
        length_tlm (entries_of x full),
      )

  -- the header, and of the first tile-part its marker alone
  abbrev s : List ℕ
  s = up_to_sot siz (segments z y x full n) []

  pub long : length s ≡ 65 + 4 * full + 2 * n
  long =
      omega (
        arith,
        length-append (main_header siz (segments z y x full n)) (bytes_of 2 SOT ++ []),
        length-append (bytes_of 2 SOT) [],
        length_bytes 2 SOT,
        length_header,
      )

  short : length s ≤ 0xffff_ffff
  short = omega (arith, long)

  whole : checked s (length s) ≡ behind_sound s s
  unfolding checked
  whole = rw (take-length s) (ap (behind_header s s) (judged_sound s (front_main siz (segments z y x full n) (bytes_of 2 SOT ++ []) main short)))

  ends : (walk_from s 2).ended ≡ at_first_sot
  ends = ended_main siz (segments z y x full n) [] main

  -- where the segments stand
  at_45 : (vs : List Visit) → map (λ v. v.at) vs ≡ stands_from 2 (other siz ∷ segments z y x full n) → (v : Visit) (rest : List Visit) → vs ≡ v ∷ rest → v.at ≡ 45
  unfolding stands_from piece_bytes
  at_45 vs there v rest is =
      let first : map (λ v. v.at) (v ∷ rest) ≡ stands_from 2 (other siz ∷ segments z y x full n) = ap (map (λ v. v.at)) (sym is) ∙ there in
      let head : v.at ≡ 2 + length (segment_bytes siz) = cc in
      omega (arith, siz_length)

  -- ---- the numbers pass in the last one of the order, which is the file's first

  module _ (last : x < z) (middle : y < x) where
    passing : (vs : List Visit) → Met s vs (tables (segments z y x full n)) → map (λ v. v.at) vs ≡ stands_from 2 (other siz ∷ segments z y x full n)
        → full + full ≤ 65_535 → 65_535 < full + full + n → ended_by CarriedOn s 0 (ordered s vs) at_first_sot ≡ refused (refusal TlmTooManyEntries 45)
    unfolding tables ordered insert ended_by next_number
    passing vs (next {v = v} a (next {v = u} b (next {v = w} c none))) there h many =
        let ua : unindexed s v.at ≡ n = a.many ∙ count n in
        let ub : unindexed s u.at ≡ full = b.many ∙ count full in
        let uc : unindexed s w.at ≡ full = c.many ∙ count full in
        let two : insert s u (w ∷ []) ≡ u ∷ w ∷ [] = rw (b.number, c.number, le-leb y x (omega arith)) in
        let three : insert s v (u ∷ w ∷ []) ≡ u ∷ w ∷ v ∷ [] = rw (a.number, b.number, lt-leb z y (omega arith), c.number, lt-leb z x (omega arith)) in
        ap (λ (l : List Visit). ended_by CarriedOn s 0 l at_first_sot) (ap (insert s v) two ∙ three)
        ∙ rw (b.is, ub, le-leb (0 + full) 65_535 (omega arith))
        (rw (c.is, uc, le-leb (0 + full + full) 65_535 (omega arith))
        (rw (a.is, ua, lt-leb (0 + full + full + n) 65_535 (omega arith))
        (ap (λ (p : ℕ). refused (refusal TlmTooManyEntries p)) (at_45 vs there v (u ∷ w ∷ []) refl))))

    apart : Distinct (tables (segments z y x full n))
    unfolding Distinct Apart tables
    apart = ((λ e. omega arith, (λ e. omega arith, tt)), ((λ e. omega arith, tt), (tt, tt)))

    -- 26 there, and not 7 where the tile-part is cut
    pub check_past : full + full ≤ 65_535 → 65_535 < full + full + n → checked s (length s) ≡ Err (refusal TlmTooManyEntries 45)
    unfolding behind_table
    check_past h many =
        whole
        ∙ order_accepts s s ends (once_standard siz (segments z y x full n) [] main apart)
        ∙ rw (passing (tlms_of s) (main_met siz (segments z y x full n) [] main) (main_places siz (segments z y x full n) [] main) h many)

    -- with few enough it is 7
    pub check_fits : full + full + n ≤ 65_535 → checked s (length s) ≡ Err (refusal TilePartCutShort (63 + 4 * full + 2 * n))
    unfolding tables without_index behind_scan
    check_fits few =
        let at : ℕ = length (main_header siz (segments z y x full n)) in
        let there = length_header in
        let all = long in
        let marker : be 2 s at ≡ SOT =
        be_behind 2 (main_header siz (segments z y x full n)) (bytes_of 2 SOT ++ []) ∙ be_front 2 (bytes_of 2 SOT) [] 0 (omega (arith, length_bytes 2 SOT)) ∙ be_bytes_of 2 SOT (omega arith) in
        check_standard siz (segments z y x full n) [] main short apart (omega (arith, count full, count n))
        ∙ rw (scan_refused s at _ (step_short s at (omega arith) (sot_no_eoc s at marker) (omega arith)))
        (ap (λ (p : ℕ). Err (refusal TilePartCutShort p)) length_header)

  -- ---- two of the same Ztlm: 32 at the second, and not 26

  repeating : z ≡ y → (vs : List Visit) → Met s vs (tables (segments z y x full n)) → map (λ v. v.at) vs ≡ stands_from 2 (other siz ∷ segments z y x full n)
      → once s [] vs ≡ refused (refusal TlmNumberRepeated (51 + 2 * n))
  unfolding tables once is_in stands_from piece_bytes
  repeating same vs (next {v = v} a (next {v = u} b more)) there =
      let second : u.at ≡ 2 + length (segment_bytes siz) + length (bytes_of_rows (tlm_rows (entries_of z n))) = cc in
      rw (a.number, b.number, eq-eqb y z (sym same))
      (ap (λ (p : ℕ). refused (refusal TlmNumberRepeated p)) (omega (arith, siz_length, count n, length_tlm (entries_of z n))))

  pub check_repeated : z ≡ y → checked s (length s) ≡ Err (refusal TlmNumberRepeated (51 + 2 * n))
  check_repeated same =
      whole ∙ repeat_refuses s s _ ends (repeating same (tlms_of s) (main_met siz (segments z y x full n) [] main) (main_places siz (segments z y x full n) [] main))
