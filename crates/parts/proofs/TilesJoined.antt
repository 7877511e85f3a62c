-- One tile's parts, joined and split again, are those same parts: each begins with SOT and has its length in Psot, or Psot 0 and is the last.
use Prim.Native.Nat.{ℕ, ◌+◌, ◌-◌, ◌≤◌}
use native.Mathlib.Nat.{add-zero}
use native.Mathlib.Omega.{arith}
use mathlib.Core.Path.{◌≡◌, refl, sym, ap, ap₂, ◌∙◌}
use mathlib.Core.Logic.{◌⊎◌, inl, inr, ⊎_elim}
use mathlib.Core.List.{List, [], ◌∷◌, ◌++◌, map, append_assoc, append-nil}
use lib.ListN.{length, take, drop, length-append, length-take, length-drop}
use lib.Seq.{drop-append_seam, take_at}
use lib.Dec.{eqb}
use Rattle.std.specs.Prelude.{Some}
use Rattle.numbers.specs.Bytes.{be}
use Rattle.numbers.proofs.BytesLaws.{be_rest, be_front, be_part}
use Rattle.types.specs.Markers.{SOT}
use Rattle.types.specs.declared.TilePartEntry.{TilePartEntry}
use Rattle.chain.specs.Chain.{on, Visit, Run, stay, step}
use Rattle.chain.proofs.ChainLaws.{chain_run}
use Rattle.parts.specs.Sot.{psot}
use Rattle.parts.specs.Scan.{ended, move_at, recorded, scan_from, entries_from}
use Rattle.parts.specs.Split.{split_step_at, parts_from, parts_of}
use Rattle.parts.specs.Tiles.{of_tile, bytes_at, joined, AllLong}
use Rattle.numbers.proofs.Choice.{by_test}
use Rattle.parts.proofs.ScanLaws.{Stands, move_passed, rises}
use Rattle.parts.proofs.SplitLaws.{step_few, step_part, end_rest, end_psot, parts_on, parts_ended}

-- ---- what a scan's entries of one tile are

-- Psot is the length, or it is 0 in the last
abbrev pub Ends : List ℕ → TilePartEntry → List TilePartEntry → Type 0
Ends s e rest = (psot s e.offset.0 ≡ e.length) ⊎ ((psot s e.offset.0 ≡ 0) × (rest ≡ []))

pub data Parts (s : List ℕ) : List TilePartEntry → Type 0 where
  none : Parts s []
  more : {e : TilePartEntry} {rest : List TilePartEntry} → Stands s e.offset.0 e → Ends s e rest → Parts s rest → Parts s (e ∷ rest)

-- at the end of the codestream the scan goes no further
at_end : (s : List ℕ) {at stop : ℕ} {visits : List Visit} → at ≡ length s → Run (move_at s) at visits stop → visits ≡ []
at_end s e stay = refl
at_end s e (step {at = at} {next = next} found past rest) = let p = move_passed s at next found in absurd (omega arith)

one_more : (s : List ℕ) (t at : ℕ) {next stop : ℕ} {visits : List Visit} → move_at s at ≡ on next → Run (move_at s) next visits stop
    → Parts s (of_tile t (map (recorded s) visits)) → Parts s (of_tile t (map (recorded s) (record { at = at; next = next } ∷ visits)))
unfolding of_tile
one_more s t at {next} {stop} {visits} found rest parts =
    let p = move_passed s at next found in
    let e : TilePartEntry = recorded s (record { at = at; next = next }) in
    let tail : List TilePartEntry = of_tile t (map (recorded s) visits) in
    let gone : next ≡ lib.ListN.length s → tail ≡ [] = λ h. ap (λ (vs : List Visit). of_tile t (map (recorded s) vs)) (at_end s h rest) in
    let ends : Ends s e tail = ⊎_elim (λ l. inl l) (λ z. inr (z.0, gone (omega (arith, z.1)))) p.stands.long in
    by_test (Parts s) (eqb e.tile_index t) (λ _. more p.stands ends parts) (λ _. parts)

run_parts : (s : List ℕ) (t : ℕ) {at stop : ℕ} {visits : List Visit} → Run (move_at s) at visits stop → Parts s (of_tile t (map (recorded s) visits))
unfolding of_tile
run_parts s t stay = none
run_parts s t (step {at = at} found past rest) = one_more s t at found rest (run_parts s t rest)

pub tile_parts : (s : List ℕ) (start t : ℕ) → Parts s (of_tile t (entries_from s start))
unfolding entries_from scan_from
tile_parts s start t = run_parts s t (chain_run ended (move_at s) (length s) (rises s) start)

-- ---- one part of the joined buffer, with what stands before and after it

module _ (s : List ℕ) (e : TilePartEntry) (stands : Stands s e.offset.0 e) (long : 12 ≤ e.length) (before after : List ℕ) where
  buffer : List ℕ
  buffer = before ++ (bytes_at s e ++ after)

  length_bytes_at : length (bytes_at s e) ≡ e.length
  unfolding bytes_at
  length_bytes_at = simp (length-take, length-drop) (omega (arith, stands.inside))

  length_buffer : length buffer ≡ length before + (e.length + length after)
  unfolding buffer
  length_buffer = simp (length-append, length_bytes_at)

  read : (k i : ℕ) → i + k ≤ e.length → be k buffer (length before + i) ≡ be k s (e.offset.0 + i)
  unfolding buffer bytes_at
  read k i h =
      be_rest k before (bytes_at s e ++ after) i
      ∙ be_front k (bytes_at s e) after i (omega (arith, length_bytes_at))
      ∙ be_part k s e.offset.0 e.length i h

  marker : be 2 buffer (length before) ≡ SOT
  marker =
      ap (be 2 buffer) (sym (add-zero (length before)))
      ∙ read 2 0 (omega arith)
      ∙ ap (be 2 s) (add-zero e.offset.0)
      ∙ stands.marker

  found : (psot s e.offset.0 ≡ e.length) ⊎ ((psot s e.offset.0 ≡ 0) × (after ≡ [])) → split_step_at buffer (length before) ≡ Some (length before + e.length)
  found ends =
      let p : psot buffer (length before) ≡ psot s e.offset.0 = read 4 _ (omega arith) in
      let some = stands.some in
      let n = length_buffer in
      step_part buffer (length before) (omega arith) marker
      ∙ ap Some
      (⊎_elim
      (λ l. end_psot buffer (length before) (λ z. omega arith) (omega arith) ∙ ap (λ (m : ℕ). length before + m) (p ∙ l))
      (λ z. end_rest buffer (length before) (p ∙ z.0) ∙ n ∙ omega (arith, ap lib.ListN.length z.1))
      ends)

  cut_out : take (length before + e.length - length before) (drop (length before) buffer) ≡ bytes_at s e
  unfolding buffer
  cut_out =
      let n : length before + e.length - length before ≡ e.length = omega arith in
      ap₂ (λ (m : ℕ) (l : List ℕ). take m l) n (drop-append_seam before (bytes_at s e ++ after))
      ∙ take_at (bytes_at s e) after e.length length_bytes_at

  -- a part, and the parts of what stands after it
  part_out : (psot s e.offset.0 ≡ e.length) ⊎ ((psot s e.offset.0 ≡ 0) × (after ≡ []))
      → parts_from (before ++ (bytes_at s e ++ after)) (length before) ≡ bytes_at s e ∷ parts_from ((before ++ bytes_at s e) ++ after) (length (before ++ bytes_at s e))
  unfolding buffer
  part_out ends =
      let here : length before + e.length ≡ length (before ++ bytes_at s e) = simp (length-append, length_bytes_at) in
      parts_on buffer (length before) (length before + e.length) (found ends)
      ∙ ap₂ (λ (p : List ℕ) (ps : List (List ℕ)). p ∷ ps) cut_out
      (ap₂ (λ (b : List ℕ) (n : ℕ). parts_from b n) (sym (append_assoc before (bytes_at s e) after)) here)

-- ---- all of them

parts_out : (s : List ℕ) {es : List TilePartEntry} → Parts s es → AllLong es → (before : List ℕ)
    → parts_from (before ++ joined s es) (length before) ≡ map (bytes_at s) es
unfolding joined AllLong
parts_out s none long before =
    parts_ended (before ++ []) (length before) (step_few (before ++ []) (length before) (rw append-nil (omega arith)))
parts_out s (more {e = e} {rest = rest} stands ends tail) long before =
    part_out s e stands long.0 before (joined s rest) (⊎_elim (λ l. inl l) (λ z. inr (z.0, ap (joined s) z.1)) ends)
    ∙ ap (λ (ps : List (List ℕ)). bytes_at s e ∷ ps) (parts_out s tail long.1 (before ++ bytes_at s e))

-- the entries of a tile in any scan, accepted or refused, if each is 12 bytes or longer
pub split_joined : (s : List ℕ) (start t : ℕ) → AllLong (of_tile t (entries_from s start))
    → parts_of (joined s (of_tile t (entries_from s start))) ≡ map (bytes_at s) (of_tile t (entries_from s start))
unfolding parts_of
split_joined s start t long = parts_out s (tile_parts s start t) long []
