-- Rows that were zeros before they were written: three numbers that are 0 are a row of zeros, and a turn that finds them so writes one record more.
use Prim.Native.Nat.{ℕ, zero, suc, ◌+◌, ◌*◌, ◌≤◌, ◌<◌}
use native.Mathlib.Numerals.{add-one}
use native.Mathlib.Omega.{arith}
use mathlib.Core.Path.{◌≡◌, refl, sym, ap, ap₂, ◌∙◌}
use mathlib.Core.Bool.{true, false, ◌&&◌}
use mathlib.Core.List.{List, [], ◌∷◌, ◌++◌, append-nil}
use lib.ListN.{length, get_or, take, drop, replicate, length-drop, replicate-append-replicate}
use lib.Seq.{length-take-le, take-suc, take-take, drop-drop, take-add, get_or-drop}
use lib.Dec.{leb, eqb}
use borrow.Author.Tests.{lt-leb, eqb-true}
use Rattle.std.specs.Prelude.{Some, Ok}
use Rattle.numbers.specs.Bytes.{be, put}
use Rattle.numbers.proofs.BytesLaws.{put_none, length_put, be_put_after}
use Rattle.types.specs.declared.TilePartEntry.{TilePartEntry}
use Rattle.types.specs.Row.{row_bytes, row_of, rows_of}
use Rattle.types.proofs.RowLaws.{length_row}
use Rattle.types.proofs.RowStanding.{rows, rows_none, rows_more, length_all}
use Rattle.parts.specs.Scan.{scan_step_at, entries_from}
use Rattle.parts.specs.Begin.{blank_at, free_at, BegunBy, Begins}
use Rattle.parts.specs.declared.walk.Passed.{Passed}
use Rattle.parts.proofs.OrderAnswers.{both}
use Rattle.parts.proofs.ScanLaws.{and-false, entries_part}
use Rattle.parts.proofs.FillRuns.{joined}
use Rattle.parts.specs.Walk.{Reached}
use Rattle.parts.proofs.WalkLaws.{reached_start, reached_next}

-- ---- zeros

abbrev noughts : ℕ → List ℕ
noughts n = replicate n 0

one_more : (k : ℕ) → noughts k ++ noughts 1 ≡ noughts (k + 1)
one_more k = replicate-append-replicate k 1 0

-- k bytes whose number is 0
zeros : (k : ℕ) (s : List ℕ) (at : ℕ) → be k s at ≡ 0 → at + k ≤ length s → take k (drop at s) ≡ replicate k 0
unfolding be
zeros zero s at z room = refl
zeros (suc k) s at z room =
    let low : get_or (drop at s) k 0 ≡ 0 = get_or-drop at s k 0 ∙ omega arith in
    take-suc (drop at s) k 0 (omega (arith, length-drop at s))
    ∙ ap₂ (λ (l : List ℕ) (x : ℕ). l ++ (x ∷ [])) (zeros k s at (omega arith) (omega arith)) low
    ∙ one_more k
    ∙ ap (λ (n : ℕ). replicate n 0) (add-one k)

-- three of 8 bytes, the second and the third of which overlap
row_zeros : (s : List ℕ) (at : ℕ) → be 8 s at ≡ 0 → be 8 s (at + 8) ≡ 0 → be 8 s (at + 13) ≡ 0 → at + 21 ≤ length s → take 21 (drop at s) ≡ replicate 21 0
row_zeros s at a b c room =
    let there : at + 8 + 5 ≡ at + 13 = omega arith in
    let five : take 5 (drop (at + 8) s) ≡ replicate 5 0 = sym (take-take 5 8 (drop (at + 8) s) (omega arith)) ∙ ap (take 5) (zeros 8 s (at + 8) b (omega arith)) in
    let rest : take 13 (drop (at + 8) s) ≡ replicate 13 0 =
    take-add 5 8 (drop (at + 8) s)
    ∙ ap₂ (λ (l r : List ℕ). l ++ r) five (ap (take 8) (drop-drop 5 (at + 8) s ∙ ap (λ (n : ℕ). drop n s) there) ∙ zeros 8 s (at + 13) c (omega arith)) in
    take-add 8 13 (drop at s) ∙ ap₂ (λ (l r : List ℕ). l ++ r) (zeros 8 s at a (omega arith)) (ap (take 13) (drop-drop 8 at s) ∙ rest)

-- ---- the records written so far, whose rows were zeros

pub record Begun (s : List ℕ) (start : ℕ) (lent table : List ℕ) (at count row : ℕ) : Type 0 where
  pub down : row ≡ row_bytes * count
  pub reached : Reached s start at count
  pub same : length table ≡ length lent
  pub room : row ≤ length lent
  pub blank : take row lent ≡ replicate row 0
  pub whole : table ≡ put lent 0 (rows_of (take count (entries_from s start)))

module _ {s : List ℕ} {start : ℕ} {lent : List ℕ} where
  pub none_begun : Begun s start lent lent start 0 0
  none_begun = record {
    down = refl;
    reached = reached_start;
    same = refl;
    room = omega arith;
    blank = refl;
    whole = sym (ap (put lent 0) rows_none ∙ put_none lent 0);
  }

  pub begins : {table : List ℕ} {row : ℕ} {p : Passed} → Begun s start lent table p.at p.count row → BegunBy p.stop s lent p → Begins s start lent p
  begins i why = record {
    reached = i.reached;
    room = omega (arith, i.room, i.down);
    blank = rw i.down at i.blank;
    stopped = why;
  }

  module _ {table : List ℕ} {at count row : ℕ} (i : Begun s start lent table at count row) where
    few : length (take count (entries_from s start)) ≡ count
    few = length-take-le count (entries_from s start) (omega (arith, i.reached.counted))

    -- what stands behind them is as it was
    stays : (k n : ℕ) → be k table (row + n) ≡ be k lent (row + n)
    stays k n =
        let bs : List ℕ = rows_of (take count (entries_from s start)) in
        let long : length bs ≡ row = length_all rows (take count (entries_from s start)) ∙ omega (arith, few, i.down) in
        let there : 0 + (length bs + n) ≡ row + n = omega arith in
        ap (λ (t : List ℕ). be k t (row + n)) i.whole
        ∙ ap (be k (put lent 0 bs)) (sym there)
        ∙ be_put_after k lent 0 bs n (omega arith)
        ∙ ap (be k lent) there

    blank_stays : blank_at table row ≡ blank_at lent row
    unfolding blank_at
    blank_stays =
        let here : row + 0 ≡ row = omega arith in
        rw (sym (ap (be 8 table) here), sym (ap (be 8 lent) here), stays 8 0, stays 8 8, stays 8 13) refl

    -- the next row is not there
    pub full_up : length lent < row + 21 → free_at lent (row_bytes * count) ≡ false
    full_up past = rw (sym i.down, lt-leb (row + row_bytes) (length lent) past) refl

    -- or is not zeros
    pub full_used : blank_at table row ≡ false → free_at lent (row_bytes * count) ≡ false
    full_used used = rw (sym i.down, sym blank_stays, used) (and-false (leb (row + row_bytes) (length lent)))

    blank_row : blank_at table row ≡ true → row + 21 ≤ length lent → take 21 (drop row lent) ≡ replicate 21 0
    unfolding blank_at
    blank_row is room =
        let x : (eqb (be 8 table row) 0 ≡ true) × (eqb (be 8 table (row + 8)) 0 && eqb (be 8 table (row + 13)) 0 ≡ true) = both _ _ is in
        let y : (eqb (be 8 table (row + 8)) 0 ≡ true) × (eqb (be 8 table (row + 13)) 0 ≡ true) = both _ _ x.1 in
        let here : row + 0 ≡ row = omega arith in
        row_zeros lent row
        (ap (be 8 lent) (sym here) ∙ sym (stays 8 0) ∙ ap (be 8 table) here ∙ eqb-true _ _ x.0)
        (sym (stays 8 8) ∙ eqb-true _ _ y.0)
        (sym (stays 8 13) ∙ eqb-true _ _ y.1)
        room

    -- a record more
    pub begun_more : {next : List ℕ} {to : ℕ} {e : TilePartEntry} → blank_at table row ≡ true → row + 21 ≤ length lent → scan_step_at s at ≡ Ok (Some e)
        → next ≡ put table row (row_of e) → to ≡ e.offset.0 + e.length → Begun s start lent next to (count + 1) (row + 21)
    begun_more {next} {to} {e} is room found new there =
        let es : List TilePartEntry = entries_from s start in
        let first : drop count es ≡ e ∷ entries_from s (at + e.length) = sym i.reached.rest ∙ entries_part s at e found in
        let more : take (count + 1) es ≡ take count es ++ (e ∷ []) = take-add count 1 es ∙ ap (λ (l : List TilePartEntry). take count es ++ take 1 l) first in
        let one : row_of e ≡ rows_of (e ∷ []) = sym (rows_more e [] ∙ ap (λ (l : List ℕ). row_of e ++ l) rows_none ∙ append-nil (row_of e)) in
        record {
          down = omega (arith, i.down);
          reached = reached_next found there i.reached;
          same = ap length new ∙ length_put table row (row_of e) (omega (arith, length_row e, i.same)) ∙ i.same;
          room = room;
          blank =
              take-add row 21 lent
              ∙ ap₂ (λ (l r : List ℕ). l ++ r) i.blank (blank_row is room)
              ∙ replicate-append-replicate row 21 0;
          whole =
              new
              ∙ ap₂ (λ (t bs : List ℕ). put t row bs) i.whole one
              ∙ joined rows lent row (take count es) (e ∷ []) (omega (arith, i.down, few)) (omega (arith, i.down, few))
              ∙ ap (λ (l : List TilePartEntry). put lent 0 (rows_of l)) (sym more);
        }
