-- The parts of the rows that are left, put where the next goes, make the output that all parts make of the one lent; a turn puts one, or drops its range.
use Prim.Native.Nat.{ℕ, ◌+◌, ◌≤◌, ◌<◌}
use native.Mathlib.Omega.{arith}
use mathlib.Core.List.{List, []}
use mathlib.Core.Path.{◌≡◌, sym, ap, ◌∙◌}
use lib.ListN.{length}
use Rattle.std.specs.Prelude.{Option, Some, None}
use Rattle.std.specs.Slice.Iter.{chunks_exact_rest}
use Rattle.tile.proofs.AssemblyLaws.{joined_none, joined_next, length_kept, length_patched}
use Rattle.tile.proofs.AssemblyRanges.{Cut, parts_left, parts_none, parts_kept, parts_dropped}
use Rattle.tile.specs.Assembly.{part_of, patched, joined}
use Rattle.types.specs.Row.{row_bytes, entry_at}
use Rattle.numbers.proofs.BytesLaws.{put_put, put_none}
use Rattle.numbers.specs.Bytes.{put}
use Rattle.tile.proofs.assembly.write_parts.Invariants.{Filled}
use Rattle.tile.proofs.assembly.write_parts.Goals as goal

module _ {table source lent : List ℕ} {start : ℕ} {s rows row rest out : List ℕ} {place : ℕ} (cut : Cut rows row rest)
    (i : Filled table source lent start s rows out place) where
  dropped : ◌≡◌ {A = Option (List ℕ)} None (part_of s (entry_at row 0)) → Filled table source lent start s rest out place
  dropped gone =
      let less = parts_dropped s cut gone in
      record {
        same = i.same;
        ends = ap (λ (ps : List (List ℕ)). place + length (joined ps)) (sym less) ∙ i.ends;
        whole = ap (λ (ps : List (List ℕ)). put out place (joined ps)) (sym less) ∙ i.whole;
      }

  module _ {part : List ℕ} (found : Some part ≡ part_of s (entry_at row 0)) (fits : start + length (joined (parts_left source table)) ≤ length lent) where
    -- a part has room
    part_room : place + length part ≤ length out
    part_room = omega (arith, length_kept s cut found, i.ends, i.same)

    kept : {next : List ℕ} → length next ≡ length out → next ≡ put out place (patched part) → Filled table source lent start s rest next (place + length part)
    kept n stored =
        let left : List ℕ = joined (parts_left s rest) in
        let more = length_kept s cut found in
        record {
          same = n ∙ i.same;
          ends = omega (arith, i.ends);
          whole =
              ap (λ (o : List ℕ). put o (place + length part) left) stored
              ∙ put_put out place (patched part) left (length part) (length_patched part) (omega (arith, i.ends, i.same))
              ∙ ap (put out place) (sym (joined_next (parts_kept s cut found)))
              ∙ i.whole;
        }

-- with no row left nothing is
module _ {table source lent : List ℕ} {start : ℕ} {s rows out : List ℕ} {place : ℕ} (i : Filled table source lent start s rows out place)
    (short : length rows < row_bytes) where
  none : joined (parts_left s rows) ≡ []
  none = joined_none (parts_none s rows short)

  ended : place ≡ start + length (joined (parts_left source table))
  ended = omega (arith, ap length none, i.ends)

  filled : out ≡ put lent start (joined (parts_left source table))
  filled = sym (put_none out place) ∙ ap (put out place) (sym none) ∙ i.whole

pub write_part-requires : goal.write_part-requires
write_part-requires c =
    let steps = c.in-Some.ensures.steps in
    let i = c.loop-row.invariant in
    let cut : Cut _ _ _ = record { whole = steps.1.0; long = steps.1.1 ∙ i.0 } in
    part_room cut i.1 c.in-Some-part_of.ensures c.requires

pub loop-row-preserved-in-Some-part_of : goal.loop-row-preserved-in-Some-part_of
loop-row-preserved-in-Some-part_of c =
    let steps = c.in-Some.ensures.steps in
    let i = c.loop-row.invariant in
    let cut : Cut _ _ _ = record { whole = steps.1.0; long = steps.1.1 ∙ i.0 } in
    (steps.0 ∙ i.0, kept cut i.1 c.in-Some-part_of.ensures c.requires c.write_part.auto.out c.write_part.ensures)

pub loop-row-preserved : goal.loop-row-preserved
loop-row-preserved c =
    let steps = c.in-Some.ensures.steps in
    let i = c.loop-row.invariant in
    let cut : Cut _ _ _ = record { whole = steps.1.0; long = steps.1.1 ∙ i.0 } in
    (steps.0 ∙ i.0, dropped cut i.1 c.in_default.ensures)

pub returns : goal.returns
returns c =
    let i = c.loop-row.invariant in
    let short : length (chunks_exact_rest c.loop-row.row-iterator) < row_bytes = omega (arith, c.in-None.ensures.steps.1.0, i.0) in
    record { value = ended i.1 short; out_after = filled i.1 short }
