-- Header, EOC and the parts of the rows up to here, and those of the rows that are left, are all that is needed; a sum past 2^64-1 stays there.
use Prim.Native.Nat.{ℕ, ◌+◌, ◌-◌, ◌^◌, min}
use native.Mathlib.Omega.{arith}
use mathlib.Core.List.{List}
use mathlib.Core.Path.{◌≡◌, sym, ap, ◌∙◌}
use lib.ListN.{length}
use Rattle.std.specs.Prelude.{Option, Some, None}
use Rattle.std.specs.Slice.Iter.{chunks_exact_rest}
use Rattle.tile.proofs.AssemblyLaws.{joined_none, length_kept}
use Rattle.tile.proofs.AssemblyRanges.{Cut, parts_left, parts_none, parts_dropped}
use Rattle.tile.specs.Assembly.{part_of, joined}
use Rattle.types.specs.Row.{entry_at}
use Rattle.tile.proofs.assembly.size_needed.Invariants.{Summed}
use Rattle.tile.proofs.assembly.size_needed.Goals as goal

-- a sum that stays at 2^64-1 once it is there
stays : (size n rest : ℕ) → min (min (size + n) (2 ^ 64 - 1) + rest) (2 ^ 64 - 1) ≡ min (size + (n + rest)) (2 ^ 64 - 1)
stays size n rest = omega arith

module _ {h table s rows row rest : List ℕ} {size : ℕ} (cut : Cut rows row rest) (i : Summed h table s rows size) where
  dropped : ◌≡◌ {A = Option (List ℕ)} None (part_of s (entry_at row 0)) → Summed h table s rest size
  dropped gone =
      record {
        fits = i.fits;
        total = ap (λ (ps : List (List ℕ)). min (size + length (joined ps)) (2 ^ 64 - 1)) (sym (parts_dropped s cut gone)) ∙ i.total;
      }

  kept : {part : List ℕ} {next : ℕ} → Some part ≡ part_of s (entry_at row 0) → next ≡ min (size + length part) (2 ^ 64 - 1) → Summed h table s rest next
  kept {part} {next} found sum =
      let left : ℕ = length (joined (parts_left s rest)) in
      record {
        fits = omega arith;
        total =
            ap (λ (n : ℕ). min (n + left) (2 ^ 64 - 1)) sum
            ∙ stays size (length part) left
            ∙ ap (λ (n : ℕ). min (size + n) (2 ^ 64 - 1)) (sym (length_kept s cut found))
            ∙ i.total;
      }

pub loop-row-preserved-in-Some-part_of : goal.loop-row-preserved-in-Some-part_of
loop-row-preserved-in-Some-part_of c =
    let steps = c.in-Some.ensures.steps in
    let i = c.loop-row.invariant in
    let cut : Cut _ _ _ = record { whole = steps.1.0; long = steps.1.1 ∙ i.0 } in
    (steps.0 ∙ i.0, kept cut i.1 c.in-Some-part_of.ensures (omega (arith, c.saturating_add-size.ensures)))

pub loop-row-preserved : goal.loop-row-preserved
loop-row-preserved c =
    let steps = c.in-Some.ensures.steps in
    let i = c.loop-row.invariant in
    let cut : Cut _ _ _ = record { whole = steps.1.0; long = steps.1.1 ∙ i.0 } in
    (steps.0 ∙ i.0, dropped cut i.1 c.in_default.ensures)

pub returns : goal.returns
returns c =
    let none = ap length (joined_none (parts_none c.args.codestream.now (chunks_exact_rest c.loop-row.row-iterator) (omega (arith, c.in-None.ensures.steps.1.0, c.loop-row.invariant.0)))) in
    omega (arith, c.loop-row.invariant.1.total, c.loop-row.invariant.1.fits)
