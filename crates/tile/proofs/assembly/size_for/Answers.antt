-- The rows that are left choose what all rows do: a dropped range is none of them, and a kept one is the first, whose Isot is there if it starts with SOT.
use Prim.Native.Nat.{ℕ}
use native.Mathlib.Omega.{arith}
use mathlib.Core.List.{List}
use mathlib.Core.Path.{◌≡◌, sym, ap, ◌∙◌}
use Rattle.std.specs.Prelude.{Some}
use Rattle.std.specs.Slice.Iter.{chunks_exact_rest}
use Rattle.types.specs.Row.{entry_at}
use Rattle.tile.specs.declared.rules.Rule.{Rule}
use Rattle.tile.proofs.AssemblyLaws.{for_first, for_none, sot_long, part_sot, part_other}
use Rattle.tile.proofs.AssemblyRanges.{Cut, parts_left, parts_none, parts_kept, parts_dropped}
use Rattle.tile.specs.Rewrite.{tile_size}
use Rattle.tile.specs.Assembly.{part_of, part_size, size_for}
use Rattle.tile.proofs.assembly.size_for.Goals as goal

pub loop-row-preserved : goal.loop-row-preserved
loop-row-preserved c =
    let steps = c.in-Some.ensures.steps in
    let i = c.loop-row.invariant in
    let cut : Cut _ _ _ = record { whole = steps.1.0; long = steps.1.1 ∙ i.0 } in
    let gone = parts_dropped c.args.codestream.now cut c.in_default.ensures in
    (steps.0 ∙ i.0, ap (size_for c.args.rule c.args.header.now) (sym gone) ∙ i.1)

-- a part that is kept is the first
chooses : (rule : Rule) (h s table : List ℕ) {rows row rest part : List ℕ} → Cut rows row rest → Some part ≡ part_of s (entry_at row 0)
    → size_for rule h (parts_left s rows) ≡ size_for rule h (parts_left s table)
    → size_for rule h (parts_left s table) ≡ part_size rule h part
chooses rule h s table cut found same = sym same ∙ for_first rule h (parts_kept s cut found)

pub read_u16-requires : goal.read_u16-requires
read_u16-requires c = sot_long _ (sym c.is_sot.ensures ∙ c.if-is_sot.true)

pub returns-then-is_sot : goal.returns-then-is_sot
returns-then-is_sot c =
    let a = c.args in
    let steps = c.in-Some.ensures.steps in
    let i = c.loop-row.invariant in
    let cut : Cut _ _ _ = record { whole = steps.1.0; long = steps.1.1 ∙ i.0 } in
    let first = chooses _ _ _ _ cut c.in-Some-part_of.ensures i.1 in
    c.tile_size.ensures
    ∙ ap (tile_size a.rule a.header.now) c.read_u16.ensures
    ∙ sym (first ∙ part_sot _ a.rule a.header.now (sym c.is_sot.ensures ∙ c.if-is_sot.true))

pub returns-in-loop-row : goal.returns-in-loop-row
returns-in-loop-row c =
    let steps = c.in-Some.ensures.steps in
    let i = c.loop-row.invariant in
    let cut : Cut _ _ _ = record { whole = steps.1.0; long = steps.1.1 ∙ i.0 } in
    let first = chooses _ _ _ _ cut c.in-Some-part_of.ensures i.1 in
    sym (first ∙ part_other _ _ _ (sym c.is_sot.ensures ∙ c.if-is_sot.false))

pub returns : goal.returns
returns c =
    let a = c.args in
    sym (for_none a.rule a.header.now (parts_none a.codestream.now (chunks_exact_rest c.loop-row.row-iterator) (omega (arith, c.in-None.ensures.steps.1.0, c.loop-row.invariant.0)))) ∙ c.loop-row.invariant.1
