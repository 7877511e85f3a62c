-- A range whose end a usize does not hold ends past the codestream too.
use Prim.Native.Nat.{ℕ, ◌+◌, ◌-◌}
use native.Mathlib.Omega.{arith}
use mathlib.Core.Path.{◌≡◌, sym, ap, ◌∙◌}
use mathlib.Core.List.{List}
use lib.ListN.{take, drop}
use Rattle.std.specs.Prelude.{Option, Some, None, option_copied}
use Rattle.std.specs.Borrow.{Bor}
use Rattle.std.specs.Slice.{IsGetRangeResult}
use Rattle.types.specs.declared.TilePartEntry.{TilePartEntry}
use Rattle.tile.proofs.AssemblyRanges.{part_kept, part_dropped}
use Rattle.tile.specs.Assembly.{part_of}
use Rattle.tile.proofs.assembly.part_of.Goals as goal

-- the part between a range's ends
between : (s : List ℕ) (e : TilePartEntry) (from to : ℕ) (r : Option (Bor (List ℕ))) → from ≡ e.offset.0 → to ≡ from + e.length
    → IsGetRangeResult s from to r → option_copied r ≡ part_of s e
between s e from to None start end g = sym (part_dropped s e (omega (arith, g.0)))
between s e from to (Some part) start end g =
    let long : to - from ≡ e.length = omega arith in
    ap Some (g.0.2 ∙ (λ i. take (long i) (drop (start i) s))) ∙ sym (part_kept s e (omega (arith, g.0)))

pub returns-in_err-to : goal.returns-in_err-to
returns-in_err-to c =
    rw c.from_residual.ensures
    (sym (part_dropped _ c.read_row-entry.result (omega (arith, c.in_err-to.ensures))) ∙ ap (part_of c.args.codestream.now) c.read_row-entry.ensures)

pub returns : goal.returns
returns c =
    between _ c.read_row-entry.result _ _ _ c.position-from.ensures (omega (arith, c.in_ok-to.ensures)) c.get.ensures.lookup
    ∙ ap (part_of c.args.codestream.now) c.read_row-entry.ensures
