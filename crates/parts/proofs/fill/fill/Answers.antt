-- The records of the runs, and behind them those of all that follow.
use Prim.Native.Nat.{ℕ, ◌+◌, ◌-◌, ◌*◌}
use native.Mathlib.Nat.{mul-add}
use native.Mathlib.Omega.{arith}
use mathlib.Core.Path.{◌≡◌, sym, ap, ap₂, ◌∙◌}
use mathlib.Core.List.{List}
use lib.ListN.{length, length-drop}
use Rattle.numbers.specs.Bytes.{put}
use Rattle.types.specs.declared.TilePartEntry.{TilePartEntry}
use Rattle.parts.specs.Scan.{entries_from}
use Rattle.parts.proofs.FillRuns.{completed}
use Rattle.parts.proofs.fill.fill.Goals as goal
use Rattle.parts.proofs.fill.fill.Goals.{Start}

-- the runs' and the others' are all
parted : (g : _) (c : Start g) → g.E.Element.WIDTH * (4 * c.args.runs.turns) + g.E.Element.WIDTH * (c.args.runs.parts - 4 * c.args.runs.turns) ≡ g.E.Element.WIDTH * c.args.runs.parts
parted g c =
    let q = c.requires.quartered in
    let done = 4 * c.args.runs.turns in
    sym (mul-add g.E.Element.WIDTH done (c.args.runs.parts - done)) ∙ ap (λ (n : ℕ). g.E.Element.WIDTH * n) (omega (arith, q.parts, q.followed))

pub fill_rest-requires : goal.fill_rest-requires
fill_rest-requires g c =
    let q = c.requires.quartered in
    let left = length-drop (4 * c.args.runs.turns) (entries_from c.args.codestream.now c.args.start) in
    let wide = ap (λ (n : ℕ). n * (4 * c.args.runs.turns)) c.WIDTH.ensures in
    record {
      count_value = omega (arith, q.parts, q.followed, ap length c.fill_runs-end.ensures.result_value, left);
      count_in_bounds = omega (arith, wide, parted g (goal.at.fill_rest-requires g c).Start, c.requires.parts_in_bounds);
    }

pub returns : goal.returns
returns g c =
    let q = c.requires.quartered in
    let done = 4 * c.args.runs.turns in
    let es : List TilePartEntry = entries_from c.args.codestream.now c.args.start in
    let r = c.fill_runs-end.ensures in
    let L = g.E.Element.layout in
    let wide = ap (λ (n : ℕ). n * done) c.WIDTH.ensures in
    c.fill_rest.ensures
    ∙ ap₂ (λ (t : List g.row.E.Denot) (l : List TilePartEntry). put t (c.WIDTH.result * done) (L.all l)) r.table_after r.result_value
    ∙ completed L c.args.table.now (c.WIDTH.result * done) es done wide (omega (arith, q.parts, q.followed))
    (rw q.parts at c.requires.parts_in_bounds)
