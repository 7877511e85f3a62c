-- The answer stands before a row is written: a refusal leaves the table, and a count is that of the entries, whose rows fit.
use mathlib.Core.Path.{refl, sym, ap, ◌∙◌}
use Rattle.std.specs.Prelude.{Ok, Err}
use Rattle.std.proofs.lemmas.Result.{err_from_is_err_and}
use Rattle.types.specs.Row.{records_in}
use Rattle.index.proofs.EntriesLaws.{Answered, answers, kept, fits, filled}
use Rattle.index.proofs.entries.tile_entries.Goals as goal

pub returns-in_err-given : goal.returns-in_err-given
returns-in_err-given c =
    let e = err_from_is_err_and c.from_residual.result c.from_residual.ensures.1 in
    let refused = e.1 ∙ ap Err e.2 in
    let a : Answered c.args.index.now c.args.tile (records_in c.args.table.now) c.args.out.now c.tile_run-run.result.now c.count.result c.from_residual.result
    = record { there = c.tile_run-run.ensures; counts = c.count.ensures; is = refused ∙ sym c.in_err-given.was ∙ c.decide.ensures } in
    record { value = answers a; out_after = kept a refused }

pub fill-requires : goal.fill-requires
fill-requires c =
    let a : Answered c.args.index.now c.args.tile (records_in c.args.table.now) c.args.out.now c.tile_run-run.result.now c.count.result (Ok c.in_ok-given.given)
    = record { there = c.tile_run-run.ensures; counts = c.count.ensures; is = sym c.in_ok-given.was ∙ c.decide.ensures } in
    fits a refl

pub returns : goal.returns
returns c =
    let a : Answered c.args.index.now c.args.tile (records_in c.args.table.now) c.args.out.now c.tile_run-run.result.now c.count.result (Ok c.in_ok-given.given)
    = record { there = c.tile_run-run.ensures; counts = c.count.ensures; is = sym c.in_ok-given.was ∙ c.decide.ensures } in
    record { value = answers a; out_after = filled a refl c.fill.ensures }
