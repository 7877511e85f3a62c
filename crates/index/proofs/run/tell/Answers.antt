-- The places that were found, as numbers.
use mathlib.Core.Path.{◌∙◌}
use Rattle.index.proofs.RunLaws.{run_length, run_told}
use Rattle.index.proofs.run.tell.Goals as goal

pub returns-clause-value : goal.returns-clause-value
returns-clause-value c =
    let p = c.places-run.ensures in
    c.from.ensures ∙ run_told c.args.index.now c.args.tile p.from_value p.to_value p.to_in_bounds

pub returns-clause-count_after : goal.returns-clause-count_after
returns-clause-count_after c =
    let p = c.places-run.ensures in
    run_length c.args.index.now c.args.tile p.from_value p.to_value p.to_in_bounds
