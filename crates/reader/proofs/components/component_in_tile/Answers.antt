-- The check, and then the component in the area that it gave.
use mathlib.Core.Path.{ap, ◌∙◌}
use Rattle.std.specs.Prelude.{Result}
use Rattle.std.proofs.lemmas.Result.{err_from_is_err_and}
use Rattle.reader.specs.Components.{chosen, component_in_tile}
use Rattle.reader.proofs.components.component_in_tile.Goals as goal
use Rattle.reader.specs.declared.components.Components.{Components}
use Rattle.types.specs.declared.Refusal.{Refusal}

pub returns-in_err-read_components_in_tile : goal.returns-in_err-read_components_in_tile
unfolding component_in_tile chosen
returns-in_err-read_components_in_tile c =
    let p = err_from_is_err_and c.from_residual.result c.from_residual.ensures.1 in
    rw (p.1, p.2) (ap (λ (r : Result Components Refusal). chosen r c.args.codestream.now c.args.number) c.in_err-read_components_in_tile.ensures)

pub returns : goal.returns
unfolding component_in_tile chosen
returns c =
    c.component_within.ensures ∙ ap (λ (r : Result Components Refusal). chosen r c.args.codestream.now c.args.number) c.in_ok-read_components_in_tile.ensures
