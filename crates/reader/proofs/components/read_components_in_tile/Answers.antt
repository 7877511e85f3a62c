-- The check's answer, and the tile's area, are the definition's.
use native.Mathlib.Omega.{arith}
use mathlib.Core.Path.{sym}
use Rattle.std.proofs.lemmas.Result.{err_from_is_err_and}
use Rattle.reader.proofs.ComponentsLaws.{all_inside, accepted, tile_refused, tile_untold, tile_found}
use Rattle.reader.proofs.components.read_components_in_tile.Goals as goal

pub returns-in_err-count : goal.returns-in_err-count
returns-in_err-count c =
    let p = err_from_is_err_and c.from_residual.result c.from_residual.ensures.1 in
    rw (p.1, p.2) (sym (tile_refused _ _ _ _ (sym c.in_err-count.ensures)))

pub place-requires : goal.place-requires
place-requires c = let a = accepted _ _ (sym c.in_ok-count.ensures) in omega (arith, (all_inside _ a.whole a.held).0)

pub returns-in_err-area : goal.returns-in_err-area
returns-in_err-area c =
    let p = err_from_is_err_and c.from_residual-in_err-area.result c.from_residual-in_err-area.ensures.1 in
    rw (p.1, p.2) (sym (tile_untold _ _ _ _ (sym c.in_ok-count.ensures) _ (sym c.in_err-area.ensures)))

pub returns : goal.returns
returns c = sym (tile_found _ _ _ _ (sym c.in_ok-count.ensures) _ (sym c.in_ok-area.ensures))
