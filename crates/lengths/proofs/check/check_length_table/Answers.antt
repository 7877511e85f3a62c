-- A front that is refused, or what stands behind it, of the first bytes.
use native.Mathlib.Omega.{arith}
use mathlib.Core.Path.{sym, ◌∙◌}
use lib.ListN.{length-take}
use Rattle.std.proofs.lemmas.Result.{err_from_is_err_and}
use Rattle.header.proofs.ParseLaws.{sound_front}
use Rattle.lengths.proofs.CheckLaws.{front_refused, front_sound}
use Rattle.lengths.proofs.check.check_length_table.Goals as goal

pub slice_bounds-header-end : goal.slice_bounds-header-end
slice_bounds-header-end c = simp length-take (omega arith)

pub check_table-requires : goal.check_table-requires
check_table-requires c =
    let f = sound_front _ (sym c.in_ok-test_front.ensures) in
    omega (arith, f.0)

pub returns-in_err-test_front : goal.returns-in_err-test_front
returns-in_err-test_front c =
    let p = err_from_is_err_and c.from_residual.result c.from_residual.ensures.1 in
    rw (p.1, p.2) (front_refused _ _ _ c.min-end.ensures _ (sym c.in_err-test_front.ensures))

pub returns : goal.returns
returns c = c.check_table.ensures ∙ front_sound _ _ _ c.min-end.ensures (sym c.in_ok-test_front.ensures)
