-- A front that is refused, or the walk behind it.
use native.Mathlib.Omega.{arith}
use mathlib.Core.Path.{sym, ◌∙◌}
use Rattle.std.proofs.lemmas.Result.{err_from_is_err_and}
use Rattle.header.proofs.NumberingLaws.{by_refused, by_sound}
use Rattle.header.proofs.ParseLaws.{sound_front}
use Rattle.header.proofs.parse.judge.Goals as goal

pub returns-in_err-test_front : goal.returns-in_err-test_front
returns-in_err-test_front c =
    let p = err_from_is_err_and c.from_residual.result c.from_residual.ensures.1 in
    rw (p.1, p.2) (sym (by_refused _ _ _ (sym c.in_err-test_front.ensures)))

pub walk-requires : goal.walk-requires
walk-requires c =
    let f = sound_front _ (sym c.in_ok-test_front.ensures) in
    (omega (arith, f.0), omega (arith, f.1))

pub returns : goal.returns
returns c = c.walk.ensures ∙ sym (by_sound _ _ (sym c.in_ok-test_front.ensures))
