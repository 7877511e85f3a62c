-- A front that is refused, or the walk behind it.
use native.Mathlib.Omega.{arith}
use mathlib.Core.Path.{sym, ap, ◌∙◌}
use Rattle.std.specs.Prelude.{Result}
use Rattle.std.proofs.lemmas.Result.{err_from_is_err_and}
use Rattle.types.specs.declared.Refusal.{Refusal}
use Rattle.header.specs.Find.{find_in, finding}
use Rattle.header.specs.declared.parse.MainHeaderInfo.{MainHeaderInfo}
use Rattle.header.proofs.ParseLaws.{judged_refused, judged_sound, sound_front}
use Rattle.header.proofs.find.find_marker.Goals as goal

pub returns-in_err-test_front : goal.returns-in_err-test_front
unfolding finding find_in
returns-in_err-test_front c =
    let p = err_from_is_err_and c.from_residual.result c.from_residual.ensures.1 in
    rw (p.1, p.2)
    (sym (ap (λ (m : Result MainHeaderInfo Refusal). find_in m c.args.codestream.now c.args.marker) (judged_refused _ _ (sym c.in_err-test_front.ensures))))

pub walk_for-requires : goal.walk_for-requires
walk_for-requires c =
    let f = sound_front _ (sym c.in_ok-test_front.ensures) in
    omega (arith, f.0)

pub returns : goal.returns
unfolding finding
returns c =
    c.walk_for.ensures
    ∙ sym (ap (λ (m : Result MainHeaderInfo Refusal). find_in m c.args.codestream.now c.args.marker) (judged_sound _ (sym c.in_ok-test_front.ensures)))
