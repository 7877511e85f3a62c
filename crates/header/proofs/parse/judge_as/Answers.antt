-- The older edition as it is judged; in the newer a header, whose bytes 6 and 7 lie inside, is tested for CAP.
use native.Mathlib.Omega.{arith}
use mathlib.Core.Path.{sym, ◌∙◌}
use Rattle.std.proofs.lemmas.Result.{err_from_is_err_and}
use Rattle.header.proofs.NumberingLaws.{by_accepted}
use Rattle.header.proofs.EditionLaws.{as_refused, as_older, as_newer}
use Rattle.header.proofs.Editions.{eight_inside}
use Rattle.header.proofs.parse.judge_as.Goals as goal

pub returns-in_err-info : goal.returns-in_err-info
returns-in_err-info c =
    let p = err_from_is_err_and c.from_residual.result c.from_residual.ensures.1 in
    rw (p.1, p.2) (sym (as_refused _ _ _ (sym c.in_err-info.ensures)))

pub returns-in-Older : goal.returns-in-Older
returns-in-Older c = c.in_ok-info.ensures ∙ sym (as_older _ _ c.in-Older.is)

pub test_caps-requires : goal.test_caps-requires
test_caps-requires c =
    let header = by_accepted _ _ _ (sym c.in_ok-info.ensures) in
    eight_inside _ (λ i. omega (arith, c.type_inv.codestream i)) _ header.0

pub returns-in-Newer : goal.returns-in-Newer
returns-in-Newer c = c.test_caps.ensures ∙ sym (as_newer _ _ c.in-Newer.is _ (sym c.in_ok-info.ensures))
