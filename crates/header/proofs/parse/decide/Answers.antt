-- The judgement, then 18, then 17, in the definition's order.
use native.Mathlib.Omega.{arith}
use mathlib.Core.Path.{sym}
use Rattle.std.proofs.lemmas.Result.{err_from_is_err_and}
use Rattle.header.proofs.ParseLaws.{parsed_refused, parsed_18, parsed_17, parsed_header}
use Rattle.header.proofs.parse.decide.Goals as goal

pub returns-in_err-info : goal.returns-in_err-info
returns-in_err-info c =
    let p = err_from_is_err_and c.from_residual.result c.from_residual.ensures.1 in
    rw (p.1, p.2) (sym (parsed_refused _ _ _ _ _ (sym c.in_err-info.ensures)))

pub returns-then-rows-info : goal.returns-then-rows-info
returns-then-rows-info c = sym (parsed_18 _ _ _ _ _ (sym c.in_ok-info.ensures) c.if-rows-info.true)

pub returns-then-room-info : goal.returns-then-room-info
returns-then-room-info c = sym (parsed_17 _ _ _ _ _ (sym c.in_ok-info.ensures) (omega arith) c.if-room-info.true)

pub returns : goal.returns
returns c = sym (parsed_header _ _ _ _ _ (sym c.in_ok-info.ensures) (omega arith) (omega arith))
