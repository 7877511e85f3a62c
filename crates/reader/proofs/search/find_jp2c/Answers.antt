-- The chain from the present position ends as the chain from 0 does; each turn is one step of it, and what is left of the file falls.
use native.Mathlib.Omega.{arith}
use mathlib.Core.Path.{◌≡◌, sym, ap, ◌∙◌}
use Rattle.std.specs.Prelude.{Err}
use Rattle.std.proofs.lemmas.Result.{err_from_is_err_and}
use Rattle.chain.specs.Chain.{on}
use Rattle.reader.specs.Search.{move_of, move_at}
use Rattle.reader.proofs.SearchLaws.{move_end, move_cut, move_jp2c, move_past, rises, found_end, found_on}
use Rattle.reader.proofs.search.find_jp2c.Goals as goal
use Rattle.reader.proofs.search.find_jp2c.Goals.{In_ok-at}

-- a box of another type is passed
passed : (c : In_ok-at) → move_at c.args.file.now c.loop-found.at ≡ on c.in_ok-at.at
passed c = move_past _ _ _ (sym c.in-Ok.ensures) c.if-found-eq-JP2C.false ∙ sym c.pass_box.ensures ∙ ap move_of c.in_ok-at.was

pub returns-in-Err-End : goal.returns-in-Err-End
returns-in-Err-End c =
    let read = sym c.box_at.ensures ∙ c.in-Err-End.is ∙ ap Err c.in-Err-End.field-0-is in
    c.refuse.ensures ∙ sym (found_end _ c.loop-found.at _ (move_end _ _ read)) ∙ c.loop-found.invariant

pub returns-in-Err-CutShort : goal.returns-in-Err-CutShort
returns-in-Err-CutShort c =
    let read = sym c.box_at.ensures ∙ c.in-Err-CutShort.is ∙ ap Err c.in-Err-CutShort.field-0-is in
    c.refuse-in-Err-CutShort.ensures ∙ sym (found_end _ c.loop-found.at _ (move_cut _ _ read)) ∙ c.loop-found.invariant

pub returns-then-found-eq-JP2C : goal.returns-then-found-eq-JP2C
returns-then-found-eq-JP2C c =
    c.content_of_box.ensures
    ∙ sym (found_end _ c.loop-found.at _ (move_jp2c _ _ _ (sym c.in-Ok.ensures) c.if-found-eq-JP2C.true))
    ∙ c.loop-found.invariant

pub returns-in_err-at : goal.returns-in_err-at
returns-in_err-at c =
    let p = err_from_is_err_and c.from_residual.result c.from_residual.ensures.1 in
    let refused = move_past _ _ _ (sym c.in-Ok.ensures) c.if-found-eq-JP2C.false ∙ sym c.pass_box.ensures ∙ ap move_of c.in_err-at.was in
    rw (p.1, p.2) (sym (found_end _ c.loop-found.at _ refused) ∙ c.loop-found.invariant)

pub loop-found-smaller : goal.loop-found-smaller
loop-found-smaller c = let m = rises c.args.file.now _ _ (passed (goal.at.loop-found-smaller c).In_ok-at) in omega arith

pub loop-found-preserved : goal.loop-found-preserved
loop-found-preserved c = sym (found_on _ c.loop-found.at _ (passed (goal.at.loop-found-preserved c).In_ok-at)) ∙ c.loop-found.invariant
