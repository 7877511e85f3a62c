-- At each return the tests that led there choose the case of the definition.
use Prim.Native.Nat.{◌+◌}
use native.Mathlib.Omega.{arith}
use mathlib.Core.Path.{◌≡◌, sym, ap, ◌∙◌}
use Rattle.chain.specs.Chain.{on}
use Rattle.reader.specs.Search.{move_of}
use Rattle.reader.proofs.SearchLaws.{passed_14, passed_16, passed_on}
use Rattle.reader.proofs.search.pass_box.Goals as goal

pub returns-then-found : goal.returns-then-found
returns-then-found c = ap move_of c.refuse.ensures ∙ sym (passed_14 _ _ c.if-found.true)

pub returns-in-None : goal.returns-in-None
returns-in-None c = ap move_of c.refuse-in-None.ensures ∙ sym (passed_16 _ _ (omega arith) (omega (arith, c.in-None.ensures)))

pub returns-in-Some : goal.returns-in-Some
returns-in-Some c =
    let to : c.in-Some.end ≡ c.args.at + c.args.found.length = omega (arith, c.in-Some.ensures) in
    ap on to ∙ sym (passed_on _ _ (omega arith) (omega (arith, c.in-Some.ensures)))
