-- At each return the tests that led there choose the case of the definition.
use Prim.Native.Nat.{ℕ, ◌+◌, ◌-◌, min}
use native.Mathlib.Omega.{arith}
use mathlib.Core.Path.{◌≡◌, sym, ap, ◌∙◌}
use Rattle.std.specs.Prelude.{Ok}
use Rattle.reader.specs.Search.{codestream}
use Rattle.reader.proofs.SearchLaws.{content_15, content_16, content_part}
use Rattle.reader.proofs.search.content_of_box.Goals as goal

pub returns-then-found : goal.returns-then-found
returns-then-found c = c.refuse.ensures ∙ sym (content_15 _ _ _ c.if-found.true)

pub returns-in_default : goal.returns-in_default
returns-in_default c = c.refuse-in_default.ensures ∙ sym (content_16 _ _ _ (omega arith) (omega (arith, c.in_default.ensures)))

pub returns : goal.returns
returns c =
    let size : c.saturating_sub.result ≡ min (c.args.at + c.args.found.length) c.args.size - (c.args.at + c.args.found.header) = omega (arith, c.in-Some.ensures) in
    ap (λ (n : ℕ). Ok (codestream (record { 0 = c.args.at + c.args.found.header }) n)) size
    ∙ sym (content_part _ _ _ (omega arith) (omega (arith, c.in-Some.ensures)))
