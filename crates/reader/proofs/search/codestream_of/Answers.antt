-- What was found lies in the file, and the part from there on is the content.
use Prim.Native.Nat.{ℕ, ◌+◌, ◌-◌}
use native.Mathlib.Omega.{arith}
use mathlib.Core.Path.{◌≡◌, sym, ap₂, ◌∙◌}
use lib.ListN.{take, drop}
use Rattle.reader.proofs.SearchLaws.{inside_at, content_found, content_none}
use Rattle.reader.proofs.search.codestream_of.Goals as goal

pub returns-in_default : goal.returns-in_default
returns-in_default c = sym (content_none _ _ (sym c.in_default.ensures))

pub overflow_add-result : goal.overflow_add-result
overflow_add-result c = omega (arith, inside_at _ _ (sym c.in-Ok.ensures))

pub slice_bounds-result-end-2 : goal.slice_bounds-result-end-2
slice_bounds-result-end-2 c = omega (arith, inside_at _ _ (sym c.in-Ok.ensures))

pub returns : goal.returns
returns c =
    let cut : c.position-from.result + c.in-Ok.found.length - c.position-from.result ≡ c.in-Ok.found.length = omega arith in
    ap₂ (λ (k from : ℕ). take k (drop from c.args.file.now)) cut c.position-from.ensures
    ∙ sym (content_found _ _ (sym c.in-Ok.ensures))
