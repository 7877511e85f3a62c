-- What is filled is the front of the table, and all of it is zeros.
use Prim.Native.Nat.{ℕ}
use native.Mathlib.Omega.{arith}
use mathlib.Core.List.{List, ◌++◌}
use mathlib.Core.Path.{sym, ap, ◌∙◌}
use lib.ListN.{drop, replicate, length-replicate}
use lib.Seq.{length-take-le}
use Rattle.numbers.proofs.BytesLaws.{put_start}
use Rattle.parts.proofs.scan.clear.Goals as goal

pub returns : goal.returns
returns c =
    let table : List ℕ = c.args.table.now in
    let end = c.args.end in
    let zeros = c.fill.ensures.after (λ y e. e) ∙ ap (λ (n : ℕ). replicate n 0) (length-take-le end table (omega arith)) in
    ap (λ (l : List ℕ). l ++ drop end table) zeros
    ∙ sym (put_start table (replicate end 0) ∙ ap (λ (n : ℕ). replicate end 0 ++ drop n table) (length-replicate end 0))
