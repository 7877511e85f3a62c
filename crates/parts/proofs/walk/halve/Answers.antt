-- Below here stands every other mark as it was, and from here on each mark as it was; twice an index is at or past it.
use Prim.Native.Nat.{ℕ, ◌*◌, ◌<◌}
use native.Mathlib.Nat.{eq-or-lt_of_le}
use native.Mathlib.Omega.{arith}
use mathlib.Core.List.{List}
use mathlib.Core.Logic.{⊎_elim}
use mathlib.Core.Path.{◌≡◌, refl, sym, ◌∙◌}
use lib.ListN.{get_or, length-set}
use lib.Seq.{get_or-set_same, get_or-set_other}
use Rattle.parts.proofs.walk.halve.Goals as goal

pub loop-i-init : goal.loop-i-init
loop-i-init c = (c.requires, λ j h. absurd (omega arith), λ j h. refl)

pub loop-i-preserved : goal.loop-i-preserved
loop-i-preserved c =
    let m : List ℕ = c.loop-i.marks in
    let v : ℕ = get_or m (2 * c.loop-i.i) 0 in (
      length-set m c.loop-i.i v ∙ c.loop-i.invariant.0,
      λ j h. ⊎_elim (λ (e : j ≡ c.loop-i.i). rw e (get_or-set_same m c.loop-i.i v 0 (omega arith) ∙ c.loop-i.invariant.2 (2 * c.loop-i.i) (omega arith)))
          (λ (e : j < c.loop-i.i). get_or-set_other m c.loop-i.i j v 0 (λ s. omega arith) ∙ c.loop-i.invariant.1 j e)
          (eq-or-lt_of_le (omega arith)),
      λ j h. get_or-set_other m c.loop-i.i j v 0 (λ e. omega arith) ∙ c.loop-i.invariant.2 j (omega arith),
    )

pub returns : goal.returns
returns c =
    record { size = c.loop-i.invariant.0 ∙ sym c.requires; kept = λ j h. c.loop-i.invariant.1 j (omega arith); left = λ j h. c.loop-i.invariant.2 j (omega arith) }
