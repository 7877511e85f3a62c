-- What it is that a contract settles the outcome. The contract is a function's own `clauses`, its `requires` and `ensures` by the name that the prover has
-- for them: a theorem that cites it holds no copy of them. What is proved of the function is its `spec`, which computes to these clauses, closed
-- (`denote.Triple.Clauses.closing`).
use Rattle.std.specs.Prelude.{◌≡◌, ℕ, zero, suc, []}
use seplogic.Ra.Ura.{Ura}
use base.Logic.{SProp, ent, emp}
use prog.Memory.{Memory}
use prog.Routine.{Routine}
use base.Fml.{Lft}
use types.Logic.{Logic}
use contract.Monad.{Fun, conj, fact}
use contract.Lifetimes.{Lfts}
use contract.BorrowLft.{◌⊑◌}
use denote.Triple.Entry.{Args, Res}
use denote.Triple.Clauses.{Ended, Clauses, Lasts, at_exit}

-- what a contract is stated over
pub record Model (M : Type 1) : Type 2 where
  pub 𝓤 : Ura M
  pub 𝓛 : Logic 𝓤
  pub mem : Memory → SProp 𝓤
  pub run : Routine → Fun 𝓤

abbrev pub Contract : Type 1 → Ended → Type 2
Contract M T = (𝓤 : Ura M) → Logic 𝓤 → (Memory → SProp 𝓤) → (Routine → Fun 𝓤) → Clauses 𝓤 T

-- the lifetimes of a call
abbrev pub Lives : Ended → Type 0
Lives T = Lfts T.signature.lifetimes

-- The last of them. A function over a type has one more than its source names, behind the others: that for which the type has to live.
abbrev pub last_life : (n : ℕ) → Lfts n → Lft
last_life zero κs = []
last_life (suc zero) κs = κs.0
last_life (suc (suc n)) κs = last_life (suc n) κs.1

-- How a call ends: the answer; then for each parameter in turn what a `&mut` holds after the call. It is `tt` for any other parameter, and for a `&mut`
-- that lives on in the answer.
abbrev pub Outcome : (T : Ended) (κs : Lives T) → Args T.signature κs → Type 0
Outcome T κs a = Res T.signature κs × Lasts T κs a

module _ (M : Type 1) (T : Ended) (c : Contract M T) where
  abbrev pub at : (m : Model M) → Clauses m.𝓤 T
  at m = c m.𝓤 m.𝓛 m.mem m.run

  -- what the `ensures` say of an outcome
  abbrev pub Ensured : (m : Model M) (κs : Lives T) (a : Args T.signature κs) → (at m κs a).ghost → Outcome T κs a → SProp m.𝓤
  Ensured m κs a g o = (at m κs a).ensures g o.0 (at_exit T κs a o.1)

  -- At all arguments: nothing is required; and of any two outcomes that the `ensures` allow, the answers, as they are seen, and all that was lent are equal.
  abbrev pub SettlesAs : (Seen : Lives T → Type 0) → ((κs : Lives T) → Res T.signature κs → Seen κs) → Type 2
  SettlesAs Seen seen = (m : Model M) (κs : Lives T) (a : Args T.signature κs) (g : (at m κs a).ghost)
      → ent m.𝓤 (emp m.𝓤) ((at m κs a).requires g)
      × ((x y : Outcome T κs a) → ent m.𝓤 (conj m.𝓤 (Ensured m κs a g x) (Ensured m κs a g y))
      (fact m.𝓤 (◌≡◌ {A = Seen κs × Lasts T κs a} (seen κs x.0, x.1) (seen κs y.0, y.1))))

  abbrev pub Settles : Type 2
  Settles = SettlesAs (Res T.signature) (λ κs r. r)

  -- Of a function over a type, whose values live so long. Its contract asks that they live as long as the call needs, which the compiler sees to wherever
  -- it is called. That isn't so of every lifetime, and `Settles` speaks of all; so here it is given. Nothing else is required, and of two outcomes the same is
  -- said. Where the values borrow nothing, as numbers and records don't, it is `Settles` itself (`anywhere`).
  abbrev pub SettlesOver : Lft → Type 2
  SettlesOver lives = (m : Model M) (κs : Lives T) (a : Args T.signature κs) (g : (at m κs a).ghost)
      → ent m.𝓤 (fact m.𝓤 (last_life T.signature.lifetimes κs ⊑ lives)) ((at m κs a).requires g)
      × ((x y : Outcome T κs a) → ent m.𝓤 (conj m.𝓤 (Ensured m κs a g x) (Ensured m κs a g y)) (fact m.𝓤 (◌≡◌ {A = Outcome T κs a} x y)))
