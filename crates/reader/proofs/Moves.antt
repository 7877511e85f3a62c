-- What a move says of its answer or of where it goes; the answer of a chain, by what its step finds.
use Prim.Native.Nat.{ℕ}
use mathlib.Core.Path.{◌≡◌, ap}
use Rattle.chain.specs.Chain.{Move, end, on, Chain, Rises, also, chain}
use Rattle.chain.proofs.ChainLaws.{chain_end, chain_on, chain_stops}

-- E of the answer of a move that ends, O of the position from which it goes on
unfoldable pub Told : {A : Type 0} → (A → Type 0) → (ℕ → Type 0) → Move A → Type 0
Told E O (end a) = E a
Told E O (on next) = O next

module _ {A : Type 0} (E : A → Type 0) (O : ℕ → Type 0) (m : Move A) (told : Told E O m) where
  pub told_end : (a : A) → m ≡ end a → E a
  unfolding Told
  told_end a e = rw e at told

  pub told_on : (next : ℕ) → m ≡ on next → O next
  unfolding Told
  told_on next e = rw e at told

-- the answer of a chain
module _ {A : Type 0} (short : A) (move : ℕ → Move A) (limit : ℕ) (rises : Rises move limit) where
  pub ended_end : (at : ℕ) (a : A) → move at ≡ end a → (chain short move limit at).ended ≡ a
  ended_end at a e = ap (λ (c : Chain A). c.ended) (chain_end short move limit rises at a e)

  pub ended_on : (at next : ℕ) → move at ≡ on next → (chain short move limit at).ended ≡ (chain short move limit next).ended
  unfolding also
  ended_on at next e = ap (λ (c : Chain A). c.ended) (chain_on short move limit rises at next e)

  -- what every step says of its answer holds of the chain's
  pub ended_told : (E : A → Type 0) (O : ℕ → ℕ → Type 0) → ((at : ℕ) → Told E (O at) (move at)) → (at : ℕ) → E (chain short move limit at).ended
  ended_told E O told at = told_end E (O _) _ (told (chain short move limit at).stopped) _ (chain_stops short move limit rises at)
