-- The laws by which a contract settles its outcome, where each `ensures` is an equation.
use mathlib.Core.Path.{◌≡◌, sym, ap, subst, ◌∙◌}
use mathlib.Core.List.{[]}
use base.Logic.{SProp, ent, sep, emp, id⊢, via, snd∗, emp∗, comm∗}
use contract.Monad.{conj, conj_l, conj_r, fact, fact_i, fact_use, fact∗}
use contract.BorrowLft.{◌⊑◌, ⊑_static}
use base.Fml.{Lft}
use Rattle.settling.specs.Settles.{Model}

settled : {A : Type 0} {x y z : A} → x ≡ z → y ≡ z → x ≡ y
settled p q = p ∙ sym q

module _ {M : Type 1} (m : Model M) where
  abbrev Pr : Type 2
  Pr = SProp m.𝓤

  abbrev ◌⊢◌ : Pr → Pr → Type 1
  P ⊢ Q = ent m.𝓤 P Q

  abbrev ◌∗◌ : Pr → Pr → Pr
  P ∗ Q = sep m.𝓤 P Q

  abbrev ⌜◌⌝ : Type 0 → Pr
  ⌜ A ⌝ = fact m.𝓤 A

  infix 26 ◌⊢◌
  infixr 35 ◌∗◌
  -- a row of facts gives one fact
  and : {A B : Type 0} {P : Pr} → P ⊢ ⌜ B ⌝ → ⌜ A ⌝ ∗ P ⊢ ⌜ A × B ⌝
  and {A} {B} {P} s =
      fact_use m.𝓤 A (fact∗ m.𝓤 A P) (λ p. fact_use m.𝓤 B (via m.𝓤 P (snd∗ m.𝓤 ⌜ A ⌝ P) s) (λ q. fact_i m.𝓤 (A × B) (⌜ A ⌝ ∗ P) (p, q)))

  both : {P Q : Pr} {A B E : Type 0} → P ⊢ ⌜ A ⌝ → Q ⊢ ⌜ B ⌝ → (A → B → E) → conj m.𝓤 P Q ⊢ ⌜ E ⌝
  both {P} {Q} {A} {B} {E} s t f =
      fact_use m.𝓤 A (via m.𝓤 P (conj_l m.𝓤 P Q) s) (λ p. fact_use m.𝓤 B (via m.𝓤 Q (conj_r m.𝓤 P Q) t) (λ q. fact_i m.𝓤 E (conj m.𝓤 P Q) (f p q)))

  -- of any two outcomes of which P holds E is shown
  abbrev pub Shows : {O : Type 0} → (O → O → Type 0) → (O → Pr) → Type 1
  Shows {O} E P = (emp m.𝓤 ⊢ emp m.𝓤) × ((x y : O) → conj m.𝓤 (P x) (P y) ⊢ ⌜ E x y ⌝)

  -- a row of facts, and what any two outcomes share of which it holds
  abbrev pub Fixes : {O : Type 0} → (O → O → Type 0) → (O → Pr) → Type 1
  Fixes {O} G P = (F : O → Type 0) × ((x : O) → P x ⊢ ⌜ F x ⌝) × ((x y : O) → F x → F y → G x y)

  module _ {O : Type 0} where
    -- an equation fixes what it is of, and one more before others fixes both
    pub last : {A : Type 0} {a : O → A} {k : A} → Fixes (λ (x y : O). a x ≡ a y) (λ x. ⌜ a x ≡ k ⌝)
    last {a = a} {k = k} = (λ x. a x ≡ k, λ x. id⊢ m.𝓤 ⌜ a x ≡ k ⌝, λ x y p q. settled p q)

    pub before : {A : Type 0} {a : O → A} {k : A} {G : O → O → Type 0} {P : O → Pr} → Fixes G P → Fixes (λ (x y : O). (a x ≡ a y) × G x y) (λ x. ⌜ a x ≡ k ⌝ ∗ P x)
    before {a = a} {k = k} f = (λ x. (a x ≡ k) × f.0 x, λ x. and (f.1 x), λ x y p q. (settled p.0 q.0, f.2 x y p.1 q.1))

    -- what else is said of it fixes nothing more
    pub beside : {A : Type 0} {a : O → A} {k : A} {B : O → Type 0} → Fixes (λ (x y : O). a x ≡ a y) (λ x. ⌜ a x ≡ k ⌝ ∗ ⌜ B x ⌝)
    beside {a = a} {k = k} {B = B} = (λ x. a x ≡ k, λ x. fact∗ m.𝓤 (a x ≡ k) ⌜ B x ⌝, λ x y p q. settled p q)

  module _ {O : Type 0} {E : O → O → Type 0} where
    row : {P : O → Pr} {A : O → Type 0} → ((x : O) → P x ⊢ ⌜ A x ⌝) → ((x y : O) → A x → A y → E x y) → Shows E P
    row s h = (id⊢ m.𝓤 (emp m.𝓤), λ x y. both (s x) (s y) (h x y))

    pub settles : {G : O → O → Type 0} {P : O → Pr} → Fixes G P → ((x y : O) → G x y → E x y) → Shows E P
    settles f h = row f.1 (λ x y p q. h x y (f.2 x y p q))

    -- the second is given by the first
    pub by_one : {A B : Type 0} {a : O → A} {b : O → B} {k : A} (s : A → B)
        → ((x y : O) → (a x ≡ a y) × (b x ≡ b y) → E x y) → Shows E (λ x. ⌜ a x ≡ k ⌝ ∗ ⌜ b x ≡ s (a x) ⌝)
    by_one s h = row (λ x. and (id⊢ m.𝓤 _)) (λ x y p q.
        let first = settled p.0 q.0 in
        h x y (first, p.1 ∙ ap s first ∙ sym q.1))

    -- the second and the third are given by the first
    pub by_first : {A B C : Type 0} {a : O → A} {b : O → B} {c : O → C} {k : A} (s : A → B) (t : A → C)
        → ((x y : O) → (a x ≡ a y) × (b x ≡ b y) × (c x ≡ c y) → E x y) → Shows E (λ x. ⌜ a x ≡ k ⌝ ∗ ⌜ b x ≡ s (a x) ⌝ ∗ ⌜ c x ≡ t (a x) ⌝)
    by_first s t h = row (λ x. and (and (id⊢ m.𝓤 _))) (λ x y p q.
        let same = settled p.0 q.0 in
        h x y (same, settled (p.1.0 ∙ ap s same) q.1.0, settled (p.1.1 ∙ ap t same) q.1.1))

  -- one fact is required, and is given
  pub over : {L : Type 0} {S : Type 1} → (emp m.𝓤 ⊢ emp m.𝓤) × S → (⌜ L ⌝ ⊢ ⌜ L ⌝ ∗ emp m.𝓤) × S
  over {L = L} s = (via m.𝓤 (emp m.𝓤 ∗ ⌜ L ⌝) (emp∗ m.𝓤 ⌜ L ⌝) (comm∗ m.𝓤 (emp m.𝓤) ⌜ L ⌝), s.1)

  -- values that borrow nothing live as long as any call
  pub anywhere : {κ lives : Lft} {R : Pr} {S : Type 1} → lives ≡ [] → (⌜ κ ⊑ lives ⌝ ⊢ R) × S → (emp m.𝓤 ⊢ R) × S
  anywhere {κ} {lives} none s =
      (via m.𝓤 ⌜ κ ⊑ lives ⌝ (fact_i m.𝓤 (κ ⊑ lives) (emp m.𝓤) (subst (λ (l : Lft). κ ⊑ l) (sym none) (⊑_static κ))) s.0, s.1)
