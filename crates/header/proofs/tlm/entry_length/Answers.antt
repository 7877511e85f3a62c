-- By the size: two bytes, or four.
use Prim.Native.Nat.{ℕ}
use mathlib.Core.Logic.{◌⊎◌, ⊎_elim}
use mathlib.Core.Path.{◌≡◌}
use Rattle.header.proofs.tlm.entry_length.Goals as goal

four : (size : ℕ) → (size ≡ 2) ⊎ (size ≡ 4) → (size ≡ 2 → ⊥) → size ≡ 4
four size h other = ⊎_elim (λ e. absurd (other e)) (λ e. e) h

pub returns-then-size-eq2 : goal.returns-then-size-eq2
returns-then-size-eq2 c = rw c.if-size-eq2.true c.read_u16.ensures

pub returns-else-size-eq2 : goal.returns-else-size-eq2
returns-else-size-eq2 c = rw (four _ c.requires.0 c.if-size-eq2.false) c.read_u32.ensures
