-- By whether the scan is refused, a tile-part is left, and an entry is.
use Prim.Native.Nat.{ℕ, ◌<◌}
use native.Mathlib.Omega.{arith}
use mathlib.Core.Path.{◌≡◌, sym, ap, ◌∙◌}
use Rattle.std.specs.Prelude.{Ok}
use Rattle.std.proofs.lemmas.Result.{err_from_is_err_and}
use Rattle.header.proofs.WalkLaws.{by_is_none}
use Rattle.parts.proofs.ScanLaws.{entries_next}
use Rattle.lengths.proofs.AgreeLaws.{rest_refused, rest_accepted, rest_counted, settled_part, settled_entry, settled_passes}
use Rattle.lengths.proofs.check.settle.Goals as goal
use Rattle.lengths.proofs.check.settle.Goals.{then-left-ne0, else-left-ne0+else-is_none}

-- a tile-part is left
some : {left n : ℕ} → left ≡ n → (left ≡ 0 → ⊥) → 0 < n
some is other = omega arith

-- none is left
none : {left n : ℕ} → left ≡ n → left ≡ 0 → n ≡ 0
none is zero = omega arith

pub returns-in_err-left : goal.returns-in_err-left
returns-in_err-left c =
    let p = err_from_is_err_and c.from_residual.result c.from_residual.ensures.1 in
    rw (p.1, p.2) (sym (rest_refused _ _ _ _ (sym c.in_err-left.ensures)))

pub part_at-requires : goal.part_at-requires
part_at-requires c = (entries_next _ _ (some (rest_counted _ _ _ (sym c.in_ok-left.ensures)) c.if-left-ne0.true)).room

pub returns-then-is_none : goal.returns-then-is_none
returns-then-is_none c =
    let left = sym c.in_ok-left.ensures in
    ap Ok (settled_passes _ _ _ (by_is_none _ c.if-is_none.ensures) (none (rest_counted _ _ _ left) c.if-left-ne0.false))
    ∙ sym (rest_accepted _ _ _ _ left)

pub returns : goal.returns
returns c =
    let a = c.args in
    let left = sym c.in_ok-left.ensures in
    let counted = rest_counted _ _ _ left in
    elim c.if-left-ne0.branch [
      | then-left-ne0 w ↦
          rw (w.standing-is, w.from.ensures)
          (ap Ok (settled_part a.codestream.now a.stop.number a.at c.at.ensures a.stop.listed w.part_at.ensures (some counted w.if-left-ne0.true)))
      | else-left-ne0+else-is_none w ↦
          rw w.standing-is
          (ap Ok (settled_entry a.codestream.now a.stop.number a.at c.at.ensures a.stop.listed w.if-is_none.ensures (none counted w.if-left-ne0.false)))
    ]
    ∙ sym (rest_accepted _ _ _ _ left)
