-- At each return the tests that led there choose the case of the definition.
use Prim.Native.Nat.{ℕ, ◌+◌, ◌≤◌}
use native.Mathlib.Omega.{arith}
use mathlib.Core.List.{List}
use mathlib.Core.Path.{◌≡◌, sym, ap, ◌∙◌}
use lib.ListN.{length}
use Rattle.std.specs.Prelude.{Some}
use Rattle.numbers.specs.Bytes.{be}
use Rattle.parts.proofs.SplitLaws.{step_few, step_other, step_part, end_rest, end_past, end_psot}
use Rattle.parts.specs.Split.{part_end, split_step_at}
use Rattle.parts.proofs.split.split_step.Goals as goal
use Rattle.parts.proofs.split.split_step.Goals.{then-psot-eq0-via-then-psot-eq0, then-psot-eq0-via-else-psot-eq0+then-rest-psot}

-- where a part stands
module _ (tile : List ℕ) (at : ℕ) {first : ℕ} (room : at + 12 ≤ length tile) (marker : first ≡ 65424) (read : first ≡ be 2 tile at) where
  part : split_step_at tile at ≡ Some (part_end tile at)
  part = step_part tile at room (sym read ∙ marker)

pub returns-then-rest-lt-SOT_SEGMENT : goal.returns-then-rest-lt-SOT_SEGMENT
returns-then-rest-lt-SOT_SEGMENT c = sym (step_few _ _ (omega arith))

pub returns-then-read_u16 : goal.returns-then-read_u16
returns-then-read_u16 c = sym (step_other _ _ (omega arith) (λ e. c.if-read_u16.true (c.read_u16.ensures ∙ e)))

pub returns-then-psot-eq0 : goal.returns-then-psot-eq0
returns-then-psot-eq0 c =
    let r = part _ _ (omega arith) c.if-read_u16.false c.read_u16.ensures in
    elim c.then-psot-eq0.branch [
      | then-psot-eq0-via-then-psot-eq0 w ↦ sym (r ∙ ap Some (end_rest _ _ (sym c.read_u32-psot.ensures ∙ w.if-psot-eq0.true)))
      | then-psot-eq0-via-else-psot-eq0+then-rest-psot w ↦
          sym (r ∙ ap Some (end_past _ _ (λ e. w.if-psot-eq0.false (c.read_u32-psot.ensures ∙ e)) (omega arith)))
    ]

pub returns : goal.returns
returns c =
    let r = part _ _ (omega arith) c.if-read_u16.false c.read_u16.ensures in
    ap (λ (n : ℕ). Some (c.args.at + n)) c.read_u32-psot.ensures
    ∙ sym (r ∙ ap Some (end_psot _ _ (λ e. c.if-psot-eq0.false (c.read_u32-psot.ensures ∙ e)) (omega arith)))
