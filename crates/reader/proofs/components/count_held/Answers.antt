-- Both fields are the definition's, and Csiz lies inside once Lsiz is 41 or more.
use Prim.Native.Nat.{ℕ, ◌+◌, ◌*◌}
use native.Mathlib.Omega.{arith}
use mathlib.Core.Path.{sym, ap, ◌∙◌}
use lib.Dec.{leb}
use borrow.Author.Tests.{ne_eqb}
use Rattle.reader.proofs.ComponentsLaws.{whole_fits, count_short, count_other, count_most}
use Rattle.reader.proofs.components.count_held.Goals as goal

pub read_u16-lsiz-requires : goal.read_u16-lsiz-requires
read_u16-lsiz-requires c = (whole_fits _ c.requires).0

pub returns-then-lsiz-lt41 : goal.returns-then-lsiz-lt41
returns-then-lsiz-lt41 c = sym (count_short _ (omega (arith, c.if-lsiz-lt41.true, c.read_u16-lsiz.ensures)))

pub read_u16-csiz-requires : goal.read_u16-csiz-requires
read_u16-csiz-requires c = omega (arith, (whole_fits _ c.requires).1, c.if-lsiz-lt41.false, c.read_u16-lsiz.ensures)

pub returns-then-lsiz-csiz : goal.returns-then-lsiz-csiz
returns-then-lsiz-csiz c =
    let counted = sym c.read_u16-lsiz.ensures ∙ c.if-lsiz-csiz.true ∙ ap (λ (n : ℕ). 38 + 3 * n) c.read_u16-csiz.ensures in
    ap (λ (n : ℕ). leb n 16384) c.read_u16-csiz.ensures
    ∙ sym (count_most _ (omega (arith, c.if-lsiz-lt41.false, c.read_u16-lsiz.ensures)) counted)

pub returns-else-lsiz-csiz : goal.returns-else-lsiz-csiz
returns-else-lsiz-csiz c =
    let counted = ap (λ (n : ℕ). 38 + 3 * n) (sym c.read_u16-csiz.ensures) in
    ne_eqb _ _ c.if-lsiz-csiz.false
    ∙ sym (count_other _ (omega (arith, c.if-lsiz-lt41.false, c.read_u16-lsiz.ensures)) (λ p. c.if-lsiz-csiz.false (c.read_u16-lsiz.ensures ∙ p ∙ counted)))
