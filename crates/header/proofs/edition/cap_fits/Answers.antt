-- The ones that the language counts are the definition's.
use Prim.Native.Nat.{ℕ, ◌<◌}
use native.Mathlib.Omega.{arith}
use mathlib.Core.Path.{sym}
use lib.ListN.{get_or}
use Rattle.header.specs.Step.{segment_end}
use Rattle.header.proofs.EditionLaws.{fits_short, fits_counted}
use Rattle.header.proofs.edition.cap_fits.Goals as goal

pub returns-then-lcap-lt6 : goal.returns-then-lcap-lt6
returns-then-lcap-lt6 c = sym (fits_short _ _ (omega (arith, c.read_u16-lcap.ensures, c.if-lcap-lt6.true)))

pub read_u32-requires : goal.read_u32-requires
unfolding segment_end
read_u32-requires c = omega (arith, c.requires.ends, c.read_u16-lcap.ensures, c.if-lcap-lt6.false)

pub returns : goal.returns
returns c =
    let bytes : (i : ℕ) → get_or c.args.codestream.now i 0 < 256 = λ i. omega (arith, c.type_inv.codestream i) in
    let counted = fits_counted c.args.codestream.now c.args.at bytes (omega (arith, c.read_u16-lcap.ensures, c.if-lcap-lt6.false)) in
    rw (c.read_u16-lcap.ensures, c.read_u32.ensures) (sym counted)
