-- The part is copied; where it has an Isot that is replaced in the copy.
use Prim.Native.Nat.{ℕ, ◌+◌}
use native.Mathlib.Omega.{arith}
use mathlib.Core.List.{List}
use mathlib.Core.Path.{sym, ap, ◌∙◌}
use borrow.Author.Rules.{rules}
use Rattle.tile.proofs.AssemblyLaws.{sot_long, patched_sot, patched_other}
use Rattle.numbers.specs.Bytes.{bytes_of, put}
use Rattle.numbers.proofs.BytesLaws.{length_bytes, put_inside}
use Rattle.tile.proofs.assembly.write_part.Goals as goal

pub write_u16-requires : goal.write_u16-requires
write_u16-requires c = omega (arith, sot_long _ (sym c.is_sot.ensures ∙ c.if-is_sot.true))

pub returns-then-is_sot : goal.returns-then-is_sot
returns-then-is_sot c =
    let sot = sym c.is_sot.ensures ∙ c.if-is_sot.true in
    c.write_u16.ensures ∙ ap (λ (s : List ℕ). put s (c.args.at + 4) (bytes_of 2 0)) c.copy_at.ensures.out_after
    ∙ put_inside c.args.out.now c.args.at c.args.part.now 4 (bytes_of 2 0) (omega (arith, length_bytes 2 0, sot_long _ sot)) (search rules)
    ∙ ap (put c.args.out.now c.args.at) (sym (patched_sot _ sot))

pub returns-else-is_sot : goal.returns-else-is_sot
returns-else-is_sot c =
    c.copy_at.ensures.out_after ∙ ap (put c.args.out.now c.args.at) (sym (patched_other _ (sym c.is_sot.ensures ∙ c.if-is_sot.false)))
