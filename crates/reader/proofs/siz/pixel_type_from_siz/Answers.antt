-- The ranges, in the definition's order.
use native.Mathlib.Omega.{arith}
use mathlib.Core.Path.{sym}
use Rattle.reader.proofs.SizLaws.{sample_8, sample_16, sample_32, sample_none, sample_many}
use Rattle.reader.proofs.siz.pixel_type_from_siz.Goals as goal

pub returns-then-signed : goal.returns-then-signed
returns-then-signed c = rw c.if-signed.true (sym (sample_8 _ _ (omega arith) (omega arith)))

pub returns-else-signed : goal.returns-else-signed
returns-else-signed c = rw c.if-signed.false (sym (sample_8 _ _ (omega arith) (omega arith)))

pub returns-then-signed-2 : goal.returns-then-signed-2
returns-then-signed-2 c = rw c.if-signed-2.true (sym (sample_16 _ _ (omega arith) (omega arith)))

pub returns-else-signed-2 : goal.returns-else-signed-2
returns-else-signed-2 c = rw c.if-signed-2.false (sym (sample_16 _ _ (omega arith) (omega arith)))

pub returns-then-signed-3 : goal.returns-then-signed-3
returns-then-signed-3 c = rw c.if-signed-3.true (sym (sample_32 _ _ (omega arith) (omega arith)))

pub returns-else-signed-3 : goal.returns-else-signed-3
returns-else-signed-3 c = rw c.if-signed-3.false (sym (sample_32 _ _ (omega arith) (omega arith)))

pub returns-in_default : goal.returns-in_default
returns-in_default c = sym (sample_none _ _ (omega arith))

pub returns-in_default-2 : goal.returns-in_default-2
returns-in_default-2 c = sym (sample_many _ _ (omega arith))
