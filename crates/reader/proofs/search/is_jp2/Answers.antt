-- The signature's first eight bytes and its last four, joined.
use native.Mathlib.Omega.{arith}
use mathlib.Core.Path.{sym, ap, ◌∙◌}
use lib.Dec.{eqb}
use borrow.Author.Tests.{lt-leb, ne_eqb}
use Rattle.reader.proofs.SearchLaws.{jp2_short, jp2_other, jp2_last}
use Rattle.reader.proofs.search.is_jp2.Goals as goal

pub returns-then-read_u64-eq53323243552 : goal.returns-then-read_u64-eq53323243552
returns-then-read_u64-eq53323243552 c =
    ap (λ n. eqb n 0x0d0a_870a) c.read_u32.ensures
    ∙ sym (jp2_last c.args.file.now (omega arith) (λ i. omega (arith, c.type_inv.file i)) (sym c.read_u64.ensures ∙ c.if-read_u64-eq53323243552.true))

pub returns-else-read_u64-eq53323243552 : goal.returns-else-read_u64-eq53323243552
returns-else-read_u64-eq53323243552 c =
    ne_eqb _ _ c.if-read_u64-eq53323243552.false
    ∙ sym (jp2_other c.args.file.now (omega arith) (λ i. omega (arith, c.type_inv.file i)) (λ e. c.if-read_u64-eq53323243552.false (c.read_u64.ensures ∙ e)))

pub returns-else-file-ge12 : goal.returns-else-file-ge12
returns-else-file-ge12 c = lt-leb _ _ c.if-file-ge12.false ∙ sym (jp2_short _ c.if-file-ge12.false)
