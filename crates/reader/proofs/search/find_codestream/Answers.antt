-- At each return the tests that led there choose the case of the definition.
use native.Mathlib.Omega.{arith}
use mathlib.Core.Path.{sym, ◌∙◌}
use Rattle.reader.proofs.SearchLaws.{found_few, found_jp2, found_neither, found_whole}
use Rattle.reader.proofs.search.find_codestream.Goals as goal

pub returns-then-file-lt2 : goal.returns-then-file-lt2
returns-then-file-lt2 c = c.refuse.ensures ∙ sym (found_few _ c.if-file-lt2.true)

pub returns-then-is_jp2 : goal.returns-then-is_jp2
returns-then-is_jp2 c = c.find_jp2c.ensures ∙ sym (found_jp2 _ (omega arith) (sym c.is_jp2.ensures ∙ c.if-is_jp2.true))

pub returns-then-read_u16-ne-SOC : goal.returns-then-read_u16-ne-SOC
returns-then-read_u16-ne-SOC c =
    c.refuse-then-read_u16-ne-SOC.ensures
    ∙ sym (found_neither _ (omega arith) (sym c.is_jp2.ensures ∙ c.if-is_jp2.false) (λ e. c.if-read_u16-ne-SOC.true (c.read_u16.ensures ∙ e)))

pub returns : goal.returns
returns c =
    sym (found_whole _ (omega arith) (sym c.is_jp2.ensures ∙ c.if-is_jp2.false) (sym c.read_u16.ensures ∙ c.if-read_u16-ne-SOC.false))
