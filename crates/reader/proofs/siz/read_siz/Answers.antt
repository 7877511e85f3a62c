-- At each return the tests that led there choose the case of the definition.
use native.Mathlib.Omega.{arith}
use mathlib.Core.Path.{sym, ◌∙◌}
use Rattle.reader.proofs.SizLaws.{siz_short, siz_left, siz_above, siz_info, info_of_lem}
use Rattle.reader.proofs.siz.read_siz.Goals as goal
use Rattle.reader.proofs.siz.read_siz.Goals.{then-xsiz-xosiz-via-then-xsiz-xosiz, then-xsiz-xosiz-via-else-xsiz-xosiz+then-ysiz-yosiz}

pub returns-then-saturating_sub-lt41 : goal.returns-then-saturating_sub-lt41
returns-then-saturating_sub-lt41 c = c.refuse.ensures ∙ sym (siz_short _ _ (omega arith))

pub returns-then-xsiz-xosiz : goal.returns-then-xsiz-xosiz
returns-then-xsiz-xosiz c =
    elim c.then-xsiz-xosiz.branch [
      | then-xsiz-xosiz-via-then-xsiz-xosiz w ↦ c.refuse-then-xsiz-xosiz.ensures ∙ sym (siz_left _ _ (omega arith) (omega arith))
      | then-xsiz-xosiz-via-else-xsiz-xosiz+then-ysiz-yosiz w ↦
          c.refuse-then-xsiz-xosiz.ensures ∙ sym (siz_above _ _ (omega arith) (omega arith) (omega arith))
    ]

pub returns : goal.returns
returns c =
    info_of_lem _ _ c.read_u32-xsiz.ensures c.read_u32-ysiz.ensures c.read_u32-xosiz.ensures c.read_u32-yosiz.ensures c.read_u16-csiz.ensures
    ∙ sym (siz_info _ _ (omega arith) (omega arith) (omega arith))
