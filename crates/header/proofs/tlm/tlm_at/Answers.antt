-- 4 before 5; what is left is accepted.
use native.Mathlib.Omega.{arith}
use mathlib.Core.Path.{sym, ap, ◌∙◌}
use Rattle.std.specs.Prelude.{Ok}
use Rattle.header.proofs.TlmLaws.{tlm_short, tlm_unknown, tlm_entries_lem}
use Rattle.header.specs.Tlm.{entry_count}
use Rattle.header.specs.Step.{segment_end}
use Rattle.header.proofs.tlm.tlm_at.Goals as goal

pub returns-then-ltlm-lt4 : goal.returns-then-ltlm-lt4
returns-then-ltlm-lt4 c = sym (tlm_short _ _ (omega (arith, c.read_u16-ltlm.ensures)))

pub bounds-codestream-at : goal.bounds-codestream-at
unfolding segment_end
bounds-codestream-at c = omega (arith, c.read_u16-ltlm.ensures)

pub returns-then-index_size-eq3 : goal.returns-then-index_size-eq3
returns-then-index_size-eq3 c =
    sym (tlm_unknown _ _ (omega arith) (sym c.index_size.ensures ∙ c.if-index_size-eq3.true))

pub returns : goal.returns
unfolding entry_count
returns c =
    ap Ok (c.whole_entries.ensures ∙ rw c.read_u16-ltlm.ensures)
    ∙ sym (tlm_entries_lem _ _ (omega arith) (λ e. c.if-index_size-eq3.false (c.index_size.ensures ∙ e)))
