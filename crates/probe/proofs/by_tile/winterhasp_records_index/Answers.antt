-- What is told and left of the records that are held.
use Prim.Native.Nat.{ℕ}
use mathlib.Core.Path.{◌≡◌, ap, ap₂, ◌∙◌}
use mathlib.Core.List.{List}
use lib.ListN.{length}
use Rattle.std.specs.Prelude.{Result}
use Rattle.types.specs.declared.TilePartEntry.{TilePartEntry}
use Rattle.index.specs.Extend.{old_of, extended, index_after, scratch_after}
use Rattle.probe.specs.Own.{held, own}
use Rattle.probe.proofs.OwnLaws.{all_held, lent_own}
use Rattle.probe.proofs.by_tile.winterhasp_records_index.Goals as goal
use Rattle.probe.proofs.by_tile.winterhasp_records_index.Goals.{After-index_within-answer}
use Rattle.types.specs.declared.Refusal.{Refusal}

-- the entries are those of the records that are held
answered : (c : After-index_within-answer)
    → c.index_within-answer.result ≡ extended (held c.args.table.now) c.args.have (length c.args.index.now) (length c.args.scratch.now)
answered c =
    c.index_within-answer.ensures.value
    ∙ ap (λ (n : ℕ). extended n c.args.have (length c.args.index.now) (length c.args.scratch.now)) (all_held c.args.table.now c.count-count.ensures c.load-records.ensures)

pub returns-clause-index_after : goal.returns-clause-index_after
returns-clause-index_after c =
    let records = lent_own c.args.table.now c.count-count.ensures c.load-records.ensures in
    let many = all_held c.args.table.now c.count-count.ensures c.load-records.ensures in
    c.index_within-answer.ensures.index_after
    ∙ ap₂ (λ (es : List TilePartEntry) (n : ℕ). index_after c.index_within-answer.result es (old_of c.args.have n) c.args.index.now) records many
    ∙ ap (λ (r : Result ℕ Refusal). index_after r (own c.args.table.now) (old_of c.args.have (held c.args.table.now)) c.args.index.now) (answered (goal.at.returns-clause-index_after c).After-index_within-answer)

pub returns-clause-scratch_after : goal.returns-clause-scratch_after
returns-clause-scratch_after c =
    let records = lent_own c.args.table.now c.count-count.ensures c.load-records.ensures in
    let many = all_held c.args.table.now c.count-count.ensures c.load-records.ensures in
    c.index_within-answer.ensures.scratch_after
    ∙ ap₂ (λ (es : List TilePartEntry) (n : ℕ). scratch_after c.index_within-answer.result es (old_of c.args.have n) c.args.scratch.now) records many
    ∙ ap (λ (r : Result ℕ Refusal). scratch_after r (own c.args.table.now) (old_of c.args.have (held c.args.table.now)) c.args.scratch.now) (answered (goal.at.returns-clause-scratch_after c).After-index_within-answer)
