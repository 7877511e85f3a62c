-- What the reading says of the records that are held, and leaves of them and of the output.
use Prim.Native.Nat.{ℕ, min}
use mathlib.Core.Path.{◌≡◌, sym, ap, ap₂, ◌∙◌}
use mathlib.Core.List.{List}
use lib.ListN.{length, take}
use Rattle.std.specs.Prelude.{Result}
use Rattle.numbers.specs.Bytes.{put}
use Rattle.types.specs.Row.{rows_of}
use Rattle.types.specs.declared.TilePartEntry.{TilePartEntry}
use Rattle.header.specs.Reading.{reading_of}
use Rattle.header.specs.Parse.{parsed}
use Rattle.header.specs.declared.reading.Reading.{Reading}
use Rattle.records.specs.MainHeader.{records_after}
use Rattle.records.proofs.Answers.{length_after}
use Rattle.probe.specs.Own.{held, own}
use Rattle.probe.proofs.OwnLaws.{length_own, all_held, lent_own, left_own}
use Rattle.probe.proofs.main_header.winterhasp_header_records.Goals as goal
use Rattle.header.specs.declared.parse.MainHeaderInfo.{MainHeaderInfo}
use Rattle.types.specs.declared.Refusal.{Refusal}

pub returns-clause-table_after : goal.returns-clause-table_after
returns-clause-table_after c =
    let how : Reading = reading_of c.args.reading in
    let s : List ℕ = c.args.codestream.now in
    let room : ℕ = length c.args.out.now in
    let table : List ℕ = c.args.table.now in
    let answer = c.header_into-read.ensures.answer_value ∙ ap₂ (λ (w : Reading) (n : ℕ). parsed w s n room) c.from-how.ensures (all_held table c.count-count.ensures c.load-records.ensures) in
    let answered : (Result MainHeaderInfo Refusal) = parsed how s (held table) room in
    let kept : List TilePartEntry = records_after how.numbering answered s (own table) in
    let lent : List TilePartEntry = take (min c.count-count.result 2048) c.load-records.result in
    let read = ap₂ (λ (w : Reading) (m : Result MainHeaderInfo Refusal). records_after w.numbering m s lent) c.from-how.ensures answer
    ∙ ap (records_after how.numbering answered s) (lent_own table c.count-count.ensures c.load-records.ensures) in
    let long : length kept ≡ length (own table) =
    ap (λ (n : ℕ). length (records_after how.numbering (parsed how s n room) s (own table))) (sym (length_own table)) ∙ length_after how s (own table) room in
    let rows = ap rows_of (left_own table c.count-count.ensures c.load-records.ensures c.header_into-read.ensures.table_value read long) in
    c.store.ensures ∙ ap (put table 0) rows
