-- What was counted and what the keys from here on say are all entries; each turn is one key.
use Rattle.index.proofs.EntriesLaws.{Told, none_counted, one_counted, skip_counted, all_counted}
use Rattle.index.proofs.entries.count.Goals as goal
use Rattle.index.proofs.entries.count.Goals.{then-is_there, else-is_there}

pub loop-key-init : goal.loop-key-init
loop-key-init c = none_counted

pub loop-key-preserved : goal.loop-key-preserved
loop-key-preserved c =
    -- the key here was looked up
    let told : Told c.args.tile c.args.table.now c.args.run.now c.loop-key.key-index c.is_there.result = record { inside = c.loop-key-test.true; is = c.is_there.ensures } in
    elim c.if-is_there.branch [
      | then-is_there w ↦ one_counted told w.if-is_there.true w.n-is c.loop-key.invariant
      | else-is_there w ↦ skip_counted told w.if-is_there.false w.n-is c.loop-key.invariant
    ]

pub returns : goal.returns
returns c = all_counted c.loop-key-test.false c.loop-key.invariant
