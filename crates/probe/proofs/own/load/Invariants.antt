-- The rows up to here stand as records; each turn is one row.
use Prim.Native.Nat.{◌-◌, ◌*◌, ◌≤◌}
use mathlib.Core.Path.{◌≡◌}
use Rattle.numbers.specs.Bytes.{put}
use Rattle.types.specs.Row.{row_bytes, records_at}
use Rattle.records.specs.Tables.{blank}
use Rattle.probe.proofs.own.load.Given as goal

abbrev pub invariant-loop-i : goal.invariant-loop-i
invariant-loop-i l = (l.i ≤ l.count) × (l.at ≡ row_bytes * l.i) × (l.table ≡ put blank 0 (records_at l.i l.rows 0))

abbrev pub decreases-loop-i : goal.decreases-loop-i
decreases-loop-i l = l.count - l.i
