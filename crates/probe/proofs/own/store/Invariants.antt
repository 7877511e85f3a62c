-- The records up to here stand as rows; each turn is one record.
use Prim.Native.Nat.{◌-◌, ◌*◌, ◌≤◌}
use mathlib.Core.Path.{◌≡◌}
use lib.ListN.{length, take}
use Rattle.numbers.specs.Bytes.{put}
use Rattle.types.specs.Row.{row_bytes, rows_of}
use Rattle.probe.proofs.own.store.Given as goal

abbrev pub invariant-loop-i : goal.invariant-loop-i
invariant-loop-i l =
    (l.i ≤ l.count) × (l.at ≡ row_bytes * l.i) × (length l.rows ≡ length l.initial.rows) × (l.rows ≡ put l.initial.rows 0 (rows_of (take l.i l.table)))

abbrev pub decreases-loop-i : goal.decreases-loop-i
decreases-loop-i l = l.count - l.i
