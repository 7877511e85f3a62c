-- A test for each thing that may be too small.
use native.Mathlib.Omega.{arith}
use mathlib.Core.Path.{◌∙◌}
use Rattle.index.proofs.Extended.{old_within, too_many, no_room, no_scratch, all_fit}
use Rattle.index.proofs.extend.decide.Goals as goal
use Rattle.index.proofs.extend.decide.Goals.{then-n-gt-ENTRIES-via-then-n-gt-ENTRIES, then-n-gt-ENTRIES-via-else-n-gt-ENTRIES+then-room-n, then-n-gt-ENTRIES-via-else-n-gt-ENTRIES+else-room-n+then-scratch-n}

pub overflow_sub-n : goal.overflow_sub-n
overflow_sub-n c = omega (arith, old_within c.args.have c.args.n)

pub returns-then-n-gt-ENTRIES : goal.returns-then-n-gt-ENTRIES
returns-then-n-gt-ENTRIES c =
    elim c.then-n-gt-ENTRIES.branch [
      | then-n-gt-ENTRIES-via-then-n-gt-ENTRIES w ↦ c.needs.ensures ∙ too_many c.args.n c.args.have c.args.room c.args.scratch (omega arith)
      | then-n-gt-ENTRIES-via-else-n-gt-ENTRIES+then-room-n w ↦
          c.needs.ensures ∙ no_room c.args.n c.args.have c.args.room c.args.scratch (omega arith) (omega arith)
      | then-n-gt-ENTRIES-via-else-n-gt-ENTRIES+else-room-n+then-scratch-n w ↦
          c.needs.ensures ∙ no_scratch c.args.n c.args.have c.args.room c.args.scratch (omega arith) (omega arith) (omega arith)
    ]

pub returns : goal.returns
returns c =
    all_fit c.args.n c.args.have c.args.room c.args.scratch (omega arith) (omega arith) (omega arith)
