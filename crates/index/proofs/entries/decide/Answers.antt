-- The entries are given where they have room.
use mathlib.Core.Path.{◌∙◌}
use Rattle.index.proofs.EntriesLaws.{given_all, given_none}
use Rattle.index.proofs.entries.decide.Goals as goal

pub returns-then-n-room : goal.returns-then-n-room
returns-then-n-room c = given_all _ _ c.if-n-room.true

pub returns-else-n-room : goal.returns-else-n-room
returns-else-n-room c = c.needs.ensures ∙ given_none _ _ c.if-n-room.false
