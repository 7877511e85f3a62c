-- Each arm's numbers are the definition's, at the answer that was matched.
use mathlib.Core.Path.{refl}
use Rattle.header.proofs.parse.tell.Goals as goal

pub returns-in-Ok : goal.returns-in-Ok
returns-in-Ok c = rw c.in-Ok.is record { value = refl; first_sot_after = refl; decode_length_after = refl; entries_after = refl; fillers_after = refl }

pub returns-in-Err : goal.returns-in-Err
returns-in-Err c = rw c.in-Err.is record { value = c.number.ensures; first_sot_after = refl; decode_length_after = refl; entries_after = refl; fillers_after = refl }
