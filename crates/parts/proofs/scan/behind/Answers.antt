-- It is a table that is too small, or it is not, as in the definition.
use Rattle.std.proofs.Common.{sym, ap}
use Rattle.types.specs.Refusals.{refusal}
use Rattle.parts.specs.Begin.{place_behind, refused_behind}
use Rattle.parts.proofs.BeginAnswers.{place_same}
use Rattle.parts.proofs.scan.behind.Goals as goal

pub returns-in-TableTooSmall : goal.returns-in-TableTooSmall
unfolding refused_behind
returns-in-TableTooSmall c = let r = c.args.refusal in ap (λ why. refusal r.reason (place_behind why c.args.count r.place)) (sym c.in-TableTooSmall.is)

pub returns-in_default : goal.returns-in_default
unfolding refused_behind
returns-in_default c = let r = c.args.refusal in sym (ap (refusal r.reason) (place_same r.reason c.args.count r.place c.in_default.not-TableTooSmall))
