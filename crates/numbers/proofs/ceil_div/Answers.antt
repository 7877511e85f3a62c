-- What std gives is the definition's.
use mathlib.Core.Path.{◌∙◌}
use Rattle.numbers.proofs.BytesLaws.{ceil_std}
use Rattle.numbers.proofs.ceil_div.Goals as goal

pub returns : goal.returns
returns c = c.div_ceil.ensures ∙ ceil_std c.args.whole c.requires
