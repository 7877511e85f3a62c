-- The reads are the record's tile and its numbers, and the position its offset.
use Rattle.types.specs.declared.PartNumbers.TheVariants.{Known}
use Rattle.parts.specs.Sot.{tpsot, tnsot}
use Rattle.parts.proofs.step.entry_at.Goals as goal

pub returns : goal.returns
returns c =
    λ i. record {
      tile_index = c.read_u16-tile_index.ensures i;
      numbers = Known (tpsot c.args.codestream.now c.args.at) (tnsot c.args.codestream.now c.args.at);
      offset = record { 0 = c.at.ensures i };
      length = c.args.bytes;
    }
