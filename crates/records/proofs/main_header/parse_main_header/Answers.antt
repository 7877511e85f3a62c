-- A record is one item of the table.
use Prim.Native.Nat.{ℕ}
use native.Mathlib.Nat.{div-one}
use mathlib.Core.Path.{ap, ◌∙◌}
use lib.ListN.{length}
use Rattle.header.specs.Parse.{parsed}
use Rattle.records.proofs.Answers.{header_records}
use Rattle.records.proofs.main_header.parse_main_header.Goals as goal

pub returns : goal.returns
returns c =
    let e = c.parse_into.ensures in
    record {
      value = e.value ∙ ap (λ (n : ℕ). parsed c.args.reading c.args.codestream.now n (length c.args.out.now)) (div-one (length c.args.table.now));
      table_after = e.table_after ∙ header_records _ _ _ _;
      out_after = e.out_after;
    }
