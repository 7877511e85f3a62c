-- A refusal writes nothing; where a header is decided there is room, and what is then written is what the definition says, for a header without TLM
-- segments too, which is copied whole.
use native.Mathlib.Nat.{sub-zero}
use native.Mathlib.Omega.{arith}
use mathlib.Core.Path.{refl, sym, ◌∙◌}
use Rattle.std.proofs.lemmas.Result.{err_from_is_err_and}
use Rattle.types.proofs.RowStanding.{room_for}
use Rattle.header.proofs.ParseLaws.{parsed_decided, first_inside, table_put, out_put, none_written, out_plain}
use Rattle.header.specs.Parse.{table_in, out_after}
use Rattle.header.proofs.parse.parse_into.Goals as goal

pub returns-in_err-info : goal.returns-in_err-info
unfolding table_in out_after
returns-in_err-info g c =
    let p = err_from_is_err_and c.from_residual.result c.from_residual.ensures.1 in
    rw (p.1, p.2) (record { value = rw c.WIDTH.ensures at c.in_err-info.ensures; table_after = refl; out_after = refl })

-- no TLM segment
pub append-requires : goal.append-requires
append-requires g c =
    let d = parsed_decided _ _ _ _ _ (sym (rw c.WIDTH.ensures at c.in_ok-info.ensures)) in
    record { from_le_end = (omega arith, omega (arith, first_inside _ _ d.read)); from_in_bounds = omega (arith, d.read.header, d.fits) }

pub returns-then-info-first_sot : goal.returns-then-info-first_sot
returns-then-info-first_sot g c =
    let r = (parsed_decided _ _ _ _ _ (sym (rw c.WIDTH.ensures at c.in_ok-info.ensures))).read in
    let copied = rw (sub-zero, c.position.ensures) at c.append.ensures.out_after in
    record {
      value = rw c.WIDTH.ensures at c.in_ok-info.ensures;
      table_after = none_written _ _ r c.if-info-first_sot.true g.E.Element.layout _ _ ∙ table_put _ _ r g.E.Element.layout _ _;
      out_after = copied ∙ out_plain _ _ r c.if-info-first_sot.true _;
    }

pub fill_table-requires : goal.fill_table-requires
fill_table-requires g c =
    let d = parsed_decided _ _ _ _ _ (sym (rw c.WIDTH.ensures at c.in_ok-info.ensures)) in
    record { in_bounds = d.read.two; codestream_value = d.ends; codestream_in_bounds = room_for g.E.Element.layout d.many; codestream_bound = omega (arith, d.bound) }

pub strip-requires : goal.strip-requires
strip-requires g c =
    let d = parsed_decided _ _ _ _ _ (sym (rw c.WIDTH.ensures at c.in_ok-info.ensures)) in
    record { in_bounds = d.read.two; codestream_in_bounds = d.fits }

pub returns : goal.returns
returns g c =
    let r = (parsed_decided _ _ _ _ _ (sym (rw c.WIDTH.ensures at c.in_ok-info.ensures))).read in
    record { value = rw c.WIDTH.ensures at c.in_ok-info.ensures; table_after = c.fill_table.ensures ∙ table_put _ _ r g.E.Element.layout _ _; out_after = c.strip.ensures ∙ out_put _ _ r _ }
