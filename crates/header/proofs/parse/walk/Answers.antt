-- What was counted so far, with what lies ahead, is the whole count.
use Prim.Native.Nat.{◌-◌}
use native.Mathlib.Omega.{arith}
use mathlib.Core.Path.{◌≡◌, sym, ap, ◌∙◌}
use Rattle.std.specs.Prelude.{Some, Ok}
use Rattle.std.proofs.lemmas.Result.{err_from_is_err_and}
use Rattle.header.specs.Walk.{walk_step_at}
use Rattle.header.proofs.WalkVisited.{entries_few}
use Rattle.header.proofs.WalkLaws.{passed_is}
use Rattle.header.proofs.ParseCounting.{bool_number, fits_more, counting_start, counting_plain, counting_tlm, counted_found, counted_refused, counted_26}
use Rattle.header.proofs.parse.walk.Goals as goal
use Rattle.header.proofs.parse.walk.Goals.{In-Some}

-- what the step passed
found : (c : In-Some) → walk_step_at c.args.codestream.now c.loop-passed.at ≡ Ok (Some c.in-Some.passed)
found c = sym c.in_ok-passed.ensures ∙ ap Ok c.in-Some.is

pub loop-passed-init : goal.loop-passed-init
loop-passed-init c = counting_start _ _ c.requires.0

pub returns-in_err-passed : goal.returns-in_err-passed
returns-in_err-passed c =
    let l = c.loop-passed in
    let p = err_from_is_err_and c.from_residual.result c.from_residual.ensures.1 in
    rw (p.1, p.2) (sym (counted_refused _ _ l.at l.stripped l.entries l.fillers l.first l.invariant _ (sym c.in_err-passed.ensures)))

-- at an SOT
pub returns-in_default : goal.returns-in_default
returns-in_default c =
    let l = c.loop-passed in
    (λ i. Ok (record {
      first_sot_offset = record { 0 = c.at.ensures i };
      decode_header_length = l.at - l.stripped;
      tlm_entries = l.entries;
      fillers = l.fillers;
    }))
    ∙ sym (counted_found _ _ l.at l.stripped l.entries l.fillers l.first l.invariant (sym c.in_ok-passed.ensures ∙ ap Ok c.in_default.is))

pub overflow_add-fillers : goal.overflow_add-fillers
overflow_add-fillers c =
    let i = c.loop-passed.invariant in
    fits_more _ c.in-Some.passed.is_filler (omega (arith, i.least, i.inside, c.requires.1))

-- a TLM segment
pub next_number-first-requires : goal.next_number-first-requires
next_number-first-requires c =
    let tlm = (passed_is _ _ _ (found (goal.at.next_number-first-requires c).In-Some)).tlm _ c.in-Some-tlm.is in
    record { accepted = tlm.accepted; count_value = tlm.count; first_bound = c.loop-passed.invariant.small }

pub returns-then-first-gt65535 : goal.returns-then-first-gt65535
returns-then-first-gt65535 c =
    let l = c.loop-passed in
    let f = found (goal.at.returns-then-first-gt65535 c).In-Some in
    sym (counted_26 _ _ l.at l.stripped l.entries l.fillers l.first l.invariant _ f c.in-Some-tlm.is (omega (arith, c.next_number-first.ensures, c.if-first-gt65535.true)))

pub overflow_sub-stripped : goal.overflow_sub-stripped
overflow_sub-stripped c =
    let told = passed_is _ _ _ (found (goal.at.overflow_sub-stripped c).In-Some) in
    omega (arith, told.past)

pub overflow_add-stripped : goal.overflow_add-stripped
overflow_add-stripped c =
    let told = passed_is _ _ _ (found (goal.at.overflow_add-stripped c).In-Some) in
    omega (arith, told.past, told.inside, c.loop-passed.invariant)

pub overflow_add-entries : goal.overflow_add-entries
overflow_add-entries c =
    let f = found (goal.at.overflow_add-entries c).In-Some in
    let few = entries_few _ _ _ f c.in-Some-tlm.is in
    let told = passed_is _ _ _ f in
    omega (arith, told.inside, c.loop-passed.invariant.few, few)

pub loop-passed-smaller-else-first-gt65535 : goal.loop-passed-smaller-else-first-gt65535
loop-passed-smaller-else-first-gt65535 c =
    let told = passed_is _ _ _ (found (goal.at.loop-passed-smaller-else-first-gt65535 c).In-Some) in
    omega (arith, told.past, told.inside)

pub loop-passed-preserved-else-first-gt65535 : goal.loop-passed-preserved-else-first-gt65535
loop-passed-preserved-else-first-gt65535 c =
    let l = c.loop-passed in
    let f = found (goal.at.loop-passed-preserved-else-first-gt65535 c).In-Some in
    counting_tlm _ _ l.at l.stripped l.entries l.fillers l.first l.invariant _ f _ (bool_number c.in-Some.passed.is_filler)
    c.next_number-first.ensures (omega (arith, c.if-first-gt65535.false)) c.in-Some-tlm.is

-- anything else
pub loop-passed-smaller : goal.loop-passed-smaller
loop-passed-smaller c =
    let told = passed_is _ _ _ (found (goal.at.loop-passed-smaller c).In-Some) in
    omega (arith, told.past, told.inside)

pub loop-passed-preserved : goal.loop-passed-preserved
loop-passed-preserved c =
    let l = c.loop-passed in
    let f = found (goal.at.loop-passed-preserved c).In-Some in
    counting_plain _ _ l.at l.stripped l.entries l.fillers l.first l.invariant _ f _ (bool_number c.in-Some.passed.is_filler) c.in_default-tlm.is
