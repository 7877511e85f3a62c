-- The answer stands before anything is written: a refusal leaves index and scratch, and where all fits the first parts of both are those that append takes.
use Prim.Native.Nat.{ℕ, ◌/◌, ◌-◌}
use native.Mathlib.Omega.{arith}
use mathlib.Core.Path.{◌≡◌, sym, ap, ◌∙◌}
use lib.ListN.{length}
use lib.Seq.{length-take-le}
use Rattle.std.specs.Prelude.{Result, Err}
use Rattle.std.proofs.lemmas.Result.{err_from_is_err_and}
use Rattle.types.specs.declared.Refusal.{Refusal}
use Rattle.index.specs.Extend.{old_of, index_after, scratch_after}
use Rattle.index.proofs.Extended.{Decided, index_kept, scratch_kept, Room, room, index_after_lem, scratch_after_lem}
use Rattle.index.proofs.extend.extend.Goals as goal
use Rattle.index.proofs.extend.extend.Goals.{After-decide, After-old_of-old}

-- the answer stands
decided : (g : _) (c : After-decide g) → Decided (length c.args.table.now / c.WIDTH.result) c.args.have c.args.index.now c.args.scratch.now c.decide.result
decided g c = record { is = c.decide.ensures }

-- where it accepts, all of it fits
fit : (g : _) (c : After-old_of-old g) → Room (length c.args.table.now / c.WIDTH.result) (length c.args.index.now) (length c.args.scratch.now) c.old_of-old.result
fit g c =
    let d : Decided (length c.args.table.now / c.WIDTH.result) c.args.have c.args.index.now c.args.scratch.now c.decide.result
    = record { is = c.decide.ensures } in
    room d c.in_ok-entries.was c.old_of-old.ensures

pub returns-in_err-entries : goal.returns-in_err-entries
returns-in_err-entries g c =
    let d = decided g (goal.at.returns-in_err-entries g c).After-decide in
    let es = g.E.Element.layout.within c.args.table.now in
    let n = length c.args.table.now / c.WIDTH.result in
    let p = err_from_is_err_and c.from_residual.result c.from_residual.ensures.1 in
    let same : ◌≡◌ {A = Result ℕ Refusal} c.decide.result c.from_residual.result = c.in_err-entries.was ∙ sym (p.1 ∙ ap Err p.2) in
    let wide = c.WIDTH.ensures in
    record {
      value = rw wide at (sym same ∙ d.is);
      index_after = rw wide at (index_kept d es c.in_err-entries.was ∙ ap (λ (a : Result ℕ Refusal). index_after a es (old_of c.args.have n) c.args.index.now) same);
      scratch_after = rw wide at (scratch_kept d es c.in_err-entries.was ∙ ap (λ (a : Result ℕ Refusal). scratch_after a es (old_of c.args.have n) c.args.scratch.now) same);
    }

pub overflow_sub-new : goal.overflow_sub-new
overflow_sub-new g c = omega (arith, fit g (goal.at.overflow_sub-new g c).After-old_of-old)

pub slice_bounds-append-end : goal.slice_bounds-append-end
slice_bounds-append-end g c = omega (arith, fit g (goal.at.slice_bounds-append-end g c).After-old_of-old)

pub slice_bounds-append-end-2 : goal.slice_bounds-append-end-2
slice_bounds-append-end-2 g c = sym (length-take-le _ _ (fit g (goal.at.slice_bounds-append-end-2 g c).After-old_of-old).all)

pub slice_bounds-append-end-3 : goal.slice_bounds-append-end-3
slice_bounds-append-end-3 g c = omega (arith, fit g (goal.at.slice_bounds-append-end-3 g c).After-old_of-old)

pub slice_bounds-append-end-4 : goal.slice_bounds-append-end-4
slice_bounds-append-end-4 g c = sym (length-take-le _ _ (fit g (goal.at.slice_bounds-append-end-4 g c).After-old_of-old).new)

pub append-requires : goal.append-requires
append-requires g c =
    let f = fit g (goal.at.append-requires g c).After-old_of-old in
    let n = length c.args.table.now / c.WIDTH.result in
    let one = length-take-le n c.args.index.now f.all in
    let two = length-take-le (n - c.old_of-old.result) c.args.scratch.now f.new in
    record {
      index_len = one ∙ ap (λ (w : ℕ). length c.args.table.now / w) c.WIDTH.ensures;
      index_len_2 = omega (arith, f);
      index_len_bound = omega (arith, f);
    }

pub returns : goal.returns
returns g c =
    let d = decided g (goal.at.returns g c).After-decide in
    let es = g.E.Element.layout.within c.args.table.now in
    let n = length c.args.table.now / c.WIDTH.result in
    let is = c.in_ok-entries.was in
    let wide = c.WIDTH.ensures in
    rw wide
    (record {
      value = rw wide at (sym is ∙ d.is);
      index_after = rw wide at (index_after_lem d es is c.old_of-old.ensures c.append.ensures.index_after ∙ ap (λ (a : Result ℕ Refusal). index_after a es (old_of c.args.have n) c.args.index.now) is);
      scratch_after = rw wide at (scratch_after_lem d es is c.old_of-old.ensures c.append.ensures.after ∙ ap (λ (a : Result ℕ Refusal). scratch_after a es (old_of c.args.have n) c.args.scratch.now) is);
    })
