-- The walk that counts: what was stripped, the entries, the fillers and the numbers given so far, with what lies ahead, are those of the whole walk.
use Prim.Native.Nat.{ℕ, ◌+◌, ◌-◌, ◌^◌, ◌≤◌, ◌<◌}
use native.Mathlib.Nat.{zero-add}
use native.Mathlib.Omega.{arith}
use mathlib.Core.Path.{◌≡◌, refl, sym, ap, ◌∙◌}
use mathlib.Core.Bool.{Bool, true, false, cond}
use mathlib.Core.List.{List, []}
use lib.ListN.{length, take, drop, length-append, length-take}
use mir.Val.{bool_byte, Fits}
use mir.Syntax.{w64}
use Rattle.std.specs.Prelude.{Some, None, Ok, Err}
use Rattle.types.specs.Refusals.{refusal}
use Rattle.types.specs.declared.Refusal.{Refusal}
use Rattle.chain.specs.Chain.{Chain}
use Rattle.header.specs.Tlm.{Entry, entries_in}
use Rattle.header.specs.Walk.{WalkEnd, walk_step_at, walk_from}
use Rattle.header.specs.Strip.{fillers, kept, decode_header, tlm_entries}
use Rattle.header.specs.Numbering.{next_number, ended_by}
use Rattle.header.specs.Parse.{read_as}
use Rattle.header.specs.declared.numbering.Numbering.{Numbering}
use Rattle.header.specs.declared.walk.Passed.{Passed as Passing}
use Rattle.header.proofs.TlmLaws.{length_entries}
use Rattle.header.proofs.WalkLaws.{passed_is, walk_found, walk_refused}
use Rattle.header.proofs.NumberingLaws.{end_from, end_plain, end_tlm, end_26}
use Rattle.header.proofs.WalkVisited.{stopped_on, kept_from, entries_from, fillers_from, fillers_on, kept_plain, entries_plain, kept_tlm, entries_tlm, entries_few, length_visited}
use Rattle.types.specs.declared.Reason.TheVariants.{TlmTooManyEntries}

pub record Counting (n : Numbering) (s : List ℕ) (at stripped entries filler number : ℕ) : Type 0 where
  pub inside : at ≤ length s
  pub before : stripped + 2 ≤ at
  pub few : entries ≤ at
  pub header : length (kept_from s at) + (at - stripped) ≡ length (decode_header s (walk_from s 2).visits)
  pub records : entries + length (entries_from s at) ≡ length (entries_from s 2)
  pub least : filler ≤ at
  pub fill : filler + fillers_from s at ≡ fillers_from s 2
  pub stops : (walk_from s at).stopped ≡ (walk_from s 2).stopped
  pub small : number ≤ 65_535
  pub ends : end_from n s number at ≡ end_from n s 0 2

pub counting_start : (n : Numbering) (s : List ℕ) → 2 ≤ length s → Counting n s 2 0 0 0 0
unfolding decode_header
counting_start n s h =
    record {
      inside = h;
      before = omega arith;
      few = omega arith;
      header = simp (length-append, length-take) (omega arith);
      records = zero-add _;
      least = omega arith;
      fill = zero-add _;
      stops = refl;
      small = omega arith;
      ends = refl;
    }

-- a test as a number: one more, or none
pub bool_number : (b : Bool) → bool_byte b ≡ cond b 1 0
bool_number true = refl
bool_number false = refl

pub fits_more : (n : ℕ) (b : Bool) → n < 2 ^ 32 → Fits w64 (n + bool_byte b)
fits_more n true h = omega arith
fits_more n false h = omega arith

one_at_most : (b : Bool) → cond b 1 0 ≤ 1
one_at_most true = omega arith
one_at_most false = omega arith

module _ (n : Numbering) (s : List ℕ) (at stripped entries filler number : ℕ) (c : Counting n s at stripped entries filler number) (p : Passing)
    (found : walk_step_at s at ≡ Ok (Some p)) (more : ℕ) (fills : more ≡ cond p.is_filler 1 0) where
  pub counting_plain : p.tlm ≡ None → Counting n s p.next stripped entries (filler + more) number
  counting_plain plain =
      let told = passed_is s at p found in
      let past = told.past in
      let inside = told.inside in
      let longer = ap length (kept_plain s at p found plain) ∙ length-append (take (p.next - at) (drop at s)) (kept_from s p.next) in
      record {
        inside = inside;
        before = omega (arith, c.before);
        few = omega (arith, c.few);
        header = omega (arith, c.header, c.before, longer, length_visited s at p.next inside);
        records = ap (λ (es : List Entry). entries + length es) (sym (entries_plain s at p found plain)) ∙ c.records;
        least = omega (arith, c.least, fills, one_at_most p.is_filler);
        fill = omega (arith, c.fill, fills, fillers_on s at p found);
        stops = sym (stopped_on s at p found) ∙ c.stops;
        small = c.small;
        ends = sym (end_plain n s number at p found plain) ∙ c.ends;
      }

  pub counting_tlm : {next count : ℕ} → next ≡ next_number n s at number → next ≤ 65_535 → p.tlm ≡ Some count
      → Counting n s p.next (stripped + (p.next - at)) (entries + count) (filler + more) next
  counting_tlm {next} {count} numbered small is =
      let told = passed_is s at p found in
      let past = told.past in
      let few = entries_few s at p found is in
      let longer = ap length (entries_tlm s at p found is) ∙ length-append (entries_in s at 0 count) (entries_from s p.next) in
      record {
        inside = told.inside;
        before = omega (arith, c.before);
        few = omega (arith, c.few);
        header = omega (arith, c.header, c.before, ap length (kept_tlm s at p found is));
        records = omega (arith, c.records, longer, length_entries s at 0 count);
        least = omega (arith, c.least, fills, one_at_most p.is_filler);
        fill = omega (arith, c.fill, fills, fillers_on s at p found);
        stops = sym (stopped_on s at p found) ∙ c.stops;
        small = small;
        ends = rw numbered (sym (end_tlm n s number at p found is (omega arith)) ∙ c.ends);
      }

module _ (n : Numbering) (s : List ℕ) (at stripped entries filler number : ℕ) (c : Counting n s at stripped entries filler number) where
  pub counted_found : walk_step_at s at ≡ Ok None
      → read_as s (walk_from s 2) (end_from n s 0 2) ≡ Ok (record {
        first_sot_offset = record { 0 = at };
        decode_header_length = at - stripped;
        tlm_entries = entries;
        fillers = filler;
      })
  unfolding read_as fillers kept tlm_entries ended_by
  counted_found found =
      let w = walk_found s at found in
      let stop : (walk_from s 2).stopped ≡ at = sym c.stops ∙ ap (λ (x : Chain WalkEnd). x.stopped) w in
      let none : kept_from s at ≡ [] = ap (λ (x : Chain WalkEnd). kept s x.visits) w in
      let header : length (decode_header s (walk_from s 2).visits) ≡ at - stripped = omega (arith, c.header, ap length none) in
      let records : length (entries_from s 2) ≡ entries = omega (arith, c.records, ap (λ (x : Chain WalkEnd). length (tlm_entries s x.visits)) w) in
      let fill : fillers_from s 2 ≡ filler = omega (arith, c.fill, ap (λ (x : Chain WalkEnd). fillers s x.visits) w) in
      ap (read_as s (walk_from s 2)) (sym c.ends ∙ ap (λ (x : Chain WalkEnd). ended_by n s number x.visits x.ended) w)
      ∙ (λ i. Ok (record { first_sot_offset = record { 0 = stop i }; decode_header_length = header i; tlm_entries = records i; fillers = fill i }))

  pub counted_refused : (r : Refusal) → walk_step_at s at ≡ Err r → read_as s (walk_from s 2) (end_from n s 0 2) ≡ Err r
  unfolding read_as ended_by
  counted_refused r found =
      ap (read_as s (walk_from s 2)) (sym c.ends ∙ ap (λ (x : Chain WalkEnd). ended_by n s number x.visits x.ended) (walk_refused s at r found))

  -- a segment with a number that passes
  pub counted_26 : (p : Passing) {count : ℕ} → walk_step_at s at ≡ Ok (Some p) → p.tlm ≡ Some count → 65_535 < next_number n s at number
      → read_as s (walk_from s 2) (end_from n s 0 2) ≡ Err (refusal TlmTooManyEntries at)
  unfolding read_as
  counted_26 p found is many = ap (read_as s (walk_from s 2)) (sym c.ends ∙ end_26 n s number at p found is many)
