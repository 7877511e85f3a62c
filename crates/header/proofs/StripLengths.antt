-- Lengths along the walk: an entry takes 2 bytes or more, and the decode header with the TLM segments is as long as the main header. So one that is as
-- long as the main header is all of it, and there are no entries.
use Prim.Native.Nat.{ℕ, ◌+◌, ◌-◌, ◌*◌, ◌≤◌}
use native.Mathlib.Nat.{sub_self, sub-zero}
use native.Mathlib.Omega.{arith}
use mathlib.Core.Path.{◌≡◌, refl, ap, ◌∙◌}
use mathlib.Core.List.{List, [], ◌∷◌, ◌++◌}
use lib.ListN.{length, take, drop, length-append, length-take}
use borrow.Author.Tests.{eq-eqb, ne_eqb}
use Rattle.std.specs.Prelude.{Some, Ok}
use Rattle.chain.specs.Chain.{Visit, Run, stay, step}
use Rattle.header.specs.Tlm.{entry_count, entries_in}
use Rattle.header.specs.Walk.{walk_step_at, walk_at, walk_from}
use Rattle.header.specs.Strip.{kept, decode_header, tlm_bytes, tlm_entries}
use Rattle.header.specs.declared.walk.Passed.{Passed as Passing}
use Rattle.header.proofs.TlmLaws.{length_entries}
use Rattle.header.proofs.WalkLaws.{passed_is, on_passed, walk_run, by_count}
use Rattle.header.proofs.WalkVisited.{entries_few, length_visited}
use Rattle.header.proofs.StripLaws.{run, run_join}

-- what holds of the visits from a position to another
record Measured (s : List ℕ) (at : ℕ) (visits : List Visit) (stop : ℕ) : Type 0 where
  inside : stop ≤ length s
  entries : at + length (tlm_entries s visits) * 2 ≤ stop
  lengths : at + (length (kept s visits) + tlm_bytes s visits) ≡ stop

measured_on : (s : List ℕ) (at stop : ℕ) (rest : List Visit) (p : Passing) → walk_step_at s at ≡ Ok (Some p) → Measured s p.next rest stop
    → Measured s at (record { at = at; next = p.next } ∷ rest) stop
unfolding tlm_entries kept tlm_bytes
measured_on s at stop rest p found m =
    let told = passed_is s at p found in
    let past = told.past in
    by_count p.tlm
    (λ n is.
    let t = told.tlm n is in
    let few = entries_few s at p found is in
    let here = length-append (entries_in s at 0 (entry_count s at)) (tlm_entries s rest) in
    record {
      inside = m.inside;
      entries = rw (eq-eqb _ _ t.marker) (omega (arith, m.entries, here, length_entries s at 0 (entry_count s at), t.count));
      lengths = rw (eq-eqb _ _ t.marker) (omega (arith, m.lengths));
    })
    (λ plain.
    let other = told.plain plain in
    let here = length-append (take (p.next - at) (drop at s)) (kept s rest) in
    record {
      inside = m.inside;
      entries = rw (ne_eqb _ _ other) (omega (arith, m.entries));
      lengths = rw (ne_eqb _ _ other) (omega (arith, m.lengths, here, length_visited s at p.next told.inside));
    })

measured : (s : List ℕ) {at stop : ℕ} {visits : List Visit} → at ≤ length s → Run (walk_at s) at visits stop → Measured s at visits stop
unfolding tlm_entries kept tlm_bytes
measured s h stay = record { inside = h; entries = omega arith; lengths = omega arith }
measured s h (step {at = at} {next = next} {stop = stop} {rest = rest} found past run) =
    let o = on_passed s at next found in
    let m : Measured s o.0.next rest stop = rw o.2 (measured s (omega (arith, o.2, (passed_is s at o.0 o.1).inside)) run) in
    rw (← o.2) (measured_on s at stop rest o.0 o.1 m)

whole : (s : List ℕ) → 2 ≤ length s → Measured s 2 (walk_from s 2).visits (walk_from s 2).stopped
whole s h = measured s h (walk_run s 2)

pub entries_bound : (s : List ℕ) → 2 ≤ length s → length (tlm_entries s (walk_from s 2).visits) * 2 ≤ length s
entries_bound s h = let m = whole s h in omega (arith, m.entries, m.inside)

pub stopped_inside : (s : List ℕ) → 2 ≤ length s → (walk_from s 2).stopped ≤ length s
stopped_inside s h = (whole s h).inside

-- the decode header's length and the lengths of all TLM segments met make up the first SOT's offset
pub header_lengths : (s : List ℕ) → 2 ≤ length s
    → length (decode_header s (walk_from s 2).visits) + tlm_bytes s (walk_from s 2).visits ≡ (walk_from s 2).stopped
unfolding decode_header
header_lengths s h = simp (length-append, length-take) (omega (arith, (whole s h).lengths))

-- ---- no TLM segment was met

record Plain (s : List ℕ) (at : ℕ) (visits : List Visit) (stop : ℕ) : Type 0 where
  kept : kept s visits ≡ run s at stop
  none : tlm_entries s visits ≡ []

plain_run : (s : List ℕ) {at stop : ℕ} {visits : List Visit} → at ≤ length s → Run (walk_at s) at visits stop → tlm_bytes s visits ≡ 0 → Plain s at visits stop
unfolding tlm_entries kept tlm_bytes
plain_run s h (stay {at = at}) e = record { kept = rw sub_self; none = refl }
plain_run s h (step {at = at} {next = next} {stop = stop} {rest = rest} found past more) e =
    let o = on_passed s at next found in
    let told = passed_is s at o.0 o.1 in
    let inside : next ≤ length s = omega (arith, o.2, told.inside) in
    let ahead : next ≤ stop = omega (arith, (measured s inside more).lengths) in
    by_count o.0.tlm
    (λ n is. absurd (omega (arith, rw (eq-eqb _ _ (told.tlm n is).marker) at e)))
    (λ other.
    let p : Plain s next rest stop = plain_run s inside more (rw (ne_eqb _ _ (told.plain other)) at e) in
    record {
      kept = rw (ne_eqb _ _ (told.plain other)) (ap (λ (k : List ℕ). run s at next ++ k) p.kept ∙ run_join s at next stop (omega arith) ahead);
      none = rw (ne_eqb _ _ (told.plain other)) p.none;
    })

module _ (s : List ℕ) (two : 2 ≤ length s) (long : length (decode_header s (walk_from s 2).visits) ≡ (walk_from s 2).stopped) where
  plain : Plain s 2 (walk_from s 2).visits (walk_from s 2).stopped
  plain = plain_run s two (walk_run s 2) (omega (arith, header_lengths s two))

  pub whole_kept : decode_header s (walk_from s 2).visits ≡ take (walk_from s 2).stopped s
  unfolding decode_header
  whole_kept =
      let ahead : 2 ≤ (walk_from s 2).stopped = omega (arith, (whole s two).lengths) in
      ap (λ (k : List ℕ). take 2 s ++ k) plain.kept ∙ run_join s 0 2 (walk_from s 2).stopped (omega arith) ahead ∙ ap (λ (n : ℕ). take n s) (sub-zero (walk_from s 2).stopped)

  pub none_met : tlm_entries s (walk_from s 2).visits ≡ []
  none_met = plain.none
