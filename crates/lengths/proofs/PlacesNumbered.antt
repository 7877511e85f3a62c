-- The entries of the segments that are noted, and how their numbers end, Ztlm by Ztlm: nothing is noted, or one segment, whose entries come next.
use Prim.Native.Nat.{ℕ, ◌+◌, ◌-◌, ◌≤◌, ◌<◌}
use native.Mathlib.Omega.{arith}
use mathlib.Core.Path.{◌≡◌, sym, ap, ◌∙◌}
use mathlib.Core.List.{List, [], ◌∷◌, ◌++◌}
use lib.ListN.{get_or}
use borrow.Author.Tests.{le-leb, lt-leb}
use Rattle.types.specs.Refusals.{refusal}
use Rattle.chain.specs.Chain.{Visit}
use Rattle.header.specs.Tlm.{Entry, Accepted, entry_count, entries_on, unindexed}
use Rattle.header.specs.Walk.{WalkEnd, at_first_sot, refused}
use Rattle.header.specs.Numbering.{next_number, entries_by, ended_by}
use Rattle.header.specs.declared.numbering.Numbering.TheVariants.{CarriedOn}
use Rattle.header.proofs.NumberingLaws.{numbers_few}
use Rattle.lengths.specs.Segments.{tlms_of, ordered, numbers_end}
use Rattle.lengths.specs.Places.{having, Notes, none, one}
use Rattle.lengths.proofs.SegmentsOrder.{grouped, grouped_next, grouped_end, ordered_grouped}
use Rattle.types.specs.declared.Reason.TheVariants.{TlmTooManyEntries}

-- the header's segments from a Ztlm on
abbrev pub rest_from : List ℕ → ℕ → List Visit
rest_from h z = grouped h z (256 - z) (tlms_of h)

abbrev pub next : List ℕ → ℕ → ℕ → ℕ
next h place first = next_number CarriedOn h place first

-- how their numbers end, the first of which is given
abbrev pub end_from : List ℕ → ℕ → ℕ → WalkEnd
end_from h first z = ended_by CarriedOn h first (rest_from h z) at_first_sot

abbrev pub listed_from : List ℕ → ℕ → ℕ → List Entry
listed_from h first z = entries_by CarriedOn h first (rest_from h z)

-- the entries of one segment
abbrev pub segment_entries : List ℕ → ℕ → ℕ → List Entry
segment_entries h place first = entries_on h place first 0 (entry_count h place)

pub all_from_0 : (h : List ℕ) → ((i : ℕ) → get_or h i 0 < 256) → ordered h (tlms_of h) ≡ rest_from h 0
all_from_0 h bytes = ordered_grouped h bytes (tlms_of h)

pub noted_accepted : {h : List ℕ} {place : ℕ} {vs : List Visit} → (place ≡ 0 → ⊥) → Notes h place vs → Accepted h place
noted_accepted some (none e f) = absurd (some e)
noted_accepted some (one v e past f is accepted) = rw e accepted

module _ (h : List ℕ) (first z : ℕ) (small : z < 256) where
  -- nothing is noted
  rest_none : having h z (tlms_of h) ≡ [] → rest_from h z ≡ rest_from h (z + 1)
  rest_none e = grouped_next h z (tlms_of h) small ∙ ap (λ (vs : List Visit). vs ++ rest_from h (z + 1)) e

  rest_one : (v : Visit) → having h z (tlms_of h) ≡ v ∷ [] → rest_from h z ≡ v ∷ rest_from h (z + 1)
  rest_one v e = grouped_next h z (tlms_of h) small ∙ ap (λ (vs : List Visit). vs ++ rest_from h (z + 1)) e

  module _ {place : ℕ} (noted : Notes h place (having h z (tlms_of h))) where
    module _ (empty : place ≡ 0) where
      none_there : having h z (tlms_of h) ≡ []
      none_there = by noted
        where
          by : Notes h place (having h z (tlms_of h)) → having h z (tlms_of h) ≡ []
          by (none e f) = f
          by (one v e past f is accepted) = absurd (omega arith)

      pub end_none : end_from h first z ≡ end_from h first (z + 1)
      end_none = ap (λ (vs : List Visit). ended_by CarriedOn h first vs at_first_sot) (rest_none none_there)

      pub listed_none : listed_from h first z ≡ listed_from h first (z + 1)
      listed_none = ap (entries_by CarriedOn h first) (rest_none none_there)

    module _ (some : place ≡ 0 → ⊥) where
      -- the segment, and those behind it
      pub end_fits : next h place first ≤ 65_535 → end_from h first z ≡ end_from h (next h place first) (z + 1)
      unfolding ended_by
      end_fits fits = by noted
        where
          by : Notes h place (having h z (tlms_of h)) → end_from h first z ≡ end_from h (next h place first) (z + 1)
          by (none e f) = absurd (some e)
          by (one v e past f is accepted) =
              ap (λ (vs : List Visit). ended_by CarriedOn h first vs at_first_sot) (rest_one v f)
              ∙ rw (is, ← e, le-leb _ _ fits)

      pub end_past : 65_535 < next h place first → end_from h first z ≡ refused (refusal TlmTooManyEntries place)
      unfolding ended_by
      end_past past = by noted
        where
          by : Notes h place (having h z (tlms_of h)) → end_from h first z ≡ refused (refusal TlmTooManyEntries place)
          by (none e f) = absurd (some e)
          by (one v e low f is accepted) =
              ap (λ (vs : List Visit). ended_by CarriedOn h first vs at_first_sot) (rest_one v f)
              ∙ rw (is, ← e, lt-leb _ _ past)

      pub listed_one : listed_from h first z ≡ segment_entries h place first ++ listed_from h (next h place first) (z + 1)
      unfolding entries_by
      listed_one = by noted
        where
          by : Notes h place (having h z (tlms_of h)) → listed_from h first z ≡ segment_entries h place first ++ listed_from h (next h place first) (z + 1)
          by (none e f) = absurd (some e)
          by (one v e low f is accepted) = ap (entries_by CarriedOn h first) (rest_one v f) ∙ rw (is, ← e)

-- ---- the numbers, segment by segment

pub record Numbering (h : List ℕ) (first z : ℕ) : Type 0 where
  pub inside : z ≤ 256
  pub small : first ≤ 65_535
  pub same : numbers_end h ≡ end_from h first z

pub numbering_start : (h : List ℕ) → ((i : ℕ) → get_or h i 0 < 256) → Numbering h 0 0
numbering_start h bytes =
    record { inside = omega arith; small = omega arith; same = ap (λ (vs : List Visit). ended_by CarriedOn h 0 vs at_first_sot) (all_from_0 h bytes) }

module _ (h : List ℕ) (first z : ℕ) (small : z < 256) (n : Numbering h first z) {place : ℕ} (noted : Notes h place (having h z (tlms_of h))) where
  pub numbering_none : place ≡ 0 → Numbering h first (z + 1)
  numbering_none empty = record { inside = omega arith; small = n.small; same = n.same ∙ end_none h first z small noted empty }

  module _ (some : place ≡ 0 → ⊥) {then : ℕ} (is : then ≡ next h place first) where
    pub numbering_one : then ≤ 65_535 → Numbering h then (z + 1)
    numbering_one fits =
        record { inside = omega arith; small = fits; same = n.same ∙ end_fits h first z small noted some (omega arith) ∙ ap (λ (k : ℕ). end_from h k (z + 1)) (sym is) }

    pub numbering_26 : 65_535 < then → numbers_end h ≡ refused (refusal TlmTooManyEntries place)
    numbering_26 past = n.same ∙ end_past h first z small noted some (omega arith)

pub numbering_end : (h : List ℕ) (first z : ℕ) → 256 ≤ z → Numbering h first z → numbers_end h ≡ at_first_sot
unfolding ended_by
numbering_end h first z done n = n.same ∙ ap (λ (vs : List Visit). ended_by CarriedOn h first vs at_first_sot) (grouped_end h z (tlms_of h) done)

pub first_fits : (h : List ℕ) (first place : ℕ) → ((i : ℕ) → get_or h i 0 < 256) → next h place first ≤ 65_535 → first + unindexed h place ≤ 65_535
first_fits h first place bytes fits = numbers_few CarriedOn h bytes place first tt fits
