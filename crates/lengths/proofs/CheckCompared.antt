-- The comparison, entry by entry: what is left of both lists from here on is answered as the whole is, and the scan ends from here as it does from the first
-- SOT. Where it stops, the scan's rest says whether there is a tile-part.
use Prim.Native.Nat.{ℕ, ◌+◌, ◌-◌, ◌≤◌, ◌<◌}
use native.Mathlib.Omega.{arith}
use mathlib.Core.Path.{◌≡◌, refl, sym, ap, ap₂, ◌∙◌}
use mathlib.Core.List.{List, ◌∷◌, ◌++◌}
use lib.ListN.{length, get_or}
use Rattle.types.specs.declared.TilePartEntry.{TilePartEntry}
use Rattle.chain.specs.Chain.{Visit, Chain, also}
use Rattle.header.specs.Tlm.{Entry, entry_count, entry_on, entries_on, record_of}
use Rattle.header.specs.Walk.{at_first_sot}
use Rattle.header.specs.Numbering.{entries_by, ended_by}
use Rattle.header.specs.declared.numbering.Numbering.TheVariants.{CarriedOn}
use Rattle.header.proofs.NumberingLaws.{refused_first}
use Rattle.header.proofs.TlmFill.{entries_next}
use Rattle.parts.specs.Scan.{ScanEnd, scan_step_at, scan_from}
use Rattle.parts.proofs.ScanLaws.{part_stands, scan_part}
use Rattle.numbers.proofs.Choice.{by_bool}
use lib.Dec.{leb}
use borrow.Author.Tests.{leb-true, leb-false}
use Rattle.std.specs.Prelude.{Some, None, Ok}
use Rattle.lengths.specs.Segments.{tlms_of, numbers_end}
use Rattle.lengths.specs.Places.{having, Notes}
use Rattle.lengths.specs.Check.{pair_of, listed, standing, said, compared, behind_scan}
use Rattle.lengths.specs.Agree.{agreed_by, settled_as, settled}
use Rattle.lengths.specs.declared.check.Stop.{Stop}
use Rattle.lengths.proofs.SegmentsOrder.{grouped_end}
use Rattle.lengths.proofs.PlacesNumbered.{next, end_from, listed_from, all_from_0, end_none, end_fits, end_past, listed_none, listed_one}
use Rattle.lengths.proofs.AgreeLaws.{Passed, agrees, stopped, standing_part, compared_same, settled_none}

-- ---- the entries of one segment

-- i of a segment's entries agreed; from stands for where the first of them was compared, with its number
pub record Matching (h s : List ℕ) (place first count from start at number i : ℕ) : Type 0 where
  pub inside : i ≤ count
  pub few : number ≤ at
  pub ends : (scan_from s from).ended ≡ (scan_from s at).ended
  pub same : (rest : List Entry)
      → compared start from (entries_on h place first 0 count ++ rest) (standing s from)
      ≡ compared number at (entries_on h place first i (count - i) ++ rest) (standing s at)

pub matching_start : (h s : List ℕ) (place first count from start : ℕ) → start ≤ from → Matching h s place first count from start from start 0
matching_start h s place first count from start few =
    let all : count ≡ count - 0 = omega arith in
    record {
      inside = omega arith;
      few = few;
      ends = refl;
      same = λ rest. ap (λ (n : ℕ). compared start from (entries_on h place first 0 n ++ rest) (standing s from)) all;
    }

module _ (h s : List ℕ) (place first count from start at number i : ℕ) (m : Matching h s place first count from start at number i) (more : i < count) where
  abbrev entry : Entry
  entry = entry_on h place first i

  -- the entry that is due, and those behind it
  due : (rest : List Entry)
      → compared start from (entries_on h place first 0 count ++ rest) (standing s from)
      ≡ compared number at (entry ∷ (entries_on h place first (i + 1) (count - (i + 1)) ++ rest)) (standing s at)
  due rest =
      m.same rest ∙ ap (λ (es : List Entry). compared number at (es ++ rest) (standing s at)) (entries_next h place first i count more)

  module _ {e : TilePartEntry} {o : ℕ} (is : e ≡ record_of o entry) where
    -- it agrees
    module _ (end : ℕ) (agreed : agreed_by (pair_of e) (scan_step_at s at) ≡ Some end) where
      pub there : Passed s at entry end
      there = agrees s at entry end (ap (λ (x : TilePartEntry). agreed_by (pair_of x) (scan_step_at s at)) (sym is) ∙ agreed)

      pub matching_on : Matching h s place first count from start end (number + 1) (i + 1)
      unfolding also
      matching_on =
          let p : Passed s at entry end = there in
          let stands = part_stands s at p.part p.found in
          let long = stands.some in
          let few = m.few in
          let to = p.there in
          record {
            inside = omega arith;
            few = omega arith;
            ends = m.ends ∙ ap (λ (c : Chain ScanEnd). c.ended) (scan_part s at p.part p.found) ∙ ap (λ (n : ℕ). (scan_from s n).ended) (sym to);
            same = λ rest.
                due rest
                ∙ ap (compared number at (entry ∷ (entries_on h place first (i + 1) (count - (i + 1)) ++ rest))) (standing_part s at p.part p.found)
                ∙ compared_same number at entry (pair_of p.part) _ _ p.like
                ∙ ap (λ (n : ℕ). compared (number + 1) n (entries_on h place first (i + 1) (count - (i + 1)) ++ rest) (standing s n)) (sym to);
          }

      -- and ends behind it, inside
      pub on_past : (at < end) × (end ≤ length s)
      on_past =
          let p : Passed s at entry end = there in
          let stands = part_stands s at p.part p.found in
          let long = stands.some in
          let inside = stands.inside in
          let to = p.there in
          (omega arith, omega arith)

    -- it does not
    pub matching_stops : agreed_by (pair_of e) (scan_step_at s at) ≡ None → (rest : List Entry)
        → compared start from (entries_on h place first 0 count ++ rest) (standing s from) ≡ Ok (settled_as number at (standing s at) (Some (said (pair_of e))))
    matching_stops differs rest =
        due rest
        ∙ stopped s at entry number _ (ap (λ (x : TilePartEntry). agreed_by (pair_of x) (scan_step_at s at)) (sym is) ∙ differs)
        ∙ ap (λ (x : TilePartEntry). Ok (settled_as number at (standing s at) (Some (said (pair_of x))))) (sym is)

-- ---- segment by segment

pub record Comparing (h s : List ℕ) (start at number first z : ℕ) : Type 0 where
  pub inside : z ≤ 256
  pub small : first ≤ 65_535
  pub few : number ≤ at
  pub numbered : end_from h first z ≡ at_first_sot
  pub ends : (scan_from s start).ended ≡ (scan_from s at).ended
  pub same : compared 0 start (listed h) (standing s start) ≡ compared number at (listed_from h first z) (standing s at)

pub comparing_start : (h s : List ℕ) (start : ℕ) → ((i : ℕ) → get_or h i 0 < 256) → numbers_end h ≡ at_first_sot
    → Comparing h s start start 0 0 0
unfolding listed
comparing_start h s start bytes numbered =
    record {
      inside = omega arith;
      small = omega arith;
      few = omega arith;
      numbered = ap (λ (vs : List Visit). ended_by CarriedOn h 0 vs at_first_sot) (sym (all_from_0 h bytes)) ∙ numbered;
      ends = refl;
      same = ap (λ (vs : List Visit). compared 0 start (entries_by CarriedOn h 0 vs) (standing s start)) (all_from_0 h bytes);
    }

-- where the comparison stopped: the whole is answered by what is left
pub record Stopped (h s : List ℕ) (start at : ℕ) (stop : Stop) : Type 0 where
  pub ends : (scan_from s start).ended ≡ (scan_from s at).ended
  pub same : compared 0 start (listed h) (standing s start) ≡ Ok (settled stop at (standing s at))

module _ (h s : List ℕ) (start at number first z : ℕ) (c : Comparing h s start at number first z) where
  pub stops_whole : 256 ≤ z → Stopped h s start at (record { number = number; listed = None })
  unfolding entries_by
  stops_whole done =
      record {
        ends = c.ends;
        same =
            c.same
            ∙ ap (λ (vs : List Visit). compared number at (entries_by CarriedOn h first vs) (standing s at)) (grouped_end h z (tlms_of h) done)
            ∙ settled_none number at (standing s at);
      }

  module _ (below : z < 256) {place : ℕ} (noted : Notes h place (having h z (tlms_of h))) where
    pub comparing_none : place ≡ 0 → Comparing h s start at number first (z + 1)
    comparing_none empty =
        record {
          inside = omega arith;
          small = c.small;
          few = c.few;
          numbered = sym (end_none h first z below noted empty) ∙ c.numbered;
          ends = c.ends;
          same = c.same ∙ ap (λ (es : List Entry). compared number at es (standing s at)) (listed_none h first z below noted empty);
        }

    module _ (some : place ≡ 0 → ⊥) where
      -- no number of the segment passes
      pub numbers_fit : next h place first ≤ 65_535
      numbers_fit =
          by_bool (leb (next h place first) 65_535)
          (λ e. leb-true (next h place first) 65_535 e)
          (λ e. absurd (refused_first (sym (end_past h first z below noted some (leb-false (next h place first) 65_535 e)) ∙ c.numbered)))

      module _ {count : ℕ} (counted : count ≡ entry_count h place) where
        -- all of the segment's entries are still to be compared
        ahead : compared 0 start (listed h) (standing s start)
            ≡ compared number at (entries_on h place first 0 count ++ listed_from h (next h place first) (z + 1)) (standing s at)
        ahead =
            c.same ∙ ap (λ (es : List Entry). compared number at es (standing s at)) (listed_one h first z below noted some)
            ∙ ap (λ (n : ℕ). compared number at (entries_on h place first 0 n ++ listed_from h (next h place first) (z + 1)) (standing s at)) (sym counted)

        module _ {to told i : ℕ} (m : Matching h s place first count at number to told i) where
          pub comparing_on : count ≤ i → {then : ℕ} → then ≡ next h place first → Comparing h s start to told then (z + 1)
          unfolding entries_on
          comparing_on done {then} is =
              let none : count - i ≡ 0 = omega arith in
              let fits = numbers_fit in
              record {
                inside = omega arith;
                small = omega arith;
                few = m.few;
                numbered =
                    ap (λ (k : ℕ). end_from h k (z + 1)) is ∙ sym (end_fits h first z below noted some fits) ∙ c.numbered;
                ends = c.ends ∙ m.ends;
                same =
                    ahead ∙ m.same (listed_from h (next h place first) (z + 1))
                    ∙ ap (λ (n : ℕ). compared told to (entries_on h place first i n ++ listed_from h (next h place first) (z + 1)) (standing s to)) none
                    ∙ ap (λ (k : ℕ). compared told to (listed_from h k (z + 1)) (standing s to)) (sym is);
              }

          pub stops_inside : i < count → {e : TilePartEntry} {o : ℕ} → e ≡ record_of o (entry_on h place first i)
              → agreed_by (pair_of e) (scan_step_at s to) ≡ None → Stopped h s start to (record { number = told; listed = Some (said (pair_of e)) })
          stops_inside more is differs =
              record {
                ends = c.ends ∙ m.ends;
                same = ahead ∙ matching_stops h s place first count at number to told i m more is differs (listed_from h (next h place first) (z + 1));
              }

-- the answer there is the whole's
pub stopped_answers : (h s : List ℕ) (start at : ℕ) (stop : Stop) → Stopped h s start at stop
    → behind_scan (scan_from s at).ended (Ok (settled stop at (standing s at))) ≡ behind_scan (scan_from s start).ended (compared 0 start (listed h) (standing s start))
stopped_answers h s start at stop st = sym (ap₂ behind_scan st.ends st.same)
