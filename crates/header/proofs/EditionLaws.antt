-- An edition's definitions, opened once: a law for each case, and along the walk what was met of CAP so far. The newer edition accepts nothing that is
-- refused otherwise, and says the same of what it accepts.
use Prim.Native.Nat.{ℕ, ◌+◌, ◌*◌, ◌≤◌, ◌<◌}
use native.Mathlib.Omega.{arith}
use mathlib.Core.Path.{◌≡◌, refl, sym, ap, ◌∙◌}
use mathlib.Core.Bool.{Bool, true, false}
use mathlib.Core.List.{List, [], ◌∷◌}
use lib.ListN.{length, get_or}
use lib.Count as count
use lib.Dec.{eqb}
use borrow.Author.Tests.{eq-eqb, ne_eqb, le-leb, lt-leb}
use Rattle.std.specs.Prelude.{Option, None, Some, Result, Ok, Err}
use Rattle.numbers.specs.Bytes.{be}
use Rattle.numbers.proofs.BitsLaws.{ones_count}
use Rattle.numbers.proofs.BytesLaws.{be_bound}
use Rattle.numbers.proofs.Choice.{by_bool}
use Rattle.types.specs.Markers.{CAP}
use Rattle.types.specs.Refusals.{refusal}
use Rattle.types.specs.declared.Refusal.{Refusal}
use Rattle.header.specs.Step.{delimits}
use Rattle.header.specs.Tlm.{Within}
use Rattle.header.specs.Walk.{walk_step_at, walk_at, walk_move, walk_from}
use Rattle.header.specs.Edition.{announced, caps_in, lcap, pcap, cap_fits, capped, in_edition}
use Rattle.header.specs.Parse.{judged_by, judged_as}
use Rattle.header.specs.declared.edition.Edition.{Edition}
use Rattle.header.specs.declared.edition.Edition.TheVariants.{Older, Newer}
use Rattle.header.specs.declared.reading.Reading.{Reading}
use Rattle.header.specs.declared.walk.Passed.{Passed as Passing}
use Rattle.header.specs.declared.parse.MainHeaderInfo.{MainHeaderInfo}
use Rattle.header.proofs.NumberingLaws.{refused_header}
use Rattle.header.proofs.WalkLaws.{not_true_false, passed_is}
use Rattle.header.proofs.WalkItems.{Item, delimiter, segment, item}
use Rattle.header.proofs.WalkVisited.{visits_on}
use Rattle.types.specs.declared.Reason.TheVariants.{CapOutOfPlace, CapLengthWrong}

-- ---- Lcap

module _ (s : List ℕ) (at : ℕ) where
  pub fits_short : lcap s at < 6 → cap_fits s at ≡ false
  unfolding cap_fits
  fits_short h = rw (lt-leb _ _ h)

  -- the ones are those that the language counts
  pub fits_counted : ((i : ℕ) → get_or s i 0 < 256) → 6 ≤ lcap s at → cap_fits s at ≡ eqb (lcap s at) (6 + 2 * count.ones (pcap s at))
  unfolding cap_fits
  fits_counted bytes h = rw (le-leb _ _ h, ones_count 32 (pcap s at) (be_bound 4 s (at + 4) bytes))

-- ---- the answer, by what was met

module _ (s : List ℕ) (h : MainHeaderInfo) where
  pub capped_missing : capped true s [] h ≡ Err (refusal CapOutOfPlace 2)
  unfolding capped
  capped_missing = refl

  pub capped_none : capped false s [] h ≡ Ok h
  unfolding capped
  capped_none = refl

  pub capped_unwanted : (at : ℕ) (more : List ℕ) → capped false s (at ∷ more) h ≡ Err (refusal CapOutOfPlace at)
  unfolding capped
  capped_unwanted at more = refl

  pub capped_again : (wanted : Bool) (at again : ℕ) (more : List ℕ) → wanted ≡ true → capped wanted s (at ∷ again ∷ more) h ≡ Err (refusal CapOutOfPlace again)
  unfolding capped
  capped_again wanted at again more e = rw e

  module _ (at : ℕ) where
    pub capped_fits : cap_fits s at ≡ true → capped true s (at ∷ []) h ≡ Ok h
    unfolding capped
    capped_fits e = rw e

    pub capped_34 : cap_fits s at ≡ false → capped true s (at ∷ []) h ≡ Err (refusal CapLengthWrong at)
    unfolding capped
    capped_34 e = rw e

-- ---- along the walk

-- the positions of CAP from one on
abbrev pub caps_from : List ℕ → ℕ → List ℕ
caps_from s at = caps_in s (walk_from s at).visits

pub cap_no_delimiter : delimits CAP ≡ false
unfolding delimits
cap_no_delimiter = refl

module _ (s : List ℕ) (at : ℕ) (p : Passing) (found : walk_step_at s at ≡ Ok (Some p)) where
  pub caps_here : be 2 s at ≡ CAP → caps_from s at ≡ at ∷ caps_from s p.next
  unfolding caps_in
  caps_here e = ap (caps_in s) (visits_on s at p found) ∙ rw (eq-eqb _ _ e)

  pub caps_later : (be 2 s at ≡ CAP → ⊥) → caps_from s at ≡ caps_from s p.next
  unfolding caps_in
  caps_later n = ap (caps_in s) (visits_on s at p found) ∙ rw (ne_eqb _ _ n)

  -- it is a segment, and lies inside
  cap_within : be 2 s at ≡ CAP → Within s at
  unfolding walk_at walk_move
  cap_within e = let i = item s at p.next (ap walk_move found) in by i.0 i.1
    where
      by : Item s at p.next → p.next ≤ length s → Within s at
      by (delimiter d n) inside = absurd (not_true_false (sym d ∙ ap delimits e ∙ cap_no_delimiter))
      by (segment sot d room n) inside = record { marked = room; ends = omega (arith, n) }

-- what was passed of CAP, one of which is wanted at most, makes up all with what lies ahead
abbrev Met : List ℕ → ℕ → Option ℕ → Type 0
Met s at None = caps_from s 2 ≡ caps_from s at
Met s at (Some cap) = (announced s ≡ true) × (caps_from s 2 ≡ cap ∷ caps_from s at) × Within s cap

-- the walk stands at a position
pub record Capping (s : List ℕ) (at : ℕ) (cap : Option ℕ) : Type 0 where
  pub inside : at ≤ length s
  pub met : Met s at cap

pub capping_start : (s : List ℕ) → 2 ≤ length s → Capping s 2 None
capping_start s h = record { inside = h; met = refl }

module _ (s : List ℕ) (at : ℕ) (p : Passing) (found : walk_step_at s at ≡ Ok (Some p)) where
  -- another marker
  pub capping_on : (cap : Option ℕ) → Capping s at cap → (be 2 s at ≡ CAP → ⊥) → Capping s p.next cap
  capping_on cap c other = record { inside = (passed_is s at p found).inside; met = by cap c.met }
    where
      by : (cap : Option ℕ) → Met s at cap → Met s p.next cap
      by None m = m ∙ caps_later s at p found other
      by (Some cap) m = (m.0, m.1 ∙ ap (λ (more : List ℕ). cap ∷ more) (caps_later s at p found other), m.2)

  module _ (is : be 2 s at ≡ CAP) where
    -- the first one, which is wanted
    pub capping_first : Capping s at None → announced s ≡ true → Capping s p.next (Some at)
    capping_first c wanted =
        record { inside = (passed_is s at p found).inside; met = (wanted, c.met ∙ caps_here s at p found is, cap_within s at p found is) }

    module _ (h : MainHeaderInfo) where
      pub again_33 : (cap : ℕ) → Capping s at (Some cap) → capped (announced s) s (caps_from s 2) h ≡ Err (refusal CapOutOfPlace at)
      again_33 cap c =
          ap (λ (caps : List ℕ). capped (announced s) s caps h) (c.met.1 ∙ ap (λ (more : List ℕ). cap ∷ more) (caps_here s at p found is))
          ∙ capped_again s h (announced s) cap at _ c.met.0

      pub unwanted_33 : Capping s at None → announced s ≡ false → capped (announced s) s (caps_from s 2) h ≡ Err (refusal CapOutOfPlace at)
      unwanted_33 c e =
          rw e (ap (λ (caps : List ℕ). capped false s caps h) (c.met ∙ caps_here s at p found is) ∙ capped_unwanted s h at _)

-- the end of the walk
module _ (s : List ℕ) (at : ℕ) (stops : (walk_from s at).visits ≡ []) (h : MainHeaderInfo) where
  none_left : caps_from s at ≡ []
  unfolding caps_in
  none_left = ap (caps_in s) stops

  abbrev Answer : Result MainHeaderInfo Refusal
  Answer = capped (announced s) s (caps_from s 2) h

  module _ (c : Capping s at None) where
    pub missing_33 : announced s ≡ true → Answer ≡ Err (refusal CapOutOfPlace 2)
    missing_33 e = rw e (ap (λ (caps : List ℕ). capped true s caps h) (c.met ∙ none_left) ∙ capped_missing s h)

    pub none_accepted : announced s ≡ false → Answer ≡ Ok h
    none_accepted e = rw e (ap (λ (caps : List ℕ). capped false s caps h) (c.met ∙ none_left) ∙ capped_none s h)

  module _ (cap : ℕ) (c : Capping s at (Some cap)) where
    one_met : Answer ≡ capped true s (cap ∷ []) h
    one_met =
        let o = c.met in
        rw o.0 (ap (λ (caps : List ℕ). capped true s caps h) (o.1 ∙ ap (λ (more : List ℕ). cap ∷ more) none_left))

    pub one_accepted : cap_fits s cap ≡ true → Answer ≡ Ok h
    one_accepted e = one_met ∙ capped_fits s h cap e

    pub one_34 : cap_fits s cap ≡ false → Answer ≡ Err (refusal CapLengthWrong cap)
    one_34 e = one_met ∙ capped_34 s h cap e

-- ---- what no edition changes

header_same : {k h : MainHeaderInfo} → ◌≡◌ {A = Result MainHeaderInfo Refusal} (Ok k) (Ok h) → k ≡ h
header_same e = cc

-- a header that is accepted with these caps is the one that was tested
capped_same : (wanted : Bool) (s caps : List ℕ) (k h : MainHeaderInfo) → capped wanted s caps k ≡ Ok h → k ≡ h
unfolding capped
capped_same true s [] k h e = absurd (refused_header e)
capped_same true s (at ∷ []) k h e = by_bool (cap_fits s at) (λ t. header_same (rw t at e)) (λ t. absurd (refused_header (rw t at e)))
capped_same true s (at ∷ again ∷ more) k h e = absurd (refused_header e)
capped_same false s [] k h e = header_same e
capped_same false s (at ∷ more) k h e = absurd (refused_header e)

edition_accepted : (e : Edition) (s : List ℕ) (answer : Result MainHeaderInfo Refusal) (h : MainHeaderInfo) → in_edition e s answer ≡ Ok h → answer ≡ Ok h
unfolding in_edition
edition_accepted Older s answer h e = e
edition_accepted Newer s (Ok k) h e = ap Ok (capped_same (announced s) s (caps_in s (walk_from s 2).visits) k h e)
edition_accepted Newer s (Err r) h e = absurd (refused_header e)

edition_refused : (e : Edition) (s : List ℕ) (r : Refusal) → in_edition e s (Err r) ≡ Err r
unfolding in_edition
edition_refused Older s r = refl
edition_refused Newer s r = refl

module _ (how : Reading) (s : List ℕ) where
  pub as_accepted : (h : MainHeaderInfo) → judged_as how s ≡ Ok h → judged_by how.numbering s ≡ Ok h
  unfolding judged_as
  as_accepted h e = edition_accepted how.edition s (judged_by how.numbering s) h e

  pub as_refused : (r : Refusal) → judged_by how.numbering s ≡ Err r → judged_as how s ≡ Err r
  unfolding judged_as
  as_refused r e = ap (in_edition how.edition s) e ∙ edition_refused how.edition s r

  pub as_older : how.edition ≡ Older → judged_as how s ≡ judged_by how.numbering s
  unfolding judged_as in_edition
  as_older e = rw e

  pub as_newer : how.edition ≡ Newer → (h : MainHeaderInfo) → judged_by how.numbering s ≡ Ok h → judged_as how s ≡ capped (announced s) s (caps_from s 2) h
  unfolding judged_as in_edition
  as_newer e h judged = rw (e, judged)
