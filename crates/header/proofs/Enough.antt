-- How much of a codestream is enough for its main header. The walk accepts only what the extent calls Complete, at the same first SOT; with fewer bytes than
-- reach through that SOT's marker nothing accepts; and with as many, or more, a reading answers as it does of the whole, and leaves the same behind.
use Prim.Native.Nat.{ℕ, ◌+◌, ◌≤◌, ◌<◌}
use native.Mathlib.Omega.{arith}
use mathlib.Core.Path.{◌≡◌, refl, sym, ap, ◌∙◌}
use mathlib.Core.List.{List, ◌++◌}
use lib.ListN.{length, get_or, take, drop, length-take, take-append-drop, get_or-eq_default}
use lib.Seq.{take_all, get_or-take}
use lib.Dec.{leb, ltb}
use borrow.Author.Tests.{lt-leb, leb-true, leb-false, ltb-true, ltb-false}
use Rattle.std.specs.Prelude.{Option, Some, None, Result, Ok, Err}
use Rattle.numbers.proofs.Choice.{by_bool}
use Rattle.types.specs.declared.Refusal.{Refusal}
use Rattle.header.specs.Extent.{extent_of, told_by, enough_of, enough}
use Rattle.header.specs.Walk.{walk_from}
use Rattle.header.specs.Parse.{judged_by, judged_as, parsed, table_by, table_after, out_after}
use Rattle.header.specs.Find.{finding}
use Rattle.header.specs.declared.numbering.Numbering.{Numbering}
use Rattle.header.specs.declared.reading.Reading.{Reading}
use Rattle.header.specs.declared.parse.MainHeaderInfo.{MainHeaderInfo}
use Rattle.header.proofs.NumberingLaws.{by_accepted}
use Rattle.header.proofs.EditionLaws.{as_accepted}
use Rattle.header.proofs.ParseLaws.{judged_read, opens_with}
use Rattle.header.proofs.Editions.{eight_inside}
use Rattle.header.proofs.ExtentPrefix.{Reached, complete_reached, reached_complete, extent_less, extent_prefix}
use Rattle.header.proofs.WalkPrefix.{accepted_reached}
use Rattle.header.proofs.ParsePrefix.{finding_prefix, parsed_prefix, table_prefix, table_after_prefix, out_after_prefix}
use Rattle.types.specs.declared.CodestreamOffset.{CodestreamOffset}

-- ---- what the walk accepts

pub accepted_complete : (how : Reading) (s : List ℕ) (h : MainHeaderInfo) → judged_as how s ≡ Ok h → extent_of s ≡ Some h.first_sot_offset
accepted_complete how s h e =
    let j = (by_accepted how.numbering s h (as_accepted how s h e)).0 in
    let r = judged_read s h j in
    let there : (walk_from s 2).stopped ≡ h.first_sot_offset.0 = sym r.first in
    reached_complete s (accepted_reached s (opens_with s h j).0 r.ends) ∙ (λ i. Some (record { 0 = there i }))

-- with fewer bytes than reach through the first SOT's marker, however it is read
pub fewer_refused : (how again : Reading) (s : List ℕ) (h : MainHeaderInfo) → judged_as how s ≡ Ok h → (n : ℕ) → n < h.first_sot_offset.0 + 2
    → (r : Refusal) × (judged_as again (take n s) ≡ Err r)
unfolding told_by
fewer_refused how again s h e n few = by (judged_as again (take n s)) refl
  where
    by : (answer : Result MainHeaderInfo Refusal) → judged_as again (take n s) ≡ answer → (r : Refusal) × (judged_as again (take n s) ≡ Err r)
    by (Ok k) a =
        let short : Some k.first_sot_offset ≡ None =
        sym (accepted_complete again (take n s) k a) ∙ extent_prefix s n ∙ ap (told_by n) (accepted_complete how s h e) ∙ rw (lt-leb _ _ few) in
        absurd (let z : ◌≡◌ {A = ℕ} 0 1 = cc in omega arith)
    by (Err r) a = (r, a)

-- ---- as many bytes as are enough, or more

take_bytes : (s : List ℕ) (n : ℕ) → ((i : ℕ) → get_or s i 0 < 256) → (i : ℕ) → get_or (take n s) i 0 < 256
take_bytes s n bytes i =
    by_bool (ltb i n)
    (λ h. omega (arith, bytes i, get_or-take n s i 0 (ltb-true i n h)))
    (λ h. omega (arith, get_or-eq_default (take n s) 0 {n = i} (omega (arith, length-take n s, ltb-false i n h))))

module _ (s : List ℕ) (n : ℕ) (held : enough s ≤ n) where
  -- they hold the first SOT, or are all
  abbrev Held : List ℕ → Type 0
  Held q = (at : ℕ) × Reached q at

  by_extent : {X : Type 0} (F : List ℕ → X) (extent : Option CodestreamOffset) → extent_of s ≡ extent → enough_of (length s) extent ≤ n
      → (Held (take n s) → F (take n s ++ drop n s) ≡ F (take n s)) → F (take n s) ≡ F s
  unfolding enough_of
  by_extent F (Some at) e h same = sym (same (at.0, complete_reached (take n s) at (extent_less s n at e h))) ∙ ap F (take-append-drop n s)
  by_extent F None e h same = ap F (take_all n s h)

  -- whatever a prefix that holds the first SOT has in common with the whole
  pub by_enough : {X : Type 0} (F : List ℕ → X) → (Held (take n s) → F (take n s ++ drop n s) ≡ F (take n s)) → F (take n s) ≡ F s
  unfolding enough
  by_enough F same = by_extent F (extent_of s) refl held same

  pub table_enough : (m : Numbering) → table_by m (take n s) ≡ table_by m s
  table_enough m = by_enough (table_by m) (λ r. table_prefix (take n s) (drop n s) r.1 m)

  pub table_after_enough : (m : Numbering) (answer : Result MainHeaderInfo Refusal) (table : List ℕ) → table_after m answer (take n s) table ≡ table_after m answer s table
  table_after_enough m answer table =
      by_enough (λ (x : List ℕ). table_after m answer x table) (λ r. table_after_prefix (take n s) (drop n s) r.1 m answer table)

  pub out_after_enough : (answer : Result MainHeaderInfo Refusal) (out : List ℕ) → out_after answer (take n s) out ≡ out_after answer s out
  out_after_enough answer out = by_enough (λ (x : List ℕ). out_after answer x out) (λ r. out_after_prefix (take n s) (drop n s) r.1 answer out)

  module _ (short : length s ≤ 0xffff_ffff) where
    -- no longer than that
    no_longer : length (take n s ++ drop n s) ≤ 0xffff_ffff
    no_longer = rw (take-append-drop n s) short

    pub finding_enough : (marker : ℕ) → finding (take n s) marker ≡ finding s marker
    finding_enough marker = by_enough (λ (x : List ℕ). finding x marker) (λ r. finding_prefix (take n s) (drop n s) r.1 no_longer marker)

    parsed_by : ((m : Numbering) (h : MainHeaderInfo) → judged_by m (take n s) ≡ Ok h → 8 ≤ length (take n s))
        → (how : Reading) (rows room : ℕ) → parsed how (take n s) rows room ≡ parsed how s rows room
    parsed_by eight how rows room =
        by_enough (λ (x : List ℕ). parsed how x rows room)
        (λ r. parsed_prefix (take n s) (drop n s) r.1 no_longer eight how rows room)

    -- 8 bytes, unless they are all
    pub parsed_eight : (n < length s → 8 ≤ n) → (how : Reading) (rows room : ℕ) → parsed how (take n s) rows room ≡ parsed how s rows room
    parsed_eight eight how rows room =
        by_bool (leb (length s) n)
        (λ h. ap (λ (x : List ℕ). parsed how x rows room) (take_all n s (leb-true (length s) n h)))
        (λ h. let part = leb-false (length s) n h in parsed_by (λ _ _ _. omega (arith, eight part, length-take n s)) how rows room)

    -- so few that bytes 6 and 7 are not among them are refused anyway
    pub parsed_enough : ((i : ℕ) → get_or s i 0 < 256) → (how : Reading) (rows room : ℕ) → parsed how (take n s) rows room ≡ parsed how s rows room
    parsed_enough bytes how rows room =
        parsed_by (λ m h e. eight_inside (take n s) (take_bytes s n bytes) h (by_accepted m (take n s) h e).0) how rows room
