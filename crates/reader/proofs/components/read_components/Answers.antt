-- Each test that led to an answer is the definition's, and what was passed lets the next one read.
use Prim.Native.Nat.{ℕ}
use native.Mathlib.Omega.{arith}
use mathlib.Core.Path.{◌≡◌, sym, ap, ◌∙◌}
use mathlib.Core.Bool.{true}
use mathlib.Core.List.{List}
use Rattle.std.specs.Prelude.{Ok}
use Rattle.types.specs.Markers.{SOC, SIZ}
use Rattle.types.specs.Siz.{csiz}
use Rattle.header.specs.Parse.{stands}
use Rattle.header.proofs.ParseLaws.{stands_inside}
use Rattle.tile.specs.Siz.{marker}
use Rattle.reader.specs.Components.{siz_whole, count_held, all_apart, ordered}
use Rattle.reader.proofs.ComponentsLaws.{segment_whole, segment_else, all_inside, read_no_soc, read_no_siz, read_cut, read_not_held, read_not_apart, read_not_ordered, read_all, ordered_across, ordered_down, ordered_both}
use Rattle.reader.proofs.components.read_components.Goals as goal
use Rattle.reader.proofs.components.read_components.Goals.{In-Segment, Else-not-count_held, Else-not-are_apart}
use Rattle.reader.proofs.components.read_components.Goals.{then-area-via-then-area, then-area-via-else-area+then-area-2}

-- ---- what was passed

record Whole (s : List ℕ) : Type 0 where
  soc : stands s 0 SOC ≡ true
  siz : stands s marker SIZ ≡ true
  whole : siz_whole s ≡ true

passed : (c : In-Segment) → Whole c.args.codestream.now
passed c =
    let siz = sym c.marker_stands-2.ensures ∙ c.if-not-marker_stands-2.false in
    record {
      soc = sym c.marker_stands.ensures ∙ c.if-not-marker_stands.false;
      siz = siz;
      whole = segment_whole _ siz _ (sym c.in-Segment.ensures);
    }

held : (c : Else-not-count_held) → count_held c.args.codestream.now ≡ true
held c = sym c.count_held.ensures ∙ c.if-not-count_held.false

steps : (c : Else-not-are_apart) → let s = c.args.codestream.now in all_apart s (csiz s marker) ≡ true
steps c = ap (all_apart _) (sym c.read_u16-count.ensures) ∙ sym c.are_apart.ensures ∙ c.if-not-are_apart.false

-- ---- the answers

pub returns-then-not-marker_stands : goal.returns-then-not-marker_stands
returns-then-not-marker_stands c = c.refuse.ensures ∙ sym (read_no_soc _ (sym c.marker_stands.ensures ∙ c.if-not-marker_stands.true))

pub returns-then-not-marker_stands-2 : goal.returns-then-not-marker_stands-2
returns-then-not-marker_stands-2 c =
    let soc = sym c.marker_stands.ensures ∙ c.if-not-marker_stands.false in
    c.refuse-then-not-marker_stands-2.ensures ∙ sym (read_no_siz _ soc (sym c.marker_stands-2.ensures ∙ c.if-not-marker_stands-2.true))

pub header_step-requires : goal.header_step-requires
header_step-requires c = omega (arith, stands_inside _ _ _ (sym c.marker_stands-2.ensures ∙ c.if-not-marker_stands-2.false))

pub returns-in_default : goal.returns-in_default
returns-in_default c =
    let soc = sym c.marker_stands.ensures ∙ c.if-not-marker_stands.false in
    let siz = sym c.marker_stands-2.ensures ∙ c.if-not-marker_stands-2.false in
    c.refuse-in_default.ensures ∙ sym (read_cut _ soc siz (segment_else _ siz _ c.header_step.ensures c.in_default.not-Segment))

pub count_held-requires : goal.count_held-requires
count_held-requires c = (passed (goal.at.count_held-requires c).In-Segment).whole

pub returns-then-not-count_held : goal.returns-then-not-count_held
returns-then-not-count_held c =
    let p = passed (goal.at.returns-then-not-count_held c).In-Segment in
    c.refuse-then-not-count_held.ensures ∙ sym (read_not_held _ p.soc p.siz p.whole (sym c.count_held.ensures ∙ c.if-not-count_held.true))

pub read_u16-count-requires : goal.read_u16-count-requires
read_u16-count-requires c =
    let at = goal.at.read_u16-count-requires c in
    omega (arith, (all_inside _ (passed at.In-Segment).whole (held at.Else-not-count_held)).0)

pub are_apart-requires : goal.are_apart-requires
are_apart-requires c =
    let at = goal.at.are_apart-requires c in
    omega (arith, (all_inside _ (passed at.In-Segment).whole (held at.Else-not-count_held)).1, c.read_u16-count.ensures)

pub returns-then-not-are_apart : goal.returns-then-not-are_apart
returns-then-not-are_apart c =
    let at = goal.at.returns-then-not-are_apart c in
    let p = passed at.In-Segment in
    let zero = ap (all_apart _) (sym c.read_u16-count.ensures) ∙ sym c.are_apart.ensures ∙ c.if-not-are_apart.true in
    c.refuse-then-not-are_apart.ensures ∙ sym (read_not_apart _ p.soc p.siz p.whole (held at.Else-not-count_held) zero)

pub image_area-area-requires : goal.image_area-area-requires
image_area-area-requires c =
    let at = goal.at.image_area-area-requires c in
    omega (arith, (all_inside _ (passed at.In-Segment).whole (held at.Else-not-count_held)).0)

pub returns-then-area : goal.returns-then-area
returns-then-area c =
    let at = goal.at.returns-then-area c in
    let p = passed at.In-Segment in
    let refused = c.refuse-then-area.ensures in
    let not = read_not_ordered _ p.soc p.siz p.whole (held at.Else-not-count_held) (steps at.Else-not-are_apart) in
    elim c.then-area.branch [
      | then-area-via-then-area w ↦ refused ∙ sym (not (ap ordered (sym c.image_area-area.ensures) ∙ ordered_across _ w.if-area.true))
      | then-area-via-else-area+then-area-2 w ↦ refused ∙ sym (not (ap ordered (sym c.image_area-area.ensures) ∙ ordered_down _ w.if-area-2.true))
    ]

pub returns : goal.returns
returns c =
    let at = goal.at.returns c in
    let p = passed at.In-Segment in
    let both = ap ordered (sym c.image_area-area.ensures) ∙ ordered_both _ c.if-area.false c.if-area-2.false in
    (λ j. Ok (record { count = c.read_u16-count.ensures j; area = c.image_area-area.ensures j }))
    ∙ sym (read_all _ p.soc p.siz p.whole (held at.Else-not-count_held) (steps at.Else-not-are_apart) both)
