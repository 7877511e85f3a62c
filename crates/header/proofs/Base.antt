-- What a step says of the marker that it passes, and the numbering, are all that is new: who forgets the one has the step, the walk and, restarting, the
-- answer of before, on every input. The chains are the same, so what is said of these in words that have not changed is as it was: the extent,
-- acceptance, the first SOT, the decode header, the TLM table, and each refusal with its place.
use Prim.Native.Nat.{ℕ, ◌+◌, ◌*◌}
use mathlib.Core.Path.{◌≡◌, refl, sym, ap, ◌∙◌}
use mathlib.Core.Bool.{cond}
use mathlib.Core.List.{List, ◌++◌}
use lib.ListN.{length, drop}
use lib.Dec.{leb, eqb}
use borrow.Author.Tests.{ne_eqb}
use Rattle.std.specs.Prelude.{Option, Some, None, Result, Ok, Err, ⊤}
use Rattle.numbers.specs.Bytes.{be}
use Rattle.numbers.proofs.Choice.{by_bool}
use Rattle.types.specs.Markers.{SOC, SOT, TLM}
use Rattle.types.specs.Row.{row_bytes, rows_of}
use Rattle.types.specs.declared.TilePartEntry.{TilePartEntry}
use Rattle.chain.specs.Chain.{Chain, chain}
use Rattle.header.specs.Step.{delimits, segment_end, cut, step_at, move_of, move_at, steps_from}
use Rattle.header.specs.Extent.{extent_end, extent_of}
use Rattle.header.specs.Tlm.{tlm_at, placed}
use Rattle.header.specs.Walk.{tlm_step, passed_at, walk_step_of, walk_step_at, WalkEnd, at_first_sot, refused, walk_move, walk_at, walk_from}
use Rattle.header.specs.Strip.{decode_header, tlm_entries}
use Rattle.header.specs.Reading.{older_by}
use Rattle.header.specs.Parse.{read_as, front_of, behind_front, judged, with_room, parsed, tlm_table, table_after}
use Rattle.header.specs.declared.step.Marker.{Marker}
use Rattle.header.specs.declared.step.HeaderStep.{HeaderStep}
use Rattle.header.specs.declared.step.HeaderStep.TheVariants.{Sot, Delimiter, Segment, CutShort}
use Rattle.header.specs.declared.parse.MainHeaderInfo.{MainHeaderInfo}
use Rattle.header.proofs.StepLaws.{Told, step_told}
use Rattle.header.specs.declared.numbering.Numbering.TheVariants.{Restarting}
use Rattle.header.proofs.EditionLaws.{as_older}
use Rattle.header.proofs.NumberingLaws.{judged_restart, table_restart}
use Rattle.header.proofs.WalkLaws.{not_true_false, tlm_no_delimiter}
use Rattle.header.specs.Base as base
use Rattle.header.specs.declared.walk.Passed.{Passed as Passing}
use Rattle.types.specs.declared.Refusal.{Refusal}

-- ---- the step

module _ (s : List ℕ) (at : ℕ) where
  pub step_base : base.without_marker (step_at s at) ≡ base.step_at s at
  unfolding step_at base.step_at base.without_marker
  step_base =
      by_bool (leb (at + 2) (length s))
      (λ e₁. by_bool (eqb (be 2 s at) SOT) (λ e₂. rw (e₁, e₂))
      (λ e₂. by_bool (delimits (be 2 s at)) (λ e₃. rw (e₁, e₂, e₃))
      (λ e₃. by_bool (leb (at + 4) (length s))
      (λ e₄. by_bool (leb (segment_end s at) (length s)) (λ e₅. rw (e₁, e₂, e₃, e₄, e₅)) (λ e₅. rw (e₁, e₂, e₃, e₄, e₅)))
      (λ e₄. rw (e₁, e₂, e₃, e₄)))))
      (λ e₁. rw e₁)

  move_base : move_at s at ≡ base.move_of (base.step_at s at)
  unfolding move_at move_of base.move_of base.without_marker
  move_base = by (step_at s at) ∙ ap base.move_of step_base
    where
      by : (found : HeaderStep) → move_of found ≡ base.move_of (base.without_marker found)
      by Sot = refl
      by (Delimiter m) = refl
      by (Segment m) = refl
      by CutShort = refl

pub steps_base : (s : List ℕ) (at : ℕ) → steps_from s at ≡ base.steps_from s at
unfolding steps_from base.steps_from
steps_base s at = λ i. chain cut (λ here. move_base s here i) (length s) at

-- the extent's words have not changed
pub extent_base : (s : List ℕ) → extent_of s ≡ cond (leb 4 (length s)) (cond (eqb (be 2 s 0) SOC) (extent_end (base.steps_from s 2)) None) None
unfolding extent_of
extent_base s = λ i. cond (leb 4 (length s)) (cond (eqb (be 2 s 0) SOC) (extent_end (steps_base s 2 i)) None) None

-- ---- the walk

tlm_base : (m : Marker) (t : Result ℕ Refusal) → base.without_code (tlm_step m t) ≡ base.tlm_step m.next t
unfolding tlm_step base.tlm_step base.without_code
tlm_base m (Ok n) = refl
tlm_base m (Err r) = refl

-- no delimiter is TLM, so that one was passed without that test changes nothing
passed_base : (s : List ℕ) (at : ℕ) (found : HeaderStep) → Told s at found
    → base.without_code (walk_step_of s at found) ≡ base.walk_step_of s at (base.without_marker found)
unfolding walk_step_of passed_at base.walk_step_of base.passed_at base.without_code base.without_marker
passed_base s at Sot told = refl
passed_base s at (Delimiter m) told = rw (ne_eqb (be 2 s at) TLM (λ is. not_true_false (sym told.4 ∙ ap delimits is ∙ tlm_no_delimiter)))
passed_base s at (Segment m) told =
    let code : m.code ≡ be 2 s at = ap (λ (k : Marker). k.code) told.3 in
    by_bool (eqb m.code TLM) (λ e. rw (← code, e) (tlm_base m (tlm_at s at))) (λ e. rw (← code, e))
passed_base s at CutShort told = refl

module _ (s : List ℕ) (at : ℕ) where
  pub walk_step_base : base.without_code (walk_step_at s at) ≡ base.walk_step_of s at (base.step_at s at)
  unfolding walk_step_at
  walk_step_base = passed_base s at (step_at s at) (step_told s at) ∙ ap (base.walk_step_of s at) (step_base s at)

  walk_move_base : walk_at s at ≡ base.walk_move (base.walk_step_of s at (base.step_at s at))
  unfolding walk_at walk_move base.walk_move base.without_code
  walk_move_base = by (walk_step_at s at) ∙ ap base.walk_move walk_step_base
    where
      by : (found : Result (Option Passing) Refusal) → walk_move found ≡ base.walk_move (base.without_code found)
      by (Ok (Some p)) = refl
      by (Ok None) = refl
      by (Err r) = refl

pub walk_base : (s : List ℕ) (at : ℕ) → walk_from s at ≡ base.walk_from s at
unfolding walk_from base.walk_from
walk_base s at = λ i. chain at_first_sot (λ here. walk_move_base s here i) (length s) at

-- nor have those of the decode header and of the table
pub decode_base : (s : List ℕ) → decode_header s (walk_from s 2).visits ≡ decode_header s (base.walk_from s 2).visits
decode_base s = λ i. decode_header s (walk_base s 2 i).visits

pub table_base : (s : List ℕ) → tlm_table s ≡ placed (base.walk_from s 2).stopped (tlm_entries s (base.walk_from s 2).visits)
unfolding tlm_table
table_base s = λ i. placed (walk_base s 2 i).stopped (tlm_entries s (walk_base s 2 i).visits)

-- ---- the reading

read_base : (s : List ℕ) (w : Chain WalkEnd) (ended : WalkEnd) → base.without_fillers (read_as s w ended) ≡ base.read_as s w ended
unfolding read_as base.read_as base.without_fillers
read_base s w at_first_sot = refl
read_base s w (refused r) = refl

behind_base : (s : List ℕ) (f : Result ⊤ Refusal) → base.without_fillers (behind_front s f) ≡ base.behind_front s f
unfolding behind_front base.behind_front base.without_fillers
behind_base s (Ok tt) = read_base s (walk_from s 2) (walk_from s 2).ended ∙ (λ i. base.read_as s (walk_base s 2 i) (walk_base s 2 i).ended)
behind_base s (Err r) = refl

pub judged_base : (s : List ℕ) → base.without_fillers (judged s) ≡ base.behind_front s (front_of s)
unfolding judged
judged_base s = behind_base s (front_of s)

room_base : (rows room : ℕ) (answer : Result MainHeaderInfo Refusal) → base.without_fillers (with_room rows room answer) ≡ base.with_room rows room (base.without_fillers answer)
unfolding with_room base.with_room base.without_fillers
room_base rows room (Ok h) =
    by_bool (leb h.tlm_entries rows)
    (λ e₁. by_bool (leb h.decode_header_length room) (λ e₂. rw (e₁, e₂)) (λ e₂. rw (e₁, e₂)))
    (λ e₁. rw e₁)
room_base rows room (Err r) = refl

pub parsed_base : (s : List ℕ) (rows room : ℕ) → base.without_fillers (parsed (older_by Restarting) s rows room) ≡ base.with_room rows room (base.behind_front s (front_of s))
unfolding parsed
parsed_base s rows room =
    ap (λ (m : Result MainHeaderInfo Refusal). base.without_fillers (with_room rows room m)) (as_older (older_by Restarting) s refl ∙ judged_restart s) ∙ room_base rows room (judged s) ∙ ap (base.with_room rows room) (judged_base s)

-- what is left in the table, numbered from 0 in each segment: the old text
pub after_base : (h : MainHeaderInfo) (s table : List ℕ) → table_after Restarting (Ok h) s table ≡ rows_of (tlm_table s) ++ drop (row_bytes * h.tlm_entries) table
unfolding table_after
after_base h s table = ap (λ (es : List TilePartEntry). rows_of es ++ drop (row_bytes * h.tlm_entries) table) (table_restart s)
