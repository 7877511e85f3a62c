-- One box of a list (docs/RULES.md, "Boxes"; boxes: ISO/IEC 15444-1, annex I.4). The list fills s, the file up to where the list ends: what is left of s is what is
-- left in the parent, or in the file at the top.
use Rattle.std.specs.Prelude.{ℕ, ◌+◌, ◌-◌, ◌^◌, Bool, cond, ◌&&◌, ◌||◌, List, length, leb, ltb, eqb, Option, Some, None, Result, Ok, Err}
use Rattle.numbers.specs.Bytes.{be}
use Rattle.types.specs.Refusals.{refusal}
use Rattle.reader.specs.Search.{box_at}
use Rattle.reader.specs.declared.search.BoxHeader.{BoxHeader}
use Rattle.reader.specs.declared.search.NoBox.{NoBox}
use Rattle.reader.specs.declared.search.NoBox.TheVariants.{End, CutShort}
use Rattle.reader.specs.declared.box_row.BoxEntry.{BoxEntry}
use Rattle.reader.specs.declared.box_step.ListStep.{ListStep}
use Rattle.reader.specs.declared.box_step.ListStep.TheVariants.{Plain, Superbox}
use Rattle.types.specs.declared.Refusal.{Refusal}
use Rattle.types.specs.declared.Reason.{Reason}
use Rattle.types.specs.declared.Reason.TheVariants.{BoxCutShort, BoxTooLong, BoxDoesNotFit, BoxLengthWrong, BoxesTooDeep}

-- boxes lie at depth 8 at most, the top being depth 1
abbrev pub deepest : ℕ
deepest = 8

-- the types of superboxes: "jp2h", "res " and "uinf"
unfoldable pub opens : ℕ → Bool
opens kind = eqb kind 0x6a70_3268 || (eqb kind 0x7265_7320 || eqb kind 0x7569_6e66)

-- a refusal at a box
abbrev pub refused_at : Reason → ℕ → Result (Option ListStep) Refusal
refused_at reason at = Err (refusal reason at)

abbrev pub entry_of : ℕ → ℕ → BoxHeader → BoxEntry
entry_of depth at b = record { depth = depth; kind = b.kind; start = record { 0 = at }; content = record { 0 = at + b.header }; length = b.length - b.header }

-- a box that was read, in a list that ends at a size: 28, shorter than its header; 16; 27, past the end of the list; 29, a superbox at depth 8 with content
unfoldable pub judged_box : ℕ → ℕ → ℕ → BoxHeader → Result (Option ListStep) Refusal
unfolding opens
judged_box size depth at b =
    cond (ltb b.length b.header) (refused_at BoxLengthWrong at)
    (cond (leb (2 ^ 64) (at + b.length)) (refused_at BoxTooLong at)
    (cond (ltb size (at + b.length)) (refused_at BoxDoesNotFit at)
    (cond (opens b.kind && ltb b.header b.length)
    (cond (ltb depth deepest) (Ok (Some (Superbox (entry_of depth at b)))) (refused_at BoxesTooDeep at))
    (Ok (Some (Plain (entry_of depth at b)))))))

-- 27, 1 to 7 bytes; 13; then 28, length 0 below the top
unfoldable pub on_read : List ℕ → ℕ → ℕ → Result BoxHeader NoBox → Result (Option ListStep) Refusal
unfolding judged_box
on_read s depth at (Err End) = refused_at BoxDoesNotFit at
on_read s depth at (Err CutShort) = refused_at BoxCutShort at
on_read s depth at (Ok b) = cond (ltb 1 depth && eqb (be 4 s at) 0) (refused_at BoxLengthWrong at) (judged_box (length s) depth at b)

unfoldable pub step_at : List ℕ → ℕ → ℕ → Result (Option ListStep) Refusal
unfolding on_read
step_at s depth at = cond (leb (length s) at) (Ok None) (on_read s depth at (box_at s at))
