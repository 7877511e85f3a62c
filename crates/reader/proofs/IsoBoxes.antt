-- The listing gives the standard's tree of boxes back. A box that stands behind any bytes is read as the standard has it, and passes the tests of the step; then what it holds is a
-- list behind its header, and the rest a list behind the box.
use Prim.Native.Nat.{ℕ, zero, suc, ◌+◌, ◌-◌, ◌^◌, ◌≤◌, ◌<◌}
use native.Mathlib.Omega.{arith}
use mathlib.Core.Path.{◌≡◌, refl, sym, ap, ap₂, ◌∙◌}
use mathlib.Core.Bool.{true, false}
use mathlib.Core.List.{List, [], ◌∷◌, ◌++◌, append_assoc}
use lib.ListN.{length, length-append}
use lib.Seq.{take_at}
use Rattle.numbers.specs.Bytes.{be}
use Rattle.numbers.specs.Rows.{bytes_of_rows}
use Rattle.numbers.proofs.Rows.{length_rows}
use Rattle.reader.specs.Search.{box_at}
use Rattle.reader.specs.Iso.{Form, plain, extended, last, IsoBox, box_rows, header_size, box_bytes, Stands}
use Rattle.reader.specs.BoxRow.{end_of}
use Rattle.reader.specs.BoxStep.{opens, entry_of, judged_box, step_at}
use Rattle.reader.specs.Boxes.{Listing, boxes, before, then, boxes_in, contents_of, boxes_of}
use Rattle.reader.specs.IsoBoxes.{Tree, none, leaf, node, holding, tree_bytes, entry_for, tree_entries, StandsIn, IsoTree, IsoFile, TopEnds, Listable}
use Rattle.reader.specs.declared.search.BoxHeader.{BoxHeader}
use Rattle.reader.specs.declared.box_row.BoxEntry.{BoxEntry}
use Rattle.std.specs.Prelude.{Some, Ok}
use Rattle.reader.specs.declared.box_step.ListStep.{ListStep}
use Rattle.reader.specs.declared.box_step.ListStep.TheVariants.{Plain, Superbox}
use Rattle.reader.proofs.SearchLaws.{box_told}
use Rattle.reader.proofs.BoxStepLaws.{judged_other, judged_empty, judged_superbox, step_end, step_top, step_sized}
use Rattle.reader.proofs.BoxesLaws.{boxes_end, boxes_plain, boxes_superbox, before_none}
use Rattle.reader.proofs.Iso.{header_size_lem, length_box, LBox, LBox-iso, box_iso}

-- ---- a box behind any bytes, and any bytes behind it

abbrev header : IsoBox → List ℕ
header b = bytes_of_rows (box_rows b.form b.TBox (length b.DBox))

module _ (front : List ℕ) (b : IsoBox) where
  past_header : length (front ++ header b) ≡ length front + header_size b.form
  past_header = rw (length-append, length_rows, header_size_lem)

  past_content : length ((front ++ header b) ++ b.DBox) ≡ length front + header_size b.form + length b.DBox
  past_content = rw (length-append (front ++ header b) b.DBox, past_header)

  module _ (rest : List ℕ) where
    split : front ++ (box_bytes b ++ rest) ≡ ((front ++ header b) ++ b.DBox) ++ rest
    unfolding box_bytes
    split = simp append_assoc

    long : length (front ++ (box_bytes b ++ rest)) ≡ length front + header_size b.form + length b.DBox + length rest
    long = rw (split, length-append ((front ++ header b) ++ b.DBox) rest, past_content)

module _ (front : List ℕ) (depth : ℕ) (b : IsoBox) (rest : List ℕ) where
  abbrev s : List ℕ
  s = front ++ (box_bytes b ++ rest)

  abbrev start : ℕ
  start = length front

  abbrev e : BoxEntry
  e = entry_for depth start b

  abbrev head : BoxHeader
  head = record { kind = b.TBox; header = header_size b.form; length = header_size b.form + length b.DBox }

  -- the list that it holds, and the rest of its own
  abbrev within : Listing
  within = boxes_in ((front ++ header b) ++ b.DBox) (depth + 1) (start + header_size b.form)

  abbrev behind : Listing
  behind = boxes_in ((front ++ box_bytes b) ++ rest) depth (start + length (box_bytes b))

  held : contents_of s e ≡ within
  held = ap (λ (l : List ℕ). boxes_in l (depth + 1) (start + header_size b.form)) (rw split (take_at ((front ++ header b) ++ b.DBox) rest _ (past_content front b)))

  none_held : length b.DBox ≡ 0 → within ≡ boxes []
  none_held z = boxes_end _ _ _ (step_end _ _ _ (omega (arith, past_content front b)))

  next : boxes_in s depth (end_of e) ≡ behind
  next =
      let to : end_of e ≡ start + length (box_bytes b) = omega (arith, length_box b) in
      ap₂ (λ (l : List ℕ) (n : ℕ). boxes_in l depth n) (sym (append_assoc front (box_bytes b) rest)) to

  module _ (type : b.TBox < 2 ^ 32) (stands : Stands b.form (length b.DBox) rest) (top : TopEnds depth b.form) (small : length s < 2 ^ 64) where
    read : box_at s start ≡ Ok head
    read = rw (length_box b) at (box_iso front b rest type stands)

    inside : start < length s
    inside = let told = rw read at (box_told s start) in omega arith

    -- length 0 stands only at the top
    judged : (form : Form) → TopEnds depth form → be 4 s start ≡ LBox form (length b.DBox) → step_at s depth start ≡ judged_box (length s) depth start head
    unfolding TopEnds LBox
    judged plain t l = step_sized s depth start inside head read (λ z. omega arith)
    judged extended t l = step_sized s depth start inside head read (λ z. omega arith)
    judged last t l = step_top s depth start inside head read (omega arith)

    step_is : (x : BoxEntry → ListStep) → judged_box (length s) depth start head ≡ Ok (Some (x (entry_of depth start head))) → step_at s depth start ≡ Ok (Some (x e))
    step_is x h =
        let size : header_size b.form + length b.DBox - header_size b.form ≡ length b.DBox = omega arith in
        judged b.form top (LBox-iso front b rest stands) ∙ h ∙ rw size

    fits : start + head.length < 2 ^ 64
    fits = omega (arith, long front b rest)

    ends : start + head.length ≤ length s
    ends = omega (arith, long front b rest)

    other_listed : opens b.TBox ≡ false → boxes_in s depth start ≡ before (e ∷ []) behind
    other_listed o = boxes_plain s depth start e (step_is Plain (judged_other _ _ _ head (omega arith) fits ends o)) ∙ ap (before (e ∷ [])) next

    superbox_listed : (n : ℕ) → length b.DBox ≡ n → opens b.TBox ≡ true → (0 < n → depth < 8) → boxes_in s depth start ≡ before (e ∷ []) (then within behind)
    unfolding then
    superbox_listed zero z o d =
        rw (none_held z)
        (boxes_plain s depth start e (step_is Plain (judged_empty _ _ _ head (omega arith) fits ends (omega arith))) ∙ ap (before (e ∷ [])) (next ∙ before_none behind))
    superbox_listed (suc n) z o d =
        boxes_superbox s depth start e (step_is Superbox (judged_superbox _ _ _ head (omega arith) fits ends o (λ h. omega arith) (d (omega arith))))
        ∙ ap (before (e ∷ [])) (ap₂ then held next)

-- ---- a tree

-- boxes lie at depth 8 at most
not_deeper : (depth : ℕ) (t : Tree) → Listable depth t → 0 < length (tree_bytes t) → depth ≤ 8
unfolding Listable tree_bytes
not_deeper depth none l h = absurd (omega arith)
not_deeper depth (leaf b rest) l h = l.0
not_deeper depth (node form TBox held rest) l h = l.0

-- a list behind any bytes
listed_from_lem : (front : List ℕ) (depth : ℕ) (within : Form) (t : Tree) → IsoTree within t → Listable depth t → length (front ++ tree_bytes t) < 2 ^ 64
    → boxes_in (front ++ tree_bytes t) depth (length front) ≡ boxes (tree_entries depth (length front) t)
unfolding tree_bytes tree_entries IsoTree StandsIn Listable before then
listed_from_lem front depth within none i l small = boxes_end _ _ _ (step_end _ _ _ (rw length-append (omega arith)))
listed_from_lem front depth within (leaf b rest) i l small =
    other_listed front depth b (tree_bytes rest) i.1.0 i.1.1 l.1 small i.0
    ∙ ap (before (entry_for depth (length front) b ∷ []))
    (rw (length-append front (box_bytes b)) at (listed_from_lem (front ++ box_bytes b) depth within rest i.2 l.2 (rw append_assoc small)))
listed_from_lem front depth within (node form TBox held rest) i l small =
    let b : IsoBox = holding form TBox (tree_bytes held) in
    superbox_listed front depth b (tree_bytes rest) i.1.0 i.1.1 l.1 small _ refl i.0 (λ h. omega (arith, not_deeper (depth + 1) held l.2 h))
    ∙ ap₂ (λ (x y : Listing). before (entry_for depth (length front) b ∷ []) (then x y))
    (rw (past_header front b) at (listed_from_lem (front ++ header b) (depth + 1) form held i.2 l.2 (omega (arith, past_content front b, long front b (tree_bytes rest)))))
    (rw (length-append front (box_bytes b)) at (listed_from_lem (front ++ box_bytes b) depth within rest i.3 l.3 (rw append_assoc small)))

-- A tree of the standard's boxes to depth 8, written as bytes: the listing gives that tree back.
pub tree_listed : (t : Tree) → IsoFile t → Listable 1 t → length (tree_bytes t) < 2 ^ 64 → boxes_of (tree_bytes t) ≡ boxes (tree_entries 1 0 t)
tree_listed t i l small = listed_from_lem [] 1 last t i l small
