-- Each listed box is the one that stands in the file where it starts. What a superbox holds was read in the file cut off at the superbox's end: the same fields are read in the whole
-- file, and only length 0 asks where the file ends, which stands at the top alone.
use Prim.Native.Nat.{ℕ, ◌+◌, ◌-◌, ◌≤◌, ◌<◌}
use native.Mathlib.Omega.{arith}
use mathlib.Core.Path.{◌≡◌, refl, sym, ap, ◌∙◌}
use mathlib.Core.List.{List, [], ◌∷◌, ◌++◌}
use lib.ListN.{length, take}
use lib.Seq.{length-take-le, get_or-take}
use lib.Dec.{leb, eqb}
use borrow.Author.Tests.{eqb-true}
use Rattle.numbers.specs.Bytes.{be}
use Rattle.numbers.proofs.BytesLaws.{be_cong}
use Rattle.numbers.proofs.Rows.{RowsAt}
use Rattle.numbers.proofs.Choice.{by_test}
use Rattle.reader.specs.Search.{box_at}
use Rattle.reader.specs.Iso.{Form, plain, extended, last, box_rows, header_size}
use Rattle.reader.specs.BoxRow.{end_of}
use Rattle.reader.specs.BoxStep.{entry_of}
use Rattle.reader.specs.Boxes.{boxes, boxes_of}
use Rattle.reader.specs.BoxTree.{Own}
use Rattle.reader.specs.declared.box_row.BoxEntry.{BoxEntry}
use Rattle.std.specs.Prelude.{Result, Ok, Err}
use Rattle.reader.specs.declared.search.BoxHeader.{BoxHeader}
use Rattle.reader.specs.declared.search.NoBox.{NoBox}
use Rattle.reader.proofs.SearchLaws.{box_extended, box_to_end, box_plain}
use Rattle.reader.proofs.BoxStepLaws.{Reads, Stands, plain_reads, superbox_reads, superbox_stands}
use Rattle.reader.proofs.BoxesWalk.{Walk, done, past, into, walk}

-- ---- the standard's rows of a listed box

-- a box that reaches to the end of the file, by its length 0, is at the top
unfoldable pub ToEnd : List ℕ → BoxEntry → Form → Type 0
ToEnd s e plain = Unit {0}
ToEnd s e extended = Unit {0}
ToEnd s e last = (end_of e ≡ length s) × (e.depth ≤ 1)

-- they stand in the file where the box starts, and its content stands behind them
pub record Headed (s : List ℕ) (e : BoxEntry) : Type 0 where
  pub form : Form
  pub rows : RowsAt s e.start.0 (box_rows form e.kind e.length)
  pub content : e.content.0 ≡ e.start.0 + header_size form
  pub inside : end_of e ≤ length s
  pub to_end : ToEnd s e form

unfoldable pub AllHeaded : List ℕ → List BoxEntry → Type 0
AllHeaded s [] = Unit {0}
AllHeaded s (e ∷ rest) = Headed s e × AllHeaded s rest

module _ (s : List ℕ) where
  all_both : (es rest : List BoxEntry) → AllHeaded s es → AllHeaded s rest → AllHeaded s (es ++ rest)
  unfolding AllHeaded
  all_both [] rest a b = b
  all_both (e ∷ es) rest a b = (a.0, all_both es rest a.1 b)

  pub all_parts : (es rest : List BoxEntry) → AllHeaded s (es ++ rest) → AllHeaded s es × AllHeaded s rest
  unfolding AllHeaded
  all_parts [] rest a = (tt, a)
  all_parts (e ∷ es) rest a = let p = all_parts es rest a.1 in ((a.0, p.0), p.1)

-- ---- what was read in the front of a file

-- the front s of a file w in which a list at a depth was read: at the top, the whole file
record Front (w s : List ℕ) (depth : ℕ) : Type 0 where
  part : length s ≤ length w
  same : (k at : ℕ) → at + k ≤ length s → be k w at ≡ be k s at
  below : 1 ≤ depth
  top : depth ≤ 1 → length s ≡ length w

module _ {w s : List ℕ} {depth : ℕ} (f : Front w s depth) where
  -- a box that was read there, and passed the step's tests
  abbrev ReadHeaded : ℕ → Result BoxHeader NoBox → Type 0
  ReadHeaded at (Ok b) = b.header ≤ b.length → at + b.length ≤ length s → (1 < depth → be 4 s at ≡ 0 → ⊥) → Headed w (entry_of depth at b)
  ReadHeaded at (Err why) = Unit {0}

  read_headed : (at : ℕ) → ReadHeaded at (box_at s at)
  unfolding box_at RowsAt box_rows header_size ToEnd
  read_headed at =
      by_test (ReadHeaded at) (leb (at + 8) (length s))
      (λ _. by_test (ReadHeaded at) (eqb (be 4 s at) 1)
      (λ o. by_test (ReadHeaded at) (leb (at + 16) (length s))
      (λ _ whole i _. let long : be 8 w (at + 4 + 4) ≡ be 8 s (at + 8) = f.same 8 (at + 4 + 4) (omega arith) ∙ ap (be 8 s) (omega arith) in
      record {
        form = extended;
        rows = (f.same 4 at (omega arith) ∙ eqb-true _ _ o, (f.same 4 (at + 4) (omega arith), (omega arith, tt)));
        content = refl;
        inside = omega arith;
        to_end = tt;
      })
      (λ _. tt))
      (λ _. by_test (λ (n : ℕ). ReadHeaded at (Ok (record { kind = be 4 s (at + 4); header = 8; length = n }))) (eqb (be 4 s at) 0)
      (λ z whole i sized. let below : 1 < depth → ⊥ = λ d. sized d (eqb-true _ _ z) in
      record {
        form = last;
        rows = (f.same 4 at (omega arith) ∙ eqb-true _ _ z, (f.same 4 (at + 4) (omega arith), tt));
        content = refl;
        inside = omega arith;
        to_end = (omega (arith, f.top (omega arith)), omega arith);
      })
      (λ _ whole i _. record {
        form = plain;
        rows = (f.same 4 at (omega arith) ∙ omega arith, (f.same 4 (at + 4) (omega arith), tt));
        content = refl;
        inside = omega arith;
        to_end = tt;
      })))
      (λ _. tt)

  headed : {at : ℕ} {e : BoxEntry} → Reads s depth at e → Headed w e
  headed {at} r = rw r.is ((rw r.read at (read_headed at)) r.whole r.within r.sized)

  -- what a superbox holds was read in the file up to the superbox's end
  deeper : {at : ℕ} {e : BoxEntry} → Stands s depth at e → Front w (take (end_of e) s) (e.depth + 1)
  deeper {e = e} p =
      let long : length (take (end_of e) s) ≡ end_of e = length-take-le (end_of e) s p.inside in
      record {
        part = omega arith;
        same = λ k at h. f.same k at (omega arith) ∙ sym (be_cong k _ _ _ _ (λ n m. get_or-take (end_of e) s (at + n) 0 (omega arith)));
        below = omega arith;
        top = λ t. absurd (omega arith);
      }

walk_headed : {w s : List ℕ} {depth at : ℕ} {es : List BoxEntry} → Front w s depth → Walk s depth at es → AllHeaded w es
unfolding AllHeaded
walk_headed f (done h) = tt
walk_headed f (past h more) = (headed f (plain_reads h), walk_headed f more)
walk_headed {w} f (into {held = held} {rest = rest} h inner more) =
    (headed f (superbox_reads h), all_both w held rest (walk_headed (deeper f (superbox_stands h).0) inner) (walk_headed f more))

pub all_headed : (s : List ℕ) (es : List BoxEntry) → boxes_of s ≡ boxes es → AllHeaded s es
all_headed s es e =
    let whole : Front s s 1 = record { part = omega arith; same = λ _ _ _. refl; below = omega arith; top = λ _. refl } in
    walk_headed whole (walk s 1 0 es e)

-- ---- so it is the box that stands there

module _ (s : List ℕ) (e : BoxEntry) (h : Headed s e) where
  abbrev at : ℕ
  at = e.start.0

  rows_box : (form : Form) → RowsAt s at (box_rows form e.kind e.length) → e.content.0 ≡ at + header_size form → ToEnd s e form
      → box_at s at ≡ Ok (record { kind = e.kind; header = header_size form; length = header_size form + e.length })
  unfolding RowsAt box_rows header_size ToEnd
  rows_box plain r c t =
      box_plain s at (omega arith) (λ o. omega arith) (λ z. omega arith) ∙ (λ i. Ok (record { kind = r.1.0 i; header = 8; length = r.0 i }))
  rows_box extended r c t =
      let long : be 8 s (at + 8) ≡ 16 + e.length = ap (be 8 s) (omega arith) ∙ r.1.1.0 in
      box_extended s at (omega arith) r.0 (omega arith) ∙ (λ i. Ok (record { kind = r.1.0 i; header = 16; length = long i }))
  rows_box last r c t =
      let left : length s - at ≡ 8 + e.length = omega arith in
      box_to_end s at (omega arith) r.0 ∙ (λ i. Ok (record { kind = r.1.0 i; header = 8; length = left i }))

  box_own : box_at s at ≡ Ok (record { kind = e.kind; header = e.content.0 - at; length = end_of e - at })
  box_own =
      let header : header_size h.form ≡ e.content.0 - at = omega arith in
      let whole : header_size h.form + e.length ≡ end_of e - at = omega arith in
      rows_box h.form h.rows h.content h.to_end ∙ (λ i. Ok (record { kind = e.kind; header = header i; length = whole i }))

all_own : (s : List ℕ) (es : List BoxEntry) → AllHeaded s es → Own s es
unfolding AllHeaded Own
all_own s [] a = tt
all_own s (e ∷ rest) a = (box_own s e a.0, all_own s rest a.1)

pub own_boxes : (s : List ℕ) (es : List BoxEntry) → boxes_of s ≡ boxes es → Own s es
own_boxes s es e = all_own s es (all_headed s es e)
