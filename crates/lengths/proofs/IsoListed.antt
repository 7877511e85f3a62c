-- For a main header by the standard the table that is compared is the standard's: what the walk visits of the length table are the standard's segments, one for
-- one, and the order of Ztlm keeps them so, so that both list the same and refuse the same.
use Prim.Native.Nat.{ℕ, ◌+◌, ◌≤◌}
use native.Mathlib.Nat.{add-zero}
use native.Mathlib.Omega.{arith}
use mathlib.Core.Path.{◌≡◌, refl, sym, ap, ap₂, ◌∙◌}
use mathlib.Core.Bool.{Bool, true, false, cond}
use mathlib.Core.List.{List, [], ◌∷◌, ◌++◌, append_assoc, map}
use lib.ListN.{length, take, length-append}
use lib.Dec.{leb, eqb}
use borrow.Author.Tests.{eq-eqb, eqb-true}
use Rattle.numbers.specs.Bytes.{bytes_of}
use Rattle.numbers.specs.Rows.{bytes_of_rows, widths}
use Rattle.numbers.proofs.BytesLaws.{length_bytes, be_rest}
use Rattle.numbers.proofs.Rows.{be_row, be_one}
use Rattle.numbers.proofs.Choice.{by_bool}
use Rattle.types.specs.Markers.{SOC, SOT}
use Rattle.chain.specs.Chain.{Visit, Chain}
use Rattle.header.specs.Tlm.{ztlm, entry_count, entries_on, unindexed}
use Rattle.header.specs.Walk.{WalkEnd, at_first_sot}
use Rattle.header.specs.Strip.{is_tlm}
use Rattle.header.specs.Numbering.{next_number, entries_by, unindexed_in}
use Rattle.header.specs.Iso.{Segment, segment_bytes}
use Rattle.header.specs.IsoTlm.{TlmSegment, tlm_rows, TlmRanges, numbered, numbered_on, iso_table, without_index}
use Rattle.header.specs.IsoTlm as iso
use Rattle.header.specs.IsoMain.{Piece, tlm, other, piece_bytes, pieces_bytes, Sound, AllSound, IsMain, tables}
use Rattle.header.specs.declared.numbering.Numbering.TheVariants.{CarriedOn}
use Rattle.header.proofs.StepLaws.{step_sot}
use Rattle.header.proofs.WalkLaws.{not_true_false, walk_sot, walk_found}
use Rattle.header.proofs.NumberingLaws.{refused_first}
use Rattle.header.proofs.Numberings.{none_past, few_before}
use Rattle.header.proofs.IsoTlm.{tlm_marker, tlm_count, tlm_numbered, tlm_unindexed}
use Rattle.header.proofs.IsoMain.{marker_read, passing_of, piece_passed, siz_main, split_main, up_to_sot}
use Rattle.lengths.specs.Segments.{tlms_in, tlms_of, is_in, once, insert, ordered, numbers_end}
use Rattle.lengths.specs.Check.{listed}
use Rattle.lengths.specs.Iso.{Apart, Distinct}
use Rattle.lengths.proofs.PlacesFound.{ahead, ahead_plain, ahead_tlm}

-- ---- visits and segments, one for one

-- what is read at a visit is a segment
pub record Reads (s : List ℕ) (v : Visit) (t : TlmSegment) : Type 0 where
  pub is : is_tlm s v ≡ true
  pub number : ztlm s v.at ≡ t.Ztlm
  pub entries : (k : ℕ) → entries_on s v.at k 0 (entry_count s v.at) ≡ numbered t.ST k t.pointers
  pub many : unindexed s v.at ≡ cond (eqb t.ST 0) (length t.pointers) 0

-- each in turn
pub data Met (s : List ℕ) : List Visit → List TlmSegment → Type 0 where
  none : Met s [] []
  next : {v : Visit} {t : TlmSegment} {vs : List Visit} {ts : List TlmSegment} → Reads s v t → Met s vs ts → Met s (v ∷ vs) (t ∷ ts)

-- the order of Ztlm keeps them so
met_insert : {s : List ℕ} {v : Visit} {t : TlmSegment} {vs : List Visit} {ts : List TlmSegment} → Reads s v t → Met s vs ts
    → Met s (insert s v vs) (iso.insert t ts)
unfolding insert iso.insert
met_insert first none = next first none
met_insert {t = t} first (next {t = u} second more) =
    by_bool (leb t.Ztlm u.Ztlm)
    (λ e. rw (first.number, second.number, e) (next first (next second more)))
    (λ e. rw (first.number, second.number, e) (next second (met_insert first more)))

met_ordered : {s : List ℕ} {vs : List Visit} {ts : List TlmSegment} → Met s vs ts → Met s (ordered s vs) (iso.ordered ts)
unfolding ordered iso.ordered
met_ordered none = none
met_ordered (next first more) = met_insert first (met_ordered more)

-- the number behind a segment
carries : (k : ℕ) (b : Bool) (n : ℕ) → k + cond b n 0 ≡ cond b (k + n) k
carries k true n = refl
carries k false n = add-zero k

-- both list the same
met_listed : {s : List ℕ} {vs : List Visit} {ts : List TlmSegment} (k : ℕ) → Met s vs ts → entries_by CarriedOn s k vs ≡ numbered_on k ts
unfolding entries_by next_number numbered_on
met_listed k none = refl
met_listed k (next {t = t} {ts = ts} first more) =
    rw first.is
    (ap₂ ◌++◌ (first.entries k)
    (met_listed _ more ∙ ap (λ (n : ℕ). numbered_on n ts) (ap (λ (n : ℕ). k + n) first.many ∙ carries k (eqb t.ST 0) (length t.pointers))))

-- so many have none, in any order
met_count : {s : List ℕ} {vs : List Visit} {ts : List TlmSegment} → Met s vs ts → unindexed_in s vs ≡ without_index ts
unfolding unindexed_in without_index
met_count none = refl
met_count (next first more) = rw first.is (ap₂ ◌+◌ first.many (met_count more))

count_insert : (t : TlmSegment) (ts : List TlmSegment) → without_index (iso.insert t ts) ≡ without_index (t ∷ ts)
unfolding without_index iso.insert
count_insert t [] = refl
count_insert t (u ∷ more) = by_bool (leb t.Ztlm u.Ztlm) (λ e. rw e) (λ e. rw e (omega (arith, count_insert t more)))

pub count_ordered : (ts : List TlmSegment) → without_index (iso.ordered ts) ≡ without_index ts
unfolding without_index iso.ordered
count_ordered [] = refl
count_ordered (t ∷ more) = omega (arith, count_insert t (iso.ordered more), count_ordered more)

-- ---- each Ztlm once

-- what was used stays used
is_in_more : (z y : ℕ) (used : List ℕ) → is_in z used ≡ true → is_in z (y ∷ used) ≡ true
unfolding is_in
is_in_more z y used e = by_bool (eqb z y) (λ t. rw t) (λ t. rw (t, e))

-- none of those that were used is among the segments
abbrev Unused : List ℕ → List TlmSegment → Type 0
Unused used ts = (z : ℕ) → is_in z used ≡ true → Apart z ts

used_next : (used : List ℕ) (t : TlmSegment) (ts : List TlmSegment) → Unused used (t ∷ ts) → Apart t.Ztlm ts → Unused (t.Ztlm ∷ used) ts
unfolding is_in Apart
used_next used t ts unused alone z e =
    by_bool (eqb z t.Ztlm)
    (λ same. rw (eqb-true z t.Ztlm same) alone)
    (λ differs. (unused z (rw differs at e)).1)

-- nothing is refused where all differ from each other and from those that were used, and nowhere else
met_once : {s : List ℕ} {vs : List Visit} {ts : List TlmSegment} (used : List ℕ) → Met s vs ts → Unused used ts → Distinct ts → once s used vs ≡ at_first_sot
unfolding once Distinct Apart
met_once used none unused distinct = refl
met_once used (next {t = t} {ts = ts} first more) unused distinct =
    by_bool (is_in t.Ztlm used)
    (λ old. absurd ((unused t.Ztlm old).0 refl))
    (λ new. rw (first.number, new) (met_once (t.Ztlm ∷ used) more (used_next used t ts unused distinct.0) distinct.1))

once_met : {s : List ℕ} {vs : List Visit} {ts : List TlmSegment} (used : List ℕ) → Met s vs ts → once s used vs ≡ at_first_sot → Unused used ts × Distinct ts
unfolding once is_in Distinct Apart
once_met used none e = (λ z i. tt, tt)
once_met used (next {t = t} first more) e =
    by_bool (is_in t.Ztlm used)
    (λ old. absurd (refused_first (rw (first.number, old) at e)))
    (λ new. let rest = once_met (t.Ztlm ∷ used) more (rw (first.number, new) at e) in (
      λ z i. (λ same. not_true_false (sym i ∙ ap (λ (y : ℕ). is_in y used) same ∙ new), rest.0 z (is_in_more z t.Ztlm used i)),
      (rest.0 t.Ztlm (rw (eq-eqb t.Ztlm t.Ztlm refl)), rest.1),
    ))

-- ---- what the walk visits

module _ (front : List ℕ) (t : TlmSegment) (rest : List ℕ) (r : TlmRanges t) where
  number_read : ztlm (front ++ (bytes_of_rows (tlm_rows t) ++ rest)) (length front) ≡ t.Ztlm
  unfolding tlm_rows widths
  number_read = sym (be_one _ _) ∙ be_rest 1 front _ 4 ∙ be_row (take 2 (tlm_rows t)) 1 _ _ rest (omega (arith, r.Ztlm))

  read : (end : ℕ) → Reads (front ++ (bytes_of_rows (tlm_rows t) ++ rest)) (record { at = length front; next = end }) t
  read end =
      record {
        is = eq-eqb _ _ (tlm_marker front t rest r);
        number = number_read;
        entries = λ k. rw (tlm_count front t rest r) (tlm_numbered front t rest r k);
        many = tlm_unindexed front t rest r;
      }

-- an SOT ends it
at_sot : (front rest : List ℕ) → ahead (front ++ (bytes_of 2 SOT ++ rest)) (length front) ≡ []
unfolding tlms_in
at_sot front rest =
    let s : List ℕ = front ++ (bytes_of 2 SOT ++ rest) in
    let at : ℕ = length front in
    let long : at + 2 ≤ length s = simp (length-append, length_bytes) (omega arith) in
    ap (λ (c : Chain WalkEnd). tlms_in s c.visits) (walk_found s at (walk_sot s at (step_sot s at long (marker_read front SOT rest (omega arith)))))

-- a piece is passed, and what holds from its end on holds from its start on
past : (front : List ℕ) (p : Piece) (ps : List Piece) (rest : List ℕ) → Sound p
    → Met (front ++ (piece_bytes p ++ rest)) (ahead (front ++ (piece_bytes p ++ rest)) (length front + length (piece_bytes p))) (tables ps)
    → Met (front ++ (piece_bytes p ++ rest)) (ahead (front ++ (piece_bytes p ++ rest)) (length front)) (tables (p ∷ ps))
unfolding Sound piece_bytes tables passing_of
past front (other g) ps rest h behind = rw (ahead_plain _ _ _ (piece_passed front (other g) rest h) refl) behind
past front (tlm t) ps rest h behind = rw (ahead_tlm _ _ _ (piece_passed front (tlm t) rest h) refl) (next (read front t rest h _) behind)

walked : (front : List ℕ) (ps : List Piece) (rest : List ℕ) → AllSound ps
    → Met (front ++ (pieces_bytes ps ++ (bytes_of 2 SOT ++ rest))) (ahead (front ++ (pieces_bytes ps ++ (bytes_of 2 SOT ++ rest))) (length front)) (tables ps)
unfolding AllSound pieces_bytes tables
walked front [] rest h = rw (at_sot front rest) none
walked front (p ∷ ps) rest h =
    let after : List ℕ = pieces_bytes ps ++ (bytes_of 2 SOT ++ rest) in
    rw append_assoc
    (past front p ps after h.0
    (rw (← append_assoc front (piece_bytes p) after, ← length-append front (piece_bytes p)) (walked (front ++ piece_bytes p) ps rest h.1)))

-- where the length table's segments stand, from a position on
unfoldable pub stands_from : ℕ → List Piece → List ℕ
stands_from at [] = []
stands_from at (tlm t ∷ more) = at ∷ stands_from (at + length (piece_bytes (tlm t))) more
stands_from at (other g ∷ more) = stands_from (at + length (piece_bytes (other g))) more

abbrev places : List Visit → List ℕ
places vs = map (λ v. v.at) vs

past_at : (front : List ℕ) (p : Piece) (ps : List Piece) (rest : List ℕ) → Sound p
    → places (ahead (front ++ (piece_bytes p ++ rest)) (length front + length (piece_bytes p))) ≡ stands_from (length front + length (piece_bytes p)) ps
    → places (ahead (front ++ (piece_bytes p ++ rest)) (length front)) ≡ stands_from (length front) (p ∷ ps)
unfolding Sound piece_bytes passing_of stands_from
past_at front (other g) ps rest h behind = rw (ahead_plain _ _ _ (piece_passed front (other g) rest h) refl) behind
past_at front (tlm t) ps rest h behind = rw (ahead_tlm _ _ _ (piece_passed front (tlm t) rest h) refl) (ap (λ (l : List ℕ). length front ∷ l) behind)

walked_at : (front : List ℕ) (ps : List Piece) (rest : List ℕ) → AllSound ps
    → places (ahead (front ++ (pieces_bytes ps ++ (bytes_of 2 SOT ++ rest))) (length front)) ≡ stands_from (length front) ps
unfolding AllSound pieces_bytes stands_from
walked_at front [] rest h = rw (at_sot front rest)
walked_at front (p ∷ ps) rest h =
    let after : List ℕ = pieces_bytes ps ++ (bytes_of 2 SOT ++ rest) in
    rw append_assoc
    (past_at front p ps after h.0
    (rw (← append_assoc front (piece_bytes p) after, ← length-append front (piece_bytes p)) (walked_at (front ++ piece_bytes p) ps rest h.1)))

-- ---- the main header

module _ (g : Segment) (ps : List Piece) (rest : List ℕ) (m : IsMain g ps) where
  -- SIZ is the first piece
  pub main_met : Met (up_to_sot g ps rest) (tlms_of (up_to_sot g ps rest)) (tables ps)
  unfolding bytes_of pieces_bytes piece_bytes AllSound Sound tables
  main_met =
      rw (split_main g ps (bytes_of 2 SOT ++ rest), ← append_assoc (segment_bytes g) (pieces_bytes ps) _)
      (walked (bytes_of 2 SOC) (other g ∷ ps) rest ((siz_main m, λ e. omega (arith, m.siz)), m.pieces))

  pub main_places : map (λ v. v.at) (tlms_of (up_to_sot g ps rest)) ≡ stands_from 2 (other g ∷ ps)
  unfolding bytes_of pieces_bytes piece_bytes AllSound Sound
  main_places =
      rw (split_main g ps (bytes_of 2 SOT ++ rest), ← append_assoc (segment_bytes g) (pieces_bytes ps) _)
      (walked_at (bytes_of 2 SOC) (other g ∷ ps) rest ((siz_main m, λ e. omega (arith, m.siz)), m.pieces))

  -- The table that is compared is the standard's.
  pub listed_standard : listed (up_to_sot g ps rest) ≡ iso_table (tables ps)
  unfolding listed iso_table
  listed_standard = met_listed 0 (met_ordered main_met)

  -- No Ztlm is refused as used twice exactly where no two are the same.
  pub once_standard : Distinct (tables ps) → once (up_to_sot g ps rest) [] (tlms_of (up_to_sot g ps rest)) ≡ at_first_sot
  unfolding is_in
  once_standard distinct = met_once [] main_met (λ z e. absurd (not_true_false (sym e))) distinct

  pub distinct_standard : once (up_to_sot g ps rest) [] (tlms_of (up_to_sot g ps rest)) ≡ at_first_sot → Distinct (tables ps)
  distinct_standard e = (once_met [] main_met e).1

  -- No number passes exactly where no more than 65,535 entries have no index.
  pub numbers_standard : without_index (tables ps) ≤ 65_535 → numbers_end (up_to_sot g ps rest) ≡ at_first_sot
  numbers_standard few = none_past _ 0 _ at_first_sot (omega (arith, met_count (met_ordered main_met), count_ordered (tables ps)))

  pub few_standard : numbers_end (up_to_sot g ps rest) ≡ at_first_sot → without_index (tables ps) ≤ 65_535
  few_standard e = omega (arith, few_before (up_to_sot g ps rest) _ e, met_count (met_ordered main_met), count_ordered (tables ps))
