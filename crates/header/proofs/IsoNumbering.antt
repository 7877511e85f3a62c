-- A main header by the standard, read with its entries' numbers carried on, whatever stands behind it: the answer is the walk's where no more than 65,535
-- entries have no index, and otherwise 26 at the segment where the number passes. What the walk refuses behind few enough of them is refused as ever.
use Prim.Native.Nat.{ℕ, ◌+◌, ◌≤◌, ◌<◌}
use native.Mathlib.Nat.{add-zero, add_assoc}
use native.Mathlib.Omega.{arith}
use mathlib.Core.Path.{◌≡◌, refl, sym, ap, ◌∙◌, subst}
use mathlib.Core.Bool.{cond}
use mathlib.Core.List.{List, [], ◌∷◌, ◌++◌, append_assoc, append-nil}
use lib.ListN.{length, length-append}
use lib.Dec.{leb, eqb}
use borrow.Author.Tests.{le-leb, lt-leb, leb-true, leb-false, eq-eqb}
use Rattle.std.specs.Prelude.{Err}
use Rattle.numbers.specs.Bytes.{bytes_of}
use Rattle.numbers.specs.Rows.{bytes_of_rows}
use Rattle.numbers.proofs.BytesLaws.{length_bytes}
use Rattle.numbers.proofs.Choice.{by_bool}
use Rattle.types.specs.Markers.{SOC}
use Rattle.types.specs.Refusals.{refusal}
use Rattle.types.specs.declared.Refusal.{Refusal}
use Rattle.chain.specs.Chain.{Chain}
use Rattle.header.specs.Walk.{WalkEnd, refused, walk_step_at, walk_from}
use Rattle.header.specs.Numbering.{next_number, ended_by}
use Rattle.header.specs.Parse.{read_as, judged, judged_by}
use Rattle.header.specs.Iso.{Segment, segment_bytes}
use Rattle.header.specs.IsoTlm.{TlmSegment, tlm_rows, TlmRanges, without_index}
use Rattle.header.specs.IsoMain.{Piece, tlm, other, piece_bytes, pieces_bytes, main_header, Sound, AllSound, IsMain, tables}
use Rattle.header.specs.declared.numbering.Numbering.{Numbering}
use Rattle.header.specs.declared.numbering.Numbering.TheVariants.{CarriedOn, Restarting}
use Rattle.header.proofs.WalkLaws.{walk_refused}
use Rattle.header.proofs.NumberingLaws.{end_from, end_plain, end_tlm, end_26, by_sound}
use Rattle.header.proofs.Numberings.{carried_accepts}
use Rattle.header.proofs.IsoTlm.{tlm_unindexed}
use Rattle.header.proofs.IsoMain.{passing_of, piece_passed, up_to_sot, siz_main, split_main, front_main, many_main}
use Rattle.types.specs.declared.Reason.TheVariants.{TlmTooManyEntries}

-- ---- how the walk over pieces ends

-- the number behind a segment
iso_next : Numbering → ℕ → TlmSegment → ℕ
iso_next CarriedOn k t = k + cond (eqb t.ST 0) (length t.pointers) 0
iso_next Restarting k t = 0

-- refused at a segment, or as what stands behind the pieces ends
end_on : Numbering → (ℕ → ℕ → WalkEnd) → ℕ → ℕ → List Piece → WalkEnd
end_on n rest k at [] = rest k at
end_on n rest k at (other g ∷ ps) = end_on n rest k (at + length (segment_bytes g)) ps
end_on n rest k at (tlm t ∷ ps) =
    cond (leb (iso_next n k t) 65_535) (end_on n rest (iso_next n k t) (at + length (bytes_of_rows (tlm_rows t))) ps) (refused (refusal TlmTooManyEntries at))

next_iso : (n : Numbering) (front : List ℕ) (t : TlmSegment) (rest : List ℕ) → TlmRanges t → (k : ℕ)
    → next_number n (front ++ (bytes_of_rows (tlm_rows t) ++ rest)) (length front) k ≡ iso_next n k t
unfolding next_number iso_next
next_iso CarriedOn front t rest h k = ap (λ (m : ℕ). k + m) (tlm_unindexed front t rest h)
next_iso Restarting front t rest h k = refl

-- a piece is passed
end_past : (n : Numbering) (front : List ℕ) (p : Piece) (ps : List Piece) (rest : List ℕ) → Sound p → (behind : ℕ → ℕ → WalkEnd)
    → ((k : ℕ) → end_from n (front ++ (piece_bytes p ++ rest)) k (length front + length (piece_bytes p)) ≡ end_on n behind k (length front + length (piece_bytes p)) ps)
    → (k : ℕ) → end_from n (front ++ (piece_bytes p ++ rest)) k (length front) ≡ end_on n behind k (length front) (p ∷ ps)
unfolding Sound piece_bytes passing_of end_on
end_past n front (other g) ps rest h behind more k = end_plain n _ k (length front) (passing_of (length front) (other g)) (piece_passed front (other g) rest h) refl ∙ more k
end_past n front (tlm t) ps rest h behind more k =
    let s : List ℕ = front ++ (bytes_of_rows (tlm_rows t) ++ rest) in
    let at : ℕ = length front in
    let p = passing_of at (tlm t) in
    let found = piece_passed front (tlm t) rest h in
    let numbered = next_iso n front t rest h k in
    by_bool (leb (iso_next n k t) 65_535)
    (λ e. rw e
    (end_tlm n s k at p found refl (omega (arith, numbered, leb-true (iso_next n k t) 65_535 e))
    ∙ ap (λ (m : ℕ). end_from n s m (at + length (bytes_of_rows (tlm_rows t)))) numbered
    ∙ more (iso_next n k t)))
    (λ e. rw e (end_26 n s k at p found refl (omega (arith, numbered, leb-false (iso_next n k t) 65_535 e))))

ends_over : (n : Numbering) (front : List ℕ) (ps : List Piece) (tail : List ℕ) → AllSound ps → (k : ℕ)
    → end_from n (front ++ (pieces_bytes ps ++ tail)) k (length front) ≡ end_on n (end_from n (front ++ (pieces_bytes ps ++ tail))) k (length front) ps
unfolding AllSound pieces_bytes end_on
ends_over n front [] tail h k = refl
ends_over n front (p ∷ ps) tail h k =
    let after : List ℕ = pieces_bytes ps ++ tail in
    let s : List ℕ = front ++ (piece_bytes p ++ after) in
    let whole : s ≡ front ++ (pieces_bytes (p ∷ ps) ++ tail) = ap (λ (xs : List ℕ). front ++ xs) (sym (append_assoc (piece_bytes p) (pieces_bytes ps) tail)) in
    subst (λ (xs : List ℕ). end_from n xs k (length front) ≡ end_on n (end_from n xs) k (length front) (p ∷ ps)) whole
    (end_past n front p ps after h.0 (end_from n s)
    (rw (← append_assoc front (piece_bytes p) after, ← length-append front (piece_bytes p)) (ends_over n (front ++ piece_bytes p) ps tail h.1))
    k)

-- behind pieces whose numbers do not pass
end_behind : (rest : ℕ → ℕ → WalkEnd) (k at : ℕ) (before ps : List Piece) → k + without_index (tables before) ≤ 65_535
    → end_on CarriedOn rest k at (before ++ ps) ≡ end_on CarriedOn rest (k + without_index (tables before)) (at + length (pieces_bytes before)) ps
unfolding end_on iso_next tables without_index pieces_bytes piece_bytes
end_behind rest k at [] ps h = λ i. end_on CarriedOn rest (sym (add-zero k) i) (sym (add-zero at) i) ps
end_behind rest k at (other g ∷ before) ps h =
    end_behind rest k (at + length (segment_bytes g)) before ps h
    ∙ ap (λ (n : ℕ). end_on CarriedOn rest (k + without_index (tables before)) n ps) (omega (arith, length-append (segment_bytes g) (pieces_bytes before)))
end_behind rest k at (tlm t ∷ before) ps h =
    let more : ℕ = cond (eqb t.ST 0) (length t.pointers) 0 in
    rw (le-leb (k + more) 65_535 (omega arith))
    (end_behind rest (k + more) (at + length (bytes_of_rows (tlm_rows t))) before ps (omega arith)
    ∙ (λ i. end_on CarriedOn rest (add_assoc k more (without_index (tables before)) i) (place i) ps))
  where
    place : at + length (bytes_of_rows (tlm_rows t)) + length (pieces_bytes before) ≡ at + length (bytes_of_rows (tlm_rows t) ++ pieces_bytes before)
    place = omega (arith, length-append (bytes_of_rows (tlm_rows t)) (pieces_bytes before))

-- restarting, whatever their numbers
end_restarting : (rest : ℕ → ℕ → WalkEnd) (k at : ℕ) (ps : List Piece) (ended : WalkEnd)
    → ((m : ℕ) → rest m (at + length (pieces_bytes ps)) ≡ ended) → end_on Restarting rest k at ps ≡ ended
unfolding end_on iso_next pieces_bytes piece_bytes
end_restarting rest k at [] ended e = rw add-zero at (e k)
end_restarting rest k at (other g ∷ ps) ended e =
    end_restarting rest k (at + length (segment_bytes g)) ps ended
    (λ m. ap (rest m) (omega (arith, length-append (segment_bytes g) (pieces_bytes ps))) ∙ e m)
end_restarting rest k at (tlm t ∷ ps) ended e =
    end_restarting rest 0 (at + length (bytes_of_rows (tlm_rows t))) ps ended
    (λ m. ap (rest m) (omega (arith, length-append (bytes_of_rows (tlm_rows t)) (pieces_bytes ps))) ∙ e m)

-- ---- the main header

-- the answer is the same, if no more than 65,535 entries have no index
pub carried_standard : (g : Segment) (ps : List Piece) (rest : List ℕ) → IsMain g ps → without_index (tables ps) ≤ 65_535
    → judged_by CarriedOn (up_to_sot g ps rest) ≡ judged (up_to_sot g ps rest)
carried_standard g ps rest m few = carried_accepts (up_to_sot g ps rest) (omega (arith, many_main g ps rest m))

module _ (g : Segment) (ps : List Piece) (tail : List ℕ) (m : IsMain g ps) (short : length (main_header g ps ++ tail) ≤ 0xffff_ffff) where
  s : List ℕ
  s = main_header g ps ++ tail

  judged_ends : (n : Numbering) (ended : WalkEnd) → end_on n (end_from n s) 0 (2 + length (segment_bytes g)) ps ≡ ended
      → judged_by n (main_header g ps ++ tail) ≡ read_as (main_header g ps ++ tail) (walk_from (main_header g ps ++ tail) 2) ended
  unfolding s end_on bytes_of main_header pieces_bytes piece_bytes AllSound Sound
  judged_ends n ended e =
      let over : end_from n s 0 2 ≡ end_on n (end_from n s) 0 2 (other g ∷ ps) =
      rw (split_main g ps tail, ← append_assoc (segment_bytes g) (pieces_bytes ps) tail)
      (ends_over n (bytes_of 2 SOC) (other g ∷ ps) tail ((siz_main m, λ f. omega (arith, m.siz)), m.pieces) 0) in
      by_sound n s (front_main g ps tail m short) ∙ ap (read_as s (walk_from s 2)) (over ∙ e)

  -- the walk's own refusal behind them stands
  module _ (r : Refusal) (found : walk_step_at (main_header g ps ++ tail) (length (main_header g ps)) ≡ Err r) where
    at_end : (n : Numbering) (k : ℕ) → end_from n s k (2 + length (segment_bytes g) + length (pieces_bytes ps)) ≡ refused r
    unfolding s main_header ended_by
    at_end n k =
        let place : 2 + length (segment_bytes g) + length (pieces_bytes ps) ≡ length (main_header g ps) =
        omega (arith, length-append (bytes_of 2 SOC) (segment_bytes g ++ pieces_bytes ps), length-append (segment_bytes g) (pieces_bytes ps), length_bytes 2 SOC) in
        rw place (ap (λ (c : Chain WalkEnd). ended_by n s k c.visits c.ended) (walk_refused s (length (main_header g ps)) r found))

    pub own_carried : without_index (tables ps) ≤ 65_535 → judged_by CarriedOn (main_header g ps ++ tail) ≡ Err r
    unfolding read_as s end_on
    own_carried few =
        judged_ends CarriedOn (refused r)
        (ap (end_on CarriedOn (end_from CarriedOn s) 0 (2 + length (segment_bytes g))) (sym (append-nil ps))
        ∙ end_behind (end_from CarriedOn s) 0 (2 + length (segment_bytes g)) ps [] (omega arith)
        ∙ at_end CarriedOn (0 + without_index (tables ps)))

    pub own_restarting : judged_by Restarting (main_header g ps ++ tail) ≡ Err r
    unfolding read_as s
    own_restarting = judged_ends Restarting (refused r) (end_restarting (end_from Restarting s) 0 (2 + length (segment_bytes g)) ps (refused r) (at_end Restarting))

-- 26, at the segment with the first entry whose number would pass 65,534, whatever stands behind it
pub past_standard : (g : Segment) (before : List Piece) (t : TlmSegment) (after : List Piece) (tail : List ℕ) → IsMain g (before ++ (tlm t ∷ after))
    → length (main_header g (before ++ (tlm t ∷ after)) ++ tail) ≤ 0xffff_ffff → without_index (tables before) ≤ 65_535 → t.ST ≡ 0
    → 65_535 < without_index (tables before) + length t.pointers
    → judged_by CarriedOn (main_header g (before ++ (tlm t ∷ after)) ++ tail) ≡ Err (refusal TlmTooManyEntries (length (main_header g before)))
unfolding read_as s end_on iso_next main_header
past_standard g before t after tail m short few none many =
    let place : 2 + length (segment_bytes g) + length (pieces_bytes before) ≡ length (main_header g before) =
    omega (arith, length-append (bytes_of 2 SOC) (segment_bytes g ++ pieces_bytes before), length-append (segment_bytes g) (pieces_bytes before), length_bytes 2 SOC) in
    let rest = end_from CarriedOn (main_header g (before ++ (tlm t ∷ after)) ++ tail) in
    judged_ends g (before ++ (tlm t ∷ after)) tail m short CarriedOn (refused (refusal TlmTooManyEntries (length (main_header g before))))
    (end_behind rest 0 (2 + length (segment_bytes g)) before (tlm t ∷ after) (omega arith)
    ∙ rw (eq-eqb _ _ none, lt-leb (0 + without_index (tables before) + length t.pointers) 65_535 (omega arith)) (λ i. refused (refusal TlmTooManyEntries (place i))))
