-- The search and the tree agree: in an accepted file a step of the search goes past a box of the top list, over all that it holds, and stops at a jp2c. So it finds the first jp2c
-- of the top list, or the file's end.
use Prim.Native.Nat.{ℕ, ◌+◌, ◌≤◌, ◌<◌}
use native.Mathlib.Omega.{arith}
use mathlib.Core.Path.{◌≡◌, refl, sym, ap, ◌∙◌}
use mathlib.Core.Bool.{true, false, ◌&&◌, and-eq-true_iff}
use mathlib.Core.List.{List, [], ◌∷◌, ◌++◌, append-nil}
use lib.ListN.{length}
use lib.Dec.{leb, eqb}
use borrow.Author.Tests.{leb-true, eq-eqb, eqb-true, eqb-false}
use Rattle.numbers.specs.Bytes.{be}
use Rattle.numbers.proofs.Choice.{by_test, by_bool}
use Rattle.types.specs.Refusals.{refusal}
use Rattle.reader.specs.Search.{JP2C, SIGNATURE, codestream, found_from, is_jp2, found_in}
use Rattle.reader.specs.BoxRow.{end_of}
use Rattle.reader.specs.BoxStep.{opens}
use Rattle.reader.specs.Boxes.{boxes, boxes_of}
use Rattle.reader.specs.BoxTree.{first_codestream, NoCodestream}
use Rattle.reader.specs.declared.box_row.BoxEntry.{BoxEntry}
use Rattle.std.specs.Prelude.{Result, Ok, Err}
use Rattle.types.specs.declared.Refusal.{Refusal}
use Rattle.reader.specs.declared.search.Codestream.{Codestream}
use Rattle.reader.proofs.SearchLaws.{box_end, content_part, passed_on, move_end, move_jp2c, move_past, found_end, found_on, found_jp2}
use Rattle.reader.proofs.BoxStepLaws.{Reads, plain_reads, plain_stands, superbox_reads, superbox_stands, end_reached}
use Rattle.reader.proofs.BoxesWalk.{Walk, done, past, into, walk}
use Rattle.types.specs.declared.Reason.TheVariants as reason

-- ---- the first jp2c at the top of a list

none_in_both : (front back : List BoxEntry) → NoCodestream front → NoCodestream back → NoCodestream (front ++ back)
unfolding NoCodestream
none_in_both [] back f b = b
none_in_both (e ∷ front) back f b = (f.0, none_in_both front back f.1 b)

module _ (size : ℕ) where
  module _ (e : BoxEntry) (rest : List BoxEntry) where
    first_here : e.depth ≡ 1 → e.kind ≡ JP2C → first_codestream size (e ∷ rest) ≡ Ok (codestream e.content e.length)
    unfolding first_codestream
    first_here d k = rw (eq-eqb _ _ d, eq-eqb _ _ k)

    first_past : (e.depth ≡ 1 → e.kind ≡ JP2C → ⊥) → first_codestream size (e ∷ rest) ≡ first_codestream size rest
    unfolding first_codestream
    first_past other =
        by_test (λ (f : Result Codestream Refusal). f ≡ first_codestream size rest) (eqb e.depth 1 && eqb e.kind JP2C)
        (λ t. let both = (and-eq-true_iff (eqb e.depth 1) (eqb e.kind JP2C)).0 t in absurd (other (eqb-true _ _ both.0) (eqb-true _ _ both.1)))
        (λ _. refl)

  first_behind : (front back : List BoxEntry) → NoCodestream front → first_codestream size (front ++ back) ≡ first_codestream size back
  unfolding NoCodestream
  first_behind [] back free = refl
  first_behind (e ∷ front) back free = first_past e (front ++ back) free.0 ∙ first_behind front back free.1

-- ---- the search, at a box that is listed

module _ {s : List ℕ} {depth at : ℕ} {e : BoxEntry} (r : Reads s depth at e) where
  search_stops : e.kind ≡ JP2C → found_from s at ≡ Ok (codestream e.content e.length)
  search_stops k =
      found_end s at _ (move_jp2c s at r.box r.read (rw r.is at k))
      ∙ content_part at r.box (length s) r.whole r.fits
      ∙ rw r.is (ap (λ (n : ℕ). Ok (codestream (record { 0 = at + r.box.header }) n)) (omega arith))

  search_passes : (e.kind ≡ JP2C → ⊥) → found_from s at ≡ found_from s (end_of e)
  search_passes other =
      let ends : end_of e ≡ at + r.box.length = rw r.is (omega arith) in
      rw ends (found_on s at _ (move_past s at r.box r.read (λ k. other (rw r.is k)) ∙ passed_on at r.box r.whole r.fits))

search_ends : (s : List ℕ) → found_from s (length s) ≡ Err (refusal reason.NoCodestreamBox (length s))
search_ends s = found_end s (length s) _ (move_end s (length s) (box_end s (length s) (omega arith)))

-- ---- the search, along the top list

-- what a superbox holds is not at the top
below_top : {s : List ℕ} {depth at : ℕ} {es : List BoxEntry} → Walk s depth at es → 1 < depth → NoCodestream es
unfolding NoCodestream
below_top (done h) d = tt
below_top (past h more) d = let p = plain_stands h in (λ t _. omega arith, below_top more d)
below_top (into {held = held} {rest = rest} h inner more) d =
    let p = (superbox_stands h).0 in
    (λ t _. omega arith, none_in_both held rest (below_top inner (omega arith)) (below_top more d))

no_codestream_opens : (kind : ℕ) → opens kind ≡ true → kind ≡ JP2C → ⊥
unfolding opens
no_codestream_opens kind o k = let shut : opens JP2C ≡ false = refl in let z : ◌≡◌ {A = ℕ} 0 1 = cc in omega arith

search : {s : List ℕ} {at : ℕ} {es : List BoxEntry} → Walk s 1 at es → at ≤ length s → found_from s at ≡ first_codestream (length s) es
unfolding first_codestream
search {s} {at} (done h) i = rw (end_reached s 1 at h i) (search_ends s)
search {s} (past {e = e} {rest = rest} h more) i =
    let p = plain_stands h in
    let r = plain_reads h in
    by_bool (eqb e.kind JP2C)
    (λ k. search_stops r (eqb-true _ _ k) ∙ sym (first_here (length s) e rest p.level (eqb-true _ _ k)))
    (λ k. search_passes r (eqb-false _ _ k) ∙ search more p.inside ∙ sym (first_past (length s) e rest (λ _. eqb-false _ _ k)))
search {s} (into {e = e} {held = held} {rest = rest} h inner more) i =
    let q = superbox_stands h in
    let p = q.0 in
    let other = no_codestream_opens e.kind q.2 in
    search_passes (superbox_reads h) other
    ∙ search more p.inside
    ∙ sym (first_behind (length s) held rest (below_top inner (omega arith)))
    ∙ sym (first_past (length s) e (held ++ rest) (λ _. other))

-- ---- the file

module _ (s : List ℕ) (es : List BoxEntry) (jp2 : is_jp2 s ≡ true) (is : boxes_of s ≡ boxes es) where
  two : 2 ≤ length s
  unfolding is_jp2
  two = let long = leb-true 12 (length s) ((and-eq-true_iff (leb 12 (length s)) (eqb (be 12 s 0) SIGNATURE)).0 jp2).0 in omega arith

  -- the search, which does not look into boxes or past the first jp2c, finds what the tree has first
  pub tree_search : found_in s ≡ first_codestream (length s) es
  tree_search = found_jp2 s two jp2 ∙ search (walk s 1 0 es is) (omega arith)

  -- the codestream that is found: the first jp2c at the top that is listed
  pub search_finds : (front : List BoxEntry) (e : BoxEntry) (rest : List BoxEntry) → es ≡ front ++ (e ∷ rest) → NoCodestream front → e.depth ≡ 1 → e.kind ≡ JP2C
      → found_in s ≡ Ok (codestream e.content e.length)
  search_finds front e rest split free d k =
      tree_search ∙ ap (first_codestream (length s)) split ∙ first_behind (length s) front (e ∷ rest) free ∙ first_here (length s) e rest d k

  -- where none is listed, none is found: the search gets to the end of the file
  pub search_none : NoCodestream es → found_in s ≡ Err (refusal reason.NoCodestreamBox (length s))
  unfolding first_codestream
  search_none free = tree_search ∙ ap (first_codestream (length s)) (sym (append-nil es)) ∙ first_behind (length s) es [] free
