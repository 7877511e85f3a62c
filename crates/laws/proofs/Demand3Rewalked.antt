-- The walk over a decode header with an SOT after it: the delimiters and segments that are kept are read the same at their new places, so the walk
-- passes them one by one and stops at the SOT. The rewrite changes bytes inside the SIZ segment only, behind its marker and its length.
use Prim.Native.Nat.{ℕ, ◌+◌, ◌-◌, ◌≤◌}
use native.Mathlib.Nat.{zero-add, add-zero}
use native.Mathlib.Omega.{arith}
use mathlib.Core.Path.{◌≡◌, refl, sym, ap, ◌∙◌}
use mathlib.Core.Bool.{false}
use mathlib.Core.List.{List, [], ◌∷◌, ◌++◌, append_assoc}
use lib.ListN.{length, take, length-append}
use lib.Seq.{get_or-take, take-append-le, drop-append-le, length-take-le, take-add}
use borrow.Author.Tests.{ne_eqb}
use Rattle.std.specs.Prelude.{Option, Some, None, Result, Ok, Err}
use Rattle.numbers.specs.Bytes.{be, put}
use Rattle.numbers.proofs.BytesLaws.{be_cong, be_rest, be_front, be_put_before, length_put}
use Rattle.types.specs.Markers.{SIZ, TLM, CAP, SOT}
use Rattle.chain.specs.Chain.{Chain, end, on, Visit, Run, stay, step, also}
use Rattle.header.specs.Step.{delimits, segment_end}
use Rattle.header.specs.Walk.{WalkEnd, at_first_sot, walk_at, walk_from}
use Rattle.header.specs.Strip.{kept, decode_header}
use Rattle.header.specs.Numbering.{unindexed_in}
use Rattle.header.specs.Edition.{caps_in, cap_fits}
use Rattle.header.proofs.EditionLaws.{caps_from}
use Rattle.header.proofs.StepLaws.{step_sot}
use Rattle.header.proofs.WalkLaws.{not_true_false, walk_sot, walk_found, walk_moves, walk_run, walk_stops}
use Rattle.header.proofs.WalkVisited.{length_visited}
use Rattle.header.proofs.WalkItems.{Item, delimiter, segment, item, item_long, ends_sot, passes_again}
use Rattle.tile.specs.Siz.{one_tile}
use Rattle.tile.specs.Rewrite.{cut_to}
use Rattle.tile.proofs.RewriteHeader.{length_one}
use Rattle.laws.specs.Demand3.{AllBytes}
use Rattle.laws.proofs.Demand3Edition.{SameCaps, none, cap_later, caps_on, fits_again}
use Rattle.laws.proofs.Demand3Items.{kept_tlm, kept_other, by_marker, piece, Field, field, marker_again, pass_again}
use Rattle.types.specs.declared.Area.{Area}
use Rattle.types.specs.declared.Refusal.{Refusal}

-- ---- the walk over what is kept

-- the walk from a position on stops at another, at an SOT; it meets no TLM entry that has to be numbered, and the CAP segments that s has at some positions
pub record Stops (s caps a : List ℕ) (from to : ℕ) : Type 0 where
  pub stopped : (walk_from a from).stopped ≡ to
  pub ended : (walk_from a from).ended ≡ at_first_sot
  pub none : unindexed_in a (walk_from a from).visits ≡ 0
  pub same : SameCaps s a caps (caps_from a from)

stops_on : (s : List ℕ) (v : Visit) (visits : List Visit) (a : List ℕ) (from next to : ℕ) → walk_at a from ≡ on next → (be 2 s v.at ≡ TLM → ⊥)
    → be 2 a from ≡ be 2 s v.at → (be 2 s v.at ≡ CAP → cap_fits a from ≡ cap_fits s v.at) → Stops s (caps_in s visits) a next to
    → Stops s (caps_in s (v ∷ visits)) a from to
unfolding also unindexed_in
stops_on s v visits a from next to found other marker fits more =
    let e = walk_moves a from next found in
    record {
      stopped = ap (λ (c : Chain WalkEnd). c.stopped) e ∙ more.stopped;
      ended = ap (λ (c : Chain WalkEnd). c.ended) e ∙ more.ended;
      none = ap (λ (c : Chain WalkEnd). unindexed_in a c.visits) e ∙ rw (ne_eqb _ _ (λ is. other (sym marker ∙ is))) (zero-add _ ∙ more.none);
      same = rw e (caps_on s a v (record { at = from; next = next }) visits (walk_from a next).visits marker fits more.same);
    }

stops_here : (s a : List ℕ) (at : ℕ) → at + 2 ≤ length a → be 2 a at ≡ SOT → Stops s [] a at at
unfolding unindexed_in caps_in
stops_here s a at room m =
    let e = walk_found a at (walk_sot a at (step_sot a at room m)) in
    record {
      stopped = ap (λ (c : Chain WalkEnd). c.stopped) e;
      ended = ap (λ (c : Chain WalkEnd). c.ended) e;
      none = ap (λ (c : Chain WalkEnd). unindexed_in a c.visits) e;
      same = rw e none;
    }

stops_as : {s caps a b : List ℕ} {from there to stop : ℕ} → a ≡ b → from ≡ there → to ≡ stop → Stops s caps a from to → Stops s caps b there stop
stops_as e f g h = rw (← e, ← f, ← g) h

module _ (s : List ℕ) (bytes : AllBytes s) (rest : List ℕ) where
  -- an item is passed, and then what is kept after it
  pass_on : (at next : ℕ) {stop : ℕ} {visits : List Visit} → walk_at s at ≡ on next → Run (walk_at s) next visits stop → be 2 s stop ≡ SOT
      → (be 2 s at ≡ TLM → ⊥) → (front : List ℕ)
      → Stops s (caps_in s visits) ((front ++ piece s at next) ++ (kept s visits ++ rest)) (length (front ++ piece s at next))
      (length (front ++ piece s at next) + length (kept s visits))
      → Stops s (caps_in s (record { at = at; next = next } ∷ visits)) (front ++ ((piece s at next ++ kept s visits) ++ rest)) (length front)
      (length front + length (piece s at next ++ kept s visits))
  pass_on at next {visits = visits} found run ends other front more =
      let i = item s at next found in
      let here : List ℕ = piece s at next in
      let k : List ℕ = kept s visits in
      let past : length (front ++ here) ≡ length front + (next - at) = simp length-append (omega (arith, length_visited s at next i.1)) in
      let total : length (front ++ here) + length k ≡ length front + length (here ++ k) = simp length-append (omega arith) in
      let v : Visit = record { at = at; next = next } in
      let read : next ≡ segment_end s at → Field s at (here ++ (k ++ rest)) = λ n. field s bytes at next run ends i.1 n rest in
      rw (append_assoc here k rest)
      (stops_on s v visits (front ++ (here ++ (k ++ rest))) (length front) (length front + (next - at)) (length front + length (here ++ k))
      (pass_again s at next i.0 i.1 other front (k ++ rest) read)
      other
      (marker_again s at next i.0 i.1 front (k ++ rest))
      (λ is. fits_again s at next is i.0 i.1 front (k ++ rest) read)
      (stops_as (append_assoc front here (k ++ rest)) past total more))

  module _ (two : 2 ≤ length rest) (begins : be 2 rest 0 ≡ SOT) where
    rewalk : {at stop : ℕ} {visits : List Visit} → Run (walk_at s) at visits stop → be 2 s stop ≡ SOT → (front : List ℕ)
        → Stops s (caps_in s visits) (front ++ (kept s visits ++ rest)) (length front) (length front + length (kept s visits))
    unfolding kept caps_in
    rewalk stay ends front =
        rw add-zero
        (stops_here s (front ++ rest) (length front) (simp length-append (omega arith))
        (ap (be 2 (front ++ rest)) (sym (add-zero (length front))) ∙ be_rest 2 front rest 0 ∙ begins))
    rewalk (step {at = at} {next = next} {rest = visits} found past run) ends front =
        by_marker s at TLM
        (λ is. rw (kept_tlm s at next visits is, cap_later s (record { at = at; next = next }) visits (λ e. omega arith)) (rewalk run ends front))
        (λ other. rw (kept_other s at next visits other) (pass_on at next found run ends other front (rewalk run ends (front ++ piece s at next))))

-- ---- the rewritten SIZ segment

put_front : (f k : List ℕ) (at : ℕ) (bs : List ℕ) → at + length bs ≤ length f → put (f ++ k) at bs ≡ put f at bs ++ k
unfolding put
put_front f k at bs h =
    let before : at ≤ length f = omega arith in
    rw (take-append-le at f k, drop-append-le (at + length bs) f k) (simp append_assoc)

module _ (f : List ℕ) (long : 40 ≤ length f) where
  -- only the front of a header is cut
  cut_front : (z : Result (Option Area) Refusal) (k : List ℕ) → cut_to z (f ++ k) ≡ cut_to z f ++ k
  unfolding cut_to
  cut_front (Ok None) k = refl
  cut_front (Ok (Some a)) k = put_front f k 8 (one_tile a) (omega (arith, length_one a))
  cut_front (Err r) k = refl

  cut_length : (z : Result (Option Area) Refusal) → length (cut_to z f) ≡ length f
  unfolding cut_to
  cut_length (Ok None) = refl
  cut_length (Ok (Some a)) = length_put f 8 (one_tile a) (omega (arith, length_one a))
  cut_length (Err r) = refl

  -- SOC, the SIZ marker and Lsiz stay
  cut_keeps : (z : Result (Option Area) Refusal) (i : ℕ) → i ≤ 6 → be 2 (cut_to z f) i ≡ be 2 f i
  unfolding cut_to
  cut_keeps (Ok None) i h = refl
  cut_keeps (Ok (Some a)) i h = be_put_before 2 f 8 (one_tile a) i (omega arith) (omega arith)
  cut_keeps (Err r) i h = refl

siz_no_delimiter : delimits SIZ ≡ false
unfolding delimits
siz_no_delimiter = refl

-- the SIZ segment ends where Lsiz says
siz_ends : (s : List ℕ) (next : ℕ) → be 2 s 2 ≡ SIZ → Item s 2 next → next ≡ 4 + be 2 s 4
unfolding segment_end
siz_ends s next m (delimiter d n) = absurd (not_true_false (sym d ∙ ap delimits m ∙ siz_no_delimiter))
siz_ends s next m (segment sot d room n) = omega arith

front_is : (s : List ℕ) (next : ℕ) → 2 ≤ next → take 2 s ++ piece s 2 next ≡ take next s
front_is s next h =
    let back : 2 + (next - 2) ≡ next = omega arith in
    sym (take-add 2 (next - 2) s) ∙ ap (λ (n : ℕ). take n s) back

-- the SIZ segment from SOC on, cut, with anything after it
module _ (s : List ℕ) (marker : be 2 s 2 ≡ SIZ) (lsiz : 36 ≤ be 2 s 4) (next : ℕ) (siz : Item s 2 next) (inside : next ≤ length s) (z : Result (Option Area) Refusal) where
  abbrev cut : List ℕ
  cut = cut_to z (take 2 s ++ piece s 2 next)

  front_long : length (take 2 s ++ piece s 2 next) ≡ next
  front_long = let two = item_long siz in ap length (front_is s next (omega arith)) ∙ length-take-le next s inside

  enough : 40 ≤ length (take 2 s ++ piece s 2 next)
  enough = omega (arith, front_long, siz_ends s next marker siz)

  cut_long : length cut ≡ next
  cut_long = cut_length (take 2 s ++ piece s 2 next) enough z ∙ front_long

  read_again : (y : List ℕ) (i : ℕ) → i ≤ 6 → be 2 (cut ++ y) i ≡ be 2 s i
  read_again y i h =
      let ends = siz_ends s next marker siz in
      be_front 2 cut y i (omega (arith, cut_long))
      ∙ cut_keeps (take 2 s ++ piece s 2 next) enough z i h
      ∙ ap (λ (l : List ℕ). be 2 l i) (front_is s next (omega arith))
      ∙ be_cong 2 _ _ _ _ (λ n m. get_or-take next s (i + n) 0 (omega arith))

  pass_siz : (y : List ℕ) → walk_at (cut ++ y) 2 ≡ on next
  pass_siz y =
      let ends = siz_ends s next marker siz in
      let there : 2 + (next - 2) ≡ next = omega arith in
      let size : length (cut ++ y) ≡ next + length y = simp length-append (omega (arith, cut_long)) in
      passes_again s 2 next (cut ++ y) 2 siz (λ e. omega arith) (read_again y 2 (omega arith)) (λ _. (read_again y 4 (omega arith), omega arith)) (omega arith)
      ∙ ap (λ (n : ℕ). on n) there

-- ---- the whole header

-- a codestream that begins as another does, and whose walk stops at an SOT and meets the other's CAP segments
pub record Rewalked (s caps a : List ℕ) (to : ℕ) : Type 0 where
  pub long : 4 ≤ length a
  pub soc : be 2 a 0 ≡ be 2 s 0
  pub siz : be 2 a 2 ≡ be 2 s 2
  pub rsiz : be 2 a 6 ≡ be 2 s 6
  pub stops : Stops s caps a 2 to

rewalked_as : {s caps a b : List ℕ} {to stop : ℕ} → a ≡ b → to ≡ stop → Rewalked s caps a to → Rewalked s caps b stop
rewalked_as e f r = rw (← e, ← f) r

module _ (s : List ℕ) (bytes : AllBytes s) (rest : List ℕ) (two : 2 ≤ length rest) (begins : be 2 rest 0 ≡ SOT) (marker : be 2 s 2 ≡ SIZ) (lsiz : 36 ≤ be 2 s 4) (z : Result (Option Area) Refusal) where
  rewalked_run : {stop : ℕ} {visits : List Visit} → Run (walk_at s) 2 visits stop → be 2 s stop ≡ SOT
      → Rewalked s (caps_in s visits) (cut_to z (decode_header s visits) ++ rest) (length (decode_header s visits))
  unfolding decode_header
  rewalked_run stay ends = absurd (omega arith)
  rewalked_run (step {next = next} {rest = visits} found past run) ends =
      let i = item s 2 next found in
      let k : List ℕ = kept s visits in
      let head : List ℕ = cut s marker lsiz next i.0 i.1 z in
      let head-long : length head ≡ next = cut_long s marker lsiz next i.0 i.1 z in
      let kept-is : take 2 s ++ kept s (record { at = 2; next = next } ∷ visits) ≡ (take 2 s ++ piece s 2 next) ++ k =
      ap (λ (l : List ℕ). take 2 s ++ l) (kept_other s 2 next visits (λ e. omega arith)) ∙ sym (append_assoc (take 2 s) (piece s 2 next) k) in
      let whole : cut_to z (take 2 s ++ kept s (record { at = 2; next = next } ∷ visits)) ++ rest ≡ head ++ (k ++ rest) =
      rw (kept-is, cut_front (take 2 s ++ piece s 2 next) (enough s marker lsiz next i.0 i.1 z) z k, append_assoc) in
      let size : length head + length k ≡ length (take 2 s ++ kept s (record { at = 2; next = next } ∷ visits)) =
      rw (kept-is, length-append) (omega (arith, front_long s marker lsiz next i.0 i.1 z)) in
      rewalked_as (sym whole) size
      (record {
        long = simp length-append (omega (arith, siz_ends s next marker i.0));
        soc = read_again s marker lsiz next i.0 i.1 z (k ++ rest) 0 (omega arith);
        siz = read_again s marker lsiz next i.0 i.1 z (k ++ rest) 2 (omega arith);
        rsiz = read_again s marker lsiz next i.0 i.1 z (k ++ rest) 6 (omega arith);
        stops = stops_on s (record { at = 2; next = next }) visits (head ++ (k ++ rest)) 2 next (length head + length k)
            (pass_siz s marker lsiz next i.0 i.1 z (k ++ rest))
            (λ is. omega arith)
            (read_again s marker lsiz next i.0 i.1 z (k ++ rest) 2 (omega arith))
            (λ is. absurd (omega arith))
            (stops_as refl head-long refl (rewalk s bytes rest two begins run ends head));
      })

  pub rewalked : (walk_from s 2).ended ≡ at_first_sot
      → Rewalked s (caps_from s 2) (cut_to z (decode_header s (walk_from s 2).visits) ++ rest) (length (decode_header s (walk_from s 2).visits))
  rewalked ended =
      rewalked_run (walk_run s 2)
      (ends_sot s (walk_from s 2).stopped (walk_stops s 2 ∙ ap end ended))
