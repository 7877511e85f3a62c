-- A scan that wrote rows while it judged: what it answers from where it stopped is the answer of the whole scan, and its table that scan's.
use Prim.Native.Nat.{ℕ, ◌+◌, ◌-◌, ◌*◌, ◌/◌, ◌≤◌, ◌<◌}
use native.Mathlib.Nat.{zero-add}
use native.Mathlib.Omega.{arith}
use mathlib.Core.Path.{◌≡◌, refl, sym, ap, ap₂, ◌∙◌}
use mathlib.Core.Logic.{◌⊎◌, inl, inr, ⊎_elim}
use mathlib.Core.List.{List, ◌++◌, append-nil}
use lib.ListN.{length, take, drop, replicate, length-map, length-drop, length-replicate, take-append-drop, drop_of_length-le}
use lib.Seq.{take_all, drop-drop, length-take-le}
use lib.Dec.{leb, eqb}
use borrow.Author.Tests.{leb-true, leb-false}
use borrow.Rule.Slice.PartMut.{mid_of, put_mid, put_same, mid_len}
use Rattle.std.specs.Prelude.{Option, Some, None, Result, Ok, Err}
use Rattle.numbers.specs.Bytes.{be, put}
use Rattle.numbers.proofs.BytesLaws.{put_start, drop_put, length_put}
use Rattle.numbers.proofs.Choice.{by_test}
use Rattle.types.specs.Refusals.{refusal, number_of}
use Rattle.types.specs.declared.Reason.{Reason}
use Rattle.types.specs.Markers.{SOT}
use Rattle.types.specs.Row.{row_bytes, rows_of}
use Rattle.types.proofs.RowLaws.{length_rows}
use Rattle.types.proofs.RowStanding.{rows}
use Rattle.types.specs.declared.Refusal.{Refusal}
use Rattle.types.specs.declared.TilePartEntry.{TilePartEntry}
use Rattle.chain.specs.Chain.{end}
use Rattle.chain.proofs.ChainLaws.{chain_stops, end_on}
use Rattle.parts.specs.Sot.{lsot, psot}
use Rattle.parts.specs.Scan.{eoc_at, sot_step_at, scan_step_at, ScanEnd, ended, refused, move_of, move_at, scan_from, recorded, entries_from, ended_as, judged, with_room, scanned, scanned_table}
use Rattle.parts.specs.Walk.{Reached}
use Rattle.parts.specs.Begin.{Begins, place_behind, refused_behind}
use Rattle.parts.specs.declared.walk.Passed.{Passed}
use Rattle.parts.proofs.ScanLaws.{rises}
use Rattle.parts.proofs.FillRuns.{completed}
use Rattle.parts.proofs.ScanAnswers.{answer_refused, answer_no_room, answer_table, answer_accepts, answer_counts, table_filled, table_kept, judged_table}
use Rattle.parts.proofs.WalkLaws.{entries_few, reached_few, reached_all, reached_ended, reached_refused}
use Rattle.types.specs.declared.Reason.TheVariants.{TableTooSmall}

-- ---- any other refusal's place is the same

pub place_same : (why : Reason) (count place : ℕ) → (why ≡ TableTooSmall → ⊥) → place_behind why count place ≡ place
place_same TableTooSmall count place n = absurd (n refl)
place_same other count place n = refl

-- ---- a scan is refused inside the codestream, and not for room

record Inner (s : List ℕ) (r : Refusal) : Type 0 where
  pub other : r.reason ≡ TableTooSmall → ⊥
  pub inside : r.place < length s

abbrev Says : List ℕ → Result (Option TilePartEntry) Refusal → Type 0
Says s (Ok (Some e)) = Unit {0}
Says s (Ok None) = Unit {0}
Says s (Err r) = Inner s r

sot_says : (s : List ℕ) (at : ℕ) → at + 12 ≤ length s → Says s (sot_step_at s at)
unfolding sot_step_at
sot_says s at h =
    by_test (Says s) (eqb (lsot s at) 10)
    (λ _. by_test (Says s) (eqb (psot s at) 0) (λ _. tt)
    (λ _. by_test (Says s) (leb (at + psot s at) (length s)) (λ _. tt) (λ _. record { other = λ e. let n = ap number_of e in omega arith; inside = omega arith })))
    (λ _. record { other = λ e. let n = ap number_of e in omega arith; inside = omega arith })

step_says : (s : List ℕ) (at : ℕ) → Says s (scan_step_at s at)
unfolding scan_step_at
step_says s at =
    by_test (Says s) (leb (length s) at) (λ _. tt)
    (λ n. by_test (Says s) (eoc_at s at) (λ _. tt)
    (λ _. by_test (Says s) (leb (at + 12) (length s))
    (λ h. by_test (Says s) (eqb (be 2 s at) SOT) (λ _. sot_says s at (leb-true _ _ h)) (λ _. tt))
    (λ _. record { other = λ e. let n = ap number_of e in omega arith; inside = omega (arith, leb-false (length s) at n) })))

end_inner : (s : List ℕ) (r : Refusal) (step : Result (Option TilePartEntry) Refusal) → Says s step → move_of step ≡ end (refused r) → Inner s r
unfolding move_of
end_inner s r (Ok (Some e)) says m = absurd (end_on (sym m))
end_inner s r (Ok None) says m = absurd (let z : ◌≡◌ {A = ℕ} 0 1 = cc in omega arith)
end_inner s r (Err q) says m = let same : q ≡ r = cc in rw same at says

scan_inner : (s : List ℕ) (at : ℕ) (r : Refusal) → (scan_from s at).ended ≡ refused r → Inner s r
unfolding scan_from move_at
scan_inner s at r e =
    let stops = chain_stops ended (move_at s) (length s) (rises s) at in
    end_inner s r (scan_step_at s (scan_from s at).stopped) (step_says s (scan_from s at).stopped) (stops ∙ ap (λ (a : ScanEnd). end a) e)

-- ---- the answer

refused_table : {n : ℕ} {r : Refusal} → ◌≡◌ {A = Result ℕ Refusal} (Ok n) (Err r) → ⊥
refused_table e = let z : ◌≡◌ {A = ℕ} 0 1 = cc in omega arith

ended_refused : (a : ScanEnd) (m : ℕ) (r : Refusal) → ended_as a m ≡ Err r → a ≡ refused r
unfolding ended_as
ended_refused ended m r e = absurd (refused_table e)
ended_refused (refused q) m r e = let same : q ≡ r = cc in ap refused same

judged_refused : (s : List ℕ) (at : ℕ) (r : Refusal) → judged (scan_from s at) ≡ Err r → (scan_from s at).ended ≡ refused r
unfolding judged
judged_refused s at r e = ended_refused (scan_from s at).ended (length (scan_from s at).visits) r e

judged_as_lem : (s : List ℕ) (at : ℕ) (a : ScanEnd) (n : ℕ) → (scan_from s at).ended ≡ a → length (entries_from s at) ≡ n → judged (scan_from s at) ≡ ended_as a n
unfolding judged entries_from
judged_as_lem s at a n e l = ap₂ ended_as e (sym (length-map (scan_from s at).visits (recorded s)) ∙ l)

judged_all : (s : List ℕ) (at n : ℕ) → (scan_from s at).ended ≡ ended → length (entries_from s at) ≡ n → judged (scan_from s at) ≡ Ok n
unfolding ended_as
judged_all s at n e l = judged_as_lem s at ended n e l

judged_none : (s : List ℕ) (at : ℕ) (r : Refusal) → (scan_from s at).ended ≡ refused r → judged (scan_from s at) ≡ Err r
unfolding ended_as
judged_none s at r e = judged_as_lem s at (refused r) (length (entries_from s at)) e refl

-- it was refused by the scan, or for room
abbrev ForRoom : List ℕ → ℕ → ℕ → Refusal → Type 0
ForRoom s at rows r = (judged (scan_from s at) ≡ Ok r.place) × ((rows < r.place) × (r ≡ refusal TableTooSmall r.place))

why_judged : (s : List ℕ) (at rows : ℕ) (r : Refusal) (a : Result ℕ Refusal) → judged (scan_from s at) ≡ a → with_room rows a ≡ Err r
    → (judged (scan_from s at) ≡ Err r) ⊎ ForRoom s at rows r
unfolding with_room
why_judged s at rows r (Ok m) e w =
    by_test (λ (a : Result ℕ Refusal). a ≡ Err r → (judged (scan_from s at) ≡ Err r) ⊎ ForRoom s at rows r) (leb m rows)
    (λ _ k. absurd (refused_table k))
    (λ h k.
    let same : refusal TableTooSmall m ≡ r = cc in
    let place : m ≡ r.place = ap (λ (q : Refusal). q.place) same in
    inr (e ∙ ap Ok place, (omega (arith, place, leb-false m rows h), sym same ∙ ap (refusal TableTooSmall) place))) w
why_judged s at rows r (Err q) e w = inl (e ∙ w)

why : (s : List ℕ) (at rows : ℕ) (r : Refusal) → scanned s at rows ≡ Err r → (judged (scan_from s at) ≡ Err r) ⊎ ForRoom s at rows r
unfolding scanned
why s at rows r e = why_judged s at rows r (judged (scan_from s at)) refl e

module _ {s : List ℕ} {start at count : ℕ} (i : Reached s start at count) where
  -- all were counted
  begun_table : (rows more : ℕ) → count ≤ rows → scanned s at (rows - count) ≡ Ok more
      → (scanned s start rows ≡ Ok (count + more)) × (length (entries_from s start) ≡ count + more)
  begun_table rows more room e =
      let a = answer_accepts s at (rows - count) more e in
      let all : length (entries_from s start) ≡ count + more = omega (arith, i.counted, a.1) in
      let few = answer_counts s at (rows - count) more e in
      (answer_table s start rows (count + more) (judged_all s start (count + more) (sym i.ends ∙ a.0) all) (omega (arith, few.1)), all)

  -- the refusal is the same but for 18, which counts those before too
  behind_same : (r : Refusal) → (r.reason ≡ TableTooSmall → ⊥) → refused_behind count r ≡ r
  unfolding refused_behind
  behind_same r n = ap (refusal r.reason) (place_same r.reason count r.place n)

  behind_room : (r : Refusal) → r ≡ refusal TableTooSmall r.place → refused_behind count r ≡ refusal TableTooSmall (count + r.place)
  unfolding refused_behind
  behind_room r e = ap (refused_behind count) e

  begun_refused : (rows : ℕ) (r : Refusal) → count ≤ rows → scanned s at (rows - count) ≡ Err r
      → scanned s start rows ≡ Err (refused_behind count r)
  begun_refused rows r room e =
      ⊎_elim
      (λ j. let stops = judged_refused s at r j in
      answer_refused s start rows r (judged_none s start r (sym i.ends ∙ stops)) ∙ ap Err (sym (behind_same r (scan_inner s at r stops).other)))
      (λ j. let a = judged_table s at r.place j.0 in
      answer_no_room s start rows (count + r.place)
      (judged_all s start (count + r.place) (sym i.ends ∙ a.0) (omega (arith, i.counted, a.1))) (omega (arith, j.1.0))
      ∙ ap Err (sym (behind_room r j.1.1)))
      (why s at (rows - count) r e)

  -- its place and the count together are no more than the codestream's bytes twice
  begun_place : (rows : ℕ) (r : Refusal) → scanned s at rows ≡ Err r → count + r.place ≤ length s + length s
  begun_place rows r e =
      ⊎_elim
      (λ j. omega (arith, reached_few i, (scan_inner s at r (judged_refused s at r j)).inside))
      (λ j. omega (arith, i.counted, entries_few s start, (judged_table s at r.place j.0).1))
      (why s at rows r e)

-- ---- the table

-- rows over zeros, and zeros over them
cleared : (t xs : List ℕ) (n : ℕ) → length xs ≡ n → take n t ≡ replicate n 0 → put (put t 0 xs) 0 (replicate n 0) ≡ t
cleared t xs n l blank =
    let zs : List ℕ = replicate n 0 in
    let behind : drop n (put t 0 xs) ≡ drop n t = rw (zero-add n) at (drop_put t 0 xs n l (omega arith)) in
    put_start (put t 0 xs) zs
    ∙ ap (λ (k : ℕ). zs ++ drop k (put t 0 xs)) (length-replicate n 0)
    ∙ ap₂ (λ (a b : List ℕ). a ++ b) (sym blank) behind
    ∙ take-append-drop n t

-- what is put at the start of the part behind is put there
put_part : (u : List ℕ) (a : ℕ) (bs : List ℕ) → put_mid a (length u - a) u (put (mid_of a (length u - a) u) 0 bs) ≡ put u a bs
unfolding put
put_part u a bs =
    let rest : length (drop a u) ≤ length u - a = omega (arith, length-drop a u) in
    rw (take_all (length u - a) (drop a u) rest, drop_of_length-le (drop a u) rest, zero-add (length bs), drop-drop (length bs) a u, append-nil)

module _ {s : List ℕ} {start : ℕ} {t : List ℕ} {p : Passed} (b : Begins s start t p) {u : List ℕ} (begun : u ≡ put t 0 (rows_of (take p.count (entries_from s start)))) where
  wide : length (rows_of (take p.count (entries_from s start))) ≡ row_bytes * p.count
  wide =
      length_rows (take p.count (entries_from s start))
      ∙ ap (λ (n : ℕ). row_bytes * n) (length-take-le p.count (entries_from s start) (omega (arith, b.reached.counted)))

  begun_length : length u ≡ length t
  begun_length = ap length begun ∙ length_put t 0 (rows_of (take p.count (entries_from s start))) (omega (arith, wide, b.room))

  begun_cleared : put u 0 (replicate (p.count * 21) 0) ≡ t
  begun_cleared =
      let by : p.count * 21 ≡ row_bytes * p.count = omega arith in
      ap₂ (λ (l : List ℕ) (n : ℕ). put l 0 (replicate n 0)) begun by ∙ cleared t (rows_of (take p.count (entries_from s start))) (row_bytes * p.count) wide b.blank

  -- the scan ended while rows were written
  pub ended_answers : scan_step_at s p.at ≡ Ok None → (Ok p.count ≡ scanned s start (length t / row_bytes)) × (u ≡ scanned_table s start t)
  ended_answers e =
      let all : p.count ≡ length (entries_from s start) = reached_all e b.reached in
      let a = answer_table s start (length t / row_bytes) p.count (sym (reached_ended e b.reached)) (omega (arith, b.room)) in
      let whole : take p.count (entries_from s start) ≡ entries_from s start = take_all p.count (entries_from s start) (omega (arith, all)) in
      (sym a, begun ∙ ap (λ (es : List TilePartEntry). put t 0 (rows_of es)) whole ∙ sym (table_filled s start t p.count a (sym all)))

  -- or was refused
  pub refused_answers : (r : Refusal) → scan_step_at s p.at ≡ Err r
      → (Err r ≡ scanned s start (length t / row_bytes)) × (put u 0 (replicate (p.count * 21) 0) ≡ scanned_table s start t)
  refused_answers r e =
      let a = answer_refused s start (length t / row_bytes) r (sym (reached_refused e b.reached)) in
      (sym a, begun_cleared ∙ sym (table_kept s start t r a))

  -- or went on in the rows behind
  module _ {to : ℕ} (there : to ≡ p.at) {a : ℕ} (done : a ≡ p.count * 21) where
    rows_behind : length (mid_of a (length u - a) u) / row_bytes ≡ length t / row_bytes - p.count
    rows_behind =
        let long : length (mid_of a (length u - a) u) ≡ length t - row_bytes * p.count = mid_len a (length u) u (omega arith) ∙ omega (arith, begun_length, done) in
        ap (λ (n : ℕ). n / row_bytes) long ∙ omega (arith, b.room)

    few : p.count ≤ length t / row_bytes
    few = omega (arith, b.room)

    scanned_behind : scanned s to (length (mid_of a (length u - a) u) / row_bytes) ≡ scanned s p.at (length t / row_bytes - p.count)
    scanned_behind = ap₂ (scanned s) there rows_behind

    pub rest_fits : (more : ℕ) → Ok more ≡ scanned s to (length (mid_of a (length u - a) u) / row_bytes) → p.count + more ≤ length s
    rest_fits more e = omega (arith, entries_few s start, (begun_table b.reached (length t / row_bytes) more few (sym scanned_behind ∙ sym e)).1)

    pub rest_place : (r : Refusal) → Err r ≡ scanned s to (length (mid_of a (length u - a) u) / row_bytes) → p.count + r.place ≤ length s + length s
    rest_place r e = begun_place b.reached (length t / row_bytes - p.count) r (sym scanned_behind ∙ sym e)

    pub rest_table : (more : ℕ) {ys : List ℕ} → Ok more ≡ scanned s to (length (mid_of a (length u - a) u) / row_bytes)
        → ys ≡ scanned_table s to (mid_of a (length u - a) u)
        → (Ok (p.count + more) ≡ scanned s start (length t / row_bytes)) × (put_mid a (length u - a) u ys ≡ scanned_table s start t)
    rest_table more {ys} e filled =
        let n : ℕ = p.count in
        let es : List TilePartEntry = entries_from s start in
        let whole = begun_table b.reached (length t / row_bytes) more few (sym scanned_behind ∙ sym e) in
        let within = answer_counts s to (length (mid_of a (length u - a) u) / row_bytes) more (sym e) in
        let records : entries_from s to ≡ drop n es = ap (entries_from s) there ∙ b.reached.rest in
        let part : ys ≡ put (mid_of a (length u - a) u) 0 (rows_of (drop n es)) =
        filled ∙ table_filled s to (mid_of a (length u - a) u) more (sym e) (sym within.0)
        ∙ ap (λ (l : List TilePartEntry). put (mid_of a (length u - a) u) 0 (rows_of l)) records in
        let room : row_bytes * length es ≤ length t = omega (arith, whole.1, within.1, rows_behind, few) in (
          sym whole.0,
          ap (put_mid a (length u - a) u) part
              ∙ put_part u a (rows_of (drop n es))
              ∙ ap (λ (l : List ℕ). put l a (rows_of (drop n es))) begun
              ∙ completed rows t a es n (omega (arith, done)) (omega (arith, b.reached.counted)) room
              ∙ sym (table_filled s start t (n + more) whole.0 whole.1),
        )

    pub rest_refused : (r : Refusal) {ys : List ℕ} → Err r ≡ scanned s to (length (mid_of a (length u - a) u) / row_bytes)
        → ys ≡ scanned_table s to (mid_of a (length u - a) u)
        → (Err (refused_behind p.count r) ≡ scanned s start (length t / row_bytes)) × (put (put_mid a (length u - a) u ys) 0 (replicate a 0) ≡ scanned_table s start t)
    rest_refused r {ys} e kept =
        let whole = begun_refused b.reached (length t / row_bytes) r few (sym scanned_behind ∙ sym e) in
        let same : put_mid a (length u - a) u ys ≡ u =
        ap (put_mid a (length u - a) u) (kept ∙ table_kept s to (mid_of a (length u - a) u) r (sym e)) ∙ put_same a (length u - a) u in (
          sym whole,
          ap₂ (λ (l : List ℕ) (n : ℕ). put l 0 (replicate n 0)) same done ∙ begun_cleared ∙ sym (table_kept s start t (refused_behind p.count r) whole),
        )
