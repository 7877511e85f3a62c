-- The reading of a prefix that holds the first SOT: what is read of each visit lies inside the prefix, so a main header is judged as in the whole, by every
-- numbering and in every edition, and what is left in the table and in the output is the same.
use Prim.Native.Nat.{ℕ, zero, suc, ◌+◌, ◌-◌, ◌*◌, ◌≤◌, ◌<◌}
use native.Mathlib.Omega.{arith}
use mathlib.Core.Path.{◌≡◌, refl, sym, ap, ap₂, ◌∙◌}
use mathlib.Core.Bool.{Bool, true, false, cond}
use mathlib.Core.List.{List, [], ◌∷◌, ◌++◌}
use lib.ListN.{length, take, drop, length-drop}
use lib.Seq.{take-append-le, drop-append-le}
use lib.Dec.{leb, eqb}
use borrow.Author.Tests.{le-leb, leb-true, leb-false, eqb-true}
use Rattle.std.specs.Prelude.{Result, Ok, Err, ⊤}
use Rattle.numbers.specs.Bits.{bit}
use Rattle.numbers.specs.Bytes.{be}
use Rattle.numbers.proofs.BytesLaws.{be_front}
use Rattle.numbers.proofs.Choice.{by_test, by_bool}
use Rattle.types.specs.Markers.{SOC, SIZ, TLM, CAP}
use Rattle.types.specs.Row.{row_bytes, rows_of}
use Rattle.types.specs.declared.TilePartEntry.{TilePartEntry}
use Rattle.chain.specs.Chain.{on, Visit, Chain, visited, Run, stay, step}
use Rattle.header.specs.Step.{delimits, is_filler, segment_end}
use Rattle.header.specs.Tlm.{stlm, index_size, length_size, entry_place, entry_count, unindexed, Accepted, Within, entry_in, entry_on, entries_on, placed}
use Rattle.header.specs.Walk.{WalkEnd, at_first_sot, refused, walk_at, walk_from}
use Rattle.header.specs.Strip.{is_tlm, fillers, kept, decode_header, tlm_entries}
use Rattle.header.specs.Numbering.{next_number, entries_by, ended_by}
use Rattle.header.specs.Edition.{announced, caps_in, lcap, cap_fits, capped, in_edition}
use Rattle.header.specs.Parse.{read_as, front_of, judged, behind_front_by, judged_by, judged_as, with_room, parsed, table_by, table_after, out_after}
use Rattle.header.specs.Find.{first_of, find_in, finding}
use Rattle.header.specs.declared.numbering.Numbering.{Numbering}
use Rattle.header.specs.declared.numbering.Numbering.TheVariants.{CarriedOn, Restarting}
use Rattle.header.specs.declared.edition.Edition.{Edition}
use Rattle.header.specs.declared.edition.Edition.TheVariants.{Older, Newer}
use Rattle.header.specs.declared.reading.Reading.{Reading}
use Rattle.header.specs.declared.parse.MainHeaderInfo.{MainHeaderInfo}
use Rattle.header.proofs.TlmFill.{entry_inside}
use Rattle.header.proofs.WalkLaws.{not_true_false, passed_is, on_passed, walk_run, by_count}
use Rattle.header.proofs.WalkItems.{Item, delimiter, segment, item, item_long}
use Rattle.header.proofs.NumberingLaws.{entries_restart, judged_restart}
use Rattle.header.proofs.EditionLaws.{fits_short, cap_no_delimiter}
use Rattle.header.proofs.ParseLaws.{stands_front}
use Rattle.header.proofs.ExtentPrefix.{Reached, reached_four, longer}
use Rattle.header.proofs.WalkPrefix.{stlm_more, count_more, walk_prefix}
use Rattle.types.specs.declared.Refusal.{Refusal}

module _ (q t : List ℕ) where
  -- ---- the entries of a TLM segment

  module _ (at : ℕ) (a : Accepted q at) where
    within : Within q at
    unfolding segment_end
    within = record { marked = omega (arith, a.long, a.ends); ends = a.ends }

    stlm_same : stlm (q ++ t) at ≡ stlm q at
    stlm_same = stlm_more q t at within a.long

    pub count_same : entry_count (q ++ t) at ≡ entry_count q at
    count_same = count_more q t at within a.long

    unindexed_same : unindexed (q ++ t) at ≡ unindexed q at
    unfolding unindexed
    unindexed_same = rw (stlm_same, count_same)

    entry_same : (k i : ℕ) → i < entry_count q at → entry_on (q ++ t) at k i ≡ entry_on q at k i
    unfolding entry_on entry_in
    entry_same k i h =
        let inside = entry_inside q at i a h in
        rw (stlm_same, be_front (index_size (stlm q at)) q t (entry_place q at i) (omega arith), be_front (length_size (stlm q at)) q t (entry_place q at i + index_size (stlm q at)) (omega arith))

    pub entries_same : (k i n : ℕ) → i + n ≤ entry_count q at → entries_on (q ++ t) at k i n ≡ entries_on q at k i n
    unfolding entries_on
    entries_same k i zero h = refl
    entries_same k i (suc n) h = ap₂ ◌∷◌ (entry_same k i (omega arith)) (entries_same k (i + 1) n (omega arith))

    pub next_same : (n : Numbering) (k : ℕ) → next_number n (q ++ t) at k ≡ next_number n q at k
    unfolding next_number
    next_same CarriedOn k = ap (λ (m : ℕ). k + m) unindexed_same
    next_same Restarting k = refl

  -- ---- a visit

  module _ (at next : ℕ) (found : walk_at q at ≡ on next) where
    read : Item q at next × (next ≤ length q)
    read = item q at next found

    pub marker_same : be 2 (q ++ t) at ≡ be 2 q at
    marker_same = be_front 2 q t at (omega (arith, item_long read.0, read.1))

    bytes_same : visited (q ++ t) (record { at = at; next = next }) ≡ visited q (record { at = at; next = next })
    bytes_same =
        let long = item_long read.0 in
        ap (take (next - at)) (drop-append-le at q t (omega (arith, long, read.1)))
        ∙ take-append-le (next - at) (drop at q) t (omega (arith, length-drop at q, read.1))

    pub tlm_accepted : be 2 q at ≡ TLM → Accepted q at
    tlm_accepted is =
        let p = on_passed q at next found in
        let told = passed_is q at p.0 p.1 in
        by_count p.0.tlm (λ n e. (told.tlm n e).accepted) (λ e. absurd (told.plain e is))

    fits_same : be 2 q at ≡ CAP → cap_fits (q ++ t) at ≡ cap_fits q at
    unfolding segment_end cap_fits
    fits_same is = by read.0
      where
        by : Item q at next → cap_fits (q ++ t) at ≡ cap_fits q at
        by (delimiter d n) = absurd (not_true_false (sym d ∙ ap delimits is ∙ cap_no_delimiter))
        by (segment sot d room n) =
            let long : lcap (q ++ t) at ≡ lcap q at = be_front 2 q t (at + 2) (omega arith) in
            by_bool (leb 6 (lcap q at))
            (λ e. rw (long, be_front 4 q t (at + 4) (omega (arith, n, read.1, leb-true 6 (lcap q at) e))))
            (λ e. let few = leb-false 6 (lcap q at) e in fits_short (q ++ t) at (omega (arith, long)) ∙ sym (fits_short q at few))

  -- ---- all visits

  -- the first CAP, if there is one, fits its bits in both or in neither
  abbrev Fits : List ℕ → Type 0
  Fits [] = Unit {0}
  Fits (at ∷ more) = cap_fits (q ++ t) at ≡ cap_fits q at

  capped_fits : (wanted : Bool) (caps : List ℕ) → Fits caps → (h : MainHeaderInfo) → capped wanted (q ++ t) caps h ≡ capped wanted q caps h
  unfolding capped
  capped_fits true [] f h = refl
  capped_fits true (at ∷ []) f h = rw f
  capped_fits true (at ∷ again ∷ more) f h = cc
  capped_fits false [] f h = refl
  capped_fits false (at ∷ more) f h = refl

  record Same (visits : List Visit) : Type 0 where
    filled : fillers (q ++ t) visits ≡ fillers q visits
    strips : kept (q ++ t) visits ≡ kept q visits
    entries : (n : Numbering) (k : ℕ) → entries_by n (q ++ t) k visits ≡ entries_by n q k visits
    ends : (n : Numbering) (k : ℕ) (ended : WalkEnd) → ended_by n (q ++ t) k visits ended ≡ ended_by n q k visits ended
    finds : (marker : ℕ) → first_of (q ++ t) marker visits ≡ first_of q marker visits
    caps : caps_in (q ++ t) visits ≡ caps_in q visits
    fits : Fits (caps_in q visits)

  same : {at stop : ℕ} {visits : List Visit} → Run (walk_at q) at visits stop → Same visits
  unfolding fillers kept entries_by ended_by first_of caps_in
  same stay = record { filled = refl; strips = refl; entries = λ n k. refl; ends = λ n k ended. refl; finds = λ marker. refl; caps = refl; fits = tt }
  same (step {at = at} {next = next} {rest = rest} found past more) =
      let s = same more in
      let v : Visit = record { at = at; next = next } in
      let marker = marker_same at next found in
      record {
        filled = ap₂ (λ (m n : ℕ). cond (is_filler m) 1 0 + n) marker s.filled;
        strips = rw (marker, bytes_same at next found, s.strips);
        entries =
            λ n k. by_bool (is_tlm q v)
            (λ is. let a = tlm_accepted at next found (eqb-true (be 2 q at) TLM is) in
            rw (marker, is, count_same at a, next_same at a n k)
            (ap₂ ◌++◌ (entries_same at a k 0 (entry_count q at) (omega arith)) (s.entries n (next_number n q at k))))
            (λ is. rw (marker, is) (s.entries n k));
        ends =
            λ n k ended. by_bool (is_tlm q v)
            (λ is. let a = tlm_accepted at next found (eqb-true (be 2 q at) TLM is) in
            rw (marker, is, next_same at a n k, s.ends n (next_number n q at k) ended))
            (λ is. rw (marker, is) (s.ends n k ended));
        finds = λ code. rw (marker, s.finds code);
        caps = rw (marker, s.caps);
        fits = by_test Fits (eqb (be 2 q at) CAP) (λ is. fits_same at next found (eqb-true (be 2 q at) CAP is)) (λ _. s.fits);
      }

  -- ---- the answers

  module _ {first : ℕ} (r : Reached q first) where
    along : Same (walk_from q 2).visits
    along = same (walk_run q 2)

    decode_same : decode_header (q ++ t) (walk_from q 2).visits ≡ decode_header q (walk_from q 2).visits
    unfolding decode_header
    decode_same = ap₂ ◌++◌ (take-append-le 2 q t (omega (arith, reached_four r))) along.strips

    tlm_same : tlm_entries (q ++ t) (walk_from q 2).visits ≡ tlm_entries q (walk_from q 2).visits
    tlm_same = sym (entries_restart (q ++ t) (walk_from q 2).visits) ∙ along.entries Restarting 0 ∙ entries_restart q (walk_from q 2).visits

    header_same : decode_header (q ++ t) (walk_from (q ++ t) 2).visits ≡ decode_header q (walk_from q 2).visits
    header_same = ap (λ (c : Chain WalkEnd). decode_header (q ++ t) c.visits) (walk_prefix q t r) ∙ decode_same

    read_same : (ended : WalkEnd) → read_as (q ++ t) (walk_from q 2) ended ≡ read_as q (walk_from q 2) ended
    unfolding read_as
    read_same at_first_sot = rw (decode_same, tlm_same, along.filled)
    read_same (refused x) = refl

    module _ (short : length (q ++ t) ≤ 0xffff_ffff) where
      front_same : front_of (q ++ t) ≡ front_of q
      unfolding front_of
      front_same =
          let l = longer q t in
          let four = reached_four r in
          rw (le-leb (length (q ++ t)) 0xffff_ffff short, le-leb (length q) 0xffff_ffff (omega arith), stands_front q t 0 SOC (omega arith), stands_front q t 2 SIZ (omega arith))

      pub by_prefix : (n : Numbering) → judged_by n (q ++ t) ≡ judged_by n q
      unfolding judged_by behind_front_by
      by_prefix n = ap (behind_front_by n (q ++ t)) front_same ∙ by (front_of q)
        where
          by : (f : Result ⊤ Refusal) → behind_front_by n (q ++ t) f ≡ behind_front_by n q f
          by (Ok tt) =
              ap (λ (c : Chain WalkEnd). read_as (q ++ t) c (ended_by n (q ++ t) 0 c.visits c.ended)) (walk_prefix q t r)
              ∙ ap (read_as (q ++ t) (walk_from q 2)) (along.ends n 0 (walk_from q 2).ended)
              ∙ read_same (ended_by n q 0 (walk_from q 2).visits (walk_from q 2).ended)
          by (Err x) = refl

      -- the walk's own answer, so where a marker stands
      pub finding_prefix : (marker : ℕ) → finding (q ++ t) marker ≡ finding q marker
      unfolding finding find_in
      finding_prefix marker =
          ap (λ (answer : Result MainHeaderInfo Refusal). find_in answer (q ++ t) marker) (sym (judged_restart (q ++ t)) ∙ by_prefix Restarting ∙ judged_restart q) ∙ by (judged q)
        where
          by : (answer : Result MainHeaderInfo Refusal) → find_in answer (q ++ t) marker ≡ find_in answer q marker
          by (Ok h) = ap (λ (c : Chain WalkEnd). first_of (q ++ t) marker c.visits) (walk_prefix q t r) ∙ along.finds marker
          by (Err x) = refl

      -- in the newer edition by the bytes 6 and 7, which lie inside what is accepted
      module _ (eight : (n : Numbering) (h : MainHeaderInfo) → judged_by n q ≡ Ok h → 8 ≤ length q) where
        edition_same : (e : Edition) (n : Numbering) (answer : Result MainHeaderInfo Refusal) → judged_by n q ≡ answer → in_edition e (q ++ t) answer ≡ in_edition e q answer
        unfolding in_edition announced
        edition_same Older n answer k = refl
        edition_same Newer n (Ok h) k =
            let read : be 2 (q ++ t) 6 ≡ be 2 q 6 = be_front 2 q t 6 (eight n h k) in
            ap (λ (m : ℕ). capped (eqb (bit 14 m) 1) (q ++ t) (caps_in (q ++ t) (walk_from (q ++ t) 2).visits) h) read
            ∙ ap (λ (c : Chain WalkEnd). capped (announced q) (q ++ t) (caps_in (q ++ t) c.visits) h) (walk_prefix q t r)
            ∙ ap (λ (caps : List ℕ). capped (announced q) (q ++ t) caps h) along.caps
            ∙ capped_fits (announced q) (caps_in q (walk_from q 2).visits) along.fits h
        edition_same Newer n (Err x) k = refl

        pub as_prefix : (how : Reading) → judged_as how (q ++ t) ≡ judged_as how q
        unfolding judged_as
        as_prefix how =
            let n = how.numbering in
            ap (in_edition how.edition (q ++ t)) (by_prefix n) ∙ edition_same how.edition n (judged_by n q) refl

        pub parsed_prefix : (how : Reading) (rows room : ℕ) → parsed how (q ++ t) rows room ≡ parsed how q rows room
        unfolding parsed
        parsed_prefix how rows room = ap (with_room rows room) (as_prefix how)

    -- ---- what is left behind

    pub table_prefix : (n : Numbering) → table_by n (q ++ t) ≡ table_by n q
    unfolding table_by
    table_prefix n =
        ap (λ (c : Chain WalkEnd). placed c.stopped (entries_by n (q ++ t) 0 c.visits)) (walk_prefix q t r)
        ∙ ap (placed (walk_from q 2).stopped) (along.entries n 0)

    pub table_after_prefix : (n : Numbering) (answer : Result MainHeaderInfo Refusal) (table : List ℕ) → table_after n answer (q ++ t) table ≡ table_after n answer q table
    unfolding table_after
    table_after_prefix n (Ok h) table = ap (λ (es : List TilePartEntry). rows_of es ++ drop (row_bytes * h.tlm_entries) table) (table_prefix n)
    table_after_prefix n (Err x) table = refl

    pub out_after_prefix : (answer : Result MainHeaderInfo Refusal) (out : List ℕ) → out_after answer (q ++ t) out ≡ out_after answer q out
    unfolding out_after
    out_after_prefix (Ok h) out = simp header_same
    out_after_prefix (Err x) out = let same = header_same in (cc)
