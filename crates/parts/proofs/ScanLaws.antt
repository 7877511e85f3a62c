-- The scan's step opened once: a law for each case, and what a tile-part that it finds says of the bytes. So the scan goes forward inside
-- the codestream, and the laws of a chain hold of it.
use Prim.Native.Nat.{ℕ, ◌+◌, ◌-◌, ◌≤◌, ◌<◌}
use native.Mathlib.Omega.{arith}
use mathlib.Core.Path.{◌≡◌, refl, sym, ap, ap₂, ◌∙◌}
use mathlib.Core.Logic.{◌⊎◌, inl, inr, ⊎_elim}
use mathlib.Core.Bool.{Bool, true, false, ◌&&◌}
use mathlib.Core.List.{List, [], ◌∷◌, map}
use lib.ListN.{length, drop, length-drop}
use lib.Seq.{drop-drop}
use lib.Dec.{leb, eqb}
use borrow.Author.Tests.{le-leb, lt-leb, eq-eqb, ne_eqb, leb-true, eqb-true, eqb-false}
use Rattle.std.specs.Prelude.{Option, Some, None, Result, Ok, Err}
use Rattle.numbers.specs.Bytes.{be}
use Rattle.types.specs.Refusals.{refusal}
use Rattle.types.specs.Markers.{SOT, EOC}
use Rattle.types.specs.declared.PartNumbers.{PartNumbers}
use Rattle.types.specs.declared.Refusal.{Refusal}
use Rattle.types.specs.declared.TilePartEntry.{TilePartEntry}
use Rattle.chain.specs.Chain.{on, Chain, Rises, also}
use Rattle.chain.proofs.ChainLaws.{chain_end, chain_on}
use Rattle.parts.specs.Sot.{lsot, psot}
use Rattle.parts.specs.Scan.{entry_of, part_at, eoc_at, sot_step_at, scan_step_at, ScanEnd, ended, refused, move_of, move_at, scan_from, recorded, entries_from}
use Rattle.numbers.proofs.Choice.{by_test}
use Rattle.chain.proofs.ChainLaws.{end_on}
use Rattle.types.specs.declared.Reason.TheVariants.{TilePartCutShort, SotLengthWrong, TilePartPastEnd}

-- ---- the step, case by case

module _ (s : List ℕ) (at : ℕ) where
  pub sot_lsot : (lsot s at ≡ 10 → ⊥) → sot_step_at s at ≡ Err (refusal SotLengthWrong at)
  unfolding sot_step_at
  sot_lsot n = rw (ne_eqb _ _ n)

  module _ (ten : lsot s at ≡ 10) where
    pub sot_rest : psot s at ≡ 0 → sot_step_at s at ≡ Ok (Some (entry_of s at (length s - at)))
    unfolding sot_step_at
    sot_rest z = rw (eq-eqb _ _ ten, eq-eqb _ _ z)

    module _ (some : psot s at ≡ 0 → ⊥) where
      pub sot_past : length s < at + psot s at → sot_step_at s at ≡ Err (refusal TilePartPastEnd at)
      unfolding sot_step_at
      sot_past h = rw (eq-eqb _ _ ten, ne_eqb _ _ some, lt-leb _ _ h)

      pub sot_part : at + psot s at ≤ length s → sot_step_at s at ≡ Ok (Some (entry_of s at (psot s at)))
      unfolding sot_step_at
      sot_part h = rw (eq-eqb _ _ ten, ne_eqb _ _ some, le-leb _ _ h)

  pub step_outside : length s ≤ at → scan_step_at s at ≡ Ok None
  unfolding scan_step_at
  step_outside h = rw (le-leb _ _ h)

  module _ (inside : at < length s) where
    pub step_eoc : eoc_at s at ≡ true → scan_step_at s at ≡ Ok None
    unfolding scan_step_at
    step_eoc e = rw (lt-leb _ _ inside, e)

    module _ (more : eoc_at s at ≡ false) where
      pub step_short : length s < at + 12 → scan_step_at s at ≡ Err (refusal TilePartCutShort at)
      unfolding scan_step_at
      step_short h = rw (lt-leb _ _ inside, more, lt-leb _ _ h)

      module _ (room : at + 12 ≤ length s) where
        pub step_other : (be 2 s at ≡ SOT → ⊥) → scan_step_at s at ≡ Ok None
        unfolding scan_step_at
        step_other n = rw (lt-leb _ _ inside, more, le-leb _ _ room, ne_eqb _ _ n)

        pub step_sot : be 2 s at ≡ SOT → scan_step_at s at ≡ sot_step_at s at
        unfolding scan_step_at
        step_sot e = rw (lt-leb _ _ inside, more, le-leb _ _ room, eq-eqb _ _ e)

-- another marker than SOT ends it, EOC among them
pub step_ends : (s : List ℕ) (at : ℕ) → at < length s → at + 12 ≤ length s → (be 2 s at ≡ SOT → ⊥) → scan_step_at s at ≡ Ok None
step_ends s at inside room n = ends (eoc_at s at) refl
  where
    ends : (b : Bool) → eoc_at s at ≡ b → scan_step_at s at ≡ Ok None
    ends true e = step_eoc s at inside e
    ends false e = step_other s at inside e room n

pub and-false : (b : Bool) → b && false ≡ false
and-false true = refl
and-false false = refl

-- no SOT is an EOC
pub sot_no_eoc : (s : List ℕ) (at : ℕ) → be 2 s at ≡ SOT → eoc_at s at ≡ false
unfolding eoc_at
sot_no_eoc s at m = rw (ne_eqb (be 2 s at) EOC (λ e. omega arith)) (and-false (leb (at + 2) (length s)))

-- ---- what the bytes are where the step finds a tile-part

pub record Stands (s : List ℕ) (at : ℕ) (e : TilePartEntry) : Type 0 where
  pub entry : e ≡ entry_of s at e.length
  pub room : at + 12 ≤ lib.ListN.length s
  pub marker : be 2 s at ≡ SOT
  pub some : 0 < e.length
  pub inside : at + e.length ≤ lib.ListN.length s
  pub long : (psot s at ≡ e.length) ⊎ ((psot s at ≡ 0) × (at + e.length ≡ lib.ListN.length s))

abbrev Told : List ℕ → ℕ → Result (Option TilePartEntry) Refusal → Type 0
Told s at (Ok (Some e)) = Stands s at e
Told s at (Ok None) = Unit {0}
Told s at (Err r) = Unit {0}

sot_told : (s : List ℕ) (at : ℕ) → at + 12 ≤ length s → be 2 s at ≡ SOT → Told s at (sot_step_at s at)
unfolding sot_step_at
sot_told s at h m =
    by_test (Told s at) (eqb (lsot s at) 10)
    (λ _. by_test (Told s at) (eqb (psot s at) 0)
    (λ z. record { entry = refl; room = h; marker = m; some = omega arith; inside = omega arith; long = inr (eqb-true _ _ z, omega arith) })
    (λ n. by_test (Told s at) (leb (at + psot s at) (length s))
    (λ i. record { entry = refl; room = h; marker = m; some = omega (arith, eqb-false (psot s at) 0 n); inside = leb-true _ _ i; long = inl refl })
    (λ _. tt)))
    (λ _. tt)

step_told : (s : List ℕ) (at : ℕ) → Told s at (scan_step_at s at)
unfolding scan_step_at
step_told s at =
    by_test (Told s at) (leb (length s) at) (λ _. tt)
    (λ _. by_test (Told s at) (eoc_at s at) (λ _. tt)
    (λ _. by_test (Told s at) (leb (at + 12) (length s))
    (λ h. by_test (Told s at) (eqb (be 2 s at) SOT) (λ m. sot_told s at (leb-true _ _ h) (eqb-true _ _ m)) (λ _. tt))
    (λ _. tt)))

pub part_stands : (s : List ℕ) (at : ℕ) (e : TilePartEntry) → scan_step_at s at ≡ Ok (Some e) → Stands s at e
part_stands s at e found = rw found at (step_told s at)

pub part_offset : (s : List ℕ) (at : ℕ) (e : TilePartEntry) → scan_step_at s at ≡ Ok (Some e) → e.offset.0 ≡ at
part_offset s at e found = ap (λ (x : TilePartEntry). x.offset.0) (part_stands s at e found).entry

-- a tile-part is passed to where it ends
pub part_on : (s : List ℕ) (at : ℕ) (e : TilePartEntry) → scan_step_at s at ≡ Ok (Some e) → move_at s at ≡ on (at + e.length)
unfolding move_at move_of
part_on s at e found =
    ap move_of found ∙ ap (λ (o : ℕ). on (o + e.length)) (part_offset s at e found)

-- the other way round, where the scan moves on a tile-part stands and ends there
pub record Passed (s : List ℕ) (at next : ℕ) : Type 0 where
  pub past : at < next
  pub within : next ≤ length s
  pub stands : Stands s at (entry_of s at (next - at))

passed : (s : List ℕ) (at next : ℕ) (found : Result (Option TilePartEntry) Refusal) → Told s at found → move_of found ≡ on next → Passed s at next
unfolding move_of
passed s at next (Ok (Some e)) told m =
    let o : e.offset.0 ≡ at = ap (λ (x : TilePartEntry). x.offset.0) told.entry in
    let n : e.offset.0 + e.length ≡ next = cc in
    let l : e.length ≡ next - at = omega arith in
    let same : e ≡ entry_of s at (next - at) = told.entry ∙ ap (entry_of s at) l in
    record { past = omega arith; within = omega arith; stands = rw same at told }
passed s at next (Ok None) told m = absurd (end_on m)
passed s at next (Err r) told m = absurd (end_on m)

pub move_passed : (s : List ℕ) (at next : ℕ) → move_at s at ≡ on next → Passed s at next
unfolding move_at
move_passed s at next m = passed s at next (scan_step_at s at) (step_told s at) m

pub rises : (s : List ℕ) → Rises (move_at s) (length s)
rises s at next m = let p = move_passed s at next m in (omega arith, omega arith)

-- ---- the scan, by what the step finds

abbrev pub stop : {A : Type 0} → ℕ → A → Chain A
stop at a = record { visits = []; stopped = at; ended = a }

pub scan_ended : (s : List ℕ) (at : ℕ) → scan_step_at s at ≡ Ok None → scan_from s at ≡ stop at ended
unfolding scan_from move_at move_of
scan_ended s at e = chain_end ended (move_at s) (length s) (rises s) at ended (ap move_of e)

pub scan_refused : (s : List ℕ) (at : ℕ) (r : Refusal) → scan_step_at s at ≡ Err r → scan_from s at ≡ stop at (refused r)
unfolding scan_from move_at move_of
scan_refused s at r e = chain_end ended (move_at s) (length s) (rises s) at (refused r) (ap move_of e)

pub scan_part : (s : List ℕ) (at : ℕ) (e : TilePartEntry) → scan_step_at s at ≡ Ok (Some e)
    → scan_from s at ≡ also (record { at = at; next = at + e.length }) (scan_from s (at + e.length))
unfolding scan_from
scan_part s at e found = chain_on ended (move_at s) (length s) (rises s) at (at + e.length) (part_on s at e found)

-- ---- its records

pub entries_ended : (s : List ℕ) (at : ℕ) → scan_step_at s at ≡ Ok None → entries_from s at ≡ []
unfolding entries_from
entries_ended s at e = ap (λ (c : Chain ScanEnd). map (recorded s) c.visits) (scan_ended s at e)

pub entries_refused : (s : List ℕ) (at : ℕ) (r : Refusal) → scan_step_at s at ≡ Err r → entries_from s at ≡ []
unfolding entries_from
entries_refused s at r e = ap (λ (c : Chain ScanEnd). map (recorded s) c.visits) (scan_refused s at r e)

pub entries_part : (s : List ℕ) (at : ℕ) (e : TilePartEntry) → scan_step_at s at ≡ Ok (Some e) → entries_from s at ≡ e ∷ entries_from s (at + e.length)
unfolding entries_from also
entries_part s at e found =
    let rest : List TilePartEntry = map (recorded s) (scan_from s (at + e.length)).visits in
    let same : entry_of s at (at + e.length - at) ≡ e = ap (entry_of s at) (omega arith) ∙ sym (part_stands s at e found).entry in
    ap (λ (c : Chain ScanEnd). map (recorded s) c.visits) (scan_part s at e found) ∙ ap (λ (x : TilePartEntry). x ∷ rest) same

-- ---- a scan that is not refused, and its records

pub record Scans (s : List ℕ) (at : ℕ) (es : List TilePartEntry) : Type 0 where
  pub stops : (scan_from s at).ended ≡ ended
  pub entries : entries_from s at ≡ es

pub scans_end : (s : List ℕ) (at : ℕ) → scan_step_at s at ≡ Ok None → Scans s at []
scans_end s at e = record { stops = ap (λ (c : Chain ScanEnd). c.ended) (scan_ended s at e); entries = entries_ended s at e }

pub scans_part : (s : List ℕ) (at : ℕ) (e : TilePartEntry) (es : List TilePartEntry) → scan_step_at s at ≡ Ok (Some e) → Scans s (at + e.length) es
    → Scans s at (e ∷ es)
unfolding also
scans_part s at e es found after =
    record {
      stops = ap (λ (c : Chain ScanEnd). c.ended) (scan_part s at e found) ∙ after.stops;
      entries = entries_part s at e found ∙ ap (λ (l : List TilePartEntry). e ∷ l) after.entries;
    }

-- ---- its next record, which the bytes there say

pub record Next (s : List ℕ) (at : ℕ) : Type 0 where
  pub room : at + 12 ≤ lib.ListN.length s
  pub entries : entries_from s at ≡ part_at s at ∷ entries_from s (at + (part_at s at).length)
  pub some : 0 < (part_at s at).length
  pub inside : at + (part_at s at).length ≤ lib.ListN.length s
  pub long : (psot s at ≡ (part_at s at).length) ⊎ ((psot s at ≡ 0) × (at + (part_at s at).length ≡ lib.ListN.length s))

pub stands_part : (s : List ℕ) (at : ℕ) (e : TilePartEntry) → Stands s at e → e ≡ part_at s at
stands_part s at e t =
    let P : ℕ → Type 0 = λ (n : ℕ). e ≡ entry_of s at n in
    by_test P (eqb (psot s at) 0)
    (λ z. t.entry ∙ ap (entry_of s at) (⊎_elim (λ l. absurd (omega (arith, eqb-true (psot s at) 0 z))) (λ l. omega arith) t.long))
    (λ n. t.entry ∙ ap (entry_of s at) (⊎_elim (λ l. sym l) (λ l. absurd (eqb-false (psot s at) 0 n l.0)) t.long))

next : (s : List ℕ) (at : ℕ) (found : Result (Option TilePartEntry) Refusal) → scan_step_at s at ≡ found → 0 < length (entries_from s at) → Next s at
next s at (Ok (Some e)) found h =
    let t = part_stands s at e found in
    let same : e ≡ part_at s at = stands_part s at e t in
    let k = rw same at t in
    record { room = t.room; entries = rw same at (entries_part s at e found); some = k.some; inside = k.inside; long = k.long }
next s at (Ok None) found h = absurd (omega (arith, ap length (entries_ended s at found)))
next s at (Err r) found h = absurd (omega (arith, ap length (entries_refused s at r found)))

-- where records are left, one stands there
pub entries_next : (s : List ℕ) (at : ℕ) → 0 < length (entries_from s at) → Next s at
entries_next s at h = next s at (scan_step_at s at) refl h

-- where Psot leads is inside
pub leads_inside : (s : List ℕ) (at : ℕ) → Next s at → at + psot s at ≤ length s
leads_inside s at n = ⊎_elim (λ l. omega (arith, n.inside)) (λ l. omega (arith, n.room)) n.long

-- and there stands what is left, if anything: no record comes after Psot 0
pub leads_on : (s : List ℕ) (at : ℕ) → Next s at → 0 < length (entries_from s (at + (part_at s at).length))
    → entries_from s (at + (part_at s at).length) ≡ entries_from s (at + psot s at)
leads_on s at n h =
    ⊎_elim (λ l. ap (λ (k : ℕ). entries_from s (at + k)) (sym l))
    (λ l. absurd (omega (arith, l.1, (entries_next s (at + (part_at s at).length) h).room))) n.long

-- a record that another follows has Psot bytes; es are the records from some start on, and the k-th of them stands here
pub record Followed (s : List ℕ) (es : List TilePartEntry) (at k : ℕ) : Type 0 where
  pub room : at + 12 ≤ length s
  pub inside : at + psot s at ≤ length s
  pub first : drop k es ≡ entry_of s at (psot s at) ∷ drop (k + 1) es
  pub part : part_at s at ≡ entry_of s at (psot s at)
  pub on : entries_from s (at + psot s at) ≡ drop (k + 1) es

pub follows : (s : List ℕ) (es : List TilePartEntry) (at k : ℕ) → entries_from s at ≡ drop k es → k + 1 < length es → Followed s es at k
follows s es at k here more =
    let n = entries_next s at (omega (arith, ap lib.ListN.length here, length-drop k es)) in
    let e : TilePartEntry = part_at s at in
    let rest : List TilePartEntry = entries_from s (at + e.length) in
    let split : drop k es ≡ e ∷ rest = sym here ∙ n.entries in
    let after : drop (k + 1) es ≡ rest = sym (drop-drop 1 k es) ∙ ap (drop 1) split in
    let some : 0 < length rest = omega (arith, ap lib.ListN.length after, length-drop (k + 1) es) in
    let psots : e ≡ entry_of s at (psot s at) =
    ⊎_elim (λ l. ap (entry_of s at) (sym l)) (λ l. absurd (omega (arith, l.1, (entries_next s (at + e.length) some).room))) n.long in
    record {
      room = n.room;
      inside = leads_inside s at n;
      part = psots;
      first = split ∙ ap₂ (λ (x : TilePartEntry) (l : List TilePartEntry). x ∷ l) psots (sym after);
      on = sym (leads_on s at n some) ∙ sym after;
    }

-- records, field by field
pub same_entry : {i j at n m : ℕ} {p q : PartNumbers} → i ≡ j → p ≡ q → n ≡ m
    → ◌≡◌ {A = TilePartEntry} (record { tile_index = i; numbers = p; offset = record { 0 = at }; length = n }) (record { tile_index = j; numbers = q; offset = record { 0 = at }; length = m })
same_entry e f g = cc

pub same_part : {i j at n m : ℕ} {p q : PartNumbers} → i ≡ j → p ≡ q → n ≡ m
    → ◌≡◌ {A = Result (Option TilePartEntry) Refusal} (Ok (Some (record { tile_index = i; numbers = p; offset = record { 0 = at }; length = n }))) (Ok (Some (record { tile_index = j; numbers = q; offset = record { 0 = at }; length = m })))
same_part e f g = ap (λ p. Ok (Some p)) (same_entry e f g)
