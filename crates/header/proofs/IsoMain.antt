-- A main header by the standard is accepted: each segment is passed where the one before it ends, up to the SOT behind the last. What the walk keeps is
-- the header without its TLM segments, and what it reads of these is their entries, numbered from 0 in each or carried on.
use Prim.Native.Nat.{ℕ, suc, ◌+◌, ◌-◌, ◌^◌, ◌≤◌, ◌<◌}
use native.Mathlib.Nat.{add-zero}
use native.Mathlib.Omega.{arith}
use mathlib.Core.Path.{◌≡◌, refl, ap, ap₂, ◌∙◌}
use mathlib.Core.Bool.{true, false, cond}
use mathlib.Core.List.{List, [], ◌∷◌, ◌++◌, append_assoc}
use lib.ListN.{length, take, drop, length-append}
use lib.Dec.{eqb}
use lib.Seq.{take_at, drop_at}
use Rattle.std.specs.Prelude.{Some, Ok}
use Rattle.numbers.specs.Bytes.{be, bytes_of}
use Rattle.numbers.specs.Rows.{bytes_of_rows, widths}
use Rattle.numbers.proofs.BytesLaws.{length_bytes, be_front, be_bytes_of}
use Rattle.numbers.proofs.Rows.{be_behind, length_rows}
use Rattle.numbers.proofs.Choice.{by_bool}
use Rattle.types.specs.Markers.{SOC, SIZ, TLM, SOT}
use Rattle.chain.specs.Chain.{Chain}
use Rattle.header.specs.Walk.{WalkEnd, at_first_sot, plain, walk_step_at, walk_from, tlm_step}
use Rattle.header.specs.Strip.{fillers, kept, decode_header, tlm_entries}
use Rattle.header.specs.Numbering.{next_number, entries_by, unindexed_in}
use Rattle.header.specs.Parse.{read_as, front_of, judged}
use Rattle.header.specs.declared.numbering.Numbering.TheVariants.{CarriedOn}
use Rattle.header.specs.Iso.{Segment, segment_bytes, InMain}
use Rattle.header.specs.IsoTlm.{Pointer, TlmSegment, tlm_rows, TlmRanges, numbered, numbered_on, iso_table, restarted, without_index, InOrder, AllIndexed}
use Rattle.header.specs.IsoMain.{Piece, tlm, other, piece_bytes, pieces_bytes, main_header, Sound, AllSound, IsMain, tables, pointer_count, without}
use Rattle.header.specs.declared.step.Marker.{Marker}
use Rattle.header.specs.declared.walk.Passed.{Passed as Passing}
use Rattle.header.proofs.StepLaws.{step_sot}
use Rattle.header.proofs.WalkLaws.{pass_other, pass_tlm, walk_segment, walk_sot, walk_found}
use Rattle.header.proofs.WalkVisited.{stopped_on, ended_on, kept_from, entries_from, fillers_from, fillers_on, kept_plain, entries_plain, kept_tlm, entries_tlm}
use Rattle.header.proofs.ParseLaws.{front_sound, judged_sound, stands_there}
use Rattle.header.proofs.Iso.{siz_inside, segment_marker, segment_standard}
use Rattle.header.proofs.NumberingLaws.{by_from, by_plain, by_tlm, count_plain, count_tlm}
use Rattle.header.proofs.IsoTlm.{tlm_step_lem, tlm_read, tlm_numbered, tlm_entries_lem, tlm_unindexed, carried_ordered, restarted_indexed, restarted_single}

-- ---- a walk over pieces

-- what the walk from a position makes of pieces that stand there, and an SOT behind them
record Walked (s : List ℕ) (at : ℕ) (ps : List Piece) : Type 0 where
  stopped : (walk_from s at).stopped ≡ at + length (pieces_bytes ps)
  ended : (walk_from s at).ended ≡ at_first_sot
  kept : kept_from s at ≡ pieces_bytes (without ps)
  entries : entries_from s at ≡ restarted (tables ps)
  carried : (k : ℕ) → by_from CarriedOn s k at ≡ numbered_on k (tables ps)
  many : unindexed_in s (walk_from s at).visits ≡ without_index (tables ps)
  none : fillers_from s at ≡ 0

-- what was passed between other bytes
passed_part : (front xs rest : List ℕ) → take (length front + length xs - length front) (drop (length front) (front ++ (xs ++ rest))) ≡ xs
passed_part front xs rest = rw (drop_at front (xs ++ rest) (length front) refl) (take_at xs rest (length front + length xs - length front) (omega arith))

-- a marker is read behind any bytes
pub marker_read : (front : List ℕ) (m : ℕ) (rest : List ℕ) → m < 2 ^ 16 → be 2 (front ++ (bytes_of 2 m ++ rest)) (length front) ≡ m
marker_read front m rest h = be_behind 2 front _ ∙ be_front 2 (bytes_of 2 m) rest 0 (omega (arith, length_bytes 2 m)) ∙ be_bytes_of 2 m h

-- the walk ends at an SOT
at_sot : (front rest : List ℕ) → Walked (front ++ (bytes_of 2 SOT ++ rest)) (length front) []
unfolding pieces_bytes without tables restarted numbered_on without_index fillers kept tlm_entries entries_by unindexed_in
at_sot front rest =
    let s : List ℕ = front ++ (bytes_of 2 SOT ++ rest) in
    let at : ℕ = length front in
    let long : at + 2 ≤ length s = simp (length-append, length_bytes) (omega arith) in
    let found = walk_found s at (walk_sot s at (step_sot s at long (marker_read front SOT rest (omega arith)))) in
    record {
      stopped = ap (λ (c : Chain WalkEnd). c.stopped) found ∙ omega arith;
      ended = ap (λ (c : Chain WalkEnd). c.ended) found;
      kept = ap (λ (c : Chain WalkEnd). kept s c.visits) found;
      entries = ap (λ (c : Chain WalkEnd). tlm_entries s c.visits) found;
      carried = λ k. ap (λ (c : Chain WalkEnd). entries_by CarriedOn s k c.visits) found;
      many = ap (λ (c : Chain WalkEnd). unindexed_in s c.visits) found;
      none = ap (λ (c : Chain WalkEnd). fillers s c.visits) found;
    }

-- what the step says of a piece
unfoldable pub passing_of : ℕ → Piece → Passing
passing_of at (other g) = plain (record { code = g.marker; high_ff = true; next = at + length (segment_bytes g) }) false
passing_of at (tlm t) =
    record { next = at + length (bytes_of_rows (tlm_rows t)); code = TLM; is_filler = false; tlm = Some (length t.pointers) }

pub piece_passed : (front : List ℕ) (p : Piece) (rest : List ℕ) → Sound p → walk_step_at (front ++ (piece_bytes p ++ rest)) (length front) ≡ Ok (Some (passing_of (length front) p))
unfolding Sound piece_bytes passing_of tlm_step
piece_passed front (other g) rest h = walk_segment _ _ _ (segment_standard front g rest h.0) ∙ pass_other _ _ _ h.1
piece_passed front (tlm t) rest h =
    let m : Marker = record { code = TLM; high_ff = true; next = length front + length (bytes_of_rows (tlm_rows t)) } in
    walk_segment _ _ m (tlm_step_lem front t rest h) ∙ pass_tlm _ _ m refl ∙ ap (tlm_step m) (tlm_read front t rest h)

-- the number behind a segment is the standard's
carries_on : (front : List ℕ) (t : TlmSegment) (rest : List ℕ) → TlmRanges t → (k : ℕ)
    → next_number CarriedOn (front ++ (bytes_of_rows (tlm_rows t) ++ rest)) (length front) k ≡ cond (eqb t.ST 0) (k + length t.pointers) k
unfolding next_number
carries_on front t rest h k =
    ap (λ (m : ℕ). k + m) (tlm_unindexed front t rest h) ∙ by_bool (eqb t.ST 0) (λ e. rw e) (λ e. rw (e, add-zero))

-- a piece is passed, and what holds from its end on holds from its start on
past : (front : List ℕ) (p : Piece) (ps : List Piece) (rest : List ℕ) → Sound p
    → Walked (front ++ (piece_bytes p ++ rest)) (length front + length (piece_bytes p)) ps
    → Walked (front ++ (piece_bytes p ++ rest)) (length front) (p ∷ ps)
unfolding Sound piece_bytes pieces_bytes without tables restarted numbered_on without_index passing_of
past front (other g) ps rest h w =
    let s : List ℕ = front ++ (segment_bytes g ++ rest) in
    let at : ℕ = length front in
    let p : Passing = passing_of at (other g) in
    let found : walk_step_at s at ≡ Ok (Some p) = piece_passed front (other g) rest h in
    record {
      stopped = stopped_on s at p found ∙ w.stopped ∙ omega (arith, length-append (segment_bytes g) (pieces_bytes ps));
      ended = ended_on s at p found ∙ w.ended;
      kept = kept_plain s at p found refl ∙ ap₂ ◌++◌ (passed_part front (segment_bytes g) rest) w.kept;
      entries = entries_plain s at p found refl ∙ w.entries;
      carried = λ k. by_plain CarriedOn s k at p found refl ∙ w.carried k;
      many = count_plain s at p found refl ∙ w.many;
      none = omega (arith, fillers_on s at p found, w.none);
    }
past front (tlm t) ps rest h w =
    let bytes : List ℕ = bytes_of_rows (tlm_rows t) in
    let s : List ℕ = front ++ (bytes ++ rest) in
    let at : ℕ = length front in
    let p : Passing = passing_of at (tlm t) in
    let found : walk_step_at s at ≡ Ok (Some p) = piece_passed front (tlm t) rest h in
    record {
      stopped = stopped_on s at p found ∙ w.stopped ∙ omega (arith, length-append bytes (pieces_bytes ps));
      ended = ended_on s at p found ∙ w.ended;
      kept = kept_tlm s at p found refl ∙ w.kept;
      entries = entries_tlm s at p found refl ∙ ap₂ ◌++◌ (tlm_entries_lem front t rest h) w.entries;
      carried = λ k. by_tlm CarriedOn s k at p found refl ∙ ap₂ ◌++◌ (tlm_numbered front t rest h k) (w.carried _ ∙ ap (λ (m : ℕ). numbered_on m (tables ps)) (carries_on front t rest h k));
      many = count_tlm s at p found refl ∙ ap₂ ◌+◌ (tlm_unindexed front t rest h) w.many;
      none = omega (arith, fillers_on s at p found, w.none);
    }

-- each piece in turn, up to the SOT
walked : (front : List ℕ) (ps : List Piece) (rest : List ℕ) → AllSound ps → Walked (front ++ (pieces_bytes ps ++ (bytes_of 2 SOT ++ rest))) (length front) ps
unfolding AllSound pieces_bytes
walked front [] rest h = at_sot front rest
walked front (p ∷ ps) rest h =
    let after : List ℕ = pieces_bytes ps ++ (bytes_of 2 SOT ++ rest) in
    rw append_assoc
    (past front p ps after h.0
    (rw (← append_assoc front (piece_bytes p) after, ← length-append front (piece_bytes p)) (walked (front ++ piece_bytes p) ps rest h.1)))

-- ---- the main header

-- a table has an entry for each of the segments' own
length_numbered : (ST k : ℕ) (ps : List Pointer) → length (numbered ST k ps) ≡ length ps
unfolding numbered
length_numbered ST k [] = refl
length_numbered ST k (p ∷ more) = ap suc (length_numbered ST (k + 1) more)

length_restarted : (ts : List TlmSegment) → length (restarted ts) ≡ pointer_count ts
unfolding restarted pointer_count
length_restarted [] = refl
length_restarted (t ∷ more) = length-append (numbered t.ST 0 t.pointers) (restarted more) ∙ ap₂ ◌+◌ (length_numbered t.ST 0 t.pointers) (length_restarted more)

-- a main header, whatever stands behind it, starts with SOC and SIZ
pub siz_main : {g : Segment} {ps : List Piece} → IsMain g ps → InMain g
siz_main {g} m = siz_inside g m.siz m.fits

pub split_main : (g : Segment) (ps : List Piece) (tail : List ℕ) → main_header g ps ++ tail ≡ bytes_of 2 SOC ++ (segment_bytes g ++ (pieces_bytes ps ++ tail))
unfolding main_header
split_main g ps tail = simp append_assoc

pub front_main : (g : Segment) (ps : List Piece) (tail : List ℕ) → IsMain g ps → length (main_header g ps ++ tail) ≤ 0xffff_ffff
    → front_of (main_header g ps ++ tail) ≡ Ok tt
unfolding bytes_of segment_bytes widths
front_main g ps tail m short =
    let s : List ℕ = main_header g ps ++ tail in
    let long : 4 ≤ length s = rw (split_main g ps tail) (simp (length-append, length_rows) (omega arith)) in
    let soc : be 2 s 0 ≡ SOC = rw (split_main g ps tail) (marker_read [] SOC _ (omega arith)) in
    let at-siz : be 2 s 2 ≡ SIZ = rw (split_main g ps tail) (segment_marker (bytes_of 2 SOC) g _ (siz_main m)) ∙ m.siz in
    front_sound s short (stands_there s 0 SOC (omega arith) soc) (stands_there s 2 SIZ (omega arith) at-siz)

-- a main header, and the SOT of the first tile-part behind it
abbrev pub up_to_sot : Segment → List Piece → List ℕ → List ℕ
up_to_sot g ps rest = main_header g ps ++ (bytes_of 2 SOT ++ rest)

module _ (g : Segment) (ps : List Piece) (rest : List ℕ) (m : IsMain g ps) where
  -- SIZ is the first piece
  main : Walked (up_to_sot g ps rest) 2 (other g ∷ ps)
  unfolding bytes_of pieces_bytes piece_bytes AllSound Sound
  main =
      rw (split_main g ps (bytes_of 2 SOT ++ rest), ← append_assoc (segment_bytes g) (pieces_bytes ps) _)
      (walked (bytes_of 2 SOC) (other g ∷ ps) rest ((siz_main m, λ e. omega (arith, m.siz)), m.pieces))

  -- the walk stops behind the last segment
  pub stopped_main : (walk_from (up_to_sot g ps rest) 2).stopped ≡ length (main_header g ps)
  unfolding main_header pieces_bytes piece_bytes
  stopped_main = main.stopped ∙ omega (arith, length-append (bytes_of 2 SOC) (segment_bytes g ++ pieces_bytes ps), length_bytes 2 SOC)

  pub ended_main : (walk_from (up_to_sot g ps rest) 2).ended ≡ at_first_sot
  ended_main = main.ended

  -- the decode header is the standard's header without its TLM segments
  pub decode_main : decode_header (up_to_sot g ps rest) (walk_from (up_to_sot g ps rest) 2).visits ≡ main_header g (without ps)
  unfolding decode_header main_header pieces_bytes piece_bytes without
  decode_main = ap₂ ◌++◌ (ap (take 2) (split_main g ps (bytes_of 2 SOT ++ rest)) ∙ take_at (bytes_of 2 SOC) _ 2 (length_bytes 2 SOC)) main.kept

  -- the entries are those of its TLM segments
  pub entries_main : tlm_entries (up_to_sot g ps rest) (walk_from (up_to_sot g ps rest) 2).visits ≡ restarted (tables ps)
  unfolding tables
  entries_main = main.entries

  -- and make the standard's table, where they all have indices and stand in the order of Ztlm, or where there is one segment only
  pub tlm_indexed : InOrder (tables ps) → AllIndexed (tables ps)
      → tlm_entries (up_to_sot g ps rest) (walk_from (up_to_sot g ps rest) 2).visits ≡ iso_table (tables ps)
  tlm_indexed o a = entries_main ∙ restarted_indexed (tables ps) o a

  pub tlm_single : (t : TlmSegment) → tables ps ≡ t ∷ [] → tlm_entries (up_to_sot g ps rest) (walk_from (up_to_sot g ps rest) 2).visits ≡ iso_table (tables ps)
  tlm_single t e = entries_main ∙ rw e (restarted_single t)

  -- numbered on they are the standard's numbering, taken in file order,
  pub carried_main : entries_by CarriedOn (up_to_sot g ps rest) 0 (walk_from (up_to_sot g ps rest) 2).visits ≡ numbered_on 0 (tables ps)
  unfolding tables
  carried_main = main.carried 0

  -- and where the segments stand in the order of Ztlm, the standard's table
  pub tlm_carried : InOrder (tables ps) → entries_by CarriedOn (up_to_sot g ps rest) 0 (walk_from (up_to_sot g ps rest) 2).visits ≡ iso_table (tables ps)
  tlm_carried o = carried_main ∙ carried_ordered (tables ps) o

  -- so many have no index
  pub many_main : unindexed_in (up_to_sot g ps rest) (walk_from (up_to_sot g ps rest) 2).visits ≡ without_index (tables ps)
  unfolding tables
  many_main = main.many

  -- nothing in it is filler
  pub fillers_main : fillers (up_to_sot g ps rest) (walk_from (up_to_sot g ps rest) 2).visits ≡ 0
  fillers_main = main.none

  -- The main header is accepted, with the first SOT behind its last segment.
  pub main_standard : length (up_to_sot g ps rest) ≤ 0xffff_ffff
      → judged (up_to_sot g ps rest)
      ≡ Ok
      (record {
        first_sot_offset = record { 0 = length (main_header g ps) };
        decode_header_length = length (main_header g (without ps));
        tlm_entries = pointer_count (tables ps);
        fillers = 0;
      })
  unfolding read_as
  main_standard short =
      let s : List ℕ = up_to_sot g ps rest in
      let entries : length (tlm_entries s (walk_from s 2).visits) ≡ pointer_count (tables ps) = ap length entries_main ∙ length_restarted (tables ps) in
      judged_sound s (front_main g ps (bytes_of 2 SOT ++ rest) m short)
      ∙ ap (read_as s (walk_from s 2)) ended_main
      ∙ (λ i. Ok (record { first_sot_offset = record { 0 = stopped_main i }; decode_header_length = length (decode_main i); tlm_entries = entries i; fillers = fillers_main i }))
