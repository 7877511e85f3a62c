-- Demand 3's premises. They hold of sample A, so the theorem says something; and each is needed: for each the smallest codestream of which all others
-- hold and the conclusion doesn't. All is computed, but for the length past 2^32-1.
use Prim.Native.Nat.{ℕ, zero, suc, ◌-◌, ◌<◌}
use native.Mathlib.Omega.{arith}
use mathlib.Core.Path.{◌≡◌, refl}
use mathlib.Core.Bool.{Bool, true, ◌&&◌, and-eq-true_iff}
use mathlib.Core.List.{List, [], ◌∷◌, ◌++◌}
use lib.ListN.{length}
use lib.Dec.{ltb}
use borrow.Author.Tests.{ltb-true}
use Rattle.std.specs.Prelude.{Option, Some, None, Result, Ok, Err}
use Rattle.types.specs.Refusals.{refusal}
use Rattle.types.specs.Markers.{SOC, SIZ}
use Rattle.types.specs.Row.{rows_of}
use Rattle.types.specs.declared.Area.{Area}
use Rattle.types.specs.declared.Refusal.{Refusal}
use Rattle.types.specs.declared.PartNumbers.TheVariants.{Known}
use Rattle.types.specs.declared.TilePartEntry.{TilePartEntry}
use Rattle.header.proofs.ParseLaws.{judged_long}
use Rattle.parts.specs.Scan.{scan_from, entries_from}
use Rattle.parts.specs.Split.{parts_of}
use Rattle.parts.specs.Tiles.{of_tile, bytes_at, joined, AllLong}
use Rattle.tile.specs.Rewrite.{from_zero, tile_size}
use Rattle.tile.specs.Assembly.{parts_in, assembly_answer}
use Rattle.tile.specs.declared.rules.Rule.{Rule}
use Rattle.tile.specs.declared.rules.Rule.TheVariants.{AnnexB, Original, InPlace}
use Rattle.tile.proofs.AssemblyLaws.{length_assembled}
use Rattle.laws.specs.Sample.{two, four, zeros, sot, A}
use Rattle.laws.specs.Demand3.{AllBytes, Accepted, NoPsot0, decode_header_of, assembled_of, Assembles, Reassembled}
use Rattle.laws.proofs.SampleComputing.{walks, scan_runs, split_runs, tiles}
use Rattle.laws.proofs.Demand3.{demand_3}
use Rattle.header.specs.Parse as parse
use Rattle.parts.specs.Scan as scan
use Rattle.types.specs.declared.Reason.TheVariants.{SegmentPastEnd, TilePartCutShort, OutputTooSmall, HeaderTooLong}
use Rattle.types.specs.declared.Reason.{Reason}
use Rattle.types.specs.declared.Reason.TheVariants.{TileOutside, NoGrid}

-- ---- they hold of A, and tile 5

unfoldable pub all_below : List ℕ → Bool
all_below [] = true
all_below (x ∷ rest) = ltb x 256 && all_below rest

pub all_bytes : (s : List ℕ) → all_below s ≡ true → AllBytes s
unfolding all_below
all_bytes [] e i = omega arith
all_bytes (x ∷ rest) e zero = ltb-true x 256 ((and-eq-true_iff (ltb x 256) (all_below rest)).0 e).0
all_bytes (x ∷ rest) e (suc i) = all_bytes rest ((and-eq-true_iff (ltb x 256) (all_below rest)).0 e).1 i

-- a tile-part by itself, number 0 of 1
abbrev entry : ℕ → ℕ → ℕ → TilePartEntry
entry index offset long = record { tile_index = index; numbers = Known 0 1; offset = record { 0 = offset }; length = long }

A-bytes : all_below A ≡ true
unfolding walks all_below
A-bytes = refl

pub A-accepted : Accepted A 57
unfolding walks scan_runs
A-accepted =
    record {
      bytes = all_bytes A A-bytes;
      info = record { first_sot_offset = record { 0 = 57 }; decode_header_length = 45; tlm_entries = 2; fillers = 0 };
      header = refl;
      first = refl;
      count = 2;
      scan = refl;
    }

cut_accepts : {a : Area} {r : Refusal} {z : Result (Option Area) Refusal} → z ≡ Ok (Some a) → z ≡ Err r → ⊥
cut_accepts e f = let z : ◌≡◌ {A = ℕ} 0 1 = cc in omega arith

not_empty : {e : TilePartEntry} {es : List TilePartEntry} → ◌≡◌ {A = List TilePartEntry} (e ∷ es) [] → ⊥
not_empty e = let z : ◌≡◌ {A = ℕ} 0 1 = cc in omega arith

-- what a rule makes of a tile that lies there: of one that is smaller than others, and of one of full size
abbrev cut : Rule → ℕ → ℕ → ℕ → ℕ → Result (Option Area) Refusal
cut AnnexB x0 y0 x1 y1 = Ok (Some (from_zero (x1 - x0) (y1 - y0)))
cut Original x0 y0 x1 y1 = Ok (Some (from_zero (x1 - x0) (y1 - y0)))
cut InPlace x0 y0 x1 y1 = Ok (Some (record { x0 = x0; y0 = y0; x1 = x1; y1 = y1 }))

abbrev full : Rule → ℕ → ℕ → ℕ → ℕ → Result (Option Area) Refusal
full AnnexB x0 y0 x1 y1 = Ok None
full Original x0 y0 x1 y1 = Ok None
full InPlace x0 y0 x1 y1 = cut InPlace x0 y0 x1 y1

A-tile-5 : (rule : Rule) → tile_size rule (decode_header_of A) 5 ≡ cut rule 8 4 10 6
unfolding walks tiles
A-tile-5 AnnexB = refl
A-tile-5 Original = refl
A-tile-5 InPlace = refl

A-accepts : (rule : Rule) (r : Refusal) → tile_size rule (decode_header_of A) 5 ≡ Err r → ⊥
A-accepts AnnexB r e = cut_accepts (A-tile-5 AnnexB) e
A-accepts Original r e = cut_accepts (A-tile-5 Original) e
A-accepts InPlace r e = cut_accepts (A-tile-5 InPlace) e

pub A-assembles : (rule : Rule) → Assembles rule A 5 (of_tile 5 (entries_from A 57)) (zeros 63)
unfolding walks scan_runs tiles AllLong NoPsot0
A-assembles rule =
    let long = length_assembled rule (decode_header_of A) (parts_in A (of_tile 5 (entries_from A 57))) in
    record {
      long = (omega arith, tt);
      some = λ e. not_empty e;
      sized = (λ e. omega arith, tt);
      siz = omega arith;
      accepts = A-accepts rule;
      room = omega (arith, long);
      short = omega (arith, long);
    }

pub A-reassembled : (rule : Rule) → Reassembled rule A 5 (of_tile 5 (entries_from A 57)) (zeros 63)
A-reassembled rule = (demand_3 A 57 A-accepted).assembly rule 5 (zeros 63) (A-assembles rule)

-- ---- the smallest codestreams

-- SOC and SIZ with an Lsiz, 131,072 wide: Ysiz and YOsiz, XTsiz, YTsiz and YTOsiz, the other fields 0; 40 bytes, which end before Csiz
unfoldable pub begun : ℕ → ℕ → ℕ → ℕ → ℕ → ℕ → List ℕ
begun lsiz y yo xt yt yto =
    two SOC ++ two SIZ ++ two lsiz ++ two 0 ++ four 0x20000 ++ four y ++ four 0 ++ four yo ++ four xt ++ four yt ++ four 0 ++ four yto

-- Lsiz 38, with a Csiz of 0, in tiles of 1 by 1, so that every Isot names one: one tile-part of 12 bytes stands at 42
unfoldable pub least : List ℕ → List ℕ
least part = begun 38 1 0 1 1 0 ++ two 0 ++ part

-- the header is accepted with the first SOT at p, no TLM met; the scan from there gives these entries; and the rewrite for a tile gives a size
abbrev Taken : Rule → List ℕ → ℕ → List TilePartEntry → ℕ → Result (Option Area) Refusal → Type 0
Taken rule s p es tile z =
    (parse.judged s ≡ Ok (record { first_sot_offset = record { 0 = p }; decode_header_length = p; tlm_entries = 0; fillers = 0 }))
    × (scan.judged (scan_from s p) ≡ Ok (length es))
    × (entries_from s p ≡ es)
    × (tile_size rule (decode_header_of s) tile ≡ z)

computed : Unit {0}
unfolding walks scan_runs split_runs tiles bytes_at joined begun least
computed = tt

-- with all premises, 54 bytes: none is shorter
pub least_taken : (rule : Rule) → Taken rule (least (sot 0 12)) 42 (entry 0 42 12 ∷ []) 0 (full rule 0 0 1 1)
unfolding computed
least_taken AnnexB = (refl, refl, refl, refl)
least_taken Original = (refl, refl, refl, refl)
least_taken InPlace = (refl, refl, refl, refl)

-- ---- an entry of 12 bytes or longer

-- 10 bytes, the last two of the SOT segment being EOC: no part stands in them, so the split gives none
abbrev cut_off : TilePartEntry
cut_off = record { tile_index = 0; numbers = Known 0xff 0xd9; offset = record { 0 = 42 }; length = 10 }

pub short_taken : (rule : Rule) → Taken rule (least (two 0xff90 ++ two 10 ++ two 0 ++ four 10 ++ two 0xffd9)) 42 (cut_off ∷ []) 0 (full rule 0 0 1 1)
unfolding computed
short_taken AnnexB = (refl, refl, refl, refl)
short_taken Original = (refl, refl, refl, refl)
short_taken InPlace = (refl, refl, refl, refl)

pub short_split : parts_of (joined (least (two 0xff90 ++ two 10 ++ two 0 ++ four 10 ++ two 0xffd9)) (cut_off ∷ [])) ≡ []
unfolding computed
short_split = refl

-- 4 bytes, Isot being EOC: the scan of what is assembled refuses
pub shorter_taken : (rule : Rule) → Taken rule (least (sot 0xffd9 4)) 42 (entry 0xffd9 42 4 ∷ []) 0xffd9 (full rule 0xffd9 0 0xffda 1)
unfolding computed
shorter_taken AnnexB = (refl, refl, refl, refl)
shorter_taken Original = (refl, refl, refl, refl)
shorter_taken InPlace = (refl, refl, refl, refl)

pub shorter_scan : (rule : Rule) → scan.judged (scan_from (assembled_of rule (least (sot 0xffd9 4)) (entry 0xffd9 42 4 ∷ [])) 42) ≡ Err (refusal TilePartCutShort 42)
unfolding computed
shorter_scan AnnexB = refl
shorter_scan Original = refl
shorter_scan InPlace = refl

-- ---- an entry at all

-- tile 1 has none, and behind the header stands EOC
pub none_taken : (rule : Rule) → Taken rule (least (sot 0 12)) 42 (entry 0 42 12 ∷ []) 1 (full rule 1 0 2 1)
unfolding computed
none_taken AnnexB = (refl, refl, refl, refl)
none_taken Original = (refl, refl, refl, refl)
none_taken InPlace = (refl, refl, refl, refl)

pub none_walk : (rule : Rule) → parse.judged (assembled_of rule (least (sot 0 12)) (of_tile 1 (entries_from (least (sot 0 12)) 42))) ≡ Err (refusal SegmentPastEnd 42)
unfolding computed
none_walk AnnexB = refl
none_walk Original = refl
none_walk InPlace = refl

-- ---- no Psot 0

-- the entry reaches to the codestream's end, and in what is assembled past EOC
pub psot_0_taken : (rule : Rule) → Taken rule (least (sot 0 0)) 42 (entry 0 42 12 ∷ []) 0 (full rule 0 0 1 1)
unfolding computed
psot_0_taken AnnexB = (refl, refl, refl, refl)
psot_0_taken Original = (refl, refl, refl, refl)
psot_0_taken InPlace = (refl, refl, refl, refl)

pub psot_0_scan : (rule : Rule) → entries_from (assembled_of rule (least (sot 0 0)) (entry 0 42 12 ∷ [])) 42 ≡ entry 0 42 14 ∷ []
unfolding computed
psot_0_scan AnnexB = refl
psot_0_scan Original = refl
psot_0_scan InPlace = refl

-- ---- Lsiz of 38 or more

-- Lsiz 34, and EPH at 38, which the rewrite takes for the low half of YTOsiz and makes another. (The eight fields end at 40, so 36 would do: `rewalked`.)
abbrev ends_early : List ℕ
ends_early = begun 34 0xff94 0xff93 1 2 0xff92 ++ sot 0 12

pub lsiz_34_taken : (rule : Rule) → Taken rule ends_early 40 (entry 0 40 12 ∷ []) 0 (cut rule 0 0xff93 1 0xff94)
unfolding computed
lsiz_34_taken AnnexB = (refl, refl, refl, refl)
lsiz_34_taken Original = (refl, refl, refl, refl)
lsiz_34_taken InPlace = (refl, refl, refl, refl)

pub lsiz_34_walk : (rule : Rule) → parse.judged (assembled_of rule ends_early (entry 0 40 12 ∷ [])) ≡ Err (refusal SegmentPastEnd 38)
unfolding computed
lsiz_34_walk AnnexB = refl
lsiz_34_walk Original = refl
lsiz_34_walk InPlace = refl

-- ---- a rewrite that accepts

-- XTsiz 0
abbrev no_size : List ℕ
no_size = begun 38 1 0 0 1 0 ++ two 0

-- what each rule refuses it by
abbrev reason : Rule → Reason
reason AnnexB = NoGrid
reason Original = TileOutside
reason InPlace = NoGrid

pub refused_taken : (rule : Rule) → Taken rule (no_size ++ sot 0 12) 42 (entry 0 42 12 ∷ []) 0 (Err (refusal (reason rule) 2))
unfolding computed
refused_taken AnnexB = (refl, refl, refl, refl)
refused_taken Original = (refl, refl, refl, refl)
refused_taken InPlace = (refl, refl, refl, refl)

pub refused_answer : (rule : Rule) → assembly_answer rule no_size (rows_of (entry 0 42 12 ∷ [])) (no_size ++ sot 0 12) 56 ≡ Err (refusal (reason rule) 2)
unfolding computed
refused_answer AnnexB = refl
refused_answer Original = refl
refused_answer InPlace = refl

-- ---- room

pub room_answer : (rule : Rule) → assembly_answer rule (least []) (rows_of (entry 0 42 12 ∷ [])) (least (sot 0 12)) 55 ≡ Err (refusal OutputTooSmall 56)
unfolding computed
room_answer AnnexB = refl
room_answer Original = refl
room_answer InPlace = refl

-- ---- at most 2^32-1 bytes

-- EOC makes what is assembled up to 2 bytes longer than the codestream: with no TLM and one part to the end, 2^32-2 bytes are enough
pub long_walk : (rule : Rule) (s : List ℕ) (es : List TilePartEntry) → 0xffff_ffff < length (assembled_of rule s es)
    → parse.judged (assembled_of rule s es) ≡ Err (refusal HeaderTooLong 0)
long_walk rule s es h = judged_long (assembled_of rule s es) h
