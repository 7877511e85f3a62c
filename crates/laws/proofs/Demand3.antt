-- Demand 3. The entries of a scan adjoin; a tile's entries joined and split again are the same parts; and the codestream assembled of them is walked
-- as the decode header was (`Rewalked`), in the newer edition too (`Edition`), and scanned as they were (`Rescanned`).
use Prim.Native.Nat.{ℕ, ◌≤◌}
use native.Mathlib.Omega.{arith}
use mathlib.Core.Path.{◌≡◌, refl, sym, ap, ap₂, ◌∙◌}
use mathlib.Core.List.{List, [], ◌++◌, map}
use lib.ListN.{length, drop, length-append}
use lib.Seq.{take_at}
use Rattle.std.specs.Prelude.{Option, Some, None, Result, Ok, Err}
use Rattle.numbers.specs.Bytes.{be, bytes_of}
use Rattle.numbers.proofs.BytesLaws.{be_front}
use Rattle.types.specs.Markers.{SOC, SIZ, SOT, EOC}
use Rattle.types.specs.Row.{rows_of}
use Rattle.types.specs.declared.Refusal.{Refusal}
use Rattle.types.specs.declared.TilePartEntry.{TilePartEntry}
use Rattle.header.specs.Walk.{walk_from}
use Rattle.header.specs.Strip.{fillers, decode_header, tlm_entries}
use Rattle.header.specs.Parse.{read_as, judged, judged_by}
use Rattle.header.specs.declared.numbering.Numbering.{Numbering}
use Rattle.header.specs.declared.numbering.Numbering.TheVariants.{CarriedOn, Restarting}
use Rattle.header.proofs.NumberingLaws.{judged_restart}
use Rattle.header.proofs.Numberings.{carried_accepts}
use Rattle.header.proofs.EditionLaws.{caps_from}
use Rattle.header.specs.declared.parse.MainHeaderInfo.{MainHeaderInfo}
use Rattle.header.proofs.ParseLaws.{stands_there, judged_read, opens_with, judged_walk}
use Rattle.parts.specs.Scan.{entries_from}
use Rattle.parts.specs.Tiles.{of_tile, bytes_at, AllLong}
use Rattle.parts.proofs.TilesAdjoin.{scan_adjoins}
use Rattle.parts.proofs.TilesJoined.{split_joined}
use Rattle.tile.specs.Rewrite.{tile_size, cut_to, rewritten, over}
use Rattle.tile.specs.Assembly.{parts_in, patched, size_for, joined, assembled, answer_for, assembly_answer, assembly_out}
use Rattle.tile.specs.declared.rules.Rule.{Rule}
use Rattle.tile.proofs.RewriteLaws.{room_enough}
use Rattle.tile.proofs.RewriteHeader.{length_rewritten}
use Rattle.types.proofs.RowReading.{All, none, more}
use Rattle.tile.proofs.AssemblyLaws.{part_sot, for_first, assembled_is}
use Rattle.laws.specs.Demand3.{Accepted, decode_header_of, assembled_of, Assembles, Standing, Reassembled, Demand3}
use Rattle.laws.proofs.Demand3Entries.{OfTile, entries_of_tile, records_back, parts_in_lem}
use Rattle.laws.proofs.Demand3Edition.{newer_same}
use Rattle.laws.proofs.Demand3Rewalked.{Rewalked, rewalked}
use Rattle.laws.proofs.Demand3Rescanned.{part_tile, part_is_sot, patched_long, patched_marker, rescan, scans_table}
use Rattle.tile.specs.Rewrite as rewrite
use Rattle.types.specs.declared.Area.{Area}

-- ---- a header walk that stops at an SOT accepts

accepted_at : (s caps a : List ℕ) (to : ℕ) → be 2 s 0 ≡ SOC → be 2 s 2 ≡ SIZ → length a ≤ 0xffff_ffff → Rewalked s caps a to
    → (info : MainHeaderInfo) × (judged a ≡ Ok info) × (info.first_sot_offset.0 ≡ to) × ((n : Numbering) → judged_by n a ≡ judged a)
unfolding read_as
accepted_at s caps a to soc siz short r =
    let long = r.long in
    let info : MainHeaderInfo =
    record {
      first_sot_offset = record { 0 = (walk_from a 2).stopped };
      decode_header_length = length (decode_header a (walk_from a 2).visits);
      tlm_entries = length (tlm_entries a (walk_from a 2).visits);
      fillers = fillers a (walk_from a 2).visits;
    } in (
      info,
      judged_walk a short (stands_there a 0 SOC (omega arith) (r.soc ∙ soc)) (stands_there a 2 SIZ (omega arith) (r.siz ∙ siz))
          ∙ ap (read_as a (walk_from a 2)) r.stops.ended,
      r.stops.stopped,
      either,
    )
  where
    either : (n : Numbering) → judged_by n a ≡ judged a
    either CarriedOn = carried_accepts a (omega (arith, r.stops.none))
    either Restarting = judged_restart a

-- ---- what is assembled

-- the parts with Isot 0, and EOC
abbrev rest_of : List ℕ → List TilePartEntry → List ℕ
rest_of s es = joined (map (bytes_at s) es) ++ bytes_of 2 EOC

module _ (s : List ℕ) (tile : ℕ) where
  -- the first part chooses the tile
  size_is : (rule : Rule) (d : List ℕ) {es : List TilePartEntry} → All (OfTile s tile) es → AllLong es → (es ≡ [] → ⊥)
      → size_for rule d (parts_in s es) ≡ tile_size rule d tile
  unfolding AllLong
  size_is rule d none long some = absurd (some refl)
  size_is rule d (more {e = e} o all) long some =
      for_first rule d (parts_in_lem s tile (more o all))
      ∙ part_sot (bytes_at s e) rule d (part_is_sot s tile e o long.0)
      ∙ ap (tile_size rule d) (part_tile s tile e o long.0)

  -- behind the header stands an SOT
  rest_begins : {es : List TilePartEntry} → All (OfTile s tile) es → AllLong es → (es ≡ [] → ⊥) → (2 ≤ length (rest_of s es)) × (be 2 (rest_of s es) 0 ≡ SOT)
  unfolding AllLong joined
  rest_begins none long some = absurd (some refl)
  rest_begins (more {e = e} {rest = rest} o all) long some =
      let part : List ℕ = patched (bytes_at s e) in
      let y : List ℕ = joined (map (bytes_at s) rest) in
      let twelve = long.0 in
      let size = patched_long s tile e o long.0 in (
        simp length-append (omega arith),
        be_front 2 (part ++ y) (bytes_of 2 EOC) 0 (simp length-append (omega arith))
            ∙ be_front 2 part y 0 (omega arith)
            ∙ patched_marker s tile e o long.0,
      )

  assembled_whole : (rule : Rule) (d : List ℕ) {es : List TilePartEntry} → All (OfTile s tile) es → AllLong es → (es ≡ [] → ⊥)
      → assembled rule d (parts_in s es) ≡ rewritten rule d tile ++ rest_of s es
  unfolding rewritten
  assembled_whole rule d {es} all long some =
      assembled_is rule d (parts_in s es)
      ∙ ap₂ (λ (z : Result (Option Area) Refusal) (ps : List (List ℕ)). cut_to z d ++ (joined ps ++ bytes_of 2 EOC)) (size_is rule d all long some) (parts_in_lem s tile all)

-- a rewrite that accepts, with room
bytes_of_lem : (z : Result (Option Area) Refusal) (n room : ℕ) → ((r : Refusal) → z ≡ Err r → ⊥) → n ≤ room → rewrite.judged z n room ≡ Ok n
unfolding rewrite.judged
bytes_of_lem (Ok None) n room accepts h = room_enough n room h
bytes_of_lem (Ok (Some a)) n room accepts h = room_enough n room h
bytes_of_lem (Err r) n room accepts h = absurd (accepts r refl)

-- ---- the third sentence

module _ (rule : Rule) (s : List ℕ) (p : ℕ) (c : Accepted s p) (tile : ℕ) (es : List TilePartEntry) (all : All (OfTile s tile) es) (out : List ℕ)
    (m : Assembles rule s tile es out) where
  answered : assembly_answer rule (decode_header_of s) (rows_of es) s (length out) ≡ Ok (length (assembled_of rule s es))
  unfolding assembly_answer answer_for
  answered =
      ap (λ (rs : List TilePartEntry). answer_for rule (decode_header_of s) (parts_in s rs) (length out)) (records_back s tile c.bytes (judged_read s c.info c.header).short all)
      ∙ bytes_of_lem (size_for rule (decode_header_of s) (parts_in s es)) (length (assembled_of rule s es)) (length out)
      (λ r e. m.accepts r (sym (size_is s tile rule (decode_header_of s) all m.long m.some) ∙ e))
      m.room

  written_out : assembly_out rule (decode_header_of s) (rows_of es) s out ≡ assembled_of rule s es ++ drop (length (assembled_of rule s es)) out
  unfolding assembly_out over
  written_out =
      ap₂ (λ (w : Result ℕ Refusal) (rs : List TilePartEntry). over w (assembled_of rule s rs) out) answered
      (records_back s tile c.bytes (judged_read s c.info c.header).short all)

  whole : assembled_of rule s es ≡ rewritten rule (decode_header_of s) tile ++ rest_of s es
  whole = assembled_whole s tile rule (decode_header_of s) all m.long m.some

  siz : be 2 s 2 ≡ SIZ
  siz = (opens_with s c.info c.header).1

  walked : Rewalked s (caps_from s 2) (assembled_of rule s es) (length (decode_header_of s))
  unfolding rewritten
  walked =
      let begins = rest_begins s tile all m.long m.some in
      rw whole
      (rewalked s c.bytes (rest_of s es) begins.0 begins.1 siz (omega (arith, m.siz)) (tile_size rule (decode_header_of s) tile)
      (judged_read s c.info c.header).ends)

  standing : Standing (rewritten rule (decode_header_of s) tile) es (assembled_of rule s es)
  standing =
      let head : List ℕ = rewritten rule (decode_header_of s) tile in
      let soc : be 2 s 0 ≡ SOC = (opens_with s c.info c.header).0 in
      let accepted = accepted_at s (caps_from s 2) (assembled_of rule s es) (length (decode_header_of s)) soc siz m.short walked in
      let scanned = rescan s tile all m.long m.sized head in
      record {
        front = rw whole (take_at head (rest_of s es) (length head) refl);
        info = accepted.0;
        walk = accepted.1;
        numbered = λ n. accepted.3 n ∙ accepted.1;
        first = accepted.2 ∙ sym (length_rewritten rule (decode_header_of s) tile);
        scan = rw whole (scans_table es scanned);
        entries = rw whole scanned.entries;
      }

  reassembled : Reassembled rule s tile es out
  reassembled =
      record {
        answer = answered;
        output = written_out;
        standing = standing;
        newer = λ n h accepted. newer_same s (assembled_of rule s es) n h standing.info walked.rsiz walked.stops.same (standing.numbered n) accepted;
      }

-- ---- all of it

pub demand_3 : (s : List ℕ) (p : ℕ) → Accepted s p → Demand3 s p
demand_3 s p c =
    record {
      adjoin = scan_adjoins s p;
      split = λ tile long. split_joined s p tile long;
      assembly = λ rule tile out m. reassembled rule s p c tile (of_tile tile (entries_from s p)) (entries_of_tile s p tile) out m;
    }
