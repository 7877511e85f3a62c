-- A tile's numbers stay where its tile-parts are joined and where they are assembled: so the tile-parts of a tile stand in order in the codestream that is
-- assembled of them, under index 0, exactly where they stood in order.
use Prim.Native.Nat.{ℕ, ◌+◌}
use native.Mathlib.Omega.{arith}
use mathlib.Core.Path.{◌≡◌, refl, sym, ap, ap₂, ◌∙◌}
use mathlib.Core.Logic.{⊎_elim}
use mathlib.Core.List.{List, [], ◌∷◌, ◌++◌, map, append_assoc, append-nil}
use lib.ListN.{length, length-append}
use borrow.Author.Tests.{eq-eqb}
use Rattle.std.specs.Prelude.{Some, Ok}
use Rattle.numbers.specs.Bytes.{bytes_of}
use Rattle.types.specs.Markers.{EOC}
use Rattle.types.specs.declared.PartNumbers.{PartNumbers}
use Rattle.types.specs.declared.PartNumbers.TheVariants.{Known}
use Rattle.types.specs.declared.TilePartEntry.{TilePartEntry}
use Rattle.types.proofs.RowReading.{All}
use Rattle.types.proofs.RowReading as all
use Rattle.parts.specs.Sot.{tpsot, tnsot}
use Rattle.parts.specs.Scan.{scan_step_at, entries_from}
use Rattle.parts.specs.Split.{parts_of}
use Rattle.parts.specs.Tiles.{of_tile, bytes_at, AllLong}
use Rattle.parts.specs.Order.{numbers_of, in_order}
use Rattle.parts.proofs.Iso.{eoc_ends}
use Rattle.parts.proofs.ScanLaws.{step_outside, entries_part, entries_ended}
use Rattle.parts.proofs.OrderAnswers.{numbers_decide}
use Rattle.parts.proofs.TilesJoined.{Parts, more, tile_parts, split_joined}
use Rattle.parts.specs.Tiles as parts
use Rattle.tile.specs.Assembly.{parts_in, patched, joined, assembled, size_for}
use Rattle.tile.specs.Rewrite.{cut_to}
use Rattle.tile.specs.declared.rules.Rule.{Rule}
use Rattle.tile.proofs.AssemblyLaws.{for_room, assembled_is}
use Rattle.tile.proofs.RewriteHeader.{length_cut}
use Rattle.laws.proofs.Demand3Entries.{OfTile, entries_of_tile, parts_in_lem}
use Rattle.laws.proofs.Demand3Rescanned.{part_numbers, patched_long, step_there, step_last}

abbrev numbers : List TilePartEntry → List PartNumbers
numbers es = map (λ (e : TilePartEntry). e.numbers) es

-- ---- joined

-- the numbers in a part's own SOT
abbrev pub numbers_in : List ℕ → PartNumbers
numbers_in part = Known (tpsot part 0) (tnsot part 0)

each_part : (s : List ℕ) (tile : ℕ) {es : List TilePartEntry} → All (OfTile s tile) es → AllLong es → map numbers_in (map (bytes_at s) es) ≡ numbers es
unfolding AllLong
each_part s tile all.none long = refl
each_part s tile (all.more {e = e} o rest) long =
    ap₂ (λ (p : PartNumbers) (ps : List PartNumbers). p ∷ ps) (part_numbers s tile e o long.0) (each_part s tile rest long.1)

pub joined_numbers : (s : List ℕ) (p tile : ℕ) → AllLong (of_tile tile (entries_from s p))
    → map numbers_in (parts_of (parts.joined s (of_tile tile (entries_from s p)))) ≡ numbers_of tile (entries_from s p)
unfolding numbers_of
joined_numbers s p tile long = ap (map numbers_in) (split_joined s p tile long) ∙ each_part s tile (entries_of_tile s p tile) long

-- ---- assembled

one_more : (a : List ℕ) (at : ℕ) (e : TilePartEntry) → e.tile_index ≡ 0 → scan_step_at a at ≡ Ok (Some e)
    → numbers_of 0 (entries_from a at) ≡ e.numbers ∷ numbers_of 0 (entries_from a (at + e.length))
unfolding numbers_of of_tile
one_more a at e z found = ap (numbers_of 0) (entries_part a at e found) ∙ rw (eq-eqb _ _ z)

rescanned : (s : List ℕ) (tile : ℕ) {es : List TilePartEntry} → All (OfTile s tile) es → Parts s es → AllLong es → (front : List ℕ)
    → numbers_of 0 (entries_from (front ++ (joined (map (bytes_at s) es) ++ bytes_of 2 EOC)) (length front)) ≡ numbers es
unfolding AllLong joined numbers_of of_tile
rescanned s tile all.none ends long front = ap (λ (es : List TilePartEntry). numbers_of 0 es) (entries_ended _ _ (rw append-nil at (eoc_ends front [])))
rescanned s tile (all.more {e = e} {rest = rest} o others) (more stands ends later) long front =
    let part : List ℕ = patched (bytes_at s e) in
    let y : List ℕ = joined (map (bytes_at s) rest) ++ bytes_of 2 EOC in
    let a : List ℕ = front ++ (part ++ y) in
    let size : length part ≡ e.length = patched_long s tile e o long.0 in
    let next : length (front ++ part) ≡ length front + e.length = simp length-append (omega arith) in
    let whole : length a ≡ length front + (e.length + length y) = simp length-append (omega arith) in
    let after = rescanned s tile others later long.1 (front ++ part) in
    rw (append_assoc part (joined (map (bytes_at s) rest)) (bytes_of 2 EOC))
    (⊎_elim
    (λ l. one_more a (length front) _ refl (step_there s tile e o long.0 front y (λ z. omega (arith, l, z, stands.some)))
    ∙ ap (λ (ks : List PartNumbers). e.numbers ∷ ks) (rw (next, append_assoc front part y) at after))
    (λ z. one_more a (length front) _ refl (step_last s tile e o long.0 front y z.0)
    ∙ ap (λ (es : List TilePartEntry). e.numbers ∷ numbers_of 0 es) (entries_ended a _ (step_outside a _ (omega arith)))
    ∙ ap (λ (es : List TilePartEntry). e.numbers ∷ numbers es) (sym z.1))
    ends)

-- For any tile whose entries are all 12 bytes or longer, with any header.
pub assembled_in_order : (rule : Rule) (h s : List ℕ) (p tile : ℕ) → AllLong (of_tile tile (entries_from s p))
    → in_order 0 (entries_from (assembled rule h (parts_in s (of_tile tile (entries_from s p)))) (length h)) ≡ in_order tile (entries_from s p)
unfolding numbers_of
assembled_in_order rule h s p tile long =
    let es : List TilePartEntry = of_tile tile (entries_from s p) in
    let head : List ℕ = cut_to (size_for rule h (parts_in s es)) h in
    let size : length head ≡ length h = length_cut (size_for rule h (parts_in s es)) h (for_room rule h (parts_in s es)) in
    let of_tile_lem = entries_of_tile s p tile in
    let whole : assembled rule h (parts_in s es) ≡ head ++ (joined (map (bytes_at s) es) ++ bytes_of 2 EOC) =
    assembled_is rule h (parts_in s es) ∙ ap (λ (ps : List (List ℕ)). head ++ (joined ps ++ bytes_of 2 EOC)) (parts_in_lem s tile of_tile_lem) in
    let same : numbers_of 0 (entries_from (assembled rule h (parts_in s es)) (length h)) ≡ numbers es =
    ap₂ (λ (a : List ℕ) (n : ℕ). numbers_of 0 (entries_from a n)) whole (sym size) ∙ rescanned s tile of_tile_lem (tile_parts s p tile) long head in
    numbers_decide 0 tile _ (entries_from s p) same
