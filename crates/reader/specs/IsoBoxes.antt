-- The boxes of a file as ISO/IEC 15444-1 has them (I.4, I.5): a file is a list of boxes, and a superbox's content is a list of boxes. Its bytes, and all its boxes in file order.
-- That our listing gives such a tree back is proved in proofs/IsoBoxes.antt, and that it gives nothing else in proofs/IsoBoxesRead.antt.
use Rattle.std.specs.Prelude.{ℕ, ◌+◌, ◌^◌, ◌≤◌, ◌<◌, true, false, List, [], ◌∷◌, ◌++◌, ◌≡◌, length}
use Rattle.reader.specs.Iso.{Form, plain, extended, last, IsoBox, header_size, box_bytes, Stands}
use Rattle.reader.specs.BoxStep.{deepest, opens}
use Rattle.reader.specs.declared.box_row.BoxEntry.{BoxEntry}

-- a list of boxes: its first box, with its content or with the list that it holds, and the rest of the list
pub data Tree : Type 0 where
  none : Tree
  leaf : IsoBox → Tree → Tree
  node : Form → ℕ → Tree → Tree → Tree

abbrev pub holding : Form → ℕ → List ℕ → IsoBox
holding form TBox content = record { form = form; TBox = TBox; DBox = content }

-- one box after the other
unfoldable pub tree_bytes : Tree → List ℕ
unfolding box_bytes
tree_bytes none = []
tree_bytes (leaf b rest) = box_bytes b ++ tree_bytes rest
tree_bytes (node form TBox held rest) = box_bytes (holding form TBox (tree_bytes held)) ++ tree_bytes rest

abbrev pub entry_for : ℕ → ℕ → IsoBox → BoxEntry
entry_for depth at b =
    record { depth = depth; kind = b.TBox; start = record { 0 = at }; content = record { 0 = at + header_size b.form }; length = length b.DBox }

-- every box, for a list at a depth that starts at a position: each before what it holds
unfoldable pub tree_entries : ℕ → ℕ → Tree → List BoxEntry
unfolding header_size box_bytes tree_bytes
tree_entries depth at none = []
tree_entries depth at (leaf b rest) = entry_for depth at b ∷ tree_entries depth (at + length (box_bytes b)) rest
tree_entries depth at (node form TBox held rest) =
    entry_for depth at (holding form TBox (tree_bytes held))
    ∷ (tree_entries (depth + 1) (at + header_size form) held ++ tree_entries depth (at + length (box_bytes (holding form TBox (tree_bytes held)))) rest)

-- What the standard asks: a type of 4 bytes; a length that its field holds; length 0 for a box that reaches to the end of the file, so nothing follows it, and what holds it reaches there
-- too, as the file does. The superboxes of the standard hold lists, and no others do.
unfoldable pub Ends : Form → Form → Type 0
Ends within plain = Unit {0}
Ends within extended = Unit {0}
Ends within last = within ≡ last

unfoldable pub StandsIn : Form → IsoBox → List ℕ → Type 0
unfolding Stands Ends
StandsIn within b rest = (b.TBox < 2 ^ 32) × Stands b.form (length b.DBox) rest × Ends within b.form

unfoldable pub IsoTree : Form → Tree → Type 0
unfolding StandsIn tree_bytes opens
IsoTree within none = Unit {0}
IsoTree within (leaf b rest) = (opens b.TBox ≡ false) × StandsIn within b (tree_bytes rest) × IsoTree within rest
IsoTree within (node form TBox held rest) =
    (opens TBox ≡ true) × StandsIn within (holding form TBox (tree_bytes held)) (tree_bytes rest) × IsoTree form held × IsoTree within rest

-- a file of boxes
abbrev pub IsoFile : Tree → Type 0
IsoFile t = IsoTree last t

-- What our listing asks beside: boxes lie at depth 8 at most, and length 0 stands only at the top.
unfoldable pub TopEnds : ℕ → Form → Type 0
TopEnds depth plain = Unit {0}
TopEnds depth extended = Unit {0}
TopEnds depth last = depth ≡ 1

unfoldable pub Listable : ℕ → Tree → Type 0
unfolding TopEnds
Listable depth none = Unit {0}
Listable depth (leaf b rest) = (depth ≤ deepest) × TopEnds depth b.form × Listable depth rest
Listable depth (node form TBox held rest) = (depth ≤ deepest) × TopEnds depth form × Listable (depth + 1) held × Listable depth rest

-- some boxes of a file, read back as such a tree: its bytes are the file's, and its boxes are these
pub record ReadBack (s : List ℕ) (es : List BoxEntry) : Type 0 where
  pub tree : Tree
  pub standard : IsoFile tree
  pub listable : Listable 1 tree
  pub bytes : tree_bytes tree ≡ s
  pub entries : tree_entries 1 0 tree ≡ es
