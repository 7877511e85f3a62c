-- The listing loses nothing: the boxes that it lists, as a tree of the standard's boxes, have the file's bytes. Each box's rows and content stand in the file where it was listed, and
-- the boxes of a list fill its part of the file.
use Prim.Native.Nat.{ℕ, ◌+◌, ◌≤◌, ◌<◌}
use native.Mathlib.Omega.{arith}
use mathlib.Core.Path.{◌≡◌, refl, sym, ap, ap₂, ◌∙◌}
use mathlib.Core.Bool.{true, false}
use mathlib.Core.List.{List, [], ◌∷◌, ◌++◌, append_assoc, append-nil}
use lib.ListN.{length, get_or, take, drop, length-append, length-take}
use lib.Seq.{take-length, take-add, length-take-le}
use Rattle.numbers.specs.Rows.{bytes_of_rows}
use Rattle.numbers.proofs.BytesLaws.{be_bound}
use Rattle.numbers.proofs.Rows.{RowsAt, bytes_rows}
use Rattle.numbers.proofs.Choice.{by_bool}
use Rattle.reader.specs.Iso.{Form, plain, extended, last, IsoBox, box_rows, header_size, box_bytes, Stands}
use Rattle.reader.specs.BoxRow.{end_of}
use Rattle.reader.specs.BoxStep.{opens}
use Rattle.reader.specs.Boxes.{boxes, boxes_of}
use Rattle.reader.specs.BoxTree.{Fills}
use Rattle.reader.specs.IsoBoxes.{Tree, leaf, node, holding, tree_bytes, entry_for, tree_entries, Ends, StandsIn, IsoTree, TopEnds, Listable, ReadBack}
use Rattle.reader.specs.declared.box_row.BoxEntry.{BoxEntry}
use Rattle.reader.proofs.BoxesFilled.{file_filled}
use Rattle.reader.proofs.BoxesOwn.{ToEnd, Headed, AllHeaded, all_parts, all_headed}
use Rattle.reader.proofs.Iso.{header_size_lem, length_box}

-- a list of the standard's boxes from a position of the file to another; below the top none of them reaches to the end of the file
record Part (s : List ℕ) (depth at to : ℕ) (es : List BoxEntry) : Type 0 where
  tree : Tree
  standard : (within : Form) → (depth ≤ 1 → within ≡ last) → IsoTree within tree
  listable : Listable depth tree
  bytes : take to s ≡ take at s ++ tree_bytes tree
  entries : tree_entries depth at tree ≡ es

none_part : (s : List ℕ) (depth at to : ℕ) → at ≡ to → Part s depth at to []
unfolding IsoTree Listable tree_bytes tree_entries
none_part s depth at to e = record { tree = Tree.none; standard = λ _ _. tt; listable = tt; bytes = rw (append-nil, e); entries = refl }

module _ (s : List ℕ) (bytes : (i : ℕ) → get_or s i 0 < 256) where
  module _ (depth at : ℕ) (e : BoxEntry) (level : e.depth ≡ depth) (begins : e.start.0 ≡ at) (h : Headed s e) where
    -- ---- a listed box, with its content

    abbrev box : List ℕ → IsoBox
    box d = holding h.form e.kind d

    begin : at + header_size h.form ≡ e.content.0
    begin = omega arith

    header : take e.content.0 s ≡ take at s ++ bytes_of_rows (box_rows h.form e.kind e.length)
    header =
        let wide = header_size_lem h.form e.kind e.length in
        let rows = bytes_rows s e.start.0 _ bytes h.rows (omega arith) in
        rw (h.content, ← begins, rows, wide) (take-add e.start.0 (header_size h.form) s)

    module _ (d : List ℕ) (is : take (end_of e) s ≡ take e.content.0 s ++ d) where
      long : length d ≡ e.length
      long = omega (arith, length-append (take e.content.0 s) d, ap length is, length-take-le (end_of e) s h.inside, length-take-le e.content.0 s (omega arith))

      box_entry : entry_for depth at (box d) ≡ e
      box_entry = λ i. record { depth = sym level i; kind = e.kind; start = record { 0 = sym begins i }; content = record { 0 = begin i }; length = long i }

      box_end : at + length (box_bytes (box d)) ≡ end_of e
      box_end = omega (arith, length_box (box d), long)

      module _ (to : ℕ) (rest : List ℕ) (follows : take to s ≡ take (end_of e) s ++ rest) where
        box_bytes_lem : take to s ≡ take at s ++ (box_bytes (box d) ++ rest)
        unfolding box_bytes
        box_bytes_lem = rw (follows, is, header, long) (simp append_assoc)

        module _ (within : Form) (top : depth ≤ 1 → within ≡ last) where
          rows_stand : (form : Form) → RowsAt s e.start.0 (box_rows form e.kind e.length) → ToEnd s e form → StandsIn within (holding form e.kind d) rest
          unfolding RowsAt box_rows ToEnd StandsIn Stands Ends
          rows_stand plain r t = (omega (arith, be_bound 4 s (e.start.0 + 4) bytes), omega (arith, long, be_bound 4 s e.start.0 bytes), tt)
          rows_stand extended r t = (omega (arith, be_bound 4 s (e.start.0 + 4) bytes), omega (arith, long, be_bound 8 s (e.start.0 + 4 + 4) bytes), tt)
          rows_stand last r t =
              let none_left : length rest ≤ 0 = omega (arith, ap length follows, length-append (take (end_of e) s) rest, length-take to s, length-take (end_of e) s) in
              (omega (arith, be_bound 4 s (e.start.0 + 4) bytes), none_left, top (omega arith))

          box_stands : StandsIn within (box d) rest
          box_stands = rows_stand h.form h.rows h.to_end

    -- ---- the list that starts with it

    module _ (below : 1 ≤ depth) (deep : depth ≤ 8) {to : ℕ} {rest : List BoxEntry} (r : Part s depth (end_of e) to rest) where
      top_ends : (form : Form) → ToEnd s e form → TopEnds depth form
      unfolding ToEnd TopEnds
      top_ends plain t = tt
      top_ends extended t = tt
      top_ends last t = omega arith

      leaf_part : opens e.kind ≡ false → Part s depth at to (e ∷ rest)
      unfolding IsoTree Listable tree_bytes tree_entries
      leaf_part o =
          let d : List ℕ = take e.length (drop e.content.0 s) in
          let is : take (end_of e) s ≡ take e.content.0 s ++ d = take-add e.content.0 e.length s in
          record {
            tree = leaf (box d) r.tree;
            standard = λ within top. (o, box_stands d is to _ r.bytes within top, r.standard within top);
            listable = (deep, top_ends h.form h.to_end, r.listable);
            bytes = box_bytes_lem d is to _ r.bytes;
            entries = ap₂ ◌∷◌ (box_entry d is) (ap (λ (n : ℕ). tree_entries depth n r.tree) (box_end d is) ∙ r.entries);
          }

      node_part : {held : List BoxEntry} → opens e.kind ≡ true → Part s (depth + 1) e.content.0 (end_of e) held → Part s depth at to (e ∷ (held ++ rest))
      unfolding IsoTree Listable tree_bytes tree_entries
      node_part o p =
          let d : List ℕ = tree_bytes p.tree in
          let inner = ap (λ (n : ℕ). tree_entries (depth + 1) n p.tree) begin ∙ p.entries in
          let outer = ap (λ (n : ℕ). tree_entries depth n r.tree) (box_end d p.bytes) ∙ r.entries in
          record {
            tree = node h.form e.kind p.tree r.tree;
            standard = λ within top. (o, box_stands d p.bytes to _ r.bytes within top, p.standard h.form (λ t. absurd (omega arith)), r.standard within top);
            listable = (deep, top_ends h.form h.to_end, p.listable, r.listable);
            bytes = box_bytes_lem d p.bytes to _ r.bytes;
            entries = ap₂ ◌∷◌ (box_entry d p.bytes) (ap₂ ◌++◌ inner outer);
          }

  -- a list that fills its part of the file; a superbox that was not opened holds none
  part : {depth at to : ℕ} {es : List BoxEntry} → Fills depth at to es → 1 ≤ depth → depth ≤ 8 → AllHeaded s es → Part s depth at to es
  unfolding AllHeaded
  part {depth} Fills.none below deep a = none_part s depth _ _ refl
  part {depth} {at} (Fills.plain {e = e} level begins ahead empty more) below deep a =
      let rest = part more below deep a.1 in
      by_bool (opens e.kind)
      (λ o. node_part depth at e level begins a.0 below deep rest o (none_part s (depth + 1) e.content.0 (end_of e) (omega (arith, empty o))))
      (λ o. leaf_part depth at e level begins a.0 below deep rest o)
  part {depth} {at} (Fills.superbox {e = e} {held = held} {rest = rest} level begins ahead o room inner more) below deep a =
      let b = all_parts s held rest a.1 in
      node_part depth at e level begins a.0 below deep (part more below deep b.1) o (part inner (omega arith) (omega arith) b.0)

-- ---- the file

-- An accepted file of bytes is a tree of the standard's boxes to depth 8, whose boxes are those that were listed.
pub read_back : (s : List ℕ) (es : List BoxEntry) → ((i : ℕ) → get_or s i 0 < 256) → boxes_of s ≡ boxes es → ReadBack s es
read_back s es bytes e =
    let p : Part s 1 0 (length s) es = part s bytes (file_filled s es e) (omega arith) (omega arith) (all_headed s es e) in
    record { tree = p.tree; standard = p.standard last (λ _. refl); listable = p.listable; bytes = sym p.bytes ∙ take-length s; entries = p.entries }
