-- Where our reading and the standard's account agree: a box, a JP2 file up to its codestream, and a SIZ directly after SOC.
use Prim.Native.Nat.{ℕ, ◌+◌, ◌-◌, ◌%◌, ◌^◌, ◌≤◌, ◌<◌, min}
use native.Mathlib.Omega.{arith}
use mathlib.Core.Path.{◌≡◌, refl, sym, ap, ap₂, ◌∙◌}
use mathlib.Core.Bool.{Bool, true, false, cond}
use mathlib.Core.List.{List, [], ◌∷◌, ◌++◌, append_assoc}
use lib.ListN.{length, length-append}
use lib.Seq.{take_at, drop_at}
use lib.Dec.{leb}
use borrow.Author.Tests.{le-leb, lt-leb}
use Rattle.std.specs.Prelude.{Ok}
use Rattle.numbers.specs.Bytes.{be, bytes_of}
use Rattle.numbers.specs.Rows.{row, bytes_of_rows, widths}
use Rattle.numbers.proofs.BytesLaws.{be_rest}
use Rattle.numbers.proofs.Rows.{length_rows, be_row, be_behind}
use Rattle.types.specs.Siz.{ssiz}
use Rattle.types.specs.IsoSiz.{Size, Csiz, siz_rows, Ranges}
use Rattle.types.proofs.IsoSiz.{Fields, fields_standard}
use Rattle.chain.specs.Chain.{on}
use Rattle.reader.proofs.SizLaws.{siz_info, move_siz, read_end_lem}
use Rattle.reader.proofs.SearchLaws.{box_extended, box_to_end, box_plain, content_part, passed_on, move_jp2c, move_past, found_end, found_on, found_jp2, content_found}
use Rattle.reader.specs.Siz.{info_at, siz_read}
use Rattle.reader.specs.Search.{JP2C, box_at, codestream, move_at, is_jp2, found_from, found_in, content_of}
use Rattle.reader.specs.Iso.{Form, plain, extended, last, IsoBox, box_rows, header_size, box_bytes, Stands, boxes_bytes, signature, jp2_file, Others}
use Rattle.reader.specs.declared.search.BoxHeader.{BoxHeader}

-- ---- a box

pub header_size_lem : (form : Form) (T n : ℕ) → widths (box_rows form T n) ≡ header_size form
unfolding widths box_rows header_size
header_size_lem plain T n = refl
header_size_lem extended T n = refl
header_size_lem last T n = refl

pub length_box : (b : IsoBox) → length (box_bytes b) ≡ header_size b.form + length b.DBox
unfolding box_bytes
length_box b = rw (length-append, length_rows, header_size_lem)

-- a box's rows with its content, and more, behind them
Behind : Form → ℕ → ℕ → Type 0
Behind plain n after = (n ≤ after) × (8 + n < 2 ^ 32)
Behind extended n after = (n ≤ after) × (16 + n < 2 ^ 64)
Behind last n after = after ≡ n

rows_long : (front : List ℕ) (form : Form) (T n : ℕ) (tail : List ℕ)
    → length (front ++ (bytes_of_rows (box_rows form T n) ++ tail)) ≡ length front + (header_size form + length tail)
rows_long front form T n tail = rw (length-append, length-append, length_rows, header_size_lem)

-- what LBox holds
unfoldable pub LBox : Form → ℕ → ℕ
LBox plain n = 8 + n
LBox extended n = 1
LBox last n = 0

rows_LBox : (front : List ℕ) (form : Form) (T n : ℕ) (tail : List ℕ) → Behind form n (length tail)
    → be 4 (front ++ (bytes_of_rows (box_rows form T n) ++ tail)) (length front) ≡ LBox form n
unfolding box_rows Behind widths LBox
rows_LBox front plain T n tail h = be_behind 4 front _ ∙ be_row [] 4 (8 + n) (row 4 T ∷ []) tail h.1
rows_LBox front extended T n tail h = be_behind 4 front _ ∙ be_row [] 4 1 (row 4 T ∷ row 8 (16 + n) ∷ []) tail (omega arith)
rows_LBox front last T n tail h = be_behind 4 front _ ∙ be_row [] 4 0 (row 4 T ∷ []) tail (omega arith)

rows_read : (front : List ℕ) (form : Form) (T n : ℕ) (tail : List ℕ) → T < 2 ^ 32 → Behind form n (length tail)
    → box_at (front ++ (bytes_of_rows (box_rows form T n) ++ tail)) (length front)
    ≡ Ok (record { kind = T; header = header_size form; length = header_size form + n })
unfolding box_rows header_size Behind widths LBox
rows_read front plain T n tail t h =
    let s : List ℕ = front ++ (bytes_of_rows (box_rows plain T n) ++ tail) in
    let l : be 4 s (length front) ≡ 8 + n = rows_LBox front plain T n tail h in
    let k : be 4 s (length front + 4) ≡ T = be_rest 4 front _ 4 ∙ be_row (row 4 (8 + n) ∷ []) 4 T [] tail t in
    let long : length s ≡ length front + (8 + length tail) = rows_long front plain T n tail in
    box_plain s (length front) (omega arith) (λ e. omega arith) (λ e. omega arith) ∙ (λ i. Ok (record { kind = k i; header = 8; length = l i }))
rows_read front extended T n tail t h =
    let s : List ℕ = front ++ (bytes_of_rows (box_rows extended T n) ++ tail) in
    let l : be 4 s (length front) ≡ 1 = rows_LBox front extended T n tail h in
    let k : be 4 s (length front + 4) ≡ T = be_rest 4 front _ 4 ∙ be_row (row 4 1 ∷ []) 4 T (row 8 (16 + n) ∷ []) tail t in
    let x : be 8 s (length front + 8) ≡ 16 + n = be_rest 8 front _ 8 ∙ be_row (row 4 1 ∷ row 4 T ∷ []) 8 (16 + n) [] tail h.1 in
    let long : length s ≡ length front + (16 + length tail) = rows_long front extended T n tail in
    box_extended s (length front) (omega arith) l (omega arith) ∙ (λ i. Ok (record { kind = k i; header = 16; length = x i }))
rows_read front last T n tail t h =
    let s : List ℕ = front ++ (bytes_of_rows (box_rows last T n) ++ tail) in
    let l : be 4 s (length front) ≡ 0 = rows_LBox front last T n tail h in
    let k : be 4 s (length front + 4) ≡ T = be_rest 4 front _ 4 ∙ be_row (row 4 0 ∷ []) 4 T [] tail t in
    let long : length s ≡ length front + (8 + length tail) = rows_long front last T n tail in
    let left : length s - length front ≡ 8 + n = omega arith in
    box_to_end s (length front) (omega arith) l ∙ (λ i. Ok (record { kind = k i; header = 8; length = left i }))

behind : (form : Form) (d rest : List ℕ) → Stands form (length d) rest → Behind form (length d) (length (d ++ rest))
unfolding Stands Behind
behind plain d rest h = (rw length-append (omega arith), h)
behind extended d rest h = (rw length-append (omega arith), h)
behind last d rest h = rw length-append (omega arith)

-- A box by the standard, anywhere in a file, is read as one of its type, header and length.
pub box_iso : (front : List ℕ) (b : IsoBox) (rest : List ℕ) → b.TBox < 2 ^ 32 → Stands b.form (length b.DBox) rest
    → box_at (front ++ (box_bytes b ++ rest)) (length front)
    ≡ Ok (record { kind = b.TBox; header = header_size b.form; length = length (box_bytes b) })
unfolding box_bytes
box_iso front b rest t h =
    let n : ℕ = length b.DBox in
    rw (length_box b, append_assoc (bytes_of_rows (box_rows b.form b.TBox n)) b.DBox rest)
    (rows_read front b.form b.TBox n (b.DBox ++ rest) t (behind b.form b.DBox rest h))

-- Its LBox.
pub LBox-iso : (front : List ℕ) (b : IsoBox) (rest : List ℕ) → Stands b.form (length b.DBox) rest
    → be 4 (front ++ (box_bytes b ++ rest)) (length front) ≡ LBox b.form (length b.DBox)
unfolding box_bytes
LBox-iso front b rest h =
    let n : ℕ = length b.DBox in
    rw (append_assoc (bytes_of_rows (box_rows b.form b.TBox n)) b.DBox rest)
    (rows_LBox front b.form b.TBox n (b.DBox ++ rest) (behind b.form b.DBox rest h))

-- ---- a JP2 file

-- from a box on: the boxes of other types are passed, and the content of the jp2c box is found
chain_iso : (front : List ℕ) (boxes : List IsoBox) (c : IsoBox) (rest : List ℕ) → Others boxes (box_bytes c ++ rest)
    → c.TBox ≡ JP2C → Stands c.form (length c.DBox) rest
    → length (front ++ (boxes_bytes boxes ++ (box_bytes c ++ rest))) < 2 ^ 64
    → found_from (front ++ (boxes_bytes boxes ++ (box_bytes c ++ rest))) (length front)
    ≡ Ok (codestream (record { 0 = length front + (length (boxes_bytes boxes) + header_size c.form) }) (length c.DBox))
unfolding Others boxes_bytes
chain_iso front [] c rest o k h small =
    let s : List ℕ = front ++ (box_bytes c ++ rest) in
    let b : BoxHeader = record { kind = c.TBox; header = header_size c.form; length = length (box_bytes c) } in
    let whole : length s ≡ length front + (length (box_bytes c) + length rest) = simp length-append in
    let own : length (box_bytes c) ≡ header_size c.form + length c.DBox = length_box c in
    let from : length front + header_size c.form ≡ length front + (0 + header_size c.form) = omega arith in
    let size : min (length front + length (box_bytes c)) (length s) - (length front + header_size c.form) ≡ length c.DBox = omega arith in
    found_end s (length front) _ (move_jp2c s (length front) b (box_iso front c rest (omega arith) h) k)
    ∙ content_part (length front) b (length s) (omega arith) (omega arith)
    ∙ (λ i. Ok (codestream (record { 0 = from i }) (size i)))
chain_iso front (b ∷ more) c rest o k h small =
    let after : List ℕ = boxes_bytes more ++ (box_bytes c ++ rest) in
    let s : List ℕ = front ++ (box_bytes b ++ after) in
    let head : BoxHeader = record { kind = b.TBox; header = header_size b.form; length = length (box_bytes b) } in
    let flat : front ++ ((box_bytes b ++ boxes_bytes more) ++ (box_bytes c ++ rest)) ≡ s = rw append_assoc in
    let whole : length s ≡ length front + (length (box_bytes b) + length after) = rw (length-append front (box_bytes b ++ after), length-append (box_bytes b) after) in
    let fits : length s < 2 ^ 64 = rw flat at small in
    let own : length (box_bytes b) ≡ header_size b.form + length b.DBox = length_box b in
    let pass : move_at s (length front) ≡ on (length front + length (box_bytes b)) =
    move_past s (length front) head (box_iso front b after o.0 o.1.1.0) o.1.0 ∙ passed_on (length front) head (omega arith) (omega arith) in
    let next : s ≡ (front ++ box_bytes b) ++ after = sym (append_assoc front (box_bytes b) after) in
    let from : length (front ++ box_bytes b) + (length (boxes_bytes more) + header_size c.form)
    ≡ length front + (length (box_bytes b ++ boxes_bytes more) + header_size c.form) = omega (arith, length-append front (box_bytes b), length-append (box_bytes b) (boxes_bytes more)) in
    ap (λ (l : List ℕ). found_from l (length front)) flat
    ∙ found_on s (length front) (length front + length (box_bytes b)) pass
    ∙ ap₂ found_from next (sym (length-append front (box_bytes b)))
    ∙ chain_iso (front ++ box_bytes b) more c rest o.1.1.1 k h (rw next at fits)
    ∙ (λ i. Ok (codestream (record { 0 = from i }) (length c.DBox)))

signed : (boxes : List IsoBox) (c : IsoBox) (rest : List ℕ) → 12 ≤ length (jp2_file boxes c rest) → is_jp2 (jp2_file boxes c rest) ≡ true
unfolding is_jp2 jp2_file boxes_bytes box_bytes signature bytes_of_rows box_rows be bytes_of
signed boxes c rest h = rw (le-leb 12 (length (jp2_file boxes c rest)) h)

twelve : header_size signature.form + length signature.DBox ≡ 12
unfolding header_size signature bytes_of
twelve = refl

length_signature : (boxes : List IsoBox) → length (boxes_bytes (signature ∷ boxes)) ≡ 12 + length (boxes_bytes boxes)
unfolding boxes_bytes
length_signature boxes = length-append (box_bytes signature) (boxes_bytes boxes) ∙ omega (arith, length_box signature, twelve)

-- The search finds the content of the jp2c box.
module _ (boxes : List IsoBox) (c : IsoBox) (rest : List ℕ) (others : Others boxes (box_bytes c ++ rest)) (jp2c : c.TBox ≡ JP2C)
    (stands : Stands c.form (length c.DBox) rest) (small : length (jp2_file boxes c rest) < 2 ^ 64) where
  all_others : Others (signature ∷ boxes) (box_bytes c ++ rest)
  unfolding Others Stands signature bytes_of
  all_others = (omega arith, (λ e. omega arith, (omega arith, others)))

  pub jp2_found : found_in (jp2_file boxes c rest)
      ≡ Ok (codestream (record { 0 = 12 + (length (boxes_bytes boxes) + header_size c.form) }) (length c.DBox))
  unfolding jp2_file
  jp2_found =
      let s : List ℕ = boxes_bytes (signature ∷ boxes) ++ (box_bytes c ++ rest) in
      let front : length (boxes_bytes (signature ∷ boxes)) ≡ 12 + length (boxes_bytes boxes) = length_signature boxes in
      let long : 12 ≤ length s = rw length-append (omega arith) in
      let from : 0 + (length (boxes_bytes (signature ∷ boxes)) + header_size c.form) ≡ 12 + (length (boxes_bytes boxes) + header_size c.form) = omega arith in
      found_jp2 s (omega arith) (signed boxes c rest long)
      ∙ chain_iso [] (signature ∷ boxes) c rest all_others jp2c stands small
      ∙ (λ i. Ok (codestream (record { 0 = from i }) (length c.DBox)))

  pub jp2_content : content_of (jp2_file boxes c rest) ≡ c.DBox
  unfolding jp2_file box_bytes
  jp2_content =
      let front : List ℕ = boxes_bytes (signature ∷ boxes) in
      let rows : List ℕ = bytes_of_rows (box_rows c.form c.TBox (length c.DBox)) in
      let split : front ++ ((rows ++ c.DBox) ++ rest) ≡ (front ++ rows) ++ (c.DBox ++ rest) =
      ap (λ (l : List ℕ). front ++ l) (append_assoc rows c.DBox rest) ∙ sym (append_assoc front rows (c.DBox ++ rest)) in
      let at : length (front ++ rows) ≡ 12 + (length (boxes_bytes boxes) + header_size c.form) =
      length-append front rows ∙ omega (arith, length_signature boxes, length_rows (box_rows c.form c.TBox (length c.DBox)), header_size_lem c.form c.TBox (length c.DBox)) in
      content_found _ _ jp2_found
      ∙ rw (split, drop_at (front ++ rows) (c.DBox ++ rest) _ at) (take_at c.DBox rest (length c.DBox) refl)

-- ---- SIZ

-- Ssiz, taken apart again
pub ssiz_bits : (signed : Bool) (depth : ℕ) → (1 ≤ depth) × (depth ≤ 38) → (cond signed 128 0 + (depth - 1)) % 128 + 1 ≡ depth
ssiz_bits true depth h = omega arith
ssiz_bits false depth h = omega arith

pub ssiz_sign : (signed : Bool) (depth : ℕ) → (1 ≤ depth) × (depth ≤ 38) → leb 128 (cond signed 128 0 + (depth - 1)) ≡ signed
ssiz_sign true depth h = le-leb 128 (128 + (depth - 1)) (omega arith)
ssiz_sign false depth h = lt-leb 128 (0 + (depth - 1)) (omega arith)

-- A SIZ directly after SOC gives the image's width and height, the number of components, and bit depth and sign of the first.
pub siz_iso : (z : Size) (rest : List ℕ) → Ranges z
    → siz_read (bytes_of_rows (siz_rows z) ++ rest)
    ≡ Ok
    (record {
      width = z.Xsiz - z.XOsiz;
      height = z.Ysiz - z.YOsiz;
      num_components = Csiz z;
      bits_per_component = z.first.depth;
      is_signed = z.first.signed;
    })
unfolding siz_read info_at
siz_iso z rest g =
    let s : List ℕ = bytes_of_rows (siz_rows z) ++ rest in
    let f : Fields z s = fields_standard z rest g in
    let bits : ssiz s 2 % 128 + 1 ≡ z.first.depth = ap (λ (b : ℕ). b % 128 + 1) f.Ssiz ∙ ssiz_bits z.first.signed z.first.depth g.depth in
    let sign : leb 128 (ssiz s 2) ≡ z.first.signed = ap (leb 128) f.Ssiz ∙ ssiz_sign z.first.signed z.first.depth g.depth in
    read_end_lem s 2 _ (move_siz s 2 (omega (arith, f.long)) f.marker)
    ∙ siz_info s 2 f.long (omega (arith, f.Xsiz, f.XOsiz)) (omega (arith, f.Ysiz, f.YOsiz))
    ∙ (λ i. Ok (record {
      width = f.Xsiz i - f.XOsiz i;
      height = f.Ysiz i - f.YOsiz i;
      num_components = f.Csiz i;
      bits_per_component = bits i;
      is_signed = sign i;
    }))
