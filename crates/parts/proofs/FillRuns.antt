-- A table filled from four places at once with a scan's first records, a record of each of four runs a turn, in either layout: what is left of each run, put
-- where its next record goes, makes the table that the runs make of the one lent.
use Prim.Native.Nat.{ℕ, suc, ◌+◌, ◌-◌, ◌*◌, ◌/◌, ◌≤◌, ◌<◌}
use native.Mathlib.Nat.{add-zero, add_assoc, mul-add, mul-suc, mul-one, mul-zero, sub-zero, mul_left_comm, mul-le-mul_left, mul-div_cancel_left, lt_of_not-le}
use native.Mathlib.Omega.{arith}
use mathlib.Core.Path.{◌≡◌, refl, sym, ap, ap₂, ◌∙◌}
use mathlib.Core.List.{List, [], ◌∷◌, ◌++◌}
use lib.ListN.{length, take, drop, length-take, length-drop, take-append-drop}
use lib.Seq.{take-add, length-take-le}
use Rattle.numbers.specs.Bytes.{put}
use Rattle.numbers.proofs.BytesLaws.{put_put, length_put}
use Rattle.types.specs.declared.TilePartEntry.{TilePartEntry}
use Rattle.types.specs.Layout.{Layout}
use Rattle.types.proofs.RowStanding.{length_all, length_more, all_append, put_last, Piece, laid, Before, stored_behind}
use Rattle.parts.specs.Sot.{psot}
use Rattle.parts.specs.Scan.{entry_of, entries_from}
use Rattle.parts.proofs.ScanLaws.{Followed, follows}

-- the record that stands here, by another name
heads : {s : List ℕ} {es : List TilePartEntry} {at k : ℕ} {e : TilePartEntry} → e ≡ entry_of s at (psot s at) → Followed s es at k → drop k es ≡ e ∷ drop (k + 1) es
heads {s} {es} {at} {k} is stands = stands.first ∙ ap (λ (x : TilePartEntry). x ∷ drop (k + 1) es) (sym is)

module _ {B : Type 0} {width : ℕ} (L : Layout B width) where
  -- of the records of a run from the k-th on, those that are left after i of its n
  abbrev left : List TilePartEntry → ℕ → ℕ → ℕ → List TilePartEntry
  left es k n i = take (n - i) (drop (k + i) es)

  -- they end where the next run begins
  ends : (es : List TilePartEntry) (k n i : ℕ) → i ≤ n → k + n ≤ length es → width * i + length (L.all (left es k n i)) ≡ width * n
  ends es k n i few all =
      let many : length (left es k n i) ≡ n - i = length-take (n - i) (drop (k + i) es) ∙ omega (arith, length-drop (k + i) es) in
      let sum : i + (n - i) ≡ n = omega arith in
      ap (λ (m : ℕ). width * i + m) (length_all L (left es k n i) ∙ ap (λ (m : ℕ). width * m) many)
      ∙ sym (mul-add width i (n - i))
      ∙ ap (λ (m : ℕ). width * m) sum

  -- the first of them, and the others
  parted : (es : List TilePartEntry) (k n i : ℕ) (e : TilePartEntry) → i < n → drop (k + i) es ≡ e ∷ drop (k + i + 1) es
      → left es k n i ≡ e ∷ left es k n (i + 1)
  parted es k n i e below first =
      let one : n - i ≡ suc (n - (i + 1)) = omega arith in
      ap (λ (m : ℕ). take m (drop (k + i) es)) one
      ∙ ap (take (suc (n - (i + 1)))) first
      ∙ ap (λ (j : ℕ). e ∷ take (n - (i + 1)) (drop j es)) (add_assoc k i 1)

  -- a record stored where a run goes on, behind what is left of the runs before
  ahead : (ps : List (Piece B)) (t : List B) {next : List B} (base row : ℕ) (e : TilePartEntry) (es : List TilePartEntry) → Before ps (base + row)
      → next ≡ put t (base + row) (L.one e) → base + row + length (L.all (e ∷ es)) ≤ length t
      → put (laid ps next) (base + (row + width)) (L.all es) ≡ put (laid ps t) (base + row) (L.all (e ∷ es))
  ahead ps t {next} base row e es before new room =
      ap (λ (at : ℕ). put (laid ps next) at (L.all es)) (sym (add_assoc base row width))
      ∙ stored_behind L ps t (base + row) e es before new room

  kept : (t : List B) {next : List B} (at : ℕ) (e : TilePartEntry) → next ≡ put t at (L.one e) → at + width ≤ length t → length next ≡ length t
  kept t at e new room = ap length new ∙ length_put t at (L.one e) (omega (arith, L.wide e))

  abbrev piece : ℕ → List TilePartEntry → Piece B
  piece at es = record { place = at; items = L.all es }

  -- i records of each run were written
  pub record Spread (s : List ℕ) (start : ℕ) (lent table : List B) (wide first second third fourth row : ℕ) : Type 0 where
    pub n : ℕ
    pub i : ℕ
    pub across : wide ≡ width * n
    pub down : row ≡ width * i
    pub few : i ≤ n
    pub followed : 4 * n ≤ length (entries_from s start) - 1
    pub one : entries_from s first ≡ drop (0 * n + i) (entries_from s start)
    pub two : entries_from s second ≡ drop (1 * n + i) (entries_from s start)
    pub three : entries_from s third ≡ drop (2 * n + i) (entries_from s start)
    pub four : entries_from s fourth ≡ drop (3 * n + i) (entries_from s start)
    pub same : length table ≡ length lent
    pub room : 4 * wide ≤ length lent
    pub whole : laid
        (piece row (left (entries_from s start) (0 * n) n i)
        ∷ piece (wide + row) (left (entries_from s start) (1 * n) n i)
        ∷ piece (2 * wide + row) (left (entries_from s start) (2 * n) n i)
        ∷ piece (3 * wide + row) (left (entries_from s start) (3 * n) n i)
        ∷ [])
        table
        ≡ put lent 0 (L.all (take (4 * n) (entries_from s start)))

  -- records put behind records
  pub joined : (t : List B) (at : ℕ) (xs ys : List TilePartEntry) → at ≡ width * length xs → width * (length xs + length ys) ≤ length t
      → put (put t 0 (L.all xs)) at (L.all ys) ≡ put t 0 (L.all (xs ++ ys))
  joined t at xs ys there room =
      let long = length_all L xs in
      let fits = mul-add width (length xs) (length ys) in
      ap (λ (k : ℕ). put (put t 0 (L.all xs)) k (L.all ys)) (omega (arith, there, long))
      ∙ put_put t 0 (L.all xs) (L.all ys) (length (L.all xs)) refl (omega (arith, long, length_all L ys, fits))
      ∙ ap (put t 0) (sym (all_append L xs ys))

  -- the first k and all that follow them
  pub completed : (t : List B) (at : ℕ) (es : List TilePartEntry) (k : ℕ) → at ≡ width * k → k ≤ length es → width * length es ≤ length t
      → put (put t 0 (L.all (take k es))) at (L.all (drop k es)) ≡ put t 0 (L.all es)
  completed t at es k there few room =
      let a : length (take k es) ≡ k = length-take-le k es few in
      let b : length (take k es) + length (drop k es) ≡ length es = omega (arith, a, length-drop k es) in
      joined t at (take k es) (drop k es) (there ∙ ap (λ (j : ℕ). width * j) (sym a)) (rw b room)
      ∙ ap (λ (l : List TilePartEntry). put t 0 (L.all l)) (take-append-drop k es)

  -- the first k and the m behind them
  grown : (t : List B) (at : ℕ) (es : List TilePartEntry) (k m : ℕ) → at ≡ width * k → k + m ≤ length es → width * length es ≤ length t
      → put (put t 0 (L.all (take k es))) at (L.all (take m (drop k es))) ≡ put t 0 (L.all (take (k + m) es))
  grown t at es k m there few room =
      let a : length (take k es) ≡ k = length-take-le k es (omega arith) in
      let b : length (take m (drop k es)) ≡ m = length-take-le m (drop k es) (omega (arith, length-drop k es)) in
      joined t at (take k es) (take m (drop k es)) (there ∙ ap (λ (j : ℕ). width * j) (sym a)) (rw (a, b) (omega (arith, mul-le-mul_left width few)))
      ∙ ap (λ (l : List TilePartEntry). put t 0 (L.all l)) (sym (take-add k m es))

  -- the four runs, one behind the other
  runs : (t : List B) (es : List TilePartEntry) (n wide : ℕ) → wide ≡ width * n → 4 * n ≤ length es → width * length es ≤ length t
      → put (put (put (put t 0 (L.all (take n es))) wide (L.all (take n (drop n es)))) (2 * wide) (L.all (take n (drop (2 * n) es)))) (3 * wide) (L.all (take n (drop (3 * n) es)))
      ≡ put t 0 (L.all (take (4 * n) es))
  runs t es n wide across all room =
      let two : n + n ≡ 2 * n = omega arith in
      let three : 2 * n + n ≡ 3 * n = omega arith in
      let four : 3 * n + n ≡ 4 * n = omega arith in
      let at : (u : List B) (k m : ℕ) → k ≡ m → put t 0 (L.all (take k es)) ≡ put t 0 (L.all (take m es)) = λ u k m e. ap (λ (j : ℕ). put t 0 (L.all (take j es))) e in
      ap (λ (u : List B). put (put u (2 * wide) (L.all (take n (drop (2 * n) es)))) (3 * wide) (L.all (take n (drop (3 * n) es))))
      (grown t wide es n n across (omega arith) room ∙ at t (n + n) (2 * n) two)
      ∙ ap (λ (u : List B). put u (3 * wide) (L.all (take n (drop (3 * n) es))))
      (grown t (2 * wide) es (2 * n) n (omega (arith, mul_left_comm width 2 n)) (omega arith) room ∙ at t (2 * n + n) (3 * n) three)
      ∙ grown t (3 * wide) es (3 * n) n (omega (arith, mul_left_comm width 3 n)) (omega arith) room
      ∙ at t (3 * n + n) (4 * n) four

  module _ {s : List ℕ} {start : ℕ} {lent : List B} where
    -- none was written yet
    pub none_spread : {wide second third fourth : ℕ} (n : ℕ) → wide ≡ width * n → 4 * n ≤ length (entries_from s start) - 1 → entries_from s second ≡ drop n (entries_from s start)
        → entries_from s third ≡ drop (2 * n) (entries_from s start) → entries_from s fourth ≡ drop (3 * n) (entries_from s start) → width * length (entries_from s start) ≤ length lent
        → Spread s start lent lent wide start second third fourth 0
    none_spread {wide} {second} {third} {fourth} n across followed two three four room =
        let es : List TilePartEntry = entries_from s start in
        let all : 4 * n ≤ length es = omega arith in
        let from : (k m : ℕ) → k ≡ m → drop k es ≡ drop m es = λ k m e. ap (λ (j : ℕ). drop j es) e in
        let run : (j k : ℕ) → j + 0 ≡ k → left es j n 0 ≡ take n (drop k es) = λ j k e. ap₂ (λ (m l : ℕ). take m (drop l es)) (sub-zero n) e in
        record {
          n = n;
          i = 0;
          across = across;
          down = sym (mul-zero width);
          few = omega arith;
          followed = followed;
          one = from 0 (0 * n + 0) (omega arith);
          two = two ∙ from n (1 * n + 0) (omega arith);
          three = three ∙ from (2 * n) (2 * n + 0) (omega arith);
          four = four ∙ from (3 * n) (3 * n + 0) (omega arith);
          same = refl;
          room = omega (arith, across, mul_left_comm width 4 n, mul-le-mul_left width all);
          whole =
              rw (add-zero wide, add-zero (2 * wide), add-zero (3 * wide), run (0 * n) 0 (omega arith), run (1 * n) n (omega arith), run (2 * n) (2 * n) (omega arith), run (3 * n) (3 * n) (omega arith))
              (runs lent es n wide across all room);
        }

    module _ {table : List B} {wide first second third fourth row : ℕ} where
      -- while a row is left, a record of each run is
      under : row < wide → (f : Spread s start lent table wide first second third fourth row) → f.i < f.n
      under h f = lt_of_not-le (λ le. omega (arith, h, f.down, f.across, mul-le-mul_left width le))

      -- the record of each run that stands there, with its room
      pub first_stands : row < wide → (f : Spread s start lent table wide first second third fourth row) → Followed s (entries_from s start) first (0 * f.n + f.i)
      first_stands h f = follows s (entries_from s start) first (0 * f.n + f.i) f.one (omega (arith, f.followed, under h f))

      pub second_stands : row < wide → (f : Spread s start lent table wide first second third fourth row) → Followed s (entries_from s start) second (1 * f.n + f.i)
      second_stands h f = follows s (entries_from s start) second (1 * f.n + f.i) f.two (omega (arith, f.followed, under h f))

      pub third_stands : row < wide → (f : Spread s start lent table wide first second third fourth row) → Followed s (entries_from s start) third (2 * f.n + f.i)
      third_stands h f = follows s (entries_from s start) third (2 * f.n + f.i) f.three (omega (arith, f.followed, under h f))

      pub fourth_stands : row < wide → (f : Spread s start lent table wide first second third fourth row) → Followed s (entries_from s start) fourth (3 * f.n + f.i)
      fourth_stands h f = follows s (entries_from s start) fourth (3 * f.n + f.i) f.four (omega (arith, f.followed, under h f))

      -- a run's next row ends before the next run
      pub row_fits : row < wide → Spread s start lent table wide first second third fourth row → row + width ≤ wide
      row_fits h f = omega (arith, f.down, f.across, mul-suc width f.i, mul-le-mul_left width (under h f))

      -- a record of each run is written
      pub turn : {e₁ e₂ e₃ e₄ : TilePartEntry} {t₁ t₂ t₃ t₄ : List B} {first' second' third' fourth' : ℕ} → row < wide
          → e₁ ≡ entry_of s first (psot s first) → t₁ ≡ put table row (L.one e₁) → first' ≡ first + psot s first
          → e₂ ≡ entry_of s second (psot s second) → t₂ ≡ put t₁ (wide + row) (L.one e₂) → second' ≡ second + psot s second
          → e₃ ≡ entry_of s third (psot s third) → t₃ ≡ put t₂ (2 * wide + row) (L.one e₃) → third' ≡ third + psot s third
          → e₄ ≡ entry_of s fourth (psot s fourth) → t₄ ≡ put t₃ (3 * wide + row) (L.one e₄) → fourth' ≡ fourth + psot s fourth
          → Spread s start lent table wide first second third fourth row
          → Spread s start lent t₄ wide first' second' third' fourth' (row + width)
      turn {e₁} {e₂} {e₃} {e₄} {t₁} {t₂} {t₃} {t₄} h is₁ new₁ to₁ is₂ new₂ to₂ is₃ new₃ to₃ is₄ new₄ to₄ f =
          let es : List TilePartEntry = entries_from s start in
          let n = f.n in
          let i = f.i in
          let f₁ = first_stands h f in
          let f₂ = second_stands h f in
          let f₃ = third_stands h f in
          let f₄ = fourth_stands h f in
          let r : ℕ → List TilePartEntry = λ (j : ℕ). left es (j * n) n (i + 1) in
          let split : (j : ℕ) (e : TilePartEntry) → drop (j * n + i) es ≡ e ∷ drop (j * n + i + 1) es → L.all (left es (j * n) n i) ≡ L.all (e ∷ r j) =
          λ j e d. ap L.all (parted es (j * n) n i e (under h f) d) in
          let fits = row_fits h f in
          let on : width * (i + 1) ≡ row + width = mul-add width i 1 ∙ omega (arith, f.down, mul-one width) in
          let len : (j : ℕ) → j * n + n ≤ length es → row + width + length (L.all (r j)) ≡ wide =
          λ j all. ap (λ (m : ℕ). m + length (L.all (r j))) (sym on) ∙ ends es (j * n) n (i + 1) (omega (arith, under h f)) all ∙ sym f.across in
          let l₁ = len 0 (omega (arith, f.followed)) in
          let l₂ = len 1 (omega (arith, f.followed)) in
          let l₃ = len 2 (omega (arith, f.followed)) in
          let l₄ = len 3 (omega (arith, f.followed)) in
          let k₁ : length t₁ ≡ length lent = kept table row e₁ new₁ (omega (arith, f.same, f.room)) ∙ f.same in
          let k₂ : length t₂ ≡ length lent = kept t₁ (wide + row) e₂ new₂ (omega (arith, k₁, f.room)) ∙ k₁ in
          let k₃ : length t₃ ≡ length lent = kept t₂ (2 * wide + row) e₃ new₃ (omega (arith, k₂, f.room)) ∙ k₂ in
          let k₄ : length t₄ ≡ length lent = kept t₃ (3 * wide + row) e₄ new₄ (omega (arith, k₃, f.room)) ∙ k₃ in
          let p₁ = piece (row + width) (r 0) in
          let p₂ = piece (wide + (row + width)) (r 1) in
          let p₃ = piece (2 * wide + (row + width)) (r 2) in
          let b₂ : row + width + length (L.all (r 0)) ≤ wide + row = omega (arith, l₁) in
          let b₃ : row + width + length (L.all (r 0)) ≤ 2 * wide + row = omega (arith, l₁) in
          let b₃' : wide + (row + width) + length (L.all (r 1)) ≤ 2 * wide + row = omega (arith, l₂) in
          let b₄ : row + width + length (L.all (r 0)) ≤ 3 * wide + row = omega (arith, l₁) in
          let b₄' : wide + (row + width) + length (L.all (r 1)) ≤ 3 * wide + row = omega (arith, l₂) in
          let b₄'' : 2 * wide + (row + width) + length (L.all (r 2)) ≤ 3 * wide + row = omega (arith, l₃) in
          let s₁ = stored_behind L [] table row e₁ (r 0) tt new₁ (omega (arith, l₁, length_more L e₁ (r 0), f.same, f.room)) in
          let s₂ = ahead (p₁ ∷ []) t₁ wide row e₂ (r 1) (b₂, tt) new₂ (omega (arith, l₂, length_more L e₂ (r 1), k₁, f.room)) in
          let s₃ = ahead (p₁ ∷ p₂ ∷ []) t₂ (2 * wide) row e₃ (r 2) (b₃, (b₃', tt)) new₃ (omega (arith, l₃, length_more L e₃ (r 2), k₂, f.room)) in
          let s₄ = ahead (p₁ ∷ p₂ ∷ p₃ ∷ []) t₃ (3 * wide) row e₄ (r 3) (b₄, (b₄', (b₄'', tt))) new₄ (omega (arith, l₄, length_more L e₄ (r 3), k₃, f.room)) in
          let then₂ : List B → List B = λ (u : List B). put u (wide + row) (L.all (e₂ ∷ r 1)) in
          let then₃ : List B → List B = λ (u : List B). put u (2 * wide + row) (L.all (e₃ ∷ r 2)) in
          let then₄ : List B → List B = λ (u : List B). put u (3 * wide + row) (L.all (e₄ ∷ r 3)) in
          record {
            n = n;
            i = i + 1;
            across = f.across;
            down = sym on;
            few = omega (arith, under h f);
            followed = f.followed;
            one = ap (entries_from s) to₁ ∙ f₁.on ∙ ap (λ (j : ℕ). drop j es) (add_assoc (0 * n) i 1);
            two = ap (entries_from s) to₂ ∙ f₂.on ∙ ap (λ (j : ℕ). drop j es) (add_assoc (1 * n) i 1);
            three = ap (entries_from s) to₃ ∙ f₃.on ∙ ap (λ (j : ℕ). drop j es) (add_assoc (2 * n) i 1);
            four = ap (entries_from s) to₄ ∙ f₄.on ∙ ap (λ (j : ℕ). drop j es) (add_assoc (3 * n) i 1);
            same = k₄;
            room = f.room;
            whole =
                s₄
                ∙ ap then₄ s₃
                ∙ ap (λ (u : List B). then₄ (then₃ u)) s₂
                ∙ ap (λ (u : List B). then₄ (then₃ (then₂ u))) s₁
                ∙ rw (split 0 e₁ (heads is₁ f₁), split 1 e₂ (heads is₂ f₂), split 2 e₃ (heads is₃ f₃), split 3 e₄ (heads is₄ f₄)) at f.whole;
          }

      -- as many turns as the runs are long
      pub turns_are : {turns : ℕ} → wide ≡ width * turns → (f : Spread s start lent table wide first second third fourth row) → f.n ≡ turns
      turns_are {turns} is f =
          sym (mul-div_cancel_left f.n L.some) ∙ ap (λ (m : ℕ). m / width) (sym f.across ∙ is) ∙ mul-div_cancel_left turns L.some

      -- all of them are
      pub all_spread : wide ≤ row → (f : Spread s start lent table wide first second third fourth row)
          → (entries_from s fourth ≡ drop (4 * f.n) (entries_from s start)) × (table ≡ put lent 0 (L.all (take (4 * f.n) (entries_from s start))))
      all_spread h f =
          let es : List TilePartEntry = entries_from s start in
          let n = f.n in
          let i = f.i in
          let past : n < suc i = lt_of_not-le (λ le. omega (arith, L.some, h, f.down, f.across, mul-suc width i, mul-le-mul_left width le)) in
          let end : n ≡ i = omega (arith, past, f.few) in
          let over : n - i ≡ 0 = omega (arith, end) in
          let none : (k : ℕ) → left es k n i ≡ [] = λ k. ap (λ (m : ℕ). take m (drop (k + i) es)) over in
          let last : 3 * n + i ≡ 4 * n = omega (arith, end) in (
            f.four ∙ ap (λ (j : ℕ). drop j es) last,
            rw (none (0 * n), none (1 * n), none (2 * n), none (3 * n), put_last L table row, put_last L table (wide + row), put_last L table (2 * wide + row), put_last L table (3 * wide + row)) at f.whole,
          )
