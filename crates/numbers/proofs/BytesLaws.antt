-- Laws of big-endian bytes, each over the width: what a number's bytes are in two halves, what is read of what was written, what is read
-- inside a part, and bounds. Callers cite these and do not look into the definitions.
use Prim.Native.Nat.{ℕ, zero, suc, ◌+◌, ◌-◌, ◌*◌, ◌/◌, ◌%◌, ◌^◌, ◌≤◌, ◌<◌, min}
use native.Mathlib.Nat.{add-zero, zero-add, add-suc, add_assoc, mul_assoc, add-mul, div-one, mod-one, div-div-eq-div-mul, pow-suc, pow-succ', one-le-pow, mod-lt, mod-eq_of_lt, div-add-mod', div-lt_iff_lt-mul, one-mul, suc-mul, mul-le-mul, le_refl, le_of_suc-le-suc}
use native.Mathlib.Numerals.{add-one, one-add}
use native.Mathlib.Omega.{arith}
use mathlib.Core.Path.{◌≡◌, refl, sym, ap, ap₂, ◌∙◌}
use mathlib.Core.List.{List, [], ◌∷◌, ◌++◌, append_assoc, append-nil}
use lib.ListN.{take-append-drop, length, get_or, set, take, drop, length-append, length-take, length-drop, get_or-append}
use lib.Seq.{length-take-le, get_or-append-add, get_or-append_seam, get_or-take, get_or-drop, set_split, sets, sets-eq, take_at, drop_at, drop-drop, take-append-le, drop-append-le, take-append-add, drop-append-add, take-suc, take-take, take-add}
use lib.Arith.{mod-mul, digits_div, digits_mod, digits_lt}
use lib.Dec.{lit<}
use borrow.Rule.Slice.PartMut.{put_mid, Post-is}
use Rattle.std.specs.Int.{byte_at, bytes_high_first, div_ceil}
use Rattle.numbers.specs.Bytes.{be, bytes_of, put}
use Rattle.numbers.specs.Ceiling.{ceil_div}

pub 256^-pos : (k : ℕ) → 0 < 256 ^ k
256^-pos k = one-le-pow k 256 (lit< tt)

-- ---- a number in two halves

pub be_join : (j k : ℕ) (s : List ℕ) (at : ℕ) → be (j + k) s at ≡ be j s at * 256 ^ k + be k s (at + j)
unfolding be
be_join j zero s at = rw add-zero (omega arith)
be_join j (suc k) s at =
    rw (add-suc j k, be_join j k s at, pow-suc 256 k, ← add_assoc at j k)
    (omega (arith, add-mul (be j s at * 256 ^ k) (be k s (at + j)) 256, mul_assoc (be j s at) (256 ^ k) 256))

pub bytes_join : (j k v : ℕ) → bytes_of (j + k) v ≡ bytes_of j (v / 256 ^ k) ++ bytes_of k v
unfolding bytes_of
bytes_join j zero v = rw (add-zero, div-one, append-nil)
bytes_join j (suc k) v =
    rw (add-suc j k, bytes_join j k (v / 256), pow-succ' 256 k, div-div-eq-div-mul v 256 (256 ^ k), append_assoc)

pub length_bytes : (k v : ℕ) → length (bytes_of k v) ≡ k
unfolding bytes_of
length_bytes zero v = refl
length_bytes (suc k) v = rw (length-append, length_bytes k (v / 256)) (add-one k)

top_byte : (k v : ℕ) → byte_at k v ≡ v / 256 ^ k % 256
top_byte zero v = rw div-one
top_byte (suc k) v = refl

-- std's list of a number's bytes
pub be_bytes_are : (k v : ℕ) → bytes_high_first k v ≡ bytes_of k v
unfolding bytes_of
be_bytes_are zero v = refl
be_bytes_are (suc k) v =
    let join : bytes_of (suc k) v ≡ v / 256 ^ k % 256 ∷ bytes_of k v = rw one-add at (bytes_join 1 k v) in
    ap₂ ◌∷◌ (top_byte k v) (be_bytes_are k v) ∙ sym join

-- ---- items replaced

pub length_put : {A : Type 0} (s : List A) (at : ℕ) (bs : List A) → at + length bs ≤ length s → length (put s at bs) ≡ length s
unfolding put
length_put s at bs h = simp (length-append, length-take, length-drop) (omega arith)

-- nothing replaced
pub put_none : {A : Type 0} (s : List A) (at : ℕ) → put s at [] ≡ s
unfolding put
put_none s at = ap (λ (n : ℕ). take at s ++ drop n s) (add-zero at) ∙ take-append-drop at s

-- a replacement at the start
pub put_start : {A : Type 0} (s bs : List A) → put s 0 bs ≡ bs ++ drop (length bs) s
unfolding put
put_start s bs = ap (λ (n : ℕ). bs ++ drop n s) (zero-add (length bs))

-- single stores, one after another, are one replacement
pub put_sets : (bs s : List ℕ) (at : ℕ) → at + length bs ≤ length s → sets s at bs ≡ put s at bs
unfolding put
put_sets bs s at h = sets-eq bs s at h ∙ append_assoc (take at s) bs (drop (at + length bs) s)

-- a single store
pub put_one : {A : Type 0} (s : List A) (at : ℕ) (x : A) → at < length s → set s at x ≡ put s at (x ∷ [])
unfolding put
put_one s at x h = set_split s at x h ∙ ap (λ (n : ℕ). take at s ++ (x ∷ drop n s)) (sym (add-one at))

-- two adjoining replacements are one
pub put_put : {A : Type 0} (s : List A) (at : ℕ) (xs ys : List A) (n : ℕ) → length xs ≡ n → at + (n + length ys) ≤ length s
    → put (put s at xs) (at + n) ys ≡ put s at (xs ++ ys)
unfolding put
put_put {A} s at xs ys n e h =
    let front : length (take at s ++ xs) ≡ at + n = simp (length-append, length-take) (omega arith) in
    let tail : List A = drop (at + n) s in
    let cut : drop (length ys) tail ≡ drop (at + (n + length ys)) s = drop-drop (length ys) (at + n) s ∙ rw add_assoc in
    rw (e, ← append_assoc (take at s) xs tail, take_at (take at s ++ xs) tail (at + n) front)
    (rw (← front) (rw drop-append-add (rw (front, cut, length-append, e) (simp append_assoc))))

-- two replacements apart from each other, the second m behind the first: in either order what was there stands around them
apart : {A : Type 0} (s : List A) (at : ℕ) (xs : List A) (m : ℕ) (ys : List A) → at + length xs + m + length ys ≤ length s
    → put (put s at xs) (at + length xs + m) ys ≡ put (put s (at + length xs + m) ys) at xs
unfolding put
apart {A} s at xs m ys h =
    let c : ℕ = at + length xs in
    let front : List A = take at s ++ xs in
    let tail : List A = drop c s in
    let between : List A = take m tail in
    let behind : List A = drop (c + m + length ys) s in
    let wide : length front ≡ c = simp (length-append, length-take) (omega arith) in
    let stays : length (take c s) ≡ c = length-take-le c s (omega arith) in
    let taken : take (c + m) (front ++ tail) ≡ front ++ between = ap (λ (n : ℕ). take (n + m) (front ++ tail)) (sym wide) ∙ take-append-add front tail m in
    let last : drop (c + m + length ys) (front ++ tail) ≡ behind =
    ap (λ (n : ℕ). drop n (front ++ tail)) (add_assoc c m (length ys) ∙ ap (λ (n : ℕ). n + (m + length ys)) (sym wide))
    ∙ drop-append-add front tail (m + length ys)
    ∙ drop-drop (m + length ys) c s
    ∙ ap (λ (n : ℕ). drop n s) (sym (add_assoc c m (length ys))) in
    let first : put (put s at xs) (c + m) ys ≡ (front ++ between) ++ (ys ++ behind) =
    ap (λ (l : List A). take (c + m) l ++ (ys ++ drop (c + m + length ys) l)) (sym (append_assoc (take at s) xs tail))
    ∙ ap₂ (λ (l r : List A). l ++ (ys ++ r)) taken last in
    let parted : take (c + m) s ++ (ys ++ behind) ≡ take c s ++ (between ++ (ys ++ behind)) =
    ap (λ (l : List A). l ++ (ys ++ behind)) (take-add c m s) ∙ append_assoc (take c s) between (ys ++ behind) in
    let second : put (put s (c + m) ys) at xs ≡ take at s ++ (xs ++ (between ++ (ys ++ behind))) =
    ap (λ (l : List A). take at l ++ (xs ++ drop c l)) parted
    ∙ ap₂ (λ (l r : List A). l ++ (xs ++ r)) (take-append-le at (take c s) (between ++ (ys ++ behind)) (omega (arith, stays)) ∙ take-take at c s (omega arith))
    (drop_at (take c s) (between ++ (ys ++ behind)) c stays) in
    let same : (front ++ between) ++ (ys ++ behind) ≡ take at s ++ (xs ++ (between ++ (ys ++ behind))) = simp append_assoc in
    first ∙ same ∙ sym second

pub put_apart : {A : Type 0} (s : List A) (at : ℕ) (xs : List A) (to : ℕ) (ys : List A) → at + length xs ≤ to → to + length ys ≤ length s
    → put (put s at xs) to ys ≡ put (put s to ys) at xs
put_apart s at xs to ys before room =
    let there : to ≡ at + length xs + (to - (at + length xs)) = omega arith in
    ap (λ (n : ℕ). put (put s at xs) n ys) there ∙ apart s at xs (to - (at + length xs)) ys (omega arith) ∙ ap (λ (n : ℕ). put (put s n ys) at xs) (sym there)

-- a copy onto all that stands from at on, whose end is as it was
pub put_copy : (s : List ℕ) (at : ℕ) (bs : List ℕ) → put_mid at (at + length bs - at) s bs ≡ put s at bs
unfolding put
put_copy s at bs = rw (Post-is at (at + length bs) s (omega arith)) refl

-- a number's bytes, copied so
pub put_be : (k v : ℕ) (s : List ℕ) (at : ℕ) → put_mid at (at + k - at) s (bytes_high_first k v) ≡ put s at (bytes_of k v)
put_be k v s at =
    ap (λ (n : ℕ). put_mid at (at + n - at) s (bytes_high_first k v)) (sym (ap length (be_bytes_are k v) ∙ length_bytes k v))
    ∙ put_copy s at (bytes_high_first k v)
    ∙ ap (put s at) (be_bytes_are k v)

-- what stands before it stays
pub take_put : {A : Type 0} (s : List A) (at : ℕ) (bs : List A) → at ≤ length s → take at (put s at bs) ≡ take at s
unfolding put
take_put s at bs h = take_at (take at s) _ at (length-take-le at s h)

-- and what stands after it
pub drop_put : {A : Type 0} (s : List A) (at : ℕ) (bs : List A) (n : ℕ) → length bs ≡ n → at ≤ length s → drop (at + n) (put s at bs) ≡ drop (at + n) s
unfolding put
drop_put s at bs n e h =
    let front : length (take at s ++ bs) ≡ at + n = simp length-append (omega (arith, length-take-le at s h)) in
    rw (← append_assoc (take at s) bs (drop (at + length bs) s)) (drop_at (take at s ++ bs) _ (at + n) front ∙ ap (λ (k : ℕ). drop (at + k) s) e)

inside : {A : Type 0} (front xs rest : List A) (i : ℕ) (ys : List A) → i + length ys ≤ length xs → put (front ++ (xs ++ rest)) (length front + i) ys ≡ front ++ (put xs i ys ++ rest)
unfolding put
inside front xs rest i ys h =
    let before : i ≤ length xs = omega arith in
    rw (take-append-add front (xs ++ rest) i, take-append-le i xs rest, add_assoc (length front) i (length ys), drop-append-add front (xs ++ rest) (i + length ys), drop-append-le (i + length ys) xs rest)
    (simp append_assoc)

-- a replacement inside what was written is one before it is written
pub put_inside : {A : Type 0} (s : List A) (at : ℕ) (xs : List A) (i : ℕ) (ys : List A) → i + length ys ≤ length xs → at + length xs ≤ length s
    → put (put s at xs) (at + i) ys ≡ put s at (put xs i ys)
unfolding put
put_inside {A} s at xs i ys within room =
    let rest : List A = drop (at + length xs) s in
    ap (λ (n : ℕ). put (take at s ++ (xs ++ rest)) (n + i) ys) (sym (length-take-le at s (omega arith)))
    ∙ inside (take at s) xs rest i ys within
    ∙ ap (λ (n : ℕ). take at s ++ (put xs i ys ++ drop (at + n) s)) (sym (length_put xs i ys within))

-- a replacement over one that is no longer
put_over : {A : Type 0} (s : List A) (at : ℕ) (xs ys : List A) → length xs ≤ length ys → at + length ys ≤ length s → put (put s at xs) at ys ≡ put s at ys
unfolding put
put_over {A} s at xs ys h room =
    let more : ℕ = length ys - length xs in
    let end : at + length ys ≡ at + length xs + more = omega arith in
    let behind : drop (at + length ys) (put s at xs) ≡ drop (at + length ys) s =
    rw (end, ← drop-drop more (at + length xs) (put s at xs), ← drop-drop more (at + length xs) s) (ap (drop more) (drop_put s at xs (length xs) refl (omega arith))) in
    ap₂ (λ (l r : List A). l ++ (ys ++ r)) (take_put s at xs (omega arith)) behind

-- what was written, written again
pub put_again : {A : Type 0} (s : List A) (at : ℕ) (bs : List A) → at + length bs ≤ length s → put (put s at bs) at bs ≡ put s at bs
put_again s at bs room = put_over s at bs bs (le_refl (length bs)) room

-- ---- a copy in pieces

-- n items from at on, and those behind them
take_behind : {A : Type 0} (n m at : ℕ) (s : List A) → take (n + m) (drop at s) ≡ take n (drop at s) ++ take m (drop (at + n) s)
take_behind n m at s = rw (← drop-drop n at s) (take-add n m (drop at s))

-- ---- what is read

-- the same bytes are the same number
pub be_cong : (k : ℕ) (s t : List ℕ) (i j : ℕ) → ((n : ℕ) → n < k → get_or s (i + n) 0 ≡ get_or t (j + n) 0) → be k s i ≡ be k t j
unfolding be
be_cong zero s t i j h = refl
be_cong (suc k) s t i j h = ap₂ (λ (a b : ℕ). a * 256 + b) (be_cong k s t i j (λ n m. h n (omega arith))) (h k (omega arith))

-- a read inside a part is a read of the whole
pub be_part : (k : ℕ) (s : List ℕ) (from n at : ℕ) → at + k ≤ n → be k (take n (drop from s)) at ≡ be k s (from + at)
be_part k s from n at h =
    be_cong k _ _ _ _ (λ i m. get_or-take n (drop from s) (at + i) 0 (omega arith) ∙ get_or-drop from s (at + i) 0 ∙ rw (← add_assoc from at i))

-- a read inside the front is a read of the whole
pub be_front : (k : ℕ) (s t : List ℕ) (at : ℕ) → at + k ≤ length s → be k (s ++ t) at ≡ be k s at
be_front k s t at h = be_cong k _ _ _ _ (λ i m. get_or-append s t 0 (at + i) (omega arith))

-- a read past the front is a read of the rest
pub be_rest : (k : ℕ) (s t : List ℕ) (at : ℕ) → be k (s ++ t) (length s + at) ≡ be k t at
be_rest k s t at = be_cong k _ _ _ _ (λ i m. rw add_assoc (get_or-append-add s t (at + i) 0))

be_bytes : (k v : ℕ) (p t : List ℕ) → be k (p ++ (bytes_of k v ++ t)) (length p) ≡ v % 256 ^ k
unfolding be bytes_of
be_bytes zero v p t = sym (mod-one v)
be_bytes (suc k) v p t =
    let low : List ℕ = v % 256 ∷ t in
    let whole : p ++ ((bytes_of k (v / 256) ++ (v % 256 ∷ [])) ++ t) ≡ p ++ (bytes_of k (v / 256) ++ low) = rw append_assoc in
    let last : get_or (p ++ (bytes_of k (v / 256) ++ low)) (length p + k) 0 ≡ v % 256 =
    get_or-append-add p (bytes_of k (v / 256) ++ low) k 0
    ∙ ap (λ (n : ℕ). get_or (bytes_of k (v / 256) ++ low) n 0) (sym (length_bytes k (v / 256)))
    ∙ get_or-append_seam (bytes_of k (v / 256)) (v % 256) t 0 in
    rw (whole, be_bytes k (v / 256) p low, last, pow-suc) (sym (mod-mul v (256^-pos k) (lit< tt)))

-- a number's bytes hold it
pub be_bytes_of : (k v : ℕ) → v < 256 ^ k → be k (bytes_of k v) 0 ≡ v
be_bytes_of k v small = ap (λ (bs : List ℕ). be k bs 0) (sym (append-nil (bytes_of k v))) ∙ be_bytes k v [] [] ∙ mod-eq_of_lt small

-- a read inside what was written is a read of that
pub be_put : (k : ℕ) (s : List ℕ) (at : ℕ) (bs : List ℕ) (i : ℕ) → at ≤ length s → i + k ≤ length bs → be k (put s at bs) (at + i) ≡ be k bs i
unfolding put
be_put k s at bs i h within =
    let rest : List ℕ = bs ++ drop (at + length bs) s in
    ap (λ (n : ℕ). be k (take at s ++ rest) (n + i)) (sym (length-take-le at s h)) ∙ be_rest k (take at s) rest i ∙ be_front k bs _ i within

-- a read beside what was written is a read of what was there
pub be_put_before : (k : ℕ) (s : List ℕ) (at : ℕ) (bs : List ℕ) (i : ℕ) → at ≤ length s → i + k ≤ at → be k (put s at bs) i ≡ be k s i
unfolding put
be_put_before k s at bs i h before =
    be_front k (take at s) _ i (omega (arith, length-take-le at s h))
    ∙ be_cong k _ _ _ _ (λ n m. get_or-take at s (i + n) 0 (omega arith))

pub be_put_after : (k : ℕ) (s : List ℕ) (at : ℕ) (bs : List ℕ) (i : ℕ) → at ≤ length s → be k (put s at bs) (at + (length bs + i)) ≡ be k s (at + (length bs + i))
unfolding put
be_put_after k s at bs i h =
    let tail : List ℕ = drop (at + length bs) s in
    ap (λ (n : ℕ). be k (take at s ++ (bs ++ tail)) (n + (length bs + i))) (sym (length-take-le at s h))
    ∙ be_rest k (take at s) (bs ++ tail) (length bs + i)
    ∙ be_rest k bs tail i
    ∙ be_cong k _ _ _ _ (λ n m. get_or-drop (at + length bs) s (i + n) 0 ∙ rw (add_assoc at (length bs) (i + n), add_assoc at (length bs + i) n, add_assoc (length bs) i n))

-- k bytes hold a number below 256 ^ k
pub be_bound : (k : ℕ) (s : List ℕ) (at : ℕ) → ((i : ℕ) → get_or s i 0 < 256) → be k s at < 256 ^ k
unfolding be
be_bound zero s at h = lit< tt
be_bound (suc k) s at h = rw pow-suc (digits_lt (be_bound k s at h) (h (at + k)))

-- bytes are those of the number that they hold
pub bytes_be : (k : ℕ) (s : List ℕ) (at : ℕ) → ((i : ℕ) → get_or s i 0 < 256) → at + k ≤ length s → bytes_of k (be k s at) ≡ take k (drop at s)
unfolding be bytes_of
bytes_be zero s at h room = refl
bytes_be (suc k) s at h room =
    rw (digits_div (be k s at) (h (at + k)), digits_mod (be k s at) (h (at + k)), bytes_be k s at h (omega arith), ← get_or-drop at s k 0)
    (sym (take-suc (drop at s) k 0 (omega (arith, length-drop at s))))

-- a number's bytes, and those behind it
pub bytes_next : (k n : ℕ) (s : List ℕ) (at : ℕ) → ((i : ℕ) → get_or s i 0 < 256) → at + k ≤ length s
    → take (k + n) (drop at s) ≡ bytes_of k (be k s at) ++ take n (drop (at + k) s)
bytes_next k n s at h room = rw (bytes_be k s at h room) (take_behind k n at s)

-- ---- division rounded up

-- a remainder of 0 says that the pieces are full; any other, that one more is begun
up : (n : ℕ) {d : ℕ} (r : ℕ) → 0 < d → n % d ≡ r → n / d + min 1 r ≡ ceil_div n d
unfolding ceil_div
up n {d} zero h e =
    let whole : n + (d - 1) ≡ n / d * d + (d - 1) = omega (arith, div-add-mod' n d) in
    rw whole (rw add-zero (sym (digits_div (n / d) {m = d} {r = d - 1} (omega arith))))
up n {d} (suc r) h e =
    let whole : n + (d - 1) ≡ (n / d + 1) * d + r = omega (arith, div-add-mod' n d, add-mul (n / d) 1 d, one-mul d) in
    let more : min 1 (suc r) ≡ 1 = omega arith in
    rw (more, whole) (sym (digits_div (n / d + 1) {m = d} {r = r} (omega (arith, mod-lt n h))))

-- std's division rounded up
pub ceil_std : (n : ℕ) {d : ℕ} → 0 < d → div_ceil n d ≡ ceil_div n d
ceil_std n {d} h = up n (n % d) h refl

-- the pieces cover the whole
pub ceil_covers : (n : ℕ) {d : ℕ} → 0 < d → n ≤ ceil_div n d * d
unfolding ceil_div
ceil_covers n {d} h =
    omega (arith, div-add-mod' (n + (d - 1)) d, mod-lt (n + (d - 1)) h)

-- and no fewer do
pub ceil_least : (n k : ℕ) {d : ℕ} → 0 < d → n ≤ k * d → ceil_div n d ≤ k
unfolding ceil_div
ceil_least n k {d} h c = le_of_suc-le-suc ((div-lt_iff_lt-mul h).1 (omega (arith, suc-mul k d)))

-- a larger whole has no fewer
pub ceil_mono : (a b : ℕ) {d : ℕ} → 0 < d → a ≤ b → ceil_div a d ≤ ceil_div b d
ceil_mono a b {d} h l = ceil_least a (ceil_div b d) h (omega (arith, ceil_covers b h))

-- one piece
pub ceil_same : (n : ℕ) → 0 < n → ceil_div n n ≡ 1
unfolding ceil_div
ceil_same n h = ap (λ (m : ℕ). (m + (n - 1)) / n) (sym (one-mul n)) ∙ digits_div 1 (omega arith)

-- pieces of 1
pub ceil_one : (n : ℕ) → ceil_div n 1 ≡ n
unfolding ceil_div
ceil_one n = rw (add-zero, div-one)

-- ---- a product

-- two numbers of 32 bits have a product of 64
pub product_fits : (a b : ℕ) → a < 2 ^ 32 → b < 2 ^ 32 → a * b ≤ 0xffffffff * 0xffffffff
product_fits a b h k = mul-le-mul {n₁ = a} {m₁ = b} {n₂ = 0xffffffff} {m₂ = 0xffffffff} (omega arith) (omega arith)
