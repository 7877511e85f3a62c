-- Laws of a number's bits, each over their number: the sum of the bits is the language's own count of ones.
use Prim.Native.Nat.{ℕ, zero, suc, ◌+◌, ◌*◌, ◌%◌, ◌^◌, ◌<◌, ◌≤◌}
use native.Mathlib.Nat.{pow-succ', one-le-pow, mod-lt, mod-one, mod-eq_of_lt, add-mod_left, div-eq_of_lt, add-div_left}
use native.Mathlib.Omega.{arith}
use mathlib.Core.Path.{◌≡◌, refl, sym, ap, ap₂, ◌∙◌}
use lib.Arith.{mod-mul}
use lib.Count as count
use lib.Dec.{lit<}
use Rattle.numbers.specs.Bits.{bit, ones}

2^-pos : (k : ℕ) → 0 < 2 ^ k
2^-pos k = one-le-pow k 2 (lit< tt)

pub bit_small : (i v : ℕ) → bit i v ≤ 1
unfolding bit
bit_small i v = omega arith

-- a number of one bit
count_bit : (b : ℕ) → b ≤ 1 → count.ones b ≡ b
unfolding count.ones count.ones_in
count_bit zero h = refl
count_bit (suc zero) h = refl
count_bit (suc (suc b)) h = absurd (omega arith)

-- the highest of the low bits, and those below it
pub bit_cut : (k v : ℕ) → v % 2 ^ suc k ≡ bit k v * 2 ^ k + v % 2 ^ k
unfolding bit
bit_cut k v = rw pow-succ' (mod-mul v (lit< tt) (2^-pos k))

ones_low : (k v : ℕ) → ones k v ≡ count.ones (v % 2 ^ k)
unfolding ones count.ones
ones_low zero v = ap count.ones (sym (mod-one v))
ones_low (suc k) v =
    ap₂ ◌+◌ (sym (count_bit (bit k v) (bit_small k v))) (ones_low k v)
    ∙ sym (ap count.ones (bit_cut k v) ∙ count.ones_cat k (bit k v) (v % 2 ^ k) (mod-lt v (2^-pos k)))

-- the ones of a number of k bits
pub ones_count : (k v : ℕ) → v < 2 ^ k → ones k v ≡ count.ones v
ones_count k v h = ones_low k v ∙ ap count.ones (mod-eq_of_lt h)

pub ones_few : (k v : ℕ) → ones k v ≤ k
unfolding ones
ones_few zero v = omega arith
ones_few (suc k) v = omega (arith, bit_small k v, ones_few k v)

-- a bit above k bits: it is not among them,
pub ones_above : (k w : ℕ) → ones k (2 ^ k + w) ≡ ones k w
ones_above k w = ones_low k (2 ^ k + w) ∙ ap count.ones (add-mod_left (2 ^ k) w) ∙ sym (ones_low k w)

-- it is set where it was added, and otherwise not
pub bit_top : (k w : ℕ) → w < 2 ^ k → bit k (2 ^ k + w) ≡ 1
unfolding bit
bit_top k w h = rw (add-div_left w (2^-pos k), div-eq_of_lt h)

pub bit_none : (k w : ℕ) → w < 2 ^ k → bit k w ≡ 0
unfolding bit
bit_none k w h = rw (div-eq_of_lt h)
