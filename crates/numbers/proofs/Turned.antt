-- Laws of numbers with their bytes the other way round, each over the width: such a number turned once more is itself, and written from
-- its low end on it stands as the number itself does, the high byte first. The code leaves that to `to_be_bytes`.
use Prim.Native.Nat.{ℕ, zero, suc, ◌+◌, ◌*◌, ◌/◌, ◌%◌, ◌^◌, ◌≤◌, ◌<◌}
use native.Mathlib.Nat.{pow-suc, mul-pos, mod-lt, div-add-mod', div-lt_iff_lt-mul}
use native.Mathlib.Omega.{arith}
use mathlib.Core.Path.{◌≡◌, refl}
use mathlib.Core.List.{List}
use lib.ListN.{length}
use lib.Arith.{mod-mul, digits_div, digits_mod, digits_lt}
use lib.Dec.{lit<}
use Rattle.numbers.specs.Bytes.{bytes_of, put}
use Rattle.numbers.specs.Turned.{span, turned}
use Rattle.numbers.proofs.BytesLaws.{256^-pos, bytes_join, length_bytes, put_put}

-- only the low bytes of a number stand in its k bytes
pub bytes_mod : (k v : ℕ) → bytes_of k (v % 256 ^ k) ≡ bytes_of k v
unfolding bytes_of
bytes_mod zero v = refl
bytes_mod (suc k) v =
    let e : v % 256 ^ suc k ≡ (v / 256 % 256 ^ k) * 256 + v % 256 = rw pow-suc (mod-mul v (256^-pos k) (lit< tt)) in
    rw (e, digits_div (v / 256 % 256 ^ k) (mod-lt v (lit< tt)), digits_mod (v / 256 % 256 ^ k) (mod-lt v (lit< tt)), bytes_mod k (v / 256))

-- a number written in two halves of k bytes
pub put_halves : (k v : ℕ) (s : List ℕ) (at : ℕ) → at + (k + k) ≤ length s
    → put (put s at (bytes_of k (v / 256 ^ k))) (at + k) (bytes_of k (v % 256 ^ k)) ≡ put s at (bytes_of (k + k) v)
put_halves k v s at h =
    let high : List ℕ = bytes_of k (v / 256 ^ k) in
    rw (bytes_mod, bytes_join) (put_put s at high (bytes_of k v) k (length_bytes k (v / 256 ^ k)) (omega (arith, length_bytes k v)))

-- ---- a number with its bytes the other way round

span_pos : (k : ℕ) → 0 < span k
unfolding span
span_pos zero = lit< tt
span_pos (suc k) = mul-pos (span_pos k) (span_pos k)

high_lt : (k v : ℕ) → v < span (suc k) → v / span k < span k
unfolding span
high_lt k v h = (div-lt_iff_lt-mul (span_pos k)).1 h

turned_lt : (k v : ℕ) → v < span k → turned k v < span k
unfolding turned
turned_lt zero v h = h
turned_lt (suc k) v h = digits_lt (turned_lt k (v % span k) (mod-lt v (span_pos k))) (turned_lt k (v / span k) (high_lt k v h))

-- turned twice it is itself
pub turned_twice : (k v : ℕ) → v < span k → turned k (turned k v) ≡ v
unfolding turned
turned_twice zero v h = refl
turned_twice (suc k) v h =
    let b = span k in
    let low = turned k (v / b) in
    let high = turned k (v % b) in
    let fits : low < b = turned_lt k (v / b) (high_lt k v h) in
    rw (digits_mod high fits, digits_div high fits, turned_twice k (v / b) (high_lt k v h), turned_twice k (v % b) (mod-lt v (span_pos k)))
    (div-add-mod' v b)

-- written in two halves of n bytes, the low one first
pub turned_halves : (k n v : ℕ) (s : List ℕ) (at : ℕ) → span k ≡ 256 ^ n → v < span (suc k) → at + (n + n) ≤ length s
    → put (put s at (bytes_of n (turned k (v % span k)))) (at + n) (bytes_of n (turned k (v / span k))) ≡ put s at (bytes_of (n + n) (turned (suc k) v))
unfolding turned
turned_halves k n v s at e h room =
    let fits : turned k (v / span k) < span k = turned_lt k (v / span k) (high_lt k v h) in
    rw (← e, digits_div (turned k (v % span k)) fits, digits_mod (turned k (v % span k)) fits) at (put_halves n (turned (suc k) v) s at room)
