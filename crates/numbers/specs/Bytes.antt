-- Big-endian numbers in a list of bytes, the bytes that hold a number, and a list with some of its items replaced.
use Rattle.std.specs.Prelude.{ℕ, zero, suc, ◌+◌, ◌*◌, ◌/◌, ◌%◌, List, [], ◌∷◌, ◌++◌, length, get_or, take, drop}

-- the number in the k bytes of s from at on, the most significant first; past the end of s a byte counts as 0
unfoldable pub be : ℕ → List ℕ → ℕ → ℕ
be zero s at = 0
be (suc k) s at = be k s at * 256 + get_or s (at + k) 0

-- the k bytes that hold the number v, the most significant first
unfoldable pub bytes_of : ℕ → ℕ → List ℕ
bytes_of zero v = []
bytes_of (suc k) v = bytes_of k (v / 256) ++ (v % 256 ∷ [])

-- s with what stands from at on replaced by bs
unfoldable pub put : {A : Type 0} → List A → ℕ → List A → List A
put s at bs = take at s ++ (bs ++ drop (at + length bs) s)
