-- The bits of a number, and how many of them are set.
use Rattle.std.specs.Prelude.{ℕ, zero, suc, ◌+◌, ◌/◌, ◌%◌, ◌^◌}

-- bit i, 0 or 1; the lowest is bit 0
unfoldable pub bit : ℕ → ℕ → ℕ
bit i v = v / 2 ^ i % 2

-- the ones among the k lowest bits: the sum of these bits
unfoldable pub ones : ℕ → ℕ → ℕ
unfolding bit
ones zero v = 0
ones (suc k) v = bit k v + ones k v
