-- Numbers with their bytes the other way round, as a processor that stores the low byte first has them.
use Rattle.std.specs.Prelude.{ℕ, zero, suc, ◌+◌, ◌*◌, ◌/◌, ◌%◌}

-- how many numbers 2^k bytes hold
unfoldable pub span : ℕ → ℕ
span zero = 256
span (suc k) = span k * span k

-- the number whose 2^k bytes are those of v the other way round: its halves, each turned, have changed places
unfoldable pub turned : ℕ → ℕ → ℕ
unfolding span
turned zero v = v
turned (suc k) v = turned k (v % span k) * span k + turned k (v / span k)
