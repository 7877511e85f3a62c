-- An entry beside what stands at a position, and the answer where the comparison stopped: what the functions that the check calls say to each other.
use Rattle.std.specs.Prelude.{ℕ, ◌+◌, cond, List, [], ◌∷◌, Option, Some, None, Result, Ok, Err}
use Rattle.header.specs.Tlm.{Entry}
use Rattle.lengths.specs.Check.{pair_of, same, said, difference}
use Rattle.lengths.specs.declared.check.Said.{Said}
use Rattle.lengths.specs.declared.check.Stop.{Stop}
use Rattle.lengths.specs.declared.check.Difference.{Difference}
use Rattle.types.specs.declared.TilePartEntry.{TilePartEntry}
use Rattle.types.specs.declared.Refusal.{Refusal}

-- an entry agrees with the tile-part that stands there, which ends there
unfoldable pub agreed_by : Entry → Result (Option TilePartEntry) Refusal → Option ℕ
unfolding same
agreed_by e (Ok (Some p)) = cond (same e (pair_of p)) (Some (p.offset.0 + p.length)) None
agreed_by e (Ok None) = None
agreed_by e (Err r) = None

-- an entry with which the comparison stops
abbrev pub stop_at : ℕ → Entry → Stop
stop_at number e = record { number = number; listed = Some (said e) }

-- the first of what stands there, beside what is listed there
unfoldable pub settled_as : ℕ → ℕ → List Entry → Option Said → Option Difference
settled_as number at (y ∷ ys) x = Some (difference number at x (Some (said y)))
settled_as number at [] None = None
settled_as number at [] (Some x) = Some (difference number at (Some x) None)

abbrev pub settled : Stop → ℕ → List Entry → Option Difference
settled stop at parts = settled_as stop.number at parts stop.listed
