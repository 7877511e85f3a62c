-- A scan into a table that is zeros: how far its rows are written while it judges.
use Rattle.std.specs.Prelude.{ℕ, ◌+◌, ◌*◌, ◌≤◌, ◌≡◌, Bool, false, ◌&&◌, List, length, take, replicate, leb, eqb, None, Ok, Err}
use Rattle.numbers.specs.Bytes.{be}
use Rattle.types.specs.Row.{row_bytes}
use Rattle.types.specs.Refusals.{refusal}
use Rattle.types.specs.declared.Reason.{Reason}
use Rattle.types.specs.declared.Refusal.{Refusal}
use Rattle.parts.specs.Scan.{scan_step_at}
use Rattle.parts.specs.Walk.{Reached}
use Rattle.parts.specs.declared.walk.Stop.{Stop}
use Rattle.parts.specs.declared.walk.Passed.{Passed}
use Rattle.parts.specs.declared.walk.Stop.TheVariants as stop
use Rattle.types.specs.declared.Reason.TheVariants.{TableTooSmall}

-- a row's bytes are zeros, by three numbers of 8 that overlap
unfoldable pub blank_at : List ℕ → ℕ → Bool
blank_at t row = eqb (be 8 t row) 0 && (eqb (be 8 t (row + 8)) 0 && eqb (be 8 t (row + 13)) 0)

-- a row stands there, and is zeros
abbrev pub free_at : List ℕ → ℕ → Bool
free_at t row = leb (row + row_bytes) (length t) && blank_at t row

-- why it went no further: the next row was not free, or the scan ends there
abbrev pub BegunBy : Stop → List ℕ → List ℕ → Passed → Type 0
BegunBy stop.Full s table p = free_at table (row_bytes * p.count) ≡ false
BegunBy stop.Ended s table p = scan_step_at s p.at ≡ Ok None
BegunBy (stop.Refused r) s table p = scan_step_at s p.at ≡ Err r

-- so many records were passed, and their rows were zeros
pub record Begins (s : List ℕ) (start : ℕ) (table : List ℕ) (p : Passed) : Type 0 where
  pub reached : Reached s start p.at p.count
  pub room : row_bytes * p.count ≤ length table
  pub blank : take (row_bytes * p.count) table ≡ replicate (row_bytes * p.count) 0
  pub stopped : BegunBy p.stop s table p

-- a refusal behind so many records: the place of 18 is the entries needed, these among them
abbrev pub place_behind : Reason → ℕ → ℕ → ℕ
place_behind TableTooSmall count place = count + place
place_behind other count place = place

unfoldable pub refused_behind : ℕ → Refusal → Refusal
refused_behind count r = refusal r.reason (place_behind r.reason count r.place)
