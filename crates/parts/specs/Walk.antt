-- The judging walk and its marks: what passing some tile-parts says of the scan, and the runs that the marks lead to.
use Rattle.std.specs.Prelude.{ℕ, zero, suc, ◌+◌, ◌-◌, ◌*◌, ◌/◌, ◌≤◌, ◌<◌, cond, ◌≡◌, List, length, get_or, drop, ltb, None, Result, Ok, Err}
use Rattle.parts.specs.Scan.{part_at, scan_step_at, scan_from, entries_from}
use Rattle.parts.specs.declared.walk.Stop.{Stop}
use Rattle.parts.specs.declared.walk.Passed.{Passed}
use Rattle.parts.specs.declared.walk.Quarters.{Quarters}
use Rattle.parts.specs.declared.walk.Stop.TheVariants as stop
use Rattle.types.specs.declared.Refusal.{Refusal}

-- ---- some tile-parts passed

-- so many records lie between the two: those from there on are the ones behind them, and the scan ends as from the start
pub record Reached (s : List ℕ) (start at count : ℕ) : Type 0 where
  pub counted : count + length (entries_from s at) ≡ length (entries_from s start)
  pub rest : entries_from s at ≡ drop count (entries_from s start)
  pub ends : (scan_from s at).ended ≡ (scan_from s start).ended

-- why it went no further: as many were passed as were asked for, or the scan ends there, after fewer
abbrev pub StoppedBy : Stop → List ℕ → Passed → ℕ → Type 0
StoppedBy stop.Full s p most = p.count ≡ most
StoppedBy stop.Ended s p most = (p.count < most) × (scan_step_at s p.at ≡ Ok None)
StoppedBy (stop.Refused r) s p most = scan_step_at s p.at ≡ Err r

-- at most so many were passed
pub record Passes (s : List ℕ) (start most : ℕ) (p : Passed) : Type 0 where
  pub few : p.count ≤ most
  pub reached : Reached s start p.at p.count
  pub stopped : StoppedBy p.stop s p most

-- ---- marks

-- as many marks: every other one stands in the first half, and the second half is as it was
pub record Halved (before after : List ℕ) : Type 0 where
  pub size : length after ≡ length before
  pub kept : (j : ℕ) → j < 32 → get_or after j 0 ≡ get_or before (2 * j) 0
  pub left : (j : ℕ) → 32 ≤ j → get_or after j 0 ≡ get_or before j 0

-- the runs by so many marks with a stride between one and the next
abbrev pub quarters_by : ℕ → ℕ → ℕ → List ℕ → Quarters
quarters_by parts stride used marks =
    record {
      parts = parts;
      turns = (used - 2) / 4 * stride;
      second = get_or marks ((used - 2) / 4) 0;
      third = get_or marks (2 * ((used - 2) / 4)) 0;
      fourth = get_or marks (3 * ((used - 2) / 4)) 0;
    }

-- all records are counted; where there is one, it follows the four runs; and each run starts behind those before it
pub record Quartered (s : List ℕ) (start : ℕ) (q : Quarters) : Type 0 where
  pub parts : q.parts ≡ length (entries_from s start)
  pub followed : 4 * q.turns ≤ q.parts - 1
  pub second : entries_from s q.second ≡ drop q.turns (entries_from s start)
  pub third : entries_from s q.third ≡ drop (2 * q.turns) (entries_from s start)
  pub fourth : entries_from s q.fourth ≡ drop (3 * q.turns) (entries_from s start)

abbrev pub Runs : List ℕ → ℕ → Result Quarters Refusal → Type 0
Runs s start (Ok q) = Quartered s start q
Runs s start (Err r) = Unit {0}

-- ---- the answer

-- a stride doubled, so often at most, until 64 of it are more than n records
unfoldable pub stride_up : ℕ → ℕ → ℕ → ℕ
stride_up zero stride n = stride
stride_up (suc often) stride n = cond (ltb n (64 * stride)) stride (stride_up often (2 * stride) n)

-- the stride of the marks of n records; 64 times is more often than any count needs
unfoldable pub stride_of : ℕ → ℕ
stride_of n = stride_up 64 2 n

-- the records of a run: of the full strides but the last a fourth
abbrev pub turns_of : ℕ → ℕ
turns_of n = (n / stride_of n - 1) / 4 * stride_of n

-- where the record with k before it stands; the start, where there is none
abbrev pub place_of : List ℕ → ℕ → ℕ → ℕ
place_of s start k = (get_or (entries_from s start) k (part_at s start)).offset.0

-- the runs of a scan of n records
unfoldable pub quarters_of : List ℕ → ℕ → ℕ → Quarters
quarters_of s start n =
    record {
      parts = n;
      turns = turns_of n;
      second = place_of s start (turns_of n);
      third = place_of s start (2 * turns_of n);
      fourth = place_of s start (3 * turns_of n);
    }

-- an answer of the scan, with the runs where there is a table
unfoldable pub walked_as : List ℕ → ℕ → Result ℕ Refusal → Result Quarters Refusal
walked_as s start (Ok n) = Ok (quarters_of s start n)
walked_as s start (Err r) = Err r
