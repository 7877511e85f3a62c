-- The entries of a scan adjoin: from the start, each where the one before ends, all inside the codestream, up to where the scan stopped.
use Prim.Native.Nat.{ℕ, ◌+◌, ◌-◌}
use native.Mathlib.Omega.{arith}
use mathlib.Core.Path.{◌≡◌, refl}
use mathlib.Core.List.{List, [], map}
use lib.ListN.{length}
use Rattle.chain.specs.Chain.{Visit, Run, stay, step}
use Rattle.chain.proofs.ChainLaws.{chain_run}
use Rattle.parts.specs.Scan.{ended, move_at, scan_from, recorded, entries_from}
use Rattle.parts.specs.Tiles.{Adjoining, none, more}
use Rattle.parts.proofs.ScanLaws.{move_passed, rises}

run_adjoins : (s : List ℕ) {at stop : ℕ} {visits : List Visit} → Run (move_at s) at visits stop → Adjoining (length s) at (map (recorded s) visits) stop
run_adjoins s stay = none
run_adjoins s (step {at = at} {next = next} {stop = stop} {rest = visits} found past rest) =
    let p = move_passed s at next found in
    let ends : at + (next - at) ≡ next = omega arith in
    let tail : Adjoining (length s) (at + (next - at)) (map (recorded s) visits) stop = rw ends (run_adjoins s rest) in
    more {e = recorded s (record { at = at; next = next })} refl (omega arith) (omega arith) tail

-- of every scan, accepted or refused
pub scan_adjoins : (s : List ℕ) (start : ℕ) → Adjoining (length s) start (entries_from s start) (scan_from s start).stopped
unfolding entries_from scan_from
scan_adjoins s start = run_adjoins s (chain_run ended (move_at s) (length s) (rises s) start)

-- an empty table: the scan stopped where it started
pub none_stops : {limit at to : ℕ} → Adjoining limit at [] to → at ≡ to
none_stops none = refl
