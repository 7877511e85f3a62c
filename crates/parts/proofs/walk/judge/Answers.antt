-- All tile-parts are passed, for the codestream has fewer than most: where the pass stops, they are counted.
use Prim.Native.Nat.{ℕ, ◌<◌}
use native.Mathlib.Omega.{arith}
use mathlib.Core.List.{List}
use mathlib.Core.Logic.{◌⊎◌, ⊎_elim}
use mathlib.Core.Path.{◌≡◌}
use lib.ListN.{length}
use Rattle.std.specs.Prelude.{Ok}
use Rattle.parts.proofs.WalkLaws.{reached_few, reached_ended, reached_refused}
use Rattle.parts.specs.Scan.{scan_from, judged}
use Rattle.parts.specs.Walk.{StoppedBy, Reached}
use Rattle.parts.specs.declared.walk.Passed.{Passed}
use Rattle.parts.specs.declared.walk.Stop.{Stop}
use Rattle.parts.specs.declared.walk.Stop.TheVariants.{Full, Ended, Refused}
use Rattle.parts.proofs.walk.judge.Goals as goal

all : {s : List ℕ} {start most : ℕ} (p : Passed) (stop : Stop) → StoppedBy stop s p most → Reached s start p.at p.count → length s < most
    → (stop ≡ Full) ⊎ (stop ≡ Ended) → Ok p.count ≡ judged (scan_from s start)
all p Full why i short k = absurd (omega (arith, reached_few i))
all p Ended why i short k = reached_ended why.1 i
all p (Refused r) why i short k = absurd (⊎_elim (λ e. cc) (λ e. cc) k)

pub returns-in-Full : goal.returns-in-Full
returns-in-Full c =
    all {most = 18446744073709551615} c.pass-passed.result c.pass-passed.result.stop c.pass-passed.ensures.stopped c.pass-passed.ensures.reached (omega arith) c.in-Full.is

pub returns-in-Refused : goal.returns-in-Refused
returns-in-Refused c =
    reached_refused (rw c.in-Refused.is at c.pass-passed.ensures.stopped) c.pass-passed.ensures.reached
