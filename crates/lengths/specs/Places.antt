-- Where the TLM segments stand by their Ztlm, as an array of 256 has it: what the functions that the check calls say to each other.
use Rattle.std.specs.Prelude.{ℕ, ◌<◌, ◌≡◌, true, cond, List, [], ◌∷◌, length, get_or, eqb, Result, Ok, Err}
use Rattle.types.specs.declared.CodestreamOffset.{CodestreamOffset}
use Rattle.chain.specs.Chain.{Visit}
use Rattle.header.specs.Tlm.{ztlm, Accepted}
use Rattle.header.specs.Walk.{WalkEnd, at_first_sot, refused, walk_from}
use Rattle.header.specs.Strip.{is_tlm}
use Rattle.lengths.specs.Segments.{tlms_of, once, before, numbers_end}
use Rattle.types.specs.declared.Refusal.{Refusal}

-- those whose Ztlm is z, in file order
unfoldable pub having : List ℕ → ℕ → List Visit → List Visit
having h z [] = []
having h z (v ∷ rest) = cond (eqb (ztlm h v.at) z) (v ∷ having h z rest) (having h z rest)

-- what is noted of the segments with a Ztlm: 0 where there is none, and else where the only one stands
pub data Notes (h : List ℕ) (place : ℕ) (vs : List Visit) : Type 0 where
  none : place ≡ 0 → vs ≡ [] → Notes h place vs
  one : (v : Visit) → place ≡ v.at → 0 < v.at → vs ≡ v ∷ [] → is_tlm h v ≡ true → Accepted h v.at → Notes h place vs

-- nothing is noted
pub record Blank (places : List ℕ) : Type 0 where
  pub sized : length places ≡ 256
  pub empty : (z : ℕ) → z < 256 → get_or places z 0 ≡ 0

-- every segment of the header is noted
abbrev pub Noted : List ℕ → List ℕ → Type 0
Noted h places = (z : ℕ) → z < 256 → Notes h (get_or places z 0) (having h z (tlms_of h))

-- what is answered where nothing is refused, or what is refused
unfoldable pub found_as : {A : Type 0} → A → WalkEnd → Result A Refusal
found_as x at_first_sot = Ok x
found_as x (refused r) = Err r

-- how the walk ends, then 32
unfoldable pub found : List ℕ → Result CodestreamOffset Refusal
unfolding found_as before
found h = found_as (record { 0 = (walk_from h 2).stopped }) (before (walk_from h 2).ended (once h [] (tlms_of h)))

-- whether the numbers of the segments are refused
abbrev pub numbered : List ℕ → Result (Unit {0}) Refusal
numbered h = found_as tt (numbers_end h)

-- where all is found, all is noted
abbrev pub NotedIf : List ℕ → Result CodestreamOffset Refusal → List ℕ → Type 0
NotedIf h r places = (o : CodestreamOffset) → r ≡ Ok o → Noted h places
