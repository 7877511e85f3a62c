-- Where the header walk stands at a marker (docs/RULES.md, "Markers in the header"): said of the positions that the walk visits, so that bytes inside a
-- segment, or behind the first SOT, are none.
use Rattle.std.specs.Prelude.{ℕ, cond, List, [], ◌∷◌, eqb, Option, Some, None, Result, Ok, Err}
use Rattle.numbers.specs.Bytes.{be}
use Rattle.chain.specs.Chain.{Visit}
use Rattle.header.specs.Walk.{walk_from}
use Rattle.header.specs.Parse.{judged}
use Rattle.header.specs.declared.parse.MainHeaderInfo.{MainHeaderInfo}
use Rattle.types.specs.declared.CodestreamOffset.{CodestreamOffset}
use Rattle.types.specs.declared.Refusal.{Refusal}

-- the first visit with a marker
unfoldable pub first_of : List ℕ → ℕ → List Visit → Result (Option CodestreamOffset) Refusal
first_of s marker [] = Ok None
first_of s marker (v ∷ rest) = cond (eqb (be 2 s v.at) marker) (Ok (Some (record { 0 = v.at }))) (first_of s marker rest)

-- a header that is refused is refused as its reading is, but for room
unfoldable pub find_in : Result MainHeaderInfo Refusal → List ℕ → ℕ → Result (Option CodestreamOffset) Refusal
unfolding first_of
find_in (Ok h) s marker = first_of s marker (walk_from s 2).visits
find_in (Err r) s marker = Err r

unfoldable pub finding : List ℕ → ℕ → Result (Option CodestreamOffset) Refusal
unfolding find_in
finding s marker = find_in (judged s) s marker
