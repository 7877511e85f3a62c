-- Areas of the reference grid within one another, and their points.
use Rattle.std.specs.Prelude.{ℕ, ◌≤◌, ◌<◌}
use Rattle.types.specs.declared.Area.{Area}

-- an area that lies in another and ends no sooner than it starts
pub record Inside (a b : Area) : Type 0 where
  pub left : b.x0 ≤ a.x0
  pub wide : a.x0 ≤ a.x1
  pub right : a.x1 ≤ b.x1
  pub top : b.y0 ≤ a.y0
  pub high : a.y0 ≤ a.y1
  pub bottom : a.y1 ≤ b.y1

-- a point of an area
pub record Has (a : Area) (x y : ℕ) : Type 0 where
  pub left : a.x0 ≤ x
  pub right : x < a.x1
  pub top : a.y0 ≤ y
  pub bottom : y < a.y1
