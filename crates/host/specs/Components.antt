-- The answers of component sizes for C: a number, 0 where it accepts; what each number lent holds after, given what it held before.
-- A refusal's place stands in the first number; the others stay. No such component is 256, no refusal's number, and all numbers stay.
use Rattle.std.specs.Prelude.{ℕ, cond, Option, Some, None, Result, Ok, Err}
use Rattle.types.specs.declared.Area.{Area}
use Rattle.reader.specs.declared.components.ComponentInfo.{ComponentInfo}
use Rattle.reader.specs.declared.components.Components.{Components}
use Rattle.types.specs.declared.Refusal.{Refusal}
use Rattle.types.specs.Refusals.{refusal_number}

-- ---- the check

abbrev pub read_count : Result Components Refusal → ℕ
read_count (Ok c) = c.count
read_count (Err r) = r.place

-- one of the area's ends
abbrev pub read_end : (Area → ℕ) → Result Components Refusal → ℕ → ℕ
read_end of (Ok c) held = of c.area
read_end of (Err r) held = held

-- ---- one component

abbrev pub one_number : Result (Option ComponentInfo) Refusal → ℕ
one_number (Ok (Some i)) = 0
one_number (Ok None) = 256
one_number (Err r) = refusal_number r

abbrev pub one_bits : Result (Option ComponentInfo) Refusal → ℕ → ℕ
one_bits (Ok (Some i)) held = i.bits
one_bits (Ok None) held = held
one_bits (Err r) held = r.place

-- any other of its values
abbrev pub one_value : (ComponentInfo → ℕ) → Result (Option ComponentInfo) Refusal → ℕ → ℕ
one_value of (Ok (Some i)) held = of i
one_value of (Ok None) held = held
one_value of (Err r) held = held

-- 1 for a sign
abbrev pub sign_of : ComponentInfo → ℕ
sign_of i = cond i.is_signed 1 0

-- the ends of an area
abbrev pub left : Area → ℕ
left a = a.x0

abbrev pub top : Area → ℕ
top a = a.y0

abbrev pub right : Area → ℕ
right a = a.x1

abbrev pub bottom : Area → ℕ
bottom a = a.y1
