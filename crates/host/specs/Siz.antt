-- The SIZ reading's answer for C: its number, 0 where it accepts; width, height, components, bits, and 1 for a sign.
-- A refusal's place stands in the width; the others stay.
use Rattle.std.specs.Prelude.{ℕ, cond, Result, Ok, Err}
use Rattle.reader.specs.declared.siz.SizInfo.{SizInfo}
use Rattle.types.specs.declared.Refusal.{Refusal}

abbrev pub siz_width : Result SizInfo Refusal → ℕ
siz_width (Ok i) = i.width
siz_width (Err r) = r.place

abbrev pub siz_height : Result SizInfo Refusal → ℕ → ℕ
siz_height (Ok i) held = i.height
siz_height (Err r) held = held

abbrev pub siz_components : Result SizInfo Refusal → ℕ → ℕ
siz_components (Ok i) held = i.num_components
siz_components (Err r) held = held

abbrev pub siz_bits : Result SizInfo Refusal → ℕ → ℕ
siz_bits (Ok i) held = i.bits_per_component
siz_bits (Err r) held = held

abbrev pub siz_signed : Result SizInfo Refusal → ℕ → ℕ
siz_signed (Ok i) held = cond i.is_signed 1 0
siz_signed (Err r) held = held
