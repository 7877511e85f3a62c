-- The search's answer for C: the codestream's start in the file or the refusal's place; its length, which a refusal leaves.
use Rattle.std.specs.Prelude.{ℕ, Result, Ok, Err}
use Rattle.types.specs.declared.Refusal.{Refusal}
use Rattle.reader.specs.declared.search.Codestream.{Codestream}

abbrev pub found_start : Result Codestream Refusal → ℕ
found_start (Ok c) = c.start.0
found_start (Err r) = r.place

abbrev pub found_length : Result Codestream Refusal → ℕ → ℕ
found_length (Ok c) held = c.length
found_length (Err r) held = held
