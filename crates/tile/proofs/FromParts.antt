-- Parts that are lent one after the other, with a row for each: the ranges' parts are those parts, so the assembly is theirs.
use Prim.Native.Nat.{ℕ, ◌+◌, ◌<◌, ◌^◌}
use native.Mathlib.Omega.{arith}
use mathlib.Core.Path.{◌≡◌, refl, sym, ap, ap₂, ◌∙◌}
use mathlib.Core.List.{List, [], ◌∷◌, ◌++◌, flatten, append_assoc}
use lib.ListN.{length, take, drop, length-append}
use lib.Seq.{take-append_seam, drop-append_seam}
use Rattle.std.specs.Prelude.{Option, Result}
use Rattle.types.specs.Row.{rows_of, records_in}
use Rattle.types.proofs.RowLaws.{Fits}
use Rattle.types.proofs.RowReading.{All, none, more, records_back}
use Rattle.tile.specs.Rewrite.{over}
use Rattle.tile.specs.declared.rules.Rule.{Rule}
use Rattle.tile.specs.Assembly.{and_part, parts_in, assembled, answer_for, assembly_answer, assembly_out}
use Rattle.tile.specs.FromParts.{lying, laid}
use Rattle.tile.proofs.AssemblyRanges.{part_kept}
use Rattle.types.specs.declared.Refusal.{Refusal}

laid_fits : (at : ℕ) (parts : List (List ℕ)) → at + length (flatten parts) < 2 ^ 64 → All Fits (laid at parts)
unfolding laid flatten
laid_fits at [] h = none
laid_fits at (part ∷ rest) h =
    let long = length-append part (flatten rest) in
    let fits : Fits (lying at (length part)) = record { index = omega arith; offset = omega arith; length = omega arith } in
    more fits (laid_fits (at + length part) rest (omega arith))

-- a part behind others
here : (front part rest : List ℕ) → take (length part) (drop (length front) (front ++ (part ++ rest))) ≡ part
here front part rest = rw drop-append_seam (take-append_seam part rest)

laid_parts : (front : List ℕ) (parts : List (List ℕ)) → parts_in (front ++ flatten parts) (laid (length front) parts) ≡ parts
unfolding laid flatten parts_in and_part
laid_parts front [] = refl
laid_parts front (part ∷ rest) =
    let s : List ℕ = front ++ (part ++ flatten rest) in
    ap (λ (p : Option (List ℕ)). and_part p (parts_in s (laid (length front + length part) rest)))
    (part_kept s (lying (length front) (length part)) (simp length-append (omega arith)))
    ∙ ap₂ (λ (p : List ℕ) (ps : List (List ℕ)). p ∷ ps)
    (here front part (flatten rest))
    (ap₂ (λ (l : List ℕ) (n : ℕ). parts_in l (laid n rest)) (sym (append_assoc front part (flatten rest))) (sym (length-append front part))
    ∙ laid_parts (front ++ part) rest)

module _ (parts : List (List ℕ)) (fits : length (flatten parts) < 2 ^ 64) where
  pub from_parts : parts_in (flatten parts) (records_in (rows_of (laid 0 parts))) ≡ parts
  from_parts = ap (parts_in (flatten parts)) (records_back (laid_fits 0 parts (omega arith))) ∙ laid_parts [] parts

  module _ (rule : Rule) (h : List ℕ) where
    pub from_parts_answer : (room : ℕ) → assembly_answer rule h (rows_of (laid 0 parts)) (flatten parts) room ≡ answer_for rule h parts room
    unfolding assembly_answer
    from_parts_answer room = ap (λ (ps : List (List ℕ)). answer_for rule h ps room) from_parts

    pub from_parts_out : (out : List ℕ)
        → assembly_out rule h (rows_of (laid 0 parts)) (flatten parts) out ≡ over (answer_for rule h parts (length out)) (assembled rule h parts) out
    unfolding assembly_out
    from_parts_out out =
        ap₂ (λ (a : Result ℕ Refusal) (ps : List (List ℕ)). over a (assembled rule h ps) out) (from_parts_answer (length out)) from_parts
