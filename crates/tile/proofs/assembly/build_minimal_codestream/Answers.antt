-- The assembly is judged before a byte is written, so each return is one of the ways that a call ends.
use Prim.Native.Nat.{ℕ, ◌+◌, ◌-◌, ◌^◌, ◌≤◌, ◌<◌, min}
use native.Mathlib.Omega.{arith}
use native.Mathlib.Nat.{zero-add}
use mathlib.Core.List.{List, ◌++◌, append_assoc}
use mathlib.Core.Path.{◌≡◌, sym, ap, ◌∙◌}
use lib.ListN.{length, length-append}
use Rattle.std.specs.Prelude.{Option, Result, Ok, Err}
use Rattle.tile.proofs.AssemblyLaws.{for_room, length_assembled, judged_saturated}
use Rattle.tile.proofs.RewriteHeader.{length_cut, judged_bytes, over_refused, over_bytes}
use Rattle.tile.proofs.RewriteLaws.{judged_refused}
use Rattle.tile.proofs.RulesLaws.{passed_on}
use Rattle.types.specs.declared.Refusal.{Refusal}
use Rattle.tile.specs.declared.rules.Rule.{Rule}
use Rattle.tile.specs.Assembly.{parts_in, size_for, joined, assembled, answer_for, assembly_answer, assembly_out}
use Rattle.tile.specs.Rewrite.{cut_to, judged, over}
use Rattle.types.specs.Markers.{EOC}
use Rattle.types.specs.Row.{records_in}
use Rattle.numbers.proofs.BytesLaws.{length_bytes, put_put}
use Rattle.numbers.specs.Bytes.{bytes_of, put}
use Rattle.tile.proofs.assembly.build_minimal_codestream.Goals as goal
use Rattle.types.specs.declared.Area.{Area}

-- header, parts and EOC written one after the other are the whole written at once
whole : (rule : Rule) (h : List ℕ) (parts : List (List ℕ)) (out : List ℕ) → length (assembled rule h parts) ≤ length out
    → put (put (put out 0 (cut_to (size_for rule h parts) h)) (length h) (joined parts)) (length h + length (joined parts)) (bytes_of 2 EOC) ≡ put out 0 (assembled rule h parts)
unfolding assembled
whole rule h parts out room =
    let head : List ℕ = cut_to (size_for rule h parts) h in
    let body : List ℕ = joined parts in
    let long : length head ≡ length h = length_cut (size_for rule h parts) h (for_room rule h parts) in
    let both : length (head ++ body) ≡ length h + length body = simp length-append (omega arith) in
    let total = length_assembled rule h parts in
    let first : put (put out 0 head) (length h) body ≡ put out 0 (head ++ body) =
    ap (λ (n : ℕ). put (put out 0 head) n body) (sym (zero-add (length h))) ∙ put_put out 0 head body (length h) long (omega arith) in
    ap (λ (o : List ℕ). put o (length h + length body) (bytes_of 2 EOC)) first
    ∙ ap (λ (n : ℕ). put (put out 0 (head ++ body)) n (bytes_of 2 EOC)) (sym (zero-add (length h + length body)))
    ∙ put_put out 0 (head ++ body) (bytes_of 2 EOC) (length h + length body) both (omega (arith, length_bytes 2 EOC))
    ∙ ap (put out 0) (append_assoc head body (bytes_of 2 EOC))

-- ---- the answer

module _ (rule : Rule) (h : List ℕ) (parts : List (List ℕ)) (out : List ℕ) where
  refused : {r : Refusal} → Err r ≡ size_for rule h parts → answer_for rule h parts (length out) ≡ Err r
  unfolding answer_for
  refused e = judged_refused _ _ _ _ (sym e)

  -- a refusal leaves the output as it was
  kept : {r : Refusal} → answer_for rule h parts (length out) ≡ Err r → out ≡ over (answer_for rule h parts (length out)) (assembled rule h parts) out
  kept e = sym (over_refused _ _ _ _ e)

  -- a size that stays at 2^64-1 is judged as the size of the whole is
  module _ (size : Option Area) (needed : ℕ) (fits : length out < 2 ^ 64 - 1)
      (chosen : ◌≡◌ {A = Result (Option Area) Refusal} (Ok size) (size_for rule h parts)) (summed : needed ≡ min (length h + 2 + length (joined parts)) (2 ^ 64 - 1)) where
    sized : answer_for rule h parts (length out) ≡ judged (Ok size) needed (length out)
    unfolding answer_for
    sized =
        let all : ℕ = length (assembled rule h parts) in
        let sum : needed ≡ min all (2 ^ 64 - 1) = rw length_assembled summed in
        sym (judged_saturated (size_for rule h parts) all (length out) fits)
        ∙ ap (λ (n : ℕ). judged (size_for rule h parts) n (length out)) (sym sum)
        ∙ ap (λ (s : Result (Option Area) Refusal). judged s needed (length out)) (sym chosen)

    module _ {n : ℕ} (told : ◌≡◌ {A = Result ℕ Refusal} (Ok n) (judged (Ok size) needed (length out))) where
      -- an answer of so many bytes has the room
      accepted : (length (assembled rule h parts) ≡ n) × (length (assembled rule h parts) ≤ length out)
      accepted =
          let r = judged_bytes (Ok size) needed (length out) n (sym told) in
          let all = length_assembled rule h parts in
          (omega (arith, summed, fits, r), omega (arith, summed, fits, r))

      room : length h + length (joined parts) + 2 ≤ length out
      room = omega (arith, accepted, length_assembled rule h parts)

      written : put (put (put out 0 (cut_to (Ok size) h)) (length h) (joined parts)) (length h + length (joined parts)) (bytes_of 2 EOC)
          ≡ over (answer_for rule h parts (length out)) (assembled rule h parts) out
      written =
          ap (λ (s : Result (Option Area) Refusal). put (put (put out 0 (cut_to s h)) (length h) (joined parts)) (length h + length (joined parts)) (bytes_of 2 EOC)) chosen
          ∙ whole rule h parts out accepted.1
          ∙ sym (over_bytes _ _ (assembled rule h parts) out (sized ∙ sym told) accepted.0)

-- ---- the goals

pub returns-in_err-size : goal.returns-in_err-size
unfolding assembly_out assembly_answer
returns-in_err-size c =
    let e = refused c.args.rule c.args.decode_header.now (parts_in c.args.codestream.now (records_in c.args.tile_parts.now)) c.args.out.now c.in_err-size.ensures in
    record { value = passed_on _ _ c.from_residual.ensures.1 ∙ sym e; out_after = kept _ _ _ _ e }

pub returns-in_err-needed : goal.returns-in_err-needed
unfolding assembly_out assembly_answer
returns-in_err-needed c =
    let e = sized c.args.rule c.args.decode_header.now (parts_in c.args.codestream.now (records_in c.args.tile_parts.now)) c.args.out.now
    _ _ (omega arith) c.in_ok-size.ensures c.size_needed-all.ensures ∙ sym c.in_err-needed.ensures in
    record { value = passed_on _ _ c.from_residual-in_err-needed.ensures.1 ∙ sym e; out_after = kept _ _ _ _ e }

pub write_header-requires : goal.write_header-requires
write_header-requires c =
    record {
      room = rw c.in_ok-size.ensures (for_room _ _ _);
      header_in_bounds = omega (arith, room _ _ _ _ _ _ (omega arith) c.in_ok-size.ensures c.size_needed-all.ensures c.in_ok-needed.ensures);
    }

pub write_parts-end-requires : goal.write_parts-end-requires
write_parts-end-requires c =
    omega (arith, room _ _ _ _ _ _ (omega arith) c.in_ok-size.ensures c.size_needed-all.ensures c.in_ok-needed.ensures)

pub write_u16-requires : goal.write_u16-requires
write_u16-requires c =
    omega (arith, room _ _ _ _ _ _ (omega arith) c.in_ok-size.ensures c.size_needed-all.ensures c.in_ok-needed.ensures, c.write_parts-end.ensures.value)

pub returns : goal.returns
unfolding assembly_out assembly_answer
returns c =
    let h : List ℕ = c.args.decode_header.now in
    let out : List ℕ = c.args.out.now in
    let body : List ℕ = joined (parts_in c.args.codestream.now (records_in c.args.tile_parts.now)) in
    let both = c.write_parts-end.ensures.out_after ∙ ap (λ (o : List ℕ). put o (length h) body) c.write_header.ensures in
    record {
      value = c.in_ok-needed.ensures ∙ sym (sized _ _ _ _ _ _ (omega arith) c.in_ok-size.ensures c.size_needed-all.ensures);
      out_after =
          c.write_u16.ensures
          ∙ ap (λ (n : ℕ). put c.write_parts-end.new.out n (bytes_of 2 EOC)) c.write_parts-end.ensures.value
          ∙ ap (λ (o : List ℕ). put o (length h + length body) (bytes_of 2 EOC)) both
          ∙ written _ _ _ _ _ _ (omega arith) c.in_ok-size.ensures c.size_needed-all.ensures c.in_ok-needed.ensures;
    }
