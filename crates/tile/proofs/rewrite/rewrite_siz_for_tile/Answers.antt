-- The rewrite is judged before a byte is written, so each return is one of the ways that a call ends.
use Prim.Native.Nat.{ℕ, ◌≤◌}
use mathlib.Core.List.{List}
use mathlib.Core.Path.{◌≡◌, sym, ap, ◌∙◌}
use lib.ListN.{length}
use Rattle.std.specs.Prelude.{Option, Result, Ok, Err}
use Rattle.numbers.specs.Bytes.{put}
use Rattle.types.specs.declared.Area.{Area}
use Rattle.types.specs.declared.Refusal.{Refusal}
use Rattle.tile.proofs.RewriteHeader.{size_room, judged_bytes, over_refused, over_bytes, length_rewritten}
use Rattle.tile.specs.declared.rules.Rule.{Rule}
use Rattle.tile.specs.Rewrite.{tile_size, cut_to, judged, rewrite_answer, rewritten, rewrite_out}
use Rattle.tile.proofs.rewrite.rewrite_siz_for_tile.Goals as goal

-- what the rewrite comes to, and the answer to it
module _ (rule : Rule) (h : List ℕ) (isot : ℕ) (out : List ℕ) {size : Result (Option Area) Refusal} {answer : Result ℕ Refusal}
    (sized : size ≡ tile_size rule h isot) (judge : answer ≡ judged size (length h) (length out)) where
  answered : answer ≡ rewrite_answer rule h isot (length out)
  unfolding rewrite_answer
  answered = cc

  -- a refusal leaves the output as it was
  kept : {r : Refusal} → answer ≡ Err r → out ≡ rewrite_out rule h isot out
  unfolding rewrite_out
  kept e = sym (over_refused _ _ _ _ (sym answered ∙ e))

  -- all bytes have room
  room : {n : ℕ} → answer ≡ Ok n → length h ≤ length out
  room e = (judged_bytes _ _ _ _ (sym judge ∙ e)).1

  written : {n : ℕ} → answer ≡ Ok n → put out 0 (cut_to size h) ≡ rewrite_out rule h isot out
  unfolding rewrite_out rewritten
  written e =
      ap (λ (s : Result (Option Area) Refusal). put out 0 (cut_to s h)) sized
      ∙ sym
      (over_bytes _ _ (rewritten rule h isot) _ (sym answered ∙ e)
      (length_rewritten rule h isot ∙ (judged_bytes _ _ _ _ (sym judge ∙ e)).0))

pub returns-in_default : goal.returns-in_default
returns-in_default c =
    let sized = c.tile_size-size.ensures in
    let judge = c.judge-answer.ensures in
    record { value = answered _ _ _ _ sized judge; out_after = kept _ _ _ _ sized judge c.in_default.is }

pub write_header-requires : goal.write_header-requires
write_header-requires c =
    record {
      room = rw c.tile_size-size.ensures (size_room _ _ _);
      header_in_bounds = room _ _ _ _ c.tile_size-size.ensures c.judge-answer.ensures c.in-Ok.is;
    }

pub returns : goal.returns
returns c =
    let sized = c.tile_size-size.ensures in
    let judge = c.judge-answer.ensures in
    record { value = answered _ _ _ _ sized judge; out_after = c.write_header.ensures ∙ written _ _ _ _ sized judge c.in-Ok.is }
