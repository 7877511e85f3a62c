-- The part that is lent is as long as the source, so what the copy leaves is one replacement; and so it is where the bytes are copied
-- in pieces, each behind the one before: a body that copies so, as the wrong programs do, fails only by what it copies.
use Prim.Native.Nat.{ℕ, ◌+◌, ◌≤◌}
use mathlib.Core.Path.{◌≡◌, sym, ap, ◌∙◌}
use mathlib.Core.List.{List}
use lib.ListN.{length, take, drop, length-take, length-drop}
use lib.Seq.{take-add, take_all, length-take-le}
use native.Mathlib.Omega.{arith}
use borrow.Rule.Slice.PartMut.{put_mid}
use Rattle.numbers.specs.Bytes.{put}
use Rattle.numbers.proofs.BytesLaws.{put_copy, put_put}
use Rattle.numbers.proofs.copy_at.Goals as goal

-- a copy onto k items from at on
copied : (s : List ℕ) (at k : ℕ) (bs : List ℕ) → k ≡ length bs → put_mid at k s bs ≡ put s at bs
copied s at k bs e = rw e (ap (λ (n : ℕ). put_mid at n s bs) (omega arith) ∙ put_copy s at bs)

-- the first k items of what is copied
put_first : (s bs : List ℕ) (at k n : ℕ) → n ≡ k → k ≤ length bs → put_mid at n s (take k bs) ≡ put s at (take k bs)
put_first s bs at k n e fits = rw e (copied s at k (take k bs) (sym (length-take-le k bs fits)))

-- one piece more of it, behind the first i items
put_more : (s bs : List ℕ) (at i j to k : ℕ) → to ≡ at + i → j ≡ i → i + k ≤ length bs → at + length bs ≤ length s
    → put_mid to k (put s at (take i bs)) (take k (drop j bs)) ≡ put s at (take (i + k) bs)
put_more s bs at i j to k e f fits room =
    let long : length (take k (drop i bs)) ≡ k = simp (length-take, length-drop) (omega arith) in
    rw (e, f)
    (copied (put s at (take i bs)) (at + i) k (take k (drop i bs)) (sym long)
    ∙ put_put s at (take i bs) (take k (drop i bs)) i (length-take-le i bs (omega arith)) (omega arith)
    ∙ ap (put s at) (sym (take-add i k bs)))

-- and all of it
put_all : (s bs : List ℕ) (at n : ℕ) → n ≡ length bs → put s at (take n bs) ≡ put s at bs
put_all s bs at n e = ap (put s at) (take_all n bs (omega arith))

pub returns-clause-out_after : goal.returns-clause-out_after
returns-clause-out_after c = first_of (grind (arith, put_first, put_more, put_all), grind (arith, copied))
