-- The copy of the decode header, run by run: what was written, the run still to be copied and what lies ahead make up the whole.
use Prim.Native.Nat.{ℕ, ◌+◌, ◌-◌, ◌≤◌}
use native.Mathlib.Nat.{sub_self}
use native.Mathlib.Omega.{arith}
use mathlib.Core.Path.{◌≡◌, refl, sym, ap, ◌∙◌}
use mathlib.Core.List.{List, [], ◌++◌, append-nil, append_assoc}
use lib.ListN.{length, take, drop, length-append, length-take}
use lib.Seq.{take-add, drop-drop}
use Rattle.std.specs.Prelude.{Some, Ok, None}
use Rattle.numbers.specs.Bytes.{put}
use Rattle.numbers.proofs.BytesLaws.{put_put, length_put}
use Rattle.header.specs.Walk.{walk_step_at, walk_from}
use Rattle.header.specs.Strip.{decode_header}
use Rattle.header.specs.declared.walk.Passed.{Passed as Passing}
use Rattle.header.proofs.WalkLaws.{passed_is}
use Rattle.header.proofs.WalkVisited.{kept_from, kept_plain, kept_tlm, length_visited}

-- the bytes of a run
abbrev pub run : List ℕ → ℕ → ℕ → List ℕ
run s from at = take (at - from) (drop from s)

-- two runs that adjoin are one
pub run_join : (s : List ℕ) (from at next : ℕ) → from ≤ at → at ≤ next → run s from at ++ run s at next ≡ run s from next
run_join s from at next h k =
    let back : from + (at - from) ≡ at = omega arith in
    let there : drop (at - from) (drop from s) ≡ drop at s = drop-drop (at - from) from s ∙ ap (λ (n : ℕ). drop n s) back in
    let sum : (at - from) + (next - at) ≡ next - from = omega arith in
    sym (ap (λ (n : ℕ). take n (drop from s)) (sym sum) ∙ take-add (at - from) (next - at) (drop from s) ∙ rw there)

pub record Stripping (s lent out : List ℕ) (from to at : ℕ) : Type 0 where
  pub order : from ≤ at
  pub inside : at ≤ length s
  pub same : length out ≡ length lent
  pub room : to + ((at - from) + length (kept_from s at)) ≤ length out
  pub whole : put out to (take (at - from) (drop from s) ++ kept_from s at) ≡ put lent 0 (decode_header s (walk_from s 2).visits)

pub stripping_start : (s out : List ℕ) → 2 ≤ length s → length (decode_header s (walk_from s 2).visits) ≤ length out → Stripping s out out 0 0 2
unfolding decode_header
stripping_start s out h room =
    record {
      order = omega arith;
      inside = h;
      same = refl;
      room = omega (arith, simp (length-append, length-take) at room);
      whole = refl;
    }

module _ (s lent out : List ℕ) (from to at : ℕ) (c : Stripping s lent out from to at) where
  length_run : length (run s from at) ≡ at - from
  length_run = length_visited s from at c.inside

  pub stripping_plain : (p : Passing) → walk_step_at s at ≡ Ok (Some p) → p.tlm ≡ None → Stripping s lent out from to p.next
  stripping_plain p found plain =
      let told = passed_is s at p found in
      let past = told.past in
      let ahead = kept_plain s at p found plain in
      let longer = ap length ahead ∙ length-append (run s at p.next) (kept_from s p.next) in
      record {
        order = omega (arith, c.order);
        inside = told.inside;
        same = c.same;
        room = omega (arith, c.room, c.order, longer, length_visited s at p.next told.inside);
        whole =
            ap (put out to)
            (ap (λ (r : List ℕ). r ++ kept_from s p.next) (sym (run_join s from at p.next c.order (omega arith)))
            ∙ append_assoc (run s from at) (run s at p.next) (kept_from s p.next)
            ∙ ap (λ (k : List ℕ). run s from at ++ k) (sym ahead))
            ∙ c.whole;
      }

  -- the run was copied, and a TLM segment is left out
  pub stripping_tlm : (p : Passing) {count : ℕ} → walk_step_at s at ≡ Ok (Some p) → p.tlm ≡ Some count → (written : List ℕ) → written ≡ put out to (run s from at)
      → Stripping s lent written p.next (to + (at - from)) p.next
  stripping_tlm p found is written e =
      let told = passed_is s at p found in
      let ahead = kept_tlm s at p found is in
      let room : to + ((at - from) + length (kept_from s p.next)) ≤ length out = omega (arith, c.room, ap length ahead) in
      let kept-length : length written ≡ length out = ap length e ∙ length_put out to (run s from at) (omega (arith, length_run)) in
      record {
        order = omega arith;
        inside = told.inside;
        same = kept-length ∙ c.same;
        room = omega arith;
        whole =
            rw (sub_self, e)
            (put_put out to (run s from at) (kept_from s p.next) (at - from) length_run room
            ∙ ap (λ (k : List ℕ). put out to (run s from at ++ k)) (sym ahead)
            ∙ c.whole);
      }

  -- the last run was copied
  pub stripping_done : kept_from s at ≡ [] → put out to (run s from at) ≡ put lent 0 (decode_header s (walk_from s 2).visits)
  stripping_done none =
      ap (put out to) (sym (append-nil (run s from at)) ∙ ap (λ (k : List ℕ). run s from at ++ k) (sym none)) ∙ c.whole
