-- The walk that writes the TLM records: what was written and the records that lie ahead make up the whole table.
use Prim.Native.Nat.{ℕ, zero, suc, ◌+◌, ◌*◌, ◌^◌, ◌≤◌, ◌<◌}
use native.Mathlib.Nat.{mul-add}
use native.Mathlib.Omega.{arith}
use mathlib.Core.Path.{◌≡◌, refl, sym, ap, ◌∙◌}
use mathlib.Core.List.{List, []}
use lib.ListN.{length, get_or, length-append}
use Rattle.std.specs.Prelude.{None, Ok, Some}
use Rattle.numbers.specs.Bytes.{put}
use Rattle.numbers.proofs.BytesLaws.{put_put, length_put}
use Rattle.chain.specs.Chain.{Visit}
use Rattle.types.specs.declared.TilePartEntry.{TilePartEntry}
use Rattle.types.specs.Layout.{Layout}
use Rattle.types.proofs.RowStanding.{length_all, all_append, put_last}
use Rattle.header.specs.Tlm.{Entry, unindexed, entries_on, placed, total}
use Rattle.header.specs.Walk.{at_first_sot, walk_step_at, walk_from}
use Rattle.header.specs.Numbering.{next_number, entries_by}
use Rattle.header.specs.declared.numbering.Numbering.{Numbering}
use Rattle.header.specs.declared.walk.Passed.{Passed as Passing}
use Rattle.header.proofs.TlmLaws.{length_on, length_placed, placed_append}
use Rattle.header.proofs.TlmFill.{entry_bound}
use Rattle.header.proofs.WalkLaws.{passed_is}
use Rattle.header.proofs.NumberingLaws.{by_from, end_from, by_plain, by_tlm, end_plain, end_tlm, next_few, Starts, starts_0, starts_next, numbers_few}

-- an entry's length has at most 4 bytes
total_bound : (s : List ℕ) → ((i : ℕ) → get_or s i 0 < 256) → (at k i n : ℕ) → total (entries_on s at k i n) ≤ n * 2 ^ 32
unfolding total entries_on
total_bound s bytes at k i zero = omega arith
total_bound s bytes at k i (suc n) =
    let rest = total_bound s bytes at k (i + 1) n in
    omega (arith, entry_bound s at bytes k i)

module _ {B : Type 0} {width : ℕ} (L : Layout B width) (n : Numbering) where
  pub record Filling (s : List ℕ) (lent : List B) (first : ℕ) (table : List B) (row offset k at : ℕ) : Type 0 where
    pub inside : at ≤ length s
    pub starts : Starts n k
    pub ends : end_from n s k at ≡ at_first_sot
    pub same : length table ≡ length lent
    pub room : row + width * length (by_from n s k at) ≤ length table
    pub bound : offset + length (by_from n s k at) * 2 ^ 32 < 2 ^ 64
    pub whole : put table row (L.all (placed offset (by_from n s k at))) ≡ put lent 0 (L.all (placed first (by_from n s 0 2)))

  pub filling_start : (s : List ℕ) (table : List B) (first : ℕ) → 2 ≤ length s → end_from n s 0 2 ≡ at_first_sot → width * length (by_from n s 0 2) ≤ length table
      → first + length (by_from n s 0 2) * 2 ^ 32 < 2 ^ 64 → Filling s table first table 0 first 0 2
  filling_start s table first h ends room bound = record { inside = h; starts = starts_0 n; ends = ends; same = refl; room = omega arith; bound = bound; whole = refl }

  module _ (s : List ℕ) (lent : List B) (first : ℕ) (table : List B) (row offset k at : ℕ) (c : Filling s lent first table row offset k at) (p : Passing)
      (found : walk_step_at s at ≡ Ok (Some p)) where
    pub filling_plain : p.tlm ≡ None → Filling s lent first table row offset k p.next
    filling_plain plain =
        let ahead = by_plain n s k at p found plain in
        record {
          inside = (passed_is s at p found).inside;
          starts = c.starts;
          ends = sym (end_plain n s k at p found plain) ∙ c.ends;
          same = c.same;
          room = rw ahead at c.room;
          bound = rw ahead at c.bound;
          whole = rw ahead at c.whole;
        }

    -- a segment's entries, with those that lie ahead
    pub count_ahead : {count : ℕ} → p.tlm ≡ Some count → length (by_from n s k at) ≡ count + length (by_from n s (next_number n s at k) p.next)
    count_ahead {count} is =
        ap length (by_tlm n s k at p found is)
        ∙ length-append (entries_on s at k 0 count) (by_from n s (next_number n s at k) p.next)
        ∙ ap (λ (m : ℕ). m + length (by_from n s (next_number n s at k) p.next)) (length_on s at k 0 count)

    pub wide_ahead : {count : ℕ} → p.tlm ≡ Some count → width * length (by_from n s k at) ≡ width * count + width * length (by_from n s (next_number n s at k) p.next)
    wide_ahead {count} is = ap (λ (m : ℕ). width * m) (count_ahead is) ∙ mul-add width count (length (by_from n s (next_number n s at k) p.next))

    -- its numbers are those that 16 bits hold
    pub numbers_here : ((i : ℕ) → get_or s i 0 < 256) → {count : ℕ} → p.tlm ≡ Some count → k + unindexed s at ≤ 65_535
    numbers_here bytes {count} is = numbers_few n s bytes at k c.starts (next_few n s k at p found is c.ends)

    pub filling_tlm : {row' k' count : ℕ} → ((i : ℕ) → get_or s i 0 < 256) → p.tlm ≡ Some count → (written : List B)
        → written ≡ put table row (L.all (placed offset (entries_on s at k 0 count))) → row' ≡ row + width * count → k' ≡ next_number n s at k
        → Filling s lent first written row' (offset + total (entries_on s at k 0 count)) k' p.next
    filling_tlm {row'} {k'} {count} bytes is written e place numbered =
        let here : List Entry = entries_on s at k 0 count in
        let after : ℕ = offset + total here in
        let now : List TilePartEntry = placed offset here in
        let later : List TilePartEntry = placed after (by_from n s (next_number n s at k) p.next) in
        let more = count_ahead is in
        let wide = wide_ahead is in
        let long : length (L.all now) ≡ width * count =
        length_all L now ∙ ap (λ (m : ℕ). width * m) (length_placed offset here ∙ length_on s at k 0 count) in
        let rest-long : length (L.all later) ≡ width * length (by_from n s (next_number n s at k) p.next) =
        length_all L later ∙ ap (λ (m : ℕ). width * m) (length_placed after (by_from n s (next_number n s at k) p.next)) in
        let kept-length : length written ≡ length table = ap length e ∙ length_put table row (L.all now) (omega (arith, c.room)) in
        rw (place, numbered)
        (record {
          inside = (passed_is s at p found).inside;
          starts = starts_next n s at k;
          ends = sym (end_tlm n s k at p found is (next_few n s k at p found is c.ends)) ∙ c.ends;
          same = kept-length ∙ c.same;
          room = omega (arith, c.room);
          bound = omega (arith, c.bound, total_bound s bytes at k 0 count);
          whole =
              rw e
              (put_put table row (L.all now) (L.all later) (width * count) long (omega (arith, c.room))
              ∙ ap (put table row)
              (sym (ap (λ (es : List Entry). L.all (placed offset es)) (by_tlm n s k at p found is)
              ∙ ap L.all (placed_append offset here (by_from n s (next_number n s at k) p.next))
              ∙ all_append L now later))
              ∙ c.whole);
        })

  -- nothing lies ahead
  pub filling_done : (s : List ℕ) (lent : List B) (first : ℕ) (table : List B) (row offset k at : ℕ) → Filling s lent first table row offset k at
      → (walk_from s at).visits ≡ [] → table ≡ put lent 0 (L.all (placed first (by_from n s 0 2)))
  unfolding entries_by placed
  filling_done s lent first table row offset k at c none =
      sym (put_last L table row) ∙ ap (λ (vs : List Visit). put table row (L.all (placed offset (entries_by n s k vs)))) (sym none) ∙ c.whole
