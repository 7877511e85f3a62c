-- The records of a TLM segment's entries, written one after the other in either layout: where an entry stands, what bounds it, what holds on the way,
-- and one turn.
use Prim.Native.Nat.{ℕ, zero, suc, ◌+◌, ◌-◌, ◌*◌, ◌/◌, ◌%◌, ◌^◌, ◌≤◌, ◌<◌}
use native.Mathlib.Nat.{add-zero, add_assoc, suc-mul, sub-zero, mod-lt, mul-le-mul_right, div-mul-le_self, div-le_self, pow-le-pow_right}
use native.Mathlib.Omega.{arith}
use mathlib.Core.Path.{◌≡◌, refl, sym, ap, ◌∙◌}
use mathlib.Core.Logic.{◌⊎◌, inl, inr}
use mathlib.Core.Bool.{Bool, true, false, cond}
use mathlib.Core.List.{List, [], ◌∷◌}
use lib.ListN.{length, get_or}
use lib.Dec.{eqb, lit<}
use borrow.Author.Tests.{eq-eqb}
use Rattle.numbers.specs.Bytes.{be, put}
use Rattle.numbers.proofs.BytesLaws.{be_bound}
use Rattle.numbers.proofs.Choice.{by_bool}
use Rattle.types.specs.declared.PartNumbers.TheVariants.{NotKnown}
use Rattle.types.specs.declared.TilePartEntry.{TilePartEntry}
use Rattle.types.specs.Layout.{Layout}
use Rattle.types.proofs.RowStanding.{length_more, length_all, put_last, stored}
use Rattle.header.specs.Step.{segment_end}
use Rattle.header.specs.Tlm.{ltlm, stlm, index_size, length_size, entry_size, entry_count, Accepted, Entry, entry_place, entry_in, unindexed, entry_on, entries_on, record_of, placed, total}
use Rattle.header.proofs.TlmLaws.{length_on, length_placed}

-- the same test again changes nothing
cond_again : (b : Bool) (x y z : ℕ) → cond b x (cond b y z) ≡ cond b x z
cond_again true x y z = refl
cond_again false x y z = refl

two_or_four : (bit : ℕ) → bit < 2 → (2 + bit * 2 ≡ 2) ⊎ (2 + bit * 2 ≡ 4)
two_or_four zero h = inl refl
two_or_four (suc zero) h = inr refl
two_or_four (suc (suc bit)) h = absurd (omega arith)

pub length_sizes : (stlm : ℕ) → (length_size stlm ≡ 2) ⊎ (length_size stlm ≡ 4)
length_sizes stlm = two_or_four (stlm / 64 % 2) (mod-lt (stlm / 64) (lit< tt))

module _ (s : List ℕ) (at : ℕ) where
  -- an entry of the count lies inside
  pub entry_inside : (i : ℕ) → Accepted s at → i < entry_count s at → entry_place s at i + entry_size (stlm s at) ≤ length s
  unfolding entry_count segment_end
  entry_inside i a h =
      let size : ℕ = entry_size (stlm s at) in
      let all : entry_count s at * size ≤ ltlm s at - 4 = div-mul-le_self (ltlm s at - 4) size in
      let upto : suc i * size ≤ entry_count s at * size = mul-le-mul_right size h in
      omega (arith, suc-mul i size)

  module _ (bytes : (i : ℕ) → get_or s i 0 < 256) where
    -- Ltlm has two bytes
    pub count_bound : entry_count s at < 2 ^ 16
    unfolding entry_count
    count_bound = omega (arith, div-le_self (ltlm s at - 4) (entry_size (stlm s at)), be_bound 2 s (at + 2) bytes)

    pub unindexed_bound : unindexed s at ≤ 65_535
    unfolding unindexed
    unindexed_bound = let few = count_bound in by_bool (eqb (index_size (stlm s at)) 0) (λ e. rw e (omega arith)) (λ e. rw e (omega arith))

    -- a length has at most four
    pub length_bound : (stlm place : ℕ) → be (length_size stlm) s place < 2 ^ 32
    length_bound stlm place =
        let small : length_size stlm ≤ 4 = omega arith in
        let power : 256 ^ length_size stlm ≤ 256 ^ 4 = pow-le-pow_right (lit< tt) small in
        omega (arith, be_bound (length_size stlm) s place bytes)

    pub entry_bound : (k i : ℕ) → (entry_on s at k i).bytes < 2 ^ 32
    unfolding entry_on entry_in
    entry_bound k i = length_bound (stlm s at) (entry_place s at i + index_size (stlm s at))

  -- the first of the entries that are left
  pub entries_next : (k i count : ℕ) → i < count → entries_on s at k i (count - i) ≡ entry_on s at k i ∷ entries_on s at k (i + 1) (count - (i + 1))
  unfolding entries_on
  entries_next k i count h =
      let more : count - i ≡ suc (count - (i + 1)) = omega arith in rw more

  -- a number of the count is one of those that the entries without an index take
  pub number_bound : (k i : ℕ) → i < entry_count s at → k + unindexed s at ≤ 65_535 → index_size (stlm s at) ≡ 0 → k + i < 2 ^ 16
  unfolding unindexed
  number_bound k i h few none = omega (arith, rw (eq-eqb _ _ none) at few)

  -- what is read at an entry's place is its record
  pub entry_read : (k i offset : ℕ) {narrow wide index bytes : ℕ} → narrow ≡ index_size (stlm s at) → wide ≡ length_size (stlm s at)
      → index ≡ cond (eqb narrow 0) (k + i) (be narrow s (at + 6 + i * (narrow + wide))) → bytes ≡ be wide s (at + 6 + i * (narrow + wide) + narrow)
      → record { tile_index = index; numbers = NotKnown; offset = record { 0 = offset }; length = bytes } ≡ record_of offset (entry_on s at k i)
  unfolding entry_on entry_in
  entry_read k i offset {narrow} {wide} {index} {bytes} n w x b =
      let x' : index ≡ (entry_on s at k i).index = x ∙ rw (n, w) (sym (cond_again (eqb (index_size (stlm s at)) 0) (k + i) i (be (index_size (stlm s at)) s (entry_place s at i)))) in
      let b' : bytes ≡ (entry_on s at k i).bytes = b ∙ rw (n, w) in
      λ j. record { tile_index = x' j; numbers = NotKnown; offset = record { 0 = offset }; length = b' j }

module _ {B : Type 0} {width : ℕ} (L : Layout B width) where
  -- the entries before the i-th are written: those that are left make the table that all make of the one lent
  pub record Filled (s : List ℕ) (at k count from : ℕ) (lent : List B) (row : ℕ) (table : List B) (offset to i : ℕ) : Type 0 where
    pub inside : i ≤ count
    pub same : length table ≡ length lent
    pub room : to + length (L.all (placed offset (entries_on s at k i (count - i)))) ≤ length table
    pub small : offset + (count - i) * 2 ^ 32 < 2 ^ 64
    pub sum : offset + total (entries_on s at k i (count - i)) ≡ from + total (entries_on s at k 0 count)
    pub whole : put table to (L.all (placed offset (entries_on s at k i (count - i)))) ≡ put lent row (L.all (placed from (entries_on s at k 0 count)))

  module _ {s : List ℕ} {at k count from : ℕ} {lent : List B} {row : ℕ} where
    -- none is written
    pub none_filled : row + width * count ≤ length lent → from + count * 2 ^ 32 < 2 ^ 64 → Filled s at k count from lent row lent from row 0
    none_filled fits h =
        let es : List TilePartEntry = placed from (entries_on s at k 0 count) in
        let many : length es ≡ count = length_placed from (entries_on s at k 0 count) ∙ length_on s at k 0 count in
        let long : length (L.all es) ≡ width * count = length_all L es ∙ ap (λ (n : ℕ). width * n) many in
        record { inside = omega arith; same = refl; room = rw sub-zero (omega arith); small = omega arith; sum = rw sub-zero; whole = rw sub-zero }

    module _ {table : List B} {offset to i : ℕ} where
      -- none is left
      pub all_filled : count ≤ i → Filled s at k count from lent row table offset to i
          → (offset ≡ from + total (entries_on s at k 0 count)) × (table ≡ put lent row (L.all (placed from (entries_on s at k 0 count))))
      unfolding entries_on placed total
      all_filled h f =
          let none : count - i ≡ 0 = omega arith in
          let last : entries_on s at k i (count - i) ≡ [] = rw none in (
            sym (add-zero offset) ∙ ap (λ (es : List Entry). offset + total es) (sym last) ∙ f.sum,
            sym (put_last L table to) ∙ ap (λ (es : List Entry). put table to (L.all (placed offset es))) (sym last) ∙ f.whole,
          )

      module _ (h : i < count) (f : Filled s at k count from lent row table offset to i) where
        x : Entry
        x = entry_on s at k i

        rest : List Entry
        rest = entries_on s at k (i + 1) (count - (i + 1))

        left : placed offset (entries_on s at k i (count - i)) ≡ record_of offset x ∷ placed (offset + x.bytes) rest
        unfolding placed x rest
        left = ap (placed offset) (entries_next s at k i count h)

        fits : to + (width + length (L.all (placed (offset + x.bytes) rest))) ≤ length table
        fits =
            omega (
              arith,
              ap (λ (es : List TilePartEntry). length (L.all es)) left,
              length_more L (record_of offset x) (placed (offset + x.bytes) rest),
              f.room,
            )

        -- there is room for one more
        pub one_room : to + width ≤ length table
        one_room = omega (arith, fits)

        -- one more
        pub turn : {e : TilePartEntry} {next : List B} {to' : ℕ} → ((j : ℕ) → get_or s j 0 < 256) → e ≡ record_of offset (entry_on s at k i)
            → next ≡ put table to (L.one e) → to' ≡ to + width → Filled s at k count from lent row next (e.offset.0 + e.length) to' (i + 1)
        unfolding total x rest
        turn {e} {next} {to'} bytes found new place =
            let ends : e.offset.0 + e.length ≡ offset + x.bytes = ap (λ (r : TilePartEntry). r.offset.0 + r.length) found in
            let later : List TilePartEntry = placed (offset + x.bytes) rest in
            let kept =
            stored L later (new ∙ ap (λ (r : TilePartEntry). put table to (L.one r)) found) (omega (arith, fits, length_more L (record_of offset x) later)) in
            rw (ends, place)
            (record {
              inside = omega arith;
              same = kept.same ∙ f.same;
              room = omega (arith, fits, kept.same);
              small = omega (arith, f.small, entry_bound s at bytes k i);
              sum = add_assoc offset x.bytes (total rest) ∙ ap (λ (es : List Entry). offset + total es) (sym (entries_next s at k i count h)) ∙ f.sum;
              whole = kept.whole ∙ ap (λ (es : List TilePartEntry). put table to (L.all es)) (sym left) ∙ f.whole;
            })
