-- The TLM segment's definitions, opened once: a law for each case, and the entries one after the other.
use Prim.Native.Nat.{ℕ, zero, suc, ◌+◌, ◌≤◌, ◌<◌}
use native.Mathlib.Nat.{zero-add, add-zero, add_assoc}
use mathlib.Core.Path.{◌≡◌, refl, sym, ap, ap₂, ◌∙◌}
use mathlib.Core.List.{List, [], ◌∷◌, ◌++◌}
use lib.ListN.{length}
use lib.Dec.{eqb}
use borrow.Author.Tests.{eq-eqb, ne_eqb, le-leb, lt-leb}
use Rattle.std.specs.Prelude.{Ok, Err}
use Rattle.numbers.proofs.Choice.{by_bool}
use Rattle.types.specs.Refusals.{refusal}
use Rattle.types.specs.declared.TilePartEntry.{TilePartEntry}
use Rattle.header.specs.Tlm.{ltlm, stlm, index_size, entry_count, tlm_at, Entry, entry_in, entries_in, unindexed, entry_on, entries_on, record_of, placed, total}
use Rattle.types.specs.declared.Reason.TheVariants.{TlmTooShort, TlmFormUnknown}

module _ (s : List ℕ) (at : ℕ) where
  pub tlm_short : ltlm s at < 4 → tlm_at s at ≡ Err (refusal TlmTooShort at)
  unfolding tlm_at
  tlm_short h = rw (lt-leb _ _ h)

  pub tlm_unknown : 4 ≤ ltlm s at → index_size (stlm s at) ≡ 3 → tlm_at s at ≡ Err (refusal TlmFormUnknown at)
  unfolding tlm_at
  tlm_unknown h e = rw (le-leb _ _ h, eq-eqb _ _ e)

  pub tlm_entries_lem : 4 ≤ ltlm s at → (index_size (stlm s at) ≡ 3 → ⊥) → tlm_at s at ≡ Ok (entry_count s at)
  unfolding tlm_at
  tlm_entries_lem h e = rw (le-leb _ _ h, ne_eqb _ _ e)

pub length_entries : (s : List ℕ) (at i n : ℕ) → length (entries_in s at i n) ≡ n
unfolding entries_in
length_entries s at i zero = refl
length_entries s at i (suc n) = ap suc (length_entries s at (i + 1) n)

pub length_on : (s : List ℕ) (at k i n : ℕ) → length (entries_on s at k i n) ≡ n
unfolding entries_on
length_on s at k i zero = refl
length_on s at k i (suc n) = ap suc (length_on s at k (i + 1) n)

-- numbered from 0 on they are the segment's own
entry_from_0 : (s : List ℕ) (at i : ℕ) → entry_on s at 0 i ≡ entry_in s at i
unfolding entry_on entry_in
entry_from_0 s at i = by_bool (eqb (index_size (stlm s at)) 0) (λ e. rw (e, zero-add i)) (λ e. rw e)

pub entries_from_0 : (s : List ℕ) (at i n : ℕ) → entries_on s at 0 i n ≡ entries_in s at i n
unfolding entries_on entries_in
entries_from_0 s at i zero = refl
entries_from_0 s at i (suc n) = ap₂ ◌∷◌ (entry_from_0 s at i) (entries_from_0 s at (i + 1) n)

-- with an index the numbers are not looked at
entry_indexed : (s : List ℕ) (at k m i : ℕ) → (index_size (stlm s at) ≡ 0 → ⊥) → entry_on s at k i ≡ entry_on s at m i
unfolding entry_on
entry_indexed s at k m i h = rw (ne_eqb _ _ h)

pub entries_indexed : (s : List ℕ) (at k m i n : ℕ) → (index_size (stlm s at) ≡ 0 → ⊥) → entries_on s at k i n ≡ entries_on s at m i n
unfolding entries_on
entries_indexed s at k m i zero h = refl
entries_indexed s at k m i (suc n) h = ap₂ ◌∷◌ (entry_indexed s at k m i h) (entries_indexed s at k m (i + 1) n h)

-- so many entries have no index
module _ (s : List ℕ) (at : ℕ) where
  pub unindexed_all : index_size (stlm s at) ≡ 0 → unindexed s at ≡ entry_count s at
  unfolding unindexed
  unindexed_all e = rw (eq-eqb _ _ e)

  pub unindexed_none : (index_size (stlm s at) ≡ 0 → ⊥) → unindexed s at ≡ 0
  unfolding unindexed
  unindexed_none h = rw (ne_eqb _ _ h)

pub length_placed : (from : ℕ) (es : List Entry) → length (placed from es) ≡ length es
unfolding placed
length_placed from [] = refl
length_placed from (e ∷ es) = ap suc (length_placed (from + e.bytes) es)

pub total_append : (xs ys : List Entry) → total (xs ++ ys) ≡ total xs + total ys
unfolding total
total_append [] ys = sym (zero-add (total ys))
total_append (e ∷ xs) ys = rw (total_append xs ys) (sym (add_assoc e.bytes (total xs) (total ys)))

pub placed_append : (from : ℕ) (xs ys : List Entry) → placed from (xs ++ ys) ≡ placed from xs ++ placed (from + total xs) ys
unfolding placed total
placed_append from [] ys = ap (λ (n : ℕ). placed n ys) (sym (add-zero from))
placed_append from (e ∷ xs) ys =
    ap (λ (r : List TilePartEntry). record_of from e ∷ r)
    (placed_append (from + e.bytes) xs ys ∙ rw (add_assoc from e.bytes (total xs)))
