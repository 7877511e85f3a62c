-- A table filled from a place on with a scan's records, one a turn, in either layout: what is left, put where the next record goes, makes the table that
-- all records make of the one lent.
use Prim.Native.Nat.{ℕ, ◌+◌, ◌≤◌, ◌<◌}
use native.Mathlib.Omega.{arith}
use mathlib.Core.Path.{◌≡◌, refl, sym, ap, ◌∙◌}
use mathlib.Core.List.{List, [], ◌∷◌}
use lib.ListN.{length}
use Rattle.numbers.specs.Bytes.{put}
use Rattle.types.specs.declared.TilePartEntry.{TilePartEntry}
use Rattle.types.specs.Layout.{Layout}
use Rattle.types.proofs.RowStanding.{length_more, put_last, stored}
use Rattle.parts.specs.Sot.{psot}
use Rattle.parts.specs.Scan.{part_at, entries_from}
use Rattle.parts.proofs.ScanLaws.{Next, entries_next, leads_on}

no_entries : (es : List TilePartEntry) → length es ≡ 0 → es ≡ []
no_entries [] h = refl
no_entries (e ∷ es) h = absurd (omega arith)

module _ {B : Type 0} {width : ℕ} (L : Layout B width) where
  -- i records were written up to here; after the last one the place here says nothing
  pub record Filled (s : List ℕ) (start count from : ℕ) (lent table : List B) (at place i : ℕ) : Type 0 where
    pub rest : List TilePartEntry
    pub here : 0 < length rest → rest ≡ entries_from s at
    pub left : i + length rest ≡ count
    pub same : length table ≡ length lent
    pub room : place + length (L.all rest) ≤ length table
    pub whole : put table place (L.all rest) ≡ put lent from (L.all (entries_from s start))

  module _ {s : List ℕ} {start count from : ℕ} {lent : List B} where
    pub none_filled : count ≡ length (entries_from s start) → from + length (L.all (entries_from s start)) ≤ length lent → Filled s start count from lent lent start from 0
    none_filled counted fits =
        record { rest = entries_from s start; here = λ _. refl; left = omega arith; same = refl; room = omega arith; whole = refl }

    module _ {table : List B} {at place i : ℕ} where
      -- while records are left, one stands here
      found : i < count → (f : Filled s start count from lent table at place i) → f.rest ≡ entries_from s at
      found h f = f.here (omega (arith, f.left))

      pub stands : i < count → Filled s start count from lent table at place i → Next s at
      stands h f = entries_next s at (omega (arith, f.left, ap length (found h f)))

      -- and is the first of them
      first : (h : i < count) (f : Filled s start count from lent table at place i) → f.rest ≡ part_at s at ∷ entries_from s (at + (part_at s at).length)
      first h f = found h f ∙ (stands h f).entries

      -- and has room
      pub one_room : i < count → Filled s start count from lent table at place i → place + width ≤ length table
      one_room h f =
          omega (arith, ap (λ (es : List TilePartEntry). length (L.all es)) (first h f), length_more L (part_at s at) (entries_from s (at + (part_at s at).length)), f.room)

      pub turn : {e : TilePartEntry} {next : List B} {to : ℕ} → i < count → e ≡ part_at s at → next ≡ put table place (L.one e) → to ≡ at + psot s at
          → Filled s start count from lent table at place i → Filled s start count from lent next to (place + width) (i + 1)
      turn {e} {next} {to} h is new there f =
          let p : TilePartEntry = part_at s at in
          let rest : List TilePartEntry = entries_from s (at + p.length) in
          let counts = ap lib.ListN.length (first h f) in
          let long = ap (λ (es : List TilePartEntry). lib.ListN.length (L.all es)) (first h f) in
          let longer = length_more L p rest in
          let s' = stored L rest (new ∙ ap (λ (x : TilePartEntry). put table place (L.one x)) is) (omega (arith, f.room)) in
          record {
            rest = rest;
            here = λ some. leads_on s at (stands h f) some ∙ ap (entries_from s) (sym there);
            left = omega (arith, f.left);
            same = s'.same ∙ f.same;
            room = omega (arith, f.room, s'.same);
            whole = s'.whole ∙ ap (λ (es : List TilePartEntry). put table place (L.all es)) (sym (first h f)) ∙ f.whole;
          }

      pub all_filled : count ≤ i → Filled s start count from lent table at place i → table ≡ put lent from (L.all (entries_from s start))
      all_filled h f =
          let none : f.rest ≡ [] = no_entries _ (omega (arith, f.left)) in
          sym (put_last L table place) ∙ ap (λ (es : List TilePartEntry). put table place (L.all es)) (sym none) ∙ f.whole
