-- The length table of ISO/IEC 15444-1, A.7.1: TLM segments as rows of a width and a value; the table that they make, in the order of Ztlm, with
-- entries without an index numbered on from segment to segment. `proofs/IsoTlm.antt` says where our table agrees.
use Rattle.std.specs.Prelude.{ℕ, ◌+◌, ◌*◌, ◌^◌, ◌≤◌, ◌<◌, ◌≡◌, false, cond, List, [], ◌∷◌, ◌++◌, length, leb, eqb}
use Rattle.numbers.specs.Rows.{Row, row}
use Rattle.types.specs.Markers.{TLM}
use Rattle.header.specs.Tlm.{Entry}

-- ---- a segment

-- an entry: the tile's index, and the tile-part's length
pub record Pointer : Type 0 where
  pub Ttlm : ℕ
  pub Ptlm : ℕ

-- ST 0, 1, 2: Ttlm is absent, or has 1 or 2 bytes. SP 0, 1: Ptlm has 2 or 4 bytes.
pub record TlmSegment : Type 0 where
  pub Ztlm : ℕ
  pub ST : ℕ
  pub SP : ℕ
  pub pointers : List Pointer

abbrev pub pointer_width : ℕ → ℕ
pointer_width SP = 2 + 2 * SP

unfoldable pub pointer_rows : ℕ → ℕ → List Pointer → List Row
pointer_rows ST SP [] = []
pointer_rows ST SP (p ∷ more) = row ST p.Ttlm ∷ row (pointer_width SP) p.Ptlm ∷ pointer_rows ST SP more

-- marker, Ltlm, Ztlm, Stlm (bit 6 is SP, bits 5 and 4 are ST), entries
unfoldable pub tlm_rows : TlmSegment → List Row
unfolding pointer_rows
tlm_rows t =
    row 2 TLM
    ∷ row 2 (4 + length t.pointers * (t.ST + pointer_width t.SP))
    ∷ row 1 t.Ztlm
    ∷ row 1 (64 * t.SP + 16 * t.ST)
    ∷ pointer_rows t.ST t.SP t.pointers

-- an index that is there, and a length, are held by their bytes
unfoldable pub Held : ℕ → ℕ → List Pointer → Type 0
Held ST SP [] = Unit {0}
Held ST SP (p ∷ more) = ((eqb ST 0 ≡ false → p.Ttlm < 256 ^ ST) × (p.Ptlm < 256 ^ pointer_width SP)) × Held ST SP more

pub record TlmRanges (t : TlmSegment) : Type 0 where
  pub Ztlm : t.Ztlm < 256
  pub ST : t.ST ≤ 2
  pub SP : t.SP ≤ 1
  pub Ltlm : 4 + length t.pointers * (t.ST + pointer_width t.SP) < 2 ^ 16
  pub held : Held t.ST t.SP t.pointers

-- ---- the table

-- the entries of a segment; the first without an index has the number k
unfoldable pub numbered : ℕ → ℕ → List Pointer → List Entry
numbered ST k [] = []
numbered ST k (p ∷ more) = record { index = cond (eqb ST 0) k p.Ttlm; bytes = p.Ptlm } ∷ numbered ST (k + 1) more

unfoldable pub numbered_on : ℕ → List TlmSegment → List Entry
numbered_on k [] = []
numbered_on k (t ∷ more) = numbered t.ST k t.pointers ++ numbered_on (cond (eqb t.ST 0) (k + length t.pointers) k) more

-- in the order of Ztlm
unfoldable pub insert : TlmSegment → List TlmSegment → List TlmSegment
insert t [] = t ∷ []
insert t (u ∷ more) = cond (leb t.Ztlm u.Ztlm) (t ∷ u ∷ more) (u ∷ insert t more)

unfoldable pub ordered : List TlmSegment → List TlmSegment
ordered [] = []
ordered (t ∷ more) = insert t (ordered more)

-- the standard's table of the segments that a header has, in file order
unfoldable pub iso_table : List TlmSegment → List Entry
iso_table ts = numbered_on 0 (ordered ts)

-- ---- where our table is the same

-- ours (docs/RULES.md, "TLM") is in file order: carried on it is `numbered_on 0`, and restarting it is numbered from 0 in each segment
unfoldable pub restarted : List TlmSegment → List Entry
restarted [] = []
restarted (t ∷ more) = numbered t.ST 0 t.pointers ++ restarted more

-- how many entries have no index
unfoldable pub without_index : List TlmSegment → ℕ
without_index [] = 0
without_index (t ∷ more) = cond (eqb t.ST 0) (length t.pointers) 0 + without_index more

-- Ztlm does not fall from a segment to the next
unfoldable pub InOrder : List TlmSegment → Type 0
InOrder [] = Unit {0}
InOrder (t ∷ []) = Unit {0}
InOrder (t ∷ u ∷ more) = (t.Ztlm ≤ u.Ztlm) × InOrder (u ∷ more)

-- every segment's entries have an index
unfoldable pub AllIndexed : List TlmSegment → Type 0
AllIndexed [] = Unit {0}
AllIndexed (t ∷ more) = (t.ST ≡ 0 → ⊥) × AllIndexed more
