-- How much header is enough (docs/RULES.md, "How much is enough"): the extent of each prefix, the region at which growth ends, and that every reading of that
-- region, or of any prefix that is enough, is a reading of the whole.
use Prim.Native.Nat.{ℕ, ◌+◌, ◌≤◌, ◌<◌}
use native.Mathlib.Omega.{arith}
use mathlib.Core.Path.{◌≡◌, refl, sym, ap, ◌∙◌}
use mathlib.Core.Bool.{cond}
use mathlib.Core.List.{List, ◌++◌}
use lib.ListN.{length, take, drop}
use lib.Dec.{leb}
use Rattle.std.specs.Prelude.{Some, None, Result, Ok, Err}
use Rattle.types.specs.declared.TilePartEntry.{TilePartEntry}
use Rattle.types.specs.declared.Refusal.{Refusal}
use Rattle.header.specs.Extent.{extent_of, told_by, enough_of, enough}
use Rattle.header.specs.Parse.{judged_as, parsed, table_after, out_after}
use Rattle.header.specs.declared.numbering.Numbering.{Numbering}
use Rattle.header.specs.declared.reading.Reading.{Reading}
use Rattle.header.specs.declared.parse.MainHeaderInfo.{MainHeaderInfo}
use Rattle.header.proofs.NumberingLaws.{by_accepted}
use Rattle.header.proofs.EditionLaws.{as_accepted}
use Rattle.header.proofs.ParseLaws.{judged_read}
use Rattle.header.proofs.ExtentPrefix.{extent_prefix}
use Rattle.header.proofs.Enough.{accepted_complete, fewer_refused, table_enough, table_after_enough, out_after_enough, finding_enough, parsed_eight, parsed_enough}
use Rattle.lengths.specs.Check.{checked}
use Rattle.lengths.proofs.CheckPrefix.{check_enough}
use Rattle.records.specs.MainHeader.{records_after}
use Rattle.reader.specs.Growth.{region_at, grown, FirstWith}
use Rattle.reader.proofs.GrowthLaws.{region_within, region_least, grown_region}
use Rattle.reader.proofs.GrowthFirst.{grown_first}
use Rattle.laws.specs.Demand3.{AllBytes}
use Rattle.laws.specs.Region.{ReadAlike}

-- ---- any prefix that is enough

module _ (s : List ℕ) (n : ℕ) (held : enough s ≤ n) where
  records_enough : (m : Numbering) (answer : Result MainHeaderInfo Refusal) (table : List TilePartEntry) → records_after m answer (take n s) table ≡ records_after m answer s table
  unfolding records_after
  records_enough m (Ok h) table = ap (λ (es : List TilePartEntry). es ++ drop h.tlm_entries table) (table_enough s n held m)
  records_enough m (Err r) table = refl

  -- with the answers all else is the same
  alike : length s ≤ 0xffff_ffff → ((how : Reading) (rows room : ℕ) → parsed how (take n s) rows room ≡ parsed how s rows room) → ReadAlike (take n s) s
  alike short same =
      record {
        answer = same;
        table =
            λ how rows room table.
            ap (λ (a : Result MainHeaderInfo Refusal). table_after how.numbering a (take n s) table) (same how rows room)
            ∙ table_after_enough s n held how.numbering (parsed how s rows room) table;
        records =
            λ how rows room table.
            ap (λ (a : Result MainHeaderInfo Refusal). records_after how.numbering a (take n s) table) (same how rows room)
            ∙ records_enough how.numbering (parsed how s rows room) table;
        out =
            λ how rows room out.
            ap (λ (a : Result MainHeaderInfo Refusal). out_after a (take n s) out) (same how rows room) ∙ out_after_enough s n held (parsed how s rows room) out;
        marker = finding_enough s n held short;
      }

  pub enough_alike : AllBytes s → length s ≤ 0xffff_ffff → ReadAlike (take n s) s
  enough_alike bytes short = alike short (parsed_enough s n held short bytes)

-- ---- the region at which growth ends

-- where no SOT is reached, the whole
pub growth_whole : (s : List ℕ) → extent_of s ≡ None → (grown s).region ≡ length s
unfolding enough enough_of
growth_whole s e =
    let all : enough s ≡ length s = ap (enough_of (length s)) e in
    omega (arith, all, (grown_first s).has, grown_region s, region_within (length s) (grown s).enlargements)

-- of every codestream of at most 2^32-1 bytes, accepted or refused
pub region_alike : (s : List ℕ) → length s ≤ 0xffff_ffff → ReadAlike (take (grown s).region s) s
region_alike s short =
    let held : enough s ≤ (grown s).region = rw (grown_region s) (grown_first s).has in
    alike s (grown s).region held short
    (parsed_eight s (grown s).region held short (λ part. omega (arith, grown_region s, region_least (length s) (grown s).enlargements)))

-- the check of a length table, too
pub region_checked : (s : List ℕ) → length s ≤ 0xffff_ffff → checked s (grown s).region ≡ checked s (length s)
region_checked s short = check_enough s (grown s).region (rw (grown_region s) (grown_first s).has) short

-- ---- where the walk accepts with the first SOT at p

module _ (how : Reading) (s : List ℕ) (h : MainHeaderInfo) (accepts : judged_as how s ≡ Ok h) where
  abbrev p : ℕ
  p = h.first_sot_offset.0

  -- the extent of each prefix is Complete(p) exactly when its length is at least p + 2, and otherwise Truncated (the first n bytes; the whole where there are
  -- no more, which has p + 2)
  pub prefix_extent : (n : ℕ) → extent_of (take n s) ≡ cond (leb (p + 2) n) (Some h.first_sot_offset) None
  unfolding told_by
  prefix_extent n = extent_prefix s n ∙ ap (told_by n) (accepted_complete how s h accepts)

  pub enough_accepted : enough s ≡ p + 2
  unfolding enough enough_of
  enough_accepted = ap (enough_of (length s)) (accepted_complete how s h accepts)

  -- growth ends at the first of its regions with p + 2 bytes
  pub growth_ends : ((grown s).region ≡ region_at (length s) (grown s).enlargements) × FirstWith (length s) (p + 2) (grown s).enlargements
  growth_ends = (grown_region s, rw (sym enough_accepted) (grown_first s))

  -- no region before it will do: the walk on it refuses, however it is read
  pub no_earlier : (again : Reading) (j : ℕ) → j < (grown s).enlargements → (r : Refusal) × (judged_as again (take (region_at (length s) j) s) ≡ Err r)
  no_earlier again j few = fewer_refused how again s h accepts (region_at (length s) j) (growth_ends.1.none j few)

  -- the walk on it gives the same p, decode header and table as on the whole
  pub region_accepted : ReadAlike (take (grown s).region s) s
  region_accepted = region_alike s (judged_read s h (by_accepted how.numbering s h (as_accepted how s h accepts)).0).short
