-- What the laws of the length table's check ask for, met by sample A or its kin, and each needed: that Ztlm does not fall in the file, that none is used twice,
-- and that the bytes of which the header is read are enough and may be read.
use Prim.Native.Nat.{ℕ, ◌<◌}
use native.Mathlib.Omega.{arith}
use mathlib.Core.Path.{◌≡◌, refl, sym, ◌∙◌}
use mathlib.Core.List.{List, [], ◌∷◌, ◌++◌, map}
use lib.ListN.{length, take, length-take}
use lib.Seq.{take-length}
use Rattle.std.specs.Prelude.{None, Ok, Err}
use Rattle.types.specs.Refusals.{refusal}
use Rattle.header.specs.Tlm.{Entry}
use Rattle.header.specs.Walk.{at_first_sot, walk_from}
use Rattle.header.specs.Numbering.{entries_by}
use Rattle.header.specs.Parse.{table_by}
use Rattle.header.specs.declared.numbering.Numbering.TheVariants.{CarriedOn}
use Rattle.header.specs.IsoMain.{tlm, main_header, tables}
use Rattle.header.proofs.ParseLaws.{judged_long}
use Rattle.parts.specs.Scan.{entries_from}
use Rattle.lengths.specs.Segments.{tlms_of, once, ordered, Rising, NotFalling}
use Rattle.lengths.specs.Check.{listed, behind_header, checked, Compares, unnumbered}
use Rattle.lengths.specs.Iso.{Apart, Distinct, part_entries, codestream}
use Rattle.lengths.proofs.CheckFileOrder.{listed_in_file_order, passes_table}
use Rattle.lengths.proofs.IsoCheck.{pass_standard}
use Rattle.laws.specs.Sample.{tlm_of, sot, A, lean}
use Rattle.laws.proofs.SampleComputing.{length_tables}
use Rattle.laws.proofs.SampleEdges.{check_A, check_58, check_59}
use Rattle.laws.proofs.SampleStandard.{siz, lengths, first, second, parts, standards, A-main, A-parts, A-lengths}
use Rattle.types.specs.declared.Reason.TheVariants.{NoTilePart, HeaderTooLong}

abbrev of : ℕ → ℕ → Entry
of index bytes = record { index = index; bytes = bytes }

-- ---- Ztlm does not fall

-- of A, so that its table is the main header's
pub A-in-file-order : listed A ≡ entries_by CarriedOn A 0 (walk_from A 2).visits
unfolding length_tables NotFalling
A-in-file-order = listed_in_file_order A tt

-- and its records are the scan's
pub A-table-is-the-scan : table_by CarriedOn A ≡ map unnumbered (entries_from A 57)
unfolding length_tables
A-table-is-the-scan = refl

pub A-passes-table : (p : ℕ) × Compares A 89 p × (table_by CarriedOn (take 89 A) ≡ map unnumbered (entries_from A p))
unfolding length_tables NotFalling
A-passes-table = passes_table A 89 check_A tt

-- where it falls, it is another
abbrev falling : List ℕ
falling = lean (tlm_of 1 0 (0 ∷ 12 ∷ []) ++ tlm_of 0 0 (0 ∷ 13 ∷ [])) (sot 0 13)

pub falling_listed : listed falling ≡ of 0 13 ∷ of 1 12 ∷ []
unfolding length_tables
falling_listed = refl

pub falling_in_file_order : entries_by CarriedOn falling 0 (walk_from falling 2).visits ≡ of 0 12 ∷ of 1 13 ∷ []
unfolding length_tables
falling_in_file_order = refl

-- ---- no Ztlm is used twice

-- then it rises in the order
pub falling_once : once falling [] (tlms_of falling) ≡ at_first_sot
unfolding length_tables
falling_once = refl

-- with one that is, it does not
abbrev twice : List ℕ
twice = lean (tlm_of 0 0 [] ++ tlm_of 0 0 []) (sot 0 12)

pub twice_not_rising : Rising twice (ordered twice (tlms_of twice)) → ⊥
unfolding length_tables Rising
twice_not_rising r = let low = r.0 in omega arith

-- ---- the bytes of which the header is read

-- one fewer than are enough is refused
pub enough_needed : (checked A 58 ≡ Err (refusal NoTilePart 58)) × (checked A 59 ≡ Ok None)
enough_needed = (check_58, check_59)

-- A is the standard's, and passes by its law, whatever stands behind it
A-distinct : Distinct (tables (tlm lengths ∷ []))
unfolding Distinct Apart tables
A-distinct = (tt, tt)

A-listed : part_entries parts ≡ of 0 14 ∷ of 5 16 ∷ []
unfolding part_entries
A-listed = refl

abbrev longer : List ℕ → List ℕ
longer behind = codestream siz (tlm lengths ∷ []) parts behind

header_57 : length (main_header siz (tlm lengths ∷ [])) ≡ 57
unfolding standards
header_57 = refl

pub longer_passes : (behind : List ℕ) → checked (longer behind) 59 ≡ Ok None
unfolding tables
longer_passes behind =
    pass_standard siz (tlm lengths ∷ []) first (second ∷ []) behind A-main A-parts 59 (omega (arith, header_57)) (omega (arith, length-take 59 (longer behind)))
    A-distinct (A-lengths ∙ sym A-listed)

-- past 2^32-1 bytes the whole is refused, and is not if the header is read of a part
pub longer_refused : (behind : List ℕ) → 0xffff_ffff < length (longer behind) → checked (longer behind) (length (longer behind)) ≡ Err (refusal HeaderTooLong 0)
unfolding checked behind_header
longer_refused behind long = rw (take-length (longer behind), judged_long (longer behind) long)
