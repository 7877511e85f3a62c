-- A type's place among the types is its number.
use mathlib.Core.Path.{◌≡◌, refl, ap, ◌∙◌}
use denote.Enum.Declared.{tag_of}
use Rattle.reader.specs.Siz.{sample_number}
use Rattle.reader.specs.declared.siz.SampleType.{SampleType}
use Rattle.reader.specs.declared.siz.SampleType.TheVariants.{UInt8, Int8, UInt16, Int16, UInt32, Int32}
use Rattle.reader.specs.contracts.siz.SampleType.{the_type}
use Rattle.host.proofs.siz.winterhasp_pixel_type.Goals as goal

numbered : (t : SampleType) → tag_of the_type t ≡ sample_number t
unfolding sample_number
numbered UInt8 = refl
numbered Int8 = refl
numbered UInt16 = refl
numbered Int16 = refl
numbered UInt32 = refl
numbered Int32 = refl

pub returns : goal.returns
returns c = numbered c.pixel_type_from_siz.result ∙ ap sample_number c.pixel_type_from_siz.ensures
