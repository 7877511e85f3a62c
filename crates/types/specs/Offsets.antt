-- The two kinds of offset, and how one becomes the other: only with the codestream's start, a file offset.
use Rattle.std.specs.Prelude.{◌+◌, ◌-◌, ◌^◌, cond, leb, ltb, Option, Some, None}
use Rattle.types.specs.declared.FileOffset.{FileOffset}
use Rattle.types.specs.declared.CodestreamOffset.{CodestreamOffset}

-- the codestream's start plus the offset in it, where a u64 holds the sum
abbrev pub in_file : CodestreamOffset → FileOffset → Option FileOffset
in_file o start = cond (ltb (start.0 + o.0) (2 ^ 64)) (Some (record { 0 = start.0 + o.0 })) None

-- the offset less the codestream's start, where it does not lie before it
abbrev pub in_codestream : FileOffset → FileOffset → Option CodestreamOffset
in_codestream o start = cond (leb start.0 o.0) (Some (record { 0 = o.0 - start.0 })) None
