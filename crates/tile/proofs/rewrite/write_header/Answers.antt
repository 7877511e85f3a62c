-- The header is copied; where it is cut the eight fields are replaced in the copy.
use native.Mathlib.Omega.{arith}
use mathlib.Core.Path.{◌≡◌, sym, ap, ◌∙◌}
use Rattle.std.specs.Prelude.{Some, None, Ok}
use Rattle.numbers.specs.Bytes.{put}
use Rattle.tile.proofs.RewriteHeader.{cut_room, cut_kept, put_cut}
use Rattle.tile.proofs.rewrite.write_header.Goals as goal
use Rattle.tile.proofs.rewrite.write_header.Goals.{In-Ok-Some, In-Ok-None}

cut : (c : In-Ok-Some) → c.args.size ≡ Ok (Some c.in-Ok-Some.tile)
cut c = c.in-Ok-Some.is ∙ ap Ok (rw c.in-Ok-Some.is at c.in-Ok-Some.field-0-is)

full : (c : In-Ok-None) → c.args.size ≡ Ok None
full c = c.in-Ok-None.is ∙ ap Ok (rw c.in-Ok-None.is at c.in-Ok-None.field-0-is)

pub write_one_tile-requires : goal.write_one_tile-requires
write_one_tile-requires c =
    let r = cut_room _ _ _ (cut (goal.at.write_one_tile-requires c).In-Ok-Some) c.requires.room in
    record { in_bounds = omega (arith, c.copy_at.auto, c.requires, r.0); ordered = r.1 }

pub returns-in-Ok-Some : goal.returns-in-Ok-Some
returns-in-Ok-Some c =
    cc (put_cut _ _ c.args.header.now c.args.out.now (cut (goal.at.returns-in-Ok-Some c).In-Ok-Some) c.requires.room c.requires.header_in_bounds)

pub returns-in-Ok-None : goal.returns-in-Ok-None
returns-in-Ok-None c = let e = full (goal.at.returns-in-Ok-None c).In-Ok-None in cc (cut_kept c.args.size c.args.header.now (λ a f. (cc)))

pub returns-in-Err : goal.returns-in-Err
returns-in-Err c =
    c.copy_at.ensures.out_after ∙ ap (put c.args.out.now 0) (sym (cut_kept c.args.size c.args.header.now (λ a f. (cc))))
