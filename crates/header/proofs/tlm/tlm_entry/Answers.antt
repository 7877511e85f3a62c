-- An entry of the count lies inside, so what is read at its place is the entry.
use Prim.Native.Nat.{ℕ, ◌+◌, ◌*◌, ◌≤◌, ◌<◌}
use native.Mathlib.Omega.{arith}
use mathlib.Core.Path.{◌≡◌, sym, ◌∙◌}
use mathlib.Core.List.{List}
use lib.ListN.{length}
use Rattle.header.specs.Step.{segment_end}
use Rattle.header.specs.Tlm.{stlm, index_size, length_size, entry_count, Accepted}
use Rattle.header.proofs.TlmFill.{entry_inside, number_bound, entry_read, count_bound, length_sizes}
use Rattle.header.proofs.tlm.tlm_entry.Goals as goal

-- an entry ends inside, by the sizes that were read
inside : (s : List ℕ) (at i narrow wide : ℕ) → Accepted s at → i < entry_count s at → narrow ≡ index_size (stlm s at) → wide ≡ length_size (stlm s at)
    → at + 6 + i * (narrow + wide) + (narrow + wide) ≤ length s
inside s at i narrow wide accepted below n w = rw (n, w) (entry_inside s at i accepted below)

pub overflow_add-stlm : goal.overflow_add-stlm
unfolding segment_end
overflow_add-stlm c = omega arith

pub bounds-codestream-at : goal.bounds-codestream-at
unfolding segment_end
bounds-codestream-at c = omega arith

pub overflow_add-place : goal.overflow_add-place
overflow_add-place c =
    let within = inside _ _ _ _ _ c.requires.accepted c.requires.i_bound c.index_size-index_bytes.ensures c.length_size-length_bytes.ensures in
    omega arith

pub overflow_mul-place : goal.overflow_mul-place
overflow_mul-place c =
    let within = inside _ _ _ _ _ c.requires.accepted c.requires.i_bound c.index_size-index_bytes.ensures c.length_size-length_bytes.ensures in
    omega arith

pub overflow_add-place-3 : goal.overflow_add-place-3
overflow_add-place-3 c =
    let within = inside _ _ _ _ _ c.requires.accepted c.requires.i_bound c.index_size-index_bytes.ensures c.length_size-length_bytes.ensures in
    omega arith

pub overflow_add-first : goal.overflow_add-first
overflow_add-first c = omega (arith, count_bound c.args.codestream.now c.args.at (λ i. omega (arith, c.type_inv.codestream i)))

pub entry_index-tile_index-requires : goal.entry_index-tile_index-requires
entry_index-tile_index-requires c =
    let within = inside _ _ _ _ _ c.requires.accepted c.requires.i_bound c.index_size-index_bytes.ensures c.length_size-length_bytes.ensures in
    record {
      size_bound = (omega arith, omega arith);
      number_bound = λ none. number_bound _ _ _ _ c.requires.i_bound c.requires.at_bound (sym c.index_size-index_bytes.ensures ∙ none);
    }

pub overflow_add-place-4 : goal.overflow_add-place-4
overflow_add-place-4 c =
    let within = inside _ _ _ _ _ c.requires.accepted c.requires.i_bound c.index_size-index_bytes.ensures c.length_size-length_bytes.ensures in
    omega arith

pub entry_length-length-requires : goal.entry_length-length-requires
entry_length-length-requires c =
    let within = inside _ _ _ _ _ c.requires.accepted c.requires.i_bound c.index_size-index_bytes.ensures c.length_size-length_bytes.ensures in
    (rw c.length_size-length_bytes.ensures (length_sizes _), omega arith)

pub returns : goal.returns
returns c =
    entry_read _ _ _ _ _ c.index_size-index_bytes.ensures c.length_size-length_bytes.ensures c.entry_index-tile_index.ensures c.entry_length-length.ensures
