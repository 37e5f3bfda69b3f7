use Rattle.std.proofs.Common.{◌≡◌, ◌+◌, ◌≤◌, ◌++◌, length, map, take, Some, vec_len, vec_capacity}
use Rattle.std.specs.Int.{w8, cast_signed}
use Rattle.k_mem.proofs.cells.append_bytes.Given as goal

-- the cells of the bytes so far were added, and there is room for the others
abbrev pub invariant-loop-byte : goal.invariant-loop-byte
invariant-loop-byte l = record {
  added : l.cells.items ≡ l.fn.cells.items ++ map (λ byte. Some (cast_signed w8 byte)) (take l.byte-index l.bytes);
  room : vec_len l.cells + length l.bytes ≤ vec_capacity l.cells + l.byte-index;
}
