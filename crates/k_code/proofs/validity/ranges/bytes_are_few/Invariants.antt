use Rattle.std.proofs.Common.{◌≡◌, drop, sum_by}
use Rattle.std.specs.Prelude.{nat_le}
use Rattle.k_code.specs.Named.{chunk_bytes}
use Rattle.k_code.proofs.validity.ranges.bytes_are_few.Given as goal

abbrev pub invariant-loop-chunk : goal.invariant-loop-chunk
invariant-loop-chunk l = nat_le (sum_by chunk_bytes (drop l.chunk-index l.chunks)) l.room ≡ nat_le (sum_by chunk_bytes l.chunks) 4194304
