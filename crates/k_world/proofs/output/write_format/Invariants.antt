use Rattle.std.proofs.Common.{◌≡◌, drop, true}
use Rattle.k_world.specs.Acts.{bytes_before, formatted}
use Rattle.k_world.specs.Operands.{are_set, values_of}
use Rattle.k_world.proofs.output.write_format.Given as goal

abbrev pub invariant-loop-chunk : goal.invariant-loop-chunk
invariant-loop-chunk l = record {
  whole : bytes_before l.bytes.items (formatted (drop l.chunk-index l.chunks) (values_of l.rest))
      ≡ bytes_before l.fn.bytes.items (formatted l.fn.chunks (values_of l.fn.reads));
  set : are_set l.rest ≡ true;
}
