use Rattle.k_mem.proofs.Made.{makes_next, unset_has_no_value, zero_loads_zero, literal_loads_bytes, literal_is_read_only}
use Rattle.k_mem.proofs.laws.new_objects.Goals as goal

pub returns : goal.returns
returns c = record {
  next = makes_next;
  unset = unset_has_no_value;
  zero = zero_loads_zero;
  literal = literal_loads_bytes;
  read_only = literal_is_read_only;
}
