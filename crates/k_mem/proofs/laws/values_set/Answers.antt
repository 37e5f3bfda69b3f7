use Rattle.k_mem.proofs.Values.{loads_value_set, loads_zero_beyond, sets_no_other}
use Rattle.k_mem.proofs.laws.values_set.Goals as goal

pub returns : goal.returns
returns c = record {
  value = loads_value_set;
  zero = loads_zero_beyond;
  others = sets_no_other;
}
