use Rattle.k_mem.proofs.Histories.{loads_as_before, loads_stored_later}
use Rattle.k_mem.proofs.Values.{loads_last_stored, loads_others_as_before}
use Rattle.k_mem.proofs.laws.last_stored.Goals as goal

pub returns : goal.returns
returns c = record {
  same = loads_last_stored;
  others = loads_others_as_before;
  between = loads_as_before;
  later = loads_stored_later;
}
