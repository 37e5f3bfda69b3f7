use Rattle.k_dict_entries.proofs.Unique.{alike_further, alike_turned}
use Rattle.k_dict_entries.proofs.laws.order_of_siblings.Goals as goal

pub returns : goal.returns
returns c = record { both_ways = alike_turned; goes_on = alike_further }
