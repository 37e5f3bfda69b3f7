use Rattle.k_mem.proofs.Histories.{keeps_while_live}
use Rattle.k_mem.proofs.Numbers.{elements_are_live, objects_lie_within, elements_differ, keeps_over_push, keeps_over_store, keeps_over_fill, keeps_over_pop}
use Rattle.k_mem.proofs.laws.element_numbers.Goals as goal

pub returns : goal.returns
returns c = record {
  live = elements_are_live;
  within = objects_lie_within;
  differ = elements_differ;
  over_push = keeps_over_push;
  over_store = keeps_over_store;
  over_fill = keeps_over_fill;
  over_pop = keeps_over_pop;
  while_live = keeps_while_live;
}
