use Rattle.k_mem.proofs.Histories.{dead_for_good}
use Rattle.k_mem.proofs.Made.{pop_keeps_rest, pop_undoes_push}
use Rattle.k_mem.proofs.laws.object_numbers.Goals as goal

pub returns : goal.returns
returns c = record {
  dead = dead_for_good;
  rest = pop_keeps_rest;
  undone = pop_undoes_push;
}
