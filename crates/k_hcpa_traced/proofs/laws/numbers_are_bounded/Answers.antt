use Rattle.k_hcpa_traced.proofs.Bounds.{registers_are_few, touched_elements_are_live, elements_are_few}
use Rattle.k_hcpa_traced.proofs.Running.{instructions_are_short}
use Rattle.k_hcpa_traced.proofs.laws.numbers_are_bounded.Goals as goal

pub returns : goal.returns
returns c = record {
  latencies = instructions_are_short;
  registers = registers_are_few;
  live = touched_elements_are_live;
  elements = elements_are_few;
}
