use Rattle.k_parse.proofs.CompleteRuns.{source_runs}
use Rattle.k_parse.proofs.laws.ranked_trees_are_read.Goals as goal

pub returns : goal.returns
returns c = λ limit u tokens ranked within spelled. let read = source_runs limit u tokens ranked within spelled in (read.made, read.ran, read.same)
