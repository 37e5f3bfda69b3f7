use Rattle.std.proofs.Common.{◌≡◌, drop}
use Rattle.k_tree.specs.Closed.{EndsOnce}
use Rattle.k_parse.specs.Runs.{runs}
use Rattle.k_parse_steps.specs.Sources.{begin_source}
use Rattle.k_parse.specs.Parse.{nesting_limit}
use Rattle.k_parse.proofs.parser.read.Given as goal

abbrev pub invariant-loop-token : goal.invariant-loop-token
invariant-loop-token l = record {
  leads : runs nesting_limit l.source (drop l.token-index l.tokens) ≡ runs nesting_limit begin_source l.fn.tokens;
  ends : EndsOnce (drop l.token-index l.tokens);
}
