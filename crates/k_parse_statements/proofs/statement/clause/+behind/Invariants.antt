use Rattle.std.proofs.Common.{length}
use Rattle.k_parse_statements.proofs.statement.clause.+behind.Given as goal

abbrev pub decreases-behind : goal.decreases-behind
decreases-behind l = length l.frames
