use Rattle.std.proofs.Common.{◌≡◌, length}
use Rattle.k_lex_sources.specs.Rows.{trigraph_in}
use Rattle.k_lex_sources.proofs.rows.trigraph_in.Given as goal

abbrev pub invariant-loop-more : goal.invariant-loop-more
invariant-loop-more l = trigraph_in l.left l.rest l.there ≡ trigraph_in l.count l.text l.places

abbrev pub decreases-loop-more : goal.decreases-loop-more
decreases-loop-more l = length l.rest
