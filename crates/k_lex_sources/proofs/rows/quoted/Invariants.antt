use Rattle.std.proofs.Common.{◌≡◌, ◌+◌, false, length}
use Rattle.k_lex_sources.specs.Rows.{quoted}
use Rattle.k_lex_sources.proofs.rows.quoted.Given as goal

abbrev pub invariant-loop-b : goal.invariant-loop-b
invariant-loop-b l = record {
  counted : l.count + length l.rest ≡ length l.text;
  left : l.count + quoted l.quote l.escaped l.rest ≡ quoted l.quote false l.text;
}

abbrev pub decreases-loop-b : goal.decreases-loop-b
decreases-loop-b l = length l.rest
