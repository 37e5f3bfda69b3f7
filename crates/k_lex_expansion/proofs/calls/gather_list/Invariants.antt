use Rattle.std.proofs.Common.{◌≡◌, ◌-◌, ◌≤◌, ◌++◌, List, drop, length}
use Rattle.k_lex_expansion.specs.declared.tokens.Listed.{Listed}
use Rattle.k_lex_expansion.specs.Gathering.{call_with}
use Rattle.k_lex_expansion.proofs.calls.gather_list.Given as goal

abbrev pub invariant-loop-token : goal.invariant-loop-token
invariant-loop-token l = record {
  short : length l.list ≤ length l.fn.list;
  left : l.list ≡ drop (length l.fn.list - length l.list) l.fn.list;
  read : (behind : List Listed) → call_with 0 l.fn.call (l.fn.list ++ behind) ≡ call_with (length l.fn.list - length l.list) l.call (l.list ++ behind);
}

abbrev pub decreases-loop-token : goal.decreases-loop-token
decreases-loop-token l = length l.list
