use Rattle.std.proofs.Common.{◌≡◌, ℕ, ◌+◌, ◌-◌, ◌≤◌, length, map}
use Rattle.k_lex_expansion.specs.Listing.{unhidden}
use Rattle.k_lex_expansion.specs.Gathering.{call_with}
use Rattle.k_lex_expansion.proofs.calls.gather_source.Given as goal

abbrev pub invariant-loop-token : goal.invariant-loop-token
invariant-loop-token l = record {
  short : length l.rest ≤ length l.source;
  read : (n : ℕ) → call_with n l.fn.call (map unhidden l.source) ≡ call_with (n + (length l.source - length l.rest)) l.call (map unhidden l.rest);
}

abbrev pub decreases-loop-token : goal.decreases-loop-token
decreases-loop-token l = length l.rest
