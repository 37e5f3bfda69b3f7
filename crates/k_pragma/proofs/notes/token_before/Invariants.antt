use Rattle.std.proofs.Common.{◌≡◌, drop}
use Rattle.k_pragma.specs.Insertions.{nowhere, token_before}
use Rattle.k_pragma.proofs.notes.token_before.Given as goal

abbrev pub invariant-loop-token : goal.invariant-loop-token
invariant-loop-token l = token_before l.found l.place (drop l.token-index l.tokens) ≡ token_before nowhere l.place l.tokens
