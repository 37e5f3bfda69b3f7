use Rattle.std.proofs.Common.{sym, ◌∙◌, arith}
use Rattle.std.proofs.lemmas.Bool.{false≢true}
use Rattle.k_sum_read.proofs.roots.may_be_roots.Goals as goal

pub are_of_main-requires-clause-some : goal.are_of_main-requires-clause-some
are_of_main-requires-clause-some c = let some = c.requires.some in let count = (c.are_within.ensures.0 c.if-are_within.true).1 in omega arith

pub returns-then-are_within : goal.returns-then-are_within
returns-then-are_within c = (λ h. (c.are_within.ensures.0 c.if-are_within.true, c.are_of_main.ensures.0 h), λ both. c.are_of_main.ensures.1 both.1)

pub returns-else-are_within : goal.returns-else-are_within
returns-else-are_within c = (λ h. absurd (false≢true h), λ both. sym c.if-are_within.false ∙ c.are_within.ensures.1 both.0)
