use Rattle.k_top_lemmas.proofs.NothingPut.{others_tell_their_line, refusals_put_nothing}
use Rattle.k_top_lemmas.proofs.laws.refusals.Goals as goal

pub returns-clause-nothing : goal.returns-clause-nothing
returns-clause-nothing c = refusals_put_nothing

pub returns-clause-line : goal.returns-clause-line
returns-clause-line c = others_tell_their_line
