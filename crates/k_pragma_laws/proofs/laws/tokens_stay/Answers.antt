use Rattle.k_pragma_laws.proofs.Whole.{annotating_keeps_tokens, inserting_keeps_tokens}
use Rattle.k_pragma_laws.proofs.laws.tokens_stay.Goals as goal

pub returns-clause-inserting : goal.returns-clause-inserting
returns-clause-inserting c = inserting_keeps_tokens

pub returns-clause-annotating : goal.returns-clause-annotating
returns-clause-annotating c = annotating_keeps_tokens
