use Rattle.k_lex_groups.proofs.Ended.{ended}
use Rattle.k_lex_groups.proofs.Read.{blocks_read}
use Rattle.k_lex_groups.proofs.laws.blocks.Goals as goal

pub returns-clause-read : goal.returns-clause-read
returns-clause-read c = blocks_read

pub returns-clause-ended : goal.returns-clause-ended
returns-clause-ended c = ended
