use Rattle.k_top_exists.proofs.Tables.{table_is_answered}
use Rattle.k_top_exists.proofs.laws.tables.Goals as goal

pub returns : goal.returns
returns c = table_is_answered
