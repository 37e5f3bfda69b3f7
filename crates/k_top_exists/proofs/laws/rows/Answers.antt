use Rattle.k_top_exists.proofs.RowsOfTrees.{rows_exist}
use Rattle.k_top_exists.proofs.laws.rows.Goals as goal

pub returns : goal.returns
returns c = rows_exist
