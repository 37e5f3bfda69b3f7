use Rattle.k_data_laws.proofs.Document.{table_is_read}
use Rattle.k_data_laws.proofs.laws.table_is_read.Goals as goal

pub returns : goal.returns
returns c = table_is_read
