use Rattle.k_data_laws.proofs.Document.{document_is_printed, document_is_read}
use Rattle.k_data_laws.proofs.laws.document_is_read.Goals as goal

pub returns-clause-read : goal.returns-clause-read
returns-clause-read c = document_is_read

pub returns-clause-printed : goal.returns-clause-printed
returns-clause-printed c = document_is_printed
