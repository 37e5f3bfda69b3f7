use Rattle.k_sum_report.proofs.Texts.{sum_document_is_unique, sum_report_is_unique, sum_table_is_unique}
use Rattle.k_sum_report.proofs.laws.one_text.Goals as goal

pub returns : goal.returns
returns c = record { report = sum_report_is_unique; document = sum_document_is_unique; table = sum_table_is_unique }
