use Rattle.k_data_profile.proofs.Pages.{run_page_is_unique}
use Rattle.k_data_profile.proofs.Texts.{document_is_unique, table_is_unique}
use Rattle.k_data_profile.proofs.laws.one_text.Goals as goal

pub returns : goal.returns
returns c = record { document = document_is_unique; table = table_is_unique; page = run_page_is_unique }
