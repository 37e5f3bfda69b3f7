use Rattle.k_page.proofs.Reading.{html_is_ended, text_is_no_markup}
use Rattle.k_page.proofs.laws.html_is_read.Goals as goal

pub returns : goal.returns
returns c = record { text = text_is_no_markup; html = html_is_ended }
