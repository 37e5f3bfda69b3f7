use Rattle.k_page.proofs.Escaping.{escaped_is_text}
use Rattle.k_page.proofs.PageParts.{large_page_is_html, page_is_html}
use Rattle.k_page.proofs.laws.nothing_becomes_markup.Goals as goal

pub returns : goal.returns
returns c = record { escaped = escaped_is_text; page = page_is_html; large = large_page_is_html }
