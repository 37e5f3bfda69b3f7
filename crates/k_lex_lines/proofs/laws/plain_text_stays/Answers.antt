use Rattle.k_lex_lines.proofs.Plain.{stays}
use Rattle.k_lex_lines.proofs.laws.plain_text_stays.Goals as goal

pub returns : goal.returns
returns c = stays c.plain_lists_stay.ensures
