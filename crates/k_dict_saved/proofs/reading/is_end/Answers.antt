use Rattle.std.proofs.lemmas.Bool.{false≢true}
use Rattle.k_dict_saved.proofs.Whole.{end_alone, no_end_here}
use Rattle.k_dict_saved.proofs.reading.is_end.Goals as goal

pub returns-in-None : goal.returns-in-None
returns-in-None c = (λ h. absurd (false≢true h), λ is. absurd (no_end_here c.args.text.now c.in-None.ensures is))

pub returns-in-Some : goal.returns-in-Some
returns-in-Some c = end_alone c.args.text.now c.in-Some.behind.now c.is_empty.result c.in-Some.ensures c.is_empty.ensures
