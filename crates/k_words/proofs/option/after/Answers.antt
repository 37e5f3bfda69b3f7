use Rattle.k_words.proofs.Fronts.{after-stripped}
use Rattle.k_words.proofs.option.after.Goals as goal

pub returns : goal.returns
returns c = after-stripped c.strip_prefix.result c.args.front.now c.args.word.now c.strip_prefix.ensures.cases
