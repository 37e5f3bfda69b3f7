use Rattle.k_dict_saved.proofs.HeadSteps.{no_first}
use Rattle.k_dict_saved.proofs.Whole.{whole_of}
use Rattle.k_dict_saved.proofs.reading.read_all.Goals as goal

pub returns-in_default : goal.returns-in_default
returns-in_default c = no_first c.args.accepts c.args.text.now c.in_default.ensures

pub returns : goal.returns
returns c =
    whole_of c.args.accepts c.args.text.now c.in-Some.format c.in-Some.rest.now c.in-Some.ensures c.read_lines.result c.read_lines.ensures
