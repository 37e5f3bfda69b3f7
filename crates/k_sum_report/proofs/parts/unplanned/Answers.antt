use Rattle.k_sum_report.proofs.Texts.{unplanned_parts}
use Rattle.k_sum_report.proofs.parts.unplanned.Goals as goal

pub returns : goal.returns
returns c = unplanned_parts c.args.sum.now c.requires.sum c.args.rows c.requires.rows c.requires.many c.new.result c.new.ensures
