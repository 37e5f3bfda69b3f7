use Rattle.k_shaped.proofs.LineLaws.{worked_lines}
use Rattle.k_shaped.proofs.laws.lines.Goals as goal

pub returns : goal.returns
returns c = worked_lines
