use Rattle.k_top_exists.proofs.Parsed.{lists_are_read}
use Rattle.k_top_exists.proofs.laws.lists_are_read.Goals as goal

pub returns : goal.returns
returns c = lists_are_read
