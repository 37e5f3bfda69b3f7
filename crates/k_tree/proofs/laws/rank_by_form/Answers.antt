use Rattle.k_tree.specs.Rank.{rank_of}
use Rattle.k_tree.proofs.Ranks.{lower, at_most_its_rank, at_its_rank}
use Rattle.k_tree.proofs.laws.rank_by_form.Goals as goal

pub returns : goal.returns
returns c = λ j k e r. (at_most_its_rank k e r, λ le. lower j (rank_of e) e le (at_its_rank k e r))
