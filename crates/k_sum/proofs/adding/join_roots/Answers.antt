use Rattle.k_sum.proofs.Joins.{all_fit}
use Rattle.k_sum.proofs.adding.join_roots.Goals as goal

pub count_renumbered-requires-clause-few : goal.count_renumbered-requires-clause-few
count_renumbered-requires-clause-few c =
    all_fit c.count_all.new.tally c.new-tally.result c.args.roots.now c.args.more.now c.in_ok-count_all.ensures c.new-tally.ensures c.requires.few
