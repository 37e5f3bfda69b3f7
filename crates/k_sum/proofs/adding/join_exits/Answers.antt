use Rattle.k_sum.proofs.ExitLists.{all_fit}
use Rattle.k_sum.proofs.adding.join_exits.Goals as goal

pub add_exits-requires-2 : goal.add_exits-requires-2
add_exits-requires-2 c =
    all_fit c.add_exits.new.all c.new-all.result c.args.exits.now c.args.more.now c.in_ok-add_exits.ensures c.new-all.ensures c.requires
