use Rattle.k_replay.proofs.Ordering.{any_order_gives_the_serial_run}
use Rattle.k_replay.proofs.laws.any_order.Goals as goal

pub returns : goal.returns
returns c = any_order_gives_the_serial_run
