use Rattle.k_plain.proofs.Advancing.{ended}
use Rattle.k_plain.proofs.advance.leave.Goals as goal

pub returns-in-Err : goal.returns-in-Err
returns-in-Err c =
    ended c.args.store.now c.in-Err.end c.args.store.now c.args.log.now.events (c.in-Err.ensures c.requires.kind.0 c.requires.kind.1)
