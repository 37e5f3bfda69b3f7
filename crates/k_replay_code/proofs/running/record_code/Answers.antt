use Rattle.k_replay_code.proofs.Going.{all_at_once, begins}
use Rattle.k_replay_code.proofs.running.record_code.Goals as goal

pub record_from-requires-clause-stands : goal.record_from-requires-clause-stands
record_from-requires-clause-stands c =
    begins (record { code = c.args.code.now; input = c.args.input.now; budget = c.args.budget }) c.in-Ok.store c.new.result c.requires c.in-Ok.ensures
    c.new.ensures.steps c.new.ensures.recorded

pub returns-in-Err : goal.returns-in-Err
returns-in-Err c =
    all_at_once (record { code = c.args.code.now; input = c.args.input.now; budget = c.args.budget }) c.new.result c.in-Err.stop c.stopped_at_once.result
    c.in-Err.ensures c.new.ensures.steps c.new.ensures.recorded c.stopped_at_once.ensures
