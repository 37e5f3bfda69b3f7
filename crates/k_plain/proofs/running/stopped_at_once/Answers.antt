use Rattle.std.proofs.Common.{Err, subst}
use Rattle.k_world.specs.declared.answer.Stop.{Stop}
use Rattle.k_hcpa_store.specs.Leads.{Starts}
use Rattle.k_plain.proofs.Going.{at_once}
use Rattle.k_plain.proofs.running.stopped_at_once.Goals as goal

pub returns-in-Ended : goal.returns-in-Ended
returns-in-Ended c =
    at_once c.args.setting.now.code.now c.args.setting.now.input.now c.args.setting.now.budget c.in-Ended.end c.new.result c.new-in-Ended.result
    (subst (λ (s : Stop). Starts c.args.setting.now.code.now c.args.setting.now.input.now c.args.setting.now.budget (Err s)) c.in-Ended.is c.requires) c.new.ensures
    c.new-in-Ended.ensures
