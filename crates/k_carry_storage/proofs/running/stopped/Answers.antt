use Rattle.std.proofs.Common.{Err, subst}
use Rattle.k_world.specs.declared.answer.Stop.{Stop}
use Rattle.k_hcpa_store.specs.Leads.{Starts}
use Rattle.k_carry_storage.specs.Running.{setting_of}
use Rattle.k_carry_storage.proofs.Moving.{all_told, over_at_once}
use Rattle.k_carry_storage.proofs.running.stopped.Goals as goal

pub returns-in-Ended : goal.returns-in-Ended
returns-in-Ended c =
    all_told (setting_of c.args.program.now) c.args.noted.now.gathering c.in-Ended.end c.tell.result
    (over_at_once (setting_of c.args.program.now) c.args.noted.now.gathering c.in-Ended.end c.requires.nothing
    (subst (λ (s : Stop). Starts c.args.program.now.code.now c.args.program.now.input.now c.args.program.now.budget (Err s)) c.in-Ended.is c.requires.starts)) c.tell.ensures
