use Rattle.std.proofs.Common.{Err, subst}
use Rattle.k_world.specs.declared.answer.Stop.{Stop}
use Rattle.k_hcpa_store.specs.Leads.{Starts}
use Rattle.k_carry.specs.Sources.{setting_of}
use Rattle.k_carry.proofs.Starting.{begins, begins_first, none_at_once}
use Rattle.k_carry.proofs.program.place_by_running.Goals as goal

pub place_in-requires-clause-stands : goal.place_in-requires-clause-stands
place_in-requires-clause-stands c = begins (setting_of c.args.program.now) c.in-Ok.store c.requires c.in-Ok.ensures

pub place_in-requires-clause-fewer : goal.place_in-requires-clause-fewer
place_in-requires-clause-fewer c = begins_first (setting_of c.args.program.now) c.in-Ok.store c.args.number c.requires c.in-Ok.ensures

pub returns-in-Err-Ended : goal.returns-in-Err-Ended
returns-in-Err-Ended c =
    none_at_once (setting_of c.args.program.now) c.args.number c.in-Err-Ended.field-0-0 c.nowhere.result
    (subst (λ (s : Stop). Starts c.args.program.now.code.now c.args.program.now.input.now c.args.program.now.budget (Err s)) c.in-Err-Ended.field-0-is c.in-Err-Ended.ensures)
