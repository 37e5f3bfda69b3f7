use Rattle.std.proofs.Common.{[], ◌∷◌}
use Rattle.k_optab.specs.declared.event.Event.TheVariants.{Exit}
use Rattle.k_plain.proofs.Advancing.{gone_on}
use Rattle.k_plain.proofs.advance.exit.Goals as goal

pub returns : goal.returns
returns c =
    gone_on c.args.store.now (Exit ∷ []) c.exit.new.self c.args.log.now.events c.note_exits.new.log.events c.exit.ensures c.in_ok-note_exits.ensures
