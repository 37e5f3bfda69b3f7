use Rattle.std.proofs.Common.{[], ◌∷◌}
use Rattle.k_optab.specs.declared.event.Event.TheVariants.{Enter}
use Rattle.k_plain.proofs.Advancing.{gone_on}
use Rattle.k_plain.proofs.advance.enter.Goals as goal

pub returns : goal.returns
returns c =
    gone_on c.args.store.now (Enter c.args.region ∷ []) c.enter.new.self c.args.log.now.events c.note_enter.new.log.events (c.enter.ensures c.args.region c.requires.kind)
    c.in_ok-note_enter.ensures
