use Rattle.std.proofs.Common.{sym, subst}
use Rattle.k_real.specs.Digits.{value, Spells}
use Rattle.k_real.proofs.RoundingLaws.{fewer_places, more_places}
use Rattle.k_real.proofs.digits.with_places.Goals as goal

pub returns-then-from-to : goal.returns-then-from-to
returns-then-from-to c = subst (Spells c.in_ok-fewer.fewer.items) (sym (fewer_places (value c.args.xs.now) c.args.from c.args.to c.if-from-to.true)) c.in_ok-fewer.ensures

pub returns : goal.returns
returns c = subst (Spells c.in_ok-more.more.items) (sym (more_places (value c.args.xs.now) c.args.from c.args.to c.if-from-to.false)) c.in_ok-more.ensures
