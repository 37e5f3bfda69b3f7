use Rattle.std.proofs.Common.{◌<◌, ◌-◌, ◌∙◌, ap, subst, sym, arith, ℕ, length, set, get_or, [], Some, None}
use Rattle.k_replay.specs.Kept.{Kept, NamesBelow, Renews}
use Rattle.k_replay.specs.Plays.{can_give}
use Rattle.k_replay.proofs.Ordering.{held_of}
use Rattle.k_replay.proofs.Stays.{fired_kept, held_step, some_left}
use Rattle.k_replay.proofs.state.State.fire.Goals as goal

pub perform-requires : goal.perform-requires
perform-requires c = held_step c.args.self.now c.args.worker c.in-Some.k c.requires.kept (sym c.in-Some.ensures)

pub finish-requires-clause-value : goal.finish-requires-clause-value
finish-requires-clause-value c = subst (λ (s : Kept). c.in-Some.k < length s.play.values) (sym c.in-Ok.ensures.written)
    (held_of c.args.self.now.play c.args.worker c.in-Some.k c.requires.kept.sound (sym c.in-Some.ensures))

pub finish-requires-clause-list : goal.finish-requires-clause-list
finish-requires-clause-list c = subst (λ (s : Kept). c.in-Some.k < length s.users) (sym c.in-Ok.ensures.written)
    (let low = held_step c.args.self.now c.args.worker c.in-Some.k c.requires.kept (sym c.in-Some.ensures) in omega (arith, low, c.requires.kept.lists))

pub finish-requires-clause-some : goal.finish-requires-clause-some
finish-requires-clause-some c = subst (λ (s : Kept). 0 < s.left) (sym c.in-Ok.ensures.written)
    (some_left c.args.self.now c.args.worker c.in-Some.k c.requires.kept (sym c.in-Some.ensures))

pub finish-requires-clause-named : goal.finish-requires-clause-named
finish-requires-clause-named c = subst (λ (s : Kept). NamesBelow s.users (length s.ready)) (sym c.in-Ok.ensures.written)
    (subst (λ (n : ℕ). NamesBelow c.args.self.now.users n) (sym c.requires.kept.flags) c.requires.kept.named)

pub returns-in-Ok-clause-kept : goal.returns-in-Ok-clause-kept
returns-in-Ok-clause-kept c =
    fired_kept c.args.self.now c.finish.new.self c.args.worker c.in-Some.k c.requires.kept c.requires.within (sym c.in-Some.ensures)
    (c.finish.ensures.play ∙ (λ i. record {
      tape = (c.in-Ok.ensures.written i).play.tape;
      held = set (c.in-Ok.ensures.written i).play.held c.args.worker None;
      values = set (c.in-Ok.ensures.written i).play.values c.in-Some.k (Some (c.in-Ok.ensures.ok i));
      output = (c.in-Ok.ensures.written i).play.output;
    }))
    (c.finish.ensures.left ∙ ap (λ (s : Kept). s.left - 1) c.in-Ok.ensures.written)
    (c.finish.ensures.users ∙ ap (λ (s : Kept). s.users) c.in-Ok.ensures.written)
    (subst (λ (s : Kept). Renews (get_or s.users c.in-Some.k []) (can_give c.finish.new.self.play.tape.steps c.finish.new.self.play.held c.finish.new.self.play.values) s.ready c.finish.new.self.ready)
    c.in-Ok.ensures.written c.finish.ensures.ready)
