use Rattle.std.proofs.Common.{◌≡◌, ◌<◌, ◌∙◌, ap, subst, sym, length, List, Bool, false, set, Some, None}
use Rattle.k_replay.specs.Kept.{IsKept, Kept}
use Rattle.k_replay.specs.Plays.{held_by, with_held}
use Rattle.k_replay.proofs.Stays.{none_of, taken_kept}
use Rattle.k_replay.proofs.state.State.take.Goals as goal

pub returns-in-Some-first-clause-kept : goal.returns-in-Some-first-clause-kept
returns-in-Some-first-clause-kept c =
    let s : Kept = record {
      play = record { tape = c.self.inside.tape.now; held = c.self.inside.held.items; values = c.self.inside.values.items; output = c.self.inside.output.items };
      left = c.self.inside.left;
      ready = c.self.inside.ready;
      users = c.self.inside.users.items;
    } in
    let is : s ≡ c.args.self.now = c.self.view_is in
    let within : c.args.worker < length s.play.held = subst (λ (x : Kept). c.args.worker < length x.play.held) (sym is) c.requires.within in
    let free : held_by s.play c.args.worker ≡ None = ap (λ (x : Kept). held_by x.play c.args.worker) is
    ∙ none_of (held_by c.args.self.now.play c.args.worker) (λ x e. c.in_default.not-Some x (c.held_by.ensures ∙ e)) in
    taken_kept s c.give.new.self c.args.worker c.in-Some-first.k (subst IsKept (sym is) c.requires.kept) within free c.in-Some-first.ensures.found
    (c.give.ensures ∙ ap (λ (flags : List Bool). record s { play = with_held c.args.worker (Some c.in-Some-first.k) s.play; ready = set flags c.in-Some-first.k false }) c.in-Some-first.ensures.same)
