use Rattle.std.proofs.Common.{◌≡◌, ◌∙◌, ap, subst, rules, ℕ, length, List, false, get_or, replicate, None}
use Rattle.k_replay_record.specs.declared.record.Step.{Step}
use Rattle.k_replay.specs.Kept.{AreUsers, NamesBelow}
use Rattle.k_replay.specs.Plays.{can_give}
use Rattle.k_replay.proofs.Stays.{started_kept}
use Rattle.k_replay.proofs.state.State.new.Goals as goal

pub returns-clause-kept : goal.returns-clause-kept
returns-clause-kept c =
    let steps : c.as_slice-steps.result.now ≡ c.args.tape.now.steps = c.as_slice-steps.ensures in
    let held : c.in_ok-held.held.items ≡ replicate c.args.workers None = search rules in
    let values : c.in_ok-values.values.items ≡ replicate (length c.as_slice-steps.result.now) None = search rules in
    let ready : (k : ℕ) → get_or c.renew_all.new.ready k false ≡ can_give c.args.tape.now.steps c.in_ok-held.held.items c.in_ok-values.values.items k
    = λ k. c.renew_all.ensures.ready k ∙ (λ i. can_give (steps i) (c.deref.ensures.value i) (c.deref-2.ensures.value i) k) in
    started_kept c.args.tape.now c.args.workers c.in_ok-held.held.items c.in_ok-values.values.items c.new-2.result.items c.renew_all.new.ready c.in_ok-users.users.items
    (length c.as_slice-steps.result.now) c.requires held (values ∙ ap (λ (xs : List Step). replicate (length xs) None) steps) c.new-2.ensures.items (ap length steps)
    (c.renew_all.ensures.lengths ∙ ap length steps) ready (c.in_ok-users.ensures.lists ∙ ap length steps)
    (subst (λ (xs : List Step). AreUsers c.in_ok-users.users.items xs) steps c.in_ok-users.ensures.users)
    (subst (λ (xs : List Step). NamesBelow c.in_ok-users.users.items (length xs)) steps c.in_ok-users.ensures.named)
