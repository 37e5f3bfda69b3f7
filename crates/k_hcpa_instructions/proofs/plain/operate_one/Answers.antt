use Rattle.std.proofs.Common.{◌≡◌, ◌+◌, ◌*◌, ◌∙◌, List, ap, arith, length, sym}
use Rattle.k_hcpa_meaning.specs.Timings.{Location}
use Rattle.k_hcpa_times.specs.Seen.{levels}
use Rattle.k_hcpa_instructions.proofs.AtOnce.{given_after}
use Rattle.k_hcpa_instructions.proofs.plain.operate_one.Goals as goal

pub read_register-requires : goal.read_register-requires
read_register-requires g c = ((g.T.Timed.seen c.args.times.now).registers, c.requires.arg)

pub give_after_one-requires-clause-from : goal.give_after_one-requires-clause-from
give_after_one-requires-clause-from g c = c.in-Some.ensures.below (g.T.Timed.seen c.args.times.now).registers c.requires.arg

pub returns-in-None-clause-given : goal.returns-in-None-clause-given
returns-in-None-clause-given g c =
    c.give_after_none.ensures.given ∙ ap (λ (on : List Location). given_after c.args.to c.args.latency on (g.T.Timed.seen c.args.times.now)) (sym c.in-None.ensures.told)

pub returns-in-Some-clause-given : goal.returns-in-Some-clause-given
returns-in-Some-clause-given g c =
    c.give_after_one.ensures.given ∙ ap (λ (on : List Location). given_after c.args.to c.args.latency on (g.T.Timed.seen c.args.times.now)) (sym c.in-Some.ensures.told)

pub returns-in-None-clause-steps : goal.returns-in-None-clause-steps
returns-in-None-clause-steps g c =
    let n = levels (g.T.Timed.seen c.args.times.now) in
    let once : c.args.steps.now + n ≡ c.args.steps.now + 1 * n = omega arith in
    c.give_after_none.ensures.steps ∙ once ∙ ap (λ (on : List Location). c.args.steps.now + (1 + length on) * n) (sym c.in-None.ensures.told)

pub returns-in-Some-clause-steps : goal.returns-in-Some-clause-steps
returns-in-Some-clause-steps g c =
    let n = levels (g.T.Timed.seen c.args.times.now) in
    c.give_after_one.ensures.steps ∙ ap (λ (on : List Location). c.args.steps.now + (1 + length on) * n) (sym c.in-Some.ensures.told)
