use Rattle.std.proofs.Common.{◌≡◌, ℕ, ◌+◌, ◌*◌, ◌∙◌, List, [], ◌∷◌, suc, ap, arith, length, sym}
use Rattle.k_hcpa_meaning.specs.Locations.{operand_locations}
use Rattle.k_hcpa_meaning.specs.Timings.{Location}
use Rattle.k_hcpa_times.specs.Seen.{levels}
use Rattle.k_hcpa_instructions.proofs.AtOnce.{first_below, given_after, second_below, two_of_none, two_of_one}
use Rattle.k_hcpa_instructions.proofs.plain.operate_two.Goals as goal

pub read_register-requires : goal.read_register-requires
read_register-requires g c =
    let limit = (g.T.Timed.seen c.args.times.now).registers in
    (limit, first_below c.args.first limit c.args.a.now c.args.b.now c.requires.args)

pub operate_one-requires-clause-arg : goal.operate_one-requires-clause-arg
operate_one-requires-clause-arg g c = second_below c.args.first (g.T.Timed.seen c.args.times.now).registers c.args.a.now c.args.b.now c.requires.args

pub operate_with-requires-clause-arg : goal.operate_with-requires-clause-arg
operate_with-requires-clause-arg g c = second_below c.args.first (g.T.Timed.seen c.args.times.now).registers c.args.a.now c.args.b.now c.requires.args

pub operate_with-requires-clause-left : goal.operate_with-requires-clause-left
operate_with-requires-clause-left g c =
    let limit = (g.T.Timed.seen c.args.times.now).registers in
    c.in-Some.ensures.below limit (first_below c.args.first limit c.args.a.now c.args.b.now c.requires.args)

pub returns-in-None-clause-given : goal.returns-in-None-clause-given
returns-in-None-clause-given g c =
    c.operate_one.ensures.given
    ∙ ap (λ (on : List Location). given_after c.args.to c.args.latency on (g.T.Timed.seen c.args.times.now))
    (sym (two_of_none c.args.first c.args.a.now c.args.b.now c.in-None.ensures.told))

pub returns-in-Some-clause-given : goal.returns-in-Some-clause-given
returns-in-Some-clause-given g c =
    c.operate_with.ensures.given
    ∙ ap (λ (on : List Location). given_after c.args.to c.args.latency on (g.T.Timed.seen c.args.times.now))
    (sym (two_of_one c.args.first c.args.a.now c.args.b.now c.in-Some.left c.in-Some.ensures.told))

pub returns-in-None-clause-steps : goal.returns-in-None-clause-steps
returns-in-None-clause-steps g c =
    let n = levels (g.T.Timed.seen c.args.times.now) in
    c.operate_one.ensures.steps
    ∙ ap (λ (on : List Location). c.args.steps.now + (1 + length on) * n) (sym (two_of_none c.args.first c.args.a.now c.args.b.now c.in-None.ensures.told))

pub returns-in-Some-clause-steps : goal.returns-in-Some-clause-steps
returns-in-Some-clause-steps g c =
    let n = levels (g.T.Timed.seen c.args.times.now) in
    let counted : 1 + length (operand_locations c.args.first (c.args.a.now ∷ c.args.b.now ∷ [])) ≡ 2 + length (operand_locations c.args.first (c.args.b.now ∷ [])) =
    ap (λ (on : List Location). 1 + length on) (two_of_one c.args.first c.args.a.now c.args.b.now c.in-Some.left c.in-Some.ensures.told) ∙ stepped (length (operand_locations c.args.first (c.args.b.now ∷ []))) in
    c.operate_with.ensures.steps ∙ ap (λ m. c.args.steps.now + m * n) (sym counted)
  where
    stepped : (m : ℕ) → 1 + suc m ≡ 2 + m
    stepped m = omega arith
