use Rattle.std.proofs.Common.{◌≡◌, ◌<◌, FitsSigned, rules, ◌∙◌, ap, ℤ}
use Rattle.std.specs.Int.{w128}
use Rattle.std.proofs.lemmas.Int.{to_z-of_z}
use Rattle.k_mem.specs.Calls.{stored}
use Rattle.k_world.proofs.run_state.objects.store_at.Goals as goal

pub returns-in-Ok-clause-stored : goal.returns-in-Ok-clause-stored
returns-in-Ok-clause-stored c =
    let fits : FitsSigned w128 c.args.number = search rules in
    c.in-Ok.ensures.ok ∙ ap (λ (n : ℤ). stored c.args.objects.now c.args.at n) (to_z-of_z w128 c.args.number fits)
