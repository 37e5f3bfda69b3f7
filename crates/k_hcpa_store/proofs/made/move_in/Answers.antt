use Rattle.std.proofs.Common.{◌<◌, ◌^◌, ◌∷◌, [], Some, Ok, false, rules}
use Rattle.k_num.specs.declared.place.Place.{Place}
use Rattle.k_world.specs.declared.act.Act.TheVariants.{Move}
use Rattle.k_hcpa_store.proofs.Numbered.{keeps_made}
use Rattle.k_hcpa_store.proofs.made.move_in.Goals as goal

pub returns-clause-keeps : goal.returns-clause-keeps
returns-clause-keeps c =
    let few : c.made-count.result < 2 ^ 64 = search rules in
    let place : Place = record { line = 0; column = 0 } in
    keeps_made place Move (record { slot = Some c.args.held; broken = false } ∷ []) c.args.world.now c.move_held-moved.new.self (Ok c.move_held-moved.result) c.made-count.result
    (λ class latency. c.move_held-moved.ensures class latency place false) c.made-count.ensures few
