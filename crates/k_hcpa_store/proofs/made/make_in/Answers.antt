use Rattle.std.proofs.Common.{◌<◌, ◌^◌, rules}
use Rattle.k_world.specs.Answers.{act_of}
use Rattle.k_hcpa_store.proofs.Numbered.{keeps_made}
use Rattle.k_hcpa_store.proofs.made.make_in.Goals as goal

pub returns-clause-keeps : goal.returns-clause-keeps
returns-clause-keeps c =
    let few : c.made-count.result < 2 ^ 64 = search rules in
    keeps_made c.args.place (act_of c.args.act) c.args.reads.now c.args.world.now c.operation-made.new.self c.operation-made.result c.made-count.result c.operation-made.ensures.made c.made-count.ensures few
