use Rattle.std.proofs.Common.{List, ◌≡◌, subst}
use Rattle.k_optab.specs.declared.node.Node.{Node}
use Rattle.k_dict_entries.specs.Gathering.{LeadsTo, gathered}
use Rattle.k_dict_entries.proofs.Gathered.{gathers_is}
use Rattle.k_dict_entries.proofs.gathering.gather.Goals as goal

pub returns-clause-answer : goal.returns-clause-answer
returns-clause-answer c =
    let P : List Node → Type 0 = λ nodes. LeadsTo c.gather_all.result (gathered nodes) in
    gathers_is c.args.nodes.now c.gather_all.result c.requires (subst P c.as_slice.ensures c.gather_all.ensures.leads)
