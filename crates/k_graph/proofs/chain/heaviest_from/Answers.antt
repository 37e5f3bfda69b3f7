use Rattle.k_optab.specs.Events.{operations}
use Rattle.k_graph.specs.Chosen.{AreChained}
use Rattle.k_graph.proofs.Chaining.{befores_earlier, chained_shown, chosen_is, heaviest_is, path_is}
use Rattle.k_graph.proofs.chain.heaviest_from.Goals as goal

pub path_to-requires-clause-earlier : goal.path_to-requires-clause-earlier
path_to-requires-clause-earlier c =
    let are : AreChained (operations c.args.events.now) c.args.start c.args.end c.as_slice-times.result.now c.as_slice-2.result.now =
    chained_shown c.args.events.now c.as_slice.result.now c.args.start c.args.end c.in_ok-chains.chains.times c.as_slice-times.result.now c.in_ok-chains.chains.befores
    c.as_slice-2.result.now c.as_slice.ensures c.as_slice-times.ensures c.as_slice-2.ensures c.in_ok-chains.ensures.chains in
    befores_earlier (operations c.args.events.now) c.requires.sources c.args.start c.args.end c.as_slice-times.result.now c.as_slice-2.result.now are

chained_at_end : (c : goal.After-drop-chains-3) → AreChained (operations c.args.events.now) c.args.start c.args.end c.as_slice-times.result.now c.as_slice-2.result.now
chained_at_end c =
    chained_shown c.args.events.now c.as_slice.result.now c.args.start c.args.end c.in_ok-chains.chains.times c.as_slice-times.result.now c.in_ok-chains.chains.befores
    c.as_slice-2.result.now c.as_slice.ensures c.as_slice-times.ensures c.as_slice-2.ensures c.in_ok-chains.ensures.chains

pub returns-clause-weight : goal.returns-clause-weight
returns-clause-weight c =
    heaviest_is (operations c.args.events.now) c.requires.sources c.args.start c.args.end c.as_slice-times.result.now c.as_slice-2.result.now (chained_at_end c)
    c.requires.interval c.first_greatest-last.result c.first_greatest-last.ensures.within c.first_greatest-last.ensures.greatest

pub returns-clause-path : goal.returns-clause-path
returns-clause-path c =
    path_is (operations c.args.events.now) c.requires.sources c.args.start c.args.end c.as_slice-times.result.now c.as_slice-2.result.now (chained_at_end c)
    c.requires.interval c.first_greatest-last.result c.first_greatest-last.ensures.within c.first_greatest-last.ensures.greatest c.in_ok-nodes.nodes c.in_ok-nodes.ensures

pub returns-clause-chosen : goal.returns-clause-chosen
returns-clause-chosen c = λ some.
    chosen_is (operations c.args.events.now) c.requires.sources c.args.start c.args.end c.as_slice-times.result.now c.as_slice-2.result.now (chained_at_end c)
    c.requires.interval c.first_greatest-last.result c.first_greatest-last.ensures.within c.first_greatest-last.ensures.greatest
    c.first_greatest-last.ensures.first c.in_ok-nodes.nodes c.in_ok-nodes.ensures
