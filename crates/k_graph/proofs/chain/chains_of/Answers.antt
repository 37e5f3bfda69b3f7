use Rattle.std.proofs.Common.{◌≡◌, ◌+◌, ◌<◌, ◌≤◌, List, arith, ◌∙◌, ap, refl, subst, sym}
use Rattle.k_optab.specs.declared.event.Event.{Event}
use Rattle.k_optab.specs.Events.{Operation, operations}
use Rattle.k_graph.specs.Chosen.{AreChained}
use Rattle.k_graph.proofs.Chaining.{all_made, can_chain, chain_added, chained_begin, chained_to, left_behind, operation_at, other_at, read_rest, rest_of}
use Rattle.k_graph.proofs.chain.chains_of.Goals as goal
use Rattle.k_graph.proofs.chain.chains_of.Goals.{in-Op+in_ok-add, in_default, else-loop-event-test, then-loop-event-test+then-made-end}

pub add-requires : goal.add-requires
add-requires c =
    let at = operation_at (operations c.args.events.now) (rest_of c.args.events.now c.args.at) c.loop-event.event-index c.loop-event.made c.event-item.result c.in-Op.class c.in-Op.latency
    c.in-Op.sources c.in-Op.place c.loop-event-test.true c.event-item.is c.in-Op.is c.loop-event.invariant.left in
    can_chain (operations c.args.events.now) c.requires.sources c.requires.latencies c.args.start c.loop-event.made _ at.0 c.loop-event.invariant.from c.loop-event.chains
    c.loop-event.invariant.start_is c.loop-event.invariant.chained c.as_slice.result.now c.as_slice.ensures

pub loop-event-init : goal.loop-event-init
loop-event-init c = record {
  few = c.requires.interval;
  from = omega arith;
  left = left_behind c.args.events.now c.args.at c.args.start c.requires.begins ∙ ap operations (sym (read_rest c.args.events.now c.args.at));
  chained = chained_begin (operations c.args.events.now) c.args.start c.new.result c.new-2.result c.new.ensures c.new-2.ensures;
  start_is = refl;
}

pub loop-event-preserved : goal.loop-event-preserved
loop-event-preserved c =
    let ops : List Operation = operations c.args.events.now in
    let rest : List Event = rest_of c.args.events.now c.args.at in
    let low : c.loop-event.made < c.args.end = c.if-made-end.false in
    let from : c.args.start ≤ c.loop-event.made = c.loop-event.invariant.from in
    elim c.match-event.branch [
      | in-Op+in_ok-add w ↦
          (let at = operation_at ops rest c.loop-event.event-index c.loop-event.made c.event-item.result w.in-Op.class w.in-Op.latency w.in-Op.sources w.in-Op.place
          c.loop-event-test.true c.event-item.is w.in-Op.is c.loop-event.invariant.left in
          let added = chain_added ops c.requires.sources c.args.start c.loop-event.made _ at.0 from c.loop-event.chains w.add.new.self
          c.loop-event.invariant.start_is c.loop-event.invariant.chained w.as_slice.result.now w.as_slice.ensures w.in_ok-add.ensures in
          chained_to ops rest c.args.start c.args.end (c.loop-event.event-index + 1) (c.loop-event.made + 1) c.match-event.made c.match-event.chains w.add.new.self
          w.made-is w.chains-is (record { few = omega arith; from = omega arith; left = at.1; chained = added.1; start_is = added.0 }))
      | in_default w ↦
          (let left = other_at ops rest c.loop-event.event-index c.loop-event.made c.event-item.result c.loop-event-test.true c.event-item.is
          w.in_default.not-Op c.loop-event.invariant.left in
          chained_to ops rest c.args.start c.args.end (c.loop-event.event-index + 1) c.loop-event.made c.match-event.made c.match-event.chains c.loop-event.chains
          w.made-is w.chains-is
          (record { few = omega arith; from = from; left = left; chained = c.loop-event.invariant.chained; start_is = c.loop-event.invariant.start_is }))
    ]

pub returns-clause-chains : goal.returns-clause-chains
returns-clause-chains c = elim c.loop-event-test.branch [
  | else-loop-event-test w ↦
      (let past = all_made (operations c.args.events.now) (rest_of c.args.events.now c.args.at) c.loop-event.event-index c.loop-event.made w.loop-event-test.false c.loop-event.invariant.left in
      let few : c.loop-event.made ≤ c.args.end = c.loop-event.invariant.few in
      let end : c.loop-event.made ≡ c.args.end = omega (arith, c.requires.within) in
      subst (λ n. AreChained (operations c.args.events.now) c.args.start n c.loop-event.chains.times c.loop-event.chains.befores) end c.loop-event.invariant.chained)
  | then-loop-event-test+then-made-end w ↦
      (let few : c.loop-event.made ≤ c.args.end = c.loop-event.invariant.few in
      let end : c.loop-event.made ≡ c.args.end = omega (arith, w.if-made-end.true) in
      subst (λ n. AreChained (operations c.args.events.now) c.args.start n c.loop-event.chains.times c.loop-event.chains.befores) end c.loop-event.invariant.chained)
]
