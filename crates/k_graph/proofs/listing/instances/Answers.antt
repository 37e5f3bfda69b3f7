use Rattle.std.proofs.Common.{◌≡◌, ◌+◌, ◌<◌, ◌^◌, length, drop, map, arith, ap, sym, subst}
use Rattle.std.proofs.lemmas.Result.{IfOk-weaker}
use Rattle.k_optab.specs.Events.{operations}
use Rattle.k_optab.specs.Instances.{tracked}
use Rattle.k_optab.specs.Tree.{EachWith, IsTree}
use Rattle.k_graph.specs.Listings.{AreBounded, HasParent, IsListing, closed_of, node_of}
use Rattle.k_graph.specs.Passes.{state}
use Rattle.k_graph.proofs.Meanings.{bounded_listing}
use Rattle.k_graph.proofs.Progress.{IsBefore, before_event, before_end, event_taken, can_take, nested_list, listing_list, tree_of_listing}
use Rattle.k_graph.proofs.listing.instances.Goals as goal

pub take-requires : goal.take-requires
take-requires c =
    let size : length c.as_slice-event-items.result.now ≡ length c.args.events.now = ap length c.as_slice-event-items.ensures in
    let few : length c.args.events.now < 2 ^ 64 = omega arith in
    can_take c.args.depth c.args.events.now (drop (c.loop-event.event-index + 1) c.args.events.now) c.requires.sources c.requires.latencies few c.ranges.depth.fits
    c.event-item.result (state c.loop-event.pass)
    (before_event c.args.depth c.args.events.now c.as_slice-event-items.result.now c.loop-event.event-index c.event-item.result (state c.loop-event.pass)
    c.as_slice-event-items.ensures c.loop-event-test.true c.event-item.is c.loop-event.invariant)

pub loop-event-preserved : goal.loop-event-preserved
loop-event-preserved c =
    subst (λ s. IsBefore c.args.depth c.args.events.now (drop (c.loop-event.event-index + 1) c.args.events.now) s) (sym c.in_ok-take.ensures)
    (event_taken c.args.depth c.args.events.now (drop (c.loop-event.event-index + 1) c.args.events.now) c.requires.sources c.event-item.result (state c.loop-event.pass)
    (before_event c.args.depth c.args.events.now c.as_slice-event-items.result.now c.loop-event.event-index c.event-item.result (state c.loop-event.pass)
    c.as_slice-event-items.ensures c.loop-event-test.true c.event-item.is c.loop-event.invariant))

pub with_parents-requires : goal.with_parents-requires
with_parents-requires c =
    nested_list c.args.depth c.args.events.now (state c.loop-event.pass) c.in_ok-list.list c.as_slice.result.now
    (before_end c.args.depth c.args.events.now c.as_slice-event-items.result.now c.loop-event.event-index (state c.loop-event.pass)
    c.as_slice-event-items.ensures c.loop-event-test.false c.loop-event.invariant)
    c.in_ok-list.ensures c.as_slice.ensures

pub returns-clause-listing : goal.returns-clause-listing
returns-clause-listing c = IfOk-weaker c.with_parents.result (EachWith (HasParent (map closed_of c.as_slice.result.now)) c.as_slice.result.now) (IsListing c.args.depth c.args.events.now)
    (listing_list c.args.depth c.args.events.now (state c.loop-event.pass) c.in_ok-list.list c.as_slice.result.now
    (before_end c.args.depth c.args.events.now c.as_slice-event-items.result.now c.loop-event.event-index (state c.loop-event.pass)
    c.as_slice-event-items.ensures c.loop-event-test.false c.loop-event.invariant)
    c.in_ok-list.ensures c.as_slice.ensures)
    c.with_parents.ensures

pub returns-clause-tree : goal.returns-clause-tree
returns-clause-tree c = IfOk-weaker c.with_parents.result (IsListing c.args.depth c.args.events.now) (λ tree. IsTree c.args.depth c.args.events.now (map node_of tree))
    (λ tree listing. tree_of_listing (operations c.args.events.now) (tracked c.args.depth c.args.events.now) (tracked c.args.depth c.args.events.now) tree listing)
    (returns-clause-listing c)

pub returns-clause-meaning : goal.returns-clause-meaning
returns-clause-meaning c = IfOk-weaker c.with_parents.result (IsListing c.args.depth c.args.events.now) AreBounded
    (bounded_listing c.args.depth c.args.events.now c.requires.sources) (returns-clause-listing c)
