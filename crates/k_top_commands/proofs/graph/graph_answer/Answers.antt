use Rattle.std.proofs.Common.{◌≡◌, ◌∙◌, ◌^◌, ◌<◌, List, ap, sym, subst}
use Rattle.k_optab.specs.declared.event.Event.{Event}
use Rattle.k_optab.specs.Events.{SourcesAreEarlier, operations, total_latency}
use Rattle.k_graph.specs.Listings.{IsListing}
use Rattle.k_report.specs.Graph.{IsGraphText}
use Rattle.k_evaluation.specs.Runs.{listing_of}
use Rattle.k_top_answers.specs.Answers.{ended}
use Rattle.k_top_lemmas.specs.Parts.{running_of}
use Rattle.k_top_answers.specs.Steps.{run_of}
use Rattle.k_top_lemmas.proofs.RunLemmas.{listing_within, run_short, run_sources, sound}
use Rattle.k_top_commands.proofs.graph.graph_answer.Goals as goal

pub instances-requires-clause-sources : goal.instances-requires-clause-sources
instances-requires-clause-sources c =
    let r = running_of c.args.ready.now in
    subst (λ (es : List Event). SourcesAreEarlier (operations es)) (sym (ap (λ l. l.events) c.in_ok-listing.ensures)) (run_sources r (sound c.args.ready.now c.args.depth c.requires))

pub instances-requires-clause-latencies : goal.instances-requires-clause-latencies
instances-requires-clause-latencies c =
    let r = running_of c.args.ready.now in
    subst (λ (es : List Event). total_latency (operations es) < 2 ^ 62) (sym (ap (λ l. l.events) c.in_ok-listing.ensures))
    (run_short r (sound c.args.ready.now c.args.depth c.requires))

pub graph_text-requires-clause-sources : goal.graph_text-requires-clause-sources
graph_text-requires-clause-sources c =
    let r = running_of c.args.ready.now in
    subst (λ (es : List Event). SourcesAreEarlier (operations es)) (sym (ap (λ l. l.events) c.in_ok-listing.ensures)) (run_sources r (sound c.args.ready.now c.args.depth c.requires))

pub graph_text-requires-clause-latencies : goal.graph_text-requires-clause-latencies
graph_text-requires-clause-latencies c =
    let r = running_of c.args.ready.now in
    subst (λ (es : List Event). total_latency (operations es) < 2 ^ 62) (sym (ap (λ l. l.events) c.in_ok-listing.ensures))
    (run_short r (sound c.args.ready.now c.args.depth c.requires))

pub graph_text-requires-clause-intervals : goal.graph_text-requires-clause-intervals
graph_text-requires-clause-intervals c = listing_within c.args.depth c.in_ok-listing.listing.events c.in_ok-tree.tree c.in_ok-tree.ensures.listing

pub returns : goal.returns
returns c =
    let r = running_of c.args.ready.now in
    let listing : c.in_ok-listing.listing ≡ listing_of (run_of r) = c.in_ok-listing.ensures in
    record {
      tree = c.in_ok-tree.tree;
      text = c.in_ok-text.text.items;
      is_tree = subst (λ (es : List Event). IsListing c.args.depth es c.in_ok-tree.tree) (ap (λ l. l.events) listing) c.in_ok-tree.ensures.listing;
      is_text = subst (λ l. IsGraphText l c.in_ok-tree.tree c.in_ok-text.text.items) listing c.in_ok-text.ensures;
      is = c.ended.ensures ∙ (λ i. ended (c.from_vec.ensures i) c.args.ready.now.steps (ap (λ l. l.end) listing i));
    }
