use Rattle.std.proofs.Common.{◌≡◌, ◌-◌, ◌<◌, Some, None, length, arith, slice_get, reverse, ap, sym, ◌∙◌, subst}
use Rattle.std.proofs.lemmas.List.{take_at}
use Rattle.k_graph.specs.Chains.{Traces}
use Rattle.k_graph.proofs.Tracing.{read_at, trace_starts, trace_goes_on, trace_ends}
use Rattle.k_graph.proofs.chain.path_to.Goals as goal

pub loop-node-init : goal.loop-node-init
loop-node-init c = record {
  from_start = c.requires.from_start;
  within = c.requires.within;
  goes_on = λ nodes traces. trace_starts c.args.start c.args.befores.now c.args.last c.new-nodes.result.items nodes c.new-nodes.ensures.items traces;
}

pub loop-node-preserved : goal.loop-node-preserved
loop-node-preserved c =
    let within : c.loop-node.node - c.args.start < length c.args.befores.now = omega arith in
    let at : slice_get c.args.befores.now (c.loop-node.node - c.args.start) ≡ Some (Some c.in-Some.before) = read_at c.args.befores.now _ _ _ within c.in-Some.is in
    let earlier = c.requires.earlier (c.loop-node.node - c.args.start) c.in-Some.before at in
    record {
      from_start = earlier.0;
      within = omega (arith, earlier.1);
      goes_on = trace_goes_on c.args.start c.args.befores.now c.args.last c.loop-node.node c.loop-node.nodes.items c.push.new.self.items c.in_ok-push.ensures.items
          c.loop-node.invariant.goes_on c.in-Some.before at;
    }

pub loop-node-smaller : goal.loop-node-smaller
loop-node-smaller c =
    let within : c.loop-node.node - c.args.start < length c.args.befores.now = omega arith in
    let at : slice_get c.args.befores.now (c.loop-node.node - c.args.start) ≡ Some (Some c.in-Some.before) = read_at c.args.befores.now _ _ _ within c.in-Some.is in
    omega (arith, (c.requires.earlier (c.loop-node.node - c.args.start) c.in-Some.before at).1)

pub returns : goal.returns
returns c =
    let within : c.loop-node.node - c.args.start < length c.args.befores.now = omega arith in
    let at : slice_get c.args.befores.now (c.loop-node.node - c.args.start) ≡ Some None = read_at c.args.befores.now _ _ _ within c.in_default.is in
    let turned : c.from_vec.result ≡ reverse c.push-2.new.self.items =
    c.from_vec.ensures
    ∙ (take_at c.reverse.new.self _ c.push-2.new.self.len (c.reverse.ensures.len ∙ c.as_mut_slice.ensures.len)
    ∙ (c.reverse.ensures.after ∙ ap reverse c.as_mut_slice.ensures.value)) in
    subst (λ l. Traces c.args.start c.args.befores.now c.args.last l) (sym turned)
    (trace_ends c.args.start c.args.befores.now c.args.last c.loop-node.node c.loop-node.nodes.items c.push-2.new.self.items c.in_ok-push-2.ensures.items
    c.loop-node.invariant.goes_on at)
