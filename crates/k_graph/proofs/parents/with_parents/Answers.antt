use Rattle.std.proofs.Common.{◌≡◌, length, arith, inl, inr, ap, ◌∙◌, Some, slice_get, subst, length-append}
use Rattle.std.proofs.lemmas.Option.{get_or_from_slice_get}
use Rattle.k_graph.specs.declared.tree.Instance.{Instance}
use Rattle.k_graph.proofs.Outwards.{each_with, made_item, slice_get-push}
use Rattle.k_graph.proofs.parents.with_parents.Goals as goal

pub loop-index-preserved : goal.loop-index-preserved
loop-index-preserved c = record {
  count = omega (arith, length-append {A = Instance}, ap length c.in_ok-push.ensures.ok);
  parents = λ place m n item pushed. elim (slice_get-push c.loop-index.tree _ n place (subst (λ l. slice_get l place ≡ Some n) c.in_ok-push.ensures.ok pushed)) [
    | inl old ↦ c.loop-index.invariant.parents place m n item old
    | inr new ↦
        (let here : place ≡ c.loop-index.index = new.0 ∙ c.loop-index.invariant.count in
        let at : slice_get c.args.list.now c.loop-index.index ≡ Some m = subst (λ k. slice_get c.args.list.now k ≡ Some m) here item in
        made_item _ m _ c.parent_of-parent.result n (get_or_from_slice_get c.args.list.now c.loop-index.index m _ at) new.1 (c.parent_of-parent.ensures m at))
  ];
}

pub returns : goal.returns
returns c = each_with _ c.args.list.now c.loop-index.tree (omega arith) c.loop-index.invariant.parents
