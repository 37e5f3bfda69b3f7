use Rattle.std.proofs.Common.{◌≡◌, ◌+◌, ◌≤◌, ℕ, ap, ◌∙◌, sym, subst, arith, drop, get_or, length, List, [], ◌∷◌}
use Rattle.std.proofs.lemmas.List.{drop_more}
use Rattle.k_optab.specs.declared.node.Node.{Node}
use Rattle.k_dict_entries.specs.Entries.{AreInterned}
use Rattle.k_dict_entries.specs.Gathering.{HaveRuns, State, closed_to, gathered, opened, state, taken, weight}
use Rattle.k_dict_entries.proofs.Sound.{closed_to_runs, closed_to_weighs, leads_to_on}
use Rattle.k_dict_entries.proofs.gathering.gather_all.Goals as goal

pub returns-in-Err-clause-leads : goal.returns-in-Err-clause-leads
returns-in-Err-clause-leads c =
    let nodes : List Node = c.args.nodes.now in
    let at : ℕ = c.loop-node.node-index in
    let n : Node = get_or nodes at (record { region = 0; work = 0; path = 0; depth = 0 }) in
    leads_to_on (Unit {0}) c.in-Err.fault (state c.close_to.new.self) (gathered nodes) n (drop at nodes) (drop (at + 1) nodes) (state c.loop-node.gathering)
    (drop_more nodes at (record { region = 0; work = 0; path = 0; depth = 0 }) c.loop-node-test.true) c.loop-node.invariant.leads c.in-Err.ensures.leads

pub loop-node-preserved : goal.loop-node-preserved
loop-node-preserved c =
    let nodes : List Node = c.args.nodes.now in
    let at : ℕ = c.loop-node.node-index in
    let n : Node = get_or nodes at (record { region = 0; work = 0; path = 0; depth = 0 }) in
    let s : State = state c.loop-node.gathering in
    let is : state c.open.new.self ≡ opened n (closed_to n.depth s) = c.in_default-open.ensures.opened ∙ ap (opened n) c.in_default.ensures.leads in
    let next : drop at nodes ≡ n ∷ drop (at + 1) nodes = drop_more nodes at (record { region = 0; work = 0; path = 0; depth = 0 }) c.loop-node-test.true in
    let less = closed_to_weighs n.depth s in
    let before = c.loop-node.invariant.weighs in
    let opens : weight c.open.new.self.levels ≡ (1 + 0) + weight (closed_to n.depth s).levels = ap (λ (k : State). weight k.levels) is in
    let P : State → Type 0 = λ k. HaveRuns (length k.dict) k.levels in
    record {
      leads = ap (λ k. closed_to 0 (taken (drop (at + 1) nodes) k)) is ∙ ap (λ l. closed_to 0 (taken l s)) (sym next) ∙ c.loop-node.invariant.leads;
      weighs = omega arith;
      runs = subst P (sym is) (tt, closed_to_runs n.depth s c.loop-node.invariant.runs);
      interned = subst AreInterned (sym c.open.ensures.dict) c.in_default.ensures.interned;
    }
