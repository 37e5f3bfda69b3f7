use Rattle.std.proofs.Common.{◌∙◌, List, ap, filter, rules}
use Rattle.std.proofs.lemmas.Fn.{filter_same}
use Rattle.k_carry_pairs.specs.declared.pairs.LoopPairs.{LoopPairs}
use Rattle.k_pragma_profile.specs.Strict.{is_strict, strictly_markable}
use Rattle.k_pragma_profile.proofs.strict.unshared.Goals as goal

pub returns-clause-loops : goal.returns-clause-loops
unfolding strictly_markable
returns-clause-loops c =
    c.from_vec.ensures
    ∙ (filter_same _ (is_strict c.args.deep.now c.args.shared.now) _ (λ x b f' k. search rules) _ _ c.retain.ensures.filtered
    ∙ ap (λ (ls : List LoopPairs). filter (is_strict c.args.deep.now c.args.shared.now) ls) c.into_vec-loops.ensures)
