-- The bounds of a sum that can be saved.
use Rattle.std.proofs.Common.{◌≡◌, ℕ, ◌*◌, ◌≤◌, List, [], ◌∷◌, get_or, ap, arith}
use Rattle.std.proofs.lemmas.Option.{slice_get_within}
use Rattle.k_dict_entries.specs.Entries.{laid, no_tree, tree_at, tree_of, trees_of}
use Rattle.k_dict_entries.specs.Tallies.{total}
use Rattle.k_dict_entries.specs.Trees.{Tree, alone, size}
use Rattle.k_dict_entries.specs.declared.entry.Run.{Run}
use Rattle.k_dict_entries.proofs.EntryTrees.{tree_is}
use Rattle.k_dict_saved.specs.Migration.{HaveFewChildren}
use Rattle.k_dict_saved.proofs.RunSums.{size-copies}
use Rattle.k_sum.specs.declared.sum.Sum.{Sum}
use Rattle.k_sum_saved.specs.LineLaws.{SumHasBounds}
use Rattle.k_sum_saved.specs.SumRules.{IsSum}

at_least : (a b : ℕ) → 1 ≤ b → a ≤ a * b
at_least a b some = grind arith

-- there are no more children than instances below
total_size : (trees : List Tree) (runs : List Run) → total runs ≤ size (laid trees runs)
total_size trees [] = omega arith
total_size trees (run ∷ runs) =
    let t : Tree = get_or trees run.entry no_tree in
    let sum = size-copies run.count t (laid trees runs) in
    let here = at_least run.count (size (alone t)) (omega arith) in
    let rest = total_size trees runs in omega arith

few_children : (sum : Sum) → IsSum sum → HaveFewChildren sum.dict
few_children sum is n e at =
    let most = is.profile.instances n (slice_get_within sum.dict n e at) in
    let same : size (alone (tree_at sum.dict n)) ≡ size (alone (tree_of (trees_of sum.dict) e)) =
    ap (λ t. size (alone t)) (tree_is sum.dict n e at (is.profile.interned.earlier n e at)) in
    let below = total_size (trees_of sum.dict) e.runs in omega arith

-- a sum that can be saved can be put to others
pub sum_has_bounds : SumHasBounds
sum_has_bounds sum is =
    let few = is.few in let work = is.work in let roots = is.roots.work in
    record {
      runs = omega arith;
      ops = is.ops;
      work = omega arith;
      exits = is.exits.whole;
      count = is.roots.count;
      roots = is.roots.rise;
      children = few_children sum is;
    }
