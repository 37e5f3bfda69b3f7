-- Profiles that are put together in another order or grouping have one file.
use Rattle.std.proofs.Common.{◌≡◌, ℤ, List, [], refl, sym, ◌∙◌, subst, arith}
use Rattle.k_optab.specs.declared.region.Region.{Region}
use Rattle.k_dict_entries.specs.Trees.{Alike, Forest}
use Rattle.k_dict_entries.specs.Trees as trees
use Rattle.k_dict_entries.proofs.Forests.{Alike-refl, Alike-sym, beside, beside_left, beside_right}
use Rattle.k_sum.specs.Exits.{with_exits}
use Rattle.k_sum.specs.Laws.{TellsOfRuns, ended_with, forest_of, together}
use Rattle.k_sum.specs.Sums as sums
use Rattle.k_sum.specs.declared.sum.Sum.{Sum}
use Rattle.k_sum.proofs.Endings.{exits_add_up}
use Rattle.k_sum.proofs.Meaning.{both_tell_of_all, grouping_is_free, one_tells_of_its_run, order_is_free, together_is}
use Rattle.k_sum_order.specs.Laws.{AreOfProgram, FileIsOne, Merge, NoneIsLeft, Regrouped, alone, back, exchanged, further, grouped, merged, same, sum_of_all, within}
use Rattle.k_sum_order.proofs.ExitOrder.{AreExits, exits-with, exits_are_one}
use Rattle.k_sum_order.proofs.Left.{both_have_none_left, one_has_none_left, text_is_one}

-- what holds of the sum of profiles of one program
pub record Facts (regions : List Region) (sum : Sum) : Type 0 where
  pub tells : TellsOfRuns sum
  pub left : NoneIsLeft sum
  pub exits : AreExits sum.exits
  pub regions_are : sum.regions ≡ regions

-- it holds of two such sums together
pub facts_both : (regions : List Region) (one other : Sum) → Facts regions one → Facts regions other → Facts regions (sums.both one other)
facts_both regions one other is others = record {
  tells = (both_tell_of_all one other is.tells others.tells).0;
  left = both_have_none_left one other is.tells others.tells is.left others.left;
  exits = exits-with (with_exits [] one.exits) other.exits (exits-with [] one.exits tt is.exits) others.exits;
  regions_are = is.regions_are;
}

pub facts : (regions : List Region) (m : Merge) → AreOfProgram regions m → Facts regions (sum_of_all m)
facts regions (alone saved) are = record {
  tells = (one_tells_of_its_run saved are.0).0;
  left = one_has_none_left saved are.0;
  exits = (omega arith, tt, tt);
  regions_are = are.1;
}
facts regions (merged first second) are =
    facts_both regions (sum_of_all first) (sum_of_all second) (facts regions first are.0) (facts regions second are.1)

-- two sums tell of the same runs
pub record AreSame (one other : Sum) : Type 0 where
  pub forests : Alike (forest_of one) (forest_of other)
  pub runs : one.runs ≡ other.runs
  pub ops : one.ops ≡ other.ops
  pub ends : (v : ℤ) → ended_with v one.exits ≡ ended_with v other.exits

pub profiles_stay : (regions : List Region) (m n : Merge) → Regrouped m n → (AreOfProgram regions m → AreOfProgram regions n) × (AreOfProgram regions n → AreOfProgram regions m)
profiles_stay regions _ _ (same m) = (λ are. are, λ are. are)
profiles_stay regions _ _ (exchanged m n) = (λ are. (are.1, are.0), λ are. (are.1, are.0))
profiles_stay regions _ _ (grouped k m n) = (λ are. (are.0.0, (are.0.1, are.1)), λ are. ((are.0, are.1.0), are.1.1))
profiles_stay regions _ _ (within k k' m m' first second) =
    let one = profiles_stay regions k k' first in
    let other = profiles_stay regions m m' second in
    (λ are. (one.0 are.0, other.0 are.1), λ are. (one.1 are.0, other.1 are.1))
profiles_stay regions _ _ (back m n is) = let one = profiles_stay regions m n is in (one.1, one.0)
profiles_stay regions _ _ (further k m n first second) =
    let one = profiles_stay regions k m first in
    let other = profiles_stay regions m n second in
    (λ are. other.0 (one.0 are), λ are. one.1 (other.1 are))

together_alike : (f f' g g' : Forest) → Alike f f' → Alike g g' → Alike (together f g) (together f' g')
together_alike f f' g g' first second =
    let P : Forest → Type 0 = λ h. Alike h (together f' g') in
    let Q : Forest → Type 0 = λ h. Alike (beside f g) h in
    subst P (sym (together_is f g)) (subst Q (sym (together_is f' g'))
    (trees.further (beside f g) (beside f' g) (beside f' g') (beside_left f f' g first) (beside_right f' g g' second)))

-- so do they with others that do
pub both_same : (a b a' b' : Sum) → TellsOfRuns a → TellsOfRuns b → TellsOfRuns a' → TellsOfRuns b' → AreSame a a' → AreSame b b'
    → AreSame (sums.both a b) (sums.both a' b')
both_same a b a' b' tells more tells' more' one other =
    let runs = one.runs in let runs' = other.runs in let ops = one.ops in let ops' = other.ops in
    let left = (both_tell_of_all a b tells more).1 in
    let right = (both_tell_of_all a' b' tells' more').1 in
    let f : Forest = together (forest_of a) (forest_of b) in
    let g : Forest = together (forest_of a') (forest_of b') in
    record {
      forests = trees.further (forest_of (sums.both a b)) f (forest_of (sums.both a' b')) left
          (trees.further f g (forest_of (sums.both a' b')) (together_alike (forest_of a) (forest_of a') (forest_of b) (forest_of b') one.forests other.forests)
          (Alike-sym (forest_of (sums.both a' b')) g right));
      runs = omega arith;
      ops = omega arith;
      ends = λ v.
          let here = exits_add_up a b v in let there = exits_add_up a' b' v in
          let ends = one.ends v in let ends' = other.ends v in omega arith;
    }

pub merges_same : (regions : List Region) (m n : Merge) → Regrouped m n → AreOfProgram regions m → AreOfProgram regions n → AreSame (sum_of_all m) (sum_of_all n)
merges_same regions _ _ (same m) are others = record { forests = Alike-refl (forest_of (sum_of_all m)); runs = refl; ops = refl; ends = λ v. refl }
merges_same regions _ _ (exchanged m n) are others =
    let one : Sum = sum_of_all m in
    let other : Sum = sum_of_all n in
    record {
      forests = order_is_free one other (facts regions m are.0).tells (facts regions n are.1).tells;
      runs = omega arith;
      ops = omega arith;
      ends = λ v. let first = exits_add_up one other v in let second = exits_add_up other one v in omega arith;
    }
merges_same regions _ _ (grouped k m n) are others =
    let one : Sum = sum_of_all k in
    let two : Sum = sum_of_all m in
    let three : Sum = sum_of_all n in
    record {
      forests = grouping_is_free one two three (facts regions k are.0.0).tells (facts regions m are.0.1).tells (facts regions n are.1).tells;
      runs = omega arith;
      ops = omega arith;
      ends = λ v.
          let first = exits_add_up (sums.both one two) three v in
          let within_first = exits_add_up one two v in
          let second = exits_add_up one (sums.both two three) v in
          let within_second = exits_add_up two three v in omega arith;
    }
merges_same regions _ _ (within k k' m m' first second) are others =
    both_same (sum_of_all k) (sum_of_all m) (sum_of_all k') (sum_of_all m') (facts regions k are.0).tells (facts regions m are.1).tells (facts regions k' others.0).tells
    (facts regions m' others.1).tells (merges_same regions k k' first are.0 others.0) (merges_same regions m m' second are.1 others.1)
merges_same regions _ _ (back m n is) are others =
    let one = merges_same regions m n is others are in
    record {
      forests = Alike-sym (forest_of (sum_of_all m)) (forest_of (sum_of_all n)) one.forests;
      runs = sym one.runs;
      ops = sym one.ops;
      ends = λ v. sym (one.ends v);
    }
merges_same regions _ _ (further k m n first second) are others =
    let middle : AreOfProgram regions m = (profiles_stay regions k m first).0 are in
    let one = merges_same regions k m first are middle in
    let other = merges_same regions m n second middle others in
    record {
      forests = trees.further (forest_of (sum_of_all k)) (forest_of (sum_of_all m)) (forest_of (sum_of_all n)) one.forests other.forests;
      runs = one.runs ∙ other.runs;
      ops = one.ops ∙ other.ops;
      ends = λ v. one.ends v ∙ other.ends v;
    }

pub file_is_one : FileIsOne
file_is_one regions m n ordered other_ordered are regrouped is is' =
    let others : AreOfProgram regions n = (profiles_stay regions m n regrouped).0 are in
    let one = facts regions m are in
    let other = facts regions n others in
    let same_runs = merges_same regions m n regrouped are others in
    text_is_one (sum_of_all m) (sum_of_all n) ordered other_ordered one.tells other.tells one.left other.left same_runs.forests same_runs.runs
    (exits_are_one (sum_of_all m).exits (sum_of_all n).exits one.exits other.exits same_runs.ends) same_runs.ops (one.regions_are ∙ sym other.regions_are) is is'
