-- Profiles of one program have one file, whether or not some of them were put together, saved and read again before.
use Rattle.std.proofs.Common.{List, refl, sym, ap, ◌∙◌, subst}
use Rattle.k_optab.specs.declared.region.Region.{Region}
use Rattle.k_dict_entries.specs.Trees.{further}
use Rattle.k_dict_entries.proofs.Forests.{Alike-refl, Alike-sym}
use Rattle.k_sum.specs.Laws.{ended_with, forest_of}
use Rattle.k_sum.specs.Sums.{sum_of}
use Rattle.k_sum.specs.declared.exits.Exit.{Exit}
use Rattle.k_sum.specs.declared.sum.Sum.{Sum}
use Rattle.k_sum_merge.specs.Laws.{AnyWayIsOne, Gives}
use Rattle.k_sum_merge.specs.Laws as ways
use Rattle.k_sum_merge.proofs.Finished.{ordered_none_left}
use Rattle.k_sum_order.specs.Laws.{AreOfProgram, Merge, alone, sum_of_all}
use Rattle.k_sum_order.proofs.ExitOrder.{AreExits, exits_are_one}
use Rattle.k_sum_order.proofs.Left.{text_is_one}
use Rattle.k_sum_order.proofs.Merges.{AreSame, Facts, both_same, facts, facts_both, merges_same, profiles_stay}
use Rattle.k_sum_order.proofs.Ordered.{order_keeps_runs}

-- what holds of a sum that profiles come to: it tells of the same runs as if none had been saved on the way
gives_same : (regions : List Region) (m : Merge) (sum : Sum) → Gives m sum → AreOfProgram regions m → Facts regions sum × AreSame sum (sum_of_all m)
gives_same regions _ _ (ways.one profile) are =
    (facts regions (alone profile) are, record { forests = Alike-refl (forest_of (sum_of profile)); runs = refl; ops = refl; ends = λ v. refl })
gives_same regions _ _ (ways.two m n sum other first second) are =
    let a = gives_same regions m sum first are.0 in
    let b = gives_same regions n other second are.1 in (
      facts_both regions sum other a.0 b.0,
      both_same sum other (sum_of_all m) (sum_of_all n) a.0.tells b.0.tells (facts regions m are.0).tells (facts regions n are.1).tells a.1 b.1,
    )
gives_same regions _ _ (ways.kept m sum ordered first is) are =
    let a = gives_same regions m sum first are in
    let stay = order_keeps_runs sum ordered a.0.tells is in
    let P : List Exit → Type 0 = AreExits in (
      record {
        tells = stay.0;
        left = ordered_none_left sum ordered a.0.tells a.0.left is;
        exits = subst P (sym is.exits) a.0.exits;
        regions_are = is.regions ∙ a.0.regions_are;
      },
      record {
        forests = further (forest_of ordered) (forest_of sum) (forest_of (sum_of_all m)) stay.1 a.1.forests;
        runs = is.runs ∙ a.1.runs;
        ops = is.ops ∙ a.1.ops;
        ends = λ v. ap (ended_with v) is.exits ∙ a.1.ends v;
      },
    )

pub any_way_is_one : AnyWayIsOne
any_way_is_one regions m n sum other first second are regrouped gives gives' is is' =
    let others : AreOfProgram regions n = (profiles_stay regions m n regrouped).0 are in
    let a = gives_same regions m sum gives are in
    let b = gives_same regions n other gives' others in
    let same = merges_same regions m n regrouped are others in
    let ends = exits_are_one sum.exits other.exits a.0.exits b.0.exits (λ v. a.1.ends v ∙ same.ends v ∙ sym (b.1.ends v)) in
    text_is_one sum other first second a.0.tells b.0.tells a.0.left b.0.left
    (further (forest_of sum) (forest_of (sum_of_all m)) (forest_of other) a.1.forests
    (further (forest_of (sum_of_all m)) (forest_of (sum_of_all n)) (forest_of other) same.forests (Alike-sym (forest_of other) (forest_of (sum_of_all n)) b.1.forests)))
    (a.1.runs ∙ same.runs ∙ sym b.1.runs) ends (a.1.ops ∙ same.ops ∙ sym b.1.ops) (a.0.regions_are ∙ sym b.0.regions_are) is is'
