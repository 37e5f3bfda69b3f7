-- A sum in order tells of the same runs.
use Rattle.std.proofs.Common.{◌≡◌, ℕ, zero, suc, ◌<◌, ◌≤◌, inl, inr, List, [], ◌∷◌, length, get_or, Some, slice_get, refl, sym, ap, ◌∙◌, subst, arith}
use Rattle.std.proofs.lemmas.Option.{same_Some, slice_get_within}
use Rattle.k_dict_entries.specs.Entries.{AreRuns, NameBelow, NameEarlier, label_of, laid, tree_at, tree_of, trees_of}
use Rattle.k_dict_entries.specs.Gathering.{number_of}
use Rattle.k_dict_entries.specs.Rules.{entry_of}
use Rattle.k_dict_entries.specs.Trees.{Alike, Forest, SameShape, Tree, alone, bare, further}
use Rattle.k_dict_entries.specs.declared.entry.Entry.{Entry}
use Rattle.k_dict_entries.specs.declared.entry.Run.{Run}
use Rattle.k_dict_entries.proofs.Coding.{AreProper, Knows, beside-bare, code, entry_at, laid_code, number_in, tree_alike}
use Rattle.k_dict_entries.proofs.EntryTrees.{below_bound, tree_is}
use Rattle.k_dict_entries.proofs.Forests.{Alike-same, beside}
use Rattle.k_dict_entries.proofs.Numbers.{number_found}
use Rattle.k_dict_saved.specs.Formats.{Names}
use Rattle.k_dict_saved.specs.Migration.{renumbered, renumbered_entry}
use Rattle.k_dict_saved.proofs.Migrating.{code_renumbered}
use Rattle.k_sum.specs.Laws.{forest_of}
use Rattle.k_sum.proofs.Meaning.{knows_laid}
use Rattle.k_sum_order.specs.Laws.{OrderKeepsRuns}
use Rattle.k_sum_order.specs.Order.{AreOrdered, ComesBefore, behind}
use Rattle.k_sum_order.proofs.Comparing.{fewer_before, order_apart, place_before}
use Rattle.k_sum_order.proofs.Naming.{EachNamed, behind_below, behind_named, each_below, each_both, each_more, rise_in}
use Rattle.k_sum_order.proofs.OneOrder.{entry_there, proper_order}

-- each entry that runs name is named by them
pub each_name : (runs : List Run) → EachNamed (λ c. Names c runs) runs
each_name [] = tt
each_name (run ∷ runs) = (inl refl, each_more (λ c. Names c runs) (λ c. Names c (run ∷ runs)) (λ c names. inr names) runs (each_name runs))

module _ (entries : List Entry) (numbers : List ℕ) (ordered : List Entry) (earlier : NameEarlier entries) (are : AreOrdered entries numbers ordered) where
  abbrev number : ℕ → ℕ
  number n = get_or numbers n 0

  abbrev now : ℕ → Entry
  now n = renumbered_entry numbers (entry_of entries n)

  at : (n : ℕ) → n < length entries → slice_get ordered (number n) ≡ Some (now n)
  at n within = are.each n (entry_of entries n) (entry_there entries n within)

  runs_are : (n : ℕ) → n < length entries → AreRuns 0 n (entry_of entries n).runs
  runs_are n within = earlier n (entry_of entries n) (entry_there entries n within)

  named : (n : ℕ) → n < length entries → EachNamed (λ c. c < n) (entry_of entries n).runs
  named n within = each_below n (entry_of entries n).runs (below_bound 0 n (entry_of entries n).runs (runs_are n within))

  -- an entry stands behind those that it names
  children : (fuel n : ℕ) → n < fuel → n < length entries → EachNamed (λ c. number c < number n) (entry_of entries n).runs
  children zero n less within = absurd (omega arith)
  children (suc fuel) n less within =
      let e : Entry = entry_of entries n in
      each_more (λ c. (c < n) × Names c e.runs) (λ c. number c < number n)
      (λ c both.
      let low : behind (now c).runs ≤ number c =
      behind_below numbers (number c) (entry_of entries c).runs [] (children fuel c (omega (arith, both.0)) (omega (arith, both.0))) (omega arith) in
      let high : number c < behind (now n).runs = behind_named numbers c e.runs [] both.1 in
      let first : ComesBefore (now c) (now n) = fewer_before (now c) (now n) (omega arith) in
      place_before ordered are.order (number c) (number n) (now c) (now n) (at c (omega (arith, both.0))) (at n within) first)
      e.runs (each_both (λ c. c < n) (λ c. Names c e.runs) e.runs (named n within) (each_name e.runs))

  runs_rise : (n : ℕ) → n < length entries → AreRuns 0 (number n) (now n).runs
  runs_rise n within =
      let e : Entry = entry_of entries n in
      rise_in numbers (number n) n e.runs [] (below_bound 0 n e.runs (runs_are n within)) (children (suc n) n (omega arith) within) tt

  pub ordered_earlier : NameEarlier ordered
  ordered_earlier k d there =
      let from = are.no_other k d there in
      let n : ℕ = from.0 in
      let P : ℕ → Type 0 = λ m. slice_get ordered m ≡ Some (now n) in
      let is : d ≡ now n = same_Some d (now n) (sym there ∙ subst P from.2 (at n from.1)) in
      let Q : Entry → Type 0 = λ x. AreRuns 0 k x.runs in
      let R : ℕ → Type 0 = λ m. AreRuns 0 m (now n).runs in
      subst Q (sym is) (subst R from.2 (runs_rise n from.1))

  pub ordered_proper : AreProper ordered
  ordered_proper = proper_order ordered ordered_earlier are.order

  pub number_within : (n : ℕ) → n < length entries → number n < length ordered
  number_within n within = slice_get_within ordered (number n) (now n) (at n within)

  -- an entry's tree is known, and has its number
  record IsKnown (n : ℕ) : Type 0 where
    knows : Knows ordered (alone (tree_at entries n))
    number_is : number n ≡ number_in ordered (tree_at entries n)

  known : (fuel n : ℕ) → n < fuel → n < length entries → IsKnown n
  known zero n less within = absurd (omega arith)
  known (suc fuel) n less within =
      let e : Entry = entry_of entries n in
      let here : slice_get entries n ≡ Some e = entry_there entries n within in
      let below : NameBelow n e.runs = below_bound 0 n e.runs (earlier n e here) in
      let f : Forest = laid (trees_of entries) e.runs in
      let coded : code ordered f [] ≡ renumbered numbers e.runs [] =
      code_renumbered ordered (trees_of entries) numbers n (λ k low. (known fuel k (omega arith) (omega arith)).number_is) e.runs [] below in
      let same : entry_at (label_of e) (code ordered f []) ≡ now n = ap (entry_at (label_of e)) coded in
      let there : slice_get ordered (number n) ≡ Some (entry_at (label_of e) (code ordered f [])) = at n within ∙ ap Some (sym same) in
      let tree : tree_at entries n ≡ tree_of (trees_of entries) e = tree_is entries n e here (earlier n e here) in
      let P : Tree → Type 0 = λ t. Knows ordered (alone t) in
      record {
        knows = subst P (sym tree) (knows_laid ordered (trees_of entries) n (λ k low. (known fuel k (omega arith) (omega arith)).knows) e.runs below, (number n, there), tt);
        number_is = ordered_proper.apart (number n) (number_of ordered (entry_at (label_of e) (code ordered f []))) (entry_at (label_of e) (code ordered f [])) there
            (number_found ordered (entry_at (label_of e) (code ordered f [])) (number n) there) ∙ ap (number_in ordered) (sym tree);
      }

  pub each_known : (n : ℕ) → n < length entries → Knows ordered (alone (tree_at entries n))
  each_known n within = (known (suc n) n (omega arith) within).knows

  pub each_number : (n : ℕ) → n < length entries → number n ≡ number_in ordered (tree_at entries n)
  each_number n within = (known (suc n) n (omega arith) within).number_is

  -- an entry stands for the same tree as before
  pub tree_stays : (n : ℕ) → n < length entries → SameShape (tree_at entries n) (tree_at ordered (number n))
  tree_stays n within =
      let t : Tree = tree_at entries n in
      let knows = each_known n within in
      let place = number_found ordered (entry_at t.label (code ordered t.inner [])) knows.1.0 knows.1.1 in
      let P : ℕ → Type 0 = λ k. slice_get ordered k ≡ Some (entry_at t.label (code ordered t.inner [])) in
      tree_alike ordered ordered_proper t.label t.inner knows.0 (number n) (subst P (sym (each_number n within)) place)

  -- runs stand for the same trees as before
  module _ (runs : List Run) (below : NameBelow (length entries) runs) where
    pub forest_known : Knows ordered (laid (trees_of entries) runs)
    forest_known = knows_laid ordered (trees_of entries) (length entries) each_known runs below

    pub forest_coded : code ordered (laid (trees_of entries) runs) [] ≡ renumbered numbers runs []
    forest_coded = code_renumbered ordered (trees_of entries) numbers (length entries) each_number runs [] below

    pub forest_stays : Alike (laid (trees_of ordered) (renumbered numbers runs [])) (laid (trees_of entries) runs)
    forest_stays =
        let f : Forest = laid (trees_of entries) runs in
        let P : List Run → Type 0 = λ l. Alike (laid (trees_of ordered) l) f in
        subst P forest_coded
        (further (laid (trees_of ordered) (code ordered f [])) (beside f bare) f (laid_code ordered ordered_proper f forest_known [])
        (Alike-same (beside f bare) f (beside-bare f)))

    pub roots_rise : AreRuns 0 (length ordered) (renumbered numbers runs [])
    roots_rise =
        rise_in numbers (length ordered) (length entries) runs [] below
        (each_more (λ c. c < length entries) (λ c. number c < length ordered) number_within runs (each_below (length entries) runs below)) tt

pub order_keeps_runs : OrderKeepsRuns
order_keeps_runs sum ordered tells is =
    let below : NameBelow (length sum.dict) sum.roots = below_bound 0 (length sum.dict) sum.roots tells.roots in
    let P : List Run → Type 0 = AreRuns 0 (length ordered.dict) in
    let Q : List Run → Type 0 = λ l. Alike (laid (trees_of ordered.dict) l) (forest_of sum) in (
      record {
        earlier = ordered_earlier sum.dict is.numbers ordered.dict tells.earlier is.dict;
        apart = order_apart ordered.dict is.dict.order;
        roots = subst P (sym is.roots) (roots_rise sum.dict is.numbers ordered.dict tells.earlier is.dict sum.roots below);
      },
      subst Q (sym is.roots) (forest_stays sum.dict is.numbers ordered.dict tells.earlier is.dict sum.roots below),
    )
