-- The bounds of two sums together.
use Rattle.std.proofs.Common.{◌≡◌, ℕ, ◌+◌, ◌*◌, ◌^◌, ◌<◌, ◌≤◌, inl, inr, List, [], ◌∷◌, length, get_or, Ok, Some, slice_get, sym, ap, ◌∙◌, subst, arith, length-append}
use Rattle.std.specs.Prelude.{ℤ}
use Rattle.std.proofs.lemmas.Option.{slice_get_within}
use Rattle.std.proofs.lemmas.Bool.{cases_lt}
use Rattle.k_dict_entries.specs.Entries.{AreRuns, NameBelow, laid, no_tree, tree_at, tree_of, trees_of}
use Rattle.k_dict_entries.specs.Trees.{Tree, alone, size}
use Rattle.k_dict_entries.specs.Tallies.{total}
use Rattle.k_dict_entries.specs.declared.entry.Entry.{Entry}
use Rattle.k_dict_entries.specs.declared.entry.Run.{Run}
use Rattle.k_dict_entries.proofs.EntryTrees.{below_bound, tree_is}
use Rattle.k_dict_entries.proofs.Sound.{AreRuns-wider}
use Rattle.k_dict_saved.specs.Migration.{HaveFewChildren, renumbered}
use Rattle.k_dict_saved.specs.Profile.{IsSaved}
use Rattle.k_dict_saved.specs.declared.saved.Saved.{Saved}
use Rattle.k_dict_saved.proofs.RunSums.{size-copies}
use Rattle.k_sum.specs.Exits.{with_exits}
use Rattle.k_sum.specs.Exits as ends
use Rattle.k_sum.specs.Joining.{Joined, counted_all, joined}
use Rattle.k_sum.specs.Sums.{HasBounds, IsLarge, Joins, both}
use Rattle.k_sum.specs.declared.exits.Exit.{Exit}
use Rattle.k_sum.specs.declared.sum.Sum.{Sum}
use Rattle.k_sum.proofs.ExitLists.{total-with}
use Rattle.k_sum.proofs.Joins.{all_go_on, count_all, few_all, known_all, rise, rise_all, total-all, total-renumbered}

module _ (one other : Sum) (bounds : HasBounds one) (more : HasBounds other) where
  abbrev start : Joined
  start = record { dict = one.dict; numbers = [] }

  abbrev all : Joined
  all = joined one.dict other.dict

  below : NameBelow (length all.numbers) other.roots
  below =
      let count : length all.numbers ≡ length other.dict = count_all start other.dict ∙ (let e : 0 + length other.dict ≡ length other.dict = omega arith in e) in
      let P : ℕ → Type 0 = λ n. NameBelow n other.roots in
      subst P (sym count) (below_bound 0 (length other.dict) other.roots more.roots)

  wide : NameBelow (length all.dict) one.roots
  wide =
      let on = all_go_on start other.dict in
      let count : length all.dict ≡ length one.dict + length on.0 = ap length on.1 ∙ length-append one.dict on.0 in
      below_bound 0 (length all.dict) one.roots (AreRuns-wider 0 (length one.dict) (length all.dict) one.roots (omega arith) bounds.roots)

  pub few_runs : ¬ IsLarge one other → one.runs + other.runs < 2 ^ 32
  few_runs large = elim (cases_lt (one.runs + other.runs) (2 ^ 32)) [ inl less ↦ less | inr most ↦ absurd (large (inl most)) ]

  pub small_work : ¬ IsLarge one other → one.work + other.work < 2 ^ 62
  small_work large = elim (cases_lt (one.work + other.work) (2 ^ 62)) [ inl less ↦ less | inr most ↦ absurd (large (inr most)) ]

  pub bounds_both : ¬ IsLarge one other → HasBounds (both one other)
  bounds_both large =
      let ops = bounds.ops in let ops' = more.ops in
      let exits_one = bounds.exits in let exits_other = more.exits in
      let count_one = bounds.count in let count_other = more.count in
      let with_one = total-with [] one.exits in
      let with_other = total-with (with_exits [] one.exits) other.exits in
      let roots_one = total-all one.roots [] in
      let roots_other = total-renumbered all.numbers other.roots (counted_all one.roots []) in
      record {
        runs = few_runs large;
        ops = omega arith;
        work = small_work large;
        exits = omega arith;
        count = omega arith;
        roots = rise all.numbers (length all.dict) (known_all start other.dict (λ n less. absurd (omega arith))) other.roots (counted_all one.roots []) below
            (rise_all (length all.dict) one.roots [] wide tt);
        children = few_all start other.dict bounds.children more.children;
      }

-- what was added is both sums together
pub added_is : (one other : Sum) (exits list : List Exit) (roots begun : List Run) (dict : List Entry) → list ≡ one.exits → begun ≡ one.roots
    → Joins one.dict list begun other (Ok (exits, roots)) dict
    → ◌≡◌ {A = Sum} (record { runs = one.runs + other.runs; exits = exits; ops = one.ops + other.ops; work = one.work + other.work; regions = one.regions; dict = dict; roots = roots })
    (both one other)
added_is one other exits list roots begun dict same same' has =
    let e : exits ≡ with_exits (with_exits [] one.exits) other.exits = has.1 ∙ ap (λ l. with_exits (with_exits [] l) other.exits) same in
    let r : roots ≡ renumbered (joined one.dict other.dict).numbers other.roots (counted_all one.roots []) =
    has.2 ∙ ap (λ l. renumbered (joined one.dict other.dict).numbers other.roots (counted_all l [])) same' in
    let d : dict ≡ (joined one.dict other.dict).dict = has.0 in
    λ i. record { runs = one.runs + other.runs; exits = e i; ops = one.ops + other.ops; work = one.work + other.work; regions = one.regions; dict = d i; roots = r i }

at_least : (a b : ℕ) → 1 ≤ b → a ≤ a * b
at_least a b some = grind arith

-- there are no more children than instances below
total_size : (trees : List Tree) (runs : List Run) → total runs ≤ size (laid trees runs)
total_size trees [] = omega arith
total_size trees (run ∷ runs) =
    let t : Tree = get_or trees run.entry no_tree in
    let sum = size-copies run.count t (laid trees runs) in
    let here = at_least run.count (size (alone t)) (omega arith) in
    let rest = total_size trees runs in omega arith

few_children : (saved : Saved) → IsSaved saved → HaveFewChildren saved.dict
few_children saved is n e at =
    let most = is.profile.instances n (slice_get_within saved.dict n e at) in
    let same : size (alone (tree_at saved.dict n)) ≡ size (alone (tree_of (trees_of saved.dict) e)) =
    ap (λ t. size (alone t)) (tree_is saved.dict n e at (is.profile.interned.earlier n e at)) in
    let below = total_size (trees_of saved.dict) e.runs in omega arith

-- the bounds of the sum of one run
pub bounds_one : (saved : Saved) → IsSaved saved → (value : ℤ) (exits : List Exit) → exits ≡ record { value = value; runs = 1 } ∷ []
    → (root : ℕ) (e : Entry) → root < length saved.dict → slice_get saved.dict root ≡ Some e → (roots : List Run) → roots ≡ record { entry = root; count = 1 } ∷ []
    → HasBounds (record { runs = 1; exits = exits; ops = saved.ops; work = e.work; regions = saved.regions; dict = saved.dict; roots = roots })
bounds_one saved is value exits one root e within at roots first =
    let few = is.ops in
    let most = (is.profile.numbers root e at).most in
    let told : ends.total exits ≡ 1 + 0 = ap ends.total one in
    let count : total roots ≡ 1 + 0 = ap total first in
    let P : List Run → Type 0 = AreRuns 0 (length saved.dict) in
    record {
      runs = omega arith;
      ops = omega arith;
      work = omega arith;
      exits = omega arith;
      count = omega arith;
      roots = subst P (sym first) (omega arith, within, omega arith, tt);
      children = few_children saved is;
    }
