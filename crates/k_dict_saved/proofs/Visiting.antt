-- Which entries occur while the instances of one are visited in post-order.
use Rattle.std.proofs.Common.{◌≡◌, ◌↔◌, ℕ, zero, suc, ◌+◌, ◌<◌, ◌≤◌, min, inl, inr, List, [], ◌∷◌, ◌++◌, length, take, get_or, Option, Some, None, slice_get, refl, sym, ap, ◌∙◌, subst, arith, append-nil, append_assoc, length-append, length-take, IsTrue}
use Rattle.std.specs.Prelude.{is_some}
use Rattle.std.proofs.Math.Seq.{take-length}
use Rattle.std.proofs.lemmas.Bool.{cases_lt, false≢true}
use Rattle.std.proofs.lemmas.List.{length-take-le, take-take, take_at}
use Rattle.std.proofs.lemmas.Option.{none-some, same_Some, slice_get-get_or, slice_get_within}
use Rattle.k_dict_entries.specs.Dictionary.{Firsts, ended, again, anew}
use Rattle.k_dict_entries.specs.Trees.{Forest, Tree, alone, post_order}
use Rattle.k_dict_entries.specs.Entries.{AreApart, NameBelow, copies, laid, no_tree, tree_at, tree_of, trees_of}
use Rattle.k_dict_entries.specs.declared.entry.Entry.{Entry}
use Rattle.k_dict_entries.specs.declared.entry.Run.{Run}
use Rattle.k_dict_entries.proofs.Coding.{entry_at}
use Rattle.k_dict_entries.proofs.EntryTrees.{length-trees, tree_named}
use Rattle.k_dict_entries.proofs.Places.{place_behind, place_in_take, place_kept}
use Rattle.k_dict_entries.proofs.Unique.{Firsts-unique, first_case, none_more}
use Rattle.k_dict_entries.proofs.Walking.{Firsts-further, tree_there}
use Rattle.k_dict_saved.specs.Formats.{HaveRuns, IsPostOrder}
use Rattle.k_dict_saved.specs.Order.{LeadsTo, Visits}
use Rattle.k_dict_saved.specs.declared.format.Format.TheVariants.{One}
use Rattle.k_dict_saved.proofs.Apart.{trees_apart}

-- a tree is among these
abbrev pub IsAt : List Tree → Tree → Type 0
IsAt trees t = (n : ℕ) × (slice_get trees n ≡ Some t)

-- these trees are among those
abbrev pub AreThere : List Tree → List Tree → Type 0
AreThere kept [] = Unit {0}
AreThere kept (t ∷ trees) = IsAt kept t × AreThere kept trees

pub AreThere-append : (kept xs ys : List Tree) → AreThere kept xs → AreThere kept ys → AreThere kept (xs ++ ys)
AreThere-append kept [] ys one other = other
AreThere-append kept (x ∷ xs) ys one other = (one.0, AreThere-append kept xs ys one.1 other)

-- the trees that are kept go on
abbrev pub Firsts-grow : (kept xs all : List Tree) → Firsts ◌≡◌ kept xs all → (more : List Tree) × (all ≡ kept ++ more)
Firsts-grow _ _ _ (ended kept) = ([], sym (append-nil kept))
Firsts-grow _ _ all (again t kept trees _ n k at same first) = Firsts-grow kept trees all first
Firsts-grow _ _ all (anew t kept trees _ none first) =
    let rest = Firsts-grow (kept ++ t ∷ []) trees all first in (t ∷ rest.0, rest.1 ∙ append_assoc kept (t ∷ []) rest.0)

-- trees that are all among those that are kept add none
Firsts-there : (kept xs : List Tree) → AreThere kept xs → Firsts ◌≡◌ kept xs kept
Firsts-there kept [] there = ended kept
Firsts-there kept (t ∷ xs) there = again t kept xs kept there.0.0 t there.0.1 refl (Firsts-there kept xs there.1)

-- all trees are among those that are kept in the end
Firsts-cover : (kept xs all : List Tree) → Firsts ◌≡◌ kept xs all → AreThere all xs
Firsts-cover _ _ _ (ended kept) = tt
Firsts-cover _ _ all (again t kept trees _ n k at same first) =
    let grow = Firsts-grow kept trees all first in
    let P : List Tree → Type 0 = λ l. slice_get l n ≡ Some t in
    ((n, subst P (sym grow.1) (place_kept kept grow.0 n t (at ∙ ap Some (sym same)))), Firsts-cover kept trees all first)
Firsts-cover _ _ all (anew t kept trees _ none first) =
    let grow = Firsts-grow (kept ++ t ∷ []) trees all first in
    let P : List Tree → Type 0 = λ l. slice_get l (length kept) ≡ Some t in
    ((length kept, subst P (sym grow.1) (place_kept (kept ++ t ∷ []) grow.0 (length kept) t (place_behind kept t []))), Firsts-cover (kept ++ t ∷ []) trees all first)

-- the first trees of two lists, one behind the other
Firsts-split : (kept xs ys all : List Tree) → Firsts ◌≡◌ kept (xs ++ ys) all → (middle : List Tree) × Firsts ◌≡◌ kept xs middle × Firsts ◌≡◌ middle ys all
Firsts-split kept [] ys all first = (kept, ended kept, first)
Firsts-split kept (t ∷ xs) ys all first = elim (first_case ◌≡◌ t kept (xs ++ ys) all first) [
  | inl there ↦ (let rest = Firsts-split kept xs ys all there.4 in (rest.0, again t kept xs rest.0 there.0 there.1 there.2 there.3 rest.1, rest.2))
  | inr new ↦ (let rest = Firsts-split (kept ++ t ∷ []) xs ys all new.1 in (rest.0, anew t kept xs rest.0 new.0 rest.1, rest.2))
]

-- the instances of copies of a tree
post-copies : (n : ℕ) (t : Tree) (l : Forest) → post_order (copies (suc n) t l) ≡ post_order (alone t) ++ post_order (copies n t l)
post-copies n t l = sym (append_assoc (post_order t.inner) (t ∷ []) (post_order (copies n t l)))

module _ (trees : List Tree) where
  -- trees before others of the first ones are the first ones
  first_ones : (middle more : List Tree) (behind : ℕ) → behind ≤ length trees → take behind trees ≡ middle ++ more
      → (length middle ≤ behind) × (middle ≡ take (length middle) trees)
  first_ones middle more behind within is =
      let count : length middle + length more ≡ behind = sym (length-append middle more) ∙ ap length (sym is) ∙ length-take-le behind trees within in (
        omega arith,
        sym (take_at middle more (length middle) refl) ∙ ap (take (length middle)) (sym is) ∙ take-take (length middle) behind trees (omega arith),
      )

  -- no trees lead nowhere
  pub leads_none : (before : ℕ) → before ≤ length trees → LeadsTo trees before [] before
  leads_none before within = (within, ended (take before trees))

  pub leads_same : (before one other : ℕ) (xs : List Tree) → LeadsTo trees before xs one → LeadsTo trees before xs other → one ≡ other
  leads_same before one other xs first second =
      sym (length-take-le one trees first.0)
      ∙ ap length (Firsts-unique ◌≡◌ (take before trees) xs (take one trees) (take other trees) first.1 second.1) ∙ length-take-le other trees second.0

  -- one list behind the other
  pub leads_further : (before middle behind : ℕ) (xs ys : List Tree) → LeadsTo trees before xs middle → LeadsTo trees middle ys behind → LeadsTo trees before (xs ++ ys) behind
  leads_further before middle behind xs ys first second =
      (second.0, Firsts-further ◌≡◌ (take before trees) xs (take middle trees) ys (take behind trees) first.1 second.1)

  pub leads_apart : (before behind : ℕ) (xs ys : List Tree) → LeadsTo trees before (xs ++ ys) behind
      → (middle : ℕ) × LeadsTo trees before xs middle × LeadsTo trees middle ys behind
  leads_apart before behind xs ys leads =
      let split = Firsts-split (take before trees) xs ys (take behind trees) leads.1 in
      let grow = Firsts-grow split.0 ys (take behind trees) split.2 in
      let ones = first_ones split.0 grow.0 behind leads.0 grow.1 in
      let P : List Tree → Type 0 = λ l. Firsts ◌≡◌ (take before trees) xs l in
      let Q : List Tree → Type 0 = λ l. Firsts ◌≡◌ l ys (take behind trees) in
      let few = ones.0 in let within = leads.0 in
      (length split.0, (omega arith, subst P ones.1 split.1), (leads.0, subst Q ones.1 split.2))

  pub leads_there : (before : ℕ) (xs : List Tree) → before ≤ length trees → AreThere (take before trees) xs → LeadsTo trees before xs before
  leads_there before xs within there = (within, Firsts-there (take before trees) xs there)

  -- copies of a tree whose instances have occurred lead nowhere
  copies_there : (before n : ℕ) (t : Tree) (l : Forest) (behind : ℕ) → before ≤ length trees → AreThere (take before trees) (post_order (alone t))
      → LeadsTo trees before (post_order (copies n t l)) behind ↔ LeadsTo trees before (post_order l) behind
  copies_there before zero t l behind within there = (λ h. h, λ h. h)
  copies_there before (suc n) t l behind within there =
      let here = leads_there before (post_order (alone t)) within there in
      let rest = copies_there before n t l behind within there in
      let P : List Tree → Type 0 = λ xs. LeadsTo trees before xs behind in
      let Q : ℕ → Type 0 = λ m. LeadsTo trees m (post_order (copies n t l)) behind in (
        λ h. let parts = leads_apart before behind (post_order (alone t)) (post_order (copies n t l)) (subst P (post-copies n t l) h) in
            rest.0 (subst Q (leads_same before parts.0 before (post_order (alone t)) parts.1 here) parts.2),
        λ h. subst P (sym (post-copies n t l)) (leads_further before before behind (post_order (alone t)) (post_order (copies n t l)) here (rest.1 h)),
      )

  -- copies of a tree lead where the first leads
  pub copies_lead : (before middle n : ℕ) (t : Tree) (l : Forest) (behind : ℕ) → 1 ≤ n → LeadsTo trees before (post_order (alone t)) middle
      → LeadsTo trees before (post_order (copies n t l)) behind ↔ LeadsTo trees middle (post_order l) behind
  copies_lead before middle zero t l behind some leads = absurd (omega arith)
  copies_lead before middle (suc n) t l behind some leads =
      let there = Firsts-cover (take before trees) (post_order (alone t)) (take middle trees) leads.1 in
      let rest = copies_there middle n t l behind leads.0 there in
      let P : List Tree → Type 0 = λ xs. LeadsTo trees before xs behind in
      let Q : ℕ → Type 0 = λ m. LeadsTo trees m (post_order (copies n t l)) behind in (
        λ h. let parts = leads_apart before behind (post_order (alone t)) (post_order (copies n t l)) (subst P (post-copies n t l) h) in
            rest.0 (subst Q (leads_same before parts.0 middle (post_order (alone t)) parts.1 leads) parts.2),
        λ h. subst P (sym (post-copies n t l)) (leads_further before middle behind (post_order (alone t)) (post_order (copies n t l)) leads (rest.1 h)),
      )

  pub copies_fail : (before n : ℕ) (t : Tree) (l : Forest) (behind : ℕ) → 1 ≤ n → ((middle : ℕ) → ¬ LeadsTo trees before (post_order (alone t)) middle)
      → ¬ LeadsTo trees before (post_order (copies n t l)) behind
  copies_fail before zero t l behind some none leads = absurd (omega arith)
  copies_fail before (suc n) t l behind some none leads =
      let P : List Tree → Type 0 = λ xs. LeadsTo trees before xs behind in
      let parts = leads_apart before behind (post_order (alone t)) (post_order (copies n t l)) (subst P (post-copies n t l) leads) in
      none parts.0 parts.1

  -- the next tree leads one further
  pub leads_next : (n : ℕ) (t : Tree) → slice_get trees n ≡ Some t → ((m : ℕ) → m < n → ¬ (slice_get trees m ≡ Some t)) → LeadsTo trees n (t ∷ []) (n + 1)
  leads_next n t at none =
      let within = slice_get_within trees n t at in
      let P : List Tree → Type 0 = λ l. Firsts ◌≡◌ (take n trees) (t ∷ []) l in (
        omega arith,
        subst P (sym (one_more trees n t at)) (anew t (take n trees) [] (take n trees ++ t ∷ [])
            (λ m k there same. let few : m < length (take n trees) = slice_get_within (take n trees) m k there in
            let count : length (take n trees) ≡ n = length-take-le n trees (omega arith) in
            none m (omega arith) (place_in_take n trees m k there ∙ ap Some (sym same))) (ended (take n trees ++ t ∷ []))),
      )
    where
      one_more : (xs : List Tree) (n : ℕ) (t : Tree) → slice_get xs n ≡ Some t → take (n + 1) xs ≡ take n xs ++ t ∷ []
      one_more [] n t at = absurd (none-some t at)
      one_more (x ∷ xs) zero t at = ap (λ y. y ∷ []) (same_Some x t at)
      one_more (x ∷ xs) (suc n) t at = let next : suc n + 1 ≡ suc (n + 1) = omega arith in ap (λ k. take k (x ∷ xs)) next ∙ ap (λ l. x ∷ l) (one_more xs n t at)

  -- a tree that has not occurred and is not the next one leads nowhere
  pub leads_not : (before n : ℕ) (t : Tree) (behind : ℕ) → before < n → ((m : ℕ) → slice_get trees m ≡ Some t → m ≡ n) → ¬ LeadsTo trees before (t ∷ []) behind
  leads_not before n t behind less only leads = elim (first_case ◌≡◌ t (take before trees) [] (take behind trees) leads.1) [
    | inl there ↦ (let at : slice_get trees there.0 ≡ Some t = place_in_take before trees there.0 there.1 there.2 ∙ ap Some (sym there.3) in
        let few : there.0 < length (take before trees) = slice_get_within (take before trees) there.0 there.1 there.2 in
        let count : length (take before trees) ≡ min before (length trees) = length-take before trees in
        let is : there.0 ≡ n = only there.0 at in absurd (omega arith))
    | inr new ↦ (let is : take behind trees ≡ take before trees ++ t ∷ [] = none_more ◌≡◌ (take before trees ++ t ∷ []) (take behind trees) new.1 in
        let P : List Tree → Type 0 = λ l. slice_get l (length (take before trees)) ≡ Some t in
        let at : slice_get trees (length (take before trees)) ≡ Some t =
        place_in_take behind trees (length (take before trees)) t (subst P (sym is) (place_behind (take before trees) t [])) in
        let count : length (take before trees) ≡ min before (length trees) = length-take before trees in
        let place : length (take before trees) ≡ n = only (length (take before trees)) at in absurd (omega arith))
  ]

-- the children of runs whose trees' instances are there are there
there_laid : (kept trees : List Tree) (high : ℕ) (runs : List Run) → NameBelow high runs
    → ((n : ℕ) → n < high → AreThere kept (post_order (alone (get_or trees n no_tree)))) → AreThere kept (post_order (laid trees runs))
there_laid kept trees high [] below each = tt
there_laid kept trees high (run ∷ runs) below each = copied (there_laid kept trees high runs below.2 each) run.count
  where
    copied : AreThere kept (post_order (laid trees runs)) → (n : ℕ) → AreThere kept (post_order (copies n (get_or trees run.entry no_tree) (laid trees runs)))
    copied rest zero = rest
    copied rest (suc n) =
        let t : Tree = get_or trees run.entry no_tree in
        let P : List Tree → Type 0 = AreThere kept in
        subst P (sym (post-copies n t (laid trees runs)))
        (AreThere-append kept (post_order (alone t)) (post_order (copies n t (laid trees runs))) (each run.entry below.0) (copied rest n))

-- the last of trees that are there
last_there : (kept xs : List Tree) (t : Tree) → AreThere kept (xs ++ t ∷ []) → IsAt kept t
last_there kept [] t there = there.0
last_there kept (x ∷ xs) t there = last_there kept xs t there.1

-- where the visit of an entry stands: the children of these runs are left
pub record Visiting (entries : List Entry) (number before count : ℕ) (rest : List Run) : Type 0 where
  pub same : (behind : ℕ) → LeadsTo (trees_of entries) before (post_order (tree_at entries number).inner) behind
      ↔ LeadsTo (trees_of entries) count (post_order (laid (trees_of entries) rest)) behind
  pub few : count ≤ number
  pub below : NameBelow number rest

module _ (entries : List Entry) (runs : HaveRuns One entries) (apart : AreApart entries) where
  -- the entry of a number, with its tree
  entry_there : (n : ℕ) → n < length entries → (e : Entry) × (slice_get entries n ≡ Some e) × NameBelow n e.runs × (tree_at entries n ≡ tree_of (trees_of entries) e)
  entry_there n within =
      let some : Entry = entry_at (no_tree).label [] in
      let e : Entry = get_or entries n some in
      let at : slice_get entries n ≡ Some e = slice_get-get_or entries n some within in
      (e, at, (runs n e at).0, tree_named entries n e at (runs n e at).0)

  tree_place : (n : ℕ) → n < length entries → slice_get (trees_of entries) n ≡ Some (tree_at entries n)
  tree_place n within = tree_there entries n within

  -- a tree stands at one place
  one_place : (n m : ℕ) → n < length entries → slice_get (trees_of entries) m ≡ Some (tree_at entries n) → m ≡ n
  one_place n m within at =
      let count = length-trees entries in let inside = slice_get_within (trees_of entries) m (tree_at entries n) at in
      let less : m < length entries = omega arith in
      trees_apart entries runs apart m n less within (same_Some (tree_at entries m) (tree_at entries n) (sym (tree_place m less) ∙ at))

  all_there : (k before n : ℕ) → n < k → n < before → before ≤ length entries → AreThere (take before (trees_of entries)) (post_order (alone (tree_at entries n)))
  all_there zero before n less first within = absurd (omega arith)
  all_there (suc k) before n less first within =
      let trees : List Tree = trees_of entries in
      let e = entry_there n (omega arith) in
      let count = length-trees entries in
      let P : Tree → Type 0 = λ t. AreThere (take before trees) (post_order t.inner) in
      let inner : AreThere (take before trees) (post_order (tree_at entries n).inner) =
      subst P (sym e.3) (there_laid (take before trees) trees n e.0.runs e.2 (λ m lower. all_there k before m (omega arith) (omega arith) within)) in
      AreThere-append (take before trees) (post_order (tree_at entries n).inner) (tree_at entries n ∷ []) inner
      ((n, in_first trees before n (tree_at entries n) first (tree_place n (omega arith))), tt)
    where
      in_first : (xs : List Tree) (before n : ℕ) (t : Tree) → n < before → slice_get xs n ≡ Some t → slice_get (take before xs) n ≡ Some t
      in_first xs zero n t less at = absurd (omega arith)
      in_first [] (suc before) n t less at = absurd (none-some t at)
      in_first (x ∷ xs) (suc before) zero t less at = at
      in_first (x ∷ xs) (suc before) (suc n) t less at = in_first xs before n t (omega arith) at

  -- an entry that has occurred brings none anew
  pub visited_before : (number before : ℕ) → number < before → before ≤ length entries → Visits entries number before (Some before)
  visited_before number before less within =
      let count = length-trees entries in
      (leads_there (trees_of entries) before (post_order (alone (tree_at entries number))) (omega arith) (all_there (suc number) before number (omega arith) less within), omega arith)

  module _ (number before : ℕ) (within : number < length entries) where
    -- before the first run
    pub visiting_start : (e : Entry) → slice_get entries number ≡ Some e → before ≤ number → Visiting entries number before before e.runs
    visiting_start e at few = record {
      same = λ behind. let P : Tree → Type 0 = λ t. LeadsTo (trees_of entries) before (post_order (tree_at entries number).inner) behind ↔ LeadsTo (trees_of entries) before (post_order t.inner) behind in
          subst P (tree_named entries number e at (runs number e at).0) (λ h. h, λ h. h);
      few = few;
      below = (runs number e at).0;
    }

    -- before the first run, where these are the entry's
    pub visiting_from : (list : List Run) → ((e : Entry) → slice_get entries number ≡ Some e → list ≡ e.runs) → before ≤ number
        → Visiting entries number before before list
    visiting_from list is few =
        let e = entry_there number within in
        let P : List Run → Type 0 = Visiting entries number before before in
        subst P (sym (is e.0 e.1)) (visiting_start e.0 e.1 few)

    -- the next run is of an earlier entry
    pub visiting_lower : (count : ℕ) (rest later : List Run) (run : Run) → Visiting entries number before count rest → rest ≡ run ∷ later → run.entry < number
    visiting_lower count rest later run at is = let P : List Run → Type 0 = NameBelow number in (subst P is at.below).0

    -- behind one more
    pub visiting_more : (count next : ℕ) (run : Run) (rest : List Run) → Visiting entries number before count (run ∷ rest) → Visits entries run.entry count (Some next)
        → Visiting entries number before next rest
    visiting_more count next run rest at visits =
        let few = at.few in let most = visits.1 in let lower = at.below.0 in
        record {
          same = λ behind.
              let step = copies_lead (trees_of entries) count next run.count (tree_at entries run.entry) (laid (trees_of entries) rest) behind at.below.1 visits.0 in
              let whole = at.same behind in
              (λ h. step.0 (whole.0 h), λ h. whole.1 (step.1 h));
          few = omega arith;
          below = at.below.2;
        }

    -- where a child's entries are not the next ones
    pub visiting_fails : (count : ℕ) (run : Run) (rest : List Run) → Visiting entries number before count (run ∷ rest) → Visits entries run.entry count None
        → Visits entries number before None
    visiting_fails count run rest at none behind leads =
        let parts = leads_apart (trees_of entries) before behind (post_order (tree_at entries number).inner) (tree_at entries number ∷ []) leads in
        copies_fail (trees_of entries) count run.count (tree_at entries run.entry) (laid (trees_of entries) rest) parts.0 at.below.1 none ((at.same parts.0).0 parts.1)

    -- the entry itself is the next one
    pub visiting_done : (count : ℕ) (rest : List Run) → Visiting entries number before count rest → rest ≡ [] → count ≡ number → Visits entries number before (Some (number + 1))
    visiting_done count rest at none is =
        let trees : List Tree = trees_of entries in
        let t : Tree = tree_at entries number in
        let size = length-trees entries in
        let P : List Run → Type 0 = λ l. LeadsTo trees count (post_order (laid trees l)) count in
        let children : LeadsTo trees before (post_order t.inner) count = (at.same count).1 (subst P (sym none) (leads_none trees count (omega arith))) in
        let Q : ℕ → Type 0 = λ k. LeadsTo trees before (post_order t.inner) k in
        let last = leads_next trees number t (tree_place number within) (λ m less there. let same = one_place number m within there in absurd (omega arith)) in
        (leads_further trees before number (number + 1) (post_order t.inner) (t ∷ []) (subst Q is children) last, omega arith)

    -- or is not
    pub visiting_wrong : (count : ℕ) (rest : List Run) → Visiting entries number before count rest → rest ≡ [] → (count ≡ number → ⊥) → Visits entries number before None
    visiting_wrong count rest at none other behind leads =
        let trees : List Tree = trees_of entries in
        let t : Tree = tree_at entries number in
        let size = length-trees entries in
        let few = at.few in
        let less : count < number = elim (cases_lt count number) [ inl k ↦ k | inr k ↦ absurd (other (omega arith)) ] in
        let parts = leads_apart trees before behind (post_order t.inner) (t ∷ []) leads in
        let P : List Run → Type 0 = λ l. LeadsTo trees count (post_order (laid trees l)) parts.0 in
        let there : LeadsTo trees count [] parts.0 = subst P none ((at.same parts.0).0 parts.1) in
        let is : parts.0 ≡ count = leads_same trees count parts.0 count [] there (leads_none trees count (omega arith)) in
        let Q : ℕ → Type 0 = λ k. LeadsTo trees k (t ∷ []) behind in
        leads_not trees count number t behind less (λ m place. one_place number m within place) (subst Q is parts.2)

    -- the same, where the runs that are left are known to begin so
    pub more_at : (count next : ℕ) (run : Run) (rest later : List Run) → Visiting entries number before count rest → rest ≡ run ∷ later
        → Visits entries run.entry count (Some next) → Visiting entries number before next later
    more_at count next run rest later at is visits =
        let P : List Run → Type 0 = Visiting entries number before count in visiting_more count next run later (subst P is at) visits

    pub fails_at : (count : ℕ) (run : Run) (rest later : List Run) → Visiting entries number before count rest → rest ≡ run ∷ later
        → Visits entries run.entry count None → Visits entries number before None
    fails_at count run rest later at is none =
        let P : List Run → Type 0 = Visiting entries number before count in visiting_fails count run later (subst P is at) none

  -- the entries are in post-order where the visit of the last one has an answer
  pub order_is : (root : ℕ) (result : Option ℕ) → length entries ≡ root + 1 → Visits entries root 0 result → IsTrue (is_some result) ↔ IsPostOrder entries
  order_is root (Some behind) last visits = (λ h. by, λ order. refl)
    where
      all : take behind (trees_of entries) ≡ trees_of entries
      all =
          let trees : List Tree = trees_of entries in
          let t : Tree = tree_at entries root in
          let size = length-trees entries in
          let covered = Firsts-cover [] (post_order (alone t)) (take behind trees) visits.0.1 in
          let there = last_there (take behind trees) (post_order t.inner) t covered in
          let place : there.0 ≡ root = one_place root there.0 (omega arith) (place_in_take behind trees there.0 t there.1) in
          let few = slice_get_within (take behind trees) there.0 t there.1 in
          let count : length (take behind trees) ≡ min behind (length trees) = length-take behind trees in
          let is : behind ≡ length trees = let most = visits.0.0 in omega arith in
          ap (λ n. take n trees) is ∙ take-length trees

      by : IsPostOrder entries
      by = let P : List Tree → Type 0 = λ l. Firsts ◌≡◌ [] (post_order (alone (tree_at entries root))) l in
          record { root = root; last = last; firsts = subst P all visits.0.1 }
  order_is root None last visits = (λ h. absurd (false≢true h), λ order. absurd (none_leads order))
    where
      none_leads : IsPostOrder entries → ⊥
      none_leads order =
          let trees : List Tree = trees_of entries in
          let count = order.last in
          let same : order.root ≡ root = omega arith in
          let P : ℕ → Type 0 = λ n. Firsts ◌≡◌ [] (post_order (alone (tree_at entries n))) (take (length trees) trees) in
          let Q : List Tree → Type 0 = λ l. Firsts ◌≡◌ [] (post_order (alone (tree_at entries order.root))) l in
          visits (length trees) (omega arith, subst P same (subst Q (sym (take-length trees)) order.firsts))
