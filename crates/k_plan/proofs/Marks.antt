-- What is known of each context behind the root, with those behind it.
use Rattle.std.proofs.Common.{◌≡◌, ℕ, zero, suc, ◌+◌, ◌<◌, ◌≤◌, List, [], ◌∷◌, ◌++◌, length, Some, slice_get, refl, sym, ap, ◌∙◌, subst, arith}
use Rattle.std.proofs.lemmas.Option.{none-some, same_Some}
use Rattle.k_selfpar.specs.declared.context.Context.{Context}
use Rattle.k_plan.specs.declared.limits.Limits.{Limits}
use Rattle.k_plan.specs.Best.{best, given, taken, takes, takes_some}
use Rattle.k_selfpar.specs.Contexts.{root_work}
use Rattle.k_plan.specs.Plan.{ParentsComeFirst, StandBehindParents, behind_root}
use Rattle.k_plan.proofs.Given.{given_other}

-- a context has its number, stands behind its parent, and is taken by what the contexts behind it give it
pub record IsMarked (limits : Limits) (contexts : List Context) (k : ℕ) (c : Context) (more : List Context) : Type 0 where
  pub at : slice_get contexts k ≡ Some c
  pub behind : c.parent < k
  pub its : taken limits contexts k ≡ takes limits (root_work contexts) c (given (λ _. best limits (root_work contexts)) more (k + 1) k)

module _ (limits : Limits) (contexts : List Context) where
  -- that holds of each of these contexts
  abbrev pub Marked : ℕ → List Context → Type 0
  Marked k [] = Unit {0}
  Marked k (c ∷ more) = IsMarked limits contexts k c more × Marked (k + 1) more

  pub marked_behind : (k : ℕ) (more : List Context) → Marked k more → StandBehindParents k more
  marked_behind k [] marked = tt
  marked_behind k (c ∷ more) marked = (marked.0.behind, marked_behind (k + 1) more marked.1)

  pub marked_part : (before more : List Context) (k m : ℕ) → m ≡ k + length before → Marked k (before ++ more) → Marked m more
  marked_part [] more k m is marked = let n : k ≡ m = omega arith in subst (λ j. Marked j more) n marked
  marked_part (c ∷ before) more k m is marked = marked_part before more (k + 1) m (omega arith) marked.1

  mark : (inner more : List Context) (k : ℕ) → inner ≡ behind_root contexts → StandBehindParents k more
      → ((n : ℕ) → slice_get more n ≡ slice_get contexts (k + n))
      → ((a : ℕ) → k ≤ a + 1 → given (λ _. best limits (root_work contexts)) inner 1 a ≡ given (λ _. best limits (root_work contexts)) more k a) → Marked k more
  mark inner [] k is stand places late = tt
  mark inner (c ∷ more) k is stand places late =
      let none : k ≡ k + 0 = omega arith in
      let at : slice_get contexts k ≡ Some c = ap (λ n. slice_get contexts n) none ∙ sym (places 0) in
      let later : (a : ℕ) → k + 1 ≤ a + 1 → given (λ _. best limits (root_work contexts)) inner 1 a ≡ given (λ _. best limits (root_work contexts)) more (k + 1) a =
      λ a h. late a (omega arith) ∙ given_other (λ _. best limits (root_work contexts)) c more k a (λ same. absurd (earlier a same stand.0 h)) in (
        record {
          at = at;
          behind = stand.0;
          its = ap (takes_some limits (root_work contexts) (given (λ _. best limits (root_work contexts)) (behind_root contexts) 1 k)) at
              ∙ ap (λ l. takes limits (root_work contexts) c (given (λ _. best limits (root_work contexts)) l 1 k)) (sym is)
              ∙ ap (takes limits (root_work contexts) c) (later k (omega arith));
        },
        mark inner more (k + 1) is stand.1 (λ n. places (suc n) ∙ ap (λ m. slice_get contexts m) (one_on n)) later,
      )
    where
      one_on : (n : ℕ) → k + suc n ≡ (k + 1) + n
      one_on n = omega arith

      earlier : (a : ℕ) → c.parent ≡ a → c.parent < k → k + 1 ≤ a + 1 → ⊥
      earlier a same less late = omega arith

-- each context behind the root is marked
pub all_marked : (limits : Limits) (root : Context) (inner : List Context) → ParentsComeFirst (root ∷ inner) → Marked limits (root ∷ inner) 1 inner
all_marked limits root inner parents =
    mark limits (root ∷ inner) inner inner 1 refl parents.1 (λ n. ap (λ m. slice_get (root ∷ inner) m) (later n)) (λ a h. refl)
  where
    later : (n : ℕ) → suc n ≡ 1 + n
    later n = omega arith

-- where a context stands in a list, the list is cut there
pub cut_at : (contexts : List Context) (k : ℕ) (c : Context) → slice_get contexts k ≡ Some c
    → (before : List Context) × (more : List Context) × (contexts ≡ before ++ c ∷ more) × (length before ≡ k)
cut_at [] k c at = absurd (none-some c at)
cut_at (d ∷ contexts) zero c at = ([], contexts, ap (λ x. x ∷ contexts) (same_Some d c at), refl)
cut_at (d ∷ contexts) (suc k) c at =
    let found = cut_at contexts k c at in
    let count : length found.0 ≡ k = found.3 in
    (d ∷ found.0, found.1, ap (λ l. d ∷ l) found.2, ap suc count)
