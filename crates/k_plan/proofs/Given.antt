-- What contexts give their parents.
use Rattle.std.proofs.Common.{◌≡◌, ℕ, ◌+◌, ◌≤◌, inl, inr, List, [], ◌∷◌, ◌++◌, length, ap, arith, if◌then◌else◌}
use Rattle.std.proofs.lemmas.Bool.{cases_eq, eq-eqb, ne_eqb}
use Rattle.k_selfpar.specs.declared.context.Context.{Context}
use Rattle.k_plan.specs.Best.{given}

module _ (f : ℕ → Context → ℕ → ℕ) (c : Context) (contexts : List Context) (k a : ℕ) where
  -- what a child gives, before the others
  pub given_child : c.parent ≡ a → given f (c ∷ contexts) k a ≡ f k c (given f contexts (k + 1) k) + given f contexts (k + 1) a
  given_child is = ap (λ b. (if b then f k c (given f contexts (k + 1) k) else 0) + given f contexts (k + 1) a) (eq-eqb c.parent a is)

  -- a context gives nothing to one that is not its parent
  pub given_other : ¬ (c.parent ≡ a) → given f (c ∷ contexts) k a ≡ given f contexts (k + 1) a
  given_other isnt =
      let e : given f (c ∷ contexts) k a ≡ 0 + given f contexts (k + 1) a =
      ap (λ b. (if b then f k c (given f contexts (k + 1) k) else 0) + given f contexts (k + 1) a) (ne_eqb c.parent a isnt) in
      omega arith

-- what the last contexts give is part of what all give
pub given_part : (f : ℕ → Context → ℕ → ℕ) (before more : List Context) (k m a : ℕ) → m ≡ k + length before → given f more m a ≤ given f (before ++ more) k a
given_part f [] more k m a is =
    let n : m ≡ k = omega arith in let e : given f more m a ≡ given f more k a = ap (λ j. given f more j a) n in omega arith
given_part f (c ∷ before) more k m a is =
    let rest : given f more m a ≤ given f (before ++ more) (k + 1) a = given_part f before more (k + 1) m a (omega arith) in
    elim (cases_eq c.parent a) [
      | inl same ↦ let e = given_child f c (before ++ more) k a same in omega arith
      | inr other ↦ let e = given_other f c (before ++ more) k a other in omega arith
    ]
