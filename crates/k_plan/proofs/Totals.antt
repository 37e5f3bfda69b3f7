-- What choices save, counted along parents.
use Rattle.std.proofs.Common.{◌≡◌, ℕ, zero, suc, ◌+◌, ◌<◌, ◌≤◌, inl, inr, List, [], ◌∷◌, ◌++◌, length, refl, sym, ap, ◌∙◌, subst, arith, if◌then◌else◌}
use Rattle.std.proofs.lemmas.Bool.{cases_eq}
use Rattle.k_selfpar.specs.declared.context.Context.{Context}
use Rattle.k_plan.specs.Best.{given}
use Rattle.k_plan.specs.Choices.{Choice, total, total_from}
use Rattle.k_plan.specs.Plan.{StandBehindParents}
use Rattle.k_plan.specs.Saving.{saving}
use Rattle.k_plan.proofs.Given.{given_child, given_other}

-- what a context saves where it is chosen
abbrev pub saved : Choice → ℕ → Context → ℕ
saved choice k c = if choice k then saving c else 0

-- what the chosen ones at a context and below it save, where those below it save so much
abbrev pub sums : Choice → ℕ → Context → ℕ → ℕ
sums choice k c below = saved choice k c + below

-- the sum of the numbers below n
sum_to : ℕ → (ℕ → ℕ) → ℕ
sum_to zero g = 0
sum_to (suc n) g = sum_to n g + g n

sum_to_none : (n : ℕ) (g : ℕ → ℕ) → ((a : ℕ) → g a ≡ 0) → sum_to n g ≡ 0
unfolding sum_to
sum_to_none zero g none = refl
sum_to_none (suc n) g none = let e : sum_to n g ≡ 0 = sum_to_none n g none in let f : g n ≡ 0 = none n in omega arith

sum_to_same : (n : ℕ) (g h : ℕ → ℕ) → ((a : ℕ) → a < n → g a ≡ h a) → sum_to n g ≡ sum_to n h
unfolding sum_to
sum_to_same zero g h same = refl
sum_to_same (suc n) g h same =
    let e : sum_to n g ≡ sum_to n h = sum_to_same n g h (λ a lt. same a (omega arith)) in let f : g n ≡ h n = same n (omega arith) in omega arith

-- one number is larger by x
sum_to_one : (n p x : ℕ) (g h : ℕ → ℕ) → p < n → g p ≡ x + h p → ((a : ℕ) → ¬ (p ≡ a) → g a ≡ h a) → sum_to n g ≡ x + sum_to n h
unfolding sum_to
sum_to_one zero p x g h lt at same = absurd (omega arith)
sum_to_one (suc n) p x g h lt at same = elim (cases_eq p n) [
  | inl here ↦
      let e : sum_to n g ≡ sum_to n h = sum_to_same n g h (λ a less. same a (λ is. absurd (omega arith))) in
      let f : g n ≡ x + h n = subst (λ m. g m ≡ x + h m) here at in
      omega arith
  | inr other ↦
      let e : sum_to n g ≡ x + sum_to n h = sum_to_one n p x g h (omega arith) at same in
      let f : g n ≡ h n = same n other in
      omega arith
]

sum_to_more : (n : ℕ) (g : ℕ → ℕ) → sum_to (n + 1) g ≡ sum_to n g + g n
unfolding sum_to
sum_to_more n g = let e : n + 1 ≡ suc n = omega arith in ap (λ m. sum_to m g) e

sum_to_first : (g : ℕ → ℕ) → sum_to 1 g ≡ g 0
unfolding sum_to
sum_to_first g = omega arith

-- what contexts behind a place save is what they give to those before it together
total_is_given : (choice : Choice) (contexts : List Context) (k : ℕ) → StandBehindParents k contexts
    → total_from k choice contexts ≡ sum_to k (given (sums choice) contexts k)
total_is_given choice [] k stand = sym (sum_to_none k (given (sums choice) [] k) (λ a. refl))
total_is_given choice (c ∷ contexts) k stand =
    let under : ℕ → ℕ = given (sums choice) contexts (k + 1) in
    let rest : total_from (k + 1) choice contexts ≡ sum_to (k + 1) under = total_is_given choice contexts (k + 1) stand.1 in
    let split : sum_to (k + 1) under ≡ sum_to k under + under k = sum_to_more k under in
    let here : sum_to k (given (sums choice) (c ∷ contexts) k) ≡ (saved choice k c + under k) + sum_to k under =
    sum_to_one k c.parent (saved choice k c + under k) (given (sums choice) (c ∷ contexts) k) under stand.0
    (given_child (sums choice) c contexts k c.parent refl) (λ a other. given_other (sums choice) c contexts k a other) in
    omega arith

-- what a choice saves: at the root and below it
pub total_at_root : (choice : Choice) (root : Context) (contexts : List Context) → StandBehindParents 1 contexts
    → total (root ∷ contexts) choice ≡ sums choice 0 root (given (sums choice) contexts 1 0)
total_at_root choice root contexts stand =
    let e : total_from 1 choice contexts ≡ given (sums choice) contexts 1 0 =
    total_is_given choice contexts 1 stand ∙ sum_to_first (given (sums choice) contexts 1) in
    ap (λ t. saved choice 0 root + t) e

sum_to_has : (n p : ℕ) (g : ℕ → ℕ) → p < n → g p ≤ sum_to n g
unfolding sum_to
sum_to_has zero p g lt = absurd (omega arith)
sum_to_has (suc n) p g lt = elim (cases_eq p n) [
  | inl here ↦ let e : g p ≡ g n = ap g here in omega arith
  | inr other ↦ let h : g p ≤ sum_to n g = sum_to_has n p g (omega arith) in omega arith
]

total_has : (choice : Choice) (before more : List Context) (k m : ℕ) → m ≡ k + length before → total_from m choice more ≤ total_from k choice (before ++ more)
total_has choice [] more k m is =
    let n : m ≡ k = omega arith in let e : total_from m choice more ≡ total_from k choice more = ap (λ j. total_from j choice more) n in omega arith
total_has choice (c ∷ before) more k m is =
    let h : total_from m choice more ≤ total_from (k + 1) choice (before ++ more) = total_has choice before more (k + 1) m (omega arith) in omega arith

-- a choice saves at least what contexts behind a place give to one before it
pub given_is_saved : (choice : Choice) (before more : List Context) (m a : ℕ) → m ≡ length before → a < m → StandBehindParents m more
    → given (sums choice) more m a ≤ total (before ++ more) choice
given_is_saved choice before more m a is lt stand =
    let one : given (sums choice) more m a ≤ sum_to m (given (sums choice) more m) = sum_to_has m a (given (sums choice) more m) lt in
    let two : total_from m choice more ≡ sum_to m (given (sums choice) more m) = total_is_given choice more m stand in
    let three : total_from m choice more ≤ total_from 0 choice (before ++ more) = total_has choice before more 0 m (omega arith) in
    omega arith

-- totals add up where the savings of each context do
pub totals_add : (one two three four : Choice) (contexts : List Context) (k : ℕ)
    → ((n : ℕ) (c : Context) → saved one n c + saved two n c ≡ saved three n c + saved four n c)
    → total_from k one contexts + total_from k two contexts ≡ total_from k three contexts + total_from k four contexts
totals_add one two three four [] k each = refl
totals_add one two three four (c ∷ contexts) k each =
    let e : saved one k c + saved two k c ≡ saved three k c + saved four k c = each k c in
    let f : total_from (k + 1) one contexts + total_from (k + 1) two contexts ≡ total_from (k + 1) three contexts + total_from (k + 1) four contexts =
    totals_add one two three four contexts (k + 1) each in
    omega arith
