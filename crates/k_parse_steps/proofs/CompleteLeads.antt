-- Tokens that lead a machine from one state to another, none of which is refused, and none of which reaches too deep.
use Rattle.std.proofs.Common.{ℕ, ◌≡◌, ◌<◌, ◌≤◌, List, [], ◌∷◌, ◌++◌, sym, subst, arith}
use Rattle.k_parse_steps.specs.Types.{Place, Token, TokenKind}
use Rattle.k_tree.specs.Spelling.{Spelled}

abbrev pub token_at : Place → TokenKind → Token
token_at p kind = record { what = kind; place = p }

-- how a machine moves: from a state by a token to another, with a reach
abbrev pub Moves : Type 0 → Type 1
Moves S = S → Token → S → ℕ → Type 0

-- a token goes on, to a state of which something holds
pub record Step {S : Type 0} (M : Moves S) (bound : ℕ) (r : S) (t : Token) (Q : S → Type 0) : Type 0 where
  pub next : S
  pub reach : ℕ
  pub goes : M r t next reach
  pub low : reach < bound
  pub there : Q next

-- tokens of these kinds, wherever they stand, lead to a state of which something holds
abbrev pub Leads : {S : Type 0} → Moves S → ℕ → Spelled → S → (S → Type 0) → Type 0
Leads M bound [] r Q = Q r
Leads M bound (kind ∷ kinds) r Q = (p : Place) → Step M bound r (token_at p kind) (λ next. Leads M bound kinds next Q)

step-more : {S : Type 0} (M : Moves S) (bound more : ℕ) (r : S) (t : Token) (P Q : S → Type 0)
    → bound ≤ more → ((next : S) → P next → Q next) → Step M bound r t P → Step M more r t Q
step-more M bound more r t P Q le f s = record {
  next = s.next;
  reach = s.reach;
  goes = s.goes;
  low = let h : s.reach < bound = s.low in omega arith;
  there = f s.next s.there;
}

-- a greater bound, and more kinds behind
pub leads-then : {S : Type 0} (M : Moves S) (bound more : ℕ) (xs ys : Spelled) (r : S) (P Q : S → Type 0)
    → bound ≤ more → Leads M bound xs r P → ((next : S) → P next → Leads M more ys next Q) → Leads M more (xs ++ ys) r Q
leads-then M bound more [] ys r P Q le l f = f r l
leads-then M bound more (x ∷ xs) ys r P Q le l f = λ p.
    step-more M bound more r (token_at p x) (λ next. Leads M bound xs next P) (λ next. Leads M more (xs ++ ys) next Q) le
    (λ next h. leads-then M bound more xs ys next P Q le h f) (l p)

-- a greater bound, and more is known at the end
pub leads-more : {S : Type 0} (M : Moves S) (bound more : ℕ) (xs : Spelled) (r : S) (P Q : S → Type 0)
    → bound ≤ more → Leads M bound xs r P → ((next : S) → P next → Q next) → Leads M more xs r Q
leads-more M bound more [] r P Q le l f = f r l
leads-more M bound more (x ∷ xs) r P Q le l f = λ p.
    step-more M bound more r (token_at p x) (λ next. Leads M bound xs next P) (λ next. Leads M more xs next Q) le
    (λ next h. leads-more M bound more xs next P Q le h f) (l p)

-- a machine in a machine: each move of the inner one is a move of the outer one
pub leads-in : {S T : Type 0} (M : Moves S) (N : Moves T) (f : S → T) (bound more : ℕ) (xs : Spelled) (r : S) (P : S → Type 0) (Q : T → Type 0)
    → ((s : S) (t : Token) (next : S) (reach : ℕ) → M s t next reach → N (f s) t (f next) reach)
    → bound ≤ more → Leads M bound xs r P → ((next : S) → P next → Q (f next)) → Leads N more xs (f r) Q
leads-in M N f bound more [] r P Q moves le l g = g r l
leads-in M N f bound more (x ∷ xs) r P Q moves le l g = λ p.
    let s : Step M bound r (token_at p x) (λ next. Leads M bound xs next P) = l p in
    record {
      next = f s.next;
      reach = s.reach;
      goes = moves r (token_at p x) s.next s.reach s.goes;
      low = let h : s.reach < bound = s.low in omega arith;
      there = leads-in M N f bound more xs s.next P Q moves le s.there g;
    }

-- tokens are fed one after another, and none reaches below the bound
abbrev pub Reaches : {S : Type 0} → Moves S → ℕ → S → List Token → S → Type 0
Reaches M bound r [] end = r ≡ end
Reaches M bound r (t ∷ ts) end = Step M bound r t (λ next. Reaches M bound next ts end)

-- the same tokens lead to one state
pub leads-once : {S : Type 0} (M : Moves S) (bound other : ℕ) (xs : Spelled) (r : S) (P Q : S → Type 0) (C : Type 0)
    → ((s : S) (t : Token) (a b : S) (m n : ℕ) → M s t a m → M s t b n → a ≡ b)
    → Leads M bound xs r P → Leads M other xs r Q → ((end : S) → P end → Q end → C) → C
leads-once M bound other [] r P Q C once l m f = f r l m
leads-once M bound other (x ∷ xs) r P Q C once l m f =
    let p : Place = record { line = 0; column = 0 } in
    let first : Step M bound r (token_at p x) (λ next. Leads M bound xs next P) = l p in
    let second : Step M other r (token_at p x) (λ next. Leads M other xs next Q) = m p in
    let same : first.next ≡ second.next = once r (token_at p x) first.next second.next first.reach second.reach first.goes second.goes in
    leads-once M bound other xs first.next P Q C once first.there (subst (λ next. Leads M other xs next Q) (sym same) second.there) f
