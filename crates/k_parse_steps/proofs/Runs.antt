-- Machines that are fed one token at a time: tokens that lead to an end, each within the limit.
use Rattle.std.proofs.Common.{ℕ, ◌≤◌, List, [], ◌∷◌, ◌++◌, append_assoc, subst, arith}
use Rattle.k_parse_steps.specs.Types.{Token}

module _ (R O : Type 0) (Goes : R → Token → R → ℕ → Type 0) (Ends : R → Token → O → Type 0) (lim : ℕ) where
  -- from a state the tokens go on, and the last one ends with an outcome
  pub data Runs : R → List Token → O → Type 0 where
    run_ends : (r : R) (t : Token) (o : O) → Ends r t o → Runs r (t ∷ []) o
    run_goes : (r next : R) (t : Token) (ts : List Token) (o : O) (reach : ℕ) → Goes r t next reach → reach ≤ lim
        → Runs next ts o → Runs r (t ∷ ts) o

  -- there are such tokens
  abbrev pub CanEnd : R → Type 0
  CanEnd r = (us : List Token) × (o : O) × Runs r us o

  -- one token before
  pub goes_then : (r next : R) (t : Token) (reach : ℕ) → Goes r t next reach → reach ≤ lim → CanEnd next → CanEnd r
  goes_then r next t reach g le x = (t ∷ x.0, x.1, run_goes r next t x.0 x.1 reach g le x.2)

  -- what each token keeps true holds at the end
  pub runs_keep : (P : R → List Token → Type 0) (Q : O → List Token → Type 0)
      → ((r : R) (t : Token) (next : R) (reach : ℕ) (ts : List Token) → Goes r t next reach → reach ≤ lim → P r ts → P next (ts ++ t ∷ []))
      → ((r : R) (t : Token) (o : O) (ts : List Token) → Ends r t o → P r ts → Q o (ts ++ t ∷ []))
      → (r : R) (us : List Token) (o : O) (ts : List Token) → Runs r us o → P r ts → Q o (ts ++ us)
  runs_keep P Q keeps ends _ _ _ ts (run_ends r t o e) p = ends r t o ts e p
  runs_keep P Q keeps ends _ _ _ ts (run_goes r next t us o reach g le rest) p =
      subst (λ z. Q o z) (append_assoc ts (t ∷ []) us)
      (runs_keep P Q keeps ends next us o (ts ++ t ∷ []) rest (keeps r t next reach ts g le p))

-- a machine inside another: where the one ends, the other goes on
module _ (R O : Type 0) (Goes : R → Token → R → ℕ → Type 0) (Ends : R → Token → O → Type 0)
    (R₂ O₂ : Type 0) (Goes₂ : R₂ → Token → R₂ → ℕ → Type 0) (Ends₂ : R₂ → Token → O₂ → Type 0) (lim : ℕ)
    (inside : R → R₂) (behind : O → Token → R₂)
    (on : (r : R) (t : Token) (next : R) (reach : ℕ) → Goes r t next reach → Goes₂ (inside r) t (inside next) reach)
    (off : (r : R) (t : Token) (o : O) → Ends r t o → Goes₂ (inside r) t (behind o t) 0) where
  runs_inside : (r : R) (us : List Token) (o : O) → Runs R O Goes Ends lim r us o → ((t : Token) → CanEnd R₂ O₂ Goes₂ Ends₂ lim (behind o t))
      → CanEnd R₂ O₂ Goes₂ Ends₂ lim (inside r)
  runs_inside _ _ _ (run_ends r t o e) x = goes_then R₂ O₂ Goes₂ Ends₂ lim (inside r) (behind o t) t 0 (off r t o e) (omega arith) (x t)
  runs_inside _ _ _ (run_goes r next t us o reach g le rest) x =
      goes_then R₂ O₂ Goes₂ Ends₂ lim (inside r) (inside next) t reach (on r t next reach g) le (runs_inside next us o rest x)

  pub inside_can_end : (r : R) → CanEnd R O Goes Ends lim r → ((o : O) (t : Token) → CanEnd R₂ O₂ Goes₂ Ends₂ lim (behind o t))
      → CanEnd R₂ O₂ Goes₂ Ends₂ lim (inside r)
  inside_can_end r x rest = runs_inside r x.0 x.1 x.2 (rest x.1)
