-- The instances of a list that pass a test, with the closed instances that they are of: where these lie in a row.
use Rattle.std.proofs.Common.{◌≡◌, ℕ, zero, suc, ◌<◌, ◌≤◌, Bool, true, false, cond, List, [], ◌∷◌, Some, refl, arith, slice_get, filter}
use Rattle.std.proofs.lemmas.Bool.{cond_both}
use Rattle.k_optab.specs.declared.closed.Closed.{Closed}
use Rattle.k_optab.specs.Meaning.{AreInARow}
use Rattle.k_optab.specs.Tree.{EachWith}
use Rattle.k_graph.specs.declared.tree.Instance.{Instance}

module _ (test : Instance → Bool) where
  -- the closed instances whose items pass
  abbrev pub passing : List Closed → List Instance → List Closed
  passing [] ns = []
  passing (c ∷ cs) [] = []
  passing (c ∷ cs) (n ∷ ns) = cond (test n) (c ∷ passing cs ns) (passing cs ns)

  -- this closed instance stands at this place, and its item passes
  pub record Passes (cs : List Closed) (ns : List Instance) (k : ℕ) (c : Closed) : Type 0 where
    pub item : Instance
    pub there : slice_get cs k ≡ Some c
    pub here : slice_get ns k ≡ Some item
    pub is : test item ≡ true

  passes_later : (d : Closed) (n : Instance) (cs : List Closed) (ns : List Instance) (k : ℕ) (c : Closed) → Passes cs ns k c → Passes (d ∷ cs) (n ∷ ns) (suc k) c
  passes_later d n cs ns k c p = record { item = p.item; there = p.there; here = p.here; is = p.is }

  with_first : (R : Closed → Instance → Type 0) (b : Bool) (c : Closed) (n : Instance) (cs : List Closed) (ns : List Instance) → R c n → EachWith R cs ns
      → EachWith R (cond b (c ∷ cs) cs) (cond b (n ∷ ns) ns)
  with_first R true c n cs ns one each = (one, each)
  with_first R false c n cs ns one each = each

  pub passing_with : (R : Closed → Instance → Type 0) (cs : List Closed) (ns : List Instance) → EachWith R cs ns → EachWith R (passing cs ns) (filter test ns)
  passing_with R [] [] each = tt
  passing_with R [] (n ∷ ns) each = absurd each
  passing_with R (c ∷ cs) [] each = absurd each
  passing_with R (c ∷ cs) (n ∷ ns) each = with_first R (test n) c n (passing cs ns) (filter test ns) each.0 (passing_with R cs ns each.1)

  -- where each lies in [low, high), and each before those behind it, they lie in a row
  pub passing_in_a_row : (low high : ℕ) (cs : List Closed) (ns : List Instance) → low ≤ high
      → ((k : ℕ) (c : Closed) → Passes cs ns k c → (low ≤ c.start) × (c.start ≤ c.end) × (c.end ≤ high))
      → ((k l : ℕ) (c d : Closed) → Passes cs ns k c → Passes cs ns l d → k < l → c.end ≤ d.start)
      → AreInARow low high (passing cs ns)
  passing_in_a_row low high [] ns less inside apart = less
  passing_in_a_row low high (c ∷ cs) [] less inside apart = less
  passing_in_a_row low high (c ∷ cs) (n ∷ ns) less inside apart =
      cond_both (test n) (c ∷ passing cs ns) (passing cs ns) (AreInARow low high)
      (λ is.
      let first : Passes (c ∷ cs) (n ∷ ns) zero c = record { item = n; there = refl; here = refl; is = is } in
      let lies = inside zero c first in (
        lies.0,
        lies.1,
        passing_in_a_row c.end high cs ns lies.2
            (λ k d p.
            let later = passes_later c n cs ns k d p in
            let its = inside (suc k) d later in
            (apart zero (suc k) c d first later (omega arith), its.1, its.2))
            rest,
      ))
      (λ _. passing_in_a_row low high cs ns less (λ k d p. inside (suc k) d (passes_later c n cs ns k d p)) rest)
    where
      rest : (k l : ℕ) (d e : Closed) → Passes cs ns k d → Passes cs ns l e → k < l → d.end ≤ e.start
      rest k l d e p q before = apart (suc k) (suc l) d e (passes_later c n cs ns k d p) (passes_later c n cs ns l e q) (omega arith)
