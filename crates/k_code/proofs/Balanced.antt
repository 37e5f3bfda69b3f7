-- What is known behind the first instructions of a function are their balances, and a balance is the only one.
use Rattle.std.proofs.Common.{◌≡◌, ◌≢◌, ℕ, zero, suc, ◌+◌, ◌<◌, ◌≤◌, inl, inr, List, [], ◌∷◌, length, take, replicate, Option, Some, None, Bool, true, false, nat_eq, refl, sym, ◌∙◌, subst, ap, arith}
use Rattle.std.specs.Prelude.{◌⊎◌, ◌↔◌, IsTrue, slice_get, if◌then◌else◌}
use Rattle.std.proofs.lemmas.Bool.{cases_eq, eqb-true, eq-eqb, both_ways, false_from_ne_true, false≢true}
use Rattle.std.proofs.lemmas.Option.{none-some, same_Some}
use Rattle.k_code.specs.declared.balance.Balance.{Balance}
use Rattle.k_code.specs.declared.instruction.Instr.{Instr}
use Rattle.k_code.specs.Balances.{IsBalance, IsBelow, nothing_open, left_open, is_met, goes_on, jumps_to}
use Rattle.k_code.specs.Decides.{IsKnown, IsOpen, Knows, HasBalance, Settles}
use Rattle.k_code.proofs.Known.{not_both}

-- ONE INSTRUCTION
-- no instruction up to this one jumps to the one behind it
abbrev pub NoneBefore : ℕ → List Instr → ℕ → Type 0
NoneBefore entry instrs k = (j : ℕ) (earlier : Instr) → j ≤ k → slice_get instrs j ≡ Some earlier → jumps_to earlier.act (entry + (k + 1)) ≡ false

-- what a balance has at an instruction
pub record Step (entry : ℕ) (instrs : List Instr) (before : ℕ → Balance) (k : ℕ) (i : Instr) : Type 0 where
  pub next : goes_on i.act ≡ true → before (k + 1) ≡ left_open i.act (before k)
  pub jumps : (to : ℕ) → jumps_to i.act (entry + to) ≡ true → before to ≡ before k
  pub others : goes_on i.act ≡ false → NoneBefore entry instrs k → before (k + 1) ≡ before k
  pub met : is_met i.act (before k) ≡ true

-- at each of the first k
pub record Steps (entry : ℕ) (instrs : List Instr) (k : ℕ) (before : ℕ → Balance) : Type 0 where
  pub first : before 0 ≡ nothing_open
  pub each : (j : ℕ) (i : Instr) → j < k → slice_get instrs j ≡ Some i → Step entry instrs before j i

pub balance_step : (entry : ℕ) (instrs : List Instr) (before : ℕ → Balance) (k : ℕ) (i : Instr) → IsBalance entry instrs before → slice_get instrs k ≡ Some i → Step entry instrs before k i
balance_step entry instrs before k i b is = record {
  next = b.next k i is;
  jumps = λ to e. b.jumps k i to is e;
  others = λ stops none. b.others k i is stops none;
  met = b.met k i is;
}

pub balance_steps : (entry : ℕ) (instrs : List Instr) (before : ℕ → Balance) (k : ℕ) → IsBalance entry instrs before → Steps entry instrs k before
balance_steps entry instrs before k b = record { first = b.first; each = λ j i low is. balance_step entry instrs before j i b is }

-- the first k of a list
taken : (xs : List Instr) (k j : ℕ) → j < k → slice_get (take k xs) j ≡ slice_get xs j
taken xs zero j low = absurd (omega arith)
taken [] (suc k) j low = refl
taken (x ∷ xs) (suc k) zero low = refl
taken (x ∷ xs) (suc k) (suc j) low = taken xs k j (omega arith)

taken_low : (xs : List Instr) (k j : ℕ) (i : Instr) → slice_get (take k xs) j ≡ Some i → j < k
taken_low xs zero j i e = absurd (none-some i e)
taken_low [] (suc k) j i e = absurd (none-some i e)
taken_low (x ∷ xs) (suc k) zero i e = omega arith
taken_low (x ∷ xs) (suc k) (suc j) i e = let low = taken_low xs k j i e in omega (arith, low)

pub taken_all : (xs : List Instr) → take (length xs) xs ≡ xs
taken_all [] = refl
taken_all (x ∷ xs) = ap (λ (l : List Instr). x ∷ l) (taken_all xs)

pub steps_of : (entry : ℕ) (instrs : List Instr) (k : ℕ) (before : ℕ → Balance) → IsBalance entry (take k instrs) before → Steps entry instrs k before
steps_of entry instrs k before b = record {
  first = b.first;
  each = λ j i low is. (let here : slice_get (take k instrs) j ≡ Some i = taken instrs k j low ∙ is in record {
    next = b.next j i here;
    jumps = λ to e. b.jumps j i to here e;
    others = λ stops none. b.others j i here stops (λ n x early at. none n x early (sym (taken instrs k n (omega (arith, early, low))) ∙ at));
    met = b.met j i here;
  });
}

pub balance_of : (entry : ℕ) (instrs : List Instr) (k : ℕ) (before : ℕ → Balance) → Steps entry instrs k before → IsBalance entry (take k instrs) before
balance_of entry instrs k before s = record {
  first = s.first;
  next = λ j i is. (step j i is).next;
  jumps = λ j i to is. (step j i is).jumps to;
  others = λ j i is stops none. (step j i is).others stops (λ n x early at. none n x early (taken instrs k n (let low = taken_low instrs k j i is in omega (arith, early, low)) ∙ at));
  met = λ j i is. (step j i is).met;
}
  where
    step : (j : ℕ) (i : Instr) → slice_get (take k instrs) j ≡ Some i → Step entry instrs before j i
    step j i is = let low = taken_low instrs k j i is in s.each j i low (sym (taken instrs k j low) ∙ is)

-- A FUNCTION THAT HAS WHAT IS KNOWN
abbrev pub Has : List (Option Balance) → (ℕ → Balance) → Type 0
Has list before = (t : ℕ) (b : Balance) → IsKnown list t b → before t ≡ b

abbrev value_at : Option (Option Balance) → Balance
value_at None = nothing_open
value_at (Some None) = nothing_open
value_at (Some (Some b)) = b

-- one of them
pub values : List (Option Balance) → ℕ → Balance
values list t = value_at (slice_get list t)

pub has_values : (list : List (Option Balance)) → Has list (values list)
unfolding values
has_values list t b is = ap value_at is

-- another balance
abbrev more : Balance → Balance
more b = record b { saved = b.saved + 1 }

not_more : (b : Balance) → more b ≡ b → ⊥
not_more b e = let s : b.saved + 1 ≡ b.saved = ap (λ (x : Balance). x.saved) e in omega (arith, s)

-- the same function but for one place
changed : (ℕ → Balance) → ℕ → Balance → ℕ → Balance
changed before t x j = if nat_eq j t then x else before j

changed_here : (before : ℕ → Balance) (t : ℕ) (x : Balance) → changed before t x t ≡ x
unfolding changed
changed_here before t x = rw (eq-eqb t t refl) refl

changed_else : (before : ℕ → Balance) (t : ℕ) (x : Balance) (j : ℕ) → j ≢ t → changed before t x j ≡ before j
unfolding changed
changed_else before t x j ne = rw (false_from_ne_true (nat_eq j t) (λ e. ne (eqb-true j t e))) refl

-- where nothing is known it may have any balance
changed_has : (list : List (Option Balance)) (before : ℕ → Balance) (t : ℕ) (x : Balance) → IsOpen list t → Has list before → Has list (changed before t x)
changed_has list before t x open_is has s b is =
    elim (cases_eq s t) [
      | inl same ↦ absurd (not_both list t b open_is (subst (λ n. IsKnown list n b) same is))
      | inr other ↦ changed_else before t x s other ∙ has s b is
    ]

-- where no instruction leads it may have any, too
changed_steps : (entry : ℕ) (instrs : List Instr) (k : ℕ) (before : ℕ → Balance) (t : ℕ) (x : Balance) → k < t
    → ((j : ℕ) (i : Instr) → j < k → slice_get instrs j ≡ Some i → jumps_to i.act (entry + t) ≡ false)
    → Steps entry instrs k before → Steps entry instrs k (changed before t x)
changed_steps entry instrs k before t x above none s = record {
  first = changed_else before t x 0 (λ e. omega (arith, above, e)) ∙ s.first;
  each = λ j i low is. step j i low is (s.each j i low is);
}
  where
    step : (j : ℕ) (i : Instr) → j < k → slice_get instrs j ≡ Some i → Step entry instrs before j i → Step entry instrs (changed before t x) j i
    step j i low is a =
        let here : changed before t x j ≡ before j = changed_else before t x j (λ e. omega (arith, above, low, e)) in
        let behind : changed before t x (j + 1) ≡ before (j + 1) = changed_else before t x (j + 1) (λ e. omega (arith, above, low, e)) in
        record {
          next = λ goes. behind ∙ (a.next goes ∙ ap (left_open i.act) (sym here));
          jumps = λ to e. elim (cases_eq to t) [
            | inl same ↦ absurd (both_ways (jumps_to i.act (entry + t)) (none j i low is) (subst (λ n. jumps_to i.act (entry + n) ≡ true) same e))
            | inr other ↦ changed_else before t x to other ∙ (a.jumps to e ∙ sym here)
          ];
          others = λ stops before_none. behind ∙ (a.others stops before_none ∙ sym here);
          met = ap (is_met i.act) here ∙ a.met;
        }

-- WHAT IS KNOWN
module _ (entry : ℕ) (instrs : List Instr) (k : ℕ) (list : List (Option Balance)) (knows : Knows entry instrs k list) where
  pub steps_have : (before : ℕ → Balance) → Steps entry instrs k before → Has list before
  steps_have before s = (knows.same before).0 (balance_of entry instrs k before s)

  pub has_steps : (before : ℕ → Balance) → Has list before → Steps entry instrs k before
  has_steps before h = steps_of entry instrs k before ((knows.same before).1 h)

  -- where none is known no instruction leads
  pub open_unreached : (t : ℕ) → IsOpen list t → (j : ℕ) (i : Instr) → j < k → j ≢ t → slice_get instrs j ≡ Some i → jumps_to i.act (entry + t) ≡ true → ⊥
  open_unreached t open_is j i low other is jumps =
      let v = values list in
      let x = more (v t) in
      let one : v t ≡ v j = ((has_steps v (has_values list)).each j i low is).jumps t jumps in
      let two : changed v t x t ≡ changed v t x j = ((has_steps (changed v t x) (changed_has list v t x open_is (has_values list))).each j i low is).jumps t jumps in
      not_more (v t) (sym (changed_here v t x) ∙ (two ∙ (changed_else v t x j other ∙ sym one)))

  -- where one is known behind these, some instruction leads
  pub known_reached : (t : ℕ) (c : Balance) → k < t → IsKnown list t c
      → ((j : ℕ) (i : Instr) → j < k → slice_get instrs j ≡ Some i → jumps_to i.act (entry + t) ≡ false) → ⊥
  known_reached t c above is none =
      let v = values list in
      let s = changed_steps entry instrs k v t (more c) above none (has_steps v (has_values list)) in
      not_more c (sym (changed_here v t (more c)) ∙ steps_have (changed v t (more c)) s t c is)

-- behind all instructions there is a balance
pub ends_balanced : (entry : ℕ) (instrs : List Instr) (list : List (Option Balance)) → Knows entry instrs (length instrs) list → HasBalance entry instrs
ends_balanced entry instrs list knows =
    (values list, subst (λ l. IsBalance entry l (values list)) (taken_all instrs) ((knows.same (values list)).1 (has_values list)))

pub balanced_at_last : (entry : ℕ) (instrs : List Instr) (k : ℕ) (list : List (Option Balance)) → k ≤ length instrs → length instrs ≤ k → Knows entry instrs k list → (IsTrue true ↔ HasBalance entry instrs)
balanced_at_last entry instrs k list low high knows =
    let all : k ≡ length instrs = omega (arith, low, high) in
    (λ _. ends_balanced entry instrs list (subst (λ n. Knows entry instrs n list) all knows), λ _. refl)

pub unbalanced : (entry : ℕ) (instrs : List Instr) (k : ℕ) (list : List (Option Balance)) → Settles false entry instrs k list → (IsTrue false ↔ HasBalance entry instrs)
unbalanced entry instrs k list none = (λ e. absurd (false≢true e), λ h. absurd (none h))

-- before them, at the entry nothing is open
pub entry_knows : (entry : ℕ) (instrs : List Instr) → Knows entry instrs 0 (Some nothing_open ∷ replicate (length instrs) None)
entry_knows entry instrs = record {
  long = long (length instrs);
  here = (nothing_open, refl);
  below = λ t b is. below t b is;
  same = λ before. (
    λ b t c is. has before (steps_of entry instrs 0 before b).first t c is,
    λ h. balance_of entry instrs 0 before (record { first = h 0 nothing_open refl; each = λ j i low is. absurd (omega (arith, low)) }),
  );
}
  where
    long : (n : ℕ) → length (Some nothing_open ∷ replicate n None) ≡ n + 1
    long zero = refl
    long (suc n) = let l = long n in omega (arith, l)

    none : (n t : ℕ) (b : Balance) → slice_get (replicate n None) t ≡ Some (Some b) → ⊥
    none zero t b e = none-some (Some b) e
    none (suc n) zero b e = none-some b (same_Some None (Some b) e)
    none (suc n) (suc t) b e = none n t b e

    below : (t : ℕ) (b : Balance) → slice_get (Some nothing_open ∷ replicate (length instrs) None) t ≡ Some (Some b) → IsBelow 1 b
    below zero b is =
        let e : nothing_open ≡ b = same_Some nothing_open b (same_Some (Some nothing_open) (Some b) is) in
        let zero_counts : IsBelow 1 nothing_open = (omega arith, omega arith, omega arith) in
        subst (λ x. IsBelow 1 x) e zero_counts
    below (suc t) b is = absurd (none (length instrs) t b is)

    has : (before : ℕ → Balance) → before 0 ≡ nothing_open → (t : ℕ) (c : Balance) → slice_get (Some nothing_open ∷ replicate (length instrs) None) t ≡ Some (Some c) → before t ≡ c
    has before first zero c is = first ∙ same_Some nothing_open c (same_Some (Some nothing_open) (Some c) is)
    has before first (suc t) c is = absurd (none (length instrs) t c is)

-- THERE IS ONE BALANCE
there_is : (xs : List Instr) (j : ℕ) → j < length xs → (i : Instr) × (slice_get xs j ≡ Some i)
there_is [] j low = absurd (omega arith)
there_is (x ∷ xs) zero low = (x, refl)
there_is (x ∷ xs) (suc j) low = there_is xs j (omega arith)

-- an instruction before this one jumps there
record IsReached (entry : ℕ) (instrs : List Instr) (n t : ℕ) : Type 0 where
  from : ℕ
  by : Instr
  earlier : from < n
  is : slice_get instrs from ≡ Some by
  jumps : jumps_to by.act (entry + t) ≡ true

abbrev NoneTo : ℕ → List Instr → ℕ → ℕ → Type 0
NoneTo entry instrs n t = (j : ℕ) (i : Instr) → j < n → slice_get instrs j ≡ Some i → jumps_to i.act (entry + t) ≡ false

reached_or_none : (entry : ℕ) (instrs : List Instr) (t n : ℕ) → IsReached entry instrs n t ⊎ NoneTo entry instrs n t
reached_or_none entry instrs t zero = inr (λ j i low is. absurd (omega (arith, low)))
reached_or_none entry instrs t (suc n) = by (reached_or_none entry instrs t n)
  where
    none_here : NoneTo entry instrs n t → ((i : Instr) → slice_get instrs n ≡ Some i → jumps_to i.act (entry + t) ≡ false) → NoneTo entry instrs (suc n) t
    none_here none here j i low is = elim (cases_eq j n) [
      | inl same ↦ here i (ap (λ m. slice_get instrs m) (sym same) ∙ is)
      | inr other ↦ none j i (omega (arith, low, other)) is
    ]

    at_one : NoneTo entry instrs n t → (i : Instr) → slice_get instrs n ≡ Some i → (b : Bool) → jumps_to i.act (entry + t) ≡ b → IsReached entry instrs (suc n) t ⊎ NoneTo entry instrs (suc n) t
    at_one none i is true e = inl (record { from = n; by = i; earlier = omega arith; is = is; jumps = e })
    at_one none i is false e = inr (none_here none (λ x at. subst (λ (y : Instr). jumps_to y.act (entry + t) ≡ false) (same_Some i x (sym is ∙ at)) e))

    at : NoneTo entry instrs n t → (o : Option Instr) → slice_get instrs n ≡ o → IsReached entry instrs (suc n) t ⊎ NoneTo entry instrs (suc n) t
    at none None is = inr (none_here none (λ x there. absurd (none-some x (sym is ∙ there))))
    at none (Some i) is = at_one none i is (jumps_to i.act (entry + t)) refl

    by : IsReached entry instrs n t ⊎ NoneTo entry instrs n t → IsReached entry instrs (suc n) t ⊎ NoneTo entry instrs (suc n) t
    by (inl r) = inl (record { from = r.from; by = r.by; earlier = (let e : r.from < n = r.earlier in omega arith); is = r.is; jumps = r.jumps })
    by (inr none) = at none (slice_get instrs n) refl

module _ (entry : ℕ) (instrs : List Instr) (some others : ℕ → Balance) (one : IsBalance entry instrs some) (two : IsBalance entry instrs others) where
  -- where both are the same before this instruction, they are behind it
  same_behind : (n : ℕ) (i : Instr) → slice_get instrs n ≡ Some i → ((j : ℕ) → j < n + 1 → some j ≡ others j) → some (n + 1) ≡ others (n + 1)
  same_behind n i is same = by (goes_on i.act) refl
    where
      by_reach : goes_on i.act ≡ false → IsReached entry instrs (n + 1) (n + 1) ⊎ NoneTo entry instrs (n + 1) (n + 1) → some (n + 1) ≡ others (n + 1)
      by_reach stops (inl r) = one.jumps r.from r.by (n + 1) r.is r.jumps ∙ (same r.from r.earlier ∙ sym (two.jumps r.from r.by (n + 1) r.is r.jumps))
      by_reach stops (inr none) =
          one.others n i is stops (λ j x early at. none j x (omega (arith, early)) at)
          ∙ (same n (omega arith) ∙ sym (two.others n i is stops (λ j x early at. none j x (omega (arith, early)) at)))

      by : (goes : Bool) → goes_on i.act ≡ goes → some (n + 1) ≡ others (n + 1)
      by true e = one.next n i is e ∙ (ap (left_open i.act) (same n (omega arith)) ∙ sym (two.next n i is e))
      by false e = by_reach e (reached_or_none entry instrs (n + 1) (n + 1))

  same_below : (n : ℕ) → n ≤ length instrs → (j : ℕ) → j < n → some j ≡ others j
  same_below zero most j low = absurd (omega (arith, low))
  same_below (suc zero) most j low = let at : j ≡ 0 = omega (arith, low) in subst (λ m. some m ≡ others m) (sym at) (one.first ∙ sym two.first)
  same_below (suc (suc n)) most j low =
      elim (cases_eq j (suc n)) [
        | inl at ↦ subst (λ m. some m ≡ others m) (sym at) (
            let i = there_is instrs n (omega (arith, most)) in
            subst (λ m. some m ≡ others m) (let e : n + 1 ≡ suc n = omega arith in e)
            (same_behind n i.0 i.1 (λ m early. same_below (suc n) (omega (arith, most)) m (omega (arith, early))))
            )
        | inr other ↦ same_below (suc n) (omega (arith, most)) j (omega (arith, low, other))
      ]

pub one_balance : (entry : ℕ) (instrs : List Instr) (some others : ℕ → Balance) → IsBalance entry instrs some → IsBalance entry instrs others
    → (j : ℕ) → j < length instrs → some j ≡ others j
one_balance entry instrs some others one two j low = same_below entry instrs some others one two (length instrs) (omega arith) j low
