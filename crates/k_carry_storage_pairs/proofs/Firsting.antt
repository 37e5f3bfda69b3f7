-- What is listed for the starts of instances: for each the least of the operations that are not before it.
use Rattle.std.proofs.Common.{ℕ, ◌≡◌, ◌<◌, ◌≤◌, ◌⊎◌, nat_lt, Bool, true, false, List, [], ◌∷◌, ◌++◌, length, reverse, Option, Some, None, arith, refl, sym, subst, ap, inl, inr, ◌∙◌}
use Rattle.std.specs.Prelude.{if◌then◌else◌, is_some}
use Rattle.k_num.specs.Top.{top}
use Rattle.k_carry_pairs.specs.declared.origin.Origin.{Origin}
use Rattle.k_carry_pairs.specs.Carried.{IsAmong}
use Rattle.k_carry_pairs.proofs.Lists.{among_either, among_left, among_reversed, among_right}
use Rattle.k_carry_storage_pairs.specs.Firsts.{AreBelow, OneIsBehind, added, added_if, best_of, is_one_of, is_origin, least, listed, lower, nearer}

-- the better of two
record IsNearer (start : ℕ) (best : Option Origin) (x : Origin) (next : Option Origin) : Type 0 where
  sound : (z : Origin) → next ≡ Some z → (best ≡ Some z) ⊎ ((x ≡ z) × (start ≤ z.number))
  of_best : (y : Origin) → best ≡ Some y → (z : Origin) × ((next ≡ Some z) × (z.number ≤ y.number))
  of_new : start ≤ x.number → (z : Origin) × ((next ≡ Some z) × (z.number ≤ x.number))

lower_is : (start : ℕ) (best x : Origin) → start ≤ x.number → IsNearer start (Some best) x (Some (lower best x))
lower_is start best x low = by (nat_lt x.number best.number) refl
  where
    by : (t : Bool) → nat_lt x.number best.number ≡ t → IsNearer start (Some best) x (Some (if t then x else best))
    by true test =
        let less : x.number < best.number = grind arith in
        record {
          sound = λ z is. inr (let same : x ≡ z = cc is in (same, subst (λ (y : Origin). start ≤ y.number) same low));
          of_best = λ y is. (let same : best ≡ y = cc is in let number : best.number ≡ y.number = ap (λ (b : Origin). b.number) same in (x, (refl, omega (arith, less, number))));
          of_new = λ _. (x, (refl, omega arith));
        }
    by false test =
        let less : best.number ≤ x.number = grind arith in
        record {
          sound = λ z is. inl is;
          of_best = λ y is. (let same : best ≡ y = cc is in let number : best.number ≡ y.number = ap (λ (b : Origin). b.number) same in (best, (refl, omega (arith, number))));
          of_new = λ _. (best, (refl, less));
        }

best_is : (start : ℕ) (best : Option Origin) (x : Origin) → start ≤ x.number → IsNearer start best x (best_of best x)
best_is start None x low = record {
  sound = λ z is. inr (let same : x ≡ z = cc is in (same, subst (λ (y : Origin). start ≤ y.number) same low));
  of_best = λ y is. absurd (cc is);
  of_new = λ _. (x, (refl, omega arith));
}
best_is start (Some best) x low = lower_is start best x low

nearer_is : (start : ℕ) (best : Option Origin) (x : Origin) → IsNearer start best x (nearer start best x)
nearer_is start best x = by (nat_lt x.number start) refl
  where
    by : (t : Bool) → nat_lt x.number start ≡ t → IsNearer start best x (if t then best else best_of best x)
    by true test =
        let less : x.number < start = grind arith in
        record {
          sound = λ z is. inl is;
          of_best = λ y is. (y, (is, omega arith));
          of_new = λ high. absurd (omega (arith, less, high));
        }
    by false test = (let low : start ≤ x.number = grind arith in best_is start best x low)

-- the least of all, and of one before them
pub record IsLeast (start : ℕ) (origins : List Origin) (best r : Option Origin) : Type 0 where
  pub sound : (z : Origin) → r ≡ Some z → (best ≡ Some z) ⊎ (IsAmong z origins × (start ≤ z.number))
  pub of_best : (y : Origin) → best ≡ Some y → (z : Origin) × ((r ≡ Some z) × (z.number ≤ y.number))
  pub bound : (y : Origin) → IsAmong y origins → start ≤ y.number → (z : Origin) × ((r ≡ Some z) × (z.number ≤ y.number))

pub least_is : (start : ℕ) (origins : List Origin) (best : Option Origin) → IsLeast start origins best (least start origins best)
least_is start [] best = record { sound = λ z is. inl is; of_best = λ y is. (y, (is, omega arith)); bound = λ y is. absurd is }
least_is start (x ∷ origins) best = by (nearer_is start best x) (least_is start origins (nearer start best x))
  where
    by : IsNearer start best x (nearer start best x) → IsLeast start origins (nearer start best x) (least start origins (nearer start best x))
        → IsLeast start (x ∷ origins) best (least start origins (nearer start best x))
    by near rest = record {
      sound = λ z is. elim (rest.sound z is) [
        | inl next ↦ elim (near.sound z next) [
          | inl old ↦ inl old
          | inr new ↦ inr (inl new.0, new.1)
        ]
        | inr later ↦ inr (inr later.0, later.1)
      ];
      of_best = λ y is.
          (let next = near.of_best y is in let last = rest.of_best next.0 next.1.0 in (last.0, (last.1.0, omega (arith, next.1.1, last.1.1))));
      bound = λ y is low. one y low is;
    }
      where
        one : (y : Origin) → start ≤ y.number → IsAmong y (x ∷ origins) → (z : Origin) × ((least start origins (nearer start best x) ≡ Some z) × (z.number ≤ y.number))
        one y low (inr later) = rest.bound y later low
        one y low (inl here) =
            let number : x.number ≡ y.number = ap (λ (o : Origin). o.number) here in
            let next = near.of_new (omega (arith, low, number)) in
            let last = rest.of_best next.0 next.1.0 in
            (last.0, (last.1.0, omega (arith, next.1.1, last.1.1, number)))

-- operations of one number and one place are one
origin_same : (a b : Origin) → is_origin a b ≡ true → a ≡ b
origin_same a b same =
    let number : a.number ≡ b.number = grind arith in
    let line : a.place.line ≡ b.place.line = grind arith in
    let column : a.place.column ≡ b.place.column = grind arith in
    (λ i. record { number = number i; place = record { line = line i; column = column i } })

top_among : (xs : List Origin) (x : Origin) → top xs ≡ Some x → IsAmong x xs
top_among [] x is = absurd (cc is)
top_among (y ∷ xs) x is = inl (cc is)

-- what is added
added_old : (x y : Origin) (xs : List Origin) → IsAmong y xs → IsAmong y (added x xs)
added_old x y xs is = by (is_one_of (top (reverse xs)) x)
  where
    by : (t : Bool) → IsAmong y (if t then xs else xs ++ x ∷ [])
    by true = is
    by false = among_left y xs (x ∷ []) is

added_there : (x : Origin) (xs : List Origin) → IsAmong x (added x xs)
added_there x xs = by (top (reverse xs)) refl (is_one_of (top (reverse xs)) x) refl
  where
    by : (o : Option Origin) → top (reverse xs) ≡ o → (t : Bool) → is_one_of (top (reverse xs)) x ≡ t → IsAmong x (if t then xs else xs ++ x ∷ [])
    by o last false test = among_right x xs (x ∷ []) (inl refl)
    by None last true test = absurd (let wrong : false ≡ true = sym (ap (λ (p : Option Origin). is_one_of p x) last) ∙ test in cc wrong)
    by (Some y) last true test =
        let one : is_origin y x ≡ true = sym (ap (λ (p : Option Origin). is_one_of p x) last) ∙ test in
        subst (λ (z : Origin). IsAmong z xs) (origin_same y x one) (among_reversed y xs (top_among (reverse xs) y last))

added_either : (x y : Origin) (xs : List Origin) → IsAmong y (added x xs) → IsAmong y xs ⊎ (x ≡ y)
added_either x y xs is = by (is_one_of (top (reverse xs)) x) is
  where
    by : (t : Bool) → IsAmong y (if t then xs else xs ++ x ∷ []) → IsAmong y xs ⊎ (x ≡ y)
    by true among = inl among
    by false among = elim (among_either y xs (x ∷ []) among) [
      | inl old ↦ inl old
      | inr (inl new) ↦ inr new
      | inr (inr none) ↦ absurd none
    ]

added_if_old : (o : Option Origin) (y : Origin) (xs : List Origin) → IsAmong y xs → IsAmong y (added_if o xs)
added_if_old None y xs is = is
added_if_old (Some x) y xs is = added_old x y xs is

added_if_either : (o : Option Origin) (y : Origin) (xs : List Origin) → IsAmong y (added_if o xs) → IsAmong y xs ⊎ (o ≡ Some y)
added_if_either None y xs is = inl is
added_if_either (Some x) y xs is = elim (added_either x y xs is) [
  | inl old ↦ inl old
  | inr new ↦ inr (ap (λ (z : Origin). Some z) new)
]

-- what is listed
listed_old : (starts : List ℕ) (origins firsts : List Origin) (y : Origin) → IsAmong y firsts → IsAmong y (listed starts origins firsts)
listed_old [] origins firsts y is = is
listed_old (start ∷ starts) origins firsts y is =
    listed_old starts origins (added_if (least start origins None) firsts) y (added_if_old (least start origins None) y firsts is)

pub listed_there : (starts : List ℕ) (origins firsts : List Origin) (start : ℕ) (x : Origin) → IsAmong start starts → least start origins None ≡ Some x
    → IsAmong x (listed starts origins firsts)
listed_there [] origins firsts start x among is = absurd among
listed_there (s ∷ starts) origins firsts start x (inl here) is =
    listed_old starts origins (added_if (least s origins None) firsts) x
    (subst (λ (o : Option Origin). IsAmong x (added_if o firsts)) (sym (ap (λ (n : ℕ). least n origins None) here ∙ is)) (added_there x firsts))
listed_there (s ∷ starts) origins firsts start x (inr later) is = listed_there starts origins (added_if (least s origins None) firsts) start x later is

pub listed_either : (starts : List ℕ) (origins firsts : List Origin) (y : Origin) → IsAmong y (listed starts origins firsts)
    → IsAmong y firsts ⊎ ((start : ℕ) × (IsAmong start starts × (least start origins None ≡ Some y)))
listed_either [] origins firsts y is = inl is
listed_either (s ∷ starts) origins firsts y is = elim (listed_either starts origins (added_if (least s origins None) firsts) y is) [
  | inl first ↦ elim (added_if_either (least s origins None) y firsts first) [
    | inl old ↦ inl old
    | inr new ↦ inr (s, (inl refl, new))
  ]
  | inr later ↦ inr (later.0, (inr later.1.0, later.1.1))
]

-- a start that is no higher than the highest so far, or left
pub higher_on : (start high next more : ℕ) (rest later : List ℕ) → rest ≡ next ∷ later → high ≤ more → next ≤ more → (start ≤ high) ⊎ IsAmong start rest
    → (start ≤ more) ⊎ IsAmong start later
higher_on start high next more rest later is one two (inl low) = inl (omega (arith, low, one))
higher_on start high next more rest later is one two (inr left) = by (subst (λ (all : List ℕ). IsAmong start all) is left)
  where
    by : IsAmong start (next ∷ later) → (start ≤ more) ⊎ IsAmong start later
    by (inl here) = inl (omega (arith, here, two))
    by (inr behind) = inr behind

pub none_left : (start high : ℕ) (rest : List ℕ) → length rest ≡ 0 → (start ≤ high) ⊎ IsAmong start rest → start ≤ high
none_left start high rest none (inl low) = low
none_left start high [] none (inr left) = absurd left
none_left start high (next ∷ rest) none (inr left) = absurd (omega (arith, none))

-- one that is kept is before no start
pub one_behind : (starts : List ℕ) (origins list : List Origin) (high : ℕ) (r : Option Origin) → list ≡ origins → AreBelow starts high → r ≡ least high list None
    → is_some r ≡ true → OneIsBehind starts origins
one_behind starts origins list high None same below is some = absurd (cc some)
one_behind starts origins list high (Some x) same below is some =
    by (least_of.sound x (sym is))
  where
    least_of : IsLeast high list None (least high list None)
    least_of = least_is high list None

    by : (None ≡ Some x) ⊎ (IsAmong x list × (high ≤ x.number)) → OneIsBehind starts origins
    by (inl none) = absurd (cc none)
    by (inr there) = (x, (subst (λ (all : List Origin). IsAmong x all) same there.0, λ start among. (let low : start ≤ high = below start among in omega (arith, low, there.1))))
