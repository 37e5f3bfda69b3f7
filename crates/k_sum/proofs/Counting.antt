-- The map of counts and its list.
use Rattle.std.proofs.Common.{◌≡◌, ℕ, ℤ, ◌+◌, Bool, true, false, cond, List, [], ◌∷◌, unwrap_or, map, refl, sym, ap, ◌∙◌, arith, Ordering, int_cmp, int_lt, if◌then◌else◌}
use Rattle.std.specs.Ordering.{match_ordering, is_eq}
use Rattle.std.specs.declared.cmp.Ordering.TheVariants.{Less, Equal, Greater}
use Rattle.std.specs.BTreeMap.{insert_entry, is_at}
use Rattle.std.specs.Map.{lookup, keys_of}
use Rattle.std.specs.Cmp.{int_cmp_total}
use Rattle.std.specs.List.Sorted.{IsStrictlySortedBy}
use Rattle.std.proofs.lemmas.Map.{lookup-none}
use Rattle.std.proofs.lemmas.Map.Entries.{lookup_head, lookup_tail, none_below_head}
use Rattle.std.proofs.lemmas.Map.Keys.{sorted_tail}
use Rattle.k_sum.specs.Exits.{counted, exit_of, runs_of}
use Rattle.k_sum.specs.declared.exits.Exit.{Exit}

pub cmp-less : (n m : ℤ) → int_lt n m ≡ true → int_cmp n m ≡ Less
cmp-less n m less = ap (λ b. cond b Less (cond (int_lt m n) Greater Equal)) less

pub cmp-more : (n m : ℤ) → int_lt n m ≡ false → int_lt m n ≡ true → int_cmp n m ≡ Greater
cmp-more n m unless more = ap (λ b. cond b Less (cond (int_lt m n) Greater Equal)) unless ∙ ap (λ b. cond b Greater Equal) more

pub cmp-same : (n m : ℤ) → int_lt n m ≡ false → int_lt m n ≡ false → int_cmp n m ≡ Equal
cmp-same n m one other = ap (λ b. cond b Less (cond (int_lt m n) Greater Equal)) one ∙ ap (λ b. cond b Greater Equal) other

-- the test for a value
abbrev pub is_key : ℤ → ℤ → Bool
is_key n = is_at (int_cmp n)

-- how many runs the map holds for a value
abbrev pub held : ℤ → List (ℤ × ℕ) → ℕ
held n pairs = unwrap_or (lookup (is_key n) pairs) 0

-- one of three, by two tests
abbrev three : {A : Type 0} → Bool → Bool → A → A → A → A
three one other x y z = if one then x else (if other then y else z)

module _ (n : ℤ) (e : ℤ × ℕ) (pairs : List (ℤ × ℕ)) where
  held-before : IsStrictlySortedBy int_cmp (keys_of (e ∷ pairs)) → int_lt n e.0 ≡ true → held n (e ∷ pairs) ≡ 0
  held-before sorted less =
      ap (λ o. unwrap_or o 0) (lookup-none (is_key n) (e ∷ pairs) (none_below_head int_cmp_total n e pairs sorted (cmp-less n e.0 less)))

  held-behind : int_lt n e.0 ≡ false → int_lt e.0 n ≡ true → held n (e ∷ pairs) ≡ held n pairs
  held-behind unless more = ap (λ o. unwrap_or o 0) (lookup_tail (is_key n) e pairs (ap is_eq (cmp-more n e.0 unless more)))

  held-here : int_lt n e.0 ≡ false → int_lt e.0 n ≡ false → held n (e ∷ pairs) ≡ e.1
  held-here one other = ap (λ o. unwrap_or o 0) (lookup_head (is_key n) e pairs (ap is_eq (cmp-same n e.0 one other)))

  abbrev told : Bool → Bool → ℕ
  told one other = three one other 0 (runs_of n (map exit_of pairs)) e.1

  held_by : IsStrictlySortedBy int_cmp (keys_of (e ∷ pairs)) → held n pairs ≡ runs_of n (map exit_of pairs)
      → (one other : Bool) → int_lt n e.0 ≡ one → int_lt e.0 n ≡ other → held n (e ∷ pairs) ≡ told (int_lt n e.0) (int_lt e.0 n)
  held_by sorted rest true other less _ = held-before sorted less ∙ sym (ap (λ b. told b (int_lt e.0 n)) less)
  held_by sorted rest false true unless more =
      held-behind unless more ∙ rest ∙ sym (ap (λ b. told b (int_lt e.0 n)) unless ∙ ap (told false) more)
  held_by sorted rest false false one other = held-here one other ∙ sym (ap (λ b. told b (int_lt e.0 n)) one ∙ ap (told false) other)

-- what the map holds for a value is how many runs ended with it
pub held_is : (n : ℤ) (pairs : List (ℤ × ℕ)) → IsStrictlySortedBy int_cmp (keys_of pairs) → held n pairs ≡ runs_of n (map exit_of pairs)
held_is n [] sorted = refl
held_is n (e ∷ pairs) sorted =
    held_by n e pairs sorted (held_is n pairs (sorted_tail int_cmp e.0 (keys_of pairs) sorted)) (int_lt n e.0) (int_lt e.0 n) refl refl

module _ (n : ℤ) (count : ℕ) (e : ℤ × ℕ) (pairs : List (ℤ × ℕ)) where
  abbrev put : Ordering → ℕ → List Exit
  put o v = map exit_of (match_ordering o ((n, v) ∷ e ∷ pairs) ((e.0, v) ∷ pairs) (e ∷ insert_entry int_cmp pairs n v))

  abbrev shown : Bool → Bool → List Exit
  shown one other =
      three one other (exit_of (n, count) ∷ exit_of e ∷ map exit_of pairs) (exit_of e ∷ counted n count (map exit_of pairs)) (exit_of (e.0, count + e.1) ∷ map exit_of pairs)

  counted_by : IsStrictlySortedBy int_cmp (keys_of (e ∷ pairs))
      → map exit_of (insert_entry int_cmp pairs n (count + held n pairs)) ≡ counted n count (map exit_of pairs)
      → (one other : Bool) → int_lt n e.0 ≡ one → int_lt e.0 n ≡ other
      → put (int_cmp n e.0) (count + held n (e ∷ pairs)) ≡ shown (int_lt n e.0) (int_lt e.0 n)
  counted_by sorted rest true other less _ =
      let none : count + 0 ≡ count = omega arith in
      ap (λ o. put o (count + held n (e ∷ pairs))) (cmp-less n e.0 less)
      ∙ ap (λ m. exit_of (n, m) ∷ exit_of e ∷ map exit_of pairs) (ap (λ m. count + m) (held-before n e pairs sorted less) ∙ none)
      ∙ sym (ap (λ b. shown b (int_lt e.0 n)) less)
  counted_by sorted rest false true unless more =
      ap (λ o. put o (count + held n (e ∷ pairs))) (cmp-more n e.0 unless more)
      ∙ ap (λ m. exit_of e ∷ map exit_of (insert_entry int_cmp pairs n (count + m))) (held-behind n e pairs unless more)
      ∙ ap (λ l. exit_of e ∷ l) rest
      ∙ sym (ap (λ b. shown b (int_lt e.0 n)) unless ∙ ap (shown false) more)
  counted_by sorted rest false false one other =
      ap (λ o. put o (count + held n (e ∷ pairs))) (cmp-same n e.0 one other)
      ∙ ap (λ m. exit_of (e.0, count + m) ∷ map exit_of pairs) (held-here n e pairs one other)
      ∙ sym (ap (λ b. shown b (int_lt e.0 n)) one ∙ ap (shown false) other)

-- the map with a count raised has the list with more runs
pub counted_is : (n : ℤ) (count : ℕ) (pairs : List (ℤ × ℕ)) → IsStrictlySortedBy int_cmp (keys_of pairs)
    → map exit_of (insert_entry int_cmp pairs n (count + held n pairs)) ≡ counted n count (map exit_of pairs)
counted_is n count [] sorted = let none : count + 0 ≡ count = omega arith in ap (λ m. exit_of (n, m) ∷ []) none
counted_is n count (e ∷ pairs) sorted =
    counted_by n count e pairs sorted (counted_is n count pairs (sorted_tail int_cmp e.0 (keys_of pairs) sorted)) (int_lt n e.0) (int_lt e.0 n) refl refl
