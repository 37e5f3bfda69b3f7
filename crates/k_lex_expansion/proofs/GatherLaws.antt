-- A call in a list and in the source behind it.
use Rattle.std.proofs.Common.{◌≡◌, ℕ, zero, suc, ◌+◌, ◌-◌, ◌≤◌, List, [], ◌∷◌, ◌++◌, Option, Some, None, Ok, length, map, take, drop, ap, sym, subst, ◌∙◌, refl, arith}
use Rattle.k_lex_expansion.specs.declared.tokens.Spelled.{Spelled}
use Rattle.k_lex_expansion.specs.declared.tokens.Listed.{Listed}
use Rattle.k_lex_expansion.specs.declared.calls.Gathering.{Gathering}
use Rattle.k_lex_expansion.specs.declared.calls.Closed.{Closed}
use Rattle.k_lex_expansion.specs.Listing.{unhidden}
use Rattle.k_lex_expansion.specs.Gathering.{begun, Whole, all_of, call_with, GathersList, GathersSource, IsClosed}

some_none : {P : Type 0} (x : Whole) → ◌≡◌ {A = Option Whole} None (Some x) → P
some_none x is = absurd (cc is)

nothing_left : (n : ℕ) (ts : List Listed) → length ts ≤ n → [] ≡ drop n ts
nothing_left n [] le = sym (drop_nil n)
  where
    drop_nil : (k : ℕ) → ◌≡◌ {A = List Listed} (drop k []) []
    drop_nil zero = refl
    drop_nil (suc k) = refl
nothing_left zero (t ∷ ts) le = absurd (omega (arith, le))
nothing_left (suc n) (t ∷ ts) le = nothing_left n ts (omega (arith, le))

-- the call ends within the list
pub in_list : (c : Closed) (old : List Listed) (source : List Spelled) (left : List Listed) (hidden : List (List ℕ)) (new : Gathering)
    → ((behind : List Listed) → call_with 0 begun (drop 1 old ++ behind) ≡ Some (record { arguments = all_of new; hidden = hidden; size = length (drop 1 old) - length left }))
    → left ≡ drop (length (drop 1 old) - length left) (drop 1 old)
    → c.arguments ≡ all_of new → c.hidden ≡ hidden → c.taken ≡ 1 - length old → IsClosed c old source left
in_list c [] source left hidden new call left_is args hides taken = some_none (record { arguments = all_of new; hidden = hidden; size = 0 - length left }) (call [])
in_list c (u ∷ us) source left hidden new call left_is args hides taken = record {
  size = length us - length left;
  call = call (map unhidden source)
      ∙ ap (λ (a : List (List Listed)). Some (record { arguments = a; hidden = hidden; size = length us - length left })) (sym args)
      ∙ ap (λ (h : List (List ℕ)). Some (record { arguments = c.arguments; hidden = h; size = length us - length left })) (sym hides);
  list = left_is;
  taken = taken ∙ omega arith;
  within = omega (arith, taken);
}

-- it ends within the source
pub in_source : (c : Closed) (old : List Listed) (source : List Spelled) (first k : ℕ) (between new : Gathering)
    → first ≡ 1 - length old → 1 ≤ length old + length source
    → ((behind : List Listed) → call_with 0 begun (drop 1 old ++ behind) ≡ call_with (length (drop 1 old)) between behind)
    → ((n : ℕ) → call_with n between (map unhidden (drop first source)) ≡ Some (record { arguments = all_of new; hidden = []; size = n + k }))
    → k ≤ length (drop first source)
    → c.arguments ≡ all_of new → c.hidden ≡ [] → c.taken ≡ first + k → IsClosed c old source []
in_source c [] [] first k between new first_is some list call within args hides taken = absurd (omega (arith, some))
in_source c [] (s ∷ source) first k between new first_is some list call within args hides taken =
    let zero_plus : 0 + k ≡ k = omega arith in
    let call_one : (n : ℕ) → call_with n between (map unhidden source) ≡ Some (record { arguments = all_of new; hidden = []; size = n + k }) =
    λ n. subst (λ i. call_with n between (map unhidden (drop i (s ∷ source))) ≡ Some (record { arguments = all_of new; hidden = []; size = n + k })) first_is (call n) in
    let within_one : k ≤ length source = subst (λ i. k ≤ length (drop i (s ∷ source))) first_is within in
    record {
      size = k;
      call = list (map unhidden source) ∙ call_one 0
          ∙ ap (λ (a : List (List Listed)). Some (record { arguments = a; hidden = []; size = 0 + k })) (sym args)
          ∙ ap (λ (h : List (List ℕ)). Some (record { arguments = c.arguments; hidden = h; size = 0 + k })) (sym hides)
          ∙ ap (λ (n : ℕ). Some (record { arguments = c.arguments; hidden = c.hidden; size = n })) zero_plus;
      list = nothing_left (suc k) [] (omega arith);
      taken = taken ∙ omega (arith, first_is);
      within = omega (arith, taken, first_is, within_one);
    }
in_source c (u ∷ us) source first k between new first_is some list call within args hides taken =
    let first_none : first ≡ 0 = first_is ∙ omega arith in
    let call_one : (n : ℕ) → call_with n between (map unhidden source) ≡ Some (record { arguments = all_of new; hidden = []; size = n + k }) =
    λ n. subst (λ i. call_with n between (map unhidden (drop i source)) ≡ Some (record { arguments = all_of new; hidden = []; size = n + k })) first_none (call n) in
    let within_one : k ≤ length source = subst (λ i. k ≤ length (drop i source)) first_none within in
    record {
      size = length us + k;
      call = list (map unhidden source) ∙ call_one (length us)
          ∙ ap (λ (a : List (List Listed)). Some (record { arguments = a; hidden = []; size = length us + k })) (sym args)
          ∙ ap (λ (h : List (List ℕ)). Some (record { arguments = c.arguments; hidden = h; size = length us + k })) (sym hides);
      list = nothing_left (suc (length us + k)) (u ∷ us) (omega arith);
      taken = taken ∙ omega (arith, first_none);
      within = omega (arith, taken, first_none, within_one);
    }

-- it does not end
pub not_closed : (old : List Listed) (source : List Spelled) (first : ℕ) (between : Gathering)
    → first ≡ 1 - length old → 1 ≤ length old + length source
    → ((behind : List Listed) → call_with 0 begun (drop 1 old ++ behind) ≡ call_with (length (drop 1 old)) between behind)
    → ((n : ℕ) → call_with n between (map unhidden (drop first source)) ≡ None)
    → call_with 0 begun (drop 1 (old ++ map unhidden source)) ≡ None
not_closed [] [] first between first_is some list call = absurd (omega (arith, some))
not_closed [] (s ∷ source) first between first_is some list call = list (map unhidden source) ∙ subst (λ i. call_with 0 between (map unhidden (drop i (s ∷ source))) ≡ None) first_is (call 0)
not_closed (u ∷ us) source first between first_is some list call =
    let first_none : first ≡ 0 = first_is ∙ omega arith in
    list (map unhidden source) ∙ subst (λ i. call_with (length us) between (map unhidden (drop i source)) ≡ None) first_none (call (length us))

take_long : (n : ℕ) (xs : List Spelled) → length xs ≤ n → take n xs ≡ xs
take_long zero [] le = refl
take_long zero (x ∷ xs) le = absurd (omega (arith, le))
take_long (suc n) [] le = refl
take_long (suc n) (x ∷ xs) le = ap (λ t. x ∷ t) (take_long n xs (omega (arith, le)))

all_taken : (first : ℕ) (source : List Spelled) → take (length source - first) (drop first source) ≡ drop first source
all_taken first source = take_long (length source - first) (drop first source) (short first source)
  where
    short : (n : ℕ) (xs : List Spelled) → length (drop n xs) ≤ length xs - n
    short zero xs = omega arith
    short (suc n) [] = omega arith
    short (suc n) (x ∷ xs) = omega (arith, short n xs)

-- the same, by what the parts answer
pub by_source : (c : Closed) (old ts : List Listed) (source : List Spelled) (left : List Listed) (first k : ℕ) (start between new : Gathering) (hidden : List (List ℕ))
    → first ≡ 1 - length old → 1 ≤ length old + length source → ts ≡ drop 1 old → start ≡ begun
    → GathersList (Ok None) ts start left between → GathersSource (Ok (Some k)) (take (length source - first) (drop first source)) between new
    → c.arguments ≡ all_of new → c.hidden ≡ hidden → hidden ≡ [] → c.taken ≡ first + k → IsClosed c old source left
by_source c old ts source left first k start between new hidden first_is some ts_is start_is list call args hides none taken =
    let list_by : (behind : List Listed) → call_with 0 begun (drop 1 old ++ behind) ≡ call_with (length (drop 1 old)) between behind =
    λ behind. subst (λ (xs : List Listed). call_with 0 begun (xs ++ behind) ≡ call_with (length xs) between behind) ts_is
    (subst (λ (g : Gathering). call_with 0 g (ts ++ behind) ≡ call_with (length ts) between behind) start_is (list.1 behind)) in
    let call_by : GathersSource (Ok (Some k)) (drop first source) between new = subst (λ (xs : List Spelled). GathersSource (Ok (Some k)) xs between new) (all_taken first source) call in
    subst (λ (xs : List Listed). IsClosed c old source xs) (sym list.0)
    (in_source c old source first k between new first_is some list_by call_by.0 call_by.1 args (hides ∙ none) taken)
