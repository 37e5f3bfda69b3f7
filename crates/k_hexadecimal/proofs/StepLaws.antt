-- The parts of a constant, one behind the other.
use Rattle.std.specs.Prelude.{◌≡◌, ◌+◌, ◌-◌, ◌==◌, ◌||◌, ℕ, Bool, true, false, List, ◌∷◌, [], length, if◌then◌else◌, Option, None}
use Rattle.std.proofs.Common.{refl, ap, sym, ◌∙◌, arith}
use Rattle.std.proofs.lemmas.Bool.{eqb-true, eqb-false}
use lib.Dec.{eqb}
use Rattle.k_real.specs.declared.precision.Precision.{Precision}
use Rattle.k_hexadecimal.specs.Hexadecimal.{number, many, behind, with_power, with_exponent, with_rest, with_fraction, behind_prefix, behind_zero, hexadecimal}
use Rattle.k_hexadecimal.proofs.HexadecimalLaws.{all_counted}

pub yes : (a k : ℕ) → a ≡ k → (a == k) ≡ true
yes a k h = go (eqb a k) refl
  where
    go : (c : Bool) → eqb a k ≡ c → c ≡ true
    go true e = refl
    go false e = absurd (eqb-false a k e h)

pub not_so : (a k : ℕ) → (a ≡ k → ⊥) → (a == k) ≡ false
not_so a k h = go (eqb a k) refl
  where
    go : (c : Bool) → eqb a k ≡ c → c ≡ false
    go true e = absurd (h (eqb-true a k e))
    go false e = refl

-- ---- the exponent

pub exponent_none : (p : Precision) (m n : ℕ) (text : List ℕ) → length text ≡ 0 → None ≡ with_exponent p m n text
exponent_none p m n [] h = refl
exponent_none p m n (x ∷ xs) h = absurd (omega (arith, h))

pub exponent_minus : (p : Precision) (m n b : ℕ) (text later : List ℕ) (r : Option ℕ) → text ≡ b ∷ later → b ≡ 45 → r ≡ with_power p m n true later → r ≡ with_exponent p m n text
exponent_minus p m n b text later r is h e =
    e ∙ sym (ap (λ c. if c then with_power p m n true later else (if b == 43 then with_power p m n false later else with_power p m n false (b ∷ later))) (yes b 45 h)) ∙ sym (ap (with_exponent p m n) is)

pub exponent_plus : (p : Precision) (m n b : ℕ) (text later : List ℕ) (r : Option ℕ) → text ≡ b ∷ later → b ≡ 43 → r ≡ with_power p m n false later → r ≡ with_exponent p m n text
exponent_plus p m n b text later r is h e =
    e ∙ sym (ap (λ c. if c then with_power p m n false later else with_power p m n false (b ∷ later)) (yes b 43 h))
    ∙ sym (ap (λ c. if c then with_power p m n true later else (if b == 43 then with_power p m n false later else with_power p m n false (b ∷ later))) (not_so b 45 (λ k. absurd (omega (arith, h, k)))))
    ∙ sym (ap (with_exponent p m n) is)

pub exponent_plain : (p : Precision) (m n b : ℕ) (text later : List ℕ) (r : Option ℕ) → text ≡ b ∷ later → (b ≡ 45 → ⊥) → (b ≡ 43 → ⊥) → r ≡ with_power p m n false text → r ≡ with_exponent p m n text
exponent_plain p m n b text later r is h k e =
    e ∙ ap (with_power p m n false) is ∙ sym (ap (λ c. if c then with_power p m n false later else with_power p m n false (b ∷ later)) (not_so b 43 k))
    ∙ sym (ap (λ c. if c then with_power p m n true later else (if b == 43 then with_power p m n false later else with_power p m n false (b ∷ later))) (not_so b 45 h))
    ∙ sym (ap (with_exponent p m n) is)

-- ---- what stands behind the digits

pub rest_none : (p : Precision) (m d n : ℕ) (text : List ℕ) → length text ≡ 0 → None ≡ with_rest p m d n text
rest_none p m d n [] h = refl
rest_none p m d n (x ∷ xs) h = absurd (omega (arith, h))

pub rest_empty : (p : Precision) (m d n b : ℕ) (text later : List ℕ) → text ≡ b ∷ later → d ≡ 0 → None ≡ with_rest p m d n text
rest_empty p m d n b text later is h = sym (ap (with_rest p m d n) is ∙ ap (λ c. if c then None else (if b == 112 || b == 80 then with_exponent p m n later else None)) (yes d 0 h))

pub rest_power : (p : Precision) (m d n b : ℕ) (text later : List ℕ) (r : Option ℕ) (c : Bool) → text ≡ b ∷ later → (d ≡ 0 → ⊥) → c ≡ (b == 112 || b == 80) → c ≡ true → r ≡ with_exponent p m n later → r ≡ with_rest p m d n text
rest_power p m d n b text later r c is h power t e =
    e
    ∙ sym (ap (with_rest p m d n) is ∙ ap (λ c. if c then None else (if b == 112 || b == 80 then with_exponent p m n later else None)) (not_so d 0 h)
    ∙ ap (λ c. if c then with_exponent p m n later else None) (sym power ∙ t))

pub rest_other : (p : Precision) (m d n b : ℕ) (text later : List ℕ) (c : Bool) → text ≡ b ∷ later → (d ≡ 0 → ⊥) → c ≡ (b == 112 || b == 80) → c ≡ false → None ≡ with_rest p m d n text
rest_other p m d n b text later c is h power t =
    sym (ap (with_rest p m d n) is ∙ ap (λ c. if c then None else (if b == 112 || b == 80 then with_exponent p m n later else None)) (not_so d 0 h)
    ∙ ap (λ c. if c then with_exponent p m n later else None) (sym power ∙ t))

-- ---- the point

pub counted : (text rest : List ℕ) (n : ℕ) → rest ≡ behind text → n ≡ length text - length rest → n ≡ many text
counted text rest n is at = let sum = all_counted text in let same : length rest ≡ length (behind text) = ap length is in omega (arith, sum, same, at)

pub fraction_none : (p : Precision) (m d : ℕ) (text : List ℕ) → length text ≡ 0 → None ≡ with_fraction p m d text
fraction_none p m d [] h = refl
fraction_none p m d (x ∷ xs) h = absurd (omega (arith, h))

pub fraction_point : (p : Precision) (m d b n : ℕ) (text later rest : List ℕ) (r : Option ℕ) → text ≡ b ∷ later → b ≡ 46 → rest ≡ behind later → n ≡ length later - length rest → r ≡ with_rest p (number m later) (d + n) n rest
    → r ≡ with_fraction p m d text
fraction_point p m d b n text later rest r is h stays at e =
    e ∙ ap (λ w. with_rest p (number m later) (d + w) w rest) (counted later rest n stays at) ∙ ap (with_rest p (number m later) (d + many later) (many later)) stays
    ∙ sym (ap (with_fraction p m d) is ∙ ap (λ c. if c then with_rest p (number m later) (d + many later) (many later) (behind later) else with_rest p m d 0 (b ∷ later)) (yes b 46 h))

pub fraction_whole : (p : Precision) (m d b : ℕ) (text later : List ℕ) (r : Option ℕ) → text ≡ b ∷ later → (b ≡ 46 → ⊥) → r ≡ with_rest p m d 0 text → r ≡ with_fraction p m d text
fraction_whole p m d b text later r is h e =
    e ∙ ap (with_rest p m d 0) is
    ∙ sym (ap (with_fraction p m d) is ∙ ap (λ c. if c then with_rest p (number m later) (d + many later) (many later) (behind later) else with_rest p m d 0 (b ∷ later)) (not_so b 46 h))

-- ---- the prefix

pub prefix_is : (p : Precision) (n : ℕ) (text rest : List ℕ) (r : Option ℕ) → rest ≡ behind text → n ≡ length text - length rest → r ≡ with_fraction p (number 0 text) n rest → r ≡ behind_prefix p text
prefix_is p n text rest r stays at e = e ∙ ap (λ w. with_fraction p (number 0 text) w rest) (counted text rest n stays at) ∙ ap (with_fraction p (number 0 text) (many text)) stays

pub zero_none : (p : Precision) (text : List ℕ) → length text ≡ 0 → None ≡ behind_zero p text
zero_none p [] h = refl
zero_none p (x ∷ xs) h = absurd (omega (arith, h))

pub zero_some : (p : Precision) (b : ℕ) (text later : List ℕ) (r : Option ℕ) (c : Bool) → text ≡ b ∷ later → c ≡ (b == 120 || b == 88) → r ≡ (if c then behind_prefix p later else None) → r ≡ behind_zero p text
zero_some p b text later r c is prefix e = e ∙ ap (λ c. if c then behind_prefix p later else None) prefix ∙ sym (ap (behind_zero p) is)

pub text_none : (p : Precision) (text : List ℕ) → length text ≡ 0 → None ≡ hexadecimal p text
text_none p [] h = refl
text_none p (x ∷ xs) h = absurd (omega (arith, h))

pub text_zero : (p : Precision) (b : ℕ) (text later : List ℕ) (r : Option ℕ) → text ≡ b ∷ later → b ≡ 48 → r ≡ behind_zero p later → r ≡ hexadecimal p text
text_zero p b text later r is h e = e ∙ sym (ap (hexadecimal p) is ∙ ap (λ c. if c then behind_zero p later else None) (yes b 48 h))

pub text_other : (p : Precision) (b : ℕ) (text later : List ℕ) → text ≡ b ∷ later → (b ≡ 48 → ⊥) → None ≡ hexadecimal p text
text_other p b text later is h = sym (ap (hexadecimal p) is ∙ ap (λ c. if c then behind_zero p later else None) (not_so b 48 h))
