-- The longest front of a text that passes a test.
use Rattle.std.proofs.Common.{◌≡◌, ℕ, zero, suc, ◌+◌, ◌<◌, ◌≤◌, Bool, true, false, not, ◌&&◌, if◌then◌else◌, eqb, leb, List, [], ◌∷◌, Option, Some, None, length, take, refl, sym, ap, ◌∙◌, inl, inr, arith}
use Rattle.std.proofs.lemmas.Bool.{cases_eq, le-leb, lt-leb}
use Rattle.std.proofs.lemmas.Bool.Decides.{nat_tests}
use Rattle.k_lex_pieces.specs.Bytes.{every, span, same}
use Rattle.k_lex_pieces.specs.Pieces.{longest, closes, ends_comment, closes_header, goes_on, number_goes_on}
use Rattle.k_lex_pieces.specs.Scans.{close_at, comment_at, header_at, number_span}

-- n passes, and no longer front of at most k bytes does
pub longest_is : (passes : List ℕ → Bool) (text : List ℕ) (n k : ℕ) → n ≤ k → (1 ≤ n → passes (take n text) ≡ true) → ((m : ℕ) → n < m → m ≤ k → passes (take m text) ≡ false) → longest passes text k ≡ n
longest_is passes text n zero le passing failing = omega arith
longest_is passes text n (suc k) le passing failing = elim (cases_eq n (suc k)) [
  | inl e ↦
      let holds : passes (take (suc k) text) ≡ true = ap (λ j. passes (take j text)) (sym e) ∙ passing (omega arith) in
      ap (λ b. if◌then◌else◌ b (suc k) (longest passes text k)) holds ∙ sym e
  | inr d ↦
      let fails : passes (take (suc k) text) ≡ false = failing (suc k) (omega arith) (omega arith) in
      ap (λ b. if◌then◌else◌ b (suc k) (longest passes text k)) fails
      ∙ longest_is passes text n k (omega arith) passing (λ m above below. failing m above (omega arith))
]

-- Fronts pass up to a length, and no longer ones.
pub longest_up_to : (passes : List ℕ → Bool) (b : ℕ) (bs : List ℕ) (n : ℕ) → n ≤ length bs → ((m : ℕ) → m ≤ length bs → passes (b ∷ take m bs) ≡ leb m n) → longest passes (b ∷ bs) (suc (length bs)) ≡ suc n
longest_up_to passes b bs n le same_as =
    longest_is passes (b ∷ bs) (suc n) (suc (length bs)) (omega arith) (λ _. same_as n le ∙ le-leb n n (omega arith)) above
  where
    above : (m : ℕ) → suc n < m → m ≤ suc (length bs) → passes (take m (b ∷ bs)) ≡ false
    above zero lt _ = absurd (omega arith)
    above (suc m) lt le' = same_as m (omega arith) ∙ lt-leb m n (omega arith)

-- The front of one length passes, and no longer one.
pub longest_exact : (passes : List ℕ → Bool) (b : ℕ) (bs : List ℕ) (n : ℕ) → n ≤ length bs → passes (b ∷ take n bs) ≡ true → ((m : ℕ) → n < m → m ≤ length bs → passes (b ∷ take m bs) ≡ false) → longest passes (b ∷ bs) (suc (length bs)) ≡ suc n
longest_exact passes b bs n le holds fails =
    longest_is passes (b ∷ bs) (suc n) (suc (length bs)) (omega arith) (λ _. holds) above
  where
    above : (m : ℕ) → suc n < m → m ≤ suc (length bs) → passes (take m (b ∷ bs)) ≡ false
    above zero lt _ = absurd (omega arith)
    above (suc m) lt le' = fails m (omega arith) (omega arith)

-- Two tests that agree on fronts have one longest front.
pub longest_same : (f g : List ℕ → Bool) (text : List ℕ) (k : ℕ) → ((m : ℕ) → f (take m text) ≡ g (take m text)) → longest f text k ≡ longest g text k
longest_same f g text zero e = refl
longest_same f g text (suc k) e =
    ap (λ v. if◌then◌else◌ v (suc k) (longest f text k)) (e (suc k))
    ∙ ap (λ n. if◌then◌else◌ (g (take (suc k) text)) (suc k) n) (longest_same f g text k e)

-- No front passes.
pub longest_none : (passes : List ℕ → Bool) (b : ℕ) (bs : List ℕ) → ((m : ℕ) → m ≤ length bs → passes (b ∷ take m bs) ≡ false) → longest passes (b ∷ bs) (suc (length bs)) ≡ 0
longest_none passes b bs fails = longest_is passes (b ∷ bs) 0 (suc (length bs)) (omega arith) (λ h. absurd (omega arith)) above
  where
    above : (m : ℕ) → 0 < m → m ≤ suc (length bs) → passes (take m (b ∷ bs)) ≡ false
    above zero lt _ = absurd (omega arith)
    above (suc m) lt le = fails m (omega arith)

-- No front above a length passes.
pub longest_cut : (passes : List ℕ → Bool) (text : List ℕ) (n k : ℕ) → n ≤ k → ((m : ℕ) → n < m → m ≤ k → passes (take m text) ≡ false) → longest passes text k ≡ longest passes text n
longest_cut passes text n zero le failing = ap (longest passes text) (let e : 0 ≡ n = omega arith in e)
longest_cut passes text n (suc k) le failing = elim (cases_eq n (suc k)) [
  | inl e ↦ ap (longest passes text) (sym e)
  | inr d ↦
      let fails : passes (take (suc k) text) ≡ false = failing (suc k) (omega arith) (omega arith) in
      ap (λ b. if◌then◌else◌ b (suc k) (longest passes text k)) fails
      ∙ longest_cut passes text n k (omega arith) (λ m above below. failing m above (omega arith))
]

-- ---- fronts of what goes on

-- a front is empty exactly where its length is 0
pub take_nil : (m : ℕ) (bs : List ℕ) → m ≤ length bs → same (take m bs) [] ≡ eqb m 0
take_nil zero bs le = refl
take_nil (suc m) [] le = absurd (omega arith)
take_nil (suc m) (b ∷ bs) le = grind (arith, nat_tests)

pub every_take : (p : ℕ → Bool) (bs : List ℕ) (m : ℕ) → m ≤ length bs → every p (take m bs) ≡ leb m (span p bs)
every_take p bs zero le = sym (le-leb 0 (span p bs) (omega arith))
every_take p [] (suc m) le = absurd (omega arith)
every_take p (b ∷ bs) (suc m) le =
    elim (p b) as (λ v. (v && every p (take m bs)) ≡ leb (suc m) (if◌then◌else◌ v (suc (span p bs)) 0)) [
      | true ↦ every_take p bs m (omega arith) ∙ grind (arith, nat_tests)
      | false ↦ sym (lt-leb (suc m) 0 (omega arith))
    ]

pub span_within : (p : ℕ → Bool) (bs : List ℕ) → span p bs ≤ length bs
span_within p [] = omega arith
span_within p (b ∷ bs) = elim (p b) as (λ v. (if◌then◌else◌ v (suc (span p bs)) 0) ≤ suc (length bs)) [
  | true ↦ omega (arith, span_within p bs)
  | false ↦ omega arith
]

pub number_take : (before : ℕ) (bs : List ℕ) (m : ℕ) → m ≤ length bs → number_goes_on before (take m bs) ≡ leb m (number_span before bs)
number_take before bs zero le = sym (le-leb 0 (number_span before bs) (omega arith))
number_take before [] (suc m) le = absurd (omega arith)
number_take before (b ∷ bs) (suc m) le =
    elim (goes_on before b) as (λ v. (v && number_goes_on b (take m bs)) ≡ leb (suc m) (if◌then◌else◌ v (suc (number_span b bs)) 0)) [
      | true ↦ number_take b bs m (omega arith) ∙ grind (arith, nat_tests)
      | false ↦ sym (lt-leb (suc m) 0 (omega arith))
    ]

pub number_within : (before : ℕ) (bs : List ℕ) → number_span before bs ≤ length bs
number_within before [] = omega arith
number_within before (b ∷ bs) = elim (goes_on before b) as (λ v. (if◌then◌else◌ v (suc (number_span b bs)) 0) ≤ suc (length bs)) [
  | true ↦ omega (arith, number_within b bs)
  | false ↦ omega arith
]

-- ---- fronts that something closes

-- the length of the only front that passes, where there is one
abbrev pub is_at : Option ℕ → ℕ → Bool
is_at None m = false
is_at (Some n) m = eqb m n

-- what closes does so later
pub close_later : (quote : ℕ) (escaped : Bool) (count : ℕ) (bs : List ℕ) (m : ℕ) → m ≤ count → is_at (close_at quote escaped count bs) m ≡ false
close_later quote escaped count [] m le = refl
close_later quote escaped count (b ∷ bs) m le =
    elim (not escaped && eqb b quote) as (λ v. is_at (if◌then◌else◌ v (Some (count + 1)) (if◌then◌else◌ (eqb b 10) None (close_at quote (not escaped && eqb b 92) (count + 1) bs))) m ≡ false) [
      | true ↦ grind (arith, nat_tests)
      | false ↦ elim (eqb b 10) as (λ v. is_at (if◌then◌else◌ v None (close_at quote (not escaped && eqb b 92) (count + 1) bs)) m ≡ false) [
        | true ↦ refl
        | false ↦ close_later quote (not escaped && eqb b 92) (count + 1) bs m (omega arith)
      ]
    ]

pub closes_take : (quote : ℕ) (escaped : Bool) (count : ℕ) (bs : List ℕ) (m : ℕ) → m ≤ length bs → closes quote escaped (take m bs) ≡ is_at (close_at quote escaped count bs) (count + m)
closes_take quote escaped count bs zero le = sym (close_later quote escaped count bs (count + 0) (omega arith))
closes_take quote escaped count [] (suc m) le = absurd (omega arith)
closes_take quote escaped count (b ∷ bs) (suc m) le =
    elim (not escaped && eqb b quote) as (λ v. (if◌then◌else◌ v (same (take m bs) []) (not (eqb b 10) && closes quote (not escaped && eqb b 92) (take m bs)))
    ≡ is_at (if◌then◌else◌ v (Some (count + 1)) (if◌then◌else◌ (eqb b 10) None (close_at quote (not escaped && eqb b 92) (count + 1) bs))) (count + suc m)) [
      | true ↦ take_nil m bs (omega arith) ∙ grind (arith, nat_tests)
      | false ↦ elim (eqb b 10) as (λ v. (not v && closes quote (not escaped && eqb b 92) (take m bs))
          ≡ is_at (if◌then◌else◌ v None (close_at quote (not escaped && eqb b 92) (count + 1) bs)) (count + suc m)) [
            | true ↦ refl
            | false ↦ closes_take quote (not escaped && eqb b 92) (count + 1) bs m (omega arith)
                ∙ ap (is_at (close_at quote (not escaped && eqb b 92) (count + 1) bs)) (omega arith)
          ]
    ]

pub comment_later : (star : Bool) (count : ℕ) (bs : List ℕ) (m : ℕ) → m ≤ count → is_at (comment_at star count bs) m ≡ false
comment_later star count [] m le = refl
comment_later star count (b ∷ bs) m le =
    elim (star && eqb b 47) as (λ v. is_at (if◌then◌else◌ v (Some (count + 1)) (comment_at (eqb b 42) (count + 1) bs)) m ≡ false) [
      | true ↦ grind (arith, nat_tests)
      | false ↦ comment_later (eqb b 42) (count + 1) bs m (omega arith)
    ]

pub comment_take : (star : Bool) (count : ℕ) (bs : List ℕ) (m : ℕ) → m ≤ length bs → ends_comment star (take m bs) ≡ is_at (comment_at star count bs) (count + m)
comment_take star count bs zero le = sym (comment_later star count bs (count + 0) (omega arith))
comment_take star count [] (suc m) le = absurd (omega arith)
comment_take star count (b ∷ bs) (suc m) le =
    elim (star && eqb b 47) as (λ v. (if◌then◌else◌ v (same (take m bs) []) (ends_comment (eqb b 42) (take m bs)))
    ≡ is_at (if◌then◌else◌ v (Some (count + 1)) (comment_at (eqb b 42) (count + 1) bs)) (count + suc m)) [
      | true ↦ take_nil m bs (omega arith) ∙ grind (arith, nat_tests)
      | false ↦ comment_take (eqb b 42) (count + 1) bs m (omega arith) ∙ ap (is_at (comment_at (eqb b 42) (count + 1) bs)) (omega arith)
    ]

pub header_later : (count : ℕ) (bs : List ℕ) (m : ℕ) → m ≤ count → is_at (header_at count bs) m ≡ false
header_later count [] m le = refl
header_later count (b ∷ bs) m le =
    elim (eqb b 62) as (λ v. is_at (if◌then◌else◌ v (Some (count + 1)) (if◌then◌else◌ (eqb b 10) None (header_at (count + 1) bs))) m ≡ false) [
      | true ↦ grind (arith, nat_tests)
      | false ↦ elim (eqb b 10) as (λ v. is_at (if◌then◌else◌ v None (header_at (count + 1) bs)) m ≡ false) [
        | true ↦ refl
        | false ↦ header_later (count + 1) bs m (omega arith)
      ]
    ]

pub header_take : (count : ℕ) (bs : List ℕ) (m : ℕ) → m ≤ length bs → closes_header (take m bs) ≡ is_at (header_at count bs) (count + m)
header_take count bs zero le = sym (header_later count bs (count + 0) (omega arith))
header_take count [] (suc m) le = absurd (omega arith)
header_take count (b ∷ bs) (suc m) le =
    elim (eqb b 62) as (λ v. (if◌then◌else◌ v (same (take m bs) []) (not (eqb b 10) && closes_header (take m bs)))
    ≡ is_at (if◌then◌else◌ v (Some (count + 1)) (if◌then◌else◌ (eqb b 10) None (header_at (count + 1) bs))) (count + suc m)) [
      | true ↦ take_nil m bs (omega arith) ∙ grind (arith, nat_tests)
      | false ↦ elim (eqb b 10) as (λ v. (not v && closes_header (take m bs)) ≡ is_at (if◌then◌else◌ v None (header_at (count + 1) bs)) (count + suc m)) [
        | true ↦ refl
        | false ↦ header_take (count + 1) bs m (omega arith) ∙ ap (is_at (header_at (count + 1) bs)) (omega arith)
      ]
    ]

pub close_within : (quote : ℕ) (escaped : Bool) (count : ℕ) (bs : List ℕ) (n : ℕ) → close_at quote escaped count bs ≡ Some n → n ≤ count + length bs
close_within quote escaped count [] n = λ e. absurd (cc)
close_within quote escaped count (b ∷ bs) n =
    elim (not escaped && eqb b quote) as (λ v. (if◌then◌else◌ v (Some (count + 1)) (if◌then◌else◌ (eqb b 10) None (close_at quote (not escaped && eqb b 92) (count + 1) bs))) ≡ Some n → n ≤ count + suc (length bs)) [
      | true ↦ λ e. let k : count + 1 ≡ n = cc in omega arith
      | false ↦ elim (eqb b 10) as (λ v. (if◌then◌else◌ v None (close_at quote (not escaped && eqb b 92) (count + 1) bs)) ≡ Some n → n ≤ count + suc (length bs)) [
        | true ↦ λ e. absurd (cc)
        | false ↦ λ e. omega (arith, close_within quote (not escaped && eqb b 92) (count + 1) bs n e)
      ]
    ]

pub comment_within : (star : Bool) (count : ℕ) (bs : List ℕ) (n : ℕ) → comment_at star count bs ≡ Some n → n ≤ count + length bs
comment_within star count [] n = λ e. absurd (cc)
comment_within star count (b ∷ bs) n =
    elim (star && eqb b 47) as (λ v. (if◌then◌else◌ v (Some (count + 1)) (comment_at (eqb b 42) (count + 1) bs)) ≡ Some n → n ≤ count + suc (length bs)) [
      | true ↦ λ e. let k : count + 1 ≡ n = cc in omega arith
      | false ↦ λ e. omega (arith, comment_within (eqb b 42) (count + 1) bs n e)
    ]

pub header_within : (count : ℕ) (bs : List ℕ) (n : ℕ) → header_at count bs ≡ Some n → n ≤ count + length bs
header_within count [] n = λ e. absurd (cc)
header_within count (b ∷ bs) n =
    elim (eqb b 62) as (λ v. (if◌then◌else◌ v (Some (count + 1)) (if◌then◌else◌ (eqb b 10) None (header_at (count + 1) bs))) ≡ Some n → n ≤ count + suc (length bs)) [
      | true ↦ λ e. let k : count + 1 ≡ n = cc in omega arith
      | false ↦ elim (eqb b 10) as (λ v. (if◌then◌else◌ v None (header_at (count + 1) bs)) ≡ Some n → n ≤ count + suc (length bs)) [
        | true ↦ λ e. absurd (cc)
        | false ↦ λ e. omega (arith, header_within (count + 1) bs n e)
      ]
    ]
