-- What is read of a text is what it spells.
use Rattle.std.proofs.Common.{◌≡◌, ◌⊎◌, inl, inr, ℕ, zero, suc, ◌<◌, ◌≤◌, cond, List, [], ◌∷◌, ◌++◌, Option, Some, None, refl, sym, ap, ◌∙◌, subst, arith, append_assoc, eq-eqb, ne_eqb, lit<}
use Rattle.std.specs.Prelude.{◌==◌, ◌&&◌, nat_lt, if◌then◌else◌, Contains}
use Rattle.std.proofs.lemmas.Bool.{cases_eq, cases_Bool, and_parts, cond-true, cond-false, eqb-true, ltb-true}
use Rattle.k_num.specs.declared.numbers.Kind.{Kind}
use Rattle.k_num.specs.declared.numbers.Kind.TheVariants.{I32, U32, I64, U64}
use Rattle.k_types_meaning.specs.declared.tree.expression.Written.{Written}
use Rattle.k_types_meaning.specs.declared.tree.expression.Written.TheVariants.{Byte, Decimal, Hex}
use Rattle.k_types_meaning.specs.Formats.{FormatMark, Literal, Takes, Reading, Outside, Behind, Spells, ends, byte, conversion, conversions, mark_before, mark_ended, marks_from, marks_of, only_alone, takes}
use Rattle.k_types_names.proofs.Marks.{plain_read}

-- so many `l`
abbrev longs : ℕ → List ℕ
longs zero = []
longs (suc n) = 108 ∷ longs n

longs_more : (n : ℕ) (text : List ℕ) → longs n ++ 108 ∷ text ≡ 108 ∷ longs n ++ text
longs_more zero text = refl
longs_more (suc n) text = ap (λ t. 108 ∷ t) (longs_more n text)

-- what was read before
abbrev before : Reading → List ℕ
before Outside = []
before (Behind n) = 37 ∷ longs n

abbrev AtMostTwo : Reading → Type 0
AtMostTwo Outside = Unit {0}
AtMostTwo (Behind n) = n ≤ 2

-- one of two, by a test of a number
by_test : {A : Type 0} (b k : ℕ) (x y z : A) → cond (b == k) x y ≡ z → ((b ≡ k) × (x ≡ z)) ⊎ (y ≡ z)
by_test b k x y z is = elim (cases_eq b k) [
  | inl same ↦ inl (same, sym (cond-true (b == k) x y (eq-eqb b k same)) ∙ is)
  | inr other ↦ inr (sym (cond-false (b == k) x y (ne_eqb b k other)) ∙ is)
]

or_later : {P Q R : Type 0} → P ⊎ Q → (Q → R) → P ⊎ R
or_later (inl p) f = inl p
or_later (inr q) f = inr (f q)

-- a conversion is listed
abbrev IsListed : ℕ → ℕ → FormatMark → Type 0
IsListed n b m = Contains conversions (37 ∷ (longs n ++ b ∷ []), m)

listed_as : (n b letter : ℕ) (m mark : FormatMark) → b ≡ letter → Some mark ≡ Some m → IsListed n letter mark → IsListed n b m
listed_as n b letter m mark same is listed =
    let e : mark ≡ m = cc in subst (λ x. IsListed n b x) e (subst (λ x. IsListed n x mark) (sym same) listed)

module _ (written : Written) (short long : Kind) (letter : ℕ) where
  listed_taken : IsListed 0 letter (Takes written short) → IsListed 1 letter (Takes written long) → IsListed 2 letter (Takes written long)
      → (n : ℕ) → n ≤ 2 → (b : ℕ) (m : FormatMark) → b ≡ letter → takes written short long n ≡ Some m → IsListed n b m
  listed_taken none one two zero most b m same is = listed_as 0 b letter m (Takes written short) same is none
  listed_taken none one two (suc zero) most b m same is = listed_as 1 b letter m (Takes written long) same is one
  listed_taken none one two (suc (suc zero)) most b m same is = listed_as 2 b letter m (Takes written long) same is two
  listed_taken none one two (suc (suc (suc n))) most b m same is = absurd (omega arith)

listed_alone : (mark : FormatMark) (letter : ℕ) → IsListed 0 letter mark → (n b : ℕ) (m : FormatMark) → b ≡ letter → only_alone mark n ≡ Some m → IsListed n b m
listed_alone mark letter none zero b m same is = listed_as 0 b letter m mark same is none
listed_alone mark letter none (suc n) b m same is = let no : ⊥ = cc in absurd no

abbrev chain5 : ℕ → ℕ → Option FormatMark
chain5 n b = if b == 37 then only_alone (Literal 37) n else None

abbrev chain4 : ℕ → ℕ → Option FormatMark
chain4 n b = if b == 99 then only_alone (Takes Byte I32) n else chain5 n b

abbrev chain3 : ℕ → ℕ → Option FormatMark
chain3 n b = if b == 120 then takes Hex U32 U64 n else chain4 n b

abbrev chain2 : ℕ → ℕ → Option FormatMark
chain2 n b = if b == 117 then takes Decimal U32 U64 n else chain3 n b

abbrev chain1 : ℕ → ℕ → Option FormatMark
chain1 n b = if b == 105 then takes Decimal I32 I64 n else chain2 n b

module _ (n b : ℕ) (m : FormatMark) (most : n ≤ 2) where
  by_percent : chain5 n b ≡ Some m → IsListed n b m
  by_percent is = elim (by_test b 37 (only_alone (Literal 37) n) None (Some m) is) [
    | inl here ↦ listed_alone (Literal 37) 37 (0, lit< tt, refl) n b m here.0 here.1
    | inr none ↦ (let no : ⊥ = cc in absurd no)
  ]

  by_c : chain4 n b ≡ Some m → IsListed n b m
  by_c is = elim (by_test b 99 (only_alone (Takes Byte I32) n) (chain5 n b) (Some m) is) [
    | inl here ↦ listed_alone (Takes Byte I32) 99 (1, lit< tt, refl) n b m here.0 here.1
    | inr rest ↦ by_percent rest
  ]

  by_x : chain3 n b ≡ Some m → IsListed n b m
  by_x is = elim (by_test b 120 (takes Hex U32 U64 n) (chain4 n b) (Some m) is) [
    | inl here ↦ listed_taken Hex U32 U64 120 (5, lit< tt, refl) (9, lit< tt, refl) (13, lit< tt, refl) n most b m here.0 here.1
    | inr rest ↦ by_c rest
  ]

  by_u : chain2 n b ≡ Some m → IsListed n b m
  by_u is = elim (by_test b 117 (takes Decimal U32 U64 n) (chain3 n b) (Some m) is) [
    | inl here ↦ listed_taken Decimal U32 U64 117 (4, lit< tt, refl) (8, lit< tt, refl) (12, lit< tt, refl) n most b m here.0 here.1
    | inr rest ↦ by_x rest
  ]

  by_i : chain1 n b ≡ Some m → IsListed n b m
  by_i is = elim (by_test b 105 (takes Decimal I32 I64 n) (chain2 n b) (Some m) is) [
    | inl here ↦ listed_taken Decimal I32 I64 105 (3, lit< tt, refl) (7, lit< tt, refl) (11, lit< tt, refl) n most b m here.0 here.1
    | inr rest ↦ by_u rest
  ]

  by_d : mark_ended n b ≡ Some m → IsListed n b m
  by_d is = elim (by_test b 100 (takes Decimal I32 I64 n) (chain1 n b) (Some m) is) [
    | inl here ↦ listed_taken Decimal I32 I64 100 (2, lit< tt, refl) (6, lit< tt, refl) (10, lit< tt, refl) n most b m here.0 here.1
    | inr rest ↦ by_i rest
  ]

-- marks of which the first is known
record Parts (o : Option FormatMark) (p : Option (List FormatMark)) (marks : List FormatMark) : Type 0 where
  first : FormatMark
  rest : List FormatMark
  one : o ≡ Some first
  others : p ≡ Some rest
  all : first ∷ rest ≡ marks

parts_of : (o : Option FormatMark) (p : Option (List FormatMark)) (marks : List FormatMark) → mark_before o p ≡ Some marks → Parts o p marks
parts_of None p marks is = let no : ⊥ = cc in absurd no
parts_of (Some mark) None marks is = let no : ⊥ = cc in absurd no
parts_of (Some mark) (Some rest) marks is =
    let e : mark ∷ rest ≡ marks = cc in record { first = mark; rest = rest; one = refl; others = refl; all = e }

plain_spelled : (b : ℕ) (text : List ℕ) (marks : List FormatMark) → (b ≡ 0 → ⊥) → (b ≡ 37 → ⊥) → (parts : Parts (Some (Literal b)) (marks_from Outside text) marks)
    → Spells text parts.rest → Spells (b ∷ text) marks
plain_spelled b text marks some other parts rest =
    let e : Literal b ≡ parts.first = (let is : Some (Literal b) ≡ Some parts.first = parts.one in cc) in
    subst (Spells (b ∷ text)) (ap (λ m. m ∷ parts.rest) e ∙ parts.all) (byte b text parts.rest (some, other) rest)

ended_spelled : (n b : ℕ) (text : List ℕ) (marks : List FormatMark) → n ≤ 2 → (parts : Parts (mark_ended n b) (marks_from Outside text) marks)
    → Spells text parts.rest → Spells (37 ∷ (longs n ++ b ∷ text)) marks
ended_spelled n b text marks most parts rest =
    let whole : Spells ((37 ∷ (longs n ++ b ∷ [])) ++ text) (parts.first ∷ parts.rest) =
    conversion (37 ∷ (longs n ++ b ∷ [])) parts.first text parts.rest (by_d n b parts.first most parts.one) rest in
    subst (Spells (37 ∷ (longs n ++ b ∷ text))) parts.all
    (subst (λ t. Spells t (parts.first ∷ parts.rest)) (ap (λ t. 37 ∷ t) (append_assoc (longs n) (b ∷ []) text)) whole)

-- what is read behind what was read before is spelled
sound : (text : List ℕ) (r : Reading) (marks : List FormatMark) → AtMostTwo r → marks_from r text ≡ Some marks → Spells (before r ++ text) marks
sound [] Outside marks most is = let none : [] ≡ marks = cc in subst (Spells []) none ends
sound [] (Behind n) marks most is = let no : ⊥ = cc in absurd no
sound (b ∷ text) Outside marks most is = elim (cases_eq b 37) [
  | inl percent ↦ subst (λ x. Spells (x ∷ text) marks) (sym percent)
      (sound text (Behind 0) marks (omega arith) (sym (cond-true (b == 37) (marks_from (Behind 0) text) (cond (b == 0) None (mark_before (Some (Literal b)) (marks_from Outside text))) (eq-eqb b 37 percent)) ∙ is))
  | inr other ↦ elim (cases_eq b 0) [
    | inl end ↦ (let none : None ≡ Some marks =
        sym (cond-false (b == 37) (marks_from (Behind 0) text) (cond (b == 0) None (mark_before (Some (Literal b)) (marks_from Outside text))) (ne_eqb b 37 other)
        ∙ cond-true (b == 0) None (mark_before (Some (Literal b)) (marks_from Outside text)) (eq-eqb b 0 end)) ∙ is in
        let no : ⊥ = cc in absurd no)
    | inr some ↦ (let parts : Parts (Some (Literal b)) (marks_from Outside text) marks =
        parts_of (Some (Literal b)) (marks_from Outside text) marks (sym (plain_read b text some other) ∙ is) in
        plain_spelled b text marks some other parts (sound text Outside parts.rest tt parts.others))
  ]
]
sound (b ∷ text) (Behind n) marks most is = elim (cases_Bool (b == 108 && nat_lt n 2)) [
  | inl long ↦ (let tests = and_parts (b == 108) (nat_lt n 2) long in
      let same : b ≡ 108 = eqb-true b 108 tests.0 in
      let few : n < 2 = ltb-true n 2 tests.1 in
      let whole : Spells (37 ∷ (108 ∷ longs n ++ text)) marks =
      sound text (Behind (suc n)) marks (omega arith)
      (sym (cond-true (b == 108 && nat_lt n 2) (marks_from (Behind (suc n)) text) (mark_before (mark_ended n b) (marks_from Outside text)) long) ∙ is) in
      subst (λ t. Spells (37 ∷ t) marks) (sym (longs_more n text) ∙ ap (λ x. longs n ++ x ∷ text) (sym same)) whole)
  | inr short ↦ (let parts : Parts (mark_ended n b) (marks_from Outside text) marks =
      parts_of (mark_ended n b) (marks_from Outside text) marks
      (sym (cond-false (b == 108 && nat_lt n 2) (marks_from (Behind (suc n)) text) (mark_before (mark_ended n b) (marks_from Outside text)) short) ∙ is) in
      ended_spelled n b text marks most parts (sound text Outside parts.rest tt parts.others))
]

-- the marks that are read of a text are spelled
pub spelled : (text : List ℕ) (marks : List FormatMark) → marks_of text ≡ Some marks → Spells text marks
spelled text marks is = sound text Outside marks tt is
