-- A property of what is made of a part of a source, where it has no fault.
use Rattle.std.proofs.Common.{◌≡◌, refl, Bool, true, false, cond, List, [], ◌∷◌, map, Option, Some, None}
use Rattle.k_types_meaning.specs.Made.{Made, Fine, Faulty, both, two, three, four, then_made, all_made}

-- a property of all items
abbrev pub AllOf : {A : Type 0} → (A → Type 0) → List A → Type 0
AllOf P [] = Unit {0}
AllOf P (x ∷ xs) = P x × AllOf P xs

-- what is made has the property
abbrev pub IfFine : {A : Type 0} → (A → Type 0) → Made A → Type 0
IfFine P (Fine a) = P a
IfFine P (Faulty f fs) = Unit {0}

-- what may be left out has the property
abbrev pub IfThere : {A : Type 0} → (A → Type 0) → Option A → Type 0
IfThere P None = Unit {0}
IfThere P (Some a) = P a

-- nothing is asked of what is made
abbrev pub Anything : {A : Type 0} → A → Type 0
Anything a = Unit {0}

pub anything : {A : Type 0} (m : Made A) → IfFine Anything m
anything (Fine a) = tt
anything (Faulty f fs) = tt

-- whatever is made has it
pub if_fine : {A : Type 0} (P : A → Type 0) (m : Made A) → ((a : A) → m ≡ Fine a → P a) → IfFine P m
if_fine P (Fine a) each = each a refl
if_fine P (Faulty f fs) each = tt

-- one of two
pub cond_has : {A : Type 0} (P : A → Type 0) (b : Bool) (m n : Made A) → IfFine P m → IfFine P n → IfFine P (cond b m n)
cond_has P true m n h k = h
cond_has P false m n h k = k

-- what comes of what is made
pub then_has : {A B : Type 0} (P : A → Type 0) (Q : B → Type 0) (m : Made A) (next : A → Made B) → IfFine P m → ((a : A) → P a → IfFine Q (next a))
    → IfFine Q (then_made m next)
then_has P Q (Fine a) next h each = each a h
then_has P Q (Faulty f fs) next h each = tt

-- what comes of two parts
pub both_has : {A B C : Type 0} (P : A → Type 0) (Q : B → Type 0) (R : C → Type 0) (m : Made A) (n : Made B) (next : A → B → Made C)
    → IfFine P m → IfFine Q n → ((a : A) (b : B) → P a → Q b → IfFine R (next a b)) → IfFine R (both m n next)
both_has P Q R (Fine a) (Fine b) next h k each = each a b h k
both_has P Q R (Fine a) (Faulty g gs) next h k each = tt
both_has P Q R (Faulty f fs) (Fine b) next h k each = tt
both_has P Q R (Faulty f fs) (Faulty g gs) next h k each = tt

-- two parts as one
pub two_has : {A B : Type 0} (P : A → Type 0) (Q : B → Type 0) (m : Made A) (n : Made B) → IfFine P m → IfFine Q n → IfFine (λ (x : A × B). P x.0 × Q x.1) (two m n)
two_has {A} {B} P Q m n h k = both_has P Q (λ (x : A × B). P x.0 × Q x.1) m n (λ a b. Fine (a, b)) h k (λ a b p q. (p, q))

-- what comes of three parts
pub three_has : {A B C D : Type 0} (P : A → Type 0) (Q : B → Type 0) (R : C → Type 0) (S : D → Type 0) (l : Made A) (m : Made B) (n : Made C)
    → (next : A → B → C → Made D) → IfFine P l → IfFine Q m → IfFine R n → ((a : A) (b : B) (c : C) → P a → Q b → R c → IfFine S (next a b c))
    → IfFine S (three l m n next)
three_has {A} {B} {C} P Q R S l m n next h k j each =
    both_has P (λ (x : B × C). Q x.0 × R x.1) S l (two m n) (λ x y. next x y.0 y.1) h (two_has Q R m n k j) (λ a x p q. each a x.0 x.1 p q.0 q.1)

-- what comes of four parts
pub four_has : {A B C D E : Type 0} (P : A → Type 0) (Q : B → Type 0) (R : C → Type 0) (S : D → Type 0) (T : E → Type 0)
    → (k : Made A) (l : Made B) (m : Made C) (n : Made D) (next : A → B → C → D → Made E)
    → IfFine P k → IfFine Q l → IfFine R m → IfFine S n → ((a : A) (b : B) (c : C) (d : D) → P a → Q b → R c → S d → IfFine T (next a b c d))
    → IfFine T (four k l m n next)
four_has {A} {B} {C} {D} P Q R S T k l m n next p q r s each =
    both_has (λ (x : A × B). P x.0 × Q x.1) (λ (x : C × D). R x.0 × S x.1) T (two k l) (two m n) (λ x y. next x.0 x.1 y.0 y.1)
    (two_has P Q k l p q) (two_has R S m n r s) (λ x y h j. each x.0 x.1 y.0 y.1 h.0 h.1 j.0 j.1)

-- all parts
pub all_have : {A : Type 0} (P : A → Type 0) (ms : List (Made A)) → AllOf (IfFine P) ms → IfFine (AllOf P) (all_made ms)
all_have P [] all = tt
all_have P (m ∷ ms) all = both_has P (AllOf P) (AllOf P) m (all_made ms) (λ x xs. Fine (x ∷ xs)) all.0 (all_have P ms all.1) (λ a as_ p q. (p, q))
