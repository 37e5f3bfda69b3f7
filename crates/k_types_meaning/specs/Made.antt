-- Believed with the theorem on the top call.
-- What judging a part of a source gives: what is made of it, or its faults, at least one, in the order in which they are looked for.
use Rattle.std.specs.Prelude.{◌≡◌, List, [], ◌∷◌, ◌++◌, Option, Some, None, ◌⊎◌, Result, Ok, Err}
use Rattle.k_types_meaning.specs.declared.fault.TypeFault.{TypeFault}
use Rattle.k_types_meaning.specs.declared.fault.TypeFault.TheVariants as fault

-- it is made, or it has faults: the first and the others
pub data Made (A : Type 0) : Type 0 where
  Fine : A → Made A
  Faulty : TypeFault → List TypeFault → Made A

-- all faults
abbrev pub faults_of : {A : Type 0} → Made A → List TypeFault
faults_of (Fine a) = []
faults_of (Faulty f fs) = f ∷ fs

-- one fault
abbrev pub refused : {A : Type 0} → TypeFault → Made A
refused f = Faulty f []

-- what comes of what is made; faults stay
abbrev pub then_made : {A B : Type 0} → Made A → (A → Made B) → Made B
then_made (Fine a) next = next a
then_made (Faulty f fs) next = Faulty f fs

-- two parts, the first before the second: what comes of both where neither has a fault, else the faults of both
abbrev pub both : {A B C : Type 0} → Made A → Made B → (A → B → Made C) → Made C
both (Fine a) (Fine b) next = next a b
both (Fine a) (Faulty g gs) next = Faulty g gs
both (Faulty f fs) (Fine b) next = Faulty f fs
both (Faulty f fs) (Faulty g gs) next = Faulty f (fs ++ g ∷ gs)

-- two parts as one
abbrev pub two : {A B : Type 0} → Made A → Made B → Made (A × B)
two m n = both m n (λ a b. Fine (a, b))

-- three parts in their order
abbrev pub three : {A B C D : Type 0} → Made A → Made B → Made C → (A → B → C → Made D) → Made D
three a b c next = both a (two b c) (λ x y. next x y.0 y.1)

-- four parts in their order
abbrev pub four : {A B C D E : Type 0} → Made A → Made B → Made C → Made D → (A → B → C → D → Made E) → Made E
four a b c d next = both (two a b) (two c d) (λ x y. next x.0 x.1 y.0 y.1)

-- all parts in their order
abbrev pub all_made : {A : Type 0} → List (Made A) → Made (List A)
all_made [] = Fine []
all_made (m ∷ ms) = both m (all_made ms) (λ x xs. Fine (x ∷ xs))

-- what is there, or this fault
abbrev pub made_or : {A : Type 0} → TypeFault → Option A → Made A
made_or f None = refused f
made_or f (Some a) = Fine a

-- the fault is the first of these
abbrev pub StartsWith : TypeFault → List TypeFault → Type 0
StartsWith f [] = ⊥
StartsWith f (g ∷ gs) = f ≡ g

-- A result agrees with what judging gives: what is made, or the first fault; want of memory agrees with all.
abbrev pub Finds : {A : Type 0} → Result A TypeFault → Made A → Type 0
Finds (Ok a) m = m ≡ Fine a
Finds (Err f) m = (f ≡ fault.Memory) ⊎ StartsWith f (faults_of m)
