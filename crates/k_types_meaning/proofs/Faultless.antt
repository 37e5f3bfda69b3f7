-- Parts of which something is made without a fault are made without one.
use Rattle.std.proofs.Common.{◌≡◌, refl, ◌∙◌, [], Option, Some, None}
use Rattle.k_num.specs.declared.numbers.Kind.{Kind}
use Rattle.k_num.specs.declared.place.Place.{Place}
use Rattle.k_types_meaning.specs.declared.fault.TypeFault.TheVariants as fault
use Rattle.k_types_meaning.specs.Made.{Made, Fine, both, two, four}
use Rattle.k_types_meaning.specs.Statements.{Judged, Known, conditioned}
use Rattle.k_types_meaning.proofs.Elaborates.{not_made, both_fine, fine_is}

-- judging comes to this, and this is known behind it
abbrev pub judged : {A : Type 0} → Made A → Known → Judged A
judged m after = record { made = m; after = after }

-- judging makes this without a fault
abbrev pub comes : {A : Type 0} → A → Known → Judged A
comes tree after = judged (Fine tree) after

-- two parts as one
pub two_fine : {A B : Type 0} (m : Made A) (n : Made B) (v : A × B) → two m n ≡ Fine v → (m ≡ Fine v.0) × (n ≡ Fine v.1)
two_fine {A} {B} m n v is =
    let parts = both_fine m n (λ a b. Fine (a, b)) v is in
    let one = fine_is {A = A × B} (parts.0, parts.1) v parts.4 in
    (parts.2 ∙ (λ i. Fine (one i).0), parts.3 ∙ (λ i. Fine (one i).1))

-- what comes of four parts without a fault
pub four_fine : {A B C D E : Type 0} (m : Made A) (n : Made B) (o : Made C) (p : Made D) (next : A → B → C → D → Made E) (v : E)
    → four m n o p next ≡ Fine v
    → (a : A) × (b : B) × (c : C) × (d : D) × (m ≡ Fine a) × (n ≡ Fine b) × (o ≡ Fine c) × (p ≡ Fine d) × (next a b c d ≡ Fine v)
four_fine m n o p next v is =
    let halves = both_fine (two m n) (two o p) (λ x y. next x.0 x.1 y.0 y.1) v is in
    let front = two_fine m n halves.0 halves.2 in
    let back = two_fine o p halves.1 halves.3 in
    ((halves.0).0, (halves.0).1, (halves.1).0, (halves.1).1, front.0, front.1, back.0, back.1, halves.4)

-- two parts that are made
pub both_is : {A B C : Type 0} {m : Made A} {n : Made B} {a : A} {b : B} (next : A → B → Made C) → m ≡ Fine a → n ≡ Fine b → both m n next ≡ next a b
both_is next f g = λ i. both (f i) (g i) next

-- what is made under a condition, without a fault: the condition is a number
pub condition_fine : {A : Type 0} (p : Place) (k : Option Kind) (made tree : A) → conditioned p k made ≡ Fine tree
    → (kind : Kind) × (k ≡ Some kind) × (made ≡ tree)
condition_fine p None made tree is = absurd (not_made (fault.Kinds p) [] tree is)
condition_fine p (Some kind) made tree is = (kind, refl, fine_is made tree is)
