-- What is known of a variable, when what happens in a loop has been gone through once, is what the conditions ask of the whole.
use Rattle.std.proofs.Common.{◌≡◌, ℕ, Bool, true, false, not, cond, List, [], ◌∷◌, refl, sym, ◌∙◌, ap, arith}
use Rattle.std.specs.Prelude.{nat_eq, ◌&&◌, ◌||◌, if◌then◌else◌}
use Rattle.std.specs.List.{list_all, list_any}
use Rattle.std.proofs.lemmas.Bool.Decides.{nat_tests}
use Rattle.k_marks_meaning.specs.declared.uses.Group.{Group}
use Rattle.k_marks_meaning.specs.declared.uses.Group.TheVariants.{Sums, Products, Ands, Ors, Xors}
use Rattle.k_marks_meaning.specs.declared.uses.Use.{Use}
use Rattle.k_marks_meaning.specs.declared.uses.Use.TheVariants.{Names, Assigns, Declares, Reduces}
use Rattle.k_marks.specs.declared.known.How.{How}
use Rattle.k_marks.specs.declared.known.How.TheVariants.{Nowhere, By, Elsewhere}
use Rattle.k_marks.specs.declared.known.Occurrence.{Occurrence}
use Rattle.k_marks_meaning.specs.Loops.{same_group, assigns_it, fits}
use Rattle.k_marks.specs.Known.{how_behind, allows, known_behind, known_from}

-- tests with a constant
with_true : (b : Bool) → b ≡ (b && true)
with_true true = refl
with_true false = refl

with_false : (b : Bool) → false ≡ (b && false)
with_false true = refl
with_false false = refl

or_false : (b : Bool) → b ≡ (b || false)
or_false true = refl
or_false false = refl

or_true : (b : Bool) → true ≡ (b || true)
or_true true = refl
or_true false = refl

-- tests in another grouping
and_again : (a b c : Bool) → ((a && b) && c) ≡ (a && (b && c))
and_again true b c = refl
and_again false b c = refl

or_again : (a b c : Bool) → ((a || b) || c) ≡ (a || (b || c))
or_again true b c = refl
or_again false b c = refl

-- groups by number
abbrev code : Group → ℕ
code Sums = 0
code Products = 1
code Ands = 2
code Ors = 3
code Xors = 4

codes_tell : (a b : Group) → same_group a b ≡ nat_eq (code a) (code b)
codes_tell Sums Sums = refl
codes_tell Products Products = refl
codes_tell Ands Ands = refl
codes_tell Ors Ors = refl
codes_tell Xors Xors = refl
codes_tell _ _ = refl

numbers_meet : (x y z : ℕ) → cond (nat_eq x y) (nat_eq x z) false ≡ (nat_eq x z && nat_eq y z)
numbers_meet x y z = grind (arith, nat_tests)

allowed_if : (t : Bool) (a g : Group) → allows (if t then By a else Elsewhere) g ≡ cond t (same_group a g) false
allowed_if true a g = refl
allowed_if false a g = refl

-- two groups allow a third where each does
groups_meet : (a b g : Group) → allows (how_behind (By a) b) g ≡ (same_group a g && same_group b g)
groups_meet a b g =
    allowed_if (same_group a b) a g
    ∙ ((λ i. cond (codes_tell a b i) (codes_tell a g i) false)
    ∙ (numbers_meet (code a) (code b) (code g) ∙ sym (λ i. codes_tell a g i && codes_tell b g i)))

how_meets : (h : How) (b g : Group) → allows (how_behind h b) g ≡ (allows h g && same_group b g)
how_meets Nowhere b g = refl
how_meets (By a) b g = groups_meet a b g
how_meets Elsewhere b g = refl

-- what happens elsewhere allows nothing to its variable
elsewhere : (t a : Bool) (k : Occurrence) (g : Group) → allows (if t then (record { assigned = a; how = Elsewhere }) else k).how g ≡ (allows k.how g && not t)
elsewhere true a k g = with_false (allows k.how g)
elsewhere false a k g = with_true (allows k.how g)

reduced : (t : Bool) (k : Occurrence) (b g : Group) → allows (if t then (record { assigned = true; how = how_behind k.how b }) else k).how g ≡ (allows k.how g && (not t || same_group b g))
reduced true k b g = how_meets k.how b g
reduced false k b g = with_true (allows k.how g)

fits_behind : (n : ℕ) (g : Group) (u : Use) (k : Occurrence) → allows (known_behind n u k).how g ≡ (allows k.how g && fits n g u)
fits_behind n g (Names m) k = elsewhere (nat_eq m n) k.assigned k g
fits_behind n g (Assigns m) k = elsewhere (nat_eq m n) true k g
fits_behind n g (Declares m) k = elsewhere (nat_eq m n) k.assigned k g
fits_behind n g (Reduces r) k = reduced (nat_eq r.variable n) k r.group g

kept : (t : Bool) (k : Occurrence) (h : How) → (if t then (record { assigned = k.assigned; how = h }) else k).assigned ≡ (k.assigned || false)
kept true k h = or_false k.assigned
kept false k h = or_false k.assigned

set_if : (t : Bool) (k : Occurrence) (h : How) → (if t then (record { assigned = true; how = h }) else k).assigned ≡ (k.assigned || t)
set_if true k h = or_true k.assigned
set_if false k h = or_false k.assigned

assigned_behind : (n : ℕ) (u : Use) (k : Occurrence) → (known_behind n u k).assigned ≡ (k.assigned || assigns_it n u)
assigned_behind n (Names m) k = kept (nat_eq m n) k Elsewhere
assigned_behind n (Assigns m) k = set_if (nat_eq m n) k Elsewhere
assigned_behind n (Declares m) k = kept (nat_eq m n) k Elsewhere
assigned_behind n (Reduces r) k = set_if (nat_eq r.variable n) k (how_behind k.how r.group)

-- a variable is assigned where something assigns it
pub assigned_from : (n : ℕ) (k : Occurrence) (us : List Use) → (known_from n k us).assigned ≡ (k.assigned || list_any (assigns_it n) us)
assigned_from n k [] = or_false k.assigned
assigned_from n k (u ∷ us) =
    assigned_from n (known_behind n u k) us
    ∙ (ap (λ b. b || list_any (assigns_it n) us) (assigned_behind n u k)
    ∙ or_again k.assigned (assigns_it n u) (list_any (assigns_it n) us))

-- operators of a group may reduce a variable where all that happens fits
pub allowed_from : (n : ℕ) (g : Group) (k : Occurrence) (us : List Use) → allows (known_from n k us).how g ≡ (allows k.how g && list_all (fits n g) us)
allowed_from n g k [] = with_true (allows k.how g)
allowed_from n g k (u ∷ us) =
    allowed_from n g (known_behind n u k) us
    ∙ (ap (λ b. b && list_all (fits n g) us) (fits_behind n g u k)
    ∙ and_again (allows k.how g) (fits n g u) (list_all (fits n g) us))
