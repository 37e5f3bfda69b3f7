-- Judging dimensions and the relations of their sizes agree.
use Rattle.std.proofs.Common.{◌≡◌, refl, sym, ◌∙◌, ap, subst, ℕ, ◌≤◌, ℤ, pos, negsuc, Bool, true, false, nat_le, int_le, if◌then◌else◌, List, [], ◌∷◌, ◌++◌, map, Option, Some, None}
use Rattle.std.specs.List.{concat}
use Rattle.std.proofs.lemmas.Bool.{le-leb, leb-true}
use Rattle.std.proofs.lemmas.Option.{none-some, same_Some, cond_some}
use Rattle.k_tree.specs.declared.tree.declaration.Init.{Init}
use Rattle.k_tree.specs.declared.tree.expression.Expr.{Expr}
use Rattle.k_types_meaning.specs.Constants.{constant}
use Rattle.k_types_meaning.specs.Conversions.{Typed}
use Rattle.k_types_meaning.specs.Dimensions.{Size, LeftOut, Is, NoSize, Dimension, Sizes, size_of_constant, dimension, joined, dimensions, size_before, all_sizes, within_limit, given_before, object_sizes, param_sizes}
use Rattle.k_types_meaning.specs.Expressions.{judge}
use Rattle.k_types_meaning.specs.Initialisers.{first_given}
use Rattle.k_types_meaning.specs.Made.{Made, Fine, Faulty, both, then_made, all_made}
use Rattle.k_types_meaning.specs.Names.{Names}
use Rattle.k_types_meaning.specs.Types.{elements}
use Rattle.k_types_meaning.proofs.Elaborates.{both_fine, one_fine, fine_is, sound, complete}
use Rattle.k_types_meaning.proofs.Faultless.{both_is}
use Rattle.k_types_laws.specs.Laws.{AreJudged, ObjectSizesElaborate, ParameterSizesElaborate}
use Rattle.k_types_laws.specs.Sizes.{IsSize, AreSizes, AreWithinLimit, ObjectSizes, ParameterSizes, size, no_sizes, more_sizes, no_dimensions, written, first_given as first_by_initialiser, no_parameter_dimensions, first_left_out, first_written}
use Rattle.k_types_laws.proofs.Strings.{gives_sound, gives_complete}

-- it is a size
abbrev IsOne : Size → Type 0
IsOne LeftOut = ⊥
IsOne (Is d) = Unit {0}
IsOne NoSize = ⊥

-- the size that it is
abbrev number_of : Size → ℕ
number_of LeftOut = 0
number_of (Is d) = d
number_of NoSize = 0

-- a dimension of this size
abbrev of_size : Size → List ℕ → Dimension
of_size s taken = record { size = s; taken = taken }

-- the sizes of dimensions
abbrev sizes_of : List Dimension → List Size
sizes_of xs = map (λ (d : Dimension). d.size) xs

-- the variables that `&` is applied to in dimensions
abbrev taken_of : List Dimension → List ℕ
taken_of xs = concat (map (λ (d : Dimension). d.taken) xs)

-- a number that is a size under a condition
size_by : (b : Bool) (n d : ℕ) → (if b then Is n else NoSize) ≡ Is d → (b ≡ true) × (n ≡ d)
size_by true n d is = (refl, ap number_of is)
size_by false n d is = absurd (subst IsOne (sym is) tt)

-- a constant that is a size
size_fine : (z : Option ℤ) (d : ℕ) → size_of_constant z ≡ Is d → (z ≡ Some (pos d)) × (1 ≤ d)
size_fine None d is = absurd (subst IsOne (sym is) tt)
size_fine (Some (pos n)) d is =
    let found = size_by (nat_le 1 n) n d is in
    (ap (λ m. Some (pos m)) found.1, subst (λ m. 1 ≤ m) found.1 (leb-true 1 n found.0))
size_fine (Some (negsuc n)) d is = absurd (subst IsOne (sym is) tt)

-- the dimension that a typed expression is
abbrev dimension_of : Typed → Dimension
dimension_of v = of_size (size_of_constant (constant v.tree)) v.taken

-- a dimension that is a size
pub size_sound : (names : Names) (e : Expr) (x : Dimension) (d : ℕ) → dimension names (Some e) ≡ Fine x → x.size ≡ Is d → IsSize names e d x.taken
size_sound names e x d is sized =
    let parts = one_fine (judge names e) (λ v. Fine (dimension_of v)) x is in
    let same = fine_is (dimension_of parts.0) x parts.2 in
    let right = size_fine (constant (parts.0).tree) d (ap (λ (y : Dimension). y.size) same ∙ sized) in
    subst (IsSize names e d) (ap (λ (y : Dimension). y.taken) same) (size names e parts.0 d (sound names e parts.0 parts.1) right.0 right.1)

-- a size is what judging makes
pub size_complete : (names : Names) (e : Expr) (d : ℕ) (taken : List ℕ) → IsSize names e d taken → dimension names (Some e) ≡ Fine (of_size (Is d) taken)
size_complete _ _ _ _ (size names e v d means is least) =
    ap (λ m. then_made m (λ w. Fine (dimension_of w))) (complete names e v means)
    ∙ ap (λ z. Fine (of_size (size_of_constant z) v.taken)) is
    ∙ ap (λ b. Fine (of_size (if b then Is d else NoSize) v.taken)) (le-leb 1 d least)

-- a size before others that is there
before_fine : (d : ℕ) (o : Option (List ℕ)) (ds : List ℕ) → size_before d o ≡ Some ds → (others : List ℕ) × (o ≡ Some others) × (d ∷ others ≡ ds)
before_fine d None ds is = absurd (none-some ds is)
before_fine d (Some others) ds is = (others, refl, same_Some (d ∷ others) ds is)

-- a first size and others
first_fine : (s : Size) (rest : List Size) (ds : List ℕ) → all_sizes (s ∷ rest) ≡ Some ds
    → (d : ℕ) × (others : List ℕ) × (s ≡ Is d) × (all_sizes rest ≡ Some others) × (d ∷ others ≡ ds)
first_fine LeftOut rest ds is = absurd (none-some ds is)
first_fine NoSize rest ds is = absurd (none-some ds is)
first_fine (Is d) rest ds is =
    let found = before_fine d (all_sizes rest) ds is in
    (d, found.0, refl, found.1, found.2)

-- dimensions that are sizes
pub sizes_sound : (names : Names) (es : List (Option Expr)) (xs : List Dimension) (ds : List ℕ)
    → all_made (map (dimension names) es) ≡ Fine xs → all_sizes (sizes_of xs) ≡ Some ds → AreSizes names es ds (taken_of xs)
sizes_sound names [] xs ds is sized =
    let same = fine_is [] xs is in
    subst (λ ys. AreSizes names [] ds (taken_of ys)) same
    (subst (λ n. AreSizes names [] n []) (same_Some [] ds (ap (λ ys. all_sizes (sizes_of ys)) same ∙ sized)) (no_sizes names))
sizes_sound names (None ∷ es) xs ds is sized =
    let parts = both_fine (dimension names None) (all_made (map (dimension names) es)) (λ y ys. Fine (y ∷ ys)) xs is in
    let first = fine_is (of_size LeftOut []) parts.0 parts.2 in
    let same = fine_is (parts.0 ∷ parts.1) xs parts.4 in
    absurd (none-some ds (ap (λ y. all_sizes (sizes_of (y ∷ parts.1))) first ∙ ap (λ ys. all_sizes (sizes_of ys)) same ∙ sized))
sizes_sound names (Some e ∷ es) xs ds is sized =
    let parts = both_fine (dimension names (Some e)) (all_made (map (dimension names) es)) (λ y ys. Fine (y ∷ ys)) xs is in
    let same = fine_is (parts.0 ∷ parts.1) xs parts.4 in
    let found = first_fine (parts.0).size (sizes_of parts.1) ds (ap (λ ys. all_sizes (sizes_of ys)) same ∙ sized) in
    subst (λ ys. AreSizes names (Some e ∷ es) ds (taken_of ys)) same
    (subst (λ n. AreSizes names (Some e ∷ es) n (taken_of (parts.0 ∷ parts.1))) found.4
    (more_sizes names e es found.0 found.1 (parts.0).taken (taken_of parts.1)
    (size_sound names e parts.0 found.0 parts.2 found.2) (sizes_sound names es parts.1 found.1 parts.3 found.3)))

-- judging makes dimensions of these sizes
abbrev AreMade : Names → List (Option Expr) → List ℕ → List ℕ → Type 0
AreMade names es ds taken =
    (xs : List Dimension) × (all_made (map (dimension names) es) ≡ Fine xs) × (all_sizes (sizes_of xs) ≡ Some ds) × (taken_of xs ≡ taken)

-- sizes are what judging makes
pub sizes_complete : (names : Names) (es : List (Option Expr)) (ds taken : List ℕ) → AreSizes names es ds taken → AreMade names es ds taken
sizes_complete _ _ _ _ (no_sizes names) = ([], refl, refl, refl)
sizes_complete _ _ _ _ (more_sizes names e es d ds taken others one more) =
    let rest = sizes_complete names es ds others more in
    (of_size (Is d) taken ∷ rest.0, both_is (λ y ys. Fine (y ∷ ys)) (size_complete names e d taken one) rest.1, ap (size_before d) rest.2, ap (λ t. taken ++ t) rest.3)

-- sizes within the limit
limit_fine : (o : Option (List ℕ)) (ds : List ℕ) → within_limit o ≡ Some ds → (o ≡ Some ds) × AreWithinLimit ds
limit_fine None ds is = absurd (none-some ds is)
limit_fine (Some n) ds is =
    let found = cond_some (nat_le (elements n) 4194304) n ds is in
    (ap Some found.1, subst AreWithinLimit found.1 (leb-true (elements n) 4194304 found.0))

limit_is : (o : Option (List ℕ)) (ds : List ℕ) → o ≡ Some ds → AreWithinLimit ds → within_limit o ≡ Some ds
limit_is o ds is least = ap within_limit is ∙ ap (λ b. if b then Some ds else None) (le-leb (elements ds) 4194304 least)

-- a first size that is given before others
given_fine : (given : Option ℕ) (o : Option (List ℕ)) (ds : List ℕ) → given_before given o ≡ Some ds
    → (d : ℕ) × (others : List ℕ) × (given ≡ Some d) × (o ≡ Some others) × (d ∷ others ≡ ds)
given_fine None o ds is =
    absurd (none-some ds is)
given_fine (Some d) o ds is =
    let found = before_fine d o ds is in
    (d, found.0, refl, found.1, found.2)

-- all dimensions that were judged
pub dims_fine : (names : Names) (dims : List (Option Expr)) (sizes : Sizes) → dimensions names dims ≡ Fine sizes
    → (xs : List Dimension) × (all_made (map (dimension names) dims) ≡ Fine xs) × (sizes_of xs ≡ sizes.sizes) × (taken_of xs ≡ sizes.taken)
unfolding dimensions
dims_fine names dims sizes is =
    let parts = one_fine (all_made (map (dimension names) dims)) joined sizes is in
    let same = fine_is (record { sizes = sizes_of parts.0; taken = taken_of parts.0 }) sizes parts.2 in
    (parts.0, parts.1, ap (λ (s : Sizes). s.sizes) same, ap (λ (s : Sizes). s.taken) same)

dims_are : (names : Names) (dims : List (Option Expr)) (xs : List Dimension) → all_made (map (dimension names) dims) ≡ Fine xs
    → dimensions names dims ≡ Fine (record { sizes = sizes_of xs; taken = taken_of xs })
unfolding dimensions
dims_are names dims xs is = ap (λ m. then_made m joined) is

-- a size of a constant counts with those behind it
written_fine : (z : Option ℤ) (rest : List Size) (given : Option ℕ) (ds : List ℕ) → object_sizes (size_of_constant z ∷ rest) given ≡ Some ds
    → within_limit (all_sizes (size_of_constant z ∷ rest)) ≡ Some ds
written_fine None rest given ds is = absurd (none-some ds is)
written_fine (Some (pos n)) rest given ds is = by (nat_le 1 n) is
  where
    by : (b : Bool) → object_sizes ((if b then Is n else NoSize) ∷ rest) given ≡ Some ds → within_limit (all_sizes ((if b then Is n else NoSize) ∷ rest)) ≡ Some ds
    by true made = made
    by false made = absurd (none-some ds made)
written_fine (Some (negsuc n)) rest given ds is = absurd (none-some ds is)

-- dimensions of an object that judging finds sizes for have them
object_by : (names : Names) (dims : List (Option Expr)) (start : Option Init) (xs : List Dimension) (ds : List ℕ)
    → all_made (map (dimension names) dims) ≡ Fine xs → object_sizes (sizes_of xs) (first_given start) ≡ Some ds
    → ObjectSizes names dims start ds (taken_of xs)
object_by names [] start xs ds is sized =
    let same = fine_is [] xs is in
    subst (λ ys. ObjectSizes names [] start ds (taken_of ys)) same
    (subst (λ n. ObjectSizes names [] start n [])
    (same_Some [] ds (ap (λ ys. object_sizes (sizes_of ys) (first_given start)) same ∙ sized)) (no_dimensions names start))
object_by names (None ∷ es) start xs ds is sized =
    let parts = both_fine (dimension names None) (all_made (map (dimension names) es)) (λ y ys. Fine (y ∷ ys)) xs is in
    let same = ap (λ y. y ∷ parts.1) (fine_is (of_size LeftOut []) parts.0 parts.2) ∙ fine_is (parts.0 ∷ parts.1) xs parts.4 in
    let within = limit_fine (given_before (first_given start) (all_sizes (sizes_of parts.1))) ds
    (ap (λ ys. object_sizes (sizes_of ys) (first_given start)) same ∙ sized) in
    let found = given_fine (first_given start) (all_sizes (sizes_of parts.1)) ds within.0 in
    let given = gives_sound start found.0 found.2 in
    subst (λ ys. ObjectSizes names (None ∷ es) start ds (taken_of ys)) same
    (subst (λ o. ObjectSizes names (None ∷ es) o ds (taken_of parts.1)) (sym given.1)
    (subst (λ n. ObjectSizes names (None ∷ es) (Some given.0) n (taken_of parts.1)) found.4
    (first_by_initialiser names es given.0 found.0 found.1 (taken_of parts.1) given.2 (sizes_sound names es parts.1 found.1 parts.3 found.3)
    (subst AreWithinLimit (sym found.4) within.1))))
object_by names (Some e ∷ es) start xs ds is sized =
    let parts = both_fine (dimension names (Some e)) (all_made (map (dimension names) es)) (λ y ys. Fine (y ∷ ys)) xs is in
    let same = fine_is (parts.0 ∷ parts.1) xs parts.4 in
    let typed = one_fine (judge names e) (λ v. Fine (dimension_of v)) parts.0 parts.2 in
    let first = ap (λ (y : Dimension). y.size) (fine_is (dimension_of typed.0) parts.0 typed.2) in
    let within = limit_fine (all_sizes (size_of_constant (constant (typed.0).tree) ∷ sizes_of parts.1)) ds
    (written_fine (constant (typed.0).tree) (sizes_of parts.1) (first_given start) ds
    (ap (λ s. object_sizes (s ∷ sizes_of parts.1) (first_given start)) first ∙ ap (λ ys. object_sizes (sizes_of ys) (first_given start)) same ∙ sized)) in
    written names e es start ds (taken_of xs)
    (sizes_sound names (Some e ∷ es) xs ds is
    (sym (ap (λ s. all_sizes (s ∷ sizes_of parts.1)) first ∙ ap (λ ys. all_sizes (sizes_of ys)) same) ∙ within.0)) within.1

-- dimensions of an object that have sizes
pub object_sizes_sound : (names : Names) (dims : List (Option Expr)) (start : Option Init) (ds taken : List ℕ)
    → AreJudged names dims (λ sizes. object_sizes sizes (first_given start)) ds taken → ObjectSizes names dims start ds taken
object_sizes_sound names dims start ds taken judged =
    let found = dims_fine names dims judged.0 judged.1 in
    subst (ObjectSizes names dims start ds) (found.3 ∙ judged.3)
    (object_by names dims start found.0 ds found.1 (ap (λ s. object_sizes s (first_given start)) found.2 ∙ judged.2))

-- dimensions that are made are judged
judged_by : (names : Names) (dims : List (Option Expr)) (counted : List Size → Option (List ℕ)) (ds taken : List ℕ) (xs : List Dimension)
    → all_made (map (dimension names) dims) ≡ Fine xs → counted (sizes_of xs) ≡ Some ds → taken_of xs ≡ taken → AreJudged names dims counted ds taken
judged_by names dims counted ds taken xs is sized same =
    (record { sizes = sizes_of xs; taken = taken_of xs }, dims_are names dims xs is, sized, same)

-- sizes that are all there count for an object
counted_is : (ss : List Size) (given : Option ℕ) (ds : List ℕ) → all_sizes ss ≡ Some ds → within_limit (all_sizes ss) ≡ Some ds
    → object_sizes ss given ≡ Some ds
counted_is [] given ds all within = all
counted_is (LeftOut ∷ ss) given ds all within = absurd (none-some ds all)
counted_is (NoSize ∷ ss) given ds all within = absurd (none-some ds all)
counted_is (Is d ∷ ss) given ds all within = within

-- sizes of an object are what judging finds
pub object_sizes_complete : (names : Names) (dims : List (Option Expr)) (start : Option Init) (ds taken : List ℕ)
    → ObjectSizes names dims start ds taken → AreJudged names dims (λ sizes. object_sizes sizes (first_given start)) ds taken
object_sizes_complete _ _ _ _ _ (no_dimensions names start) = judged_by names [] (λ sizes. object_sizes sizes (first_given start)) [] [] [] refl refl refl
object_sizes_complete _ _ _ _ _ (written names e es start ds taken are least) =
    let made = sizes_complete names (Some e ∷ es) ds taken are in
    judged_by names (Some e ∷ es) (λ sizes. object_sizes sizes (first_given start)) ds taken made.0 made.1
    (counted_is (sizes_of made.0) (first_given start) ds made.2 (limit_is (all_sizes (sizes_of made.0)) ds made.2 least)) made.3
object_sizes_complete _ _ _ _ _ (first_by_initialiser names es start d ds taken gives are least) =
    let made = sizes_complete names es ds taken are in
    judged_by names (None ∷ es) (λ sizes. object_sizes sizes (first_given (Some start))) (d ∷ ds) taken (of_size LeftOut [] ∷ made.0)
    (ap (λ m. both (dimension names None) m (λ y ys. Fine (y ∷ ys))) made.1)
    (limit_is (given_before (first_given (Some start)) (all_sizes (sizes_of made.0))) (d ∷ ds)
    (ap (λ g. given_before g (all_sizes (sizes_of made.0))) (gives_complete start d gives) ∙ ap (size_before d) made.2) least)
    made.3

-- judging the dimensions of an object and the relation agree
pub object_sizes_elaborate : ObjectSizesElaborate
object_sizes_elaborate names dims start ds taken = (object_sizes_sound names dims start ds taken, object_sizes_complete names dims start ds taken)

-- a first size of a parameter is one, and those behind it count
param_fine : (z : Option ℤ) (rest : List Size) (ds : List ℕ) → param_sizes (size_of_constant z ∷ rest) ≡ Some ds
    → (d : ℕ) × (size_of_constant z ≡ Is d) × (within_limit (all_sizes rest) ≡ Some ds)
param_fine None rest ds is = absurd (none-some ds is)
param_fine (Some (pos n)) rest ds is = by (nat_le 1 n) is
  where
    by : (b : Bool) → param_sizes ((if b then Is n else NoSize) ∷ rest) ≡ Some ds
        → (d : ℕ) × ((if b then Is n else NoSize) ≡ Is d) × (within_limit (all_sizes rest) ≡ Some ds)
    by true made = (n, refl, made)
    by false made = absurd (none-some ds made)
param_fine (Some (negsuc n)) rest ds is = absurd (none-some ds is)

-- dimensions of a parameter that judging finds sizes for have them
parameter_by : (names : Names) (dims : List (Option Expr)) (xs : List Dimension) (ds : List ℕ)
    → all_made (map (dimension names) dims) ≡ Fine xs → param_sizes (sizes_of xs) ≡ Some ds → ParameterSizes names dims ds (taken_of xs)
parameter_by names [] xs ds is sized =
    let same = fine_is [] xs is in
    subst (λ ys. ParameterSizes names [] ds (taken_of ys)) same
    (subst (λ n. ParameterSizes names [] n []) (same_Some [] ds (ap (λ ys. param_sizes (sizes_of ys)) same ∙ sized)) (no_parameter_dimensions names))
parameter_by names (None ∷ es) xs ds is sized =
    let parts = both_fine (dimension names None) (all_made (map (dimension names) es)) (λ y ys. Fine (y ∷ ys)) xs is in
    let same = ap (λ y. y ∷ parts.1) (fine_is (of_size LeftOut []) parts.0 parts.2) ∙ fine_is (parts.0 ∷ parts.1) xs parts.4 in
    let within = limit_fine (all_sizes (sizes_of parts.1)) ds (ap (λ ys. param_sizes (sizes_of ys)) same ∙ sized) in
    subst (λ ys. ParameterSizes names (None ∷ es) ds (taken_of ys)) same
    (first_left_out names es ds (taken_of parts.1) (sizes_sound names es parts.1 ds parts.3 within.0) within.1)
parameter_by names (Some e ∷ es) xs ds is sized =
    let parts = both_fine (dimension names (Some e)) (all_made (map (dimension names) es)) (λ y ys. Fine (y ∷ ys)) xs is in
    let same = fine_is (parts.0 ∷ parts.1) xs parts.4 in
    let typed = one_fine (judge names e) (λ v. Fine (dimension_of v)) parts.0 parts.2 in
    let first = ap (λ (y : Dimension). y.size) (fine_is (dimension_of typed.0) parts.0 typed.2) in
    let found = param_fine (constant (typed.0).tree) (sizes_of parts.1) ds
    (ap (λ s. param_sizes (s ∷ sizes_of parts.1)) first ∙ ap (λ ys. param_sizes (sizes_of ys)) same ∙ sized) in
    let within = limit_fine (all_sizes (sizes_of parts.1)) ds found.2 in
    subst (λ ys. ParameterSizes names (Some e ∷ es) ds (taken_of ys)) same
    (first_written names e es found.0 ds (parts.0).taken (taken_of parts.1) (size_sound names e parts.0 found.0 parts.2 (sym first ∙ found.1))
    (sizes_sound names es parts.1 ds parts.3 within.0) within.1)

-- dimensions of a parameter that have sizes
pub parameter_sizes_sound : (names : Names) (dims : List (Option Expr)) (ds taken : List ℕ)
    → AreJudged names dims param_sizes ds taken → ParameterSizes names dims ds taken
parameter_sizes_sound names dims ds taken judged =
    let found = dims_fine names dims judged.0 judged.1 in
    subst (ParameterSizes names dims ds) (found.3 ∙ judged.3) (parameter_by names dims found.0 ds found.1 (ap param_sizes found.2 ∙ judged.2))

-- sizes of a parameter are what judging finds
pub parameter_sizes_complete : (names : Names) (dims : List (Option Expr)) (ds taken : List ℕ)
    → ParameterSizes names dims ds taken → AreJudged names dims param_sizes ds taken
parameter_sizes_complete _ _ _ _ (no_parameter_dimensions names) = judged_by names [] param_sizes [] [] [] refl refl refl
parameter_sizes_complete _ _ _ _ (first_left_out names es ds taken are least) =
    let made = sizes_complete names es ds taken are in
    judged_by names (None ∷ es) param_sizes ds taken (of_size LeftOut [] ∷ made.0)
    (ap (λ m. both (dimension names None) m (λ y ys. Fine (y ∷ ys))) made.1)
    (limit_is (all_sizes (sizes_of made.0)) ds made.2 least) made.3
parameter_sizes_complete _ _ _ _ (first_written names e es d ds taken others one are least) =
    let made = sizes_complete names es ds others are in
    judged_by names (Some e ∷ es) param_sizes ds (taken ++ others) (of_size (Is d) taken ∷ made.0)
    (both_is (λ y ys. Fine (y ∷ ys)) (size_complete names e d taken one) made.1)
    (limit_is (all_sizes (sizes_of made.0)) ds made.2 least) (ap (λ t. taken ++ t) made.3)

-- judging the dimensions of a parameter and the relation agree
pub parameter_sizes_elaborate : ParameterSizesElaborate
parameter_sizes_elaborate names dims ds taken = (parameter_sizes_sound names dims ds taken, parameter_sizes_complete names dims ds taken)
