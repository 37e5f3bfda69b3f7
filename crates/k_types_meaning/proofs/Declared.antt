-- Judging declarators and the relation of what they declare agree.
use Rattle.std.proofs.Common.{◌≡◌, refl, sym, ◌∙◌, ap, subst, ℕ, Bool, true, false, List, [], ◌∷◌, ◌++◌, length, Option, Some, None}
use Rattle.std.proofs.lemmas.Option.{none-some}
use Rattle.k_num.specs.declared.place.Place.{Place}
use Rattle.k_tree.specs.declared.tree.declaration.Declarator.{Declarator}
use Rattle.k_types_meaning.specs.declared.fault.TypeFault.TheVariants as fault
use Rattle.k_types_meaning.specs.declared.tree.declaration.TDeclarator.{TDeclarator}
use Rattle.k_types_meaning.specs.declared.tree.declaration.TInit.{TInit}
use Rattle.k_types_meaning.specs.declared.types.CType.{CType}
use Rattle.k_types_meaning.specs.Declarations.{Object, Saying, is_twice, has_type, declared_type, is_sized, where_sized, type_for, object_fixed, as_meaning, entered, begun_object, object_made, declarator_judged, names_behind, type_or_int}
use Rattle.k_types_meaning.specs.Dimensions.{Sizes, dimensions}
use Rattle.k_types_meaning.specs.Initialisers.{begun}
use Rattle.k_types_meaning.specs.Made.{Fine, then_made}
use Rattle.k_types_meaning.specs.Names.{Names}
use Rattle.k_types_meaning.specs.Statements.{Known, declare, declare_all, object_taken, judged_before}
use Rattle.k_types_meaning.proofs.Elaborates.{not_made, both_fine, one_fine, fine_is}
use Rattle.k_types_meaning.specs.ElaboratedDeclarators.{ElabObject, ElabDeclared, object, none_declared, more_declared, names_within, variable_tree, with_variable}
use Rattle.k_types_meaning.proofs.Faultless.{comes, both_is}

-- the object of a declarator without faults
abbrev made_so : Place → List ℕ → CType → Bool → TInit → List ℕ → Object
made_so p x of fixed init taken = record { place = p; name = x; of = of; fixed = fixed; init = init; taken = taken }

-- an object that is made has a type and a beginning
begun_fine : (p : Place) (x : List ℕ) (fixed : Bool) (taken : List ℕ) (of : Option CType) (init : Option TInit) (o : Object)
    → begun_object p x fixed taken of init ≡ Fine o
    → (t : CType) × (i : TInit) × (of ≡ Some t) × (init ≡ Some i) × (made_so p x t fixed i taken ≡ o)
begun_fine p x fixed taken of None o is = absurd (not_made (fault.Kinds p) [] o is)
begun_fine p x fixed taken None (Some init) o is = absurd (not_made (fault.BadSize p) [] o is)
begun_fine p x fixed taken (Some t) (Some i) o is = (t, i, refl, refl, fine_is (made_so p x t fixed i taken) o is)

-- an object that is made has a free name, a type and a beginning
object_fine : (p : Place) (x : List ℕ) (twice typed fixed : Bool) (taken : List ℕ) (of : Option CType) (init : Option TInit) (o : Object)
    → object_made p x twice typed fixed taken of init ≡ Fine o
    → (twice ≡ false) × (typed ≡ true) × (t : CType) × (i : TInit) × (of ≡ Some t) × (init ≡ Some i) × (made_so p x t fixed i taken ≡ o)
object_fine p x true typed fixed taken of init o is = absurd (not_made (fault.Twice x p) [] o is)
object_fine p x false false fixed taken of init o is = absurd (not_made (fault.Kinds p) [] o is)
object_fine p x false true fixed taken of init o is =
    let made = begun_fine p x fixed taken of init o is in
    (refl, refl, made.0, made.1, made.2, made.3, made.4)

-- a type whose sizes are right
sized_is : (right : Bool) (of : Option CType) (t : CType) → where_sized right of ≡ Some t → of ≡ Some t
sized_is true of t is = is
sized_is false of t is = absurd (none-some t is)

-- the type by which the initialiser is judged, where the sizes are right
type_is : (file : Bool) (s : Saying) (names : Names) (d : Declarator) (sizes : Sizes) (of : CType) → dimensions names d.dims ≡ Fine sizes
    → declared_type file s (Fine sizes) d ≡ Some of → type_for file s (dimensions names d.dims) d ≡ Some of
type_is file s names d sizes of sized typed =
    ap (λ m. type_for file s m d) sized ∙ sized_is (is_sized (Fine sizes) d) (type_for file s (Fine sizes) d) of typed

module _ (file : Bool) (s : Saying) (n : ℕ) (names : Names) (d : Declarator) where
  -- the initialiser of a declarator of this type
  start_is : (sizes : Sizes) (of : CType) → dimensions names d.dims ≡ Fine sizes → declared_type file s (Fine sizes) d ≡ Some of
      → begun (names_behind file s n names d) file (type_for file s (dimensions names d.dims) d) d.init
      ≡ begun (names_within file s n names d of) file (Some of) d.init
  start_is sizes of sized typed =
      ap (λ t. begun (names_within file s n names d (type_or_int t)) file t d.init) (type_is file s names d sizes of sized typed)

  -- what judging a declarator makes, it declares
  pub object_sound : (o : Object) → declarator_judged file s n names d ≡ Fine o → ElabObject file s n names d o
  unfolding declarator_judged
  object_sound o is =
      let parts = both_fine (dimensions names d.dims) (begun (names_behind file s n names d) file (type_for file s (dimensions names d.dims) d) d.init)
      (λ sizes start. object_made d.place d.name (is_twice names d.name) (has_type file s d) (object_fixed s.fixed d.stars)
      (sizes.taken ++ start.taken) (declared_type file s (Fine sizes) d) start.init) o is in
      let made = object_fine d.place d.name (is_twice names d.name) (has_type file s d) (object_fixed s.fixed d.stars)
      ((parts.0).taken ++ (parts.1).taken) (declared_type file s (Fine parts.0) d) (parts.1).init o parts.4 in
      subst (ElabObject file s n names d) made.6
      (object file s n names d parts.0 made.2 parts.1 made.3 made.0 parts.2 made.1 made.4
      (sym (start_is parts.0 made.2 parts.2 made.4) ∙ parts.3) made.5)

-- what a declarator declares is what judging makes
pub object_complete : (file : Bool) (s : Saying) (n : ℕ) (names : Names) (d : Declarator) (o : Object) → ElabObject file s n names d o
    → declarator_judged file s n names d ≡ Fine o
unfolding declarator_judged
object_complete _ _ _ _ _ _ (object file s n names d sizes of start init free sized typed is begins some) =
    both_is (λ z b. object_made d.place d.name (is_twice names d.name) (has_type file s d) (object_fixed s.fixed d.stars)
    (z.taken ++ b.taken) (declared_type file s (Fine z) d) b.init) sized (start_is file s n names d sizes of sized is ∙ begins)
    ∙ (λ i. object_made d.place d.name (free i) (typed i) (object_fixed s.fixed d.stars) (sizes.taken ++ start.taken) (is i) (some i))

-- the names that are known behind a declarator
pub names_are : (file : Bool) (s : Saying) (n : ℕ) (names : Names) (d : Declarator) (o : Object) → ElabObject file s n names d o
    → names_behind file s n names d ≡ entered o.name (as_meaning file n o.of o.fixed) names
names_are _ _ _ _ _ _ (object file s n names d sizes of start init free sized typed is begins some) =
    ap (λ t. names_within file s n names d (type_or_int t)) (type_is file s names d sizes of sized is)

-- the variable of a declarator
variable_is : (s : Saying) (n : ℕ) (names : Names) (d : Declarator) (o : Object) → ElabObject false s n names d o
    → (type_or_int (type_for false s (dimensions names d.dims) d) ≡ o.of) × (d.place ≡ o.place)
variable_is _ _ _ _ _ (object _ s n names d sizes of start init free sized typed is begins some) =
    (ap type_or_int (type_is false s names d sizes of sized is), refl)

-- what a declarator in a function comes to
pub declare_comes : (s : Saying) (known : Known) (d : Declarator) (o : Object) → ElabObject false s (length known.variables) known.names d o
    → declare s known d ≡ comes (variable_tree known o) (with_variable known o)
unfolding declare
declare_comes s known d o x =
    let judged = object_complete false s (length known.variables) known.names d o x in
    let names = names_are false s (length known.variables) known.names d o x in
    let variable = variable_is s (length known.variables) known.names d o x in
    λ i. record {
      made = then_made (judged i) (λ b. Fine (record { place = b.place; variable = length known.variables; init = b.init }));
      after = record {
        names = names i;
        variables = known.variables ++ record { place = variable.1 i; of = variable.0 i } ∷ [];
        taken = known.taken ++ object_taken (judged i);
      };
    }

-- a declarator in a function that is judged without a fault declares an object
declare_sound : (s : Saying) (known : Known) (d : Declarator) (t : TDeclarator) → (declare s known d).made ≡ Fine t
    → (o : Object) × ElabObject false s (length known.variables) known.names d o × (variable_tree known o ≡ t)
unfolding declare
declare_sound s known d t is =
    let parts = one_fine (declarator_judged false s (length known.variables) known.names d) (λ o. Fine (variable_tree known o)) t is in
    (parts.0, object_sound false s (length known.variables) known.names d parts.0 parts.1, fine_is (variable_tree known parts.0) t parts.2)

-- declarators that are judged without a fault declare variables
pub declared_sound : (s : Saying) (known : Known) (ds : List Declarator) (ts : List TDeclarator) → (declare_all s known ds).made ≡ Fine ts
    → ElabDeclared s known ds ts (declare_all s known ds).after
declared_sound s known [] ts is = subst (λ t. ElabDeclared s known [] t known) (fine_is [] ts is) (none_declared s known)
declared_sound s known (d ∷ ds) ts is =
    let one = declare s known d in
    let parts = both_fine one.made (declare_all s one.after ds).made (λ x xs. Fine (x ∷ xs)) ts is in
    let made = declare_sound s known d parts.0 parts.2 in
    subst (λ t. ElabDeclared s known (d ∷ ds) t (declare_all s one.after ds).after)
    (ap (λ t. t ∷ parts.1) made.2 ∙ fine_is (parts.0 ∷ parts.1) ts parts.4)
    (more_declared s known d ds made.0 parts.1 (declare_all s one.after ds).after made.1
    (subst (λ k. ElabDeclared s k ds parts.1 (declare_all s one.after ds).after) (ap (λ j. j.after) (declare_comes s known d made.0 made.1))
    (declared_sound s one.after ds parts.1 parts.3)))

-- what declarators declare is what judging makes
pub declared_complete : (s : Saying) (known : Known) (ds : List Declarator) (ts : List TDeclarator) (after : Known) → ElabDeclared s known ds ts after
    → declare_all s known ds ≡ comes ts after
declared_complete _ _ _ _ _ (none_declared s known) = refl
declared_complete _ _ _ _ _ (more_declared s known d ds o ts after one others) =
    ap (λ j. judged_before j (declare_all s j.after ds)) (declare_comes s known d o one)
    ∙ ap (λ j. judged_before (comes (variable_tree known o) (with_variable known o)) j) (declared_complete s (with_variable known o) ds ts after others)
