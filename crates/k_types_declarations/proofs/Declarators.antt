-- What a declarator comes to, by what its parts come to.
use Rattle.std.proofs.Common.{◌≡◌, inl, inr, ℕ, Bool, true, false, List, ◌++◌, Option, Some, None, Result, Ok, Err, refl, sym, ap, ◌∙◌, subst}
use Rattle.k_num.specs.declared.place.Place.{Place}
use Rattle.k_tree.specs.declared.tree.declaration.Declarator.{Declarator}
use Rattle.k_types_meaning.specs.declared.fault.TypeFault.{TypeFault}
use Rattle.k_types_meaning.specs.declared.types.CType.{CType}
use Rattle.k_types_meaning.specs.declared.tree.declaration.TInit.{TInit}
use Rattle.k_types_meaning.specs.declared.tree.declaration.TInit.TheVariants as begins
use Rattle.k_types_meaning.specs.Declarations.{Object, Saying, as_meaning, declarator_judged, declared_type, entered, has_type, is_sized, is_twice, names_behind, object_fixed, object_made, type_for, type_or_int, where_sized}
use Rattle.k_types_meaning.specs.Dimensions.{Sizes, dimensions}
use Rattle.k_types_meaning.specs.Initialisers.{Beginning, begun}
use Rattle.k_types_meaning.specs.Made.{Made, Fine, Faulty, both}
use Rattle.k_types_meaning.specs.Names.{Names}
use Rattle.k_types_rules.specs.Views.{Refuses}
use Rattle.k_types_declarations.specs.declared.declarator.Begun.{Begun}
use Rattle.k_types_declarations.specs.Objects.{Comes, MakesObject, kept_option}
use Rattle.k_types_declarations.proofs.Lists.{refuses_both}

-- a fault of the second of two parts, of which the first is made
refuses_second : {A B C : Type 0} (f : TypeFault) (a : A) (m : Made B) (next : A → B → Made C) → Refuses f m → Refuses f (both (Fine a) m next)
refuses_second f a m next (inl is) = inl is
refuses_second f a (Fine b) next (inr none) = absurd none
refuses_second f a (Faulty g gs) next (inr is) = inr is

-- where a size is wrong, all that is asked of that with which an object begins is whether there is any
made_of_kept : (p : Place) (x : List ℕ) (twice typed fixed sized : Bool) (taken : List ℕ) (of : Option CType) (init : Option TInit)
    → object_made p x twice typed fixed taken (where_sized sized of) (kept_option sized init)
    ≡ object_made p x twice typed fixed taken (where_sized sized of) init
made_of_kept p x twice typed fixed true taken of None = refl
made_of_kept p x twice typed fixed true taken of (Some begins.Nothing) = refl
made_of_kept p x twice typed fixed true taken of (Some (begins.Value e)) = refl
made_of_kept p x twice typed fixed true taken of (Some (begins.Elements items)) = refl
made_of_kept p x twice typed fixed false taken of None = refl
made_of_kept p x twice typed fixed false taken of (Some init) = refl

module _ (file : Bool) (s : Saying) (n : ℕ) (names : Names) (d : Declarator) where
  -- the names behind the declarator, by its type
  abbrev behind : Option CType → Names
  behind of = entered d.name (as_meaning file n (type_or_int of) (object_fixed s.fixed d.stars)) names

  -- the object, by its sizes and its beginning
  abbrev next : Sizes → Beginning → Made Object
  next sizes start =
      object_made d.place d.name (is_twice names d.name) (has_type file s d) (object_fixed s.fixed d.stars)
      (sizes.taken ++ start.taken) (declared_type file s (Fine sizes) d) start.init

  -- the declarator, by its sizes
  abbrev by_sizes : Made Sizes → Made Object
  by_sizes m = both m (begun (behind (type_for file s m d)) file (type_for file s m d) d.init) next

  whole : declarator_judged file s n names d ≡ by_sizes (dimensions names d.dims)
  unfolding declarator_judged
  whole = refl

  -- a fault of the sizes is that of the declarator
  pub sizes_refused : (f : TypeFault) → Refuses f (dimensions names d.dims) → Refuses f (declarator_judged file s n names d)
  sizes_refused f refuses =
      subst (Refuses f) (sym whole)
      (refuses_both f (dimensions names d.dims)
      (begun (behind (type_for file s (dimensions names d.dims) d)) file (type_for file s (dimensions names d.dims) d) d.init) next refuses)

  -- an object was made, or it has a fault
  finishes : (result : Result Begun TypeFault) (m : Made Object) (of : Option CType) (taken older newer : List ℕ) (known : Names)
      → declarator_judged file s n names d ≡ m → newer ≡ older ++ taken → known ≡ names_behind file s n names d
      → type_for file s (dimensions names d.dims) d ≡ of → MakesObject result d.place d.name (object_fixed s.fixed d.stars) taken of m
      → Comes result file s n names d older newer known
  finishes (Ok b) m of taken older newer known judged put behind_is type_is (fine, is) = (taken, judged ∙ fine, put, behind_is, type_is ∙ is)
  finishes (Err f) m of taken older newer known judged put behind_is type_is refuses = subst (Refuses f) (sym judged) refuses

  module _ (found : Sizes) (of : Option CType) (known : Names) where
    judged_is : dimensions names d.dims ≡ Fine found → of ≡ type_for file s (Fine found) d → known ≡ behind of
        → declarator_judged file s n names d ≡ both (Fine found) (begun known file of d.init) next
    judged_is sizes type_is known_is =
        whole
        ∙ (ap by_sizes sizes
        ∙ (ap (λ o. both (Fine found) (begun (behind o) file o d.init) next) (sym type_is)
        ∙ ap (λ k. both (Fine found) (begun k file of d.init) next) (sym known_is)))

    -- a fault of the initialiser is that of the declarator
    pub begun_refused : (f : TypeFault) → dimensions names d.dims ≡ Fine found → of ≡ type_for file s (Fine found) d → known ≡ behind of
        → Refuses f (begun known file of d.init) → Refuses f (declarator_judged file s n names d)
    begun_refused f sizes type_is known_is refuses =
        subst (Refuses f) (sym (judged_is sizes type_is known_is)) (refuses_second f found (begun known file of d.init) next refuses)

    -- all parts were judged
    pub comes : (result : Result Begun TypeFault) (told init : Option TInit) (more older newer : List ℕ) (twice typed sized : Bool)
        → dimensions names d.dims ≡ Fine found → of ≡ type_for file s (Fine found) d → known ≡ behind of
        → begun known file of d.init ≡ Fine (record { init = init; taken = more })
        → told ≡ kept_option sized init
        → newer ≡ older ++ (found.taken ++ more)
        → twice ≡ is_twice names d.name → typed ≡ has_type file s d → sized ≡ is_sized (Fine found) d
        → ((fixed : Bool) (taken : List ℕ) → MakesObject result d.place d.name fixed taken of (object_made d.place d.name twice typed fixed taken (where_sized sized of) told))
        → Comes result file s n names d older newer known
    comes result told init more older newer twice typed sized sizes type_is known_is begun_is kept_is put twice_is typed_is sized_is makes =
        let taken : List ℕ = found.taken ++ more in
        let fixed : Bool = object_fixed s.fixed d.stars in
        finishes result (object_made d.place d.name (is_twice names d.name) (has_type file s d) fixed taken (declared_type file s (Fine found) d) init)
        of taken older newer known
        (judged_is sizes type_is known_is ∙ ap (λ b. both (Fine found) b next) begun_is)
        put
        (known_is ∙ ap behind (type_is ∙ ap (λ m. type_for file s m d) (sym sizes)))
        (ap (λ m. type_for file s m d) sizes ∙ sym type_is)
        (subst (λ o. MakesObject result d.place d.name fixed taken of (object_made d.place d.name (is_twice names d.name) (has_type file s d) fixed taken o init))
        (λ i. where_sized (sized_is i) (type_is i))
        (subst (λ b. MakesObject result d.place d.name fixed taken of (object_made d.place d.name (is_twice names d.name) b fixed taken (where_sized sized of) init)) typed_is
        (subst (λ b. MakesObject result d.place d.name fixed taken of (object_made d.place d.name b typed fixed taken (where_sized sized of) init)) twice_is
        (subst (MakesObject result d.place d.name fixed taken of)
        (ap (object_made d.place d.name twice typed fixed taken (where_sized sized of)) kept_is ∙ made_of_kept d.place d.name twice typed fixed sized taken of init)
        (makes fixed taken)))))
