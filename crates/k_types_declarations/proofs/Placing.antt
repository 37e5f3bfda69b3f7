-- File objects that are declared one after the other.
use Rattle.std.proofs.Common.{◌≡◌, inl, inr, ℕ, true, ◌+◌, ◌<◌, ◌≤◌, List, [], ◌∷◌, ◌++◌, Ok, drop, get_or, length, refl, sym, ap, ◌∙◌, subst, append_assoc, append-nil}
use Rattle.std.proofs.lemmas.List.{drop_all, length-append}
use Rattle.k_num.specs.declared.initial.Initial.{Initial}
use Rattle.k_tree.specs.declared.tree.declaration.Declarator.{Declarator}
use Rattle.k_types_meaning.specs.declared.fault.TypeFault.{TypeFault}
use Rattle.k_types_meaning.specs.declared.types.TType.{TType}
use Rattle.k_types_meaning.specs.declared.tree.unit.TObject.{TObject}
use Rattle.k_types_meaning.specs.Declarations.{Object, Saying, declarator_judged, names_behind}
use Rattle.k_types_meaning.specs.Initialisers.{first_values}
use Rattle.k_types_meaning.specs.Made.{Made, Fine, Faulty, both, then_made}
use Rattle.k_types_meaning.specs.Names.{Names}
use Rattle.k_types_meaning.specs.Types.{count_of, told}
use Rattle.k_types_meaning.specs.Units.{FileKnown, Parts, Placed, object_part, object_placed, objects_placed, parts_of_both}
use Rattle.k_types_rules.specs.Views.{Refuses}
use Rattle.k_types_declarations.specs.declared.declarator.Begun.{Begun}
use Rattle.k_types_declarations.specs.Results.{PlacesObject, PlacesObjects}
use Rattle.k_types_declarations.proofs.Lists.{refuses_both, refuses_then, rest_from}

-- objects before those of other parts
abbrev pub objects_before : List TObject → Made Parts → Made Parts
objects_before made (Fine p) = Fine (record { objects = made ++ p.objects; functions = p.functions })
objects_before made (Faulty f fs) = Faulty f fs

none_before : (m : Made Parts) → objects_before [] m ≡ m
none_before (Fine p) = refl
none_before (Faulty f fs) = refl

-- one object
abbrev one_object : TObject → Parts
one_object o = record { objects = o ∷ []; functions = [] }

one_more : (made : List TObject) (o : TObject) (m rest : Made Parts) → m ≡ Fine (one_object o)
    → objects_before made (both m rest parts_of_both) ≡ objects_before (made ++ o ∷ []) rest
one_more made o m rest is = ap (λ v. objects_before made (both v rest parts_of_both)) is ∙ behind made o rest
  where
    behind : (made : List TObject) (o : TObject) (rest : Made Parts)
        → objects_before made (both (Fine (one_object o)) rest parts_of_both) ≡ objects_before (made ++ o ∷ []) rest
    behind made o (Fine p) = ap (λ l. Fine (record { objects = l; functions = p.functions })) (sym (append_assoc made (o ∷ []) p.objects))
    behind made o (Faulty f fs) = refl

refuses_behind : (f : TypeFault) (made : List TObject) (m : Made Parts) → Refuses f m → Refuses f (objects_before made m)
refuses_behind f made m (inl is) = inl is
refuses_behind f made (Fine p) (inr none) = absurd none
refuses_behind f made (Faulty g gs) (inr is) = inr is

-- what is known at file scope
abbrev pub known_with : Names → ℕ → List (List ℕ) → FileKnown
known_with names objects functions = record { names = names; objects = objects; functions = functions }

-- a file object was declared
pub place_goes : (s : Saying) (names : Names) (n : ℕ) (functions : List (List ℕ)) (d : Declarator) (b : Begun) (object : Object) (behind : Names)
    → (of : TType) (count : ℕ) (first : List Initial)
    → declarator_judged true s n names d ≡ Fine object → object.place ≡ d.place → object.of ≡ b.of → object.init ≡ b.init → behind ≡ names_behind true s n names d
    → of ≡ told b.of → count ≡ count_of b.of → first ≡ first_values b.init
    → PlacesObject (Ok (record { place = d.place; of = of; elements = count; first = first })) behind (object_placed s (known_with names n functions) d)
place_goes s names n functions d b object behind of count first judged place type_is begins names_is of_is count_is first_is = (
  ap (λ m. then_made m object_part) judged
      ∙ (λ i. Fine (record {
        objects = record {
          place = place i;
          of = (ap told type_is ∙ sym of_is) i;
          elements = (ap count_of type_is ∙ sym count_is) i;
          first = (ap first_values begins ∙ sym first_is) i;
        } ∷ [];
        functions = [];
      })),
  names_is,
)

-- a file object was not declared
pub place_refused : (s : Saying) (names : Names) (n : ℕ) (functions : List (List ℕ)) (d : Declarator) (f : TypeFault)
    → Refuses f (declarator_judged true s n names d) → Refuses f (object_placed s (known_with names n functions) d).made
place_refused s names n functions d f refuses = refuses_then f (declarator_judged true s n names d) object_part refuses

module _ (s : Saying) (list : List Declarator) (functions : List (List ℕ)) (whole : Placed) where
  -- what the declarators from one on come to
  abbrev from : ℕ → Names → ℕ → Placed
  from i names objects = objects_placed s (known_with names objects functions) (drop i list)

  -- the declarators before one were declared, and with those from it on they come to the whole
  abbrev pub PlacesSoFar : ℕ → Names → List TObject → List TObject → Type 0
  PlacesSoFar i names older newer =
      (made : List TObject)
      × (objects_before made (from i names (length newer)).made ≡ whole.made)
      × ((from i names (length newer)).after ≡ whole.after)
      × (newer ≡ older ++ made)

  -- none was declared
  pub places_none : (names : Names) (older : List TObject) → objects_placed s (known_with names (length older) functions) list ≡ whole
      → PlacesSoFar 0 names older older
  places_none names older is =
      ([], none_before (from 0 names (length older)).made ∙ ap (λ (p : Placed). p.made) is, ap (λ (p : Placed). p.after) is, sym (append-nil older))

  -- one more was declared
  pub places_more : (i : ℕ) (d : Declarator) (o : TObject) (names next : Names) (older middle newer : List TObject)
      → i < length list → d ≡ get_or list i d → PlacesSoFar i names older middle
      → PlacesObject (Ok o) next (object_placed s (known_with names (length middle) functions) d) → newer ≡ middle ++ o ∷ []
      → PlacesSoFar (i + 1) next older newer
  places_more i d o names next older middle newer inside is (made, so_far, last, put) (fine, behind) added =
      let known : FileKnown = known_with names (length middle) functions in
      let count : length newer ≡ length middle + 1 = ap length added ∙ length-append middle (o ∷ []) in
      let after : known_with next (length newer) functions ≡ (object_placed s known d).after =
      (λ j. known_with (behind j) (count j) functions) in (
        made ++ o ∷ [],
        ap (λ k. objects_before (made ++ o ∷ []) (objects_placed s k (drop (i + 1) list)).made) after
            ∙ (sym (one_more made o (object_placed s known d).made (objects_placed s (object_placed s known d).after (drop (i + 1) list)).made fine)
            ∙ (ap (λ rest. objects_before made (objects_placed s known rest).made) (sym (rest_from list i d inside is)) ∙ so_far)),
        ap (λ k. (objects_placed s k (drop (i + 1) list)).after) after
            ∙ (ap (λ rest. (objects_placed s known rest).after) (sym (rest_from list i d inside is)) ∙ last),
        added ∙ (ap (λ l. l ++ o ∷ []) put ∙ append_assoc older made (o ∷ [])),
      )

  -- all were declared
  pub places_all : (i : ℕ) (names : Names) (older newer : List TObject) → length list ≤ i → PlacesSoFar i names older newer
      → PlacesObjects (Ok tt) older newer names functions whole
  places_all i names older newer end (made, so_far, last, put) =
      let known : FileKnown = known_with names (length newer) functions in (
        made,
        sym so_far
            ∙ (ap (λ rest. objects_before made (objects_placed s known rest).made) (drop_all i list end)
            ∙ ap (λ l. Fine (record { objects = l; functions = [] })) (append-nil made)),
        put,
        sym last ∙ ap (λ rest. (objects_placed s known rest).after) (drop_all i list end),
      )

  -- one has a fault
  pub places_refused : (i : ℕ) (d : Declarator) (names : Names) (older middle : List TObject) (f : TypeFault)
      → i < length list → d ≡ get_or list i d → PlacesSoFar i names older middle
      → Refuses f (object_placed s (known_with names (length middle) functions) d).made → Refuses f whole.made
  places_refused i d names older middle f inside is (made, so_far, _, _) refuses =
      let known : FileKnown = known_with names (length middle) functions in
      subst (Refuses f) so_far
      (refuses_behind f made (objects_placed s known (drop i list)).made
      (subst (λ rest. Refuses f (objects_placed s known rest).made) (sym (rest_from list i d inside is))
      (refuses_both f (object_placed s known d).made (objects_placed s (object_placed s known d).after (drop (i + 1) list)).made parts_of_both refuses)))
