-- The numbers with which a file object begins are of the kind of its elements (C17 6.7.9).
use Rattle.std.proofs.Common.{◌≡◌, ℕ, zero, suc, ◌+◌, pos, Bool, true, false, ◌||◌, not, cond, if◌then◌else◌, List, [], ◌∷◌, ◌++◌, map, slice_get, Option, Some, None, refl, sym, subst, ℤ}
use Rattle.std.specs.Prelude.{is_some}
use Rattle.std.specs.List.{concat, flat_map}
use Rattle.std.proofs.lemmas.Bool.{and_from, and_parts}
use Rattle.std.proofs.lemmas.Option.{cond_some, none-some, same_Some}
use Rattle.k_num.specs.declared.initial.Initial.{Initial}
use Rattle.k_num.specs.declared.numbers.Kind.{Kind}
use Rattle.k_num.specs.declared.numbers.Kind.TheVariants.{I8}
use Rattle.k_num.specs.declared.place.Place.{Place}
use Rattle.k_num.specs.Kind.{converted, is_held}
use Rattle.k_num.proofs.KindLaws.{held_converted, zero_held}
use Rattle.k_tree.specs.Literals.{NumbersOfUnitAreHeld, StringsOfUnitFit}
use Rattle.k_tree.specs.Ranked.{RankedUnit}
use Rattle.k_tree.specs.Spelling.{spelling}
use Rattle.k_tree.specs.declared.tree.declaration.Declarator.{Declarator}
use Rattle.k_tree.specs.declared.tree.declaration.Init.{Init, fold-roll-Init, ind-Init, map-Init, out-Init}
use Rattle.k_tree.specs.declared.tree.declaration.Init.TheOpen.{Init-F}
use Rattle.k_tree.specs.declared.tree.expression.Expr.{Expr}
use Rattle.k_tree.specs.declared.tree.unit.Unit as source
use Rattle.k_types_meaning.specs.declared.fault.TypeFault.TheVariants as fault
use Rattle.k_types_meaning.specs.declared.tree.declaration.TInit.{TInit}
use Rattle.k_types_meaning.specs.declared.tree.declaration.TInit.TheVariants as begins
use Rattle.k_types_meaning.specs.declared.tree.declaration.TItem.{TItem}
use Rattle.k_types_meaning.specs.declared.tree.declaration.TItem.TheVariants as item
use Rattle.k_types_meaning.specs.declared.tree.expression.TExpr.{TExpr}
use Rattle.k_types_meaning.specs.declared.tree.unit.TObject.{TObject}
use Rattle.k_types_meaning.specs.declared.tree.unit.TUnit.{TUnit}
use Rattle.k_types_meaning.specs.declared.types.CType.{CType}
use Rattle.k_types_meaning.specs.declared.types.CType.TheVariants as ctype
use Rattle.k_types_meaning.specs.Bare.{IsTyped}
use Rattle.k_types_meaning.specs.Constants.{constant, has_form, value_of}
use Rattle.k_types_meaning.specs.Conversions.{Typed, passed, passed_number}
use Rattle.k_types_meaning.specs.Declarations.{Object, Saying, declared_type, no_pointer, where_sized}
use Rattle.k_types_meaning.specs.Dimensions.{room}
use Rattle.k_types_meaning.specs.ElaboratedDeclarators.{ElabObject, names_within, object}
use Rattle.k_types_meaning.specs.Expressions.{judge}
use Rattle.k_types_meaning.specs.Initialisers.{Beginning, Giving, Items, beginning, begun, begun_step, braces, bytes_from, constant_or_zero, excess, first_values, fitting, given_item, giving, giving_step, item_numbers, items_of_both, items_within, list_given, one_given, one_item, string_given, string_item, string_of, value_given}
use Rattle.k_types_meaning.specs.Made.{Made, Fine, all_made, refused, then_made}
use Rattle.k_types_meaning.specs.Names.{Names}
use Rattle.k_types_meaning.specs.Types.{elements, number_kind, same_kind, told}
use Rattle.k_types_meaning.specs.Units.{faults}
use Rattle.k_types_meaning.proofs.Elaborates.{expressions_elaborate}
use Rattle.k_types_meaning.proofs.Fine.{AllOf, Anything, IfFine, IfThere, anything, both_has, cond_has, if_fine, then_has}
use Rattle.k_lower_texts.specs.Passing.{expr_passes, init_passes, item_passes, items_pass}
use Rattle.k_lower_texts.proofs.Sources.{IsPassing, objects_pass}
use Rattle.k_evaluation_laws.specs.Kinds.{kind_in, sort_of}
use Rattle.k_evaluation_laws.specs.Ranges.{CharactersOfUnitAreHeld, ObjectsAreInRange, initials_in_range}
use Rattle.k_evaluation_laws.proofs.Formats.{asks, formats_follow, literals_pass, numbers_follow}
use Rattle.k_evaluation_laws.proofs.Slots.{one_kind}
use Rattle.k_evaluation_laws.proofs.Constants.{HeldAs, IsHeld, Ranged, by_kind, constants_held, in_kind_held}

-- NUMBERS of a kind
abbrev AreOf : Kind → List Initial → Type 0
AreOf kind numbers = initials_in_range kind numbers ≡ true

joined_of : (kind : Kind) (xs ys : List Initial) → AreOf kind xs → AreOf kind ys → AreOf kind (xs ++ ys)
joined_of kind [] ys h k = k
joined_of kind (x ∷ xs) ys h k =
    let p = and_parts (is_held kind x.number) (initials_in_range kind xs) h in
    and_from (is_held kind x.number) (initials_in_range kind (xs ++ ys)) p.0 (joined_of kind xs ys p.1 k)

split_of : (kind : Kind) (xs ys : List Initial) → AreOf kind (xs ++ ys) → AreOf kind xs × AreOf kind ys
split_of kind [] ys h = (refl, h)
split_of kind (x ∷ xs) ys h =
    let p = and_parts (is_held kind x.number) (initials_in_range kind (xs ++ ys)) h in
    let q = split_of kind xs ys p.1 in
    (and_from (is_held kind x.number) (initials_in_range kind xs) p.0 q.0, q.1)

-- those of items
abbrev NumbersOf : Kind → List TItem → Type 0
NumbersOf kind items = AreOf kind (flat_map item_numbers items)

numbers_joined : (kind : Kind) (xs ys : List TItem) → NumbersOf kind xs → NumbersOf kind ys → NumbersOf kind (xs ++ ys)
numbers_joined kind [] ys h k = k
numbers_joined kind (x ∷ xs) ys h k =
    let p = split_of kind (item_numbers x) (flat_map item_numbers xs) h in
    joined_of kind (item_numbers x) (flat_map item_numbers (xs ++ ys)) p.0 (numbers_joined kind xs ys p.1 k)

items_split : (xs ys : List TItem) → items_pass asks (xs ++ ys) ≡ true → (items_pass asks xs ≡ true) × (items_pass asks ys ≡ true)
items_split [] ys h = (refl, h)
items_split (x ∷ xs) ys h =
    let p = and_parts (item_passes asks x) (items_pass asks (xs ++ ys)) h in
    let q = items_split xs ys p.1 in
    (and_from (item_passes asks x) (items_pass asks xs) p.0 q.0, q.1)

-- THE NUMBER that an expression gives, and those of a string
begins_held : (kind : Kind) (e : TExpr) → HeldAs kind (value_of e) → is_held kind (constant_or_zero (constant e)) ≡ true
unfolding constant
begins_held kind e h = by (has_form e)
  where
    given : (o : Option ℤ) → HeldAs kind o → is_held kind (constant_or_zero o) ≡ true
    given None held = zero_held kind
    given (Some z) held = held

    by : (b : Bool) → is_held kind (constant_or_zero (if b then value_of e else None)) ≡ true
    by true = given (value_of e) h
    by false = zero_held kind

bytes_are : (n : ℕ) (bytes : List ℕ) → AreOf I8 (bytes_from n bytes)
bytes_are n [] = refl
bytes_are n (b ∷ bytes) = and_from (is_held I8 (converted I8 (pos b))) (initials_in_range I8 (bytes_from (n + 1) bytes)) (held_converted I8 (pos b)) (bytes_are (n + 1) bytes)

-- a string begins an array of char alone
fits_char : (kind : Kind) (ds : List ℕ) (count : ℕ) (text : Option (List ℕ)) (bytes : List ℕ) → fitting kind ds count text ≡ Some bytes → same_kind kind I8 ≡ true
fits_char kind ds count None bytes is = absurd (none-some bytes is)
fits_char kind (d ∷ ds) count (Some text) bytes is = absurd (none-some bytes is)
fits_char kind [] count (Some text) bytes is = (and_parts (same_kind kind I8) _ (cond_some _ text bytes is).0).0

string_numbers : (kind : Kind) (n : ℕ) (bytes : List ℕ) → same_kind kind I8 ≡ true → AreOf kind (bytes_from n bytes ++ [])
string_numbers kind n bytes char = joined_of kind (bytes_from n bytes) [] (subst (λ (k : Kind). AreOf k (bytes_from n bytes)) (sym (one_kind kind I8 char)) (bytes_are n bytes)) refl

-- WHAT IS PASSED to a number of a kind
abbrev IsGiven : Kind → TExpr → Type 0
IsGiven kind e = Ranged e → HeldAs kind (value_of e)

passed_held : (kind : Kind) (v : Typed) → IsHeld v → IfThere (IsGiven kind) (passed (ctype.Number kind) v)
unfolding passed
passed_held kind v h = by (number_kind v.of) refl
  where
    by : (o : Option Kind) → number_kind v.of ≡ o → IfThere (IsGiven kind) (passed_number kind v.tree o)
    by None is = tt
    by (Some from) is = in_kind_held from kind v.tree (λ ranged. by_kind v.of from (value_of v.tree) is (h ranged))

module _ (names : Names) where
  judged : (e : Expr) → IfFine IsHeld (judge names e)
  judged e = if_fine IsHeld (judge names e) (λ v is. constants_held names e v ((expressions_elaborate names e v).0 is))

module _ (kind : Kind) where
  -- ITEMS OF BRACES
  abbrev ItemsHeld : Items → Type 0
  ItemsHeld found = items_pass asks found.items ≡ true → NumbersOf kind found.items

  given_held : (p : Place) (n : ℕ) (taken : List ℕ) (o : Option TExpr) → IfThere (IsGiven kind) o → IfFine ItemsHeld (given_item true p n taken o)
  given_held p n taken None h = tt
  given_held p n taken (Some e) h =
      cond_has ItemsHeld (not true || is_some (constant e)) (Fine (record { items = item.Value p n e ∷ []; taken = taken })) (refused (fault.Kinds p))
      (λ passes. and_from (is_held kind (constant_or_zero (constant e))) true (begins_held kind e (h (and_parts (expr_passes asks e) true passes).0)) refl) tt

  string_held : (p : Place) (n : ℕ) (taken : List ℕ) (o : Option (List ℕ)) → ((bytes : List ℕ) → o ≡ Some bytes → same_kind kind I8 ≡ true) → IfFine ItemsHeld (string_item p n taken o)
  string_held p n taken None char = tt
  string_held p n taken (Some bytes) char = λ passes. string_numbers kind n bytes (char bytes refl)

  one_held : (p : Place) (ds : List ℕ) (n : ℕ) (text : Option (List ℕ)) (v : Typed) → IsHeld v → IfFine ItemsHeld (one_item true p kind ds n text v)
  one_held p [] n text v h = given_held p n v.taken (passed (ctype.Number kind) v) (passed_held kind v h)
  one_held p (d ∷ ds) n text v h = string_held p n v.taken (fitting kind ds d text) (λ bytes is. fits_char kind ds d text bytes is)

  -- what an initialiser gives
  abbrev GivesHeld : Giving → Type 0
  GivesHeld g = (ds : List ℕ) (n : ℕ) → IfFine ItemsHeld (g.within true kind ds n)

  both_held : (a b : Items) → ItemsHeld a → ItemsHeld b → IfFine ItemsHeld (items_of_both a b)
  both_held a b h k = λ passes. let p = items_split a.items b.items passes in numbers_joined kind a.items b.items (h p.0) (k p.1)

  excess_held : (p : Place) (m : Made (List ℕ)) → IfFine ItemsHeld (then_made m (λ taken. excess p))
  excess_held p m = then_has Anything ItemsHeld m (λ taken. excess p) (anything m) (λ taken h. tt)

  within_held : (ds : List ℕ) (count n : ℕ) (gs : List Giving) → AllOf GivesHeld gs → IfFine ItemsHeld (items_within true kind ds count n gs)
  within_held ds count n [] all = λ passes. refl
  within_held ds zero n (g ∷ gs) all =
      both_has ItemsHeld ItemsHeld ItemsHeld (then_made g.alone (λ taken. excess g.place)) (items_within true kind ds zero n gs) items_of_both (excess_held g.place g.alone) (within_held ds zero n gs all.1) both_held
  within_held ds (suc count) n (g ∷ gs) all =
      both_has ItemsHeld ItemsHeld ItemsHeld (g.within true kind ds n) (items_within true kind ds count (n + elements ds) gs) items_of_both (all.0 ds n) (within_held ds count (n + elements ds) gs all.1) both_held

  braces_held : (p : Place) (ds : List ℕ) (n : ℕ) (gs : List Giving) → AllOf GivesHeld gs → IfFine ItemsHeld (braces true p kind ds n gs)
  braces_held p [] n gs all =
      then_has Anything ItemsHeld (all_made (map (λ (g : Giving). g.alone) gs)) (λ taken. excess p) (anything (all_made (map (λ (g : Giving). g.alone) gs))) (λ taken h. tt)
  braces_held p (d ∷ ds) n gs all = within_held ds (room d) n gs all

  module _ (names : Names) where
    abbrev Given : Init → Type 0
    Given i = GivesHeld (giving names i)

    abbrev inits : List ((i : Init) × Given i) → List Init
    inits xs = map (λ (x : (i : Init) × Given i). x.0) xs

    all_given : (xs : List ((i : Init) × Given i)) → AllOf GivesHeld (map (giving names) (inits xs))
    all_given [] = tt
    all_given (x ∷ xs) = (x.1, all_given xs)

    abbrev Layer : Init-F Init → Type 0
    Layer z = GivesHeld (giving_step names (map-Init Init Giving (giving names) z))

    given_by : (y : Init-F ((i : Init) × Given i)) → Layer (map-Init _ Init (λ (x : (i : Init) × Given i). x.0) y)
    given_by (Init-F.One p e) ds n = then_has IsHeld ItemsHeld (judge names e) (one_item true p kind ds n (string_of e)) (judged names e) (λ v h. one_held p ds n (string_of e) v h)
    given_by (Init-F.List p items comma) ds n = braces_held p ds n (map (giving names) (inits items)) (all_given items)

    giving_held : (i : Init) → Given i
    giving_held = ind-Init Given (λ x y is. subst GivesHeld (sym (fold-roll-Init Giving (giving_step names) x)) (subst Layer is (given_by y)))

    all_giving : (items : List Init) → AllOf GivesHeld (map (giving names) items)
    all_giving [] = tt
    all_giving (i ∷ items) = (giving_held i, all_giving items)

  -- AN INITIALISER
  abbrev InitHeld : TInit → Type 0
  InitHeld i = init_passes asks i ≡ true → AreOf kind (first_values i)

  value_held : (o : Option TExpr) → IfThere (IsGiven kind) o → IfThere InitHeld (value_given true o)
  value_held None h = tt
  value_held (Some e) h = by (not true || is_some (constant e))
    where
      by : (b : Bool) → IfThere InitHeld (cond b (Some (begins.Value e)) None)
      by true = λ passes. and_from (is_held kind (constant_or_zero (constant e))) true (begins_held kind e (h passes)) refl
      by false = tt

  text_held : (o : Option (List ℕ)) → ((bytes : List ℕ) → o ≡ Some bytes → same_kind kind I8 ≡ true) → IfThere InitHeld (string_given o)
  text_held None char = tt
  text_held (Some bytes) char = λ passes. string_numbers kind 0 bytes (char bytes refl)

-- no file object is a pointer
abbrev NoPointer : CType → Type 0
NoPointer ctype.Void = Unit {0}
NoPointer (ctype.Number kind) = Unit {0}
NoPointer (ctype.Pointer e) = ⊥
NoPointer (ctype.Array n e) = Unit {0}

no_pointers : (sized : Bool) (o : Option CType) (of : CType) → where_sized sized (no_pointer true o) ≡ Some of → NoPointer of
no_pointers false o of is = absurd (none-some of is)
no_pointers true None of is = absurd (none-some of is)
no_pointers true (Some ctype.Void) of is = absurd (none-some of is)
no_pointers true (Some (ctype.Number kind)) of is = subst NoPointer (same_Some (ctype.Number kind) of is) tt
no_pointers true (Some (ctype.Pointer e)) of is = absurd (none-some of is)
no_pointers true (Some (ctype.Array n e)) of is = subst NoPointer (same_Some (ctype.Array n e) of is) tt

-- the kind of the elements of an object
abbrev kind_of : CType → Kind
kind_of of = kind_in (sort_of (told of))

abbrev BeginsHeld : CType → Beginning → Type 0
BeginsHeld of b = IfThere (InitHeld (kind_of of)) b.init

module _ (names : Names) where
  one_begins : (of : CType) (text : Option (List ℕ)) (v : Typed) → NoPointer of → IsHeld v → IfThere (InitHeld (kind_of of)) (one_given true of text v)
  one_begins ctype.Void text v plain h = tt
  one_begins (ctype.Number kind) text v plain h = value_held kind (passed (ctype.Number kind) v) (passed_held kind v h)
  one_begins (ctype.Pointer e) text v plain h = absurd plain
  one_begins (ctype.Array count e) text v plain h = text_held e.kind (fitting e.kind e.dims count text) (λ bytes is. fits_char e.kind e.dims count text bytes is)

  alone_begins : (of : CType) (gs : List Giving) → IfFine (BeginsHeld of) (then_made (all_made (map (λ (g : Giving). g.alone) gs)) (λ taken. Fine (beginning None (concat taken))))
  alone_begins of gs =
      then_has Anything (BeginsHeld of) (all_made (map (λ (g : Giving). g.alone) gs)) (λ taken. Fine (beginning None (concat taken)))
      (anything (all_made (map (λ (g : Giving). g.alone) gs))) (λ taken h. tt)

  list_begins : (of : CType) (items : List Init) → IfFine (BeginsHeld of) (list_given true of (map (giving names) items))
  list_begins (ctype.Array count e) items =
      then_has (ItemsHeld e.kind) (BeginsHeld (ctype.Array count e)) (items_within true e.kind e.dims (room count) 0 (map (giving names) items))
      (λ found. Fine (beginning (Some (begins.Elements found.items)) found.taken)) (within_held e.kind e.dims (room count) 0 (map (giving names) items) (all_giving e.kind names items)) (λ found h. h)
  list_begins ctype.Void items = alone_begins ctype.Void (map (giving names) items)
  list_begins (ctype.Number kind) items = alone_begins (ctype.Number kind) (map (giving names) items)
  list_begins (ctype.Pointer e) items = alone_begins (ctype.Pointer e) (map (giving names) items)

  step_begins : (of : CType) (x : Init-F Init) → NoPointer of → IfFine (BeginsHeld of) (begun_step names true of x)
  step_begins of (Init-F.One p e) plain =
      then_has IsHeld (BeginsHeld of) (judge names e) (λ v. Fine (beginning (one_given true of (string_of e) v) v.taken)) (judged names e) (λ v h. one_begins of (string_of e) v plain h)
  step_begins of (Init-F.List p items comma) plain = list_begins of items

  begun_held : (of : CType) (o : Option Init) → NoPointer of → IfFine (BeginsHeld of) (begun names true (Some of) o)
  unfolding begun
  begun_held of None plain = λ passes. refl
  begun_held of (Some i) plain = step_begins of (out-Init i) plain

-- A FILE OBJECT begins with numbers of its kind
object_held : (file : Bool) (s : Saying) (n : ℕ) (names : Names) (d : Declarator) (o : Object) → file ≡ true → ElabObject file s n names d o → InitHeld (kind_of o.of) o.init
object_held _ _ _ _ _ _ is_file (object file s n names d sizes of start init twice dims has declared gave is) =
    let plain : NoPointer of = no_pointers _ _ of (subst (λ (f : Bool). declared_type f s (Fine sizes) d ≡ Some of) is_file declared) in
    let begun_so : begun (names_within true s n names d of) true (Some of) d.init ≡ Fine start =
    subst (λ (f : Bool). begun (names_within f s n names d of) f (Some of) d.init ≡ Fine start) is_file gave in
    subst (IfThere (InitHeld (kind_of of))) is (subst (IfFine (BeginsHeld of)) begun_so (begun_held (names_within true s n names d of) of d.init plain))

there : (os : List TObject) (n : ℕ) (o : TObject) → slice_get os n ≡ Some o → AllOf (IsPassing asks) os → IsPassing asks o
there [] n o is all = absurd (none-some o is)
there (x ∷ os) zero o is all = subst (IsPassing asks) (same_Some x o is) all.0
there (x ∷ os) (suc n) o is all = there os n o is all.1

pub objects_in_range : (unit : source.Unit) (typed : TUnit) → RankedUnit unit → IsTyped unit typed → faults unit ≡ [] → StringsOfUnitFit unit → NumbersOfUnitAreHeld unit → CharactersOfUnitAreHeld unit
    → ObjectsAreInRange typed
objects_in_range unit typed ranks h none strings numbers characters n o is =
    let all : AllOf (IsPassing asks) typed.objects =
    objects_pass asks unit typed formats_follow numbers_follow (literals_pass (spelling unit) strings numbers characters) (λ of k f at gives. refl) ranks h none in
    let x : IsPassing asks o = there typed.objects n o is all in
    subst (λ (y : TObject). initials_in_range (kind_in (sort_of y.of)) y.first ≡ true) x.is (object_held true x.saying x.number x.names x.declarator x.declared refl x.means x.passes)
