-- Judging an initialiser or a declarator makes no numbers.
use Rattle.std.proofs.Common.{ℕ, zero, suc, ◌+◌, ◌≡◌, refl, sym, ap, subst, Bool, true, false, not, ◌||◌, cond, List, [], ◌∷◌, ◌++◌, map, length, is_some, Option, Some, None}
use Rattle.std.specs.List.{concat}
use Rattle.k_num.specs.declared.numbers.Kind.{Kind}
use Rattle.k_num.specs.declared.place.Place.{Place}
use Rattle.k_tree.specs.declared.tree.declaration.Declarator.{Declarator}
use Rattle.k_tree.specs.declared.tree.declaration.Init.{Init, fold-Init, fold-roll-Init, ind-Init, map-Init, out-Init, roll-Init}
use Rattle.k_tree.specs.declared.tree.declaration.Init.TheOpen.{Init-F}
use Rattle.k_tree.specs.declared.tree.expression.Expr.{Expr}
use Rattle.k_types_meaning.specs.declared.fault.TypeFault.TheVariants as fault
use Rattle.k_types_meaning.specs.declared.tree.declaration.TInit.{TInit}
use Rattle.k_types_meaning.specs.declared.tree.declaration.TInit.TheVariants as begins
use Rattle.k_types_meaning.specs.declared.tree.declaration.TItem.{TItem}
use Rattle.k_types_meaning.specs.declared.tree.declaration.TItem.TheVariants as item
use Rattle.k_types_meaning.specs.declared.tree.expression.TExpr.{TExpr}
use Rattle.k_types_meaning.specs.declared.types.CType.{CType}
use Rattle.k_types_meaning.specs.declared.types.CType.TheVariants as ctype
use Rattle.k_types_meaning.specs.Bare.{bare_expr, bare_init, bare_item}
use Rattle.k_types_meaning.specs.Constants.{constant}
use Rattle.k_types_meaning.specs.Conversions.{Typed, passed}
use Rattle.k_types_meaning.specs.Declarations.{Object, Saying, begun_object, declarator_judged, declared_type, has_type, is_twice, names_behind, object_fixed, object_made, type_for}
use Rattle.k_types_meaning.specs.Dimensions.{Sizes, dimensions, room}
use Rattle.k_types_meaning.specs.Expressions.{judge}
use Rattle.k_types_meaning.specs.Initialisers.{Beginning, Giving, Items, beginning, begun, begun_step, begun_with, braces, excess, fitting, given_item, giving, giving_step, items_of_both, items_within, list_given, one_given, one_item, string_given, string_item, string_of, value_given}
use Rattle.k_types_meaning.specs.Made.{Made, Fine, all_made, refused, then_made}
use Rattle.k_types_meaning.specs.Names.{Names}
use Rattle.k_types_meaning.specs.Types.{elements}
use Rattle.k_types_bare.proofs.Expressions.{IsBareTyped, BareOption, bare_passed, judge_bare}
use Rattle.k_types_meaning.proofs.Fine.{AllOf, Anything, IfFine, IfThere, anything, both_has, cond_has, then_has}
use Rattle.k_types_bare.proofs.Nodes.{IsBare}

-- an item has no numbers
abbrev IsBareItem : TItem → Type 0
IsBareItem i = bare_item i ≡ i

-- items have no numbers
abbrev AreBareItems : Items → Type 0
AreBareItems found = AllOf IsBareItem found.items

-- an initialiser has no numbers
abbrev IsBareInit : TInit → Type 0
IsBareInit i = bare_init i ≡ i

-- an initialiser that may be none has no numbers
abbrev BareBeginning : Beginning → Type 0
BareBeginning b = IfThere IsBareInit b.init

all_items_bare : (items : List TItem) → AllOf IsBareItem items → map bare_item items ≡ items
all_items_bare [] all = refl
all_items_bare (i ∷ items) all = λ j. all.0 j ∷ all_items_bare items all.1 j

all_of_append : {A : Type 0} (P : A → Type 0) (xs ys : List A) → AllOf P xs → AllOf P ys → AllOf P (xs ++ ys)
all_of_append P [] ys h k = k
all_of_append P (x ∷ xs) ys h k = (h.0, all_of_append P xs ys h.1 k)

-- an expression in braces
given_bare : (file : Bool) (p : Place) (n : ℕ) (taken : List ℕ) (o : Option TExpr) → BareOption o → IfFine AreBareItems (given_item file p n taken o)
given_bare file p n taken None h = tt
given_bare file p n taken (Some tree) h =
    cond_has AreBareItems (not file || is_some (constant tree)) (Fine (record { items = item.Value p n tree ∷ []; taken = taken })) (refused (fault.Kinds p))
    (ap (item.Value p n) h, tt) tt

string_item_bare : (p : Place) (n : ℕ) (taken : List ℕ) (o : Option (List ℕ)) → IfFine AreBareItems (string_item p n taken o)
string_item_bare p n taken None = tt
string_item_bare p n taken (Some bytes) = (refl, tt)

one_item_bare : (file : Bool) (p : Place) (kind : Kind) (dims : List ℕ) (n : ℕ) (text : Option (List ℕ)) (v : Typed) → IsBareTyped v
    → IfFine AreBareItems (one_item file p kind dims n text v)
one_item_bare file p kind [] n text v h = given_bare file p n v.taken (passed (ctype.Number kind) v) (bare_passed (ctype.Number kind) v h)
one_item_bare file p kind (d ∷ ds) n text v h = string_item_bare p n v.taken (fitting kind ds d text)

-- what an initialiser gives has no numbers
abbrev GivesBare : Giving → Type 0
GivesBare g = (file : Bool) (kind : Kind) (dims : List ℕ) (n : ℕ) → IfFine AreBareItems (g.within file kind dims n)

both_bare : (a b : Items) → AreBareItems a → AreBareItems b → IfFine AreBareItems (items_of_both a b)
both_bare a b h k = all_of_append IsBareItem a.items b.items h k

excess_bare : (p : Place) (m : Made (List ℕ)) → IfFine AreBareItems (then_made m (λ taken. excess p))
excess_bare p m = then_has Anything AreBareItems m (λ taken. excess p) (anything m) (λ taken h. tt)

within_bare : (file : Bool) (kind : Kind) (dims : List ℕ) (count n : ℕ) (gs : List Giving) → AllOf GivesBare gs → IfFine AreBareItems (items_within file kind dims count n gs)
within_bare file kind dims count n [] all = tt
within_bare file kind dims zero n (g ∷ gs) all =
    both_has AreBareItems AreBareItems AreBareItems (then_made g.alone (λ taken. excess g.place)) (items_within file kind dims zero n gs) items_of_both
    (excess_bare g.place g.alone) (within_bare file kind dims zero n gs all.1) both_bare
within_bare file kind dims (suc count) n (g ∷ gs) all =
    both_has AreBareItems AreBareItems AreBareItems (g.within file kind dims n) (items_within file kind dims count (n + elements dims) gs) items_of_both
    (all.0 file kind dims n) (within_bare file kind dims count (n + elements dims) gs all.1) both_bare

braces_bare : (file : Bool) (p : Place) (kind : Kind) (dims : List ℕ) (n : ℕ) (gs : List Giving) → AllOf GivesBare gs → IfFine AreBareItems (braces file p kind dims n gs)
braces_bare file p kind [] n gs all =
    then_has Anything AreBareItems (all_made (map (λ (g : Giving). g.alone) gs)) (λ taken. excess p) (anything (all_made (map (λ (g : Giving). g.alone) gs))) (λ taken h. tt)
braces_bare file p kind (d ∷ ds) n gs all = within_bare file kind ds (room d) n gs all

init_if : (b : Bool) (i : TInit) → IsBareInit i → IfThere IsBareInit (cond b (Some i) None)
init_if true i h = h
init_if false i h = tt

module _ (names : Names) where
  -- what an initialiser gives has no numbers
  abbrev GivenBare : Init → Type 0
  GivenBare i = GivesBare (giving names i)

  all_given : (xs : List ((i : Init) × GivenBare i)) → AllOf GivesBare (map (giving names) (map (λ (x : (i : Init) × GivenBare i). x.0) xs))
  all_given [] = tt
  all_given (x ∷ xs) = (x.1, all_given xs)

  given_by : (y : Init-F ((i : Init) × GivenBare i)) → GivesBare (giving_step names (map-Init Init Giving (giving names) (map-Init _ Init (λ (x : (i : Init) × GivenBare i). x.0) y)))
  given_by (Init-F.One p e) file kind dims n =
      then_has IsBareTyped AreBareItems (judge names e) (one_item file p kind dims n (string_of e)) (judge_bare names e) (λ v h. one_item_bare file p kind dims n (string_of e) v h)
  given_by (Init-F.List p items comma) file kind dims n =
      braces_bare file p kind dims n (map (giving names) (map (λ (x : (i : Init) × GivenBare i). x.0) items)) (all_given items)

  giving_bare : (i : Init) → GivenBare i
  giving_bare =
      ind-Init GivenBare
      (λ x y is. subst GivesBare (sym (fold-roll-Init Giving (giving_step names) x))
      (subst (λ (z : Init-F Init). GivesBare (giving_step names (map-Init Init Giving (giving names) z))) is (given_by y)))

  all_giving : (is_ : List Init) → AllOf GivesBare (map (giving names) is_)
  all_giving [] = tt
  all_giving (i ∷ is_) = (giving_bare i, all_giving is_)

  -- with what an object begins
  value_given_bare : (file : Bool) (o : Option TExpr) → BareOption o → IfThere IsBareInit (value_given file o)
  value_given_bare file None h = tt
  value_given_bare file (Some tree) h = init_if (not file || is_some (constant tree)) (begins.Value tree) (ap begins.Value h)

  string_given_bare : (o : Option (List ℕ)) → IfThere IsBareInit (string_given o)
  string_given_bare None = tt
  string_given_bare (Some bytes) = refl

  one_given_bare : (file : Bool) (of : CType) (text : Option (List ℕ)) (v : Typed) → IsBareTyped v → IfThere IsBareInit (one_given file of text v)
  one_given_bare file ctype.Void text v h = tt
  one_given_bare file (ctype.Number kind) text v h = value_given_bare file (passed (ctype.Number kind) v) (bare_passed (ctype.Number kind) v h)
  one_given_bare file (ctype.Pointer e) text v h = value_given_bare file (passed (ctype.Pointer e) v) (bare_passed (ctype.Pointer e) v h)
  one_given_bare file (ctype.Array count e) text v h = string_given_bare (fitting e.kind e.dims count text)

  alone_bare : (gs : List Giving) → IfFine BareBeginning (then_made (all_made (map (λ (g : Giving). g.alone) gs)) (λ taken. Fine (beginning None (concat taken))))
  alone_bare gs =
      then_has Anything BareBeginning (all_made (map (λ (g : Giving). g.alone) gs)) (λ taken. Fine (beginning None (concat taken)))
      (anything (all_made (map (λ (g : Giving). g.alone) gs))) (λ taken h. tt)

  list_given_bare : (file : Bool) (of : CType) (gs : List Giving) → AllOf GivesBare gs → IfFine BareBeginning (list_given file of gs)
  list_given_bare file (ctype.Array count e) gs all =
      then_has AreBareItems BareBeginning (items_within file e.kind e.dims (room count) 0 gs) (λ found. Fine (beginning (Some (begins.Elements found.items)) found.taken))
      (within_bare file e.kind e.dims (room count) 0 gs all) (λ found h. ap begins.Elements (all_items_bare found.items h))
  list_given_bare file ctype.Void gs all = alone_bare gs
  list_given_bare file (ctype.Number kind) gs all = alone_bare gs
  list_given_bare file (ctype.Pointer e) gs all = alone_bare gs

  step_bare : (file : Bool) (of : CType) (x : Init-F Init) → IfFine BareBeginning (begun_step names file of x)
  step_bare file of (Init-F.One p e) =
      then_has IsBareTyped BareBeginning (judge names e) (λ v. Fine (beginning (one_given file of (string_of e) v) v.taken)) (judge_bare names e)
      (λ v h. one_given_bare file of (string_of e) v h)
  step_bare file of (Init-F.List p items comma) = list_given_bare file of (map (giving names) items) (all_giving items)

  with_bare : (file : Bool) (of : Option CType) (i : Init) → IfFine BareBeginning (begun_with names file of i)
  with_bare file None i =
      then_has Anything BareBeginning (giving names i).alone (λ taken. Fine (beginning (Some begins.Nothing) taken)) (anything (giving names i).alone) (λ taken h. refl)
  with_bare file (Some of) i = step_bare file of (out-Init i)

  begun_bare : (file : Bool) (of : Option CType) (i : Option Init) → IfFine BareBeginning (begun names file of i)
  unfolding begun
  begun_bare file of None = refl
  begun_bare file of (Some i) = with_bare file of i

-- a declared object begins without numbers
abbrev pub IsBareObject : Object → Type 0
IsBareObject o = bare_init o.init ≡ o.init

begun_object_bare : (p : Place) (x : List ℕ) (fixed : Bool) (taken : List ℕ) (of : Option CType) (i : Option TInit) → IfThere IsBareInit i
    → IfFine IsBareObject (begun_object p x fixed taken of i)
begun_object_bare p x fixed taken of None h = tt
begun_object_bare p x fixed taken None (Some i) h = tt
begun_object_bare p x fixed taken (Some of) (Some i) h = h

object_bare : (p : Place) (x : List ℕ) (twice typed fixed : Bool) (taken : List ℕ) (of : Option CType) (i : Option TInit) → IfThere IsBareInit i
    → IfFine IsBareObject (object_made p x twice typed fixed taken of i)
object_bare p x twice typed fixed taken of i h =
    cond_has IsBareObject twice (refused (fault.Twice x p)) (cond typed (begun_object p x fixed taken of i) (refused (fault.Kinds p))) tt
    (cond_has IsBareObject typed (begun_object p x fixed taken of i) (refused (fault.Kinds p)) (begun_object_bare p x fixed taken of i h) tt)

-- judging a declarator makes no numbers
pub declarator_bare : (file : Bool) (s : Saying) (n : ℕ) (names : Names) (d : Declarator) → IfFine IsBareObject (declarator_judged file s n names d)
unfolding declarator_judged
declarator_bare file s n names d =
    both_has Anything BareBeginning IsBareObject (dimensions names d.dims) (begun (names_behind file s n names d) file (type_for file s (dimensions names d.dims) d) d.init)
    (λ sizes start. object_made d.place d.name (is_twice names d.name) (has_type file s d) (object_fixed s.fixed d.stars)
    (sizes.taken ++ start.taken) (declared_type file s (Fine sizes) d) start.init)
    (anything (dimensions names d.dims)) (begun_bare (names_behind file s n names d) file (type_for file s (dimensions names d.dims) d) d.init)
    (λ sizes start h k. object_bare d.place d.name (is_twice names d.name) (has_type file s d) (object_fixed s.fixed d.stars)
    (sizes.taken ++ start.taken) (declared_type file s (Fine sizes) d) start.init k)
