-- With what a declared variable begins fits it.
use Rattle.std.proofs.Common.{◌≡◌, ℕ, zero, suc, ◌+◌, Bool, true, false, ◌&&◌, ◌||◌, not, cond, List, [], ◌∷◌, ◌++◌, map, length, Option, Some, None, refl, sym, subst}
use Rattle.std.specs.Prelude.{is_some, nat_le}
use Rattle.std.specs.List.{concat}
use Rattle.std.proofs.lemmas.Bool.{and_from, and_parts}
use Rattle.k_num.specs.declared.numbers.Kind.{Kind}
use Rattle.k_num.specs.declared.numbers.Kind.TheVariants.{I8}
use Rattle.k_num.specs.declared.place.Place.{Place}
use Rattle.k_tree.specs.declared.tree.declaration.Init.{Init, fold-roll-Init, ind-Init, map-Init, out-Init}
use Rattle.k_tree.specs.declared.tree.declaration.Init.TheOpen.{Init-F}
use Rattle.k_tree.specs.declared.tree.expression.Expr.{Expr}
use Rattle.k_types_meaning.specs.declared.fault.TypeFault.TheVariants as fault
use Rattle.k_types_meaning.specs.declared.tree.declaration.TInit.{TInit}
use Rattle.k_types_meaning.specs.declared.tree.declaration.TInit.TheVariants as begins
use Rattle.k_types_meaning.specs.declared.tree.declaration.TItem.{TItem}
use Rattle.k_types_meaning.specs.declared.tree.declaration.TItem.TheVariants as item
use Rattle.k_types_meaning.specs.declared.tree.expression.TExpr.{TExpr}
use Rattle.k_types_meaning.specs.declared.types.CType.{CType}
use Rattle.k_types_meaning.specs.declared.types.CType.TheVariants as ctype
use Rattle.k_types_meaning.specs.Constants.{constant}
use Rattle.k_types_meaning.specs.Conversions.{Typed, passed}
use Rattle.k_types_meaning.specs.Dimensions.{room}
use Rattle.k_types_meaning.specs.Expressions.{judge}
use Rattle.k_types_meaning.specs.Initialisers.{Beginning, Giving, Items, beginning, begun, begun_step, braces, excess, fitting, given_item, giving, giving_step, items_of_both, items_within, list_given, one_given, one_item, string_given, string_item, string_of, value_given}
use Rattle.k_types_meaning.specs.Made.{Made, Fine, all_made, refused, then_made}
use Rattle.k_types_meaning.specs.Names.{Names}
use Rattle.k_types_meaning.specs.Types.{elements, same_kind}
use Rattle.k_types_meaning.proofs.Elaborates.{expressions_elaborate}
use Rattle.k_types_meaning.proofs.Fine.{Anything, IfFine, IfThere, anything, both_has, cond_has, if_fine, then_has}
use Rattle.k_lower_fits.proofs.Named.{NamesEach}
use Rattle.k_evaluation_laws.specs.Kinds.{Sort, ANumber, kind_in}
use Rattle.k_evaluation_laws.proofs.Fits.{Around, is_nothing, same, see, value_fits, item_fits, items_fit, init_fits}
use Rattle.k_evaluation_laws.proofs.Judged.{sort_in, sort_itself, NameFits, Is, Good, IfIs, is_passed, test_of}
use Rattle.k_evaluation_laws.proofs.Operated.{expr_good}

module _ (site : Around) where
  -- a value of a sort fits what takes one of it
  pub fits_as : (s : Sort) (e : TExpr) → is_nothing s ≡ false → Is site s e → value_fits site s e ≡ true
  fits_as s e some h = and_from (same s (see site e).of) (see site e).fits (test_of site (λ (t : Sort). same s t) s e h (sort_itself s some)) h.fits

  fits_both : (kind : Kind) (xs ys : List TItem) → items_fit site kind xs ≡ true → items_fit site kind ys ≡ true → items_fit site kind (xs ++ ys) ≡ true
  fits_both kind [] ys h k = k
  fits_both kind (x ∷ xs) ys h k =
      let both = and_parts (item_fits site kind x) (items_fit site kind xs) h in
      and_from (item_fits site kind x) (items_fit site kind (xs ++ ys)) both.0 (fits_both kind xs ys both.1 k)

  -- items fit
  abbrev ItemsGood : Kind → Items → Type 0
  ItemsGood kind found = items_fit site kind found.items ≡ true

  given_good : (file : Bool) (p : Place) (kind : Kind) (n : ℕ) (taken : List ℕ) (o : Option TExpr) → IfIs site (ANumber kind) o → IfFine (ItemsGood kind) (given_item file p n taken o)
  given_good file p kind n taken None h = tt
  given_good file p kind n taken (Some tree) h =
      cond_has (ItemsGood kind) (not file || is_some (constant tree)) (Fine (record { items = item.Value p n tree ∷ []; taken = taken })) (refused (fault.Kinds p))
      (and_from (value_fits site (ANumber kind) tree) true (fits_as (ANumber kind) tree refl h) refl) tt

  -- a string begins an array of char alone
  abbrev ForChar : Kind → List ℕ → Type 0
  ForChar kind bytes = same_kind kind I8 ≡ true

  fitting_char : (kind : Kind) (dims : List ℕ) (count : ℕ) (o : Option (List ℕ)) → IfThere (ForChar kind) (fitting kind dims count o)
  fitting_char kind dims count None = tt
  fitting_char kind (d ∷ ds) count (Some bytes) = tt
  fitting_char kind [] count (Some bytes) = by (same_kind kind I8 && nat_le (length bytes) (room count)) refl
    where
      by : (b : Bool) → (same_kind kind I8 && nat_le (length bytes) (room count)) ≡ b → IfThere (ForChar kind) (cond b (Some bytes) None)
      by true is = (and_parts (same_kind kind I8) (nat_le (length bytes) (room count)) is).0
      by false is = tt

  string_item_good : (p : Place) (kind : Kind) (n : ℕ) (taken : List ℕ) (o : Option (List ℕ)) → IfThere (ForChar kind) o → IfFine (ItemsGood kind) (string_item p n taken o)
  string_item_good p kind n taken None h = tt
  string_item_good p kind n taken (Some bytes) h = and_from (same_kind kind I8) true h refl

  one_item_good : (file : Bool) (p : Place) (kind : Kind) (dims : List ℕ) (n : ℕ) (text : Option (List ℕ)) (v : Typed) → Good site v → IfFine (ItemsGood kind) (one_item file p kind dims n text v)
  one_item_good file p kind [] n text v h = given_good file p kind n v.taken (passed (ctype.Number kind) v) (is_passed site (ctype.Number kind) v h)
  one_item_good file p kind (d ∷ ds) n text v h = string_item_good p kind n v.taken (fitting kind ds d text) (fitting_char kind ds d text)

  -- what an initialiser gives fits
  abbrev GivesGood : Giving → Type 0
  GivesGood g = (file : Bool) (kind : Kind) (dims : List ℕ) (n : ℕ) → IfFine (ItemsGood kind) (g.within file kind dims n)

  abbrev AllGive : List Giving → Type 0
  AllGive [] = Unit {0}
  AllGive (g ∷ gs) = GivesGood g × AllGive gs

  excess_good : (kind : Kind) (p : Place) (m : Made (List ℕ)) → IfFine (ItemsGood kind) (then_made m (λ taken. excess p))
  excess_good kind p m = then_has Anything (ItemsGood kind) m (λ taken. excess p) (anything m) (λ taken h. tt)

  within_good : (file : Bool) (kind : Kind) (dims : List ℕ) (count n : ℕ) (gs : List Giving) → AllGive gs → IfFine (ItemsGood kind) (items_within file kind dims count n gs)
  within_good file kind dims count n [] all = refl
  within_good file kind dims zero n (g ∷ gs) all =
      both_has (ItemsGood kind) (ItemsGood kind) (ItemsGood kind) (then_made g.alone (λ taken. excess g.place)) (items_within file kind dims zero n gs) items_of_both
      (excess_good kind g.place g.alone) (within_good file kind dims zero n gs all.1) (λ a b h k. fits_both kind a.items b.items h k)
  within_good file kind dims (suc count) n (g ∷ gs) all =
      both_has (ItemsGood kind) (ItemsGood kind) (ItemsGood kind) (g.within file kind dims n) (items_within file kind dims count (n + elements dims) gs) items_of_both
      (all.0 file kind dims n) (within_good file kind dims count (n + elements dims) gs all.1) (λ a b h k. fits_both kind a.items b.items h k)

  braces_good : (file : Bool) (p : Place) (kind : Kind) (dims : List ℕ) (n : ℕ) (gs : List Giving) → AllGive gs → IfFine (ItemsGood kind) (braces file p kind dims n gs)
  braces_good file p kind [] n gs all =
      then_has Anything (ItemsGood kind) (all_made (map (λ (g : Giving). g.alone) gs)) (λ taken. excess p) (anything (all_made (map (λ (g : Giving). g.alone) gs))) (λ taken h. tt)
  braces_good file p kind (d ∷ ds) n gs all = within_good file kind ds (room d) n gs all

  -- a beginning fits a variable of this type
  abbrev pub InitGood : CType → TInit → Type 0
  InitGood of i = init_fits site (sort_in of) i ≡ true

module _ (site : Around) (names : Names) (fit : NamesEach (NameFits site) names) where
  -- a judged expression is of its type
  judged : (e : Expr) → IfFine (Good site) (judge names e)
  judged e = if_fine (Good site) (judge names e) (λ v is. expr_good site names e v fit ((expressions_elaborate names e v).0 is))

  abbrev GivenGood : Init → Type 0
  GivenGood i = GivesGood site (giving names i)

  abbrev inits : List ((i : Init) × GivenGood i) → List Init
  inits xs = map (λ (x : (i : Init) × GivenGood i). x.0) xs

  all_given : (xs : List ((i : Init) × GivenGood i)) → AllGive site (map (giving names) (inits xs))
  all_given [] = tt
  all_given (x ∷ xs) = (x.1, all_given xs)

  abbrev Layer : Init-F Init → Type 0
  Layer z = GivesGood site (giving_step names (map-Init Init Giving (giving names) z))

  given_by : (y : Init-F ((i : Init) × GivenGood i)) → Layer (map-Init _ Init (λ (x : (i : Init) × GivenGood i). x.0) y)
  given_by (Init-F.One p e) file kind dims n =
      then_has (Good site) (ItemsGood site kind) (judge names e) (one_item file p kind dims n (string_of e)) (judged e) (λ v h. one_item_good site file p kind dims n (string_of e) v h)
  given_by (Init-F.List p items comma) file kind dims n = braces_good site file p kind dims n (map (giving names) (inits items)) (all_given items)

  giving_good : (i : Init) → GivenGood i
  giving_good = ind-Init GivenGood (λ x y is. subst (GivesGood site) (sym (fold-roll-Init Giving (giving_step names) x)) (subst Layer is (given_by y)))

  all_giving : (items : List Init) → AllGive site (map (giving names) items)
  all_giving [] = tt
  all_giving (i ∷ items) = (giving_good i, all_giving items)

  abbrev BeginsGood : CType → Beginning → Type 0
  BeginsGood of b = IfThere (InitGood site of) b.init

  value_good : (file : Bool) (of : CType) (o : Option TExpr) → is_nothing (sort_in of) ≡ false → IfIs site (sort_in of) o → IfThere (InitGood site of) (value_given file o)
  value_good file of None some h = tt
  value_good file of (Some tree) some h = by (not file || is_some (constant tree))
    where
      by : (b : Bool) → IfThere (InitGood site of) (cond b (Some (begins.Value tree)) None)
      by true = fits_as site (sort_in of) tree some h
      by false = tt

  string_good : (of : CType) (o : Option (List ℕ)) → IfThere (ForChar site (kind_in (sort_in of))) o → IfThere (InitGood site of) (string_given o)
  string_good of None h = tt
  string_good of (Some bytes) h = and_from (same_kind (kind_in (sort_in of)) I8) true h refl

  one_good : (file : Bool) (of : CType) (text : Option (List ℕ)) (v : Typed) → Good site v → IfThere (InitGood site of) (one_given file of text v)
  one_good file ctype.Void text v h = tt
  one_good file (ctype.Number kind) text v h = value_good file (ctype.Number kind) (passed (ctype.Number kind) v) refl (is_passed site (ctype.Number kind) v h)
  one_good file (ctype.Pointer e) text v h = value_good file (ctype.Pointer e) (passed (ctype.Pointer e) v) refl (is_passed site (ctype.Pointer e) v h)
  one_good file (ctype.Array count e) text v h = string_good (ctype.Array count e) (fitting e.kind e.dims count text) (fitting_char site e.kind e.dims count text)

  alone_good : (of : CType) (gs : List Giving) → IfFine (BeginsGood of) (then_made (all_made (map (λ (g : Giving). g.alone) gs)) (λ taken. Fine (beginning None (concat taken))))
  alone_good of gs =
      then_has Anything (BeginsGood of) (all_made (map (λ (g : Giving). g.alone) gs)) (λ taken. Fine (beginning None (concat taken)))
      (anything (all_made (map (λ (g : Giving). g.alone) gs))) (λ taken h. tt)

  list_good : (file : Bool) (of : CType) (gs : List Giving) → AllGive site gs → IfFine (BeginsGood of) (list_given file of gs)
  list_good file (ctype.Array count e) gs all =
      then_has (ItemsGood site e.kind) (BeginsGood (ctype.Array count e)) (items_within file e.kind e.dims (room count) 0 gs)
      (λ found. Fine (beginning (Some (begins.Elements found.items)) found.taken))
      (within_good site file e.kind e.dims (room count) 0 gs all) (λ found h. h)
  list_good file ctype.Void gs all = alone_good ctype.Void gs
  list_good file (ctype.Number kind) gs all = alone_good (ctype.Number kind) gs
  list_good file (ctype.Pointer e) gs all = alone_good (ctype.Pointer e) gs

  step_good : (file : Bool) (of : CType) (x : Init-F Init) → IfFine (BeginsGood of) (begun_step names file of x)
  step_good file of (Init-F.One p e) =
      then_has (Good site) (BeginsGood of) (judge names e) (λ v. Fine (beginning (one_given file of (string_of e) v) v.taken)) (judged e) (λ v h. one_good file of (string_of e) v h)
  step_good file of (Init-F.List p items comma) = list_good file of (map (giving names) items) (all_giving items)

  -- with what an object begins fits it
  pub begun_good : (file : Bool) (of : CType) (i : Option Init) → IfFine (BeginsGood of) (begun names file (Some of) i)
  unfolding begun
  begun_good file of None = refl
  begun_good file of (Some i) = step_good file of (out-Init i)
