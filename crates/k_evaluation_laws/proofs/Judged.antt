-- What the rules of names, constants, places and operators with one operand make fits where their operands do.
use Rattle.std.proofs.Common.{◌≡◌, ℕ, ℤ, pos, List, [], ◌∷◌, map, slice_get, Option, Some, None, Bool, true, false, ◌&&◌, if◌then◌else◌, refl, sym, ◌∙◌, ap}
use Rattle.std.proofs.lemmas.Bool.{and_from, and_parts}
use Rattle.k_num.specs.declared.numbers.Kind.{Kind}
use Rattle.k_num.specs.declared.numbers.Kind.TheVariants.{I8, U8, I16, U16, I32, U32, I64, U64}
use Rattle.k_num.specs.declared.numbers.Un.{Un}
use Rattle.k_num.specs.declared.numbers.Un.TheVariants as un
use Rattle.k_num.specs.declared.place.Place.{Place}
use Rattle.k_num.specs.Kind.{promoted, converted}
use Rattle.k_tree.specs.declared.tokens.mark.Mark.{Mark}
use Rattle.k_tree.specs.declared.tokens.mark.Mark.TheVariants as mark
use Rattle.k_tree.specs.declared.tokens.word.Word.{Word}
use Rattle.k_types_meaning.specs.declared.fault.TypeFault.TheVariants as fault
use Rattle.k_types_meaning.specs.declared.names.Meaning.{Meaning}
use Rattle.k_types_meaning.specs.declared.names.Meaning.TheVariants as meaning
use Rattle.k_types_meaning.specs.declared.names.Signature.{Signature}
use Rattle.k_types_meaning.specs.declared.types.CType.{CType}
use Rattle.k_types_meaning.specs.declared.types.CType.TheVariants as ctype
use Rattle.k_types_meaning.specs.declared.types.Element.{Element}
use Rattle.k_types_meaning.specs.declared.types.TType.TheVariants as ttype
use Rattle.k_types_meaning.specs.declared.tree.expression.Change.{Change}
use Rattle.k_types_meaning.specs.declared.tree.expression.TExpr.{TExpr}
use Rattle.k_types_meaning.specs.declared.tree.expression.TExpr.TheOpen.{TExpr-F}
use Rattle.k_types_meaning.specs.declared.tree.expression.TExpr.TheVariants as typed
use Rattle.k_types_meaning.specs.Conversions.{Typed, at, node_of, in_kind, number_in, conversion, number_in_kind, unless_number, passed, passed_number, passed_pointer, keeps_const}
use Rattle.k_types_meaning.specs.Made.{Fine, refused}
use Rattle.k_types_meaning.specs.Names.{Names, meaning_of}
use Rattle.k_types_meaning.specs.Operands as operands
use Rattle.k_types_meaning.specs.Operands.{named, name_rule, number_rule, char_rule, string_type, string_rule, element_at, indexed, index_rule, pointed_to, addressed, of_number, plus_of, unary_kind, unary_of, unary_rule, written, step_operator, step_move, step_change, stepped, post_rule, pre_rule, size_number, sizeof_rule, size_named, sizeof_type_rule, cast_number, cast_pointer, cast_to, cast_rule}
use Rattle.k_types_meaning.specs.Specifiers.{type_named}
use Rattle.k_types_meaning.specs.Types.{decayed, same_kind, same_element, equal_element, number_kind, pointed, as_type, size_of, told, pointer_to}
use Rattle.k_types_meaning.proofs.Fine.{IfFine}
use Rattle.k_types_meaning.proofs.Folds.{typed_Number, typed_Str, typed_Object, typed_Variable, typed_Index, typed_Post, typed_Pre, typed_Address, typed_Deref, typed_Plus, typed_Unary, typed_Convert, typed_Cast}
use Rattle.k_lower_fits.proofs.Named.{NamesEach, found}
use Rattle.k_evaluation_laws.specs.Kinds.{Sort, NoValue, ANumber, APointer, sort_of}
use Rattle.k_evaluation_laws.proofs.Fits as fits
use Rattle.k_evaluation_laws.proofs.Fits.{Around, Callee, Seen, same, points, is_nothing, is_number, is_pointer, unused_or, unary_fits, cast_fits, change_fits, expr_step, see}
use Rattle.k_evaluation_laws.proofs.Slots.{one_kind}

-- the sort of a type
abbrev pub sort_in : CType → Sort
sort_in of = sort_of (told of)

pub kind_itself : (kind : Kind) → same_kind kind kind ≡ true
kind_itself I8 = refl
kind_itself U8 = refl
kind_itself I16 = refl
kind_itself U16 = refl
kind_itself I32 = refl
kind_itself U32 = refl
kind_itself I64 = refl
kind_itself U64 = refl

-- a sort is itself
pub sort_itself : (s : Sort) → is_nothing s ≡ false → same s s ≡ true
sort_itself NoValue some = cc some
sort_itself (ANumber kind) some = kind_itself kind
sort_itself (APointer kind) some = kind_itself kind

pub unused_itself : (s : Sort) → unused_or s (same s s) ≡ true
unused_itself NoValue = refl
unused_itself (ANumber kind) = kind_itself kind
unused_itself (APointer kind) = kind_itself kind

-- a number has the sort of its kind, and what points has that of its element
pub number_sort_in : (of : CType) (kind : Kind) → number_kind of ≡ Some kind → sort_in of ≡ ANumber kind
number_sort_in ctype.Void kind is = absurd (cc is)
number_sort_in (ctype.Number k) kind is = ap ANumber (by is)
  where
    by : Some k ≡ Some kind → k ≡ kind
    by same_one = cc same_one
number_sort_in (ctype.Pointer e) kind is = absurd (cc is)
number_sort_in (ctype.Array n e) kind is = absurd (cc is)

pub pointer_sort_in : (of : CType) (e : Element) → pointed of ≡ Some e → sort_in of ≡ APointer e.kind
pointer_sort_in ctype.Void e is = absurd (cc is)
pointer_sort_in (ctype.Number k) e is = absurd (cc is)
pointer_sort_in (ctype.Pointer f) e is = ap (λ (x : Element). APointer x.kind) (by is)
  where
    by : Some f ≡ Some e → f ≡ e
    by same_one = cc same_one
pointer_sort_in (ctype.Array n f) e is = ap (λ (x : Element). APointer x.kind) (by is)
  where
    by : Some f ≡ Some e → f ≡ e
    by same_one = cc same_one

-- an array has the sort of the pointer that it gives
pub decayed_sort : (of : CType) → sort_in (decayed of) ≡ sort_in of
decayed_sort ctype.Void = refl
decayed_sort (ctype.Number kind) = refl
decayed_sort (ctype.Pointer e) = refl
decayed_sort (ctype.Array n e) = refl

-- an element as an expression is what a pointer to its kind points to
pub element_points : (kind : Kind) (dims : List ℕ) (fixed : Bool) → points (APointer kind) (sort_in (as_type kind dims fixed)) ≡ true
element_points kind [] fixed = kind_itself kind
element_points kind (d ∷ dims) fixed = kind_itself kind

-- WHAT CALLS KNOW of a declared function
abbrev pub shape : Signature → Callee
shape s = record { params = map sort_in s.params; result = sort_in s.result }

-- a call that finds a function finds the declared one
abbrev pub IsCallee : Option Callee → Signature → Type 0
IsCallee None s = Unit {0}
IsCallee (Some c) s = c ≡ shape s

-- what a name means is there
abbrev pub NameFits : Around → List ℕ → Meaning → Type 0
NameFits site x (meaning.Variable n of fixed) = (slice_get site.variables n ≡ Some (sort_in of)) × (is_nothing (sort_in of) ≡ false)
NameFits site x (meaning.Object n of fixed) = (slice_get site.objects n ≡ Some (sort_in of)) × (is_nothing (sort_in of) ≡ false)
NameFits site x (meaning.Function s) = IsCallee (slice_get site.callees s.number) s
NameFits site x (meaning.Library function) = Unit {0}

module _ (site : Around) where
  -- A TREE IS OF A SORT, and fits
  pub record Is (s : Sort) (e : TExpr) : Type 0 where
    pub of : (see site e).of ≡ s
    pub fits : (see site e).fits ≡ true

  -- A JUDGED EXPRESSION is of its type
  abbrev pub Good : Typed → Type 0
  Good v = Is (sort_in v.of) v.tree

  -- by what its tree comes to
  pub is_by : (s : Sort) (e : TExpr) (x : Seen) → see site e ≡ x → x.of ≡ s → x.fits ≡ true → Is s e
  is_by s e x is of fit = record { of = ap (λ (y : Seen). y.of) is ∙ of; fits = ap (λ (y : Seen). y.fits) is ∙ fit }

  pub as_sort : (s t : Sort) (e : TExpr) → s ≡ t → Is s e → Is t e
  as_sort s t e is h = record { of = h.of ∙ is; fits = h.fits }

  pub as_number : (v : Typed) (kind : Kind) → number_kind v.of ≡ Some kind → Good v → Is (ANumber kind) v.tree
  as_number v kind is h = as_sort (sort_in v.of) (ANumber kind) v.tree (number_sort_in v.of kind is) h

  pub as_pointer : (v : Typed) (e : Element) → pointed v.of ≡ Some e → Good v → Is (APointer e.kind) v.tree
  as_pointer v e is h = as_sort (sort_in v.of) (APointer e.kind) v.tree (pointer_sort_in v.of e is) h

  -- a test of what a tree is
  pub test_of : (P : Sort → Bool) (s : Sort) (e : TExpr) → Is s e → P s ≡ true → P (see site e).of ≡ true
  test_of P s e h is = ap P h.of ∙ is

  -- CONVERSIONS
  pub number_is : (p : Place) (kind : Kind) (z : ℤ) → Is (ANumber kind) (typed.Number (at p (ttype.Number kind)) z)
  number_is p kind z =
      is_by (ANumber kind) (typed.Number (at p (ttype.Number kind)) z) (expr_step site (TExpr-F.Number (at p (ttype.Number kind)) z)) (typed_Number Seen (expr_step site) (at p (ttype.Number kind)) z) refl refl

  convert_is : (p : Place) (kind : Kind) (s : Sort) (e : TExpr) → Is s e → Is (ANumber kind) (typed.Convert (at p (ttype.Number kind)) e)
  convert_is p kind s e h =
      is_by (ANumber kind) (typed.Convert (at p (ttype.Number kind)) e) (expr_step site (TExpr-F.Convert (at p (ttype.Number kind)) (see site e)))
      (typed_Convert Seen (expr_step site) (at p (ttype.Number kind)) e) refl h.fits

  pub kind_is : (from to : Kind) (e : TExpr) → Is (ANumber from) e → Is (ANumber to) (in_kind from to e)
  unfolding in_kind
  kind_is from to e h = by (same_kind from to) refl
    where
      converts : (o : Option ℤ) → Is (ANumber to) (conversion to e o)
      converts None = convert_is (node_of e).place to (ANumber from) e h
      converts (Some z) = number_is (node_of e).place to (converted to z)

      by : (b : Bool) → same_kind from to ≡ b → Is (ANumber to) (if b then e else conversion to e (number_in e))
      by true is = as_sort (ANumber from) (ANumber to) e (ap ANumber (one_kind from to is)) h
      by false is = converts (number_in e)

  -- a number in another kind fits in any case
  pub number_kind_fits : (from to : Kind) (e : TExpr) → Is (ANumber from) e → (see site (number_in_kind from to e)).fits ≡ true
  unfolding number_in_kind
  number_kind_fits from to e h = by (number_in e)
    where
      by : (o : Option ℤ) → (see site (unless_number e (in_kind from to e) o)).fits ≡ true
      by None = h.fits
      by (Some z) = (kind_is from to e h).fits

  -- what is passed, if it is
  abbrev pub IfIs : Sort → Option TExpr → Type 0
  IfIs s None = Unit {0}
  IfIs s (Some e) = Is s e

  number_passed : (to : Kind) (v : Typed) (o : Option Kind) → number_kind v.of ≡ o → Good v → IfIs (ANumber to) (passed_number to v.tree o)
  number_passed to v None is h = tt
  number_passed to v (Some from) is h = kind_is from to v.tree (as_number v from is h)

  pub element_kinds : (a b : Element) → same_element a b ≡ true → a.kind ≡ b.kind
  element_kinds a b is = one_kind a.kind b.kind (and_parts (same_kind a.kind b.kind) _ is).0

  pointer_passed : (to : Element) (v : Typed) (o : Option Element) → pointed v.of ≡ o → Good v → IfIs (APointer to.kind) (passed_pointer to v.tree o)
  pointer_passed to v None is h = tt
  pointer_passed to v (Some from) is h = by (keeps_const to from) refl
    where
      by : (b : Bool) → keeps_const to from ≡ b → IfIs (APointer to.kind) (if b then Some v.tree else None)
      by true keeps =
          as_sort (APointer from.kind) (APointer to.kind) v.tree (ap APointer (sym (element_kinds to from (and_parts (same_element to from) _ keeps).0))) (as_pointer v from is h)
      by false keeps = tt

  pub is_passed : (to : CType) (v : Typed) → Good v → IfIs (sort_in to) (passed to v)
  unfolding passed
  is_passed ctype.Void v h = tt
  is_passed (ctype.Number kind) v h = number_passed kind v (number_kind v.of) refl h
  is_passed (ctype.Pointer e) v h = pointer_passed e v (pointed v.of) refl h
  is_passed (ctype.Array count e) v h = pointer_passed e v (pointed v.of) refl h

  -- what a value is passed to has values
  pub passed_some : (to : CType) (v : Typed) (tree : TExpr) → passed to v ≡ Some tree → is_nothing (sort_in to) ≡ false
  unfolding passed
  passed_some ctype.Void v tree is = absurd (cc is)
  passed_some (ctype.Number kind) v tree is = refl
  passed_some (ctype.Pointer e) v tree is = refl
  passed_some (ctype.Array n e) v tree is = refl

  -- A NAME
  found_itself : (o : Option Sort) (s : Sort) → o ≡ Some s → is_nothing s ≡ false → fits.found o s ≡ true
  found_itself o s is some = ap (λ (x : Option Sort). fits.found x s) is ∙ sort_itself s some

  named_good : (p : Place) (x : List ℕ) (o : Option Meaning) → ((m : Meaning) → o ≡ Some m → NameFits site x m) → IfFine Good (named p x o)
  named_good p x None fit = tt
  named_good p x (Some (meaning.Variable n of fixed)) fit =
      let h = fit (meaning.Variable n of fixed) refl in
      is_by (sort_in of) (typed.Variable (at p (told of)) n) (expr_step site (TExpr-F.Variable (at p (told of)) n)) (typed_Variable Seen (expr_step site) (at p (told of)) n) refl
      (found_itself (slice_get site.variables n) (sort_in of) h.0 h.1)
  named_good p x (Some (meaning.Object n of fixed)) fit =
      let h = fit (meaning.Object n of fixed) refl in
      is_by (sort_in of) (typed.Object (at p (told of)) n) (expr_step site (TExpr-F.Object (at p (told of)) n)) (typed_Object Seen (expr_step site) (at p (told of)) n) refl
      (found_itself (slice_get site.objects n) (sort_in of) h.0 h.1)
  named_good p x (Some (meaning.Function signature)) fit = tt
  named_good p x (Some (meaning.Library function)) fit = tt

  pub name_good : (names : Names) (p : Place) (x : List ℕ) → NamesEach (NameFits site) names → IfFine Good (name_rule names p x)
  unfolding name_rule
  name_good names p x fit = named_good p x (meaning_of names x) (λ m is. found (NameFits site) names x m fit is)

  -- CONSTANTS
  pub number_good : (p : Place) (kind : Kind) (n : ℕ) → IfFine Good (number_rule p kind n)
  unfolding number_rule
  number_good p kind n = number_is p kind (pos n)

  pub char_good : (p : Place) (z : ℤ) → IfFine Good (char_rule p z)
  unfolding char_rule
  char_good p z = number_is p I32 z

  pub string_good : (p : Place) (bytes : List ℕ) → IfFine Good (string_rule p bytes)
  unfolding string_rule
  string_good p bytes =
      is_by (APointer I8) (typed.Str (at p (told (string_type bytes))) 0 bytes) (expr_step site (TExpr-F.Str (at p (told (string_type bytes))) 0 bytes))
      (typed_Str Seen (expr_step site) (at p (told (string_type bytes))) 0 bytes) refl refl

  -- PLACES
  indexed_good : (p : Place) (base index : Typed) (e : Option Element) (kind : Option Kind) → pointed base.of ≡ e → Good base → Good index → IfFine Good (indexed p base index e kind)
  indexed_good p base index None kind is x y = tt
  indexed_good p base index (Some e) None is x y = tt
  indexed_good p base index (Some e) (Some kind) is x y =
      let s : Sort = sort_in (as_type e.kind e.dims e.fixed) in
      is_by s (typed.Index (at p (told (as_type e.kind e.dims e.fixed))) base.tree index.tree)
      (expr_step site (TExpr-F.Index (at p (told (as_type e.kind e.dims e.fixed))) (see site base.tree) (see site index.tree)))
      (typed_Index Seen (expr_step site) (at p (told (as_type e.kind e.dims e.fixed))) base.tree index.tree) refl
      (and_from (points (see site base.tree).of s) ((see site base.tree).fits && (see site index.tree).fits)
      (test_of (λ (t : Sort). points t s) (APointer e.kind) base.tree (as_pointer base e is x) (element_points e.kind e.dims e.fixed))
      (and_from (see site base.tree).fits (see site index.tree).fits x.fits y.fits))

  pub index_good : (p : Place) (base index : Typed) → Good base → Good index → IfFine Good (index_rule p base index)
  unfolding index_rule
  index_good p base index x y = indexed_good p base index (pointed base.of) (number_kind index.of) refl x y

  deref_good : (p : Place) (e : Typed) (o : Option Element) → pointed e.of ≡ o → Good e → IfFine Good (pointed_to p e o)
  deref_good p e None is x = tt
  deref_good p e (Some element) is x =
      let s : Sort = sort_in (as_type element.kind element.dims element.fixed) in
      is_by s (typed.Deref (at p (told (as_type element.kind element.dims element.fixed))) e.tree)
      (expr_step site (TExpr-F.Deref (at p (told (as_type element.kind element.dims element.fixed))) (see site e.tree)))
      (typed_Deref Seen (expr_step site) (at p (told (as_type element.kind element.dims element.fixed))) e.tree) refl
      (and_from (points (see site e.tree).of s) (see site e.tree).fits
      (test_of (λ (t : Sort). points t s) (APointer element.kind) e.tree (as_pointer e element is x) (element_points element.kind element.dims element.fixed)) x.fits)

  addressed_good : (p : Place) (e : Typed) (kind : Option Kind) (fixed : Option Bool) → number_kind e.of ≡ kind → Good e → IfFine Good (addressed p e kind fixed)
  addressed_good p e None fixed is x = tt
  addressed_good p e (Some kind) None is x = tt
  addressed_good p e (Some kind) (Some fixed) is x =
      let element : Element = record { kind = kind; dims = []; fixed = fixed } in
      is_by (APointer kind) (typed.Address (at p (pointer_to element)) e.tree) (expr_step site (TExpr-F.Address (at p (pointer_to element)) (see site e.tree)))
      (typed_Address Seen (expr_step site) (at p (pointer_to element)) e.tree) refl
      (and_from (points (APointer kind) (see site e.tree).of) (see site e.tree).fits
      (test_of (λ (t : Sort). points (APointer kind) t) (ANumber kind) e.tree (as_number e kind is x) (kind_itself kind)) x.fits)

  -- OPERATORS WITH ONE OPERAND
  of_number_good : (p : Place) (e : Typed) (kind : Option Kind) (made : Kind → Typed) → number_kind e.of ≡ kind → ((k : Kind) → number_kind e.of ≡ Some k → Good (made k)) → IfFine Good (of_number p e kind made)
  of_number_good p e None made is each = tt
  of_number_good p e (Some kind) made is each = each kind is

  plus_good : (p : Place) (e : Typed) → Good e → (kind : Kind) → number_kind e.of ≡ Some kind → Good (plus_of p e kind)
  plus_good p e x kind is =
      let a : TExpr = in_kind kind (promoted kind) e.tree in
      let h : Is (ANumber (promoted kind)) a = kind_is kind (promoted kind) e.tree (as_number e kind is x) in
      is_by (ANumber (promoted kind)) (typed.Plus (at p (ttype.Number (promoted kind))) a) (expr_step site (TExpr-F.Plus (at p (ttype.Number (promoted kind))) (see site a)))
      (typed_Plus Seen (expr_step site) (at p (ttype.Number (promoted kind))) a) refl
      (and_from (same (ANumber (promoted kind)) (see site a).of) (see site a).fits
      (test_of (λ (t : Sort). same (ANumber (promoted kind)) t) (ANumber (promoted kind)) a h (kind_itself (promoted kind))) h.fits)

  unary_of_fits : (op : Un) (kind : Kind) → unary_fits op kind (ANumber (unary_kind op kind)) ≡ true
  unary_of_fits un.Neg kind = kind_itself kind
  unary_of_fits un.Complement kind = kind_itself kind
  unary_of_fits un.Not kind = refl

  unary_of_good : (p : Place) (op : Un) (e : Typed) → Good e → (kind : Kind) → number_kind e.of ≡ Some kind → Good (unary_of p op e kind)
  unary_of_good p op e x kind is =
      let a : TExpr = in_kind kind (promoted kind) e.tree in
      let to : Kind = unary_kind op (promoted kind) in
      let h : Is (ANumber (promoted kind)) a = kind_is kind (promoted kind) e.tree (as_number e kind is x) in
      is_by (ANumber to) (typed.Unary (at p (ttype.Number to)) op (promoted kind) a) (expr_step site (TExpr-F.Unary (at p (ttype.Number to)) op (promoted kind) (see site a)))
      (typed_Unary Seen (expr_step site) (at p (ttype.Number to)) op (promoted kind) a) refl
      (and_from (unary_fits op (promoted kind) (ANumber to)) (see site a).fits (unary_of_fits op (promoted kind)) h.fits)

  pub unary_good : (p : Place) (op : Mark) (e : Typed) → Good e → IfFine Good (unary_rule p op e)
  unfolding unary_rule
  unary_good p mark.Ampersand e x = addressed_good p e (number_kind e.of) e.place refl x
  unary_good p mark.Star e x = deref_good p e (pointed e.of) refl x
  unary_good p mark.Plus e x = of_number_good p e (number_kind e.of) (plus_of p e) refl (plus_good p e x)
  unary_good p mark.Minus e x = of_number_good p e (number_kind e.of) (unary_of p un.Neg e) refl (unary_of_good p un.Neg e x)
  unary_good p mark.Tilde e x = of_number_good p e (number_kind e.of) (unary_of p un.Complement e) refl (unary_of_good p un.Complement e x)
  unary_good p mark.Exclaim e x = of_number_good p e (number_kind e.of) (unary_of p un.Not e) refl (unary_of_good p un.Not e x)
  unary_good p _ e x = tt

  -- what is written is what is made
  pub written_good : (p : Place) (fixed : Option Bool) (v : Typed) → Good v → IfFine Good (written p fixed v)
  written_good p None v x = tt
  written_good p (Some true) v x = tt
  written_good p (Some false) v x = x

  -- `++` and `--` change numbers in a kind, and move pointers
  move_fits : (op : Mark) (kind : Kind) → change_fits (step_move op) (APointer kind) ≡ true
  move_fits mark.MinusMinus kind = refl
  move_fits _ kind = refl

  abbrev IsStep : Sort → Option Change → Type 0
  IsStep s None = Unit {0}
  IsStep s (Some by) = (change_fits by s ≡ true) × (is_nothing s ≡ false)

  step_fits : (op : Mark) (of : CType) → IsStep (sort_in of) (step_change op of)
  step_fits op ctype.Void = tt
  step_fits op (ctype.Number kind) = (refl, refl)
  step_fits op (ctype.Pointer e) = (move_fits op e.kind, refl)
  step_fits op (ctype.Array n e) = (move_fits op e.kind, refl)

  -- a change of a place of a sort
  change_is : (by : Change) (s : Sort) (e : TExpr) → change_fits by s ≡ true → is_nothing s ≡ false → Is s e → (change_fits by s && (same s (see site e).of && (see site e).fits)) ≡ true
  change_is by s e fit some h =
      and_from (change_fits by s) (same s (see site e).of && (see site e).fits) fit
      (and_from (same s (see site e).of) (see site e).fits (test_of (λ (t : Sort). same s t) s e h (sort_itself s some)) h.fits)

  pub post_good : (p : Place) (op : Mark) (e : Typed) → Good e → IfFine Good (post_rule p op e)
  unfolding post_rule
  post_good p op e x = by (step_change op e.of) (step_fits op e.of)
    where
      by : (o : Option Change) → IsStep (sort_in e.of) o → IfFine Good (stepped p e (λ of to. typed.Post (at p of) to e.tree) o)
      by None is = tt
      by (Some to) is =
          written_good p e.place (operands.value (decayed e.of) (typed.Post (at p (told e.of)) to e.tree) e.taken)
          (is_by (sort_in (decayed e.of)) (typed.Post (at p (told e.of)) to e.tree) (expr_step site (TExpr-F.Post (at p (told e.of)) to (see site e.tree)))
          (typed_Post Seen (expr_step site) (at p (told e.of)) to e.tree) (sym (decayed_sort e.of)) (change_is to (sort_in e.of) e.tree is.0 is.1 x))

  pub pre_good : (p : Place) (op : Mark) (e : Typed) → Good e → IfFine Good (pre_rule p op e)
  unfolding pre_rule
  pre_good p op e x = by (step_change op e.of) (step_fits op e.of)
    where
      by : (o : Option Change) → IsStep (sort_in e.of) o → IfFine Good (stepped p e (λ of to. typed.Pre (at p of) to e.tree) o)
      by None is = tt
      by (Some to) is =
          written_good p e.place (operands.value (decayed e.of) (typed.Pre (at p (told e.of)) to e.tree) e.taken)
          (is_by (sort_in (decayed e.of)) (typed.Pre (at p (told e.of)) to e.tree) (expr_step site (TExpr-F.Pre (at p (told e.of)) to (see site e.tree)))
          (typed_Pre Seen (expr_step site) (at p (told e.of)) to e.tree) (sym (decayed_sort e.of)) (change_is to (sort_in e.of) e.tree is.0 is.1 x))

  -- `sizeof` AND CASTS
  size_good : (p : Place) (taken : List ℕ) (of : CType) → IfFine Good (size_number p taken of)
  size_good p taken ctype.Void = tt
  size_good p taken (ctype.Number kind) = number_is p U64 (pos (size_of (ctype.Number kind)))
  size_good p taken (ctype.Pointer e) = number_is p U64 (pos (size_of (ctype.Pointer e)))
  size_good p taken (ctype.Array n e) = number_is p U64 (pos (size_of (ctype.Array n e)))

  pub sizeof_good : (p : Place) (e : Typed) → IfFine Good (sizeof_rule p e)
  unfolding sizeof_rule
  sizeof_good p e = size_good p e.taken e.of

  pub sizeof_type_good : (p : Place) (specs : List Word) (stars : List Bool) → IfFine Good (sizeof_type_rule p specs stars)
  unfolding sizeof_type_rule
  sizeof_type_good p specs stars = by (type_named specs stars)
    where
      by : (o : Option CType) → IfFine Good (size_named p o)
      by None = tt
      by (Some of) = size_good p [] of

  cast_is : (p : Place) (e : Typed) (of : CType) → cast_fits (sort_in of) (see site e.tree).of ≡ true → Good e → Is (sort_in of) (typed.Cast (at p (told of)) e.tree)
  cast_is p e of fit x =
      is_by (sort_in of) (typed.Cast (at p (told of)) e.tree) (expr_step site (TExpr-F.Cast (at p (told of)) (see site e.tree))) (typed_Cast Seen (expr_step site) (at p (told of)) e.tree) refl
      (and_from (cast_fits (sort_in of) (see site e.tree).of) (see site e.tree).fits fit x.fits)

  cast_number_good : (p : Place) (to : Kind) (e : Typed) (from : Option Kind) → Good e → IfFine Good (cast_number p to e from)
  cast_number_good p to e None x = tt
  cast_number_good p to e (Some from) x = cast_is p e (ctype.Number to) refl x

  cast_pointer_good : (p : Place) (to : Element) (e : Typed) (from : Option Element) → pointed e.of ≡ from → Good e → IfFine Good (cast_pointer p to e from)
  cast_pointer_good p to e None is x = tt
  cast_pointer_good p to e (Some from) is x = by (equal_element to from) refl
    where
      by : (b : Bool) → equal_element to from ≡ b
          → IfFine Good (if b then Fine (operands.value (ctype.Pointer to) (typed.Cast (at p (pointer_to to)) e.tree) e.taken) else refused (fault.Kinds p))
      by true equal =
          cast_is p e (ctype.Pointer to)
          (test_of (λ (t : Sort). cast_fits (APointer to.kind) t) (APointer from.kind) e.tree (as_pointer e from is x)
          (and_parts (same_kind to.kind from.kind) _ (and_parts (same_element to from) _ equal).0).0) x
      by false equal = tt

  cast_to_good : (p : Place) (o : Option CType) (e : Typed) → Good e → IfFine Good (cast_to p o e)
  cast_to_good p None e x = tt
  cast_to_good p (Some ctype.Void) e x = cast_is p e ctype.Void refl x
  cast_to_good p (Some (ctype.Number to)) e x = cast_number_good p to e (number_kind e.of) x
  cast_to_good p (Some (ctype.Pointer to)) e x = cast_pointer_good p to e (pointed e.of) refl x
  cast_to_good p (Some (ctype.Array k to)) e x = tt

  pub cast_good : (p : Place) (specs : List Word) (stars : List Bool) (e : Typed) → Good e → IfFine Good (cast_rule p specs stars e)
  unfolding cast_rule
  cast_good p specs stars e x = cast_to_good p (type_named specs stars) e x
