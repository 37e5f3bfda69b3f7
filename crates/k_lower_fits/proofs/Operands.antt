-- What the rules of names, constants, places and operators with one operand make is good where their operands are.
use Rattle.std.proofs.Common.{◌≡◌, ℕ, ◌+◌, ◌<◌, ℤ, pos, List, [], ◌++◌, length, slice_get, Option, Some, None, Bool, true, false, if◌then◌else◌, refl, ◌∙◌}
use Rattle.std.specs.Prelude.{is_some}
use Rattle.std.proofs.lemmas.Bool.{lt-ltb}
use Rattle.std.specs.Prelude.{nat_lt}
use Rattle.k_num.specs.declared.numbers.Kind.{Kind}
use Rattle.k_num.specs.declared.numbers.Kind.TheVariants.{I32, U64}
use Rattle.k_num.specs.declared.numbers.Un.{Un}
use Rattle.k_num.specs.declared.numbers.Un.TheVariants as un
use Rattle.k_num.specs.declared.place.Place.{Place}
use Rattle.k_num.specs.Kind.{promoted}
use Rattle.k_tree.specs.declared.tokens.mark.Mark.{Mark}
use Rattle.k_tree.specs.declared.tokens.mark.Mark.TheVariants as mark
use Rattle.k_tree.specs.declared.tokens.word.Word.{Word}
use Rattle.k_types_meaning.specs.declared.fault.TypeFault.TheVariants as fault
use Rattle.k_types_meaning.specs.declared.names.Meaning.{Meaning}
use Rattle.k_types_meaning.specs.declared.names.Meaning.TheVariants as meaning
use Rattle.k_types_meaning.specs.declared.names.Signature.{Signature}
use Rattle.k_types_meaning.specs.declared.types.CType.{CType}
use Rattle.k_types_meaning.specs.declared.types.CType.TheVariants as ctype
use Rattle.k_types_meaning.specs.declared.types.Element.{Element}
use Rattle.k_types_meaning.specs.declared.types.TType.{TType}
use Rattle.k_types_meaning.specs.declared.types.TType.TheVariants as ttype
use Rattle.k_types_meaning.specs.declared.tree.expression.Change.{Change}
use Rattle.k_types_meaning.specs.declared.tree.expression.TExpr.{out-TExpr}
use Rattle.k_types_meaning.specs.declared.tree.expression.TExpr.TheVariants as typed
use Rattle.k_types_meaning.specs.Conversions.{Typed, at, in_kind}
use Rattle.k_types_meaning.specs.Made.{Fine, refused}
use Rattle.k_types_meaning.specs.Names.{Names, meaning_in, meaning_of, library}
use Rattle.k_types_meaning.specs.Operands as operands
use Rattle.k_types_meaning.specs.Operands.{named, name_rule, number_rule, char_rule, string_type, string_rule, element_at, indexed, index_rule, pointed_to, addressed, of_number, plus_of, unary_kind, unary_of, unary_rule, written, step_change, stepped, post_rule, pre_rule, size_number, sizeof_rule, size_named, sizeof_type_rule, cast_number, cast_pointer, cast_to, cast_rule}
use Rattle.k_types_meaning.specs.Specifiers.{type_named}
use Rattle.k_types_meaning.specs.Types.{decayed, equal_element, number_kind, pointed, as_type, size_of, told, pointer_to}
use Rattle.k_types_meaning.specs.Units.{is_name}
use Rattle.k_types_meaning.proofs.Fine.{IfFine}
use Rattle.k_types_meaning.proofs.Folds.{typed_Number, typed_Str, typed_Object, typed_Variable, typed_Index, typed_Post, typed_Pre, typed_Address, typed_Deref, typed_Plus, typed_Unary, typed_Cast}
use Rattle.k_lower_fits.specs.Costs.{Cost, expression, free, expr_cost, expr_cost_step}
use Rattle.k_lower_fits.specs.Fits.{Limits, Callee, Use, cast_fits, expr_fits, expr_step, has_values}
use Rattle.k_lower_fits.proofs.Named.{NamesEach, found}
use Rattle.k_lower_fits.proofs.Ready.{HasValues, May, number_has_values, pointer_has_values, pays_atom, pays_one, pays_less, Good, ready, unused, good_by, atom, of_one, of_change, of_post, of_two, in_its_kind}

-- a call of this function finds it
pub record IsCallee (limits : Limits) (s : Signature) : Type 0 where
  pub f : Callee
  pub there : slice_get limits.callees s.number ≡ Some f
  pub params : f.params ≡ length s.params
  pub gives : f.gives ≡ has_values (told s.result)

-- what a name means is there
abbrev pub NameFits : Limits → List (List ℕ) → List ℕ → Meaning → Type 0
NameFits limits defined x (meaning.Variable n of fixed) = n < limits.variables
NameFits limits defined x (meaning.Object n of fixed) = n < limits.objects
NameFits limits defined x (meaning.Function s) = (is_some (meaning_in library x) ≡ false) × (is_name defined x ≡ true → IsCallee limits s)
NameFits limits defined x (meaning.Library function) = Unit {0}

module _ (limits : Limits) where
  abbrev pub G : ℕ → Typed → Type 0
  G n v = Good limits n v

  -- A NAME
  named_good : (defined : List (List ℕ)) (p : Place) (x : List ℕ) (o : Option Meaning) → ((m : Meaning) → o ≡ Some m → NameFits limits defined x m) → IfFine (Good limits 1) (named p x o)
  named_good defined p x None fits = tt
  named_good defined p x (Some (meaning.Variable n of fixed)) fits =
      let here : n < limits.variables = fits (meaning.Variable n of fixed) refl in
      good_by limits 1 (record { tree = typed.Variable (at p (told of)) n; of = of; place = operands.place_of of fixed; taken = [] })
      (λ used. nat_lt n limits.variables) (expression free) (typed_Variable Use (expr_step limits) (at p (told of)) n) (typed_Variable Cost expr_cost_step (at p (told of)) n)
      (λ used may. lt-ltb n limits.variables here) pays_atom
  named_good defined p x (Some (meaning.Object n of fixed)) fits =
      let here : n < limits.objects = fits (meaning.Object n of fixed) refl in
      good_by limits 1 (record { tree = typed.Object (at p (told of)) n; of = of; place = operands.place_of of fixed; taken = [] })
      (λ used. nat_lt n limits.objects) (expression free) (typed_Object Use (expr_step limits) (at p (told of)) n) (typed_Object Cost expr_cost_step (at p (told of)) n)
      (λ used may. lt-ltb n limits.objects here) pays_atom
  named_good defined p x (Some (meaning.Function signature)) fits = tt
  named_good defined p x (Some (meaning.Library function)) fits = tt

  pub name_good : (defined : List (List ℕ)) (names : Names) (p : Place) (x : List ℕ) → NamesEach (NameFits limits defined) names → IfFine (Good limits 1) (name_rule names p x)
  unfolding name_rule
  name_good defined names p x fits = named_good defined p x (meaning_of names x) (λ m is. found (NameFits limits defined) names x m fits is)

  -- CONSTANTS
  number_is : (p : Place) (kind : Kind) (z : ℤ) (taken : List ℕ) → G 1 (operands.number kind (typed.Number (at p (ttype.Number kind)) z) taken)
  number_is p kind z taken =
      atom limits (operands.number kind (typed.Number (at p (ttype.Number kind)) z) taken)
      (typed_Number Use (expr_step limits) (at p (ttype.Number kind)) z) (typed_Number Cost expr_cost_step (at p (ttype.Number kind)) z)

  pub number_good : (p : Place) (kind : Kind) (n : ℕ) → IfFine (Good limits 1) (number_rule p kind n)
  unfolding number_rule
  number_good p kind n = number_is p kind (pos n) []

  pub char_good : (p : Place) (z : ℤ) → IfFine (Good limits 1) (char_rule p z)
  unfolding char_rule
  char_good p z = number_is p I32 z []

  pub string_good : (p : Place) (bytes : List ℕ) → IfFine (Good limits 1) (string_rule p bytes)
  unfolding string_rule
  string_good p bytes =
      atom limits (operands.value (string_type bytes) (typed.Str (at p (told (string_type bytes))) 0 bytes) [])
      (typed_Str Use (expr_step limits) (at p (told (string_type bytes))) 0 bytes) (typed_Str Cost expr_cost_step (at p (told (string_type bytes))) 0 bytes)

  -- PLACES
  indexed_good : (p : Place) (m n : ℕ) (base index : Typed) (e : Option Element) (kind : Option Kind) → pointed base.of ≡ e → number_kind index.of ≡ kind → G m base → G n index
      → IfFine (Good limits (1 + m + n)) (indexed p base index e kind)
  indexed_good p m n base index None kind is number x y = tt
  indexed_good p m n base index (Some e) None is number x y = tt
  indexed_good p m n base index (Some e) (Some kind) is number x y =
      of_two limits m n (element_at e (λ of. typed.Index (at p of) base.tree index.tree) (base.taken ++ index.taken)) base.tree index.tree
      (typed_Index Use (expr_step limits) (at p (told (as_type e.kind e.dims e.fixed))) base.tree index.tree)
      (typed_Index Cost expr_cost_step (at p (told (as_type e.kind e.dims e.fixed))) base.tree index.tree)
      (ready limits m base (pointer_has_values base.of e is) x) (ready limits n index (number_has_values index.of kind number) y)

  pub index_good : (p : Place) (m n : ℕ) (base index : Typed) → G m base → G n index → IfFine (Good limits (1 + m + n)) (index_rule p base index)
  unfolding index_rule
  index_good p m n base index x y = indexed_good p m n base index (pointed base.of) (number_kind index.of) refl refl x y

  deref_good : (p : Place) (n : ℕ) (e : Typed) (o : Option Element) → pointed e.of ≡ o → G n e → IfFine (Good limits (1 + n)) (pointed_to p e o)
  deref_good p n e None is x = tt
  deref_good p n e (Some element) is x =
      of_one limits n (element_at element (λ of. typed.Deref (at p of) e.tree) e.taken) e.tree
      (typed_Deref Use (expr_step limits) (at p (told (as_type element.kind element.dims element.fixed))) e.tree)
      (typed_Deref Cost expr_cost_step (at p (told (as_type element.kind element.dims element.fixed))) e.tree)
      (ready limits n e (pointer_has_values e.of element is) x)

  addressed_good : (p : Place) (n : ℕ) (e : Typed) (kind : Option Kind) (fixed : Option Bool) → number_kind e.of ≡ kind → G n e → IfFine (Good limits (1 + n)) (addressed p e kind fixed)
  addressed_good p n e None fixed is x = tt
  addressed_good p n e (Some kind) None is x = tt
  addressed_good p n e (Some kind) (Some fixed) is x =
      let element : Element = record { kind = kind; dims = []; fixed = fixed } in
      of_one limits n (operands.value (ctype.Pointer element) (typed.Address (at p (pointer_to element)) e.tree) (e.taken ++ operands.variable_step (out-TExpr e.tree))) e.tree
      (typed_Address Use (expr_step limits) (at p (pointer_to element)) e.tree) (typed_Address Cost expr_cost_step (at p (pointer_to element)) e.tree)
      (ready limits n e (number_has_values e.of kind is) x)

  -- OPERATORS WITH ONE OPERAND
  of_number_good : (p : Place) (n : ℕ) (e : Typed) (kind : Option Kind) (made : Kind → Typed) → number_kind e.of ≡ kind → ((k : Kind) → number_kind e.of ≡ Some k → G (1 + n) (made k))
      → IfFine (Good limits (1 + n)) (of_number p e kind made)
  of_number_good p n e None made is each = tt
  of_number_good p n e (Some kind) made is each = each kind is

  plus_good : (p : Place) (n : ℕ) (e : Typed) → G n e → (kind : Kind) → number_kind e.of ≡ Some kind → G (1 + n) (plus_of p e kind)
  plus_good p n e x kind is =
      of_one limits n (plus_of p e kind) (in_kind kind (promoted kind) e.tree)
      (typed_Plus Use (expr_step limits) (at p (ttype.Number (promoted kind))) (in_kind kind (promoted kind) e.tree))
      (typed_Plus Cost expr_cost_step (at p (ttype.Number (promoted kind))) (in_kind kind (promoted kind) e.tree))
      (in_its_kind limits n kind (promoted kind) e (number_has_values e.of kind is) x)

  unary_of_good : (p : Place) (op : Un) (n : ℕ) (e : Typed) → G n e → (kind : Kind) → number_kind e.of ≡ Some kind → G (1 + n) (unary_of p op e kind)
  unary_of_good p op n e x kind is =
      of_one limits n (unary_of p op e kind) (in_kind kind (promoted kind) e.tree)
      (typed_Unary Use (expr_step limits) (at p (ttype.Number (unary_kind op (promoted kind)))) op (promoted kind) (in_kind kind (promoted kind) e.tree))
      (typed_Unary Cost expr_cost_step (at p (ttype.Number (unary_kind op (promoted kind)))) op (promoted kind) (in_kind kind (promoted kind) e.tree))
      (in_its_kind limits n kind (promoted kind) e (number_has_values e.of kind is) x)

  pub unary_good : (p : Place) (op : Mark) (n : ℕ) (e : Typed) → G n e → IfFine (Good limits (1 + n)) (unary_rule p op e)
  unfolding unary_rule
  unary_good p mark.Ampersand n e x = addressed_good p n e (number_kind e.of) e.place refl x
  unary_good p mark.Star n e x = deref_good p n e (pointed e.of) refl x
  unary_good p mark.Plus n e x = of_number_good p n e (number_kind e.of) (plus_of p e) refl (plus_good p n e x)
  unary_good p mark.Minus n e x = of_number_good p n e (number_kind e.of) (unary_of p un.Neg e) refl (unary_of_good p un.Neg n e x)
  unary_good p mark.Tilde n e x = of_number_good p n e (number_kind e.of) (unary_of p un.Complement e) refl (unary_of_good p un.Complement n e x)
  unary_good p mark.Exclaim n e x = of_number_good p n e (number_kind e.of) (unary_of p un.Not e) refl (unary_of_good p un.Not n e x)
  unary_good p _ n e x = tt

  -- what is written is what is made
  pub written_good : (p : Place) (n : ℕ) (fixed : Option Bool) (v : Typed) → G n v → IfFine (Good limits n) (written p fixed v)
  written_good p n None v x = tt
  written_good p n (Some true) v x = tt
  written_good p n (Some false) v x = x

  -- what `++` and `--` change has values
  step_has_values : (op : Mark) (of : CType) (by : Change) → step_change op of ≡ Some by → HasValues of
  step_has_values op ctype.Void by is = absurd cc
  step_has_values op (ctype.Number kind) by is = refl
  step_has_values op (ctype.Pointer e) by is = refl
  step_has_values op (ctype.Array n e) by is = refl

  pub post_good : (p : Place) (op : Mark) (n : ℕ) (e : Typed) → G n e → IfFine (Good limits (1 + n)) (post_rule p op e)
  unfolding post_rule
  post_good p op n e x = by (step_change op e.of) refl
    where
      by : (o : Option Change) → step_change op e.of ≡ o → IfFine (Good limits (1 + n)) (stepped p e (λ of to. typed.Post (at p of) to e.tree) o)
      by None is = tt
      by (Some to) is =
          written_good p (1 + n) e.place (operands.value (decayed e.of) (typed.Post (at p (told e.of)) to e.tree) e.taken)
          (of_post limits n (operands.value (decayed e.of) (typed.Post (at p (told e.of)) to e.tree) e.taken) e.tree
          (typed_Post Use (expr_step limits) (at p (told e.of)) to e.tree) (typed_Post Cost expr_cost_step (at p (told e.of)) to e.tree)
          (ready limits n e (step_has_values op e.of to is) x))

  pub pre_good : (p : Place) (op : Mark) (n : ℕ) (e : Typed) → G n e → IfFine (Good limits (1 + n)) (pre_rule p op e)
  unfolding pre_rule
  pre_good p op n e x = by (step_change op e.of) refl
    where
      by : (o : Option Change) → step_change op e.of ≡ o → IfFine (Good limits (1 + n)) (stepped p e (λ of to. typed.Pre (at p of) to e.tree) o)
      by None is = tt
      by (Some to) is =
          written_good p (1 + n) e.place (operands.value (decayed e.of) (typed.Pre (at p (told e.of)) to e.tree) e.taken)
          (of_change limits n (operands.value (decayed e.of) (typed.Pre (at p (told e.of)) to e.tree) e.taken) e.tree
          (typed_Pre Use (expr_step limits) (at p (told e.of)) to e.tree) (typed_Pre Cost expr_cost_step (at p (told e.of)) to e.tree)
          (ready limits n e (step_has_values op e.of to is) x))

  -- `sizeof` AND CASTS
  size_good : (p : Place) (taken : List ℕ) (of : CType) → IfFine (Good limits 1) (size_number p taken of)
  size_good p taken ctype.Void = tt
  size_good p taken (ctype.Number kind) = number_is p U64 (pos (size_of (ctype.Number kind))) taken
  size_good p taken (ctype.Pointer e) = number_is p U64 (pos (size_of (ctype.Pointer e))) taken
  size_good p taken (ctype.Array n e) = number_is p U64 (pos (size_of (ctype.Array n e))) taken

  pub sizeof_good : (p : Place) (e : Typed) → IfFine (Good limits 1) (sizeof_rule p e)
  unfolding sizeof_rule
  sizeof_good p e = size_good p e.taken e.of

  pub sizeof_type_good : (p : Place) (specs : List Word) (stars : List Bool) → IfFine (Good limits 1) (sizeof_type_rule p specs stars)
  unfolding sizeof_type_rule
  sizeof_type_good p specs stars = by (type_named specs stars)
    where
      by : (o : Option CType) → IfFine (Good limits 1) (size_named p o)
      by None = tt
      by (Some of) = size_good p [] of

  -- a cast to a type that has values
  cast_is : (p : Place) (n : ℕ) (e : Typed) (of : CType) (node_of : TType) → has_values node_of ≡ true → HasValues e.of → G n e → G (1 + n) (operands.value of (typed.Cast (at p node_of) e.tree) e.taken)
  cast_is p n e of node_of has values x =
      of_one limits n (operands.value of (typed.Cast (at p node_of) e.tree) e.taken) e.tree
      (typed_Cast Use (expr_step limits) (at p node_of) e.tree ∙ (λ i. λ used. cast_fits (has i) (expr_fits limits e.tree) used))
      (typed_Cast Cost expr_cost_step (at p node_of) e.tree) (ready limits n e values x)

  -- a cast to void
  cast_void : (p : Place) (n : ℕ) (e : Typed) → G n e → G (1 + n) (operands.value ctype.Void (typed.Cast (at p ttype.Void) e.tree) e.taken)
  cast_void p n e x =
      good_by limits (1 + n) (operands.value ctype.Void (typed.Cast (at p ttype.Void) e.tree) e.taken) (cast_fits false (expr_fits limits e.tree)) (expression (expr_cost e.tree))
      (typed_Cast Use (expr_step limits) (at p ttype.Void) e.tree) (typed_Cast Cost expr_cost_step (at p ttype.Void) e.tree)
      by (pays_one n (expr_cost e.tree) (pays_less n (expr_cost e.tree) x.pays))
    where
      by : (used : Bool) → May ctype.Void used → cast_fits false (expr_fits limits e.tree) used ≡ true
      by true may = absurd cc
      by false may = unused limits n e x

  cast_number_good : (p : Place) (to : Kind) (n : ℕ) (e : Typed) (from : Option Kind) → number_kind e.of ≡ from → G n e → IfFine (Good limits (1 + n)) (cast_number p to e from)
  cast_number_good p to n e None is x = tt
  cast_number_good p to n e (Some from) is x = cast_is p n e (ctype.Number to) (ttype.Number to) refl (number_has_values e.of from is) x

  cast_pointer_good : (p : Place) (to : Element) (n : ℕ) (e : Typed) (from : Option Element) → pointed e.of ≡ from → G n e → IfFine (Good limits (1 + n)) (cast_pointer p to e from)
  cast_pointer_good p to n e None is x = tt
  cast_pointer_good p to n e (Some from) is x = by (equal_element to from)
    where
      by : (b : Bool) → IfFine (Good limits (1 + n)) (if b then Fine (operands.value (ctype.Pointer to) (typed.Cast (at p (pointer_to to)) e.tree) e.taken) else refused (fault.Kinds p))
      by true = cast_is p n e (ctype.Pointer to) (pointer_to to) refl (pointer_has_values e.of from is) x
      by false = tt

  cast_to_good : (p : Place) (o : Option CType) (n : ℕ) (e : Typed) → G n e → IfFine (Good limits (1 + n)) (cast_to p o e)
  cast_to_good p None n e x = tt
  cast_to_good p (Some ctype.Void) n e x = cast_void p n e x
  cast_to_good p (Some (ctype.Number to)) n e x = cast_number_good p to n e (number_kind e.of) refl x
  cast_to_good p (Some (ctype.Pointer to)) n e x = cast_pointer_good p to n e (pointed e.of) refl x
  cast_to_good p (Some (ctype.Array k to)) n e x = tt

  pub cast_good : (p : Place) (specs : List Word) (stars : List Bool) (n : ℕ) (e : Typed) → G n e → IfFine (Good limits (1 + n)) (cast_rule p specs stars e)
  unfolding cast_rule
  cast_good p specs stars n e x = cast_to_good p (type_named specs stars) n e x
