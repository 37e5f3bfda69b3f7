-- What the rules of names, constants, places and operators with one operand make is meant as their operands are.
use Rattle.std.proofs.Common.{◌≡◌, ℕ, ◌<◌, ℤ, pos, List, [], ◌++◌, Option, Some, None, Bool, true, false, if◌then◌else◌, refl, sym, ◌∙◌, ap, subst}
use Rattle.std.proofs.lemmas.Option.{same_Some}
use Rattle.k_num.specs.declared.numbers.Kind.{Kind}
use Rattle.k_num.specs.declared.numbers.Kind.TheVariants.{I32, U64}
use Rattle.k_num.specs.declared.numbers.Un.{Un}
use Rattle.k_num.specs.declared.numbers.Un.TheVariants as un
use Rattle.k_num.specs.declared.place.Place.{Place}
use Rattle.k_num.specs.Kind.{promoted, common_kind}
use Rattle.k_num.proofs.CommonKinds.{common_not_narrower}
use Rattle.k_tree.specs.declared.tokens.mark.Mark.{Mark}
use Rattle.k_tree.specs.declared.tokens.mark.Mark.TheVariants as mark
use Rattle.k_tree.specs.declared.tokens.word.Word.{Word}
use Rattle.k_types_meaning.specs.declared.fault.TypeFault.TheVariants as fault
use Rattle.k_types_meaning.specs.declared.names.Meaning.{Meaning}
use Rattle.k_types_meaning.specs.declared.names.Meaning.TheVariants as meaning
use Rattle.k_types_meaning.specs.declared.types.CType.{CType}
use Rattle.k_types_meaning.specs.declared.types.CType.TheVariants as ctype
use Rattle.k_types_meaning.specs.declared.types.Element.{Element}
use Rattle.k_types_meaning.specs.declared.types.TType.{TType}
use Rattle.k_types_meaning.specs.declared.types.TType.TheVariants as ttype
use Rattle.k_types_meaning.specs.declared.tree.expression.Change.{Change}
use Rattle.k_types_meaning.specs.declared.tree.expression.Change.TheVariants as change
use Rattle.k_types_meaning.specs.declared.tree.expression.TExpr.{out-TExpr}
use Rattle.k_types_meaning.specs.declared.tree.expression.TExpr.TheOpen.{TExpr-F}
use Rattle.k_types_meaning.specs.declared.tree.expression.TExpr.TheVariants as typed
use Rattle.k_types_meaning.specs.Conversions.{Typed, at, in_kind}
use Rattle.k_types_meaning.specs.Made.{Fine, refused}
use Rattle.k_types_meaning.specs.Names.{Names, meaning_of}
use Rattle.k_types_meaning.specs.Operands as operands
use Rattle.k_types_meaning.specs.Operands.{named, name_rule, number_rule, char_rule, string_type, string_rule, element_at, indexed, index_rule, pointed_to, addressed, of_number, plus_of, unary_kind, unary_of, unary_rule, written, step_operator, step_change, stepped, post_rule, pre_rule, size_number, sizeof_rule, size_named, sizeof_type_rule, cast_number, cast_pointer, cast_to, cast_rule}
use Rattle.k_types_meaning.specs.Specifiers.{type_named}
use Rattle.k_types_meaning.specs.Types.{decayed, equal_element, number_kind, pointed, as_type, size_of, told, pointer_to}
use Rattle.k_marks_meaning.specs.Uses.{used, uses_of}
use Rattle.k_marks_laws.specs.Counted.{IsTypedChange}
use Rattle.k_types_meaning.proofs.Fine.{IfFine}
use Rattle.k_marks_laws.proofs.Meant.{Meant, meant_of, each_both, each_target, kind_below, changes_well}
use Rattle.k_marks_laws.proofs.Out.{out_Number, out_Str, out_Object, out_Variable, out_Index, out_Post, out_Pre, out_Address, out_Deref, out_Plus, out_Unary, out_Cast}
use Rattle.k_marks_laws.proofs.Scopes.{NamesEach, Fits, found}

module _ (K : ℕ → Kind → Type 0) (count : ℕ) where
  -- A NAME
  named_meant : (p : Place) (x : List ℕ) (o : Option Meaning) → ((m : Meaning) → o ≡ Some m → Fits K count m) → IfFine (Meant K count) (named p x o)
  named_meant p x None fits = tt
  named_meant p x (Some (meaning.Variable n of fixed)) fits =
      let here = fits (meaning.Variable n of fixed) refl in
      meant_of K count (record { tree = typed.Variable (at p (told of)) n; of = of; place = operands.place_of of fixed; taken = [] }) (TExpr-F.Variable (at p (told of)) n)
      (out_Variable (at p (told of)) n) (here.0, tt) tt here.1
  named_meant p x (Some (meaning.Object n of fixed)) fits =
      meant_of K count (record { tree = typed.Object (at p (told of)) n; of = of; place = operands.place_of of fixed; taken = [] }) (TExpr-F.Object (at p (told of)) n)
      (out_Object (at p (told of)) n) tt tt tt
  named_meant p x (Some (meaning.Function signature)) fits = tt
  named_meant p x (Some (meaning.Library function)) fits = tt

  pub name_meant : (names : Names) (p : Place) (x : List ℕ) → NamesEach (Fits K count) names → IfFine (Meant K count) (name_rule names p x)
  unfolding name_rule
  name_meant names p x fits = named_meant p x (meaning_of names x) (λ m is. found (Fits K count) names x m fits is)

  -- CONSTANTS
  number_is : (p : Place) (kind : Kind) (z : ℤ) (taken : List ℕ) → Meant K count (operands.number kind (typed.Number (at p (ttype.Number kind)) z) taken)
  number_is p kind z taken =
      meant_of K count (operands.number kind (typed.Number (at p (ttype.Number kind)) z) taken) (TExpr-F.Number (at p (ttype.Number kind)) z)
      (out_Number (at p (ttype.Number kind)) z) tt tt tt

  pub number_meant : (p : Place) (kind : Kind) (n : ℕ) → IfFine (Meant K count) (number_rule p kind n)
  unfolding number_rule
  number_meant p kind n = number_is p kind (pos n) []

  pub char_meant : (p : Place) (z : ℤ) → IfFine (Meant K count) (char_rule p z)
  unfolding char_rule
  char_meant p z = number_is p I32 z []

  pub string_meant : (p : Place) (bytes : List ℕ) → IfFine (Meant K count) (string_rule p bytes)
  unfolding string_rule
  string_meant p bytes =
      meant_of K count (operands.value (string_type bytes) (typed.Str (at p (told (string_type bytes))) 0 bytes) []) (TExpr-F.Str (at p (told (string_type bytes))) 0 bytes)
      (out_Str (at p (told (string_type bytes))) 0 bytes) tt tt tt

  -- PLACES
  indexed_meant : (p : Place) (base index : Typed) (e : Option Element) (kind : Option Kind) → Meant K count base → Meant K count index → IfFine (Meant K count) (indexed p base index e kind)
  indexed_meant p base index None kind x y = tt
  indexed_meant p base index (Some e) None x y = tt
  indexed_meant p base index (Some e) (Some kind) x y =
      meant_of K count (element_at e (λ of. typed.Index (at p of) base.tree index.tree) (base.taken ++ index.taken))
      (TExpr-F.Index (at p (told (as_type e.kind e.dims e.fixed))) base.tree index.tree)
      (out_Index (at p (told (as_type e.kind e.dims e.fixed))) base.tree index.tree)
      (each_both (λ n. n < count) (uses_of base.tree) (uses_of index.tree) x.below y.below) tt tt

  pub index_meant : (p : Place) (base index : Typed) → Meant K count base → Meant K count index → IfFine (Meant K count) (index_rule p base index)
  unfolding index_rule
  index_meant p base index x y = indexed_meant p base index (pointed base.of) (number_kind index.of) x y

  deref_meant : (p : Place) (e : Typed) (o : Option Element) → Meant K count e → IfFine (Meant K count) (pointed_to p e o)
  deref_meant p e None x = tt
  deref_meant p e (Some element) x =
      meant_of K count (element_at element (λ of. typed.Deref (at p of) e.tree) e.taken)
      (TExpr-F.Deref (at p (told (as_type element.kind element.dims element.fixed))) e.tree)
      (out_Deref (at p (told (as_type element.kind element.dims element.fixed))) e.tree) x.below tt tt

  addressed_meant : (p : Place) (e : Typed) (kind : Option Kind) (fixed : Option Bool) → Meant K count e → IfFine (Meant K count) (addressed p e kind fixed)
  addressed_meant p e None fixed x = tt
  addressed_meant p e (Some kind) None x = tt
  addressed_meant p e (Some kind) (Some fixed) x =
      let element : Element = record { kind = kind; dims = []; fixed = fixed } in
      meant_of K count (operands.value (ctype.Pointer element) (typed.Address (at p (pointer_to element)) e.tree) (e.taken ++ operands.variable_step (out-TExpr e.tree)))
      (TExpr-F.Address (at p (pointer_to element)) e.tree) (out_Address (at p (pointer_to element)) e.tree) x.below tt tt

  -- OPERATORS WITH ONE OPERAND
  of_number_meant : (p : Place) (e : Typed) (kind : Option Kind) (made : Kind → Typed) → ((k : Kind) → Meant K count (made k)) → IfFine (Meant K count) (of_number p e kind made)
  of_number_meant p e None made each = tt
  of_number_meant p e (Some kind) made each = each kind

  plus_meant : (p : Place) (e : Typed) → Meant K count e → (kind : Kind) → Meant K count (plus_of p e kind)
  plus_meant p e x kind =
      meant_of K count (plus_of p e kind) (TExpr-F.Plus (at p (ttype.Number (promoted kind))) (in_kind kind (promoted kind) e.tree))
      (out_Plus (at p (ttype.Number (promoted kind))) (in_kind kind (promoted kind) e.tree)) (kind_below K count kind (promoted kind) e.tree x.below) tt tt

  unary_of_meant : (p : Place) (op : Un) (e : Typed) → Meant K count e → (kind : Kind) → Meant K count (unary_of p op e kind)
  unary_of_meant p op e x kind =
      meant_of K count (unary_of p op e kind)
      (TExpr-F.Unary (at p (ttype.Number (unary_kind op (promoted kind)))) op (promoted kind) (in_kind kind (promoted kind) e.tree))
      (out_Unary (at p (ttype.Number (unary_kind op (promoted kind)))) op (promoted kind) (in_kind kind (promoted kind) e.tree))
      (kind_below K count kind (promoted kind) e.tree x.below) tt tt

  pub unary_meant : (p : Place) (op : Mark) (e : Typed) → Meant K count e → IfFine (Meant K count) (unary_rule p op e)
  unfolding unary_rule
  unary_meant p mark.Ampersand e x = addressed_meant p e (number_kind e.of) e.place x
  unary_meant p mark.Star e x = deref_meant p e (pointed e.of) x
  unary_meant p mark.Plus e x = of_number_meant p e (number_kind e.of) (plus_of p e) (plus_meant p e x)
  unary_meant p mark.Minus e x = of_number_meant p e (number_kind e.of) (unary_of p un.Neg e) (unary_of_meant p un.Neg e x)
  unary_meant p mark.Tilde e x = of_number_meant p e (number_kind e.of) (unary_of p un.Complement e) (unary_of_meant p un.Complement e x)
  unary_meant p mark.Exclaim e x = of_number_meant p e (number_kind e.of) (unary_of p un.Not e) (unary_of_meant p un.Not e x)
  unary_meant p _ e x = tt

  -- what is written is what is made
  pub written_meant : (p : Place) (fixed : Option Bool) (v : Typed) → Meant K count v → IfFine (Meant K count) (written p fixed v)
  written_meant p None v x = tt
  written_meant p (Some true) v x = tt
  written_meant p (Some false) v x = x

  -- `++` and `--` are typed for the kind of their operand
  step_well : (p : Place) (op : Mark) (e : Typed) (by : Change) → step_change op e.of ≡ Some by → (kind : Kind) → e.of ≡ ctype.Number kind → IsTypedChange kind (at p (told e.of)) by
  step_well p op e by is kind of =
      subst (IsTypedChange kind (at p (told e.of)))
      (same_Some (change.Number (step_operator op) (common_kind kind I32)) by (sym (ap (step_change op) of) ∙ is)) (ap told of, common_not_narrower kind I32)

  pub post_meant : (p : Place) (op : Mark) (e : Typed) → Meant K count e → IfFine (Meant K count) (post_rule p op e)
  unfolding post_rule
  post_meant p op e x = by (step_change op e.of) refl
    where
      by : (o : Option Change) → step_change op e.of ≡ o → IfFine (Meant K count) (stepped p e (λ of to. typed.Post (at p of) to e.tree) o)
      by None is = tt
      by (Some to) is =
          written_meant p e.place (operands.value (decayed e.of) (typed.Post (at p (told e.of)) to e.tree) e.taken)
          (meant_of K count (operands.value (decayed e.of) (typed.Post (at p (told e.of)) to e.tree) e.taken) (TExpr-F.Post (at p (told e.of)) to e.tree)
          (out_Post (at p (told e.of)) to e.tree) (each_target (λ n. n < count) (used e.tree).itself (uses_of e.tree) x.below)
          (changes_well K e (at p (told e.of)) to x.top (step_well p op e to is)) tt)

  pub pre_meant : (p : Place) (op : Mark) (e : Typed) → Meant K count e → IfFine (Meant K count) (pre_rule p op e)
  unfolding pre_rule
  pre_meant p op e x = by (step_change op e.of) refl
    where
      by : (o : Option Change) → step_change op e.of ≡ o → IfFine (Meant K count) (stepped p e (λ of to. typed.Pre (at p of) to e.tree) o)
      by None is = tt
      by (Some to) is =
          written_meant p e.place (operands.value (decayed e.of) (typed.Pre (at p (told e.of)) to e.tree) e.taken)
          (meant_of K count (operands.value (decayed e.of) (typed.Pre (at p (told e.of)) to e.tree) e.taken) (TExpr-F.Pre (at p (told e.of)) to e.tree)
          (out_Pre (at p (told e.of)) to e.tree) (each_target (λ n. n < count) (used e.tree).itself (uses_of e.tree) x.below)
          (changes_well K e (at p (told e.of)) to x.top (step_well p op e to is)) tt)

  -- `sizeof` AND CASTS
  size_meant : (p : Place) (taken : List ℕ) (of : CType) → IfFine (Meant K count) (size_number p taken of)
  size_meant p taken ctype.Void = tt
  size_meant p taken (ctype.Number kind) = number_is p U64 (pos (size_of (ctype.Number kind))) taken
  size_meant p taken (ctype.Pointer e) = number_is p U64 (pos (size_of (ctype.Pointer e))) taken
  size_meant p taken (ctype.Array n e) = number_is p U64 (pos (size_of (ctype.Array n e))) taken

  pub sizeof_meant : (p : Place) (e : Typed) → IfFine (Meant K count) (sizeof_rule p e)
  unfolding sizeof_rule
  sizeof_meant p e = size_meant p e.taken e.of

  pub sizeof_type_meant : (p : Place) (specs : List Word) (stars : List Bool) → IfFine (Meant K count) (sizeof_type_rule p specs stars)
  unfolding sizeof_type_rule
  sizeof_type_meant p specs stars = by (type_named specs stars)
    where
      by : (o : Option CType) → IfFine (Meant K count) (size_named p o)
      by None = tt
      by (Some of) = size_meant p [] of

  cast_is : (p : Place) (e : Typed) (of : CType) (node_of : TType) → Meant K count e → Meant K count (operands.value of (typed.Cast (at p node_of) e.tree) e.taken)
  cast_is p e of node_of x =
      meant_of K count (operands.value of (typed.Cast (at p node_of) e.tree) e.taken) (TExpr-F.Cast (at p node_of) e.tree) (out_Cast (at p node_of) e.tree) x.below tt tt

  cast_number_meant : (p : Place) (to : Kind) (e : Typed) (from : Option Kind) → Meant K count e → IfFine (Meant K count) (cast_number p to e from)
  cast_number_meant p to e None x = tt
  cast_number_meant p to e (Some from) x = cast_is p e (ctype.Number to) (ttype.Number to) x

  cast_pointer_meant : (p : Place) (to : Element) (e : Typed) (from : Option Element) → Meant K count e → IfFine (Meant K count) (cast_pointer p to e from)
  cast_pointer_meant p to e None x = tt
  cast_pointer_meant p to e (Some from) x = by (equal_element to from)
    where
      by : (b : Bool) → IfFine (Meant K count) (if b then Fine (operands.value (ctype.Pointer to) (typed.Cast (at p (pointer_to to)) e.tree) e.taken) else refused (fault.Kinds p))
      by true = cast_is p e (ctype.Pointer to) (pointer_to to) x
      by false = tt

  cast_to_meant : (p : Place) (o : Option CType) (e : Typed) → Meant K count e → IfFine (Meant K count) (cast_to p o e)
  cast_to_meant p None e x = tt
  cast_to_meant p (Some ctype.Void) e x = cast_is p e ctype.Void ttype.Void x
  cast_to_meant p (Some (ctype.Number to)) e x = cast_number_meant p to e (number_kind e.of) x
  cast_to_meant p (Some (ctype.Pointer to)) e x = cast_pointer_meant p to e (pointed e.of) x
  cast_to_meant p (Some (ctype.Array n to)) e x = tt

  pub cast_meant : (p : Place) (specs : List Word) (stars : List Bool) (e : Typed) → Meant K count e → IfFine (Meant K count) (cast_rule p specs stars e)
  unfolding cast_rule
  cast_meant p specs stars e x = cast_to_meant p (type_named specs stars) e x
