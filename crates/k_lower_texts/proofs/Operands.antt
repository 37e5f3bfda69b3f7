-- What the rules of names, constants, places and operators with one operand make passes where their operands do.
use Rattle.std.proofs.Common.{◌≡◌, ℕ, ℤ, pos, List, [], Option, Some, None, Bool, true, false, if◌then◌else◌, refl, ◌∙◌}
use Rattle.k_num.specs.declared.numbers.Kind.{Kind}
use Rattle.k_num.specs.declared.numbers.Kind.TheVariants.{I32, U64}
use Rattle.k_num.specs.declared.numbers.Un.{Un}
use Rattle.k_num.specs.declared.numbers.Un.TheVariants as un
use Rattle.k_num.specs.declared.place.Place.{Place}
use Rattle.k_num.specs.Kind.{promoted}
use Rattle.k_tree.specs.declared.tokens.mark.Mark.{Mark}
use Rattle.k_tree.specs.declared.tokens.mark.Mark.TheVariants as mark
use Rattle.k_tree.specs.declared.tokens.word.Word.{Word}
use Rattle.k_types_meaning.specs.declared.fault.TypeFault.TheVariants as fault
use Rattle.k_types_meaning.specs.declared.names.Meaning.{Meaning}
use Rattle.k_types_meaning.specs.declared.names.Meaning.TheVariants as meaning
use Rattle.k_types_meaning.specs.declared.types.CType.{CType}
use Rattle.k_types_meaning.specs.declared.types.CType.TheVariants as ctype
use Rattle.k_types_meaning.specs.declared.types.Element.{Element}
use Rattle.k_types_meaning.specs.declared.types.TType.{TType}
use Rattle.k_types_meaning.specs.declared.types.TType.TheVariants as ttype
use Rattle.k_types_meaning.specs.declared.tree.expression.Change.{Change}
use Rattle.k_types_meaning.specs.declared.tree.expression.TExpr.{TExpr}
use Rattle.k_types_meaning.specs.declared.tree.expression.TExpr.TheVariants as typed
use Rattle.k_types_meaning.specs.Conversions.{Typed, at, in_kind}
use Rattle.k_types_meaning.specs.Made.{Fine, refused}
use Rattle.k_types_meaning.specs.Names.{Names, meaning_of}
use Rattle.k_types_meaning.specs.Operands as operands
use Rattle.k_types_meaning.specs.Operands.{named, name_rule, number_rule, char_rule, string_type, string_rule, indexed, index_rule, pointed_to, addressed, of_number, plus_of, unary_kind, unary_of, unary_rule, written, step_change, stepped, post_rule, pre_rule, size_number, sizeof_rule, size_named, sizeof_type_rule, cast_number, cast_pointer, cast_to, cast_rule}
use Rattle.k_types_meaning.specs.Specifiers.{type_named}
use Rattle.k_types_meaning.specs.Types.{equal_element, number_kind, pointed, as_type, size_of, told, pointer_to}
use Rattle.k_types_meaning.proofs.Fine.{IfFine}
use Rattle.k_types_meaning.proofs.Folds.{typed_Number, typed_Str, typed_Object, typed_Variable, typed_Index, typed_Post, typed_Pre, typed_Address, typed_Deref, typed_Plus, typed_Unary, typed_Cast}
use Rattle.k_lower_texts.specs.Laws.{NumbersFollow}
use Rattle.k_lower_texts.specs.Passing.{Asks, expr_step, expr_passes}
use Rattle.k_lower_texts.proofs.Conversions.{both_pass, in_its_kind}
use Rattle.k_lower_texts.proofs.Small.{AreSmall, SmallMeaning, SmallType, decayed_small, element_small, named_small, pointed_small, size_small, string_small}

module _ (asks : Asks) where
  -- a judged expression passes, and its type is small
  abbrev pub G : Typed → Type 0
  G v = (expr_passes asks v.tree ≡ true) × SmallType v.of

module _ (asks : Asks) (numbers : NumbersFollow asks) where
  -- A NAME
  named_passes : (p : Place) (x : List ℕ) (o : Option Meaning) → ((m : Meaning) → o ≡ Some m → SmallMeaning m) → IfFine (G asks) (named p x o)
  named_passes p x None small = tt
  named_passes p x (Some (meaning.Variable n of fixed)) small = (typed_Variable Bool (expr_step asks) (at p (told of)) n, small (meaning.Variable n of fixed) refl)
  named_passes p x (Some (meaning.Object n of fixed)) small = (typed_Object Bool (expr_step asks) (at p (told of)) n, small (meaning.Object n of fixed) refl)
  named_passes p x (Some (meaning.Function signature)) small = tt
  named_passes p x (Some (meaning.Library function)) small = tt

  pub name_passes : (names : Names) (p : Place) (x : List ℕ) → ((m : Meaning) → meaning_of names x ≡ Some m → SmallMeaning m) → IfFine (G asks) (name_rule names p x)
  unfolding name_rule
  name_passes names p x small = named_passes p x (meaning_of names x) small

  -- CONSTANTS
  number_is : (p : Place) (kind : Kind) (z : ℤ) → asks.number (ttype.Number kind) z ≡ true → expr_passes asks (typed.Number (at p (ttype.Number kind)) z) ≡ true
  number_is p kind z h = typed_Number Bool (expr_step asks) (at p (ttype.Number kind)) z ∙ h

  pub number_passes : (p : Place) (kind : Kind) (n : ℕ) → asks.number (ttype.Number kind) (pos n) ≡ true → IfFine (G asks) (number_rule p kind n)
  unfolding number_rule
  number_passes p kind n h = (number_is p kind (pos n) h, tt)

  pub char_passes : (p : Place) (z : ℤ) → asks.number (ttype.Number I32) z ≡ true → IfFine (G asks) (char_rule p z)
  unfolding char_rule
  char_passes p z h = (number_is p I32 z h, tt)

  pub string_passes : (p : Place) (bytes : List ℕ) → asks.bytes bytes ≡ true → IfFine (G asks) (string_rule p bytes)
  unfolding string_rule
  string_passes p bytes h = (typed_Str Bool (expr_step asks) (at p (told (string_type bytes))) 0 bytes ∙ h, string_small bytes (numbers.short bytes h))

  -- PLACES
  indexed_passes : (p : Place) (base index : Typed) (e : Option Element) (kind : Option Kind) → ((d : Element) → e ≡ Some d → AreSmall d.dims) → (G asks) base → (G asks) index → IfFine (G asks) (indexed p base index e kind)
  indexed_passes p base index None kind small x y = tt
  indexed_passes p base index (Some e) None small x y = tt
  indexed_passes p base index (Some e) (Some kind) small x y = (
    typed_Index Bool (expr_step asks) (at p (told (as_type e.kind e.dims e.fixed))) base.tree index.tree ∙ both_pass asks base.tree index.tree x.0 y.0,
    element_small e.kind e.dims e.fixed (small e refl),
  )

  pub index_passes : (p : Place) (base index : Typed) → (G asks) base → (G asks) index → IfFine (G asks) (index_rule p base index)
  unfolding index_rule
  index_passes p base index x y = indexed_passes p base index (pointed base.of) (number_kind index.of) (pointed_small base.of x.1) x y

  deref_passes : (p : Place) (e : Typed) (o : Option Element) → ((d : Element) → o ≡ Some d → AreSmall d.dims) → (G asks) e → IfFine (G asks) (pointed_to p e o)
  deref_passes p e None small x = tt
  deref_passes p e (Some element) small x = (
    typed_Deref Bool (expr_step asks) (at p (told (as_type element.kind element.dims element.fixed))) e.tree ∙ x.0,
    element_small element.kind element.dims element.fixed (small element refl),
  )

  addressed_passes : (p : Place) (e : Typed) (kind : Option Kind) (fixed : Option Bool) → (G asks) e → IfFine (G asks) (addressed p e kind fixed)
  addressed_passes p e None fixed x = tt
  addressed_passes p e (Some kind) None x = tt
  addressed_passes p e (Some kind) (Some fixed) x =
      (typed_Address Bool (expr_step asks) (at p (pointer_to (record { kind = kind; dims = []; fixed = fixed }))) e.tree ∙ x.0, tt)

  -- OPERATORS WITH ONE OPERAND
  of_number_passes : (p : Place) (e : Typed) (kind : Option Kind) (made : Kind → Typed) → ((k : Kind) → (G asks) (made k)) → IfFine (G asks) (of_number p e kind made)
  of_number_passes p e None made each = tt
  of_number_passes p e (Some kind) made each = each kind

  plus_passes : (p : Place) (e : Typed) → (G asks) e → (kind : Kind) → (G asks) (plus_of p e kind)
  plus_passes p e x kind =
      (typed_Plus Bool (expr_step asks) (at p (ttype.Number (promoted kind))) (in_kind kind (promoted kind) e.tree) ∙ in_its_kind asks numbers kind (promoted kind) e.tree x.0, tt)

  unary_of_passes : (p : Place) (op : Un) (e : Typed) → (G asks) e → (kind : Kind) → (G asks) (unary_of p op e kind)
  unary_of_passes p op e x kind = (
    typed_Unary Bool (expr_step asks) (at p (ttype.Number (unary_kind op (promoted kind)))) op (promoted kind) (in_kind kind (promoted kind) e.tree)
        ∙ in_its_kind asks numbers kind (promoted kind) e.tree x.0,
    tt,
  )

  pub unary_passes : (p : Place) (op : Mark) (e : Typed) → (G asks) e → IfFine (G asks) (unary_rule p op e)
  unfolding unary_rule
  unary_passes p mark.Ampersand e x = addressed_passes p e (number_kind e.of) e.place x
  unary_passes p mark.Star e x = deref_passes p e (pointed e.of) (pointed_small e.of x.1) x
  unary_passes p mark.Plus e x = of_number_passes p e (number_kind e.of) (plus_of p e) (plus_passes p e x)
  unary_passes p mark.Minus e x = of_number_passes p e (number_kind e.of) (unary_of p un.Neg e) (unary_of_passes p un.Neg e x)
  unary_passes p mark.Tilde e x = of_number_passes p e (number_kind e.of) (unary_of p un.Complement e) (unary_of_passes p un.Complement e x)
  unary_passes p mark.Exclaim e x = of_number_passes p e (number_kind e.of) (unary_of p un.Not e) (unary_of_passes p un.Not e x)
  unary_passes p _ e x = tt

  -- what is written is what is made
  pub written_passes : (p : Place) (fixed : Option Bool) (v : Typed) → (G asks) v → IfFine (G asks) (written p fixed v)
  written_passes p None v x = tt
  written_passes p (Some true) v x = tt
  written_passes p (Some false) v x = x

  stepped_passes : (p : Place) (e : Typed) (tree : TType → Change → TExpr) (o : Option Change) → SmallType e.of
      → ((of : TType) (to : Change) → expr_passes asks (tree of to) ≡ true) → IfFine (G asks) (stepped p e tree o)
  stepped_passes p e tree None small each = tt
  stepped_passes p e tree (Some to) small each = written_passes p e.place _ (each (told e.of) to, decayed_small e.of small)

  pub post_passes : (p : Place) (op : Mark) (e : Typed) → (G asks) e → IfFine (G asks) (post_rule p op e)
  unfolding post_rule
  post_passes p op e x = stepped_passes p e (λ of to. typed.Post (at p of) to e.tree) (step_change op e.of) x.1 (λ of to. typed_Post Bool (expr_step asks) (at p of) to e.tree ∙ x.0)

  pub pre_passes : (p : Place) (op : Mark) (e : Typed) → (G asks) e → IfFine (G asks) (pre_rule p op e)
  unfolding pre_rule
  pre_passes p op e x = stepped_passes p e (λ of to. typed.Pre (at p of) to e.tree) (step_change op e.of) x.1 (λ of to. typed_Pre Bool (expr_step asks) (at p of) to e.tree ∙ x.0)

  -- `sizeof` AND CASTS
  size_passes : (p : Place) (taken : List ℕ) (of : CType) → SmallType of → IfFine (G asks) (size_number p taken of)
  size_passes p taken ctype.Void small = tt
  size_passes p taken (ctype.Number kind) small = (number_is p U64 (pos (size_of (ctype.Number kind))) (numbers.sizes (size_of (ctype.Number kind)) (size_small (ctype.Number kind) small)), tt)
  size_passes p taken (ctype.Pointer e) small = (number_is p U64 (pos (size_of (ctype.Pointer e))) (numbers.sizes (size_of (ctype.Pointer e)) (size_small (ctype.Pointer e) small)), tt)
  size_passes p taken (ctype.Array n e) small = (number_is p U64 (pos (size_of (ctype.Array n e))) (numbers.sizes (size_of (ctype.Array n e)) (size_small (ctype.Array n e) small)), tt)

  pub sizeof_passes : (p : Place) (e : Typed) → (G asks) e → IfFine (G asks) (sizeof_rule p e)
  unfolding sizeof_rule
  sizeof_passes p e x = size_passes p e.taken e.of x.1

  pub sizeof_type_passes : (p : Place) (specs : List Word) (stars : List Bool) → IfFine (G asks) (sizeof_type_rule p specs stars)
  unfolding sizeof_type_rule
  sizeof_type_passes p specs stars = by (type_named specs stars) (named_small specs stars)
    where
      by : (o : Option CType) → ((of : CType) → o ≡ Some of → SmallType of) → IfFine (G asks) (size_named p o)
      by None small = tt
      by (Some of) small = size_passes p [] of (small of refl)

  cast_is : (p : Place) (e : Typed) (of : TType) → (G asks) e → expr_passes asks (typed.Cast (at p of) e.tree) ≡ true
  cast_is p e of x = typed_Cast Bool (expr_step asks) (at p of) e.tree ∙ x.0

  cast_number_passes : (p : Place) (to : Kind) (e : Typed) (from : Option Kind) → (G asks) e → IfFine (G asks) (cast_number p to e from)
  cast_number_passes p to e None x = tt
  cast_number_passes p to e (Some from) x = (cast_is p e (ttype.Number to) x, tt)

  cast_pointer_passes : (p : Place) (to : Element) (e : Typed) (from : Option Element) → AreSmall to.dims → (G asks) e → IfFine (G asks) (cast_pointer p to e from)
  cast_pointer_passes p to e None small x = tt
  cast_pointer_passes p to e (Some from) small x = by (equal_element to from)
    where
      by : (b : Bool) → IfFine (G asks) (if b then Fine (operands.value (ctype.Pointer to) (typed.Cast (at p (pointer_to to)) e.tree) e.taken) else refused (fault.Kinds p))
      by true = (cast_is p e (pointer_to to) x, small)
      by false = tt

  cast_to_passes : (p : Place) (o : Option CType) (e : Typed) → ((of : CType) → o ≡ Some of → SmallType of) → (G asks) e → IfFine (G asks) (cast_to p o e)
  cast_to_passes p None e small x = tt
  cast_to_passes p (Some ctype.Void) e small x = (cast_is p e ttype.Void x, tt)
  cast_to_passes p (Some (ctype.Number to)) e small x = cast_number_passes p to e (number_kind e.of) x
  cast_to_passes p (Some (ctype.Pointer to)) e small x = cast_pointer_passes p to e (pointed e.of) (small (ctype.Pointer to) refl) x
  cast_to_passes p (Some (ctype.Array k to)) e small x = tt

  pub cast_passes : (p : Place) (specs : List Word) (stars : List Bool) (e : Typed) → (G asks) e → IfFine (G asks) (cast_rule p specs stars e)
  unfolding cast_rule
  cast_passes p specs stars e x = cast_to_passes p (type_named specs stars) e (named_small specs stars) x
