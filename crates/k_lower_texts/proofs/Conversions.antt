-- What a conversion makes passes where its operand does.
use Rattle.std.proofs.Common.{◌≡◌, Bool, true, false, ◌&&◌, if◌then◌else◌, List, [], ◌∷◌, map, Option, Some, None, refl, ◌∙◌, ℤ}
use Rattle.std.proofs.lemmas.Bool.{and_from}
use Rattle.k_num.specs.declared.numbers.Kind.{Kind}
use Rattle.k_num.specs.Kind.{converted}
use Rattle.k_types_meaning.specs.declared.tree.expression.TExpr.{TExpr}
use Rattle.k_types_meaning.specs.declared.types.CType.{CType}
use Rattle.k_types_meaning.specs.declared.types.CType.TheVariants as ctype
use Rattle.k_types_meaning.specs.declared.types.Element.{Element}
use Rattle.k_types_meaning.specs.declared.types.TType.TheVariants as ttype
use Rattle.k_types_meaning.specs.Conversions.{Typed, at, node_of, in_kind, number_in, conversion, number_in_kind, unless_number, passed, passed_number, passed_pointer, keeps_const}
use Rattle.k_types_meaning.specs.Types.{same_kind, number_kind, pointed}
use Rattle.k_types_meaning.proofs.Fine.{AllOf, IfThere}
use Rattle.k_types_meaning.proofs.Folds.{typed_Number, typed_Convert}
use Rattle.k_lower_texts.specs.Laws.{NumbersFollow}
use Rattle.k_lower_texts.specs.Passing.{Asks, all_pass, expr_step, expr_passes}

module _ (asks : Asks) where
  -- an expression passes
  abbrev pub Passes : TExpr → Type 0
  Passes e = expr_passes asks e ≡ true

module _ (asks : Asks) (numbers : NumbersFollow asks) where
  pub in_its_kind : (from to : Kind) (e : TExpr) → (Passes asks) e → (Passes asks) (in_kind from to e)
  unfolding in_kind
  in_its_kind from to e h = by (same_kind from to)
    where
      converts : (o : Option ℤ) → (Passes asks) (conversion to e o)
      converts None = typed_Convert Bool (expr_step asks) (at (node_of e).place (ttype.Number to)) e ∙ h
      converts (Some z) = typed_Number Bool (expr_step asks) (at (node_of e).place (ttype.Number to)) (converted to z) ∙ numbers.conversions to z

      by : (b : Bool) → (Passes asks) (if b then e else conversion to e (number_in e))
      by true = h
      by false = converts (number_in e)

  pub number_in_its_kind : (from to : Kind) (e : TExpr) → (Passes asks) e → (Passes asks) (number_in_kind from to e)
  unfolding number_in_kind
  number_in_its_kind from to e h = by (number_in e)
    where
      by : (o : Option ℤ) → (Passes asks) (unless_number e (in_kind from to e) o)
      by None = h
      by (Some z) = in_its_kind from to e h

  number_passed : (to : Kind) (e : TExpr) (o : Option Kind) → (Passes asks) e → IfThere (Passes asks) (passed_number to e o)
  number_passed to e None h = tt
  number_passed to e (Some from) h = in_its_kind from to e h

  pointer_passed : (to : Element) (e : TExpr) (o : Option Element) → (Passes asks) e → IfThere (Passes asks) (passed_pointer to e o)
  pointer_passed to e None h = tt
  pointer_passed to e (Some from) h = by (keeps_const to from)
    where
      by : (b : Bool) → IfThere (Passes asks) (if b then Some e else None)
      by true = h
      by false = tt

  pub is_passed : (to : CType) (v : Typed) → (Passes asks) v.tree → IfThere (Passes asks) (passed to v)
  unfolding passed
  is_passed ctype.Void v h = tt
  is_passed (ctype.Number kind) v h = number_passed kind v.tree (number_kind v.of) h
  is_passed (ctype.Pointer e) v h = pointer_passed e v.tree (pointed v.of) h
  is_passed (ctype.Array count e) v h = pointer_passed e v.tree (pointed v.of) h

module _ (asks : Asks) where
  -- two and several
  pub both_pass : (a b : TExpr) → (Passes asks) a → (Passes asks) b → (expr_passes asks a && expr_passes asks b) ≡ true
  both_pass a b h k = and_from (expr_passes asks a) (expr_passes asks b) h k

  pub all_of_them : (es : List TExpr) → AllOf (Passes asks) es → all_pass (map (expr_passes asks) es) ≡ true
  all_of_them [] h = refl
  all_of_them (e ∷ es) h = and_from (expr_passes asks e) (all_pass (map (expr_passes asks) es)) h.0 (all_of_them es h.1)
