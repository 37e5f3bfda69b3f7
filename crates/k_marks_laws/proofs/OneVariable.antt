-- Expressions that are one variable, and what they do with variables.
use Rattle.std.proofs.Common.{◌≡◌, List, [], ◌∷◌, Option, Some, None, refl, sym, ap, subst}
use Rattle.k_types_meaning.specs.declared.tree.expression.TExpr.{TExpr, fold_out-TExpr, map-TExpr, out-TExpr}
use Rattle.k_types_meaning.specs.declared.tree.expression.TExpr.TheOpen.{TExpr-F}
use Rattle.k_marks_meaning.specs.declared.uses.Read.{Read}
use Rattle.k_marks_meaning.specs.declared.uses.Use.{Use}
use Rattle.k_marks_meaning.specs.declared.uses.Use.TheVariants.{Names}
use Rattle.k_marks_meaning.specs.Uses.{Used, used, uses_step, uses_of}
use Rattle.k_marks_meaning.specs.Reductions.{variable_step, variable_of, read_step, read_of, unconverted_step, unconverted}

-- what an expression does with variables, by what its operands do
abbrev pub uses_at : TExpr-F TExpr → Used
uses_at x = uses_step (map-TExpr TExpr Used used x)

pub used_is : (e : TExpr) → used e ≡ uses_at (out-TExpr e)
used_is e = fold_out-TExpr Used uses_step e

-- an expression is this variable
abbrev pub IsRead : Option Read → Used → Type 0
IsRead None u = Unit {0}
IsRead (Some r) u = u ≡ record { itself = Some r.variable; uses = Names r.variable ∷ [] }

pub variable_at : (x : TExpr-F TExpr) → IsRead (variable_step x) (uses_at x)
variable_at (TExpr-F.Variable node m) = refl
variable_at _ = tt

pub variable_is : (e : TExpr) → IsRead (variable_of e) (used e)
variable_is e = subst (IsRead (variable_of e)) (sym (used_is e)) (variable_at (out-TExpr e))

-- an operand does nothing but name this variable
abbrev pub IsNamed : Option Read → List Use → Type 0
IsNamed None uses = Unit {0}
IsNamed (Some r) uses = uses ≡ Names r.variable ∷ []

pub named_of : (r : Option Read) (u : Used) → IsRead r u → IsNamed r u.uses
named_of None u is = tt
named_of (Some r) u is = ap (λ (v : Used). v.uses) is

pub read_at : (x : TExpr-F TExpr) → IsNamed (read_step x) (uses_at x).uses
read_at (TExpr-F.Variable node m) = refl
read_at (TExpr-F.Convert node e) = named_of (variable_of e) (used e) (variable_is e)
read_at _ = tt

pub read_is : (e : TExpr) → IsNamed (read_of e) (uses_of e)
read_is e = subst (λ (u : Used). IsNamed (read_of e) u.uses) (sym (used_is e)) (read_at (out-TExpr e))

pub unconverted_at : (e : TExpr) (x : TExpr-F TExpr) → used e ≡ uses_at x → uses_of (unconverted_step e x) ≡ uses_of e
unconverted_at e (TExpr-F.Convert node a) is = sym (ap (λ (u : Used). u.uses) is)
unconverted_at e _ is = refl

pub unconverted_uses : (e : TExpr) → uses_of (unconverted e) ≡ uses_of e
unconverted_uses e = unconverted_at e (out-TExpr e) (used_is e)
