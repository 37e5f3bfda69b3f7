-- Which variables are declared: each from a number on, and none that a text before could name.
use Rattle.std.proofs.Common.{◌≡◌, ℕ, ◌<◌, ◌≤◌, List, [], ◌∷◌, ◌++◌, map, Option, Some, None, Bool, true, false, nat_eq, refl, arith}
use Rattle.std.proofs.lemmas.Bool.{eqb-true}
use Rattle.k_types_meaning.specs.declared.tree.declaration.TDeclarator.{TDeclarator}
use Rattle.k_types_meaning.specs.declared.tree.declaration.TInit.{TInit}
use Rattle.k_types_meaning.specs.declared.tree.declaration.TInit.TheVariants as begins
use Rattle.k_types_meaning.specs.declared.tree.declaration.TItem.{TItem}
use Rattle.k_types_meaning.specs.declared.tree.declaration.TItem.TheVariants as item
use Rattle.k_types_meaning.specs.declared.tree.expression.TExpr.{TExpr, out-TExpr}
use Rattle.k_types_meaning.specs.declared.tree.expression.TExpr.TheOpen.{TExpr-F}
use Rattle.k_marks_meaning.specs.declared.uses.Reduction.{Reduction}
use Rattle.k_marks_meaning.specs.declared.uses.Read.{Read}
use Rattle.k_marks_meaning.specs.declared.uses.Use.{Use}
use Rattle.k_marks_meaning.specs.declared.uses.Use.TheVariants.{Names, Assigns, Declares, Reduces}
use Rattle.k_marks_meaning.specs.Uses.{uses_of, option_uses, all_uses, item_uses, init_uses, declared_uses}
use Rattle.k_marks_meaning.specs.Reductions.{group_of, change_group, variable_of, read_of, read_again, reduction, reduced_uses, assigned_step, unconverted, action_step, action_uses}
use Rattle.k_marks_laws.specs.Counted.{IsNotDeclared, EachNamed}
use Rattle.k_marks_laws.proofs.Conditions.{IsPlain, plain}

-- each variable that is declared here has this number or a higher one
abbrev pub DeclaresFrom : ℕ → List Use → Type 0
DeclaresFrom low [] = Unit {0}
DeclaresFrom low (Names m ∷ us) = DeclaresFrom low us
DeclaresFrom low (Assigns m ∷ us) = DeclaresFrom low us
DeclaresFrom low (Declares m ∷ us) = (low ≤ m) × DeclaresFrom low us
DeclaresFrom low (Reduces r ∷ us) = DeclaresFrom low us

pub from_both : (low : ℕ) (xs ys : List Use) → DeclaresFrom low xs → DeclaresFrom low ys → DeclaresFrom low (xs ++ ys)
from_both low [] ys h k = k
from_both low (Names m ∷ xs) ys h k = from_both low xs ys h k
from_both low (Assigns m ∷ xs) ys h k = from_both low xs ys h k
from_both low (Declares m ∷ xs) ys h k = (h.0, from_both low xs ys h.1 k)
from_both low (Reduces r ∷ xs) ys h k = from_both low xs ys h k

pub from_lower : (low high : ℕ) (us : List Use) → low ≤ high → DeclaresFrom high us → DeclaresFrom low us
from_lower low high [] less h = tt
from_lower low high (Names m ∷ us) less h = from_lower low high us less h
from_lower low high (Assigns m ∷ us) less h = from_lower low high us less h
from_lower low high (Declares m ∷ us) less h = let here : high ≤ m = h.0 in (omega (arith, here, less), from_lower low high us less h.1)
from_lower low high (Reduces r ∷ us) less h = from_lower low high us less h

-- AN EXPRESSION declares nothing
plain_from : (low : ℕ) (us : List Use) → IsPlain us → DeclaresFrom low us
plain_from low [] h = tt
plain_from low (Names m ∷ us) h = plain_from low us h
plain_from low (Assigns m ∷ us) h = plain_from low us h
plain_from low (Declares m ∷ us) h = absurd h
plain_from low (Reduces r ∷ us) h = absurd h

pub expr_from : (low : ℕ) (e : TExpr) → DeclaresFrom low (uses_of e)
expr_from low e = plain_from low (uses_of e) (plain e)

pub option_from : (low : ℕ) (e : Option TExpr) → DeclaresFrom low (option_uses e)
option_from low None = tt
option_from low (Some e) = expr_from low e

reduced_from : (low : ℕ) (whole other : TExpr) (r : Option Reduction) → DeclaresFrom low (reduced_uses whole r other)
reduced_from low whole other None = expr_from low whole
reduced_from low whole other (Some r) = expr_from low other

assigned_from : (low : ℕ) (whole : TExpr) (s : Option Read) (y : TExpr-F TExpr) → DeclaresFrom low (assigned_step whole s y)
assigned_from low whole s (TExpr-F.Binary node op kind left right) = reduced_from low whole right (reduction (read_again s (read_of left)) (group_of op))
assigned_from low whole s _ = expr_from low whole

action_at : (low : ℕ) (whole : TExpr) (y : TExpr-F TExpr) → DeclaresFrom low (action_step whole y)
action_at low whole (TExpr-F.AssignBy node by left right) = reduced_from low whole right (reduction (variable_of left) (change_group by))
action_at low whole (TExpr-F.Assign node left right) = assigned_from low whole (variable_of left) (out-TExpr (unconverted right))
action_at low whole _ = expr_from low whole

pub action_from : (low : ℕ) (e : TExpr) → DeclaresFrom low (action_uses e)
action_from low e = action_at low e (out-TExpr e)

-- INITIALISERS declare nothing
item_from : (low : ℕ) (i : TItem) → DeclaresFrom low (item_uses i)
item_from low (item.Bytes n bytes) = tt
item_from low (item.Value p n e) = expr_from low e

items_from : (low : ℕ) (items : List TItem) → DeclaresFrom low (all_uses (map item_uses items))
items_from low [] = tt
items_from low (i ∷ items) = from_both low (item_uses i) (all_uses (map item_uses items)) (item_from low i) (items_from low items)

pub init_from : (low : ℕ) (i : TInit) → DeclaresFrom low (init_uses i)
init_from low begins.Nothing = tt
init_from low (begins.Value e) = expr_from low e
init_from low (begins.Elements items) = items_from low items

-- one declarator before others
pub declarator_from : (low : ℕ) (d : TDeclarator) (ds : List TDeclarator) → low ≤ d.variable → DeclaresFrom low (declared_uses ds) → DeclaresFrom low (declared_uses (d ∷ ds))
declarator_from low d ds here h = (here, from_both low (init_uses d.init) (declared_uses ds) (init_from low d.init) h)

-- WHAT IS NAMED BEFORE is not declared
differs : (low m n : ℕ) → n < low → low ≤ m → nat_eq m n ≡ false
differs low m n below from = by (nat_eq m n) refl
  where
    by : (b : Bool) → nat_eq m n ≡ b → nat_eq m n ≡ false
    by false is = is
    by true is = absurd (let e : m ≡ n = eqb-true m n is in omega (arith, e, below, from))

pub not_declared : (low n : ℕ) (us : List Use) → n < low → DeclaresFrom low us → IsNotDeclared n us
not_declared low n [] below h = tt
not_declared low n (Names m ∷ us) below h = not_declared low n us below h
not_declared low n (Assigns m ∷ us) below h = not_declared low n us below h
not_declared low n (Declares m ∷ us) below h = (differs low m n below h.0, not_declared low n us below h.1)
not_declared low n (Reduces r ∷ us) below h = not_declared low n us below h

pub scopes_of : (low : ℕ) (us named : List Use) → DeclaresFrom low us → EachNamed (λ n. n < low) named → EachNamed (λ n. IsNotDeclared n us) named
scopes_of low us [] h each = tt
scopes_of low us (Names m ∷ named) h each = (not_declared low m us each.0 h, scopes_of low us named h each.1)
scopes_of low us (Assigns m ∷ named) h each = scopes_of low us named h each
scopes_of low us (Declares m ∷ named) h each = scopes_of low us named h each
scopes_of low us (Reduces r ∷ named) h each = scopes_of low us named h each
