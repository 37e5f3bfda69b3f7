-- Believed with a public law.
-- What lowering asks of expressions and of what declares: each variable is one of the function's, and each call fits.
use Rattle.std.specs.Prelude.{ℕ, nat_lt, ◌&&◌, not, Bool, true, false, List, [], ◌∷◌, slice_get, Option, Some, None}
use Rattle.k_types_meaning.specs.declared.tree.declaration.TDeclarator.{TDeclarator}
use Rattle.k_types_meaning.specs.declared.tree.declaration.TInit.{TInit}
use Rattle.k_types_meaning.specs.declared.tree.declaration.TInit.TheVariants as init
use Rattle.k_types_meaning.specs.declared.tree.declaration.TItem.{TItem}
use Rattle.k_types_meaning.specs.declared.tree.declaration.TItem.TheVariants as item
use Rattle.k_types_meaning.specs.declared.tree.expression.Node.{Node}
use Rattle.k_types_meaning.specs.declared.tree.expression.TExpr.{TExpr, fold-TExpr}
use Rattle.k_types_meaning.specs.declared.tree.expression.TExpr.TheOpen.{TExpr-F}
use Rattle.k_types_meaning.specs.declared.tree.statement.TFirst.{TFirst}
use Rattle.k_types_meaning.specs.declared.tree.statement.TFirst.TheVariants as first
use Rattle.k_types_meaning.specs.declared.tree.unit.TFunc.{TFunc}
use Rattle.k_types_meaning.specs.declared.tree.unit.TUnit.{TUnit}
use Rattle.k_types_meaning.specs.declared.types.TType.{TType}
use Rattle.k_lower_fits.specs.Fits.{has_values}

-- all of them
abbrev pub all_true : List Bool → Bool
all_true [] = true
all_true (b ∷ bs) = b && all_true bs

-- an expression, of whose operands it is known, in a function with so many variables, by which calls fit
abbrev pub sound_step : ℕ → (Node → ℕ → Bool) → TExpr-F Bool → Bool
sound_step count fits (TExpr-F.Number node z) = true
sound_step count fits (TExpr-F.Str node n bytes) = true
sound_step count fits (TExpr-F.Object node n) = true
sound_step count fits (TExpr-F.Variable node n) = nat_lt n count
sound_step count fits (TExpr-F.Index node a b) = a && b
sound_step count fits (TExpr-F.Call node f args) = fits node f && all_true args
sound_step count fits (TExpr-F.Getchar node) = true
sound_step count fits (TExpr-F.Putchar node a) = a
sound_step count fits (TExpr-F.Puts node a) = a
sound_step count fits (TExpr-F.Printf node format args) = all_true args
sound_step count fits (TExpr-F.Post node change a) = a
sound_step count fits (TExpr-F.Pre node change a) = a
sound_step count fits (TExpr-F.Address node a) = a
sound_step count fits (TExpr-F.Deref node a) = a
sound_step count fits (TExpr-F.Plus node a) = a
sound_step count fits (TExpr-F.Unary node op kind a) = a
sound_step count fits (TExpr-F.Convert node a) = a
sound_step count fits (TExpr-F.Cast node a) = a
sound_step count fits (TExpr-F.Binary node op kind a b) = a && b
sound_step count fits (TExpr-F.Both node a b) = a && b
sound_step count fits (TExpr-F.Either node a b) = a && b
sound_step count fits (TExpr-F.Forward node a b) = a && b
sound_step count fits (TExpr-F.Onto node a b) = a && b
sound_step count fits (TExpr-F.Back node a b) = a && b
sound_step count fits (TExpr-F.PtrCompare node op a b) = a && b
sound_step count fits (TExpr-F.PtrDistance node a b) = a && b
sound_step count fits (TExpr-F.Cond node a b c) = a && (b && c)
sound_step count fits (TExpr-F.Assign node a b) = a && b
sound_step count fits (TExpr-F.AssignBy node change a b) = a && b
sound_step count fits (TExpr-F.Comma node a b) = a && b

-- an expression
abbrev pub is_sound : ℕ → (Node → ℕ → Bool) → TExpr → Bool
is_sound count fits = fold-TExpr Bool (sound_step count fits)

-- an expression that may be left out is sound, in a function with so many variables, by which calls fit
abbrev pub option_sound : ℕ → (Node → ℕ → Bool) → Option TExpr → Bool
option_sound count fits None = true
option_sound count fits (Some e) = is_sound count fits e

-- an item of braces is
abbrev pub item_sound : ℕ → (Node → ℕ → Bool) → TItem → Bool
item_sound count fits (item.Bytes n bytes) = true
item_sound count fits (item.Value place n e) = is_sound count fits e

-- all items of braces are
abbrev pub items_sound : ℕ → (Node → ℕ → Bool) → List TItem → Bool
items_sound count fits [] = true
items_sound count fits (i ∷ items) = item_sound count fits i && items_sound count fits items

-- an initialiser is
abbrev pub init_sound : ℕ → (Node → ℕ → Bool) → TInit → Bool
init_sound count fits init.Nothing = true
init_sound count fits (init.Value e) = is_sound count fits e
init_sound count fits (init.Elements items) = items_sound count fits items

-- a declared variable is one of the function's, and its initialiser is sound
abbrev pub declarator_sound : ℕ → (Node → ℕ → Bool) → TDeclarator → Bool
declarator_sound count fits d = nat_lt d.variable count && init_sound count fits d.init

-- so are several
abbrev pub declared_sound : ℕ → (Node → ℕ → Bool) → List TDeclarator → Bool
declared_sound count fits [] = true
declared_sound count fits (d ∷ ds) = declarator_sound count fits d && declared_sound count fits ds

-- the first part of a `for` is sound
abbrev pub first_sound : ℕ → (Node → ℕ → Bool) → TFirst → Bool
first_sound count fits first.Nothing = true
first_sound count fits (first.Value e) = is_sound count fits e
first_sound count fits (first.Declare list) = declared_sound count fits list

-- both are true, or both are false
abbrev pub alike : Bool → Bool → Bool
alike true b = b
alike false b = not b

-- a call of this type: its function is there, and the call has a value exactly where the function has one
abbrev pub call_fits : Option TFunc → TType → Bool
call_fits None of = false
call_fits (Some f) of = alike (has_values of) (has_values f.result)

-- whether the call that a node is, of the function of this number of a source, fits
abbrev pub calls_fit : TUnit → Node → ℕ → Bool
calls_fit unit node n = call_fits (slice_get unit.functions n) node.of
