-- Believed with a public law.
-- What a typed function names is there, and its jumps, calls and values stand where they may.
use Rattle.std.specs.Prelude.{ℕ, nat_lt, nat_eq, Bool, true, false, ◌&&◌, ◌||◌, not, List, [], ◌∷◌, map, length, slice_get, Option, Some, None}
use Rattle.k_types_meaning.specs.declared.tree.declaration.TDeclarator.{TDeclarator}
use Rattle.k_types_meaning.specs.declared.tree.declaration.TInit.{TInit}
use Rattle.k_types_meaning.specs.declared.tree.declaration.TInit.TheVariants as begins
use Rattle.k_types_meaning.specs.declared.tree.declaration.TItem.{TItem}
use Rattle.k_types_meaning.specs.declared.tree.declaration.TItem.TheVariants as item
use Rattle.k_types_meaning.specs.declared.tree.expression.TExpr.{TExpr, fold-TExpr}
use Rattle.k_types_meaning.specs.declared.tree.expression.TExpr.TheOpen.{TExpr-F}
use Rattle.k_types_meaning.specs.declared.tree.statement.TFirst.{TFirst}
use Rattle.k_types_meaning.specs.declared.tree.statement.TFirst.TheVariants as first
use Rattle.k_types_meaning.specs.declared.tree.statement.TStmt.{TStmt, fold-TStmt}
use Rattle.k_types_meaning.specs.declared.tree.statement.TPart.TheOpen.{TPart-F, TStmt-F}
use Rattle.k_types_meaning.specs.declared.tree.unit.TFunc.{TFunc}
use Rattle.k_types_meaning.specs.declared.tree.unit.TUnit.{TUnit}
use Rattle.k_types_meaning.specs.declared.types.TType.{TType}
use Rattle.k_types_meaning.specs.declared.types.TType.TheVariants as ttype

-- what a call has to know of a function: how many parameters it has, and whether it has a result
pub record Callee : Type 0 where
  pub params : ℕ
  pub gives : Bool

-- what a function may name: so many variables and file objects, and these functions; and whether it has a result
pub record Limits : Type 0 where
  pub variables : ℕ
  pub objects : ℕ
  pub callees : List Callee
  pub gives : Bool

-- a type has values
abbrev pub has_values : TType → Bool
has_values ttype.Void = false
has_values (ttype.Number kind) = true
has_values (ttype.Pointer target) = true

-- whether an expression may stand where its value is used, which is true, and where it is not
abbrev pub Use : Type 0
Use = Bool → Bool

-- all these may stand where their values are used
abbrev pub all_used : List Use → Bool
all_used [] = true
all_used (e ∷ es) = e true && all_used es

-- C17 6.5.2.2p2, p5, 6.9p5: a call with so many arguments is one of a function that is there and has as many parameters; its value
-- is used only where the function has a result
abbrev pub call_fits : Option Callee → ℕ → Use
call_fits None count used = false
call_fits (Some f) count used = nat_eq f.params count && (not used || f.gives)

-- C17 6.3.2.2: the value of a cast to void is not used, nor is that of its operand
abbrev pub cast_fits : Bool → Use → Use
cast_fits true operand used = operand true
cast_fits false operand used = not used && operand false

-- C17 6.5: whether an expression fits, of whose operands it is known
abbrev pub expr_step : Limits → TExpr-F Use → Use
expr_step limits (TExpr-F.Number node value) used = true
expr_step limits (TExpr-F.Str node string bytes) used = true
expr_step limits (TExpr-F.Object node object) used = nat_lt object limits.objects
expr_step limits (TExpr-F.Variable node variable) used = nat_lt variable limits.variables
expr_step limits (TExpr-F.Index node base index) used = base true && index true
expr_step limits (TExpr-F.Call node function args) used = call_fits (slice_get limits.callees function) (length args) used && all_used args
expr_step limits (TExpr-F.Getchar node) used = true
expr_step limits (TExpr-F.Putchar node of) used = of true
expr_step limits (TExpr-F.Puts node of) used = of true
expr_step limits (TExpr-F.Printf node format args) used = all_used args
expr_step limits (TExpr-F.Post node change of) used = of true
expr_step limits (TExpr-F.Pre node change of) used = of true
expr_step limits (TExpr-F.Address node of) used = of true
expr_step limits (TExpr-F.Deref node of) used = of true
expr_step limits (TExpr-F.Plus node of) used = of true
expr_step limits (TExpr-F.Unary node op kind of) used = of true
expr_step limits (TExpr-F.Convert node of) used = of true
expr_step limits (TExpr-F.Cast node of) used = cast_fits (has_values node.of) of used
expr_step limits (TExpr-F.Binary node op kind left right) used = left true && right true
expr_step limits (TExpr-F.Both node left right) used = left true && right true
expr_step limits (TExpr-F.Either node left right) used = left true && right true
expr_step limits (TExpr-F.Forward node left right) used = left true && right true
expr_step limits (TExpr-F.Onto node left right) used = left true && right true
expr_step limits (TExpr-F.Back node left right) used = left true && right true
expr_step limits (TExpr-F.PtrCompare node op left right) used = left true && right true
expr_step limits (TExpr-F.PtrDistance node left right) used = left true && right true
expr_step limits (TExpr-F.Cond node test a b) used = test true && (a used && b used)
expr_step limits (TExpr-F.Assign node left right) used = left true && right true
expr_step limits (TExpr-F.AssignBy node change left right) used = left true && right true
expr_step limits (TExpr-F.Comma node left right) used = left false && right used

-- C17 6.5: whether an expression fits where its value is used, and where it is not: the variables, file objects and functions that
-- it names are there, calls have as many arguments as parameters, and where a value is used there is one
abbrev pub expr_fits : Limits → TExpr → Use
expr_fits limits = fold-TExpr Use (expr_step limits)

-- an expression that may be left out fits
abbrev pub option_fits : Limits → Bool → Option TExpr → Bool
option_fits limits used None = true
option_fits limits used (Some e) = expr_fits limits e used

-- C17 6.7.9: an item of braces fits
abbrev pub item_fits : Limits → TItem → Bool
item_fits limits (item.Bytes element bytes) = true
item_fits limits (item.Value place element e) = expr_fits limits e true

-- all items of braces fit
abbrev pub items_fit : Limits → List TItem → Bool
items_fit limits [] = true
items_fit limits (i ∷ items) = item_fits limits i && items_fit limits items

-- C17 6.7.9: an initialiser fits
abbrev pub init_fits : Limits → TInit → Bool
init_fits limits begins.Nothing = true
init_fits limits (begins.Value e) = expr_fits limits e true
init_fits limits (begins.Elements items) = items_fit limits items

-- C17 6.7: a variable that is declared is there, and its initialiser fits
abbrev pub declarator_fits : Limits → TDeclarator → Bool
declarator_fits limits d = nat_lt d.variable limits.variables && init_fits limits d.init

-- C17 6.7: so do several
abbrev pub declared_fit : Limits → List TDeclarator → Bool
declared_fit limits [] = true
declared_fit limits (d ∷ list) = declarator_fits limits d && declared_fit limits list

-- C17 6.8.5.3p1: the first part of a `for` fits
abbrev pub first_fits : Limits → TFirst → Bool
first_fits limits first.Nothing = true
first_fits limits (first.Value e) = expr_fits limits e false
first_fits limits (first.Declare list) = declared_fit limits list

-- C17 6.8.6.4p1: a `return` has a value exactly where its function has a result
abbrev pub return_fits : Limits → Option TExpr → Bool
return_fits limits None = not limits.gives
return_fits limits (Some e) = limits.gives && expr_fits limits e true

-- what lies around a statement: whether a `break` has something to leave, and whether a `continue` has a loop
pub record Site : Type 0 where
  pub breaks : Bool
  pub continues : Bool

-- nothing lies around the block of a function
abbrev pub outermost : Site
outermost = record { breaks = false; continues = false }

-- C17 6.8.5: what lies around the body of a loop
abbrev pub in_loop : Site
in_loop = record { breaks = true; continues = true }

-- C17 6.8.4.2: what lies around the parts of a switch
abbrev pub in_switch : Site → Site
in_switch site = record site { breaks = true }

-- whether a statement fits, by what lies around it
abbrev pub Standing : Type 0
Standing = Site → Bool

-- all these fit
abbrev pub all_stand : Site → List Standing → Bool
all_stand site [] = true
all_stand site (s ∷ ss) = s site && all_stand site ss

-- what may be left out fits
abbrev pub option_stands : Site → Option Standing → Bool
option_stands site None = true
option_stands site (Some s) = s site

-- C17 6.8: whether a statement fits, of whose statements and parts it is known
abbrev pub stmt_step : Limits → TStmt-F Standing Standing → Standing
stmt_step limits (TStmt-F.Expr spot e) site = expr_fits limits e false
stmt_step limits (TStmt-F.Empty spot) site = true
stmt_step limits (TStmt-F.Block spot parts) site = all_stand site parts
stmt_step limits (TStmt-F.If spot test a b) site = expr_fits limits test true && (a site && option_stands site b)
stmt_step limits (TStmt-F.While spot number test body) site = expr_fits limits test true && body in_loop
stmt_step limits (TStmt-F.DoWhile spot number body test) site = body in_loop && expr_fits limits test true
stmt_step limits (TStmt-F.For spot number start test step body) site =
    first_fits limits start && (option_fits limits true test && (option_fits limits false step && body in_loop))
stmt_step limits (TStmt-F.Switch spot kind on parts) site = expr_fits limits on true && all_stand (in_switch site) parts
stmt_step limits (TStmt-F.Break spot) site = site.breaks
stmt_step limits (TStmt-F.Continue spot) site = site.continues
stmt_step limits (TStmt-F.Return spot value) site = return_fits limits value
stmt_step limits (TStmt-F.Declare spot list) site = declared_fit limits list

-- C17 6.8.4.2: whether a part of a switch fits, of whose statement it is known
abbrev pub part_step : TPart-F Standing Standing → Standing
part_step (TPart-F.Case place value) site = true
part_step (TPart-F.Default place) site = true
part_step (TPart-F.Does place s) site = s site

-- C17 6.8: whether a statement fits, by what lies around it: so do its expressions, its declared variables are there, and its jumps
-- have targets
abbrev pub stmt_fits : Limits → TStmt → Standing
stmt_fits limits = fold-TStmt Standing Standing part_step (stmt_step limits)

-- all statements of a function's block fit
abbrev pub body_fits : Limits → List TStmt → Bool
body_fits limits body = all_stand outermost (map (stmt_fits limits) body)

-- what a call has to know of a function
abbrev pub callee : TFunc → Callee
callee f = record { params = f.params; gives = has_values f.result }

-- what a function of a source may name
abbrev pub limits_of : TUnit → TFunc → Limits
limits_of unit f = record {
  variables = length f.variables;
  objects = length unit.objects;
  callees = map callee unit.functions;
  gives = has_values f.result;
}
