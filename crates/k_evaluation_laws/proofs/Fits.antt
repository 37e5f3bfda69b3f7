-- What typing gives of the types of operands: by it each value is of the type of its node.
use Rattle.std.specs.Prelude.{Bool, true, false, ◌&&◌, not, ◌≡◌, if◌then◌else◌, List, [], ◌∷◌, map, take, slice_get, Option, Some, None, unwrap_or}
use Rattle.k_num.specs.declared.numbers.Bin.{Bin}
use Rattle.k_num.specs.declared.numbers.Kind.{Kind}
use Rattle.k_num.specs.declared.numbers.Kind.TheVariants.{I8, I32, I64}
use Rattle.k_num.specs.declared.numbers.Un.{Un}
use Rattle.k_num.specs.declared.numbers.Un.TheVariants.{Neg, Complement, Not}
use Rattle.k_num.specs.ArithmeticLaws.{gives_number}
use Rattle.k_types_meaning.specs.declared.tree.declaration.TDeclarator.{TDeclarator}
use Rattle.k_types_meaning.specs.declared.tree.declaration.TInit.{TInit}
use Rattle.k_types_meaning.specs.declared.tree.declaration.TInit.TheVariants as begins
use Rattle.k_types_meaning.specs.declared.tree.declaration.TItem.{TItem}
use Rattle.k_types_meaning.specs.declared.tree.declaration.TItem.TheVariants as item
use Rattle.k_types_meaning.specs.declared.tree.expression.Change.{Change}
use Rattle.k_types_meaning.specs.declared.tree.expression.Change.TheVariants as change
use Rattle.k_types_meaning.specs.declared.tree.expression.Node.{Node}
use Rattle.k_types_meaning.specs.declared.tree.expression.TExpr.{TExpr, fold-TExpr}
use Rattle.k_types_meaning.specs.declared.tree.expression.TExpr.TheOpen.{TExpr-F}
use Rattle.k_types_meaning.specs.declared.tree.statement.TFirst.{TFirst}
use Rattle.k_types_meaning.specs.declared.tree.statement.TFirst.TheVariants as first
use Rattle.k_types_meaning.specs.declared.tree.statement.TPart.TheOpen.{TPart-F, TStmt-F}
use Rattle.k_types_meaning.specs.declared.tree.statement.TStmt.{TStmt, fold-TStmt}
use Rattle.k_types_meaning.specs.declared.tree.unit.TFunc.{TFunc}
use Rattle.k_types_meaning.specs.declared.tree.unit.TObject.{TObject}
use Rattle.k_types_meaning.specs.declared.tree.unit.TUnit.{TUnit}
use Rattle.k_types_meaning.specs.declared.tree.unit.TVariable.{TVariable}
use Rattle.k_types_meaning.specs.Types.{same_kind}
use Rattle.k_evaluation_laws.specs.Kinds.{Sort, NoValue, ANumber, APointer, sort_of, kind_in}
pub use Rattle.k_evaluation_laws.specs.Ranges.{all_stand}

-- what a call has to know of a function: what its parameters and its result are
pub record Callee : Type 0 where
  pub params : List Sort
  pub result : Sort

-- what a function may name: its variables, the file objects and the functions, by their numbers; and what its result is
pub record Around : Type 0 where
  pub variables : List Sort
  pub objects : List Sort
  pub callees : List Callee
  pub result : Sort

-- two sorts of values are one
abbrev pub same : Sort → Sort → Bool
same NoValue t = false
same (ANumber a) (ANumber b) = same_kind a b
same (APointer a) (APointer b) = same_kind a b
same s t = false

abbrev pub is_nothing : Sort → Bool
is_nothing NoValue = true
is_nothing (ANumber kind) = false
is_nothing (APointer kind) = false

abbrev pub is_number : Sort → Bool
is_number NoValue = false
is_number (ANumber kind) = true
is_number (APointer kind) = false

abbrev pub is_pointer : Sort → Bool
is_pointer NoValue = false
is_pointer (ANumber kind) = false
is_pointer (APointer kind) = true

-- what is found is this
abbrev pub found : Option Sort → Sort → Bool
found None s = false
found (Some t) s = same t s

-- nothing is used, or the value is one of the sort
abbrev pub unused_or : Sort → Bool → Bool
unused_or NoValue b = true
unused_or (ANumber kind) b = b
unused_or (APointer kind) b = b

-- C17 6.5.3.2, 6.3.2.1p3: a pointer of the first sort is one to what has the second: to a number, or to an array of its kind
abbrev pub points : Sort → Sort → Bool
points (APointer kind) (ANumber k) = same_kind kind k
points (APointer kind) (APointer k) = same_kind kind k
points s t = false

-- AN EXPRESSION as its operators see it: what its value is, and whether it fits
pub record Seen : Type 0 where
  pub of : Sort
  pub fits : Bool

-- all of these fit
abbrev pub all_fit : List Seen → Bool
all_fit [] = true
all_fit (e ∷ es) = e.fits && all_fit es

-- C17 6.5.2.2p2: for each parameter there is an argument of its sort
abbrev pub all_same : List Sort → List Seen → Bool
all_same [] es = true
all_same (s ∷ sorts) [] = false
all_same (s ∷ sorts) (e ∷ es) = same s e.of && all_same sorts es

-- C17 6.5.2.2: a call of a function gives what its result is, and passes what its parameters are
abbrev pub call_fits : Option Callee → Sort → List Seen → Bool
call_fits None s args = true
call_fits (Some f) s args = unused_or s (same s f.result) && all_same f.params args

-- C17 6.5.6, 6.5.16.2: numbers are changed in a kind, and pointers are moved forward and back
abbrev pub change_fits : Change → Sort → Bool
change_fits (change.Number op kind) s = is_number s
change_fits change.Forward s = is_pointer s
change_fits change.Back s = is_pointer s

-- C17 6.5.3.3: `!` gives an int, whatever its kind, and the others a number of theirs
abbrev pub unary_fits : Un → Kind → Sort → Bool
unary_fits Neg kind s = same s (ANumber kind)
unary_fits Complement kind s = same s (ANumber kind)
unary_fits Not kind s = is_number s

-- C17 6.5.5 to 6.5.14: tests give an int, whatever their kind, and other operators a number of theirs
abbrev pub binary_fits : Bin → Kind → Sort → Bool
binary_fits op kind s = if gives_number op then same s (ANumber kind) else is_number s

-- C17 6.5.4: a cast to a pointer keeps it
abbrev pub cast_fits : Sort → Sort → Bool
cast_fits NoValue s = true
cast_fits (ANumber kind) s = true
cast_fits (APointer kind) s = same (APointer kind) s

-- an expression with this node, where this is so
abbrev pub seen : Node → Bool → Seen
seen node fits = record { of = sort_of node.of; fits = fits }

-- C17 6.5: what an expression is and whether it fits, of whose operands it is known
abbrev pub expr_step : Around → TExpr-F Seen → Seen
expr_step around (TExpr-F.Number node value) = seen node (is_number (sort_of node.of))
expr_step around (TExpr-F.Str node string bytes) = seen node (same (sort_of node.of) (APointer I8))
expr_step around (TExpr-F.Object node object) = seen node (found (slice_get around.objects object) (sort_of node.of))
expr_step around (TExpr-F.Variable node variable) = seen node (found (slice_get around.variables variable) (sort_of node.of))
expr_step around (TExpr-F.Index node base index) = seen node (points base.of (sort_of node.of) && (base.fits && index.fits))
expr_step around (TExpr-F.Call node function args) = seen node (call_fits (slice_get around.callees function) (sort_of node.of) args && all_fit args)
expr_step around (TExpr-F.Getchar node) = seen node (same (sort_of node.of) (ANumber I32))
expr_step around (TExpr-F.Putchar node of) = seen node (same (sort_of node.of) (ANumber I32) && of.fits)
expr_step around (TExpr-F.Puts node of) = seen node (same (sort_of node.of) (ANumber I32) && of.fits)
expr_step around (TExpr-F.Printf node format args) = seen node (same (sort_of node.of) (ANumber I32) && all_fit args)
expr_step around (TExpr-F.Post node by of) = seen node (change_fits by (sort_of node.of) && (same (sort_of node.of) of.of && of.fits))
expr_step around (TExpr-F.Pre node by of) = seen node (change_fits by (sort_of node.of) && (same (sort_of node.of) of.of && of.fits))
expr_step around (TExpr-F.Address node of) = seen node (points (sort_of node.of) of.of && of.fits)
expr_step around (TExpr-F.Deref node of) = seen node (points of.of (sort_of node.of) && of.fits)
expr_step around (TExpr-F.Plus node of) = seen node (same (sort_of node.of) of.of && of.fits)
expr_step around (TExpr-F.Unary node op kind of) = seen node (unary_fits op kind (sort_of node.of) && of.fits)
expr_step around (TExpr-F.Convert node of) = seen node (is_number (sort_of node.of) && of.fits)
expr_step around (TExpr-F.Cast node of) = seen node (cast_fits (sort_of node.of) of.of && of.fits)
expr_step around (TExpr-F.Binary node op kind left right) = seen node (binary_fits op kind (sort_of node.of) && (left.fits && right.fits))
expr_step around (TExpr-F.Both node left right) = seen node (is_number (sort_of node.of) && (left.fits && right.fits))
expr_step around (TExpr-F.Either node left right) = seen node (is_number (sort_of node.of) && (left.fits && right.fits))
expr_step around (TExpr-F.Forward node left right) = seen node (same (sort_of node.of) left.of && (is_pointer (sort_of node.of) && (left.fits && right.fits)))
expr_step around (TExpr-F.Onto node left right) = seen node (same (sort_of node.of) right.of && (is_pointer (sort_of node.of) && (left.fits && right.fits)))
expr_step around (TExpr-F.Back node left right) = seen node (same (sort_of node.of) left.of && (is_pointer (sort_of node.of) && (left.fits && right.fits)))
expr_step around (TExpr-F.PtrCompare node op left right) = seen node (is_number (sort_of node.of) && (left.fits && right.fits))
expr_step around (TExpr-F.PtrDistance node left right) =
    seen node (same (sort_of node.of) (ANumber I64) && ((is_pointer left.of && is_pointer right.of) && (left.fits && right.fits)))
expr_step around (TExpr-F.Cond node test a b) =
    seen node (unused_or (sort_of node.of) (same (sort_of node.of) a.of && same (sort_of node.of) b.of) && (test.fits && (a.fits && b.fits)))
expr_step around (TExpr-F.Assign node left right) =
    seen node (same (sort_of node.of) left.of && (same (sort_of node.of) right.of && (left.fits && right.fits)))
expr_step around (TExpr-F.AssignBy node by left right) =
    seen node (change_fits by (sort_of node.of) && (same (sort_of node.of) left.of && (left.fits && right.fits)))
expr_step around (TExpr-F.Comma node left right) = seen node (unused_or (sort_of node.of) (same (sort_of node.of) right.of) && (left.fits && right.fits))

-- an expression
abbrev pub see : Around → TExpr → Seen
see around = fold-TExpr Seen (expr_step around)

-- it fits
abbrev pub expr_fits : Around → TExpr → Bool
expr_fits around e = (see around e).fits

-- it fits, and its value is of this sort
abbrev pub value_fits : Around → Sort → TExpr → Bool
value_fits around s e = same s (see around e).of && expr_fits around e

-- an expression that may be left out fits
abbrev pub option_fits : Around → Option TExpr → Bool
option_fits around None = true
option_fits around (Some e) = expr_fits around e

-- C17 6.7.9p14: an item of braces for an array of a kind: a string where that is char, or a value of the kind
abbrev pub item_fits : Around → Kind → TItem → Bool
item_fits around kind (item.Bytes element bytes) = same_kind kind I8
item_fits around kind (item.Value place element e) = value_fits around (ANumber kind) e

abbrev pub items_fit : Around → Kind → List TItem → Bool
items_fit around kind [] = true
items_fit around kind (i ∷ items) = item_fits around kind i && items_fit around kind items

-- C17 6.7.9: a variable of this sort begins so
abbrev pub init_fits : Around → Sort → TInit → Bool
init_fits around s begins.Nothing = true
init_fits around s (begins.Value e) = value_fits around s e
init_fits around s (begins.Elements items) = items_fit around (kind_in s) items

abbrev pub init_of : Around → Option Sort → TInit → Bool
init_of around None init = false
init_of around (Some s) init = init_fits around s init

-- C17 6.7: a declared variable is there and begins so
abbrev pub declarator_fits : Around → TDeclarator → Bool
declarator_fits around d = init_of around (slice_get around.variables d.variable) d.init

abbrev pub declared_fit : Around → List TDeclarator → Bool
declared_fit around [] = true
declared_fit around (d ∷ list) = declarator_fits around d && declared_fit around list

abbrev pub first_fits : Around → TFirst → Bool
first_fits around first.Nothing = true
first_fits around (first.Value e) = expr_fits around e
first_fits around (first.Declare list) = declared_fit around list

-- C17 6.8.6.4p3: what is returned is of the sort of the result
abbrev pub return_fits : Around → Option TExpr → Bool
return_fits around None = true
return_fits around (Some e) = value_fits around around.result e

-- C17 6.8: whether a statement fits, of whose statements and parts it is known
abbrev pub stmt_step : Around → TStmt-F Bool Bool → Bool
stmt_step around (TStmt-F.Expr spot e) = expr_fits around e
stmt_step around (TStmt-F.Empty spot) = true
stmt_step around (TStmt-F.Block spot parts) = all_stand parts
stmt_step around (TStmt-F.If spot test a b) = expr_fits around test && (a && unwrap_or b true)
stmt_step around (TStmt-F.While spot number test body) = expr_fits around test && body
stmt_step around (TStmt-F.DoWhile spot number body test) = expr_fits around test && body
stmt_step around (TStmt-F.For spot number start test step body) = first_fits around start && (option_fits around test && (option_fits around step && body))
stmt_step around (TStmt-F.Switch spot kind on parts) = expr_fits around on && all_stand parts
stmt_step around (TStmt-F.Break spot) = true
stmt_step around (TStmt-F.Continue spot) = true
stmt_step around (TStmt-F.Return spot value) = return_fits around value
stmt_step around (TStmt-F.Declare spot list) = declared_fit around list

-- a part of a switch, of whose statement it is known
abbrev pub part_step : TPart-F Bool Bool → Bool
part_step (TPart-F.Case place value) = true
part_step (TPart-F.Default place) = true
part_step (TPart-F.Does place s) = s

-- A STATEMENT FITS: values are of the sorts of the variables, parameters, results and objects that take them
abbrev pub stmt_fits : Around → TStmt → Bool
stmt_fits around = fold-TStmt Bool Bool part_step (stmt_step around)

-- what the variables of a function are
abbrev pub sorts_of : List TVariable → List Sort
sorts_of vs = map (λ (v : TVariable). sort_of v.of) vs

-- what a call has to know of a function
abbrev pub callee : TFunc → Callee
callee f = record { params = take f.params (sorts_of f.variables); result = sort_of f.result }

-- what a function of a source may name
abbrev pub around_of : TUnit → TFunc → Around
around_of unit f = record {
  variables = sorts_of f.variables;
  objects = map (λ (o : TObject). sort_of o.of) unit.objects;
  callees = map callee unit.functions;
  result = sort_of f.result;
}

-- each of these has values
abbrev pub have_values : List Sort → Bool
have_values [] = true
have_values (s ∷ sorts) = not (is_nothing s) && have_values sorts

-- A FUNCTION FITS: its parameters have values, and each of its statements fits
pub record FunctionFits (unit : TUnit) (f : TFunc) : Type 0 where
  pub params : have_values (take f.params (sorts_of f.variables)) ≡ true
  pub body : all_stand (map (stmt_fits (around_of unit f)) f.body) ≡ true
