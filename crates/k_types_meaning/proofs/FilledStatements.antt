-- A statement, a part of a switch and a function are given back by themselves without numbers and by their numbers.
use Rattle.std.proofs.Common.{ℕ, ℤ, ◌≡◌, List, [], ◌∷◌, ◌++◌, map, Option, Some, None, append_assoc, append-nil, refl, sym, subst}
use Rattle.k_num.specs.declared.numbers.Kind.{Kind}
use Rattle.k_num.specs.declared.place.Place.{Place}
use Rattle.k_types_meaning.specs.declared.tree.declaration.TDeclarator.{TDeclarator}
use Rattle.k_types_meaning.specs.declared.tree.expression.TExpr.{TExpr}
use Rattle.k_types_meaning.specs.declared.tree.statement.Spot.{Spot}
use Rattle.k_types_meaning.specs.declared.tree.statement.TFirst.{TFirst}
use Rattle.k_types_meaning.specs.declared.tree.statement.TPart.{TPart, fold-TPart, roll-TPart, map-TPart}
use Rattle.k_types_meaning.specs.declared.tree.statement.TPart.TheOpen.{TPart-F, TStmt-F}
use Rattle.k_types_meaning.specs.declared.tree.statement.TPart.TheVariants as part
use Rattle.k_types_meaning.specs.declared.tree.statement.TStmt.{TStmt, roll-TStmt, ind-TStmt, map-TStmt}
use Rattle.k_types_meaning.specs.declared.tree.statement.TStmt.TheVariants as stmt
use Rattle.k_types_meaning.specs.declared.tree.unit.TFunc.{TFunc}
use Rattle.k_types_meaning.specs.Bare.{bare_stmt, bare_stmt_step, bare_part_step, bare_function}
use Rattle.k_types_meaning.proofs.Folds.{done_Expr, done_Empty, done_Block, done_alone, done_else, done_While, done_DoWhile, done_For, done_Switch, done_Break, done_Continue, done_Return, done_Declare, part_Case, part_Default, part_Does}
use Rattle.k_types_meaning.specs.Numbered.{Numbers, listed, stmt_numbers, stmt_numbers_step, part_numbers_step, function_numbers, functions_numbers}
use Rattle.k_types_meaning.proofs.Filled.{Fills, list_filled, list_filled_to}
use Rattle.k_types_meaning.proofs.FilledExpressions.{expr_filled, option_filled, declared_filled, first_filled}
use Rattle.k_types_meaning.proofs.Filling.{fill_list, fill_stmt, fill_part, fill_function}

-- a part of a switch without its numbers
abbrev bare_part : TPart → TPart
bare_part = fold-TPart TPart TStmt bare_part_step bare_stmt_step

-- what is listed of a part of a switch
abbrev part_numbers : TPart → Numbers
part_numbers = fold-TPart Numbers Numbers part_numbers_step stmt_numbers_step

-- a statement is given back
abbrev Filled : TStmt → Type 0
Filled s = Fills (stmt_numbers s) (fill_stmt (bare_stmt s)).from s

-- a part of a switch is given back
abbrev PartFilled : TPart → Type 0
PartFilled p = Fills (part_numbers p) (fill_part (bare_part p)).from p

-- statements are given back
abbrev AllFilled : List TStmt → Type 0
AllFilled ss = Fills (listed (map stmt_numbers ss)) (fill_list (map fill_stmt (map bare_stmt ss))) ss

-- parts of a switch are given back
abbrev PartsFilled : List TPart → Type 0
PartsFilled ps = Fills (listed (map part_numbers ps)) (fill_list (map fill_part (map bare_part ps))) ps

-- an expression that is a statement
filled_Expr : (spot : Spot) (e : TExpr) → Filled (stmt.Expr spot e)
filled_Expr spot e ns ss ls = simp (done_Expr, expr_filled e)

-- the empty statement
filled_Empty : (spot : Spot) → Filled (stmt.Empty spot)
filled_Empty spot ns ss ls = simp (done_Empty)

-- a block
filled_Block : (spot : Spot) (parts : List TStmt) → AllFilled parts → Filled (stmt.Block spot parts)
filled_Block spot parts h ns ss ls = simp (done_Block, h)

-- an `if` without an `else`
filled_alone : (spot : Spot) (test : TExpr) (s : TStmt) → Filled s → Filled (stmt.If spot test s None)
filled_alone spot test s h ns ss ls = simp (done_alone, append_assoc, append-nil, expr_filled test, h)

-- an `if` with an `else`
filled_else : (spot : Spot) (test : TExpr) (s t : TStmt) → Filled s → Filled t → Filled (stmt.If spot test s (Some t))
filled_else spot test s t h k ns ss ls = simp (done_else, append_assoc, expr_filled test, h, k)

-- a `while` loop
filled_While : (spot : Spot) (turns : ℕ) (test : TExpr) (s : TStmt) → Filled s → Filled (stmt.While spot turns test s)
filled_While spot turns test s h ns ss ls = simp (done_While, append_assoc, expr_filled test, h)

-- a `do` loop
filled_DoWhile : (spot : Spot) (turns : ℕ) (s : TStmt) (test : TExpr) → Filled s → Filled (stmt.DoWhile spot turns s test)
filled_DoWhile spot turns s test h ns ss ls = simp (done_DoWhile, append_assoc, expr_filled test, h)

-- a `for` loop
filled_For : (spot : Spot) (turns : ℕ) (start : TFirst) (test step : Option TExpr) (s : TStmt) → Filled s → Filled (stmt.For spot turns start test step s)
filled_For spot turns start test step s h ns ss ls = simp (done_For, append_assoc, first_filled start, option_filled test, option_filled step, h)

-- a `switch`
filled_Switch : (spot : Spot) (kind : Kind) (on : TExpr) (parts : List TPart) → PartsFilled parts → Filled (stmt.Switch spot kind on parts)
filled_Switch spot kind on parts h ns ss ls = simp (done_Switch, append_assoc, expr_filled on, h)

-- a `break`
filled_Break : (spot : Spot) → Filled (stmt.Break spot)
filled_Break spot ns ss ls = simp (done_Break)

-- a `continue`
filled_Continue : (spot : Spot) → Filled (stmt.Continue spot)
filled_Continue spot ns ss ls = simp (done_Continue)

-- a `return`
filled_Return : (spot : Spot) (value : Option TExpr) → Filled (stmt.Return spot value)
filled_Return spot value ns ss ls = simp (done_Return, option_filled value)

-- declared variables
filled_Declare : (spot : Spot) (list : List TDeclarator) → Filled (stmt.Declare spot list)
filled_Declare spot list ns ss ls = simp (done_Declare, declared_filled list)

-- a `case` label
filled_Case : (p : Place) (value : ℤ) → PartFilled (part.Case p value)
filled_Case p value ns ss ls = simp (part_Case)

-- a `default` label
filled_Default : (p : Place) → PartFilled (part.Default p)
filled_Default p ns ss ls = simp (part_Default)

-- a statement in the braces of a `switch`
filled_Does : (p : Place) (s : TStmt) → Filled s → PartFilled (part.Does p s)
filled_Does p s h ns ss ls = simp (part_Does, h)

-- statements, of each of which it is known
all_filled : (xs : List ((s : TStmt) × Filled s)) → AllFilled (map (λ (x : (s : TStmt) × Filled s). x.0) xs)
all_filled [] ns ss ls = refl
all_filled (x ∷ xs) ns ss ls = simp (append_assoc, x.1, all_filled xs)

-- parts of a switch, of each of which it is known
parts_filled : (xs : List ((p : TPart) × PartFilled p)) → PartsFilled (map (λ (x : (p : TPart) × PartFilled p). x.0) xs)
parts_filled [] ns ss ls = refl
parts_filled (x ∷ xs) ns ss ls = simp (append_assoc, x.1, parts_filled xs)

-- a part of a switch is given back where its statement is
part_by : (y : TPart-F ((p : TPart) × PartFilled p) ((s : TStmt) × Filled s)) → PartFilled (roll-TPart (map-TPart _ _ TPart TStmt (λ (x : (p : TPart) × PartFilled p). x.0) (λ (x : (s : TStmt) × Filled s). x.0) y))
part_by (TPart-F.Case p value) = subst PartFilled (sym (part.rolls-Case p value)) (filled_Case p value)
part_by (TPart-F.Default p) = subst PartFilled (sym (part.rolls-Default p)) (filled_Default p)
part_by (TPart-F.Does p s) = subst PartFilled (sym (part.rolls-Does p s.0)) (filled_Does p s.0 s.1)

-- a statement is given back where its statements and parts are
stmt_by : (y : TStmt-F ((p : TPart) × PartFilled p) ((s : TStmt) × Filled s)) → Filled (roll-TStmt (map-TStmt _ _ TPart TStmt (λ (x : (p : TPart) × PartFilled p). x.0) (λ (x : (s : TStmt) × Filled s). x.0) y))
stmt_by (TStmt-F.Expr spot e) = subst Filled (sym (stmt.rolls-Expr spot e)) (filled_Expr spot e)
stmt_by (TStmt-F.Empty spot) = subst Filled (sym (stmt.rolls-Empty spot)) (filled_Empty spot)
stmt_by (TStmt-F.Block spot parts) =
    subst Filled (sym (stmt.rolls-Block spot (map (λ (x : (s : TStmt) × Filled s). x.0) parts))) (filled_Block spot (map (λ (x : (s : TStmt) × Filled s). x.0) parts) (all_filled parts))
stmt_by (TStmt-F.If spot test s None) = subst Filled (sym (stmt.rolls-If spot test s.0 None)) (filled_alone spot test s.0 s.1)
stmt_by (TStmt-F.If spot test s (Some t)) = subst Filled (sym (stmt.rolls-If spot test s.0 (Some t.0))) (filled_else spot test s.0 t.0 s.1 t.1)
stmt_by (TStmt-F.While spot turns test s) = subst Filled (sym (stmt.rolls-While spot turns test s.0)) (filled_While spot turns test s.0 s.1)
stmt_by (TStmt-F.DoWhile spot turns s test) = subst Filled (sym (stmt.rolls-DoWhile spot turns s.0 test)) (filled_DoWhile spot turns s.0 test s.1)
stmt_by (TStmt-F.For spot turns start test step s) =
    subst Filled (sym (stmt.rolls-For spot turns start test step s.0)) (filled_For spot turns start test step s.0 s.1)
stmt_by (TStmt-F.Switch spot kind on parts) =
    subst Filled (sym (stmt.rolls-Switch spot kind on (map (λ (x : (p : TPart) × PartFilled p). x.0) parts))) (filled_Switch spot kind on (map (λ (x : (p : TPart) × PartFilled p). x.0) parts) (parts_filled parts))
stmt_by (TStmt-F.Break spot) = subst Filled (sym (stmt.rolls-Break spot)) (filled_Break spot)
stmt_by (TStmt-F.Continue spot) = subst Filled (sym (stmt.rolls-Continue spot)) (filled_Continue spot)
stmt_by (TStmt-F.Return spot value) = subst Filled (sym (stmt.rolls-Return spot value)) (filled_Return spot value)
stmt_by (TStmt-F.Declare spot list) = subst Filled (sym (stmt.rolls-Declare spot list)) (filled_Declare spot list)

-- a statement is given back
pub stmt_filled : (s : TStmt) → Filled s
stmt_filled =
    ind-TStmt PartFilled Filled
    (λ x y is. subst (λ (z : TPart-F TPart TStmt). PartFilled (roll-TPart z)) is (part_by y))
    (λ x y is. subst (λ (z : TStmt-F TPart TStmt). Filled (roll-TStmt z)) is (stmt_by y))

-- a function without the count of the loops before it
abbrev pub unlooped : TFunc → TFunc
unlooped f = record f { loops = 0 }

-- the statements of a function
body_filled : (body : List TStmt) → Fills (listed (map stmt_numbers body)) (fill_list (map fill_stmt (map bare_stmt body))) body
body_filled body = list_filled bare_stmt stmt_numbers fill_stmt stmt_filled body

-- a function is given back, but for the count of the loops before it
function_filled : (f : TFunc) → Fills (function_numbers f) (fill_function (bare_function f)).from (unlooped f)
function_filled f ns ss ls = simp (body_filled f.body)

-- functions are given back, but for these counts
pub functions_filled : (fs : List TFunc) → Fills (functions_numbers fs) (fill_list (map fill_function (map bare_function fs))) (map unlooped fs)
functions_filled fs = list_filled_to unlooped bare_function function_numbers fill_function function_filled fs
