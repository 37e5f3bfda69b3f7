-- For contracts between crates: nobody has to believe it.
-- What numbering makes of each part of a typed tree: the same but for its numbers, which count on from what is counted so far.
use Rattle.std.specs.Prelude.{ℕ, ◌≡◌, List, ◌∷◌, map, Option}
use Rattle.k_types_meaning.specs.declared.tree.declaration.TDeclarator.{TDeclarator}
use Rattle.k_types_meaning.specs.declared.tree.declaration.TInit.{TInit}
use Rattle.k_types_meaning.specs.declared.tree.declaration.TItem.{TItem}
use Rattle.k_types_meaning.specs.declared.tree.expression.Node.{Node}
use Rattle.k_types_meaning.specs.declared.tree.expression.TExpr.{TExpr}
use Rattle.k_types_meaning.specs.declared.tree.statement.TFirst.{TFirst}
use Rattle.k_types_meaning.specs.declared.tree.statement.TPart.{TPart, fold-TPart}
use Rattle.k_types_meaning.specs.declared.tree.statement.TStmt.{TStmt}
use Rattle.k_types_meaning.specs.declared.tree.unit.TFunc.{TFunc}
use Rattle.k_types_meaning.specs.Bare.{bare_expr, bare_option, bare_item, bare_init, bare_declared, bare_first, bare_stmt, bare_stmt_step, bare_part_step, bare_function}
use Rattle.k_types_meaning.specs.Numbered.{Numbers, before, listed, node_before, expr_numbers, option_numbers, item_numbers, init_numbers, declared_numbers, first_numbers, stmt_numbers, stmt_numbers_step, part_numbers_step, function_numbers, LoopsBefore}
use Rattle.k_types_numbers.specs.declared.counts.Counts.{Counts}
use Rattle.k_types_numbers.specs.Counting.{Counted}

-- `b` is `a` but for its numbers, which count on from the counts `s` up to `t`
pub record Renumbers (A : Type 0) (bare : A → A) (numbers : A → Numbers) (a b : A) (s t : Counts) : Type 0 where
  pub same : bare b ≡ bare a
  pub counted : Counted (numbers b) s t

-- `b` is `a` but for its numbers: its own one is `number`, and those of its parts count on from `s` up to `t`
pub record RenumbersBehind (A : Type 0) (bare : A → A) (numbers : A → Numbers) (number : ℕ) (a b : A) (s t : Counts) : Type 0 where
  pub parts : Numbers
  pub same : bare b ≡ bare a
  pub listed : numbers b ≡ node_before number parts
  pub counted : Counted parts s t

-- a loop goes before its parts
abbrev pub one_loop : ℕ → Numbers → Numbers
one_loop turns a = record a { loops = turns ∷ a.loops }

-- an expression is numbered
abbrev pub NumbersExpr : TExpr → TExpr → Counts → Counts → Type 0
NumbersExpr = Renumbers TExpr bare_expr expr_numbers

-- an expression has this number, and its operands are numbered
abbrev pub NumbersOperands : ℕ → TExpr → TExpr → Counts → Counts → Type 0
NumbersOperands = RenumbersBehind TExpr bare_expr expr_numbers

-- two expressions are numbered, the first one first
pub record NumbersPair (a b x y : TExpr) (s t : Counts) : Type 0 where
  pub left : bare_expr x ≡ bare_expr a
  pub right : bare_expr y ≡ bare_expr b
  pub counted : Counted (before (expr_numbers x) (expr_numbers y)) s t

-- a node has this number, and its operand is numbered
pub record NumbersOne (number : ℕ) (was made : Node) (a x : TExpr) (s t : Counts) : Type 0 where
  pub own : made ≡ record was { number = number }
  pub operand : NumbersExpr a x s t

-- a node has this number, and its two operands are numbered
pub record NumbersTwo (number : ℕ) (was made : Node) (a b x y : TExpr) (s t : Counts) : Type 0 where
  pub own : made ≡ record was { number = number }
  pub operands : NumbersPair a b x y s t

-- a node has this number, and its three operands are numbered
pub record NumbersThree (number : ℕ) (was made : Node) (a b c x y z : TExpr) (s t : Counts) : Type 0 where
  pub own : made ≡ record was { number = number }
  pub middle : Counts
  pub test : NumbersExpr a x s middle
  pub arms : NumbersPair b c y z middle t

-- expressions are numbered in their order
abbrev pub NumbersExprs : List TExpr → List TExpr → Counts → Counts → Type 0
NumbersExprs = Renumbers (List TExpr) (map bare_expr) (λ es. listed (map expr_numbers es))

-- an expression is numbered where there is one
abbrev pub NumbersOption : Option TExpr → Option TExpr → Counts → Counts → Type 0
NumbersOption = Renumbers (Option TExpr) bare_option option_numbers

-- an item of braces is numbered
abbrev pub NumbersItem : TItem → TItem → Counts → Counts → Type 0
NumbersItem = Renumbers TItem bare_item item_numbers

-- items of braces are numbered in their order
abbrev pub NumbersItems : List TItem → List TItem → Counts → Counts → Type 0
NumbersItems = Renumbers (List TItem) (map bare_item) (λ items. listed (map item_numbers items))

-- an initialiser is numbered
abbrev pub NumbersInit : TInit → TInit → Counts → Counts → Type 0
NumbersInit = Renumbers TInit bare_init init_numbers

-- a declared variable without its numbers
abbrev pub bare_declarator : TDeclarator → TDeclarator
bare_declarator d = record d { init = bare_init d.init }

-- what is listed of a declared variable
abbrev pub declarator_numbers : TDeclarator → Numbers
declarator_numbers d = init_numbers d.init

-- a declared variable is numbered
abbrev pub NumbersDeclarator : TDeclarator → TDeclarator → Counts → Counts → Type 0
NumbersDeclarator = Renumbers TDeclarator bare_declarator declarator_numbers

-- declared variables are numbered in their order
abbrev pub NumbersDeclared : List TDeclarator → List TDeclarator → Counts → Counts → Type 0
NumbersDeclared = Renumbers (List TDeclarator) bare_declared declared_numbers

-- the first part of a `for` is numbered
abbrev pub NumbersFirst : TFirst → TFirst → Counts → Counts → Type 0
NumbersFirst = Renumbers TFirst bare_first first_numbers

-- What stands in the parentheses of a `for` is numbered in its order.
pub record NumbersClauses (first : TFirst) (test step : Option TExpr) (begun : TFirst) (tested stepped : Option TExpr) (s t : Counts) : Type 0 where
  pub first_same : bare_first begun ≡ bare_first first
  pub test_same : bare_option tested ≡ bare_option test
  pub step_same : bare_option stepped ≡ bare_option step
  pub counted : Counted (before (first_numbers begun) (before (option_numbers tested) (option_numbers stepped))) s t

-- a statement is numbered
abbrev pub NumbersStmt : TStmt → TStmt → Counts → Counts → Type 0
NumbersStmt = Renumbers TStmt bare_stmt stmt_numbers

-- a statement has this number, and its parts are numbered
abbrev pub NumbersBehind : ℕ → TStmt → TStmt → Counts → Counts → Type 0
NumbersBehind = RenumbersBehind TStmt bare_stmt stmt_numbers

-- statements are numbered in their order
abbrev pub NumbersStmts : List TStmt → List TStmt → Counts → Counts → Type 0
NumbersStmts = Renumbers (List TStmt) (map bare_stmt) (λ body. listed (map stmt_numbers body))

-- a part of a switch without its numbers
abbrev pub bare_part : TPart → TPart
bare_part = fold-TPart TPart TStmt bare_part_step bare_stmt_step

-- what is listed of a part of a switch
abbrev pub part_numbers : TPart → Numbers
part_numbers = fold-TPart Numbers Numbers part_numbers_step stmt_numbers_step

-- a part of a switch is numbered
abbrev pub NumbersPart : TPart → TPart → Counts → Counts → Type 0
NumbersPart = Renumbers TPart bare_part part_numbers

-- the parts of a switch are numbered in their order
abbrev pub NumbersParts : List TPart → List TPart → Counts → Counts → Type 0
NumbersParts = Renumbers (List TPart) (map bare_part) (λ parts. listed (map part_numbers parts))

-- A function is numbered, and knows how many loops come before it.
pub record NumbersFunction (f g : TFunc) (s t : Counts) : Type 0 where
  pub same : bare_function g ≡ bare_function f
  pub loops : g.loops ≡ s.loops
  pub counted : Counted (function_numbers g) s t

-- Functions are numbered in their order, and each knows how many loops come before it.
pub record NumbersFunctions (fs gs : List TFunc) (s t : Counts) : Type 0 where
  pub same : map bare_function gs ≡ map bare_function fs
  pub loops : LoopsBefore s.loops gs
  pub counted : Counted (listed (map function_numbers gs)) s t
