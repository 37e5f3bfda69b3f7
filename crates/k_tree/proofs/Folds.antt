-- One equation per construct for every function of a whole tree: its step at the results of the parts.
use Rattle.std.specs.Prelude.{ℕ, ℤ, ◌≡◌, Bool, List, map, Option, Some, None}
use Rattle.std.proofs.Common.{sym, ap, ◌∙◌}
use Rattle.k_num.specs.declared.numbers.Kind.{Kind}
use Rattle.k_num.specs.declared.place.Place.{Place}
use Rattle.k_tree.specs.declared.tokens.mark.Mark.{Mark}
use Rattle.k_tree.specs.declared.tokens.word.Word.{Word}
use Rattle.k_tree.specs.declared.tree.expression.Expr.{Expr, fold-Expr, fold-roll-Expr}
use Rattle.k_tree.specs.declared.tree.expression.Expr.TheOpen.{Expr-F}
use Rattle.k_tree.specs.declared.tree.expression.Expr.TheVariants as expr
use Rattle.k_tree.specs.declared.tree.declaration.Init.{Init, fold-Init, fold-roll-Init}
use Rattle.k_tree.specs.declared.tree.declaration.Init.TheOpen.{Init-F}
use Rattle.k_tree.specs.declared.tree.declaration.Init.TheVariants as init
use Rattle.k_tree.specs.declared.tree.declaration.Declarator.{Declarator}
use Rattle.k_tree.specs.declared.tree.statement.First.{First}
use Rattle.k_tree.specs.declared.tree.statement.Stmt.{Stmt, fold-Stmt, fold-roll-Stmt}
use Rattle.k_tree.specs.declared.tree.statement.Part.TheOpen.{Part-F, Stmt-F}
use Rattle.k_tree.specs.declared.tree.statement.Part.{Part, fold-Part, fold-roll-Part}
use Rattle.k_tree.specs.declared.tree.statement.Part.TheVariants as part
use Rattle.k_tree.specs.declared.tree.statement.Stmt.TheVariants as stmt

module _ (A : Type 0) (step : Expr-F A → A) where
  -- C17 6.5.1: the result at a name
  pub expr_Name : (p : Place) (x : List ℕ) → fold-Expr A step (expr.Name p x) ≡ step (Expr-F.Name p x)
  expr_Name p x = ap (fold-Expr A step) (sym (expr.rolls-Name p x)) ∙ fold-roll-Expr A step (Expr-F.Name p x)

  -- C17 6.4.4.1, 6.5.1: the result at an integer constant
  pub expr_Number : (p : Place) (kind : Kind) (n : ℕ) → fold-Expr A step (expr.Number p kind n) ≡ step (Expr-F.Number p kind n)
  expr_Number p kind n = ap (fold-Expr A step) (sym (expr.rolls-Number p kind n)) ∙ fold-roll-Expr A step (Expr-F.Number p kind n)

  -- C17 6.4.4.4, 6.5.1: the result at a character constant
  pub expr_Char : (p : Place) (z : ℤ) → fold-Expr A step (expr.Char p z) ≡ step (Expr-F.Char p z)
  expr_Char p z = ap (fold-Expr A step) (sym (expr.rolls-Char p z)) ∙ fold-roll-Expr A step (Expr-F.Char p z)

  -- C17 6.4.5, 6.5.1: the result at a string
  pub expr_Str : (p : Place) (bytes : List ℕ) → fold-Expr A step (expr.Str p bytes) ≡ step (Expr-F.Str p bytes)
  expr_Str p bytes = ap (fold-Expr A step) (sym (expr.rolls-Str p bytes)) ∙ fold-roll-Expr A step (Expr-F.Str p bytes)

  -- C17 6.5.1: the result at an expression in parentheses, from that at what they enclose
  pub expr_Paren : (p : Place) (a : Expr) → fold-Expr A step (expr.Paren p a) ≡ step (Expr-F.Paren p (fold-Expr A step a))
  expr_Paren p a = ap (fold-Expr A step) (sym (expr.rolls-Paren p a)) ∙ fold-roll-Expr A step (Expr-F.Paren p a)

  -- C17 6.5.2.1: the result at an index, from those at the array and the number
  pub expr_Index : (p : Place) (a b : Expr) → fold-Expr A step (expr.Index p a b) ≡ step (Expr-F.Index p (fold-Expr A step a) (fold-Expr A step b))
  expr_Index p a b = ap (fold-Expr A step) (sym (expr.rolls-Index p a b)) ∙ fold-roll-Expr A step (Expr-F.Index p a b)

  -- C17 6.5.2.2: the result at a call, from those at its arguments
  pub expr_Call : (p : Place) (f : List ℕ) (args : List Expr) → fold-Expr A step (expr.Call p f args) ≡ step (Expr-F.Call p f (map (fold-Expr A step) args))
  expr_Call p f args = ap (fold-Expr A step) (sym (expr.rolls-Call p f args)) ∙ fold-roll-Expr A step (Expr-F.Call p f args)

  -- C17 6.5.2.4: the result at `++` or `--` behind its operand, from that at the operand
  pub expr_Post : (p : Place) (op : Mark) (a : Expr) → fold-Expr A step (expr.Post p op a) ≡ step (Expr-F.Post p op (fold-Expr A step a))
  expr_Post p op a = ap (fold-Expr A step) (sym (expr.rolls-Post p op a)) ∙ fold-roll-Expr A step (Expr-F.Post p op a)

  -- C17 6.5.3.1: the result at `++` or `--` before its operand, from that at the operand
  pub expr_Pre : (p : Place) (op : Mark) (a : Expr) → fold-Expr A step (expr.Pre p op a) ≡ step (Expr-F.Pre p op (fold-Expr A step a))
  expr_Pre p op a = ap (fold-Expr A step) (sym (expr.rolls-Pre p op a)) ∙ fold-roll-Expr A step (Expr-F.Pre p op a)

  -- C17 6.5.3: the result at a unary operator, from that at its operand
  pub expr_Unary : (p : Place) (op : Mark) (a : Expr) → fold-Expr A step (expr.Unary p op a) ≡ step (Expr-F.Unary p op (fold-Expr A step a))
  expr_Unary p op a = ap (fold-Expr A step) (sym (expr.rolls-Unary p op a)) ∙ fold-roll-Expr A step (Expr-F.Unary p op a)

  -- C17 6.5.3.4: the result at `sizeof` of an expression, from that at the expression
  pub expr_SizeofExpr : (p : Place) (a : Expr) → fold-Expr A step (expr.SizeofExpr p a) ≡ step (Expr-F.SizeofExpr p (fold-Expr A step a))
  expr_SizeofExpr p a = ap (fold-Expr A step) (sym (expr.rolls-SizeofExpr p a)) ∙ fold-roll-Expr A step (Expr-F.SizeofExpr p a)

  -- C17 6.5.3.4: the result at `sizeof` of a type
  pub expr_SizeofType : (p : Place) (specs : List Word) (stars : List Bool) → fold-Expr A step (expr.SizeofType p specs stars) ≡ step (Expr-F.SizeofType p specs stars)
  expr_SizeofType p specs stars = ap (fold-Expr A step) (sym (expr.rolls-SizeofType p specs stars)) ∙ fold-roll-Expr A step (Expr-F.SizeofType p specs stars)

  -- C17 6.5.4: the result at a cast, from that at what is cast
  pub expr_Cast : (p : Place) (specs : List Word) (stars : List Bool) (a : Expr) → fold-Expr A step (expr.Cast p specs stars a) ≡ step (Expr-F.Cast p specs stars (fold-Expr A step a))
  expr_Cast p specs stars a = ap (fold-Expr A step) (sym (expr.rolls-Cast p specs stars a)) ∙ fold-roll-Expr A step (Expr-F.Cast p specs stars a)

  -- C17 6.5.5 to 6.5.14: the result at a binary operator, from those at its operands
  pub expr_Binary : (p : Place) (op : Mark) (a b : Expr) → fold-Expr A step (expr.Binary p op a b) ≡ step (Expr-F.Binary p op (fold-Expr A step a) (fold-Expr A step b))
  expr_Binary p op a b = ap (fold-Expr A step) (sym (expr.rolls-Binary p op a b)) ∙ fold-roll-Expr A step (Expr-F.Binary p op a b)

  -- C17 6.5.15: the result at a conditional expression, from those at its three operands
  pub expr_Cond : (p : Place) (a b c : Expr) → fold-Expr A step (expr.Cond p a b c) ≡ step (Expr-F.Cond p (fold-Expr A step a) (fold-Expr A step b) (fold-Expr A step c))
  expr_Cond p a b c = ap (fold-Expr A step) (sym (expr.rolls-Cond p a b c)) ∙ fold-roll-Expr A step (Expr-F.Cond p a b c)

  -- C17 6.5.16: the result at an assignment, from those at its operands
  pub expr_Assign : (p : Place) (op : Mark) (a b : Expr) → fold-Expr A step (expr.Assign p op a b) ≡ step (Expr-F.Assign p op (fold-Expr A step a) (fold-Expr A step b))
  expr_Assign p op a b = ap (fold-Expr A step) (sym (expr.rolls-Assign p op a b)) ∙ fold-roll-Expr A step (Expr-F.Assign p op a b)

  -- C17 6.5.17: the result at a comma, from those at its operands
  pub expr_Comma : (p : Place) (a b : Expr) → fold-Expr A step (expr.Comma p a b) ≡ step (Expr-F.Comma p (fold-Expr A step a) (fold-Expr A step b))
  expr_Comma p a b = ap (fold-Expr A step) (sym (expr.rolls-Comma p a b)) ∙ fold-roll-Expr A step (Expr-F.Comma p a b)

module _ (A : Type 0) (step : Init-F A → A) where
  -- C17 6.7.9: the result at an initialiser that is an expression
  pub init_One : (p : Place) (a : Expr) → fold-Init A step (init.One p a) ≡ step (Init-F.One p a)
  init_One p a = ap (fold-Init A step) (sym (init.rolls-One p a)) ∙ fold-roll-Init A step (Init-F.One p a)

  -- C17 6.7.9: the result at initialisers in braces, from those at each of them
  pub init_List : (p : Place) (xs : List Init) (last : Bool) → fold-Init A step (init.List p xs last) ≡ step (Init-F.List p (map (fold-Init A step) xs) last)
  init_List p xs last = ap (fold-Init A step) (sym (init.rolls-List p xs last)) ∙ fold-roll-Init A step (Init-F.List p xs last)

module _ (A B : Type 0) (part_step : Part-F A B → A) (step : Stmt-F A B → B) where
  -- C17 6.8.3: the result at an expression that is a statement
  pub stmt_Expr : (p : Place) (a : Expr) → fold-Stmt A B part_step step (stmt.Expr p a) ≡ step (Stmt-F.Expr p a)
  stmt_Expr p a = ap (fold-Stmt A B part_step step) (sym (stmt.rolls-Expr p a)) ∙ fold-roll-Stmt A B part_step step (Stmt-F.Expr p a)

  -- C17 6.8.3: the result at the empty statement
  pub stmt_Empty : (p : Place) → fold-Stmt A B part_step step (stmt.Empty p) ≡ step (Stmt-F.Empty p)
  stmt_Empty p = ap (fold-Stmt A B part_step step) (sym (stmt.rolls-Empty p)) ∙ fold-roll-Stmt A B part_step step (Stmt-F.Empty p)

  -- C17 6.8.2: the result at a block, from those at its parts
  pub stmt_Block : (p : Place) (parts : List Stmt) → fold-Stmt A B part_step step (stmt.Block p parts) ≡ step (Stmt-F.Block p (map (fold-Stmt A B part_step step) parts))
  stmt_Block p parts = ap (fold-Stmt A B part_step step) (sym (stmt.rolls-Block p parts)) ∙ fold-roll-Stmt A B part_step step (Stmt-F.Block p parts)

  -- C17 6.8.4.1: the result at an `if` without an `else`, from that at its statement
  pub if_alone : (p : Place) (a : Expr) (s : Stmt) → fold-Stmt A B part_step step (stmt.If p a s None) ≡ step (Stmt-F.If p a (fold-Stmt A B part_step step s) None)
  if_alone p a s = ap (fold-Stmt A B part_step step) (sym (stmt.rolls-If p a s None)) ∙ fold-roll-Stmt A B part_step step (Stmt-F.If p a s None)

  -- C17 6.8.4.1: the result at an `if` with an `else`, from those at both statements
  pub if_else : (p : Place) (a : Expr) (s t : Stmt) → fold-Stmt A B part_step step (stmt.If p a s (Some t)) ≡ step (Stmt-F.If p a (fold-Stmt A B part_step step s) (Some (fold-Stmt A B part_step step t)))
  if_else p a s t = ap (fold-Stmt A B part_step step) (sym (stmt.rolls-If p a s (Some t))) ∙ fold-roll-Stmt A B part_step step (Stmt-F.If p a s (Some t))

  -- C17 6.8.5.1: the result at a `while` loop, from that at its body
  pub stmt_While : (p : Place) (a : Expr) (s : Stmt) → fold-Stmt A B part_step step (stmt.While p a s) ≡ step (Stmt-F.While p a (fold-Stmt A B part_step step s))
  stmt_While p a s = ap (fold-Stmt A B part_step step) (sym (stmt.rolls-While p a s)) ∙ fold-roll-Stmt A B part_step step (Stmt-F.While p a s)

  -- C17 6.8.5.2: the result at a `do` loop, from that at its body
  pub stmt_DoWhile : (p : Place) (s : Stmt) (a : Expr) → fold-Stmt A B part_step step (stmt.DoWhile p s a) ≡ step (Stmt-F.DoWhile p (fold-Stmt A B part_step step s) a)
  stmt_DoWhile p s a = ap (fold-Stmt A B part_step step) (sym (stmt.rolls-DoWhile p s a)) ∙ fold-roll-Stmt A B part_step step (Stmt-F.DoWhile p s a)

  -- C17 6.8.5.3: the result at a `for` loop, from that at its body
  pub stmt_For : (p : Place) (start : First) (a b : Option Expr) (s : Stmt) → fold-Stmt A B part_step step (stmt.For p start a b s) ≡ step (Stmt-F.For p start a b (fold-Stmt A B part_step step s))
  stmt_For p start a b s = ap (fold-Stmt A B part_step step) (sym (stmt.rolls-For p start a b s)) ∙ fold-roll-Stmt A B part_step step (Stmt-F.For p start a b s)

  -- C17 6.8.4.2: the result at a `switch`, from those at its parts
  pub stmt_Switch : (p : Place) (a : Expr) (parts : List Part) → fold-Stmt A B part_step step (stmt.Switch p a parts) ≡ step (Stmt-F.Switch p a (map (fold-Part A B part_step step) parts))
  stmt_Switch p a parts = ap (fold-Stmt A B part_step step) (sym (stmt.rolls-Switch p a parts)) ∙ fold-roll-Stmt A B part_step step (Stmt-F.Switch p a parts)

  -- C17 6.8.1: the result at a `case` label
  pub part_Case : (p : Place) (a : Expr) → fold-Part A B part_step step (part.Case p a) ≡ part_step (Part-F.Case p a)
  part_Case p a = ap (fold-Part A B part_step step) (sym (part.rolls-Case p a)) ∙ fold-roll-Part A B part_step step (Part-F.Case p a)

  -- C17 6.8.1: the result at a `default` label
  pub part_Default : (p : Place) → fold-Part A B part_step step (part.Default p) ≡ part_step (Part-F.Default p)
  part_Default p = ap (fold-Part A B part_step step) (sym (part.rolls-Default p)) ∙ fold-roll-Part A B part_step step (Part-F.Default p)

  -- C17 6.8.4.2: the result at a statement in the braces of a `switch`, from that at the statement
  pub part_Does : (p : Place) (s : Stmt) → fold-Part A B part_step step (part.Does p s) ≡ part_step (Part-F.Does p (fold-Stmt A B part_step step s))
  part_Does p s = ap (fold-Part A B part_step step) (sym (part.rolls-Does p s)) ∙ fold-roll-Part A B part_step step (Part-F.Does p s)

  -- C17 6.8.6.3: the result at a `break`
  pub stmt_Break : (p : Place) → fold-Stmt A B part_step step (stmt.Break p) ≡ step (Stmt-F.Break p)
  stmt_Break p = ap (fold-Stmt A B part_step step) (sym (stmt.rolls-Break p)) ∙ fold-roll-Stmt A B part_step step (Stmt-F.Break p)

  -- C17 6.8.6.2: the result at a `continue`
  pub stmt_Continue : (p : Place) → fold-Stmt A B part_step step (stmt.Continue p) ≡ step (Stmt-F.Continue p)
  stmt_Continue p = ap (fold-Stmt A B part_step step) (sym (stmt.rolls-Continue p)) ∙ fold-roll-Stmt A B part_step step (Stmt-F.Continue p)

  -- C17 6.8.6.4: the result at a `return`
  pub stmt_Return : (p : Place) (a : Option Expr) → fold-Stmt A B part_step step (stmt.Return p a) ≡ step (Stmt-F.Return p a)
  stmt_Return p a = ap (fold-Stmt A B part_step step) (sym (stmt.rolls-Return p a)) ∙ fold-roll-Stmt A B part_step step (Stmt-F.Return p a)

  -- C17 6.7, 6.8.2: the result at a declaration in a block
  pub stmt_Declare : (p : Place) (specs : List Word) (list : List Declarator) → fold-Stmt A B part_step step (stmt.Declare p specs list) ≡ step (Stmt-F.Declare p specs list)
  stmt_Declare p specs list = ap (fold-Stmt A B part_step step) (sym (stmt.rolls-Declare p specs list)) ∙ fold-roll-Stmt A B part_step step (Stmt-F.Declare p specs list)

-- the equations for every form of an expression
pub ruleset expr_folds = (expr_Name, expr_Number, expr_Char, expr_Str, expr_Paren, expr_Index, expr_Call, expr_Post, expr_Pre, expr_Unary, expr_SizeofExpr, expr_SizeofType, expr_Cast, expr_Binary, expr_Cond, expr_Assign, expr_Comma)

-- the equations for both forms of an initialiser
pub ruleset init_folds = (init_One, init_List)

-- the equations for every form of a statement and of a part of a `switch`
pub ruleset stmt_folds = (stmt_Expr, stmt_Empty, stmt_Block, if_alone, if_else, stmt_While, stmt_DoWhile, stmt_For, stmt_Switch, part_Case, part_Default, part_Does, stmt_Break, stmt_Continue, stmt_Return, stmt_Declare)

-- the equations for every form of a tree
pub ruleset folds = (expr_folds, init_folds, stmt_folds)
