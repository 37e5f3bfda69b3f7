-- One equation per construct for every function of a whole typed tree: its step at the results of the parts.
use Rattle.std.specs.Prelude.{ℕ, ℤ, ◌≡◌, List, map, Option, Some, None}
use Rattle.std.proofs.Common.{sym, ap, ◌∙◌}
use Rattle.k_num.specs.declared.numbers.Bin.{Bin}
use Rattle.k_num.specs.declared.numbers.Kind.{Kind}
use Rattle.k_num.specs.declared.numbers.Un.{Un}
use Rattle.k_num.specs.declared.place.Place.{Place}
use Rattle.k_types_meaning.specs.declared.tree.declaration.TDeclarator.{TDeclarator}
use Rattle.k_types_meaning.specs.declared.tree.expression.Change.{Change}
use Rattle.k_types_meaning.specs.declared.tree.expression.Node.{Node}
use Rattle.k_types_meaning.specs.declared.tree.expression.Piece.{Piece}
use Rattle.k_types_meaning.specs.declared.tree.expression.TExpr.{TExpr, fold-TExpr, fold-roll-TExpr}
use Rattle.k_types_meaning.specs.declared.tree.expression.TExpr.TheOpen.{TExpr-F}
use Rattle.k_types_meaning.specs.declared.tree.expression.TExpr.TheVariants as typed
use Rattle.k_types_meaning.specs.declared.tree.statement.Spot.{Spot}
use Rattle.k_types_meaning.specs.declared.tree.statement.TFirst.{TFirst}
use Rattle.k_types_meaning.specs.declared.tree.statement.TPart.{TPart, fold-TPart, fold-roll-TPart}
use Rattle.k_types_meaning.specs.declared.tree.statement.TPart.TheOpen.{TPart-F, TStmt-F}
use Rattle.k_types_meaning.specs.declared.tree.statement.TPart.TheVariants as part
use Rattle.k_types_meaning.specs.declared.tree.statement.TStmt.{TStmt, fold-TStmt, fold-roll-TStmt}
use Rattle.k_types_meaning.specs.declared.tree.statement.TStmt.TheVariants as stmt

module _ (A : Type 0) (step : TExpr-F A → A) where
  -- C17 6.4.4, 6.5.1: the result at a number
  pub typed_Number : (node : Node) (value : ℤ) → fold-TExpr A step (typed.Number node value) ≡ step (TExpr-F.Number node value)
  typed_Number node value = ap (fold-TExpr A step) (sym (typed.rolls-Number node value)) ∙ fold-roll-TExpr A step (TExpr-F.Number node value)

  -- C17 6.4.5, 6.5.1: the result at a string
  pub typed_Str : (node : Node) (n : ℕ) (bytes : List ℕ) → fold-TExpr A step (typed.Str node n bytes) ≡ step (TExpr-F.Str node n bytes)
  typed_Str node n bytes = ap (fold-TExpr A step) (sym (typed.rolls-Str node n bytes)) ∙ fold-roll-TExpr A step (TExpr-F.Str node n bytes)

  -- C17 6.5.1: the result at a file object
  pub typed_Object : (node : Node) (n : ℕ) → fold-TExpr A step (typed.Object node n) ≡ step (TExpr-F.Object node n)
  typed_Object node n = ap (fold-TExpr A step) (sym (typed.rolls-Object node n)) ∙ fold-roll-TExpr A step (TExpr-F.Object node n)

  -- C17 6.5.1: the result at a variable
  pub typed_Variable : (node : Node) (n : ℕ) → fold-TExpr A step (typed.Variable node n) ≡ step (TExpr-F.Variable node n)
  typed_Variable node n = ap (fold-TExpr A step) (sym (typed.rolls-Variable node n)) ∙ fold-roll-TExpr A step (TExpr-F.Variable node n)

  -- C17 6.5.2.1: the result at an index, from those at the array and the number
  pub typed_Index : (node : Node) (a b : TExpr) → fold-TExpr A step (typed.Index node a b) ≡ step (TExpr-F.Index node (fold-TExpr A step a) (fold-TExpr A step b))
  typed_Index node a b = ap (fold-TExpr A step) (sym (typed.rolls-Index node a b)) ∙ fold-roll-TExpr A step (TExpr-F.Index node a b)

  -- C17 6.5.2.2: the result at a call, from those at its arguments
  pub typed_Call : (node : Node) (f : ℕ) (args : List TExpr) → fold-TExpr A step (typed.Call node f args) ≡ step (TExpr-F.Call node f (map (fold-TExpr A step) args))
  typed_Call node f args = ap (fold-TExpr A step) (sym (typed.rolls-Call node f args)) ∙ fold-roll-TExpr A step (TExpr-F.Call node f args)

  -- C17 7.21.7.6: the result at `getchar()`
  pub typed_Getchar : (node : Node) → fold-TExpr A step (typed.Getchar node) ≡ step (TExpr-F.Getchar node)
  typed_Getchar node = ap (fold-TExpr A step) (sym (typed.rolls-Getchar node)) ∙ fold-roll-TExpr A step (TExpr-F.Getchar node)

  -- C17 7.21.7.8: the result at `putchar`, from that at its argument
  pub typed_Putchar : (node : Node) (a : TExpr) → fold-TExpr A step (typed.Putchar node a) ≡ step (TExpr-F.Putchar node (fold-TExpr A step a))
  typed_Putchar node a = ap (fold-TExpr A step) (sym (typed.rolls-Putchar node a)) ∙ fold-roll-TExpr A step (TExpr-F.Putchar node a)

  -- C17 7.21.7.9: the result at `puts`, from that at its argument
  pub typed_Puts : (node : Node) (a : TExpr) → fold-TExpr A step (typed.Puts node a) ≡ step (TExpr-F.Puts node (fold-TExpr A step a))
  typed_Puts node a = ap (fold-TExpr A step) (sym (typed.rolls-Puts node a)) ∙ fold-roll-TExpr A step (TExpr-F.Puts node a)

  -- C17 7.21.6.3: the result at `printf`, from those at its arguments
  pub typed_Printf : (node : Node) (format : List Piece) (args : List TExpr) → fold-TExpr A step (typed.Printf node format args) ≡ step (TExpr-F.Printf node format (map (fold-TExpr A step) args))
  typed_Printf node format args = ap (fold-TExpr A step) (sym (typed.rolls-Printf node format args)) ∙ fold-roll-TExpr A step (TExpr-F.Printf node format args)

  -- C17 6.5.2.4: the result at `++` or `--` behind its operand, from that at the operand
  pub typed_Post : (node : Node) (change : Change) (a : TExpr) → fold-TExpr A step (typed.Post node change a) ≡ step (TExpr-F.Post node change (fold-TExpr A step a))
  typed_Post node change a = ap (fold-TExpr A step) (sym (typed.rolls-Post node change a)) ∙ fold-roll-TExpr A step (TExpr-F.Post node change a)

  -- C17 6.5.3.1: the result at `++` or `--` before its operand, from that at the operand
  pub typed_Pre : (node : Node) (change : Change) (a : TExpr) → fold-TExpr A step (typed.Pre node change a) ≡ step (TExpr-F.Pre node change (fold-TExpr A step a))
  typed_Pre node change a = ap (fold-TExpr A step) (sym (typed.rolls-Pre node change a)) ∙ fold-roll-TExpr A step (TExpr-F.Pre node change a)

  -- C17 6.5.3.2: the result at an address, from that at the operand
  pub typed_Address : (node : Node) (a : TExpr) → fold-TExpr A step (typed.Address node a) ≡ step (TExpr-F.Address node (fold-TExpr A step a))
  typed_Address node a = ap (fold-TExpr A step) (sym (typed.rolls-Address node a)) ∙ fold-roll-TExpr A step (TExpr-F.Address node a)

  -- C17 6.5.3.2: the result at an indirection, from that at the operand
  pub typed_Deref : (node : Node) (a : TExpr) → fold-TExpr A step (typed.Deref node a) ≡ step (TExpr-F.Deref node (fold-TExpr A step a))
  typed_Deref node a = ap (fold-TExpr A step) (sym (typed.rolls-Deref node a)) ∙ fold-roll-TExpr A step (TExpr-F.Deref node a)

  -- C17 6.5.3.3: the result at a unary plus, from that at its operand
  pub typed_Plus : (node : Node) (a : TExpr) → fold-TExpr A step (typed.Plus node a) ≡ step (TExpr-F.Plus node (fold-TExpr A step a))
  typed_Plus node a = ap (fold-TExpr A step) (sym (typed.rolls-Plus node a)) ∙ fold-roll-TExpr A step (TExpr-F.Plus node a)

  -- C17 6.5.3.3: the result at a unary operator, from that at its operand
  pub typed_Unary : (node : Node) (op : Un) (kind : Kind) (a : TExpr) → fold-TExpr A step (typed.Unary node op kind a) ≡ step (TExpr-F.Unary node op kind (fold-TExpr A step a))
  typed_Unary node op kind a = ap (fold-TExpr A step) (sym (typed.rolls-Unary node op kind a)) ∙ fold-roll-TExpr A step (TExpr-F.Unary node op kind a)

  -- C17 6.3: the result at a conversion, from that at what is converted
  pub typed_Convert : (node : Node) (a : TExpr) → fold-TExpr A step (typed.Convert node a) ≡ step (TExpr-F.Convert node (fold-TExpr A step a))
  typed_Convert node a = ap (fold-TExpr A step) (sym (typed.rolls-Convert node a)) ∙ fold-roll-TExpr A step (TExpr-F.Convert node a)

  -- C17 6.5.4: the result at a cast, from that at what is cast
  pub typed_Cast : (node : Node) (a : TExpr) → fold-TExpr A step (typed.Cast node a) ≡ step (TExpr-F.Cast node (fold-TExpr A step a))
  typed_Cast node a = ap (fold-TExpr A step) (sym (typed.rolls-Cast node a)) ∙ fold-roll-TExpr A step (TExpr-F.Cast node a)

  -- C17 6.5.5 to 6.5.12: the result at a binary operator, from those at its operands
  pub typed_Binary : (node : Node) (op : Bin) (kind : Kind) (a b : TExpr) → fold-TExpr A step (typed.Binary node op kind a b) ≡ step (TExpr-F.Binary node op kind (fold-TExpr A step a) (fold-TExpr A step b))
  typed_Binary node op kind a b = ap (fold-TExpr A step) (sym (typed.rolls-Binary node op kind a b)) ∙ fold-roll-TExpr A step (TExpr-F.Binary node op kind a b)

  -- C17 6.5.13: the result at `&&`, from those at its operands
  pub typed_Both : (node : Node) (a b : TExpr) → fold-TExpr A step (typed.Both node a b) ≡ step (TExpr-F.Both node (fold-TExpr A step a) (fold-TExpr A step b))
  typed_Both node a b = ap (fold-TExpr A step) (sym (typed.rolls-Both node a b)) ∙ fold-roll-TExpr A step (TExpr-F.Both node a b)

  -- C17 6.5.14: the result at `||`, from those at its operands
  pub typed_Either : (node : Node) (a b : TExpr) → fold-TExpr A step (typed.Either node a b) ≡ step (TExpr-F.Either node (fold-TExpr A step a) (fold-TExpr A step b))
  typed_Either node a b = ap (fold-TExpr A step) (sym (typed.rolls-Either node a b)) ∙ fold-roll-TExpr A step (TExpr-F.Either node a b)

  -- C17 6.5.6: the result at a pointer plus a number, from those at both
  pub typed_Forward : (node : Node) (a b : TExpr) → fold-TExpr A step (typed.Forward node a b) ≡ step (TExpr-F.Forward node (fold-TExpr A step a) (fold-TExpr A step b))
  typed_Forward node a b = ap (fold-TExpr A step) (sym (typed.rolls-Forward node a b)) ∙ fold-roll-TExpr A step (TExpr-F.Forward node a b)

  -- C17 6.5.6: the result at a number plus a pointer, from those at both
  pub typed_Onto : (node : Node) (a b : TExpr) → fold-TExpr A step (typed.Onto node a b) ≡ step (TExpr-F.Onto node (fold-TExpr A step a) (fold-TExpr A step b))
  typed_Onto node a b = ap (fold-TExpr A step) (sym (typed.rolls-Onto node a b)) ∙ fold-roll-TExpr A step (TExpr-F.Onto node a b)

  -- C17 6.5.6: the result at a pointer less a number, from those at both
  pub typed_Back : (node : Node) (a b : TExpr) → fold-TExpr A step (typed.Back node a b) ≡ step (TExpr-F.Back node (fold-TExpr A step a) (fold-TExpr A step b))
  typed_Back node a b = ap (fold-TExpr A step) (sym (typed.rolls-Back node a b)) ∙ fold-roll-TExpr A step (TExpr-F.Back node a b)

  -- C17 6.5.8, 6.5.9: the result at a comparison of pointers, from those at its operands
  pub typed_PtrCompare : (node : Node) (op : Bin) (a b : TExpr) → fold-TExpr A step (typed.PtrCompare node op a b) ≡ step (TExpr-F.PtrCompare node op (fold-TExpr A step a) (fold-TExpr A step b))
  typed_PtrCompare node op a b = ap (fold-TExpr A step) (sym (typed.rolls-PtrCompare node op a b)) ∙ fold-roll-TExpr A step (TExpr-F.PtrCompare node op a b)

  -- C17 6.5.6: the result at a difference of pointers, from those at its operands
  pub typed_PtrDistance : (node : Node) (a b : TExpr) → fold-TExpr A step (typed.PtrDistance node a b) ≡ step (TExpr-F.PtrDistance node (fold-TExpr A step a) (fold-TExpr A step b))
  typed_PtrDistance node a b = ap (fold-TExpr A step) (sym (typed.rolls-PtrDistance node a b)) ∙ fold-roll-TExpr A step (TExpr-F.PtrDistance node a b)

  -- C17 6.5.15: the result at a conditional expression, from those at its three operands
  pub typed_Cond : (node : Node) (a b c : TExpr) → fold-TExpr A step (typed.Cond node a b c) ≡ step (TExpr-F.Cond node (fold-TExpr A step a) (fold-TExpr A step b) (fold-TExpr A step c))
  typed_Cond node a b c = ap (fold-TExpr A step) (sym (typed.rolls-Cond node a b c)) ∙ fold-roll-TExpr A step (TExpr-F.Cond node a b c)

  -- C17 6.5.16.1: the result at an assignment, from those at its operands
  pub typed_Assign : (node : Node) (a b : TExpr) → fold-TExpr A step (typed.Assign node a b) ≡ step (TExpr-F.Assign node (fold-TExpr A step a) (fold-TExpr A step b))
  typed_Assign node a b = ap (fold-TExpr A step) (sym (typed.rolls-Assign node a b)) ∙ fold-roll-TExpr A step (TExpr-F.Assign node a b)

  -- C17 6.5.16.2: the result at a compound assignment, from those at its operands
  pub typed_AssignBy : (node : Node) (change : Change) (a b : TExpr) → fold-TExpr A step (typed.AssignBy node change a b) ≡ step (TExpr-F.AssignBy node change (fold-TExpr A step a) (fold-TExpr A step b))
  typed_AssignBy node change a b = ap (fold-TExpr A step) (sym (typed.rolls-AssignBy node change a b)) ∙ fold-roll-TExpr A step (TExpr-F.AssignBy node change a b)

  -- C17 6.5.17: the result at a comma, from those at its operands
  pub typed_Comma : (node : Node) (a b : TExpr) → fold-TExpr A step (typed.Comma node a b) ≡ step (TExpr-F.Comma node (fold-TExpr A step a) (fold-TExpr A step b))
  typed_Comma node a b = ap (fold-TExpr A step) (sym (typed.rolls-Comma node a b)) ∙ fold-roll-TExpr A step (TExpr-F.Comma node a b)

module _ (A B : Type 0) (part_step : TPart-F A B → A) (step : TStmt-F A B → B) where
  -- C17 6.8.3: the result at an expression that is a statement
  pub done_Expr : (spot : Spot) (e : TExpr) → fold-TStmt A B part_step step (stmt.Expr spot e) ≡ step (TStmt-F.Expr spot e)
  done_Expr spot e = ap (fold-TStmt A B part_step step) (sym (stmt.rolls-Expr spot e)) ∙ fold-roll-TStmt A B part_step step (TStmt-F.Expr spot e)

  -- C17 6.8.3: the result at the empty statement
  pub done_Empty : (spot : Spot) → fold-TStmt A B part_step step (stmt.Empty spot) ≡ step (TStmt-F.Empty spot)
  done_Empty spot = ap (fold-TStmt A B part_step step) (sym (stmt.rolls-Empty spot)) ∙ fold-roll-TStmt A B part_step step (TStmt-F.Empty spot)

  -- C17 6.8.2: the result at a block, from those at its parts
  pub done_Block : (spot : Spot) (parts : List TStmt) → fold-TStmt A B part_step step (stmt.Block spot parts) ≡ step (TStmt-F.Block spot (map (fold-TStmt A B part_step step) parts))
  done_Block spot parts = ap (fold-TStmt A B part_step step) (sym (stmt.rolls-Block spot parts)) ∙ fold-roll-TStmt A B part_step step (TStmt-F.Block spot parts)

  -- C17 6.8.4.1: the result at an `if` without an `else`, from that at its statement
  pub done_alone : (spot : Spot) (test : TExpr) (s : TStmt) → fold-TStmt A B part_step step (stmt.If spot test s None) ≡ step (TStmt-F.If spot test (fold-TStmt A B part_step step s) None)
  done_alone spot test s = ap (fold-TStmt A B part_step step) (sym (stmt.rolls-If spot test s None)) ∙ fold-roll-TStmt A B part_step step (TStmt-F.If spot test s None)

  -- C17 6.8.4.1: the result at an `if` with an `else`, from those at both statements
  pub done_else : (spot : Spot) (test : TExpr) (s t : TStmt) → fold-TStmt A B part_step step (stmt.If spot test s (Some t)) ≡ step (TStmt-F.If spot test (fold-TStmt A B part_step step s) (Some (fold-TStmt A B part_step step t)))
  done_else spot test s t = ap (fold-TStmt A B part_step step) (sym (stmt.rolls-If spot test s (Some t))) ∙ fold-roll-TStmt A B part_step step (TStmt-F.If spot test s (Some t))

  -- C17 6.8.5.1: the result at a `while` loop, from that at its body
  pub done_While : (spot : Spot) (turns : ℕ) (test : TExpr) (s : TStmt) → fold-TStmt A B part_step step (stmt.While spot turns test s) ≡ step (TStmt-F.While spot turns test (fold-TStmt A B part_step step s))
  done_While spot turns test s = ap (fold-TStmt A B part_step step) (sym (stmt.rolls-While spot turns test s)) ∙ fold-roll-TStmt A B part_step step (TStmt-F.While spot turns test s)

  -- C17 6.8.5.2: the result at a `do` loop, from that at its body
  pub done_DoWhile : (spot : Spot) (turns : ℕ) (s : TStmt) (test : TExpr) → fold-TStmt A B part_step step (stmt.DoWhile spot turns s test) ≡ step (TStmt-F.DoWhile spot turns (fold-TStmt A B part_step step s) test)
  done_DoWhile spot turns s test = ap (fold-TStmt A B part_step step) (sym (stmt.rolls-DoWhile spot turns s test)) ∙ fold-roll-TStmt A B part_step step (TStmt-F.DoWhile spot turns s test)

  -- C17 6.8.5.3: the result at a `for` loop, from that at its body
  pub done_For : (spot : Spot) (turns : ℕ) (start : TFirst) (test step_ : Option TExpr) (s : TStmt) → fold-TStmt A B part_step step (stmt.For spot turns start test step_ s) ≡ step (TStmt-F.For spot turns start test step_ (fold-TStmt A B part_step step s))
  done_For spot turns start test step_ s = ap (fold-TStmt A B part_step step) (sym (stmt.rolls-For spot turns start test step_ s)) ∙ fold-roll-TStmt A B part_step step (TStmt-F.For spot turns start test step_ s)

  -- C17 6.8.4.2: the result at a `switch`, from those at its parts
  pub done_Switch : (spot : Spot) (kind : Kind) (on : TExpr) (parts : List TPart) → fold-TStmt A B part_step step (stmt.Switch spot kind on parts) ≡ step (TStmt-F.Switch spot kind on (map (fold-TPart A B part_step step) parts))
  done_Switch spot kind on parts = ap (fold-TStmt A B part_step step) (sym (stmt.rolls-Switch spot kind on parts)) ∙ fold-roll-TStmt A B part_step step (TStmt-F.Switch spot kind on parts)

  -- C17 6.8.6.3: the result at a `break`
  pub done_Break : (spot : Spot) → fold-TStmt A B part_step step (stmt.Break spot) ≡ step (TStmt-F.Break spot)
  done_Break spot = ap (fold-TStmt A B part_step step) (sym (stmt.rolls-Break spot)) ∙ fold-roll-TStmt A B part_step step (TStmt-F.Break spot)

  -- C17 6.8.6.2: the result at a `continue`
  pub done_Continue : (spot : Spot) → fold-TStmt A B part_step step (stmt.Continue spot) ≡ step (TStmt-F.Continue spot)
  done_Continue spot = ap (fold-TStmt A B part_step step) (sym (stmt.rolls-Continue spot)) ∙ fold-roll-TStmt A B part_step step (TStmt-F.Continue spot)

  -- C17 6.8.6.4: the result at a `return`
  pub done_Return : (spot : Spot) (value : Option TExpr) → fold-TStmt A B part_step step (stmt.Return spot value) ≡ step (TStmt-F.Return spot value)
  done_Return spot value = ap (fold-TStmt A B part_step step) (sym (stmt.rolls-Return spot value)) ∙ fold-roll-TStmt A B part_step step (TStmt-F.Return spot value)

  -- C17 6.7, 6.8.2: the result at a declaration in a block
  pub done_Declare : (spot : Spot) (list : List TDeclarator) → fold-TStmt A B part_step step (stmt.Declare spot list) ≡ step (TStmt-F.Declare spot list)
  done_Declare spot list = ap (fold-TStmt A B part_step step) (sym (stmt.rolls-Declare spot list)) ∙ fold-roll-TStmt A B part_step step (TStmt-F.Declare spot list)

  -- C17 6.8.1: the result at a `case` label
  pub part_Case : (p : Place) (value : ℤ) → fold-TPart A B part_step step (part.Case p value) ≡ part_step (TPart-F.Case p value)
  part_Case p value = ap (fold-TPart A B part_step step) (sym (part.rolls-Case p value)) ∙ fold-roll-TPart A B part_step step (TPart-F.Case p value)

  -- C17 6.8.1: the result at a `default` label
  pub part_Default : (p : Place) → fold-TPart A B part_step step (part.Default p) ≡ part_step (TPart-F.Default p)
  part_Default p = ap (fold-TPart A B part_step step) (sym (part.rolls-Default p)) ∙ fold-roll-TPart A B part_step step (TPart-F.Default p)

  -- C17 6.8.4.2: the result at a statement in the braces of a `switch`, from that at the statement
  pub part_Does : (p : Place) (s : TStmt) → fold-TPart A B part_step step (part.Does p s) ≡ part_step (TPart-F.Does p (fold-TStmt A B part_step step s))
  part_Does p s = ap (fold-TPart A B part_step step) (sym (part.rolls-Does p s)) ∙ fold-roll-TPart A B part_step step (TPart-F.Does p s)
