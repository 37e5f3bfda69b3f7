-- What is left where the forms are taken off one group after the other.
use Rattle.std.proofs.Common.{ℕ, ℤ, ◌≡◌, true, List, Option, refl, sym, ◌∙◌}
use Rattle.k_num.specs.declared.numbers.Bin.{Bin}
use Rattle.k_num.specs.declared.numbers.Kind.{Kind}
use Rattle.k_num.specs.declared.numbers.Un.{Un}
use Rattle.k_types_meaning.specs.declared.tree.declaration.TDeclarator.{TDeclarator}
use Rattle.k_types_meaning.specs.declared.tree.expression.Change.{Change}
use Rattle.k_types_meaning.specs.declared.tree.expression.Node.{Node}
use Rattle.k_types_meaning.specs.declared.tree.expression.Piece.{Piece}
use Rattle.k_types_meaning.specs.declared.tree.expression.TExpr.{TExpr, out-TExpr, roll-TExpr, roll-out-TExpr}
use Rattle.k_types_meaning.specs.declared.tree.expression.TExpr.TheOpen.{TExpr-F}
use Rattle.k_types_meaning.specs.declared.tree.expression.TExpr.TheVariants as typed
use Rattle.k_types_meaning.specs.declared.tree.statement.Spot.{Spot}
use Rattle.k_types_meaning.specs.declared.tree.statement.TFirst.{TFirst}
use Rattle.k_types_meaning.specs.declared.tree.statement.TPart.{TPart}
use Rattle.k_types_meaning.specs.declared.tree.statement.TPart.TheOpen.{TStmt-F}
use Rattle.k_types_meaning.specs.declared.tree.statement.TStmt.{TStmt, out-TStmt, roll-TStmt, roll-out-TStmt}
use Rattle.k_types_meaning.specs.declared.tree.statement.TStmt.TheVariants as stmt
use Rattle.k_types_numbers.specs.Forms.{has_operands, has_operands_at, is_operation, is_operation_at, has_several, has_several_at, is_on_pointers, is_on_pointers_at, selects_or_iterates, selects_or_iterates_at, iterates, iterates_at}

-- what is none of those without operands has some
pub with_operands : (e : TExpr)
    → ((node : Node) (value : ℤ) → e ≡ typed.Number node value → ⊥) → ((node : Node) (n : ℕ) (bytes : List ℕ) → e ≡ typed.Str node n bytes → ⊥) → ((node : Node) (n : ℕ) → e ≡ typed.Object node n → ⊥) → ((node : Node) (n : ℕ) → e ≡ typed.Variable node n → ⊥) → ((node : Node) → e ≡ typed.Getchar node → ⊥)
    → has_operands e ≡ true
with_operands e not_Number not_Str not_Object not_Variable not_Getchar = by_form (out-TExpr e) (roll-out-TExpr e)
  where
    by_form : (x : TExpr-F TExpr) → roll-TExpr x ≡ e → has_operands_at x ≡ true
    by_form (TExpr-F.Number node value) is = absurd (not_Number node value (sym is ∙ typed.rolls-Number node value))
    by_form (TExpr-F.Str node n bytes) is = absurd (not_Str node n bytes (sym is ∙ typed.rolls-Str node n bytes))
    by_form (TExpr-F.Object node n) is = absurd (not_Object node n (sym is ∙ typed.rolls-Object node n))
    by_form (TExpr-F.Variable node n) is = absurd (not_Variable node n (sym is ∙ typed.rolls-Variable node n))
    by_form (TExpr-F.Getchar node) is = absurd (not_Getchar node (sym is ∙ typed.rolls-Getchar node))
    by_form x is = refl

-- what has operands and is no call is an operation
pub an_operation : (e : TExpr) → has_operands e ≡ true
    → ((node : Node) (f : ℕ) (args : List TExpr) → e ≡ typed.Call node f args → ⊥) → ((node : Node) (format : List Piece) (args : List TExpr) → e ≡ typed.Printf node format args → ⊥) → ((node : Node) (a : TExpr) → e ≡ typed.Putchar node a → ⊥) → ((node : Node) (a : TExpr) → e ≡ typed.Puts node a → ⊥)
    → is_operation e ≡ true
an_operation e known not_Call not_Printf not_Putchar not_Puts = by_form (out-TExpr e) (roll-out-TExpr e) known
  where
    by_form : (x : TExpr-F TExpr) → roll-TExpr x ≡ e → has_operands_at x ≡ true → is_operation_at x ≡ true
    by_form (TExpr-F.Call node f args) is h = absurd (not_Call node f args (sym is ∙ typed.rolls-Call node f args))
    by_form (TExpr-F.Printf node format args) is h = absurd (not_Printf node format args (sym is ∙ typed.rolls-Printf node format args))
    by_form (TExpr-F.Putchar node a) is h = absurd (not_Putchar node a (sym is ∙ typed.rolls-Putchar node a))
    by_form (TExpr-F.Puts node a) is h = absurd (not_Puts node a (sym is ∙ typed.rolls-Puts node a))
    by_form (TExpr-F.Number node value) is h = h
    by_form (TExpr-F.Str node n bytes) is h = h
    by_form (TExpr-F.Object node n) is h = h
    by_form (TExpr-F.Variable node n) is h = h
    by_form (TExpr-F.Getchar node) is h = h
    by_form x is h = refl

-- an operation that is none of those on one operand has several
pub of_several : (e : TExpr) → is_operation e ≡ true
    → ((node : Node) (change : Change) (a : TExpr) → e ≡ typed.Post node change a → ⊥) → ((node : Node) (change : Change) (a : TExpr) → e ≡ typed.Pre node change a → ⊥) → ((node : Node) (a : TExpr) → e ≡ typed.Address node a → ⊥) → ((node : Node) (a : TExpr) → e ≡ typed.Deref node a → ⊥) → ((node : Node) (a : TExpr) → e ≡ typed.Plus node a → ⊥) → ((node : Node) (op : Un) (kind : Kind) (a : TExpr) → e ≡ typed.Unary node op kind a → ⊥) → ((node : Node) (a : TExpr) → e ≡ typed.Convert node a → ⊥) → ((node : Node) (a : TExpr) → e ≡ typed.Cast node a → ⊥)
    → has_several e ≡ true
of_several e known not_Post not_Pre not_Address not_Deref not_Plus not_Unary not_Convert not_Cast = by_form (out-TExpr e) (roll-out-TExpr e) known
  where
    by_form : (x : TExpr-F TExpr) → roll-TExpr x ≡ e → is_operation_at x ≡ true → has_several_at x ≡ true
    by_form (TExpr-F.Post node change a) is h = absurd (not_Post node change a (sym is ∙ typed.rolls-Post node change a))
    by_form (TExpr-F.Pre node change a) is h = absurd (not_Pre node change a (sym is ∙ typed.rolls-Pre node change a))
    by_form (TExpr-F.Address node a) is h = absurd (not_Address node a (sym is ∙ typed.rolls-Address node a))
    by_form (TExpr-F.Deref node a) is h = absurd (not_Deref node a (sym is ∙ typed.rolls-Deref node a))
    by_form (TExpr-F.Plus node a) is h = absurd (not_Plus node a (sym is ∙ typed.rolls-Plus node a))
    by_form (TExpr-F.Unary node op kind a) is h = absurd (not_Unary node op kind a (sym is ∙ typed.rolls-Unary node op kind a))
    by_form (TExpr-F.Convert node a) is h = absurd (not_Convert node a (sym is ∙ typed.rolls-Convert node a))
    by_form (TExpr-F.Cast node a) is h = absurd (not_Cast node a (sym is ∙ typed.rolls-Cast node a))
    by_form (TExpr-F.Number node value) is h = h
    by_form (TExpr-F.Str node n bytes) is h = h
    by_form (TExpr-F.Object node n) is h = h
    by_form (TExpr-F.Variable node n) is h = h
    by_form (TExpr-F.Getchar node) is h = h
    by_form (TExpr-F.Call node f args) is h = h
    by_form (TExpr-F.Printf node format args) is h = h
    by_form (TExpr-F.Putchar node a) is h = h
    by_form (TExpr-F.Puts node a) is h = h
    by_form x is h = refl

-- an operation on several operands that is none of the others computes with pointers
pub on_pointers : (e : TExpr) → has_several e ≡ true
    → ((node : Node) (a : TExpr) (b : TExpr) → e ≡ typed.Both node a b → ⊥) → ((node : Node) (a : TExpr) (b : TExpr) → e ≡ typed.Either node a b → ⊥) → ((node : Node) (a : TExpr) (b : TExpr) → e ≡ typed.Assign node a b → ⊥) → ((node : Node) (a : TExpr) (b : TExpr) → e ≡ typed.Comma node a b → ⊥) → ((node : Node) (op : Bin) (kind : Kind) (a : TExpr) (b : TExpr) → e ≡ typed.Binary node op kind a b → ⊥) → ((node : Node) (change : Change) (a : TExpr) (b : TExpr) → e ≡ typed.AssignBy node change a b → ⊥) → ((node : Node) (a : TExpr) (b : TExpr) (c : TExpr) → e ≡ typed.Cond node a b c → ⊥)
    → is_on_pointers e ≡ true
on_pointers e known not_Both not_Either not_Assign not_Comma not_Binary not_AssignBy not_Cond = by_form (out-TExpr e) (roll-out-TExpr e) known
  where
    by_form : (x : TExpr-F TExpr) → roll-TExpr x ≡ e → has_several_at x ≡ true → is_on_pointers_at x ≡ true
    by_form (TExpr-F.Both node a b) is h = absurd (not_Both node a b (sym is ∙ typed.rolls-Both node a b))
    by_form (TExpr-F.Either node a b) is h = absurd (not_Either node a b (sym is ∙ typed.rolls-Either node a b))
    by_form (TExpr-F.Assign node a b) is h = absurd (not_Assign node a b (sym is ∙ typed.rolls-Assign node a b))
    by_form (TExpr-F.Comma node a b) is h = absurd (not_Comma node a b (sym is ∙ typed.rolls-Comma node a b))
    by_form (TExpr-F.Binary node op kind a b) is h = absurd (not_Binary node op kind a b (sym is ∙ typed.rolls-Binary node op kind a b))
    by_form (TExpr-F.AssignBy node change a b) is h = absurd (not_AssignBy node change a b (sym is ∙ typed.rolls-AssignBy node change a b))
    by_form (TExpr-F.Cond node a b c) is h = absurd (not_Cond node a b c (sym is ∙ typed.rolls-Cond node a b c))
    by_form (TExpr-F.Index node a b) is h = refl
    by_form (TExpr-F.Forward node a b) is h = refl
    by_form (TExpr-F.Onto node a b) is h = refl
    by_form (TExpr-F.Back node a b) is h = refl
    by_form (TExpr-F.PtrCompare node op a b) is h = refl
    by_form (TExpr-F.PtrDistance node a b) is h = refl
    by_form x is h = h

-- no operation that computes with pointers is left
pub no_more : (e : TExpr) → is_on_pointers e ≡ true
    → ((node : Node) (a : TExpr) (b : TExpr) → e ≡ typed.Index node a b → ⊥) → ((node : Node) (a : TExpr) (b : TExpr) → e ≡ typed.Forward node a b → ⊥) → ((node : Node) (a : TExpr) (b : TExpr) → e ≡ typed.Onto node a b → ⊥) → ((node : Node) (a : TExpr) (b : TExpr) → e ≡ typed.Back node a b → ⊥) → ((node : Node) (op : Bin) (a : TExpr) (b : TExpr) → e ≡ typed.PtrCompare node op a b → ⊥) → ((node : Node) (a : TExpr) (b : TExpr) → e ≡ typed.PtrDistance node a b → ⊥)
    → ⊥
no_more e known not_Index not_Forward not_Onto not_Back not_PtrCompare not_PtrDistance = by_form (out-TExpr e) (roll-out-TExpr e) known
  where
    by_form : (x : TExpr-F TExpr) → roll-TExpr x ≡ e → is_on_pointers_at x ≡ true → ⊥
    by_form (TExpr-F.Index node a b) is h = absurd (not_Index node a b (sym is ∙ typed.rolls-Index node a b))
    by_form (TExpr-F.Forward node a b) is h = absurd (not_Forward node a b (sym is ∙ typed.rolls-Forward node a b))
    by_form (TExpr-F.Onto node a b) is h = absurd (not_Onto node a b (sym is ∙ typed.rolls-Onto node a b))
    by_form (TExpr-F.Back node a b) is h = absurd (not_Back node a b (sym is ∙ typed.rolls-Back node a b))
    by_form (TExpr-F.PtrCompare node op a b) is h = absurd (not_PtrCompare node op a b (sym is ∙ typed.rolls-PtrCompare node op a b))
    by_form (TExpr-F.PtrDistance node a b) is h = absurd (not_PtrDistance node a b (sym is ∙ typed.rolls-PtrDistance node a b))
    by_form x is h = cc h

-- what is none of the other statements is a selection or a loop
pub a_control : (e : TStmt)
    → ((spot : Spot) (value : TExpr) → e ≡ stmt.Expr spot value → ⊥) → ((spot : Spot) → e ≡ stmt.Empty spot → ⊥) → ((spot : Spot) (parts : List TStmt) → e ≡ stmt.Block spot parts → ⊥) → ((spot : Spot) → e ≡ stmt.Break spot → ⊥) → ((spot : Spot) → e ≡ stmt.Continue spot → ⊥) → ((spot : Spot) (value : Option TExpr) → e ≡ stmt.Return spot value → ⊥) → ((spot : Spot) (list : List TDeclarator) → e ≡ stmt.Declare spot list → ⊥)
    → selects_or_iterates e ≡ true
a_control e not_Expr not_Empty not_Block not_Break not_Continue not_Return not_Declare = by_form (out-TStmt e) (roll-out-TStmt e)
  where
    by_form : (x : TStmt-F TPart TStmt) → roll-TStmt x ≡ e → selects_or_iterates_at x ≡ true
    by_form (TStmt-F.Expr spot value) is = absurd (not_Expr spot value (sym is ∙ stmt.rolls-Expr spot value))
    by_form (TStmt-F.Empty spot) is = absurd (not_Empty spot (sym is ∙ stmt.rolls-Empty spot))
    by_form (TStmt-F.Block spot parts) is = absurd (not_Block spot parts (sym is ∙ stmt.rolls-Block spot parts))
    by_form (TStmt-F.Break spot) is = absurd (not_Break spot (sym is ∙ stmt.rolls-Break spot))
    by_form (TStmt-F.Continue spot) is = absurd (not_Continue spot (sym is ∙ stmt.rolls-Continue spot))
    by_form (TStmt-F.Return spot value) is = absurd (not_Return spot value (sym is ∙ stmt.rolls-Return spot value))
    by_form (TStmt-F.Declare spot list) is = absurd (not_Declare spot list (sym is ∙ stmt.rolls-Declare spot list))
    by_form x is = refl

-- what is no selection is a loop
pub a_loop : (e : TStmt) → selects_or_iterates e ≡ true
    → ((spot : Spot) (test : TExpr) (a : TStmt) (b : Option TStmt) → e ≡ stmt.If spot test a b → ⊥) → ((spot : Spot) (kind : Kind) (on : TExpr) (parts : List TPart) → e ≡ stmt.Switch spot kind on parts → ⊥)
    → iterates e ≡ true
a_loop e known not_If not_Switch = by_form (out-TStmt e) (roll-out-TStmt e) known
  where
    by_form : (x : TStmt-F TPart TStmt) → roll-TStmt x ≡ e → selects_or_iterates_at x ≡ true → iterates_at x ≡ true
    by_form (TStmt-F.If spot test a b) is h = absurd (not_If spot test a b (sym is ∙ stmt.rolls-If spot test a b))
    by_form (TStmt-F.Switch spot kind on parts) is h = absurd (not_Switch spot kind on parts (sym is ∙ stmt.rolls-Switch spot kind on parts))
    by_form (TStmt-F.While spot turns test body) is h = refl
    by_form (TStmt-F.DoWhile spot turns body test) is h = refl
    by_form (TStmt-F.For spot turns start test step body) is h = refl
    by_form x is h = h

-- no loop is left
pub no_loop : (e : TStmt) → iterates e ≡ true
    → ((spot : Spot) (turns : ℕ) (test : TExpr) (body : TStmt) → e ≡ stmt.While spot turns test body → ⊥) → ((spot : Spot) (turns : ℕ) (body : TStmt) (test : TExpr) → e ≡ stmt.DoWhile spot turns body test → ⊥) → ((spot : Spot) (turns : ℕ) (start : TFirst) (test : Option TExpr) (step : Option TExpr) (body : TStmt) → e ≡ stmt.For spot turns start test step body → ⊥)
    → ⊥
no_loop e known not_While not_DoWhile not_For = by_form (out-TStmt e) (roll-out-TStmt e) known
  where
    by_form : (x : TStmt-F TPart TStmt) → roll-TStmt x ≡ e → iterates_at x ≡ true → ⊥
    by_form (TStmt-F.While spot turns test body) is h = absurd (not_While spot turns test body (sym is ∙ stmt.rolls-While spot turns test body))
    by_form (TStmt-F.DoWhile spot turns body test) is h = absurd (not_DoWhile spot turns body test (sym is ∙ stmt.rolls-DoWhile spot turns body test))
    by_form (TStmt-F.For spot turns start test step body) is h = absurd (not_For spot turns start test step body (sym is ∙ stmt.rolls-For spot turns start test step body))
    by_form x is h = cc h
