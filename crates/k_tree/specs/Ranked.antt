-- Believed with the theorem on the top call.
-- Ranked trees: those that the grammar gives (C17 6.5 to 6.9). `Ranked k e` says that e has one of the forms
-- of C17 6.5 at rank k or a higher one. The ranks go from 0, the comma, to 16, what needs no parentheses.
use Rattle.std.specs.Prelude.{ℕ, ◌≡◌, ◌≢◌, ◌+◌, ◌≤◌, Bool, true, false, IsTrue, List, [], ◌∷◌, Option, Some, None, All}
use Rattle.k_num.specs.declared.numbers.Kind.{Kind}
use Rattle.std.specs.Prelude.{ℤ}
use Rattle.k_num.specs.declared.place.Place.{Place}
use Rattle.k_tree.specs.declared.tokens.mark.Mark.{Mark}
use Rattle.k_tree.specs.declared.tokens.mark.Mark.TheVariants as mark
use Rattle.k_tree.specs.declared.tokens.word.Word.{Word}
use Rattle.k_tree.specs.declared.tokens.word.Word.TheVariants as word
use Rattle.k_tree.specs.declared.tree.expression.Expr.{Expr}
use Rattle.k_tree.specs.declared.tree.expression.Expr.TheVariants as expr
use Rattle.k_tree.specs.declared.tree.declaration.Init.{Init}
use Rattle.k_tree.specs.declared.tree.declaration.Init.TheVariants as init
use Rattle.k_tree.specs.declared.tree.declaration.Declarator.{Declarator}
use Rattle.k_tree.specs.declared.tree.declaration.Param.{Param}
use Rattle.k_tree.specs.declared.tree.declaration.Params.{Params}
use Rattle.k_tree.specs.declared.tree.declaration.Params.TheVariants as params
use Rattle.k_tree.specs.declared.tree.statement.First.{First}
use Rattle.k_tree.specs.declared.tree.statement.First.TheVariants as first
use Rattle.k_tree.specs.declared.tree.statement.Stmt.{Stmt, fold-Stmt}
use Rattle.k_tree.specs.declared.tree.statement.Part.TheOpen.{Part-F, Stmt-F}
use Rattle.k_tree.specs.declared.tree.statement.Stmt.TheVariants as stmt
use Rattle.k_tree.specs.declared.tree.statement.Part.{Part}
use Rattle.k_tree.specs.declared.tree.statement.Part.TheVariants as part
use Rattle.k_tree.specs.declared.tree.unit.Head.{Head}
use Rattle.k_tree.specs.declared.tree.unit.Item.{Item}
use Rattle.k_tree.specs.declared.tree.unit.Item.TheVariants as item
use Rattle.k_tree.specs.declared.tree.unit.Unit as source

-- C17 6.7.2 to 6.7.3, 6.7.1: the keywords of a type, `const` and `static`
abbrev pub is_spec : Word → Bool
is_spec word.Void = true
is_spec word.Char = true
is_spec word.Short = true
is_spec word.Int = true
is_spec word.Long = true
is_spec word.Signed = true
is_spec word.Unsigned = true
is_spec word.Const = true
is_spec word.Static = true
is_spec _ = false

-- C17 6.7: at least one specifier
abbrev pub Specs : List Word → Type 0
Specs specs = (specs ≢ []) × All (λ w. IsTrue (is_spec w)) specs

-- C17 6.5.2.4, 6.5.3.1: `++` and `--`, before an operand or behind one
abbrev pub is_step : Mark → Bool
is_step mark.PlusPlus = true
is_step mark.MinusMinus = true
is_step _ = false

-- C17 6.5.3: the operators before an operand
abbrev pub is_unary : Mark → Bool
is_unary mark.Ampersand = true
is_unary mark.Star = true
is_unary mark.Plus = true
is_unary mark.Minus = true
is_unary mark.Tilde = true
is_unary mark.Exclaim = true
is_unary _ = false

-- C17 6.5.5 to 6.5.14: the rank of a binary operator
abbrev pub binary_rank : Mark → Option ℕ
binary_rank mark.BarBar = Some 3
binary_rank mark.AmpersandAmpersand = Some 4
binary_rank mark.Bar = Some 5
binary_rank mark.Caret = Some 6
binary_rank mark.Ampersand = Some 7
binary_rank mark.EqualEqual = Some 8
binary_rank mark.ExclaimEqual = Some 8
binary_rank mark.Less = Some 9
binary_rank mark.Greater = Some 9
binary_rank mark.LessEqual = Some 9
binary_rank mark.GreaterEqual = Some 9
binary_rank mark.ShiftLeft = Some 10
binary_rank mark.ShiftRight = Some 10
binary_rank mark.Plus = Some 11
binary_rank mark.Minus = Some 11
binary_rank mark.Star = Some 12
binary_rank mark.Slash = Some 12
binary_rank mark.Percent = Some 12
binary_rank _ = None

-- C17 6.5.16: the operators of assignment
abbrev pub is_assignment : Mark → Bool
is_assignment mark.Equal = true
is_assignment mark.StarEqual = true
is_assignment mark.SlashEqual = true
is_assignment mark.PercentEqual = true
is_assignment mark.PlusEqual = true
is_assignment mark.MinusEqual = true
is_assignment mark.ShiftLeftEqual = true
is_assignment mark.ShiftRightEqual = true
is_assignment mark.AmpersandEqual = true
is_assignment mark.CaretEqual = true
is_assignment mark.BarEqual = true
is_assignment _ = false

mutual
  -- C17 6.5: an expression that the grammar gives, of rank k or above
  pub data Ranked : ℕ → Expr → Type 0 where
    comma : (k : ℕ) (p : Place) (a b : Expr) → k ≤ 0 → Ranked 0 a → Ranked 1 b → Ranked k (expr.Comma p a b)
    assignment : (k : ℕ) (p : Place) (op : Mark) (a b : Expr) → k ≤ 1 → IsTrue (is_assignment op)
        → Ranked 14 a → Ranked 1 b → Ranked k (expr.Assign p op a b)
    conditional : (k : ℕ) (p : Place) (a b c : Expr) → k ≤ 2
        → Ranked 3 a → Ranked 0 b → Ranked 2 c → Ranked k (expr.Cond p a b c)
    binary : (k : ℕ) (p : Place) (op : Mark) (n : ℕ) (a b : Expr) → k ≤ n → binary_rank op ≡ Some n
        → Ranked n a → Ranked (n + 1) b → Ranked k (expr.Binary p op a b)
    cast : (k : ℕ) (p : Place) (specs : List Word) (stars : List Bool) (a : Expr) → k ≤ 13 → Specs specs
        → Ranked 13 a → Ranked k (expr.Cast p specs stars a)
    unary : (k : ℕ) (p : Place) (op : Mark) (a : Expr) → k ≤ 14 → IsTrue (is_unary op)
        → Ranked 13 a → Ranked k (expr.Unary p op a)
    prefix : (k : ℕ) (p : Place) (op : Mark) (a : Expr) → k ≤ 14 → IsTrue (is_step op)
        → Ranked 14 a → Ranked k (expr.Pre p op a)
    sizeof_expr : (k : ℕ) (p : Place) (a : Expr) → k ≤ 14 → Ranked 14 a → Ranked k (expr.SizeofExpr p a)
    sizeof_type : (k : ℕ) (p : Place) (specs : List Word) (stars : List Bool) → k ≤ 14 → Specs specs
        → Ranked k (expr.SizeofType p specs stars)
    index : (k : ℕ) (p : Place) (a b : Expr) → k ≤ 15 → Ranked 15 a → Ranked 0 b → Ranked k (expr.Index p a b)
    postfix : (k : ℕ) (p : Place) (op : Mark) (a : Expr) → k ≤ 15 → IsTrue (is_step op)
        → Ranked 15 a → Ranked k (expr.Post p op a)
    call : (k : ℕ) (p : Place) (f : List ℕ) (args : List Expr) → k ≤ 15 → RankedArgs args → Ranked k (expr.Call p f args)
    name : (k : ℕ) (p : Place) (x : List ℕ) → k ≤ 16 → Ranked k (expr.Name p x)
    number : (k : ℕ) (p : Place) (kind : Kind) (n : ℕ) → k ≤ 16 → Ranked k (expr.Number p kind n)
    character : (k : ℕ) (p : Place) (z : ℤ) → k ≤ 16 → Ranked k (expr.Char p z)
    string : (k : ℕ) (p : Place) (bytes : List ℕ) → k ≤ 16 → Ranked k (expr.Str p bytes)
    paren : (k : ℕ) (p : Place) (a : Expr) → k ≤ 16 → Ranked 0 a → Ranked k (expr.Paren p a)

  -- C17 6.5.2: arguments, each of rank 1 or above
  pub data RankedArgs : List Expr → Type 0 where
    no_args : RankedArgs []
    more_args : (a : Expr) (args : List Expr) → Ranked 1 a → RankedArgs args → RankedArgs (a ∷ args)

-- a part that may be left out, and is of that kind where it is there
abbrev pub IfGiven : {A : Type 0} → (A → Type 0) → Option A → Type 0
IfGiven P None = Unit {0}
IfGiven P (Some x) = P x

-- C17 6.7.6.2: a size is a conditional expression
abbrev pub RankedDims : List (Option Expr) → Type 0
RankedDims dims = All (IfGiven (Ranked 2)) dims

mutual
  -- C17 6.7.9: an assignment expression, or one or more initialisers in braces
  pub data RankedInit : Init → Type 0 where
    one : (p : Place) (a : Expr) → Ranked 1 a → RankedInit (init.One p a)
    braces : (p : Place) (x : Init) (xs : List Init) (last : Bool)
        → RankedInit x → RankedInits xs → RankedInit (init.List p (x ∷ xs) last)

  -- C17 6.7.9: initialisers, each one that the grammar gives
  pub data RankedInits : List Init → Type 0 where
    no_inits : RankedInits []
    more_inits : (x : Init) (xs : List Init) → RankedInit x → RankedInits xs → RankedInits (x ∷ xs)

-- C17 6.7.6: a declarator whose sizes and initialiser are ones that the grammar gives
abbrev pub RankedDeclarator : Declarator → Type 0
RankedDeclarator d = RankedDims d.dims × IfGiven RankedInit d.init

-- C17 6.7: specifiers, and at least one declarator
abbrev pub RankedDeclaration : List Word → List Declarator → Type 0
RankedDeclaration specs list = Specs specs × (list ≢ []) × All RankedDeclarator list

-- C17 6.7.6.3: a parameter, with specifiers and with sizes that the grammar gives
abbrev pub RankedParam : Param → Type 0
RankedParam p = Specs p.specs × RankedDims p.dims

-- C17 6.7.6.3p10: `void` alone, which is the empty list
abbrev pub IsVoidAlone : Param → Type 0
IsVoidAlone p = (p.specs ≡ word.Void ∷ []) × (p.stars ≡ []) × (p.name ≡ None) × (p.dims ≡ [])

-- C17 6.7.6.3: nothing, `void` alone, or parameters that are not `void` alone
abbrev pub RankedParams : Params → Type 0
RankedParams params.Empty = Unit {0}
RankedParams params.Void = Unit {0}
RankedParams (params.List []) = ⊥
RankedParams (params.List (p ∷ [])) = RankedParam p × (IsVoidAlone p → ⊥)
RankedParams (params.List (p ∷ (q ∷ list))) = All RankedParam (p ∷ (q ∷ list))

-- C17 6.7.6.3, 6.9.1: the head of a function, with specifiers and parameters that the grammar gives
abbrev pub RankedHead : Head → Type 0
RankedHead h = Specs h.specs × RankedParams h.params

-- C17 6.8.5.3: the first part of a `for`: nothing, an expression or a declaration
abbrev pub RankedFirst : First → Type 0
RankedFirst first.Nothing = Unit {0}
RankedFirst (first.Value value) = Ranked 0 value
RankedFirst (first.Declare specs list) = RankedDeclaration specs list

-- C17 6.8.4.1p3: does this form end in an `if` that takes an `else` behind it, where it is known of its statements?
abbrev pub ends_open_step : Stmt-F (Unit {0}) Bool → Bool
ends_open_step (Stmt-F.If place test chosen None) = true
ends_open_step (Stmt-F.If place test chosen (Some other)) = other
ends_open_step (Stmt-F.While place test body) = body
ends_open_step (Stmt-F.For place start test step body) = body
ends_open_step _ = false

-- C17 6.8.4.2: a part of a `switch` stands in braces, behind which no `if` goes on
abbrev pub ends_open_part : Part-F (Unit {0}) Bool → Unit {0}
ends_open_part _ = tt

-- C17 6.8.4.1p3: does a statement end in an `if` that an `else` behind it would belong to?
abbrev pub ends_open : Stmt → Bool
ends_open = fold-Stmt (Unit {0}) Bool ends_open_part ends_open_step

mutual
  -- C17 6.8: a statement that the grammar gives
  pub data RankedStmt : Stmt → Type 0 where
    value : (p : Place) (a : Expr) → Ranked 0 a → RankedStmt (stmt.Expr p a)
    empty : (p : Place) → RankedStmt (stmt.Empty p)
    block : (p : Place) (parts : List Stmt) → RankedParts parts → RankedStmt (stmt.Block p parts)
    if_alone : (p : Place) (a : Expr) (s : Stmt) → Ranked 0 a → RankedStmt s → RankedStmt (stmt.If p a s None)
    if_else : (p : Place) (a : Expr) (s t : Stmt) → Ranked 0 a → RankedStmt s → ends_open s ≡ false
        → RankedStmt t → RankedStmt (stmt.If p a s (Some t))
    while_loop : (p : Place) (a : Expr) (s : Stmt) → Ranked 0 a → RankedStmt s → RankedStmt (stmt.While p a s)
    do_loop : (p : Place) (s : Stmt) (a : Expr) → RankedStmt s → Ranked 0 a → RankedStmt (stmt.DoWhile p s a)
    for_loop : (p : Place) (start : First) (a b : Option Expr) (s : Stmt) → RankedFirst start
        → IfGiven (Ranked 0) a → IfGiven (Ranked 0) b → RankedStmt s → RankedStmt (stmt.For p start a b s)
    switch_stmt : (p : Place) (a : Expr) (parts : List Part) → Ranked 0 a → RankedSwitch parts → RankedStmt (stmt.Switch p a parts)
    break_loop : (p : Place) → RankedStmt (stmt.Break p)
    continue_loop : (p : Place) → RankedStmt (stmt.Continue p)
    return_value : (p : Place) (a : Option Expr) → IfGiven (Ranked 0) a → RankedStmt (stmt.Return p a)

  -- C17 6.8.2: the statements and declarations of a block
  pub data RankedParts : List Stmt → Type 0 where
    no_parts : RankedParts []
    statement : (s : Stmt) (parts : List Stmt) → RankedStmt s → RankedParts parts → RankedParts (s ∷ parts)
    declaration : (p : Place) (specs : List Word) (list : List Declarator) (parts : List Stmt)
        → RankedDeclaration specs list → RankedParts parts → RankedParts (stmt.Declare p specs list ∷ parts)

  -- C17 6.8.1, 6.8.4.2: what stands in the braces of a `switch`: labels, whose values are conditional expressions, and statements
  pub data RankedSwitch : List Part → Type 0 where
    no_labels : RankedSwitch []
    case_label : (p : Place) (a : Expr) (parts : List Part) → Ranked 2 a → RankedSwitch parts → RankedSwitch (part.Case p a ∷ parts)
    default_label : (p : Place) (parts : List Part) → RankedSwitch parts → RankedSwitch (part.Default p ∷ parts)
    does : (p : Place) (s : Stmt) (parts : List Part) → RankedStmt s → RankedSwitch parts → RankedSwitch (part.Does p s ∷ parts)

-- C17 6.9: a function, a prototype or a declaration that the grammar gives
abbrev pub RankedItem : Item → Type 0
RankedItem (item.Function place head body close) = RankedHead head × RankedParts body
RankedItem (item.Prototype place head) = RankedHead head
RankedItem (item.Objects place specs list) = RankedDeclaration specs list

-- C17 6.9: each item is one that the grammar gives
abbrev pub RankedUnit : source.Unit → Type 0
RankedUnit unit = All RankedItem unit.items
