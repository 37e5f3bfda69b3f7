-- An expression is given back by itself without numbers and by its numbers.
use Rattle.std.proofs.Common.{ℕ, ℤ, ◌≡◌, List, [], ◌∷◌, ◌++◌, map, Option, Some, None, append_assoc, refl, sym, subst}
use Rattle.k_num.specs.declared.numbers.Bin.{Bin}
use Rattle.k_num.specs.declared.numbers.Kind.{Kind}
use Rattle.k_num.specs.declared.numbers.Un.{Un}
use Rattle.k_types_meaning.specs.declared.tree.declaration.TDeclarator.{TDeclarator}
use Rattle.k_types_meaning.specs.declared.tree.declaration.TInit.{TInit}
use Rattle.k_types_meaning.specs.declared.tree.declaration.TInit.TheVariants as begins
use Rattle.k_types_meaning.specs.declared.tree.declaration.TItem.{TItem}
use Rattle.k_types_meaning.specs.declared.tree.declaration.TItem.TheVariants as item
use Rattle.k_types_meaning.specs.declared.tree.expression.Change.{Change}
use Rattle.k_types_meaning.specs.declared.tree.expression.Node.{Node}
use Rattle.k_types_meaning.specs.declared.tree.expression.Piece.{Piece}
use Rattle.k_types_meaning.specs.declared.tree.expression.TExpr.{TExpr, roll-TExpr, ind-TExpr, map-TExpr}
use Rattle.k_types_meaning.specs.declared.tree.expression.TExpr.TheOpen.{TExpr-F}
use Rattle.k_types_meaning.specs.declared.tree.expression.TExpr.TheVariants as typed
use Rattle.k_types_meaning.specs.declared.tree.statement.TFirst.{TFirst}
use Rattle.k_types_meaning.specs.declared.tree.statement.TFirst.TheVariants as first
use Rattle.k_types_meaning.specs.Bare.{bare_expr, bare_option, bare_item, bare_init, bare_declared, bare_first}
use Rattle.k_types_meaning.proofs.Folds.{typed_Number, typed_Str, typed_Object, typed_Variable, typed_Index, typed_Call, typed_Getchar, typed_Putchar, typed_Puts, typed_Printf, typed_Post, typed_Pre, typed_Address, typed_Deref, typed_Plus, typed_Unary, typed_Convert, typed_Cast, typed_Binary, typed_Both, typed_Either, typed_Forward, typed_Onto, typed_Back, typed_PtrCompare, typed_PtrDistance, typed_Cond, typed_Assign, typed_AssignBy, typed_Comma}
use Rattle.k_types_meaning.specs.Numbered.{listed, expr_numbers, option_numbers, item_numbers, init_numbers, declared_numbers, first_numbers}
use Rattle.k_types_meaning.proofs.Filled.{Fills, list_filled}
use Rattle.k_types_meaning.proofs.Filling.{fill_list, fill_expr, fill_option, fill_item, fill_init, fill_declarator, fill_declared, fill_first}

-- an expression is given back
abbrev Filled : TExpr → Type 0
Filled e = Fills (expr_numbers e) (fill_expr (bare_expr e)).from e

-- expressions are given back
abbrev AllFilled : List TExpr → Type 0
AllFilled es = Fills (listed (map expr_numbers es)) (fill_list (map fill_expr (map bare_expr es))) es

-- a number
filled_Number : (node : Node) (value : ℤ) → Filled (typed.Number node value)
filled_Number node value ns ss ls = simp (typed_Number)

-- a string
filled_Str : (node : Node) (n : ℕ) (bytes : List ℕ) → Filled (typed.Str node n bytes)
filled_Str node n bytes ns ss ls = simp (typed_Str)

-- a file object
filled_Object : (node : Node) (n : ℕ) → Filled (typed.Object node n)
filled_Object node n ns ss ls = simp (typed_Object)

-- a variable
filled_Variable : (node : Node) (n : ℕ) → Filled (typed.Variable node n)
filled_Variable node n ns ss ls = simp (typed_Variable)

-- an index
filled_Index : (node : Node) (a b : TExpr) → Filled a → Filled b → Filled (typed.Index node a b)
filled_Index node a b ha hb ns ss ls = simp (typed_Index, append_assoc, ha, hb)

-- a call
filled_Call : (node : Node) (f : ℕ) (args : List TExpr) → AllFilled args → Filled (typed.Call node f args)
filled_Call node f args hargs ns ss ls = simp (typed_Call, hargs)

-- `getchar()`
filled_Getchar : (node : Node) → Filled (typed.Getchar node)
filled_Getchar node ns ss ls = simp (typed_Getchar)

-- `putchar`
filled_Putchar : (node : Node) (a : TExpr) → Filled a → Filled (typed.Putchar node a)
filled_Putchar node a ha ns ss ls = simp (typed_Putchar, ha)

-- `puts`
filled_Puts : (node : Node) (a : TExpr) → Filled a → Filled (typed.Puts node a)
filled_Puts node a ha ns ss ls = simp (typed_Puts, ha)

-- `printf`
filled_Printf : (node : Node) (format : List Piece) (args : List TExpr) → AllFilled args → Filled (typed.Printf node format args)
filled_Printf node format args hargs ns ss ls = simp (typed_Printf, hargs)

-- `++` or `--` behind its operand
filled_Post : (node : Node) (change : Change) (a : TExpr) → Filled a → Filled (typed.Post node change a)
filled_Post node change a ha ns ss ls = simp (typed_Post, ha)

-- `++` or `--` before its operand
filled_Pre : (node : Node) (change : Change) (a : TExpr) → Filled a → Filled (typed.Pre node change a)
filled_Pre node change a ha ns ss ls = simp (typed_Pre, ha)

-- an address
filled_Address : (node : Node) (a : TExpr) → Filled a → Filled (typed.Address node a)
filled_Address node a ha ns ss ls = simp (typed_Address, ha)

-- an indirection
filled_Deref : (node : Node) (a : TExpr) → Filled a → Filled (typed.Deref node a)
filled_Deref node a ha ns ss ls = simp (typed_Deref, ha)

-- a unary plus
filled_Plus : (node : Node) (a : TExpr) → Filled a → Filled (typed.Plus node a)
filled_Plus node a ha ns ss ls = simp (typed_Plus, ha)

-- a unary operator
filled_Unary : (node : Node) (op : Un) (kind : Kind) (a : TExpr) → Filled a → Filled (typed.Unary node op kind a)
filled_Unary node op kind a ha ns ss ls = simp (typed_Unary, ha)

-- a conversion
filled_Convert : (node : Node) (a : TExpr) → Filled a → Filled (typed.Convert node a)
filled_Convert node a ha ns ss ls = simp (typed_Convert, ha)

-- a cast
filled_Cast : (node : Node) (a : TExpr) → Filled a → Filled (typed.Cast node a)
filled_Cast node a ha ns ss ls = simp (typed_Cast, ha)

-- a binary operator
filled_Binary : (node : Node) (op : Bin) (kind : Kind) (a b : TExpr) → Filled a → Filled b → Filled (typed.Binary node op kind a b)
filled_Binary node op kind a b ha hb ns ss ls = simp (typed_Binary, append_assoc, ha, hb)

-- `&&`
filled_Both : (node : Node) (a b : TExpr) → Filled a → Filled b → Filled (typed.Both node a b)
filled_Both node a b ha hb ns ss ls = simp (typed_Both, append_assoc, ha, hb)

-- `||`
filled_Either : (node : Node) (a b : TExpr) → Filled a → Filled b → Filled (typed.Either node a b)
filled_Either node a b ha hb ns ss ls = simp (typed_Either, append_assoc, ha, hb)

-- a pointer plus a number
filled_Forward : (node : Node) (a b : TExpr) → Filled a → Filled b → Filled (typed.Forward node a b)
filled_Forward node a b ha hb ns ss ls = simp (typed_Forward, append_assoc, ha, hb)

-- a number plus a pointer
filled_Onto : (node : Node) (a b : TExpr) → Filled a → Filled b → Filled (typed.Onto node a b)
filled_Onto node a b ha hb ns ss ls = simp (typed_Onto, append_assoc, ha, hb)

-- a pointer less a number
filled_Back : (node : Node) (a b : TExpr) → Filled a → Filled b → Filled (typed.Back node a b)
filled_Back node a b ha hb ns ss ls = simp (typed_Back, append_assoc, ha, hb)

-- a comparison of pointers
filled_PtrCompare : (node : Node) (op : Bin) (a b : TExpr) → Filled a → Filled b → Filled (typed.PtrCompare node op a b)
filled_PtrCompare node op a b ha hb ns ss ls = simp (typed_PtrCompare, append_assoc, ha, hb)

-- a difference of pointers
filled_PtrDistance : (node : Node) (a b : TExpr) → Filled a → Filled b → Filled (typed.PtrDistance node a b)
filled_PtrDistance node a b ha hb ns ss ls = simp (typed_PtrDistance, append_assoc, ha, hb)

-- a conditional expression
filled_Cond : (node : Node) (a b c : TExpr) → Filled a → Filled b → Filled c → Filled (typed.Cond node a b c)
filled_Cond node a b c ha hb hc ns ss ls = simp (typed_Cond, append_assoc, ha, hb, hc)

-- an assignment
filled_Assign : (node : Node) (a b : TExpr) → Filled a → Filled b → Filled (typed.Assign node a b)
filled_Assign node a b ha hb ns ss ls = simp (typed_Assign, append_assoc, ha, hb)

-- a compound assignment
filled_AssignBy : (node : Node) (change : Change) (a b : TExpr) → Filled a → Filled b → Filled (typed.AssignBy node change a b)
filled_AssignBy node change a b ha hb ns ss ls = simp (typed_AssignBy, append_assoc, ha, hb)

-- a comma
filled_Comma : (node : Node) (a b : TExpr) → Filled a → Filled b → Filled (typed.Comma node a b)
filled_Comma node a b ha hb ns ss ls = simp (typed_Comma, append_assoc, ha, hb)

-- expressions, of each of which it is known
all_filled : (xs : List ((e : TExpr) × Filled e)) → AllFilled (map (λ (x : (e : TExpr) × Filled e). x.0) xs)
all_filled [] ns ss ls = refl
all_filled (x ∷ xs) ns ss ls = simp (append_assoc, x.1, all_filled xs)

-- an expression is given back where its operands are
filled_by : (y : TExpr-F ((e : TExpr) × Filled e)) → Filled (roll-TExpr (map-TExpr _ TExpr (λ (e : (e : TExpr) × Filled e). e.0) y))
filled_by (TExpr-F.Number node value) = subst Filled (sym (typed.rolls-Number node value)) (filled_Number node value)
filled_by (TExpr-F.Str node n bytes) = subst Filled (sym (typed.rolls-Str node n bytes)) (filled_Str node n bytes)
filled_by (TExpr-F.Object node n) = subst Filled (sym (typed.rolls-Object node n)) (filled_Object node n)
filled_by (TExpr-F.Variable node n) = subst Filled (sym (typed.rolls-Variable node n)) (filled_Variable node n)
filled_by (TExpr-F.Index node a b) = subst Filled (sym (typed.rolls-Index node a.0 b.0)) (filled_Index node a.0 b.0 a.1 b.1)
filled_by (TExpr-F.Call node f args) = subst Filled (sym (typed.rolls-Call node f (map (λ (x : (e : TExpr) × Filled e). x.0) args))) (filled_Call node f (map (λ (x : (e : TExpr) × Filled e). x.0) args) (all_filled args))
filled_by (TExpr-F.Getchar node) = subst Filled (sym (typed.rolls-Getchar node)) (filled_Getchar node)
filled_by (TExpr-F.Putchar node a) = subst Filled (sym (typed.rolls-Putchar node a.0)) (filled_Putchar node a.0 a.1)
filled_by (TExpr-F.Puts node a) = subst Filled (sym (typed.rolls-Puts node a.0)) (filled_Puts node a.0 a.1)
filled_by (TExpr-F.Printf node format args) = subst Filled (sym (typed.rolls-Printf node format (map (λ (x : (e : TExpr) × Filled e). x.0) args))) (filled_Printf node format (map (λ (x : (e : TExpr) × Filled e). x.0) args) (all_filled args))
filled_by (TExpr-F.Post node change a) = subst Filled (sym (typed.rolls-Post node change a.0)) (filled_Post node change a.0 a.1)
filled_by (TExpr-F.Pre node change a) = subst Filled (sym (typed.rolls-Pre node change a.0)) (filled_Pre node change a.0 a.1)
filled_by (TExpr-F.Address node a) = subst Filled (sym (typed.rolls-Address node a.0)) (filled_Address node a.0 a.1)
filled_by (TExpr-F.Deref node a) = subst Filled (sym (typed.rolls-Deref node a.0)) (filled_Deref node a.0 a.1)
filled_by (TExpr-F.Plus node a) = subst Filled (sym (typed.rolls-Plus node a.0)) (filled_Plus node a.0 a.1)
filled_by (TExpr-F.Unary node op kind a) = subst Filled (sym (typed.rolls-Unary node op kind a.0)) (filled_Unary node op kind a.0 a.1)
filled_by (TExpr-F.Convert node a) = subst Filled (sym (typed.rolls-Convert node a.0)) (filled_Convert node a.0 a.1)
filled_by (TExpr-F.Cast node a) = subst Filled (sym (typed.rolls-Cast node a.0)) (filled_Cast node a.0 a.1)
filled_by (TExpr-F.Binary node op kind a b) = subst Filled (sym (typed.rolls-Binary node op kind a.0 b.0)) (filled_Binary node op kind a.0 b.0 a.1 b.1)
filled_by (TExpr-F.Both node a b) = subst Filled (sym (typed.rolls-Both node a.0 b.0)) (filled_Both node a.0 b.0 a.1 b.1)
filled_by (TExpr-F.Either node a b) = subst Filled (sym (typed.rolls-Either node a.0 b.0)) (filled_Either node a.0 b.0 a.1 b.1)
filled_by (TExpr-F.Forward node a b) = subst Filled (sym (typed.rolls-Forward node a.0 b.0)) (filled_Forward node a.0 b.0 a.1 b.1)
filled_by (TExpr-F.Onto node a b) = subst Filled (sym (typed.rolls-Onto node a.0 b.0)) (filled_Onto node a.0 b.0 a.1 b.1)
filled_by (TExpr-F.Back node a b) = subst Filled (sym (typed.rolls-Back node a.0 b.0)) (filled_Back node a.0 b.0 a.1 b.1)
filled_by (TExpr-F.PtrCompare node op a b) = subst Filled (sym (typed.rolls-PtrCompare node op a.0 b.0)) (filled_PtrCompare node op a.0 b.0 a.1 b.1)
filled_by (TExpr-F.PtrDistance node a b) = subst Filled (sym (typed.rolls-PtrDistance node a.0 b.0)) (filled_PtrDistance node a.0 b.0 a.1 b.1)
filled_by (TExpr-F.Cond node a b c) = subst Filled (sym (typed.rolls-Cond node a.0 b.0 c.0)) (filled_Cond node a.0 b.0 c.0 a.1 b.1 c.1)
filled_by (TExpr-F.Assign node a b) = subst Filled (sym (typed.rolls-Assign node a.0 b.0)) (filled_Assign node a.0 b.0 a.1 b.1)
filled_by (TExpr-F.AssignBy node change a b) = subst Filled (sym (typed.rolls-AssignBy node change a.0 b.0)) (filled_AssignBy node change a.0 b.0 a.1 b.1)
filled_by (TExpr-F.Comma node a b) = subst Filled (sym (typed.rolls-Comma node a.0 b.0)) (filled_Comma node a.0 b.0 a.1 b.1)

-- an expression is given back
pub expr_filled : (e : TExpr) → Filled e
expr_filled = ind-TExpr Filled (λ x y is. subst (λ (z : TExpr-F TExpr). Filled (roll-TExpr z)) is (filled_by y))

-- an expression that may be left out
pub option_filled : (e : Option TExpr) → Fills (option_numbers e) (fill_option (bare_option e)) e
option_filled None ns ss ls = refl
option_filled (Some e) ns ss ls = simp (expr_filled e)

-- an item of braces
item_filled : (i : TItem) → Fills (item_numbers i) (fill_item (bare_item i)).from i
item_filled (item.Bytes n bytes) ns ss ls = refl
item_filled (item.Value p n e) ns ss ls = simp (expr_filled e)

-- an initialiser
init_filled : (i : TInit) → Fills (init_numbers i) (fill_init (bare_init i)) i
init_filled begins.Nothing ns ss ls = refl
init_filled (begins.Value e) ns ss ls = simp (expr_filled e)
init_filled (begins.Elements items) ns ss ls = simp (list_filled bare_item item_numbers fill_item item_filled items)

-- a declared variable
declarator_filled : (d : TDeclarator) → Fills (init_numbers d.init) (fill_declarator (record d { init = bare_init d.init })).from d
declarator_filled d ns ss ls = simp (init_filled d.init)

-- declared variables
pub declared_filled : (list : List TDeclarator) → Fills (declared_numbers list) (fill_declared (bare_declared list)) list
declared_filled list =
    list_filled (λ (d : TDeclarator). record d { init = bare_init d.init }) (λ (d : TDeclarator). init_numbers d.init) fill_declarator declarator_filled list

-- the first part of a `for`
pub first_filled : (f : TFirst) → Fills (first_numbers f) (fill_first (bare_first f)) f
first_filled first.Nothing ns ss ls = refl
first_filled (first.Value e) ns ss ls = simp (expr_filled e)
first_filled (first.Declare list) ns ss ls = simp (declared_filled list)
