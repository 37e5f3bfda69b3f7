-- The form of each typed expression.
use Rattle.std.proofs.Common.{◌≡◌, ℕ, ℤ, List, sym, ◌∙◌, ap}
use Rattle.k_num.specs.declared.numbers.Bin.{Bin}
use Rattle.k_num.specs.declared.numbers.Kind.{Kind}
use Rattle.k_num.specs.declared.numbers.Un.{Un}
use Rattle.k_types_meaning.specs.declared.tree.expression.Change.{Change}
use Rattle.k_types_meaning.specs.declared.tree.expression.Node.{Node}
use Rattle.k_types_meaning.specs.declared.tree.expression.Piece.{Piece}
use Rattle.k_types_meaning.specs.declared.tree.expression.TExpr.{TExpr, out-TExpr, out-roll-TExpr}
use Rattle.k_types_meaning.specs.declared.tree.expression.TExpr.TheOpen.{TExpr-F}
use Rattle.k_types_meaning.specs.declared.tree.expression.TExpr.TheVariants as typed

pub out_Number : (node : Node) (value : ℤ) → out-TExpr (typed.Number node value) ≡ TExpr-F.Number node value
out_Number node value = ap out-TExpr (sym (typed.rolls-Number node value)) ∙ out-roll-TExpr (TExpr-F.Number node value)

pub out_Str : (node : Node) (n : ℕ) (bytes : List ℕ) → out-TExpr (typed.Str node n bytes) ≡ TExpr-F.Str node n bytes
out_Str node n bytes = ap out-TExpr (sym (typed.rolls-Str node n bytes)) ∙ out-roll-TExpr (TExpr-F.Str node n bytes)

pub out_Object : (node : Node) (n : ℕ) → out-TExpr (typed.Object node n) ≡ TExpr-F.Object node n
out_Object node n = ap out-TExpr (sym (typed.rolls-Object node n)) ∙ out-roll-TExpr (TExpr-F.Object node n)

pub out_Variable : (node : Node) (n : ℕ) → out-TExpr (typed.Variable node n) ≡ TExpr-F.Variable node n
out_Variable node n = ap out-TExpr (sym (typed.rolls-Variable node n)) ∙ out-roll-TExpr (TExpr-F.Variable node n)

pub out_Index : (node : Node) (a b : TExpr) → out-TExpr (typed.Index node a b) ≡ TExpr-F.Index node a b
out_Index node a b = ap out-TExpr (sym (typed.rolls-Index node a b)) ∙ out-roll-TExpr (TExpr-F.Index node a b)

pub out_Call : (node : Node) (f : ℕ) (args : List TExpr) → out-TExpr (typed.Call node f args) ≡ TExpr-F.Call node f args
out_Call node f args = ap out-TExpr (sym (typed.rolls-Call node f args)) ∙ out-roll-TExpr (TExpr-F.Call node f args)

pub out_Getchar : (node : Node) → out-TExpr (typed.Getchar node) ≡ TExpr-F.Getchar node
out_Getchar node = ap out-TExpr (sym (typed.rolls-Getchar node)) ∙ out-roll-TExpr (TExpr-F.Getchar node)

pub out_Putchar : (node : Node) (a : TExpr) → out-TExpr (typed.Putchar node a) ≡ TExpr-F.Putchar node a
out_Putchar node a = ap out-TExpr (sym (typed.rolls-Putchar node a)) ∙ out-roll-TExpr (TExpr-F.Putchar node a)

pub out_Puts : (node : Node) (a : TExpr) → out-TExpr (typed.Puts node a) ≡ TExpr-F.Puts node a
out_Puts node a = ap out-TExpr (sym (typed.rolls-Puts node a)) ∙ out-roll-TExpr (TExpr-F.Puts node a)

pub out_Printf : (node : Node) (format : List Piece) (args : List TExpr) → out-TExpr (typed.Printf node format args) ≡ TExpr-F.Printf node format args
out_Printf node format args = ap out-TExpr (sym (typed.rolls-Printf node format args)) ∙ out-roll-TExpr (TExpr-F.Printf node format args)

pub out_Post : (node : Node) (change : Change) (a : TExpr) → out-TExpr (typed.Post node change a) ≡ TExpr-F.Post node change a
out_Post node change a = ap out-TExpr (sym (typed.rolls-Post node change a)) ∙ out-roll-TExpr (TExpr-F.Post node change a)

pub out_Pre : (node : Node) (change : Change) (a : TExpr) → out-TExpr (typed.Pre node change a) ≡ TExpr-F.Pre node change a
out_Pre node change a = ap out-TExpr (sym (typed.rolls-Pre node change a)) ∙ out-roll-TExpr (TExpr-F.Pre node change a)

pub out_Address : (node : Node) (a : TExpr) → out-TExpr (typed.Address node a) ≡ TExpr-F.Address node a
out_Address node a = ap out-TExpr (sym (typed.rolls-Address node a)) ∙ out-roll-TExpr (TExpr-F.Address node a)

pub out_Deref : (node : Node) (a : TExpr) → out-TExpr (typed.Deref node a) ≡ TExpr-F.Deref node a
out_Deref node a = ap out-TExpr (sym (typed.rolls-Deref node a)) ∙ out-roll-TExpr (TExpr-F.Deref node a)

pub out_Plus : (node : Node) (a : TExpr) → out-TExpr (typed.Plus node a) ≡ TExpr-F.Plus node a
out_Plus node a = ap out-TExpr (sym (typed.rolls-Plus node a)) ∙ out-roll-TExpr (TExpr-F.Plus node a)

pub out_Unary : (node : Node) (op : Un) (kind : Kind) (a : TExpr) → out-TExpr (typed.Unary node op kind a) ≡ TExpr-F.Unary node op kind a
out_Unary node op kind a = ap out-TExpr (sym (typed.rolls-Unary node op kind a)) ∙ out-roll-TExpr (TExpr-F.Unary node op kind a)

pub out_Convert : (node : Node) (a : TExpr) → out-TExpr (typed.Convert node a) ≡ TExpr-F.Convert node a
out_Convert node a = ap out-TExpr (sym (typed.rolls-Convert node a)) ∙ out-roll-TExpr (TExpr-F.Convert node a)

pub out_Cast : (node : Node) (a : TExpr) → out-TExpr (typed.Cast node a) ≡ TExpr-F.Cast node a
out_Cast node a = ap out-TExpr (sym (typed.rolls-Cast node a)) ∙ out-roll-TExpr (TExpr-F.Cast node a)

pub out_Binary : (node : Node) (op : Bin) (kind : Kind) (a b : TExpr) → out-TExpr (typed.Binary node op kind a b) ≡ TExpr-F.Binary node op kind a b
out_Binary node op kind a b = ap out-TExpr (sym (typed.rolls-Binary node op kind a b)) ∙ out-roll-TExpr (TExpr-F.Binary node op kind a b)

pub out_Both : (node : Node) (a b : TExpr) → out-TExpr (typed.Both node a b) ≡ TExpr-F.Both node a b
out_Both node a b = ap out-TExpr (sym (typed.rolls-Both node a b)) ∙ out-roll-TExpr (TExpr-F.Both node a b)

pub out_Either : (node : Node) (a b : TExpr) → out-TExpr (typed.Either node a b) ≡ TExpr-F.Either node a b
out_Either node a b = ap out-TExpr (sym (typed.rolls-Either node a b)) ∙ out-roll-TExpr (TExpr-F.Either node a b)

pub out_Forward : (node : Node) (a b : TExpr) → out-TExpr (typed.Forward node a b) ≡ TExpr-F.Forward node a b
out_Forward node a b = ap out-TExpr (sym (typed.rolls-Forward node a b)) ∙ out-roll-TExpr (TExpr-F.Forward node a b)

pub out_Onto : (node : Node) (a b : TExpr) → out-TExpr (typed.Onto node a b) ≡ TExpr-F.Onto node a b
out_Onto node a b = ap out-TExpr (sym (typed.rolls-Onto node a b)) ∙ out-roll-TExpr (TExpr-F.Onto node a b)

pub out_Back : (node : Node) (a b : TExpr) → out-TExpr (typed.Back node a b) ≡ TExpr-F.Back node a b
out_Back node a b = ap out-TExpr (sym (typed.rolls-Back node a b)) ∙ out-roll-TExpr (TExpr-F.Back node a b)

pub out_PtrCompare : (node : Node) (op : Bin) (a b : TExpr) → out-TExpr (typed.PtrCompare node op a b) ≡ TExpr-F.PtrCompare node op a b
out_PtrCompare node op a b = ap out-TExpr (sym (typed.rolls-PtrCompare node op a b)) ∙ out-roll-TExpr (TExpr-F.PtrCompare node op a b)

pub out_PtrDistance : (node : Node) (a b : TExpr) → out-TExpr (typed.PtrDistance node a b) ≡ TExpr-F.PtrDistance node a b
out_PtrDistance node a b = ap out-TExpr (sym (typed.rolls-PtrDistance node a b)) ∙ out-roll-TExpr (TExpr-F.PtrDistance node a b)

pub out_Cond : (node : Node) (a b c : TExpr) → out-TExpr (typed.Cond node a b c) ≡ TExpr-F.Cond node a b c
out_Cond node a b c = ap out-TExpr (sym (typed.rolls-Cond node a b c)) ∙ out-roll-TExpr (TExpr-F.Cond node a b c)

pub out_Assign : (node : Node) (a b : TExpr) → out-TExpr (typed.Assign node a b) ≡ TExpr-F.Assign node a b
out_Assign node a b = ap out-TExpr (sym (typed.rolls-Assign node a b)) ∙ out-roll-TExpr (TExpr-F.Assign node a b)

pub out_AssignBy : (node : Node) (change : Change) (a b : TExpr) → out-TExpr (typed.AssignBy node change a b) ≡ TExpr-F.AssignBy node change a b
out_AssignBy node change a b = ap out-TExpr (sym (typed.rolls-AssignBy node change a b)) ∙ out-roll-TExpr (TExpr-F.AssignBy node change a b)

pub out_Comma : (node : Node) (a b : TExpr) → out-TExpr (typed.Comma node a b) ≡ TExpr-F.Comma node a b
out_Comma node a b = ap out-TExpr (sym (typed.rolls-Comma node a b)) ∙ out-roll-TExpr (TExpr-F.Comma node a b)
