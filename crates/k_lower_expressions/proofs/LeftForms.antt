-- What is left where the forms are taken off one group after the other.
use Rattle.std.proofs.Common.{ℕ, ℤ, ◌≡◌, true, List, refl, sym, ◌∙◌}
use Rattle.k_num.specs.declared.numbers.Bin.{Bin}
use Rattle.k_num.specs.declared.numbers.Kind.{Kind}
use Rattle.k_num.specs.declared.numbers.Un.{Un}
use Rattle.k_types_meaning.specs.declared.tree.expression.Change.{Change}
use Rattle.k_types_meaning.specs.declared.tree.expression.Node.{Node}
use Rattle.k_types_meaning.specs.declared.tree.expression.Piece.{Piece}
use Rattle.k_types_meaning.specs.declared.tree.expression.TExpr.{TExpr, out-TExpr, roll-TExpr, roll-out-TExpr}
use Rattle.k_types_meaning.specs.declared.tree.expression.TExpr.TheOpen.{TExpr-F}
use Rattle.k_types_meaning.specs.declared.tree.expression.TExpr.TheVariants as typed
use Rattle.k_lower_expressions.specs.Families.{calls_or_computes, calls_or_computes_at, assigns_or_computes, assigns_or_computes_at, computes, computes_at}

-- what is none of these is a call, an assignment or a binary operator
pub a_call_or_more : (e : TExpr)
    → ((node : Node) (value : ℤ) → e ≡ typed.Number node value → ⊥) → ((node : Node) (n : ℕ) (bytes : List ℕ) → e ≡ typed.Str node n bytes → ⊥) → ((node : Node) (n : ℕ) → e ≡ typed.Object node n → ⊥) → ((node : Node) (n : ℕ) → e ≡ typed.Variable node n → ⊥) → ((node : Node) (a : TExpr) (b : TExpr) → e ≡ typed.Index node a b → ⊥) → ((node : Node) (a : TExpr) → e ≡ typed.Deref node a → ⊥) → ((node : Node) (a : TExpr) → e ≡ typed.Address node a → ⊥) → ((node : Node) (a : TExpr) → e ≡ typed.Plus node a → ⊥) → ((node : Node) (op : Un) (kind : Kind) (a : TExpr) → e ≡ typed.Unary node op kind a → ⊥) → ((node : Node) (a : TExpr) → e ≡ typed.Convert node a → ⊥) → ((node : Node) (a : TExpr) → e ≡ typed.Cast node a → ⊥) → ((node : Node) (a : TExpr) (b : TExpr) → e ≡ typed.Both node a b → ⊥) → ((node : Node) (a : TExpr) (b : TExpr) → e ≡ typed.Either node a b → ⊥) → ((node : Node) (a : TExpr) (b : TExpr) (c : TExpr) → e ≡ typed.Cond node a b c → ⊥) → ((node : Node) (a : TExpr) (b : TExpr) → e ≡ typed.Comma node a b → ⊥)
    → calls_or_computes e ≡ true
a_call_or_more e not_Number not_Str not_Object not_Variable not_Index not_Deref not_Address not_Plus not_Unary not_Convert not_Cast not_Both not_Either not_Cond not_Comma = by_form (out-TExpr e) (roll-out-TExpr e)
  where
    by_form : (x : TExpr-F TExpr) → roll-TExpr x ≡ e → calls_or_computes_at x ≡ true
    by_form (TExpr-F.Number node value) is = absurd (not_Number node value (sym is ∙ typed.rolls-Number node value))
    by_form (TExpr-F.Str node n bytes) is = absurd (not_Str node n bytes (sym is ∙ typed.rolls-Str node n bytes))
    by_form (TExpr-F.Object node n) is = absurd (not_Object node n (sym is ∙ typed.rolls-Object node n))
    by_form (TExpr-F.Variable node n) is = absurd (not_Variable node n (sym is ∙ typed.rolls-Variable node n))
    by_form (TExpr-F.Index node a b) is = absurd (not_Index node a b (sym is ∙ typed.rolls-Index node a b))
    by_form (TExpr-F.Deref node a) is = absurd (not_Deref node a (sym is ∙ typed.rolls-Deref node a))
    by_form (TExpr-F.Address node a) is = absurd (not_Address node a (sym is ∙ typed.rolls-Address node a))
    by_form (TExpr-F.Plus node a) is = absurd (not_Plus node a (sym is ∙ typed.rolls-Plus node a))
    by_form (TExpr-F.Unary node op kind a) is = absurd (not_Unary node op kind a (sym is ∙ typed.rolls-Unary node op kind a))
    by_form (TExpr-F.Convert node a) is = absurd (not_Convert node a (sym is ∙ typed.rolls-Convert node a))
    by_form (TExpr-F.Cast node a) is = absurd (not_Cast node a (sym is ∙ typed.rolls-Cast node a))
    by_form (TExpr-F.Both node a b) is = absurd (not_Both node a b (sym is ∙ typed.rolls-Both node a b))
    by_form (TExpr-F.Either node a b) is = absurd (not_Either node a b (sym is ∙ typed.rolls-Either node a b))
    by_form (TExpr-F.Cond node a b c) is = absurd (not_Cond node a b c (sym is ∙ typed.rolls-Cond node a b c))
    by_form (TExpr-F.Comma node a b) is = absurd (not_Comma node a b (sym is ∙ typed.rolls-Comma node a b))
    by_form x is = refl

-- what is no call either is an assignment or a binary operator
pub an_assignment_or_more : (e : TExpr) → calls_or_computes e ≡ true
    → ((node : Node) (f : ℕ) (args : List TExpr) → e ≡ typed.Call node f args → ⊥) → ((node : Node) → e ≡ typed.Getchar node → ⊥) → ((node : Node) (a : TExpr) → e ≡ typed.Putchar node a → ⊥) → ((node : Node) (a : TExpr) → e ≡ typed.Puts node a → ⊥) → ((node : Node) (format : List Piece) (args : List TExpr) → e ≡ typed.Printf node format args → ⊥)
    → assigns_or_computes e ≡ true
an_assignment_or_more e known not_Call not_Getchar not_Putchar not_Puts not_Printf = by_form (out-TExpr e) (roll-out-TExpr e) known
  where
    by_form : (x : TExpr-F TExpr) → roll-TExpr x ≡ e → calls_or_computes_at x ≡ true → assigns_or_computes_at x ≡ true
    by_form (TExpr-F.Call node f args) is h = absurd (not_Call node f args (sym is ∙ typed.rolls-Call node f args))
    by_form (TExpr-F.Getchar node) is h = absurd (not_Getchar node (sym is ∙ typed.rolls-Getchar node))
    by_form (TExpr-F.Putchar node a) is h = absurd (not_Putchar node a (sym is ∙ typed.rolls-Putchar node a))
    by_form (TExpr-F.Puts node a) is h = absurd (not_Puts node a (sym is ∙ typed.rolls-Puts node a))
    by_form (TExpr-F.Printf node format args) is h = absurd (not_Printf node format args (sym is ∙ typed.rolls-Printf node format args))
    by_form (TExpr-F.Post node change a) is h = refl
    by_form (TExpr-F.Pre node change a) is h = refl
    by_form (TExpr-F.Binary node op kind a b) is h = refl
    by_form (TExpr-F.Forward node a b) is h = refl
    by_form (TExpr-F.Onto node a b) is h = refl
    by_form (TExpr-F.Back node a b) is h = refl
    by_form (TExpr-F.PtrCompare node op a b) is h = refl
    by_form (TExpr-F.PtrDistance node a b) is h = refl
    by_form (TExpr-F.Assign node a b) is h = refl
    by_form (TExpr-F.AssignBy node change a b) is h = refl
    by_form x is h = h

-- what is no assignment either is a binary operator
pub a_binary : (e : TExpr) → assigns_or_computes e ≡ true
    → ((node : Node) (change : Change) (a : TExpr) → e ≡ typed.Post node change a → ⊥) → ((node : Node) (change : Change) (a : TExpr) → e ≡ typed.Pre node change a → ⊥) → ((node : Node) (a : TExpr) (b : TExpr) → e ≡ typed.Assign node a b → ⊥) → ((node : Node) (change : Change) (a : TExpr) (b : TExpr) → e ≡ typed.AssignBy node change a b → ⊥)
    → computes e ≡ true
a_binary e known not_Post not_Pre not_Assign not_AssignBy = by_form (out-TExpr e) (roll-out-TExpr e) known
  where
    by_form : (x : TExpr-F TExpr) → roll-TExpr x ≡ e → assigns_or_computes_at x ≡ true → computes_at x ≡ true
    by_form (TExpr-F.Post node change a) is h = absurd (not_Post node change a (sym is ∙ typed.rolls-Post node change a))
    by_form (TExpr-F.Pre node change a) is h = absurd (not_Pre node change a (sym is ∙ typed.rolls-Pre node change a))
    by_form (TExpr-F.Assign node a b) is h = absurd (not_Assign node a b (sym is ∙ typed.rolls-Assign node a b))
    by_form (TExpr-F.AssignBy node change a b) is h = absurd (not_AssignBy node change a b (sym is ∙ typed.rolls-AssignBy node change a b))
    by_form (TExpr-F.Binary node op kind a b) is h = refl
    by_form (TExpr-F.Forward node a b) is h = refl
    by_form (TExpr-F.Onto node a b) is h = refl
    by_form (TExpr-F.Back node a b) is h = refl
    by_form (TExpr-F.PtrCompare node op a b) is h = refl
    by_form (TExpr-F.PtrDistance node a b) is h = refl
    by_form x is h = h

-- no binary operator is left
pub no_more : (e : TExpr) → computes e ≡ true
    → ((node : Node) (op : Bin) (kind : Kind) (a : TExpr) (b : TExpr) → e ≡ typed.Binary node op kind a b → ⊥) → ((node : Node) (a : TExpr) (b : TExpr) → e ≡ typed.Forward node a b → ⊥) → ((node : Node) (a : TExpr) (b : TExpr) → e ≡ typed.Onto node a b → ⊥) → ((node : Node) (a : TExpr) (b : TExpr) → e ≡ typed.Back node a b → ⊥) → ((node : Node) (op : Bin) (a : TExpr) (b : TExpr) → e ≡ typed.PtrCompare node op a b → ⊥) → ((node : Node) (a : TExpr) (b : TExpr) → e ≡ typed.PtrDistance node a b → ⊥)
    → ⊥
no_more e known not_Binary not_Forward not_Onto not_Back not_PtrCompare not_PtrDistance = by_form (out-TExpr e) (roll-out-TExpr e) known
  where
    by_form : (x : TExpr-F TExpr) → roll-TExpr x ≡ e → computes_at x ≡ true → ⊥
    by_form (TExpr-F.Binary node op kind a b) is h = absurd (not_Binary node op kind a b (sym is ∙ typed.rolls-Binary node op kind a b))
    by_form (TExpr-F.Forward node a b) is h = absurd (not_Forward node a b (sym is ∙ typed.rolls-Forward node a b))
    by_form (TExpr-F.Onto node a b) is h = absurd (not_Onto node a b (sym is ∙ typed.rolls-Onto node a b))
    by_form (TExpr-F.Back node a b) is h = absurd (not_Back node a b (sym is ∙ typed.rolls-Back node a b))
    by_form (TExpr-F.PtrCompare node op a b) is h = absurd (not_PtrCompare node op a b (sym is ∙ typed.rolls-PtrCompare node op a b))
    by_form (TExpr-F.PtrDistance node a b) is h = absurd (not_PtrDistance node a b (sym is ∙ typed.rolls-PtrDistance node a b))
    by_form x is h = cc h
