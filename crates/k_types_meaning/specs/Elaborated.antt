-- Believed with a public law.
-- *Typing* of expressions as a relation: which typed trees an expression has, one case for each construct (C17 6.5).
use Rattle.std.specs.Prelude.{ℕ, ◌≡◌, ℤ, Bool, List, [], ◌∷◌}
use Rattle.k_num.specs.declared.numbers.Kind.{Kind}
use Rattle.k_num.specs.declared.place.Place.{Place}
use Rattle.k_tree.specs.declared.tokens.mark.Mark.{Mark}
use Rattle.k_tree.specs.declared.tokens.word.Word.{Word}
use Rattle.k_tree.specs.declared.tree.expression.Expr.{Expr}
use Rattle.k_tree.specs.declared.tree.expression.Expr.TheVariants as expr
use Rattle.k_types_meaning.specs.CallRules.{call_rule}
use Rattle.k_types_meaning.specs.Conversions.{Typed}
use Rattle.k_types_meaning.specs.Expressions.{judge}
use Rattle.k_types_meaning.specs.Made.{Fine}
use Rattle.k_types_meaning.specs.Names.{Names}
use Rattle.k_types_meaning.specs.Operands.{name_rule, number_rule, char_rule, string_rule, index_rule, unary_rule, post_rule, pre_rule, sizeof_rule, sizeof_type_rule, cast_rule}
use Rattle.k_types_meaning.specs.Operators.{binary_rule, cond_rule, assign_rule, comma_rule}

mutual
  -- C17 6.5: an expression means a typed one where these names are known: what its operands mean, put together by its rule;
  -- parentheses mean what they enclose
  pub data Elab : Names → Expr → Typed → Type 0 where
    name : (names : Names) (p : Place) (x : List ℕ) (v : Typed) → name_rule names p x ≡ Fine v → Elab names (expr.Name p x) v
    number : (names : Names) (p : Place) (kind : Kind) (n : ℕ) (v : Typed) → number_rule p kind n ≡ Fine v → Elab names (expr.Number p kind n) v
    character : (names : Names) (p : Place) (z : ℤ) (v : Typed) → char_rule p z ≡ Fine v → Elab names (expr.Char p z) v
    string : (names : Names) (p : Place) (bytes : List ℕ) (v : Typed) → string_rule p bytes ≡ Fine v → Elab names (expr.Str p bytes) v
    paren : (names : Names) (p : Place) (e : Expr) (v : Typed) → Elab names e v → Elab names (expr.Paren p e) v
    index : (names : Names) (p : Place) (a b : Expr) (x y v : Typed) → Elab names a x → Elab names b y
        → index_rule p x y ≡ Fine v → Elab names (expr.Index p a b) v
    call : (names : Names) (p : Place) (f : List ℕ) (args : List Expr) (xs : List Typed) (v : Typed) → ElabAll names args xs
        → call_rule names p f xs ≡ Fine v → Elab names (expr.Call p f args) v
    postfix : (names : Names) (p : Place) (op : Mark) (a : Expr) (x v : Typed) → Elab names a x
        → post_rule p op x ≡ Fine v → Elab names (expr.Post p op a) v
    prefix : (names : Names) (p : Place) (op : Mark) (a : Expr) (x v : Typed) → Elab names a x
        → pre_rule p op x ≡ Fine v → Elab names (expr.Pre p op a) v
    unary : (names : Names) (p : Place) (op : Mark) (a : Expr) (x v : Typed) → Elab names a x
        → unary_rule p op x ≡ Fine v → Elab names (expr.Unary p op a) v
    sizeof_expr : (names : Names) (p : Place) (a : Expr) (x v : Typed) → Elab names a x
        → sizeof_rule p x ≡ Fine v → Elab names (expr.SizeofExpr p a) v
    sizeof_type : (names : Names) (p : Place) (specs : List Word) (stars : List Bool) (v : Typed)
        → sizeof_type_rule p specs stars ≡ Fine v → Elab names (expr.SizeofType p specs stars) v
    cast : (names : Names) (p : Place) (specs : List Word) (stars : List Bool) (a : Expr) (x v : Typed) → Elab names a x
        → cast_rule p specs stars x ≡ Fine v → Elab names (expr.Cast p specs stars a) v
    binary : (names : Names) (p : Place) (op : Mark) (a b : Expr) (x y v : Typed) → Elab names a x → Elab names b y
        → binary_rule p op x y ≡ Fine v → Elab names (expr.Binary p op a b) v
    conditional : (names : Names) (p : Place) (a b c : Expr) (x y z v : Typed) → Elab names a x → Elab names b y → Elab names c z
        → cond_rule p x y z ≡ Fine v → Elab names (expr.Cond p a b c) v
    assignment : (names : Names) (p : Place) (op : Mark) (a b : Expr) (x y v : Typed) → Elab names a x → Elab names b y
        → assign_rule p op x y ≡ Fine v → Elab names (expr.Assign p op a b) v
    comma : (names : Names) (p : Place) (a b : Expr) (x y v : Typed) → Elab names a x → Elab names b y
        → comma_rule p x y ≡ Fine v → Elab names (expr.Comma p a b) v

  -- the arguments of a call, in their order
  pub data ElabAll : Names → List Expr → List Typed → Type 0 where
    no_args : (names : Names) → ElabAll names [] []
    more_args : (names : Names) (e : Expr) (es : List Expr) (v : Typed) (vs : List Typed) → Elab names e v → ElabAll names es vs
        → ElabAll names (e ∷ es) (v ∷ vs)

-- An expression has a typed tree exactly where judging it finds no fault, and then it is the one that judging makes.
abbrev pub ExpressionsElaborate : Type 0
ExpressionsElaborate = (names : Names) (e : Expr) (v : Typed) → (judge names e ≡ Fine v → Elab names e v) × (Elab names e v → judge names e ≡ Fine v)
