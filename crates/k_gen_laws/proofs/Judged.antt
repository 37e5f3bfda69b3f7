-- The statements of made programs have no fault in names and types.
use Rattle.std.proofs.Common.{◌≡◌, ℕ, zero, suc, ◌+◌, Bool, false, List, [], ◌∷◌, ◌++◌, Option, Some, None, refl, ap, ◌∙◌}
use Rattle.std.specs.Prelude.{codes, map, pos}
use Rattle.k_num.specs.declared.numbers.Bin.TheVariants as bin
use Rattle.k_num.specs.declared.numbers.Kind.TheVariants.{I32}
use Rattle.k_num.specs.declared.place.Place.{Place}
use Rattle.k_tree.specs.declared.tokens.mark.Mark.{Mark}
use Rattle.k_tree.specs.declared.tokens.mark.Mark.TheVariants as mark
use Rattle.k_tree.specs.declared.tree.expression.Expr.{Expr}
use Rattle.k_tree.specs.declared.tree.expression.Expr.TheVariants as expr
use Rattle.k_tree.specs.declared.tree.statement.First.TheVariants as first
use Rattle.k_tree.specs.declared.tree.statement.Stmt.{Stmt}
use Rattle.k_tree.specs.declared.tree.statement.Stmt.TheVariants as stmt
use Rattle.k_tree.proofs.Folds.{expr_Assign, expr_Binary, expr_Index, expr_Name, expr_Number, expr_Paren, expr_Post, stmt_Expr, stmt_For}
use Rattle.k_types_meaning.specs.declared.names.Meaning.TheVariants as meaning
use Rattle.k_types_meaning.specs.declared.types.CType.{CType}
use Rattle.k_types_meaning.specs.declared.types.CType.TheVariants as ctype
use Rattle.k_types_meaning.specs.declared.types.TType.TheVariants as ttype
use Rattle.k_types_meaning.specs.declared.tree.expression.Change.TheVariants as change
use Rattle.k_types_meaning.specs.declared.tree.expression.TExpr.{TExpr}
use Rattle.k_types_meaning.specs.declared.tree.expression.TExpr.TheVariants as typed
use Rattle.k_types_meaning.specs.declared.tree.statement.TFirst.{TFirst}
use Rattle.k_types_meaning.specs.declared.tree.statement.TFirst.TheVariants as typed_first
use Rattle.k_types_meaning.specs.declared.tree.statement.TStmt.{TStmt}
use Rattle.k_types_meaning.specs.declared.tree.statement.TStmt.TheVariants as typed_stmt
use Rattle.k_types_meaning.specs.Conversions.{Typed, at, in_kind, number_in_kind, passed}
use Rattle.k_types_meaning.specs.Expressions.{judge, judge_step}
use Rattle.k_types_meaning.specs.Made.{Made, Fine, both, then_made}
use Rattle.k_types_meaning.specs.Names.{Names, meaning_of}
use Rattle.k_types_meaning.specs.Operands.{index_rule, name_rule, named, number_rule, post_rule}
use Rattle.k_types_meaning.specs.Operators.{assign_rule, binary_rule}
use Rattle.k_types_meaning.specs.Statements.{Around, Judged, Known, Statement, SwitchPart, Variable, behind, each_in, expr_rule, for_behind, for_body, for_judged, for_parts, for_rule, in_order, inside_loop, judge_stmt, judged_before, part_step, scope_left, spot, stmt_step}
use Rattle.k_gen_laws.proofs.Trees.{add_bits, cell, element, filling, lit, loop, loop_of, loops_from, neighbours, product, store, var}
use Rattle.k_gen_laws.proofs.Trees as trees

-- an int
abbrev pub int : CType
int = ctype.Number I32

-- the array
abbrev pub array : CType
array = ctype.Array 64 (record { kind = I32; dims = []; fixed = false })

-- what the names of a made program mean in the block of main
pub record HasNames (names : Names) : Type 0 where
  pub i : meaning_of names (codes "i") ≡ Some (meaning.Variable 0 int false)
  pub j : meaning_of names (codes "j") ≡ Some (meaning.Variable 1 int false)
  pub s : meaning_of names (codes "s") ≡ Some (meaning.Variable 2 int false)
  pub a : meaning_of names (codes "a") ≡ Some (meaning.Object 0 array false)

-- they mean the same where a scope is opened
pub inner : (names : Names) → HasNames names → HasNames ([] ∷ names)
inner names has = record { i = has.i; j = has.j; s = has.s; a = has.a }

-- ---- expressions

-- an int of this tree, which is a place or not
abbrev pub int_of : Option Bool → TExpr → Typed
int_of place tree = record { tree = tree; of = int; place = place; taken = [] }

-- an expression is an int, which is a place or not
abbrev pub IsInt : Names → Option Bool → Expr → Type 0
IsInt names place e = (tree : TExpr) × (judge names e ≡ Fine (int_of place tree))

module _ (names : Names) where
  int_name : (p : Place) (x : List ℕ) (n : ℕ) → meaning_of names x ≡ Some (meaning.Variable n int false) → IsInt names (Some false) (expr.Name p x)
  unfolding name_rule
  int_name p x n is = (typed.Variable (at p (ttype.Number I32)) n, expr_Name (Made Typed) (judge_step names) p x ∙ ap (named p x) is)

  int_number : (p : Place) (n : ℕ) → IsInt names None (expr.Number p I32 n)
  unfolding number_rule
  int_number p n = (typed.Number (at p (ttype.Number I32)) (pos n), expr_Number (Made Typed) (judge_step names) p I32 n)

  int_paren : (p : Place) (place : Option Bool) (e : Expr) → IsInt names place e → IsInt names place (expr.Paren p e)
  int_paren p place e is = (is.0, expr_Paren (Made Typed) (judge_step names) p e ∙ is.1)

  int_binary : (p : Place) (op : Mark) (pa pb : Option Bool) (a b : Expr) (made : TExpr → TExpr → TExpr)
      → ((ta tb : TExpr) → binary_rule p op (int_of pa ta) (int_of pb tb) ≡ Fine (int_of None (made ta tb)))
      → IsInt names pa a → IsInt names pb b → IsInt names None (expr.Binary p op a b)
  int_binary p op pa pb a b made rule x y = (
    made x.0 y.0,
    expr_Binary (Made Typed) (judge_step names) p op a b
        ∙ ap (λ (m : Made Typed). both m (judge names b) (binary_rule p op)) x.1
        ∙ ap (λ (m : Made Typed). both (Fine (int_of pa x.0)) m (binary_rule p op)) y.1
        ∙ rule x.0 y.0,
  )

  array_name : (p : Place) → meaning_of names (codes "a") ≡ Some (meaning.Object 0 array false)
      → (tree : TExpr) × (judge names (expr.Name p (codes "a")) ≡ Fine (record { tree = tree; of = array; place = None; taken = [] }))
  unfolding name_rule
  array_name p is =
      (typed.Object (at p (ttype.Pointer (record { kind = I32; elements = 1 }))) 0, expr_Name (Made Typed) (judge_step names) p (codes "a") ∙ ap (named p (codes "a")) is)

  int_index : (p q : Place) (place : Option Bool) (e : Expr) → meaning_of names (codes "a") ≡ Some (meaning.Object 0 array false) → IsInt names place e
      → IsInt names (Some false) (expr.Index p (expr.Name q (codes "a")) e)
  unfolding index_rule
  int_index p q place e is x =
      let base = array_name q is in (
        typed.Index (at p (ttype.Number I32)) base.0 x.0,
        expr_Index (Made Typed) (judge_step names) p (expr.Name q (codes "a")) e
            ∙ ap (λ (m : Made Typed). both m (judge names e) (index_rule p)) base.1
            ∙ ap (λ (m : Made Typed). both (Fine (record { tree = base.0; of = array; place = None; taken = [] })) m (index_rule p)) x.1,
      )

  int_post : (p : Place) (e : Expr) → IsInt names (Some false) e → IsInt names None (expr.Post p mark.PlusPlus e)
  unfolding post_rule
  int_post p e x = (
    typed.Post (at p (ttype.Number I32)) (change.Number bin.Add I32) x.0,
    expr_Post (Made Typed) (judge_step names) p mark.PlusPlus e ∙ ap (λ (m : Made Typed). then_made m (post_rule p mark.PlusPlus)) x.1,
  )

  int_assign : (p : Place) (op : Mark) (place : Option Bool) (a b : Expr) (made : TExpr → TExpr → TExpr)
      → ((ta tb : TExpr) → assign_rule p op (int_of (Some false) ta) (int_of place tb) ≡ Fine (int_of None (made ta tb)))
      → IsInt names (Some false) a → IsInt names place b → IsInt names None (expr.Assign p op a b)
  int_assign p op place a b made rule x y = (
    made x.0 y.0,
    expr_Assign (Made Typed) (judge_step names) p op a b
        ∙ ap (λ (m : Made Typed). both m (judge names b) (assign_rule p op)) x.1
        ∙ ap (λ (m : Made Typed). both (Fine (int_of (Some false) x.0)) m (assign_rule p op)) y.1
        ∙ rule x.0 y.0,
  )

-- the operators of made programs
module _ (p : Place) (pa pb : Option Bool) (ta tb : TExpr) where
  abbrev Binary : Mark → TExpr → Type 0
  Binary op tree = binary_rule p op (int_of pa ta) (int_of pb tb) ≡ Fine (int_of None tree)

  times : Binary mark.Star (typed.Binary (at p (ttype.Number I32)) bin.Mul I32 ta tb)
  unfolding binary_rule in_kind
  times = refl

  plus : Binary mark.Plus (typed.Binary (at p (ttype.Number I32)) bin.Add I32 ta tb)
  unfolding binary_rule in_kind
  plus = refl

  minus : Binary mark.Minus (typed.Binary (at p (ttype.Number I32)) bin.Sub I32 ta tb)
  unfolding binary_rule in_kind
  minus = refl

  remainder : Binary mark.Percent (typed.Binary (at p (ttype.Number I32)) bin.Rem I32 ta tb)
  unfolding binary_rule in_kind
  remainder = refl

  less : Binary mark.Less (typed.Binary (at p (ttype.Number I32)) bin.Lt I32 ta tb)
  unfolding binary_rule in_kind
  less = refl

  bits : Binary mark.Ampersand (typed.Binary (at p (ttype.Number I32)) bin.And I32 ta tb)
  unfolding binary_rule in_kind
  bits = refl

  sets : assign_rule p mark.Equal (int_of (Some false) ta) (int_of pb tb) ≡ Fine (int_of None (typed.Assign (at p (ttype.Number I32)) ta tb))
  unfolding assign_rule passed in_kind
  sets = refl

  adds : assign_rule p mark.PlusEqual (int_of (Some false) ta) (int_of pb tb)
      ≡ Fine (int_of None (typed.AssignBy (at p (ttype.Number I32)) (change.Number bin.Add I32) ta (number_in_kind I32 I32 tb)))
  unfolding assign_rule
  adds = refl

module _ (names : Names) (has : HasNames names) (line : ℕ) where
  abbrev here : ℕ → Place
  here column = trees.at line column

  var_i : (column : ℕ) → IsInt names (Some false) (var (codes "i") line column)
  var_i column = int_name names (here column) (codes "i") 0 has.i

  number : (n column : ℕ) → IsInt names None (lit n line column)
  number n column = int_number names (here column) n

  at_index : (column : ℕ) (place : Option Bool) (e : Expr) → IsInt names place e → IsInt names (Some false) (element line column e)
  at_index column place e is = int_index names (here (column + 1)) (here column) place e has.a is

  at_i : (column : ℕ) → IsInt names (Some false) (cell line column)
  at_i column = at_index column (Some false) (var (codes "i") line (column + 2)) (var_i (column + 2))

  starts : (x : List ℕ) (n start column : ℕ) → meaning_of names x ≡ Some (meaning.Variable n int false)
      → IsInt names None (expr.Assign (here (column + 5)) mark.Equal (var x line (column + 4)) (lit start line (column + 6)))
  starts x n start column is =
      int_assign names (here (column + 5)) mark.Equal None (var x line (column + 4)) (lit start line (column + 6)) _ (sets (here (column + 5)) None None)
      (int_name names (here (column + 4)) x n is) (number start (column + 6))

  tests : (x : List ℕ) (n bound column : ℕ) → meaning_of names x ≡ Some (meaning.Variable n int false)
      → IsInt names None (expr.Binary (here (column + 9)) mark.Less (var x line (column + 8)) (lit bound line (column + 10)))
  tests x n bound column is =
      int_binary names (here (column + 9)) mark.Less (Some false) None (var x line (column + 8)) (lit bound line (column + 10)) _ (less (here (column + 9)) (Some false) None)
      (int_name names (here (column + 8)) x n is) (number bound (column + 10))

  steps : (x : List ℕ) (n width column : ℕ) → meaning_of names x ≡ Some (meaning.Variable n int false)
      → IsInt names None (expr.Post (here (column + 12 + width)) mark.PlusPlus (var x line (column + 11 + width)))
  steps x n width column is =
      int_post names (here (column + 12 + width)) (var x line (column + 11 + width)) (int_name names (here (column + 11 + width)) x n is)

  stores : (at_percent : ℕ) (place : Option Bool) (e : Expr) (bound column : ℕ) → IsInt names place e
      → IsInt names None (expr.Assign (here 23) mark.Equal (cell line 19) (expr.Binary (here at_percent) mark.Percent e (lit bound line column)))
  stores at_percent place e bound column is =
      int_assign names (here 23) mark.Equal None (cell line 19) (expr.Binary (here at_percent) mark.Percent e (lit bound line column)) _ (sets (here 23) None None)
      (at_i 19)
      (int_binary names (here at_percent) mark.Percent place None e (lit bound line column) _ (remainder (here at_percent) place None) is (number bound column))

  products : (d : ℕ) → IsInt names None (product line d)
  products d =
      let factor : Expr = expr.Binary (here 29) mark.Star (cell line 25) (lit d line 30) in
      int_binary names (here 31) mark.Plus None (Some false) factor (var (codes "i") line 32) _ (plus (here 31) None (Some false))
      (int_binary names (here 29) mark.Star (Some false) None (cell line 25) (lit d line 30) _ (times (here 29) (Some false) None) (at_i 25) (number d 30))
      (var_i 32)

  sums : (d : ℕ) → IsInt names None (neighbours line d)
  sums d =
      let before : Expr = expr.Binary (here 28) mark.Minus (var (codes "i") line 27) (lit 1 line 29) in
      let two : Expr = expr.Binary (here 31) mark.Plus (element line 25 before) (cell line 32) in
      int_binary names (here 36) mark.Plus None None two (lit d line 37) _ (plus (here 36) None None)
      (int_binary names (here 31) mark.Plus (Some false) (Some false) (element line 25 before) (cell line 32) _ (plus (here 31) (Some false) (Some false))
      (at_index 25 None before
      (int_binary names (here 28) mark.Minus (Some false) None (var (codes "i") line 27) (lit 1 line 29) _ (minus (here 28) (Some false) None) (var_i 27) (number 1 29)))
      (at_i 32))
      (number d 37)

  adding : (d : ℕ)
      → IsInt names None (expr.Assign (here 37) mark.PlusEqual (var (codes "s") line 36) (expr.Binary (here 43) mark.Ampersand (cell line 39) (lit d line 44)))
  adding d =
      let e : Expr = expr.Binary (here 43) mark.Ampersand (cell line 39) (lit d line 44) in
      int_assign names (here 37) mark.PlusEqual None (var (codes "s") line 36) e _ (adds (here 37) None None)
      (int_name names (here 36) (codes "s") 2 has.s)
      (int_binary names (here 43) mark.Ampersand (Some false) None (cell line 39) (lit d line 44) _ (bits (here 43) (Some false) None) (at_i 39) (number d 44))

-- ---- statements

-- these names and variables are known, and `&` is applied to none
abbrev pub knows : Names → List Variable → Known
knows names variables = record { names = names; variables = variables; taken = [] }

-- a statement has no fault and leaves what is known
abbrev pub IsFineIn : Around → Names → List Variable → Stmt → Type 0
IsFineIn around names variables s = (tree : TStmt) × (judge_stmt s around (knows names variables) ≡ record { made = Fine tree; after = knows names variables })

-- so it is whatever lies around it
abbrev pub IsFine : Names → List Variable → Stmt → Type 0
IsFine names variables s = (around : Around) → IsFineIn around names variables s

module _ (names : Names) (variables : List Variable) where
  abbrev known : Known
  known = knows names variables

  abbrev expr_judged : Place → Made Typed → Judged TStmt
  expr_judged p m = record { made = then_made m (λ v. Fine (typed_stmt.Expr (spot p) v.tree)); after = behind known m }

  pub fine_expr : (p : Place) (place : Option Bool) (e : Expr) → IsInt names place e → IsFine names variables (stmt.Expr p e)
  unfolding expr_rule
  fine_expr p place e is around = (
    typed_stmt.Expr (spot p) is.0,
    ap (λ (f : Statement). f around known) (stmt_Expr SwitchPart Statement part_step stmt_step p e) ∙ ap (expr_judged p) is.1,
  )

  abbrev inside : Known
  inside = knows ([] ∷ names) variables

  abbrev first_of : Made Typed → Judged TFirst
  first_of m = record { made = then_made m (λ v. Fine (typed_first.Value v.tree)); after = behind inside m }

  abbrev option_of : Made Typed → Judged (Option Typed)
  option_of m = record { made = then_made m (λ v. Fine (Some v)); after = behind inside m }

  fine_loop : (p : Place) (a b c : Option Bool) (start test step : Expr) (body : Stmt) → IsInt ([] ∷ names) a start → IsInt ([] ∷ names) b test → IsInt ([] ∷ names) c step
      → IsFine ([] ∷ names) variables body → IsFine names variables (stmt.For p (first.Value start) (Some test) (Some step) body)
  unfolding for_rule
  fine_loop p a b c start test step body x y z is around =
      let within = is (inside_loop around) in
      let one : Judged TFirst = record { made = Fine (typed_first.Value x.0); after = inside } in
      let two : Judged (Option Typed) = record { made = Fine (Some (int_of b y.0)); after = inside } in
      let three : Judged (Option Typed) = record { made = Fine (Some (int_of c z.0)); after = inside } in (
        typed_stmt.For (spot p) 0 (typed_first.Value x.0) (Some y.0) (Some z.0) within.0,
        ap (λ (f : Statement). f around known) (stmt_For SwitchPart Statement part_step stmt_step p (first.Value start) (Some test) (Some step) body)
            ∙ ap (λ (m : Made Typed). scope_left known (for_behind p (Some test) (Some step) (judge_stmt body) around (first_of m))) x.1
            ∙ ap (λ (m : Made Typed). scope_left known (for_parts p one (judge_stmt body) around (option_of m) (Some step))) y.1
            ∙ ap (λ (m : Made Typed). scope_left known (for_body p one (judge_stmt body) around two (option_of m))) z.1
            ∙ ap (λ (s : Judged TStmt). scope_left known (for_judged p one two three s)) within.1,
      )

-- a loop of a made program, with its body
loop_fine : (names : Names) (variables : List Variable) (has : HasNames names) (line column : ℕ) (x : List ℕ) (n start bound width : ℕ) (body : Stmt)
    → meaning_of ([] ∷ names) x ≡ Some (meaning.Variable n int false) → IsFine ([] ∷ names) variables body
    → IsFine names variables (loop line column x start bound width body)
loop_fine names variables has line column x n start bound width body is fine =
    let within : HasNames ([] ∷ names) = inner names has in
    fine_loop names variables (trees.at line column) None None None
    (expr.Assign (trees.at line (column + 5)) mark.Equal (var x line (column + 4)) (lit start line (column + 6)))
    (expr.Binary (trees.at line (column + 9)) mark.Less (var x line (column + 8)) (lit bound line (column + 10)))
    (expr.Post (trees.at line (column + 12 + width)) mark.PlusPlus (var x line (column + 11 + width)))
    body
    (starts ([] ∷ names) within line x n start column is) (tests ([] ∷ names) within line x n bound column is) (steps ([] ∷ names) within line x n width column is)
    fine

store_fine : (names : Names) (variables : List Variable) (has : HasNames names) (line at_percent : ℕ) (place : Option Bool) (e : Expr) (bound column : ℕ)
    → IsInt names place e → IsFine names variables (store line at_percent e bound column)
store_fine names variables has line at_percent place e bound column is =
    fine_expr names variables (trees.at line 19) None
    (expr.Assign (trees.at line 23) mark.Equal (cell line 19) (expr.Binary (trees.at line at_percent) mark.Percent e (lit bound line column)))
    (stores names has line at_percent place e bound column is)

-- EACH LOOP of a made program has no fault
pub loop_of_fine : (names : Names) (variables : List Variable) (has : HasNames names) (form d line : ℕ) → IsFine names variables (loop_of form d line)
loop_of_fine names variables has zero d line =
    let within : HasNames ([] ∷ names) = inner names has in
    loop_fine names variables has line 1 (codes "i") 0 0 64 2 (store line 34 (expr.Paren (trees.at line 24) (product line d)) 1000 35) within.i
    (store_fine ([] ∷ names) variables within line 34 None (expr.Paren (trees.at line 24) (product line d)) 1000 35
    (int_paren ([] ∷ names) (trees.at line 24) None (product line d) (products ([] ∷ names) within line d)))
loop_of_fine names variables has (suc zero) d line =
    let within : HasNames ([] ∷ names) = inner names has in
    loop_fine names variables has line 1 (codes "i") 0 1 64 2 (store line 39 (expr.Paren (trees.at line 24) (neighbours line d)) 1000 40) within.i
    (store_fine ([] ∷ names) variables within line 39 None (expr.Paren (trees.at line 24) (neighbours line d)) 1000 40
    (int_paren ([] ∷ names) (trees.at line 24) None (neighbours line d) (sums ([] ∷ names) within line d)))
loop_of_fine names variables has (suc (suc form)) d line =
    let within : HasNames ([] ∷ names) = inner names has in
    let deeper : HasNames ([] ∷ [] ∷ names) = inner ([] ∷ names) within in
    loop_fine names variables has line 1 (codes "j") 1 0 8 1 (loop line 18 (codes "i") 0 64 2 (add_bits line d)) within.j
    (loop_fine ([] ∷ names) variables within line 18 (codes "i") 0 0 64 2 (add_bits line d) deeper.i
    (fine_expr ([] ∷ [] ∷ names) variables (trees.at line 36) None
    (expr.Assign (trees.at line 37) mark.PlusEqual (var (codes "s") line 36) (expr.Binary (trees.at line 43) mark.Ampersand (cell line 39) (lit d line 44)))
    (adding ([] ∷ [] ∷ names) deeper line d)))

-- so has the loop that fills the array
pub filling_fine : (names : Names) (variables : List Variable) (has : HasNames names) → IsFine names variables filling
filling_fine names variables has =
    let within : HasNames ([] ∷ names) = inner names has in
    loop_fine names variables has 6 1 (codes "i") 0 0 64 2 (store 6 25 (var (codes "i") 6 24) 10 26) within.i
    (store_fine ([] ∷ names) variables within 6 25 (Some false) (var (codes "i") 6 24) 10 26 (var_i ([] ∷ names) within 6 24))

-- ---- one after the other

-- statements have no fault and leave what is known
abbrev pub AreFine : Around → Names → List Variable → List Stmt → Type 0
AreFine around names variables list =
    (made : List TStmt)
    × (in_order (knows names variables) (each_in around (map judge_stmt list)) ≡ record { made = Fine made; after = knows names variables })

pub none_fine : (around : Around) (names : Names) (variables : List Variable) → AreFine around names variables []
none_fine around names variables = ([], refl)

pub more_fine : (around : Around) (names : Names) (variables : List Variable) (s : Stmt) (list : List Stmt) → IsFineIn around names variables s
    → AreFine around names variables list → AreFine around names variables (s ∷ list)
more_fine around names variables s list one others = (
  one.0 ∷ others.0,
  ap (λ (j : Judged TStmt). judged_before j (in_order j.after (each_in around (map judge_stmt list)))) one.1
      ∙ ap (λ (j : Judged (List TStmt)). judged_before (record { made = Fine one.0; after = knows names variables }) j) others.1,
)

pub loops_fine : (around : Around) (names : Names) (variables : List Variable) (has : HasNames names) (line : ℕ) (xs : List (ℕ × ℕ)) (rest : List Stmt)
    → AreFine around names variables rest → AreFine around names variables (loops_from line xs ++ rest)
loops_fine around names variables has line [] rest are = are
loops_fine around names variables has line (x ∷ xs) rest are =
    more_fine around names variables (loop_of x.0 x.1 line) (loops_from (line + 1) xs ++ rest) (loop_of_fine names variables has x.0 x.1 line around)
    (loops_fine around names variables has (line + 1) xs rest are)
