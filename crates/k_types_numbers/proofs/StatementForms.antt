-- Each form of a statement is numbered where it has its number and its parts are numbered.
use Rattle.std.proofs.Common.{ℕ, ℤ, ◌≡◌, List, map, Option, Some, None, refl, sym, ap, ◌∙◌, subst}
use Rattle.k_num.specs.declared.numbers.Kind.{Kind}
use Rattle.k_num.specs.declared.place.Place.{Place}
use Rattle.k_types_meaning.specs.declared.tree.declaration.TDeclarator.{TDeclarator}
use Rattle.k_types_meaning.specs.declared.tree.expression.TExpr.{TExpr}
use Rattle.k_types_meaning.specs.declared.tree.statement.Spot.{Spot}
use Rattle.k_types_meaning.specs.declared.tree.statement.TFirst.{TFirst}
use Rattle.k_types_meaning.specs.declared.tree.statement.TPart.{TPart}
use Rattle.k_types_meaning.specs.declared.tree.statement.TPart.TheVariants as part
use Rattle.k_types_meaning.specs.declared.tree.statement.TStmt.{TStmt}
use Rattle.k_types_meaning.specs.declared.tree.statement.TStmt.TheVariants as stmt
use Rattle.k_types_meaning.specs.Bare.{bare_spot, bare_expr, bare_option, bare_first, bare_stmt, bare_stmt_step, bare_part_step}
use Rattle.k_types_meaning.proofs.Folds.{done_Expr, done_Empty, done_Block, done_alone, done_else, done_While, done_DoWhile, done_For, done_Switch, done_Break, done_Continue, done_Return, done_Declare, part_Case, part_Default, part_Does}
use Rattle.k_types_meaning.specs.Numbered.{Numbers, nothing, before, listed, expr_numbers, option_numbers, declared_numbers, first_numbers, stmt_numbers, stmt_numbers_step, part_numbers_step}
use Rattle.k_types_numbers.specs.declared.counts.Counts.{Counts}
use Rattle.k_types_numbers.specs.Counting.{Counted}
use Rattle.k_types_numbers.specs.Renumbering.{NumbersExpr, NumbersOption, NumbersDeclared, NumbersFirst, NumbersClauses, NumbersStmt, NumbersStmts, NumbersBehind, NumbersPart, NumbersParts, bare_part, part_numbers, one_loop}
use Rattle.k_types_numbers.specs.Steps.{loop_counted}
use Rattle.k_types_numbers.proofs.CountingLaws.{both_counted, nothing_more, loop_first, before-assoc, numbered_of}

-- the place with this number
abbrev pub spot_number : Spot → ℕ → Spot
spot_number spot n = record spot { number = n }

-- an expression
pub numbers_Expr : (number : ℕ) (spot : Spot) (a x : TExpr) (s t : Counts) → NumbersExpr a x s t
    → NumbersBehind number (stmt.Expr spot a) (stmt.Expr (spot_number spot number) x) s t
numbers_Expr number spot a x s t h = record {
  parts = expr_numbers x;
  same = done_Expr TPart TStmt bare_part_step bare_stmt_step (spot_number spot number) x ∙ (ap (stmt.Expr (bare_spot spot)) h.same ∙ sym (done_Expr TPart TStmt bare_part_step bare_stmt_step spot a));
  listed = done_Expr Numbers Numbers part_numbers_step stmt_numbers_step (spot_number spot number) x;
  counted = h.counted;
}

-- the empty statement
pub numbers_Empty : (number : ℕ) (spot : Spot) (s : Counts) → NumbersBehind number (stmt.Empty spot) (stmt.Empty (spot_number spot number)) s s
numbers_Empty number spot s = record {
  parts = nothing;
  same = done_Empty TPart TStmt bare_part_step bare_stmt_step (spot_number spot number) ∙ sym (done_Empty TPart TStmt bare_part_step bare_stmt_step spot);
  listed = done_Empty Numbers Numbers part_numbers_step stmt_numbers_step (spot_number spot number);
  counted = nothing_more s;
}

-- a block
pub numbers_Block : (number : ℕ) (spot : Spot) (as_ xs : List TStmt) (s t : Counts) → NumbersStmts as_ xs s t
    → NumbersBehind number (stmt.Block spot as_) (stmt.Block (spot_number spot number) xs) s t
numbers_Block number spot as_ xs s t h = record {
  parts = listed (map stmt_numbers xs);
  same = done_Block TPart TStmt bare_part_step bare_stmt_step (spot_number spot number) xs ∙ (ap (stmt.Block (bare_spot spot)) h.same ∙ sym (done_Block TPart TStmt bare_part_step bare_stmt_step spot as_));
  listed = done_Block Numbers Numbers part_numbers_step stmt_numbers_step (spot_number spot number) xs;
  counted = h.counted;
}

-- a `break`
pub numbers_Break : (number : ℕ) (spot : Spot) (s : Counts) → NumbersBehind number (stmt.Break spot) (stmt.Break (spot_number spot number)) s s
numbers_Break number spot s = record {
  parts = nothing;
  same = done_Break TPart TStmt bare_part_step bare_stmt_step (spot_number spot number) ∙ sym (done_Break TPart TStmt bare_part_step bare_stmt_step spot);
  listed = done_Break Numbers Numbers part_numbers_step stmt_numbers_step (spot_number spot number);
  counted = nothing_more s;
}

-- a `continue`
pub numbers_Continue : (number : ℕ) (spot : Spot) (s : Counts) → NumbersBehind number (stmt.Continue spot) (stmt.Continue (spot_number spot number)) s s
numbers_Continue number spot s = record {
  parts = nothing;
  same = done_Continue TPart TStmt bare_part_step bare_stmt_step (spot_number spot number) ∙ sym (done_Continue TPart TStmt bare_part_step bare_stmt_step spot);
  listed = done_Continue Numbers Numbers part_numbers_step stmt_numbers_step (spot_number spot number);
  counted = nothing_more s;
}

-- a `return`
pub numbers_Return : (number : ℕ) (spot : Spot) (a x : Option TExpr) (s t : Counts) → NumbersOption a x s t
    → NumbersBehind number (stmt.Return spot a) (stmt.Return (spot_number spot number) x) s t
numbers_Return number spot a x s t h = record {
  parts = option_numbers x;
  same = done_Return TPart TStmt bare_part_step bare_stmt_step (spot_number spot number) x ∙ (ap (stmt.Return (bare_spot spot)) h.same ∙ sym (done_Return TPart TStmt bare_part_step bare_stmt_step spot a));
  listed = done_Return Numbers Numbers part_numbers_step stmt_numbers_step (spot_number spot number) x;
  counted = h.counted;
}

-- declared variables
pub numbers_Declare : (number : ℕ) (spot : Spot) (ds xs : List TDeclarator) (s t : Counts) → NumbersDeclared ds xs s t
    → NumbersBehind number (stmt.Declare spot ds) (stmt.Declare (spot_number spot number) xs) s t
numbers_Declare number spot ds xs s t h = record {
  parts = declared_numbers xs;
  same = done_Declare TPart TStmt bare_part_step bare_stmt_step (spot_number spot number) xs ∙ (ap (stmt.Declare (bare_spot spot)) h.same ∙ sym (done_Declare TPart TStmt bare_part_step bare_stmt_step spot ds));
  listed = done_Declare Numbers Numbers part_numbers_step stmt_numbers_step (spot_number spot number) xs;
  counted = h.counted;
}

-- an `if` without an `else`
pub numbers_alone : (number : ℕ) (spot : Spot) (a x : TExpr) (b y : TStmt) (s m t : Counts) → NumbersExpr a x s m → NumbersStmt b y m t
    → NumbersBehind number (stmt.If spot a b None) (stmt.If (spot_number spot number) x y None) s t
numbers_alone number spot a x b y s m t h k =
    let made : stmt.If (bare_spot spot) (bare_expr x) (bare_stmt y) None ≡ stmt.If (bare_spot spot) (bare_expr a) (bare_stmt b) None =
    λ i. stmt.If (bare_spot spot) (h.same i) (k.same i) None in
    record {
      parts = before (expr_numbers x) (before (stmt_numbers y) nothing);
      same = done_alone TPart TStmt bare_part_step bare_stmt_step (spot_number spot number) x y ∙ (made ∙ sym (done_alone TPart TStmt bare_part_step bare_stmt_step spot a b));
      listed = done_alone Numbers Numbers part_numbers_step stmt_numbers_step (spot_number spot number) x y;
      counted = both_counted (expr_numbers x) (before (stmt_numbers y) nothing) s m t h.counted (both_counted (stmt_numbers y) nothing m t t k.counted (nothing_more t));
    }

-- an `if` with an `else`
pub numbers_else : (number : ℕ) (spot : Spot) (a x : TExpr) (b c y z : TStmt) (s m n t : Counts) → NumbersExpr a x s m → NumbersStmt b y m n → NumbersStmt c z n t
    → NumbersBehind number (stmt.If spot a b (Some c)) (stmt.If (spot_number spot number) x y (Some z)) s t
numbers_else number spot a x b c y z s m n t h k l =
    let made : stmt.If (bare_spot spot) (bare_expr x) (bare_stmt y) (Some (bare_stmt z)) ≡ stmt.If (bare_spot spot) (bare_expr a) (bare_stmt b) (Some (bare_stmt c)) =
    λ i. stmt.If (bare_spot spot) (h.same i) (k.same i) (Some (l.same i)) in
    record {
      parts = before (expr_numbers x) (before (stmt_numbers y) (stmt_numbers z));
      same = done_else TPart TStmt bare_part_step bare_stmt_step (spot_number spot number) x y z ∙ (made ∙ sym (done_else TPart TStmt bare_part_step bare_stmt_step spot a b c));
      listed = done_else Numbers Numbers part_numbers_step stmt_numbers_step (spot_number spot number) x y z;
      counted = both_counted (expr_numbers x) (before (stmt_numbers y) (stmt_numbers z)) s m t h.counted (both_counted (stmt_numbers y) (stmt_numbers z) m n t k.counted l.counted);
    }

-- a `while` loop
pub numbers_While : (number : ℕ) (spot : Spot) (old turns : ℕ) (a x : TExpr) (b y : TStmt) (s l m t : Counts) → turns ≡ s.loops → l ≡ loop_counted s
    → NumbersExpr a x l m → NumbersStmt b y m t → NumbersBehind number (stmt.While spot old a b) (stmt.While (spot_number spot number) turns x y) s t
numbers_While number spot old turns a x b y s l m t is moved h k =
    let made : stmt.While (bare_spot spot) 0 (bare_expr x) (bare_stmt y) ≡ stmt.While (bare_spot spot) 0 (bare_expr a) (bare_stmt b) =
    λ i. stmt.While (bare_spot spot) 0 (h.same i) (k.same i) in
    record {
      parts = one_loop turns (before (expr_numbers x) (stmt_numbers y));
      same = done_While TPart TStmt bare_part_step bare_stmt_step (spot_number spot number) turns x y ∙ (made ∙ sym (done_While TPart TStmt bare_part_step bare_stmt_step spot old a b));
      listed = done_While Numbers Numbers part_numbers_step stmt_numbers_step (spot_number spot number) turns x y;
      counted = loop_first (before (expr_numbers x) (stmt_numbers y)) turns s l t is moved (both_counted (expr_numbers x) (stmt_numbers y) l m t h.counted k.counted);
    }

-- a `do` loop
pub numbers_DoWhile : (number : ℕ) (spot : Spot) (old turns : ℕ) (b y : TStmt) (a x : TExpr) (s l m t : Counts) → turns ≡ s.loops → l ≡ loop_counted s
    → NumbersStmt b y l m → NumbersExpr a x m t → NumbersBehind number (stmt.DoWhile spot old b a) (stmt.DoWhile (spot_number spot number) turns y x) s t
numbers_DoWhile number spot old turns b y a x s l m t is moved k h =
    let made : stmt.DoWhile (bare_spot spot) 0 (bare_stmt y) (bare_expr x) ≡ stmt.DoWhile (bare_spot spot) 0 (bare_stmt b) (bare_expr a) =
    λ i. stmt.DoWhile (bare_spot spot) 0 (k.same i) (h.same i) in
    record {
      parts = one_loop turns (before (stmt_numbers y) (expr_numbers x));
      same = done_DoWhile TPart TStmt bare_part_step bare_stmt_step (spot_number spot number) turns y x ∙ (made ∙ sym (done_DoWhile TPart TStmt bare_part_step bare_stmt_step spot old b a));
      listed = done_DoWhile Numbers Numbers part_numbers_step stmt_numbers_step (spot_number spot number) turns y x;
      counted = loop_first (before (stmt_numbers y) (expr_numbers x)) turns s l t is moved (both_counted (stmt_numbers y) (expr_numbers x) l m t k.counted h.counted);
    }

-- what stands in the parentheses of a `for`
pub clauses_numbered : (f g : TFirst) (a b x y : Option TExpr) (l m n t : Counts) → NumbersFirst f g l m → NumbersOption a x m n → NumbersOption b y n t
    → NumbersClauses f a b g x y l t
clauses_numbered f g a b x y l m n t h j k = record {
  first_same = h.same;
  test_same = j.same;
  step_same = k.same;
  counted = both_counted (first_numbers g) (before (option_numbers x) (option_numbers y)) l m t h.counted
      (both_counted (option_numbers x) (option_numbers y) m n t j.counted k.counted);
}

-- the same where they are known by other names
pub clauses_of : (f h g : TFirst) (a c x b d y : Option TExpr) (s t : Counts) → f ≡ h → a ≡ c → b ≡ d → NumbersClauses f a b g x y s t → NumbersClauses h c d g x y s t
clauses_of f h g a c x b d y s t p q r k =
    record { first_same = k.first_same ∙ ap bare_first p; test_same = k.test_same ∙ ap bare_option q; step_same = k.step_same ∙ ap bare_option r; counted = k.counted }

-- four parts in a row
in_a_row : (a b c d : Numbers) → before (before a (before b c)) d ≡ before a (before b (before c d))
in_a_row a b c d = sym (before-assoc a (before b c) d) ∙ ap (λ (n : Numbers). before a n) (sym (before-assoc b c d))

-- a `for` loop
pub numbers_For : (number : ℕ) (spot : Spot) (old turns : ℕ) (f g : TFirst) (a b x y : Option TExpr) (c z : TStmt) (s l m t : Counts) → turns ≡ s.loops → l ≡ loop_counted s
    → NumbersClauses f a b g x y l m → NumbersStmt c z m t → NumbersBehind number (stmt.For spot old f a b c) (stmt.For (spot_number spot number) turns g x y z) s t
numbers_For number spot old turns f g a b x y c z s l m t is moved h k =
    let made : stmt.For (bare_spot spot) 0 (bare_first g) (bare_option x) (bare_option y) (bare_stmt z) ≡ stmt.For (bare_spot spot) 0 (bare_first f) (bare_option a) (bare_option b) (bare_stmt c) =
    λ i. stmt.For (bare_spot spot) 0 (h.first_same i) (h.test_same i) (h.step_same i) (k.same i) in
    let parts : Numbers = before (first_numbers g) (before (option_numbers x) (before (option_numbers y) (stmt_numbers z))) in
    record {
      parts = one_loop turns parts;
      same = done_For TPart TStmt bare_part_step bare_stmt_step (spot_number spot number) turns g x y z ∙ (made ∙ sym (done_For TPart TStmt bare_part_step bare_stmt_step spot old f a b c));
      listed = done_For Numbers Numbers part_numbers_step stmt_numbers_step (spot_number spot number) turns g x y z;
      counted = loop_first parts turns s l t is moved
          (subst (λ (n : Numbers). Counted n l t) (in_a_row (first_numbers g) (option_numbers x) (option_numbers y) (stmt_numbers z))
          (both_counted (before (first_numbers g) (before (option_numbers x) (option_numbers y))) (stmt_numbers z) l m t h.counted k.counted));
    }

-- a `switch`
pub numbers_Switch : (number : ℕ) (spot : Spot) (kind : Kind) (a x : TExpr) (ps xs : List TPart) (s m t : Counts) → NumbersExpr a x s m → NumbersParts ps xs m t
    → NumbersBehind number (stmt.Switch spot kind a ps) (stmt.Switch (spot_number spot number) kind x xs) s t
numbers_Switch number spot kind a x ps xs s m t h k =
    let made : stmt.Switch (bare_spot spot) kind (bare_expr x) (map bare_part xs) ≡ stmt.Switch (bare_spot spot) kind (bare_expr a) (map bare_part ps) =
    λ i. stmt.Switch (bare_spot spot) kind (h.same i) (k.same i) in
    record {
      parts = before (expr_numbers x) (listed (map part_numbers xs));
      same = done_Switch TPart TStmt bare_part_step bare_stmt_step (spot_number spot number) kind x xs ∙ (made ∙ sym (done_Switch TPart TStmt bare_part_step bare_stmt_step spot kind a ps));
      listed = done_Switch Numbers Numbers part_numbers_step stmt_numbers_step (spot_number spot number) kind x xs;
      counted = both_counted (expr_numbers x) (listed (map part_numbers xs)) s m t h.counted k.counted;
    }

-- a `case` label
pub part_case : (p : Place) (value : ℤ) (s : Counts) → NumbersPart (part.Case p value) (part.Case p value) s s
part_case p value s = record { same = refl; counted = subst (λ (n : Numbers). Counted n s s) (sym (part_Case Numbers Numbers part_numbers_step stmt_numbers_step p value)) (nothing_more s) }

-- a `default` label
pub part_default : (p : Place) (s : Counts) → NumbersPart (part.Default p) (part.Default p) s s
part_default p s = record { same = refl; counted = subst (λ (n : Numbers). Counted n s s) (sym (part_Default Numbers Numbers part_numbers_step stmt_numbers_step p)) (nothing_more s) }

-- a statement in the braces of a `switch`
pub part_does : (p : Place) (a x : TStmt) (s t : Counts) → NumbersStmt a x s t → NumbersPart (part.Does p a) (part.Does p x) s t
part_does p a x s t h = record {
  same = part_Does TPart TStmt bare_part_step bare_stmt_step p x ∙ (ap (part.Does p) h.same ∙ sym (part_Does TPart TStmt bare_part_step bare_stmt_step p a));
  counted = subst (λ (n : Numbers). Counted n s t) (sym (part_Does Numbers Numbers part_numbers_step stmt_numbers_step p x)) h.counted;
}

-- what is an `if` without an `else`
pub alone_of : (number : ℕ) (e : TStmt) (spot : Spot) (a x : TExpr) (b y : TStmt) (o : Option TStmt) (s m t : Counts) → e ≡ stmt.If spot a b o → o ≡ None
    → NumbersExpr a x s m → NumbersStmt b y m t → NumbersBehind number e (stmt.If (spot_number spot number) x y None) s t
alone_of number e spot a x b y o s m t is none h k =
    numbered_of TStmt bare_stmt stmt_numbers number e (stmt.If spot a b None) (stmt.If (spot_number spot number) x y None) s t
    (is ∙ ap (λ (p : Option TStmt). stmt.If spot a b p) none) (numbers_alone number spot a x b y s m t h k)

-- what is an `if` with an `else`
pub else_of : (number : ℕ) (e : TStmt) (spot : Spot) (a x : TExpr) (b c y z : TStmt) (o : Option TStmt) (s m n t : Counts) → e ≡ stmt.If spot a b o → o ≡ Some c
    → NumbersExpr a x s m → NumbersStmt b y m n → NumbersStmt c z n t → NumbersBehind number e (stmt.If (spot_number spot number) x y (Some z)) s t
else_of number e spot a x b c y z o s m n t is some h k l =
    numbered_of TStmt bare_stmt stmt_numbers number e (stmt.If spot a b (Some c)) (stmt.If (spot_number spot number) x y (Some z)) s t
    (is ∙ ap (λ (p : Option TStmt). stmt.If spot a b p) some) (numbers_else number spot a x b c y z s m n t h k l)
