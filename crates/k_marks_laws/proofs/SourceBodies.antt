-- What typing says of a loop without its numbers, it says of the loop.
use Rattle.std.proofs.Common.{◌≡◌, ℕ, ◌+◌, List, [], ◌∷◌, ◌++◌, map, Option, Some, None, refl, sym, ◌∙◌, ap, subst, arith}
use Rattle.std.proofs.lemmas.List.{map-append}
use Rattle.k_num.specs.declared.numbers.Kind.{Kind}
use Rattle.k_types_meaning.specs.declared.tree.declaration.TDeclarator.{TDeclarator}
use Rattle.k_types_meaning.specs.declared.tree.expression.TExpr.{TExpr}
use Rattle.k_types_meaning.specs.declared.tree.statement.TFirst.{TFirst}
use Rattle.k_types_meaning.specs.declared.tree.statement.TFirst.TheVariants as first
use Rattle.k_types_meaning.specs.declared.tree.statement.TPart.{TPart, fold-roll-TPart, map-TPart}
use Rattle.k_types_meaning.specs.declared.tree.statement.TPart.TheOpen.{TPart-F, TStmt-F}
use Rattle.k_types_meaning.specs.declared.tree.statement.TStmt.{TStmt, fold-roll-TStmt, ind-TStmt, map-TStmt}
use Rattle.k_types_meaning.specs.Bare.{bare_declared, bare_expr, bare_first, bare_init, bare_option, bare_part_step, bare_spot, bare_stmt, bare_stmt_step}
use Rattle.k_types_meaning.proofs.Folds.{done_Expr, done_Empty, done_Block, done_alone, done_else, done_While, done_DoWhile, done_For, done_Switch, done_Break, done_Continue, done_Return, done_Declare, part_Case, part_Default, part_Does}
use Rattle.k_marks_meaning.specs.declared.uses.Use.{Use}
use Rattle.k_marks_meaning.specs.declared.uses.Use.TheVariants.{Names, Assigns, Declares, Reduces}
use Rattle.k_marks_meaning.specs.Uses.{uses_of, option_uses, first_uses, init_uses, declared_uses}
use Rattle.k_marks_meaning.specs.Contents.{Inside, inside, part_inside, inside_step, part_step, row}
use Rattle.k_marks_meaning.specs.Reductions.{action_uses}
use Rattle.k_marks_laws.specs.Counted.{IsNotDeclared, EachNamed}
use Rattle.k_marks_laws.specs.Reduced.{joined, expressions_in, expressions_step, part_expressions}
use Rattle.k_marks_laws.specs.Turns.{TLoop}
use Rattle.k_marks_laws.proofs.Bared.{option_bare}
use Rattle.k_marks_laws.proofs.Declared.{DeclaresFrom, expr_from, option_from, action_from, init_from, not_declared}
use Rattle.k_marks_laws.proofs.Good.{AllGood}
use Rattle.k_marks_laws.proofs.GoodBare.{option_good_bare, all_good_bare}
use Rattle.k_marks_laws.proofs.Sound.{GoodLoop, WithStep, part_expressions_in}
use Rattle.k_marks_laws.proofs.Standing.{bare_loop, bare_part}

-- ITS EXPRESSION STATEMENTS
abbrev SamePart : TPart → Type 0
SamePart p = part_expressions_in (bare_part p) ≡ map bare_expr (part_expressions_in p)

abbrev SameStmt : TStmt → Type 0
SameStmt s = expressions_in (bare_stmt s) ≡ map bare_expr (expressions_in s)

abbrev part_trees : List ((p : TPart) × SamePart p) → List TPart
part_trees xs = map (λ (x : (p : TPart) × SamePart p). x.0) xs

abbrev stmt_trees : List ((s : TStmt) × SameStmt s) → List TStmt
stmt_trees xs = map (λ (x : (s : TStmt) × SameStmt s). x.0) xs

all_same : (xs : List ((s : TStmt) × SameStmt s)) → joined (map expressions_in (map bare_stmt (stmt_trees xs))) ≡ map bare_expr (joined (map expressions_in (stmt_trees xs)))
all_same [] = refl
all_same (x ∷ xs) = (λ i. x.1 i ++ all_same xs i) ∙ sym (map-append bare_expr (expressions_in x.0) (joined (map expressions_in (stmt_trees xs))))

parts_same : (xs : List ((p : TPart) × SamePart p))
    → joined (map part_expressions_in (map bare_part (part_trees xs))) ≡ map bare_expr (joined (map part_expressions_in (part_trees xs)))
parts_same [] = refl
parts_same (x ∷ xs) = (λ i. x.1 i ++ parts_same xs i) ∙ sym (map-append bare_expr (part_expressions_in x.0) (joined (map part_expressions_in (part_trees xs))))

abbrev PartLayer : TPart-F TPart TStmt → Type 0
PartLayer z =
    part_expressions_in (bare_part_step (map-TPart TPart TStmt TPart TStmt bare_part bare_stmt z))
    ≡ map bare_expr (part_expressions (map-TPart TPart TStmt (List TExpr) (List TExpr) part_expressions_in expressions_in z))

abbrev StmtLayer : TStmt-F TPart TStmt → Type 0
StmtLayer z =
    expressions_in (bare_stmt_step (map-TStmt TPart TStmt TPart TStmt bare_part bare_stmt z))
    ≡ map bare_expr (expressions_step (map-TStmt TPart TStmt (List TExpr) (List TExpr) part_expressions_in expressions_in z))

part_by : (y : TPart-F ((p : TPart) × SamePart p) ((s : TStmt) × SameStmt s))
    → PartLayer (map-TPart _ _ TPart TStmt (λ (x : (p : TPart) × SamePart p). x.0) (λ (x : (s : TStmt) × SameStmt s). x.0) y)
part_by (TPart-F.Case p z) = part_Case (List TExpr) (List TExpr) part_expressions expressions_step p z
part_by (TPart-F.Default p) = part_Default (List TExpr) (List TExpr) part_expressions expressions_step p
part_by (TPart-F.Does p s) = part_Does (List TExpr) (List TExpr) part_expressions expressions_step p (bare_stmt s.0) ∙ s.1

stmt_by : (y : TStmt-F ((p : TPart) × SamePart p) ((s : TStmt) × SameStmt s))
    → StmtLayer (map-TStmt _ _ TPart TStmt (λ (x : (p : TPart) × SamePart p). x.0) (λ (x : (s : TStmt) × SameStmt s). x.0) y)
stmt_by (TStmt-F.Expr spot e) = done_Expr (List TExpr) (List TExpr) part_expressions expressions_step (bare_spot spot) (bare_expr e)
stmt_by (TStmt-F.Empty spot) = done_Empty (List TExpr) (List TExpr) part_expressions expressions_step (bare_spot spot)
stmt_by (TStmt-F.Block spot parts) = done_Block (List TExpr) (List TExpr) part_expressions expressions_step (bare_spot spot) (map bare_stmt (stmt_trees parts)) ∙ all_same parts
stmt_by (TStmt-F.If spot test a None) = done_alone (List TExpr) (List TExpr) part_expressions expressions_step (bare_spot spot) (bare_expr test) (bare_stmt a.0) ∙ ap (λ (es : List TExpr). es ++ []) a.1 ∙ sym (map-append bare_expr (expressions_in a.0) [])
stmt_by (TStmt-F.If spot test a (Some b)) = done_else (List TExpr) (List TExpr) part_expressions expressions_step (bare_spot spot) (bare_expr test) (bare_stmt a.0) (bare_stmt b.0) ∙ (λ i. a.1 i ++ b.1 i) ∙ sym (map-append bare_expr (expressions_in a.0) (expressions_in b.0))
stmt_by (TStmt-F.While spot number test a) = done_While (List TExpr) (List TExpr) part_expressions expressions_step (bare_spot spot) 0 (bare_expr test) (bare_stmt a.0) ∙ a.1
stmt_by (TStmt-F.DoWhile spot number a test) = done_DoWhile (List TExpr) (List TExpr) part_expressions expressions_step (bare_spot spot) 0 (bare_stmt a.0) (bare_expr test) ∙ a.1
stmt_by (TStmt-F.For spot number start test step a) = done_For (List TExpr) (List TExpr) part_expressions expressions_step (bare_spot spot) 0 (bare_first start) (bare_option test) (bare_option step) (bare_stmt a.0) ∙ a.1
stmt_by (TStmt-F.Switch spot kind on parts) = done_Switch (List TExpr) (List TExpr) part_expressions expressions_step (bare_spot spot) kind (bare_expr on) (map bare_part (part_trees parts)) ∙ parts_same parts
stmt_by (TStmt-F.Break spot) = done_Break (List TExpr) (List TExpr) part_expressions expressions_step (bare_spot spot)
stmt_by (TStmt-F.Continue spot) = done_Continue (List TExpr) (List TExpr) part_expressions expressions_step (bare_spot spot)
stmt_by (TStmt-F.Return spot e) = done_Return (List TExpr) (List TExpr) part_expressions expressions_step (bare_spot spot) (bare_option e)
stmt_by (TStmt-F.Declare spot list) = done_Declare (List TExpr) (List TExpr) part_expressions expressions_step (bare_spot spot) (bare_declared list)

pub expressions_bare : (s : TStmt) → expressions_in (bare_stmt s) ≡ map bare_expr (expressions_in s)
expressions_bare =
    ind-TStmt SamePart SameStmt
    (λ x y is.
    ap part_expressions_in (fold-roll-TPart TPart TStmt bare_part_step bare_stmt_step x) ∙ subst PartLayer is (part_by y)
    ∙ ap (map bare_expr) (sym (fold-roll-TPart (List TExpr) (List TExpr) part_expressions expressions_step x)))
    (λ x y is.
    ap expressions_in (fold-roll-TStmt TPart TStmt bare_part_step bare_stmt_step x) ∙ subst StmtLayer is (stmt_by y)
    ∙ ap (map bare_expr) (sym (fold-roll-TStmt (List TExpr) (List TExpr) part_expressions expressions_step x)))

-- WHAT IT DOES NOT DECLARE
module _ (n : ℕ) where
  abbrev Not : List Use → Type 0
  Not us = IsNotDeclared n us

  none : (us : List Use) → DeclaresFrom (n + 1) us → Not us
  none us h = not_declared (n + 1) n us (omega arith) h

  not_both : (xs ys : List Use) → Not xs → Not ys → Not (xs ++ ys)
  not_both [] ys h k = k
  not_both (Names m ∷ xs) ys h k = not_both xs ys h k
  not_both (Assigns m ∷ xs) ys h k = not_both xs ys h k
  not_both (Declares m ∷ xs) ys h k = (h.0, not_both xs ys h.1 k)
  not_both (Reduces r ∷ xs) ys h k = not_both xs ys h k

  not_front : (xs ys : List Use) → Not (xs ++ ys) → Not xs
  not_front [] ys h = tt
  not_front (Names m ∷ xs) ys h = not_front xs ys h
  not_front (Assigns m ∷ xs) ys h = not_front xs ys h
  not_front (Declares m ∷ xs) ys h = (h.0, not_front xs ys h.1)
  not_front (Reduces r ∷ xs) ys h = not_front xs ys h

  not_behind : (xs ys : List Use) → Not (xs ++ ys) → Not ys
  not_behind [] ys h = h
  not_behind (Names m ∷ xs) ys h = not_behind xs ys h
  not_behind (Assigns m ∷ xs) ys h = not_behind xs ys h
  not_behind (Declares m ∷ xs) ys h = not_behind xs ys h.1
  not_behind (Reduces r ∷ xs) ys h = not_behind xs ys h

  -- one text behind another, each without its numbers
  both_not : (as_ bs xs ys : List Use) → (Not as_ → Not xs) → (Not bs → Not ys) → Not (as_ ++ bs) → Not (xs ++ ys)
  both_not as_ bs xs ys f g h = not_both xs ys (f (not_front as_ bs h)) (g (not_behind as_ bs h))

  declared_not : (list : List TDeclarator) → Not (declared_uses (bare_declared list)) → Not (declared_uses list)
  declared_not [] h = tt
  declared_not (d ∷ list) h = (
    h.0,
    not_both (init_uses d.init) (declared_uses list) (none (init_uses d.init) (init_from (n + 1) d.init))
        (declared_not list (not_behind (init_uses (bare_init d.init)) (declared_uses (bare_declared list)) h.1)),
  )

  first_not : (f : TFirst) → Not (first_uses (bare_first f)) → Not (first_uses f)
  first_not first.Nothing h = tt
  first_not (first.Value e) h = none (uses_of e) (expr_from (n + 1) e)
  first_not (first.Declare list) h = declared_not list h

  abbrev NotPart : TPart → Type 0
  NotPart p = Not (part_inside (bare_part p)).uses → Not (part_inside p).uses

  abbrev NotStmt : TStmt → Type 0
  NotStmt s = Not (inside (bare_stmt s)).uses → Not (inside s).uses

  abbrev not_parts : List ((p : TPart) × NotPart p) → List TPart
  not_parts xs = map (λ (x : (p : TPart) × NotPart p). x.0) xs

  abbrev not_stmts : List ((s : TStmt) × NotStmt s) → List TStmt
  not_stmts xs = map (λ (x : (s : TStmt) × NotStmt s). x.0) xs

  all_not : (xs : List ((s : TStmt) × NotStmt s)) → Not (row (map inside (map bare_stmt (not_stmts xs)))).uses → Not (row (map inside (not_stmts xs))).uses
  all_not [] h = tt
  all_not (x ∷ xs) h =
      both_not (inside (bare_stmt x.0)).uses (row (map inside (map bare_stmt (not_stmts xs)))).uses (inside x.0).uses (row (map inside (not_stmts xs))).uses x.1 (all_not xs) h

  parts_not : (xs : List ((p : TPart) × NotPart p)) → Not (row (map part_inside (map bare_part (not_parts xs)))).uses → Not (row (map part_inside (not_parts xs))).uses
  parts_not [] h = tt
  parts_not (x ∷ xs) h =
      both_not (part_inside (bare_part x.0)).uses (row (map part_inside (map bare_part (not_parts xs)))).uses (part_inside x.0).uses (row (map part_inside (not_parts xs))).uses x.1 (parts_not xs) h

  abbrev NotPartLayer : TPart-F TPart TStmt → Type 0
  NotPartLayer z =
      Not (part_inside (bare_part_step (map-TPart TPart TStmt TPart TStmt bare_part bare_stmt z))).uses
      → Not (part_step (map-TPart TPart TStmt Inside Inside part_inside inside z)).uses

  abbrev NotStmtLayer : TStmt-F TPart TStmt → Type 0
  NotStmtLayer z =
      Not (inside (bare_stmt_step (map-TStmt TPart TStmt TPart TStmt bare_part bare_stmt z))).uses
      → Not (inside_step (map-TStmt TPart TStmt Inside Inside part_inside inside z)).uses

  -- what is found is this
  found_not : (i j : Inside) → i ≡ j → Not i.uses → Not j.uses
  found_not i j is h = subst (λ (x : Inside). Not x.uses) is h

  not_part_by : (y : TPart-F ((p : TPart) × NotPart p) ((s : TStmt) × NotStmt s))
      → NotPartLayer (map-TPart _ _ TPart TStmt (λ (x : (p : TPart) × NotPart p). x.0) (λ (x : (s : TStmt) × NotStmt s). x.0) y)
  not_part_by (TPart-F.Case p z) h = tt
  not_part_by (TPart-F.Default p) h = tt
  not_part_by (TPart-F.Does p s) h = s.1 (found_not _ _ (part_Does Inside Inside part_step inside_step p (bare_stmt s.0)) h)

  not_stmt_by : (y : TStmt-F ((p : TPart) × NotPart p) ((s : TStmt) × NotStmt s))
      → NotStmtLayer (map-TStmt _ _ TPart TStmt (λ (x : (p : TPart) × NotPart p). x.0) (λ (x : (s : TStmt) × NotStmt s). x.0) y)
  not_stmt_by (TStmt-F.Expr spot e) h = none (action_uses e) (action_from (n + 1) e)
  not_stmt_by (TStmt-F.Empty spot) h = tt
  not_stmt_by (TStmt-F.Block spot parts) h =
      let k = found_not _ _ (done_Block Inside Inside part_step inside_step (bare_spot spot) (map bare_stmt (not_stmts parts))) h in
      all_not parts k
  not_stmt_by (TStmt-F.If spot test a None) h =
      let k = found_not _ _ (done_alone Inside Inside part_step inside_step (bare_spot spot) (bare_expr test) (bare_stmt a.0)) h in
      not_both (uses_of test) ((inside a.0).uses ++ []) (none (uses_of test) (expr_from (n + 1) test))
      (not_both (inside a.0).uses [] (a.1 (not_front (inside (bare_stmt a.0)).uses [] (not_behind (uses_of (bare_expr test)) ((inside (bare_stmt a.0)).uses ++ []) k))) tt)
  not_stmt_by (TStmt-F.If spot test a (Some b)) h =
      let k = found_not _ _ (done_else Inside Inside part_step inside_step (bare_spot spot) (bare_expr test) (bare_stmt a.0) (bare_stmt b.0)) h in
      not_both (uses_of test) ((inside a.0).uses ++ (inside b.0).uses) (none (uses_of test) (expr_from (n + 1) test))
      (both_not (inside (bare_stmt a.0)).uses (inside (bare_stmt b.0)).uses (inside a.0).uses (inside b.0).uses a.1 b.1
      (not_behind (uses_of (bare_expr test)) ((inside (bare_stmt a.0)).uses ++ (inside (bare_stmt b.0)).uses) k))
  not_stmt_by (TStmt-F.While spot number test a) h =
      let k = found_not _ _ (done_While Inside Inside part_step inside_step (bare_spot spot) 0 (bare_expr test) (bare_stmt a.0)) h in
      not_both (uses_of test) (inside a.0).uses (none (uses_of test) (expr_from (n + 1) test)) (a.1 (not_behind (uses_of (bare_expr test)) (inside (bare_stmt a.0)).uses k))
  not_stmt_by (TStmt-F.DoWhile spot number a test) h =
      let k = found_not _ _ (done_DoWhile Inside Inside part_step inside_step (bare_spot spot) 0 (bare_stmt a.0) (bare_expr test)) h in
      not_both (inside a.0).uses (uses_of test) (a.1 (not_front (inside (bare_stmt a.0)).uses (uses_of (bare_expr test)) k)) (none (uses_of test) (expr_from (n + 1) test))
  not_stmt_by (TStmt-F.For spot number start test step a) h =
      let k = found_not _ _ (done_For Inside Inside part_step inside_step (bare_spot spot) 0 (bare_first start) (bare_option test) (bare_option step) (bare_stmt a.0)) h in
      let rest = not_behind (first_uses (bare_first start)) (option_uses (bare_option test) ++ (option_uses (bare_option step) ++ (inside (bare_stmt a.0)).uses)) k in
      let last = not_behind (option_uses (bare_option step)) (inside (bare_stmt a.0)).uses
      (not_behind (option_uses (bare_option test)) (option_uses (bare_option step) ++ (inside (bare_stmt a.0)).uses) rest) in
      not_both (first_uses start) (option_uses test ++ (option_uses step ++ (inside a.0).uses))
      (first_not start (not_front (first_uses (bare_first start)) (option_uses (bare_option test) ++ (option_uses (bare_option step) ++ (inside (bare_stmt a.0)).uses)) k))
      (not_both (option_uses test) (option_uses step ++ (inside a.0).uses) (none (option_uses test) (option_from (n + 1) test))
      (not_both (option_uses step) (inside a.0).uses (none (option_uses step) (option_from (n + 1) step)) (a.1 last)))
  not_stmt_by (TStmt-F.Switch spot kind on parts) h =
      let k = found_not _ _ (done_Switch Inside Inside part_step inside_step (bare_spot spot) kind (bare_expr on) (map bare_part (not_parts parts))) h in
      not_both (uses_of on) (row (map part_inside (not_parts parts))).uses (none (uses_of on) (expr_from (n + 1) on))
      (parts_not parts (not_behind (uses_of (bare_expr on)) (row (map part_inside (map bare_part (not_parts parts)))).uses k))
  not_stmt_by (TStmt-F.Break spot) h = tt
  not_stmt_by (TStmt-F.Continue spot) h = tt
  not_stmt_by (TStmt-F.Return spot e) h = none (option_uses e) (option_from (n + 1) e)
  not_stmt_by (TStmt-F.Declare spot list) h =
      let k = found_not _ _ (done_Declare Inside Inside part_step inside_step (bare_spot spot) (bare_declared list)) h in
      declared_not list k

  pub not_declared_bare : (s : TStmt) → NotStmt s
  not_declared_bare =
      ind-TStmt NotPart NotStmt
      (λ x y is h.
      found_not _ _ (sym (fold-roll-TPart Inside Inside part_step inside_step x))
      (subst NotPartLayer is (not_part_by y) (found_not _ _ (ap part_inside (fold-roll-TPart TPart TStmt bare_part_step bare_stmt_step x)) h)))
      (λ x y is h.
      found_not _ _ (sym (fold-roll-TStmt Inside Inside part_step inside_step x))
      (subst NotStmtLayer is (not_stmt_by y) (found_not _ _ (ap inside (fold-roll-TStmt TPart TStmt bare_part_step bare_stmt_step x)) h)))

-- A LOOP
scopes_so : (xs ys named : List Use) → ((n : ℕ) → IsNotDeclared n xs → IsNotDeclared n ys) → EachNamed (λ n. IsNotDeclared n xs) named → EachNamed (λ n. IsNotDeclared n ys) named
scopes_so xs ys [] so h = tt
scopes_so xs ys (Names m ∷ named) so h = (so m h.0, scopes_so xs ys named so h.1)
scopes_so xs ys (Assigns m ∷ named) so h = scopes_so xs ys named so h
scopes_so xs ys (Declares m ∷ named) so h = scopes_so xs ys named so h
scopes_so xs ys (Reduces r ∷ named) so h = scopes_so xs ys named so h

pub good_loop_bare : (K : ℕ → Kind → Type 0) (l : TLoop) → GoodLoop K (bare_loop l) → GoodLoop K l
good_loop_bare K l h = record {
  test = option_good_bare K l.test h.test;
  step = option_good_bare K l.step h.step;
  scopes = by l.step h.scopes;
  actions = all_good_bare K (expressions_in l.body) (subst (AllGood K) (expressions_bare l.body) h.actions);
}
  where
    by : (step : Option TExpr) → WithStep (bare_option step) (EachNamed (λ n. IsNotDeclared n (inside (bare_stmt l.body)).uses) (option_uses (bare_option l.test)))
        → WithStep step (EachNamed (λ n. IsNotDeclared n (inside l.body).uses) (option_uses l.test))
    by None k = tt
    by (Some e) k =
        scopes_so (inside (bare_stmt l.body)).uses (inside l.body).uses (option_uses l.test) (λ n. not_declared_bare n l.body)
        (subst (EachNamed (λ n. IsNotDeclared n (inside (bare_stmt l.body)).uses)) (option_bare l.test) k)
