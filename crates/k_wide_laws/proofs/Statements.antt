-- What holds of each use of a statement holds of each of its occurrences.
use Rattle.std.proofs.Common.{◌≡◌, Bool, true, List, [], ◌∷◌, ◌++◌, map, Option, Some, None, refl, sym, subst}
use Rattle.std.specs.Prelude.{unwrap_or}
use Rattle.std.specs.List.{list_all}
use Rattle.k_types_meaning.specs.declared.tree.expression.TExpr.{TExpr}
use Rattle.k_types_meaning.specs.declared.tree.statement.TPart.{TPart, fold-roll-TPart, map-TPart, roll-TPart}
use Rattle.k_types_meaning.specs.declared.tree.statement.TPart.TheOpen.{TPart-F, TStmt-F}
use Rattle.k_types_meaning.specs.declared.tree.statement.TStmt.{TStmt, fold-roll-TStmt, ind-TStmt, map-TStmt, roll-TStmt}
use Rattle.k_marks_meaning.specs.declared.uses.Use.{Use}
use Rattle.k_marks_meaning.specs.declared.jumps.Jumps.{Jumps}
use Rattle.k_marks_meaning.specs.Uses.{uses_of, option_uses, first_uses}
use Rattle.k_marks_meaning.specs.Contents.{Inside, inside_step, inside, part_inside}
use Rattle.k_marks_meaning.specs.Contents as marks
use Rattle.k_wide_meaning.specs.declared.occurrences.Occurrence.{Occurrence}
use Rattle.k_wide_meaning.specs.Occurrences.{occurs_in, option_occurs, first_occurs}
use Rattle.k_wide_meaning.specs.Contents.{Seen, WideLoop, seen_as, row, member, arm, kept_among, if_occurs, seen_step, part_step, seen, part_seen}
use Rattle.k_wide_laws.proofs.Kept.{Compatible, all_both, both_all, expression_kept, option_kept, declared_kept, first_kept}
use Rattle.k_wide_laws.proofs.Actions.{action_kept}
use Rattle.k_wide_laws.proofs.Members.{ActionIs, AreKept, among_kept}

module _ (p : Use → Bool) (q : Occurrence → Bool) (c : Compatible p q) where
  abbrev All : List Use → Type 0
  All us = list_all p us ≡ true

  abbrev Kept : List Occurrence → Type 0
  Kept os = list_all q os ≡ true

  -- WHAT A STATEMENT COMES TO
  record Comes (b : Seen) : Type 0 where
    occurs : Kept b.occurs
    action : ActionIs p q c b.action
    arm : AreKept p q c (arm b)

  -- no expression statement and no block
  other : (os : List Occurrence) (jumps : Jumps) (loops : List WideLoop) → Kept os → Comes (seen_as os jumps loops)
  other os jumps loops h = record { occurs = h; action = tt; arm = ((h, tt), tt) }

  abbrev Goes : Inside → Seen → Type 0
  Goes a b = All a.uses → Comes b

  abbrev GoesStmt : TStmt → Type 0
  GoesStmt s = Goes (inside s) (seen s)

  abbrev GoesPart : TPart → Type 0
  GoesPart s = Goes (part_inside s) (part_seen s)

  abbrev StmtAnd : Type 0
  StmtAnd = (s : TStmt) × GoesStmt s

  abbrev PartAnd : Type 0
  PartAnd = (s : TPart) × GoesPart s

  abbrev stmts : List StmtAnd → List TStmt
  stmts xs = map (λ (x : StmtAnd). x.0) xs

  abbrev parts_in : List PartAnd → List TPart
  parts_in xs = map (λ (x : PartAnd). x.0) xs

  row_kept : (xs : List StmtAnd) → All (marks.row (map inside (stmts xs))).uses → Kept (row (map seen (stmts xs))).occurs × AreKept p q c (map member (map seen (stmts xs)))
  row_kept [] h = (refl, tt)
  row_kept (x ∷ xs) h =
      let parts = all_both p (inside x.0).uses (marks.row (map inside (stmts xs))).uses h in
      let own = x.1 parts.0 in
      let rest = row_kept xs parts.1 in
      (both_all q (seen x.0).occurs (row (map seen (stmts xs))).occurs own.occurs rest.0, ((own.occurs, own.action), rest.1))

  parts_kept : (xs : List PartAnd) → All (marks.row (map part_inside (parts_in xs))).uses → Kept (row (map part_seen (parts_in xs))).occurs
  parts_kept [] h = refl
  parts_kept (x ∷ xs) h =
      let parts = all_both p (part_inside x.0).uses (marks.row (map part_inside (parts_in xs))).uses h in
      both_all q (part_seen x.0).occurs (row (map part_seen (parts_in xs))).occurs (x.1 parts.0).occurs (parts_kept xs parts.1)

  or_plain : (found : Option (List Occurrence)) (plain : List Occurrence) → ((os : List Occurrence) → found ≡ Some os → Kept os) → Kept plain → Kept (unwrap_or found plain)
  or_plain None plain h k = k
  or_plain (Some os) plain h k = h os refl

  alone_kept : (test : TExpr) (a : StmtAnd) → All (uses_of test) → All (inside a.0).uses → Kept (if_occurs test (seen a.0) None)
  alone_kept test a in_test in_a =
      let own = a.1 in_a in
      or_plain (kept_among test (arm (seen a.0))) (occurs_in test ++ (seen a.0).occurs) (λ os is. among_kept p q c test (arm (seen a.0)) os is in_test own.arm)
      (both_all q (occurs_in test) (seen a.0).occurs (expression_kept p q c test in_test) own.occurs)

  abbrev StmtLayer : TStmt-F TPart TStmt → Type 0
  StmtLayer z = Goes (inside_step (map-TStmt TPart TStmt Inside Inside part_inside inside z)) (seen_step (map-TStmt TPart TStmt Seen Seen part_seen seen z))

  abbrev PartLayer : TPart-F TPart TStmt → Type 0
  PartLayer z = Goes (marks.part_step (map-TPart TPart TStmt Inside Inside part_inside inside z)) (part_step (map-TPart TPart TStmt Seen Seen part_seen seen z))

  stmt_layer : (y : TStmt-F PartAnd StmtAnd) → StmtLayer (map-TStmt _ _ TPart TStmt (λ (x : PartAnd). x.0) (λ (x : StmtAnd). x.0) y)
  stmt_layer (TStmt-F.Expr spot e) h = let kept = action_kept p q c e h in record { occurs = kept; action = h; arm = ((kept, h), tt) }
  stmt_layer (TStmt-F.Empty spot) h = other _ _ _ refl
  stmt_layer (TStmt-F.Block spot parts) h = let found = row_kept parts h in record { occurs = found.0; action = tt; arm = found.1 }
  stmt_layer (TStmt-F.If spot test a None) h =
      let parts = all_both p (uses_of test) ((inside a.0).uses ++ []) h in
      let own = all_both p (inside a.0).uses [] parts.1 in
      other _ _ _ (alone_kept test a parts.0 own.0)
  stmt_layer (TStmt-F.If spot test a (Some b)) h =
      let parts = all_both p (uses_of test) ((inside a.0).uses ++ (inside b.0).uses) h in
      let arms = all_both p (inside a.0).uses (inside b.0).uses parts.1 in
      other _ _ _ (both_all q (occurs_in test) ((seen a.0).occurs ++ (seen b.0).occurs) (expression_kept p q c test parts.0)
      (both_all q (seen a.0).occurs (seen b.0).occurs (a.1 arms.0).occurs (b.1 arms.1).occurs))
  stmt_layer (TStmt-F.While spot turns test a) h =
      let parts = all_both p (uses_of test) (inside a.0).uses h in
      other _ _ _ (both_all q (occurs_in test) (seen a.0).occurs (expression_kept p q c test parts.0) (a.1 parts.1).occurs)
  stmt_layer (TStmt-F.DoWhile spot turns a test) h =
      let parts = all_both p (inside a.0).uses (uses_of test) h in
      other _ _ _ (both_all q (seen a.0).occurs (occurs_in test) (a.1 parts.0).occurs (expression_kept p q c test parts.1))
  stmt_layer (TStmt-F.For spot turns start test next a) h =
      let one = all_both p (first_uses start) (option_uses test ++ (option_uses next ++ (inside a.0).uses)) h in
      let two = all_both p (option_uses test) (option_uses next ++ (inside a.0).uses) one.1 in
      let three = all_both p (option_uses next) (inside a.0).uses two.1 in
      other _ _ _ (both_all q (first_occurs start) (option_occurs test ++ (option_occurs next ++ (seen a.0).occurs)) (first_kept p q c start one.0)
      (both_all q (option_occurs test) (option_occurs next ++ (seen a.0).occurs) (option_kept p q c test two.0)
      (both_all q (option_occurs next) (seen a.0).occurs (option_kept p q c next three.0) (a.1 three.1).occurs)))
  stmt_layer (TStmt-F.Switch spot kind on parts) h =
      let found = all_both p (uses_of on) (marks.row (map part_inside (parts_in parts))).uses h in
      other _ _ _ (both_all q (occurs_in on) (row (map part_seen (parts_in parts))).occurs (expression_kept p q c on found.0) (parts_kept parts found.1))
  stmt_layer (TStmt-F.Break spot) h = other _ _ _ refl
  stmt_layer (TStmt-F.Continue spot) h = other _ _ _ refl
  stmt_layer (TStmt-F.Return spot value) h = other _ _ _ (option_kept p q c value h)
  stmt_layer (TStmt-F.Declare spot list) h = other _ _ _ (declared_kept p q c list h)

  part_layer : (y : TPart-F PartAnd StmtAnd) → PartLayer (map-TPart _ _ TPart TStmt (λ (x : PartAnd). x.0) (λ (x : StmtAnd). x.0) y)
  part_layer (TPart-F.Case place z) h = other _ _ _ refl
  part_layer (TPart-F.Default place) h = other _ _ _ refl
  part_layer (TPart-F.Does place s) h = s.1 h

  stmt_comes : (s : TStmt) → GoesStmt s
  stmt_comes =
      ind-TStmt GoesPart GoesStmt
      (λ x y is.
      subst (λ (a : Inside). Goes a (part_seen (roll-TPart x))) (sym (fold-roll-TPart Inside Inside marks.part_step inside_step x))
      (subst (λ (b : Seen). Goes (marks.part_step (map-TPart TPart TStmt Inside Inside part_inside inside x)) b) (sym (fold-roll-TPart Seen Seen part_step seen_step x)) (subst PartLayer is (part_layer y))))
      (λ x y is.
      subst (λ (a : Inside). Goes a (seen (roll-TStmt x))) (sym (fold-roll-TStmt Inside Inside marks.part_step inside_step x))
      (subst (λ (b : Seen). Goes (inside_step (map-TStmt TPart TStmt Inside Inside part_inside inside x)) b) (sym (fold-roll-TStmt Seen Seen part_step seen_step x)) (subst StmtLayer is (stmt_layer y))))

  -- STATEMENTS
  pub statement_kept : (s : TStmt) → list_all p (inside s).uses ≡ true → list_all q (seen s).occurs ≡ true
  statement_kept s h = (stmt_comes s h).occurs
