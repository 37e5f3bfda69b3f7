-- Whole statements keep states right, and so do functions and their calls.
use Rattle.std.proofs.Common.{◌≡◌, ℕ, List, [], ◌∷◌, map, length, Some, None, Bool, true, ◌&&◌, sym, ◌∙◌, subst}
use Rattle.std.proofs.lemmas.Bool.{and_parts}
use Rattle.k_types_meaning.specs.declared.tree.statement.TPart.{TPart, fold-TPart, fold-roll-TPart, map-TPart}
use Rattle.k_types_meaning.specs.declared.tree.statement.TPart.TheOpen.{TPart-F, TStmt-F}
use Rattle.k_types_meaning.specs.declared.tree.statement.TStmt.{TStmt, fold-roll-TStmt, ind-TStmt, map-TStmt}
use Rattle.k_types_meaning.specs.declared.tree.unit.TVariable.{TVariable}
use Rattle.k_evaluation.specs.States.{Program}
use Rattle.k_evaluation.specs.Expressions.{Calls}
use Rattle.k_evaluation.specs.Flows.{Doing, Within}
use Rattle.k_evaluation.specs.Switches.{PartDoing}
use Rattle.k_evaluation.specs.Statements as statements
use Rattle.k_evaluation.specs.Statements.{does_step, does}
use Rattle.k_evaluation_laws.specs.Kinds.{Sort}
use Rattle.k_evaluation_laws.proofs.Fits.{Around, expr_fits, option_fits, first_fits, all_stand, stmt_fits, stmt_step, part_step}
use Rattle.k_evaluation_laws.proofs.Ranges as ranges
use Rattle.k_evaluation_laws.proofs.Ranges.{expr_in_range, option_in_range, first_in_range, declared_in_range, stmt_in_range}
use Rattle.k_evaluation_laws.proofs.Evaluated.{around}
use Rattle.k_evaluation_laws.proofs.Executed.{inside, DoingRight, DoingsRight, PartRight, PartsRight, expression_right, empty_right, compound_right, if_right, while_right, do_right, for_right, switch_right, break_right, continue_right, return_right, declaration_right}
use Rattle.k_evaluation_laws.proofs.Keeping.{Here}
use Rattle.k_evaluation_laws.proofs.Rows.{here, AreRightCalls}

-- STATEMENTS
module _ (program : Program) (variables : List TVariable) (result : Sort) (function : ℕ) (calls : Calls) (calls_right : AreRightCalls program calls) where
  abbrev w : Within
  w = inside program variables result function calls calls_right

  abbrev vs : Here
  vs = here program variables

  abbrev known : Around
  known = around program variables result calls

  abbrev range : ℕ
  range = length program.unit.strings

  abbrev part_does : TPart → PartDoing
  part_does = fold-TPart PartDoing Doing statements.part_step (does_step w)

  abbrev part_fits : TPart → Bool
  part_fits = fold-TPart Bool Bool part_step (stmt_step known)

  abbrev part_ranged : TPart → Bool
  part_ranged = fold-TPart Bool Bool ranges.part_step (ranges.stmt_step range)

  abbrev OfPart : TPart → Type 0
  OfPart p = part_fits p ≡ true → part_ranged p ≡ true → PartRight vs result (part_does p)

  abbrev OfStmt : TStmt → Type 0
  OfStmt s = stmt_fits known s ≡ true → stmt_in_range range s ≡ true → DoingRight vs result (does w s)

  all_do : (items : List ((s : TStmt) × OfStmt s)) → all_stand (map (stmt_fits known) (map (λ (x : (s : TStmt) × OfStmt s). x.0) items)) ≡ true
      → all_stand (map (stmt_in_range range) (map (λ (x : (s : TStmt) × OfStmt s). x.0) items)) ≡ true → DoingsRight vs result (map (does w) (map (λ (x : (s : TStmt) × OfStmt s). x.0) items))
  all_do [] h r = tt
  all_do (x ∷ items) h r =
      let p = and_parts (stmt_fits known x.0) (all_stand (map (stmt_fits known) (map (λ (y : (s : TStmt) × OfStmt s). y.0) items))) h in
      let q = and_parts (stmt_in_range range x.0) (all_stand (map (stmt_in_range range) (map (λ (y : (s : TStmt) × OfStmt s). y.0) items))) r in
      (x.1 p.0 q.0, all_do items p.1 q.1)

  parts_do : (items : List ((p : TPart) × OfPart p)) → all_stand (map part_fits (map (λ (x : (p : TPart) × OfPart p). x.0) items)) ≡ true
      → all_stand (map part_ranged (map (λ (x : (p : TPart) × OfPart p). x.0) items)) ≡ true → PartsRight vs result (map part_does (map (λ (x : (p : TPart) × OfPart p). x.0) items))
  parts_do [] h r = tt
  parts_do (x ∷ items) h r =
      let p = and_parts (part_fits x.0) (all_stand (map part_fits (map (λ (y : (p : TPart) × OfPart p). y.0) items))) h in
      let q = and_parts (part_ranged x.0) (all_stand (map part_ranged (map (λ (y : (p : TPart) × OfPart p). y.0) items))) r in
      (x.1 p.0 q.0, parts_do items p.1 q.1)

  abbrev bare_part : TPart-F ((p : TPart) × OfPart p) ((s : TStmt) × OfStmt s) → TPart-F TPart TStmt
  bare_part y = map-TPart _ _ TPart TStmt (λ (x : (p : TPart) × OfPart p). x.0) (λ (x : (s : TStmt) × OfStmt s). x.0) y

  abbrev bare_stmt : TStmt-F ((p : TPart) × OfPart p) ((s : TStmt) × OfStmt s) → TStmt-F TPart TStmt
  bare_stmt y = map-TStmt _ _ TPart TStmt (λ (x : (p : TPart) × OfPart p). x.0) (λ (x : (s : TStmt) × OfStmt s). x.0) y

  abbrev PartAt : TPart-F TPart TStmt → Type 0
  PartAt z =
      part_step (map-TPart TPart TStmt Bool Bool part_fits (stmt_fits known) z) ≡ true → ranges.part_step (map-TPart TPart TStmt Bool Bool part_ranged (stmt_in_range range) z) ≡ true
      → PartRight vs result (statements.part_step (map-TPart TPart TStmt PartDoing Doing part_does (does w) z))

  abbrev StmtAt : TStmt-F TPart TStmt → Type 0
  StmtAt z =
      stmt_step known (map-TStmt TPart TStmt Bool Bool part_fits (stmt_fits known) z) ≡ true
      → ranges.stmt_step range (map-TStmt TPart TStmt Bool Bool part_ranged (stmt_in_range range) z) ≡ true
      → DoingRight vs result (does_step w (map-TStmt TPart TStmt PartDoing Doing part_does (does w) z))

  part_by : (y : TPart-F ((p : TPart) × OfPart p) ((s : TStmt) × OfStmt s)) → PartAt (bare_part y)
  part_by (TPart-F.Case place z) h r = tt
  part_by (TPart-F.Default place) h r = tt
  part_by (TPart-F.Does place s) h r = s.1 h r

  stmt_by : (y : TStmt-F ((p : TPart) × OfPart p) ((s : TStmt) × OfStmt s)) → StmtAt (bare_stmt y)
  stmt_by (TStmt-F.Expr spot e) h r = expression_right program variables result function calls calls_right e h r
  stmt_by (TStmt-F.Empty spot) h r = empty_right program variables result function calls calls_right
  stmt_by (TStmt-F.Block spot parts) h r =
      compound_right program variables result function calls calls_right (map (does w) (map (λ (x : (s : TStmt) × OfStmt s). x.0) parts)) (all_do parts h r)
  stmt_by (TStmt-F.If spot test a None) h r =
      let p = and_parts (expr_fits known test) (stmt_fits known a.0 && true) h in let q = and_parts (stmt_fits known a.0) true p.1 in
      let u = and_parts (expr_in_range range test) (stmt_in_range range a.0 && true) r in let v = and_parts (stmt_in_range range a.0) true u.1 in
      if_right program variables result function calls calls_right spot test (does w a.0) None p.0 u.0 (a.1 q.0 v.0) tt
  stmt_by (TStmt-F.If spot test a (Some b)) h r =
      let p = and_parts (expr_fits known test) (stmt_fits known a.0 && stmt_fits known b.0) h in let q = and_parts (stmt_fits known a.0) (stmt_fits known b.0) p.1 in
      let u = and_parts (expr_in_range range test) (stmt_in_range range a.0 && stmt_in_range range b.0) r in
      let v = and_parts (stmt_in_range range a.0) (stmt_in_range range b.0) u.1 in
      if_right program variables result function calls calls_right spot test (does w a.0) (Some (does w b.0)) p.0 u.0 (a.1 q.0 v.0) (b.1 q.1 v.1)
  stmt_by (TStmt-F.While spot number test a) h r =
      let p = and_parts (expr_fits known test) (stmt_fits known a.0) h in let u = and_parts (expr_in_range range test) (stmt_in_range range a.0) r in
      while_right program variables result function calls calls_right spot number test (does w a.0) p.0 u.0 (a.1 p.1 u.1)
  stmt_by (TStmt-F.DoWhile spot number a test) h r =
      let p = and_parts (expr_fits known test) (stmt_fits known a.0) h in let u = and_parts (expr_in_range range test) (stmt_in_range range a.0) r in
      do_right program variables result function calls calls_right spot number (does w a.0) test p.0 u.0 (a.1 p.1 u.1)
  stmt_by (TStmt-F.For spot number start test step a) h r =
      let p = and_parts (first_fits known start) (option_fits known test && (option_fits known step && stmt_fits known a.0)) h in
      let q = and_parts (option_fits known test) (option_fits known step && stmt_fits known a.0) p.1 in let o = and_parts (option_fits known step) (stmt_fits known a.0) q.1 in
      let u = and_parts (first_in_range range start) (option_in_range range test && (option_in_range range step && stmt_in_range range a.0)) r in
      let v = and_parts (option_in_range range test) (option_in_range range step && stmt_in_range range a.0) u.1 in
      let x = and_parts (option_in_range range step) (stmt_in_range range a.0) v.1 in
      for_right program variables result function calls calls_right spot number start test step (does w a.0) p.0 u.0 q.0 v.0 o.0 x.0 (a.1 o.1 x.1)
  stmt_by (TStmt-F.Switch spot kind on parts) h r =
      let p = and_parts (expr_fits known on) (all_stand (map part_fits (map (λ (x : (p : TPart) × OfPart p). x.0) parts))) h in
      let u = and_parts (expr_in_range range on) (all_stand (map part_ranged (map (λ (x : (p : TPart) × OfPart p). x.0) parts))) r in
      switch_right program variables result function calls calls_right kind on (map part_does (map (λ (x : (p : TPart) × OfPart p). x.0) parts)) p.0 u.0 (parts_do parts p.1 u.1)
  stmt_by (TStmt-F.Break spot) h r = break_right program variables result function calls calls_right
  stmt_by (TStmt-F.Continue spot) h r = continue_right program variables result function calls calls_right
  stmt_by (TStmt-F.Return spot value) h r = return_right program variables result function calls calls_right spot value h r
  stmt_by (TStmt-F.Declare spot list) h r = declaration_right program variables result function calls calls_right list h r

  -- a statement
  pub does_right : (s : TStmt) → OfStmt s
  does_right =
      ind-TStmt OfPart OfStmt
      (λ x y is h r.
      subst (PartRight vs result) (sym (fold-roll-TPart PartDoing Doing statements.part_step (does_step w) x))
      (let here_too : PartAt x = subst PartAt is (part_by y) in
      here_too (sym (fold-roll-TPart Bool Bool part_step (stmt_step known) x) ∙ h) (sym (fold-roll-TPart Bool Bool ranges.part_step (ranges.stmt_step range) x) ∙ r)))
      (λ x y is h r.
      subst (DoingRight vs result) (sym (fold-roll-TStmt PartDoing Doing statements.part_step (does_step w) x))
      (let here_too : StmtAt x = subst StmtAt is (stmt_by y) in
      here_too (sym (fold-roll-TStmt Bool Bool part_step (stmt_step known) x) ∙ h) (sym (fold-roll-TStmt Bool Bool ranges.part_step (ranges.stmt_step range) x) ∙ r)))

  pub all_right : (ss : List TStmt) → all_stand (map (stmt_fits known) ss) ≡ true → all_stand (map (stmt_in_range range) ss) ≡ true → DoingsRight vs result (map (does w) ss)
  all_right [] h r = tt
  all_right (s ∷ ss) h r =
      let p = and_parts (stmt_fits known s) (all_stand (map (stmt_fits known) ss)) h in
      let q = and_parts (stmt_in_range range s) (all_stand (map (stmt_in_range range) ss)) r in
      (does_right s p.0 q.0, all_right ss p.1 q.1)
