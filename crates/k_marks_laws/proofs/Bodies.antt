-- Whole statements keep each variable that their text does not change, where calls do; and so does a call.
use Rattle.std.proofs.Common.{◌≡◌, ℕ, zero, suc, List, [], ◌∷◌, ◌++◌, map, Option, Some, None, Bool, true, false, nat_eq, if◌then◌else◌, refl, sym, ◌∙◌, ap, subst, slice_get}
use Rattle.std.proofs.lemmas.Bool.{eqb-true}
use Rattle.k_num.specs.declared.place.Place.{Place}
use Rattle.k_optab.specs.declared.class.Class.TheVariants as class
use Rattle.k_ending.specs.declared.ending.Trap.TheVariants.{StackOverflow}
use Rattle.k_types_meaning.specs.declared.tree.expression.TExpr.{TExpr, out-TExpr}
use Rattle.k_types_meaning.specs.declared.tree.expression.TExpr.TheOpen.{TExpr-F}
use Rattle.k_types_meaning.specs.declared.tree.statement.TPart.{TPart, fold-TPart, fold-roll-TPart, map-TPart, roll-TPart}
use Rattle.k_types_meaning.specs.declared.tree.statement.TPart.TheOpen.{TPart-F, TStmt-F}
use Rattle.k_types_meaning.specs.declared.tree.statement.TStmt.{TStmt, fold-roll-TStmt, ind-TStmt, map-TStmt, roll-TStmt}
use Rattle.k_types_meaning.specs.declared.tree.unit.TFunc.{TFunc}
use Rattle.k_world.specs.declared.act.Act.TheVariants as act
use Rattle.k_world.specs.declared.value.Held.{Held}
use Rattle.k_marks_meaning.specs.declared.uses.Group.{Group}
use Rattle.k_marks_meaning.specs.declared.uses.Read.{Read}
use Rattle.k_marks_meaning.specs.declared.uses.Use.{Use}
use Rattle.k_marks_meaning.specs.declared.uses.Use.TheVariants.{Names}
use Rattle.k_marks_meaning.specs.Uses.{Used, used, uses_of, assigns, option_uses, first_uses}
use Rattle.k_marks_meaning.specs.Reductions.{group_of, change_group, variable_of, read_of, read_again, reduction, reduced_uses, assigned_step, unconverted, action_step, action_uses}
use Rattle.k_marks_meaning.specs.Contents.{Inside, inside, part_inside, inside_step, part_step, row}
use Rattle.k_evaluation.specs.declared.operand.Operand.{Operand}
use Rattle.k_evaluation.specs.States.{Program, State, Outcome, Goes, Stops, gives, traps, read, makes}
use Rattle.k_evaluation.specs.Expressions.{Calls}
use Rattle.k_evaluation.specs.Meanings.{nothing}
use Rattle.k_evaluation.specs.Flows.{Doing, Within}
use Rattle.k_evaluation.specs.Switches.{PartDoing}
use Rattle.k_evaluation.specs.Statements as statements
use Rattle.k_evaluation.specs.Statements.{does_step, does}
use Rattle.k_evaluation.specs.Calls.{is_too_large, entered, runs, back_to, enters_function, enters_number, calls_operation, calls}
use Rattle.k_marks_laws.specs.Frames.{IsSpared}
use Rattle.k_marks_laws.proofs.Parts.{Kept, Keeps, Any, thus, gives_kept, traps_kept, makes_kept}
use Rattle.k_marks_laws.proofs.Rows.{CallsKeep}
use Rattle.k_marks_laws.proofs.Evaluated.{front, behind}
use Rattle.k_marks_laws.proofs.OneVariable.{uses_at, used_is, IsRead, variable_is, IsNamed, read_is, unconverted_uses}
use Rattle.k_marks_laws.proofs.Executed.{DoingKeeps, DoingsKeep, PartKeeps, PartsKeep, expression_keeps, empty_keeps, compound_keeps, if_keeps, while_keeps, do_keeps, for_keeps, switch_keeps, break_keeps, continue_keeps, return_keeps, declaration_keeps}

-- CALLS
module _ (n : ℕ) (program : Program) where
  back_kept : (s : State) (o : Outcome (Option Held)) → Kept n Any s (back_to s o)
  back_kept s (Goes v t) = (refl, tt)
  back_kept s (Stops end w) = tt

  enters_function_keeps : (inner : Calls) (number : ℕ) (place : Place) (f : TFunc) (args : List (Option Held)) → Keeps n Any (enters_function program inner number place f args)
  enters_function_keeps inner number place f args s = by (is_too_large s.world f.nodes)
    where
      by : (b : Bool) → Kept n Any s (if b then traps StackOverflow place s else back_to s (runs program inner number f (entered f args s)))
      by true = tt
      by false = back_kept s (runs program inner number f (entered f args s))

  enters_number_keeps : (inner : Calls) (number : ℕ) (place : Place) (f : Option TFunc) (args : List (Option Held)) → Keeps n Any (enters_number program inner number place f args)
  enters_number_keeps inner number place None args = gives_kept n nothing
  enters_number_keeps inner number place (Some f) args = enters_function_keeps inner number place f args

  operation_keeps : (place : Place) (args : List Operand) → Keeps n Any (calls_operation program place args)
  operation_keeps place args s =
      thus n (makes program class.Call place act.Call args) (λ done. gives (map (λ a. (read s a).slot) args)) (makes_kept n program class.Call place act.Call args)
      (λ done. gives_kept n (map (λ a. (read s a).slot) args)) s

  pub calls_keep : (depth : ℕ) → CallsKeep n (calls depth program)
  unfolding calls
  calls_keep zero number place args =
      thus n (calls_operation program place args) (λ given. traps StackOverflow place) (operation_keeps place args) (λ given. traps_kept Operand n StackOverflow place)
  calls_keep (suc depth) number place args =
      thus n (calls_operation program place args) (enters_number program (calls depth program) number place (slice_get program.unit.functions number))
      (operation_keeps place args) (enters_number_keeps (calls depth program) number place (slice_get program.unit.functions number))

-- STATEMENTS THAT REDUCE A VARIABLE change what their expressions change
module _ (n : ℕ) where
  -- what is spared by a variable that is assigned, and by more
  pub assigned_spared : (r : Read) (u : Used) (more : List Use) → u ≡ record { itself = Some r.variable; uses = Names r.variable ∷ [] } → nat_eq r.variable n ≡ false
      → IsSpared n more → IsSpared n ((assigns u.itself ++ u.uses) ++ more)
  assigned_spared r u more is differ h = subst (λ (v : Used). IsSpared n ((assigns v.itself ++ v.uses) ++ more)) (sym is) (differ, (refl, h))

  compound_spared : (whole right : TExpr) (u : Used) (s : Option Read) (g : Option Group) → IsRead s u → uses_of whole ≡ (assigns u.itself ++ u.uses) ++ uses_of right
      → IsSpared n (reduced_uses whole (reduction s g) right) → IsSpared n (uses_of whole)
  compound_spared whole right u None g is all h = h
  compound_spared whole right u (Some s) None is all h = h
  compound_spared whole right u (Some s) (Some g) is all h = subst (IsSpared n) (sym all) (assigned_spared s u (uses_of right) is h.0 h.1)

  pub again_spared : (whole right : TExpr) (u : Used) (named : List Use) (a b : Read) (g : Option Group) (same : Bool) → nat_eq a.variable b.variable ≡ same
      → IsRead (Some a) u → IsNamed (Some b) named → uses_of whole ≡ (assigns u.itself ++ u.uses) ++ (named ++ uses_of right)
      → IsSpared n (reduced_uses whole (reduction (if same then Some b else None) g) right) → IsSpared n (uses_of whole)
  again_spared whole right u named a b g false differ is names all h = h
  again_spared whole right u named a b None true same is names all h = h
  again_spared whole right u named a b (Some g) true same is names all h =
      subst (IsSpared n) (sym all)
      (assigned_spared a u (named ++ uses_of right) is (ap (λ k. nat_eq k n) (eqb-true a.variable b.variable same) ∙ h.0)
      (subst (λ (ns : List Use). IsSpared n (ns ++ uses_of right)) (sym names) (refl, h.1)))

  simple_spared : (whole right : TExpr) (u : Used) (named : List Use) (s q : Option Read) (g : Option Group) → IsRead s u → IsNamed q named
      → uses_of whole ≡ (assigns u.itself ++ u.uses) ++ (named ++ uses_of right)
      → IsSpared n (reduced_uses whole (reduction (read_again s q) g) right) → IsSpared n (uses_of whole)
  simple_spared whole right u named None q g is names all h = h
  simple_spared whole right u named (Some a) None g is names all h = h
  simple_spared whole right u named (Some a) (Some b) g is names all h = again_spared whole right u named a b g (nat_eq a.variable b.variable) refl is names all h

  right_spared : (whole : TExpr) (u : Used) (s : Option Read) (y : TExpr-F TExpr) → IsRead s u → uses_of whole ≡ (assigns u.itself ++ u.uses) ++ (uses_at y).uses
      → IsSpared n (assigned_step whole s y) → IsSpared n (uses_of whole)
  right_spared whole u s (TExpr-F.Binary node op kind l r) is all h =
      simple_spared whole r u (uses_of l) s (read_of l) (group_of op) is (read_is l) all h
  right_spared whole u s _ is all h = h

  action_spared : (whole : TExpr) (x : TExpr-F TExpr) → used whole ≡ uses_at x → IsSpared n (action_step whole x) → IsSpared n (uses_of whole)
  action_spared whole (TExpr-F.AssignBy node by left right) is h =
      compound_spared whole right (used left) (variable_of left) (change_group by) (variable_is left) (ap (λ (u : Used). u.uses) is) h
  action_spared whole (TExpr-F.Assign node left right) is h =
      right_spared whole (used left) (variable_of left) (out-TExpr (unconverted right)) (variable_is left)
      (ap (λ (u : Used). u.uses) is ∙ ap (λ (us : List Use). (assigns (used left).itself ++ (used left).uses) ++ us)
      (sym (unconverted_uses right) ∙ ap (λ (u : Used). u.uses) (used_is (unconverted right)))) h
  action_spared whole _ is h = h

  -- an expression statement
  pub statement_spared : (e : TExpr) → IsSpared n (action_uses e) → IsSpared n (uses_of e)
  statement_spared e h = action_spared e (out-TExpr e) (used_is e) h

-- STATEMENTS
module _ (n : ℕ) (w : Within) (calls_keep : CallsKeep n w.calls) where
  abbrev part_does : TPart → PartDoing
  part_does = fold-TPart PartDoing Doing statements.part_step (does_step w)

  -- a statement that has this in it and does that keeps the variable where it is spared
  abbrev IsFramed : Inside → Doing → Type 0
  IsFramed i s = IsSpared n i.uses → DoingKeeps n s

  abbrev IsFramedPart : Inside → PartDoing → Type 0
  IsFramedPart i p = IsSpared n i.uses → PartKeeps n p

  abbrev OfPart : TPart → Type 0
  OfPart p = IsFramedPart (part_inside p) (part_does p)

  abbrev OfStmt : TStmt → Type 0
  OfStmt s = IsFramed (inside s) (does w s)

  all_do : (items : List ((s : TStmt) × OfStmt s)) → IsSpared n (row (map inside (map (λ (x : (s : TStmt) × OfStmt s). x.0) items))).uses
      → DoingsKeep n (map (does w) (map (λ (x : (s : TStmt) × OfStmt s). x.0) items))
  all_do [] h = tt
  all_do (x ∷ items) h = (
    x.1 (front n (inside x.0).uses (row (map inside (map (λ (y : (s : TStmt) × OfStmt s). y.0) items))).uses h),
    all_do items (behind n (inside x.0).uses (row (map inside (map (λ (y : (s : TStmt) × OfStmt s). y.0) items))).uses h),
  )

  parts_do : (items : List ((p : TPart) × OfPart p)) → IsSpared n (row (map part_inside (map (λ (x : (p : TPart) × OfPart p). x.0) items))).uses
      → PartsKeep n (map part_does (map (λ (x : (p : TPart) × OfPart p). x.0) items))
  parts_do [] h = tt
  parts_do (x ∷ items) h = (
    x.1 (front n (part_inside x.0).uses (row (map part_inside (map (λ (y : (p : TPart) × OfPart p). y.0) items))).uses h),
    parts_do items (behind n (part_inside x.0).uses (row (map part_inside (map (λ (y : (p : TPart) × OfPart p). y.0) items))).uses h),
  )

  abbrev bare_part : TPart-F ((p : TPart) × OfPart p) ((s : TStmt) × OfStmt s) → TPart-F TPart TStmt
  bare_part y = map-TPart _ _ TPart TStmt (λ (x : (p : TPart) × OfPart p). x.0) (λ (x : (s : TStmt) × OfStmt s). x.0) y

  abbrev bare_stmt : TStmt-F ((p : TPart) × OfPart p) ((s : TStmt) × OfStmt s) → TStmt-F TPart TStmt
  bare_stmt y = map-TStmt _ _ TPart TStmt (λ (x : (p : TPart) × OfPart p). x.0) (λ (x : (s : TStmt) × OfStmt s). x.0) y

  -- what a statement has in it and does, by its parts
  abbrev PartAt : TPart-F TPart TStmt → Type 0
  PartAt z = IsFramedPart (part_step (map-TPart TPart TStmt Inside Inside part_inside inside z)) (statements.part_step (map-TPart TPart TStmt PartDoing Doing part_does (does w) z))

  abbrev StmtAt : TStmt-F TPart TStmt → Type 0
  StmtAt z = IsFramed (inside_step (map-TStmt TPart TStmt Inside Inside part_inside inside z)) (does_step w (map-TStmt TPart TStmt PartDoing Doing part_does (does w) z))

  part_by : (y : TPart-F ((p : TPart) × OfPart p) ((s : TStmt) × OfStmt s)) → PartAt (bare_part y)
  part_by (TPart-F.Case place z) h = tt
  part_by (TPart-F.Default place) h = tt
  part_by (TPart-F.Does place s) h = s.1 h

  stmt_by : (y : TStmt-F ((p : TPart) × OfPart p) ((s : TStmt) × OfStmt s)) → StmtAt (bare_stmt y)
  stmt_by (TStmt-F.Expr spot e) h = expression_keeps n w calls_keep e (statement_spared n e h)
  stmt_by (TStmt-F.Empty spot) h = empty_keeps n w calls_keep
  stmt_by (TStmt-F.Block spot parts) h = compound_keeps n w calls_keep (map (does w) (map (λ (x : (s : TStmt) × OfStmt s). x.0) parts)) (all_do parts h)
  stmt_by (TStmt-F.If spot test a None) h =
      let rest = behind n (uses_of test) ((inside a.0).uses ++ []) h in
      if_keeps n w calls_keep spot test (does w a.0) None (front n (uses_of test) ((inside a.0).uses ++ []) h) (a.1 (front n (inside a.0).uses [] rest)) tt
  stmt_by (TStmt-F.If spot test a (Some b)) h =
      let rest = behind n (uses_of test) ((inside a.0).uses ++ (inside b.0).uses) h in
      if_keeps n w calls_keep spot test (does w a.0) (Some (does w b.0)) (front n (uses_of test) ((inside a.0).uses ++ (inside b.0).uses) h)
      (a.1 (front n (inside a.0).uses (inside b.0).uses rest)) (b.1 (behind n (inside a.0).uses (inside b.0).uses rest))
  stmt_by (TStmt-F.While spot number test a) h =
      while_keeps n w calls_keep spot number test (does w a.0) (front n (uses_of test) (inside a.0).uses h) (a.1 (behind n (uses_of test) (inside a.0).uses h))
  stmt_by (TStmt-F.DoWhile spot number a test) h =
      do_keeps n w calls_keep spot number (does w a.0) test (behind n (inside a.0).uses (uses_of test) h) (a.1 (front n (inside a.0).uses (uses_of test) h))
  stmt_by (TStmt-F.For spot number start test step a) h =
      let behind_start = behind n (first_uses start) (option_uses test ++ (option_uses step ++ (inside a.0).uses)) h in
      let behind_test = behind n (option_uses test) (option_uses step ++ (inside a.0).uses) behind_start in
      for_keeps n w calls_keep spot number start test step (does w a.0)
      (front n (first_uses start) (option_uses test ++ (option_uses step ++ (inside a.0).uses)) h)
      (front n (option_uses test) (option_uses step ++ (inside a.0).uses) behind_start)
      (front n (option_uses step) (inside a.0).uses behind_test)
      (a.1 (behind n (option_uses step) (inside a.0).uses behind_test))
  stmt_by (TStmt-F.Switch spot kind on parts) h =
      let all : List Use = (row (map part_inside (map (λ (x : (p : TPart) × OfPart p). x.0) parts))).uses in
      switch_keeps n w calls_keep kind on (map part_does (map (λ (x : (p : TPart) × OfPart p). x.0) parts)) (front n (uses_of on) all h)
      (parts_do parts (behind n (uses_of on) all h))
  stmt_by (TStmt-F.Break spot) h = break_keeps n w calls_keep
  stmt_by (TStmt-F.Continue spot) h = continue_keeps n w calls_keep
  stmt_by (TStmt-F.Return spot value) h = return_keeps n w calls_keep spot value h
  stmt_by (TStmt-F.Declare spot list) h = declaration_keeps n w calls_keep list h

  -- a statement
  pub does_keeps : (s : TStmt) → OfStmt s
  does_keeps =
      ind-TStmt OfPart OfStmt
      (λ x y is.
      subst (λ (i : Inside). IsFramedPart i (part_does (roll-TPart x))) (sym (fold-roll-TPart Inside Inside part_step inside_step x))
      (subst (IsFramedPart (part_step (map-TPart TPart TStmt Inside Inside part_inside inside x))) (sym (fold-roll-TPart PartDoing Doing statements.part_step (does_step w) x))
      (subst PartAt is (part_by y))))
      (λ x y is.
      subst (λ (i : Inside). IsFramed i (does w (roll-TStmt x))) (sym (fold-roll-TStmt Inside Inside part_step inside_step x))
      (subst (IsFramed (inside_step (map-TStmt TPart TStmt Inside Inside part_inside inside x))) (sym (fold-roll-TStmt PartDoing Doing statements.part_step (does_step w) x))
      (subst StmtAt is (stmt_by y))))
