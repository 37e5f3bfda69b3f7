-- REDUCTION: statements combine a variable that they reduce with what they contribute, and so does a loop.
use Rattle.std.proofs.Common.{◌≡◌, ℕ, ℤ, List, [], ◌∷◌, ◌++◌, map, Option, Some, None, Bool, true, false, ◌&&◌, nat_eq, refl, sym, ◌∙◌, ap, subst}
use Rattle.std.specs.List.{list_all, fold}
use Rattle.k_num.specs.declared.numbers.Bin.{Bin}
use Rattle.k_num.specs.declared.numbers.Kind.{Kind}
use Rattle.k_num.specs.Combining.{combined, is_commutative}
use Rattle.k_num.proofs.Combining.{combined_in_any_order}
use Rattle.k_types_meaning.specs.declared.tree.declaration.TDeclarator.{TDeclarator}
use Rattle.k_types_meaning.specs.declared.tree.declaration.TInit.{TInit}
use Rattle.k_types_meaning.specs.declared.tree.declaration.TInit.TheVariants as init
use Rattle.k_types_meaning.specs.declared.tree.declaration.TItem.{TItem}
use Rattle.k_types_meaning.specs.declared.tree.declaration.TItem.TheVariants as item
use Rattle.k_types_meaning.specs.declared.tree.expression.TExpr.{TExpr, out-TExpr}
use Rattle.k_types_meaning.specs.declared.tree.statement.Spot.{Spot}
use Rattle.k_types_meaning.specs.declared.tree.statement.TFirst.{TFirst}
use Rattle.k_types_meaning.specs.declared.tree.statement.TFirst.TheVariants as first
use Rattle.k_types_meaning.specs.declared.tree.statement.TPart.{TPart, fold-TPart, fold-roll-TPart, map-TPart, roll-TPart}
use Rattle.k_types_meaning.specs.declared.tree.statement.TPart.TheOpen.{TPart-F, TStmt-F}
use Rattle.k_types_meaning.specs.declared.tree.statement.TStmt.{TStmt, fold-roll-TStmt, ind-TStmt, map-TStmt, roll-TStmt}
use Rattle.k_types_meaning.specs.declared.tree.unit.TVariable.{TVariable}
use Rattle.k_marks_meaning.specs.declared.uses.Group.{Group}
use Rattle.k_marks_meaning.specs.declared.uses.Group.TheVariants.{Sums, Products, Ands, Ors, Xors}
use Rattle.k_marks_meaning.specs.declared.uses.Use.{Use}
use Rattle.k_marks_meaning.specs.declared.uses.Use.TheVariants.{Names, Assigns, Declares, Reduces}
use Rattle.k_marks_meaning.specs.Uses.{uses_of, option_uses, all_uses, item_uses, init_uses, declared_uses, first_uses, first_declares}
use Rattle.k_marks_meaning.specs.Contents.{Inside, inside, part_inside, inside_step, part_step, row}
use Rattle.k_marks_meaning.specs.Loops.{Loop, fits, loop_uses, is_reduced}
use Rattle.k_marks_meaning.specs.Loops as marks
use Rattle.k_marks_meaning.specs.Jumps.{is_left}
use Rattle.k_evaluation.specs.declared.flow.Flow.{Flow}
use Rattle.k_evaluation.specs.declared.flow.Flow.TheVariants.{Normal}
use Rattle.k_evaluation.specs.States.{State, Outcome, Goes, Part, ◌>>=◌, gives}
use Rattle.k_evaluation.specs.Flows.{Doing, Within, means, drops, tests_at, in_order}
use Rattle.k_evaluation.specs.Loops.{source_loop, while_loop, do_loop}
use Rattle.k_evaluation.specs.Declarations.{starts_with}
use Rattle.k_evaluation.specs.Places as places
use Rattle.k_evaluation.specs.Switches.{PartDoing, AStatement, has_case, behind_default, switches, switch_jumps, switch}
use Rattle.k_evaluation.specs.Statements as statements
use Rattle.k_evaluation.specs.Statements.{does_step, does, expression, empty, compound, does_or_none, chosen_arm, if_jumps, if_else, for_loop, break, continue, return, declaration}
use Rattle.k_evaluation.specs.Calls.{within, calls}
use Rattle.k_marks_laws.specs.Frames.{IsSpared}
use Rattle.k_marks_laws.specs.Turns.{marked, HoldsNumber}
use Rattle.k_marks_laws.specs.Contributions.{Adds, after, contributed, reducing_step, Giving, adds_in_order, adds_if_there, adds_by, adds_loop, PartGiving, part_doing, given_default, adds_chosen, giving_step, part_giving, giving}
use Rattle.k_marks_laws.specs.Reduced.{combining, joined, expressions_step, part_expressions, expressions_in, AreTyped, ReductionsCombine}
use Rattle.k_marks_laws.proofs.Parts.{gives_kept}
use Rattle.k_marks_laws.proofs.Rows.{CallsKeep}
use Rattle.k_marks_laws.proofs.Executed.{value_keeps, tests_at_keep, selects_keep, starts_with_keeps, test_keeps, step_keeps, empty_keeps, break_keeps, continue_keeps, return_keeps, declaration_keeps}
use Rattle.k_marks_laws.proofs.Bodies.{calls_keep}
use Rattle.k_marks_laws.proofs.Conditions.{IsPlain, plain, both_true, not_true, register_of}
use Rattle.k_marks_laws.proofs.Steps.{Reaches}
use Rattle.k_marks_laws.proofs.Folding.{Folds, quiet, folds_behind, folds_before, folds_settled, folds_block, FoldsGiving, AllFold, in_order_folds, arm_folds, source_loop_folds, PartFolds, PartsFold, default_folds, chooses_folds}
use Rattle.k_marks_laws.proofs.Given.{statement_folds}

all_front : {A : Type 0} (p : A → Bool) (xs ys : List A) → list_all p (xs ++ ys) ≡ true → list_all p xs ≡ true
all_front p [] ys is = refl
all_front p (x ∷ xs) ys is = let e = both_true (p x) (list_all p (xs ++ ys)) is in ap (λ (b : Bool). b && list_all p xs) e.0 ∙ all_front p xs ys e.1

all_behind : {A : Type 0} (p : A → Bool) (xs ys : List A) → list_all p (xs ++ ys) ≡ true → list_all p ys ≡ true
all_behind p [] ys is = is
all_behind p (x ∷ xs) ys is = all_behind p xs ys (both_true (p x) (list_all p (xs ++ ys)) is).1

-- WHAT REDUCES NOTHING
abbrev IsUnreduced : List Use → Type 0
IsUnreduced [] = Unit {0}
IsUnreduced (Names m ∷ us) = IsUnreduced us
IsUnreduced (Assigns m ∷ us) = IsUnreduced us
IsUnreduced (Declares m ∷ us) = IsUnreduced us
IsUnreduced (Reduces r ∷ us) = ⊥

unreduced : (us : List Use) → IsPlain us → IsUnreduced us
unreduced [] h = tt
unreduced (Names m ∷ us) h = unreduced us h
unreduced (Assigns m ∷ us) h = unreduced us h
unreduced (Declares m ∷ us) h = absurd h
unreduced (Reduces r ∷ us) h = absurd h

unreduced_both : (xs ys : List Use) → IsUnreduced xs → IsUnreduced ys → IsUnreduced (xs ++ ys)
unreduced_both [] ys h k = k
unreduced_both (Names m ∷ xs) ys h k = unreduced_both xs ys h k
unreduced_both (Assigns m ∷ xs) ys h k = unreduced_both xs ys h k
unreduced_both (Declares m ∷ xs) ys h k = unreduced_both xs ys h k
unreduced_both (Reduces r ∷ xs) ys h k = absurd h

unreduced_items : (items : List TItem) → IsUnreduced (all_uses (map item_uses items))
unreduced_items [] = tt
unreduced_items (item.Bytes n bytes ∷ items) = unreduced_items items
unreduced_items (item.Value p n e ∷ items) = unreduced_both (uses_of e) (all_uses (map item_uses items)) (unreduced (uses_of e) (plain e)) (unreduced_items items)

unreduced_init : (i : TInit) → IsUnreduced (init_uses i)
unreduced_init init.Nothing = tt
unreduced_init (init.Value e) = unreduced (uses_of e) (plain e)
unreduced_init (init.Elements items) = unreduced_items items

unreduced_declared : (ds : List TDeclarator) → IsUnreduced (declared_uses ds)
unreduced_declared [] = tt
unreduced_declared (d ∷ ds) = unreduced_both (init_uses d.init) (declared_uses ds) (unreduced_init d.init) (unreduced_declared ds)

unreduced_first : (f : TFirst) → IsUnreduced (first_uses f)
unreduced_first first.Nothing = tt
unreduced_first (first.Value e) = unreduced (uses_of e) (plain e)
unreduced_first (first.Declare list) = unreduced_declared list

-- a variable that fits where nothing is reduced is spared
fits_unreduced : (n : ℕ) (g : Group) (us : List Use) → list_all (fits n g) us ≡ true → IsUnreduced us → IsSpared n us
fits_unreduced n g [] is h = tt
fits_unreduced n g (Names m ∷ us) is h = let e = both_true (fits n g (Names m)) (list_all (fits n g) us) is in (refl, fits_unreduced n g us e.1 h)
fits_unreduced n g (Assigns m ∷ us) is h = let e = both_true (fits n g (Assigns m)) (list_all (fits n g) us) is in (not_true (nat_eq m n) e.0, fits_unreduced n g us e.1 h)
fits_unreduced n g (Declares m ∷ us) is h = let e = both_true (fits n g (Declares m)) (list_all (fits n g) us) is in (not_true (nat_eq m n) e.0, fits_unreduced n g us e.1 h)
fits_unreduced n g (Reduces r ∷ us) is h = absurd h

-- what is typed in two lists is in each
typed_front : (kind : Kind) (n : ℕ) (xs ys : List TExpr) → AreTyped kind n (xs ++ ys) → AreTyped kind n xs
typed_front kind n [] ys h = tt
typed_front kind n (x ∷ xs) ys h = (h.0, typed_front kind n xs ys h.1)

typed_behind : (kind : Kind) (n : ℕ) (xs ys : List TExpr) → AreTyped kind n (xs ++ ys) → AreTyped kind n ys
typed_behind kind n [] ys h = h
typed_behind kind n (x ∷ xs) ys h = typed_behind kind n xs ys h.1

module _ (w : Within) (keep_all : (n : ℕ) → CallsKeep n w.calls) (n : ℕ) (group : Group) (kind : Kind) (register : places.is_register w.vars n ≡ true) where
  abbrev op : Bin
  op = combining group

  abbrev Fit : List Use → Type 0
  Fit us = list_all (fits n group) us ≡ true

  abbrev FoldsIt : {A : Type 0} → Part A → Adds → Type 0
  FoldsIt part adds = Folds op kind n part adds

  spared_expr : (e : TExpr) → Fit (uses_of e) → IsSpared n (uses_of e)
  spared_expr e is = fits_unreduced n group (uses_of e) is (unreduced (uses_of e) (plain e))

  spared_option : (e : Option TExpr) → Fit (option_uses e) → IsSpared n (option_uses e)
  spared_option None is = tt
  spared_option (Some e) is = spared_expr e is

  -- EACH STATEMENT, by its parts
  expression_folds : (e : TExpr) (adds : Adds) → FoldsIt ((means w e).value false) adds → FoldsIt (expression w e).does adds
  unfolding expression
  expression_folds e adds h =
      folds_before op kind n (drops w e) adds (λ done. gives Normal)
      (folds_before op kind n ((means w e).value false) adds (λ a. gives {A = Unit {0}} tt) h (λ a. gives_kept {A = Unit {0}} n tt)) (λ done. gives_kept n Normal)

  compound_folds : (gs : List Giving) → AllFold op kind n gs → FoldsIt (compound (map (λ (g : Giving). g.doing) gs)).does (adds_in_order gs)
  unfolding compound
  compound_folds gs each = folds_block op kind n (in_order (map (λ (g : Giving). g.doing) gs)) (adds_in_order gs) (in_order_folds op kind n gs each)

  if_folds : (spot : Spot) (test : TExpr) (a : Giving) (b : Option Doing) (two : Adds) → IsSpared n (uses_of test) → FoldsGiving op kind n a → FoldsIt (does_or_none b) two
      → FoldsIt (if_else w spot test a.doing b).does (λ s. after (tests_at w spot.place test s) (adds_by a.adds two))
  unfolding if_else
  if_folds spot test a b two spared one other =
      folds_settled op kind n (is_left (if_jumps a.doing b)) (tests_at w spot.place test >>= chosen_arm a.doing.does (does_or_none b)) (λ s. after (tests_at w spot.place test s) (adds_by a.adds two))
      (folds_behind op kind n (tests_at w spot.place test) (chosen_arm a.doing.does (does_or_none b)) (adds_by a.adds two) (tests_at_keep n w (keep_all n) spot.place test spared)
      (λ t. arm_folds op kind n a.doing.does (does_or_none b) a.adds two t one other))

  while_folds : (spot : Spot) (number : ℕ) (test : TExpr) (a : Giving) → IsSpared n (uses_of test) → FoldsGiving op kind n a
      → FoldsIt (while_loop w spot number test a.doing).does (adds_loop w spot number (Some test) None a true)
  unfolding while_loop
  while_folds spot number test a spared h =
      source_loop_folds op kind n w spot number (Some test) None a true h (test_keeps n w (keep_all n) spot.place (Some test) spared) (step_keeps n w (keep_all n) None tt)

  do_folds : (spot : Spot) (number : ℕ) (a : Giving) (test : TExpr) → IsSpared n (uses_of test) → FoldsGiving op kind n a
      → FoldsIt (do_loop w spot number a.doing test).does (adds_loop w spot number (Some test) None a false)
  unfolding do_loop
  do_folds spot number a test spared h =
      source_loop_folds op kind n w spot number (Some test) None a false h (test_keeps n w (keep_all n) spot.place (Some test) spared) (step_keeps n w (keep_all n) None tt)

  for_folds : (spot : Spot) (number : ℕ) (start : TFirst) (test step : Option TExpr) (a : Giving) → IsSpared n (first_uses start) → IsSpared n (option_uses test)
      → IsSpared n (option_uses step) → FoldsGiving op kind n a
      → FoldsIt (for_loop w spot number start test step a.doing).does (λ s. after (starts_with w start s) (λ started. adds_loop w spot number test step a true))
  unfolding for_loop
  for_folds spot number start test step a spared tested stepped h =
      folds_block op kind n (starts_with w start >>= λ done. source_loop w spot number test step a.doing true) (λ s. after (starts_with w start s) (λ started. adds_loop w spot number test step a true))
      (folds_behind op kind n (starts_with w start) (λ done. source_loop w spot number test step a.doing true) (λ started. adds_loop w spot number test step a true)
      (starts_with_keeps n w (keep_all n) start spared)
      (λ done. source_loop_folds op kind n w spot number test step a true h (test_keeps n w (keep_all n) spot.place test tested) (step_keeps n w (keep_all n) step stepped)))

  switch_folds : (k : Kind) (on : TExpr) (parts : List PartGiving) → IsSpared n (uses_of on) → PartsFold op kind n parts
      → FoldsIt (switch w k on (map part_doing parts)).does
      (λ s. after ((means w on).value (has_case (map part_doing parts)) s) (λ a. adds_chosen w.program k a (given_default parts) parts))
  unfolding switch
  switch_folds k on parts spared each =
      folds_settled op kind n (is_left (switch_jumps (map part_doing parts))) ((means w on).value (has_case (map part_doing parts)) >>= switches w.program k (map part_doing parts))
      (λ s. after ((means w on).value (has_case (map part_doing parts)) s) (λ a. adds_chosen w.program k a (given_default parts) parts))
      (folds_behind op kind n ((means w on).value (has_case (map part_doing parts))) (switches w.program k (map part_doing parts)) (λ a. adds_chosen w.program k a (given_default parts) parts)
      (value_keeps n w (keep_all n) on spared (has_case (map part_doing parts)))
      (λ a. chooses_folds op kind n w.program k (selects_keep n w.program k) (behind_default (map part_doing parts)) (given_default parts) (default_folds op kind n parts each) a parts each))

  -- ALL STATEMENTS
  abbrev part_gives : TPart → PartGiving
  part_gives = fold-TPart PartGiving Giving part_giving (giving_step w n)

  abbrev part_listed : TPart → List TExpr
  part_listed = fold-TPart (List TExpr) (List TExpr) part_expressions expressions_step

  abbrev StmtFolds : Inside → List TExpr → Giving → Type 0
  StmtFolds i es g = Fit i.uses → AreTyped kind n es → FoldsGiving op kind n g

  abbrev PartFold : Inside → List TExpr → PartGiving → Type 0
  PartFold i es p = Fit i.uses → AreTyped kind n es → PartFolds op kind n p

  abbrev OfPart : TPart → Type 0
  OfPart p = PartFold (part_inside p) (part_listed p) (part_gives p)

  abbrev OfStmt : TStmt → Type 0
  OfStmt s = StmtFolds (inside s) (expressions_in s) (giving w n s)

  abbrev bare : List ((s : TStmt) × OfStmt s) → List TStmt
  bare items = map (λ (x : (s : TStmt) × OfStmt s). x.0) items

  abbrev bare_parts : List ((p : TPart) × OfPart p) → List TPart
  bare_parts items = map (λ (x : (p : TPart) × OfPart p). x.0) items

  all_fold : (items : List ((s : TStmt) × OfStmt s)) → Fit (row (map inside (bare items))).uses → AreTyped kind n (joined (map expressions_in (bare items)))
      → AllFold op kind n (map (giving w n) (bare items))
  all_fold [] is typed = tt
  all_fold (x ∷ items) is typed =
      let rest : List Use = (row (map inside (bare items))).uses in
      let more : List TExpr = joined (map expressions_in (bare items)) in (
        x.1 (all_front (fits n group) (inside x.0).uses rest is) (typed_front kind n (expressions_in x.0) more typed),
        all_fold items (all_behind (fits n group) (inside x.0).uses rest is) (typed_behind kind n (expressions_in x.0) more typed),
      )

  parts_fold : (items : List ((p : TPart) × OfPart p)) → Fit (row (map part_inside (bare_parts items))).uses → AreTyped kind n (joined (map part_listed (bare_parts items)))
      → PartsFold op kind n (map part_gives (bare_parts items))
  parts_fold [] is typed = tt
  parts_fold (x ∷ items) is typed =
      let rest : List Use = (row (map part_inside (bare_parts items))).uses in
      let more : List TExpr = joined (map part_listed (bare_parts items)) in (
        x.1 (all_front (fits n group) (part_inside x.0).uses rest is) (typed_front kind n (part_listed x.0) more typed),
        parts_fold items (all_behind (fits n group) (part_inside x.0).uses rest is) (typed_behind kind n (part_listed x.0) more typed),
      )

  abbrev PartAt : TPart-F TPart TStmt → Type 0
  PartAt z =
      PartFold (part_step (map-TPart TPart TStmt Inside Inside part_inside inside z)) (part_expressions (map-TPart TPart TStmt (List TExpr) (List TExpr) part_listed expressions_in z))
      (part_giving (map-TPart TPart TStmt PartGiving Giving part_gives (giving w n) z))

  abbrev StmtAt : TStmt-F TPart TStmt → Type 0
  StmtAt z =
      StmtFolds (inside_step (map-TStmt TPart TStmt Inside Inside part_inside inside z)) (expressions_step (map-TStmt TPart TStmt (List TExpr) (List TExpr) part_listed expressions_in z))
      (giving_step w n (map-TStmt TPart TStmt PartGiving Giving part_gives (giving w n) z))

  part_by : (y : TPart-F ((p : TPart) × OfPart p) ((s : TStmt) × OfStmt s))
      → PartAt (map-TPart _ _ TPart TStmt (λ (x : (p : TPart) × OfPart p). x.0) (λ (x : (s : TStmt) × OfStmt s). x.0) y)
  part_by (TPart-F.Case place z) is typed = tt
  part_by (TPart-F.Default place) is typed = tt
  part_by (TPart-F.Does place s) is typed = s.1 is typed

  stmt_by : (y : TStmt-F ((p : TPart) × OfPart p) ((s : TStmt) × OfStmt s))
      → StmtAt (map-TStmt _ _ TPart TStmt (λ (x : (p : TPart) × OfPart p). x.0) (λ (x : (s : TStmt) × OfStmt s). x.0) y)
  stmt_by (TStmt-F.Expr spot e) is typed =
      expression_folds e (contributed w (reducing_step n (out-TExpr e))) (statement_folds w keep_all n group kind register e is typed.0)
  stmt_by (TStmt-F.Empty spot) is typed = quiet op kind n empty.does (empty_keeps n w (keep_all n))
  stmt_by (TStmt-F.Block spot parts) is typed = compound_folds (map (giving w n) (bare parts)) (all_fold parts is typed)
  stmt_by (TStmt-F.If spot test a None) is typed =
      let rest = all_behind (fits n group) (uses_of test) ((inside a.0).uses ++ []) is in
      if_folds spot test (giving w n a.0) None (adds_if_there None) (spared_expr test (all_front (fits n group) (uses_of test) ((inside a.0).uses ++ []) is))
      (a.1 (all_front (fits n group) (inside a.0).uses [] rest) (typed_front kind n (expressions_in a.0) [] typed)) (quiet op kind n (gives Normal) (gives_kept n Normal))
  stmt_by (TStmt-F.If spot test a (Some b)) is typed =
      let rest = all_behind (fits n group) (uses_of test) ((inside a.0).uses ++ (inside b.0).uses) is in
      if_folds spot test (giving w n a.0) (Some (giving w n b.0).doing) (adds_if_there (Some (giving w n b.0))) (spared_expr test (all_front (fits n group) (uses_of test) ((inside a.0).uses ++ (inside b.0).uses) is))
      (a.1 (all_front (fits n group) (inside a.0).uses (inside b.0).uses rest) (typed_front kind n (expressions_in a.0) (expressions_in b.0) typed))
      (b.1 (all_behind (fits n group) (inside a.0).uses (inside b.0).uses rest) (typed_behind kind n (expressions_in a.0) (expressions_in b.0) typed))
  stmt_by (TStmt-F.While spot number test a) is typed =
      while_folds spot number test (giving w n a.0) (spared_expr test (all_front (fits n group) (uses_of test) (inside a.0).uses is))
      (a.1 (all_behind (fits n group) (uses_of test) (inside a.0).uses is) typed)
  stmt_by (TStmt-F.DoWhile spot number a test) is typed =
      do_folds spot number (giving w n a.0) test (spared_expr test (all_behind (fits n group) (inside a.0).uses (uses_of test) is))
      (a.1 (all_front (fits n group) (inside a.0).uses (uses_of test) is) typed)
  stmt_by (TStmt-F.For spot number start test step a) is typed =
      let behind_start = all_behind (fits n group) (first_uses start) (option_uses test ++ (option_uses step ++ (inside a.0).uses)) is in
      let behind_test = all_behind (fits n group) (option_uses test) (option_uses step ++ (inside a.0).uses) behind_start in
      for_folds spot number start test step (giving w n a.0)
      (fits_unreduced n group (first_uses start) (all_front (fits n group) (first_uses start) (option_uses test ++ (option_uses step ++ (inside a.0).uses)) is) (unreduced_first start))
      (spared_option test (all_front (fits n group) (option_uses test) (option_uses step ++ (inside a.0).uses) behind_start))
      (spared_option step (all_front (fits n group) (option_uses step) (inside a.0).uses behind_test))
      (a.1 (all_behind (fits n group) (option_uses step) (inside a.0).uses behind_test) typed)
  stmt_by (TStmt-F.Switch spot k on parts) is typed =
      let all : List Use = (row (map part_inside (bare_parts parts))).uses in
      switch_folds k on (map part_gives (bare_parts parts)) (spared_expr on (all_front (fits n group) (uses_of on) all is))
      (parts_fold parts (all_behind (fits n group) (uses_of on) all is) typed)
  stmt_by (TStmt-F.Break spot) is typed = quiet op kind n break.does (break_keeps n w (keep_all n))
  stmt_by (TStmt-F.Continue spot) is typed = quiet op kind n continue.does (continue_keeps n w (keep_all n))
  stmt_by (TStmt-F.Return spot value) is typed = quiet op kind n (return w spot value).does (return_keeps n w (keep_all n) spot value (spared_option value is))
  stmt_by (TStmt-F.Declare spot list) is typed =
      quiet op kind n (declaration w list).does (declaration_keeps n w (keep_all n) list (fits_unreduced n group (declared_uses list) is (unreduced_declared list)))

  -- a statement
  pub giving_folds : (s : TStmt) → OfStmt s
  giving_folds =
      ind-TStmt OfPart OfStmt
      (λ x y is.
      subst (λ (i : Inside). PartFold i (part_listed (roll-TPart x)) (part_gives (roll-TPart x))) (sym (fold-roll-TPart Inside Inside part_step inside_step x))
      (subst (λ (es : List TExpr). PartFold (part_step (map-TPart TPart TStmt Inside Inside part_inside inside x)) es (part_gives (roll-TPart x)))
      (sym (fold-roll-TPart (List TExpr) (List TExpr) part_expressions expressions_step x))
      (subst (PartFold (part_step (map-TPart TPart TStmt Inside Inside part_inside inside x)) (part_expressions (map-TPart TPart TStmt (List TExpr) (List TExpr) part_listed expressions_in x)))
      (sym (fold-roll-TPart PartGiving Giving part_giving (giving_step w n) x)) (subst PartAt is (part_by y)))))
      (λ x y is.
      subst (λ (i : Inside). StmtFolds i (expressions_in (roll-TStmt x)) (giving w n (roll-TStmt x))) (sym (fold-roll-TStmt Inside Inside part_step inside_step x))
      (subst (λ (es : List TExpr). StmtFolds (inside_step (map-TStmt TPart TStmt Inside Inside part_inside inside x)) es (giving w n (roll-TStmt x)))
      (sym (fold-roll-TStmt (List TExpr) (List TExpr) part_expressions expressions_step x))
      (subst (StmtFolds (inside_step (map-TStmt TPart TStmt Inside Inside part_inside inside x)) (expressions_step (map-TStmt TPart TStmt (List TExpr) (List TExpr) part_listed expressions_in x)))
      (sym (fold-roll-TStmt PartGiving Giving part_giving (giving_step w n) x)) (subst StmtAt is (stmt_by y)))))

-- WHAT CONTRIBUTES is what is done
module _ (w : Within) (n : ℕ) where
  abbrev gives_part : TPart → PartGiving
  gives_part = fold-TPart PartGiving Giving part_giving (giving_step w n)

  abbrev does_part : TPart → PartDoing
  does_part = fold-TPart PartDoing Doing statements.part_step (does_step w)

  abbrev DoingOf : TStmt → Type 0
  DoingOf s = (giving w n s).doing ≡ does w s

  abbrev DoingOfPart : TPart → Type 0
  DoingOfPart p = part_doing (gives_part p) ≡ does_part p

  abbrev only_stmts : List ((s : TStmt) × DoingOf s) → List TStmt
  only_stmts items = map (λ (x : (s : TStmt) × DoingOf s). x.0) items

  abbrev only_parts : List ((p : TPart) × DoingOfPart p) → List TPart
  only_parts items = map (λ (x : (p : TPart) × DoingOfPart p). x.0) items

  all_doing : (items : List ((s : TStmt) × DoingOf s)) → map (λ (g : Giving). g.doing) (map (giving w n) (only_stmts items)) ≡ map (does w) (only_stmts items)
  all_doing [] = refl
  all_doing (x ∷ items) =
      ap (λ (d : Doing). d ∷ map (λ (g : Giving). g.doing) (map (giving w n) (only_stmts items))) x.1 ∙ ap (λ (ds : List Doing). does w x.0 ∷ ds) (all_doing items)

  all_parts : (items : List ((p : TPart) × DoingOfPart p)) → map part_doing (map gives_part (only_parts items)) ≡ map does_part (only_parts items)
  all_parts [] = refl
  all_parts (x ∷ items) = ap (λ (d : PartDoing). d ∷ map part_doing (map gives_part (only_parts items))) x.1 ∙ ap (λ (ds : List PartDoing). does_part x.0 ∷ ds) (all_parts items)

  abbrev DoingPartAt : TPart-F TPart TStmt → Type 0
  DoingPartAt z =
      part_doing (part_giving (map-TPart TPart TStmt PartGiving Giving gives_part (giving w n) z)) ≡ statements.part_step (map-TPart TPart TStmt PartDoing Doing does_part (does w) z)

  abbrev DoingAt : TStmt-F TPart TStmt → Type 0
  DoingAt z = (giving_step w n (map-TStmt TPart TStmt PartGiving Giving gives_part (giving w n) z)).doing ≡ does_step w (map-TStmt TPart TStmt PartDoing Doing does_part (does w) z)

  doing_part_by : (y : TPart-F ((p : TPart) × DoingOfPart p) ((s : TStmt) × DoingOf s))
      → DoingPartAt (map-TPart _ _ TPart TStmt (λ (x : (p : TPart) × DoingOfPart p). x.0) (λ (x : (s : TStmt) × DoingOf s). x.0) y)
  doing_part_by (TPart-F.Case place z) = refl
  doing_part_by (TPart-F.Default place) = refl
  doing_part_by (TPart-F.Does place s) = ap AStatement s.1

  doing_by : (y : TStmt-F ((p : TPart) × DoingOfPart p) ((s : TStmt) × DoingOf s))
      → DoingAt (map-TStmt _ _ TPart TStmt (λ (x : (p : TPart) × DoingOfPart p). x.0) (λ (x : (s : TStmt) × DoingOf s). x.0) y)
  doing_by (TStmt-F.Expr spot e) = refl
  doing_by (TStmt-F.Empty spot) = refl
  doing_by (TStmt-F.Block spot parts) = ap compound (all_doing parts)
  doing_by (TStmt-F.If spot test a None) = ap (λ (d : Doing). if_else w spot test d None) a.1
  doing_by (TStmt-F.If spot test a (Some b)) =
      ap (λ (d : Doing). if_else w spot test d (Some (giving w n b.0).doing)) a.1 ∙ ap (λ (d : Doing). if_else w spot test (does w a.0) (Some d)) b.1
  doing_by (TStmt-F.While spot number test a) = ap (while_loop w spot number test) a.1
  doing_by (TStmt-F.DoWhile spot number a test) = ap (λ (d : Doing). do_loop w spot number d test) a.1
  doing_by (TStmt-F.For spot number start test step a) = ap (for_loop w spot number start test step) a.1
  doing_by (TStmt-F.Switch spot kind on parts) = ap (switch w kind on) (all_parts parts)
  doing_by (TStmt-F.Break spot) = refl
  doing_by (TStmt-F.Continue spot) = refl
  doing_by (TStmt-F.Return spot value) = refl
  doing_by (TStmt-F.Declare spot list) = refl

  pub doing_is : (s : TStmt) → DoingOf s
  doing_is =
      ind-TStmt DoingOfPart DoingOf
      (λ x y is.
      subst (λ (p : PartGiving). part_doing p ≡ does_part (roll-TPart x)) (sym (fold-roll-TPart PartGiving Giving part_giving (giving_step w n) x))
      (subst (λ (p : PartDoing). part_doing (part_giving (map-TPart TPart TStmt PartGiving Giving gives_part (giving w n) x)) ≡ p)
      (sym (fold-roll-TPart PartDoing Doing statements.part_step (does_step w) x)) (subst DoingPartAt is (doing_part_by y))))
      (λ x y is.
      subst (λ (g : Giving). g.doing ≡ does w (roll-TStmt x)) (sym (fold-roll-TStmt PartGiving Giving part_giving (giving_step w n) x))
      (subst (λ (d : Doing). (giving_step w n (map-TStmt TPart TStmt PartGiving Giving gives_part (giving w n) x)).doing ≡ d)
      (sym (fold-roll-TStmt PartDoing Doing statements.part_step (does_step w) x)) (subst DoingAt is (doing_by y))))

-- THE CONDITIONS of a reduction
reduced_is : (vs : List TVariable) (l : Loop) (n : ℕ) (g : Group) → is_reduced vs l n g ≡ true → (marks.is_register vs n ≡ true) × (list_all (fits n g) (loop_uses l) ≡ true)
unfolding is_reduced
reduced_is vs l n g is = both_true (marks.is_register vs n) (list_all (fits n g) (loop_uses l)) is

commutes : (g : Group) → is_commutative (combining g) ≡ true
commutes Sums = refl
commutes Products = refl
commutes Ands = refl
commutes Ors = refl
commutes Xors = refl

reached : (n : ℕ) (z : ℤ) (o : Outcome Flow) (flow : Flow) (t : State) → Reaches n z o → o ≡ Goes flow t → HoldsNumber t n z
reached n z o flow t h is = subst (Reaches n z) is h

-- A LOOP
pub reductions_combine : ReductionsCombine
reductions_combine program depth number f l n group kind is of typed tested s t flow x there ended zs any =
    let w : Within = within program (calls depth program) number f in
    let facts = reduced_is f.variables (marked l) n group is in
    let register = register_of f.variables n facts.0 in
    let keep_all : (m : ℕ) → CallsKeep m w.calls = (λ m. calls_keep m program depth) in
    let body_uses : List Use = (inside l.body).uses in
    let behind_start = all_behind (fits n group) (first_declares l.start) (option_uses l.test ++ (option_uses l.step ++ body_uses)) facts.1 in
    let behind_test = all_behind (fits n group) (option_uses l.test) (option_uses l.step ++ body_uses) behind_start in
    let test = spared_option w keep_all n group kind register l.test (all_front (fits n group) (option_uses l.test) (option_uses l.step ++ body_uses) behind_start) in
    let step = spared_option w keep_all n group kind register l.step (all_front (fits n group) (option_uses l.step) body_uses behind_test) in
    let body = giving_folds w keep_all n group kind register l.body (all_behind (fits n group) (option_uses l.step) body_uses behind_test) typed in
    let g : Giving = giving w n l.body in
    let xs : List ℤ = adds_loop w l.spot l.number l.test l.step g tested s in
    let run : source_loop w l.spot l.number l.test l.step g.doing tested s ≡ Goes flow t =
    ap (λ (d : Doing). source_loop w l.spot l.number l.test l.step d tested s) (doing_is w n l.body) ∙ ended in
    let here : HoldsNumber t n (fold (combined (combining group) kind) x xs) =
    reached n (fold (combined (combining group) kind) x xs) (source_loop w l.spot l.number l.test l.step g.doing tested s) flow t
    (source_loop_folds (combining group) kind n w l.spot l.number l.test l.step g tested body
    (test_keeps n w (keep_all n) l.spot.place l.test test) (step_keeps n w (keep_all n) l.step step) s x there) run in
    subst (HoldsNumber t n) (combined_in_any_order (combining group) kind x xs zs (commutes group) any) here
