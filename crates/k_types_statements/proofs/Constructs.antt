-- What the rule of each statement gives, from what its parts give.
use Rattle.std.proofs.Common.{◌≡◌, List, Option, Some, None, Result, Ok, Err, refl, sym, ap, subst}
use Rattle.k_num.specs.declared.numbers.Kind.{Kind}
use Rattle.k_num.specs.declared.place.Place.{Place}
use Rattle.k_tree.specs.declared.tree.expression.Expr.{Expr}
use Rattle.k_tree.specs.declared.tree.statement.First.{First}
use Rattle.k_types_meaning.specs.declared.fault.TypeFault.{TypeFault}
use Rattle.k_types_meaning.specs.declared.tree.statement.TFirst.{TFirst}
use Rattle.k_types_meaning.specs.declared.tree.statement.TPart.{TPart}
use Rattle.k_types_meaning.specs.declared.tree.statement.TPart.TheVariants as typed_part
use Rattle.k_types_meaning.specs.declared.tree.statement.TStmt.{TStmt}
use Rattle.k_types_meaning.specs.declared.tree.statement.TStmt.TheVariants as typed
use Rattle.k_types_meaning.specs.Conversions.{Typed}
use Rattle.k_types_meaning.specs.Made.{Made, Fine, then_made, Finds}
use Rattle.k_types_meaning.specs.Statements.{Around, Known, Judged, Statement, SwitchPart, at_known, behind, condition, conditioned, spot, opened}
use Rattle.k_types_meaning.specs.Statements.{in_order, each_in, judged_as, block_rule, if_rule, if_made, else_judged, while_rule, do_rule, inside_loop}
use Rattle.k_types_meaning.specs.Statements.{first_judged, option_judged, for_made, for_behind, for_rule}
use Rattle.k_types_meaning.specs.Statements.{switch_rule, switched, inside_switch, parts_in_order, kind_or_int, promoted_or_int, no_labels}
use Rattle.k_types_meaning.specs.Statements.{JudgedPart, does_rule}
use Rattle.k_types_meaning.specs.Statements as statements
use Rattle.k_types_meaning.specs.Types.{number_kind}
use Rattle.k_types_rules.specs.Views.{Refuses}
use Rattle.k_types_statements.specs.declared.valued.Valued.{Valued}
use Rattle.k_types_statements.specs.declared.switch.Labels.{Labels}
use Rattle.k_types_statements.specs.Labels.{Holds, PartRuns, without_type}
use Rattle.k_types_statements.specs.Results.{Runs, RunsAs, closed, judged_at, valued_of, valued_option, for_valued}
use Rattle.k_types_statements.proofs.Judging.{refuses_then, refuses_first, refuses_second, one_runs, two_run, paired, pair_of, pair_runs, left_runs}

-- a condition that was tested
tested : (result : Result TStmt TypeFault) (p : Place) (t : Valued) (v : Typed) (make : Valued → TStmt)
    → t ≡ valued_of v → Finds result (conditioned p t.kind (make t)) → Finds result (condition p v (make (valued_of v)))
tested result p t v make shown found = subst (λ (w : Valued). Finds result (conditioned p w.kind (make w))) shown found

module _ (p : Place) (around : Around) (older : Known) where
  -- C17 6.8.2: a block
  pub block_runs : (parts : List Statement) (result : Result TStmt TypeFault) (stmts : List TStmt) (begun inner newer : Known)
      → begun ≡ opened older
      → Runs (Ok stmts) begun inner (in_order begun (each_in around parts))
      → newer ≡ closed inner
      → Finds result (Fine (typed.Block (spot p) stmts))
      → Runs result older newer (block_rule p parts around older)
  unfolding block_rule
  block_runs parts result stmts begun inner newer opens runs closes found =
      let body : Judged (List TStmt) = in_order (opened older) (each_in around parts) in
      let inside : Runs (Ok stmts) (opened older) inner body =
      subst (λ (k : Known). Runs (Ok stmts) k inner (in_order k (each_in around parts))) opens runs in
      left_runs result older inner newer (judged_as (typed.Block (spot p)) body)
      (one_runs result stmts (opened older) inner body (λ x. Fine (typed.Block (spot p) x)) inside found) closes

  -- a fault in it
  pub block_refuses : (parts : List Statement) (f : TypeFault) (begun : Known)
      → begun ≡ opened older → Refuses f (in_order begun (each_in around parts)).made
      → Refuses f (block_rule p parts around older).made
  unfolding block_rule
  block_refuses parts f begun opens refuses =
      refuses_then f (in_order (opened older) (each_in around parts)).made (λ x. Fine (typed.Block (spot p) x))
      (subst (λ (k : Known). Refuses f (in_order k (each_in around parts)).made) opens refuses)

  module _ (test : Expr) (body : Statement) where
    -- C17 6.8.5.1: a `while` loop
    pub while_runs : (result : Result TStmt TypeFault) (t : Valued) (s : TStmt) (middle newer : Known)
        → RunsAs valued_of (Ok t) older middle (judged_at older test)
        → Runs (Ok s) middle newer (body (inside_loop around) middle)
        → Finds result (conditioned p t.kind (typed.While (spot p) 0 t.tree s))
        → Runs result older newer (while_rule p test body around older)
    unfolding while_rule
    while_runs result t s middle newer (v, shown, runs) more found =
        two_run result v s older middle newer (judged_at older test) (body (inside_loop around))
        (λ (v : Typed) s. condition p v (typed.While (spot p) 0 v.tree s)) runs more
        (tested result p t v (λ w. typed.While (spot p) 0 w.tree s) shown found)

    -- a fault in its test
    pub while_refuses_test : (f : TypeFault) → Refuses f (at_known older test) → Refuses f (while_rule p test body around older).made
    unfolding while_rule
    while_refuses_test f refuses =
        refuses_first f (at_known older test) (body (inside_loop around) (behind older (at_known older test))).made
        (λ (v : Typed) s. condition p v (typed.While (spot p) 0 v.tree s)) refuses

    -- a fault in its body
    pub while_refuses_body : (f : TypeFault) (t : Valued) (middle : Known)
        → RunsAs valued_of (Ok t) older middle (judged_at older test)
        → Refuses f (body (inside_loop around) middle).made
        → Refuses f (while_rule p test body around older).made
    unfolding while_rule
    while_refuses_body f t middle (v, shown, runs) refuses =
        refuses_second f v older middle (judged_at older test) (λ k. (body (inside_loop around) k).made)
        (λ (v : Typed) s. condition p v (typed.While (spot p) 0 v.tree s)) runs refuses

    -- C17 6.8.5.2: a `do` loop
    pub do_runs : (result : Result TStmt TypeFault) (t : Valued) (s : TStmt) (middle newer : Known)
        → Runs (Ok s) older middle (body (inside_loop around) older)
        → RunsAs valued_of (Ok t) middle newer (judged_at middle test)
        → Finds result (conditioned p t.kind (typed.DoWhile (spot p) 0 s t.tree))
        → Runs result older newer (do_rule p body test around older)
    unfolding do_rule
    do_runs result t s middle newer runs (v, shown, more) found =
        two_run result s v older middle newer (body (inside_loop around) older) (λ k. judged_at k test)
        (λ s (v : Typed). condition p v (typed.DoWhile (spot p) 0 s v.tree)) runs more
        (tested result p t v (λ w. typed.DoWhile (spot p) 0 s w.tree) shown found)

    -- a fault in its body
    pub do_refuses_body : (f : TypeFault) → Refuses f (body (inside_loop around) older).made → Refuses f (do_rule p body test around older).made
    unfolding do_rule
    do_refuses_body f refuses =
        refuses_first f (body (inside_loop around) older).made (at_known (body (inside_loop around) older).after test)
        (λ s (v : Typed). condition p v (typed.DoWhile (spot p) 0 s v.tree)) refuses

    -- a fault in its test
    pub do_refuses_test : (f : TypeFault) (s : TStmt) (middle : Known)
        → Runs (Ok s) older middle (body (inside_loop around) older)
        → Refuses f (at_known middle test)
        → Refuses f (do_rule p body test around older).made
    unfolding do_rule
    do_refuses_test f s middle runs refuses =
        refuses_second f s older middle (body (inside_loop around) older) (λ k. at_known k test)
        (λ s (v : Typed). condition p v (typed.DoWhile (spot p) 0 s v.tree)) runs refuses

  module _ (test : Expr) (first : Statement) (second : Option Statement) where
    -- both statements of an `if`
    abbrev arms : Known → Judged (TStmt × Option TStmt)
    arms k = pair_of (first around k) (λ after. else_judged around after second)

    -- what comes of an `if`
    abbrev chosen : Typed → (TStmt × Option TStmt) → Made TStmt
    chosen v x = if_made p v x.0 x.1

    -- C17 6.8.4.1: an `if`
    pub if_runs : (result : Result TStmt TypeFault) (t : Valued) (s : TStmt) (o : Option TStmt) (middle late newer : Known)
        → RunsAs valued_of (Ok t) older middle (judged_at older test)
        → Runs (Ok s) middle late (first around middle)
        → Runs (Ok o) late newer (else_judged around late second)
        → Finds result (conditioned p t.kind (typed.If (spot p) t.tree s o))
        → Runs result older newer (if_rule p test first second around older)
    unfolding if_rule
    if_runs result t s o middle late newer (v, shown, runs) more last found =
        two_run {B = TStmt × Option TStmt} result v (s, o) older middle newer (judged_at older test) arms
        chosen runs
        (pair_runs s o middle late newer (first around middle) (λ k. else_judged around k second) more last)
        (tested result p t v (λ w. typed.If (spot p) w.tree s o) shown found)

    -- a fault in its test
    pub if_refuses_test : (f : TypeFault) → Refuses f (at_known older test) → Refuses f (if_rule p test first second around older).made
    unfolding if_rule
    if_refuses_test f refuses =
        refuses_first f (at_known older test) (arms (behind older (at_known older test))).made chosen refuses

    -- a fault in its first statement
    pub if_refuses_first : (f : TypeFault) (t : Valued) (middle : Known)
        → RunsAs valued_of (Ok t) older middle (judged_at older test)
        → Refuses f (first around middle).made
        → Refuses f (if_rule p test first second around older).made
    unfolding if_rule
    if_refuses_first f t middle (v, shown, runs) refuses =
        refuses_second f v older middle (judged_at older test) (λ k. (arms k).made) chosen runs
        (refuses_first f (first around middle).made (else_judged around (first around middle).after second).made paired refuses)

    -- a fault behind its `else`
    pub if_refuses_second : (f : TypeFault) (t : Valued) (s : TStmt) (middle late : Known)
        → RunsAs valued_of (Ok t) older middle (judged_at older test)
        → Runs (Ok s) middle late (first around middle)
        → Refuses f (else_judged around late second).made
        → Refuses f (if_rule p test first second around older).made
    unfolding if_rule
    if_refuses_second f t s middle late (v, shown, runs) more refuses =
        refuses_second f v older middle (judged_at older test) (λ k. (arms k).made) chosen runs
        (refuses_second f s middle late (first around middle) (λ k. (else_judged around k second).made) paired more refuses)

  module _ (on : Expr) (parts : List SwitchPart) where
    -- the parts of a switch, where what it is on was judged
    abbrev switch_parts : Known → Judged (List TPart)
    switch_parts k = parts_in_order (inside_switch around) (kind_or_int (at_known older on)) no_labels k parts

    -- they are judged by the kind of what it is on
    by_kind : {A : Type 0} (P : Kind → A → Type 0) (x : A) (t : Valued) (v : Typed)
        → t ≡ valued_of v → at_known older on ≡ Fine v → P (promoted_or_int t.kind) x → P (kind_or_int (at_known older on)) x
    by_kind P x t v shown made holds =
        subst (λ m. P (kind_or_int m) x) (sym made) (subst (λ (w : Valued). P (promoted_or_int w.kind) x) shown holds)

    -- a switch needs no more of what it is on than its tree and its kind
    same_switch : (v : Typed) (list : List TPart) (kind : Option Kind)
        → switched p (without_type v.tree) list kind ≡ switched p v list kind
    same_switch v list None = refl
    same_switch v list (Some kind) = refl

    -- C17 6.8.4.2: a switch
    pub switch_runs : (result : Result TStmt TypeFault) (t : Valued) (list : List TPart) (middle newer : Known)
        → RunsAs valued_of (Ok t) older middle (judged_at older on)
        → Runs (Ok list) middle newer (parts_in_order (inside_switch around) (promoted_or_int t.kind) no_labels middle parts)
        → Finds result (switched p (without_type t.tree) list t.kind)
        → Runs result older newer (switch_rule p on parts around older)
    unfolding switch_rule
    switch_runs result t list middle newer (v, shown, runs) more found =
        two_run result v list older middle newer (judged_at older on) switch_parts
        (λ (v : Typed) list. switched p v list (number_kind v.of)) runs
        (by_kind (λ kind (k : Known). Runs (Ok list) k newer (parts_in_order (inside_switch around) kind no_labels k parts)) middle t v shown runs.0 more)
        (subst (Finds result) (same_switch v list (number_kind v.of))
        (subst (λ (w : Valued). Finds result (switched p (without_type w.tree) list w.kind)) shown found))

    -- a fault in what it is on
    pub switch_refuses_on : (f : TypeFault) → Refuses f (at_known older on) → Refuses f (switch_rule p on parts around older).made
    unfolding switch_rule
    switch_refuses_on f refuses =
        refuses_first f (at_known older on) (switch_parts (behind older (at_known older on))).made
        (λ (v : Typed) list. switched p v list (number_kind v.of)) refuses

    -- a fault in its parts
    pub switch_refuses_parts : (f : TypeFault) (t : Valued) (middle : Known)
        → RunsAs valued_of (Ok t) older middle (judged_at older on)
        → Refuses f (parts_in_order (inside_switch around) (promoted_or_int t.kind) no_labels middle parts).made
        → Refuses f (switch_rule p on parts around older).made
    unfolding switch_rule
    switch_refuses_parts f t middle (v, shown, runs) refuses =
        refuses_second f v older middle (judged_at older on) (λ k. (switch_parts k).made)
        (λ (v : Typed) list. switched p v list (number_kind v.of)) runs
        (by_kind (λ kind (k : Known). Refuses f (parts_in_order (inside_switch around) kind no_labels k parts).made) middle t v shown runs.0 refuses)

  module _ (start : First) (test step : Option Expr) (body : Statement) where
    -- what comes of the four parts of a `for`
    abbrev together : (TFirst × Option Typed) → (Option Typed × TStmt) → Made TStmt
    together x y = for_made p x.0 x.1 y.0 y.1

    -- the first two parts
    abbrev front : Known → Judged (TFirst × Option Typed)
    front k = pair_of (first_judged k start) (λ after. option_judged after test)

    -- the last two parts
    abbrev back : Known → Judged (Option Typed × TStmt)
    back k = pair_of (option_judged k step) (body (inside_loop around))

    -- what is tested
    same_for : (x : TFirst) (t u : Option Typed) (s : TStmt) → for_valued p x (valued_option t) (valued_option u) s ≡ for_made p x t u s
    same_for x None None s = refl
    same_for x None (Some u) s = refl
    same_for x (Some t) None s = refl
    same_for x (Some t) (Some u) s = refl

    -- C17 6.8.5.3: a `for`
    pub for_runs : (result : Result TStmt TypeFault) (x : TFirst) (t u : Option Valued) (s : TStmt) (begun a b c inner newer : Known)
        → begun ≡ opened older
        → Runs (Ok x) begun a (first_judged begun start)
        → RunsAs valued_option (Ok t) a b (option_judged a test)
        → RunsAs valued_option (Ok u) b c (option_judged b step)
        → Runs (Ok s) c inner (body (inside_loop around) c)
        → newer ≡ closed inner
        → Finds result (for_valued p x t u s)
        → Runs result older newer (for_rule p start test step body around older)
    unfolding for_rule
    for_runs result x t u s begun a b c inner newer opens first (v, v_shown, second) (w, w_shown, third) fourth closes found =
        let first_inside : Runs (Ok x) (opened older) a (first_judged (opened older) start) =
        subst (λ (k : Known). Runs (Ok x) k a (first_judged k start)) opens first in
        let inside : Runs result (opened older) inner (for_behind p test step body around (first_judged (opened older) start)) =
        two_run {A = TFirst × Option Typed} {B = Option Typed × TStmt} result (x, v) (w, s) (opened older) b inner (front (opened older)) back together
        (pair_runs x v (opened older) a b (first_judged (opened older) start) (λ k. option_judged k test) first_inside second)
        (pair_runs w s b c inner (option_judged b step) (body (inside_loop around)) third fourth)
        (subst (Finds result) (same_for x v w s)
        (subst (λ o. Finds result (for_valued p x (valued_option v) o s)) w_shown
        (subst (λ o. Finds result (for_valued p x o u s)) v_shown found))) in
        left_runs result older inner newer (for_behind p test step body around (first_judged (opened older) start)) inside closes

    -- a fault in its first part
    pub for_refuses_first : (f : TypeFault) (begun : Known)
        → begun ≡ opened older
        → Refuses f (first_judged begun start).made
        → Refuses f (for_rule p start test step body around older).made
    unfolding for_rule
    for_refuses_first f begun opens refuses =
        let k : Known = opened older in
        refuses_first f (front k).made (back (front k).after).made together
        (refuses_first f (first_judged k start).made (option_judged (first_judged k start).after test).made paired
        (subst (λ (k : Known). Refuses f (first_judged k start).made) opens refuses))

    -- a fault in its test
    pub for_refuses_test : (f : TypeFault) (x : TFirst) (begun a : Known)
        → begun ≡ opened older
        → Runs (Ok x) begun a (first_judged begun start)
        → Refuses f (option_judged a test).made
        → Refuses f (for_rule p start test step body around older).made
    unfolding for_rule
    for_refuses_test f x begun a opens first refuses =
        let k : Known = opened older in
        refuses_first f (front k).made (back (front k).after).made together
        (refuses_second f x k a (first_judged k start) (λ m. (option_judged m test).made) paired
        (subst (λ (k : Known). Runs (Ok x) k a (first_judged k start)) opens first) refuses)

    -- the first two parts are judged
    front_runs : (x : TFirst) (v : Option Typed) (begun a b : Known)
        → begun ≡ opened older
        → Runs (Ok x) begun a (first_judged begun start)
        → Runs (Ok v) a b (option_judged a test)
        → Runs {A = TFirst × Option Typed} (Ok (x, v)) (opened older) b (front (opened older))
    front_runs x v begun a b opens first second =
        pair_runs x v (opened older) a b (first_judged (opened older) start) (λ k. option_judged k test)
        (subst (λ (k : Known). Runs (Ok x) k a (first_judged k start)) opens first) second

    -- a fault in its step
    pub for_refuses_step : (f : TypeFault) (x : TFirst) (t : Option Valued) (begun a b : Known)
        → begun ≡ opened older
        → Runs (Ok x) begun a (first_judged begun start)
        → RunsAs valued_option (Ok t) a b (option_judged a test)
        → Refuses f (option_judged b step).made
        → Refuses f (for_rule p start test step body around older).made
    unfolding for_rule
    for_refuses_step f x t begun a b opens first (v, shown, second) refuses =
        refuses_second {A = TFirst × Option Typed} f (x, v) (opened older) b (front (opened older)) (λ k. (back k).made) together
        (front_runs x v begun a b opens first second)
        (refuses_first f (option_judged b step).made (body (inside_loop around) (option_judged b step).after).made paired refuses)

    -- a fault in its body
    pub for_refuses_body : (f : TypeFault) (x : TFirst) (t u : Option Valued) (begun a b c : Known)
        → begun ≡ opened older
        → Runs (Ok x) begun a (first_judged begun start)
        → RunsAs valued_option (Ok t) a b (option_judged a test)
        → RunsAs valued_option (Ok u) b c (option_judged b step)
        → Refuses f (body (inside_loop around) c).made
        → Refuses f (for_rule p start test step body around older).made
    unfolding for_rule
    for_refuses_body f x t u begun a b c opens first (v, v_shown, second) (w, w_shown, third) refuses =
        refuses_second {A = TFirst × Option Typed} f (x, v) (opened older) b (front (opened older)) (λ k. (back k).made) together
        (front_runs x v begun a b opens first second)
        (refuses_second f w b c (option_judged b step) (λ k. (body (inside_loop around) k).made) paired third refuses)

-- a part of a switch has a fault, which is the first
pub part_stops : (result : Result TPart TypeFault) (f : TypeFault) (older newer : Known) (kept : Labels) (j : JudgedPart)
    → result ≡ Err f → Refuses f j.made → PartRuns result older newer kept j
part_stops result f older newer kept j is refuses = subst (λ r. PartRuns r older newer kept j) (sym is) refuses

module _ (p : Place) (s : Statement) (around : Around) (kind : Kind) (labels : statements.Labels) (older : Known) where
  -- C17 6.8.4.2: a statement in the braces of a switch
  pub does_runs : (x : TStmt) (newer : Known) (kept : Labels) → Holds kept labels → Runs (Ok x) older newer (s around older)
      → PartRuns (Ok (typed_part.Does p x)) older newer kept (does_rule p s around kind labels older)
  unfolding does_rule
  does_runs x newer kept holds (made, after, names) =
      (ap (λ m. then_made m (λ stmt. Fine (typed_part.Does p stmt))) made, after, names, holds)

  -- a fault in it
  pub does_refuses : (f : TypeFault) → Refuses f (s around older).made → Refuses f (does_rule p s around kind labels older).made
  unfolding does_rule
  does_refuses f refuses = refuses_then f (s around older).made (λ stmt. Fine (typed_part.Does p stmt)) refuses
