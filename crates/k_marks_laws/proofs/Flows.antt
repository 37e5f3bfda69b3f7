-- A statement ends by a jump only where its text holds one.
use Rattle.std.proofs.Common.{◌≡◌, ℕ, zero, suc, ◌+◌, List, [], ◌∷◌, map, Option, Some, None, Bool, true, false, ◌||◌, not, if◌then◌else◌, refl, sym, ap, subst}
use Rattle.k_num.specs.declared.numbers.Kind.{Kind}
use Rattle.k_types_meaning.specs.declared.tree.declaration.TDeclarator.{TDeclarator}
use Rattle.k_types_meaning.specs.declared.tree.expression.TExpr.{TExpr}
use Rattle.k_types_meaning.specs.declared.tree.statement.Spot.{Spot}
use Rattle.k_types_meaning.specs.declared.tree.statement.TFirst.{TFirst}
use Rattle.k_types_meaning.specs.declared.tree.statement.TPart.{TPart, fold-TPart, fold-roll-TPart, map-TPart, roll-TPart}
use Rattle.k_types_meaning.specs.declared.tree.statement.TPart.TheOpen.{TPart-F, TStmt-F}
use Rattle.k_types_meaning.specs.declared.tree.statement.TStmt.{TStmt, fold-roll-TStmt, ind-TStmt, map-TStmt, roll-TStmt}
use Rattle.k_optab.specs.declared.class.Class.TheVariants as class
use Rattle.k_world.specs.declared.act.Act.TheVariants as act
use Rattle.k_world.specs.declared.value.Held.{Held}
use Rattle.k_marks_meaning.specs.Contents.{Inside, inside, part_inside, inside_step, part_step, row}
use Rattle.k_marks_meaning.specs.Jumps.{is_left}
use Rattle.k_evaluation.specs.declared.operand.Operand.{Operand}
use Rattle.k_evaluation.specs.declared.flow.Flow.{Flow}
use Rattle.k_evaluation.specs.declared.flow.Flow.TheVariants.{Normal, Broke, Continued, Returned}
use Rattle.k_evaluation.specs.States.{State, Outcome, Goes, Stops, Part, follow, ◌>>=◌, gives, makes, enters, exits, region, control, settles, settled}
use Rattle.k_evaluation.specs.Objects.{live, keeps, block}
use Rattle.k_evaluation.specs.Meanings.{holds}
use Rattle.k_evaluation.specs.Flows.{Doing, Within, means, drops, tests_at, unless_left, in_order}
use Rattle.k_evaluation.specs.Loops.{LoopParts, turn_of, starts, stays_behind_body, stays_behind_loop, step_or_end, behind_body, turn, turn_if, turns, all_turns, begins, inside_loop, loop, loop_region, loop_parts, source_loop, while_loop, do_loop}
use Rattle.k_evaluation.specs.Declarations.{starts_with, declares_all}
use Rattle.k_evaluation.specs.Switches.{PartDoing, ACase, ADefault, AStatement, statements_of, behind_default, has_case, selects, chooses, behind_switch, runs_chosen, switches, switch_jumps, switch}
use Rattle.k_evaluation.specs.Statements.{does_step, does, expression, empty, compound, does_or_none, chosen_arm, if_jumps, if_else, for_loop, break, continue, returns_moved, returns_value, return, declaration}
use Rattle.k_evaluation.specs.Statements as statements

-- what a part gives, where it goes on
abbrev pub GivesAt : {A : Type 0} → (A → Type 0) → Outcome A → Type 0
GivesAt P (Goes a t) = P a
GivesAt P (Stops end w) = Unit {0}

abbrev pub Gives : {A : Type 0} → (A → Type 0) → Part A → Type 0
Gives P part = (s : State) → GivesAt P (part s)

gives_follow : {A B : Type 0} (P : A → Type 0) (Q : B → Type 0) (o : Outcome A) (next : A → Part B) → GivesAt P o → ((a : A) → P a → Gives Q (next a)) → GivesAt Q (follow o next)
gives_follow P Q (Goes a t) next h each = each a h t
gives_follow P Q (Stops end w) next h each = tt

-- one part behind another
with_given : {A B : Type 0} (P : A → Type 0) (Q : B → Type 0) (part : Part A) (next : A → Part B) → Gives P part → ((a : A) → P a → Gives Q (next a)) → Gives Q (part >>= next)
with_given P Q part next first each s = gives_follow P Q (part s) next (first s) each

behind_follow : {A B : Type 0} (Q : B → Type 0) (o : Outcome A) (next : A → Part B) → ((a : A) → Gives Q (next a)) → GivesAt Q (follow o next)
behind_follow Q (Goes a t) next each = each a t
behind_follow Q (Stops end w) next each = tt

behind_any : {A B : Type 0} (Q : B → Type 0) (part : Part A) (next : A → Part B) → ((a : A) → Gives Q (next a)) → Gives Q (part >>= next)
behind_any Q part next each s = behind_follow Q (part s) next each

given : {A : Type 0} (P : A → Type 0) (a : A) → P a → Gives P (gives a)
given P a p s = p

module _ {A : Type 0} (P : A → Type 0) (part : Part A) (h : Gives P part) where
  settled_gives : (stays : Bool) → Gives P (settled stays part)
  settled_gives stays =
      behind_any P control (λ c. part >>= λ a. settles stays c >>= λ done. gives a)
      (λ c. with_given P P part (λ a. settles stays c >>= λ done. gives a) h (λ a p. behind_any P (settles stays c) (λ done. gives a) (λ done. given P a p)))

  block_gives : Gives P (block part)
  block_gives =
      behind_any P live (λ count. part >>= λ a. keeps count >>= λ kept. gives a)
      (λ count. with_given P P part (λ a. keeps count >>= λ kept. gives a) h (λ a p. behind_any P (keeps count) (λ kept. gives a) (λ done. given P a p)))

  pub region_gives : (number : ℕ) → Gives P (region number part)
  region_gives number =
      behind_any P (enters number) (λ entered. part >>= λ a. exits >>= λ left. gives a)
      (λ entered. with_given P P part (λ a. exits >>= λ left. gives a) h (λ a p. behind_any P exits (λ left. gives a) (λ done. given P a p)))

-- WHICH JUMPS MAY END A STATEMENT: a `break`, a `continue`, a `return`
pub record MayJump : Type 0 where
  pub breaks : Bool
  pub continues : Bool
  pub returns : Bool

-- those of what a statement has in it
abbrev pub jumps_in : Inside → MayJump
jumps_in i = record { breaks = i.jumps.breaks; continues = i.jumps.continues; returns = i.jumps.returns }

-- a statement ended so
abbrev pub IsAllowed : MayJump → Flow → Type 0
IsAllowed j Normal = Unit {0}
IsAllowed j Broke = j.breaks ≡ true
IsAllowed j Continued = j.continues ≡ true
IsAllowed j (Returned v) = j.returns ≡ true

or_left : (a b : Bool) → a ≡ true → (a || b) ≡ true
or_left a b is = ap (λ (c : Bool). c || b) is

or_right : (a b : Bool) → b ≡ true → (a || b) ≡ true
or_right true b is = refl
or_right false b is = is

-- of either
abbrev either_of : MayJump → MayJump → MayJump
either_of i j = record { breaks = i.breaks || j.breaks; continues = i.continues || j.continues; returns = i.returns || j.returns }

left_allowed : (i j : MayJump) (flow : Flow) → IsAllowed i flow → IsAllowed (either_of i j) flow
left_allowed i j Normal h = tt
left_allowed i j Broke h = or_left i.breaks j.breaks h
left_allowed i j Continued h = or_left i.continues j.continues h
left_allowed i j (Returned v) h = or_left i.returns j.returns h

right_allowed : (i j : MayJump) (flow : Flow) → IsAllowed j flow → IsAllowed (either_of i j) flow
right_allowed i j Normal h = tt
right_allowed i j Broke h = or_right i.breaks j.breaks h
right_allowed i j Continued h = or_right i.continues j.continues h
right_allowed i j (Returned v) h = or_right i.returns j.returns h

gives_so : (P Q : Flow → Type 0) (part : Part Flow) → ((flow : Flow) → P flow → Q flow) → Gives P part → Gives Q part
gives_so P Q part from h s = so (part s) (h s)
  where
    so : (o : Outcome Flow) → GivesAt P o → GivesAt Q o
    so (Goes a t) p = from a p
    so (Stops end w) p = tt

abbrev pub DoingAllowed : MayJump → Doing → Type 0
DoingAllowed j s = Gives (IsAllowed j) s.does

-- THE STATEMENTS OF A LIST all end by these jumps
abbrev Each : MayJump → List Doing → Type 0
Each j [] = Unit {0}
Each j (s ∷ ss) = DoingAllowed j s × Each j ss

left_gives : (j : MayJump) (next : Part Flow) → Gives (IsAllowed j) next → (flow : Flow) → IsAllowed j flow → Gives (IsAllowed j) (unless_left next flow)
left_gives j next h Normal p = h
left_gives j next h Broke p = given (IsAllowed j) Broke p
left_gives j next h Continued p = given (IsAllowed j) Continued p
left_gives j next h (Returned v) p = given (IsAllowed j) (Returned v) p

in_order_gives : (j : MayJump) (ss : List Doing) → Each j ss → Gives (IsAllowed j) (in_order ss)
in_order_gives j [] each = given (IsAllowed j) Normal tt
in_order_gives j (s ∷ ss) each = with_given (IsAllowed j) (IsAllowed j) s.does (unless_left (in_order ss)) each.0 (left_gives j (in_order ss) (in_order_gives j ss each.1))

-- a loop ends by a `return` alone
module _ (j out : MayJump) (l : LoopParts) (body : Gives (IsAllowed j) l.body) (before : Option ℕ) (return_out : j.returns ≡ true → out.returns ≡ true) where
  ended_gives : (next : Part Flow) → Gives (IsAllowed out) next → (flow : Flow) → IsAllowed j flow → Gives (IsAllowed out) (step_or_end l before next (turn_of flow))
  ended_gives next h Normal p = behind_any (IsAllowed out) (starts l before l.step) (λ done. next) (λ done. h)
  ended_gives next h Broke p = given (IsAllowed out) Normal tt
  ended_gives next h Continued p = behind_any (IsAllowed out) (starts l before l.step) (λ done. next) (λ done. h)
  ended_gives next h (Returned v) p = given (IsAllowed out) (Returned v) (return_out p)

  starts_give : Gives (IsAllowed j) (starts l before l.body)
  starts_give = behind_any (IsAllowed j) (settles (not l.counted) before) (λ ready. l.body) (λ ready. body)

  turn_gives : (next : Part Flow) → Gives (IsAllowed out) next → (last : Option ℕ) → Gives (IsAllowed out) (turn l before next last)
  turn_gives next h last =
      with_given (IsAllowed j) (IsAllowed out) (starts l before l.body) (behind_body l before next last) starts_give
      (λ flow p. behind_any (IsAllowed out) (settles (stays_behind_body l.jumps) last) (λ done. step_or_end l before next (turn_of flow)) (λ done. ended_gives next h flow p))

  turn_if_gives : (next : Part Flow) → Gives (IsAllowed out) next → (test : Held) → Gives (IsAllowed out) (turn_if l before next test)
  turn_if_gives next h test = by (holds test)
    where
      by : (b : Bool) → Gives (IsAllowed out) (if b then turn l before next test.source else gives Normal)
      by true = turn_gives next h test.source
      by false = given (IsAllowed out) Normal tt

  turns_give : (count : ℕ) → Gives (IsAllowed out) (turns count l before)
  unfolding turns
  turns_give zero s = tt
  turns_give (suc count) s = behind_any (IsAllowed out) (starts l before l.test) (turn_if l before (turns count l before)) (turn_if_gives (turns count l before) (turns_give count)) s

  all_turns_give : Gives (IsAllowed out) (all_turns l before)
  all_turns_give s = turns_give (s.world.left + 1) s

  begins_gives : (tested : Bool) → Gives (IsAllowed out) (begins l tested before)
  begins_gives true = all_turns_give
  begins_gives false = turn_gives (all_turns l before) all_turns_give before

loop_gives : (j out : MayJump) (l : LoopParts) (number : ℕ) (tested : Bool) → Gives (IsAllowed j) l.body → (j.returns ≡ true → out.returns ≡ true) → Gives (IsAllowed out) (loop l number tested)
loop_gives j out l number tested body return_out =
    behind_any (IsAllowed out) control (λ before. inside_loop l number tested before >>= λ flow. settles (stays_behind_loop l.counted l.jumps) before >>= λ done. gives flow)
    (λ before. with_given (IsAllowed out) (IsAllowed out) (inside_loop l number tested before) (λ flow. settles (stays_behind_loop l.counted l.jumps) before >>= λ done. gives flow)
    (region_gives (IsAllowed out) (begins l tested before) (begins_gives j out l body before return_out tested) number)
    (λ flow p. behind_any (IsAllowed out) (settles (stays_behind_loop l.counted l.jumps) before) (λ done. gives flow) (λ done. given (IsAllowed out) flow p)))

-- STATEMENTS, by what their parts have in them
abbrev PartAllowed : MayJump → PartDoing → Type 0
PartAllowed j (ACase place z) = Unit {0}
PartAllowed j ADefault = Unit {0}
PartAllowed j (AStatement s) = DoingAllowed j s

abbrev EachPart : MayJump → List PartDoing → Type 0
EachPart j [] = Unit {0}
EachPart j (p ∷ ps) = PartAllowed j p × EachPart j ps

statements_each : (j : MayJump) (parts : List PartDoing) → EachPart j parts → Each j (statements_of parts)
statements_each j [] each = tt
statements_each j (ACase place z ∷ parts) each = statements_each j parts each.1
statements_each j (ADefault ∷ parts) each = statements_each j parts each.1
statements_each j (AStatement s ∷ parts) each = (each.0, statements_each j parts each.1)

default_each : (j : MayJump) (parts : List PartDoing) → EachPart j parts → Each j (behind_default parts)
default_each j [] each = tt
default_each j (ACase place z ∷ parts) each = default_each j parts each.1
default_each j (ADefault ∷ parts) each = statements_each j parts each.1
default_each j (AStatement s ∷ parts) each = default_each j parts each.1

module _ (w : Within) (j : MayJump) where
  chooses_gives : (kind : Kind) (on : Operand) (default : List Doing) (parts : List PartDoing) → Each j default → EachPart j parts → Gives (Each j) (chooses w.program kind on default parts)
  chooses_gives kind on default [] one each = given (Each j) default one
  chooses_gives kind on default (ACase place z ∷ parts) one each =
      behind_any (Each j) (selects w.program kind place z on) (λ select. if holds select then gives (statements_of parts) else chooses w.program kind on default parts)
      (λ select. by (holds select) (statements_each j parts each.1) (chooses_gives kind on default parts one each.1))
    where
      by : (b : Bool) → Each j (statements_of parts) → Gives (Each j) (chooses w.program kind on default parts)
          → Gives (Each j) (if b then gives (statements_of parts) else chooses w.program kind on default parts)
      by true chosen others = given (Each j) (statements_of parts) chosen
      by false chosen others = others
  chooses_gives kind on default (ADefault ∷ parts) one each = chooses_gives kind on default parts one each.1
  chooses_gives kind on default (AStatement s ∷ parts) one each = chooses_gives kind on default parts one each.1

  behind_switch_allowed : (out : MayJump) → (j.continues ≡ true → out.continues ≡ true) → (j.returns ≡ true → out.returns ≡ true) → (flow : Flow) → IsAllowed j flow → IsAllowed out (behind_switch flow)
  behind_switch_allowed out c r Normal p = tt
  behind_switch_allowed out c r Broke p = tt
  behind_switch_allowed out c r Continued p = c p
  behind_switch_allowed out c r (Returned v) p = r p

  switch_gives : (out : MayJump) (kind : Kind) (on : TExpr) (parts : List PartDoing) → (j.continues ≡ true → out.continues ≡ true) → (j.returns ≡ true → out.returns ≡ true)
      → EachPart j parts → DoingAllowed out (switch w kind on parts)
  unfolding switch
  switch_gives out kind on parts c r each =
      settled_gives (IsAllowed out) ((means w on).value (has_case parts) >>= switches w.program kind parts)
      (behind_any (IsAllowed out) ((means w on).value (has_case parts)) (switches w.program kind parts)
      (λ a. with_given (Each j) (IsAllowed out) (chooses w.program kind a (behind_default parts) parts) runs_chosen
      (chooses_gives kind a (behind_default parts) parts (default_each j parts each) each)
      (λ chosen p. with_given (IsAllowed j) (IsAllowed out) (in_order chosen) (λ flow. gives (behind_switch flow)) (in_order_gives j chosen p)
      (λ flow q. given (IsAllowed out) (behind_switch flow) (behind_switch_allowed out c r flow q)))))
      (is_left (switch_jumps parts))

  expression_gives : (e : TExpr) → DoingAllowed j (expression w e)
  unfolding expression
  expression_gives e = behind_any (IsAllowed j) (drops w e) (λ done. gives Normal) (λ done. given (IsAllowed j) Normal tt)

  empty_gives : DoingAllowed j empty
  unfolding empty
  empty_gives = given (IsAllowed j) Normal tt

  compound_gives : (parts : List Doing) → Each j parts → DoingAllowed j (compound parts)
  unfolding compound
  compound_gives parts each = block_gives (IsAllowed j) (in_order parts) (in_order_gives j parts each)

  if_gives : (spot : Spot) (test : TExpr) (a : Doing) (b : Option Doing) → DoingAllowed j a → Gives (IsAllowed j) (does_or_none b) → DoingAllowed j (if_else w spot test a b)
  unfolding if_else
  if_gives spot test a b one two =
      settled_gives (IsAllowed j) (tests_at w spot.place test >>= chosen_arm a.does (does_or_none b))
      (behind_any (IsAllowed j) (tests_at w spot.place test) (chosen_arm a.does (does_or_none b)) (λ t. by (holds t))) (is_left (if_jumps a b))
    where
      by : (chosen : Bool) → Gives (IsAllowed j) (if chosen then a.does else does_or_none b)
      by true = one
      by false = two

  source_loop_gives : (out : MayJump) (spot : Spot) (number : ℕ) (test step : Option TExpr) (body : Doing) (tested : Bool) → (j.returns ≡ true → out.returns ≡ true)
      → DoingAllowed j body → Gives (IsAllowed out) (source_loop w spot number test step body tested)
  source_loop_gives out spot number test step body tested r h =
      loop_gives j out (loop_parts w spot.place number test step body) (loop_region w.function number) tested (region_gives (IsAllowed j) body.does h (loop_region w.function number + 1)) r

  while_gives : (out : MayJump) (spot : Spot) (number : ℕ) (test : TExpr) (body : Doing) → (j.returns ≡ true → out.returns ≡ true) → DoingAllowed j body → DoingAllowed out (while_loop w spot number test body)
  unfolding while_loop
  while_gives out spot number test body r h = source_loop_gives out spot number (Some test) None body true r h

  do_gives : (out : MayJump) (spot : Spot) (number : ℕ) (body : Doing) (test : TExpr) → (j.returns ≡ true → out.returns ≡ true) → DoingAllowed j body → DoingAllowed out (do_loop w spot number body test)
  unfolding do_loop
  do_gives out spot number body test r h = source_loop_gives out spot number (Some test) None body false r h

  for_gives : (out : MayJump) (spot : Spot) (number : ℕ) (start : TFirst) (test step : Option TExpr) (body : Doing) → (j.returns ≡ true → out.returns ≡ true) → DoingAllowed j body
      → DoingAllowed out (for_loop w spot number start test step body)
  unfolding for_loop
  for_gives out spot number start test step body r h =
      block_gives (IsAllowed out) (starts_with w start >>= λ done. source_loop w spot number test step body true)
      (behind_any (IsAllowed out) (starts_with w start) (λ done. source_loop w spot number test step body true) (λ done. source_loop_gives out spot number test step body true r h))

  break_gives : j.breaks ≡ true → DoingAllowed j break
  unfolding break
  break_gives is = given (IsAllowed j) Broke is

  continue_gives : j.continues ≡ true → DoingAllowed j continue
  unfolding continue
  continue_gives is = given (IsAllowed j) Continued is

  return_gives : (spot : Spot) (e : Option TExpr) → j.returns ≡ true → DoingAllowed j (return w spot e)
  unfolding return
  return_gives spot None is = given (IsAllowed j) (Returned None) is
  return_gives spot (Some e) is =
      behind_any (IsAllowed j) ((means w e).value true) (returns_moved w.program spot.place)
      (λ a. behind_any (IsAllowed j) (makes w.program class.Move spot.place act.Move (a ∷ [])) (λ held. gives (Returned (Some held))) (λ held. given (IsAllowed j) (Returned (Some held)) is))

  declaration_gives : (list : List TDeclarator) → DoingAllowed j (declaration w list)
  unfolding declaration
  declaration_gives list = behind_any (IsAllowed j) (declares_all w list) (λ done. gives Normal) (λ done. given (IsAllowed j) Normal tt)

each_so : (i j : MayJump) → ((flow : Flow) → IsAllowed i flow → IsAllowed j flow) → (ss : List Doing) → Each i ss → Each j ss
each_so i j from [] each = tt
each_so i j from (s ∷ ss) each = (gives_so (IsAllowed i) (IsAllowed j) s.does from each.0, each_so i j from ss each.1)

part_so : (i j : MayJump) → ((flow : Flow) → IsAllowed i flow → IsAllowed j flow) → (p : PartDoing) → PartAllowed i p → PartAllowed j p
part_so i j from (ACase place z) h = tt
part_so i j from ADefault h = tt
part_so i j from (AStatement s) h = gives_so (IsAllowed i) (IsAllowed j) s.does from h

parts_so : (i j : MayJump) → ((flow : Flow) → IsAllowed i flow → IsAllowed j flow) → (ps : List PartDoing) → EachPart i ps → EachPart j ps
parts_so i j from [] each = tt
parts_so i j from (p ∷ ps) each = (part_so i j from p each.0, parts_so i j from ps each.1)

module _ (w : Within) where
  abbrev part_does : TPart → PartDoing
  part_does = fold-TPart PartDoing Doing statements.part_step (does_step w)

  abbrev OfPart : TPart → Type 0
  OfPart p = PartAllowed (jumps_in (part_inside p)) (part_does p)

  abbrev OfStmt : TStmt → Type 0
  OfStmt s = DoingAllowed (jumps_in (inside s)) (does w s)

  all_do : (items : List ((s : TStmt) × OfStmt s))
      → Each (jumps_in (row (map inside (map (λ (x : (s : TStmt) × OfStmt s). x.0) items)))) (map (does w) (map (λ (x : (s : TStmt) × OfStmt s). x.0) items))
  all_do [] = tt
  all_do (x ∷ items) =
      let rest : MayJump = jumps_in (row (map inside (map (λ (y : (s : TStmt) × OfStmt s). y.0) items))) in (
        gives_so (IsAllowed (jumps_in (inside x.0))) (IsAllowed (either_of (jumps_in (inside x.0)) rest)) (does w x.0).does (left_allowed (jumps_in (inside x.0)) rest) x.1,
        each_so rest (either_of (jumps_in (inside x.0)) rest) (right_allowed (jumps_in (inside x.0)) rest) (map (does w) (map (λ (y : (s : TStmt) × OfStmt s). y.0) items)) (all_do items),
      )

  parts_do : (items : List ((p : TPart) × OfPart p))
      → EachPart (jumps_in (row (map part_inside (map (λ (x : (p : TPart) × OfPart p). x.0) items)))) (map part_does (map (λ (x : (p : TPart) × OfPart p). x.0) items))
  parts_do [] = tt
  parts_do (x ∷ items) =
      let rest : MayJump = jumps_in (row (map part_inside (map (λ (y : (p : TPart) × OfPart p). y.0) items))) in (
        part_so (jumps_in (part_inside x.0)) (either_of (jumps_in (part_inside x.0)) rest) (left_allowed (jumps_in (part_inside x.0)) rest) (part_does x.0) x.1,
        parts_so rest (either_of (jumps_in (part_inside x.0)) rest) (right_allowed (jumps_in (part_inside x.0)) rest) (map part_does (map (λ (y : (p : TPart) × OfPart p). y.0) items)) (parts_do items),
      )

  abbrev bare_part : TPart-F ((p : TPart) × OfPart p) ((s : TStmt) × OfStmt s) → TPart-F TPart TStmt
  bare_part y = map-TPart _ _ TPart TStmt (λ (x : (p : TPart) × OfPart p). x.0) (λ (x : (s : TStmt) × OfStmt s). x.0) y

  abbrev bare_stmt : TStmt-F ((p : TPart) × OfPart p) ((s : TStmt) × OfStmt s) → TStmt-F TPart TStmt
  bare_stmt y = map-TStmt _ _ TPart TStmt (λ (x : (p : TPart) × OfPart p). x.0) (λ (x : (s : TStmt) × OfStmt s). x.0) y

  abbrev PartAt : TPart-F TPart TStmt → Type 0
  PartAt z = PartAllowed (jumps_in (part_step (map-TPart TPart TStmt Inside Inside part_inside inside z))) (statements.part_step (map-TPart TPart TStmt PartDoing Doing part_does (does w) z))

  abbrev StmtAt : TStmt-F TPart TStmt → Type 0
  StmtAt z = DoingAllowed (jumps_in (inside_step (map-TStmt TPart TStmt Inside Inside part_inside inside z))) (does_step w (map-TStmt TPart TStmt PartDoing Doing part_does (does w) z))

  part_by : (y : TPart-F ((p : TPart) × OfPart p) ((s : TStmt) × OfStmt s)) → PartAt (bare_part y)
  part_by (TPart-F.Case place z) = tt
  part_by (TPart-F.Default place) = tt
  part_by (TPart-F.Does place s) = s.1

  -- no jump
  abbrev no_jump : MayJump
  no_jump = record { breaks = false; continues = false; returns = false }

  stmt_by : (y : TStmt-F ((p : TPart) × OfPart p) ((s : TStmt) × OfStmt s)) → StmtAt (bare_stmt y)
  stmt_by (TStmt-F.Expr spot e) = expression_gives w no_jump e
  stmt_by (TStmt-F.Empty spot) = empty_gives w no_jump
  stmt_by (TStmt-F.Block spot parts) =
      compound_gives w (jumps_in (row (map inside (map (λ (x : (s : TStmt) × OfStmt s). x.0) parts)))) (map (does w) (map (λ (x : (s : TStmt) × OfStmt s). x.0) parts)) (all_do parts)
  stmt_by (TStmt-F.If spot test a None) =
      let j : MayJump = either_of (jumps_in (inside a.0)) no_jump in
      if_gives w j spot test (does w a.0) None (gives_so (IsAllowed (jumps_in (inside a.0))) (IsAllowed j) (does w a.0).does (left_allowed (jumps_in (inside a.0)) no_jump) a.1)
      (given (IsAllowed j) Normal tt)
  stmt_by (TStmt-F.If spot test a (Some b)) =
      let j : MayJump = either_of (jumps_in (inside a.0)) (jumps_in (inside b.0)) in
      if_gives w j spot test (does w a.0) (Some (does w b.0))
      (gives_so (IsAllowed (jumps_in (inside a.0))) (IsAllowed j) (does w a.0).does (left_allowed (jumps_in (inside a.0)) (jumps_in (inside b.0))) a.1)
      (gives_so (IsAllowed (jumps_in (inside b.0))) (IsAllowed j) (does w b.0).does (right_allowed (jumps_in (inside a.0)) (jumps_in (inside b.0))) b.1)
  stmt_by (TStmt-F.While spot number test a) =
      while_gives w (jumps_in (inside a.0)) (record no_jump { returns = (inside a.0).jumps.returns }) spot number test (does w a.0) (λ h. h) a.1
  stmt_by (TStmt-F.DoWhile spot number a test) =
      do_gives w (jumps_in (inside a.0)) (record no_jump { returns = (inside a.0).jumps.returns }) spot number (does w a.0) test (λ h. h) a.1
  stmt_by (TStmt-F.For spot number start test step a) =
      for_gives w (jumps_in (inside a.0)) (record no_jump { returns = (inside a.0).jumps.returns }) spot number start test step (does w a.0) (λ h. h) a.1
  stmt_by (TStmt-F.Switch spot kind on parts) =
      let all : Inside = row (map part_inside (map (λ (x : (p : TPart) × OfPart p). x.0) parts)) in
      switch_gives w (jumps_in all) (record { breaks = false; continues = all.jumps.continues; returns = all.jumps.returns }) kind on
      (map part_does (map (λ (x : (p : TPart) × OfPart p). x.0) parts)) (λ h. h) (λ h. h) (parts_do parts)
  stmt_by (TStmt-F.Break spot) = break_gives w (record no_jump { breaks = true }) refl
  stmt_by (TStmt-F.Continue spot) = continue_gives w (record no_jump { continues = true }) refl
  stmt_by (TStmt-F.Return spot value) = return_gives w (record no_jump { returns = true }) spot value refl
  stmt_by (TStmt-F.Declare spot list) = declaration_gives w no_jump list

  -- A STATEMENT ends by a jump only where its text holds one
  pub does_gives : (s : TStmt) → OfStmt s
  does_gives =
      ind-TStmt OfPart OfStmt
      (λ x y is.
      subst (λ (i : Inside). PartAllowed (jumps_in i) (part_does (roll-TPart x))) (sym (fold-roll-TPart Inside Inside part_step inside_step x))
      (subst (PartAllowed (jumps_in (part_step (map-TPart TPart TStmt Inside Inside part_inside inside x)))) (sym (fold-roll-TPart PartDoing Doing statements.part_step (does_step w) x))
      (subst PartAt is (part_by y))))
      (λ x y is.
      subst (λ (i : Inside). DoingAllowed (jumps_in i) (does w (roll-TStmt x))) (sym (fold-roll-TStmt Inside Inside part_step inside_step x))
      (subst (DoingAllowed (jumps_in (inside_step (map-TStmt TPart TStmt Inside Inside part_inside inside x)))) (sym (fold-roll-TStmt PartDoing Doing statements.part_step (does_step w) x))
      (subst StmtAt is (stmt_by y))))
