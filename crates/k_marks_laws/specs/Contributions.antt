-- Believed with a public law.
-- WHAT A STATEMENT CONTRIBUTES to a variable that it reduces, when it begins in a state: the values of the other operands of the
-- statements `s op= e` and `s = s op e` that run in it, in their order; of `-` the negated ones. Each construct hands its state on as
-- *Evaluation* does.
use Rattle.std.specs.Prelude.{ℕ, zero, suc, ◌+◌, Bool, true, false, ◌&&◌, if◌then◌else◌, ℤ, List, [], ◌∷◌, ◌++◌, map, Option, Some, None}
use Rattle.k_num.specs.declared.numbers.Bin.{Bin}
use Rattle.k_num.specs.declared.numbers.Kind.{Kind}
use Rattle.k_num.specs.declared.place.Place.{Place}
use Rattle.k_types_meaning.specs.declared.tree.expression.Change.{Change}
use Rattle.k_types_meaning.specs.declared.tree.expression.Change.TheVariants as change
use Rattle.k_types_meaning.specs.declared.tree.expression.TExpr.{TExpr, out-TExpr}
use Rattle.k_types_meaning.specs.declared.tree.expression.TExpr.TheOpen.{TExpr-F}
use Rattle.k_types_meaning.specs.declared.tree.statement.Spot.{Spot}
use Rattle.k_types_meaning.specs.declared.tree.statement.TStmt.{TStmt, fold-TStmt, map-TStmt}
use Rattle.k_types_meaning.specs.declared.tree.statement.TPart.TheOpen.{TPart-F, TStmt-F}
use Rattle.k_marks_meaning.specs.declared.uses.Group.{Group}
use Rattle.k_marks_meaning.specs.Reductions.{group_of, variable_of, read_of, unconverted}
use Rattle.k_marks_meaning.specs.Loops.{reads}
use Rattle.k_world.specs.declared.value.Value.{Value}
use Rattle.k_world.specs.declared.value.Value.TheVariants.{Number, Pointer}
use Rattle.k_world.specs.declared.value.Held.{Held}
use Rattle.k_world.specs.Operands.{value_in}
use Rattle.k_evaluation.specs.declared.operand.Operand.{Operand}
use Rattle.k_evaluation.specs.declared.flow.Flow.{Flow}
use Rattle.k_evaluation.specs.declared.flow.Flow.TheVariants.{Normal, Broke, Continued, Returned}
use Rattle.k_evaluation.specs.States.{Program, State, Outcome, Goes, Stops, read, gives, enters}
use Rattle.k_evaluation.specs.Meanings.{holds}
use Rattle.k_evaluation.specs.Flows.{Doing, Within, means, tests_at}
use Rattle.k_evaluation.specs.Loops.{LoopParts, starts, turn, loop_region, loop_parts}
use Rattle.k_evaluation.specs.Declarations.{starts_with}
use Rattle.k_evaluation.specs.Switches.{PartDoing, ACase, ADefault, AStatement, has_case, selects}
use Rattle.k_evaluation.specs.Statements.{does_step}
use Rattle.k_marks_laws.specs.Counted.{signed}

-- HOW AN EXPRESSION REDUCES a variable: by an operator with another operand, before which the variable may be evaluated as an operand
pub record Reducing : Type 0 where
  pub op : Bin
  pub before : Option TExpr
  pub other : TExpr

-- so, where both hold: the variable is read, and the operator is one of a group
abbrev pub reducing_by : Bool → Option Group → Reducing → Option Reducing
reducing_by false group r = None
reducing_by true None r = None
reducing_by true (Some group) r = Some r

-- `s op= e`, where s is the variable
abbrev pub compound_by : Bool → Change → TExpr → Option Reducing
compound_by here (change.Number op kind) e = reducing_by here (group_of op) (record { op = op; before = None; other = e })
compound_by here change.Forward e = None
compound_by here change.Back e = None

-- `s = s op e`, by its right side
abbrev pub simple_by : ℕ → Bool → TExpr-F TExpr → Option Reducing
simple_by n here (TExpr-F.Binary node op kind left right) =
    reducing_by (here && reads n (read_of left)) (group_of op) (record { op = op; before = Some left; other = right })
simple_by n here _ = None

-- an expression that reduces this variable
abbrev pub reducing_step : ℕ → TExpr-F TExpr → Option Reducing
reducing_step n (TExpr-F.AssignBy node by left right) = compound_by (reads n (variable_of left)) by right
reducing_step n (TExpr-F.Assign node left right) = simple_by n (reads n (variable_of left)) (out-TExpr (unconverted right))
reducing_step n _ = None

-- what is contributed from a state on
abbrev pub Adds : Type 0
Adds = State → List ℤ

-- nothing
abbrev pub none : Adds
none s = []

-- what is contributed behind a part, where it goes on
abbrev pub after : {A : Type 0} → Outcome A → (A → Adds) → List ℤ
after (Goes a t) next = next a t
after (Stops end w) next = []

-- a number that an operand is, as the operator takes it
abbrev pub number_by : Bin → Option Value → List ℤ
number_by op None = []
number_by op (Some (Number z)) = signed op z ∷ []
number_by op (Some (Pointer p)) = []

-- the value of an operand, in the state in which it is evaluated
abbrev pub contributed_by : Within → Bin → TExpr → Adds
contributed_by w op e s = after ((means w e).value true s) (λ a t. number_by op (value_in (read t a).slot))

-- the same behind an operand that may be evaluated before
abbrev pub contributed_behind : Within → Option TExpr → Adds → Adds
contributed_behind w None adds s = adds s
contributed_behind w (Some e) adds s = after ((means w e).value true s) (λ a. adds)

-- A STATEMENT THAT REDUCES contributes the value of its other operand
abbrev pub contributed : Within → Option Reducing → Adds
contributed w None s = []
contributed w (Some r) s = contributed_behind w r.before (contributed_by w r.op r.other) s

-- A statement, and what it contributes.
pub record Giving : Type 0 where
  pub doing : Doing
  pub adds : Adds

-- behind a statement that ended so, the next ones contribute where it did not jump
abbrev pub unless_jumped : Adds → Flow → Adds
unless_jumped next Normal = next
unless_jumped next Broke = none
unless_jumped next Continued = none
unless_jumped next (Returned v) = none

-- statements in their order
abbrev pub adds_in_order : List Giving → Adds
adds_in_order [] s = []
adds_in_order (g ∷ gs) s = g.adds s ++ after (g.doing.does s) (unless_jumped (adds_in_order gs))

-- a statement that may be left out
abbrev pub adds_if_there : Option Giving → Adds
adds_if_there None s = []
adds_if_there (Some g) s = g.adds s

-- the arm that a test chose
abbrev pub adds_by : Adds → Adds → Held → Adds
adds_by first second test s = if holds test then first s else second s

-- behind a turn, the next ones contribute where there is another test
abbrev pub unless_ended : Adds → Flow → Adds
unless_ended next Normal = none
unless_ended next Broke = none
unless_ended next Continued = next
unless_ended next (Returned v) = none

-- A TURN from its body on, whose region is this: the body, and then the next turns
abbrev pub adds_turn : LoopParts → ℕ → Adds → Option ℕ → Adds → Option ℕ → Adds
adds_turn l region body before next last s =
    after (starts l before (enters region) s) (λ entered. body) ++ after (turn l before (gives Continued) last s) (unless_ended next)

-- the turns from a test on, at most so many
unfoldable pub adds_turns : ℕ → LoopParts → ℕ → Adds → Option ℕ → Adds
adds_turns zero l region body before s = []
adds_turns (suc n) l region body before s =
    after (starts l before l.test s) (λ test. adds_by (adds_turn l region body before (adds_turns n l region body before) test.source) none test)

-- as many turns as there may be
abbrev pub adds_all_turns : LoopParts → ℕ → Adds → Option ℕ → Adds
adds_all_turns l region body before s = adds_turns (s.world.left + 1) l region body before s

-- a loop that begins with a test, or with its body
abbrev pub adds_begins : LoopParts → ℕ → Adds → Bool → Option ℕ → Adds
adds_begins l region body true before = adds_all_turns l region body before
adds_begins l region body false before = adds_turn l region body before (adds_all_turns l region body before) before

-- A LOOP of the source, in its region
abbrev pub adds_loop : Within → Spot → ℕ → Option TExpr → Option TExpr → Giving → Bool → Adds
adds_loop w spot number test step body tested s =
    after (enters (loop_region w.function number) s)
    (λ entered. adds_begins (loop_parts w spot.place number test step body.doing) (loop_region w.function number + 1) body.adds tested s.world.control)

-- A part of a switch: a case with its value, a default, or a statement with what it contributes.
pub data PartGiving : Type 0 where
  GivesCase : Place → ℤ → PartGiving
  GivesDefault : PartGiving
  GivesStatement : Giving → PartGiving

-- what the part is
abbrev pub part_doing : PartGiving → PartDoing
part_doing (GivesCase place z) = ACase place z
part_doing GivesDefault = ADefault
part_doing (GivesStatement g) = AStatement g.doing

-- the statements among these parts
abbrev pub given_statements : List PartGiving → List Giving
given_statements [] = []
given_statements (GivesCase place z ∷ parts) = given_statements parts
given_statements (GivesDefault ∷ parts) = given_statements parts
given_statements (GivesStatement g ∷ parts) = g ∷ given_statements parts

-- the statements behind the default, or none
abbrev pub given_default : List PartGiving → List Giving
given_default [] = []
given_default (GivesCase place z ∷ parts) = given_default parts
given_default (GivesDefault ∷ parts) = given_statements parts
given_default (GivesStatement g ∷ parts) = given_default parts

-- THE CASES in text order until one is equal: the statements behind it contribute, and where none is equal those behind the default
abbrev pub adds_chosen : Program → Kind → Operand → List Giving → List PartGiving → Adds
adds_chosen program kind on default [] s = adds_in_order default s
adds_chosen program kind on default (GivesCase place z ∷ parts) s =
    after (selects program kind place z on s) (adds_by (adds_in_order (given_statements parts)) (adds_chosen program kind on default parts))
adds_chosen program kind on default (GivesDefault ∷ parts) s = adds_chosen program kind on default parts s
adds_chosen program kind on default (GivesStatement g ∷ parts) s = adds_chosen program kind on default parts s

-- what a statement contributes to the variable of this number, by what the statements in it do and contribute
abbrev pub adds_step : Within → ℕ → TStmt-F PartGiving Giving → Adds
adds_step w n (TStmt-F.Expr spot e) = contributed w (reducing_step n (out-TExpr e))
adds_step w n (TStmt-F.Empty spot) = none
adds_step w n (TStmt-F.Block spot parts) = adds_in_order parts
adds_step w n (TStmt-F.If spot test a b) = λ s. after (tests_at w spot.place test s) (adds_by a.adds (adds_if_there b))
adds_step w n (TStmt-F.While spot number test a) = adds_loop w spot number (Some test) None a true
adds_step w n (TStmt-F.DoWhile spot number a test) = adds_loop w spot number (Some test) None a false
adds_step w n (TStmt-F.For spot number start test step a) = λ s. after (starts_with w start s) (λ started. adds_loop w spot number test step a true)
adds_step w n (TStmt-F.Switch spot kind on parts) =
    λ s. after ((means w on).value (has_case (map part_doing parts)) s) (λ a. adds_chosen w.program kind a (given_default parts) parts)
adds_step w n _ = none

-- what it does, and what it contributes
abbrev pub giving_step : Within → ℕ → TStmt-F PartGiving Giving → Giving
giving_step w n x = record {
  doing = does_step w (map-TStmt PartGiving Giving PartDoing Doing part_doing (λ (g : Giving). g.doing) x);
  adds = adds_step w n x;
}

-- a part of a switch, of whose statement it is known
abbrev pub part_giving : TPart-F PartGiving Giving → PartGiving
part_giving (TPart-F.Case place z) = GivesCase place z
part_giving (TPart-F.Default place) = GivesDefault
part_giving (TPart-F.Does place g) = GivesStatement g

-- a statement
abbrev pub giving : Within → ℕ → TStmt → Giving
giving w n = fold-TStmt PartGiving Giving part_giving (giving_step w n)
