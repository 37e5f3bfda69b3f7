-- For contracts between crates: nobody has to believe it.
-- The extent of a statement by those of its parts, as the code adds them up.
use Rattle.std.specs.Prelude.{ℕ, zero, suc, ◌+◌, nat_eq, Bool, true, false, not, ◌&&◌, ◌||◌, if◌then◌else◌, List, [], ◌∷◌, ◌++◌, map, take, slice_get, Option, Some, None}
use Rattle.k_types_meaning.specs.declared.tree.declaration.TDeclarator.{TDeclarator}
use Rattle.k_types_meaning.specs.declared.tree.declaration.TInit.{TInit}
use Rattle.k_types_meaning.specs.declared.tree.declaration.TInit.TheVariants as init
use Rattle.k_types_meaning.specs.declared.tree.declaration.TItem.{TItem}
use Rattle.k_types_meaning.specs.declared.tree.declaration.TItem.TheVariants as item
use Rattle.k_types_meaning.specs.declared.tree.expression.TExpr.{TExpr}
use Rattle.k_types_meaning.specs.declared.tree.statement.Spot.{Spot}
use Rattle.k_types_meaning.specs.declared.tree.statement.TFirst.{TFirst}
use Rattle.k_types_meaning.specs.declared.tree.statement.TFirst.TheVariants as first
use Rattle.k_types_meaning.specs.declared.tree.statement.TPart.{TPart, fold-TPart}
use Rattle.k_types_meaning.specs.declared.tree.statement.TPart.TheOpen.{TPart-F, TStmt-F}
use Rattle.k_types_meaning.specs.declared.tree.statement.TStmt.{TStmt, fold-TStmt, map-TStmt, out-TStmt}
use Rattle.k_types_meaning.specs.declared.tree.unit.TFunc.{TFunc}
use Rattle.k_types_meaning.specs.declared.tree.unit.TVariable.{TVariable}
use Rattle.k_marks_meaning.specs.declared.jumps.Jumps.{Jumps}
use Rattle.k_marks_meaning.specs.Jumps.{no_jumps, a_break, a_continue, a_return, jumps_of_both, out_of_loop, out_of_switch, is_left}
use Rattle.k_evaluation.specs.Declarations.{elements_of}
use Rattle.k_evaluation.specs.JumpLaws.{spot_in}
use Rattle.k_evaluation.specs.Loops.{stays_behind_loop}
use Rattle.k_evaluation.specs.Meanings.{flag}
use Rattle.k_lower_code.specs.Loops.{one_if}
use Rattle.k_lower_code.specs.Stretches.{over_size, pad_size, pads_size}
use Rattle.k_lower_extents.specs.ExpressionSums.{summed}
use Rattle.k_lower_extents.specs.declared.expression.ExpressionExtent.{ExpressionExtent}
use Rattle.k_lower_extents.specs.declared.extent.Extent.{Extent}
use Rattle.k_lower_extents.specs.declared.extent.NumberedExtent.{NumberedExtent}
use Rattle.k_lower_extents.specs.declared.loops.Turns.{Turns}
use Rattle.k_lower_extents.specs.declared.switches.PartExtent.{PartExtent}
use Rattle.k_lower_extents.specs.declared.switches.PartExtent.TheVariants as part

-- text without jumps that makes no objects
abbrev pub of_size : ℕ → Extent
of_size n = record { size = n; jumps = no_jumps; opens = 0 }

-- text of one instruction with these jumps
abbrev pub one_jump : Jumps → Extent
one_jump j = record { size = 1; jumps = j; opens = 0 }

-- one text behind another
abbrev pub behind : Extent → Extent → Extent
behind a b = record { size = a.size + b.size; jumps = jumps_of_both a.jumps b.jumps; opens = a.opens + b.opens }

-- a text that is closed at its end
abbrev pub closed : Extent → Extent
closed a = record { size = a.size + pads_size a.jumps + 1; jumps = a.jumps; opens = 0 }

-- a text of which no objects live on
abbrev pub without_objects : Extent → Extent
without_objects a = record { size = a.size; jumps = a.jumps; opens = 0 }

-- the rest of a block behind a statement that makes so many objects
abbrev pub followed_by : Extent → ℕ → Extent → Extent
followed_by a zero rest = behind a rest
followed_by a (suc n) rest = without_objects (behind a (closed rest))

-- statements one behind the other, and text behind them
abbrev pub onto : List Extent → Extent → Extent
onto [] rest = rest
onto (a ∷ xs) rest = followed_by a a.opens (onto xs rest)

-- statements one behind the other
abbrev pub in_order : List Extent → Extent
in_order xs = onto xs (of_size 0)

-- the same from the first on, from the second on, and so on, with these behind them
abbrev pub rests_onto : List Extent → Extent → List Extent → List Extent
rests_onto [] rest done = done
rests_onto (a ∷ xs) rest done = onto (a ∷ xs) rest ∷ rests_onto xs rest done

-- the same, to nothing
abbrev pub rests : List Extent → List Extent
rests xs = rests_onto xs (of_size 0) (of_size 0 ∷ [])

-- a text behind which the control source is as before it, unless it stays
abbrev pub settled_unless : Bool → Extent → Extent
settled_unless true a = a
settled_unless false a = record { size = 1 + a.size + 1; jumps = a.jumps; opens = a.opens }

-- the declarator of a register
abbrev pub register_size : List TVariable → TInit → ℕ
register_size vs init.Nothing = 1
register_size vs (init.Value e) = (summed vs e).used + 1
register_size vs (init.Elements items) = 0

-- an item of braces
abbrev pub item_size : List TVariable → TItem → ℕ
item_size vs (item.Bytes n bytes) = 0
item_size vs (item.Value place n e) = (summed vs e).used + 2

-- the items of braces
abbrev pub items_size : List TVariable → List TItem → ℕ
items_size vs [] = 0
items_size vs (i ∷ is) = item_size vs i + items_size vs is

-- the declarator of what has an object, behind its object and its address
abbrev pub object_size : List TVariable → TInit → ℕ
object_size vs init.Nothing = 0
object_size vs (init.Value e) = (summed vs e).used + 2
object_size vs (init.Elements items) = items_size vs items + 1

-- a declarator, by how many elements its variable's object has
abbrev pub declared_by : List TVariable → TInit → ℕ → Extent
declared_by vs i zero = of_size (register_size vs i)
declared_by vs i (suc n) = record { size = object_size vs i + 2; jumps = no_jumps; opens = 1 }

-- a declarator
abbrev pub declared : List TVariable → TDeclarator → Extent
declared vs d = declared_by vs d.init (elements_of (slice_get vs d.variable))

-- the declarators of a declaration
abbrev pub all_declared : List TVariable → List TDeclarator → Extent
all_declared vs [] = of_size 0
all_declared vs (d ∷ ds) = behind (declared vs d) (all_declared vs ds)

-- the first part of a `for`
abbrev pub started : List TVariable → TFirst → Extent
started vs first.Nothing = of_size 0
started vs (first.Value e) = of_size (summed vs e).unused
started vs (first.Declare list) = all_declared vs list

-- a test that may be left out
abbrev pub test_size : List TVariable → Option TExpr → ℕ
test_size vs None = 0
test_size vs (Some e) = (summed vs e).used

-- a step that may be left out
abbrev pub step_size : List TVariable → Option TExpr → ℕ
step_size vs None = 0
step_size vs (Some e) = (summed vs e).unused

-- an arm, and another that may be left out, behind a test of this size
abbrev pub arms : ℕ → Extent → Option Extent → Extent
arms test one None = record { size = test + 1 + one.size; jumps = one.jumps; opens = 0 }
arms test one (Some other) =
    record { size = test + 1 + one.size + 1 + other.size; jumps = jumps_of_both one.jumps other.jumps; opens = 0 }

-- `if`
abbrev pub if_else : ℕ → Extent → Option Extent → Extent
if_else test one other = settled_unless (is_left (arms test one other).jumps) (arms test one other)

-- the control source is saved in front of a body with these jumps
abbrev pub saves : Bool → Jumps → Bool
saves counted j = not counted && (j.continues && not (j.breaks || j.returns))

-- what stands around a body with these jumps in its region
abbrev pub around_body : Bool → Jumps → ℕ
around_body counted j =
    one_if counted + one_if (saves counted j) + 1 + over_size j.breaks + pad_size j.breaks + 1 + one_if (saves counted j)

-- what stands around the turns of a loop, and before its step
abbrev pub around_turns : Bool → Bool → Jumps → ℕ
around_turns counted tested j = one_if (counted && j.continues) + one_if tested + 3

-- a loop in its region
abbrev pub inside_loop : Turns → Extent → Extent
inside_loop l body = record {
  size = around_body l.counted body.jumps + around_turns l.counted l.tested body.jumps + body.size + l.step + l.test;
  jumps = out_of_loop body.jumps;
  opens = 0;
}

-- a loop
abbrev pub turned : Turns → Extent → Extent
turned l body = settled_unless (stays_behind_loop l.counted body.jumps) (inside_loop l body)

-- a loop of this number
abbrev pub source_loop : List Bool → ℕ → Bool → ℕ → ℕ → Extent → Extent
source_loop counted n tested test step body =
    turned (record { counted = flag (slice_get counted n); tested = tested; test = test; step = step }) body

-- `for`: what it declares dies where it is left
abbrev pub for_loop : List TVariable → List Bool → ℕ → TFirst → Option TExpr → Option TExpr → Extent → Extent
for_loop vs counted n start test step body =
    followed_by (started vs start) (started vs start).opens (source_loop counted n true (test_size vs test) (step_size vs step) body)

-- what a part of a switch adds to its cases
abbrev pub case_size : PartExtent → ℕ
case_size part.Case = 2
case_size part.Default = 0
case_size (part.Statement a) = 0

-- the cases of a switch
abbrev pub cases_size : List PartExtent → ℕ
cases_size [] = 0
cases_size (p ∷ ps) = case_size p + cases_size ps

-- the statement that a part of a switch is, if it is one
abbrev pub statement_in : PartExtent → List Extent
statement_in part.Case = []
statement_in part.Default = []
statement_in (part.Statement a) = a ∷ []

-- the statements of a switch
abbrev pub statements_in : List PartExtent → List Extent
statements_in [] = []
statements_in (p ∷ ps) = statement_in p ++ statements_in ps

-- a part of a switch is its default
abbrev pub is_default : PartExtent → Bool
is_default part.Case = false
is_default part.Default = true
is_default (part.Statement a) = false

-- the size of a part of a switch among its statements
abbrev pub part_size : PartExtent → ℕ
part_size part.Case = 0
part_size part.Default = 0
part_size (part.Statement a) = a.size

-- how many instructions of statements stand before the default, or all where there is none
abbrev pub before_default : List PartExtent → ℕ
before_default [] = 0
before_default (p ∷ ps) = if is_default p then 0 else part_size p + before_default ps

-- a switch, by the sizes of its cases, of the text before its default, and by its statements
abbrev pub switched : ExpressionExtent → ℕ → ℕ → Extent → Extent
switched on cases skipped statements = settled_unless (is_left (out_of_switch statements.jumps)) (record {
  size = (if nat_eq cases 0 then on.unused else on.used) + cases + (if nat_eq skipped 0 then 0 else 1) + statements.size;
  jumps = out_of_switch statements.jumps;
  opens = 0;
})

-- a switch, by its parts
abbrev pub switch : ExpressionExtent → List PartExtent → Extent
switch on ps = switched on (cases_size ps) (before_default ps) (in_order (statements_in ps))

-- `return`
abbrev pub return_extent : List TVariable → Option TExpr → Extent
return_extent vs None = one_jump a_return
return_extent vs (Some e) = record { size = (summed vs e).used + 1; jumps = a_return; opens = 0 }

-- The extent of a statement, and the extents of the statements in it and its own, each behind those in it, with their numbers.
pub record Summed : Type 0 where
  pub itself : Extent
  pub extents : List NumberedExtent

-- A part of a switch, and the extents of the statements in it.
pub record PartSummed : Type 0 where
  pub part : PartExtent
  pub extents : List NumberedExtent

-- the extents of statements themselves
abbrev pub themselves : List Summed → List Extent
themselves [] = []
themselves (s ∷ ss) = s.itself ∷ themselves ss

-- the extents in statements
abbrev pub all_within : List Summed → List NumberedExtent
all_within [] = []
all_within (s ∷ ss) = s.extents ++ all_within ss

-- a statement that may be left out
abbrev pub option_itself : Option Summed → Option Extent
option_itself None = None
option_itself (Some s) = Some s.itself

-- the extents in it
abbrev pub option_within : Option Summed → List NumberedExtent
option_within None = []
option_within (Some s) = s.extents

-- the parts of a switch
abbrev pub parts_themselves : List PartSummed → List PartExtent
parts_themselves [] = []
parts_themselves (p ∷ ps) = p.part ∷ parts_themselves ps

-- the extents in them
abbrev pub parts_within : List PartSummed → List NumberedExtent
parts_within [] = []
parts_within (p ∷ ps) = p.extents ++ parts_within ps

-- a statement at this spot, with the extents of the statements in it
abbrev pub numbered : Spot → Extent → NumberedExtent
numbered spot a = record { number = spot.number; extent = a }

-- the same, as it is listed
abbrev pub summed_at : Spot → List NumberedExtent → Extent → Summed
summed_at spot within a = record { itself = a; extents = within ++ numbered spot a ∷ [] }

-- the extents in the parts of a statement
abbrev pub within_step : TStmt-F PartSummed Summed → List NumberedExtent
within_step (TStmt-F.Expr spot e) = []
within_step (TStmt-F.Empty spot) = []
within_step (TStmt-F.Block spot parts) = all_within parts
within_step (TStmt-F.If spot test a b) = a.extents ++ option_within b
within_step (TStmt-F.While spot n test body) = body.extents
within_step (TStmt-F.DoWhile spot n body test) = body.extents
within_step (TStmt-F.For spot n start test step body) = body.extents
within_step (TStmt-F.Switch spot kind on parts) = parts_within parts
within_step (TStmt-F.Break spot) = []
within_step (TStmt-F.Continue spot) = []
within_step (TStmt-F.Return spot value) = []
within_step (TStmt-F.Declare spot list) = []

-- a loop around a body of this extent; what is no loop is as its body
abbrev pub loop_around : {P S : Type 0} → List TVariable → List Bool → Extent → TStmt-F P S → Extent
loop_around vs counted body (TStmt-F.While spot n test s) = source_loop counted n true (summed vs test).used 0 body
loop_around vs counted body (TStmt-F.DoWhile spot n s test) = source_loop counted n false (summed vs test).used 0 body
loop_around vs counted body (TStmt-F.For spot n start test step s) = for_loop vs counted n start test step body
loop_around vs counted body _ = body

-- the extent of a statement itself, of whose statements and parts it is known
abbrev pub own_step : List TVariable → List Bool → TStmt-F PartSummed Summed → Extent
own_step vs counted (TStmt-F.Expr spot e) = of_size (summed vs e).unused
own_step vs counted (TStmt-F.Empty spot) = of_size 0
own_step vs counted (TStmt-F.Block spot parts) = in_order (themselves parts)
own_step vs counted (TStmt-F.If spot test a b) = if_else (summed vs test).used a.itself (option_itself b)
own_step vs counted (TStmt-F.While spot n test body) = source_loop counted n true (summed vs test).used 0 body.itself
own_step vs counted (TStmt-F.DoWhile spot n body test) = source_loop counted n false (summed vs test).used 0 body.itself
own_step vs counted (TStmt-F.For spot n start test step body) = for_loop vs counted n start test step body.itself
own_step vs counted (TStmt-F.Switch spot kind on parts) = switch (summed vs on) (parts_themselves parts)
own_step vs counted (TStmt-F.Break spot) = one_jump a_break
own_step vs counted (TStmt-F.Continue spot) = one_jump a_continue
own_step vs counted (TStmt-F.Return spot value) = return_extent vs value
own_step vs counted (TStmt-F.Declare spot list) = all_declared vs list

-- a statement, of whose statements and parts it is known
abbrev pub summed_step : List TVariable → List Bool → TStmt-F PartSummed Summed → Summed
summed_step vs counted y = summed_at (spot_in y) (within_step y) (own_step vs counted y)

-- a part of a switch, of whose statement it is known
abbrev pub summed_part_step : TPart-F PartSummed Summed → PartSummed
summed_part_step (TPart-F.Case place z) = record { part = part.Case; extents = [] }
summed_part_step (TPart-F.Default place) = record { part = part.Default; extents = [] }
summed_part_step (TPart-F.Does place s) = record { part = part.Statement s.itself; extents = s.extents }

-- a statement in a function with these variables, where these loops are counted
abbrev pub summed_stmt : List TVariable → List Bool → TStmt → Summed
summed_stmt vs counted = fold-TStmt PartSummed Summed summed_part_step (summed_step vs counted)

-- a part of a switch
abbrev pub summed_part : List TVariable → List Bool → TPart → PartSummed
summed_part vs counted = fold-TPart PartSummed Summed summed_part_step (summed_step vs counted)

-- the extents in the parts of a statement there
abbrev pub within_stmt : List TVariable → List Bool → TStmt → List NumberedExtent
within_stmt vs counted s =
    within_step (map-TStmt TPart TStmt PartSummed Summed (summed_part vs counted) (summed_stmt vs counted) (out-TStmt s))

-- the parameters that are memory
abbrev pub served_size : List TVariable → ℕ
served_size [] = 0
served_size (v ∷ vs) = (if nat_eq v.elements 0 then 0 else 4) + served_size vs

-- a function
abbrev pub function_size : List Bool → TFunc → ℕ
function_size counted f =
    served_size (take f.params f.variables) + (in_order (themselves (map (summed_stmt f.variables counted) f.body))).size + 1

-- the extents in a function
abbrev pub function_within : List Bool → TFunc → List NumberedExtent
function_within counted f = all_within (map (summed_stmt f.variables counted) f.body)

-- the extents in functions
abbrev pub functions_within : List Bool → List TFunc → List NumberedExtent
functions_within counted [] = []
functions_within counted (f ∷ fs) = function_within counted f ++ functions_within counted fs
