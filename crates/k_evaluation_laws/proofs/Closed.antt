-- Statements, functions and main of a source that typing accepts keep values of their kinds.
use Rattle.std.proofs.Common.{◌≡◌, ℕ, zero, suc, List, [], ◌∷◌, map, take, length, slice_get, Option, Some, None, true, refl, subst}
use Rattle.std.proofs.lemmas.Option.{none-some}
use Rattle.k_num.specs.declared.numbers.Kind.{Kind}
use Rattle.k_num.specs.declared.numbers.Kind.TheVariants.{I32}
use Rattle.k_tree.specs.declared.tree.unit.Unit as source
use Rattle.k_types_meaning.specs.declared.tree.statement.TStmt.{TStmt, out-TStmt}
use Rattle.k_types_meaning.specs.declared.tree.unit.TFunc.{TFunc}
use Rattle.k_types_meaning.specs.declared.tree.unit.TObject.{TObject}
use Rattle.k_types_meaning.specs.declared.tree.unit.TVariable.{TVariable}
use Rattle.k_world.specs.declared.value.Held.{Held}
use Rattle.k_world.specs.declared.value.Value.{Value}
use Rattle.k_world.specs.declared.value.Value.TheVariants as value
use Rattle.k_evaluation.specs.declared.flow.Flow.{Flow}
use Rattle.k_evaluation.specs.declared.operand.Operand.{Operand}
use Rattle.k_evaluation.specs.declared.flow.Flow.TheVariants.{Normal, Broke, Continued, Returned}
use Rattle.k_evaluation.specs.Calls.{calls, entered, runs, within}
use Rattle.k_evaluation.specs.Expressions.{eval}
use Rattle.k_evaluation.specs.Runs.{initial, starts_objects, starts_strings}
use Rattle.k_evaluation.specs.Statements.{does}
use Rattle.k_evaluation.specs.States.{Goes, Outcome, Program, Stops, ◌>>=◌, read}
use Rattle.k_regions.proofs.Names.{main_found}
use Rattle.k_evaluation_laws.specs.Kinds.{kind_in, start_kinds, Sort, ANumber, IsValue, sort_of}
use Rattle.k_evaluation_laws.specs.Laws.{AreArguments, ExpressionsGiveTheirTypes, FunctionsBeginRight, RunsStartRight, GoesOnRightTo, FunctionsKeepKinds, GoesOnRight, IsProgramOf, IsResult, IsReturned, MainGivesAnInt, ObjectsBeginRight, StatementsKeepKinds}
use Rattle.k_evaluation_laws.proofs.Beginnings.{objects_in_range}
use Rattle.k_evaluation_laws.proofs.Numbered.{all_in_range}
use Rattle.k_evaluation_laws.proofs.Ranges.{AreInRange, expr_in_range, stmt_in_range}
use Rattle.k_evaluation_laws.specs.Standing.{expressions_at}
use Rattle.k_evaluation_laws.proofs.Acts.{IfHeld}
use Rattle.k_evaluation_laws.proofs.Bodies.{does_right}
use Rattle.k_evaluation_laws.proofs.Called.{arguments_right, calls_right, of_result, of_slots, runs_right}
use Rattle.k_evaluation_laws.proofs.Evaluated.{eval_right}
use Rattle.k_evaluation_laws.proofs.Executed.{of_flow}
use Rattle.k_evaluation_laws.proofs.Fits.{sorts_of, Around, expr_fits, around_of, stmt_fits, FunctionFits}
use Rattle.k_evaluation_laws.proofs.Keeping.{same_world, of_operand, operand_read, AllHold, Fine, Here, Waiting}
use Rattle.k_evaluation_laws.proofs.Rows.{here}
use Rattle.k_evaluation_laws.proofs.Sources.{functions_fit, main_is_int}
use Rattle.k_evaluation_laws.proofs.Standing.{stands_at, stands_fit, stands_in_range}
use Rattle.k_evaluation_laws.proofs.Whole.{MainIs, Starts, objects_begin, starts_follow, strings_begin, whole_is}
use Rattle.k_evaluation_laws.proofs.Within.{expressions_fit, expressions_in_range, stands_here, within_fits, within_range}

-- what is carried, as the laws say it
held_as : (s : Sort) (kinds : List Kind) (v : Option Held) → IfHeld (IsValue kinds s) v → IsResult s kinds v
held_as s kinds None h = tt
held_as s kinds (Some held) h = h

as_held : (s : Sort) (kinds : List Kind) (v : Option Held) → IsResult s kinds v → IfHeld (IsValue kinds s) v
as_held s kinds None h = tt
as_held s kinds (Some held) h = h

result_so : (vs : Here) (s : Sort) (kinds : List Kind) (v : Option Held) → AllHold kinds vs (of_result s v) → IsResult s kinds v
result_so vs s kinds None h = tt
result_so vs s kinds (Some held) h = h.0

flow_so : (vs : Here) (s : Sort) (kinds : List Kind) (flow : Flow) → AllHold kinds vs (of_flow s flow) → IsReturned s kinds flow
flow_so vs s kinds Normal h = tt
flow_so vs s kinds Broke h = tt
flow_so vs s kinds Continued h = tt
flow_so vs s kinds (Returned v) h = result_so vs s kinds v h

fine_so : {A : Type 0} (vs : Here) (carries : A → List Waiting) (Gives : List Kind → A → Type 0) (kinds : List Kind) (o : Outcome A)
    → ((more : List Kind) (a : A) → AllHold more vs (carries a) → Gives more a) → Fine vs carries kinds o → GoesOnRight kinds vs.vars Gives o
fine_so vs carries Gives kinds (Goes a t) each h = (h.0, h.1, h.2, each h.0 a h.3)
fine_so vs carries Gives kinds (Stops end w) each h = tt

pub objects_begin_right : ObjectsBeginRight IsProgramOf
objects_begin_right unit program it = objects_in_range unit program.unit it.ranked it.typed it.faultless it.strings it.numbers it.characters

-- all numbers are in range, with those of strings
ranged_of : (unit : source.Unit) (program : Program) → IsProgramOf unit program → AreInRange program.unit
ranged_of unit program it = all_in_range unit program.unit it.ranked it.typed it.faultless it.strings it.numbers it.characters (objects_begin_right unit program it)

-- each function fits
all_fit : (unit : source.Unit) (program : Program) → IsProgramOf unit program → (n : ℕ) (f : TFunc) → slice_get program.unit.functions n ≡ Some f → FunctionFits program.unit f
all_fit unit program it n f there = functions_fit unit program.unit n f it.typed it.faultless there

pub statements_keep_kinds : StatementsKeepKinds IsProgramOf
statements_keep_kinds unit program depth number f part kinds s it stands right =
    let vs : Here = here program f.variables in
    let strings : ℕ = length program.unit.strings in
    let inner = calls_right program (ranged_of unit program it) (all_fit unit program it) depth in
    let fits : stmt_fits (around_of program.unit f) part ≡ true =
    stands_fit (around_of program.unit f) part stands.outer stands.within
    (stands_at (stmt_fits (around_of program.unit f)) f.body stands.number stands.outer stands.there (all_fit unit program it number f right.function).body) in
    let ranged : stmt_in_range strings part ≡ true =
    stands_in_range strings part stands.outer stands.within (stands_at (stmt_in_range strings) f.body stands.number stands.outer stands.there ((ranged_of unit program it).functions number f right.function)) in
    fine_so vs (of_flow (sort_of f.result)) (IsReturned (sort_of f.result)) kinds ((does (within program (calls depth program) number f) part).does s)
    (flow_so vs (sort_of f.result))
    ((does_right program f.variables (sort_of f.result) number (calls depth program) inner part fits ranged).brings kinds s right.started right.right tt)

-- an operand as it is read then
operand_so : (vs : Here) (s : Sort) (kinds : List Kind) (o : Outcome Operand) → Fine vs (of_operand s) kinds o → GoesOnRightTo kinds vs.vars s o
operand_so vs s kinds (Goes a t) h = (h.0, h.1, h.2, held_as s h.0 (read t a).slot (operand_read h.0 vs t s a h.2 h.3.0))
operand_so vs s kinds (Stops end w) h = tt

pub expressions_give_their_types : ExpressionsGiveTheirTypes IsProgramOf
expressions_give_their_types unit program depth number f e used kinds s it stands right =
    let vs : Here = here program f.variables in
    let site : Around = around_of program.unit f in
    let strings : ℕ = length program.unit.strings in
    let inner = calls_right program (ranged_of unit program it) (all_fit unit program it) depth in
    let statement : TStmt = stands.statement in
    let fits : stmt_fits site statement ≡ true =
    stands_fit site statement stands.stands.outer stands.stands.within
    (stands_at (stmt_fits site) f.body stands.stands.number stands.stands.outer stands.stands.there (all_fit unit program it number f right.function).body) in
    let ranged : stmt_in_range strings statement ≡ true =
    stands_in_range strings statement stands.stands.outer stands.stands.within
    (stands_at (stmt_in_range strings) f.body stands.stands.number stands.stands.outer stands.stands.there ((ranged_of unit program it).functions number f right.function)) in
    let fit : expr_fits site e ≡ true =
    within_fits site e stands.outer stands.within (stands_here (expr_fits site) (expressions_at (out-TStmt statement)) stands.number stands.outer stands.there (expressions_fit site statement fits)) in
    let in_range : expr_in_range strings e ≡ true =
    within_range strings e stands.outer stands.within
    (stands_here (expr_in_range strings) (expressions_at (out-TStmt statement)) stands.number stands.outer stands.there (expressions_in_range strings statement ranged)) in
    let it_is = eval program f.variables (calls depth program) e in
    operand_so vs (sort_of it_is.node.of) kinds (it_is.value used s)
    (((eval_right program f.variables (sort_of f.result) (calls depth program) inner e fit in_range).value used).brings kinds s right.started right.right tt)

pub functions_keep_kinds : FunctionsKeepKinds IsProgramOf
functions_keep_kinds unit program depth number f kinds s it right =
    let vs : Here = here program f.variables in
    let inner = calls_right program (ranged_of unit program it) (all_fit unit program it) depth in
    fine_so vs (of_result (sort_of f.result)) (IsResult (sort_of f.result)) kinds (runs program (calls depth program) number f s)
    (result_so vs (sort_of f.result))
    ((runs_right program (ranged_of unit program it) (all_fit unit program it) (calls depth program) number f inner right.function).brings kinds s right.started right.right tt)

-- a number needs no objects
number_alone : (kinds : List Kind) (kind : Kind) (v : Value) → IsValue kinds (ANumber kind) v → IsValue [] (ANumber kind) v
number_alone kinds kind (value.Number z) h = h
number_alone kinds kind (value.Pointer p) h = h

pub main_gives_an_int : MainGivesAnInt IsProgramOf
main_gives_an_int unit program input budget held t it bytes is =
    let main = main_found unit program.unit it.typed it.faultless in
    let f : TFunc = main.0 in
    let int : sort_of f.result ≡ ANumber I32 = main_is_int unit program.unit program.unit.main f it.typed it.faultless main.1 main.2 in
    let given : MainIs (sort_of f.result) (Goes (Some held) t) =
    subst (MainIs (sort_of f.result)) is (whole_is program (ranged_of unit program it) (all_fit unit program it) f main.1 input budget bytes) in
    number_alone given.0 I32 held.value (subst (λ (s : Sort). IsValue given.0 s held.value) int given.2)

-- a part of the start, as the law says it
start_so : {A : Type 0} (kinds : List Kind) (o : Outcome A) → Starts kinds o → GoesOnRight [] [] (λ more started. more ≡ kinds) o
start_so kinds (Goes a t) h = (kinds, λ n kind is. absurd (none-some kind is), record { vars = tt; world = h }, refl)
start_so kinds (Stops end w) h = tt

pub runs_start_right : RunsStartRight IsProgramOf
runs_start_right unit program input budget it bytes =
    let objects : List Kind = map (λ (o : TObject). kind_in (sort_of o.of)) program.unit.objects in
    start_so (start_kinds program.unit) ((starts_objects program.unit.objects >>= λ started. starts_strings program.unit.strings) (initial input budget))
    (starts_follow objects (start_kinds program.unit) (starts_objects program.unit.objects (initial input budget)) (λ started. starts_strings program.unit.strings)
    (objects_begin [] program.unit.objects (initial input budget) (ranged_of unit program it).objects (record { objects = tt; made = refl; input = bytes }))
    (λ started t right. strings_begin objects program.unit.strings t right))

arguments_so : (vs : Here) (kinds : List Kind) (ps : List TVariable) (k : ℕ) (args : List (Option Held)) → AreArguments kinds (take k ps) args
    → AllHold kinds vs (of_slots (take k (sorts_of ps)) args)
arguments_so vs kinds [] zero args h = tt
arguments_so vs kinds [] (suc k) args h = tt
arguments_so vs kinds (p ∷ ps) zero args h = tt
arguments_so vs kinds (p ∷ ps) (suc k) [] h = tt
arguments_so vs kinds (p ∷ ps) (suc k) (a ∷ args) h = (as_held (sort_of p.of) kinds a h.0, arguments_so vs kinds ps k args h.1)

pub functions_begin_right : FunctionsBeginRight
functions_begin_right kinds vs f args s right given =
    let where_ : Here = record { vars = vs; start = [] } in
    record {
      vars = arguments_right kinds where_ f.variables f.params args (arguments_so where_ kinds f.variables f.params args given);
      world = same_world kinds s.world (entered f args s).world refl refl right.world;
    }
