use Rattle.std.proofs.Common.{◌≡◌, List, ◌++◌, length, sym, subst, ◌∙◌, Option}
use Rattle.std.specs.Prelude.{IfOk}
use Rattle.k_code.specs.declared.code.Code.{Code}
use Rattle.k_types_meaning.specs.declared.tree.unit.TFunc.{TFunc}
use Rattle.k_evaluation.specs.States.{Program}
use Rattle.k_lower_code.specs.Programs.{code_funcs, flattened, functions_code}
use Rattle.k_lower_extents.specs.declared.extent.Extent.{Extent}
use Rattle.k_lower.specs.Sources.{HasStatements}
use Rattle.k_lower.proofs.Listed.{lowered_is}
use Rattle.k_lower.proofs.Promised.{regions_of_source, runs_where_accepted, valid_where_accepted}
use Rattle.k_lower.proofs.program.lower.Goals as goal

pub push_functions-requires : goal.push_functions-requires
push_functions-requires c =
    let program : Program = record { unit = c.args.unit.now; marks = c.args.marks.now; latencies = c.args.latencies.now } in
    subst (λ (t : List (Option Extent)). HasStatements program t) (sym c.as_slice-table.ensures) (c.in_ok-extents.ensures c.args.latencies.now).statements

pub returns : goal.returns
returns c =
    let program : Program = record { unit = c.args.unit.now; marks = c.args.marks.now; latencies = c.args.latencies.now } in
    let fs : List TFunc = program.unit.functions in
    let text : IfOk c.code_of.result (λ (code : Code). code ≡ flattened program) = lowered_is program c.from_vec.result c.from_vec-2.result c.code_of.result c.code_of.ensures
    (c.from_vec.ensures ∙ (c.in_ok-push_functions.ensures.funcs
    ∙ (λ i. c.new-funcs.ensures.items i ++ code_funcs program 0 (length (c.new-instrs.ensures.items i)) fs)))
    (c.from_vec-2.ensures ∙ (c.in_ok-push_functions.ensures.code
    ∙ (λ i. c.new-instrs.ensures.items i ++ functions_code program 0 (length (c.new-instrs.ensures.items i)) fs))) in
    record {
      text = text;
      valid = valid_where_accepted program c.code_of.result text;
      regions = regions_of_source program c.code_of.result text;
      runs = runs_where_accepted program c.code_of.result text;
    }
