use Rattle.std.proofs.Common.{◌≡◌, ℤ, false, Some, to_z, of_z, sym, ◌∙◌, ap, rules}
use Rattle.std.specs.Prelude.{not}
use Rattle.std.proofs.lemmas.Int.{to_z-of_z}
use Rattle.std.specs.Int.{w128}
use Rattle.k_types_meaning.specs.Constants.{constant}
use Rattle.k_types_meaning.specs.Statements.{Known, is_among}
use Rattle.k_types_declarations.specs.Results.{seen}
use Rattle.k_types_statements.specs.Labels.{converted_option}
use Rattle.k_types_statements.proofs.Values.{absent, case_runs}
use Rattle.k_types_statements.proofs.switch.case_rule.Goals as goal

pub returns : goal.returns
returns c = λ around older holds.
    let known : Known = seen c.args.known.now in
    let newer : Known = seen c.judge_value.new.known in
    let value : ℤ = to_z w128 (of_z w128 c.in-Some.value) in
    let same : value ≡ c.in-Some.value = to_z-of_z w128 c.in-Some.value (search rules) in
    let is : converted_option c.args.kind (constant c.in_ok-value.value.tree) ≡ Some value =
    sym c.in_ok-value-2.ensures ∙ (c.in-Some.is ∙ ap Some (sym same)) in
    let adds = c.in_ok-add_case.ensures older holds in
    case_runs c.args.place c.args.value.now around c.args.kind older known newer c.in_ok-value.value value c.add_case.new.labels
    c.in_ok-value.ensures is (absent (is_among older.cases value) c.in_ok-add_case.field-0 adds.0 (ap not c.if-not-branch.false)) adds.1
