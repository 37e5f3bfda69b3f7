use Rattle.std.proofs.Common.{◌≡◌, List, map, Option, Ok, Err, sym, ap, ◌∙◌, subst, rules}
use Rattle.k_tree.specs.declared.tree.statement.Stmt.TheVariants as stmt
use Rattle.k_tree.proofs.Folds.{part_Does}
use Rattle.k_types_meaning.specs.declared.fault.TypeFault.{TypeFault}
use Rattle.k_types_meaning.specs.declared.tree.statement.TPart.TheVariants as typed_part
use Rattle.k_types_meaning.specs.declared.tree.statement.TStmt.{TStmt}
use Rattle.k_types_meaning.specs.Statements.{Around, Known, Statement, SwitchPart, judge_stmt, part_step, stmt_step}
use Rattle.k_types_meaning.specs.Statements as statements
use Rattle.k_types_rules.specs.Views.{Refuses}
use Rattle.k_types_declarations.specs.Results.{seen}
use Rattle.k_types_statements.specs.Around.{around_of}
use Rattle.k_types_statements.specs.Labels.{judge_part, PartRuns}
use Rattle.k_types_statements.specs.Results.{Runs, RunsAs, else_of, judged_at, valued_of}
use Rattle.k_types_statements.proofs.Constructs.{block_runs, block_refuses, while_runs, while_refuses_test, while_refuses_body, do_runs, do_refuses_body, do_refuses_test}
use Rattle.k_types_statements.proofs.Constructs.{if_runs, if_refuses_test, if_refuses_first, if_refuses_second, switch_runs, switch_refuses_on, switch_refuses_parts}
use Rattle.k_types_statements.proofs.Constructs.{for_runs, for_refuses_first, for_refuses_test, for_refuses_step, for_refuses_body, does_runs, does_refuses, part_stops}
use Rattle.k_types_statements.proofs.Folds.{by_rule, if_folds}
use Rattle.k_types_statements.proofs.Judging.{stops}
use Rattle.k_types_statements.proofs.Lists.{parts_begin}
use Rattle.k_types_statements.proofs.statement.+statements.Goals as goal

pub block_rule-returns-in_err-parts : goal.block_rule-returns-in_err-parts
block_rule-returns-in_err-parts t c =
    let known : Known = seen c.args.known.now in
    let around : Around = around_of c.args.around in
    let parts : List Statement = map judge_stmt c.args.parts.now in
    let same : c.from_residual-in_err-parts.result ≡ Err c.in_err-parts.field-0.0 = search rules in
    stops c.from_residual-in_err-parts.result c.in_err-parts.field-0.0 known (seen c.judge_all.new.known)
    (statements.block_rule c.args.place parts around known) same
    (block_refuses c.args.place around known parts c.in_err-parts.field-0.0 (seen c.open_scope.new.known) c.in_ok-open_scope.ensures c.in_err-parts.ensures)

pub block_rule-returns : goal.block_rule-returns
block_rule-returns t c =
    let known : Known = seen c.args.known.now in
    let around : Around = around_of c.args.around in
    block_runs c.args.place around known (map judge_stmt c.args.parts.now) c.block_made.result c.in_ok-parts.parts
    (seen c.open_scope.new.known) (seen c.judge_all.new.known) (seen c.close_scope.new.known)
    c.in_ok-open_scope.ensures c.in_ok-parts.ensures c.close_scope.ensures c.block_made.ensures

pub do_rule-returns-in_err-body : goal.do_rule-returns-in_err-body
do_rule-returns-in_err-body t c =
    let known : Known = seen c.args.known.now in
    let around : Around = around_of c.args.around in
    let same : c.from_residual.result ≡ Err c.in_err-body.field-0.0 = search rules in
    stops c.from_residual.result c.in_err-body.field-0.0 known (seen c.judge_stmt.new.known)
    (statements.do_rule c.args.place (judge_stmt c.args.body.now) c.args.test.now around known) same
    (do_refuses_body c.args.place around known c.args.test.now (judge_stmt c.args.body.now) c.in_err-body.field-0.0
    (subst (λ a. Refuses c.in_err-body.field-0.0 (judge_stmt c.args.body.now a known).made) c.inside_loop.ensures c.in_err-body.ensures))

pub do_rule-returns-in_err-test : goal.do_rule-returns-in_err-test
do_rule-returns-in_err-test t c =
    let known : Known = seen c.args.known.now in
    let middle : Known = seen c.judge_stmt.new.known in
    let around : Around = around_of c.args.around in
    let same : c.from_residual-in_err-test.result ≡ Err c.in_err-test.field-0.0 = search rules in
    stops c.from_residual-in_err-test.result c.in_err-test.field-0.0 known (seen c.judge_value.new.known)
    (statements.do_rule c.args.place (judge_stmt c.args.body.now) c.args.test.now around known) same
    (do_refuses_test c.args.place around known c.args.test.now (judge_stmt c.args.body.now) c.in_err-test.field-0.0
    c.in_ok-body.body middle
    (subst (λ a. Runs (Ok c.in_ok-body.body) known middle (judge_stmt c.args.body.now a known)) c.inside_loop.ensures c.in_ok-body.ensures)
    c.in_err-test.ensures)

pub do_rule-returns : goal.do_rule-returns
do_rule-returns t c =
    let known : Known = seen c.args.known.now in
    let middle : Known = seen c.judge_stmt.new.known in
    let newer : Known = seen c.judge_value.new.known in
    let around : Around = around_of c.args.around in
    do_runs c.args.place around known c.args.test.now (judge_stmt c.args.body.now) c.do_made.result
    c.in_ok-test.test c.in_ok-body.body middle newer
    (subst (λ a. Runs (Ok c.in_ok-body.body) known middle (judge_stmt c.args.body.now a known)) c.inside_loop.ensures c.in_ok-body.ensures)
    c.in_ok-test.ensures c.do_made.ensures

pub for_rule-returns-in_err-first : goal.for_rule-returns-in_err-first
for_rule-returns-in_err-first t c =
    let known : Known = seen c.args.known.now in
    let around : Around = around_of c.args.around in
    let same : c.from_residual-in_err-first.result ≡ Err c.in_err-first.field-0.0 = search rules in
    stops c.from_residual-in_err-first.result c.in_err-first.field-0.0 known (seen c.first_judged.new.known)
    (statements.for_rule c.args.place c.args.first.now c.args.test.now c.args.step.now (judge_stmt c.args.body.now) around known) same
    (for_refuses_first c.args.place around known c.args.first.now c.args.test.now c.args.step.now (judge_stmt c.args.body.now)
    c.in_err-first.field-0.0 (seen c.open_scope.new.known) c.in_ok-open_scope.ensures c.in_err-first.ensures)

pub for_rule-returns-in_err-test : goal.for_rule-returns-in_err-test
for_rule-returns-in_err-test t c =
    let known : Known = seen c.args.known.now in
    let around : Around = around_of c.args.around in
    let same : c.from_residual-in_err-test.result ≡ Err c.in_err-test.field-0.0 = search rules in
    stops c.from_residual-in_err-test.result c.in_err-test.field-0.0 known (seen c.judge_option.new.known)
    (statements.for_rule c.args.place c.args.first.now c.args.test.now c.args.step.now (judge_stmt c.args.body.now) around known) same
    (for_refuses_test c.args.place around known c.args.first.now c.args.test.now c.args.step.now (judge_stmt c.args.body.now)
    c.in_err-test.field-0.0 c.in_ok-first.first (seen c.open_scope.new.known) (seen c.first_judged.new.known)
    c.in_ok-open_scope.ensures c.in_ok-first.ensures c.in_err-test.ensures)

pub for_rule-returns-in_err-step : goal.for_rule-returns-in_err-step
for_rule-returns-in_err-step t c =
    let known : Known = seen c.args.known.now in
    let around : Around = around_of c.args.around in
    let same : c.from_residual-in_err-step.result ≡ Err c.in_err-step.field-0.0 = search rules in
    stops c.from_residual-in_err-step.result c.in_err-step.field-0.0 known (seen c.judge_option-2.new.known)
    (statements.for_rule c.args.place c.args.first.now c.args.test.now c.args.step.now (judge_stmt c.args.body.now) around known) same
    (for_refuses_step c.args.place around known c.args.first.now c.args.test.now c.args.step.now (judge_stmt c.args.body.now)
    c.in_err-step.field-0.0 c.in_ok-first.first c.in_ok-test.test (seen c.open_scope.new.known) (seen c.first_judged.new.known) (seen c.judge_option.new.known)
    c.in_ok-open_scope.ensures c.in_ok-first.ensures c.in_ok-test.ensures c.in_err-step.ensures)

pub for_rule-returns-in_err-body : goal.for_rule-returns-in_err-body
for_rule-returns-in_err-body t c =
    let known : Known = seen c.args.known.now in
    let last : Known = seen c.judge_option-2.new.known in
    let around : Around = around_of c.args.around in
    let same : c.from_residual-in_err-body.result ≡ Err c.in_err-body.field-0.0 = search rules in
    stops c.from_residual-in_err-body.result c.in_err-body.field-0.0 known (seen c.judge_stmt.new.known)
    (statements.for_rule c.args.place c.args.first.now c.args.test.now c.args.step.now (judge_stmt c.args.body.now) around known) same
    (for_refuses_body c.args.place around known c.args.first.now c.args.test.now c.args.step.now (judge_stmt c.args.body.now)
    c.in_err-body.field-0.0 c.in_ok-first.first c.in_ok-test.test c.in_ok-step.step
    (seen c.open_scope.new.known) (seen c.first_judged.new.known) (seen c.judge_option.new.known) last
    c.in_ok-open_scope.ensures c.in_ok-first.ensures c.in_ok-test.ensures c.in_ok-step.ensures
    (subst (λ a. Refuses c.in_err-body.field-0.0 (judge_stmt c.args.body.now a last).made) c.inside_loop.ensures c.in_err-body.ensures))

pub for_rule-returns : goal.for_rule-returns
for_rule-returns t c =
    let known : Known = seen c.args.known.now in
    let last : Known = seen c.judge_option-2.new.known in
    let inner : Known = seen c.judge_stmt.new.known in
    let around : Around = around_of c.args.around in
    for_runs c.args.place around known c.args.first.now c.args.test.now c.args.step.now (judge_stmt c.args.body.now) c.for_made.result
    c.in_ok-first.first c.in_ok-test.test c.in_ok-step.step c.in_ok-body.body
    (seen c.open_scope.new.known) (seen c.first_judged.new.known) (seen c.judge_option.new.known) last inner (seen c.close_scope.new.known)
    c.in_ok-open_scope.ensures c.in_ok-first.ensures c.in_ok-test.ensures c.in_ok-step.ensures
    (subst (λ a. Runs (Ok c.in_ok-body.body) last inner (judge_stmt c.args.body.now a last)) c.inside_loop.ensures c.in_ok-body.ensures)
    c.close_scope.ensures c.for_made.ensures

pub judge_parts-loop-part-init : goal.judge_parts-loop-part-init
judge_parts-loop-part-init t c =
    parts_begin (around_of c.args.around) c.args.kind c.as_slice-part-items.result.now c.new-all.result c.no_labels-labels.result (seen c.args.known.now)
    c.new-all.ensures c.no_labels-labels.ensures

pub switch_rule-returns-in_err-on : goal.switch_rule-returns-in_err-on
switch_rule-returns-in_err-on t c =
    let known : Known = seen c.args.known.now in
    let around : Around = around_of c.args.around in
    let parts : List SwitchPart = map judge_part c.args.parts.now in
    let same : c.from_residual.result ≡ Err c.in_err-on.field-0.0 = search rules in
    stops c.from_residual.result c.in_err-on.field-0.0 known (seen c.judge_value.new.known)
    (statements.switch_rule c.args.place c.args.on.now parts around known) same
    (switch_refuses_on c.args.place around known c.args.on.now parts c.in_err-on.field-0.0 c.in_err-on.ensures)

pub switch_rule-returns-in_err-parts : goal.switch_rule-returns-in_err-parts
switch_rule-returns-in_err-parts t c =
    let known : Known = seen c.args.known.now in
    let middle : Known = seen c.judge_value.new.known in
    let around : Around = around_of c.args.around in
    let parts : List SwitchPart = map judge_part c.args.parts.now in
    let same : c.from_residual-in_err-parts.result ≡ Err c.in_err-parts.field-0.0 = search rules in
    stops c.from_residual-in_err-parts.result c.in_err-parts.field-0.0 known (seen c.judge_parts.new.known)
    (statements.switch_rule c.args.place c.args.on.now parts around known) same
    (switch_refuses_parts c.args.place around known c.args.on.now parts c.in_err-parts.field-0.0 c.in_ok-on.on middle c.in_ok-on.ensures
    (subst (λ a. Refuses c.in_err-parts.field-0.0 (statements.parts_in_order a (statements.promoted_or_int c.in_ok-on.on.kind) statements.no_labels middle parts).made) c.inside_switch.ensures
    (subst (λ kind. Refuses c.in_err-parts.field-0.0 (statements.parts_in_order (around_of c.inside_switch.result) kind statements.no_labels middle parts).made) c.promoted_or_int-kind.ensures
    c.in_err-parts.ensures)))

pub switch_rule-returns : goal.switch_rule-returns
switch_rule-returns t c =
    let known : Known = seen c.args.known.now in
    let middle : Known = seen c.judge_value.new.known in
    let newer : Known = seen c.judge_parts.new.known in
    let around : Around = around_of c.args.around in
    let parts : List SwitchPart = map judge_part c.args.parts.now in
    switch_runs c.args.place around known c.args.on.now parts c.switched.result c.in_ok-on.on c.in_ok-parts.parts middle newer
    c.in_ok-on.ensures
    (subst (λ a. Runs (Ok c.in_ok-parts.parts) middle newer (statements.parts_in_order a (statements.promoted_or_int c.in_ok-on.on.kind) statements.no_labels middle parts)) c.inside_switch.ensures
    (subst (λ kind. Runs (Ok c.in_ok-parts.parts) middle newer (statements.parts_in_order (around_of c.inside_switch.result) kind statements.no_labels middle parts)) c.promoted_or_int-kind.ensures
    c.in_ok-parts.ensures))
    c.switched.ensures

pub while_rule-returns-in_err-test : goal.while_rule-returns-in_err-test
while_rule-returns-in_err-test t c =
    let known : Known = seen c.args.known.now in
    let around : Around = around_of c.args.around in
    let same : c.from_residual.result ≡ Err c.in_err-test.field-0.0 = search rules in
    stops c.from_residual.result c.in_err-test.field-0.0 known (seen c.judge_value.new.known)
    (statements.while_rule c.args.place c.args.test.now (judge_stmt c.args.body.now) around known) same
    (while_refuses_test c.args.place around known c.args.test.now (judge_stmt c.args.body.now) c.in_err-test.field-0.0 c.in_err-test.ensures)

pub while_rule-returns-in_err-body : goal.while_rule-returns-in_err-body
while_rule-returns-in_err-body t c =
    let known : Known = seen c.args.known.now in
    let middle : Known = seen c.judge_value.new.known in
    let around : Around = around_of c.args.around in
    let same : c.from_residual-in_err-body.result ≡ Err c.in_err-body.field-0.0 = search rules in
    stops c.from_residual-in_err-body.result c.in_err-body.field-0.0 known (seen c.judge_stmt.new.known)
    (statements.while_rule c.args.place c.args.test.now (judge_stmt c.args.body.now) around known) same
    (while_refuses_body c.args.place around known c.args.test.now (judge_stmt c.args.body.now) c.in_err-body.field-0.0
    c.in_ok-test.test middle c.in_ok-test.ensures
    (subst (λ a. Refuses c.in_err-body.field-0.0 (judge_stmt c.args.body.now a middle).made) c.inside_loop.ensures c.in_err-body.ensures))

pub while_rule-returns : goal.while_rule-returns
while_rule-returns t c =
    let known : Known = seen c.args.known.now in
    let middle : Known = seen c.judge_value.new.known in
    let newer : Known = seen c.judge_stmt.new.known in
    let around : Around = around_of c.args.around in
    while_runs c.args.place around known c.args.test.now (judge_stmt c.args.body.now) c.while_made.result
    c.in_ok-test.test c.in_ok-body.body middle newer c.in_ok-test.ensures
    (subst (λ a. Runs (Ok c.in_ok-body.body) middle newer (judge_stmt c.args.body.now a middle)) c.inside_loop.ensures c.in_ok-body.ensures)
    c.while_made.ensures

pub judge_stmt-returns-in_err-test-in-If : goal.judge_stmt-returns-in_err-test-in-If
judge_stmt-returns-in_err-test-in-If t c =
    let known : Known = seen c.args.known.now in
    let around : Around = around_of c.args.around in
    let f : TypeFault = c.in_err-test-in-If.field-0.0 in
    let first : Statement = judge_stmt c.in-If.first in
    let second : Option Statement = else_of c.in-If.second in
    let same : c.from_residual.result ≡ Err f = search rules in
    by_rule c.from_residual.result around known (seen c.judge_value.new.known) c.args.stmt.now (stmt.If c.in-If.place c.in-If.test c.in-If.first c.in-If.second)
    (statements.if_rule c.in-If.place c.in-If.test first second) c.in-If.is
    (if_folds c.in-If.place c.in-If.test c.in-If.first c.in-If.second)
    (stops c.from_residual.result f known (seen c.judge_value.new.known) (statements.if_rule c.in-If.place c.in-If.test first second around known) same
    (if_refuses_test c.in-If.place around known c.in-If.test first second f
    (subst (λ e. Refuses f (statements.at_known known e)) c.get-in-If.ensures c.in_err-test-in-If.ensures)))

pub judge_stmt-returns-in_err-first-in-If : goal.judge_stmt-returns-in_err-first-in-If
judge_stmt-returns-in_err-first-in-If t c =
    let known : Known = seen c.args.known.now in
    let around : Around = around_of c.args.around in
    let middle : Known = seen c.judge_value.new.known in
    let f : TypeFault = c.in_err-first-in-If.field-0.0 in
    let first : Statement = judge_stmt c.in-If.first in
    let second : Option Statement = else_of c.in-If.second in
    let same : c.from_residual-in_err-first-in-If.result ≡ Err f = search rules in
    by_rule c.from_residual-in_err-first-in-If.result around known (seen c.judge_stmt.new.known) c.args.stmt.now (stmt.If c.in-If.place c.in-If.test c.in-If.first c.in-If.second)
    (statements.if_rule c.in-If.place c.in-If.test first second) c.in-If.is
    (if_folds c.in-If.place c.in-If.test c.in-If.first c.in-If.second)
    (stops c.from_residual-in_err-first-in-If.result f known (seen c.judge_stmt.new.known) (statements.if_rule c.in-If.place c.in-If.test first second around known) same
    (if_refuses_first c.in-If.place around known c.in-If.test first second f c.in_ok-test-in-If.test middle
    (subst (λ e. RunsAs valued_of (Ok c.in_ok-test-in-If.test) known middle (judged_at known e)) c.get-in-If.ensures c.in_ok-test-in-If.ensures)
    (subst (λ s. Refuses f (judge_stmt s around middle).made) c.get-in-If-2.ensures c.in_err-first-in-If.ensures)))

pub judge_stmt-returns-in_err-second-in-If : goal.judge_stmt-returns-in_err-second-in-If
judge_stmt-returns-in_err-second-in-If t c =
    let known : Known = seen c.args.known.now in
    let around : Around = around_of c.args.around in
    let middle : Known = seen c.judge_value.new.known in
    let late : Known = seen c.judge_stmt.new.known in
    let f : TypeFault = c.in_err-second-in-If.field-0.0 in
    let first : Statement = judge_stmt c.in-If.first in
    let second : Option Statement = else_of c.in-If.second in
    let same : c.from_residual-in_err-second-in-If.result ≡ Err f = search rules in
    by_rule c.from_residual-in_err-second-in-If.result around known (seen c.judge_else.new.known) c.args.stmt.now (stmt.If c.in-If.place c.in-If.test c.in-If.first c.in-If.second)
    (statements.if_rule c.in-If.place c.in-If.test first second) c.in-If.is
    (if_folds c.in-If.place c.in-If.test c.in-If.first c.in-If.second)
    (stops c.from_residual-in_err-second-in-If.result f known (seen c.judge_else.new.known) (statements.if_rule c.in-If.place c.in-If.test first second around known) same
    (if_refuses_second c.in-If.place around known c.in-If.test first second f c.in_ok-test-in-If.test c.in_ok-first-in-If.first middle late
    (subst (λ e. RunsAs valued_of (Ok c.in_ok-test-in-If.test) known middle (judged_at known e)) c.get-in-If.ensures c.in_ok-test-in-If.ensures)
    (subst (λ s. Runs (Ok c.in_ok-first-in-If.first) middle late (judge_stmt s around middle)) c.get-in-If-2.ensures c.in_ok-first-in-If.ensures)
    c.in_err-second-in-If.ensures))

pub judge_stmt-returns-in_ok-second-in-If : goal.judge_stmt-returns-in_ok-second-in-If
judge_stmt-returns-in_ok-second-in-If t c =
    let known : Known = seen c.args.known.now in
    let around : Around = around_of c.args.around in
    let middle : Known = seen c.judge_value.new.known in
    let late : Known = seen c.judge_stmt.new.known in
    let newer : Known = seen c.judge_else.new.known in
    let first : Statement = judge_stmt c.in-If.first in
    let second : Option Statement = else_of c.in-If.second in
    by_rule c.if_made.result around known newer c.args.stmt.now (stmt.If c.in-If.place c.in-If.test c.in-If.first c.in-If.second)
    (statements.if_rule c.in-If.place c.in-If.test first second) c.in-If.is
    (if_folds c.in-If.place c.in-If.test c.in-If.first c.in-If.second)
    (if_runs c.in-If.place around known c.in-If.test first second c.if_made.result
    c.in_ok-test-in-If.test c.in_ok-first-in-If.first c.in_ok-second-in-If.second middle late newer
    (subst (λ e. RunsAs valued_of (Ok c.in_ok-test-in-If.test) known middle (judged_at known e)) c.get-in-If.ensures c.in_ok-test-in-If.ensures)
    (subst (λ s. Runs (Ok c.in_ok-first-in-If.first) middle late (judge_stmt s around middle)) c.get-in-If-2.ensures c.in_ok-first-in-If.ensures)
    c.in_ok-second-in-If.ensures c.if_made.ensures)

pub judge_part-returns-in_err-stmt-in-Does : goal.judge_part-returns-in_err-stmt-in-Does
judge_part-returns-in_err-stmt-in-Does t c = λ older holds.
    let known : Known = seen c.args.known.now in
    let around : Around = around_of c.args.around in
    let f : TypeFault = c.in_err-stmt-in-Does.field-0.0 in
    let same : c.from_residual.result ≡ Err f = search rules in
    part_stops c.from_residual.result f known (seen c.judge_stmt.new.known) c.args.labels.now (judge_part c.args.part.now around c.args.kind older known) same
    (subst (λ (r : SwitchPart). Refuses f (r around c.args.kind older known).made) (sym (ap judge_part c.in-Does.is ∙ part_Does SwitchPart Statement part_step stmt_step c.in-Does.place c.in-Does.stmt))
    (does_refuses c.in-Does.place (judge_stmt c.in-Does.stmt) around c.args.kind older known f
    (subst (λ s. Refuses f (judge_stmt s around known).made) c.get-in-Does.ensures c.in_err-stmt-in-Does.ensures)))

pub judge_part-returns-in_ok-stmt-in-Does : goal.judge_part-returns-in_ok-stmt-in-Does
judge_part-returns-in_ok-stmt-in-Does t c = λ older holds.
    let known : Known = seen c.args.known.now in
    let newer : Known = seen c.judge_stmt.new.known in
    let around : Around = around_of c.args.around in
    let s : TStmt = c.in_ok-stmt-in-Does.stmt in
    subst (λ (r : SwitchPart). PartRuns (Ok (typed_part.Does c.in-Does.place s)) known newer c.args.labels.now (r around c.args.kind older known))
    (sym (ap judge_part c.in-Does.is ∙ part_Does SwitchPart Statement part_step stmt_step c.in-Does.place c.in-Does.stmt))
    (does_runs c.in-Does.place (judge_stmt c.in-Does.stmt) around c.args.kind older known s newer c.args.labels.now holds
    (subst (λ x. Runs (Ok s) known newer (judge_stmt x around known)) c.get-in-Does.ensures c.in_ok-stmt-in-Does.ensures))
