use Rattle.std.proofs.Common.{◌∙◌, ◌<◌, ◌≤◌, length, rules, arith, sym}
use Rattle.std.proofs.lemmas.Result.{on_ok_weaker}
use Rattle.k_types_numbers.specs.Renumbering.{bare_declarator, declarator_numbers}
use Rattle.k_types_numbers.proofs.CountingLaws.{ends_as, list_done, list_lent, list_more, numbered_of, renumbers_as, renumbers_of, unvisited_more}
use Rattle.k_types_numbers.proofs.StatementForms.{alone_of, clauses_of, else_of, numbers_Block, numbers_Break, numbers_Continue, numbers_Declare, numbers_DoWhile, numbers_Empty, numbers_Expr, numbers_For, numbers_Return, numbers_Switch, numbers_While, part_does}
use Rattle.k_types_numbers.proofs.LeftForms.{a_control, a_loop, no_loop}
use Rattle.k_types_numbers.proofs.statement.+statements.Goals as goal

pub number_behind-returns-in-Empty : goal.number_behind-returns-in-Empty
number_behind-returns-in-Empty t c =
    ends_as _ _ _ _ _ _ _ _ _ (numbered_of _ _ _ _ _ _ _ _ _ c.in-Empty.is
    (numbers_Empty _ _ c.args.counts.now)) (search rules)

pub number_behind-returns-in-Break : goal.number_behind-returns-in-Break
number_behind-returns-in-Break t c =
    ends_as _ _ _ _ _ _ _ _ _ (numbered_of _ _ _ _ _ _ _ _ _ c.in-Break.is
    (numbers_Break _ _ c.args.counts.now)) (search rules)

pub number_behind-returns-in-Continue : goal.number_behind-returns-in-Continue
number_behind-returns-in-Continue t c =
    ends_as _ _ _ _ _ _ _ _ _ (numbered_of _ _ _ _ _ _ _ _ _ c.in-Continue.is
    (numbers_Continue _ _ c.args.counts.now)) (search rules)

pub number_behind-returns-in_ok-number_boxed-in-Expr : goal.number_behind-returns-in_ok-number_boxed-in-Expr
number_behind-returns-in_ok-number_boxed-in-Expr t c =
    ends_as _ _ _ _ _ _ _ _ _ (numbered_of _ _ _ _ _ _ _ _ _ c.in-Expr.is
    (numbers_Expr _ _ _ _ _ _ (renumbers_of _ _ _ _ _ _ _ _ c.in-Expr.value-is c.in_ok-number_boxed-in-Expr.ensures))) (search rules)

pub number_behind-returns-in_ok-number_stmts-in-Block : goal.number_behind-returns-in_ok-number_stmts-in-Block
number_behind-returns-in_ok-number_stmts-in-Block t c =
    ends_as _ _ _ _ _ _ _ _ _ (numbered_of _ _ _ _ _ _ _ _ _ c.in-Block.is
    (numbers_Block _ _ _ _ _ _
    (list_lent _ _ _ c.in-Block.parts _ _ _ _ (c.as_mut_slice.ensures.value ∙ c.in-Block.parts-is) c.number_stmts.auto.stmts c.in_ok-number_stmts-in-Block.ensures))) (search rules)

pub number_selection-returns-in-None : goal.number_selection-returns-in-None
number_selection-returns-in-None t c =
    ends_as _ _ _ _ _ _ _ _ _
    (alone_of _ _ _ _ _ _ _ _ _ _ _ c.in-If.is (sym c.in-If.other-is ∙ c.in-None.is)
    (renumbers_of _ _ _ _ _ _ _ _ c.in-If.test-is c.in_ok-number_boxed-in-If.ensures)
    (renumbers_of _ _ _ _ _ _ _ _ c.in-If.then-is c.in_ok-number_boxed_stmt-in-If.ensures))
    (search rules)

pub number_selection-returns-in_ok-number_boxed_stmt-in-Some : goal.number_selection-returns-in_ok-number_boxed_stmt-in-Some
number_selection-returns-in_ok-number_boxed_stmt-in-Some t c =
    ends_as _ _ _ _ _ _ _ _ _
    (else_of _ _ _ _ _ _ _ _ _ _ _ _ _ _ c.in-If.is (sym c.in-If.other-is ∙ c.in-Some.is)
    (renumbers_of _ _ _ _ _ _ _ _ c.in-If.test-is c.in_ok-number_boxed-in-If.ensures)
    (renumbers_of _ _ _ _ _ _ _ _ c.in-If.then-is c.in_ok-number_boxed_stmt-in-If.ensures)
    (renumbers_of _ _ _ _ _ _ _ _ c.in-Some.other-is c.in_ok-number_boxed_stmt-in-Some.ensures))
    (search rules)

pub number_loop-returns-in_ok-number_boxed-in-While : goal.number_loop-returns-in_ok-number_boxed-in-While
number_loop-returns-in_ok-number_boxed-in-While t c =
    on_ok_weaker c.number_boxed_stmt.result (λ h. ends_as _ _ _ _ _ _ _ _ _ (numbered_of _ _ _ _ _ _ _ _ _ c.in-While.is
    (numbers_While _ _ _ _ _ _ _ _ _ _ _ _ c.in_ok-turns-in-While.ensures.0 c.in_ok-turns-in-While.ensures.1
    (renumbers_of _ _ _ _ _ _ _ _ c.in-While.test-is c.in_ok-number_boxed-in-While.ensures)
    (renumbers_of _ _ _ _ _ _ _ _ c.in-While.body-is h))) (search rules)) c.number_boxed_stmt.ensures

pub number_loop-returns-in_ok-number_boxed_stmt-in-DoWhile : goal.number_loop-returns-in_ok-number_boxed_stmt-in-DoWhile
number_loop-returns-in_ok-number_boxed_stmt-in-DoWhile t c =
    on_ok_weaker c.number_boxed-in-DoWhile.result (λ h. ends_as _ _ _ _ _ _ _ _ _ (numbered_of _ _ _ _ _ _ _ _ _ c.in-DoWhile.is
    (numbers_DoWhile _ _ _ _ _ _ _ _ _ _ _ _ c.in_ok-turns-in-DoWhile.ensures.0 c.in_ok-turns-in-DoWhile.ensures.1
    (renumbers_of _ _ _ _ _ _ _ _ c.in-DoWhile.body-is c.in_ok-number_boxed_stmt-in-DoWhile.ensures)
    (renumbers_of _ _ _ _ _ _ _ _ c.in-DoWhile.test-is h))) (search rules)) c.number_boxed-in-DoWhile.ensures

pub number_loop-returns-in_ok-number_clauses-in-For : goal.number_loop-returns-in_ok-number_clauses-in-For
number_loop-returns-in_ok-number_clauses-in-For t c =
    on_ok_weaker c.number_boxed_stmt-in-For.result (λ h. ends_as _ _ _ _ _ _ _ _ _ (numbered_of _ _ _ _ _ _ _ _ _ c.in-For.is
    (numbers_For _ _ _ _ _ _ _ _ _ _ _ _ _ _ _ _ c.in_ok-turns-in-For.ensures.0 c.in_ok-turns-in-For.ensures.1
    (clauses_of _ _ _ _ _ _ _ _ _ _ _ c.in-For.first-is c.in-For.test-is c.in-For.step-is c.in_ok-number_clauses-in-For.ensures)
    (renumbers_of _ _ _ _ _ _ _ _ c.in-For.body-is h))) (search rules)) c.number_boxed_stmt-in-For.ensures

pub number_selection-returns-in_ok-number_parts-in-Switch : goal.number_selection-returns-in_ok-number_parts-in-Switch
number_selection-returns-in_ok-number_parts-in-Switch t c =
    ends_as _ _ _ _ _ _ _ _ _ (numbered_of _ _ _ _ _ _ _ _ _ c.in-Switch.is
    (numbers_Switch _ _ _ _ _ _ _ _ _ _ (renumbers_of _ _ _ _ _ _ _ _ c.in-Switch.on-is c.in_ok-number_boxed-in-Switch.ensures)
    (list_lent _ _ _ c.in-Switch.parts _ _ _ _ (c.as_mut_slice.ensures.value ∙ c.in-Switch.parts-is) c.number_parts.auto.parts c.in_ok-number_parts-in-Switch.ensures))) (search rules)

pub number_behind-returns-in_ok-number_option-in-Return : goal.number_behind-returns-in_ok-number_option-in-Return
number_behind-returns-in_ok-number_option-in-Return t c =
    ends_as _ _ _ _ _ _ _ _ _ (numbered_of _ _ _ _ _ _ _ _ _ c.in-Return.is
    (numbers_Return _ _ _ _ _ _ (renumbers_of _ _ _ _ _ _ _ _ c.in-Return.value-is c.in_ok-number_option-in-Return.ensures))) (search rules)

pub number_behind-returns-in_ok-number_declared-in-Declare : goal.number_behind-returns-in_ok-number_declared-in-Declare
number_behind-returns-in_ok-number_declared-in-Declare t c =
    ends_as _ _ _ _ _ _ _ _ _ (numbered_of _ _ _ _ _ _ _ _ _ c.in-Declare.is
    (numbers_Declare _ _ _ _ _ _
    (list_lent _ bare_declarator declarator_numbers c.in-Declare.list _ _ _ _ (c.as_mut_slice-in-Declare.ensures.value ∙ c.in-Declare.list-is) c.number_declared.auto.list c.in_ok-number_declared-in-Declare.ensures))) (search rules)

pub number_part-returns-in_ok-number_boxed_stmt-in-Does : goal.number_part-returns-in_ok-number_boxed_stmt-in-Does
number_part-returns-in_ok-number_boxed_stmt-in-Does t c =
    renumbers_as _ _ _ _ _ _ _ _ _ (part_does c.in-Does._place _ _ _ _ c.in_ok-number_boxed_stmt-in-Does.ensures) (search rules) (search rules)

pub number_parts-returns : goal.number_parts-returns
number_parts-returns t c =
    let ended : length c.loop-part.parts ≤ c.loop-part.part-index = omega arith in
    list_done _ _ _ _ _ _ _ _ ended c.loop-part.invariant.1

pub number_parts-loop-part-preserved : goal.number_parts-loop-part-preserved
number_parts-loop-part-preserved t c =
    let within : c.loop-part.part-index < length c.loop-part.parts = omega arith in (
      unvisited_more _ _ _ _ _ c.loop-part.invariant.0,
      list_more _ _ _ _ _ _ _ _ _ _ _ within c.loop-part.invariant.1 c.in_ok-number_part.ensures,
    )

pub number_stmts-returns : goal.number_stmts-returns
number_stmts-returns t c =
    let ended : length c.loop-stmt.stmts ≤ c.loop-stmt.stmt-index = omega arith in
    list_done _ _ _ _ _ _ _ _ ended c.loop-stmt.invariant.1

pub number_stmts-loop-stmt-preserved : goal.number_stmts-loop-stmt-preserved
number_stmts-loop-stmt-preserved t c =
    let within : c.loop-stmt.stmt-index < length c.loop-stmt.stmts = omega arith in (
      unvisited_more _ _ _ _ _ c.loop-stmt.invariant.0,
      list_more _ _ _ _ _ _ _ _ _ _ _ within c.loop-stmt.invariant.1 c.in_ok-number_stmt.ensures,
    )

pub number_behind-number_selection-requires : goal.number_behind-number_selection-requires
number_behind-number_selection-requires t c = (omega (arith, c.decreases), a_control _ c.in_default.not-Expr c.in_default.not-Empty c.in_default.not-Block c.in_default.not-Break c.in_default.not-Continue c.in_default.not-Return c.in_default.not-Declare)

pub number_selection-number_loop-requires : goal.number_selection-number_loop-requires
number_selection-number_loop-requires t c = (omega (arith, c.decreases), a_loop _ c.requires c.in_default.not-If c.in_default.not-Switch)

pub number_loop-unreachable-requires : goal.number_loop-unreachable-requires
number_loop-unreachable-requires t c = no_loop _ c.requires c.in_default.not-While c.in_default.not-DoWhile c.in_default.not-For
