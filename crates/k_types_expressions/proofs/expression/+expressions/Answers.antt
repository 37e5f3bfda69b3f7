use Rattle.std.proofs.Common.{◌≡◌, ℕ, List, map, Ok, sym, ap, ◌∙◌, subst, arith}
use Rattle.k_tree.specs.declared.tree.expression.Expr.{Expr}
use Rattle.k_tree.proofs.Folds.{expr_Cond, expr_Assign, expr_Comma}
use Rattle.k_types_meaning.specs.Conversions.{Typed}
use Rattle.k_types_meaning.specs.Expressions.{judge, judge_step}
use Rattle.k_types_meaning.specs.Made.{Made, both, three, all_made}
use Rattle.k_types_meaning.specs.Names.{Names}
use Rattle.k_types_meaning.specs.Operators.{cond_rule, assign_rule, comma_rule}
use Rattle.k_types_rules.specs.declared.judged.TypedExpr.{TypedExpr}
use Rattle.k_types_expressions.specs.Results.{Gives}
use Rattle.k_types_expressions.proofs.LeftForms.{with_operator, with_infix, no_more}
use Rattle.k_types_expressions.proofs.Judging.{two_gives, three_gives}
use Rattle.k_types_expressions.proofs.Passing.{judges_more, judges_all}
use Rattle.k_types_expressions.proofs.expression.+expressions.Goals as goal

pub judge-judge_operator-requires : goal.judge-judge_operator-requires
judge-judge_operator-requires t c = (omega (arith, c.decreases), with_operator _ c.in_default.not-Name c.in_default.not-Number c.in_default.not-Char c.in_default.not-Str c.in_default.not-SizeofType c.in_default.not-Paren c.in_default.not-Call)

pub judge_operator-judge_infix-requires : goal.judge_operator-judge_infix-requires
judge_operator-judge_infix-requires t c = (omega (arith, c.decreases), with_infix _ c.requires c.in_default.not-Index c.in_default.not-Post c.in_default.not-Pre c.in_default.not-Unary c.in_default.not-SizeofExpr c.in_default.not-Cast)

pub judge_infix-unreachable-requires : goal.judge_infix-unreachable-requires
judge_infix-unreachable-requires t c = no_more _ c.requires c.in_default.not-Binary c.in_default.not-Cond c.in_default.not-Assign c.in_default.not-Comma

pub judge_infix-returns-in_ok-second-in-Cond : goal.judge_infix-returns-in_ok-second-in-Cond
judge_infix-returns-in_ok-second-in-Cond t c =
    let names : Names = c.args.names.now in
    let older : List ℕ = c.args.taken.now in
    let before : List ℕ = c.judge-in-Cond.new.taken in
    let middle : List ℕ = c.judge-in-Cond-2.new.taken in
    let newer : List ℕ = c.judge-in-Cond-3.new.taken in
    let a : Expr = c.in-Cond.test in
    let b : Expr = c.in-Cond.first in
    let d : Expr = c.in-Cond.second in
    let i : TypedExpr = c.in_ok-test-in-Cond.test in
    let j : TypedExpr = c.in_ok-first-in-Cond.first in
    let k : TypedExpr = c.in_ok-second-in-Cond.second in
    let whole : judge names c.args.expr.now ≡ three (judge names a) (judge names b) (judge names d) (cond_rule c.in-Cond.place) =
    ap (judge names) c.in-Cond.is ∙ expr_Cond (Made Typed) (judge_step names) c.in-Cond.place a b d in
    let test : Gives (Ok i) older before (judge names a) =
    subst (λ e. Gives (Ok i) older before (judge names e)) c.get-in-Cond.ensures c.in_ok-test-in-Cond.ensures in
    let first : Gives (Ok j) before middle (judge names b) =
    subst (λ e. Gives (Ok j) before middle (judge names e)) c.get-in-Cond-2.ensures c.in_ok-first-in-Cond.ensures in
    let second : Gives (Ok k) middle newer (judge names d) =
    subst (λ e. Gives (Ok k) middle newer (judge names e)) c.get-in-Cond-3.ensures c.in_ok-second-in-Cond.ensures in
    subst (Gives c.cond_rule.result older newer) (sym whole)
    (three_gives c.cond_rule.result (cond_rule c.in-Cond.place) i j k older before middle newer (judge names a) (judge names b) (judge names d) test first second c.cond_rule.ensures)

pub judge_infix-returns-in_ok-right-in-Assign : goal.judge_infix-returns-in_ok-right-in-Assign
judge_infix-returns-in_ok-right-in-Assign t c =
    let names : Names = c.args.names.now in
    let older : List ℕ = c.args.taken.now in
    let middle : List ℕ = c.judge-in-Assign.new.taken in
    let newer : List ℕ = c.judge-in-Assign-2.new.taken in
    let l : Expr = c.in-Assign.left in
    let r : Expr = c.in-Assign.right in
    let j : TypedExpr = c.in_ok-left-in-Assign.left in
    let k : TypedExpr = c.in_ok-right-in-Assign.right in
    let whole : judge names c.args.expr.now ≡ both (judge names l) (judge names r) (assign_rule c.in-Assign.place c.in-Assign.op) =
    ap (judge names) c.in-Assign.is ∙ expr_Assign (Made Typed) (judge_step names) c.in-Assign.place c.in-Assign.op l r in
    let left : Gives (Ok j) older middle (judge names l) =
    subst (λ e. Gives (Ok j) older middle (judge names e)) c.get-in-Assign.ensures c.in_ok-left-in-Assign.ensures in
    let right : Gives (Ok k) middle newer (judge names r) =
    subst (λ e. Gives (Ok k) middle newer (judge names e)) c.get-in-Assign-2.ensures c.in_ok-right-in-Assign.ensures in
    subst (Gives c.assign_rule.result older newer) (sym whole)
    (two_gives c.assign_rule.result (assign_rule c.in-Assign.place c.in-Assign.op) j k older middle newer (judge names l) (judge names r) left right c.assign_rule.ensures)

pub judge_infix-returns-in_ok-right-in-Comma : goal.judge_infix-returns-in_ok-right-in-Comma
judge_infix-returns-in_ok-right-in-Comma t c =
    let names : Names = c.args.names.now in
    let older : List ℕ = c.args.taken.now in
    let middle : List ℕ = c.judge-in-Comma.new.taken in
    let newer : List ℕ = c.judge-in-Comma-2.new.taken in
    let l : Expr = c.in-Comma.left in
    let r : Expr = c.in-Comma.right in
    let j : TypedExpr = c.in_ok-left-in-Comma.left in
    let k : TypedExpr = c.in_ok-right-in-Comma.right in
    let whole : judge names c.args.expr.now ≡ both (judge names l) (judge names r) (comma_rule c.in-Comma.place) =
    ap (judge names) c.in-Comma.is ∙ expr_Comma (Made Typed) (judge_step names) c.in-Comma.place l r in
    let left : Gives (Ok j) older middle (judge names l) =
    subst (λ e. Gives (Ok j) older middle (judge names e)) c.get-in-Comma.ensures c.in_ok-left-in-Comma.ensures in
    let right : Gives (Ok k) middle newer (judge names r) =
    subst (λ e. Gives (Ok k) middle newer (judge names e)) c.get-in-Comma-2.ensures c.in_ok-right-in-Comma.ensures in
    subst (Gives c.comma_rule.result older newer) (sym whole)
    (two_gives c.comma_rule.result (comma_rule c.in-Comma.place) j k older middle newer (judge names l) (judge names r) left right c.comma_rule.ensures)

pub judge_all-loop-expr-preserved : goal.judge_all-loop-expr-preserved
judge_all-loop-expr-preserved t c =
    judges_more c.args.names.now c.loop-expr.all.items c.in_ok-judged.judged c.add.new.args.items c.as_slice-expr-items.result.now c.loop-expr.expr-index c.expr-item.result
    (all_made (map (judge c.args.names.now) c.args.exprs.now)) c.args.taken.now c.loop-expr.taken c.judge.new.taken
    c.loop-expr.invariant c.loop-expr-test.true c.expr-item.is c.in_ok-judged.ensures c.in_default.ensures

pub judge_all-returns-clause-ok : goal.judge_all-returns-clause-ok
judge_all-returns-clause-ok t c =
    judges_all c.args.names.now c.loop-expr.all.items c.as_slice-expr-items.result.now c.loop-expr.expr-index
    (all_made (map (judge c.args.names.now) c.args.exprs.now)) c.args.taken.now c.loop-expr.taken
    c.loop-expr.invariant c.loop-expr-test.false
