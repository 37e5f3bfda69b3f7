use Rattle.k_tree.specs.Begins.{begins_expr}
use Rattle.k_tree.specs.Spelling.{spell_expr}
use Rattle.k_tree.proofs.Begin.{expr_begins, not_empty}
use Rattle.k_tree.proofs.laws.expressions_begin.Goals as goal

pub returns : goal.returns
returns c = λ k e r. (expr_begins k e r, not_empty begins_expr (spell_expr e) (expr_begins k e r))
