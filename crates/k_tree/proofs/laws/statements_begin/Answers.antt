use Rattle.k_tree.specs.Begins.{begins_stmt}
use Rattle.k_tree.specs.Spelling.{spell_stmt}
use Rattle.k_tree.proofs.Begin.{stmt_begins, not_empty}
use Rattle.k_tree.proofs.laws.statements_begin.Goals as goal

pub returns : goal.returns
returns c = λ s r. (stmt_begins s r, not_empty begins_stmt (spell_stmt s) (stmt_begins s r))
