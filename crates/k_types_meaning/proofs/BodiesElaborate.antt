-- Judging statements and the relation of their typed trees agree.
use Rattle.std.proofs.Common.{◌≡◌, sym, ◌∙◌, ap, subst, List}
use Rattle.k_tree.specs.declared.tree.statement.Stmt.{Stmt}
use Rattle.k_types_meaning.specs.declared.tree.statement.TStmt.{TStmt}
use Rattle.k_types_meaning.specs.Made.{Fine}
use Rattle.k_types_meaning.specs.Statements.{Around, Known, judge_body}
use Rattle.k_types_meaning.proofs.Elaborates.{fine_is}
use Rattle.k_types_meaning.specs.Laws.{StatementsElaborate, BodiesElaborate, StatementHasOneTree}
use Rattle.k_types_meaning.specs.ElaboratedStatements.{ElabStmt, ElabStmts}
use Rattle.k_types_meaning.proofs.CompleteStatements.{stmt_complete, stmts_complete}
use Rattle.k_types_meaning.proofs.Faultless.{comes}
use Rattle.k_types_meaning.proofs.SoundStatements.{stmt_sound, stmts_sound}

-- judging and the relation agree on a statement
pub statements_elaborate : StatementsElaborate
statements_elaborate around known s tree after = (
  λ is. subst (ElabStmt around known s tree) is.1 (stmt_sound s around known tree is.0),
  λ x. (ap (λ j. j.made) (stmt_complete around known s tree after x), ap (λ j. j.after) (stmt_complete around known s tree after x)),
)

-- judging a function's block without a fault gives what it means
pub body_sound : (around : Around) (known : Known) (body : List Stmt) (trees : List TStmt) → (judge_body around known body).made ≡ Fine trees
    → ElabStmts around known body trees (judge_body around known body).after
unfolding judge_body
body_sound around known body trees is = stmts_sound body around known trees is

-- what a function's block means is what judging makes of it
pub body_complete : (around : Around) (known : Known) (body : List Stmt) (trees : List TStmt) (after : Known) → ElabStmts around known body trees after
    → judge_body around known body ≡ comes trees after
unfolding judge_body
body_complete around known body trees after x = stmts_complete around known body trees after x

-- judging and the relation agree on a function's block
pub bodies_elaborate : BodiesElaborate
bodies_elaborate around known body trees after = (
  λ is. subst (ElabStmts around known body trees) is.1 (body_sound around known body trees is.0),
  λ x. (ap (λ j. j.made) (body_complete around known body trees after x), ap (λ j. j.after) (body_complete around known body trees after x)),
)

-- a statement has at most one typed tree
pub statement_has_one_tree : StatementHasOneTree
statement_has_one_tree around known s a b after later x y =
    let same = sym (stmt_complete around known s a after x) ∙ stmt_complete around known s b later y in
    (fine_is a b (ap (λ j. j.made) same), ap (λ j. j.after) same)
