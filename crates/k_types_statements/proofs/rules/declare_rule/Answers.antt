use Rattle.std.proofs.Common.{◌∙◌, false, Ok, sym, ap}
use Rattle.k_types_meaning.specs.declared.tree.statement.TStmt.TheVariants as typed
use Rattle.k_types_meaning.specs.Declarations.{saying}
use Rattle.k_types_meaning.specs.Made.{Fine}
use Rattle.k_types_meaning.specs.Statements.{declare_rule, spot}
use Rattle.k_types_declarations.specs.Results.{seen}
use Rattle.k_types_statements.proofs.Judging.{declaring_runs}
use Rattle.k_types_statements.proofs.rules.declare_rule.Goals as goal

pub returns : goal.returns
unfolding declare_rule
returns c = λ around.
    declaring_runs (Ok c.in_ok-stmt.stmt) c.in_ok-list.list c.of_specifiers-saying.result (saying false c.args.specs.now)
    (seen c.args.known.now) (seen c.declare_all.new.known) c.args.list.now (typed.Declare (spot c.args.place)) c.of_specifiers-saying.ensures
    c.in_ok-list.ensures
    (ap (λ s. Fine (typed.Declare s c.in_ok-list.list)) (sym c.spot-spot.ensures) ∙ ap Fine (sym c.in_ok-stmt.ensures))
