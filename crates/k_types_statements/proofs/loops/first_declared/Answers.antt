use Rattle.std.proofs.Common.{false, Ok, sym, ap}
use Rattle.k_types_meaning.specs.declared.tree.statement.TFirst.TheVariants as typed_first
use Rattle.k_types_meaning.specs.Declarations.{saying}
use Rattle.k_types_meaning.specs.Made.{Fine}
use Rattle.k_types_declarations.specs.Results.{seen}
use Rattle.k_types_statements.proofs.Judging.{declaring_runs}
use Rattle.k_types_statements.proofs.loops.first_declared.Goals as goal

pub returns : goal.returns
returns c =
    declaring_runs (Ok c.in_ok-first.first) c.in_ok-list.list c.of_specifiers-saying.result (saying false c.args.specs.now)
    (seen c.args.known.now) (seen c.declare_all.new.known) c.args.list.now typed_first.Declare c.of_specifiers-saying.ensures
    c.in_ok-list.ensures (ap Fine (sym c.in_ok-first.ensures))
