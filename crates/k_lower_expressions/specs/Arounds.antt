-- For contracts between crates: nobody has to believe it.
-- What lies around an expression whose code is emitted.
use Rattle.k_types_meaning.specs.declared.tree.expression.TExpr.{TExpr}
use Rattle.k_evaluation.specs.States.{Program}
use Rattle.k_lower_code.specs.Expressions.{lowered}
use Rattle.k_lower_code.specs.Lowered.{Lowered, Designated}
use Rattle.k_lower_code.specs.Lowered as lowers
use Rattle.k_lower_code.specs.Stretches.{Inside}
use Rattle.k_lower_expressions.specs.declared.around.Around.{Around}
use Rattle.k_lower_expressions.specs.declared.designated.Designated as emitted
use Rattle.k_lower_expressions.specs.declared.designated.Designated.TheVariants as spot

-- what stays the same while the program runs
abbrev pub program_of : Around → Program
program_of a = record { unit = a.unit.now; marks = a.marks.now; latencies = a.latencies.now }

-- what stays the same in the function
abbrev pub inside_of : Around → Inside
inside_of a = record { program = program_of a; function = a.function; vars = a.variables.now }

-- how an expression is lowered there
abbrev pub lowered_in : Around → TExpr → Lowered
lowered_in a e = lowered (program_of a) a.variables.now e

-- what is designated, as lowering has it
abbrev pub designates : emitted.Designated → Designated
designates (spot.InRegister n broken) = lowers.InRegister n broken
designates (spot.InMemory a) = lowers.InMemory a
