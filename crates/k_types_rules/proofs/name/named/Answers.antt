use Rattle.std.proofs.Common.{[], Some, sym, subst}
use Rattle.k_types_meaning.specs.Operands.{named}
use Rattle.k_types_rules.specs.Views.{Agrees}
use Rattle.k_types_rules.proofs.name.named.Goals as goal

pub returns-in-Variable : goal.returns-in-Variable
returns-in-Variable c =
    λ name. subst (λ meaning. Agrees c.variable.result [] (named c.args.place name (Some meaning))) (sym c.in-Variable.is) (c.variable.ensures name)

pub returns-in-Object : goal.returns-in-Object
returns-in-Object c =
    λ name. subst (λ meaning. Agrees c.object.result [] (named c.args.place name (Some meaning))) (sym c.in-Object.is) (c.object.ensures name)
