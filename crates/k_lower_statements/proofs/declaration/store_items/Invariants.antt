use Rattle.std.proofs.Common.{drop}
use Rattle.k_lower_code.specs.Declarations.{stores_items}
use Rattle.k_lower_expressions.specs.Arounds.{inside_of}
use Rattle.k_lower_statements.proofs.Left.{IsLeft}
use Rattle.k_lower_statements.proofs.declaration.store_items.Given as goal

abbrev pub invariant-loop-item : goal.invariant-loop-item
invariant-loop-item l =
    IsLeft {A = Unit {0}} (stores_items (inside_of l.around) l.object (drop l.item-index l.item-items)) (stores_items (inside_of l.around) l.object l.items) l.fn.out.items l.out.items
