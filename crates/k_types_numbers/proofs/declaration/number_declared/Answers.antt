use Rattle.k_types_meaning.specs.declared.tree.declaration.TDeclarator.{TDeclarator}
use Rattle.k_types_numbers.specs.Renumbering.{bare_declarator, declarator_numbers}
use Rattle.std.proofs.Common.{◌<◌, ◌≤◌, length, arith}
use Rattle.k_types_numbers.proofs.CountingLaws.{list_done, list_more}
use Rattle.k_types_numbers.proofs.declaration.number_declared.Goals as goal

pub loop-declarator-preserved : goal.loop-declarator-preserved
loop-declarator-preserved c =
    let within : c.loop-declarator.declarator-index < length c.loop-declarator.list = omega arith in
    list_more TDeclarator bare_declarator declarator_numbers _ _ _ _ _ _ _ _ within c.loop-declarator.invariant c.in_ok-number_declarator.ensures

pub returns : goal.returns
returns c =
    let ended : length c.loop-declarator.list ≤ c.loop-declarator.declarator-index = omega arith in
    list_done TDeclarator bare_declarator declarator_numbers _ _ _ _ _ ended c.loop-declarator.invariant
