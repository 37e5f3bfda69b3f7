use Rattle.std.proofs.Common.{◌≡◌}
use Rattle.toml.specs.View.{members_view}
use Rattle.k_optab.specs.TomlTable.{document_faults}
use Rattle.k_optab.proofs.toml_table.look_for_fault.Given as goal

abbrev pub invariant-pairs : goal.invariant-pairs
invariant-pairs l =
    (goal.iterator-pairs).can_next l.key-iterator × (goal.iterator-pairs).is_finite l.key-iterator
    × (document_faults (members_view l.key-iterator) ≡ document_faults (members_view l.document.entries))
