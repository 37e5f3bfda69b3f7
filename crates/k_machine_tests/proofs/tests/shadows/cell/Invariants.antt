use Rattle.k_machine_tests.proofs.tests.shadows.cell.Given as goal

-- the counter is of the ledger that was handed in
abbrev pub ghosts-cell_keeps_times : goal.ghosts-cell_keeps_times
ghosts-cell_keeps_times g a = record { name = a.blank.name; parts = a.blank.parts }
