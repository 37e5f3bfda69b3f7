use Rattle.k_machine_tests.proofs.tests.registers.registers.Given as goal

-- the counter is of the ledger that was handed in
abbrev pub ghosts-one_register : goal.ghosts-one_register
ghosts-one_register g a = record { name = a.blank.name; parts = a.blank.parts }
