use Rattle.k_machine_tests.proofs.tests.shadows.control.Given as goal

-- the counter is of the ledger that was handed in
abbrev pub ghosts-control_comes_back : goal.ghosts-control_comes_back
ghosts-control_comes_back g a = record { name = a.blank.name; parts = a.blank.parts }
