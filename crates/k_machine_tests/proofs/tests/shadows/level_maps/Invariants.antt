use Rattle.k_machine_tests.proofs.tests.shadows.level_maps.Given as goal

-- the counter is of the ledger that was handed in
abbrev pub ghosts-level_maps_read_back : goal.ghosts-level_maps_read_back
ghosts-level_maps_read_back g a = record { name = a.blank.name; parts = a.blank.parts }
