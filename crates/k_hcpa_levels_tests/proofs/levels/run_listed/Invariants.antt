use Rattle.k_hcpa_levels_tests.proofs.levels.run_listed.Given as goal

-- the counter is of the ledger that was handed in
abbrev pub ghosts-run_counted : goal.ghosts-run_counted
ghosts-run_counted a = record { name = a.blank.name; parts = a.blank.parts }
