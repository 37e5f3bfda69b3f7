use Rattle.k_top_programs.proofs.machine.run_program.Given as goal

-- the counter is of the ledger that is handed in
abbrev pub ghosts-run_counted : goal.ghosts-run_counted
ghosts-run_counted g a = record { name = a.blank.name; parts = a.blank.parts }
