use Rattle.k_machine_tests.proofs.tests.pages.pages.Given as goal

-- the counter is of the ledger that was handed in
abbrev pub ghosts-two_pages : goal.ghosts-two_pages
ghosts-two_pages g a = record { name = a.blank.name; parts = a.blank.parts }
