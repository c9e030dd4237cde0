use Rattle.served_tests.proofs.workers_tests.worker_tests.serves_alone.Given as goal

abbrev pub ghosts-takes_two-N-Opening : goal.ghosts-takes_two-N-Opening
ghosts-takes_two-N-Opening g a = record { opening = a.lone.served; turns = 2 }

abbrev pub ghosts-takes_two-N-Ledger : goal.ghosts-takes_two-N-Ledger
ghosts-takes_two-N-Ledger g a = record { name = a.blank.name; parts = a.blank.parts }
