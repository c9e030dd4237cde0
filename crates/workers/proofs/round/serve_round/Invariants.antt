use Rattle.workers.proofs.round.serve_round.Given as goal

abbrev pub ghosts-round_of-N-Opening : goal.ghosts-round_of-N-Opening
ghosts-round_of-N-Opening g a = record { opening = a.state.served; turns = a.options.now.turns }

abbrev pub ghosts-round_of-N-Ledger : goal.ghosts-round_of-N-Ledger
ghosts-round_of-N-Ledger g a = record { name = a.blank.name; parts = a.blank.parts }
