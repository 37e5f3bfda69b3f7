use Rattle.k_carry.proofs.running.carried.Goals as goal

pub begin-requires-clause-places : goal.begin-requires-clause-places
begin-requires-clause-places c = c.new-2.ensures _
