use Rattle.k_carry.proofs.walk.note_made.Goals as goal

pub returns-in_ok-note_operation-in-Some-clause-places : goal.returns-in_ok-note_operation-in-Some-clause-places
returns-in_ok-note_operation-in-Some-clause-places c = λ told. c.in_ok-note_operation-in-Some.ensures.places (told c.in-Some.made c.in-Some.is)
