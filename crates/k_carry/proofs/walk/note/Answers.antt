use Rattle.k_carry.specs.Sources.{setting_of}
use Rattle.k_carry.proofs.walk.note.Goals as goal

pub returns-clause-places : goal.returns-clause-places
returns-clause-places c = λ told. c.note_return.ensures (setting_of c.args.program.now) (c.in_ok-made.ensures.places told)
