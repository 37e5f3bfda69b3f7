use Rattle.std.proofs.Common.{◌≡◌, length, arith}
use Rattle.k_code.proofs.Decided.{entry_found, no_entry}
use Rattle.k_code.proofs.validity.entry_fits.Goals as goal

pub extent_found-requires : goal.extent_found-requires
extent_found-requires c = let long : length c.args.extents.now ≡ length c.args.code.now.instrs = c.requires.extents.0 in omega (arith, long, c.requires.entry)

pub body_fits-requires-clause-extent : goal.body_fits-requires-clause-extent
body_fits-requires-clause-extent c = (c.requires.extents.1 c.args.entry _ c.in-Some.ensures).1

pub returns-in-Some : goal.returns-in-Some
returns-in-Some c = entry_found c.args.code.now c.args.entry c.body_fits.result (c.requires.extents.1 c.args.entry _ c.in-Some.ensures).0 c.body_fits.ensures

pub returns-in-None : goal.returns-in-None
returns-in-None c = no_entry c.args.code.now c.args.entry (c.requires.extents.1 c.args.entry _ c.in-None.ensures)
