use Rattle.k_code.proofs.Decided.{no_room, room_decided}
use Rattle.k_code.proofs.validity.extent_fits.Goals as goal

pub returns-in-Some : goal.returns-in-Some
returns-in-Some c =
    let found = c.requires.extents.1 c.args.func.now.entry _ c.in-Some.ensures in
    room_decided c.args.code.now c.args.func.now c.in-Some.extent.end c.in-Some.extent.registers c.extent_passes.result c.requires.entry found.1.end found.1.registers c.extent_passes.ensures

pub returns-in-None : goal.returns-in-None
returns-in-None c = no_room c.args.code.now c.args.func.now c.requires.begins (c.requires.extents.1 c.args.func.now.entry _ c.in-None.ensures)
