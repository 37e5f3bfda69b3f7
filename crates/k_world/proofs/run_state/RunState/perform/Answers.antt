use Rattle.std.proofs.Common.{◌≡◌, refl, sym}
use Rattle.k_world.specs.declared.act.Act.TheVariants as act
use Rattle.k_world.specs.Acts.{work, hidden, touched, effect}
use Rattle.k_world.specs.Operands.{values_of}
use Rattle.k_world.proofs.Operations.{performs_alone}
use Rattle.k_world.proofs.run_state.RunState.perform.Goals as goal

pub returns-in-Binary : goal.returns-in-Binary
unfolding work hidden touched effect
returns-in-Binary c =
    rw (c.in-Binary.is, c.performed.ensures)
    (performs_alone (act.Binary c.in-Binary.op c.in-Binary.kind) (values_of c.args.reads.now) c.args.self.now c.binary.result (sym c.binary.ensures) refl refl refl)

pub returns-in-Input : goal.returns-in-Input
returns-in-Input c = rw c.in-Input.is (c.input.ensures (values_of c.args.reads.now))
