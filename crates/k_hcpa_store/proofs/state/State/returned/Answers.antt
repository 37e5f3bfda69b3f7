use Rattle.std.proofs.Common.{◌≡◌, None, Option, subst}
use Rattle.k_code.specs.declared.instruction.Arg.{Arg}
use Rattle.k_code.specs.Steps.{read_of}
use Rattle.k_hcpa_store.specs.Kept.{window}
use Rattle.k_hcpa_store.specs.Calls.{value_fault}
use Rattle.k_hcpa_store.proofs.Leaving.{left_some, slot_set}
use Rattle.k_hcpa_store.proofs.state.State.returned.Goals as goal

pub move_operand-requires-clause-left : goal.move_operand-requires-clause-left
move_operand-requires-clause-left c =
    left_some c.args.self.now.world.left (read_of (window c.args.self.now.registers c.args.self.now.call.first) c.in-Some.a) (record { line = 0; column = 0 })
    (subst (λ (v : Option Arg). value_fault c.args.self.now (record { line = 0; column = 0 }) v ≡ None) c.in-Some.is (c.requires.may (record { line = 0; column = 0 })))

pub move_operand-requires-clause-set : goal.move_operand-requires-clause-set
move_operand-requires-clause-set c =
    slot_set c.args.self.now.world.left (read_of (window c.args.self.now.registers c.args.self.now.call.first) c.in-Some.a) (record { line = 0; column = 0 })
    (subst (λ (v : Option Arg). value_fault c.args.self.now (record { line = 0; column = 0 }) v ≡ None) c.in-Some.is (c.requires.may (record { line = 0; column = 0 })))
