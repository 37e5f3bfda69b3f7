use Rattle.std.proofs.Common.{arith}
use Rattle.k_machine_tests.proofs.tests.registers.one_register.Goals as goal

pub write-requires-clause-room : goal.write-requires-clause-room
write-requires-clause-room g c = c.in_ok-reserve.ensures.room 3 18446744073709551615 (omega arith) (omega arith) (omega arith)
