use Rattle.std.proofs.Common.{arith}
use Rattle.k_spage.proofs.shadow_pages.ShadowPagesShadow.write.Goals as goal

pub put-requires-clause-room : goal.put-requires-clause-room
put-requires-clause-room c = record { most = 18446744073709551615; there = c.requires.room; within = λ level lt. omega (arith, c.type_inv.each level) }
