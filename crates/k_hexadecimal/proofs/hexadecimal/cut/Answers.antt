use Rattle.std.proofs.Common.{arith, sym}
use Rattle.k_hexadecimal.proofs.SizedLaws.{all_dropped}
use Rattle.k_hexadecimal.proofs.hexadecimal.cut.Goals as goal

pub returns-else-drop-lt64 : goal.returns-else-drop-lt64
returns-else-drop-lt64 c = λ c' l C h is. sym (all_dropped c.args.s.head l c' c.args.drop C h c.requires.head (omega (arith, c.if-drop-lt64.false)))
