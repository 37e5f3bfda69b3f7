use Rattle.std.proofs.Common.{ap, length, arith}
use Rattle.k_lex.proofs.lines.nothing_read.Goals as goal

pub returns-clause-sound : goal.returns-clause-sound
returns-clause-sound c = record {
  small = c.requires;
  indexed = c.new-3.ensures.indexed;
  planned = c.new-3.ensures.planned;
  tokens = omega (arith, ap length c.new-4.ensures);
  spelled = omega arith;
}
