use Rattle.std.proofs.Common.{All, List, sym, subst}
use Rattle.std.proofs.lemmas.Bool.{both_ways}
use Rattle.k_replay_record.specs.declared.record.Operand.{Operand}
use Rattle.k_replay_record.specs.Records.{HasSource, IsEarlier}
use Rattle.k_replay_record.proofs.recorder.fits.Goals as goal

pub returns-then-are_earlier : goal.returns-then-are_earlier
returns-then-are_earlier c = (
  λ linked. record {
    earlier = subst (λ (xs : List Operand). All (IsEarlier c.args.count) xs) c.as_slice-operands.ensures (c.are_earlier.ensures.0 c.if-are_earlier.true);
    chained = λ writes. subst (λ (xs : List Operand). HasSource c.args.last xs) c.as_slice-operands.ensures (c.is_linked.ensures.0 linked writes);
  },
  λ fits. c.is_linked.ensures.1 (λ writes. subst (λ (xs : List Operand). HasSource c.args.last xs) (sym c.as_slice-operands.ensures) (fits.chained writes)),
)

pub returns-else-are_earlier : goal.returns-else-are_earlier
returns-else-are_earlier c = (
  λ early. absurd (both_ways c.are_earlier.result c.if-are_earlier.false early),
  λ fits. c.are_earlier.ensures.1 (subst (λ (xs : List Operand). All (IsEarlier c.args.count) xs) (sym c.as_slice-operands.ensures) fits.earlier),
)
