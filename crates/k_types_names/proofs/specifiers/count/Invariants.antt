use Rattle.std.proofs.Common.{◌≡◌, ◌+◌, ◌≤◌, length}
use Rattle.k_types_meaning.specs.Specifiers.{count_word}
use Rattle.k_types_names.proofs.specifiers.count.Given as goal

abbrev pub invariant-loop-other : goal.invariant-loop-other
invariant-loop-other l = record {
  within : l.count + length l.rest ≤ length l.words;
  left : l.count + count_word l.word l.rest ≡ count_word l.word l.words;
}

abbrev pub decreases-loop-other : goal.decreases-loop-other
decreases-loop-other l = length l.rest
