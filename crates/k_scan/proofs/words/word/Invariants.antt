use Rattle.std.proofs.Common.{◌≡◌, length}
use Rattle.k_scan.specs.Pieces.{word_at}
use Rattle.k_scan.proofs.words.word.Given as goal

abbrev pub invariant-loop-first : goal.invariant-loop-first
invariant-loop-first l = word_at l.word l.rest ≡ word_at l.fn.word l.text

abbrev pub decreases-loop-first : goal.decreases-loop-first
decreases-loop-first l = length l.word
