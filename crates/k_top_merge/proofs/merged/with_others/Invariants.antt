use Rattle.std.proofs.Common.{length}
use Rattle.k_sum_saved.specs.Merged.{IsMerged}
use Rattle.k_words.specs.Parts.{AreNamedOnce}
use Rattle.k_top_lemmas.specs.Merges.{OthersFromHere}
use Rattle.k_top_merge.proofs.merged.with_others.Given as goal

abbrev pub invariant-loop-part : goal.invariant-loop-part
invariant-loop-part g l = record {
  once : AreNamedOnce l.rest;
  merged : IsMerged l.sum;
  leads : OthersFromHere l.fn.parts l.rest l.fn.last.file l.last.file l.fn.sum l.sum (g.F.Files.seen l.fn.files) (g.F.Files.seen l.files);
}

abbrev pub decreases-loop-part : goal.decreases-loop-part
decreases-loop-part g l = length l.rest
