use Rattle.k_words.specs.Settings.{seen_words}
use Rattle.k_words.proofs.FilesToMerge.{NameFiles}
use Rattle.k_words.proofs.merging.are_files.Given as goal

abbrev pub invariant-words : goal.invariant-words
invariant-words l = NameFiles (seen_words l.arguments) l.word-index l.number
