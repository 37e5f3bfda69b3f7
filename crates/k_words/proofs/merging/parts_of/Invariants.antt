use Rattle.std.proofs.Common.{◌≡◌, [], drop}
use Rattle.k_words.specs.Parts.{all_times, parts_of}
use Rattle.k_words.specs.Settings.{seen_words}
use Rattle.k_words.proofs.merging.parts_of.Given as goal

abbrev pub invariant-loop-word : goal.invariant-loop-word
invariant-loop-word l = record {
  whole : parts_of l.parts.items (seen_words (drop l.word-index l.words)) ≡ parts_of [] (seen_words l.words);
  count : all_times l.parts.items ≡ l.word-index;
}
