use Rattle.k_words.specs.Settings.{seen, seen_words}
use Rattle.k_words.proofs.Reading.{IsRead}
use Rattle.k_words.proofs.settings.read_settings.Given as goal

abbrev pub invariant-words : goal.invariant-words
invariant-words l = IsRead l.command (seen_words l.words) l.word-index l.index (seen l.settings)
