use Rattle.k_lex_laws.proofs.Characters.{characters_are_chars}
use Rattle.k_lex_laws.proofs.laws.each_character_is_a_char.Goals as goal

pub returns : goal.returns
returns c = characters_are_chars
