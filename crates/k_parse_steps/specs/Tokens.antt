-- Believed with a public law.
-- Which mark and which keyword a token is (C17 6.4.1, 6.4.6).
use Rattle.std.specs.Prelude.{Bool, false}
use denote.Enum.Bare.{sameb}
use Rattle.k_parse_steps.specs.Types.{TokenKind, Mark, Word}
use Rattle.k_tree.specs.contracts.tokens.mark.Mark as marks
use Rattle.k_tree.specs.contracts.tokens.word.Word as words
use Rattle.k_tree.specs.declared.tokens.TokenKind.TheVariants as token

-- are the two marks the same one?
unfoldable pub is_mark : Mark → Mark → Bool
is_mark m which = sameb marks.the_type m which

-- are the two keywords the same one?
unfoldable pub is_word : Word → Word → Bool
is_word w which = sameb words.the_type w which

-- is a token of this kind this mark?
abbrev pub token_is_mark : TokenKind → Mark → Bool
token_is_mark (token.Mark m) which = is_mark m which
token_is_mark _ which = false

-- is a token of this kind this keyword?
abbrev pub token_is_word : TokenKind → Word → Bool
token_is_word (token.Word w) which = is_word w which
token_is_word _ which = false
