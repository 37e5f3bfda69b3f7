-- Believed with a public law.
-- How parameters are read, token by token, from behind the opening parenthesis (C17 6.7.6.3).
use Rattle.std.specs.Prelude.{ℕ, Bool, true, false, ◌&&◌, cond, nat_eq, is_none, Option, List, [], ◌∷◌, ◌++◌, length, Some, None}
use Rattle.k_parse_steps.specs.Types.{Place, Token, TokenKind, Mark, Word, Param, Stars, Reading, Maybe, ParameterStage, Parameters, Parametric}
use Rattle.k_tree.specs.declared.tokens.TokenKind.TheVariants as token
use Rattle.k_tree.specs.declared.tokens.mark.Mark.TheVariants as mark
use Rattle.k_tree.specs.declared.tokens.word.Word.TheVariants as word_
use Rattle.k_tree.specs.declared.tree.declaration.Params.TheVariants as params
use Rattle.k_parse_steps.specs.Operators.{is_spec_word}
use Rattle.k_parse_steps.specs.Stars.{no_stars, all_stars, star, type_word}
use Rattle.k_parse_steps.specs.Expressions.{begin}
use Rattle.k_parse_steps.specs.Readings.{read_maybe}
use Rattle.k_parse_steps.specs.declared.reading.Closer.TheVariants as closer
use Rattle.k_parse_steps.specs.declared.turn.Turn.TheVariants as turn
use Rattle.k_parse_steps.specs.declared.parameter.ParameterStage.TheVariants as part_
use Rattle.k_parse_steps.specs.Tokens.{is_mark, is_word}

-- the parameters go on at this stage, and the token makes sure that a node lies at this level
abbrev pub follows : List Param → ParameterStage → ℕ → Parametric
follows list p reach = turn.Goes (record { list = list; stage = p }) reach

-- the opening parenthesis was read, and no parameter yet
abbrev pub begin_parameters : Parameters
begin_parameters = record { list = []; stage = part_.Starts }

-- a word where a parameter begins: its first specifier (C17 6.7.2, 6.7.6.3)
unfoldable pub starts : List Param → Word → Place → Parametric
starts list w p =
    cond (is_spec_word w) (follows list (part_.Typed (record { place = p; specs = w ∷ []; stars = []; name = None; dims = [] }) no_stars) 0)
    turn.Refused

-- `)` where a parameter begins: the parentheses are empty, or it can't stand behind a comma
unfoldable pub none : List Param → Parametric
none [] = turn.Done params.Empty
none (p ∷ list) = turn.Refused

-- a mark where a parameter begins: only `)` can stand there
unfoldable pub mark_first : List Param → Mark → Parametric
mark_first list mark.RightParen = none list
mark_first list _ = turn.Refused

-- a token of this kind where a parameter begins: a word, or the mark of empty parentheses
abbrev pub kind_first : List Param → Place → TokenKind → Parametric
kind_first list p (token.Word w) = starts list w p
kind_first list p (token.Mark m) = mark_first list m
kind_first list p _ = turn.Refused

-- a token where a parameter begins
unfoldable pub first_token : List Param → Token → Parametric
first_token list t = kind_first list t.place t.what

-- is `void` the only specifier?
abbrev pub is_void_list : List Word → Bool
is_void_list [] = false
is_void_list (w ∷ []) = is_word w word_.Void
is_void_list (w ∷ (v ∷ ws)) = false

-- C17 6.7.6.3p10
unfoldable pub is_void_alone : Param → Bool
is_void_alone p = is_void_list p.specs && (nat_eq (length p.stars) 0 && (is_none p.name && nat_eq (length p.dims) 0))

-- the mark behind a parameter
unfoldable pub end : List Param → Param → Mark → Parametric
end list p mark.Comma = follows (list ++ p ∷ []) part_.Starts 0
end list p mark.RightParen =
    cond (nat_eq (length list) 0 && is_void_alone p) (turn.Done params.Void) (turn.Done (params.List (list ++ p ∷ [])))
end list p _ = turn.Refused

-- a mark behind the name of a parameter, or behind a dimension: `[` opens a dimension, or the parameter ends
unfoldable pub named : List Param → Param → Mark → Parametric
named list p m = cond (is_mark m mark.LeftBracket) (follows list (part_.Size p (begin 2 1)) 0) (end list p m)

-- a token of this kind behind the name of a parameter, or behind a dimension: only a mark can stand there
abbrev pub kind_named : List Param → Param → TokenKind → Parametric
kind_named list p (token.Mark m) = named list p m
kind_named list p _ = turn.Refused

-- the parameter goes on with these specifiers and stars, or the word can't stand there
abbrev pub word_by : List Param → Param → Option (List Word × Stars) → Parametric
word_by list p (Some (specs, stars)) = follows list (part_.Typed (record p { specs = specs }) stars) 0
word_by list p None = turn.Refused

-- a word in the type of a parameter: `const` behind a star, or one more specifier before the first star (C17 6.7.2, 6.7.6.1)
unfoldable pub word : List Param → Param → Stars → Word → Parametric
word list p stars w = word_by list p (type_word p.specs stars true w)

-- a parameter with the stars that were read of it
abbrev pub starred : Param → Stars → Param
starred p stars = record p { stars = all_stars stars }

-- the name of a parameter: behind it, a dimension may come (C17 6.7.6)
unfoldable pub name : List Param → Param → Stars → List ℕ → Parametric
name list p stars x = follows list (part_.Named (record p { stars = all_stars stars; name = Some x })) 0

-- a mark in the type of a parameter: one more star, or a mark behind a parameter without a name
unfoldable pub mark_typed : List Param → Param → Stars → Mark → Parametric
mark_typed list p stars m = cond (is_mark m mark.Star) (follows list (part_.Typed p (star stars)) 0) (named list (starred p stars) m)

-- a token of this kind in the type of a parameter: a word, the name, or a mark
abbrev pub kind_typed : List Param → Param → Stars → TokenKind → Parametric
kind_typed list p stars (token.Word w) = word list p stars w
kind_typed list p stars (token.Name x) = name list p stars x
kind_typed list p stars (token.Mark m) = mark_typed list p stars m
kind_typed list p stars _ = turn.Refused

-- a token in the type of a parameter, or behind it
unfoldable pub typed : List Param → Param → Stars → Token → Parametric
typed list p stars t = kind_typed list p stars t.what

-- the dimension goes on, or its `]` was read and the parameter has it, or the token can't stand there
abbrev pub size_by : List Param → Param → Maybe → Parametric
size_by list p (turn.Goes r reach) = follows list (part_.Size p r) reach
size_by list p (turn.Done value) = follows list (part_.Named (record p { dims = p.dims ++ value ∷ [] })) 0
size_by list p turn.Refused = turn.Refused

-- a token in a dimension
unfoldable pub size : List Param → Param → Reading → Token → Parametric
size list p r t = size_by list p (read_maybe r t closer.Bracket)

-- the next token of parameters, at each stage of their reading
abbrev pub stage_fed : List Param → ParameterStage → Token → Parametric
stage_fed list part_.Starts t = first_token list t
stage_fed list (part_.Typed p stars) t = typed list p stars t
stage_fed list (part_.Named p) t = kind_named list p t.what
stage_fed list (part_.Size p r) t = size list p r t

-- the next token of parameters
unfoldable pub feed_parameters : Parameters → Token → Parametric
feed_parameters ps t = stage_fed ps.list ps.stage t
