-- Believed with a public law.
-- How a declaration is read, token by token, from behind its first specifier (C17 6.7).
use Rattle.std.specs.Prelude.{ℕ, cond, nat_eq, List, [], ◌∷◌, ◌++◌, length, Option, Some, None}
use Rattle.k_parse_steps.specs.Types.{Place, Token, TokenKind, Mark, Word, Expr, Declarator, Stars, Reading, Fed, Maybe, Opened, After, Front, DeclarationStage, Declaration, Declared}
use Rattle.k_tree.specs.declared.tokens.TokenKind.TheVariants as token
use Rattle.k_tree.specs.declared.tokens.mark.Mark.TheVariants as mark
use Rattle.k_tree.specs.declared.tree.declaration.Init.TheVariants as init
use Rattle.k_parse_steps.specs.Level.{plus}
use Rattle.k_parse_steps.specs.Stars.{no_stars, all_stars, star, type_word}
use Rattle.k_parse_steps.specs.Expressions.{begin, feed}
use Rattle.k_parse_steps.specs.declared.turn.Turn.TheVariants as turn
use Rattle.k_parse_steps.specs.Readings.{read_maybe}
use Rattle.k_parse_steps.specs.declared.reading.Closer.TheVariants as closer
use Rattle.k_parse_steps.specs.Initialisers as inits
use Rattle.k_parse_steps.specs.declared.declaration.initialiser.After.TheVariants as after_
use Rattle.k_parse_steps.specs.declared.declaration.DeclarationStage.TheVariants as stage
use Rattle.k_parse_steps.specs.Tokens.{is_mark}

-- a declaration with this front, of which the reading stands at this stage
abbrev pub declaration_at : Front → DeclarationStage → Declaration
declaration_at f s = record { front = f; stage = s }

-- the declaration goes on at this stage, and the token makes sure that a node lies at this level
abbrev pub declares : Front → DeclarationStage → ℕ → Declared
declares f s reach = turn.Goes (declaration_at f s) reach

-- what stands before a declarator: the specifiers, the declarators so far, and the level of a node in a declarator
abbrev pub front_of : List Word → List Declarator → ℕ → Front
front_of specs list level = record { specs = specs; list = list; level = level }

-- a declaration whose first specifier was read
abbrev pub begin_declaration : Word → ℕ → Declaration
begin_declaration w level = declaration_at (front_of (w ∷ []) [] level) (stage.Before no_stars)

-- the declaration goes on with these specifiers and stars, or the word can't stand there
abbrev pub word_by : Front → Option (List Word × Stars) → Declared
word_by f (Some (specs, stars)) = declares (front_of specs f.list f.level) (stage.Before stars) 0
word_by f None = turn.Refused

-- a word before the name of a declarator: `const` behind a star, or one more specifier before the first star (C17 6.7.2, 6.7.6.1)
unfoldable pub word : Front → Stars → Word → Declared
word f stars w = word_by f (type_word f.specs stars (nat_eq (length f.list) 0) w)

-- the name of a declarator: behind it, a dimension or an initialiser may come (C17 6.7.6)
unfoldable pub name : Front → Stars → List ℕ → Place → Declared
name f stars x p =
    declares f (stage.Named (record { place = p; stars = all_stars stars; name = x; dims = []; init = None })) 0

-- a mark before the name of a declarator: only one more star can stand there (C17 6.7.6.1)
unfoldable pub mark_before : Front → Stars → Mark → Declared
mark_before f stars mark.Star = declares f (stage.Before (star stars)) 0
mark_before f stars _ = turn.Refused

-- a token of this kind before the name of a declarator: a word, the name, or a star
abbrev pub kind_before : Front → Stars → Place → TokenKind → Declared
kind_before f stars p (token.Word w) = word f stars w
kind_before f stars p (token.Name x) = name f stars x p
kind_before f stars p (token.Mark m) = mark_before f stars m
kind_before f stars p _ = turn.Refused

-- a token before the name of a declarator
unfoldable pub before : Front → Stars → Token → Declared
before f stars t = kind_before f stars t.place t.what

-- the mark behind a declarator
unfoldable pub end : Front → Declarator → Mark → Declared
end f d mark.Comma = declares (front_of f.specs (f.list ++ d ∷ []) f.level) (stage.Before no_stars) 0
end f d mark.Semicolon = turn.Done (f.specs, f.list ++ d ∷ [])
end f d _ = turn.Refused

-- a mark behind the name of a declarator, or behind a dimension
unfoldable pub named : Front → Declarator → Mark → Declared
named f d m =
    cond (is_mark m mark.LeftBracket) (declares f (stage.Size d (begin 2 f.level)) 0)
    (cond (is_mark m mark.Equal) (declares f (stage.Starts d []) (plus f.level 1)) (end f d m))

-- a token of this kind behind the name of a declarator, or behind a dimension: only a mark can stand there
abbrev pub kind_named : Front → Declarator → TokenKind → Declared
kind_named f d (token.Mark m) = named f d m
kind_named f d _ = turn.Refused

-- a declarator with one more dimension, of which the size may be left out (C17 6.7.6.2)
abbrev pub sized : Declarator → Option Expr → Declarator
sized d size = record d { dims = d.dims ++ size ∷ [] }

-- the dimension goes on, or its `]` was read and the declarator has it, or the token can't stand there
abbrev pub size_by : Front → Declarator → Maybe → Declared
size_by f d (turn.Goes r reach) = declares f (stage.Size d r) reach
size_by f d (turn.Done value) = declares f (stage.Named (sized d value)) 0
size_by f d turn.Refused = turn.Refused

-- a token in a dimension
unfoldable pub size : Front → Declarator → Reading → Token → Declared
size f d r t = size_by f d (read_maybe r t closer.Bracket)

-- a mark behind an initialiser: one more begins, a brace closes, or the declarator has ended before it
abbrev pub after_by : Front → After → Mark → Declared
after_by f (after_.Starts o) m = declares f (stage.Starts o.declarator o.braces) 0
after_by f (after_.Closed o) m = declares f (stage.After o.declarator o.braces) 0
after_by f (after_.Done d) m = end f d m
after_by f after_.Refused m = turn.Refused

-- a token of this kind behind an initialiser: only a mark can stand there
abbrev pub kind_after : Front → Opened → TokenKind → Declared
kind_after f o (token.Mark m) = after_by f (inits.after o m) m
kind_after f o _ = turn.Refused

-- the token behind an initialiser
unfoldable pub after : Front → Opened → Token → Declared
after f o t = kind_after f o t.what

-- the level of an initialiser that begins in the braces that are open
abbrev pub inner_level : Front → Opened → ℕ
inner_level f o = plus f.level (length o.braces)

-- `{` where an initialiser begins: a list of initialisers opens (C17 6.7.9)
unfoldable pub brace : Front → Opened → Place → Declared
brace f o p = declares f (stage.Starts o.declarator (record { place = p; items = [] } ∷ o.braces)) (plus (inner_level f o) 2)

-- `}` behind a comma closed a brace, or it can't stand there
abbrev pub last_comma_by : Front → Option Opened → Declared
last_comma_by f None = turn.Refused
last_comma_by f (Some o) = declares f (stage.After o.declarator o.braces) 0

-- a closing brace behind a comma
unfoldable pub last_comma : Front → Opened → Declared
last_comma f o = last_comma_by f (inits.last_comma o)

-- an expression that is an initialiser began, or the token can't stand there
abbrev pub first_by : Front → Opened → Place → Fed → Declared
first_by f o p (turn.Goes r reach) = declares f (stage.Value o.declarator o.braces p r) reach
first_by f o p (turn.Done value) = turn.Refused
first_by f o p turn.Refused = turn.Refused

-- the first token of an expression that is an initialiser
unfoldable pub first_token : Front → Opened → Token → Declared
first_token f o t = first_by f o t.place (feed (begin 1 (plus (inner_level f o) 1)) t)

-- a mark where an initialiser begins: `{`, `}` behind a comma, or the first token of an expression (C17 6.7.9)
unfoldable pub mark_starts : Front → Opened → Token → Mark → Declared
mark_starts f o t m =
    cond (is_mark m mark.LeftBrace) (brace f o t.place) (cond (is_mark m mark.RightBrace) (last_comma f o) (first_token f o t))

-- a token of this kind where an initialiser begins: a mark, or the first token of an expression
abbrev pub kind_starts : Front → Opened → Token → TokenKind → Declared
kind_starts f o t (token.Mark m) = mark_starts f o t m
kind_starts f o t k = first_token f o t

-- a token where an initialiser begins
unfoldable pub starts : Front → Opened → Token → Declared
starts f o t = kind_starts f o t t.what

-- the expression goes on, or it ended before the token and is the initialiser, or the token can't stand there
abbrev pub value_by : Front → Opened → Place → Fed → Token → Declared
value_by f o p (turn.Goes r reach) t = declares f (stage.Value o.declarator o.braces p r) reach
value_by f o p (turn.Done value) t = after f (inits.plug o (init.One p value)) t
value_by f o p turn.Refused t = turn.Refused

-- a token in an expression that is an initialiser
unfoldable pub value : Front → Opened → Place → Reading → Token → Declared
value f o p r t = value_by f o p (feed r t) t

-- the next token of a declaration, at each stage of its reading
abbrev pub stage_fed : Front → DeclarationStage → Token → Declared
stage_fed f (stage.Before stars) t = before f stars t
stage_fed f (stage.Named d) t = kind_named f d t.what
stage_fed f (stage.Size d r) t = size f d r t
stage_fed f (stage.Starts d s) t = starts f (inits.opened d s) t
stage_fed f (stage.Value d s p r) t = value f (inits.opened d s) p r t
stage_fed f (stage.After d s) t = after f (inits.opened d s) t

-- the next token of a declaration
unfoldable pub feed_declaration : Declaration → Token → Declared
feed_declaration d t = stage_fed d.front d.stage t
