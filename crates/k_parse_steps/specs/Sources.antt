-- Believed with a public law.
-- How a source is read, token by token (C17 6.9).
use Rattle.std.specs.Prelude.{ℕ, Bool, false, ◌&&◌, cond, nat_eq, List, [], ◌∷◌, ◌++◌, length}
use Rattle.k_parse_steps.specs.Types.{Place, Token, TokenKind, Mark, Declarator, Params, Head, Item, Front, DeclarationStage, Declaration, Declared, Parameters, Parametric, Body, Stepped, Title, SourceStage, Source, Sourced}
use Rattle.k_tree.specs.declared.tokens.TokenKind.TheVariants as token
use Rattle.k_tree.specs.declared.tokens.mark.Mark.TheVariants as mark
use Rattle.k_tree.specs.declared.tree.unit.Item.TheVariants as item
use Rattle.k_parse_steps.specs.Operators.{is_spec_word}
use Rattle.k_parse_steps.specs.Declarations.{begin_declaration, feed_declaration}
use Rattle.k_parse_steps.specs.declared.declaration.DeclarationStage.TheVariants as stage
use Rattle.k_parse_steps.specs.declared.turn.Turn.TheVariants as turn
use Rattle.k_parse_steps.specs.Parameters.{begin_parameters, feed_parameters}
use Rattle.k_parse_steps.specs.Statements.{begin_body, feed_body}
use Rattle.k_parse_steps.specs.declared.source.SourceStage.TheVariants as phase
use Rattle.k_parse_steps.specs.Tokens.{token_is_mark}

-- the source goes on at this stage, and the token makes sure that a node lies at this level
abbrev pub goes_on : List Item → SourceStage → ℕ → Sourced
goes_on items p reach = turn.Goes (record { items = items; stage = p }) reach

-- nothing was read yet
abbrev pub begin_source : Source
begin_source = record { items = []; stage = phase.Starts }

-- one more item was read to its end, and the next one begins (C17 6.9)
abbrev pub item_done : List Item → Item → Sourced
item_done items i = goes_on (items ++ i ∷ []) phase.Starts 0

-- a token of this kind where an item begins: the end of the source, or the first specifier of a declaration or a function
abbrev pub kind_starts : List Item → Place → TokenKind → Sourced
kind_starts items p token.End = turn.Done (record { items = items; end = p })
kind_starts items p (token.Word w) = cond (is_spec_word w) (goes_on items (phase.Declares p (begin_declaration w 1)) 0) turn.Refused
kind_starts items p _ = turn.Refused

-- a token where an item begins
unfoldable pub starts : List Item → Token → Sourced
starts items t = kind_starts items t.place t.what

-- is it the stage right behind the name of the first declarator, before any dimension?
abbrev pub titled_by : Front → DeclarationStage → Bool
titled_by f (stage.Named d) = nat_eq (length f.list) 0 && nat_eq (length d.dims) 0
titled_by f _ = false

-- was just the name of the first declarator read?
unfoldable pub is_titled : Declaration → Bool
is_titled d = titled_by d.front d.stage

-- the head of a function without its parameters, from the specifiers and the declarator that were read
abbrev pub title_of : Front → Declarator → Title
title_of f d = record { specs = f.specs; stars = d.stars; name = d.name; name_place = d.place }

-- `(` behind the name of the first declarator: the parameters of a function begin (C17 6.7.6.3)
abbrev pub titled_at : List Item → Place → Front → DeclarationStage → Sourced
titled_at items p f (stage.Named d) = goes_on items (phase.Parameters p (title_of f d) begin_parameters) 0
titled_at items p f _ = turn.Refused

-- `(` in an item of which just the name of the first declarator was read: it is a function
unfoldable pub titled : List Item → Place → Declaration → Sourced
titled items p d = titled_at items p d.front d.stage

-- the declaration goes on, or its semicolon was read and it is an item, or the token can't stand there (C17 6.9.2)
abbrev pub declares_by : List Item → Place → Declared → Sourced
declares_by items p (turn.Goes d reach) = goes_on items (phase.Declares p d) reach
declares_by items p (turn.Done (specs, list)) = item_done items (item.Objects p specs list)
declares_by items p turn.Refused = turn.Refused

-- a token in an item that may be a declaration or a function
unfoldable pub declares : List Item → Place → Declaration → Token → Sourced
declares items p d t =
    cond (token_is_mark t.what mark.LeftParen && is_titled d) (titled items p d) (declares_by items p (feed_declaration d t))

-- the head of a function with its parameters
abbrev pub head_of : Title → Params → Head
head_of t ps = record { specs = t.specs; stars = t.stars; name = t.name; name_place = t.name_place; params = ps }

-- the parameters go on, or their `)` was read and the head is done, or the token can't stand there
abbrev pub parameters_by : List Item → Place → Title → Parametric → Sourced
parameters_by items p t (turn.Goes ps reach) = goes_on items (phase.Parameters p t ps) reach
parameters_by items p t (turn.Done ps) = goes_on items (phase.Headed p (head_of t ps)) 0
parameters_by items p t turn.Refused = turn.Refused

-- a token in the parameters of a function (C17 6.7.6.3)
unfoldable pub parameters : List Item → Place → Title → Parameters → Token → Sourced
parameters items p title ps t = parameters_by items p title (feed_parameters ps t)

-- the mark behind the head of a function: `;` makes it a prototype, `{` begins the block (C17 6.9.1)
unfoldable pub mark_headed : List Item → Place → Head → Mark → Sourced
mark_headed items p h mark.Semicolon = item_done items (item.Prototype p h)
mark_headed items p h mark.LeftBrace = goes_on items (phase.Body p h begin_body) 0
mark_headed items p h _ = turn.Refused

-- a token of this kind behind the head of a function: only a mark can stand there
abbrev pub kind_headed : List Item → Place → Head → TokenKind → Sourced
kind_headed items p h (token.Mark m) = mark_headed items p h m
kind_headed items p h _ = turn.Refused

-- the token behind the head of a function
unfoldable pub headed : List Item → Place → Head → Token → Sourced
headed items p h t = kind_headed items p h t.what

-- the block goes on, or its `}` was read and the function is an item, or the token can't stand there
abbrev pub body_by : List Item → Place → Head → Place → Stepped → Sourced
body_by items p h q (turn.Goes b reach) = goes_on items (phase.Body p h b) reach
body_by items p h q (turn.Done parts) = item_done items (item.Function p h parts q)
body_by items p h q turn.Refused = turn.Refused

-- a token in the block of a function
unfoldable pub in_body : List Item → Place → Head → Body → Token → Sourced
in_body items p h b t = body_by items p h t.place (feed_body b t)

-- the next token of a source, at each stage of its reading
abbrev pub stage_fed : List Item → SourceStage → Token → Sourced
stage_fed items phase.Starts t = starts items t
stage_fed items (phase.Declares p d) t = declares items p d t
stage_fed items (phase.Parameters p title ps) t = parameters items p title ps t
stage_fed items (phase.Headed p h) t = headed items p h t
stage_fed items (phase.Body p h b) t = in_body items p h b t

-- the next token of a source
unfoldable pub feed_source : Source → Token → Sourced
feed_source s t = stage_fed s.items s.stage t
