-- Believed with a public law.
-- How an expression is read, token by token (C17 6.5).
use Rattle.std.specs.Prelude.{ℕ, zero, suc, Bool, true, false, ◌&&◌, cond, nat_le, nat_eq, max, List, [], ◌∷◌, ◌++◌, length, Option, Some, None}
use Rattle.k_parse_steps.specs.Types.{Place, Token, TokenKind, Mark, Word, Expr, Stars, Term, Open, ExpressionStage, Site, Reading, Fed, Plugged, Called}
use Rattle.k_tree.specs.declared.tokens.TokenKind.TheVariants as token
use Rattle.k_tree.specs.declared.tokens.mark.Mark.TheVariants as mark
use Rattle.k_tree.specs.declared.tokens.word.Word.TheVariants as word
use Rattle.k_tree.specs.declared.tree.expression.Expr.TheVariants as expr
use Rattle.k_num.specs.Top.{top}
use Rattle.k_parse_steps.specs.Level.{plus, above}
use Rattle.k_parse_steps.specs.Operators.{own_rank, right_rank, takes, is_prefix_mark, is_step_mark, is_spec_word}
use Rattle.k_parse_steps.specs.Stars.{no_stars, all_stars, star, type_word}
use Rattle.k_parse_steps.specs.declared.expression.Open.TheVariants as open_
use Rattle.k_parse_steps.specs.declared.expression.ExpressionStage.TheVariants as now
use Rattle.k_parse_steps.specs.declared.turn.Turn.TheVariants as turn
use Rattle.k_parse_steps.specs.declared.expression.plug.Plugged.TheVariants as plugged
use Rattle.k_parse_steps.specs.Tokens.{is_mark, is_word, token_is_mark}

-- the constructs of which an operand is awaited, the innermost first
abbrev pub Opens : Type 0
Opens = List Open

-- the reading goes on at this stage, and the token makes sure that a node lies at this level
abbrev pub goes : Site → Opens → ExpressionStage → ℕ → Fed
goes g s n reach = turn.Goes (record { site = g; opens = s; stage = n }) reach

-- the level of a node in the innermost open construct
abbrev pub level : Site → Opens → ℕ
level g s = plus g.level (length s)

-- the least rank of an operand behind a prefix operator: that of a unary expression for `++` and `--`, else that of a cast (C17 6.5.3)
unfoldable pub prefix_rank : Mark → ℕ
prefix_rank op = cond (is_step_mark op) 14 13

-- the least rank of the operand that this construct awaits; where none is open, that of the whole expression
abbrev pub hole_of : ℕ → Option Open → ℕ
hole_of rank None = rank
hole_of rank (Some (open_.Infix place op left)) = right_rank op
hole_of rank (Some (open_.Then place test)) = 0
hole_of rank (Some (open_.Other place test chosen)) = 2
hole_of rank (Some (open_.Cast place specs stars)) = 13
hole_of rank (Some (open_.Prefix place op)) = prefix_rank op
hole_of rank (Some (open_.Sizeof place)) = 14
hole_of rank (Some (open_.Paren place)) = 0
hole_of rank (Some (open_.Index place base)) = 0
hole_of rank (Some (open_.Call place name args height)) = 1

-- the least rank of an operand in the innermost open construct
unfoldable pub hole : Site → Opens → ℕ
hole g s = hole_of g.rank (top s)

-- an expression that was read, with its rank and how many levels it has
abbrev pub term : Expr → ℕ → ℕ → Term
term tree rank height = record { tree = tree; rank = rank; height = height }

-- the reading stands behind this operand, and the token makes no level sure
abbrev pub valued : Site → Opens → Term → Fed
valued g s t = goes g s (now.Value t) 0

-- an operand of one token
abbrev pub leaf : Site → Opens → Expr → Fed
leaf g s tree = goes g s (now.Value (term tree 16 1)) (level g s)

-- is it a `sizeof` that awaits its operand?
abbrev pub is_sizeof_open : Option Open → Bool
is_sizeof_open (Some (open_.Sizeof place)) = true
is_sizeof_open _ = false

-- `(` before an operand
unfoldable pub opened : Site → Opens → Place → Fed
opened g s p = goes g (open_.Paren p ∷ s) now.Operand (cond (is_sizeof_open (top s)) 0 (plus (level g s) 1))

-- `)` where an operand is awaited: only that of a call without arguments can stand there (C17 6.5.2.2)
unfoldable pub no_arguments : Site → Opens → Fed
no_arguments g [] = turn.Refused
no_arguments g (open_.Call place name args height ∷ s) =
    cond (nat_eq (length args) 0) (valued g s (term (expr.Call place name args) 15 1)) turn.Refused
no_arguments g (_ ∷ s) = turn.Refused

-- an operator before its operand (C17 6.5.3)
unfoldable pub prefix_operator : Site → Opens → Mark → Place → Fed
prefix_operator g s op p = goes g (open_.Prefix p op ∷ s) now.Operand (plus (level g s) 1)

-- a mark where an operand begins: `(`, the `)` of a call without arguments, or a prefix operator
unfoldable pub mark_operand : Site → Opens → Mark → Place → Fed
mark_operand g s m p =
    cond (is_mark m mark.LeftParen) (opened g s p)
    (cond (is_mark m mark.RightParen) (no_arguments g s) (cond (is_prefix_mark m) (prefix_operator g s m p) turn.Refused))

-- does `(` stand before a token that begins a type?
unfoldable pub is_before_type : Site → Opens → Bool
is_before_type g [] = false
is_before_type g (open_.Paren place ∷ s) = cond (is_sizeof_open (top s)) true (nat_le (hole g s) 13)
is_before_type g (_ ∷ s) = false

-- the first word of the name of a type was read (C17 6.7.7)
abbrev pub type_begun : Site → Opens → Word → Fed
type_begun g s w = goes g s (now.Type (w ∷ []) no_stars) 0

-- a word where an operand begins: `sizeof`, or behind `(` the first word of the name of a type (C17 6.5.3.4, 6.5.4)
unfoldable pub word_operand : Site → Opens → Word → Place → Fed
word_operand g s w p =
    cond (is_word w word.Sizeof) (goes g (open_.Sizeof p ∷ s) now.Operand (level g s))
    (cond (is_spec_word w && is_before_type g s) (type_begun g s w) turn.Refused)

-- a token of this kind where an operand begins: a name, a constant, a string, a mark or a word (C17 6.5.1)
abbrev pub operand_at : Site → Opens → Place → TokenKind → Fed
operand_at g s p (token.Name name) = goes g s (now.Named p name) (level g s)
operand_at g s p (token.Number kind value) = leaf g s (expr.Number p kind value)
operand_at g s p (token.Char value) = leaf g s (expr.Char p value)
operand_at g s p (token.Str bytes) = leaf g s (expr.Str p bytes)
operand_at g s p (token.Mark m) = mark_operand g s m p
operand_at g s p (token.Word w) = word_operand g s w p
operand_at g s p token.End = turn.Refused

-- the first token of an operand
unfoldable pub operand : Site → Opens → Token → Fed
operand g s t = operand_at g s t.place t.what

-- a type in parentheses was read that is that of a cast, and the operand of the cast is awaited (C17 6.5.4)
abbrev pub cast_opened : Site → Opens → Open → Fed
cast_opened g s o = goes g (o ∷ s) now.Operand 0

-- a type in parentheses was read: behind `sizeof` it is the operand of that, else a cast (C17 6.5.3.4, 6.5.4)
unfoldable pub close_over : Site → Opens → Place → List Word → List Bool → Fed
close_over g [] p specs stars = cast_opened g [] (open_.Cast p specs stars)
close_over g (open_.Sizeof q ∷ s) p specs stars = valued g s (term (expr.SizeofType q specs stars) 14 1)
close_over g (o ∷ s) p specs stars = cast_opened g (o ∷ s) (open_.Cast p specs stars)

-- the closing parenthesis of a type
unfoldable pub close_type : Site → Opens → List Word → Stars → Fed
close_type g [] specs stars = turn.Refused
close_type g (open_.Paren p ∷ s) specs stars = close_over g s p specs (all_stars stars)
close_type g (_ ∷ s) specs stars = turn.Refused

-- the name of the type goes on with these specifiers and stars, or the word can't stand there
abbrev pub type_by : Site → Opens → Option (List Word × Stars) → Fed
type_by g s (Some (specs, stars)) = goes g s (now.Type specs stars) 0
type_by g s None = turn.Refused

-- a word in the name of a type: `const` behind a star, or one more specifier before the first star (C17 6.7.7)
unfoldable pub word_of_type : Site → Opens → List Word → Stars → Word → Fed
word_of_type g s specs stars w = type_by g s (type_word specs stars true w)

-- a mark in the name of a type: one more star, or the closing parenthesis (C17 6.7.7)
unfoldable pub mark_of_type : Site → Opens → List Word → Stars → Mark → Fed
mark_of_type g s specs stars mark.Star = goes g s (now.Type specs (star stars)) 0
mark_of_type g s specs stars mark.RightParen = close_type g s specs stars
mark_of_type g s specs stars _ = turn.Refused

-- a token of this kind in the name of a type: only a word or a mark can stand there
abbrev pub in_type_at : Site → Opens → List Word → Stars → TokenKind → Fed
in_type_at g s specs stars (token.Word w) = word_of_type g s specs stars w
in_type_at g s specs stars (token.Mark m) = mark_of_type g s specs stars m
in_type_at g s specs stars _ = turn.Refused

-- a token in the name of a type
unfoldable pub in_type : Site → Opens → List Word → Stars → Token → Fed
in_type g s specs stars t = in_type_at g s specs stars t.what

-- the tree of an operator of this rank with both its operands: a comma, an assignment or a binary operator
abbrev pub infix_tree : ℕ → Place → Mark → Expr → Expr → Expr
infix_tree zero p op a b = expr.Comma p a b
infix_tree (suc zero) p op a b = expr.Assign p op a b
infix_tree (suc (suc n)) p op a b = expr.Binary p op a b

-- an operator between operands that were both read, as an operand (C17 6.5.5 to 6.5.14, 6.5.16, 6.5.17)
unfoldable pub infix_made : Place → Mark → Term → Term → Term
infix_made p op a b = term (infix_tree (own_rank op) p op a.tree b.tree) (own_rank op) (above a.height b.height)

-- `test ? then : other` that was read to its end, as an operand (C17 6.5.15)
abbrev pub conditional : Place → Term → Term → Term → Term
conditional p a b c = term (expr.Cond p a.tree b.tree c.tree) 2 (above a.height (max b.height c.height))

-- a prefix operator with its operand, as an operand (C17 6.5.3)
unfoldable pub prefixed : Place → Mark → Term → Term
prefixed p op a = term (cond (is_step_mark op) (expr.Pre p op a.tree) (expr.Unary p op a.tree)) 14 (above a.height 0)

-- an operand with `++` or `--` behind it, as an operand (C17 6.5.2.4)
abbrev pub posted : Place → Mark → Term → Term
posted p op a = term (expr.Post p op a.tree) 15 (above a.height 0)

-- an expression in parentheses, as an operand (C17 6.5.1)
abbrev pub enclosed : Place → Term → Term
enclosed p a = term (expr.Paren p a.tree) 16 (above a.height 0)

-- `base [ index ]`, as an operand (C17 6.5.2.1)
abbrev pub indexed : Place → Term → Term → Term
indexed p a b = term (expr.Index p a.tree b.tree) 15 (above a.height b.height)

-- an operand put into the construct that awaits it
unfoldable pub plug : Open → Term → Plugged
plug (open_.Infix p op a) b = plugged.Whole (infix_made p op a b)
plug (open_.Other p a b) c = plugged.Whole (conditional p a b c)
plug (open_.Cast p specs stars) a = plugged.Whole (term (expr.Cast p specs stars a.tree) 13 (above a.height 0))
plug (open_.Prefix p op) a = plugged.Whole (prefixed p op a)
plug (open_.Sizeof p) a = plugged.Whole (term (expr.SizeofExpr p a.tree) 14 (above a.height 0))
plug o a = plugged.Part o a

-- the construct that an operator opens behind its left operand: an index, a conditional, or one with an operator between operands
abbrev pub operator_opens : Mark → Term → Place → Open
operator_opens op a p =
    cond (is_mark op mark.LeftBracket) (open_.Index p a) (cond (is_mark op mark.Question) (open_.Then p a) (open_.Infix p op a))

-- an operator goes on with an operand
unfoldable pub take_operator : Site → Opens → Term → Mark → Place → Fed
take_operator g s a op p =
    cond (is_step_mark op) (goes g s (now.Value (posted p op a)) (plus (level g s) a.height))
    (goes g (operator_opens op a p ∷ s) now.Operand (plus (level g s) a.height))

-- `:` behind `test ? then`: the last operand of the conditional is awaited (C17 6.5.15)
abbrev pub colon : Site → Opens → Place → Term → Term → Fed
colon g s p a b = goes g (open_.Other p a b ∷ s) now.Operand 0

-- the mark behind an argument
unfoldable pub argued : Site → Opens → Called → Mark → Fed
argued g s c mark.Comma = goes g (open_.Call c.place c.name c.args c.height ∷ s) now.Operand 0
argued g s c mark.RightParen = valued g s (term (expr.Call c.place c.name c.args) 15 (plus c.height 1))
argued g s c _ = turn.Refused

-- the mark behind `test ? then`: only `:` can stand there
unfoldable pub then_ends : Site → Opens → Place → Term → Term → Mark → Fed
then_ends g s p a b mark.Colon = colon g s p a b
then_ends g s p a b _ = turn.Refused

-- the mark behind an expression in parentheses: only `)` can stand there
unfoldable pub paren_ends : Site → Opens → Place → Term → Mark → Fed
paren_ends g s p a mark.RightParen = valued g s (enclosed p a)
paren_ends g s p a _ = turn.Refused

-- the mark behind `base [ index`: only `]` can stand there
unfoldable pub index_ends : Site → Opens → Place → Term → Term → Mark → Fed
index_ends g s p a b mark.RightBracket = valued g s (indexed p a b)
index_ends g s p a b _ = turn.Refused

-- the construct around a value goes on with the mark behind it
unfoldable pub enclose : Site → Opens → Open → Term → Mark → Fed
enclose g s (open_.Then p a) b m = then_ends g s p a b m
enclose g s (open_.Paren p) a m = paren_ends g s p a m
enclose g s (open_.Index p a) b m = index_ends g s p a b m
enclose g s (open_.Call p name args height) a m =
    argued g s (record { place = p; name = name; args = args ++ a.tree ∷ []; height = max height a.height }) m
enclose g s o a m = turn.Refused

-- a token of this kind behind a value in a construct that awaits a mark there
abbrev pub enclose_by : Site → Opens → Open → Term → TokenKind → Fed
enclose_by g s o a (token.Mark m) = enclose g s o a m
enclose_by g s o a _ = turn.Refused

-- is the token an operator that takes a value of this rank as its left operand, in a place that takes the first rank or a higher one?
abbrev pub takes_token : ℕ → ℕ → TokenKind → Bool
takes_token k rank (token.Mark m) = takes k rank m
takes_token k rank _ = false

-- a token that is an operator takes the value before it as its left operand
abbrev pub take_token : Site → Opens → Term → TokenKind → Place → Fed
take_token g s a (token.Mark m) p = take_operator g s a m p
take_token g s a _ p = turn.Refused

-- a construct that is whole is a value before the same token; one that still lacks a mark gets the token
abbrev pub closed_by : Site → Opens → Plugged → TokenKind → (Term → Fed) → Fed
closed_by g s (plugged.Whole a) t again = again a
closed_by g s (plugged.Part o a) t again = enclose_by g s o a t

-- the token behind an operand
unfoldable pub value : Site → Opens → Term → Token → Fed
value g [] a t = cond (takes_token (hole g []) a.rank t.what) (take_token g [] a t.what t.place) (turn.Done a.tree)
value g (o ∷ s) a t =
    cond (takes_token (hole g (o ∷ s)) a.rank t.what) (take_token g (o ∷ s) a t.what t.place)
    (closed_by g s (plug o a) t.what (λ b. value g s b t))

-- the token behind a name
unfoldable pub named : Site → Opens → Place → List ℕ → Token → Fed
named g s p name t =
    cond (token_is_mark t.what mark.LeftParen) (goes g (open_.Call p name [] 0 ∷ s) now.Operand 0)
    (value g s (term (expr.Name p name) 16 1) t)

-- the next token of an expression, at each stage of its reading
abbrev pub stage_fed : Site → Opens → ExpressionStage → Token → Fed
stage_fed g s now.Operand t = operand g s t
stage_fed g s (now.Named p name) t = named g s p name t
stage_fed g s (now.Type specs stars) t = in_type g s specs stars t
stage_fed g s (now.Value a) t = value g s a t

-- the next token of an expression
unfoldable pub feed : Reading → Token → Fed
feed r t = stage_fed r.site r.opens r.stage t

-- an expression begins
abbrev pub begin : ℕ → ℕ → Reading
begin rank level = record { site = record { rank = rank; level = level }; opens = []; stage = now.Operand }
