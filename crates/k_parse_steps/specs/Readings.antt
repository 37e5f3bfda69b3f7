-- Believed with a public law.
-- How an expression is read up to the mark that closes it.
use Rattle.std.specs.Prelude.{Bool, true, false, ◌&&◌, cond, nat_eq, length, Some, None}
use Rattle.k_parse_steps.specs.Types.{Token, Mark, ExpressionStage, Reading, Fed, Read, Maybe, Closer}
use Rattle.k_tree.specs.declared.tokens.mark.Mark.TheVariants as mark
use Rattle.k_parse_steps.specs.declared.expression.ExpressionStage.TheVariants as now
use Rattle.k_parse_steps.specs.declared.turn.Turn.TheVariants as turn
use Rattle.k_parse_steps.specs.Expressions.{feed}
use Rattle.k_parse_steps.specs.Tokens.{token_is_mark}
use Rattle.k_parse_steps.specs.declared.reading.Closer.TheVariants as closer

-- the mark that closes an expression
abbrev pub closing : Closer → Mark
closing closer.Bracket = mark.RightBracket
closing closer.Paren = mark.RightParen
closing closer.Semicolon = mark.Semicolon
closing closer.Colon = mark.Colon

-- is a token the mark that closes an expression?
unfoldable pub closes : Token → Closer → Bool
closes t c = token_is_mark t.what (closing c)

-- is it the stage where an operand begins?
abbrev pub is_operand : ExpressionStage → Bool
is_operand now.Operand = true
is_operand _ = false

-- has nothing been read yet?
unfoldable pub is_fresh : Reading → Bool
is_fresh r = is_operand r.stage && nat_eq (length r.opens) 0

-- the expression goes on, or it ended before the token, which must be the mark that closes it
abbrev pub read_by : Fed → Bool → Read
read_by (turn.Goes r reach) closed = turn.Goes r reach
read_by (turn.Done value) closed = cond closed (turn.Done value) turn.Refused
read_by turn.Refused closed = turn.Refused

-- the next token of an expression up to a mark
unfoldable pub read_needed : Reading → Token → Closer → Read
read_needed r t c = read_by (feed r t) (closes t c)

-- what a token does in an expression that was not left out
abbrev pub maybe_by : Read → Maybe
maybe_by (turn.Goes r reach) = turn.Goes r reach
maybe_by (turn.Done value) = turn.Done (Some value)
maybe_by turn.Refused = turn.Refused

-- the next token of an expression that may be left out, up to a mark
unfoldable pub read_maybe : Reading → Token → Closer → Maybe
read_maybe r t c = cond (is_fresh r && closes t c) (turn.Done None) (maybe_by (read_needed r t c))
