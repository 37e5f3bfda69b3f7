-- Believed with a public law.
-- How the block of a function is read, token by token, from behind its opening brace (C17 6.8).
use Rattle.std.specs.Prelude.{ℕ, Bool, true, false, ◌&&◌, cond, List, [], ◌∷◌, ◌++◌, length, Option, Some, None}
use Rattle.k_parse_steps.specs.Types.{Place, Token, TokenKind, Mark, Word, Expr, First, Stmt, Part, Reading, Fed, Read, Maybe, Declaration, Declared, Frame, Tested, BlockStage, Body, Stepped, Fitted}
use Rattle.k_tree.specs.declared.tokens.TokenKind.TheVariants as token
use Rattle.k_tree.specs.declared.tokens.mark.Mark.TheVariants as mark
use Rattle.k_tree.specs.declared.tokens.word.Word.TheVariants as word
use Rattle.k_tree.specs.declared.tree.statement.First.TheVariants as first
use Rattle.k_tree.specs.declared.tree.statement.Stmt.TheVariants as stmt
use Rattle.k_tree.specs.declared.tree.statement.Part.TheVariants as part_
use Rattle.k_tree.specs.Places.{stmt_place}
use Rattle.k_parse_steps.specs.Operators.{is_spec_word}
use Rattle.k_num.specs.Top.{top}
use Rattle.k_parse_steps.specs.Level.{plus}
use Rattle.k_parse_steps.specs.Expressions.{begin, feed}
use Rattle.k_parse_steps.specs.declared.turn.Turn.TheVariants as turn
use Rattle.k_parse_steps.specs.Readings.{closes, is_fresh, read_needed, read_maybe}
use Rattle.k_parse_steps.specs.declared.reading.Closer.TheVariants as closer
use Rattle.k_parse_steps.specs.Declarations.{begin_declaration, feed_declaration}
use Rattle.k_parse_steps.specs.declared.statement.Frame.TheVariants as frame
use Rattle.k_parse_steps.specs.declared.statement.Tested.TheVariants as tested
use Rattle.k_parse_steps.specs.declared.statement.BlockStage.TheVariants as step
use Rattle.k_parse_steps.specs.declared.statement.clause.Fitted.TheVariants as closed
use Rattle.k_parse_steps.specs.Tokens.{is_mark, is_word, token_is_mark, token_is_word}

-- statements of a block, in their order
abbrev pub Parts : Type 0
Parts = List Stmt

-- the constructs that are open around a statement, the innermost first
abbrev pub Frames : Type 0
Frames = List Frame

-- the block goes on at this stage, and the token makes sure that a node lies at this level
abbrev pub steps : Parts → Frames → BlockStage → ℕ → Stepped
steps ps s n reach = turn.Goes (record { parts = ps; frames = s; stage = n }) reach

-- this statement was read to its end
abbrev pub whole : Parts → Frames → Stmt → Stepped
whole ps s x = steps ps s (step.Whole x) 0

-- this construct opens and awaits a statement, and the token makes sure that a node lies at this level
abbrev pub await_part : Parts → Frames → Frame → ℕ → Stepped
await_part ps s f reach = steps ps (f ∷ s) step.Begins reach

-- the level of a statement that begins
abbrev pub level : Frames → ℕ
level s = plus 1 (length s)

-- the level of a node in a statement that begins
abbrev pub inner : Frames → ℕ
inner s = plus (level s) 1

-- the opening brace was read, and no statement yet
abbrev pub begin_body : Body
begin_body = record { parts = []; frames = []; stage = step.Begins }

-- the expression goes on, or its semicolon was read and it is a statement, or the token can't stand there (C17 6.8.3)
abbrev pub value_by : Parts → Frames → Place → Read → Stepped
value_by ps s p (turn.Goes r reach) = steps ps s (step.Value p r) reach
value_by ps s p (turn.Done e) = whole ps s (stmt.Expr p e)
value_by ps s p turn.Refused = turn.Refused

-- a token in an expression that is a statement (C17 6.8.3)
unfoldable pub value : Parts → Frames → Place → Reading → Token → Stepped
value ps s p r t = value_by ps s p (read_needed r t closer.Semicolon)

-- the value of `return` goes on, or the semicolon was read, or the token can't stand there (C17 6.8.6.4)
abbrev pub in_return_by : Parts → Frames → Place → Maybe → Stepped
in_return_by ps s p (turn.Goes r reach) = steps ps s (step.Return p r) reach
in_return_by ps s p (turn.Done e) = whole ps s (stmt.Return p e)
in_return_by ps s p turn.Refused = turn.Refused

-- a token behind `return` (C17 6.8.6.4)
unfoldable pub in_return : Parts → Frames → Place → Reading → Token → Stepped
in_return ps s p r t = in_return_by ps s p (read_maybe r t closer.Semicolon)

-- the declaration goes on, or its semicolon was read, or the token can't stand there (C17 6.8.2)
abbrev pub local_by : Parts → Frames → Place → Declared → Stepped
local_by ps s p (turn.Goes d reach) = steps ps s (step.Local p d) reach
local_by ps s p (turn.Done (specs, list)) = whole ps s (stmt.Declare p specs list)
local_by ps s p turn.Refused = turn.Refused

-- a token in a declaration in a block (C17 6.8.2)
unfoldable pub local : Parts → Frames → Place → Declaration → Token → Stepped
local ps s p d t = local_by ps s p (feed_declaration d t)

-- the token behind a statement that lacks only its semicolon
unfoldable pub semicolon : Parts → Frames → Stmt → Token → Stepped
semicolon ps s x t = cond (closes t closer.Semicolon) (whole ps s x) turn.Refused

-- the first token of a statement

-- is the innermost open construct a block, or is none open but the block of the function?
abbrev pub in_block_by : Option Frame → Bool
in_block_by None = true
in_block_by (Some (frame.Block place parts)) = true
in_block_by _ = false

-- does a statement that begins stand right in a block, so that a declaration may stand there as well?
unfoldable pub is_in_block : Frames → Bool
is_in_block s = in_block_by (top s)

-- is the innermost open construct a `switch`?
abbrev pub in_switch_by : Option Frame → Bool
in_switch_by (Some (frame.Switch place on parts)) = true
in_switch_by _ = false

-- does a statement that begins stand right in the braces of a `switch`, so that a label may stand there as well?
unfoldable pub is_in_switch : Frames → Bool
is_in_switch s = in_switch_by (top s)

-- `}` where a statement begins: the innermost block or `switch` ends, or the block of the function, or it can't stand there (C17 6.8.2)
unfoldable pub block_ends : Parts → Frames → Stepped
block_ends ps [] = turn.Done ps
block_ends ps (frame.Block p parts ∷ s) = whole ps s (stmt.Block p parts)
block_ends ps (frame.Switch p e parts ∷ s) = whole ps s (stmt.Switch p e parts)
block_ends ps (_ ∷ s) = turn.Refused

-- a specifier where a statement begins: the first one of a declaration, which only a block may have (C17 6.8.2)
unfoldable pub declares : Parts → Frames → Word → Place → Stepped
declares ps s w p =
    cond (is_spec_word w && is_in_block s) (steps ps s (step.Local p (begin_declaration w (inner s))) (level s)) turn.Refused

-- `case` where a statement begins: its value begins, right in the braces of a `switch` alone (C17 6.8.1)
unfoldable pub case_begins : Parts → Frames → Place → Stepped
case_begins ps s p = cond (is_in_switch s) (steps ps s (step.Case p (begin 2 (level s))) (level s)) turn.Refused

-- `default` where a statement begins, right in the braces of a `switch` alone (C17 6.8.1)
unfoldable pub default_begins : Parts → Frames → Place → Stepped
default_begins ps s p = cond (is_in_switch s) (steps ps s (step.Default p) 0) turn.Refused

-- a word that begins a statement: `if`, `switch`, a loop, `break`, `continue` or `return`; or one that begins a label (C17 6.8.1 to 6.8.6)
unfoldable pub jump : Parts → Frames → Word → Place → Stepped
jump ps s word.If p = steps ps s (step.Keyword (tested.If p)) (inner s)
jump ps s word.While p = steps ps s (step.Keyword (tested.While p)) (inner s)
jump ps s word.Do p = await_part ps s (frame.Do p) (inner s)
jump ps s word.For p = steps ps s (step.For p) (inner s)
jump ps s word.Switch p = steps ps s (step.Keyword (tested.Switch p)) (inner s)
jump ps s word.Case p = case_begins ps s p
jump ps s word.Default p = default_begins ps s p
jump ps s word.Break p = steps ps s (step.Semicolon (stmt.Break p)) (level s)
jump ps s word.Continue p = steps ps s (step.Semicolon (stmt.Continue p)) (level s)
jump ps s word.Return p = steps ps s (step.Return p (begin 0 (inner s))) (level s)
jump ps s _ p = turn.Refused

-- a word where a statement begins: a specifier, or one that begins a statement
unfoldable pub keyword : Parts → Frames → Word → Place → Stepped
keyword ps s w p = cond (is_spec_word w) (declares ps s w p) (jump ps s w p)

-- an expression that is a statement began, or the token can't stand there
abbrev pub expression_by : Parts → Frames → Place → Fed → Stepped
expression_by ps s p (turn.Goes r reach) = steps ps s (step.Value p r) reach
expression_by ps s p (turn.Done e) = turn.Refused
expression_by ps s p turn.Refused = turn.Refused

-- the first token of an expression that is a statement (C17 6.8.3)
unfoldable pub expression : Parts → Frames → Token → Stepped
expression ps s t = expression_by ps s t.place (feed (begin 0 (inner s)) t)

-- `;` where a statement begins: the empty statement (C17 6.8.3)
abbrev pub empty : Parts → Frames → Place → Stepped
empty ps s p = steps ps s (step.Whole (stmt.Empty p)) (level s)

-- `{` where a statement begins: a block opens (C17 6.8.2)
abbrev pub block_begins : Parts → Frames → Place → Stepped
block_begins ps s p = await_part ps s (frame.Block p []) (level s)

-- a mark where a statement begins: `;`, `{`, `}` or the first token of an expression
unfoldable pub mark_begins : Parts → Frames → Token → Mark → Stepped
mark_begins ps s t m =
    cond (is_mark m mark.Semicolon) (empty ps s t.place)
    (cond (is_mark m mark.LeftBrace) (block_begins ps s t.place) (cond (is_mark m mark.RightBrace) (block_ends ps s) (expression ps s t)))

-- a token of this kind where a statement begins: a mark, a word, or the first token of an expression
abbrev pub begins_by : Parts → Frames → Token → TokenKind → Stepped
begins_by ps s t (token.Mark m) = mark_begins ps s t m
begins_by ps s t (token.Word w) = cond (is_word w word.Sizeof) (expression ps s t) (keyword ps s w t.place)
begins_by ps s t k = expression ps s t

-- a token where a statement begins (C17 6.8)
unfoldable pub begins : Parts → Frames → Token → Stepped
begins ps s t = begins_by ps s t t.what

-- tests in parentheses

-- the token behind a word that a test belongs to: only `(` can stand there
unfoldable pub opened : Parts → Frames → Tested → Token → Stepped
opened ps s x t = cond (token_is_mark t.what mark.LeftParen) (steps ps s (step.Test x (begin 0 (inner s))) 0) turn.Refused

-- the `)` of a test was read: its statement is awaited, or behind `do` the semicolon, or the braces of a `switch` (C17 6.8.4, 6.8.5.1, 6.8.5.2)
unfoldable pub test_done : Parts → Frames → Tested → Expr → Stepped
test_done ps s (tested.If p) e = await_part ps s (frame.Then p e) 0
test_done ps s (tested.While p) e = await_part ps s (frame.While p e) 0
test_done ps s (tested.Switch p) e = steps ps s (step.Braces p e) 0
test_done ps s (tested.Do p b) e = steps ps s (step.Semicolon (stmt.DoWhile p b e)) 0

-- the test goes on, or its `)` was read, or the token can't stand there
abbrev pub test_by : Parts → Frames → Tested → Read → Stepped
test_by ps s x (turn.Goes r reach) = steps ps s (step.Test x r) reach
test_by ps s x (turn.Done e) = test_done ps s x e
test_by ps s x turn.Refused = turn.Refused

-- a token in the test of `if`, `while`, `do` or `switch` (C17 6.8.4, 6.8.5.1, 6.8.5.2)
unfoldable pub test : Parts → Frames → Tested → Reading → Token → Stepped
test ps s x r t = test_by ps s x (read_needed r t closer.Paren)

-- the token behind a statement

-- a statement put into the construct that awaits it, which is whole by that or not; the last argument: is the next token `else`?
unfoldable pub close : Frame → Stmt → Bool → Fitted
close (frame.Then p e) a true = closed.Part (frame.Then p e) a
close (frame.Then p e) a false = closed.Whole (stmt.If p e a None)
close (frame.Else p e a) b other = closed.Whole (stmt.If p e a (Some b))
close (frame.While p e) b other = closed.Whole (stmt.While p e b)
close (frame.For p start test step) b other = closed.Whole (stmt.For p start test step b)
close f b other = closed.Part f b

-- `else` behind the first statement of an `if`: one more statement is awaited (C17 6.8.4.1)
abbrev pub otherwise : Parts → Frames → Place → Expr → Stmt → Stepped
otherwise ps s p e a = await_part ps s (frame.Else p e a) 0

-- the token behind the statement of `do`: only `while` can stand there (C17 6.8.5.2)
unfoldable pub do_while : Parts → Frames → Place → Stmt → Token → Stepped
do_while ps s p b t = cond (token_is_word t.what word.While) (steps ps s (step.Keyword (tested.Do p b)) 0) turn.Refused

-- the token behind a statement of a block, where the next one begins or the block ends (C17 6.8.2)
unfoldable pub more : Parts → Frames → Place → Parts → Stmt → Token → Stepped
more ps s p parts x t = begins ps (frame.Block p (parts ++ x ∷ []) ∷ s) t

-- the token behind a statement in the braces of a `switch`, where the next one or a label begins or the braces end (C17 6.8.4.2)
unfoldable pub more_switched : Parts → Frames → Place → Expr → List Part → Stmt → Token → Stepped
more_switched ps s p e parts x t = begins ps (frame.Switch p e (parts ++ part_.Does (stmt_place x) x ∷ []) ∷ s) t

-- the token behind a statement in a construct that isn't whole yet: `else`, the `while` of a `do`, or what follows in a block or `switch`
unfoldable pub part : Parts → Frames → Frame → Stmt → Token → Stepped
part ps s (frame.Then p e) a t = otherwise ps s p e a
part ps s (frame.Do p) a t = do_while ps s p a t
part ps s (frame.Block p parts) a t = more ps s p parts a t
part ps s (frame.Switch p e parts) a t = more_switched ps s p e parts a t
part ps s _ a t = turn.Refused

-- a construct that is whole is a statement before the same token; one that isn't gets the token
abbrev pub closed_by : Parts → Frames → Fitted → Token → (Stmt → Stepped) → Stepped
closed_by ps s (closed.Whole a) t again = again a
closed_by ps s (closed.Part f a) t again = part ps s f a t

-- the token behind a whole statement, which first ends each construct that is whole by it
unfoldable pub behind : Parts → Frames → Stmt → Token → Stepped
behind ps [] x t = begins (ps ++ x ∷ []) [] t
behind ps (f ∷ s) x t = closed_by ps s (close f x (token_is_word t.what word.Else)) t (λ y. behind ps s y t)

-- the parts of a `for`

-- the token behind `for`: only `(` can stand there (C17 6.8.5.3)
unfoldable pub for_opened : Parts → Frames → Place → Token → Stepped
for_opened ps s p t = cond (token_is_mark t.what mark.LeftParen) (steps ps s (step.Start p (begin 0 (inner s))) 0) turn.Refused

-- the first part of a `for` was read, and the second one begins (C17 6.8.5.3)
abbrev pub second_begins : Parts → Frames → Place → First → Stepped
second_begins ps s p start = steps ps s (step.Second p start (begin 0 (inner s))) 0

-- the first part of a `for` that is an expression or nothing (C17 6.8.5.3)
abbrev pub first_of : Option Expr → First
first_of None = first.Nothing
first_of (Some e) = first.Value e

-- the specifier that a token of this kind is, if nothing was read yet
abbrev pub specifier_by : Reading → TokenKind → Option Word
specifier_by r (token.Word w) = cond (is_spec_word w && is_fresh r) (Some w) None
specifier_by r _ = None

-- the specifier that begins a declaration as the first part of a `for`, if the token is one
unfoldable pub specifier : Reading → Token → Option Word
specifier r t = specifier_by r t.what

-- the first part of a `for` goes on, or its semicolon was read, or the token can't stand there
abbrev pub start_by : Parts → Frames → Place → Maybe → Stepped
start_by ps s p (turn.Goes r reach) = steps ps s (step.Start p r) reach
start_by ps s p (turn.Done e) = second_begins ps s p (first_of e)
start_by ps s p turn.Refused = turn.Refused

-- the token in the first part of a `for`: this specifier begins a declaration, else it belongs to an expression
abbrev pub start_with : Parts → Frames → Place → Reading → Token → Option Word → Stepped
start_with ps s p r t (Some w) = steps ps s (step.Declares p (begin_declaration w (inner s))) 0
start_with ps s p r t None = start_by ps s p (read_maybe r t closer.Semicolon)

-- a token in the first part of a `for` (C17 6.8.5.3)
unfoldable pub start : Parts → Frames → Place → Reading → Token → Stepped
start ps s p r t = start_with ps s p r t (specifier r t)

-- the declaration in a `for` goes on, or its semicolon was read, or the token can't stand there
abbrev pub for_declares_by : Parts → Frames → Place → Declared → Stepped
for_declares_by ps s p (turn.Goes d reach) = steps ps s (step.Declares p d) reach
for_declares_by ps s p (turn.Done (specs, list)) = second_begins ps s p (first.Declare specs list)
for_declares_by ps s p turn.Refused = turn.Refused

-- a token in a declaration that is the first part of a `for` (C17 6.8.5.3)
unfoldable pub for_declares : Parts → Frames → Place → Declaration → Token → Stepped
for_declares ps s p d t = for_declares_by ps s p (feed_declaration d t)

-- the second part of a `for` goes on, or its semicolon was read, or the token can't stand there
abbrev pub second_by : Parts → Frames → Place → First → Maybe → Stepped
second_by ps s p start (turn.Goes r reach) = steps ps s (step.Second p start r) reach
second_by ps s p start (turn.Done e) = steps ps s (step.Third p start e (begin 0 (inner s))) 0
second_by ps s p start turn.Refused = turn.Refused

-- a token in the second part of a `for`, its test (C17 6.8.5.3)
unfoldable pub second : Parts → Frames → Place → First → Reading → Token → Stepped
second ps s p start r t = second_by ps s p start (read_maybe r t closer.Semicolon)

-- the `)` of a `for` was read, and its statement is awaited (C17 6.8.5.3)
abbrev pub body_begins : Parts → Frames → Place → First → Option Expr → Option Expr → Stepped
body_begins ps s p start test step = await_part ps s (frame.For p start test step) 0

-- the third part of a `for` goes on, or its `)` was read, or the token can't stand there
abbrev pub third_by : Parts → Frames → Place → First → Option Expr → Maybe → Stepped
third_by ps s p start test (turn.Goes r reach) = steps ps s (step.Third p start test r) reach
third_by ps s p start test (turn.Done e) = body_begins ps s p start test e
third_by ps s p start test turn.Refused = turn.Refused

-- a token in the third part of a `for`, what is done behind each round (C17 6.8.5.3)
unfoldable pub third : Parts → Frames → Place → First → Option Expr → Reading → Token → Stepped
third ps s p start test r t = third_by ps s p start test (read_maybe r t closer.Paren)

-- the braces of a `switch`

-- the token behind the parentheses of a `switch`: only `{` can stand there (C17 6.8.4.2)
unfoldable pub braces : Parts → Frames → Place → Expr → Token → Stepped
braces ps s p e t = cond (token_is_mark t.what mark.LeftBrace) (await_part ps s (frame.Switch p e []) 0) turn.Refused

-- a label was read in the braces of a `switch`, and the next part begins (C17 6.8.1)
unfoldable pub labelled : Parts → Frames → Part → Stepped
labelled ps (frame.Switch p e parts ∷ s) x = steps ps (frame.Switch p e (parts ++ x ∷ []) ∷ s) step.Begins 0
labelled ps _ x = turn.Refused

-- the value of a `case` goes on, or its `:` was read, or the token can't stand there
abbrev pub case_by : Parts → Frames → Place → Read → Stepped
case_by ps s p (turn.Goes r reach) = steps ps s (step.Case p r) reach
case_by ps s p (turn.Done e) = labelled ps s (part_.Case p e)
case_by ps s p turn.Refused = turn.Refused

-- a token in the value of a `case`, a conditional expression (C17 6.8.1)
unfoldable pub case_value : Parts → Frames → Place → Reading → Token → Stepped
case_value ps s p r t = case_by ps s p (read_needed r t closer.Colon)

-- the token behind `default`: only `:` can stand there (C17 6.8.1)
unfoldable pub default_label : Parts → Frames → Place → Token → Stepped
default_label ps s p t = cond (closes t closer.Colon) (labelled ps s (part_.Default p)) turn.Refused

-- a token in a label, or before the braces of a `switch` (C17 6.8.1, 6.8.4.2)
unfoldable pub in_switch : Parts → Frames → BlockStage → Token → Stepped
in_switch ps s (step.Braces p e) t = braces ps s p e t
in_switch ps s (step.Case p r) t = case_value ps s p r t
in_switch ps s (step.Default p) t = default_label ps s p t
in_switch ps s _ t = turn.Refused

-- a token in the parentheses of a `for` or before them, or one of a `switch` (C17 6.8.4.2, 6.8.5.3)
unfoldable pub in_for : Parts → Frames → BlockStage → Token → Stepped
in_for ps s (step.For p) t = for_opened ps s p t
in_for ps s (step.Start p r) t = start ps s p r t
in_for ps s (step.Declares p d) t = for_declares ps s p d t
in_for ps s (step.Second p start r) t = second ps s p start r t
in_for ps s (step.Third p start test r) t = third ps s p start test r t
in_for ps s x t = in_switch ps s x t

-- the next token of the block of a function, at each stage of its reading
abbrev pub stage_fed : Parts → Frames → BlockStage → Token → Stepped
stage_fed ps s step.Begins t = begins ps s t
stage_fed ps s (step.Whole x) t = behind ps s x t
stage_fed ps s (step.Value p r) t = value ps s p r t
stage_fed ps s (step.Keyword x) t = opened ps s x t
stage_fed ps s (step.Test x r) t = test ps s x r t
stage_fed ps s (step.Semicolon x) t = semicolon ps s x t
stage_fed ps s (step.Return p r) t = in_return ps s p r t
stage_fed ps s (step.Local p d) t = local ps s p d t
stage_fed ps s x t = in_for ps s x t

-- the next token of a function's block
unfoldable pub feed_body : Body → Token → Stepped
feed_body b t = stage_fed b.parts b.frames b.stage t
