-- What has been read of a function's block: its pieces, and what holds of them.
use Rattle.std.proofs.Common.{ℕ, ◌≡◌, ◌+◌, ◌≤◌, ◌⊎◌, true, false, List, [], ◌∷◌, ◌++◌, map, length}
use Rattle.k_parse_steps.specs.Types.{Place, Token, Word, Expr, Declarator, Stmt, Frame, Tested, BlockStage, Body, Stepped}
use Rattle.k_tree.specs.declared.tokens.TokenKind.TheVariants as token
use Rattle.k_tree.specs.declared.tokens.mark.Mark.TheVariants as mark
use Rattle.k_tree.specs.declared.tokens.word.Word.TheVariants as word
use Rattle.k_tree.specs.declared.tree.statement.Stmt.TheVariants as stmt
use Rattle.k_tree.specs.Nesting.{deepest, expr_depth, option_depth, first_depth, stmt_depth, part_depth}
use Rattle.k_tree.specs.Places.{Pieces, plain, at, lay_expr, lay_option, lay_first, lay_for, lay_in_parens, lay_stmt, lay_stmts, lay_switched, Stand}
use Rattle.k_tree.specs.Ranked.{Ranked, IfGiven, RankedFirst, RankedStmt, RankedParts, RankedSwitch, RankedDeclaration, ends_open}
use Rattle.k_tree.specs.Spelling.{the_mark, the_word}
use Rattle.k_parse_steps.specs.Statements.{Parts, Frames, inner, level, is_in_block, is_in_switch}
use Rattle.k_parse_steps.specs.declared.statement.Frame.TheVariants as frame
use Rattle.k_parse_steps.specs.declared.statement.Tested.TheVariants as tested
use Rattle.k_parse_steps.specs.declared.statement.BlockStage.TheVariants as step
use Rattle.k_parse_steps.specs.declared.turn.Turn.TheVariants as turn
use Rattle.k_parse_steps.proofs.ReadingSound.{At, site, Behind}
use Rattle.k_parse_steps.proofs.Rows.{StartsAt}
use Rattle.k_parse_steps.proofs.DeclarationState.{OkDeclaration}

abbrev pub word_at : Place → Word → Pieces
word_at p w = at p (plain (the_word w))

abbrev pub left_paren : Pieces
left_paren = plain (the_mark mark.LeftParen)

abbrev pub left_brace : Pieces
left_brace = plain (the_mark mark.LeftBrace)

abbrev pub semicolon : Pieces
semicolon = plain (the_mark mark.Semicolon)

abbrev pub lay_frame : Frame → Pieces
lay_frame (frame.Then p e) = word_at p word.If ++ lay_in_parens (lay_expr e)
lay_frame (frame.Else p e a) = word_at p word.If ++ (lay_in_parens (lay_expr e) ++ (lay_stmt a ++ plain (the_word word.Else)))
lay_frame (frame.While p e) = word_at p word.While ++ lay_in_parens (lay_expr e)
lay_frame (frame.Do p) = word_at p word.Do
lay_frame (frame.For p start test step) = word_at p word.For ++ lay_for start test step
lay_frame (frame.Switch p e parts) = word_at p word.Switch ++ (lay_in_parens (lay_expr e) ++ (left_brace ++ lay_switched parts))
lay_frame (frame.Block p parts) = at p (plain (the_mark mark.LeftBrace)) ++ lay_stmts parts

abbrev pub lay_frames : Frames → Pieces
lay_frames [] = []
lay_frames (f ∷ s) = lay_frames s ++ lay_frame f

abbrev pub lay_base : Parts → Frames → Pieces
lay_base ps s = lay_stmts ps ++ lay_frames s

abbrev pub lay_tested : Tested → Pieces
lay_tested (tested.If p) = word_at p word.If
lay_tested (tested.While p) = word_at p word.While
lay_tested (tested.Switch p) = word_at p word.Switch
lay_tested (tested.Do p b) = word_at p word.Do ++ (lay_stmt b ++ plain (the_word word.While))

-- an expression within the limit, below a node of a level
abbrev pub Below : ℕ → ℕ → ℕ → Expr → Type 0
Below lim l k e = Ranked k e × ((l + 1) + expr_depth e ≤ lim + 1)

-- a statement within the limit, at a level
abbrev pub IsStmt : ℕ → ℕ → Stmt → Type 0
IsStmt lim l x = RankedStmt x × (l + stmt_depth x ≤ lim + 1)

-- a statement of which a part is awaited, at a level
abbrev pub OkFrame : ℕ → ℕ → Frame → Type 0
OkFrame lim l (frame.Then p e) = Below lim l 0 e
OkFrame lim l (frame.Else p e a) = Below lim l 0 e × IsStmt lim (l + 1) a × (ends_open a ≡ false)
OkFrame lim l (frame.While p e) = Below lim l 0 e
OkFrame lim l (frame.Do p) = Unit {0}
OkFrame lim l (frame.For p start test step) =
    (RankedFirst start × ((l + 1) + first_depth start ≤ lim + 1)) × (IfGiven (Ranked 0) test × ((l + 1) + option_depth test ≤ lim + 1))
    × (IfGiven (Ranked 0) step × ((l + 1) + option_depth step ≤ lim + 1))
OkFrame lim l (frame.Switch p e parts) = Below lim l 0 e × (RankedSwitch parts × ((l + 1) + deepest (map part_depth parts) ≤ lim + 1))
OkFrame lim l (frame.Block p parts) = RankedParts parts × ((l + 1) + deepest (map stmt_depth parts) ≤ lim + 1)

abbrev pub OkFrames : ℕ → Frames → Type 0
OkFrames lim [] = Unit {0}
OkFrames lim (f ∷ s) = OkFrame lim (1 + length s) f × OkFrames lim s

abbrev pub OkTested : ℕ → ℕ → Tested → Type 0
OkTested lim l (tested.If p) = Unit {0}
OkTested lim l (tested.While p) = Unit {0}
OkTested lim l (tested.Switch p) = Unit {0}
OkTested lim l (tested.Do p b) = IsStmt lim (l + 1) b

-- a statement, or a declaration of a block
pub data IsPart : Stmt → Type 0 where
  a_stmt : (x : Stmt) → RankedStmt x → IsPart x
  a_declaration : (p : Place) (specs : List Word) (list : List Declarator) → RankedDeclaration specs list → IsPart (stmt.Declare p specs list)

-- a statement or, in a block, a declaration that was read whole
pub record OkWhole (lim : ℕ) (ps : Parts) (s : Frames) (x : Stmt) (ts : List Token) : Type 0 where
  pub stands : Stand (lay_base ps s ++ lay_stmt x) ts
  pub part : (IsPart x × (is_in_block s ≡ true)) ⊎ RankedStmt x
  pub shut : ends_open x ≡ false
  pub within : (1 + length s) + stmt_depth x ≤ lim + 1

-- a statement that awaits its semicolon
pub record OkSemicolon (lim : ℕ) (ps : Parts) (s : Frames) (x : Stmt) (ts : List Token) : Type 0 where
  pub most : Pieces
  pub laid : lay_stmt x ≡ most ++ semicolon
  pub stands : Stand (lay_base ps s ++ most) ts
  pub ranked : RankedStmt x
  pub shut : ends_open x ≡ false
  pub within : (1 + length s) + stmt_depth x ≤ lim + 1

-- an expression that is read behind pieces
pub record OkBehind (lim : ℕ) (s : Frames) (xs : Pieces) (P : List Token → Type 0) (ts : List Token) : Type 0 where
  pub behind : Behind xs P ts
  pub room : inner s ≤ lim + 1

abbrev pub For_at : Place → Pieces
For_at p = word_at p word.For ++ left_paren

abbrev pub OkStep : ℕ → Parts → Frames → BlockStage → List Token → Type 0
OkStep lim ps s step.Begins ts = Stand (lay_base ps s) ts
OkStep lim ps s (step.Whole x) ts = OkWhole lim ps s x ts
OkStep lim ps s (step.Value p r) ts = Behind (lay_base ps s) (λ us. At lim (site 0 (inner s)) r us × StartsAt p us) ts
OkStep lim ps s (step.Keyword x) ts = Stand (lay_base ps s ++ lay_tested x) ts × OkTested lim (1 + length s) x
OkStep lim ps s (step.Test x r) ts =
    Behind (lay_base ps s ++ (lay_tested x ++ left_paren)) (At lim (site 0 (inner s)) r) ts × OkTested lim (1 + length s) x
OkStep lim ps s (step.Semicolon x) ts = OkSemicolon lim ps s x ts
OkStep lim ps s (step.For p) ts = Stand (lay_base ps s ++ word_at p word.For) ts × (inner s ≤ lim)
OkStep lim ps s (step.Start p r) ts = OkBehind lim s (lay_base ps s ++ For_at p) (At lim (site 0 (inner s)) r) ts
OkStep lim ps s (step.Declares p d) ts = OkBehind lim s (lay_base ps s ++ For_at p) (OkDeclaration lim (inner s) d) ts
OkStep lim ps s (step.Second p start r) ts =
    OkBehind lim s ((lay_base ps s ++ For_at p) ++ lay_first start) (At lim (site 0 (inner s)) r) ts
    × (RankedFirst start × (((1 + length s) + 1) + first_depth start ≤ lim + 1))
OkStep lim ps s (step.Third p start test r) ts =
    OkBehind lim s ((lay_base ps s ++ For_at p) ++ (lay_first start ++ (lay_option test ++ semicolon))) (At lim (site 0 (inner s)) r) ts
    × (RankedFirst start × (((1 + length s) + 1) + first_depth start ≤ lim + 1))
    × (IfGiven (Ranked 0) test × (((1 + length s) + 1) + option_depth test ≤ lim + 1))
OkStep lim ps s (step.Braces p e) ts =
    Stand (lay_base ps s ++ (word_at p word.Switch ++ lay_in_parens (lay_expr e))) ts × Below lim (1 + length s) 0 e
OkStep lim ps s (step.Case p r) ts =
    Behind (lay_base ps s ++ word_at p word.Case) (At lim (site 2 (level s)) r) ts × (is_in_switch s ≡ true)
OkStep lim ps s (step.Default p) ts = Stand (lay_base ps s ++ word_at p word.Default) ts × (is_in_switch s ≡ true)
OkStep lim ps s (step.Return p r) ts = OkBehind lim s (lay_base ps s ++ word_at p word.Return) (At lim (site 0 (inner s)) r) ts
OkStep lim ps s (step.Local p d) ts =
    OkBehind lim s (lay_base ps s) (λ us. OkDeclaration lim (inner s) d us × StartsAt p us) ts × (is_in_block s ≡ true)

-- the parts of a block at level 1
abbrev pub OkParts : ℕ → Parts → Type 0
OkParts lim ps = RankedParts ps × (1 + deepest (map stmt_depth ps) ≤ lim + 1)

pub record OkBody (lim : ℕ) (b : Body) (ts : List Token) : Type 0 where
  pub parts : OkParts lim b.parts
  pub frames : OkFrames lim b.frames
  pub stage : OkStep lim b.parts b.frames b.stage ts

-- a token keeps it so; the last is the closing brace
abbrev pub KeepsStepped : ℕ → List Token → Token → Stepped → Type 0
KeepsStepped lim ts t (turn.Goes b reach) = reach ≤ lim → OkBody lim b (ts ++ t ∷ [])
KeepsStepped lim ts t (turn.Done ps) = OkParts lim ps × Stand (lay_stmts ps) ts × (t.what ≡ token.Mark mark.RightBrace)
KeepsStepped lim ts t turn.Refused = Unit {0}
