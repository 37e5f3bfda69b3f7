-- The braces of a `switch`: which constructs they are, and how one more part stands in them.
use Rattle.std.proofs.Common.{◌≡◌, true, List, [], ◌∷◌, ◌++◌, Some, None, sym, ◌∙◌, ap, subst, append_assoc}
use Rattle.std.proofs.lemmas.List.Elements.{All-head, All-cons}
use Rattle.k_parse_steps.specs.Types.{Place, Token, Expr, Stmt, Part, Frame}
use Rattle.k_tree.specs.declared.tokens.word.Word.TheVariants as word
use Rattle.k_tree.specs.declared.tree.statement.Stmt.TheVariants as stmt
use Rattle.k_tree.specs.declared.tree.statement.Part.TheVariants as part
use Rattle.k_tree.proofs.Folds.{stmt_Expr, stmt_Empty, stmt_Block, if_alone as if_alone_folds, if_else as if_else_folds, stmt_While, stmt_DoWhile, stmt_For, stmt_Switch, part_Does, stmt_Break, stmt_Continue, stmt_Return}
use Rattle.k_tree.specs.Places.{Pieces, plain, at, lay_expr, lay_option, lay_for, lay_in_parens, lay_in_braces, lay_stmt, lay_part, lay_part_step, lay_stmt_step, lay_stmts, lay_switched, lay_else, stmt_place, part_place_step, stmt_place_step, Stand}
use Rattle.k_tree.specs.Ranked.{RankedStmt, RankedSwitch, no_labels, case_label, default_label, does, value, empty, block, if_alone, if_else, while_loop, do_loop, for_loop, switch_stmt, break_loop, continue_loop, return_value}
use Rattle.k_tree.specs.Spelling.{the_word}
use Rattle.k_parse_steps.specs.Statements.{Parts, Frames, is_in_switch}
use Rattle.k_parse_steps.specs.declared.statement.Frame.TheVariants as frame
use Rattle.k_parse_steps.proofs.Rows.{row_push}
use Rattle.k_parse_steps.proofs.ExpressionTerms.{five}
use Rattle.k_parse_steps.proofs.StatementState.{word_at, left_brace, semicolon, lay_frame, lay_frames, lay_base}
use Rattle.k_parse_steps.proofs.Marks.{false_true}

-- what is true right in the braces of each `switch` is true where a label may stand
pub switch_split : (P : Frames → Type 0) → ((p : Place) (e : Expr) (parts : List Part) (s : Frames) → P (frame.Switch p e parts ∷ s))
    → (s : Frames) → is_in_switch s ≡ true → P s
unfolding is_in_switch
switch_split P each [] h = absurd (false_true h)
switch_split P each (frame.Switch p e parts ∷ s) h = each p e parts s
switch_split P each (_ ∷ s) h = absurd (false_true h)

pub switched_append : (xs ys : List Part) → RankedSwitch xs → RankedSwitch ys → RankedSwitch (xs ++ ys)
switched_append _ ys no_labels r = r
switched_append _ ys (case_label p a parts x y) r = case_label p a (parts ++ ys) x (switched_append parts ys y r)
switched_append _ ys (default_label p parts y) r = default_label p (parts ++ ys) (switched_append parts ys y r)
switched_append _ ys (does p s parts x y) r = does p s (parts ++ ys) x (switched_append parts ys y r)

-- pieces behind the innermost open construct
abbrev pub frame_open : Parts → Frame → Frames → Pieces
frame_open ps f s = lay_base ps s ++ lay_frame f

-- one part more in the braces of a `switch`
pub switch_push : (ps : Parts) (p : Place) (e : Expr) (parts : List Part) (s : Frames) (x : Part) (us : List Token)
    → Stand (lay_base ps (frame.Switch p e parts ∷ s) ++ lay_part x) us → Stand (lay_base ps (frame.Switch p e (parts ++ x ∷ []) ∷ s)) us
switch_push ps p e parts s x us st =
    let f : Frame = frame.Switch p e parts in
    let g : Frame = frame.Switch p e (parts ++ x ∷ []) in
    let opened : Stand (frame_open ps f s ++ lay_part x) us =
    subst (λ y. Stand (y ++ lay_part x) us) (sym (append_assoc (lay_stmts ps) (lay_frames s) (lay_frame f))) st in
    subst (λ y. Stand y us) (append_assoc (lay_stmts ps) (lay_frames s) (lay_frame g))
    (subst (λ y. Stand (lay_base ps s ++ (word_at p word.Switch ++ (lay_in_parens (lay_expr e) ++ (left_brace ++ y)))) us) (sym (row_push lay_part parts x))
    (five (lay_base ps s) (word_at p word.Switch) (lay_in_parens (lay_expr e)) left_brace (lay_switched parts) (lay_part x) us opened))

-- a place that stands at a token may stand there twice
at_twice : (b : Pieces) (p : Place) (ys : Pieces) (us : List Token) → Stand (b ++ at p ys) us → Stand (b ++ at p (at p ys)) us
at_twice [] p [] us h = h
at_twice [] p (y ∷ ys) [] h = h
at_twice [] p (y ∷ ys) (u ∷ us) h = (h.0, All-cons (λ q. q ≡ u.place) p (p ∷ y.places) (All-head (λ q. q ≡ u.place) p y.places h.1) h.1, h.2)
at_twice (x ∷ b) p ys [] h = h
at_twice (x ∷ b) p ys (u ∷ us) h = (h.0, h.1, at_twice b p ys us h.2)

-- the pieces of a statement, and that its place stands at the first
record First (x : Stmt) : Type 0 where
  rest : Pieces
  is : lay_stmt x ≡ at (stmt_place x) rest

first_by : (x : Stmt) (p : Place) (rest : Pieces) → lay_stmt x ≡ at p rest → stmt_place x ≡ p → First x
first_by x p rest e h = record { rest = rest; is = e ∙ ap (λ q. at q rest) (sym h) }

first_of : (x : Stmt) → RankedStmt x → First x
first_of _ (value p a r) =
    first_by (stmt.Expr p a) p (lay_expr a ++ semicolon)
    (stmt_Expr Pieces Pieces lay_part_step lay_stmt_step p a) (stmt_Expr (Unit {0}) Place part_place_step stmt_place_step p a)
first_of _ (empty p) =
    first_by (stmt.Empty p) p (semicolon)
    (stmt_Empty Pieces Pieces lay_part_step lay_stmt_step p) (stmt_Empty (Unit {0}) Place part_place_step stmt_place_step p)
first_of _ (block p parts r) =
    first_by (stmt.Block p parts) p (lay_in_braces (lay_stmts parts))
    (stmt_Block Pieces Pieces lay_part_step lay_stmt_step p parts) (stmt_Block (Unit {0}) Place part_place_step stmt_place_step p parts)
first_of _ (if_alone p a s r q) =
    first_by (stmt.If p a s None) p (plain (the_word word.If) ++ (lay_in_parens (lay_expr a) ++ (lay_stmt s ++ lay_else None)))
    (if_alone_folds Pieces Pieces lay_part_step lay_stmt_step p a s) (if_alone_folds (Unit {0}) Place part_place_step stmt_place_step p a s)
first_of _ (if_else p a s t r q z w) =
    first_by (stmt.If p a s (Some t)) p (plain (the_word word.If) ++ (lay_in_parens (lay_expr a) ++ (lay_stmt s ++ lay_else (Some (lay_stmt t)))))
    (if_else_folds Pieces Pieces lay_part_step lay_stmt_step p a s t) (if_else_folds (Unit {0}) Place part_place_step stmt_place_step p a s t)
first_of _ (while_loop p a s r q) =
    first_by (stmt.While p a s) p (plain (the_word word.While) ++ (lay_in_parens (lay_expr a) ++ lay_stmt s))
    (stmt_While Pieces Pieces lay_part_step lay_stmt_step p a s) (stmt_While (Unit {0}) Place part_place_step stmt_place_step p a s)
first_of _ (do_loop p s a r q) =
    first_by (stmt.DoWhile p s a) p (plain (the_word word.Do) ++ (lay_stmt s ++ (plain (the_word word.While) ++ (lay_in_parens (lay_expr a) ++ semicolon))))
    (stmt_DoWhile Pieces Pieces lay_part_step lay_stmt_step p s a) (stmt_DoWhile (Unit {0}) Place part_place_step stmt_place_step p s a)
first_of _ (for_loop p start a b s r q z w) =
    first_by (stmt.For p start a b s) p (plain (the_word word.For) ++ (lay_for start a b ++ lay_stmt s))
    (stmt_For Pieces Pieces lay_part_step lay_stmt_step p start a b s) (stmt_For (Unit {0}) Place part_place_step stmt_place_step p start a b s)
first_of _ (switch_stmt p a parts r q) =
    first_by (stmt.Switch p a parts) p (plain (the_word word.Switch) ++ (lay_in_parens (lay_expr a) ++ lay_in_braces (lay_switched parts)))
    (stmt_Switch Pieces Pieces lay_part_step lay_stmt_step p a parts) (stmt_Switch (Unit {0}) Place part_place_step stmt_place_step p a parts)
first_of _ (break_loop p) =
    first_by (stmt.Break p) p (plain (the_word word.Break) ++ semicolon)
    (stmt_Break Pieces Pieces lay_part_step lay_stmt_step p) (stmt_Break (Unit {0}) Place part_place_step stmt_place_step p)
first_of _ (continue_loop p) =
    first_by (stmt.Continue p) p (plain (the_word word.Continue) ++ semicolon)
    (stmt_Continue Pieces Pieces lay_part_step lay_stmt_step p) (stmt_Continue (Unit {0}) Place part_place_step stmt_place_step p)
first_of _ (return_value p a r) =
    first_by (stmt.Return p a) p (plain (the_word word.Return) ++ (lay_option a ++ semicolon))
    (stmt_Return Pieces Pieces lay_part_step lay_stmt_step p a) (stmt_Return (Unit {0}) Place part_place_step stmt_place_step p a)

-- a statement in the braces of a `switch` is a part that stands at the same token
pub does_stands : (b : Pieces) (x : Stmt) (us : List Token) → RankedStmt x → Stand (b ++ lay_stmt x) us → Stand (b ++ lay_part (part.Does (stmt_place x) x)) us
does_stands b x us r st =
    let f : First x = first_of x r in
    subst (λ y. Stand (b ++ y) us) (sym (part_Does Pieces Pieces lay_part_step lay_stmt_step (stmt_place x) x))
    (subst (λ y. Stand (b ++ at (stmt_place x) y) us) (sym f.is)
    (at_twice b (stmt_place x) f.rest us (subst (λ y. Stand (b ++ y) us) f.is st)))
