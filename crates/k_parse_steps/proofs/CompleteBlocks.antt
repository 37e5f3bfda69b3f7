-- Blocks, and each ranked statement.
use Rattle.std.proofs.Common.{ℕ, ◌≡◌, ◌≢◌, ◌+◌, ◌<◌, ◌≤◌, max, true, false, cond, ◌&&◌, IsTrue, List, [], ◌∷◌, ◌++◌, map, length, sym, ap, ◌∙◌, subst, refl, arith, append_assoc, append-nil}
use Rattle.std.proofs.lemmas.List.Elements.{All-head}
use Rattle.k_parse_steps.specs.Types.{Place, Token, TokenKind, Word, Declarator, Stmt, Part, Declaration, Body}
use Rattle.k_tree.specs.declared.tokens.TokenKind.TheVariants as token
use Rattle.k_tree.specs.declared.tokens.mark.Mark.TheVariants as mark
use Rattle.k_tree.specs.declared.tokens.word.Word.TheVariants as word
use Rattle.k_tree.specs.declared.tree.statement.Stmt.TheVariants as stmt
use Rattle.k_tree.specs.Bare.{bare_stmt, bare_part_step, bare_stmt_step, nowhere}
use Rattle.k_tree.specs.Begins.{begins_stmt}
use Rattle.k_tree.proofs.Folds.{stmt_Expr, stmt_Empty, stmt_Block, if_alone as if_alone_folds, if_else as if_else_folds, stmt_While, stmt_DoWhile, stmt_For, stmt_Switch, stmt_Break, stmt_Continue, stmt_Return, stmt_Declare}
use Rattle.k_tree.specs.Nesting.{expr_depth, option_depth, first_depth, declarators_depth, stmt_depth, part_depth, part_depth_step, stmt_depth_step, deepest}
use Rattle.k_tree.specs.Ranked.{RankedStmt, RankedParts, RankedDeclaration, value, empty, block, if_alone, if_else, while_loop, do_loop, for_loop, switch_stmt, RankedSwitch, no_labels, case_label, default_label, does, break_loop, continue_loop, return_value, no_parts, statement, declaration, is_spec}
use Rattle.k_tree.specs.Spelling.{Spelled, spell_specs, spell_declarator, spell_declaration, with_commas, in_braces, spell_stmt, spell_stmts, spell_part_step, spell_stmt_step, the_mark}
use Rattle.k_tree.proofs.Begin.{stmt_begins, not_empty}
use Rattle.k_parse_steps.specs.Operators.{is_spec_word}
use Rattle.k_parse_steps.specs.Declarations.{begin_declaration}
use Rattle.k_parse_steps.specs.Statements.{mark_begins, jump, Parts, Frames, feed_body, begins, keyword, declares, is_in_block, block_ends, local, local_by, steps, behind, close, part, more, level, inner}
use Rattle.k_parse_steps.specs.declared.statement.Frame.TheVariants as frame
use Rattle.k_parse_steps.specs.declared.statement.BlockStage.TheVariants as step
use Rattle.k_parse_steps.specs.declared.turn.Turn.TheVariants as turn
use Rattle.k_parse_steps.proofs.CompleteLeads.{token_at, Leads, leads-then, leads-more, leads-in}
use Rattle.k_parse_steps.proofs.CompleteDepths.{depth_positive, above_zero}
use Rattle.k_parse_steps.proofs.CompleteInitialisers.{Declares}
use Rattle.k_parse_steps.proofs.CompleteDeclarations.{DeclarationHolds, declaration_complete}
use Rattle.k_parse_steps.proofs.CompleteStatements.{Runs, body_at, begins_at, StmtHolds, StmtReads, stmt_by, holds_stmt, from_begin, value_reads, empty_reads, break_reads, continue_reads, return_reads}
use Rattle.k_parse_steps.proofs.CompleteTests.{while_reads, do_reads, if_alone_reads, if_else_reads}
use Rattle.k_parse_steps.proofs.CompleteLoops.{for_reads}
use Rattle.k_parse_steps.proofs.CompleteSwitches.{EachSwitched, case_reads, default_reads, does_reads, switch_reads}
use Rattle.k_parse_steps.proofs.Rows.{one_more}
use Rattle.k_parse_steps.specs.Tokens.{is_mark, is_word, token_is_word}

-- a part of a block is read where a block awaits one, as itself up to places
abbrev pub PartReads : Stmt → Type 0
PartReads x = (ps : Parts) (s : Frames) → is_in_block s ≡ true → Leads Runs (1 + length s + stmt_depth x) (spell_stmt x) (begins_at ps s) (StmtHolds ps s x)

-- each part is read, and none is spelled by nothing
abbrev pub EachPart : List Stmt → Type 0
EachPart [] = Unit {0}
EachPart (x ∷ parts) = PartReads x × (spell_stmt x ≢ []) × EachPart parts

-- a declaration

declares_goes : (ps : Parts) (s : Frames) (w : Word) (p : Place) → IsTrue (is_spec w) → is_in_block s ≡ true
    → declares ps s w p ≡ turn.Goes (body_at ps s (step.Local p (begin_declaration w (inner s)))) (level s)
unfolding declares is_spec_word
declares_goes ps s w p h i =
    ap (λ b. cond (b && is_in_block s) (steps ps s (step.Local p (begin_declaration w (inner s))) (level s)) turn.Refused) h
    ∙ ap (λ b. cond b (steps ps s (step.Local p (begin_declaration w (inner s))) (level s)) turn.Refused) i

specifier_goes : (ps : Parts) (s : Frames) (w : Word) (p : Place) → IsTrue (is_spec w) → feed_body (begins_at ps s) (token_at p (token.Word w)) ≡ declares ps s w p
unfolding feed_body begins keyword mark_begins is_mark jump is_spec_word is_word
specifier_goes ps s word.Sizeof p h = absurd cc
specifier_goes ps s w p h = ap (λ b. cond b (declares ps s w p) (jump ps s w p)) h

local_moves : (ps : Parts) (s : Frames) (p : Place) (d : Declaration) (t : Token) (next : Declaration) (reach : ℕ) → Declares d t next reach
    → Runs (body_at ps s (step.Local p d)) t (body_at ps s (step.Local p next)) reach
unfolding feed_body local
local_moves ps s p d t next reach h = ap (local_by ps s p) h

local_ends : (ps : Parts) (s : Frames) (p : Place) (specs : List Word) (list : List Declarator) (d : Declaration) (h : DeclarationHolds specs list d) (at : Place)
    → Runs (body_at ps s (step.Local p d)) (token_at at (token.Mark mark.Semicolon)) (body_at ps s (step.Whole (stmt.Declare p specs h.made))) 0
unfolding feed_body local
local_ends ps s p specs list d h at = ap (local_by ps s p) (h.ends at)

record InLocal (ps : Parts) (s : Frames) (p : Place) (specs : List Word) (list : List Declarator) (z : Body) : Type 0 where
  declaration : Declaration
  at : z ≡ body_at ps s (step.Local p declaration)
  read : DeclarationHolds specs list declaration

local_lead : (bound : ℕ) (ps : Parts) (s : Frames) (q : Place) (specs : List Word) (list : List Declarator) → RankedDeclaration specs list → is_in_block s ≡ true
    → inner s + declarators_depth list ≤ bound → level s < bound
    → Leads Runs bound (spell_declaration specs list) (begins_at ps s) (StmtHolds ps s (stmt.Declare q specs list))
local_lead bound ps s q [] list h inside low deep = absurd (h.0.0 refl)
local_lead bound ps s q (w ∷ ws) list h inside low deep = λ p. record {
  next = body_at ps s (step.Local p (begin_declaration w (inner s)));
  reach = level s;
  goes = specifier_goes ps s w p (All-head (λ v. IsTrue (is_spec v)) w ws h.0.1) ∙ declares_goes ps s w p (All-head (λ v. IsTrue (is_spec v)) w ws h.0.1) inside;
  low = deep;
  there =
      subst (λ kinds. Leads Runs bound kinds (body_at ps s (step.Local p (begin_declaration w (inner s)))) (StmtHolds ps s (stmt.Declare q (w ∷ ws) list)))
      (append_assoc (spell_specs ws) (with_commas (map spell_declarator list)) (the_mark mark.Semicolon))
      (leads-then Runs bound bound (spell_specs ws ++ with_commas (map spell_declarator list)) (the_mark mark.Semicolon) (body_at ps s (step.Local p (begin_declaration w (inner s))))
      (InLocal ps s p (w ∷ ws) list) (StmtHolds ps s (stmt.Declare q (w ∷ ws) list)) (omega arith)
      (leads-in Declares Runs (λ d. body_at ps s (step.Local p d)) bound bound (spell_specs ws ++ with_commas (map spell_declarator list)) (begin_declaration w (inner s))
      (DeclarationHolds (w ∷ ws) list) (InLocal ps s p (w ∷ ws) list) (local_moves ps s p) (omega arith)
      (declaration_complete bound w ws (inner s) list h (omega arith) low)
      (λ d i. record { declaration = d; at = refl; read = i }))
      (λ z i to. record {
        next = body_at ps s (step.Whole (stmt.Declare p (w ∷ ws) i.read.made));
        reach = 0;
        goes = subst (λ y. Runs y (token_at to (token.Mark mark.Semicolon)) (body_at ps s (step.Whole (stmt.Declare p (w ∷ ws) i.read.made))) 0) (sym i.at)
            (local_ends ps s p (w ∷ ws) list i.declaration i.read to);
        low = omega arith;
        there = holds_stmt ps s (stmt.Declare q (w ∷ ws) list) (stmt.Declare p (w ∷ ws) i.read.made)
            (stmt_Declare Part Stmt bare_part_step bare_stmt_step p (w ∷ ws) i.read.made ∙ (ap (λ v. stmt.Declare nowhere (w ∷ ws) v) i.read.same ∙ sym (stmt_Declare Part Stmt bare_part_step bare_stmt_step q (w ∷ ws) list)));
      }));
}

declare_reads : (q : Place) (specs : List Word) (list : List Declarator) → RankedDeclaration specs list → PartReads (stmt.Declare q specs list)
declare_reads q specs list h = λ ps s inside.
    let deep : stmt_depth (stmt.Declare q specs list) ≡ 1 + declarators_depth list = stmt_Declare ℕ ℕ part_depth_step stmt_depth_step q specs list in
    subst (λ kinds. Leads Runs (1 + length s + stmt_depth (stmt.Declare q specs list)) kinds (begins_at ps s) (StmtHolds ps s (stmt.Declare q specs list)))
    (sym (stmt_Declare Spelled Spelled spell_part_step spell_stmt_step q specs list))
    (local_lead (1 + length s + stmt_depth (stmt.Declare q specs list)) ps s q specs list h inside (omega arith) (omega arith))

cons_some : (x : TokenKind) (xs : Spelled) → ◌≡◌ {A = Spelled} (x ∷ xs) [] → ⊥
cons_some x xs e = cc

declare_spelled : (q : Place) (specs : List Word) (list : List Declarator) → RankedDeclaration specs list → spell_stmt (stmt.Declare q specs list) ≢ []
declare_spelled q [] list h = absurd (h.0.0 refl)
declare_spelled q (w ∷ ws) list h = λ e. cons_some (token.Word w) (spell_specs ws ++ (with_commas (map spell_declarator list) ++ the_mark mark.Semicolon)) (sym (stmt_Declare Spelled Spelled spell_part_step spell_stmt_step q (w ∷ ws) list) ∙ e)

-- parts in a row

-- where parts stand: the block of a function, or one in it
pub record Blocks (pf : List Stmt → Parts) (ff : List Stmt → Frames) (n : ℕ) : Type 0 where
  pub size : (done : List Stmt) → length (ff done) ≡ n
  pub inside : (done : List Stmt) → is_in_block (ff done) ≡ true
  pub next : (done : List Stmt) (x : Stmt) (t : Token) → behind (pf done) (ff done) x t ≡ feed_body (begins_at (pf (done ++ x ∷ [])) (ff (done ++ x ∷ []))) t

-- the parts are read: a token that is no `else` finds them there
pub record PartsHold (pf : List Stmt → Parts) (ff : List Stmt → Frames) (parts : List Stmt) (z : Body) : Type 0 where
  pub made : List Stmt
  pub next : (t : Token) → token_is_word t.what word.Else ≡ false → feed_body z t ≡ feed_body (begins_at (pf made) (ff made)) t
  pub same : map bare_stmt made ≡ map bare_stmt parts

pub parts_lead : (bound : ℕ) (pf : List Stmt → Parts) (ff : List Stmt → Frames) (n : ℕ) → Blocks pf ff n → (more : List Stmt) → EachPart more
    → 1 + n + deepest (map stmt_depth more) ≤ bound
    → (seen : List Stmt) (z : Body) → PartsHold pf ff seen z → Leads Runs bound (spell_stmts more) z (PartsHold pf ff (seen ++ more))
parts_lead bound pf ff n blocks [] r low seen z h = subst (λ all. PartsHold pf ff all z) (sym (append-nil seen)) h
parts_lead bound pf ff n blocks (x ∷ more) r low seen z h =
    let size : length (ff h.made) ≡ n = blocks.size h.made in
    leads-then Runs bound bound (spell_stmt x) (spell_stmts more) z (StmtHolds (pf h.made) (ff h.made) x) (PartsHold pf ff (seen ++ x ∷ more)) (omega arith)
    (from_begin bound (spell_stmt x) (pf h.made) (ff h.made) z (StmtHolds (pf h.made) (ff h.made) x) r.1 h.next
    (leads-more Runs (1 + length (ff h.made) + stmt_depth x) bound (spell_stmt x) (begins_at (pf h.made) (ff h.made)) (StmtHolds (pf h.made) (ff h.made) x) (StmtHolds (pf h.made) (ff h.made) x)
    (omega arith) (r.0 (pf h.made) (ff h.made) (blocks.inside h.made)) (λ y k. k)))
    (λ y k. subst (λ all. Leads Runs bound (spell_stmts more) y (PartsHold pf ff all)) (append_assoc seen (x ∷ []) more)
    (parts_lead bound pf ff n blocks more r.2 (omega arith) (seen ++ x ∷ []) y (record {
      made = h.made ++ k.made ∷ [];
      next = λ t u. k.next t (λ _. u) ∙ blocks.next h.made k.made t;
      same = one_more bare_stmt h.made seen k.made x h.same k.same;
    })))

-- a block

block_goes : (ps : Parts) (s : Frames) (p : Place) → Runs (begins_at ps s) (token_at p (token.Mark mark.LeftBrace)) (begins_at ps (frame.Block p [] ∷ s)) (level s)
unfolding feed_body begins mark_begins is_mark
block_goes ps s p = refl

block_closes : (ps : Parts) (s : Frames) (p : Place) (parts : List Stmt) (at : Place)
    → Runs (begins_at ps (frame.Block p parts ∷ s)) (token_at at (token.Mark mark.RightBrace)) (body_at ps s (step.Whole (stmt.Block p parts))) 0
unfolding feed_body begins block_ends mark_begins is_mark
block_closes ps s p parts at = refl

block_next : (ps : Parts) (s : Frames) (p : Place) (done : List Stmt) (x : Stmt) (t : Token)
    → behind ps (frame.Block p done ∷ s) x t ≡ feed_body (begins_at ps (frame.Block p (done ++ x ∷ []) ∷ s)) t
unfolding behind close part more feed_body
block_next ps s p done x t = refl

block_inside : (s : Frames) (p : Place) (done : List Stmt) → is_in_block (frame.Block p done ∷ s) ≡ true
unfolding is_in_block
block_inside s p done = refl

blocks_in : (ps : Parts) (s : Frames) (p : Place) → Blocks (λ done. ps) (λ done. frame.Block p done ∷ s) (1 + length s)
blocks_in ps s p = record {
  size = λ done. omega arith;
  inside = block_inside s p;
  next = block_next ps s p;
}

block_reads : (p : Place) (parts : List Stmt) → EachPart parts → StmtReads (stmt.Block p parts)
block_reads p parts r =
    stmt_by (stmt.Block p parts) (in_braces (spell_stmts parts)) (1 + deepest (map stmt_depth parts)) (stmt_Block Spelled Spelled spell_part_step spell_stmt_step p parts) (stmt_Block ℕ ℕ part_depth_step stmt_depth_step p parts)
    (λ ps s at.
    let bound : ℕ = 1 + length s + (1 + deepest (map stmt_depth parts)) in
    record {
      next = begins_at ps (frame.Block at [] ∷ s);
      reach = level s;
      goes = block_goes ps s at;
      low = omega arith;
      there =
          leads-then Runs bound bound (spell_stmts parts) (the_mark mark.RightBrace) (begins_at ps (frame.Block at [] ∷ s))
          (PartsHold (λ done. ps) (λ done. frame.Block at done ∷ s) parts) (StmtHolds ps s (stmt.Block p parts)) (omega arith)
          (parts_lead bound (λ done. ps) (λ done. frame.Block at done ∷ s) (1 + length s) (blocks_in ps s at) parts r (omega arith) [] (begins_at ps (frame.Block at [] ∷ s))
          (record { made = []; next = λ t u. refl; same = refl }))
          (λ z h to. record {
            next = body_at ps s (step.Whole (stmt.Block at h.made));
            reach = 0;
            goes = h.next (token_at to (token.Mark mark.RightBrace)) refl ∙ block_closes ps s at h.made to;
            low = omega arith;
            there = holds_stmt ps s (stmt.Block p parts) (stmt.Block at h.made)
                (stmt_Block Part Stmt bare_part_step bare_stmt_step at h.made ∙ (ap (λ v. stmt.Block nowhere v) h.same ∙ sym (stmt_Block Part Stmt bare_part_step bare_stmt_step p parts)));
          });
    })

-- no statement has depth 0

stmt_positive : (x : Stmt) → RankedStmt x → 1 ≤ stmt_depth x
stmt_positive _ (value p a x) = above_zero (expr_depth a) _ (stmt_Expr ℕ ℕ part_depth_step stmt_depth_step p a)
stmt_positive _ (empty p) = above_zero 0 _ (stmt_Empty ℕ ℕ part_depth_step stmt_depth_step p)
stmt_positive _ (block p parts x) = above_zero (deepest (map stmt_depth parts)) _ (stmt_Block ℕ ℕ part_depth_step stmt_depth_step p parts)
stmt_positive _ (if_alone p a s x y) = above_zero (max (expr_depth a) (max (stmt_depth s) 0)) _ (if_alone_folds ℕ ℕ part_depth_step stmt_depth_step p a s)
stmt_positive _ (if_else p a s t x y q z) = above_zero (max (expr_depth a) (max (stmt_depth s) (stmt_depth t))) _ (if_else_folds ℕ ℕ part_depth_step stmt_depth_step p a s t)
stmt_positive _ (while_loop p a s x y) = above_zero (max (expr_depth a) (stmt_depth s)) _ (stmt_While ℕ ℕ part_depth_step stmt_depth_step p a s)
stmt_positive _ (do_loop p s a x y) = above_zero (max (stmt_depth s) (expr_depth a)) _ (stmt_DoWhile ℕ ℕ part_depth_step stmt_depth_step p s a)
stmt_positive _ (for_loop p start a b s x y z w) =
    above_zero (max (first_depth start) (max (option_depth a) (max (option_depth b) (stmt_depth s)))) _ (stmt_For ℕ ℕ part_depth_step stmt_depth_step p start a b s)
stmt_positive _ (switch_stmt p a parts x y) =
    above_zero (max (expr_depth a) (deepest (map part_depth parts))) _ (stmt_Switch ℕ ℕ part_depth_step stmt_depth_step p a parts)
stmt_positive _ (break_loop p) = above_zero 0 _ (stmt_Break ℕ ℕ part_depth_step stmt_depth_step p)
stmt_positive _ (continue_loop p) = above_zero 0 _ (stmt_Continue ℕ ℕ part_depth_step stmt_depth_step p)
stmt_positive _ (return_value p a x) = above_zero (option_depth a) _ (stmt_Return ℕ ℕ part_depth_step stmt_depth_step p a)

mutual
  -- a ranked statement is read where one begins, no deeper than it lies, as itself up to places
  pub stmt_complete : (x : Stmt) → RankedStmt x → StmtReads x
  stmt_complete _ (value p a x) = value_reads p a x
  stmt_complete _ (empty p) = empty_reads p
  stmt_complete _ (block p parts x) = block_reads p parts (parts_complete parts x)
  stmt_complete _ (if_alone p a s x y) = if_alone_reads p a s x (depth_positive 0 a x) (stmt_complete s y)
  stmt_complete _ (if_else p a s t x y q z) = if_else_reads p a s t x (depth_positive 0 a x) q (stmt_complete s y) (stmt_complete t z)
  stmt_complete _ (while_loop p a s x y) = while_reads p a s x (depth_positive 0 a x) (stmt_complete s y)
  stmt_complete _ (do_loop p s a x y) = do_reads p s a y (depth_positive 0 a y) (stmt_complete s x)
  stmt_complete _ (for_loop p start a b s x y z w) = for_reads p start a b s x y z (stmt_positive s w) (stmt_complete s w)
  stmt_complete _ (switch_stmt p a parts x y) = switch_reads p a parts x (depth_positive 0 a x) (switched_complete parts y)
  stmt_complete _ (break_loop p) = break_reads p
  stmt_complete _ (continue_loop p) = continue_reads p
  stmt_complete _ (return_value p a x) = return_reads p a x

  pub parts_complete : (parts : List Stmt) → RankedParts parts → EachPart parts
  parts_complete _ no_parts = tt
  parts_complete _ (statement s parts x y) = ((λ ps t inside. stmt_complete s x ps t), not_empty begins_stmt (spell_stmt s) (stmt_begins s x), parts_complete parts y)
  parts_complete _ (declaration p specs list parts x y) = (declare_reads p specs list x, declare_spelled p specs list x, parts_complete parts y)

  pub switched_complete : (parts : List Part) → RankedSwitch parts → EachSwitched parts
  switched_complete _ no_labels = tt
  switched_complete _ (case_label p a parts x y) = (case_reads p a x (depth_positive 2 a x), switched_complete parts y)
  switched_complete _ (default_label p parts y) = (default_reads p, switched_complete parts y)
  switched_complete _ (does p s parts x y) =
      (does_reads p s (not_empty begins_stmt (spell_stmt s) (stmt_begins s x)) (stmt_complete s x), switched_complete parts y)
