-- `if`, `while` and `do`: statements with a test in parentheses.
use Rattle.std.proofs.Common.{ℕ, ◌≡◌, ◌+◌, ◌≤◌, max, Bool, true, false, [], ◌∷◌, ◌++◌, length, Some, None, sym, ap, ◌∙◌, subst, refl, arith}
use Rattle.k_parse_steps.specs.Types.{Place, Token, Expr, Stmt, Part, Reading, Tested, Body}
use Rattle.k_tree.specs.declared.tokens.TokenKind.TheVariants as token
use Rattle.k_tree.specs.declared.tokens.mark.Mark.TheVariants as mark
use Rattle.k_tree.specs.declared.tokens.word.Word.TheVariants as word
use Rattle.k_tree.specs.declared.tree.statement.Stmt.TheVariants as stmt
use Rattle.k_tree.specs.Bare.{bare_expr, bare_stmt, bare_part_step, bare_stmt_step, nowhere}
use Rattle.k_tree.proofs.Folds.{if_alone, if_else, stmt_While, stmt_DoWhile}
use Rattle.k_tree.specs.Nesting.{expr_depth, stmt_depth, part_depth_step, stmt_depth_step}
use Rattle.k_tree.specs.Ranked.{Ranked, ends_open, ends_open_part, ends_open_step}
use Rattle.k_tree.specs.Spelling.{Spelled, spell_expr, spell_stmt, spell_part_step, spell_stmt_step, the_mark, the_word, in_parens}
use Rattle.k_parse_steps.specs.Operators.{is_spec_word}
use Rattle.k_parse_steps.specs.Expressions.{begin}
use Rattle.k_parse_steps.specs.declared.reading.Closer.TheVariants as closer
use Rattle.k_parse_steps.specs.Statements.{mark_begins, jump, Parts, Frames, feed_body, begins, keyword, opened, test, test_by, test_done, behind, close, closed_by, part, do_while, inner}
use Rattle.k_parse_steps.specs.declared.statement.Frame.TheVariants as frame
use Rattle.k_parse_steps.specs.declared.statement.Tested.TheVariants as tested
use Rattle.k_parse_steps.specs.declared.statement.BlockStage.TheVariants as step
use Rattle.k_parse_steps.specs.declared.turn.Turn.TheVariants as turn
use Rattle.k_parse_steps.proofs.CompleteLeads.{token_at, Leads, leads-then, leads-more, leads-in}
use Rattle.k_parse_steps.proofs.CompleteHolds.{Feeds}
use Rattle.k_parse_steps.proofs.CompleteExpressions.{Whole, whole}
use Rattle.k_parse_steps.proofs.CompleteReadings.{needed_goes, needed_ends, paren_below, closes_at}
use Rattle.k_parse_steps.proofs.CompleteStatements.{Runs, body_at, begins_at, StmtHolds, StmtReads, stmt_by, holds_stmt, semicolon_goes}
use Rattle.k_parse_steps.specs.Tokens.{is_mark, is_word, token_is_word}

-- a test

test_opens : (ps : Parts) (s : Frames) (x : Tested) (p : Place)
    → Runs (body_at ps s (step.Keyword x)) (token_at p (token.Mark mark.LeftParen)) (body_at ps s (step.Test x (begin 0 (inner s)))) 0
unfolding feed_body opened is_mark
test_opens ps s x p = refl

test_moves : (ps : Parts) (s : Frames) (x : Tested) (r : Reading) (t : Token) (next : Reading) (reach : ℕ) → Feeds r t next reach
    → Runs (body_at ps s (step.Test x r)) t (body_at ps s (step.Test x next)) reach
unfolding feed_body test
test_moves ps s x r t next reach h = ap (test_by ps s x) (needed_goes r t closer.Paren next reach h)

test_ends : (ps : Parts) (s : Frames) (x : Tested) (a : Expr) (r : Reading) (h : Whole 0 a r) (at : Place)
    → feed_body (body_at ps s (step.Test x r)) (token_at at (token.Mark mark.RightParen)) ≡ test_done ps s x h.made
unfolding feed_body test
test_ends ps s x a r h at =
    ap (test_by ps s x) (needed_ends r (token_at at (token.Mark mark.RightParen)) closer.Paren h.made
    (h.ends (token_at at (token.Mark mark.RightParen)) (paren_below 0)) (closes_at closer.Paren at))

-- behind a test
record Behind (after : Expr → Body) (a : Expr) (z : Body) : Type 0 where
  made : Expr
  at : z ≡ after made
  same : bare_expr made ≡ bare_expr a

record InTest (ps : Parts) (s : Frames) (x : Tested) (a : Expr) (z : Body) : Type 0 where
  reading : Reading
  at : z ≡ body_at ps s (step.Test x reading)
  read : Whole 0 a reading

-- a test in parentheses, whose first stands behind the keyword
test_lead : (bound : ℕ) (ps : Parts) (s : Frames) (x : Tested) (a : Expr) (after : Expr → Body) → ((e : Expr) → test_done ps s x e ≡ turn.Goes (after e) 0)
    → Ranked 0 a → 1 ≤ bound → inner s + expr_depth a ≤ bound
    → Leads Runs bound (in_parens (spell_expr a)) (body_at ps s (step.Keyword x)) (Behind after a)
test_lead bound ps s x a after done h positive low = λ p. record {
  next = body_at ps s (step.Test x (begin 0 (inner s)));
  reach = 0;
  goes = test_opens ps s x p;
  low = omega arith;
  there =
      leads-then Runs bound bound (spell_expr a) (the_mark mark.RightParen) (body_at ps s (step.Test x (begin 0 (inner s)))) (InTest ps s x a) (Behind after a) (omega arith)
      (leads-in Feeds Runs (λ r. body_at ps s (step.Test x r)) (inner s + expr_depth a) bound (spell_expr a) (begin 0 (inner s)) (Whole 0 a) (InTest ps s x a)
      (test_moves ps s x) low (whole 0 (inner s) 0 a h (omega arith) (omega arith)) (λ r i. record { reading = r; at = refl; read = i }))
      (λ z i at. record {
        next = after i.read.made;
        reach = 0;
        goes = subst (λ y. Runs y (token_at at (token.Mark mark.RightParen)) (after i.read.made) 0) (sym i.at) (test_ends ps s x a i.reading i.read at ∙ done i.read.made);
        low = omega arith;
        there = record { made = i.read.made; at = refl; same = i.read.same };
      });
}

-- a keyword, a test, and what stands behind
pub tested_lead : (bound : ℕ) (ps : Parts) (s : Frames) (x : Tested) (a : Expr) (after : Expr → Body) (rest : Spelled) (Q : Body → Type 0)
    → ((e : Expr) → test_done ps s x e ≡ turn.Goes (after e) 0) → Ranked 0 a → 1 ≤ bound → inner s + expr_depth a ≤ bound
    → ((e : Expr) → bare_expr e ≡ bare_expr a → Leads Runs bound rest (after e) Q)
    → Leads Runs bound (in_parens (spell_expr a) ++ rest) (body_at ps s (step.Keyword x)) Q
tested_lead bound ps s x a after rest Q done h positive low f =
    leads-then Runs bound bound (in_parens (spell_expr a)) rest (body_at ps s (step.Keyword x)) (Behind after a) Q (omega arith)
    (test_lead bound ps s x a after done h positive low)
    (λ z i. subst (λ y. Leads Runs bound rest y Q) (sym i.at) (f i.made i.same))

then_done : (ps : Parts) (s : Frames) (p : Place) (e : Expr) → test_done ps s (tested.If p) e ≡ turn.Goes (begins_at ps (frame.Then p e ∷ s)) 0
unfolding test_done
then_done ps s p e = refl

while_done : (ps : Parts) (s : Frames) (p : Place) (e : Expr) → test_done ps s (tested.While p) e ≡ turn.Goes (begins_at ps (frame.While p e ∷ s)) 0
unfolding test_done
while_done ps s p e = refl

do_done : (ps : Parts) (s : Frames) (p : Place) (b : Stmt) (e : Expr)
    → test_done ps s (tested.Do p b) e ≡ turn.Goes (body_at ps s (step.Semicolon (stmt.DoWhile p b e))) 0
unfolding test_done
do_done ps s p b e = refl

if_goes : (ps : Parts) (s : Frames) (p : Place) → Runs (begins_at ps s) (token_at p (token.Word word.If)) (body_at ps s (step.Keyword (tested.If p))) (inner s)
unfolding feed_body begins keyword mark_begins is_mark jump is_spec_word is_word
if_goes ps s p = refl

while_goes : (ps : Parts) (s : Frames) (p : Place) → Runs (begins_at ps s) (token_at p (token.Word word.While)) (body_at ps s (step.Keyword (tested.While p))) (inner s)
unfolding feed_body begins keyword mark_begins is_mark jump is_spec_word is_word
while_goes ps s p = refl

do_goes : (ps : Parts) (s : Frames) (p : Place) → Runs (begins_at ps s) (token_at p (token.Word word.Do)) (begins_at ps (frame.Do p ∷ s)) (inner s)
unfolding feed_body begins keyword mark_begins is_mark jump is_spec_word is_word
do_goes ps s p = refl

-- what a statement that ends does to the construct around it

while_behind : (ps : Parts) (s : Frames) (p : Place) (e : Expr) (b : Stmt) (t : Token) → behind ps (frame.While p e ∷ s) b t ≡ behind ps s (stmt.While p e b) t
unfolding behind close
while_behind ps s p e b t = refl

else_behind : (ps : Parts) (s : Frames) (p : Place) (e : Expr) (a b : Stmt) (t : Token) → behind ps (frame.Else p e a ∷ s) b t ≡ behind ps s (stmt.If p e a (Some b)) t
unfolding behind close
else_behind ps s p e a b t = refl

then_behind : (ps : Parts) (s : Frames) (p : Place) (e : Expr) (a : Stmt) (t : Token) → token_is_word t.what word.Else ≡ false
    → behind ps (frame.Then p e ∷ s) a t ≡ behind ps s (stmt.If p e a None) t
unfolding behind close
then_behind ps s p e a t h = ap (λ b. closed_by ps s (close (frame.Then p e) a b) t (λ y. behind ps s y t)) h

then_else : (ps : Parts) (s : Frames) (p : Place) (e : Expr) (a : Stmt) (at : Place)
    → behind ps (frame.Then p e ∷ s) a (token_at at (token.Word word.Else)) ≡ turn.Goes (begins_at ps (frame.Else p e a ∷ s)) 0
unfolding behind close part is_word
then_else ps s p e a at = refl

do_behind : (ps : Parts) (s : Frames) (p : Place) (b : Stmt) (at : Place)
    → behind ps (frame.Do p ∷ s) b (token_at at (token.Word word.While)) ≡ turn.Goes (body_at ps s (step.Keyword (tested.Do p b))) 0
unfolding behind close part do_while is_word
do_behind ps s p b at = refl

-- `while`

pub while_reads : (p : Place) (a : Expr) (b : Stmt) → Ranked 0 a → 1 ≤ expr_depth a → StmtReads b → StmtReads (stmt.While p a b)
while_reads p a b x positive f =
    stmt_by (stmt.While p a b) (the_word word.While ++ (in_parens (spell_expr a) ++ spell_stmt b)) (1 + max (expr_depth a) (stmt_depth b))
    (stmt_While Spelled Spelled spell_part_step spell_stmt_step p a b) (stmt_While ℕ ℕ part_depth_step stmt_depth_step p a b)
    (λ ps s at.
    let bound : ℕ = 1 + length s + (1 + max (expr_depth a) (stmt_depth b)) in
    record {
      next = body_at ps s (step.Keyword (tested.While at));
      reach = inner s;
      goes = while_goes ps s at;
      low = omega arith;
      there = tested_lead bound ps s (tested.While at) a (λ e. begins_at ps (frame.While at e ∷ s)) (spell_stmt b) (StmtHolds ps s (stmt.While p a b))
          (while_done ps s at) x (omega arith) (omega arith)
          (λ e same. leads-more Runs (1 + length (frame.While at e ∷ s) + stmt_depth b) bound (spell_stmt b) (begins_at ps (frame.While at e ∷ s))
          (StmtHolds ps (frame.While at e ∷ s) b) (StmtHolds ps s (stmt.While p a b)) (omega arith)
          (f ps (frame.While at e ∷ s))
          (λ z h. record {
            made = stmt.While at e h.made;
            next = λ t u. h.next t (λ v. u (stmt_While (Unit {0}) Bool ends_open_part ends_open_step p a b ∙ v)) ∙ while_behind ps s at e h.made t;
            same = stmt_While Part Stmt bare_part_step bare_stmt_step at e h.made
                ∙ (ap (λ v. stmt.While nowhere v (bare_stmt h.made)) same ∙ (ap (λ v. stmt.While nowhere (bare_expr a) v) h.same ∙ sym (stmt_While Part Stmt bare_part_step bare_stmt_step p a b)));
          }));
    })

-- `do`

pub do_reads : (p : Place) (b : Stmt) (a : Expr) → Ranked 0 a → 1 ≤ expr_depth a → StmtReads b → StmtReads (stmt.DoWhile p b a)
unfolding is_word
do_reads p b a x positive f =
    stmt_by (stmt.DoWhile p b a) (the_word word.Do ++ (spell_stmt b ++ (the_word word.While ++ (in_parens (spell_expr a) ++ the_mark mark.Semicolon))))
    (1 + max (stmt_depth b) (expr_depth a)) (stmt_DoWhile Spelled Spelled spell_part_step spell_stmt_step p b a) (stmt_DoWhile ℕ ℕ part_depth_step stmt_depth_step p b a)
    (λ ps s at.
    let bound : ℕ = 1 + length s + (1 + max (stmt_depth b) (expr_depth a)) in
    record {
      next = begins_at ps (frame.Do at ∷ s);
      reach = inner s;
      goes = do_goes ps s at;
      low = omega arith;
      there =
          leads-then Runs (1 + length (frame.Do at ∷ s) + stmt_depth b) bound (spell_stmt b) (the_word word.While ++ (in_parens (spell_expr a) ++ the_mark mark.Semicolon))
          (begins_at ps (frame.Do at ∷ s)) (StmtHolds ps (frame.Do at ∷ s) b) (StmtHolds ps s (stmt.DoWhile p b a)) (omega arith)
          (f ps (frame.Do at ∷ s))
          (λ z h to. record {
            next = body_at ps s (step.Keyword (tested.Do at h.made));
            reach = 0;
            goes = h.next (token_at to (token.Word word.While)) (λ u. refl) ∙ do_behind ps s at h.made to;
            low = omega arith;
            there = tested_lead bound ps s (tested.Do at h.made) a (λ e. body_at ps s (step.Semicolon (stmt.DoWhile at h.made e))) (the_mark mark.Semicolon) (StmtHolds ps s (stmt.DoWhile p b a))
                (do_done ps s at h.made) x (omega arith) (omega arith)
                (λ e same last. record {
                  next = body_at ps s (step.Whole (stmt.DoWhile at h.made e));
                  reach = 0;
                  goes = semicolon_goes ps s (stmt.DoWhile at h.made e) last;
                  low = omega arith;
                  there = holds_stmt ps s (stmt.DoWhile p b a) (stmt.DoWhile at h.made e)
                      (stmt_DoWhile Part Stmt bare_part_step bare_stmt_step at h.made e
                      ∙ (ap (λ v. stmt.DoWhile nowhere v (bare_expr e)) h.same ∙ (ap (λ v. stmt.DoWhile nowhere (bare_stmt b) v) same ∙ sym (stmt_DoWhile Part Stmt bare_part_step bare_stmt_step p b a))));
                });
          });
    })

-- `if`

pub if_alone_reads : (p : Place) (a : Expr) (b : Stmt) → Ranked 0 a → 1 ≤ expr_depth a → StmtReads b → StmtReads (stmt.If p a b None)
if_alone_reads p a b x positive f =
    stmt_by (stmt.If p a b None) (the_word word.If ++ (in_parens (spell_expr a) ++ (spell_stmt b ++ []))) (1 + max (expr_depth a) (max (stmt_depth b) 0))
    (if_alone Spelled Spelled spell_part_step spell_stmt_step p a b) (if_alone ℕ ℕ part_depth_step stmt_depth_step p a b)
    (λ ps s at.
    let bound : ℕ = 1 + length s + (1 + max (expr_depth a) (max (stmt_depth b) 0)) in
    record {
      next = body_at ps s (step.Keyword (tested.If at));
      reach = inner s;
      goes = if_goes ps s at;
      low = omega arith;
      there = tested_lead bound ps s (tested.If at) a (λ e. begins_at ps (frame.Then at e ∷ s)) (spell_stmt b ++ []) (StmtHolds ps s (stmt.If p a b None))
          (then_done ps s at) x (omega arith) (omega arith)
          (λ e same. leads-then Runs (1 + length (frame.Then at e ∷ s) + stmt_depth b) bound (spell_stmt b) [] (begins_at ps (frame.Then at e ∷ s))
          (StmtHolds ps (frame.Then at e ∷ s) b) (StmtHolds ps s (stmt.If p a b None)) (omega arith)
          (f ps (frame.Then at e ∷ s))
          (λ z h. record {
            made = stmt.If at e h.made None;
            next = λ t u. let other : token_is_word t.what word.Else ≡ false = u (if_alone (Unit {0}) Bool ends_open_part ends_open_step p a b) in
                h.next t (λ v. other) ∙ then_behind ps s at e h.made t other;
            same = if_alone Part Stmt bare_part_step bare_stmt_step at e h.made
                ∙ (ap (λ v. stmt.If nowhere v (bare_stmt h.made) None) same ∙ (ap (λ v. stmt.If nowhere (bare_expr a) v None) h.same ∙ sym (if_alone Part Stmt bare_part_step bare_stmt_step p a b)));
          }));
    })

shut : (b : Bool) → b ≡ false → b ≡ true → false ≡ true
shut b e f = sym e ∙ f

pub if_else_reads : (p : Place) (a : Expr) (b c : Stmt) → Ranked 0 a → 1 ≤ expr_depth a → ends_open b ≡ false → StmtReads b → StmtReads c → StmtReads (stmt.If p a b (Some c))
if_else_reads p a b c x positive q f n =
    stmt_by (stmt.If p a b (Some c)) (the_word word.If ++ (in_parens (spell_expr a) ++ (spell_stmt b ++ (the_word word.Else ++ spell_stmt c))))
    (1 + max (expr_depth a) (max (stmt_depth b) (stmt_depth c))) (if_else Spelled Spelled spell_part_step spell_stmt_step p a b c) (if_else ℕ ℕ part_depth_step stmt_depth_step p a b c)
    (λ ps s at.
    let bound : ℕ = 1 + length s + (1 + max (expr_depth a) (max (stmt_depth b) (stmt_depth c))) in
    record {
      next = body_at ps s (step.Keyword (tested.If at));
      reach = inner s;
      goes = if_goes ps s at;
      low = omega arith;
      there = tested_lead bound ps s (tested.If at) a (λ e. begins_at ps (frame.Then at e ∷ s)) (spell_stmt b ++ (the_word word.Else ++ spell_stmt c)) (StmtHolds ps s (stmt.If p a b (Some c)))
          (then_done ps s at) x (omega arith) (omega arith)
          (λ e same. leads-then Runs (1 + length (frame.Then at e ∷ s) + stmt_depth b) bound (spell_stmt b) (the_word word.Else ++ spell_stmt c) (begins_at ps (frame.Then at e ∷ s))
          (StmtHolds ps (frame.Then at e ∷ s) b) (StmtHolds ps s (stmt.If p a b (Some c))) (omega arith)
          (f ps (frame.Then at e ∷ s))
          (λ z h to. record {
            next = begins_at ps (frame.Else at e h.made ∷ s);
            reach = 0;
            goes = h.next (token_at to (token.Word word.Else)) (λ v. let no_way : false ≡ true = shut (ends_open b) q v in absurd cc) ∙ then_else ps s at e h.made to;
            low = omega arith;
            there = leads-more Runs (1 + length (frame.Else at e h.made ∷ s) + stmt_depth c) bound (spell_stmt c) (begins_at ps (frame.Else at e h.made ∷ s))
                (StmtHolds ps (frame.Else at e h.made ∷ s) c) (StmtHolds ps s (stmt.If p a b (Some c))) (omega arith)
                (n ps (frame.Else at e h.made ∷ s))
                (λ y k. record {
                  made = stmt.If at e h.made (Some k.made);
                  next = λ t u. k.next t (λ v. u (if_else (Unit {0}) Bool ends_open_part ends_open_step p a b c ∙ v)) ∙ else_behind ps s at e h.made k.made t;
                  same = if_else Part Stmt bare_part_step bare_stmt_step at e h.made k.made
                      ∙ (ap (λ v. stmt.If nowhere v (bare_stmt h.made) (Some (bare_stmt k.made))) same
                      ∙ (ap (λ v. stmt.If nowhere (bare_expr a) v (Some (bare_stmt k.made))) h.same
                      ∙ (ap (λ v. stmt.If nowhere (bare_expr a) (bare_stmt b) (Some v)) k.same
                      ∙ sym (if_else Part Stmt bare_part_step bare_stmt_step p a b c))));
                });
          }));
    })
