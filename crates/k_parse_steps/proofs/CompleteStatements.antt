-- Statements: what one is read as, and those without statements in them.
use Rattle.std.proofs.Common.{ℕ, ◌≡◌, ◌≢◌, ◌+◌, ◌<◌, ◌≤◌, true, false, [], ◌∷◌, ◌++◌, length, Option, Some, None, sym, ap, ◌∙◌, subst, refl, arith, option_map}
use Rattle.k_parse_steps.specs.Types.{Place, Token, TokenKind, Mark, Expr, Stmt, Part, Reading, BlockStage, Body, Stepped}
use Rattle.k_tree.specs.declared.tokens.TokenKind.TheVariants as token
use Rattle.k_tree.specs.declared.tokens.mark.Mark.TheVariants as mark
use Rattle.k_tree.specs.declared.tokens.word.Word.TheVariants as word
use Rattle.k_tree.specs.declared.tree.statement.Stmt.TheVariants as stmt
use Rattle.k_tree.specs.Bare.{bare_expr, bare_stmt, bare_part_step, bare_stmt_step, nowhere}
use Rattle.k_tree.specs.Begins.{Begins, begins_expr}
use Rattle.k_tree.proofs.Folds.{stmt_Expr, stmt_Empty, stmt_Break, stmt_Continue, stmt_Return}
use Rattle.k_tree.specs.Nesting.{expr_depth, option_depth, stmt_depth, part_depth_step, stmt_depth_step}
use Rattle.k_tree.specs.Ranked.{Ranked, IfGiven, ends_open}
use Rattle.k_tree.specs.Spelling.{Spelled, spell_expr, spell_option, spell_stmt, spell_part_step, spell_stmt_step, the_mark, the_word}
use Rattle.k_tree.proofs.Begin.{expr_begins}
use Rattle.k_parse_steps.specs.Operators.{is_spec_word}
use Rattle.k_parse_steps.specs.Expressions.{begin}
use Rattle.k_parse_steps.specs.Readings.{read_maybe, is_fresh, closes}
use Rattle.k_parse_steps.specs.declared.reading.Closer.TheVariants as closer
use Rattle.k_parse_steps.specs.Statements.{mark_begins, jump, Parts, Frames, feed_body, begins, begins_by, expression, expression_by, keyword, value, value_by, in_return, in_return_by, semicolon, behind, declares, level, inner}
use Rattle.k_parse_steps.specs.declared.statement.BlockStage.TheVariants as step
use Rattle.k_parse_steps.specs.declared.turn.Turn.TheVariants as turn
use Rattle.k_parse_steps.proofs.CompleteLeads.{token_at, Moves, Step, Leads, leads-then, leads-more, leads-in}
use Rattle.k_parse_steps.proofs.CompleteHolds.{Feeds}
use Rattle.k_parse_steps.proofs.CompleteExpressions.{Whole, whole}
use Rattle.k_parse_steps.proofs.CompleteReadings.{needed_goes, needed_ends, maybe_goes, maybe_ends, semicolon_below, closes_at}
use Rattle.k_parse_steps.specs.Tokens.{is_mark, is_word, token_is_word}

-- how the machine of a function's block moves
abbrev pub Runs : Moves Body
Runs b t next reach = feed_body b t ≡ turn.Goes next reach

abbrev pub body_at : Parts → Frames → BlockStage → Body
body_at ps s n = record { parts = ps; frames = s; stage = n }

-- a statement begins
abbrev pub begins_at : Parts → Frames → Body
begins_at ps s = body_at ps s step.Begins

-- the statement is read: a token finds it there, and `else` does if no open `if` in it would take that
pub record StmtHolds (ps : Parts) (s : Frames) (x : Stmt) (z : Body) : Type 0 where
  pub made : Stmt
  pub next : (t : Token) → (ends_open x ≡ true → token_is_word t.what word.Else ≡ false) → feed_body z t ≡ behind ps s made t
  pub same : bare_stmt made ≡ bare_stmt x

-- a statement is read where one begins, no deeper than it lies, as itself up to places
abbrev pub StmtReads : Stmt → Type 0
StmtReads x = (ps : Parts) (s : Frames) → Leads Runs (1 + length s + stmt_depth x) (spell_stmt x) (begins_at ps s) (StmtHolds ps s x)

-- a statement by its spelling and its depth
pub stmt_by : (x : Stmt) (xs : Spelled) (d : ℕ) → spell_stmt x ≡ xs → stmt_depth x ≡ d
    → ((ps : Parts) (s : Frames) → Leads Runs (1 + length s + d) xs (begins_at ps s) (StmtHolds ps s x)) → StmtReads x
stmt_by x xs d spelled deep f = λ ps s.
    subst (λ ys. Leads Runs (1 + length s + stmt_depth x) ys (begins_at ps s) (StmtHolds ps s x)) (sym spelled)
    (subst (λ m. Leads Runs (1 + length s + m) xs (begins_at ps s) (StmtHolds ps s x)) (sym deep) (f ps s))

-- a statement that was just made
pub holds_stmt : (ps : Parts) (s : Frames) (x made : Stmt) → bare_stmt made ≡ bare_stmt x → StmtHolds ps s x (body_at ps s (step.Whole made))
unfolding feed_body
holds_stmt ps s x made e = record { made = made; next = λ t f. refl; same = e }

-- an expression

begins_first : (ps : Parts) (s : Frames) (t : Token) (kind : TokenKind) (z : Stepped) → expression ps s t ≡ z → begins_expr kind ≡ true → begins_by ps s t kind ≡ z
unfolding mark_begins is_mark is_word
begins_first ps s t (token.Mark mark.Semicolon) z h b = absurd cc
begins_first ps s t (token.Mark mark.LeftBrace) z h b = absurd cc
begins_first ps s t (token.Mark mark.RightBrace) z h b = absurd cc
begins_first ps s t (token.Word word.Sizeof) z h b = h
begins_first ps s t (token.Word w) z h b = absurd cc
begins_first ps s t kind z h b = h

expression_goes : (ps : Parts) (s : Frames) (t : Token) (next : Reading) (reach : ℕ) → begins_expr t.what ≡ true → Feeds (begin 0 (inner s)) t next reach
    → Runs (begins_at ps s) t (body_at ps s (step.Value t.place next)) reach
unfolding feed_body begins expression mark_begins is_mark
expression_goes ps s t next reach b h =
    begins_first ps s t t.what (turn.Goes (body_at ps s (step.Value t.place next)) reach) (ap (expression_by ps s t.place) h) b

value_moves : (ps : Parts) (s : Frames) (p : Place) (r : Reading) (t : Token) (next : Reading) (reach : ℕ) → Feeds r t next reach
    → Runs (body_at ps s (step.Value p r)) t (body_at ps s (step.Value p next)) reach
unfolding feed_body value
value_moves ps s p r t next reach h = ap (value_by ps s p) (needed_goes r t closer.Semicolon next reach h)

value_ends : (ps : Parts) (s : Frames) (p : Place) (a : Expr) (r : Reading) (h : Whole 0 a r) (at : Place)
    → Runs (body_at ps s (step.Value p r)) (token_at at (token.Mark mark.Semicolon)) (body_at ps s (step.Whole (stmt.Expr p h.made))) 0
unfolding feed_body value
value_ends ps s p a r h at =
    ap (value_by ps s p) (needed_ends r (token_at at (token.Mark mark.Semicolon)) closer.Semicolon h.made
    (h.ends (token_at at (token.Mark mark.Semicolon)) (semicolon_below 0)) (closes_at closer.Semicolon at))

-- in an expression that is a statement
record InValue (ps : Parts) (s : Frames) (a : Expr) (z : Body) : Type 0 where
  place : Place
  reading : Reading
  at : z ≡ body_at ps s (step.Value place reading)
  read : Whole 0 a reading

first_leads : (ps : Parts) (s : Frames) (a : Expr) (bound more : ℕ) (xs : Spelled) → Begins begins_expr xs → bound ≤ more
    → Leads Feeds bound xs (begin 0 (inner s)) (Whole 0 a) → Leads Runs more xs (begins_at ps s) (InValue ps s a)
first_leads ps s a bound more [] b le l = absurd b
first_leads ps s a bound more (x ∷ xs) b le l = λ p.
    let v : Step Feeds bound (begin 0 (inner s)) (token_at p x) (λ next. Leads Feeds bound xs next (Whole 0 a)) = l p in
    record {
      next = body_at ps s (step.Value p v.next);
      reach = v.reach;
      goes = expression_goes ps s (token_at p x) v.next v.reach b v.goes;
      low = let h : v.reach < bound = v.low in omega arith;
      there = leads-in Feeds Runs (λ r. body_at ps s (step.Value p r)) bound more xs v.next (Whole 0 a) (InValue ps s a)
          (value_moves ps s p) le v.there (λ r h. record { place = p; reading = r; at = refl; read = h });
    }

pub value_reads : (p : Place) (a : Expr) → Ranked 0 a → StmtReads (stmt.Expr p a)
value_reads p a x =
    stmt_by (stmt.Expr p a) (spell_expr a ++ the_mark mark.Semicolon) (1 + expr_depth a) (stmt_Expr Spelled Spelled spell_part_step spell_stmt_step p a) (stmt_Expr ℕ ℕ part_depth_step stmt_depth_step p a)
    (λ ps s.
    let bound : ℕ = 1 + length s + (1 + expr_depth a) in
    leads-then Runs bound bound (spell_expr a) (the_mark mark.Semicolon) (begins_at ps s) (InValue ps s a) (StmtHolds ps s (stmt.Expr p a)) (omega arith)
    (first_leads ps s a (inner s + expr_depth a) bound (spell_expr a) (expr_begins 0 a x) (omega arith) (whole 0 (inner s) 0 a x (omega arith) (omega arith)))
    (λ z h to. record {
      next = body_at ps s (step.Whole (stmt.Expr h.place h.read.made));
      reach = 0;
      goes = subst (λ y. Runs y (token_at to (token.Mark mark.Semicolon)) (body_at ps s (step.Whole (stmt.Expr h.place h.read.made))) 0) (sym h.at)
          (value_ends ps s h.place a h.reading h.read to);
      low = omega arith;
      there = holds_stmt ps s (stmt.Expr p a) (stmt.Expr h.place h.read.made)
          (stmt_Expr Part Stmt bare_part_step bare_stmt_step h.place h.read.made ∙ (ap (λ e. stmt.Expr nowhere e) h.read.same ∙ sym (stmt_Expr Part Stmt bare_part_step bare_stmt_step p a)));
    }))

-- a semicolon

empty_goes : (ps : Parts) (s : Frames) (p : Place)
    → Runs (begins_at ps s) (token_at p (token.Mark mark.Semicolon)) (body_at ps s (step.Whole (stmt.Empty p))) (level s)
unfolding feed_body begins mark_begins is_mark
empty_goes ps s p = refl

pub empty_reads : (p : Place) → StmtReads (stmt.Empty p)
empty_reads p =
    stmt_by (stmt.Empty p) (the_mark mark.Semicolon) 1 (stmt_Empty Spelled Spelled spell_part_step spell_stmt_step p) (stmt_Empty ℕ ℕ part_depth_step stmt_depth_step p)
    (λ ps s at. record {
      next = body_at ps s (step.Whole (stmt.Empty at));
      reach = level s;
      goes = empty_goes ps s at;
      low = omega arith;
      there = holds_stmt ps s (stmt.Empty p) (stmt.Empty at) (stmt_Empty Part Stmt bare_part_step bare_stmt_step at ∙ sym (stmt_Empty Part Stmt bare_part_step bare_stmt_step p));
    })

pub semicolon_goes : (ps : Parts) (s : Frames) (x : Stmt) (p : Place)
    → Runs (body_at ps s (step.Semicolon x)) (token_at p (token.Mark mark.Semicolon)) (body_at ps s (step.Whole x)) 0
unfolding feed_body semicolon closes is_mark
semicolon_goes ps s x p = refl

break_goes : (ps : Parts) (s : Frames) (p : Place)
    → Runs (begins_at ps s) (token_at p (token.Word word.Break)) (body_at ps s (step.Semicolon (stmt.Break p))) (level s)
unfolding feed_body begins keyword mark_begins is_mark jump is_spec_word is_word
break_goes ps s p = refl

continue_goes : (ps : Parts) (s : Frames) (p : Place)
    → Runs (begins_at ps s) (token_at p (token.Word word.Continue)) (body_at ps s (step.Semicolon (stmt.Continue p))) (level s)
unfolding feed_body begins keyword mark_begins is_mark jump is_spec_word is_word
continue_goes ps s p = refl

pub break_reads : (p : Place) → StmtReads (stmt.Break p)
break_reads p =
    stmt_by (stmt.Break p) (the_word word.Break ++ the_mark mark.Semicolon) 1 (stmt_Break Spelled Spelled spell_part_step spell_stmt_step p) (stmt_Break ℕ ℕ part_depth_step stmt_depth_step p)
    (λ ps s at. record {
      next = body_at ps s (step.Semicolon (stmt.Break at));
      reach = level s;
      goes = break_goes ps s at;
      low = omega arith;
      there = λ to. record {
        next = body_at ps s (step.Whole (stmt.Break at));
        reach = 0;
        goes = semicolon_goes ps s (stmt.Break at) to;
        low = omega arith;
        there = holds_stmt ps s (stmt.Break p) (stmt.Break at) (stmt_Break Part Stmt bare_part_step bare_stmt_step at ∙ sym (stmt_Break Part Stmt bare_part_step bare_stmt_step p));
      };
    })

pub continue_reads : (p : Place) → StmtReads (stmt.Continue p)
continue_reads p =
    stmt_by (stmt.Continue p) (the_word word.Continue ++ the_mark mark.Semicolon) 1 (stmt_Continue Spelled Spelled spell_part_step spell_stmt_step p) (stmt_Continue ℕ ℕ part_depth_step stmt_depth_step p)
    (λ ps s at. record {
      next = body_at ps s (step.Semicolon (stmt.Continue at));
      reach = level s;
      goes = continue_goes ps s at;
      low = omega arith;
      there = λ to. record {
        next = body_at ps s (step.Whole (stmt.Continue at));
        reach = 0;
        goes = semicolon_goes ps s (stmt.Continue at) to;
        low = omega arith;
        there = holds_stmt ps s (stmt.Continue p) (stmt.Continue at) (stmt_Continue Part Stmt bare_part_step bare_stmt_step at ∙ sym (stmt_Continue Part Stmt bare_part_step bare_stmt_step p));
      };
    })

-- an expression that may be left out, up to a mark

pub record Given {S : Type 0} (after : Option Expr → S) (e : Option Expr) (z : S) : Type 0 where
  pub made : Option Expr
  pub at : z ≡ after made
  pub same : option_map bare_expr made ≡ option_map bare_expr e

record InPart {S : Type 0} (f : Reading → S) (e : Expr) (z : S) : Type 0 where
  reading : Reading
  at : z ≡ f reading
  read : Whole 0 e reading

pub maybe_lead : {S : Type 0} (M : Moves S) (f : Reading → S) (after : Option Expr → S) (m : Mark) (depth bound : ℕ)
    → ((r : Reading) (t : Token) (next : Reading) (reach : ℕ) → Feeds r t next reach → M (f r) t (f next) reach)
    → ((p : Place) → M (f (begin 0 depth)) (token_at p (token.Mark m)) (after None) 0)
    → ((e : Expr) (r : Reading) (h : Whole 0 e r) (p : Place) → M (f r) (token_at p (token.Mark m)) (after (Some h.made)) 0)
    → (e : Option Expr) → IfGiven (Ranked 0) e → 1 ≤ bound → depth + option_depth e ≤ bound
    → Leads M bound (spell_option e ++ the_mark m) (f (begin 0 depth)) (Given after e)
maybe_lead M f after m depth bound moves empty ends None h positive low = λ p. record {
  next = after None;
  reach = 0;
  goes = empty p;
  low = omega arith;
  there = record { made = None; at = refl; same = refl };
}
maybe_lead M f after m depth bound moves empty ends (Some e) h positive low =
    leads-then M bound bound (spell_expr e) (the_mark m) (f (begin 0 depth)) (InPart f e) (Given after (Some e)) (omega arith)
    (leads-in Feeds M f (depth + expr_depth e) bound (spell_expr e) (begin 0 depth) (Whole 0 e) (InPart f e) moves low (whole 0 depth 0 e h (omega arith) (omega arith))
    (λ r i. record { reading = r; at = refl; read = i }))
    (λ z i p. record {
      next = after (Some i.read.made);
      reach = 0;
      goes = subst (λ y. M y (token_at p (token.Mark m)) (after (Some i.read.made)) 0) (sym i.at) (ends e i.reading i.read p);
      low = omega arith;
      there = record { made = Some i.read.made; at = refl; same = ap Some i.read.same };
    })

-- `return`

return_goes : (ps : Parts) (s : Frames) (p : Place)
    → Runs (begins_at ps s) (token_at p (token.Word word.Return)) (body_at ps s (step.Return p (begin 0 (inner s)))) (level s)
unfolding feed_body begins keyword mark_begins is_mark jump is_spec_word is_word
return_goes ps s p = refl

return_moves : (ps : Parts) (s : Frames) (p : Place) (r : Reading) (t : Token) (next : Reading) (reach : ℕ) → Feeds r t next reach
    → Runs (body_at ps s (step.Return p r)) t (body_at ps s (step.Return p next)) reach
unfolding feed_body in_return
return_moves ps s p r t next reach h = ap (in_return_by ps s p) (maybe_goes r t closer.Semicolon next reach h)

return_empty : (ps : Parts) (s : Frames) (p at : Place)
    → Runs (body_at ps s (step.Return p (begin 0 (inner s)))) (token_at at (token.Mark mark.Semicolon)) (body_at ps s (step.Whole (stmt.Return p None))) 0
unfolding feed_body in_return read_maybe is_fresh closes is_mark
return_empty ps s p at = refl

return_ends : (ps : Parts) (s : Frames) (p : Place) (a : Expr) (r : Reading) (h : Whole 0 a r) (at : Place)
    → Runs (body_at ps s (step.Return p r)) (token_at at (token.Mark mark.Semicolon)) (body_at ps s (step.Whole (stmt.Return p (Some h.made)))) 0
unfolding feed_body in_return
return_ends ps s p a r h at =
    ap (in_return_by ps s p) (maybe_ends r (token_at at (token.Mark mark.Semicolon)) closer.Semicolon h.made
    (h.ends (token_at at (token.Mark mark.Semicolon)) (semicolon_below 0)) (closes_at closer.Semicolon at))

pub return_reads : (p : Place) (a : Option Expr) → IfGiven (Ranked 0) a → StmtReads (stmt.Return p a)
return_reads p a x =
    stmt_by (stmt.Return p a) (the_word word.Return ++ (spell_option a ++ the_mark mark.Semicolon)) (1 + option_depth a)
    (stmt_Return Spelled Spelled spell_part_step spell_stmt_step p a) (stmt_Return ℕ ℕ part_depth_step stmt_depth_step p a)
    (λ ps s at.
    let bound : ℕ = 1 + length s + (1 + option_depth a) in
    record {
      next = body_at ps s (step.Return at (begin 0 (inner s)));
      reach = level s;
      goes = return_goes ps s at;
      low = omega arith;
      there =
          leads-more Runs bound bound (spell_option a ++ the_mark mark.Semicolon) (body_at ps s (step.Return at (begin 0 (inner s))))
          (Given (λ e. body_at ps s (step.Whole (stmt.Return at e))) a) (StmtHolds ps s (stmt.Return p a)) (omega arith)
          (maybe_lead Runs (λ r. body_at ps s (step.Return at r)) (λ e. body_at ps s (step.Whole (stmt.Return at e))) mark.Semicolon (inner s) bound
          (return_moves ps s at) (return_empty ps s at) (λ e r h to. return_ends ps s at e r h to) a x (omega arith) (omega arith))
          (λ z h. subst (StmtHolds ps s (stmt.Return p a)) (sym h.at) (holds_stmt ps s (stmt.Return p a) (stmt.Return at h.made)
          (stmt_Return Part Stmt bare_part_step bare_stmt_step at h.made ∙ (ap (λ e. stmt.Return nowhere e) h.same ∙ sym (stmt_Return Part Stmt bare_part_step bare_stmt_step p a)))));
    })

-- what stands behind a statement, where the next one begins

else_refused : (ps : Parts) (s : Frames) (p : Place) → feed_body (begins_at ps s) (token_at p (token.Word word.Else)) ≡ turn.Refused
unfolding feed_body begins keyword declares is_spec_word mark_begins is_mark jump is_word
else_refused ps s p = refl

refused_goes : (b : Body) (reach : ℕ) → ◌≡◌ {A = Stepped} turn.Refused (turn.Goes b reach) → ⊥
refused_goes b reach e = cc

no_else : (ps : Parts) (s : Frames) (p : Place) (kind : TokenKind) (next : Body) (reach : ℕ) → Runs (begins_at ps s) (token_at p kind) next reach → token_is_word kind word.Else ≡ false
unfolding is_word
no_else ps s p (token.Word word.Else) next reach h = absurd (refused_goes next reach (sym (else_refused ps s p) ∙ h))
no_else ps s p kind next reach h = refl

pub from_begin : (bound : ℕ) (xs : Spelled) (ps : Parts) (s : Frames) (z : Body) (Q : Body → Type 0) → xs ≢ []
    → ((t : Token) → token_is_word t.what word.Else ≡ false → feed_body z t ≡ feed_body (begins_at ps s) t)
    → Leads Runs bound xs (begins_at ps s) Q → Leads Runs bound xs z Q
from_begin bound [] ps s z Q some f l = absurd (some refl)
from_begin bound (x ∷ xs) ps s z Q some f l = λ p.
    let first : Step Runs bound (begins_at ps s) (token_at p x) (λ next. Leads Runs bound xs next Q) = l p in
    record {
      next = first.next;
      reach = first.reach;
      goes = f (token_at p x) (no_else ps s p x first.next first.reach first.goes) ∙ first.goes;
      low = first.low;
      there = first.there;
    }
