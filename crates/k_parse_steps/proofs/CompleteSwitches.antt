-- `switch`, with the parts of its braces.
use Rattle.std.proofs.Common.{ℕ, ◌≡◌, ◌≢◌, ◌+◌, ◌≤◌, max, false, List, [], ◌∷◌, ◌++◌, map, length, sym, ap, ◌∙◌, subst, refl, arith, append_assoc, append-nil}
use Rattle.k_parse_steps.specs.Types.{Place, Token, TokenKind, Expr, Stmt, Part, Reading, Body}
use Rattle.k_tree.specs.declared.tokens.TokenKind.TheVariants as token
use Rattle.k_tree.specs.declared.tokens.mark.Mark.TheVariants as mark
use Rattle.k_tree.specs.declared.tokens.word.Word.TheVariants as word
use Rattle.k_tree.specs.declared.tree.statement.Stmt.TheVariants as stmt
use Rattle.k_tree.specs.declared.tree.statement.Part.TheVariants as part_
use Rattle.k_tree.specs.Bare.{bare_expr, bare_part, bare_part_step, bare_stmt_step, nowhere}
use Rattle.k_tree.proofs.Folds.{stmt_Switch, part_Case, part_Default, part_Does}
use Rattle.k_tree.specs.Nesting.{expr_depth, stmt_depth, part_depth, part_depth_step, stmt_depth_step, deepest}
use Rattle.k_tree.specs.Places.{stmt_place}
use Rattle.k_tree.specs.Ranked.{Ranked}
use Rattle.k_tree.specs.Spelling.{Spelled, spell_expr, spell_stmt, spell_part, spell_switched, spell_part_step, spell_stmt_step, the_mark, the_word, in_parens, in_braces}
use Rattle.k_parse_steps.specs.Operators.{is_spec_word}
use Rattle.k_parse_steps.specs.Expressions.{begin}
use Rattle.k_parse_steps.specs.Readings.{closes}
use Rattle.k_parse_steps.specs.declared.reading.Closer.TheVariants as closer
use Rattle.k_parse_steps.specs.Statements.{mark_begins, jump, Parts, Frames, feed_body, begins, keyword, test_done, behind, close, part, more_switched, block_ends, case_begins, default_begins, is_in_switch, in_for, in_switch, braces, case_value, case_by, default_label, labelled, level, inner}
use Rattle.k_parse_steps.specs.declared.statement.Frame.TheVariants as frame
use Rattle.k_parse_steps.specs.declared.statement.Tested.TheVariants as tested
use Rattle.k_parse_steps.specs.declared.statement.BlockStage.TheVariants as step
use Rattle.k_parse_steps.specs.declared.turn.Turn.TheVariants as turn
use Rattle.k_parse_steps.proofs.CompleteLeads.{token_at, Leads, leads-then, leads-more, leads-in}
use Rattle.k_parse_steps.proofs.CompleteHolds.{Feeds}
use Rattle.k_parse_steps.proofs.CompleteExpressions.{Whole, whole}
use Rattle.k_parse_steps.proofs.CompleteReadings.{needed_goes, needed_ends, colon_below, closes_at}
use Rattle.k_parse_steps.proofs.CompleteStatements.{Runs, body_at, begins_at, StmtHolds, StmtReads, stmt_by, holds_stmt, from_begin}
use Rattle.k_parse_steps.proofs.CompleteTests.{tested_lead}
use Rattle.k_parse_steps.proofs.Rows.{one_more}
use Rattle.k_parse_steps.specs.Tokens.{is_mark, is_word, token_is_word}

switch_goes : (ps : Parts) (s : Frames) (p : Place) → Runs (begins_at ps s) (token_at p (token.Word word.Switch)) (body_at ps s (step.Keyword (tested.Switch p))) (inner s)
unfolding feed_body begins keyword mark_begins is_mark jump is_spec_word is_word
switch_goes ps s p = refl

switch_done : (ps : Parts) (s : Frames) (p : Place) (e : Expr) → test_done ps s (tested.Switch p) e ≡ turn.Goes (body_at ps s (step.Braces p e)) 0
unfolding test_done
switch_done ps s p e = refl

abbrev switch_at : Place → Expr → Frames → List Part → Frames
switch_at p e s parts = frame.Switch p e parts ∷ s

braces_open : (ps : Parts) (s : Frames) (p : Place) (e : Expr) (at : Place)
    → Runs (body_at ps s (step.Braces p e)) (token_at at (token.Mark mark.LeftBrace)) (begins_at ps (switch_at p e s [])) 0
unfolding feed_body in_for in_switch braces is_mark
braces_open ps s p e at = refl

switch_closes : (ps : Parts) (s : Frames) (p : Place) (e : Expr) (parts : List Part) (at : Place)
    → Runs (begins_at ps (switch_at p e s parts)) (token_at at (token.Mark mark.RightBrace)) (body_at ps s (step.Whole (stmt.Switch p e parts))) 0
unfolding feed_body begins block_ends mark_begins is_mark
switch_closes ps s p e parts at = refl

switch_next : (ps : Parts) (s : Frames) (p : Place) (e : Expr) (done : List Part) (x : Stmt) (t : Token)
    → behind ps (switch_at p e s done) x t ≡ feed_body (begins_at ps (switch_at p e s (done ++ part_.Does (stmt_place x) x ∷ []))) t
unfolding behind close part more_switched feed_body
switch_next ps s p e done x t = refl

case_goes : (ps : Parts) (s : Frames) (p : Place) (e : Expr) (done : List Part) (at : Place)
    → Runs (begins_at ps (switch_at p e s done)) (token_at at (token.Word word.Case))
    (body_at ps (switch_at p e s done) (step.Case at (begin 2 (level (switch_at p e s done))))) (level (switch_at p e s done))
unfolding feed_body begins keyword mark_begins is_mark jump is_spec_word case_begins is_in_switch is_word
case_goes ps s p e done at = refl

case_moves : (ps : Parts) (s : Frames) (p : Place) (r : Reading) (t : Token) (next : Reading) (reach : ℕ) → Feeds r t next reach
    → Runs (body_at ps s (step.Case p r)) t (body_at ps s (step.Case p next)) reach
unfolding feed_body in_for in_switch case_value
case_moves ps s p r t next reach h = ap (case_by ps s p) (needed_goes r t closer.Colon next reach h)

case_ends : (ps : Parts) (s : Frames) (p : Place) (e : Expr) (done : List Part) (q : Place) (a : Expr) (r : Reading) (h : Whole 2 a r) (at : Place)
    → Runs (body_at ps (switch_at p e s done) (step.Case q r)) (token_at at (token.Mark mark.Colon)) (begins_at ps (switch_at p e s (done ++ part_.Case q h.made ∷ []))) 0
unfolding feed_body in_for in_switch case_value labelled
case_ends ps s p e done q a r h at =
    ap (case_by ps (switch_at p e s done) q) (needed_ends r (token_at at (token.Mark mark.Colon)) closer.Colon h.made
    (h.ends (token_at at (token.Mark mark.Colon)) (colon_below 2)) (closes_at closer.Colon at))

default_goes : (ps : Parts) (s : Frames) (p : Place) (e : Expr) (done : List Part) (at : Place)
    → Runs (begins_at ps (switch_at p e s done)) (token_at at (token.Word word.Default)) (body_at ps (switch_at p e s done) (step.Default at)) 0
unfolding feed_body begins keyword mark_begins is_mark jump is_spec_word default_begins is_in_switch is_word
default_goes ps s p e done at = refl

default_ends : (ps : Parts) (s : Frames) (p : Place) (e : Expr) (done : List Part) (q at : Place)
    → Runs (body_at ps (switch_at p e s done) (step.Default q)) (token_at at (token.Mark mark.Colon)) (begins_at ps (switch_at p e s (done ++ part_.Default q ∷ []))) 0
unfolding feed_body in_for in_switch default_label labelled closes is_mark
default_ends ps s p e done q at = refl

-- the parts are read: a token that is no `else` finds them there
pub record SwitchHolds (ps : Parts) (s : Frames) (p : Place) (e : Expr) (parts : List Part) (z : Body) : Type 0 where
  made : List Part
  next : (t : Token) → token_is_word t.what word.Else ≡ false → feed_body z t ≡ feed_body (begins_at ps (switch_at p e s made)) t
  same : map bare_part made ≡ map bare_part parts

-- a part is read behind others, no deeper than it lies, as itself up to places
abbrev pub PartReads : Part → Type 0
PartReads x =
    (bound : ℕ) (ps : Parts) (s : Frames) (p : Place) (e : Expr) → (2 + length s) + part_depth x ≤ bound → (seen : List Part) (z : Body)
    → SwitchHolds ps s p e seen z → Leads Runs bound (spell_part x) z (SwitchHolds ps s p e (seen ++ x ∷ []))

-- a part by its spelling and its depth
part_by : (x : Part) (xs : Spelled) (d : ℕ) → spell_part x ≡ xs → part_depth x ≡ d
    → ((bound : ℕ) (ps : Parts) (s : Frames) (p : Place) (e : Expr) → (2 + length s) + d ≤ bound → (seen : List Part) (z : Body)
    → SwitchHolds ps s p e seen z → Leads Runs bound xs z (SwitchHolds ps s p e (seen ++ x ∷ []))) → PartReads x
part_by x xs d spelled deep f = λ bound ps s p e low seen z h.
    subst (λ ys. Leads Runs bound ys z (SwitchHolds ps s p e (seen ++ x ∷ []))) (sym spelled)
    (f bound ps s p e (subst (λ m. (2 + length s) + m ≤ bound) deep low) seen z h)

cons_some : (x : TokenKind) (xs : Spelled) → ◌≡◌ {A = Spelled} (x ∷ xs) [] → ⊥
cons_some x xs e = cc

-- `case`

record InCase (ps : Parts) (s : Frames) (q : Place) (a : Expr) (z : Body) : Type 0 where
  reading : Reading
  at : z ≡ body_at ps s (step.Case q reading)
  read : Whole 2 a reading

pub case_reads : (q : Place) (a : Expr) → Ranked 2 a → 1 ≤ expr_depth a → PartReads (part_.Case q a)
case_reads q a x positive =
    part_by (part_.Case q a) (the_word word.Case ++ (spell_expr a ++ the_mark mark.Colon)) (expr_depth a)
    (part_Case Spelled Spelled spell_part_step spell_stmt_step q a) (part_Case ℕ ℕ part_depth_step stmt_depth_step q a)
    (λ bound ps s p e low seen z h.
    let f : Frames = switch_at p e s h.made in
    from_begin bound (the_word word.Case ++ (spell_expr a ++ the_mark mark.Colon)) ps f z (SwitchHolds ps s p e (seen ++ part_.Case q a ∷ []))
    (cons_some (token.Word word.Case) (spell_expr a ++ the_mark mark.Colon)) h.next
    (λ at. record {
      next = body_at ps f (step.Case at (begin 2 (level f)));
      reach = level f;
      goes = case_goes ps s p e h.made at;
      low = omega arith;
      there =
          leads-then Runs bound bound (spell_expr a) (the_mark mark.Colon) (body_at ps f (step.Case at (begin 2 (level f)))) (InCase ps f at a)
          (SwitchHolds ps s p e (seen ++ part_.Case q a ∷ [])) (omega arith)
          (leads-in Feeds Runs (λ r. body_at ps f (step.Case at r)) (level f + expr_depth a) bound (spell_expr a) (begin 2 (level f)) (Whole 2 a) (InCase ps f at a)
          (case_moves ps f at) (omega arith) (whole 2 (level f) 2 a x (omega arith) (omega arith)) (λ r i. record { reading = r; at = refl; read = i }))
          (λ y i to. record {
            next = begins_at ps (switch_at p e s (h.made ++ part_.Case at i.read.made ∷ []));
            reach = 0;
            goes = subst (λ b. Runs b (token_at to (token.Mark mark.Colon)) (begins_at ps (switch_at p e s (h.made ++ part_.Case at i.read.made ∷ []))) 0) (sym i.at)
                (case_ends ps s p e h.made at a i.reading i.read to);
            low = omega arith;
            there = record {
              made = h.made ++ part_.Case at i.read.made ∷ [];
              next = λ t u. refl;
              same = one_more bare_part h.made seen (part_.Case at i.read.made) (part_.Case q a) h.same
                  (part_Case Part Stmt bare_part_step bare_stmt_step at i.read.made
                  ∙ (ap (λ v. part_.Case nowhere v) i.read.same ∙ sym (part_Case Part Stmt bare_part_step bare_stmt_step q a)));
            };
          });
    }))

-- `default`

pub default_reads : (q : Place) → PartReads (part_.Default q)
default_reads q =
    part_by (part_.Default q) (the_word word.Default ++ the_mark mark.Colon) 0
    (part_Default Spelled Spelled spell_part_step spell_stmt_step q) (part_Default ℕ ℕ part_depth_step stmt_depth_step q)
    (λ bound ps s p e low seen z h.
    from_begin bound (the_word word.Default ++ the_mark mark.Colon) ps (switch_at p e s h.made) z (SwitchHolds ps s p e (seen ++ part_.Default q ∷ []))
    (cons_some (token.Word word.Default) (the_mark mark.Colon)) h.next
    (λ at. record {
      next = body_at ps (switch_at p e s h.made) (step.Default at);
      reach = 0;
      goes = default_goes ps s p e h.made at;
      low = omega arith;
      there = λ to. record {
        next = begins_at ps (switch_at p e s (h.made ++ part_.Default at ∷ []));
        reach = 0;
        goes = default_ends ps s p e h.made at to;
        low = omega arith;
        there = record {
          made = h.made ++ part_.Default at ∷ [];
          next = λ t u. refl;
          same = one_more bare_part h.made seen (part_.Default at) (part_.Default q) h.same
              (part_Default Part Stmt bare_part_step bare_stmt_step at ∙ sym (part_Default Part Stmt bare_part_step bare_stmt_step q));
        };
      };
    }))

-- a statement

pub does_reads : (q : Place) (x : Stmt) → spell_stmt x ≢ [] → StmtReads x → PartReads (part_.Does q x)
does_reads q x some f =
    part_by (part_.Does q x) (spell_stmt x) (stmt_depth x)
    (part_Does Spelled Spelled spell_part_step spell_stmt_step q x) (part_Does ℕ ℕ part_depth_step stmt_depth_step q x)
    (λ bound ps s p e low seen z h.
    from_begin bound (spell_stmt x) ps (switch_at p e s h.made) z (SwitchHolds ps s p e (seen ++ part_.Does q x ∷ [])) some h.next
    (leads-more Runs (1 + length (switch_at p e s h.made) + stmt_depth x) bound (spell_stmt x) (begins_at ps (switch_at p e s h.made))
    (StmtHolds ps (switch_at p e s h.made) x) (SwitchHolds ps s p e (seen ++ part_.Does q x ∷ [])) (omega arith) (f ps (switch_at p e s h.made))
    (λ y k. record {
      made = h.made ++ part_.Does (stmt_place k.made) k.made ∷ [];
      next = λ t u. k.next t (λ _. u) ∙ switch_next ps s p e h.made k.made t;
      same = one_more bare_part h.made seen (part_.Does (stmt_place k.made) k.made) (part_.Does q x) h.same
          (part_Does Part Stmt bare_part_step bare_stmt_step (stmt_place k.made) k.made
          ∙ (ap (λ v. part_.Does nowhere v) k.same ∙ sym (part_Does Part Stmt bare_part_step bare_stmt_step q x)));
    })))

-- parts in a row

abbrev pub EachSwitched : List Part → Type 0
EachSwitched [] = Unit {0}
EachSwitched (x ∷ parts) = PartReads x × EachSwitched parts

switched_lead : (bound : ℕ) (ps : Parts) (s : Frames) (p : Place) (e : Expr) (more : List Part) → EachSwitched more
    → (2 + length s) + deepest (map part_depth more) ≤ bound → (seen : List Part) (z : Body) → SwitchHolds ps s p e seen z
    → Leads Runs bound (spell_switched more) z (SwitchHolds ps s p e (seen ++ more))
switched_lead bound ps s p e [] r low seen z h = subst (λ all. SwitchHolds ps s p e all z) (sym (append-nil seen)) h
switched_lead bound ps s p e (x ∷ more) r low seen z h =
    leads-then Runs bound bound (spell_part x) (spell_switched more) z (SwitchHolds ps s p e (seen ++ x ∷ [])) (SwitchHolds ps s p e (seen ++ x ∷ more)) (omega arith)
    (r.0 bound ps s p e (omega arith) seen z h)
    (λ y k. subst (λ all. Leads Runs bound (spell_switched more) y (SwitchHolds ps s p e all)) (append_assoc seen (x ∷ []) more)
    (switched_lead bound ps s p e more r.1 (omega arith) (seen ++ x ∷ []) y k))

pub switch_reads : (p : Place) (a : Expr) (parts : List Part) → Ranked 0 a → 1 ≤ expr_depth a → EachSwitched parts → StmtReads (stmt.Switch p a parts)
switch_reads p a parts x positive r =
    stmt_by (stmt.Switch p a parts) (the_word word.Switch ++ (in_parens (spell_expr a) ++ in_braces (spell_switched parts)))
    (1 + max (expr_depth a) (deepest (map part_depth parts)))
    (stmt_Switch Spelled Spelled spell_part_step spell_stmt_step p a parts) (stmt_Switch ℕ ℕ part_depth_step stmt_depth_step p a parts)
    (λ ps s at.
    let bound : ℕ = 1 + length s + (1 + max (expr_depth a) (deepest (map part_depth parts))) in
    record {
      next = body_at ps s (step.Keyword (tested.Switch at));
      reach = inner s;
      goes = switch_goes ps s at;
      low = omega arith;
      there = tested_lead bound ps s (tested.Switch at) a (λ e. body_at ps s (step.Braces at e)) (in_braces (spell_switched parts)) (StmtHolds ps s (stmt.Switch p a parts))
          (switch_done ps s at) x (omega arith) (omega arith)
          (λ e same from. record {
            next = begins_at ps (switch_at at e s []);
            reach = 0;
            goes = braces_open ps s at e from;
            low = omega arith;
            there =
                leads-then Runs bound bound (spell_switched parts) (the_mark mark.RightBrace) (begins_at ps (switch_at at e s []))
                (SwitchHolds ps s at e parts) (StmtHolds ps s (stmt.Switch p a parts)) (omega arith)
                (switched_lead bound ps s at e parts r (omega arith) [] (begins_at ps (switch_at at e s [])) (record { made = []; next = λ t u. refl; same = refl }))
                (λ z h to. record {
                  next = body_at ps s (step.Whole (stmt.Switch at e h.made));
                  reach = 0;
                  goes = h.next (token_at to (token.Mark mark.RightBrace)) refl ∙ switch_closes ps s at e h.made to;
                  low = omega arith;
                  there = holds_stmt ps s (stmt.Switch p a parts) (stmt.Switch at e h.made)
                      (stmt_Switch Part Stmt bare_part_step bare_stmt_step at e h.made
                      ∙ (ap (λ v. stmt.Switch nowhere v (map bare_part h.made)) same
                      ∙ (ap (λ v. stmt.Switch nowhere (bare_expr a) v) h.same ∙ sym (stmt_Switch Part Stmt bare_part_step bare_stmt_step p a parts))));
                });
          });
    })
