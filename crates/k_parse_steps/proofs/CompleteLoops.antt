-- `for`, with its three parts.
use Rattle.std.proofs.Common.{ℕ, ◌≡◌, ◌+◌, ◌≤◌, max, Bool, true, false, cond, ◌&&◌, IsTrue, List, [], ◌∷◌, ◌++◌, map, length, Option, Some, None, sym, ap, ◌∙◌, subst, refl, arith, append_assoc, ⊎_elim, option_map}
use Rattle.std.proofs.lemmas.Bool.{and_parts, eqb-true, cases_Bool}
use Rattle.std.proofs.lemmas.List.Elements.{All-head}
use Rattle.k_parse_steps.specs.Types.{Place, Token, TokenKind, Word, Expr, Declarator, First, Stmt, Part, Declaration, Reading, ExpressionStage, Site, Body}
use Rattle.k_tree.specs.declared.tokens.TokenKind.TheVariants as token
use Rattle.k_tree.specs.declared.tokens.mark.Mark.TheVariants as mark
use Rattle.k_tree.specs.declared.tokens.word.Word.TheVariants as word
use Rattle.k_tree.specs.declared.tree.statement.First.TheVariants as first
use Rattle.k_tree.specs.declared.tree.statement.Stmt.TheVariants as stmt
use Rattle.k_tree.specs.Bare.{bare_expr, bare_first, bare_stmt, bare_part_step, bare_stmt_step, nowhere}
use Rattle.k_tree.proofs.Folds.{stmt_For}
use Rattle.k_tree.specs.Nesting.{option_depth, first_depth, declarators_depth, stmt_depth, part_depth_step, stmt_depth_step}
use Rattle.k_tree.specs.Ranked.{Ranked, IfGiven, RankedFirst, RankedDeclaration, ends_open_part, ends_open_step, is_spec}
use Rattle.k_tree.specs.Spelling.{Spelled, spell_specs, spell_declarator, spell_declaration, with_commas, spell_option, spell_first, spell_for, spell_stmt, spell_part_step, spell_stmt_step, the_mark, the_word}
use Rattle.k_parse_steps.specs.Operators.{is_spec_word}
use Rattle.k_parse_steps.specs.Expressions.{feed, operand, word_operand, is_before_type, type_begun, goes, level as expr_level, begin, Opens}
use Rattle.k_parse_steps.specs.Readings.{read_maybe, is_fresh, closes}
use Rattle.k_parse_steps.specs.declared.reading.Closer.TheVariants as closer
use Rattle.k_parse_steps.specs.Declarations.{begin_declaration}
use Rattle.k_parse_steps.specs.Statements.{mark_begins, jump, Parts, Frames, feed_body, begins, keyword, in_for, for_opened, start, start_with, start_by, first_of, specifier, specifier_by, for_declares, for_declares_by, second, second_by, third, third_by, behind, close, inner}
use Rattle.k_parse_steps.specs.declared.expression.ExpressionStage.TheVariants as now
use Rattle.k_parse_steps.specs.declared.expression.Open.TheVariants as open_
use Rattle.k_parse_steps.specs.declared.turn.Turn.TheVariants as turn
use Rattle.k_parse_steps.specs.declared.statement.Frame.TheVariants as frame
use Rattle.k_parse_steps.specs.declared.statement.BlockStage.TheVariants as step
use Rattle.k_parse_steps.proofs.CompleteLeads.{token_at, Leads, leads-then, leads-more, leads-in}
use Rattle.k_parse_steps.proofs.CompleteHolds.{Feeds, reading, awaits}
use Rattle.k_parse_steps.proofs.CompleteExpressions.{Whole}
use Rattle.k_parse_steps.proofs.CompleteReadings.{maybe_goes, maybe_ends, semicolon_below, paren_below, closes_at, refused_goes}
use Rattle.k_parse_steps.proofs.CompleteInitialisers.{Declares}
use Rattle.k_parse_steps.proofs.CompleteDeclarations.{DeclarationHolds, declaration_complete}
use Rattle.k_parse_steps.proofs.CompleteStatements.{Runs, body_at, begins_at, StmtHolds, StmtReads, stmt_by, Given, maybe_lead}
use Rattle.k_parse_steps.proofs.CompleteTypes.{spec_is_no_sizeof}
use Rattle.k_parse_steps.specs.Tokens.{is_mark, is_word}

-- a specifier is refused where an expression begins

spec_refused : (g : Site) (p : Place) (w : Word) → is_spec_word w ≡ true → feed (awaits g []) (token_at p (token.Word w)) ≡ turn.Refused
unfolding feed operand word_operand is_spec_word is_before_type
spec_refused g p w h =
    ap (λ b. cond b (goes g (open_.Sizeof p ∷ []) now.Operand (expr_level g [])) (cond (is_spec w && false) (type_begun g [] w) turn.Refused)) (spec_is_no_sizeof w h)
    ∙ ap (λ b. cond (b && false) (type_begun g [] w) turn.Refused) h

opens_refused : (g : Site) (s : Opens) (p : Place) (w : Word) → length s ≡ 0 → is_spec_word w ≡ true → feed (awaits g s) (token_at p (token.Word w)) ≡ turn.Refused
opens_refused g [] p w z e = spec_refused g p w e
opens_refused g (o ∷ s) p w z e = absurd (omega arith)

state_refused : (g : Site) (s : Opens) (n : ExpressionStage) (p : Place) (w : Word) → is_fresh (reading g s n) ≡ true → is_spec_word w ≡ true
    → feed (reading g s n) (token_at p (token.Word w)) ≡ turn.Refused
unfolding is_fresh
state_refused g s now.Operand p w f e = opens_refused g s p w (eqb-true (length s) 0 f) e
state_refused g s n p w f e = absurd cc

word_no_specifier : (r : Reading) (p : Place) (w : Word) → (feed r (token_at p (token.Word w)) ≡ turn.Refused → ⊥) → specifier_by r (token.Word w) ≡ None
word_no_specifier r p w f =
    ⊎_elim
    (λ e. let both : (is_spec_word w ≡ true) × (is_fresh r ≡ true) = and_parts (is_spec_word w) (is_fresh r) e in
    absurd (f (state_refused r.site r.opens r.stage p w both.1 both.0)))
    (λ e. ap (λ b. cond b (Some w) None) e)
    (cases_Bool (is_spec_word w && is_fresh r))

kind_no_specifier : (r : Reading) (p : Place) (kind : TokenKind) → (feed r (token_at p kind) ≡ turn.Refused → ⊥) → specifier_by r kind ≡ None
kind_no_specifier r p (token.Word w) f = word_no_specifier r p w f
kind_no_specifier r p kind f = refl

-- the parts

for_goes : (ps : Parts) (s : Frames) (p : Place) → Runs (begins_at ps s) (token_at p (token.Word word.For)) (body_at ps s (step.For p)) (inner s)
unfolding feed_body begins keyword mark_begins is_mark jump is_spec_word is_word
for_goes ps s p = refl

for_opens : (ps : Parts) (s : Frames) (p at : Place) → Runs (body_at ps s (step.For p)) (token_at at (token.Mark mark.LeftParen)) (body_at ps s (step.Start p (begin 0 (inner s)))) 0
unfolding feed_body in_for for_opened is_mark
for_opens ps s p at = refl

start_moves : (ps : Parts) (s : Frames) (p : Place) (r : Reading) (t : Token) (next : Reading) (reach : ℕ) → Feeds r t next reach
    → Runs (body_at ps s (step.Start p r)) t (body_at ps s (step.Start p next)) reach
unfolding feed_body in_for start specifier
start_moves ps s p r t next reach h =
    ap (start_with ps s p r t) (kind_no_specifier r t.place t.what (λ e. refused_goes next reach (sym e ∙ h)))
    ∙ ap (start_by ps s p) (maybe_goes r t closer.Semicolon next reach h)

second_at : Parts → Frames → Place → First → Body
second_at ps s p x = body_at ps s (step.Second p x (begin 0 (inner s)))

start_empty : (ps : Parts) (s : Frames) (p at : Place)
    → Runs (body_at ps s (step.Start p (begin 0 (inner s)))) (token_at at (token.Mark mark.Semicolon)) (second_at ps s p (first_of None)) 0
unfolding feed_body in_for start specifier read_maybe is_fresh closes second_at is_mark
start_empty ps s p at = refl

start_ends : (ps : Parts) (s : Frames) (p : Place) (a : Expr) (r : Reading) (h : Whole 0 a r) (at : Place)
    → Runs (body_at ps s (step.Start p r)) (token_at at (token.Mark mark.Semicolon)) (second_at ps s p (first_of (Some h.made))) 0
unfolding feed_body in_for start specifier second_at
start_ends ps s p a r h at =
    ap (start_by ps s p) (maybe_ends r (token_at at (token.Mark mark.Semicolon)) closer.Semicolon h.made
    (h.ends (token_at at (token.Mark mark.Semicolon)) (semicolon_below 0)) (closes_at closer.Semicolon at))

start_specifier : (ps : Parts) (s : Frames) (p : Place) (w : Word) (at : Place) → IsTrue (is_spec w)
    → Runs (body_at ps s (step.Start p (begin 0 (inner s)))) (token_at at (token.Word w)) (body_at ps s (step.Declares p (begin_declaration w (inner s)))) 0
unfolding feed_body in_for start specifier is_spec_word is_fresh
start_specifier ps s p w at h =
    ap (λ b. start_with ps s p (begin 0 (inner s)) (token_at at (token.Word w)) (cond (b && true) (Some w) None)) h

declares_moves : (ps : Parts) (s : Frames) (p : Place) (d : Declaration) (t : Token) (next : Declaration) (reach : ℕ) → Declares d t next reach
    → Runs (body_at ps s (step.Declares p d)) t (body_at ps s (step.Declares p next)) reach
unfolding feed_body in_for for_declares
declares_moves ps s p d t next reach h = ap (for_declares_by ps s p) h

declares_ends : (ps : Parts) (s : Frames) (p : Place) (specs : List Word) (list : List Declarator) (d : Declaration) (h : DeclarationHolds specs list d) (at : Place)
    → Runs (body_at ps s (step.Declares p d)) (token_at at (token.Mark mark.Semicolon)) (second_at ps s p (first.Declare specs h.made)) 0
unfolding feed_body in_for for_declares second_at
declares_ends ps s p specs list d h at = ap (for_declares_by ps s p) (h.ends at)

-- the first part is read
record FirstRead (ps : Parts) (s : Frames) (p : Place) (x : First) (z : Body) : Type 0 where
  made : First
  at : z ≡ second_at ps s p made
  same : bare_first made ≡ bare_first x

some_once : (a b : Expr) → ◌≡◌ {A = Option Expr} (Some a) (Some b) → a ≡ b
some_once a b e = cc

first_same : (e : Option Expr) (f : Option Expr) → option_map bare_expr e ≡ option_map bare_expr f → bare_first (first_of e) ≡ bare_first (first_of f)
first_same None None h = refl
first_same None (Some f) h = absurd cc
first_same (Some e) None h = absurd cc
first_same (Some e) (Some f) h = ap first.Value (some_once (bare_expr e) (bare_expr f) h)

record InDeclaration (ps : Parts) (s : Frames) (p : Place) (specs : List Word) (list : List Declarator) (z : Body) : Type 0 where
  declaration : Declaration
  at : z ≡ body_at ps s (step.Declares p declaration)
  read : DeclarationHolds specs list declaration

option_lead : (bound : ℕ) (ps : Parts) (s : Frames) (p : Place) (e : Option Expr) → IfGiven (Ranked 0) e → 1 ≤ bound → inner s + option_depth e ≤ bound
    → Leads Runs bound (spell_option e ++ the_mark mark.Semicolon) (body_at ps s (step.Start p (begin 0 (inner s)))) (FirstRead ps s p (first_of e))
option_lead bound ps s p e h positive low =
    leads-more Runs bound bound (spell_option e ++ the_mark mark.Semicolon) (body_at ps s (step.Start p (begin 0 (inner s))))
    (Given (λ v. second_at ps s p (first_of v)) e) (FirstRead ps s p (first_of e)) (omega arith)
    (maybe_lead Runs (λ r. body_at ps s (step.Start p r)) (λ v. second_at ps s p (first_of v)) mark.Semicolon (inner s) bound
    (start_moves ps s p) (start_empty ps s p) (λ v r i at. start_ends ps s p v r i at) e h positive low)
    (λ z i. record { made = first_of i.made; at = i.at; same = first_same i.made e i.same })

declare_lead : (bound : ℕ) (ps : Parts) (s : Frames) (p : Place) (specs : List Word) (list : List Declarator) → RankedDeclaration specs list → 1 ≤ bound
    → inner s + declarators_depth list ≤ bound
    → Leads Runs bound (spell_declaration specs list) (body_at ps s (step.Start p (begin 0 (inner s)))) (FirstRead ps s p (first.Declare specs list))
declare_lead bound ps s p [] list h positive low = absurd (h.0.0 refl)
declare_lead bound ps s p (w ∷ ws) list h positive low = λ at. record {
  next = body_at ps s (step.Declares p (begin_declaration w (inner s)));
  reach = 0;
  goes = start_specifier ps s p w at (All-head (λ v. IsTrue (is_spec v)) w ws h.0.1);
  low = omega arith;
  there =
      subst (λ kinds. Leads Runs bound kinds (body_at ps s (step.Declares p (begin_declaration w (inner s)))) (FirstRead ps s p (first.Declare (w ∷ ws) list)))
      (append_assoc (spell_specs ws) (with_commas (map spell_declarator list)) (the_mark mark.Semicolon))
      (leads-then Runs bound bound (spell_specs ws ++ with_commas (map spell_declarator list)) (the_mark mark.Semicolon) (body_at ps s (step.Declares p (begin_declaration w (inner s))))
      (InDeclaration ps s p (w ∷ ws) list) (FirstRead ps s p (first.Declare (w ∷ ws) list)) (omega arith)
      (leads-in Declares Runs (λ d. body_at ps s (step.Declares p d)) bound bound (spell_specs ws ++ with_commas (map spell_declarator list)) (begin_declaration w (inner s))
      (DeclarationHolds (w ∷ ws) list) (InDeclaration ps s p (w ∷ ws) list) (declares_moves ps s p) (omega arith)
      (declaration_complete bound w ws (inner s) list h positive low)
      (λ d i. record { declaration = d; at = refl; read = i }))
      (λ z i to. record {
        next = second_at ps s p (first.Declare (w ∷ ws) i.read.made);
        reach = 0;
        goes = subst (λ y. Runs y (token_at to (token.Mark mark.Semicolon)) (second_at ps s p (first.Declare (w ∷ ws) i.read.made)) 0) (sym i.at)
            (declares_ends ps s p (w ∷ ws) list i.declaration i.read to);
        low = omega arith;
        there = record { made = first.Declare (w ∷ ws) i.read.made; at = refl; same = ap (λ v. first.Declare (w ∷ ws) v) i.read.same };
      }));
}

first_lead : (bound : ℕ) (ps : Parts) (s : Frames) (p : Place) (x : First) → RankedFirst x → 1 ≤ bound → inner s + first_depth x ≤ bound
    → Leads Runs bound (spell_first x) (body_at ps s (step.Start p (begin 0 (inner s)))) (FirstRead ps s p x)
first_lead bound ps s p first.Nothing h positive low = option_lead bound ps s p None tt positive low
first_lead bound ps s p (first.Value e) h positive low = option_lead bound ps s p (Some e) h positive low
first_lead bound ps s p (first.Declare specs list) h positive low = declare_lead bound ps s p specs list h positive low

-- the second and the third part

second_moves : (ps : Parts) (s : Frames) (p : Place) (x : First) (r : Reading) (t : Token) (next : Reading) (reach : ℕ) → Feeds r t next reach
    → Runs (body_at ps s (step.Second p x r)) t (body_at ps s (step.Second p x next)) reach
unfolding feed_body in_for second
second_moves ps s p x r t next reach h = ap (second_by ps s p x) (maybe_goes r t closer.Semicolon next reach h)

third_at : Parts → Frames → Place → First → Option Expr → Body
third_at ps s p x a = body_at ps s (step.Third p x a (begin 0 (inner s)))

second_empty : (ps : Parts) (s : Frames) (p : Place) (x : First) (at : Place)
    → Runs (second_at ps s p x) (token_at at (token.Mark mark.Semicolon)) (third_at ps s p x None) 0
unfolding feed_body in_for second read_maybe is_fresh closes second_at third_at is_mark
second_empty ps s p x at = refl

second_ends : (ps : Parts) (s : Frames) (p : Place) (x : First) (a : Expr) (r : Reading) (h : Whole 0 a r) (at : Place)
    → Runs (body_at ps s (step.Second p x r)) (token_at at (token.Mark mark.Semicolon)) (third_at ps s p x (Some h.made)) 0
unfolding feed_body in_for second third_at
second_ends ps s p x a r h at =
    ap (second_by ps s p x) (maybe_ends r (token_at at (token.Mark mark.Semicolon)) closer.Semicolon h.made
    (h.ends (token_at at (token.Mark mark.Semicolon)) (semicolon_below 0)) (closes_at closer.Semicolon at))

third_moves : (ps : Parts) (s : Frames) (p : Place) (x : First) (a : Option Expr) (r : Reading) (t : Token) (next : Reading) (reach : ℕ) → Feeds r t next reach
    → Runs (body_at ps s (step.Third p x a r)) t (body_at ps s (step.Third p x a next)) reach
unfolding feed_body in_for third
third_moves ps s p x a r t next reach h = ap (third_by ps s p x a) (maybe_goes r t closer.Paren next reach h)

third_empty : (ps : Parts) (s : Frames) (p : Place) (x : First) (a : Option Expr) (at : Place)
    → Runs (third_at ps s p x a) (token_at at (token.Mark mark.RightParen)) (begins_at ps (frame.For p x a None ∷ s)) 0
unfolding feed_body in_for third read_maybe is_fresh closes third_at is_mark
third_empty ps s p x a at = refl

third_ends : (ps : Parts) (s : Frames) (p : Place) (x : First) (a : Option Expr) (b : Expr) (r : Reading) (h : Whole 0 b r) (at : Place)
    → Runs (body_at ps s (step.Third p x a r)) (token_at at (token.Mark mark.RightParen)) (begins_at ps (frame.For p x a (Some h.made) ∷ s)) 0
unfolding feed_body in_for third
third_ends ps s p x a b r h at =
    ap (third_by ps s p x a) (maybe_ends r (token_at at (token.Mark mark.RightParen)) closer.Paren h.made
    (h.ends (token_at at (token.Mark mark.RightParen)) (paren_below 0)) (closes_at closer.Paren at))

for_behind : (ps : Parts) (s : Frames) (p : Place) (x : First) (a b : Option Expr) (c : Stmt) (t : Token)
    → behind ps (frame.For p x a b ∷ s) c t ≡ behind ps s (stmt.For p x a b c) t
unfolding behind close
for_behind ps s p x a b c t = refl

parts_apart : (a b c d e f : Spelled) → ((a ++ (b ++ (c ++ d))) ++ e) ++ f ≡ a ++ ((b ++ c) ++ ((d ++ e) ++ f))
parts_apart a b c d e f = simp append_assoc

pub for_reads : (p : Place) (x : First) (a b : Option Expr) (c : Stmt) → RankedFirst x → IfGiven (Ranked 0) a → IfGiven (Ranked 0) b → 1 ≤ stmt_depth c
    → StmtReads c → StmtReads (stmt.For p x a b c)
unfolding second_at third_at
for_reads p x a b c hx ha hb positive f =
    stmt_by (stmt.For p x a b c) (the_word word.For ++ (spell_for x a b ++ spell_stmt c))
    (1 + max (first_depth x) (max (option_depth a) (max (option_depth b) (stmt_depth c))))
    (stmt_For Spelled Spelled spell_part_step spell_stmt_step p x a b c) (stmt_For ℕ ℕ part_depth_step stmt_depth_step p x a b c)
    (λ ps s at.
    let bound : ℕ = 1 + length s + (1 + max (first_depth x) (max (option_depth a) (max (option_depth b) (stmt_depth c)))) in
    record {
      next = body_at ps s (step.For at);
      reach = inner s;
      goes = for_goes ps s at;
      low = omega arith;
      there = λ from. record {
        next = body_at ps s (step.Start at (begin 0 (inner s)));
        reach = 0;
        goes = for_opens ps s at from;
        low = omega arith;
        there =
            subst (λ kinds. Leads Runs bound kinds (body_at ps s (step.Start at (begin 0 (inner s)))) (StmtHolds ps s (stmt.For p x a b c)))
            (sym (parts_apart (spell_first x) (spell_option a) (the_mark mark.Semicolon) (spell_option b) (the_mark mark.RightParen) (spell_stmt c)))
            (leads-then Runs bound bound (spell_first x) ((spell_option a ++ the_mark mark.Semicolon) ++ ((spell_option b ++ the_mark mark.RightParen) ++ spell_stmt c))
            (body_at ps s (step.Start at (begin 0 (inner s)))) (FirstRead ps s at x) (StmtHolds ps s (stmt.For p x a b c)) (omega arith)
            (first_lead bound ps s at x hx (omega arith) (omega arith))
            (λ z h. subst (λ y. Leads Runs bound ((spell_option a ++ the_mark mark.Semicolon) ++ ((spell_option b ++ the_mark mark.RightParen) ++ spell_stmt c)) y (StmtHolds ps s (stmt.For p x a b c))) (sym h.at)
            (leads-then Runs bound bound (spell_option a ++ the_mark mark.Semicolon) ((spell_option b ++ the_mark mark.RightParen) ++ spell_stmt c)
            (second_at ps s at h.made) (Given (λ v. third_at ps s at h.made v) a) (StmtHolds ps s (stmt.For p x a b c)) (omega arith)
            (maybe_lead Runs (λ r. body_at ps s (step.Second at h.made r)) (λ v. third_at ps s at h.made v) mark.Semicolon (inner s) bound
            (second_moves ps s at h.made) (second_empty ps s at h.made) (λ v r i to. second_ends ps s at h.made v r i to) a ha (omega arith) (omega arith))
            (λ y i. subst (λ w. Leads Runs bound ((spell_option b ++ the_mark mark.RightParen) ++ spell_stmt c) w (StmtHolds ps s (stmt.For p x a b c))) (sym i.at)
            (leads-then Runs bound bound (spell_option b ++ the_mark mark.RightParen) (spell_stmt c)
            (third_at ps s at h.made i.made) (Given (λ v. begins_at ps (frame.For at h.made i.made v ∷ s)) b) (StmtHolds ps s (stmt.For p x a b c)) (omega arith)
            (maybe_lead Runs (λ r. body_at ps s (step.Third at h.made i.made r)) (λ v. begins_at ps (frame.For at h.made i.made v ∷ s)) mark.RightParen (inner s) bound
            (third_moves ps s at h.made i.made) (third_empty ps s at h.made i.made) (λ v r j to. third_ends ps s at h.made i.made v r j to) b hb (omega arith) (omega arith))
            (λ w j. subst (λ v. Leads Runs bound (spell_stmt c) v (StmtHolds ps s (stmt.For p x a b c))) (sym j.at)
            (leads-more Runs (1 + length (frame.For at h.made i.made j.made ∷ s) + stmt_depth c) bound (spell_stmt c) (begins_at ps (frame.For at h.made i.made j.made ∷ s))
            (StmtHolds ps (frame.For at h.made i.made j.made ∷ s) c) (StmtHolds ps s (stmt.For p x a b c)) (omega arith)
            (f ps (frame.For at h.made i.made j.made ∷ s))
            (λ v k. record {
              made = stmt.For at h.made i.made j.made k.made;
              next = λ t u. k.next t (λ o. u (stmt_For (Unit {0}) Bool ends_open_part ends_open_step p x a b c ∙ o)) ∙ for_behind ps s at h.made i.made j.made k.made t;
              same = stmt_For Part Stmt bare_part_step bare_stmt_step at h.made i.made j.made k.made
                  ∙ (ap (λ o. stmt.For nowhere o (option_map bare_expr i.made) (option_map bare_expr j.made) (bare_stmt k.made)) h.same
                  ∙ (ap (λ o. stmt.For nowhere (bare_first x) o (option_map bare_expr j.made) (bare_stmt k.made)) i.same
                  ∙ (ap (λ o. stmt.For nowhere (bare_first x) (option_map bare_expr a) o (bare_stmt k.made)) j.same
                  ∙ (ap (λ o. stmt.For nowhere (bare_first x) (option_map bare_expr a) (option_map bare_expr b) o) k.same
                  ∙ sym (stmt_For Part Stmt bare_part_step bare_stmt_step p x a b c)))));
            }))))))));
      };
    })
