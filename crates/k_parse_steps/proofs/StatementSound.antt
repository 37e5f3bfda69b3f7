-- Each token of a function's block keeps what was read true.
use Rattle.std.proofs.Common.{ℕ, ◌≡◌, ◌+◌, ◌≤◌, ◌⊎◌, inl, inr, Bool, true, false, ◌&&◌, cond, List, [], ◌∷◌, ◌++◌, length, Option, Some, None, refl, sym, ◌∙◌, ap, subst, arith, append_assoc}
use Rattle.std.proofs.lemmas.List.{append-nil}
use Rattle.k_parse_steps.specs.Types.{Place, Token, TokenKind, Mark, Word, Expr, First, Stmt, Part, Reading, Fed, Read, Maybe, Declaration, Declared, Frame, Tested, BlockStage, Body, Stepped}
use Rattle.k_tree.specs.declared.tokens.TokenKind.TheVariants as token
use Rattle.k_tree.specs.declared.tokens.mark.Mark.TheVariants as mark
use Rattle.k_tree.specs.declared.tokens.word.Word.TheVariants as word
use Rattle.k_tree.specs.declared.tree.statement.First.TheVariants as first
use Rattle.k_tree.specs.declared.tree.statement.Stmt.TheVariants as stmt
use Rattle.k_tree.specs.declared.tree.statement.Part.TheVariants as part_
use Rattle.k_tree.proofs.Folds.{stmt_Expr, stmt_Empty, stmt_Block, if_alone as if_alone_folds, if_else as if_else_folds, stmt_While, stmt_DoWhile, stmt_For, stmt_Switch, part_Case, part_Default, part_Does, stmt_Break, stmt_Continue, stmt_Return, stmt_Declare}
use Rattle.k_tree.specs.Nesting.{expr_depth, option_depth, first_depth, declarators_depth, stmt_depth, part_depth, part_depth_step, stmt_depth_step}
use Rattle.k_tree.specs.Places.{Pieces, plain, at, lay_expr, lay_option, lay_first, lay_for, lay_in_parens, lay_declaration, lay_stmt, lay_part, lay_switched, lay_part_step, lay_stmt_step, lay_stmts, stmt_place, Stand}
use Rattle.k_tree.specs.Ranked.{Ranked, IfGiven, RankedFirst, RankedStmt, RankedSwitch, ends_open, ends_open_part, ends_open_step, value, empty, block, if_alone, if_else, while_loop, do_loop, for_loop, switch_stmt, no_labels, case_label, default_label, does, break_loop, continue_loop, return_value, no_parts}
use Rattle.k_tree.specs.Spelling.{the_mark, the_word}
use Rattle.k_tree.proofs.Standing.{stand-append}
use Rattle.k_parse_steps.specs.Operators.{is_spec_word}
use Rattle.k_parse_steps.proofs.Marks.{false_true, mark_is, token_mark_is, token_word_is}
use Rattle.k_parse_steps.specs.Expressions.{begin}
use Rattle.k_parse_steps.specs.declared.turn.Turn.TheVariants as turn
use Rattle.k_parse_steps.specs.Readings.{closes, is_fresh}
use Rattle.k_parse_steps.specs.declared.reading.Closer.TheVariants as closer
use Rattle.k_parse_steps.specs.Declarations.{begin_declaration}
use Rattle.k_parse_steps.specs.Statements as spec
use Rattle.k_parse_steps.specs.Statements.{Parts, Frames, inner, level, is_in_block, is_in_switch}
use Rattle.k_parse_steps.specs.declared.statement.Frame.TheVariants as frame
use Rattle.k_parse_steps.specs.declared.statement.Tested.TheVariants as tested
use Rattle.k_parse_steps.specs.declared.statement.BlockStage.TheVariants as step
use Rattle.k_parse_steps.proofs.Rows.{row_push, deepest_more, StartsAt, starts-more, at_stands}
use Rattle.k_parse_steps.proofs.ExpressionState.{Keeps}
use Rattle.k_parse_steps.proofs.ExpressionTerms.{one_at, one, stand-more, regroup, three, four, five, and_left, and_right}
use Rattle.k_parse_steps.proofs.ReadingSound.{At, site, begin_at, at_keeps, KeepsRead, read_keeps, KeepsMaybe, maybe_keeps, fresh_stands, closes_is, Behind, pushed}
use Rattle.k_parse_steps.proofs.DeclarationState.{OkDeclaration, KeepsDeclared}
use Rattle.k_parse_steps.proofs.DeclarationSound.{behind_all, behind_now, declaration_keeps, begin_declared}
use Rattle.k_parse_steps.proofs.SwitchTerms.{switch_split, switched_append, switch_push, does_stands}
use Rattle.k_parse_steps.proofs.StatementTerms.{parts_push, base_open, base_close}
use Rattle.k_parse_steps.proofs.StatementState.{word_at, left_paren, left_brace, semicolon, lay_frame, lay_frames, lay_base, lay_tested, Below, OkFrame, OkFrames, OkTested, IsPart, a_stmt, a_declaration, OkSemicolon, OkBehind, For_at, OkStep, OkParts, OkBody, KeepsStepped}
use Rattle.k_parse_steps.specs.Tokens.{is_mark, is_word, token_is_mark, token_is_word}

module _ (lim : ℕ) (ts : List Token) (t : Token) where
  stepped_cond : (b : Bool) (x y : Stepped) → (b ≡ true → KeepsStepped lim ts t x) → (b ≡ false → KeepsStepped lim ts t y)
      → KeepsStepped lim ts t (cond b x y)
  stepped_cond true x y f h = f refl
  stepped_cond false x y f h = h refl

  -- levels
  true_inner : (s : Frames) (d : ℕ) → inner s + d ≤ lim + 1 → ((1 + length s) + 1) + d ≤ lim + 1
  true_inner s d h = omega (arith, h)

  true_level : (s : Frames) → level s ≤ lim → (1 + length s) + 1 ≤ lim + 1
  true_level s h = omega (arith, h)

  inner_room : (s : Frames) → level s ≤ lim → inner s ≤ lim + 1
  inner_room s h = omega (arith, h)

  goes : (ps : Parts) (s : Frames) (x : BlockStage) (reach : ℕ) → OkParts lim ps → OkFrames lim s → (reach ≤ lim → OkStep lim ps s x (ts ++ t ∷ []))
      → KeepsStepped lim ts t (spec.steps ps s x reach)
  goes ps s x reach a b f = λ z. record { parts = a; frames = b; stage = f z }

  -- an expression of its own
  value_by_keeps : (ps : Parts) (s : Frames) (p : Place) (r : Reading) (m : Read) → OkParts lim ps → OkFrames lim s
      → (b : Behind (lay_base ps s) (λ us. At lim (site 0 (inner s)) r us × StartsAt p us) ts)
      → KeepsRead lim (site 0 (inner s)) b.back t mark.Semicolon m → KeepsStepped lim ts t (spec.value_by ps s p m)
  value_by_keeps ps s p r (turn.Goes q reach) o f b h =
      goes ps s (step.Value p q) reach o f (λ z. pushed ts t (lay_base ps s) _ _ b (h z, starts-more p b.back (t ∷ []) b.rest.1))
  value_by_keeps ps s p r (turn.Done e) o f b h =
      goes ps s (step.Whole (stmt.Expr p e)) 0 o f (λ z. record {
        stands = subst (λ x. Stand (lay_base ps s ++ x) (ts ++ t ∷ [])) (sym (stmt_Expr Pieces Pieces lay_part_step lay_stmt_step p e))
            (behind_all (lay_base ps s) (at p (lay_expr e ++ semicolon)) _ (ts ++ t ∷ [])
            (pushed ts t (lay_base ps s) _ (λ us. StartsAt p us) b (starts-more p b.back (t ∷ []) b.rest.1))
            (at_stands p (lay_expr e ++ semicolon) (b.back ++ t ∷ []) (starts-more p b.back (t ∷ []) b.rest.1)
            (stand-append (lay_expr e) semicolon b.back (t ∷ []) h.0.stands (one t (token.Mark mark.Semicolon) h.1))));
        part = inr (value p e h.0.ranked);
        shut = stmt_Expr (Unit {0}) Bool ends_open_part ends_open_step p e;
        within = omega (arith, stmt_Expr ℕ ℕ part_depth_step stmt_depth_step p e, true_inner s (expr_depth e) h.0.within);
      })
  value_by_keeps ps s p r turn.Refused o f b h = tt

  pub value_keeps : (ps : Parts) (s : Frames) (p : Place) (r : Reading) → OkParts lim ps → OkFrames lim s
      → Behind (lay_base ps s) (λ us. At lim (site 0 (inner s)) r us × StartsAt p us) ts → KeepsStepped lim ts t (spec.value ps s p r t)
  unfolding spec.value
  value_keeps ps s p r o f b =
      value_by_keeps ps s p r _ o f b (read_keeps lim (site 0 (inner s)) b.back t r closer.Semicolon b.rest.0)

  -- `return`
  in_return_by_keeps : (ps : Parts) (s : Frames) (p : Place) (r : Reading) (m : Maybe) → OkParts lim ps → OkFrames lim s
      → (b : OkBehind lim s (lay_base ps s ++ word_at p word.Return) (At lim (site 0 (inner s)) r) ts)
      → KeepsMaybe lim (site 0 (inner s)) b.behind.back t mark.Semicolon m → KeepsStepped lim ts t (spec.in_return_by ps s p m)
  in_return_by_keeps ps s p r (turn.Goes q reach) o f b h =
      goes ps s (step.Return p q) reach o f (λ z. record { behind = pushed ts t (lay_base ps s ++ word_at p word.Return) _ _ b.behind (h z); room = b.room })
  in_return_by_keeps ps s p r (turn.Done e) o f b h =
      goes ps s (step.Whole (stmt.Return p e)) 0 o f (λ z. record {
        stands = subst (λ x. Stand (lay_base ps s ++ x) (ts ++ t ∷ [])) (sym (stmt_Return Pieces Pieces lay_part_step lay_stmt_step p e))
            (regroup (lay_base ps s) (word_at p word.Return) (lay_option e ++ semicolon) (ts ++ t ∷ [])
            (stand-more (lay_base ps s ++ word_at p word.Return) (lay_option e) semicolon ts (t ∷ [])
            (behind_all (lay_base ps s ++ word_at p word.Return) (lay_option e) _ ts b.behind h.0.stands) (one t (token.Mark mark.Semicolon) h.1)));
        part = inr (return_value p e h.0.ranked);
        shut = stmt_Return (Unit {0}) Bool ends_open_part ends_open_step p e;
        within = omega (arith, stmt_Return ℕ ℕ part_depth_step stmt_depth_step p e, true_inner s (option_depth e) h.0.within);
      })
  in_return_by_keeps ps s p r turn.Refused o f b h = tt

  pub in_return_keeps : (ps : Parts) (s : Frames) (p : Place) (r : Reading) → OkParts lim ps → OkFrames lim s
      → OkBehind lim s (lay_base ps s ++ word_at p word.Return) (At lim (site 0 (inner s)) r) ts → KeepsStepped lim ts t (spec.in_return ps s p r t)
  unfolding spec.in_return
  in_return_keeps ps s p r o f b =
      in_return_by_keeps ps s p r _ o f b (maybe_keeps lim (site 0 (inner s)) b.behind.back t r closer.Semicolon b.room b.behind.rest)

  -- a declaration of a block
  local_by_keeps : (ps : Parts) (s : Frames) (p : Place) (d : Declaration) (m : Declared) → OkParts lim ps → OkFrames lim s → is_in_block s ≡ true
      → (b : OkBehind lim s (lay_base ps s) (λ us. OkDeclaration lim (inner s) d us × StartsAt p us) ts)
      → KeepsDeclared lim (inner s) b.behind.back t m → KeepsStepped lim ts t (spec.local_by ps s p m)
  local_by_keeps ps s p d (turn.Goes q reach) o f i b h =
      goes ps s (step.Local p q) reach o f (λ z. (
        record {
          behind = pushed ts t (lay_base ps s) _ _ b.behind (h z, starts-more p b.behind.back (t ∷ []) b.behind.rest.1);
          room = b.room;
        },
        i,
      ))
  local_by_keeps ps s p d (turn.Done (specs, list)) o f i b h =
      goes ps s (step.Whole (stmt.Declare p specs list)) 0 o f (λ z. record {
        stands = subst (λ x. Stand (lay_base ps s ++ x) (ts ++ t ∷ [])) (sym (stmt_Declare Pieces Pieces lay_part_step lay_stmt_step p specs list))
            (behind_all (lay_base ps s) (at p (lay_declaration specs list)) _ (ts ++ t ∷ [])
            (pushed ts t (lay_base ps s) _ (λ us. StartsAt p us) b.behind (starts-more p b.behind.back (t ∷ []) b.behind.rest.1))
            (at_stands p (lay_declaration specs list) (b.behind.back ++ t ∷ []) (starts-more p b.behind.back (t ∷ []) b.behind.rest.1) h.stands));
        part = inl (a_declaration p specs list h.ranked, i);
        shut = stmt_Declare (Unit {0}) Bool ends_open_part ends_open_step p specs list;
        within = omega (arith, stmt_Declare ℕ ℕ part_depth_step stmt_depth_step p specs list, true_inner s (declarators_depth list) h.within);
      })
  local_by_keeps ps s p d turn.Refused o f i b h = tt

  pub local_keeps : (ps : Parts) (s : Frames) (p : Place) (d : Declaration) → OkParts lim ps → OkFrames lim s → is_in_block s ≡ true
      → OkBehind lim s (lay_base ps s) (λ us. OkDeclaration lim (inner s) d us × StartsAt p us) ts → KeepsStepped lim ts t (spec.local ps s p d t)
  unfolding spec.local
  local_keeps ps s p d o f i b =
      local_by_keeps ps s p d _ o f i b (declaration_keeps lim (inner s) b.behind.back t d b.behind.rest.0)

  -- a semicolon
  pub semicolon_keeps : (ps : Parts) (s : Frames) (x : Stmt) → OkParts lim ps → OkFrames lim s → OkSemicolon lim ps s x ts
      → KeepsStepped lim ts t (spec.semicolon ps s x t)
  unfolding spec.semicolon
  semicolon_keeps ps s x o f h =
      stepped_cond (closes t closer.Semicolon) _ turn.Refused
      (λ e. goes ps s (step.Whole x) 0 o f (λ z. record {
        stands = subst (λ y. Stand (lay_base ps s ++ y) (ts ++ t ∷ [])) (sym h.laid)
            (stand-more (lay_base ps s) h.most semicolon ts (t ∷ []) h.stands (one t (token.Mark mark.Semicolon) (closes_is closer.Semicolon t e)));
        part = inr h.ranked;
        shut = h.shut;
        within = h.within;
      }))
      (λ e. tt)

  -- the first token of a statement

  pub block_ends_keeps : (ps : Parts) (s : Frames) → OkParts lim ps → OkFrames lim s → t.what ≡ token.Mark mark.RightBrace → Stand (lay_base ps s) ts
      → KeepsStepped lim ts t (spec.block_ends ps s)
  unfolding spec.block_ends
  block_ends_keeps ps [] o f e st = (o, subst (λ x. Stand x ts) (append-nil (lay_stmts ps)) st, e)
  block_ends_keeps ps (frame.Block p parts ∷ s) o f e st =
      goes ps s (step.Whole (stmt.Block p parts)) 0 o f.1 (λ z. record {
        stands = subst (λ x. Stand (lay_base ps s ++ x) (ts ++ t ∷ [])) (sym (stmt_Block Pieces Pieces lay_part_step lay_stmt_step p parts))
            (three (lay_base ps s) (at p (plain (the_mark mark.LeftBrace))) (lay_stmts parts) (plain (the_mark mark.RightBrace)) (ts ++ t ∷ [])
            (stand-append (lay_base ps s ++ lay_frame (frame.Block p parts)) (plain (the_mark mark.RightBrace)) ts (t ∷ [])
            (base_open ps (frame.Block p parts) s ts st) (one t (token.Mark mark.RightBrace) e)));
        part = inr (block p parts f.0.0);
        shut = stmt_Block (Unit {0}) Bool ends_open_part ends_open_step p parts;
        within = omega (arith, stmt_Block ℕ ℕ part_depth_step stmt_depth_step p parts, f.0.1);
      })
  block_ends_keeps ps (frame.Switch p a parts ∷ s) o f e st =
      goes ps s (step.Whole (stmt.Switch p a parts)) 0 o f.1 (λ z. record {
        stands = subst (λ x. Stand (lay_base ps s ++ x) (ts ++ t ∷ [])) (sym (stmt_Switch Pieces Pieces lay_part_step lay_stmt_step p a parts))
            (five (lay_base ps s) (word_at p word.Switch) (lay_in_parens (lay_expr a)) left_brace (lay_switched parts) (plain (the_mark mark.RightBrace)) (ts ++ t ∷ [])
            (stand-append (lay_base ps s ++ lay_frame (frame.Switch p a parts)) (plain (the_mark mark.RightBrace)) ts (t ∷ [])
            (base_open ps (frame.Switch p a parts) s ts st) (one t (token.Mark mark.RightBrace) e)));
        part = inr (switch_stmt p a parts f.0.0.0 f.0.1.0);
        shut = stmt_Switch (Unit {0}) Bool ends_open_part ends_open_step p a parts;
        within = omega (arith, stmt_Switch ℕ ℕ part_depth_step stmt_depth_step p a parts, f.0.0.1, f.0.1.1);
      })
  block_ends_keeps ps (_ ∷ s) o f e st = tt

  await_keeps : (ps : Parts) (s : Frames) (f : Frame) (reach : ℕ) → OkParts lim ps → OkFrames lim s → (reach ≤ lim → OkFrame lim (1 + length s) f)
      → Stand (lay_base ps s ++ lay_frame f) (ts ++ t ∷ []) → KeepsStepped lim ts t (spec.await_part ps s f reach)
  await_keeps ps s f reach o g h st = λ z. record { parts = o; frames = (h z, g); stage = base_close ps f s (ts ++ t ∷ []) st }

  at_word : (ps : Parts) (s : Frames) (w : Word) → t.what ≡ token.Word w → Stand (lay_base ps s) ts → Stand (lay_base ps s ++ word_at t.place w) (ts ++ t ∷ [])
  at_word ps s w e st = stand-append (lay_base ps s) (word_at t.place w) ts (t ∷ []) st (one_at t (token.Word w) e)

  declares_keeps : (ps : Parts) (s : Frames) (w : Word) → OkParts lim ps → OkFrames lim s → t.what ≡ token.Word w → Stand (lay_base ps s) ts
      → KeepsStepped lim ts t (spec.declares ps s w t.place)
  unfolding spec.declares
  declares_keeps ps s w o f e st =
      stepped_cond (is_spec_word w && is_in_block s) _ turn.Refused
      (λ h. goes ps s (step.Local t.place (begin_declaration w (inner s))) (level s) o f (λ z. (
        record {
          behind = record {
            front = ts;
            back = t ∷ [];
            is = refl;
            stands = st;
            rest = (begin_declared lim (inner s) t w (inner_room s z) e (and_left (is_spec_word w) (is_in_block s) h), refl);
          };
          room = inner_room s z;
        },
        and_right (is_spec_word w) (is_in_block s) h,
      )))
      (λ h. tt)

  jump_keeps : (ps : Parts) (s : Frames) (w : Word) (x : Stmt) → OkParts lim ps → OkFrames lim s → t.what ≡ token.Word w → Stand (lay_base ps s) ts
      → lay_stmt x ≡ word_at t.place w ++ semicolon → RankedStmt x → ends_open x ≡ false → stmt_depth x ≡ 1
      → KeepsStepped lim ts t (spec.steps ps s (step.Semicolon x) (level s))
  jump_keeps ps s w x o f e st a b c d = goes ps s (step.Semicolon x) (level s) o f (λ z. record {
    most = word_at t.place w;
    laid = a;
    stands = at_word ps s w e st;
    ranked = b;
    shut = c;
    within = omega (arith, d, true_level s z);
  })

  case_begins_keeps : (ps : Parts) (s : Frames) → OkParts lim ps → OkFrames lim s → t.what ≡ token.Word word.Case → Stand (lay_base ps s) ts
      → KeepsStepped lim ts t (spec.case_begins ps s t.place)
  unfolding spec.case_begins
  case_begins_keeps ps s o f e st =
      stepped_cond (is_in_switch s) _ turn.Refused
      (λ h. goes ps s (step.Case t.place (begin 2 (level s))) (level s) o f (λ z. (
        behind_now (lay_base ps s ++ word_at t.place word.Case) _ (ts ++ t ∷ []) (at_word ps s word.Case e st) (begin_at lim 2 (level s) (omega arith)),
        h,
      )))
      (λ h. tt)

  default_begins_keeps : (ps : Parts) (s : Frames) → OkParts lim ps → OkFrames lim s → t.what ≡ token.Word word.Default → Stand (lay_base ps s) ts
      → KeepsStepped lim ts t (spec.default_begins ps s t.place)
  unfolding spec.default_begins
  default_begins_keeps ps s o f e st =
      stepped_cond (is_in_switch s) _ turn.Refused
      (λ h. goes ps s (step.Default t.place) 0 o f (λ z. (at_word ps s word.Default e st, h))) (λ h. tt)

  jump_word_keeps : (ps : Parts) (s : Frames) (w : Word) → OkParts lim ps → OkFrames lim s → t.what ≡ token.Word w → Stand (lay_base ps s) ts
      → KeepsStepped lim ts t (spec.jump ps s w t.place)
  unfolding spec.jump
  jump_word_keeps ps s word.If o f e st = goes ps s (step.Keyword (tested.If t.place)) (inner s) o f (λ z. (at_word ps s word.If e st, tt))
  jump_word_keeps ps s word.While o f e st = goes ps s (step.Keyword (tested.While t.place)) (inner s) o f (λ z. (at_word ps s word.While e st, tt))
  jump_word_keeps ps s word.Do o f e st = await_keeps ps s (frame.Do t.place) (inner s) o f (λ z. tt) (at_word ps s word.Do e st)
  jump_word_keeps ps s word.For o f e st = goes ps s (step.For t.place) (inner s) o f (λ z. (at_word ps s word.For e st, z))
  jump_word_keeps ps s word.Switch o f e st = goes ps s (step.Keyword (tested.Switch t.place)) (inner s) o f (λ z. (at_word ps s word.Switch e st, tt))
  jump_word_keeps ps s word.Case o f e st = case_begins_keeps ps s o f e st
  jump_word_keeps ps s word.Default o f e st = default_begins_keeps ps s o f e st
  jump_word_keeps ps s word.Break o f e st =
      jump_keeps ps s word.Break (stmt.Break t.place) o f e st (stmt_Break Pieces Pieces lay_part_step lay_stmt_step t.place) (break_loop t.place)
      (stmt_Break (Unit {0}) Bool ends_open_part ends_open_step t.place) (stmt_Break ℕ ℕ part_depth_step stmt_depth_step t.place)
  jump_word_keeps ps s word.Continue o f e st =
      jump_keeps ps s word.Continue (stmt.Continue t.place) o f e st (stmt_Continue Pieces Pieces lay_part_step lay_stmt_step t.place) (continue_loop t.place)
      (stmt_Continue (Unit {0}) Bool ends_open_part ends_open_step t.place) (stmt_Continue ℕ ℕ part_depth_step stmt_depth_step t.place)
  jump_word_keeps ps s word.Return o f e st = goes ps s (step.Return t.place (begin 0 (inner s))) (level s) o f (λ z. record {
    behind = behind_now (lay_base ps s ++ word_at t.place word.Return) _ (ts ++ t ∷ []) (at_word ps s word.Return e st) (begin_at lim 0 (inner s) (omega arith));
    room = inner_room s z;
  })
  jump_word_keeps ps s _ o f e st = tt

  keyword_keeps : (ps : Parts) (s : Frames) (w : Word) → OkParts lim ps → OkFrames lim s → t.what ≡ token.Word w → Stand (lay_base ps s) ts
      → KeepsStepped lim ts t (spec.keyword ps s w t.place)
  unfolding spec.keyword
  keyword_keeps ps s w o f e st =
      stepped_cond (is_spec_word w) _ _ (λ h. declares_keeps ps s w o f e st) (λ h. jump_word_keeps ps s w o f e st)

  expression_by_keeps : (ps : Parts) (s : Frames) (h : Fed) → OkParts lim ps → OkFrames lim s → Stand (lay_base ps s) ts
      → Keeps lim (site 0 (inner s)) [] t h → KeepsStepped lim ts t (spec.expression_by ps s t.place h)
  expression_by_keeps ps s (turn.Goes r reach) o f st h =
      goes ps s (step.Value t.place r) reach o f (λ z. record { front = ts; back = t ∷ []; is = refl; stands = st; rest = (h z, refl) })
  expression_by_keeps ps s (turn.Done e) o f st h = tt
  expression_by_keeps ps s turn.Refused o f st h = tt

  expression_keeps : (ps : Parts) (s : Frames) → OkParts lim ps → OkFrames lim s → Stand (lay_base ps s) ts → KeepsStepped lim ts t (spec.expression ps s t)
  unfolding spec.expression
  expression_keeps ps s o f st =
      expression_by_keeps ps s _ o f st (at_keeps lim (site 0 (inner s)) [] t (begin 0 (inner s)) (begin_at lim 0 (inner s) (omega arith)))

  empty_keeps : (ps : Parts) (s : Frames) → OkParts lim ps → OkFrames lim s → t.what ≡ token.Mark mark.Semicolon → Stand (lay_base ps s) ts
      → KeepsStepped lim ts t (spec.empty ps s t.place)
  empty_keeps ps s o f e st = goes ps s (step.Whole (stmt.Empty t.place)) (level s) o f (λ z. record {
    stands = subst (λ x. Stand (lay_base ps s ++ x) (ts ++ t ∷ [])) (sym (stmt_Empty Pieces Pieces lay_part_step lay_stmt_step t.place))
        (stand-append (lay_base ps s) _ ts (t ∷ []) st (one_at t (token.Mark mark.Semicolon) e));
    part = inr (empty t.place);
    shut = stmt_Empty (Unit {0}) Bool ends_open_part ends_open_step t.place;
    within = omega (arith, stmt_Empty ℕ ℕ part_depth_step stmt_depth_step t.place, true_level s z);
  })

  mark_begins_keeps : (ps : Parts) (s : Frames) (m : Mark) → OkParts lim ps → OkFrames lim s → t.what ≡ token.Mark m → Stand (lay_base ps s) ts
      → KeepsStepped lim ts t (spec.mark_begins ps s t m)
  unfolding spec.mark_begins
  mark_begins_keeps ps s m o f e st =
      stepped_cond (is_mark m mark.Semicolon) _ _ (λ h. empty_keeps ps s o f (e ∙ ap token.Mark (mark_is m mark.Semicolon h)) st)
      (λ h. stepped_cond (is_mark m mark.LeftBrace) _ _
      (λ q. await_keeps ps s (frame.Block t.place []) (level s) o f (λ z. (no_parts, omega (arith, true_level s z)))
      (stand-append (lay_base ps s) _ ts (t ∷ []) st (one_at t (token.Mark mark.LeftBrace) (e ∙ ap token.Mark (mark_is m mark.LeftBrace q)))))
      (λ q. stepped_cond (is_mark m mark.RightBrace) _ _ (λ y. block_ends_keeps ps s o f (e ∙ ap token.Mark (mark_is m mark.RightBrace y)) st) (λ y. expression_keeps ps s o f st)))

  begins_by_keeps : (ps : Parts) (s : Frames) (k : TokenKind) → OkParts lim ps → OkFrames lim s → t.what ≡ k → Stand (lay_base ps s) ts
      → KeepsStepped lim ts t (spec.begins_by ps s t k)
  begins_by_keeps ps s (token.Mark m) o f e st = mark_begins_keeps ps s m o f e st
  begins_by_keeps ps s (token.Word w) o f e st =
      stepped_cond (is_word w word.Sizeof) _ _ (λ h. expression_keeps ps s o f st) (λ h. keyword_keeps ps s w o f e st)
  begins_by_keeps ps s _ o f e st = expression_keeps ps s o f st

  pub begins_keeps : (ps : Parts) (s : Frames) → OkParts lim ps → OkFrames lim s → Stand (lay_base ps s) ts → KeepsStepped lim ts t (spec.begins ps s t)
  unfolding spec.begins
  begins_keeps ps s o f st = begins_by_keeps ps s t.what o f refl st

  -- tests in parentheses

  pub opened_keeps : (ps : Parts) (s : Frames) (x : Tested) → OkParts lim ps → OkFrames lim s
      → Stand (lay_base ps s ++ lay_tested x) ts → OkTested lim (1 + length s) x → KeepsStepped lim ts t (spec.opened ps s x t)
  unfolding spec.opened
  opened_keeps ps s x o f st h =
      stepped_cond (token_is_mark t.what mark.LeftParen) _ turn.Refused
      (λ e. goes ps s (step.Test x (begin 0 (inner s))) 0 o f (λ z. (
        behind_now (lay_base ps s ++ (lay_tested x ++ left_paren)) _ (ts ++ t ∷ [])
            (stand-more (lay_base ps s) (lay_tested x) left_paren ts (t ∷ []) st (one t (token.Mark mark.LeftParen) (token_mark_is t.what mark.LeftParen e))) (begin_at lim 0 (inner s) (omega arith)),
        h,
      )))
      (λ e. tt)

  test_done_keeps : (ps : Parts) (s : Frames) (x : Tested) (e : Expr) → OkParts lim ps → OkFrames lim s → OkTested lim (1 + length s) x
      → Below lim (1 + length s) 0 e
      → Stand (lay_base ps s ++ (lay_tested x ++ (left_paren ++ (lay_expr e ++ plain (the_mark mark.RightParen))))) (ts ++ t ∷ [])
      → KeepsStepped lim ts t (spec.test_done ps s x e)
  unfolding spec.test_done
  test_done_keeps ps s (tested.If p) e o f h b st = await_keeps ps s (frame.Then p e) 0 o f (λ z. b) st
  test_done_keeps ps s (tested.While p) e o f h b st = await_keeps ps s (frame.While p e) 0 o f (λ z. b) st
  test_done_keeps ps s (tested.Switch p) e o f h b st = goes ps s (step.Braces p e) 0 o f (λ z. (st, b))
  test_done_keeps ps s (tested.Do p x) e o f h b st = goes ps s (step.Semicolon (stmt.DoWhile p x e)) 0 o f (λ z. record {
    most = (word_at p word.Do ++ (lay_stmt x ++ plain (the_word word.While))) ++ (left_paren ++ (lay_expr e ++ plain (the_mark mark.RightParen)));
    laid = stmt_DoWhile Pieces Pieces lay_part_step lay_stmt_step p x e
        ∙ do_laid (word_at p word.Do) (lay_stmt x) (plain (the_word word.While)) (left_paren ++ (lay_expr e ++ plain (the_mark mark.RightParen))) semicolon;
    stands = st;
    ranked = do_loop p x e h.0 b.0;
    shut = stmt_DoWhile (Unit {0}) Bool ends_open_part ends_open_step p x e;
    within = omega (arith, stmt_DoWhile ℕ ℕ part_depth_step stmt_depth_step p x e, h.1, b.1);
  })
    where
      do_laid : (a b c d q : Pieces) → a ++ (b ++ (c ++ (d ++ q))) ≡ ((a ++ (b ++ c)) ++ d) ++ q
      do_laid a b c d q =
          ap (λ z. a ++ (b ++ z)) (sym (append_assoc c d q))
          ∙ (ap (λ z. a ++ z) (sym (append_assoc b (c ++ d) q))
          ∙ (sym (append_assoc a (b ++ (c ++ d)) q)
          ∙ ap (λ z. z ++ q) (ap (λ z. a ++ z) (sym (append_assoc b c d)) ∙ sym (append_assoc a (b ++ c) d))))

  test_by_keeps : (ps : Parts) (s : Frames) (x : Tested) (r : Reading) (m : Read) → OkParts lim ps → OkFrames lim s → OkTested lim (1 + length s) x
      → (b : Behind (lay_base ps s ++ (lay_tested x ++ left_paren)) (At lim (site 0 (inner s)) r) ts)
      → KeepsRead lim (site 0 (inner s)) b.back t mark.RightParen m → KeepsStepped lim ts t (spec.test_by ps s x m)
  test_by_keeps ps s x r (turn.Goes q reach) o f h b k =
      goes ps s (step.Test x q) reach o f (λ z. (pushed ts t (lay_base ps s ++ (lay_tested x ++ left_paren)) _ _ b (k z), h))
  test_by_keeps ps s x r (turn.Done e) o f h b k =
      test_done_keeps ps s x e o f h (k.0.ranked, true_inner s (expr_depth e) k.0.within)
      (three (lay_base ps s) (lay_tested x) left_paren (lay_expr e ++ plain (the_mark mark.RightParen)) (ts ++ t ∷ [])
      (stand-more (lay_base ps s ++ (lay_tested x ++ left_paren)) (lay_expr e) (plain (the_mark mark.RightParen)) ts (t ∷ [])
      (behind_all (lay_base ps s ++ (lay_tested x ++ left_paren)) (lay_expr e) _ ts b k.0.stands) (one t (token.Mark mark.RightParen) k.1)))
  test_by_keeps ps s x r turn.Refused o f h b k = tt

  pub test_keeps : (ps : Parts) (s : Frames) (x : Tested) (r : Reading) → OkParts lim ps → OkFrames lim s → OkTested lim (1 + length s) x
      → Behind (lay_base ps s ++ (lay_tested x ++ left_paren)) (At lim (site 0 (inner s)) r) ts → KeepsStepped lim ts t (spec.test ps s x r t)
  unfolding spec.test
  test_keeps ps s x r o f h b = test_by_keeps ps s x r _ o f h b (read_keeps lim (site 0 (inner s)) b.back t r closer.Paren b.rest)

  -- the token behind a statement

  -- what is known of a statement that ended before the token
  record Ended (ps : Parts) (s : Frames) (x : Stmt) : Type 0 where
    stands : Stand (lay_base ps s ++ lay_stmt x) ts
    part : (IsPart x × (is_in_block s ≡ true)) ⊎ RankedStmt x
    shut : token_is_word t.what word.Else ≡ true → ends_open x ≡ false
    within : (1 + length s) + stmt_depth x ≤ lim + 1

  part_of : (x : Stmt) (b : Bool) → ((IsPart x × (b ≡ true)) ⊎ RankedStmt x) → IsPart x
  part_of x b (inl h) = h.0
  part_of x b (inr r) = a_stmt x r

  stmt_in : (x : Stmt) → ((IsPart x × (false ≡ true)) ⊎ RankedStmt x) → RankedStmt x
  stmt_in x (inl h) = absurd (false_true h.1)
  stmt_in x (inr r) = r

  -- pieces of the statement around, and of the statement that ended
  around : (ps : Parts) (f : Frame) (s : Frames) (x : Stmt) → Stand (lay_base ps (f ∷ s) ++ lay_stmt x) ts → Stand ((lay_base ps s ++ lay_frame f) ++ lay_stmt x) ts
  around ps f s x st = subst (λ y. Stand (y ++ lay_stmt x) ts) (sym (append_assoc (lay_stmts ps) (lay_frames s) (lay_frame f))) st

  otherwise_keeps : (ps : Parts) (s : Frames) (p : Place) (e : Expr) (x : Stmt) → OkParts lim ps → OkFrames lim (frame.Then p e ∷ s)
      → token_is_word t.what word.Else ≡ true → Ended ps (frame.Then p e ∷ s) x → KeepsStepped lim ts t (spec.otherwise ps s p e x)
  unfolding is_in_block
  otherwise_keeps ps s p e x o f h k =
      await_keeps ps s (frame.Else p e x) 0 o f.1
      (λ z. (f.0, (stmt_in x k.part, omega (arith, k.within)), k.shut h))
      (four (lay_base ps s) (word_at p word.If) (lay_in_parens (lay_expr e)) (lay_stmt x) (plain (the_word word.Else)) (ts ++ t ∷ [])
      (stand-append _ (plain (the_word word.Else)) ts (t ∷ [])
      (three (lay_base ps s) (word_at p word.If) (lay_in_parens (lay_expr e)) (lay_stmt x) ts (around ps (frame.Then p e) s x k.stands))
      (one t (token.Word word.Else) (token_word_is t.what word.Else h))))

  alone_ended : (ps : Parts) (s : Frames) (p : Place) (e : Expr) (x : Stmt) → OkFrames lim (frame.Then p e ∷ s) → token_is_word t.what word.Else ≡ false
      → Ended ps (frame.Then p e ∷ s) x → Ended ps s (stmt.If p e x None)
  unfolding is_in_block
  alone_ended ps s p e x f h k = record {
    stands = subst (λ y. Stand (lay_base ps s ++ y) ts) (sym (if_alone_folds Pieces Pieces lay_part_step lay_stmt_step p e x))
        (subst (λ y. Stand (lay_base ps s ++ (word_at p word.If ++ (lay_in_parens (lay_expr e) ++ y))) ts) (sym (append-nil (lay_stmt x)))
        (three (lay_base ps s) (word_at p word.If) (lay_in_parens (lay_expr e)) (lay_stmt x) ts (around ps (frame.Then p e) s x k.stands)));
    part = inr (if_alone p e x f.0.0 (stmt_in x k.part));
    shut = λ z. absurd (false_true (sym h ∙ z));
    within = omega (arith, if_alone_folds ℕ ℕ part_depth_step stmt_depth_step p e x, f.0.1, k.within);
  }

  else_ended : (ps : Parts) (s : Frames) (p : Place) (e : Expr) (a x : Stmt) → OkFrames lim (frame.Else p e a ∷ s)
      → Ended ps (frame.Else p e a ∷ s) x → Ended ps s (stmt.If p e a (Some x))
  unfolding is_in_block
  else_ended ps s p e a x f k = record {
    stands = subst (λ y. Stand (lay_base ps s ++ y) ts) (sym (if_else_folds Pieces Pieces lay_part_step lay_stmt_step p e a x))
        (five (lay_base ps s) (word_at p word.If) (lay_in_parens (lay_expr e)) (lay_stmt a) (plain (the_word word.Else)) (lay_stmt x) ts (around ps (frame.Else p e a) s x k.stands));
    part = inr (if_else p e a x f.0.0.0 f.0.1.0 f.0.2 (stmt_in x k.part));
    shut = λ z. if_else_folds (Unit {0}) Bool ends_open_part ends_open_step p e a x ∙ k.shut z;
    within = omega (arith, if_else_folds ℕ ℕ part_depth_step stmt_depth_step p e a x, f.0.0.1, f.0.1.1, k.within);
  }

  while_ended : (ps : Parts) (s : Frames) (p : Place) (e : Expr) (x : Stmt) → OkFrames lim (frame.While p e ∷ s)
      → Ended ps (frame.While p e ∷ s) x → Ended ps s (stmt.While p e x)
  unfolding is_in_block
  while_ended ps s p e x f k = record {
    stands = subst (λ y. Stand (lay_base ps s ++ y) ts) (sym (stmt_While Pieces Pieces lay_part_step lay_stmt_step p e x))
        (three (lay_base ps s) (word_at p word.While) (lay_in_parens (lay_expr e)) (lay_stmt x) ts (around ps (frame.While p e) s x k.stands));
    part = inr (while_loop p e x f.0.0 (stmt_in x k.part));
    shut = λ z. stmt_While (Unit {0}) Bool ends_open_part ends_open_step p e x ∙ k.shut z;
    within = omega (arith, stmt_While ℕ ℕ part_depth_step stmt_depth_step p e x, f.0.1, k.within);
  }

  for_ended : (ps : Parts) (s : Frames) (p : Place) (start : First) (test third : Option Expr) (x : Stmt) → OkFrames lim (frame.For p start test third ∷ s)
      → Ended ps (frame.For p start test third ∷ s) x → Ended ps s (stmt.For p start test third x)
  unfolding is_in_block
  for_ended ps s p start test third x f k = record {
    stands = subst (λ y. Stand (lay_base ps s ++ y) ts) (sym (stmt_For Pieces Pieces lay_part_step lay_stmt_step p start test third x))
        (three (lay_base ps s) (word_at p word.For) (lay_for start test third) (lay_stmt x) ts (around ps (frame.For p start test third) s x k.stands));
    part = inr (for_loop p start test third x f.0.0.0 f.0.1.0 f.0.2.0 (stmt_in x k.part));
    shut = λ z. stmt_For (Unit {0}) Bool ends_open_part ends_open_step p start test third x ∙ k.shut z;
    within = omega (arith, stmt_For ℕ ℕ part_depth_step stmt_depth_step p start test third x, f.0.0.1, f.0.1.1, f.0.2.1, k.within);
  }

  do_keeps : (ps : Parts) (s : Frames) (p : Place) (x : Stmt) → OkParts lim ps → OkFrames lim (frame.Do p ∷ s)
      → Ended ps (frame.Do p ∷ s) x → KeepsStepped lim ts t (spec.do_while ps s p x t)
  unfolding is_in_block spec.do_while
  do_keeps ps s p x o f k =
      stepped_cond (token_is_word t.what word.While) _ turn.Refused
      (λ e. goes ps s (step.Keyword (tested.Do p x)) 0 o f.1 (λ z. (
        three (lay_base ps s) (word_at p word.Do) (lay_stmt x) (plain (the_word word.While)) (ts ++ t ∷ [])
            (stand-append _ (plain (the_word word.While)) ts (t ∷ []) (regroup (lay_base ps s) (word_at p word.Do) (lay_stmt x) ts (around ps (frame.Do p) s x k.stands))
            (one t (token.Word word.While) (token_word_is t.what word.While e))),
        (stmt_in x k.part, omega (arith, k.within)),
      )))
      (λ e. tt)

  more_keeps : (ps : Parts) (s : Frames) (p : Place) (parts : Parts) (x : Stmt) → OkParts lim ps → OkFrames lim (frame.Block p parts ∷ s)
      → Ended ps (frame.Block p parts ∷ s) x → KeepsStepped lim ts t (spec.begins ps (frame.Block p (parts ++ x ∷ []) ∷ s) t)
  more_keeps ps s p parts x o f k =
      begins_keeps ps (frame.Block p (parts ++ x ∷ []) ∷ s) o
      ((parts_push parts x f.0.0 (part_of x _ k.part), omega (arith, f.0.1, k.within, deepest_more stmt_depth parts x)), f.1)
      (base_close ps (frame.Block p (parts ++ x ∷ [])) s ts
      (subst (λ y. Stand (lay_base ps s ++ (at p (plain (the_mark mark.LeftBrace)) ++ y)) ts) (sym (row_push lay_stmt parts x))
      (three (lay_base ps s) (at p (plain (the_mark mark.LeftBrace))) (lay_stmts parts) (lay_stmt x) ts (around ps (frame.Block p parts) s x k.stands))))

  more_switched_keeps : (ps : Parts) (s : Frames) (p : Place) (e : Expr) (parts : List Part) (x : Stmt) → OkParts lim ps
      → OkFrames lim (frame.Switch p e parts ∷ s) → Ended ps (frame.Switch p e parts ∷ s) x → KeepsStepped lim ts t (spec.more_switched ps s p e parts x t)
  unfolding is_in_block spec.more_switched
  more_switched_keeps ps s p e parts x o f k =
      let r : RankedStmt x = stmt_in x k.part in
      let new : Part = part_.Does (stmt_place x) x in
      begins_keeps ps (frame.Switch p e (parts ++ new ∷ []) ∷ s) o (
        (
          f.0.0,
          (
            switched_append parts (new ∷ []) f.0.1.0 (does (stmt_place x) x [] r no_labels),
            omega (arith, f.0.1.1, k.within, deepest_more part_depth parts new, part_Does ℕ ℕ part_depth_step stmt_depth_step (stmt_place x) x),
          ),
        ),
        f.1,
      )
      (switch_push ps p e parts s new ts (does_stands (lay_base ps (frame.Switch p e parts ∷ s)) x ts r k.stands))

  close_keeps : (ps : Parts) (f : Frame) (s : Frames) (x : Stmt) (b : Bool) → token_is_word t.what word.Else ≡ b → OkParts lim ps → OkFrames lim (f ∷ s)
      → Ended ps (f ∷ s) x → ((y : Stmt) → Ended ps s y → KeepsStepped lim ts t (spec.behind ps s y t))
      → KeepsStepped lim ts t (spec.closed_by ps s (spec.close f x b) t (λ y. spec.behind ps s y t))
  unfolding spec.close spec.part spec.more
  close_keeps ps (frame.Then p e) s x true h o f k again = otherwise_keeps ps s p e x o f h k
  close_keeps ps (frame.Then p e) s x false h o f k again = again (stmt.If p e x None) (alone_ended ps s p e x f h k)
  close_keeps ps (frame.Else p e a) s x b h o f k again = again (stmt.If p e a (Some x)) (else_ended ps s p e a x f k)
  close_keeps ps (frame.While p e) s x b h o f k again = again (stmt.While p e x) (while_ended ps s p e x f k)
  close_keeps ps (frame.Do p) s x b h o f k again = do_keeps ps s p x o f k
  close_keeps ps (frame.For p start test third) s x b h o f k again = again (stmt.For p start test third x) (for_ended ps s p start test third x f k)
  close_keeps ps (frame.Block p parts) s x b h o f k again = more_keeps ps s p parts x o f k
  close_keeps ps (frame.Switch p e parts) s x b h o f k again = more_switched_keeps ps s p e parts x o f k

  behind_keeps : (ps : Parts) (s : Frames) (x : Stmt) → OkParts lim ps → OkFrames lim s → Ended ps s x → KeepsStepped lim ts t (spec.behind ps s x t)
  unfolding spec.behind
  behind_keeps ps [] x o f k =
      begins_keeps (ps ++ x ∷ []) []
      (parts_push ps x o.0 (part_of x _ k.part), omega (arith, o.1, k.within, deepest_more stmt_depth ps x)) tt
      (subst (λ y. Stand y ts) (sym (append-nil (lay_stmts (ps ++ x ∷ []))))
      (subst (λ y. Stand y ts) (sym (row_push lay_stmt ps x)) (subst (λ y. Stand (y ++ lay_stmt x) ts) (append-nil (lay_stmts ps)) k.stands)))
  behind_keeps ps (g ∷ s) x o f k = close_keeps ps g s x (token_is_word t.what word.Else) refl o f k (λ y h. behind_keeps ps s y o f.1 h)

  -- the parts of a `for`

  for_opened_keeps : (ps : Parts) (s : Frames) (p : Place) → OkParts lim ps → OkFrames lim s
      → Stand (lay_base ps s ++ word_at p word.For) ts → inner s ≤ lim → KeepsStepped lim ts t (spec.for_opened ps s p t)
  unfolding spec.for_opened
  for_opened_keeps ps s p o f st h =
      stepped_cond (token_is_mark t.what mark.LeftParen) _ turn.Refused
      (λ e. goes ps s (step.Start p (begin 0 (inner s))) 0 o f (λ z. record {
        behind = behind_now (lay_base ps s ++ For_at p) _ (ts ++ t ∷ [])
            (stand-more (lay_base ps s) (word_at p word.For) left_paren ts (t ∷ []) st (one t (token.Mark mark.LeftParen) (token_mark_is t.what mark.LeftParen e))) (begin_at lim 0 (inner s) (omega arith));
        room = omega (arith, h);
      }))
      (λ e. tt)

  first_laid : (v : Option Expr) → lay_first (spec.first_of v) ≡ lay_option v ++ semicolon
  first_laid None = refl
  first_laid (Some e) = refl

  first_ok : (s : Frames) (v : Option Expr) → IfGiven (Ranked 0) v → ((1 + length s) + 1) + option_depth v ≤ lim + 1
      → RankedFirst (spec.first_of v) × (((1 + length s) + 1) + first_depth (spec.first_of v) ≤ lim + 1)
  first_ok s None h k = (tt, k)
  first_ok s (Some e) h k = (h, k)

  second_begins_keeps : (ps : Parts) (s : Frames) (p : Place) (start : First) → OkParts lim ps → OkFrames lim s → inner s ≤ lim + 1
      → Stand ((lay_base ps s ++ For_at p) ++ lay_first start) (ts ++ t ∷ [])
      → RankedFirst start × (((1 + length s) + 1) + first_depth start ≤ lim + 1) → KeepsStepped lim ts t (spec.second_begins ps s p start)
  second_begins_keeps ps s p start o f h st k =
      goes ps s (step.Second p start (begin 0 (inner s))) 0 o f (λ z. (
        record {
          behind = behind_now ((lay_base ps s ++ For_at p) ++ lay_first start) _ (ts ++ t ∷ []) st (begin_at lim 0 (inner s) (omega arith));
          room = h;
        },
        k,
      ))

  start_by_keeps : (ps : Parts) (s : Frames) (p : Place) (r : Reading) (m : Maybe) → OkParts lim ps → OkFrames lim s
      → (b : OkBehind lim s (lay_base ps s ++ For_at p) (At lim (site 0 (inner s)) r) ts)
      → KeepsMaybe lim (site 0 (inner s)) b.behind.back t mark.Semicolon m → KeepsStepped lim ts t (spec.start_by ps s p m)
  start_by_keeps ps s p r (turn.Goes q reach) o f b h =
      goes ps s (step.Start p q) reach o f (λ z. record { behind = pushed ts t (lay_base ps s ++ For_at p) _ _ b.behind (h z); room = b.room })
  start_by_keeps ps s p r (turn.Done v) o f b h =
      second_begins_keeps ps s p (spec.first_of v) o f b.room
      (subst (λ y. Stand ((lay_base ps s ++ For_at p) ++ y) (ts ++ t ∷ [])) (sym (first_laid v))
      (stand-more (lay_base ps s ++ For_at p) (lay_option v) semicolon ts (t ∷ [])
      (behind_all (lay_base ps s ++ For_at p) (lay_option v) _ ts b.behind h.0.stands) (one t (token.Mark mark.Semicolon) h.1)))
      (first_ok s v h.0.ranked (true_inner s (option_depth v) h.0.within))
  start_by_keeps ps s p r turn.Refused o f b h = tt

  for_declares_begins : (ps : Parts) (s : Frames) (p : Place) (r : Reading) (w : Word) → OkParts lim ps → OkFrames lim s → t.what ≡ token.Word w
      → is_spec_word w ≡ true → is_fresh r ≡ true → (b : OkBehind lim s (lay_base ps s ++ For_at p) (At lim (site 0 (inner s)) r) ts)
      → KeepsStepped lim ts t (spec.steps ps s (step.Declares p (begin_declaration w (inner s))) 0)
  for_declares_begins ps s p r w o f e h k b =
      goes ps s (step.Declares p (begin_declaration w (inner s))) 0 o f (λ z. record {
        behind = record {
          front = ts;
          back = t ∷ [];
          is = refl;
          stands = subst (λ y. Stand y ts) (append-nil (lay_base ps s ++ For_at p))
              (behind_all (lay_base ps s ++ For_at p) [] _ ts b.behind (fresh_stands lim (site 0 (inner s)) b.behind.back r k b.behind.rest));
          rest = begin_declared lim (inner s) t w b.room e h;
        };
        room = b.room;
      })

  start_with_keeps : (ps : Parts) (s : Frames) (p : Place) (r : Reading) (k : TokenKind) → OkParts lim ps → OkFrames lim s → t.what ≡ k
      → (b : OkBehind lim s (lay_base ps s ++ For_at p) (At lim (site 0 (inner s)) r) ts)
      → KeepsStepped lim ts t (spec.start_with ps s p r t (spec.specifier_by r k))
  start_with_keeps ps s p r (token.Word w) o f e b = choose (is_spec_word w && is_fresh r) refl
    where
      choose : (c : Bool) → (is_spec_word w && is_fresh r) ≡ c → KeepsStepped lim ts t (spec.start_with ps s p r t (cond c (Some w) None))
      choose true h = for_declares_begins ps s p r w o f e (and_left (is_spec_word w) (is_fresh r) h) (and_right (is_spec_word w) (is_fresh r) h) b
      choose false h = start_by_keeps ps s p r _ o f b (maybe_keeps lim (site 0 (inner s)) b.behind.back t r closer.Semicolon b.room b.behind.rest)
  start_with_keeps ps s p r _ o f e b =
      start_by_keeps ps s p r _ o f b (maybe_keeps lim (site 0 (inner s)) b.behind.back t r closer.Semicolon b.room b.behind.rest)

  start_keeps : (ps : Parts) (s : Frames) (p : Place) (r : Reading) → OkParts lim ps → OkFrames lim s
      → OkBehind lim s (lay_base ps s ++ For_at p) (At lim (site 0 (inner s)) r) ts → KeepsStepped lim ts t (spec.start ps s p r t)
  unfolding spec.start spec.specifier
  start_keeps ps s p r o f b = start_with_keeps ps s p r t.what o f refl b

  for_declares_by_keeps : (ps : Parts) (s : Frames) (p : Place) (d : Declaration) (m : Declared) → OkParts lim ps → OkFrames lim s
      → (b : OkBehind lim s (lay_base ps s ++ For_at p) (OkDeclaration lim (inner s) d) ts)
      → KeepsDeclared lim (inner s) b.behind.back t m → KeepsStepped lim ts t (spec.for_declares_by ps s p m)
  for_declares_by_keeps ps s p d (turn.Goes q reach) o f b h =
      goes ps s (step.Declares p q) reach o f (λ z. record { behind = pushed ts t (lay_base ps s ++ For_at p) _ _ b.behind (h z); room = b.room })
  for_declares_by_keeps ps s p d (turn.Done (specs, list)) o f b h =
      second_begins_keeps ps s p (first.Declare specs list) o f b.room
      (behind_all (lay_base ps s ++ For_at p) (lay_declaration specs list) (λ us. Unit {0}) (ts ++ t ∷ []) (pushed ts t (lay_base ps s ++ For_at p) _ (λ us. Unit {0}) b.behind tt) h.stands)
      (h.ranked, true_inner s (declarators_depth list) h.within)
  for_declares_by_keeps ps s p d turn.Refused o f b h = tt

  second_by_keeps : (ps : Parts) (s : Frames) (p : Place) (start : First) (r : Reading) (m : Maybe) → OkParts lim ps → OkFrames lim s
      → (b : OkBehind lim s ((lay_base ps s ++ For_at p) ++ lay_first start) (At lim (site 0 (inner s)) r) ts)
      → RankedFirst start × (((1 + length s) + 1) + first_depth start ≤ lim + 1)
      → KeepsMaybe lim (site 0 (inner s)) b.behind.back t mark.Semicolon m → KeepsStepped lim ts t (spec.second_by ps s p start m)
  second_by_keeps ps s p start r (turn.Goes q reach) o f b k h =
      goes ps s (step.Second p start q) reach o f (λ z. (record { behind = pushed ts t ((lay_base ps s ++ For_at p) ++ lay_first start) _ _ b.behind (h z); room = b.room }, k))
  second_by_keeps ps s p start r (turn.Done v) o f b k h =
      goes ps s (step.Third p start v (begin 0 (inner s))) 0 o f (λ z. (
        record {
          behind = behind_now ((lay_base ps s ++ For_at p) ++ (lay_first start ++ (lay_option v ++ semicolon))) _ (ts ++ t ∷ [])
              (regroup (lay_base ps s ++ For_at p) (lay_first start) (lay_option v ++ semicolon) (ts ++ t ∷ [])
              (stand-more ((lay_base ps s ++ For_at p) ++ lay_first start) (lay_option v) semicolon ts (t ∷ [])
              (behind_all ((lay_base ps s ++ For_at p) ++ lay_first start) (lay_option v) _ ts b.behind h.0.stands) (one t (token.Mark mark.Semicolon) h.1)))
              (begin_at lim 0 (inner s) (omega arith));
          room = b.room;
        },
        k,
        (h.0.ranked, true_inner s (option_depth v) h.0.within),
      ))
  second_by_keeps ps s p start r turn.Refused o f b k h = tt

  for_laid : (b w l x y m z r : Pieces) (us : List Token) → Stand (((b ++ (w ++ l)) ++ (x ++ (y ++ m))) ++ (z ++ r)) us
      → Stand (b ++ (w ++ (l ++ ((x ++ (y ++ (m ++ z))) ++ r)))) us
  for_laid b w l x y m z r us st =
      subst (λ q. Stand (b ++ (w ++ (l ++ q))) us)
      (sym (append_assoc (x ++ (y ++ m)) z r) ∙ ap (λ q. q ++ r) (append_assoc x (y ++ m) z ∙ ap (λ q. x ++ q) (append_assoc y m z)))
      (three b w l ((x ++ (y ++ m)) ++ (z ++ r)) us
      (regroup (b ++ (w ++ l)) (x ++ (y ++ m)) (z ++ r) us st))

  third_by_keeps : (ps : Parts) (s : Frames) (p : Place) (start : First) (test : Option Expr) (r : Reading) (m : Maybe) → OkParts lim ps → OkFrames lim s
      → (b : OkBehind lim s ((lay_base ps s ++ For_at p) ++ (lay_first start ++ (lay_option test ++ semicolon))) (At lim (site 0 (inner s)) r) ts)
      → RankedFirst start × (((1 + length s) + 1) + first_depth start ≤ lim + 1)
      → IfGiven (Ranked 0) test × (((1 + length s) + 1) + option_depth test ≤ lim + 1)
      → KeepsMaybe lim (site 0 (inner s)) b.behind.back t mark.RightParen m → KeepsStepped lim ts t (spec.third_by ps s p start test m)
  third_by_keeps ps s p start test r (turn.Goes q reach) o f b k q2 h =
      goes ps s (step.Third p start test q) reach o f (λ z. (
        record {
          behind = pushed ts t ((lay_base ps s ++ For_at p) ++ (lay_first start ++ (lay_option test ++ semicolon))) _ _ b.behind (h z);
          room = b.room;
        },
        k,
        q2,
      ))
  third_by_keeps ps s p start test r (turn.Done v) o f b k q2 h =
      await_keeps ps s (frame.For p start test v) 0 o f (λ z. (k, q2, (h.0.ranked, true_inner s (option_depth v) h.0.within)))
      (for_laid (lay_base ps s) (word_at p word.For) left_paren (lay_first start) (lay_option test) semicolon (lay_option v) (plain (the_mark mark.RightParen)) (ts ++ t ∷ [])
      (stand-more ((lay_base ps s ++ For_at p) ++ (lay_first start ++ (lay_option test ++ semicolon))) (lay_option v) (plain (the_mark mark.RightParen)) ts (t ∷ [])
      (behind_all ((lay_base ps s ++ For_at p) ++ (lay_first start ++ (lay_option test ++ semicolon))) (lay_option v) _ ts b.behind h.0.stands) (one t (token.Mark mark.RightParen) h.1)))
  third_by_keeps ps s p start test r turn.Refused o f b k q2 h = tt

  -- the braces of a `switch`

  braces_keeps : (ps : Parts) (s : Frames) (p : Place) (e : Expr) → OkParts lim ps → OkFrames lim s → Below lim (1 + length s) 0 e
      → Stand (lay_base ps s ++ (word_at p word.Switch ++ lay_in_parens (lay_expr e))) ts → KeepsStepped lim ts t (spec.braces ps s p e t)
  unfolding spec.braces
  braces_keeps ps s p e o f b st =
      stepped_cond (token_is_mark t.what mark.LeftBrace) _ turn.Refused
      (λ h. await_keeps ps s (frame.Switch p e []) 0 o f (λ z. (b, (no_labels, omega (arith, b.1))))
      (three (lay_base ps s) (word_at p word.Switch) (lay_in_parens (lay_expr e)) left_brace (ts ++ t ∷ [])
      (stand-append (lay_base ps s ++ (word_at p word.Switch ++ lay_in_parens (lay_expr e))) left_brace ts (t ∷ []) st
      (one t (token.Mark mark.LeftBrace) (token_mark_is t.what mark.LeftBrace h)))))
      (λ h. tt)

  -- a label in the innermost braces
  abbrev Labels : Part → Parts → Frames → Type 0
  Labels x ps s =
      OkFrames lim s → RankedSwitch (x ∷ []) → ((1 + length s) ≤ lim + 1 → (1 + length s) + part_depth x ≤ lim + 1)
      → Stand (lay_base ps s ++ lay_part x) (ts ++ t ∷ []) → KeepsStepped lim ts t (spec.labelled ps s x)

  labelled_keeps : (ps : Parts) (x : Part) → OkParts lim ps → (s : Frames) → is_in_switch s ≡ true → Labels x ps s
  unfolding spec.labelled
  labelled_keeps ps x o = switch_split (Labels x ps) (λ p e parts s f r d st.
      let g : Frame = frame.Switch p e (parts ++ x ∷ []) in
      goes ps (g ∷ s) step.Begins 0 o (
        (
          f.0.0,
          (
            switched_append parts (x ∷ []) f.0.1.0 r,
            omega (arith, f.0.1.1, d (omega (arith, f.0.1.1)), deepest_more part_depth parts x),
          ),
        ),
        f.1,
      )
      (λ z. switch_push ps p e parts s x (ts ++ t ∷ []) st))

  case_by_keeps : (ps : Parts) (s : Frames) (p : Place) (m : Read) → OkParts lim ps → OkFrames lim s → is_in_switch s ≡ true
      → (r : Reading) (b : Behind (lay_base ps s ++ word_at p word.Case) (At lim (site 2 (level s)) r) ts)
      → KeepsRead lim (site 2 (level s)) b.back t mark.Colon m → KeepsStepped lim ts t (spec.case_by ps s p m)
  case_by_keeps ps s p (turn.Goes q reach) o f i r b h =
      goes ps s (step.Case p q) reach o f (λ z. (pushed ts t (lay_base ps s ++ word_at p word.Case) _ _ b (h z), i))
  case_by_keeps ps s p (turn.Done e) o f i r b h =
      labelled_keeps ps (part_.Case p e) o s i f (case_label p e [] h.0.ranked no_labels)
      (λ z. omega (arith, h.0.within, part_Case ℕ ℕ part_depth_step stmt_depth_step p e))
      (subst (λ x. Stand (lay_base ps s ++ x) (ts ++ t ∷ [])) (sym (part_Case Pieces Pieces lay_part_step lay_stmt_step p e))
      (regroup (lay_base ps s) (word_at p word.Case) (lay_expr e ++ plain (the_mark mark.Colon)) (ts ++ t ∷ [])
      (stand-more (lay_base ps s ++ word_at p word.Case) (lay_expr e) (plain (the_mark mark.Colon)) ts (t ∷ [])
      (behind_all (lay_base ps s ++ word_at p word.Case) (lay_expr e) _ ts b h.0.stands) (one t (token.Mark mark.Colon) h.1))))
  case_by_keeps ps s p turn.Refused o f i r b h = tt

  default_label_keeps : (ps : Parts) (s : Frames) (p : Place) → OkParts lim ps → OkFrames lim s → is_in_switch s ≡ true
      → Stand (lay_base ps s ++ word_at p word.Default) ts → KeepsStepped lim ts t (spec.default_label ps s p t)
  unfolding spec.default_label
  default_label_keeps ps s p o f i st =
      stepped_cond (closes t closer.Colon) _ turn.Refused
      (λ e. labelled_keeps ps (part_.Default p) o s i f (default_label p [] no_labels)
      (λ z. omega (arith, z, part_Default ℕ ℕ part_depth_step stmt_depth_step p))
      (subst (λ x. Stand (lay_base ps s ++ x) (ts ++ t ∷ [])) (sym (part_Default Pieces Pieces lay_part_step lay_stmt_step p))
      (stand-more (lay_base ps s) (word_at p word.Default) (plain (the_mark mark.Colon)) ts (t ∷ []) st
      (one t (token.Mark mark.Colon) (closes_is closer.Colon t e)))))
      (λ e. tt)

  switch_keeps : (ps : Parts) (s : Frames) (x : BlockStage) → OkParts lim ps → OkFrames lim s → OkStep lim ps s x ts → KeepsStepped lim ts t (spec.in_switch ps s x t)
  unfolding spec.in_switch spec.case_value
  switch_keeps ps s (step.Braces p e) o f k = braces_keeps ps s p e o f k.1 k.0
  switch_keeps ps s (step.Case p r) o f k =
      case_by_keeps ps s p _ o f k.1 r k.0 (read_keeps lim (site 2 (level s)) k.0.back t r closer.Colon k.0.rest)
  switch_keeps ps s (step.Default p) o f k = default_label_keeps ps s p o f k.1 k.0
  switch_keeps ps s _ o f k = tt

  for_keeps : (ps : Parts) (s : Frames) (x : BlockStage) → OkParts lim ps → OkFrames lim s → OkStep lim ps s x ts → KeepsStepped lim ts t (spec.in_for ps s x t)
  unfolding spec.in_for spec.for_declares spec.second spec.third
  for_keeps ps s (step.For p) o f k = for_opened_keeps ps s p o f k.0 k.1
  for_keeps ps s (step.Start p r) o f k = start_keeps ps s p r o f k
  for_keeps ps s (step.Declares p d) o f k =
      for_declares_by_keeps ps s p d _ o f k (declaration_keeps lim (inner s) k.behind.back t d k.behind.rest)
  for_keeps ps s (step.Second p start r) o f k =
      second_by_keeps ps s p start r _ o f k.0 k.1 (maybe_keeps lim (site 0 (inner s)) k.0.behind.back t r closer.Semicolon k.0.room k.0.behind.rest)
  for_keeps ps s (step.Third p start test r) o f k =
      third_by_keeps ps s p start test r _ o f k.0 k.1 k.2 (maybe_keeps lim (site 0 (inner s)) k.0.behind.back t r closer.Paren k.0.room k.0.behind.rest)
  for_keeps ps s x o f k = switch_keeps ps s x o f k

  step_keeps : (ps : Parts) (s : Frames) (x : BlockStage) → OkParts lim ps → OkFrames lim s → OkStep lim ps s x ts → KeepsStepped lim ts t (spec.stage_fed ps s x t)
  step_keeps ps s step.Begins o f k = begins_keeps ps s o f k
  step_keeps ps s (step.Whole x) o f k = behind_keeps ps s x o f (record { stands = k.stands; part = k.part; shut = λ z. k.shut; within = k.within })
  step_keeps ps s (step.Value p r) o f k = value_keeps ps s p r o f k
  step_keeps ps s (step.Keyword x) o f k = opened_keeps ps s x o f k.0 k.1
  step_keeps ps s (step.Test x r) o f k = test_keeps ps s x r o f k.1 k.0
  step_keeps ps s (step.Semicolon x) o f k = semicolon_keeps ps s x o f k
  step_keeps ps s (step.Return p r) o f k = in_return_keeps ps s p r o f k
  step_keeps ps s (step.Local p d) o f k = local_keeps ps s p d o f k.1 k.0
  step_keeps ps s x o f k = for_keeps ps s x o f k

  pub body_keeps : (b : Body) → OkBody lim b ts → KeepsStepped lim ts t (spec.feed_body b t)
  unfolding spec.feed_body
  body_keeps b k = step_keeps b.parts b.frames b.stage k.parts k.frames k.stage

pub begin_body_ok : (lim : ℕ) → OkBody lim spec.begin_body []
begin_body_ok lim = record { parts = (no_parts, omega arith); frames = tt; stage = tt }
