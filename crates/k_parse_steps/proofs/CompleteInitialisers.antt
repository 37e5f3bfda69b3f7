-- Initialisers, in the machine of declarations.
use Rattle.std.proofs.Common.{ℕ, ◌≡◌, ◌+◌, ◌<◌, ◌≤◌, max, Bool, true, false, cond, nat_eq, List, [], ◌∷◌, ◌++◌, map, length, Some, None, sym, ap, ◌∙◌, subst, refl, arith, append_assoc}
use Rattle.std.proofs.lemmas.Bool.{ne_eqb}
use Rattle.k_parse_steps.specs.Types.{Place, Token, TokenKind, Expr, Init, Declarator, Brace, Opened, Front, Declaration, Reading}
use Rattle.k_tree.specs.declared.tokens.TokenKind.TheVariants as token
use Rattle.k_tree.specs.declared.tokens.mark.Mark.TheVariants as mark
use Rattle.k_tree.specs.declared.tree.declaration.Init.TheVariants as init
use Rattle.k_tree.specs.Bare.{bare_init, bare_init_step, nowhere}
use Rattle.k_tree.specs.Begins.{Begins, begins_expr}
use Rattle.k_tree.proofs.Folds.{init_One, init_List}
use Rattle.k_tree.specs.Nesting.{expr_depth, init_depth, init_depth_step, deepest}
use Rattle.k_tree.specs.Ranked.{Ranked, RankedInit, RankedInits, one, braces, no_inits, more_inits}
use Rattle.k_tree.specs.Spelling.{Spelled, spell_expr, spell_init, spell_init_step, the_mark, behind_commas, spell_last_comma}
use Rattle.k_tree.proofs.Begin.{expr_begins}
use Rattle.k_parse_steps.specs.Operators.{binding}
use Rattle.k_parse_steps.specs.Level.{plus}
use Rattle.k_parse_steps.specs.Expressions.{feed, begin}
use Rattle.k_parse_steps.specs.Initialisers as inits
use Rattle.k_parse_steps.specs.Declarations.{mark_starts, feed_declaration, declaration_at, starts, kind_starts, first_token, first_by, value, value_by, after, brace, last_comma, last_comma_by, inner_level}
use Rattle.k_parse_steps.specs.declared.declaration.DeclarationStage.TheVariants as stage
use Rattle.k_parse_steps.specs.declared.turn.Turn.TheVariants as turn
use Rattle.k_parse_steps.proofs.CompleteLeads.{token_at, Moves, Step, Leads, leads-then, leads-in}
use Rattle.k_parse_steps.proofs.CompleteHolds.{Feeds, Below, below_none}
use Rattle.k_parse_steps.proofs.CompleteDepths.{depth_positive}
use Rattle.k_parse_steps.proofs.CompleteExpressions.{Whole, whole}
use Rattle.k_parse_steps.proofs.Rows.{one_more}
use Rattle.k_parse_steps.proofs.CompleteReadings.{comma_below}
use Rattle.k_parse_steps.specs.Tokens.{is_mark}

-- how the machine of declarations moves
abbrev pub Declares : Moves Declaration
Declares d t next reach = feed_declaration d t ≡ turn.Goes next reach

-- an initialiser is awaited
abbrev pub init_awaits : Front → Declarator → List Brace → Declaration
init_awaits f d s = declaration_at f (stage.Starts d s)

-- the initialiser is read: a token that goes on with no operand of an assignment expression finds it there
pub record InitHolds (f : Front) (d : Declarator) (s : List Brace) (i : Init) (z : Declaration) : Type 0 where
  pub made : Init
  pub next : (t : Token) → Below 1 t.what → feed_declaration z t ≡ after f (inits.plug (inits.opened d s) made) t
  pub same : bare_init made ≡ bare_init i

-- an initialiser is read where one is awaited, no deeper than it lies, as itself up to places
abbrev pub InitReads : Init → Type 0
InitReads i = (f : Front) (d : Declarator) (s : List Brace) → Leads Declares (f.level + length s + init_depth i) (spell_init i) (init_awaits f d s) (InitHolds f d s i)

-- an expression

-- what begins an expression is no brace
starts_first : (f : Front) (o : Opened) (t : Token) (kind : TokenKind) (next : Reading) (reach : ℕ)
    → first_token f o t ≡ turn.Goes (declaration_at f (stage.Value o.declarator o.braces t.place next)) reach
    → begins_expr kind ≡ true → kind_starts f o t kind ≡ turn.Goes (declaration_at f (stage.Value o.declarator o.braces t.place next)) reach
unfolding mark_starts is_mark
starts_first f o t (token.Mark mark.LeftBrace) next reach h b = absurd cc
starts_first f o t (token.Mark mark.RightBrace) next reach h b = absurd cc
starts_first f o t kind next reach h b = h

value_begins : (f : Front) (d : Declarator) (s : List Brace) (t : Token) (next : Reading) (reach : ℕ) → begins_expr t.what ≡ true
    → Feeds (begin 1 (plus (inner_level f (inits.opened d s)) 1)) t next reach
    → Declares (init_awaits f d s) t (declaration_at f (stage.Value d s t.place next)) reach
unfolding feed_declaration starts first_token mark_starts is_mark
value_begins f d s t next reach b h = starts_first f (inits.opened d s) t t.what next reach (ap (first_by f (inits.opened d s) t.place) h) b

value_moves : (f : Front) (d : Declarator) (s : List Brace) (p : Place) (r : Reading) (t : Token) (next : Reading) (reach : ℕ)
    → Feeds r t next reach → Declares (declaration_at f (stage.Value d s p r)) t (declaration_at f (stage.Value d s p next)) reach
unfolding feed_declaration value
value_moves f d s p r t next reach h = ap (λ v. value_by f (inits.opened d s) p v t) h

value_ends : (f : Front) (d : Declarator) (s : List Brace) (p : Place) (r : Reading) (t : Token) (e : Expr) → feed r t ≡ turn.Done e
    → feed_declaration (declaration_at f (stage.Value d s p r)) t ≡ after f (inits.plug (inits.opened d s) (init.One p e)) t
unfolding feed_declaration value
value_ends f d s p r t e h = ap (λ v. value_by f (inits.opened d s) p v t) h

one_holds : (f : Front) (d : Declarator) (s : List Brace) (q p : Place) (a : Expr) (r : Reading) → Whole 1 a r
    → InitHolds f d s (init.One q a) (declaration_at f (stage.Value d s p r))
one_holds f d s q p a r h = record {
  made = init.One p h.made;
  next = λ t below. value_ends f d s p r t h.made (h.ends t below);
  same = init_One Init bare_init_step p h.made ∙ (ap (λ e. init.One nowhere e) h.same ∙ sym (init_One Init bare_init_step q a));
}

-- the first token of an expression, and then the others
first_leads : (f : Front) (d : Declarator) (s : List Brace) (q : Place) (a : Expr) (bound more : ℕ) (xs : Spelled) → Begins begins_expr xs → bound ≤ more
    → Leads Feeds bound xs (begin 1 (plus (inner_level f (inits.opened d s)) 1)) (Whole 1 a)
    → Leads Declares more xs (init_awaits f d s) (InitHolds f d s (init.One q a))
first_leads f d s q a bound more [] b le l = absurd b
first_leads f d s q a bound more (x ∷ xs) b le l = λ p.
    let v : Step Feeds bound (begin 1 (plus (inner_level f (inits.opened d s)) 1)) (token_at p x) (λ next. Leads Feeds bound xs next (Whole 1 a)) = l p in
    record {
      next = declaration_at f (stage.Value d s p v.next);
      reach = v.reach;
      goes = value_begins f d s (token_at p x) v.next v.reach b v.goes;
      low = let h : v.reach < bound = v.low in omega arith;
      there = leads-in Feeds Declares (λ r. declaration_at f (stage.Value d s p r)) bound more xs v.next (Whole 1 a) (InitHolds f d s (init.One q a))
          (value_moves f d s p) le v.there (λ r h. one_holds f d s q p a r h);
    }

one_reads : (p : Place) (a : Expr) → Ranked 1 a → InitReads (init.One p a)
one_reads p a x = λ f d s.
    let level : ℕ = plus (inner_level f (inits.opened d s)) 1 in
    let deep : init_depth (init.One p a) ≡ 1 + expr_depth a = init_One ℕ init_depth_step p a in
    subst (λ kinds. Leads Declares (f.level + length s + init_depth (init.One p a)) kinds (init_awaits f d s) (InitHolds f d s (init.One p a)))
    (sym (init_One Spelled spell_init_step p a))
    (first_leads f d s p a (level + expr_depth a) (f.level + length s + init_depth (init.One p a)) (spell_expr a) (expr_begins 1 a x) (omega arith)
    (whole 1 level 1 a x (omega arith) (omega arith)))

-- a list in braces

brace_below : Below 1 (token.Mark mark.RightBrace)
unfolding binding is_mark
brace_below = below_none 1 mark.RightBrace refl refl

brace_at : Place → List Init → Brace
brace_at p items = record { place = p; items = items }

brace_opens : (f : Front) (d : Declarator) (s : List Brace) (p : Place)
    → Declares (init_awaits f d s) (token_at p (token.Mark mark.LeftBrace)) (init_awaits f d (record { place = p; items = [] } ∷ s)) (plus (inner_level f (inits.opened d s)) 2)
unfolding feed_declaration starts brace mark_starts is_mark
brace_opens f d s p = refl

comma_goes : (f : Front) (d : Declarator) (b : Brace) (s : List Brace) (i : Init) (p : Place)
    → after f (inits.plug (inits.opened d (b ∷ s)) i) (token_at p (token.Mark mark.Comma))
    ≡ turn.Goes (init_awaits f d (record { place = b.place; items = b.items ++ i ∷ [] } ∷ s)) 0
unfolding after inits.after inits.plug
comma_goes f d b s i p = refl

after_plugged : Front → Declarator → List Brace → Init → Declaration
after_plugged f d s i = let o : Opened = inits.plug (inits.opened d s) i in declaration_at f (stage.After o.declarator o.braces)

brace_closes : (f : Front) (d : Declarator) (b : Brace) (s : List Brace) (i : Init) (p : Place)
    → after f (inits.plug (inits.opened d (b ∷ s)) i) (token_at p (token.Mark mark.RightBrace))
    ≡ turn.Goes (after_plugged f d s (init.List b.place (b.items ++ i ∷ []) false)) 0
unfolding after inits.after inits.plug after_plugged
brace_closes f d b s i p = refl

after_holds : (f : Front) (d : Declarator) (s : List Brace) (i j : Init) → bare_init j ≡ bare_init i → InitHolds f d s i (after_plugged f d s j)
unfolding feed_declaration after_plugged
after_holds f d s i j e = record { made = j; next = λ t below. refl; same = e }

has_items : (xs : List Init) → 1 ≤ length xs → nat_eq (length xs) 0 ≡ false
has_items xs h = ne_eqb (length xs) 0 (λ e. omega arith)

long_items : (items : List Init) (i : Init) → 1 ≤ length (items ++ i ∷ [])
long_items [] i = omega arith
long_items (x ∷ items) i = let h : 1 ≤ length (items ++ i ∷ []) = long_items items i in omega arith

last_in : (d : Declarator) (b : Brace) (s : List Brace) → nat_eq (length b.items) 0 ≡ false
    → inits.last_comma (inits.opened d (b ∷ s)) ≡ Some (inits.plug_into d s (inits.listed b true))
unfolding inits.last_comma
last_in d b s h = ap (λ v. cond v None (Some (inits.plug_into d s (inits.listed b true)))) h

last_goes : (f : Front) (d : Declarator) (b : Brace) (s : List Brace) (p : Place) → nat_eq (length b.items) 0 ≡ false
    → Declares (init_awaits f d (b ∷ s)) (token_at p (token.Mark mark.RightBrace)) (after_plugged f d s (inits.listed b true)) 0
unfolding feed_declaration starts last_comma inits.plug after_plugged mark_starts is_mark
last_goes f d b s p h = ap (last_comma_by f) (last_in d b s h)

-- each is read where one is awaited
abbrev pub EachInitReads : List Init → Type 0
EachInitReads [] = Unit {0}
EachInitReads (i ∷ is) = InitReads i × EachInitReads is

list_same : (p q : Place) (xs ys : List Init) (last : Bool) → map bare_init xs ≡ map bare_init ys → bare_init (init.List p xs last) ≡ bare_init (init.List q ys last)
list_same p q xs ys last e = init_List Init bare_init_step p xs last ∙ (ap (λ t. init.List nowhere t last) e ∙ sym (init_List Init bare_init_step q ys last))

-- the end of a list: a comma or none, and the brace
list_ends : Bool → Spelled
list_ends last = spell_last_comma last ++ the_mark mark.RightBrace

list_ends_lead : (bound : ℕ) (f : Front) (d : Declarator) (s : List Brace) (q p : Place) (last : Bool) → 1 ≤ bound
    → (i : Init) (seen done : List Init) → map bare_init done ≡ map bare_init seen → (z : Declaration) → InitHolds f d (brace_at p done ∷ s) i z
    → Leads Declares bound (list_ends last) z (InitHolds f d s (init.List q (seen ++ i ∷ []) last))
unfolding brace_at list_ends
list_ends_lead bound f d s q p false positive i seen done e z h = λ to. record {
  next = after_plugged f d s (init.List p (done ++ h.made ∷ []) false);
  reach = 0;
  goes = h.next (token_at to (token.Mark mark.RightBrace)) brace_below ∙ brace_closes f d (brace_at p done) s h.made to;
  low = omega arith;
  there = after_holds f d s (init.List q (seen ++ i ∷ []) false) (init.List p (done ++ h.made ∷ []) false)
      (list_same p q (done ++ h.made ∷ []) (seen ++ i ∷ []) false (one_more bare_init done seen h.made i e h.same));
}
list_ends_lead bound f d s q p true positive i seen done e z h = λ to. record {
  next = init_awaits f d (brace_at p (done ++ h.made ∷ []) ∷ s);
  reach = 0;
  goes = h.next (token_at to (token.Mark mark.Comma)) comma_below ∙ comma_goes f d (brace_at p done) s h.made to;
  low = omega arith;
  there = λ at. record {
    next = after_plugged f d s (init.List p (done ++ h.made ∷ []) true);
    reach = 0;
    goes = last_goes f d (brace_at p (done ++ h.made ∷ [])) s at (has_items (done ++ h.made ∷ []) (long_items done h.made));
    low = omega arith;
    there = after_holds f d s (init.List q (seen ++ i ∷ []) true) (init.List p (done ++ h.made ∷ []) true)
        (list_same p q (done ++ h.made ∷ []) (seen ++ i ∷ []) true (one_more bare_init done seen h.made i e h.same));
  };
}

inits_lead : (bound : ℕ) (f : Front) (d : Declarator) (s : List Brace) (q p : Place) (last : Bool) (is : List Init) → EachInitReads is
    → f.level + length s + (1 + deepest (map init_depth is)) ≤ bound
    → (i : Init) (seen done : List Init) → map bare_init done ≡ map bare_init seen → (z : Declaration) → InitHolds f d (brace_at p done ∷ s) i z
    → Leads Declares bound (behind_commas (map spell_init is) ++ list_ends last) z (InitHolds f d s (init.List q (seen ++ i ∷ is) last))
unfolding brace_at
inits_lead bound f d s q p last [] r low i seen done e z h = list_ends_lead bound f d s q p last (omega arith) i seen done e z h
inits_lead bound f d s q p last (j ∷ is) r low i seen done e z h = λ to.
    let b : List Brace = brace_at p (done ++ h.made ∷ []) ∷ s in
    record {
      next = init_awaits f d b;
      reach = 0;
      goes = h.next (token_at to (token.Mark mark.Comma)) comma_below ∙ comma_goes f d (brace_at p done) s h.made to;
      low = omega arith;
      there =
          subst (λ kinds. Leads Declares bound kinds (init_awaits f d b) (InitHolds f d s (init.List q (seen ++ i ∷ (j ∷ is)) last)))
          (sym (append_assoc (spell_init j) (behind_commas (map spell_init is)) (list_ends last)))
          (leads-then Declares (f.level + length b + init_depth j) bound (spell_init j) (behind_commas (map spell_init is) ++ list_ends last) (init_awaits f d b)
          (InitHolds f d b j) (InitHolds f d s (init.List q (seen ++ i ∷ (j ∷ is)) last)) (omega arith)
          (r.0 f d b)
          (λ y k. subst (λ all. Leads Declares bound (behind_commas (map spell_init is) ++ list_ends last) y (InitHolds f d s (init.List q all last)))
          (append_assoc seen (i ∷ []) (j ∷ is))
          (inits_lead bound f d s q p last is r.1 (omega arith) j (seen ++ i ∷ []) (done ++ h.made ∷ [])
          (one_more bare_init done seen h.made i e h.same) y k)));
    }

pub init_positive : (i : Init) → RankedInit i → 2 ≤ init_depth i
init_positive _ (one p a x) =
    let e : init_depth (init.One p a) ≡ 1 + expr_depth a = init_One ℕ init_depth_step p a in
    let h : 1 ≤ expr_depth a = depth_positive 1 a x in omega arith
init_positive _ (braces p i is last x xs) =
    let e : init_depth (init.List p (i ∷ is) last) ≡ 1 + max (init_depth i) (deepest (map init_depth is)) = init_List ℕ init_depth_step p (i ∷ is) last in
    let h : 2 ≤ init_depth i = init_positive i x in omega arith

list_spelled : (p : Place) (i : Init) (is : List Init) (last : Bool)
    → spell_init (init.List p (i ∷ is) last) ≡ the_mark mark.LeftBrace ++ (spell_init i ++ (behind_commas (map spell_init is) ++ list_ends last))
unfolding list_ends
list_spelled p i is last =
    init_List Spelled spell_init_step p (i ∷ is) last
    ∙ ap (λ t. the_mark mark.LeftBrace ++ t)
    (append_assoc (spell_init i ++ behind_commas (map spell_init is)) (spell_last_comma last) (the_mark mark.RightBrace)
    ∙ append_assoc (spell_init i) (behind_commas (map spell_init is)) (spell_last_comma last ++ the_mark mark.RightBrace))

list_reads : (p : Place) (i : Init) (is : List Init) (last : Bool) → 2 ≤ init_depth i → InitReads i → EachInitReads is → InitReads (init.List p (i ∷ is) last)
unfolding brace_at
list_reads p i is last positive r rs = λ f d s.
    let deep : init_depth (init.List p (i ∷ is) last) ≡ 1 + max (init_depth i) (deepest (map init_depth is)) = init_List ℕ init_depth_step p (i ∷ is) last in
    let bound : ℕ = f.level + length s + init_depth (init.List p (i ∷ is) last) in
    subst (λ kinds. Leads Declares (f.level + length s + init_depth (init.List p (i ∷ is) last)) kinds (init_awaits f d s) (InitHolds f d s (init.List p (i ∷ is) last)))
    (sym (list_spelled p i is last))
    (λ at.
    let b : List Brace = brace_at at [] ∷ s in
    record {
      next = init_awaits f d b;
      reach = plus (inner_level f (inits.opened d s)) 2;
      goes = brace_opens f d s at;
      low = omega arith;
      there =
          leads-then Declares (f.level + length b + init_depth i) (f.level + length s + init_depth (init.List p (i ∷ is) last)) (spell_init i) (behind_commas (map spell_init is) ++ list_ends last)
          (init_awaits f d b) (InitHolds f d b i) (InitHolds f d s (init.List p (i ∷ is) last)) (omega arith)
          (r f d b)
          (λ y k. inits_lead (f.level + length s + init_depth (init.List p (i ∷ is) last)) f d s p at last is rs (omega arith) i [] [] refl y k);
    })

mutual
  -- an initialiser is read as itself, up to places
  pub init_complete : (i : Init) → RankedInit i → InitReads i
  init_complete _ (one p a x) = one_reads p a x
  init_complete _ (braces p i is last x xs) = list_reads p i is last (init_positive i x) (init_complete i x) (inits_complete is xs)

  pub inits_complete : (is : List Init) → RankedInits is → EachInitReads is
  inits_complete _ no_inits = tt
  inits_complete _ (more_inits i is x xs) = (init_complete i x, inits_complete is xs)
