-- Items: functions, prototypes and declarations.
use Rattle.std.proofs.Common.{ℕ, ◌≡◌, ◌+◌, ◌≤◌, Bool, true, false, cond, ◌&&◌, IsTrue, List, [], ◌∷◌, ◌++◌, map, sym, ap, ◌∙◌, subst, refl, arith, append_assoc, ⊎_elim}
use Rattle.std.proofs.lemmas.Bool.{and_parts, cases_Bool}
use Rattle.std.proofs.lemmas.List.Elements.{All-head}
use Rattle.k_parse_steps.specs.Types.{Place, Token, TokenKind, Word, Declarator, Params, Stmt, Head, Item, Front, DeclarationStage, Declaration, Declared, Parameters, Body, Title, SourceStage, Source}
use Rattle.k_tree.specs.declared.tokens.TokenKind.TheVariants as token
use Rattle.k_tree.specs.declared.tokens.mark.Mark.TheVariants as mark
use Rattle.k_tree.specs.declared.tree.unit.Item.TheVariants as item
use Rattle.k_tree.specs.Bare.{bare_head, bare_stmt, bare_item, nowhere}
use Rattle.k_tree.specs.Nesting.{declarators_depth, params_depth, stmt_depth, item_depth, deepest}
use Rattle.k_tree.specs.Ranked.{Specs, RankedDeclaration, RankedParams, RankedHead, RankedItem, is_spec}
use Rattle.k_tree.specs.Spelling.{Spelled, spell_specs, spell_stars, spell_declarator, spell_declaration, spell_params, spell_head, spell_item, spell_stmts, with_commas, in_parens, in_braces, the_mark, the_name}
use Rattle.k_parse_steps.specs.Operators.{is_spec_word}
use Rattle.k_parse_steps.specs.Declarations.{feed_declaration, declaration_at, front_of, begin_declaration, named, end}
use Rattle.k_parse_steps.specs.Stars.{no_stars}
use Rattle.k_parse_steps.specs.Parameters.{begin_parameters}
use Rattle.k_parse_steps.specs.Statements.{mark_begins, feed_body, begin_body, begins, block_ends, is_in_block, behind}
use Rattle.k_parse_steps.specs.Sources.{mark_headed, feed_source, goes_on, starts, declares, declares_by, titled, titled_by, is_titled, parameters, parameters_by, headed, in_body, body_by}
use Rattle.k_parse_steps.specs.declared.declaration.DeclarationStage.TheVariants as stage
use Rattle.k_parse_steps.specs.declared.turn.Turn.TheVariants as turn
use Rattle.k_parse_steps.specs.declared.source.SourceStage.TheVariants as phase
use Rattle.k_parse_steps.proofs.CompleteLeads.{token_at, Moves, Leads, leads-then, leads-in}
use Rattle.k_parse_steps.proofs.CompleteInitialisers.{Declares}
use Rattle.k_parse_steps.proofs.CompleteDeclarations.{named_at, before_name, Titled, title_lead, DeclarationHolds, specs_lead, declaration_complete}
use Rattle.k_parse_steps.proofs.CompleteParameters.{Follows, ParamsHold, params_complete}
use Rattle.k_parse_steps.proofs.CompleteStatements.{Runs, begins_at}
use Rattle.k_parse_steps.proofs.CompleteBlocks.{Blocks, PartsHold, EachPart, parts_lead, parts_complete}
use Rattle.k_parse_steps.specs.Tokens.{is_mark, token_is_mark}

-- how the machine of sources moves
abbrev pub Sources : Moves Source
Sources s t next reach = feed_source s t ≡ turn.Goes next reach

abbrev phase_at : List Item → SourceStage → Source
phase_at items p = record { items = items; stage = p }

-- an item may begin
abbrev pub starts_at : List Item → Source
starts_at items = phase_at items phase.Starts

-- one more item is read
pub record ItemRead (items : List Item) (i : Item) (z : Source) : Type 0 where
  pub made : Item
  pub at : z ≡ starts_at (items ++ made ∷ [])
  pub same : bare_item made ≡ bare_item i

-- a declaration

spec_goes : (items : List Item) (w : Word) (p : Place) → IsTrue (is_spec w)
    → Sources (starts_at items) (token_at p (token.Word w)) (phase_at items (phase.Declares p (begin_declaration w 1))) 0
unfolding feed_source starts is_spec_word
spec_goes items w p h = ap (λ b. cond b (goes_on items (phase.Declares p (begin_declaration w 1)) 0) turn.Refused) h

paren_refused : (f : Front) (d : Declarator) (p : Place) (kind : TokenKind) → token_is_mark kind mark.LeftParen ≡ true
    → feed_declaration (declaration_at f (stage.Named d)) (token_at p kind) ≡ turn.Refused
unfolding feed_declaration named end is_mark
paren_refused f d p (token.Mark mark.LeftParen) h = refl
paren_refused f d p kind h = absurd cc

stage_refused : (f : Front) (n : DeclarationStage) (t : Token) → token_is_mark t.what mark.LeftParen ≡ true → titled_by f n ≡ true → feed_declaration (declaration_at f n) t ≡ turn.Refused
stage_refused f (stage.Named d) t h i = paren_refused f d t.place t.what h
stage_refused f n t h i = absurd cc

titled_refused : (d : Declaration) (t : Token) → token_is_mark t.what mark.LeftParen ≡ true → is_titled d ≡ true → feed_declaration d t ≡ turn.Refused
unfolding is_titled
titled_refused d t h i = stage_refused d.front d.stage t h i

refused_goes : (d : Declaration) (reach : ℕ) → ◌≡◌ {A = Declared} turn.Refused (turn.Goes d reach) → ⊥
refused_goes d reach e = cc

not_titled : (d : Declaration) (t : Token) (next : Declaration) (reach : ℕ) → Declares d t next reach → (token_is_mark t.what mark.LeftParen && is_titled d) ≡ false
not_titled d t next reach h =
    ⊎_elim
    (λ e. let both : (token_is_mark t.what mark.LeftParen ≡ true) × (is_titled d ≡ true) = and_parts (token_is_mark t.what mark.LeftParen) (is_titled d) e in
    absurd (refused_goes next reach (sym (titled_refused d t both.0 both.1) ∙ h)))
    (λ e. e)
    (cases_Bool (token_is_mark t.what mark.LeftParen && is_titled d))

declares_moves : (items : List Item) (p : Place) (d : Declaration) (t : Token) (next : Declaration) (reach : ℕ) → Declares d t next reach
    → Sources (phase_at items (phase.Declares p d)) t (phase_at items (phase.Declares p next)) reach
unfolding feed_source declares
declares_moves items p d t next reach h =
    ap (λ b. cond b (titled items p d) (declares_by items p (feed_declaration d t))) (not_titled d t next reach h)
    ∙ ap (declares_by items p) h

declares_ends : (items : List Item) (p : Place) (specs : List Word) (list : List Declarator) (d : Declaration) (h : DeclarationHolds specs list d) (at : Place)
    → Sources (phase_at items (phase.Declares p d)) (token_at at (token.Mark mark.Semicolon)) (starts_at (items ++ item.Objects p specs h.made ∷ [])) 0
unfolding feed_source declares is_mark
declares_ends items p specs list d h at = ap (declares_by items p) (h.ends at)

record InObjects (items : List Item) (p : Place) (specs : List Word) (list : List Declarator) (z : Source) : Type 0 where
  declaration : Declaration
  at : z ≡ phase_at items (phase.Declares p declaration)
  read : DeclarationHolds specs list declaration

objects_lead : (bound : ℕ) (items : List Item) (q : Place) (specs : List Word) (list : List Declarator) → RankedDeclaration specs list → 1 + declarators_depth list ≤ bound
    → Leads Sources bound (spell_declaration specs list) (starts_at items) (ItemRead items (item.Objects q specs list))
objects_lead bound items q [] list h low = absurd (h.0.0 refl)
objects_lead bound items q (w ∷ ws) list h low = λ p. record {
  next = phase_at items (phase.Declares p (begin_declaration w 1));
  reach = 0;
  goes = spec_goes items w p (All-head (λ v. IsTrue (is_spec v)) w ws h.0.1);
  low = omega arith;
  there =
      subst (λ kinds. Leads Sources bound kinds (phase_at items (phase.Declares p (begin_declaration w 1))) (ItemRead items (item.Objects q (w ∷ ws) list)))
      (append_assoc (spell_specs ws) (with_commas (map spell_declarator list)) (the_mark mark.Semicolon))
      (leads-then Sources bound bound (spell_specs ws ++ with_commas (map spell_declarator list)) (the_mark mark.Semicolon) (phase_at items (phase.Declares p (begin_declaration w 1)))
      (InObjects items p (w ∷ ws) list) (ItemRead items (item.Objects q (w ∷ ws) list)) (omega arith)
      (leads-in Declares Sources (λ d. phase_at items (phase.Declares p d)) bound bound (spell_specs ws ++ with_commas (map spell_declarator list)) (begin_declaration w 1)
      (DeclarationHolds (w ∷ ws) list) (InObjects items p (w ∷ ws) list) (declares_moves items p) (omega arith)
      (declaration_complete bound w ws 1 list h (omega arith) low)
      (λ d i. record { declaration = d; at = refl; read = i }))
      (λ z i to. record {
        next = starts_at (items ++ item.Objects p (w ∷ ws) i.read.made ∷ []);
        reach = 0;
        goes = subst (λ y. Sources y (token_at to (token.Mark mark.Semicolon)) (starts_at (items ++ item.Objects p (w ∷ ws) i.read.made ∷ [])) 0) (sym i.at)
            (declares_ends items p (w ∷ ws) list i.declaration i.read to);
        low = omega arith;
        there = record { made = item.Objects p (w ∷ ws) i.read.made; at = refl; same = ap (λ v. item.Objects nowhere (w ∷ ws) v) i.read.same };
      }));
}

-- the head of a function

abbrev title : List Word → List Bool → List ℕ → Place → Title
title specs stars x p = record { specs = specs; stars = stars; name = x; name_place = p }

abbrev head : List Word → List Bool → List ℕ → Place → Params → Head
head specs stars x p ps = record { specs = specs; stars = stars; name = x; name_place = p; params = ps }

title_opens : (items : List Item) (p : Place) (specs : List Word) (stars : List Bool) (x : List ℕ) (q at : Place)
    → Sources (phase_at items (phase.Declares p (declaration_at (front_of specs [] 1) (stage.Named (named_at (front_of specs [] 1) q stars x [])))))
    (token_at at (token.Mark mark.LeftParen)) (phase_at items (phase.Parameters p (title specs stars x q) begin_parameters)) 0
unfolding feed_source declares is_titled titled is_mark
title_opens items p specs stars x q at = refl

parameters_move : (items : List Item) (p : Place) (t : Title) (ps : Parameters) (k : Token) (next : Parameters) (reach : ℕ) → Follows ps k next reach
    → Sources (phase_at items (phase.Parameters p t ps)) k (phase_at items (phase.Parameters p t next)) reach
unfolding feed_source parameters
parameters_move items p t ps k next reach h = ap (parameters_by items p t) h

parameters_end : (items : List Item) (p : Place) (specs : List Word) (stars : List Bool) (x : List ℕ) (q : Place) (ps : Params) (z : Parameters) (h : ParamsHold ps z) (at : Place)
    → Sources (phase_at items (phase.Parameters p (title specs stars x q) z)) (token_at at (token.Mark mark.RightParen))
    (phase_at items (phase.Headed p (head specs stars x q h.made))) 0
unfolding feed_source parameters
parameters_end items p specs stars x q ps z h at = ap (parameters_by items p (title specs stars x q)) (h.ends at)

-- the head is read
record HeadRead (items : List Item) (h : Head) (z : Source) : Type 0 where
  place : Place
  made : Head
  at : z ≡ phase_at items (phase.Headed place made)
  same : bare_head made ≡ bare_head h

record InTitle (items : List Item) (p : Place) (specs : List Word) (stars : List Bool) (x : List ℕ) (z : Source) : Type 0 where
  place : Place
  at : z ≡ phase_at items (phase.Declares p (declaration_at (front_of specs [] 1) (stage.Named (named_at (front_of specs [] 1) place stars x []))))

record InParameters (items : List Item) (p : Place) (t : Title) (ps : Params) (z : Source) : Type 0 where
  parameters_ : Parameters
  at : z ≡ phase_at items (phase.Parameters p t parameters_)
  read : ParamsHold ps parameters_

title_leads : (bound : ℕ) (items : List Item) (p : Place) (w : Word) (ws : List Word) (stars : List Bool) (x : List ℕ) → Specs (w ∷ ws) → 1 ≤ bound
    → Leads Sources bound (spell_specs ws ++ (spell_stars stars ++ the_name x)) (phase_at items (phase.Declares p (begin_declaration w 1))) (InTitle items p (w ∷ ws) stars x)
title_leads bound items p w ws stars x h positive =
    leads-in Declares Sources (λ d. phase_at items (phase.Declares p d)) bound bound (spell_specs ws ++ (spell_stars stars ++ the_name x)) (begin_declaration w 1)
    (Titled (front_of (w ∷ ws) [] 1) stars x) (InTitle items p (w ∷ ws) stars x) (declares_moves items p) (omega arith)
    (leads-then Declares bound bound (spell_specs ws) (spell_stars stars ++ the_name x) (begin_declaration w 1) (λ z. z ≡ before_name (front_of (w ∷ ws) [] 1) no_stars)
    (Titled (front_of (w ∷ ws) [] 1) stars x) (omega arith)
    (specs_lead bound w ws 1 positive h)
    (λ r e. subst (λ z. Leads Declares bound (spell_stars stars ++ the_name x) z (Titled (front_of (w ∷ ws) [] 1) stars x)) (sym e)
    (title_lead bound (front_of (w ∷ ws) [] 1) stars x positive)))
    (λ d i. record { place = i.place; at = ap (λ v. phase_at items (phase.Declares p v)) i.at })

params_lead : (bound : ℕ) (items : List Item) (p : Place) (specs : List Word) (stars : List Bool) (x : List ℕ) (q r : Place) (ps : Params) → RankedParams ps → 1 ≤ bound
    → 1 + params_depth ps ≤ bound
    → Leads Sources bound (spell_params ps ++ the_mark mark.RightParen) (phase_at items (phase.Parameters p (title specs stars x q) begin_parameters)) (HeadRead items (head specs stars x r ps))
params_lead bound items p specs stars x q r ps h positive low =
    leads-then Sources bound bound (spell_params ps) (the_mark mark.RightParen) (phase_at items (phase.Parameters p (title specs stars x q) begin_parameters))
    (InParameters items p (title specs stars x q) ps) (HeadRead items (head specs stars x r ps)) (omega arith)
    (leads-in Follows Sources (λ v. phase_at items (phase.Parameters p (title specs stars x q) v)) bound bound (spell_params ps) begin_parameters (ParamsHold ps)
    (InParameters items p (title specs stars x q) ps) (parameters_move items p (title specs stars x q)) (omega arith)
    (params_complete bound ps h positive low)
    (λ v i. record { parameters_ = v; at = refl; read = i }))
    (λ z i to. record {
      next = phase_at items (phase.Headed p (head specs stars x q i.read.made));
      reach = 0;
      goes = subst (λ y. Sources y (token_at to (token.Mark mark.RightParen)) (phase_at items (phase.Headed p (head specs stars x q i.read.made))) 0) (sym i.at)
          (parameters_end items p specs stars x q ps i.parameters_ i.read to);
      low = omega arith;
      there = record { place = p; made = head specs stars x q i.read.made; at = refl; same = ap (λ v. head specs stars x nowhere v) i.read.same };
    })

head_parts : (a b c d : Spelled) → a ++ (b ++ (c ++ d)) ≡ (a ++ (b ++ c)) ++ d
head_parts a b c d = simp append_assoc

head_lead : (bound : ℕ) (items : List Item) (specs : List Word) (stars : List Bool) (x : List ℕ) (r : Place) (ps : Params) → Specs specs → RankedParams ps → 1 ≤ bound
    → 1 + params_depth ps ≤ bound
    → Leads Sources bound (spell_specs specs ++ (spell_stars stars ++ (the_name x ++ in_parens (spell_params ps)))) (starts_at items) (HeadRead items (head specs stars x r ps))
head_lead bound items [] stars x r ps s h positive low = absurd (s.0 refl)
head_lead bound items (w ∷ ws) stars x r ps s h positive low = λ p. record {
  next = phase_at items (phase.Declares p (begin_declaration w 1));
  reach = 0;
  goes = spec_goes items w p (All-head (λ v. IsTrue (is_spec v)) w ws s.1);
  low = omega arith;
  there =
      subst (λ kinds. Leads Sources bound kinds (phase_at items (phase.Declares p (begin_declaration w 1))) (HeadRead items (head (w ∷ ws) stars x r ps)))
      (sym (head_parts (spell_specs ws) (spell_stars stars) (the_name x) (in_parens (spell_params ps))))
      (leads-then Sources bound bound (spell_specs ws ++ (spell_stars stars ++ the_name x)) (in_parens (spell_params ps)) (phase_at items (phase.Declares p (begin_declaration w 1)))
      (InTitle items p (w ∷ ws) stars x) (HeadRead items (head (w ∷ ws) stars x r ps)) (omega arith)
      (title_leads bound items p w ws stars x s positive)
      (λ z i at. record {
        next = phase_at items (phase.Parameters p (title (w ∷ ws) stars x i.place) begin_parameters);
        reach = 0;
        goes = subst (λ y. Sources y (token_at at (token.Mark mark.LeftParen)) (phase_at items (phase.Parameters p (title (w ∷ ws) stars x i.place) begin_parameters)) 0) (sym i.at)
            (title_opens items p (w ∷ ws) stars x i.place at);
        low = omega arith;
        there = params_lead bound items p (w ∷ ws) stars x i.place r ps h positive low;
      }));
}

head_complete : (bound : ℕ) (items : List Item) (h : Head) → RankedHead h → 1 ≤ bound → 1 + params_depth h.params ≤ bound
    → Leads Sources bound (spell_head h) (starts_at items) (HeadRead items h)
head_complete bound items h r positive low = head_lead bound items h.specs h.stars h.name h.name_place h.params r.0 r.1 positive low

-- what stands behind a head

prototype_ends : (items : List Item) (p : Place) (h : Head) (at : Place)
    → Sources (phase_at items (phase.Headed p h)) (token_at at (token.Mark mark.Semicolon)) (starts_at (items ++ item.Prototype p h ∷ [])) 0
unfolding feed_source headed mark_headed
prototype_ends items p h at = refl

body_begins : (items : List Item) (p : Place) (h : Head) (at : Place)
    → Sources (phase_at items (phase.Headed p h)) (token_at at (token.Mark mark.LeftBrace)) (phase_at items (phase.Body p h begin_body)) 0
unfolding feed_source headed mark_headed
body_begins items p h at = refl

body_moves : (items : List Item) (p : Place) (h : Head) (b : Body) (t : Token) (next : Body) (reach : ℕ) → Runs b t next reach
    → Sources (phase_at items (phase.Body p h b)) t (phase_at items (phase.Body p h next)) reach
unfolding feed_source in_body
body_moves items p h b t next reach e = ap (body_by items p h t.place) e

whole_next : (done : List Stmt) (x : Stmt) (t : Token) → behind done [] x t ≡ feed_body (begins_at (done ++ x ∷ []) []) t
unfolding behind feed_body
whole_next done x t = refl

whole_inside : (done : List Stmt) → is_in_block [] ≡ true
unfolding is_in_block
whole_inside done = refl

blocks_whole : Blocks (λ done. done) (λ done. []) 0
blocks_whole = record {
  size = λ done. refl;
  inside = whole_inside;
  next = whole_next;
}

whole_ends : (done : List Stmt) (p : Place) → feed_body (begins_at done []) (token_at p (token.Mark mark.RightBrace)) ≡ turn.Done done
unfolding feed_body begins block_ends mark_begins is_mark
whole_ends done p = refl

body_ends : (items : List Item) (p : Place) (h : Head) (parts : List Stmt) (b : Body) (k : PartsHold (λ done. done) (λ done. []) parts b) (at : Place)
    → Sources (phase_at items (phase.Body p h b)) (token_at at (token.Mark mark.RightBrace)) (starts_at (items ++ item.Function p h k.made at ∷ [])) 0
unfolding feed_source in_body
body_ends items p h parts b k at = ap (body_by items p h at) (k.next (token_at at (token.Mark mark.RightBrace)) refl ∙ whole_ends k.made at)

record InBody (items : List Item) (p : Place) (h : Head) (parts : List Stmt) (z : Source) : Type 0 where
  body : Body
  at : z ≡ phase_at items (phase.Body p h body)
  read : PartsHold (λ done. done) (λ done. []) parts body

function_same : (p q r u : Place) (h g : Head) (xs ys : List Stmt) → bare_head h ≡ bare_head g → map bare_stmt xs ≡ map bare_stmt ys
    → bare_item (item.Function p h xs q) ≡ bare_item (item.Function r g ys u)
function_same p q r u h g xs ys e f =
    ap (λ v. item.Function nowhere v (map bare_stmt xs) nowhere) e ∙ ap (λ v. item.Function nowhere (bare_head g) v nowhere) f

body_lead : (bound : ℕ) (items : List Item) (p q u : Place) (h g : Head) (parts : List Stmt) → bare_head h ≡ bare_head g → EachPart parts
    → 1 + deepest (map stmt_depth parts) ≤ bound
    → Leads Sources bound (in_braces (spell_stmts parts)) (phase_at items (phase.Headed p h)) (ItemRead items (item.Function q g parts u))
body_lead bound items p q u h g parts e r low = λ at. record {
  next = phase_at items (phase.Body p h begin_body);
  reach = 0;
  goes = body_begins items p h at;
  low = omega arith;
  there =
      leads-then Sources bound bound (spell_stmts parts) (the_mark mark.RightBrace) (phase_at items (phase.Body p h begin_body))
      (InBody items p h parts) (ItemRead items (item.Function q g parts u)) (omega arith)
      (leads-in Runs Sources (λ b. phase_at items (phase.Body p h b)) bound bound (spell_stmts parts) begin_body (PartsHold (λ done. done) (λ done. []) parts) (InBody items p h parts)
      (body_moves items p h) (omega arith)
      (parts_lead bound (λ done. done) (λ done. []) 0 blocks_whole parts r (omega arith) [] begin_body (record { made = []; next = λ t v. refl; same = refl }))
      (λ b i. record { body = b; at = refl; read = i }))
      (λ z i to. record {
        next = starts_at (items ++ item.Function p h i.read.made to ∷ []);
        reach = 0;
        goes = subst (λ y. Sources y (token_at to (token.Mark mark.RightBrace)) (starts_at (items ++ item.Function p h i.read.made to ∷ [])) 0) (sym i.at)
            (body_ends items p h parts i.body i.read to);
        low = omega arith;
        there = record { made = item.Function p h i.read.made to; at = refl; same = function_same p to q u h g i.read.made parts e i.read.same };
      });
}

-- a ranked item is read where one may begin, no deeper than it lies, as itself up to places
pub item_complete : (bound : ℕ) (items : List Item) (i : Item) → RankedItem i → 1 + item_depth i ≤ bound
    → Leads Sources bound (spell_item i) (starts_at items) (ItemRead items i)
item_complete bound items (item.Function q h parts u) r low =
    leads-then Sources bound bound (spell_head h) (in_braces (spell_stmts parts)) (starts_at items) (HeadRead items h) (ItemRead items (item.Function q h parts u)) (omega arith)
    (head_complete bound items h r.0 (omega arith) (omega arith))
    (λ z i. subst (λ y. Leads Sources bound (in_braces (spell_stmts parts)) y (ItemRead items (item.Function q h parts u))) (sym i.at)
    (body_lead bound items i.place q u i.made h parts i.same (parts_complete parts r.1) (omega arith)))
item_complete bound items (item.Prototype q h) r low =
    leads-then Sources bound bound (spell_head h) (the_mark mark.Semicolon) (starts_at items) (HeadRead items h) (ItemRead items (item.Prototype q h)) (omega arith)
    (head_complete bound items h r (omega arith) (omega arith))
    (λ z i to. record {
      next = starts_at (items ++ item.Prototype i.place i.made ∷ []);
      reach = 0;
      goes = subst (λ y. Sources y (token_at to (token.Mark mark.Semicolon)) (starts_at (items ++ item.Prototype i.place i.made ∷ [])) 0) (sym i.at)
          (prototype_ends items i.place i.made to);
      low = omega arith;
      there = record { made = item.Prototype i.place i.made; at = refl; same = ap (λ v. item.Prototype nowhere v) i.same };
    })
item_complete bound items (item.Objects q specs list) r low = objects_lead bound items q specs list r low
