-- Declarators and declarations.
use Rattle.std.proofs.Common.{ℕ, ◌≡◌, ◌≢◌, ◌+◌, ◌≤◌, Bool, cond, IsTrue, All, List, [], ◌∷◌, ◌++◌, map, length, Option, Some, None, sym, ap, ◌∙◌, subst, refl, arith, append_assoc, option_map}
use Rattle.std.proofs.lemmas.List.Elements.{All-head, All-tail}
use Rattle.k_parse_steps.specs.Types.{Place, Token, Word, Expr, Init, Declarator, Stars, Front, Declaration, Reading}
use Rattle.k_tree.specs.declared.tokens.TokenKind.TheVariants as token
use Rattle.k_tree.specs.declared.tokens.mark.Mark.TheVariants as mark
use Rattle.k_tree.specs.declared.tokens.word.Word.TheVariants as word_
use Rattle.k_tree.specs.Bare.{bare_dims, bare_init, bare_declarator, nowhere}
use Rattle.k_tree.specs.Nesting.{init_depth, initialised_depth, declarator_depth, declarators_depth}
use Rattle.k_tree.specs.Ranked.{Specs, IfGiven, RankedInit, RankedDeclarator, RankedDeclaration, is_spec}
use Rattle.k_tree.specs.Spelling.{spell_init, spell_initialised, spell_dims, spell_stars, spell_specs, spell_declarator, the_name, behind_commas, with_commas}
use Rattle.k_parse_steps.specs.Operators.{is_spec_word}
use Rattle.k_parse_steps.specs.Level.{plus}
use Rattle.k_parse_steps.specs.Stars.{no_stars, all_stars, star, constant, type_word}
use Rattle.k_parse_steps.specs.Expressions.{begin}
use Rattle.k_parse_steps.specs.Readings.{read_maybe, is_fresh, closes}
use Rattle.k_parse_steps.specs.declared.reading.Closer.TheVariants as closer
use Rattle.k_parse_steps.specs.Initialisers as inits
use Rattle.k_parse_steps.specs.Declarations.{mark_before, feed_declaration, declaration_at, front_of, begin_declaration, before, word, name, named, end, size, size_by, after, word_by}
use Rattle.k_parse_steps.specs.declared.declaration.DeclarationStage.TheVariants as stage
use Rattle.k_parse_steps.specs.declared.turn.Turn.TheVariants as turn
use Rattle.k_parse_steps.proofs.CompleteLeads.{token_at, Leads, leads-then, leads-more}
use Rattle.k_parse_steps.proofs.CompleteHolds.{Feeds}
use Rattle.k_parse_steps.proofs.CompleteExpressions.{Whole}
use Rattle.k_parse_steps.proofs.CompleteReadings.{maybe_goes, maybe_ends, bracket_below, semicolon_below, closes_at, comma_below}
use Rattle.k_parse_steps.proofs.CompleteRows.{words_lead, Starred, stars_lead, Sized, Sizes, dims_lead}
use Rattle.k_parse_steps.proofs.CompleteInitialisers.{Declares, InitHolds, init_awaits, init_complete, init_positive}
use Rattle.k_parse_steps.proofs.Rows.{one_more}
use Rattle.k_parse_steps.specs.Tokens.{is_mark, is_word}

-- before the name of a declarator
abbrev pub before_name : Front → Stars → Declaration
before_name f stars = declaration_at f (stage.Before stars)

-- behind the name of a declarator, and some dimensions
abbrev pub named_at : Front → Place → List Bool → List ℕ → List (Option Expr) → Declarator
named_at f p stars x dims = record { place = p; stars = stars; name = x; dims = dims; init = None }

star_goes : (f : Front) (v : Stars) (p : Place) → Declares (before_name f v) (token_at p (token.Mark mark.Star)) (before_name f (star v)) 0
unfolding feed_declaration before mark_before
star_goes f v p = refl

const_goes : (f : Front) (v : Stars) (p : Place) → Declares (before_name f (star v)) (token_at p (token.Word word_.Const)) (before_name f (constant (star v))) 0
unfolding feed_declaration before word type_word mark_before is_word
const_goes f v p = refl

name_goes : (f : Front) (v : Stars) (x : List ℕ) (p : Place)
    → Declares (before_name f v) (token_at p (token.Name x)) (declaration_at f (stage.Named (named_at f p (all_stars v) x []))) 0
unfolding feed_declaration before name mark_before
name_goes f v x p = refl

word_goes : (vs : List Word) (level : ℕ) (w : Word) (p : Place) → IsTrue (is_spec w)
    → Declares (before_name (front_of vs [] level) no_stars) (token_at p (token.Word w)) (before_name (front_of (vs ++ w ∷ []) [] level) no_stars) 0
unfolding feed_declaration before word type_word is_spec_word mark_before
word_goes vs level w p h = ap (λ b. word_by (front_of vs [] level) (cond b (Some (vs ++ w ∷ [], no_stars)) None)) h

-- stars and a name were read
pub record Titled (f : Front) (stars : List Bool) (x : List ℕ) (z : Declaration) : Type 0 where
  pub place : Place
  pub at : z ≡ declaration_at f (stage.Named (named_at f place stars x []))

pub title_lead : (bound : ℕ) (f : Front) (stars : List Bool) (x : List ℕ) → 1 ≤ bound
    → Leads Declares bound (spell_stars stars ++ the_name x) (before_name f no_stars) (Titled f stars x)
title_lead bound f stars x positive =
    leads-then Declares bound bound (spell_stars stars) (the_name x) (before_name f no_stars) (Starred (before_name f) stars) (Titled f stars x) (omega arith)
    (stars_lead Declares (before_name f) bound no_stars [] stars positive (star_goes f) (const_goes f) refl)
    (λ r h p. record {
      next = declaration_at f (stage.Named (named_at f p stars x []));
      reach = 0;
      goes = subst (λ v. Declares r (token_at p (token.Name x)) (declaration_at f (stage.Named (named_at f p v x []))) 0) h.all
          (subst (λ z. Declares z (token_at p (token.Name x)) (declaration_at f (stage.Named (named_at f p (all_stars h.stars) x []))) 0) (sym h.at) (name_goes f h.stars x p));
      low = omega arith;
      there = record { place = p; at = refl };
    })

-- dimensions
size_opens : (f : Front) (p : Place) (stars : List Bool) (x : List ℕ) (ds : List (Option Expr)) (at : Place)
    → Declares (declaration_at f (stage.Named (named_at f p stars x ds))) (token_at at (token.Mark mark.LeftBracket))
    (declaration_at f (stage.Size (named_at f p stars x ds) (begin 2 f.level))) 0
unfolding feed_declaration named is_mark
size_opens f p stars x ds at = refl

size_moves : (f : Front) (d : Declarator) (r : Reading) (t : Token) (next : Reading) (reach : ℕ) → Feeds r t next reach
    → Declares (declaration_at f (stage.Size d r)) t (declaration_at f (stage.Size d next)) reach
unfolding feed_declaration size
size_moves f d r t next reach h = ap (size_by f d) (maybe_goes r t closer.Bracket next reach h)

size_closes : (f : Front) (p : Place) (stars : List Bool) (x : List ℕ) (ds : List (Option Expr)) (at : Place)
    → Declares (declaration_at f (stage.Size (named_at f p stars x ds) (begin 2 f.level))) (token_at at (token.Mark mark.RightBracket))
    (declaration_at f (stage.Named (named_at f p stars x (ds ++ None ∷ [])))) 0
unfolding feed_declaration size read_maybe is_fresh closes is_mark
size_closes f p stars x ds at = refl

size_ends : (f : Front) (p : Place) (stars : List Bool) (x : List ℕ) (ds : List (Option Expr)) (e : Expr) (r : Reading) (h : Whole 2 e r) (at : Place)
    → Declares (declaration_at f (stage.Size (named_at f p stars x ds) r)) (token_at at (token.Mark mark.RightBracket))
    (declaration_at f (stage.Named (named_at f p stars x (ds ++ Some h.made ∷ [])))) 0
unfolding feed_declaration size
size_ends f p stars x ds e r h at =
    ap (size_by f (named_at f p stars x ds))
    (maybe_ends r (token_at at (token.Mark mark.RightBracket)) closer.Bracket h.made (h.ends (token_at at (token.Mark mark.RightBracket)) (bracket_below 2)) (closes_at closer.Bracket at))

sizes : (f : Front) (p : Place) (stars : List Bool) (x : List ℕ)
    → Sizes Declares (λ ds. declaration_at f (stage.Named (named_at f p stars x ds))) (λ ds r. declaration_at f (stage.Size (named_at f p stars x ds) r)) f.level
sizes f p stars x = record {
  opens = size_opens f p stars x;
  moves = λ ds r t next reach h. size_moves f (named_at f p stars x ds) r t next reach h;
  closes = size_closes f p stars x;
  ends = size_ends f p stars x;
}

-- the declarator is read: the mark behind it finds it there
pub record DeclaratorHolds (f : Front) (d : Declarator) (z : Declaration) : Type 0 where
  pub made : Declarator
  pub comma : (p : Place) → feed_declaration z (token_at p (token.Mark mark.Comma)) ≡ end f made mark.Comma
  pub semicolon : (p : Place) → feed_declaration z (token_at p (token.Mark mark.Semicolon)) ≡ end f made mark.Semicolon
  pub same : bare_declarator made ≡ bare_declarator d

no_init_comma : (f : Front) (d : Declarator) (p : Place)
    → feed_declaration (declaration_at f (stage.Named d)) (token_at p (token.Mark mark.Comma)) ≡ end f d mark.Comma
unfolding feed_declaration named is_mark
no_init_comma f d p = refl

no_init_semicolon : (f : Front) (d : Declarator) (p : Place)
    → feed_declaration (declaration_at f (stage.Named d)) (token_at p (token.Mark mark.Semicolon)) ≡ end f d mark.Semicolon
unfolding feed_declaration named is_mark
no_init_semicolon f d p = refl

init_opens : (f : Front) (d : Declarator) (p : Place)
    → Declares (declaration_at f (stage.Named d)) (token_at p (token.Mark mark.Equal)) (init_awaits f d []) (plus f.level 1)
unfolding feed_declaration named is_mark
init_opens f d p = refl

init_comma : (f : Front) (d : Declarator) (i : Init) (p : Place)
    → after f (inits.plug (inits.opened d []) i) (token_at p (token.Mark mark.Comma)) ≡ end f (record d { init = Some i }) mark.Comma
unfolding after inits.after inits.plug
init_comma f d i p = refl

init_semicolon : (f : Front) (d : Declarator) (i : Init) (p : Place)
    → after f (inits.plug (inits.opened d []) i) (token_at p (token.Mark mark.Semicolon)) ≡ end f (record d { init = Some i }) mark.Semicolon
unfolding after inits.after inits.plug
init_semicolon f d i p = refl

declarator_same : (p q : Place) (stars : List Bool) (x : List ℕ) (ds es : List (Option Expr)) (i j : Option Init)
    → bare_dims ds ≡ bare_dims es → option_map bare_init i ≡ option_map bare_init j
    → bare_declarator (record { place = p; stars = stars; name = x; dims = ds; init = i }) ≡ bare_declarator (record { place = q; stars = stars; name = x; dims = es; init = j })
declarator_same p q stars x ds es i j e h =
    ap (λ v. let d : Declarator = record { place = nowhere; stars = stars; name = x; dims = v; init = option_map bare_init i } in d) e
    ∙ ap (λ v. let d : Declarator = record { place = nowhere; stars = stars; name = x; dims = bare_dims es; init = v } in d) h

-- what stands behind the dimensions
init_lead : (bound : ℕ) (f : Front) (d : Declarator) (i : Option Init) → IfGiven RankedInit i → 1 ≤ bound → f.level + initialised_depth i ≤ bound
    → (p : Place) (dims : List (Option Expr)) → bare_dims dims ≡ bare_dims d.dims → i ≡ d.init
    → Leads Declares bound (spell_initialised i) (declaration_at f (stage.Named (named_at f p d.stars d.name dims))) (DeclaratorHolds f d)
init_lead bound f d None h positive low p dims e j = record {
  made = named_at f p d.stars d.name dims;
  comma = no_init_comma f (named_at f p d.stars d.name dims);
  semicolon = no_init_semicolon f (named_at f p d.stars d.name dims);
  same = declarator_same p d.place d.stars d.name dims d.dims None d.init e (ap (option_map bare_init) j);
}
init_lead bound f d (Some i) h positive low p dims e j = λ at.
    let base : Declarator = named_at f p d.stars d.name dims in
    let deep : 2 ≤ init_depth i = init_positive i h in
    record {
      next = init_awaits f base [];
      reach = plus f.level 1;
      goes = init_opens f base at;
      low = omega arith;
      there = leads-more Declares (f.level + length {A = ℕ} [] + init_depth i) bound (spell_init i) (init_awaits f base []) (InitHolds f base [] i) (DeclaratorHolds f d) (omega arith)
          (init_complete i h f base [])
          (λ z k. record {
            made = record base { init = Some k.made };
            comma = λ to. k.next (token_at to (token.Mark mark.Comma)) comma_below ∙ init_comma f base k.made to;
            semicolon = λ to. k.next (token_at to (token.Mark mark.Semicolon)) (semicolon_below 1) ∙ init_semicolon f base k.made to;
            same = declarator_same p d.place d.stars d.name dims d.dims (Some k.made) d.init e (ap Some k.same ∙ ap (option_map bare_init) j);
          });
    }

-- a declarator is read as itself, up to places
pub declarator_complete : (bound : ℕ) (f : Front) (d : Declarator) → RankedDeclarator d → 1 ≤ bound → f.level + declarator_depth d ≤ bound
    → Leads Declares bound (spell_declarator d) (before_name f no_stars) (DeclaratorHolds f d)
declarator_complete bound f d h positive low =
    subst (λ kinds. Leads Declares bound kinds (before_name f no_stars) (DeclaratorHolds f d))
    (append_assoc (spell_stars d.stars) (the_name d.name) (spell_dims d.dims ++ spell_initialised d.init))
    (leads-then Declares bound bound (spell_stars d.stars ++ the_name d.name) (spell_dims d.dims ++ spell_initialised d.init) (before_name f no_stars)
    (Titled f d.stars d.name) (DeclaratorHolds f d) (omega arith)
    (title_lead bound f d.stars d.name positive)
    (λ r t. subst (λ z. Leads Declares bound (spell_dims d.dims ++ spell_initialised d.init) z (DeclaratorHolds f d)) (sym t.at)
    (leads-then Declares bound bound (spell_dims d.dims) (spell_initialised d.init) (declaration_at f (stage.Named (named_at f t.place d.stars d.name [])))
    (Sized (λ ds. declaration_at f (stage.Named (named_at f t.place d.stars d.name ds))) [] d.dims) (DeclaratorHolds f d) (omega arith)
    (dims_lead Declares (λ ds. declaration_at f (stage.Named (named_at f t.place d.stars d.name ds)))
    (λ ds v. declaration_at f (stage.Size (named_at f t.place d.stars d.name ds) v)) f.level bound (sizes f t.place d.stars d.name) [] d.dims h.0 positive (omega arith))
    (λ v s. subst (λ z. Leads Declares bound (spell_initialised d.init) z (DeclaratorHolds f d)) (sym s.at)
    (init_lead bound f d d.init h.1 positive (omega arith) t.place s.made s.same refl)))))

-- the declaration is read: its semicolon ends it
pub record DeclarationHolds (specs : List Word) (list : List Declarator) (z : Declaration) : Type 0 where
  pub made : List Declarator
  pub ends : (p : Place) → feed_declaration z (token_at p (token.Mark mark.Semicolon)) ≡ turn.Done (specs, made)
  pub same : map bare_declarator made ≡ map bare_declarator list

comma_goes : (f : Front) (d : Declarator) → end f d mark.Comma ≡ turn.Goes (before_name (front_of f.specs (f.list ++ d ∷ []) f.level) no_stars) 0
unfolding end
comma_goes f d = refl

semicolon_ends : (f : Front) (d : Declarator) → end f d mark.Semicolon ≡ turn.Done (f.specs, f.list ++ d ∷ [])
unfolding end
semicolon_ends f d = refl

declarators_lead : (bound : ℕ) (specs : List Word) (level : ℕ) (more : List Declarator) → All RankedDeclarator more → 1 ≤ bound
    → level + declarators_depth more ≤ bound
    → (d : Declarator) (seen done : List Declarator) → map bare_declarator done ≡ map bare_declarator seen
    → (z : Declaration) → DeclaratorHolds (front_of specs done level) d z
    → Leads Declares bound (behind_commas (map spell_declarator more)) z (DeclarationHolds specs (seen ++ d ∷ more))
declarators_lead bound specs level [] r positive low d seen done e z h = record {
  made = done ++ h.made ∷ [];
  ends = λ p. h.semicolon p ∙ semicolon_ends (front_of specs done level) h.made;
  same = one_more bare_declarator done seen h.made d e h.same;
}
declarators_lead bound specs level (b ∷ more) r positive low d seen done e z h = λ p. record {
  next = before_name (front_of specs (done ++ h.made ∷ []) level) no_stars;
  reach = 0;
  goes = h.comma p ∙ comma_goes (front_of specs done level) h.made;
  low = omega arith;
  there =
      leads-then Declares bound bound (spell_declarator b) (behind_commas (map spell_declarator more)) (before_name (front_of specs (done ++ h.made ∷ []) level) no_stars)
      (DeclaratorHolds (front_of specs (done ++ h.made ∷ []) level) b) (DeclarationHolds specs (seen ++ d ∷ (b ∷ more))) (omega arith)
      (declarator_complete bound (front_of specs (done ++ h.made ∷ []) level) b (All-head RankedDeclarator b more r) positive (omega arith))
      (λ y k. subst (λ all. Leads Declares bound (behind_commas (map spell_declarator more)) y (DeclarationHolds specs all))
      (append_assoc seen (d ∷ []) (b ∷ more))
      (declarators_lead bound specs level more (All-tail RankedDeclarator b more r) positive (omega arith) b (seen ++ d ∷ []) (done ++ h.made ∷ [])
      (one_more bare_declarator done seen h.made d e h.same) y k));
}

-- the specifiers behind the first
pub specs_lead : (bound : ℕ) (w : Word) (ws : List Word) (level : ℕ) → 1 ≤ bound → Specs (w ∷ ws)
    → Leads Declares bound (spell_specs ws) (begin_declaration w level) (λ z. z ≡ before_name (front_of (w ∷ ws) [] level) no_stars)
specs_lead bound w ws level positive h =
    words_lead Declares (λ vs. before_name (front_of vs [] level) no_stars) bound (w ∷ []) ws positive (λ vs v p. word_goes vs level v p)
    (All-tail (λ v. IsTrue (is_spec v)) w ws h.1)

list_lead : (bound : ℕ) (specs : List Word) (level : ℕ) (list : List Declarator) → list ≢ [] → All RankedDeclarator list → 1 ≤ bound
    → level + declarators_depth list ≤ bound
    → Leads Declares bound (with_commas (map spell_declarator list)) (before_name (front_of specs [] level) no_stars) (DeclarationHolds specs list)
list_lead bound specs level [] some r positive low = absurd (some refl)
list_lead bound specs level (d ∷ more) some r positive low =
    leads-then Declares bound bound (spell_declarator d) (behind_commas (map spell_declarator more)) (before_name (front_of specs [] level) no_stars)
    (DeclaratorHolds (front_of specs [] level) d) (DeclarationHolds specs (d ∷ more)) (omega arith)
    (declarator_complete bound (front_of specs [] level) d (All-head RankedDeclarator d more r) positive (omega arith))
    (λ y k. declarators_lead bound specs level more (All-tail RankedDeclarator d more r) positive (omega arith) d [] [] refl y k)

-- a declaration is read, from behind its first specifier up to its semicolon, as itself up to places
pub declaration_complete : (bound : ℕ) (w : Word) (ws : List Word) (level : ℕ) (list : List Declarator) → RankedDeclaration (w ∷ ws) list → 1 ≤ bound
    → level + declarators_depth list ≤ bound
    → Leads Declares bound (spell_specs ws ++ with_commas (map spell_declarator list)) (begin_declaration w level) (DeclarationHolds (w ∷ ws) list)
declaration_complete bound w ws level list h positive low =
    leads-then Declares bound bound (spell_specs ws) (with_commas (map spell_declarator list)) (begin_declaration w level)
    (λ z. z ≡ before_name (front_of (w ∷ ws) [] level) no_stars) (DeclarationHolds (w ∷ ws) list) (omega arith)
    (specs_lead bound w ws level positive h.0)
    (λ r e. subst (λ z. Leads Declares bound (with_commas (map spell_declarator list)) z (DeclarationHolds (w ∷ ws) list)) (sym e)
    (list_lead bound (w ∷ ws) level list h.1 h.2 positive low))
