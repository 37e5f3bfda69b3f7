-- Declarations and parameters are given back by themselves without places and the places of their pieces.
use Rattle.std.proofs.Common.{◌≡◌, ◌≢◌, List, [], ◌∷◌, ◌++◌, map, Bool, Option, Some, None, append_assoc, ap, ◌∙◌, refl}
use Rattle.std.specs.Prelude.{All, option_map}
use Rattle.std.proofs.lemmas.List.{map-append}
use Rattle.std.proofs.lemmas.List.Elements.{All-nil, All-cons}
use Rattle.k_parse_steps.specs.Types.{Place, Word, Init, Declarator, Param, Params}
use Rattle.k_tree.specs.declared.tokens.mark.Mark.TheVariants as mark
use Rattle.k_tree.specs.declared.tree.declaration.Init.TheVariants as init
use Rattle.k_tree.specs.declared.tree.declaration.Params.TheVariants as params
use Rattle.k_tree.specs.Bare.{bare_init, bare_declarator, bare_param, bare_params}
use Rattle.k_tree.proofs.Folds.{init_One, init_List}
use Rattle.k_tree.specs.Places.{Pieces, plain, lay_expr, lay_init, lay_init_step, lay_initialised, lay_behind_commas, lay_declarator, lay_declaration, lay_with_commas, lay_dims, lay_param, lay_params}
use Rattle.k_tree.specs.Ranked.{RankedInit, RankedInits, one, braces, no_inits, more_inits, IfGiven, Specs, RankedDeclarator, RankedDeclaration, RankedParam, RankedParams}
use Rattle.k_tree.specs.Spelling.{the_mark, spell_last_comma, spell_specs, spell_stars, spell_optional_name}
use Rattle.k_parse.proofs.ReplacedFilling.{fill_list, fill_option, fill_init, fill_declarator, fill_declarators, fill_param, fill_params}
use Rattle.k_parse.proofs.ReplacedPieces.{blank, Fills, blank-plain, blank-at, places_of, places-append, places-plain, places-ended, places-at, commas_blank, commas_filled}
use Rattle.k_parse.proofs.ReplacedExpressions.{expr_blank, expr_filled, expr_laid, dims_blank, dims_filled}

mutual
  pub init_blank : (i : Init) → RankedInit i → lay_init (bare_init i) ≡ blank (lay_init i)
  init_blank _ (one p a x) = simp (init_One, blank-at, expr_blank 1 a x)
  init_blank _ (braces p i is last x xs) = simp (init_List, map-append, blank-plain, init_blank i x, inits_blank is xs)

  inits_blank : (is : List Init) → RankedInits is
      → lay_behind_commas (map lay_init (map bare_init is)) ≡ blank (lay_behind_commas (map lay_init is))
  inits_blank _ no_inits = refl
  inits_blank _ (more_inits i is x xs) = simp (map-append, init_blank i x, inits_blank is xs)

-- initialisers in braces, where the items take their places
braces_filled : (p : Place) (items : List Init) (last : Bool)
    → Fills (lay_with_commas (map lay_init items)) (fill_list (map fill_init (map bare_init items))) items
    → Fills (lay_init (init.List p items last)) (fill_init (bare_init (init.List p items last))).from (init.List p items last)
braces_filled p items last h ps =
    let e : places_of (lay_init (init.List p items last)) ≡ p ∷ places_of (lay_with_commas (map lay_init items)) =
    ap places_of (init_List Pieces lay_init_step p items last)
    ∙ ap (λ qs. p ∷ qs) (places-ended (lay_with_commas (map lay_init items)) (spell_last_comma last) (the_mark mark.RightBrace)) in
    rw e (simp (init_List, h))

mutual
  pub init_filled : (i : Init) → RankedInit i → Fills (lay_init i) (fill_init (bare_init i)).from i
  init_filled _ (one p a x) ps = simp (init_One, places-at p (lay_expr a) (expr_laid 1 a x), expr_filled 1 a x)
  init_filled _ (braces p i is last x xs) ps =
      braces_filled p (i ∷ is) last (λ qs. simp (places-append, append_assoc, init_filled i x, inits_filled is xs)) ps

  inits_filled : (is : List Init) → RankedInits is
      → Fills (lay_behind_commas (map lay_init is)) (fill_list (map fill_init (map bare_init is))) is
  inits_filled _ no_inits ps = refl
  inits_filled _ (more_inits i is x xs) ps = simp (places-append, append_assoc, init_filled i x, inits_filled is xs)

initialised_blank : (i : Option Init) → IfGiven RankedInit i → lay_initialised (option_map bare_init i) ≡ blank (lay_initialised i)
initialised_blank None h = refl
initialised_blank (Some i) h = simp (init_blank i h)

initialised_filled : (i : Option Init) → IfGiven RankedInit i → Fills (lay_initialised i) (fill_option fill_init (option_map bare_init i)) i
initialised_filled None h ps = refl
initialised_filled (Some i) h ps = simp (init_filled i h)

declarator_blank : (d : Declarator) → RankedDeclarator d → lay_declarator (bare_declarator d) ≡ blank (lay_declarator d)
declarator_blank d h = simp (map-append, blank-plain, dims_blank d.dims h.0, initialised_blank d.init h.1)

declarator_filled : (d : Declarator) → RankedDeclarator d → Fills (lay_declarator d) (fill_declarator (bare_declarator d)) d
declarator_filled d h ps =
    simp (places-append, places-plain, append_assoc, dims_filled d.dims h.0, initialised_filled d.init h.1)

pub declaration_blank : (specs : List Word) (list : List Declarator) → RankedDeclaration specs list
    → lay_declaration specs (map bare_declarator list) ≡ blank (lay_declaration specs list)
declaration_blank specs list h =
    simp (map-append, blank-plain, commas_blank RankedDeclarator lay_declarator bare_declarator declarator_blank list h.2)

pub declaration_filled : (specs : List Word) (list : List Declarator) → RankedDeclaration specs list
    → Fills (lay_declaration specs list) (fill_declarators (map bare_declarator list)) list
declaration_filled specs list h ps =
    simp (
      places-append,
      places-plain,
      append_assoc,
      commas_filled RankedDeclarator lay_declarator bare_declarator fill_declarator declarator_filled list h.2,
    )

-- what begins with specifiers has pieces
pub specs_lead : (specs : List Word) (xs : Pieces) → Specs specs → plain (spell_specs specs) ++ xs ≢ []
specs_lead [] xs h e = absurd (h.0 refl)
specs_lead (w ∷ specs) xs h e = cc

-- a declaration has pieces
pub declaration_laid : (specs : List Word) (list : List Declarator) → RankedDeclaration specs list → lay_declaration specs list ≢ []
declaration_laid specs list h =
    specs_lead specs (lay_with_commas (map lay_declarator list) ++ plain (the_mark mark.Semicolon)) h.0

param_blank : (p : Param) → RankedParam p → lay_param (bare_param p) ≡ blank (lay_param p)
param_blank p h = simp (blank-at, map-append, blank-plain, dims_blank p.dims h.1)

param_filled : (p : Param) → RankedParam p → Fills (lay_param p) (fill_param (bare_param p)) p
param_filled p h ps =
    let later = plain (spell_stars p.stars) ++ (plain (spell_optional_name p.name) ++ lay_dims p.dims) in
    simp (places-at p.place (plain (spell_specs p.specs) ++ later) (specs_lead p.specs later h.0), places-append, places-plain, dims_filled p.dims h.1)

ranked_params : (list : List Param) → RankedParams (params.List list) → All RankedParam list
ranked_params [] h = absurd h
ranked_params (p ∷ []) h = All-cons RankedParam p [] h.0 (All-nil RankedParam)
ranked_params (p ∷ (q ∷ list)) h = h

pub params_blank : (list : Params) → RankedParams list → lay_params (bare_params list) ≡ blank (lay_params list)
params_blank params.Empty h = refl
params_blank params.Void h = refl
params_blank (params.List list) h = commas_blank RankedParam lay_param bare_param param_blank list (ranked_params list h)

pub params_filled : (list : Params) → RankedParams list → Fills (lay_params list) (fill_params (bare_params list)) list
params_filled params.Empty h ps = refl
params_filled params.Void h ps = refl
params_filled (params.List list) h ps =
    simp (commas_filled RankedParam lay_param bare_param fill_param param_filled list (ranked_params list h))
