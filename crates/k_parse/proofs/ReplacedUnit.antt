-- Two sources that are equal without their places, and that stand over the same tokens, are equal.
use Rattle.std.proofs.Common.{◌≡◌, ◌≢◌, List, [], ◌∷◌, ◌++◌, map, append_assoc, sym, ◌∙◌, ap, refl}
use Rattle.std.specs.Prelude.{All}
use Rattle.std.proofs.lemmas.List.{map-append}
use Rattle.std.proofs.lemmas.List.Elements.{All-head, All-tail}
use Rattle.k_parse_steps.specs.Types.{Place, Token, Stmt, Head, Item}
use Rattle.k_tree.specs.declared.tokens.TokenKind.TheVariants as token
use Rattle.k_tree.specs.declared.tree.unit.Item.TheVariants as item
use Rattle.k_tree.specs.declared.tree.unit.Unit as source
use Rattle.k_tree.specs.Bare.{nowhere, bare_head, bare_stmt, bare_item, bare}
use Rattle.k_tree.specs.Places.{Piece, Pieces, plain, at, lay_in_parens, lay_params, lay_declaration, lay_head, lay_stmts, lay_item, lay_row, lay_unit, Stand, Placed}
use Rattle.k_tree.specs.Ranked.{RankedHead, RankedParts, RankedItem, RankedUnit}
use Rattle.k_tree.specs.Spelling.{the_name, spell_stars}
use Rattle.k_parse.proofs.ReplacedFilling.{next_place, later_places, fill_head, fill_body, fill_item, fill_unit}
use Rattle.k_parse.proofs.ReplacedPieces.{blank, Fills, blank-at, blank-plain, places_of, places-append, places-plain, places-at, row_blank, row_filled}
use Rattle.k_parse.proofs.ReplacedDeclarations.{declaration_blank, declaration_filled, declaration_laid, params_blank, params_filled, specs_lead}
use Rattle.k_parse.proofs.ReplacedStatements.{parts_blank, parts_filled}

head_blank : (h : Head) → RankedHead h → lay_head (bare_head h) ≡ blank (lay_head h)
head_blank h r = simp (map-append, blank-plain, params_blank h.params r.1)

head_filled : (h : Head) → RankedHead h → Fills (lay_head h) (fill_head (bare_head h)) h
head_filled h r ps = simp (places-append, places-plain, append_assoc, params_filled h.params r.1)

-- a head has pieces
head_laid : (h : Head) → RankedHead h → lay_head h ≢ []
head_laid h r =
    specs_lead h.specs (plain (spell_stars h.stars) ++ (at h.name_place (plain (the_name h.name)) ++ lay_in_parens (lay_params h.params))) r.0

item_blank : (i : Item) → RankedItem i → lay_item (bare_item i) ≡ blank (lay_item i)
item_blank (item.Function p h body close) r = simp (blank-at, map-append, head_blank h r.0, parts_blank body r.1)
item_blank (item.Prototype p h) r = simp (blank-at, map-append, head_blank h r)
item_blank (item.Objects p specs list) r = simp (blank-at, declaration_blank specs list r)

body_filled : (p close : Place) (h : Head) (body : List Stmt) → RankedParts body → (ps : List Place)
    → fill_body p h (map bare_stmt body) (places_of (lay_stmts body) ++ close ∷ ps) ≡ (item.Function p h body close, ps)
body_filled p close h body r ps = ap (λ a. (item.Function p h a.0 (next_place a.1), later_places a.1)) (parts_filled body r (close ∷ ps))

item_filled : (i : Item) → RankedItem i → Fills (lay_item i) (fill_item (bare_item i)) i
item_filled (item.Function p h body close) r ps =
    let e : places_of (lay_item (item.Function p h body close)) ++ ps ≡ p ∷ (places_of (lay_head h) ++ (places_of (lay_stmts body) ++ close ∷ ps)) =
    simp (places-append, places-at p (lay_head h) (head_laid h r.0), append_assoc) in
    rw e
    (ap (λ a. fill_body p a.0 (map bare_stmt body) a.1) (head_filled h r.0 (places_of (lay_stmts body) ++ close ∷ ps))
    ∙ body_filled p close h body r.1 ps)
item_filled (item.Prototype p h) r ps =
    let e : places_of (lay_item (item.Prototype p h)) ++ ps ≡ p ∷ (places_of (lay_head h) ++ ps) =
    simp (places-append, places-at p (lay_head h) (head_laid h r), append_assoc) in
    rw e (ap (λ a. (item.Prototype p a.0, a.1)) (head_filled h r ps))
item_filled (item.Objects p specs list) r ps =
    simp (places-at p (lay_declaration specs list) (declaration_laid specs list r), declaration_filled specs list r)

unit_blank : (u : source.Unit) → RankedUnit u → lay_unit (bare u) ≡ blank (lay_unit u)
unit_blank u r = simp (map-append, row_blank RankedItem lay_item bare_item item_blank u.items r)

unit_filled : (u : source.Unit) → RankedUnit u → fill_unit (bare u) (places_of (lay_unit u)) ≡ u
unit_filled u r =
    let items = lay_row (map lay_item u.items) in
    let e : places_of (lay_unit u) ≡ places_of items ++ u.end ∷ [] = places-append items (at u.end (plain (token.End ∷ []))) in
    rw e (ap (λ a. record { items = a.0; end = next_place a.1 }) (row_filled RankedItem lay_item bare_item fill_item item_filled u.items r (u.end ∷ [])))

-- places that are one place, as many in two lists
same_places : (q : Place) (ps rs : List Place) → All (λ p. p ≡ q) ps → All (λ p. p ≡ q) rs
    → map (λ p. nowhere) ps ≡ map (λ p. nowhere) rs → ps ≡ rs
same_places q [] [] g h e = refl
same_places q [] (r ∷ rs) g h e = cc
same_places q (p ∷ ps) [] g h e = cc
same_places q (p ∷ ps) (r ∷ rs) g h e =
    let first : p ≡ q = All-head (λ x. x ≡ q) p ps g in
    let second : r ≡ q = All-head (λ x. x ≡ q) r rs h in
    let rest : ps ≡ rs = same_places q ps rs (All-tail (λ x. x ≡ q) p ps g) (All-tail (λ x. x ≡ q) r rs h) (cc) in cc

first_places : (x y : Piece) (xs ys : Pieces) → x ∷ xs ≡ y ∷ ys → x.places ≡ y.places
first_places x y xs ys e = let q : x ≡ y = cc in ap (λ z. z.places) q

-- what stands over the same tokens, with as many places at each, has the same places
stand_alone : (xs ys : Pieces) (ts : List Token) → Stand xs ts → Stand ys ts → blank xs ≡ blank ys → places_of xs ≡ places_of ys
stand_alone [] [] ts g h e = refl
stand_alone [] (y ∷ ys) ts g h e = cc
stand_alone (x ∷ xs) [] ts g h e = cc
stand_alone (x ∷ xs) (y ∷ ys) [] g h e = absurd g
stand_alone (x ∷ xs) (y ∷ ys) (t ∷ ts) g h e =
    let here : x.places ≡ y.places = same_places t.place x.places y.places g.1 h.1 (first_places _ _ (blank xs) (blank ys) e) in
    let rest : places_of xs ≡ places_of ys = stand_alone xs ys ts g.2 h.2 (cc) in cc

-- a source is known by itself without its places and by the tokens over which it stands
pub placed_alone : (tokens : List Token) (u v : source.Unit) → RankedUnit u → RankedUnit v → Placed u tokens → Placed v tokens
    → bare v ≡ bare u → v ≡ u
placed_alone tokens u v ranked_u ranked_v placed_u placed_v e =
    let alike : blank (lay_unit v) ≡ blank (lay_unit u) = sym (unit_blank v ranked_v) ∙ (ap lay_unit e ∙ unit_blank u ranked_u) in
    let same : places_of (lay_unit v) ≡ places_of (lay_unit u) = stand_alone (lay_unit v) (lay_unit u) tokens placed_v placed_u alike in
    sym (unit_filled v ranked_v)
    ∙ (ap (λ w. fill_unit w (places_of (lay_unit v))) e ∙ (ap (λ ps. fill_unit (bare u) ps) same ∙ unit_filled u ranked_u))
