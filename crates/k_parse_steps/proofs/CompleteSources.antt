-- Each ranked source is read as itself, up to places, no deeper than it lies; so its spelling tells it.
use Rattle.std.proofs.Common.{ℕ, ◌≡◌, ◌+◌, ◌≤◌, All, List, [], ◌∷◌, ◌++◌, map, sym, ap, ◌∙◌, subst, refl, arith, append_assoc, append-nil}
use Rattle.std.proofs.lemmas.List.Elements.{All-head, All-tail}
use Rattle.k_parse_steps.specs.Types.{Place, Token, TokenKind, Item, Source, Sourced}
use Rattle.k_tree.specs.declared.tokens.TokenKind.TheVariants as token
use Rattle.k_tree.specs.declared.tree.unit.Unit as source
use Rattle.k_tree.specs.Bare.{bare, bare_item, nowhere}
use Rattle.k_tree.specs.Nesting.{item_depth, nesting, deepest}
use Rattle.k_tree.specs.Ranked.{RankedItem, RankedUnit}
use Rattle.k_tree.specs.Spelling.{Spelled, spell_item, spelling, in_row}
use Rattle.k_parse_steps.specs.Sources.{feed_source, begin_source, starts}
use Rattle.k_parse_steps.specs.declared.turn.Turn.TheVariants as turn
use Rattle.k_parse_steps.proofs.CompleteLeads.{token_at, Leads, leads-then, leads-once}
use Rattle.k_parse_steps.proofs.CompleteItems.{Sources, starts_at, ItemRead, item_complete}
use Rattle.k_parse_steps.proofs.Rows.{one_more}

abbrev pub unit_of : List Item → Place → source.Unit
unit_of items p = record { items = items; end = p }

-- the source is read: its end ends it
pub record SourceRead (items : List Item) (z : Source) : Type 0 where
  pub made : List Item
  pub ends : (p : Place) → feed_source z (token_at p token.End) ≡ turn.Done (unit_of made p)
  pub same : map bare_item made ≡ map bare_item items

end_ends : (items : List Item) (p : Place) → feed_source (starts_at items) (token_at p token.End) ≡ turn.Done (unit_of items p)
unfolding feed_source starts
end_ends items p = refl

items_lead : (bound : ℕ) (more : List Item) → All RankedItem more → 1 + deepest (map item_depth more) ≤ bound
    → (seen done : List Item) → map bare_item done ≡ map bare_item seen
    → Leads Sources bound (in_row (map spell_item more)) (starts_at done) (SourceRead (seen ++ more))
items_lead bound [] r low seen done e = record {
  made = done;
  ends = end_ends done;
  same = e ∙ ap (map bare_item) (sym (append-nil seen));
}
items_lead bound (i ∷ more) r low seen done e =
    leads-then Sources bound bound (spell_item i) (in_row (map spell_item more)) (starts_at done) (ItemRead done i) (SourceRead (seen ++ i ∷ more)) (omega arith)
    (item_complete bound done i (All-head RankedItem i more r) (omega arith))
    (λ z h. subst (λ y. Leads Sources bound (in_row (map spell_item more)) y (SourceRead (seen ++ i ∷ more))) (sym h.at)
    (subst (λ all. Leads Sources bound (in_row (map spell_item more)) (starts_at (done ++ h.made ∷ [])) (SourceRead all)) (append_assoc seen (i ∷ []) more)
    (items_lead bound more (All-tail RankedItem i more r) (omega arith) (seen ++ i ∷ []) (done ++ h.made ∷ []) (one_more bare_item done seen h.made i e h.same))))

-- a ranked source leads from the start of a source to where its end gives it back, up to places; no reach is below its nesting
pub source_complete : (u : source.Unit) → RankedUnit u → Leads Sources (1 + nesting u) (in_row (map spell_item u.items)) begin_source (SourceRead u.items)
source_complete u h = items_lead (1 + nesting u) u.items h (omega arith) [] [] refl

one_source : (a b : Source) (m n : ℕ) → ◌≡◌ {A = Sourced} (turn.Goes a m) (turn.Goes b n) → a ≡ b
one_source a b m n e = cc

pub goes_once : (s : Source) (t : Token) (a b : Source) (m n : ℕ) → Sources s t a m → Sources s t b n → a ≡ b
goes_once s t a b m n x y = one_source a b m n (sym x ∙ y)

done_once : (a b : source.Unit) → ◌≡◌ {A = Sourced} (turn.Done a) (turn.Done b) → a ≡ b
done_once a b e = cc

read_once : (us vs : List Item) (z : Source) → SourceRead us z → SourceRead vs z → map bare_item us ≡ map bare_item vs
read_once us vs z x y =
    let both : unit_of x.made nowhere ≡ unit_of y.made nowhere = done_once (unit_of x.made nowhere) (unit_of y.made nowhere) (sym (x.ends nowhere) ∙ y.ends nowhere) in
    sym x.same ∙ (ap (λ u. map bare_item u.items) both ∙ y.same)

pub cons_tail : (x y : TokenKind) (xs ys : Spelled) → ◌≡◌ {A = Spelled} (x ∷ xs) (y ∷ ys) → xs ≡ ys
cons_tail x y xs ys e = cc

pub cons_head : (x y : TokenKind) (xs ys : Spelled) → ◌≡◌ {A = Spelled} (x ∷ xs) (y ∷ ys) → x ≡ y
cons_head x y xs ys e = cc

no_cons : (x : TokenKind) (xs : Spelled) → ◌≡◌ {A = Spelled} [] (x ∷ xs) → ⊥
no_cons x xs e = cc

no_last : (xs : Spelled) (b : TokenKind) → ◌≡◌ {A = Spelled} [] (xs ++ b ∷ []) → ⊥
no_last [] b e = no_cons b [] e
no_last (x ∷ xs) b e = no_cons x (xs ++ b ∷ []) e

without_last : (xs ys : Spelled) (a b : TokenKind) → xs ++ a ∷ [] ≡ ys ++ b ∷ [] → xs ≡ ys
without_last [] [] a b e = refl
without_last [] (y ∷ ys) a b e = absurd (no_last ys b (cons_tail a y [] (ys ++ b ∷ []) e))
without_last (x ∷ xs) [] a b e = absurd (no_last xs a (sym (cons_tail x b (xs ++ a ∷ []) [] e)))
without_last (x ∷ xs) (y ∷ ys) a b e =
    ap (λ v. v ∷ xs) (cons_head x y (xs ++ a ∷ []) (ys ++ b ∷ []) e)
    ∙ ap (λ v. y ∷ v) (without_last xs ys a b (cons_tail x y (xs ++ a ∷ []) (ys ++ b ∷ []) e))

-- two ranked sources with one spelling are equal up to places
pub source_spelled_once : (u v : source.Unit) → RankedUnit u → RankedUnit v → spelling u ≡ spelling v → bare u ≡ bare v
source_spelled_once u v x y e =
    let kinds : in_row (map spell_item u.items) ≡ in_row (map spell_item v.items) = without_last (in_row (map spell_item u.items)) (in_row (map spell_item v.items)) token.End token.End e in
    ap (λ items. unit_of items nowhere)
    (leads-once Sources (1 + nesting u) (1 + nesting v) (in_row (map spell_item u.items)) begin_source (SourceRead u.items) (SourceRead v.items)
    (map bare_item u.items ≡ map bare_item v.items) goes_once (source_complete u x)
    (subst (λ ks. Leads Sources (1 + nesting v) ks begin_source (SourceRead v.items)) (sym kinds) (source_complete v y))
    (read_once u.items v.items))
