-- A token list that spells a ranked source within the limit is read whole, as that source up to places.
use Rattle.std.proofs.Common.{ℕ, ◌≡◌, ◌+◌, ◌<◌, ◌≤◌, cond, List, [], ◌∷◌, ◌++◌, map, Some, Ok, Err, sym, ap, ◌∙◌, subst, arith, le-leb}
use Rattle.k_parse_steps.specs.Types.{Token, TokenKind, Item}
use Rattle.k_parse_steps.specs.declared.source.Source.{Source}
use Rattle.k_tree.specs.declared.tokens.TokenKind.TheVariants as token
use Rattle.k_tree.specs.declared.tree.unit.Unit as source
use Rattle.k_tree.specs.Bare.{bare_item}
use Rattle.k_tree.specs.Nesting.{nesting}
use Rattle.k_tree.specs.Ranked.{RankedUnit}
use Rattle.k_tree.specs.Spelling.{Spelled, spell_item, spelling, in_row}
use Rattle.k_parse_steps.specs.Sources.{feed_source, begin_source}
use Rattle.k_parse.specs.Runs.{next, runs}
use Rattle.k_parse_steps.specs.declared.turn.Turn.TheVariants as turn
use Rattle.k_parse.specs.declared.fault.ParseFault.TheVariants as fault
use Rattle.k_parse_steps.proofs.CompleteLeads.{token_at, Step, Leads}
use Rattle.k_parse_steps.proofs.CompleteItems.{Sources}
use Rattle.k_parse_steps.proofs.CompleteSources.{unit_of, SourceRead, source_complete}

-- the list is read to the tree of these items, up to places
pub record RunsTo (limit : ℕ) (s : Source) (ts : List Token) (items : List Item) : Type 0 where
  pub made : source.Unit
  pub ran : runs limit s ts ≡ Some (Ok made)
  pub same : map bare_item made.items ≡ map bare_item items

kinds_head : (t : Token) (ts : List Token) (x : TokenKind) (xs : Spelled) → ◌≡◌ {A = Spelled} (t.what ∷ map (λ t. t.what) ts) (x ∷ xs) → t.what ≡ x
kinds_head t ts x xs e = cc

kinds_tail : (t : Token) (ts : List Token) (x : TokenKind) (xs : Spelled) → ◌≡◌ {A = Spelled} (t.what ∷ map (λ t. t.what) ts) (x ∷ xs)
    → map (λ t. t.what) ts ≡ xs
kinds_tail t ts x xs e = cc

done_runs : (limit : ℕ) (s : Source) (t : Token) (ts : List Token) (u : source.Unit) → feed_source s t ≡ turn.Done u → runs limit s (t ∷ ts) ≡ Some (Ok u)
unfolding runs
done_runs limit s t ts u e = ap (λ v. next limit v t.place (λ x. runs limit x ts)) e

goes_runs : (limit : ℕ) (s : Source) (t : Token) (ts : List Token) (z : Source) (reach : ℕ) → feed_source s t ≡ turn.Goes z reach → reach ≤ limit
    → runs limit s (t ∷ ts) ≡ runs limit z ts
unfolding runs
goes_runs limit s t ts z reach e le =
    ap (λ v. next limit v t.place (λ x. runs limit x ts)) e
    ∙ ap (λ b. cond b (runs limit z ts) (Some (Err (fault.TooDeep t.place)))) (le-leb reach limit le)

runs_to : (limit bound : ℕ) (xs : Spelled) (ts : List Token) (s : Source) (items : List Item) → bound ≤ limit + 1
    → map (λ t. t.what) ts ≡ xs ++ token.End ∷ [] → Leads Sources bound xs s (SourceRead items) → RunsTo limit s ts items
runs_to limit bound [] [] s items le e l = absurd cc
runs_to limit bound (x ∷ xs) [] s items le e l = absurd cc
runs_to limit bound [] (t ∷ ts) s items le e l = record {
  made = unit_of l.made t.place;
  ran = done_runs limit s t ts (unit_of l.made t.place)
      (subst (λ kind. feed_source s (token_at t.place kind) ≡ turn.Done (unit_of l.made t.place)) (sym (kinds_head t ts token.End [] e)) (l.ends t.place));
  same = l.same;
}
runs_to limit bound (x ∷ xs) (t ∷ ts) s items le e l =
    let first : Step Sources bound s t (λ z. Leads Sources bound xs z (SourceRead items)) =
    subst (λ kind. Step Sources bound s (token_at t.place kind) (λ z. Leads Sources bound xs z (SourceRead items))) (sym (kinds_head t ts x (xs ++ token.End ∷ []) e)) (l t.place) in
    let rest : RunsTo limit first.next ts items = runs_to limit bound xs ts first.next items le (kinds_tail t ts x (xs ++ token.End ∷ []) e) first.there in
    let deep : first.reach < bound = first.low in
    record {
      made = rest.made;
      ran = goes_runs limit s t ts first.next first.reach first.goes (omega arith) ∙ rest.ran;
      same = rest.same;
    }

-- a ranked source, nested no deeper than the limit, is read from each token list that spells it, as itself up to places
pub source_runs : (limit : ℕ) (u : source.Unit) (ts : List Token) → RankedUnit u → nesting u ≤ limit → map (λ t. t.what) ts ≡ spelling u
    → RunsTo limit begin_source ts u.items
source_runs limit u ts h le spelled =
    runs_to limit (1 + nesting u) (in_row (map spell_item u.items)) ts begin_source u.items (omega arith) spelled (source_complete u h)
