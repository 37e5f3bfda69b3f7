-- A list that is refused is refused at its first wrong token.
use Rattle.std.proofs.Common.{ℕ, ◌≡◌, ◌+◌, ◌<◌, ◌≤◌, Bool, true, false, cond, List, [], ◌∷◌, ◌++◌, map, Some, None, inl, inr, refl, sym, subst, arith, ◌∙◌, append_assoc, nat_le}
use Rattle.std.specs.Prelude.{◌⊎◌, Ok, Err}
use Rattle.std.proofs.lemmas.Bool.{leb-true, leb-false}
use Rattle.std.proofs.lemmas.List.{map-append}
use Rattle.k_parse_steps.specs.Types.{Token, Item, Sourced}
use Rattle.k_parse_steps.specs.declared.source.Source.{Source}
use Rattle.k_parse.specs.declared.fault.ParseFault.{ParseFault}
use Rattle.k_tree.specs.declared.tokens.TokenKind.TheVariants as token
use Rattle.k_tree.specs.declared.tree.unit.Unit as source
use Rattle.k_tree.specs.Nesting.{nesting}
use Rattle.k_tree.specs.Places.{lay_unit}
use Rattle.k_tree.specs.Spelling.{Spelled, spell_item, spelling, in_row}
use Rattle.k_tree.proofs.Laid.{unit_spelled}
use Rattle.k_tree.proofs.Standing.{stand-kinds}
use Rattle.k_parse.specs.Beginnings.{kinds, Begins, IsRefusalAt, IsFirstWrong}
use Rattle.k_parse.specs.Runs.{Outcome, next, runs}
use Rattle.k_parse_steps.specs.Sources.{begin_source, feed_source}
use Rattle.k_parse_steps.specs.declared.turn.Turn.TheVariants as turn
use Rattle.k_parse.specs.declared.fault.ParseFault.TheVariants as fault
use Rattle.k_parse_steps.proofs.CompleteLeads.{token_at, Step, Leads, Reaches}
use Rattle.k_parse_steps.proofs.CompleteItems.{Sources}
use Rattle.k_parse_steps.proofs.CompleteSources.{SourceRead, unit_of, source_complete, goes_once, cons_head, cons_tail}
use Rattle.k_parse_steps.proofs.SourceSound.{OkSource, IsUnit, KeepsSourced, source_keeps, begin_source_ok}
use Rattle.k_parse_steps.proofs.SourceViable.{PhaseReached, SourcedStays, source_stays, source_begins}

-- a token is taken: the reading goes on no deeper than below the bound, or ends
abbrev pub Takes : ℕ → Source → Token → Type 0
Takes bound s t =
    ((z : Source) × (reach : ℕ) × (feed_source s t ≡ turn.Goes z reach) × (reach < bound))
    ⊎ ((u : source.Unit) × (feed_source s t ≡ turn.Done u))

no_more : (ts : List Token) (t : Token) (rest : Spelled) → ◌≡◌ {A = Spelled} [] (kinds (ts ++ t ∷ []) ++ rest) → ⊥
no_more [] t rest e = cc
no_more (u ∷ ts) t rest e = cc

-- where a source's tokens lead, the next of them is taken, behind any of them
walk : (bound other : ℕ) (items : List Item) (xs : Spelled) (s : Source) → Leads Sources bound xs s (SourceRead items)
    → (before : List Token) (z : Source) → Reaches Sources other s before z → (t : Token) (rest : Spelled)
    → xs ++ token.End ∷ [] ≡ kinds (before ++ t ∷ []) ++ rest → Takes bound z t
walk bound other items [] s l [] z r t rest e =
    let end : token.End ≡ t.what = cons_head token.End t.what [] rest e in
    let ends : feed_source s t ≡ turn.Done (unit_of l.made t.place) =
    subst (λ kind. feed_source s (token_at t.place kind) ≡ turn.Done (unit_of l.made t.place)) end (l.ends t.place) in
    inr (unit_of l.made t.place, subst (λ y. feed_source y t ≡ turn.Done (unit_of l.made t.place)) r ends)
walk bound other items (x ∷ xs) s l [] z r t rest e =
    let kind : x ≡ t.what = cons_head x t.what (xs ++ token.End ∷ []) rest e in
    let first : Step Sources bound s t (λ y. Leads Sources bound xs y (SourceRead items)) =
    subst (λ k. Step Sources bound s (token_at t.place k) (λ y. Leads Sources bound xs y (SourceRead items))) kind (l t.place) in
    inl (first.next, first.reach, subst (λ y. feed_source y t ≡ turn.Goes first.next first.reach) r first.goes, first.low)
walk bound other items [] s l (b ∷ before) z r t rest e =
    absurd (no_more before t rest (cons_tail token.End b.what [] (kinds (before ++ t ∷ []) ++ rest) e))
walk bound other items (x ∷ xs) s l (b ∷ before) z r t rest e =
    let kind : x ≡ b.what = cons_head x b.what (xs ++ token.End ∷ []) (kinds (before ++ t ∷ []) ++ rest) e in
    let first : Step Sources bound s b (λ y. Leads Sources bound xs y (SourceRead items)) =
    subst (λ k. Step Sources bound s (token_at b.place k) (λ y. Leads Sources bound xs y (SourceRead items))) kind (l b.place) in
    let same : first.next ≡ r.next = goes_once s b first.next r.next first.reach r.reach first.goes r.goes in
    walk bound other items xs r.next (subst (λ y. Leads Sources bound xs y (SourceRead items)) same first.there) before z r.there t rest
    (cons_tail x b.what (xs ++ token.End ∷ []) (kinds (before ++ t ∷ []) ++ rest) e)

-- tokens that begin a source are taken
taken : (limit other : ℕ) (before : List Token) (t : Token) (z : Source) → Begins limit (before ++ t ∷ []) → Reaches Sources other begin_source before z
    → Takes (1 + limit) z t
taken limit other before t z b r =
    let of : Takes (1 + nesting b.tree) z t = walk (1 + nesting b.tree) other b.tree.items (in_row (map spell_item b.tree.items)) begin_source
    (source_complete b.tree b.ranked) before z r t b.rest b.spelled in
    elim of [
      | inl goes ↦ inl (goes.0, goes.1, goes.2, let w = b.within in let low = goes.3 in omega (arith, w, low))
      | inr done ↦ inr done
    ]

-- one token more
reaches_more : (bound : ℕ) (s z y : Source) (before : List Token) (t : Token) (reach : ℕ) → Reaches Sources bound s before z
    → feed_source z t ≡ turn.Goes y reach → reach < bound → Reaches Sources bound s (before ++ t ∷ []) y
reaches_more bound s z y [] t reach r goes low = record {
  next = y;
  reach = reach;
  goes = subst (λ x. feed_source x t ≡ turn.Goes y reach) (sym r) goes;
  low = low;
  there = refl;
}
reaches_more bound s z y (b ∷ before) t reach r goes low = record {
  next = r.next;
  reach = r.reach;
  goes = r.goes;
  low = r.low;
  there = reaches_more bound r.next z y before t reach r.there goes low;
}

refused_goes : (z : Source) (reach : ℕ) → ◌≡◌ {A = Sourced} turn.Refused (turn.Goes z reach) → ⊥
refused_goes z reach e = cc

refused_done : (u : source.Unit) → ◌≡◌ {A = Sourced} turn.Refused (turn.Done u) → ⊥
refused_done u e = cc

goes_done : (z : Source) (reach : ℕ) (u : source.Unit) → ◌≡◌ {A = Sourced} (turn.Goes z reach) (turn.Done u) → ⊥
goes_done z reach u e = cc

one_reach : (a b : Source) (m n : ℕ) → ◌≡◌ {A = Sourced} (turn.Goes a m) (turn.Goes b n) → m ≡ n
one_reach a b m n e = cc

-- a token that is refused is not taken, at any bound
not_taken : (bound : ℕ) (z : Source) (t : Token) → feed_source z t ≡ turn.Refused → Takes bound z t → ⊥
not_taken bound z t e takes = elim takes [
  | inl goes ↦ refused_goes goes.0 goes.1 (sym e ∙ goes.2)
  | inr done ↦ refused_done done.0 (sym e ∙ done.1)
]

-- nor is one that reaches too deep, within the limit
not_reached : (limit : ℕ) (z y : Source) (t : Token) (reach : ℕ) → feed_source z t ≡ turn.Goes y reach → limit < reach → Takes (1 + limit) z t → ⊥
not_reached limit z y t reach e deep takes = elim takes [
  | inl goes ↦ let same : reach ≡ goes.1 = one_reach y goes.0 reach goes.1 (sym e ∙ goes.2) in let low = goes.3 in absurd (omega (arith, same, low, deep))
  | inr done ↦ goes_done y reach done.0 (sym e ∙ done.1)
]

-- what was read so far begins a source
so_far : (limit : ℕ) (s : Source) (seen : List Token) → OkSource limit s seen → PhaseReached limit s.stage → Begins limit seen
so_far limit s seen ok reached =
    let found = source_begins limit s seen ok reached in
    let more : List Token = found.0 in
    let tree : source.Unit = found.1 in
    let unit : IsUnit limit tree (seen ++ more) = found.2 in
    let spells : kinds (seen ++ more) ≡ spelling tree = stand-kinds (lay_unit tree) (seen ++ more) unit.placed ∙ unit_spelled tree unit.ranked in
    record {
      tree = tree;
      rest = kinds more;
      ranked = unit.ranked;
      within = unit.within;
      spelled = sym spells ∙ map-append (λ (t : Token). t.what) seen more;
    }

some_err : (f g : ParseFault) → ◌≡◌ {A = Outcome} (Some (Err f)) (Some (Err g)) → f ≡ g
some_err f g e = cc

some_done : (u : source.Unit) (f : ParseFault) → ◌≡◌ {A = Outcome} (Some (Ok u)) (Some (Err f)) → ⊥
some_done u f e = cc

none_err : (f : ParseFault) → ◌≡◌ {A = Outcome} None (Some (Err f)) → ⊥
none_err f e = cc

-- what is known where the reading of a list stands behind some tokens
pub record Stands (limit : ℕ) (s : Source) (seen : List Token) : Type 0 where
  pub trace : Reaches Sources (1 + limit) begin_source seen s
  pub ok : OkSource limit s seen
  pub reached : PhaseReached limit s.stage

-- the same at each limit from this one on
abbrev pub StandsFrom : ℕ → Source → List Token → Type 0
StandsFrom limit s seen = (n : ℕ) → limit ≤ n → Stands n s seen

-- the refusal of a token that is not taken
refused_at : (limit : ℕ) (s : Source) (seen : List Token) (t : Token) (ts : List Token) (f : ParseFault) → Stands limit s seen
    → feed_source s t ≡ turn.Refused → f ≡ fault.Syntax t.place → IsFirstWrong limit (seen ++ t ∷ ts) f
refused_at limit s seen t ts f h e same =
    let stop = λ (n : ℕ) (b : Begins n (seen ++ t ∷ [])). not_taken (1 + n) s t e (taken n (1 + limit) seen t s b h.trace) in
    record {
      before = seen;
      wrong = t;
      after = ts;
      split = refl;
      begin = so_far limit s seen h.ok h.reached;
      stop = stop limit;
      refusal = subst (λ g. IsRefusalAt g seen t) (sym same) (refl, stop);
    }

-- one token more was read
stands_more : (limit : ℕ) (s y : Source) (seen : List Token) (t : Token) (reach : ℕ) → Stands limit s seen
    → feed_source s t ≡ turn.Goes y reach → reach ≤ limit → Stands limit y (seen ++ t ∷ [])
stands_more limit s y seen t reach h e le = record {
  trace = reaches_more (1 + limit) begin_source s y seen t reach h.trace e (omega (arith, le));
  ok = subst (KeepsSourced limit seen t) e (source_keeps limit seen t s h.ok) le;
  reached = subst (SourcedStays limit) e (source_stays limit s t h.reached) le;
}

-- a token that reaches too deep, with those before it, begins a source of the nesting that it reaches
begins_deeper : (s y : Source) (seen : List Token) (t : Token) (reach : ℕ) → Stands reach s seen → feed_source s t ≡ turn.Goes y reach
    → Begins reach (seen ++ t ∷ [])
begins_deeper s y seen t reach h e =
    let more : Stands reach y (seen ++ t ∷ []) = stands_more reach s y seen t reach h e (omega arith) in
    so_far reach y (seen ++ t ∷ []) more.ok more.reached

-- the refusal of a token that reaches too deep
deep_at : (limit : ℕ) (s y : Source) (seen : List Token) (t : Token) (ts : List Token) (f : ParseFault) (reach : ℕ) → StandsFrom limit s seen
    → feed_source s t ≡ turn.Goes y reach → limit < reach → f ≡ fault.TooDeep t.place → IsFirstWrong limit (seen ++ t ∷ ts) f
deep_at limit s y seen t ts f reach all e deep same =
    let h : Stands limit s seen = all limit (omega arith) in
    record {
      before = seen;
      wrong = t;
      after = ts;
      split = refl;
      begin = so_far limit s seen h.ok h.reached;
      stop = λ (b : Begins limit (seen ++ t ∷ [])). not_reached limit s y t reach e deep (taken limit (1 + limit) seen t s b h.trace);
      refusal = subst (λ g. IsRefusalAt g seen t) (sym same) (refl, (reach, begins_deeper s y seen t reach (all reach (omega (arith, deep))) e));
    }

-- what the rest of the list gives behind one token more
abbrev pub Again : ℕ → List Token → List Token → Token → ParseFault → Type 0
Again limit ts seen t f =
    (y : Source) → StandsFrom limit y (seen ++ t ∷ []) → runs limit y ts ≡ Some (Err f) → IsFirstWrong limit ((seen ++ t ∷ []) ++ ts) f

module _ (limit : ℕ) where
  by_reach : (ts seen : List Token) (s : Source) (t : Token) (f : ParseFault) (y : Source) (reach : ℕ) (b : Bool) → nat_le reach limit ≡ b
      → feed_source s t ≡ turn.Goes y reach → StandsFrom limit s seen
      → cond b (runs limit y ts) (Some (Err (fault.TooDeep t.place))) ≡ Some (Err f) → Again limit ts seen t f → IsFirstWrong limit (seen ++ t ∷ ts) f
  by_reach ts seen s t f y reach true le fed all e again =
      let low : reach ≤ limit = leb-true reach limit le in
      subst (λ list. IsFirstWrong limit list f) (append_assoc seen (t ∷ []) ts)
      (again y (λ n more. stands_more n s y seen t reach (all n more) fed (omega (arith, low, more))) e)
  by_reach ts seen s t f y reach false le fed all e again =
      deep_at limit s y seen t ts f reach all fed (leb-false reach limit le) (sym (some_err (fault.TooDeep t.place) f e))

  by_feed : (ts seen : List Token) (s : Source) (t : Token) (f : ParseFault) (x : Sourced) → feed_source s t ≡ x → StandsFrom limit s seen
      → next limit x t.place (λ y. runs limit y ts) ≡ Some (Err f) → Again limit ts seen t f → IsFirstWrong limit (seen ++ t ∷ ts) f
  by_feed ts seen s t f (turn.Goes y reach) fed all e again = by_reach ts seen s t f y reach (nat_le reach limit) refl fed all e again
  by_feed ts seen s t f (turn.Done u) fed all e again = absurd (some_done u f e)
  by_feed ts seen s t f turn.Refused fed all e again =
      refused_at limit s seen t ts f (all limit (omega arith)) fed (sym (some_err (fault.Syntax t.place) f e))

  -- a list that is refused behind some tokens is refused at its first wrong token
  pub wrong_behind : (ts seen : List Token) (s : Source) (f : ParseFault) → StandsFrom limit s seen → runs limit s ts ≡ Some (Err f)
      → IsFirstWrong limit (seen ++ ts) f
  unfolding runs
  wrong_behind [] seen s f all e = absurd (none_err f e)
  wrong_behind (t ∷ ts) seen s f all e =
      by_feed ts seen s t f (feed_source s t) refl all e (λ y g r. wrong_behind ts (seen ++ t ∷ []) y f g r)

-- nothing was read yet
begin_stands : (limit : ℕ) → Stands limit begin_source []
begin_stands limit = record { trace = refl; ok = begin_source_ok limit; reached = tt }

-- a whole list
pub first_wrong : (limit : ℕ) (tokens : List Token) (f : ParseFault) → runs limit begin_source tokens ≡ Some (Err f) → IsFirstWrong limit tokens f
first_wrong limit tokens f e = wrong_behind limit tokens [] begin_source f (λ n more. begin_stands n) e
