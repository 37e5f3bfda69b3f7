-- A list that is read to its end has a tree that is ranked, placed and within the limit.
use Rattle.std.proofs.Common.{ℕ, ◌≡◌, ◌≤◌, Bool, true, false, cond, List, [], ◌∷◌, ◌++◌, Some, None, refl, sym, subst, append_assoc, nat_le}
use Rattle.std.specs.Prelude.{Ok, Err}
use Rattle.std.proofs.lemmas.Bool.{leb-true}
use Rattle.k_parse_steps.specs.Types.{Token, Sourced}
use Rattle.k_parse_steps.specs.declared.source.Source.{Source}
use Rattle.k_parse.specs.declared.fault.ParseFault.{ParseFault}
use Rattle.k_tree.specs.declared.tokens.TokenKind.TheVariants as token
use Rattle.k_tree.specs.declared.tree.unit.Unit as source
use Rattle.k_tree.specs.Closed.{EndsOnce}
use Rattle.k_parse.specs.Runs.{Outcome, next, runs}
use Rattle.k_parse_steps.specs.Sources.{begin_source, feed_source}
use Rattle.k_parse_steps.specs.declared.turn.Turn.TheVariants as turn
use Rattle.k_parse.specs.declared.fault.ParseFault.TheVariants as fault
use Rattle.k_parse_steps.proofs.SourceSound.{OkSource, IsUnit, KeepsSourced, source_keeps, begin_source_ok}

ok_is : (u v : source.Unit) → ◌≡◌ {A = Outcome} (Some (Ok u)) (Some (Ok v)) → u ≡ v
ok_is u v e = cc

no_outcome : (f : ParseFault) (u : source.Unit) → ◌≡◌ {A = Outcome} (Some (Err f)) (Some (Ok u)) → ⊥
no_outcome f u e = cc

-- only the end ends a list
last_is_all : (t : Token) (ts : List Token) → EndsOnce (t ∷ ts) → t.what ≡ token.End → ts ≡ []
last_is_all t [] h e = refl
last_is_all t (u ∷ ts) h e = absurd (h.0 e)

none_some : (u : source.Unit) → ◌≡◌ {A = Outcome} None (Some (Ok u)) → ⊥
none_some u e = cc

going : (lim : ℕ) (us ts : List Token) (t : Token) (u : source.Unit) (s : Source) (reach : ℕ) (b : Bool) → nat_le reach lim ≡ b
    → (reach ≤ lim → OkSource lim s (us ++ t ∷ [])) → cond b (runs lim s ts) (Some (Err (fault.TooDeep t.place))) ≡ Some (Ok u)
    → ((x : Source) → OkSource lim x (us ++ t ∷ []) → runs lim x ts ≡ Some (Ok u) → IsUnit lim u (us ++ t ∷ ts)) → IsUnit lim u (us ++ t ∷ ts)
going lim us ts t u s reach true h k e again = again s (k (leb-true reach lim h)) e
going lim us ts t u s reach false h k e again = absurd (no_outcome (fault.TooDeep t.place) u e)

fed_sound : (lim : ℕ) (us ts : List Token) (t : Token) (u : source.Unit) (f : Sourced) → KeepsSourced lim us t f → EndsOnce (t ∷ ts)
    → next lim f t.place (λ x. runs lim x ts) ≡ Some (Ok u)
    → ((x : Source) → OkSource lim x (us ++ t ∷ []) → runs lim x ts ≡ Some (Ok u) → IsUnit lim u (us ++ t ∷ ts)) → IsUnit lim u (us ++ t ∷ ts)
fed_sound lim us ts t u (turn.Goes s reach) k c e again = going lim us ts t u s reach (nat_le reach lim) refl k e again
fed_sound lim us ts t u (turn.Done v) k c e again =
    subst (λ z. IsUnit lim u (us ++ t ∷ z)) (sym (last_is_all t ts c k.1)) (subst (λ z. IsUnit lim z (us ++ t ∷ [])) (ok_is v u e) k.0)
fed_sound lim us ts t u turn.Refused k c e again = absurd (no_outcome (fault.Syntax t.place) u e)

pub runs_sound : (lim : ℕ) → (us ts : List Token) (s : Source) (u : source.Unit) → OkSource lim s us → EndsOnce ts
    → runs lim s ts ≡ Some (Ok u) → IsUnit lim u (us ++ ts)
unfolding runs
runs_sound lim us [] s u o c e = absurd c
runs_sound lim us (t ∷ []) s u o c e =
    fed_sound lim us [] t u (feed_source s t) (source_keeps lim us t s o) c e (λ x k z. absurd (none_some u z))
runs_sound lim us (t ∷ (v ∷ ts)) s u o c e =
    fed_sound lim us (v ∷ ts) t u (feed_source s t) (source_keeps lim us t s o) c e
    (λ x k z. subst (IsUnit lim u) (append_assoc us (t ∷ []) (v ∷ ts)) (runs_sound lim (us ++ t ∷ []) (v ∷ ts) x u k c.1 z))

-- the tree of a list that ends once
pub tree_sound : (limit : ℕ) (ts : List Token) (u : source.Unit) → EndsOnce ts → runs limit begin_source ts ≡ Some (Ok u) → IsUnit limit u ts
tree_sound limit ts u c e = runs_sound limit [] ts begin_source u (begin_source_ok limit) c e
