-- Accesses, and what is known of them, behind one event more.
use Rattle.std.proofs.Common.{ℕ, suc, ◌≡◌, ◌<◌, ◌≤◌, Bool, true, List, [], ◌∷◌, ◌++◌, length, slice_get, Some, arith, refl, sym, subst, ap, inl, inr, ◌∙◌}
use Rattle.std.specs.Prelude.{Option}
use Rattle.std.proofs.lemmas.Bool.{cases_lt}
use Rattle.std.proofs.lemmas.Option.{slice_get_within}
use Rattle.k_optab.specs.declared.event.Event.{Event}
use Rattle.k_optab.specs.declared.event.Event.TheVariants.{Op}
use Rattle.k_optab.specs.Events.{Operation, made_before, operations}
use Rattle.k_optab.specs.Open.{Open, open_after}
use Rattle.k_carry_pairs.specs.declared.origin.Origin.{Origin}
use Rattle.k_carry_pairs.specs.Carried.{IsAmong, LiesIn, StandsAt}
use Rattle.k_carry_pairs.proofs.Events.{lies_less, lies_more, made_same, numbered_below}
use Rattle.k_carry_pairs.proofs.Turning.{more_length, stands_next}
use Rattle.k_carry_pairs.proofs.Lists.{get_front, get_last, take_whole}
use Rattle.k_carry_storage_pairs.specs.declared.access.Access.{Access}
use Rattle.k_carry_storage_pairs.specs.Kept.{AreAlike, IsAlike, IsListed, IsOrigin, Knows}
use Rattle.k_carry_storage_pairs.specs.Storage.{IsFirst, MakesAccess, access}
use Rattle.k_carry_storage_pairs.proofs.Within.{entered_before, lies_down}

-- events that are alike with one more that is
pub alike_next : (events others : List Event) (e other : Event) → AreAlike events others → IsAlike e other → AreAlike (events ++ e ∷ []) (others ++ other ∷ [])
alike_next events others e other alike is = record {
  long = omega (arith, more_length events e, more_length others other, alike.long);
  each = λ at x there. elim (cases_lt at (length events)) [
    | inl low ↦
        (let old = alike.each at x (sym (get_front at events (e ∷ []) low) ∙ there) in
        (old.0, (get_front at others (other ∷ []) (omega (arith, low, alike.long)) ∙ old.1.0, old.1.1)))
    | inr high ↦
        (let within : at < length (events ++ e ∷ []) = slice_get_within (events ++ e ∷ []) at x there in
        let here : at ≡ length events = omega (arith, within, high, more_length events e) in
        let both : Some e ≡ Some x = sym (ap (λ (n : ℕ). slice_get (events ++ e ∷ []) n) here ∙ get_last events e) ∙ there in
        let same : e ≡ x = cc both in (
          other,
          (
            ap (λ (n : ℕ). slice_get (others ++ other ∷ []) n) (here ∙ sym alike.long) ∙ get_last others other,
            subst (λ (y : Event). IsAlike y other) same is,
          ),
        ))
  ];
}

module _ (events : List Event) (e : Event) (accesses more : List (Option Access)) (numbered : length accesses ≡ length (operations events)) where
  abbrev behind : List Event
  behind = events ++ e ∷ []

  abbrev all : List (Option Access)
  all = accesses ++ more

  within : (at : ℕ) (op : Operation) → StandsAt events at op → at < length events
  within at op is = slice_get_within events at (Op op.class op.latency op.sources op.place) is

  -- an access that was made is made, and one at a place before the new event was
  access_same : (at : ℕ) (op : Operation) → StandsAt events at op → slice_get all (made_before at behind) ≡ slice_get accesses (made_before at events)
  access_same at op is =
      let below : made_before at events < length accesses = (let few : made_before at events < length (operations events) = numbered_below events at op is in omega (arith, few, numbered)) in
      let same : made_before at behind ≡ made_before at events = made_same events (e ∷ []) at (let low : at < length events = within at op is in omega (arith, low)) in
      ap (λ (n : ℕ). slice_get all n) same ∙ get_front (made_before at events) accesses more below

  pub makes_on : (at : ℕ) (op : Operation) (a : Access) → MakesAccess events accesses at op a → MakesAccess behind all at op a
  makes_on at op a is = record {
    stands = get_front at events (e ∷ []) (within at op is.stands) ∙ is.stands;
    accessed = access_same at op is.stands ∙ is.accessed;
  }

  pub makes_back : (at : ℕ) (op : Operation) (a : Access) → at < length events → MakesAccess behind all at op a → MakesAccess events accesses at op a
  makes_back at op a low is =
      let stands : StandsAt events at op = sym (get_front at events (e ∷ []) low) ∙ is.stands in
      record { stands = stands; accessed = sym (access_same at op stands) ∙ is.accessed }

  pub first_on : (o : Open) (at : ℕ) (a : Access) → at ≤ length events → IsFirst events accesses o at a → IsFirst behind all o at a
  first_on o at a low is i op before lies made =
      is i op before (lies_less events (e ∷ []) i o (omega (arith, before, low)) lies) (makes_back i op a (omega (arith, before, low)) made)

  pub first_back : (o : Open) (at : ℕ) (a : Access) → at ≤ length events → IsFirst behind all o at a → IsFirst events accesses o at a
  first_back o at a low is i op before lies made =
      is i op before (lies_more events (e ∷ []) i o (omega (arith, before, low)) lies) (makes_on i op a made)

  pub made_last : made_before (length events) behind ≡ length (operations events)
  made_last =
      made_same events (e ∷ []) (length events) (omega arith)
      ∙ ap (λ (es : List Event). length (operations es)) (take_whole (length events) events (omega arith))

  -- the access that stands at the number of the new event
  pub last_access : (made : Option Access) → more ≡ made ∷ [] → slice_get all (made_before (length events) behind) ≡ Some made
  last_access made is =
      ap (λ (n : ℕ). slice_get all n) (made_last ∙ sym numbered)
      ∙ (ap (λ (new : List (Option Access)). slice_get (accesses ++ new) (length accesses)) is ∙ get_last accesses made)

  -- it is that which an operation there makes
  pub access_here : (made : Option Access) → more ≡ made ∷ [] → (op : Operation) (a : Access) → MakesAccess behind all (length events) op a → made ≡ Some a
  access_here made is op a it =
      let both : Some made ≡ Some (Some a) = sym (last_access made is) ∙ it.accessed in
      cc both

  -- what was listed is
  pub listed_on : (writes : Bool) (k n : ℕ) → IsListed writes events accesses k n → IsListed writes behind all k n
  listed_on writes k n l =
      let low : k < length events = within k l.later l.stores.stands in
      let before : l.at < length events = within l.at l.earlier l.made.stands in
      record {
        at = l.at;
        earlier = l.earlier;
        later = l.later;
        element = l.element;
        o = l.o;
        number = made_same events (e ∷ []) l.at (omega (arith, before)) ∙ l.number;
        before = l.before;
        made = makes_on l.at l.earlier (access writes l.element) l.made;
        stores = makes_on k l.later (access true l.element) l.stores;
        begins_in = lies_more events (e ∷ []) l.at l.o (omega (arith, before)) l.begins_in;
        ends_in = lies_more events (e ∷ []) k l.o (omega (arith, low)) l.ends_in;
        first = first_on l.o l.at (access writes l.element) (omega (arith, before)) l.first;
      }

  pub listed_back : (writes : Bool) (k n : ℕ) → k < length events → (l : IsListed writes behind all k n)
      → (old : IsListed writes events accesses k n) × (old.o ≡ l.o)
  listed_back writes k n low l =
      let before : l.at < length events = (let less : l.at < k = l.before in omega (arith, less, low)) in (
        record {
          at = l.at;
          earlier = l.earlier;
          later = l.later;
          element = l.element;
          o = l.o;
          number = sym (made_same events (e ∷ []) l.at (omega (arith, before))) ∙ l.number;
          before = l.before;
          made = makes_back l.at l.earlier (access writes l.element) before l.made;
          stores = makes_back k l.later (access true l.element) low l.stores;
          begins_in = lies_less events (e ∷ []) l.at l.o (omega (arith, before)) l.begins_in;
          ends_in = lies_less events (e ∷ []) k l.o (omega (arith, low)) l.ends_in;
          first = first_back l.o l.at (access writes l.element) (omega (arith, before)) l.first;
        },
        refl,
      )

  -- an operation that made an access did
  pub origin_on : (a : Access) (x : Origin) → IsOrigin events accesses a x → IsOrigin behind all a x
  origin_on a x is =
      let low : is.at < length events = within is.at is.op is.made.stands in
      record {
        at = is.at;
        op = is.op;
        made = makes_on is.at is.op a is.made;
        number = made_same events (e ∷ []) is.at (omega (arith, low)) ∙ is.number;
        place = is.place;
      }

  -- an instance that is open behind the event, and in which something lies before it, was open
  pub open_before : (o : Open) (at : ℕ) → at < length events → LiesIn behind at o → IsAmong o (open_after behind) → IsAmong o (open_after events)
  open_before o at low lies alive =
      let long : length behind ≡ suc (length events) = more_length events e in
      let entered : o.enter < at = entered_before behind at o (omega (arith, low, long)) lies in
      let whole : LiesIn behind (suc (length events)) o =
      subst (λ (es : List Event). IsAmong o (open_after es)) (sym (take_whole (suc (length events)) behind (omega (arith, long)))) alive in
      let down : LiesIn behind (length events) o = lies_down behind (length events) o (omega (arith, long)) (omega (arith, entered, low)) whole in
      subst (λ (es : List Event). IsAmong o (open_after es)) (take_whole (length events) events (omega arith)) (lies_less events (e ∷ []) (length events) o (omega arith) down)

  -- what is known of an access that the event does not make
  pub knows_on : (depth : ℕ) (a : Access) (origins : List Origin) → ((op : Operation) → MakesAccess behind all (length events) op a → ⊥)
      → Knows depth events accesses a origins → Knows depth behind all a origins
  knows_on depth a origins quiet is = record {
    sound = λ x among. origin_on a x (is.sound x among);
    complete = λ o at op alive shallow lies made first. elim (stands_next events e at op made.stands) [
      | inl old ↦
          (let low : at < length events = old.0 in
          let known = is.complete o at op (open_before o at low lies alive) shallow (lies_less events (e ∷ []) at o (omega (arith, low)) lies)
          (makes_back at op a low made) (first_back o at a (omega (arith, low)) first) in
          (known.0, (known.1.0, known.1.1 ∙ sym (made_same events (e ∷ []) at (omega (arith, low))))))
      | inr new ↦ absurd (quiet op (subst (λ (n : ℕ). MakesAccess behind all n op a) new.0 made))
    ];
  }
