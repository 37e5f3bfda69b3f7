-- What is carried and tracked behind one event more.
use Rattle.std.proofs.Common.{ℕ, ◌≡◌, ◌≢◌, ◌<◌, ◌≤◌, ◌⊎◌, ◌&&◌, Bool, true, false, List, [], ◌∷◌, ◌++◌, length, Some, arith, refl, sym, subst, ap, inl, inr, ◌∙◌}
use Rattle.std.proofs.lemmas.Bool.{cases_lt}
use Rattle.std.proofs.lemmas.Option.{slice_get_within}
use Rattle.k_optab.specs.declared.event.Event.{Event}
use Rattle.k_optab.specs.declared.event.Event.TheVariants.{Op}
use Rattle.k_optab.specs.Events.{Operation, ListsUnbroken, made_before}
use Rattle.k_optab.specs.Open.{Open, open_after}
use Rattle.k_carry_pairs.specs.declared.pairs.Pair.{Pair}
use Rattle.k_carry_pairs.specs.Carried.{Carries, IsAmong, IsPair, IsTracked, LiesIn, StandsAt, turn}
use Rattle.k_carry_pairs.proofs.Events.{lies_less, lies_more, made_same, turn_same, turn_up}
use Rattle.k_carry_pairs.proofs.Turning.{lies_last, more_length, stands_next}
use Rattle.k_carry_pairs.proofs.Lists.{get_front, get_last, take_whole}

-- the parts of a test of two
pub first_part : (a b : Bool) → (a && b) ≡ true → a ≡ true
first_part true b is = refl
first_part false b is = absurd (cc is)

pub second_part : (a b : Bool) → (a && b) ≡ true → b ≡ true
second_part true b is = is
second_part false b is = absurd (cc is)

pub both_parts : (a b : Bool) → a ≡ true → b ≡ true → (a && b) ≡ true
both_parts true b one two = two
both_parts false b one two = absurd (cc one)

module _ (events : List Event) (e : Event) where
  abbrev more : List Event
  more = events ++ e ∷ []

  -- what lies in an instance lies in it at a place among the events
  lies_within : (at : ℕ) (o : Open) → LiesIn events at o → (n : ℕ) × ((n ≤ length events) × LiesIn events n o)
  lies_within at o is = elim (cases_lt at (length events)) [
    | inl low ↦ (at, (omega (arith, low), is))
    | inr high ↦ (
      length events,
      (
        omega arith,
        subst (λ (es : List Event). IsAmong o (open_after es))
            (take_whole at events high ∙ sym (take_whole (length events) events (omega arith))) is,
      ),
    )
  ]

  -- a tracked instance stays one
  pub tracked_on : (depth region : ℕ) (o : Open) → IsTracked depth events region o → IsTracked depth more region o
  tracked_on depth region o is =
      let at = lies_within is.at o is.opened in
      record { at = at.0; opened = lies_more events (e ∷ []) at.0 o at.1.0 at.1.1; of = is.of; shallow = is.shallow }

  -- one behind the event was one before, or is open behind it
  pub tracked_back : (depth region : ℕ) (o : Open) → IsTracked depth more region o → IsTracked depth events region o ⊎ IsAmong o (open_after more)
  tracked_back depth region o is = elim (cases_lt is.at (length more)) [
    | inl low ↦
        (let within : is.at ≤ length events = omega (arith, low, more_length events e) in
        inl (record { at = is.at; opened = lies_less events (e ∷ []) is.at o within is.opened; of = is.of; shallow = is.shallow }))
    | inr high ↦ inr (subst (λ (es : List Event). IsAmong o (open_after es)) (take_whole is.at more high) is.opened)
  ]

  -- an open instance is tracked where its depth is
  pub tracked_open : (depth : ℕ) (o : Open) → IsAmong o (open_after events) → o.depth < depth → IsTracked depth events o.region o
  tracked_open depth o is low = record {
    at = length events;
    opened = subst (λ (es : List Event). IsAmong o (open_after es)) (sym (take_whole (length events) events (omega arith))) is;
    of = refl;
    shallow = low;
  }

  -- what was carried is carried
  pub carries_on : (o : Open) (pair : Pair) → Carries events o pair → Carries more o pair
  carries_on o pair is =
      let j_low : is.j < length events = slice_get_within events is.j (Op is.earlier.class is.earlier.latency is.earlier.sources is.earlier.place) is.made in
      let k_low : is.k < length events = slice_get_within events is.k (Op is.later.class is.later.latency is.later.sources is.later.place) is.depends in
      record {
        j = is.j;
        k = is.k;
        earlier = is.earlier;
        later = is.later;
        made = get_on is.j is.earlier j_low is.made;
        depends = get_on is.k is.later k_low is.depends;
        listed = subst (λ (n : ℕ). ListsUnbroken is.later.sources n) (sym (made_same events (e ∷ []) is.j (omega (arith, j_low)))) is.listed;
        begins_in = lies_more events (e ∷ []) is.j o (omega (arith, j_low)) is.begins_in;
        ends_in = lies_more events (e ∷ []) is.k o (omega (arith, k_low)) is.ends_in;
        turns = omega (arith, turn_same events (e ∷ []) o is.j (omega (arith, j_low)), turn_same events (e ∷ []) o is.k (omega (arith, k_low)), is.turns);
        from = is.from;
        to = is.to;
      }
    where
      get_on : (at : ℕ) (op : Operation) → at < length events → StandsAt events at op → StandsAt more at op
      get_on at op low stands_there = get_front at events (e ∷ []) low ∙ stands_there

  -- an operation that is new carries a dependence
  pub carries_new : (j : ℕ) (earlier later : Operation) (o : Open) (pair : Pair) → StandsAt events j earlier → e ≡ Op later.class later.latency later.sources later.place
      → ListsUnbroken later.sources (made_before j events) → LiesIn events j o → IsAmong o (open_after events) → turn events o j < turn events o (length events)
      → earlier.place ≡ pair.from → later.place ≡ pair.to → Carries more o pair
  carries_new j earlier later o pair made is listed begins alive turns from to =
      let j_low : j < length events = slice_get_within events j (Op earlier.class earlier.latency earlier.sources earlier.place) made in
      record {
        j = j;
        k = length events;
        earlier = earlier;
        later = later;
        made = get_front j events (e ∷ []) j_low ∙ made;
        depends = get_last events e ∙ ap (λ (x : Event). Some x) is;
        listed = subst (λ (n : ℕ). ListsUnbroken later.sources n) (sym (made_same events (e ∷ []) j (omega (arith, j_low)))) listed;
        begins_in = lies_more events (e ∷ []) j o (omega (arith, j_low)) begins;
        ends_in = lies_last events e o alive;
        turns = omega (arith, turn_same events (e ∷ []) o j (omega (arith, j_low)), turn_same events (e ∷ []) o (length events) (omega arith), turns);
        from = from;
        to = to;
      }

  -- what the new event is the later operation of
  pub record New (o : Open) (pair : Pair) : Type 0 where
    pub j : ℕ
    pub earlier : Operation
    pub later : Operation
    pub made : StandsAt events j earlier
    pub is : e ≡ Op later.class later.latency later.sources later.place
    pub listed : ListsUnbroken later.sources (made_before j events)
    pub begins_in : LiesIn events j o
    pub alive : IsAmong o (open_after events)
    pub turns : turn events o j < turn events o (length events)
    pub from : earlier.place ≡ pair.from
    pub to : later.place ≡ pair.to

  -- what is carried was carried, or is new
  pub carries_back : (o : Open) (pair : Pair) → Carries more o pair → Carries events o pair ⊎ New o pair
  carries_back o pair is = by (stands_next events e is.j is.earlier is.made) (stands_next events e is.k is.later is.depends)
    where
      -- the earlier one stands before the new event
      low : (is.j ≡ length events) → is.k ≤ length events → ⊥
      low last high =
          let up : turn more o is.k ≤ turn more o (length events) = turn_up more o is.k (length events) high in
          let same : turn more o is.j ≡ turn more o (length events) = ap (λ (n : ℕ). turn more o n) last in
          omega (arith, up, same, is.turns)

      old : is.j < length events → StandsAt events is.j is.earlier → is.k < length events → StandsAt events is.k is.later → Carries events o pair
      old j_low made k_low depends = record {
        j = is.j;
        k = is.k;
        earlier = is.earlier;
        later = is.later;
        made = made;
        depends = depends;
        listed = subst (λ (n : ℕ). ListsUnbroken is.later.sources n) (made_same events (e ∷ []) is.j (omega (arith, j_low))) is.listed;
        begins_in = lies_less events (e ∷ []) is.j o (omega (arith, j_low)) is.begins_in;
        ends_in = lies_less events (e ∷ []) is.k o (omega (arith, k_low)) is.ends_in;
        turns = omega (arith, turn_same events (e ∷ []) o is.j (omega (arith, j_low)), turn_same events (e ∷ []) o is.k (omega (arith, k_low)), is.turns);
        from = is.from;
        to = is.to;
      }

      new : is.j < length events → StandsAt events is.j is.earlier → is.k ≡ length events
          → e ≡ Op is.later.class is.later.latency is.later.sources is.later.place → New o pair
      new j_low made last event =
          let end : turn more o is.k ≡ turn events o (length events) =
          ap (λ (n : ℕ). turn more o n) last ∙ turn_same events (e ∷ []) o (length events) (omega arith) in
          record {
            j = is.j;
            earlier = is.earlier;
            later = is.later;
            made = made;
            is = event;
            listed = subst (λ (n : ℕ). ListsUnbroken is.later.sources n) (made_same events (e ∷ []) is.j (omega (arith, j_low))) is.listed;
            begins_in = lies_less events (e ∷ []) is.j o (omega (arith, j_low)) is.begins_in;
            alive = subst (λ (es : List Event). IsAmong o (open_after es)) (take_whole (length events) events (omega arith))
                (lies_less events (e ∷ []) (length events) o (omega arith) (subst (λ (n : ℕ). LiesIn more n o) last is.ends_in));
            turns = omega (arith, turn_same events (e ∷ []) o is.j (omega (arith, j_low)), end, is.turns);
            from = is.from;
            to = is.to;
          }

      by : ((is.j < length events) × StandsAt events is.j is.earlier) ⊎ ((is.j ≡ length events) × (e ≡ Op is.earlier.class is.earlier.latency is.earlier.sources is.earlier.place))
          → ((is.k < length events) × StandsAt events is.k is.later) ⊎ ((is.k ≡ length events) × (e ≡ Op is.later.class is.later.latency is.later.sources is.later.place))
          → Carries events o pair ⊎ New o pair
      by (inl j) (inl k) = inl (old j.0 j.1 k.0 k.1)
      by (inl j) (inr k) = inr (new j.0 j.1 k.0 k.1)
      by (inr j) (inl k) = absurd (low j.0 (omega (arith, k.0)))
      by (inr j) (inr k) = absurd (low j.0 (omega (arith, k.0)))

  -- the pairs behind an event that no pair is new by
  pub pairs_on : (depth region : ℕ) (pair : Pair) → IsPair depth events region pair → IsPair depth more region pair
  pairs_on depth region pair is = (is.0, tracked_on depth region is.0 is.1, carries_on is.0 pair is.2)

  -- an instance that carries something is tracked as it was
  pub tracked_still : (depth region : ℕ) (o : Open) (pair : Pair) → Carries events o pair → IsTracked depth more region o → IsTracked depth events region o
  tracked_still depth region o pair old is = record { at = old.k; opened = old.ends_in; of = is.of; shallow = is.shallow }

  pub pairs_back : (depth region : ℕ) (pair : Pair) → ((op : Operation) → e ≢ Op op.class op.latency op.sources op.place) → IsPair depth more region pair
      → IsPair depth events region pair
  pairs_back depth region pair quiet is = elim (carries_back is.0 pair is.2) [
    | inl old ↦ (is.0, tracked_still depth region is.0 pair old is.1, old)
    | inr new ↦ absurd (quiet new.later new.is)
  ]
