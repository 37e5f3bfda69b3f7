-- What lies in open instances that lie in one another, and which operations are the first of theirs.
use Rattle.std.proofs.Common.{ℕ, zero, suc, ◌≡◌, ◌+◌, ◌-◌, ◌<◌, ◌≤◌, ◌&&◌, nat_eq, Bool, false, List, [], ◌∷◌, ◌++◌, length, take, slice_get, Option, Some, None, arith, refl, sym, subst, ap, inl, inr, ◌∙◌}
use Rattle.std.specs.Prelude.{if◌then◌else◌}
use Rattle.std.proofs.lemmas.Bool.{cases_lt}
use Rattle.std.proofs.lemmas.List.{length-take-le, length_push}
use Rattle.std.proofs.lemmas.Option.{slice_get_within}
use Rattle.k_optab.specs.declared.event.Event.{Event}
use Rattle.k_optab.specs.declared.event.Event.TheVariants.{Op, Enter, Exit}
use Rattle.k_optab.specs.Events.{Operation, made_before, operations}
use Rattle.k_optab.specs.Open.{Open, open_after}
use Rattle.k_optab.specs.OpenLaws.{next_open}
use Rattle.k_carry_pairs.specs.Carried.{IsAmong, LiesIn, StandsAt, ends_body, is_body_of, turn}
use Rattle.k_carry_pairs.specs.Gathered.{inner}
use Rattle.k_carry_pairs.proofs.Events.{AreNested, behind_first, inner_entered, inner_left, inner_operation, made_operations, nested, nested_enter}
use Rattle.k_carry_pairs.proofs.Lists.{among_reverse, among_reversed, get_none, take_next, take_whole}
use Rattle.k_carry_storage_pairs.specs.declared.access.Access.{Access}
use Rattle.k_carry_storage_pairs.specs.Storage.{IsFirst}

among_behind : (o : Open) (opened : List Open) → IsAmong o (behind_first opened) → IsAmong o opened
among_behind o [] is = is
among_behind o (x ∷ opened) is = inr is

module _ (events : List Event) where
  -- as many operations at least stand before a later place, and one more behind an operation
  made_next : (at : ℕ) → made_before at events ≤ made_before (suc at) events
  made_next at = by (slice_get events at) refl
    where
      by : (found : Option Event) → slice_get events at ≡ found → made_before at events ≤ made_before (suc at) events
      by None none =
          let whole : take at events ≡ take (suc at) events =
          take_whole at events (get_none events at none) ∙ sym (take_whole (suc at) events (let high : length events ≤ at = get_none events at none in omega (arith, high))) in
          let same : made_before at events ≡ made_before (suc at) events = ap (λ (es : List Event). length (operations es)) whole in
          omega (arith, same)
      by (Some e) there =
          let same : made_before (suc at) events ≡ length (operations (take at events ++ e ∷ [])) =
          ap (λ (es : List Event). length (operations es)) (take_next at events e there) in
          let more : length (operations (take at events)) ≤ length (operations (take at events ++ e ∷ [])) = grown (take at events) e in
          omega (arith, same, more)
        where
          grown : (es : List Event) (e : Event) → length (operations es) ≤ length (operations (es ++ e ∷ []))
          grown [] e = omega arith
          grown (Op class latency sources place ∷ es) e = (let rest : length (operations es) ≤ length (operations (es ++ e ∷ [])) = grown es e in omega (arith, rest))
          grown (Enter region ∷ es) e = grown es e
          grown (Exit ∷ es) e = grown es e

  made_up : (at more : ℕ) → made_before at events ≤ made_before (at + more) events
  made_up at zero = (let same : at + zero ≡ at = omega arith in subst (λ (n : ℕ). made_before at events ≤ made_before n events) (sym same) (omega arith))
  made_up at (suc more) =
      let next : at + suc more ≡ suc (at + more) = omega arith in
      let before : made_before at events ≤ made_before (at + more) events = made_up at more in
      let step : made_before (at + more) events ≤ made_before (suc (at + more)) events = made_next (at + more) in
      subst (λ (n : ℕ). made_before at events ≤ made_before n events) (sym next) (omega (arith, before, step))

  made_one : (at : ℕ) (op : Operation) → StandsAt events at op → made_before (suc at) events ≡ made_before at events + 1
  made_one at op is =
      let event : Event = Op op.class op.latency op.sources op.place in
      omega (
        arith,
        ap (λ (es : List Event). length (operations es)) (take_next at events event is),
        ap (λ (ops : List Operation). length ops) (made_operations (take at events) op.class op.latency op.sources op.place),
        length_push (operations (take at events)) (record { class = op.class; latency = op.latency; sources = op.sources; place = op.place }),
      )

  -- an operation has a lower number than what stands behind it
  pub made_before_later : (at to : ℕ) (op : Operation) → StandsAt events at op → at < to → made_before at events < made_before to events
  made_before_later at to op is low =
      let same : suc at + (to - suc at) ≡ to = omega (arith, low) in
      let up : made_before (suc at) events ≤ made_before (suc at + (to - suc at)) events = made_up (suc at) (to - suc at) in
      let one : made_before (suc at) events ≡ made_before at events + 1 = made_one at op is in
      omega (arith, one, subst (λ (n : ℕ). made_before (suc at) events ≤ made_before n events) same up)

  -- two operations of one number stand at one place
  pub one_place : (a b : ℕ) (x y : Operation) → StandsAt events a x → StandsAt events b y → made_before a events ≡ made_before b events → a ≡ b
  one_place a b x y one two same = elim (cases_lt a b) [
    | inl low ↦ absurd (let less = made_before_later a b x one low in omega (arith, less, same))
    | inr high ↦ elim (cases_lt b a) [
      | inl low ↦ absurd (let less = made_before_later b a y two low in omega (arith, less, same))
      | inr other ↦ omega (arith, high, other)
    ]
  ]

  -- what is open was entered before
  pub entered_before : (at : ℕ) (o : Open) → at ≤ length events → LiesIn events at o → o.enter < at
  entered_before at o low is = nested_enter at (made_before at events) (inner (take at events)) o (nested events at low) (among_reverse o (open_after (take at events)) is)

  -- what is open and was entered before was open
  pub lies_down : (at : ℕ) (o : Open) → suc at ≤ length events → o.enter < at → LiesIn events (suc at) o → LiesIn events at o
  lies_down at o low early is = among_reversed o (open_after (take at events)) (by (slice_get events at) refl)
    where
      inside : IsAmong o (inner (take (suc at) events))
      inside = among_reverse o (open_after (take (suc at) events)) is

      by : (found : Option Event) → slice_get events at ≡ found → IsAmong o (inner (take at events))
      by None none = absurd (omega (arith, low, get_none events at none))
      by (Some e) there = one e (subst (λ (es : List Event). IsAmong o (inner es)) (take_next at events e there) inside)
        where
          one : (e : Event) → IsAmong o (inner (take at events ++ e ∷ [])) → IsAmong o (inner (take at events))
          one (Op class latency sources place) among =
              subst (λ (all : List Open). IsAmong o all) (inner_operation (take at events) class latency sources place) among
          one Exit among =
              among_behind o (inner (take at events)) (subst (λ (all : List Open). IsAmong o all) (inner_left (take at events)) among)
          one (Enter region) among =
              old (subst (λ (all : List Open). IsAmong o all) (inner_entered (take at events) region) among)
            where
              old : IsAmong o (next_open region (take at events) ∷ inner (take at events)) → IsAmong o (inner (take at events))
              old (inl new) =
                  absurd (let enters : length (take at events) ≡ o.enter = ap (λ (x : Open). x.enter) new in
                  omega (arith, enters, early, length-take-le at events (let few : at ≤ length events = omega (arith, low) in few)))
              old (inr before) = before

  pub lies_between : (at more : ℕ) (o : Open) → at + more ≤ length events → o.enter < at → LiesIn events (at + more) o → LiesIn events at o
  lies_between at zero o low early is = (let same : at + zero ≡ at = omega arith in subst (λ (n : ℕ). LiesIn events n o) same is)
  lies_between at (suc more) o low early is =
      let next : at + suc more ≡ suc (at + more) = omega arith in
      lies_between at more o (omega (arith, low)) early
      (lies_down (at + more) o (omega (arith, low)) (omega (arith, early)) (subst (λ (n : ℕ). LiesIn events n o) next is))

  -- no body of an instance ends where another one stays open that was entered within it
  body_stays : (o p : Open) (bound made : ℕ) (opened : List Open) → AreNested bound made opened → o.enter < p.enter → IsAmong p (behind_first opened)
      → is_body_of o opened ≡ false
  body_stays o p bound made [] are late is = refl
  body_stays o p bound made (body ∷ []) are late is = refl
  body_stays o p bound made (body ∷ around ∷ outer) are late is =
      let high : p.enter ≤ around.enter = by is in
      let differs : nat_eq around.enter o.enter ≡ false = (let low : o.enter < around.enter = omega (arith, late, high) in grind arith) in
      ap (λ (b : Bool). b && nat_eq body.region (o.region + 1)) differs
    where
      by : IsAmong p (around ∷ outer) → p.enter ≤ around.enter
      by (inl here) = (let same : around.enter ≡ p.enter = ap (λ (x : Open). x.enter) here in omega (arith, same))
      by (inr later) = (let low : p.enter < around.enter = nested_enter around.enter around.start outer p are.3.3 later in omega (arith, low))

  still_turn : (o p : Open) (at : ℕ) → suc at ≤ length events → o.enter < p.enter → LiesIn events (suc at) p → turn events o (suc at) ≡ turn events o at
  still_turn o p at low late is =
      ap (λ (b : Bool). if b then suc (turn events o at) else turn events o at) (by (slice_get events at) refl)
    where
      by : (found : Option Event) → slice_get events at ≡ found → ends_body o (open_after (take at events)) (slice_get events at) ≡ false
      by None none = absurd (omega (arith, low, get_none events at none))
      by (Some e) there = ap (λ (found : Option Event). ends_body o (open_after (take at events)) found) there ∙ one e there
        where
          one : (e : Event) → slice_get events at ≡ Some e → ends_body o (open_after (take at events)) (Some e) ≡ false
          one (Op class latency sources place) there = refl
          one (Enter region) there = refl
          one Exit there =
              body_stays o p at (made_before at events) (inner (take at events)) (nested events at (omega (arith, low))) late
              (subst (λ (all : List Open). IsAmong p all) (inner_left (take at events))
              (subst (λ (es : List Event). IsAmong p (inner es)) (take_next at events Exit there) (among_reverse p (open_after (take (suc at) events)) is)))

  still_turns : (o p : Open) (at more : ℕ) → at + more ≤ length events → o.enter < p.enter → p.enter < at → LiesIn events (at + more) p
      → turn events o (at + more) ≡ turn events o at
  still_turns o p at zero low late early is = (let same : at + zero ≡ at = omega arith in ap (λ (n : ℕ). turn events o n) same)
  still_turns o p at (suc more) low late early is =
      let next : at + suc more ≡ suc (at + more) = omega arith in
      let last : LiesIn events (suc (at + more)) p = subst (λ (n : ℕ). LiesIn events n p) next is in
      ap (λ (n : ℕ). turn events o n) next
      ∙ (still_turn o p (at + more) (omega (arith, low)) late last
      ∙ still_turns o p at more (omega (arith, low)) late early (lies_down (at + more) p (omega (arith, low)) (omega (arith, early)) last))

  -- what is the first of an instance is that of another one where a turn of that has ended between two operations that lie in both
  pub first_moves : (accesses : List (Option Access)) (o p : Open) (j k : ℕ) (a : Access) → j < k → k ≤ length events → LiesIn events j o
      → LiesIn events j p → LiesIn events k p → turn events o j < turn events o k → IsFirst events accesses p j a → IsFirst events accesses o j a
  first_moves accesses o p j k a low within j_o j_p k_p turns first = elim (cases_lt o.enter p.enter) [
    | inl late ↦ absurd
        (let same : j + (k - j) ≡ k = omega (arith, low) in
        let still : turn events o (j + (k - j)) ≡ turn events o j =
        still_turns o p j (k - j) (omega (arith, same, within)) late (entered_before j p (omega (arith, low, within)) j_p) (subst (λ (n : ℕ). LiesIn events n p) (sym same) k_p) in
        omega (arith, still, turns, ap (λ (n : ℕ). turn events o n) same))
    | inr early ↦
        λ i op before lies made.
        (let same : i + (j - i) ≡ j = omega (arith, before) in
        let entered : o.enter < i = entered_before i o (omega (arith, before, low, within)) lies in
        first i op before
        (lies_between i (j - i) p (omega (arith, same, low, within)) (omega (arith, entered, early)) (subst (λ (n : ℕ). LiesIn events n p) (sym same) j_p)) made)
  ]

  -- an instance begins with the operations behind its Enter
  record BeginsAs (o : Open) : Type 0 where
    start : o.start ≡ made_before o.enter events
    event : slice_get events o.enter ≡ Some (Enter o.region)

  begins_as : (n : ℕ) → n ≤ length events → (o : Open) → IsAmong o (inner (take n events)) → BeginsAs o
  begins_as zero low o is = absurd is
  begins_as (suc n) low o is = by (slice_get events n) refl (begins_as n (omega (arith, low)) o)
    where
      by : (found : Option Event) → slice_get events n ≡ found → (IsAmong o (inner (take n events)) → BeginsAs o) → BeginsAs o
      by None none before = absurd (omega (arith, low, get_none events n none))
      by (Some e) there before = one e there (subst (λ (es : List Event). IsAmong o (inner es)) (take_next n events e there) is)
        where
          one : (e : Event) → slice_get events n ≡ Some e → IsAmong o (inner (take n events ++ e ∷ [])) → BeginsAs o
          one (Op class latency sources place) there among =
              before (subst (λ (all : List Open). IsAmong o all) (inner_operation (take n events) class latency sources place) among)
          one Exit there among =
              before (among_behind o (inner (take n events)) (subst (λ (all : List Open). IsAmong o all) (inner_left (take n events)) among))
          one (Enter region) there among =
              old (subst (λ (all : List Open). IsAmong o all) (inner_entered (take n events) region) among)
            where
              old : IsAmong o (next_open region (take n events) ∷ inner (take n events)) → BeginsAs o
              old (inr earlier) = before earlier
              old (inl new) =
                  let long : length (take n events) ≡ n = length-take-le n events (let few : n ≤ length events = omega (arith, low) in few) in
                  let enters : n ≡ o.enter = sym long ∙ ap (λ (x : Open). x.enter) new in
                  let region_is : region ≡ o.region = ap (λ (x : Open). x.region) new in
                  record {
                    start = sym (ap (λ (x : Open). x.start) new) ∙ ap (λ (m : ℕ). made_before m events) enters;
                    event = ap (λ (m : ℕ). slice_get events m) (sym enters) ∙ (there ∙ ap (λ (r : ℕ). Some (Enter r)) region_is);
                  }

  -- an operation that is not made before an open instance lies in it
  pub lies_in : (at : ℕ) (op : Operation) (o : Open) → StandsAt events at op → IsAmong o (open_after events) → o.start ≤ made_before at events → LiesIn events at o
  lies_in at op o is alive low =
      let within : at < length events = slice_get_within events at (Op op.class op.latency op.sources op.place) is in
      let all : IsAmong o (open_after (take (length events) events)) =
      subst (λ (es : List Event). IsAmong o (open_after es)) (sym (take_whole (length events) events (omega arith))) alive in
      let begins : BeginsAs o = begins_as (length events) (omega arith) o (among_reverse o (open_after (take (length events) events)) all) in
      elim (cases_lt o.enter at) [
        | inl early ↦
            (let same : at + (length events - at) ≡ length events = omega (arith, within) in
            lies_between at (length events - at) o (omega (arith, same)) early (subst (λ (n : ℕ). LiesIn events n o) (sym same) all))
        | inr late ↦ elim (cases_lt at o.enter) [
          | inl before ↦ absurd (let less = made_before_later at o.enter op is before in omega (arith, less, begins.start, low))
          | inr here ↦
              (let same : at ≡ o.enter = omega (arith, late, here) in
              let both : Some (Op op.class op.latency op.sources op.place) ≡ Some (Enter o.region) = sym is ∙ (ap (λ (n : ℕ). slice_get events n) same ∙ begins.event) in
              absurd (cc both))
        ]
      ]
