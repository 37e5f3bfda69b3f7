-- Events that differ in what operations list alone have the same instances, turns and numbers.
use Rattle.std.proofs.Common.{ℕ, zero, suc, ◌≡◌, ◌<◌, ◌≤◌, List, [], ◌∷◌, ◌++◌, length, take, slice_get, Option, Some, None, arith, refl, sym, subst, ap, inl, inr, ◌∙◌}
use Rattle.std.specs.Prelude.{if◌then◌else◌}
use Rattle.std.proofs.lemmas.Bool.{cases_lt}
use Rattle.std.proofs.lemmas.List.{length-reverse, length_push}
use Rattle.std.proofs.lemmas.Option.{slice_get_within}
use Rattle.k_num.specs.declared.place.Place.{Place}
use Rattle.k_optab.specs.declared.class.Class.{Class}
use Rattle.k_optab.specs.declared.event.Event.{Event}
use Rattle.k_optab.specs.declared.event.Event.TheVariants.{Op, Enter, Exit}
use Rattle.k_optab.specs.declared.event.Src.{Src}
use Rattle.k_optab.specs.Events.{Operation, made_before, operations}
use Rattle.k_optab.specs.Open.{Open, open_after}
use Rattle.k_optab.specs.OpenLaws.{next_open}
use Rattle.k_carry_pairs.specs.Carried.{IsAmong, IsTracked, LiesIn, StandsAt, ends_body, is_body_of, turn}
use Rattle.k_carry_pairs.specs.Gathered.{inner}
use Rattle.k_carry_pairs.proofs.Events.{behind_first, entered_operations, inner_entered, inner_left, inner_operation, left_operations, made_operations}
use Rattle.k_carry_pairs.proofs.Lists.{among_reverse, among_reversed, get_none, take_next, take_whole}
use Rattle.k_carry_storage_pairs.specs.Kept.{AreAlike, IsAlike}

-- the instances and the operations behind two lists of events are the same
record AreSame (xs ys : List Event) : Type 0 where
  inside : inner ys ≡ inner xs
  made : length (operations ys) ≡ length (operations xs)
  long : length ys ≡ length xs

-- so are those behind one event more
same_next : (xs ys : List Event) (e other : Event) → IsAlike e other → AreSame xs ys → AreSame (xs ++ e ∷ []) (ys ++ other ∷ [])
same_next xs ys (Op class latency sources place) other alike same = record {
  inside = ap (λ (e : Event). inner (ys ++ e ∷ [])) alike.1 ∙ inner_operation ys class latency alike.0 place ∙ same.inside
      ∙ sym (inner_operation xs class latency sources place);
  made = omega (
    arith,
    ap (λ (e : Event). length (operations (ys ++ e ∷ []))) alike.1,
    ap (λ (ops : List Operation). length ops) (made_operations ys class latency alike.0 place),
    ap (λ (ops : List Operation). length ops) (made_operations xs class latency sources place),
    length_push (operations ys) (record { class = class; latency = latency; sources = alike.0; place = place }),
    length_push (operations xs) (record { class = class; latency = latency; sources = sources; place = place }),
    same.made,
  );
  long = omega (arith, length_push ys other, length_push xs (Op class latency sources place), same.long);
}
same_next xs ys (Enter region) other alike same =
    let deep : length (open_after ys) ≡ length (open_after xs) =
    omega (arith, length-reverse (open_after ys), length-reverse (open_after xs), ap (λ (all : List Open). length all) same.inside) in
    let long : length ys ≡ length xs = same.long in
    let made : length (operations ys) ≡ length (operations xs) = same.made in
    let opened : next_open region ys ≡ next_open region xs = (λ i. record { region = region; depth = deep i; enter = long i; start = made i }) in
    record {
      inside = ap (λ (e : Event). inner (ys ++ e ∷ [])) alike ∙ inner_entered ys region ∙ (λ i. opened i ∷ same.inside i) ∙ sym (inner_entered xs region);
      made = omega (
        arith,
        ap (λ (e : Event). length (operations (ys ++ e ∷ []))) alike,
        ap (λ (ops : List Operation). length ops) (entered_operations ys region),
        ap (λ (ops : List Operation). length ops) (entered_operations xs region),
        same.made,
      );
      long = omega (arith, length_push ys other, length_push xs (Enter region), same.long);
    }
same_next xs ys Exit other alike same = record {
  inside = ap (λ (e : Event). inner (ys ++ e ∷ [])) alike ∙ inner_left ys ∙ ap behind_first same.inside ∙ sym (inner_left xs);
  made = omega (
    arith,
    ap (λ (e : Event). length (operations (ys ++ e ∷ []))) alike,
    ap (λ (ops : List Operation). length ops) (left_operations ys),
    ap (λ (ops : List Operation). length ops) (left_operations xs),
    same.made,
  );
  long = omega (arith, length_push ys other, length_push xs Exit, same.long);
}

-- the places of two events that are operations
op_place : (class class' : Class) (latency latency' : ℕ) (sources sources' : List Src) (place place' : Place)
    → Op class latency sources place ≡ Op class' latency' sources' place' → place ≡ place'
op_place class class' latency latency' sources sources' place place' is = cc is

module _ (events others : List Event) (alike : AreAlike events others) where
  same_front : (n : ℕ) → n ≤ length events → AreSame (take n events) (take n others)
  same_front zero low = record { inside = refl; made = refl; long = refl }
  same_front (suc n) low = by (slice_get events n) refl (same_front n (omega (arith, low)))
    where
      by : (o : Option Event) → slice_get events n ≡ o → AreSame (take n events) (take n others) → AreSame (take (suc n) events) (take (suc n) others)
      by None is same = absurd (omega (arith, low, get_none events n is))
      by (Some e) is same =
          let other = alike.each n e is in
          subst (λ (ys : List Event). AreSame (take (suc n) events) ys) (sym (take_next n others other.0 other.1.0))
          (subst (λ (xs : List Event). AreSame xs (take n others ++ other.0 ∷ [])) (sym (take_next n events e is))
          (same_next (take n events) (take n others) e other.0 other.1.1 same))

  -- what is open at a place
  pub inner_alike : (n : ℕ) → inner (take n others) ≡ inner (take n events)
  inner_alike n = elim (cases_lt n (length events)) [
    | inl low ↦ (let same = same_front n (omega (arith, low)) in same.inside)
    | inr high ↦
        (let same = same_front (length events) (omega arith) in
        ap (λ (es : List Event). inner es) (take_whole n others (omega (arith, high, alike.long)) ∙ sym (take_whole (length events) others (omega (arith, alike.long))))
        ∙ same.inside
        ∙ ap (λ (es : List Event). inner es) (take_whole (length events) events (omega arith) ∙ sym (take_whole n events high)))
  ]

  pub made_alike : (n : ℕ) → n ≤ length events → made_before n others ≡ made_before n events
  made_alike n low = (let same = same_front n low in same.made)

  pub lies_alike : (at : ℕ) (o : Open) → LiesIn events at o → LiesIn others at o
  lies_alike at o is =
      among_reversed o (open_after (take at others))
      (subst (λ (all : List Open). IsAmong o all) (sym (inner_alike at)) (among_reverse o (open_after (take at events)) is))

  pub lies_as : (at : ℕ) (o : Open) → LiesIn others at o → LiesIn events at o
  lies_as at o is =
      among_reversed o (open_after (take at events))
      (subst (λ (all : List Open). IsAmong o all) (inner_alike at) (among_reverse o (open_after (take at others)) is))

  -- an event ends a body where the other one does
  ends_alike : (n : ℕ) (o : Open) → n < length events
      → ends_body o (open_after (take n others)) (slice_get others n) ≡ ends_body o (open_after (take n events)) (slice_get events n)
  ends_alike n o low = by (slice_get events n) refl
    where
      by : (found : Option Event) → slice_get events n ≡ found
          → ends_body o (open_after (take n others)) (slice_get others n) ≡ ends_body o (open_after (take n events)) found
      by None is = absurd (omega (arith, low, get_none events n is))
      by (Some e) is = (let other = alike.each n e is in one e other.0 other.1.0 other.1.1)
        where
          one : (e other : Event) → slice_get others n ≡ Some other → IsAlike e other
              → ends_body o (open_after (take n others)) (slice_get others n) ≡ ends_body o (open_after (take n events)) (Some e)
          one (Op class latency sources place) other at is =
              ap (λ (found : Option Event). ends_body o (open_after (take n others)) found) (at ∙ ap (λ (x : Event). Some x) is.1)
          one (Enter region) other at is =
              ap (λ (found : Option Event). ends_body o (open_after (take n others)) found) (at ∙ ap (λ (x : Event). Some x) is)
          one Exit other at is =
              ap (λ (found : Option Event). ends_body o (open_after (take n others)) found) (at ∙ ap (λ (x : Event). Some x) is)
              ∙ ap (λ (all : List Open). is_body_of o all) (inner_alike n)

  pub turn_alike : (n : ℕ) (o : Open) → n ≤ length events → turn others o n ≡ turn events o n
  turn_alike zero o low = refl
  turn_alike (suc n) o low =
      let before : turn others o n ≡ turn events o n = turn_alike n o (omega (arith, low)) in
      let ends = ends_alike n o (omega (arith, low)) in
      (λ i. if ends i then suc (before i) else before i)

  -- an operation stands where the other one does, and its place is that of the other one
  pub stands_alike : (at : ℕ) (op : Operation) → StandsAt events at op → (other : Operation) × (StandsAt others at other × (other.place ≡ op.place))
  stands_alike at op is =
      let other = alike.each at (Op op.class op.latency op.sources op.place) is in (
        record { class = op.class; latency = op.latency; sources = other.1.1.0; place = op.place },
        (other.1.0 ∙ ap (λ (e : Event). Some e) other.1.1.1, refl),
      )

  pub stands_as : (at : ℕ) (op : Operation) → StandsAt others at op → (other : Operation) × (StandsAt events at other × (other.place ≡ op.place))
  stands_as at op is = by (slice_get events at) refl
    where
      by : (found : Option Event) → slice_get events at ≡ found → (other : Operation) × (StandsAt events at other × (other.place ≡ op.place))
      by None none =
          absurd (omega (arith, get_none events at none, alike.long, slice_get_within others at (Op op.class op.latency op.sources op.place) is))
      by (Some e) there = (let other = alike.each at e there in one e other.0 there other.1.0 other.1.1)
        where
          one : (e other : Event) → slice_get events at ≡ Some e → slice_get others at ≡ Some other → IsAlike e other
              → (x : Operation) × (StandsAt events at x × (x.place ≡ op.place))
          one (Op class latency sources place) other there at_other alike_is =
              let both : Some (Op class latency alike_is.0 place) ≡ Some (Op op.class op.latency op.sources op.place) =
              sym (at_other ∙ ap (λ (x : Event). Some x) alike_is.1) ∙ is in
              let same : Op class latency alike_is.0 place ≡ Op op.class op.latency op.sources op.place = cc both in (
                record { class = class; latency = latency; sources = sources; place = place },
                (there, op_place class op.class latency op.latency alike_is.0 op.sources place op.place same),
              )
          one (Enter region) other there at_other alike_is =
              absurd (let both : Some (Enter region) ≡ Some (Op op.class op.latency op.sources op.place) =
              sym (at_other ∙ ap (λ (x : Event). Some x) alike_is) ∙ is in cc both)
          one Exit other there at_other alike_is =
              absurd (let both : Some Exit ≡ Some (Op op.class op.latency op.sources op.place) =
              sym (at_other ∙ ap (λ (x : Event). Some x) alike_is) ∙ is in cc both)

  -- an instance is tracked where it is
  pub tracked_as : (depth region : ℕ) (o : Open) → IsTracked depth others region o → IsTracked depth events region o
  tracked_as depth region o is = record { at = is.at; opened = lies_as is.at o is.opened; of = is.of; shallow = is.shallow }

  pub tracked_alike : (depth region : ℕ) (o : Open) → IsTracked depth events region o → IsTracked depth others region o
  tracked_alike depth region o is = record { at = is.at; opened = lies_alike is.at o is.opened; of = is.of; shallow = is.shallow }

-- two operations at one place have one place in the source
pub same_places : (events : List Event) (at : ℕ) (a b : Operation) → StandsAt events at a → StandsAt events at b → a.place ≡ b.place
same_places events at a b one two =
    let both : Some (Op a.class a.latency a.sources a.place) ≡ Some (Op b.class b.latency b.sources b.place) = sym one ∙ two in
    let same : Op a.class a.latency a.sources a.place ≡ Op b.class b.latency b.sources b.place = cc both in
    op_place a.class b.class a.latency b.latency a.sources b.sources a.place b.place same
