-- The levels of open instances behind one event more.
use Rattle.std.proofs.Common.{ℕ, suc, ◌≡◌, ◌+◌, ◌<◌, ◌≤◌, ◌⊎◌, ◌&&◌, nat_eq, Bool, true, false, List, [], ◌∷◌, ◌++◌, length, take, Some, arith, refl, sym, subst, ap, inl, inr, ◌∙◌}
use Rattle.std.specs.Prelude.{if◌then◌else◌}
use Rattle.std.proofs.lemmas.List.{length_push}
use Rattle.k_num.specs.declared.place.Place.{Place}
use Rattle.k_optab.specs.declared.class.Class.{Class}
use Rattle.k_optab.specs.declared.event.Event.{Event}
use Rattle.k_optab.specs.declared.event.Event.TheVariants.{Op, Enter, Exit}
use Rattle.k_optab.specs.declared.event.Src.{Src}
use Rattle.k_optab.specs.declared.region.Region.{Region}
use Rattle.k_optab.specs.Events.{Operation, operations, made_before}
use Rattle.k_optab.specs.Open.{Open, open_after}
use Rattle.k_optab.specs.OpenLaws.{next_open}
use Rattle.k_carry_pairs.specs.declared.levels.Level.{Level}
use Rattle.k_carry_pairs.specs.Carried.{IsAmong, LiesIn, StandsAt, ends_body, is_body_of, turn}
use Rattle.k_carry_pairs.specs.Gathered.{AreLevelsOf, IsLevelOf, inner, turned, without_level}
use Rattle.k_carry_pairs.proofs.Events.{AreNested, entered_operations, left_operations, lies_more, made_same, nested_all, nested_enter, no_turn, numbered_below, open_same, turn_same, turn_up}
use Rattle.k_carry_pairs.proofs.Lists.{among_reversed, get_last, get_pushed, take_whole}

module _ (events : List Event) (e : Event) where
  -- the events with one more
  abbrev more : List Event
  more = events ++ e ∷ []

  pub more_length : length more ≡ suc (length events)
  more_length = omega (arith, length_push events e)

  -- an operation among them stood there before, or is the new one
  pub stands_next : (at : ℕ) (op : Operation) → StandsAt more at op
      → ((at < length events) × StandsAt events at op) ⊎ ((at ≡ length events) × (e ≡ Op op.class op.latency op.sources op.place))
  stands_next at op is = get_pushed events e at (Op op.class op.latency op.sources op.place) is

  -- all open instances are those before the new event
  pub lies_last : (o : Open) → IsAmong o (open_after events) → LiesIn more (length events) o
  lies_last o is =
      lies_more events (e ∷ []) (length events) o (omega arith)
      (subst (λ (es : List Event). IsAmong o (open_after es)) (sym (take_whole (length events) events (omega arith))) is)

  -- the turn behind the new event
  pub turn_end : (o : Open) → turn more o (length more)
      ≡ (if ends_body o (open_after events) (Some e) then suc (turn events o (length events)) else turn events o (length events))
  turn_end o =
      ap (λ (n : ℕ). turn more o n) more_length
      ∙ (λ i. if ends_body o (last_open i) (get_last events e i) then suc (same i) else same i)
    where
      last_open : open_after (take (length events) more) ≡ open_after events
      last_open = open_same events (e ∷ []) (length events) (omega arith) ∙ ap (λ (es : List Event). open_after es) (take_whole (length events) events (omega arith))

      same : turn more o (length events) ≡ turn events o (length events)
      same = turn_same events (e ∷ []) o (length events) (omega arith)

  module _ (o : Open) (l : Level) (alive : IsAmong o (open_after events)) (is : IsLevelOf events o l) where
    lies_on : (at : ℕ) (op : Operation) → StandsAt more at op → l.first ≤ made_before at more → LiesIn more at o
    lies_on at op stands low = elim (stands_next at op stands) [
      | inl before ↦
          (let same : made_before at more ≡ made_before at events = made_same events (e ∷ []) at (omega (arith, before.0)) in
          lies_more events (e ∷ []) at o (omega (arith, before.0)) (is.lies at op before.1 (omega (arith, same, low))))
      | inr last ↦ subst (λ (n : ℕ). LiesIn more n o) (sym last.0) (lies_last o alive)
    ]

    -- a level stays where no turn begins
    pub still_level : turn more o (length more) ≡ turn events o (length events) → length (operations events) ≤ length (operations more) → IsLevelOf more o l
    still_level same few = record {
      region = is.region;
      depth = is.depth;
      first = is.first;
      begun = omega (arith, is.begun, few);
      lies = lies_on;
      earlier = λ at op stands low. elim (stands_next at op stands) [
        | inl before ↦
            (let made : made_before at more ≡ made_before at events = made_same events (e ∷ []) at (omega (arith, before.0)) in
            let turns : turn more o at ≡ turn events o at = turn_same events (e ∷ []) o at (omega (arith, before.0)) in
            let old : turn events o at < turn events o (length events) = is.earlier at op before.1 (omega (arith, made, low)) in
            omega (arith, turns, same, old))
        | inr last ↦
            (let all : made_before (length events) events ≡ length (operations events) =
            ap (λ (es : List Event). length (operations es)) (take_whole (length events) events (omega arith)) in
            let made : made_before at more ≡ made_before (length events) events =
            ap (λ (n : ℕ). made_before n more) last.0 ∙ made_same events (e ∷ []) (length events) (omega arith) in
            absurd (omega (arith, all, made, low, is.begun)))
      ];
      only = λ at op stands low. elim (stands_next at op stands) [
        | inl before ↦
            (let made : made_before at more ≡ made_before at events = made_same events (e ∷ []) at (omega (arith, before.0)) in
            let turns : turn more o at ≡ turn events o at = turn_same events (e ∷ []) o at (omega (arith, before.0)) in
            let new : made_before at events < l.turn = is.only at op before.1 (omega (arith, turns, same, low)) in
            omega (arith, made, new))
        | inr last ↦
            (let turns : turn more o at ≡ turn events o (length events) =
            ap (λ (n : ℕ). turn more o n) last.0 ∙ turn_same events (e ∷ []) o (length events) (omega arith) in
            absurd (omega (arith, turns, same, low)))
      ];
    }

    -- and where one begins all operations so far lie before it
    pub ended_level : e ≡ Exit → turn more o (length more) ≡ suc (turn events o (length events)) → length (operations events) ≤ length (operations more)
        → IsLevelOf more o (record l { turn = length (operations events) })
    ended_level exits next few = record {
      region = is.region;
      depth = is.depth;
      first = is.first;
      begun = few;
      lies = lies_on;
      earlier = λ at op stands low. elim (stands_next at op stands) [
        | inl before ↦
            (let turns : turn more o at ≡ turn events o at = turn_same events (e ∷ []) o at (omega (arith, before.0)) in
            let up : turn events o at ≤ turn events o (length events) = turn_up events o at (length events) (omega (arith, before.0)) in
            omega (arith, turns, next, up))
        | inr last ↦ (let both : Exit ≡ Op op.class op.latency op.sources op.place = sym exits ∙ last.1 in absurd (cc both))
      ];
      only = λ at op stands low. elim (stands_next at op stands) [
        | inl before ↦
            (let made : made_before at more ≡ made_before at events = made_same events (e ∷ []) at (omega (arith, before.0)) in
            let below : made_before at events < length (operations events) = numbered_below events at op before.1 in
            omega (arith, made, below))
        | inr last ↦ (let both : Exit ≡ Op op.class op.latency op.sources op.place = sym exits ∙ last.1 in absurd (cc both))
      ];
    }

-- levels stay where no turn begins
pub still_levels : (regions : List Region) (depth : ℕ) (events : List Event) (e : Event) (opened : List Open) (levels : List Level)
    → length (operations events) ≤ length (operations (events ++ e ∷ []))
    → ((o : Open) → IsAmong o opened → IsAmong o (open_after events) × (turn (events ++ e ∷ []) o (length (events ++ e ∷ [])) ≡ turn events o (length events)))
    → AreLevelsOf regions depth events opened levels → AreLevelsOf regions depth (events ++ e ∷ []) opened levels
still_levels regions depth events e [] levels few each are = are
still_levels regions depth events e (o ∷ opened) levels few each (inl kept) =
    let this = each o (inl refl) in
    inl (
      kept.0,
      (
        kept.1.0,
        (
          kept.1.1.0,
          kept.1.1.1,
          still_level events e o kept.1.0 this.0 kept.1.1.2 this.1 few,
          still_levels regions depth events e opened kept.1.1.0 few (λ x is. each x (inr is)) kept.1.1.3,
        ),
      ),
    )
still_levels regions depth events e (o ∷ opened) levels few each (inr other) =
    inr (other.0, still_levels regions depth events e opened levels few (λ x is. each x (inr is)) other.1)

-- no turn begins by an event that is no Exit
pub quiet_turn : (events : List Event) (e : Event) (o : Open) → ((opened : List Open) → ends_body o opened (Some e) ≡ false)
    → turn (events ++ e ∷ []) o (length (events ++ e ∷ [])) ≡ turn events o (length events)
quiet_turn events e o quiet =
    turn_end events e o ∙ ap (λ (b : Bool). if b then suc (turn events o (length events)) else turn events o (length events)) (quiet (open_after events))

-- what is among the open instances, the innermost first
pub open_inner : (events : List Event) (o : Open) → IsAmong o (inner events) → IsAmong o (open_after events)
open_inner events o is = among_reversed o (open_after events) is

pub operation_levels : (regions : List Region) (depth : ℕ) (events : List Event) (class : Class) (latency : ℕ) (sources : List Src) (place : Place) (levels : List Level)
    → length (operations events) ≤ length (operations (events ++ Op class latency sources place ∷ []))
    → AreLevelsOf regions depth events (inner events) levels
    → AreLevelsOf regions depth (events ++ Op class latency sources place ∷ []) (inner events) levels
operation_levels regions depth events class latency sources place levels few are =
    still_levels regions depth events (Op class latency sources place) (inner events) levels few
    (λ o is. (open_inner events o is, quiet_turn events (Op class latency sources place) o (λ opened. refl))) are

-- the level of an instance that is entered
pub entered_level : (events : List Event) (region : ℕ)
    → IsLevelOf (events ++ Enter region ∷ []) (next_open region events)
    (record { region = region; depth = length (open_after events); first = length (operations events); turn = 0 })
entered_level events region = record {
  region = refl;
  depth = refl;
  first = refl;
  begun = omega arith;
  lies = λ at op stands low. elim (stands_next events (Enter region) at op stands) [
    | inl before ↦
        (let same : made_before at (events ++ Enter region ∷ []) ≡ made_before at events = made_same events (Enter region ∷ []) at (omega (arith, before.0)) in
        let below : made_before at events < length (operations events) = numbered_below events at op before.1 in
        absurd (omega (arith, same, below, low)))
    | inr last ↦ (let both = last.1 in absurd (cc both))
  ];
  earlier = λ at op stands low. absurd (omega (arith, low));
  only = λ at op stands low.
      (let long : length (events ++ Enter region ∷ []) ≡ suc (length events) = more_length events (Enter region) in
      let none : turn (events ++ Enter region ∷ []) (next_open region events) (length (events ++ Enter region ∷ [])) ≡ 0 =
      no_turn (events ++ Enter region ∷ []) (next_open region events) (length (events ++ Enter region ∷ [])) (omega arith) (omega (arith, long)) in
      absurd (omega (arith, none, low)));
}

-- the levels of the instances around it
pub entered_levels : (regions : List Region) (depth : ℕ) (events : List Event) (region : ℕ) (levels : List Level)
    → AreLevelsOf regions depth events (inner events) levels → AreLevelsOf regions depth (events ++ Enter region ∷ []) (inner events) levels
entered_levels regions depth events region levels are =
    let same : length (operations (events ++ Enter region ∷ [])) ≡ length (operations events) = ap (λ (ops : List Operation). length ops) (entered_operations events region) in
    still_levels regions depth events (Enter region) (inner events) levels (omega (arith, same))
    (λ o is. (open_inner events o is, quiet_turn events (Enter region) o (λ opened. refl))) are

-- an innermost level is no deeper than its instance can be
levels_below : (regions : List Region) (depth : ℕ) (events : List Event) (bound made : ℕ) (opened : List Open) (levels : List Level)
    → AreNested bound made opened → AreLevelsOf regions depth events opened levels
    → (levels ≡ []) ⊎ ((l : Level) × ((rest : List Level) × (levels ≡ l ∷ rest) × (l.depth < length opened)))
levels_below regions depth events bound made [] levels nest are = inl are
levels_below regions depth events bound made (o ∷ outer) levels nest (inl kept) =
    let is : IsLevelOf events o kept.1.0 = kept.1.1.2 in
    inr (kept.1.0, (kept.1.1.0, kept.1.1.1, omega (arith, is.depth, nest.2)))
levels_below regions depth events bound made (o ∷ outer) levels nest (inr other) =
    elim (levels_below regions depth events o.enter o.start outer levels nest.3 other.1) [
      | inl none ↦ inl none
      | inr some ↦ (let low : some.0.depth < length outer = some.1.2 in inr (some.0, (some.1.0, some.1.1, omega (arith, low))))
    ]

-- no level is that of an instance of a depth that is too great
without_none : (n : ℕ) (levels : List Level) → (levels ≡ []) ⊎ ((l : Level) × ((rest : List Level) × (levels ≡ l ∷ rest) × (l.depth < n)))
    → without_level n levels ≡ levels
without_none n levels (inl none) = ap (λ (ls : List Level). without_level n ls) none ∙ sym none
without_none n levels (inr some) =
    let low : some.0.depth < n = some.1.2 in
    let differs : nat_eq some.0.depth n ≡ false = grind arith in
    ap (λ (ls : List Level). without_level n ls) some.1.1
    ∙ (ap (λ (b : Bool). if b then some.1.0 else some.0 ∷ some.1.0) differs ∙ sym some.1.1)

-- nor does a turn begin there
turned_none : (made region n : ℕ) (levels : List Level) → (levels ≡ []) ⊎ ((l : Level) × ((rest : List Level) × (levels ≡ l ∷ rest) × (l.depth < n)))
    → turned made region (suc n) levels ≡ levels
turned_none made region n levels (inl none) = ap (λ (ls : List Level). turned made region (suc n) ls) none ∙ sym none
turned_none made region n levels (inr some) =
    let low : some.0.depth < n = some.1.2 in
    let differs : nat_eq (suc n) (some.0.depth + 1) ≡ false = grind arith in
    ap (λ (ls : List Level). turned made region (suc n) ls) some.1.1
    ∙ (ap (λ (b : Bool). (if b && nat_eq region (some.0.region + 1) then record some.0 { turn = made } else some.0) ∷ some.1.0) differs ∙ sym some.1.1)

-- the levels behind the innermost instance
left_level : (regions : List Region) (depth : ℕ) (events : List Event) (bound made : ℕ) (body : Open) (outer : List Open) (levels : List Level)
    → AreNested bound made (body ∷ outer) → AreLevelsOf regions depth events (body ∷ outer) levels
    → AreLevelsOf regions depth events outer (without_level (length outer) levels)
left_level regions depth events bound made body outer levels nest (inl kept) =
    let is : IsLevelOf events body kept.1.0 = kept.1.1.2 in
    let same : nat_eq kept.1.0.depth (length outer) ≡ true = (let equal : kept.1.0.depth ≡ length outer = omega (arith, is.depth, nest.2) in grind arith) in
    let rest : without_level (length outer) levels ≡ kept.1.1.0 =
    ap (λ (ls : List Level). without_level (length outer) ls) kept.1.1.1 ∙ ap (λ (b : Bool). if b then kept.1.1.0 else kept.1.0 ∷ kept.1.1.0) same in
    subst (λ (ls : List Level). AreLevelsOf regions depth events outer ls) (sym rest) kept.1.1.3
left_level regions depth events bound made body outer levels nest (inr other) =
    subst (λ (ls : List Level). AreLevelsOf regions depth events outer ls)
    (sym (without_none (length outer) levels (levels_below regions depth events body.enter body.start outer levels nest.3 other.1))) other.1

module _ (regions : List Region) (depth : ℕ) (events : List Event) where
  abbrev exited : List Event
  exited = events ++ Exit ∷ []

  few_left : length (operations events) ≤ length (operations exited)
  few_left = (let same : length (operations exited) ≡ length (operations events) = ap (λ (ops : List Operation). length ops) (left_operations events) in omega (arith, same))

  -- the turn behind an Exit
  exit_turn : (o : Open) (opened : List Open) (b : Bool) → inner events ≡ opened → is_body_of o opened ≡ b
      → turn exited o (length exited) ≡ (if b then suc (turn events o (length events)) else turn events o (length events))
  exit_turn o opened b are is =
      turn_end events Exit o
      ∙ ap (λ (t : Bool). if t then suc (turn events o (length events)) else turn events o (length events))
      (ap (λ (all : List Open). is_body_of o all) are ∙ is)

  -- the levels where the innermost instance is left: a turn may begin in the one around it
  turned_levels : (body : Open) (outer : List Open) (levels : List Level) → inner events ≡ body ∷ outer → AreNested (length events) (length (operations events)) (body ∷ outer)
      → AreLevelsOf regions depth events outer levels → AreLevelsOf regions depth exited outer (turned (length (operations events)) body.region (length outer) levels)
  turned_levels body [] levels are nest is =
      ap (λ (ls : List Level). turned (length (operations events)) body.region 0 ls) is
  turned_levels body (around ∷ outer) levels are nest is = by is
    where
      made : ℕ
      made = length (operations events)

      opened_outer : (o : Open) → IsAmong o (around ∷ outer) → IsAmong o (open_after events)
      opened_outer o among = open_inner events o (subst (λ (all : List Open). IsAmong o all) (sym are) (inr among))

      -- no turn begins in those further out
      further : (o : Open) → IsAmong o outer → IsAmong o (open_after events) × (turn exited o (length exited) ≡ turn events o (length events))
      further o among =
          let low : o.enter < around.enter = nested_enter around.enter around.start outer o nest.3.3 among in
          let differs : nat_eq around.enter o.enter ≡ false = grind arith in
          (opened_outer o (inr among), exit_turn o (body ∷ around ∷ outer) false are (ap (λ (b : Bool). b && nat_eq body.region (o.region + 1)) differs))

      rest_levels : (ls : List Level) → AreLevelsOf regions depth events outer ls → AreLevelsOf regions depth exited outer ls
      rest_levels ls all = still_levels regions depth events Exit outer ls few_left further all

      by : AreLevelsOf regions depth events (around ∷ outer) levels
          → AreLevelsOf regions depth exited (around ∷ outer) (turned made body.region (suc (length outer)) levels)
      by (inr other) =
          inr (
            other.0,
            subst (λ (ls : List Level). AreLevelsOf regions depth exited outer ls)
                (sym (turned_none made body.region (length outer) levels (levels_below regions depth events around.enter around.start outer levels nest.3.3 other.1)))
                (rest_levels levels other.1),
          )
      by (inl kept) =
          let l : Level = kept.1.0 in
          let level : IsLevelOf events around l = kept.1.1.2 in
          let here : nat_eq (suc (length outer)) (l.depth + 1) ≡ true = (let equal : suc (length outer) ≡ l.depth + 1 = omega (arith, level.depth, nest.3.2) in grind arith) in
          let of : nat_eq body.region (l.region + 1) ≡ nat_eq body.region (around.region + 1) = ap (λ (n : ℕ). nat_eq body.region (n + 1)) level.region in
          let self : nat_eq around.enter around.enter ≡ true = grind arith in
          let changed : Level = if nat_eq body.region (around.region + 1) then record l { turn = made } else l in
          let is_turned : turned made body.region (suc (length outer)) levels ≡ changed ∷ kept.1.1.0 =
          ap (λ (ls : List Level). turned made body.region (suc (length outer)) ls) kept.1.1.1
          ∙ (λ i. (if here i && of i then record l { turn = made } else l) ∷ kept.1.1.0) in
          inl (
            kept.0,
            (
              changed,
              (
                kept.1.1.0,
                is_turned,
                new l level (nat_eq body.region (around.region + 1))
                    (ap (λ (b : Bool). b && nat_eq body.region (around.region + 1)) self),
                rest_levels kept.1.1.0 kept.1.1.3,
              ),
            ),
          )
        where
          new : (l : Level) → IsLevelOf events around l → (b : Bool) → is_body_of around (body ∷ around ∷ outer) ≡ b
              → IsLevelOf exited around (if b then record l { turn = made } else l)
          new l level true ends =
              ended_level events Exit around l (opened_outer around (inl refl)) level refl (exit_turn around (body ∷ around ∷ outer) true are ends) few_left
          new l level false ends =
              still_level events Exit around l (opened_outer around (inl refl)) level (exit_turn around (body ∷ around ∷ outer) false are ends) few_left

  -- so are those behind an Exit
  pub left_levels : (body : Open) (outer : List Open) (levels : List Level) → inner events ≡ body ∷ outer
      → AreLevelsOf regions depth events (body ∷ outer) levels
      → AreLevelsOf regions depth exited outer (turned (length (operations events)) body.region (length outer) (without_level (length outer) levels))
  left_levels body outer levels are is =
      let nest : AreNested (length events) (length (operations events)) (body ∷ outer) =
      subst (λ (all : List Open). AreNested (length events) (length (operations events)) all) are (nested_all events) in
      turned_levels body outer (without_level (length outer) levels) are nest
      (left_level regions depth events (length events) (length (operations events)) body outer levels nest is)
