-- Times where an instance is entered, and where the innermost ones are left: they are heaviest paths again.
use Rattle.std.proofs.Common.{ℕ, zero, suc, ◌≡◌, ◌+◌, ◌-◌, ◌<◌, ◌≤◌, nat_lt, Bool, true, false, List, [], ◌∷◌, ◌++◌, length, replicate, slice_get, Option, Some, None, arith, refl, sym, subst, ap, inl, inr, ◌∙◌}
use Rattle.std.specs.Prelude.{if◌then◌else◌}
use Rattle.std.proofs.lemmas.Bool.{cases_lt}
use Rattle.std.proofs.lemmas.List.{append-nil, append_assoc, length-map}
use Rattle.k_optab.specs.declared.event.Event.{Event}
use Rattle.k_optab.specs.declared.event.Event.TheVariants.{Enter, Exit}
use Rattle.k_optab.specs.Events.{Operation, operations}
use Rattle.k_optab.specs.Graph.{IsTime}
use Rattle.k_optab.specs.Open.{Open, open_after}
use Rattle.k_world.specs.Worlds.{with_events}
use Rattle.k_code.specs.declared.code.Code.{Code}
use Rattle.k_code.specs.Steps.{Configuration}
use Rattle.k_hcpa_meaning.specs.Locations.{source_at}
use Rattle.k_hcpa_meaning.specs.Timed.{live_levels, CameEarlier, IsTimed}
use Rattle.k_hcpa_meaning.specs.Timings.{Location, Register, Element, InCell, OutCell, Control, Saved, Timing, HasLevels, time_of, entered, innermost_gone, entered_below, left_below, all_left_below, without_last}
use Rattle.std.proofs.lemmas.Option.{slice_get_within}
use Rattle.k_hcpa_laws.proofs.Entering.{shape_entered, shape_left, time_entered, time_entered_new, time_left}
use Rattle.k_hcpa_laws.proofs.Opened.{entered_length, entered_open, entered_operations, left_length, left_open, left_operations, paths_deeper, paths_entered, paths_left, paths_shallower}

-- the configuration with these events
abbrev pub at_events : List Event → Configuration → Configuration
at_events events c = record c { world = with_events events c.world }

-- no location holds anything else for that
pub source_at_events : (code : Code) (c : Configuration) (events : List Event) (at : Location) → source_at code (at_events events c) at ≡ source_at code c at
unfolding source_at
source_at_events code c events (Register r) = refl
source_at_events code c events (Element e) = refl
source_at_events code c events InCell = refl
source_at_events code c events OutCell = refl
source_at_events code c events Control = refl
source_at_events code c events (Saved n) = refl

-- a source that came earlier has no time in an instance that begins with the next operation
pub begins_later : (ops : List Operation) (start : ℕ) (source : Option ℕ) → start ≡ length ops → CameEarlier (length ops) (Some source) → IsTime ops start source 0
begins_later ops start None same came = refl
begins_later ops start (Some q) same came = (λ _. refl, λ (late : start ≤ q). absurd (omega (arith, same, came, late)))

module _ (code : Code) (depth : ℕ) (c : Configuration) (t : Timing) (is : IsTimed code depth c t) where
  -- the events so far
  abbrev events : List Event
  events = c.world.events

  -- how many instances are open
  abbrev count : ℕ
  count = length (open_after events)

  -- an instance is entered that has a level
  entered_level : (region : ℕ) → ((at : Location) → CameEarlier (length (operations events)) (source_at code c at)) → count < depth
      → IsTimed code depth (at_events (events ++ Enter region ∷ []) c) (entered t)
  entered_level region came shallow = record {
    shape = subst (λ (n : ℕ). HasLevels n (entered t)) next (shape_entered (live_levels depth events) t is.shape);
    saved = length-map t.saved (λ (times : List ℕ). times ++ 0 ∷ []) ∙ is.saved;
    times = λ level o at source live there holds.
        let held : source_at code c at ≡ Some source = sym (source_at_events code c (events ++ Enter region ∷ []) at) ∙ holds in
        subst (λ (ops : List Operation). IsTime ops o.start source (time_of (entered t) at level)) (sym (entered_operations events region))
        (elim (entered_open events region level o there) [
          | inl before ↦ old level o at source before held
          | inr last ↦ new level o at source last.0 last.1 held
        ]);
    paths = paths_entered depth events region t.paths shallow is.paths;
  }
    where
      next : live_levels depth events + 1 ≡ live_levels depth (events ++ Enter region ∷ [])
      next = omega (arith, entered_length events region, shallow)

      old : (level : ℕ) (o : Open) (at : Location) (source : Option ℕ) → slice_get (open_after events) level ≡ Some o
          → source_at code c at ≡ Some source → IsTime (operations events) o.start source (time_of (entered t) at level)
      old level o at source before held =
          let within : level < count = slice_get_within (open_after events) level o before in
          let live : level < live_levels depth events = omega (arith, within, shallow) in
          subst (λ (n : ℕ). IsTime (operations events) o.start source n) (sym (time_entered (live_levels depth events) t at level is.shape live))
          (is.times level o at source live before held)

      new : (level : ℕ) (o : Open) (at : Location) (source : Option ℕ) → level ≡ count → o.start ≡ length (operations events)
          → source_at code c at ≡ Some source → IsTime (operations events) o.start source (time_of (entered t) at level)
      new level o at source last start held =
          let levels : live_levels depth events ≡ level = omega (arith, last, shallow) in
          let zero_is : time_of (entered t) at level ≡ 0 =
          ap (λ (n : ℕ). time_of (entered t) at n) (sym levels) ∙ time_entered_new (live_levels depth events) t at is.shape in
          subst (λ (n : ℕ). IsTime (operations events) o.start source n) (sym zero_is)
          (begins_later (operations events) o.start source start
          (subst (λ (found : Option (Option ℕ)). CameEarlier (length (operations events)) found) held (came at)))

  -- an instance is entered that has none
  entered_deeper : (region : ℕ) → depth ≤ count → IsTimed code depth (at_events (events ++ Enter region ∷ []) c) t
  entered_deeper region deep = record {
    shape = subst (λ (n : ℕ). HasLevels n t) same is.shape;
    saved = is.saved;
    times = λ level o at source live there holds.
        let held : source_at code c at ≡ Some source = sym (source_at_events code c (events ++ Enter region ∷ []) at) ∙ holds in
        subst (λ (ops : List Operation). IsTime ops o.start source (time_of t at level)) (sym (entered_operations events region))
        (elim (entered_open events region level o there) [
          | inl before ↦ is.times level o at source (omega (arith, same, live)) before held
          | inr last ↦ absurd (omega (arith, last.0, deep, live))
        ]);
    paths = paths_deeper depth events region t.paths deep is.paths;
  }
    where
      same : live_levels depth events ≡ live_levels depth (events ++ Enter region ∷ [])
      same = omega (arith, entered_length events region, deep)

  -- an instance is entered
  pub timed_entered : (region : ℕ) → ((at : Location) → CameEarlier (length (operations events)) (source_at code c at))
      → IsTimed code depth (at_events (events ++ Enter region ∷ []) c) (entered_below depth count t)
  timed_entered region came = elim (cases_lt count depth) [
    | inl shallow ↦
        (let test : nat_lt count depth ≡ true = grind arith in
        subst (λ (b : Bool). IsTimed code depth (at_events (events ++ Enter region ∷ []) c) (if b then entered t else t)) (sym test)
        (entered_level region came shallow))
    | inr deep ↦
        (let test : nat_lt count depth ≡ false = grind arith in
        subst (λ (b : Bool). IsTimed code depth (at_events (events ++ Enter region ∷ []) c) (if b then entered t else t)) (sym test)
        (entered_deeper region deep))
  ]

  -- the innermost instance is left, which has a level
  left_level : 0 < count → count ≤ depth → IsTimed code depth (at_events (events ++ Exit ∷ []) c) (innermost_gone t)
  left_level some shallow = record {
    shape = shape_left (live_levels depth (events ++ Exit ∷ [])) t (subst (λ (n : ℕ). HasLevels n t) next is.shape);
    saved = length-map t.saved (λ (times : List ℕ). without_last times) ∙ is.saved;
    times = λ level o at source live there holds.
        let held : source_at code c at ≡ Some source = sym (source_at_events code c (events ++ Exit ∷ []) at) ∙ holds in
        let inside : level + 1 < live_levels depth events = omega (arith, next, live) in
        subst (λ (ops : List Operation). IsTime ops o.start source (time_of (innermost_gone t) at level)) (sym (left_operations events))
        (subst (λ (n : ℕ). IsTime (operations events) o.start source n) (sym (time_left (live_levels depth events) t at level is.shape inside))
        (is.times level o at source (omega (arith, inside)) (left_open events level o some there) held));
    paths = paths_left depth events t.paths some shallow is.paths;
  }
    where
      next : live_levels depth events ≡ live_levels depth (events ++ Exit ∷ []) + 1
      next = omega (arith, left_length events some, shallow)

  -- the innermost instance is left, which has none
  left_deeper : 0 < count → depth < count → IsTimed code depth (at_events (events ++ Exit ∷ []) c) t
  left_deeper some deep = record {
    shape = subst (λ (n : ℕ). HasLevels n t) same is.shape;
    saved = is.saved;
    times = λ level o at source live there holds.
        let held : source_at code c at ≡ Some source = sym (source_at_events code c (events ++ Exit ∷ []) at) ∙ holds in
        subst (λ (ops : List Operation). IsTime ops o.start source (time_of t at level)) (sym (left_operations events))
        (is.times level o at source (omega (arith, same, live)) (left_open events level o some there) held);
    paths = paths_shallower depth events t.paths some deep is.paths;
  }
    where
      same : live_levels depth events ≡ live_levels depth (events ++ Exit ∷ [])
      same = omega (arith, left_length events some, deep)

  -- the innermost instance is left
  pub timed_left : 0 < count → IsTimed code depth (at_events (events ++ Exit ∷ []) c) (left_below depth count t)
  timed_left some = elim (cases_lt depth count) [
    | inl deep ↦
        (let test : nat_lt depth count ≡ true = grind arith in
        subst (λ (b : Bool). IsTimed code depth (at_events (events ++ Exit ∷ []) c) (if b then t else innermost_gone t)) (sym test) (left_deeper some deep))
    | inr shallow ↦
        (let test : nat_lt depth count ≡ false = grind arith in
        subst (λ (b : Bool). IsTimed code depth (at_events (events ++ Exit ∷ []) c) (if b then t else innermost_gone t)) (sym test) (left_level some shallow))
  ]

-- the innermost ones are left, so many of those that are open
pub timed_all_left : (code : Code) (depth n : ℕ) (c : Configuration) (t : Timing) → IsTimed code depth c t → n ≤ length (open_after c.world.events)
    → IsTimed code depth (at_events (c.world.events ++ replicate n Exit) c) (all_left_below depth (length (open_after c.world.events)) n t)
timed_all_left code depth zero c t is few =
    subst (λ (events : List Event). IsTimed code depth (at_events events c) t) (sym (append-nil c.world.events)) is
timed_all_left code depth (suc n) c t is few =
    let some : 0 < length (open_after c.world.events) = omega arith in
    let fewer : length (open_after (c.world.events ++ Exit ∷ [])) + 1 ≡ length (open_after c.world.events) = left_length c.world.events some in
    let next = timed_all_left code depth n (at_events (c.world.events ++ Exit ∷ []) c) (left_below depth (length (open_after c.world.events)) t)
    (timed_left code depth c t is some) (omega arith) in
    let count : length (open_after (c.world.events ++ Exit ∷ [])) ≡ length (open_after c.world.events) - 1 = omega arith in
    subst (λ (events : List Event). IsTimed code depth (at_events events c)
    (all_left_below depth (length (open_after c.world.events) - 1) n (left_below depth (length (open_after c.world.events)) t)))
    (append_assoc c.world.events (Exit ∷ []) (replicate n Exit))
    (subst (λ (m : ℕ). IsTimed code depth (at_events ((c.world.events ++ Exit ∷ []) ++ replicate n Exit) c)
    (all_left_below depth m n (left_below depth (length (open_after c.world.events)) t))) count next)
