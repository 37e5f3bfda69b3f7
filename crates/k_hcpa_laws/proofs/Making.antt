-- Times while an operation is being made: they are heaviest paths, and the row is that of the heaviest paths to the operation.
use Rattle.std.proofs.Common.{ℕ, ◌≡◌, ◌≢◌, ◌^◌, ◌<◌, ◌≤◌, ◌⊎◌, min, List, [], ◌∷◌, ◌++◌, length, get_or, slice_get, Option, Some, arith, sym, subst, ap, inl, inr, ◌∙◌}
use Rattle.k_optab.specs.declared.event.Event.{Event}
use Rattle.k_optab.specs.Events.{Operation, operations, total_latency}
use Rattle.k_optab.specs.Graph.{HeaviestTo, IsTime}
use Rattle.k_optab.specs.Open.{Open, open_after}
use Rattle.k_code.specs.declared.code.Code.{Code}
use Rattle.k_code.specs.Steps.{Configuration}
use Rattle.k_hcpa_meaning.specs.Locations.{source_at, saved_in, frames_of}
use Rattle.k_hcpa_meaning.specs.Timed.{live_levels, ArePaths, IsTimed, IsTraced}
use Rattle.k_hcpa_meaning.specs.Timings.{Location, Control, Timing, HasLevels, time_of, later, operated, given_to}
use Rattle.k_hcpa_laws.specs.Depends.{DependsOn, OneMore}
use Rattle.k_hcpa_laws.proofs.Carried.{held_timed}
use Rattle.k_hcpa_laws.proofs.Giving.{CanBeGiven, paths_given, row_given, saved_given, shape_given, time_given, time_given_other}
use Rattle.k_hcpa_laws.proofs.Rows.{began, paths_behind, row_is}
use Rattle.k_hcpa_laws.proofs.Timings.{operated_is, row_of, shape_operated, times_with_row, with_row}

-- the times are heaviest paths, and the row is that to the operation of this number
pub record IsMaking (code : Code) (depth : ℕ) (c : Configuration) (number : ℕ) (t : Timing) : Type 0 where
  pub timed : IsTimed code depth c t
  pub row : (level : ℕ) (o : Open) → level < live_levels depth c.world.events → slice_get (open_after c.world.events) level ≡ Some o
      → IsTime (operations c.world.events) o.start (Some number) (get_or t.row level 0)

-- in another configuration each location holds what came from the same source, and as many control sources are saved
pub record HasSame (code : Code) (c c' : Configuration) : Type 0 where
  pub sources : (at : Location) → source_at code c' at ≡ source_at code c at
  pub saved : length (saved_in (frames_of c')) ≡ length (saved_in (frames_of c))

-- an operation was made that depends on what these locations hold
pub making : (code : Code) (depth : ℕ) (c c' : Configuration) (t : Timing) (op : Operation) (locations : List Location)
    → IsTraced code c → IsTimed code depth c t → DependsOn code c op.sources (locations ++ Control ∷ [])
    → total_latency (operations c.world.events ++ op ∷ []) < 2 ^ 64
    → OneMore c.world.events c'.world.events op → HasSame code c c'
    → IsMaking code depth c' (length (operations c.world.events)) (operated locations op.latency t)
making code depth c c' t op locations traced is depends few more same =
    subst (λ (s : Timing). IsMaking code depth c' (length (operations c.world.events)) s) (sym (operated_is locations op.latency t))
    (record {
      timed = record {
        shape = subst (λ (n : ℕ). HasLevels n now) (sym levels) (shape_operated (live_levels depth c.world.events) locations op.latency t is.shape);
        saved = is.saved ∙ sym same.saved;
        times = λ level o at source live there holds.
            let held : source_at code c at ≡ Some source = sym (same.sources at) ∙ holds in
            let before : level < live_levels depth c.world.events = omega (arith, levels, live) in
            let same_time : time_of t at level ≡ time_of now at level =
            sym (ap (λ (times : List ℕ). get_or times level 0) (times_with_row row (later t.paths row) t at)) in
            subst (λ (ops : List Operation). IsTime ops o.start source (time_of now at level)) (sym more.operations)
            (subst (λ (n : ℕ). IsTime (operations c.world.events ++ op ∷ []) o.start source n) same_time
            (held_timed code c (op ∷ []) o.start at source (time_of t at level) traced held (is.times level o at source before (opened level o there) held)));
        paths = paths_behind code depth c t op locations traced is depends few c'.world.events more;
      };
      row = λ level o live there.
          let before : level < live_levels depth c.world.events = omega (arith, levels, live) in
          let to : HeaviestTo (operations c.world.events ++ op ∷ []) o.start (length (operations c.world.events)) (get_or row level 0) =
          row_is code depth c t op locations traced is depends few level o before (opened level o there) in
          let first : o.start ≤ length (operations c.world.events) = began c.world.events level o (opened level o there) in
          subst (λ (ops : List Operation). IsTime ops o.start (Some (length (operations c.world.events))) (get_or row level 0)) (sym more.operations)
          (λ (late : length (operations c.world.events) < o.start). absurd (omega arith), λ _. to);
    })
  where
    row : List ℕ
    row = row_of locations op.latency t

    now : Timing
    now = with_row row (later t.paths row) t

    levels : live_levels depth c'.world.events ≡ live_levels depth c.world.events
    levels = ap (λ (open_ones : List Open). min depth (length open_ones)) more.opened

    opened : (level : ℕ) (o : Open) → slice_get (open_after c'.world.events) level ≡ Some o → slice_get (open_after c.world.events) level ≡ Some o
    opened level o there = ap (λ (open_ones : List Open). slice_get open_ones level) (sym more.opened) ∙ there

-- behind it each location holds what it held, but for one that holds what the operation gave
abbrev pub HoldsGiven : Code → Configuration → Configuration → ℕ → Location → Type 0
HoldsGiven code c c' number given = (at : Location) (source : Option ℕ) → source_at code c' at ≡ Some source
    → ((at ≡ given) × (source ≡ Some number)) ⊎ ((at ≢ given) × (source_at code c at ≡ Some source))

-- a location is given what the operation gave
pub giving : (code : Code) (depth : ℕ) (c c' : Configuration) (number : ℕ) (t : Timing) (given : Location)
    → IsMaking code depth c number t → CanBeGiven given → c'.world.events ≡ c.world.events
    → length (saved_in (frames_of c')) ≡ length (saved_in (frames_of c)) → HoldsGiven code c c' number given
    → IsMaking code depth c' number (given_to given t)
giving code depth c c' number t given making can same_events same_saved holds = record {
  timed = record {
    shape = subst (λ (events : List Event). HasLevels (live_levels depth events) (given_to given t)) (sym same_events) (shape_given count given t shape);
    saved = ap (λ (saved : List (List ℕ)). length saved) (saved_given given t) ∙ making.timed.saved ∙ sym same_saved;
    times = λ level o at source live there is.
        subst (λ (events : List Event). IsTime (operations events) o.start source (time_of (given_to given t) at level)) (sym same_events)
        (elim (holds at source is) [
          | inl here ↦ new level o at source (before_live level live) (before_open level o there) here.0 here.1
          | inr other ↦ old level o at source (before_live level live) (before_open level o there) other.0 other.1
        ]);
    paths = subst (λ (events : List Event). ArePaths depth events (given_to given t).paths) (sym same_events)
        (subst (λ (paths : List ℕ). ArePaths depth c.world.events paths) (sym (paths_given given t)) making.timed.paths);
  };
  row = λ level o live there.
      subst (λ (events : List Event). IsTime (operations events) o.start (Some number) (get_or (given_to given t).row level 0)) (sym same_events)
      (subst (λ (row : List ℕ). IsTime (operations c.world.events) o.start (Some number) (get_or row level 0)) (sym (row_given given t))
      (making.row level o (before_live level live) (before_open level o there)));
}
  where
    count : ℕ
    count = live_levels depth c.world.events

    shape : HasLevels count t
    shape = making.timed.shape

    before_live : (level : ℕ) → level < live_levels depth c'.world.events → level < live_levels depth c.world.events
    before_live level live = subst (λ (events : List Event). level < live_levels depth events) same_events live

    before_open : (level : ℕ) (o : Open) → slice_get (open_after c'.world.events) level ≡ Some o → slice_get (open_after c.world.events) level ≡ Some o
    before_open level o there = subst (λ (events : List Event). slice_get (open_after events) level ≡ Some o) same_events there

    new : (level : ℕ) (o : Open) (at : Location) (source : Option ℕ) → level < live_levels depth c.world.events
        → slice_get (open_after c.world.events) level ≡ Some o → at ≡ given → source ≡ Some number
        → IsTime (operations c.world.events) o.start source (time_of (given_to given t) at level)
    new level o at source live there here from =
        let time : time_of (given_to given t) at level ≡ get_or t.row level 0 =
        ap (λ (x : Location). time_of (given_to given t) x level) here ∙ time_given count t given level shape live can in
        subst (λ (x : Option ℕ). IsTime (operations c.world.events) o.start x (time_of (given_to given t) at level)) (sym from)
        (subst (λ (n : ℕ). IsTime (operations c.world.events) o.start (Some number) n) (sym time) (making.row level o live there))

    old : (level : ℕ) (o : Open) (at : Location) (source : Option ℕ) → level < live_levels depth c.world.events
        → slice_get (open_after c.world.events) level ≡ Some o → at ≢ given → source_at code c at ≡ Some source
        → IsTime (operations c.world.events) o.start source (time_of (given_to given t) at level)
    old level o at source live there differs held =
        subst (λ (n : ℕ). IsTime (operations c.world.events) o.start source n) (sym (time_given_other count t given at level shape live differs))
        (making.timed.times level o at source live there held)

-- times of a configuration are those of another where each location holds the same
pub retimed : (code : Code) (depth : ℕ) (c c' : Configuration) (t : Timing) → IsTimed code depth c t → HasSame code c c' → c'.world.events ≡ c.world.events
    → IsTimed code depth c' t
retimed code depth c c' t is same events = record {
  shape = subst (λ (all : List Event). HasLevels (live_levels depth all) t) (sym events) is.shape;
  saved = is.saved ∙ sym same.saved;
  times = λ level o at source live there holds.
      subst (λ (all : List Event). IsTime (operations all) o.start source (time_of t at level)) (sym events)
      (is.times level o at source (subst (λ (all : List Event). level < live_levels depth all) events live)
      (subst (λ (all : List Event). slice_get (open_after all) level ≡ Some o) events there) (sym (same.sources at) ∙ holds));
  paths = subst (λ (all : List Event). ArePaths depth all t.paths) (sym events) is.paths;
}
