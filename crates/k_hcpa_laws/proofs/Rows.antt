-- The row of an operation is that of the heaviest paths to it, and the paths behind it are the heaviest so far.
use Rattle.std.proofs.Common.{ℕ, ◌≡◌, ◌+◌, ◌%◌, ◌^◌, ◌<◌, ◌≤◌, max, min, true, false, List, [], ◌∷◌, ◌++◌, length, get_or, slice_get, Option, Some, None, arith, refl, sym, subst, ap, ◌∙◌}
use Rattle.std.proofs.Math.Nat.{mod-eq_of_lt}
use Rattle.std.proofs.lemmas.List.{length_push}
use Rattle.std.proofs.lemmas.List.Elements.{All-get_or}
use Rattle.std.proofs.lemmas.Option.{get_or_from_slice_get, slice_get_within}
use Rattle.k_optab.specs.declared.event.Event.{Event}
use Rattle.k_optab.specs.declared.event.Src.{Src}
use Rattle.k_optab.specs.Events.{Operation, operations, AreBefore, IsOperation, SourcesAreEarlier, total_latency}
use Rattle.k_optab.specs.Graph.{Heaviest, HeaviestTo, IsTime, work}
use Rattle.k_optab.specs.GraphLaws.{IsGreatestTime}
use Rattle.k_optab.specs.Open.{Open, open_after}
use Rattle.k_optab.proofs.Heaviest.{greatest_none, greatest_broken, greatest_unbroken, heaviest_of_one_more, time_from_sources}
use Rattle.k_optab.proofs.History.{longer_keeps_heaviest}
use Rattle.k_optab.proofs.Intervals.{work_at_most_total}
use Rattle.k_optab.proofs.Leaving.{open_instances_began}
use Rattle.k_optab.proofs.Paths.{weight_at_most_work}
use Rattle.k_world.proofs.MoreOperations.{earlier_more}
use Rattle.k_code.specs.declared.code.Code.{Code}
use Rattle.k_code.specs.Steps.{Configuration}
use Rattle.k_code.proofs.Kept.{get_last}
use Rattle.k_hcpa_meaning.specs.Locations.{source_at}
use Rattle.k_hcpa_meaning.specs.Timed.{live_levels, ArePaths, CameEarlier, IsTimed, IsTraced}
use Rattle.k_hcpa_meaning.specs.Timings.{Location, Control, Timing, time_of, times_at, later}
use Rattle.k_hcpa_laws.specs.Depends.{DependsOn, nothing, without, whole, broken, OneMore}
use Rattle.k_hcpa_laws.proofs.Carried.{held_timed}
use Rattle.k_hcpa_laws.proofs.Timings.{latest, latest-append, length-later, row_of, time_later, time_row_of}

-- an open instance began with one of the operations so far, or begins with the next
pub began : (events : List Event) (level : ℕ) (o : Open) → slice_get (open_after events) level ≡ Some o → o.start ≤ length (operations events)
began events level o there =
    let all = All-get_or (λ (x : Open). (x.enter < length events) × (x.start ≤ length (operations events))) (open_after events) level o
    (slice_get_within (open_after events) level o there) (open_instances_began events) in
    let same : get_or (open_after events) level o ≡ o = get_or_from_slice_get (open_after events) level o o there in
    subst (λ (x : Open). x.start ≤ length (operations events)) same all.1

-- the times of locations are those of the sources that they hold
abbrev pub HaveTimes : Code → Configuration → List Operation → ℕ → Timing → ℕ → Type 0
HaveTimes code c ops start t level = (at : Location) (source : Option ℕ) → source_at code c at ≡ Some source → IsTime ops start source (time_of t at level)

-- the latest of these times is the greatest of the sources
pub depends_greatest : (code : Code) (c : Configuration) (ops : List Operation) (start : ℕ) (t : Timing) (level : ℕ) (sources : List Src) (locations : List Location)
    → HaveTimes code c ops start t level → DependsOn code c sources locations → IsGreatestTime ops start sources (latest locations t level)
depends_greatest code c ops start t level _ _ times nothing = greatest_none ops start
depends_greatest code c ops start t level _ _ times (without sources at locations holds rest) =
    let zero_is : time_of t at level ≡ 0 = times at None holds in
    let same : latest locations t level ≡ latest (at ∷ locations) t level = omega (arith, zero_is) in
    subst (λ (n : ℕ). IsGreatestTime ops start sources n) same (depends_greatest code c ops start t level sources locations times rest)
depends_greatest code c ops start t level _ _ times (whole number sources at locations holds rest) =
    greatest_unbroken ops start (latest locations t level) (time_of t at level) (record { number = number; broken = false }) sources refl
    (times at (Some number) holds) (depends_greatest code c ops start t level sources locations times rest)
depends_greatest code c ops start t level _ _ times (broken number sources locations made rest) =
    greatest_broken ops start (latest locations t level) (record { number = number; broken = true }) sources refl
    (depends_greatest code c ops start t level sources locations times rest)

-- and the sources are operations that were made
pub depends_before : (code : Code) (c : Configuration) (sources : List Src) (locations : List Location)
    → ((at : Location) → CameEarlier c.world.made (source_at code c at)) → DependsOn code c sources locations → AreBefore c.world.made sources
depends_before code c _ _ came nothing = tt
depends_before code c _ _ came (without sources at locations holds rest) = depends_before code c sources locations came rest
depends_before code c _ _ came (whole number sources at locations holds rest) =
    (subst (λ (found : Option (Option ℕ)). CameEarlier c.world.made found) holds (came at), depends_before code c sources locations came rest)
depends_before code c _ _ came (broken number sources locations made rest) = (made, depends_before code c sources locations came rest)

pub control_time : (t : Timing) (level : ℕ) → time_of t Control level ≡ get_or t.control level 0
unfolding times_at
control_time t level = refl

module _ (code : Code) (depth : ℕ) (c : Configuration) (t : Timing) (op : Operation) (locations : List Location)
    (traced : IsTraced code c) (is : IsTimed code depth c t) (depends : DependsOn code c op.sources (locations ++ Control ∷ []))
    (few : total_latency (operations c.world.events ++ op ∷ []) < 2 ^ 64) where
  -- the operations so far
  abbrev ops : List Operation
  ops = operations c.world.events

  -- sources are earlier ones, the new operation's too
  pub earlier_behind : SourcesAreEarlier (ops ++ op ∷ [])
  earlier_behind = earlier_more ops op traced.earlier
      (subst (λ (n : ℕ). AreBefore n op.sources) (sym traced.made) (depends_before code c op.sources (locations ++ Control ∷ []) traced.came depends))

  -- the row at a live level
  pub row_is : (level : ℕ) (o : Open) → level < live_levels depth c.world.events → slice_get (open_after c.world.events) level ≡ Some o
      → HeaviestTo (ops ++ op ∷ []) o.start (length ops) (get_or (row_of locations op.latency t) level 0)
  row_is level o live there =
      let times : HaveTimes code c (ops ++ op ∷ []) o.start t level =
      (λ at source holds. held_timed code c (op ∷ []) o.start at source (time_of t at level) traced holds (is.times level o at source live there holds)) in
      let most : IsGreatestTime (ops ++ op ∷ []) o.start op.sources (latest (locations ++ Control ∷ []) t level) =
      depends_greatest code c (ops ++ op ∷ []) o.start t level op.sources (locations ++ Control ∷ []) times depends in
      let made : IsOperation (ops ++ op ∷ []) (length ops) op = get_last ops op (length ops) refl in
      let to : HeaviestTo (ops ++ op ∷ []) o.start (length ops) (op.latency + latest (locations ++ Control ∷ []) t level) =
      time_from_sources (ops ++ op ∷ []) earlier_behind o.start (length ops) (latest (locations ++ Control ∷ []) t level) op
      (began c.world.events level o there) made most in
      let short : op.latency + latest (locations ++ Control ∷ []) t level ≤ work (ops ++ op ∷ []) o.start (length ops + 1) =
      weight_at_most_work (ops ++ op ∷ []) earlier_behind o.start (length ops + 1) (length ops) (op.latency + latest (locations ++ Control ∷ []) t level)
      to.reached.0 to.reached.1 in
      let total : work (ops ++ op ∷ []) o.start (length ops + 1) ≤ total_latency (ops ++ op ∷ []) = work_at_most_total (ops ++ op ∷ []) o.start (length ops + 1) in
      let all : latest (locations ++ Control ∷ []) t level ≡ max (latest locations t level) (max (time_of t Control level) 0) =
      latest-append locations (Control ∷ []) t level in
      let control : time_of t Control level ≡ get_or t.control level 0 = control_time t level in
      let inside : level < length t.control = omega (arith, is.shape.control, live) in
      let time : get_or (row_of locations op.latency t) level 0 ≡ (max (get_or t.control level 0) (latest locations t level) + op.latency) % 2 ^ 64 =
      time_row_of locations op.latency t level inside in
      let sum : max (get_or t.control level 0) (latest locations t level) + op.latency ≡ op.latency + latest (locations ++ Control ∷ []) t level =
      omega (arith, all, control) in
      let below : op.latency + latest (locations ++ Control ∷ []) t level < 2 ^ 64 = omega (arith, short, total, few) in
      let same : get_or (row_of locations op.latency t) level 0 ≡ op.latency + latest (locations ++ Control ∷ []) t level =
      time ∙ ap (λ (n : ℕ). n % 2 ^ 64) sum ∙ mod-eq_of_lt below in
      subst (λ (n : ℕ). HeaviestTo (ops ++ op ∷ []) o.start (length ops) n) (sym same) to

  -- the paths behind it
  pub paths_behind : (after : List Event) → OneMore c.world.events after op → ArePaths depth after (later t.paths (row_of locations op.latency t))
  paths_behind after more = record {
    count = length-later t.paths (row_of locations op.latency t) ∙ is.paths.count
        ∙ sym (ap (λ (open_ones : List Open). min depth (length open_ones)) more.opened);
    each = λ level o below there.
        let inside : level < length t.paths = omega (arith, length-later t.paths (row_of locations op.latency t), below) in
        let live : level < live_levels depth c.world.events = omega (arith, is.paths.count, inside) in
        let here : slice_get (open_after c.world.events) level ≡ Some o =
        ap (λ (open_ones : List Open). slice_get open_ones level) (sym more.opened) ∙ there in
        let so_far : Heaviest (ops ++ op ∷ []) o.start (length ops) (get_or t.paths level 0) =
        longer_keeps_heaviest ops (op ∷ []) o.start (length ops) (get_or t.paths level 0) (omega arith) (is.paths.each level o inside here) in
        let next : Heaviest (ops ++ op ∷ []) o.start (length ops + 1) (max (get_or t.paths level 0) (get_or (row_of locations op.latency t) level 0)) =
        heaviest_of_one_more (ops ++ op ∷ []) earlier_behind o.start (length ops) (get_or t.paths level 0) (get_or (row_of locations op.latency t) level 0)
        (began c.world.events level o here) so_far (row_is level o live here) in
        let path : max (get_or t.paths level 0) (get_or (row_of locations op.latency t) level 0) ≡ get_or (later t.paths (row_of locations op.latency t)) level 0 =
        sym (time_later t.paths (row_of locations op.latency t) level inside) in
        let end : length ops + 1 ≡ length (ops ++ op ∷ []) = sym (length_push ops op) in
        subst (λ (all : List Operation). Heaviest all o.start (length all) (get_or (later t.paths (row_of locations op.latency t)) level 0)) (sym more.operations)
        (subst (λ (n : ℕ). Heaviest (ops ++ op ∷ []) o.start n (get_or (later t.paths (row_of locations op.latency t)) level 0)) end
        (subst (λ (n : ℕ). Heaviest (ops ++ op ∷ []) o.start (length ops + 1) n) path next));
  }
