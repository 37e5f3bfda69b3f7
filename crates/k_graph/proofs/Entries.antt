-- Which instances a pass finds: those that are closed so far, and those that the events to come will close.
use Rattle.std.proofs.Common.{◌≡◌, ℕ, suc, ◌+◌, List, [], ◌∷◌, ◌++◌, length, Option, Some, None, refl, sym, ◌∙◌, ap, arith, append_assoc, append-nil, length-append, map}
use Rattle.std.specs.Prelude.{option_map}
use Rattle.std.proofs.lemmas.List.{length-map, map-append}
use Rattle.k_num.specs.declared.place.Place.{Place}
use Rattle.k_optab.specs.declared.class.Class.{Class}
use Rattle.k_optab.specs.declared.event.Src.{Src}
use Rattle.k_optab.specs.declared.event.Event.{Event}
use Rattle.k_optab.specs.declared.event.Event.TheVariants.{Op, Enter, Exit}
use Rattle.k_optab.specs.Events.{operations}
use Rattle.k_optab.specs.declared.closed.Closed.{Closed}
use Rattle.k_optab.specs.Instances.{until_exit, instance_of}
use Rattle.k_graph.specs.declared.level.Level.{Level}
use Rattle.k_graph.specs.declared.level.Measured.{Measured}
use Rattle.k_graph.specs.Levels.{added, measured}
use Rattle.k_graph.specs.Listings.{closed_of}
use Rattle.k_graph.specs.Passes.{Closing, close_into, listed}

-- the instance of a level, where it is left after these events
abbrev pub live_instance : Level → ℕ → ℕ → Option (List Event) → List Closed
live_instance level place made None = []
live_instance level place made (Some inside) = record {
  region = level.region;
  depth = level.depth;
  enter = level.enter;
  exit = place + length inside;
  start = level.start;
  end = made + length (operations inside);
} ∷ []

-- the instances of the levels, where they will be left, and those within them that are closed; `deeper` more
-- instances are open
abbrev pub live : List Event → ℕ → ℕ → ℕ → List Level → List Closed
live rest place made deeper [] = []
live rest place made deeper (level ∷ levels) =
    live_instance level place made (until_exit rest (length levels + deeper)) ++ (map closed_of level.inner ++ live rest place made deeper levels)

-- an instance is the same where its numbers are
same_instance : (level : Level) (exit exit' end end' : ℕ) → exit ≡ exit' → end ≡ end'
    → ◌≡◌ {A = List Closed} (record { region = level.region; depth = level.depth; enter = level.enter; exit = exit; start = level.start; end = end } ∷ [])
    (record { region = level.region; depth = level.depth; enter = level.enter; exit = exit'; start = level.start; end = end' } ∷ [])
same_instance level exit exit' end end' p q =
    ap (λ n. record { region = level.region; depth = level.depth; enter = level.enter; exit = n; start = level.start; end = end } ∷ []) p
    ∙ ap (λ n. record { region = level.region; depth = level.depth; enter = level.enter; exit = exit'; start = level.start; end = n } ∷ []) q

module _ (rest : List Event) (place made : ℕ) where
  after_operation : (class : Class) (latency : ℕ) (sources : List Src) (here : Place) (level : Level) (found : Option (List Event))
      → live_instance level place made (option_map (λ es. Op class latency sources here ∷ es) found)
      ≡ live_instance (added latency sources level) (place + 1) (made + 1) found
  after_operation class latency sources here level None = refl
  after_operation class latency sources here level (Some inside) =
      same_instance level _ _ _ _ (omega arith) (omega arith)

  pub live_operation : (class : Class) (latency : ℕ) (sources : List Src) (here : Place) (deeper : ℕ) (levels : List Level)
      → live (Op class latency sources here ∷ rest) place made deeper levels ≡ live rest (place + 1) (made + 1) deeper (map (added latency sources) levels)
  live_operation class latency sources here deeper [] = refl
  live_operation class latency sources here deeper (level ∷ levels) =
      let depth : length levels + deeper ≡ length (map (added latency sources) levels) + deeper =
      ap (λ n. n + deeper) (sym (length-map levels (added latency sources))) in
      let one : live_instance level place made (until_exit (Op class latency sources here ∷ rest) (length levels + deeper))
      ≡ live_instance (added latency sources level) (place + 1) (made + 1) (until_exit rest (length (map (added latency sources) levels) + deeper)) =
      after_operation class latency sources here level (until_exit rest (length levels + deeper))
      ∙ ap (λ n. live_instance (added latency sources level) (place + 1) (made + 1) (until_exit rest n)) depth in
      ap (λ l. l ++ (map closed_of level.inner ++ live (Op class latency sources here ∷ rest) place made deeper levels)) one
      ∙ ap (λ l. live_instance (added latency sources level) (place + 1) (made + 1) (until_exit rest (length (map (added latency sources) levels) + deeper)) ++ (map closed_of level.inner ++ l))
      (live_operation class latency sources here deeper levels)

  after_enter : (region : ℕ) (level : Level) (found : Option (List Event))
      → live_instance level place made (option_map (λ es. Enter region ∷ es) found) ≡ live_instance level (place + 1) made found
  after_enter region level None = refl
  after_enter region level (Some inside) = same_instance level _ _ _ _ (omega arith) refl

  after_exit : (level : Level) (found : Option (List Event))
      → live_instance level place made (option_map (λ es. Exit ∷ es) found) ≡ live_instance level (place + 1) made found
  after_exit level None = refl
  after_exit level (Some inside) = same_instance level _ _ _ _ (omega arith) refl

  -- an Enter of an instance that is not tracked
  pub live_enter : (region deeper : ℕ) (levels : List Level)
      → live (Enter region ∷ rest) place made deeper levels ≡ live rest (place + 1) made (deeper + 1) levels
  live_enter region deeper [] = refl
  live_enter region deeper (level ∷ levels) =
      let depth : suc (length levels + deeper) ≡ length levels + (deeper + 1) = omega arith in
      let one : live_instance level place made (until_exit (Enter region ∷ rest) (length levels + deeper))
      ≡ live_instance level (place + 1) made (until_exit rest (length levels + (deeper + 1))) =
      after_enter region level (until_exit rest (suc (length levels + deeper)))
      ∙ ap (λ n. live_instance level (place + 1) made (until_exit rest n)) depth in
      ap (λ l. l ++ (map closed_of level.inner ++ live (Enter region ∷ rest) place made deeper levels)) one
      ∙ ap (λ l. live_instance level (place + 1) made (until_exit rest (length levels + (deeper + 1))) ++ (map closed_of level.inner ++ l))
      (live_enter region deeper levels)

  entered_instance : (region : ℕ) (new : Level) (found : Option (List Event)) → new.region ≡ region → new.enter ≡ place → new.start ≡ made
      → instance_of region new.depth place made found ≡ live_instance new (place + 1) made found
  entered_instance region new None r e s = refl
  entered_instance region new (Some inside) r e s =
      let enter_is : record { region = region; depth = new.depth; enter = place; exit = place + 1 + length inside; start = made; end = made + length (operations inside) }
      ≡ record { region = new.region; depth = new.depth; enter = new.enter; exit = place + 1 + length inside; start = new.start; end = made + length (operations inside) } =
      ap (λ n. record { region = n; depth = new.depth; enter = place; exit = place + 1 + length inside; start = made; end = made + length (operations inside) }) (sym r)
      ∙ (ap (λ n. record { region = new.region; depth = new.depth; enter = n; exit = place + 1 + length inside; start = made; end = made + length (operations inside) }) (sym e)
      ∙ ap (λ n. record { region = new.region; depth = new.depth; enter = new.enter; exit = place + 1 + length inside; start = n; end = made + length (operations inside) }) (sym s)) in
      ap (λ i. i ∷ []) enter_is

  -- an Enter of an instance that is tracked
  pub live_enter_level : (region : ℕ) (new : Level) → new.region ≡ region → new.enter ≡ place → new.start ≡ made → new.inner ≡ [] → (levels : List Level)
      → live (Enter region ∷ rest) place made 0 levels ++ instance_of region new.depth place made (until_exit rest 0)
      ≡ live rest (place + 1) made 0 (levels ++ new ∷ [])
  live_enter_level region new r e s none [] =
      entered_instance region new (until_exit rest 0) r e s
      ∙ (sym (append-nil (live_instance new (place + 1) made (until_exit rest 0)))
      ∙ ap (λ l. live_instance new (place + 1) made (until_exit rest 0) ++ (map closed_of l ++ [])) (sym none))
  live_enter_level region new r e s none (level ∷ levels) =
      let size : length (levels ++ new ∷ []) ≡ length levels + 1 = length-append levels (new ∷ []) in
      let depth : suc (length levels + 0) ≡ length (levels ++ new ∷ []) + 0 = omega arith in
      let one : live_instance level place made (until_exit (Enter region ∷ rest) (length levels + 0))
      ≡ live_instance level (place + 1) made (until_exit rest (length (levels ++ new ∷ []) + 0)) =
      after_enter region level (until_exit rest (suc (length levels + 0)))
      ∙ ap (λ n. live_instance level (place + 1) made (until_exit rest n)) depth in
      append_assoc (live_instance level place made (until_exit (Enter region ∷ rest) (length levels + 0)))
      (map closed_of level.inner ++ live (Enter region ∷ rest) place made 0 levels) (instance_of region new.depth place made (until_exit rest 0))
      ∙ (ap (λ l. live_instance level place made (until_exit (Enter region ∷ rest) (length levels + 0)) ++ l)
      (append_assoc (map closed_of level.inner) (live (Enter region ∷ rest) place made 0 levels) (instance_of region new.depth place made (until_exit rest 0)))
      ∙ (ap (λ l. live_instance level place made (until_exit (Enter region ∷ rest) (length levels + 0)) ++ (map closed_of level.inner ++ l))
      (live_enter_level region new r e s none levels)
      ∙ ap (λ l. l ++ (map closed_of level.inner ++ live rest (place + 1) made 0 (levels ++ new ∷ []))) one))

  -- an Exit of an instance that is not tracked
  pub live_exit : (deeper : ℕ) (levels : List Level)
      → live (Exit ∷ rest) place made (deeper + 1) levels ≡ live rest (place + 1) made deeper levels
  live_exit deeper [] = refl
  live_exit deeper (level ∷ levels) =
      let depth : length levels + (deeper + 1) ≡ suc (length levels + deeper) = omega arith in
      let one : live_instance level place made (until_exit (Exit ∷ rest) (length levels + (deeper + 1)))
      ≡ live_instance level (place + 1) made (until_exit rest (length levels + deeper)) =
      ap (λ n. live_instance level place made (until_exit (Exit ∷ rest) n)) depth
      ∙ after_exit level (until_exit rest (length levels + deeper)) in
      ap (λ l. l ++ (map closed_of level.inner ++ live (Exit ∷ rest) place made (deeper + 1) levels)) one
      ∙ ap (λ l. live_instance level (place + 1) made (until_exit rest (length levels + deeper)) ++ (map closed_of level.inner ++ l))
      (live_exit deeper levels)

-- a level is closed
pub levels_close : (place made : ℕ) (done : List Measured) (level : Level) (levels : List Level)
    → length (close_into place made done (level ∷ levels)).levels ≡ length levels
levels_close place made done level [] = refl
levels_close place made done level (next ∷ levels) = ap suc (levels_close place made level.inner next levels)

-- an Exit of an instance that is tracked
pub live_close : (rest : List Event) (place made : ℕ) (done : List Measured) (level : Level) (levels : List Level)
    → map closed_of done ++ live (Exit ∷ rest) place made 0 (level ∷ levels)
    ≡ map closed_of (close_into place made done (level ∷ levels)).done ++ live rest (place + 1) made 0 (close_into place made done (level ∷ levels)).levels
live_close rest place made done level [] =
    let closes : live_instance level place made (Some []) ≡ closed_of (measured place made level) ∷ [] = same_instance level _ _ _ _ (omega arith) (omega arith) in
    ap (λ l. map closed_of done ++ (l ++ (map closed_of level.inner ++ []))) closes
    ∙ (ap (λ l. map closed_of done ++ (closed_of (measured place made level) ∷ l)) (append-nil (map closed_of level.inner))
    ∙ (sym (map-append closed_of done (measured place made level ∷ level.inner))
    ∙ sym (append-nil (map closed_of (done ++ measured place made level ∷ level.inner)))))
live_close rest place made done level (next ∷ levels) =
    let closing : Closing = close_into place made level.inner (next ∷ levels) in
    let depth : length (next ∷ levels) + 0 ≡ suc (length closing.levels + 0) = (let size = levels_close place made level.inner next levels in omega arith) in
    let one : live_instance level place made (until_exit (Exit ∷ rest) (length (next ∷ levels) + 0))
    ≡ live_instance (record level { inner = closing.done }) (place + 1) made (until_exit rest (length closing.levels + 0)) =
    ap (λ n. live_instance level place made (until_exit (Exit ∷ rest) n)) depth
    ∙ after_exit rest place made level (until_exit rest (length closing.levels + 0)) in
    ap (λ l. map closed_of done ++ (l ++ (map closed_of level.inner ++ live (Exit ∷ rest) place made 0 (next ∷ levels)))) one
    ∙ ap (λ l. map closed_of done ++ (live_instance (record level { inner = closing.done }) (place + 1) made (until_exit rest (length closing.levels + 0)) ++ l))
    (live_close rest place made level.inner next levels)

-- no event follows
pub live_end : (place made deeper : ℕ) (done : List Measured) (levels : List Level)
    → map closed_of (listed done levels) ≡ map closed_of done ++ live [] place made deeper levels
live_end place made deeper done [] = sym (append-nil (map closed_of done))
live_end place made deeper done (level ∷ levels) =
    live_end place made deeper (done ++ level.inner) levels
    ∙ (ap (λ l. l ++ live [] place made deeper levels) (map-append closed_of done level.inner)
    ∙ append_assoc (map closed_of done) (map closed_of level.inner) (live [] place made deeper levels))
