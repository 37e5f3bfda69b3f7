-- What is noted of an instruction is gathered of its events.
use Rattle.std.proofs.Common.{◌≡◌, ℕ, zero, suc, ◌≤◌, ◌≢◌, ◌⊎◌, ◌&&◌, nat_eq, nat_lt, Bool, true, false, List, [], ◌∷◌, ◌++◌, length, slice_get, Option, Some, None, arith, refl, sym, subst, ap, inl, inr, ◌∙◌}
use Rattle.std.specs.Prelude.{if◌then◌else◌, replicate}
use Rattle.std.proofs.lemmas.Bool.{cases_lt}
use Rattle.std.proofs.lemmas.Bool.Decides.{eqb_tells}
use Rattle.std.proofs.lemmas.List.{append_assoc, append-nil, length_push}
use Rattle.k_num.specs.declared.place.Place.{Place}
use Rattle.k_optab.specs.declared.class.Class.{Class}
use Rattle.k_optab.specs.declared.event.Event.{Event}
use Rattle.k_optab.specs.declared.event.Event.TheVariants.{Exit}
use Rattle.k_optab.specs.declared.event.Src.{Src}
use Rattle.k_optab.specs.Events.{ListsUnbroken, Operation, operations}
use Rattle.k_optab.proofs.Trees.{operations-append}
use Rattle.k_ending.specs.declared.ending.End.{End}
use Rattle.k_world.specs.Operands.{sources}
use Rattle.k_code.specs.declared.instruction.Instr.{Instr}
use Rattle.k_code.specs.Named.{operands}
use Rattle.k_code.specs.Runs.{run_of, world_of}
use Rattle.k_code.specs.Steps.{Configuration, Run, reads_of}
use Rattle.k_hcpa_store.specs.Kept.{Kept, configuration_of}
use Rattle.k_carry_pairs.specs.declared.origin.Origin.{Origin}
use Rattle.k_carry_pairs.specs.Carried.{IsAmong, is_loop_at}
use Rattle.k_carry_pairs.specs.Gathered.{AreOrigins, Gathered, Gathers, left, left_of, loop_entered}
use Rattle.k_carry_pairs.proofs.Behind.{entered_gathers, left_gathers, operation_gathers}
use Rattle.k_carry_pairs.proofs.Events.{entered_operations, left_operations, made_operations}
use Rattle.k_carry.specs.declared.advance.Happened.{Happened}
use Rattle.k_carry.specs.declared.advance.Made.{Made}
use Rattle.k_carry.specs.declared.cited.Cited.{Cited}
use Rattle.k_carry.specs.declared.places.Places.{Places}
use Rattle.k_carry.specs.Noting.{IsNoted, IsNotedAll, all_left, gathered_entered, gathered_operation, made_after}
use Rattle.k_carry.specs.Running.{HasEnded, IsOfProgram, IsSetting, Searches, StandsBehind, Stepped, found_place, nowhere}
use Rattle.k_carry.specs.Sources.{ArePlaced, ArePlaces, IsPlaceOf, Setting, cited_numbers, one_number, operand_numbers, origin_numbers, unbroken}
use Rattle.k_carry.specs.Steps.{GoesOrEnds, entered_events, happened, operation_events}
use Rattle.k_carry.proofs.Citing.{all_numbers}
use Rattle.k_carry.proofs.Stepping.{dropped, dropped_left, ends, goes_on, made_is, nearer, none_told, told_at}

-- the numbers of unbroken sources are those that are listed
number_listed : (sources : List Src) (j : ℕ) → IsAmong j (unbroken sources) → ListsUnbroken sources j
number_listed [] j is = absurd is
number_listed (src ∷ sources) j is = by src.broken refl is (λ later. number_listed sources j later)
  where
    by : (b : Bool) → src.broken ≡ b → IsAmong j (if b then unbroken sources else src.number ∷ unbroken sources)
        → (IsAmong j (unbroken sources) → ListsUnbroken sources j) → ((src.number ≡ j) × (src.broken ≡ false)) ⊎ ListsUnbroken sources j
    by true broken among rest = inr (rest among)
    by false broken (inl here) rest = inl (here, broken)
    by false broken (inr later) rest = inr (rest later)

listed_number : (sources : List Src) (j : ℕ) → ListsUnbroken sources j → IsAmong j (unbroken sources)
listed_number [] j is = absurd is
listed_number (src ∷ sources) j is = by src.broken refl is (λ later. listed_number sources j later)
  where
    by : (b : Bool) → src.broken ≡ b → ((src.number ≡ j) × (src.broken ≡ false)) ⊎ ListsUnbroken sources j
        → (ListsUnbroken sources j → IsAmong j (unbroken sources)) → IsAmong j (if b then unbroken sources else src.number ∷ unbroken sources)
    by true broken (inl here) rest = absurd (let wrong : true ≡ false = sym broken ∙ here.1 in cc wrong)
    by true broken (inr later) rest = rest later
    by false broken (inl here) rest = inl here.0
    by false broken (inr later) rest = inr (rest later)

-- the numbers of operations with their places
origin_number : (origins : List Origin) (x : Origin) → IsAmong x origins → IsAmong x.number (origin_numbers origins)
origin_number [] x is = absurd is
origin_number (y ∷ origins) x (inl here) = inl (ap (λ (z : Origin). z.number) here)
origin_number (y ∷ origins) x (inr later) = inr (origin_number origins x later)

number_origin : (origins : List Origin) (j : ℕ) → IsAmong j (origin_numbers origins) → (x : Origin) × IsAmong x origins × (x.number ≡ j)
number_origin [] j is = absurd is
number_origin (y ∷ origins) j (inl here) = (y, inl refl, here)
number_origin (y ∷ origins) j (inr later) = (let rest = number_origin origins j later in (rest.0, inr rest.1, rest.2))

among_index : (origins : List Origin) (x : Origin) → IsAmong x origins → (k : ℕ) × (slice_get origins k ≡ Some x)
among_index [] x is = absurd is
among_index (y ∷ origins) x (inl here) = (zero, ap (λ (z : Origin). Some z) here)
among_index (y ∷ origins) x (inr later) = (let rest = among_index origins x later in (suc rest.0, rest.1))

-- so many instances are left
all_left_gathers : (events : List Event) (made n : ℕ) (g : Gathered) → made ≡ length (operations events) → Gathers events g → Gathers (events ++ replicate n Exit) (all_left made n g)
all_left_gathers events made zero g same is = subst (λ (es : List Event). Gathers es g) (sym (append-nil events)) is
all_left_gathers events made (suc n) g same is =
    subst (λ (es : List Event). Gathers es (all_left made n (left made g))) (append_assoc events (Exit ∷ []) (replicate n Exit))
    (all_left_gathers (events ++ Exit ∷ []) made n (left made g) (same ∙ sym (ap (λ (ops : List Operation). length ops) (left_operations events)))
    (left_gathers events made g same is))

-- exits make no operation
exits_none : (events : List Event) (n : ℕ) → length (operations (events ++ replicate n Exit)) ≡ length (operations events)
exits_none events zero = ap (λ (es : List Event). length (operations es)) (append-nil events)
exits_none events (suc n) =
    ap (λ (es : List Event). length (operations es)) (sym (append_assoc events (Exit ∷ []) (replicate n Exit)))
    ∙ (exits_none (events ++ Exit ∷ []) n ∙ ap (λ (ops : List Operation). length ops) (left_operations events))

-- what is gathered is told of one program
operation_of_program : (s : Setting) (origins : List Origin) (place : Place) (operation : Option Made) (g : Gathered) → IsOfProgram s g
    → IsOfProgram s (gathered_operation origins place operation g)
operation_of_program s origins place None g of = of
operation_of_program s origins place (Some m) g of = record { regions = of.regions; depth = of.depth }

pub entered_of_program : (s : Setting) (number : ℕ) (region : Option ℕ) (g : Gathered) → IsOfProgram s g → IsOfProgram s (gathered_entered number region g)
entered_of_program s number None g of = of
entered_of_program s number (Some region) g of = by (nat_lt (length g.opened) g.depth && is_loop_at g.regions region)
  where
    by : (b : Bool) → IsOfProgram s (if b then loop_entered region number g else record g { opened = region ∷ g.opened })
    by true = record { regions = of.regions; depth = of.depth }
    by false = record { regions = of.regions; depth = of.depth }

one_left_of_program : (s : Setting) (number : ℕ) (g : Gathered) → IsOfProgram s g → IsOfProgram s (left number g)
one_left_of_program s number g of = by g.opened
  where
    by : (opened : List ℕ) → IsOfProgram s (left_of number opened g)
    by [] = of
    by (region ∷ outer) = record { regions = of.regions; depth = of.depth }

left_of_program : (s : Setting) (number n : ℕ) (g : Gathered) → IsOfProgram s g → IsOfProgram s (all_left number n g)
left_of_program s number zero g of = of
left_of_program s number (suc n) g of = left_of_program s number n (left number g) (one_left_of_program s number g of)

-- what stands behind the front of a list
get_here : {X : Type 0} (xs ys : List X) (y : X) → slice_get (xs ++ y ∷ ys) (length xs) ≡ Some y
get_here [] ys y = refl
get_here (x ∷ xs) ys y = get_here xs ys y

module _ (s : Setting) (events : List Event) (k : Kept) (set : IsSetting s) (here : StandsBehind s events k) (i : Instr) (class : Class) where
  abbrev c : Configuration
  c = configuration_of k

  abbrev made : ℕ
  made = c.world.made

  abbrev sources_with : Made → List Src
  sources_with m = sources (reads_of c i.act) m.hidden m.control

  -- what is cited is what the operation depends on
  origins_are : (m : Made) (cited : List Cited) (origins : List Origin) → cited_numbers cited ≡ operand_numbers c (operands i.act)
      → origin_numbers origins ≡ cited_numbers cited ++ (one_number m.hidden ++ one_number m.control) → ArePlaced s origins → AreOrigins events (sources_with m) origins
  origins_are m cited origins reads numbers placed = record {
    listed = λ x among. number_listed (sources_with m) x.number (subst (λ (all : List ℕ). IsAmong x.number all) same (origin_number origins x among));
    placed = λ x op among found. place x op (among_index origins x among) found;
    all = λ j listed. number_origin origins j (subst (λ (all : List ℕ). IsAmong j all) (sym same) (listed_number (sources_with m) j listed));
  }
    where
      same : origin_numbers origins ≡ unbroken (sources_with m)
      same =
          numbers ∙ (ap (λ (front : List ℕ). front ++ (one_number m.hidden ++ one_number m.control)) reads
          ∙ sym (all_numbers (reads_of c i.act) m.hidden m.control))

      place : (x : Origin) (op : Operation) → (n : ℕ) × (slice_get origins n ≡ Some x) → slice_get (operations events) x.number ≡ Some op → op.place ≡ x.place
      place x op at found =
          placed at.0 x at.1 here.count op
          (ap (λ (r : Run). slice_get (operations (world_of r).events) x.number) here.run ∙ found)

  -- behind the operation
  operation_noted : (operation : Option Made) (cited : List Cited) (g between : Gathered) → cited_numbers cited ≡ operand_numbers c (operands i.act)
      → IsNoted s cited i.place operation g between → Gathers events g → Gathers (events ++ operation_events class i c operation) between
  operation_noted None cited g between reads noted is =
      subst (λ (es : List Event). Gathers es between) (sym (append-nil events)) (subst (λ (x : Gathered). Gathers events x) (sym noted.is) is)
  operation_noted (Some m) cited g between reads noted is =
      subst (λ (x : Gathered). Gathers (events ++ operation_events class i c (Some m)) x) (sym noted.is)
      (operation_gathers events class i.latency (sources_with m) i.place noted.origins g is (origins_are m cited noted.origins reads noted.numbers noted.placed))

  -- so many operations were made then
  pub made_then : (operation : Option Made) → made_after made operation ≡ length (operations (events ++ operation_events class i c operation))
  made_then None =
      made_is s events k set here ∙ ap (λ (es : List Event). length (operations es)) (sym (append-nil events))
  made_then (Some m) =
      omega (
        arith,
        made_is s events k set here,
        ap (λ (ops : List Operation). length ops) (made_operations events class i.latency (sources_with m) i.place),
        length_push (operations events) (record { class = class; latency = i.latency; sources = sources_with m; place = i.place }),
      )

  -- behind an instance that is entered
  entered_noted : (es : List Event) (number : ℕ) (region : Option ℕ) (g : Gathered) → number ≡ length (operations es) → Gathers es g → Gathers (es ++ entered_events region) (gathered_entered number region g)
  entered_noted es number None g same is = subst (λ (all : List Event). Gathers all g) (sym (append-nil es)) is
  entered_noted es number (Some region) g same is = entered_gathers es region number g same is

  entered_then : (es : List Event) (region : Option ℕ) → length (operations (es ++ entered_events region)) ≡ length (operations es)
  entered_then es None = ap (λ (all : List Event). length (operations all)) (append-nil es)
  entered_then es (Some region) = ap (λ (ops : List Operation). length ops) (entered_operations es region)

  -- behind all that happened
  pub all_noted : (h : Happened) (cited : List Cited) (g g' : Gathered) → cited_numbers cited ≡ operand_numbers c (operands i.act)
      → IsNotedAll s cited made i.place h g g' → Gathers events g → Gathers (events ++ happened class i c h) g'
  all_noted h cited g g' reads noted is =
      let one : List Event = events ++ operation_events class i c h.operation in
      let two : List Event = one ++ entered_events h.entered in
      let number : ℕ = made_after made h.operation in
      let first : Gathers one noted.between = operation_noted h.operation cited g noted.between reads noted.operation is in
      let second : Gathers two (gathered_entered number h.entered noted.between) = entered_noted one number h.entered noted.between (made_then h.operation) first in
      let third : Gathers (two ++ replicate h.left Exit) (all_left number h.left (gathered_entered number h.entered noted.between)) =
      all_left_gathers two number h.left (gathered_entered number h.entered noted.between) (made_then h.operation ∙ sym (entered_then one h.entered)) second in
      subst (λ (x : Gathered). Gathers (events ++ happened class i c h) x) (sym noted.is)
      (subst (λ (all : List Event). Gathers all (all_left number h.left (gathered_entered number h.entered noted.between)))
      (append_assoc one (entered_events h.entered) (replicate h.left Exit) ∙ append_assoc events (operation_events class i c h.operation) (entered_events h.entered ++ replicate h.left Exit)) third)

  -- it is told of the same program
  noted_of : (h : Happened) (cited : List Cited) (g g' : Gathered) → IsNotedAll s cited made i.place h g g' → IsOfProgram s g → IsOfProgram s g'
  noted_of h cited g g' noted of =
      subst (λ (x : Gathered). IsOfProgram s x) (sym noted.is)
      (left_of_program s (made_after made h.operation) h.left (gathered_entered (made_after made h.operation) h.entered noted.between)
      (entered_of_program s (made_after made h.operation) h.entered noted.between
      (subst (λ (x : Gathered). IsOfProgram s x) (sym noted.operation.is) (operation_of_program s noted.operation.origins i.place h.operation g of))))

  -- so many operations are there behind it
  pub happened_made : (h : Happened) → length (operations (events ++ happened class i c h)) ≡ made_after made h.operation
  happened_made h =
      let one : List Event = events ++ operation_events class i c h.operation in
      ap (λ (es : List Event). length (operations es))
      (sym (append_assoc one (entered_events h.entered) (replicate h.left Exit) ∙ append_assoc events (operation_events class i c h.operation) (entered_events h.entered ++ replicate h.left Exit)))
      ∙ (exits_none (one ++ entered_events h.entered) h.left ∙ (entered_then one h.entered ∙ sym (made_then h.operation)))

  -- the operation that was made is told
  pub new_told : (h : Happened) (n : ℕ) → (world_of (run_of s.code s.input s.budget n)).events ≡ events ++ happened class i c h
      → (m : Made) → h.operation ≡ Some m → IsPlaceOf s made i.place
  new_told h n are m is =
      let op : Operation = record { class = class; latency = i.latency; sources = sources_with m; place = i.place } in
      let rest : List Event = entered_events h.entered ++ replicate h.left Exit in
      let all : events ++ happened class i c h ≡ events ++ (operation_events class i c (Some m) ++ rest) =
      ap (λ (o : Option Made). events ++ (operation_events class i c o ++ rest)) is in
      let ops : operations (world_of (run_of s.code s.input s.budget n)).events ≡ operations events ++ op ∷ operations rest =
      ap (λ (es : List Event). operations es) (are ∙ all) ∙ operations-append events (operation_events class i c (Some m) ++ rest) in
      told_at s n made op i.place
      (ap (λ (list : List Operation). slice_get list made) ops
      ∙ (ap (λ (j : ℕ). slice_get (operations events ++ op ∷ operations rest) j) (made_is s events k set here) ∙ get_here (operations events) (operations rest) op)) refl

  -- the step of the run
  pub stepped : (h : Happened) (k' k'' : Kept) (cited : List Cited) (g g' : Gathered) (p' : Places)
      → GoesOrEnds k (happened class i c h) h.end k'
      → k''.code ≡ k'.code → configuration_of k'' ≡ record (configuration_of k') { world = record (configuration_of k').world { output = [] } }
      → cited_numbers cited ≡ operand_numbers c (operands i.act) → IsNotedAll s cited made i.place h g g' → Gathers events g → IsOfProgram s g
      → (((m : Made) → h.operation ≡ Some m → IsPlaceOf s made i.place) → ArePlaces s p')
      → Stepped s k h.end k'' g' p'
  stepped h k' k'' cited g g' p' goes code dropping reads noted is of places = by h.end goes
    where
      by : (e : Option End) → GoesOrEnds k (happened class i c h) e k' → Stepped s k e k'' g' p'
      by None on =
          let next : StandsBehind s (events ++ happened class i c h) k' = goes_on s events k set here class i h k' on in
          let last : StandsBehind s (events ++ happened class i c h) k'' = dropped s (events ++ happened class i c h) k' set next k'' code dropping in (
            record {
              events = events ++ happened class i c h;
              stands = last;
              gathers = all_noted h cited g g' reads noted is;
              of = noted_of h cited g g' noted of;
              places = places (new_told h next.count (ap (λ (r : Run). (world_of r).events) next.run));
            },
            omega (arith, dropped_left k' k'' code dropping, nearer s events k set here (happened class i c h) k' on),
          )
      by (Some end) over =
          (events ++ happened class i c h, ends s events k set here (happened class i c h) end over, all_noted h cited g g' reads noted is, noted_of h cited g g' noted of)

  -- so many operations are there where the operation that is looked for was not made
  made_low : (number : ℕ) (operation : Option Made) → made ≤ number → (made ≡ number → operation ≡ None) → made_after made operation ≤ number
  made_low number None low none = low
  made_low number (Some m) low none = elim (cases_lt made number) [
    | inl less ↦ omega (arith, less)
    | inr same ↦ absurd (let at : made ≡ number = omega (arith, low, same) in let wrong : Some m ≡ None = none at in cc wrong)
  ]

  -- a search for an operation
  pub searched : (h : Happened) (k' k'' : Kept) (number : ℕ) → GoesOrEnds k (happened class i c h) h.end k'
      → k''.code ≡ k'.code → configuration_of k'' ≡ record (configuration_of k') { world = record (configuration_of k').world { output = [] } }
      → made ≤ number → Searches s k number (found_place (nat_eq made number) h.operation h.end i.place) k''
  searched h k' k'' number goes code dropping low = by (eqb_tells made number) h.operation refl h.end goes
    where
      whole : List Event
      whole = events ++ happened class i c h

      there : (e : Option End) → GoesOrEnds k (happened class i c h) e k' → (n : ℕ) × ((world_of (run_of s.code s.input s.budget n)).events ≡ whole)
      there None on =
          let next : StandsBehind s whole k' = goes_on s events k set here class i h k' on in
          (next.count, ap (λ (r : Run). (world_of r).events) next.run)
      there (Some end) over =
          let ended : HasEnded s whole end = ends s events k set here (happened class i c h) end over in
          (ended.count, ap (λ (r : Run). (world_of r).events) ended.run ∙ ended.events_are)

      -- the one that is looked for was not made
      not_yet : (made ≡ number → h.operation ≡ None) → (e : Option End) → GoesOrEnds k (happened class i c h) e k'
          → Searches s k number (elim e as (λ _. Option Place) [ None ↦ None | Some end ↦ Some nowhere ]) k''
      not_yet none None on =
          let next : StandsBehind s whole k' = goes_on s events k set here class i h k' on in
          let last : StandsBehind s whole k'' = dropped s whole k' set next k'' code dropping in
          let count : (configuration_of k'').world.made ≡ length (operations whole) = made_is s whole k'' set last in (
            (whole, last),
            omega (arith, count, happened_made h, made_low number h.operation low none),
            omega (arith, dropped_left k' k'' code dropping, nearer s events k set here (happened class i c h) k' on),
          )
      not_yet none (Some end) over =
          let ended : HasEnded s whole end = ends s events k set here (happened class i c h) end over in
          none_told s ended.count number end ended.world nowhere ended.run
          (omega (arith, ap (λ (es : List Event). length (operations es)) ended.events_are, happened_made h, made_low number h.operation low none))

      by : ((nat_eq made number ≡ true) × (made ≡ number)) ⊎ ((nat_eq made number ≡ false) × (made ≢ number)) → (o : Option Made) → h.operation ≡ o
          → (e : Option End) → GoesOrEnds k (happened class i c h) e k' → Searches s k number (found_place (nat_eq made number) o e i.place) k''
      by (inl same) (Some m) is e goes =
          let at = there e goes in
          subst (λ (b : Bool). Searches s k number (found_place b (Some m) e i.place) k'') (sym same.0)
          (subst (λ (n : ℕ). IsPlaceOf s n i.place) same.1 (new_told h at.0 at.1 m is))
      by (inl same) None is None goes =
          subst (λ (b : Bool). Searches s k number (found_place b None None i.place) k'') (sym same.0) (not_yet (λ _. is) None goes)
      by (inl same) None is (Some end) goes =
          subst (λ (b : Bool). Searches s k number (found_place b None (Some end) i.place) k'') (sym same.0) (not_yet (λ _. is) (Some end) goes)
      by (inr other) o is None goes =
          subst (λ (b : Bool). Searches s k number (found_place b o None i.place) k'') (sym other.0) (not_yet (λ same. absurd (other.1 same)) None goes)
      by (inr other) o is (Some end) goes =
          subst (λ (b : Bool). Searches s k number (found_place b o (Some end) i.place) k'') (sym other.0) (not_yet (λ same. absurd (other.1 same)) (Some end) goes)
