-- Where a run stands behind one instruction more, and what is told where it has ended.
use Rattle.std.proofs.Common.{ℕ, suc, ◌≡◌, ◌+◌, ◌≤◌, nat_lt, Bool, true, false, List, [], ◌∷◌, ◌++◌, length, map, slice_get, Option, Some, None, Result, Ok, Err, arith, refl, sym, subst, ap, ◌∙◌}
use Rattle.std.specs.Prelude.{if◌then◌else◌, replicate, IfOk}
use Rattle.std.proofs.lemmas.List.{append_assoc, append-nil}
use Rattle.std.proofs.lemmas.Result.{IfOk-weaker}
use Rattle.k_num.specs.declared.memory.NoMemory.{NoMemory}
use Rattle.k_optab.specs.declared.class.Class.{Class}
use Rattle.k_optab.specs.declared.event.Event.{Event}
use Rattle.k_optab.specs.declared.event.Event.TheVariants.{Enter, Exit}
use Rattle.k_optab.specs.Events.{Operation, operations}
use Rattle.k_optab.specs.Open.{open_after}
use Rattle.k_ending.specs.declared.ending.End.{End}
use Rattle.k_mem.specs.declared.pointer.Pointer.{Pointer}
use Rattle.k_world.specs.declared.answer.Stop.TheVariants as stop
use Rattle.k_world.specs.Operands.{sources}
use Rattle.k_world.specs.Worlds.{World}
use Rattle.k_code.specs.declared.code.Code.{Code}
use Rattle.k_code.specs.declared.code.CodeFunc.{CodeFunc}
use Rattle.k_code.specs.declared.instruction.Instr.{Instr}
use Rattle.k_code.specs.Runs.{run_of, world_of}
use Rattle.k_code.specs.Steps.{Configuration, Run, Going, Over, reads_of, step}
use Rattle.k_code.specs.Telling.{telling_of, untold, untold_run}
use Rattle.k_code.proofs.Telling.{telling_changes_nothing}
use Rattle.k_hcpa_meaning.specs.Behind.{behind_all, world_behind}
use Rattle.k_hcpa_store.specs.Kept.{Kept as StoreKept, configuration_of}
use Rattle.k_hcpa_store.specs.Leads.{IsNext, Starts}
use Rattle.k_hcpa_traced.specs.Laws.{IsBounded}
use Rattle.k_hcpa_traced.proofs.Running.{worlds_are_bounded}
use Rattle.k_carry_pairs.specs.declared.origin.Origin.{Origin}
use Rattle.k_carry_pairs.proofs.Events.{entered_operations}
use Rattle.k_carry.specs.declared.advance.Happened.{Happened}
use Rattle.k_carry.specs.declared.advance.Made.{Made}
use Rattle.k_carry.specs.Noting.{made_after}
use Rattle.k_carry.specs.Running.{IsSetting, StandsBehind}
use Rattle.k_carry.specs.Sources.{Setting}
use Rattle.k_carry.specs.Steps.{GoesOrEnds, entered_events, happened, operation_events}
use Rattle.k_carry.proofs.Noticing.{happened_made, made_then}
use Rattle.k_carry.proofs.Stepping.{dropped_left, made_is, nearer, next_run, open_happened}
use Rattle.k_carry_storage_pairs.specs.declared.access.Access.{Access}
use Rattle.k_carry_storage_pairs.specs.declared.pairs.LoopStorage.{LoopStorage}
use Rattle.k_carry_storage_pairs.specs.Accesses.{access_of}
use Rattle.k_carry_storage_pairs.specs.Deep.{AreDeep}
use Rattle.k_carry_storage_pairs.specs.Kept.{Keeps, Kept, Knows, both_entered, none_shared}
use Rattle.k_carry_storage_pairs.specs.Storage.{AreShared, access}
use Rattle.k_carry_storage_pairs.proofs.Keeping.{keeps_nothing, storage_is_shared}
use Rattle.k_carry_storage.specs.declared.table.Table.{Table}
use Rattle.k_carry_storage.specs.declared.told.StorageTold.{StorageTold}
use Rattle.k_carry_storage.specs.Accesses.{access_by, accesses_of}
use Rattle.k_carry_storage.specs.Answer.{TellsAllOf}
use Rattle.k_carry_storage.specs.Noting.{IsNotedAll, IsNotedMade, all_left, entered_if}
use Rattle.k_carry_storage.specs.Running.{IsKept, IsOver, IsToldOf, Stepped}
use Rattle.k_carry_storage.specs.Tables.{kept_at}
use Rattle.k_carry_storage.proofs.Knowing.{Stays, all_left_stays, entered_stays, operation_stays}
use Rattle.k_carry_storage.proofs.Telling.{access_at, accesses_next, accesses_none, next_access}

-- the access of the operation that an instruction made, if it made one
abbrev told : Option Made → Option Access → List (Option Access)
told None made = []
told (Some m) made = made ∷ []

-- whether an operation was made shows at how many were
told_is : (made : ℕ) (operation : Option Made) (acc : Option Access)
    → (if nat_lt made (made_after made operation) then acc ∷ [] else []) ≡ told operation acc
told_is made None acc = (let test : nat_lt made made ≡ false = grind arith in ap (λ (b : Bool). if b then acc ∷ [] else []) test)
told_is made (Some m) acc = (let test : nat_lt made (made + 1) ≡ true = grind arith in ap (λ (b : Bool). if b then acc ∷ [] else []) test)

module _ (s : Setting) (events : List Event) (k : StoreKept) (set : IsSetting s) (here : StandsBehind s events k) (i : Instr) (next : IsNext k i) (class : Class) where
  abbrev c : Configuration
  c = configuration_of k

  abbrev now : Configuration
  now = behind_all events here.taken c

  abbrev acc : Option Access
  acc = access_by i.act (reads_of c i.act)

  abbrev before : List (Option Access)
  before = accesses_of s.code s.input s.budget here.count

  -- the accesses of the run behind the instruction
  accesses_are : (h : Happened) → (world_of (run_of s.code s.input s.budget (suc here.count))).events ≡ events ++ happened class i c h
      → before ++ told h.operation acc ≡ accesses_of s.code s.input s.budget (suc here.count)
  accesses_are h are =
      let bounded : IsBounded s.budget (world_of (run_of s.code s.input s.budget (suc here.count))) = worlds_are_bounded s.code set.valid s.input s.budget (suc here.count) in
      let made : (world_of (step s.code (Going now))).made ≡ made_after c.world.made h.operation =
      sym (ap (λ (r : Run). (world_of (step s.code r)).made) here.run)
      ∙ (sym bounded.made
      ∙ (ap (λ (es : List Event). length (operations es)) are ∙ happened_made s events k set here i class h)) in
      let at : slice_get s.code.instrs c.pc ≡ Some i = ap (λ (code : Code). slice_get code.instrs c.pc) (sym here.code) ∙ next.is in
      sym (accesses_next s.code s.input s.budget here.count
      ∙ (ap (λ (r : Run). before ++ next_access s.code r) here.run
      ∙ ((λ j. before ++ (if nat_lt c.world.made (made j) then access_at now (at j) ∷ [] else []))
      ∙ ap (λ (those : List (Option Access)). before ++ those) (told_is c.world.made h.operation acc))))

  module _ (g : Kept) (loads stores : Table) (is : Stays s.code.regions s.depth events before g loads stores) where
    -- behind the operation
    made_stays : (operation : Option Made) (x : Origin) (g' : Kept) (loads' stores' : Table) → x ≡ record { number = length (operations events); place = i.place }
        → IsNotedMade operation acc x g g' loads loads' stores stores'
        → Stays s.code.regions s.depth (events ++ operation_events class i c operation) (before ++ told operation acc) g' loads' stores'
    made_stays None x g' loads' stores' origin it =
        subst (λ (es : List Event). Stays s.code.regions s.depth es (before ++ []) g' loads' stores') (sym (append-nil events))
        (subst (λ (those : List (Option Access)). Stays s.code.regions s.depth events those g' loads' stores') (sym (append-nil before))
        (subst (λ (y : Kept). Stays s.code.regions s.depth events before y loads' stores') (sym it.gathering)
        (subst (λ (t : Table). Stays s.code.regions s.depth events before g t stores') (sym it.loads_are)
        (subst (λ (t : Table). Stays s.code.regions s.depth events before g loads t) (sym it.stores_are) is))))
    made_stays (Some m) x g' loads' stores' origin it =
        operation_stays s.code.regions s.depth events before g loads stores is class i.latency (sources (reads_of c i.act) m.hidden m.control) i.place acc g' loads' stores'
        (subst (λ (y : Origin). IsNotedMade (Some m) acc y g g' loads loads' stores stores') origin it)

    -- behind an instance that is entered
    enters_stays : (es : List Event) (those : List (Option Access)) (number : ℕ) (region : Option ℕ) (x : Kept) (l t : Table) → number ≡ length (operations es)
        → Stays s.code.regions s.depth es those x l t → Stays s.code.regions s.depth (es ++ entered_events region) those (entered_if number region x) l t
    enters_stays es those number None x l t same stays = subst (λ (all : List Event). Stays s.code.regions s.depth all those x l t) (sym (append-nil es)) stays
    enters_stays es those number (Some region) x l t same stays = entered_stays s.code.regions s.depth es those x l t stays region number same

    entered_then : (es : List Event) (region : Option ℕ) → length (operations (es ++ entered_events region)) ≡ length (operations es)
    entered_then es None = ap (λ (all : List Event). length (operations all)) (append-nil es)
    entered_then es (Some region) = ap (λ (ops : List Operation). length ops) (entered_operations es region)

    -- behind all that happened
    all_stays : (h : Happened) (x : Origin) (g' : Kept) (loads' stores' : Table) → x ≡ record { number = length (operations events); place = i.place }
        → IsNotedAll acc x h g g' loads loads' stores stores'
        → Stays s.code.regions s.depth (events ++ happened class i c h) (before ++ told h.operation acc) g' loads' stores'
    all_stays h x g' loads' stores' origin noted =
        let one : List Event = events ++ operation_events class i c h.operation in
        let two : List Event = one ++ entered_events h.entered in
        let number : ℕ = made_after x.number h.operation in
        let counted : number ≡ length (operations one) =
        ap (λ (y : Origin). made_after y.number h.operation) origin
        ∙ (ap (λ (n : ℕ). made_after n h.operation) (sym (made_is s events k set here)) ∙ made_then s events k set here i class h.operation) in
        let first : Stays s.code.regions s.depth one (before ++ told h.operation acc) noted.between loads' stores' =
        made_stays h.operation x noted.between loads' stores' origin noted.operation in
        let second : Stays s.code.regions s.depth two (before ++ told h.operation acc) (entered_if number h.entered noted.between) loads' stores' =
        enters_stays one (before ++ told h.operation acc) number h.entered noted.between loads' stores' counted first in
        let third : Stays s.code.regions s.depth (two ++ replicate h.left Exit) (before ++ told h.operation acc) (all_left number h.left (entered_if number h.entered noted.between)) loads' stores' =
        all_left_stays s.code.regions s.depth two (before ++ told h.operation acc) loads' stores' number h.left (entered_if number h.entered noted.between)
        (counted ∙ sym (entered_then one h.entered)) second in
        subst (λ (y : Kept). Stays s.code.regions s.depth (events ++ happened class i c h) (before ++ told h.operation acc) y loads' stores') (sym noted.is)
        (subst (λ (all : List Event). Stays s.code.regions s.depth all (before ++ told h.operation acc) (all_left number h.left (entered_if number h.entered noted.between)) loads' stores')
        (append_assoc one (entered_events h.entered) (replicate h.left Exit) ∙ append_assoc events (operation_events class i c h.operation) (entered_events h.entered ++ replicate h.left Exit)) third)

    -- the step of the run
    pub stepped : (h : Happened) (k' k'' : StoreKept) (x : Origin) (g' : Kept) (loads' stores' : Table) → GoesOrEnds k (happened class i c h) h.end k'
        → k''.code ≡ k'.code → configuration_of k'' ≡ record (configuration_of k') { world = record (configuration_of k').world { output = [] } }
        → x ≡ record { number = length (operations events); place = i.place } → IsNotedAll acc x h g g' loads loads' stores stores' → Stepped s k h.end k'' g' loads' stores'
    stepped h k' k'' x g' loads' stores' goes code dropping origin noted = by h.end goes
      where
        whole : List Event
        whole = events ++ happened class i c h

        stays : (world_of (run_of s.code s.input s.budget (suc here.count))).events ≡ events ++ happened class i c h
            → Stays s.code.regions s.depth (events ++ happened class i c h) (accesses_of s.code s.input s.budget (suc here.count)) g' loads' stores'
        stays are =
            subst (λ (those : List (Option Access)). Stays s.code.regions s.depth (events ++ happened class i c h) those g' loads' stores') (accesses_are h are)
            (all_stays h x g' loads' stores' origin noted)

        by : (e : Option End) → GoesOrEnds k (happened class i c h) e k' → Stepped s k e k'' g' loads' stores'
        by None on =
            let run : run_of s.code s.input s.budget (suc here.count) ≡ Going (behind_all (events ++ happened class i c h) here.taken (configuration_of k')) =
            next_run s events k set here (happened class i c h) k' on in
            let all = stays (ap (λ (r : Run). (world_of r).events) run) in
            let after : Configuration = behind_all (events ++ happened class i c h) here.taken (configuration_of k') in
            let output : List ℕ = (configuration_of k').world.output in
            let opened : length (open_after (events ++ happened class i c h)) ≤ length (open_after events) + 1 = open_happened events class i c h in (
              record {
                events = events ++ happened class i c h;
                stands = record {
                  count = suc here.count;
                  taken = here.taken ++ output;
                  code = code ∙ (on.0 ∙ here.code);
                  run = run
                      ∙ ap (λ (x : Configuration). Going x)
                      ((λ j. record after { world = record after.world { output = sym (append-nil (here.taken ++ output)) j } })
                      ∙ ap (λ (x : Configuration). behind_all (events ++ happened class i c h) (here.taken ++ output) x) (sym dropping));
                  opened = omega (arith, here.opened, opened);
                };
                keeps = all.keeps;
                knows = all.knows;
              },
              omega (arith, dropped_left k' k'' code dropping, nearer s events k set here (happened class i c h) k' on),
            )
        by (Some end) over =
            let run : run_of s.code s.input s.budget (suc here.count) ≡ Over end (world_behind (events ++ happened class i c h) here.taken over.0) =
            ap (step s.code) here.run ∙ (ap (λ (code : Code). step code (Going now)) (sym here.code) ∙ over.1 events here.taken) in
            let all = stays (ap (λ (r : Run). (world_of r).events) run) in
            record {
              count = suc here.count;
              world = world_behind (events ++ happened class i c h) here.taken over.0;
              run = run;
              keeps = all.keeps;
            }

-- a run in which nothing is told has ended: so has that which tells
told_over : (end : End) (w : World) (r : Run) → untold_run r ≡ Over end w
    → (r ≡ Over end (world_of r)) × ((world_of r).events ≡ w.events) × ((world_of r).output ≡ w.output)
told_over end w (Going c) is = absurd (cc is)
told_over end w (Over e v) is =
    let ends : e ≡ end = cc is in
    let same : untold v ≡ w = cc is in
    (ap (λ (f : End). Over f v) ends, ap (λ (x : World). x.events) same, ap (λ (x : World). x.output) same)

-- what is told where a run has ended
tells : (s : Setting) (g : Kept) (end : End) (t : StorageTold) → IsOver s g end → IsToldOf g end t → TellsAllOf s.code s.input s.budget s.depth t
unfolding accesses_of
tells s g end t is told =
    let r : Run = telling_of s.code s.input s.budget is.count in
    let over = told_over end is.world r (sym (telling_changes_nothing s.code s.input s.budget is.count) ∙ is.run) in
    record {
      pairs = record {
        deeds = (world_of r).deeds;
        events = is.world.events;
        output = is.world.output;
        outcome = record {
          count = is.count;
          world = world_of r;
          is = over.0 ∙ ap (λ (e : End). Over e (world_of r)) (sym told.ends);
          deeds_are = refl;
          events_are = over.1;
          output_is = over.2;
        };
        shared =
            subst (λ (loops : List LoopStorage). AreShared s.code.regions s.depth is.world.events (map access_of (world_of r).deeds) loops) (sym told.loops)
            (storage_is_shared s.code.regions s.depth is.world.events (map access_of (world_of r).deeds) g is.keeps);
      };
      deep = subst (λ (deep : List Bool). AreDeep s.depth is.world.events deep) (sym told.deep) (let keeps = is.keeps in keeps.deep);
    }

pub all_told : (s : Setting) (g : Kept) (end : End) (r : Result StorageTold NoMemory) → IsOver s g end → IfOk r (λ t. IsToldOf g end t)
    → IfOk r (λ t. TellsAllOf s.code s.input s.budget s.depth t)
all_told s g end r is told = IfOk-weaker r (λ t. IsToldOf g end t) (λ t. TellsAllOf s.code s.input s.budget s.depth t) (λ t one. tells s g end t is one) told

-- a run that ends at once
pub over_at_once : (s : Setting) (g : Kept) (end : End) → g ≡ none_shared s.code.regions s.depth → Starts s.code s.input s.budget (Err (stop.Ended end)) → IsOver s g end
over_at_once s g end none starts = record {
  count = 0;
  world = starts.0;
  run = starts.3;
  keeps = subst (λ (x : Kept). Keeps s.code.regions s.depth starts.0.events (accesses_of s.code s.input s.budget 0) x) (sym none)
      (subst (λ (es : List Event). Keeps s.code.regions s.depth es (accesses_of s.code s.input s.budget 0) (none_shared s.code.regions s.depth)) (sym starts.1)
      (subst (λ (those : List (Option Access)). Keeps s.code.regions s.depth [] those (none_shared s.code.regions s.depth)) (sym (accesses_none s.code s.input s.budget))
      (keeps_nothing s.code.regions s.depth)));
}

-- nothing is known of no events
knows_nothing : (depth : ℕ) (a : Access) → Knows depth [] [] a []
knows_nothing depth a = record {
  sound = λ x among. absurd among;
  complete = λ o at op alive shallow lies made first. absurd alive;
}

-- what is kept of a run that begins with main's instance
pub begins_kept : (s : Setting) (k : StoreKept) (f : CodeFunc) (g g' : Kept) (loads stores : Table) → IsSetting s → Starts s.code s.input s.budget (Ok k)
    → slice_get s.code.funcs s.code.main ≡ Some f → g ≡ none_shared s.code.regions s.depth → g' ≡ both_entered f.region 0 g
    → ((element : Pointer) → kept_at loads element ≡ []) → ((element : Pointer) → kept_at stores element ≡ []) → IsKept s k g' loads stores
begins_kept s k f g g' loads stores set starts main none entered no_loads no_stores =
    let same : g' ≡ entered_if 0 (Some f.region) (none_shared s.code.regions s.depth) = entered ∙ ap (λ (x : Kept). both_entered f.region 0 x) none in
    let nothing : Stays s.code.regions s.depth [] [] (none_shared s.code.regions s.depth) loads stores = record {
      keeps = keeps_nothing s.code.regions s.depth;
      knows = record {
        of_loads = λ element. subst (λ (list : _). Knows s.depth [] [] (access false element) list) (sym (no_loads element)) (knows_nothing s.depth (access false element));
        of_stores = λ element. subst (λ (list : _). Knows s.depth [] [] (access true element) list) (sym (no_stores element)) (knows_nothing s.depth (access true element));
      };
    } in
    let first : Stays s.code.regions s.depth (Enter f.region ∷ []) [] (entered_if 0 (Some f.region) (none_shared s.code.regions s.depth)) loads stores =
    entered_stays s.code.regions s.depth [] [] (none_shared s.code.regions s.depth) loads stores nothing f.region 0 refl in
    let all : Stays s.code.regions s.depth (Enter f.region ∷ []) (accesses_of s.code s.input s.budget 0) g' loads stores =
    subst (λ (those : List (Option Access)). Stays s.code.regions s.depth (Enter f.region ∷ []) those g' loads stores) (sym (accesses_none s.code s.input s.budget))
    (subst (λ (x : Kept). Stays s.code.regions s.depth (Enter f.region ∷ []) [] x loads stores) (sym same) first) in
    let one : length (open_after (Enter f.region ∷ [])) ≡ 1 = refl in
    record {
      events = Enter f.region ∷ [];
      stands = record { count = 0; taken = []; code = starts.0; run = starts.1 f main; opened = omega (arith, one) };
      keeps = all.keeps;
      knows = all.knows;
    }
