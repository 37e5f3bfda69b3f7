-- What a step tells of its operation: its access, and the sources that its event has.
use Rattle.std.proofs.Common.{ℕ, zero, suc, ◌≡◌, ◌+◌, nat_lt, Bool, true, false, List, [], ◌∷◌, ◌++◌, length, map, Option, Some, None, arith, refl, sym, subst, ap, ◌∙◌}
use Rattle.std.specs.Prelude.{if◌then◌else◌, replicate, slice_get}
use Rattle.std.proofs.lemmas.List.{append-nil, map-append}
use Rattle.k_num.specs.declared.initial.Initial.{Initial}
use Rattle.k_num.specs.declared.place.Place.{Place}
use Rattle.k_optab.specs.declared.class.Class.{Class}
use Rattle.k_optab.specs.declared.event.Event.{Event}
use Rattle.k_optab.specs.declared.event.Event.TheVariants.{Enter, Exit}
use Rattle.k_optab.specs.declared.event.Src.{Src}
use Rattle.k_optab.specs.Events.{Operation, operations}
use Rattle.k_optab.proofs.Trees.{operations-append}
use Rattle.k_ending.specs.declared.ending.End.TheVariants.{Trapped}
use Rattle.k_ending.specs.declared.ending.Trap.TheVariants.{StackOverflow}
use Rattle.k_mem.specs.declared.start.Start.TheVariants.{Unset, Zero}
use Rattle.k_mem.specs.Memory.{Memory}
use Rattle.k_mem.specs.Calls.{push_of}
use Rattle.k_world.specs.declared.act.Act.{Act}
use Rattle.k_world.specs.declared.value.Held.{Held}
use Rattle.k_world.specs.declared.value.Read.{Read}
use Rattle.k_world.specs.Acts.{hidden}
use Rattle.k_world.specs.Changes.{with_elements, with_string}
use Rattle.k_world.specs.Deeds.{Deed, deeds_behind}
use Rattle.k_world.specs.Operands.{sources, values_of}
use Rattle.k_world.specs.Operations.{Made, Gives, Ends, counted, event_of, operation}
use Rattle.k_world.specs.WorldLaws.{TellsDeed}
use Rattle.k_world.specs.Worlds.{World, fresh_telling}
use Rattle.k_world.proofs.Effects.{effect_frame}
use Rattle.k_world.proofs.Sound.{operation_cases, where_told}
use Rattle.k_code.specs.declared.code.Code.{Code}
use Rattle.k_code.specs.declared.code.CodeFunc.{CodeFunc}
use Rattle.k_code.specs.declared.code.CodeObject.{CodeObject}
use Rattle.k_code.specs.declared.code.CodeObject.TheVariants as object
use Rattle.k_code.specs.declared.instruction.Do.{Do}
use Rattle.k_code.specs.declared.instruction.Do.TheVariants as act
use Rattle.k_code.specs.declared.instruction.Home.TheVariants.{Local}
use Rattle.k_code.specs.declared.instruction.Instr.{Instr}
use Rattle.k_code.specs.Runs.{begun_with, main_called, or_limit, place_of, run_of, start_in, with_object, with_objects, world_of}
use Rattle.k_code.specs.Steps.{Configuration, Waiting, Run, Going, Over, alone, at_instruction, behind, by_kind, by_operation, called, entered, filled_with, handed_back, is_in_main, left_by, no_value, object_at, opened, operation_of, overflows, reads_of, returned, step}
use Rattle.k_code.specs.Telling.{telling_of, untold_run}
use Rattle.k_code.proofs.Telling.{KeepsDeeds, alone_tells, behind_tells, start_tells, step_untold, telling_changes_nothing}
use Rattle.k_hcpa_traced.proofs.Worlds.{exits_none}
use Rattle.k_carry_storage_pairs.specs.declared.access.Access.{Access}
use Rattle.k_carry_storage_pairs.specs.Accesses.{access_of, accessed_by, element_in}
use Rattle.k_carry_storage.specs.Accesses.{access_by, accesses_of, way_made}

-- NO OPERATION WAS MADE
record Still (before after : World) : Type 0 where
  made : after.made ≡ before.made
  operations : operations after.events ≡ operations before.events

still_not : (w : World) → Still w w
still_not w = record { made = refl; operations = refl }

-- behind events that are no operations
still_behind : (before after : World) (es : List Event) → after.made ≡ before.made → after.events ≡ before.events ++ es → operations es ≡ [] → Still before after
still_behind before after es made is none = record {
  made = made;
  operations =
      ap operations is ∙ (operations-append before.events es ∙ (ap (λ (ops : List Operation). operations before.events ++ ops) none
      ∙ append-nil (operations before.events)));
}

handed_still : (before w : World) (waiting : List Waiting) (slot : Option Held) → Still before w → Still before (world_of (handed_back waiting slot w))
handed_still before w [] slot still = still
handed_still before w (f ∷ waiting) slot still = still

returned_still : (code : Code) (slot : Option Held) (c : Configuration) → Still c.world (world_of (returned code slot c))
returned_still code slot c =
    handed_still c.world (left_by code c.frame c.world) c.waiting slot
    (still_behind c.world (left_by code c.frame c.world) (replicate (c.frame.regions + 1) Exit) refl refl (exits_none (c.frame.regions + 1)))

entered_still : (f : CodeFunc) (func : ℕ) (slots : List (Option Held)) (waiting : List Waiting) (w : World) → Still w (world_of (entered f func slots waiting w))
entered_still f func slots waiting w = still_behind w (world_of (entered f func slots waiting w)) (Enter f.region ∷ []) refl refl refl

either_still : (w : World) (b : Bool) (x y : Run) → Still w (world_of x) → Still w (world_of y) → Still w (world_of (if b then x else y))
either_still w true x y one two = one
either_still w false x y one two = two

called_still : (f : Option CodeFunc) (func : ℕ) (slots : List (Option Held)) (to : Option ℕ) (place : Place) (c : Configuration) → Still c.world (world_of (called f func slots to place c))
called_still None func slots to place c = still_not c.world
called_still (Some f) func slots to place c =
    let waiting : List Waiting = record { frame = c.frame; back = c.pc + 1; to = to } ∷ c.waiting in
    either_still c.world (overflows c.world f.size) (Over (Trapped StackOverflow place) c.world) (entered f func slots waiting c.world)
    (still_not c.world) (entered_still f func slots waiting c.world)

behind_still : (code : Code) (place : Place) (what : Do) (held : Held) (c : Configuration) → Still c.world (world_of (behind code place what held c))
unfolding behind
behind_still code place (act.Test a taken other to class) held c = still_not c.world
behind_still code place (act.Call func args to) held c =
    called_still (slice_get code.funcs func) func (map (λ (r : Read). r.slot) (reads_of c (act.Call func args to))) to place c
behind_still code place (act.Return value) held c = returned_still code (Some held) c
behind_still code place what held c = still_not c.world

opened_still : (place : Place) (c : Configuration) (elements : ℕ) (m : Option Memory) → Still c.world (world_of (opened place c (with_elements elements c.world m)))
opened_still place c elements None = still_not c.world
opened_still place c elements (Some m) = record { made = refl; operations = refl }

filled_still : (values : List Initial) (n : Option ℕ) (w : World) → Still w (filled_with values n w)
filled_still values None w = still_not w
filled_still values (Some n) w = record { made = refl; operations = refl }

alone_still : (code : Code) (place : Place) (what : Do) (c : Configuration) → Still c.world (world_of (alone code place what c))
unfolding alone
alone_still code place (act.Enter region) c = still_behind c.world (world_of (alone code place (act.Enter region) c)) (Enter region ∷ []) refl refl refl
alone_still code place act.Exit c = still_behind c.world (world_of (alone code place act.Exit c)) (Exit ∷ []) refl refl refl
alone_still code place (act.ObjectOpen elements) c = opened_still place c elements (push_of c.world.memory Unset elements)
alone_still code place (act.ObjectsClose count) c = record { made = refl; operations = refl }
alone_still code place (act.Fill local values) c = filled_still values (object_at (Local local) c) c.world
alone_still code place (act.Return value) c = returned_still code (no_value (is_in_main code c)) c
alone_still code place act.Back c = record { made = refl; operations = refl }
alone_still code place act.Restore c = record { made = refl; operations = refl }
alone_still code place what c = still_not c.world

-- no operation was made between the first and the last of three
still_on : (u v w : World) → Still u v → Still v w → Still u w
still_on u v w one two = record { made = two.made ∙ one.made; operations = two.operations ∙ one.operations }

-- nor where an object of the program was made, if it was
abbrev IfStill : World → Option World → Type 0
IfStill w None = Unit {0}
IfStill w (Some v) = Still w v

begun_still : (w : World) (first : List Initial) (number count : ℕ) (m : Option Memory) → IfStill w (begun_with first number (with_elements count w m))
begun_still w first number count None = tt
begun_still w first number count (Some m) = record { made = refl; operations = refl }

literal_still : (w : World) (count : ℕ) (m : Option Memory) → IfStill w (with_elements count w m)
literal_still w count None = tt
literal_still w count (Some m) = record { made = refl; operations = refl }

object_still : (o : CodeObject) (w : World) → IfStill w (with_object o w)
unfolding with_object
object_still (object.Plain elements first place) w = begun_still w first w.memory.made elements (push_of w.memory Zero elements)
object_still (object.Literal bytes place) w = literal_still w (length bytes) (with_string w.memory bytes)

limit_still : (place : Place) (w : World) (on : World → Run) (o : Option World) → IfStill w o → ((v : World) → Still w v → Still w (world_of (on v)))
    → Still w (world_of (or_limit place w on o))
limit_still place w on None still each = still_not w
limit_still place w on (Some v) still each = each v still

objects_still : (on : World → Run) (objects : List CodeObject) (w : World) → ((v : World) → Still v (world_of (on v))) → Still w (world_of (with_objects objects on w))
objects_still on [] w each = each w
objects_still on (o ∷ objects) w each =
    limit_still (place_of o) w (with_objects objects on) (with_object o w) (object_still o w)
    (λ v still. still_on w v (world_of (with_objects objects on v)) still (objects_still on objects v each))

main_still : (code : Code) (f : Option CodeFunc) (w : World) → Still w (world_of (main_called code f w))
main_still code None w = still_not w
main_still code (Some f) w = entered_still f code.main [] [] w

-- nor where a run begins
start_still : (code : Code) (w : World) → Still w (world_of (start_in code w))
start_still code w = objects_still (main_called code (slice_get code.funcs code.main)) code.objects w (λ v. main_still code (slice_get code.funcs code.main) v)

-- AN OPERATION is counted, and has its event
abbrev IsMadeBy : Event → World → Made → Type 0
IsMadeBy e w (Gives held v) = (v.made ≡ w.made + 1) × (v.events ≡ w.events ++ e ∷ [])
IsMadeBy e w (Ends end v) = v ≡ w

operation_made : (class : Class) (latency : ℕ) (place : Place) (what : Act) (reads : List Read) (w : World)
    → IsMadeBy (event_of class latency place what reads w) w (operation class latency place what reads w)
operation_made class latency place what reads w =
    operation_cases (IsMadeBy (event_of class latency place what reads w) w) class latency place what reads w (λ end early. refl)
    (λ some v. (
      ap (λ (x : World). x.made) (effect_frame what w.made (values_of reads) (counted class latency place what reads w)),
      ap (λ (x : World). x.events) (effect_frame what w.made (values_of reads) (counted class latency place what reads w)),
    ))

-- the sources of the event of an operation of which this was told
abbrev pub sources_told : Deed → List Src
sources_told d = sources d.reads d.hidden d.control

-- what is told in a world is of its operations, in order
abbrev pub AreOfOperations : World → Type 0
AreOfOperations w = map sources_told w.deeds ≡ map (λ (op : Operation). op.sources) (operations w.events)

-- these accesses are told behind those of a world, and operations go on being told
record Tells (before : World) (more : List (Option Access)) (after : World) : Type 0 where
  accesses : map access_of after.deeds ≡ map access_of before.deeds ++ more
  telling : after.telling ≡ true
  operations : AreOfOperations before → AreOfOperations after

-- the access of the instruction that is next
abbrev pub access_at : Configuration → Option Instr → Option Access
access_at c None = None
access_at c (Some i) = access_by i.act (reads_of c i.act)

-- that of the operation that a step makes, if the step makes an operation
abbrev pub step_access : Code → Configuration → Run → List (Option Access)
step_access code c next = if nat_lt c.world.made (world_of next).made then access_at c (slice_get code.instrs c.pc) ∷ [] else []

-- that of the operation that is made next, if the run goes on
abbrev pub next_access : Code → Run → List (Option Access)
next_access code (Going c) = step_access code c (step code (Going c))
next_access code (Over end w) = []

-- an access where more operations were made than before
abbrev if_more : ℕ → ℕ → Option Access → List (Option Access)
if_more made later acc = if nat_lt made later then acc ∷ [] else []

-- where nothing was made, nothing is told
tells_none : (before after : World) (acc : Option Access) → before.telling ≡ true → Still before after → KeepsDeeds before after
    → Tells before (if_more before.made after.made acc) after
tells_none before after acc telling still same =
    let test : nat_lt before.made before.made ≡ false = grind arith in
    let nothing : if_more before.made after.made acc ≡ [] =
    ap (λ (n : ℕ). if_more before.made n acc) still.made ∙ ap (λ (b : Bool). if b then acc ∷ [] else []) test in
    record {
      accesses =
          ap (map access_of) same.0
          ∙ (sym (append-nil (map access_of before.deeds)) ∙ ap (λ (more : List (Option Access)). map access_of before.deeds ++ more) (sym nothing));
      telling = same.1 ∙ telling;
      operations = λ told. ap (map sources_told) same.0 ∙ (told ∙ ap (map (λ (op : Operation). op.sources)) (sym still.operations));
    }

module _ (code : Code) (c : Configuration) (telling : c.world.telling ≡ true) where
  module _ (i : Instr) where
    abbrev reads : List Read
    reads = reads_of c i.act

    abbrev acc : Option Access
    acc = access_by i.act reads

    module _ (o : Class × Act) (makes : operation_of i.act ≡ Some o) where
      abbrev event : Event
      event = event_of o.0 i.latency i.place o.1 reads c.world

      made_tells : (m : Made) → IsMadeBy event c.world m → TellsDeed o.1 reads c.world m
          → Tells c.world (if_more c.world.made (world_of (by_operation code i c m)).made acc) (world_of (by_operation code i c m))
      made_tells (Gives held v) (made, events) (on, told) =
          let after : World = world_of (by_operation code i c (Gives held v)) in
          let d : Deed = record { what = o.1; reads = reads; hidden = hidden o.1 (values_of reads) c.world; control = c.world.control; value = held.value } in
          let same : KeepsDeeds v after = behind_tells code i.place i.act held (record c { world = v }) in
          let still : Still v after = behind_still code i.place i.act held (record c { world = v }) in
          let deeds : after.deeds ≡ c.world.deeds ++ d ∷ [] =
          same.0 ∙ (told ∙ ap (λ (b : Bool). deeds_behind b c.world.deeds (d ∷ [])) telling) in
          let count : after.made ≡ c.world.made + 1 = still.made ∙ made in
          let test : nat_lt c.world.made (c.world.made + 1) ≡ true = grind arith in
          let one : if_more c.world.made after.made acc ≡ acc ∷ [] =
          ap (λ (n : ℕ). if_more c.world.made n acc) count ∙ ap (λ (b : Bool). if b then acc ∷ [] else []) test in
          let is : acc ≡ access_of d = ap (λ (found : Option (Class × Act)). accessed_by (way_made found) (element_in reads)) makes in
          let ops : operations after.events ≡ operations c.world.events ++ operations (event ∷ []) =
          still.operations ∙ (ap operations events ∙ operations-append c.world.events (event ∷ [])) in
          record {
            accesses =
                ap (map access_of) deeds
                ∙ (map-append access_of c.world.deeds (d ∷ [])
                ∙ (ap (λ (a : Option Access). map access_of c.world.deeds ++ a ∷ []) (sym is)
                ∙ ap (λ (more : List (Option Access)). map access_of c.world.deeds ++ more) (sym one)));
            telling = same.1 ∙ (on ∙ telling);
            operations = λ before.
                ap (map sources_told) deeds
                ∙ (map-append sources_told c.world.deeds (d ∷ [])
                ∙ (ap (λ (xs : List (List Src)). xs ++ sources_told d ∷ []) before
                ∙ (sym (map-append (λ (op : Operation). op.sources) (operations c.world.events) (operations (event ∷ [])))
                ∙ ap (map (λ (op : Operation). op.sources)) (sym ops))));
          }
      made_tells (Ends end v) same told =
          tells_none c.world v acc telling
          (subst (λ (w : World). Still c.world w) (sym same) (still_not c.world))
          (ap (λ (w : World). w.deeds) same, ap (λ (w : World). w.telling) same)

    kind_tells : (o : Option (Class × Act)) → operation_of i.act ≡ o → Tells c.world (if_more c.world.made (world_of (by_kind code i c o)).made acc) (world_of (by_kind code i c o))
    kind_tells None none = tells_none c.world (world_of (by_kind code i c None)) acc telling (alone_still code i.place i.act c) (alone_tells code i.place i.act c)
    kind_tells (Some o) makes =
        made_tells o makes (operation o.0 i.latency i.place o.1 reads c.world)
        (operation_made o.0 i.latency i.place o.1 reads c.world)
        (where_told o.0 i.latency i.place o.1 reads c.world)

  instruction_tells : (i : Option Instr) → Tells c.world (if_more c.world.made (world_of (at_instruction code c i)).made (access_at c i)) (world_of (at_instruction code c i))
  instruction_tells None = tells_none c.world c.world None telling (still_not c.world) (refl, refl)
  instruction_tells (Some i) = kind_tells i (operation_of i.act) refl

-- A STEP tells of its operation
step_tells : (code : Code) (r : Run) → (world_of r).telling ≡ true → Tells (world_of r) (next_access code r) (world_of (step code r))
unfolding step
step_tells code (Going c) telling = instruction_tells code c telling (slice_get code.instrs c.pc)
step_tells code (Over end w) telling = record { accesses = sym (append-nil (map access_of w.deeds)); telling = telling; operations = λ told. told }

-- the access that is next is that of the run in which nothing is told
same_made : (r : Run) → (world_of (untold_run r)).made ≡ (world_of r).made
same_made (Going c) = refl
same_made (Over end w) = refl

next_untold : (code : Code) (r : Run) → next_access code (untold_run r) ≡ next_access code r
next_untold code (Going c) =
    ap (λ (n : ℕ). if nat_lt c.world.made n then access_at c (slice_get code.instrs c.pc) ∷ [] else [])
    (ap (λ (r : Run). (world_of r).made) (step_untold code (Going c)) ∙ same_made (step code (Going c)))
next_untold code (Over end w) = refl

module _ (code : Code) (input : List ℕ) (budget : ℕ) where
  -- a run that is asked to goes on telling
  goes_on_telling : (n : ℕ) → (world_of (telling_of code input budget n)).telling ≡ true
  goes_on_telling zero = (start_tells code (fresh_telling budget input)).1
  goes_on_telling (suc n) = (let now = step_tells code (telling_of code input budget n) (goes_on_telling n) in now.telling)

  -- the accesses of one step more
  pub accesses_next : (n : ℕ) → accesses_of code input budget (suc n) ≡ accesses_of code input budget n ++ next_access code (run_of code input budget n)
  unfolding accesses_of
  accesses_next n =
      let now = step_tells code (telling_of code input budget n) (goes_on_telling n) in
      now.accesses
      ∙ ap (λ (more : List (Option Access)). accesses_of code input budget n ++ more)
      (sym (ap (next_access code) (telling_changes_nothing code input budget n) ∙ next_untold code (telling_of code input budget n)))

  pub accesses_none : accesses_of code input budget 0 ≡ []
  unfolding accesses_of
  accesses_none = ap (map access_of) (start_tells code (fresh_telling budget input)).0

  -- what is told is of the operations of the run
  pub operations_are_told : (n : ℕ) → AreOfOperations (world_of (telling_of code input budget n))
  operations_are_told zero =
      let still = start_still code (fresh_telling budget input) in
      ap (map sources_told) (start_tells code (fresh_telling budget input)).0 ∙ ap (map (λ (op : Operation). op.sources)) (sym still.operations)
  operations_are_told (suc n) =
      let now = step_tells code (telling_of code input budget n) (goes_on_telling n) in
      now.operations (operations_are_told n)
