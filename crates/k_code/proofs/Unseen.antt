-- What no instruction sees of a world: how many operations are left, but where none is, and what was told.
use Rattle.std.proofs.Common.{◌≡◌, ℕ, ◌+◌, ◌-◌, List, [], ◌∷◌, ◌++◌, length, map, Option, Some, None, Ok, Err, Bool, true, false, nat_eq, refl, sym, ◌∙◌, ap}
use Rattle.std.specs.Prelude.{if◌then◌else◌, slice_get, option_map}
use Rattle.k_num.specs.declared.initial.Initial.{Initial}
use Rattle.k_num.specs.declared.place.Place.{Place}
use Rattle.k_optab.specs.declared.class.Class.{Class}
use Rattle.k_optab.specs.declared.event.Event.TheVariants.{Op}
use Rattle.k_ending.specs.declared.ending.End.TheVariants.{Trapped}
use Rattle.k_ending.specs.declared.ending.Trap.TheVariants.{StackOverflow}
use Rattle.k_mem.specs.declared.start.Start.TheVariants.{Unset, Zero}
use Rattle.k_mem.specs.Memory.{Memory}
use Rattle.k_mem.specs.Calls.{push_of}
use Rattle.k_world.specs.declared.act.Act.{Act}
use Rattle.k_world.specs.declared.value.Held.{Held}
use Rattle.k_world.specs.declared.value.Read.{Read}
use Rattle.k_world.specs.declared.value.Value.{Value}
use Rattle.k_world.specs.Acts.{Given, work, effect, hidden}
use Rattle.k_world.specs.Changes.{with_elements, with_string}
use Rattle.k_world.specs.Deeds.{Deed, deed, deeds_behind}
use Rattle.k_world.specs.Operands.{are_set, values_of, sources}
use Rattle.k_world.specs.Operations.{Made, Gives, Ends, operation, acted, counted}
use Rattle.k_world.specs.Worlds.{World}
use Rattle.k_world.proofs.Effects.{framed, work_framed, hidden_framed, effect_framed, effect_frame}
use Rattle.k_world.proofs.Operations.{operation_unset, operation_acts}
use Rattle.k_code.specs.declared.code.Code.{Code}
use Rattle.k_code.specs.declared.code.CodeFunc.{CodeFunc}
use Rattle.k_code.specs.declared.code.CodeObject.{CodeObject}
use Rattle.k_code.specs.declared.code.CodeObject.TheVariants as object
use Rattle.k_code.specs.declared.instruction.Do.{Do}
use Rattle.k_code.specs.declared.instruction.Do.TheVariants as act
use Rattle.k_code.specs.declared.instruction.Home.TheVariants.{File, Local}
use Rattle.k_code.specs.Runs.{begun_with, with_object, place_of, or_limit, with_objects, main_called, start_in}
use Rattle.k_code.specs.Steps.{Configuration, Waiting, Run, Going, Over, behind, alone, called, entered, overflows, no_value, returned, handed_back, left_by, opened, filled_with, object_at, is_in_main, reads_of}

-- where a test decides
either_same : (of_run : Run → Run) (b : Bool) (x y x' y' : Run) → x' ≡ of_run x → y' ≡ of_run y → (if b then x' else y') ≡ of_run (if b then x else y)
either_same of_run true x y x' y' one two = one
either_same of_run false x y x' y' one two = two

module _ (of_left : ℕ → ℕ) (of_telling : Bool → Bool) (of_deeds : List Deed → List Deed) where
  -- a world in which as many operations are left, it is told or not, and was told, as these make of what is there
  abbrev pub unseen : World → World
  unseen w = record w { left = of_left w.left; telling = of_telling w.telling; deeds = of_deeds w.deeds }

  -- a configuration, a run, and what an operation gives, in such a world
  abbrev pub configuration_unseen : Configuration → Configuration
  configuration_unseen c = record c { world = unseen c.world }

  abbrev pub run_unseen : Run → Run
  run_unseen (Going c) = Going (configuration_unseen c)
  run_unseen (Over end w) = Over end (unseen w)

  abbrev pub made_unseen : Made → Made
  made_unseen (Gives held w) = Gives held (unseen w)
  made_unseen (Ends end w) = Ends end (unseen w)

  -- an operation, where some are left in both worlds, and one fewer behind it, and what is told is told in both
  module _ (class : Class) (latency : ℕ) (place : Place) (what : Act) (reads : List Read) (w : World)
      (fewer : of_left w.left - 1 ≡ of_left (w.left - 1))
      (deeds : (more : List Deed) → deeds_behind (of_telling w.telling) (of_deeds w.deeds) more ≡ of_deeds (deeds_behind w.telling w.deeds more)) where
    counted_unseen : counted class latency place what reads (unseen w) ≡ unseen (counted class latency place what reads w)
    counted_unseen =
        let vs : List Value = values_of reads in
        let hid : hidden what vs (unseen w) ≡ hidden what vs w = hidden_framed w.events w.made (of_left w.left) w.calls w.size (of_telling w.telling) (of_deeds w.deeds) w what vs in
        let given : work what vs (unseen w) ≡ work what vs w = work_framed w.events w.made (of_left w.left) w.calls w.size (of_telling w.telling) (of_deeds w.deeds) w what vs in
        let same : deed what reads (hidden what vs (unseen w)) w.control (work what vs (unseen w)) ≡ deed what reads (hidden what vs w) w.control (work what vs w) =
        (λ i. deed what reads (hid i) w.control (given i)) in
        let told : deeds_behind (of_telling w.telling) (of_deeds w.deeds) (deed what reads (hidden what vs (unseen w)) w.control (work what vs (unseen w)))
        ≡ of_deeds (deeds_behind w.telling w.deeds (deed what reads (hidden what vs w) w.control (work what vs w))) =
        ap (deeds_behind (of_telling w.telling) (of_deeds w.deeds)) same ∙ deeds (deed what reads (hidden what vs w) w.control (work what vs w)) in
        λ i. framed (w.events ++ Op class latency (sources reads (hid i) w.control) place ∷ []) (w.made + 1) (fewer i) w.calls w.size (of_telling w.telling) (told i) w

    effect_unseen : (v : World) → effect what w.made (values_of reads) (unseen v) ≡ unseen (effect what w.made (values_of reads) v)
    effect_unseen v =
        effect_framed v.events v.made (of_left v.left) v.calls v.size (of_telling v.telling) (of_deeds v.deeds) v what w.made (values_of reads)
        ∙ sym (ap unseen (effect_frame what w.made (values_of reads) v))

    acted_unseen : (g : Given) → acted class latency place what reads (unseen w) g ≡ made_unseen (acted class latency place what reads w g)
    acted_unseen (Ok v) =
        ap (λ (x : World). Gives (record { value = v; source = Some w.made }) x)
        (ap (effect what w.made (values_of reads)) counted_unseen ∙ effect_unseen (counted class latency place what reads w))
    acted_unseen (Err t) = refl

    pub operation_unseen : nat_eq w.left 0 ≡ false → nat_eq (of_left w.left) 0 ≡ false
        → operation class latency place what reads (unseen w) ≡ made_unseen (operation class latency place what reads w)
    operation_unseen some some' = set (are_set reads) refl
      where
        set : (b : Bool) → are_set reads ≡ b → operation class latency place what reads (unseen w) ≡ made_unseen (operation class latency place what reads w)
        set true is =
            let given : work what (values_of reads) (unseen w) ≡ work what (values_of reads) w =
            work_framed w.events w.made (of_left w.left) w.calls w.size (of_telling w.telling) (of_deeds w.deeds) w what (values_of reads) in
            operation_acts class latency place what reads (unseen w) some' is
            ∙ ap (acted class latency place what reads (unseen w)) given
            ∙ acted_unseen (work what (values_of reads) w)
            ∙ sym (ap made_unseen (operation_acts class latency place what reads w some is))
        set false is =
            operation_unset class latency place what reads (unseen w) some' is
            ∙ sym (ap made_unseen (operation_unset class latency place what reads w some is))

  handed_unseen : (waiting : List Waiting) (slot : Option Held) (w : World) → handed_back waiting slot (unseen w) ≡ run_unseen (handed_back waiting slot w)
  handed_unseen [] slot w = refl
  handed_unseen (f ∷ waiting) slot w = refl

  module _ (code : Code) where
    returned_unseen : (slot : Option Held) (c : Configuration) → returned code slot (configuration_unseen c) ≡ run_unseen (returned code slot c)
    returned_unseen slot c = handed_unseen c.waiting slot (left_by code c.frame c.world)

    called_unseen : (f : Option CodeFunc) (func : ℕ) (slots : List (Option Held)) (to : Option ℕ) (place : Place) (c : Configuration)
        → called f func slots to place (configuration_unseen c) ≡ run_unseen (called f func slots to place c)
    called_unseen None func slots to place c = refl
    called_unseen (Some f) func slots to place c =
        let waiting : List Waiting = record { frame = c.frame; back = c.pc + 1; to = to } ∷ c.waiting in
        either_same run_unseen (overflows c.world f.size)
        (Over (Trapped StackOverflow place) c.world) (entered f func slots waiting c.world)
        (Over (Trapped StackOverflow place) (unseen c.world)) (entered f func slots waiting (unseen c.world))
        refl refl

    -- what comes behind an operation
    pub behind_unseen : (place : Place) (what : Do) (held : Held) (c : Configuration) → behind code place what held (configuration_unseen c) ≡ run_unseen (behind code place what held c)
    unfolding behind
    behind_unseen place (act.Test a taken other to class) held c = refl
    behind_unseen place (act.Call func args to) held c = called_unseen (slice_get code.funcs func) func (map (λ (r : Read). r.slot) (reads_of c (act.Call func args to))) to place c
    behind_unseen place (act.Return value) held c = returned_unseen (Some held) c
    behind_unseen place what held c = refl

    opened_unseen : (place : Place) (c : Configuration) (elements : ℕ) (m : Option Memory)
        → opened place (configuration_unseen c) (with_elements elements (unseen c.world) m) ≡ run_unseen (opened place c (with_elements elements c.world m))
    opened_unseen place c elements None = refl
    opened_unseen place c elements (Some m) = refl

    filled_unseen : (values : List Initial) (n : Option ℕ) (w : World) → filled_with values n (unseen w) ≡ unseen (filled_with values n w)
    filled_unseen values None w = refl
    filled_unseen values (Some n) w = refl

    -- what makes no operation
    pub alone_unseen : (place : Place) (what : Do) (c : Configuration) → alone code place what (configuration_unseen c) ≡ run_unseen (alone code place what c)
    unfolding alone
    alone_unseen place (act.Address (File n) offset to) c = refl
    alone_unseen place (act.Address (Local n) offset to) c = refl
    alone_unseen place (act.ObjectOpen elements) c = opened_unseen place c elements (push_of c.world.memory Unset elements)
    alone_unseen place (act.Fill local values) c =
        ap (λ (w : World). Going (record c { pc = c.pc + 1; frame = c.frame; world = w })) (filled_unseen values (object_at (Local local) c) c.world)
    alone_unseen place (act.Return value) c = returned_unseen (no_value (is_in_main code c)) c
    alone_unseen place what c = refl

  -- the objects of the program
  elements_unseen : (count : ℕ) (w : World) (m : Option Memory) → with_elements count (unseen w) m ≡ option_map unseen (with_elements count w m)
  elements_unseen count w None = refl
  elements_unseen count w (Some m) = refl

  begun_unseen : (first : List Initial) (number : ℕ) (o : Option World) → begun_with first number (option_map unseen o) ≡ option_map unseen (begun_with first number o)
  begun_unseen first number None = refl
  begun_unseen first number (Some w) = refl

  object_unseen : (o : CodeObject) (w : World) → with_object o (unseen w) ≡ option_map unseen (with_object o w)
  unfolding with_object
  object_unseen (object.Plain elements first place) w =
      ap (begun_with first w.memory.made) (elements_unseen elements w (push_of w.memory Zero elements)) ∙ begun_unseen first w.memory.made (with_elements elements w (push_of w.memory Zero elements))
  object_unseen (object.Literal bytes place) w = elements_unseen (length bytes) w (with_string w.memory bytes)

  module _ (on : World → Run) (each : (v : World) → on (unseen v) ≡ run_unseen (on v)) where
    objects_unseen : (objects : List CodeObject) (w : World) → with_objects objects on (unseen w) ≡ run_unseen (with_objects objects on w)
    objects_unseen [] w = each w
    objects_unseen (o ∷ objects) w =
        ap (or_limit (place_of o) (unseen w) (with_objects objects on)) (object_unseen o w)
        ∙ limit_unseen (with_objects objects on) (objects_unseen objects) (place_of o) w (with_object o w)
      where
        limit_unseen : (then_on : World → Run) → ((v : World) → then_on (unseen v) ≡ run_unseen (then_on v)) → (place : Place) (w : World) (o : Option World)
            → or_limit place (unseen w) then_on (option_map unseen o) ≡ run_unseen (or_limit place w then_on o)
        limit_unseen then_on each place w None = refl
        limit_unseen then_on each place w (Some v) = each v

  main_unseen : (code : Code) (f : Option CodeFunc) (w : World) → main_called code f (unseen w) ≡ run_unseen (main_called code f w)
  main_unseen code None w = refl
  main_unseen code (Some f) w = refl

  -- how a run begins
  pub start_unseen : (code : Code) (w : World) → start_in code (unseen w) ≡ run_unseen (start_in code w)
  start_unseen code w =
      let f : Option CodeFunc = slice_get code.funcs code.main in
      objects_unseen (main_called code f) (main_unseen code f) code.objects w
