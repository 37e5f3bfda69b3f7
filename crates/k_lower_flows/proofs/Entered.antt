-- How a function begins: its arguments in its parameters, and the objects of those that are memory.
use Rattle.std.proofs.Common.{ℕ, zero, suc, ◌≡◌, ◌+◌, ◌<◌, ◌≤◌, nat_lt, Bool, true, false, if◌then◌else◌, List, [], ◌∷◌, ◌++◌, length, take, slice_get, Option, None, Some, option_map, refl, sym, subst, ap, ◌∙◌, arith}
use Rattle.std.proofs.lemmas.Bool.{lt-ltb, ltb-true}
use Rattle.std.proofs.lemmas.List.{length-append, length-map}
use Rattle.k_num.specs.declared.place.Place.{Place}
use Rattle.k_optab.specs.declared.class.Class.TheVariants as class
use Rattle.k_ending.specs.declared.ending.End.TheVariants.{Trapped}
use Rattle.k_ending.specs.declared.ending.Trap.TheVariants.{MemoryLimit}
use Rattle.k_types_meaning.specs.declared.tree.unit.TVariable.{TVariable}
use Rattle.k_mem.specs.declared.start.Start.TheVariants.{Unset}
use Rattle.k_world.specs.declared.act.Act.TheVariants as act
use Rattle.k_world.specs.declared.value.Held.{Held}
use Rattle.k_world.specs.Changes.{object_made}
use Rattle.k_world.specs.Operands.{held_by}
use Rattle.k_world.specs.Values.{pointer_to}
use Rattle.k_world.specs.Worlds.{World}
use Rattle.k_code.specs.declared.code.Code.{Code}
use Rattle.k_code.specs.declared.instruction.Arg.TheVariants.{Reg}
use Rattle.k_code.specs.declared.instruction.Do.TheVariants as do_
use Rattle.k_code.specs.declared.instruction.Home.TheVariants.{Local}
use Rattle.k_code.specs.Named.{operands, register_set}
use Rattle.k_code.specs.Steps.{Run, Going, step, operation_of, alone, behind, read_of, with_slot, opened, parameters}
use Rattle.k_code.proofs.Kept.{OneMore, made_kept, get_last, live_length}
use Rattle.k_evaluation.specs.declared.flow.Flow.TheVariants.{Normal}
use Rattle.k_evaluation.specs.declared.operand.Operand.TheVariants.{Constant, Register}
use Rattle.k_evaluation.specs.Calls.{unset, with_arguments, stores_argument, serves_by, serves}
use Rattle.k_evaluation.specs.Flows.{goes_on}
use Rattle.k_evaluation.specs.Objects.{makes_object, made_object}
use Rattle.k_evaluation.specs.States as state
use Rattle.k_evaluation.specs.States.{Program, State, Outcome, Goes, Stops, Part, follow, ◌>>=◌, gives, makes, read}
use Rattle.k_evaluation_control.specs.Laws.{IsTidy}
use Rattle.k_evaluation_control.proofs.Tidy.{made_tidy}
use Rattle.k_evaluation_control.proofs.Statements.{serves_by_keeps}
use Rattle.k_lower_code.specs.Functions as code_of
use Rattle.k_lower_code.specs.Pieces.{does, instruction}
use Rattle.k_lower_code.specs.Stretches as stretches
use Rattle.k_lower_code.specs.Stretches.{Stretch}
use Rattle.k_lower_runs.proofs.AssignmentRows.{agrees_set}
use Rattle.k_lower_runs.proofs.Instructions.{alone_steps, agrees_behind, slot_here, operation_dropped}
use Rattle.k_lower_runs.proofs.Leads.{Registers, Site, at, live_at, Agrees, HasAt, Reaches, Leads, Follows, reaches_both, ends_at, ends_from}
use Rattle.k_lower_flows.proofs.Blocks.{StretchIsSized, nothing_lies, behind_lies, behind_sized}
use Rattle.k_lower_flows.proofs.Declared.{numbers, number_at, take-front}
use Rattle.k_lower_flows.proofs.Landing.{Lands, Lies}

-- ARGUMENTS: what the variables hold, and what the first registers hold
unset_held : (vs : List TVariable) (k : ℕ) → held_by (slice_get (unset vs) k) ≡ None
unset_held [] k = refl
unset_held (v ∷ vs) zero = refl
unset_held (v ∷ vs) (suc k) = unset_held vs k

lt_next : (k n : ℕ) → nat_lt k n ≡ nat_lt (suc k) (suc n)
lt_next k n = by (nat_lt k n) (nat_lt (suc k) (suc n)) refl refl
  where
    by : (b c : Bool) → nat_lt k n ≡ b → nat_lt (suc k) (suc n) ≡ c → b ≡ c
    by true true is so = refl
    by false false is so = refl
    by true false is so = sym (lt-ltb (suc k) (suc n) (let low : k < n = ltb-true k n is in omega (arith, low))) ∙ so
    by false true is so = sym is ∙ lt-ltb k n (let low : suc k < suc n = ltb-true (suc k) (suc n) so in omega (arith, low))

arguments_held : (count : ℕ) (args : List (Option Held)) (vs : List TVariable) (k : ℕ) → k < length vs
    → held_by (slice_get (with_arguments (take count args) (unset vs)) k) ≡ (if nat_lt k count then held_by (slice_get args k) else None)
arguments_held zero args vs k below = unset_held vs k ∙ by (nat_lt k 0) refl
  where
    by : (b : Bool) → nat_lt k 0 ≡ b → None ≡ (if b then held_by (slice_get args k) else None)
    by true is = absurd (let below : k < 0 = ltb-true k 0 is in omega (arith, below))
    by false is = refl
arguments_held (suc count) [] vs k below = unset_held vs k ∙ by (nat_lt k (suc count))
  where
    by : (b : Bool) → None ≡ (let nothing : List (Option Held) = [] in if b then held_by (slice_get nothing k) else None)
    by true = refl
    by false = refl
arguments_held (suc count) (a ∷ args) [] k below = absurd (omega (arith, below))
arguments_held (suc count) (a ∷ args) (v ∷ vs) zero below = ap (λ b. if b then a else None) (sym (lt-ltb 0 (suc count) (omega arith)))
arguments_held (suc count) (a ∷ args) (v ∷ vs) (suc k) below = arguments_held count args vs k (omega (arith, below)) ∙ ap (λ b. if b then held_by (slice_get args k) else None) (lt_next k count)

arguments_long : (args vars : List (Option Held)) → length (with_arguments args vars) ≡ length vars
arguments_long [] vars = refl
arguments_long (a ∷ args) [] = refl
arguments_long (a ∷ args) (v ∷ vars) = ap suc (arguments_long args vars)

pub arguments_agree : (count : ℕ) (args : List (Option Held)) (vs : List TVariable) (w : World)
    → Agrees (length vs) (record { vars = with_arguments (take count args) (unset vs); world = w }) (parameters count args)
arguments_agree count args vs w = record {
  length_is = arguments_long (take count args) (unset vs) ∙ length-map vs (λ (v : TVariable). None);
  hold = λ k below. sym (arguments_held count args vs k below);
}

module _ (code : Code) (deep count : ℕ) (program : Program) where
  -- A PARAMETER THAT IS MEMORY has an object, in which the argument is stored
  parameter_lies : (place : Place) (n elements : ℕ) → n < count → (site : Site) (target : stretches.Site) (first : ℕ) (s : State) (registers : Registers)
      → HasAt code first ((code_of.makes_parameter program count place n elements target.objects).code first) → Agrees count s registers → IsTidy (live_at deep) s.world
      → length s.world.memory.live ≡ site.base + target.objects
      → Lands code deep count true site target (Going (at site first registers s.world)) (first + 4) 1 (goes_on (makes_object place Unset elements >>= stores_argument program place n) s)
  unfolding alone operation_of operands behind register_set
  parameter_lies place n elements below site target first s registers has agrees tidy live_are = by (object_made s.world Unset elements) refl
    where
      from : Run
      from = Going (at site first registers s.world)

      object : ℕ
      object = target.objects

      made : ℕ
      made = s.world.memory.made

      home : Held
      home = pointer_to made 0

      opens : step code from ≡ opened place (at site first registers s.world) (object_made s.world Unset elements)
      opens = alone_steps code site first s.world registers program place (do_.ObjectOpen elements) (has.0, tt) refl

      -- the address in a register
      addressed : (pc r : ℕ) (w : World) (new : Registers) → HasAt code pc (instruction program place (do_.Address (Local object) 0 r) ∷ []) → slice_get (numbers w) (site.base + object) ≡ Some made
          → Reaches code (Going (at site pc new w)) (Going (at site (pc + 1) (with_slot r (Some home) new) w))
      addressed pc r w new here there = (
        suc zero,
        alone_steps code site pc w new program place (do_.Address (Local object) 0 r) here refl
            ∙ ap (λ (o : Option ℕ). Going (at site (pc + 1) (with_slot r (option_map (λ k. pointer_to k 0) o) new) w)) (number_at w.memory.live (site.base + object) made there),
      )

      set : Registers
      set = with_slot count (Some home) registers

      -- the store reads the address and the argument
      store : Follows code deep count count (λ new. new count ≡ Some home) (makes program class.Store place act.Store (Constant home.value ∷ Register n false ∷ []))
          (does program place (do_.Store (Reg count false) (Reg n false) None)) (λ held done new. new count ≡ Some home)
      store = operation_dropped code deep count count (λ new. new count ≡ Some home) program place class.Store act.Store (Constant home.value ∷ Register n false ∷ [])
          (do_.Store (Reg count false) (Reg n false) None) refl
          (λ x new agree is. ap (λ slot. record { slot = slot; broken = false } ∷ read x (Register n false) ∷ []) (sym is)
          ∙ ap (λ slot. read_of new (Reg count false) ∷ record { slot = slot; broken = false } ∷ []) (sym (agree.hold n below))) (λ held c. refl)

      stored : (w : World) → OneMore s.world w → Reaches code from (Going (at site (first + 1 + 1) set w)) → (o : Outcome Held)
          → Leads code deep count site (Going (at site (first + 1 + 1) set w)) (first + 1 + 1 + 1) count set (λ held new. new count ≡ Some home) o
          → Lands code deep count true site target from (first + 4) 1 (follow (follow o (λ held. state.sets n (Some home))) (λ done. gives Normal))
      stored w more reaches (Stops end x) leads = ends_from code from (Going (at site (first + 1 + 1) set w)) end x reaches leads
      stored w more reaches (Goes held t) leads =
          let same : numbers t.world ≡ numbers s.world ++ made ∷ [] = leads.5.numbers ∙ more.numbers in
          let there : slice_get (numbers t.world) (site.base + object) ≡ Some made =
          ap (λ l. slice_get l (site.base + object)) same ∙ get_last (numbers s.world) made (site.base + object) (let long = live_length s.world in omega (arith, long, live_are)) in
          record {
            registers = with_slot n (Some home) leads.0;
            reaches = reaches_both code from (Going (at site (first + 1 + 1 + 1) leads.0 t.world)) (Going (at site (first + 4) (with_slot n (Some home) leads.0) t.world))
                (reaches_both code from (Going (at site (first + 1 + 1) set w)) (Going (at site (first + 1 + 1 + 1) leads.0 t.world)) reaches leads.1)
                (subst (λ pc. Reaches code (Going (at site (first + 1 + 1 + 1) leads.0 t.world)) (Going (at site pc (with_slot n (Some home) leads.0) t.world))) (let e : first + 1 + 1 + 1 + 1 ≡ first + 4 = omega arith in e)
                (addressed (first + 1 + 1 + 1) n t.world leads.0 (has.1.1.1.0, tt) there));
            agrees = agrees_set code deep count program t leads.0 n (Some home) below leads.2;
            live_are = live_length t.world ∙ ap length same ∙ length-append (numbers s.world) (made ∷ [])
                ∙ (let long = live_length s.world in let e : length (numbers s.world) + 1 ≡ site.base + (object + 1) = omega (arith, long, live_are) in e);
            stays = record {
              older = ap (take site.base) same ∙ take-front site.base (numbers s.world) (made ∷ []) (let long = live_length s.world in omega (arith, long, live_are));
              calls = leads.5.calls ∙ more.calls;
              size = leads.5.size ∙ more.size;
              left = (let one : t.world.left ≤ w.left = leads.5.left in let two : w.left ≡ s.world.left = more.left in omega (arith, one, two));
            };
          }

      by : (o : Option World) → object_made s.world Unset elements ≡ o
          → Lands code deep count true site target from (first + 4) 1 (follow (follow (made_object place s o) (stores_argument program place n)) (λ done. gives Normal))
      by None is = ends_at code from (Trapped MemoryLimit place) s.world (suc zero, opens ∙ ap (opened place (at site first registers s.world)) is)
      by (Some w) is =
          let more : OneMore s.world w = made_kept s.world w Unset elements is in
          let there : slice_get (numbers w) (site.base + object) ≡ Some made =
          ap (λ l. slice_get l (site.base + object)) more.numbers ∙ get_last (numbers s.world) made (site.base + object) (let long = live_length s.world in omega (arith, long, live_are)) in
          stored w more
          (reaches_both code from (Going (at site (first + 1) registers w)) (Going (at site (first + 1 + 1) set w)) (suc zero, opens ∙ ap (opened place (at site first registers s.world)) is)
          (addressed (first + 1) count w registers (has.1.0, tt) there))
          (makes program class.Store place act.Store (Constant home.value ∷ Register n false ∷ []) (record s { world = w }))
          (store site (first + 1 + 1) (record s { world = w }) set (has.1.1.0, tt) (agrees_behind code deep count s w registers count (Some home) (omega arith) agrees, made_tidy (live_at deep) s.world w Unset elements tt tidy is)
          (slot_here count (Some home) registers))

  -- A PARAMETER
  serves_by_lies : (place : Place) (n elements : ℕ) → n < count → Lies code deep count true (goes_on (serves_by program place n elements)) (code_of.serves_by program count place n elements)
  serves_by_lies place n zero below = nothing_lies code deep count place
  serves_by_lies place n (suc elements) below = λ site target first s registers has agrees tidy live_are. parameter_lies place n (suc elements) below site target first s registers has agrees tidy live_are

  serves_by_sized : (place : Place) (n elements : ℕ) → StretchIsSized (code_of.serves_by program count place n elements)
  serves_by_sized place n zero = λ target first. refl
  serves_by_sized place n (suc elements) = λ target first. refl

  -- ALL PARAMETERS, from this number on
  pub serves_lie : (close : Place) (n params : ℕ) (vs : List TVariable) → n + length vs ≡ count → Lies code deep count true (goes_on (serves program n params vs)) (code_of.serves program count close n params vs)
  serves_lie close n zero vs long = nothing_lies code deep count close
  serves_lie close n (suc params) [] long = nothing_lies code deep count close
  serves_lie close n (suc params) (v ∷ vs) long =
      behind_lies code deep count (serves_by program v.place n v.elements) (serves program (n + 1) params vs) (code_of.serves_by program count v.place n v.elements) (code_of.serves program count close (n + 1) params vs)
      (serves_by_sized v.place n v.elements) (serves_by_keeps program v.place n v.elements) (serves_by_lies v.place n v.elements (omega (arith, long))) (serves_lie close (n + 1) params vs (omega (arith, long)))

  pub serves_sized : (close : Place) (n params : ℕ) (vs : List TVariable) → StretchIsSized (code_of.serves program count close n params vs)
  serves_sized close n zero vs = λ target first. refl
  serves_sized close n (suc params) [] = λ target first. refl
  serves_sized close n (suc params) (v ∷ vs) = behind_sized code deep count (code_of.serves_by program count v.place n v.elements) (code_of.serves program count close (n + 1) params vs)
      (serves_by_sized v.place n v.elements) (serves_sized close (n + 1) params vs)
