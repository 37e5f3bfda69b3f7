-- Where acts leave what they gave: the sources of locations behind an act's effect, and its times.
use Rattle.std.proofs.Common.{ℕ, zero, suc, ◌≡◌, ◌≢◌, ◌+◌, ◌<◌, false, ℤ, List, [], ◌∷◌, ◌++◌, set, slice_get, Option, Some, None, Result, Ok, Err, arith, refl, sym, subst, ap, inl, inr, ◌∙◌}
use Rattle.std.proofs.lemmas.Bool.Decides.{eqb_tells}
use Rattle.k_optab.specs.declared.event.Src.{Src}
use Rattle.k_ending.specs.declared.ending.Trap.{Trap}
use Rattle.k_mem.specs.declared.pointer.Pointer.{Pointer}
use Rattle.k_mem.specs.Memory.{IsLaidOut, live_elements}
use Rattle.k_mem.specs.Calls.{load_of, store_of, stored}
use Rattle.k_world.specs.declared.act.Act.{Act}
use Rattle.k_world.specs.declared.act.Act.TheVariants as act
use Rattle.k_world.specs.declared.act.Out.{Out}
use Rattle.k_world.specs.declared.value.Held.{Held}
use Rattle.k_world.specs.declared.value.Value.{Value}
use Rattle.k_world.specs.declared.value.Value.TheVariants as held
use Rattle.k_world.specs.Acts.{behind_byte, effect, element_found, element_or_none, element_read, element_written, given_by, hidden, load_work, one_pointer, origin_of, origin_or_none, output_effect, output_value, pointer_and_number, store_effect, store_work, then_given, touched, trap_of_memory, with_origin, work, written}
use Rattle.k_world.specs.Operands.{source_before}
use Rattle.k_world.specs.Worlds.{HasOrigins, World}
use Rattle.k_world.proofs.Elements.{loaded_within}
use Rattle.k_code.proofs.Kept.{get_within}
use Rattle.k_code.specs.declared.code.Code.{Code}
use Rattle.k_code.specs.Steps.{Configuration, with_register}
use Rattle.k_hcpa_meaning.specs.Locations.{effect_locations, elements_in, first_register, hidden_locations, origin_if_set, register_location, source_at}
use Rattle.k_hcpa_meaning.specs.Timings.{Location, Register, Element, InCell, OutCell, Control, Saved, Timing, given_to, given_to_all}
use Rattle.k_hcpa_laws.specs.Depends.{DependsOn, without, whole}
use Rattle.k_hcpa_laws.proofs.Elements.{loaded_stands, stored_other}
use Rattle.k_hcpa_laws.proofs.Making.{HoldsGiven, IsMaking, giving}
use Rattle.k_hcpa_laws.proofs.Registers.{register_changed}

-- the location whose value came from this source
pub one_depends : (code : Code) (c : Configuration) (at : Location) (origin : Option ℕ) (sources : List Src) (locations : List Location)
    → source_at code c at ≡ Some origin → DependsOn code c sources locations
    → DependsOn code c (source_before origin false sources) (at ∷ locations)
one_depends code c at None sources locations holds rest = without sources at locations holds rest
one_depends code c at (Some number) sources locations holds rest = whole number sources at locations holds rest

-- a result that was given came of one
came_of : {A B E : Type 0} (trap_from : E → Trap) (f : A → B) (r : Result A E) (b : B) → then_given trap_from f r ≡ Ok b → (a : A) × (r ≡ Ok a)
came_of trap_from f (Ok a) b is = (a, refl)
came_of trap_from f (Err e) b is = absurd (cc is)

-- an act that gave something found its operands
found_operands : {A : Type 0} (f : A → Result Value Trap) (found : Option A) (v : Value) → given_by f found ≡ Ok v → (a : A) × (found ≡ Some a) × (f a ≡ Ok v)
found_operands f None v is = absurd (cc is)
found_operands f (Some a) v is = (a, refl, is)

module _ (code : Code) (c : Configuration) (values : List Value) (v : Value) where
  -- the source of a loaded element
  load_depends : (p : Pointer) (sources : List Src) (locations : List Location) → IsLaidOut c.world.memory → HasOrigins c.world
      → load_work c.world.memory p ≡ Ok v → DependsOn code c sources locations
      → DependsOn code c (source_before (origin_of (element_read c.world.memory (Some p)) c.world.origins) false sources)
      (hidden_locations act.Load (element_read c.world.memory (Some p)) ++ locations)
  unfolding source_at hidden_locations
  load_depends p sources locations laid has loads rest =
      let found = came_of trap_of_memory (λ (x : ℤ × ℕ). held.Number x.0) (load_of c.world.memory p) v loads in
      let number : ℤ = found.0.0 in
      let element : ℕ = found.0.1 in
      let stands : slice_get (elements_in c.world.memory.live) element ≡ Some (Some number) =
      loaded_stands c.world.memory p number element laid found.1 in
      let live : element < live_elements c.world.memory = loaded_within c.world.memory p number element laid found.1 in
      let origin = get_within c.world.origins element (omega (arith, has, live)) in
      let holds : origin_if_set (slice_get (elements_in c.world.memory.live) element) (slice_get c.world.origins element) ≡ Some origin.0 =
      ap (λ (x : Option (Option ℤ)). origin_if_set x (slice_get c.world.origins element)) stands ∙ origin.1 in
      let read : element_read c.world.memory (Some p) ≡ Some element = ap element_found found.1 in
      let hid : origin_of (Some element) c.world.origins ≡ origin.0 = ap origin_or_none origin.1 in
      subst (λ (x : Option ℕ). DependsOn code c (source_before (origin_of x c.world.origins) false sources) (hidden_locations act.Load x ++ locations)) (sym read)
      (subst (λ (x : Option ℕ). DependsOn code c (source_before x false sources) (Element element ∷ locations)) (sym hid)
      (one_depends code c (Element element) origin.0 sources locations holds rest))

  -- what an act depends on that its operands don't say is told by these locations
  pub depends_hidden : (what : Act) (sources : List Src) (locations : List Location) → IsLaidOut c.world.memory → HasOrigins c.world
      → work what values c.world ≡ Ok v → DependsOn code c sources locations
      → DependsOn code c (source_before (hidden what values c.world) false sources) (hidden_locations what (touched what values c.world.memory) ++ locations)
  unfolding work hidden hidden_locations touched source_at
  depends_hidden (act.Binary op kind) sources locations laid has works rest = rest
  depends_hidden (act.Unary op kind) sources locations laid has works rest = rest
  depends_hidden (act.Convert kind) sources locations laid has works rest = rest
  depends_hidden act.Move sources locations laid has works rest = rest
  depends_hidden (act.Offset minus scale) sources locations laid has works rest = rest
  depends_hidden (act.PtrCompare op) sources locations laid has works rest = rest
  depends_hidden (act.PtrDistance scale) sources locations laid has works rest = rest
  depends_hidden act.Load sources locations laid has works rest =
      let found = found_operands (load_work c.world.memory) (one_pointer values) v works in
      subst (λ (x : Option Pointer). DependsOn code c (source_before (origin_of (element_read c.world.memory x) c.world.origins) false sources)
      (hidden_locations act.Load (element_read c.world.memory x) ++ locations)) (sym found.1)
      (load_depends found.0 sources locations laid has found.2 rest)
  depends_hidden act.Store sources locations laid has works rest = rest
  depends_hidden act.Input sources locations laid has works rest = one_depends code c InCell c.world.in_cell sources locations refl rest
  depends_hidden (act.Output what) sources locations laid has works rest = one_depends code c OutCell c.world.out_cell sources locations refl rest
  depends_hidden act.Test sources locations laid has works rest = rest
  depends_hidden act.Call sources locations laid has works rest = rest

-- the origins with one set
origin_set : (origins : List (Option ℕ)) (element number : ℕ) (found : Option ℕ) → slice_get (set origins element (Some number)) element ≡ Some found
    → found ≡ Some number
origin_set [] element number found is = absurd (cc is)
origin_set (x ∷ origins) zero number found is = cc is
origin_set (x ∷ origins) (suc element) number found is = origin_set origins element number found is

origin_other : (origins : List (Option ℕ)) (element k number : ℕ) → k ≢ element → slice_get (set origins element (Some number)) k ≡ slice_get origins k
origin_other [] element k number differs = refl
origin_other (x ∷ origins) zero zero number differs = absurd (differs refl)
origin_other (x ∷ origins) zero (suc k) number differs = refl
origin_other (x ∷ origins) (suc element) zero number differs = refl
origin_other (x ∷ origins) (suc element) (suc k) number differs = origin_other origins element k number (λ same. differs (omega (arith, same)))

-- the origin is that of an element that is set
origin_is : (slot : Option (Option ℤ)) (origin : Option (Option ℕ)) (source : Option ℕ) → origin_if_set slot origin ≡ Some source → origin ≡ Some source
origin_is None origin source is = absurd (cc is)
origin_is (Some None) origin source is = absurd (cc is)
origin_is (Some (Some value)) origin source is = is

module _ (code : Code) (depth : ℕ) (c : Configuration) (number : ℕ) (t : Timing) (values : List Value) (v : Value) where
  -- a configuration with this world
  abbrev in_world : World → Configuration
  in_world w = record c { world = w }

  -- the world behind a store to an element
  abbrev with_element : Pointer → ℤ → ℕ → World
  with_element p n element = record c.world { memory = stored c.world.memory p n; origins = set c.world.origins element (Some number) }

  store_holds : (p : Pointer) (n : ℤ) (element : ℕ) → IsLaidOut c.world.memory → store_of c.world.memory p ≡ Ok element
      → HoldsGiven code c (in_world (with_element p n element)) number (Element element)
  unfolding source_at
  store_holds p n element laid stores (Register r) source is = inr (λ same. cc same, is)
  store_holds p n element laid stores (Element k) source is = elim (eqb_tells k element) [
    | inl here ↦ inl (
      ap (λ (x : ℕ). Element x) here.1,
      origin_set c.world.origins element number source
          (ap (λ (x : ℕ). slice_get (set c.world.origins element (Some number)) x) (sym here.1)
          ∙ origin_is (slice_get (elements_in (stored c.world.memory p n).live) k) (slice_get (set c.world.origins element (Some number)) k) source is),
    )
    | inr other ↦ inr (
      λ (same : Element k ≡ Element element). other.1 (cc same),
      sym (ap (λ (x : Option (Option ℤ)). origin_if_set x (slice_get c.world.origins k)) (stored_other c.world.memory p n element k laid stores other.1))
          ∙ sym (ap (λ (x : Option (Option ℕ)). origin_if_set (slice_get (elements_in (stored c.world.memory p n).live) k) x)
          (origin_other c.world.origins element k number other.1))
          ∙ is,
    )
  ]
  store_holds p n element laid stores InCell source is = inr (λ same. cc same, is)
  store_holds p n element laid stores OutCell source is = inr (λ same. cc same, is)
  store_holds p n element laid stores Control source is = inr (λ same. cc same, is)
  store_holds p n element laid stores (Saved k) source is = inr (λ same. cc same, is)

  input_holds : (input : List ℕ) → HoldsGiven code c (in_world (record c.world { in_cell = Some number; input = input })) number InCell
  unfolding source_at
  input_holds input (Register r) source is = inr (λ same. cc same, is)
  input_holds input (Element k) source is = inr (λ same. cc same, is)
  input_holds input InCell source is = inl (refl, sym (cc is))
  input_holds input OutCell source is = inr (λ same. cc same, is)
  input_holds input Control source is = inr (λ same. cc same, is)
  input_holds input (Saved k) source is = inr (λ same. cc same, is)

  output_holds : (output : List ℕ) → HoldsGiven code c (in_world (record c.world { out_cell = Some number; output = output })) number OutCell
  unfolding source_at
  output_holds output (Register r) source is = inr (λ same. cc same, is)
  output_holds output (Element k) source is = inr (λ same. cc same, is)
  output_holds output InCell source is = inr (λ same. cc same, is)
  output_holds output OutCell source is = inl (refl, sym (cc is))
  output_holds output Control source is = inr (λ same. cc same, is)
  output_holds output (Saved k) source is = inr (λ same. cc same, is)

  test_holds : HoldsGiven code c (in_world (record c.world { control = Some number })) number Control
  unfolding source_at
  test_holds (Register r) source is = inr (λ same. cc same, is)
  test_holds (Element k) source is = inr (λ same. cc same, is)
  test_holds InCell source is = inr (λ same. cc same, is)
  test_holds OutCell source is = inr (λ same. cc same, is)
  test_holds Control source is = inl (refl, sym (cc is))
  test_holds (Saved k) source is = inr (λ same. cc same, is)

  store_gives : (p : Pointer) (n : ℤ) → IsMaking code depth c number t → IsLaidOut c.world.memory → store_work c.world.memory p n ≡ Ok v
      → IsMaking code depth (in_world (store_effect number (Some (p, n)) c.world)) number
      (given_to_all (effect_locations act.Store (element_written c.world.memory (Some (p, n)))) t)
  unfolding effect_locations
  store_gives p n making laid stores =
      let found = came_of trap_of_memory (λ (x : ℕ). held.Number n) (store_of c.world.memory p) v stores in
      let element : element_written c.world.memory (Some (p, n)) ≡ Some found.0 = ap element_or_none found.1 in
      subst (λ (x : Option ℕ). IsMaking code depth
      (in_world (record c.world { memory = stored c.world.memory p n; origins = with_origin x number c.world.origins })) number
      (given_to_all (effect_locations act.Store x) t)) (sym element)
      (giving code depth c (in_world (with_element p n found.0)) number t (Element found.0) making tt refl refl (store_holds p n found.0 laid found.1))

  output_gives : (bytes : Result (List ℕ) Trap) (what : Out) → IsMaking code depth c number t → then_given (λ t. t) (output_value what) bytes ≡ Ok v
      → IsMaking code depth (in_world (output_effect number bytes c.world)) number (given_to OutCell t)
  output_gives (Ok bytes) what making is =
      giving code depth c (in_world (record c.world { out_cell = Some number; output = c.world.output ++ bytes })) number t OutCell making tt refl refl
      (output_holds (c.world.output ++ bytes))
  output_gives (Err e) what making is = absurd (cc is)

  -- what an act changes holds what the operation gave
  pub effect_gives : (what : Act) → IsMaking code depth c number t → IsLaidOut c.world.memory → work what values c.world ≡ Ok v
      → IsMaking code depth (in_world (effect what number values c.world)) number (given_to_all (effect_locations what (touched what values c.world.memory)) t)
  unfolding work effect touched effect_locations
  effect_gives (act.Binary op kind) making laid works = making
  effect_gives (act.Unary op kind) making laid works = making
  effect_gives (act.Convert kind) making laid works = making
  effect_gives act.Move making laid works = making
  effect_gives (act.Offset minus scale) making laid works = making
  effect_gives (act.PtrCompare op) making laid works = making
  effect_gives (act.PtrDistance scale) making laid works = making
  effect_gives act.Load making laid works = making
  effect_gives act.Store making laid works =
      let found = found_operands (λ (x : Pointer × ℤ). store_work c.world.memory x.0 x.1) (pointer_and_number values) v works in
      subst (λ (x : Option (Pointer × ℤ)). IsMaking code depth (in_world (store_effect number x c.world)) number
      (given_to_all (effect_locations act.Store (element_written c.world.memory x)) t)) (sym found.1)
      (store_gives found.0.0 found.0.1 making laid found.2)
  effect_gives act.Input making laid works =
      giving code depth c (in_world (effect act.Input number values c.world)) number t InCell making tt refl refl (input_holds (behind_byte c.world.input))
  effect_gives (act.Output what) making laid works = output_gives (written what values) what making works
  effect_gives act.Test making laid works =
      giving code depth c (in_world (record c.world { control = Some number })) number t Control making tt refl refl test_holds
  effect_gives act.Call making laid works = making

-- the register that is set holds it too
pub register_gives : (code : Code) (depth : ℕ) (c : Configuration) (number : ℕ) (t : Timing) (to : Option ℕ) (held : Held) → IsMaking code depth c number t
    → held.source ≡ Some number
    → IsMaking code depth (record c { frame = with_register to (Some held) c.frame }) number (given_to_all (register_location (first_register code c) to) t)
register_gives code depth c number t None held making from = making
register_gives code depth c number t (Some r) held making from =
    giving code depth c (record c { frame = with_register (Some r) (Some held) c.frame }) number t (Register (first_register code c + r)) making tt refl refl
    (λ at source is. elim (register_changed code c r (Some held) at source is) [
      | inl set ↦ (let same : held ≡ set.held = cc set.is in
          inl (set.here, sym set.from ∙ sym (ap (λ (x : Held). x.source) same) ∙ from))
      | inr other ↦ inr other
    ])
