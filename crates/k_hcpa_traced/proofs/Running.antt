-- What is held in each configuration of a run of valid code came from operations that were made.
use Rattle.std.proofs.Common.{◌≡◌, ℕ, zero, suc, ◌+◌, ◌≤◌, List, [], ◌∷◌, length, reverse, Option, Some, None, Bool, true, false, ℤ, refl, sym, ◌∙◌, subst, arith}
use Rattle.std.specs.Prelude.{if◌then◌else◌, slice_get, nat_lt, nat_le, ◌&&◌, option_map, ◌-◌}
use Rattle.std.proofs.lemmas.Bool.{and_parts, leb-true}
use Rattle.std.proofs.lemmas.Option.{same_Some}
use Rattle.k_num.specs.declared.initial.Initial.{Initial}
use Rattle.k_num.specs.declared.place.Place.{Place}
use Rattle.k_mem.specs.declared.start.Start.TheVariants.{Zero}
use Rattle.k_world.specs.declared.value.Held.{Held}
use Rattle.k_world.specs.Changes.{object_made}
use Rattle.k_world.specs.Operands.{source_in}
use Rattle.k_world.specs.WorldLaws.{IsMade, AreMade, IsSound}
use Rattle.k_world.specs.Worlds.{World, fresh}
use Rattle.k_code.specs.declared.code.Code.{Code}
use Rattle.k_code.specs.declared.code.CodeFunc.{CodeFunc}
use Rattle.k_code.specs.declared.code.CodeObject.{CodeObject}
use Rattle.k_code.specs.declared.code.CodeObject.TheVariants as object
use Rattle.k_code.specs.declared.instruction.Instr.{Instr}
use Rattle.k_code.specs.Named.{is_there, text_is_short}
use Rattle.k_code.specs.Runs.{begun_with, with_object, place_of, or_limit, with_objects, main_called, start, run_of, world_of}
use Rattle.k_code.specs.Stands.{opened_by}
use Rattle.k_code.specs.Steps.{Frame, Configuration, Run, Going, Over, step}
use Rattle.k_code.specs.Valid.{IsValid, body_of, class_fits, stays_within}
use Rattle.k_code.proofs.Ending.{run_sound, levels_are_regions}
use Rattle.k_code.proofs.Running.{live}
use Rattle.k_code.proofs.Standing.{Here, here_at}
use Rattle.k_code.proofs.Stepping.{over_stays}
use Rattle.k_hcpa_meaning.specs.Locations.{frames_of, width, widths, register_at, saved_in, elements_in, origin_if_set, source_at}
use Rattle.k_hcpa_meaning.specs.Timed.{CameEarlier}
use Rattle.k_hcpa_meaning.specs.Timings.{Location, Register, Element, InCell, OutCell, Control, Saved}
use Rattle.k_hcpa_traced.specs.Laws.{ConfigurationsAreTraced, IsBounded, WorldsAreBounded, InstructionsAreShort}
use Rattle.k_hcpa_traced.proofs.Coming.{AllCome, both_made, reverse_made}
use Rattle.k_hcpa_traced.proofs.Stepping.{Kept, Keeps, entered_kept, step_kept}
use Rattle.k_hcpa_traced.proofs.Worlds.{Good, IfGood, good_filled, good_fresh, good_object, good_string}

-- the instruction that is next takes at most 10,000
pub instructions_are_short : InstructionsAreShort
instructions_are_short code valid input budget n c i is at =
    let s = run_sound code valid input budget n c is in
    let h : Here code valid c.frame.func c.pc (opened_by c.frame (live c.world)) = here_at code valid c.frame.func c.pc (opened_by c.frame (live c.world)) s.stands in
    let count : ℕ = length (body_of code h.func.entry) in
    let rules = valid.funcs c.frame.func h.func h.of in
    let parts = and_parts (nat_le h.instr.latency 10000)
    (is_there code h.instr.act && (text_is_short h.instr.act && (class_fits h.instr.act && stays_within h.func.entry count h.place h.instr.act)))
    (rules.ranges h.place h.instr h.in_body) in
    let same : h.instr ≡ i = same_Some h.instr i (sym h.is ∙ at) in
    subst (λ (x : Instr). x.latency ≤ 10000) same (leb-true h.instr.latency 10000 parts.0)

-- the objects of the program are made
begun_good : (budget : ℕ) (first : List Initial) (number made : ℕ) (o : Option World) → IfGood budget made o → IfGood budget made (begun_with first number o)
begun_good budget first number made None good = tt
begun_good budget first number made (Some w) good = (good_filled budget w number first good.0, good.1)

object_good : (budget : ℕ) (o : CodeObject) (w : World) → Good budget w → IfGood budget w.made (with_object o w)
unfolding with_object
object_good budget (object.Plain elements first place) w good =
    begun_good budget first w.memory.made w.made (object_made w Zero elements) (good_object budget w Zero elements tt good)
object_good budget (object.Literal bytes place) w good = good_string budget w bytes good

limit_keeps : (budget made : ℕ) (place : Place) (w : World) (on : World → Run) (o : Option World) → Good budget w → IfGood budget made o
    → ((v : World) → Good budget v → Keeps budget (on v)) → Keeps budget (or_limit place w on o)
limit_keeps budget made place w on None good new each = good.sound
limit_keeps budget made place w on (Some v) good new each = each v new.0

objects_keep : (budget : ℕ) (on : World → Run) (objects : List CodeObject) (w : World) → Good budget w → ((v : World) → Good budget v → Keeps budget (on v))
    → Keeps budget (with_objects objects on w)
objects_keep budget on [] w good each = each w good
objects_keep budget on (o ∷ objects) w good each =
    limit_keeps budget w.made (place_of o) w (with_objects objects on) (with_object o w) good (object_good budget o w good)
    (λ v new. objects_keep budget on objects v new each)

main_keeps : (code : Code) (budget : ℕ) (o : Option CodeFunc) (w : World) → Good budget w → Keeps budget (main_called code o w)
main_keeps code budget None w good = record { good = good; come = ((λ k. tt, tt), tt) }
main_keeps code budget (Some f) w good = entered_kept code budget f code.main [] [] w good tt tt

start_keeps : (code : Code) (input : List ℕ) (budget : ℕ) → Keeps budget (start code input budget)
unfolding start
start_keeps code input budget =
    objects_keep budget (main_called code (slice_get code.funcs code.main)) code.objects (fresh budget input) (good_fresh budget input)
    (λ v good. main_keeps code budget (slice_get code.funcs code.main) v good)

-- each run keeps all this
pub run_keeps : (code : Code) → IsValid code → (input : List ℕ) (budget n : ℕ) → Keeps budget (run_of code input budget n)
run_keeps code valid input budget zero = start_keeps code input budget
run_keeps code valid input budget (suc n) = by (run_of code input budget n) refl (run_keeps code valid input budget n)
  where
    by : (r : Run) → run_of code input budget n ≡ r → Keeps budget r → Keeps budget (step code r)
    by (Going c) is kept = step_kept code budget c (λ i at. instructions_are_short code valid input budget n c i is at) kept
    by (Over end w) is sound = subst (Keeps budget) (sym (over_stays code end w)) sound

chosen_comes : (made : ℕ) (a b : Bool) (x y : Option Held) → IsMade made (source_in x) → IsMade made (source_in y)
    → IsMade made (source_in (if a then x else (if b then y else None)))
chosen_comes made true b x y one two = one
chosen_comes made false true x y one two = two
chosen_comes made false false x y one two = tt

-- what a register holds
register_comes : (code : Code) (made : ℕ) (frames : List Frame) (k : ℕ) → AllCome made frames → IsMade made (source_in (register_at code frames k))
register_comes code made [] k come = tt
register_comes code made (f ∷ frames) k come =
    chosen_comes made (nat_lt k (widths code frames)) (nat_lt k (width code f.func + widths code frames)) (register_at code frames k)
    (f.registers (k - widths code frames)) (register_comes code made frames k come.1) (come.0.0 (k - widths code frames))

saved_come : (made : ℕ) (frames : List Frame) → AllCome made frames → AreMade made (saved_in frames)
saved_come made [] come = tt
saved_come made (f ∷ frames) come = both_made made (saved_in frames) (reverse f.saved) (saved_come made frames come.1) (reverse_made made f.saved come.0.1)

-- so sources are earlier ones
came_one : (made : ℕ) (source : Option ℕ) → IsMade made source → CameEarlier made (Some source)
came_one made None h = tt
came_one made (Some number) h = h

came_held : (made : ℕ) (slot : Option Held) → IsMade made (source_in slot) → CameEarlier made (option_map (λ (held : Held). held.source) slot)
came_held made None h = tt
came_held made (Some held) h = came_one made held.source h

came_listed : (made : ℕ) (sources : List (Option ℕ)) (n : ℕ) → AreMade made sources → CameEarlier made (slice_get sources n)
came_listed made [] n h = tt
came_listed made (source ∷ sources) zero h = came_one made source h.0
came_listed made (source ∷ sources) (suc n) h = came_listed made sources n h.1

came_element : (made : ℕ) (element : Option (Option ℤ)) (origin : Option (Option ℕ)) → CameEarlier made origin → CameEarlier made (origin_if_set element origin)
came_element made None origin h = tt
came_element made (Some None) origin h = tt
came_element made (Some (Some value)) origin h = h

came : (code : Code) (budget : ℕ) (c : Configuration) → Kept budget c.world (frames_of c) → (at : Location) → CameEarlier c.world.made (source_at code c at)
unfolding source_at
came code budget c kept (Register r) = came_held c.world.made (register_at code (frames_of c) r) (register_comes code c.world.made (frames_of c) r kept.come)
came code budget c kept (Element e) =
    came_element c.world.made (slice_get (elements_in c.world.memory.live) e) (slice_get c.world.origins e) (came_listed c.world.made c.world.origins e kept.good.sound.elements)
came code budget c kept InCell = came_one c.world.made c.world.in_cell kept.good.sound.in_cell
came code budget c kept OutCell = came_one c.world.made c.world.out_cell kept.good.sound.out_cell
came code budget c kept Control = came_one c.world.made c.world.control kept.good.sound.control
came code budget c kept (Saved n) = came_listed c.world.made (saved_in (frames_of c)) n (saved_come c.world.made (frames_of c) kept.come)

pub configurations_are_traced : ConfigurationsAreTraced
configurations_are_traced code valid input budget n c is =
    let kept : Kept budget c.world (frames_of c) = subst (Keeps budget) is (run_keeps code valid input budget n) in
    record {
      made = kept.good.sound.counted;
      earlier = kept.good.sound.earlier;
      came = came code budget c kept;
      laid = kept.good.laid;
      origins = kept.good.origins;
      opened = levels_are_regions code valid input budget n c is;
    }

bounded : (budget : ℕ) (w : World) → IsSound budget 10000 w → IsBounded budget w
bounded budget w sound = record {
  made = sound.counted;
  earlier = sound.earlier;
  few = (let steps : w.made + w.left ≡ budget = sound.steps in omega (arith, steps));
  short = sound.work;
}

run_bounded : (budget : ℕ) (r : Run) → Keeps budget r → IsBounded budget (world_of r)
run_bounded budget (Going c) kept = bounded budget c.world kept.good.sound
run_bounded budget (Over end w) sound = bounded budget w sound

pub worlds_are_bounded : WorldsAreBounded
worlds_are_bounded code valid input budget n = run_bounded budget (run_of code input budget n) (run_keeps code valid input budget n)
