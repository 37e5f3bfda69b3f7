-- How a run begins: what the program's objects leave of the world, and the configuration in which main is called.
use Rattle.std.proofs.Common.{◌≡◌, ℕ, zero, suc, ◌+◌, ◌^◌, ◌<◌, ◌≤◌, List, [], ◌∷◌, ◌++◌, length, replicate, get_or, Option, Some, None, Ok, Err, Bool, true, false, refl, sym, ◌∙◌, zero-add, ap, subst, arith}
use Rattle.std.specs.Prelude.{slice_get, if◌then◌else◌, nat_lt}
use Rattle.std.proofs.lemmas.List.{length-replicate}
use Rattle.std.proofs.lemmas.Option.{same_Some}
use Rattle.k_optab.specs.declared.event.Event.TheVariants.{Enter}
use Rattle.k_ending.specs.declared.ending.End.{End}
use Rattle.k_ending.specs.declared.ending.End.TheVariants.{OutOfSteps}
use Rattle.k_mem.specs.declared.start.Start.TheVariants.{Zero}
use Rattle.k_mem.specs.Calls.{push_of}
use Rattle.k_mem.specs.Memory.{Memory}
use Rattle.k_num.specs.declared.initial.Initial.{Initial}
use Rattle.k_world.specs.Changes.{with_elements, with_string}
use Rattle.k_world.specs.Worlds.{World, fresh}
use Rattle.k_code.specs.declared.code.Code.{Code}
use Rattle.k_code.specs.declared.code.CodeFunc.{CodeFunc}
use Rattle.k_code.specs.declared.code.CodeObject.{CodeObject}
use Rattle.k_code.specs.declared.code.CodeObject.TheVariants as object
use Rattle.k_code.specs.Runs.{begun_with, with_object, or_limit, place_of, with_objects, stuck, main_called, start}
use Rattle.k_code.specs.Steps.{Run, Going, Over, size_of, parameters}
use Rattle.k_code.specs.Valid.{IsValid}
use Rattle.k_hcpa_meaning.specs.Locations.{registers_of}
use Rattle.k_world.specs.declared.answer.Stop.{Stop}
use Rattle.k_world.specs.declared.answer.Stop.TheVariants as stop
use Rattle.k_world.specs.declared.value.Held.{Held}
use Rattle.k_world.specs.Operands.{held_by}
use Rattle.k_hcpa_meaning.specs.Behind.{behind_all}
use Rattle.k_hcpa_store.specs.Leads.{Starts}
use Rattle.k_hcpa_store.specs.Opening.{begins, OpensAll}
use Rattle.k_hcpa_store.specs.Kept.{Kept, window, configuration_of}
use Rattle.k_hcpa_store.specs.Sound.{IsSound}

-- what objects leave of a world
record Same (old new : World) : Type 0 where
  events : new.events ≡ old.events
  output : new.output ≡ old.output
  calls : new.calls ≡ old.calls
  size : new.size ≡ old.size

same_self : (w v : World) → w ≡ v → Same w v
same_self w v is = record {
  events = sym (ap (λ (x : World). x.events) is);
  output = sym (ap (λ (x : World). x.output) is);
  calls = sym (ap (λ (x : World). x.calls) is);
  size = sym (ap (λ (x : World). x.size) is);
}

same_then : (u v w : World) → Same u v → Same v w → Same u w
same_then u v w a b = record { events = b.events ∙ a.events; output = b.output ∙ a.output; calls = b.calls ∙ a.calls; size = b.size ∙ a.size }

plain_same : (first : List Initial) (number count : ℕ) (w v : World) (m : Option Memory) → begun_with first number (with_elements count w m) ≡ Some v → Same w v
plain_same first number count w v None is = absurd (cc is)
plain_same first number count w v (Some m) is =
    let same = same_Some _ v is in
    record {
      events = sym (ap (λ (x : World). x.events) same);
      output = sym (ap (λ (x : World). x.output) same);
      calls = sym (ap (λ (x : World). x.calls) same);
      size = sym (ap (λ (x : World). x.size) same);
    }

string_same : (count : ℕ) (w v : World) (m : Option Memory) → with_elements count w m ≡ Some v → Same w v
string_same count w v None is = absurd (cc is)
string_same count w v (Some m) is =
    let same = same_Some _ v is in
    record {
      events = sym (ap (λ (x : World). x.events) same);
      output = sym (ap (λ (x : World). x.output) same);
      calls = sym (ap (λ (x : World). x.calls) same);
      size = sym (ap (λ (x : World). x.size) same);
    }

object_same : (o : CodeObject) (w v : World) → with_object o w ≡ Some v → Same w v
unfolding with_object
object_same (object.Plain elements first place) w v is = plain_same first w.memory.made elements w v (push_of w.memory Zero elements) is
object_same (object.Literal bytes place) w v is = string_same (length bytes) w v (with_string w.memory bytes) is

-- the objects were made
opened_same : (objects : List CodeObject) (old new : World) → ((on : World → Run) → with_objects objects on old ≡ on new) → Same old new
opened_same [] old new opens = same_self old new (cc (opens (λ w. Over OutOfSteps w)))
opened_same (o ∷ objects) old new opens = by (with_object o old) refl opens (λ v at. opened_same objects v new at)
  where
    by : (made : Option World) → with_object o old ≡ made → ((on : World → Run) → or_limit (place_of o) old (with_objects objects on) made ≡ on new)
        → ((v : World) → ((on : World → Run) → with_objects objects on v ≡ on new) → Same v new) → Same old new
    by None is all rest = absurd (cc (all (λ w. Over OutOfSteps w)))
    by (Some v) is all rest = same_then old v new (object_same o old v is) (rest v all)

-- there was no room for one
ended_same : (code : Code) (objects : List CodeObject) (old new : World) (end : End) → ((on : World → Run) → with_objects objects on old ≡ Over end new) → Same old new
ended_same code [] old new end ends = absurd (cc (ends (stuck code)))
ended_same code (o ∷ objects) old new end ends = by (with_object o old) refl ends (λ v at. ended_same code objects v new end at)
  where
    by : (made : Option World) → with_object o old ≡ made → ((on : World → Run) → or_limit (place_of o) old (with_objects objects on) made ≡ Over end new)
        → ((v : World) → ((on : World → Run) → with_objects objects on v ≡ Over end new) → Same v new) → Same old new
    by None is all rest = same_self old new (cc (all (λ w. Over OutOfSteps w)))
    by (Some v) is all rest = same_then old v new (object_same o old v is) (rest v all)

-- an empty register, or none
none_at : (n k : ℕ) → get_or {A = Option Held} (replicate n None) k None ≡ None
none_at zero k = refl
none_at (suc n) zero = refl
none_at (suc n) (suc k) = none_at n k

-- the run begins so
pub begun : (code : Code) (input : List ℕ) (budget : ℕ) (f : CodeFunc) (w : World) → slice_get code.funcs code.main ≡ Some f
    → ((on : World → Run) → with_objects code.objects on (fresh budget input) ≡ on w)
    → start code input budget ≡ Going (behind_all (Enter f.region ∷ []) [] (configuration_of (begins code f w)))
unfolding start configuration_of
begun code input budget f w at opens =
    let same = opened_same code.objects (fresh budget input) w opens in
    opens (main_called code (slice_get code.funcs code.main))
    ∙ ap (λ o. main_called code o w) at
    ∙ (λ i. Going (record {
      pc = f.entry;
      frame = record { func = code.main; registers = λ k. empty f k i; saved = []; regions = 0; base = length w.memory.live };
      waiting = [];
      world = record w { events = same.events i ++ Enter f.region ∷ []; calls = same.calls i + 1; size = same.size i + f.size };
    }))
    ∙ ap (λ n. Going (behind_all (Enter f.region ∷ []) [] (configuration_of (record (begins code f w) { world = record w { calls = 1; size = n } })))) (zero-add f.size)
  where
    go : (k : ℕ) (b : Bool) → (if b then held_by (slice_get {X = Option Held} [] k) else None) ≡ None
    go k true = refl
    go k false = refl

    empty : (f : CodeFunc) (k : ℕ) → parameters f.params [] k ≡ window (replicate f.registers None) 0 k
    empty f k = go k (nat_lt k f.params) ∙ sym (none_at f.registers (0 + k))

pub begun_sound : (code : Code) (f : CodeFunc) (w : World) → IsValid code → length code.instrs < 2 ^ 64 → slice_get code.funcs code.main ≡ Some f → IsSound (begins code f w)
begun_sound code f w valid short at =
    let wide : registers_of (slice_get code.funcs code.main) ≡ f.registers = ap registers_of at in
    let large : size_of (slice_get code.funcs code.main) ≡ f.size = ap size_of at in
    let none : 0 ≤ length {A = Option ℕ} [] = omega arith in
    let empty : Option Held = None in
    record {
      valid = valid;
      short = short;
      laid = (omega (arith, wide, length-replicate f.registers empty), none, (refl, refl));
      backs = tt;
      size = omega (arith, large);
      few = (valid.funcs code.main f at).greatest_size;
      regions = (omega arith, tt);
    }

pub starts_ok : (code : Code) (input : List ℕ) (budget : ℕ) (f : CodeFunc) (w : World) (s : Kept) → slice_get code.funcs code.main ≡ Some f
    → ((on : World → Run) → with_objects code.objects on (fresh budget input) ≡ on w) → s ≡ begins code f w → Starts code input budget (Ok s)
starts_ok code input budget f w s at opens is = (
  ap (λ (x : Kept). x.code) is,
  λ g found.
      subst (λ (h : CodeFunc). start code input budget ≡ Going (behind_all (Enter h.region ∷ []) [] (configuration_of s))) (same_Some f g (sym at ∙ found))
      (begun code input budget f w at opens ∙ ap (λ (x : Kept). Going (behind_all (Enter f.region ∷ []) [] (configuration_of x))) (sym is)),
)

pub starts_err : (code : Code) (input : List ℕ) (budget : ℕ) (old w : World) (r : Stop) → old ≡ fresh budget input → OpensAll code.objects old (Err r) w → Starts code input budget (Err r)
unfolding start
starts_err code input budget old w (stop.Ended end) is opens =
    let all = subst (λ (x : World). OpensAll code.objects x (Err (stop.Ended end)) w) is opens in
    let same = ended_same code code.objects (fresh budget input) w end all in
    (w, same.events, same.output, all (main_called code (slice_get code.funcs code.main)))
starts_err code input budget old w stop.Memory is opens = tt
