-- Each live element keeps an origin, and there are no others, where objects are made and set, and die.
use Rattle.std.proofs.Common.{ℕ, ◌≡◌, ◌+◌, ◌≤◌, List, ◌++◌, length, drop, take, replicate, Option, Some, None, Result, Ok, Err, arith, refl, sym, subst, ◌∙◌}
use Rattle.std.proofs.lemmas.List.{length-append, length-drop, length-replicate, length-take-le}
use Rattle.k_num.specs.declared.initial.Initial.{Initial}
use Rattle.k_mem.specs.declared.fault.MemTrap.{MemTrap}
use Rattle.k_mem.specs.declared.start.Start.{Start}
use Rattle.k_mem.specs.Memory.{Memory, IsLaidOut, live_elements}
use Rattle.k_mem.specs.Calls.{HasLength, first_of, length_of, popped, push_of}
use Rattle.k_world.specs.Changes.{object_filled, object_made, objects_kept, with_elements, without_origins}
use Rattle.k_world.specs.Worlds.{World, HasOrigins}
use Rattle.k_world.proofs.Elements.{elements_within, live_filled, live_popped, live_pushed}

-- a vector whose items were lent has as many as before
pub length_lent : {A : Type 0} (items new : List A) (n : ℕ) → n ≤ length items → length (take n (new ++ drop (length new) items)) ≡ n
length_lent items new n few =
    length-take-le n (new ++ drop (length new) items) (omega (arith, few, length-append new (drop (length new) items), length-drop (length new) items))

-- where the origins of some elements are taken away, there are as many entries
length_without : (first count : Result ℕ MemTrap) (origins : List (Option ℕ))
    → ((f c : ℕ) → first ≡ Ok f → count ≡ Ok c → f + c ≤ length origins) → length (without_origins first count origins) ≡ length origins
length_without (Ok f) (Ok c) origins end =
    let few = end f c refl refl in
    let before = length-take-le f origins (omega (arith, few)) in
    let none = length-replicate {A = Option ℕ} c None in
    let front = length-append (take f origins) (replicate c None) in
    let all = length-append (take f origins ++ replicate c None) (drop (f + c) origins) in
    omega (arith, few, before, none, front, all, length-drop (f + c) origins)
length_without (Ok f) (Err t) origins end = refl
length_without (Err t) (Ok c) origins end = refl
length_without (Err t) (Err u) origins end = refl

-- an object is made
pub made_has_origins : (w v : World) (start : Start) (count : ℕ) → HasLength start count → HasOrigins w → object_made w start count ≡ Some v → HasOrigins v
made_has_origins w v start count long has is = by (push_of w.memory start count) refl is
  where
    by : (made : Option Memory) → push_of w.memory start count ≡ made → with_elements count w made ≡ Some v → HasOrigins v
    by None at none = absurd (cc none)
    by (Some m) at some =
        let next : World = record w { memory = m; origins = w.origins ++ replicate count None } in
        let same : next ≡ v = cc some in
        let all = length-append w.origins (replicate count None) in
        let none = length-replicate {A = Option ℕ} count None in
        let more : HasOrigins next = omega (arith, has, all, none, live_pushed w.memory m start count long at) in
        subst HasOrigins same more

-- an object's elements are set
pub filled_has_origins : (w : World) (object : ℕ) (items : List Initial) → IsLaidOut w.memory → HasOrigins w → HasOrigins (object_filled w object items)
filled_has_origins w object items laid has =
    length_without (first_of w.memory object) (length_of w.memory object) w.origins
    (λ first count at long. omega (arith, has, elements_within w.memory object first count laid at long))
    ∙ has ∙ sym (live_filled w.memory object items)

-- the newest objects die
pub kept_has_origins : (w : World) (keep : ℕ) → HasOrigins w → HasOrigins (objects_kept w keep)
kept_has_origins w keep has =
    length-take-le (live_elements (popped w.memory keep)) w.origins (omega (arith, has, live_popped w.memory keep))
