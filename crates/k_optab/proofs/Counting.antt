-- The interval of a closed instance counts the operations before its Enter and before its Exit.
use Rattle.std.proofs.Common.{◌≡◌, ℕ, suc, ◌+◌, ◌-◌, List, [], ◌∷◌, ◌++◌, length, take, refl, sym, ◌∙◌, ap, arith, append_assoc, length-append}
use Rattle.std.specs.Prelude.{All, nat_lt}
use Rattle.std.proofs.Math.Seq.{take-length}
use Rattle.std.proofs.lemmas.List.{take-append-le}
use Rattle.std.proofs.lemmas.List.Elements.{All-filter, All-nil}
use Rattle.k_optab.specs.declared.event.Event.{Event}
use Rattle.k_optab.specs.declared.event.Event.TheVariants.{Op, Enter, Exit}
use Rattle.k_optab.specs.Events.{made_before, operations}
use Rattle.k_optab.specs.InstanceLaws.{IsCounted}
use Rattle.k_optab.specs.Instances.{closed_from, tracked, until_exit}
use Rattle.k_optab.proofs.Crossing.{all_with_instance}
use Rattle.k_optab.proofs.Matching.{matching_exit}
use Rattle.k_optab.proofs.Trees.{operations-append}

-- what is made before a place that cuts the events in two
made_first : (whole first rest : List Event) (place : ℕ) → whole ≡ first ++ rest → place ≡ length first → made_before place whole ≡ length (operations first)
made_first whole first rest place is at =
    ap (λ es. length (operations (take place es))) is
    ∙ (ap (λ n. length (operations (take n (first ++ rest)))) at
    ∙ ap (λ es. length (operations es)) (take-append-le (length first) first rest (omega arith) ∙ take-length first))

-- one event more in front
module _ (whole first rest : List Event) (event : Event) (is : whole ≡ first ++ event ∷ rest) where
  one_more : whole ≡ (first ++ event ∷ []) ++ rest
  one_more = is ∙ sym (append_assoc first (event ∷ []) rest)

  one_longer : length (first ++ event ∷ []) ≡ length first + 1
  one_longer = length-append first (event ∷ [])

  made_longer : length (operations (first ++ event ∷ [])) ≡ length (operations first) + length (operations (event ∷ []))
  made_longer = ap length (operations-append first (event ∷ [])) ∙ length-append (operations first) (operations (event ∷ []))

counted_from : (whole first events : List Event) (before made depth : ℕ) → whole ≡ first ++ events → before ≡ length first → made ≡ length (operations first)
    → All (IsCounted whole) (closed_from events before made depth)
counted_from whole first [] before made depth is at count = All-nil (IsCounted whole)
counted_from whole first (Op class latency sources place ∷ events) before made depth is at count =
    let event : Event = Op class latency sources place in
    let longer = one_longer whole first events event is in
    let more = made_longer whole first events event is in
    counted_from whole (first ++ event ∷ []) events (before + 1) (made + 1) depth (one_more whole first events event is) (omega arith) (omega arith)
counted_from whole first (Enter region ∷ events) before made depth is at count =
    let longer = one_longer whole first events (Enter region) is in
    let more = made_longer whole first events (Enter region) is in
    all_with_instance (IsCounted whole) region depth before made (until_exit events 0) (closed_from events (before + 1) made (depth + 1))
    (λ inside found.
    let exit : (rest : List Event) × (events ≡ inside ++ Exit ∷ rest) = (matching_exit events inside found).1 in
    let ends : List Event = first ++ Enter region ∷ inside in
    let cut : whole ≡ ends ++ Exit ∷ exit.0 =
    is ∙ (ap (λ es. first ++ Enter region ∷ es) exit.1 ∙ sym (append_assoc first (Enter region ∷ inside) (Exit ∷ exit.0))) in
    let size : length ends ≡ length first + suc (length inside) = length-append first (Enter region ∷ inside) in
    let number : length (operations ends) ≡ length (operations first) + length (operations inside) =
    ap length (operations-append first (Enter region ∷ inside)) ∙ length-append (operations first) (operations inside) in
    let all : length whole ≡ length ends + suc (length exit.0) = ap length cut ∙ length-append ends (Exit ∷ exit.0) in
    record {
      start = made_first whole first (Enter region ∷ events) before is at ∙ sym count;
      end = made_first whole ends (Exit ∷ exit.0) (before + 1 + length inside) cut (omega arith) ∙ (number ∙ ap (λ n. n + length (operations inside)) (sym count));
      among = omega arith;
    })
    (counted_from whole (first ++ Enter region ∷ []) events (before + 1) made (depth + 1) (one_more whole first events (Enter region) is) (omega arith) (omega arith))
counted_from whole first (Exit ∷ events) before made depth is at count =
    let longer = one_longer whole first events Exit is in
    let more = made_longer whole first events Exit is in
    counted_from whole (first ++ Exit ∷ []) events (before + 1) made (depth - 1) (one_more whole first events Exit is) (omega arith) (omega arith)

pub intervals_count_operations : (depth : ℕ) (events : List Event) → All (IsCounted events) (tracked depth events)
intervals_count_operations depth events =
    All-filter (λ i. nat_lt i.depth depth) (IsCounted events) (closed_from events 0 0 0) (counted_from events [] events 0 0 0 refl refl refl)
