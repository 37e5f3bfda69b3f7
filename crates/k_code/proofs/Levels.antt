-- How many instances are open after events more.
use Rattle.std.proofs.Common.{◌≡◌, ℕ, zero, suc, ◌+◌, ◌<◌, ◌≤◌, List, [], ◌∷◌, ◌++◌, length, refl, ◌∙◌, ap, arith}
use Rattle.std.specs.Prelude.{replicate}
use Rattle.std.proofs.lemmas.List.{append_assoc, append-nil, length_push}
use Rattle.k_num.specs.declared.place.Place.{Place}
use Rattle.k_optab.specs.declared.class.Class.{Class}
use Rattle.k_optab.specs.declared.event.Event.{Event}
use Rattle.k_optab.specs.declared.event.Event.TheVariants.{Op, Enter, Exit}
use Rattle.k_optab.specs.declared.event.Src.{Src}
use Rattle.k_optab.specs.Open.{open_after}
use Rattle.k_optab.specs.OpenLaws.{next_open}
use Rattle.k_optab.proofs.Leaving.{exits_close_the_last}
use Rattle.k_optab.proofs.Opening.{operations_keep, enters_open}

-- how many instances are open after events
abbrev pub levels : List Event → ℕ
levels events = length (open_after events)

pub operation_levels : (events : List Event) (class : Class) (latency : ℕ) (sources : List Src) (place : Place) → levels (events ++ Op class latency sources place ∷ []) ≡ levels events
operation_levels events class latency sources place = ap length (operations_keep events class latency sources place).0

pub enter_levels : (events : List Event) (region : ℕ) → levels (events ++ Enter region ∷ []) ≡ levels events + 1
enter_levels events region = ap length (enters_open events region).0 ∙ length_push (open_after events) (next_open region events)

-- a list that is not empty has a last item
record HasLast {X : Type 0} (xs : List X) : Type 0 where
  before : List X
  last : X
  is : xs ≡ before ++ last ∷ []

has_last : {X : Type 0} (x : X) (xs : List X) → HasLast (x ∷ xs)
has_last x [] = record { before = []; last = x; is = refl }
has_last x (y ∷ xs) = let r = has_last y xs in record { before = x ∷ r.before; last = r.last; is = λ i. x ∷ r.is i }

last_of : {X : Type 0} (xs : List X) → 0 < length xs → HasLast xs
last_of [] some = absurd (omega arith)
last_of (x ∷ xs) some = has_last x xs

pub exit_levels : (events : List Event) → 0 < levels events → levels (events ++ Exit ∷ []) + 1 ≡ levels events
exit_levels events some =
    let l : HasLast (open_after events) = last_of (open_after events) some in
    let left : levels (events ++ Exit ∷ []) ≡ length l.before = ap length (exits_close_the_last events l.before l.last l.is).0 in
    let all : levels events ≡ length l.before + 1 = ap length l.is ∙ length_push l.before l.last in
    omega (arith, left, all)

-- exits one after another
pub exits_levels : (n : ℕ) (events : List Event) → n ≤ levels events → levels (events ++ replicate n Exit) + n ≡ levels events
exits_levels zero events low = let e : levels (events ++ []) ≡ levels events = ap levels (append-nil events) in omega (arith, e)
exits_levels (suc n) events low =
    let one = exit_levels events (omega arith) in
    let rest = exits_levels n (events ++ Exit ∷ []) (omega (arith, one)) in
    let same : (events ++ Exit ∷ []) ++ replicate n Exit ≡ events ++ replicate (suc n) Exit = append_assoc events (Exit ∷ []) (replicate n Exit) in
    let e : levels ((events ++ Exit ∷ []) ++ replicate n Exit) ≡ levels (events ++ replicate (suc n) Exit) = ap levels same in
    omega (arith, one, rest, e)
