-- Operations that are made at once.
use Rattle.std.proofs.Common.{◌≡◌, ℕ, ◌+◌, true, false, Bool, List, [], ◌∷◌, ◌++◌, length, Option, Some, refl, sym, ap, ◌∙◌}
use Rattle.std.proofs.lemmas.List.{append-nil}
use Rattle.k_code.specs.declared.instruction.Arg.{Arg}
use Rattle.k_code.specs.declared.instruction.Arg.TheVariants.{Number, Reg}
use Rattle.k_code.specs.declared.instruction.Do.{Do}
use Rattle.k_code.specs.declared.instruction.Do.TheVariants as act
use Rattle.k_code.specs.declared.instruction.Instr.{Instr}
use Rattle.k_code.specs.Named.{operands, register_set}
use Rattle.k_code.specs.Steps.{operation_of}
use Rattle.k_hcpa_meaning.specs.Locations.{operand_locations, hidden_locations, effect_locations, register_location}
use Rattle.k_hcpa_meaning.specs.Timings.{Location, Register, Element, InCell, OutCell, Control, Saved, Timing, begun, given_to, given_to_all, operated, raised, raised_all}
use Rattle.k_hcpa_times.specs.AtOnce.{at_once}
use Rattle.k_hcpa_times.specs.Seen.{AreBelow, Seen, made}
use Rattle.k_hcpa_times.proofs.Lists.{later_length}
use Rattle.k_hcpa_instructions.specs.Kinds.{depends_by, effects_of, held_by, hidden_of}
use Rattle.k_hcpa_instructions.specs.AtOnce.{is_plain, made_so, operated_by}

no_hidden : (what : Do) (element : Option ℕ) → is_plain what ≡ true → hidden_of (operation_of what) element ≡ []
unfolding is_plain operation_of hidden_locations
no_hidden (act.Binary op kind a b to) element is = refl
no_hidden (act.Unary op kind a to) element is = refl
no_hidden (act.Convert kind a to) element is = refl
no_hidden (act.Move a to) element is = refl
no_hidden (act.Offset minus scale at by to) element is = refl
no_hidden (act.PtrCompare op a b to) element is = refl
no_hidden (act.PtrDistance scale a b to) element is = refl
no_hidden what element is = absurd (cc is)

no_effects : (what : Do) (element : Option ℕ) → is_plain what ≡ true → effects_of (operation_of what) element ≡ []
unfolding is_plain operation_of effect_locations
no_effects (act.Binary op kind a b to) element is = refl
no_effects (act.Unary op kind a to) element is = refl
no_effects (act.Convert kind a to) element is = refl
no_effects (act.Move a to) element is = refl
no_effects (act.Offset minus scale at by to) element is = refl
no_effects (act.PtrCompare op a b to) element is = refl
no_effects (act.PtrDistance scale a b to) element is = refl
no_effects what element is = absurd (cc is)

-- it depends on its operands alone
pub plain_depends : (first : ℕ) (what : Do) (element : Option ℕ) (args : List Arg) → is_plain what ≡ true → operands what ≡ args
    → depends_by first what element ≡ operand_locations first args
plain_depends first what element args is named =
    ap (λ (more : List Location). operand_locations first (operands what) ++ more) (no_hidden what element is)
    ∙ append-nil (operand_locations first (operands what))
    ∙ ap (λ (all : List Arg). operand_locations first all) named

-- its register alone holds what it gives
pub plain_held : (first : ℕ) (what : Do) (element : Option ℕ) (to : ℕ) → is_plain what ≡ true → register_set what ≡ Some to
    → held_by first what element ≡ Register (first + to) ∷ []
plain_held first what element to is sets =
    ap (λ (more : List Location). more ++ register_location first (register_set what)) (no_effects what element is)
    ∙ ap (λ (r : Option ℕ). register_location first r) sets

-- so that is what its operation makes of the times
pub plain_made : (first : ℕ) (i : Instr) (element : Option ℕ) (args : List Arg) (to : ℕ) (s : Seen) → is_plain i.act ≡ true → operands i.act ≡ args → register_set i.act ≡ Some to
    → made (at_once (λ t. given_to (Register (first + to)) (operated (operand_locations first args) i.latency t))) s ≡ made (operated_by first i element) s
plain_made first i element args to s is named sets =
    let change : List Location → List Location → Timing → Timing = λ held on t. given_to_all held (operated on i.latency t) in
    sym
    (ap (λ (once : Bool). made (made_so once (change (held_by first i.act element) (depends_by first i.act element))) s) is
    ∙ ap (λ (held : List Location). made (at_once (change held (depends_by first i.act element))) s) (plain_held first i.act element to is sets)
    ∙ ap (λ (on : List Location). made (at_once (change (Register (first + to) ∷ []) on)) s) (plain_depends first i.act element args is named))

-- the second of two operands
pub second_below : (first limit : ℕ) (a b : Arg) → AreBelow first limit (a ∷ b ∷ []) → AreBelow first limit (b ∷ [])
second_below first limit (Number n) b below = below
second_below first limit (Reg r broken) b below = below.2

-- the first of them
pub first_below : (first limit : ℕ) (a b : Arg) → AreBelow first limit (a ∷ b ∷ []) → AreBelow first limit (a ∷ [])
first_below first limit (Number n) b below = tt
first_below first limit (Reg r broken) b below = (below.0, below.1, tt)

-- the locations of two operands
pub locations_of_two : (first : ℕ) (a b : Arg) → operand_locations first (a ∷ b ∷ []) ≡ operand_locations first (a ∷ []) ++ operand_locations first (b ∷ [])
locations_of_two first (Number n) b = refl
locations_of_two first (Reg r true) b = refl
locations_of_two first (Reg r false) b = refl

path_given : (at : Location) (t : Timing) → (given_to at t).paths ≡ t.paths
unfolding given_to
path_given (Register r) t = refl
path_given (Element e) t = refl
path_given InCell t = refl
path_given OutCell t = refl
path_given Control t = refl
path_given (Saved n) t = refl

paths_given : (held : List Location) (t : Timing) → (given_to_all held t).paths ≡ t.paths
paths_given [] t = refl
paths_given (at ∷ held) t = paths_given held (given_to at t) ∙ path_given at t

paths_raised : (on : List Location) (t : Timing) → (raised_all on t).paths ≡ t.paths
paths_raised [] t = refl
paths_raised (at ∷ on) t = paths_raised on (raised at t)

-- the first operand is no register that is read
pub two_of_none : (first : ℕ) (a b : Arg) → operand_locations first (a ∷ []) ≡ [] → operand_locations first (a ∷ b ∷ []) ≡ operand_locations first (b ∷ [])
two_of_none first a b none = locations_of_two first a b ∙ ap (λ (on : List Location). on ++ operand_locations first (b ∷ [])) none

-- the first operand is this register
pub two_of_one : (first : ℕ) (a b : Arg) (r : ℕ) → operand_locations first (a ∷ []) ≡ Register r ∷ []
    → operand_locations first (a ∷ b ∷ []) ≡ Register r ∷ operand_locations first (b ∷ [])
two_of_one first a b r one = locations_of_two first a b ∙ ap (λ (on : List Location). on ++ operand_locations first (b ∷ [])) one

-- the times where an operation depends on these locations, and a register gets them
abbrev pub given_after : ℕ → ℕ → List Location → Seen → Seen
given_after to latency on s = made (at_once (λ t. given_to (Register to) (operated on latency t))) s

-- as many paths are kept, whatever an operation depends on and wherever what it gives is held
pub paths_operated : (held on : List Location) (latency : ℕ) (t : Timing) → length (given_to_all held (operated on latency t)).paths ≡ length t.paths
paths_operated held on latency t =
    ap (λ xs. length xs) (paths_given held (operated on latency t)) ∙ later_length _ _ ∙ ap (λ xs. length xs) (paths_raised on (begun t))
