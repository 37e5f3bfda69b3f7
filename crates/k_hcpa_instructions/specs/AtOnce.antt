-- For contracts between crates: nobody has to believe it.
-- Operations that are made at once, told by their instructions.
use Rattle.std.specs.Prelude.{ℕ, ◌≡◌, Bool, true, false, if◌then◌else◌, List, [], ◌∷◌, Option, Some, None}
use Rattle.k_code.specs.declared.instruction.Do.{Do}
use Rattle.k_code.specs.declared.instruction.Do.TheVariants as act
use Rattle.k_code.specs.declared.instruction.Instr.{Instr}
use Rattle.k_code.specs.Named.{operands, register_set}
use Rattle.k_hcpa_meaning.specs.Timings.{Location, Register, Timing, given_to_all, operated}
use Rattle.k_hcpa_times.specs.AtOnce.{at_once}
use Rattle.k_hcpa_instructions.specs.Kinds.{depends_by, held_by}
use Rattle.k_hcpa_instructions.specs.declared.plain.Plain.{Plain}
use Rattle.k_hcpa_instructions.specs.declared.plain.Plain.TheVariants.{One, Two, Other}

-- its operation depends on its operands alone, and its register alone holds what that gives
unfoldable pub is_plain : Do → Bool
is_plain (act.Binary op kind a b to) = true
is_plain (act.Unary op kind a to) = true
is_plain (act.Convert kind a to) = true
is_plain (act.Move a to) = true
is_plain (act.Offset minus scale at by to) = true
is_plain (act.PtrCompare op a b to) = true
is_plain (act.PtrDistance scale a b to) = true
is_plain _ = false

-- what is told of an instruction that is plain
abbrev pub IsPlain : Do → Plain → Type 0
IsPlain what (One a to) = (is_plain what ≡ true) × (operands what ≡ a.now ∷ []) × (register_set what ≡ Some to)
IsPlain what (Two a b to) = (is_plain what ≡ true) × (operands what ≡ a.now ∷ b.now ∷ []) × (register_set what ≡ Some to)
IsPlain what Other = is_plain what ≡ false

-- the register that is read, where there is one
abbrev pub read_from : Option ℕ → List Location
read_from None = []
read_from (Some r) = Register r ∷ []

-- this is made of the times, at once or by parts
abbrev pub made_so : Bool → (Timing → Timing) → Timing → Timing
made_so once change t = if once then at_once change t else change t

-- what the operation of an instruction makes of the times
abbrev pub operated_by : ℕ → Instr → Option ℕ → Timing → Timing
operated_by first i element t =
    made_so (is_plain i.act) (λ u. given_to_all (held_by first i.act element) (operated (depends_by first i.act element) i.latency u)) t
