-- What registers hold where one is set, and the sources of operands.
use Rattle.std.proofs.Common.{ℕ, ◌≡◌, ◌≢◌, ◌+◌, ◌-◌, ◌<◌, ◌≤◌, ◌⊎◌, ◌&&◌, nat_eq, nat_lt, Bool, true, false, List, [], ◌∷◌, ◌++◌, map, Option, Some, None, arith, refl, sym, subst, ap, inl, inr, ◌∙◌}
use Rattle.std.specs.Prelude.{if◌then◌else◌, option_map}
use Rattle.std.proofs.lemmas.Bool.{cases_Bool, cases_lt}
use Rattle.std.proofs.lemmas.Bool.Decides.{eqb_tells}
use Rattle.k_optab.specs.declared.event.Src.{Src}
use Rattle.k_world.specs.declared.value.Held.{Held}
use Rattle.k_world.specs.Operands.{are_set, is_set, source_in, source_before, sources_before}
use Rattle.k_code.specs.declared.code.Code.{Code}
use Rattle.k_code.specs.declared.instruction.Arg.{Arg}
use Rattle.k_code.specs.declared.instruction.Arg.TheVariants.{Number, Reg}
use Rattle.k_code.specs.Named.{up_to_operands}
use Rattle.k_code.specs.Steps.{Frame, Configuration, read_of, with_slot}
use Rattle.k_hcpa_meaning.specs.Locations.{first_register, operand_locations, register_at, source_at, waiting_frames, width, widths}
use Rattle.k_hcpa_meaning.specs.Timed.{CameEarlier}
use Rattle.k_hcpa_meaning.specs.Timings.{Location, Register, Element, InCell, OutCell, Control, Saved}
use Rattle.k_hcpa_laws.specs.Depends.{DependsOn, without, whole, broken}

-- a register of the newest call is in its place behind those of the others
pub register_of_newest : (code : Code) (frames : List Frame) (f : Frame) (r : ℕ) → r < width code f.func
    → register_at code (f ∷ frames) (widths code frames + r) ≡ f.registers r
register_of_newest code frames f r within =
    let past : nat_lt (widths code frames + r) (widths code frames) ≡ false = grind arith in
    let below : nat_lt (widths code frames + r) (width code f.func + widths code frames) ≡ true = grind arith in
    let number : widths code frames + r - widths code frames ≡ r = omega arith in
    ap (λ (b : Bool). if b then register_at code frames (widths code frames + r)
    else (if nat_lt (widths code frames + r) (width code f.func + widths code frames) then f.registers (widths code frames + r - widths code frames) else None)) past
    ∙ ap (λ (b : Bool). if b then f.registers (widths code frames + r - widths code frames) else None) below
    ∙ ap (λ (n : ℕ). f.registers n) number

-- a register where one of the newest call is set: it holds what it held; or it is that one, and holds that, if the function has it
pub record IsOther (code : Code) (frames : List Frame) (f : Frame) (r : ℕ) (slot : Option Held) (k : ℕ) : Type 0 where
  pub differs : k ≢ widths code frames + r
  pub same : register_at code ((record f { registers = with_slot r slot f.registers }) ∷ frames) k ≡ register_at code (f ∷ frames) k

pub record IsThat (code : Code) (frames : List Frame) (f : Frame) (r : ℕ) (slot : Option Held) (k : ℕ) : Type 0 where
  pub is : k ≡ widths code frames + r
  pub holds : (register_at code ((record f { registers = with_slot r slot f.registers }) ∷ frames) k ≡ slot)
      ⊎ (register_at code ((record f { registers = with_slot r slot f.registers }) ∷ frames) k ≡ None)

-- which of the tests of a register's number hold
pub register_set_at : (code : Code) (frames : List Frame) (f : Frame) (r : ℕ) (slot : Option Held) (k : ℕ)
    → IsOther code frames f r slot k ⊎ IsThat code frames f r slot k
register_set_at code frames f r slot k = elim (cases_lt k (widths code frames)) [
  | inl older ↦ inl (record { differs = λ same. omega arith; same = outer older })
  | inr newest ↦ elim (eqb_tells k (widths code frames + r)) [
    | inl here ↦ inr (record { is = here.1; holds = that here.1 })
    | inr other ↦ inl (record { differs = other.1; same = inner newest other.1 })
  ]
]
  where
    g : Frame
    g = record f { registers = with_slot r slot f.registers }

    outer : k < widths code frames → register_at code (g ∷ frames) k ≡ register_at code (f ∷ frames) k
    outer older =
        let low : nat_lt k (widths code frames) ≡ true = grind arith in
        ap (λ (b : Bool). if b then register_at code frames k
        else (if nat_lt k (width code f.func + widths code frames) then with_slot r slot f.registers (k - widths code frames) else None)) low
        ∙ sym (ap (λ (b : Bool). if b then register_at code frames k
        else (if nat_lt k (width code f.func + widths code frames) then f.registers (k - widths code frames) else None)) low)

    inner : widths code frames ≤ k → k ≢ widths code frames + r → register_at code (g ∷ frames) k ≡ register_at code (f ∷ frames) k
    inner newest differs =
        let other : nat_eq (k - widths code frames) r ≡ false = grind arith in
        ap (λ (b : Bool). if nat_lt k (widths code frames) then register_at code frames k
        else (if nat_lt k (width code f.func + widths code frames) then (if b then slot else f.registers (k - widths code frames)) else None)) other

    that : k ≡ widths code frames + r → (register_at code (g ∷ frames) k ≡ slot) ⊎ (register_at code (g ∷ frames) k ≡ None)
    that here =
        let past : nat_lt k (widths code frames) ≡ false = grind arith in
        let same : nat_eq (k - widths code frames) r ≡ true = grind arith in
        let there : register_at code (g ∷ frames) k ≡ (if nat_lt k (width code f.func + widths code frames) then slot else None) =
        ap (λ (b : Bool). if b then register_at code frames k
        else (if nat_lt k (width code f.func + widths code frames) then with_slot r slot f.registers (k - widths code frames) else None)) past
        ∙ ap (λ (b : Bool). if nat_lt k (width code f.func + widths code frames) then (if b then slot else f.registers (k - widths code frames)) else None) same in
        elim (cases_Bool (nat_lt k (width code f.func + widths code frames))) [
          | inl within ↦ inl (there ∙ ap (λ (b : Bool). if b then slot else None) within)
          | inr beyond ↦ inr (there ∙ ap (λ (b : Bool). if b then slot else None) beyond)
        ]

-- the source of what is held
abbrev source_of : Option Held → Option (Option ℕ)
source_of slot = option_map (λ (held : Held). held.source) slot

found_source : (slot : Option Held) (source : Option ℕ) → source_of slot ≡ Some source → (held : Held) × (slot ≡ Some held) × (held.source ≡ source)
found_source None source is = absurd (cc is)
found_source (Some held) source is = (held, refl, cc is)

-- where a register of the newest call is set to this, a location holds that, or what it held
pub record IsSet (code : Code) (c : Configuration) (r : ℕ) (slot : Option Held) (at : Location) (source : Option ℕ) : Type 0 where
  pub here : at ≡ Register (first_register code c + r)
  pub held : Held
  pub is : slot ≡ Some held
  pub from : held.source ≡ source

pub register_changed : (code : Code) (c : Configuration) (r : ℕ) (slot : Option Held) (at : Location) (source : Option ℕ)
    → source_at code (record c { frame = record c.frame { registers = with_slot r slot c.frame.registers } }) at ≡ Some source
    → IsSet code c r slot at source ⊎ ((at ≢ Register (first_register code c + r)) × (source_at code c at ≡ Some source))
unfolding source_at
register_changed code c r slot (Register k) source is = elim (register_set_at code (waiting_frames c.waiting) c.frame r slot k) [
  | inl other ↦ inr (
    λ same. other.differs (number_of same),
    sym (ap source_of other.same) ∙ is,
  )
  | inr that ↦ elim that.holds [
    | inl slot_is ↦
        (let found = found_source slot source (sym (ap source_of slot_is) ∙ is) in
        inl (record { here = ap (λ (n : ℕ). Register n) that.is; held = found.0; is = found.1; from = found.2 }))
    | inr none ↦ (let impossible : ◌≡◌ {A = Option (Option ℕ)} None (Some source) = sym (ap source_of none) ∙ is in absurd (cc impossible))
  ]
]
  where
    number_of : {a b : ℕ} → Register a ≡ Register b → a ≡ b
    number_of same = cc same
register_changed code c r slot (Element e) source is = inr (λ same. cc same, is)
register_changed code c r slot InCell source is = inr (λ same. cc same, is)
register_changed code c r slot OutCell source is = inr (λ same. cc same, is)
register_changed code c r slot Control source is = inr (λ same. cc same, is)
register_changed code c r slot (Saved n) source is = inr (λ same. cc same, is)

-- what a register of the newest call holds
pub source_of_register : (code : Code) (c : Configuration) (r : ℕ) → r < width code c.frame.func
    → source_at code c (Register (first_register code c + r)) ≡ source_of (c.frame.registers r)
unfolding source_at
source_of_register code c r within = ap source_of (register_of_newest code (waiting_frames c.waiting) c.frame r within)

-- a register of which an operation depends, by a dependence that is broken or not
operand_depends : (code : Code) (c : Configuration) (r : ℕ) (args : List Arg) (sources : List Src) (locations : List Location) (way : Bool) (source : Option ℕ)
    → source_at code c (Register (first_register code c + r)) ≡ Some source → CameEarlier c.world.made (Some source)
    → DependsOn code c sources (operand_locations (first_register code c) args ++ locations)
    → DependsOn code c (source_before source way sources) (operand_locations (first_register code c) (Reg r way ∷ args) ++ locations)
operand_depends code c r args sources locations true None holds came rest = rest
operand_depends code c r args sources locations true (Some number) holds came rest =
    broken number sources (operand_locations (first_register code c) args ++ locations) came rest
operand_depends code c r args sources locations false None holds came rest =
    without sources (Register (first_register code c + r)) (operand_locations (first_register code c) args ++ locations) holds rest
operand_depends code c r args sources locations false (Some number) holds came rest =
    whole number sources (Register (first_register code c + r)) (operand_locations (first_register code c) args ++ locations) holds rest

-- the first operand is set, and so are the others
set_operand : (slot : Option Held) (others : Bool) → (is_set slot && others) ≡ true → (held : Held) × (slot ≡ Some held) × (others ≡ true)
set_operand None others none = absurd (cc none)
set_operand (Some held) others set = (held, refl, set)

-- operands that are set name registers that hold the sources
pub depends_operands : (code : Code) (c : Configuration) (args : List Arg) (sources : List Src) (locations : List Location)
    → ((at : Location) → CameEarlier c.world.made (source_at code c at)) → up_to_operands args ≤ width code c.frame.func
    → are_set (map (read_of c.frame.registers) args) ≡ true → DependsOn code c sources locations
    → DependsOn code c (sources_before (map (read_of c.frame.registers) args) sources) (operand_locations (first_register code c) args ++ locations)
depends_operands code c [] sources locations came few set rest = rest
depends_operands code c (Number n ∷ args) sources locations came few set rest =
    depends_operands code c args sources locations came (omega (arith, few)) set rest
depends_operands code c (Reg r way ∷ args) sources locations came few set rest =
    let first = set_operand (c.frame.registers r) (are_set (map (read_of c.frame.registers) args)) set in
    let holds : source_at code c (Register (first_register code c + r)) ≡ Some first.0.source =
    source_of_register code c r (omega (arith, few)) ∙ ap source_of first.1 in
    subst (λ (slot : Option Held). DependsOn code c (source_before (source_in slot) way (sources_before (map (read_of c.frame.registers) args) sources))
    (operand_locations (first_register code c) (Reg r way ∷ args) ++ locations)) (sym first.1)
    (operand_depends code c r args (sources_before (map (read_of c.frame.registers) args) sources) locations way first.0.source holds
    (subst (λ (found : Option (Option ℕ)). CameEarlier c.world.made found) holds (came (Register (first_register code c + r))))
    (depends_operands code c args sources locations came (omega (arith, few)) first.2 rest))
