-- What the checks of `valid` come to.
use Rattle.std.proofs.Common.{◌≡◌, ℕ, zero, suc, ◌+◌, ◌-◌, ◌*◌, ◌<◌, ◌≤◌, inl, inr, List, [], ◌∷◌, length, drop, get_or, min, max, Some, Result, Ok, Err, Bool, true, false, nat_eq, refl, sym, ◌∙◌, subst, ap, arith}
use Rattle.std.specs.Prelude.{IfOk, IsTrue, ◌⊎◌, ◌&&◌, ◌↔◌, nat_lt, nat_le, slice_get, if◌then◌else◌}
use Rattle.std.proofs.lemmas.Bool.{cases_eq, and_parts, or_cases, or_left, or_right, ltb-true, eqb-true, eq-eqb, both_ways, false≢true}
use Rattle.std.proofs.lemmas.List.{length-take, length-drop}
use Rattle.std.proofs.lemmas.Option.{same_Some, slice_get-get_or, slice_get_within}
use Rattle.std.proofs.Math.ListN.{drop_of_length-le}
use Rattle.k_code.specs.declared.code.Code.{Code}
use Rattle.k_code.specs.declared.code.CodeFunc.{CodeFunc}
use Rattle.k_code.specs.declared.instruction.Instr.{Instr}
use Rattle.k_code.specs.Decides.{AreInRange, AreNeeded, BodyFits, EntriesFit, EntryFits, HasBalance, HasNumbers, HasRoom, HaveNumbers, HaveRoom, JumpsAreWithin, Serve, is_entry}
use Rattle.k_code.specs.Named.{registers_needed, is_there, text_is_short}
use Rattle.k_code.specs.Stands.{BalancesAreUnique}
use Rattle.k_code.specs.Valid.{end_of, body_of, stays_within, is_in_range, IsValidFunc, IsValid, class_fits}
use Rattle.k_code.proofs.Balanced.{one_balance}

-- A LOOP OVER A LIST, in which each item has to have a property
abbrev pub EachBefore : {X : Type 0} → (ℕ → X → Type 0) → List X → ℕ → Type 0
EachBefore {X} P xs k = (n : ℕ) (x : X) → n < k → slice_get xs n ≡ Some x → P n x

module _ {X : Type 0} (P : ℕ → X → Type 0) (xs : List X) where
  pub none_before : EachBefore P xs 0
  none_before n x low is = absurd (omega (arith, low))

  pub one_more : (k : ℕ) (d : X) → P k (get_or xs k d) → k < length xs → EachBefore P xs k → EachBefore P xs (k + 1)
  one_more k d here room before n y low at =
      elim (cases_eq n k) [
        | inl same ↦ (
            let this : get_or xs k d ≡ y = same_Some (get_or xs k d) y (sym (slice_get-get_or xs k d room) ∙ (ap (λ m. slice_get xs m) (sym same) ∙ at)) in
            subst (λ m. P m y) (sym same) (subst (λ z. P k z) this here)
            )
        | inr other ↦ before n y (omega (arith, low, other)) at
      ]

  pub all_have : (k : ℕ) → length xs ≤ k → EachBefore P xs k → (IsTrue true ↔ ((n : ℕ) (x : X) → slice_get xs n ≡ Some x → P n x))
  all_have k past each = (
    λ _ n x is. (let low = slice_get_within xs n x is in each n x (omega (arith, low, past)) is),
    λ _. refl,
  )

  pub one_has_not : (k : ℕ) (d : X) (b : Bool) → (IsTrue b ↔ P k (get_or xs k d)) → k < length xs → b ≡ false → (IsTrue false ↔ ((n : ℕ) (y : X) → slice_get xs n ≡ Some y → P n y))
  one_has_not k d b decides room fails = (
    λ e. absurd (false≢true e),
    λ all. absurd (both_ways b fails (decides.1 (all k (get_or xs k d) (slice_get-get_or xs k d room)))),
  )

-- an entry that is looked for
pub entry_is : (funcs : List CodeFunc) (n : ℕ) (f : CodeFunc) → slice_get funcs n ≡ Some f → is_entry funcs f.entry ≡ true
entry_is [] n f is = cc
entry_is (g ∷ funcs) zero f is = or_left (nat_eq g.entry f.entry) (is_entry funcs f.entry) (eq-eqb g.entry f.entry (ap (λ (h : CodeFunc). h.entry) (same_Some g f is)))
entry_is (g ∷ funcs) (suc n) f is = or_right (nat_eq g.entry f.entry) (is_entry funcs f.entry) (entry_is funcs n f is)

pub record HasEntry (funcs : List CodeFunc) (k : ℕ) : Type 0 where
  pub number : ℕ
  pub func : CodeFunc
  pub is : slice_get funcs number ≡ Some func
  pub entry : func.entry ≡ k

pub entry_has : (funcs : List CodeFunc) (k : ℕ) → is_entry funcs k ≡ true → HasEntry funcs k
entry_has [] k e = cc
entry_has (g ∷ funcs) k e = by (entry_has funcs k) (or_cases (nat_eq g.entry k) (is_entry funcs k) e)
  where
    later : HasEntry funcs k → HasEntry (g ∷ funcs) k
    later h = record { number = suc h.number; func = h.func; is = h.is; entry = h.entry }

    by : (is_entry funcs k ≡ true → HasEntry funcs k) → (nat_eq g.entry k ≡ true) ⊎ (is_entry funcs k ≡ true) → HasEntry (g ∷ funcs) k
    by rest (inl here) = record { number = 0; func = g; is = refl; entry = eqb-true g.entry k here }
    by rest (inr there) = later (rest there)

-- a function ends behind its entry, and within the instructions
pub end_bounds : (funcs : List CodeFunc) (all entry : ℕ) → entry < all → (entry < end_of funcs all entry) × (end_of funcs all entry ≤ all)
end_bounds [] all entry low = (low, omega arith)
end_bounds (f ∷ funcs) all entry low = by (nat_lt entry f.entry) refl (end_bounds funcs all entry low)
  where
    by : (b : Bool) → nat_lt entry f.entry ≡ b → (entry < end_of funcs all entry) × (end_of funcs all entry ≤ all)
        → (entry < (if b then min f.entry (end_of funcs all entry) else end_of funcs all entry)) × ((if b then min f.entry (end_of funcs all entry) else end_of funcs all entry) ≤ all)
    by true e h = let above : entry < f.entry = ltb-true entry f.entry e in (omega (arith, h.0, above), omega (arith, h.1))
    by false e h = h

-- how many instructions a function has
pub body_length : (code : Code) (entry : ℕ) → entry < length code.instrs → length (body_of code entry) ≡ end_of code.funcs (length code.instrs) entry - entry
unfolding body_of
body_length code entry low =
    let h = end_bounds code.funcs (length code.instrs) entry low in
    let one = length-take (end_of code.funcs (length code.instrs) entry - entry) (drop entry code.instrs) in
    let two = length-drop entry code.instrs in
    omega (arith, h.0, h.1, one, two)

-- HOW MANY REGISTERS ALL NEED
abbrev pub all_needed : List Instr → ℕ
all_needed [] = 0
all_needed (i ∷ instrs) = max (registers_needed i.act) (all_needed instrs)

needed_each : (instrs : List Instr) (most : ℕ) → all_needed instrs ≤ most → Serve instrs most
needed_each [] most h k i is = cc
needed_each (x ∷ instrs) most h zero i is = subst (λ (y : Instr). registers_needed y.act ≤ most) (same_Some x i is) (omega (arith, h))
needed_each (x ∷ instrs) most h (suc k) i is = needed_each instrs most (omega (arith, h)) k i is

needed_all : (instrs : List Instr) (most : ℕ) → Serve instrs most → all_needed instrs ≤ most
needed_all [] most each = omega arith
needed_all (x ∷ instrs) most each =
    let here : registers_needed x.act ≤ most = each 0 x refl in
    let rest : all_needed instrs ≤ most = needed_all instrs most (λ k i is. each (suc k) i is) in
    omega (arith, here, rest)

pub are_needed : (instrs : List Instr) (most : ℕ) → most ≡ all_needed instrs → AreNeeded instrs most
are_needed instrs most is n = (
  λ low. needed_each instrs n (omega (arith, is, low)),
  λ serve. (let h = needed_all instrs n serve in omega (arith, is, h)),
)

-- behind all of them nothing is added
pub needed_done : (instrs : List Instr) (k most : ℕ) → length instrs ≤ k → max most (all_needed (drop k instrs)) ≡ all_needed instrs → most ≡ all_needed instrs
needed_done instrs k most past is =
    let none : drop k instrs ≡ [] = drop_of_length-le instrs past in
    let e : max most 0 ≡ all_needed instrs = ap (λ l. max most (all_needed l)) (sym none) ∙ is in
    omega (arith, e)

pub same_test : (a b : Bool) → a ≡ b → (IsTrue a ↔ (b ≡ true))
same_test a b is = (λ e. sym is ∙ e, λ e. is ∙ e)

-- JUMPS of instructions that are in range
stays : (code : Code) (entry count k : ℕ) (i : Instr) → is_in_range code entry count k i ≡ true → stays_within entry count k i.act ≡ true
stays code entry count k i e =
    let one = and_parts (nat_le i.latency 10000) (is_there code i.act && (text_is_short i.act && (class_fits i.act && stays_within entry count k i.act))) e in
    let two = and_parts (is_there code i.act) (text_is_short i.act && (class_fits i.act && stays_within entry count k i.act)) one.1 in
    let three = and_parts (text_is_short i.act) (class_fits i.act && stays_within entry count k i.act) two.1 in
    (and_parts (class_fits i.act) (stays_within entry count k i.act) three.1).1

pub jumps_within : (code : Code) (entry : ℕ) (instrs : List Instr) → AreInRange code entry instrs → JumpsAreWithin entry instrs
jumps_within code entry instrs ranges k i is = stays code entry (length instrs) k i (ranges k i is)

-- ROOM
pub room_decided : (code : Code) (f : CodeFunc) (last most : ℕ) (answer : Bool) → f.entry < length code.instrs → last ≡ end_of code.funcs (length code.instrs) f.entry
    → AreNeeded (body_of code f.entry) most → (IsTrue answer ↔ ((last - f.entry ≤ 512 * f.size) × (most ≤ f.registers))) → (IsTrue answer ↔ HasRoom code f)
room_decided code f last most answer low is needed decides =
    let long : length (body_of code f.entry) ≡ last - f.entry = body_length code f.entry low ∙ ap (λ n. n - f.entry) (sym is) in (
      λ e. (let h = decides.0 e in record { short = subst (λ n. n ≤ 512 * f.size) (sym long) h.0; needs = (needed f.registers).0 h.1 }),
      λ r. decides.1 (subst (λ n. n ≤ 512 * f.size) long r.short, (needed f.registers).1 r.needs),
    )

pub no_room : (code : Code) (f : CodeFunc) → is_entry code.funcs f.entry ≡ true → is_entry code.funcs f.entry ≡ false → (IsTrue false ↔ HasRoom code f)
no_room code f begins none = absurd (both_ways (is_entry code.funcs f.entry) none begins)

pub entry_of : (code : Code) (funcs : List CodeFunc) (k : ℕ) (d : CodeFunc) → funcs ≡ code.funcs → k < length funcs → is_entry code.funcs (get_or funcs k d).entry ≡ true
entry_of code funcs k d same room =
    subst (λ l. is_entry l (get_or funcs k d).entry ≡ true) same (entry_is funcs k (get_or funcs k d) (slice_get-get_or funcs k d room))

-- BODIES
pub body_unfit : (code : Code) (entry : ℕ) (instrs : List Instr) (b : Bool) → instrs ≡ body_of code entry → b ≡ false → (IsTrue b ↔ AreInRange code entry instrs) → (IsTrue false ↔ BodyFits code entry)
body_unfit code entry instrs b same fails decides = (
  λ e. absurd (false≢true e),
  λ fits. absurd (both_ways b fails (decides.1 (subst (AreInRange code entry) (sym same) fits.0))),
)

pub body_fits : {E : Type 0} (code : Code) (entry : ℕ) (instrs : List Instr) (b : Bool) (r : Result Bool E) → instrs ≡ body_of code entry → b ≡ true → (IsTrue b ↔ AreInRange code entry instrs)
    → IfOk r (λ x. IsTrue x ↔ HasBalance entry instrs) → IfOk r (λ x. IsTrue x ↔ BodyFits code entry)
body_fits code entry instrs b (Err e) same passes decides h = h
body_fits code entry instrs b (Ok x) same passes decides h = (
  λ e. (subst (AreInRange code entry) same (decides.0 passes), subst (HasBalance entry) same (h.0 e)),
  λ fits. h.1 (subst (HasBalance entry) (sym same) fits.1),
)

-- ENTRIES
pub entry_found : {E : Type 0} (code : Code) (entry : ℕ) (r : Result Bool E) → is_entry code.funcs entry ≡ true → IfOk r (λ x. IsTrue x ↔ BodyFits code entry) → IfOk r (λ x. IsTrue x ↔ EntryFits code entry)
entry_found code entry (Err e) begins h = h
entry_found code entry (Ok x) begins h = (λ e _. h.0 e, λ fits. h.1 (fits begins))

pub no_entry : (code : Code) (entry : ℕ) → is_entry code.funcs entry ≡ false → (IsTrue true ↔ EntryFits code entry)
no_entry code entry none = (λ _ begins. absurd (both_ways (is_entry code.funcs entry) none begins), λ _. refl)

pub entries_more : (code : Code) (k : ℕ) → EntryFits code k → EntriesFit code k → EntriesFit code (k + 1)
entries_more code k here before n low begins =
    elim (cases_eq n k) [
      | inl same ↦ subst (λ m. BodyFits code m) (sym same) (here (subst (λ m. is_entry code.funcs m ≡ true) same begins))
      | inr other ↦ before n (omega (arith, low, other)) begins
    ]

-- ALL OF IT
pub func_has : (code : Code) (n : ℕ) (f : CodeFunc) → slice_get code.funcs n ≡ Some f → HasNumbers code f → HasRoom code f → EntriesFit code (length code.instrs) → IsValidFunc code f
func_has code n f is a b entries =
    let c : BodyFits code f.entry = entries f.entry a.entry (entry_is code.funcs n f is) in
    record {
      entry = a.entry;
      region = a.region;
      least_size = a.least_size;
      greatest_size = a.greatest_size;
      registers = a.registers;
      params = a.params;
      short = b.short;
      ranges = c.0;
      needs = b.needs;
      balance = c.1;
    }

numbers_of : (code : Code) (f : CodeFunc) → IsValidFunc code f → HasNumbers code f
numbers_of code f v = record { entry = v.entry; region = v.region; least_size = v.least_size; greatest_size = v.greatest_size; registers = v.registers; params = v.params }

room_of : (code : Code) (f : CodeFunc) → IsValidFunc code f → HasRoom code f
room_of code f v = record { short = v.short; needs = v.needs }

entries_of : (code : Code) → IsValid code → EntriesFit code (length code.instrs)
entries_of code v k low begins =
    let h : HasEntry code.funcs k = entry_has code.funcs k begins in
    let f : IsValidFunc code h.func = v.funcs h.number h.func h.is in
    subst (λ m. BodyFits code m) h.entry (f.ranges, f.balance)

-- code that fails a check is not valid
refuses : (code : Code) → (IsValid code → ⊥) → (IsTrue false ↔ IsValid code)
refuses code fails = (λ e. absurd (false≢true e), λ v. absurd (fails v))

pub without_main : (code : Code) → length code.funcs ≤ code.main → (IsTrue false ↔ IsValid code)
without_main code past = refuses code (λ v. (let m : code.main < length code.funcs = v.main in omega (arith, past, m)))

pub without_numbers : (code : Code) (b : Bool) → b ≡ false → (IsTrue b ↔ HaveNumbers code code.funcs) → (IsTrue false ↔ IsValid code)
without_numbers code b fails decides = refuses code (λ v. both_ways b fails (decides.1 (λ n f is. numbers_of code f (v.funcs n f is))))

pub without_room : (code : Code) (b : Bool) → b ≡ false → (IsTrue b ↔ HaveRoom code code.funcs) → (IsTrue false ↔ IsValid code)
without_room code b fails decides = refuses code (λ v. both_ways b fails (decides.1 (λ n f is. room_of code f (v.funcs n f is))))

-- code that passes the others is valid where all its bodies pass
pub all_entries : {E : Type 0} (code : Code) (r : Result Bool E) → code.main < length code.funcs → HaveNumbers code code.funcs → HaveRoom code code.funcs
    → IfOk r (λ b. IsTrue b ↔ EntriesFit code (length code.instrs)) → IfOk r (λ b. IsTrue b ↔ IsValid code)
all_entries code (Err e) main numbers rooms all = all
all_entries code (Ok b) main numbers rooms all = (
  λ e. record { main = main; funcs = λ n f is. func_has code n f is (numbers n f is) (rooms n f is) (all.0 e) },
  λ v. all.1 (entries_of code v),
)

pub balances_are_unique : BalancesAreUnique
balances_are_unique code f valid some others one two k low = one_balance f.entry (body_of code f.entry) some others one two k low
