-- Operands one behind the other.
use Rattle.std.proofs.Common.{◌≡◌, ℕ, ◌+◌, ◌-◌, ◌*◌, ◌<◌, ◌≤◌, suc, subst, arith, true, false, List, [], ◌∷◌, ◌++◌, length, refl, ap, sym, ◌∙◌, length-append}
use Rattle.std.proofs.Math.Nat.{add-mul, suc-mul, mul-le-mul_right}
use Rattle.k_code.specs.declared.instruction.Arg.{Arg}
use Rattle.k_code.specs.declared.instruction.Arg.TheVariants.{Number, Reg}
use Rattle.k_hcpa_meaning.specs.Locations.{operand_locations}
use Rattle.k_hcpa_meaning.specs.Timings.{Timing, Location, raised, raised_all}
use Rattle.k_hcpa_meaning.specs.Calls.{arguments_handed}
use Rattle.k_hcpa_times.specs.Seen.{Seen, AreBelow, made, levels}

locations_of_more : (first : ℕ) (a : Arg) (rest : List Arg) → operand_locations first (a ∷ rest) ≡ operand_locations first (a ∷ []) ++ operand_locations first rest
locations_of_more first (Number n) rest = refl
locations_of_more first (Reg r true) rest = refl
locations_of_more first (Reg r false) rest = refl

raised_all_more : (xs ys : List Location) (t : Timing) → raised_all (xs ++ ys) t ≡ raised_all ys (raised_all xs t)
raised_all_more [] ys t = refl
raised_all_more (x ∷ xs) ys t = raised_all_more xs ys (raised x t)

-- an operand, and then the rest
pub raised_by_more : (first : ℕ) (a : Arg) (rest : List Arg) (t : Timing)
    → raised_all (operand_locations first rest) (raised_all (operand_locations first (a ∷ [])) t) ≡ raised_all (operand_locations first (a ∷ rest)) t
raised_by_more first a rest t =
    sym (raised_all_more (operand_locations first (a ∷ [])) (operand_locations first rest) t) ∙ ap (λ all. raised_all all t) (sym (locations_of_more first a rest))

pub count_of_more : (first : ℕ) (a : Arg) (rest : List Arg)
    → length (operand_locations first (a ∷ rest)) ≡ length (operand_locations first (a ∷ [])) + length (operand_locations first rest)
count_of_more first a rest = ap (λ all. length all) (locations_of_more first a rest) ∙ length-append (operand_locations first (a ∷ [])) (operand_locations first rest)

paths_kept : (xs : List Location) (t : Timing) → (raised_all xs t).paths ≡ t.paths
paths_kept [] t = refl
paths_kept (x ∷ xs) t = paths_kept xs (raised x t)

-- what is raised by the first of the rest
abbrev pub by_first : ℕ → Arg → Seen → Seen
by_first first a s = made (raised_all (operand_locations first (a ∷ []))) s

below_rest : (first limit : ℕ) (a : Arg) (rest : List Arg) → AreBelow first limit (a ∷ rest) → AreBelow first limit rest
below_rest first limit (Number n) rest below = below
below_rest first limit (Reg r broken) rest below = below.2

below_first : (first limit : ℕ) (a : Arg) (rest : List Arg) → AreBelow first limit (a ∷ rest) → AreBelow first limit (a ∷ [])
below_first first limit (Number n) rest below = tt
below_first first limit (Reg r broken) rest below = (below.0, below.1, tt)

pub is_below : (first limit : ℕ) (a : Arg) (rest whole : List Arg) → whole ≡ a ∷ rest → AreBelow first limit whole → AreBelow first limit (a ∷ [])
is_below first limit a rest whole same below = below_first first limit a rest (subst (λ all. AreBelow first limit all) same below)

pub below_on : (first : ℕ) (a : Arg) (rest whole : List Arg) (s t : Seen) → whole ≡ a ∷ rest → t ≡ by_first first a s → AreBelow first s.registers whole → AreBelow first t.registers rest
below_on first a rest whole s t same is below =
    below_rest first t.registers a rest (subst (λ all. AreBelow first t.registers all) same (subst (λ (x : Seen). AreBelow first x.registers whole) (sym is) below))

pub raised_on : (first : ℕ) (a : Arg) (rest whole : List Arg) (s t goal : Seen) → whole ≡ a ∷ rest → t ≡ by_first first a s
    → made (raised_all (operand_locations first whole)) s ≡ goal → made (raised_all (operand_locations first rest)) t ≡ goal
raised_on first a rest whole s t goal same is reached =
    ap (λ x. made (raised_all (operand_locations first rest)) x) is
    ∙ ap (λ timing. record s { timing = timing }) (raised_by_more first a rest s.timing)
    ∙ sym (ap (λ all. made (raised_all (operand_locations first all)) s) same)
    ∙ reached

pub levels_on : (first : ℕ) (a : Arg) (s t : Seen) → t ≡ by_first first a s → levels t ≡ levels s
levels_on first a s t is = ap (λ x. levels x) is ∙ ap (λ xs. length xs) (paths_kept (operand_locations first (a ∷ [])) s.timing)

pub steps_on : (first : ℕ) (a : Arg) (rest whole args : List Arg) (s t : Seen) (before behind start : ℕ) → whole ≡ a ∷ rest → levels t ≡ levels s
    → behind ≡ before + length (operand_locations first (a ∷ [])) * levels s
    → before + length (operand_locations first whole) * levels s ≡ start + length (operand_locations first args) * levels s
    → behind + length (operand_locations first rest) * levels t ≡ start + length (operand_locations first args) * levels t
steps_on first a rest whole args s t before behind start same live taken reached =
    let one = length (operand_locations first (a ∷ [])) in
    let others = length (operand_locations first rest) in
    let all : length (operand_locations first whole) ≡ one + others = ap (λ xs. length (operand_locations first xs)) same ∙ count_of_more first a rest in
    let product : length (operand_locations first whole) * levels s ≡ one * levels s + others * levels s = ap (λ n. n * levels s) all ∙ add-mul one others (levels s) in
    let at_s : behind + others * levels s ≡ start + length (operand_locations first args) * levels s = omega arith in
    subst (λ n. behind + others * n ≡ start + length (operand_locations first args) * n) (sym live) at_s

-- an operand is handed on, and then the rest
abbrev pub first_handed : ℕ → ℕ → Arg → Seen → Seen
first_handed first to a s = made (arguments_handed first to 1 (a ∷ [])) s

pub one_handed : (first to n : ℕ) (a : Arg) (rest : List Arg) (t : Timing)
    → arguments_handed first (to + 1) n rest (arguments_handed first to 1 (a ∷ []) t) ≡ arguments_handed first to (suc n) (a ∷ rest) t
one_handed first to n (Number k) rest t = refl
one_handed first to n (Reg r broken) rest t = refl

paths_handed : (first to : ℕ) (a : Arg) (t : Timing) → (arguments_handed first to 1 (a ∷ []) t).paths ≡ t.paths
paths_handed first to (Number k) t = refl
paths_handed first to (Reg r true) t = refl
paths_handed first to (Reg r false) t = refl

pub levels_handed : (first to : ℕ) (a : Arg) (s t : Seen) → t ≡ first_handed first to a s → levels t ≡ levels s
levels_handed first to a s t is = ap (λ x. levels x) is ∙ ap (λ xs. length xs) (paths_handed first to a s.timing)

pub below_handed : (first to : ℕ) (a : Arg) (rest whole : List Arg) (s t : Seen) → whole ≡ a ∷ rest → t ≡ first_handed first to a s → AreBelow first s.registers whole
    → AreBelow first t.registers rest
below_handed first to a rest whole s t same is below =
    below_rest first t.registers a rest (subst (λ all. AreBelow first t.registers all) same (subst (λ (x : Seen). AreBelow first x.registers whole) (sym is) below))

pub handed_on : (first to given count : ℕ) (a : Arg) (rest whole : List Arg) (s t goal : Seen) → given < count → whole ≡ a ∷ rest → t ≡ first_handed first (to + given) a s
    → made (arguments_handed first (to + given) (count - given) whole) s ≡ goal → made (arguments_handed first (to + (given + 1)) (count - (given + 1)) rest) t ≡ goal
handed_on first to given count a rest whole s t goal lt same is reached =
    let n = count - (given + 1) in
    let more : count - given ≡ suc n = omega arith in
    let further : to + (given + 1) ≡ to + given + 1 = omega arith in
    (λ i. made (arguments_handed first (further i) n rest) (is i))
    ∙ ap (λ timing. record s { timing = timing }) (one_handed first (to + given) n a rest s.timing)
    ∙ sym (λ i. made (arguments_handed first (to + given) (more i) (same i)) s)
    ∙ reached

pub handed_none : (first to given count : ℕ) (whole : List Arg) (s goal : Seen) → given < count → whole ≡ [] → made (arguments_handed first (to + given) (count - given) whole) s ≡ goal → s ≡ goal
handed_none first to given count whole s goal lt none reached =
    let more : count - given ≡ suc (count - (given + 1)) = omega arith in
    sym (λ i. made (arguments_handed first (to + given) (more i) (none i)) s) ∙ reached

pub handed_all : (first to given count : ℕ) (rest : List Arg) (s t goal : Seen) → count ≤ given → t ≡ made (raised_all (operand_locations first rest)) s
    → made (arguments_handed first (to + given) (count - given) rest) s ≡ goal → t ≡ goal
handed_all first to given count rest s t goal over is reached =
    let none : count - given ≡ 0 = omega arith in
    is ∙ sym (ap (λ n. made (arguments_handed first (to + given) n rest) s) none) ∙ reached

few_locations : (first : ℕ) (args : List Arg) → length (operand_locations first args) ≤ length args
few_locations first [] = omega arith
few_locations first (Number n ∷ args) = let rest = few_locations first args in omega arith
few_locations first (Reg r true ∷ args) = let rest = few_locations first args in omega arith
few_locations first (Reg r false ∷ args) = let rest = few_locations first args in omega arith

pub few_reads : (first n : ℕ) (args : List Arg) → length (operand_locations first args) * n ≤ length args * n
few_reads first n args = mul-le-mul_right n (few_locations first args)

-- the steps that are left where an operand is handed on
pub steps_handed : (a : Arg) (rest whole args : List Arg) (m n before behind start : ℕ) → whole ≡ a ∷ rest → n ≡ m → behind ≤ before + m
    → before + length whole * m ≤ start + length args * m → behind + length rest * n ≤ start + length args * n
steps_handed a rest whole args m n before behind start same live taken reached =
    let count : length whole * m ≡ length rest * m + m = ap (λ xs. length xs * m) same ∙ suc-mul (length rest) m in
    let at_m : behind + length rest * m ≤ start + length args * m = omega arith in
    subst (λ k. behind + length rest * k ≤ start + length args * k) (sym live) at_m
