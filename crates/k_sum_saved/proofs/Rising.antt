-- Exit values that may stand behind one another rise, and those that rise may stand so.
use Rattle.std.proofs.Common.{◌≡◌, ℕ, ℤ, ◌+◌, ◌≤◌, Bool, true, false, List, [], ◌∷◌, ◌++◌, refl, subst, append_assoc, arith, cond, int_cmp, int_lt}
use Rattle.std.specs.Prelude.{FitsSigned}
use Rattle.std.specs.Int.{w32}
use Rattle.std.specs.declared.cmp.Ordering.TheVariants.{Less, Equal, Greater}
use Rattle.k_sum.specs.Exits.{total}
use Rattle.k_sum.specs.declared.exits.Exit.{Exit}
use Rattle.k_sum.proofs.Counting.{cmp-less}
use Rattle.k_sum_order.proofs.ExitOrder.{AreExits, IsBelow}
use Rattle.k_sum_saved.specs.SumLines.{AreLower}
use Rattle.k_sum_saved.specs.SumRules.{AreBehind}

pub less_lt : (n m : ℤ) → int_cmp n m ≡ Less → int_lt n m ≡ true
less_lt n m less = by (int_lt n m) (int_lt m n) refl less
  where
    by : (b c : Bool) → int_lt n m ≡ b → cond b Less (cond c Greater Equal) ≡ Less → b ≡ true
    by true c is h = refl
    by false true is h = let no : ⊥ = cc in absurd no
    by false false is h = let no : ⊥ = cc in absurd no

pub total_more : (exits : List Exit) (x : Exit) → total (exits ++ x ∷ []) ≡ total exits + x.runs
total_more [] x = omega arith
total_more (y ∷ exits) x = let e = total_more exits x in omega arith

-- they fit 32 bits
abbrev pub Fit : List Exit → Type 0
Fit [] = Unit {0}
Fit (x ∷ exits) = FitsSigned w32 x.value × Fit exits

-- ---- those that may stand behind one another

lower_at : (before : List Exit) (x : Exit) (after : List Exit) (value : ℤ) → AreLower (before ++ x ∷ after) value → int_lt x.value value ≡ true
lower_at [] x after value low = low.0
lower_at (y ∷ before) x after value low = lower_at before x after value low.1

below_from : (runs : ℕ) (before : List Exit) (x : Exit) (between later : List Exit) → AreBehind runs (before ++ x ∷ between) later → IsBelow x.value later
below_from runs before x between [] are = tt
below_from runs before x between (y ∷ later) are =
    let P : List Exit → Type 0 = λ l. AreBehind runs l later in (
      cmp-less x.value y.value (lower_at before x between y.value are.0.rise),
      below_from runs before x (between ++ y ∷ []) later (subst P (append_assoc before (x ∷ between) (y ∷ [])) are.1),
    )

pub exits_rise : (runs : ℕ) (before exits : List Exit) → AreBehind runs before exits → AreExits exits
exits_rise runs before [] are = tt
exits_rise runs before (x ∷ exits) are = (are.0.some, below_from runs before x [] exits are.1, exits_rise runs (before ++ x ∷ []) exits are.1)

pub exits_fit : (runs : ℕ) (before exits : List Exit) → AreBehind runs before exits → Fit exits
exits_fit runs before [] are = tt
exits_fit runs before (x ∷ exits) are = (are.0.value, exits_fit runs (before ++ x ∷ []) exits are.1)

-- ---- those that rise

-- exit values are lower than others
abbrev AllLower : List Exit → List Exit → Type 0
AllLower before [] = Unit {0}
AllLower before (y ∷ exits) = AreLower before y.value × AllLower before exits

lower_and : (before : List Exit) (x : Exit) (value : ℤ) → AreLower before value → int_lt x.value value ≡ true → AreLower (before ++ x ∷ []) value
lower_and [] x value low less = (less, tt)
lower_and (y ∷ before) x value low less = (low.0, lower_and before x value low.1 less)

all_lower : (before : List Exit) (x : Exit) (exits : List Exit) → AllLower before exits → IsBelow x.value exits → AllLower (before ++ x ∷ []) exits
all_lower before x [] low below = tt
all_lower before x (y ∷ exits) low below = (lower_and before x y.value low.0 (less_lt x.value y.value below.0), all_lower before x exits low.1 below.1)

behind_these : (runs : ℕ) (before exits : List Exit) → AreExits exits → Fit exits → AllLower before exits → total before + total exits ≤ runs → AreBehind runs before exits
behind_these runs before [] are fit low few = tt
behind_these runs before (x ∷ exits) are fit low few =
    let more = total_more before x in (
      record { value = fit.0; rise = low.0; some = are.0; few = omega arith },
      behind_these runs (before ++ x ∷ []) exits are.2 fit.1 (all_lower before x exits low.1 are.1) (omega arith),
    )

pub rising_behind : (runs : ℕ) (exits : List Exit) → AreExits exits → Fit exits → total exits ≤ runs → AreBehind runs [] exits
rising_behind runs exits are fit few = behind_these runs [] exits are fit (none exits) (omega arith)
  where
    none : (l : List Exit) → AllLower [] l
    none [] = tt
    none (y ∷ l) = (tt, none l)
