-- How many runs exit values tell of.
use Rattle.std.proofs.Common.{◌≡◌, ℕ, ℤ, ◌+◌, ◌^◌, ◌<◌, ◌≤◌, Bool, true, false, List, [], ◌∷◌, refl, sym, ap, ◌∙◌, arith, int_lt, if◌then◌else◌}
use Rattle.k_sum.specs.Exits.{counted, runs_of, total, with_exits}
use Rattle.k_sum.specs.declared.exits.Exit.{Exit}

-- one of three, by two tests
abbrev three : {A : Type 0} → Bool → Bool → A → A → A → A
three one other x y z = if one then x else (if other then y else z)

same_for : (one other : Bool) (x y z n : ℕ) → x ≡ n → y ≡ n → z ≡ n → three one other x y z ≡ n
same_for true other x y z n a b c = a
same_for false true x y z n a b c = b
same_for false false x y z n a b c = c

least_for : (one other : Bool) (x y z n : ℕ) → x ≤ n → y ≤ n → z ≤ n → three one other x y z ≤ n
least_for true other x y z n a b c = a
least_for false true x y z n a b c = b
least_for false false x y z n a b c = c

total_three : (one other : Bool) (x y z : List Exit) → total (three one other x y z) ≡ three one other (total x) (total y) (total z)
total_three true other x y z = refl
total_three false true x y z = refl
total_three false false x y z = refl

pub total-counted : (value : ℤ) (runs : ℕ) (exits : List Exit) → total (counted value runs exits) ≡ runs + total exits
total-counted value runs [] = omega arith
total-counted value runs (x ∷ exits) =
    let rest = total-counted value runs exits in
    let head : Exit = record { value = value; runs = runs } in
    let more : Exit = record { value = x.value; runs = runs + x.runs } in
    total_three (int_lt value x.value) (int_lt x.value value) (head ∷ x ∷ exits) (x ∷ counted value runs exits) (more ∷ exits)
    ∙ same_for (int_lt value x.value) (int_lt x.value value) (total (head ∷ x ∷ exits)) (total (x ∷ counted value runs exits)) (total (more ∷ exits))
    (runs + total (x ∷ exits)) (omega arith) (omega arith) (omega arith)

-- those that ended with one value are some of all
pub runs_of-total : (value : ℤ) (exits : List Exit) → runs_of value exits ≤ total exits
runs_of-total value [] = omega arith
runs_of-total value (x ∷ exits) =
    let rest = runs_of-total value exits in
    least_for (int_lt value x.value) (int_lt x.value value) 0 (runs_of value exits) x.runs (total (x ∷ exits)) (omega arith) (omega arith) (omega arith)

pub total-with : (exits more : List Exit) → total (with_exits exits more) ≡ total exits + total more
total-with exits [] = omega arith
total-with exits (x ∷ more) =
    let rest = total-with (counted x.value x.runs exits) more in let one = total-counted x.value x.runs exits in omega arith

-- so many more runs can be counted
pub exit_fits : (most : ℕ) (all rest later : List Exit) (x : Exit) → total all + total rest ≡ most → rest ≡ x ∷ later → most < 2 ^ 64
    → runs_of x.value all + x.runs < 2 ^ 64
exit_fits most all rest later x sum is few =
    let here = runs_of-total x.value all in let parts : total rest ≡ x.runs + total later = ap total is in omega arith

-- what is counted and what is left are what there is
pub exits_more : (most : ℕ) (all new rest later : List Exit) (x : Exit) → total all + total rest ≡ most → rest ≡ x ∷ later
    → new ≡ counted x.value x.runs all → total new + total later ≡ most
exits_more most all new rest later x sum is added =
    let parts : total rest ≡ x.runs + total later = ap total is in
    let more = total-counted x.value x.runs all in
    let same : total new ≡ total (counted x.value x.runs all) = ap total added in omega arith

-- the exit values that are left go behind those that are counted
pub exits_whole : (all new rest later target : List Exit) (x : Exit) → with_exits all rest ≡ target → rest ≡ x ∷ later
    → new ≡ counted x.value x.runs all → with_exits new later ≡ target
exits_whole all new rest later target x whole is added =
    ap (λ l. with_exits l later) added ∙ sym (ap (with_exits all) is) ∙ whole

pub all_fit : (all start exits more : List Exit) → all ≡ with_exits start exits → start ≡ [] → total exits + total more < 2 ^ 64
    → total all + total more < 2 ^ 64
all_fit all start exits more is none few =
    let same : total all ≡ total (with_exits start exits) = ap total is in
    let sum = total-with start exits in
    let zero_of : total start ≡ 0 = ap total none in omega arith
