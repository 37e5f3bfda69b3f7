-- Exit values are one list where as many runs ended with each.
use Rattle.std.proofs.Common.{◌≡◌, ℕ, ℤ, ◌+◌, ◌≤◌, Bool, true, false, List, [], ◌∷◌, refl, sym, ap, ◌∙◌, subst, arith, int_cmp, int_lt, if◌then◌else◌}
use Rattle.std.proofs.lemmas.Bool.Decides.{Decides-int_eq}
use Rattle.std.proofs.lemmas.Cmp.{int_cmp_total, tied_itself}
use Rattle.std.specs.Ordering.{int_eq, is_eq, ordering_reverse}
use Rattle.std.specs.declared.cmp.Ordering.{Ordering}
use Rattle.std.specs.declared.cmp.Ordering.TheVariants.{Less, Equal, Greater}
use Rattle.k_sum.specs.Exits.{counted, with_exits}
use Rattle.k_sum.specs.Laws.{ended_with}
use Rattle.k_sum.specs.declared.exits.Exit.{Exit}
use Rattle.k_sum.proofs.Counting.{cmp-less}

-- a value is lower than those of exit values
abbrev pub IsBelow : ℤ → List Exit → Type 0
IsBelow value [] = Unit {0}
IsBelow value (x ∷ exits) = (int_cmp value x.value ≡ Less) × IsBelow value exits

-- exit values rise, and with each a run ended at least
abbrev pub AreExits : List Exit → Type 0
AreExits [] = Unit {0}
AreExits (x ∷ exits) = (1 ≤ x.runs) × IsBelow x.value exits × AreExits exits

abbrev three : Bool → Bool → List Exit → List Exit → List Exit → List Exit
three one other x y z = if one then x else (if other then y else z)

lower : (v w : ℤ) → int_cmp v w ≡ Less → (exits : List Exit) → IsBelow w exits → IsBelow v exits
lower v w less [] below = tt
lower v w less (x ∷ exits) below = (int_cmp_total.trans v w x.value less below.0, lower v w less exits below.1)

below-counted : (v w : ℤ) (n : ℕ) → int_cmp v w ≡ Less → (exits : List Exit) → IsBelow v exits → IsBelow v (counted w n exits)
below-counted v w n less [] below = (less, tt)
below-counted v w n less (x ∷ exits) below = by (below-counted v w n less exits below.1) (int_lt w x.value) (int_lt x.value w)
  where
    by : IsBelow v (counted w n exits) → (one other : Bool) → IsBelow v (three one other (record { value = w; runs = n } ∷ x ∷ exits) (x ∷ counted w n exits) (record { value = x.value; runs = n + x.runs } ∷ exits))
    by rest true other = (less, below)
    by rest false true = (below.0, rest)
    by rest false false = below

exits-counted : (w : ℤ) (n : ℕ) → 1 ≤ n → (exits : List Exit) → AreExits exits → AreExits (counted w n exits)
exits-counted w n some [] are = (some, tt, tt)
exits-counted w n some (x ∷ exits) are = by (exits-counted w n some exits are.2) (int_lt w x.value) (int_lt x.value w) refl refl
  where
    by : AreExits (counted w n exits) → (one other : Bool) → int_lt w x.value ≡ one → int_lt x.value w ≡ other
        → AreExits (three one other (record { value = w; runs = n } ∷ x ∷ exits) (x ∷ counted w n exits) (record { value = x.value; runs = n + x.runs } ∷ exits))
    by rest true other first second = let less : int_cmp w x.value ≡ Less = cmp-less w x.value first in (some, (less, lower w x.value less exits are.1), are)
    by rest false true first second = (are.0, below-counted x.value w n (cmp-less x.value w second) exits are.1, rest)
    by rest false false first second = (let one : 1 ≤ x.runs = are.0 in omega arith, are.1, are.2)

pub exits-with : (exits more : List Exit) → AreExits exits → AreExits more → AreExits (with_exits exits more)
exits-with exits [] are others = are
exits-with exits (x ∷ more) are others = exits-with (counted x.value x.runs exits) more (exits-counted x.value x.runs others.0 exits are) others.2

-- ---- one list

not_less_itself : (v : ℤ) → int_cmp v v ≡ Less → ⊥
not_less_itself v less = let equal : int_cmp v v ≡ Equal = tied_itself int_cmp_total v in let no : Less ≡ Equal = sym less ∙ equal in cc

apart : (v w : ℤ) → int_cmp v w ≡ Less → int_eq w v ≡ false
apart v w less = by (int_eq w v) refl
  where
    by : (b : Bool) → int_eq w v ≡ b → int_eq w v ≡ false
    by false is = is
    by true is =
        let same : w ≡ v = (Decides-int_eq w v).0 is in
        let P : ℤ → Type 0 = λ u. int_cmp v u ≡ Less in absurd (not_less_itself v (subst P same less))

same_value : (v : ℤ) → int_eq v v ≡ true
same_value v = (Decides-int_eq v v).1 refl

none_below : (v : ℤ) (exits : List Exit) → IsBelow v exits → ended_with v exits ≡ 0
none_below v [] below = refl
none_below v (x ∷ exits) below =
    let head : (if int_eq x.value v then x.runs else 0) ≡ 0 = ap (λ b. if b then x.runs else 0) (apart v x.value below.0) in
    let rest = none_below v exits below.1 in omega arith

first_ended : (x : Exit) (exits : List Exit) → IsBelow x.value exits → ended_with x.value (x ∷ exits) ≡ x.runs
first_ended x exits below =
    let head : (if int_eq x.value x.value then x.runs else 0) ≡ x.runs = ap (λ b. if b then x.runs else 0) (same_value x.value) in
    let rest = none_below x.value exits below in omega arith

abbrev SameEnds : List Exit → List Exit → Type 0
SameEnds one other = (v : ℤ) → ended_with v one ≡ ended_with v other

pub exits_are_one : (one other : List Exit) → AreExits one → AreExits other → SameEnds one other → one ≡ other
exits_are_one [] [] are others ends = refl
exits_are_one [] (y ∷ other) are others ends =
    let some : 1 ≤ y.runs = others.0 in let here = first_ended y other others.1 in let same = ends y.value in absurd (omega arith)
exits_are_one (x ∷ one) [] are others ends =
    let some : 1 ≤ x.runs = are.0 in let here = first_ended x one are.1 in let same = ends x.value in absurd (omega arith)
exits_are_one (x ∷ one) (y ∷ other) are others ends = by (exits_are_one one other are.2 others.2) (int_cmp x.value y.value) refl
  where
    by : (SameEnds one other → one ≡ other) → (o : Ordering) → int_cmp x.value y.value ≡ o → x ∷ one ≡ y ∷ other
    by later Less is =
        let some : 1 ≤ x.runs = are.0 in
        let here = first_ended x one are.1 in
        let none = none_below x.value (y ∷ other) (is, lower x.value y.value is other others.1) in
        let same = ends x.value in absurd (omega arith)
    by later Greater is =
        let some : 1 ≤ y.runs = others.0 in
        let turned : int_cmp y.value x.value ≡ Less = int_cmp_total.antisymm y.value x.value ∙ ap ordering_reverse is in
        let here = first_ended y other others.1 in
        let none = none_below y.value (x ∷ one) (turned, lower y.value x.value turned one are.1) in
        let same = ends y.value in absurd (omega arith)
    by later Equal is =
        let value : x.value ≡ y.value = (Decides-int_eq x.value y.value).0 (ap is_eq is) in
        let here = first_ended x one are.1 in
        let there = first_ended y other others.1 in
        let same : ended_with x.value (x ∷ one) ≡ ended_with y.value (y ∷ other) = ends x.value ∙ ap (λ v. ended_with v (y ∷ other)) value in
        let runs : x.runs ≡ y.runs = omega arith in
        let heads : (v : ℤ) → (if int_eq x.value v then x.runs else 0) ≡ (if int_eq y.value v then y.runs else 0) = (λ v i. if int_eq (value i) v then runs i else 0) in
        let rest : one ≡ other = later (λ v. let all = ends v in let head = heads v in omega arith) in
        λ i. record { value = value i; runs = runs i } ∷ rest i
