use Rattle.std.proofs.Common.{List, ℕ, ◌-◌, ◌≤◌, take, subst, arith}
use Rattle.std.proofs.lemmas.List.{take-take}
use Rattle.k_shadow.specs.Numbers.{AreRising, WereGiven}
use Rattle.k_shadow.proofs.Rows.{WereGiven-take, AreRising-take}
use Rattle.k_shadow.proofs.versions.Versions.leave.Goals as goal

pub invariant_of-self : goal.invariant_of-self
invariant_of-self c =
    let s = c.self.inside in
    let P : List ℕ → Type 0 = λ ns. WereGiven s.given ns in
    let Q : List ℕ → Type 0 = λ ns. AreRising 0 ns in
    let fewer : s.depth - 1 ≤ s.depth = omega arith in
    let same = take-take (s.depth - 1) s.depth s.numbers fewer in
    (omega arith, subst P same (WereGiven-take s.given (s.depth - 1) (take s.depth s.numbers) c.self.invariant.1), subst Q same (AreRising-take 0 (s.depth - 1) (take s.depth s.numbers) c.self.invariant.2), λ k lt. c.self.invariant.3 k (omega (arith, lt)))
