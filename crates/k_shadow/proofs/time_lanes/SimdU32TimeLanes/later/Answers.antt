use Rattle.std.proofs.Common.{◌≡◌, ℕ, max, false, cond, ltb, get_or, ap, ◌∙◌, arith, w32}
use Rattle.std.proofs.lemmas.Bool.Decides.{nat_tests}
use lib.Lanes.{zip2, sel_l}
use Rattle.std.proofs.lemmas.Simd.{tops_compared, length-zip2, get_or-sel_l, get_or-zip2}
use Rattle.k_shadow.proofs.time_lanes.SimdU32TimeLanes.later.Goals as goal

later_one : (x y : ℕ) → cond (ltb x y) y x ≡ max x y
later_one x y = grind (arith, nat_tests)

pub returns : goal.returns
returns g c k lt =
    let a = c.args.self in
    let b = c.args.other in
    let wide = c.fits-self.0 in
    let as_wide = c.fits-other.0 in
    let long = length-zip2 ltb a b (omega (arith, wide, as_wide)) in
    ap (λ l. get_or l k 0) (ap (λ ms. sel_l ms b a) (tops_compared w32 ltb a b))
    ∙ get_or-sel_l (zip2 ltb a b) b a k 0 (omega (arith, wide, as_wide, long)) (omega (arith, wide, as_wide)) (omega (arith, wide, long, lt))
    ∙ ap (λ t. cond t (get_or b k 0) (get_or a k 0)) (get_or-zip2 ltb a b k 0 0 false (omega (arith, wide, as_wide)) (omega (arith, wide, lt)))
    ∙ later_one (get_or a k 0) (get_or b k 0)
