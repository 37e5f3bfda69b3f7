use Rattle.std.proofs.Common.{◌≡◌, ◌≤◌, ℕ, List, length, map, false, cond, leb, ltb, get_or, ap, ◌∙◌, arith, w32, replicate, Fits}
use Rattle.std.proofs.lemmas.Bool.Decides.{nat_tests}
use lib.Lanes.{top, zip2, sel_l}
use Rattle.std.proofs.lemmas.Simd.{Each1-get_or, tops_compared, length-zip2, length-sel_l, get_or-sel_l, get_or-zip2, get_or-replicate}
use Rattle.std.proofs.lemmas.List.{length-replicate}
use Rattle.k_shadow.proofs.time_lanes.SimdU32TimeLanes.begun.Goals as goal

begun_one : (start stamp time : ℕ) → time ≤ 4294967295 → cond (ltb time (cond (ltb stamp start) 0 4294967295)) time (cond (ltb stamp start) 0 4294967295) ≡ cond (leb start stamp) time 0
begun_one start stamp time most = grind (arith, nat_tests)

pub returns : goal.returns
returns g c k lt =
    let n = g.row.N in
    let self = c.args.self in
    let starts = c.args.starts in
    let whens : List ℕ = replicate n c.args.stamp in
    let none : List ℕ = replicate n 0 in
    let most : List ℕ = replicate n 4294967295 in
    let wide = c.fits-self.0 in
    let as_wide = c.fits-starts.0 in
    let stamps : length whens ≡ n = length-replicate n c.args.stamp in
    let zeros : length none ≡ n = length-replicate n 0 in
    let ones : length most ≡ n = length-replicate n 4294967295 in
    let small : get_or self k 0 ≤ 4294967295 = let f = Each1-get_or (Fits w32) self k 0 (omega (arith, wide, lt)) c.fits-self.1 in omega (arith, f.fits) in
    let later = zip2 ltb whens starts in
    let long : length later ≡ n = length-zip2 ltb whens starts (omega (arith, as_wide, stamps)) ∙ stamps in
    let is : get_or later k false ≡ ltb c.args.stamp (get_or starts k 0) = get_or-zip2 ltb whens starts k 0 0 false (omega (arith, stamps, lt)) (omega (arith, as_wide, lt)) ∙ ap (λ s. ltb s (get_or starts k 0)) (get_or-replicate n k c.args.stamp 0 lt) in
    let live = sel_l later none most in
    let live_long : length live ≡ n = length-sel_l later none most (omega (arith, long, zeros)) (omega (arith, long, ones)) ∙ long in
    let here : get_or live k 0 ≡ cond (ltb c.args.stamp (get_or starts k 0)) 0 4294967295 = get_or-sel_l later none most k 0 (omega (arith, long, lt)) (omega (arith, zeros, lt)) (omega (arith, ones, lt))
    ∙ ap (λ t. cond t (get_or none k 0) (get_or most k 0)) is
    ∙ (λ i. cond (ltb c.args.stamp (get_or starts k 0)) (get_or-replicate n k 0 0 lt i) (get_or-replicate n k 4294967295 0 lt i)) in
    let below = zip2 ltb self live in
    let below_long : length below ≡ n = length-zip2 ltb self live (omega (arith, wide, live_long)) ∙ wide in
    ap (λ l. get_or l k 0) (ap (λ ms. sel_l (map (top 31) (zip2 (λ a b. cond (ltb a b) 4294967295 0) self (sel_l ms none most))) self (sel_l ms none most)) (tops_compared w32 ltb whens starts)
    ∙ ap (λ ms. sel_l ms self live) (tops_compared w32 ltb self live))
    ∙ get_or-sel_l below self live k 0 (omega (arith, below_long, lt)) (omega (arith, wide, lt)) (omega (arith, live_long, lt))
    ∙ ap (λ t. cond t (get_or self k 0) (get_or live k 0)) (get_or-zip2 ltb self live k 0 0 false (omega (arith, wide, lt)) (omega (arith, live_long, lt)))
    ∙ ap (λ l. cond (ltb (get_or self k 0) l) (get_or self k 0) l) here
    ∙ begun_one (get_or starts k 0) c.args.stamp (get_or self k 0) small
