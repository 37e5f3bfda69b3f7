use Rattle.std.proofs.Common.{◌≡◌, ℕ, List, length, ◌+◌, ◌%◌, ◌^◌, get_or, ap, ◌∙◌, arith, replicate}
use Rattle.std.proofs.lemmas.List.{length-replicate}
use Rattle.std.proofs.lemmas.Simd.{get_or-zip2, get_or-replicate}
use Rattle.k_shadow.proofs.time_lanes.SimdU32TimeLanes.delayed.Goals as goal

pub returns : goal.returns
returns g c k lt =
    let n = g.row.N in
    let delays : List ℕ = replicate n c.args.latency in
    let all : length delays ≡ n = length-replicate n c.args.latency in
    let wide = c.fits-self.0 in
    get_or-zip2 (λ (x y : ℕ). (x + y) % 2 ^ 32) c.args.self delays k 0 0 0 (omega (arith, wide, all)) (omega (arith, wide, lt))
    ∙ ap (λ y. (get_or c.args.self k 0 + y) % 2 ^ 32) (get_or-replicate n k c.args.latency 0 lt)
