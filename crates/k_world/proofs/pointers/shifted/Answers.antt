use Rattle.std.proofs.Common.{◌^◌, ◌<◌, FitsSigned, rules, ◌∙◌, ap, ℤ}
use Rattle.std.specs.Int.{w128}
use Rattle.std.proofs.lemmas.Int.{to_z-of_z}
use Rattle.k_mem.specs.Calls.{shift_of}
use Rattle.k_world.specs.Acts.{distance}
use Rattle.k_world.specs.Answers.{near}
use Rattle.k_world.proofs.Near.{shift_near}
use Rattle.k_world.proofs.pointers.shifted.Goals as goal

pub returns : goal.returns
returns c =
    let small : c.args.at.offset < 2 ^ 64 = search rules in
    let by_fits : FitsSigned w128 c.args.by = search rules in
    let fits : FitsSigned w128 c.distance.result = search rules in
    c.shift.ensures.pointer
    ∙ ap (λ (n : ℤ). shift_of c.args.objects.now c.args.at n) (to_z-of_z w128 c.distance.result fits ∙ c.distance.ensures ∙ ap (λ (n : ℤ). distance c.args.minus c.args.scale (near n)) (to_z-of_z w128 c.args.by by_fits))
    ∙ shift_near c.args.objects.now c.args.at c.args.minus c.args.scale c.args.by c.shift.ensures.laid_out small
