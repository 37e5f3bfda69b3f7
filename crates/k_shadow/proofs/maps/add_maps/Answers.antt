use Rattle.std.proofs.Common.{◌≡◌, ◌<◌, [], ◌∷◌, ◌++◌, length, vec_len, ◌+◌, ap, ◌∙◌, arith, rules}
use Rattle.k_shadow.specs.Maps.{levels_in}
use Rattle.k_shadow.proofs.Plain.{levels_in-push, empty_time}
use Rattle.k_shadow.proofs.maps.add_maps.Goals as goal

pub loop-level-preserved : goal.loop-level-preserved
loop-level-preserved c =
    let j = c.loop-level in
    let m = c.new.result in
    let pushed : c.push.new.self.items ≡ j.maps.items ++ m ∷ [] = c.in_ok-push.ensures.items in
    let counted : vec_len j.maps ≡ length j.maps.items = search rules in
    let few : length j.maps.items < c.args.count = omega (arith, j.invariant.counted) in
    let more : vec_len c.push.new.self ≡ vec_len j.maps + 1 = c.in_ok-push.ensures.len in
    record {
      counted = omega (arith, j.invariant.counted);
      longer = omega (arith, j.invariant.longer);
      unchanged = λ h. absurd (omega (arith, j.invariant.longer));
      levels = ap (λ maps. levels_in maps c.args.count) pushed ∙ levels_in-push j.maps.items m c.args.count few (empty_time m c.new.ensures.empty) ∙ j.invariant.levels;
    }
