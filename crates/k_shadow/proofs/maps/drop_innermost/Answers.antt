use Rattle.std.proofs.Common.{◌≡◌, ◌+◌, ◌-◌, ◌≤◌, length, take, vec_len, ap, ◌∙◌, arith, rules}
use Rattle.k_shadow.specs.Maps.{levels_in}
use Rattle.k_shadow.proofs.Plain.{levels_in-left}
use Rattle.k_shadow.proofs.maps.drop_innermost.Goals as goal

pub returns-else-len-depth-clause-levels : goal.returns-else-len-depth-clause-levels
returns-else-len-depth-clause-levels c =
    let maps = c.args.maps.now in
    let less = c.args.depth - 1 in
    let counted : vec_len maps ≡ length maps.items = search rules in
    let few : length maps.items ≤ less = omega arith in
    let e : less + 1 ≡ c.args.depth = omega arith in
    levels_in-left maps.items less few ∙ ap (λ d. take less (levels_in maps.items d)) e
