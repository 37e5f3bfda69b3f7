use Rattle.std.proofs.Common.{◌≡◌, ◌<◌, ◌∙◌, ap, length, rules, arith}
use Rattle.std.specs.Prelude.{vec_len}
use Rattle.k_carry_pairs.specs.Gathered.{with_turn}
use Rattle.k_carry_pairs.proofs.Lasting.{last_set_at}
use Rattle.k_carry_pairs.proofs.levels.Levels.set_turn.Goals as goal

pub returns : goal.returns
returns c =
    let found = c.in-Some.ensures.item in
    let long : vec_len c.self.inside.items ≡ length c.self.inside.items.items = search rules in
    let some : 0 < length c.self.inside.items.items = found.3.0 in
    last_set_at c.self.inside.items.items (vec_len c.self.inside.items) c.in-Some.level.now c.args.made long (omega (arith, long, some)) found.1
    ∙ ap (λ levels. with_turn c.args.made levels) c.self.view_is
