use Rattle.std.proofs.Common.{◌∷◌, [], ◌+◌, ◌*◌, ◌∙◌, List, ap, length, refl}
use Rattle.k_code.specs.declared.instruction.Arg.{Arg}
use Rattle.k_hcpa_meaning.specs.Locations.{operand_locations}
use Rattle.k_hcpa_meaning.specs.Timings.{raised_all}
use Rattle.k_hcpa_times.specs.Seen.{Seen, made}
use Rattle.k_hcpa_times.proofs.Args.{below_on, is_below, levels_on, raised_by_more, steps_on}
use Rattle.k_hcpa_instructions.proofs.operands.raise_two.Goals as goal

pub raise_arg-requires : goal.raise_arg-requires
raise_arg-requires g c =
    let s : Seen = g.T.Timed.seen c.args.times.now in
    is_below c.args.first s.registers c.args.a (c.args.b ∷ []) (c.args.a ∷ c.args.b ∷ []) refl c.requires

pub raise_arg-requires-2 : goal.raise_arg-requires-2
raise_arg-requires-2 g c =
    below_on c.args.first c.args.a (c.args.b ∷ []) (c.args.a ∷ c.args.b ∷ []) (g.T.Timed.seen c.args.times.now) (g.T.Timed.seen c.raise_arg.new.self) refl c.raise_arg.ensures.raised
    c.requires

pub returns-clause-raised : goal.returns-clause-raised
returns-clause-raised g c =
    let s : Seen = g.T.Timed.seen c.args.times.now in
    c.raise_arg-2.ensures.raised
    ∙ ap (λ (x : Seen). made (raised_all (operand_locations c.args.first (c.args.b ∷ []))) x) c.raise_arg.ensures.raised
    ∙ ap (λ t. record s { timing = t }) (raised_by_more c.args.first c.args.a (c.args.b ∷ []) s.timing)

pub returns-clause-steps : goal.returns-clause-steps
returns-clause-steps g c =
    let s : Seen = g.T.Timed.seen c.args.times.now in
    let t : Seen = g.T.Timed.seen c.raise_arg.new.self in
    let whole : List Arg = c.args.a ∷ c.args.b ∷ [] in
    let live = levels_on c.args.first c.args.a s t c.raise_arg.ensures.raised in
    c.raise_arg-2.ensures.steps
    ∙ steps_on c.args.first c.args.a (c.args.b ∷ []) whole whole s t c.args.steps.now c.raise_arg.new.steps c.args.steps.now refl live c.raise_arg.ensures.steps refl
    ∙ ap (λ n. c.args.steps.now + length (operand_locations c.args.first whole) * n) live
