use Rattle.std.proofs.Common.{Bool, ℕ, ◌+◌, ◌*◌, ◌<◌, ◌∙◌, List, [], ◌∷◌, Option, IfSome, ap, length, subst, sym}
use Rattle.k_code.specs.declared.instruction.Arg.{Arg}
use Rattle.k_hcpa_meaning.specs.Timings.{Location, Timing, given_to_all, operated}
use Rattle.k_hcpa_times.specs.Seen.{AreBelow, levels, made}
use Rattle.k_hcpa_instructions.specs.Kinds.{HaveRoom, depends_by, held_by}
use Rattle.k_hcpa_instructions.specs.AtOnce.{made_so}
use Rattle.k_hcpa_instructions.proofs.AtOnce.{plain_depends, plain_held, plain_made}
use Rattle.k_hcpa_instructions.proofs.operation.operation_times.Goals as goal

pub operate_one-requires-clause-arg : goal.operate_one-requires-clause-arg
operate_one-requires-clause-arg g c =
    subst (λ (args : List Arg). AreBelow c.args.first (g.T.Timed.seen c.args.times.now).registers args) c.in-One.ensures.1 c.requires.operands

pub operate_one-requires-clause-below : goal.operate_one-requires-clause-below
operate_one-requires-clause-below g c =
    subst (λ (o : Option ℕ). IfSome o (λ r. c.args.first + r < (g.T.Timed.seen c.args.times.now).registers)) (c.requires.sets ∙ c.in-One.ensures.2) c.requires.below

pub operate_one-requires-clause-room : goal.operate_one-requires-clause-room
operate_one-requires-clause-room g c =
    (subst (λ (held : List Location). HaveRoom (g.T.Timed.room c.args.times.now) held)
    (plain_held c.args.first c.args.instr.now.act c.args.element c.in-One.r c.in-One.ensures.0 c.in-One.ensures.2) c.requires.room).0

pub operate_two-requires-clause-args : goal.operate_two-requires-clause-args
operate_two-requires-clause-args g c =
    subst (λ (args : List Arg). AreBelow c.args.first (g.T.Timed.seen c.args.times.now).registers args) c.in-Two.ensures.1 c.requires.operands

pub operate_two-requires-clause-below : goal.operate_two-requires-clause-below
operate_two-requires-clause-below g c =
    subst (λ (o : Option ℕ). IfSome o (λ r. c.args.first + r < (g.T.Timed.seen c.args.times.now).registers)) (c.requires.sets ∙ c.in-Two.ensures.2) c.requires.below

pub operate_two-requires-clause-room : goal.operate_two-requires-clause-room
operate_two-requires-clause-room g c =
    (subst (λ (held : List Location). HaveRoom (g.T.Timed.room c.args.times.now) held)
    (plain_held c.args.first c.args.instr.now.act c.args.element c.in-Two.r c.in-Two.ensures.0 c.in-Two.ensures.2) c.requires.room).0

pub returns-in-One-clause-times : goal.returns-in-One-clause-times
returns-in-One-clause-times g c =
    c.operate_one.ensures.given
    ∙ plain_made c.args.first c.args.instr.now c.args.element (c.in-One.a.now ∷ []) c.in-One.r (g.T.Timed.seen c.args.times.now) c.in-One.ensures.0 c.in-One.ensures.1 c.in-One.ensures.2

pub returns-in-Two-clause-times : goal.returns-in-Two-clause-times
returns-in-Two-clause-times g c =
    c.operate_two.ensures.given
    ∙ plain_made c.args.first c.args.instr.now c.args.element (c.in-Two.a.now ∷ c.in-Two.b.now ∷ []) c.in-Two.r (g.T.Timed.seen c.args.times.now) c.in-Two.ensures.0 c.in-Two.ensures.1
    c.in-Two.ensures.2

pub returns-in-Other-clause-times : goal.returns-in-Other-clause-times
returns-in-Other-clause-times g c =
    let i = c.args.instr.now in
    let change : Timing → Timing = λ t. given_to_all (held_by c.args.first i.act c.args.element) (operated (depends_by c.args.first i.act c.args.element) i.latency t) in
    c.operate_by_parts.ensures.times ∙ ap (λ (once : Bool). made (made_so once change) (g.T.Timed.seen c.args.times.now)) (sym c.in-Other.ensures)

pub returns-in-One-clause-steps : goal.returns-in-One-clause-steps
returns-in-One-clause-steps g c =
    c.operate_one.ensures.steps
    ∙ ap (λ (on : List Location). c.args.steps.now + (1 + length on) * levels (g.T.Timed.seen c.args.times.now))
    (sym (plain_depends c.args.first c.args.instr.now.act c.args.element (c.in-One.a.now ∷ []) c.in-One.ensures.0 c.in-One.ensures.1))

pub returns-in-Two-clause-steps : goal.returns-in-Two-clause-steps
returns-in-Two-clause-steps g c =
    c.operate_two.ensures.steps
    ∙ ap (λ (on : List Location). c.args.steps.now + (1 + length on) * levels (g.T.Timed.seen c.args.times.now))
    (sym (plain_depends c.args.first c.args.instr.now.act c.args.element (c.in-Two.a.now ∷ c.in-Two.b.now ∷ []) c.in-Two.ensures.0 c.in-Two.ensures.1))
