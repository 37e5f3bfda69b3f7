use Rattle.std.proofs.lemmas.Result.{IfOk-weaker}
use Rattle.k_top_commands.proofs.annotated.annotate_answer.Goals as goal

pub profile_answer-requires : goal.profile_answer-requires
profile_answer-requires g c = (c.args.depth, c.in-Ok.ensures.0, c.requires.fit, c.in-Ok.ensures.2)

pub returns-in-Ok : goal.returns-in-Ok
returns-in-Ok g c =
    IfOk-weaker c.profile_answer.result _ _
    (λ answer answers. answers c.args.depth c.in-Ok.ensures.0 c.args.strict c.requires.fit c.in-Ok.ensures.2 (record { loops = c.in_ok-found.found.loops; are_carried = c.in_ok-found.ensures.are_carried; may = c.in_ok-marked.ensures })) c.profile_answer.ensures
