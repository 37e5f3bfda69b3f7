use Rattle.std.proofs.Common.{◌∙◌, List, ap}
use Rattle.k_world.specs.declared.value.Read.{Read}
use Rattle.k_replay_recording.specs.Steps.{step_of}
use Rattle.k_world.specs.Answers.{act_of}
use Rattle.k_replay_code.proofs.Adding.{adds_step, told_as}
use Rattle.k_replay_code.proofs.tape.note.Goals as goal

pub returns : goal.returns
returns c =
    adds_step (told_as (act_of c.args.act) c.args.tape.now.reads.items c.args.done.now) c.in_ok-made.made c.args.tape.now.recorder c.push.new.self c.in-Ok.given
    (c.in_ok-made.ensures
    ∙ ap (λ (reads : List Read). step_of (act_of c.args.act) reads c.args.done.now.hidden c.args.done.now.control c.args.done.now.held.value) c.deref.ensures.value)
    c.in-Ok.ensures.value (c.in_ok-same.ensures ∙ c.recorded_value-value.ensures) c.in-Ok.ensures.steps c.in-Ok.ensures.recorded
