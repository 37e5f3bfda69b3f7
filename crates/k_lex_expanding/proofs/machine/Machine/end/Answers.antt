use Rattle.std.proofs.Common.{[], ◌∷◌, ◌++◌, ap, subst, ◌∙◌}
use Rattle.k_lex_expanding.specs.declared.calls.Level.{Level}
use Rattle.k_lex_expanding.specs.Machine.{Proceeds}
use Rattle.k_lex_expanding.proofs.StepLaws.{end_next}
use Rattle.k_lex_expanding.proofs.machine.Machine.end.Goals as goal

pub returns-in_ok-push-in-Some : goal.returns-in_ok-push-in-Some
returns-in_ok-push-in-Some c =
    let waits = c.in-Some.frame in
    end_next c.proceed.result c.args.macros.now c.args.limit c.args.self.now c.proceed.new.self waits c.pop.new.self c.push.new.self c.requires.over c.in-Some.ensures
    (c.in_ok-push-in-Some.ensures.ok ∙ ap (λ (l : Level). waits.call.complete ++ record { written = waits.written; expanded = l.tokens } ∷ []) c.replace-expanded.ensures.value)
    (subst (λ (l : Level). Proceeds c.proceed.result c.args.macros.now c.args.limit (record waits.call { complete = c.push.new.self }) (record { level = l; frames = c.pop.new.self; made = c.args.self.now.made; taken = c.args.self.now.taken }) c.proceed.new.self)
    c.replace-expanded.ensures.after c.proceed.ensures)
