use Rattle.std.proofs.Common.{◌+◌, ap, ◌∙◌}
use Rattle.k_lex_expanding.specs.declared.calls.Level.{Level}
use Rattle.k_lex_expanding.proofs.StepLaws.{begin_told}
use Rattle.k_lex_expanding.proofs.machine.Machine.begin.Goals as goal

pub returns-in_ok-push-in-Some : goal.returns-in_ok-push-in-Some
returns-in_ok-push-in-Some c =
    begin_told c.args.limit c.args.call c.args.written c.args.self.now c.replace-behind.new.dest c.replace-behind.result c.push.new.self c.in-Some.made
    (ap (λ (l : Level). l.list) c.replace-behind.ensures.after ∙ c.in_ok-list-in-Some.ensures ∙ c.as_slice.ensures)
    (ap (λ (l : Level). l.tokens) c.replace-behind.ensures.after ∙ c.new-tokens.ensures)
    c.replace-behind.ensures.value c.in_ok-push-in-Some.ensures
    (c.in-Some.ensures.within.0 ∙ ap (λ n. c.args.self.now.made + n) c.len.ensures) c.in-Some.ensures.within.1
