use Rattle.std.proofs.Common.{◌≡◌, Option, Some}
use Rattle.k_lex_expansion.specs.declared.tokens.Listed.{Listed}
use Rattle.k_lex_expansion.specs.Pasting.{pasted_of}
use Rattle.k_lex_expansion.proofs.ReplacingLaws.{glue_some}
use Rattle.k_lex_expansion.proofs.pasting.glue_first.Goals as goal

pub returns-in_ok-push_copies-in-Some : goal.returns-in_ok-push_copies-in-Some
returns-in_ok-push_copies-in-Some c =
    let token : ◌≡◌ {A = Option Listed} (Some c.in-Some.token) (pasted_of c.args.last.now c.args.first.now) = cc (c.in-Some.is, c.in_ok-pasted_of.ensures) in
    glue_some c.args.list.now c.args.last.now c.args.first.now c.args.rest.now c.push.new.self c.push_copies.new.list c.in-Some.token
    token c.in_ok-push-in-Some.ensures.ok c.in_ok-push_copies-in-Some.ensures
