use Rattle.std.proofs.Common.{◌∙◌, sym}
use Rattle.std.proofs.lemmas.Bool.{false≢true}
use Rattle.k_sum_read.proofs.ExitSteps.{next_exit_line, no_exit_line, other_exit_line}
use Rattle.k_sum_read.proofs.exit_lines.next_exit.Goals as goal

pub returns-in-None : goal.returns-in-None
returns-in-None c = no_exit_line c.args.runs c.args.total c.args.exits.now c.args.text.now c.requires.most c.requires.total c.requires.few c.requires.behind c.in-None.ensures

pub returns-then-may_stand : goal.returns-then-may_stand
returns-then-may_stand c =
    next_exit_line c.args.runs c.args.total c.args.exits.now c.args.text.now c.requires.most c.requires.total c.requires.few c.requires.behind c.in-Some.exit c.in-Some.rest.now
    c.in-Some.ensures (c.may_stand.ensures.0 c.if-may_stand.true)

pub returns-else-may_stand : goal.returns-else-may_stand
returns-else-may_stand c =
    other_exit_line c.args.runs c.args.total c.args.exits.now c.args.text.now c.requires.most c.requires.total c.requires.few c.requires.behind c.in-Some.exit c.in-Some.rest.now
    c.in-Some.ensures (λ here. false≢true (sym c.if-may_stand.false ∙ c.may_stand.ensures.1 here))
