use Rattle.k_sum_read.proofs.ExitSteps.{counts_reach, no_exits, no_first, no_runs}
use Rattle.k_sum_read.proofs.head.count_lines.Goals as goal

pub returns-in_default : goal.returns-in_default
returns-in_default c = no_first c.args.text.now c.in_default.ensures

pub returns-in_default-named : goal.returns-in_default-named
returns-in_default-named c = no_runs c.args.text.now c.in-Some.runs_text.now c.in-Some.ensures c.in_default-named.ensures.value

pub returns-in_default-named-2 : goal.returns-in_default-named-2
returns-in_default-named-2 c =
    no_exits c.args.text.now c.in-Some.runs_text.now c.in-Some.ensures c.in-Some-named.runs c.in-Some-named.exits_text.now c.in-Some-named.ensures.value c.in_default-named-2.ensures.value

pub returns : goal.returns
returns c =
    counts_reach c.args.text.now c.in-Some.runs_text.now c.in-Some.ensures c.in-Some-named.runs c.in-Some-named.exits_text.now c.in-Some-named.ensures.value
    c.in-Some-named-2.count c.in-Some-named-2.rest.now c.in-Some-named-2.ensures.value
