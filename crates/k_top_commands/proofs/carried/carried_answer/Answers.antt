use Rattle.k_top_lemmas.specs.Parts.{running_of}
use Rattle.k_top_lemmas.proofs.Machine.{carried_returned}
use Rattle.k_top_commands.proofs.carried.carried_answer.Goals as goal

pub returns-in-Returned : goal.returns-in-Returned
returns-in-Returned c =
    carried_returned (running_of c.args.ready.now) c.args.depth c.args.storage c.in_ok-found.found c.in_ok-found.ensures c.in-Returned._exit c.in-Returned.is
    c.as_slice.result.now c.as_slice.ensures c.done.result c.in_ok-text-in-Returned.text.items c.in_ok-text-in-Returned.ensures c.done.ensures
