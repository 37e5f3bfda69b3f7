use Rattle.k_top_lemmas.proofs.FileLemmas.{begins_not, begins_sum}
use Rattle.k_top_commands.proofs.shown.bytes_answer.Goals as goal

pub sum_answer-requires : goal.sum_answer-requires
sum_answer-requires c = begins_sum c.args.bytes.now c.in-Some.field-0.now c.in-Some.ensures

pub profile_answer-requires : goal.profile_answer-requires
profile_answer-requires c = begins_not c.args.bytes.now c.in-None.ensures
