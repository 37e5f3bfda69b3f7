use Rattle.k_top_lemmas.proofs.Machine.{summed_shown}
use Rattle.k_top_commands.proofs.demo.profile_answer.Goals as goal

pub summary-requires : goal.summary-requires
summary-requires c =
    summed_shown c.args.ready.now 24 c.requires.fit c.requires.profile.0 c.args.profile c.requires.profile.1 c.in-Returned.exit c.in-Returned.is c.dict_of.result c.dict_of.ensures
