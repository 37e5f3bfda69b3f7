use Rattle.std.proofs.Common.{◌∙◌, sym}
use Rattle.k_hcpa_store.proofs.Telling.{back_few, back_is, back_none, back_older}
use Rattle.k_hcpa_store.proofs.state.State.back_register.Goals as goal

pub back_in-requires : goal.back_in-requires
back_in-requires c = back_few c.args.self.now c.requires c.in-Some.caller c.in-Some.ensures

pub returns-in-Some-clause-back : goal.returns-in-Some-clause-back
returns-in-Some-clause-back c = c.back_in.ensures ∙ sym (back_is c.args.self.now c.requires c.in-Some.caller c.in-Some.ensures)

pub returns-in-Some-clause-below : goal.returns-in-Some-clause-below
returns-in-Some-clause-below c = back_older c.args.self.now c.requires c.in-Some.caller c.in-Some.ensures c.back_in.result c.back_in.ensures

pub returns-in-None-clause-back : goal.returns-in-None-clause-back
returns-in-None-clause-back c = back_none c.args.self.now c.in-None.ensures
