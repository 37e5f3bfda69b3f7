use Rattle.k_lex_macros.proofs.PlanLaws
use Rattle.k_lex_macros.proofs.macros.Macros.size_of.Goals as goal

pub returns : goal.returns
returns c = PlanLaws.sizes_of_plan _ _ _ _ _ (PlanLaws.plan_of_number c.args.self.now c.args.number c.index.result.now c.requires.planned c.requires.there c.index.ensures)
