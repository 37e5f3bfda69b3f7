use Rattle.std.proofs.Common.{◌≡◌, ap, arith, w32}
use Rattle.std.proofs.lemmas.Int.{to_z-of_z}
use Rattle.std.proofs.lemmas.Result.{IfOk-weaker}
use Rattle.k_plan.specs.declared.limits.Limits.{Limits}
use Rattle.k_data_profile.specs.Pages.{IsPage}
use Rattle.k_data_profile.proofs.Pages.{planned_page}
use Rattle.k_data_profile.proofs.paged.with_plan.Goals as goal

pub plan-requires-clause-sp : goal.plan-requires-clause-sp
plan-requires-clause-sp c = let is : c.standard_limits.result.sp ≡ 5 = ap (λ (l : Limits). l.sp) c.standard_limits.ensures in omega (arith, is)

pub returns : goal.returns
returns c =
    IfOk-weaker c.page.result _ (λ text. IsPage c.args.name.now c.args.source.now c.args.saved.now c.args.with_dict text.items)
    (λ text is. planned_page c.args.name.now c.args.source.now c.args.saved.now c.args.with_dict c.args.rows.now c.args.contexts.now c.in_ok-advice.advice
    c.standard_limits.result _ c.args.work c.args.path _ text.items c.requires.rows c.requires.contexts c.requires.can_plan c.standard_limits.ensures
    (to_z-of_z w32 c.args.saved.now.exit c.requires.saved.exit) c.requires.work c.requires.path c.listed.ensures c.in_ok-advice.ensures.plan is)
    c.page.ensures
