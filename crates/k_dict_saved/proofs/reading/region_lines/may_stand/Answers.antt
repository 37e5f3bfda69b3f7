use Rattle.std.proofs.Common.{◌↔◌, IsTrue, Option, sym, ap, ◌∙◌, subst, None}
use Rattle.k_optab.specs.declared.region.Region.{Region}
use Rattle.k_dict_saved.specs.Lines.{MayStand, last_of}
use Rattle.k_dict_saved.proofs.RegionSteps.{last_push}
use Rattle.k_dict_saved.proofs.reading.region_lines.may_stand.Goals as goal

pub returns-in-Some : goal.returns-in-Some
returns-in-Some c =
    let P : Option Region → Type 0 = λ o. IsTrue c.stands_behind.result ↔ MayStand o c.args.region.now in
    subst P (sym (ap last_of c.in-Some.ensures.cases.0 ∙ last_push None c.in-Some.field-0-1.now c.in-Some.last.now)) c.stands_behind.ensures
