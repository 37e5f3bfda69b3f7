use Rattle.std.proofs.Common.{◌↔◌, IsTrue, Option, sym, ap, ◌∙◌, subst, None}
use Rattle.k_optab.specs.declared.region.Region.{Region}
use Rattle.k_dict_saved.specs.Lines.{IsClosed, last_of}
use Rattle.k_dict_saved.proofs.RegionSteps.{last_push}
use Rattle.k_dict_saved.proofs.reading.region_lines.are_closed.Goals as goal

pub returns-in-Some : goal.returns-in-Some
returns-in-Some c =
    let P : Option Region → Type 0 = λ o. IsTrue c.is_no_loop.result ↔ IsClosed o in
    subst P (sym (ap last_of c.in-Some.ensures.cases.0 ∙ last_push None c.in-Some.field-0-1.now c.in-Some.last.now)) c.is_no_loop.ensures
