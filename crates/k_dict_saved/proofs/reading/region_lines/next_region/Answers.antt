use Rattle.std.proofs.Common.{sym, ◌∙◌, ℕ, List, Bor}
use Rattle.k_optab.specs.declared.region.Region.{Region}
use Rattle.std.proofs.lemmas.Bool.{false≢true}
use Rattle.k_dict_saved.specs.Lines.{last_of}
use Rattle.k_dict_saved.proofs.RegionSteps.{no_other_region, refused_region}
use Rattle.k_dict_saved.proofs.Spelled.{region_takes}
use Rattle.k_dict_saved.proofs.reading.region_lines.next_region.Goals as goal

pub returns-in-Err : goal.returns-in-Err
returns-in-Err c =
    let view : Region × Bor (List ℕ) → Region × List ℕ = λ found. (found.0, found.1.now) in
    refused_region view c.args.before.now c.args.text.now c.in-Err.stop c.in-Err.ensures

pub returns-then-may_stand : goal.returns-then-may_stand
returns-then-may_stand c =
    let takes = region_takes c.args.text.now c.in-Ok.region c.in-Ok.rest.now c.in-Ok.ensures in
    (takes.1, c.may_stand.ensures.0 c.if-may_stand.true, takes.0)

pub returns-else-may_stand : goal.returns-else-may_stand
returns-else-may_stand c =
    no_other_region (last_of c.args.before.now) c.args.text.now c.in-Ok.rest.now c.in-Ok.region c.in-Ok.ensures
    (λ stands. false≢true (sym c.if-may_stand.false ∙ c.may_stand.ensures.1 stands))
