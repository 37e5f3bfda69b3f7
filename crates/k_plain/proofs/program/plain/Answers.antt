use Rattle.k_code.specs.Valid.{IsValid}
use Rattle.k_evaluation.specs.States.{Program}
use Rattle.k_lower.specs.Promises.{RunsAs}
use Rattle.k_plain.proofs.Listed.{all_listed, where_of_source}
use Rattle.k_plain.proofs.program.plain.Goals as goal

pub listing_of_code-requires : goal.listing_of_code-requires
listing_of_code-requires c =
    let program : Program = record { unit = c.args.unit.now; marks = c.args.marks.now; latencies = c.args.latencies.now } in
    where_of_source program c.requires (IsValid c.in_ok-code.code) c.in_ok-code.ensures.valid

pub returns : goal.returns
returns c =
    let program : Program = record { unit = c.args.unit.now; marks = c.args.marks.now; latencies = c.args.latencies.now } in
    all_listed program c.in_ok-code.code c.args.input.now c.args.budget
    (where_of_source program c.requires (RunsAs program c.in_ok-code.code) c.in_ok-code.ensures.runs) c.listing_of_code.result c.listing_of_code.ensures
