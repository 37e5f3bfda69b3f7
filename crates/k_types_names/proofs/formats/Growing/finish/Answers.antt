use Rattle.std.proofs.Common.{Some, ap}
use Rattle.k_types_names.specs.declared.formats.Format.{Format}
use Rattle.k_types_names.proofs.Growth.{ended}
use Rattle.k_types_names.proofs.formats.Growing.finish.Goals as goal

pub returns : goal.returns
returns c =
    ap (λ (format : Format). Some format)
    (ended c.args.self c.end_bytes.new.self.pieces c.end_bytes.new.self.kinds c.in_ok-end_bytes.ensures.pieces c.in_ok-end_bytes.ensures.kinds)
