use Rattle.std.proofs.Common.{Option, ap}
use Rattle.k_num.specs.declared.numbers.Kind.{Kind}
use Rattle.k_types_declarations.specs.Results.{seen}
use Rattle.k_types_statements.specs.declared.valued.Valued.{Valued}
use Rattle.k_types_statements.proofs.Values.{value_runs}
use Rattle.k_types_statements.proofs.valued.judge_value.Goals as goal

pub returns : goal.returns
returns c =
    let of_kind : Option Kind → Valued = λ kind. record { tree = c.in_ok-judged.judged.tree; kind = kind } in
    value_runs (of_kind c.kind_of-kind.result) c.in_ok-judged.judged c.args.expr.now (seen c.args.known.now) c.judge.new.taken
    c.in_ok-judged.ensures (ap of_kind c.kind_of-kind.ensures)
