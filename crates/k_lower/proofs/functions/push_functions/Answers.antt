use Rattle.std.proofs.Common.{ℕ, ◌+◌, ap, ◌∙◌}
use Rattle.k_lower.specs.Sources.{program_of}
use Rattle.k_lower.proofs.Listed.{is_there, more_code, more_funcs}
use Rattle.k_lower.proofs.functions.push_functions.Goals as goal

pub push_function-requires : goal.push_function-requires
push_function-requires c =
    c.requires c.loop-f.number c.f-item.result
    (is_there c.args.source.now.unit.now.functions c.as_slice-f-items.result.now c.loop-f.number c.loop-f.f-index c.f-item.result
    c.as_slice-f-items.ensures c.loop-f.invariant.number c.loop-f-test.true c.f-item.is)

pub loop-f-preserved : goal.loop-f-preserved
loop-f-preserved c =
    let program = program_of c.args.source.now in
    record {
      number = c.in_ok-number.ensures ∙ ap (λ (n : ℕ). n + 1) c.loop-f.invariant.number;
      funcs = more_funcs program c.as_slice-f-items.result.now c.loop-f.number c.loop-f.f-index c.f-item.result c.in_ok-number.number
          c.loop-f.out.items c.push_function.new.out.items c.loop-f.funcs.items c.push_function.new.funcs.items _
          c.in_ok-number.ensures c.loop-f-test.true c.f-item.is c.in_ok-push_function.ensures.code c.in_ok-push_function.ensures.func c.loop-f.invariant.funcs;
      code = more_code program c.as_slice-f-items.result.now c.loop-f.number c.loop-f.f-index c.f-item.result c.in_ok-number.number
          c.loop-f.out.items c.push_function.new.out.items _
          c.in_ok-number.ensures c.loop-f-test.true c.f-item.is c.in_ok-push_function.ensures.code c.loop-f.invariant.code;
    }
