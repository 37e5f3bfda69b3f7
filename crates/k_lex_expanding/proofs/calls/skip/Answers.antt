use Rattle.std.proofs.Common.{◌≡◌, false, length, arith, ap}
use Rattle.k_lex_expansion.specs.Replacing.{asks}
use Rattle.k_lex_expanding.proofs.ArgumentLaws.{passes_one}
use Rattle.k_lex_expanding.proofs.calls.skip.Goals as goal

pub loop-written-preserved : goal.loop-written-preserved
loop-written-preserved c =
    let unasked : asks (length c.loop-written.complete) c.args.body.now ≡ false = cc (c.if-asks.false, c.asks.ensures, c.len.ensures) in
    record {
      passes = passes_one c.args.body.now c.args.complete.now c.loop-written.complete c.push.new.self c.args.waiting.now c.loop-written.waiting c.pop.new.self c.in-Some.written c.new-expanded.result
          c.loop-written.invariant.passes c.in-Some.ensures unasked c.new-expanded.ensures c.in_ok-push.ensures.ok;
      short = omega (arith, c.loop-written.invariant.short, ap length c.in-Some.ensures);
    }
