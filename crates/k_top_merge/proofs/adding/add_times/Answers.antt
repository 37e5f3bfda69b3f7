use Rattle.std.proofs.Common.{◌≡◌, ◌-◌, suc, arith}
use Rattle.k_top_lemmas.proofs.Merging.{adds_done, adds_failed, adds_more, adds_start}
use Rattle.k_top_merge.proofs.adding.add_times.Goals as goal

pub loop-left-init : goal.loop-left-init
loop-left-init c = record { from = adds_start c.args.name.now c.args.times c.args.sum.now c.args.other.now; merged = c.requires.merged }

pub returns-in-Err-clause-adds : goal.returns-in-Err-clause-adds
returns-in-Err-clause-adds c =
    let more : c.loop-left.left ≡ suc (c.loop-left.left - 1) = omega (arith, c.loop-left-test.true) in
    adds_failed c.args.name.now c.args.times c.args.sum.now c.args.other.now c.loop-left.left c.loop-left.sum c.loop-left.invariant.from (c.loop-left.left - 1) c.add.new.sum more
    c.in-Err.fault c.in-Err.ensures.adds c.not_added.result c.not_added.ensures

pub loop-left-preserved : goal.loop-left-preserved
loop-left-preserved c =
    let more : c.loop-left.left ≡ suc (c.loop-left.left - 1) = omega (arith, c.loop-left-test.true) in
    record {
      from = adds_more c.args.name.now c.args.times c.args.sum.now c.args.other.now c.loop-left.left c.loop-left.sum c.loop-left.invariant.from (c.loop-left.left - 1)
          c.add.new.sum more c.in_default.ensures.adds;
      merged = c.in_default.ensures.merged;
    }

pub returns-clause-adds : goal.returns-clause-adds
returns-clause-adds c =
    let none : c.loop-left.left ≡ 0 = omega (arith, c.loop-left-test.false) in
    adds_done c.args.name.now c.args.times c.args.sum.now c.args.other.now c.loop-left.left c.loop-left.sum c.loop-left.invariant.from none
