use Rattle.k_optab.specs.Events.{operations}
use Rattle.k_report.proofs.Lines.{instance_added, instances_end}
use Rattle.k_report.proofs.instance_lines.push_instances.Goals as goal

pub loop-number-preserved : goal.loop-number-preserved
loop-number-preserved c = record {
  place = c.position_of-at.ensures.place;
  so_far = c.position_of-at.ensures.so_far;
  lines = instance_added (operations c.args.events.now) c.args.tree.now c.loop-number.number _ c.in_ok-nodes.nodes c.as_slice.result.now c.args.text.now.items c.loop-number.text.items
      c.push_instance.new.text.items c.loop-number-test.true c.in_ok-nodes.ensures c.as_slice.ensures c.in_ok-push_instance.ensures c.loop-number.invariant.lines;
}

pub returns : goal.returns
returns c =
    instances_end (operations c.args.events.now) c.args.tree.now c.loop-number.number c.args.text.now.items c.loop-number.text.items c.loop-number-test.false c.loop-number.invariant.lines
