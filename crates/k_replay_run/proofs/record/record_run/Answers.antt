use Rattle.k_replay_run.proofs.Recording.{all_fit, all_flat, all_recorded}
use Rattle.k_replay_run.proofs.record.record_run.Goals as goal

pub returns-clause-flat : goal.returns-clause-flat
returns-clause-flat c =
    all_flat (record { unit = c.args.unit.now; marks = c.args.marks.now; latencies = c.args.latencies.now }) c.in_ok-code.code c.args.input.now c.args.budget
    c.record_code.result c.in_ok-code.ensures.text c.record_code.ensures

pub returns-clause-fits : goal.returns-clause-fits
returns-clause-fits c =
    all_fit (record { unit = c.args.unit.now; marks = c.args.marks.now; latencies = c.args.latencies.now }) c.in_ok-code.code c.args.input.now c.args.budget
    c.record_code.result c.in_ok-code.ensures.text c.record_code.ensures

pub returns-clause-run : goal.returns-clause-run
returns-clause-run c =
    all_recorded (record { unit = c.args.unit.now; marks = c.args.marks.now; latencies = c.args.latencies.now }) c.in_ok-code.code c.args.input.now c.args.budget
    c.record_code.result c.in_ok-code.ensures.text c.record_code.ensures
