use Rattle.std.proofs.Common.{subst, sym, None}
use Rattle.k_replay_record.specs.Recorded.{IsRecorded}
use Rattle.k_replay_record.proofs.Recording.{recorded_none}
use Rattle.k_replay_record.proofs.recorder.Recorder.new.Goals as goal

pub returns-clause-recorded : goal.returns-clause-recorded
returns-clause-recorded c =
    subst IsRecorded (λ i. record { steps = sym c.new.ensures i; values = sym c.new-2.ensures.items i; output = sym c.new-3.ensures.items i; last = None }) recorded_none
