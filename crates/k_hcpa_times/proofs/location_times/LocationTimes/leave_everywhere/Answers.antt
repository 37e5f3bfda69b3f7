use Rattle.std.proofs.Common.{sym, subst}
use Rattle.k_hcpa_meaning.specs.Timings.{Timing}
use Rattle.k_hcpa_times.specs.Seen.{AreWithin, seen_of}
use Rattle.k_hcpa_times.proofs.HaveLevels.{all_left, timing_left}
use Rattle.k_hcpa_times.proofs.Within.{within_left}
use Rattle.k_hcpa_times.proofs.location_times.LocationTimes.leave_everywhere.Goals as goal

pub invariant_of-self-clause-levels : goal.invariant_of-self-clause-levels
invariant_of-self-clause-levels g c =
    let s = c.args.self.now in
    let r = g.R.Shadow.content s.registers in
    let e = g.P.Shadow.content s.elements in
    all_left (seen_of r e s.control s.in_cell s.out_cell s.row s.paths).timing s.paths _
    (timing_left r e s.control s.in_cell s.out_cell s.row s.paths c.leave.ensures.content c.leave-2.ensures.content c.leave-3.ensures.left c.leave-4.ensures.left c.leave-5.ensures.left c.leave_times.ensures
    c.leave_times-2.ensures) c.leave_times-2.ensures s.levels

pub invariant_of-self-clause-within : goal.invariant_of-self-clause-within
invariant_of-self-clause-within g c =
    let s = c.args.self.now in
    let r = g.R.Shadow.content s.registers in
    let e = g.P.Shadow.content s.elements in
    subst (λ (t : Timing). AreWithin s.reach t)
    (sym (timing_left r e s.control s.in_cell s.out_cell s.row s.paths c.leave.ensures.content c.leave-2.ensures.content c.leave-3.ensures.left c.leave-4.ensures.left c.leave-5.ensures.left c.leave_times.ensures
    c.leave_times-2.ensures))
    (within_left s.reach (seen_of r e s.control s.in_cell s.out_cell s.row s.paths).timing s.within)
