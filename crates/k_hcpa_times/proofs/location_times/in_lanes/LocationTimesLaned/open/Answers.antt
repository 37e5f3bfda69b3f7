use Rattle.std.proofs.Common.{◌≡◌, ◌≤◌, ℕ, length, take, ap, sym, ◌∙◌, arith}
use Rattle.k_shadow.specs.Content.{at_levels}
use Rattle.k_shadow.proofs.Levels.{lanes_front, length-at_levels}
use Rattle.k_hcpa_times.specs.Seen.{seen_of}
use Rattle.k_hcpa_times.proofs.InLanes.{take_levels}
use Rattle.k_hcpa_times.proofs.LanesGiven.{lanes_are}
use Rattle.k_hcpa_times.proofs.Within.{none_same}
use Rattle.k_hcpa_times.proofs.location_times.in_lanes.LocationTimesLaned.open.Goals as goal

pub returns-clause-laned : goal.returns-clause-laned
returns-clause-laned g c =
    let s = c.args.self.now in
    let count = length s.paths in
    let lanes = g.V.TimeLanes.count in
    let first : ℕ → ℕ = g.V.TimeLanes.time c.lanes.result in
    let few : count ≤ lanes = omega arith in
    let control : take count (at_levels lanes first) ≡ s.control.current = take_levels count lanes first few ∙ ap (λ n. at_levels n first) (sym s.levels.control) ∙ c.lanes.ensures.times in
    record {
      most = c.requires;
      sources = length-at_levels lanes first;
      paths = length-at_levels lanes (g.V.TimeLanes.time c.narrowed.result);
      shallow = few;
      few = omega arith;
      small = omega arith;
      admits = omega arith;
      within = none_same s.reach (take count (at_levels lanes first)) s.control.current control s.within.control;
    }

pub returns-clause-lanes : goal.returns-clause-lanes
returns-clause-lanes g c =
    let s = c.args.self.now in
    let count = length s.paths in
    let lanes = g.V.TimeLanes.count in
    let first : ℕ → ℕ = g.V.TimeLanes.time c.lanes.result in
    let second : ℕ → ℕ = g.V.TimeLanes.time c.narrowed.result in
    let few : count ≤ lanes = omega arith in
    let control : take count (at_levels lanes first) ≡ s.control.current = take_levels count lanes first few ∙ ap (λ n. at_levels n first) (sym s.levels.control) ∙ c.lanes.ensures.times in
    let paths : take count (at_levels lanes second) ≡ s.paths
    = take_levels count lanes second few ∙ lanes_front second c.as_slice-2.result.now s.paths c.as_slice-2.ensures.times c.narrowed.ensures.times in
    lanes_are (seen_of (g.R.Shadow.content s.registers) (g.P.Shadow.content s.elements) s.control s.in_cell s.out_cell s.row s.paths) (record { lanes = lanes; control = at_levels lanes first; paths = at_levels lanes second }) control paths
