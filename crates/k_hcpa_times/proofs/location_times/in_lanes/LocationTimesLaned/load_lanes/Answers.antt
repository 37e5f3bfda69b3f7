use Rattle.std.proofs.Common.{◌≡◌, ◌+◌, ◌^◌, ◌<◌, [], ◌∷◌, ◌++◌, length, refl, ap, sym, ◌∙◌, arith}
use Rattle.k_shadow.specs.Content.{Content, depth}
use Rattle.k_hcpa_meaning.specs.Timings.{Element, Timing}
use Rattle.k_hcpa_times.specs.Lanes.{locations_from, with_lanes}
use Rattle.k_hcpa_times.specs.Seen.{seen_of}
use Rattle.k_hcpa_times.proofs.LanesGiven.{content_given, none_loaded, operated_at, register_given}
use Rattle.k_hcpa_times.proofs.Within.{none_written, within_more, within_registers}
use Rattle.k_hcpa_times.proofs.location_times.in_lanes.LocationTimesLaned.load_lanes.Goals as goal

pub invariant_of-self-2-clause-within : goal.invariant_of-self-2-clause-within
invariant_of-self-2-clause-within g c =
    let s = c.args.self.now in
    let from = c.args.from in
    let latency = c.args.latency in
    let content : Content = g.R.Shadow.content s.registers in
    let admitted : Content = g.R.Shadow.content c.admit_lanes.new.shadow in
    let same : admitted ≡ content = c.admit_lanes.ensures.same in
    let t : Timing = (with_lanes c.args.lanes.now (seen_of content (g.P.Shadow.content s.elements) s.control s.in_cell s.out_cell s.row s.paths)).timing in
    let counts : depth admitted ≡ length s.paths = ap (λ (x : Content). length x.levels) same ∙ s.levels.registers in
    let fits : s.reach + latency < 2 ^ 32 = omega arith in
    let op = operated_at (locations_from from ++ Element c.args.element ∷ []) latency t c.args.lanes.now.control c.args.lanes.now.paths c.load_with-times.new.lanes.paths (g.V.TimeLanes.time c.load_with-times.result) _ _ counts
    (c.load_with-times.ensures.operated t (sym (ap (λ (x : Content). x.levels) same)) refl) refl refl in
    let times = none_loaded s.reach latency from.sources from.left from.right c.args.element t _ _ op c.requires.laned.within s.within.registers s.within.elements fits in
    let given = content_given c.args.to (length s.paths) (g.V.TimeLanes.time c.load_with-times.result) content admitted _ same s.levels.registers c.put_lanes.ensures.content in
    let more = within_more {n = s.reach + latency} (omega arith) s.within in
    within_registers (none_written (s.reach + latency) c.args.to _ content _ given times more.registers) more.row more

pub returns-clause-given : goal.returns-clause-given
returns-clause-given g c done =
    let s = c.args.self.now in
    let content : Content = g.R.Shadow.content s.registers in
    let elements : Content = g.P.Shadow.content s.elements in
    let admitted : Content = g.R.Shadow.content c.admit_lanes.new.shadow in
    let same : admitted ≡ content = c.admit_lanes.ensures.same in
    let t : Timing = (with_lanes c.args.lanes.now (seen_of content elements s.control s.in_cell s.out_cell s.row s.paths)).timing in
    let counts : depth admitted ≡ length s.paths = ap (λ (x : Content). length x.levels) same ∙ s.levels.registers in
    let old = c.args.lanes.now in
    let new = c.load_with-times.new.lanes in
    let op = operated_at (locations_from c.args.from ++ Element c.args.element ∷ []) c.args.latency t old.control old.paths new.paths (g.V.TimeLanes.time c.load_with-times.result) _ _ counts
    (c.load_with-times.ensures.operated t (sym (ap (λ (x : Content). x.levels) same)) refl) refl refl in
    let given = content_given c.args.to (length s.paths) (g.V.TimeLanes.time c.load_with-times.result) content admitted _ same s.levels.registers c.put_lanes.ensures.content in
    register_given content _ elements s.control s.in_cell s.out_cell s.row s.paths old new (locations_from c.args.from ++ Element c.args.element ∷ []) c.args.latency c.args.to (g.V.TimeLanes.time c.load_with-times.result) given c.load_with-times.ensures.control op
