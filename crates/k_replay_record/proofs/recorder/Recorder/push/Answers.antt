use Rattle.std.proofs.Common.{◌≡◌, ◌∙◌, ap, subst, sym, refl, rules, length, ℕ}
use Rattle.std.specs.Prelude.{slice_get}
use Rattle.std.proofs.lemmas.Bool.{both_ways}
use Rattle.k_replay_record.specs.Recorded.{FitsAt, FitsBehind, IsRecorded, Recorded, with_step}
use Rattle.k_replay_record.specs.Serial.{step_bytes}
use Rattle.k_replay_record.proofs.Recording.{fits_back, fits_same, recorded_push}
use Rattle.k_replay_record.proofs.recorder.Recorder.push.Goals as goal

pub returns-then-not-fits-clause-unfit : goal.returns-then-not-fits-clause-unfit
returns-then-not-fits-clause-unfit c = λ e fits.
    let r : Recorded = record { steps = c.self.inside.steps; values = c.self.inside.values.items; output = c.self.inside.output.items; last = c.self.inside.last } in
    let is : r ≡ c.args.self.now = c.self.view_is in
    let count : c.len.result ≡ length c.self.inside.values.items = search rules in
    let there : FitsBehind r.steps c.args.step = subst (λ (q : Recorded). FitsBehind q.steps c.args.step) (sym is) fits in
    both_ways c.fits.result c.if-not-fits.true
    (c.fits.ensures.1 (subst (λ (n : ℕ). FitsAt n c.self.inside.last c.args.step) (sym count) (fits_back r c.args.step (subst IsRecorded (sym is) c.requires) there)))

pub returns-in-Ok-add-clause-recorded : goal.returns-in-Ok-add-clause-recorded
returns-in-Ok-add-clause-recorded c =
    let r : Recorded = record { steps = c.self.inside.steps; values = c.self.inside.values.items; output = c.self.inside.output.items; last = c.self.inside.last } in
    let is : r ≡ c.args.self.now = c.self.view_is in
    let count : c.len.result ≡ length c.self.inside.values.items = search rules in
    let fits : FitsAt (length r.values) r.last c.args.step
    = subst (λ (n : ℕ). FitsAt n c.self.inside.last c.args.step) count (c.fits.ensures.0 c.if-not-fits.false) in
    let fits_now : FitsAt (length c.args.self.now.values) c.args.self.now.last c.args.step = subst (λ (q : Recorded). FitsAt (length q.values) q.last c.args.step) is fits in
    recorded_push c.args.self.now c.add.new.self c.args.step c.in-Ok.value (step_bytes (slice_get c.args.self.now.values) c.args.step) c.requires
    (fits_same c.args.self.now c.args.step c.requires fits_now) c.in-Ok.ensures.value refl
    (c.in-Ok-add.ensures ∙ ap (λ (q : Recorded). with_step c.args.step c.in-Ok.value q) c.in-Ok.ensures.written)
