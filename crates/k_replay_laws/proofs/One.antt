-- Operations have one schedule.
use Rattle.std.proofs.Common.{◌≡◌, ℕ, ◌<◌, ◌≤◌, ◌⊎◌, inl, inr, length, sym, ◌∙◌, ap, arith}
use Rattle.std.proofs.lemmas.Bool.{cases_lt}
use Rattle.k_optab.specs.Events.{operations}
use Rattle.k_replay_text.specs.Lines.{replay_text}
use Rattle.k_replay_laws.specs.Laws.{OneReplayText, OneSchedule}
use Rattle.k_replay_laws.specs.Schedules.{rounds}

pub one_schedule : OneSchedule
one_schedule ops workers seed s t is it = λ i. record { rounds = many i; tallies = (is.tallies ∙ ap (λ (k : ℕ). (rounds ops workers seed k).tallies) many ∙ sym it.tallies) i }
  where
    go : (s.rounds < t.rounds) ⊎ (t.rounds ≤ s.rounds) → (t.rounds < s.rounds) ⊎ (s.rounds ≤ t.rounds) → s.rounds ≡ t.rounds
    go (inl h) k = absurd (let some = it.least s.rounds h in omega (arith, some, is.none))
    go (inr h) (inl k) = absurd (let some = is.least t.rounds k in omega (arith, some, it.none))
    go (inr h) (inr k) = omega arith

    many : s.rounds ≡ t.rounds
    many = go (cases_lt s.rounds t.rounds) (cases_lt t.rounds s.rounds)

pub one_text : OneReplayText
one_text workers seed exit output events a b is it =
    is.is
    ∙ ap (replay_text output (length (operations events)) exit) (one_schedule (operations events) workers seed is.schedule it.schedule is.is_schedule it.is_schedule)
    ∙ sym it.is
