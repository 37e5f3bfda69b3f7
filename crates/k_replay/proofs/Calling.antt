-- Rounds are calls by workers, one behind the other.
use Rattle.std.proofs.Common.{◌≡◌, ℕ, zero, suc, ◌%◌, inl, inr, List, [], ◌∷◌, ◌++◌, refl, ap, subst}
use Rattle.k_gen.specs.Draw.{draw}
use Rattle.k_replay.specs.Orders.{Call, Leads}
use Rattle.k_replay.specs.Plays.{Play, started}
use Rattle.k_replay.specs.Rounds.{Rounds, RoundsGiveTheSerialRun, Standing, Turn, Turns, begun, in_turn}
use Rattle.k_replay.proofs.Ordering.{any_order_gives_the_serial_run}

-- some calls lead from a play to another
abbrev AreCalls : Play → Play → Type 0
AreCalls p q = (calls : List Call) × Leads calls p q

-- calls, and others behind them
leads_on : (calls more : List Call) (p q r : Play) → Leads calls p q → Leads more q r → Leads (calls ++ more) p r
leads_on [] more p q r is leads = subst (λ (x : Play). Leads more x r) is leads
leads_on (c ∷ calls) more p q r (between, does, rest) leads = (between, does, leads_on calls more between q r rest leads)

both : (p q r : Play) → AreCalls p q → AreCalls q r → AreCalls p r
both p q r (calls, leads) (more, on) = (calls ++ more, leads_on calls more p q r leads on)

-- where nothing was done there was no call
none : (s t : Standing) → t ≡ s → AreCalls s.play t.play
none s t is = ([], ap (λ (x : Standing). x.play) is)

turn_calls : (worker : ℕ) (s t : Standing) → Turn worker s t → AreCalls s.play t.play
turn_calls worker s t (inl over) = none s t over.1
turn_calls worker s t (inr acts) = (acts.1.call ∷ [], (t.play, acts.1.does, refl))

turns_calls : (workers first count : ℕ) (s t : Standing) → Turns workers first count s t → AreCalls s.play t.play
unfolding Turns
turns_calls workers first zero s t is = none s t is
turns_calls workers first (suc i) s t (u, turns, turn) =
    both s.play u.play t.play (turns_calls workers first i s u turns) (turn_calls (in_turn workers first i) u t turn)

rounds_calls : (seed workers count : ℕ) (s t : Standing) → Rounds seed workers count s t → AreCalls s.play t.play
unfolding Rounds
rounds_calls seed workers zero s t is = none s t is
rounds_calls seed workers (suc k) s t (u, rounds, some, turns) =
    both s.play u.play t.play (rounds_calls seed workers k s u rounds) (turns_calls workers (draw seed k % workers) workers u t turns)

pub rounds_give_the_serial_run : RoundsGiveTheSerialRun
rounds_give_the_serial_run tape seed workers after s recorded is =
    let lead = rounds_calls seed workers s.rounds (begun workers (started tape workers)) (record { play = after; tallies = s.tallies }) is.rounds in
    (lead.0, lead.1, any_order_gives_the_serial_run tape workers lead.0 after recorded lead.1)
