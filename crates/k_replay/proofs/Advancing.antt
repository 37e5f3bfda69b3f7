-- Each round lowers what is left to do.
use Rattle.std.proofs.Common.{◌≡◌, ◌≢◌, ℕ, zero, suc, ◌+◌, ◌-◌, ◌/◌, ◌%◌, ◌<◌, ◌≤◌, ◌⊎◌, inl, inr, List, [], ◌∷◌, length, get_or, set, replicate, Option, Some, None, Bool, Result, Ok, Err, refl, sym, ◌∙◌, ap, subst, arith, add-one}
use Rattle.std.specs.Prelude.{if◌then◌else◌, slice_get}
use Rattle.std.proofs.Math.ListN.{length-set}
use Rattle.std.proofs.lemmas.Bool.{cases_eq, cases_lt, lt-ltb, le-ltb}
use Rattle.std.proofs.lemmas.Option.{none-some}
use Rattle.k_replay_record.specs.declared.record.Datum.{Datum}
use Rattle.k_replay.specs.declared.answer.Deal.{Deal}
use Rattle.k_replay.specs.declared.answer.Deal.TheVariants.{Given, Held, Idle}
use Rattle.k_replay.specs.declared.answer.FireFault.{FireFault}
use Rattle.k_replay.specs.declared.answer.FireFault.TheVariants.{Memory, NoneHeld}
use Rattle.k_replay.specs.Calls.{Fires, IsHolding, NoneReady, Takes}
use Rattle.k_replay.specs.Orders.{Call, Does, Fired, GivesNext, Took}
use Rattle.k_replay.specs.Plays.{Play, fired_by, held_by, left_in, value_at, with_held}
use Rattle.k_replay.specs.Progress.{Moves, MovesAll, holding, weight}
use Rattle.k_gen.specs.Draw as row
use Rattle.k_replay.specs.declared.rounds.Tally.{Tally}
use Rattle.k_replay.specs.Rounds.{IsDue, Rounds, Standing, Turn, Turns, begun, in_turn, nothing_done}
use Rattle.k_replay.specs.Sound.{IsSound}
use Rattle.k_replay.proofs.Firing.{one_fewer}
use Rattle.k_replay.proofs.Ordering.{held_of, holder_within}

-- what so many turns of a round did
abbrev pub MovedSoFar : ℕ → ℕ → ℕ → Play → Play → Type 0
MovedSoFar workers first i before after =
    (weight after < weight before)
    ⊎ ((after ≡ before) × (0 < left_in before.values → ((j : ℕ) → j < i → held_by before (in_turn workers first j) ≡ None) × (0 < i → NoneReady before)))

-- at most as many hold an operation as there are
holding_few : (held : List (Option ℕ)) → holding held ≤ length held
holding_few [] = omega arith
holding_few (None ∷ held) = let less = holding_few held in omega arith
holding_few (Some k ∷ held) = let less = holding_few held in omega arith

-- one more does
holding_more : (held : List (Option ℕ)) (w k : ℕ) → w < length held → get_or held w None ≡ None → holding (set held w (Some k)) ≡ suc (holding held)
holding_more [] w k h free = absurd (omega arith)
holding_more (None ∷ held) zero k h free = refl
holding_more (Some j ∷ held) zero k h free = absurd (cc)
holding_more (None ∷ held) (suc w) k h free = holding_more held w k (omega arith) free
holding_more (Some j ∷ held) (suc w) k h free = ap (λ n. suc n) (holding_more held w k (omega arith) free)

lighter_given : (p : Play) (w k : ℕ) → length p.held ≤ 16 → w < length p.held → held_by p w ≡ None → weight (with_held w (Some k) p) < weight p
unfolding weight
lighter_given p w k few within free =
    let more : holding (set p.held w (Some k)) ≡ suc (holding p.held) = holding_more p.held w k within free in
    let fits : holding (set p.held w (Some k)) ≤ length (set p.held w (Some k)) = holding_few (set p.held w (Some k)) in
    omega (arith, more, fits, length-set p.held w (Some k))

lighter_fired : (p : Play) (w k : ℕ) → IsSound p → held_by p w ≡ Some k → weight (fired_by w k p) < weight p
unfolding weight
lighter_fired p w k sound holds =
    let v : Datum = value_at p.values (slice_get p.tape.steps k) in
    let fewer : left_in p.values ≡ suc (left_in (set p.values k (Some v))) = one_fewer p.values k v (held_of p w k sound holds) (sound.not_fired w k holds) in
    omega (arith, fewer)

-- a call that is due lowers it, or nothing happens
acts_move : (w : ℕ) (s t : Standing) (c : Call) → IsSound s.play → length s.play.held ≤ 16 → IsDue w s.play c → Does c s.play t.play
    → (weight t.play < weight s.play) ⊎ ((t.play ≡ s.play) × (held_by s.play w ≡ None) × NoneReady s.play)
acts_move w s t (Took v (Given k)) sound few due does = inl (subst (λ (p : Play). weight p < weight s.play) (sym does.1.2) (lighter_given s.play v k few does.0 does.1.0))
acts_move w s t (Took v (Held k)) sound few due does =
    absurd (none-some k (sym (ap (λ (x : ℕ). held_by s.play x) due.0 ∙ due.1) ∙ does.1.0))
acts_move w s t (Took v Idle) sound few due does = inr (does.1.2, due.1, does.1.1)
acts_move w s t (Fired v (Ok k)) sound few due does = inl (subst (λ (p : Play). weight p < weight s.play) (sym does.1.1) (lighter_fired s.play v k sound does.1.0))
acts_move w s t (Fired v (Err fault)) sound few due does = absurd due

pub turn_moves : (w : ℕ) (s t : Standing) → IsSound s.play → length s.play.held ≤ 16 → Turn w s t → Moves w s.play t.play
turn_moves w s t sound few (inl over) = inr (ap (λ (x : Standing). x.play) over.1, λ some. absurd (let none = over.0 in omega arith))
turn_moves w s t sound few (inr acts) = elim (acts_move w s t acts.1.call sound few acts.1.due acts.1.does) [
  | inl less ↦ inl less
  | inr still ↦ inr (still.0, λ some. (still.1, still.2))
]

-- one turn more
pub moved_more : (workers first i : ℕ) (before now after : Play) → MovedSoFar workers first i before now → Moves (in_turn workers first i) now after
    → MovedSoFar workers first (i + 1) before after
moved_more workers first i before now after (inl less) (inl lower) = inl (omega arith)
moved_more workers first i before now after (inl less) (inr still) = inl (subst (λ (p : Play). weight p < weight before) (sym still.0) less)
moved_more workers first i before now after (inr same) (inl lower) = inl (subst (λ (p : Play). weight after < weight p) same.0 lower)
moved_more workers first i before now after (inr same) (inr still) = inr (
  still.0 ∙ same.0,
  λ some.
      let last : (held_by before (in_turn workers first i) ≡ None) × NoneReady before
      = subst (λ (p : Play). 0 < left_in p.values → (held_by p (in_turn workers first i) ≡ None) × NoneReady p) same.0 still.1 some in
      (λ j low. free j low (cases_eq j i) ((same.1 some).0 j) last.0, λ h. last.1),
)
  where
    free : (j : ℕ) → j < i + 1 → (j ≡ i) ⊎ (j ≢ i) → (j < i → held_by before (in_turn workers first j) ≡ None) → held_by before (in_turn workers first i) ≡ None
        → held_by before (in_turn workers first j) ≡ None
    free j low (inl e) old last = subst (λ (x : ℕ). held_by before (in_turn workers first x) ≡ None) (sym e) last
    free j low (inr ne) old last = old (omega arith)

-- each worker has a turn
turn_of : (workers first w : ℕ) → first < workers → w < workers → (j : ℕ) × (j < workers) × (in_turn workers first j ≡ w)
turn_of workers first w h k = elim (cases_lt w first) [
  | inr high ↦ (w - first, omega arith, early (w - first) (omega arith) (omega arith))
  | inl low ↦ (w + workers - first, omega arith, late (w + workers - first) (omega arith) (omega arith))
]
  where
    early : (j : ℕ) → first + j ≡ w → first + j < workers → in_turn workers first j ≡ w
    early j e low = ap (λ (b : Bool). if b then first + j else first + j - workers) (lt-ltb (first + j) workers low) ∙ e

    late : (j : ℕ) → first + j - workers ≡ w → workers ≤ first + j → in_turn workers first j ≡ w
    late j e high = ap (λ (b : Bool). if b then first + j else first + j - workers) (le-ltb (first + j) workers high) ∙ e

-- a whole round
pub moved_all : (workers first : ℕ) (before after : Play) → first < workers → MovedSoFar workers first workers before after → MovesAll workers before after
moved_all workers first before after h (inl less) = inl less
moved_all workers first before after h (inr same) = inr (λ some.
    (λ w low. free w (turn_of workers first w h low) (same.1 some).0, (same.1 some).1 (omega arith)))
  where
    free : (w : ℕ) → (j : ℕ) × (j < workers) × (in_turn workers first j ≡ w) → ((j : ℕ) → j < workers → held_by before (in_turn workers first j) ≡ None) → held_by before w ≡ None
    free w there all = subst (λ (x : ℕ). held_by before x ≡ None) there.2 (all there.0 there.1)

-- so a round lowers it
pub round_moves : (workers : ℕ) (before after : Play) → 0 < workers → length before.held ≡ workers → 0 < left_in before.values
    → ((worker : ℕ) × IsHolding before worker) ⊎ GivesNext before → MovesAll workers before after → weight after < weight before
round_moves workers before after some long left goes (inl less) = less
round_moves workers before after some long left (inl holds) (inr stuck) =
    let within : holds.0 < workers = (let low : holds.0 < length before.held = holder_within before.held holds.0 holds.1.0 holds.1.1 in omega (arith, low, long)) in
    absurd (none-some holds.1.0 (sym ((stuck left).0 holds.0 within) ∙ holds.1.1))
round_moves workers before after some long left (inr gives) (inr stuck) =
    absurd (gives 0 Idle before ((stuck left).0 0 some) ((stuck left).0 0 some, (stuck left).1, refl))

-- as many workers stay
pub turn_workers : (w : ℕ) (s t : Standing) → Turn w s t → length t.play.held ≡ length s.play.held
turn_workers w s t (inl over) = ap (λ (x : Standing). length x.play.held) over.1
turn_workers w s t (inr acts) = go acts.1.call acts.1.due acts.1.does
  where
    go : (c : Call) → IsDue w s.play c → Does c s.play t.play → length t.play.held ≡ length s.play.held
    go (Took v (Given k)) due does = ap (λ (p : Play). length p.held) does.1.2 ∙ length-set s.play.held v (Some k)
    go (Took v (Held k)) due does = ap (λ (p : Play). length p.held) does.1.1
    go (Took v Idle) due does = ap (λ (p : Play). length p.held) does.1.2
    go (Fired v (Ok k)) due does = ap (λ (p : Play). length p.held) does.1.1 ∙ length-set s.play.held v None
    go (Fired v (Err fault)) due does = absurd due

-- one turn more of a round
pub turns_more : (workers first i : ℕ) (s u t : Standing) → Turns workers first i s u → Turn (in_turn workers first i) u t → Turns workers first (i + 1) s t
unfolding Turns
turns_more workers first i s u t turns turn = rw add-one (u, turns, turn)

pub turns_none : (workers first : ℕ) (s : Standing) → Turns workers first 0 s s
unfolding Turns
turns_none workers first s = refl

pub moved_none : (workers first : ℕ) (p : Play) → MovedSoFar workers first 0 p p
moved_none workers first p = inr (refl, λ some. (λ j low. absurd (omega arith), λ h. absurd (omega arith)))

-- a draw, by the row that it is taken from
pub drawn : (seed k x y : ℕ) → x ≡ row.state seed k → y ≡ row.next x → y ≡ row.state seed (k + 1)
unfolding row.state
drawn seed k x y at is = rw add-one (is ∙ ap row.next at)

-- one round more
pub rounds_more : (seed workers k y : ℕ) (s u t : Standing) → Rounds seed workers k s u → 0 < left_in u.play.values → y ≡ row.state seed (k + 1)
    → Turns workers ((y / 65536) % workers) workers u t → Rounds seed workers (k + 1) s t
unfolding Rounds
rounds_more seed workers k y s u t rounds some is turns =
    rw add-one (u, rounds, some, subst (λ (x : ℕ). Turns workers ((x / 65536) % workers) workers u t) is turns)

pub rounds_none : (seed workers : ℕ) (p : Play) (tallies : List Tally) → tallies ≡ replicate workers nothing_done
    → Rounds seed workers 0 (begun workers p) (record { play = p; tallies = tallies })
unfolding Rounds
rounds_none seed workers p tallies is = λ i. record { play = p; tallies = is i }

-- what the row begins with
pub first_row : (seed : ℕ) → seed % 2147483648 ≡ row.state seed 0
unfolding row.state
first_row seed = refl

-- a worker that fires none holds none
pub none_held : (p q : Play) (w : ℕ) (fault : FireFault) → fault ≡ NoneHeld → Fires p w (Err fault) q → (held_by p w ≡ None) × (q ≡ p)
none_held p q w fault is fires = subst (λ (f : FireFault). Fires p w (Err f) q) is fires

-- no call makes more workers or fewer
pub takes_workers : (p q : Play) (w : ℕ) (deal : Deal) → Takes p w deal q → length q.held ≡ length p.held
takes_workers p q w (Given k) takes = ap (λ (x : Play). length x.held) takes.2 ∙ length-set p.held w (Some k)
takes_workers p q w (Held k) takes = ap (λ (x : Play). length x.held) takes.1
takes_workers p q w Idle takes = ap (λ (x : Play). length x.held) takes.2

pub fires_workers : (p q : Play) (w : ℕ) (answer : Result ℕ FireFault) → Fires p w answer q → length q.held ≡ length p.held
fires_workers p q w (Ok k) fires = ap (λ (x : Play). length x.held) fires.1 ∙ length-set p.held w None
fires_workers p q w (Err NoneHeld) fires = ap (λ (x : Play). length x.held) fires.1
fires_workers p q w (Err Memory) fires = ap (λ (x : Play). length x.held) fires.1
