-- The calls of workers over a record, seen as a firing of its operations.
use Rattle.std.proofs.Common.{◌≡◌, ℕ, zero, suc, ◌+◌, ◌-◌, ◌%◌, ◌<◌, ◌≤◌, ◌⊎◌, inl, inr, List, [], ◌∷◌, length, map, replicate, Option, Some, None, Bool, true, false, Ok, Err, refl, sym, ◌∙◌, ap, subst, arith}
use Rattle.std.specs.Prelude.{◌==◌, ◌&&◌, ◌||◌, not, if◌then◌else◌, is_some, slice_get}
use Rattle.std.specs.List.{list_all, list_any}
use Rattle.std.proofs.Math.Nat.{mod-eq_of_lt, mod-eq-sub-mod}
use Rattle.std.proofs.lemmas.Bool.{both_ways, cases_eq, cases_lt, eq-eqb, le-ltb, lt-ltb, ne_eqb}
use Rattle.std.proofs.lemmas.List.{length-map, map-set}
use Rattle.std.proofs.lemmas.List.Folds.{list_all-map}
use Rattle.std.proofs.lemmas.Nat.{mod_below}
use Rattle.std.proofs.lemmas.Option.{none-some}
use Rattle.k_gen.specs.Draw.{draw}
use Rattle.k_optab.specs.declared.event.Src.{Src}
use Rattle.k_optab.specs.Events.{Operation}
use Rattle.k_replay_record.specs.declared.record.Datum.{Datum}
use Rattle.k_replay_record.specs.declared.record.Operand.{Operand}
use Rattle.k_replay_record.specs.declared.record.Operand.TheVariants.{Fixed, From}
use Rattle.k_replay_record.specs.declared.record.Record.{Record}
use Rattle.k_replay_record.specs.declared.record.Step.{Step}
use Rattle.k_replay_recording.specs.Laws.{from_numbers}
use Rattle.k_replay.specs.declared.answer.Deal.TheVariants.{Given, Held, Idle}
use Rattle.k_replay.specs.Calls.{IsNext, NoneReady}
use Rattle.k_replay.specs.Orders.{Call, Does, Fired, Took}
use Rattle.k_replay.specs.Plays as play
use Rattle.k_replay.specs.Plays.{Play, are_given, fired_by, has_sources, held_by, is_held, is_ready, left_in, started, value_at, with_held}
use Rattle.k_replay.specs.Rounds as calls
use Rattle.k_replay.specs.Rounds.{IsDue, Rounds, Standing, Turn, Turns, in_turn}
use Rattle.k_replay.proofs.Ordering.{does_is, tape_after}
use Rattle.k_replay_laws.specs.Laws.{HaveSources, RecordsHaveSchedule}
use Rattle.k_replay_laws.specs.Schedules.{Firing, acts, begun, can_give, fires, holds, is_fired, left_behind, left_of, next_from, rounds, takes, turn, turns}

abbrev fired_ones : List (Option Datum) → List Bool
fired_ones values = map (λ (o : Option Datum). is_some o) values

-- what a play shows of what is held and fired
abbrev pub seen : Standing → Firing
seen u = record { held = u.play.held; fired = fired_ones u.play.values; tallies = u.tallies }

fired_same : (values : List (Option Datum)) (k : ℕ) → is_fired (fired_ones values) k ≡ play.is_fired values k
fired_same [] k = refl
fired_same (x ∷ values) zero = refl
fired_same (x ∷ values) (suc k) = fired_same values k

left_same : (values : List (Option Datum)) → left_of (fired_ones values) ≡ left_in values
left_same [] = refl
left_same (None ∷ values) = ap (λ n. suc n) (left_same values)
left_same (Some d ∷ values) = left_same values

held_same : (k : ℕ) (held : List (Option ℕ)) → list_any (holds k) held ≡ is_held held k
held_same k [] = refl
held_same k (None ∷ held) = held_same k held
held_same k (Some j ∷ held) = ap (λ (b : Bool). j == k || b) (held_same k held)

given_same : (values : List (Option Datum)) (operands : List Operand) → list_all (is_fired (fired_ones values)) (from_numbers operands) ≡ are_given values operands
given_same values [] = refl
given_same values (Fixed d ∷ operands) = given_same values operands
given_same values (From k ∷ operands) = λ i. fired_same values k i && given_same values operands i

-- an operation can be given where its step can
ready_same : (u : Standing) (k : ℕ) (s : Step) (op : Operation) → slice_get u.play.tape.steps k ≡ Some s → from_numbers s.operands ≡ map (λ (x : Src). x.number) op.sources
    → is_ready u.play k ≡ can_give (seen u) k op
unfolding is_ready
ready_same u k s op at same =
    let fired : List Bool = fired_ones u.play.values in
    let sources : are_given u.play.values s.operands ≡ list_all (λ (x : Src). is_fired fired x.number) op.sources =
    sym (given_same u.play.values s.operands) ∙ ap (list_all (is_fired fired)) same ∙ list_all-map (is_fired fired) (λ (x : Src). x.number) op.sources in
    let not_fired = sym (fired_same u.play.values k) in
    let not_held = sym (held_same k u.play.held) in
    ap (λ (o : Option Step). has_sources u.play.values o && (not (play.is_fired u.play.values k) && not (is_held u.play.held k))) at
    ∙ (λ i. sources i && (not (not_fired i) && not (not_held i)))

-- what is said of the next operation
abbrev pub Says : Play → Option ℕ → Type 0
Says p None = NoneReady p
Says p (Some k) = IsNext p k

-- these are the steps from this number on
abbrev StandFrom : List Step → ℕ → List Step → Type 0
StandFrom all start steps = (i n : ℕ) → n ≡ start + i → slice_get all n ≡ slice_get steps i

-- no step stands there
none_past : (u : Standing) (k : ℕ) → slice_get u.play.tape.steps k ≡ None → is_ready u.play k ≡ false
unfolding is_ready
none_past u k at = ap (λ (o : Option Step). has_sources u.play.values o && (not (play.is_fired u.play.values k) && not (is_held u.play.held k))) at

first_same : (a b : List ℕ) (xs ys : List (List ℕ)) → a ∷ xs ≡ b ∷ ys → a ≡ b
first_same a b xs ys e = cc

rest_same : (a b : List ℕ) (xs ys : List (List ℕ)) → a ∷ xs ≡ b ∷ ys → xs ≡ ys
rest_same a b xs ys e = cc

said_from : (u : Standing) (steps : List Step) (ops : List Operation) (start : ℕ) → HaveSources steps ops → StandFrom u.play.tape.steps start steps
    → ((j : ℕ) → j < start → is_ready u.play j ≡ false) → Says u.play (next_from (seen u) start ops)
said_from u [] [] start same there low = λ k. none k (cases_lt k start)
  where
    none : (k : ℕ) → (k < start) ⊎ (start ≤ k) → is_ready u.play k ≡ false
    none k (inl h) = low k h
    none k (inr h) = none_past u k (there (k - start) k (omega arith))
said_from u [] (op ∷ ops) start same there low = absurd (cc)
said_from u (s ∷ steps) [] start same there low = absurd (cc)
said_from u (s ∷ steps) (op ∷ ops) start same there low =
    go (can_give (seen u) start op) refl
    (λ e. said_from u steps ops (start + 1) (rest_same _ _ _ _ same) (λ i n at. there (suc i) n (omega arith)) (λ j h. below j h e (cases_lt j start)))
  where
    ready : is_ready u.play start ≡ can_give (seen u) start op
    ready = ready_same u start s op (there 0 start (omega arith)) (first_same _ _ _ _ same)

    below : (j : ℕ) → j < start + 1 → can_give (seen u) start op ≡ false → (j < start) ⊎ (start ≤ j) → is_ready u.play j ≡ false
    below j h e (inl less) = low j less
    below j h e (inr more) = let is : start ≡ j = omega arith in subst (λ (n : ℕ). is_ready u.play n ≡ false) is (ready ∙ e)

    go : (b : Bool) → can_give (seen u) start op ≡ b → (can_give (seen u) start op ≡ false → Says u.play (next_from (seen u) (start + 1) ops))
        → Says u.play (if b then Some start else next_from (seen u) (start + 1) ops)
    go true e rest = record { ready = ready ∙ e; least = low }
    go false e rest = rest e

-- the least operation that can be given is the least step that can
pub said : (u : Standing) (ops : List Operation) → HaveSources u.play.tape.steps ops → Says u.play (next_from (seen u) 0 ops)
said u ops same = said_from u u.play.tape.steps ops 0 same (λ i n at. ap (slice_get u.play.tape.steps) (let e : n ≡ i = omega arith in e)) (λ j h. absurd (omega arith))

picked : (p : Play) (k : ℕ) (x : Option ℕ) → Says p x → IsNext p k → x ≡ Some k
picked p k None none next = absurd (both_ways (is_ready p k) (none k) next.ready)
picked p k (Some j) other next = go (cases_lt j k) (cases_lt k j)
  where
    go : (j < k) ⊎ (k ≤ j) → (k < j) ⊎ (j ≤ k) → Some j ≡ Some k
    go (inl h) m = absurd (both_ways (is_ready p j) (next.least j h) other.ready)
    go (inr h) (inl m) = absurd (both_ways (is_ready p k) (other.least k m) next.ready)
    go (inr h) (inr m) = ap (λ (n : ℕ). Some n) (let e : j ≡ k = omega arith in e)

idle : (p : Play) (x : Option ℕ) → Says p x → NoneReady p → x ≡ None
idle p None none all = refl
idle p (Some j) next all = absurd (both_ways (is_ready p j) (all j) next.ready)

-- a worker that fires
fires_seen : (w k : ℕ) (u v : Standing) → v.play ≡ fired_by w k u.play → v.tallies ≡ calls.tallied (Fired w (Ok k)) u.tallies → fires w k (seen u) ≡ seen v
fires_seen w k u v is told =
    let one : fired_ones (fired_by w k u.play).values ≡ (fires w k (seen u)).fired =
    map-set (λ (o : Option Datum). is_some o) u.play.values k (Some (value_at u.play.values (slice_get u.play.tape.steps k))) in
    let held : (fires w k (seen u)).held ≡ v.play.held = sym (ap (λ (p : Play). p.held) is) in
    let fired : (fires w k (seen u)).fired ≡ fired_ones v.play.values = sym one ∙ sym (ap (λ (p : Play). fired_ones p.values) is) in
    let tallies : (fires w k (seen u)).tallies ≡ v.tallies = sym told in
    λ i. record { held = held i; fired = fired i; tallies = tallies i }

-- one that is given an operation, and one that is idle
takes_seen : (w k : ℕ) (u v : Standing) → v.play ≡ with_held w (Some k) u.play → v.tallies ≡ u.tallies → takes w (Some k) (seen u) ≡ seen v
takes_seen w k u v is told =
    let held = sym (ap (λ (p : Play). p.held) is) in
    let fired = sym (ap (λ (p : Play). fired_ones p.values) is) in
    let tallies = sym told in
    λ i. record { held = held i; fired = fired i; tallies = tallies i }

idles_seen : (w : ℕ) (u v : Standing) → v.play ≡ u.play → v.tallies ≡ calls.tallied (Took w Idle) u.tallies → takes w None (seen u) ≡ seen v
idles_seen w u v is told =
    let held = sym (ap (λ (p : Play). p.held) is) in
    let fired = sym (ap (λ (p : Play). fired_ones p.values) is) in
    let tallies = sym told in
    λ i. record { held = held i; fired = fired i; tallies = tallies i }

call_seen : (ops : List Operation) (w : ℕ) (u v : Standing) (c : Call) → HaveSources u.play.tape.steps ops → IsDue w u.play c → Does c u.play v.play
    → v.tallies ≡ calls.tallied c u.tallies → acts ops w (held_by u.play w) (seen u) ≡ seen v
call_seen ops w u v (Fired who (Ok k)) same due does told =
    let here = subst (λ (x : ℕ). (v.play ≡ fired_by x k u.play) × (v.tallies ≡ calls.tallied (Fired x (Ok k)) u.tallies)) due.0 (does.1.1, told) in
    ap (λ (x : Option ℕ). acts ops w x (seen u)) due.1 ∙ fires_seen w k u v here.0 here.1
call_seen ops w u v (Fired who (Err fault)) same due does told = absurd due
call_seen ops w u v (Took who (Given k)) same due does told =
    let here = subst (λ (x : ℕ). v.play ≡ with_held x (Some k) u.play) due.0 does.1.2 in
    ap (λ (x : Option ℕ). acts ops w x (seen u)) due.1
    ∙ ap (λ (x : Option ℕ). takes w x (seen u)) (picked u.play k (next_from (seen u) 0 ops) (said u ops same) does.1.1)
    ∙ takes_seen w k u v here told
call_seen ops w u v (Took who (Held k)) same due does told =
    absurd (none-some k (sym (ap (λ (x : ℕ). held_by u.play x) due.0 ∙ due.1) ∙ does.1.0))
call_seen ops w u v (Took who Idle) same due does told =
    let here = subst (λ (x : ℕ). v.tallies ≡ calls.tallied (Took x Idle) u.tallies) due.0 told in
    ap (λ (x : Option ℕ). acts ops w x (seen u)) due.1
    ∙ ap (λ (x : Option ℕ). takes w x (seen u)) (idle u.play (next_from (seen u) 0 ops) (said u ops same) does.1.1)
    ∙ idles_seen w u v does.1.2 here

-- a turn
pub turn_seen : (ops : List Operation) (w : ℕ) (u v : Standing) → HaveSources u.play.tape.steps ops → Turn w u v → turn ops w (seen u) ≡ seen v
turn_seen ops w u v same (inl over) =
    let none : (left_of (fired_ones u.play.values) == 0) ≡ true = eq-eqb (left_of (fired_ones u.play.values)) 0 (left_same u.play.values ∙ over.0) in
    ap (λ (b : Bool). if b then seen u else acts ops w (held_by u.play w) (seen u)) none ∙ sym (ap seen over.1)
turn_seen ops w u v same (inr going) =
    let some : (left_of (fired_ones u.play.values) == 0) ≡ false =
    ne_eqb (left_of (fired_ones u.play.values)) 0 (λ e. let none = sym (left_same u.play.values) ∙ e in absurd (omega (arith, none, going.0))) in
    ap (λ (b : Bool). if b then seen u else acts ops w (held_by u.play w) (seen u)) some
    ∙ call_seen ops w u v going.1.call same going.1.due going.1.does going.1.tallies

-- the record stays
pub turn_tape : (w : ℕ) (u v : Standing) → Turn w u v → v.play.tape ≡ u.play.tape
turn_tape w u v (inl over) = ap (λ (x : Standing). x.play.tape) over.1
turn_tape w u v (inr going) =
    ap (λ (p : Play). p.tape) (does_is going.1.call u.play v.play going.1.does) ∙ tape_after going.1.call u.play

-- whose turn it is
pub turn_number : (workers first i : ℕ) → first < workers → i < workers → in_turn workers first i ≡ (first + i) % workers
turn_number workers first i h k = elim (cases_lt (first + i) workers) [
  | inl low ↦ ap (λ (b : Bool). if b then first + i else first + i - workers) (lt-ltb (first + i) workers low) ∙ sym (mod-eq_of_lt low)
  | inr high ↦ ap (λ (b : Bool). if b then first + i else first + i - workers) (le-ltb (first + i) workers high)
      ∙ sym (mod-eq-sub-mod high ∙ mod-eq_of_lt (let less : first + i - workers < workers = omega arith in less))
]

pub turns_seen : (ops : List Operation) (workers first i : ℕ) (u v : Standing) → (0 < workers → first < workers) → i ≤ workers → HaveSources u.play.tape.steps ops
    → Turns workers first i u v → (turns ops workers first i (seen u) ≡ seen v) × (v.play.tape ≡ u.play.tape)
unfolding Turns turns
turns_seen ops workers first zero u v h k same is = (sym (ap seen is), ap (λ (x : Standing). x.play.tape) is)
turns_seen ops workers first (suc i) u v h k same (between, before, last) =
    let so = turns_seen ops workers first i u between h (omega arith) same before in
    let there : HaveSources between.play.tape.steps ops = subst (λ (t : Record). HaveSources t.steps ops) (sym so.1) same in
    let who : (first + i) % workers ≡ in_turn workers first i = sym (turn_number workers first i (h (omega arith)) (omega arith)) in (
      ap (λ (f : Firing). turn ops ((first + i) % workers) f) so.0 ∙ ap (λ (n : ℕ). turn ops n (seen between)) who
          ∙ turn_seen ops (in_turn workers first i) between v there last,
      turn_tape (in_turn workers first i) between v last ∙ so.1,
    )

none_fired : (n : ℕ) → fired_ones (replicate n None) ≡ replicate n false
none_fired zero = refl
none_fired (suc n) = ap (λ (fs : List Bool). false ∷ fs) (none_fired n)

as_many : (steps : List Step) (ops : List Operation) → HaveSources steps ops → length steps ≡ length ops
as_many steps ops same =
    sym (length-map steps (λ (s : Step). from_numbers s.operands)) ∙ ap length same ∙ length-map ops (λ (op : Operation). map (λ (x : Src). x.number) op.sources)

begins : (tape : Record) (ops : List Operation) (workers : ℕ) → HaveSources tape.steps ops
    → begun (length ops) workers ≡ seen (calls.begun workers (started tape workers))
begins tape ops workers same =
    let fired : replicate (length ops) false ≡ fired_ones (replicate (length tape.steps) None) =
    ap (λ (n : ℕ). replicate n false) (sym (as_many tape.steps ops same)) ∙ sym (none_fired (length tape.steps)) in
    λ i. record { held = replicate workers None; fired = fired i; tallies = replicate workers calls.nothing_done }

-- what holds of so many rounds
record AreSeen (ops : List Operation) (tape : Record) (workers seed k : ℕ) (v : Standing) : Type 0 where
  same : rounds ops workers seed k ≡ seen v
  stays : v.play.tape ≡ tape
  going : (j : ℕ) → j < k → 0 < left_behind ops workers seed j

rounds_seen : (ops : List Operation) (tape : Record) (workers seed k : ℕ) (v : Standing) → HaveSources tape.steps ops
    → Rounds seed workers k (calls.begun workers (started tape workers)) v → AreSeen ops tape workers seed k v
unfolding Rounds rounds
rounds_seen ops tape workers seed zero v same is = record {
  same = begins tape ops workers same ∙ sym (ap seen is);
  stays = ap (λ (x : Standing). x.play.tape) is;
  going = λ j h. absurd (omega arith);
}
rounds_seen ops tape workers seed (suc k) v same (between, before, some, last) =
    let so = rounds_seen ops tape workers seed k between same before in
    let there : HaveSources between.play.tape.steps ops = subst (λ (t : Record). HaveSources t.steps ops) (sym so.stays) same in
    let round = turns_seen ops workers (draw seed k % workers) workers between v (λ h. mod_below (draw seed k) workers h) (omega arith) there last in
    let left : 0 < left_behind ops workers seed k = subst (λ (n : ℕ). 0 < n) (sym (ap (λ (f : Firing). left_of f.fired) so.same ∙ left_same between.play.values)) some in
    record {
      same = ap (λ (f : Firing). turns ops workers (draw seed k % workers) workers f) so.same ∙ round.0;
      stays = round.1 ∙ so.stays;
      going = λ j h. behind j h left (cases_eq j k) (so.going j);
    }
  where
    behind : (j : ℕ) → j < suc k → 0 < left_behind ops workers seed k → (j ≡ k) ⊎ (¬ (j ≡ k)) → (j < k → 0 < left_behind ops workers seed j) → 0 < left_behind ops workers seed j
    behind j h left (inl e) old = subst (λ (n : ℕ). 0 < left_behind ops workers seed n) (sym e) left
    behind j h left (inr ne) old = old (omega arith)

pub records_have_schedule : RecordsHaveSchedule
records_have_schedule tape ops workers seed after s same is =
    let so = rounds_seen ops tape workers seed s.rounds (record { play = after; tallies = s.tallies }) same is.rounds in
    record {
      none = ap (λ (f : Firing). left_of f.fired) so.same ∙ left_same after.values ∙ is.none;
      least = so.going;
      tallies = sym (ap (λ (f : Firing). f.tallies) so.same);
    }
