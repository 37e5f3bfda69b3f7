-- Operations whose sources are earlier ones have a schedule: every turn can be made, and rounds end.
use Rattle.std.proofs.Common.{◌≡◌, ℕ, zero, suc, ◌+◌, ◌%◌, ◌<◌, ◌≤◌, ◌⊎◌, inl, inr, List, [], ◌∷◌, length, map, Option, Some, None, Ok, refl, sym, ◌∙◌, ap, subst, arith}
use Rattle.std.specs.Prelude.{slice_get}
use Rattle.std.specs.List.{AllByRecursion as ByRecursion}
use Rattle.std.proofs.lemmas.Bool.{cases_lt}
use Rattle.std.proofs.lemmas.List.{length-replicate}
use Rattle.std.proofs.lemmas.List.Elements.{All-from_recursion}
use Rattle.std.proofs.lemmas.Nat.{mod_below}
use Rattle.k_gen.specs.Draw.{draw}
use Rattle.k_ending.specs.declared.ending.End.TheVariants.{OutOfSteps}
use Rattle.k_optab.specs.declared.event.Src.{Src}
use Rattle.k_optab.specs.Events.{AreBefore, Operation, SourcesAreEarlier, operations}
use Rattle.k_replay_record.specs.declared.record.Act.TheVariants as act
use Rattle.k_replay_record.specs.declared.record.Datum.{Datum}
use Rattle.k_replay_record.specs.declared.record.Operand.TheVariants.{From}
use Rattle.k_replay_record.specs.declared.record.Record.{Record}
use Rattle.k_replay_record.specs.declared.record.Step.{Step}
use Rattle.k_replay_record.specs.Acts.{writes, written}
use Rattle.k_replay_record.specs.Records.{AreChained, AreEarlier, IsEarlier, IsRecord}
use Rattle.k_replay_record.specs.Serial.{bytes_of, serial}
use Rattle.k_replay_recording.specs.Laws.{from_numbers}
use Rattle.k_replay.specs.declared.answer.Deal.TheVariants.{Given, Idle}
use Rattle.k_replay.specs.declared.rounds.Schedule.{Schedule}
use Rattle.k_replay.specs.Orders.{Fired, Took}
use Rattle.k_replay.specs.Plays.{Play, fired_by, held_by, left_in, started, with_held}
use Rattle.k_replay.specs.Progress.{weight}
use Rattle.k_replay.specs.Rounds.{IsSchedule, Rounds, Standing, Turn, Turns, begun, in_turn, tallied}
use Rattle.k_replay.specs.Sound.{IsSound}
use Rattle.k_replay.proofs.Advancing.{MovedSoFar, moved_all, moved_more, moved_none, round_moves, turn_moves, turn_workers}
use Rattle.k_replay.proofs.Going.{goes_on}
use Rattle.k_replay.proofs.Keeping.{started_sound}
use Rattle.k_replay.proofs.Ordering.{does_is, sound_after}
use Rattle.k_replay_text.specs.Lines.{replay_text}
use Rattle.k_replay_laws.specs.Laws.{HaveSources, ReplayTextsExist, SchedulesExist}
use Rattle.k_replay_laws.specs.Schedules.{next_from}
use Rattle.k_replay_laws.proofs.Seen.{Says, records_have_schedule, said, seen, turn_number, turn_tape}

-- every turn can be made
turn_made : (ops : List Operation) (w : ℕ) (u : Standing) → HaveSources u.play.tape.steps ops → w < length u.play.held → (v : Standing) × Turn w u v
turn_made ops w u same within = go (cases_lt 0 (left_in u.play.values))
  where
    given : 0 < left_in u.play.values → held_by u.play w ≡ None → (x : Option ℕ) → Says u.play x → (v : Standing) × Turn w u v
    given some at (Some k) next = (
      record { play = with_held w (Some k) u.play; tallies = u.tallies },
      inr (some, record { call = Took w (Given k); due = (refl, at); does = (within, (at, next, refl)); tallies = refl }),
    )
    given some at None none = (
      record { play = u.play; tallies = tallied (Took w Idle) u.tallies },
      inr (some, record { call = Took w Idle; due = (refl, at); does = (within, (at, none, refl)); tallies = refl }),
    )

    acted : 0 < left_in u.play.values → (x : Option ℕ) → held_by u.play w ≡ x → (v : Standing) × Turn w u v
    acted some (Some k) at = (
      record { play = fired_by w k u.play; tallies = tallied (Fired w (Ok k)) u.tallies },
      inr (some, record { call = Fired w (Ok k); due = (refl, at); does = (within, (at, refl)); tallies = refl }),
    )
    acted some None at = given some at (next_from (seen u) 0 ops) (said u ops same)

    go : (0 < left_in u.play.values) ⊎ (left_in u.play.values ≤ 0) → (v : Standing) × Turn w u v
    go (inl some) = acted some (held_by u.play w) refl
    go (inr none) = (u, inl (omega arith, refl))

turn_sound : (w : ℕ) (u v : Standing) → Turn w u v → IsSound u.play → IsSound v.play
turn_sound w u v (inl over) sound = subst (λ (x : Standing). IsSound x.play) (sym over.1) sound
turn_sound w u v (inr going) sound =
    subst IsSound (sym (does_is going.1.call u.play v.play going.1.does)) (sound_after going.1.call u.play v.play sound going.1.does)

-- what a standing keeps
record IsFit (ops : List Operation) (workers : ℕ) (u : Standing) : Type 0 where
  sources : HaveSources u.play.tape.steps ops
  sound : IsSound u.play
  many : length u.play.held ≡ workers

-- the turns of a round
record Went (ops : List Operation) (workers first i : ℕ) (u v : Standing) : Type 0 where
  turns : Turns workers first i u v
  fit : IsFit ops workers v
  moved : MovedSoFar workers first i u.play v.play

turns_made : (ops : List Operation) (workers first i : ℕ) (u : Standing) → first < workers → workers ≤ 16 → i ≤ workers → IsFit ops workers u
    → (v : Standing) × Went ops workers first i u v
unfolding Turns
turns_made ops workers first zero u h few k fit = (u, record { turns = refl; fit = fit; moved = moved_none workers first u.play })
turns_made ops workers first (suc i) u h few k fit =
    let before = turns_made ops workers first i u h few (omega arith) fit in
    let who : ℕ = in_turn workers first i in
    let within : who < length before.0.play.held = below before.0 before.1.fit in
    let last = turn_made ops who before.0 before.1.fit.sources within in (
      last.0,
      record {
        turns = (before.0, before.1.turns, last.1);
        fit = record {
          sources = subst (λ (t : Record). HaveSources t.steps ops) (sym (turn_tape who before.0 last.0 last.1)) before.1.fit.sources;
          sound = turn_sound who before.0 last.0 last.1 before.1.fit.sound;
          many = turn_workers who before.0 last.0 last.1 ∙ before.1.fit.many;
        };
        moved = subst (λ (n : ℕ). MovedSoFar workers first n u.play last.0.play) (let e : i + 1 ≡ suc i = omega arith in e) (moved_more workers first i u.play before.0.play last.0.play before.1.moved
            (turn_moves who before.0 last.0 before.1.fit.sound (let many = before.1.fit.many in omega (arith, many, few)) last.1));
      },
    )
  where
    below : (v : Standing) → IsFit ops workers v → in_turn workers first i < length v.play.held
    below v fit =
        let same = turn_number workers first i h (omega arith) in
        let low : (first + i) % workers < workers = mod_below (first + i) workers (omega arith) in
        let many = fit.many in
        omega (arith, same, low, many)

-- a schedule of a record
abbrev HasSchedule : Record → ℕ → ℕ → Type 0
HasSchedule tape workers seed = (after : Play) × (s : Schedule) × IsSchedule seed workers (started tape workers) after s

module _ (ops : List Operation) (tape : Record) (workers seed : ℕ) (some : 0 < workers) (few : workers ≤ 16) where
  -- a round lowers what is left to do
  lighter : (first : ℕ) (u v : Standing) → first < workers → IsFit ops workers u → 0 < left_in u.play.values → Went ops workers first workers u v → weight v.play < weight u.play
  lighter first u v h fit left went =
      round_moves workers u.play v.play some fit.many left (goes_on u.play fit.sound left) (moved_all workers first u.play v.play h went.moved)

  stands : (k : ℕ) (u : Standing) → Rounds seed workers k (begun workers (started tape workers)) u → left_in u.play.values ≤ 0 → HasSchedule tape workers seed
  stands k u so none = (u.play, record { rounds = k; tallies = u.tallies }, record { rounds = so; none = omega arith })

  round_made : (k : ℕ) (u : Standing) → IsFit ops workers u → (v : Standing) × Went ops workers (draw seed k % workers) workers u v
  round_made k u fit = turns_made ops workers (draw seed k % workers) workers u (mod_below (draw seed k) workers some) few (omega arith) fit

  round_more : (k : ℕ) (u v : Standing) → Rounds seed workers k (begun workers (started tape workers)) u → 0 < left_in u.play.values
      → Went ops workers (draw seed k % workers) workers u v → Rounds seed workers (suc k) (begun workers (started tape workers)) v
  unfolding Rounds
  round_more k u v so left went = (u, so, left, went.turns)

  -- so rounds end
  ended : (fuel k : ℕ) (u : Standing) → Rounds seed workers k (begun workers (started tape workers)) u → IsFit ops workers u → weight u.play ≤ fuel
      → HasSchedule tape workers seed
  ended zero k u so fit low = elim (cases_lt 0 (left_in u.play.values)) [
    | inr none ↦ stands k u so none
    | inl left ↦ (let there = round_made k u fit in
        let less = lighter (draw seed k % workers) u there.0 (mod_below (draw seed k) workers some) fit left there.1 in
        absurd (omega (arith, less, low)))
  ]
  ended (suc fuel) k u so fit low = elim (cases_lt 0 (left_in u.play.values)) [
    | inr none ↦ stands k u so none
    | inl left ↦ (let there = round_made k u fit in
        let less = lighter (draw seed k % workers) u there.0 (mod_below (draw seed k) workers some) fit left there.1 in
        ended fuel (suc k) there.0 (round_more k u there.0 so left there.1) there.1.fit (omega (arith, less, low)))
  ]

-- the record of operations that give nothing
abbrev step_from : Operation → Step
step_from op = record { act = act.Call; operands = map (λ (x : Src). From x.number) op.sources }

abbrev tape_of : List Operation → Record
tape_of ops = record { steps = map step_from ops; output = []; end = OutOfSteps }

numbers_kept : (sources : List Src) → from_numbers (map (λ (x : Src). From x.number) sources) ≡ map (λ (x : Src). x.number) sources
numbers_kept [] = refl
numbers_kept (x ∷ sources) = ap (λ (ns : List ℕ). x.number ∷ ns) (numbers_kept sources)

have_sources : (ops : List Operation) → HaveSources (map step_from ops) ops
have_sources [] = refl
have_sources (op ∷ ops) = λ i. numbers_kept op.sources i ∷ have_sources ops i

before_all : (k : ℕ) (sources : List Src) → AreBefore k sources → ByRecursion (IsEarlier k) (map (λ (x : Src). From x.number) sources)
before_all k [] all = tt
before_all k (x ∷ sources) all = (all.0, before_all k sources all.1)

earlier_all : (number : ℕ) (ops : List Operation) → ((k m : ℕ) (op : Operation) → slice_get ops k ≡ Some op → m ≡ number + k → AreBefore m op.sources)
    → AreEarlier number (map step_from ops)
earlier_all number [] all = tt
earlier_all number (op ∷ ops) all = (
  All-from_recursion (IsEarlier number) (step_from op).operands (before_all number op.sources (all 0 number op refl (omega arith))),
  earlier_all (number + 1) ops (λ k m o at is. all (suc k) m o at (omega arith)),
)

chained_all : (last : Option ℕ) (number : ℕ) (ops : List Operation) → AreChained last number (map step_from ops)
unfolding writes
chained_all last number [] = tt
chained_all last number (op ∷ ops) = ((λ loud. absurd (cc)), chained_all last (number + 1) ops)

bytes_none : (given : ℕ → Option Datum) (ops : List Operation) → bytes_of given (map step_from ops) ≡ []
unfolding written
bytes_none given [] = refl
bytes_none given (op ∷ ops) = bytes_none given ops

recorded : (ops : List Operation) → SourcesAreEarlier ops → IsRecord (tape_of ops)
recorded ops earlier = record {
  earlier = earlier_all 0 ops (λ k m op at is. subst (λ (n : ℕ). AreBefore n op.sources) (let e : k ≡ m = omega arith in e) (earlier k op at));
  chained = chained_all None 0 ops;
  output = bytes_none (slice_get (serial (map step_from ops))) ops;
}

no_rounds : (workers seed : ℕ) (u : Standing) → Rounds seed workers 0 u u
unfolding Rounds
no_rounds workers seed u = refl

pub schedules_exist : SchedulesExist
schedules_exist ops workers seed earlier some few =
    let tape : Record = tape_of ops in
    let u : Standing = begun workers (started tape workers) in
    let fit : IsFit ops workers u = record {
      sources = have_sources ops;
      sound = started_sound tape workers (recorded ops earlier);
      many = length-replicate workers None;
    } in
    let found = ended ops tape workers seed (omega arith) few (weight u.play) 0 u (no_rounds workers seed u) fit (omega arith) in
    (found.1, records_have_schedule tape ops workers seed found.0 found.1 (have_sources ops) found.2)

pub texts_exist : ReplayTextsExist
texts_exist workers seed exit output events earlier some few =
    let found = schedules_exist (operations events) workers seed earlier some few in
    (replay_text output (length (operations events)) exit found.0, record { schedule = found.0; is_schedule = found.1; is = refl })
