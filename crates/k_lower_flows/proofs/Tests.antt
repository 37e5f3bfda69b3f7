-- Values, tests, and the parts behind them.
use Rattle.std.proofs.Common.{ℕ, zero, suc, ◌≡◌, ◌+◌, ◌≤◌, Bool, true, false, ◌||◌, if◌then◌else◌, List, [], ◌∷◌, length, map, None, refl, sym, subst, ap, ◌∙◌, arith}
use Rattle.k_num.specs.declared.place.Place.{Place}
use Rattle.k_optab.specs.declared.class.Class.{Class}
use Rattle.k_optab.specs.Latencies.{latency}
use Rattle.k_marks_meaning.specs.declared.jumps.Jumps.{Jumps}
use Rattle.k_marks_meaning.specs.Jumps.{is_left}
use Rattle.k_world.specs.declared.act.Act.TheVariants as act
use Rattle.k_world.specs.declared.value.Held.{Held}
use Rattle.k_world.specs.declared.value.Read.{Read}
use Rattle.k_world.specs.Acts.{effect}
use Rattle.k_world.specs.Operations.{Made, Gives, Ends, operation}
use Rattle.k_world.specs.Values.{is_true}
use Rattle.k_world.specs.Worlds.{World}
use Rattle.k_world.specs.WorldLaws.{WhereMade}
use Rattle.k_world.proofs.Sound.{operation_cases}
use Rattle.k_code.specs.declared.code.Code.{Code}
use Rattle.k_code.specs.declared.instruction.Arg.{Arg}
use Rattle.k_code.specs.declared.instruction.Do.TheVariants as do_
use Rattle.k_code.specs.Named.{operands}
use Rattle.k_code.specs.Steps.{Run, Going, step, by_operation, operation_of, alone, behind, read_of}
use Rattle.k_code.proofs.Kept.{OneFewer}
use Rattle.k_evaluation.specs.declared.flow.Flow.{Flow}
use Rattle.k_evaluation.specs.declared.flow.Flow.TheVariants.{Normal, Broke, Continued, Returned}
use Rattle.k_evaluation.specs.declared.operand.Operand.{Operand}
use Rattle.k_evaluation.specs.States.{Program, State, Outcome, Goes, Stops, Part, follow, ◌>>=◌, gives, made, makes, read, control, settles}
use Rattle.k_evaluation.specs.States as part_of
use Rattle.k_evaluation_control.specs.Laws.{IsTidy, Allows}
use Rattle.k_evaluation_control.proofs.Ends.{EndsAs}
use Rattle.k_evaluation_control.proofs.Ends as ending
use Rattle.k_evaluation_control.proofs.Kept.{Keeps, Leaves}
use Rattle.k_evaluation_control.proofs.Tidy.{operation_tidy}
use Rattle.k_lower_code.specs.Pieces.{Piece, instruction}
use Rattle.k_lower_code.specs.Stretches as stretches
use Rattle.k_lower_code.specs.Stretches.{Stretch}
use Rattle.k_lower_runs.proofs.Instructions.{alone_steps, operation_steps}
use Rattle.k_lower_runs.proofs.Leads.{Registers, Site, at, live_at, Agrees, HasAt, Reaches, Leads, Follows, reaches_both, goes_by_operation, Moves, operation_moves, ends_from, ends_at}
use Rattle.k_lower_flows.proofs.Blocks.{StretchIsSized}
use Rattle.k_lower_flows.proofs.Landing.{given_on, both_long, moved, split, stays_on, live_same, Lands, Lies, lands_from}

-- what a test that was made leaves: it is the control source
pub record Tested (live : ℕ) (before : World) (h : Held) (after : World) : Type 0 where
  pub fewer : OneFewer before after
  pub tidy : IsTidy live after
  pub control : after.control ≡ h.source

-- a test gives its own number as source
abbrev IsControl : Made → Type 0
IsControl (Gives h w) = w.control ≡ h.source
IsControl (Ends end w) = Unit {0}

test_controls : (class : Class) (takes : ℕ) (place : Place) (reads : List Read) (w : World) → IsControl (operation class takes place act.Test reads w)
unfolding effect
test_controls class takes place reads w = operation_cases IsControl class takes place act.Test reads w (λ end early. tt) (λ some v. refl)

-- a flow is normal, or a jump
abbrev pub IsJump : Flow → Type 0
IsJump Normal = ⊥
IsJump Broke = Unit {0}
IsJump Continued = Unit {0}
IsJump (Returned v) = Unit {0}

-- no jump is allowed by a text that is not left
pub not_allowed : (j : Jumps) (flow : Flow) → is_left j ≡ false → Allows j flow → IsJump flow → ⊥
not_allowed j Normal none allowed jump = jump
not_allowed j Broke none allowed jump = cc (sym none ∙ ap (λ b. b || (j.continues || j.returns)) allowed)
not_allowed j Continued none allowed jump = by j.breaks j.continues allowed none
  where
    by : (b c : Bool) → c ≡ true → (b || (c || j.returns)) ≡ false → ⊥
    by true c is left = cc left
    by false true is left = cc left
    by false false is left = cc is
not_allowed j (Returned v) none allowed jump = by j.breaks j.continues j.returns allowed none
  where
    by : (b c r : Bool) → r ≡ true → (b || (c || r)) ≡ false → ⊥
    by true c r is left = cc left
    by false true r is left = cc left
    by false false r is left = cc (sym is ∙ left)

module _ (code : Code) (deep count : ℕ) (program : Program) where
  -- A VALUE, and what follows it
  pub value_lands : {A B : Type 0} (exact : Bool) (site : Site) (target : stretches.Site) (r : ℕ) (P : Registers → Type 0) (part : Part A) (piece : Piece B) (V : A → B → Registers → Type 0)
      → Follows code deep count r P part piece V → Keeps part
      → (first next opens : ℕ) (s : State) (registers : Registers) → HasAt code first (piece.code first) → Agrees count s registers → P registers → IsTidy (live_at deep) s.world
      → (rest : A → Part Flow)
      → ((a : A) (t : State) (new : Registers) → Agrees count t new → V a piece.gives new → IsTidy (live_at deep) t.world → t.world.control ≡ s.world.control
      → length t.world.memory.live ≡ length s.world.memory.live → t.world.left ≤ s.world.left
      → Lands code deep count exact site target (Going (at site (first + piece.size) new t.world)) next opens (rest a t))
      → Lands code deep count exact site target (Going (at site first registers s.world)) next opens ((part >>= rest) s)
  value_lands {A} {B} exact site target r P part piece V follows keeps first next opens s registers has agrees p tidy rest goes =
      lands (part s) (follows site first s registers has (agrees, tidy) p) (keeps.leaves (live_at deep) s tidy) where
        lands : (o : Outcome A) → Leads code deep count site (Going (at site first registers s.world)) (first + piece.size) r registers (λ a new. V a piece.gives new) o
            → Leaves (live_at deep) true s.world.control o → Lands code deep count exact site target (Going (at site first registers s.world)) next opens (follow o rest)
        lands (Goes a t) leads leaves =
            lands_from code deep count exact site target (Going (at site first registers s.world)) (Going (at site (first + piece.size) leads.0 t.world)) next opens (rest a t) leads.1
            (stays_on site.base s.world t.world leads.5)
            (goes a t leads.0 leads.2 leads.4 leaves.0 leaves.1 (live_same s.world t.world leads.5.numbers) leads.5.left)
        lands (Stops end w) leads leaves = leads

  -- A TEST, and what follows it, by whether its number is other than 0
  pub test_lands : (exact : Bool) (site : Site) (target : stretches.Site) (class : Class) (place : Place) (o : Operand) (a : Arg) (taken other : ℕ)
      → (pc next opens : ℕ) (s : State) (registers : Registers) → HasAt code pc (instruction program place (do_.Test a taken other None class) ∷ [])
      → map (read s) (o ∷ []) ≡ map (read_of registers) (a ∷ []) → IsTidy (live_at deep) s.world
      → (rest : Held → Part Flow)
      → ((h : Held) (w : World) → Tested (live_at deep) s.world h w
      → Lands code deep count exact site target (Going (at site (if is_true h.value then taken else other) registers w)) next opens (rest h (record s { world = w })))
      → Lands code deep count exact site target (Going (at site pc registers s.world)) next opens ((makes program class place act.Test (o ∷ []) >>= rest) s)
  unfolding operation_of operands behind
  test_lands exact site target class place o a taken other pc next opens s registers has same tidy rest goes =
      lands (operation class takes place act.Test (map (read s) (o ∷ [])) s.world) (operation_moves class takes place act.Test (map (read s) (o ∷ [])) s.world)
      (operation_tidy (live_at deep) class takes place act.Test (map (read s) (o ∷ [])) s.world tidy) (test_controls class takes place (map (read s) (o ∷ [])) s.world)
      (operation_steps code site pc s registers program place class act.Test (o ∷ []) (do_.Test a taken other None class) has refl same) where
        takes : ℕ
        takes = latency program.latencies class

        lands : (m : Made) → WhereMade Moves s.world m → WhereMade (λ before after. IsTidy (live_at deep) after) s.world m → IsControl m
            → step code (Going (at site pc registers s.world)) ≡ by_operation code (instruction program place (do_.Test a taken other None class)) (at site pc registers s.world) m
            → Lands code deep count exact site target (Going (at site pc registers s.world)) next opens (follow (made s m) rest)
        lands (Gives h w) fewer clean controls steps_to =
            lands_from code deep count exact site target (Going (at site pc registers s.world)) (Going (at site (if is_true h.value then taken else other) registers w)) next opens
            (rest h (record s { world = w })) (suc zero, steps_to) (stays_on site.base s.world w (goes_by_operation s.world w fewer))
            (goes h w (record { fewer = fewer.fewer; tidy = clean; control = controls }))
        lands (Ends end w) fewer clean controls steps_to = ends_at code (Going (at site pc registers s.world)) end w (suc zero, steps_to)

  -- as many objects are live behind an operation
  pub live_behind : (before after : World) → OneFewer before after → length after.memory.live ≡ length before.memory.live
  live_behind before after fewer = live_same before after fewer.same.numbers

  -- SAVE, A STRETCH, BACK: the control source behind it is as before, where it ends normally
  module _ (j : Jumps) (none : is_left j ≡ false) (t : Stretch) (sized : StretchIsSized t) (site : Site) (target : stretches.Site) (first : ℕ) (s : State) (registers : Registers)
      (has : HasAt code first ((stretches.settled program t).code target first)) where
    -- the call in which the stretch runs
    abbrev pub saved_in : Site
    saved_in = record site { saved = s.world.control ∷ site.saved }

    abbrev from : Run
    from = Going (at site first registers s.world)

    -- what the code has
    record SettledHas : Type 0 where
      save : HasAt code first (instruction program t.place do_.Save ∷ [])
      own : HasAt code (first + 1) (t.code target (first + 1))
      back : HasAt code ((first + 1) + t.size) (instruction program t.place do_.Back ∷ [])

    settled_has : SettledHas
    settled_has =
        let whole = split code first (1 + t.size) (instruction program t.place do_.Save ∷ t.code target (first + 1)) (instruction program t.place do_.Back ∷ [])
        (let long : length (t.code target (first + 1)) ≡ t.size = sized target (first + 1) in omega (arith, long)) has in
        record {
          save = (whole.0.0, tt);
          own = whole.0.1;
          back = moved code (first + (1 + t.size)) ((first + 1) + t.size) (instruction program t.place do_.Back ∷ []) (omega arith) whole.1;
        }

    saves : Reaches code from (Going (at saved_in (first + 1) registers s.world))
    unfolding alone operation_of
    saves = (suc zero, alone_steps code site first s.world registers program t.place do_.Save settled_has.save refl)

    takes_back : (w : World) (new : Registers) → Reaches code (Going (at saved_in ((first + 1) + t.size) new w)) (Going (at site (first + (1 + t.size + 1)) new (record w { control = s.world.control })))
    unfolding alone operation_of
    takes_back w new = (
      suc zero,
      alone_steps code saved_in ((first + 1) + t.size) w new program t.place do_.Back settled_has.back refl
          ∙ ap (λ n. Going (at site n new (record w { control = s.world.control }))) (let e : ((first + 1) + t.size) + 1 ≡ first + (1 + t.size + 1) = omega arith in e),
    )

    settled_outcome : (o : Outcome Flow) → EndsAs (live_at deep) ⊥ j s.world.control o → Lands code deep count true saved_in target (Going (at saved_in (first + 1) registers s.world)) ((first + 1) + t.size) t.opens o
        → Lands code deep count true site target from (first + (1 + t.size + 1)) t.opens (follow o (λ flow. settles false s.world.control >>= λ done. gives flow))
    settled_outcome (Goes Normal x) allowed here = record {
      registers = here.registers;
      reaches = reaches_both code from (Going (at saved_in ((first + 1) + t.size) here.registers x.world)) _
          (reaches_both code from (Going (at saved_in (first + 1) registers s.world)) (Going (at saved_in ((first + 1) + t.size) here.registers x.world)) saves here.reaches)
          (takes_back x.world here.registers);
      agrees = record { length_is = here.agrees.length_is; hold = here.agrees.hold };
      live_are = here.live_are;
      stays = record { older = here.stays.older; calls = here.stays.calls; size = here.stays.size; left = here.stays.left };
    }
    settled_outcome (Goes Broke x) allowed here = absurd (not_allowed j Broke none allowed.1 tt)
    settled_outcome (Goes Continued x) allowed here = absurd (not_allowed j Continued none allowed.1 tt)
    settled_outcome (Goes (Returned v) x) allowed here = absurd (not_allowed j (Returned v) none allowed.1 tt)
    settled_outcome (Stops end w) allowed here = ends_from code from (Going (at saved_in (first + 1) registers s.world)) end w saves here

    -- where the stretch leads from there
    pub settled_lands : (part : Part Flow) → EndsAs (live_at deep) ⊥ j s.world.control (part s)
        → (HasAt code (first + 1) (t.code target (first + 1)) → Lands code deep count true saved_in target (Going (at saved_in (first + 1) registers s.world)) ((first + 1) + t.size) t.opens (part s))
        → Lands code deep count true site target (Going (at site first registers s.world)) (first + (stretches.settled program t).size) t.opens (part_of.settled false part s)
    settled_lands part allowed lands = settled_outcome (part s) allowed (lands settled_has.own)

  pub settled_lies : (part : Part Flow) (j : Jumps) (t : Stretch) → StretchIsSized t → ending.Ends ⊥ j part → is_left j ≡ false → Lies code deep count true part t
      → Lies code deep count true (part_of.settled false part) (stretches.settled program t)
  settled_lies part j t sized ends none lies site target first s registers has agrees tidy live_are =
      settled_lands j none t sized site target first s registers has part (ends.ends (live_at deep) s tidy)
      (λ own. lies (record site { saved = s.world.control ∷ site.saved }) target (first + 1) s registers own agrees tidy live_are)

  pub settled_sized : (t : Stretch) → StretchIsSized t → StretchIsSized (stretches.settled program t)
  settled_sized t sized target first =
      both_long (instruction program t.place do_.Save ∷ t.code target (first + 1)) (instruction program t.place do_.Back ∷ []) (1 + t.size) 1
      (let long : length (t.code target (first + 1)) ≡ t.size = sized target (first + 1) in omega (arith, long)) refl

  -- the same where it stays as the stretch leaves it
  pub settled_unless_lies : (b : Bool) (part : Part Flow) (j : Jumps) (t : Stretch) → StretchIsSized t → ending.Ends ⊥ j part → (b ≡ false → is_left j ≡ false) → Lies code deep count true part t
      → Lies code deep count true (part_of.settled b part) (stretches.settled_unless b program t)
  settled_unless_lies true part j t sized ends none lies = λ site target first s registers has agrees tidy live_are.
      subst (λ (o : Outcome Flow). Lands code deep count true site target (Going (at site first registers s.world)) (first + t.size) t.opens o) (sym (given_on (part s)))
      (lies site target first s registers has agrees tidy live_are)
  settled_unless_lies false part j t sized ends none lies = settled_lies part j t sized ends (none refl) lies

  pub settled_unless_sized : (b : Bool) (t : Stretch) → StretchIsSized t → StretchIsSized (stretches.settled_unless b program t)
  settled_unless_sized true t sized = sized
  settled_unless_sized false t sized = settled_sized t sized
