-- Loops: a turn's body in its region, its step, and the test that leads back.
use Rattle.std.proofs.Common.{ℕ, zero, suc, ◌≡◌, ◌+◌, ◌-◌, ◌≤◌, ◌<◌, Bool, true, false, not, ◌&&◌, ◌||◌, if◌then◌else◌, List, [], ◌∷◌, ◌++◌, length, nat_eq, replicate, Option, None, refl, sym, subst, ap, ◌∙◌, append_assoc, arith}
use Rattle.std.proofs.lemmas.Bool.{and_parts, or_left, or_right}
use Rattle.k_num.specs.declared.place.Place.{Place}
use Rattle.k_mem.specs.Memory.{Memory}
use Rattle.k_optab.specs.declared.event.Event.{Event}
use Rattle.k_optab.specs.declared.class.Class.TheVariants as class
use Rattle.k_optab.specs.declared.event.Event.TheVariants as event
use Rattle.k_marks_meaning.specs.declared.jumps.Jumps.{Jumps}
use Rattle.k_marks_meaning.specs.Jumps.{is_left, out_of_loop}
use Rattle.k_world.specs.declared.act.Act.TheVariants as act
use Rattle.k_world.specs.declared.value.Held.{Held}
use Rattle.k_world.specs.Values.{is_true}
use Rattle.k_world.specs.Worlds.{World, with_event}
use Rattle.k_code.specs.declared.code.Code.{Code}
use Rattle.k_code.specs.declared.instruction.Arg.{Arg}
use Rattle.k_code.specs.declared.instruction.Do.{Do}
use Rattle.k_code.specs.declared.instruction.Do.TheVariants as do_
use Rattle.k_code.specs.declared.instruction.Instr.{Instr}
use Rattle.k_code.specs.Runs.{world_of}
use Rattle.k_code.specs.Steps.{Run, Going, operation_of, alone, newest, handed_back, left_by}
use Rattle.k_evaluation.specs.declared.flow.Flow.{Flow}
use Rattle.k_evaluation.specs.declared.flow.Flow.TheVariants.{Normal, Broke, Continued, Returned}
use Rattle.k_evaluation.specs.declared.operand.Operand.{Operand}
use Rattle.k_evaluation.specs.Loops as loops
use Rattle.k_evaluation.specs.Loops.{Turn, Again, turn_of, resets, starts, stays_behind_body, stays_behind_loop, step_or_end, behind_body, turn, turn_if, turns, all_turns, begins}
use Rattle.k_evaluation.specs.Meanings.{tests}
use Rattle.k_evaluation.specs.States.{Program, State, Outcome, Goes, Stops, Part, follow, ◌>>=◌, gives, region, exits, settles}
use Rattle.k_evaluation_control.specs.Laws.{IsTidy}
use Rattle.k_evaluation_control.proofs.Ends.{Ends, EndsAs, LoopEnds, begins_ends, ends_more, region_ends}
use Rattle.k_evaluation_control.proofs.Kept.{Keeps, then_does, tidies, makes_keeps}
use Rattle.k_lower_code.specs.Loops as code_of
use Rattle.k_lower_code.specs.Loops.{if_so, one_if, saves_body, before_body, break_size, body_size, body_site, body_code, restores_step, turn_size, before_turns, end_of, turns_code}
use Rattle.k_lower_code.specs.Pieces.{Piece, IsSized, instruction}
use Rattle.k_lower_code.specs.Stretches as stretches
use Rattle.k_lower_code.specs.Stretches.{Stretch, pad, pad_size, over, over_size, settled_unless}
use Rattle.k_lower_runs.proofs.Instructions.{alone_steps}
use Rattle.k_lower_runs.proofs.Leads.{Registers, Site, at, live_at, Agrees, HasAt, Reaches, Follows, reaches_both, reaches_itself}
use Rattle.k_lower_runs.proofs.Values.{Same, Always, reads_same}
use Rattle.k_lower_flows.proofs.Blocks.{StretchIsSized, jump_reaches, over_reaches}
use Rattle.k_lower_flows.proofs.Landing.{handed, given_on, both_long, follow_both, moved, split, Stays, stays_itself, frame_of, Here, Returns, Lands, Lies, lands_from}
use Rattle.k_lower_flows.proofs.Tests.{Tested, value_lands, test_lands, live_behind, settled_lands, settled_sized}

-- the world, in which the control source is this where that is so
abbrev pub restored : Bool → Option ℕ → World → World
restored true c w = record w { control = c }
restored false c w = w

-- the call has saved this control source, where that is so
abbrev pub saved_more : Bool → Option ℕ → List (Option ℕ) → List (Option ℕ)
saved_more true c saved = c ∷ saved
saved_more false c saved = saved

-- the same of the call
abbrev pub saving : Bool → Option ℕ → Site → Site
saving b c site = record site { saved = saved_more b c site.saved }

-- the call has one region more open
abbrev pub inside : Site → Site
inside site = record site { regions = site.regions + 1 }

-- a world is the same with the control source that it has
pub has_control : (w : World) (c : Option ℕ) → w.control ≡ c → w ≡ record w { control = c }
has_control w c is = λ i. record w { control = is i }

module _ (code : Code) (program : Program) (place : Place) where
  restore_reaches : (site : Site) (pc : ℕ) (w : World) (registers : Registers) (b : Bool) (c : Option ℕ) → (b ≡ true → newest site.saved ≡ c) → HasAt code pc (if_so program place b do_.Restore)
      → Reaches code (Going (at site pc registers w)) (Going (at site (pc + one_if b) registers (restored b c w)))
  unfolding alone operation_of
  restore_reaches site pc w registers false c is has = (0, ap (λ n. Going (at site n registers w)) (let e : pc ≡ pc + 0 = omega arith in e))
  restore_reaches site pc w registers true c is has =
      (suc zero, alone_steps code site pc w registers program place do_.Restore has refl ∙ ap (λ x. Going (at site (pc + 1) registers (record w { control = x }))) (is refl))

  save_reaches : (site : Site) (pc : ℕ) (w : World) (registers : Registers) (b : Bool) → HasAt code pc (if_so program place b do_.Save)
      → Reaches code (Going (at site pc registers w)) (Going (at (saving b w.control site) (pc + one_if b) registers w))
  unfolding alone operation_of
  save_reaches site pc w registers false has = (0, ap (λ n. Going (at site n registers w)) (let e : pc ≡ pc + 0 = omega arith in e))
  save_reaches site pc w registers true has = (suc zero, alone_steps code site pc w registers program place do_.Save has refl)

  back_reaches : (site : Site) (pc : ℕ) (w : World) (registers : Registers) (b : Bool) (c : Option ℕ) → HasAt code pc (if_so program place b do_.Back)
      → Reaches code (Going (at (saving b c site) pc registers w)) (Going (at site (pc + one_if b) registers (restored b c w)))
  unfolding alone operation_of
  back_reaches site pc w registers false c has = (0, ap (λ n. Going (at site n registers w)) (let e : pc ≡ pc + 0 = omega arith in e))
  back_reaches site pc w registers true c has = (suc zero, alone_steps code (saving true c site) pc w registers program place do_.Back has refl)

  pub enter_reaches : (site : Site) (pc : ℕ) (w : World) (registers : Registers) (number : ℕ) → HasAt code pc (instruction program place (do_.Enter number) ∷ [])
      → Reaches code (Going (at site pc registers w)) (Going (at (inside site) (pc + 1) registers (with_event (event.Enter number) w)))
  unfolding alone operation_of
  enter_reaches site pc w registers number has = (suc zero, alone_steps code site pc w registers program place (do_.Enter number) has refl)

  pub exit_reaches : (site : Site) (pc : ℕ) (w : World) (registers : Registers) → HasAt code pc (instruction program place do_.Exit ∷ [])
      → Reaches code (Going (at (inside site) pc registers w)) (Going (at site (pc + 1) registers (with_event event.Exit w)))
  unfolding alone operation_of
  exit_reaches site pc w registers has = (
    suc zero,
    alone_steps code (inside site) pc w registers program place do_.Exit has refl
        ∙ ap (λ (n : ℕ). Going (at (record site { regions = n }) (pc + 1) registers (with_event event.Exit w))) (let e : (site.regions + 1) - 1 ≡ site.regions = omega arith in e),
  )

  if_so_long : (b : Bool) (act : Do) → length (if_so program place b act) ≡ one_if b
  if_so_long false act = refl
  if_so_long true act = refl

-- a call that returns leaves its newest region on the way
pub exit_returns : (code : Code) (site : Site) (from : Run) (v : Option Held) (w : World) → Returns code (inside site) from v w → Returns code site from v (with_event event.Exit w)
exit_returns code site from v w returns = record {
  control = returns.control;
  reaches = subst (λ (events : List Event). Reaches code from (handed_back site.waiting (handed (nat_eq site.func code.main) v) (record (record (left_by code (frame_of (inside site)) w) { events = events }) { control = returns.control })))
      more returns.reaches;
  stays = record { older = returns.stays.older; calls = returns.stays.calls; size = returns.stays.size; left = returns.stays.left };
} where
  more : w.events ++ replicate ((site.regions + 1) + 1) event.Exit ≡ (w.events ++ event.Exit ∷ []) ++ replicate (site.regions + 1) event.Exit
  more = ap (λ n. w.events ++ replicate n event.Exit) (let e : (site.regions + 1) + 1 ≡ suc (site.regions + 1) = omega arith in e)
      ∙ sym (append_assoc w.events (event.Exit ∷ []) (replicate (site.regions + 1) event.Exit))

-- THE CONTROL SOURCE BEHIND A BODY, before the step: what *Evaluation* sets, and what code takes back
abbrev stayed : Bool → Option ℕ → World → World
stayed stays c w = restored (not stays) c w

worlds_meet : (counted breaks continues returns : Bool) (w : World) (before last : Option ℕ) → (counted ≡ true → (breaks ≡ false) × (returns ≡ false))
    → ((breaks || (continues || returns)) ≡ false → w.control ≡ (if counted then before else last))
    → restored counted before (stayed (breaks || returns) last w)
    ≡ restored (counted && continues) before (restored (not counted && (continues && not (breaks || returns))) last w)
worlds_meet true true continues returns w before last through same = absurd (cc (through refl).0)
worlds_meet true false continues true w before last through same = absurd (cc (through refl).1)
worlds_meet true false true false w before last through same = refl
worlds_meet true false false false w before last through same = sym (has_control w before (same refl))
worlds_meet false true true returns w before last through same = refl
worlds_meet false true false returns w before last through same = refl
worlds_meet false false true true w before last through same = refl
worlds_meet false false false true w before last through same = refl
worlds_meet false false true false w before last through same = refl
worlds_meet false false false false w before last through same = sym (has_control w last (same refl))

-- a body that saves holds no jump out of its loop
no_save_break : (counted breaks continues returns : Bool) → breaks ≡ true → not counted && (continues && not (breaks || returns)) ≡ false
no_save_break counted false continues returns is = absurd (cc is)
no_save_break true true continues returns is = refl
no_save_break false true true returns is = refl
no_save_break false true false returns is = refl

no_save_return : (counted breaks continues returns : Bool) → returns ≡ true → not counted && (continues && not (breaks || returns)) ≡ false
no_save_return counted breaks continues false is = absurd (cc is)
no_save_return true breaks continues true is = refl
no_save_return false true true true is = refl
no_save_return false false true true is = refl
no_save_return false breaks false true is = refl

-- A LOOP, by its parts and their code
pub record LoopDoes (code : Code) (deep count : ℕ) (program : Program) (place : Place) (value : Part Operand) (test : Piece Arg) (step : Part (Unit {0})) (step_code : Piece (Unit {0})) (body : Part Flow)
    (text : Stretch) (counted : Bool) : Type 0 where
  pub value_follows : Follows code deep count count Always value test (λ o a new. Same count count new o a)
  pub value_keeps : Keeps value
  pub value_sized : IsSized test
  pub step_follows : Follows code deep count count Always step step_code (λ a b new. Unit {0})
  pub step_keeps : Keeps step
  pub step_sized : IsSized step_code
  pub body_lies : Lies code deep count true body text
  pub body_sized : StretchIsSized text
  pub body_ends : Ends (is_left text.jumps ≡ false) text.jumps body
  pub body_opens : text.opens ≡ 0
  pub through : counted ≡ true → (text.jumps.breaks ≡ false) × (text.jumps.returns ≡ false)

module _ (code : Code) (deep count : ℕ) (program : Program) (place : Place) (number : ℕ) (value : Part Operand) (test : Piece Arg) (step : Part (Unit {0})) (step_code : Piece (Unit {0}))
    (body : Part Flow) (text : Stretch) (counted tested : Bool) (h : LoopDoes code deep count program place value test step step_code body text counted) where
  abbrev l : loops.LoopParts
  l = record { test = value >>= tests program place; step = step; body = region (number + 1) body; counted = counted; jumps = text.jumps }

  abbrev ll : code_of.LoopParts
  ll = record { place = place; region = number; test = test; step = step_code; body = text; counted = counted; tested = tested }

  abbrev j : Jumps
  j = text.jumps

  abbrev saves : Bool
  saves = saves_body ll

  abbrev restores : Bool
  restores = restores_step ll

  -- THE BODY in its region, of which the first instruction has this number
  module _ (end first : ℕ) (target : stretches.Site) where
    abbrev start : ℕ
    start = first + before_body ll

    abbrev behind_text : ℕ
    behind_text = start + text.size

    abbrev exit : ℕ
    exit = start + text.size + break_size ll

    abbrev last_part : List Instr
    last_part = instruction program place do_.Exit ∷ if_so program place saves do_.Back

    -- what the code has, part by part
    pub record BodyHas : Type 0 where
      pub restoring : HasAt code first (if_so program place counted do_.Restore)
      pub saving_it : HasAt code (first + one_if counted) (if_so program place saves do_.Save)
      pub entering : HasAt code (first + one_if counted + one_if saves) (instruction program place (do_.Enter (number + 1)) ∷ [])
      pub own : HasAt code start (text.code (body_site ll target start) start)
      pub jumping : HasAt code behind_text (over program place j.breaks exit)
      pub padding : HasAt code (behind_text + over_size j.breaks) (pad program place do_.Exit j.breaks end)
      pub exiting : HasAt code exit (instruction program place do_.Exit ∷ [])
      pub taking_back : HasAt code (exit + 1) (if_so program place saves do_.Back)

    over_long : (b : Bool) (to : ℕ) → length (over program place b to) ≡ over_size b
    over_long false to = refl
    over_long true to = refl

    pad_long : (b : Bool) (to : ℕ) → length (pad program place do_.Exit b to) ≡ pad_size b
    pad_long false to = refl
    pad_long true to = refl

    -- its front up to its text, the jump behind that, and the padding
    abbrev savings : List Instr
    savings = if_so program place counted do_.Restore ++ if_so program place saves do_.Save

    abbrev its_text : List Instr
    its_text = instruction program place (do_.Enter (number + 1)) ∷ text.code (body_site ll target start) start

    abbrev front : List Instr
    front = savings ++ its_text

    abbrev jump : List Instr
    jump = over program place j.breaks exit

    abbrev padding_code : List Instr
    padding_code = pad program place do_.Exit j.breaks end

    abbrev front_size : ℕ
    front_size = (one_if counted + one_if saves) + (1 + text.size)

    abbrev padded_size : ℕ
    padded_size = (front_size + over_size j.breaks) + pad_size j.breaks

    savings_long : length savings ≡ one_if counted + one_if saves
    savings_long =
        both_long (if_so program place counted do_.Restore) (if_so program place saves do_.Save) (one_if counted) (one_if saves)
        (if_so_long code program place counted do_.Restore) (if_so_long code program place saves do_.Save)

    text_long : length front ≡ front_size
    text_long = both_long savings its_text (one_if counted + one_if saves) (1 + text.size) savings_long (let own = h.body_sized (body_site ll target start) start in omega (arith, own))

    jumping_long : length (front ++ jump) ≡ front_size + over_size j.breaks
    jumping_long = both_long front jump front_size (over_size j.breaks) text_long (over_long j.breaks exit)

    padded_long : length ((front ++ jump) ++ padding_code) ≡ padded_size
    padded_long = both_long (front ++ jump) padding_code (front_size + over_size j.breaks) (pad_size j.breaks) jumping_long (pad_long j.breaks end)

    body_long : length (body_code program ll target end first) ≡ body_size ll
    body_long =
        both_long ((front ++ jump) ++ padding_code) last_part padded_size (1 + one_if saves) padded_long (let e = if_so_long code program place saves do_.Back in omega (arith, e))
        ∙ (let e : padded_size + (1 + one_if saves) ≡ body_size ll = omega arith in e)

    body_has : HasAt code first (body_code program ll target end first) → BodyHas
    body_has has =
        let a = split code first padded_size ((front ++ jump) ++ padding_code) last_part padded_long has in
        let b = split code first (front_size + over_size j.breaks) (front ++ jump) padding_code jumping_long a.0 in
        let c = split code first front_size front jump text_long b.0 in
        let d = split code first (one_if counted + one_if saves) savings its_text savings_long c.0 in
        let e = split code first (one_if counted) (if_so program place counted do_.Restore) (if_so program place saves do_.Save) (if_so_long code program place counted do_.Restore) d.0 in
        let last : HasAt code exit last_part = moved code (first + padded_size) exit last_part (omega arith) a.1 in
        record {
          restoring = e.0;
          saving_it = e.1;
          entering = moved code (first + (one_if counted + one_if saves)) (first + one_if counted + one_if saves) (instruction program place (do_.Enter (number + 1)) ∷ []) (omega arith) (d.1.0, tt);
          own = moved code (first + (one_if counted + one_if saves) + 1) start (text.code (body_site ll target start) start) (omega arith) d.1.1;
          jumping = moved code (first + front_size) behind_text jump (omega arith) c.1;
          padding = moved code (first + (front_size + over_size j.breaks)) (behind_text + over_size j.breaks) padding_code (omega arith) b.1;
          exiting = (last.0, tt);
          taking_back = last.1;
        }

    no_break : (b : Bool) → b ≡ false → (behind_text ≡ start + text.size + (over_size b + pad_size b))
    no_break false is = (let e : behind_text ≡ start + text.size + 0 = omega arith in e)
    no_break true is = absurd (cc is)

    module _ (site : Site) (has : BodyHas) (s : State) (before last : Option ℕ) (is_saved : counted ≡ true → newest site.saved ≡ before) (is_last : counted ≡ false → s.world.control ≡ last) where
      abbrev began : World
      began = restored counted before s.world

      -- the world and the call in which the body begins
      abbrev entered : World
      entered = with_event (event.Enter (number + 1)) began

      abbrev inner : Site
      inner = inside (saving saves began.control site)

      enters : (registers : Registers) → Reaches code (Going (at site first registers s.world)) (Going (at inner start registers entered))
      enters registers =
          reaches_both code (Going (at site first registers s.world)) (Going (at site (first + one_if counted) registers began)) _
          (restore_reaches code program place site first s.world registers counted before is_saved has.restoring)
          (reaches_both code (Going (at site (first + one_if counted) registers began)) (Going (at (saving saves began.control site) (first + one_if counted + one_if saves) registers began)) _
          (save_reaches code program place site (first + one_if counted) began registers saves has.saving_it)
          (subst (λ n. Reaches code (Going (at (saving saves began.control site) (first + one_if counted + one_if saves) registers began)) (Going (at inner n registers entered)))
          (let e : first + one_if counted + one_if saves + 1 ≡ start = omega arith in e)
          (enter_reaches code program place (saving saves began.control site) (first + one_if counted + one_if saves) began registers (number + 1) has.entering)))

      -- the control source with which the body begins
      begun : began.control ≡ (if counted then before else last)
      begun = by counted refl
        where
          by : (b : Bool) → counted ≡ b → (restored b before s.world).control ≡ (if b then before else last)
          by true is = refl
          by false is = is_last is

      -- what *Evaluation* leaves behind the body, before the step
      abbrev settled_world : World → World
      settled_world w = restored counted before (stayed (j.breaks || j.returns) last w)

      -- and code, which saved it
      saved_is : (w : World) → restored saves began.control w ≡ restored saves last w
      saved_is w = by counted refl
        where
          by : (b : Bool) → counted ≡ b
              → restored (not b && (j.continues && not (j.breaks || j.returns))) (restored b before s.world).control w ≡ restored (not b && (j.continues && not (j.breaks || j.returns))) last w
          by true is = refl
          by false is = ap (λ c. restored (j.continues && not (j.breaks || j.returns)) c w) (is_last is)

      meets : (w : World) → (is_left j ≡ false → w.control ≡ began.control) → settled_world w ≡ restored restores before (restored saves began.control w)
      meets w same = worlds_meet counted j.breaks j.continues j.returns w before last h.through (λ none. same none ∙ begun) ∙ sym (ap (restored restores before) (saved_is w))

      -- behind a body that ended, at its exit: the step follows, under the control source that *Evaluation* sets
      leaves_body : (next opens : ℕ) (outer : stretches.Site) (y : State) (from : Run) → IsTidy (live_at deep) y.world → (is_left j ≡ false → y.world.control ≡ began.control)
          → Here code deep count inner from exit (site.base + outer.objects) y
          → HasAt code (exit + 1 + one_if saves) (if_so program place restores do_.Restore)
          → (rest : Part Flow)
          → ((t : State) (new : Registers) → Agrees count t new → IsTidy (live_at deep) t.world → length t.world.memory.live ≡ site.base + outer.objects → t.world.left ≤ (world_of from).left
          → (counted ≡ true → t.world.control ≡ before)
          → Lands code deep count true site outer (Going (at site (exit + 1 + one_if saves + one_if restores) new t.world)) next opens (rest t))
          → Lands code deep count true site outer from next opens (rest (record y { world = settled_world (with_event event.Exit y.world) }))
      leaves_body next opens outer y from tidy same here has_restore rest goes =
          lands_from code deep count true site outer from (Going (at site (exit + 1 + one_if saves + one_if restores) here.registers after.world)) next opens (rest after) reaches stays
          (goes after here.registers (record { length_is = here.agrees.length_is; hold = here.agrees.hold }) clean
          (ap (λ (m : Memory). length m.live) (live_after counted (not (j.breaks || j.returns)) before last) ∙ here.live_are) stays.left controls)
        where
          left : World
          left = with_event event.Exit y.world

          after : State
          after = record y { world = settled_world left }

          meet : settled_world left ≡ restored restores before (restored saves began.control left)
          meet = meets left same

          reaches : Reaches code from (Going (at site (exit + 1 + one_if saves + one_if restores) here.registers after.world))
          reaches = subst (λ w. Reaches code from (Going (at site (exit + 1 + one_if saves + one_if restores) here.registers w))) (sym meet)
              (reaches_both code from (Going (at inner exit here.registers y.world)) _ here.reaches
              (reaches_both code (Going (at inner exit here.registers y.world)) (Going (at (saving saves began.control site) (exit + 1) here.registers left)) _
              (exit_reaches code program place (saving saves began.control site) exit y.world here.registers has.exiting)
              (reaches_both code (Going (at (saving saves began.control site) (exit + 1) here.registers left)) (Going (at site (exit + 1 + one_if saves) here.registers (restored saves began.control left))) _
              (back_reaches code program place site (exit + 1) left here.registers saves began.control has.taking_back)
              (restore_reaches code program place site (exit + 1 + one_if saves) (restored saves began.control left) here.registers restores before (λ is. is_saved (and_parts counted j.continues is).0) has_restore))))

          objects_same : (b : Bool) (c : Option ℕ) (w : World) → IsTidy (live_at deep) w → IsTidy (live_at deep) (restored b c w)
          objects_same true c w tidy = record { laid = tidy.laid; origins = tidy.origins; calls = tidy.calls }
          objects_same false c w tidy = tidy

          clean : IsTidy (live_at deep) after.world
          clean = objects_same counted before (stayed (j.breaks || j.returns) last left) (objects_same (not (j.breaks || j.returns)) last left (record { laid = tidy.laid; origins = tidy.origins; calls = tidy.calls }))

          controls : counted ≡ true → after.world.control ≡ before
          controls is = by counted is
            where
              by : (b : Bool) → b ≡ true → (restored b before (stayed (j.breaks || j.returns) last left)).control ≡ before
              by true is = refl
              by false is = absurd (cc is)

          live_after : (b c : Bool) (x z : Option ℕ) → (restored b x (restored c z left)).memory ≡ y.world.memory
          live_after true true x z = refl
          live_after true false x z = refl
          live_after false true x z = refl
          live_after false false x z = refl

          stays : Stays site.base (world_of from) after.world
          stays = by counted (not (j.breaks || j.returns))
            where
              by : (b c : Bool) → Stays site.base (world_of from) (restored b before (restored c last left))
              by true true = record { older = here.stays.older; calls = here.stays.calls; size = here.stays.size; left = here.stays.left }
              by true false = record { older = here.stays.older; calls = here.stays.calls; size = here.stays.size; left = here.stays.left }
              by false true = record { older = here.stays.older; calls = here.stays.calls; size = here.stays.size; left = here.stays.left }
              by false false = record { older = here.stays.older; calls = here.stays.calls; size = here.stays.size; left = here.stays.left }

      -- the call in which the body ran has saved nothing more where it doesn't save
      saved_returns : (b : Bool) (c : Option ℕ) (from : Run) (v : Option Held) (w : World) → Returns code (inside (saving b c site)) from v w → Returns code (inside site) from v w
      saved_returns true c from v w returns = record { control = returns.control; reaches = returns.reaches; stays = returns.stays }
      saved_returns false c from v w returns = returns

      -- WHAT FOLLOWS THE BODY, by how it ended
      module _ (outer_end : end ≡ end) (next : Part Flow) (from : Run) (has_restore : HasAt code (exit + 1 + one_if saves) (if_so program place restores do_.Restore))
          (goes : (t : State) (new : Registers) → Agrees count t new → IsTidy (live_at deep) t.world → length t.world.memory.live ≡ site.base + target.objects → t.world.left ≤ (world_of from).left
          → (counted ≡ true → t.world.control ≡ before)
          → Lands code deep count true site target (Going (at site (exit + 1 + one_if saves + one_if restores) new t.world)) end 0 ((step >>= λ done. next) t)) where
        -- the loop goes on
        again_is : (y : State) → follow (settles (stays_behind_body j) last y) (λ done. starts l before l.step >>= λ over. next)
            ≡ (step >>= λ done. next) (record y { world = settled_world y.world })
        again_is y = by (stays_behind_body j) counted
          where
            by : (b c : Bool) → follow (settles b last y) (λ done. (settles (not c) before >>= λ ready. step) >>= λ over. next)
                ≡ (step >>= λ done. next) (record y { world = restored c before (restored (not b) last y.world) })
            by true true = refl
            by true false = refl
            by false true = refl
            by false false = refl

        -- or it is left
        ends_is : (y : State) (flow : Flow) → stays_behind_body j ≡ true → follow (settles (stays_behind_body j) last y) (λ done. gives flow) ≡ Goes flow y
        ends_is y flow is = ap (λ b. follow (settles b last y) (λ done. gives flow)) is

        flows : (o : Outcome Flow) → Lands code deep count true inner (body_site ll target start) from behind_text text.opens o → EndsAs (live_at deep) (is_left j ≡ false) j entered.control o
            → Lands code deep count true site target from end 0 (follow (follow o (λ flow. exits >>= λ left. gives flow)) (behind_body l before next last))
        flows (Goes Normal y) here ends =
            subst (λ (o : Outcome Flow). Lands code deep count true site target from end 0 o) (sym (again_is (record y { world = with_event event.Exit y.world })))
            (leaves_body end 0 target y from ends.0 ends.2 (record {
              registers = here.registers;
              reaches = reaches_both code from (Going (at inner behind_text here.registers y.world)) (Going (at inner exit here.registers y.world)) here.reaches
                  (over_reaches code inner behind_text y.world here.registers program place j.breaks exit has.jumping (λ is. no_break j.breaks is));
              agrees = here.agrees;
              live_are = here.live_are ∙ (let o : text.opens ≡ 0 = h.body_opens in let e : site.base + (target.objects + text.opens) ≡ site.base + target.objects = omega (arith, o) in e);
              stays = here.stays;
            }) has_restore (step >>= λ done. next) goes)
        flows (Goes Continued y) here ends =
            subst (λ (o : Outcome Flow). Lands code deep count true site target from end 0 o) (sym (again_is (record y { world = with_event event.Exit y.world })))
            (leaves_body end 0 target y from ends.0 ends.2 here has_restore (step >>= λ done. next) goes)
        flows (Goes Broke y) here ends =
            subst (λ (o : Outcome Flow). Lands code deep count true site target from end 0 o)
            (sym (ends_is (record y { world = with_event event.Exit y.world }) Normal (or_left j.breaks j.returns ends.1)))
            (breaks saves (no_save_break counted j.breaks j.continues j.returns ends.1) j.breaks ends.1 has.padding here)
          where
            breaks : (b : Bool) → b ≡ false → (c : Bool) → c ≡ true → HasAt code (behind_text + over_size c) (pad program place do_.Exit c end)
                → Here code deep count (inside (saving b began.control site)) from (start + text.size + over_size c) (site.base + target.objects) y
                → Here code deep count site from end (site.base + (target.objects + 0)) (record y { world = with_event event.Exit y.world })
            breaks true is c broke pads here = absurd (cc is)
            breaks false is false broke pads here = absurd (cc broke)
            breaks false is true broke pads here = record {
              registers = here.registers;
              reaches = reaches_both code from (Going (at (inside site) (behind_text + 1) here.registers y.world)) _ here.reaches
                  (reaches_both code (Going (at (inside site) (behind_text + 1) here.registers y.world)) (Going (at site (behind_text + 1 + 1) here.registers (with_event event.Exit y.world))) _
                  (exit_reaches code program place site (behind_text + 1) y.world here.registers (pads.0, tt))
                  (jump_reaches code site (behind_text + 1 + 1) (with_event event.Exit y.world) here.registers program place end pads.1));
              agrees = record { length_is = here.agrees.length_is; hold = here.agrees.hold };
              live_are = here.live_are ∙ (let e : site.base + target.objects ≡ site.base + (target.objects + 0) = omega arith in e);
              stays = record { older = here.stays.older; calls = here.stays.calls; size = here.stays.size; left = here.stays.left };
            }
        flows (Goes (Returned v) y) here ends =
            subst (λ (o : Outcome Flow). Lands code deep count true site target from end 0 o)
            (sym (ends_is (record y { world = with_event event.Exit y.world }) (Returned v) (or_right j.breaks j.returns ends.1)))
            (exit_returns code site from v y.world (saved_returns saves began.control from v y.world here))
        flows (Stops stop w) here ends = here

      -- A TURN from its body on
      turn_is : (next : Part Flow) → turn l before next last s
          ≡ follow (follow (body (record s { world = entered })) (λ flow. exits >>= λ left. gives flow)) (behind_body l before next last)
      turn_is next = by counted refl
        where
          by : (b : Bool) → counted ≡ b → ((settles (not b) before >>= λ ready. region (number + 1) body) >>= behind_body l before next last) s
              ≡ follow (follow (body (record s { world = with_event (event.Enter (number + 1)) (restored b before s.world) })) (λ flow. exits >>= λ left. gives flow)) (behind_body l before next last)
          by true is = refl
          by false is = refl

      pub turn_lands : (next : Part Flow) (registers : Registers) → Agrees count s registers → IsTidy (live_at deep) s.world → length s.world.memory.live ≡ site.base + target.objects
          → HasAt code (exit + 1 + one_if saves) (if_so program place restores do_.Restore)
          → ((t : State) (new : Registers) → Agrees count t new → IsTidy (live_at deep) t.world → length t.world.memory.live ≡ site.base + target.objects → t.world.left ≤ s.world.left
          → (counted ≡ true → t.world.control ≡ before)
          → Lands code deep count true site target (Going (at site (exit + 1 + one_if saves + one_if restores) new t.world)) end 0 ((step >>= λ done. next) t))
          → Lands code deep count true site target (Going (at site first registers s.world)) end 0 (turn l before next last s)
      turn_lands next registers agrees tidy live_are has_restore goes =
          subst (λ (o : Outcome Flow). Lands code deep count true site target from end 0 o) (sym (turn_is next))
          (lands_from code deep count true site target from (Going (at inner start registers entered)) end 0 _ (enters registers) stays
          (flows refl next (Going (at inner start registers entered)) has_restore (λ t new agree clean live_now few controls. goes t new agree clean live_now (few_is few) controls)
          (body (record s { world = entered }))
          (subst (λ (x : Site). Lands code deep count true x (body_site ll target start) (Going (at x start registers entered)) behind_text text.opens (body (record s { world = entered }))) refl
          (h.body_lies inner (body_site ll target start) start (record s { world = entered }) registers has.own (record { length_is = agrees.length_is; hold = agrees.hold }) clean_entered live_entered))
          (h.body_ends.ends (live_at deep) (record s { world = entered }) clean_entered)))
        where
          from : Run
          from = Going (at site first registers s.world)

          few_is : {n : ℕ} → n ≤ entered.left → n ≤ s.world.left
          few_is {n} low = subst (λ k. n ≤ k) (by counted) low
            where
              by : (b : Bool) → (restored b before s.world).left ≡ s.world.left
              by true = refl
              by false = refl

          memory_same : (b : Bool) → (restored b before s.world).memory ≡ s.world.memory
          memory_same true = refl
          memory_same false = refl

          tidy_same : (b : Bool) → IsTidy (live_at deep) (with_event (event.Enter (number + 1)) (restored b before s.world))
          tidy_same true = record { laid = tidy.laid; origins = tidy.origins; calls = tidy.calls }
          tidy_same false = record { laid = tidy.laid; origins = tidy.origins; calls = tidy.calls }

          clean_entered : IsTidy (live_at deep) entered
          clean_entered = tidy_same counted

          base_same : (b : Bool) (c : Option ℕ) → (inside (saving b c site)).base ≡ site.base
          base_same true c = refl
          base_same false c = refl

          live_entered : length entered.memory.live ≡ inner.base + target.objects
          live_entered = ap (λ (m : Memory). length m.live) (memory_same counted) ∙ live_are ∙ ap (λ n. n + target.objects) (sym (base_same saves began.control))

          stays : Stays site.base s.world entered
          stays = by counted
            where
              by : (b : Bool) → Stays site.base s.world (with_event (event.Enter (number + 1)) (restored b before s.world))
              by true = record { older = refl; calls = refl; size = refl; left = omega arith }
              by false = record { older = refl; calls = refl; size = refl; left = omega arith }

  -- THE WHOLE LOOP, of which the first instruction has this number
  module _ (first : ℕ) (target : stretches.Site) where
    abbrev top : ℕ
    top = first + before_turns ll

    abbrev step_at : ℕ
    step_at = top + body_size ll + one_if restores

    abbrev test_at : ℕ
    test_at = top + turn_size ll

    abbrev loop_end : ℕ
    loop_end = end_of ll first

    pub record LoopHas : Type 0 where
      pub entering : HasAt code first (instruction program place (do_.Enter number) ∷ [])
      pub jumping : HasAt code (first + 1) (if_so program place tested (do_.Jump test_at))
      pub own : HasAt code top (body_code program ll target loop_end top)
      pub restoring : HasAt code (top + body_size ll) (if_so program place restores do_.Restore)
      pub stepping : HasAt code step_at (step_code.code step_at)
      pub testing : HasAt code test_at (test.code test_at)
      pub branching : HasAt code (test_at + test.size) (instruction program place (do_.Test test.gives top loop_end None class.Test) ∷ [])
      pub leaving : HasAt code loop_end (instruction program place do_.Exit ∷ [])

    -- the turns, part by part
    abbrev with_restore : List Instr
    with_restore = body_code program ll target loop_end top ++ if_so program place restores do_.Restore

    abbrev with_step : List Instr
    with_step = with_restore ++ step_code.code step_at

    abbrev with_test : List Instr
    with_test = with_step ++ test.code test_at

    with_restore_long : length with_restore ≡ body_size ll + one_if restores
    with_restore_long = both_long (body_code program ll target loop_end top) (if_so program place restores do_.Restore) (body_size ll) (one_if restores) (body_long loop_end top target) (if_so_long code program place restores do_.Restore)

    with_step_long : length with_step ≡ turn_size ll
    with_step_long = both_long with_restore (step_code.code step_at) (body_size ll + one_if restores) step_code.size with_restore_long (h.step_sized step_at)

    with_test_long : length with_test ≡ turn_size ll + test.size
    with_test_long = both_long with_step (test.code test_at) (turn_size ll) test.size with_step_long (h.value_sized test_at)

    turns_long : length (turns_code program ll target first) ≡ turn_size ll + test.size + 1
    turns_long = both_long with_test (instruction program place (do_.Test test.gives top loop_end None class.Test) ∷ []) (turn_size ll + test.size) 1 with_test_long refl

    enter_long : length (instruction program place (do_.Enter number) ∷ if_so program place tested (do_.Jump test_at)) ≡ before_turns ll
    enter_long = (let e = if_so_long code program place tested (do_.Jump test_at) in omega (arith, e))

    front_long : length ((instruction program place (do_.Enter number) ∷ if_so program place tested (do_.Jump test_at)) ++ turns_code program ll target first) ≡ before_turns ll + (turn_size ll + test.size + 1)
    front_long = both_long (instruction program place (do_.Enter number) ∷ if_so program place tested (do_.Jump test_at)) (turns_code program ll target first) (before_turns ll) (turn_size ll + test.size + 1) enter_long turns_long

    pub loop_long : length ((code_of.inside_loop program ll).code target first) ≡ (code_of.inside_loop program ll).size
    loop_long = both_long ((instruction program place (do_.Enter number) ∷ if_so program place tested (do_.Jump test_at)) ++ turns_code program ll target first) (instruction program place do_.Exit ∷ [])
        (before_turns ll + (turn_size ll + test.size + 1)) 1 front_long refl ∙ (let e : (before_turns ll + (turn_size ll + test.size + 1)) + 1 ≡ before_turns ll + turn_size ll + test.size + 1 + 1 = omega arith in e)

    loop_has : HasAt code first ((code_of.inside_loop program ll).code target first) → LoopHas
    loop_has has =
        let enters_it = instruction program place (do_.Enter number) ∷ if_so program place tested (do_.Jump test_at) in
        let branch = instruction program place (do_.Test test.gives top loop_end None class.Test) ∷ [] in
        let a = split code first (before_turns ll + (turn_size ll + test.size + 1)) (enters_it ++ turns_code program ll target first) (instruction program place do_.Exit ∷ []) front_long has in
        let b = split code first (before_turns ll) enters_it (turns_code program ll target first) enter_long a.0 in
        let c = split code top (turn_size ll + test.size) with_test branch with_test_long b.1 in
        let d = split code top (turn_size ll) with_step (test.code test_at) with_step_long c.0 in
        let e = split code top (body_size ll + one_if restores) with_restore (step_code.code step_at) with_restore_long d.0 in
        let f = split code top (body_size ll) (body_code program ll target loop_end top) (if_so program place restores do_.Restore) (body_long loop_end top target) e.0 in
        record {
          entering = (b.0.0, tt);
          jumping = b.0.1;
          own = f.0;
          restoring = f.1;
          stepping = moved code (top + (body_size ll + one_if restores)) step_at (step_code.code step_at) (omega arith) e.1;
          testing = d.1;
          branching = moved code (top + (turn_size ll + test.size)) (test_at + test.size) branch (omega arith) c.1;
          leaving = moved code (first + (before_turns ll + (turn_size ll + test.size + 1))) loop_end (instruction program place do_.Exit ∷ []) (omega arith) a.1;
        }

    -- in the loop's region, with the control source before the loop
    module _ (site : Site) (has : LoopHas) (before : Option ℕ) (is_saved : counted ≡ true → newest site.saved ≡ before) where
      -- THE TURNS from here on lead where they should, for all states that have fewer operations left than there are turns
      abbrev TurnsLand : Part Flow → ℕ → Type 0
      TurnsLand next most = (t : State) (new : Registers) → t.world.left ≤ most → Agrees count t new → IsTidy (live_at deep) t.world → length t.world.memory.live ≡ site.base + target.objects
          → (counted ≡ true → t.world.control ≡ before) → Lands code deep count true site target (Going (at site test_at new t.world)) loop_end 0 (next t)

      body_parts : BodyHas loop_end top target
      body_parts = body_has loop_end top target has.own

      exit_is : exit loop_end top target + 1 + one_if saves ≡ top + body_size ll
      exit_is = omega arith

      -- a turn, its step, and what comes from the next test on
      from_top : (next : Part Flow) (most : ℕ) → TurnsLand next most → (last : Option ℕ) (s : State) (registers : Registers) → s.world.left ≤ most → (counted ≡ false → s.world.control ≡ last)
          → Agrees count s registers → IsTidy (live_at deep) s.world → length s.world.memory.live ≡ site.base + target.objects
          → Lands code deep count true site target (Going (at site top registers s.world)) loop_end 0 (turn l before next last s)
      from_top next most turns_land last s registers few is_last agrees tidy live_are =
          turn_lands loop_end top target site body_parts s before last is_saved is_last next registers agrees tidy live_are
          (moved code (top + body_size ll) (exit loop_end top target + 1 + one_if saves) (if_so program place restores do_.Restore) (sym exit_is) has.restoring)
          (λ t new agree clean live_now fewer controls.
          value_lands code deep count program true site target count Always step step_code (λ a b registers. Unit {0}) h.step_follows h.step_keeps
          (exit loop_end top target + 1 + one_if saves + one_if restores) loop_end 0 t new
          (subst (λ n. HasAt code n (step_code.code n)) (let e : step_at ≡ exit loop_end top target + 1 + one_if saves + one_if restores = omega arith in e) has.stepping)
          agree tt clean (λ done. next)
          (λ done x after agree_x given clean_x control_x live_x left_x.
          subst (λ n. Lands code deep count true site target (Going (at site n after x.world)) loop_end 0 (next x))
          (let e : test_at ≡ exit loop_end top target + 1 + one_if saves + one_if restores + step_code.size = omega arith in e)
          (turns_land x after (omega (arith, left_x, fewer, few)) agree_x clean_x (live_x ∙ live_now) (λ is. control_x ∙ controls is))))

      -- where the loop is counted, its test begins under the control source that it has
      test_is : (next : Held → Part Flow) (s : State) → (counted ≡ true → s.world.control ≡ before) → (starts l before l.test >>= next) s ≡ (value >>= λ a. tests program place a >>= next) s
      test_is next s controls = by counted refl ∙ follow_both (value s) (tests program place) next
        where
          by : (b : Bool) → counted ≡ b → ((settles (not b) before >>= λ ready. value >>= tests program place) >>= next) s ≡ ((value >>= tests program place) >>= next) s
          by true is = ap (λ (w : World). ((value >>= tests program place) >>= next) (record s { world = w })) (sym (has_control s.world before (controls is)))
          by false is = refl

      turns_land : (n : ℕ) (s : State) (registers : Registers) → s.world.left < n → Agrees count s registers → IsTidy (live_at deep) s.world → length s.world.memory.live ≡ site.base + target.objects
          → (counted ≡ true → s.world.control ≡ before) → Lands code deep count true site target (Going (at site test_at registers s.world)) loop_end 0 (turns n l before s)
      unfolding turns
      turns_land zero s registers few agrees tidy live_are controls = absurd (omega (arith, few))
      turns_land (suc n) s registers few agrees tidy live_are controls =
          subst (λ (o : Outcome Flow). Lands code deep count true site target (Going (at site test_at registers s.world)) loop_end 0 o) (sym (test_is (turn_if l before (turns n l before)) s controls))
          (value_lands code deep count program true site target count Always value test (λ o a new. Same count count new o a) h.value_follows h.value_keeps test_at loop_end 0 s registers has.testing agrees tt tidy
          (λ a. tests program place a >>= turn_if l before (turns n l before))
          (λ o t new agree same clean control_t live_t left_t.
          test_lands code deep count program true site target class.Test place o test.gives top loop_end (test_at + test.size) loop_end 0 t new has.branching
          (ap (λ x. x ∷ []) (reads_same count count count new t o test.gives same agree)) clean (turn_if l before (turns n l before))
          (λ held w tested_it. by_truth (turns_land n) held t w new (is_true held.value) refl tested_it agree (live_t ∙ live_are) (omega (arith, few, left_t)))))
        where
          by_truth : ((s : State) (registers : Registers) → s.world.left < n → Agrees count s registers → IsTidy (live_at deep) s.world → length s.world.memory.live ≡ site.base + target.objects
              → (counted ≡ true → s.world.control ≡ before) → Lands code deep count true site target (Going (at site test_at registers s.world)) loop_end 0 (turns n l before s))
              → (held : Held) (t : State) (w : World) (new : Registers) (b : Bool) → is_true held.value ≡ b → Tested (live_at deep) t.world held w → Agrees count t new
              → length t.world.memory.live ≡ site.base + target.objects → t.world.left < suc n
              → Lands code deep count true site target (Going (at site (if is_true held.value then top else loop_end) new w)) loop_end 0
              (turn_if l before (turns n l before) held (record t { world = w }))
          by_truth more held t w new true is tested_it agree live_t few_t =
              subst (λ (b : Bool). Lands code deep count true site target (Going (at site (if b then top else loop_end) new w)) loop_end 0
              ((if b then turn l before (turns n l before) held.source else gives Normal) (record t { world = w }))) (sym is)
              (from_top (turns n l before) w.left
              (λ x after few_x agree_x clean_x live_x controls_x.
              more x after (let one : w.left + 1 ≡ t.world.left = tested_it.fewer.left in omega (arith, one, few_t, few_x)) agree_x clean_x live_x controls_x)
              held.source (record t { world = w }) new (omega arith) (λ not_counted. tested_it.control) (record { length_is = agree.length_is; hold = agree.hold }) tested_it.tidy
              (live_behind code deep count program t.world w tested_it.fewer ∙ live_t))
          by_truth more held t w new false is tested_it agree live_t few_t =
              subst (λ (b : Bool). Lands code deep count true site target (Going (at site (if b then top else loop_end) new w)) loop_end 0
              ((if b then turn l before (turns n l before) held.source else gives Normal) (record t { world = w }))) (sym is)
              (record {
                registers = new;
                reaches = reaches_itself code (Going (at site loop_end new w));
                agrees = record { length_is = agree.length_is; hold = agree.hold };
                live_are = live_behind code deep count program t.world w tested_it.fewer ∙ live_t ∙ (let e : site.base + target.objects ≡ site.base + (target.objects + 0) = omega arith in e);
                stays = stays_itself site.base w;
              })

      -- a loop begins at its test or at its body
      begins_land : (s : State) (registers : Registers) → Agrees count s registers → IsTidy (live_at deep) s.world → length s.world.memory.live ≡ site.base + target.objects → s.world.control ≡ before
          → Lands code deep count true site target (Going (at site (first + 1) registers s.world)) loop_end 0 (begins l tested before s)
      begins_land s registers agrees tidy live_are controls = by tested refl
        where
          from : Run
          from = Going (at site (first + 1) registers s.world)

          all : Lands code deep count true site target (Going (at site test_at registers s.world)) loop_end 0 (all_turns l before s)
          all = turns_land (s.world.left + 1) s registers (omega arith) agrees tidy live_are (λ is. controls)

          by : (b : Bool) → tested ≡ b → Lands code deep count true site target from loop_end 0 (begins l b before s)
          by true is = lands_from code deep count true site target from (Going (at site test_at registers s.world)) loop_end 0 (all_turns l before s)
              (jump_reaches code site (first + 1) s.world registers program place test_at (subst (λ b. HasAt code (first + 1) (if_so program place b (do_.Jump test_at))) is has.jumping))
              (stays_itself site.base s.world) all
          by false is = subst (λ pc. Lands code deep count true site target (Going (at site pc registers s.world)) loop_end 0 (begins l false before s))
              (ap (λ b. first + (1 + one_if b)) is ∙ (let e : first + (1 + 0) ≡ first + 1 = omega arith in e))
              (from_top (all_turns l before) s.world.left
              (λ x after few_x agree_x clean_x live_x controls_x. turns_land (x.world.left + 1) x after (omega arith) agree_x clean_x live_x controls_x)
              before s registers (omega arith) (λ is. controls) agrees tidy live_are)

    -- THE LOOP IN ITS REGION
    inside_outcome : (site : Site) (has : LoopHas) (from : Run) (o : Outcome Flow) → Lands code deep count true (inside site) target from loop_end 0 o → EndsAs (live_at deep) ⊥ (out_of_loop j) None o
        → Lands code deep count true site target from (loop_end + 1) 0 (follow o (λ flow. exits >>= λ left. gives flow))
    inside_outcome site has from (Goes Normal y) here allowed = record {
      registers = here.registers;
      reaches = reaches_both code from (Going (at (inside site) loop_end here.registers y.world)) _ here.reaches (exit_reaches code program place site loop_end y.world here.registers has.leaving);
      agrees = record { length_is = here.agrees.length_is; hold = here.agrees.hold };
      live_are = here.live_are;
      stays = record { older = here.stays.older; calls = here.stays.calls; size = here.stays.size; left = here.stays.left };
    }
    inside_outcome site has from (Goes Broke y) here allowed = absurd (cc allowed.1)
    inside_outcome site has from (Goes Continued y) here allowed = absurd (cc allowed.1)
    inside_outcome site has from (Goes (Returned v) y) here allowed = exit_returns code site from v y.world here
    inside_outcome site has from (Stops end w) here allowed = here

    any_control : (n : ℕ) (c : Option ℕ) (o : Outcome Flow) → EndsAs n ⊥ (out_of_loop j) c o → EndsAs n ⊥ (out_of_loop j) None o
    any_control n c (Goes flow t) allowed = (allowed.0, allowed.1, λ q. absurd q)
    any_control n c (Stops end w) allowed = tt

    -- what *Evaluation* knows of it
    loop_parts_end : LoopEnds l
    loop_parts_end = record {
      test = then_does false value (tests program place) (tidies value h.value_keeps) (λ a. makes_keeps program class.Test place act.Test (a ∷ []));
      step = tidies step h.step_keeps;
      body = region_ends ⊥ j (number + 1) body (ends_more (is_left j ≡ false) ⊥ j j body (λ q. absurd q) (λ flow allowed. allowed) h.body_ends);
    }

    inside_lands : (site : Site) (s : State) (registers : Registers) → (counted ≡ true → newest site.saved ≡ s.world.control) → HasAt code first ((code_of.inside_loop program ll).code target first)
        → Agrees count s registers → IsTidy (live_at deep) s.world → length s.world.memory.live ≡ site.base + target.objects
        → Lands code deep count true site target (Going (at site first registers s.world)) (first + (code_of.inside_loop program ll).size) 0 (loops.inside_loop l number tested s.world.control s)
    inside_lands site s registers is_saved has agrees tidy live_are =
        subst (λ pc. Lands code deep count true site target from pc 0 (loops.inside_loop l number tested s.world.control s))
        (let e : loop_end + 1 ≡ first + (before_turns ll + turn_size ll + test.size + 1 + 1) = omega arith in e)
        (inside_outcome site (loop_has has) from (begins l tested s.world.control (record s { world = entered }))
        (lands_from code deep count true (inside site) target from (Going (at (inside site) (first + 1) registers entered)) loop_end 0 (begins l tested s.world.control (record s { world = entered }))
        (enter_reaches code program place site first s.world registers number (loop_has has).entering)
        (record { older = refl; calls = refl; size = refl; left = omega arith })
        (begins_land (inside site) (loop_has has) s.world.control is_saved (record s { world = entered }) registers (record { length_is = agrees.length_is; hold = agrees.hold })
        clean live_are refl))
        (any_control (live_at deep) s.world.control (begins l tested s.world.control (record s { world = entered })) ((begins_ends l loop_parts_end s.world.control tested).ends (live_at deep) (record s { world = entered }) clean)))
      where
        from : Run
        from = Going (at site first registers s.world)

        entered : World
        entered = with_event (event.Enter number) s.world

        clean : IsTidy (live_at deep) entered
        clean = record { laid = tidy.laid; origins = tidy.origins; calls = tidy.calls }

  -- a loop whose text holds a `return` isn't counted
  not_counted : (b returns : Bool) → not b && returns ≡ true → b ≡ false
  not_counted true returns is = absurd (cc is)
  not_counted false returns is = refl

  no_return : (b returns : Bool) → (b ≡ true → returns ≡ false) → not b && returns ≡ false → returns ≡ false
  no_return true returns through is = through refl
  no_return false returns through is = is

  -- A LOOP, AND THE CONTROL SOURCE BEHIND IT
  pub loop_lies : Lies code deep count true (loops.loop l number tested) (code_of.loop program ll)
  loop_lies = by (stays_behind_loop counted j) refl
    where
      by : (b : Bool) → stays_behind_loop counted j ≡ b
          → Lies code deep count true (λ s. follow (loops.inside_loop l number tested s.world.control s) (λ flow. settles b s.world.control >>= λ done. gives flow))
          (settled_unless b program (code_of.inside_loop program ll))
      by true is site target first s registers has agrees tidy live_are =
          subst (λ (o : Outcome Flow). Lands code deep count true site target (Going (at site first registers s.world)) (first + (code_of.inside_loop program ll).size) 0 o)
          (sym (given_on (loops.inside_loop l number tested s.world.control s)))
          (inside_lands first target site s registers (λ is_counted. absurd (cc (sym (not_counted counted j.returns is) ∙ is_counted))) has agrees tidy live_are)
      by false is site target first s registers has agrees tidy live_are =
          settled_lands code deep count program (out_of_loop j) (no_return counted j.returns (λ is_counted. (h.through is_counted).1) is) (code_of.inside_loop program ll) (λ to at_. loop_long at_ to)
          site target first s registers has (loops.inside_loop l number tested s.world.control)
          ((region_ends ⊥ (out_of_loop j) number (begins l tested s.world.control) (begins_ends l (loop_parts_end first target) s.world.control tested)).ends (live_at deep) s tidy)
          (λ own. inside_lands (first + 1) target (record site { saved = s.world.control ∷ site.saved }) s registers (λ is_counted. refl) own agrees tidy live_are)

  pub loop_sized : StretchIsSized (code_of.loop program ll)
  loop_sized = by (stays_behind_loop counted j)
    where
      by : (b : Bool) → StretchIsSized (settled_unless b program (code_of.inside_loop program ll))
      by true = λ target first. loop_long first target
      by false = settled_sized code deep count program (code_of.inside_loop program ll) (λ target first. loop_long first target)
