-- The arms of an `if`.
use Rattle.std.proofs.Common.{ℕ, ◌≡◌, ◌+◌, Bool, true, false, if◌then◌else◌, List, [], ◌∷◌, ◌++◌, length, Option, None, Some, refl, sym, subst, ap, ◌∙◌, arith}
use Rattle.k_num.specs.declared.place.Place.{Place}
use Rattle.k_optab.specs.declared.class.Class.TheVariants as class
use Rattle.k_world.specs.declared.value.Held.{Held}
use Rattle.k_world.specs.Values.{is_true}
use Rattle.k_world.specs.Worlds.{World}
use Rattle.k_code.specs.declared.code.Code.{Code}
use Rattle.k_code.specs.declared.instruction.Arg.{Arg}
use Rattle.k_code.specs.declared.instruction.Do.TheVariants as do_
use Rattle.k_code.specs.declared.instruction.Instr.{Instr}
use Rattle.k_code.specs.Steps.{Going}
use Rattle.k_evaluation.specs.declared.flow.Flow.{Flow}
use Rattle.k_evaluation.specs.declared.flow.Flow.TheVariants.{Normal, Broke, Continued, Returned}
use Rattle.k_evaluation.specs.declared.operand.Operand.{Operand}
use Rattle.k_evaluation.specs.Meanings.{tests}
use Rattle.k_evaluation.specs.Statements.{chosen_arm, does_or_none}
use Rattle.k_evaluation.specs.Flows.{Doing}
use Rattle.k_evaluation.specs.States.{Program, State, Outcome, Goes, Stops, Part, ◌>>=◌, gives}
use Rattle.k_evaluation_control.proofs.Kept.{Keeps}
use Rattle.k_lower_code.specs.Pieces.{Piece, IsSized, instruction}
use Rattle.k_lower_code.specs.Statements.{one_arm, two_arms, arms}
use Rattle.k_lower_code.specs.Stretches as stretches
use Rattle.k_lower_code.specs.Stretches.{Stretch}
use Rattle.k_lower_runs.proofs.Leads.{Registers, Site, at, live_at, Agrees, HasAt, Reaches, Follows}
use Rattle.k_lower_runs.proofs.Values.{Same, Always, reads_same}
use Rattle.k_lower_flows.proofs.Blocks.{StretchIsSized, jump_reaches}
use Rattle.k_lower_flows.proofs.Landing.{both_long, follow_both, moved, split, stays_itself, Lands, Lies}
use Rattle.k_lower_flows.proofs.Tests.{Tested, value_lands, test_lands, live_behind}
use Rattle.k_evaluation_control.specs.Laws.{IsTidy}
use Rattle.k_lower_runs.proofs.Leads.{reaches_both}

module _ (code : Code) (deep count : ℕ) where
  -- an arm that may be left out
  abbrev pub OptionLies : Option Doing → Option Stretch → Type 0
  OptionLies None None = Unit {0}
  OptionLies (Some d) None = ⊥
  OptionLies None (Some t) = ⊥
  OptionLies (Some d) (Some t) = Lies code deep count true d.does t × (t.opens ≡ 0) × StretchIsSized t

module _ (code : Code) (deep count : ℕ) (program : Program) (place : Place) (value : Part Operand) (test : Piece Arg)
    (follows : Follows code deep count count Always value test (λ o a new. Same count count new o a)) (keeps : Keeps value) (sized : IsSized test) where
  -- A TEST of this value, of which the code stands here, and what follows it
  tested_lands : (site : Site) (target : stretches.Site) (taken other first next opens : ℕ) (s : State) (registers : Registers) → HasAt code first (test.code first)
      → HasAt code (first + test.size) (instruction program place (do_.Test test.gives taken other None class.Test) ∷ []) → Agrees count s registers → IsTidy (live_at deep) s.world
      → length s.world.memory.live ≡ site.base + target.objects → (one two : Part Flow)
      → ((t : State) (new : Registers) → Agrees count t new → IsTidy (live_at deep) t.world → length t.world.memory.live ≡ site.base + target.objects
      → Lands code deep count true site target (Going (at site taken new t.world)) next opens (one t))
      → ((t : State) (new : Registers) → Agrees count t new → IsTidy (live_at deep) t.world → length t.world.memory.live ≡ site.base + target.objects
      → Lands code deep count true site target (Going (at site other new t.world)) next opens (two t))
      → Lands code deep count true site target (Going (at site first registers s.world)) next opens (((value >>= tests program place) >>= chosen_arm one two) s)
  tested_lands site target taken other first next opens s registers has branches agrees tidy live_are one two if_so else_so =
      subst (λ (o : Outcome Flow). Lands code deep count true site target (Going (at site first registers s.world)) next opens o) (sym (follow_both (value s) (tests program place) (chosen_arm one two)))
      (value_lands code deep count program true site target count Always value test (λ o a new. Same count count new o a) follows keeps first next opens s registers has agrees tt tidy
      (λ a. tests program place a >>= chosen_arm one two)
      (λ o t new agree same clean control_t live_t left_t.
      test_lands code deep count program true site target class.Test place o test.gives taken other (first + test.size) next opens t new branches
      (ap (λ x. x ∷ []) (reads_same count count count new t o test.gives same agree)) clean (chosen_arm one two)
      (λ held w tested_it. by_truth held t w new (is_true held.value) refl tested_it agree (live_t ∙ live_are))))
    where
      by_truth : (held : Held) (t : State) (w : World) (new : Registers) (b : Bool) → is_true held.value ≡ b → Tested (live_at deep) t.world held w → Agrees count t new
          → length t.world.memory.live ≡ site.base + target.objects
          → Lands code deep count true site target (Going (at site (if is_true held.value then taken else other) new w)) next opens (chosen_arm one two held (record t { world = w }))
      by_truth held t w new true is tested_it agree live_t =
          subst (λ (b : Bool). Lands code deep count true site target (Going (at site (if b then taken else other) new w)) next opens ((if b then one else two) (record t { world = w }))) (sym is)
          (if_so (record t { world = w }) new (record { length_is = agree.length_is; hold = agree.hold }) tested_it.tidy (live_behind code deep count program t.world w tested_it.fewer ∙ live_t))
      by_truth held t w new false is tested_it agree live_t =
          subst (λ (b : Bool). Lands code deep count true site target (Going (at site (if b then taken else other) new w)) next opens ((if b then one else two) (record t { world = w }))) (sym is)
          (else_so (record t { world = w }) new (record { length_is = agree.length_is; hold = agree.hold }) tested_it.tidy (live_behind code deep count program t.world w tested_it.fewer ∙ live_t))

  one_arm_lies : (part : Part Flow) (one : Stretch) → Lies code deep count true part one → one.opens ≡ 0 → Lies code deep count true ((value >>= tests program place) >>= chosen_arm part (gives Normal)) (one_arm program place test one)
  one_arm_lies part one lies opens site target first s registers has agrees tidy live_are =
      let whole = split code first test.size (test.code first) (branch ∷ one.code target (first + test.size + 1)) (sized first) has in
      tested_lands site target (first + test.size + 1) (first + test.size + 1 + one.size) first next 0 s registers whole.0 (whole.1.0, tt) agrees tidy live_are part (gives Normal)
      (λ t new agree clean live_t.
      subst (λ n. Lands code deep count true site target (Going (at site (first + test.size + 1) new t.world)) n 0 (part t)) (let e : (first + test.size + 1) + one.size ≡ next = omega arith in e)
      (subst (λ n. Lands code deep count true site target (Going (at site (first + test.size + 1) new t.world)) ((first + test.size + 1) + one.size) n (part t)) opens
      (lies site target (first + test.size + 1) t new whole.1.1 agree clean live_t)))
      (λ t new agree clean live_t. record {
        registers = new;
        reaches = (0, ap (λ n. Going (at site n new t.world)) (let e : first + test.size + 1 + one.size ≡ next = omega arith in e));
        agrees = agree;
        live_are = live_t ∙ (let e : site.base + target.objects ≡ site.base + (target.objects + 0) = omega arith in e);
        stays = stays_itself site.base t.world;
      })
    where
      next : ℕ
      next = first + (test.size + 1 + one.size)

      branch : Instr
      branch = instruction program place (do_.Test test.gives (first + test.size + 1) (first + test.size + 1 + one.size) None class.Test)

  pub one_arm_sized : (one : Stretch) → StretchIsSized one → StretchIsSized (one_arm program place test one)
  one_arm_sized one one_sized target first =
      both_long (test.code first) (branch ∷ one.code target (first + test.size + 1)) test.size (1 + one.size) (sized first)
      (let long : length (one.code target (first + test.size + 1)) ≡ one.size = one_sized target (first + test.size + 1) in omega (arith, long))
      ∙ (let e : test.size + (1 + one.size) ≡ test.size + 1 + one.size = omega arith in e)
    where
      branch : Instr
      branch = instruction program place (do_.Test test.gives (first + test.size + 1) (first + test.size + 1 + one.size) None class.Test)

  two_arms_lie : (part other_part : Part Flow) (one other : Stretch) → StretchIsSized one → Lies code deep count true part one → one.opens ≡ 0 → Lies code deep count true other_part other → other.opens ≡ 0
      → Lies code deep count true ((value >>= tests program place) >>= chosen_arm part other_part) (two_arms program place test one other)
  two_arms_lie part other_part one other one_sized lies opens other_lies other_opens site target first s registers has agrees tidy live_are =
      tested_lands site target (first + test.size + 1) behind_one first next 0 s registers front.0 (front.1.0, tt) agrees tidy live_are part other_part
      (λ t new agree clean live_t.
      jumps (part t) new t (subst (λ n. Lands code deep count true site target (Going (at site (first + test.size + 1) new t.world)) ((first + test.size + 1) + one.size) n (part t)) opens
      (lies site target (first + test.size + 1) t new front.1.1 agree clean live_t)))
      (λ t new agree clean live_t.
      subst (λ n. Lands code deep count true site target (Going (at site behind_one new t.world)) n 0 (other_part t)) (let e : behind_one + other.size ≡ next = omega arith in e)
      (subst (λ n. Lands code deep count true site target (Going (at site behind_one new t.world)) (behind_one + other.size) n (other_part t)) other_opens
      (other_lies site target behind_one t new has_other agree clean live_t)))
    where
      next : ℕ
      next = first + (test.size + 1 + one.size + 1 + other.size)

      behind_one : ℕ
      behind_one = first + test.size + 1 + one.size + 1

      branch : Instr
      branch = instruction program place (do_.Test test.gives (first + test.size + 1) behind_one None class.Test)

      jump : Instr
      jump = instruction program place (do_.Jump (first + test.size + 1 + one.size + 1 + other.size))

      front_list : List Instr
      front_list = test.code first ++ branch ∷ one.code target (first + test.size + 1)

      front_long : length front_list ≡ test.size + (1 + one.size)
      front_long = both_long (test.code first) (branch ∷ one.code target (first + test.size + 1)) test.size (1 + one.size) (sized first)
          (let long : length (one.code target (first + test.size + 1)) ≡ one.size = one_sized target (first + test.size + 1) in omega (arith, long))

      whole : HasAt code first front_list × HasAt code (first + (test.size + (1 + one.size))) (jump ∷ other.code target behind_one)
      whole = split code first (test.size + (1 + one.size)) front_list (jump ∷ other.code target behind_one) front_long has

      front : HasAt code first (test.code first) × HasAt code (first + test.size) (branch ∷ one.code target (first + test.size + 1))
      front = split code first test.size (test.code first) (branch ∷ one.code target (first + test.size + 1)) (sized first) whole.0

      has_jump : HasAt code ((first + test.size + 1) + one.size) (jump ∷ [])
      has_jump = moved code (first + (test.size + (1 + one.size))) ((first + test.size + 1) + one.size) (jump ∷ []) (omega arith) (whole.1.0, tt)

      has_other : HasAt code behind_one (other.code target behind_one)
      has_other = moved code (first + (test.size + (1 + one.size)) + 1) behind_one (other.code target behind_one) (omega arith) whole.1.1

      jumps : (o : Outcome Flow) (new : Registers) (t : State) → Lands code deep count true site target (Going (at site (first + test.size + 1) new t.world)) ((first + test.size + 1) + one.size) 0 o
          → Lands code deep count true site target (Going (at site (first + test.size + 1) new t.world)) next 0 o
      jumps (Goes Normal x) new t here = record {
        registers = here.registers;
        reaches = reaches_both code (Going (at site (first + test.size + 1) new t.world)) (Going (at site ((first + test.size + 1) + one.size) here.registers x.world)) _ here.reaches
            (subst (λ n. Reaches code (Going (at site ((first + test.size + 1) + one.size) here.registers x.world)) (Going (at site n here.registers x.world)))
            (let e : first + test.size + 1 + one.size + 1 + other.size ≡ next = omega arith in e)
            (jump_reaches code site ((first + test.size + 1) + one.size) x.world here.registers program place (first + test.size + 1 + one.size + 1 + other.size) has_jump));
        agrees = here.agrees;
        live_are = here.live_are;
        stays = here.stays;
      }
      jumps (Goes Broke x) new t here = here
      jumps (Goes Continued x) new t here = here
      jumps (Goes (Returned v) x) new t here = here
      jumps (Stops end w) new t here = here

  pub two_arms_sized : (one other : Stretch) → StretchIsSized one → StretchIsSized other → StretchIsSized (two_arms program place test one other)
  two_arms_sized one other one_sized other_sized target first =
      both_long (test.code first ++ branch ∷ one.code target (first + test.size + 1)) (jump ∷ other.code target behind_one) (test.size + (1 + one.size)) (1 + other.size)
      (both_long (test.code first) (branch ∷ one.code target (first + test.size + 1)) test.size (1 + one.size) (sized first)
      (let long : length (one.code target (first + test.size + 1)) ≡ one.size = one_sized target (first + test.size + 1) in omega (arith, long)))
      (let long : length (other.code target behind_one) ≡ other.size = other_sized target behind_one in omega (arith, long))
      ∙ (let e : (test.size + (1 + one.size)) + (1 + other.size) ≡ test.size + 1 + one.size + 1 + other.size = omega arith in e)
    where
      behind_one : ℕ
      behind_one = first + test.size + 1 + one.size + 1

      branch : Instr
      branch = instruction program place (do_.Test test.gives (first + test.size + 1) behind_one None class.Test)

      jump : Instr
      jump = instruction program place (do_.Jump (first + test.size + 1 + one.size + 1 + other.size))

  -- THE ARMS
  pub arms_lie : (part : Part Flow) (one : Stretch) (b : Option Doing) (other : Option Stretch) → StretchIsSized one → Lies code deep count true part one → one.opens ≡ 0 → OptionLies code deep count b other
      → Lies code deep count true ((value >>= tests program place) >>= chosen_arm part (does_or_none b)) (arms program place test one other)
  arms_lie part one None None one_sized lies opens option = one_arm_lies part one lies opens
  arms_lie part one (Some d) None one_sized lies opens option = absurd option
  arms_lie part one None (Some t) one_sized lies opens option = absurd option
  arms_lie part one (Some d) (Some t) one_sized lies opens option = two_arms_lie part d.does one t one_sized lies opens option.0 option.1

  pub arms_sized : (one : Stretch) (b : Option Doing) (other : Option Stretch) → StretchIsSized one → OptionLies code deep count b other → StretchIsSized (arms program place test one other)
  arms_sized one None None one_sized option = one_arm_sized one one_sized
  arms_sized one (Some d) None one_sized option = absurd option
  arms_sized one None (Some t) one_sized option = absurd option
  arms_sized one (Some d) (Some t) one_sized option = two_arms_sized one t one_sized option.2
