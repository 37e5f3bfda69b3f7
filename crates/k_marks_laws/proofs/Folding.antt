-- What parts make of a variable that holds a number: it is combined with what they contribute.
use Rattle.std.proofs.Common.{◌≡◌, ℕ, zero, suc, ◌+◌, ℤ, List, [], ◌∷◌, ◌++◌, map, Option, Bool, true, false, not, if◌then◌else◌, refl, sym, ◌∙◌, ap, subst}
use Rattle.std.specs.List.{fold}
use Rattle.std.proofs.lemmas.List.Sums.{fold-append}
use Rattle.k_num.specs.declared.numbers.Bin.{Bin}
use Rattle.k_num.specs.declared.numbers.Kind.{Kind}
use Rattle.k_num.specs.declared.place.Place.{Place}
use Rattle.k_num.specs.Combining.{combined}
use Rattle.k_types_meaning.specs.declared.tree.expression.TExpr.{TExpr}
use Rattle.k_types_meaning.specs.declared.tree.statement.Spot.{Spot}
use Rattle.k_world.specs.declared.value.Held.{Held}
use Rattle.k_world.specs.Operands.{value_in}
use Rattle.k_evaluation.specs.declared.operand.Operand.{Operand}
use Rattle.k_evaluation.specs.declared.flow.Flow.{Flow}
use Rattle.k_evaluation.specs.declared.flow.Flow.TheVariants.{Normal, Broke, Continued, Returned}
use Rattle.k_evaluation.specs.States.{Program, State, Outcome, Goes, Stops, Part, follow, ◌>>=◌, gives, held_in, enters, exits, region, settles, settled}
use Rattle.k_evaluation.specs.Objects.{live, keeps, block}
use Rattle.k_evaluation.specs.Meanings.{holds}
use Rattle.k_evaluation.specs.Flows.{Doing, Within, unless_left, in_order}
use Rattle.k_evaluation.specs.Loops.{LoopParts, Turn, Again, Ends, turn_of, resets, starts, stays_behind_body, stays_behind_loop, step_or_end, behind_body, turn, turn_if, turns, all_turns, begins, inside_loop, loop_region, loop_parts, source_loop}
use Rattle.k_evaluation.specs.Switches.{PartDoing, statements_of, behind_default, chooses, behind_switch, runs_chosen, selects}
use Rattle.k_marks_laws.specs.Turns.{HoldsNumber}
use Rattle.k_marks_laws.specs.Contributions.{Adds, none, after, Giving, unless_jumped, adds_in_order, adds_by, unless_ended, adds_turn, adds_turns, adds_all_turns, adds_begins, adds_loop, PartGiving, GivesCase, GivesDefault, GivesStatement, part_doing, given_statements, given_default, adds_chosen}
use Rattle.k_marks_laws.proofs.Parts.{Kept, Keeps, Any, thus, gives_kept, settles_kept}
use Rattle.k_marks_laws.proofs.Steps.{Reaches}

module _ (op : Bin) (kind : Kind) (n : ℕ) where
  -- a number, combined with these
  abbrev pub with_all : ℤ → List ℤ → ℤ
  with_all x zs = fold (combined op kind) x zs

  -- A PART COMBINES the variable with what it contributes
  abbrev pub Folds : {A : Type 0} → Part A → Adds → Type 0
  Folds part adds = (s : State) (x : ℤ) → HoldsNumber s n x → Reaches n (with_all x (adds s)) (part s)

  kept_number : (s t : State) (x : ℤ) → held_in t n ≡ held_in s n → HoldsNumber s n x → HoldsNumber t n x
  kept_number s t x same there = ap (λ (slot : Option Held). value_in slot) same ∙ there

  pub quiet_at : {A : Type 0} (s : State) (x : ℤ) (o : Outcome A) → Kept n Any s o → HoldsNumber s n x → Reaches n x o
  quiet_at s x (Goes a t) kept there = kept_number s t x kept.0 there
  quiet_at s x (Stops end w) kept there = tt

  -- a part that keeps it contributes nothing
  pub quiet : {A : Type 0} (part : Part A) → Keeps n Any part → Folds part none
  quiet part kept s x there = quiet_at s x (part s) (kept s) there

  -- ONE PART BEHIND ANOTHER
  both_at : {A B : Type 0} (x : ℤ) (xs : List ℤ) (o : Outcome A) (next : A → Part B) (more : A → Adds) → Reaches n (with_all x xs) o
      → ((a : A) → Folds (next a) (more a)) → Reaches n (with_all x (xs ++ after o more)) (follow o next)
  both_at {B = B} x xs (Goes a t) next more h each =
      subst (λ (z : ℤ). Reaches {A = B} n z (next a t)) (sym (fold-append (combined op kind) x xs (more a t))) (each a t (with_all x xs) h)
  both_at x xs (Stops end w) next more h each = tt

  pub folds_bind : {A B : Type 0} (part : Part A) (adds : Adds) (next : A → Part B) (more : A → Adds) → Folds part adds → ((a : A) → Folds (next a) (more a))
      → Folds (part >>= next) (λ s. adds s ++ after (part s) more)
  folds_bind part adds next more first each s x there = both_at x (adds s) (part s) next more (first s x there) each

  -- behind a part that keeps it
  behind_at : {A B : Type 0} (s : State) (x : ℤ) (o : Outcome A) (next : A → Part B) (more : A → Adds) → Kept n Any s o → HoldsNumber s n x
      → ((a : A) → Folds (next a) (more a)) → Reaches n (with_all x (after o more)) (follow o next)
  behind_at s x (Goes a t) next more kept there each = each a t x (kept_number s t x kept.0 there)
  behind_at s x (Stops end w) next more kept there each = tt

  pub folds_behind : {A B : Type 0} (part : Part A) (next : A → Part B) (more : A → Adds) → Keeps n Any part → ((a : A) → Folds (next a) (more a))
      → Folds (part >>= next) (λ s. after (part s) more)
  folds_behind part next more kept each s x there = behind_at s x (part s) next more (kept s) there each

  -- before parts that keep it
  before_at : {A B : Type 0} (z : ℤ) (o : Outcome A) (next : A → Part B) → Reaches n z o → ((a : A) → Keeps n Any (next a)) → Reaches n z (follow o next)
  before_at z (Goes a t) next h kept = quiet_at t z (next a t) (kept a t) h
  before_at z (Stops end w) next h kept = tt

  pub folds_before : {A B : Type 0} (part : Part A) (adds : Adds) (next : A → Part B) → Folds part adds → ((a : A) → Keeps n Any (next a)) → Folds (part >>= next) adds
  folds_before part adds next first kept s x there = before_at (with_all x (adds s)) (part s) next (first s x there) kept

  -- THE CONTROL SOURCE, BLOCKS AND REGIONS
  pub folds_settled : {A : Type 0} (stays : Bool) (part : Part A) (adds : Adds) → Folds part adds → Folds (settled stays part) adds
  folds_settled stays part adds folds s x there =
      folds_before part adds (λ a. settles stays s.world.control >>= λ done. gives a) folds
      (λ a. thus n (settles stays s.world.control) (λ done. gives a) (settles_kept n stays s.world.control) (λ done. gives_kept n a)) s x there

  pub folds_block : {A : Type 0} (part : Part A) (adds : Adds) → Folds part adds → Folds (block part) adds
  folds_block part adds folds =
      folds_behind live (λ count. part >>= λ a. keeps count >>= λ kept. gives a) (λ count. adds) (λ s. (refl, tt))
      (λ count. folds_before part adds (λ a. keeps count >>= λ kept. gives a) folds (λ a. thus n (keeps count) (λ kept. gives a) (λ s. (refl, tt)) (λ kept. gives_kept n a)))

  pub folds_region : {A : Type 0} (number : ℕ) (part : Part A) (adds : Adds) → Folds part adds → Folds (region number part) (λ s. after (enters number s) (λ entered. adds))
  folds_region number part adds folds =
      folds_behind (enters number) (λ entered. part >>= λ a. exits >>= λ left. gives a) (λ entered. adds) (λ s. (refl, tt))
      (λ entered. folds_before part adds (λ a. exits >>= λ left. gives a) folds (λ a. thus n exits (λ left. gives a) (λ s. (refl, tt)) (λ left. gives_kept n a)))

  -- STATEMENTS IN ORDER
  abbrev pub FoldsGiving : Giving → Type 0
  FoldsGiving g = Folds g.doing.does g.adds

  abbrev pub AllFold : List Giving → Type 0
  AllFold [] = Unit {0}
  AllFold (g ∷ gs) = FoldsGiving g × AllFold gs

  abbrev doing_of : Giving → Doing
  doing_of g = g.doing

  jumps_fold : (next : Part Flow) (more : Adds) → Folds next more → (flow : Flow) → Folds (unless_left next flow) (unless_jumped more flow)
  jumps_fold next more folds Normal = folds
  jumps_fold next more folds Broke = quiet (gives Broke) (gives_kept n Broke)
  jumps_fold next more folds Continued = quiet (gives Continued) (gives_kept n Continued)
  jumps_fold next more folds (Returned v) = quiet (gives (Returned v)) (gives_kept n (Returned v))

  pub in_order_folds : (gs : List Giving) → AllFold gs → Folds (in_order (map doing_of gs)) (adds_in_order gs)
  in_order_folds [] each = quiet (gives Normal) (gives_kept n Normal)
  in_order_folds (g ∷ gs) each =
      folds_bind g.doing.does g.adds (unless_left (in_order (map doing_of gs))) (unless_jumped (adds_in_order gs)) each.0
      (jumps_fold (in_order (map doing_of gs)) (adds_in_order gs) (in_order_folds gs each.1))

  -- an arm
  pub arm_folds : (first second : Part Flow) (one two : Adds) (test : Held) → Folds first one → Folds second two → Folds (if holds test then first else second) (adds_by one two test)
  arm_folds first second one two test h k = by (holds test)
    where
      by : (b : Bool) → Folds (if b then first else second) (λ s. if b then one s else two s)
      by true = h
      by false = k

  -- LOOPS
  module _ (l : LoopParts) (number : ℕ) (does : Part Flow) (adds : Adds) (body_is : l.body ≡ region number does) (folds : Folds does adds)
      (test_keeps : Keeps n Any l.test) (step_keeps : Keeps n Any l.step) (before : Option ℕ) where
    starts_keep : {A : Type 0} (part : Part A) → Keeps n Any part → Keeps n Any (starts l before part)
    starts_keep part kept = thus n (resets l.counted before) (λ ready. part) (settles_kept n (not l.counted) before) (λ ready. kept)

    -- what goes on with the next turns where another test comes
    abbrev resumed : Part Flow → Flow → Part Flow
    resumed next Normal = gives Normal
    resumed next Broke = gives Broke
    resumed next Continued = next
    resumed next (Returned v) = gives (Returned v)

    steps_resume : (next : Part Flow) (o : Outcome (Unit {0})) → follow o (λ done. next) ≡ follow (follow o (λ done. gives Continued)) (resumed next)
    steps_resume next (Goes a t) = refl
    steps_resume next (Stops end w) = refl

    ends_resume : (next : Part Flow) (flow : Flow) (s : State)
        → step_or_end l before next (turn_of flow) s ≡ follow (step_or_end l before (gives Continued) (turn_of flow) s) (resumed next)
    ends_resume next Normal s = steps_resume next (starts l before l.step s)
    ends_resume next Broke s = refl
    ends_resume next Continued s = steps_resume next (starts l before l.step s)
    ends_resume next (Returned v) s = refl

    settles_resume : (next : Part Flow) (flow : Flow) (o : Outcome (Unit {0}))
        → follow o (λ done. step_or_end l before next (turn_of flow)) ≡ follow (follow o (λ done. step_or_end l before (gives Continued) (turn_of flow))) (resumed next)
    settles_resume next flow (Goes a t) = ends_resume next flow t
    settles_resume next flow (Stops end w) = refl

    body_resumes : (next : Part Flow) (last : Option ℕ) (o : Outcome Flow)
        → follow o (behind_body l before next last) ≡ follow (follow o (behind_body l before (gives Continued) last)) (resumed next)
    body_resumes next last (Goes flow t) = settles_resume next flow (settles (stays_behind_body l.jumps) last t)
    body_resumes next last (Stops end w) = refl

    -- A TURN is one, and then the next ones
    pub turn_resumes : (next : Part Flow) (last : Option ℕ) (s : State) → turn l before next last s ≡ (turn l before (gives Continued) last >>= resumed next) s
    turn_resumes next last s = body_resumes next last (starts l before l.body s)

    -- the body, in its region, whatever the control source before it
    settled_body : (stays : Bool) → Folds (settles stays before >>= λ ready. region number does)
        (λ s. after ((settles stays before >>= λ ready. enters number) s) (λ entered. adds))
    settled_body true s x there = folds_region number does adds folds s x there
    settled_body false s x there = folds_region number does adds folds (record s { world = record s.world { control = before } }) x there

    body_folds : Folds (starts l before l.body) (λ s. after (starts l before (enters number) s) (λ entered. adds))
    body_folds =
        subst (λ (part : Part Flow). Folds (starts l before part) (λ s. after (starts l before (enters number) s) (λ entered. adds))) (sym body_is) (settled_body (not l.counted))

    end_keeps : (t : Turn) → Keeps n Any (step_or_end l before (gives Continued) t)
    end_keeps Again = thus n (starts l before l.step) (λ done. gives Continued) (starts_keep l.step step_keeps) (λ done. gives_kept n Continued)
    end_keeps (Ends flow) = gives_kept n flow

    once : (last : Option ℕ) → Folds (turn l before (gives Continued) last) (λ s. after (starts l before (enters number) s) (λ entered. adds))
    once last =
        folds_before (starts l before l.body) (λ s. after (starts l before (enters number) s) (λ entered. adds)) (behind_body l before (gives Continued) last) body_folds
        (λ flow. thus n (settles (stays_behind_body l.jumps) last) (λ done. step_or_end l before (gives Continued) (turn_of flow))
        (settles_kept n (stays_behind_body l.jumps) last) (λ done. end_keeps (turn_of flow)))

    resumed_folds : (next : Part Flow) (more : Adds) → Folds next more → (flow : Flow) → Folds (resumed next flow) (unless_ended more flow)
    resumed_folds next more h Normal = quiet (gives Normal) (gives_kept n Normal)
    resumed_folds next more h Broke = quiet (gives Broke) (gives_kept n Broke)
    resumed_folds next more h Continued = h
    resumed_folds next more h (Returned v) = quiet (gives (Returned v)) (gives_kept n (Returned v))

    turn_folds : (next : Part Flow) (more : Adds) (last : Option ℕ) → Folds next more → Folds (turn l before next last) (adds_turn l number adds before more last)
    turn_folds next more last h s x there =
        subst (λ (o : Outcome Flow). Reaches n (with_all x (adds_turn l number adds before more last s)) o) (sym (turn_resumes next last s))
        (folds_bind (turn l before (gives Continued) last) (λ u. after (starts l before (enters number) u) (λ entered. adds)) (resumed next) (unless_ended more) (once last)
        (resumed_folds next more h) s x there)

    turns_fold : (count : ℕ) → Folds (turns count l before) (adds_turns count l number adds before)
    unfolding turns adds_turns
    turns_fold zero s x there = tt
    turns_fold (suc count) s x there =
        folds_behind (starts l before l.test) (turn_if l before (turns count l before))
        (λ test. adds_by (adds_turn l number adds before (adds_turns count l number adds before) test.source) none test) (starts_keep l.test test_keeps)
        (λ test. arm_folds (turn l before (turns count l before) test.source) (gives Normal) (adds_turn l number adds before (adds_turns count l number adds before) test.source) none test
        (turn_folds (turns count l before) (adds_turns count l number adds before) test.source (turns_fold count)) (quiet (gives Normal) (gives_kept n Normal))) s x there

    all_turns_fold : Folds (all_turns l before) (adds_all_turns l number adds before)
    all_turns_fold s = turns_fold (s.world.left + 1) s

    pub begins_folds : (tested : Bool) → Folds (begins l tested before) (adds_begins l number adds tested before)
    begins_folds true = all_turns_fold
    begins_folds false = turn_folds (all_turns l before) (adds_all_turns l number adds before) before all_turns_fold

  -- A LOOP of the source
  pub source_loop_folds : (w : Within) (spot : Spot) (number : ℕ) (test step : Option TExpr) (body : Giving) (tested : Bool) → FoldsGiving body
      → Keeps n Any (loop_parts w spot.place number test step body.doing).test → Keeps n Any (loop_parts w spot.place number test step body.doing).step
      → Folds (source_loop w spot number test step body.doing tested) (adds_loop w spot number test step body tested)
  source_loop_folds w spot number test step body tested folds test_keeps step_keeps s x there =
      let l : LoopParts = loop_parts w spot.place number test step body.doing in
      let before : Option ℕ = s.world.control in
      let adds : Adds = adds_begins l (loop_region w.function number + 1) body.adds tested before in
      folds_before (inside_loop l (loop_region w.function number) tested before) (λ u. after (enters (loop_region w.function number) u) (λ entered. adds))
      (λ flow. settles (stays_behind_loop l.counted l.jumps) before >>= λ done. gives flow)
      (folds_region (loop_region w.function number) (begins l tested before) adds
      (begins_folds l (loop_region w.function number + 1) body.doing.does body.adds refl folds test_keeps step_keeps before tested))
      (λ flow. thus n (settles (stays_behind_loop l.counted l.jumps) before) (λ done. gives flow) (settles_kept n (stays_behind_loop l.counted l.jumps) before) (λ done. gives_kept n flow))
      s x there

  -- SWITCHES
  abbrev pub PartFolds : PartGiving → Type 0
  PartFolds (GivesCase place z) = Unit {0}
  PartFolds GivesDefault = Unit {0}
  PartFolds (GivesStatement g) = FoldsGiving g

  abbrev pub PartsFold : List PartGiving → Type 0
  PartsFold [] = Unit {0}
  PartsFold (p ∷ ps) = PartFolds p × PartsFold ps

  statements_fold : (parts : List PartGiving) → PartsFold parts → Folds (in_order (statements_of (map part_doing parts))) (adds_in_order (given_statements parts))
  statements_fold [] each = quiet (gives Normal) (gives_kept n Normal)
  statements_fold (GivesCase place z ∷ parts) each = statements_fold parts each.1
  statements_fold (GivesDefault ∷ parts) each = statements_fold parts each.1
  statements_fold (GivesStatement g ∷ parts) each =
      folds_bind g.doing.does g.adds (unless_left (in_order (statements_of (map part_doing parts)))) (unless_jumped (adds_in_order (given_statements parts))) each.0
      (jumps_fold (in_order (statements_of (map part_doing parts))) (adds_in_order (given_statements parts)) (statements_fold parts each.1))

  pub default_folds : (parts : List PartGiving) → PartsFold parts → Folds (in_order (behind_default (map part_doing parts))) (adds_in_order (given_default parts))
  default_folds [] each = quiet (gives Normal) (gives_kept n Normal)
  default_folds (GivesCase place z ∷ parts) each = default_folds parts each.1
  default_folds (GivesDefault ∷ parts) each = statements_fold parts each.1
  default_folds (GivesStatement g ∷ parts) each = default_folds parts each.1

  runs_fold : (chosen : List Doing) (adds : Adds) → Folds (in_order chosen) adds → Folds (runs_chosen chosen) adds
  runs_fold chosen adds folds = folds_before (in_order chosen) adds (λ flow. gives (behind_switch flow)) folds (λ flow. gives_kept n (behind_switch flow))

  module _ (program : Program) (k : Kind) (selects_keep : (place : Place) (z : ℤ) (on : Operand) → Keeps n Any (selects program k place z on))
      (default : List Doing) (others : List Giving) (default_is : Folds (in_order default) (adds_in_order others)) where
    -- what follows the select, by what it chooses
    abbrev chosen_by : Operand → List PartDoing → Held → Part (List Doing)
    chosen_by on parts select = if holds select then gives (statements_of parts) else chooses program k on default parts

    arms_at : (on : Operand) (parts : List PartGiving) (b : Bool) (t : State) (x : ℤ) → HoldsNumber t n x → PartsFold parts
        → Reaches n (with_all x (adds_chosen program k on others parts t)) ((chooses program k on default (map part_doing parts) >>= runs_chosen) t)
        → Reaches n (with_all x (if b then adds_in_order (given_statements parts) t else adds_chosen program k on others parts t))
        (follow ((if b then gives (statements_of (map part_doing parts)) else chooses program k on default (map part_doing parts)) t) runs_chosen)
    arms_at on parts true t x there each rest = runs_fold (statements_of (map part_doing parts)) (adds_in_order (given_statements parts)) (statements_fold parts each) t x there
    arms_at on parts false t x there each rest = rest

    select_at : (on : Operand) (parts : List PartGiving) (s : State) (x : ℤ) (o : Outcome Held) → Kept n Any s o → HoldsNumber s n x → PartsFold parts
        → Folds (chooses program k on default (map part_doing parts) >>= runs_chosen) (adds_chosen program k on others parts)
        → Reaches n (with_all x (after o (adds_by (adds_in_order (given_statements parts)) (adds_chosen program k on others parts))))
        (follow (follow o (chosen_by on (map part_doing parts))) runs_chosen)
    select_at on parts s x (Goes select t) kept there each rest =
        arms_at on parts (holds select) t x (kept_number s t x kept.0 there) each (rest t x (kept_number s t x kept.0 there))
    select_at on parts s x (Stops end w) kept there each rest = tt

    pub chooses_folds : (on : Operand) (parts : List PartGiving) → PartsFold parts
        → Folds (chooses program k on default (map part_doing parts) >>= runs_chosen) (adds_chosen program k on others parts)
    chooses_folds on [] each s x there = runs_fold default (adds_in_order others) default_is s x there
    chooses_folds on (GivesCase place z ∷ parts) each s x there =
        select_at on parts s x (selects program k place z on s) (selects_keep place z on s) there each.1 (chooses_folds on parts each.1)
    chooses_folds on (GivesDefault ∷ parts) each s x there = chooses_folds on parts each.1 s x there
    chooses_folds on (GivesStatement g ∷ parts) each s x there = chooses_folds on parts each.1 s x there
