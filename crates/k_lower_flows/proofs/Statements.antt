-- The code of each statement does what it means, as far as the code of its calls does.
use Rattle.std.proofs.Common.{ℕ, zero, suc, ◌≡◌, ◌+◌, Bool, true, false, not, ◌&&◌, ◌||◌, ℤ, pos, List, [], ◌∷◌, length, map, slice_get, Option, None, Some, refl, sym, subst, ap, ◌∙◌, arith}
use Rattle.std.proofs.lemmas.Bool.{and_parts}
use Rattle.k_num.specs.declared.place.Place.{Place}
use Rattle.k_num.specs.declared.numbers.Kind.{Kind}
use Rattle.k_optab.specs.declared.class.Class.TheVariants as class
use Rattle.k_optab.specs.Latencies.{latency}
use Rattle.k_types_meaning.specs.declared.tree.declaration.TDeclarator.{TDeclarator}
use Rattle.k_types_meaning.specs.declared.tree.expression.Node.{Node}
use Rattle.k_types_meaning.specs.declared.tree.expression.TExpr.{TExpr}
use Rattle.k_types_meaning.specs.declared.tree.statement.Spot.{Spot}
use Rattle.k_types_meaning.specs.declared.tree.statement.TFirst.{TFirst}
use Rattle.k_types_meaning.specs.declared.tree.statement.TFirst.TheVariants as first_part
use Rattle.k_types_meaning.specs.declared.tree.statement.TPart.{TPart, fold-TPart, fold-roll-TPart, map-TPart, roll-TPart}
use Rattle.k_types_meaning.specs.declared.tree.statement.TPart.TheOpen.{TPart-F, TStmt-F}
use Rattle.k_types_meaning.specs.declared.tree.statement.TStmt.{TStmt, fold-roll-TStmt, ind-TStmt, map-TStmt, roll-TStmt}
use Rattle.k_types_meaning.specs.declared.tree.unit.TVariable.{TVariable}
use Rattle.k_marks_meaning.specs.declared.jumps.Jumps.{Jumps}
use Rattle.k_marks_meaning.specs.Jumps.{no_jumps, a_break, a_continue, a_return, jumps_of_both, out_of_loop, out_of_switch, is_left}
use Rattle.k_world.specs.declared.act.Act.TheVariants as act
use Rattle.k_world.specs.declared.value.Held.{Held}
use Rattle.k_world.specs.declared.value.Value.TheVariants as value_of
use Rattle.k_world.specs.Operations.{Made, Gives, Ends, operation}
use Rattle.k_world.specs.WorldLaws.{WhereMade}
use Rattle.k_code.specs.declared.code.Code.{Code}
use Rattle.k_code.specs.declared.instruction.Arg.{Arg}
use Rattle.k_code.specs.declared.instruction.Arg.TheVariants.{Number}
use Rattle.k_code.specs.declared.instruction.Do.TheVariants as do_
use Rattle.k_code.specs.Named.{operands}
use Rattle.k_code.specs.Steps.{Going, step, operation_of, alone, behind, by_operation}
use Rattle.k_evaluation.specs.declared.flow.Flow.{Flow}
use Rattle.k_evaluation.specs.declared.flow.Flow.TheVariants.{Normal, Broke, Continued, Returned}
use Rattle.k_evaluation.specs.declared.operand.Operand.{Operand}
use Rattle.k_evaluation.specs.declared.operand.Operand.TheVariants.{Constant}
use Rattle.k_evaluation.specs.Expressions.{Calls}
use Rattle.k_evaluation.specs.Flows.{Doing, Within, goes_on, unless_left, in_order, jumps_of_all}
use Rattle.k_evaluation.specs.Flows as flows
use Rattle.k_evaluation.specs.Loops as loops
use Rattle.k_evaluation.specs.Meanings.{flag, holds, tests}
use Rattle.k_evaluation.specs.Objects.{block}
use Rattle.k_evaluation.specs.Declarations as declaring
use Rattle.k_evaluation.specs.States.{Program, State, Outcome, Goes, Stops, Part, follow, ◌>>=◌, gives, made, makes, read}
use Rattle.k_evaluation.specs.States as state
use Rattle.k_evaluation.specs.Statements as part_of
use Rattle.k_evaluation.specs.Statements.{does, does_step, chosen_arm, does_or_none, if_jumps, jumps_or_none}
use Rattle.k_evaluation.specs.Switches as switches
use Rattle.k_evaluation.specs.Switches.{PartDoing}
use Rattle.k_evaluation_control.proofs.Ends as ending
use Rattle.k_evaluation_control.proofs.Ends.{DoingEnds, AllEnd}
use Rattle.k_evaluation_control.proofs.Kept.{Keeps, gives_keeps}
use Rattle.k_evaluation_control.proofs.Rows.{CallsKeep}
use Rattle.k_evaluation_control.proofs.Statements.{OptionEnds, means_keeps, drops_keeps, starts_with_keeps, does_ends, if_part_ends, source_loop_ends, switch_part_ends}
use Rattle.k_lower_code.specs.Declarations as code_declaring
use Rattle.k_lower_code.specs.Loops as code_loops
use Rattle.k_lower_code.specs.Pieces.{Piece, IsSized, only, ◌>>>◌, instruction}
use Rattle.k_lower_code.specs.Pieces as pieces
use Rattle.k_lower_code.specs.Statements as code_of
use Rattle.k_lower_code.specs.Statements.{lowered, lower_step}
use Rattle.k_lower_code.specs.Stretches as stretches
use Rattle.k_lower_code.specs.Stretches.{Inside, Stretch, of_piece, nothing_done}
use Rattle.k_lower_code.specs.Switches as code_switches
use Rattle.k_lower_code.specs.Switches.{PartLowered}
use Rattle.k_lower_code.proofs.Sizes.{binds_sized}
use Rattle.k_lower_runs.specs.Doing.{CallFollows}
use Rattle.k_lower_runs.specs.Sound.{is_sound, option_sound, declared_sound, first_sound}
use Rattle.k_lower_runs.proofs.Combined.{used_follows}
use Rattle.k_lower_runs.proofs.Expressions.{expression_does}
use Rattle.k_lower_runs.proofs.Instructions.{alone_steps, operation_steps}
use Rattle.k_lower_runs.proofs.Leads.{Registers, Site, at, live_at, Follows, goes_by_operation, Moves, operation_moves, has_first, has_rest, only_follows, ends_at}
use Rattle.k_lower_runs.proofs.Values.{Does, Same, Always, number, reads_same}
use Rattle.k_lower_flows.specs.Sound.{Soundness, is_part, option_part, option_jumps, all_sound, all_parts, jumps_in, runs_through, returned_sound, loop_sound, stmt_step, part_step, soundness}
use Rattle.k_lower_flows.proofs.Arms.{OptionLies, arms_lie, arms_sized}
use Rattle.k_lower_flows.proofs.Blocks.{StretchIsSized, Rests, AllPerform, jump_reaches, nothing_lies, in_order_rests, block_lies, followed_rests}
use Rattle.k_lower_flows.proofs.Declared.{declared_lie, declared_sized, drops_follow, drops_sized, first_lies, first_is_sized}
use Rattle.k_lower_flows.proofs.Landing.{ends_reached, stays_itself, stays_on, Lands, Lies, Performs, exact_kept, piece_lies}
use Rattle.k_lower_flows.proofs.Loops.{LoopDoes, loop_lies, loop_sized}
use Rattle.k_lower_flows.proofs.Returned.{Hands, AllHand, PartsHand, gives_hands, goes_on_hands, behind_hands, block_hands, settled_hands, chosen_hands, region_hands, loop_hands, in_order_hands, switches_hand}
use Rattle.k_lower_flows.proofs.Switches.{PartsPerform, no_parts, a_case, a_default, a_statement, cases_same, parts_jumps, switches_lie, switches_sized}
use Rattle.k_lower_flows.proofs.Tests.{settled_unless_lies, settled_unless_sized, value_lands}

-- a text without another's jumps has its own
both_none : (j : Jumps) → jumps_of_both j no_jumps ≡ j
both_none j = λ i. record { breaks = or_none j.breaks i; continues = or_none j.continues i; returns = or_none j.returns i }
  where
    or_none : (b : Bool) → (b || false) ≡ b
    or_none true = refl
    or_none false = refl

not_true : (b : Bool) → not b ≡ true → b ≡ false
not_true true is = absurd (cc is)
not_true false is = refl

-- a counted loop that runs through holds neither of both
through_is : (counted : Bool) (j : Jumps) → runs_through counted j ≡ true → counted ≡ true → (j.breaks ≡ false) × (j.returns ≡ false)
through_is counted j is so = by counted j.breaks j.returns is so
  where
    by : (c b r : Bool) → (not c || not (b || r)) ≡ true → c ≡ true → (b ≡ false) × (r ≡ false)
    by c false false is so = (refl, refl)
    by false b r is so = absurd (cc so)
    by true true r is so = absurd (cc is)
    by true false true is so = absurd (cc is)

module _ (code : Code) (deep : ℕ) (program : Program) (function : ℕ) (vs : List TVariable) (calls : Calls) (calls_keep : CallsKeep calls) (valued : Bool) (fits : Node → ℕ → Bool)
    (calls_follow : (node : Node) (f : ℕ) → fits node f ≡ true → CallFollows code deep (length vs) program calls node f) where
  abbrev pub count : ℕ
  count = length vs

  abbrev pub here : Within
  here = record { program = program; function = function; vars = vs; calls = calls }

  abbrev pub inside : Inside
  inside = record { program = program; function = function; vars = vs }

  abbrev pub sound_of : TStmt → Soundness
  sound_of = soundness program.marks valued count fits

  each : (e : TExpr) → is_sound count fits e ≡ true → Does code deep count (flows.means here e) (code_declaring.means inside e)
  each e sound = expression_does code deep count program vs calls fits calls_follow e sound

  -- A STATEMENT AND ITS CODE, of which that is known
  pub record Stands (d : Doing) (t : Stretch) (x : Soundness) : Type 0 where
    pub performs : Performs code deep count d t
    pub hands : Hands valued d.does
    pub opens : x.declares ≡ false → t.opens ≡ 0
    pub jumps : x.jumps ≡ d.jumps

  -- A VALUE that is used
  value_follows : (e : TExpr) → is_sound count fits e ≡ true → Follows code deep count count Always ((flows.means here e).value true) ((code_declaring.means inside e).value true count) (λ o a new. Same count count new o a)
  value_follows e sound = used_follows code deep count (flows.means here e) (code_declaring.means inside e) (each e sound) count (omega arith)

  value_keeps : (e : TExpr) (used : Bool) → Keeps ((flows.means here e).value used)
  value_keeps e used = (means_keeps program function vs calls calls_keep e).value used

  -- `e;`, `;`, `break;`, `continue;`
  expression_stands : (spot : Spot) (e : TExpr) → is_sound count fits e ≡ true → Stands (part_of.expression here e) (code_of.expression inside spot e) (record { sound = is_sound count fits e; declares = false; jumps = no_jumps })
  unfolding part_of.expression code_of.expression
  expression_stands spot e sound = record {
    performs = record {
      lies = piece_lies code deep count (flows.drops here e) spot.place (code_declaring.drops inside e) count (drops_follow code deep count program function vs calls refl fits each calls_keep e sound);
      sized = λ target first. drops_sized code deep count program function vs calls refl fits each calls_keep e sound first;
      jumps = refl;
    };
    hands = goes_on_hands valued (flows.drops here e);
    opens = λ is. refl;
    jumps = refl;
  }

  empty_stands : (spot : Spot) → Stands part_of.empty (nothing_done spot.place) (record { sound = true; declares = false; jumps = no_jumps })
  unfolding part_of.empty
  empty_stands spot = record {
    performs = record { lies = nothing_lies code deep count spot.place; sized = λ target first. refl; jumps = refl };
    hands = gives_hands valued Normal tt;
    opens = λ is. refl;
    jumps = refl;
  }

  break_stands : (spot : Spot) → Stands part_of.break (code_of.break inside spot) (record { sound = true; declares = false; jumps = a_break })
  unfolding part_of.break code_of.break
  break_stands spot = record {
    performs = record {
      lies = λ site target first s registers has agrees tidy live_are. record {
        registers = registers;
        reaches = jump_reaches code site first s.world registers program spot.place target.breaks has;
        agrees = agrees;
        live_are = live_are;
        stays = stays_itself site.base s.world;
      };
      sized = λ target first. refl;
      jumps = refl;
    };
    hands = gives_hands valued Broke tt;
    opens = λ is. refl;
    jumps = refl;
  }

  continue_stands : (spot : Spot) → Stands part_of.continue (code_of.continue inside spot) (record { sound = true; declares = false; jumps = a_continue })
  unfolding part_of.continue code_of.continue
  continue_stands spot = record {
    performs = record {
      lies = λ site target first s registers has agrees tidy live_are. record {
        registers = registers;
        reaches = jump_reaches code site first s.world registers program spot.place target.continues has;
        agrees = agrees;
        live_are = live_are;
        stays = stays_itself site.base s.world;
      };
      sized = λ target first. refl;
      jumps = refl;
    };
    hands = gives_hands valued Continued tt;
    opens = λ is. refl;
    jumps = refl;
  }

  -- `return;`, `return e;`
  returned_lies : (place : Place) (e : Option TExpr) → returned_sound program.marks valued count fits e ≡ true
      → Lies code deep count true (part_of.returns_value here place e) (record (of_piece place (code_of.returns_value inside place e)) { jumps = a_return })
  unfolding alone operation_of operands behind
  returned_lies place None sound = λ site target first s registers has agrees tidy live_are. record {
    control = s.world.control;
    reaches = (suc zero, alone_steps code site first s.world registers program place (do_.Return None) has refl);
    stays = stays_itself site.base s.world;
  }
  returned_lies place (Some e) sound = λ site target first s registers has agrees tidy live_are.
      value_lands code deep count program true site target count Always ((flows.means here e).value true) ((code_declaring.means inside e).value true count) (λ o a new. Same count count new o a)
      (value_follows e (and_parts valued (is_sound count fits e) sound).1) (value_keeps e true) first (first + (((code_declaring.means inside e).value true count).size + 1)) 0 s registers
      (has_first code first (((code_declaring.means inside e).value true count).code first) _ has) agrees tt tidy (part_of.returns_moved program place)
      (λ o t new agree same clean control_t live_t left_t.
      lands site target (first + ((code_declaring.means inside e).value true count).size) (first + (((code_declaring.means inside e).value true count).size + 1)) t new
      (operation class.Move (latency program.latencies class.Move) place act.Move (map (read t) (o ∷ [])) t.world)
      (operation_moves class.Move (latency program.latencies class.Move) place act.Move (map (read t) (o ∷ [])) t.world)
      (operation_steps code site (first + ((code_declaring.means inside e).value true count).size) t new program place class.Move act.Move (o ∷ []) (do_.Return (Some ((code_declaring.means inside e).value true count).gives))
      (has_rest code first (((code_declaring.means inside e).value true count).code first) _ ((code_declaring.means inside e).value true count).size
      ((each e (and_parts valued (is_sound count fits e) sound).1).value_sized true count first) has) refl
      (ap (λ x. x ∷ []) (reads_same count count count new t o ((code_declaring.means inside e).value true count).gives same agree))))
    where
      lands : (site : Site) (target : stretches.Site) (pc next : ℕ) (t : State) (new : Registers) (m : Made) → WhereMade Moves t.world m
          → step code (Going (at site pc new t.world))
          ≡ by_operation code (instruction program place (do_.Return (Some ((code_declaring.means inside e).value true count).gives))) (at site pc new t.world) m
          → Lands code deep count true site target (Going (at site pc new t.world)) next 0 (follow (made t m) (λ held. gives (Returned (Some held))))
      lands site target pc next t new (Gives held w) fewer steps_to = record {
        control = w.control;
        reaches = (suc zero, steps_to);
        stays = stays_on site.base t.world w (goes_by_operation t.world w fewer);
      }
      lands site target pc next t new (Ends end w) fewer steps_to = ends_at code (Going (at site pc new t.world)) end w (suc zero, steps_to)

  returned_hands : (place : Place) (e : Option TExpr) → returned_sound program.marks valued count fits e ≡ true → Hands valued (part_of.returns_value here place e)
  returned_hands place None sound = gives_hands valued (Returned None) (sym (not_true valued sound))
  returned_hands place (Some e) sound =
      behind_hands valued ((flows.means here e).value true) (part_of.returns_moved program place)
      (λ a. behind_hands valued (makes program class.Move place act.Move (a ∷ [])) (λ held. gives (Returned (Some held)))
      (λ held. gives_hands valued (Returned (Some held)) (sym (and_parts valued (is_sound count fits e) sound).0)))

  returned_sized : (place : Place) (e : Option TExpr) → returned_sound program.marks valued count fits e ≡ true → IsSized (code_of.returns_value inside place e)
  returned_sized place None sound = λ first. refl
  returned_sized place (Some e) sound = binds_sized ((code_declaring.means inside e).value true count) (λ a. pieces.does program place (do_.Return (Some a)))
      ((each e (and_parts valued (is_sound count fits e) sound).1).value_sized true count) (λ first. refl)

  return_stands : (spot : Spot) (e : Option TExpr) → returned_sound program.marks valued count fits e ≡ true
      → Stands (part_of.return here spot e) (code_of.return inside spot e) (record { sound = returned_sound program.marks valued count fits e; declares = false; jumps = a_return })
  unfolding part_of.return code_of.return
  return_stands spot e sound = record {
    performs = record { lies = returned_lies spot.place e sound; sized = λ target first. returned_sized spot.place e sound first; jumps = refl };
    hands = returned_hands spot.place e sound;
    opens = λ is. refl;
    jumps = refl;
  }

  -- a declaration
  declarator_jumps : (d : TDeclarator) (n : ℕ) → (code_declaring.declares_by inside d n).jumps ≡ no_jumps
  declarator_jumps d zero = refl
  declarator_jumps d (suc n) = refl

  declares_jumps : (d : TDeclarator) → (code_declaring.declares inside d).jumps ≡ no_jumps
  unfolding code_declaring.declares
  declares_jumps d = declarator_jumps d (declaring.elements_of (slice_get vs d.variable))

  declared_jumps : (place : Place) (ds : List TDeclarator) → (code_declaring.declares_all inside place ds).jumps ≡ no_jumps
  declared_jumps place [] = refl
  declared_jumps place (d ∷ ds) =
      ap (jumps_of_both (code_declaring.declares inside d).jumps) (declared_jumps place ds) ∙ both_none (code_declaring.declares inside d).jumps ∙ declares_jumps d

  first_jumps : (place : Place) (f : TFirst) → (code_declaring.starts_with inside place f).jumps ≡ no_jumps
  first_jumps place first_part.Nothing = refl
  first_jumps place (first_part.Value e) = refl
  first_jumps place (first_part.Declare ds) = declared_jumps place ds

  declaration_stands : (spot : Spot) (ds : List TDeclarator) → declared_sound count fits ds ≡ true
      → Stands (part_of.declaration here ds) (code_of.declaration inside spot ds) (record { sound = declared_sound count fits ds; declares = true; jumps = no_jumps })
  unfolding part_of.declaration code_of.declaration
  declaration_stands spot ds sound = record {
    performs = record {
      lies = declared_lie code deep count program function vs calls refl fits each calls_keep spot.place ds sound;
      sized = declared_sized code deep count program function vs calls refl fits each calls_keep spot.place ds sound;
      jumps = sym (declared_jumps spot.place ds);
    };
    hands = goes_on_hands valued (declaring.declares_all here ds);
    opens = λ is. absurd (cc is);
    jumps = refl;
  }

  -- `{ parts }`
  abbrev AllStand : List Doing → List Stretch → List Soundness → Type 0
  AllStand [] [] [] = Unit {0}
  AllStand (d ∷ ds) (t ∷ ts) (x ∷ xs) = Stands d t x × DoingEnds d × AllStand ds ts xs
  AllStand _ _ _ = ⊥

  -- what is so of each
  record OfAll (ds : List Doing) (ts : List Stretch) (xs : List Soundness) : Type 0 where
    perform : AllPerform code deep count ds ts
    end : AllEnd ds
    hand : AllHand valued ds
    jumps : jumps_in xs ≡ jumps_of_all ds

  of_all : (ds : List Doing) (ts : List Stretch) (xs : List Soundness) → AllStand ds ts xs → OfAll ds ts xs
  of_all [] [] [] all = record { perform = tt; end = tt; hand = tt; jumps = refl }
  of_all (d ∷ ds) (t ∷ ts) (x ∷ xs) all =
      let rest = of_all ds ts xs all.2 in
      record { perform = (all.0.performs, rest.perform); end = (all.1, rest.end); hand = (all.0.hands, rest.hand); jumps = λ i. jumps_of_both (all.0.jumps i) (rest.jumps i) }
  of_all [] [] (x ∷ xs) all = absurd all
  of_all [] (t ∷ ts) xs all = absurd all
  of_all (d ∷ ds) [] xs all = absurd all
  of_all (d ∷ ds) (t ∷ ts) [] all = absurd all

  compound_stands : (spot : Spot) (ds : List Doing) (ts : List Stretch) (xs : List Soundness) → OfAll ds ts xs
      → Stands (part_of.compound ds) (code_of.compound inside spot ts) (record { sound = all_sound xs; declares = false; jumps = jumps_in xs })
  unfolding part_of.compound code_of.compound
  compound_stands spot ds ts xs all =
      let rests = in_order_rests code deep count program spot.place ds ts all.end all.perform in
      record {
        performs = record {
          lies = block_lies code deep count (in_order ds) (jumps_of_all ds) (stretches.in_order program spot.place ts) rests;
          sized = rests.sized;
          jumps = rests.jumps;
        };
        hands = block_hands valued (in_order ds) (in_order_hands valued ds all.hand);
        opens = λ is. rests.opens;
        jumps = all.jumps;
      }

  -- `if (test) one else other`
  abbrev OptionStands : Option Doing → Option Stretch → Option Soundness → Type 0
  OptionStands None None None = Unit {0}
  OptionStands (Some d) (Some t) (Some x) = Stands d t x × DoingEnds d
  OptionStands _ _ _ = ⊥

  -- what is so of an arm that may be left out, which is no declaration
  record OfOption (d : Option Doing) (t : Option Stretch) (x : Option Soundness) : Type 0 where
    lies : OptionLies code deep count d t
    hands : Hands valued (does_or_none d)
    jumps : option_jumps x ≡ jumps_or_none d

  -- its jumps, beside those of another
  option_arms : (j : Jumps) (place : Place) (test : Piece Arg) (one : Stretch) (d : Option Doing) (t : Option Stretch) (x : Option Soundness) → option_part x ≡ true → OptionStands d t x → j ≡ one.jumps
      → OfOption d t x × (jumps_of_both j (jumps_or_none d) ≡ (code_of.arms program place test one t).jumps)
  option_arms j place test one None None None sound all same = (record { lies = tt; hands = gives_hands valued Normal tt; jumps = refl }, both_none j ∙ same)
  option_arms j place test one (Some d) (Some t) (Some x) sound all same =
      let parts = and_parts x.sound (not x.declares) sound in (
        record { lies = (all.0.performs.lies, all.0.opens (not_true x.declares parts.1), all.0.performs.sized); hands = all.0.hands; jumps = all.0.jumps },
        (λ i. jumps_of_both (same i) (all.0.performs.jumps i)),
      )
  option_arms j place test one None None (Some x) sound all same = absurd all
  option_arms j place test one None (Some t) x sound all same = absurd all
  option_arms j place test one (Some d) None x sound all same = absurd all
  option_arms j place test one (Some d) (Some t) None sound all same = absurd all

  option_ends : (d : Option Doing) (t : Option Stretch) (x : Option Soundness) → OptionStands d t x → OptionEnds program function vs calls calls_keep d
  option_ends None None None all = tt
  option_ends (Some d) (Some t) (Some x) all = all.1
  option_ends None None (Some x) all = absurd all
  option_ends None (Some t) x all = absurd all
  option_ends (Some d) None x all = absurd all
  option_ends (Some d) (Some t) None all = absurd all

  settled_jumps : (b : Bool) (t : Stretch) → (stretches.settled_unless b program t).jumps ≡ t.jumps
  settled_jumps true t = refl
  settled_jumps false t = refl

  settled_opens : (b : Bool) (t : Stretch) → t.opens ≡ 0 → (stretches.settled_unless b program t).opens ≡ 0
  settled_opens true t is = is
  settled_opens false t is = is

  arms_open : (place : Place) (test : Piece Arg) (one : Stretch) (other : Option Stretch) → (code_of.arms program place test one other).opens ≡ 0
  arms_open place test one None = refl
  arms_open place test one (Some t) = refl

  if_stands : (spot : Spot) (test : TExpr) (a : Doing) (one : Stretch) (x : Soundness) (b : Option Doing) (other : Option Stretch) (y : Option Soundness)
      → is_sound count fits test && (is_part x && option_part y) ≡ true → Stands a one x → DoingEnds a → OptionStands b other y
      → Stands (part_of.if_else here spot test a b) (code_of.if_else inside spot test one other)
      (record { sound = is_sound count fits test && (is_part x && option_part y); declares = false; jumps = jumps_of_both x.jumps (option_jumps y) })
  unfolding part_of.if_else code_of.if_else
  if_stands spot test a one x b other y sound stands own option =
      let first = and_parts (is_sound count fits test) (is_part x && option_part y) sound in
      let second = and_parts (is_part x) (option_part y) first.1 in
      let third = and_parts x.sound (not x.declares) second.0 in
      let value = (code_declaring.means inside test).value true count in
      let arms = code_of.arms program spot.place value one other in
      let both = option_arms a.jumps spot.place value one b other y second.1 option stands.performs.jumps in
      let opens = stands.opens (not_true x.declares third.1) in
      let sized : StretchIsSized arms = arms_sized code deep count program spot.place ((flows.means here test).value true) value (value_follows test first.0) (value_keeps test true)
      ((each test first.0).value_sized true count) one b other stands.performs.sized both.0.lies in
      let lies : Lies code deep count true (flows.tests_at here spot.place test >>= chosen_arm a.does (does_or_none b)) arms =
      arms_lie code deep count program spot.place ((flows.means here test).value true) value (value_follows test first.0) (value_keeps test true)
      ((each test first.0).value_sized true count) a.does one b other stands.performs.sized stands.performs.lies opens both.0.lies in
      let part_ends = if_part_ends program function vs calls calls_keep spot test a b own (option_ends b other y option) in
      let same : is_left (if_jumps a b) ≡ is_left arms.jumps = ap is_left both.1 in
      record {
        performs = record {
          lies = subst (λ k. Lies code deep count true (state.settled (is_left (if_jumps a b)) (flows.tests_at here spot.place test >>= chosen_arm a.does (does_or_none b))) (stretches.settled_unless k program arms)) same
              (settled_unless_lies code deep count program (is_left (if_jumps a b)) (flows.tests_at here spot.place test >>= chosen_arm a.does (does_or_none b)) (if_jumps a b) arms sized part_ends (λ is. is) lies);
          sized = settled_unless_sized code deep count program (is_left arms.jumps) arms sized;
          jumps = both.1 ∙ sym (settled_jumps (is_left arms.jumps) arms);
        };
        hands = settled_hands valued (is_left (if_jumps a b)) (flows.tests_at here spot.place test >>= chosen_arm a.does (does_or_none b))
            (behind_hands valued (flows.tests_at here spot.place test) (chosen_arm a.does (does_or_none b)) (λ t. chosen_hands valued (holds t) a.does (does_or_none b) stands.hands both.0.hands));
        opens = λ is. settled_opens (is_left arms.jumps) arms (arms_open spot.place value one other);
        jumps = λ i. jumps_of_both (stands.jumps i) (both.0.jumps i);
      }

  -- LOOPS: the value that is tested, and its code
  abbrev test_value : Option TExpr → Part Operand
  test_value None = gives (Constant (value_of.Number (pos 1)))
  test_value (Some e) = (flows.means here e).value true

  test_is : (place : Place) (test : Option TExpr) → loops.test_or_one here place test ≡ (test_value test >>= tests program place)
  test_is place None = refl
  test_is place (Some e) = refl

  test_follows : (test : Option TExpr) → option_sound count fits test ≡ true → Follows code deep count count Always (test_value test) (code_loops.test_or_one inside test) (λ o a new. Same count count new o a)
  test_follows None sound = only_follows code deep count {A = Operand} {B = Arg} count Always (Constant (value_of.Number (pos 1))) (Number (pos 1)) (λ o a new. Same count count new o a) (λ new p. number (pos 1))
  test_follows (Some e) sound = value_follows e sound

  test_keeps : (test : Option TExpr) → Keeps (test_value test)
  test_keeps None = gives_keeps (Constant (value_of.Number (pos 1)))
  test_keeps (Some e) = value_keeps e true

  test_sized : (test : Option TExpr) → option_sound count fits test ≡ true → IsSized (code_loops.test_or_one inside test)
  test_sized None sound = λ first. refl
  test_sized (Some e) sound = (each e sound).value_sized true count

  step_follows : (step : Option TExpr) → option_sound count fits step ≡ true → Follows code deep count count Always (loops.step_or_none here step) (code_loops.step_or_none inside step) (λ a b new. Unit {0})
  step_follows None sound = only_follows code deep count {A = Unit {0}} {B = Unit {0}} count Always tt tt (λ a b new. Unit {0}) (λ new p. tt)
  step_follows (Some e) sound = drops_follow code deep count program function vs calls refl fits each calls_keep e sound

  step_keeps : (step : Option TExpr) → Keeps (loops.step_or_none here step)
  step_keeps None = gives_keeps {A = Unit {0}} tt
  step_keeps (Some e) = drops_keeps program function vs calls calls_keep e

  step_sized : (step : Option TExpr) → option_sound count fits step ≡ true → IsSized (code_loops.step_or_none inside step)
  step_sized None sound = λ first. refl
  step_sized (Some e) sound = drops_sized code deep count program function vs calls refl fits each calls_keep e sound

  -- what is so of a loop
  record OfLoop (part : Part Flow) (j : Jumps) (t : Stretch) : Type 0 where
    lies : Lies code deep count true part t
    sized : StretchIsSized t
    ends : ending.Ends (is_left j ≡ false) j part
    hands : Hands valued part
    jumps : j ≡ t.jumps
    opens : t.opens ≡ 0

  loop_jumps : (b : Bool) (t : Stretch) → (stretches.settled_unless b program t).jumps ≡ t.jumps
  loop_jumps b t = settled_jumps b t

  -- a loop of the source, by its body
  loop_is : (spot : Spot) (k : ℕ) (test step : Option TExpr) (d : Doing) (t : Stretch) (x : Soundness) (tested : Bool) → loop_sound program.marks valued count fits k test step x ≡ true
      → Stands d t x → DoingEnds d → OfLoop (loops.source_loop here spot k test step d tested) (out_of_loop d.jumps) (code_loops.source_loop inside spot k test step t tested)
  loop_is spot k test step d t x tested sound stands own =
      let one = and_parts (option_sound count fits test) (option_sound count fits step && (is_part x && runs_through (flag (slice_get program.marks.counted k)) x.jumps)) sound in
      let two = and_parts (option_sound count fits step) (is_part x && runs_through (flag (slice_get program.marks.counted k)) x.jumps) one.1 in
      let three = and_parts (is_part x) (runs_through (flag (slice_get program.marks.counted k)) x.jumps) two.1 in
      let four = and_parts x.sound (not x.declares) three.0 in
      let opens = stands.opens (not_true x.declares four.1) in
      let same : d.jumps ≡ t.jumps = stands.performs.jumps in
      let counted = flag (slice_get program.marks.counted k) in
      let does_it : LoopDoes code deep count program spot.place (test_value test) (code_loops.test_or_one inside test) (loops.step_or_none here step) (code_loops.step_or_none inside step) d.does t counted =
      record {
        value_follows = test_follows test one.0;
        value_keeps = test_keeps test;
        value_sized = test_sized test one.0;
        step_follows = step_follows step two.0;
        step_keeps = step_keeps step;
        step_sized = step_sized step two.0;
        body_lies = stands.performs.lies;
        body_sized = stands.performs.sized;
        body_ends = subst (λ (j : Jumps). ending.Ends (is_left j ≡ false) j d.does) same own;
        body_opens = opens;
        through = through_is counted t.jumps (subst (λ (j : Jumps). runs_through counted j ≡ true) (stands.jumps ∙ same) three.1);
      } in
      let region_of = loops.loop_region function k in
      record {
        lies = subst (λ (test_part : Part Held). Lies code deep count true (loops.loop (record {
          test = test_part;
          step = loops.step_or_none here step;
          body = state.region (region_of + 1) d.does;
          counted = counted;
          jumps = d.jumps;
        }) region_of tested)
            (code_loops.source_loop inside spot k test step t tested)) (sym (test_is spot.place test))
            (subst (λ (j : Jumps). Lies code deep count true (loops.loop (record {
              test = test_value test >>= tests program spot.place;
              step = loops.step_or_none here step;
              body = state.region (region_of + 1) d.does;
              counted = counted;
              jumps = j;
            }) region_of tested)
            (code_loops.source_loop inside spot k test step t tested)) (sym same)
            (loop_lies code deep count program spot.place region_of (test_value test) (code_loops.test_or_one inside test) (loops.step_or_none here step) (code_loops.step_or_none inside step) d.does t counted tested does_it));
        sized = loop_sized code deep count program spot.place region_of (test_value test) (code_loops.test_or_one inside test) (loops.step_or_none here step) (code_loops.step_or_none inside step) d.does t counted tested does_it;
        ends = source_loop_ends program function vs calls calls_keep spot k test step d tested own;
        hands = loop_hands valued (loops.loop_parts here spot.place k test step d) region_of tested (region_hands valued (region_of + 1) d.does stands.hands);
        jumps = ap out_of_loop same ∙ sym (settled_jumps (loops.stays_behind_loop counted t.jumps) (code_loops.inside_loop program (record {
          place = spot.place;
          region = region_of;
          test = code_loops.test_or_one inside test;
          step = code_loops.step_or_none inside step;
          body = t;
          counted = counted;
          tested = tested;
        })));
        opens = settled_opens (loops.stays_behind_loop counted t.jumps) (code_loops.inside_loop program (record {
          place = spot.place;
          region = region_of;
          test = code_loops.test_or_one inside test;
          step = code_loops.step_or_none inside step;
          body = t;
          counted = counted;
          tested = tested;
        })) refl;
      }

  while_stands : (spot : Spot) (k : ℕ) (test : TExpr) (d : Doing) (t : Stretch) (x : Soundness) → loop_sound program.marks valued count fits k (Some test) None x ≡ true → Stands d t x → DoingEnds d
      → Stands (loops.while_loop here spot k test d) (code_loops.source_loop inside spot k (Some test) None t true)
      (record { sound = loop_sound program.marks valued count fits k (Some test) None x; declares = false; jumps = out_of_loop x.jumps })
  unfolding loops.while_loop
  while_stands spot k test d t x sound stands own =
      let it = loop_is spot k (Some test) None d t x true sound stands own in
      record { performs = record { lies = it.lies; sized = it.sized; jumps = it.jumps }; hands = it.hands; opens = λ is. it.opens; jumps = ap out_of_loop stands.jumps }

  do_stands : (spot : Spot) (k : ℕ) (d : Doing) (test : TExpr) (t : Stretch) (x : Soundness) → loop_sound program.marks valued count fits k (Some test) None x ≡ true → Stands d t x → DoingEnds d
      → Stands (loops.do_loop here spot k d test) (code_loops.source_loop inside spot k (Some test) None t false)
      (record { sound = loop_sound program.marks valued count fits k (Some test) None x; declares = false; jumps = out_of_loop x.jumps })
  unfolding loops.do_loop
  do_stands spot k d test t x sound stands own =
      let it = loop_is spot k (Some test) None d t x false sound stands own in
      record { performs = record { lies = it.lies; sized = it.sized; jumps = it.jumps }; hands = it.hands; opens = λ is. it.opens; jumps = ap out_of_loop stands.jumps }

  -- `for`: what it declares dies behind it
  started_is : (start : Part (Unit {0})) (part : Part Flow) (s : State) → (goes_on start >>= unless_left part) s ≡ (start >>= λ done. part) s
  started_is start part s = by (start s)
    where
      by : (o : Outcome (Unit {0})) → follow (follow o (λ done. gives Normal)) (unless_left part) ≡ follow o (λ done. part)
      by (Goes a t) = refl
      by (Stops end w) = refl

  for_stands : (spot : Spot) (k : ℕ) (start : TFirst) (test step : Option TExpr) (d : Doing) (t : Stretch) (x : Soundness)
      → first_sound count fits start && loop_sound program.marks valued count fits k test step x ≡ true → Stands d t x → DoingEnds d
      → Stands (part_of.for_loop here spot k start test step d) (code_of.for_loop inside spot k start test step t)
      (record { sound = first_sound count fits start && loop_sound program.marks valued count fits k test step x; declares = false; jumps = out_of_loop x.jumps })
  unfolding part_of.for_loop code_of.for_loop
  for_stands spot k start test step d t x sound stands own =
      let both = and_parts (first_sound count fits start) (loop_sound program.marks valued count fits k test step x) sound in
      let it = loop_is spot k test step d t x true both.1 stands own in
      let begins : Doing = record { does = goes_on (declaring.starts_with here start); jumps = no_jumps } in
      let opening = code_declaring.starts_with inside spot.place start in
      let part = loops.source_loop here spot k test step d true in
      let rest = code_loops.source_loop inside spot k test step t true in
      let j = out_of_loop d.jumps in
      let opening_is : Performs code deep count begins opening = record {
        lies = first_lies code deep count program function vs calls refl fits each calls_keep spot.place start both.0;
        sized = first_is_sized code deep count program function vs calls refl fits each calls_keep spot.place start both.0;
        jumps = sym (first_jumps spot.place start);
      } in
      let begins_ends : DoingEnds begins = ending.goes_on_ends (is_left no_jumps ≡ false) no_jumps (declaring.starts_with here start) (starts_with_keeps program function vs calls calls_keep start) in
      let loose : ending.Ends ⊥ j part = ending.ends_more (is_left j ≡ false) ⊥ j j part (λ q. absurd q) (λ flow allowed. allowed) it.ends in
      let rests : Rests code deep count part j rest = record {
        lies = λ site target first s registers has agrees tidy live_are.
            exact_kept code deep count (part s) site target (Going (at site first registers s.world)) (first + rest.size) rest.opens (ends_reached (live_at deep) (is_left j ≡ false) j s.world.control (part s) (it.ends.ends (live_at deep) s tidy))
            (it.lies site target first s registers has agrees tidy live_are);
        sized = it.sized;
        ends = loose;
        jumps = it.jumps;
        opens = it.opens;
      } in
      let whole : Rests code deep count (goes_on (declaring.starts_with here start) >>= unless_left part) j (stretches.followed_by program opening opening.opens rest) =
      followed_rests code deep count program begins opening opening_is begins_ends part j rest rests j refl
      (ending.keeps_ends ⊥ j (declaring.starts_with here start) part (starts_with_keeps program function vs calls calls_keep start) loose) in
      let is : (goes_on (declaring.starts_with here start) >>= unless_left part) ≡ (declaring.starts_with here start >>= λ done. part) = λ i s. started_is (declaring.starts_with here start) part s i in
      let block_is = block_lies code deep count (goes_on (declaring.starts_with here start) >>= unless_left part) j (stretches.followed_by program opening opening.opens rest) whole in
      record {
        performs = record {
          lies = subst (λ (p : Part Flow). Lies code deep count true (block p) (stretches.followed_by program opening opening.opens rest)) is block_is;
          sized = whole.sized;
          jumps = whole.jumps;
        };
        hands = block_hands valued (declaring.starts_with here start >>= λ done. part) (behind_hands valued (declaring.starts_with here start) (λ done. part) (λ done. it.hands));
        opens = λ is. whole.opens;
        jumps = ap out_of_loop stands.jumps;
      }

  -- `switch (on) { parts }`
  abbrev PartStands : PartDoing → PartLowered → Soundness → Type 0
  PartStands (switches.ACase p z) (code_switches.ACase q y) x = (p ≡ q) × (z ≡ y) × (x.jumps ≡ no_jumps)
  PartStands switches.ADefault code_switches.ADefault x = x.jumps ≡ no_jumps
  PartStands (switches.AStatement d) (code_switches.AStatement t) x = Stands d t x × DoingEnds d
  PartStands _ _ x = ⊥

  abbrev AllParts : List PartDoing → List PartLowered → List Soundness → Type 0
  AllParts [] [] [] = Unit {0}
  AllParts (p ∷ ps) (q ∷ qs) (x ∷ xs) = PartStands p q x × AllParts ps qs xs
  AllParts _ _ _ = ⊥

  -- what is so of all of them, in a switch at this place
  record OfParts (place : Place) (ps : List PartDoing) (qs : List PartLowered) (xs : List Soundness) : Type 0 where
    perform : PartsPerform code deep count program place ps qs
    own : ending.PartsOwn ps
    hand : PartsHand valued ps
    jumps : jumps_in xs ≡ jumps_of_all (switches.statements_of ps)

  none_both : (j k : Jumps) → j ≡ no_jumps → jumps_of_both j k ≡ k
  none_both j k is = ap (λ (x : Jumps). jumps_of_both x k) is

  part_is : (place : Place) (p : PartDoing) (ps : List PartDoing) (q : PartLowered) (qs : List PartLowered) (x : Soundness) (xs : List Soundness) → is_part x ≡ true → PartStands p q x
      → OfParts place ps qs xs → OfParts place (p ∷ ps) (q ∷ qs) (x ∷ xs)
  part_is place (switches.ACase p z) ps (code_switches.ACase q y) qs x xs sound stands rest = record {
    perform = subst (λ (k : Place). PartsPerform code deep count program place (switches.ACase k z ∷ ps) (code_switches.ACase q y ∷ qs)) (sym stands.0)
        (subst (λ (k : ℤ). PartsPerform code deep count program place (switches.ACase q k ∷ ps) (code_switches.ACase q y ∷ qs)) (sym stands.1) (a_case q y ps qs rest.perform));
    own = rest.own;
    hand = rest.hand;
    jumps = none_both x.jumps (jumps_in xs) stands.2 ∙ rest.jumps;
  }
  part_is place switches.ADefault ps code_switches.ADefault qs x xs sound stands rest = record {
    perform = a_default ps qs rest.perform;
    own = rest.own;
    hand = rest.hand;
    jumps = none_both x.jumps (jumps_in xs) stands ∙ rest.jumps;
  }
  part_is place (switches.AStatement d) ps (code_switches.AStatement t) qs x xs sound stands rest = record {
    perform = a_statement d t ps qs stands.0.performs (stands.0.opens (not_true x.declares (and_parts x.sound (not x.declares) sound).1)) stands.1 rest.perform;
    own = (stands.1, rest.own);
    hand = (stands.0.hands, rest.hand);
    jumps = λ i. jumps_of_both (stands.0.jumps i) (rest.jumps i);
  }
  part_is place (switches.ACase p z) ps code_switches.ADefault qs x xs sound stands rest = absurd stands
  part_is place (switches.ACase p z) ps (code_switches.AStatement t) qs x xs sound stands rest = absurd stands
  part_is place switches.ADefault ps (code_switches.ACase q y) qs x xs sound stands rest = absurd stands
  part_is place switches.ADefault ps (code_switches.AStatement t) qs x xs sound stands rest = absurd stands
  part_is place (switches.AStatement d) ps (code_switches.ACase q y) qs x xs sound stands rest = absurd stands
  part_is place (switches.AStatement d) ps code_switches.ADefault qs x xs sound stands rest = absurd stands

  switch_stands : (spot : Spot) (kind : Kind) (on : TExpr) (ps : List PartDoing) (qs : List PartLowered) (xs : List Soundness) → is_sound count fits on && all_parts xs ≡ true → OfParts spot.place ps qs xs
      → Stands (switches.switch here kind on ps) (code_switches.switch inside spot kind on qs) (record { sound = is_sound count fits on && all_parts xs; declares = false; jumps = out_of_switch (jumps_in xs) })
  unfolding switches.switch code_switches.switch
  switch_stands spot kind on ps qs xs sound all =
      let both = and_parts (is_sound count fits on) (all_parts xs) sound in
      let used = code_switches.has_case qs in
      let value = (code_declaring.means inside on).value used count in
      let whole = code_switches.switches program spot.place kind count qs value in
      let part : Part Flow = (flows.means here on).value (switches.has_case ps) >>= switches.switches program kind ps in
      let same_case : switches.has_case ps ≡ used = cases_same code deep count program spot.place ps qs all.perform in
      let j : Jumps = switches.switch_jumps ps in
      let j_is : jumps_of_all (switches.statements_of ps) ≡ (stretches.in_order program spot.place (code_switches.statements_of qs)).jumps = parts_jumps code deep count program spot.place ps qs all.perform in
      let left_is : is_left j ≡ is_left (out_of_switch (stretches.in_order program spot.place (code_switches.statements_of qs)).jumps) = ap (λ (k : Jumps). is_left (out_of_switch k)) j_is in
      let sized : StretchIsSized whole = switches_sized code deep count program spot.place kind ps qs all.perform ((flows.means here on).value used) value ((each on both.0).value used count (omega arith))
      (value_keeps on used) ((each on both.0).value_sized used count) in
      let lies : Lies code deep count true part whole =
      subst (λ (b : Bool). Lies code deep count true ((flows.means here on).value b >>= switches.switches program kind ps) whole) (sym same_case)
      (switches_lie code deep count program spot.place kind ps qs all.perform ((flows.means here on).value used) value ((each on both.0).value used count (omega arith)) (value_keeps on used)
      ((each on both.0).value_sized used count)) in
      record {
        performs = record {
          lies = subst (λ k. Lies code deep count true (state.settled (is_left j) part) (stretches.settled_unless k program whole)) left_is
              (settled_unless_lies code deep count program (is_left j) part j whole sized (switch_part_ends program function vs calls calls_keep kind on ps all.own) (λ is. is) lies);
          sized = settled_unless_sized code deep count program (is_left (out_of_switch (stretches.in_order program spot.place (code_switches.statements_of qs)).jumps)) whole sized;
          jumps = ap out_of_switch j_is ∙ sym (settled_jumps (is_left (out_of_switch (stretches.in_order program spot.place (code_switches.statements_of qs)).jumps)) whole);
        };
        hands = settled_hands valued (is_left j) part (behind_hands valued ((flows.means here on).value (switches.has_case ps)) (switches.switches program kind ps)
            (λ a. switches_hand valued program kind ps a all.hand));
        opens = λ is. settled_opens (is_left (out_of_switch (stretches.in_order program spot.place (code_switches.statements_of qs)).jumps)) whole refl;
        jumps = ap out_of_switch all.jumps;
      }

  body_sound : (k : ℕ) (test step : Option TExpr) (x : Soundness) → loop_sound program.marks valued count fits k test step x ≡ true → x.sound ≡ true
  body_sound k test step x sound =
      let one = and_parts (option_sound count fits test) (option_sound count fits step && (is_part x && runs_through (flag (slice_get program.marks.counted k)) x.jumps)) sound in
      let two = and_parts (option_sound count fits step) (is_part x && runs_through (flag (slice_get program.marks.counted k)) x.jumps) one.1 in
      let three = and_parts (is_part x) (runs_through (flag (slice_get program.marks.counted k)) x.jumps) two.1 in
      (and_parts x.sound (not x.declares) three.0).0

  -- A STATEMENT
  abbrev part_does : TPart → PartDoing
  part_does = fold-TPart PartDoing Doing part_of.part_step (does_step here)

  abbrev part_lowered : TPart → PartLowered
  part_lowered = fold-TPart PartLowered Stretch code_of.part_step (lower_step inside)

  abbrev part_sound : TPart → Soundness
  part_sound = fold-TPart Soundness Soundness (part_step program.marks valued count fits) (stmt_step program.marks valued count fits)

  abbrev OfPart : TPart → Type 0
  OfPart p = (part_sound p).sound ≡ true → PartStands (part_does p) (part_lowered p) (part_sound p)

  abbrev pub OfStmt : TStmt → Type 0
  OfStmt s = (sound_of s).sound ≡ true → Stands (does here s) (lowered inside s) (sound_of s)

  abbrev stmts : List ((s : TStmt) × OfStmt s) → List TStmt
  stmts items = map (λ (x : (s : TStmt) × OfStmt s). x.0) items

  abbrev parts_in : List ((p : TPart) × OfPart p) → List TPart
  parts_in items = map (λ (x : (p : TPart) × OfPart p). x.0) items

  all_do : (items : List ((s : TStmt) × OfStmt s)) → all_sound (map sound_of (stmts items)) ≡ true
      → AllStand (map (does here) (stmts items)) (map (lowered inside) (stmts items)) (map sound_of (stmts items))
  all_do [] sound = tt
  all_do (x ∷ items) sound =
      let both = and_parts (sound_of x.0).sound (all_sound (map sound_of (stmts items))) sound in
      (x.1 both.0, does_ends program function vs calls calls_keep x.0, all_do items both.1)

  parts_do : (place : Place) (items : List ((p : TPart) × OfPart p)) → all_parts (map part_sound (parts_in items)) ≡ true
      → OfParts place (map part_does (parts_in items)) (map part_lowered (parts_in items)) (map part_sound (parts_in items))
  parts_do place [] sound = record { perform = no_parts; own = tt; hand = tt; jumps = refl }
  parts_do place (x ∷ items) sound =
      let both = and_parts (is_part (part_sound x.0)) (all_parts (map part_sound (parts_in items))) sound in
      part_is place (part_does x.0) (map part_does (parts_in items)) (part_lowered x.0) (map part_lowered (parts_in items)) (part_sound x.0) (map part_sound (parts_in items)) both.0
      (x.1 (and_parts (part_sound x.0).sound (not (part_sound x.0).declares) both.0).0) (parts_do place items both.1)

  -- the same of the layers of a tree
  abbrev PartLayer : TPart-F TPart TStmt → Type 0
  PartLayer z =
      let x = part_step program.marks valued count fits (map-TPart TPart TStmt Soundness Soundness part_sound sound_of z) in
      x.sound ≡ true → PartStands (part_of.part_step (map-TPart TPart TStmt PartDoing Doing part_does (does here) z)) (code_of.part_step (map-TPart TPart TStmt PartLowered Stretch part_lowered (lowered inside) z)) x

  abbrev StmtLayer : TStmt-F TPart TStmt → Type 0
  StmtLayer z =
      let x = stmt_step program.marks valued count fits (map-TStmt TPart TStmt Soundness Soundness part_sound sound_of z) in
      x.sound ≡ true → Stands (does_step here (map-TStmt TPart TStmt PartDoing Doing part_does (does here) z)) (lower_step inside (map-TStmt TPart TStmt PartLowered Stretch part_lowered (lowered inside) z)) x

  part_by : (y : TPart-F ((p : TPart) × OfPart p) ((s : TStmt) × OfStmt s)) → PartLayer (map-TPart _ _ TPart TStmt (λ (x : (p : TPart) × OfPart p). x.0) (λ (x : (s : TStmt) × OfStmt s). x.0) y)
  part_by (TPart-F.Case place z) sound = (refl, refl, refl)
  part_by (TPart-F.Default place) sound = refl
  part_by (TPart-F.Does place s) sound = (s.1 sound, does_ends program function vs calls calls_keep s.0)

  stmt_by : (y : TStmt-F ((p : TPart) × OfPart p) ((s : TStmt) × OfStmt s)) → StmtLayer (map-TStmt _ _ TPart TStmt (λ (x : (p : TPart) × OfPart p). x.0) (λ (x : (s : TStmt) × OfStmt s). x.0) y)
  stmt_by (TStmt-F.Expr spot e) sound = expression_stands spot e sound
  stmt_by (TStmt-F.Empty spot) sound = empty_stands spot
  stmt_by (TStmt-F.Block spot parts) sound =
      compound_stands spot (map (does here) (stmts parts)) (map (lowered inside) (stmts parts)) (map sound_of (stmts parts))
      (of_all (map (does here) (stmts parts)) (map (lowered inside) (stmts parts)) (map sound_of (stmts parts)) (all_do parts sound))
  stmt_by (TStmt-F.If spot test a None) sound =
      let both = and_parts (is_sound count fits test) (is_part (sound_of a.0) && true) sound in
      let arm = and_parts (is_part (sound_of a.0)) true both.1 in
      if_stands spot test (does here a.0) (lowered inside a.0) (sound_of a.0) None None None sound (a.1 (and_parts (sound_of a.0).sound (not (sound_of a.0).declares) arm.0).0)
      (does_ends program function vs calls calls_keep a.0) tt
  stmt_by (TStmt-F.If spot test a (Some b)) sound =
      let both = and_parts (is_sound count fits test) (is_part (sound_of a.0) && is_part (sound_of b.0)) sound in
      let arm = and_parts (is_part (sound_of a.0)) (is_part (sound_of b.0)) both.1 in
      if_stands spot test (does here a.0) (lowered inside a.0) (sound_of a.0) (Some (does here b.0)) (Some (lowered inside b.0)) (Some (sound_of b.0)) sound
      (a.1 (and_parts (sound_of a.0).sound (not (sound_of a.0).declares) arm.0).0) (does_ends program function vs calls calls_keep a.0)
      (b.1 (and_parts (sound_of b.0).sound (not (sound_of b.0).declares) arm.1).0, does_ends program function vs calls calls_keep b.0)
  stmt_by (TStmt-F.While spot k test a) sound =
      while_stands spot k test (does here a.0) (lowered inside a.0) (sound_of a.0) sound (a.1 (body_sound k (Some test) None (sound_of a.0) sound)) (does_ends program function vs calls calls_keep a.0)
  stmt_by (TStmt-F.DoWhile spot k a test) sound =
      do_stands spot k (does here a.0) test (lowered inside a.0) (sound_of a.0) sound (a.1 (body_sound k (Some test) None (sound_of a.0) sound)) (does_ends program function vs calls calls_keep a.0)
  stmt_by (TStmt-F.For spot k start test step a) sound =
      for_stands spot k start test step (does here a.0) (lowered inside a.0) (sound_of a.0) sound
      (a.1 (body_sound k test step (sound_of a.0) (and_parts (first_sound count fits start) (loop_sound program.marks valued count fits k test step (sound_of a.0)) sound).1))
      (does_ends program function vs calls calls_keep a.0)
  stmt_by (TStmt-F.Switch spot kind on parts) sound =
      switch_stands spot kind on (map part_does (parts_in parts)) (map part_lowered (parts_in parts)) (map part_sound (parts_in parts)) sound
      (parts_do spot.place parts (and_parts (is_sound count fits on) (all_parts (map part_sound (parts_in parts))) sound).1)
  stmt_by (TStmt-F.Break spot) sound = break_stands spot
  stmt_by (TStmt-F.Continue spot) sound = continue_stands spot
  stmt_by (TStmt-F.Return spot e) sound = return_stands spot e sound
  stmt_by (TStmt-F.Declare spot list) sound = declaration_stands spot list sound

  pub statement_stands : (s : TStmt) → OfStmt s
  statement_stands =
      ind-TStmt OfPart OfStmt
      (λ x y is.
      subst (λ (k : Soundness). k.sound ≡ true → PartStands (part_does (roll-TPart x)) (part_lowered (roll-TPart x)) k)
      (sym (fold-roll-TPart Soundness Soundness (part_step program.marks valued count fits) (stmt_step program.marks valued count fits) x))
      (subst (λ (p : PartDoing). (part_step program.marks valued count fits (map-TPart TPart TStmt Soundness Soundness part_sound sound_of x)).sound ≡ true
      → PartStands p (part_lowered (roll-TPart x)) (part_step program.marks valued count fits (map-TPart TPart TStmt Soundness Soundness part_sound sound_of x)))
      (sym (fold-roll-TPart PartDoing Doing part_of.part_step (does_step here) x))
      (subst (λ (q : PartLowered). (part_step program.marks valued count fits (map-TPart TPart TStmt Soundness Soundness part_sound sound_of x)).sound ≡ true
      → PartStands (part_of.part_step (map-TPart TPart TStmt PartDoing Doing part_does (does here) x)) q (part_step program.marks valued count fits (map-TPart TPart TStmt Soundness Soundness part_sound sound_of x)))
      (sym (fold-roll-TPart PartLowered Stretch code_of.part_step (lower_step inside) x)) (subst PartLayer is (part_by y)))))
      (λ x y is.
      subst (λ (k : Soundness). k.sound ≡ true → Stands (does here (roll-TStmt x)) (lowered inside (roll-TStmt x)) k)
      (sym (fold-roll-TStmt Soundness Soundness (part_step program.marks valued count fits) (stmt_step program.marks valued count fits) x))
      (subst (λ (d : Doing). (stmt_step program.marks valued count fits (map-TStmt TPart TStmt Soundness Soundness part_sound sound_of x)).sound ≡ true
      → Stands d (lowered inside (roll-TStmt x)) (stmt_step program.marks valued count fits (map-TStmt TPart TStmt Soundness Soundness part_sound sound_of x)))
      (sym (fold-roll-TStmt PartDoing Doing part_of.part_step (does_step here) x))
      (subst (λ (t : Stretch). (stmt_step program.marks valued count fits (map-TStmt TPart TStmt Soundness Soundness part_sound sound_of x)).sound ≡ true
      → Stands (does_step here (map-TStmt TPart TStmt PartDoing Doing part_does (does here) x)) t (stmt_step program.marks valued count fits (map-TStmt TPart TStmt Soundness Soundness part_sound sound_of x)))
      (sym (fold-roll-TStmt PartLowered Stretch code_of.part_step (lower_step inside) x)) (subst StmtLayer is (stmt_by y)))))
