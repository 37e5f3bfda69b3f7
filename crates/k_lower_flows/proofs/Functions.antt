-- A function and its code: from its entry to where it has returned.
use Rattle.std.proofs.Common.{ℕ, zero, suc, ◌≡◌, ◌+◌, ◌-◌, ◌≤◌, nat_eq, Bool, true, false, List, [], ◌∷◌, ◌++◌, length, map, replicate, slice_get, Option, None, refl, sym, subst, ap, ◌∙◌, arith}
use Rattle.std.proofs.lemmas.Bool.{and_parts}
use Rattle.k_optab.specs.declared.event.Event.TheVariants as event
use Rattle.k_ending.specs.declared.ending.End.TheVariants.{Trapped}
use Rattle.k_ending.specs.declared.ending.Trap.TheVariants.{FallOff}
use Rattle.k_types_meaning.specs.declared.types.TType.{TType}
use Rattle.k_types_meaning.specs.declared.types.TType.TheVariants as ttype
use Rattle.k_types_meaning.specs.declared.tree.expression.Node.{Node}
use Rattle.k_types_meaning.specs.declared.tree.statement.TStmt.{TStmt}
use Rattle.k_types_meaning.specs.declared.tree.unit.TFunc.{TFunc}
use Rattle.k_types_meaning.specs.declared.tree.unit.TVariable.{TVariable}
use Rattle.k_marks_meaning.specs.declared.jumps.Jumps.{Jumps}
use Rattle.k_marks_meaning.specs.Jumps.{is_left, jumps_of_both}
use Rattle.k_world.specs.declared.value.Held.{Held}
use Rattle.k_world.specs.Changes.{objects_kept}
use Rattle.k_world.specs.Worlds.{World}
use Rattle.k_code.specs.declared.code.Code.{Code}
use Rattle.k_code.specs.declared.instruction.Do.TheVariants as do_
use Rattle.k_code.specs.declared.instruction.Instr.{Instr}
use Rattle.k_code.specs.Runs.{world_of}
use Rattle.k_code.specs.Steps.{Run, Going, Over, operation_of, alone, handed_back, left_by, no_value, size_of}
use Rattle.k_evaluation.specs.declared.flow.Flow.{Flow}
use Rattle.k_evaluation.specs.declared.flow.Flow.TheVariants.{Normal, Broke, Continued, Returned}
use Rattle.k_evaluation.specs.Calls.{serves, falls_off, at_end, result_of, within, body}
use Rattle.k_evaluation.specs.Expressions.{Calls}
use Rattle.k_evaluation.specs.Flows.{Doing, in_order, jumps_of_all}
use Rattle.k_evaluation.specs.States.{Program, State, Outcome, Goes, Stops, follow, ◌>>=◌, gives}
use Rattle.k_evaluation.specs.Statements as statement
use Rattle.k_evaluation_control.specs.Laws.{IsTidy}
use Rattle.k_evaluation_control.proofs.Ends.{EndsAs, AllEnd, in_order_ends}
use Rattle.k_evaluation_control.proofs.Kept.{Leaves}
use Rattle.k_evaluation_control.proofs.Rows.{CallsKeep}
use Rattle.k_evaluation_control.proofs.Statements.{serves_keeps, all_statements_end}
use Rattle.k_lower_fits.specs.Fits.{has_values}
use Rattle.k_lower_code.specs.Functions as code_of
use Rattle.k_lower_code.specs.Pieces.{does, instruction}
use Rattle.k_lower_code.specs.Statements as lowered_statement
use Rattle.k_lower_code.specs.Stretches as stretches
use Rattle.k_lower_code.specs.Stretches.{Inside, Stretch, of_piece, behind_objects}
use Rattle.k_lower_runs.specs.Doing.{CallFollows}
use Rattle.k_lower_runs.proofs.Instructions.{alone_steps}
use Rattle.k_lower_runs.proofs.Leads.{Registers, Site, at, live_at, Agrees, HasAt, Reaches, EndsSo, reaches_both, ends_from}
use Rattle.k_lower_flows.specs.Sound.{Soundness, all_sound, jumps_in, soundness}
use Rattle.k_lower_flows.specs.Functions.{IsSound}
use Rattle.k_lower_flows.proofs.Blocks.{StretchIsSized, Rests, AllPerform, behind_sized, in_order_rests}
use Rattle.k_lower_flows.proofs.Entered.{serves_lie, serves_sized}
use Rattle.k_lower_flows.proofs.Landing.{split, frame_of, Stays, Closed, Returns, Lands, returns_from}
use Rattle.k_lower_flows.proofs.Returned.{AllHand, OutcomeFits, has_value, in_order_hands}
use Rattle.k_lower_flows.proofs.Statements.{statement_stands}
use Rattle.k_world_laws.proofs.Kept.{keeping_fewer}

module _ (code : Code) (deep : ℕ) (program : Program) (number : ℕ) (f : TFunc) (calls : Calls) (calls_keep : CallsKeep calls) (fits : Node → ℕ → Bool)
    (calls_follow : (node : Node) (g : ℕ) → fits node g ≡ true → CallFollows code deep (length f.variables) program calls node g)
    (sound : IsSound program fits f) where
  abbrev vs : List TVariable
  vs = f.variables

  abbrev count : ℕ
  count = length vs

  abbrev valued : Bool
  valued = has_values f.result

  abbrev doings : List TStmt → List Doing
  doings list = map (statement.does (within program calls number f)) list

  abbrev texts : List TStmt → List Stretch
  texts list = map (lowered_statement.lowered (code_of.inside program number f)) list

  abbrev known : List TStmt → List Soundness
  known list = map (soundness program.marks valued count fits) list

  -- all statements do what they do, and return as the function does
  record OfAll (list : List TStmt) : Type 0 where
    perform : AllPerform code deep count (doings list) (texts list)
    hand : AllHand valued (doings list)
    jumps : jumps_in (known list) ≡ jumps_of_all (doings list)

  of_all : (list : List TStmt) → all_sound (known list) ≡ true → OfAll list
  of_all [] sound = record { perform = tt; hand = tt; jumps = refl }
  of_all (s ∷ list) sound =
      let both = and_parts (soundness program.marks valued count fits s).sound (all_sound (known list)) sound in
      let one = statement_stands code deep program number vs calls calls_keep valued fits calls_follow s both.0 in
      let rest = of_all list both.1 in
      record { perform = (one.performs, rest.perform); hand = (one.hands, rest.hand); jumps = λ i. jumps_of_both (one.jumps i) (rest.jumps i) }

  all : OfAll f.body
  all = of_all f.body sound.statements

  ends : AllEnd (doings f.body)
  ends = all_statements_end program number vs calls calls_keep f.body

  rests : Rests code deep count (in_order (doings f.body)) (jumps_of_all (doings f.body)) (stretches.in_order program f.close (texts f.body))
  rests = in_order_rests code deep count program f.close (doings f.body) (texts f.body) ends all.perform

  -- WHERE THE FUNCTION LEADS TO: it has returned what *Evaluation* says, which is a value where it has a result; or the run ends so
  abbrev pub Comes : Site → Run → Outcome (Option Held) → Type 0
  Comes site from (Goes v t) = Returns code site from v t.world × (has_value v ≡ valued)
  Comes site from (Stops end w) = EndsSo code from end w

  -- THE END of the function, behind its statements
  abbrev ending : Instr
  ending = instruction program f.close (code_of.at_end program number f.result)

  -- a return without a value, where so many objects are kept
  returned_none : (site : Site) (from : Run) (pc live : ℕ) (s : State) → site.base ≤ live → HasAt code pc (instruction program f.close (do_.Return None) ∷ []) → Closed code deep count site from pc live s
      → Reaches code from (handed_back site.waiting (no_value (nat_eq site.func code.main)) (record (left_by code (frame_of site) s.world) { control = s.world.control }))
  unfolding alone operation_of
  returned_none site from pc live s low has closed =
      reaches_both code from (Going (at site pc closed.registers (objects_kept s.world live))) _ closed.reaches
      (subst (λ (x : World). Reaches code (Going (at site pc closed.registers (objects_kept s.world live))) (handed_back site.waiting (no_value (nat_eq site.func code.main)) (record (record x {
        events = s.world.events ++ replicate (site.regions + 1) event.Exit;
        calls = s.world.calls - 1;
        size = s.world.size - size_of (slice_get code.funcs site.func);
      }) { control = s.world.control }))) (keeping_fewer s.world live site.base low)
      (suc zero, alone_steps code site pc (objects_kept s.world live) closed.registers program f.close (do_.Return None) has refl))

  falls_comes : (b : Bool) (site : Site) (from : Run) (pc live : ℕ) (s : State) → site.base ≤ live → valued ≡ true → nat_eq site.func code.main ≡ b
      → HasAt code pc (instruction program f.close (code_of.falls_off b) ∷ []) → Closed code deep count site from pc live s → Comes site from (falls_off b f.close s)
  unfolding alone operation_of
  falls_comes true site from pc live s low result is has closed = (
    record {
      control = s.world.control;
      reaches = subst (λ (b : Bool). Reaches code from (handed_back site.waiting (no_value b) (record (left_by code (frame_of site) s.world) { control = s.world.control }))) is
          (returned_none site from pc live s low has closed);
      stays = closed.stays;
    },
    sym result,
  )
  falls_comes false site from pc live s low result is has closed = record {
    last = objects_kept s.world live;
    reaches = reaches_both code from (Going (at site pc closed.registers (objects_kept s.world live))) (Over (Trapped FallOff f.close) (objects_kept s.world live)) closed.reaches
        (suc zero, alone_steps code site pc (objects_kept s.world live) closed.registers program f.close do_.FallOff has refl);
    events = refl;
    output = refl;
    deeds = refl;
  }

  end_comes : (of : TType) (site : Site) (from : Run) (pc live : ℕ) (s : State) → f.result ≡ of → site.base ≤ live → nat_eq site.func code.main ≡ nat_eq number program.unit.main
      → HasAt code pc (instruction program f.close (code_of.at_end program number of) ∷ []) → Closed code deep count site from pc live s → Comes site from (at_end program number f.close of s)
  end_comes ttype.Void site from pc live s is low main has closed =
      (record { control = s.world.control; reaches = returned_none site from pc live s low has closed; stays = closed.stays }, sym (ap has_values is))
  end_comes (ttype.Number kind) site from pc live s is low main has closed =
      falls_comes (nat_eq number program.unit.main) site from pc live s low (ap has_values is) main has closed
  end_comes (ttype.Pointer target) site from pc live s is low main has closed =
      falls_comes (nat_eq number program.unit.main) site from pc live s low (ap has_values is) main has closed

  -- from a run that leads there
  comes_from : (site : Site) (before from : Run) (o : Outcome (Option Held)) → Reaches code before from → Stays site.base (world_of before) (world_of from) → Comes site from o → Comes site before o
  comes_from site before from (Goes v t) reaches stays comes = (returns_from code site before from v t.world reaches stays comes.0, comes.1)
  comes_from site before from (Stops end w) reaches stays comes = ends_from code before from end w reaches comes

  abbrev opening : Stretch
  opening = code_of.serves program count f.close 0 f.params vs

  abbrev statements : Stretch
  statements = stretches.in_order program f.close (texts f.body)

  pub function_sized : StretchIsSized (code_of.function program number f)
  unfolding code_of.function
  function_sized = behind_sized code deep count opening (stretches.behind statements (of_piece f.close (does program f.close (code_of.at_end program number f.result))))
      (serves_sized code deep count program f.close 0 f.params vs)
      (behind_sized code deep count statements (of_piece f.close (does program f.close (code_of.at_end program number f.result))) rests.sized (λ target first. refl))

  abbrev nowhere : stretches.Site
  nowhere = record { objects = 0; breaks = 0; continues = 0 }

  -- THE FUNCTION from its entry on
  module _ (site : Site) (first : ℕ) (is_here : site.func ≡ number) (main_is : code.main ≡ program.unit.main) (has : HasAt code first ((code_of.function program number f).code nowhere first)) where
    abbrev body_at : ℕ
    body_at = first + opening.size

    abbrev end_at : ℕ
    end_at = body_at + statements.size

    abbrev inner : stretches.Site
    inner = behind_objects opening.opens nowhere

    -- what the code has
    record FunctionHas : Type 0 where
      serving : HasAt code first (opening.code nowhere first)
      own : HasAt code body_at (statements.code inner body_at)
      closing : HasAt code end_at (ending ∷ [])

    function_has : FunctionHas
    unfolding code_of.function
    function_has =
        let a = split code first opening.size (opening.code nowhere first) _ (serves_sized code deep count program f.close 0 f.params vs nowhere first) has in
        let b = split code body_at statements.size (statements.code inner body_at) (ending ∷ []) (rests.sized inner body_at) a.1 in
        record { serving = a.0; own = b.0; closing = b.1 }

    main_same : nat_eq site.func code.main ≡ nat_eq number program.unit.main
    main_same = λ i. nat_eq (is_here i) (main_is i)

    flow_comes : (from : Run) (o : Outcome Flow) → EndsAs (live_at deep) (is_left (jumps_of_all (doings f.body)) ≡ false) (jumps_of_all (doings f.body)) (world_of from).control o → OutcomeFits valued o
        → Lands code deep count false site inner from end_at statements.opens o → Comes site from (follow o (result_of program number f))
    flow_comes from (Goes Normal t) allowed fits closed =
        end_comes f.result site from end_at (site.base + (inner.objects + statements.opens)) t refl (omega arith) main_same function_has.closing closed
    flow_comes from (Goes Broke t) allowed fits closed = absurd (cc (sym allowed.1 ∙ ap (λ (j : Jumps). j.breaks) (sym all.jumps) ∙ sound.breaks))
    flow_comes from (Goes Continued t) allowed fits closed = absurd (cc (sym allowed.1 ∙ ap (λ (j : Jumps). j.continues) (sym all.jumps) ∙ sound.continues))
    flow_comes from (Goes (Returned v) t) allowed fits returns = (returns, fits)
    flow_comes from (Stops end w) allowed fits ends_so = ends_so

    pub function_comes : (s : State) (registers : Registers) → Agrees count s registers → IsTidy (live_at deep) s.world → length s.world.memory.live ≡ site.base
        → Comes site (Going (at site first registers s.world)) ((body program calls number f >>= result_of program number f) s)
    function_comes s registers agrees tidy live_are =
        by (serves program 0 f.params vs s) ((serves_keeps program 0 f.params vs).leaves (live_at deep) s tidy)
        (serves_lie code deep count program f.close 0 f.params vs (let e : 0 + count ≡ count = omega arith in e) site nowhere first s registers function_has.serving agrees tidy
        (live_are ∙ (let e : site.base ≡ site.base + 0 = omega arith in e)))
      where
        from : Run
        from = Going (at site first registers s.world)

        by : (o : Outcome (Unit {0})) → Leaves (live_at deep) true s.world.control o → Lands code deep count true site nowhere from body_at opening.opens (follow o (λ done. gives Normal))
            → Comes site from (follow (follow o (λ served. in_order (doings f.body))) (result_of program number f))
        by (Stops end w) leaves ends_so = ends_so
        by (Goes done t) leaves here =
            comes_from site from (Going (at site body_at here.registers t.world)) (follow (in_order (doings f.body) t) (result_of program number f)) here.reaches here.stays
            (flow_comes (Going (at site body_at here.registers t.world)) (in_order (doings f.body) t) ((in_order_ends (doings f.body) ends).ends (live_at deep) t leaves.0)
            ((in_order_hands valued (doings f.body) all.hand).hands t)
            (rests.lies site inner body_at t here.registers function_has.own here.agrees leaves.0 here.live_are))
