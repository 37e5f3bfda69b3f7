-- Switches: the cases one after another, and the statements from the chosen one on.
use Rattle.std.proofs.Common.{ℕ, zero, suc, ◌≡◌, ◌+◌, Bool, true, false, if◌then◌else◌, ℤ, List, [], ◌∷◌, ◌++◌, length, None, refl, sym, subst, ap, ◌∙◌, arith}
use Rattle.k_num.specs.declared.numbers.Bin.TheVariants.{Eq}
use Rattle.k_num.specs.declared.numbers.Kind.{Kind}
use Rattle.k_num.specs.declared.place.Place.{Place}
use Rattle.k_optab.specs.declared.class.Class.TheVariants as class
use Rattle.k_marks_meaning.specs.Jumps.{is_left, jumps_of_both}
use Rattle.k_world.specs.declared.act.Act.TheVariants as act
use Rattle.k_world.specs.declared.value.Held.{Held}
use Rattle.k_world.specs.declared.value.Value.TheVariants as value_of
use Rattle.k_world.specs.Values.{is_true}
use Rattle.k_world.specs.Worlds.{World}
use Rattle.k_code.specs.declared.code.Code.{Code}
use Rattle.k_code.specs.declared.instruction.Arg.{Arg}
use Rattle.k_code.specs.declared.instruction.Arg.TheVariants.{Number, Reg}
use Rattle.k_code.specs.declared.instruction.Do.TheVariants as do_
use Rattle.k_code.specs.declared.instruction.Instr.{Instr}
use Rattle.k_code.specs.Named.{operands, register_set}
use Rattle.k_code.specs.Steps.{Run, Going, operation_of, behind}
use Rattle.k_evaluation.specs.declared.flow.Flow.{Flow}
use Rattle.k_evaluation.specs.declared.flow.Flow.TheVariants.{Normal, Broke, Continued, Returned}
use Rattle.k_evaluation.specs.declared.operand.Operand.{Operand}
use Rattle.k_evaluation.specs.declared.operand.Operand.TheVariants.{Constant}
use Rattle.k_evaluation.specs.Flows.{Doing, in_order, jumps_of_all, unless_left}
use Rattle.k_evaluation.specs.Meanings.{holds}
use Rattle.k_evaluation.specs.States.{Program, State, Outcome, Goes, Stops, Part, follow, ◌>>=◌, gives, computes, makes, read}
use Rattle.k_evaluation.specs.Switches.{PartDoing, behind_default, selects, chooses, behind_switch, runs_chosen, switches}
use Rattle.k_evaluation.specs.Switches as part_of
use Rattle.k_evaluation_control.specs.Laws.{IsTidy}
use Rattle.k_evaluation_control.proofs.Ends.{DoingEnds}
use Rattle.k_evaluation_control.proofs.Kept.{Keeps, computes_keeps}
use Rattle.k_lower_code.specs.Pieces.{Piece, IsSized, instruction, sets}
use Rattle.k_lower_code.specs.Stretches as stretches
use Rattle.k_lower_code.specs.Stretches.{Stretch, behind_objects}
use Rattle.k_lower_code.specs.Switches.{PartLowered, ACase, ADefault, AStatement, statements_of, has_case, cases_size, cases_code, before_default, skips_size, skips, statements_code}
use Rattle.k_lower_code.specs.Switches as code_of
use Rattle.k_lower_runs.proofs.Leads.{Registers, Site, at, live_at, Agrees, HasAt, Reaches, Leads, Follows}
use Rattle.k_lower_runs.proofs.Values.{Same, IfUsed, Always, reads_same, same_kept, computes_follow}
use Rattle.k_lower_flows.proofs.Blocks.{StretchIsSized, jump_reaches, nothing_lies}
use Rattle.k_lower_flows.proofs.Landing.{Reached, ends_reached, both_long, follow_both, moved, split, stays_itself, Here, Lands, Lies, Performs, lands_from}
use Rattle.k_lower_flows.proofs.Tests.{Tested, value_lands, test_lands, live_behind}

module _ (code : Code) (deep count : ℕ) (program : Program) (place : Place) where
  -- the parts of a switch do what they do, and its statements make no objects that live on
  pub data PartsPerform : List PartDoing → List PartLowered → Type 0 where
    no_parts : PartsPerform [] []
    a_case : (p : Place) (z : ℤ) (ds : List PartDoing) (ts : List PartLowered) → PartsPerform ds ts → PartsPerform (part_of.ACase p z ∷ ds) (ACase p z ∷ ts)
    a_default : (ds : List PartDoing) (ts : List PartLowered) → PartsPerform ds ts → PartsPerform (part_of.ADefault ∷ ds) (ADefault ∷ ts)
    a_statement : (d : Doing) (t : Stretch) (ds : List PartDoing) (ts : List PartLowered) → Performs code deep count d t → t.opens ≡ 0 → DoingEnds d → PartsPerform ds ts
        → PartsPerform (part_of.AStatement d ∷ ds) (AStatement t ∷ ts)

  -- STATEMENTS OF WHICH NONE MAKES AN OBJECT THAT LIVES ON
  abbrev lowered_order : List Stretch → Stretch
  lowered_order ts = stretches.in_order program place ts

  -- they do what they do, and none makes an object
  abbrev AllPlain : List Doing → List Stretch → Type 0
  AllPlain [] [] = Unit {0}
  AllPlain (d ∷ ds) (t ∷ ts) = Performs code deep count d t × (t.opens ≡ 0) × DoingEnds d × AllPlain ds ts
  AllPlain _ _ = ⊥

  -- the first stands before the rest
  first_is : (t : Stretch) (ts : List Stretch) → t.opens ≡ 0 → lowered_order (t ∷ ts) ≡ stretches.behind t (lowered_order ts)
  first_is t ts none = ap (λ n. stretches.followed_by program t n (lowered_order ts)) none

  -- and the same place is told to the rest
  same_target : (target : stretches.Site) (n : ℕ) → n ≡ 0 → behind_objects n target ≡ target
  same_target target n none = λ i. record target { objects = (let e : target.objects + n ≡ target.objects = omega (arith, none) in e) i }

  plain_opens : (ds : List Doing) (ts : List Stretch) → AllPlain ds ts → (lowered_order ts).opens ≡ 0
  plain_opens [] [] all = refl
  plain_opens (d ∷ ds) [] all = absurd all
  plain_opens [] (t ∷ ts) all = absurd all
  plain_opens (d ∷ ds) (t ∷ ts) all = ap (λ (x : Stretch). x.opens) (first_is t ts all.1)
      ∙ (let rest : (lowered_order ts).opens ≡ 0 = plain_opens ds ts all.3 in let one : t.opens ≡ 0 = all.1 in let e : t.opens + (lowered_order ts).opens ≡ 0 = omega (arith, one, rest) in e)

  plain_sized : (ds : List Doing) (ts : List Stretch) → AllPlain ds ts → StretchIsSized (lowered_order ts)
  plain_sized [] [] all = λ target first. refl
  plain_sized (d ∷ ds) [] all = absurd all
  plain_sized [] (t ∷ ts) all = absurd all
  plain_sized (d ∷ ds) (t ∷ ts) all = subst StretchIsSized (sym (first_is t ts all.1)) (λ target first.
      both_long (t.code target first) ((lowered_order ts).code (behind_objects t.opens target) (first + t.size)) t.size (lowered_order ts).size (all.0.sized target first)
      (plain_sized ds ts all.3 (behind_objects t.opens target) (first + t.size)))

  -- where the whole stands, so does the rest
  rest_has : (t : Stretch) (ts : List Stretch) → t.opens ≡ 0 → StretchIsSized t → (target : stretches.Site) (first : ℕ) → HasAt code first ((lowered_order (t ∷ ts)).code target first)
      → HasAt code first (t.code target first) × HasAt code (first + t.size) ((lowered_order ts).code target (first + t.size))
  rest_has t ts none sized target first has =
      let both = split code first t.size (t.code target first) ((lowered_order ts).code (behind_objects t.opens target) (first + t.size)) (sized target first)
      (subst (λ (x : Stretch). HasAt code first (x.code target first)) (first_is t ts none) has) in
      (both.0, subst (λ (x : stretches.Site). HasAt code (first + t.size) ((lowered_order ts).code x (first + t.size))) (same_target target t.opens none) both.1)

  size_is : (t : Stretch) (ts : List Stretch) → t.opens ≡ 0 → (lowered_order (t ∷ ts)).size ≡ t.size + (lowered_order ts).size
  size_is t ts none = ap (λ (x : Stretch). x.size) (first_is t ts none)

  -- where they stand, with this end, they lead where *Evaluation*'s lead
  plain_lands : (ds : List Doing) (ts : List Stretch) → AllPlain ds ts → (site : Site) (target : stretches.Site) (first end : ℕ) (s : State) (registers : Registers)
      → first + (lowered_order ts).size ≡ end → HasAt code first ((lowered_order ts).code target first) → Agrees count s registers → IsTidy (live_at deep) s.world
      → length s.world.memory.live ≡ site.base + target.objects → Lands code deep count true site target (Going (at site first registers s.world)) end 0 (in_order ds s)
  plain_lands [] [] all site target first end s registers ends has agrees tidy live_are =
      subst (λ n. Lands code deep count true site target (Going (at site first registers s.world)) n 0 (Goes Normal s)) ends
      (nothing_lies code deep count place site target first s registers has agrees tidy live_are)
  plain_lands (d ∷ ds) [] all site target first end s registers ends has agrees tidy live_are = absurd all
  plain_lands [] (t ∷ ts) all site target first end s registers ends has agrees tidy live_are = absurd all
  plain_lands (d ∷ ds) (t ∷ ts) all site target first end s registers ends has agrees tidy live_are =
      goes (λ after new clean agree live_now. plain_lands ds ts all.3 site target (first + t.size) end after new
      (let whole : (lowered_order (t ∷ ts)).size ≡ t.size + (lowered_order ts).size = size_is t ts all.1 in let e : (first + t.size) + (lowered_order ts).size ≡ end = omega (arith, whole, ends) in e)
      parts.1 agree clean live_now)
      (d.does s) (ends_reached (live_at deep) (is_left d.jumps ≡ false) d.jumps s.world.control (d.does s) (all.2.ends (live_at deep) s tidy))
      (subst (λ n. Lands code deep count true site target (Going (at site first registers s.world)) (first + t.size) n (d.does s)) all.1
      (all.0.lies site target first s registers parts.0 agrees tidy live_are))
    where
      parts : HasAt code first (t.code target first) × HasAt code (first + t.size) ((lowered_order ts).code target (first + t.size))
      parts = rest_has t ts all.1 all.0.sized target first has

      from : Run
      from = Going (at site first registers s.world)

      goes : ((after : State) (new : Registers) → IsTidy (live_at deep) after.world → Agrees count after new → length after.world.memory.live ≡ site.base + target.objects
          → Lands code deep count true site target (Going (at site (first + t.size) new after.world)) end 0 (in_order ds after))
          → (o : Outcome Flow) → Reached (live_at deep) o → Lands code deep count true site target from (first + t.size) 0 o → Lands code deep count true site target from end 0 (follow o (unless_left (in_order ds)))
      goes more (Goes Normal after) clean here =
          lands_from code deep count true site target from (Going (at site (first + t.size) here.registers after.world)) end 0 (in_order ds after) here.reaches here.stays
          (more after here.registers clean here.agrees (here.live_are ∙ (let e : site.base + (target.objects + 0) ≡ site.base + target.objects = omega arith in e)))
      goes more (Goes Broke after) clean here = here
      goes more (Goes Continued after) clean here = here
      goes more (Goes (Returned v) after) clean here = here
      goes more (Stops end_ w) clean here = here

  -- the statements of parts, all of them and those behind the default
  plain_parts : (ds : List PartDoing) (ts : List PartLowered) → PartsPerform ds ts → AllPlain (part_of.statements_of ds) (statements_of ts)
  plain_parts _ _ no_parts = tt
  plain_parts _ _ (a_case p z ds ts all) = plain_parts ds ts all
  plain_parts _ _ (a_default ds ts all) = plain_parts ds ts all
  plain_parts _ _ (a_statement d t ds ts is opens ends all) = (is, opens, ends, plain_parts ds ts all)

  -- and their jumps are those of their code
  plain_jumps : (ds : List Doing) (ts : List Stretch) → AllPlain ds ts → jumps_of_all ds ≡ (lowered_order ts).jumps
  plain_jumps [] [] all = refl
  plain_jumps (d ∷ ds) [] all = absurd all
  plain_jumps [] (t ∷ ts) all = absurd all
  plain_jumps (d ∷ ds) (t ∷ ts) all = (λ i. jumps_of_both (all.0.jumps i) (plain_jumps ds ts all.3 i)) ∙ sym (ap (λ (x : Stretch). x.jumps) (first_is t ts all.1))

  pub parts_jumps : (ds : List PartDoing) (ts : List PartLowered) → PartsPerform ds ts → jumps_of_all (part_of.statements_of ds) ≡ (lowered_order (statements_of ts)).jumps
  parts_jumps ds ts all = plain_jumps (part_of.statements_of ds) (statements_of ts) (plain_parts ds ts all)

  -- THE STATEMENTS of a switch, of which a `break` goes to this end
  module _ (site : Site) (target : stretches.Site) (end : ℕ) where
    -- the place that is told to them
    abbrev breaking : stretches.Site
    breaking = record target { breaks = end }

    -- the flow of the statements becomes that of the switch
    behind_lands : (from : Run) (o : Outcome Flow) → Lands code deep count true site breaking from end 0 o → Lands code deep count true site target from end 0 (follow o (λ flow. gives (behind_switch flow)))
    behind_lands from (Goes Normal s) here = here
    behind_lands from (Goes Broke s) here =
        subst (λ n. Here code deep count site from end n s) (let e : site.base + target.objects ≡ site.base + (target.objects + 0) = omega arith in e) here
    behind_lands from (Goes Continued s) here = here
    behind_lands from (Goes (Returned v) s) here = here
    behind_lands from (Stops end_ w) here = here

    -- those of these parts lead where they should, from this instruction on
    chosen_lands : (ds : List PartDoing) (ts : List PartLowered) → PartsPerform ds ts → (first : ℕ) (s : State) (registers : Registers) → first + (lowered_order (statements_of ts)).size ≡ end
        → HasAt code first ((lowered_order (statements_of ts)).code breaking first) → Agrees count s registers → IsTidy (live_at deep) s.world → length s.world.memory.live ≡ site.base + target.objects
        → Lands code deep count true site target (Going (at site first registers s.world)) end 0 (runs_chosen (part_of.statements_of ds) s)
    chosen_lands ds ts all first s registers ends has agrees tidy live_are =
        behind_lands (Going (at site first registers s.world)) (in_order (part_of.statements_of ds) s)
        (plain_lands (part_of.statements_of ds) (statements_of ts) (plain_parts ds ts all) site breaking first end s registers ends has agrees tidy live_are)

    -- THOSE BEHIND THE DEFAULT
    default_lands : (ds : List PartDoing) (ts : List PartLowered) → PartsPerform ds ts → (first : ℕ) (s : State) (registers : Registers) → first + (lowered_order (statements_of ts)).size ≡ end
        → HasAt code first ((lowered_order (statements_of ts)).code breaking first) → Agrees count s registers → IsTidy (live_at deep) s.world → length s.world.memory.live ≡ site.base + target.objects
        → Lands code deep count true site target (Going (at site (first + before_default ts) registers s.world)) end 0 (runs_chosen (behind_default ds) s)
    default_lands _ _ no_parts first s registers ends has agrees tidy live_are =
        subst (λ n. Lands code deep count true site target (Going (at site n registers s.world)) end 0 (runs_chosen [] s)) (let e : first ≡ first + 0 = omega arith in e)
        (chosen_lands [] [] no_parts first s registers ends has agrees tidy live_are)
    default_lands _ _ (a_case p z ds ts all) first s registers ends has agrees tidy live_are = default_lands ds ts all first s registers ends has agrees tidy live_are
    default_lands _ _ (a_default ds ts all) first s registers ends has agrees tidy live_are =
        subst (λ n. Lands code deep count true site target (Going (at site n registers s.world)) end 0 (runs_chosen (part_of.statements_of ds) s)) (let e : first ≡ first + 0 = omega arith in e)
        (chosen_lands ds ts all first s registers ends has agrees tidy live_are)
    default_lands _ _ (a_statement d t ds ts is opens own all) first s registers ends has agrees tidy live_are =
        subst (λ n. Lands code deep count true site target (Going (at site n registers s.world)) end 0 (runs_chosen (behind_default ds) s))
        (let e : (first + t.size) + before_default ts ≡ first + (t.size + before_default ts) = omega arith in e)
        (default_lands ds ts all (first + t.size) s registers
        (let whole : (lowered_order (t ∷ statements_of ts)).size ≡ t.size + (lowered_order (statements_of ts)).size = size_is t (statements_of ts) opens in
        let e : (first + t.size) + (lowered_order (statements_of ts)).size ≡ end = omega (arith, whole, ends) in e)
        (rest_has t (statements_of ts) opens is.sized breaking first has).1 agrees tidy live_are)

    -- THE CASES
    module _ (kind : Kind) (o : Operand) (a : Arg) (default : List Doing) where
      abbrev compared : ℤ → Place → Part Operand
      compared z p = computes program class.Simple p (act.Binary Eq kind) (o ∷ Constant (value_of.Number z) ∷ [])

      -- a comparison of what stands in the first temporary, or is a number or a variable, with a number
      compares_follow : (z : ℤ) (p : Place) → Follows code deep count (count + 1) (λ new. Same count count new o a) (compared z p) (sets program p (λ to. do_.Binary Eq kind a (Number z) to) (count + 1))
          (λ v b new. Same count (count + 1) new v b × Same count count new o a)
      unfolding operation_of operands behind register_set
      compares_follow z p = kept (compared z p) (sets program p (λ to. do_.Binary Eq kind a (Number z) to) (count + 1))
          (computes_follow code deep count (count + 1) (λ new. Same count count new o a) program p class.Simple (act.Binary Eq kind) (o ∷ Constant (value_of.Number z) ∷ [])
          (λ to. do_.Binary Eq kind a (Number z) to) (omega arith) refl
          (λ s registers agrees same. ap (λ x. x ∷ read s (Constant (value_of.Number z)) ∷ []) (reads_same count count count registers s o a same agrees)) (λ held c. refl))
        where
          kept : (part : Part Operand) (piece : Piece Arg) → Follows code deep count (count + 1) (λ new. Same count count new o a) part piece (λ v b new. Same count (count + 1) new v b)
              → Follows code deep count (count + 1) (λ new. Same count count new o a) part piece (λ v b new. Same count (count + 1) new v b × Same count count new o a)
          kept part piece follows site first s registers has agrees same = by (part s) (follows site first s registers has agrees same)
            where
              by : (x : Outcome Operand) → Leads code deep count site (Going (at site first registers s.world)) (first + piece.size) (count + 1) registers (λ v new. Same count (count + 1) new v piece.gives) x
                  → Leads code deep count site (Going (at site first registers s.world)) (first + piece.size) (count + 1) registers (λ v new. Same count (count + 1) new v piece.gives × Same count count new o a) x
              by (Goes v t) leads = (leads.0, leads.1, leads.2, leads.3, (leads.4, same_kept count count registers leads.0 o a (omega arith) leads.3 same), leads.5)
              by (Stops end_ w) leads = leads

      cases_land : (ds : List PartDoing) (ts : List PartLowered) → PartsPerform ds ts → (stands first : ℕ) (s : State) (registers : Registers) → stands + (lowered_order (statements_of ts)).size ≡ end
          → HasAt code stands ((lowered_order (statements_of ts)).code breaking stands) → HasAt code first (cases_code program kind count a ts stands first)
          → (has_case ts ≡ true → Same count count registers o a) → Agrees count s registers → IsTidy (live_at deep) s.world → length s.world.memory.live ≡ site.base + target.objects
          → ((t : State) (new : Registers) → Agrees count t new → IsTidy (live_at deep) t.world → length t.world.memory.live ≡ site.base + target.objects
          → Lands code deep count true site target (Going (at site (first + cases_size ts) new t.world)) end 0 (runs_chosen default t))
          → Lands code deep count true site target (Going (at site first registers s.world)) end 0 (follow (chooses program kind o default ds s) runs_chosen)
      cases_land _ _ no_parts stands first s registers ends has cases same agrees tidy live_are otherwise =
          subst (λ n. Lands code deep count true site target (Going (at site n registers s.world)) end 0 (runs_chosen default s)) (let e : first + 0 ≡ first = omega arith in e) (otherwise s registers agrees tidy live_are)
      cases_land _ _ (a_default ds ts all) stands first s registers ends has cases same agrees tidy live_are otherwise =
          cases_land ds ts all stands first s registers ends has cases same agrees tidy live_are otherwise
      cases_land _ _ (a_statement d t ds ts is opens own all) stands first s registers ends has cases same agrees tidy live_are otherwise =
          cases_land ds ts all (stands + t.size) first s registers
          (let whole : (lowered_order (t ∷ statements_of ts)).size ≡ t.size + (lowered_order (statements_of ts)).size = size_is t (statements_of ts) opens in
          let e : (stands + t.size) + (lowered_order (statements_of ts)).size ≡ end = omega (arith, whole, ends) in e)
          (rest_has t (statements_of ts) opens is.sized breaking stands has).1 cases same agrees tidy live_are otherwise
      cases_land _ _ (a_case q y ds ts all) stands first s registers ends has cases same agrees tidy live_are otherwise =
          subst (λ (x : Outcome Flow). Lands code deep count true site target from end 0 x)
          (sym (follow_both (selects program kind q y o s) choice runs_chosen ∙ follow_both (compared y q s) (λ v. makes program class.Select q act.Test (v ∷ [])) (λ select. choice select >>= runs_chosen)))
          (value_lands code deep count program true site target (count + 1) (λ new. Same count count new o a) (compared y q) (sets program q (λ to. do_.Binary Eq kind a (Number y) to) (count + 1))
          (λ v b new. Same count (count + 1) new v b × Same count count new o a) (compares_follow y q) (computes_keeps program class.Simple q (act.Binary Eq kind) (o ∷ Constant (value_of.Number y) ∷ []))
          first end 0 s registers (cases.0, tt) agrees (same refl) tidy (λ v. makes program class.Select q act.Test (v ∷ []) >>= λ select. choice select >>= runs_chosen)
          (λ v t new agree sames clean control_t live_t left_t.
          test_lands code deep count program true site target class.Select q v (Reg (count + 1) false) stands (first + 2) (first + (1 + 0)) end 0 t new
          (moved code (first + 1) (first + (1 + 0)) (instruction program q (do_.Test (Reg (count + 1) false) stands (first + 2) None class.Select) ∷ []) (omega arith) (cases.1.0, tt))
          (ap (λ x. x ∷ []) (reads_same count (count + 1) (count + 1) new t v (Reg (count + 1) false) sames.0 agree)) clean (λ select. choice select >>= runs_chosen)
          (λ held w tested_it. by_truth (cases_land ds ts all stands (first + 2)) held t w new (is_true held.value) refl tested_it agree sames.1 (live_t ∙ live_are))))
        where
          from : Run
          from = Going (at site first registers s.world)

          choice : Held → Part (List Doing)
          choice select = if holds select then gives (part_of.statements_of ds) else chooses program kind o default ds

          by_truth : ((s : State) (registers : Registers) → stands + (lowered_order (statements_of ts)).size ≡ end
              → HasAt code stands ((lowered_order (statements_of ts)).code breaking stands) → HasAt code (first + 2) (cases_code program kind count a ts stands (first + 2))
              → (has_case ts ≡ true → Same count count registers o a) → Agrees count s registers → IsTidy (live_at deep) s.world → length s.world.memory.live ≡ site.base + target.objects
              → ((t : State) (new : Registers) → Agrees count t new → IsTidy (live_at deep) t.world → length t.world.memory.live ≡ site.base + target.objects
              → Lands code deep count true site target (Going (at site ((first + 2) + cases_size ts) new t.world)) end 0 (runs_chosen default t))
              → Lands code deep count true site target (Going (at site (first + 2) registers s.world)) end 0 (follow (chooses program kind o default ds s) runs_chosen))
              → (held : Held) (t : State) (w : World) (new : Registers) (b : Bool) → is_true held.value ≡ b → Tested (live_at deep) t.world held w → Agrees count t new → Same count count new o a
              → length t.world.memory.live ≡ site.base + target.objects
              → Lands code deep count true site target (Going (at site (if is_true held.value then stands else first + 2) new w)) end 0 (follow (choice held (record t { world = w })) runs_chosen)
          by_truth more held t w new true is tested_it agree same live_t =
              subst (λ (b : Bool). Lands code deep count true site target (Going (at site (if b then stands else first + 2) new w)) end 0
              (follow ((if b then gives (part_of.statements_of ds) else chooses program kind o default ds) (record t { world = w })) runs_chosen)) (sym is)
              (chosen_lands ds ts all stands (record t { world = w }) new ends has (record { length_is = agree.length_is; hold = agree.hold }) tested_it.tidy
              (live_behind code deep count program t.world w tested_it.fewer ∙ live_t))
          by_truth more held t w new false is tested_it agree same live_t =
              subst (λ (b : Bool). Lands code deep count true site target (Going (at site (if b then stands else first + 2) new w)) end 0
              (follow ((if b then gives (part_of.statements_of ds) else chooses program kind o default ds) (record t { world = w })) runs_chosen)) (sym is)
              (more (record t { world = w }) new ends has (moved code (first + 1 + 1) (first + 2) (cases_code program kind count a ts stands (first + 2)) (omega arith) cases.1.1) (λ some. same)
              (record { length_is = agree.length_is; hold = agree.hold }) tested_it.tidy (live_behind code deep count program t.world w tested_it.fewer ∙ live_t)
              (λ x after agree_x clean_x live_x.
              subst (λ n. Lands code deep count true site target (Going (at site n after x.world)) end 0 (runs_chosen default x)) (let e : first + (2 + cases_size ts) ≡ (first + 2) + cases_size ts = omega arith in e)
              (otherwise x after agree_x clean_x live_x)))

    -- THE JUMP TO THE DEFAULT
    skip_reaches : (n first : ℕ) (w : World) (registers : Registers) → HasAt code first (skips program place n first)
        → Reaches code (Going (at site first registers w)) (Going (at site (first + skips_size n + n) registers w))
    skip_reaches zero first w registers has = (0, ap (λ k. Going (at site k registers w)) (let e : first ≡ first + 0 + 0 = omega arith in e))
    skip_reaches (suc n) first w registers has = jump_reaches code site first w registers program place (first + 1 + suc n) has

  skips_long : (n first : ℕ) → length (skips program place n first) ≡ skips_size n
  skips_long zero first = refl
  skips_long (suc n) first = refl

  cases_long : (kind : Kind) (a : Arg) (ds : List PartDoing) (ts : List PartLowered) → PartsPerform ds ts → (stands first : ℕ) → length (cases_code program kind count a ts stands first) ≡ cases_size ts
  cases_long kind a _ _ no_parts stands first = refl
  cases_long kind a _ _ (a_case p z ds ts all) stands first =
      (let rest : length (cases_code program kind count a ts stands (first + 2)) ≡ cases_size ts = cases_long kind a ds ts all stands (first + 2) in omega (arith, rest))
  cases_long kind a _ _ (a_default ds ts all) stands first = cases_long kind a ds ts all stands first
  cases_long kind a _ _ (a_statement d t ds ts is opens own all) stands first = cases_long kind a ds ts all (stands + t.size) first

  -- both have a case, or neither has
  pub cases_same : (ds : List PartDoing) (ts : List PartLowered) → PartsPerform ds ts → part_of.has_case ds ≡ has_case ts
  cases_same _ _ no_parts = refl
  cases_same _ _ (a_case p z ds ts all) = refl
  cases_same _ _ (a_default ds ts all) = cases_same ds ts all
  cases_same _ _ (a_statement d t ds ts is opens own all) = cases_same ds ts all

  -- THE WHOLE, behind its value
  module _ (kind : Kind) (ds : List PartDoing) (ts : List PartLowered) (all : PartsPerform ds ts) (part : Part Operand) (on : Piece Arg)
      (follows : Follows code deep count count Always part on (λ o a new. IfUsed (has_case ts) count count o a new)) (keeps : Keeps part) (sized : IsSized on) where
    abbrev whole : Stretch
    whole = code_of.switches program place kind count ts on

    abbrev body_of : Stretch
    body_of = lowered_order (statements_of ts)

    module _ (target : stretches.Site) (first : ℕ) where
      abbrev cases_at : ℕ
      cases_at = first + on.size

      abbrev skips_at : ℕ
      skips_at = first + on.size + cases_size ts

      abbrev body_at : ℕ
      body_at = first + on.size + cases_size ts + skips_size (before_default ts)

      abbrev cases_here : List Instr
      cases_here = cases_code program kind count on.gives ts body_at cases_at

      abbrev skips_here : List Instr
      skips_here = skips program place (before_default ts) skips_at

      front_long : length (on.code first ++ cases_here) ≡ on.size + cases_size ts
      front_long = both_long (on.code first) cases_here on.size (cases_size ts) (sized first) (cases_long kind on.gives ds ts all body_at cases_at)

      middle_long : length (on.code first ++ cases_here ++ skips_here) ≡ on.size + cases_size ts + skips_size (before_default ts)
      middle_long = both_long (on.code first ++ cases_here) skips_here (on.size + cases_size ts) (skips_size (before_default ts)) front_long (skips_long (before_default ts) skips_at)

      body_long : length (statements_code program place ts target body_at) ≡ body_of.size
      body_long = plain_sized (part_of.statements_of ds) (statements_of ts) (plain_parts ds ts all) (record target { breaks = body_at + body_of.size }) body_at

      pub switches_long : length (whole.code target first) ≡ whole.size
      switches_long = both_long (on.code first ++ cases_here ++ skips_here) (statements_code program place ts target body_at) (on.size + cases_size ts + skips_size (before_default ts)) body_of.size middle_long body_long

      -- what the code has
      record SwitchHas : Type 0 where
        valued : HasAt code first (on.code first)
        choosing : HasAt code cases_at cases_here
        skipping : HasAt code skips_at skips_here
        own : HasAt code body_at (statements_code program place ts target body_at)

      switch_has : HasAt code first (whole.code target first) → SwitchHas
      switch_has has =
          let a = split code first (on.size + cases_size ts + skips_size (before_default ts)) (on.code first ++ cases_here ++ skips_here) (statements_code program place ts target body_at) middle_long has in
          let b = split code first (on.size + cases_size ts) (on.code first ++ cases_here) skips_here front_long a.0 in
          let c = split code first on.size (on.code first) cases_here (sized first) b.0 in
          record {
            valued = c.0;
            choosing = c.1;
            skipping = moved code (first + (on.size + cases_size ts)) skips_at skips_here (omega arith) b.1;
            own = moved code (first + (on.size + cases_size ts + skips_size (before_default ts))) body_at (statements_code program place ts target body_at) (omega arith) a.1;
          }

    pub switches_sized : StretchIsSized whole
    switches_sized target first = switches_long target first

    pub switches_lie : Lies code deep count true (part >>= switches program kind ds) whole
    switches_lie site target first s registers has agrees tidy live_are =
        value_lands code deep count program true site target count Always part on (λ o a new. IfUsed (has_case ts) count count o a new) follows keeps first next 0 s registers (switch_has target first has).valued
        agrees tt tidy (switches program kind ds)
        (λ o t new agree same clean control_t live_t left_t.
        cases_land site target next kind o on.gives (behind_default ds) ds ts all (body_at target first) (cases_at target first) t new ends (placed (switch_has target first has).own)
        (switch_has target first has).choosing same agree clean (live_t ∙ live_are)
        (λ x after agree_x clean_x live_x.
        lands_from code deep count true site target (Going (at site (skips_at target first) after x.world)) (Going (at site (body_at target first + before_default ts) after x.world)) next 0 (runs_chosen (behind_default ds) x)
        (skip_reaches site target next (before_default ts) (skips_at target first) x.world after (switch_has target first has).skipping) (stays_itself site.base x.world)
        (default_lands site target next ds ts all (body_at target first) x after ends (placed (switch_has target first has).own) agree_x clean_x live_x)))
      where
        next : ℕ
        next = first + (on.size + cases_size ts + skips_size (before_default ts) + body_of.size)

        ends : body_at target first + body_of.size ≡ next
        ends = omega arith

        placed : HasAt code (body_at target first) (statements_code program place ts target (body_at target first)) → HasAt code (body_at target first) (body_of.code (breaking site target next) (body_at target first))
        placed own = subst (λ n. HasAt code (body_at target first) (body_of.code (record target { breaks = n }) (body_at target first))) ends own
