-- Statements one behind another, and blocks: what is declared in them is closed at one place.
use Rattle.std.proofs.Common.{ℕ, zero, suc, ◌≡◌, ◌+◌, ◌-◌, ◌≤◌, Bool, true, false, ◌||◌, List, [], ◌∷◌, ◌++◌, length, nat_eq, replicate, slice_get, Option, None, refl, sym, subst, ap, ◌∙◌, arith}
use Rattle.std.proofs.lemmas.List.{length-append}
use Rattle.k_num.specs.declared.place.Place.{Place}
use Rattle.k_marks_meaning.specs.declared.jumps.Jumps.{Jumps}
use Rattle.k_optab.specs.declared.event.Event.TheVariants as event
use Rattle.k_marks_meaning.specs.Jumps.{is_left, no_jumps, jumps_of_both}
use Rattle.k_world.specs.declared.value.Held.{Held}
use Rattle.k_world.specs.Changes.{objects_kept}
use Rattle.k_world.specs.Worlds.{World}
use Rattle.k_code.specs.declared.code.Code.{Code}
use Rattle.k_code.specs.declared.instruction.Do.{Do}
use Rattle.k_code.specs.declared.instruction.Do.TheVariants as do_
use Rattle.k_code.specs.declared.instruction.Instr.{Instr}
use Rattle.k_code.specs.Runs.{world_of}
use Rattle.k_code.specs.Steps.{Run, Going, operation_of, alone, handed_back, size_of}
use Rattle.k_evaluation.specs.declared.flow.Flow.{Flow}
use Rattle.k_evaluation.specs.declared.flow.Flow.TheVariants.{Normal, Broke, Continued, Returned}
use Rattle.k_evaluation.specs.Flows.{Doing, goes_on, unless_left, in_order, jumps_of_all}
use Rattle.k_evaluation_control.proofs.Kept.{Keeps, Leaves}
use Rattle.k_evaluation.specs.Objects.{live, keeps, block}
use Rattle.k_evaluation.specs.States.{Program, State, Outcome, Goes, Stops, Part, follow, ◌>>=◌, gives}
use Rattle.k_evaluation_control.specs.Laws.{IsTidy}
use Rattle.k_evaluation_control.proofs.Ends.{Ends, EndsAs, DoingEnds, AllEnd, in_order_ends, gives_ends, ends_more}
use Rattle.k_lower_code.specs.Pieces.{instruction}
use Rattle.k_lower_code.specs.Stretches as stretches
use Rattle.k_lower_code.specs.Stretches.{Stretch, nothing_done, behind, behind_objects, pad_size, pad, over_size, over, pads_size, pads, to_pads, closed, without_objects, followed_by}
use Rattle.k_lower_runs.proofs.Instructions.{alone_steps}
use Rattle.k_lower_runs.proofs.Leads.{Registers, Site, at, live_at, Agrees, HasAt, Reaches, has_first, has_rest, reaches_both}
use Rattle.k_world_laws.proofs.Kept.{keeping_fewer}
use Rattle.k_lower_flows.proofs.Landing.{handed, Reached, ends_reached, both_long, moved, split, stays_itself, stays_both, stays_kept, kept_length, Returns, Here, Closed, Lands, Lies, Performs, lands_from, here_closed}

-- a stretch has as many instructions as it says
abbrev pub StretchIsSized : Stretch → Type 0
StretchIsSized t = (target : stretches.Site) (first : ℕ) → length (t.code target first) ≡ t.size

module _ (code : Code) where
  -- A JUMP leads to its target
  pub jump_reaches : (site : Site) (first : ℕ) (w : World) (registers : Registers) (program : Program) (place : Place) (to : ℕ)
      → HasAt code first (instruction program place (do_.Jump to) ∷ []) → Reaches code (Going (at site first registers w)) (Going (at site to registers w))
  unfolding alone operation_of
  jump_reaches site first w registers program place to has = (suc zero, alone_steps code site first w registers program place (do_.Jump to) has refl)

  -- where there are pads, the jump over them leads behind them; where there are none, that is here
  pub over_reaches : (site : Site) (first : ℕ) (w : World) (registers : Registers) (program : Program) (place : Place) (b : Bool) (to : ℕ)
      → HasAt code first (over program place b to) → (b ≡ false → first ≡ to) → Reaches code (Going (at site first registers w)) (Going (at site to registers w))
  over_reaches site first w registers program place false to has here = (0, ap (λ n. Going (at site n registers w)) (here refl))
  over_reaches site first w registers program place true to has here = jump_reaches site first w registers program place to has

  -- the newest objects are closed
  pub close_reaches : (site : Site) (first : ℕ) (w : World) (registers : Registers) (program : Program) (place : Place) (n : ℕ)
      → HasAt code first (instruction program place (do_.ObjectsClose n) ∷ [])
      → Reaches code (Going (at site first registers w)) (Going (at site (first + 1) registers (objects_kept w (length w.memory.live - n))))
  unfolding alone operation_of
  close_reaches site first w registers program place n has = (suc zero, alone_steps code site first w registers program place (do_.ObjectsClose n) has refl)

  -- so that fewer are kept
  kept_again : (w : World) (n low : ℕ) → low + n ≤ length w.memory.live → objects_kept (objects_kept w (low + n)) (length (objects_kept w (low + n)).memory.live - n) ≡ objects_kept w low
  kept_again w n low enough =
      ap (λ k. objects_kept (objects_kept w (low + n)) k) (let long : length (objects_kept w (low + n)).memory.live ≡ low + n = kept_length w (low + n) enough in
      let e : length (objects_kept w (low + n)).memory.live - n ≡ low = omega (arith, long) in e)
      ∙ keeping_fewer w (low + n) low (omega arith)

  module _ (deep count : ℕ) where
    -- closing leads from the text's end, or from a pad, to where fewer objects are kept
    close_closes : (site : Site) (from : Run) (pc low n : ℕ) (s : State) (program : Program) (place : Place)
        → HasAt code pc (instruction program place (do_.ObjectsClose n) ∷ []) → Closed code deep count site from pc (site.base + (low + n)) s
        → Closed code deep count site from (pc + 1) (site.base + low) s
    close_closes site from pc low n s program place has lands = record {
      registers = lands.registers;
      reaches = reaches_both code from (Going (at site pc lands.registers (objects_kept s.world (site.base + (low + n))))) _ lands.reaches
          (subst (λ w. Reaches code (Going (at site pc lands.registers (objects_kept s.world (site.base + (low + n))))) (Going (at site (pc + 1) lands.registers w)))
          (ap (λ k. objects_kept (objects_kept s.world k) (length (objects_kept s.world k).memory.live - n)) (let e : site.base + (low + n) ≡ (site.base + low) + n = omega arith in e)
          ∙ kept_again s.world n (site.base + low) (let enough : site.base + (low + n) ≤ length s.world.memory.live = lands.enough in omega (arith, enough)))
          (close_reaches site pc (objects_kept s.world (site.base + (low + n))) lands.registers program place n has));
      agrees = lands.agrees;
      enough = (let enough : site.base + (low + n) ≤ length s.world.memory.live = lands.enough in omega (arith, enough));
      stays = lands.stays;
    }

    -- a pad closes and jumps on
    pad_closes : (site : Site) (from : Run) (pc low n to : ℕ) (s : State) (program : Program) (place : Place) (b : Bool) → b ≡ true
        → HasAt code pc (pad program place (do_.ObjectsClose n) b to) → Closed code deep count site from pc (site.base + (low + n)) s → Closed code deep count site from to (site.base + low) s
    pad_closes site from pc low n to s program place false is has lands = absurd (cc is)
    pad_closes site from pc low n to s program place true is has lands =
        let there = close_closes site from pc low n s program place (has.0, tt) lands in record {
          registers = there.registers;
          reaches = reaches_both code from (Going (at site (pc + 1) there.registers (objects_kept s.world (site.base + low)))) _ there.reaches
              (jump_reaches site (pc + 1) (objects_kept s.world (site.base + low)) there.registers program place to has.1);
          agrees = there.agrees;
          enough = there.enough;
          stays = there.stays;
        }

    -- the jump over the pads
    over_closes : (site : Site) (from : Run) (pc live to : ℕ) (s : State) (program : Program) (place : Place) (b : Bool) → HasAt code pc (over program place b to) → (b ≡ false → pc ≡ to)
        → Closed code deep count site from pc live s → Closed code deep count site from to live s
    over_closes site from pc live to s program place b has here lands = record {
      registers = lands.registers;
      reaches = reaches_both code from (Going (at site pc lands.registers (objects_kept s.world live))) _ lands.reaches (over_reaches site pc (objects_kept s.world live) lands.registers program place b to has here);
      agrees = lands.agrees;
      enough = lands.enough;
      stays = lands.stays;
    }

    pad_length : (program : Program) (place : Place) (act : Do) (b : Bool) (to : ℕ) → length (pad program place act b to) ≡ pad_size b
    pad_length program place act false to = refl
    pad_length program place act true to = refl

    over_length : (program : Program) (place : Place) (b : Bool) (to : ℕ) → length (over program place b to) ≡ over_size b
    over_length program place false to = refl
    over_length program place true to = refl

    no_pads : (j : Jumps) → (j.breaks || j.continues) ≡ false → pads_size j ≡ 0
    no_pads j none = by j.breaks j.continues none
      where
        by : (b c : Bool) → (b || c) ≡ false → over_size (b || c) + pad_size b + pad_size c ≡ 0
        by false false is = refl
        by false true is = absurd (cc is)
        by true c is = absurd (cc is)

    -- A TEXT THAT IS CLOSED AT ITS END leads where it led, with fewer objects
    module _ (program : Program) (part : Part Flow) (text : Stretch) (sized : StretchIsSized text) (n : ℕ) where
      abbrev act : Do
      act = do_.ObjectsClose n

      abbrev jumped : Bool
      jumped = text.jumps.breaks || text.jumps.continues

      abbrev over_pads : ℕ → List Instr
      over_pads at_ = over program text.place jumped (at_ + pads_size text.jumps)

      abbrev break_pad : stretches.Site → List Instr
      break_pad target = pad program text.place act text.jumps.breaks target.breaks

      abbrev continue_pad : stretches.Site → List Instr
      continue_pad target = pad program text.place act text.jumps.continues target.continues

      over_break_long : (target : stretches.Site) (at_ : ℕ) → length (over_pads at_ ++ break_pad target) ≡ over_size jumped + pad_size text.jumps.breaks
      over_break_long target at_ = both_long (over_pads at_) (break_pad target) (over_size jumped) (pad_size text.jumps.breaks)
          (over_length program text.place jumped (at_ + pads_size text.jumps)) (pad_length program text.place act text.jumps.breaks target.breaks)

      pads_long : (target : stretches.Site) (at_ : ℕ) → length (pads program text.place act text.jumps target at_) ≡ pads_size text.jumps
      pads_long target at_ = both_long (over_pads at_ ++ break_pad target) (continue_pad target) (over_size jumped + pad_size text.jumps.breaks) (pad_size text.jumps.continues)
          (over_break_long target at_) (pad_length program text.place act text.jumps.continues target.continues)

      -- the text itself, as it stands here
      abbrev own : stretches.Site → ℕ → List Instr
      own target first = text.code (to_pads text.jumps (first + text.size) target) first

      own_long : (target : stretches.Site) (first : ℕ) → length (own target first ++ pads program text.place act text.jumps target (first + text.size)) ≡ text.size + pads_size text.jumps
      own_long target first = both_long (own target first) (pads program text.place act text.jumps target (first + text.size)) text.size (pads_size text.jumps)
          (sized (to_pads text.jumps (first + text.size) target) first) (pads_long target (first + text.size))

      pub closed_sized : StretchIsSized (closed program act text)
      closed_sized target first = both_long (own target first ++ pads program text.place act text.jumps target (first + text.size)) (instruction program text.place act ∷ [])
          (text.size + pads_size text.jumps) 1 (own_long target first) refl

      -- the text's target, of which the objects are these and n more
      abbrev inner : stretches.Site → ℕ → stretches.Site
      inner target at_ = to_pads text.jumps at_ (behind_objects n target)

      -- the pads, and the closing instruction behind them
      record HasPads (target : stretches.Site) (at_ : ℕ) : Type 0 where
        over : HasAt code at_ (over_pads at_)
        breaks : HasAt code (at_ + over_size jumped) (break_pad target)
        continues : HasAt code (at_ + (over_size jumped + pad_size text.jumps.breaks)) (continue_pad target)
        closes : HasAt code (at_ + pads_size text.jumps) (instruction program text.place act ∷ [])

      has_pads : (target : stretches.Site) (at_ : ℕ) → HasAt code at_ (pads program text.place act text.jumps (behind_objects n target) at_)
          → HasAt code (at_ + pads_size text.jumps) (instruction program text.place act ∷ []) → HasPads target at_
      has_pads target at_ has closes =
          let all = split code at_ (over_size jumped + pad_size text.jumps.breaks) (over_pads at_ ++ break_pad target) (continue_pad target) (over_break_long target at_) has in
          let front = split code at_ (over_size jumped) (over_pads at_) (break_pad target) (over_length program text.place jumped (at_ + pads_size text.jumps)) all.0 in
          record { over = front.0; breaks = front.1; continues = all.1; closes = closes }

      lands_closed : (site : Site) (target : stretches.Site) (from : Run) (at_ : ℕ) → HasPads target at_
          → (o : Outcome Flow) → EndsAs (live_at deep) ⊥ text.jumps None o → Lands code deep count false site (inner target at_) from at_ 0 o
          → Lands code deep count false site target from (at_ + (pads_size text.jumps + 1)) 0 o
      lands_closed site target from at_ has (Stops end w) allowed lands = lands
      lands_closed site target from at_ has (Goes (Returned v) s) allowed lands = lands
      lands_closed site target from at_ has (Goes Normal s) allowed lands =
          subst (λ pc. Closed code deep count site from pc (site.base + (target.objects + 0)) s) (let e : (at_ + pads_size text.jumps) + 1 ≡ at_ + (pads_size text.jumps + 1) = omega arith in e)
          (subst (λ k. Closed code deep count site from ((at_ + pads_size text.jumps) + 1) (site.base + k) s) (let e : target.objects ≡ target.objects + 0 = omega arith in e)
          (close_closes site from (at_ + pads_size text.jumps) target.objects n s program text.place has.closes
          (over_closes site from at_ (site.base + (target.objects + n)) (at_ + pads_size text.jumps) s program text.place jumped has.over
          (λ none. (let none_there : pads_size text.jumps ≡ 0 = no_pads text.jumps none in let e : at_ ≡ at_ + pads_size text.jumps = omega (arith, none_there) in e))
          (subst (λ k. Closed code deep count site from at_ (site.base + k) s) (let e : (target.objects + n) + 0 ≡ target.objects + n = omega arith in e) lands))))
      lands_closed site target from at_ has (Goes Broke s) allowed lands =
          pad_closes site from (at_ + over_size jumped) target.objects n target.breaks s program text.place text.jumps.breaks allowed.1 has.breaks lands
      lands_closed site target from at_ has (Goes Continued s) allowed lands =
          pad_closes site from (at_ + (over_size jumped + pad_size text.jumps.breaks)) target.objects n target.continues s program text.place text.jumps.continues allowed.1 has.continues
          (subst (λ pc. Closed code deep count site from pc (site.base + (target.objects + n)) s)
          (let e : (at_ + over_size jumped) + pad_size text.jumps.breaks ≡ at_ + (over_size jumped + pad_size text.jumps.breaks) = omega arith in e) lands)

      -- the closed text follows the part that the text follows
      pub closed_lies : Ends ⊥ text.jumps part → Lies code deep count false part text
          → (site : Site) (target : stretches.Site) (first : ℕ) (s : State) (registers : Registers)
          → HasAt code first ((closed program act text).code (behind_objects n target) first) → Agrees count s registers → IsTidy (live_at deep) s.world → length s.world.memory.live ≡ site.base + (target.objects + n)
          → text.opens ≡ 0
          → Lands code deep count false site target (Going (at site first registers s.world)) (first + (closed program act text).size) 0 (part s)
      closed_lies ends lies site target first s registers has agrees tidy live_are opens =
          subst (λ pc. Lands code deep count false site target (Going (at site first registers s.world)) pc 0 (part s))
          (let e : (first + text.size) + (pads_size text.jumps + 1) ≡ first + (text.size + pads_size text.jumps + 1) = omega arith in e)
          (lands_closed site target (Going (at site first registers s.world)) (first + text.size)
          (has_pads target (first + text.size) front.1
          (moved code (first + (text.size + pads_size text.jumps)) ((first + text.size) + pads_size text.jumps) (instruction program text.place act ∷ []) (omega arith) whole.1))
          (part s) (any_control (part s) (ends.ends (live_at deep) s tidy))
          (subst (λ k. Lands code deep count false site (inner target (first + text.size)) (Going (at site first registers s.world)) (first + text.size) k (part s)) opens
          (lies site (inner target (first + text.size)) first s registers front.0 agrees tidy live_are)))
        where
          whole : HasAt code first (own (behind_objects n target) first ++ pads program text.place act text.jumps (behind_objects n target) (first + text.size))
              × HasAt code (first + (text.size + pads_size text.jumps)) (instruction program text.place act ∷ [])
          whole = split code first (text.size + pads_size text.jumps) (own (behind_objects n target) first ++ pads program text.place act text.jumps (behind_objects n target) (first + text.size))
              (instruction program text.place act ∷ []) (own_long (behind_objects n target) first) has

          front : HasAt code first (own (behind_objects n target) first) × HasAt code (first + text.size) (pads program text.place act text.jumps (behind_objects n target) (first + text.size))
          front = split code first text.size (own (behind_objects n target) first) (pads program text.place act text.jumps (behind_objects n target) (first + text.size))
              (sized (inner target (first + text.size)) first) whole.0

          any_control : (o : Outcome Flow) → EndsAs (live_at deep) ⊥ text.jumps s.world.control o → EndsAs (live_at deep) ⊥ text.jumps None o
          any_control (Goes flow t) h = (h.0, h.1, λ q. absurd q)
          any_control (Stops end w) h = tt

    -- A STATEMENT AND THE REST OF ITS BLOCK
    -- the rest, of which no objects live on
    pub record Rests (part : Part Flow) (j : Jumps) (rest : Stretch) : Type 0 where
      pub lies : Lies code deep count false part rest
      pub sized : StretchIsSized rest
      pub ends : Ends ⊥ j part
      pub jumps : j ≡ rest.jumps
      pub opens : rest.opens ≡ 0

    module _ (program : Program) (d : Doing) (t : Stretch) (is : Performs code deep count d t) (own : DoingEnds d) (part : Part Flow) (j : Jumps) (rest : Stretch) (rests : Rests part j rest) where
      -- a jump of the statement passes the rest over, and else the rest follows
      leaves_rest : (site : Site) (target : stretches.Site) (from : Run) (middle next : ℕ) (opens : ℕ) (o : Outcome Flow) → Reached (live_at deep) o
          → Lands code deep count true site target from middle t.opens o
          → ((s : State) (registers : Registers) → Agrees count s registers → IsTidy (live_at deep) s.world → length s.world.memory.live ≡ site.base + (target.objects + t.opens)
          → Lands code deep count false site target (Going (at site middle registers s.world)) next opens (part s))
          → Lands code deep count false site target from next opens (follow o (unless_left part))
      leaves_rest site target from middle next opens (Goes Normal s) tidy here goes =
          lands_from code deep count false site target from (Going (at site middle here.registers s.world)) next opens (part s) here.reaches here.stays
          (goes s here.registers here.agrees tidy here.live_are)
      leaves_rest site target from middle next opens (Goes Broke s) tidy here goes = here_closed code deep count site from target.breaks (site.base + target.objects) s tidy here
      leaves_rest site target from middle next opens (Goes Continued s) tidy here goes = here_closed code deep count site from target.continues (site.base + target.objects) s tidy here
      leaves_rest site target from middle next opens (Goes (Returned v) s) tidy here goes = here
      leaves_rest site target from middle next opens (Stops end w) tidy here goes = here

      ends_here : (live : ℕ) (s : State) → IsTidy live s.world → Reached live (d.does s)
      ends_here live s tidy = ends_reached live (is_left d.jumps ≡ false) d.jumps s.world.control (d.does s) (own.ends live s tidy)

      -- where it makes none, the rest stands behind it; where it makes some, they are closed behind the rest
      followed_by_lies : (n : ℕ) → t.opens ≡ n → Lies code deep count false (d.does >>= unless_left part) (followed_by program t n rest)
      followed_by_lies zero none site target first s registers has agrees tidy live_are =
          leaves_rest site target (Going (at site first registers s.world)) (first + t.size) (first + (t.size + rest.size)) (t.opens + rest.opens) (d.does s) (ends_here (live_at deep) s tidy)
          (is.lies site target first s registers (has_first code first (t.code target first) _ has) agrees tidy live_are)
          (λ after new agree clean live_now.
          subst (λ k. Lands code deep count false site target (Going (at site (first + t.size) new after.world)) k (t.opens + rest.opens) (part after))
          (let e : (first + t.size) + rest.size ≡ first + (t.size + rest.size) = omega arith in e)
          (subst (λ k. Lands code deep count false site target (Going (at site (first + t.size) new after.world)) ((first + t.size) + rest.size) k (part after))
          (let o : rest.opens ≡ 0 = rests.opens in let e : rest.opens ≡ t.opens + rest.opens = omega (arith, none, o) in e)
          (subst (λ (k : ℕ). Lands code deep count false site (record target { objects = k }) (Going (at site (first + t.size) new after.world)) ((first + t.size) + rest.size) rest.opens (part after))
          (let e : target.objects + t.opens ≡ target.objects = omega (arith, none) in e)
          (rests.lies site (behind_objects t.opens target) (first + t.size) after new
          (has_rest code first (t.code target first) (rest.code (behind_objects t.opens target) (first + t.size)) t.size (is.sized target first) has) agree clean live_now))))
      followed_by_lies (suc n) some site target first s registers has agrees tidy live_are =
          leaves_rest site target (Going (at site first registers s.world)) (first + t.size) (first + (t.size + (closed program (do_.ObjectsClose (suc n)) rest).size)) 0 (d.does s) (ends_here (live_at deep) s tidy)
          (is.lies site target first s registers (has_first code first (t.code target first) _ has) agrees tidy live_are)
          (λ after new agree clean live_now.
          subst (λ k. Lands code deep count false site target (Going (at site (first + t.size) new after.world)) k 0 (part after))
          (let e : (first + t.size) + (closed program (do_.ObjectsClose (suc n)) rest).size ≡ first + (t.size + (closed program (do_.ObjectsClose (suc n)) rest).size) = omega arith in e)
          (closed_lies program part rest rests.sized (suc n) (subst (λ (k : Jumps). Ends ⊥ k part) rests.jumps rests.ends) rests.lies
          site target (first + t.size) after new
          (subst (λ (k : ℕ). HasAt code (first + t.size) ((closed program (do_.ObjectsClose (suc n)) rest).code (behind_objects k target) (first + t.size))) some
          (has_rest code first (t.code target first) ((closed program (do_.ObjectsClose (suc n)) rest).code (behind_objects t.opens target) (first + t.size)) t.size (is.sized target first) has))
          agree clean (live_now ∙ (let e : site.base + (target.objects + t.opens) ≡ site.base + (target.objects + suc n) = omega (arith, some) in e)) rests.opens))

      followed_by_sized : (n : ℕ) → StretchIsSized (followed_by program t n rest)
      followed_by_sized zero target first =
          length-append (t.code target first) (rest.code (behind_objects t.opens target) (first + t.size))
          ∙ (let one : length (t.code target first) ≡ t.size = is.sized target first in
          let two : length (rest.code (behind_objects t.opens target) (first + t.size)) ≡ rest.size = rests.sized (behind_objects t.opens target) (first + t.size) in
          let e : length (t.code target first) + length (rest.code (behind_objects t.opens target) (first + t.size)) ≡ t.size + rest.size = omega (arith, one, two) in e)
      followed_by_sized (suc n) target first =
          let text = closed program (do_.ObjectsClose (suc n)) rest in
          length-append (t.code target first) (text.code (behind_objects t.opens target) (first + t.size))
          ∙ (let one : length (t.code target first) ≡ t.size = is.sized target first in
          let two : length (text.code (behind_objects t.opens target) (first + t.size)) ≡ text.size = closed_sized program part rest rests.sized (suc n) (behind_objects t.opens target) (first + t.size) in
          let e : length (t.code target first) + length (text.code (behind_objects t.opens target) (first + t.size)) ≡ t.size + text.size = omega (arith, one, two) in e)

      followed_by_opens : (n : ℕ) → t.opens ≡ n → (followed_by program t n rest).opens ≡ 0
      followed_by_opens zero none = (let o : rest.opens ≡ 0 = rests.opens in let e : t.opens + rest.opens ≡ 0 = omega (arith, none, o) in e)
      followed_by_opens (suc n) some = refl

      followed_by_jumps : (n : ℕ) → (followed_by program t n rest).jumps ≡ jumps_of_both t.jumps rest.jumps
      followed_by_jumps zero = refl
      followed_by_jumps (suc n) = refl

      pub followed_rests : (k : Jumps) → k ≡ jumps_of_both d.jumps j → Ends ⊥ k (d.does >>= unless_left part) → Rests (d.does >>= unless_left part) k (followed_by program t t.opens rest)
      followed_rests k both ends = record {
        lies = followed_by_lies t.opens refl;
        sized = followed_by_sized t.opens;
        ends = ends;
        jumps = both ∙ (λ i. jumps_of_both (is.jumps i) (rests.jumps i)) ∙ sym (followed_by_jumps t.opens);
        opens = followed_by_opens t.opens refl;
      }

    -- several statements do what they do
    abbrev pub AllPerform : List Doing → List Stretch → Type 0
    AllPerform [] [] = Unit {0}
    AllPerform (d ∷ ds) [] = ⊥
    AllPerform [] (t ∷ ts) = ⊥
    AllPerform (d ∷ ds) (t ∷ ts) = Performs code deep count d t × AllPerform ds ts

    -- nothing happens
    pub nothing_lies : (place : Place) → Lies code deep count true (gives Normal) (nothing_done place)
    nothing_lies place site target first s registers has agrees tidy live_are = record {
      registers = registers;
      reaches = (0, ap (λ n. Going (at site n registers s.world)) (let e : first ≡ first + 0 = omega arith in e));
      agrees = agrees;
      live_are = live_are ∙ (let e : site.base + target.objects ≡ site.base + (target.objects + 0) = omega arith in e);
      stays = stays_itself site.base s.world;
    }

    -- STATEMENTS ONE BEHIND THE OTHER
    pub in_order_rests : (program : Program) (place : Place) (ds : List Doing) (ts : List Stretch) → AllEnd ds → AllPerform ds ts
        → Rests (in_order ds) (jumps_of_all ds) (stretches.in_order program place ts)
    in_order_rests program place [] [] end all = record {
      lies = λ site target first s registers has agrees tidy live_are.
          here_closed code deep count site (Going (at site first registers s.world)) (first + 0) (site.base + (target.objects + 0)) s tidy
          (nothing_lies place site target first s registers has agrees tidy live_are);
      sized = λ target first. refl;
      ends = gives_ends ⊥ no_jumps Normal tt;
      jumps = refl;
      opens = refl;
    }
    in_order_rests program place (d ∷ ds) [] end all = absurd all
    in_order_rests program place [] (t ∷ ts) end all = absurd all
    in_order_rests program place (d ∷ ds) (t ∷ ts) end all =
        followed_rests program d t all.0 end.0 (in_order ds) (jumps_of_all ds) (stretches.in_order program place ts) (in_order_rests program place ds ts end.1 all.1)
        (jumps_of_both d.jumps (jumps_of_all ds)) refl
        (ends_more (is_left (jumps_of_all (d ∷ ds)) ≡ false) ⊥ (jumps_of_all (d ∷ ds)) (jumps_of_all (d ∷ ds)) (in_order (d ∷ ds)) (λ q. absurd q) (λ flow allowed. allowed) (in_order_ends (d ∷ ds) end))

    -- A BLOCK: its objects die where it is left
    pub kept_returns : (site : Site) (from : Run) (v : Option Held) (w : World) (keep : ℕ) → site.base ≤ keep → Returns code site from v w → Returns code site from v (objects_kept w keep)
    kept_returns site from v w keep enough returns = record {
      control = returns.control;
      reaches = subst (λ (x : World). Reaches code from (handed_back site.waiting (handed (nat_eq site.func code.main) v) (record (record x {
        events = w.events ++ replicate (site.regions + 1) event.Exit;
        calls = w.calls - 1;
        size = w.size - size_of (slice_get code.funcs site.func);
      }) { control = returns.control }))) (sym (keeping_fewer w keep site.base enough)) returns.reaches;
      stays = stays_both site.base (world_of from) w (objects_kept w keep) returns.stays (stays_kept site.base keep w enough);
    }

    -- where so many objects are kept in any case
    closed_here : (site : Site) (from : Run) (pc live keep : ℕ) (s : State) → live ≡ keep → site.base ≤ keep → Closed code deep count site from pc live s
        → Here code deep count site from pc live (record s { world = objects_kept s.world keep })
    closed_here site from pc live keep s is enough closed = record {
      registers = closed.registers;
      reaches = subst (λ k. Reaches code from (Going (at site pc closed.registers (objects_kept s.world k)))) is closed.reaches;
      agrees = record { length_is = closed.agrees.length_is; hold = closed.agrees.hold };
      live_are = kept_length s.world keep (let enough : live ≤ length s.world.memory.live = closed.enough in omega (arith, is, enough)) ∙ sym is;
      stays = stays_both site.base (world_of from) s.world (objects_kept s.world keep) closed.stays (stays_kept site.base keep s.world enough);
    }

    pub block_lies : (part : Part Flow) (j : Jumps) (rest : Stretch) → Rests part j rest → Lies code deep count true (block part) rest
    block_lies part j rest rests site target first s registers has agrees tidy live_are =
        lands (part s) (rests.lies site target first s registers has agrees tidy live_are)
      where
        from : Run
        from = Going (at site first registers s.world)

        lands : (o : Outcome Flow) → Lands code deep count false site target from (first + rest.size) rest.opens o
            → Lands code deep count true site target from (first + rest.size) rest.opens (follow o (λ flow. keeps (length s.world.memory.live) >>= λ kept. gives flow))
        lands (Goes Normal t) closed =
            closed_here site from (first + rest.size) (site.base + (target.objects + rest.opens)) (length s.world.memory.live) t
            (let o : rest.opens ≡ 0 = rests.opens in omega (arith, o, live_are)) (omega (arith, live_are)) closed
        lands (Goes Broke t) closed = closed_here site from target.breaks (site.base + target.objects) (length s.world.memory.live) t (sym live_are) (omega (arith, live_are)) closed
        lands (Goes Continued t) closed = closed_here site from target.continues (site.base + target.objects) (length s.world.memory.live) t (sym live_are) (omega (arith, live_are)) closed
        lands (Goes (Returned v) t) returns = kept_returns site from v t.world (length s.world.memory.live) (omega (arith, live_are)) returns
        lands (Stops end w) reaches = reaches

    -- ONE PART BEHIND ANOTHER, each of which goes on
    pub behind_lies : (a b : Part (Unit {0})) (t u : Stretch) → StretchIsSized t → Keeps a → Lies code deep count true (goes_on a) t → Lies code deep count true (goes_on b) u
        → Lies code deep count true (goes_on (a >>= λ done. b)) (stretches.behind t u)
    behind_lies a b t u sized keeps one other site target first s registers has agrees tidy live_are =
        by (a s) (keeps.leaves (live_at deep) s tidy) (one site target first s registers (has_first code first (t.code target first) _ has) agrees tidy live_are)
      where
        from : Run
        from = Going (at site first registers s.world)

        next : ℕ
        next = first + (t.size + u.size)

        deeper : (from : Run) (x : Outcome (Unit {0})) → Lands code deep count true site (behind_objects t.opens target) from ((first + t.size) + u.size) u.opens (follow x (λ done. gives Normal))
            → Lands code deep count true site target from next (t.opens + u.opens) (follow x (λ done. gives Normal))
        deeper from (Goes done y) here =
            subst (λ pc. Here code deep count site from pc (site.base + (target.objects + (t.opens + u.opens))) y) (let e : (first + t.size) + u.size ≡ next = omega arith in e)
            (subst (λ n. Here code deep count site from ((first + t.size) + u.size) (site.base + n) y) (let e : (target.objects + t.opens) + u.opens ≡ target.objects + (t.opens + u.opens) = omega arith in e) here)
        deeper from (Stops end w) here = here

        by : (o : Outcome (Unit {0})) → Leaves (live_at deep) true s.world.control o → Lands code deep count true site target from (first + t.size) t.opens (follow o (λ done. gives Normal))
            → Lands code deep count true site target from next (t.opens + u.opens) (follow (follow o (λ done. b)) (λ done. gives Normal))
        by (Goes done y) leaves here =
            lands_from code deep count true site target from (Going (at site (first + t.size) here.registers y.world)) next (t.opens + u.opens) (goes_on b y) here.reaches here.stays
            (deeper (Going (at site (first + t.size) here.registers y.world)) (b y)
            (other site (behind_objects t.opens target) (first + t.size) y here.registers
            (has_rest code first (t.code target first) (u.code (behind_objects t.opens target) (first + t.size)) t.size (sized target first) has) here.agrees leaves.0 here.live_are))
        by (Stops end w) leaves here = here

    pub behind_sized : (t u : Stretch) → StretchIsSized t → StretchIsSized u → StretchIsSized (stretches.behind t u)
    behind_sized t u one other target first =
        both_long (t.code target first) (u.code (behind_objects t.opens target) (first + t.size)) t.size u.size (one target first) (other (behind_objects t.opens target) (first + t.size))
