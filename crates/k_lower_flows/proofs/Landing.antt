-- How parts of code that lead on are put together, and what wraps them.
use Rattle.std.proofs.Common.{ℕ, ◌≡◌, ◌+◌, ◌≤◌, Bool, true, false, List, ◌++◌, length, take, map, Option, refl, sym, subst, ap, ◌∙◌, arith}
use Rattle.std.proofs.lemmas.List.{take-take, length-append, length-take-le}
use Rattle.k_num.specs.declared.place.Place.{Place}
use Rattle.k_mem.specs.Memory.{Object}
use Rattle.k_world.specs.declared.value.Held.{Held}
use Rattle.k_world.specs.Changes.{objects_kept}
use Rattle.k_world.specs.Worlds.{World}
use Rattle.k_code.specs.declared.code.Code.{Code}
use Rattle.k_code.specs.Runs.{world_of}
use Rattle.k_code.specs.declared.instruction.Instr.{Instr}
use Rattle.k_code.specs.Steps.{Run, Going}
use Rattle.k_code.proofs.Kept.{kept_numbers, live_length}
use Rattle.k_evaluation.specs.declared.flow.Flow.{Flow}
use Rattle.k_evaluation.specs.declared.flow.Flow.TheVariants.{Normal, Broke, Continued, Returned}
use Rattle.k_evaluation.specs.Flows.{goes_on}
use Rattle.k_evaluation.specs.States.{State, Outcome, Goes, Stops, Part, follow, ◌>>=◌, gives}
use Rattle.k_marks_meaning.specs.declared.jumps.Jumps.{Jumps}
use Rattle.k_evaluation_control.specs.Laws.{IsTidy}
use Rattle.k_evaluation_control.proofs.Ends.{EndsAs}
use Rattle.k_lower_code.specs.Pieces.{Piece}
use Rattle.k_lower_code.specs.Stretches as stretches
use Rattle.k_lower_code.specs.Stretches.{Stretch, of_piece}
use Rattle.k_lower_runs.specs.Doing.{Always}
use Rattle.k_lower_runs.proofs.Leads.{Site, at, live_at, HasAt, Reaches, Leads, Follows, GoesOn, has_first, has_rest, reaches_both, ends_from}
use Rattle.k_world_laws.proofs.Kept.{keeping_all}
pub use Rattle.k_lower_flows.specs.Landing.{first_numbers, handed, Stays, frame_of, Returns, Here, Closed, On, Lands, Lies, Performs}

pub stays_itself : (base : ℕ) (w : World) → Stays base w w
stays_itself base w = record { older = refl; calls = refl; size = refl; left = omega arith }

pub stays_both : (base : ℕ) (a b c : World) → Stays base a b → Stays base b c → Stays base a c
stays_both base a b c first second = record {
  older = second.older ∙ first.older;
  calls = second.calls ∙ first.calls;
  size = second.size ∙ first.size;
  left = (let one : b.left ≤ a.left = first.left in let two : c.left ≤ b.left = second.left in omega (arith, one, two));
}

-- what goes on stays, for any number of older objects
pub stays_on : (base : ℕ) (a b : World) → GoesOn a b → Stays base a b
stays_on base a b on = record { older = ap (take base) on.numbers; calls = on.calls; size = on.size; left = on.left }

-- where more objects are kept than these
pub stays_kept : (base keep : ℕ) (w : World) → base ≤ keep → Stays base w (objects_kept w keep)
stays_kept base keep w enough = record {
  older = ap (take base) (kept_numbers w keep) ∙ take-take base keep (map (λ (o : Object). o.number) w.memory.live) enough;
  calls = refl;
  size = refl;
  left = omega arith;
}

-- as many objects are live as numbers are told
pub live_same : (a b : World) → map (λ (o : Object). o.number) b.memory.live ≡ map (λ (o : Object). o.number) a.memory.live → length b.memory.live ≡ length a.memory.live
live_same a b is = live_length b ∙ ap length is ∙ sym (live_length a)

-- so many are live where so many are kept
pub kept_length : (w : World) (keep : ℕ) → keep ≤ length w.memory.live → length (objects_kept w keep).memory.live ≡ keep
kept_length w keep enough = length-take-le keep w.memory.live enough

-- what follows what follows a part
pub follow_both : {A B C : Type 0} (o : Outcome A) (f : A → Part B) (g : B → Part C) → follow (follow o f) g ≡ follow o (λ a. f a >>= g)
follow_both (Goes a t) f g = refl
follow_both (Stops end w) f g = refl

-- an end that is given on
pub given_on : (o : Outcome Flow) → follow o (λ flow. gives {A = Unit {0}} tt >>= λ done. gives flow) ≡ o
given_on (Goes flow t) = refl
given_on (Stops end w) = refl

-- how long two lists are together
pub both_long : {A : Type 0} (one other : List A) (a b : ℕ) → length one ≡ a → length other ≡ b → length (one ++ other) ≡ a + b
both_long one other a b is so = length-append one other ∙ (λ i. is i + so i)

-- the world of a state that goes on is tidy
abbrev pub Reached : ℕ → Outcome Flow → Type 0
Reached live (Goes flow s) = IsTidy live s.world
Reached live (Stops end w) = Unit {0}

pub ends_reached : (live : ℕ) (Q : Type 0) (j : Jumps) (before : Option ℕ) (o : Outcome Flow) → EndsAs live Q j before o → Reached live o
ends_reached live Q j before (Goes flow s) h = h.0
ends_reached live Q j before (Stops end w) h = tt

module _ (code : Code) where
  -- instructions stand elsewhere by another name
  pub moved : (a b : ℕ) (instrs : List Instr) → a ≡ b → HasAt code a instrs → HasAt code b instrs
  moved a b instrs is has = subst (λ n. HasAt code n instrs) is has

  -- one list of instructions, and the one behind it
  pub split : (first size : ℕ) (one other : List Instr) → length one ≡ size → HasAt code first (one ++ other) → HasAt code first one × HasAt code (first + size) other
  split first size one other is has = (has_first code first one other has, has_rest code first one other size is has)

  pub returns_from : (site : Site) (before from : Run) (v : Option Held) (w : World) → Reaches code before from → Stays site.base (world_of before) (world_of from)
      → Returns code site from v w → Returns code site before v w
  returns_from site before from v w reaches stays returns = record {
    control = returns.control;
    reaches = reaches_both code before from _ reaches returns.reaches;
    stays = stays_both site.base (world_of before) (world_of from) w stays returns.stays;
  }

  module _ (deep count : ℕ) where
    pub here_from : (site : Site) (before from : Run) (pc live : ℕ) (s : State) → Reaches code before from → Stays site.base (world_of before) (world_of from)
        → Here code deep count site from pc live s → Here code deep count site before pc live s
    here_from site before from pc live s reaches stays here = record {
      registers = here.registers;
      reaches = reaches_both code before from (Going (at site pc here.registers s.world)) reaches here.reaches;
      agrees = here.agrees;
      live_are = here.live_are;
      stays = stays_both site.base (world_of before) (world_of from) s.world stays here.stays;
    }

    pub closed_from : (site : Site) (before from : Run) (pc live : ℕ) (s : State) → Reaches code before from → Stays site.base (world_of before) (world_of from)
        → Closed code deep count site from pc live s → Closed code deep count site before pc live s
    closed_from site before from pc live s reaches stays here = record {
      registers = here.registers;
      reaches = reaches_both code before from (Going (at site pc here.registers (objects_kept s.world live))) reaches here.reaches;
      agrees = here.agrees;
      enough = here.enough;
      stays = stays_both site.base (world_of before) (world_of from) s.world stays here.stays;
    }

    pub on_from : (exact : Bool) (site : Site) (before from : Run) (pc live : ℕ) (s : State) → Reaches code before from → Stays site.base (world_of before) (world_of from)
        → On code deep count exact site from pc live s → On code deep count exact site before pc live s
    on_from true = here_from
    on_from false = closed_from

    -- it lands where another run lands to which it leads
    pub lands_from : (exact : Bool) (site : Site) (target : stretches.Site) (before from : Run) (next opens : ℕ) (o : Outcome Flow) → Reaches code before from
        → Stays site.base (world_of before) (world_of from) → Lands code deep count exact site target from next opens o → Lands code deep count exact site target before next opens o
    lands_from exact site target before from next opens (Goes Normal s) reaches stays lands =
        on_from exact site before from next (site.base + (target.objects + opens)) s reaches stays lands
    lands_from exact site target before from next opens (Goes Broke s) reaches stays lands = on_from exact site before from target.breaks (site.base + target.objects) s reaches stays lands
    lands_from exact site target before from next opens (Goes Continued s) reaches stays lands =
        on_from exact site before from target.continues (site.base + target.objects) s reaches stays lands
    lands_from exact site target before from next opens (Goes (Returned v) s) reaches stays lands = returns_from site before from v s.world reaches stays lands
    lands_from exact site target before from next opens (Stops end w) reaches stays lands = ends_from code before from end w reaches lands

    -- a tidy world is the same where all its objects are kept
    pub here_closed : (site : Site) (from : Run) (pc live : ℕ) (s : State) → IsTidy (live_at deep) s.world → Here code deep count site from pc live s → Closed code deep count site from pc live s
    here_closed site from pc live s tidy here = record {
      registers = here.registers;
      reaches = subst (λ w. Reaches code from (Going (at site pc here.registers w))) (sym (keeping_all s.world live tidy.origins (let e : length s.world.memory.live ≡ live = here.live_are in omega (arith, e)))) here.reaches;
      agrees = here.agrees;
      enough = (let e : length s.world.memory.live ≡ live = here.live_are in omega (arith, e));
      stays = here.stays;
    }

    -- a part whose value is dropped, as a statement
    pub piece_lies : (part : Part (Unit {0})) (place : Place) (piece : Piece (Unit {0})) (r : ℕ)
        → Follows code deep count r Always part piece (λ a b new. Unit {0}) → Lies code deep count true (goes_on part) (of_piece place piece)
    piece_lies part place piece r follows site target first s registers has agrees tidy live_are =
        lands (part s) (follows site first s registers has (agrees, tidy) tt) where
          lands : (o : Outcome (Unit {0})) → Leads code deep count site (Going (at site first registers s.world)) (first + piece.size) r registers (λ a new. Unit {0}) o
              → Lands code deep count true site target (Going (at site first registers s.world)) (first + piece.size) 0 (follow o (λ done. gives Normal))
          lands (Goes a t) leads = record {
            registers = leads.0;
            reaches = leads.1;
            agrees = leads.2;
            live_are = live_same s.world t.world leads.5.numbers ∙ live_are ∙ (let e : site.base + target.objects ≡ site.base + (target.objects + 0) = omega arith in e);
            stays = stays_on site.base s.world t.world leads.5;
          }
          lands (Stops end w) leads = leads

    -- the same where all that is live is kept
    pub exact_kept : (o : Outcome Flow) (site : Site) (target : stretches.Site) (from : Run) (next opens : ℕ) → Reached (live_at deep) o → Lands code deep count true site target from next opens o
        → Lands code deep count false site target from next opens o
    exact_kept (Goes Normal s) site target from next opens tidy here = here_closed site from next (site.base + (target.objects + opens)) s tidy here
    exact_kept (Goes Broke s) site target from next opens tidy here = here_closed site from target.breaks (site.base + target.objects) s tidy here
    exact_kept (Goes Continued s) site target from next opens tidy here = here_closed site from target.continues (site.base + target.objects) s tidy here
    exact_kept (Goes (Returned v) s) site target from next opens tidy here = here
    exact_kept (Stops end w) site target from next opens tidy here = here
