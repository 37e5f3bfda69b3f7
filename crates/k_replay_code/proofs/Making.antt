-- An instruction that makes an operation and goes on in its call, and its sources.
use Rattle.std.proofs.Common.{◌≡◌, ℕ, suc, List, [], ◌∷◌, ◌++◌, length, map, Option, Some, None, Bool, false, true, Ok, Err, arith, refl, sym, ◌∙◌, ap, subst}
use Rattle.std.specs.Prelude.{is_some}
use Rattle.std.proofs.lemmas.List.{append-nil}
use Rattle.std.proofs.lemmas.Option.{same_Some}
use Rattle.k_num.specs.declared.place.Place.{Place}
use Rattle.k_optab.specs.declared.class.Class.{Class}
use Rattle.k_optab.specs.declared.event.Event.{Event}
use Rattle.k_optab.specs.declared.event.Event.TheVariants.{Op}
use Rattle.k_optab.specs.declared.event.Src.{Src}
use Rattle.k_ending.specs.declared.ending.End.{End}
use Rattle.k_world.specs.declared.act.Act.{Act}
use Rattle.k_world.specs.declared.answer.Done.{Done}
use Rattle.k_world.specs.declared.answer.Stop.TheVariants as stop
use Rattle.k_world.specs.declared.value.Held.{Held}
use Rattle.k_world.specs.declared.value.Read.{Read}
use Rattle.k_world.specs.Acts.{hidden}
use Rattle.k_world.specs.Deeds.{Deed}
use Rattle.k_world.specs.Operands.{source_before, source_in, sources, sources_before, values_of}
use Rattle.k_world.specs.Operations.{Made, Gives, Ends, event_of, operation}
use Rattle.k_world.specs.Worlds.{World}
use Rattle.k_code.specs.declared.instruction.Instr.{Instr}
use Rattle.k_code.specs.Steps.{Configuration, Going, Over, operation_of, reads_of}
use Rattle.k_hcpa_meaning.specs.Behind.{behind_all, world_behind}
use Rattle.k_hcpa_store.specs.Parts.{plain_act}
use Rattle.k_hcpa_store.specs.Kept.{Kept, configuration_of}
use Rattle.k_hcpa_store.specs.Leads.{EndsHere, GoesOn, IsNext, MakesBy, Operates, event_told, goes_by}
use Rattle.k_hcpa_store.proofs.Longer.{operation_behind, operation_ends}
use Rattle.k_hcpa_store.proofs.Stepping.{plain_has, plain_is}
use Rattle.k_replay_record.specs.declared.record.Step.{Step}
use Rattle.k_replay_record.specs.Recorded.{Recorded}
use Rattle.k_replay_recording.specs.Laws.{from_numbers}
use Rattle.k_replay_recording.proofs.Sourced.{steps_have_sources}
use Rattle.k_replay_code.specs.Performed.{if_made, performed_next}
use Rattle.k_replay_code.specs.Recorded.{numbers, source_numbers, step_for, step_numbers}
use Rattle.k_replay_code.specs.Steps.{Adds, Advanced, IsPerformed}
use Rattle.k_replay_code.proofs.Adding.{adds_none}
use Rattle.k_replay_code.proofs.Made.{LeavesBehind, next_ended, next_made, operation_leaves}

-- the step of an operation comes from the operation's sources
pub sourced : (p : Deed) (w : World) → p.hidden ≡ hidden p.what (values_of p.reads) w
    → step_numbers (map step_for (p ∷ [])) ≡ numbers (sources p.reads p.hidden p.control) ∷ []
sourced p w is = ap (λ (ns : List ℕ). ns ∷ [])
    (subst (λ (h : Option ℕ). from_numbers (step_for (record p { hidden = h })).operands ≡ numbers (sources p.reads h p.control)) (sym is)
    (steps_have_sources p.what p.reads p.control p.value w))

-- lists with the same front
behind_same : (s : Option ℕ) (broken : Bool) (xs ys : List Src) → source_before s broken xs ≡ source_before s broken ys → xs ≡ ys
behind_same None broken xs ys same = same
behind_same (Some n) broken xs ys same = cc same

reads_same : (reads : List Read) (xs ys : List Src) → sources_before reads xs ≡ sources_before reads ys → xs ≡ ys
reads_same [] xs ys same = same
reads_same (r ∷ reads) xs ys same =
    reads_same reads xs ys (behind_same (source_in r.slot) r.broken (sources_before reads xs) (sources_before reads ys) same)

head_same : (s t : Src) (xs ys : List Src) → s ∷ xs ≡ t ∷ ys → s ≡ t
head_same s t xs ys same = cc same

not_longer : (s : Src) (xs : List Src) → xs ≡ s ∷ xs → ⊥
not_longer s xs same = (let n : length xs ≡ suc (length xs) = ap length same in omega (arith, n))

hidden_same : (a b : Option ℕ) (xs : List Src) → source_before a false xs ≡ source_before b false xs → a ≡ b
hidden_same None None xs same = refl
hidden_same None (Some k) xs same = absurd (not_longer (record { number = k; broken = false }) xs same)
hidden_same (Some j) None xs same = absurd (not_longer (record { number = j; broken = false }) xs (sym same))
hidden_same (Some j) (Some k) xs same =
    ap (λ (s : Src). Some s.number) (head_same (record { number = j; broken = false }) (record { number = k; broken = false }) xs xs same)

last_same : (es : List Event) (x y : Event) → es ++ x ∷ [] ≡ es ++ y ∷ [] → x ≡ y
last_same [] x y same = cc same
last_same (e ∷ es) x y same = last_same es x y (tail_same e (es ++ x ∷ []) (es ++ y ∷ []) same)
  where
    tail_same : (e : Event) (xs ys : List Event) → e ∷ xs ≡ e ∷ ys → xs ≡ ys
    tail_same e xs ys same = cc same

event_sources : (class : Class) (latency : ℕ) (place : Place) (xs ys : List Src) → Op class latency xs place ≡ Op class latency ys place → xs ≡ ys
event_sources class latency place xs ys same = cc same

-- the hidden source that is told, under the control source
told_hidden : (class : Class) (latency : ℕ) (place : Place) (what : Act) (reads : List Read) (w v : World) (held : Held) (hid control : Option ℕ)
    → operation class latency place what reads w ≡ Gives held v → v.events ≡ w.events ++ Op class latency (sources reads hid control) place ∷ []
    → control ≡ w.control → hid ≡ hidden what (values_of reads) w
told_hidden class latency place what reads w v held hid control gives events same =
    let left : v.events ≡ w.events ++ event_of class latency place what reads w ∷ [] =
    subst (LeavesBehind (event_of class latency place what reads w) w) gives (operation_leaves class latency place what reads w) in
    let event : Op class latency (sources reads hid control) place ≡ event_of class latency place what reads w =
    last_same w.events (Op class latency (sources reads hid control) place) (event_of class latency place what reads w) (sym events ∙ left) in
    let all : sources reads hid control ≡ sources reads (hidden what (values_of reads) w) w.control =
    event_sources class latency place (sources reads hid control) (sources reads (hidden what (values_of reads) w) w.control) event in
    let one : sources reads hid w.control ≡ sources reads (hidden what (values_of reads) w) w.control = ap (λ (k : Option ℕ). sources reads hid k) (sym same) ∙ all in
    hidden_same hid (hidden what (values_of reads) w) (source_before w.control false [])
    (reads_same reads (source_before hid false (source_before w.control false []))
    (source_before (hidden what (values_of reads) w) false (source_before w.control false [])) one)

-- the run has ended before an operation that would be made
pub stopped : (s : Kept) (i : Instr) → IsNext s i → (o : Class × Act) → operation_of i.act ≡ Some o → (end : End) (r : Recorded) (new : Kept)
    → EndsHere s end new → Advanced s (Some end) new r r
stopped s i next o makes end r new is = record {
  made = [];
  more = [];
  goes = (
    (configuration_of s).world,
    ap (λ (k : Kept). (configuration_of k).world.output) (sym is.0),
    λ events taken. is.1 events taken ∙ (λ j. Over end (world_behind (sym (append-nil events) j) taken (configuration_of s).world)),
  );
  performs = λ events taken. next_ended s.code (behind_all events taken (configuration_of s)) i next.is o makes end (is.1 events taken);
  sources = refl;
  adds = adds_none r;
}

-- what is there
pub the_some : {X : Type 0} (o : Option X) → is_some o ≡ true → (x : X) × (o ≡ Some x)
the_some None is = absurd (cc is)
the_some (Some x) is = (x, refl)

-- the operation that was made
abbrev pub made_by : Kept → Instr → Class × Act → Done → Deed
made_by s i o done = record { what = o.1; reads = reads_of (configuration_of s) i.act; hidden = done.hidden; control = done.control; value = done.held.value }

module _ (s : Kept) (i : Instr) (next : IsNext s i) (o : Class × Act) (is : goes_by i.act ≡ Some o) where
  module _ (done : Done) (new : Kept) (makes : MakesBy s i o (Ok done) new) (control : done.control ≡ (configuration_of s).world.control) (events : List Event) (taken : List ℕ) where
    abbrev here : World
    here = world_behind events taken (configuration_of s).world

    abbrev after : World
    after = world_behind (events ++ Op o.0 i.latency (sources (reads_of (configuration_of s) i.act) done.hidden done.control) i.place ∷ []) taken (configuration_of new).world

    gives : operation o.0 i.latency i.place o.1 (reads_of (configuration_of s) i.act) here ≡ Gives done.held after
    gives = operation_behind o.0 i.latency i.place o.1 (reads_of (configuration_of s) i.act) (configuration_of s).world (configuration_of new).world events taken done makes

    hidden_is : done.hidden ≡ hidden o.1 (values_of (reads_of (configuration_of s) i.act)) here
    hidden_is = told_hidden o.0 i.latency i.place o.1 (reads_of (configuration_of s) i.act) here after done.held done.hidden done.control gives refl control

    performs : performed_next s.code (Going (behind_all events taken (configuration_of s))) ≡ made_by s i o done ∷ []
    performs =
        next_made s.code (behind_all events taken (configuration_of s)) i next.is o (plain_is i.act o is)
        ∙ ap (if_made o.1 (reads_of (configuration_of s) i.act) here) gives
        ∙ (λ j. record (made_by s i o done) { hidden = sym hidden_is j; control = sym control j } ∷ [])

  -- it was made, and recorded
  pub operated : (done : Done) (new : Kept) (before later : Recorded) → MakesBy s i o (Ok done) new → Operates s i o (Ok done) new
      → done.control ≡ (configuration_of s).world.control → Adds (made_by s i o done ∷ []) before later → Advanced s None new before later
  operated done new before later makes goes control adds = record {
    made = made_by s i o done ∷ [];
    more = event_told o.0 i (configuration_of s) done.hidden done.control ∷ [];
    goes = goes.0;
    performs = performs done new makes control;
    sources = sourced (made_by s i o done) (here done new makes control [] []) (hidden_is done new makes control [] []);
    adds = adds;
  }

  -- the same by what was read and noted
  pub noted : (done : Done) (new : Kept) (what : Act) (reads : List Read) (before later : Recorded) → MakesBy s i o (Ok done) new → Operates s i o (Ok done) new
      → done.control ≡ (configuration_of s).world.control → Some what ≡ plain_act i.act → reads ≡ reads_of (configuration_of s) i.act
      → Adds (record { what = what; reads = reads; hidden = done.hidden; control = done.control; value = done.held.value } ∷ []) before later
      → Advanced s None new before later
  noted done new what reads before later makes goes control does read adds =
      let same : what ≡ o.1 = same_Some what o.1 (does ∙ plain_has i.act o is) in
      operated done new before later makes goes control
      (subst (λ (x : Act). Adds (record { what = x; reads = reads_of (configuration_of s) i.act; hidden = done.hidden; control = done.control; value = done.held.value } ∷ []) before later) same
      (subst (λ (xs : List Read). Adds (record { what = what; reads = xs; hidden = done.hidden; control = done.control; value = done.held.value } ∷ []) before later) read adds))

  -- the run has ended before it
  pub ended : (end : End) (r : Recorded) (new : Kept) → Operates s i o (Err (stop.Ended end)) new → Advanced s (Some end) new r r
  ended end r new goes = stopped s i next o (plain_is i.act o is) end r new goes
