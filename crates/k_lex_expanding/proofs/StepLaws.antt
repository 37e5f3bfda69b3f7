-- What each step of the machine tells.
use Rattle.std.proofs.Common.{◌≡◌, ℕ, suc, ◌+◌, ◌-◌, ◌*◌, ◌<◌, ◌≤◌, Bool, true, List, [], ◌∷◌, ◌++◌, Option, Some, None, Result, Ok, Err, length, drop, ap, sym, subst, ◌∙◌, refl, arith, slice_get}
use Rattle.std.proofs.lemmas.List.{drop-drop, length-drop}
use Rattle.k_num.specs.declared.memory.NoMemory.{NoMemory}
use Rattle.k_lex_expansion.specs.declared.tokens.Spelled.{Spelled}
use Rattle.k_lex_expansion.specs.declared.tokens.Listed.{Listed}
use Rattle.k_lex_expansion.specs.declared.macros.Macro.{Macro}
use Rattle.k_lex_expansion.specs.declared.arguments.Argument.{Argument}
use Rattle.k_lex_expansion.specs.declared.failure.Failure.{Failure}
use Rattle.k_lex_expansion.specs.declared.failure.Failure.TheVariants as fault
use Rattle.k_lex_expansion.specs.Replacing.{replaced}
use Rattle.k_lex_expansion.specs.Expansion.{Source, Done, Next, next}
use Rattle.k_lex_expansion.specs.Uses.{Puts}
use Rattle.k_lex_expanding.specs.declared.calls.OpenCall.{OpenCall}
use Rattle.k_lex_expanding.specs.declared.calls.Frame.{Frame}
use Rattle.k_lex_expanding.specs.declared.calls.Level.{Level}
use Rattle.k_lex_expanding.specs.declared.machine.Machine.{Machine}
use Rattle.k_lex_expanding.specs.declared.turn.Turn.{Turn}
use Rattle.k_lex_expanding.specs.declared.turn.Turn.TheVariants as turn
use Rattle.k_lex_expanding.specs.Macros.{body_of}
use Rattle.k_lex_expanding.specs.Arguments.{AsksFor, Passes}
use Rattle.k_lex_expanding.specs.First.{work, MeetsKept, MeetsReplaced, MeetsCalls}
use Rattle.k_lex_expanding.specs.Machine.{nothing_behind, source_at, left_of, Comes, Then, CallComes, with_waiting, Owes, Stands, ComesTo, CallLeads, source_left_at, ends_at, source_left, weight_of, weight, over_of, Turned, turn_as, with_first, Steps, Proceeds, Begins}
use Rattle.k_lex_expanding.proofs.FirstLaws.{put_lighter}
use Rattle.k_lex_expanding.proofs.MachineLaws.{comes_kept, comes_goes, comes_call, then_first, stands_failed, stands_over, stands_next, begins, begins_many, passed, finishes}

-- a machine
abbrev pub machine : List Listed → List Listed → List Frame → ℕ → ℕ → Machine
machine list tokens frames made taken = record { level = record { list = list; tokens = tokens }; frames = frames; made = made; taken = taken }

-- ---- what is told before less

pub turned_weaker : (result : Result Turn NoMemory) (macros : List Macro) (limit : ℕ) (source : List Spelled) (ends : Bool) (P Q : Result Done Failure → Type 0) (b c : ℕ) (new : Machine)
    → ((all : Result Done Failure) → P all → Q all) → b ≤ c → Turned result macros limit source ends P b new → Turned result macros limit source ends Q c new
turned_weaker (Ok turn.Goes) macros limit source ends P Q b c new to le h = record { leads = λ all x. to all (h.leads all x); lighter = omega (arith, h.lighter, le); within = h.within }
turned_weaker (Ok turn.Over) macros limit source ends P Q b c new to le h = to (over_of source ends new) h
turned_weaker (Ok (turn.Fails failure)) macros limit source ends P Q b c new to le h = to (Err failure) h
turned_weaker (Err _) macros limit source ends P Q b c new to le h = tt

-- ---- an argument is begun

pub begin_goes : (limit : ℕ) (call : OpenCall) (written : List Listed) (old : Machine) (list : List Listed) (total : ℕ) → list ≡ written → total ≡ old.made + length written → total ≤ limit
    → Begins (Ok turn.Goes) limit call written old (machine list [] (record { call = call; written = written; behind = old.level } ∷ old.frames) total old.taken)
begin_goes limit call written old list total list_is total_is fits macros is source ends within = record {
  leads = λ all h. begins macros limit (left_of source ends old.taken) old.frames old.level.tokens old.level.list old.made total call written all is total_is fits
      (subst (λ (ts : List Listed). Stands macros limit (left_of source ends old.taken) (record { call = call; written = written; behind = old.level } ∷ old.frames) [] (Ok (record { list = ts; source = nothing_behind; made = total })) all) list_is h);
  lighter = omega (arith, ap length list_is, total_is, fits);
  within = within;
}

-- the same, by what the parts of the code tell
pub begin_told : (limit : ℕ) (call : OpenCall) (written : List Listed) (old : Machine) (level behind : Level) (frames : List Frame) (total : ℕ)
    → level.list ≡ written → level.tokens ≡ [] → behind ≡ old.level → frames ≡ record { call = call; written = written; behind = behind } ∷ old.frames → total ≡ old.made + length written → total ≤ limit
    → Begins (Ok turn.Goes) limit call written old (record { level = level; frames = frames; made = total; taken = old.taken })
begin_told limit call written old level behind frames total list empty behind_is frames_is total_is fits =
    subst (λ (fs : List Frame). Begins (Ok turn.Goes) limit call written old (record { level = level; frames = fs; made = total; taken = old.taken }))
    (sym (frames_is ∙ ap (λ (l : Level). record { call = call; written = written; behind = l } ∷ old.frames) behind_is))
    (subst (λ (ts : List Listed). Begins (Ok turn.Goes) limit call written old (record { level = record { list = level.list; tokens = ts }; frames = record { call = call; written = written; behind = old.level } ∷ old.frames; made = total; taken = old.taken })) (sym empty)
    (begin_goes limit call written old level.list total list total_is fits))

pub begin_many : (limit : ℕ) (call : OpenCall) (written : List Listed) (old new : Machine) → limit < old.made + length written → Begins (Ok (turn.Fails fault.TokensMany)) limit call written old new
begin_many limit call written old new beyond macros is source ends within =
    begins_many macros limit (left_of source ends old.taken) old.frames old.level.tokens old.level.list old.made call written is beyond

-- ---- a call goes on

-- with an argument
pub proceed_begins : (result : Result Turn NoMemory) (macros : List Macro) (limit : ℕ) (call : OpenCall) (complete : List Argument) (written : List Listed) (waiting : List (List Listed)) (old new : Machine)
    → AsksFor (body_of (slice_get macros call.number)) written call.complete call.waiting complete waiting
    → Begins result limit (record call { complete = complete; waiting = waiting }) written old new → Proceeds result macros limit call old new
proceed_begins result macros limit call complete written waiting old new h begun source ends within =
    turned_weaker result macros limit source ends (CallLeads macros limit source ends old (with_waiting (record call { complete = complete; waiting = waiting }) written)) (CallLeads macros limit source ends old call)
    (2 * suc (length waiting) + weight limit source old) (2 * length call.waiting + weight limit source old) new
    (λ all x. then_first (CallComes macros limit (source_at old.frames (left_of source ends old.taken)) old.level.tokens old.level.list old.made (with_waiting (record call { complete = complete; waiting = waiting }) written))
    (CallComes macros limit (source_at old.frames (left_of source ends old.taken)) old.level.tokens old.level.list old.made call)
    (λ r. Owes macros limit (left_of source ends old.taken) old.frames r all)
    (λ r y. passed macros limit (source_at old.frames (left_of source ends old.taken)) old.level.tokens old.level.list old.made call complete (written ∷ waiting) r h.passes y) x)
    (omega (arith, h.fewer))
    (begun macros h.asked source ends within)

-- with all arguments
pub proceed_goes : (macros : List Macro) (limit : ℕ) (call : OpenCall) (complete : List Argument) (old : Machine) (list : List Listed) (total : ℕ)
    → Passes (body_of (slice_get macros call.number)) call.complete call.waiting complete []
    → Puts (Ok None) limit call.names call.spaced (replaced complete (body_of (slice_get macros call.number))) old.level.list old.made list total
    → Proceeds (Ok turn.Goes) macros limit call old (machine list old.level.tokens old.frames total old.taken)
proceed_goes macros limit call complete old list total passes puts source ends within =
    let lighter = put_lighter limit call.names call.spaced (replaced complete (body_of (slice_get macros call.number)))
    (record { list = old.level.list; source = nothing_behind; made = old.made }) (record { list = list; source = nothing_behind; made = total }) (puts nothing_behind) in
    record {
      leads = λ all h. finishes macros limit (left_of source ends old.taken) old.frames old.level.tokens old.level.list old.made call complete
          (Ok (record { list = list; source = source_at old.frames (left_of source ends old.taken); made = total })) all passes (puts (source_at old.frames (left_of source ends old.taken))) h;
      lighter = omega (arith, lighter);
      within = within;
    }

pub proceed_fails : (macros : List Macro) (limit : ℕ) (call : OpenCall) (complete : List Argument) (old new : Machine) (failure : Failure) (list : List Listed) (total : ℕ)
    → Passes (body_of (slice_get macros call.number)) call.complete call.waiting complete []
    → Puts (Ok (Some failure)) limit call.names call.spaced (replaced complete (body_of (slice_get macros call.number))) old.level.list old.made list total
    → Proceeds (Ok (turn.Fails failure)) macros limit call old new
proceed_fails macros limit call complete old new failure list total passes puts source ends within =
    finishes macros limit (left_of source ends old.taken) old.frames old.level.tokens old.level.list old.made call complete
    (Err failure) (Err failure) passes (puts (source_at old.frames (left_of source ends old.taken))) (stands_failed macros limit (left_of source ends old.taken) old.frames old.level.tokens failure)

pub proceed_ends : (o : Option Failure) (macros : List Macro) (limit : ℕ) (call : OpenCall) (complete : List Argument) (old : Machine) (list : List Listed) (total : ℕ)
    → Passes (body_of (slice_get macros call.number)) call.complete call.waiting complete []
    → Puts (Ok o) limit call.names call.spaced (replaced complete (body_of (slice_get macros call.number))) old.level.list old.made list total
    → Proceeds (Ok (turn_as o)) macros limit call old (machine list old.level.tokens old.frames total old.taken)
proceed_ends None macros limit call complete old list total passes puts = proceed_goes macros limit call complete old list total passes puts
proceed_ends (Some failure) macros limit call complete old list total passes puts =
    proceed_fails macros limit call complete old (machine list old.level.tokens old.frames total old.taken) failure list total passes puts

-- ---- the end of a list

-- of all
pub end_over : (macros : List Macro) (limit : ℕ) (old new : Machine) → old.level.list ≡ [] → old.frames ≡ [] → new ≡ old → Steps (Ok turn.Over) macros limit old new
end_over macros limit old new empty alone same source ends within =
    subst (λ (m : Machine). ComesTo macros limit source ends old (over_of source ends m)) (sym same)
    (subst (λ (frames : List Frame). Stands macros limit (left_of source ends old.taken) frames old.level.tokens (Ok (record { list = old.level.list; source = source_at frames (left_of source ends old.taken); made = old.made })) (over_of source ends old)) (sym alone)
    (subst (λ (list : List Listed). Stands macros limit (left_of source ends old.taken) [] old.level.tokens (Ok (record { list = list; source = left_of source ends old.taken; made = old.made })) (over_of source ends old)) (sym empty)
    (stands_over macros limit (left_of source ends old.taken) old.level.tokens old.made)))

-- of an argument
pub end_next : (result : Result Turn NoMemory) (macros : List Macro) (limit : ℕ) (old new : Machine) (waits : Frame) (frames : List Frame) (complete : List Argument)
    → old.level.list ≡ [] → old.frames ≡ waits ∷ frames → complete ≡ waits.call.complete ++ record { written = waits.written; expanded = old.level.tokens } ∷ []
    → Proceeds result macros limit (record waits.call { complete = complete }) (machine waits.behind.list waits.behind.tokens frames old.made old.taken) new
    → Steps result macros limit old new
end_next result macros limit old new waits frames complete empty some complete_is proceeds source ends within =
    turned_weaker result macros limit source ends (CallLeads macros limit source ends (machine waits.behind.list waits.behind.tokens frames old.made old.taken) (record waits.call { complete = complete })) (ComesTo macros limit source ends old)
    (2 * length waits.call.waiting + weight limit source (machine waits.behind.list waits.behind.tokens frames old.made old.taken)) (weight limit source old) new
    leads
    (omega (arith, weighs))
    (proceeds source ends within)
  where
    weighs : weight_of old.frames ≡ 1 + 2 * length waits.call.waiting + 2 * length waits.behind.list + weight_of frames
    weighs = ap weight_of some

    leads : (all : Result Done Failure) → CallLeads macros limit source ends (machine waits.behind.list waits.behind.tokens frames old.made old.taken) (record waits.call { complete = complete }) all → ComesTo macros limit source ends old all
    leads all h =
        subst (λ (fs : List Frame). Stands macros limit (left_of source ends old.taken) fs old.level.tokens (Ok (record { list = old.level.list; source = source_at fs (left_of source ends old.taken); made = old.made })) all) (sym some)
        (subst (λ (list : List Listed). Stands macros limit (left_of source ends old.taken) (waits ∷ frames) old.level.tokens (Ok (record { list = list; source = nothing_behind; made = old.made })) all) (sym empty)
        (stands_next macros limit (left_of source ends old.taken) waits frames old.level.tokens old.made all
        (subst (λ (done : List Argument). Then (CallComes macros limit (source_at frames (left_of source ends old.taken)) waits.behind.tokens waits.behind.list old.made (record waits.call { complete = done })) (λ r. Owes macros limit (left_of source ends old.taken) frames r all)) complete_is h)))

-- ---- a token

-- what look was told is what is left
source_is : (frames : List Frame) (source : List Spelled) (ends : Bool) (taken : ℕ) → ◌≡◌ {A = Source} (record { tokens = source_left_at frames (drop taken source); ends = ends_at frames ends }) (source_at frames (left_of source ends taken))
source_is [] source ends taken = refl
source_is (waits ∷ frames) source ends taken = refl

-- a token of the result
pub take_kept : (macros : List Macro) (limit : ℕ) (source : List Spelled) (ends : Bool) (m : Machine) (token t : Listed) (list tokens : List Listed) (total : ℕ) → m.taken ≤ length source
    → MeetsKept (next macros limit (work (token ∷ m.level.list) (source_left m source) (ends_at m.frames ends) m.made)) t m.level.list m.made (source_left m source) (ends_at m.frames ends) list total
    → tokens ≡ m.level.tokens ++ t ∷ []
    → Turned (Ok turn.Goes) macros limit source ends (ComesTo macros limit source ends (with_first token m)) (weight limit source (with_first token m)) (machine list tokens m.frames total m.taken)
take_kept macros limit source ends m token t list tokens total within meets pushed = record {
  leads = λ all h. then_first (Comes macros limit tokens (Ok (record { list = list; source = after; made = total }))) (Comes macros limit m.level.tokens (Ok (record { list = token ∷ m.level.list; source = after; made = m.made }))) (λ r. Owes macros limit (left_of source ends m.taken) m.frames r all)
      (λ r x. comes_kept macros limit m.level.tokens (record { list = token ∷ m.level.list; source = after; made = m.made }) (record { list = m.level.list; source = after; made = m.made }) t r is
      (subst (λ (l : List Listed). Comes macros limit (m.level.tokens ++ t ∷ []) (Ok (record { list = l; source = after; made = m.made })) r) meets.list
      (subst (λ (n : ℕ). Comes macros limit (m.level.tokens ++ t ∷ []) (Ok (record { list = list; source = after; made = n })) r) meets.made_is
      (subst (λ (ts : List Listed). Comes macros limit ts (Ok (record { list = list; source = after; made = total })) r) pushed x)))) h;
  lighter = omega (arith, ap length meets.list, meets.made_is);
  within = within;
}
  where
    after : Source
    after = source_at m.frames (left_of source ends m.taken)

    is : next macros limit (record { list = token ∷ m.level.list; source = after; made = m.made }) ≡ Next.kept t (record { list = m.level.list; source = after; made = m.made })
    is = subst (λ (s : Source). next macros limit (record { list = token ∷ m.level.list; source = s; made = m.made }) ≡ Next.kept t (record { list = m.level.list; source = s; made = m.made })) (source_is m.frames source ends m.taken) meets.is

-- a name that its macro's body replaces
pub take_replaced : (macros : List Macro) (limit : ℕ) (source : List Spelled) (ends : Bool) (m : Machine) (token : Listed) (list : List Listed) (total : ℕ) → m.taken ≤ length source
    → MeetsReplaced limit (next macros limit (work (token ∷ m.level.list) (source_left m source) (ends_at m.frames ends) m.made)) m.level.list m.made (source_left m source) (ends_at m.frames ends) list total
    → Turned (Ok turn.Goes) macros limit source ends (ComesTo macros limit source ends (with_first token m)) (weight limit source (with_first token m)) (machine list m.level.tokens m.frames total m.taken)
take_replaced macros limit source ends m token list total within meets = record {
  leads = λ all h. then_first (Comes macros limit m.level.tokens (Ok (record { list = list; source = after; made = total }))) (Comes macros limit m.level.tokens (Ok (record { list = token ∷ m.level.list; source = after; made = m.made }))) (λ r. Owes macros limit (left_of source ends m.taken) m.frames r all)
      (λ r x. comes_goes macros limit m.level.tokens (record { list = token ∷ m.level.list; source = after; made = m.made }) (Ok (record { list = list; source = after; made = total })) r is x) h;
  lighter = omega (arith, meets.lighter);
  within = within;
}
  where
    after : Source
    after = source_at m.frames (left_of source ends m.taken)

    is : next macros limit (record { list = token ∷ m.level.list; source = after; made = m.made }) ≡ Next.goes (Ok (record { list = list; source = after; made = total }))
    is = subst (λ (s : Source). next macros limit (record { list = token ∷ m.level.list; source = s; made = m.made }) ≡ Next.goes (Ok (record { list = list; source = s; made = total }))) (source_is m.frames source ends m.taken) meets.is

-- a use that fails
pub take_fails : (macros : List Macro) (limit : ℕ) (source : List Spelled) (ends : Bool) (m new : Machine) (token : Listed) (failure : Failure)
    → next macros limit (work (token ∷ m.level.list) (source_left m source) (ends_at m.frames ends) m.made) ≡ Next.goes (Err failure)
    → Turned (Ok (turn.Fails failure)) macros limit source ends (ComesTo macros limit source ends (with_first token m)) (weight limit source (with_first token m)) new
take_fails macros limit source ends m new token failure meets =
    then_first (Comes macros limit m.level.tokens (Err failure)) (Comes macros limit m.level.tokens (Ok (record { list = token ∷ m.level.list; source = after; made = m.made }))) (λ r. Owes macros limit (left_of source ends m.taken) m.frames r (Err failure))
    (λ r x. comes_goes macros limit m.level.tokens (record { list = token ∷ m.level.list; source = after; made = m.made }) (Err failure) r is x)
    (stands_failed macros limit (left_of source ends m.taken) m.frames m.level.tokens failure)
  where
    after : Source
    after = source_at m.frames (left_of source ends m.taken)

    is : next macros limit (record { list = token ∷ m.level.list; source = after; made = m.made }) ≡ Next.goes (Err failure)
    is = subst (λ (s : Source). next macros limit (record { list = token ∷ m.level.list; source = s; made = m.made }) ≡ Next.goes (Err failure)) (source_is m.frames source ends m.taken) meets

-- ---- a call

-- the call as it is told
abbrev call_next : List Macro → OpenCall → List Listed → ℕ → Source → Next
call_next macros call list made source =
    Next.calls (record { body = body_of (slice_get macros call.number); arguments = call.waiting; names = call.names; spaced = call.spaced; rest = record { list = list; source = source; made = made } })

-- what it takes of the source is behind the list, if anything
source_taken : (frames : List Frame) (source : List Spelled) (ends : Bool) (taken more : ℕ) → more ≤ length (source_left_at frames (drop taken source))
    → ◌≡◌ {A = Source} (record { tokens = drop more (source_left_at frames (drop taken source)); ends = ends_at frames ends }) (source_at frames (left_of source ends (taken + more)))
source_taken [] source ends taken more le = ap (λ (ts : List Spelled). record { tokens = ts; ends = ends }) (drop-drop more taken source)
source_taken (waits ∷ frames) source ends taken more le =
    let none : more ≡ 0 = omega (arith, le) in
    ap (λ i. record { tokens = drop i []; ends = true }) none

-- what waits is owed the same
owes_taken : (macros : List Macro) (limit : ℕ) (frames : List Frame) (source : List Spelled) (ends : Bool) (taken more : ℕ) (r all : Result Done Failure) → more ≤ length (source_left_at frames (drop taken source))
    → Owes macros limit (left_of source ends (taken + more)) frames r all → Owes macros limit (left_of source ends taken) frames r all
owes_taken macros limit [] source ends taken more r all le h = h
owes_taken macros limit (waits ∷ frames) source ends taken more r all le h =
    let none : taken + more ≡ taken = omega (arith, le) in
    subst (λ n. Owes macros limit (left_of source ends n) (waits ∷ frames) r all) none h

left_long : (frames : List Frame) (source : List Spelled) (taken more args new old : ℕ) → taken ≤ length source → more ≤ length (source_left_at frames (drop taken source))
    → args + 2 * new + 2 * (length (source_left_at frames (drop taken source)) - more) ≤ 2 * old + 2 * length (source_left_at frames (drop taken source))
    → (taken + more ≤ length source) × (args + 2 * new + 2 * (length source - (taken + more)) ≤ 2 * old + 2 * (length source - taken))
left_long [] source taken more args new old within le lighter =
    let long : length (drop taken source) ≡ length source - taken = length-drop taken source in
    (omega (arith, within, le, long), omega (arith, within, le, long, lighter))
left_long (waits ∷ frames) source taken more args new old within le lighter = (omega (arith, within, le), omega (arith, within, le, lighter))

pub take_calls : (result : Result Turn NoMemory) (macros : List Macro) (limit : ℕ) (source : List Spelled) (ends : Bool) (m new : Machine) (token : Listed) (call : OpenCall) (list : List Listed) (taken total : ℕ)
    → m.taken ≤ length source
    → MeetsCalls macros (next macros limit (work (token ∷ m.level.list) (source_left m source) (ends_at m.frames ends) m.made)) call taken m.level.list m.made (source_left m source) (ends_at m.frames ends) list total
    → Proceeds result macros limit call (machine list m.level.tokens m.frames total (m.taken + taken)) new
    → Turned result macros limit source ends (ComesTo macros limit source ends (with_first token m)) (weight limit source (with_first token m)) new
take_calls result macros limit source ends m new token call list taken total within meets proceeds =
    turned_weaker result macros limit source ends (CallLeads macros limit source ends (machine list m.level.tokens m.frames total (m.taken + taken)) call) (ComesTo macros limit source ends (with_first token m))
    (2 * length call.waiting + weight limit source (machine list m.level.tokens m.frames total (m.taken + taken))) (weight limit source (with_first token m)) new
    leads
    (omega (arith, long.1, meets.made_is))
    (proceeds source ends long.0)
  where
    long : (m.taken + taken ≤ length source) × (2 * length call.waiting + 2 * length list + 2 * (length source - (m.taken + taken)) ≤ 2 * length m.level.list + 2 * (length source - m.taken))
    long = left_long m.frames source m.taken taken (2 * length call.waiting) (length list) (length m.level.list) within meets.within meets.lighter

    before : Source
    before = source_at m.frames (left_of source ends m.taken)

    after : Source
    after = source_at m.frames (left_of source ends (m.taken + taken))

    is : next macros limit (record { list = token ∷ m.level.list; source = before; made = m.made }) ≡ call_next macros call list m.made after
    is = subst (λ (s : Source). next macros limit (record { list = token ∷ m.level.list; source = before; made = m.made }) ≡ call_next macros call list m.made s) (source_taken m.frames source ends m.taken taken meets.within)
        (subst (λ (s : Source). next macros limit (record { list = token ∷ m.level.list; source = s; made = m.made }) ≡ call_next macros call list m.made (record { tokens = drop taken (source_left_at m.frames (drop m.taken source)); ends = ends_at m.frames ends })) (source_is m.frames source ends m.taken) meets.is)

    leads : (all : Result Done Failure) → CallLeads macros limit source ends (machine list m.level.tokens m.frames total (m.taken + taken)) call all → ComesTo macros limit source ends (with_first token m) all
    leads all h = record {
      result = h.result;
      first = comes_call macros limit m.level.tokens (record { list = token ∷ m.level.list; source = before; made = m.made }) after list m.made call h.result is meets.complete
          (subst (λ (n : ℕ). CallComes macros limit after m.level.tokens list n call h.result) meets.made_is h.first);
      second = owes_taken macros limit m.frames source ends m.taken taken h.result all meets.within h.second;
    }
