-- What the steps of the code mean for the reading of lines.
use Rattle.std.proofs.Common.{◌≡◌, ℕ, Bool, true, false, List, [], ◌∷◌, ◌++◌, Option, Some, None, Result, Ok, Err, ap, sym, subst, ◌∙◌, refl}
use Rattle.std.specs.Prelude.{if◌then◌else◌, is_some, not, ◌&&◌}
use Rattle.std.proofs.lemmas.Bool.{false≢true}
use Rattle.k_num.specs.declared.place.Place.{Place}
use Rattle.k_num.specs.declared.memory.NoMemory.{NoMemory}
use Rattle.k_tree.specs.declared.tokens.Token.{Token}
use Rattle.k_lex_groups.specs.declared.groups.Group.{Group}
use Rattle.k_lex_groups.specs.Steps.{Opens, is_read, asks, opened, another, otherwise, closed}
use Rattle.k_lex_lines.specs.declared.lines.Placed.{Placed}
use Rattle.k_lex_lines.specs.declared.lines.Fault.{Fault}
use Rattle.k_lex_lines.specs.declared.lines.Line.{Line}
use Rattle.k_lex_lines.specs.declared.lines.Test.{Test}
use Rattle.k_lex_lines.specs.declared.rules.Rules.{Rules}
use Rattle.k_lex_lines.specs.declared.state.State.{State}
use Rattle.k_lex_lines.specs.declared.lines.Wrong.TheVariants as wrong
use Rattle.k_lex_lines.specs.declared.lines.Test.TheVariants as question
use Rattle.k_lex_lines.specs.declared.lines.Branch.TheVariants as parts
use Rattle.k_lex_lines.specs.Lines.{fault_at}
use Rattle.k_lex_lines.specs.Directives.{is_defined}
use Rattle.k_lex_lines.specs.Reading.{Turn, stops, goes, decides, formed, opening, is_read_around, tested, alternative, changed, parted, turn, Answer, in_front, Behind, after_condition, Reads, ReadsOn}
use Rattle.k_lex_reading.specs.declared.fault.ReadFault.{ReadFault}
use Rattle.k_lex_reading.specs.declared.fault.ReadFault.TheVariants as stop
use Rattle.k_lex_reading.specs.Steps.{Changes, Does, Looks, Leads, making, WasDecided, Evaluates}

pub does_leads : {X : Type 0} (result : Result X ReadFault) (rules : Rules) (old : State) (t : Turn) (new : State) → Does result t new → Leads result rules old t new
does_leads (Ok x) rules old t new e = λ line lines r is d. Reads.moves old new line lines r (is ∙ e) d
does_leads (Err (stop.Refused f)) rules old t new e = λ line lines is. Reads.refuses old line lines f (is ∙ e)
does_leads (Err stop.Memory) rules old t new e = tt

pub leads_as : {X : Type 0} (result : Result X ReadFault) (rules : Rules) (old : State) (t u : Turn) (new : State) → u ≡ t → Leads result rules old t new → Leads result rules old u new
leads_as result rules old t u new e h = subst (λ (x : Turn). Leads result rules old x new) (sym e) h

pub nothing_in_front : (r : Answer) → in_front [] r ≡ r
nothing_in_front (Ok us) = refl
nothing_in_front (Err e) = refl

-- ---- conditions

pub condition_leads : {X : Type 0} (x : X) (rules : Rules) (hash : Place) (ts : List Placed) (taken passed opens : Opens) (holds : Bool) (old mid new : State)
    → WasDecided rules hash ts holds old mid → opens ≡ (if holds then taken else passed) → new ≡ opening opens mid → Leads (Ok x) rules old (decides hash ts taken passed) new
condition_leads x rules hash ts taken passed opens holds old mid new w opens_is new_is = λ line lines r is d.
    let now : State = record { macros = old.macros; opens = if holds then taken else passed; count = record { made = mid.count.made; sizes = old.count.sizes } } in
    let same : new ≡ now = new_is ∙ (ap (λ (o : Opens). opening o mid) opens_is ∙ ap (λ (s : State). opening (if holds then taken else passed) s) w.is) in
    Reads.tests old line lines hash ts taken passed (Ok (holds, mid.count.made)) r is w.decides
    (subst (ReadsOn rules (Ok ([], now)) lines) (nothing_in_front r) (ReadsOn.on [] now lines r (subst (λ (s : State). Reads rules s lines r) same d)))

pub condition_stops : (X : Type 0) (e : ReadFault) (rules : Rules) (hash : Place) (ts : List Placed) (taken passed : Opens) (old mid new : State)
    → Evaluates (Err e) rules hash ts old mid → Leads {X = X} (Err e) rules old (decides hash ts taken passed) new
condition_stops X (stop.Refused f) rules hash ts taken passed old mid new d = λ line lines is. Reads.tests old line lines hash ts taken passed (Err f) (Err f) is d (ReadsOn.failed f lines)
condition_stops X stop.Memory rules hash ts taken passed old mid new d = tt

-- ---- `#if`

opened_by : (hash : Place) (holds : Bool) (o : Opens) → opened hash holds o ≡ (if holds then opened hash true o else opened hash false o)
opened_by hash true o = refl
opened_by hash false o = refl

pub test_condition : {X : Type 0} (x : X) (rules : Rules) (hash : Place) (ts : List Placed) (holds : Bool) (old mid new : State) → WasDecided rules hash ts holds old mid
    → new ≡ opening (opened hash holds mid.opens) mid → Leads (Ok x) rules old (tested rules hash (question.AsksCondition ts) old) new
test_condition x rules hash ts holds old mid new w e =
    condition_leads x rules hash ts (opened hash true old.opens) (opened hash false old.opens) (opened hash holds mid.opens) holds old mid new w
    (ap (λ (s : State). opened hash holds s.opens) w.is ∙ opened_by hash holds old.opens) e

pub test_name : {X : Type 0} (x : X) (rules : Rules) (hash : Place) (wanted : Bool) (name : List ℕ) (holds : Bool) (old new : State)
    → holds ≡ (if wanted then is_defined rules old.macros name else not (is_defined rules old.macros name))
    → new ≡ opening (opened hash holds old.opens) old → Leads (Ok x) rules old (tested rules hash (question.AsksName wanted name) old) new
test_name x rules hash true name holds old new e is =
    does_leads (Ok x) rules old (tested rules hash (question.AsksName true name) old) new (ap goes (sym (is ∙ ap (λ b. opening (opened hash b old.opens) old) e)))
test_name x rules hash false name holds old new e is =
    does_leads (Ok x) rules old (tested rules hash (question.AsksName false name) old) new (ap goes (sym (is ∙ ap (λ b. opening (opened hash b old.opens) old) e)))

pub starts_unread : {X : Type 0} (x : X) (rules : Rules) (hash : Place) (form : Option Fault) (test : Test) (old new : State) → is_read old.opens ≡ false
    → new ≡ opening (opened hash false old.opens) old → Leads (Ok x) rules old (parted rules hash form (parts.Starts test) old) new
starts_unread x rules hash form test old new e is =
    does_leads (Ok x) rules old (parted rules hash form (parts.Starts test) old) new
    (ap (λ b. if b then formed form (tested rules hash test old) else goes (opening (opened hash false old.opens) old)) e ∙ ap goes (sym is))

pub starts_wrong : (X : Type 0) (rules : Rules) (hash : Place) (f : Fault) (test : Test) (old new : State) → is_read old.opens ≡ true
    → Leads {X = X} (Err (stop.Refused f)) rules old (parted rules hash (Some f) (parts.Starts test) old) new
starts_wrong X rules hash f test old new e =
    does_leads {X = X} (Err (stop.Refused f)) rules old (parted rules hash (Some f) (parts.Starts test) old) new
    (ap (λ b. if b then stops f else goes (opening (opened hash false old.opens) old)) e)

pub starts_read : {X : Type 0} (result : Result X ReadFault) (rules : Rules) (hash : Place) (test : Test) (old new : State) → is_read old.opens ≡ true
    → Leads result rules old (tested rules hash test old) new → Leads result rules old (parted rules hash None (parts.Starts test) old) new
starts_read result rules hash test old new e h =
    leads_as result rules old (tested rules hash test old) (parted rules hash None (parts.Starts test) old) new
    (ap (λ b. if b then tested rules hash test old else goes (opening (opened hash false old.opens) old)) e) h

-- ---- `#elif`

stray : (hash : Place) (form : Option Fault) (ts : List Placed) (a b : Option Opens) (s : State) → is_some a ≡ false → alternative hash form ts a b s ≡ stops (fault_at wrong.StrayElse hash)
stray hash form ts None None s e = refl
stray hash form ts None (Some b) s e = refl
stray hash form ts (Some a) b s e = absurd (false≢true (sym e))

pub elif_stray : (X : Type 0) (rules : Rules) (hash : Place) (form : Option Fault) (ts : List Placed) (old new : State) → is_some (another true old.opens) ≡ false
    → Leads {X = X} (Err (stop.Refused (fault_at wrong.StrayElse hash))) rules old (parted rules hash form (parts.Elif ts) old) new
elif_stray X rules hash form ts old new e =
    does_leads {X = X} (Err (stop.Refused (fault_at wrong.StrayElse hash))) rules old (parted rules hash form (parts.Elif ts) old) new
    (stray hash form ts (another true old.opens) (another false old.opens) old e)

-- what stays open where an `#if` has had its `#else` or not
abbrev by_end : Bool → Opens → Option Opens
by_end ends o = if ends then None else Some o

by_ends : (ends : Bool) (o p : Opens) → is_some (by_end ends o) ≡ true → is_some (by_end ends p) ≡ true
by_ends true o p e = e
by_ends false o p e = refl

-- both can stand, or none
both_stand : (o : Opens) (holds : Bool) → is_some (another true o) ≡ true → is_some (another holds o) ≡ true
both_stand [] holds e = e
both_stand (g ∷ o) holds e = by_ends g.ends _ _ e

-- what is there
abbrev opens_in : Option Opens → Opens
opens_in None = []
opens_in (Some o) = o

-- what can stand is there
there : (a : Option Opens) → is_some a ≡ true → (o : Opens) × (a ≡ Some o)
there None e = absurd (false≢true e)
there (Some o) e = (o, refl)

-- it changes what is open
changes_to : (told : Bool) (want : Option Opens) (old new : State) → is_some want ≡ true → Changes (Ok told) want old new → (want ≡ Some new.opens) × (new ≡ opening new.opens old)
changes_to true want old new e h = h
changes_to false want old new e h = absurd (false≢true (ap is_some (sym h) ∙ e))

skipped : (hash : Place) (form : Option Fault) (ts : List Placed) (a b : Option Opens) (taken passed : Opens) (s : State) → a ≡ Some taken → b ≡ Some passed → asks s.opens ≡ false
    → alternative hash form ts a b s ≡ goes (opening passed s)
skipped hash form ts a b taken passed s ea eb e =
    ap (λ (x : Option Opens). alternative hash form ts x b s) ea ∙ (ap (λ (x : Option Opens). alternative hash form ts (Some taken) x s) eb
    ∙ ap (λ (x : Bool). if x then formed form (decides hash ts taken passed) else goes (opening passed s)) e)

asked : (hash : Place) (form : Option Fault) (ts : List Placed) (a b : Option Opens) (taken passed : Opens) (s : State) → a ≡ Some taken → b ≡ Some passed → asks s.opens ≡ true
    → alternative hash form ts a b s ≡ formed form (decides hash ts taken passed)
asked hash form ts a b taken passed s ea eb e =
    ap (λ (x : Option Opens). alternative hash form ts x b s) ea ∙ (ap (λ (x : Option Opens). alternative hash form ts (Some taken) x s) eb
    ∙ ap (λ (x : Bool). if x then formed form (decides hash ts taken passed) else goes (opening passed s)) e)

pub elif_skipped : {X : Type 0} (x : X) (told : Bool) (rules : Rules) (hash : Place) (form : Option Fault) (ts : List Placed) (old new : State) → is_some (another true old.opens) ≡ true
    → asks old.opens ≡ false → Changes (Ok told) (another false old.opens) old new → Leads (Ok x) rules old (parted rules hash form (parts.Elif ts) old) new
elif_skipped x told rules hash form ts old new e unasked h =
    let taken = there (another true old.opens) e in
    let to = changes_to told (another false old.opens) old new (both_stand old.opens false e) h in
    does_leads (Ok x) rules old (parted rules hash form (parts.Elif ts) old) new
    (skipped hash form ts (another true old.opens) (another false old.opens) taken.0 new.opens old taken.1 to.0 unasked ∙ ap goes (sym to.1))

pub elif_wrong : (X : Type 0) (rules : Rules) (hash : Place) (f : Fault) (ts : List Placed) (old new : State) → is_some (another true old.opens) ≡ true → asks old.opens ≡ true
    → Leads {X = X} (Err (stop.Refused f)) rules old (parted rules hash (Some f) (parts.Elif ts) old) new
elif_wrong X rules hash f ts old new e asks_it =
    let taken = there (another true old.opens) e in
    let passed = there (another false old.opens) (both_stand old.opens false e) in
    does_leads {X = X} (Err (stop.Refused f)) rules old (parted rules hash (Some f) (parts.Elif ts) old) new
    (asked hash (Some f) ts (another true old.opens) (another false old.opens) taken.0 passed.0 old taken.1 passed.1 asks_it)

-- what is open where the condition holds or not
chosen : (holds : Bool) (o taken passed new : Opens) → another true o ≡ Some taken → another false o ≡ Some passed → another holds o ≡ Some new → new ≡ (if holds then taken else passed)
chosen true o taken passed new a b e = ap opens_in (sym e ∙ a)
chosen false o taken passed new a b e = ap opens_in (sym e ∙ b)

pub elif_decided : {X : Type 0} (x : X) (told : Bool) (rules : Rules) (hash : Place) (ts : List Placed) (holds : Bool) (old mid new : State) → is_some (another true old.opens) ≡ true
    → asks old.opens ≡ true → WasDecided rules hash ts holds old mid → Changes (Ok told) (another holds mid.opens) mid new
    → Leads (Ok x) rules old (parted rules hash None (parts.Elif ts) old) new
elif_decided x told rules hash ts holds old mid new e asks_it w h =
    let taken = there (another true old.opens) e in
    let passed = there (another false old.opens) (both_stand old.opens false e) in
    let same : another holds mid.opens ≡ another holds old.opens = ap (λ (s : State). another holds s.opens) w.is in
    let to = changes_to told (another holds mid.opens) mid new (ap is_some same ∙ both_stand old.opens holds e) h in
    leads_as (Ok x) rules old (decides hash ts taken.0 passed.0) (parted rules hash None (parts.Elif ts) old) new
    (asked hash None ts (another true old.opens) (another false old.opens) taken.0 passed.0 old taken.1 passed.1 asks_it)
    (condition_leads x rules hash ts taken.0 passed.0 new.opens holds old mid new w (chosen holds old.opens taken.0 passed.0 new.opens taken.1 passed.1 (sym same ∙ to.0)) to.1)

pub elif_stops : (X : Type 0) (fault : ReadFault) (rules : Rules) (hash : Place) (ts : List Placed) (old mid new : State) → is_some (another true old.opens) ≡ true
    → asks old.opens ≡ true → Evaluates (Err fault) rules hash ts old mid → Leads {X = X} (Err fault) rules old (parted rules hash None (parts.Elif ts) old) new
elif_stops X fault rules hash ts old mid new e asks_it d =
    let taken = there (another true old.opens) e in
    let passed = there (another false old.opens) (both_stand old.opens false e) in
    leads_as {X = X} (Err fault) rules old (decides hash ts taken.0 passed.0) (parted rules hash None (parts.Elif ts) old) new
    (asked hash None ts (another true old.opens) (another false old.opens) taken.0 passed.0 old taken.1 passed.1 asks_it)
    (condition_stops X fault rules hash ts taken.0 passed.0 old mid new d)

-- ---- `#else` and `#endif`

pub ends_stray : (X : Type 0) (hash : Place) (form : Option Fault) (want : Option Opens) (old new : State) → want ≡ None
    → Does {X = X} (Err (stop.Refused (fault_at wrong.StrayElse hash))) (changed hash form want old) new
ends_stray X hash form want old new e = ap (λ (x : Option Opens). changed hash form x old) e

pub ends_looked : {X : Type 0} (result : Result X ReadFault) (hash : Place) (form : Option Fault) (want : Option Opens) (around : Bool) (old new : State)
    → around ≡ is_read_around old.opens → Looks result around form → Changes (Ok true) want old new → Does result (changed hash form want old) new
ends_looked (Ok x) hash form want around old new e look h =
    ap (λ (o : Option Opens). changed hash form o old) h.0
    ∙ (ap (λ b. if b then formed form (goes (opening new.opens old)) else goes (opening new.opens old)) (sym e)
    ∙ (look (goes (opening new.opens old)) ∙ ap goes (sym h.1)))
ends_looked (Err (stop.Refused f)) hash form want around old new e look h =
    ap (λ (o : Option Opens). changed hash form o old) h.0
    ∙ (ap (λ b. if b then formed form (goes (opening new.opens old)) else goes (opening new.opens old)) (sym e) ∙ look (goes (opening new.opens old)))
ends_looked (Err stop.Memory) hash form want around old new e look h = tt
