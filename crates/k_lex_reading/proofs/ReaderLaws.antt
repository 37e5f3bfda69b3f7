-- What the reader makes of the lines that come.
use Rattle.std.proofs.Common.{◌≡◌, ℕ, Bool, true, false, List, [], ◌∷◌, ◌++◌, Option, Some, None, Result, Ok, Err, ap, sym, subst, ◌∙◌, refl, append_assoc}
use Rattle.std.specs.Prelude.{if◌then◌else◌}
use Rattle.std.proofs.lemmas.Bool.{false≢true}
use Rattle.std.proofs.lemmas.List.{append-nil}
use Rattle.k_num.specs.declared.place.Place.{Place}
use Rattle.k_tree.specs.declared.tokens.Token.{Token}
use Rattle.k_lex_groups.specs.Steps.{is_read, innermost}
use Rattle.k_lex_expansion.specs.declared.macros.Macro.{Macro}
use Rattle.k_lex_lines.specs.declared.lines.Placed.{Placed}
use Rattle.k_lex_lines.specs.declared.lines.Fault.{Fault}
use Rattle.k_lex_lines.specs.declared.lines.Line.{Line}
use Rattle.k_lex_lines.specs.declared.lines.Line.TheVariants as l
use Rattle.k_lex_lines.specs.declared.lines.Wrong.TheVariants as wrong
use Rattle.k_lex_lines.specs.declared.rules.Count.{Count}
use Rattle.k_lex_lines.specs.declared.rules.Rules.{Rules}
use Rattle.k_lex_lines.specs.declared.state.State.{State}
use Rattle.k_lex_lines.specs.Lines.{fault_at, text_of, behind_text, cut_by}
use Rattle.k_lex_lines.specs.Text.{Judge, TextRead, in_text, Text}
use Rattle.k_lex_lines.specs.Reading.{Turn, stops, goes, reads, decides, turn, Answer, in_front, at_end, after_text, start, Reads, ReadsOn}
use Rattle.k_lex_reading.specs.declared.fault.ReadFault.{ReadFault}
use Rattle.k_lex_reading.specs.declared.fault.ReadFault.TheVariants as stop
use Rattle.k_lex_reading.specs.Texts.{TextFails, WasRead, ReadsText}
use Rattle.k_lex_reading.specs.Steps.{Leads}
use Rattle.k_lex_reading.specs.Readers.{Held, with_text, Gives, Takes, Ends, ReadsAll, StopsAt, WasFlushed, Flushes, is_other}
use Rattle.k_lex_reading.proofs.StepLaws.{nothing_in_front}

-- ---- text

-- an answer of tokens
abbrev ok_tokens : List Token → Answer
ok_tokens us = Ok us

-- the tokens of a text, or others where it is refused
abbrev tokens_in : List Token → TextRead → List Token
tokens_in us (Ok (vs, count)) = vs
tokens_in us (Err e) = us

-- how much there is, or so much where it is refused
abbrev count_in : Count → TextRead → Count
count_in total (Ok (vs, count)) = count
count_in total (Err e) = total

ok_fst : (us vs : List Token) (a b : Count) → ◌≡◌ {A = TextRead} (Ok (us, a)) (Ok (vs, b)) → us ≡ vs
ok_fst us vs a b e = ap (tokens_in us) e

ok_snd : (us vs : List Token) (a b : Count) → ◌≡◌ {A = TextRead} (Ok (us, a)) (Ok (vs, b)) → a ≡ b
ok_snd us vs a b e = ap (count_in a) e

-- whether a text is refused
abbrev is_refused : TextRead → Bool
is_refused (Ok x) = false
is_refused (Err e) = true

err_not_ok : (f : Fault) (x : List Token × Count) → ◌≡◌ {A = TextRead} (Err f) (Ok x) → ⊥
err_not_ok f x e = false≢true (sym (ap is_refused e))

in_front_twice : (us vs : List Token) (r : Answer) → in_front us (in_front vs r) ≡ in_front (us ++ vs) r
in_front_twice us vs (Ok ws) = ap (λ (x : List Token). ok_tokens x) (sym (append_assoc us vs ws))
in_front_twice us vs (Err e) = refl

-- what no text gives
abbrev IfEmpty : List Placed → Count → TextRead → Type 0
IfEmpty [] count read = read ≡ Ok ([], count)
IfEmpty (t ∷ ts) count read = Unit {0}

if_empty : (macros : List Macro) (limit : ℕ) (judge : Judge) (cut : Option Fault) {count : Count} {ts : List Placed} {read : TextRead} → Text macros limit judge cut count ts read → IfEmpty ts count read
if_empty macros limit judge cut (Text.over count) = refl
if_empty macros limit judge cut (Text.use_first count t ts r read d more) = tt

-- a text before lines at which it stops
text_before : (rules : Rules) (s : State) (ts : List Placed) (cut : Option Fault) (lines : List Line) (read : TextRead) (r : Answer) → is_read s.opens ≡ true → StopsAt cut lines
    → Text s.macros rules.limits.made (in_text rules.limits) cut s.count ts read → ReadsOn rules (after_text s read) lines r → Reads rules s (l.Text ts ∷ lines) r
text_before rules s ts cut lines read r e at text behind =
    Reads.replaces s (l.Text ts) lines ts read r (ap (λ b. if b then reads ts else goes s) e)
    (subst (λ (c : Option Fault). Text s.macros rules.limits.made (in_text rules.limits) c s.count (ts ++ text_of lines) read) (sym at.cut_is)
    (subst (λ (x : List Placed). Text s.macros rules.limits.made (in_text rules.limits) cut s.count x read) (sym (ap (λ (x : List Placed). ts ++ x) at.no_text ∙ append-nil ts)) text))
    (subst (λ (x : List Line). ReadsOn rules (after_text s read) x r) (sym at.all_behind) behind)

-- a text that isn't read
text_unread : (rules : Rules) (s : State) (ts : List Placed) (lines : List Line) (r : Answer) → is_read s.opens ≡ false → Reads rules s lines r → Reads rules s (l.Text ts ∷ lines) r
text_unread rules s ts lines r e d = Reads.moves s s (l.Text ts) lines r (ap (λ b. if b then reads ts else goes s) e) d

with_text_unread : (rules : Rules) (s : State) (ts : List Placed) (lines : List Line) (r : Answer) → is_read s.opens ≡ false → Reads rules s lines r → Reads rules s (with_text ts lines) r
with_text_unread rules s [] lines r e d = d
with_text_unread rules s (t ∷ ts) lines r e d = text_unread rules s (t ∷ ts) lines r e d

-- ---- the text so far

abbrev counting : Count → State → State
counting count s = record { macros = s.macros; opens = s.opens; count = count }

flushed : (rules : Rules) (s : State) (ts : List Placed) (cut : Option Fault) (total : Count) (us : List Token) (lines : List Line) (r : Answer) → is_read s.opens ≡ true → StopsAt cut lines
    → Text s.macros rules.limits.made (in_text rules.limits) cut s.count ts (Ok (us, total)) → Reads rules (counting total s) lines r → Reads rules s (with_text ts lines) (in_front us r)
flushed rules s [] cut total us lines r e at text d =
    let both : ◌≡◌ {A = TextRead} (Ok (us, total)) (Ok ([], s.count)) = if_empty s.macros rules.limits.made (in_text rules.limits) cut text in
    let none : us ≡ [] = ok_fst us [] total s.count both in
    let same : total ≡ s.count = ok_snd us [] total s.count both in
    subst (Reads rules s lines) (sym (ap (λ (x : List Token). in_front x r) none ∙ nothing_in_front r)) (subst (λ (c : Count). Reads rules (counting c s) lines r) same d)
flushed rules s (t ∷ ts) cut total us lines r e at text d =
    text_before rules s (t ∷ ts) cut lines (Ok (us, total)) (in_front us r) e at text (ReadsOn.on us (counting total s) lines r d)

pub flush_read : (rules : Rules) (s : State) (ts : List Placed) (tokens new : List Token) (cut : Option Fault) (total : Count) → is_read s.opens ≡ true
    → WasRead s.macros rules.limits.made (in_text rules.limits) cut ts s.count tokens total new
    → (empty : List Placed) → empty ≡ [] → WasFlushed cut (record { rules = rules; state = s; pending = ts; tokens = tokens }) (record { rules = rules; state = counting total s; pending = empty; tokens = new })
flush_read rules s ts tokens new cut total e w empty is = record {
  leads = λ lines answer at g.
      let here : Reads rules (counting total s) lines g.rest = subst (λ (x : List Placed). Reads rules (counting total s) (with_text x lines) g.rest) is g.reading in
      record {
        rest = in_front w.us g.rest;
        reading = flushed rules s ts cut total w.us lines g.rest e at w.text here;
        is = g.is ∙ (ap (λ (x : List Token). in_front x g.rest) w.added ∙ sym (in_front_twice tokens w.us g.rest));
      };
  empty = is;
  rules_are = refl;
}

pub flush_unread : (rules : Rules) (s : State) (ts empty : List Placed) (tokens : List Token) (cut : Option Fault) → is_read s.opens ≡ false → empty ≡ []
    → WasFlushed cut (record { rules = rules; state = s; pending = ts; tokens = tokens }) (record { rules = rules; state = s; pending = empty; tokens = tokens })
flush_unread rules s ts empty tokens cut e is = record {
  leads = λ lines answer at g. record {
    rest = g.rest;
    reading = with_text_unread rules s ts lines g.rest e (subst (λ (x : List Placed). Reads rules s (with_text x lines) g.rest) is g.reading);
    is = g.is;
  };
  empty = is;
  rules_are = refl;
}

fails : (rules : Rules) (s : State) (ts : List Placed) (cut : Option Fault) (f : Fault) (lines : List Line) → is_read s.opens ≡ true → StopsAt cut lines
    → Text s.macros rules.limits.made (in_text rules.limits) cut s.count ts (Err f) → Reads rules s (with_text ts lines) (Err f)
fails rules s [] cut f lines e at text = absurd (err_not_ok f ([], s.count) (if_empty s.macros rules.limits.made (in_text rules.limits) cut text))
fails rules s (t ∷ ts) cut f lines e at text = text_before rules s (t ∷ ts) cut lines (Err f) (Err f) e at text (ReadsOn.failed f lines)

pub flush_stops : (X : Type 0) (fault : ReadFault) (rules : Rules) (s : State) (ts : List Placed) (tokens : List Token) (cut : Option Fault) (new : Held) → is_read s.opens ≡ true
    → TextFails fault s.macros rules.limits.made (in_text rules.limits) cut s.count ts → Flushes {X = X} (Err fault) cut (record { rules = rules; state = s; pending = ts; tokens = tokens }) new
flush_stops X (stop.Refused f) rules s ts tokens cut new e text = λ lines at. record { rest = Err f; reading = fails rules s ts cut f lines e at text; is = refl }
flush_stops X stop.Memory rules s ts tokens cut new e text = tt

-- ---- a line of text

-- lines behind text that were read with it
record WasText (rules : Rules) (s : State) (lines : List Line) (ts : List Placed) (r : Answer) : Type 0 where
  read : TextRead
  text : Text s.macros rules.limits.made (in_text rules.limits) (cut_by lines) s.count (ts ++ text_of lines) read
  behind : ReadsOn rules (after_text s read) (behind_text lines) r

abbrev ByTurn : Rules → State → List Line → Turn → Answer → Type 0
ByTurn rules s lines (reads ts) r = WasText rules s lines ts r
ByTurn rules s lines _ r = Unit {0}

abbrev ByLines : Rules → State → List Line → Answer → Type 0
ByLines rules s [] r = Unit {0}
ByLines rules s (line ∷ lines) r = ByTurn rules s lines (turn rules s line) r

by_lines : (rules : Rules) {s : State} {lines : List Line} {r : Answer} → Reads rules s lines r → ByLines rules s lines r
by_lines rules (Reads.over s) = tt
by_lines rules (Reads.refuses s line lines fault e) = subst (λ t. ByTurn rules s lines t (Err fault)) (sym e) tt
by_lines rules (Reads.moves s new line lines r e d) = subst (λ t. ByTurn rules s lines t r) (sym e) tt
by_lines rules (Reads.replaces s line lines ts read r e x d) = subst (λ t. ByTurn rules s lines t r) (sym e) (record { read = read; text = x; behind = d })
by_lines rules (Reads.tests s line lines hash ts taken passed c r e x d) = subst (λ t. ByTurn rules s lines t r) (sym e) tt

was_text : (rules : Rules) (s : State) (ts : List Placed) (lines : List Line) (r : Answer) → is_read s.opens ≡ true → Reads rules s (l.Text ts ∷ lines) r → WasText rules s lines ts r
was_text rules s ts lines r e d = subst (λ t. ByTurn rules s lines t r) (ap (λ b. if b then reads ts else goes s) e) (by_lines rules d)

-- text without tokens before lines at which it stops
empty_stops : (rules : Rules) (s : State) (cut : Option Fault) (lines : List Line) (r : Answer) → is_read s.opens ≡ true → StopsAt cut lines → Reads rules s lines r → Reads rules s (l.Text [] ∷ lines) r
empty_stops rules s cut lines r e at d =
    text_before rules s [] cut lines (Ok ([], s.count)) r e at (Text.over s.count)
    (subst (ReadsOn rules (Ok ([], s)) lines) (nothing_in_front r) (ReadsOn.on [] s lines r d))

empty_before : (rules : Rules) (s : State) (lines : List Line) (r : Answer) → is_read s.opens ≡ true → Reads rules s lines r → Reads rules s (l.Text [] ∷ lines) r
empty_before rules s [] r e d = empty_stops rules s None [] r e (record { cut_is = refl; no_text = refl; all_behind = refl }) d
empty_before rules s (l.Text us ∷ lines) r e d =
    let w = was_text rules s us lines r e d in
    Reads.replaces s (l.Text []) (l.Text us ∷ lines) [] w.read r (ap (λ b. if b then reads [] else goes s) e) w.text w.behind
empty_before rules s (l.Broken always fault ∷ lines) r e d =
    empty_stops rules s (cut_by (l.Broken always fault ∷ lines)) (l.Broken always fault ∷ lines) r e (record { cut_is = refl; no_text = refl; all_behind = refl }) d
empty_before rules s (l.Branch hash form it ∷ lines) r e d =
    empty_stops rules s (cut_by (l.Branch hash form it ∷ lines)) (l.Branch hash form it ∷ lines) r e (record { cut_is = refl; no_text = refl; all_behind = refl }) d
empty_before rules s (l.Directive hash form it ∷ lines) r e d =
    empty_stops rules s (cut_by (l.Directive hash form it ∷ lines)) (l.Directive hash form it ∷ lines) r e (record { cut_is = refl; no_text = refl; all_behind = refl }) d

more_text : (rules : Rules) (s : State) (old ts : List Placed) (lines : List Line) (r : Answer) → is_read s.opens ≡ true
    → Reads rules s (with_text (old ++ ts) lines) r → Reads rules s (with_text old (l.Text ts ∷ lines)) r
more_text rules s [] [] lines r e d = empty_before rules s lines r e d
more_text rules s [] (t ∷ ts) lines r e d = d
more_text rules s (o ∷ old) ts lines r e d =
    let w = was_text rules s (o ∷ old ++ ts) lines r e d in
    Reads.replaces s (l.Text (o ∷ old)) (l.Text ts ∷ lines) (o ∷ old) w.read r (ap (λ b. if b then reads (o ∷ old) else goes s) e)
    (subst (λ (x : List Placed). Text s.macros rules.limits.made (in_text rules.limits) (cut_by lines) s.count x w.read) (append_assoc (o ∷ old) ts (text_of lines)) w.text) w.behind

pub takes_text : {X : Type 0} (x : X) (rules : Rules) (s : State) (old ts new : List Placed) (tokens : List Token) → is_read s.opens ≡ true → new ≡ old ++ ts
    → Takes (Ok x) (record { rules = rules; state = s; pending = old; tokens = tokens }) (l.Text ts) (record { rules = rules; state = s; pending = new; tokens = tokens })
takes_text x rules s old ts new tokens e is = λ lines answer g. record {
  rest = g.rest;
  reading = more_text rules s old ts lines g.rest e (subst (λ (z : List Placed). Reads rules s (with_text z lines) g.rest) is g.reading);
  is = g.is;
}

pub passes_text : {X : Type 0} (x : X) (rules : Rules) (s : State) (old ts new : List Placed) (tokens : List Token) → is_read s.opens ≡ false → new ≡ []
    → Takes (Ok x) (record { rules = rules; state = s; pending = old; tokens = tokens }) (l.Text ts) (record { rules = rules; state = s; pending = new; tokens = tokens })
passes_text x rules s old ts new tokens e is = λ lines answer g. record {
  rest = g.rest;
  reading = with_text_unread rules s old (l.Text ts ∷ lines) g.rest e (text_unread rules s ts lines g.rest e (subst (λ (z : List Placed). Reads rules s (with_text z lines) g.rest) is g.reading));
  is = g.is;
}

-- ---- other lines

-- text stops at a line that is none
pub stops_at : (line : Line) (lines : List Line) → is_other line ≡ true → StopsAt (cut_by (line ∷ [])) (line ∷ lines)
stops_at (l.Text ts) lines e = absurd (false≢true e)
stops_at (l.Broken always fault) lines e = record { cut_is = refl; no_text = refl; all_behind = refl }
stops_at (l.Branch hash form it) lines e = record { cut_is = refl; no_text = refl; all_behind = refl }
stops_at (l.Directive hash form it) lines e = record { cut_is = refl; no_text = refl; all_behind = refl }

-- with that known
abbrev pub knowing : State → Held → Held
knowing s h = record { rules = h.rules; state = s; pending = h.pending; tokens = h.tokens }

pub takes_other : {X : Type 0} (result : Result X ReadFault) (line : Line) (cut : Option Fault) (old mid : Held) (state : State) → is_other line ≡ true → cut ≡ cut_by (line ∷ [])
    → WasFlushed cut old mid → Leads result mid.rules mid.state (turn mid.rules mid.state line) state → Takes result old line (knowing state mid)
takes_other (Ok x) line cut old mid state e cut_is w d = λ lines answer g.
    let at : StopsAt cut (line ∷ lines) = subst (λ (c : Option Fault). StopsAt c (line ∷ lines)) (sym cut_is) (stops_at line lines e) in
    let here : Reads mid.rules state lines g.rest = subst (λ (z : List Placed). Reads mid.rules state (with_text z lines) g.rest) w.empty g.reading in
    let before : Reads mid.rules mid.state (line ∷ lines) g.rest = d line lines g.rest refl here in
    w.leads (line ∷ lines) answer at
    (record { rest = g.rest; reading = subst (λ (z : List Placed). Reads mid.rules mid.state (with_text z (line ∷ lines)) g.rest) (sym w.empty) before; is = g.is })
takes_other (Err (stop.Refused f)) line cut old mid state e cut_is w d = λ lines.
    let at : StopsAt cut (line ∷ lines) = subst (λ (c : Option Fault). StopsAt c (line ∷ lines)) (sym cut_is) (stops_at line lines e) in
    w.leads (line ∷ lines) (Err f) at
    (record { rest = Err f; reading = subst (λ (z : List Placed). Reads mid.rules mid.state (with_text z (line ∷ lines)) (Err f)) (sym w.empty) (d line lines refl); is = refl })
takes_other (Err stop.Memory) line cut old mid state e cut_is w d = tt

pub flush_takes : (X Y : Type 0) (fault : ReadFault) (line : Line) (cut : Option Fault) (old mid new : Held) → is_other line ≡ true → cut ≡ cut_by (line ∷ [])
    → Flushes {X = X} (Err fault) cut old mid → Takes {X = Y} (Err fault) old line new
flush_takes X Y (stop.Refused f) line cut old mid new e cut_is h = λ lines. h (line ∷ lines) (subst (λ (c : Option Fault). StopsAt c (line ∷ lines)) (sym cut_is) (stops_at line lines e))
flush_takes X Y stop.Memory line cut old mid new e cut_is h = tt

-- ---- the end

-- no line follows
no_lines : StopsAt None []
no_lines = record { cut_is = refl; no_text = refl; all_behind = refl }

over_as : (rules : Rules) (s : State) (place : Option Place) → innermost s.opens ≡ place → Reads rules s [] (at_end place)
over_as rules s place e = subst (λ (p : Option Place). Reads rules s [] (at_end p)) e (Reads.over s)

pub ends_well : (old mid : Held) → WasFlushed None old mid → innermost mid.state.opens ≡ None → Ends (Ok mid.tokens) old
ends_well old mid w e = w.leads [] (Ok mid.tokens) no_lines (record {
  rest = Ok [];
  reading = subst (λ (z : List Placed). Reads mid.rules mid.state (with_text z []) (Ok [])) (sym w.empty) (over_as mid.rules mid.state None e);
  is = ap ok_tokens (sym (append-nil mid.tokens));
})

pub ends_open : (old mid : Held) (place : Place) → WasFlushed None old mid → innermost mid.state.opens ≡ Some place → Ends (Err (stop.Refused (fault_at wrong.OpenIf place))) old
ends_open old mid place w e = w.leads [] (Err (fault_at wrong.OpenIf place)) no_lines (record {
  rest = Err (fault_at wrong.OpenIf place);
  reading = subst (λ (z : List Placed). Reads mid.rules mid.state (with_text z []) (Err (fault_at wrong.OpenIf place))) (sym w.empty) (over_as mid.rules mid.state (Some place) e);
  is = refl;
})

pub ends_stopped : (X : Type 0) (fault : ReadFault) (old mid : Held) → Flushes {X = X} (Err fault) None old mid → Ends (Err fault) old
ends_stopped X (stop.Refused f) old mid h = h [] no_lines
ends_stopped X stop.Memory old mid h = tt

-- ---- all lines

-- nothing is read
abbrev pub begun : Rules → Held
begun rules = record { rules = rules; state = start; pending = []; tokens = [] }

pub begun_reads : (rules : Rules) (lines : List Line) (answer : Answer) → Gives (begun rules) lines answer → Reads rules start lines answer
begun_reads rules lines answer g = subst (Reads rules start lines) (sym (g.is ∙ nothing_in_front g.rest)) g.reading

pub reads_begun : (rules : Rules) (lines : List Line) (answer : Answer) → Reads rules start lines answer → Gives (begun rules) lines answer
reads_begun rules lines answer d = record { rest = answer; reading = d; is = sym (nothing_in_front answer) }
