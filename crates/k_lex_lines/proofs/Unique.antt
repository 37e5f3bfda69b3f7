-- Lines have one reading.
use Rattle.std.proofs.Common.{◌≡◌, ℕ, Bool, List, [], ◌∷◌, ◌++◌, Option, Some, None, Result, Ok, Err, ap, sym, subst, ◌∙◌, refl}
use Rattle.std.specs.Prelude.{is_none, map}
use Rattle.k_num.specs.declared.place.Place.{Place}
use Rattle.k_tree.specs.Spelling.{Spelled}
use Rattle.k_tree.specs.declared.tokens.Token.{Token}
use Rattle.k_lex_groups.specs.Steps.{Opens, innermost}
use Rattle.k_lex_conditions.specs.declared.value.Known.{Known}
use Rattle.k_lex_conditions.specs.Conditions.{holding, Condition, IsDecided}
use Rattle.k_lex_conditions.specs.Values.{value}
use Rattle.k_lex_conditions.proofs.Decided.{one_tree}
use Rattle.k_lex_expansion.specs.declared.macros.Macro.{Macro}
use Rattle.k_lex_expansion.specs.declared.failure.Failure.{Failure}
use Rattle.k_lex_expansion.specs.Expansion.{Done, Expands}
use Rattle.k_lex_expansion.specs.Laws.{ExpansionsAreOne}
use Rattle.k_lex_lines.specs.declared.lines.Placed.{Placed}
use Rattle.k_lex_lines.specs.declared.lines.Fault.{Fault}
use Rattle.k_lex_lines.specs.declared.lines.Line.{Line}
use Rattle.k_lex_lines.specs.declared.rules.Count.{Count}
use Rattle.k_lex_lines.specs.declared.rules.Rules.{Rules}
use Rattle.k_lex_lines.specs.Lines.{text_of, behind_text, cut_by}
use Rattle.k_lex_lines.specs.Text.{Judge, TextRead, Used, used, use_of, before, in_text, Text, Follows}
use Rattle.k_lex_lines.specs.Directives.{Decision, decision, Decided, DecidesFound, Decides, found, is_defined}
use Rattle.k_lex_lines.specs.declared.state.State.{State}
use Rattle.k_lex_lines.specs.Reading.{Turn, stops, goes, reads, decides, turn, Answer, in_front, at_end, Behind, after_text, after_condition, Reads, ReadsOn}

-- ---- conditions

-- a condition has one value
same_holds : (names : List Known) (ts : Spelled) (a b : Bool) → Condition names ts a → Condition names ts b → ◌≡◌ {A = Option Bool} (Some a) (Some b)
same_holds names ts a b x y =
    sym x.valued ∙ (ap (λ t. holding (value names t).number) (one_tree x.tree y.tree x.ranked y.ranked (x.spelled ∙ sym y.spelled)) ∙ y.valued)

same_decided : (names : List Known) (ts : Spelled) (a b : Option Bool) → IsDecided names ts a → IsDecided names ts b → a ≡ b
same_decided names ts None None x y = refl
same_decided names ts None (Some b) x y = absurd (x b y)
same_decided names ts (Some a) None x y = absurd (y a x)
same_decided names ts (Some a) (Some b) x y = same_holds names ts a b x y

-- ---- text

-- the rest of a text behind a use
record WentOn (macros : List Macro) (limit : ℕ) (judge : Judge) (cut : Option Fault) (us : List Token) (count : Count) (ts : List Placed) (read : TextRead) : Type 0 where
  rest : TextRead
  text : Text macros limit judge cut count ts rest
  is : read ≡ before us rest

abbrev ByUsed : List Macro → ℕ → Judge → Option Fault → Used → TextRead → Type 0
ByUsed macros limit judge cut (Ok (us, count, ts)) read = WentOn macros limit judge cut us count ts read
ByUsed macros limit judge cut (Err e) read = read ≡ Err e

by_used : (macros : List Macro) (limit : ℕ) (judge : Judge) (cut : Option Fault) {u : Used} {read : TextRead} → Follows macros limit judge cut u read → ByUsed macros limit judge cut u read
by_used macros limit judge cut (Follows.on us count ts read d) = record { rest = read; text = d; is = refl }
by_used macros limit judge cut (Follows.failed e) = refl

-- the first use of a text
record UseFirst (macros : List Macro) (limit : ℕ) (judge : Judge) (cut : Option Fault) (count : Count) (t : Placed) (ts : List Placed) (read : TextRead) : Type 0 where
  result : Result Done Failure
  expands : Expands macros limit (use_of count.made t ts (is_none cut)) result
  follows : Follows macros limit judge cut (used judge cut t ts count.sizes result) read

abbrev ByText : List Macro → ℕ → Judge → Option Fault → Count → List Placed → TextRead → Type 0
ByText macros limit judge cut count [] read = read ≡ Ok ([], count)
ByText macros limit judge cut count (t ∷ ts) read = UseFirst macros limit judge cut count t ts read

by_text : (macros : List Macro) (limit : ℕ) (judge : Judge) (cut : Option Fault) {count : Count} {ts : List Placed} {read : TextRead} → Text macros limit judge cut count ts read → ByText macros limit judge cut count ts read
by_text macros limit judge cut (Text.over count) = refl
by_text macros limit judge cut (Text.use_first count t ts r read d more) = record { result = r; expands = d; follows = more }

mutual
  text_once : ExpansionsAreOne → (macros : List Macro) (limit : ℕ) (judge : Judge) (cut : Option Fault) {count : Count} {ts : List Placed} {a : TextRead} → Text macros limit judge cut count ts a
      → (b : TextRead) → Text macros limit judge cut count ts b → a ≡ b
  text_once ones macros limit judge cut (Text.over count) b y = sym (by_text macros limit judge cut y)
  text_once ones macros limit judge cut (Text.use_first count t ts r a d more) b y =
      let other : UseFirst macros limit judge cut count t ts b = by_text macros limit judge cut y in
      let same : r ≡ other.result = ones macros limit (use_of count.made t ts (is_none cut)) r other.result d other.expands in
      follows_once ones macros limit judge cut more b (subst (λ x. Follows macros limit judge cut (used judge cut t ts count.sizes x) b) (sym same) other.follows)

  follows_once : ExpansionsAreOne → (macros : List Macro) (limit : ℕ) (judge : Judge) (cut : Option Fault) {u : Used} {a : TextRead} → Follows macros limit judge cut u a
      → (b : TextRead) → Follows macros limit judge cut u b → a ≡ b
  follows_once ones macros limit judge cut (Follows.on us count ts a d) b y =
      let other : WentOn macros limit judge cut us count ts b = by_used macros limit judge cut y in
      ap (before us) (text_once ones macros limit judge cut d other.rest other.text) ∙ sym other.is
  follows_once ones macros limit judge cut (Follows.failed e) b y = sym (by_used macros limit judge cut y)

-- ---- decisions

decided_once : (rules : Rules) (hash : Place) (read : TextRead) (a b : Decision) → Decided rules hash read a → Decided rules hash read b → a ≡ b
decided_once rules hash (Err e) a b x y = x ∙ sym y
decided_once rules hash (Ok (us, count)) a b x y =
    x.is ∙ (ap (decision hash count.made) (same_decided rules.names (map (λ (u : Token). u.what) us) x.holds y.holds x.decided y.decided) ∙ sym y.is)

decides_once : ExpansionsAreOne → (rules : Rules) (macros : List Macro) (hash : Place) (made : ℕ) (ts : Option (List Placed)) (a b : Decision)
    → DecidesFound rules macros hash made ts a → DecidesFound rules macros hash made ts b → a ≡ b
decides_once ones rules macros hash made None a b x y = x ∙ sym y
decides_once ones rules macros hash made (Some ts) a b x y =
    let same : x.read ≡ y.read = text_once ones macros _ _ _ x.text y.read y.text in
    decided_once rules hash x.read a b x.decided (subst (λ r. Decided rules hash r b) (sym same) y.decided)

-- ---- lines

record WasReplaced (rules : Rules) (s : State) (lines : List Line) (ts : List Placed) (r : Answer) : Type 0 where
  read : TextRead
  text : Text s.macros rules.limits.made (in_text rules.limits) (cut_by lines) s.count (ts ++ text_of lines) read
  behind : ReadsOn rules (after_text s read) (behind_text lines) r

record WasTested (rules : Rules) (s : State) (lines : List Line) (hash : Place) (ts : List Placed) (taken passed : Opens) (r : Answer) : Type 0 where
  decision : Decision
  evaluates : Decides rules s.macros hash s.count.made ts decision
  behind : ReadsOn rules (after_condition s taken passed decision) lines r

abbrev ByTurn : Rules → State → List Line → Turn → Answer → Type 0
ByTurn rules s lines (stops fault) r = r ≡ Err fault
ByTurn rules s lines (goes new) r = Reads rules new lines r
ByTurn rules s lines (reads ts) r = WasReplaced rules s lines ts r
ByTurn rules s lines (decides hash ts taken passed) r = WasTested rules s lines hash ts taken passed r

abbrev ByLines : Rules → State → List Line → Answer → Type 0
ByLines rules s [] r = r ≡ at_end (innermost s.opens)
ByLines rules s (line ∷ lines) r = ByTurn rules s lines (turn rules s line) r

by_lines : (rules : Rules) {s : State} {lines : List Line} {r : Answer} → Reads rules s lines r → ByLines rules s lines r
by_lines rules (Reads.over s) = refl
by_lines rules (Reads.refuses s line lines fault e) = subst (λ t. ByTurn rules s lines t (Err fault)) (sym e) refl
by_lines rules (Reads.moves s new line lines r e d) = subst (λ t. ByTurn rules s lines t r) (sym e) d
by_lines rules (Reads.replaces s line lines ts read r e x d) = subst (λ t. ByTurn rules s lines t r) (sym e) (record { read = read; text = x; behind = d })
by_lines rules (Reads.tests s line lines hash ts taken passed c r e x d) = subst (λ t. ByTurn rules s lines t r) (sym e) (record { decision = c; evaluates = x; behind = d })

-- the lines behind tokens
record WentBehind (rules : Rules) (us : List Token) (s : State) (lines : List Line) (r : Answer) : Type 0 where
  rest : Answer
  lines_read : Reads rules s lines rest
  is : r ≡ in_front us rest

abbrev ByBehind : Rules → Behind → List Line → Answer → Type 0
ByBehind rules (Ok (us, s)) lines r = WentBehind rules us s lines r
ByBehind rules (Err e) lines r = r ≡ Err e

by_behind : (rules : Rules) {b : Behind} {lines : List Line} {r : Answer} → ReadsOn rules b lines r → ByBehind rules b lines r
by_behind rules (ReadsOn.on us s lines r d) = record { rest = r; lines_read = d; is = refl }
by_behind rules (ReadsOn.failed e lines) = refl

mutual
  once : ExpansionsAreOne → (rules : Rules) {s : State} {lines : List Line} {r : Answer} → Reads rules s lines r → (q : Answer) → Reads rules s lines q → r ≡ q
  once ones rules (Reads.over s) q y = sym (by_lines rules y)
  once ones rules (Reads.refuses s line lines fault e) q y = sym (subst (λ t. ByTurn rules s lines t q) e (by_lines rules y))
  once ones rules (Reads.moves s new line lines r e d) q y = once ones rules d q (subst (λ t. ByTurn rules s lines t q) e (by_lines rules y))
  once ones rules (Reads.replaces s line lines ts read r e x d) q y =
      let other : WasReplaced rules s lines ts q = subst (λ t. ByTurn rules s lines t q) e (by_lines rules y) in
      let same : read ≡ other.read = text_once ones s.macros rules.limits.made (in_text rules.limits) (cut_by lines) x other.read other.text in
      on_once ones rules d q (subst (λ z. ReadsOn rules (after_text s z) (behind_text lines) q) (sym same) other.behind)
  once ones rules (Reads.tests s line lines hash ts taken passed c r e x d) q y =
      let other : WasTested rules s lines hash ts taken passed q = subst (λ t. ByTurn rules s lines t q) e (by_lines rules y) in
      let same : c ≡ other.decision = decides_once ones rules s.macros hash s.count.made (found (is_defined rules s.macros) ts) c other.decision x other.evaluates in
      on_once ones rules d q (subst (λ z. ReadsOn rules (after_condition s taken passed z) lines q) (sym same) other.behind)

  on_once : ExpansionsAreOne → (rules : Rules) {b : Behind} {lines : List Line} {r : Answer} → ReadsOn rules b lines r → (q : Answer) → ReadsOn rules b lines q → r ≡ q
  on_once ones rules (ReadsOn.on us s lines r d) q y =
      let other : WentBehind rules us s lines q = by_behind rules y in
      ap (in_front us) (once ones rules d other.rest other.lines_read) ∙ sym other.is
  on_once ones rules (ReadsOn.failed e lines) q y = sym (by_behind rules y)

-- lines have one reading, or are refused in one way
pub one : ExpansionsAreOne → (rules : Rules) (s : State) (lines : List Line) (r q : Answer) → Reads rules s lines r → Reads rules s lines q → r ≡ q
one ones rules s lines r q x y = once ones rules x q y
