-- What the code tells of the first token of a list.
use Rattle.std.proofs.Common.{◌≡◌, ℕ, suc, ◌+◌, ◌-◌, ◌*◌, ◌≤◌, Bool, true, false, if◌then◌else◌, List, [], ◌∷◌, ◌++◌, Option, Some, None, Result, Ok, Err, length, drop, ap, sym, subst, ◌∙◌, refl, arith, slice_get}
use Rattle.std.proofs.lemmas.Bool.{leb-true}
use Rattle.std.proofs.lemmas.List.{length-append, length-drop, length-map}
use Rattle.std.specs.Prelude.{option_map, codes, map, nat_le}
use Rattle.k_lex_expansion.specs.declared.tokens.Spelled.{Spelled}
use Rattle.k_lex_expansion.specs.declared.tokens.Listed.{Listed}
use Rattle.k_lex_expansion.specs.declared.macros.Macro.{Macro}
use Rattle.k_lex_expansion.specs.declared.macros.Chain.{Chain}
use Rattle.k_lex_expansion.specs.declared.failure.Failure.{Failure}
use Rattle.k_lex_expansion.specs.declared.failure.Failure.TheVariants as f
use Rattle.k_lex_expansion.specs.declared.calls.Closed.{Closed}
use Rattle.k_lex_expansion.specs.Names.{both}
use Rattle.k_lex_expansion.specs.Listing.{unhidden, is_spelled, hide, in_place}
use Rattle.k_lex_expansion.specs.Replacing.{replaced}
use Rattle.k_lex_expansion.specs.Calls.{Gathered, gathered, arguments, fits, is_outside, depth_behind, closed_by, with_comma}
use Rattle.k_lex_expansion.specs.Calls as calls
use Rattle.k_lex_expansion.specs.Gathering.{Whole, IsClosed, begun, call_with, resumed}
use Rattle.k_lex_expansion.specs.Expansion.{Work, Call, Next, next, used, by_macro, by_parameters, opened, called, missing, stream, put_in}
use Rattle.k_lex_expansion.specs.Uses.{Puts}
use Rattle.k_lex_expanding.specs.declared.calls.OpenCall.{OpenCall}
use Rattle.k_lex_expanding.specs.Macros.{body_of, count_of}
use Rattle.k_lex_expanding.specs.First.{work, opens_of, MeetsReplaced, MeetsCalls}

-- ---- how long things are

-- an option's value is at most so much
abbrev Within : Option Gathered → Type 0
Within None = Unit {0}
Within (Some g) = length (arguments g) ≤ g.size

within_token : (t : Listed) (o : Option Gathered) → Within o → Within (option_map (calls.with_token t) o)
within_token t None h = tt
within_token t (Some g) h = omega (arith, h)

within_comma : (o : Option Gathered) → Within o → Within (option_map with_comma o)
within_comma None h = tt
within_comma (Some g) h = omega (arith, h)

within_choice : (close comma : Bool) (t : Listed) (a b : Option Gathered) → Within a → Within b
    → Within (if close then Some (closed_by t) else (if comma then option_map with_comma a else option_map (calls.with_token t) b))
within_choice true comma t a b ha hb = omega arith
within_choice false true t a b ha hb = within_comma a ha
within_choice false false t a b ha hb = within_token t b hb

-- a call has no more arguments than tokens
gathered_within : (ts : List Listed) (depth : ℕ) → Within (gathered ts depth)
gathered_within [] depth = tt
gathered_within (t ∷ ts) depth =
    within_choice (is_outside (codes ")") t depth) (is_outside (codes ",") t depth) t (gathered ts depth) (gathered ts (depth_behind t depth))
    (gathered_within ts depth) (gathered_within ts (depth_behind t depth))

length_in_place : (spaced : Bool) (ts rest : List Listed) → length (in_place spaced ts rest) ≡ length ts + length rest
length_in_place spaced [] [] = refl
length_in_place spaced [] (r ∷ rest) = omega arith
length_in_place spaced (t ∷ ts) rest = omega (arith, length-append ts rest)

-- ---- what is put in is counted

ok_err : {P : Type 0} (w : Work) (failure : Failure) → ◌≡◌ {A = Result Work Failure} (Err failure) (Ok w) → P
ok_err w failure is = absurd (cc is)

pub put_lighter : (limit : ℕ) (names : List (List ℕ)) (spaced : Bool) (o : Option (List Listed)) (rest w : Work) → put_in limit names spaced o rest ≡ Ok w
    → 2 * (limit - w.made) + 2 * length w.list + 2 ≤ 2 * (limit - rest.made) + 2 * length rest.list
put_lighter limit names spaced None rest w is = ok_err w f.Paste is
put_lighter limit names spaced (Some ts) rest w is = chosen (nat_le (rest.made + (1 + length ts)) limit) refl is
  where
    new : Work
    new = record rest { list = in_place spaced (map (hide names) ts) rest.list; made = rest.made + (1 + length ts) }

    chosen : (b : Bool) → nat_le (rest.made + (1 + length ts)) limit ≡ b → ◌≡◌ {A = Result Work Failure} (if b then Ok new else Err f.TokensMany) (Ok w)
        → 2 * (limit - w.made) + 2 * length w.list + 2 ≤ 2 * (limit - rest.made) + 2 * length rest.list
    chosen false le h = ok_err w f.TokensMany h
    chosen true le h =
        let within : rest.made + (1 + length ts) ≤ limit = leb-true (rest.made + (1 + length ts)) limit le in
        let same : ◌≡◌ {A = Work} new w = cc h in
        let long : length (in_place spaced (map (hide names) ts) rest.list) ≡ length ts + length rest.list = length_in_place spaced (map (hide names) ts) rest.list ∙ ap (λ n. n + length rest.list) (length-map ts (hide names)) in
        subst (λ (x : Work). 2 * (limit - x.made) + 2 * length x.list + 2 ≤ 2 * (limit - rest.made) + 2 * length rest.list) same (omega (arith, within, long))

-- the body took the place of a name
pub replaces : (limit : ℕ) (names : List (List ℕ)) (spaced : Bool) (o : Option (List Listed)) (old new : List Listed) (made total : ℕ) (source : List Spelled) (ends : Bool)
    → Puts (Ok None) limit names spaced o old made new total → MeetsReplaced limit (Next.goes (put_in limit names spaced o (work old source ends made))) old made source ends new total
replaces limit names spaced o old new made total source ends puts =
    let is : put_in limit names spaced o (work old source ends made) ≡ Ok (work new source ends total) = puts (record { tokens = source; ends = ends }) in
    let lighter : 2 * (limit - total) + 2 * length new + 2 ≤ 2 * (limit - made) + 2 * length old = put_lighter limit names spaced o (work old source ends made) (work new source ends total) is in
    record { is = ap Next.goes is; lighter = omega (arith, lighter) }

-- ---- calls

none_none : (o : Option Gathered) → option_map (resumed 0 begun) o ≡ None → o ≡ None
none_none None is = refl
none_none (Some g) is = absurd (cc is)

-- a call that is not closed
pub call_open : (m : Macro) (count : ℕ) (t : Listed) (old : List Listed) (source : List Spelled) (ends : Bool) (made : ℕ)
    → call_with 0 begun (drop 1 (old ++ map unhidden source)) ≡ None
    → called m count t (work old source ends made) (gathered (drop 1 (stream (work old source ends made))) 0) ≡ Next.goes (Err (if ends then f.Arguments else f.Cut))
call_open m count t old source ends made is =
    ap (called m count t (work old source ends made)) (none_none (gathered (drop 1 (old ++ map unhidden source)) 0) is) ∙ by_end ends
  where
    by_end : (b : Bool) → (if b then Next.goes (Err f.Arguments) else Next.goes (Err f.Cut)) ≡ Next.goes (Err (if b then f.Arguments else f.Cut))
    by_end true = refl
    by_end false = refl

-- what was gathered
record WasGathered (o : Option Gathered) (c : Closed) (size : ℕ) : Type 0 where
  g : Gathered
  there : o ≡ Some g
  args : arguments g ≡ c.arguments
  hides : g.hidden ≡ c.hidden
  long : g.size ≡ size

was_gathered : (o : Option Gathered) (c : Closed) (size : ℕ) → option_map (resumed 0 begun) o ≡ Some (record { arguments = c.arguments; hidden = c.hidden; size = size }) → WasGathered o c size
was_gathered None c size is = absurd (cc is)
was_gathered (Some g) c size is =
    let same : ◌≡◌ {A = Whole} (record { arguments = g.first ∷ g.more; hidden = g.hidden; size = 0 + g.size }) (record { arguments = c.arguments; hidden = c.hidden; size = size }) = cc is in
    let sum : 0 + g.size ≡ size = ap (λ (w : Whole). w.size) same in
    record { g = g; there = refl; args = ap (λ (w : Whole). w.arguments) same; hides = ap (λ (w : Whole). w.hidden) same; long = omega (arith, sum) }

-- a call of which there are not as many arguments as parameters
pub call_unfit : (m : Macro) (count : ℕ) (t : Listed) (old : List Listed) (source : List Spelled) (ends : Bool) (made : ℕ) (c : Closed) (new : List Listed)
    → IsClosed c old source new → fits count c.arguments ≡ false
    → called m count t (work old source ends made) (gathered (drop 1 (stream (work old source ends made))) 0) ≡ Next.goes (Err f.Arguments)
call_unfit m count t old source ends made c new closed unfit =
    let w = was_gathered (gathered (drop 1 (old ++ map unhidden source)) 0) c closed.size closed.call in
    ap (called m count t (work old source ends made)) w.there
    ∙ ap (λ b. if b then Next.calls (record { body = m.body; arguments = arguments w.g; names = both t.hidden w.g.hidden ++ t.spelling ∷ []; spaced = t.spaced; rest = calls_rest w.g }) else Next.goes (Err f.Arguments))
    (ap (fits count) w.args ∙ unfit)
  where
    calls_rest : Gathered → Work
    calls_rest g = record { list = drop (g.size + 1) old; source = record { tokens = drop (g.size + 1 - length old) source; ends = ends }; made = made }

-- the numbers of a call: what it has and what it leaves is no more than what there was
call_weighs : (args size old source new taken : ℕ) → args ≤ size → new ≡ old - suc size → taken ≡ suc size - old → taken ≤ source → 2 * args + 2 * new + 2 * (source - taken) ≤ 2 * old + 2 * source
call_weighs args size old source new taken few new_is taken_is within = omega (arith, few, new_is, taken_is, within)

-- a call that was read
pub call_read : (macros : List Macro) (m : Macro) (count : ℕ) (t : Listed) (old : List Listed) (source : List Spelled) (ends : Bool) (made : ℕ) (c : Closed) (new : List Listed) (call : OpenCall)
    → slice_get macros call.number ≡ Some m → IsClosed c old source new → fits count c.arguments ≡ true
    → call.complete ≡ [] → call.waiting ≡ c.arguments → call.names ≡ both t.hidden c.hidden ++ t.spelling ∷ [] → call.spaced ≡ t.spaced
    → MeetsCalls macros (called m count t (work old source ends made) (gathered (drop 1 (stream (work old source ends made))) 0)) call c.taken old made source ends new made
call_read macros m count t old source ends made c new call there closed fit complete waiting names spaced =
    let w = was_gathered (gathered (drop 1 (old ++ map unhidden source)) 0) c closed.size closed.call in
    let one_more : w.g.size + 1 ≡ suc closed.size = omega (arith, w.long) in
    let few : length (arguments w.g) ≤ w.g.size = subst Within w.there (gathered_within (drop 1 (old ++ map unhidden source)) 0) in
    let few_args : length c.arguments ≤ closed.size = omega (arith, few, ap length w.args, w.long) in
    record {
      is = ap (called m count t (work old source ends made)) w.there
          ∙ ap (λ b. if b then Next.calls (made_call m.body (arguments w.g) (both t.hidden w.g.hidden ++ t.spelling ∷ []) t.spaced (w.g.size + 1)) else Next.goes (Err f.Arguments)) (ap (fits count) w.args ∙ fit)
          ∙ ap (λ (b : List Chain). Next.calls (made_call b (arguments w.g) (both t.hidden w.g.hidden ++ t.spelling ∷ []) t.spaced (w.g.size + 1))) (sym (ap body_of there))
          ∙ ap (λ (a : List (List Listed)). Next.calls (made_call (body_of (slice_get macros call.number)) a (both t.hidden w.g.hidden ++ t.spelling ∷ []) t.spaced (w.g.size + 1))) (w.args ∙ sym waiting)
          ∙ ap (λ (h : List (List ℕ)). Next.calls (made_call (body_of (slice_get macros call.number)) call.waiting h t.spaced (w.g.size + 1))) (ap (λ (h : List (List ℕ)). both t.hidden h ++ t.spelling ∷ []) w.hides ∙ sym names)
          ∙ ap (λ (b : Bool). Next.calls (made_call (body_of (slice_get macros call.number)) call.waiting call.names b (w.g.size + 1))) (sym spaced)
          ∙ ap (λ (n : ℕ). Next.calls (made_call (body_of (slice_get macros call.number)) call.waiting call.names call.spaced n)) one_more
          ∙ ap (λ (l : List Listed). Next.calls (left_call l (drop (suc closed.size - length old) source))) (sym closed.list)
          ∙ ap (λ (n : ℕ). Next.calls (left_call new (drop n source))) (sym closed.taken);
      complete = complete;
      lighter = call_weighs (length call.waiting) closed.size (length old) (length source) (length new) c.taken (omega (arith, few_args, ap length waiting)) (ap length closed.list ∙ length-drop (suc closed.size) old) closed.taken closed.within;
      within = closed.within;
      made_is = refl;
    }
  where
    made_call : List Chain → List (List Listed) → List (List ℕ) → Bool → ℕ → Call
    made_call body args hides blank n = record { body = body; arguments = args; names = hides; spaced = blank; rest = record { list = drop n old; source = record { tokens = drop (n - length old) source; ends = ends }; made = made } }

    left_call : List Listed → List Spelled → Call
    left_call list tokens = record { body = body_of (slice_get macros call.number); arguments = call.waiting; names = call.names; spaced = call.spaced; rest = record { list = list; source = record { tokens = tokens; ends = ends }; made = made } }

-- ---- what is next

open_true : (m : Macro) (count : ℕ) (t : Listed) (rest : Work) (us : List Listed) → opens_of us ≡ Some true → opened m count t rest us ≡ called m count t rest (gathered (drop 1 us) 0)
open_true m count t rest [] is = absurd (cc is)
open_true m count t rest (u ∷ us) is =
    let yes : is_spelled (codes "(") u ≡ true = cc is in
    ap (λ b. if b then called m count t rest (gathered us 0) else Next.kept t rest) yes

open_false : (m : Macro) (count : ℕ) (t : Listed) (rest : Work) (us : List Listed) → opens_of us ≡ Some false → opened m count t rest us ≡ Next.kept t rest
open_false m count t rest [] is = absurd (cc is)
open_false m count t rest (u ∷ us) is =
    let no : is_spelled (codes "(") u ≡ false = cc is in
    ap (λ b. if b then called m count t rest (gathered us 0) else Next.kept t rest) no

open_none : (m : Macro) (count : ℕ) (t : Listed) (rest : Work) (us : List Listed) → opens_of us ≡ None → opened m count t rest us ≡ missing rest (Next.kept t rest)
open_none m count t rest [] is = refl
open_none m count t rest (u ∷ us) is = absurd (cc is)

-- where `(` is next
pub opens_call : (m : Macro) (count : ℕ) (t : Listed) (old : List Listed) (source : List Spelled) (ends : Bool) (made : ℕ) → opens_of (old ++ map unhidden source) ≡ Some true
    → opened m count t (work old source ends made) (stream (work old source ends made)) ≡ called m count t (work old source ends made) (gathered (drop 1 (stream (work old source ends made))) 0)
opens_call m count t old source ends made is = open_true m count t (work old source ends made) (old ++ map unhidden source) is

-- where something else is
pub opens_nothing : (m : Macro) (count : ℕ) (t : Listed) (old : List Listed) (source : List Spelled) (ends : Bool) (made : ℕ) → opens_of (old ++ map unhidden source) ≡ Some false
    → opened m count t (work old source ends made) (stream (work old source ends made)) ≡ Next.kept t (work old source ends made)
opens_nothing m count t old source ends made is = open_false m count t (work old source ends made) (old ++ map unhidden source) is

-- where the source ends, or is cut off
pub opens_end : (m : Macro) (count : ℕ) (t : Listed) (old : List Listed) (source : List Spelled) (ends : Bool) (made : ℕ) → opens_of (old ++ map unhidden source) ≡ None → ends ≡ true
    → opened m count t (work old source ends made) (stream (work old source ends made)) ≡ Next.kept t (work old source ends made)
opens_end m count t old source ends made is there =
    open_none m count t (work old source ends made) (old ++ map unhidden source) is ∙ ap (λ b. if b then Next.kept t (work old source ends made) else Next.goes (Err f.Cut)) there

pub opens_cut : (m : Macro) (count : ℕ) (t : Listed) (old : List Listed) (source : List Spelled) (ends : Bool) (made : ℕ) → opens_of (old ++ map unhidden source) ≡ None → ends ≡ false
    → opened m count t (work old source ends made) (stream (work old source ends made)) ≡ Next.goes (Err f.Cut)
opens_cut m count t old source ends made is there =
    open_none m count t (work old source ends made) (old ++ map unhidden source) is ∙ ap (λ b. if b then Next.kept t (work old source ends made) else Next.goes (Err f.Cut)) there

-- a use by its parameters
pub with_parameters : (limit : ℕ) (macros : List Macro) (number count : ℕ) (m : Macro) (t : Listed) (rest : Work) → slice_get macros number ≡ Some m → Some count ≡ count_of (slice_get macros number)
    → by_parameters limit m m.parameters t rest ≡ opened m count t rest (stream rest)
with_parameters limit macros number count m t rest there is = by (m.parameters) (is ∙ ap count_of there)
  where
    by : (o : Option (List (List ℕ))) → Some count ≡ option_map length o → by_parameters limit m o t rest ≡ opened m count t rest (stream rest)
    by None h = absurd (cc h)
    by (Some names) h =
        let same : length names ≡ count = cc h in
        ap (λ n. opened m n t rest (stream rest)) same

pub without_parameters : (limit : ℕ) (macros : List Macro) (number : ℕ) (m : Macro) (t : Listed) (rest : Work) → slice_get macros number ≡ Some m → None ≡ count_of (slice_get macros number)
    → by_parameters limit m m.parameters t rest ≡ Next.goes (put_in limit (t.hidden ++ t.spelling ∷ []) t.spaced (replaced [] (body_of (slice_get macros number))) rest)
without_parameters limit macros number m t rest there is = by (m.parameters) (is ∙ ap count_of there)
  where
    by : (o : Option (List (List ℕ))) → None ≡ option_map length o → by_parameters limit m o t rest ≡ Next.goes (put_in limit (t.hidden ++ t.spelling ∷ []) t.spaced (replaced [] (body_of (slice_get macros number))) rest)
    by None h = ap (λ (b : List Chain). Next.goes (put_in limit (t.hidden ++ t.spelling ∷ []) t.spaced (replaced [] b) rest)) (sym (ap body_of there))
    by (Some names) h = absurd (cc h)

-- a token that uses no macro
pub uses_none : (macros : List Macro) (limit : ℕ) (t : Listed) (old : List Listed) (source : List Spelled) (ends : Bool) (made : ℕ) → used macros t ≡ None
    → next macros limit (work (t ∷ old) source ends made) ≡ Next.kept t (work old source ends made)
uses_none macros limit t old source ends made is = unfold next in ap (λ o. by_macro limit o t (work old source ends made)) is

-- or this one
pub uses_one : (macros : List Macro) (limit : ℕ) (m : Macro) (t : Listed) (old : List Listed) (source : List Spelled) (ends : Bool) (made : ℕ) → used macros t ≡ Some m
    → next macros limit (work (t ∷ old) source ends made) ≡ by_parameters limit m m.parameters t (work old source ends made)
uses_one macros limit m t old source ends made is = unfold next in ap (λ o. by_macro limit o t (work old source ends made)) is
