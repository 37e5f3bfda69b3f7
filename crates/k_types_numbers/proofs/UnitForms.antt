-- A function, functions one after the other, and the whole source.
use Rattle.std.proofs.Common.{ℕ, ◌≡◌, ◌+◌, ◌<◌, ◌≤◌, List, [], ◌∷◌, ◌++◌, map, length, take, get_or, refl, sym, ap, ◌∙◌, subst, add-zero, zero-add, arith, length-append}
use Rattle.std.specs.List.{refill}
use Rattle.std.proofs.Math.ListN.{set}
use Rattle.std.proofs.Math.Seq.{map-set_same}
use Rattle.std.proofs.lemmas.List.{take_all, take_more_set}
use Rattle.k_types_meaning.specs.declared.tree.statement.TStmt.{TStmt}
use Rattle.k_types_meaning.specs.declared.tree.unit.TFunc.{TFunc}
use Rattle.k_types_meaning.specs.declared.tree.unit.TUnit.{TUnit}
use Rattle.k_types_meaning.specs.Bare.{bare_function}
use Rattle.k_types_meaning.specs.Numbered.{Numbers, before, listed, function_numbers, functions_numbers, LoopsBefore, IsNumbered}
use Rattle.k_types_numbers.specs.declared.counts.Counts.{Counts}
use Rattle.k_types_numbers.specs.Counting.{Counted}
use Rattle.k_types_numbers.specs.Renumbering.{NumbersStmts, NumbersFunction, NumbersFunctions}
use Rattle.k_types_numbers.specs.Steps.{nothing_counted}
use Rattle.k_types_numbers.proofs.CountingLaws.{rises_from, both_counted, nothing_more, lent, listed-more}

-- a function
pub function_numbered : (f : TFunc) (xs : List TStmt) (s t : Counts) → NumbersStmts f.body xs s t → NumbersFunction f (record f { loops = s.loops; body = xs }) s t
function_numbered f xs s t h = record {
  same = ap (λ (body : List TStmt). record f { loops = 0; body = body }) h.same;
  loops = refl;
  counted = h.counted;
}

-- one function more knows how many loops come before it
loops_more : (n : ℕ) (fs : List TFunc) (g : TFunc) → LoopsBefore n fs → g.loops ≡ n + length (functions_numbers fs).loops → LoopsBefore n (fs ++ g ∷ [])
loops_more n [] g h is = (is ∙ add-zero n, tt)
loops_more n (f ∷ fs) g h is =
    let sum : length ((function_numbers f).loops ++ (functions_numbers fs).loops) ≡ length (function_numbers f).loops + length (functions_numbers fs).loops =
    length-append (function_numbers f).loops (functions_numbers fs).loops in
    (h.0, loops_more (n + length (function_numbers f).loops) fs g h.1 (omega (arith, sum, is)))

-- The functions `gs` are `fs` but for their numbers, and those of the first `i` count on from `s` up to `t`.
pub record FunctionsSoFar (fs gs : List TFunc) (i : ℕ) (s t : Counts) : Type 0 where
  pub same : map bare_function gs ≡ map bare_function fs
  pub loops : LoopsBefore s.loops (take i gs)
  pub counted : Counted (listed (map function_numbers (take i gs))) s t

-- at the start
pub functions_begun : (fs : List TFunc) (s : Counts) → FunctionsSoFar fs fs 0 s s
functions_begun fs s = record { same = refl; loops = tt; counted = nothing_more s }

-- with one function more
pub functions_more : (fs gs : List TFunc) (i : ℕ) (g d : TFunc) (s m t : Counts) → i < length gs → FunctionsSoFar fs gs i s m
    → NumbersFunction (get_or gs i d) g m t → FunctionsSoFar fs (set gs i g) (i + 1) s t
functions_more fs gs i g d s m t within h k =
    let more : take (i + 1) (set gs i g) ≡ take i gs ++ g ∷ [] = take_more_set gs i g within in
    let e : listed (map function_numbers (take (i + 1) (set gs i g))) ≡ before (listed (map function_numbers (take i gs))) (function_numbers g) =
    ap (λ (l : List TFunc). listed (map function_numbers l)) more ∙ listed-more TFunc function_numbers (take i gs) g in
    let ended : m.loops ≡ s.loops + length (functions_numbers (take i gs)).loops =
    (rises_from s.loops (functions_numbers (take i gs)).loops m.loops h.counted.loops).1 in
    record {
      same = map-set_same bare_function gs i g d k.same ∙ h.same;
      loops = subst (LoopsBefore s.loops) (sym more) (loops_more s.loops (take i gs) g h.loops (k.loops ∙ ended));
      counted = subst (λ (n : Numbers). Counted n s t) (sym e)
          (both_counted (listed (map function_numbers (take i gs))) (function_numbers g) s m t h.counted k.counted);
    }

-- at the end
pub functions_done : (fs gs : List TFunc) (i : ℕ) (s t : Counts) → length gs ≤ i → FunctionsSoFar fs gs i s t → NumbersFunctions fs gs s t
functions_done fs gs i s t ended h = record {
  same = h.same;
  loops = subst (LoopsBefore s.loops) (take_all i gs ended) h.loops;
  counted = subst (λ (l : List TFunc). Counted (listed (map function_numbers l)) s t) (take_all i gs ended) h.counted;
}

-- the same of functions that were lent as a slice
pub functions_lent : (fs ys gs : List TFunc) (s t : Counts) → ys ≡ fs → length gs ≡ length ys → NumbersFunctions ys gs s t
    → NumbersFunctions fs (refill (length fs) fs gs) s t
functions_lent fs ys gs s t is same h =
    let g : NumbersFunctions fs gs s t = subst (λ (l : List TFunc). NumbersFunctions l gs s t) is h in
    subst (λ (l : List TFunc). NumbersFunctions fs l s t) (sym (lent TFunc fs gs (same ∙ ap length is))) g

-- the source with numbered functions, the strings that are listed and the counts
abbrev pub with_counts : TUnit → List TFunc → Counts → TUnit
with_counts unit gs t = record unit { strings = t.texts; functions = gs; nodes = t.nodes; loops = t.loops }

-- it is numbered
pub unit_numbered : (unit : TUnit) (gs : List TFunc) (s t : Counts) → s ≡ nothing_counted → NumbersFunctions unit.functions gs s t → IsNumbered (with_counts unit gs t)
unit_numbered unit gs s t start h =
    let g : NumbersFunctions unit.functions gs nothing_counted t = subst (λ (c : Counts). NumbersFunctions unit.functions gs c t) start h in
    let nodes = rises_from 0 (functions_numbers gs).nodes t.nodes g.counted.nodes in
    let strings = rises_from 0 (functions_numbers gs).strings t.strings g.counted.strings in
    let loops = rises_from 0 (functions_numbers gs).loops t.loops g.counted.loops in (
      nodes.0,
      strings.0,
      loops.0,
      g.counted.texts,
      nodes.1 ∙ zero-add (length (functions_numbers gs).nodes),
      loops.1 ∙ zero-add (length (functions_numbers gs).loops),
      g.loops,
    )
