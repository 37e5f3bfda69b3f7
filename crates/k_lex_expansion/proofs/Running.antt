-- Expansions that are computed, in so many steps at most.
use Rattle.std.proofs.Common.{◌≡◌, ℕ, zero, suc, ◌+◌, Bool, true, false, List, [], ◌∷◌, Option, Some, None, Result, Ok, Err, IfSome, subst, refl}
use Rattle.std.specs.Prelude.{option_map}
use Rattle.k_lex_expansion.specs.declared.tokens.Listed.{Listed}
use Rattle.k_lex_expansion.specs.declared.macros.Macro.{Macro}
use Rattle.k_lex_expansion.specs.declared.macros.Chain.{Chain}
use Rattle.k_lex_expansion.specs.declared.failure.Failure.{Failure}
use Rattle.k_lex_expansion.specs.Replacing.{asks}
use Rattle.k_lex_expansion.specs.Expansion.{Work, Done, Call, Next, next, with_token, Expansions, with_argument, by_itself, finished, Expands, Continues, AreExpanded}

abbrev Runner : Type 0
Runner = Work → Option (Result Done Failure)

abbrev going : Runner → Result Work Failure → Option (Result Done Failure)
going run (Ok w) = run w
going run (Err failure) = Some (Err failure)

abbrev behind : List Listed → Option (Result Done Failure) → (ℕ → Option Expansions) → Option Expansions
behind ts None others = None
behind ts (Some (Ok d)) others = option_map (with_argument ts d.tokens) (others d.made)
behind ts (Some (Err failure)) others = Some (Err failure)

abbrev by_asked : Runner → ℕ → Bool → List Listed → ℕ → (ℕ → Option Expansions) → Option Expansions
by_asked run limit false ts made others = option_map (with_argument ts []) (others made)
by_asked run limit true ts made others = behind ts (going run (by_itself limit ts made)) others

abbrev each : Runner → ℕ → List Chain → ℕ → List (List Listed) → ℕ → Option Expansions
each run limit m n [] made = Some (Ok ([], made))
each run limit m n (ts ∷ more) made = by_asked run limit (asks n m) ts made (λ x. each run limit m (n + 1) more x)

abbrev calling : Runner → ℕ → Call → Option Expansions → Option (Result Done Failure)
calling run limit call None = None
calling run limit call (Some args) = going run (finished limit call args)

abbrev step : Runner → ℕ → Work → Next → Option (Result Done Failure)
step run limit w Next.over = Some (Ok (record { tokens = []; source = w.source; made = w.made }))
step run limit w (Next.kept t rest) = option_map (with_token t) (run rest)
step run limit w (Next.goes new) = going run new
step run limit w (Next.calls call) = calling run limit call (each run limit call.body 0 call.arguments call.rest.made)

unfoldable pub run : List Macro → ℕ → ℕ → Runner
run macros limit zero w = None
run macros limit (suc n) w = step (run macros limit n) limit w (next macros limit w)

-- ---- what is computed is the expansion

abbrev IsSound : List Macro → ℕ → Runner → Type 0
IsSound macros limit run = (w : Work) → IfSome (run w) (Expands macros limit w)

if_map : {A B : Type 0} (f : A → B) (P : A → Type 0) (Q : B → Type 0) → ((x : A) → P x → Q (f x)) → (o : Option A) → IfSome o P → IfSome (option_map f o) Q
if_map f P Q h None p = p
if_map f P Q h (Some x) p = h x p

going_sound : (macros : List Macro) (limit : ℕ) (run : Runner) → IsSound macros limit run → (new : Result Work Failure) → IfSome (going run new) (Continues macros limit new)
going_sound macros limit run sound (Ok w) = by_run (run w) (sound w)
  where
    by_run : (o : Option (Result Done Failure)) → IfSome o (Expands macros limit w) → IfSome o (Continues macros limit (Ok w))
    by_run None h = h
    by_run (Some r) h = Continues.on w r h
going_sound macros limit run sound (Err failure) = Continues.failed failure

each_asked : (macros : List Macro) (limit : ℕ) (run : Runner) → IsSound macros limit run → (m : List Chain) (n : ℕ) (ts : List Listed) (more : List (List Listed)) (made : ℕ)
    → ((x : ℕ) → IfSome (each run limit m (n + 1) more x) (AreExpanded macros limit m (n + 1) more x))
    → IfSome (each run limit m n (ts ∷ more) made) (AreExpanded macros limit m n (ts ∷ more) made)
each_asked macros limit run sound m n ts more made was = asking (asks n m) refl
  where
    others : ℕ → Option Expansions
    others x = each run limit m (n + 1) more x

    first : (o : Option (Result Done Failure)) → asks n m ≡ true → IfSome o (Continues macros limit (by_itself limit ts made)) → IfSome (behind ts o others) (AreExpanded macros limit m n (ts ∷ more) made)
    first None is h = h
    first (Some (Ok d)) is h = if_map (with_argument ts d.tokens) (AreExpanded macros limit m (n + 1) more d.made) (AreExpanded macros limit m n (ts ∷ more) made) (λ args all. AreExpanded.asked m n made ts more d args is h all) (others d.made) (was d.made)
    first (Some (Err failure)) is h = AreExpanded.fails m n made ts more failure is h

    asking : (b : Bool) → asks n m ≡ b → IfSome (by_asked run limit b ts made others) (AreExpanded macros limit m n (ts ∷ more) made)
    asking false is = if_map (with_argument ts []) (AreExpanded macros limit m (n + 1) more made) (AreExpanded macros limit m n (ts ∷ more) made) (λ args all. AreExpanded.unasked m n made ts more args is all) (others made) (was made)
    asking true is = first (going run (by_itself limit ts made)) is (going_sound macros limit run sound (by_itself limit ts made))

each_sound : (macros : List Macro) (limit : ℕ) (run : Runner) → IsSound macros limit run → (m : List Chain) (n : ℕ) (args : List (List Listed)) (made : ℕ)
    → IfSome (each run limit m n args made) (AreExpanded macros limit m n args made)
each_sound macros limit run sound m n [] made = AreExpanded.none m n made
each_sound macros limit run sound m n (ts ∷ more) made = each_asked macros limit run sound m n ts more made (λ x. each_sound macros limit run sound m (n + 1) more x)

step_sound : (macros : List Macro) (limit : ℕ) (run : Runner) → IsSound macros limit run → (w : Work) (n : Next) → next macros limit w ≡ n → IfSome (step run limit w n) (Expands macros limit w)
step_sound macros limit run sound w Next.over is = Expands.over w is
step_sound macros limit run sound w (Next.kept t rest) is = if_map (with_token t) (Expands macros limit rest) (Expands macros limit w) (λ r d. Expands.kept w rest t r is d) (run rest) (sound rest)
step_sound macros limit run sound w (Next.goes new) is = by_going (going run new) (going_sound macros limit run sound new)
  where
    by_going : (o : Option (Result Done Failure)) → IfSome o (Continues macros limit new) → IfSome o (Expands macros limit w)
    by_going None h = h
    by_going (Some r) h = Expands.goes w new r is h
step_sound macros limit run sound w (Next.calls call) is = by_args (each run limit call.body 0 call.arguments call.rest.made) (each_sound macros limit run sound call.body 0 call.arguments call.rest.made)
  where
    by_end : (args : Expansions) → AreExpanded macros limit call.body 0 call.arguments call.rest.made args → (o : Option (Result Done Failure)) → IfSome o (Continues macros limit (finished limit call args)) → IfSome o (Expands macros limit w)
    by_end args all None h = h
    by_end args all (Some r) h = Expands.calls w call args r is all h

    by_args : (o : Option Expansions) → IfSome o (AreExpanded macros limit call.body 0 call.arguments call.rest.made) → IfSome (calling run limit call o) (Expands macros limit w)
    by_args None h = h
    by_args (Some args) h = by_end args h (going run (finished limit call args)) (going_sound macros limit run sound (finished limit call args))

run_sound : (macros : List Macro) (limit n : ℕ) (w : Work) → IfSome (run macros limit n w) (Expands macros limit w)
unfolding run
run_sound macros limit zero w = tt
run_sound macros limit (suc n) w = step_sound macros limit (run macros limit n) (run_sound macros limit n) w (next macros limit w) refl

pub found : (macros : List Macro) (limit n : ℕ) (w : Work) (r : Result Done Failure) → run macros limit n w ≡ Some r → Expands macros limit w r
found macros limit n w r is = subst (λ o. IfSome o (Expands macros limit w)) is (run_sound macros limit n w)
