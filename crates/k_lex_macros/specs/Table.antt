-- For contracts between crates: nobody has to believe it.
-- How the code keeps macros.
use Rattle.std.specs.Prelude.{◌≡◌, ℕ, zero, suc, ◌-◌, ◌*◌, ◌<◌, ◌≤◌, min, Bool, List, [], ◌∷◌, ◌++◌, Option, length, map, nat_eq}
use Rattle.std.specs.Cmp.Lexicographic.{pointwise}
use Rattle.std.specs.Global.{Vec}
use Rattle.std.specs.HashMap.{HashMap, get_by}
use Rattle.std.specs.HashSet.{HashSet, contains_by}
use Rattle.std.specs.declared.hash.FoldHasher.{FoldHasher}
use Rattle.std.specs.declared.hash.BuildHasherDefault.{BuildHasherDefault}
use Rattle.std.specs.List.{flat_map}
use Rattle.k_lex_macros.specs.declared.plans.Step.{Step}
use Rattle.k_lex_macros.specs.declared.plans.Step.TheVariants as s
use Rattle.k_lex_macros.specs.declared.plans.Plan.{Plan}
use Rattle.k_lex_macros.specs.declared.macros.Lexeme.{Lexeme}
use Rattle.k_lex_macros.specs.declared.macros.Definition.{Definition}
use Rattle.k_lex_macros.specs.declared.macros.Macros.{Macros}
use Rattle.k_lex_macros.specs.Macros.{Macro, sizes, find, mentions, fulls, full_at, replaced}
use Rattle.k_lex_macros.specs.Steps.{greatest}

-- the macro that an entry of the table stands for
abbrev pub macro : Definition → Macro
macro d = (d.name, d.body)

-- the macros that the table stands for, in the order of their lines
abbrev pub listed : Macros → List Macro
listed m = map macro m.list.items

-- how many macros there are
abbrev pub count_of : Macros → ℕ
count_of m = length m.list.items

-- the number that the map has for a name
abbrev pub number_in : HashMap (Vec ℕ) ℕ (BuildHasherDefault FoldHasher) → List ℕ → Option ℕ
number_in numbers name = get_by (λ k. pointwise nat_eq name k.items) numbers

-- the name is in the set
abbrev pub is_in : HashSet (Vec ℕ) (BuildHasherDefault FoldHasher) → List ℕ → Bool
is_in names name = contains_by (λ k. pointwise nat_eq name k.items) names

-- the map and the set tell of each name what a search of the macros tells
pub record IsIndexed (m : Macros) : Type 0 where
  pub numbers : (name : List ℕ) → number_in m.numbers name ≡ find (listed m) name
  pub mentioned : (name : List ℕ) → is_in m.mentioned name ≡ mentions (listed m) name

-- ---- what a macro is replaced by

-- the bodies of the macros
abbrev pub bodies : List Macro → List (List Lexeme)
bodies [] = []
bodies (m ∷ ms) = m.1 ∷ bodies ms

-- the token at a place of a body, as a list
abbrev pub token_at : List Lexeme → ℕ → List Lexeme
token_at [] k = []
token_at (x ∷ xs) zero = x ∷ []
token_at (x ∷ xs) (suc k) = token_at xs k

-- the tokens that a step gives, where lists has what each macro is replaced by
abbrev pub gives : List (List Lexeme) → List (List Lexeme) → Step → List Lexeme
gives bodies lists (s.Token number at) = token_at (full_at bodies number) at
gives bodies lists (s.Whole number) = full_at lists number

-- the steps of the macro of this number
abbrev pub steps_at : List Definition → ℕ → List Step
steps_at [] k = []
steps_at (d ∷ ds) zero = d.plan.steps
steps_at (d ∷ ds) (suc k) = steps_at ds k

-- a step is a token that is there, or a macro of two steps or more, which give something
abbrev pub IsStep : List (List Lexeme) → List (List Lexeme) → List Definition → Step → Type 0
IsStep bodies lists ds (s.Token number at) = (number < length bodies) × (at < length (full_at bodies number))
IsStep bodies lists ds (s.Whole number) = (number < length ds) × (number < length lists) × (2 ≤ length (steps_at ds number)) × (1 ≤ length (full_at lists number))

-- each of the list is a step
abbrev pub EachStep : List (List Lexeme) → List (List Lexeme) → List Definition → List Step → Type 0
EachStep bodies lists ds [] = Unit {0}
EachStep bodies lists ds (x ∷ xs) = IsStep bodies lists ds x × EachStep bodies lists ds xs

-- the plan gives these tokens, and its counts are theirs
pub record IsPlan (bodies lists : List (List Lexeme)) (ds : List Definition) (plan : Plan) (xs : List Lexeme) : Type 0 where
  pub given : flat_map (gives bodies lists) plan.steps ≡ xs
  pub steps : EachStep bodies lists ds plan.steps
  pub count : plan.count ≡ min (length xs) greatest
  pub bytes : plan.bytes ≡ min (sizes xs) greatest

-- each macro has a plan for its list
abbrev pub EachPlan : List (List Lexeme) → List (List Lexeme) → List Definition → List Definition → List (List Lexeme) → Type 0
EachPlan bodies lists all [] [] = Unit {0}
EachPlan bodies lists all [] (xs ∷ rest) = ⊥
EachPlan bodies lists all (d ∷ ds) [] = ⊥
EachPlan bodies lists all (d ∷ ds) (xs ∷ rest) = IsPlan bodies lists all d.plan xs × EachPlan bodies lists all ds rest

-- each macro of the table has a plan for what it is replaced by
abbrev pub ArePlanned : Macros → Type 0
ArePlanned m = EachPlan (bodies (listed m)) (fulls (listed m)) m.list.items m.list.items (fulls (listed m))

-- a plan for the first tokens of a new body
abbrev pub IsNewPlan : Macros → List Lexeme → Plan → List Lexeme → Type 0
IsNewPlan m body plan read = IsPlan (bodies (listed m) ++ body ∷ []) (fulls (listed m)) m.list.items plan (flat_map (replaced (listed m)) read)

-- each of the list is a step over this table
abbrev pub AreSteps : Macros → List Step → Type 0
AreSteps m steps = EachStep (bodies (listed m)) (fulls (listed m)) m.list.items steps

-- what the steps of a stack give, the last of them first
abbrev pub owed_by : List (List Lexeme) → List (List Lexeme) → List Step → List Lexeme
owed_by bodies lists [] = []
owed_by bodies lists (x ∷ xs) = owed_by bodies lists xs ++ gives bodies lists x

-- the same, over this table
abbrev pub owed : Macros → List Step → List Lexeme
owed m stack = owed_by (bodies (listed m)) (fulls (listed m)) stack

-- a bound on the turns that writing takes: twice the tokens, less the steps of the stack
abbrev pub turns : Macros → List Step → ℕ
turns m stack = 2 * length (owed m stack) - length stack

-- how many tokens there are, and how many bytes spell them, as the code counts
abbrev pub sizes_shown : List Lexeme → ℕ × ℕ
sizes_shown xs = (min (length xs) greatest, min (sizes xs) greatest)
