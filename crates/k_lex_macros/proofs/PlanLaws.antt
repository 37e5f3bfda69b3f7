-- Plans give what macros are replaced by, and writing them out ends.
use Rattle.std.proofs.Common.{◌≡◌, ℕ, zero, suc, ◌+◌, ◌<◌, ◌≤◌, min, List, [], ◌∷◌, ◌++◌, Some, length, take, map, get_or, reverse, refl, sym, ap, ◌∙◌, subst, append_assoc, arith, length-append}
use Rattle.std.proofs.lemmas.List.{map-append, append-nil, take_more, length-reverse, reverse-append}
use Rattle.std.specs.List.{flat_map}
use Rattle.k_num.specs.declared.place.Place.{Place}
use Rattle.k_tree.specs.declared.tokens.Token.{Token}
use Rattle.k_lex_macros.specs.declared.macros.Lexeme.{Lexeme}
use Rattle.k_lex_macros.specs.declared.macros.Definition.{Definition}
use Rattle.k_lex_macros.specs.declared.macros.Macros.{Macros}
use Rattle.k_lex_macros.specs.declared.plans.Step.{Step}
use Rattle.k_lex_macros.specs.declared.plans.Step.TheVariants as s
use Rattle.k_lex_macros.specs.declared.plans.Plan.{Plan}
use Rattle.k_lex_macros.specs.Macros.{Macro, body_at, fulls, full_at, used, replaced, sizes, placed}
use Rattle.k_lex_macros.specs.Steps.{greatest, step_of, with_step, with_token, with_macro}
use Rattle.k_lex_macros.specs.Table.{macro, listed, bodies, token_at, gives, steps_at, IsStep, EachStep, IsPlan, EachPlan, ArePlanned, IsNewPlan, AreSteps, owed_by, owed, turns, sizes_shown}
use Rattle.k_lex_macros.proofs.MacroLaws

-- ---- by number

at_push : (lists : List (List Lexeme)) (xs : List Lexeme) (k : ℕ) → k < length lists → full_at (lists ++ xs ∷ []) k ≡ full_at lists k
at_push [] xs k lt = absurd (omega arith)
at_push (ys ∷ lists) xs zero lt = refl
at_push (ys ∷ lists) xs (suc k) lt = at_push lists xs k (omega arith)

at_end : (lists : List (List Lexeme)) (xs : List Lexeme) → full_at (lists ++ xs ∷ []) (length lists) ≡ xs
at_end [] xs = refl
at_end (ys ∷ lists) xs = at_end lists xs

steps_push : (ds : List Definition) (d : Definition) (k : ℕ) → k < length ds → steps_at (ds ++ d ∷ []) k ≡ steps_at ds k
steps_push [] d k lt = absurd (omega arith)
steps_push (e ∷ ds) d zero lt = refl
steps_push (e ∷ ds) d (suc k) lt = steps_push ds d k (omega arith)

steps_there : (ds : List Definition) (k : ℕ) (d : Definition) → k < length ds → d ≡ get_or ds k d → steps_at ds k ≡ d.plan.steps
steps_there [] k d lt e = absurd (omega arith)
steps_there (x ∷ ds) zero d lt e = ap (λ y. y.plan.steps) (sym e)
steps_there (x ∷ ds) (suc k) d lt e = steps_there ds k d (omega arith) e

pub bodies_at : (table : List Macro) (k : ℕ) → full_at (bodies table) k ≡ body_at table k
bodies_at [] k = refl
bodies_at (m ∷ ms) zero = refl
bodies_at (m ∷ ms) (suc k) = bodies_at ms k

bodies-push : (table : List Macro) (m : Macro) → bodies (table ++ m ∷ []) ≡ bodies table ++ m.1 ∷ []
bodies-push [] m = refl
bodies-push (n ∷ ms) m = ap (λ t. n.1 ∷ t) (bodies-push ms m)

bodies_long : (ds : List Definition) → length (bodies (map macro ds)) ≡ length ds
bodies_long [] = refl
bodies_long (d ∷ ds) = ap suc (bodies_long ds)

pub token_there : (body : List Lexeme) (k : ℕ) (x : Lexeme) → k < length body → x ≡ get_or body k x → token_at body k ≡ x ∷ []
token_there [] k x lt e = absurd (omega arith)
token_there (y ∷ body) zero x lt e = ap (λ z. z ∷ []) (sym e)
token_there (y ∷ body) (suc k) x lt e = token_there body k x (omega arith) e

token_long : (body : List Lexeme) (k : ℕ) → k < length body → length (token_at body k) ≡ 1
token_long [] k lt = absurd (omega arith)
token_long (y ∷ body) zero lt = refl
token_long (y ∷ body) (suc k) lt = token_long body k (omega arith)

-- ---- a step stays one where the table grows

module _ (b l : List (List Lexeme)) (ds : List Definition) where
  given_some : (x : Step) → IsStep b l ds x → 1 ≤ length (gives b l x)
  given_some (s.Token number at) h = omega (arith, token_long (full_at b number) at h.1)
  given_some (s.Whole number) h = h.3

  gives_bodies : (xs : List Lexeme) (x : Step) → IsStep b l ds x → gives (b ++ xs ∷ []) l x ≡ gives b l x
  gives_bodies xs (s.Token number at) h = ap (λ body. token_at body at) (at_push b xs number h.0)
  gives_bodies xs (s.Whole number) h = refl

  gives_lists : (xs : List Lexeme) (x : Step) → IsStep b l ds x → gives b (l ++ xs ∷ []) x ≡ gives b l x
  gives_lists xs (s.Token number at) h = refl
  gives_lists xs (s.Whole number) h = at_push l xs number h.1

  step_bodies : (xs : List Lexeme) (x : Step) → IsStep b l ds x → IsStep (b ++ xs ∷ []) l ds x
  step_bodies xs (s.Token number at) h = (omega (arith, h.0, length-append b (xs ∷ [])), subst (λ body. at < length body) (sym (at_push b xs number h.0)) h.1)
  step_bodies xs (s.Whole number) h = h

  step_lists : (xs : List Lexeme) (d : Definition) (x : Step) → IsStep b l ds x → IsStep b (l ++ xs ∷ []) (ds ++ d ∷ []) x
  step_lists xs d (s.Token number at) h = h
  step_lists xs d (s.Whole number) h = (
    omega (arith, h.0, length-append ds (d ∷ [])),
    omega (arith, h.1, length-append l (xs ∷ [])),
    subst (λ steps. 2 ≤ length steps) (sym (steps_push ds d number h.0)) h.2,
    subst (λ list. 1 ≤ length list) (sym (at_push l xs number h.1)) h.3,
  )

each_bodies : (b l : List (List Lexeme)) (ds : List Definition) (xs : List Lexeme) (steps : List Step) → EachStep b l ds steps → EachStep (b ++ xs ∷ []) l ds steps
each_bodies b l ds xs [] h = tt
each_bodies b l ds xs (x ∷ steps) h = (step_bodies b l ds xs x h.0, each_bodies b l ds xs steps h.1)

each_lists : (b l : List (List Lexeme)) (ds : List Definition) (xs : List Lexeme) (d : Definition) (steps : List Step) → EachStep b l ds steps → EachStep b (l ++ xs ∷ []) (ds ++ d ∷ []) steps
each_lists b l ds xs d [] h = tt
each_lists b l ds xs d (x ∷ steps) h = (step_lists b l ds xs d x h.0, each_lists b l ds xs d steps h.1)

flat_bodies : (b l : List (List Lexeme)) (ds : List Definition) (xs : List Lexeme) (steps : List Step) → EachStep b l ds steps → flat_map (gives (b ++ xs ∷ []) l) steps ≡ flat_map (gives b l) steps
flat_bodies b l ds xs [] h = refl
flat_bodies b l ds xs (x ∷ steps) h =
    ap (λ ys. ys ++ flat_map (gives (b ++ xs ∷ []) l) steps) (gives_bodies b l ds xs x h.0)
    ∙ ap (λ t. gives b l x ++ t) (flat_bodies b l ds xs steps h.1)

flat_lists : (b l : List (List Lexeme)) (ds : List Definition) (xs : List Lexeme) (steps : List Step) → EachStep b l ds steps → flat_map (gives b (l ++ xs ∷ [])) steps ≡ flat_map (gives b l) steps
flat_lists b l ds xs [] h = refl
flat_lists b l ds xs (x ∷ steps) h =
    ap (λ ys. ys ++ flat_map (gives b (l ++ xs ∷ [])) steps) (gives_lists b l ds xs x h.0)
    ∙ ap (λ t. gives b l x ++ t) (flat_lists b l ds xs steps h.1)

plan_bodies : (b l : List (List Lexeme)) (ds : List Definition) (xs : List Lexeme) (plan : Plan) (ys : List Lexeme) → IsPlan b l ds plan ys → IsPlan (b ++ xs ∷ []) l ds plan ys
plan_bodies b l ds xs plan ys h = record {
  given = flat_bodies b l ds xs plan.steps h.steps ∙ h.given;
  steps = each_bodies b l ds xs plan.steps h.steps;
  count = h.count;
  bytes = h.bytes;
}

plan_lists : (b l : List (List Lexeme)) (ds : List Definition) (xs : List Lexeme) (d : Definition) (plan : Plan) (ys : List Lexeme) → IsPlan b l ds plan ys → IsPlan b (l ++ xs ∷ []) (ds ++ d ∷ []) plan ys
plan_lists b l ds xs d plan ys h = record {
  given = flat_lists b l ds xs plan.steps h.steps ∙ h.given;
  steps = each_lists b l ds xs d plan.steps h.steps;
  count = h.count;
  bytes = h.bytes;
}

-- ---- the plans of a table

each_more : (b l : List (List Lexeme)) (all : List Definition) (body xs : List Lexeme) (d : Definition) (ds : List Definition) (lists : List (List Lexeme)) → EachPlan b l all ds lists → EachPlan (b ++ body ∷ []) (l ++ xs ∷ []) (all ++ d ∷ []) ds lists
each_more b l all body xs d [] [] h = tt
each_more b l all body xs d [] (ys ∷ lists) h = absurd h
each_more b l all body xs d (e ∷ ds) [] h = absurd h
each_more b l all body xs d (e ∷ ds) (ys ∷ lists) h = (
  plan_lists (b ++ body ∷ []) l all xs d e.plan ys (plan_bodies b l all body e.plan ys h.0),
  each_more b l all body xs d ds lists h.1,
)

each_push : (b l : List (List Lexeme)) (all ds : List Definition) (lists : List (List Lexeme)) (d : Definition) (xs : List Lexeme) → EachPlan b l all ds lists → IsPlan b l all d.plan xs → EachPlan b l all (ds ++ d ∷ []) (lists ++ xs ∷ [])
each_push b l all [] [] d xs h new = (new, tt)
each_push b l all [] (ys ∷ lists) d xs h new = absurd h
each_push b l all (e ∷ ds) [] d xs h new = absurd h
each_push b l all (e ∷ ds) (ys ∷ lists) d xs h new = (h.0, each_push b l all ds lists d xs h.1 new)

lists_long : (b l : List (List Lexeme)) (all ds : List Definition) (lists : List (List Lexeme)) → EachPlan b l all ds lists → length lists ≡ length ds
lists_long b l all [] [] h = refl
lists_long b l all [] (ys ∷ lists) h = absurd h
lists_long b l all (e ∷ ds) [] h = absurd h
lists_long b l all (e ∷ ds) (ys ∷ lists) h = ap suc (lists_long b l all ds lists h.1)

plan_there : (b l : List (List Lexeme)) (all ds : List Definition) (lists : List (List Lexeme)) (k : ℕ) (d : Definition) → EachPlan b l all ds lists → k < length ds → d ≡ get_or ds k d → IsPlan b l all d.plan (full_at lists k)
plan_there b l all [] lists k d h lt e = absurd (omega arith)
plan_there b l all (x ∷ ds) [] k d h lt e = absurd h
plan_there b l all (x ∷ ds) (xs ∷ lists) zero d h lt e = subst (λ (y : Definition). IsPlan b l all y.plan xs) (sym e) h.0
plan_there b l all (x ∷ ds) (xs ∷ lists) (suc k) d h lt e = plan_there b l all ds lists k d h.1 (omega arith) e

pub plan_of_number : (m : Macros) (k : ℕ) (d : Definition) → ArePlanned m → k < length m.list.items → d ≡ get_or m.list.items k d → IsPlan (bodies (listed m)) (fulls (listed m)) m.list.items d.plan (full_at (fulls (listed m)) k)
plan_of_number m k d h lt e = plan_there _ _ m.list.items m.list.items (fulls (listed m)) k d h lt e

-- its counts
pub sizes_of_plan : (b l : List (List Lexeme)) (ds : List Definition) (plan : Plan) (xs : List Lexeme) → IsPlan b l ds plan xs → ◌≡◌ {A = ℕ × ℕ} (plan.count, plan.bytes) (sizes_shown xs)
sizes_of_plan b l ds plan xs h = ap (λ n. (n, plan.bytes)) h.count ∙ ap (λ n. (min (length xs) greatest, n)) h.bytes

-- a table with a macro more
pub planned_push : (ds : List Definition) (d : Definition) (new : List Definition) → new ≡ ds ++ d ∷ [] → EachPlan (bodies (map macro ds)) (fulls (map macro ds)) ds ds (fulls (map macro ds)) → IsPlan (bodies (map macro ds) ++ d.body ∷ []) (fulls (map macro ds)) ds d.plan (flat_map (replaced (map macro ds)) d.body) → EachPlan (bodies (map macro new)) (fulls (map macro new)) new new (fulls (map macro new))
planned_push ds d new e all plan =
    let xs = flat_map (replaced (map macro ds)) d.body in
    let P : List Definition → Type 0 = λ n. EachPlan (bodies (map macro n)) (fulls (map macro n)) n n (fulls (map macro n)) in
    let Q : List (List Lexeme) → Type 0 = λ l. EachPlan (bodies (map macro (ds ++ d ∷ []))) l (ds ++ d ∷ []) (ds ++ d ∷ []) l in
    let R : List (List Lexeme) → Type 0 = λ b. EachPlan b (fulls (map macro ds) ++ xs ∷ []) (ds ++ d ∷ []) (ds ++ d ∷ []) (fulls (map macro ds) ++ xs ∷ []) in
    subst P (sym e) (subst Q (sym (ap fulls (map-append macro ds (d ∷ [])) ∙ MacroLaws.fulls-push (map macro ds) (macro d)))
    (subst R (sym (ap bodies (map-append macro ds (d ∷ [])) ∙ bodies-push (map macro ds) (macro d)))
    (each_push _ _ _ ds (fulls (map macro ds)) d xs
    (each_more (bodies (map macro ds)) (fulls (map macro ds)) ds d.body xs d ds (fulls (map macro ds)) all)
    (plan_lists _ (fulls (map macro ds)) ds xs d d.plan xs plan))))

-- ---- a plan with a step more

flat_more : (f : Step → List Lexeme) (steps : List Step) (x : Step) → flat_map f (steps ++ x ∷ []) ≡ flat_map f steps ++ f x
flat_more f [] x = append-nil (f x)
flat_more f (y ∷ steps) x = ap (λ t. f y ++ t) (flat_more f steps x) ∙ sym (append_assoc (f y) (flat_map f steps) (f x))

each_append : (b l : List (List Lexeme)) (ds : List Definition) (xs ys : List Step) → EachStep b l ds xs → EachStep b l ds ys → EachStep b l ds (xs ++ ys)
each_append b l ds [] ys h g = g
each_append b l ds (x ∷ xs) ys h g = (h.0, each_append b l ds xs ys h.1 g)

count_more : (n m : ℕ) (x y : ℕ) → x ≡ min n greatest → y ≡ min m greatest → min (x + y) greatest ≡ min (n + m) greatest
count_more n m x y e f = omega (arith, e, f)

count_by : (n m : ℕ) (x : ℕ) → x ≡ min n greatest → min (x + m) greatest ≡ min (n + m) greatest
count_by n m x e = omega (arith, e)

token_more : (b l : List (List Lexeme)) (ds : List Definition) (plan : Plan) (xs : List Lexeme) (number at : ℕ) (x : Lexeme) → IsPlan b l ds plan xs → IsStep b l ds (s.Token number at) → gives b l (s.Token number at) ≡ x ∷ [] → IsPlan b l ds (with_token plan number at x.size) (xs ++ x ∷ [])
token_more b l ds plan xs number at x h step e = record {
  given = flat_more (gives b l) plan.steps (s.Token number at) ∙ ap (λ t. t ++ gives b l (s.Token number at)) h.given ∙ ap (λ t. xs ++ t) e;
  steps = each_append b l ds plan.steps (s.Token number at ∷ []) h.steps (step, tt);
  count = count_by (length xs) 1 plan.count h.count ∙ ap (λ n. min n greatest) (sym (length-append xs (x ∷ [])));
  bytes = count_by (sizes xs) x.size plan.bytes h.bytes ∙ ap (λ n. min n greatest) (sym (MacroLaws.sizes-append xs (x ∷ []) ∙ ap (λ n. sizes xs + n) (plus_zero x.size)));
}
  where
    plus_zero : (n : ℕ) → n + 0 ≡ n
    plus_zero n = omega arith

macro_steps : (b l : List (List Lexeme)) (ds : List Definition) (steps : List Step) (xs ys : List Lexeme) (number : ℕ) (other : List Step) → flat_map (gives b l) steps ≡ xs → EachStep b l ds steps → flat_map (gives b l) other ≡ ys → EachStep b l ds other → number < length ds → number < length l → steps_at ds number ≡ other → full_at l number ≡ ys → (flat_map (gives b l) (with_step steps (step_of number other)) ≡ xs ++ ys) × EachStep b l ds (with_step steps (step_of number other))
macro_steps b l ds steps xs ys number [] given each other each_other lt lt2 e full = (given ∙ sym (append-nil xs) ∙ ap (λ t. xs ++ t) other, each)
macro_steps b l ds steps xs ys number (x ∷ []) given each other each_other lt lt2 e full = (
  flat_more (gives b l) steps x ∙ ap (λ t. t ++ gives b l x) given ∙ ap (λ t. xs ++ t) (sym (append-nil (gives b l x)) ∙ other),
  each_append b l ds steps (x ∷ []) each each_other,
)
macro_steps b l ds steps xs ys number (x ∷ y ∷ more) given each other each_other lt lt2 e full = (
  flat_more (gives b l) steps (s.Whole number) ∙ ap (λ t. t ++ full_at l number) given ∙ ap (λ t. xs ++ t) full,
  each_append b l ds steps (s.Whole number ∷ []) each ((lt, lt2, two, one), tt),
)
  where
    two : 2 ≤ length (steps_at ds number)
    two = omega (arith, ap length e)

    one : 1 ≤ length (full_at l number)
    one = omega (arith, ap length full, ap length other, given_some b l ds x each_other.0, length-append (gives b l x) (gives b l y ++ flat_map (gives b l) more))

macro_more : (b l : List (List Lexeme)) (ds : List Definition) (plan other : Plan) (xs ys : List Lexeme) (number : ℕ) → IsPlan b l ds plan xs → IsPlan b l ds other ys → number < length ds → number < length l → steps_at ds number ≡ other.steps → full_at l number ≡ ys → IsPlan b l ds (with_macro plan number other) (xs ++ ys)
macro_more b l ds plan other xs ys number h g lt lt2 e full =
    let both = macro_steps b l ds plan.steps xs ys number other.steps h.given h.steps g.given g.steps lt lt2 e full in
    record {
      given = both.0;
      steps = both.1;
      count = count_more (length xs) (length ys) plan.count other.count h.count g.count ∙ ap (λ n. min n greatest) (sym (length-append xs ys));
      bytes = count_more (sizes xs) (sizes ys) plan.bytes other.bytes h.bytes g.bytes ∙ ap (λ n. min n greatest) (sym (MacroLaws.sizes-append xs ys));
    }

flat_take : (f : Lexeme → List Lexeme) (body : List Lexeme) (k : ℕ) (x : Lexeme) → k < length body → x ≡ get_or body k x → flat_map f (take k body) ++ f x ≡ flat_map f (take (k + 1) body)
flat_take f body k x lt e =
    ap (λ t. flat_map f (take k body) ++ t) (sym (append-nil (f x)))
    ∙ sym (MacroLaws.flat_map-append f (take k body) (x ∷ []))
    ∙ ap (λ y. flat_map f (take k body ++ y ∷ [])) e
    ∙ sym (ap (flat_map f) (take_more body k x lt))

-- a token that uses no macro
pub new_token : (m : Macros) (body : List Lexeme) (plan : Plan) (k : ℕ) (x : Lexeme) → k < length body → x ≡ get_or body k x → replaced (listed m) x ≡ x ∷ [] → IsNewPlan m body plan (take k body) → IsNewPlan m body (with_token plan (length m.list.items) k x.size) (take (k + 1) body)
new_token m body plan k x lt e same h =
    let b = bodies (listed m) in
    let l = fulls (listed m) in
    let n : length b ≡ length m.list.items = bodies_long m.list.items in
    let own : full_at (b ++ body ∷ []) (length m.list.items) ≡ body = ap (full_at (b ++ body ∷ [])) (sym n) ∙ at_end b body in
    let P : List Lexeme → Type 0 = λ xs. IsPlan (b ++ body ∷ []) l m.list.items (with_token plan (length m.list.items) k x.size) xs in
    subst P (ap (λ t. flat_map (replaced (listed m)) (take k body) ++ t) (sym same) ∙ flat_take (replaced (listed m)) body k x lt e)
    (token_more (b ++ body ∷ []) l m.list.items plan (flat_map (replaced (listed m)) (take k body)) (length m.list.items) k x h
    (omega (arith, n, length-append b (body ∷ [])), subst (λ t. k < length t) (sym own) lt)
    (ap (λ t. token_at t k) own ∙ token_there body k x lt e))

-- a token that uses the macro of this number
pub new_macro : (m : Macros) (body : List Lexeme) (plan : Plan) (k : ℕ) (x : Lexeme) (number : ℕ) (d : Definition) → k < length body → x ≡ get_or body k x → Some number ≡ used (listed m) x.what → ArePlanned m → number < length m.list.items → d ≡ get_or m.list.items number d → IsNewPlan m body plan (take k body) → IsNewPlan m body (with_macro plan number d.plan) (take (k + 1) body)
new_macro m body plan k x number d lt e uses all there at h =
    let b = bodies (listed m) in
    let l = fulls (listed m) in
    let other = plan_of_number m number d all there at in
    let P : List Lexeme → Type 0 = λ xs. IsPlan (b ++ body ∷ []) l m.list.items (with_macro plan number d.plan) xs in
    subst P (ap (λ t. flat_map (replaced (listed m)) (take k body) ++ t) (sym (MacroLaws.replaced_macro (listed m) x number uses)) ∙ flat_take (replaced (listed m)) body k x lt e)
    (macro_more (b ++ body ∷ []) l m.list.items plan d.plan (flat_map (replaced (listed m)) (take k body)) (full_at l number) number h
    (plan_bodies b l m.list.items body d.plan (full_at l number) other)
    there (omega (arith, there, lists_long b l m.list.items m.list.items l all)) (steps_there m.list.items number d there at) refl)

-- ---- writing out

owed-append : (b l : List (List Lexeme)) (xs ys : List Step) → owed_by b l (xs ++ ys) ≡ owed_by b l ys ++ owed_by b l xs
owed-append b l [] ys = sym (append-nil (owed_by b l ys))
owed-append b l (x ∷ xs) ys = ap (λ t. t ++ gives b l x) (owed-append b l xs ys) ∙ append_assoc (owed_by b l ys) (owed_by b l xs) (gives b l x)

owed-reverse : (b l : List (List Lexeme)) (steps : List Step) → owed_by b l (reverse steps) ≡ flat_map (gives b l) steps
owed-reverse b l [] = refl
owed-reverse b l (x ∷ steps) = ap (owed_by b l) (reverse-append (x ∷ []) steps) ∙ owed-append b l (reverse steps) (x ∷ []) ∙ ap (λ t. gives b l x ++ t) (owed-reverse b l steps)

each_reverse : (b l : List (List Lexeme)) (ds : List Definition) (steps : List Step) → EachStep b l ds steps → EachStep b l ds (reverse steps)
each_reverse b l ds [] h = tt
each_reverse b l ds (x ∷ steps) h = subst (EachStep b l ds) (sym (reverse-append (x ∷ []) steps)) (each_append b l ds (reverse steps) (x ∷ []) (each_reverse b l ds steps h.1) (h.0, tt))

small : (b l : List (List Lexeme)) (ds : List Definition) (steps : List Step) → EachStep b l ds steps → length steps ≤ length (owed_by b l steps)
small b l ds [] h = omega arith
small b l ds (x ∷ steps) h = omega (arith, small b l ds steps h.1, given_some b l ds x h.0, length-append (owed_by b l steps) (gives b l x))

owed_last : (m : Macros) (stack : List Step) (x : Step) → owed m (stack ++ x ∷ []) ≡ gives (bodies (listed m)) (fulls (listed m)) x ++ owed m stack
owed_last m stack x = owed-append (bodies (listed m)) (fulls (listed m)) stack (x ∷ [])

pub steps_left : (m : Macros) (xs ys : List Step) → AreSteps m (xs ++ ys) → AreSteps m xs
steps_left m [] ys h = tt
steps_left m (x ∷ xs) ys h = (h.0, steps_left m xs ys h.1)

pub steps_right : (m : Macros) (xs ys : List Step) → AreSteps m (xs ++ ys) → AreSteps m ys
steps_right m [] ys h = h
steps_right m (x ∷ xs) ys h = steps_right m xs ys h.1

pub token_within : (m : Macros) (number at : ℕ) → AreSteps m (s.Token number at ∷ []) → at < length (body_at (listed m) number)
token_within m number at h = subst (λ body. at < length body) (bodies_at (listed m) number) h.0.1

-- a token is written
pub wrote_token : (m : Macros) (place : Place) (stack : List Step) (number at : ℕ) (old new : List Token) → new ≡ old ++ map (placed place) (token_at (body_at (listed m) number) at) → new ++ map (placed place) (owed m stack) ≡ old ++ map (placed place) (owed m (stack ++ s.Token number at ∷ []))
wrote_token m place stack number at old new is =
    ap (λ t. t ++ map (placed place) (owed m stack)) is
    ∙ append_assoc old (map (placed place) (token_at (body_at (listed m) number) at)) (map (placed place) (owed m stack))
    ∙ ap (λ t. old ++ t) (sym (map-append (placed place) (token_at (body_at (listed m) number) at) (owed m stack)))
    ∙ ap (λ body. old ++ map (placed place) (token_at body at ++ owed m stack)) (sym (bodies_at (listed m) number))
    ∙ ap (λ t. old ++ map (placed place) t) (sym (owed_last m stack (s.Token number at)))

pub nearer_token : (m : Macros) (stack : List Step) (number at : ℕ) → AreSteps m stack → AreSteps m (s.Token number at ∷ []) → turns m stack < turns m (stack ++ s.Token number at ∷ [])
nearer_token m stack number at h step =
    let b = bodies (listed m) in
    let l = fulls (listed m) in
    omega (
      arith,
      small b l m.list.items stack h,
      token_long (full_at b number) at step.0.1,
      ap length (owed_last m stack (s.Token number at)),
      length-append (gives b l (s.Token number at)) (owed m stack),
      length-append stack (s.Token number at ∷ []),
    )

-- the steps of a macro come in
pub owed_whole : (m : Macros) (stack : List Step) (number : ℕ) (d : Definition) → ArePlanned m → number < length m.list.items → d ≡ get_or m.list.items number d → owed m (stack ++ reverse d.plan.steps) ≡ full_at (fulls (listed m)) number ++ owed m stack
owed_whole m stack number d all lt e =
    let b = bodies (listed m) in
    let l = fulls (listed m) in
    owed-append b l stack (reverse d.plan.steps)
    ∙ ap (λ t. t ++ owed m stack) (owed-reverse b l d.plan.steps ∙ (plan_of_number m number d all lt e).given)

pub entered : (m : Macros) (stack : List Step) (number : ℕ) (d : Definition) → ArePlanned m → number < length m.list.items → d ≡ get_or m.list.items number d → owed m (stack ++ reverse d.plan.steps) ≡ owed m (stack ++ s.Whole number ∷ [])
entered m stack number d all lt e = owed_whole m stack number d all lt e ∙ sym (owed_last m stack (s.Whole number))

pub steps_entered : (m : Macros) (stack : List Step) (number : ℕ) (d : Definition) → ArePlanned m → number < length m.list.items → d ≡ get_or m.list.items number d → AreSteps m stack → AreSteps m (stack ++ reverse d.plan.steps)
steps_entered m stack number d all lt e h =
    let b = bodies (listed m) in
    let l = fulls (listed m) in
    each_append b l m.list.items stack (reverse d.plan.steps) h (each_reverse b l m.list.items d.plan.steps (plan_of_number m number d all lt e).steps)

pub nearer_whole : (m : Macros) (stack : List Step) (number : ℕ) (d : Definition) → ArePlanned m → d ≡ get_or m.list.items number d → AreSteps m stack → AreSteps m (s.Whole number ∷ []) → turns m (stack ++ reverse d.plan.steps) < turns m (stack ++ s.Whole number ∷ [])
nearer_whole m stack number d all e h step =
    let b = bodies (listed m) in
    let l = fulls (listed m) in
    let lt = step.0.0 in
    omega (
      arith,
      small b l m.list.items stack h,
      step.0.2,
      step.0.3,
      ap length (steps_there m.list.items number d lt e),
      ap length (entered m stack number d all lt e),
      ap length (owed_last m stack (s.Whole number)),
      length-append (full_at l number) (owed m stack),
      length-append stack (s.Whole number ∷ []),
      length-append stack (reverse d.plan.steps),
      length-reverse d.plan.steps,
    )
