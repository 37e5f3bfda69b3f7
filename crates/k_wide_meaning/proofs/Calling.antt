-- Which function can be called from which can be told: by the functions that may stand between, one more at a time.
use Rattle.std.proofs.Common.{◌≡◌, ℕ, zero, suc, ◌<◌, Bool, true, false, IsTrue, List, length, Option, Some, None, refl, sym, ◌∙◌, ap, subst, inl, inr, arith, true≢false}
use Rattle.std.specs.Prelude.{nat_eq, ◌&&◌, ◌||◌, ◌⊎◌}
use Rattle.std.specs.List.{list_any, slice_get}
use Rattle.std.proofs.lemmas.Bool.{eq-eqb, eqb-true, cases_lt}
use Rattle.std.proofs.lemmas.Bool.Decides.{eqb_tells}
use Rattle.std.proofs.lemmas.Option.{slice_get_past}
use Rattle.k_types_meaning.specs.declared.tree.unit.TFunc.{TFunc}
use Rattle.k_wide_meaning.specs.Contents.{function_seen}
use Rattle.k_wide_meaning.specs.Calls.{is_call, IsCalledBy, CanCall, itself, through, IsCalling}
use Rattle.k_wide_meaning.specs.Marking.{marks_by}
use Rattle.k_wide_meaning.specs.Laws.{MarksExist, MarksAreUnique}

-- two tests that tell the same are one
same_bool : (a b : Bool) → (IsTrue a → IsTrue b) → (IsTrue b → IsTrue a) → a ≡ b
same_bool true true f g = refl
same_bool true false f g = absurd (true≢false (sym (f refl)))
same_bool false true f g = absurd (true≢false (sym (g refl)))
same_bool false false f g = refl

either_true : (a b : Bool) → (a || b) ≡ true → (a ≡ true) ⊎ (b ≡ true)
either_true true b h = inl refl
either_true false b h = inr h

both_true : (a b : Bool) → (a && b) ≡ true → (a ≡ true) × (b ≡ true)
both_true true b h = (refl, h)
both_true false b h = absurd (true≢false (sym h))

or_left : (a b : Bool) → a ≡ true → (a || b) ≡ true
or_left true b h = refl
or_left false b h = absurd (true≢false (sym h))

or_right : (a b : Bool) → b ≡ true → (a || b) ≡ true
or_right true b h = refl
or_right false b h = h

and_both : (a b : Bool) → a ≡ true → b ≡ true → (a && b) ≡ true
and_both true b h k = k
and_both false b h k = absurd (true≢false (sym h))

-- what a function calls, if there is one
abbrev calls_there : Option TFunc → ℕ → Bool
calls_there None g = false
calls_there (Some f) g = list_any (is_call g) (function_seen f).occurs

module _ (fs : List TFunc) where
  -- one function calls the other by name
  abbrev direct : ℕ → ℕ → Bool
  direct f g = calls_there (slice_get fs f) g

  direct_of : (f g : ℕ) → IsCalledBy fs f g → direct f g ≡ true
  direct_of f g h = ap (λ (o : Option TFunc). calls_there o g) h.there ∙ h.calls

  of_found : (f g : ℕ) (o : Option TFunc) → slice_get fs f ≡ o → calls_there o g ≡ true → IsCalledBy fs f g
  of_found f g None at h = absurd (true≢false (sym h))
  of_found f g (Some caller) at h = record { caller = caller; there = at; calls = h }

  of_direct : (f g : ℕ) → direct f g ≡ true → IsCalledBy fs f g
  of_direct f g h = of_found f g (slice_get fs f) refl h

  -- from one function the other can be called, where those that stand between have numbers below this one
  unfoldable reaches : ℕ → ℕ → ℕ → Bool
  reaches zero f g = nat_eq f g || direct f g
  reaches (suc k) f g = reaches k f g || (reaches k f k && reaches k k g)

  joined : (f g h : ℕ) → CanCall fs f g → CanCall fs g h → CanCall fs f h
  joined f g _ p itself = p
  joined f g _ p (through m h q c) = through m h (joined f g m p q) c

  sound : (k f g : ℕ) → reaches k f g ≡ true → CanCall fs f g
  unfolding reaches
  sound zero f g h = elim (either_true (nat_eq f g) (direct f g) h) [
    | inl same ↦ subst (λ (n : ℕ). CanCall fs f n) (eqb-true f g same) itself
    | inr calls ↦ through f g itself (of_direct f g calls)
  ]
  sound (suc k) f g h = elim (either_true (reaches k f g) (reaches k f k && reaches k k g) h) [
    | inl one ↦ sound k f g one
    | inr two ↦
        (let parts = both_true (reaches k f k) (reaches k k g) two in
        joined f k g (sound k f k parts.0) (sound k k g parts.1))
  ]

  more : (k f g : ℕ) → reaches k f g ≡ true → reaches (suc k) f g ≡ true
  unfolding reaches
  more k f g h = or_left (reaches k f g) (reaches k f k && reaches k k g) h

  over : (k f g : ℕ) → reaches k f k ≡ true → reaches k k g ≡ true → reaches (suc k) f g ≡ true
  unfolding reaches
  over k f g h j = or_right (reaches k f g) (reaches k f k && reaches k k g) (and_both (reaches k f k) (reaches k k g) h j)

  steps : (k f g : ℕ) → reaches (suc k) f g ≡ true → (reaches k f g ≡ true) ⊎ ((reaches k f k ≡ true) × (reaches k k g ≡ true))
  unfolding reaches
  steps k f g h = elim (either_true (reaches k f g) (reaches k f k && reaches k k g) h) [
    | inl one ↦ inl one
    | inr two ↦ inr (both_true (reaches k f k) (reaches k k g) two)
  ]

  directly : (k f g : ℕ) → direct f g ≡ true → reaches k f g ≡ true
  unfolding reaches
  directly zero f g h = or_right (nat_eq f g) (direct f g) h
  directly (suc k) f g h = or_left (reaches k f g) (reaches k f k && reaches k k g) (directly k f g h)

  at_itself : (k f : ℕ) → reaches k f f ≡ true
  unfolding reaches
  at_itself zero f = or_left (nat_eq f f) (direct f f) (eq-eqb f f refl)
  at_itself (suc k) f = or_left (reaches k f f) (reaches k f k && reaches k k f) (at_itself k f)

  -- to a function that may stand between, and on from there
  to_between : (k f : ℕ) → reaches (suc k) f k ≡ true → reaches k f k ≡ true
  to_between k f h = elim (steps k f k h) [
    | inl one ↦ one
    | inr two ↦ two.0
  ]

  from_between : (k g : ℕ) → reaches (suc k) k g ≡ true → reaches k k g ≡ true
  from_between k g h = elim (steps k k g h) [
    | inl one ↦ one
    | inr two ↦ two.1
  ]

  -- reaching goes on over what may stand between
  abbrev GoesOn : ℕ → Type 0
  GoesOn k = (f m g : ℕ) → m < k → reaches k f m ≡ true → reaches k m g ≡ true → reaches k f g ≡ true

  passed : (k f m g : ℕ) → GoesOn k → m < k → (reaches k f m ≡ true) ⊎ ((reaches k f k ≡ true) × (reaches k k m ≡ true))
      → (reaches k m g ≡ true) ⊎ ((reaches k m k ≡ true) × (reaches k k g ≡ true)) → reaches (suc k) f g ≡ true
  passed k f m g on under (inl a) (inl b) = more k f g (on f m g under a b)
  passed k f m g on under (inl a) (inr b) = over k f g (on f m k under a b.0) b.1
  passed k f m g on under (inr a) (inl b) = over k f g a.0 (on k m g under a.1 b)
  passed k f m g on under (inr a) (inr b) = over k f g a.0 b.1

  passes : (k : ℕ) → GoesOn k
  passes zero f m g below h j = absurd (omega arith)
  passes (suc k) f m g below h j = elim (eqb_tells m k) [
    | inl (t, same) ↦
        over k f g (to_between k f (subst (λ (n : ℕ). reaches (suc k) f n ≡ true) same h)) (from_between k g (subst (λ (n : ℕ). reaches (suc k) n g ≡ true) same j))
    | inr (t, apart) ↦
        (let under : m < k = omega (arith, apart) in
        passed k f m g (passes k) under (steps k f m h) (steps k m g j))
  ]

  -- a function that calls one has its number
  inside : (g h : ℕ) → IsCalledBy fs g h → g < length fs
  inside g h c = elim (cases_lt g (length fs)) [
    | inl here ↦ here
    | inr past ↦ absurd (true≢false (sym (direct_of g h c) ∙ ap (λ (o : Option TFunc). calls_there o h) (slice_get_past fs g past)))
  ]

  complete : (f h : ℕ) → CanCall fs f h → reaches (length fs) f h ≡ true
  complete f _ itself = at_itself (length fs) f
  complete f _ (through g h p c) =
      passes (length fs) f g h (inside g h c) (complete f g p) (directly (length fs) g h (direct_of g h c))

pub calls_are_told : (fs : List TFunc) → (called : ℕ → ℕ → Bool) × IsCalling fs called
calls_are_told fs = (reaches fs (length fs), λ f g. (sound fs (length fs) f g, complete fs f g))

pub marks_exist : MarksExist
marks_exist unit =
    let told = calls_are_told unit.functions in
    (marks_by unit told.0, (told.0, told.1, refl))

-- two tests that tell which function can be called from which are one
told_once : (fs : List TFunc) (a b : ℕ → ℕ → Bool) → IsCalling fs a → IsCalling fs b → a ≡ b
told_once fs a b one other = λ i f g. same_bool (a f g) (b f g) (λ h. (other f g).1 ((one f g).0 h)) (λ h. (one f g).1 ((other f g).0 h)) i

pub marks_are_unique : MarksAreUnique
marks_are_unique unit a b one other = one.2 ∙ (ap (marks_by unit) (told_once unit.functions one.0 other.0 one.1 other.1) ∙ sym other.2)
