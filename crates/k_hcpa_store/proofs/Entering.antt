-- How the step of a call goes, by what is told of its operation.
use Rattle.std.proofs.Common.{◌≡◌, ℕ, ◌+◌, List, [], ◌∷◌, ◌++◌, map, Option, Err, refl, sym, ◌∙◌, ap, subst}
use Rattle.std.proofs.Math.Numerals.{add-one}
use Rattle.std.proofs.lemmas.List.{append-nil, append_assoc}
use Rattle.k_world.specs.declared.value.Held.{Held}
use Rattle.k_num.specs.declared.place.Place.{Place}
use Rattle.k_optab.specs.declared.class.Class.{Class}
use Rattle.k_optab.specs.declared.class.Class.TheVariants as class
use Rattle.k_world.specs.declared.act.Act.TheVariants as does
use Rattle.k_world.specs.declared.answer.Stop.{Stop}
use Rattle.k_world.specs.declared.answer.Stop.TheVariants as stop
use Rattle.k_world.specs.declared.value.Read.{Read}
use Rattle.k_world.specs.Answers.{Makes}
use Rattle.k_world.specs.Worlds.{World}
use Rattle.k_code.specs.declared.code.CodeFunc.{CodeFunc}
use Rattle.k_code.specs.declared.instruction.Arg.{Arg}
use Rattle.k_code.specs.Steps.{read_of}
use Rattle.k_hcpa_store.specs.Calls.{held_up_to, CallsTo, IsEntered}
use Rattle.k_hcpa_store.specs.Kept.{Kept, window}
use Rattle.k_hcpa_store.specs.Parts.{reads_in}
use Rattle.k_hcpa_store.proofs.Operating.{unchanged}

-- no register was begun
pub none_more : (xs : List (Option Held)) (held : ℕ → Option Held) → xs ≡ xs ++ held_up_to 0 held
unfolding held_up_to
none_more xs held = sym (append-nil xs)

-- and one more
pub one_more : (xs ys zs : List (Option Held)) (k : ℕ) (held : ℕ → Option Held) (x : Option Held) → ys ≡ xs ++ held_up_to k held → zs ≡ ys ++ x ∷ [] → x ≡ held k
    → zs ≡ xs ++ held_up_to (k + 1) held
unfolding held_up_to
one_more xs ys zs k held x begun pushed is =
    pushed ∙ (λ i. begun i ++ is i ∷ []) ∙ append_assoc xs (held_up_to k held) (held k ∷ []) ∙ ap (λ n. xs ++ held_up_to n held) (sym (add-one k))

-- what was read for an operation
pub reads_told : (lent reads : List Read) (registers kept : List (Option Held)) (args : List Arg) (first : ℕ) → lent ≡ reads → reads ≡ map (read_of (window registers first)) args
    → registers ≡ kept → lent ≡ map (read_of (window kept first)) args
reads_told lent reads registers kept args first is told same = is ∙ told ∙ ap (λ (xs : List (Option Held)). map (read_of (window xs first)) args) same

-- a call whose operation was not made
pub call_refused : (s old new : Kept) (place : Place) (f : CodeFunc) (func : ℕ) (args : List Arg) (to : Option ℕ) (r : Stop) (reads : List Read) (w : World) → s ≡ old
    → reads ≡ reads_in s args → ((class : Class) (latency : ℕ) → Makes class latency place does.Call reads s.world (Err r) w) → new ≡ record s { world = w }
    → CallsTo place f func args to old (Err r) new
call_refused s old new place f func args to r reads w s_is told made is =
    subst (λ (x : Kept). CallsTo place f func args to x (Err r) new) s_is
    (subst (λ (x : Kept). CallsTo place f func args to s (Err r) x) (sym is)
    (go r (λ class latency. subst (λ (x : List Read). Makes class latency place does.Call x s.world (Err r) w) told (made class latency))))
  where
    go : (r : Stop) → ((class : Class) (latency : ℕ) → Makes class latency place does.Call (reads_in s args) s.world (Err r) w)
        → CallsTo place f func args to s (Err r) (record s { world = w })
    go (stop.Ended end) m = (m, refl)
    go stop.Memory m = ap (λ (v : World). record s { world = v }) (unchanged stop.Memory class.Simple 0 place does.Call (reads_in s args) s.world w (m class.Simple 0))

pub call_entered : (s old new : Kept) (place : Place) (f : CodeFunc) (func : ℕ) (args : List Arg) (to : Option ℕ) → s ≡ old
    → IsEntered place f func args to s new → IsEntered place f func args to old new
call_entered s old new place f func args to is e = subst (λ (x : Kept). IsEntered place f func args to x new) is e
