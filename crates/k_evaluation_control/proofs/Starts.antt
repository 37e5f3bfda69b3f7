-- The start of a run leaves a tidy world: the file objects are made and set, and the strings behind them.
use Rattle.std.proofs.Common.{◌≡◌, ℕ, List, [], ◌∷◌, ◌++◌, Option, Some, None, false, refl}
use Rattle.k_num.specs.declared.place.Place.{Place}
use Rattle.k_types_meaning.specs.declared.tree.unit.TObject.{TObject}
use Rattle.k_types_meaning.specs.declared.tree.unit.TString.{TString}
use Rattle.k_mem.specs.declared.start.Start.TheVariants.{Zero}
use Rattle.k_mem.proofs.LaidOut.{nothing_is_laid_out}
use Rattle.k_world.specs.Changes.{object_made, string_made}
use Rattle.k_world.specs.Worlds.{World, fresh}
use Rattle.k_evaluation.specs.Objects.{made_object, makes_object, makes_string, fills}
use Rattle.k_evaluation.specs.Runs.{starts_object, starts_objects, starts_strings}
use Rattle.k_evaluation.specs.States.{State}
use Rattle.k_evaluation_control.specs.Laws.{IsTidy}
use Rattle.k_evaluation_control.proofs.Kept.{Leaves, Does, then_tidies, tidies, gives_does, fills_keeps}
use Rattle.k_evaluation_control.proofs.Tidy.{made_tidy, string_tidy}

object_made_tidy : (live : ℕ) (place : Place) (s : State) (m : Option World) → ((w : World) → m ≡ Some w → IsTidy live w) → Leaves live false s.world.control (made_object place s m)
object_made_tidy live place s None h = tt
object_made_tidy live place s (Some w) h = (h w refl, tt)

starts_object_tidies : (o : TObject) → Does false (starts_object o)
starts_object_tidies o =
    then_tidies (makes_object o.place Zero o.elements) (λ home. fills home o.first)
    (record { leaves = λ k s tidy. object_made_tidy k o.place s (object_made s.world Zero o.elements) (λ w is. made_tidy k s.world w Zero o.elements tt tidy is) })
    (λ home. tidies (fills home o.first) (fills_keeps home o.first))

pub starts_objects_tidies : (os : List TObject) → Does false (starts_objects os)
starts_objects_tidies [] = gives_does false tt
starts_objects_tidies (o ∷ os) = then_tidies (starts_object o) (λ done. starts_objects os) (starts_object_tidies o) (λ done. starts_objects_tidies os)

pub starts_strings_tidies : (ts : List TString) → Does false (starts_strings ts)
starts_strings_tidies [] = gives_does false tt
starts_strings_tidies (t ∷ ts) =
    then_tidies (makes_string t.place t.bytes) (λ home. starts_strings ts)
    (record { leaves = λ k s tidy. object_made_tidy k t.place s (string_made s.world (t.bytes ++ 0 ∷ [])) (λ w is. string_tidy k s.world w (t.bytes ++ 0 ∷ []) tidy is) })
    (λ home. starts_strings_tidies ts)

pub fresh_is_tidy : (budget : ℕ) (input : List ℕ) → IsTidy 0 (fresh budget input)
fresh_is_tidy budget input = record { laid = nothing_is_laid_out; origins = refl; calls = refl }
