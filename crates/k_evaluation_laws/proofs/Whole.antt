-- A whole run: its objects begin with numbers of their kinds, and what main gives is of its type.
use Rattle.std.proofs.Common.{◌≡◌, ℕ, suc, ◌-◌, List, [], ◌∷◌, ◌++◌, map, take, slice_get, Option, Some, None, true, refl, sym, ◌∙◌, ap, subst, append_assoc}
use Rattle.std.proofs.lemmas.Bool.{and_parts}
use Rattle.std.proofs.lemmas.List.{append-nil}
use Rattle.k_num.specs.declared.initial.Initial.{Initial}
use Rattle.k_num.specs.declared.numbers.Kind.{Kind}
use Rattle.k_num.specs.declared.numbers.Kind.TheVariants.{I8}
use Rattle.k_num.specs.declared.place.Place.{Place}
use Rattle.k_num.specs.Kind.{is_held}
use Rattle.k_types_meaning.specs.declared.tree.unit.TFunc.{TFunc}
use Rattle.k_types_meaning.specs.declared.tree.unit.TObject.{TObject}
use Rattle.k_types_meaning.specs.declared.tree.unit.TString.{TString}
use Rattle.k_mem.specs.declared.start.Start.TheVariants.{Zero}
use Rattle.k_world.specs.declared.value.Held.{Held}
use Rattle.k_world.specs.Changes.{object_made, string_made}
use Rattle.k_world.specs.Limits.{call_limit}
use Rattle.k_world.specs.WorldLaws.{AreBytes}
use Rattle.k_world.specs.Worlds.{World}
use Rattle.k_evaluation.specs.States.{Program, State, Outcome, Goes, Stops, Part, follow, ◌>>=◌}
use Rattle.k_evaluation.specs.Objects.{made_object, makes_string, fills}
use Rattle.k_evaluation.specs.Calls.{calls, entered, runs}
use Rattle.k_evaluation.specs.Runs.{starts_object, starts_objects, starts_strings, runs_main, whole, initial}
use Rattle.k_evaluation_laws.specs.Kinds.{start_kinds, Sort, sort_of, kind_in, IsValue, IsRightWorld}
use Rattle.k_evaluation_laws.proofs.Fits.{sorts_of, FunctionFits}
use Rattle.k_evaluation_laws.proofs.Ranges.{AreInRange, initials_in_range}
use Rattle.k_evaluation_laws.proofs.Acts.{IfHeld}
use Rattle.k_evaluation_laws.proofs.Called.{arguments_right, calls_right, of_result, of_slots, runs_right}
use Rattle.k_evaluation_laws.proofs.Keeping.{Here, AllHold, Fine, same_world}
use Rattle.k_evaluation_laws.proofs.Memory.{AreItemsOf, IfMade, filled_right, object_right, string_right}
use Rattle.k_evaluation_laws.proofs.Rows.{here}
use Rattle.k_evaluation_laws.proofs.Slots.{grows_not, last_there}

-- where a part of the start goes on, the objects have exactly these kinds
abbrev pub Starts : {A : Type 0} → List Kind → Outcome A → Type 0
Starts kinds (Goes a t) = IsRightWorld kinds t.world
Starts kinds (Stops end w) = Unit {0}

pub starts_follow : {A B : Type 0} (kinds more : List Kind) (o : Outcome A) (next : A → Part B) → Starts kinds o → ((a : A) (t : State) → IsRightWorld kinds t.world → Starts more (next a t))
    → Starts more (follow o next)
starts_follow kinds more (Goes a t) next h k = k a t h
starts_follow kinds more (Stops end w) next h k = tt

-- AN OBJECT
items_in : (kind : Kind) (items : List Initial) → initials_in_range kind items ≡ true → AreItemsOf kind items
items_in kind [] is = tt
items_in kind (i ∷ items) is = let h = and_parts (is_held kind i.number) (initials_in_range kind items) is in (h.0, items_in kind items h.1)

object_begins : (kinds : List Kind) (kind : Kind) (place : Place) (items : List Initial) (s : State) (w : Option World) → AreItemsOf kind items → IsRightWorld kinds s.world
    → IfMade (IsRightWorld (kinds ++ kind ∷ [])) w → Starts (kinds ++ kind ∷ []) (follow (made_object place s w) (λ home. fills home items))
object_begins kinds kind place items s None held right h = tt
object_begins kinds kind place items s (Some w) held right h =
    let there : slice_get (kinds ++ kind ∷ []) s.world.memory.made ≡ Some kind = ap (slice_get (kinds ++ kind ∷ [])) (sym right.made) ∙ last_there kinds kind in
    filled_right (kinds ++ kind ∷ []) w s.world.memory.made kind items h there held

pub objects_begin : (kinds : List Kind) (os : List TObject) (s : State) → ((n : ℕ) (o : TObject) → slice_get os n ≡ Some o → initials_in_range (kind_in (sort_of o.of)) o.first ≡ true)
    → IsRightWorld kinds s.world → Starts (kinds ++ map (λ (o : TObject). kind_in (sort_of o.of)) os) (starts_objects os s)
objects_begin kinds [] s each right = subst (λ (ks : List Kind). IsRightWorld ks s.world) (sym (append-nil kinds)) right
objects_begin kinds (o ∷ os) s each right =
    let kind : Kind = kind_in (sort_of o.of) in
    let all : List Kind = map (λ (o : TObject). kind_in (sort_of o.of)) os in
    subst (λ (ks : List Kind). Starts ks (starts_objects (o ∷ os) s)) (append_assoc kinds (kind ∷ []) all)
    (starts_follow (kinds ++ kind ∷ []) ((kinds ++ kind ∷ []) ++ all) (starts_object o s) (λ done. starts_objects os)
    (object_begins kinds kind o.place o.first s (object_made s.world Zero o.elements) (items_in kind o.first (each 0 o refl)) right (object_right kinds s.world Zero o.elements kind tt right))
    (λ done t well. objects_begin (kinds ++ kind ∷ []) os t (λ n. each (suc n)) well))

string_begins : (kinds : List Kind) (place : Place) (s : State) (w : Option World) → IfMade (IsRightWorld (kinds ++ I8 ∷ [])) w → Starts (kinds ++ I8 ∷ []) (made_object place s w)
string_begins kinds place s None h = tt
string_begins kinds place s (Some w) h = h

pub strings_begin : (kinds : List Kind) (ts : List TString) (s : State) → IsRightWorld kinds s.world → Starts (kinds ++ map (λ (t : TString). I8) ts) (starts_strings ts s)
strings_begin kinds [] s right = subst (λ (ks : List Kind). IsRightWorld ks s.world) (sym (append-nil kinds)) right
strings_begin kinds (t ∷ ts) s right =
    let all : List Kind = map (λ (t : TString). I8) ts in
    subst (λ (ks : List Kind). Starts ks (starts_strings (t ∷ ts) s)) (append_assoc kinds (I8 ∷ []) all)
    (starts_follow (kinds ++ I8 ∷ []) ((kinds ++ I8 ∷ []) ++ all) (makes_string t.place t.bytes s) (λ home. starts_strings ts)
    (string_begins kinds t.place s (string_made s.world (t.bytes ++ 0 ∷ [])) (string_right kinds s.world (t.bytes ++ 0 ∷ []) right))
    (λ home u well. strings_begin (kinds ++ I8 ∷ []) ts u well))

-- WHAT MAIN GIVES is of its type
abbrev pub MainIs : Sort → Outcome (Option Held) → Type 0
MainIs s (Goes v t) = (kinds : List Kind) × IsRightWorld kinds t.world × IfHeld (IsValue kinds s) v
MainIs s (Stops end w) = Unit {0}

main_is : (s : Sort) (vs : Here) (kinds : List Kind) (o : Outcome (Option Held)) → Fine vs (of_result s) kinds o → MainIs s o
main_is s vs kinds (Goes v t) h = (h.0, h.2.world, h.3.0)
main_is s vs kinds (Stops end w) h = tt

main_follow : {A : Type 0} (kinds : List Kind) (s : Sort) (o : Outcome A) (next : A → Part (Option Held)) → Starts kinds o
    → ((a : A) (t : State) → IsRightWorld kinds t.world → MainIs s (next a t)) → MainIs s (follow o next)
main_follow kinds s (Goes a t) next h k = k a t h
main_follow kinds s (Stops end w) next h k = tt

module _ (program : Program) (in_range : AreInRange program.unit) (fits : (n : ℕ) (f : TFunc) → slice_get program.unit.functions n ≡ Some f → FunctionFits program.unit f) where
  main_runs : (f : TFunc) (s : State) → slice_get program.unit.functions program.unit.main ≡ Some f → IsRightWorld (start_kinds program.unit) s.world
      → MainIs (sort_of f.result) (runs program (calls (call_limit - 1) program) program.unit.main f (entered f [] s))
  main_runs f s there right =
      main_is (sort_of f.result) (here program f.variables) (start_kinds program.unit) (runs program (calls (call_limit - 1) program) program.unit.main f (entered f [] s))
      ((runs_right program in_range fits (calls (call_limit - 1) program) program.unit.main f (calls_right program in_range fits (call_limit - 1)) there).brings
      (start_kinds program.unit) (entered f [] s) (grows_not (start_kinds program.unit))
      (record {
        vars = arguments_right (start_kinds program.unit) (here program f.variables) f.variables f.params [] (no_slots f.params);
        world = same_world (start_kinds program.unit) s.world (entered f [] s).world refl refl right;
      })
      tt)
    where
      no_slots : (k : ℕ) → AllHold (start_kinds program.unit) (here program f.variables) (of_slots (take k (sorts_of f.variables)) [])
      no_slots k = by (take k (sorts_of f.variables))
        where
          by : (sorts : List Sort) → AllHold (start_kinds program.unit) (here program f.variables) (of_slots sorts [])
          by [] = tt
          by (x ∷ sorts) = tt

  pub whole_is : (f : TFunc) → slice_get program.unit.functions program.unit.main ≡ Some f → (input : List ℕ) (budget : ℕ) → AreBytes input
      → MainIs (sort_of f.result) (whole program (initial input budget))
  unfolding whole
  whole_is f there input budget bytes =
      let objects : List Kind = map (λ (o : TObject). kind_in (sort_of o.of)) program.unit.objects in
      main_follow objects (sort_of f.result) (starts_objects program.unit.objects (initial input budget))
      (λ started. starts_strings program.unit.strings >>= λ strings. runs_main program (slice_get program.unit.functions program.unit.main))
      (objects_begin [] program.unit.objects (initial input budget) in_range.objects (record { objects = tt; made = refl; input = bytes }))
      (λ started t right.
      main_follow (start_kinds program.unit) (sort_of f.result) (starts_strings program.unit.strings t) (λ strings. runs_main program (slice_get program.unit.functions program.unit.main))
      (strings_begin objects program.unit.strings t right)
      (λ strings u well. subst (λ (o : Option TFunc). MainIs (sort_of f.result) (runs_main program o u)) (sym there) (main_runs f u there well)))
