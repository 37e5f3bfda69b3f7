-- The regions of a source can be saved.
use Rattle.std.proofs.Common.{◌≡◌, ◌≢◌, ℕ, ◌*◌, ◌≤◌, ◌<◌, refl, List, [], ◌∷◌, ◌++◌, length, slice_get, Option, Some, None, arith}
use Rattle.k_num.specs.declared.place.Place.{Place}
use Rattle.k_optab.specs.declared.region.Region.{Region}
use Rattle.k_optab.specs.declared.region.RegionKind.{RegionKind}
use Rattle.k_optab.specs.declared.region.RegionKind.TheVariants.{Func, Loop, Body}
use Rattle.k_tree.specs.declared.tree.unit.Unit as source
use Rattle.k_tree.specs.Count.{unit_count}
use Rattle.k_types_meaning.specs.declared.tree.unit.TFunc.{TFunc}
use Rattle.k_types_meaning.specs.declared.tree.unit.TUnit.{TUnit}
use Rattle.k_types_meaning.specs.Bare.{IsTyped}
use Rattle.k_types_meaning.specs.Units.{faults}
use Rattle.k_dict_saved.specs.Files.{ArePaired}
use Rattle.k_dict_saved.specs.Lines.{IsAmongPlaces, IsClosed, IsRegion, MayStand, StandsBehind}
use Rattle.k_regions.specs.declared.loops.LoopAt.{LoopAt}
use Rattle.k_regions.specs.Regions.{body_itself, function_itself, loop_itself, loops_of, regions_in, regions_of, regions_of_loops}
use Rattle.k_regions_saved.specs.Saving.{IsRightKind, RegionsCanBeSaved}
use Rattle.k_regions.proofs.Few.{are_few}
use Rattle.k_regions.proofs.Names.{main_found}
use Rattle.k_regions.proofs.Numbers.{below_length, have_numbers}
use Rattle.k_regions.proofs.Origins.{IsRight, regions_right}

-- a place among those of sources
abbrev IsPlace : Place → Type 0
IsPlace p = IsAmongPlaces p.line × IsAmongPlaces p.column

region_right : (r : Region) → IsRight IsPlace IsRightKind r → IsRegion r
region_right r h = record { func = h.1; line = h.0.0; column = h.0.1 }

behind_closed : (k : RegionKind) (func : List ℕ) (r : Region) → k ≢ Loop → r.kind ≢ Body → StandsBehind k func r
behind_closed Func func r closed h = h
behind_closed Body func r closed h = h
behind_closed Loop func r closed h = absurd (closed refl)

may_stand : (last : Option Region) (r : Region) → IsClosed last → r.kind ≢ Body → MayStand last r
may_stand None r closed h = h
may_stand (Some x) r closed h = behind_closed x.kind x.func r closed h

func_no_body : Func ≢ Body
func_no_body e = absurd cc

func_no_loop : Func ≢ Loop
func_no_loop e = absurd cc

loop_no_body : Loop ≢ Body
loop_no_body e = absurd cc

body_no_loop : Body ≢ Loop
body_no_loop e = absurd cc

loops_paired : (last : Option Region) (name : List ℕ) (loops : List LoopAt) (rest : List Region) → IsClosed last
    → ((other : Option Region) → IsClosed other → ArePaired other rest) → ArePaired last (regions_of_loops name loops ++ rest)
loops_paired last name [] rest closed k = k last closed
loops_paired last name (l ∷ loops) rest closed k =
    (may_stand last (loop_itself name l) closed loop_no_body, ((refl, refl), loops_paired (Some (body_itself name l)) name loops rest body_no_loop k))

functions_paired : (last : Option Region) (fs : List TFunc) → IsClosed last → ArePaired last (regions_in fs)
functions_paired last [] closed = closed
functions_paired last (f ∷ fs) closed = (
  may_stand last (function_itself f) closed func_no_body,
  loops_paired (Some (function_itself f)) f.name (loops_of f) (regions_in fs) func_no_loop (λ other h. functions_paired other fs h),
)

all_paired : (typed : TUnit) → ArePaired None (regions_of typed)
unfolding regions_of
all_paired typed = functions_paired None typed.functions tt

-- main is one of them
some_there : (unit : source.Unit) (typed : TUnit) → IsTyped unit typed → faults unit ≡ [] → 1 ≤ length (regions_of typed)
unfolding IsTyped
some_there unit typed is none =
    let main = main_found unit typed is none in
    let low = below_length (regions_of typed) _ _ (have_numbers typed is.3 typed.main main.0 main.1).itself in
    least _ (length (regions_of typed)) low
  where
    least : (n count : ℕ) → n < count → 1 ≤ count
    least n count h = omega (arith, h)

twice : (length_is count : ℕ) → length_is ≤ 2 * count → count ≤ 262144 → length_is ≤ 524288
twice length_is count h k = omega (arith, h, k)

pub can_be_saved : RegionsCanBeSaved
can_be_saved unit typed tokens placed few right is none = record {
  some = some_there unit typed is none;
  few = twice (length (regions_of typed)) (unit_count unit) (are_few unit typed is) few;
  each = λ n r at. region_right r (regions_right IsPlace IsRightKind unit typed tokens placed (λ m t there. (((right m t there).line, (right m t there).column), (right m t there).kind)) is n r at);
  paired = all_paired typed;
}
