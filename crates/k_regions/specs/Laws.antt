-- Believed with a public law.
-- What holds of the regions of every source, and of those that its runs enter.
use Rattle.std.specs.Prelude.{ℕ, ℤ, ◌≡◌, ◌+◌, ◌*◌, ◌≤◌, List, [], ◌∷◌, length, slice_get, map, Some, FitsSigned}
use Rattle.std.specs.Int.{w32}
use Rattle.k_num.specs.declared.place.Place.{Place}
use Rattle.k_optab.specs.declared.event.Event.{Event}
use Rattle.k_optab.specs.declared.event.Event.TheVariants.{Op, Enter, Exit}
use Rattle.k_optab.specs.declared.region.Region.{Region}
use Rattle.k_optab.specs.declared.region.RegionKind.TheVariants.{Func}
use Rattle.k_optab.specs.Entered.{EnterBelow, IsOfMain}
use Rattle.k_ending.specs.declared.ending.End.TheVariants.{Returned}
use Rattle.k_tree.specs.declared.tokens.Token.{Token}
use Rattle.k_tree.specs.declared.tokens.TokenKind.{TokenKind}
use Rattle.k_tree.specs.declared.tokens.TokenKind.TheVariants as token
use Rattle.k_tree.specs.declared.tree.unit.Unit as source
use Rattle.k_tree.specs.Count.{unit_count}
use Rattle.k_tree.specs.Places.{Placed}
use Rattle.k_types_meaning.specs.declared.tree.unit.TFunc.{TFunc}
use Rattle.k_types_meaning.specs.declared.tree.unit.TUnit.{TUnit}
use Rattle.k_types_meaning.specs.Bare.{IsTyped}
use Rattle.k_types_meaning.specs.Numbered.{IsNumbered, function_numbers}
use Rattle.k_types_meaning.specs.Units.{defined_by, faults}
use Rattle.k_evaluation.specs.Calls.{function_region}
use Rattle.k_evaluation.specs.Laws.{IsReturned}
use Rattle.k_evaluation.specs.Loops.{loop_region}
use Rattle.k_evaluation.specs.Runs.{run}
use Rattle.k_evaluation.specs.States.{Program}
use Rattle.k_regions.specs.declared.loops.LoopAt.{LoopAt}
use Rattle.k_regions.specs.Regions.{body_itself, function_itself, loop_itself, loops_of, regions_of}

-- the loop and its body have the regions of the loop's number in the function of this number and name
pub record HasItsRegions (regions : List Region) (n : ℕ) (name : List ℕ) (l : LoopAt) : Type 0 where
  pub itself : slice_get regions (loop_region n l.number) ≡ Some (loop_itself name l)
  pub body : slice_get regions (loop_region n l.number + 1) ≡ Some (body_itself name l)

-- the function of this number has the region of its number, and those of its loops, which are listed in text order
pub record AreItsRegions (regions : List Region) (n : ℕ) (f : TFunc) : Type 0 where
  pub itself : slice_get regions (function_region n f) ≡ Some (function_itself f)
  pub listed : map (λ (l : LoopAt). l.number) (loops_of f) ≡ (function_numbers f).loops
  pub loops : (k : ℕ) (l : LoopAt) → slice_get (loops_of f) k ≡ Some l → HasItsRegions regions n f.name l

-- each function and each loop has the region of its number
abbrev pub RegionsHaveTheirNumbers : Type 0
RegionsHaveTheirNumbers =
    (typed : TUnit) → IsNumbered typed → (n : ℕ) (f : TFunc) → slice_get typed.functions n ≡ Some f → AreItsRegions (regions_of typed) n f

-- there are no others
abbrev pub ThereAreNoOthers : Type 0
ThereAreNoOthers = (typed : TUnit) → IsNumbered typed → length (regions_of typed) ≡ length typed.functions + 2 * typed.loops

-- the functions of a typed source have the names of those that its source defines, in text order
abbrev pub FunctionsHaveTheirNames : Type 0
FunctionsHaveTheirNames =
    (unit : source.Unit) (typed : TUnit) → IsTyped unit typed → map (λ (f : TFunc). f.name) typed.functions ≡ defined_by unit

-- they are at most twice as many as the nodes of the source
abbrev pub RegionsAreFew : Type 0
RegionsAreFew = (unit : source.Unit) (typed : TUnit) → IsTyped unit typed → length (regions_of typed) ≤ 2 * unit_count unit

-- one of these tokens has this place
abbrev pub HasThePlace : List Token → Place → Type 0
HasThePlace tokens p = (n : ℕ) × ((t : Token) × ((slice_get tokens n ≡ Some t) × (t.place ≡ p)))

-- one of these tokens is this
abbrev pub HasTheKind : List Token → TokenKind → Type 0
HasTheKind tokens what = (n : ℕ) × ((t : Token) × ((slice_get tokens n ≡ Some t) × (t.what ≡ what)))

-- the region stands where one of these tokens stands, and has the name of one of them
pub record ComesOfTokens (tokens : List Token) (r : Region) : Type 0 where
  pub place : HasThePlace tokens r.place
  pub name : HasTheKind tokens (token.Name r.func)

-- so do all regions of a source whose tree stands at these tokens
abbrev pub RegionsComeOfTokens : Type 0
RegionsComeOfTokens =
    (unit : source.Unit) (typed : TUnit) (tokens : List Token)
    → Placed unit tokens
    → IsTyped unit typed
    → (n : ℕ) (r : Region) → slice_get (regions_of typed) n ≡ Some r → ComesOfTokens tokens r

-- a run of a source without faults enters no other regions than those of its source
abbrev pub RunsEnterTheirRegions : Type 0
RunsEnterTheirRegions =
    (unit : source.Unit) (program : Program) (input : List ℕ) (budget : ℕ)
    → IsTyped unit program.unit
    → faults unit ≡ []
    → EnterBelow (length (regions_of program.unit)) (run program input budget).events

-- where main returned, a run of a source without faults is one instance of main, with all others within it
abbrev pub ReturnedRunsAreOfMain : Type 0
ReturnedRunsAreOfMain =
    (unit : source.Unit) (program : Program) (input : List ℕ) (budget : ℕ)
    → IsTyped unit program.unit
    → faults unit ≡ []
    → (let it = run program input budget in IsReturned it.end → IsOfMain (regions_of program.unit) it.events)

-- how many times regions are entered among these events
abbrev pub entries : List Event → ℕ
entries [] = 0
entries (Op class latency sources place ∷ events) = entries events
entries (Enter region ∷ events) = 1 + entries events
entries (Exit ∷ events) = entries events

-- a call and a test are operations, and only a `do` whose body leaves at once enters regions without one: so a run enters regions at most as
-- often as its source has regions, for each operation that it may make, and once more so often
abbrev pub RunsEnterFew : Type 0
RunsEnterFew =
    (unit : source.Unit) (program : Program) (input : List ℕ) (budget : ℕ)
    → IsTyped unit program.unit
    → faults unit ≡ []
    → entries (run program input budget).events ≤ length (regions_of program.unit) * (budget + 1)

-- what main returned is an int
abbrev pub ReturnedRunsGiveInts : Type 0
ReturnedRunsGiveInts =
    (unit : source.Unit) (program : Program) (input : List ℕ) (budget : ℕ) (exit : ℤ)
    → IsTyped unit program.unit
    → faults unit ≡ []
    → (run program input budget).end ≡ Returned exit
    → FitsSigned w32 exit
