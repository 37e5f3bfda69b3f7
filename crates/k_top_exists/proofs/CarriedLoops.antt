-- The loops of any events carry some pairs: those that are gathered event by event.
use Rattle.std.proofs.Common.{ℕ, ◌≡◌, ◌++◌, ◌&&◌, nat_lt, Bool, true, false, if◌then◌else◌, List, [], ◌∷◌, length, Option, Some, None, slice_get, refl, sym, subst, ap, ◌∙◌, inl, inr}
use Rattle.std.proofs.lemmas.List.{append-nil, append_assoc}
use Rattle.k_num.specs.declared.place.Place.{Place}
use Rattle.k_optab.specs.declared.event.Event.{Event}
use Rattle.k_optab.specs.declared.event.Event.TheVariants.{Op, Enter, Exit}
use Rattle.k_optab.specs.declared.event.Src.{Src}
use Rattle.k_optab.specs.declared.region.Region.{Region}
use Rattle.k_optab.specs.Events.{Operation, ListsUnbroken, operations}
use Rattle.k_carry_pairs.specs.declared.origin.Origin.{Origin}
use Rattle.k_carry_pairs.specs.declared.pairs.LoopPairs.{LoopPairs}
use Rattle.k_carry_pairs.specs.Carried.{AreCarried, IsAmong, is_loop_at}
use Rattle.k_carry_pairs.specs.Gathered.{AreOrigins, Gathered, Gathers, depended_all, entered, left, left_of, loop_entered, loops_from, nothing}
use Rattle.k_carry_pairs.proofs.Behind.{entered_gathers, left_gathers, nothing_gathers, operation_gathers}
use Rattle.k_carry_pairs.proofs.Telling.{loops_are_carried}
use Rattle.k_top_exists.specs.Loops.{CarriedPairsExist}

-- the place of an operation, if there is one
abbrev place_of : Option Operation → Place
place_of None = record { line = 0; column = 0 }
place_of (Some op) = op.place

-- a source with the place of its operation
abbrev origin_of : List Operation → Src → Origin
origin_of ops src = record { number = src.number; place = place_of (slice_get ops src.number) }

-- the unbroken ones of sources
abbrev origins_of : List Operation → List Src → List Origin
origins_of ops [] = []
origins_of ops (src ∷ sources) = if src.broken then origins_of ops sources else origin_of ops src ∷ origins_of ops sources

module _ (ops : List Operation) where
  listed : (sources : List Src) (x : Origin) → IsAmong x (origins_of ops sources) → ListsUnbroken sources x.number
  listed [] x among = absurd among
  listed (src ∷ sources) x among = by src.broken refl (listed sources x) among
    where
      by : (b : Bool) → src.broken ≡ b → (IsAmong x (origins_of ops sources) → ListsUnbroken sources x.number)
          → IsAmong x (if b then origins_of ops sources else origin_of ops src ∷ origins_of ops sources) → ListsUnbroken (src ∷ sources) x.number
      by true is rest later = inr (rest later)
      by false is rest (inl here) = inl (ap (λ (y : Origin). y.number) here, is)
      by false is rest (inr later) = inr (rest later)

  placed : (sources : List Src) (x : Origin) (op : Operation) → IsAmong x (origins_of ops sources) → slice_get ops x.number ≡ Some op → op.place ≡ x.place
  placed [] x op among found = absurd among
  placed (src ∷ sources) x op among found = by src.broken (λ later. placed sources x op later found) among
    where
      by : (b : Bool) → (IsAmong x (origins_of ops sources) → op.place ≡ x.place)
          → IsAmong x (if b then origins_of ops sources else origin_of ops src ∷ origins_of ops sources) → op.place ≡ x.place
      by true rest later = rest later
      by false rest (inl here) = subst (λ (y : Origin). slice_get ops y.number ≡ Some op → op.place ≡ y.place) here (λ is. sym (ap place_of is)) found
      by false rest (inr later) = rest later

  all : (sources : List Src) (j : ℕ) → ListsUnbroken sources j → (x : Origin) × IsAmong x (origins_of ops sources) × (x.number ≡ j)
  all [] j it = absurd it
  all (src ∷ sources) j it = by src.broken refl (all sources j) it
    where
      by : (b : Bool) → src.broken ≡ b → (ListsUnbroken sources j → (x : Origin) × IsAmong x (origins_of ops sources) × (x.number ≡ j))
          → ListsUnbroken (src ∷ sources) j
          → (x : Origin) × IsAmong x (if b then origins_of ops sources else origin_of ops src ∷ origins_of ops sources) × (x.number ≡ j)
      by true is rest (inl (same, unbroken)) = absurd (let wrong : true ≡ false = sym is ∙ unbroken in cc wrong)
      by true is rest (inr later) = rest later
      by false is rest (inl (same, unbroken)) = (origin_of ops src, inl refl, same)
      by false is rest (inr later) = (let found = rest later in (found.0, inr found.1, found.2))

are_origins : (events : List Event) (sources : List Src) → AreOrigins events sources (origins_of (operations events) sources)
are_origins events sources = record {
  listed = λ x among. listed (operations events) sources x among;
  placed = λ x op among found. placed (operations events) sources x op among found;
  all = λ j it. all (operations events) sources j it;
}

module _ (regions : List Region) (depth : ℕ) where
  -- what is gathered of events of a program with these regions, to this depth
  record Known (events : List Event) : Type 0 where
    g : Gathered
    is : Gathers events g
    of : g.regions ≡ regions
    to : g.depth ≡ depth

  entered_of : (region made : ℕ) (g : Gathered) (b : Bool) → (if b then loop_entered region made g else record g { opened = region ∷ g.opened }).regions ≡ g.regions
  entered_of region made g true = refl
  entered_of region made g false = refl

  entered_to : (region made : ℕ) (g : Gathered) (b : Bool) → (if b then loop_entered region made g else record g { opened = region ∷ g.opened }).depth ≡ g.depth
  entered_to region made g true = refl
  entered_to region made g false = refl

  left_regions : (made : ℕ) (opened : List ℕ) (g : Gathered) → (left_of made opened g).regions ≡ g.regions
  left_regions made [] g = refl
  left_regions made (region ∷ outer) g = refl

  left_depth : (made : ℕ) (opened : List ℕ) (g : Gathered) → (left_of made opened g).depth ≡ g.depth
  left_depth made [] g = refl
  left_depth made (region ∷ outer) g = refl

  known_behind : (events : List Event) (e : Event) → Known events → Known (events ++ e ∷ [])
  known_behind events (Op class latency sources place) k =
      let origins = origins_of (operations events) sources in
      record {
        g = depended_all origins place k.g;
        is = operation_gathers events class latency sources place origins k.g k.is (are_origins events sources);
        of = k.of;
        to = k.to;
      }
  known_behind events (Enter region) k =
      let made = length (operations events) in
      let looping : Bool = nat_lt (length k.g.opened) k.g.depth && is_loop_at k.g.regions region in
      record {
        g = entered region made k.g;
        is = entered_gathers events region made k.g refl k.is;
        of = entered_of region made k.g looping ∙ k.of;
        to = entered_to region made k.g looping ∙ k.to;
      }
  known_behind events Exit k =
      let made = length (operations events) in
      record {
        g = left made k.g;
        is = left_gathers events made k.g refl k.is;
        of = left_regions made k.g.opened k.g ∙ k.of;
        to = left_depth made k.g.opened k.g ∙ k.to;
      }

  known_on : (events more : List Event) → Known events → Known (events ++ more)
  known_on events [] k = subst Known (sym (append-nil events)) k
  known_on events (e ∷ more) k = subst Known (append_assoc events (e ∷ []) more) (known_on (events ++ e ∷ []) more (known_behind events e k))

  known : (events : List Event) → Known events
  known events = known_on [] events (record { g = nothing regions depth; is = nothing_gathers regions depth; of = refl; to = refl })

pub carried_exist : CarriedPairsExist
carried_exist regions depth events =
    let k : Known regions depth events = known regions depth events in
    let loops : List LoopPairs = loops_from 0 k.g.seen k.g.found in (
      loops,
      subst (λ (rs : List Region). AreCarried rs depth events loops) k.of
          (subst (λ (d : ℕ). AreCarried k.g.regions d events loops) k.to (loops_are_carried events k.g k.is)),
    )
