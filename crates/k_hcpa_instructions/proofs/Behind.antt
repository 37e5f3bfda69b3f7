-- Lists of locations, one behind the other.
use Rattle.std.proofs.Common.{◌≡◌, ℕ, ◌+◌, ◌*◌, arith, List, [], ◌∷◌, ◌++◌, length, refl, ap}
use Rattle.std.proofs.Math.Nat.{add-mul}
use Rattle.k_hcpa_meaning.specs.Timings.{Location, Register, Element, InCell, OutCell, Control, Saved, Timing, raised, raised_all, given_to, given_to_all}
use Rattle.k_hcpa_times.specs.Seen.{Room, ForElement, ForRegister, ForSaved, Keeps, KeepsPlaces, Seen, levels, made}
use Rattle.k_hcpa_instructions.specs.Kinds.{HasRoom, HaveRoom}

pub raised_behind : (some more : List Location) (t : Timing) → raised_all (some ++ more) t ≡ raised_all more (raised_all some t)
raised_behind [] more t = refl
raised_behind (at ∷ some) more t = raised_behind some more (raised at t)

pub given_behind : (some more : List Location) (t : Timing) → given_to_all (some ++ more) t ≡ given_to_all more (given_to_all some t)
given_behind [] more t = refl
given_behind (at ∷ some) more t = given_behind some more (given_to at t)

pub room_front : (room : Room → Type 0) (some more : List Location) → HaveRoom room (some ++ more) → HaveRoom room some
room_front room [] more have = tt
room_front room (at ∷ some) more have = (have.0, room_front room some more have.1)

pub room_back : (room : Room → Type 0) (some more : List Location) → HaveRoom room (some ++ more) → HaveRoom room more
room_back room [] more have = have
room_back room (at ∷ some) more have = room_back room some more have.1

-- where all room is kept, that of places is
pub places_kept : (old new : Room → Type 0) → Keeps old new → KeepsPlaces old new
places_kept old new keeps = record { registers = λ r. keeps (ForRegister r); elements = λ e. keeps (ForElement e); saved = keeps ForSaved }

-- what is kept has room as before
pub room_kept : (old new : Room → Type 0) (locations : List Location) → KeepsPlaces old new → HaveRoom old locations → HaveRoom new locations
room_kept old new [] keeps have = tt
room_kept old new (at ∷ locations) keeps have = (one at have.0, room_kept old new locations keeps have.1)
  where
    one : (at : Location) → HasRoom old at → HasRoom new at
    one (Register r) has = keeps.registers r has
    one (Element e) has = keeps.elements e has
    one InCell has = tt
    one OutCell has = tt
    one Control has = tt
    one (Saved n) has = tt

-- the steps of the control source and of two lists of locations
pub steps_taken : (before count a b : ℕ) → ((before + count) + a * count) + b * count ≡ before + (1 + (a + b)) * count
steps_taken before count a b =
    let one : (1 + (a + b)) * count ≡ 1 * count + (a + b) * count = add-mul 1 (a + b) count in
    let two : (a + b) * count ≡ a * count + b * count = add-mul a b count in
    omega arith

-- as many levels are live
pub levels_raised : (locations : List Location) (s : Seen) → levels (made (raised_all locations) s) ≡ levels s
levels_raised locations s = ap length (paths_raised locations s.timing)
  where
    paths_raised : (locations : List Location) (t : Timing) → (raised_all locations t).paths ≡ t.paths
    paths_raised [] t = refl
    paths_raised (at ∷ locations) t = paths_raised locations (raised at t)
