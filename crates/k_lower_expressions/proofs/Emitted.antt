-- How a piece that was emitted stands behind another.
use Rattle.std.proofs.Common.{ℕ, ◌≡◌, ◌+◌, List, [], ◌∷◌, ◌++◌, length, Result, Ok, Err, refl, sym, ap, subst, ◌∙◌, append_assoc, length-append, arith}
use Rattle.std.proofs.lemmas.List.{append-nil}
use Rattle.k_num.specs.declared.memory.NoMemory.{NoMemory}
use Rattle.k_num.specs.declared.place.Place.{Place}
use Rattle.k_code.specs.declared.instruction.Do.{Do}
use Rattle.k_code.specs.declared.instruction.Do.TheVariants.{Back, Save}
use Rattle.k_code.specs.declared.instruction.Instr.{Instr}
use Rattle.k_evaluation.specs.States.{Program}
use Rattle.k_lower_code.specs.Lowered.{Designated}
use Rattle.k_lower_code.specs.Pieces.{Piece, only, ◌>>>◌, does, instruction, settled}
use Rattle.k_lower_expressions.specs.Arounds.{designates}
pub use Rattle.k_lower_expressions.specs.Emits.{Emitted, Emits, EmitsPlace}
use Rattle.k_lower_expressions.specs.declared.designated.Designated as emitted

-- no instruction was emitted
pub nothing_emitted : {A : Type 0} (a : A) (old : List Instr) → Emitted a (only a) old old
nothing_emitted a old = record { gives = refl; code = sym (append-nil old); size = omega arith }

-- a piece that is no instruction was emitted
pub only_emitted : {A : Type 0} (a b : A) (piece : Piece A) (old : List Instr) → piece ≡ only b → a ≡ b → Emitted a piece old old
only_emitted {A} a b piece old is same =
    subst (λ (p : Piece A). Emitted a p old old) (sym is) (subst (λ (x : A). Emitted x (only b) old old) (sym same) (nothing_emitted b old))

-- one instruction was emitted
pub one_emitted : (program : Program) (place : Place) (act : Do) (old new : List Instr)
    → new ≡ old ++ instruction program place act ∷ [] → Emitted {A = Unit {0}} tt (does program place act) old new
one_emitted program place act old new is = record {
  gives = refl;
  code = is;
  size = ap length is ∙ length-append old (instruction program place act ∷ []);
}

-- a piece was emitted behind another
pub emitted_behind : {A B : Type 0} (piece : Piece A) (next : A → Piece B) (a : A) (b : B) (old mid new : List Instr)
    → Emitted a piece old mid → Emitted b (next a) mid new → Emitted b (piece >>> next) old new
emitted_behind {A} {B} piece next a b old mid new one other =
    let that : Emitted b (next piece.gives) mid new = subst (λ (x : A). Emitted b (next x) mid new) one.gives other in
    let front : List Instr = piece.code (length old) in
    let back : ℕ → List Instr = λ n. (next piece.gives).code n in
    record {
      gives = that.gives;
      code = that.code ∙ (ap (λ (n : ℕ). mid ++ back n) one.size ∙ (ap (λ (m : List Instr). m ++ back (length old + piece.size)) one.code ∙ append_assoc old front (back (length old + piece.size))));
      size = (let first : length mid ≡ length old + piece.size = one.size in
          (let second : length new ≡ length mid + (next piece.gives).size = that.size in omega (arith, first, second)));
    }

-- the same of a call that may have found no memory
pub behind : {A B : Type 0} (next : A → Piece B) (result : Result B NoMemory) (piece : Piece A) (a : A) (old mid new : List Instr)
    → Emitted a piece old mid → Emits result (next a) mid new → Emits result (piece >>> next) old new
behind next (Ok b) piece a old mid new one other = emitted_behind piece next a b old mid new one other
behind next (Err e) piece a old mid new one other = tt

-- the same of a call that answers a place
pub place_behind : {A : Type 0} (next : A → Piece Designated) (result : Result emitted.Designated NoMemory) (piece : Piece A) (a : A) (old mid new : List Instr)
    → Emitted a piece old mid → EmitsPlace result (next a) mid new → EmitsPlace result (piece >>> next) old new
place_behind next (Ok d) piece a old mid new one other = emitted_behind piece next a (designates d) old mid new one other
place_behind next (Err e) piece a old mid new one other = tt

-- a piece was emitted, and this is told behind it
pub ends : {A B : Type 0} (told : A → B) (piece : Piece A) (a : A) (old new : List Instr)
    → Emitted a piece old new → Emitted (told a) (piece >>> λ (x : A). only (told x)) old new
ends told piece a old new one = emitted_behind piece (λ x. only (told x)) a (told a) old new new one (nothing_emitted (told a) new)

-- a piece was emitted as another one that is the same
pub same_emits : {A : Type 0} (result : Result A NoMemory) (one other : Piece A) (old new : List Instr)
    → other ≡ one → Emits result one old new → Emits result other old new
same_emits {A} result one other old new is emits = subst (λ (p : Piece A). Emits result p old new) (sym is) emits

pub same_place : (result : Result emitted.Designated NoMemory) (one other : Piece Designated) (old new : List Instr)
    → other ≡ one → EmitsPlace result one old new → EmitsPlace result other old new
same_place result one other old new is emits = subst (λ (p : Piece Designated). EmitsPlace result p old new) (sym is) emits

-- a piece was emitted with its control source saved and taken back
pub settled_emitted : {A : Type 0} (program : Program) (place : Place) (piece : Piece A) (a : A) (old one two new : List Instr)
    → Emitted {A = Unit {0}} tt (does program place Save) old one → Emitted a piece one two → Emitted {A = Unit {0}} tt (does program place Back) two new
    → Emitted a (settled program place piece) old new
settled_emitted {A} program place piece a old one two new saved inner back =
    emitted_behind (does program place Save) (λ x. piece >>> λ (y : A). does program place Back >>> λ z. only y) tt a old one new saved
    (emitted_behind piece (λ (y : A). does program place Back >>> λ z. only y) a a one two new inner
    (ends {A = Unit {0}} (λ z. a) (does program place Back) tt two new back))
