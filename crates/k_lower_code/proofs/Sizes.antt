-- Each piece has as many instructions as it says.
use Rattle.std.proofs.Common.{ℕ, ◌≡◌, ◌+◌, [], ◌++◌, length, refl, arith}
use Rattle.std.proofs.lemmas.List.{length-append}
use Rattle.k_num.specs.declared.place.Place.{Place}
use Rattle.k_code.specs.declared.instruction.Do.{Do}
use Rattle.k_evaluation.specs.States.{Program}
pub use Rattle.k_lower_code.specs.Pieces.{IsSized}
use Rattle.k_lower_code.specs.Pieces.{Piece, only, ◌>>>◌, does, sets, settled}

pub only_sized : {A : Type 0} (a : A) → IsSized (only a)
only_sized a first = refl

pub binds_sized : {A B : Type 0} (piece : Piece A) (next : A → Piece B) → IsSized piece → IsSized (next piece.gives) → IsSized (piece >>> next)
binds_sized piece next one other first =
    (let two : length (piece.code first ++ (next piece.gives).code (first + piece.size)) ≡ length (piece.code first) + length ((next piece.gives).code (first + piece.size)) = length-append (piece.code first) ((next piece.gives).code (first + piece.size)) in
    (let a : length (piece.code first) ≡ piece.size = one first in
    (let b : length ((next piece.gives).code (first + piece.size)) ≡ (next piece.gives).size = other (first + piece.size) in
    omega (arith, two, a, b))))

pub does_sized : (program : Program) (place : Place) (act : Do) → IsSized (does program place act)
does_sized program place act first = refl

pub sets_sized : (program : Program) (place : Place) (act : ℕ → Do) (to : ℕ) → IsSized (sets program place act to)
sets_sized program place act to first = refl

pub settled_sized : {A : Type 0} (program : Program) (place : Place) (piece : Piece A) → IsSized piece → IsSized (settled program place piece)
settled_sized program place piece is first =
    (let two : length (piece.code (first + 1) ++ ((does program place Rattle.k_code.specs.declared.instruction.Do.TheVariants.Back).code (first + 1 + piece.size) ++ [])) ≡ length (piece.code (first + 1)) + 1 = length-append (piece.code (first + 1)) _ in
    (let a : length (piece.code (first + 1)) ≡ piece.size = is (first + 1) in omega (arith, two, a)))
