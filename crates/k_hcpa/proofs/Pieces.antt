-- Whole numbers of pieces.
use Rattle.std.proofs.Common.{◌≡◌, ℕ, ◌+◌, List, [], ◌++◌, length, arith}
use Rattle.std.proofs.lemmas.List.{length-append}
use Rattle.k_hcpa.specs.Profiles.{AreWholePieces}

pub no_pieces : AreWholePieces []
no_pieces = (0, omega arith)

pub one_piece : (piece : List ℕ) → length piece ≡ 65536 → AreWholePieces piece
one_piece piece long = (1, omega (arith, long))

-- pieces behind pieces
pub pieces_twice : (first second : List ℕ) → AreWholePieces first → AreWholePieces second → AreWholePieces (first ++ second)
pieces_twice first second (m, one) (n, two) =
    let long : length (first ++ second) ≡ length first + length second = length-append first second in
    (m + n, omega (arith, long, one, two))
