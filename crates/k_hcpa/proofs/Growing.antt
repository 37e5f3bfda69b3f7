-- A sink that grows by a piece and then by another has grown by both.
use Rattle.std.proofs.Common.{◌≡◌, ℕ, ◌+◌, ◌≤◌, List, [], ◌++◌, length, take, Option, Some, None, refl, sym, ◌∙◌, ap, subst, arith}
use Rattle.std.proofs.lemmas.List.{append-nil, append_assoc, length-append, take-append-le}
use Rattle.std.proofs.Math.Seq.{take-append-add, take-length}
use Rattle.k_edge.specs.SinkWords.{Grows, GrowsInPart}

pub grows_nothing : (old : Option (List ℕ)) → Grows old [] old
grows_nothing None = refl
grows_nothing (Some written) = ap (λ bytes. Some bytes) (sym (append-nil written))

pub grows_no_part : (old : Option (List ℕ)) (bytes : List ℕ) → GrowsInPart old bytes old
grows_no_part old bytes = (0, omega arith, grows_nothing old)

pub grows_twice : (old mid new : Option (List ℕ)) (piece more : List ℕ) → Grows old piece mid → Grows mid more new → Grows old (piece ++ more) new
grows_twice None mid new piece more one two = subst (λ m. Grows m more new) one two
grows_twice (Some written) mid new piece more one two =
    let on : Grows (Some (written ++ piece)) more new = subst (λ m. Grows m more new) one two in
    on ∙ ap (λ bytes. Some bytes) (append_assoc written piece more)

-- what has grown by all of a piece has grown by a prefix of what begins with it
pub grows_by_first : (old new : Option (List ℕ)) (piece more : List ℕ) → Grows old piece new → GrowsInPart old (piece ++ more) new
grows_by_first old new piece more all =
    let long : length (piece ++ more) ≡ length piece + length more = length-append piece more in
    let low : length piece ≤ length piece = omega arith in
    let same : take (length piece) (piece ++ more) ≡ piece = take-append-le (length piece) piece more low ∙ take-length piece in
    (length piece, omega (arith, long), subst (λ t. Grows old t new) (sym same) all)

-- what grew by a piece and then by a prefix of another has grown by a prefix of both
pub grows_in_second : (old mid new : Option (List ℕ)) (piece more : List ℕ) → Grows old piece mid → GrowsInPart mid more new → GrowsInPart old (piece ++ more) new
grows_in_second old mid new piece more one (n, low, two) =
    let long : length (piece ++ more) ≡ length piece + length more = length-append piece more in (
      length piece + n,
      omega (arith, long),
      subst (λ t. Grows old t new) (sym (take-append-add piece more n)) (grows_twice old mid new piece (take n more) one two),
    )

-- and of what begins with both
pub part_of_longer : (old new : Option (List ℕ)) (piece more : List ℕ) → GrowsInPart old piece new → GrowsInPart old (piece ++ more) new
part_of_longer old new piece more (n, low, part) =
    let long : length (piece ++ more) ≡ length piece + length more = length-append piece more in
    (n, omega (arith, long), subst (λ t. Grows old t new) (sym (take-append-le n piece more low)) part)
