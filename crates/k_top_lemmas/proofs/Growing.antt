-- A sink that grows by a piece and then by the rest has grown by the whole.
use Rattle.std.proofs.Common.{ℕ, ◌≡◌, ◌+◌, refl, ap, subst, sym, ◌∙◌, arith, List, [], ◌∷◌, ◌++◌, length, take, Option, Some, None}
use Rattle.std.proofs.lemmas.List.{take-append-le, length-append, append-nil, append_assoc}
use Rattle.std.proofs.Math.Seq.{take-append-add, take-length}
use Rattle.k_edge.specs.SinkWords.{Grows, GrowsInPart}

-- a sink that has `now` written and is to grow by `rest` is on the way of one that had `old` written and was to grow by `bytes`
pub record IsOnTheWay (old : Option (List ℕ)) (bytes : List ℕ) (now : Option (List ℕ)) (rest : List ℕ) : Type 0 where
  pub whole : (end : Option (List ℕ)) → Grows now rest end → Grows old bytes end
  pub part : (end : Option (List ℕ)) → GrowsInPart now rest end → GrowsInPart old bytes end

pub at_start : (old : Option (List ℕ)) (bytes : List ℕ) → IsOnTheWay old bytes old bytes
at_start old bytes = record { whole = λ end g. g; part = λ end g. g }

pub grows_nothing : (old : Option (List ℕ)) → Grows old [] old
grows_nothing None = refl
grows_nothing (Some bytes) = ap (λ b. Some b) (sym (append-nil bytes))

pub grows_no_part : (old : Option (List ℕ)) (bytes : List ℕ) → GrowsInPart old bytes old
grows_no_part None bytes = (0, omega arith, refl)
grows_no_part (Some written) bytes = (0, omega arith, ap (λ b. Some b) (sym (append-nil written)))

-- growing twice is growing by both
pub grows_twice : (old mid end : Option (List ℕ)) (piece others : List ℕ) → Grows old piece mid → Grows mid others end → Grows old (piece ++ others) end
grows_twice None mid end piece others g h = subst (λ m. Grows m others end) g h
grows_twice (Some written) mid end piece others g h =
    let k : Grows (Some (written ++ piece)) others end = subst (λ m. Grows m others end) g h in
    k ∙ ap (λ bytes. Some bytes) (append_assoc written piece others)

-- what grows by a prefix of the first piece grows by a prefix of both
pub part_of_first : (old end : Option (List ℕ)) (piece others : List ℕ) → GrowsInPart old piece end → GrowsInPart old (piece ++ others) end
part_of_first old end piece others (n, le, g) =
    let long : length (piece ++ others) ≡ length piece + length others = length-append piece others in
    (n, omega (arith, long), subst (λ t. Grows old t end) (sym (take-append-le n piece others le)) g)

pub part_of_second : (old mid end : Option (List ℕ)) (piece others : List ℕ) → Grows old piece mid → GrowsInPart mid others end → GrowsInPart old (piece ++ others) end
part_of_second old mid end piece others g (n, le, h) =
    let long : length (piece ++ others) ≡ length piece + length others = length-append piece others in (
      length piece + n,
      omega (arith, long),
      subst (λ t. Grows old t end) (sym (take-append-add piece others n)) (grows_twice old mid end piece (take n others) g h),
    )

-- after a piece of the rest was put
pub piece_put : (old : Option (List ℕ)) (bytes : List ℕ) (now next : Option (List ℕ)) (rest piece others : List ℕ)
    → IsOnTheWay old bytes now rest → rest ≡ piece ++ others → Grows now piece next → IsOnTheWay old bytes next others
piece_put old bytes now next rest piece others way cut g =
    let way' : IsOnTheWay old bytes now (piece ++ others) = subst (λ r. IsOnTheWay old bytes now r) cut way in
    record {
      whole = λ end h. way'.whole end (grows_twice now next end piece others g h);
      part = λ end h. way'.part end (part_of_second now next end piece others g h);
    }

-- a piece of the rest was put in part
pub piece_put_in_part : (old : Option (List ℕ)) (bytes : List ℕ) (now end : Option (List ℕ)) (rest piece others : List ℕ)
    → IsOnTheWay old bytes now rest → rest ≡ piece ++ others → GrowsInPart now piece end → GrowsInPart old bytes end
piece_put_in_part old bytes now end rest piece others way cut g =
    let way' : IsOnTheWay old bytes now (piece ++ others) = subst (λ r. IsOnTheWay old bytes now r) cut way in
    way'.part end (part_of_first now end piece others g)

pub grows_in_part : (old : Option (List ℕ)) (piece : List ℕ) (new : Option (List ℕ)) → Grows old piece new → GrowsInPart old piece new
grows_in_part old piece new g = (length piece, omega arith, subst (λ t. Grows old t new) (sym (take-length piece)) g)

-- where two texts together are empty, so is the second
pub second_empty : (first second : List ℕ) → first ++ second ≡ [] → second ≡ []
second_empty [] second is = is
second_empty (byte ∷ first) second is = cc
