-- Believed with the theorem on the top call.
-- Where C joins a line to the next one (C17 5.1.1.2p1, phase 2).
use Rattle.std.specs.Prelude.{ℕ, ◌-◌, Bool, ◌||◌, List, [], ◌∷◌, Option, Some, None, ◌==◌, if◌then◌else◌, codes}
use Rattle.k_num.specs.declared.place.Place.{Place}
use Rattle.k_lex_pieces.specs.Bytes.{begins, after}

-- a backslash directly before a newline (C17 5.1.1.2p1), or the trigraph for a backslash there (C17 5.2.1.1)
abbrev pub is_splice : List ℕ → Bool
is_splice text = begins (codes "\\\n") text || begins (codes "??/\n") text

-- the place of the first of the first n bytes of a text that a splice begins at
abbrev pub splice_in : Place → ℕ → List ℕ → Option Place
splice_in place n [] = None
splice_in place n (b ∷ bs) =
    if n == 0 then None
    else (if is_splice (b ∷ bs) then Some place
    else splice_in (after place b) (n - 1) bs)
