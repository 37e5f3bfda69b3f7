-- A text ends in a newline where its last byte is one.
use Rattle.std.proofs.Common.{ℕ, ◌≡◌, refl, ap, sym, ◌∙◌, nat_eq, List, [], ◌∷◌, ◌++◌}
use Rattle.k_replay_text.specs.Lines.{ends_line}

ends_behind : (front : List ℕ) (byte : ℕ) → nat_eq byte 10 ≡ ends_line (front ++ byte ∷ [])
ends_behind [] byte = refl
ends_behind (x ∷ []) byte = refl
ends_behind (x ∷ y ∷ front) byte = ends_behind (y ∷ front) byte

pub last_ends : (text front : List ℕ) (byte : ℕ) → text ≡ front ++ byte ∷ [] → nat_eq byte 10 ≡ ends_line text
last_ends text front byte is = ends_behind front byte ∙ ap ends_line (sym is)
