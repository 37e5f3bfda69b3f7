-- The innermost level is the last one.
use Rattle.std.proofs.Common.{◌≡◌, ℕ, zero, suc, ◌+◌, List, [], ◌∷◌, ◌++◌, length, refl, sym, ap, ◌∙◌, arith, get_or}
use Rattle.std.proofs.Math.ListN.{set}
use Rattle.k_graph.specs.declared.level.Level.{Level}
use Rattle.k_graph.specs.declared.level.Measured.{Measured}
use Rattle.k_graph.specs.Levels.{measured}
use Rattle.k_graph.specs.Passes.{State, Closing, close_into, closed}

-- with a level around the innermost one, that level alone changes
pub close_last : (place made : ℕ) (done : List Measured) (levels : List Level) (top d : Level) (n : ℕ) → n + 1 ≡ length levels
    → close_into place made done (levels ++ top ∷ [])
    ≡ record { done = done; levels = set levels n (record (get_or levels n d) { inner = (get_or levels n d).inner ++ measured place made top ∷ top.inner }) }
close_last place made done [] top d n is = absurd (omega arith)
close_last place made done (level ∷ []) top d zero is = refl
close_last place made done (level ∷ []) top d (suc n) is = absurd (omega arith)
close_last place made done (level ∷ next ∷ levels) top d zero is = absurd (omega arith)
close_last place made done (level ∷ next ∷ levels) top d (suc n) is =
    ap (λ (closing : Closing). record { done = done; levels = record level { inner = closing.done } ∷ closing.levels })
    (close_last place made level.inner (next ∷ levels) top d n (omega arith))

pub closes_around : (s : State) (rest : List Level) (top below : Level) (inner : List Measured) (n : ℕ) → s.levels ≡ rest ++ top ∷ []
    → n + 1 ≡ length rest → below ≡ get_or rest n below → inner ≡ below.inner ++ measured s.passed s.made top ∷ top.inner
    → record s { levels = set rest n (record below { inner = inner }) } ≡ closed s
closes_around s rest top below inner n levels is there grown =
    let whole : close_into s.passed s.made s.done (rest ++ top ∷ []) ≡ close_into s.passed s.made s.done s.levels =
    ap (λ l. close_into s.passed s.made s.done l) (sym levels) in
    let last = close_last s.passed s.made s.done rest top below n is in
    let with : record below { inner = inner } ≡ record (get_or rest n below) { inner = (get_or rest n below).inner ++ measured s.passed s.made top ∷ top.inner } =
    ap (λ i. record below { inner = i }) grown ∙ ap (λ (l : Level). record l { inner = l.inner ++ measured s.passed s.made top ∷ top.inner }) there in
    ap (λ (l : Level). record s { levels = set rest n l }) with
    ∙ ap (λ (closing : Closing). record s { done = closing.done; levels = closing.levels }) (sym last ∙ whole)
