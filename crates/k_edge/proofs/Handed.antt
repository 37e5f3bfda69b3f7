-- What one write after another appends to what a writer holds.
use Rattle.std.proofs.Common.{◌≡◌, ℕ, List, ◌++◌, length, take, drop, Option, Some, None, arith, ap, sym, subst, ◌∙◌}
use Rattle.std.proofs.lemmas.List.{append_assoc, length-append, take-append-drop}
use Rattle.std.proofs.Math.Seq.{take-append_seam, take-length}
use Rattle.std.specs.Io.KnownBytes.{Appends, Keeps}
use Rattle.k_edge.specs.HostWords.{AppendsInPart}

-- some bytes were written, and with those that are left they are the piece
abbrev pub HandedSoFar : List ℕ → List ℕ → Option (List ℕ) → Option (List ℕ) → Type 0
HandedSoFar piece rest old new = (written : List ℕ) × (piece ≡ written ++ rest) × Appends old new written

appends_kept : (old mid new : Option (List ℕ)) (bytes : List ℕ) → Appends old mid bytes → Keeps mid new → Appends old new bytes
appends_kept None mid new bytes appends keeps = tt
appends_kept (Some xs) None new bytes appends keeps = absurd appends
appends_kept (Some xs) (Some ys) None bytes appends keeps = absurd keeps
appends_kept (Some xs) (Some ys) (Some zs) bytes appends keeps = keeps ∙ appends

appends_more : (old mid new : Option (List ℕ)) (bytes more : List ℕ) → Appends old mid bytes → Appends mid new more → Appends old new (bytes ++ more)
appends_more None mid new bytes more appends then = tt
appends_more (Some xs) None new bytes more appends then = absurd appends
appends_more (Some xs) (Some ys) None bytes more appends then = absurd then
appends_more (Some xs) (Some ys) (Some zs) bytes more appends then =
    then ∙ ap (λ (front : List ℕ). front ++ more) appends ∙ append_assoc xs bytes more

-- what was written so far is a front of the piece
pub handed_in_part : (piece rest : List ℕ) (old new : Option (List ℕ)) → HandedSoFar piece rest old new → AppendsInPart old new piece
handed_in_part piece rest old new so_far =
    let front : take (length so_far.0) piece ≡ so_far.0 = ap (take (length so_far.0)) so_far.1 ∙ take-append_seam so_far.0 rest in
    (length so_far.0, omega (arith, ap length so_far.1, length-append so_far.0 rest), subst (Appends old new) (sym front) so_far.2)

-- a write that failed changes nothing
pub handed_kept : (piece rest : List ℕ) (old mid new : Option (List ℕ)) → HandedSoFar piece rest old mid → Keeps mid new
    → HandedSoFar piece rest old new
handed_kept piece rest old mid new so_far keeps = (so_far.0, so_far.1, appends_kept old mid new so_far.0 so_far.2 keeps)

-- a write of n bytes leaves those behind them
pub handed_more : (n : ℕ) (piece rest : List ℕ) (old mid new : Option (List ℕ)) → HandedSoFar piece rest old mid → Appends mid new (take n rest)
    → HandedSoFar piece (drop n rest) old new
handed_more n piece rest old mid new so_far appends = (
  so_far.0 ++ take n rest,
  so_far.1 ∙ ap (λ (end : List ℕ). so_far.0 ++ end) (sym (take-append-drop n rest)) ∙ sym (append_assoc so_far.0 (take n rest) (drop n rest)),
  appends_more old mid new so_far.0 (take n rest) so_far.2 appends,
)

-- a piece that was written and then not flushed
pub handed_whole : (piece : List ℕ) (old mid new : Option (List ℕ)) → Appends old mid piece → Keeps mid new → AppendsInPart old new piece
handed_whole piece old mid new appends keeps =
    (length piece, omega arith, subst (Appends old new) (sym (take-length piece)) (appends_kept old mid new piece appends keeps))
