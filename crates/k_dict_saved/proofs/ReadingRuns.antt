-- Reading runs one after the other, as the loop does.
use Rattle.std.proofs.Common.{◌≡◌, ℕ, zero, suc, ◌-◌, ◌+◌, ◌≤◌, ◌<◌, List, [], ◌∷◌, ◌++◌, Option, Some, None, refl, sym, ap, ◌∙◌, append_assoc, append-nil, arith}
use Rattle.std.specs.Prelude.{codes}
use Rattle.k_scan.specs.Pieces.{word_at}
use Rattle.k_dict_saved.specs.Syntax.{◌>>=◌, ended, run_at, runs_at}
use Rattle.k_dict_entries.specs.declared.entry.Run.{Run}

-- what was read before, and what is still read
abbrev pub with_front : List Run → Option (List Run × List ℕ) → Option (List Run × List ℕ)
with_front front read = read >>= λ x. Some (front ++ x.0, x.1)

regroup : (front : List Run) (run : Run) (read : Option (List Run × List ℕ)) → with_front front (read >>= λ x. Some (run ∷ x.0, x.1)) ≡ with_front (front ++ run ∷ []) read
regroup front run (Some x) = ap (λ (runs : List Run). Some (runs, x.1)) (simp append_assoc)
regroup front run None = refl

module _ (front : List Run) (high at : ℕ) (text : List ℕ) (whole : Option (List Run × List ℕ)) where
  pub goes_on : (run : Run) (behind : List ℕ) → at < 1048576 → word_at (codes "\n") text ≡ None → run_at high text ≡ Some (run, behind)
      → with_front front (runs_at high (1048576 - at) text) ≡ whole → with_front (front ++ run ∷ []) (runs_at high (1048576 - (at + 1)) behind) ≡ whole
  unfolding runs_at
  goes_on run behind few no_end found so_far =
      let most : ℕ = 1048576 - (at + 1) in
      let k : 1048576 - at ≡ suc (1048576 - (at + 1)) = omega arith in
      let step : runs_at high (suc most) text ≡ (runs_at high most behind >>= λ x. Some (run ∷ x.0, x.1)) =
      ap (λ o. ended o (run_at high text >>= λ r. runs_at high most r.1 >>= λ x. Some (r.0 ∷ x.0, x.1))) no_end
      ∙ ap (λ o. o >>= λ r. runs_at high most r.1 >>= λ x. Some (r.0 ∷ x.0, x.1)) found in
      sym (regroup front run (runs_at high most behind)) ∙ ap (with_front front) (sym step) ∙ ap (λ n. with_front front (runs_at high n text)) (sym k) ∙ so_far

  pub ends_here : (behind : List ℕ) → word_at (codes "\n") text ≡ Some behind → with_front front (runs_at high (1048576 - at) text) ≡ whole → whole ≡ Some (front, behind)
  unfolding runs_at
  ends_here behind is so_far = sym so_far ∙ by (1048576 - at) refl
    where
      by : (n : ℕ) → n ≡ 1048576 - at → with_front front (runs_at high (1048576 - at) text) ≡ Some (front, behind)
      by zero same = ap (λ n. with_front front (runs_at high n text)) (sym same)
          ∙ ap (λ o. with_front front (o >>= λ rest. Some ([], rest))) is ∙ ap (λ l. Some (l, behind)) (append-nil front)
      by (suc n) same = ap (λ n. with_front front (runs_at high n text)) (sym same)
          ∙ ap (λ o. with_front front (ended o (run_at high text >>= λ r. runs_at high n r.1 >>= λ x. Some (r.0 ∷ x.0, x.1)))) is
          ∙ ap (λ l. Some (l, behind)) (append-nil front)

  pub no_run : at < 1048576 → word_at (codes "\n") text ≡ None → run_at high text ≡ None → with_front front (runs_at high (1048576 - at) text) ≡ whole → whole ≡ None
  unfolding runs_at
  no_run few no_end none so_far =
      let most : ℕ = 1048576 - (at + 1) in
      let k : 1048576 - at ≡ suc (1048576 - (at + 1)) = omega arith in
      sym so_far ∙ ap (λ n. with_front front (runs_at high n text)) k
      ∙ ap (λ o. with_front front (ended o (run_at high text >>= λ r. runs_at high most r.1 >>= λ x. Some (r.0 ∷ x.0, x.1)))) no_end
      ∙ ap (λ o. with_front front (o >>= λ r. runs_at high most r.1 >>= λ x. Some (r.0 ∷ x.0, x.1))) none

  pub no_room : 1048576 ≤ at → word_at (codes "\n") text ≡ None → with_front front (runs_at high (1048576 - at) text) ≡ whole → whole ≡ None
  unfolding runs_at
  no_room many no_end so_far =
      let k : 1048576 - at ≡ 0 = omega arith in
      sym so_far ∙ ap (λ n. with_front front (runs_at high n text)) k ∙ ap (λ o. with_front front (o >>= λ rest. Some ([], rest))) no_end
