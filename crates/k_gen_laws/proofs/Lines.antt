-- The lines of made programs are read to the tokens of their rows.
use Rattle.std.proofs.Common.{◌≡◌, ℕ, zero, suc, ◌+◌, ◌≤◌, ◌<◌, List, [], ◌∷◌, ◌++◌, length, refl, sym, ap, ◌∙◌, arith, append_assoc}
use Rattle.std.specs.Fmt.{digits}
use Rattle.k_tree.specs.declared.tokens.Token.{Token}
use Rattle.k_lex_pieces.specs.Bytes.{behind}
use Rattle.k_gen.specs.Text.{back, front, line_of}
use Rattle.k_gen_laws.proofs.Scanning.{may_read, tokens_in}
use Rattle.k_gen_laws.proofs.Trees.{at, loop_tokens, rows_of, tokens_of}

-- a form and a number that loops have
pub record IsLoop (f d : ℕ) : Type 0 where
  pub form : f < 3
  pub some : 1 ≤ d
  pub few : d < 10

-- what is read of a line, of which the bytes are these, before others
pub record LineReads (line : ℕ) (bytes rest : List ℕ) (list : List Token) : Type 0 where
  pub may : may_read 0 (at line 1) (bytes ++ rest) ≡ may_read 0 (at (line + 1) 1) rest
  pub made : tokens_in 0 (at line 1) (bytes ++ rest) ≡ list ++ tokens_in 0 (at (line + 1) 1) rest
  pub place : behind (at line 1) (bytes ++ rest) ≡ behind (at (line + 1) 1) rest

module _ (line : ℕ) (rest : List ℕ) where
  abbrev Reads : ℕ → ℕ → Type 0
  Reads form d = LineReads line (line_of form d) rest (tokens_of line (rows_of form d))

  form_0 : (d : ℕ) → 1 ≤ d → d < 10 → Reads 0 d
  unfolding front back digits
  form_0 zero some few = absurd (omega (arith, some))
  form_0 (suc zero) some few = record { may = refl; made = refl; place = refl }
  form_0 (suc (suc zero)) some few = record { may = refl; made = refl; place = refl }
  form_0 (suc (suc (suc zero))) some few = record { may = refl; made = refl; place = refl }
  form_0 (suc (suc (suc (suc zero)))) some few = record { may = refl; made = refl; place = refl }
  form_0 (suc (suc (suc (suc (suc zero))))) some few = record { may = refl; made = refl; place = refl }
  form_0 (suc (suc (suc (suc (suc (suc zero)))))) some few = record { may = refl; made = refl; place = refl }
  form_0 (suc (suc (suc (suc (suc (suc (suc zero))))))) some few = record { may = refl; made = refl; place = refl }
  form_0 (suc (suc (suc (suc (suc (suc (suc (suc zero)))))))) some few = record { may = refl; made = refl; place = refl }
  form_0 (suc (suc (suc (suc (suc (suc (suc (suc (suc zero))))))))) some few = record { may = refl; made = refl; place = refl }
  form_0 (suc (suc (suc (suc (suc (suc (suc (suc (suc (suc d)))))))))) some few = absurd (omega (arith, few))

  form_1 : (d : ℕ) → 1 ≤ d → d < 10 → Reads 1 d
  unfolding front back digits
  form_1 zero some few = absurd (omega (arith, some))
  form_1 (suc zero) some few = record { may = refl; made = refl; place = refl }
  form_1 (suc (suc zero)) some few = record { may = refl; made = refl; place = refl }
  form_1 (suc (suc (suc zero))) some few = record { may = refl; made = refl; place = refl }
  form_1 (suc (suc (suc (suc zero)))) some few = record { may = refl; made = refl; place = refl }
  form_1 (suc (suc (suc (suc (suc zero))))) some few = record { may = refl; made = refl; place = refl }
  form_1 (suc (suc (suc (suc (suc (suc zero)))))) some few = record { may = refl; made = refl; place = refl }
  form_1 (suc (suc (suc (suc (suc (suc (suc zero))))))) some few = record { may = refl; made = refl; place = refl }
  form_1 (suc (suc (suc (suc (suc (suc (suc (suc zero)))))))) some few = record { may = refl; made = refl; place = refl }
  form_1 (suc (suc (suc (suc (suc (suc (suc (suc (suc zero))))))))) some few = record { may = refl; made = refl; place = refl }
  form_1 (suc (suc (suc (suc (suc (suc (suc (suc (suc (suc d)))))))))) some few = absurd (omega (arith, few))

  form_2 : (d : ℕ) → 1 ≤ d → d < 10 → Reads 2 d
  unfolding front back digits
  form_2 zero some few = absurd (omega (arith, some))
  form_2 (suc zero) some few = record { may = refl; made = refl; place = refl }
  form_2 (suc (suc zero)) some few = record { may = refl; made = refl; place = refl }
  form_2 (suc (suc (suc zero))) some few = record { may = refl; made = refl; place = refl }
  form_2 (suc (suc (suc (suc zero)))) some few = record { may = refl; made = refl; place = refl }
  form_2 (suc (suc (suc (suc (suc zero))))) some few = record { may = refl; made = refl; place = refl }
  form_2 (suc (suc (suc (suc (suc (suc zero)))))) some few = record { may = refl; made = refl; place = refl }
  form_2 (suc (suc (suc (suc (suc (suc (suc zero))))))) some few = record { may = refl; made = refl; place = refl }
  form_2 (suc (suc (suc (suc (suc (suc (suc (suc zero)))))))) some few = record { may = refl; made = refl; place = refl }
  form_2 (suc (suc (suc (suc (suc (suc (suc (suc (suc zero))))))))) some few = record { may = refl; made = refl; place = refl }
  form_2 (suc (suc (suc (suc (suc (suc (suc (suc (suc (suc d)))))))))) some few = absurd (omega (arith, few))

  pub line_reads : (form d : ℕ) → IsLoop form d → Reads form d
  line_reads zero d is = form_0 d is.some is.few
  line_reads (suc zero) d is = form_1 d is.some is.few
  line_reads (suc (suc zero)) d is = form_2 d is.some is.few
  line_reads (suc (suc (suc form))) d is = absurd (omega (arith, is.form))

-- the text of loops
abbrev pub text_of : List (ℕ × ℕ) → List ℕ
text_of [] = []
text_of (x ∷ xs) = line_of x.0 x.1 ++ text_of xs

-- each is a loop
abbrev pub AreLoops : List (ℕ × ℕ) → Type 0
AreLoops [] = Unit {0}
AreLoops (x ∷ xs) = IsLoop x.0 x.1 × AreLoops xs

pub loops_read : (line : ℕ) (xs : List (ℕ × ℕ)) (rest : List ℕ) → AreLoops xs
    → (may_read 0 (at line 1) (text_of xs ++ rest) ≡ may_read 0 (at (line + length xs) 1) rest)
    × (tokens_in 0 (at line 1) (text_of xs ++ rest) ≡ loop_tokens line xs ++ tokens_in 0 (at (line + length xs) 1) rest)
    × (behind (at line 1) (text_of xs ++ rest) ≡ behind (at (line + length xs) 1) rest)
loops_read line [] rest are =
    let same : line ≡ line + 0 = omega arith in
    (ap (λ (n : ℕ). may_read 0 (at n 1) rest) same, ap (λ (n : ℕ). tokens_in 0 (at n 1) rest) same, ap (λ (n : ℕ). behind (at n 1) rest) same)
loops_read line (x ∷ xs) rest (is, are) =
    let first : LineReads line (line_of x.0 x.1) (text_of xs ++ rest) (tokens_of line (rows_of x.0 x.1)) = line_reads line (text_of xs ++ rest) x.0 x.1 is in
    let others = loops_read (line + 1) xs rest are in
    let joined : (line_of x.0 x.1 ++ text_of xs) ++ rest ≡ line_of x.0 x.1 ++ (text_of xs ++ rest) = append_assoc (line_of x.0 x.1) (text_of xs) rest in
    let count : line + 1 + length xs ≡ line + length (x ∷ xs) = omega arith in (
      ap (may_read 0 (at line 1)) joined ∙ first.may ∙ others.0 ∙ ap (λ (n : ℕ). may_read 0 (at n 1) rest) count,
      ap (tokens_in 0 (at line 1)) joined ∙ first.made ∙ ap (λ (ts : List Token). tokens_of line (rows_of x.0 x.1) ++ ts) (others.1 ∙ ap (λ (n : ℕ). loop_tokens (line + 1) xs ++ tokens_in 0 (at n 1) rest) count)
          ∙ sym (append_assoc (tokens_of line (rows_of x.0 x.1)) (loop_tokens (line + 1) xs) (tokens_in 0 (at (line + length (x ∷ xs)) 1) rest)),
      ap (behind (at line 1)) joined ∙ first.place ∙ others.2 ∙ ap (λ (n : ℕ). behind (at n 1) rest) count,
    )
