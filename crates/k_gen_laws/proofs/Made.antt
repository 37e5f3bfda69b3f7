-- Each made program is a source.
use Rattle.std.proofs.Common.{◌≡◌, ℕ, zero, suc, ◌+◌, ◌*◌, ◌%◌, ◌≤◌, List, [], ◌∷◌, ◌++◌, length, refl, sym, ap, subst, ◌∙◌, arith, append_assoc}
use Rattle.std.proofs.lemmas.List.{append-nil, length-append}
use Rattle.k_gen.specs.Draw.{draw}
use Rattle.k_gen.specs.Text.{head, line_of, loop_line, loop_lines, program, tail}
use Rattle.k_gen_laws.proofs.Faultless.{source_faultless}
use Rattle.k_gen_laws.proofs.Lines.{AreLoops, IsLoop, text_of}
use Rattle.k_gen_laws.proofs.Parsed.{source_read}
use Rattle.k_gen_laws.proofs.Reading.{list_of, source_cut, source_of}
use Rattle.k_gen_laws.proofs.Trees.{unit_of}
use Rattle.k_gen_laws.specs.Laws.{IsSource, MadeProgramsAreSources}

-- the form and the number of loop k
abbrev loop_at : ℕ → ℕ → ℕ × ℕ
loop_at number k = (draw number (2 * k) % 3, 1 + draw number (2 * k + 1) % 9)

-- those of the first k loops
unfoldable loops_of : ℕ → ℕ → List (ℕ × ℕ)
loops_of number zero = []
loops_of number (suc k) = loops_of number k ++ loop_at number k ∷ []

text_append : (xs ys : List (ℕ × ℕ)) → text_of (xs ++ ys) ≡ text_of xs ++ text_of ys
text_append [] ys = refl
text_append (x ∷ xs) ys = ap (λ (t : List ℕ). line_of x.0 x.1 ++ t) (text_append xs ys) ∙ sym (append_assoc (line_of x.0 x.1) (text_of xs) (text_of ys))

-- they have the text of the program's loops
same_text : (number k : ℕ) → loop_lines number k ≡ text_of (loops_of number k)
unfolding loop_lines loops_of
same_text number zero = refl
same_text number (suc k) =
    ap (λ (t : List ℕ). t ++ loop_line number k) (same_text number k)
    ∙ ap (λ (t : List ℕ). text_of (loops_of number k) ++ t) (sym (append-nil (loop_line number k)))
    ∙ sym (text_append (loops_of number k) (loop_at number k ∷ []))

loops_append : (xs ys : List (ℕ × ℕ)) → AreLoops xs → AreLoops ys → AreLoops (xs ++ ys)
loops_append [] ys a b = b
loops_append (x ∷ xs) ys (is, a) b = (is, loops_append xs ys a b)

is_loop : (m n : ℕ) → IsLoop (m % 3) (1 + n % 9)
is_loop m n = record { form = omega arith; some = omega arith; few = omega arith }

are_loops : (number k : ℕ) → AreLoops (loops_of number k)
unfolding loops_of
are_loops number zero = tt
are_loops number (suc k) =
    loops_append (loops_of number k) (loop_at number k ∷ []) (are_loops number k) (is_loop (draw number (2 * k)) (draw number (2 * k + 1)), tt)

count_of : (number k : ℕ) → length (loops_of number k) ≡ k
unfolding loops_of
count_of number zero = refl
count_of number (suc k) = omega (arith, length-append (loops_of number k) (loop_at number k ∷ []), count_of number k)

is_source : (xs : List (ℕ × ℕ)) → AreLoops xs → length xs ≤ 2000 → IsSource (source_of xs)
is_source xs are few = record {
  list = list_of xs;
  cut = source_cut xs are few;
  unit = unit_of xs;
  read = source_read xs few;
  faultless = source_faultless xs;
}

-- MADE PROGRAMS are sources
pub made_programs_are_sources : MadeProgramsAreSources
made_programs_are_sources number loops few =
    let xs : List (ℕ × ℕ) = loops_of number loops in
    let same : source_of xs ≡ program number loops = ap (λ (t : List ℕ). head ++ t ++ tail) (sym (same_text number loops)) in
    let count : length xs ≤ 2000 = omega (arith, count_of number loops, few) in
    subst IsSource same (is_source xs (are_loops number loops) count)
