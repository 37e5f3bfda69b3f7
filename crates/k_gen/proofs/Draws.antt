-- The row of a number, and the lines of loops, a step at a time.
use Rattle.std.proofs.Common.{◌≡◌, ◌+◌, ◌*◌, ◌/◌, ◌%◌, ◌^◌, ◌++◌, ◌∙◌, ℕ, List, add-one, ap, append-nil, append_assoc, arith, refl, sym}
use Rattle.k_gen.specs.Draw.{next, state}
use Rattle.k_gen.specs.Text.{head, line_of, loop_line, loop_lines}

-- the row begins with the number's remainder
pub state-zero : (number : ℕ) → state number 0 ≡ number % 2 ^ 31
unfolding state
state-zero number = refl

-- and goes on by steps
state-next : (number k : ℕ) → state number (k + 1) ≡ next (state number k)
unfolding state
state-next number k = rw (add-one k) refl

lines-next : (number k : ℕ) → loop_lines number (k + 1) ≡ loop_lines number k ++ loop_line number k
unfolding loop_lines
lines-next number k = rw (add-one k) refl

module _ (number k x : ℕ) (is : x ≡ state number (2 * k)) where
  once : next x ≡ state number (2 * k + 1)
  once = ap next is ∙ sym (state-next number (2 * k))

  twice : next (next x) ≡ state number (2 * k + 1 + 1)
  twice = ap next once ∙ sym (state-next number (2 * k + 1))

  -- two draws are two steps
  pub state-two : next (next x) ≡ state number (2 * (k + 1))
  state-two = twice ∙ ap (state number) (omega arith)

  -- and give the line of a loop
  pub loop_line-is : line_of (next x / 65536 % 3) (1 + next (next x) / 65536 % 9) ≡ loop_line number k
  loop_line-is = λ i. line_of (once i / 65536 % 3) (1 + twice i / 65536 % 9)

  -- one line more
  pub loop_lines-next : (text : List ℕ) → text ≡ head ++ loop_lines number k
      → text ++ line_of (next x / 65536 % 3) (1 + next (next x) / 65536 % 9) ≡ head ++ loop_lines number (k + 1)
  loop_lines-next text so_far =
      ap (λ t. t ++ line_of (next x / 65536 % 3) (1 + next (next x) / 65536 % 9)) so_far
      ∙ append_assoc head (loop_lines number k) (line_of (next x / 65536 % 3) (1 + next (next x) / 65536 % 9))
      ∙ ap (λ line. head ++ (loop_lines number k ++ line)) loop_line-is
      ∙ ap (λ lines. head ++ lines) (sym (lines-next number k))

-- no line yet
pub loop_lines-none : (number : ℕ) → head ≡ head ++ loop_lines number 0
unfolding loop_lines
loop_lines-none number = sym (append-nil head)
