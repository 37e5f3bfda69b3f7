-- Made programs have the tokens of their lines.
use Rattle.std.proofs.Common.{◌≡◌, ℕ, zero, suc, ◌+◌, ◌*◌, ◌≤◌, ◌<◌, Bool, true, false, List, [], ◌∷◌, ◌++◌, Result, Ok, length, refl, sym, ap, ◌∙◌, if◌then◌else◌, arith, append_assoc}
use Rattle.std.specs.Prelude.{codes, nat_lt}
use Rattle.std.proofs.lemmas.List.{length-append}
use Rattle.std.proofs.lemmas.Bool.{false≢true}
use Rattle.std.proofs.lemmas.Bool.Decides.{nat_tests}
use Rattle.std.specs.Fmt.{digits}
use Rattle.k_num.specs.declared.place.Place.{Place}
use Rattle.k_tree.specs.declared.tokens.Token.{Token}
use Rattle.k_tree.specs.declared.tokens.TokenKind.{TokenKind}
use Rattle.k_tree.specs.declared.tokens.TokenKind.TheVariants as t
use Rattle.k_lex_pieces.specs.declared.fault.Fault.{Fault}
use Rattle.k_lex_pieces.specs.declared.fault.Refusal.TheVariants as r
use Rattle.k_lex_pieces.specs.Bytes.{behind}
use Rattle.k_lex_pieces.specs.Outcome.{◌>>=◌, refused}
use Rattle.k_lex.specs.Lines.{State}
use Rattle.k_lex.specs.Tokens.{answer, first_place, join, join_kinds, joined, limits, nothing_read, run, tokens}
use Rattle.k_gen.specs.Text.{back, front, head, line_of, tail}
use Rattle.k_gen_laws.proofs.Including.{included, includes}
use Rattle.k_gen_laws.proofs.Lines.{AreLoops, IsLoop, LineReads, loops_read, text_of}
use Rattle.k_gen_laws.proofs.Scanning.{IsReading, IsRun, may_read, run_reads, tokens_in}
use Rattle.k_gen_laws.proofs.Trees.{array_rows, at, declaring_rows, end_tokens, filling_rows, head_rows, head_tokens, loop_tokens, open_rows, rows_of, tail_tokens, tokens_of}

-- the lines before the loops but the first
abbrev head_lines : List ℕ
head_lines = codes "int a[64];\nint main(void)\n{\nint i,j,s=0;\nfor(i=0;i<64;i++) a[i]=i%10;\n"

head_is : head ≡ codes "#include <stdio.h>\n" ++ head_lines
unfolding head
head_is = refl

module _ (rest : List ℕ) where
  line_2 : LineReads 2 (codes "int a[64];\n") rest (tokens_of 2 array_rows)
  line_2 = record { may = refl; made = refl; place = refl }

  line_3 : LineReads 3 (codes "int main(void)\n") rest (tokens_of 3 head_rows)
  line_3 = record { may = refl; made = refl; place = refl }

  line_4 : LineReads 4 (codes "{\n") rest (tokens_of 4 open_rows)
  line_4 = record { may = refl; made = refl; place = refl }

  line_5 : LineReads 5 (codes "int i,j,s=0;\n") rest (tokens_of 5 declaring_rows)
  line_5 = record { may = refl; made = refl; place = refl }

  line_6 : LineReads 6 (codes "for(i=0;i<64;i++) a[i]=i%10;\n") rest (tokens_of 6 filling_rows)
  line_6 = record { may = refl; made = refl; place = refl }

module _ (rest : List ℕ) where
  abbrev from_6 : List ℕ
  from_6 = codes "for(i=0;i<64;i++) a[i]=i%10;\n" ++ rest

  abbrev from_5 : List ℕ
  from_5 = codes "int i,j,s=0;\n" ++ from_6

  abbrev from_4 : List ℕ
  from_4 = codes "{\n" ++ from_5

  abbrev from_3 : List ℕ
  from_3 = codes "int main(void)\n" ++ from_4

  head_may : may_read 0 (at 2 1) (head_lines ++ rest) ≡ may_read 0 (at 7 1) rest
  head_may = (line_2 from_3).may ∙ (line_3 from_4).may ∙ (line_4 from_5).may ∙ (line_5 from_6).may ∙ (line_6 rest).may

  head_reads : tokens_in 0 (at 2 1) (head_lines ++ rest) ≡ head_tokens ++ tokens_in 0 (at 7 1) rest
  head_reads =
      (line_2 from_3).made ∙ ap (λ (ts : List Token). tokens_of 2 array_rows ++ ts) (
      (line_3 from_4).made ∙ ap (λ (ts : List Token). tokens_of 3 head_rows ++ ts) (
      (line_4 from_5).made ∙ ap (λ (ts : List Token). tokens_of 4 open_rows ++ ts) (
      (line_5 from_6).made ∙ ap (λ (ts : List Token). tokens_of 5 declaring_rows ++ ts) (line_6 rest).made)))

  head_place : behind (at 2 1) (head_lines ++ rest) ≡ behind (at 7 1) rest
  head_place = refl

module _ (line : ℕ) where
  tail_may : may_read 0 (at line 1) tail ≡ true
  unfolding tail
  tail_may = refl

  tail_reads : tokens_in 0 (at line 1) tail ≡ tail_tokens line
  unfolding tail
  tail_reads = refl

  tail_place : behind (at line 1) tail ≡ at (line + 1 + 1 + 1) 1
  unfolding tail
  tail_place = refl

-- ---- strings stand apart

-- a token is a string
abbrev is_string : TokenKind → Bool
is_string (t.Str bytes) = true
is_string _ = false

-- no token is a string
abbrev has_no_string : List Token → Bool
has_no_string [] = true
has_no_string (x ∷ xs) = if is_string x.what then false else has_no_string xs

join_one : (a : Token) (what : TokenKind) (ts : List Token) (b : Token) → is_string what ≡ false → join_kinds a ts b what b.what ≡ a ∷ b ∷ ts
join_one a t.End ts b e = refl
join_one a (t.Name name) ts b e = refl
join_one a (t.Word word) ts b e = refl
join_one a (t.Number kind value) ts b e = refl
join_one a (t.Char value) ts b e = refl
join_one a (t.Str bytes) ts b e = absurd (false≢true (sym e))
join_one a (t.Mark mark) ts b e = refl

join_apart : (a : Token) (ts : List Token) → is_string a.what ≡ false → join a ts ≡ a ∷ ts
join_apart a [] e = refl
join_apart a (b ∷ ts) e = join_one a a.what ts b e

first_apart : (string rest : Bool) → (if string then false else rest) ≡ true → (string ≡ false) × (rest ≡ true)
first_apart true rest e = absurd (false≢true e)
first_apart false rest e = (refl, e)

joined_apart : (xs ys : List Token) → has_no_string xs ≡ true → joined (xs ++ ys) ≡ xs ++ joined ys
joined_apart [] ys e = refl
joined_apart (x ∷ xs) ys e =
    let first = first_apart (is_string x.what) (has_no_string xs) e in
    ap (join x) (joined_apart xs ys first.1) ∙ join_apart x (xs ++ joined ys) first.0

apart_append : (xs ys : List Token) → has_no_string xs ≡ true → has_no_string ys ≡ true → has_no_string (xs ++ ys) ≡ true
apart_append [] ys e f = f
apart_append (x ∷ xs) ys e f =
    let first = first_apart (is_string x.what) (has_no_string xs) e in
    ap (λ (b : Bool). if b then false else has_no_string (xs ++ ys)) first.0 ∙ apart_append xs ys first.1 f

rows_apart : (form d line : ℕ) → has_no_string (tokens_of line (rows_of form d)) ≡ true
rows_apart zero d line = refl
rows_apart (suc zero) d line = refl
rows_apart (suc (suc form)) d line = refl

loops_apart : (line : ℕ) (xs : List (ℕ × ℕ)) → has_no_string (loop_tokens line xs) ≡ true
loops_apart line [] = refl
loops_apart line (x ∷ xs) =
    apart_append (tokens_of line (rows_of x.0 x.1)) (loop_tokens (line + 1) xs) (rows_apart x.0 x.1 line) (loops_apart (line + 1) xs)

tail_joined : (line : ℕ) → joined (tail_tokens line) ≡ tail_tokens line
tail_joined line = refl

-- ---- lengths

form_0 : (d : ℕ) → 1 ≤ d → d < 10 → length (line_of 0 d) ≤ 50
unfolding front back digits
form_0 zero some few = absurd (omega (arith, some))
form_0 (suc zero) some few = omega arith
form_0 (suc (suc zero)) some few = omega arith
form_0 (suc (suc (suc zero))) some few = omega arith
form_0 (suc (suc (suc (suc zero)))) some few = omega arith
form_0 (suc (suc (suc (suc (suc zero))))) some few = omega arith
form_0 (suc (suc (suc (suc (suc (suc zero)))))) some few = omega arith
form_0 (suc (suc (suc (suc (suc (suc (suc zero))))))) some few = omega arith
form_0 (suc (suc (suc (suc (suc (suc (suc (suc zero)))))))) some few = omega arith
form_0 (suc (suc (suc (suc (suc (suc (suc (suc (suc zero))))))))) some few = omega arith
form_0 (suc (suc (suc (suc (suc (suc (suc (suc (suc (suc d)))))))))) some few = absurd (omega (arith, few))

form_1 : (d : ℕ) → 1 ≤ d → d < 10 → length (line_of 1 d) ≤ 50
unfolding front back digits
form_1 zero some few = absurd (omega (arith, some))
form_1 (suc zero) some few = omega arith
form_1 (suc (suc zero)) some few = omega arith
form_1 (suc (suc (suc zero))) some few = omega arith
form_1 (suc (suc (suc (suc zero)))) some few = omega arith
form_1 (suc (suc (suc (suc (suc zero))))) some few = omega arith
form_1 (suc (suc (suc (suc (suc (suc zero)))))) some few = omega arith
form_1 (suc (suc (suc (suc (suc (suc (suc zero))))))) some few = omega arith
form_1 (suc (suc (suc (suc (suc (suc (suc (suc zero)))))))) some few = omega arith
form_1 (suc (suc (suc (suc (suc (suc (suc (suc (suc zero))))))))) some few = omega arith
form_1 (suc (suc (suc (suc (suc (suc (suc (suc (suc (suc d)))))))))) some few = absurd (omega (arith, few))

form_2 : (d : ℕ) → 1 ≤ d → d < 10 → length (line_of 2 d) ≤ 50
unfolding front back digits
form_2 zero some few = absurd (omega (arith, some))
form_2 (suc zero) some few = omega arith
form_2 (suc (suc zero)) some few = omega arith
form_2 (suc (suc (suc zero))) some few = omega arith
form_2 (suc (suc (suc (suc zero)))) some few = omega arith
form_2 (suc (suc (suc (suc (suc zero))))) some few = omega arith
form_2 (suc (suc (suc (suc (suc (suc zero)))))) some few = omega arith
form_2 (suc (suc (suc (suc (suc (suc (suc zero))))))) some few = omega arith
form_2 (suc (suc (suc (suc (suc (suc (suc (suc zero)))))))) some few = omega arith
form_2 (suc (suc (suc (suc (suc (suc (suc (suc (suc zero))))))))) some few = omega arith
form_2 (suc (suc (suc (suc (suc (suc (suc (suc (suc (suc d)))))))))) some few = absurd (omega (arith, few))

line_length : (form d : ℕ) → IsLoop form d → length (line_of form d) ≤ 50
line_length zero d is = form_0 d is.some is.few
line_length (suc zero) d is = form_1 d is.some is.few
line_length (suc (suc zero)) d is = form_2 d is.some is.few
line_length (suc (suc (suc form))) d is = absurd (omega (arith, is.form))

text_length : (xs : List (ℕ × ℕ)) → AreLoops xs → length (text_of xs) ≤ 50 * length xs
text_length [] are = omega arith
text_length (x ∷ xs) (is, are) =
    let one = line_length x.0 x.1 is in
    let others = text_length xs are in
    omega (arith, length-append (line_of x.0 x.1) (text_of xs), one, others)

tail_length : length tail ≤ 50
unfolding tail
tail_length = omega arith

lines_length : length head_lines ≤ 100
lines_length = omega arith

-- ---- the whole program

-- the text of a program of these loops
abbrev pub source_of : List (ℕ × ℕ) → List ℕ
source_of xs = head ++ text_of xs ++ tail

-- its tokens
abbrev pub list_of : List (ℕ × ℕ) → List Token
list_of xs = head_tokens ++ (loop_tokens 7 xs ++ (tail_tokens (7 + length xs) ++ end_tokens (7 + length xs)))

-- tokens that were read behind none
from_none : (found read same : List Token) → found ≡ [] ++ read → read ≡ same → found ≡ same
from_none found read same p q = p ∙ q

module _ (xs : List (ℕ × ℕ)) (are : AreLoops xs) (few : length xs ≤ 2000) where
  abbrev line : ℕ
  line = 7 + length xs

  abbrev behind_loops : List ℕ
  behind_loops = text_of xs ++ tail

  abbrev from_second : List ℕ
  from_second = head_lines ++ behind_loops

  may : may_read 0 (at 2 1) from_second ≡ true
  may = head_may behind_loops ∙ (loops_read 7 xs tail are).0 ∙ tail_may line

  read : tokens_in 0 (at 2 1) from_second ≡ head_tokens ++ (loop_tokens 7 xs ++ tail_tokens line)
  read = head_reads behind_loops ∙ ap (λ (ts : List Token). head_tokens ++ ts) ((loops_read 7 xs tail are).1 ∙ ap (λ (ts : List Token). loop_tokens 7 xs ++ ts) (tail_reads line))

  place : behind (at 2 1) from_second ≡ at (line + 1 + 1 + 1) 1
  place = head_place behind_loops ∙ (loops_read 7 xs tail are).2 ∙ tail_place line

  short : length from_second ≤ 300000
  short =
      omega (arith, length-append head_lines behind_loops, length-append (text_of xs) tail, text_length xs are, tail_length, lines_length, few)

  reading : IsReading included (length from_second)
  reading = record { text = tt; macros = refl; limit = refl; tokens = omega (arith, short); spelled = omega (arith, short) }

  ran : IsRun 0 (at 2 1) included from_second
  ran = run_reads 0 (at 2 1) included from_second (length from_second) (omega arith) (omega arith) may reading

  made : ran.end.tokens ≡ head_tokens ++ (loop_tokens 7 xs ++ tail_tokens line)
  made = from_none ran.end.tokens (tokens_in 0 (at 2 1) from_second) (head_tokens ++ (loop_tokens 7 xs ++ tail_tokens line)) ran.made read

  joined_made : joined (head_tokens ++ (loop_tokens 7 xs ++ tail_tokens line)) ≡ head_tokens ++ (loop_tokens 7 xs ++ tail_tokens line)
  joined_made =
      joined_apart head_tokens (loop_tokens 7 xs ++ tail_tokens line) refl
      ∙ ap (λ (ts : List Token). head_tokens ++ ts) (joined_apart (loop_tokens 7 xs) (tail_tokens line) (loops_apart 7 xs)
      ∙ ap (λ (ts : List Token). loop_tokens 7 xs ++ ts) (tail_joined line))

  whole_is : source_of xs ≡ codes "#include <stdio.h>\n" ++ from_second
  whole_is = append_assoc head (text_of xs) tail ∙ ap (λ (h : List ℕ). h ++ behind_loops) head_is ∙ append_assoc (codes "#include <stdio.h>\n") head_lines behind_loops

  -- the list of what a run has read
  abbrev listed : Result (State × Place) Fault → Result (List Token) Fault
  listed found = found >>= λ end. Ok (joined end.0.tokens ++ record { what = t.End; place = end.1 } ∷ [])

  runs : run 0 first_place (nothing_read limits) (source_of xs) ≡ Ok (ran.end, at (line + 1 + 1 + 1) 1)
  runs =
      ap (run 0 first_place (nothing_read limits)) whole_is ∙ includes from_second ∙ ran.runs
      ∙ ap (λ (at_end : Place). Ok (ran.end, at_end)) place

  in_order : (head_tokens ++ (loop_tokens 7 xs ++ tail_tokens line)) ++ end_tokens line ≡ list_of xs
  in_order =
      append_assoc head_tokens (loop_tokens 7 xs ++ tail_tokens line) (end_tokens line)
      ∙ ap (λ (ts : List Token). head_tokens ++ ts) (append_assoc (loop_tokens 7 xs) (tail_tokens line) (end_tokens line))

  within : nat_lt limits.source (length (source_of xs)) ≡ false
  within =
      let size : length (source_of xs) ≡ length (codes "#include <stdio.h>\n" ++ from_second) = ap length whole_is in
      let long : length (source_of xs) ≤ 1048576 = omega (arith, size, length-append (codes "#include <stdio.h>\n") from_second, short) in
      grind (arith, nat_tests)

  -- THE TOKENS of a made program
  pub source_cut : tokens (source_of xs) ≡ Ok (list_of xs)
  source_cut =
      ap (λ (b : Bool). answer (if b then refused r.SourceLong first_place else listed (run 0 first_place (nothing_read limits) (source_of xs)))) within
      ∙ ap (λ (found : Result (State × Place) Fault). answer (listed found)) runs
      ∙ ap (λ (ts : List Token). Ok (joined ts ++ end_tokens line)) made
      ∙ ap (λ (ts : List Token). Ok (ts ++ end_tokens line)) joined_made
      ∙ ap (λ (ts : List Token). Ok ts) in_order
