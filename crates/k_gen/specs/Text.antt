-- Believed with the theorem on the top call.
-- *Generated text*: a program of so many loops, made from a number.
use Rattle.std.specs.Prelude.{ℕ, zero, suc, ◌+◌, ◌*◌, ◌%◌, ◌==◌, ◌++◌, if◌then◌else◌, List, [], codes, decimal}
use Rattle.k_gen.specs.Draw.{draw}

-- the lines before the loops
unfoldable pub head : List ℕ
head = codes "#include <stdio.h>\nint a[64];\nint main(void)\n{\nint i,j,s=0;\nfor(i=0;i<64;i++) a[i]=i%10;\n"

-- the lines behind them: the format has a backslash and an n
unfoldable pub tail : List ℕ
tail = codes "printf(\"%d\\n\",s);\nreturn 0;\n}\n"

-- what stands before the number of a loop of this form
unfoldable pub front : ℕ → List ℕ
front form = if form == 0 then codes "for(i=0;i<64;i++) a[i]=(a[i]*" else if form == 1 then codes "for(i=1;i<64;i++) a[i]=(a[i-1]+a[i]+"
    else codes "for(j=0;j<8;j++) for(i=0;i<64;i++) s+=a[i]&"

-- what stands behind it
unfoldable pub back : ℕ → List ℕ
back form = if form == 0 then codes "+i)%1000;\n" else if form == 1 then codes ")%1000;\n" else codes ";\n"

-- the line of a loop of this form, with this number
abbrev pub line_of : ℕ → ℕ → List ℕ
line_of form number = front form ++ decimal number ++ back form

-- the line of loop k, counted from 0, which takes two draws: its form, and its number
abbrev pub loop_line : ℕ → ℕ → List ℕ
loop_line number k = line_of (draw number (2 * k) % 3) (1 + draw number (2 * k + 1) % 9)

-- the lines of the first k loops
unfoldable pub loop_lines : ℕ → ℕ → List ℕ
loop_lines number zero = []
loop_lines number (suc k) = loop_lines number k ++ loop_line number k

-- the program of so many loops
abbrev pub program : ℕ → ℕ → List ℕ
program number loops = head ++ loop_lines number loops ++ tail
