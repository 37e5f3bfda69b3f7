-- What is read of a line was spelled so, and what is spelled so is read.
use Rattle.std.proofs.Common.{◌≡◌, ℕ, zero, suc, ◌^◌, ◌<◌, ◌≤◌, Bool, true, false, ◌&&◌, nat_le, nat_lt, List, [], ◌∷◌, ◌++◌, length, Option, Some, None, refl, sym, ap, ◌∙◌, subst, arith, append_assoc, lt-ltb}
use Rattle.std.specs.Prelude.{codes}
use Rattle.std.specs.List.{flat_map}
use Rattle.std.specs.Fmt.{decimal}
use Rattle.std.proofs.lemmas.Bool.{and_parts, and_from, leb-true, ltb-true, le-leb}
use Rattle.std.proofs.lemmas.List.Concat.{flat_map-cons}
use Rattle.std.proofs.lemmas.Option.{none-some, same_Some}
use Rattle.k_num.specs.declared.place.Place.{Place}
use Rattle.k_optab.specs.declared.region.Region.{Region}
use Rattle.k_optab.specs.declared.region.RegionKind.{RegionKind}
use Rattle.k_optab.specs.declared.region.RegionKind.TheVariants.{Func, Loop, Body}
use Rattle.k_scan.specs.Names.{name_at}
use Rattle.k_scan.specs.Numbers.{NoDigit, is_digit, number_at}
use Rattle.k_scan.specs.Pieces.{word_at}
use Rattle.k_scan.proofs.Digits.{number_again, number_takes}
use Rattle.k_scan.proofs.Front.{name_again, name_takes, word_again, word_takes}
use Rattle.k_dict_entries.specs.Entries.{NameBelow}
use Rattle.k_dict_saved.specs.Lines.{IsRegion}
use Rattle.k_text.specs.Texts.{kind_text, named_line, run_text}
use Rattle.k_dict_saved.specs.FileText.{entry_line, region_line}
use Rattle.k_dict_saved.specs.Syntax.{◌>>=◌, ended, entry_at, first_kind, found_if, kind_at, named_at, number_then, numbers_at, part_at, place_at, region_at, region_of, run_at, runs_at}
use Rattle.k_dict_entries.specs.declared.entry.Entry.{Entry}
use Rattle.k_dict_entries.specs.declared.entry.Run.{Run}

-- the value of a step that found something
pub bind_some : {A B : Type 0} (o : Option A) (f : A → Option B) (y : B) → (o >>= f) ≡ Some y → (x : A) × (o ≡ Some x) × (f x ≡ Some y)
bind_some None f y h = absurd (none-some y h)
bind_some (Some x) f y h = (x, refl, h)

-- a value that was found passed its test
pub found_is : {A : Type 0} (test : Bool) (x y : A) → found_if test x ≡ Some y → (test ≡ true) × (x ≡ y)
found_is true x y h = (refl, same_Some x y h)
found_is false x y h = absurd (none-some y h)

-- a value whose test passes is found
pub is_found : {A : Type 0} (test : Bool) (x : A) → test ≡ true → found_if test x ≡ Some x
is_found test x h = ap (λ t. found_if t x) h

-- ---- numbers

number_then_takes : (byte : ℕ) (text : List ℕ) (n : ℕ) (rest : List ℕ) → number_then byte text ≡ Some (n, rest) → (text ≡ decimal n ++ byte ∷ rest) × (n < 2 ^ 64)
unfolding number_then
number_then_takes byte text n rest h =
    let a = bind_some (number_at text) (λ number. word_at (byte ∷ []) number.1 >>= λ rest. Some (number.0, rest)) (n, rest) h in
    let b = bind_some (word_at (byte ∷ []) a.0.1) (λ rest. Some (a.0.0, rest)) (n, rest) a.2 in
    let pair = same_Some (a.0.0, b.0) (n, rest) b.2 in
    let one : a.0.0 ≡ n = ap (λ p. p.0) pair in let other : b.0 ≡ rest = ap (λ p. p.1) pair in
    let takes = number_takes text a.0.0 a.0.1 a.1 in
    let P : ℕ → Type 0 = λ k. k < 2 ^ 64 in
    (takes.0 ∙ ap (λ l. decimal a.0.0 ++ l) (word_takes (byte ∷ []) a.0.1 b.0 b.1) ∙ (λ i. decimal (one i) ++ byte ∷ other i), subst P one takes.1)

number_then_again : (byte n : ℕ) (rest : List ℕ) → n < 2 ^ 64 → is_digit byte ≡ false → number_then byte (decimal n ++ byte ∷ rest) ≡ Some (n, rest)
unfolding number_then
number_then_again byte n rest fits alone =
    ap (λ o. o >>= λ number. word_at (byte ∷ []) number.1 >>= λ rest. Some (number.0, rest)) (number_again n (byte ∷ rest) fits alone)
    ∙ ap (λ o. o >>= λ rest. Some (n, rest)) (word_again (byte ∷ []) rest)

pub named_parts : (name number rest : List ℕ) → named_line name number ++ rest ≡ name ++ (number ++ 10 ∷ rest)
named_parts name number rest = append_assoc (name ++ number) (10 ∷ []) rest ∙ append_assoc name number (10 ∷ rest)

-- the line of a name and a number that was read
pub named_takes : (name : List ℕ) (low high : ℕ) (text : List ℕ) (n : ℕ) (rest : List ℕ) → named_at name low high text ≡ Some (n, rest)
    → (text ≡ named_line name (decimal n) ++ rest) × (low ≤ n) × (n ≤ high)
unfolding named_at
named_takes name low high text n rest h =
    let a = bind_some (word_at name text) (λ rest. number_then 10 rest >>= λ number. found_if (nat_le low number.0 && nat_le number.0 high) number) (n, rest) h in
    let b = bind_some (number_then 10 a.0) (λ number. found_if (nat_le low number.0 && nat_le number.0 high) number) (n, rest) a.2 in
    let c = found_is (nat_le low b.0.0 && nat_le b.0.0 high) b.0 (n, rest) b.2 in
    let bounds = and_parts (nat_le low b.0.0) (nat_le b.0.0 high) c.0 in
    let one : b.0.0 ≡ n = ap (λ p. p.0) c.1 in let other : b.0.1 ≡ rest = ap (λ p. p.1) c.1 in
    let low_is : low ≤ b.0.0 = leb-true low b.0.0 bounds.0 in let high_is : b.0.0 ≤ high = leb-true b.0.0 high bounds.1 in (
      word_takes name text a.0 a.1 ∙ ap (λ l. name ++ l) (number_then_takes 10 a.0 b.0.0 b.0.1 b.1).0
          ∙ (λ i. name ++ (decimal (one i) ++ 10 ∷ other i)) ∙ sym (named_parts name (decimal n) rest),
      omega arith,
      omega arith,
    )

-- the line of a name and a number is read
pub named_again : (name : List ℕ) (low high n : ℕ) (rest : List ℕ) → low ≤ n → n ≤ high → high < 2 ^ 64
    → named_at name low high (named_line name (decimal n) ++ rest) ≡ Some (n, rest)
unfolding named_at
named_again name low high n rest above below fits =
    let whole : List ℕ → Option (ℕ × List ℕ) =
    λ text. word_at name text >>= λ rest. number_then 10 rest >>= λ number. found_if (nat_le low number.0 && nat_le number.0 high) number in
    ap whole (named_parts name (decimal n) rest)
    ∙ ap (λ o. o >>= λ rest. number_then 10 rest >>= λ number. found_if (nat_le low number.0 && nat_le number.0 high) number) (word_again name (decimal n ++ 10 ∷ rest))
    ∙ ap (λ o. o >>= λ number. found_if (nat_le low number.0 && nat_le number.0 high) number) (number_then_again 10 n rest (omega arith) refl)
    ∙ is_found (nat_le low n && nat_le n high) (n, rest) (and_from (nat_le low n) (nat_le n high) (le-leb low n above) (le-leb n high below))

-- ---- regions

kind_takes : (text : List ℕ) (k : RegionKind) (rest : List ℕ) → kind_at text ≡ Some (k, rest) → text ≡ (kind_text k ++ codes " ") ++ rest
unfolding kind_at
kind_takes text k rest h = by (word_at (codes "func ") text) (word_at (codes "loop ") text) (word_at (codes "body ") text) refl refl refl h
  where
    spelled : (l : RegionKind) (more : List ℕ) → ◌≡◌ {A = RegionKind × List ℕ} (l, more) (k, rest) → text ≡ (kind_text l ++ codes " ") ++ more → text ≡ (kind_text k ++ codes " ") ++ rest
    spelled l more pair is = is ∙ ap (λ p. (kind_text p.0 ++ codes " ") ++ p.1) pair

    by : (one two three : Option (List ℕ)) → word_at (codes "func ") text ≡ one → word_at (codes "loop ") text ≡ two → word_at (codes "body ") text ≡ three
        → first_kind one two three ≡ Some (k, rest) → text ≡ (kind_text k ++ codes " ") ++ rest
    by (Some more) two three a b c is = spelled Func more (same_Some (Func, more) (k, rest) is) (word_takes (codes "func ") text more a)
    by None (Some more) three a b c is = spelled Loop more (same_Some (Loop, more) (k, rest) is) (word_takes (codes "loop ") text more b)
    by None None (Some more) a b c is = spelled Body more (same_Some (Body, more) (k, rest) is) (word_takes (codes "body ") text more c)
    by None None None a b c is = absurd (none-some (k, rest) is)

kind_again : (k : RegionKind) (rest : List ℕ) → kind_at ((kind_text k ++ codes " ") ++ rest) ≡ Some (k, rest)
unfolding kind_at
kind_again Func rest = refl
kind_again Loop rest = refl
kind_again Body rest = refl

part_takes : (byte : ℕ) (text : List ℕ) (n : ℕ) (rest : List ℕ) → part_at byte text ≡ Some (n, rest) → (text ≡ decimal n ++ byte ∷ rest) × (1 ≤ n) × (n ≤ 1048577)
unfolding part_at
part_takes byte text n rest h =
    let a = bind_some (number_then byte text) (λ number. found_if (nat_le 1 number.0 && nat_le number.0 1048577) number) (n, rest) h in
    let c = found_is (nat_le 1 a.0.0 && nat_le a.0.0 1048577) a.0 (n, rest) a.2 in
    let bounds = and_parts (nat_le 1 a.0.0) (nat_le a.0.0 1048577) c.0 in
    let one : a.0.0 ≡ n = ap (λ p. p.0) c.1 in let other : a.0.1 ≡ rest = ap (λ p. p.1) c.1 in
    let low_is : 1 ≤ a.0.0 = leb-true 1 a.0.0 bounds.0 in let high_is : a.0.0 ≤ 1048577 = leb-true a.0.0 1048577 bounds.1 in
    ((number_then_takes byte text a.0.0 a.0.1 a.1).0 ∙ (λ i. decimal (one i) ++ byte ∷ other i), omega arith, omega arith)

part_again : (byte n : ℕ) (rest : List ℕ) → 1 ≤ n → n ≤ 1048577 → is_digit byte ≡ false → part_at byte (decimal n ++ byte ∷ rest) ≡ Some (n, rest)
unfolding part_at
part_again byte n rest low high alone =
    ap (λ o. o >>= λ number. found_if (nat_le 1 number.0 && nat_le number.0 1048577) number) (number_then_again byte n rest (omega arith) alone)
    ∙ is_found (nat_le 1 n && nat_le n 1048577) (n, rest) (and_from (nat_le 1 n) (nat_le n 1048577) (le-leb 1 n low) (le-leb n 1048577 high))

place_text : Place → List ℕ → List ℕ
place_text p rest = decimal p.line ++ 58 ∷ (decimal p.column ++ 10 ∷ rest)

record IsPlace (p : Place) : Type 0 where
  line_low : 1 ≤ p.line
  line_high : p.line ≤ 1048577
  column_low : 1 ≤ p.column
  column_high : p.column ≤ 1048577

place_takes : (text : List ℕ) (p : Place) (rest : List ℕ) → place_at text ≡ Some (p, rest) → (text ≡ place_text p rest) × IsPlace p
unfolding place_at place_text
place_takes text p rest h =
    let a = bind_some (part_at 58 text) (λ line. part_at 10 line.1 >>= λ column. Some (record { line = line.0; column = column.0 }, column.1)) (p, rest) h in
    let b = bind_some (part_at 10 a.0.1) (λ column. Some (record { line = a.0.0; column = column.0 }, column.1)) (p, rest) a.2 in
    let made : Place × List ℕ = (record { line = a.0.0; column = b.0.0 }, b.0.1) in
    let pair : made ≡ (p, rest) = same_Some made (p, rest) b.2 in
    let one = part_takes 58 text a.0.0 a.0.1 a.1 in let two = part_takes 10 a.0.1 b.0.0 b.0.1 b.1 in
    let P : Place × List ℕ → Type 0 = λ q. (text ≡ decimal q.0.line ++ 58 ∷ (decimal q.0.column ++ 10 ∷ q.1)) × IsPlace q.0 in
    subst P pair (one.0 ∙ ap (λ l. decimal a.0.0 ++ 58 ∷ l) two.0, record { line_low = one.1; line_high = one.2; column_low = two.1; column_high = two.2 })

place_again : (p : Place) (rest : List ℕ) → IsPlace p → place_at (place_text p rest) ≡ Some (p, rest)
unfolding place_at place_text
place_again p rest is =
    ap (λ o. o >>= λ line. part_at 10 line.1 >>= λ column. Some (record { line = line.0; column = column.0 }, column.1))
    (part_again 58 p.line (decimal p.column ++ 10 ∷ rest) is.line_low is.line_high refl)
    ∙ ap (λ o. o >>= λ column. Some (record { line = p.line; column = column.0 }, column.1)) (part_again 10 p.column rest is.column_low is.column_high refl)

region_parts : (r : Region) (rest : List ℕ) → region_line r ++ rest ≡ (kind_text r.kind ++ codes " ") ++ (r.func ++ (32 ∷ place_text r.place rest))
unfolding place_text
region_parts r rest = simp append_assoc

-- the line of a region that was read
pub region_takes : (text : List ℕ) (r : Region) (rest : List ℕ) → region_at text ≡ Some (r, rest) → (text ≡ region_line r ++ rest) × IsRegion r
unfolding region_at
region_takes text r rest h =
    let a = bind_some (kind_at text) (λ kind. name_at kind.1 >>= λ name. word_at (codes " ") name.1 >>= λ rest. place_at rest >>= λ place.
    Some (region_of kind.0 name.0 place.0, place.1)) (r, rest) h in
    let b = bind_some (name_at a.0.1) (λ name. word_at (codes " ") name.1 >>= λ rest. place_at rest >>= λ place. Some (region_of a.0.0 name.0 place.0, place.1)) (r, rest) a.2 in
    let c = bind_some (word_at (codes " ") b.0.1) (λ rest. place_at rest >>= λ place. Some (region_of a.0.0 b.0.0 place.0, place.1)) (r, rest) b.2 in
    let d = bind_some (place_at c.0) (λ place. Some (region_of a.0.0 b.0.0 place.0, place.1)) (r, rest) c.2 in
    let made : Region × List ℕ = (region_of a.0.0 b.0.0 d.0.0, d.0.1) in
    let pair : made ≡ (r, rest) = same_Some made (r, rest) d.2 in
    let kind = kind_takes text a.0.0 a.0.1 a.1 in let name = name_takes a.0.1 b.0.0 b.0.1 b.1 in
    let space = word_takes (codes " ") b.0.1 c.0 c.1 in let place = place_takes c.0 d.0.0 d.0.1 d.1 in
    let P : Region × List ℕ → Type 0 = λ q. (text ≡ region_line q.0 ++ q.1) × IsRegion q.0 in
    subst P pair (
      kind ∙ ap (λ l. (kind_text a.0.0 ++ codes " ") ++ l) (name.0 ∙ ap (λ l. b.0.0 ++ l) (space ∙ ap (λ l. 32 ∷ l) place.0)) ∙ sym (region_parts made.0 made.1),
      record { func = name.1; line = (place.1.line_low, place.1.line_high); column = (place.1.column_low, place.1.column_high) },
    )

-- the line of a region is read
pub region_again : (r : Region) (rest : List ℕ) → IsRegion r → region_at (region_line r ++ rest) ≡ Some (r, rest)
unfolding region_at
region_again r rest is =
    let place : IsPlace r.place = record { line_low = is.line.0; line_high = is.line.1; column_low = is.column.0; column_high = is.column.1 } in
    ap region_at (region_parts r rest)
    ∙ ap (λ o. o >>= λ kind. name_at kind.1 >>= λ name. word_at (codes " ") name.1 >>= λ rest. place_at rest >>= λ place. Some (region_of kind.0 name.0 place.0, place.1))
    (kind_again r.kind (r.func ++ (32 ∷ place_text r.place rest)))
    ∙ ap (λ o. o >>= λ name. word_at (codes " ") name.1 >>= λ rest. place_at rest >>= λ place. Some (region_of r.kind name.0 place.0, place.1))
    (name_again r.func (32 ∷ place_text r.place rest) is.func refl)
    ∙ ap (λ o. o >>= λ rest. place_at rest >>= λ place. Some (region_of r.kind r.func place.0, place.1)) (word_again (codes " ") (place_text r.place rest))
    ∙ ap (λ o. o >>= λ place. Some (region_of r.kind r.func place.0, place.1)) (place_again r.place rest place)

-- ---- entries

run_parts : (run : Run) (rest : List ℕ) → run_text run ++ rest ≡ 32 ∷ (decimal run.entry ++ 42 ∷ (decimal run.count ++ rest))
run_parts run rest = simp append_assoc

abbrev run_made : ℕ × List ℕ → ℕ × List ℕ → Run × List ℕ
run_made entry count = (record { entry = entry.0; count = count.0 }, count.1)

run_takes : (high : ℕ) (text : List ℕ) (run : Run) (rest : List ℕ) → run_at high text ≡ Some (run, rest)
    → (text ≡ run_text run ++ rest) × (run.entry < high) × (1 ≤ run.count)
unfolding run_at
run_takes high text run rest h =
    let a = bind_some (word_at (codes " ") text) (λ rest. number_then 42 rest >>= λ entry. number_at entry.1 >>= λ count.
    found_if (nat_lt entry.0 high && nat_le 1 count.0) (run_made entry count)) (run, rest) h in
    let b = bind_some (number_then 42 a.0) (λ entry. number_at entry.1 >>= λ count. found_if (nat_lt entry.0 high && nat_le 1 count.0) (run_made entry count)) (run, rest) a.2 in
    let c = bind_some (number_at b.0.1) (λ count. found_if (nat_lt b.0.0 high && nat_le 1 count.0) (run_made b.0 count)) (run, rest) b.2 in
    let d = found_is (nat_lt b.0.0 high && nat_le 1 c.0.0) (run_made b.0 c.0) (run, rest) c.2 in
    let bounds = and_parts (nat_lt b.0.0 high) (nat_le 1 c.0.0) d.0 in
    let P : Run × List ℕ → Type 0 = λ q. (text ≡ run_text q.0 ++ q.1) × (q.0.entry < high) × (1 ≤ q.0.count) in
    subst P d.1 (
      word_takes (codes " ") text a.0 a.1
          ∙ ap (λ l. 32 ∷ l) ((number_then_takes 42 a.0 b.0.0 b.0.1 b.1).0 ∙ ap (λ l. decimal b.0.0 ++ 42 ∷ l) (number_takes b.0.1 c.0.0 c.0.1 c.1).0)
          ∙ sym (run_parts (run_made b.0 c.0).0 c.0.1),
      ltb-true b.0.0 high bounds.0,
      leb-true 1 c.0.0 bounds.1,
    )

run_again : (high : ℕ) (run : Run) (rest : List ℕ) → run.entry < high → high < 2 ^ 64 → 1 ≤ run.count → run.count < 2 ^ 64 → NoDigit rest
    → run_at high (run_text run ++ rest) ≡ Some (run, rest)
unfolding run_at
run_again high run rest below small some fits alone =
    ap (run_at high) (run_parts run rest)
    ∙ ap (λ o. o >>= λ entry. number_at entry.1 >>= λ count. found_if (nat_lt entry.0 high && nat_le 1 count.0) (run_made entry count))
    (number_then_again 42 run.entry (decimal run.count ++ rest) (omega arith) refl)
    ∙ ap (λ o. o >>= λ count. found_if (nat_lt run.entry high && nat_le 1 count.0) (record { entry = run.entry; count = count.0 }, count.1)) (number_again run.count rest fits alone)
    ∙ is_found (nat_lt run.entry high && nat_le 1 run.count) (run, rest)
    (and_from (nat_lt run.entry high) (nat_le 1 run.count) (lt-ltb run.entry high below) (le-leb 1 run.count some))

-- the counts of runs fit 64 bits
abbrev pub AreSmall : List Run → Type 0
AreSmall [] = Unit {0}
AreSmall (run ∷ runs) = (run.count < 2 ^ 64) × AreSmall runs

-- the text of runs at the end of a line
abbrev pub runs_text : List Run → List ℕ → List ℕ
runs_text runs rest = flat_map run_text runs ++ 10 ∷ rest

runs_text-cons : (run : Run) (runs : List Run) (rest : List ℕ) → runs_text (run ∷ runs) rest ≡ run_text run ++ runs_text runs rest
runs_text-cons run runs rest = ap (λ l. l ++ 10 ∷ rest) (flat_map-cons run_text run runs) ∙ append_assoc (run_text run) (flat_map run_text runs) (10 ∷ rest)

-- no digit stands first there
pub no_digit_first : (runs : List Run) (rest : List ℕ) → NoDigit (runs_text runs rest)
no_digit_first [] rest = refl
no_digit_first (run ∷ runs) rest =
    let P : List ℕ → Type 0 = NoDigit in
    let here : NoDigit (32 ∷ (decimal run.entry ++ 42 ∷ (decimal run.count ++ runs_text runs rest))) = refl in
    subst P (sym (runs_text-cons run runs rest ∙ run_parts run (runs_text runs rest))) here

abbrev runs_more : ℕ → ℕ → List ℕ → Option (List Run × List ℕ)
runs_more high most text = run_at high text >>= λ run. runs_at high most run.1 >>= λ runs. Some (run.0 ∷ runs.0, runs.1)

-- these runs were read
pub record AreRead (high : ℕ) (text : List ℕ) (runs : List Run) (rest : List ℕ) : Type 0 where
  pub spelled : text ≡ runs_text runs rest
  pub below : NameBelow high runs

-- the runs at the end of a line that were read
pub runs_takes : (high most : ℕ) (text : List ℕ) (runs : List Run) (rest : List ℕ) → runs_at high most text ≡ Some (runs, rest) → AreRead high text runs rest
unfolding runs_at
runs_takes high zero text runs rest h =
    let a = bind_some (word_at (codes "\n") text) (λ rest. Some ([], rest)) (runs, rest) h in
    let none : List Run = [] in
    let pair = same_Some (none, a.0) (runs, rest) a.2 in
    let P : List Run × List ℕ → Type 0 = λ q. AreRead high text q.0 q.1 in
    subst P pair (record { spelled = word_takes (codes "\n") text a.0 a.1; below = tt })
runs_takes high (suc most) text runs rest h = by (λ t rs r is. runs_takes high most t rs r is) (word_at (codes "\n") text) refl h
  where
    by : ((t : List ℕ) (rs : List Run) (r : List ℕ) → runs_at high most t ≡ Some (rs, r) → AreRead high t rs r) → (o : Option (List ℕ)) → word_at (codes "\n") text ≡ o → ended o (runs_more high most text) ≡ Some (runs, rest) → AreRead high text runs rest
    by again (Some later) is found =
        let none : List Run = [] in
        let pair = same_Some (none, later) (runs, rest) found in
        let P : List Run × List ℕ → Type 0 = λ q. AreRead high text q.0 q.1 in
        subst P pair (record { spelled = word_takes (codes "\n") text later is; below = tt })
    by again None is found =
        let a = bind_some (run_at high text) (λ run. runs_at high most run.1 >>= λ runs. Some (run.0 ∷ runs.0, runs.1)) (runs, rest) found in
        let b = bind_some (runs_at high most a.0.1) (λ runs. Some (a.0.0 ∷ runs.0, runs.1)) (runs, rest) a.2 in
        let one = run_takes high text a.0.0 a.0.1 a.1 in let more = again a.0.1 b.0.0 b.0.1 b.1 in
        let made : List Run × List ℕ = (a.0.0 ∷ b.0.0, b.0.1) in
        let pair : made ≡ (runs, rest) = same_Some made (runs, rest) b.2 in
        let P : List Run × List ℕ → Type 0 = λ q. AreRead high text q.0 q.1 in
        subst P pair (record {
          spelled = one.0 ∙ ap (λ l. run_text a.0.0 ++ l) more.spelled ∙ sym (runs_text-cons a.0.0 b.0.0 b.0.1);
          below = (one.1, one.2, more.below);
        })

-- the runs at the end of a line are read
pub runs_again : (high most : ℕ) (runs : List Run) (rest : List ℕ) → length runs ≤ most → NameBelow high runs → high < 2 ^ 64 → AreSmall runs
    → runs_at high most (runs_text runs rest) ≡ Some (runs, rest)
unfolding runs_at
runs_again high zero [] rest few below fits small = refl
runs_again high (suc most) [] rest few below fits small = refl
runs_again high zero (run ∷ runs) rest few below fits small = absurd (omega arith)
runs_again high (suc most) (run ∷ runs) rest few below fits small =
    let shown : runs_text (run ∷ runs) rest ≡ 32 ∷ (decimal run.entry ++ 42 ∷ (decimal run.count ++ runs_text runs rest)) =
    runs_text-cons run runs rest ∙ run_parts run (runs_text runs rest) in
    let no_end : word_at (codes "\n") (runs_text (run ∷ runs) rest) ≡ None = ap (word_at (codes "\n")) shown in
    ap (λ o. ended o (runs_more high most (runs_text (run ∷ runs) rest))) no_end
    ∙ ap (runs_more high most) (runs_text-cons run runs rest)
    ∙ ap (λ o. o >>= λ found. runs_at high most found.1 >>= λ others. Some (found.0 ∷ others.0, others.1))
    (run_again high run (runs_text runs rest) below.0 fits below.1 small.0 (no_digit_first runs rest))
    ∙ ap (λ o. o >>= λ others. Some (run ∷ others.0, others.1)) (runs_again high most runs rest (omega arith) below.2 fits small.1)

abbrev numbers_then : Entry → List ℕ → List ℕ
numbers_then e rest = decimal e.region ++ 32 ∷ (decimal e.work ++ 32 ∷ (decimal e.path ++ rest))

entry_parts : (e : Entry) (rest : List ℕ) → entry_line e ++ rest ≡ numbers_then e (runs_text e.runs rest)
entry_parts e rest = simp append_assoc

abbrev Triple : Type 0
Triple = ℕ × ℕ × ℕ

numbers_takes : (regions : ℕ) (text : List ℕ) (t : Triple) (rest : List ℕ) → numbers_at regions text ≡ Some (t, rest)
    → (text ≡ decimal t.0 ++ 32 ∷ (decimal t.1 ++ 32 ∷ (decimal t.2 ++ rest))) × (t.0 < regions)
unfolding numbers_at
numbers_takes regions text t rest h =
    let made : ℕ × List ℕ → ℕ × List ℕ → ℕ × List ℕ → Triple × List ℕ = λ region work path. ((region.0, work.0, path.0), path.1) in
    let a = bind_some (number_then 32 text) (λ region. number_then 32 region.1 >>= λ work. number_at work.1 >>= λ path.
    found_if (nat_lt region.0 regions) (made region work path)) (t, rest) h in
    let b = bind_some (number_then 32 a.0.1) (λ work. number_at work.1 >>= λ path. found_if (nat_lt a.0.0 regions) (made a.0 work path)) (t, rest) a.2 in
    let c = bind_some (number_at b.0.1) (λ path. found_if (nat_lt a.0.0 regions) (made a.0 b.0 path)) (t, rest) b.2 in
    let d = found_is (nat_lt a.0.0 regions) (made a.0 b.0 c.0) (t, rest) c.2 in
    let P : Triple × List ℕ → Type 0 = λ q. (text ≡ decimal q.0.0 ++ 32 ∷ (decimal q.0.1 ++ 32 ∷ (decimal q.0.2 ++ q.1))) × (q.0.0 < regions) in
    subst P d.1 (
      (number_then_takes 32 text a.0.0 a.0.1 a.1).0
          ∙ ap (λ l. decimal a.0.0 ++ 32 ∷ l) ((number_then_takes 32 a.0.1 b.0.0 b.0.1 b.1).0
          ∙ ap (λ l. decimal b.0.0 ++ 32 ∷ l) (number_takes b.0.1 c.0.0 c.0.1 c.1).0),
      ltb-true a.0.0 regions d.0,
    )

numbers_again : (regions : ℕ) (e : Entry) (rest : List ℕ) → e.region < regions → regions < 2 ^ 64 → e.work < 2 ^ 64 → e.path < 2 ^ 64 → NoDigit rest
    → numbers_at regions (numbers_then e rest) ≡ Some ((e.region, e.work, e.path), rest)
unfolding numbers_at
numbers_again regions e rest below small work path alone =
    ap (λ o. o >>= λ region. number_then 32 region.1 >>= λ work. number_at work.1 >>= λ path. found_if (nat_lt region.0 regions) ((region.0, work.0, path.0), path.1))
    (number_then_again 32 e.region (decimal e.work ++ 32 ∷ (decimal e.path ++ rest)) (omega arith) refl)
    ∙ ap (λ o. o >>= λ work. number_at work.1 >>= λ path. found_if (nat_lt e.region regions) ((e.region, work.0, path.0), path.1))
    (number_then_again 32 e.work (decimal e.path ++ rest) work refl)
    ∙ ap (λ o. o >>= λ path. found_if (nat_lt e.region regions) ((e.region, e.work, path.0), path.1)) (number_again e.path rest path alone)
    ∙ is_found (nat_lt e.region regions) ((e.region, e.work, e.path), rest) (lt-ltb e.region regions below)

-- the line of an entry that was read
pub entry_takes : (regions high : ℕ) (text : List ℕ) (e : Entry) (rest : List ℕ) → entry_at regions high text ≡ Some (e, rest)
    → (text ≡ entry_line e ++ rest) × (e.region < regions) × NameBelow high e.runs
unfolding entry_at
entry_takes regions high text e rest h =
    let made : Triple × List ℕ → List Run × List ℕ → Entry × List ℕ =
    λ numbers runs. (record { region = numbers.0.0; work = numbers.0.1; path = numbers.0.2; runs = runs.0 }, runs.1) in
    let a = bind_some (numbers_at regions text) (λ numbers. runs_at high 1048576 numbers.1 >>= λ runs. Some (made numbers runs)) (e, rest) h in
    let b = bind_some (runs_at high 1048576 a.0.1) (λ runs. Some (made a.0 runs)) (e, rest) a.2 in
    let pair = same_Some (made a.0 b.0) (e, rest) b.2 in
    let numbers = numbers_takes regions text a.0.0 a.0.1 a.1 in let runs = runs_takes high 1048576 a.0.1 b.0.0 b.0.1 b.1 in
    let P : Entry × List ℕ → Type 0 = λ q. (text ≡ entry_line q.0 ++ q.1) × (q.0.region < regions) × NameBelow high q.0.runs in
    subst P pair (
      numbers.0 ∙ ap (λ l. decimal a.0.0.0 ++ 32 ∷ (decimal a.0.0.1 ++ 32 ∷ (decimal a.0.0.2 ++ l))) runs.spelled ∙ sym (entry_parts (made a.0 b.0).0 b.0.1),
      numbers.1,
      runs.below,
    )

-- the line of an entry is read
pub entry_again : (regions high : ℕ) (e : Entry) (rest : List ℕ) → e.region < regions → regions < 2 ^ 64 → e.work < 2 ^ 64 → e.path < 2 ^ 64
    → length e.runs ≤ 1048576 → NameBelow high e.runs → high < 2 ^ 64 → AreSmall e.runs → entry_at regions high (entry_line e ++ rest) ≡ Some (e, rest)
unfolding entry_at
entry_again regions high e rest below small work path few names high_fits counts =
    ap (entry_at regions high) (entry_parts e rest)
    ∙ ap (λ o. o >>= λ numbers. runs_at high 1048576 numbers.1 >>= λ runs.
    Some (record { region = numbers.0.0; work = numbers.0.1; path = numbers.0.2; runs = runs.0 }, runs.1))
    (numbers_again regions e (runs_text e.runs rest) below small work path (no_digit_first e.runs rest))
    ∙ ap (λ o. o >>= λ runs. Some (record { region = e.region; work = e.work; path = e.path; runs = runs.0 }, runs.1))
    (runs_again high 1048576 e.runs rest few names high_fits counts)
