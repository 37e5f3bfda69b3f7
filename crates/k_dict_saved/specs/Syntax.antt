-- For contracts between crates: nobody has to believe it.
-- How the lines are read, by structure. What is read so was spelled so, and what is spelled so is read (proofs/Spelled).
use Rattle.std.specs.Prelude.{ℕ, zero, suc, ◌≡◌, Bool, ◌&&◌, nat_le, nat_lt, List, [], ◌∷◌, Option, Some, None, if◌then◌else◌, codes, Result, Ok, Err}
use Rattle.k_num.specs.declared.place.Place.{Place}
use Rattle.k_optab.specs.declared.region.Region.{Region}
use Rattle.k_optab.specs.declared.region.RegionKind.{RegionKind}
use Rattle.k_optab.specs.declared.region.RegionKind.TheVariants.{Func, Loop, Body}
use Rattle.k_scan.specs.Names.{name_at}
use Rattle.k_scan.specs.Numbers.{number_at}
use Rattle.k_scan.specs.Pieces.{word_at}
use Rattle.k_dict_entries.specs.declared.entry.Entry.{Entry}
use Rattle.k_dict_entries.specs.declared.entry.Run.{Run}
use Rattle.k_dict_saved.specs.declared.reading.stop.Stop.{Stop}
use Rattle.k_dict_saved.specs.declared.reading.stop.Stop.TheVariants as stops

infixl 10 ◌>>=◌
-- one piece behind another
abbrev pub ◌>>=◌ : {A B : Type 0} → Option A → (A → Option B) → Option B
None >>= f = None
(Some x) >>= f = f x

-- what a call read, unless memory ran out
abbrev pub Gives : {X Y : Type 0} → (X → Y) → Result X Stop → Option Y → Type 0
Gives view (Ok x) read = read ≡ Some (view x)
Gives view (Err stops.Wrong) read = read ≡ None
Gives view (Err stops.Memory) read = Unit {0}

-- a value, where a test passes
abbrev pub found_if : {A : Type 0} → Bool → A → Option A
found_if test x = if test then Some x else None

-- a number and a byte behind it
unfoldable pub number_then : ℕ → List ℕ → Option (ℕ × List ℕ)
number_then byte text = number_at text >>= λ number. word_at (byte ∷ []) number.1 >>= λ rest. Some (number.0, rest)

-- the line of a name and a number from low to high
unfoldable pub named_at : List ℕ → ℕ → ℕ → List ℕ → Option (ℕ × List ℕ)
named_at name low high text =
    word_at name text >>= λ rest. number_then 10 rest >>= λ number. found_if (nat_le low number.0 && nat_le number.0 high) number

-- the kind whose word was found
abbrev pub first_kind : Option (List ℕ) → Option (List ℕ) → Option (List ℕ) → Option (RegionKind × List ℕ)
first_kind (Some rest) second third = Some (Func, rest)
first_kind None (Some rest) third = Some (Loop, rest)
first_kind None None (Some rest) = Some (Body, rest)
first_kind None None None = None

-- a kind of region
unfoldable pub kind_at : List ℕ → Option (RegionKind × List ℕ)
kind_at text = first_kind (word_at (codes "func ") text) (word_at (codes "loop ") text) (word_at (codes "body ") text)

-- a line or a column, and the byte behind it
unfoldable pub part_at : ℕ → List ℕ → Option (ℕ × List ℕ)
part_at byte text = number_then byte text >>= λ number. found_if (nat_le 1 number.0 && nat_le number.0 1048577) number

-- a place at the end of a line
unfoldable pub place_at : List ℕ → Option (Place × List ℕ)
place_at text = part_at 58 text >>= λ line. part_at 10 line.1 >>= λ column. Some (record { line = line.0; column = column.0 }, column.1)

-- a region of these parts
abbrev pub region_of : RegionKind → List ℕ → Place → Region
region_of kind func place = record { kind = kind; func = func; place = place }

-- the line of a region
unfoldable pub region_at : List ℕ → Option (Region × List ℕ)
region_at text =
    kind_at text >>= λ kind. name_at kind.1 >>= λ name. word_at (codes " ") name.1 >>= λ rest. place_at rest >>= λ place.
    Some (region_of kind.0 name.0 place.0, place.1)

-- a run of entries below a number
unfoldable pub run_at : ℕ → List ℕ → Option (Run × List ℕ)
run_at high text =
    word_at (codes " ") text >>= λ rest. number_then 42 rest >>= λ entry. number_at entry.1 >>= λ count.
    found_if (nat_lt entry.0 high && nat_le 1 count.0) (record { entry = entry.0; count = count.0 }, count.1)

-- the end of a line, or what else stands there
abbrev pub ended : Option (List ℕ) → Option (List Run × List ℕ) → Option (List Run × List ℕ)
ended (Some rest) more = Some ([], rest)
ended None more = more

-- the runs at the end of a line, at most so many
unfoldable pub runs_at : ℕ → ℕ → List ℕ → Option (List Run × List ℕ)
runs_at high zero text = word_at (codes "\n") text >>= λ rest. Some ([], rest)
runs_at high (suc most) text =
    ended (word_at (codes "\n") text) (run_at high text >>= λ run. runs_at high most run.1 >>= λ runs. Some (run.0 ∷ runs.0, runs.1))

-- the numbers of an entry
unfoldable pub numbers_at : ℕ → List ℕ → Option ((ℕ × ℕ × ℕ) × List ℕ)
numbers_at regions text =
    number_then 32 text >>= λ region. number_then 32 region.1 >>= λ work. number_at work.1 >>= λ path.
    found_if (nat_lt region.0 regions) ((region.0, work.0, path.0), path.1)

-- the line of an entry, where there are so many regions and so many entries before it
unfoldable pub entry_at : ℕ → ℕ → List ℕ → Option (Entry × List ℕ)
entry_at regions high text =
    numbers_at regions text >>= λ numbers. runs_at high 1048576 numbers.1 >>= λ runs.
    Some (record { region = numbers.0.0; work = numbers.0.1; path = numbers.0.2; runs = runs.0 }, runs.1)
