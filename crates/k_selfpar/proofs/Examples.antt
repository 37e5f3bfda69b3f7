-- Worked examples of the definitions, with numbers that were found by hand.
use Rattle.std.proofs.Common.{◌≡◌, ℕ, List, [], ◌∷◌, length, refl}
use Rattle.k_optab.specs.Meaning.{paths, serial_of, works}
use Rattle.k_dict_entries.specs.Trees.{Forest, alone}
use Rattle.k_dict_entries.specs.Entries.{expansion, tree_at}
use Rattle.k_dict_entries.specs.declared.entry.Entry.{Entry}
use Rattle.k_dict_entries.specs.declared.entry.Run.{Run}
use Rattle.k_selfpar.specs.Contexts.{inner_forest, chosen, count_in}
use Rattle.k_selfpar.specs.Rows.{of_region}
use Rattle.k_selfpar.specs.Sums.{one, outer, outer_paths, outer_works, serial_in}

abbrev entry : ℕ → ℕ → ℕ → List Run → Entry
entry region work path runs = record { region = region; work = work; path = path; runs = runs }

abbrev run : ℕ → ℕ → Run
run n count = record { entry = n; count = count }

-- a loop of six turns, of which every second one does more, in a function
abbrev odd_sum : List Entry
odd_sum = entry 2 2 2 [] ∷ entry 2 3 3 [] ∷ entry 1 35 4 (run 0 3 ∷ run 1 3 ∷ []) ∷ entry 0 35 4 (run 2 1 ∷ []) ∷ []

-- the loop's self-parallelism is 35/4: its turns' paths are 15, and its own work 20
loop_serial : serial_of 1 (expansion odd_sum 3) ≡ 35
loop_serial = refl

loop_path : paths (of_region 1 (expansion odd_sum 3)) ≡ 4
loop_path = refl

-- that of the turns is 15/15
turns_count : length (of_region 2 (expansion odd_sum 3)) ≡ 6
turns_count = refl

turns_serial : serial_of 2 (expansion odd_sum 3) ≡ 15
turns_serial = refl

turns_path : paths (of_region 2 (expansion odd_sum 3)) ≡ 15
turns_path = refl

-- the loop's context has six turns
loop_turns : count_in 2 (inner_forest (chosen 1 (inner_forest (alone (tree_at odd_sum 3))))) ≡ 6
loop_turns = refl

-- a function that calls itself, with its two outermost calls
abbrev recursion : List Entry
recursion = entry 0 158 119 [] ∷ entry 0 162 122 (run 0 1 ∷ []) ∷ entry 1 163 122 (run 1 1 ∷ []) ∷ []

-- the function has one row, of both calls: its self-parallelism is 281/241
calls_count : length (of_region 0 (expansion recursion 2)) ≡ 2
calls_count = refl

calls_work : works (of_region 0 (expansion recursion 2)) ≡ 320
calls_work = refl

calls_serial : serial_of 0 (expansion recursion 2) ≡ 281
calls_serial = refl

calls_path : paths (of_region 0 (expansion recursion 2)) ≡ 241
calls_path = refl

-- and two contexts: that of the outer call, which stands in main's, and that of the inner one
abbrev outer_call : Forest
outer_call = chosen 0 (inner_forest (alone (tree_at recursion 2)))

abbrev inner_call : Forest
inner_call = chosen 0 (inner_forest outer_call)

outer_count : outer one outer_call ≡ 1
outer_count = refl

outer_work : outer_works outer_call ≡ 162
outer_work = refl

outer_serial : outer serial_in outer_call ≡ 123
outer_serial = refl

inner_count : outer one inner_call ≡ 1
inner_count = refl

inner_work : outer_works inner_call ≡ 158
inner_work = refl

inner_path : outer_paths inner_call ≡ 119
inner_path = refl
