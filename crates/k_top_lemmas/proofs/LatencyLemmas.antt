-- Latencies are at most 10,000: those of a table, and the standard ones.
use Rattle.std.proofs.Common.{ℕ, ◌≡◌, ◌≤◌, Bool, true, false, ◌&&◌, if◌then◌else◌, is_some, ℤ, pos, negsuc, unsigned_abs, arith, refl, ap, sym, subst, ◌∙◌, List, [], ◌∷◌, ◌++◌, map, Option, Some, None, Result, Ok, Err}
use Rattle.std.specs.Prelude.{IfSome, int_le, option_and_then, option_map, option_to_list, unwrap_or}
use Rattle.std.specs.declared.cmp.Ordering.{Ordering}
use Rattle.std.specs.declared.cmp.Ordering.TheVariants.{Less, Equal, Greater}
use Rattle.std.specs.Ordering.{match_ordering, nat_cmp}
use Rattle.std.specs.Cmp.Lexicographic.{slice_cmp}
use Rattle.std.proofs.lemmas.Bool.Decides.{nat_tests}
use Rattle.std.proofs.lemmas.Int.{ints}
use Rattle.toml.specs.Data.{Data, Members, as_integer, get_member, member, no_members}
use Rattle.k_optab.specs.declared.class.Class.{Class}
use Rattle.k_optab.specs.declared.class.Class.TheVariants as class
use Rattle.k_optab.specs.declared.toml_table.TableFault.{TableFault}
use Rattle.k_optab.specs.declared.toml_table.TableFault.TheVariants.{OutOfRange, UnknownKey}
use Rattle.k_optab.specs.Latencies.{class_name, classes, latency, standard_latencies, standard_latency}
use Rattle.k_optab.proofs.Classes.{latency-standard}
use Rattle.k_optab.specs.TomlTable.{IsTold, document_faults, is_class_name, latency_in, number_fault, number_in, pair_fault, table_of}
use Rattle.k_evaluation.specs.Laws.{AreAtMost}

-- a number of a table
abbrev IsSmall : ℤ → Type 0
IsSmall z = unsigned_abs z ≤ 10000

in_range : (z : ℤ) → (int_le (pos 0) z && int_le z (pos 10000)) ≡ true → IsSmall z
in_range (pos n) is = grind (arith, ints, nat_tests, is)
in_range (negsuc n) is = grind (arith, ints, nat_tests, is)

by_range : (b : Bool) (key : List ℕ) (z : ℤ) → (b ≡ true → IsSmall z) → (if b then None else Some (OutOfRange key z)) ≡ None → IsSmall z
by_range true key z small none = small refl
by_range false key z small none = absurd (let wrong : true ≡ false = ap is_some none in cc)

number_small : (key : List ℕ) (number : Option ℤ) → number_fault key number ≡ None → IfSome number IsSmall
number_small key None none = tt
number_small key (Some z) none = by_range (int_le (pos 0) z && int_le z (pos 10000)) key z (in_range z) none

by_name : (b : Bool) (key : List ℕ) (number : Option ℤ) → (if b then number_fault key number else Some (UnknownKey key)) ≡ None → IfSome number IsSmall
by_name true key number none = number_small key number none
by_name false key number none = absurd (let wrong : true ≡ false = ap is_some none in cc)

-- a key without a fault has a small number, or none
pair_small : (key : List ℕ) (value : Data) → pair_fault key value ≡ None → IfSome (as_integer value) IsSmall
pair_small key value none = by_name (is_class_name key) key (as_integer value) none

-- no fault of a key, and none behind it
no_fault : (fault : Option TableFault) (later : List TableFault) → option_to_list fault ++ later ≡ [] → (fault ≡ None) × (later ≡ [])
no_fault None later none = (refl, none)
no_fault (Some fault) later none = cc

at_key : (o : Ordering) (before at behind : Option Data) → IfSome (option_and_then as_integer before) IsSmall → IfSome (option_and_then as_integer at) IsSmall
    → IfSome (option_and_then as_integer behind) IsSmall → IfSome (option_and_then as_integer (match_ordering o before at behind)) IsSmall
at_key Less before at behind one two three = one
at_key Equal before at behind one two three = two
at_key Greater before at behind one two three = three

-- each number of a document without faults is small
numbers_small : (document : Members) → document_faults document ≡ [] → (key : List ℕ) → IfSome (number_in document key) IsSmall
numbers_small no_members none key = tt
numbers_small (member first value rest) none key =
    let parts = no_fault (pair_fault first value) (document_faults rest) none in
    let later : IfSome (number_in rest key) IsSmall = numbers_small rest parts.1 key in
    at_key (slice_cmp nat_cmp key first) (get_member key rest) (Some value) (get_member key rest) later (pair_small first value parts.0) later

standard_small : (c : Class) → standard_latency c ≤ 10000
standard_small class.Move = omega arith
standard_small class.Conv = omega arith
standard_small class.Simple = omega arith
standard_small class.Mul = omega arith
standard_small class.Div = omega arith
standard_small class.Load = omega arith
standard_small class.Store = omega arith
standard_small class.Test = omega arith
standard_small class.Call = omega arith
standard_small class.Input = omega arith
standard_small class.Output = omega arith
standard_small class.Select = omega arith

-- a number, or else the standard one
either_small : (number : Option ℤ) (other : ℕ) → IfSome number IsSmall → other ≤ 10000 → unwrap_or (option_map unsigned_abs number) other ≤ 10000
either_small None other small le = le
either_small (Some z) other small le = small

-- a table over the classes has at each class what is made of it
mapped : (f : Class → ℕ) (c : Class) → latency (map f classes) c ≡ f c
mapped f class.Move = refl
mapped f class.Conv = refl
mapped f class.Simple = refl
mapped f class.Mul = refl
mapped f class.Div = refl
mapped f class.Load = refl
mapped f class.Store = refl
mapped f class.Test = refl
mapped f class.Call = refl
mapped f class.Input = refl
mapped f class.Output = refl
mapped f class.Select = refl

-- latencies, or something in their place
abbrev latencies_in : Result (List ℕ) TableFault → List ℕ
latencies_in (Ok latencies) = latencies
latencies_in (Err fault) = []

-- whether there are latencies
abbrev gives_some : Result (List ℕ) TableFault → Bool
gives_some (Ok latencies) = true
gives_some (Err fault) = false

by_faults : (document : Members) (faults : List TableFault) (latencies : List ℕ) → document_faults document ≡ faults → table_of document faults ≡ Ok latencies
    → AreAtMost 10000 latencies
by_faults document (fault ∷ faults) latencies is gives = absurd (let wrong : false ≡ true = ap gives_some gives in cc)
by_faults document [] latencies none gives = λ c.
    let here : latency latencies c ≡ latency_in document c = ap (λ t. latency (latencies_in t) c) (sym gives) ∙ mapped (latency_in document) c in
    subst (λ n. n ≤ 10000) (sym here)
    (either_small (number_in document (class_name c)) (standard_latency c) (numbers_small document none (class_name c)) (standard_small c))

-- THE LATENCIES of a table
pub told_bounded : (bytes latencies : List ℕ) → IsTold bytes (Ok latencies) → AreAtMost 10000 latencies
told_bounded bytes latencies (document, is, order, gives) = by_faults document (document_faults document) latencies refl gives

-- THE STANDARD LATENCIES
pub standard_bounded : (latencies : List ℕ) → latencies ≡ standard_latencies → AreAtMost 10000 latencies
standard_bounded latencies is = λ c.
    subst (λ n. n ≤ 10000) (sym (ap (λ t. latency t c) is ∙ latency-standard c)) (standard_small c)
