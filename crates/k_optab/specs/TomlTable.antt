-- Believed with the theorem on the top call.
-- *Table of latencies*: what a TOML document says of the latencies, or what is wrong with its first wrong key.
use Rattle.std.specs.Prelude.{ℕ, ◌≡◌, ◌++◌, Bool, ◌&&◌, if◌then◌else◌, IsTrue, IsUtf8, List, [], ◌∷◌, map, nat_eq, Option, Some, None, option_map, option_and_then, option_to_list, Result, Ok, Err, ℤ, pos, int_le, unsigned_abs, unwrap_or}
use Rattle.std.specs.List.{list_any}
use Rattle.std.specs.Cmp.Lexicographic.{pointwise}
use Rattle.toml.specs.Data.{Data, Members, no_members, member, as_integer, get_member, is_before}
use Rattle.toml.specs.Parse.{parse_document}
use Rattle.k_optab.specs.declared.class.Class.{Class}
use Rattle.k_optab.specs.declared.toml_table.TableFault.{TableFault}
use Rattle.k_optab.specs.declared.toml_table.TableFault.TheVariants.{NotToml, UnknownKey, NotWhole, OutOfRange, Memory}
use Rattle.k_optab.specs.Latencies.{classes, class_name, standard_latency}

-- the bytes are a TOML document with these keys and values
abbrev pub IsDocument : List ℕ → Members → Type 0
IsDocument bytes document = IsUtf8 bytes × (parse_document bytes ≡ Some document)

-- the keys stand in byte order, each once
abbrev pub AreInKeyOrder : Members → Type 0
AreInKeyOrder no_members = Unit {0}
AreInKeyOrder (member key value rest) = IsTrue (is_before key rest) × AreInKeyOrder rest

-- the key is the name of a class
abbrev pub is_class_name : List ℕ → Bool
is_class_name key = list_any (λ class. pointwise nat_eq key (class_name class)) classes

-- what is wrong with the number of a key
abbrev pub number_fault : List ℕ → Option ℤ → Option TableFault
number_fault key None = Some (NotWhole key)
number_fault key (Some number) = if int_le (pos 0) number && int_le number (pos 10000) then None else Some (OutOfRange key number)

-- what is wrong with a key and its value
abbrev pub pair_fault : List ℕ → Data → Option TableFault
pair_fault key value = if is_class_name key then number_fault key (as_integer value) else Some (UnknownKey key)

-- all that is wrong with a document, in the order of its keys
abbrev pub document_faults : Members → List TableFault
document_faults no_members = []
document_faults (member key value rest) = option_to_list (pair_fault key value) ++ document_faults rest

-- the integer at a key of a document
abbrev pub number_in : Members → List ℕ → Option ℤ
number_in document key = option_and_then as_integer (get_member key document)

-- a class's latency: the number at its name, or else the standard one
abbrev pub latency_in : Members → Class → ℕ
latency_in document class = unwrap_or (option_map unsigned_abs (number_in document (class_name class))) (standard_latency class)

-- the latencies of a document, or its first fault
abbrev pub table_of : Members → List TableFault → Result (List ℕ) TableFault
table_of document [] = Ok (map (latency_in document) classes)
table_of document (fault ∷ faults) = Err fault

-- some document of the bytes gives this answer
abbrev pub IsTold : List ℕ → Result (List ℕ) TableFault → Type 0
IsTold bytes answer = (document : Members) × IsDocument bytes document × AreInKeyOrder document × (table_of document (document_faults document) ≡ answer)

-- why the bytes are refused: they are no document, or their document has this fault first
abbrev pub IsRefused : List ℕ → TableFault → Type 0
IsRefused bytes NotToml = (document : Members) → ¬ IsDocument bytes document
IsRefused bytes (UnknownKey key) = IsTold bytes (Err (UnknownKey key))
IsRefused bytes (NotWhole key) = IsTold bytes (Err (NotWhole key))
IsRefused bytes (OutOfRange key number) = IsTold bytes (Err (OutOfRange key number))
IsRefused bytes Memory = Unit {0}

-- the fault is this one of a list, or want of memory
abbrev pub IsFault : List TableFault → TableFault → Type 0
IsFault faults Memory = Unit {0}
IsFault faults NotToml = ⊥
IsFault faults (UnknownKey key) = (rest : List TableFault) × (faults ≡ UnknownKey key ∷ rest)
IsFault faults (NotWhole key) = (rest : List TableFault) × (faults ≡ NotWhole key ∷ rest)
IsFault faults (OutOfRange key number) = (rest : List TableFault) × (faults ≡ OutOfRange key number ∷ rest)
