-- Believed with a public law.
-- What holds of dictionaries and their trees: the statements of the laws.
use Rattle.std.specs.Prelude.{ℕ, ◌+◌, ◌<◌, ◌≡◌, List, length}
use Rattle.k_optab.specs.declared.node.Node.{Node}
use Rattle.k_dict_entries.specs.Trees.{IsInOrder, Tree, SameShape, list_of}
use Rattle.k_dict_entries.specs.Dictionary.{IsDictionary}
use Rattle.k_dict_entries.specs.Entries.{expansion}
use Rattle.k_dict_entries.specs.declared.entry.Entry.{Entry}

-- two lists of nodes are equal up to the order of siblings
abbrev pub AreAlike : List Node → List Node → Type 0
AreAlike one other = (s t : Tree) × (one ≡ list_of s) × (other ≡ list_of t) × SameShape s t

-- a list of nodes in order of entry has a dictionary
abbrev pub DictionaryExists : Type 0
DictionaryExists = (nodes : List Node) → IsInOrder nodes → (entries : List Entry) × IsDictionary nodes entries

-- and no other
abbrev pub DictionaryIsUnique : Type 0
DictionaryIsUnique = (nodes : List Node) (one other : List Entry) → IsDictionary nodes one → IsDictionary nodes other → one ≡ other

-- the root's entry is the last, and stands for the tree up to the order of siblings
abbrev pub DictionaryExpands : Type 0
DictionaryExpands = (nodes : List Node) (entries : List Entry) → IsDictionary nodes entries
    → (root : ℕ) × (length entries ≡ root + 1) × AreAlike (expansion entries root) nodes

-- being equal up to the order of siblings goes both ways
abbrev pub AlikeBothWays : Type 0
AlikeBothWays = (one other : List Node) → AreAlike one other → AreAlike other one

-- and on
abbrev pub AlikeGoesOn : Type 0
AlikeGoesOn = (one other third : List Node) → AreAlike one other → AreAlike other third → AreAlike one third

-- each entry of the one list stands for the same tree as one of the other, up to the order of siblings
abbrev pub HaveLikes : List Entry → List Entry → Type 0
HaveLikes one other = (n : ℕ) → n < length one → (m : ℕ) × (m < length other) × AreAlike (expansion one n) (expansion other m)

-- what a dictionary expands to has a dictionary of the same entries, up to their numbers: those may change, since the expansion
-- has its children in another order
abbrev pub GatheredAgain : Type 0
GatheredAgain = (nodes : List Node) (entries : List Entry) (root : ℕ) (list : List Entry) → IsDictionary nodes entries → length entries ≡ root + 1
    → IsDictionary (expansion entries root) list → HaveLikes entries list × HaveLikes list entries
