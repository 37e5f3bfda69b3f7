-- Believed with a public law.
-- The entries of two dictionaries together.
use Rattle.std.specs.Prelude.{ℕ, ◌<◌, ◌≡◌, List, [], ◌∷◌, ◌++◌, length, slice_index_or, Some, Result, Ok, Err}
use Rattle.k_dict_entries.specs.Dictionary.{refusal}
use Rattle.k_dict_entries.specs.Gathering.{number_of, with_entry}
use Rattle.k_dict_entries.specs.Tallies.{counted}
use Rattle.k_dict_entries.specs.declared.dict.DictFault.{DictFault}
use Rattle.k_dict_entries.specs.declared.dict.DictFault.TheVariants.{Full, Memory}
use Rattle.k_dict_entries.specs.declared.entry.Entry.{Entry}
use Rattle.k_dict_entries.specs.declared.entry.Run.{Run}
use Rattle.k_dict_saved.specs.Migration.{renumbered_entry}

-- entries, and the numbers that those of another dictionary have among them so far
pub record Joined : Type 0 where
  pub dict : List Entry
  pub numbers : List ℕ

-- with one more entry of the other dictionary: it is added where it is not there
abbrev pub with_one : Joined → Entry → Joined
with_one j e = record {
  dict = with_entry j.dict (renumbered_entry j.numbers e);
  numbers = j.numbers ++ number_of j.dict (renumbered_entry j.numbers e) ∷ [];
}

-- with these entries of the other dictionary
abbrev pub with_all : Joined → List Entry → Joined
with_all j [] = j
with_all j (e ∷ entries) = with_all (with_one j e) entries

-- the entries of two dictionaries: those of the one, and behind them those of the other that are not there
abbrev pub joined : List Entry → List Entry → Joined
joined one other = with_all (record { dict = one; numbers = [] }) other

-- children counted with others
abbrev pub counted_all : List Run → List Run → List Run
counted_all [] so_far = so_far
counted_all (run ∷ runs) so_far = counted_all runs (counted run.entry run.count so_far)

-- these numbers are those of entries
abbrev pub AreKnown : ℕ → List ℕ → Type 0
AreKnown high numbers = (n : ℕ) → n < length numbers → slice_index_or numbers n 0 < high

-- entries, and maybe others behind them
abbrev pub GoesOn : List Entry → List Entry → Type 0
GoesOn old new = (more : List Entry) × (new ≡ old ++ more)

-- what adding one entry answers
abbrev pub JoinsOne : List Entry → List ℕ → Entry → Result ℕ DictFault → List Entry → Type 0
JoinsOne old numbers e (Ok n) new = (new ≡ with_entry old (renumbered_entry numbers e)) × (n ≡ number_of old (renumbered_entry numbers e))
JoinsOne old numbers e (Err (Full which)) new = (refusal 0 0 (with_entry old (renumbered_entry numbers e)) ≡ Some which) × (new ≡ old)
JoinsOne old numbers e (Err Memory) new = new ≡ old

-- what adding all entries answers
abbrev pub JoinsAll : List Entry → List Entry → Result (List ℕ) DictFault → List Entry → Type 0
JoinsAll old entries (Ok numbers) new =
    (joined old entries ≡ record { dict = new; numbers = numbers }) × AreKnown (length new) numbers × (length numbers ≡ length entries) × GoesOn old new
JoinsAll old entries (Err (Full which)) new = (refusal 0 0 (joined old entries).dict ≡ Some which) × GoesOn old new
JoinsAll old entries (Err Memory) new = GoesOn old new
