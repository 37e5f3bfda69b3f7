-- Believed with the theorem on the top call.
-- *Options*: what a word is by itself behind a command's file.
use Rattle.std.specs.Prelude.{ℕ, Bool, true, false, ◌==◌, ◌||◌, nat_eq, if◌then◌else◌, List, [], ◌∷◌, length, drop, codes, Option, Some, None, is_some, option_map, option_and_then}
use Rattle.std.specs.List.{starts_with}
use Rattle.std.specs.Cmp.Lexicographic.{pointwise}
use Rattle.k_words.specs.declared.option.Command.{Command}
use Rattle.k_words.specs.declared.option.Command.TheVariants.{Run, Graph, Carried, Replay, Page, Annotate, Show, Merge, Check, Demo}
use Rattle.k_words.specs.declared.option.Setting.{Setting}
use Rattle.k_words.specs.declared.option.Setting.TheVariants.{Steps, Depth, Latency, Dict, Save, Storage, Strict, Workers, Seed, Json, Csv}
use Rattle.k_words.specs.Number.{number_within}

-- what follows a text at the front of a word
unfoldable pub after : List ℕ → List ℕ → Option (List ℕ)
after front word = if starts_with nat_eq word front then Some (drop (length front) word) else None

-- a file as an option's value, where it has a name
abbrev pub named : Setting → List ℕ → Option (Setting × List ℕ)
named setting value = if length value == 0 then None else Some (setting, value)

-- the one, or else the other
abbrev pub or_else : {A : Type 0} → Option A → Option A → Option A
or_else None other = other
or_else (Some one) other = Some one

-- the option that begins with this text
abbrev pub begun_with : List ℕ → Setting → List ℕ → Option (Setting × List ℕ)
begun_with front setting word = option_map (λ value. (setting, value)) (after front word)

-- which option without a value a word is, whatever the command
abbrev pub flag_of : List ℕ → Option Setting
flag_of word =
    if pointwise nat_eq word (codes "--dict") then Some Dict
    else if pointwise nat_eq word (codes "--storage") then Some Storage
    else if pointwise nat_eq word (codes "--strict") then Some Strict
    else if pointwise nat_eq word (codes "--json") then Some Json
    else if pointwise nat_eq word (codes "--csv") then Some Csv else None

-- which option a word is, whatever the command, and its value
abbrev pub written_as : List ℕ → Option (Setting × List ℕ)
written_as word =
    if is_some (after (codes "--steps=") word) then begun_with (codes "--steps=") Steps word
    else if is_some (after (codes "--depth=") word) then begun_with (codes "--depth=") Depth word
    else if is_some (after (codes "--latency=") word) then option_and_then (named Latency) (after (codes "--latency=") word)
    else if is_some (after (codes "--save=") word) then option_and_then (named Save) (after (codes "--save=") word)
    else if is_some (after (codes "--workers=") word) then begun_with (codes "--workers=") Workers word
    else if is_some (after (codes "--seed=") word) then begun_with (codes "--seed=") Seed word
    else option_map (λ setting. (setting, [])) (flag_of word)

-- a number for each option, which tells them apart
abbrev pub rank : Setting → ℕ
rank Steps = 0
rank Depth = 1
rank Latency = 2
rank Dict = 3
rank Save = 4
rank Storage = 5
rank Strict = 6
rank Workers = 7
rank Seed = 8
rank Json = 9
rank Csv = 10

-- the options of each command
abbrev pub options : Command → List Setting
options Run = Steps ∷ Depth ∷ Latency ∷ Dict ∷ Save ∷ []
options Graph = Steps ∷ Depth ∷ Latency ∷ []
options Carried = Steps ∷ Depth ∷ Latency ∷ Storage ∷ []
options Replay = Steps ∷ Depth ∷ Latency ∷ Workers ∷ Seed ∷ []
options Page = Steps ∷ Depth ∷ Latency ∷ Dict ∷ []
options Annotate = Steps ∷ Depth ∷ Latency ∷ Strict ∷ []
options Show = Dict ∷ Json ∷ Csv ∷ []
options Merge = []
options Check = []
options Demo = []

-- this option is among those
abbrev pub has_setting : List Setting → Setting → Bool
has_setting [] setting = false
has_setting (o ∷ others) setting = rank setting == rank o || has_setting others setting

-- the command has this option
abbrev pub is_taken : Command → Setting → Bool
is_taken command setting = has_setting (options command) setting

-- an option that the command takes
abbrev pub taken_by : Command → (Setting × List ℕ) → Option (Setting × List ℕ)
taken_by command o = if is_taken command o.0 then Some o else None

-- which option of a command a word is, and its value
unfoldable pub option_of : Command → List ℕ → Option (Setting × List ℕ)
option_of command word = option_and_then (taken_by command) (written_as word)

-- how many operations a run may make at most
abbrev pub most_steps : Command → ℕ
most_steps Run = 1000000000
most_steps Graph = 200000
most_steps Carried = 1000000000
most_steps Replay = 200000
most_steps Page = 1000000000
most_steps Annotate = 1000000000
most_steps Show = 1000000000
most_steps Merge = 1000000000
most_steps Check = 1000000000
most_steps Demo = 1000000000

-- the greatest depth
abbrev pub most_depth : ℕ
most_depth = 32

-- the greatest number of workers
abbrev pub most_workers : ℕ
most_workers = 16

-- the greatest number that an order is drawn from: the greatest of 64 bits
abbrev pub most_seed : ℕ
most_seed = 18446744073709551615

-- how many operations `run`, `carried`, `page` and `annotate` make at most where they are not told, and `demo`
abbrev pub standard_steps : ℕ
standard_steps = 100000000

-- below which depth instances are tracked where a command is not told
abbrev pub standard_depth : ℕ
standard_depth = 24

-- how many workers there are where `replay` is not told
abbrev pub standard_workers : ℕ
standard_workers = 4

-- the number that their order is drawn from where it is not told
abbrev pub standard_seed : ℕ
standard_seed = 1

-- the value is one that the option may have
abbrev pub is_value : Command → Setting → List ℕ → Bool
is_value command Steps value = is_some (number_within 1 (most_steps command) value)
is_value command Depth value = is_some (number_within 1 most_depth value)
is_value command Latency value = true
is_value command Dict value = true
is_value command Save value = true
is_value command Storage value = true
is_value command Strict value = true
is_value command Workers value = is_some (number_within 1 most_workers value)
is_value command Seed value = is_some (number_within 0 most_seed value)
is_value command Json value = true
is_value command Csv value = true
