-- Believed with the theorem on the top call.
-- *Options of a command*: what the words behind its file give, and what is wrong with each of them.
use Rattle.std.specs.Prelude.{ℕ, ◌+◌, ◌<◌, ◌≡◌, ◌==◌, ◌||◌, Bool, true, false, if◌then◌else◌, List, [], ◌∷◌, take, map, slice_get, Option, Some, None, is_some, option_map, option_and_then, string_bytes, String}
use Rattle.std.specs.declared.alloc.Global.{Global}
use Rattle.k_words.specs.declared.option.Command.{Command}
use Rattle.k_words.specs.declared.option.Setting.{Setting}
use Rattle.k_words.specs.declared.option.Setting.TheVariants.{Steps, Depth, Latency, Dict, Save, Storage, Strict, Workers, Seed, Json, Csv}
use Rattle.k_words.specs.declared.settings.Settings.{Settings}
use Rattle.k_words.specs.declared.usage.Usage.{Usage}
use Rattle.k_words.specs.declared.usage.Usage.TheVariants.{UnknownWord, BadNumber, Twice}
use Rattle.k_words.specs.Number.{number_within}
use Rattle.k_words.specs.Setting.{is_value, most_depth, most_seed, most_steps, most_workers, option_of, or_else, rank}

-- what the options of a command are
pub record Given : Type 0 where
  pub steps : Option ℕ
  pub depth : Option ℕ
  pub latency : Option (List ℕ)
  pub dict : Bool
  pub save : Option (List ℕ)
  pub storage : Bool
  pub strict : Bool
  pub workers : Option ℕ
  pub seed : Option ℕ
  pub json : Bool
  pub csv : Bool

-- the settings of the code as such
abbrev pub seen : Settings → Given
seen s = record {
  steps = s.steps;
  depth = s.depth;
  latency = option_map (λ file. file.now) s.latency;
  dict = s.dict;
  save = option_map (λ file. file.now) s.save;
  storage = s.storage;
  strict = s.strict;
  workers = s.workers;
  seed = s.seed;
  json = s.json;
  csv = s.csv;
}

-- the words as lists of bytes
abbrev pub seen_words : List (String Global) → List (List ℕ)
seen_words words = map string_bytes words

-- the value, where it is that of this option
abbrev pub value_in : Setting → Option (Setting × List ℕ) → Option (List ℕ)
value_in setting None = None
value_in setting (Some o) = if rank setting == rank o.0 then Some o.1 else None

-- the value that a word gives an option
abbrev pub text_in : Command → Setting → List ℕ → Option (List ℕ)
text_in command setting word = value_in setting (option_of command word)

-- the number of operations that a word gives
abbrev pub steps_in : Command → List ℕ → Option ℕ
steps_in command word = option_and_then (number_within 1 (most_steps command)) (text_in command Steps word)

-- the depth that a word gives
abbrev pub depth_in : Command → List ℕ → Option ℕ
depth_in command word = option_and_then (number_within 1 most_depth) (text_in command Depth word)

-- the number of workers that a word gives
abbrev pub workers_in : Command → List ℕ → Option ℕ
workers_in command word = option_and_then (number_within 1 most_workers) (text_in command Workers word)

-- the number that a word gives for the order to be drawn from
abbrev pub seed_in : Command → List ℕ → Option ℕ
seed_in command word = option_and_then (number_within 0 most_seed) (text_in command Seed word)

-- what the first word gives that gives anything
abbrev pub first_of : {A : Type 0} → (List ℕ → Option A) → List (List ℕ) → Option A
first_of f [] = None
first_of f (word ∷ words) = or_else (f word) (first_of f words)

-- what words give
abbrev pub given : Command → List (List ℕ) → Given
given command words = record {
  steps = first_of (steps_in command) words;
  depth = first_of (depth_in command) words;
  latency = first_of (text_in command Latency) words;
  dict = is_some (first_of (text_in command Dict) words);
  save = first_of (text_in command Save) words;
  storage = is_some (first_of (text_in command Storage) words);
  strict = is_some (first_of (text_in command Strict) words);
  workers = first_of (workers_in command) words;
  seed = first_of (seed_in command) words;
  json = is_some (first_of (text_in command Json) words);
  csv = is_some (first_of (text_in command Csv) words);
}

-- an option was given that this one can't stand behind: this one itself, and of the two forms of `show` the other one; a table has no dictionary
abbrev pub bars : Given → Setting → Bool
bars g Steps = is_some g.steps
bars g Depth = is_some g.depth
bars g Latency = is_some g.latency
bars g Dict = g.dict || g.csv
bars g Save = is_some g.save
bars g Storage = g.storage
bars g Strict = g.strict
bars g Workers = is_some g.workers
bars g Seed = is_some g.seed
bars g Json = g.json || g.csv
bars g Csv = (g.csv || g.json) || g.dict

-- what is wrong with an option, where these are barred by those given before
abbrev pub option_fault : Command → (Setting → Bool) → Option (Setting × List ℕ) → ℕ → Option Usage
option_fault command before None index = Some (UnknownWord index)
option_fault command before (Some o) index =
    if before o.0 then Some (Twice index) else if is_value command o.0 o.1 then None else Some (BadNumber index)

-- what is wrong with the word of this index, where these options are barred by those given before
abbrev pub word_fault : Command → (Setting → Bool) → List ℕ → ℕ → Option Usage
word_fault command before word index = option_fault command before (option_of command word) index

-- what is wrong with a word that may be missing
abbrev pub fault_if_there : Command → (Setting → Bool) → Option (List ℕ) → ℕ → Option Usage
fault_if_there command before None index = None
fault_if_there command before (Some word) index = word_fault command before word index

-- what is wrong with word k of those behind the file, which has index k + 2
abbrev pub settings_fault : Command → List (List ℕ) → ℕ → Option Usage
settings_fault command words k = fault_if_there command (bars (given command (take k words))) (slice_get words k) (k + 2)

-- the fault is that of the first wrong word
pub record IsFirst (fault_at : ℕ → Option Usage) (fault : Usage) : Type 0 where
  pub at : ℕ
  pub wrong : fault_at at ≡ Some fault
  pub before : (k : ℕ) → k < at → fault_at k ≡ None

-- no word is wrong, and this is what the words give
pub record ReadsAll (command : Command) (words : List (List ℕ)) (g : Given) : Type 0 where
  pub right : (k : ℕ) → settings_fault command words k ≡ None
  pub all : g ≡ given command words

-- what was given, and an option more
abbrev pub set : Command → Given → Setting → List ℕ → Option Given
set command g Steps value = option_map (λ n. record g { steps = Some n }) (number_within 1 (most_steps command) value)
set command g Depth value = option_map (λ n. record g { depth = Some n }) (number_within 1 most_depth value)
set command g Latency value = Some (record g { latency = Some value })
set command g Dict value = Some (record g { dict = true })
set command g Save value = Some (record g { save = Some value })
set command g Storage value = Some (record g { storage = true })
set command g Strict value = Some (record g { strict = true })
set command g Workers value = option_map (λ n. record g { workers = Some n }) (number_within 1 most_workers value)
set command g Seed value = option_map (λ n. record g { seed = Some n }) (number_within 0 most_seed value)
set command g Json value = Some (record g { json = true })
set command g Csv value = Some (record g { csv = true })

-- a word that is right gives one option more
pub record TakesWord (command : Command) (old : Given) (word : List ℕ) (index : ℕ) (new : Given) : Type 0 where
  pub setting : Setting
  pub value : List ℕ
  pub option : option_of command word ≡ Some (setting, value)
  pub first : bars old setting ≡ false
  pub made : set command old setting value ≡ Some new
  pub right : word_fault command (bars old) word index ≡ None

-- 1 where it holds
abbrev pub one : Bool → ℕ
one true = 1
one false = 0

-- how many options were given
abbrev pub count : Given → ℕ
count g =
    one (is_some g.steps) + one (is_some g.depth) + one (is_some g.latency) + one g.dict + one (is_some g.save) + one g.storage + one g.strict
    + one (is_some g.workers) + one (is_some g.seed) + one g.json + one g.csv
