-- What one word more gives.
use Rattle.std.proofs.Common.{◌≡◌, ◌+◌, ◌∙◌, ◌||◌, ℕ, Bool, true, false, List, [], ◌∷◌, ◌++◌, Option, Some, None, is_some, option_map, option_and_then, ap, arith, refl, sym}
use Rattle.std.proofs.lemmas.Bool.{false≢true}
use Rattle.k_words.specs.declared.option.Command.{Command}
use Rattle.k_words.specs.declared.option.Setting.{Setting}
use Rattle.k_words.specs.declared.option.Setting.TheVariants.{Steps, Depth, Latency, Dict, Save, Storage, Strict, Workers, Seed, Json, Csv}
use Rattle.k_words.specs.Number.{number_within}
use Rattle.k_words.specs.Setting.{is_value, most_depth, most_seed, most_steps, most_workers, option_of, or_else}
use Rattle.k_words.specs.Settings.{Given, TakesWord, bars, count, first_of, given, set, text_in, value_in}

or_else-none : {A : Type 0} (a : Option A) → or_else a None ≡ a
or_else-none None = refl
or_else-none (Some x) = refl

or_else-assoc : {A : Type 0} (a b c : Option A) → or_else (or_else a b) c ≡ or_else a (or_else b c)
or_else-assoc None b c = refl
or_else-assoc (Some x) b c = refl

first_of-more : {A : Type 0} (f : List ℕ → Option A) (ws : List (List ℕ)) (w : List ℕ) → first_of f (ws ++ w ∷ []) ≡ or_else (first_of f ws) (f w)
first_of-more f [] w = or_else-none (f w)
first_of-more f (v ∷ ws) w = ap (or_else (f v)) (first_of-more f ws w) ∙ sym (or_else-assoc (f v) (first_of f ws) (f w))

-- a word that gives nothing changes nothing
kept : {A : Type 0} (f : List ℕ → Option A) (ws : List (List ℕ)) (w : List ℕ) → f w ≡ None → first_of f ws ≡ first_of f (ws ++ w ∷ [])
kept f ws w none = sym (first_of-more f ws w ∙ ap (or_else (first_of f ws)) none ∙ or_else-none (first_of f ws))

or_else-first : {A : Type 0} (a : Option A) (b : Option A) → is_some a ≡ false → or_else a b ≡ b
or_else-first None b h = refl
or_else-first (Some x) b h = absurd (false≢true (sym h))

-- the first word that gives something is the one that counts
added : {A : Type 0} (f : List ℕ → Option A) (ws : List (List ℕ)) (w : List ℕ) (x : A) → is_some (first_of f ws) ≡ false → f w ≡ Some x
    → Some x ≡ first_of f (ws ++ w ∷ [])
added f ws w x fresh is = sym (first_of-more f ws w ∙ or_else-first (first_of f ws) (f w) fresh ∙ is)

-- where neither holds, the first does not
or_false : (a b : Bool) → a || b ≡ false → a ≡ false
or_false false b h = refl
or_false true b h = absurd (false≢true (sym h))

pub some_inner : {A : Type 0} (x y : A) → Some x ≡ Some y → x ≡ y
some_inner x y h = cc

pub mapped : {A B : Type 0} (f : A → B) (o : Option A) (y : B) → option_map f o ≡ Some y → (x : A) × (o ≡ Some x) × (f x ≡ y)
mapped f None y h = absurd (false≢true (ap is_some h))
mapped f (Some x) y h = (x, refl, some_inner _ _ h)

module _ (command : Command) (ws : List (List ℕ)) (w : List ℕ) where
  -- what words give of an option that one more is not
  text : (setting : Setting) (value : List ℕ) → option_of command w ≡ Some (setting, value) → (other : Setting) → value_in other (Some (setting, value)) ≡ None
      → first_of (text_in command other) ws ≡ first_of (text_in command other) (ws ++ w ∷ [])
  text setting value is other none = kept (text_in command other) ws w (ap (value_in other) is ∙ none)

  number : (setting : Setting) (value : List ℕ) → option_of command w ≡ Some (setting, value) → (other : Setting) (low high : ℕ)
      → value_in other (Some (setting, value)) ≡ None
      → first_of (λ word. option_and_then (number_within low high) (text_in command other word)) ws
      ≡ first_of (λ word. option_and_then (number_within low high) (text_in command other word)) (ws ++ w ∷ [])
  number setting value is other low high none =
      kept (λ word. option_and_then (number_within low high) (text_in command other word)) ws w
      (ap (λ o. option_and_then (number_within low high) (value_in other o)) is ∙ ap (option_and_then (number_within low high)) none)

  -- what words give of the option that one more is
  text_added : (setting : Setting) (value : List ℕ) → option_of command w ≡ Some (setting, value) → value_in setting (Some (setting, value)) ≡ Some value
      → is_some (first_of (text_in command setting) ws) ≡ false → Some value ≡ first_of (text_in command setting) (ws ++ w ∷ [])
  text_added setting value is here fresh = added (text_in command setting) ws w value fresh (ap (value_in setting) is ∙ here)

  number_added : (setting : Setting) (value : List ℕ) → option_of command w ≡ Some (setting, value) → value_in setting (Some (setting, value)) ≡ Some value
      → (low high n : ℕ) → number_within low high value ≡ Some n
      → is_some (first_of (λ word. option_and_then (number_within low high) (text_in command setting word)) ws) ≡ false
      → Some n ≡ first_of (λ word. option_and_then (number_within low high) (text_in command setting word)) (ws ++ w ∷ [])
  number_added setting value is here low high n within fresh =
      added (λ word. option_and_then (number_within low high) (text_in command setting word)) ws w n fresh
      (ap (λ o. option_and_then (number_within low high) (value_in setting o)) is ∙ ap (option_and_then (number_within low high)) here ∙ within)

  -- what words and one more give
  pub given-more : (setting : Setting) (value : List ℕ) (new : Given) → option_of command w ≡ Some (setting, value) → bars (given command ws) setting ≡ false
      → set command (given command ws) setting value ≡ Some new → new ≡ given command (ws ++ w ∷ [])
  given-more Steps value new is fresh made =
      let (n, within, same) = mapped _ (number_within 1 (most_steps command) value) new made in
      let added = number_added Steps value is refl 1 (most_steps command) n within fresh in
      sym same ∙ (λ i. record {
        steps = added i;
        depth = number Steps value is Depth 1 most_depth refl i;
        latency = text Steps value is Latency refl i;
        dict = is_some (text Steps value is Dict refl i);
        save = text Steps value is Save refl i;
        storage = is_some (text Steps value is Storage refl i);
        strict = is_some (text Steps value is Strict refl i);
        workers = number Steps value is Workers 1 most_workers refl i;
        seed = number Steps value is Seed 0 most_seed refl i;
        json = is_some (text Steps value is Json refl i);
        csv = is_some (text Steps value is Csv refl i);
      })
  given-more Depth value new is fresh made =
      let (n, within, same) = mapped _ (number_within 1 most_depth value) new made in
      let added = number_added Depth value is refl 1 most_depth n within fresh in
      sym same ∙ (λ i. record {
        steps = number Depth value is Steps 1 (most_steps command) refl i;
        depth = added i;
        latency = text Depth value is Latency refl i;
        dict = is_some (text Depth value is Dict refl i);
        save = text Depth value is Save refl i;
        storage = is_some (text Depth value is Storage refl i);
        strict = is_some (text Depth value is Strict refl i);
        workers = number Depth value is Workers 1 most_workers refl i;
        seed = number Depth value is Seed 0 most_seed refl i;
        json = is_some (text Depth value is Json refl i);
        csv = is_some (text Depth value is Csv refl i);
      })
  given-more Latency value new is fresh made =
      let added = text_added Latency value is refl fresh in
      sym (some_inner _ _ made) ∙ (λ i. record {
        steps = number Latency value is Steps 1 (most_steps command) refl i;
        depth = number Latency value is Depth 1 most_depth refl i;
        latency = added i;
        dict = is_some (text Latency value is Dict refl i);
        save = text Latency value is Save refl i;
        storage = is_some (text Latency value is Storage refl i);
        strict = is_some (text Latency value is Strict refl i);
        workers = number Latency value is Workers 1 most_workers refl i;
        seed = number Latency value is Seed 0 most_seed refl i;
        json = is_some (text Latency value is Json refl i);
        csv = is_some (text Latency value is Csv refl i);
      })
  given-more Dict value new is fresh made =
      let added = text_added Dict value is refl (or_false _ _ fresh) in
      sym (some_inner _ _ made) ∙ (λ i. record {
        steps = number Dict value is Steps 1 (most_steps command) refl i;
        depth = number Dict value is Depth 1 most_depth refl i;
        latency = text Dict value is Latency refl i;
        dict = is_some (added i);
        save = text Dict value is Save refl i;
        storage = is_some (text Dict value is Storage refl i);
        strict = is_some (text Dict value is Strict refl i);
        workers = number Dict value is Workers 1 most_workers refl i;
        seed = number Dict value is Seed 0 most_seed refl i;
        json = is_some (text Dict value is Json refl i);
        csv = is_some (text Dict value is Csv refl i);
      })
  given-more Save value new is fresh made =
      let added = text_added Save value is refl fresh in
      sym (some_inner _ _ made) ∙ (λ i. record {
        steps = number Save value is Steps 1 (most_steps command) refl i;
        depth = number Save value is Depth 1 most_depth refl i;
        latency = text Save value is Latency refl i;
        dict = is_some (text Save value is Dict refl i);
        save = added i;
        storage = is_some (text Save value is Storage refl i);
        strict = is_some (text Save value is Strict refl i);
        workers = number Save value is Workers 1 most_workers refl i;
        seed = number Save value is Seed 0 most_seed refl i;
        json = is_some (text Save value is Json refl i);
        csv = is_some (text Save value is Csv refl i);
      })
  given-more Storage value new is fresh made =
      let added = text_added Storage value is refl fresh in
      sym (some_inner _ _ made) ∙ (λ i. record {
        steps = number Storage value is Steps 1 (most_steps command) refl i;
        depth = number Storage value is Depth 1 most_depth refl i;
        latency = text Storage value is Latency refl i;
        dict = is_some (text Storage value is Dict refl i);
        save = text Storage value is Save refl i;
        storage = is_some (added i);
        strict = is_some (text Storage value is Strict refl i);
        workers = number Storage value is Workers 1 most_workers refl i;
        seed = number Storage value is Seed 0 most_seed refl i;
        json = is_some (text Storage value is Json refl i);
        csv = is_some (text Storage value is Csv refl i);
      })
  given-more Strict value new is fresh made =
      let added = text_added Strict value is refl fresh in
      sym (some_inner _ _ made) ∙ (λ i. record {
        steps = number Strict value is Steps 1 (most_steps command) refl i;
        depth = number Strict value is Depth 1 most_depth refl i;
        latency = text Strict value is Latency refl i;
        dict = is_some (text Strict value is Dict refl i);
        save = text Strict value is Save refl i;
        storage = is_some (text Strict value is Storage refl i);
        strict = is_some (added i);
        workers = number Strict value is Workers 1 most_workers refl i;
        seed = number Strict value is Seed 0 most_seed refl i;
        json = is_some (text Strict value is Json refl i);
        csv = is_some (text Strict value is Csv refl i);
      })
  given-more Workers value new is fresh made =
      let (n, within, same) = mapped _ (number_within 1 most_workers value) new made in
      let added = number_added Workers value is refl 1 most_workers n within fresh in
      sym same ∙ (λ i. record {
        steps = number Workers value is Steps 1 (most_steps command) refl i;
        depth = number Workers value is Depth 1 most_depth refl i;
        latency = text Workers value is Latency refl i;
        dict = is_some (text Workers value is Dict refl i);
        save = text Workers value is Save refl i;
        storage = is_some (text Workers value is Storage refl i);
        strict = is_some (text Workers value is Strict refl i);
        workers = added i;
        seed = number Workers value is Seed 0 most_seed refl i;
        json = is_some (text Workers value is Json refl i);
        csv = is_some (text Workers value is Csv refl i);
      })
  given-more Seed value new is fresh made =
      let (n, within, same) = mapped _ (number_within 0 most_seed value) new made in
      let added = number_added Seed value is refl 0 most_seed n within fresh in
      sym same ∙ (λ i. record {
        steps = number Seed value is Steps 1 (most_steps command) refl i;
        depth = number Seed value is Depth 1 most_depth refl i;
        latency = text Seed value is Latency refl i;
        dict = is_some (text Seed value is Dict refl i);
        save = text Seed value is Save refl i;
        storage = is_some (text Seed value is Storage refl i);
        strict = is_some (text Seed value is Strict refl i);
        workers = number Seed value is Workers 1 most_workers refl i;
        seed = added i;
        json = is_some (text Seed value is Json refl i);
        csv = is_some (text Seed value is Csv refl i);
      })
  given-more Json value new is fresh made =
      let added = text_added Json value is refl (or_false _ _ fresh) in
      sym (some_inner _ _ made) ∙ (λ i. record {
        steps = number Json value is Steps 1 (most_steps command) refl i;
        depth = number Json value is Depth 1 most_depth refl i;
        latency = text Json value is Latency refl i;
        dict = is_some (text Json value is Dict refl i);
        save = text Json value is Save refl i;
        storage = is_some (text Json value is Storage refl i);
        strict = is_some (text Json value is Strict refl i);
        workers = number Json value is Workers 1 most_workers refl i;
        seed = number Json value is Seed 0 most_seed refl i;
        json = is_some (added i);
        csv = is_some (text Json value is Csv refl i);
      })
  given-more Csv value new is fresh made =
      let added = text_added Csv value is refl (or_false _ _ (or_false _ _ fresh)) in
      sym (some_inner _ _ made) ∙ (λ i. record {
        steps = number Csv value is Steps 1 (most_steps command) refl i;
        depth = number Csv value is Depth 1 most_depth refl i;
        latency = text Csv value is Latency refl i;
        dict = is_some (text Csv value is Dict refl i);
        save = text Csv value is Save refl i;
        storage = is_some (text Csv value is Storage refl i);
        strict = is_some (text Csv value is Strict refl i);
        workers = number Csv value is Workers 1 most_workers refl i;
        seed = number Csv value is Seed 0 most_seed refl i;
        json = is_some (text Csv value is Json refl i);
        csv = is_some (added i);
      })

-- an option more counts
pub count-set : (command : Command) (g new : Given) (setting : Setting) (value : List ℕ) → bars g setting ≡ false → set command g setting value ≡ Some new
    → count new ≡ count g + 1
count-set command g new Steps value fresh made =
    let (n, number, same) = mapped _ (number_within 1 (most_steps command) value) new made in
    rw (← same, fresh) (omega arith)
count-set command g new Depth value fresh made =
    let (n, number, same) = mapped _ (number_within 1 most_depth value) new made in
    rw (← same, fresh) (omega arith)
count-set command g new Latency value fresh made = rw (← some_inner _ _ made, fresh) (omega arith)
count-set command g new Dict value fresh made = rw (← some_inner _ _ made, or_false g.dict g.csv fresh) (omega arith)
count-set command g new Save value fresh made = rw (← some_inner _ _ made, fresh) (omega arith)
count-set command g new Storage value fresh made = rw (← some_inner _ _ made, fresh) (omega arith)
count-set command g new Strict value fresh made = rw (← some_inner _ _ made, fresh) (omega arith)
count-set command g new Workers value fresh made =
    let (n, number, same) = mapped _ (number_within 1 most_workers value) new made in
    rw (← same, fresh) (omega arith)
count-set command g new Seed value fresh made =
    let (n, number, same) = mapped _ (number_within 0 most_seed value) new made in
    rw (← same, fresh) (omega arith)
count-set command g new Json value fresh made = rw (← some_inner _ _ made, or_false g.json g.csv fresh) (omega arith)
count-set command g new Csv value fresh made = rw (← some_inner _ _ made, or_false g.csv g.json (or_false (g.csv || g.json) g.dict fresh)) (omega arith)

-- a value that is set is one that the option may have
pub value-set : (command : Command) (g new : Given) (setting : Setting) (value : List ℕ) → set command g setting value ≡ Some new → is_value command setting value ≡ true
value-set command g new Steps value made = let (n, number, same) = mapped _ (number_within 1 (most_steps command) value) new made in ap is_some number
value-set command g new Depth value made = let (n, number, same) = mapped _ (number_within 1 most_depth value) new made in ap is_some number
value-set command g new Latency value made = refl
value-set command g new Dict value made = refl
value-set command g new Save value made = refl
value-set command g new Storage value made = refl
value-set command g new Strict value made = refl
value-set command g new Workers value made = let (n, number, same) = mapped _ (number_within 1 most_workers value) new made in ap is_some number
value-set command g new Seed value made = let (n, number, same) = mapped _ (number_within 0 most_seed value) new made in ap is_some number
value-set command g new Json value made = refl
value-set command g new Csv value made = refl

-- a word that is right
pub takes_word : (command : Command) (old : Given) (word : List ℕ) (index : ℕ) (new : Given) (setting : Setting) (value : List ℕ)
    → option_of command word ≡ Some (setting, value) → bars old setting ≡ false → set command old setting value ≡ Some new → TakesWord command old word index new
takes_word command old word index new setting value option first made = record {
  setting = setting;
  value = value;
  option = option;
  first = first;
  made = made;
  right = rw (option, first, value-set command old new setting value made) refl;
}
