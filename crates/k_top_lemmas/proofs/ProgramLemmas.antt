-- What reading the two files of a program comes to.
use Rattle.std.proofs.Common.{ℕ, ◌≡◌, ◌≢◌, ◌+◌, ◌≤◌, ◌<◌, Bool, true, false, nat_eq, if◌then◌else◌, refl, ap, arith, sym, subst, ◌∙◌, List, [], ◌∷◌, ◌++◌, length, replicate, Option, Some, None, Result, Ok, Err, Vec, Global, inl, inr}
use Rattle.std.proofs.lemmas.List.{append_assoc, length-replicate}
use Rattle.std.proofs.lemmas.Slice.Eq.{slice_eq-Decides}
use Rattle.std.specs.Cmp.{unsigned_Decides}
use Rattle.std.specs.Cmp.Lexicographic.{pointwise}
use Rattle.k_optab.specs.TomlTable.{IsRefused}
use Rattle.k_optab.specs.declared.toml_table.TableFault.{TableFault}
use Rattle.k_optab.specs.declared.toml_table.TableFault.TheVariants as table
use Rattle.k_edge.specs.FilesWords.{Counts, FilesState, Has, HasLonger, Loads, after}
use Rattle.k_edge.specs.declared.request.Request.{Request}
use Rattle.k_edge.specs.declared.request.Request.TheVariants.{Load}
use Rattle.k_edge.specs.declared.files.LoadFault.{LoadFault}
use Rattle.k_edge.specs.declared.files.LoadFault.TheVariants as load
use Rattle.k_types_meaning.specs.declared.tree.unit.TUnit.{TUnit}
use Rattle.k_top_answers.specs.declared.failure.Failure.{Failure}
use Rattle.k_top_answers.specs.declared.failure.Failure.TheVariants as why
use Rattle.k_top_lemmas.specs.declared.program.Program.{Program}
use Rattle.k_top_answers.specs.Failures.{failure_of_load, failure_of_table}
use Rattle.k_top_answers.specs.Requests.{IsFront, files_of, table_of}
use Rattle.k_top_lemmas.specs.Parts.{AcceptsSource, IfRefusal, LoadsFile, LoadsTable, is_name}
use Rattle.k_top_lemmas.specs.Phases.{AreTold, ReadsProgram, Seen, Shows, of_files}
use Rattle.k_top_answers.specs.Steps.{AnswersLatency, AnswersTable, Outside, file_limit}
use Rattle.k_top_lemmas.proofs.Requesting.{after_none, after_twice, front_same, some_asked}
use Rattle.k_top_lemmas.proofs.StepLemmas.{absent, loaded, refused, source_fails, source_maps, told, too_long}

-- what refuses is so of every failure of which it is asked
pub refuses : (P : Type 0) (failure : Failure) → P → IfRefusal failure P
refuses P (why.Trapped trap place) p = p
refuses P (why.OutOfSteps steps) p = p
refuses P (why.Lex fault) p = p
refuses P (why.Parse fault) p = p
refuses P (why.Types fault) p = p
refuses P (why.Usage fault) p = p
refuses P (why.Absent file) p = p
refuses P why.ReadFault p = tt
refuses P why.WriteFault p = tt
refuses P why.NoMemory p = tt
refuses P why.InputLong p = p
refuses P (why.Table fault) p = p
refuses P (why.Saved place) p = p
refuses P (why.FileLong file) p = p
refuses P (why.SavedIn file place) p = p
refuses P (why.OtherProgram file) p = p
refuses P (why.SumLarge file) p = p

-- a content that is too long, which a name may have
pub long_of : (held : Option (List ℕ → Option (List ℕ))) (name : List ℕ) (limit : ℕ) → HasLonger held name limit
    → (bytes : List ℕ) × Has held name (Some bytes) × (limit < length bytes)
long_of None name limit has =
    let long = length-replicate {A = ℕ} (limit + 1) 0 in
    (replicate (limit + 1) 0, tt, omega (arith, long))
long_of (Some held) name limit has = has

-- one file was seen
abbrev pub one_seen : List ℕ → Option (List ℕ) → List Seen
one_seen name content = record { name = name; content = content } ∷ []

-- and another before it
abbrev pub two_seen : List ℕ → Option (List ℕ) → List ℕ → Option (List ℕ) → List Seen
two_seen name content first bytes = record { name = name; content = content } ∷ one_seen first bytes

-- THE SOURCE is not loaded
pub load_failed : (fault : LoadFault) (file : List ℕ) (latency : Option (List ℕ)) (old new : FilesState) → Loads (Err fault) file file_limit old new
    → ReadsProgram (Err (failure_of_load file fault)) file latency old new
load_failed load.Absent file latency old new (has, rose, same) =
    (one_seen file None, (has, tt, tt), ((Load file ∷ [], ((table_of file latency, refl), ([], refl)), (rose, same)), λ outside shows. absent (λ other. other ≡ why.Absent file) outside file_limit file _ shows.files.0 refl))
load_failed load.TooLong file latency old new (has, rose, same) =
    let long = long_of old.held file file_limit has in (
      one_seen file (Some long.0),
      (long.1, tt, tt),
      ((Load file ∷ [], ((table_of file latency, refl), ([], refl)), (rose, same)), λ outside shows. too_long (λ other. other ≡ why.FileLong file) outside file_limit file _ long.0 shows.files.0 long.2 refl),
    )
load_failed load.Failed file latency old new (rose, same) =
    ([], tt, ((Load file ∷ [], ((table_of file latency, refl), some_asked (Load file) []), (rose, same)), tt))
load_failed load.Memory file latency old new (inl same) = ([], tt, ((Load file ∷ [], (table_of file latency, refl), same), tt))
load_failed load.Memory file latency old new (inr same) = ([], tt, (([], (files_of file latency, refl), same ∙ after_none old), tt))

pub source_unloaded : (failure : Failure) (file : List ℕ) (latency : Option (List ℕ)) (old new : FilesState) → LoadsFile (Err failure) file file_limit old new
    → ReadsProgram (Err failure) file latency old new
source_unloaded failure file latency old new (fault, is, loads) =
    subst (λ f. ReadsProgram (Err f) file latency old new) (sym is) (load_failed fault file latency old new loads)

module _ (file : List ℕ) (latency : Option (List ℕ)) (source : List ℕ) (fits : length source ≤ file_limit) (old new : FilesState) (files : List Seen)
    (are_told : AreTold old.held files) (holds : (outside : Outside) → Shows outside (of_files files) → outside.files file ≡ Some source) where
  -- the source is loaded, and these latencies are found: the source decides
  by_source : (latencies : List ℕ)
      → ((failed : Failure → Type 0) (next : List ℕ → Type 0) (outside : Outside) → Shows outside (of_files files) → next latencies
      → AnswersLatency failed outside latency next)
      → new ≡ after (files_of file latency) old → (r : Result Program Failure) → ((p : Program) → r ≡ Ok p → p.latencies ≡ latencies)
      → ((p : Program) → r ≡ Ok p → p.source ≡ source) → AcceptsSource r source → ReadsProgram r file latency old new
  by_source latencies found same (Ok p) takes keeps accepts = (
    files,
    are_told,
    (
      same,
      λ outside shows.
          loaded (λ failure. ⊥) outside file_limit file _ source (holds outside shows) fits
          (found (λ failure. ⊥) _ outside shows
          (source_maps (λ failure. ⊥) (λ failure. ⊥) (λ (t : TUnit). t ≡ p.typed) (λ (t : TUnit). (latencies ≡ p.latencies) × (t ≡ p.typed))
          (λ failure e. e) (λ s is. (sym (takes p refl), is)) source accepts)),
      λ outside shows. holds outside shows ∙ ap Some (sym (keeps p refl)),
    ),
  )
  by_source latencies found same (Err failure) takes keeps (inl is) =
      subst (λ f. ReadsProgram (Err f) file latency old new) (sym is)
      (files, are_told, ((files_of file latency, front_same (files_of file latency) (files_of file latency) refl, same), tt))
  by_source latencies found same (Err failure) takes keeps (inr answers) = (
    files,
    are_told,
    (
      source_fails failure source (files_of file latency) old new same answers,
      refuses _ failure (λ outside shows.
          loaded (λ other. other ≡ failure) outside file_limit file _ source (holds outside shows) fits
          (found (λ other. other ≡ failure) _ outside shows
          (source_maps (λ other. other ≡ failure) (λ other. other ≡ failure) (λ (t : TUnit). ⊥) (λ (t : TUnit). ⊥) (λ other e. e) (λ s e. e) source answers))),
    ),
  )

-- names that compare as equal are the same
same_name : (name file : List ℕ) → pointwise nat_eq name file ≡ true → name ≡ file
same_name name file is = (slice_eq-Decides unsigned_Decides name file (pointwise nat_eq name file) refl).0 is

-- and those that don't are not
other_name : (name file : List ℕ) → pointwise nat_eq name file ≡ false → file ≢ name
other_name name file is same =
    let equal : pointwise nat_eq name file ≡ true = (slice_eq-Decides unsigned_Decides name file (pointwise nat_eq name file) refl).1 (sym same) in cc

-- the table that is the source is not loaded
table_none : (name file : List ℕ) → pointwise nat_eq name file ≡ true → table_of file (Some name) ≡ []
table_none name file is = subst (λ b. (if b then [] else Load name ∷ []) ≡ []) (sym is) refl

-- another one is
table_named : (name file : List ℕ) → pointwise nat_eq name file ≡ false → table_of file (Some name) ≡ Load name ∷ []
table_named name file is = subst (λ b. (if b then [] else Load name ∷ []) ≡ Load name ∷ []) (sym is) refl

-- all is loaded where the source is and the table is no other file
all_loaded : (name file : List ℕ) → pointwise nat_eq name file ≡ true → (old new : FilesState) → new ≡ after (Load file ∷ []) old
    → new ≡ after (files_of file (Some name)) old
all_loaded name file is old new same = same ∙ ap (λ (t : List Request). after (Load file ∷ t) old) (sym (table_none name file is))

-- and where both are
both_loaded : (name file : List ℕ) → pointwise nat_eq name file ≡ false → (old mid new : FilesState) → mid ≡ after (Load file ∷ []) old
    → new ≡ after (Load name ∷ []) mid → new ≡ after (files_of file (Some name)) old
both_loaded name file is old mid new first second =
    second ∙ ap (after (Load name ∷ [])) first ∙ after_twice (Load file ∷ []) (Load name ∷ []) old
    ∙ ap (λ (t : List Request). after (Load file ∷ t) old) (sym (table_named name file is))

module _ (file : List ℕ) (source : Vec ℕ Global) (old mid new : FilesState) (load_ok : Loads (Ok source) file file_limit old mid) where
  -- THE TABLE gives latencies
  named_read : (name : List ℕ) (latencies : List ℕ) (b : Bool) → pointwise nat_eq name file ≡ b → LoadsTable (Ok latencies) (Some name) source.items b mid new
      → (r : Result Program Failure) → ((p : Program) → r ≡ Ok p → p.latencies ≡ latencies) → ((p : Program) → r ≡ Ok p → p.source ≡ source.items)
      → AcceptsSource r source.items → ReadsProgram r file (Some name) old new
  named_read name latencies true is (gives, same) r takes keeps accepts =
      by_source file (Some name) source.items load_ok.1 old new (one_seen file (Some source.items)) (load_ok.0, tt, tt) (λ outside shows. shows.files.0)
      latencies
      (λ failed next outside shows holds. loaded failed outside file_limit name (AnswersTable failed next) source.items
      (subst (λ n. outside.files n ≡ Some source.items) (sym (same_name name file is)) shows.files.0) load_ok.1
      (told failed next source.items latencies gives holds))
      (all_loaded name file is old new (same ∙ load_ok.2)) r takes keeps accepts
  named_read name latencies false is (bytes, (has, fits, same), gives) r takes keeps accepts =
      by_source file (Some name) source.items load_ok.1 old new (two_seen name (Some bytes.items) file (Some source.items))
      (subst (λ (m : FilesState). Has m.held name (Some bytes.items)) load_ok.2 has, (other_name name file is, tt), (load_ok.0, tt, tt)) (λ outside shows. shows.files.1.0)
      latencies
      (λ failed next outside shows holds. loaded failed outside file_limit name (AnswersTable failed next) bytes.items shows.files.0 fits
      (told failed next bytes.items latencies gives holds))
      (both_loaded name file is old mid new load_ok.2 same) r takes keeps accepts

  -- THE PROGRAM of a source that was loaded and of latencies that were found
  pub program_read : (latency : Option (List ℕ)) (latencies : List ℕ) → LoadsTable (Ok latencies) latency source.items (is_name latency file) mid new
      → (r : Result Program Failure) → ((p : Program) → r ≡ Ok p → p.latencies ≡ latencies) → ((p : Program) → r ≡ Ok p → p.source ≡ source.items)
      → AcceptsSource r source.items → ReadsProgram r file latency old new
  program_read None latencies (is, same) r takes keeps accepts =
      by_source file None source.items load_ok.1 old new (one_seen file (Some source.items)) (load_ok.0, tt, tt) (λ outside shows. shows.files.0)
      latencies (λ failed next outside shows holds. subst next is holds) (same ∙ load_ok.2) r takes keeps accepts
  program_read (Some name) latencies loads r takes keeps accepts = named_read name latencies (pointwise nat_eq name file) refl loads r takes keeps accepts

  -- a table of these bytes is refused by a fault that is no want of memory
  refused_by : (name : List ℕ) (bytes : List ℕ) (files : List Seen) → AreTold old.held files → length bytes ≤ file_limit
      → ((outside : Outside) → Shows outside (of_files files) → (outside.files file ≡ Some source.items) × (outside.files name ≡ Some bytes))
      → new ≡ after (files_of file (Some name)) old → (fault : TableFault) → fault ≢ table.Memory → IsRefused bytes fault → ReadsProgram (Err (why.Table fault)) file (Some name) old new
  refused_by name bytes files are_told fits holds same fault other is = (
    files,
    are_told,
    (
      (files_of file (Some name), refl, same),
      λ outside shows.
          loaded (λ failure. failure ≡ why.Table fault) outside file_limit file _ source.items (holds outside shows).0 load_ok.1
          (loaded (λ failure. failure ≡ why.Table fault) outside file_limit name _ bytes (holds outside shows).1 fits
          (refused (λ failure. failure ≡ why.Table fault) _ bytes fault other is refl)),
    ),
  )

  -- a table of these bytes is refused
  table_refused : (name : List ℕ) (bytes : List ℕ) (files : List Seen) → AreTold old.held files → length bytes ≤ file_limit
      → ((outside : Outside) → Shows outside (of_files files) → (outside.files file ≡ Some source.items) × (outside.files name ≡ Some bytes))
      → new ≡ after (files_of file (Some name)) old → (fault : TableFault) → IsRefused bytes fault → ReadsProgram (Err (failure_of_table fault)) file (Some name) old new
  table_refused name bytes files are_told fits holds same table.Memory is =
      (files, are_told, ((files_of file (Some name), front_same (files_of file (Some name)) (files_of file (Some name)) refl, same), tt))
  table_refused name bytes files are_told fits holds same table.NotToml is = refused_by name bytes files are_told fits holds same table.NotToml (λ e. cc) is
  table_refused name bytes files are_told fits holds same (table.UnknownKey key) is = refused_by name bytes files are_told fits holds same (table.UnknownKey key) (λ e. cc) is
  table_refused name bytes files are_told fits holds same (table.NotWhole key) is = refused_by name bytes files are_told fits holds same (table.NotWhole key) (λ e. cc) is
  table_refused name bytes files are_told fits holds same (table.OutOfRange key number) is =
      refused_by name bytes files are_told fits holds same (table.OutOfRange key number) (λ e. cc) is

  -- a table is not loaded
  abbrev both : List ℕ → List Request
  both name = Load file ∷ Load name ∷ []

  both_front : (name : List ℕ) → pointwise nat_eq name file ≡ false → IsFront (both name) (files_of file (Some name))
  both_front name other = ([], ap (λ (t : List Request). Load file ∷ t) (table_named name file other))

  -- of a load behind that of the source only this count moved
  counted : (name : List ℕ) (counts : Counts) → new ≡ record old { counts = counts; requests = (old.requests ++ Load file ∷ []) ++ Load name ∷ [] }
      → new ≡ record old { counts = counts; requests = old.requests ++ both name }
  counted name counts same = same ∙ (λ i. record old { counts = counts; requests = append_assoc old.requests (Load file ∷ []) (Load name ∷ []) i })

  table_unloaded : (name : List ℕ) → file ≢ name → pointwise nat_eq name file ≡ false → (fault : LoadFault)
      → Loads (Err fault) name file_limit (after (Load file ∷ []) old) new → ReadsProgram (Err (failure_of_load name fault)) file (Some name) old new
  table_unloaded name differs other load.Absent (has, rose, same) = (
    two_seen name None file (Some source.items),
    (has, (differs, tt), (load_ok.0, tt, tt)),
    (
      (both name, (both_front name other, (Load file ∷ [], refl)), (rose, counted name _ same)),
      λ outside shows.
          loaded (λ other. other ≡ why.Absent name) outside file_limit file _ source.items shows.files.1.0 load_ok.1
          (absent (λ other. other ≡ why.Absent name) outside file_limit name _ shows.files.0 refl),
    ),
  )
  table_unloaded name differs other load.TooLong (has, rose, same) =
      let long = long_of old.held name file_limit has in (
        two_seen name (Some long.0) file (Some source.items),
        (long.1, (differs, tt), (load_ok.0, tt, tt)),
        (
          (both name, (both_front name other, (Load file ∷ [], refl)), (rose, counted name _ same)),
          λ outside shows.
              loaded (λ other. other ≡ why.FileLong name) outside file_limit file _ source.items shows.files.1.0 load_ok.1
              (too_long (λ other. other ≡ why.FileLong name) outside file_limit name _ long.0 shows.files.0 long.2 refl),
        ),
      )
  table_unloaded name differs other load.Failed (rose, same) =
      ([], tt, ((both name, (both_front name other, some_asked (Load file) (Load name ∷ [])), (rose, counted name _ same)), tt))
  table_unloaded name differs other load.Memory (inl same) =
      ([], tt, ((both name, both_front name other, same ∙ after_twice (Load file ∷ []) (Load name ∷ []) old), tt))
  table_unloaded name differs other load.Memory (inr same) = ([], tt, ((Load file ∷ [], (table_of file (Some name), refl), same), tt))

  -- THE TABLE gives no latencies
  named_failed : (name : List ℕ) (failure : Failure) (b : Bool) → pointwise nat_eq name file ≡ b → LoadsTable (Err failure) (Some name) source.items b mid new
      → ReadsProgram (Err failure) file (Some name) old new
  named_failed name failure true is ((fault, same_failure, refuses), same) =
      subst (λ f. ReadsProgram (Err f) file (Some name) old new) (sym same_failure)
      (table_refused name source.items (one_seen file (Some source.items)) (load_ok.0, tt, tt) load_ok.1
      (λ outside shows. (shows.files.0, subst (λ n. outside.files n ≡ Some source.items) (sym (same_name name file is)) shows.files.0)) (all_loaded name file is old new (same ∙ load_ok.2)) fault refuses)
  named_failed name failure false is (inl (bytes, (has, fits, same), (fault, same_failure, refuses))) =
      subst (λ f. ReadsProgram (Err f) file (Some name) old new) (sym same_failure)
      (table_refused name bytes.items (two_seen name (Some bytes.items) file (Some source.items))
      (subst (λ (m : FilesState). Has m.held name (Some bytes.items)) load_ok.2 has, (other_name name file is, tt), (load_ok.0, tt, tt)) fits
      (λ outside shows. (shows.files.1.0, shows.files.0)) (both_loaded name file is old mid new load_ok.2 same) fault refuses)
  named_failed name failure false is (inr (fault, same_failure, loads)) =
      subst (λ f. ReadsProgram (Err f) file (Some name) old new) (sym same_failure)
      (table_unloaded name (other_name name file is) is fault (subst (λ (m : FilesState). Loads (Err fault) name file_limit m new) load_ok.2 loads))

  -- THE PROGRAM of a source that was loaded, and of latencies that were not found
  pub table_failed : (latency : Option (List ℕ)) (failure : Failure) → LoadsTable (Err failure) latency source.items (is_name latency file) mid new
      → ReadsProgram (Err failure) file latency old new
  table_failed None failure loads = absurd loads
  table_failed (Some name) failure loads = named_failed name failure (pointwise nat_eq name file) refl loads
