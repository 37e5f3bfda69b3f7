-- Believed with the theorem on the top call.
-- Why the call does not end with status 0: the table of statuses and of the lines on err, row by row.
use Rattle.std.specs.Prelude.{ℕ, List, ◌++◌, Option, Some, None, codes}
use Rattle.std.specs.Fmt.{decimal}
use Rattle.k_optab.specs.declared.toml_table.TableFault.{TableFault}
use Rattle.k_optab.specs.declared.toml_table.TableFault.TheVariants as table
use Rattle.k_lex.specs.declared.fault.LexFault.{LexFault}
use Rattle.k_lex.specs.declared.fault.LexFault.TheVariants as lexical
use Rattle.k_parse.specs.declared.fault.ParseFault.{ParseFault}
use Rattle.k_parse.specs.declared.fault.ParseFault.TheVariants as syntax
use Rattle.k_types_meaning.specs.declared.fault.TypeFault.{TypeFault}
use Rattle.k_types_meaning.specs.declared.fault.TypeFault.TheVariants as typing
use Rattle.k_dict_saved.specs.declared.fault.SavedFault.{SavedFault}
use Rattle.k_dict_saved.specs.declared.fault.SavedFault.TheVariants as saved
use Rattle.k_edge.specs.declared.reading.ReadAllFault.{ReadAllFault}
use Rattle.k_edge.specs.declared.reading.ReadAllFault.TheVariants as reading
use Rattle.k_edge.specs.declared.sink.PutFault.{PutFault}
use Rattle.k_edge.specs.declared.sink.PutFault.TheVariants as putting
use Rattle.k_edge.specs.declared.files.LoadFault.{LoadFault}
use Rattle.k_edge.specs.declared.files.LoadFault.TheVariants as loading
use Rattle.k_edge.specs.declared.files.SaveFault.{SaveFault}
use Rattle.k_edge.specs.declared.files.SaveFault.TheVariants as saving
use Rattle.k_ending.specs.declared.ending.End.{End}
use Rattle.k_ending.specs.declared.ending.End.TheVariants.{Returned, Trapped, OutOfSteps}
use Rattle.k_ending.specs.Traps.{trap_name}
use Rattle.k_dict_entries.specs.declared.dict.DictFault.{DictFault}
use Rattle.k_dict_entries.specs.declared.dict.DictFault.TheVariants as entries
use Rattle.k_sum.specs.declared.sum.SumFault.{SumFault}
use Rattle.k_sum.specs.declared.sum.SumFault.TheVariants as adding
use Rattle.k_words.specs.declared.usage.Usage.{Usage}
use Rattle.k_words.specs.declared.usage.Usage.TheVariants as usage
use Rattle.k_top_answers.specs.declared.failure.Failure.{Failure}
use Rattle.k_top_answers.specs.declared.failure.Failure.TheVariants as why
use Rattle.k_top_answers.specs.Refusals.{lex_text, named_at, parse_text, table_text, type_text, usage_text}

-- the exit status of a failure
abbrev pub failure_status : Failure → ℕ
failure_status (why.Trapped trap place) = 1
failure_status (why.OutOfSteps steps) = 2
failure_status (why.Lex fault) = 3
failure_status (why.Parse fault) = 3
failure_status (why.Types fault) = 3
failure_status (why.Usage fault) = 4
failure_status (why.Absent file) = 5
failure_status why.ReadFault = 6
failure_status why.WriteFault = 7
failure_status why.NoMemory = 8
failure_status why.InputLong = 9
failure_status (why.Table fault) = 10
failure_status (why.Saved place) = 11
failure_status (why.SavedIn file place) = 11
failure_status (why.OtherProgram file) = 11
failure_status (why.SumLarge file) = 11
failure_status (why.FileLong file) = 12

-- what is told of a file that is refused at this byte
abbrev pub saved_in_text : List ℕ → ℕ → List ℕ
saved_in_text file place = codes "saved file refused: " ++ file ++ codes " at byte " ++ decimal place

-- what is told of a failure
abbrev pub failure_text : Failure → List ℕ
failure_text (why.Trapped trap place) = codes "trap " ++ named_at (trap_name trap) place
failure_text (why.OutOfSteps steps) = codes "out of steps after " ++ decimal steps
failure_text (why.Lex fault) = codes "source refused: " ++ lex_text fault
failure_text (why.Parse fault) = codes "source refused: " ++ parse_text fault
failure_text (why.Types fault) = codes "source refused: " ++ type_text fault
failure_text (why.Usage fault) = codes "usage: " ++ usage_text fault
failure_text (why.Absent file) = codes "no such file: " ++ file
failure_text why.ReadFault = codes "read fault"
failure_text why.WriteFault = codes "write fault"
failure_text why.NoMemory = codes "no memory"
failure_text why.InputLong = codes "input too long"
failure_text (why.Table fault) = codes "latency table refused: " ++ table_text fault
failure_text (why.Saved place) = codes "saved file refused at byte " ++ decimal place
failure_text (why.SavedIn file place) = saved_in_text file place
failure_text (why.OtherProgram file) = codes "profile of another program: " ++ file
failure_text (why.SumLarge file) = codes "sum too large with: " ++ file
failure_text (why.FileLong file) = codes "file too long: " ++ file

-- its line on err
abbrev pub failure_line : Failure → List ℕ
failure_line failure = codes "kremlin: " ++ failure_text failure ++ codes "\n"

-- what is told on err of it: its line, and behind it what more is told, if more is
abbrev pub err_text : Failure → Option (List ℕ) → List ℕ
err_text failure None = failure_line failure
err_text failure (Some more) = failure_line failure ++ more

-- the exit status: 0 where nothing failed
abbrev pub status_of : Option Failure → ℕ
status_of None = 0
status_of (Some failure) = failure_status failure

-- why a run that may make so many operations failed, if it did
abbrev pub failure_of_end : ℕ → End → Option Failure
failure_of_end steps (Returned exit) = None
failure_of_end steps (Trapped trap place) = Some (why.Trapped trap place)
failure_of_end steps OutOfSteps = Some (why.OutOfSteps steps)

-- a fault of the tokens as a failure; want of memory is the same failure wherever it comes from
abbrev pub failure_of_lex : LexFault → Failure
failure_of_lex lexical.Memory = why.NoMemory
failure_of_lex fault = why.Lex fault

-- a fault of the tree as a failure
abbrev pub failure_of_parse : ParseFault → Failure
failure_of_parse syntax.Memory = why.NoMemory
failure_of_parse fault = why.Parse fault

-- a fault in names and types as a failure
abbrev pub failure_of_types : TypeFault → Failure
failure_of_types typing.Memory = why.NoMemory
failure_of_types fault = why.Types fault

-- a fault of a table of latencies as a failure
abbrev pub failure_of_table : TableFault → Failure
failure_of_table table.Memory = why.NoMemory
failure_of_table fault = why.Table fault

-- what is wrong with the words as a failure
abbrev pub failure_of_usage : Usage → Failure
failure_of_usage usage.Memory = why.NoMemory
failure_of_usage fault = why.Usage fault

-- why a saved profile is not read, as a failure
abbrev pub failure_of_saved : SavedFault → Failure
failure_of_saved (saved.NotSaved place) = why.Saved place
failure_of_saved saved.Memory = why.NoMemory

-- why a saved profile or a sum in a file of this name is not read, as a failure
abbrev pub failure_of_saved_in : List ℕ → SavedFault → Failure
failure_of_saved_in file (saved.NotSaved place) = why.SavedIn file place
failure_of_saved_in file saved.Memory = why.NoMemory

-- why the entries of a file of this name are not put to others, as a failure
abbrev pub failure_of_dict : List ℕ → DictFault → Failure
failure_of_dict file (entries.Full which) = why.SumLarge file
failure_of_dict file entries.Memory = why.NoMemory

-- why the runs of a file of this name are not put to others, as a failure
abbrev pub failure_of_sum : List ℕ → SumFault → Failure
failure_of_sum file adding.Other = why.OtherProgram file
failure_of_sum file adding.Large = why.SumLarge file
failure_of_sum file (adding.Dict fault) = failure_of_dict file fault

-- why a sum whose last file has this name is not brought in the order of its own, as a failure
abbrev pub failure_of_finish : List ℕ → SumFault → Failure
failure_of_finish file adding.Other = why.OtherProgram file
failure_of_finish file adding.Large = why.SumLarge file
failure_of_finish file (adding.Dict fault) = why.NoMemory

-- why a file of this name is not loaded, as a failure
abbrev pub failure_of_load : List ℕ → LoadFault → Failure
failure_of_load name loading.Absent = why.Absent name
failure_of_load name loading.TooLong = why.FileLong name
failure_of_load name loading.Failed = why.ReadFault
failure_of_load name loading.Memory = why.NoMemory

-- why the input is not read, as a failure
abbrev pub failure_of_reading : ReadAllFault → Failure
failure_of_reading reading.ReadFault = why.ReadFault
failure_of_reading reading.TooLong = why.InputLong
failure_of_reading reading.Memory = why.NoMemory

-- why bytes were not put, as a failure
abbrev pub failure_of_put : PutFault → Failure
failure_of_put putting.Failed = why.WriteFault
failure_of_put putting.Memory = why.NoMemory

-- why a file was not saved, as a failure
abbrev pub failure_of_save : SaveFault → Failure
failure_of_save saving.Failed = why.WriteFault
failure_of_save saving.Memory = why.NoMemory
