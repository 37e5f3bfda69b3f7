use Rattle.std.proofs.Common.{ℕ, List, Result, Ok, Err, Vec, inl, subst}
use Rattle.std.specs.declared.alloc.Global.{Global}
use Rattle.k_edge.specs.FilesWords.{FilesState, Loads}
use Rattle.k_top_answers.specs.declared.failure.Failure.{Failure}
use Rattle.k_top_lemmas.specs.Parts.{GivesTable, LoadsNamed}
use Rattle.k_top_answers.specs.Steps.{file_limit}
use Rattle.k_top_programs.proofs.loading.load_table.Goals as goal

-- the table of a file that was loaded
read : (result : Result (List ℕ) Failure) (bytes : Vec ℕ Global) (name : List ℕ) (old new : FilesState) → Loads (Ok bytes) name file_limit old new
    → GivesTable result bytes.items → LoadsNamed result name old new
read (Ok latencies) bytes name old new loads gives = (bytes, loads, gives)
read (Err failure) bytes name old new loads gives = inl (bytes, loads, gives)

pub returns-clause-table : goal.returns-clause-table
returns-clause-table g c =
    let seen = g.F.Files.seen in
    read c.table.result c.in_ok-bytes.bytes c.args.name (seen c.args.files.now) (seen c.load.new.files) c.in_ok-bytes.ensures
    (subst (λ (bytes : List ℕ). GivesTable c.table.result bytes) c.as_slice.ensures.value c.table.ensures.table)
