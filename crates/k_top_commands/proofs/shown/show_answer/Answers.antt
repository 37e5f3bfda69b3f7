use Rattle.std.proofs.Common.{ℕ, List, Result, Ok, Err, Vec, inl, subst}
use Rattle.std.specs.declared.alloc.Global.{Global}
use Rattle.k_edge.specs.FilesWords.{FilesState, Loads}
use Rattle.k_words.specs.declared.job.Form.{Form}
use Rattle.k_top_answers.specs.declared.answer.Answer.{Answer}
use Rattle.k_top_answers.specs.declared.failure.Failure.{Failure}
use Rattle.k_top_lemmas.specs.Parts.{ShowsBytes, ShowsFile}
use Rattle.k_top_answers.specs.Steps.{profile_limit}
use Rattle.k_top_commands.proofs.shown.show_answer.Goals as goal

-- the profile or the sum of a file that was loaded
shown : (result : Result Answer Failure) (bytes : Vec ℕ Global) (file : List ℕ) (form : Form) (old new : FilesState)
    → Loads (Ok bytes) file profile_limit old new → ShowsBytes result bytes.items form → ShowsFile result file form old new
shown (Ok answer) bytes file form old new loads shows = (bytes, loads, shows)
shown (Err failure) bytes file form old new loads refuses = inl (bytes, loads, refuses)

pub returns : goal.returns
returns g c =
    let seen = g.F.Files.seen in
    shown c.bytes_answer.result c.in_ok-bytes.bytes c.args.file c.args.form (seen c.args.files.now) (seen c.load.new.files) c.in_ok-bytes.ensures
    (subst (λ (bytes : List ℕ). ShowsBytes c.bytes_answer.result bytes c.args.form) c.as_slice.ensures.value c.bytes_answer.ensures)
