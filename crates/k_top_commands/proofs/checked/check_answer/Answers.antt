use Rattle.std.proofs.Common.{ℕ, ◌≡◌, ◌∙◌, List, Result, Ok, Err, Vec, inl, subst}
use Rattle.std.specs.declared.alloc.Global.{Global}
use Rattle.k_edge.specs.FilesWords.{FilesState, Loads}
use Rattle.k_top_answers.specs.declared.answer.Answer.{Answer}
use Rattle.k_top_answers.specs.declared.failure.Failure.{Failure}
use Rattle.k_top_lemmas.specs.Parts.{ChecksFile, ChecksSource}
use Rattle.k_top_answers.specs.Steps.{file_limit}
use Rattle.k_top_commands.proofs.checked.check_answer.Goals as goal

-- the source of a file that was loaded
told : (result : Result Answer Failure) (bytes : Vec ℕ Global) (file : List ℕ) (old new : FilesState) → Loads (Ok bytes) file file_limit old new
    → ChecksSource result file bytes.items → ChecksFile result file old new
told (Ok answer) bytes file old new loads checks = (bytes, loads, checks)
told (Err failure) bytes file old new loads checks = inl (bytes, loads, checks)

pub returns : goal.returns
returns g c =
    let seen = g.F.Files.seen in
    let name : c.in_ok-name.name ≡ c.args.file = c.in_ok-name.ensures ∙ c.as_str.ensures in
    told c.source_answer.result c.in_ok-bytes.bytes c.args.file (seen c.args.files.now) (seen c.load.new.files)
    (subst (λ (n : List ℕ). Loads (Ok c.in_ok-bytes.bytes) n file_limit (seen c.args.files.now) (seen c.load.new.files)) name c.in_ok-bytes.ensures)
    (subst (λ (s : List ℕ). ChecksSource c.source_answer.result c.args.file s) c.as_slice.ensures.value
    (subst (λ (f : List ℕ). ChecksSource c.source_answer.result f c.as_slice.result.now) c.as_str-2.ensures c.source_answer.ensures))
