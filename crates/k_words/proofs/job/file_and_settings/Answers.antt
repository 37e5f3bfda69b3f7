use Rattle.std.proofs.Common.{◌≡◌, ◌∙◌, ap, false, string_bytes, sym}
use Rattle.k_words.specs.Settings.{seen_words}
use Rattle.k_words.specs.Words.{is_no_file}
use Rattle.k_words.proofs.Answering.{wrong_option}
use Rattle.k_words.proofs.job.file_and_settings.Goals as goal

pub returns-in-Err : goal.returns-in-Err
returns-in-Err c =
    let named : is_no_file (string_bytes c.in-Some.file.now) ≡ false =
    ap is_no_file (sym c.as_str.ensures.value) ∙ sym c.is_no_file.ensures ∙ c.if-is_no_file.false in
    wrong_option c.args.command (seen_words c.args.arguments.now) (string_bytes c.in-Some.file.now) (seen_words c.in-Some.rest.now)
    (ap seen_words c.in-Some.ensures.cases.0) named c.in-Err.fault c.in-Err.ensures
