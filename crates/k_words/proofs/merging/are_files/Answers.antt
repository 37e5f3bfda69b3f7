use Rattle.std.proofs.Common.{Some, ◌∙◌, ap, string_bytes, sym}
use Rattle.k_words.specs.Settings.{seen_words}
use Rattle.k_words.specs.Words.{merged_fault}
use Rattle.k_words.proofs.FilesToMerge.{first_wrong}
use Rattle.k_words.proofs.Reading.{seen_at}
use Rattle.k_words.proofs.merging.are_files.Goals as goal

pub returns-in-Some : goal.returns-in-Some
returns-in-Some c =
    first_wrong (seen_words c.args.arguments.now) c.words.word-index c.words.number c.words.invariant (string_bytes c.word-item.result) c.in-Some.fault
    (seen_at c.args.arguments.now c.words.word-index c.word-item.result c.words-test.true c.word-item.is)
    (ap (λ word. merged_fault (Some word) c.words.number) (sym c.as_str.ensures.value) ∙ sym c.merged_fault.ensures.fault ∙ c.in-Some.is)
