use Rattle.std.proofs.Common.{◌∙◌, ap, arith, string_bytes, subst, sym}
use Rattle.std.proofs.lemmas.List.{length-map}
use Rattle.k_words.specs.Settings.{TakesWord, bars, seen, seen_words, word_fault}
use Rattle.k_words.proofs.Reading.{first_wrong, read_all, read_more, seen_at}
use Rattle.k_words.proofs.settings.read_settings.Goals as goal

pub returns-in-Err : goal.returns-in-Err
returns-in-Err c =
    first_wrong c.args.command (seen_words c.args.words.now) c.words.word-index c.words.index (seen c.words.settings) c.words.invariant
    (string_bytes c.word-item.result) c.in-Err.fault
    (seen_at c.args.words.now c.words.word-index c.word-item.result c.words-test.true c.word-item.is)
    (ap (λ word. word_fault c.args.command (bars (seen c.words.settings)) word c.words.index) (sym c.as_str.ensures.value) ∙ c.in-Err.ensures)

pub words-preserved : goal.words-preserved
words-preserved c =
    read_more c.args.command (seen_words c.args.words.now) c.words.word-index c.words.index (seen c.words.settings) c.words.invariant
    (string_bytes c.word-item.result) (seen c.in-Ok.settings)
    (seen_at c.args.words.now c.words.word-index c.word-item.result c.words-test.true c.word-item.is)
    (subst (λ word. TakesWord c.args.command (seen c.words.settings) word c.words.index (seen c.in-Ok.settings)) c.as_str.ensures.value c.in-Ok.ensures)

pub returns : goal.returns
returns c =
    read_all c.args.command (seen_words c.args.words.now) c.words.word-index c.words.index (seen c.words.settings) c.words.invariant
    (omega (arith, length-map c.args.words.now string_bytes, c.words-test.false))
