use Rattle.std.proofs.Common.{ap, drop, string_bytes, sym, ◌+◌, ◌∙◌}
use Rattle.k_words.specs.Parts.{all_times, parts_of, with_file}
use Rattle.k_words.specs.Settings.{seen_words}
use Rattle.k_words.proofs.Naming.{next_word, times_with}
use Rattle.k_words.proofs.merging.parts_of.Goals as goal

pub loop-word-preserved : goal.loop-word-preserved
loop-word-preserved c =
    let named = c.in_ok-name_file.ensures ∙ ap (with_file c.loop-word.parts.items) c.as_str.ensures.value in
    let behind = seen_words (drop (c.loop-word.word-index + 1) c.args.words.now) in
    record {
      whole = ap (λ parts. parts_of parts behind) named
          ∙ ap (parts_of c.loop-word.parts.items) (sym (next_word c.args.words.now c.loop-word.word-index c.word-item.result c.loop-word-test.true c.word-item.is))
          ∙ c.loop-word.invariant.whole;
      count = ap all_times named ∙ times_with c.loop-word.parts.items (string_bytes c.word-item.result) ∙ ap (λ n. n + 1) c.loop-word.invariant.count;
    }
