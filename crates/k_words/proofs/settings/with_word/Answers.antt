use Rattle.std.proofs.Common.{◌≡◌, ◌∙◌, Some, ap, false, option_map, rules, sym}
use Rattle.k_words.specs.Setting.{option_of}
use Rattle.k_words.specs.Settings.{bars, seen, set}
use Rattle.k_words.proofs.Given.{takes_word}
use Rattle.k_words.proofs.settings.with_word.Goals as goal

pub returns-in-Some-with : goal.returns-in-Some-with
returns-in-Some-with c =
    let option : option_of c.args.command c.args.word.now ≡ Some (c.in-Some.setting, c.in-Some.value.now) = search rules in
    let first : bars (seen c.args.settings) c.in-Some.setting ≡ false = sym c.bars.ensures ∙ c.if-bars.false in
    let made : set c.args.command (seen c.args.settings) c.in-Some.setting c.in-Some.value.now ≡ Some (seen c.in-Some-with.settings) =
    sym c.with.ensures ∙ ap (option_map seen) c.in-Some-with.is in
    takes_word c.args.command (seen c.args.settings) c.args.word.now c.args.index (seen c.in-Some-with.settings) c.in-Some.setting c.in-Some.value.now option first made
