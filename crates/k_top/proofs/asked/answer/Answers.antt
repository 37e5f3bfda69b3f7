use Rattle.std.proofs.Common.{◌∙◌, Some, ap, map, refl, sym, subst}
use Rattle.std.specs.Prelude.{string_bytes}
use Rattle.k_words.specs.About.{help_text, version_text}
use Rattle.k_words.specs.declared.about.Asked.TheVariants.{Help, Version}
use Rattle.k_top_lemmas.specs.Parts.{GivesText}
use Rattle.k_top_lemmas.proofs.AskedLemmas.{text_told}
use Rattle.k_top_lemmas.proofs.Streaming.{nothing_first_of}
use Rattle.k_top.proofs.asked.answer.Goals as goal

pub words_answer-requires-clause-none : goal.words_answer-requires-clause-none
words_answer-requires-clause-none g c = sym c.asked_for.ensures ∙ c.in-None.is

pub returns-in-Some-Help : goal.returns-in-Some-Help
returns-in-Some-Help g c =
    nothing_first_of c.text_answer.result (map string_bytes c.args.list.now) _ _ _ _ refl
    (text_told (map string_bytes c.args.list.now) Help help_text (sym c.asked_for.ensures ∙ c.in-Some-Help.is ∙ ap Some c.in-Some-Help.field-0-is) (λ answer is outside. is) c.text_answer.result
    (subst (GivesText c.text_answer.result) c.help.ensures c.text_answer.ensures) _ _ refl)

pub returns-in-Some-Version : goal.returns-in-Some-Version
returns-in-Some-Version g c =
    nothing_first_of c.text_answer-in-Some-Version.result (map string_bytes c.args.list.now) _ _ _ _ refl
    (text_told (map string_bytes c.args.list.now) Version version_text (sym c.asked_for.ensures ∙ c.in-Some-Version.is ∙ ap Some c.in-Some-Version.field-0-is) (λ answer is outside. is)
    c.text_answer-in-Some-Version.result
    (subst (GivesText c.text_answer-in-Some-Version.result) c.version.ensures c.text_answer-in-Some-Version.ensures) _ _ refl)
