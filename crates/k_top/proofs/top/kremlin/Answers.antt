use Rattle.std.proofs.Common.{map}
use Rattle.std.specs.Prelude.{string_bytes}
use Rattle.k_top_answers.specs.Clauses.{World}
use Rattle.k_top_lemmas.proofs.Keeping.{keeps}
use Rattle.k_top_lemmas.proofs.OneAnswer.{answers_are_unique}
use Rattle.k_top.proofs.top.kremlin.Goals as goal

pub perform-ending-requires-clause-registers : goal.perform-ending-requires-clause-registers
perform-ending-requires-clause-registers g c = record { is_empty = c.requires.registers; limit = c.requires.register_limit }

pub perform-ending-requires-clause-pages : goal.perform-ending-requires-clause-pages
perform-ending-requires-clause-pages g c = record { is_empty = c.requires.pages; limit = c.requires.page_limit }

pub returns : goal.returns
returns g c =
    let old : World =
    record { files = g.F.Files.seen c.args.files.now; input = g.S.Source.seen c.args.input.now; out = g.K.Sink.seen c.args.out.now; err = g.E.Sink.seen c.args.err.now } in
    let new : World = record {
      files = g.F.Files.seen c.perform-ending.new.files;
      input = g.S.Source.seen c.perform-ending.new.input;
      out = g.K.Sink.seen c.perform-ending.new.out;
      err = g.E.Sink.seen c.tell-status.new.err;
    } in
    keeps answers_are_unique (map string_bytes c.args.words.now) c.tell-status.result c.perform-ending.result old new c.perform-ending.ensures c.tell-status.ensures
