use Rattle.std.proofs.Common.{ap, ◌∙◌}
use Rattle.k_types_meaning.specs.Conversions.{Typed}
use Rattle.k_types_meaning.specs.Initialisers.{Beginning, beginning, one_given, string_of}
use Rattle.k_types_meaning.specs.Made.{Fine, then_made}
use Rattle.k_types_rules.specs.Views.{type_of, typed}
use Rattle.k_types_declarations.specs.Objects.{kept_option}
use Rattle.k_types_declarations.proofs.initialiser.begun_by_one.Goals as goal

pub returns : goal.returns
returns c =
    let given = c.in_ok-judged.ensures in
    let v : Typed = typed c.in_ok-judged.judged given.0 in
    let start : Beginning = beginning (one_given c.args.file (type_of c.args.of) (string_of c.args.value.now) v) given.0 in (
      start,
      ap (λ m. then_made m (λ (w : Typed). Fine (beginning (one_given c.args.file (type_of c.args.of) (string_of c.args.value.now) w) w.taken))) given.1,
      c.in_ok-init.ensures given.0 ∙ ap (λ t. kept_option c.args.kept (one_given c.args.file (type_of c.args.of) t v)) c.string_in.ensures,
      given.2,
    )
