use Rattle.std.proofs.Common.{◌≡◌, ◌++◌, drop}
use Rattle.std.specs.List.{flat_map}
use Rattle.k_report.specs.Graph.{source_text}
use Rattle.k_report.proofs.event_lines.push_some_sources.Given as goal

abbrev pub invariant-loop-src : goal.invariant-loop-src
invariant-loop-src l = l.text.items ++ flat_map source_text (drop l.src-index l.sources) ≡ l.fn.text.items ++ flat_map source_text l.fn.sources
