use Rattle.std.proofs.Common.{◌≡◌, drop, map, nat_eq}
use Rattle.std.specs.Cmp.Lexicographic.{pointwise}
use Rattle.std.specs.List.{list_any}
use Rattle.k_scan.proofs.names.is_among.Given as goal

abbrev pub invariant-loop-word : goal.invariant-loop-word
invariant-loop-word l =
    list_any (λ word. pointwise nat_eq word l.text) (map (λ word. word.now) (drop l.word-index l.words)) ≡ list_any (λ word. pointwise nat_eq word l.text) (map (λ word. word.now) l.words)
