use Rattle.k_optab.proofs.History.{longer_keeps_path, shorter_keeps_path, longer_keeps_heaviest, shorter_keeps_heaviest, longer_keeps_time, shorter_keeps_time}
use Rattle.k_optab.proofs.laws.longer_history.Goals as goal

pub returns-clause-paths : goal.returns-clause-paths
returns-clause-paths c = λ ops more s e k w nodes within.
    (longer_keeps_path ops more s e k w nodes within, shorter_keeps_path ops more s e k w nodes within)

pub returns-clause-heaviest : goal.returns-clause-heaviest
returns-clause-heaviest c = λ ops more s e p within.
    (longer_keeps_heaviest ops more s e p within, shorter_keeps_heaviest ops more s e p within)

pub returns-clause-times : goal.returns-clause-times
returns-clause-times c = λ ops more s q t within.
    (longer_keeps_time ops more s q t within, shorter_keeps_time ops more s q t within)
