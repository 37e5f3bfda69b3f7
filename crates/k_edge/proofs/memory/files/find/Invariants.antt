use Rattle.std.proofs.Common.{◌≡◌, drop}
use Rattle.k_edge.specs.MemoryWords.{content_of}
use Rattle.k_edge.proofs.memory.files.find.Given as goal

-- the files before this one have other names
abbrev pub invariant-loop-file : goal.invariant-loop-file
invariant-loop-file l = content_of (drop l.file-index l.files) l.name ≡ content_of l.files l.name
