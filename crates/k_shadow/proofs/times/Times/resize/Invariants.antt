use Rattle.std.proofs.Common.{◌≡◌, ◌++◌, ◌-◌, length, take, replicate}
use Rattle.k_shadow.proofs.times.Times.resize.Given as goal

-- the list was cut, and filled up to this level
abbrev pub invariant-loop-level : goal.invariant-loop-level
invariant-loop-level l = record {
  times : l.self-inside.items.items ≡ take l.len l.fn.self ++ replicate (l._level - length l.fn.self) 0;
  capacity : l.self-inside.items.capacity ≡ 32;
  counted : length l.self-inside.items.items ≡ l._level;
}
