use Rattle.std.proofs.Common.{◌≡◌, ◌≤◌, vec_len}
use Rattle.k_shadow.specs.Maps.{levels_in}
use Rattle.k_shadow.proofs.maps.add_maps.Given as goal

abbrev pub invariant-loop-level : goal.invariant-loop-level
invariant-loop-level l = record {
  counted : vec_len l.maps ≡ l._level;
  longer : vec_len l.initial.maps ≤ vec_len l.maps;
  unchanged : vec_len l.maps ≡ vec_len l.initial.maps → l.maps.items ≡ l.initial.maps.items;
  levels : levels_in l.maps.items l.count ≡ levels_in l.initial.maps.items l.count;
}
