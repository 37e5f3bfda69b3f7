-- For contracts between crates: nobody has to believe it.
-- How large the trees of entries are.
use Rattle.std.specs.Prelude.{ℕ, ◌+◌, ◌-◌, ◌*◌, max, min, Bool, ◌&&◌, nat_le, nat_lt, List, [], ◌∷◌, map, slice_index_or}
use Rattle.k_dict_entries.specs.Entries.{trees_of}
use Rattle.k_dict_entries.specs.Trees.{Tree, alone, height, size}
use Rattle.k_dict_entries.specs.declared.entry.Entry.{Entry}
use Rattle.k_dict_entries.specs.declared.entry.Run.{Run}
use Rattle.k_dict_entries.specs.Rules.{entry_of}
use Rattle.k_dict_saved.specs.declared.reading.extents.Extent.{Extent}
use Rattle.k_dict_saved.specs.declared.reading.extents.Sums.{Sums}

-- the levels and the instances of a tree
abbrev pub extent_of : Tree → Extent
extent_of t = record { levels = height (alone t); instances = size (alone t) }

-- those of the trees of entries
abbrev pub extents_of : List Entry → List Extent
extents_of entries = map extent_of (trees_of entries)

-- those of no tree
abbrev pub no_extent : Extent
no_extent = record { levels = 0; instances = 0 }

-- the extent of the entry of a number
abbrev pub extent_at : List Extent → ℕ → Extent
extent_at extents n = slice_index_or extents n no_extent

-- the levels of the children of these runs
abbrev pub child_levels : List Extent → List Run → ℕ
child_levels extents [] = 0
child_levels extents (run ∷ runs) = max (extent_at extents run.entry).levels (child_levels extents runs)

-- their instances
abbrev pub child_instances : List Extent → List Run → ℕ
child_instances extents [] = 0
child_instances extents (run ∷ runs) = run.count * (extent_at extents run.entry).instances + child_instances extents runs

-- a number, or the greatest of 64 bits where it is no less
abbrev pub capped : ℕ → ℕ
capped n = min n 18446744073709551615

-- what no children have together
abbrev pub no_sums : Sums
no_sums = record { works = 0; paths = 0; longest = 0; levels = 0; instances = 0 }

-- the sums with the children of one more run
abbrev pub with_run : Sums → Run → Entry → Extent → Sums
with_run s run e x = record {
  works = capped (s.works + run.count * e.work);
  paths = capped (s.paths + run.count * e.path);
  longest = max s.longest e.path;
  levels = max s.levels x.levels;
  instances = capped (s.instances + run.count * x.instances);
}

-- the sums with the children of these runs
abbrev pub sums_from : List Entry → List Extent → Sums → List Run → Sums
sums_from entries extents s [] = s
sums_from entries extents s (run ∷ runs) = sums_from entries extents (with_run s run (entry_of entries run.entry) (extent_at extents run.entry)) runs

-- whether an entry keeps within the rules, where its children have these together
abbrev pub is_within : Entry → Sums → Bool
is_within e s =
    nat_le e.work 17592186044416 && (nat_le s.works e.work && (nat_le e.path e.work && (nat_le s.longest e.path
    && (nat_le (e.path - s.paths) (e.work - s.works) && (nat_lt s.levels 32 && nat_lt s.instances 576460752303423488)))))

-- the extent of the tree whose children have these together
abbrev pub extent_over : Sums → Extent
extent_over s = record { levels = 1 + s.levels; instances = 1 + s.instances }
