-- The value of a document is simple.
use Rattle.std.proofs.Common.{ℕ, ℤ, pos, negsuc, ◌-◌, ◌^◌, ◌<◌, List, [], ◌∷◌, All, Option, Some, None, IfSome, refl, arith, IsUtf8, FitsSigned, w32}
use Rattle.std.specs.Fmt.{signed_decimal}
use Rattle.std.proofs.lemmas.List.Elements.{All-head}
use Rattle.std.proofs.lemmas.Str.{IsUtf8-from_ascii}
use Rattle.std.proofs.lemmas.Fmt.{IsAscii-decimal, IsAscii-signed}
use lib.Signed.{mag}
use Rattle.json.specs.Json.{number}
use Rattle.json.proofs.Printed.Decimals.{IsNumber-decimal, IsNumber-signed_decimal}
use Rattle.json.proofs.Printed.Utf8.{IsUtf8-are_ascii}
use Rattle.k_optab.specs.declared.region.Region.{Region}
use Rattle.k_optab.specs.declared.region.RegionKind.{RegionKind}
use Rattle.k_optab.specs.declared.region.RegionKind.TheVariants.{Func, Loop, Body}
use Rattle.k_dict_entries.specs.declared.entry.Entry.{Entry}
use Rattle.k_dict_entries.specs.declared.entry.Run.{Run}
use Rattle.k_dict_saved.specs.Lines.{IsRegion}
use Rattle.k_plan.specs.declared.advice.Advice.{Advice}
use Rattle.k_plan.specs.declared.advice.Pick.{Pick}
use Rattle.k_selfpar.specs.Contexts.{root_work}
use Rattle.k_selfpar.specs.declared.context.Context.{Context}
use Rattle.k_selfpar.specs.declared.row.Row.{Row}
use Rattle.k_text.specs.Texts.{kind_text}
use Rattle.k_data_laws.specs.Values.{natural, fraction_value, sums_members, members_of, region_value, row_value, context_value, pick_value, run_value, entry_value, plan_value, dict_members, document_value}
use Rattle.k_data_laws.proofs.Bytes.{bare_ascii, name_bare}
use Rattle.k_data_laws.proofs.Simple.{HaveSimple, IsSimple, items_simple}
use Rattle.k_data_laws.proofs.Within.{AreSmallSums, AreWithin, IsSmallAdvice, IsSmallContext, IsSmallEntry, IsSmallPick, IsSmallRow, IsSmallRun, Parts, value_of}

simple_number : (n d : ℕ) → n < 2 ^ 64 → IsSimple (natural n) d
simple_number n d h = (IsNumber-decimal n h, IsUtf8-from_ascii _ (IsAscii-decimal n h))

small_exit : (z : ℤ) → FitsSigned w32 z → mag z < 2 ^ 63
small_exit (pos n) h = omega (arith, h.sfits)
small_exit (negsuc n) h = omega (arith, h.sfits)

simple_exit : (z : ℤ) (d : ℕ) → FitsSigned w32 z → IsSimple (number (signed_decimal z)) d
simple_exit z d h = let s = small_exit z h in (IsNumber-signed_decimal z s, IsUtf8-from_ascii _ (IsAscii-signed z s))

kind_utf8 : (kind : RegionKind) → IsUtf8 (kind_text kind)
kind_utf8 Func = IsUtf8-are_ascii _ refl
kind_utf8 Loop = IsUtf8-are_ascii _ refl
kind_utf8 Body = IsUtf8-are_ascii _ refl

simple_fraction : (f : ℕ × ℕ) (d : ℕ) → 0 < d → f.0 < 2 ^ 64 → f.1 < 2 ^ 64 → IsSimple (fraction_value f) d
unfolding fraction_value
simple_fraction f d some num den =
    (some, (IsUtf8-are_ascii _ refl, simple_number f.0 (d - 1) num, (IsUtf8-are_ascii _ refl, simple_number f.1 (d - 1) den, tt)))

simple_sums : (instances work path : ℕ) (sp : ℕ × ℕ) (d : ℕ) → 0 < d → AreSmallSums instances work path sp → HaveSimple (members_of (sums_members instances work path sp)) d
simple_sums instances work path sp d some h = (
  IsUtf8-are_ascii _ refl,
  simple_number instances d h.count_is,
  (
    IsUtf8-are_ascii _ refl,
    simple_number work d h.work_is,
    (
      IsUtf8-are_ascii _ refl,
      simple_number path d h.path_is,
      (IsUtf8-are_ascii _ refl, simple_fraction sp d some h.num_is h.den_is, tt),
    ),
  ),
)

simple_region : (region : Region) (d : ℕ) → 0 < d → IsRegion region → IsSimple (region_value region) d
unfolding region_value
simple_region region d some h = (
  some,
  (
    IsUtf8-are_ascii _ refl,
    kind_utf8 region.kind,
    (
      IsUtf8-are_ascii _ refl,
      IsUtf8-from_ascii _ (bare_ascii region.func (name_bare region.func h.func)),
      (
        IsUtf8-are_ascii _ refl,
        simple_number region.place.line (d - 1) (omega (arith, h.line.1)),
        (IsUtf8-are_ascii _ refl, simple_number region.place.column (d - 1) (omega (arith, h.column.1)), tt),
      ),
    ),
  ),
)

simple_row : (row : Row) (d : ℕ) → 1 < d → IsSmallRow row → IsSimple (row_value row) d
unfolding row_value
simple_row row d some h = (
  omega arith,
  (
    IsUtf8-are_ascii _ refl,
    simple_number row.region (d - 1) h.region,
    simple_sums row.instances row.work row.path row.sp (d - 1) (omega arith) h.sums,
  ),
)

simple_context : (context : Context) (d : ℕ) → 1 < d → IsSmallContext context → IsSimple (context_value context) d
unfolding context_value
simple_context context d some h = (
  omega arith,
  (
    IsUtf8-are_ascii _ refl,
    simple_number context.parent (d - 1) h.parent,
    (
      IsUtf8-are_ascii _ refl,
      simple_number context.region (d - 1) h.region,
      (
        IsUtf8-are_ascii _ refl,
        simple_number context.turns (d - 1) h.turns,
        simple_sums context.instances context.work context.path context.sp (d - 1) (omega arith) h.sums,
      ),
    ),
  ),
)

simple_pick : (pick : Pick) (d : ℕ) → 0 < d → IsSmallPick pick → IsSimple (pick_value pick) d
unfolding pick_value
simple_pick pick d some h = (
  some,
  (
    IsUtf8-are_ascii _ refl,
    simple_number pick.context (d - 1) h.context,
    (
      IsUtf8-are_ascii _ refl,
      tt,
      (IsUtf8-are_ascii _ refl, simple_number pick.saves (d - 1) h.saves, tt),
    ),
  ),
)

simple_run : (run : Run) (d : ℕ) → 0 < d → IsSmallRun run → IsSimple (run_value run) d
unfolding run_value
simple_run run d some h =
    (some, (IsUtf8-are_ascii _ refl, simple_number run.entry (d - 1) h.entry, (IsUtf8-are_ascii _ refl, simple_number run.count (d - 1) h.count, tt)))

simple_entry : (entry : Entry) (d : ℕ) → 2 < d → IsSmallEntry entry → IsSimple (entry_value entry) d
unfolding entry_value
simple_entry entry d some h = (
  omega arith,
  (
    IsUtf8-are_ascii _ refl,
    simple_number entry.region (d - 1) h.region,
    (
      IsUtf8-are_ascii _ refl,
      simple_number entry.work (d - 1) h.work,
      (
        IsUtf8-are_ascii _ refl,
        simple_number entry.path (d - 1) h.path,
        (IsUtf8-are_ascii _ refl, (omega arith, items_simple run_value IsSmallRun (d - 1 - 1) (λ run. simple_run run (d - 1 - 1) (omega arith)) entry.runs h.runs), tt),
      ),
    ),
  ),
)

simple_plan : (plan : Option Advice) (work : ℕ) (d : ℕ) → 2 < d → IfSome plan IsSmallAdvice → work < 2 ^ 64 → IsSimple (plan_value plan work) d
unfolding plan_value
simple_plan None work d some h small = tt
simple_plan (Some advice) work d some h small = (
  omega arith,
  (
    IsUtf8-are_ascii _ refl,
    (omega arith, items_simple pick_value IsSmallPick (d - 1 - 1) (λ pick. simple_pick pick (d - 1 - 1) (omega arith)) advice.picks h.picks),
    (
      IsUtf8-are_ascii _ refl,
      simple_number advice.total (d - 1) h.total,
      (IsUtf8-are_ascii _ refl, simple_number work (d - 1) small, tt),
    ),
  ),
)

simple_dict : (dict : Option (List Entry)) (d : ℕ) → 3 < d → IfSome dict (All IsSmallEntry) → HaveSimple (members_of (dict_members dict)) d
simple_dict None d some h = tt
simple_dict (Some entries) d some h =
    (IsUtf8-are_ascii _ refl, (omega arith, items_simple entry_value IsSmallEntry (d - 1) (λ entry. simple_entry entry (d - 1) (omega arith)) entries h), tt)

root_small : (contexts : List Context) → All IsSmallContext contexts → root_work contexts < 2 ^ 64
root_small [] h = omega arith
root_small (root ∷ contexts) h = (All-head IsSmallContext root contexts h).sums.work_is

pub document_simple : (p : Parts) → AreWithin p → IsSimple (value_of p) 128
unfolding document_value
document_simple p h = (
  omega arith,
  (
    IsUtf8-are_ascii _ refl,
    simple_exit p.exit 127 h.exit,
    (
      IsUtf8-are_ascii _ refl,
      simple_number p.ops 127 h.ops,
      (
        IsUtf8-are_ascii _ refl,
        (omega arith, items_simple region_value IsRegion 126 (λ region. simple_region region 126 (omega arith)) p.regions h.regions),
        (
          IsUtf8-are_ascii _ refl,
          (omega arith, items_simple row_value IsSmallRow 126 (λ row. simple_row row 126 (omega arith)) p.rows h.rows),
          (
            IsUtf8-are_ascii _ refl,
            (omega arith, items_simple context_value IsSmallContext 126 (λ context. simple_context context 126 (omega arith)) p.contexts h.contexts),
            (
              IsUtf8-are_ascii _ refl,
              simple_plan p.plan (root_work p.contexts) 127 (omega arith) h.plan (root_small p.contexts h.contexts),
              simple_dict p.dict 127 (omega arith) h.dict,
            ),
          ),
        ),
      ),
    ),
  ),
)
