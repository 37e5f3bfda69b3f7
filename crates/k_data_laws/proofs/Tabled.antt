-- What is written of rows is read as their records.
use Rattle.std.proofs.Common.{◌≡◌, ℕ, ◌^◌, ◌<◌, List, [], ◌∷◌, ◌++◌, map, All, length, Some, None, inl, inr, refl, sym, ap, ap₂, ◌∙◌, subst, subst₂, append_assoc, codes, arith}
use Rattle.std.specs.Fmt.{decimal}
use Rattle.std.specs.List.{flat_map}
use Rattle.std.proofs.lemmas.Bool.{ne_eqb}
use Rattle.std.proofs.lemmas.Fmt.{decimal_nonempty}
use Rattle.std.proofs.lemmas.List.Elements.{All-head, All-tail}
use Rattle.std.proofs.lemmas.Option.{none-some, same_Some, slice_get_cases}
use Rattle.csv.specs.Machine.{Read, next_record}
use Rattle.csv.specs.declared.parser.Config.{Config}
use Rattle.csv.specs.Reading.{AreRecords, Reached, default_config, strip_bom}
use Rattle.csv.specs.declared.parser.State.{State}
use Rattle.csv.specs.declared.parser.State.TheVariants as st
use Rattle.csv.proofs.RoundTrip.{plain-run, record-same, start-same}
use Rattle.k_scan.specs.Names.{is_name}
use Rattle.k_optab.specs.declared.region.Region.{Region}
use Rattle.k_optab.specs.declared.region.RegionKind.{RegionKind}
use Rattle.k_optab.specs.declared.region.RegionKind.TheVariants.{Func, Loop, Body}
use Rattle.k_dict_saved.specs.Lines.{IsRegion}
use Rattle.k_selfpar.specs.declared.row.Row.{Row}
use Rattle.k_text.specs.Texts.{kind_text, written}
use Rattle.k_data.specs.Table.{names_line, row_fields, row_line, rows_csv}
use Rattle.k_data_laws.specs.Fields.{fields_of_row, fields_where, names_record, row_record, table_records}
use Rattle.k_data_laws.proofs.Bytes.{AreBare, bare_field, decimal_bare, name_bare}
use Rattle.k_data_laws.proofs.Within.{AreWithinTable, IsSmallRow}

-- each field is bare
abbrev AllBare : List (List ℕ) → Type 0
AllBare [] = Unit {0}
AllBare (x ∷ fields) = AreBare x × AllBare fields

-- the text of the fields behind the first, up to the end of a line
abbrev fields_onto : List (List ℕ) → List ℕ → List ℕ
fields_onto [] rest = 13 ∷ 10 ∷ rest
fields_onto (x ∷ fields) rest = 44 ∷ (x ++ fields_onto fields rest)

abbrev record_onto : List ℕ → List (List ℕ) → List ℕ → List ℕ
record_onto x fields rest = x ++ fields_onto fields rest

bare_start : (done : List (List ℕ)) (x : List ℕ) (fields : List (List ℕ)) (rest : List ℕ) → AreBare x
    → next_record default_config st.StartField done [] (x ++ fields_onto fields rest) ≡ next_record default_config st.InField done x (fields_onto fields rest)
bare_start done [] [] rest h = start-same done [] 13 (10 ∷ rest) refl
bare_start done [] (y ∷ fields) rest h = start-same done [] 44 (y ++ fields_onto fields rest) refl
bare_start done (b ∷ x) fields rest h =
    start-same done [] b (x ++ fields_onto fields rest) (ne_eqb b 34 (λ e. omega (arith, h.0.from)))
    ∙ plain-run done [] (b ∷ x) (fields_onto fields rest) (bare_field (b ∷ x) h)

fields_read : (done : List (List ℕ)) (x : List ℕ) (fields : List (List ℕ)) (rest : List ℕ) → AllBare fields
    → next_record default_config st.InField done x (fields_onto fields rest) ≡ Some (done ++ (x ∷ fields), st.AfterCr, 10 ∷ rest)
unfolding next_record
fields_read done x [] rest h = refl
fields_read done x (y ∷ fields) rest h =
    bare_start (done ++ (x ∷ [])) y fields rest h.0 ∙ fields_read (done ++ (x ∷ [])) y fields rest h.1
    ∙ ap (λ l. Some (l, st.AfterCr, 10 ∷ rest)) (append_assoc done (x ∷ []) (y ∷ fields))

-- a line whose first field is not empty is read as its record
record_read : (b : ℕ) (x : List ℕ) (fields : List (List ℕ)) (rest : List ℕ) → AreBare (b ∷ x) → AllBare fields
    → next_record default_config st.StartRecord [] [] (record_onto (b ∷ x) fields rest) ≡ Some ((b ∷ x) ∷ fields, st.AfterCr, 10 ∷ rest)
record_read b x fields rest h all =
    record-same [] [] b (x ++ fields_onto fields rest) (ne_eqb b 13 (λ e. omega (arith, h.0.from))) (ne_eqb b 10 (λ e. omega (arith, h.0.from)))
    ∙ bare_start [] (b ∷ x) fields rest h ∙ fields_read [] (b ∷ x) fields rest all

-- between two lines stands what is left of the end of the first
line_fed : (rest : List ℕ) → next_record default_config st.AfterCr [] [] (10 ∷ rest) ≡ next_record default_config st.StartRecord [] [] rest
unfolding next_record
line_fed rest = refl

-- the first field of a row is not empty
number_read : (n : ℕ) (fields : List (List ℕ)) (rest : List ℕ) → n < 2 ^ 64 → AllBare fields
    → next_record default_config st.StartRecord [] [] (record_onto (decimal n) fields rest) ≡ Some (decimal n ∷ fields, st.AfterCr, 10 ∷ rest)
number_read n fields rest small all = go (decimal n) (decimal_nonempty n small) (decimal_bare n small)
  where
    go : (x : List ℕ) → 0 < length x → AreBare x
        → next_record default_config st.StartRecord [] [] (record_onto x fields rest) ≡ Some (x ∷ fields, st.AfterCr, 10 ∷ rest)
    go [] some h = absurd (omega arith)
    go (b ∷ x) some h = record_read b x fields rest h all

kind_bare : (kind : RegionKind) → AreBare (kind_text kind)
unfolding is_name
kind_bare Func = name_bare (codes "func") refl
kind_bare Loop = name_bare (codes "loop") refl
kind_bare Body = name_bare (codes "body") refl

row_parts : (n a k b f c l d m e i g w h p o s q t z rest : List ℕ)
    → (n ++ (a ++ k ++ b ++ f ++ c ++ l ++ d ++ m) ++ (e ++ i ++ g ++ w ++ h ++ p ++ o ++ s ++ q ++ t ++ z)) ++ rest
    ≡ n ++ (a ++ (k ++ (b ++ (f ++ (c ++ (l ++ (d ++ (m ++ (e ++ (i ++ (g ++ (w ++ (h ++ (p ++ (o ++ (s ++ (q ++ (t ++ (z ++ rest)))))))))))))))))))
row_parts n a k b f c l d m e i g w h p o s q t z rest = simp append_assoc

row_text : (row : Row) (region : Region) (rest : List ℕ)
    → row_fields row region ++ rest ≡ record_onto (decimal row.region)
    (kind_text region.kind ∷ region.func ∷ decimal region.place.line ∷ decimal region.place.column
    ∷ decimal row.instances ∷ decimal row.work ∷ decimal row.path ∷ decimal row.sp.0 ∷ decimal row.sp.1 ∷ []) rest
row_text row region rest =
    let c = codes "," in
    row_parts (decimal row.region) c (kind_text region.kind) c region.func c (decimal region.place.line) c (decimal region.place.column)
    c (decimal row.instances) c (decimal row.work) c (decimal row.path) c (decimal row.sp.0) c (decimal row.sp.1) (codes "\r\n") rest

row_read : (row : Row) (region : Region) (rest : List ℕ) → IsSmallRow row → IsRegion region
    → next_record default_config st.StartRecord [] [] (row_fields row region ++ rest) ≡ Some (fields_of_row row region, st.AfterCr, 10 ∷ rest)
unfolding fields_of_row
row_read row region rest small is =
    ap (next_record default_config st.StartRecord [] []) (row_text row region rest)
    ∙ number_read row.region _ rest small.region (
      kind_bare region.kind,
      (
        name_bare region.func is.func,
        (
          decimal_bare region.place.line (omega (arith, is.line.1)),
          (
            decimal_bare region.place.column (omega (arith, is.column.1)),
            (
              decimal_bare row.instances small.sums.count_is,
              (
                decimal_bare row.work small.sums.work_is,
                (
                  decimal_bare row.path small.sums.path_is,
                  (
                    decimal_bare row.sp.0 small.sums.num_is,
                    (decimal_bare row.sp.1 small.sums.den_is, tt),
                  ),
                ),
              ),
            ),
          ),
        ),
      ),
    )

-- the line of a row that names a region of the list
line_read : (regions : List Region) (row : Row) (rest : List ℕ) → All IsRegion regions → IsSmallRow row → row.region < length regions
    → next_record default_config st.StartRecord [] [] (row_line regions row ++ rest) ≡ Some (row_record regions row, st.AfterCr, 10 ∷ rest)
line_read regions row rest are small named = elim (slice_get_cases regions row.region).1 [
  | inl here ↦
      let (region, within, is, at) = here in
      let region_is : IsRegion region = subst IsRegion at (are row.region region within) in
      (λ i. next_record default_config st.StartRecord [] [] (written (row_fields row) (is i) ++ rest)) ∙ row_read row region rest small region_is
      ∙ (λ i. Some (fields_where row (sym is i), st.AfterCr, 10 ∷ rest))
  | inr past ↦ absurd (omega (arith, past.0))
]

names_read : (rest : List ℕ) → next_record default_config st.StartRecord [] [] (names_line ++ rest) ≡ Some (names_record, st.AfterCr, 10 ∷ rest)
unfolding next_record
names_read rest = refl

lines_read : (regions : List Region) (rows : List Row) → All IsRegion regions → All IsSmallRow rows → All (λ (row : Row). row.region < length regions) rows
    → Reached default_config st.AfterCr (10 ∷ flat_map (row_line regions) rows) (map (row_record regions) rows) st.AfterCr (10 ∷ [])
unfolding Reached
lines_read regions [] are small named = (refl, refl)
lines_read regions (row ∷ rows) are small named =
    let rest = flat_map (row_line regions) rows in (
      (row_record regions row, st.AfterCr, 10 ∷ rest),
      line_fed (row_line regions row ++ rest)
          ∙ line_read regions row rest are (All-head IsSmallRow row rows small) (All-head (λ (r : Row). r.region < length regions) row rows named),
      refl,
      lines_read regions rows are (All-tail IsSmallRow row rows small) (All-tail (λ (r : Row). r.region < length regions) row rows named),
    )

nothing_left : next_record default_config st.AfterCr [] [] (10 ∷ []) ≡ None
unfolding next_record
nothing_left = refl

-- the records of a table are the names and those of the rows
pub table_read : (regions : List Region) (rows : List Row) → AreWithinTable regions rows
    → AreRecords default_config st.StartRecord (rows_csv regions rows) (table_records regions rows)
unfolding Reached
table_read regions rows h = (
  st.AfterCr,
  10 ∷ [],
  ((names_record, st.AfterCr, 10 ∷ flat_map (row_line regions) rows), names_read (flat_map (row_line regions) rows), refl, lines_read regions rows h.are_regions h.are_small h.named),
  nothing_left,
)

-- nothing stands before a table
pub table_unmarked : (regions : List Region) (rows : List Row) → strip_bom (rows_csv regions rows) ≡ rows_csv regions rows
unfolding strip_bom
table_unmarked regions rows = refl

-- a text has one list of records
module _ (config : Config) where
  pub records_are_one : (state : State) (text : List ℕ) (one other : List (List (List ℕ))) → AreRecords config state text one → AreRecords config state text other → one ≡ other
  unfolding Reached
  records_are_one state text [] [] a b = refl
  records_are_one state text [] (r ∷ other) (s, ys, (es, ey), none) (t, zs, (p, next, is, more), end) =
      absurd (none-some p (subst₂ (λ u l. None ≡ next_record config u [] [] l) (sym es) (sym ey) (sym none) ∙ next))
  records_are_one state text (r ∷ one) [] (t, zs, (p, next, is, more), end) (s, ys, (es, ey), none) =
      absurd (none-some p (subst₂ (λ u l. None ≡ next_record config u [] [] l) (sym es) (sym ey) (sym none) ∙ next))
  records_are_one state text (r ∷ one) (q ∷ other) (s, ys, (p, next, is, more), end) (t, zs, (p2, next2, is2, more2), end2) =
      let same : p ≡ p2 = same_Some p p2 (sym next ∙ next2) in
      let first : r ≡ q = is ∙ ap (λ z. z.0) same ∙ sym is2 in
      let moved : AreRecords config p.1 p.2 other = subst (λ (z : Read). AreRecords config z.1 z.2 other) (sym same) (t, zs, more2, end2) in
      ap₂ (λ x l. x ∷ l) first (records_are_one p.1 p.2 one other (s, ys, more, end) moved)
