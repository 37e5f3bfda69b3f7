-- What `show` writes of a profile as data is read as its value and its records.
use Rattle.std.proofs.Common.{◌≡◌, ℕ, Bool, List, [], ◌∷◌, ◌++◌, All, get_or, Some, sym, ap, ◌∙◌, subst, refl, IsUtf8, arith}
use Rattle.std.proofs.lemmas.Option.{slice_get-get_or}
use Rattle.csv.specs.Reading.{AreRecords, default_config}
use Rattle.csv.specs.declared.parser.State.TheVariants as state
use Rattle.json.specs.Json.{document}
use Rattle.json.proofs.Printed.Utf8.{IsUtf8-are_ascii}
use Rattle.k_dict_saved.specs.Lines.{IsRegion}
use Rattle.k_dict_saved.specs.Profile.{IsSaved}
use Rattle.k_dict_saved.specs.declared.saved.Saved.{Saved}
use Rattle.k_report_profile.specs.Report.{asked}
use Rattle.k_report_profile.proofs.Reported.{saved_rows}
use Rattle.k_data_profile.specs.Shown.{IsDocument, listed}
use Rattle.k_data_laws.specs.Fields.{table_records}
use Rattle.k_data_laws.specs.Laws.{DocumentIsPrinted, DocumentIsRead, IsValue, TableIsRead}
use Rattle.k_data_laws.proofs.Bounds.{small_dict, small_listed, small_plan, small_rows}
use Rattle.k_data_laws.proofs.Known.{document_simple}
use Rattle.k_data_laws.proofs.Lexed.{document_onto}
use Rattle.k_data_laws.proofs.Simple.{simple_depth, simple_numbers, simple_utf8}
use Rattle.k_data_laws.proofs.Tabled.{table_read}
use Rattle.k_data_laws.proofs.Texts.{onto_append, printed_alone}
use Rattle.k_data_laws.proofs.Within.{AreWithin, Parts, text_of, value_of}
use Rattle.k_data_laws.proofs.Written.{document_written}

-- the document of these parts is read as their value
parts_read : (p : Parts) → AreWithin p → document (text_of p) ≡ Some (value_of p)
parts_read p h =
    let simple = document_simple p h in
    ap document (sym (document_written p h)) ∙ document_onto (value_of p) (simple_numbers (value_of p) 128 simple) (simple_depth (value_of p) 128 simple)

-- it is UTF-8
parts_utf8 : (p : Parts) → AreWithin p → IsUtf8 (text_of p)
parts_utf8 p h = subst IsUtf8 (document_written p h) (simple_utf8 (value_of p) 128 (10 ∷ []) (document_simple p h) (IsUtf8-are_ascii _ refl))

module _ (saved : Saved) (is : IsSaved saved) where
  regions_are : All IsRegion saved.regions
  regions_are = λ n d lt. is.regions.each n (get_or saved.regions n d) (slice_get-get_or saved.regions n d lt)

  module _ (with_dict : Bool) (text : List ℕ) (d : IsDocument saved with_dict text) where
    -- what its document tells of
    abbrev parts : Parts
    parts = record {
      regions = saved.regions;
      exit = saved.exit;
      ops = saved.ops;
      rows = d.rows;
      dict = asked with_dict saved.dict;
      contexts = listed d.contexts d.plan;
      plan = d.plan;
    }

    parts_within : AreWithin parts
    parts_within = record {
      regions = regions_are;
      exit = is.exit;
      ops = (let few = is.ops in omega (arith, few));
      rows = small_rows saved is d.rows d.are_rows;
      dict = small_dict saved is with_dict;
      contexts = small_listed saved is d.contexts d.plan d.are_contexts d.planned;
      plan = small_plan saved is d.contexts d.plan d.are_contexts d.planned;
    }

    read_as : document text ≡ Some (value_of parts)
    read_as = ap document d.is ∙ parts_read parts parts_within

    is_value : IsValue saved with_dict (value_of parts)
    is_value = record {
      rows = d.rows;
      contexts = d.contexts;
      plan = d.plan;
      are_rows = d.are_rows;
      are_contexts = d.are_contexts;
      planned = d.planned;
      is = refl;
    }

    -- a document is UTF-8
    pub document_utf8 : IsUtf8 text
    document_utf8 = subst IsUtf8 (sym d.is) (parts_utf8 parts parts_within)

pub document_is_read : DocumentIsRead
document_is_read saved with_dict text is d =
    (value_of (parts saved is with_dict text d), read_as saved is with_dict text d, is_value saved is with_dict text d)

-- the document is the compact text of its value, and a newline
pub document_is_printed : DocumentIsPrinted
document_is_printed saved with_dict text is d =
    let p : Parts = parts saved is with_dict text d in (
      value_of p,
      is_value saved is with_dict text d,
      d.is ∙ sym (document_written p (parts_within saved is with_dict text d)) ∙ onto_append (value_of p) [] (10 ∷ []) ∙ ap (λ l. l ++ (10 ∷ [])) (sym (printed_alone (value_of p))),
    )

-- the table of a profile is read as its records
pub table_is_read : TableIsRead
table_is_read saved text is t = (
  table_records saved.regions t.rows,
  subst (λ l. AreRecords default_config state.StartRecord l (table_records saved.regions t.rows)) (sym t.is)
      (table_read saved.regions t.rows (record {
        are_regions = regions_are saved is;
        are_small = small_rows saved is t.rows t.are_rows;
        named = saved_rows saved is t.rows t.are_rows;
      })),
  record { rows = t.rows; are_rows = t.are_rows; is = refl },
)
