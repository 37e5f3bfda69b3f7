-- Records that have been read of a text.
use Rattle.std.proofs.Common.{Bor, ◌≡◌, ℕ, List, [], ◌∷◌, ◌++◌, Option, Some, None, false, true, inl, inr, refl, sym, ◌∙◌}
use Rattle.csv.specs.Reading.{AreRecords, Reached, ReadRecord, Ready, default_config, source_of, strip_bom}
use Rattle.csv.specs.declared.parser.State.TheVariants as state
use Rattle.csv.specs.declared.reader.Reader.{Reader}
use Rattle.csv.specs.declared.reader.Trim.TheVariants as trim
use Rattle.csv.proofs.ReadFacts.{rows-end, rows-more}

-- the bytes of a text that is lent
abbrev pub lent : Bor (List ℕ) → Option (List ℕ)
lent text = Some text.now

-- these records have been read of a text, and the reader stands behind them
pub record HasRead (text : List ℕ) (table : List (List (List ℕ))) (reader : Reader (Bor (List ℕ))) : Type 0 where
  pub trims : reader.trim ≡ trim.None
  pub ready : Ready reader
  pub defaults : reader.config ≡ default_config
  pub left : List ℕ
  pub source : source_of lent reader ≡ Some left
  pub reached : Reached default_config state.StartRecord (strip_bom text) table reader.state left

-- a reader that is new has read none
pub none_read : (text : List ℕ) (reader : Reader (Bor (List ℕ))) → reader.trim ≡ trim.None → reader.has_headers ≡ false → reader.headers ≡ None
    → reader.config ≡ default_config → source_of lent reader ≡ Some (strip_bom text) → reader.state ≡ state.StartRecord → HasRead text [] reader
unfolding Reached
none_read text reader trims headers none defaults source start = record {
  trims = trims;
  ready = inr (inr (headers, none));
  defaults = defaults;
  left = strip_bom text;
  source = source;
  reached = (sym start, refl);
}

-- with one more record
pub one_more_read : (text : List ℕ) (table : List (List (List ℕ))) (reader next : Reader (Bor (List ℕ))) (record' : List (List ℕ)) → HasRead text table reader
    → ReadRecord lent reader next true record' → next.first ≡ true → HasRead text (table ++ record' ∷ []) next
one_more_read text table reader next record' h read first =
    let m = rows-more lent reader next record' default_config state.StartRecord (strip_bom text) h.left table h.defaults h.source h.reached read in
    record {
      trims = read.3 ∙ h.trims;
      ready = inl first;
      defaults = read.2 ∙ h.defaults;
      left = m.0;
      source = m.1;
      reached = m.2;
    }

-- once there is none, they are all
pub all_read : (text : List ℕ) (table : List (List (List ℕ))) (reader next : Reader (Bor (List ℕ))) → HasRead text table reader
    → ReadRecord lent reader next false [] → AreRecords default_config state.StartRecord (strip_bom text) table
all_read text table reader next h read =
    (reader.state, h.left, h.reached, rows-end lent reader next [] default_config h.left h.defaults h.source read)
