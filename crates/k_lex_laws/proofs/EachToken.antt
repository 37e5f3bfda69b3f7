-- A property that all tokens have which pieces and headers give, and every string, is one of each token that a source gives.
use Rattle.std.proofs.Common.{◌≡◌, ℕ, zero, suc, ◌+◌, ◌-◌, ◌&&◌, ◌||◌, not, nat_lt, eqb, if◌then◌else◌, List, [], ◌∷◌, ◌++◌, Option, Some, None, Ok, length, map, take, drop, codes, is_none, is_some}
use Rattle.std.specs.Prelude.{IfOk, All}
use Rattle.std.specs.List.{flat_map, AllByRecursion}
use Rattle.std.proofs.lemmas.Result.{IfOk-at_ok}
use Rattle.std.proofs.lemmas.List.Elements.{All-from_recursion}
use Rattle.k_num.specs.declared.place.Place.{Place}
use Rattle.k_tree.specs.declared.tokens.Token.{Token}
use Rattle.k_tree.specs.declared.tokens.TokenKind.{TokenKind}
use Rattle.k_tree.specs.declared.tokens.TokenKind.TheVariants as t
use Rattle.k_lex_pieces.specs.declared.fault.Fault.{Fault}
use Rattle.k_lex_pieces.specs.declared.fault.Refusal.TheVariants as r
use Rattle.k_lex_pieces.specs.declared.pieces.Piece.{Piece}
use Rattle.k_lex_pieces.specs.declared.pieces.Piece.TheVariants as p
use Rattle.k_lex.specs.declared.lines.Mode.{Mode}
use Rattle.k_lex.specs.declared.lines.Mode.TheVariants as m
use Rattle.k_lex_macros.specs.declared.macros.Lexeme.{Lexeme}
use Rattle.k_lex_macros.specs.declared.headers.Header.{Header}
use Rattle.k_lex_pieces.specs.Bytes.{begins, same, after}
use Rattle.k_lex_pieces.specs.Words.{word_of}
use Rattle.k_lex_macros.specs.Macros.{Macro, lexeme, find, full_at, full_or, used, replaced_by, fulls_from, fulls, replaced, is_named, mentions, body_at, stands_at, header_macros, breaks_order, changes, included, sizes, placed}
use Rattle.k_lex.specs.Lines
use Rattle.k_lex.specs.Lines.{State, step_in}
use Rattle.k_lex_pieces.specs.Outcome.{◌>>=◌, refused}
use Rattle.k_lex.specs.Laws.{kinds_of}
use Rattle.k_lex.specs.Tokens.{piece_in, turn, run, join_kinds, join, joined, first_place, nothing_read, tokens_within, limits, tokens}
use Rattle.k_lex.proofs.Outcomes.{Each, each_append, each_one_more, either_way, cond_ok, bind_ok, bind_any, answered, turn_ok}

-- what pieces and headers give has it, and so have every string and the end
pub record IsGiven (P : TokenKind → Type 0) : Type 0 where
  pub pieces : (place : Place) (s : List ℕ) (piece : Piece) → IfOk (Lines.token_of place s piece) P
  pub headers : (header : Header) → Each (λ (macro : Macro). Each (λ (x : Lexeme). P x.what) macro.1) (header_macros header)
  pub strings : (bytes : List ℕ) → P (t.Str bytes)
  pub end : P t.End

module _ (P : TokenKind → Type 0) (given : IsGiven P) where
  abbrev OfLexeme : Lexeme → Type 0
  OfLexeme x = P x.what

  abbrev OfToken : Token → Type 0
  OfToken x = P x.what

  -- the tokens of a body, or those that it is replaced by
  abbrev OfAll : List Lexeme → Type 0
  OfAll xs = Each OfLexeme xs

  abbrev OfBody : Macro → Type 0
  OfBody macro = OfAll macro.1

  -- MACROS
  flat_map_has : (f : Lexeme → List Lexeme) (xs : List Lexeme) → ((x : Lexeme) → OfLexeme x → OfAll (f x)) → OfAll xs → OfAll (flat_map f xs)
  flat_map_has f [] each h = tt
  flat_map_has f (x ∷ xs) each h = each_append OfLexeme (f x) (flat_map f xs) (each x h.0) (flat_map_has f xs each h.1)

  full_at_has : (lists : List (List Lexeme)) (k : ℕ) → Each OfAll lists → OfAll (full_at lists k)
  full_at_has [] k h = tt
  full_at_has (xs ∷ lists) zero h = h.0
  full_at_has (xs ∷ lists) (suc k) h = full_at_has lists k h.1

  full_or_has : (lists : List (List Lexeme)) (x : Lexeme) (number : Option ℕ) → Each OfAll lists → OfLexeme x → OfAll (full_or lists x number)
  full_or_has lists x None all h = (h, tt)
  full_or_has lists x (Some k) all h = full_at_has lists k all

  fulls_from_has : (seen : List Macro) (lists : List (List Lexeme)) (macros : List Macro) → Each OfAll lists → Each OfBody macros → Each OfAll (fulls_from seen lists macros)
  fulls_from_has seen lists [] all h = all
  fulls_from_has seen lists (macro ∷ macros) all h =
      let full = flat_map (replaced_by seen lists) macro.1 in
      fulls_from_has (seen ++ macro ∷ []) (lists ++ full ∷ []) macros
      (each_one_more OfAll lists full all (flat_map_has (replaced_by seen lists) macro.1 (λ x one. full_or_has lists x (used seen x.what) all one) h.0)) h.1

  fulls_has : (table : List Macro) → Each OfBody table → Each OfAll (fulls table)
  unfolding fulls
  fulls_has table h = fulls_from_has [] [] table tt h

  replaced_has : (table : List Macro) (x : Lexeme) → Each OfBody table → OfLexeme x → OfAll (replaced table x)
  replaced_has table x all h = full_or_has (fulls table) x (used table x.what) (fulls_has table all) h

  included_has : (table macros : List Macro) → Each OfBody table → Each OfBody macros → Each OfBody (included table macros)
  included_has table [] all h = all
  included_has table (macro ∷ macros) all h =
      let more = table ++ (macro.0, macro.1) ∷ [] in
      either_way (Each OfBody) (is_none (find table macro.0)) (included more macros) (included table macros)
      (included_has more macros (each_one_more OfBody table (macro.0, macro.1) all h.0) h.1) (included_has table macros all h.1)

  -- WHAT HAS BEEN READ has it: the tokens, the new body, and the bodies of macros
  abbrev Read : State → Type 0
  Read s = Each OfToken s.tokens × OfAll s.body × Each OfBody s.macros

  placed_has : (place : Place) (xs : List Lexeme) → OfAll xs → Each OfToken (map (placed place) xs)
  placed_has place [] h = tt
  placed_has place (x ∷ xs) h = (h.0, placed_has place xs h.1)

  add_has : (place : Place) (xs : List Lexeme) (s : State) → OfAll xs → Read s → IfOk (Lines.add place xs s) Read
  add_has place xs s h read =
      let added = record s { mode = m.Middle; tokens = s.tokens ++ map (placed place) xs; spelled = s.spelled + sizes xs } in
      cond_ok Read (Lines.has_room s (length xs) (sizes xs)) (Ok added) (refused r.TokensMany place)
      (each_append OfToken s.tokens (map (placed place) xs) read.0 (placed_has place xs h), read.1, read.2) tt

  in_line_has : (place : Place) (s : List ℕ) (piece : Piece) (old : State) → Read old → IfOk (Lines.token_in_text place s piece old) Read
  in_line_has place s piece old read =
      let put = λ (what : TokenKind). Lines.add place (replaced old.macros (lexeme what (length s))) old in
      cond_ok Read (Lines.is_literal piece && not (Lines.has_room old 1 (length s))) (refused r.TokensMany place) (Lines.token_of place s piece >>= put) tt
      (bind_ok P Read (Lines.token_of place s piece) put (given.pieces place s piece)
      (λ what h. add_has place (replaced old.macros (lexeme what (length s))) old (replaced_has old.macros (lexeme what (length s)) read.2 h) read))

  text_has : (place : Place) (s : List ℕ) (piece : Piece) (old : State) → Read old → IfOk (Lines.in_text place s piece old) Read
  text_has place s p.Blank old read = read
  text_has place s p.Comment old read = read
  text_has place s p.Newline old read = read
  text_has place s p.Name old read = in_line_has place s p.Name old read
  text_has place s p.Number old read = in_line_has place s p.Number old read
  text_has place s p.Character old read = in_line_has place s p.Character old read
  text_has place s p.Str old read = in_line_has place s p.Str old read
  text_has place s (p.Mark mark) old read = in_line_has place s (p.Mark mark) old read
  text_has place s p.Header old read = in_line_has place s p.Header old read
  text_has place s p.OpenComment old read = in_line_has place s p.OpenComment old read
  text_has place s p.OpenLiteral old read = in_line_has place s p.OpenLiteral old read
  text_has place s p.Unknown old read = in_line_has place s p.Unknown old read

  -- DIRECTIVES
  directive_has : (hash : Place) (mode : Option Mode) (old : State) → Read old → IfOk (Lines.directive hash mode old) Read
  directive_has hash None old read = tt
  directive_has hash (Some mode) old read = read

  hash_has : (hash : Place) (s : List ℕ) (piece : Piece) (old : State) → Read old → IfOk (Lines.in_hash hash s piece old) Read
  hash_has hash s p.Blank old read = read
  hash_has hash s p.Comment old read = read
  hash_has hash s p.Newline old read = read
  hash_has hash s p.Name old read = directive_has hash (Lines.directive_mode hash s) old read
  hash_has hash s p.Number old read = tt
  hash_has hash s p.Character old read = tt
  hash_has hash s p.Str old read = tt
  hash_has hash s (p.Mark mark) old read = tt
  hash_has hash s p.Header old read = tt
  hash_has hash s p.OpenComment old read = tt
  hash_has hash s p.OpenLiteral old read = tt
  hash_has hash s p.Unknown old read = tt

  named_has : (place : Place) (s : List ℕ) (number : Option ℕ) (old : State) → Read old → IfOk (Lines.named place s number old) Read
  named_has place s (Some number) old read = read
  named_has place s None old read =
      cond_ok Read (mentions old.macros s) (refused r.MacroOrder place) (Ok (record old { mode = m.Body place; name = s; body = [] })) tt (read.0, tt, read.2)

  define_has : (hash place : Place) (s rest : List ℕ) (piece : Piece) (old : State) → Read old → IfOk (Lines.in_define hash place s rest piece old) Read
  define_has hash place s rest p.Blank old read = read
  define_has hash place s rest p.Comment old read = read
  define_has hash place s rest p.Newline old read = tt
  define_has hash place s rest p.Name old read =
      cond_ok Read (is_some (word_of s) || begins (codes "(") rest) (refused r.BadDirective hash) (Lines.named place s (find old.macros s) old) tt (named_has place s (find old.macros s) old read)
  define_has hash place s rest p.Number old read = tt
  define_has hash place s rest p.Character old read = tt
  define_has hash place s rest p.Str old read = tt
  define_has hash place s rest (p.Mark mark) old read = tt
  define_has hash place s rest p.Header old read = tt
  define_has hash place s rest p.OpenComment old read = tt
  define_has hash place s rest p.OpenLiteral old read = tt
  define_has hash place s rest p.Unknown old read = tt

  body_token_has : (at place : Place) (s : List ℕ) (piece : Piece) (old : State) → Read old → IfOk (Lines.body_token at place s piece old) Read
  body_token_has at place s piece old read =
      let grown = λ (what : TokenKind). record old { body = old.body ++ lexeme what (length s) ∷ [] } in
      bind_ok P Read (Lines.token_of place s piece) (λ what. if is_named old.name what then refused r.MacroOrder at else Ok (grown what)) (given.pieces place s piece)
      (λ what h. cond_ok Read (is_named old.name what) (refused r.MacroOrder at) (Ok (grown what)) tt (read.0, each_one_more OfLexeme old.body (lexeme what (length s)) read.1 h, read.2))

  body_has : (at place : Place) (s : List ℕ) (piece : Piece) (old : State) → Read old → IfOk (Lines.in_body at place s piece old) Read
  body_has at place s p.Blank old read = read
  body_has at place s p.Comment old read = read
  body_has at place s p.Newline old read = (read.0, tt, each_one_more OfBody old.macros (old.name, old.body) read.2 read.1)
  body_has at place s p.Name old read = body_token_has at place s p.Name old read
  body_has at place s p.Number old read = body_token_has at place s p.Number old read
  body_has at place s p.Character old read = body_token_has at place s p.Character old read
  body_has at place s p.Str old read = body_token_has at place s p.Str old read
  body_has at place s (p.Mark mark) old read = body_token_has at place s (p.Mark mark) old read
  body_has at place s p.Header old read = body_token_has at place s p.Header old read
  body_has at place s p.OpenComment old read = body_token_has at place s p.OpenComment old read
  body_has at place s p.OpenLiteral old read = body_token_has at place s p.OpenLiteral old read
  body_has at place s p.Unknown old read = body_token_has at place s p.Unknown old read

  again_token_has : (at : Place) (number count : ℕ) (place : Place) (s : List ℕ) (piece : Piece) (old : State) → Read old → IfOk (Lines.again_token at number count place s piece old) Read
  again_token_has at number count place s piece old read =
      let further = Lines.in_mode (m.Again (record { name = at; number = number; at = count + 1 })) old in
      bind_any Read (Lines.token_of place s piece) (λ what. if stands_at (body_at old.macros number) count what then Ok further else refused r.MacroAgain at)
      (λ what. cond_ok Read (stands_at (body_at old.macros number) count what) (Ok further) (refused r.MacroAgain at) read tt)

  again_has : (at : Place) (number count : ℕ) (place : Place) (s : List ℕ) (piece : Piece) (old : State) → Read old → IfOk (Lines.in_again at number count place s piece old) Read
  again_has at number count place s p.Blank old read = read
  again_has at number count place s p.Comment old read = read
  again_has at number count place s p.Newline old read =
      cond_ok Read (eqb (length (body_at old.macros number)) count) (Ok (Lines.in_mode m.Start old)) (refused r.MacroAgain at) read tt
  again_has at number count place s p.Name old read = again_token_has at number count place s p.Name old read
  again_has at number count place s p.Number old read = again_token_has at number count place s p.Number old read
  again_has at number count place s p.Character old read = again_token_has at number count place s p.Character old read
  again_has at number count place s p.Str old read = again_token_has at number count place s p.Str old read
  again_has at number count place s (p.Mark mark) old read = again_token_has at number count place s (p.Mark mark) old read
  again_has at number count place s p.Header old read = again_token_has at number count place s p.Header old read
  again_has at number count place s p.OpenComment old read = again_token_has at number count place s p.OpenComment old read
  again_has at number count place s p.OpenLiteral old read = again_token_has at number count place s p.OpenLiteral old read
  again_has at number count place s p.Unknown old read = again_token_has at number count place s p.Unknown old read

  none_included : (hash place : Place) (s : List ℕ) → IfOk {T = State} {E = Fault} (if begins (codes "<") s || begins (codes "\"") s then refused r.UnknownHeader place else refused r.BadDirective hash) Read
  none_included hash place s = cond_ok Read (begins (codes "<") s || begins (codes "\"") s) (refused r.UnknownHeader place) (refused r.BadDirective hash) tt tt

  include_line_has : (hash place : Place) (s : List ℕ) (piece : Piece) (old : State) → Read old → IfOk (Lines.in_include hash place s piece old) Read
  include_line_has hash place s p.Blank old read = read
  include_line_has hash place s p.Comment old read = read
  include_line_has hash place s p.Newline old read = none_included hash place s
  include_line_has hash place s p.Name old read = none_included hash place s
  include_line_has hash place s p.Number old read = none_included hash place s
  include_line_has hash place s p.Character old read = none_included hash place s
  include_line_has hash place s p.Str old read = none_included hash place s
  include_line_has hash place s (p.Mark mark) old read = none_included hash place s
  include_line_has hash place s p.Header old read = read
  include_line_has hash place s p.OpenComment old read = none_included hash place s
  include_line_has hash place s p.OpenLiteral old read = none_included hash place s
  include_line_has hash place s p.Unknown old read = none_included hash place s

  include_has : (at : Place) (header : Option Header) (old : State) → Read old → IfOk (Lines.include at header old) Read
  include_has at None old read = tt
  include_has at (Some header) old read =
      let macros = header_macros header in
      let new = record old { macros = included old.macros macros } in
      cond_ok Read (breaks_order old.macros macros) (refused r.MacroOrder at) (if changes old.macros macros then refused r.MacroAgain at else Ok new) tt
      (cond_ok Read (changes old.macros macros) (refused r.MacroAgain at) (Ok new) tt (read.0, read.1, included_has old.macros macros read.2 (given.headers header)))

  header_has : (hash at : Place) (header : Option Header) (place : Place) (piece : Piece) (old : State) → Read old → IfOk (Lines.in_header hash at header place piece old) Read
  header_has hash at header place p.Blank old read = read
  header_has hash at header place p.Comment old read = read
  header_has hash at header place p.Newline old read = bind_ok Read Read (Lines.include at header old) (λ new. Ok (Lines.in_mode m.Start new)) (include_has at header old read) (λ new h. h)
  header_has hash at header place p.Name old read = tt
  header_has hash at header place p.Number old read = tt
  header_has hash at header place p.Character old read = tt
  header_has hash at header place p.Str old read = tt
  header_has hash at header place (p.Mark mark) old read = tt
  header_has hash at header place p.Header old read = tt
  header_has hash at header place p.OpenComment old read = bind_any Read (Lines.include at header old) (λ new. refused r.OpenComment place) (λ new. tt)
  header_has hash at header place p.OpenLiteral old read = bind_any Read (Lines.include at header old) (λ new. refused r.OpenLiteral place) (λ new. tt)
  header_has hash at header place p.Unknown old read = bind_any Read (Lines.include at header old) (λ new. refused r.BadByte place) (λ new. tt)

  pragma_has : (place : Place) (piece : Piece) (old : State) → Read old → IfOk (Lines.in_pragma place piece old) Read
  pragma_has place p.Blank old read = read
  pragma_has place p.Comment old read = read
  pragma_has place p.Newline old read = read
  pragma_has place p.Name old read = read
  pragma_has place p.Number old read = read
  pragma_has place p.Character old read = read
  pragma_has place p.Str old read = read
  pragma_has place (p.Mark mark) old read = read
  pragma_has place p.Header old read = read
  pragma_has place p.OpenComment old read = tt
  pragma_has place p.OpenLiteral old read = read
  pragma_has place p.Unknown old read = read

  start_has : (place : Place) (s : List ℕ) (piece : Piece) (old : State) → Read old → IfOk (Lines.in_start place s piece old) Read
  start_has place s piece old read = cond_ok Read (same s (codes "#")) (Ok (Lines.in_mode (m.Hash place) old)) (Lines.in_text place s piece old) read (text_has place s piece old read)

  -- A PIECE, AND ALL OF THEM
  step_has : (mode : Mode) (place : Place) (s rest : List ℕ) (piece : Piece) (old : State) → Read old → IfOk (step_in mode place s rest piece old) Read
  step_has m.Start place s rest piece old read = start_has place s piece old read
  step_has m.Middle place s rest piece old read = text_has place s piece old read
  step_has (m.Hash hash) place s rest piece old read = hash_has hash s piece old read
  step_has (m.Define hash) place s rest piece old read = define_has hash place s rest piece old read
  step_has (m.Body at) place s rest piece old read = body_has at place s piece old read
  step_has (m.Again a) place s rest piece old read = again_has a.name a.number a.at place s piece old read
  step_has (m.Include hash) place s rest piece old read = include_line_has hash place s piece old read
  step_has (m.Header d) place s rest piece old read = header_has d.hash d.name d.header place piece old read
  step_has m.Pragma place s rest piece old read = pragma_has place piece old read

  abbrev Ends : State × Place → Type 0
  Ends end = Read end.0

  last_has : (place : Place) (old : State) → Read old → IfOk (Lines.step place [] [] p.Newline old >>= λ new. Ok (new, place)) Ends
  last_has place old read = bind_ok Read Ends (Lines.step place [] [] p.Newline old) (λ new. Ok (new, place)) (step_has old.mode place [] [] p.Newline old read) (λ new h. h)

  run_has : (skip : ℕ) (place : Place) (old : State) (text : List ℕ) → Read old → IfOk (run skip place old text) Ends
  run_has zero place old [] read = last_has place old read
  run_has (suc skip) place old [] read = last_has place old read
  run_has (suc skip) place old (b ∷ bs) read = run_has skip (after place b) old bs read
  run_has zero place old (b ∷ bs) read =
      let piece = piece_in old.mode (b ∷ bs) in
      bind_ok Read Ends (turn place old (b ∷ bs) piece) (λ new. run (piece.1 - 1) (after place b) new bs)
      (turn_ok Read place old (b ∷ bs) piece (step_has old.mode place (take piece.1 (b ∷ bs)) (drop piece.1 (b ∷ bs)) piece.0 old read))
      (λ new h. run_has (piece.1 - 1) (after place b) new bs h)

  -- NEIGHBOURING STRINGS, AND THE END
  join_kinds_has : (a : Token) (ts : List Token) (b : Token) (x y : TokenKind) → OfToken a → Each OfToken (b ∷ ts) → Each OfToken (join_kinds a ts b x y)
  join_kinds_has a ts b (t.Str x) (t.Str y) first rest = (given.strings (x ++ y), rest.1)
  join_kinds_has a ts b (t.Str x) (t.Name y) first rest = (first, rest)
  join_kinds_has a ts b (t.Str x) (t.Word y) first rest = (first, rest)
  join_kinds_has a ts b (t.Str x) (t.Number kind y) first rest = (first, rest)
  join_kinds_has a ts b (t.Str x) (t.Char y) first rest = (first, rest)
  join_kinds_has a ts b (t.Str x) (t.Mark y) first rest = (first, rest)
  join_kinds_has a ts b (t.Str x) t.End first rest = (first, rest)
  join_kinds_has a ts b (t.Name x) y first rest = (first, rest)
  join_kinds_has a ts b (t.Word x) y first rest = (first, rest)
  join_kinds_has a ts b (t.Number kind x) y first rest = (first, rest)
  join_kinds_has a ts b (t.Char x) y first rest = (first, rest)
  join_kinds_has a ts b (t.Mark x) y first rest = (first, rest)
  join_kinds_has a ts b t.End y first rest = (first, rest)

  join_has : (a : Token) (ts : List Token) → OfToken a → Each OfToken ts → Each OfToken (join a ts)
  join_has a [] first rest = (first, tt)
  join_has a (b ∷ ts) first rest = join_kinds_has a ts b a.what b.what first rest

  joined_has : (ts : List Token) → Each OfToken ts → Each OfToken (joined ts)
  joined_has [] h = tt
  joined_has (a ∷ ts) h = join_has a (joined ts) h.0 (joined_has ts h.1)

  each_kind : (ts : List Token) (last : Token) → Each OfToken ts → OfToken last → AllByRecursion P (kinds_of (ts ++ last ∷ []))
  each_kind [] last h end = (end, tt)
  each_kind (a ∷ ts) last h end = (h.0, each_kind ts last h.1 end)

  abbrev OfList : List Token → Type 0
  OfList list = All P (kinds_of list)

  whole_has : (bytes : List ℕ) → IfOk (tokens_within limits bytes) OfList
  whole_has bytes =
      let whole = λ (end : State × Place). joined end.0.tokens ++ record { what = t.End; place = end.1 } ∷ [] in
      cond_ok OfList (nat_lt limits.source (length bytes)) (refused r.SourceLong first_place) (run 0 first_place (nothing_read limits) bytes >>= λ end. Ok (whole end)) tt
      (bind_ok Ends OfList (run 0 first_place (nothing_read limits) bytes) (λ end. Ok (whole end)) (run_has 0 first_place (nothing_read limits) bytes (tt, tt, tt))
      (λ end h. All-from_recursion P (kinds_of (whole end)) (each_kind (joined end.0.tokens) (record { what = t.End; place = end.1 }) (joined_has end.0.tokens h.0) given.end)))

  -- EACH TOKEN OF A SOURCE has it
  pub each_token : (source : List ℕ) (list : List Token) → tokens source ≡ Ok list → All P (kinds_of list)
  each_token source list e = IfOk-at_ok OfList e (answered OfList (tokens_within limits source) (whole_has source))
