-- What has been read of a declaration: its pieces, and what holds of them.
use Rattle.std.proofs.Common.{ℕ, ◌≡◌, ◌≢◌, ◌+◌, ◌≤◌, List, [], ◌∷◌, ◌++◌, map, length, None}
use Rattle.std.specs.Prelude.{All}
use Rattle.k_parse_steps.specs.Types.{Token, Word, Declarator, Brace, Front, DeclarationStage, Declaration, Declared}
use Rattle.k_tree.specs.declared.tokens.mark.Mark.TheVariants as mark
use Rattle.k_tree.specs.Nesting.{deepest, dims_depth, init_depth, declarator_depth, declarators_depth}
use Rattle.k_tree.specs.Places.{Pieces, plain, at, lay_dims, lay_init, lay_declarator, lay_declaration, lay_with_commas, Stand}
use Rattle.k_tree.specs.Ranked.{Specs, RankedDims, RankedInits, RankedDeclarator, RankedDeclaration}
use Rattle.k_tree.specs.Spelling.{the_mark, the_name, spell_specs, spell_stars}
use Rattle.k_parse_steps.specs.Stars.{all_stars}
use Rattle.k_parse_steps.specs.Level.{plus}
use Rattle.k_parse_steps.specs.declared.declaration.DeclarationStage.TheVariants as stage
use Rattle.k_parse_steps.specs.declared.turn.Turn.TheVariants as turn
use Rattle.k_parse_steps.proofs.Commas.{lay_each}
use Rattle.k_parse_steps.proofs.ReadingSound.{At, site, Behind}
use Rattle.k_parse_steps.proofs.Rows.{StartsAt}

-- a declarator without its initialiser
abbrev pub lay_bare : Declarator → Pieces
lay_bare d = plain (spell_stars d.stars) ++ (at d.place (plain (the_name d.name)) ++ lay_dims d.dims)

abbrev pub lay_front : Front → Pieces
lay_front f = plain (spell_specs f.specs) ++ lay_each lay_declarator f.list

-- up to the `=` of a declarator
abbrev pub lay_equal : Front → Declarator → Pieces
lay_equal f d = lay_front f ++ (lay_bare d ++ plain (the_mark mark.Equal))

abbrev pub lay_brace : Brace → Pieces
lay_brace b = at b.place (plain (the_mark mark.LeftBrace)) ++ lay_each lay_init b.items

abbrev pub lay_braces : List Brace → Pieces
lay_braces [] = []
lay_braces (b ∷ s) = lay_braces s ++ lay_brace b

-- specifiers and declarators so far, at a level
pub record OkFront (lim : ℕ) (l : ℕ) (f : Front) : Type 0 where
  pub specs : Specs f.specs
  pub list : All RankedDeclarator f.list
  pub level : f.level ≡ l
  pub base : l ≤ lim + 1
  pub within : l + declarators_depth f.list ≤ lim + 1

-- a declarator that has no initialiser yet
pub record OkBare (lim : ℕ) (l : ℕ) (d : Declarator) : Type 0 where
  pub dims : RankedDims d.dims
  pub init : d.init ≡ None
  pub within : l + dims_depth d.dims ≤ lim + 1

-- braces that are open, the innermost first
abbrev pub OkBraces : ℕ → ℕ → List Brace → Type 0
OkBraces lim l [] = Unit {0}
OkBraces lim l (b ∷ s) = RankedInits b.items × (((l + length s) + 1) + deepest (map init_depth b.items) ≤ lim + 1) × OkBraces lim l s

-- a declarator that was read whole
pub record IsDeclarator (lim : ℕ) (l : ℕ) (f : Front) (d : Declarator) (ts : List Token) : Type 0 where
  pub stands : Stand (lay_front f ++ lay_declarator d) ts
  pub ranked : RankedDeclarator d
  pub within : l + declarator_depth d ≤ lim + 1

-- behind an initialiser that stands in a brace
pub record InBrace (lim : ℕ) (l : ℕ) (f : Front) (d : Declarator) (b : Brace) (s : List Brace) (ts : List Token) : Type 0 where
  pub stands : Stand (lay_equal f d ++ (lay_braces s ++ (at b.place (plain (the_mark mark.LeftBrace)) ++ lay_with_commas (map lay_init b.items)))) ts
  pub bare : OkBare lim l d
  pub braces : OkBraces lim l (b ∷ s)
  pub some : b.items ≢ []

-- behind an initialiser
abbrev pub OkAfter : ℕ → ℕ → Front → Declarator → List Brace → List Token → Type 0
OkAfter lim l f d [] ts = IsDeclarator lim l f d ts
OkAfter lim l f d (b ∷ s) ts = InBrace lim l f d b s ts

-- where an initialiser is read
pub record OkStarts (lim : ℕ) (l : ℕ) (f : Front) (d : Declarator) (s : List Brace) (ts : List Token) : Type 0 where
  pub stands : Stand (lay_equal f d ++ lay_braces s) ts
  pub bare : OkBare lim l d
  pub braces : OkBraces lim l s

pub record OkNamed (lim : ℕ) (l : ℕ) (f : Front) (d : Declarator) (ts : List Token) : Type 0 where
  pub stands : Stand (lay_front f ++ lay_bare d) ts
  pub bare : OkBare lim l d

pub record OkSize (lim : ℕ) (l : ℕ) (f : Front) (d : Declarator) (P : List Token → Type 0) (ts : List Token) : Type 0 where
  pub behind : Behind (lay_front f ++ (lay_bare d ++ plain (the_mark mark.LeftBracket))) P ts
  pub bare : OkBare lim l d

pub record OkValue (lim : ℕ) (l : ℕ) (f : Front) (d : Declarator) (s : List Brace) (P : List Token → Type 0) (ts : List Token) : Type 0 where
  pub behind : Behind (lay_equal f d ++ lay_braces s) P ts
  pub bare : OkBare lim l d
  pub braces : OkBraces lim l s

abbrev pub OkStage : ℕ → ℕ → Front → DeclarationStage → List Token → Type 0
OkStage lim l f (stage.Before stars) ts = Stand (lay_front f ++ plain (spell_stars (all_stars stars))) ts
OkStage lim l f (stage.Named d) ts = OkNamed lim l f d ts
OkStage lim l f (stage.Size d r) ts = OkSize lim l f d (At lim (site 2 f.level) r) ts
OkStage lim l f (stage.Starts d s) ts = OkStarts lim l f d s ts
OkStage lim l f (stage.Value d s p r) ts =
    OkValue lim l f d s (λ us. At lim (site 1 (plus (plus f.level (length s)) 1)) r us × StartsAt p us) ts
OkStage lim l f (stage.After d s) ts = OkAfter lim l f d s ts

-- what was read of a declaration whose declarators stand at a level
pub record OkDeclaration (lim : ℕ) (l : ℕ) (d : Declaration) (ts : List Token) : Type 0 where
  pub front : OkFront lim l d.front
  pub stage : OkStage lim l d.front d.stage ts

-- a declaration that was read whole
pub record IsDeclared (lim : ℕ) (l : ℕ) (specs : List Word) (list : List Declarator) (ts : List Token) : Type 0 where
  pub ranked : RankedDeclaration specs list
  pub stands : Stand (lay_declaration specs list) ts
  pub within : l + declarators_depth list ≤ lim + 1

-- a token keeps it so
abbrev pub KeepsDeclared : ℕ → ℕ → List Token → Token → Declared → Type 0
KeepsDeclared lim l ts t (turn.Goes d reach) = reach ≤ lim → OkDeclaration lim l d (ts ++ t ∷ [])
KeepsDeclared lim l ts t (turn.Done (specs, list)) = IsDeclared lim l specs list (ts ++ t ∷ [])
KeepsDeclared lim l ts t turn.Refused = Unit {0}
