-- For contracts between crates: nobody has to believe it.
-- How `defined` is replaced, token by token.
use Rattle.std.specs.Prelude.{ℕ, Bool, true, false, if◌then◌else◌, List, [], ◌∷◌, ◌++◌, Option, Some, None, option_to_list}
use Rattle.k_tree.specs.declared.tokens.Token.{Token}
use Rattle.k_tree.specs.declared.tokens.TokenKind.{TokenKind}
use Rattle.k_tree.specs.declared.tokens.TokenKind.TheVariants as token
use Rattle.k_tree.specs.declared.tokens.mark.Mark.TheVariants as mark
use Rattle.k_num.specs.declared.place.Place.{Place}
use Rattle.k_lex_conditions.specs.declared.finding.Stage.{Stage}
use Rattle.k_lex_conditions.specs.declared.finding.Stage.TheVariants as stage
use Rattle.k_lex_conditions.specs.Defined.{is_defined, found, number_at}

-- where the line stands behind a token, and the token that stands for what was read since the last one
abbrev pub Told : Type 0
Told = Option (Stage × Option Token)

-- a name behind `defined`
abbrev pub bare_name : Place → Option Bool → Told
bare_name place None = None
bare_name place (Some known) = Some (stage.Ready, Some (number_at known place))

-- a name behind `defined (`
abbrev pub opened_name : Place → Option Bool → Told
opened_name place None = None
opened_name place (Some known) = Some (stage.Closing known place, None)

-- a token behind `defined`
abbrev pub behind_defined : (List ℕ → Bool) → Place → TokenKind → Told
behind_defined names place (token.Mark mark.LeftParen) = Some (stage.Opened, None)
behind_defined names place what = bare_name place (found names what)

-- a token behind `defined ( NAME`
abbrev pub closing : Bool → Place → TokenKind → Told
closing known place (token.Mark mark.RightParen) = Some (stage.Ready, Some (number_at known place))
closing known place what = None

-- a token
abbrev pub told : (List ℕ → Bool) → Stage → Token → Told
told names stage.Ready t = if is_defined t.what then Some (stage.Behind, None) else Some (stage.Ready, Some t)
told names stage.Behind t = behind_defined names t.place t.what
told names stage.Opened t = opened_name t.place (found names t.what)
told names (stage.Closing known place) t = closing known place t.what

-- tokens in front of others, if there are any
abbrev pub in_front : List Token → Option (List Token) → Option (List Token)
in_front xs None = None
in_front xs (Some ys) = Some (xs ++ ys)

-- goes on where a token was told
abbrev pub follow : (Stage → Option (List Token)) → Told → Option (List Token)
follow rest None = None
follow rest (Some (next, put)) = in_front (option_to_list put) (rest next)

-- a line may end here
abbrev pub may_end : Stage → Bool
may_end stage.Ready = true
may_end _ = false

-- the end of the line
abbrev pub at_end : Stage → Option (List Token)
at_end at = if may_end at then Some [] else None

-- the tokens that take the place of these
abbrev pub replaced_from : (List ℕ → Bool) → Stage → List Token → Option (List Token)
replaced_from names at [] = at_end at
replaced_from names at (t ∷ ts) = follow (λ next. replaced_from names next ts) (told names at t)
