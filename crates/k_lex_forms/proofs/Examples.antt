-- The lines of some sources, computed.
use Rattle.std.proofs.Common.{refl}
use Rattle.k_lex_pieces.specs.Pieces.{piece_by}
use Rattle.k_lex_forms.specs.Laws.{OpenQuoteBreaksItsLine, MacroHasParameter, OpenCommentIsRefused, OtherNameIsUnformed}

pub open_quote_breaks_its_line : OpenQuoteBreaksItsLine
unfolding piece_by
open_quote_breaks_its_line = refl

pub macro_has_parameter : MacroHasParameter
unfolding piece_by
macro_has_parameter = refl

pub open_comment_is_refused : OpenCommentIsRefused
unfolding piece_by
open_comment_is_refused = refl

pub other_name_is_unformed : OtherNameIsUnformed
unfolding piece_by
other_name_is_unformed = refl
