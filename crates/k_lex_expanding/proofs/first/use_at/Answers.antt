use Rattle.std.proofs.Common.{◌≡◌, ℕ, List, [], ◌∷◌, ◌++◌, Option, None, Ok, subst, sym, ap, ◌∙◌, slice_get}
use Rattle.k_lex_expansion.specs.declared.macros.Chain.{Chain}
use Rattle.k_lex_expansion.specs.declared.failure.Failure.{Failure}
use Rattle.k_lex_expansion.specs.Replacing.{replaced}
use Rattle.k_lex_expansion.specs.Expansion.{Next, put_in}
use Rattle.k_lex_expansion.specs.Uses.{Puts}
use Rattle.k_lex_expanding.specs.Macros.{count_of}
use Rattle.k_lex_expanding.specs.First.{work, MeetsReplaced}
use Rattle.k_lex_expanding.proofs.FirstLaws.{replaces, without_parameters}
use Rattle.k_lex_expanding.proofs.first.use_at.Goals as goal

pub returns-in-None-2 : goal.returns-in-None-2
returns-in-None-2 c =
    let none : ◌≡◌ {A = Option Failure} c.in_ok-replace_name-in-None.field-0 None = cc (c.in-None-2.is) in
    let names = c.args.token.hidden ++ c.args.token.spelling ∷ [] in
    let puts = subst (λ o. Puts (Ok o) c.args.limit names c.args.token.spaced (replaced [] c.body_at-body.result.now) c.args.list.now c.args.made.now c.replace_name.new.list c.replace_name.new.made) none c.in_ok-replace_name-in-None.ensures in
    let no_list : ◌≡◌ {A = Option ℕ} None (count_of (slice_get c.args.macros.now c.args.number)) = c.in-None.ensures in
    let rest = work c.args.list.now c.args.source.now c.args.ends c.args.made.now in
    λ m at.
    subst (λ n. MeetsReplaced c.args.limit n c.args.list.now c.args.made.now c.args.source.now c.args.ends c.replace_name.new.list c.replace_name.new.made)
    (sym (without_parameters c.args.limit c.args.macros.now c.args.number m c.args.token rest at no_list
    ∙ ap (λ (b : List Chain). Next.goes (put_in c.args.limit names c.args.token.spaced (replaced [] b) rest)) (sym c.body_at-body.ensures)))
    (replaces c.args.limit names c.args.token.spaced (replaced [] c.body_at-body.result.now) c.args.list.now c.replace_name.new.list c.args.made.now c.replace_name.new.made c.args.source.now c.args.ends puts)
