use Rattle.std.proofs.Common.{◌≡◌, Bool, List, ◌∷◌, Ok, subst}
use Rattle.k_lex_expansion.specs.declared.tokens.Spelled.{Spelled}
use Rattle.k_lex_expansion.specs.Expansion.{next}
use Rattle.k_lex_expanding.specs.declared.first.First.{First}
use Rattle.k_lex_expanding.specs.declared.first.First.TheVariants as first
use Rattle.k_lex_expanding.specs.First.{work, Meets}
use Rattle.k_lex_expanding.specs.Machine.{source_left}
use Rattle.k_lex_expanding.proofs.StepLaws.{take_kept, take_calls}
use Rattle.k_lex_expanding.proofs.machine.Machine.take.Goals as goal

pub returns-in_ok-push-in-Kept : goal.returns-in_ok-push-in-Kept
returns-in_ok-push-in-Kept c =
    let m = c.args.self.now in
    let is : ◌≡◌ {A = First} c.in_ok-token.field-0 (first.Kept c.in-Kept.token) = cc (c.in-Kept.is) in
    let told = λ (s : List Spelled) (e : Bool). Meets (Ok (first.Kept c.in-Kept.token)) c.args.macros.now c.args.limit (next c.args.macros.now c.args.limit (work (c.args.token ∷ m.level.list) s e m.made)) m.level.list m.made s e c.look.new.list c.look.new.made in
    take_kept c.args.macros.now c.args.limit c.args.source.now c.args.ends m c.args.token c.in-Kept.token c.look.new.list c.push.new.self c.look.new.made c.requires.within
    (subst (λ e. told (source_left m c.args.source.now) e) c.ends-ends.ensures (subst (λ s. told s c.ends-ends.result) c.source-behind.ensures
    (subst (λ x. Meets (Ok x) c.args.macros.now c.args.limit (next c.args.macros.now c.args.limit (work (c.args.token ∷ m.level.list) c.source-behind.result.now c.ends-ends.result m.made)) m.level.list m.made c.source-behind.result.now c.ends-ends.result c.look.new.list c.look.new.made) is c.in_ok-token.ensures)))
    c.in_ok-push-in-Kept.ensures.ok

pub returns-in-Calls : goal.returns-in-Calls
returns-in-Calls c =
    let m = c.args.self.now in
    let is : ◌≡◌ {A = First} c.in_ok-token.field-0 (first.Calls c.in-Calls.call c.in-Calls.taken) = cc (c.in-Calls.is) in
    let told = λ (s : List Spelled) (e : Bool). Meets (Ok (first.Calls c.in-Calls.call c.in-Calls.taken)) c.args.macros.now c.args.limit (next c.args.macros.now c.args.limit (work (c.args.token ∷ m.level.list) s e m.made)) m.level.list m.made s e c.look.new.list c.look.new.made in
    take_calls c.proceed.result c.args.macros.now c.args.limit c.args.source.now c.args.ends m c.proceed.new.self c.args.token c.in-Calls.call c.look.new.list c.in-Calls.taken c.look.new.made c.requires.within
    (subst (λ e. told (source_left m c.args.source.now) e) c.ends-ends.ensures (subst (λ s. told s c.ends-ends.result) c.source-behind.ensures
    (subst (λ x. Meets (Ok x) c.args.macros.now c.args.limit (next c.args.macros.now c.args.limit (work (c.args.token ∷ m.level.list) c.source-behind.result.now c.ends-ends.result m.made)) m.level.list m.made c.source-behind.result.now c.ends-ends.result c.look.new.list c.look.new.made) is c.in_ok-token.ensures)))
    c.proceed.ensures
