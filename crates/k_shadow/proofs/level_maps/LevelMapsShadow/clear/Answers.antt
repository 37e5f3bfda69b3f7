use Rattle.std.proofs.Common.{◌≡◌, ◌++◌, length, take, drop, map, vec_len, ap, ◌∙◌, rules}
use Rattle.k_shadow.specs.Content.{without}
use Rattle.k_shadow.specs.Maps.{levels_in, map_time}
use Rattle.k_shadow.proofs.Plain.{refilled, levels_in-map, without_none}
use Rattle.k_shadow.proofs.level_maps.LevelMapsShadow.clear.Goals as goal

pub returns-clause-content : goal.returns-clause-content
returns-clause-content c =
    let s = c.args.self.now in
    let new = c.clear_in_all.new.maps in
    let f = without c.args.first c.args.count in
    let counted : vec_len s.maps ≡ length s.maps.items = search rules in
    let long : length new ≡ vec_len s.maps = search rules in
    let same : take (vec_len s.maps) (new ++ drop (length new) s.maps.items) ≡ new = refilled (vec_len s.maps) new s.maps.items long in
    let times : map map_time new ≡ map f (map map_time s.maps.items) = search rules in
    let levels = ap (λ maps. levels_in maps s.depth) same ∙ levels_in-map f s.maps.items new s.depth (without_none c.args.first c.args.count) (long ∙ counted) times in
    λ i. record { levels = levels i; entries = s.entries; limit = 4294967295 }
