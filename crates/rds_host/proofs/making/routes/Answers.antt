use Rattle.std.proofs.Common.{◌≡◌, ◌+◌, ◌<◌, List, [], ◌∷◌, ◌++◌, Some, All, length, map, get_or, set, take, slice_get, sym, ap, subst, ◌∙◌, arith}
use Rattle.std.proofs.lemmas.List.{get_or_default, length-map, length-take-le}
use Rattle.std.proofs.lemmas.List.Edits.{map_over_more}
use Rattle.std.proofs.lemmas.List.Elements.{All-push}
use Rattle.std.proofs.lemmas.Option.{slice_get-get_or}
use Rattle.rds_fmap.specs.Readers.{ReaderView}
use Rattle.rds_socket_parts.specs.Lanes.{Lane}
use Rattle.rds_host.specs.Ties.{AreNextOf, ColumnView, IsNextOf, lane_way, popped, ways_of}
use Rattle.rds_host.proofs.Columns.{next_push}
use Rattle.rds_host.proofs.Pushing.{routes_more, untouched}
use Rattle.rds_host.proofs.making.routes.Goals as goal

pub loop-i-preserved : goal.loop-i-preserved
loop-i-preserved c =
    let inv = c.loop-i.invariant in
    let i = c.loop-i.i in
    let old = c.args.columns.now in
    let now = c.loop-i.columns in
    let d = c.index-columns-i.result in
    let column = get_or now i d in
    let routes = c.loop-i.routes.items in
    let lane = c.in_ok-route.field-0 in
    let made = c.in_ok-route.ensures in
    let small : i < length old = omega arith in
    let is : column ≡ get_or old i d = untouched old now (map popped (take i old)) i d (length-map (take i old) popped ∙ length-take-le i old (omega (arith, small))) small inv.0 in
    let pushed : c.push.new.self.items ≡ routes ++ lane ∷ [] = c.in_ok-push.ensures.items in
    let count : length routes ≡ i = sym (length-map routes lane_way) ∙ (ap length inv.2 ∙ (length-map (take i old) (λ (x : ColumnView). x.way) ∙ length-take-le i old (omega (arith, small)))) in
    let at : slice_get old (length routes) ≡ Some (get_or old i d) = ap (slice_get old) count ∙ slice_get-get_or old i d small in (
      ap (set now i) made.popped ∙ map_over_more popped old now i column small inv.0 (get_or_default now i d column (omega arith)),
      subst (AreNextOf old) (sym pushed) (next_push old routes lane (get_or old i d) at (subst (λ (x : ColumnView). IsNextOf x lane.pass) is made.next) inv.1),
      subst (λ (l : List (Lane ReaderView)). map lane_way l ≡ ways_of (take (i + 1) old)) (sym pushed)
          (routes_more old i (get_or old i d) routes lane small (get_or_default old i d (get_or old i d) small) inv.2 (made.way ∙ ap (λ (x : ColumnView). x.way) is)),
      subst (All (λ (l : Lane ReaderView). l.pass.put ≡ [])) (sym pushed) (All-push (λ (l : Lane ReaderView). l.pass.put ≡ []) routes lane inv.3 made.put),
    )
