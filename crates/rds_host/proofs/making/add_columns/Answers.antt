use Rattle.std.proofs.Common.{◌≡◌, ℕ, List, [], ◌∷◌, ◌++◌, All, length, reverse, take, ◌<◌, sym, ap, subst, ◌∙◌, arith}
use Rattle.std.proofs.lemmas.List.{take_more}
use Rattle.std.proofs.lemmas.List.Elements.{All-push}
use Rattle.rds_host.specs.Ties.{ColumnView, peers_to, putters_from, ways_of}
use Rattle.rds_host.proofs.Columns.{filled_first, peers_push}
use Rattle.rds_host.proofs.making.add_columns.Goals as goal

pub loop-peer-preserved : goal.loop-peer-preserved
loop-peer-preserved c =
    let old = c.loop-peer.columns.items in
    let new = c.in_ok-new.field-0 in
    let peers = c.args.peers.now in
    let i = c.loop-peer.peer-index in
    let pushed : c.push.new.self.items ≡ old ++ new ∷ [] = c.in_ok-push.ensures.items in
    let small : i < length peers = omega (arith, c.loop-peer-test.true) in (
      ap (λ (l : List ColumnView). peers_to (ways_of l)) pushed
          ∙ (peers_push old new
          ∙ (ap (λ (l : List ℕ). l ++ new.way.peer ∷ []) c.loop-peer.invariant.0
          ∙ (ap (λ (p : ℕ). take i peers ++ p ∷ []) c.in_ok-new.ensures.peer
          ∙ sym (take_more peers i 0 small)))),
      subst (λ (l : List ColumnView). All (λ (x : ColumnView). x.passes ≡ reverse (putters_from x.way.mail c.args.slots 0 c.args.slots)) l) (sym pushed)
          (All-push (λ (x : ColumnView). x.passes ≡ reverse (putters_from x.way.mail c.args.slots 0 c.args.slots)) old new c.loop-peer.invariant.1 c.in_ok-new.ensures.passes),
      subst (λ (l : List ColumnView). All (λ (x : ColumnView). x.boxes ≡ []) l) (sym pushed) (All-push (λ (x : ColumnView). x.boxes ≡ []) old new c.loop-peer.invariant.2 c.in_ok-new.ensures.boxes),
    )

pub returns-clause-filled : goal.returns-clause-filled
returns-clause-filled c = filled_first c.args.slots c.loop-peer.columns.items c.loop-peer.invariant.1 c.loop-peer.invariant.2
