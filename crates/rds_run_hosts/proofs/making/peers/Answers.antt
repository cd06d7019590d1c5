use Rattle.std.proofs.Common.{ℕ, List, [], ◌∷◌, ◌++◌, map, ap, sym, ◌∙◌, arith}
use Rattle.std.proofs.lemmas.List.{map-append}
use Rattle.std.proofs.lemmas.List.FromFn.{map-range_with_len_more}
use Rattle.std.specs.List.{range_with_len}
use Rattle.rds_text.specs.Hosts.{address_of}
use Rattle.rds_run_rounds.specs.Grid.{peer_at}
use Rattle.rds_run_hosts.proofs.making.peers.Goals as goal

pub loop-place-preserved : goal.loop-place-preserved
loop-place-preserved c =
    let n = c.loop-place.place in
    let f = peer_at c.args.host in
    c.in_ok-push.ensures.items
    ∙ ap (λ (l : List ℕ). l ++ c.address.result ∷ []) c.loop-place.invariant
    ∙ ap (λ a. map address_of (map f (range_with_len 0 n)) ++ a ∷ []) (c.address.ensures ∙ ap address_of c.peer_at.ensures)
    ∙ sym (map-append address_of (map f (range_with_len 0 n)) (f n ∷ []))
    ∙ ap (map address_of) (sym (map-range_with_len_more f 0 n n (omega arith)))
