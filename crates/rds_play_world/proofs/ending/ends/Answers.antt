use Rattle.std.proofs.Common.{◌≡◌, suc, ◌<◌, [], ◌∷◌, ◌++◌, length, map, vec_len, sym, ◌∙◌, ap, arith}
use Rattle.std.proofs.lemmas.List.{length_push}
use Rattle.std.proofs.lemmas.Iterator.{YieldsList-from_zip}
use Rattle.std.proofs.lemmas.Iterator.Adapters.{YieldsList-from_vec}
use Rattle.std.proofs.lemmas.Iterator.Consumers.{YieldsList-turn}
use Rattle.rds_text.specs.Ports.{below}
use Rattle.rds_history.specs.History.{final_host}
use Rattle.rds_text.specs.declared.final_state.HostEnd.{HostEnd}
use Rattle.rds_text.specs.Hosts.{address_of}
use Rattle.rds_text.specs.FinalViews.{host_view, host_views, side_view, socket_view}
use Rattle.rds_play_world.proofs.FinalLists.{ends_more, end_told, zipped_at}
use Rattle.rds_play_world.proofs.ending.ends.Goals as goal

pub loop-host-preserved : goal.loop-host-preserved
loop-host-preserved c =
    let hosts = c.args.hosts.items in
    let rows = c.args.journals.items in
    let count = vec_len c.args.hosts in
    let n = length c.loop-host.yielded in
    let x = c.in-Some.host in
    let row = c.in-Some.journals in
    let old = c.loop-host.ends.items in
    let e : HostEnd = record { addr = c.address-addr.result; journals = row; kept = c.in_ok-kept.kept } in
    let from = YieldsList-from_zip {s = c.into_iter-host-iterator.result} (YieldsList-from_vec hosts (cc) (cc)) (YieldsList-from_vec rows (cc) (cc)) in
    let turn = YieldsList-turn from c.loop-host.yielded c.loop-host.host-iterator c.loop-host.yielded_by c.next.result c.next.new.self (x, row) c.in-Some.is c.next.ensures.steps in
    let at = zipped_at hosts rows n x row turn.0 turn.1 in
    let first_in = at.first_in in
    let n_in : n < count = omega (arith, first_in, c.args.hosts.ok.0) in
    let addr : c.address-addr.result ≡ address_of n = c.address-addr.ensures ∙ ap address_of (c.len.ensures ∙ c.loop-host.invariant.0) in
    let pushed : c.push.new.self.items ≡ old ++ e ∷ [] = c.in_ok-push.ensures.items in
    let more : length (c.loop-host.yielded ++ (x, row) ∷ []) ≡ suc n = let p = length_push c.loop-host.yielded (x, row) in omega (arith, p) in (
      omega (arith, c.in_ok-push.ensures.len, c.loop-host.invariant.0, more),
      λ past told_hosts told_rows.
          let is : host_view e ≡ final_host count n past =
          end_told count n c.address-addr.result past (map side_view row.items) (map socket_view c.in_ok-kept.kept.items) addr
          (told_rows n n_in row at.second_is) (c.in_ok-kept.ensures n past (told_hosts n n_in x at.first_is)) in
          ap host_views pushed ∙ ends_more count n past old e (c.loop-host.invariant.1 past told_hosts told_rows) is
          ∙ ap (λ m. map (λ h. final_host count h past) (below m)) (sym more),
    )
