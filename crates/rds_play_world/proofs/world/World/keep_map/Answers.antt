use Rattle.std.proofs.Common.{◌≡◌, ℕ, ◌+◌, ◌*◌, ◌<◌, Some, List, get_or, length, sym, ◌∙◌, ap, subst, arith}
use Rattle.std.specs.Option.{option_copied}
use Rattle.rds_wire.specs.declared.frame.Frame.{Frame}
use Rattle.rds_model.specs.declared.entry.Entry.{Entry}
use Rattle.rds_model.specs.Sums.{last_pulled_frame}
use Rattle.rds_history.specs.Journals.{journal}
use Rattle.rds_play_mesh.specs.Ends.{end_at}
use Rattle.rds_play_world.specs.Telling.{state}
use Rattle.rds_play_world.proofs.Passing.{chunk_is, end_waits, map_long, ok_both, pulled_whole}
use Rattle.rds_play_world.proofs.Readings.{few_versions, kept_here, some_same}
use Rattle.rds_play_world.proofs.world.World.keep_map.Goals as goal

pub returns-in-Some-first_chunk-clause-kept : goal.returns-in-Some-first_chunk-clause-kept
returns-in-Some-first_chunk-clause-kept c = λ limit hosts stream f past waits verdict_is.
    let k = c.args.host in
    let h = c.args.peer in
    let s = state c.args.self.now in
    let k_in : k < hosts = subst (λ n. k < n) waits.tells.count_is c.requires.host in
    let h_in : h < hosts = subst (λ n. h < n) waits.tells.count_is c.requires.peer in
    let e = end_waits limit hosts k h stream f past s k_in h_in c.requires.apart waits in
    let there = waits.tells.ends_are h k h_in k_in (λ x. c.requires.apart (sym x)) in
    let frame : c.in-Some.frame.now ≡ f = some_same c.in-Some.frame.now f (sym (ap (λ o. option_copied o) c.in-Some.is) ∙ c.waiting.ensures ∙ e.waiting_is) in
    let whole : length f.payload ≡ f.header.len = pulled_whole (end_at h k s.mesh).past f c.known.ensures.whole_there.legal (ap last_pulled_frame there.journal_is ∙ waits.newest) in
    let long : f.header.len ≡ 8192 = map_long (journal k h past) f.header verdict_is in
    let bytes : c.in-Some-first_chunk.bytes.now ≡ f.payload = chunk_is c.as_slice.result.now c.in-Some-first_chunk.bytes.now f.payload
    (c.as_slice.ensures ∙ ap (λ (x : Frame). x.payload) frame) (whole ∙ long) c.in-Some-first_chunk.ensures.cases.same in
    let p = c.index_mut.result.now in
    let q = c.keep.new.self in
    let at : p ≡ get_or s.peers (8 * k + h) p = c.index_mut.ensures.value ∙ ap (λ (i : ℕ). get_or s.peers i p) c.place.ensures.is in
    let tells = waits.tells.peers_are k h k_in h_in p at in
    let few : p.version < 18446744073709551615 = few_versions k h past p (end_at k h s.mesh) tells e.journal_is
    (let count = ap (λ (j : List Entry). length j) c.journal.ensures in omega (arith, count, c.len-entries.ensures.len, c.len-entries.ensures.most, c.len-entries.ensures.limit)) in
    ok_both c.keep.result (q.map ≡ Some c.in-Some-first_chunk.bytes.now) (q.version ≡ p.version + 1) _
    (λ map version. kept_here limit hosts k h stream c.place.result f past s p q (omega (arith, waits.tells.count_is, c.args.self.now.few)) k_in h_in
    (omega (arith, c.args.self.now.known, c.args.self.now.peers.ok.0)) c.place.ensures.is waits tells (map ∙ ap (λ (l : List ℕ). Some l) bytes) version)
    c.keep.ensures.map (c.keep.ensures.version few)

pub returns-in-None-clause-kept : goal.returns-in-None-clause-kept
returns-in-None-clause-kept c = λ limit hosts stream f past waits verdict_is.
    let k = c.args.host in
    let h = c.args.peer in
    let s = state c.args.self.now in
    let k_in : k < hosts = subst (λ n. k < n) waits.tells.count_is c.requires.host in
    let h_in : h < hosts = subst (λ n. h < n) waits.tells.count_is c.requires.peer in
    let e = end_waits limit hosts k h stream f past s k_in h_in c.requires.apart waits in
    let there = waits.tells.ends_are h k h_in k_in (λ x. c.requires.apart (sym x)) in
    let frame : c.in-Some.frame.now ≡ f = some_same c.in-Some.frame.now f (sym (ap (λ o. option_copied o) c.in-Some.is) ∙ c.waiting.ensures ∙ e.waiting_is) in
    let whole : length f.payload ≡ f.header.len = pulled_whole (end_at h k s.mesh).past f c.known.ensures.whole_there.legal (ap last_pulled_frame there.journal_is ∙ waits.newest) in
    let long : f.header.len ≡ 8192 = map_long (journal k h past) f.header verdict_is in
    let bytes = ap (λ (l : List ℕ). length l) (c.as_slice.ensures ∙ ap (λ (x : Frame). x.payload) frame) in
    absurd (let short : length c.as_slice.result.now < 8192 = c.in-None.ensures.cases in omega (arith, short, bytes, whole, long))
