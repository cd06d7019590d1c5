-- What became of the cuts that the commands of a run ask for, in what its hosts have in the end.
use Rattle.std.proofs.Common.{◌≡◌, ℕ, inl, inr, List, Some, Result, IfOk, length, map, slice_get, sym, ap, subst, ◌∙◌}
use Rattle.rds_link.specs.Seen.{SinkSeen}
use Rattle.rds_wire.specs.declared.memory.Memory.{Memory}
use Rattle.rds_link.specs.Ends.{Means}
use Rattle.rds_fmap.specs.Readers.{WriterView}
use Rattle.rds_line_channel.specs.Streams.{numbers}
use Rattle.rds_line.specs.Line.{LineView, line_past}
use Rattle.rds_host_end.specs.Cuts.{AreCutsDone}
use Rattle.rds_host_end.specs.Sides.{line_side}
use Rattle.rds_text.specs.FinalState.{FinalHost, FinalJournal}
use Rattle.rds_text.specs.FinalViews.{host_view, host_views}
use Rattle.rds_text.specs.declared.final_state.HostEnd.{HostEnd}
use Rattle.rds_script.specs.declared.script.Placed.{Placed}
use Rattle.rds_run_callers.specs.Places.{CallerView}
use Rattle.rds_run_rounds.specs.Done.{AreDone}
use Rattle.rds_run_rounds.specs.Grid.{IsAt, peer_at}
use Rattle.rds_run_threads.specs.Cuts.{AreCutsOfEnds, HasLostNoCut, IsCutEnd}
use Rattle.rds_run_threads.specs.Ends.{Writes}
use Rattle.rds_run_threads.specs.Known.{AreOpenOrUsed}
use Rattle.rds_run_threads.specs.Outcome.{cuts_to}
use Rattle.rds_run_threads.specs.Settled.{AreLeftOf, HaveDoneSpared}
use Rattle.rds_run_threads.specs.declared.form.RunEnd.{RunEnd}
use Rattle.rds_run_threads.proofs.At.{at_map, stood_at}
use Rattle.rds_run_threads.proofs.CutsAsked.{asked_done}
use Rattle.rds_run_threads.proofs.Hosts.{line_of}
use Rattle.rds_run_threads.proofs.Rows.{place_within}
use Rattle.rds_run_threads.proofs.UsedUp.{left_at, none_lost}
use Rattle.rds_run_threads.proofs.Written.{on_ok}

pub cuts_of_ends : {E : Type 0} (m : Means E) (limit hosts : ℕ) (callers : List CallerView) (rows : List (List (LineView E WriterView))) (ends : List HostEnd) →
    AreDone m limit hosts rows → length callers ≡ length rows → AreLeftOf callers rows ends → (commands : List Placed) → HaveDoneSpared hosts commands callers rows →
    AreOpenOrUsed commands rows → AreCutsOfEnds commands (host_views ends)
cuts_of_ends {E} m limit hosts callers rows ends done same left commands did used host place final side at at_side =
    let end = at_map host_view ends host final at in
    let row = stood_at rows ends host end.0 left.count end.1 in
    let caller = stood_at callers rows host row.0 (sym same) row.1 in
    let rest = left.each host caller.0 row.0 end.0 caller.1 row.1 end.1 in
    let sides : final.sides ≡ map line_side row.0 = ap (λ (h : FinalHost). h.sides) end.2 ∙ rest.journals in
    let line = at_map line_side row.0 place side (subst (λ (l : List FinalJournal). slice_get l place ≡ Some side) sides at_side) in
    let stands : IsAt rows host place line.0 = (row.0, row.1, line.1) in
    let peer = (line_of m limit hosts rows done host place line.0 stands).peer_is in
    let is = left_at m limit hosts rows done commands used host place line.0 stands in
    let past = line_past line.0 in
    let asked = asked_done hosts host commands caller.0.places row.0 (did host caller.0 row.0 caller.1 row.1) rest.cut place line.0 line.1 peer
    (place_within hosts rows done.shape host place line.0 stands) in
    subst (λ (s : FinalJournal). HasLostNoCut host (peer_at host place) commands s) (sym line.2)
    (subst (λ (p : ℕ). HasLostNoCut host (peer_at host place) commands (record { peer = p; past = past })) (sym peer)
    (none_lost host (peer_at host place) commands (numbers line.0.channel.streams.list) past is.other is.legal
    (subst (λ (p : ℕ). AreCutsDone (cuts_to host p commands) (numbers line.0.channel.streams.list) past) peer asked) is.is))

-- what was written changes nothing of that
cut_written : (commands : List Placed) (before after : ℕ) (sink : SinkSeen) (text : List ℕ) (end result : RunEnd) → IsCutEnd commands before after end →
    Writes sink text end result → IsCutEnd commands before after result
cut_written commands before after sink text end result cut (inl said) = subst (IsCutEnd commands before after) (sym said.0) cut
cut_written commands before after sink text end result cut (inr failed) = subst (IsCutEnd commands before after) (sym failed.0) tt

pub cut_ok : (commands : List Placed) (before after : ℕ) (sink : SinkSeen) (text : List ℕ) (end : RunEnd) (result : Result RunEnd Memory) →
    IsCutEnd commands before after end → IfOk result (Writes sink text end) → IfOk result (IsCutEnd commands before after)
cut_ok commands before after sink text end result cut =
    on_ok (Writes sink text end) (IsCutEnd commands before after) result (λ e written. cut_written commands before after sink text end e cut written)
