-- The cuts that a host's commands ask for were done by its lines.
use Rattle.std.proofs.Common.{◌≡◌, ◌≤◌, ◌<◌, ℕ, suc, inl, inr, List, Some, option_map, slice_get, sym, ap, subst, ⊎_elim, ◌∙◌, arith}
use Rattle.std.proofs.lemmas.Option.{slice_get-map}
use Rattle.rds_model.specs.declared.entry.Entry.{Entry}
use Rattle.rds_fmap.specs.Readers.{WriterView}
use Rattle.rds_socket_parts.specs.Lanes.{IsLaneAt}
use Rattle.rds_text.specs.Hosts.{address_of}
use Rattle.rds_script.specs.declared.script.Placed.{Placed}
use Rattle.rds_socket.specs.Holding.{Holding}
use Rattle.rds_fmap.specs.Readers.{ReaderView}
use Rattle.rds_line_channel.specs.Streams.{numbers}
use Rattle.rds_line.specs.Line.{LineView, line_past}
use Rattle.rds_host_end.specs.Cuts.{AreCutsDone, HasShut, cuts_put}
use Rattle.rds_run_callers.specs.Places.{Place, holding_of, spared}
use Rattle.rds_run_rounds.specs.Grid.{peer_at}
use Rattle.rds_run_settling.specs.Tied.{holdings}
use Rattle.rds_run_threads.specs.Outcome.{cuts_to}
use Rattle.rds_run_threads.specs.Settled.{AreAllCut, HasDoneSpared}
use Rattle.rds_run_threads.proofs.At.{held_at, spared_holds}
use Rattle.rds_run_threads.proofs.Cutting.{cuts_of_done}
use Rattle.rds_run_threads.proofs.CutsTogether.{one_of_all}

-- fewer cuts are done where more are
fewer_done : (fewer more : ℕ) (streams : List ℕ) (past : List Entry) → fewer ≤ more → AreCutsDone more streams past → AreCutsDone fewer streams past
fewer_done fewer more streams past less done =
    ⊎_elim (λ (enough : HasShut more past). inl (omega (arith, less, enough))) (λ used. inr used) done

module _ {E : Type 0} where
  pub asked_done : (hosts host : ℕ) (commands : List Placed) (places : List Place) (lines : List (LineView E WriterView)) →
      HasDoneSpared hosts host commands places lines → AreAllCut places lines → (place : ℕ) (line : LineView E WriterView) → slice_get lines place ≡ Some line →
      line.channel.conn.peer ≡ address_of (peer_at host place) → suc place < hosts →
      AreCutsDone (cuts_to host line.channel.conn.peer commands) (numbers line.channel.streams.list) (line_past line)
  asked_done hosts host commands places lines did cut place line at_line to within =
      let way = cuts_of_done hosts host place commands did.last did.did.done within in
      let here = subst (λ (l : List Place). slice_get l way.slot ≡ Some (spared way.p)) (sym did.left)
      (slice_get-map spared did.last way.slot ∙ ap (option_map spared) way.at) in
      let put = one_of_all place (holdings places) way.slot (holding_of (spared way.p)) way.cut.lane (held_at places way.slot (spared way.p) here)
      (subst (λ (h : Holding ReaderView). IsLaneAt h.routes place way.cut.lane) (sym (spared_holds way.p)) way.cut.at) in
      let asked = way.cut.cuts in
      fewer_done (cuts_to host line.channel.conn.peer commands) (cuts_put place (holdings places)) (numbers line.channel.streams.list) (line_past line)
      (subst (λ (peer : ℕ). cuts_to host peer commands ≤ cuts_put place (holdings places)) (sym to) (omega (arith, asked, put))) (cut place line at_line)
