-- The lines of hosts that are done: the peer of each, its limit, and what its journal is beside that of the peer's line.
use Rattle.std.proofs.Common.{◌≡◌, ◌≤◌, ◌<◌, ◌-◌, ℕ, suc, Bool, List, Some, inl, inr, map, slice_get, sym, ap, subst, ◌∙◌, arith}
use Rattle.std.specs.List.{range_with_len}
use Rattle.std.proofs.lemmas.Bool.{cases_lt}
use Rattle.std.proofs.lemmas.Simd.{map-map}
use Rattle.rds_link.specs.Ends.{Means}
use Rattle.rds_model.specs.declared.entry.Entry.{Entry}
use Rattle.rds_line.specs.Line.{LineView, line_past}
use Rattle.rds_text.specs.Hosts.{address_of}
use Rattle.rds_run_rounds.specs.Done.{AreDone}
use Rattle.rds_run_rounds.specs.Grid.{IsAt, others, peer_at}
use Rattle.rds_run_rounds.specs.Sound.{AreSoundJournals}
use Rattle.rds_run_threads.proofs.Rows.{host_within, numbered, peer_after, peer_before, place_within, row_length, stands}

-- the journals of two lines are sound seen from the other side, too
pub sound_back : (tells : Bool) (low high : List Entry) → AreSoundJournals tells low high → AreSoundJournals tells high low
sound_back tells low high s = record {
  low_legal = s.high_legal;
  high_legal = s.low_legal;
  honest = λ told. record { forth = (s.honest told).back; back = (s.honest told).forth };
  fifo_forth = λ honest. s.fifo_back (record { forth = honest.back; back = honest.forth });
  fifo_back = λ honest. s.fifo_forth (record { forth = honest.back; back = honest.forth });
  forth = λ honest. s.back (record { forth = honest.back; back = honest.forth });
  back = λ honest. s.forth (record { forth = honest.back; back = honest.forth });
}

-- a line of a host has this limit, and this host as its peer
pub record IsLineOf {E M : Type 0} (limit host place : ℕ) (line : LineView E M) : Type 0 where
  pub limit_is : line.channel.conn.log.limit ≡ limit
  pub peer_is : line.channel.conn.peer ≡ address_of (peer_at host place)

module _ {E M : Type 0} (m : Means E) (limit hosts : ℕ) (rows : List (List (LineView E M))) (done : AreDone m limit hosts rows) where
  -- the line at a place of a host's row
  pub line_of : (host place : ℕ) (line : LineView E M) → IsAt rows host place line → IsLineOf limit host place line
  line_of host place line at =
      let known = host_within hosts rows done.shape host at.0 at.1 in
      let within = place_within hosts rows done.shape host place line at in
      elim (cases_lt place host) [
        | inl before ↦
            let other = stands hosts rows done.shape place (host - 1) (omega (arith, known, before)) (omega (arith, known, before)) in
            let is : suc (host - 1) ≡ host = omega (arith, before) in
            let both = (done.sound place (host - 1) other.0 line (omega (arith, before)) other.1 (subst (λ (h : ℕ). IsAt rows h place line) (sym is) at)).hosts in
            record { limit_is = both.other_limit; peer_is = both.other_peer ∙ ap address_of (sym (peer_before host place before)) }
        | inr after ↦
            let other = stands hosts rows done.shape (suc place) host within (omega (arith, after, within)) in
            let both = (done.sound host place line other.0 after at other.1).hosts in
            record { limit_is = both.one_limit; peer_is = both.one_peer ∙ ap address_of (sym (peer_after host place after)) }
      ]

  -- the peers of a host's lines are the other hosts
  pub peers_of_row : (host : ℕ) (row : List (LineView E M)) → slice_get rows host ≡ Some row →
      map (λ (line : LineView E M). line.channel.conn.peer) row ≡ map address_of (others hosts host)
  peers_of_row host row at =
      let long = row_length hosts rows done.shape host row at in
      numbered (λ (line : LineView E M). line.channel.conn.peer) (λ (place : ℕ). address_of (peer_at host place)) 0 row
      (λ place line at_line. (line_of host place line (row, at, at_line)).peer_is ∙ ap (λ (p : ℕ). address_of (peer_at host p)) (omega arith))
      ∙ (ap (λ (n : ℕ). map (λ (place : ℕ). address_of (peer_at host place)) (range_with_len 0 n)) (omega (arith, long))
      ∙ sym (map-map address_of (peer_at host) (range_with_len 0 (hosts - 1))))

  -- the journals of the lines of two hosts are sound
  pub sound_of : (host peer place back : ℕ) (line other : LineView E M) → IsAt rows host place line → IsAt rows peer back other →
      peer_at host place ≡ peer → peer_at peer back ≡ host → AreSoundJournals m.tells (line_past line) (line_past other)
  sound_of host peer place back line other at at_other to from =
      elim (cases_lt place host) [
        | inl before ↦
            let to_is : place ≡ peer = sym (peer_before host place before) ∙ to in
            let from_is : suc back ≡ host = sym (peer_after peer back (high_back host peer back (omega (arith, to_is, before)) from)) ∙ from in
            sound_back m.tells (line_past other) (line_past line)
            (done.sound peer back other line (high_back host peer back (omega (arith, to_is, before)) from) at_other
            (subst (λ (h : ℕ). IsAt rows h peer line) (sym from_is) (subst (λ (p : ℕ). IsAt rows host p line) to_is at))).sound
        | inr after ↦
            let to_is : suc place ≡ peer = sym (peer_after host place after) ∙ to in
            let from_is : back ≡ host = sym (peer_before peer back (low_back host peer back (omega (arith, to_is, after)) from)) ∙ from in
            (done.sound host place line other after at
            (subst (λ (h : ℕ). IsAt rows h host other) (sym to_is) (subst (λ (p : ℕ). IsAt rows peer p other) from_is at_other))).sound
      ]
    where
      high_back : (host peer back : ℕ) → peer < host → peer_at peer back ≡ host → peer ≤ back
      high_back host peer back less is =
          elim (cases_lt back peer) [
            | inl before ↦ let at = peer_before peer back before in absurd (omega (arith, at, is, less, before))
            | inr after ↦ after
          ]

      low_back : (host peer back : ℕ) → host < peer → peer_at peer back ≡ host → back < peer
      low_back host peer back less is =
          elim (cases_lt back peer) [
            | inl before ↦ before
            | inr after ↦ let at = peer_after peer back after in absurd (omega (arith, at, is, less, after))
          ]
