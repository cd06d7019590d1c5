-- After its binds a calm script has each host send exactly what its commands send, since no send is refused.
use Rattle.std.proofs.Common.{◌≡◌, ◌≢◌, inl, inr, ℕ, ◌+◌, ◌≤◌, ◌==◌, ◌&&◌, Bool, false, cond, Some, All, List, [], ◌∷◌, length, slice_get, refl, sym, ap, subst, ◌∙◌, arith}
use Rattle.std.proofs.lemmas.Bool.{eq-eqb, ne_eqb}
use Rattle.std.proofs.lemmas.List.Elements.{All-head, All-tail}
use Rattle.std.proofs.lemmas.Option.{same_Some, slice_get_within}
use Rattle.rds_fmap.specs.Readers.{HasSeen, IsLook, ReaderView}
use Rattle.rds_fmap.specs.declared.seen.Seen.{Seen}
use Rattle.rds_text.specs.Hosts.{address_of}
use Rattle.rds_script.specs.declared.script.Command.{Command}
use Rattle.rds_script.specs.declared.script.Command.TheVariants as script
use Rattle.rds_script.specs.declared.script.Placed.{Placed}
use Rattle.rds_socket_parts.specs.Lanes.{IsLaneAt, Lane}
use Rattle.rds_socket.specs.Sends.{IsSent}
use Rattle.rds_run_callers.specs.Commands.{commander}
use Rattle.rds_run_callers.specs.Doing.{AtPort, IsDone, IsFree}
use Rattle.rds_run_callers.specs.Places.{Bound, Ended, Place, Spare, Vacant, holding_of}
use Rattle.rds_run_callers.specs.Tenants.{SendsFrom, SendsOrNot}
use Rattle.rds_run_hosts.specs.Obeyed.{HasObeyed, is_host}
use Rattle.rds_run_rounds.specs.Grid.{peer_at}
use Rattle.rds_run_threads.proofs.At.{at_set, stood_at}
use Rattle.rds_run_laws.specs.Calm.{HasBind, IsCalmAfter, SendsAcross}
use Rattle.rds_run_laws.specs.Put.{own_sum, sent_between, sent_to}
use Rattle.rds_run_laws.specs.Sent.{sent_by}
use Rattle.rds_run_laws.specs.Weights.{Weight, by_length}
use Rattle.rds_run_laws.proofs.Bounded.{place_of}
use Rattle.rds_run_laws.proofs.Callers.{set_sum}
use Rattle.rds_run_laws.proofs.Effects.{Adds, AddsNothing, LeadToOthers, cuts_quietly, nothing_done, receives_quietly, send_succeeds, sent_total, sent_weight, slot_weight, slots_weight, total_of}
use Rattle.rds_run_laws.proofs.SumLists.{part_of}
use Rattle.rds_run_laws.proofs.Growing.{AllGrow, AreKind, HasPort, HasRoom, IsKind, IsLive, does_grow, obeyed_grow}

-- no look of a slot's readers found a port marked
abbrev pub AreClear : List Place → Type 0
AreClear places = (slot : ℕ) (p : Place) → slice_get places slot ≡ Some p → (i : ℕ) (lane : Lane ReaderView) → IsLaneAt (holding_of p).routes i lane →
    (port : ℕ) (seen : Seen) → HasSeen lane.reader port seen → seen.set ≡ false

adds_nothing : (host : ℕ) (c : Command) (old new : List Place) → ((w : Weight) (peer : ℕ) → sent_to w host peer c ≡ 0) → sent_by by_length c ≡ 0 →
    AddsNothing old new → Adds host c old new
adds_nothing host c old new none no_bytes nothing = record {
  weight = λ w place. let same = nothing.weight w place in let zero = none w (peer_at host place) in omega (arith, same, zero);
  total = let same = nothing.total in omega (arith, same, no_bytes);
}

module _ (hosts host bytes : ℕ) (binds : List Placed) where
  -- each slot of a host has its number, its routes to the others and its room, none was closed, and each port of the binds has its socket
  pub record Stands (places : List Place) : Type 0 where
    pub lead : (slot : ℕ) (p : Place) → slice_get places slot ≡ Some p → LeadToOthers hosts host (holding_of p).routes
    pub room : (slot : ℕ) (p : Place) → slice_get places slot ≡ Some p → HasRoom bytes p
    pub number : (slot : ℕ) (p : Place) → slice_get places slot ≡ Some p → (holding_of p).words.slot ≡ slot
    pub live : (slot : ℕ) (p : Place) → slice_get places slot ≡ Some p → IsLive bytes p
    pub held : (port : ℕ) → HasBind host port binds → (slot : ℕ) × (p : Place) × (slice_get places slot ≡ Some p) × HasPort bytes port p

  pub stands_then : (old new : List Place) → AllGrow bytes old new → Stands old → Stands new
  stands_then old new grow s = record {
    lead = λ slot q at.
        let p = stood_at old new slot q grow.count at in
        (grow.each slot p.0 q p.1 at).routes.peers ∙ s.lead slot p.0 p.1;
    room = λ slot q at.
        let p = stood_at old new slot q grow.count at in
        (grow.each slot p.0 q p.1 at).room (s.room slot p.0 p.1);
    number = λ slot q at.
        let p = stood_at old new slot q grow.count at in
        (grow.each slot p.0 q p.1 at).slot ∙ s.number slot p.0 p.1;
    live = λ slot q at.
        let p = stood_at old new slot q grow.count at in
        (grow.each slot p.0 q p.1 at).live (s.live slot p.0 p.1);
    held = λ port bind.
        let was = s.held port bind in
        let now = stood_at new old was.0 was.1 (sym grow.count) was.2 in
        (was.0, now.0, now.1, (grow.each was.0 was.1 now.0 was.2 now.1).held port was.3);
  }

  clear_before : (old new : List Place) → AllGrow bytes old new → AreClear new → AreClear old
  clear_before old new grow clear slot p at i lane at_lane port seen (number, found, says) =
      let q = stood_at new old slot p (sym grow.count) at in
      let now = (grow.each slot p q.0 at q.1).routes.looks i lane at_lane in
      clear slot q.0 q.1 i now.0 now.1 port seen (number, now.2 _ found, says)

  -- a socket with the port isn't free
  not_free : (port : ℕ) (places : List Place) → IsFree places port → (slot : ℕ) (p : Place) → slice_get places slot ≡ Some p → HasPort bytes port p → ⊥
  not_free port places free slot (Vacant h) at has = absurd has
  not_free port places free slot (Bound o got) at has = free slot o got at has
  not_free port places free slot (Ended own h got) at has = absurd has
  not_free port places free slot (Spare h) at has = absurd has

  sends : (port to dport : ℕ) (payload : List ℕ) (old new : List Place) → Stands old → AreClear new → SendsAcross hosts binds host port to dport (length payload) →
      total_of old + length payload ≤ bytes → AtPort port (SendsFrom (address_of to) dport payload) old new → Adds host (script.Send host port to dport payload) old new
  sends port to dport payload old new s clear across few (inr (free, is)) =
      let held = s.held port across.from in
      absurd (not_free port old free held.0 held.1 held.2 held.3)
  sends port to dport payload old new s clear across few (inl (slot, o, got, at, called, (p, (q, tried, is_p), is))) = record {
    weight = λ w place.
        let changed = set_sum (slot_weight w place) old slot (Bound o got) p at in
        let whole = ap (slots_weight w place) is in
        let here = ap (slot_weight w place) is_p in
        let more = sent_weight hosts host to dport payload o q lead sent w place in
        let counts = ap (λ (b : Bool). cond (b && (to == peer_at host place)) (w port dport payload) 0) (eq-eqb host host refl) in
        let named = ap (λ (n : ℕ). cond (to == peer_at host place) (w n dport payload) 0) called in
        omega (arith, changed, whole, here, more, counts, named);
    total =
        let changed = set_sum (λ (x : Place). (holding_of x).total) old slot (Bound o got) p at in
        let whole = ap total_of is in
        let here = ap (λ (x : Place). (holding_of x).total) is_p in
        let more = sent_total hosts host to dport payload o q lead sent in
        omega (arith, changed, whole, here, more);
  }
    where
      lead : LeadToOthers hosts host o.own.routes
      lead = s.lead slot (Bound o got) at

      stands : slice_get new slot ≡ Some (Bound q got)
      stands = subst (λ (l : List Place). slice_get l slot ≡ Some (Bound q got)) (sym is)
          (at_set old slot p (slice_get_within old slot (Bound o got) at) ∙ ap Some is_p)

      sent : IsSent IsLook (address_of to) dport payload o q
      sent =
          let way = place_of hosts host to across.known across.to_known across.apart in
          let own = part_of (λ (x : Place). (holding_of x).total) old slot (Bound o got) at in
          let room : bytes ≤ o.sndbuf = s.room slot (Bound o got) at in
          subst (λ (n : ℕ). IsSent IsLook (address_of n) dport payload o q) way.2
          (send_succeeds hosts host dport payload o q way.0 way.1 lead across.short (omega (arith, own, room, few))
          (λ i lane at_lane seen looked. clear slot (Bound q got) stands i lane at_lane dport seen looked)
          (subst (λ (n : ℕ). SendsOrNot (address_of n) dport payload o q) (sym way.2) tried))

  does : (c : Command) (old new : List Place) → IsCalmAfter hosts binds c → Stands old → AreClear new → total_of old + sent_by by_length c ≤ bytes →
      commander c ≡ Some host → IsDone c old new → Adds host c old new
  does (script.Bind by port sndbuf rcvbuf) old new calm s clear few own done = absurd calm
  does (script.BindAny by port sndbuf rcvbuf) old new calm s clear few own done = absurd calm
  does (script.Send by port to dport payload) old new calm s clear few own done =
      let same : by ≡ host = same_Some by host own in
      subst (λ (b : ℕ). Adds host (script.Send b port to dport payload) old new) (sym same)
      (sends port to dport payload old new s clear (subst (λ (b : ℕ). SendsAcross hosts binds b port to dport (length payload)) same calm) few done)
  does (script.Recv by port) old new calm s clear few own done =
      adds_nothing host (script.Recv by port) old new (λ w peer. refl) refl (receives_quietly port old new done)
  does (script.Cancel by port to dport) old new calm s clear few own done = absurd calm
  does (script.Close by port) old new calm s clear few own done = absurd calm
  does (script.Open by to) old new calm s clear few own done = adds_nothing host (script.Open by to) old new (λ w peer. refl) refl (nothing_done old new done)
  does (script.Move by to size) old new calm s clear few own done =
      adds_nothing host (script.Move by to size) old new (λ w peer. refl) refl (nothing_done old new done)
  does (script.Cut by to) old new calm s clear few own done =
      adds_nothing host (script.Cut by to) old new (λ w peer. refl) refl (cuts_quietly (address_of to) old new done)
  does script.Drain old new calm s clear few own done = adds_nothing host script.Drain old new (λ w peer. refl) refl (nothing_done old new done)

  calm_is_kind : (c : Command) → IsCalmAfter hosts binds c → IsKind bytes c
  calm_is_kind (script.Bind by port sndbuf rcvbuf) calm = absurd calm
  calm_is_kind (script.BindAny by port sndbuf rcvbuf) calm = absurd calm
  calm_is_kind (script.Send by port to dport payload) calm = tt
  calm_is_kind (script.Recv by port) calm = tt
  calm_is_kind (script.Cancel by port to dport) calm = absurd calm
  calm_is_kind (script.Close by port) calm = absurd calm
  calm_is_kind (script.Open by to) calm = tt
  calm_is_kind (script.Move by to size) calm = tt
  calm_is_kind (script.Cut by to) calm = tt
  calm_is_kind script.Drain calm = tt

  abbrev CalmAfter : Placed → Type 0
  CalmAfter placed = IsCalmAfter hosts binds placed.command

  pub all_kind : (commands : List Placed) → All CalmAfter commands → AreKind bytes commands
  all_kind [] all = tt
  all_kind (placed ∷ commands) all =
      (calm_is_kind placed.command (All-head CalmAfter placed commands all), all_kind commands (All-tail CalmAfter placed commands all))

  -- what another host's command sends isn't this one's
  not_its_own : (w : Weight) (peer : ℕ) (c : Command) → commander c ≢ Some host → sent_to w host peer c ≡ 0
  not_its_own w peer (script.Send by port to dport payload) other =
      ap (λ (b : Bool). cond (b && (to == peer)) (w port dport payload) 0) (ne_eqb by host (λ same. other (ap Some same)))
  not_its_own w peer (script.Bind by port sndbuf rcvbuf) other = refl
  not_its_own w peer (script.BindAny by port sndbuf rcvbuf) other = refl
  not_its_own w peer (script.Recv by port) other = refl
  not_its_own w peer (script.Cancel by port to dport) other = refl
  not_its_own w peer (script.Close by port) other = refl
  not_its_own w peer (script.Open by to) other = refl
  not_its_own w peer (script.Move by to size) other = refl
  not_its_own w peer (script.Cut by to) other = refl
  not_its_own w peer script.Drain other = refl

  -- all commands after the binds
  pub walk : (commands : List Placed) (first last : List Place) → All CalmAfter commands → Stands first → AreClear last →
      HasObeyed host commands first last → total_of first + own_sum by_length host commands ≤ bytes → (w : Weight) (place : ℕ) →
      slots_weight w place last ≡ slots_weight w place first + sent_between w host (peer_at host place) commands
  walk [] first last calm s clear same few w place = let is = ap (slots_weight w place) same in omega (arith, is)
  walk (placed ∷ commands) first last calm s clear (middle, inl (own, did), later) few w place =
      let rest = All-tail CalmAfter placed commands calm in
      let this = All-head CalmAfter placed commands calm in
      let grow = obeyed_grow bytes host commands middle last (all_kind commands rest) later in
      let counts : cond (is_host host (commander placed.command)) (sent_by by_length placed.command) 0 ≡ sent_by by_length placed.command =
      ap (λ (b : Bool). cond b (sent_by by_length placed.command) 0) (ap (is_host host) own ∙ eq-eqb host host refl) in
      let adds = does placed.command first middle this s (clear_before middle last grow clear) (omega (arith, few, counts)) own did in
      let stands = stands_then first middle (does_grow bytes host placed first middle (calm_is_kind placed.command this) (inl (own, did))) s in
      let total = adds.total in
      let here = adds.weight w place in
      let then = walk commands middle last rest stands clear later (omega (arith, few, counts, total)) w place in
      omega (arith, here, then)
  walk (placed ∷ commands) first last calm s clear (middle, inr (other, same), later) few w place =
      let is = ap (slots_weight w place) same in
      let total = ap total_of same in
      let none = not_its_own w (peer_at host place) placed.command other in
      let then = walk commands middle last (All-tail CalmAfter placed commands calm) (subst Stands (sym same) s) clear later (omega (arith, few, total)) w place in
      omega (arith, is, none, then)
