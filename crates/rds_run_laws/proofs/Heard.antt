-- In a run of a calm script each datagram that is passed goes to a socket.
use Rattle.std.proofs.Common.{◌≡◌, ◌⊎◌, inl, inr, ℕ, zero, suc, ◌+◌, ◌≤◌, ◌==◌, ◌&&◌, Bool, true, false, cond, All, Some, List, [], ◌∷◌, length, slice_get, refl, sym, ap, subst, arith}
use Rattle.std.specs.Prelude.{Contains}
use Rattle.std.proofs.lemmas.Bool.{eq-eqb, eqb-true}
use Rattle.std.proofs.lemmas.List.Elements.{All-head, All-tail}
use Rattle.rds_wire.specs.Bytes.{IsBytes}
use Rattle.rds_wire.specs.declared.frame.Frame.{Frame}
use Rattle.rds_wire.specs.declared.kind.TheConstants.{MAP_LENGTH}
use Rattle.rds_model.specs.declared.entry.Entry.{Entry}
use Rattle.rds_model.specs.declared.entry.Entry.TheVariants.{Accept, Cancel, Open, Pull, Read, Shut, Bad}
use Rattle.rds_model.specs.declared.entry.Outcome.{Outcome}
use Rattle.rds_model.specs.declared.entry.Outcome.TheVariants as outcome
use Rattle.rds_model.specs.Legal.{IsLegal}
use Rattle.rds_model.specs.LegalityLaws.{lawful_read}
use Rattle.rds_model.specs.Owed.{is_map}
use Rattle.rds_model.specs.Past.{Moment, before, now, passes}
use Rattle.rds_text.specs.FinalState.{FinalHost, FinalJournal}
use Rattle.rds_script.specs.declared.script.Command.{Command}
use Rattle.rds_script.specs.declared.script.Command.TheVariants as script
use Rattle.rds_script.specs.declared.script.Placed.{Placed}
use Rattle.rds_run_callers.specs.Places.{Bound, Ended, Place, Spare, Vacant}
use Rattle.rds_run_hosts.specs.Obeyed.{after_binds, leading_binds}
use Rattle.rds_run_rounds.specs.Grid.{peer_at}
use Rattle.rds_run_threads.specs.Ends.{AreAcknowledged, AreEnds}
use Rattle.rds_run_threads.specs.Outcome.{IsAlwaysFound}
use Rattle.rds_run_threads.proofs.At.{all_at, stood_at}
use Rattle.rds_run_laws.specs.Calm.{HasBind, IsCalm, IsCalmAfter}
use Rattle.rds_run_laws.specs.Put.{sent_between, sent_to}
use Rattle.rds_run_laws.specs.Sent.{sent_sum}
use Rattle.rds_run_laws.specs.Weights.{Weight, by_length, passed_sum}
use Rattle.rds_run_laws.proofs.Calmly.{sent_after}
use Rattle.rds_run_laws.proofs.Carried.{came_all, led_grow, stands_led}
use Rattle.rds_run_laws.proofs.Growing.{HasPort}
use Rattle.rds_run_laws.proofs.Harmless.{bit, bound_above}
use Rattle.rds_run_laws.proofs.Meeting.{meets_at}
use Rattle.rds_run_laws.proofs.Plain.{read_ports}

-- the weight of a datagram to a port
abbrev to_port : ℕ → Weight
to_port n sport dport payload = bit (dport == n)

module _ (w : Weight) where
  no_less : (e : Entry) (past : List Entry) → passed_sum w past ≤ passed_sum w (e ∷ past)
  no_less (Read s f o) past = go (passes o)
    where
      go : (b : Bool) → passed_sum w past ≤ cond b (passed_sum w past + w f.header.sport f.header.dport f.payload) (passed_sum w past)
      go true = omega arith
      go false = omega arith
  no_less (Accept slot sport dport payload) past = omega arith
  no_less (Cancel slot target) past = omega arith
  no_less (Open s) past = omega arith
  no_less (Pull s f) past = omega arith
  no_less (Shut s) past = omega arith
  no_less (Bad s h found) past = omega arith

  -- what was passed counts
  read_counts : (s : ℕ) (f : Frame) (o : Outcome) (past : List Entry) → passes o ≡ true → Contains past (Read s f o) →
      w f.header.sport f.header.dport f.payload ≤ passed_sum w past
  read_counts s f o [] passed (k, within, is) = absurd (omega (arith, within))
  read_counts s f o (e ∷ past) passed (zero, within, is) =
      subst (λ (x : Entry). w f.header.sport f.header.dport f.payload ≤ passed_sum w (x ∷ past)) (sym is) here
    where
      here : w f.header.sport f.header.dport f.payload ≤ passed_sum w (Read s f o ∷ past)
      here =
          let counted = ap (λ (b : Bool). cond b (passed_sum w past + w f.header.sport f.header.dport f.payload) (passed_sum w past)) passed in
          omega (arith, counted)
  read_counts s f o (e ∷ past) passed (suc k, within, is) =
      let rest = read_counts s f o past passed (k, omega (arith, within), is) in
      let more = no_less e past in
      omega (arith, rest, more)

-- what stands in a journal was its newest entry once
pub moment_of : (e : Entry) (past : List Entry) → Contains past e → (p : List Entry) × Moment (e ∷ p) past
moment_of e [] (k, within, is) = absurd (omega (arith, within))
moment_of e (x ∷ past) (zero, within, is) = (past, subst (λ (y : Entry). Moment (y ∷ past) (x ∷ past)) is now)
moment_of e (x ∷ past) (suc k, within, is) = let rest = moment_of e past (k, omega (arith, within), is) in (rest.0, before rest.1)

module _ (hosts : ℕ) (binds : List Placed) (from host n : ℕ) where
  -- a command that sends to the port of the host sends to a port that is bound
  one_send : (c : Command) → IsCalmAfter hosts binds c → (sent_to (to_port n) from host c ≡ 0) ⊎ HasBind host n binds
  one_send (script.Send by port to dport payload) calm =
      go (by == from) (to == host) (dport == n) (λ t u. subst (λ (h : ℕ). HasBind h n binds) (eqb-true to host t) (subst (λ (m : ℕ). HasBind to m binds) (eqb-true dport n u) calm.into)) refl refl
    where
      go : (a t u : Bool) → ((to == host) ≡ true → (dport == n) ≡ true → HasBind host n binds) → (to == host) ≡ t → (dport == n) ≡ u →
          (cond (a && t) (bit u) 0 ≡ 0) ⊎ HasBind host n binds
      go true true true bound t u = inr (bound t u)
      go true true false bound t u = inl refl
      go true false u bound t _ = inl refl
      go false t u bound _ _ = inl refl
  one_send (script.Bind by port sndbuf rcvbuf) calm = inl refl
  one_send (script.BindAny by port sndbuf rcvbuf) calm = inl refl
  one_send (script.Recv by port) calm = inl refl
  one_send (script.Cancel by port to dport) calm = inl refl
  one_send (script.Close by port) calm = inl refl
  one_send (script.Open by to) calm = inl refl
  one_send (script.Move by to size) calm = inl refl
  one_send (script.Cut by to) calm = inl refl
  one_send script.Drain calm = inl refl

  some_send : (commands : List Placed) → All (λ (p : Placed). IsCalmAfter hosts binds p.command) commands → 1 ≤ sent_between (to_port n) from host commands → HasBind host n binds
  some_send [] calm some = absurd (omega (arith, some))
  some_send (placed ∷ commands) calm some =
      elim (one_send placed.command (All-head (λ (p : Placed). IsCalmAfter hosts binds p.command) placed commands calm)) [
        | inl none ↦ some_send commands (All-tail (λ (p : Placed). IsCalmAfter hosts binds p.command) placed commands calm) (omega (arith, some, none))
        | inr bound ↦ bound
      ]

module _ (pulled : (s : ℕ) (f : Frame) (p past : List Entry) → IsLegal past → Moment (Pull s f ∷ p) past → is_map f ≡ true →
    (length f.payload ≡ MAP_LENGTH) × IsBytes f.payload)
    (hosts : ℕ) (commands : List Placed) (ends : List FinalHost) (calm : IsCalm hosts commands) (did : AreEnds true hosts commands ends)
    (acknowledged : AreAcknowledged ends) (host place : ℕ) (end : FinalHost) (side : FinalJournal) (stands : slice_get ends host ≡ Some end)
    (at : slice_get end.sides place ≡ Some side) where
  -- what is passed was sent to a port that the host binds
  pub bound_read : (s : ℕ) (f : Frame) (o : Outcome) → passes o ≡ true → Contains side.past (Read s f o) → HasBind host f.header.dport (leading_binds commands)
  bound_read s f o passed inside =
      let w = to_port f.header.dport in
      let counts = read_counts w s f o side.past passed inside in
      let one = ap bit (eq-eqb f.header.dport f.header.dport refl) in
      let came = came_all pulled hosts commands ends calm did acknowledged w host place end side stands at in
      let after = sent_after w (peer_at host place) host commands in
      some_send hosts (leading_binds commands) (peer_at host place) host f.header.dport (after_binds commands) calm.rest (omega (arith, counts, one, came, after))

  none_lost : (s : ℕ) (f : Frame) → Contains side.past (Read s f outcome.NoSocket) → ⊥
  none_lost s f inside =
      let bind = bound_read s f outcome.NoSocket refl inside in
      let held = (stands_led pulled hosts commands ends calm did acknowledged host end stands).held f.header.dport bind in
      let grow = led_grow pulled hosts commands ends calm did acknowledged host end stands in
      let later = stood_at (did.did host end stands).last (did.did host end stands).found.led held.0 held.1 (sym grow.count) held.2 in
      go held.0 held.1 later.0 held.2 later.1 held.3 ((grow.each held.0 held.1 later.0 held.2 later.1).held f.header.dport held.3)
    where
      go : (slot : ℕ) (p q : Place) → slice_get (did.did host end stands).found.led slot ≡ Some p → slice_get (did.did host end stands).last slot ≡ Some q →
          HasPort (sent_sum by_length commands) f.header.dport p → HasPort (sent_sum by_length commands) f.header.dport q → ⊥
      go slot (Bound o got) (Bound q more) at_p at_q has has_too =
          all_at (IsAlwaysFound o.port) end.sides place side ((did.did host end stands).found.found slot o q got more at_p at_q) at s f inside (sym has)
      go slot (Bound o got) (Vacant h) at_p at_q has has_too = absurd has_too
      go slot (Bound o got) (Ended port h more) at_p at_q has has_too = absurd has_too
      go slot (Bound o got) (Spare h) at_p at_q has has_too = absurd has_too
      go slot (Vacant h) q at_p at_q has has_too = absurd has
      go slot (Ended port h more) q at_p at_q has has_too = absurd has
      go slot (Spare h) q at_p at_q has has_too = absurd has

  -- so it goes to a slot
  pub goes_to_slot : (s : ℕ) (f : Frame) (o : Outcome) → passes o ≡ true → Contains side.past (Read s f o) → (slot : ℕ) × (o ≡ outcome.Slot slot)
  goes_to_slot s f (outcome.Slot slot) passed inside = (slot, refl)
  goes_to_slot s f outcome.NoSocket passed inside = absurd (none_lost s f inside)
  goes_to_slot s f outcome.Ping passed inside =
      let legal = (meets_at hosts commands ends did acknowledged host place end side stands at).met.peers.legal_a in
      let m = moment_of (Read s f outcome.Ping) side.past inside in
      let port = (read_ports m.0 f.header outcome.Ping (lawful_read s f outcome.Ping legal m.1).obeys).0 in
      let above = bound_above hosts commands calm host f.header.dport (bound_read s f outcome.Ping refl inside) in
      absurd (omega (arith, port, above))
  goes_to_slot s f outcome.Void passed inside =
      let legal = (meets_at hosts commands ends did acknowledged host place end side stands at).met.peers.legal_a in
      let m = moment_of (Read s f outcome.Void) side.past inside in
      let port : f.header.dport ≡ 0 = read_ports m.0 f.header outcome.Void (lawful_read s f outcome.Void legal m.1).obeys in
      let above = bound_above hosts commands calm host f.header.dport (bound_read s f outcome.Void refl inside) in
      absurd (omega (arith, port, above))
  goes_to_slot s f outcome.Old passed inside = absurd (cc)
  goes_to_slot s f outcome.AckOnly passed inside = absurd (cc)
  goes_to_slot s f outcome.Map passed inside = absurd (cc)
  goes_to_slot s f outcome.OddMap passed inside = absurd (cc)
