-- What a send has found, step by step.
use Rattle.std.proofs.Common.{◌≡◌, ◌+◌, ◌-◌, ◌<◌, ◌≤◌, ℕ, List, length, Option, Some, Bool, true, false, Result, Ok, Err, OnOk, OnErr, IfErr, refl, sym, ap, subst, ◌∙◌}
use Rattle.rds_meter.specs.Places.{freed_word}
use Rattle.rds_model.specs.declared.order.Order.{Order}
use Rattle.rds_fmap.specs.declared.seen.Seen.{Seen}
use Rattle.rds_socket_parts.specs.Words.{Purse}
use Rattle.rds_socket_parts.specs.Lanes.{Lane, IsLaneAt, LeadsTo, NoneTo, IsLookAt, IsLookTo, IsPutAt, ArePutOf, with_reader}
use Rattle.rds_socket_parts.specs.PlaceLaws.{here}
use Rattle.std.proofs.lemmas.Option.{slice_get_within, same_Some}
use Rattle.rds_socket.specs.declared.error.SendError.{SendError}
use Rattle.rds_socket.specs.declared.error.SendError.TheVariants as refusal
use Rattle.rds_socket.specs.Holding.{Open, IsOpen}
use Rattle.rds_socket.specs.Calls.{with_own, with_routes, with_total, after_freed}
use Rattle.rds_socket.specs.Sends.{limit_of, order_of, FindsPortClear, RefusalFits, SendFits, after_freed_load}
use Rattle.rds_socket.proofs.Quiet.{quiet_load}
use Rattle.rds_socket.proofs.Kept.{moved, open_on}

-- what was seen, with its bit
seen_with : (s : Seen) (b : Bool) → s.set ≡ b → s ≡ record { version = s.version; set = b }
seen_with s b e = ap (λ (t : Bool). record { version = s.version; set = t }) e

same_lane : {X : Type 0} {o : Option X} {x y : X} → o ≡ Some x → o ≡ Some y → x ≡ y
same_lane {X} {o} {x} {y} a b = same_Some x y (sym a ∙ b)

module _ {R : Type 0} (looks : R → R → ℕ → Seen → Type 0) (peer dport : ℕ) (payload : List ℕ) (v z : Open R) (view_is : v ≡ z) where
  fits_on : (e : SendError) (now : Open R) → RefusalFits looks peer dport payload v e now → RefusalFits looks peer dport payload z e now
  fits_on e now k = subst (λ (o : Open R). RefusalFits looks peer dport payload o e now) view_is k

  pub too_long : (len limit : ℕ) → len ≡ length payload → limit ≡ limit_of v → limit < len → RefusalFits looks peer dport payload z (refusal.TooLong len limit) v
  too_long len limit a b c = fits_on (refusal.TooLong len limit) v (a, b, c, refl)

  pub no_route : length payload ≤ limit_of v → NoneTo v.own.routes peer → RefusalFits looks peer dport payload z (refusal.NoRoute peer) v
  no_route short none = fits_on (refusal.NoRoute peer) v (short, refl, none, refl)

  module _ (short : length payload ≤ limit_of v) (place : ℕ) (seen : Seen) (routes : List (Lane R)) (leads : LeadsTo v.own.routes peer place) (look : IsLookAt looks place dport seen v.own.routes routes) where
    look_with : (b : Bool) → seen.set ≡ b → IsLookTo looks peer dport (record { version = seen.version; set = b }) v.own.routes routes
    look_with b e = (place, leads, subst (λ s. IsLookAt looks place dport s v.own.routes routes) (seen_with seen b e) look)

    pub congested : seen.set ≡ true → RefusalFits looks peer dport payload z (refusal.Congested dport seen.version) (with_own v (moved v.own v.own.words v.own.inbox routes v.own.total))
    congested set = fits_on (refusal.Congested dport seen.version) _ (short, refl, look_with true set, refl)

    clear : seen.set ≡ false → FindsPortClear looks peer dport payload v routes
    clear set = record { short = short; version = seen.version; look = look_with false set }

    pub clear_at : seen.set ≡ false → FindsPortClear looks peer dport payload z routes
    clear_at set = subst (λ (o : Open R). FindsPortClear looks peer dport payload o routes) view_is (clear set)

    pub leads_still : LeadsTo routes peer place
    leads_still =
        let lane : Lane R = look.0 in
        let same : lane.peer ≡ peer = ap (λ (l : Lane R). l.peer) (same_lane look.2 leads.1) ∙ leads.2 in
        (with_reader lane look.1, subst (λ l. IsLaneAt l place (with_reader lane look.1)) (sym look.4) (here v.own.routes place (with_reader lane look.1) (slice_get_within v.own.routes place lane look.2)), same)

    module _ (words : Purse) (freed : ℕ) (loaded : words ≡ after_freed v.own.words freed) where
      abbrev now : Open R
      now = with_own v (moved v.own words v.own.inbox routes v.own.total)

      is_loaded : now ≡ after_freed_load v routes freed
      is_loaded = ap (λ (p : Purse). with_own v (moved v.own p v.own.inbox routes v.own.total)) loaded

      pub send_full : (queued len limit : ℕ) → seen.set ≡ false → queued ≡ v.own.total - freed → len ≡ length payload → limit ≡ v.sndbuf → limit < queued + len → RefusalFits looks peer dport payload z (refusal.SendFull queued len limit) now
      send_full queued len limit set a b c d = fits_on (refusal.SendFull queued len limit) now (clear set, (freed, a, b, c, d, is_loaded))

      pub loaded_at : now ≡ after_freed_load z routes freed
      loaded_at = is_loaded ∙ ap (λ (o : Open R). after_freed_load o routes freed) view_is

module _ {R : Type 0} (v : Open R) (words : Purse) (freed : ℕ) (routes : List (Lane R)) (loaded : words ≡ after_freed v.own.words freed) where
  -- the socket stays whole after a look and a load
  pub loaded_open : ArePutOf v.own.words.slot routes → length routes ≡ length v.own.routes → IsOpen v → IsOpen (with_own v (moved v.own words v.own.inbox routes v.own.total))
  loaded_open orders same k = open_on v words _ v.own.inbox routes v.own.total loaded (quiet_load v.own.words.slot v.own.words.seat.view (freed_word v.own.words.slot) freed k.held.quiet) orders same k.held.total k

-- what a send answers, by what it found and whether the order was put
module _ {R : Type 0} (looks : R → R → ℕ → Seen → Type 0) (peer dport place freed : ℕ) (payload : List ℕ) (old mid : Open R) (clear : FindsPortClear looks peer dport payload old mid.own.routes)
    (leads : LeadsTo mid.own.routes peer place) (room : old.own.total - freed + length payload ≤ old.sndbuf) (is : mid ≡ after_freed_load old mid.own.routes freed) where
  pub send_answer : (r : Result (Unit {0}) (List ℕ × SendError)) (new : Open R)
      → OnOk r (IsPutAt place (order_of mid dport payload) mid.own.routes new.own.routes)
      → OnOk r (new ≡ with_own mid (with_total (with_routes mid.own new.own.routes) (mid.own.total + length payload)))
      → IfErr r (λ e. (e.0 ≡ payload) × (e.1 ≡ refusal.Memory)) → OnErr r (new ≡ mid) → SendFits looks peer dport payload old r new
  send_answer (Ok u) new put counted back same = (
    mid.own.routes,
    freed,
    clear,
    room,
    (place, leads, subst (λ (o : Open R). IsPutAt place (order_of o dport payload) mid.own.routes new.own.routes) is put),
    counted ∙ ap (λ (o : Open R). with_own o (with_total (with_routes o.own new.own.routes) (o.own.total + length payload))) is,
  )
  send_answer (Err e) new put counted back same = (
    back.0,
    subst (λ (why : SendError). RefusalFits looks peer dport payload old why new) (sym back.1)
        (subst (λ (o : Open R). RefusalFits looks peer dport payload old refusal.Memory o) (sym same) (clear, (freed, room, is))),
  )

pub put_at_seen : {R : Type 0} (place : ℕ) (item order : Order) (xs z new : List (Lane R)) → item ≡ order → xs ≡ z → IsPutAt place item xs new → IsPutAt place order z new
put_at_seen place item order xs z new of is p = subst (λ ys. IsPutAt place order ys new) is (subst (λ i. IsPutAt place i xs new) of p)
