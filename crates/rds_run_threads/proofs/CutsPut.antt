-- What a host's slots have put of cuts, on their routes to one peer.
use Rattle.std.proofs.Common.{◌≡◌, ◌≢◌, ◌+◌, ◌≤◌, ◌&&◌, ℕ, suc, nat_le, nat_lt, eqb, cond, Bool, true, false, List, [], ◌∷◌, ◌++◌, inl, inr, length, set, refl, sym, ap, subst, ◌∙◌, arith}
use Rattle.std.proofs.lemmas.Bool.{eqb-false, eqb-true}
use Rattle.std.proofs.lemmas.Option.{slice_get_within}
use Rattle.rds_model.specs.declared.order.Datagram.{Datagram}
use Rattle.rds_model.specs.declared.order.Order.{Order}
use Rattle.rds_model.specs.declared.order.Order.TheVariants as order
use Rattle.rds_fmap.specs.Readers.{IsLook, ReaderView}
use Rattle.rds_fmap.specs.declared.seen.Seen.{Seen}
use Rattle.rds_socket_parts.specs.Lanes.{ArePut, IsLaneAt, IsLookAt, IsPutAt, Lane, with_order, with_reader}
use Rattle.rds_socket.specs.Holding.{Holding, Open, told_of}
use Rattle.rds_socket.specs.Sends.{RefusalFits, order_of}
use Rattle.rds_socket.specs.declared.error.SendError.{SendError}
use Rattle.rds_socket.specs.declared.error.SendError.TheVariants as send
use Rattle.rds_line.specs.Keeps.{cuts_among}
use Rattle.rds_run_callers.specs.Places.{Place, holding_of}
use Rattle.rds_run_callers.specs.Tenants.{Asks, Cancels, Closes, ReceivesNext, SendsFrom, SendsOrNot}
use Rattle.rds_run_threads.proofs.At.{at_set, beside_set, one_at, stood_at}

pub either_way : {Goal : Type 0} (a b : ℕ) → (a ≡ b → Goal) → (a ≢ b → Goal) → Goal
either_way {Goal} a b same apart =
    let go : (t : Bool) → eqb a b ≡ t → Goal = elim [ true ↦ (λ e. same (eqb-true a b e)) | false ↦ (λ e. apart (eqb-false a b e)) ] in
    go (eqb a b) refl

cuts_append : (front back : List Order) → cuts_among (front ++ back) ≡ cuts_among front + cuts_among back
cuts_append [] back = omega arith
cuts_append (order.Cut ∷ front) back = let rest = cuts_append front back in omega (arith, rest)
cuts_append (order.Send slot sport dport payload ∷ front) back = cuts_append front back
cuts_append (order.Cancel slot dport ∷ front) back = cuts_append front back
cuts_append (order.CloseSocket slot ∷ front) back = cuts_append front back

-- an order more was put, if so
peer_either : (told : Bool) (lane : Lane ReaderView) (item : Order) → (cond told (with_order lane item) lane).peer ≡ lane.peer
peer_either true lane item = refl
peer_either false lane item = refl

cuts_either : (told : Bool) (lane : Lane ReaderView) (item : Order) → cuts_among lane.pass.put ≤ cuts_among (cond told (with_order lane item) lane).pass.put
cuts_either true lane item =
    let more : cuts_among (with_order lane item).pass.put ≡ cuts_among lane.pass.put + cuts_among (item ∷ []) = cuts_append lane.pass.put (item ∷ []) in
    omega (arith, more)
cuts_either false lane item = omega arith

module _ (place peer : ℕ) where
  -- the route at the place leads to the peer, no other one does, and so many cuts were put there
  pub record HasPut (n : ℕ) (routes : List (Lane ReaderView)) : Type 0 where
    pub lane : Lane ReaderView
    pub at : IsLaneAt routes place lane
    pub to : lane.peer ≡ peer
    pub only : (other : ℕ) (way : Lane ReaderView) → IsLaneAt routes other way → way.peer ≡ peer → other ≡ place
    pub cuts : n ≤ cuts_among lane.pass.put

  only_changed : (n : ℕ) (old : List (Lane ReaderView)) (i : ℕ) (was now : Lane ReaderView) → IsLaneAt old i was → now.peer ≡ was.peer → HasPut n old →
      (other : ℕ) (way : Lane ReaderView) → IsLaneAt (set old i now) other way → way.peer ≡ peer → other ≡ place
  only_changed n old i was now at same h other way at_way to =
      either_way other i
      (λ is.
      let way_is : now ≡ way =
      one_at (set old i now) i now way (at_set old i now (slice_get_within old i was at)) (subst (λ (j : ℕ). IsLaneAt (set old i now) j way) is at_way) in
      is ∙ h.only i was at (sym same ∙ (ap (λ (l : Lane ReaderView). l.peer) way_is ∙ to)))
      (λ apart. h.only other way (sym (beside_set old i other now apart) ∙ at_way) to)

  -- one route changed
  changed : (n m : ℕ) (old : List (Lane ReaderView)) (i : ℕ) (was now : Lane ReaderView) → IsLaneAt old i was → now.peer ≡ was.peer →
      (i ≡ place → n ≤ cuts_among was.pass.put → m ≤ cuts_among now.pass.put) → (i ≢ place → m ≤ n) → HasPut n old → HasPut m (set old i now)
  changed n m old i was now at same here beside h =
      either_way i place
      (λ is.
      let was_is : was ≡ h.lane = one_at old i was h.lane at (subst (λ (j : ℕ). IsLaneAt old j h.lane) (sym is) h.at) in record {
        lane = now;
        at = subst (λ (j : ℕ). IsLaneAt (set old i now) j now) is (at_set old i now (slice_get_within old i was at));
        to = same ∙ (ap (λ (l : Lane ReaderView). l.peer) was_is ∙ h.to);
        only = only_changed n old i was now at same h;
        cuts = here is (subst (λ (l : Lane ReaderView). n ≤ cuts_among l.pass.put) (sym was_is) h.cuts);
      })
      (λ apart.
      let less = beside apart in
      let few = h.cuts in record {
        lane = h.lane;
        at = beside_set old i place now (λ e. apart (sym e)) ∙ h.at;
        to = h.to;
        only = only_changed n old i was now at same h;
        cuts = omega (arith, less, few);
      })

  put_at : (n i : ℕ) (item : Order) (old new : List (Lane ReaderView)) → IsPutAt i item old new → HasPut n old → HasPut n new
  put_at n i item old new is h =
      let more : cuts_among (with_order is.0 item).pass.put ≡ cuts_among is.0.pass.put + cuts_among (item ∷ []) = cuts_append is.0.pass.put (item ∷ []) in
      subst (λ (l : List (Lane ReaderView)). HasPut n l) (sym is.2)
      (changed n n old i is.0 (with_order is.0 item) is.1 refl (λ here few. omega (arith, few, more)) (λ apart. omega arith) h)

  -- a cut was put there
  pub put_cut : (n i : ℕ) (old new : List (Lane ReaderView)) → i ≡ place → IsPutAt i order.Cut old new → HasPut n old → HasPut (suc n) new
  put_cut n i old new same is h =
      let more : cuts_among (with_order is.0 order.Cut).pass.put ≡ cuts_among is.0.pass.put + 1 = cuts_append is.0.pass.put (order.Cut ∷ []) in
      subst (λ (l : List (Lane ReaderView)). HasPut (suc n) l) (sym is.2)
      (changed n (suc n) old i is.0 (with_order is.0 order.Cut) is.1 refl (λ here few. omega (arith, few, more)) (λ apart. absurd (apart same)) h)

  look_at : (n i port : ℕ) (seen : Seen) (old new : List (Lane ReaderView)) → IsLookAt IsLook i port seen old new → HasPut n old → HasPut n new
  look_at n i port seen old new is h =
      subst (λ (l : List (Lane ReaderView)). HasPut n l) (sym is.4)
      (changed n n old i is.0 (with_reader is.0 is.1) is.2 refl (λ here few. few) (λ apart. omega arith) h)

  all_put : (n from upto : ℕ) (item : Order) (old new : List (Lane ReaderView)) → ArePut from upto item old new → HasPut n old → HasPut n new
  all_put n from upto item old new is h =
      let few = h.cuts in
      let told : ℕ → Bool = λ (i : ℕ). nat_le from i && nat_lt i upto in
      let more = cuts_either (told place) h.lane item in record {
        lane = cond (told place) (with_order h.lane item) h.lane;
        at = is.1 place h.lane h.at;
        to = peer_either (told place) h.lane item ∙ h.to;
        only = λ other way at_way to.
            let was = stood_at old new other way is.0 at_way in
            let now_is : cond (told other) (with_order was.0 item) was.0 ≡ way =
            one_at new other (cond (told other) (with_order was.0 item) was.0) way (is.1 other was.0 was.1) at_way in
            h.only other was.0 was.1 (sym (peer_either (told other) was.0 item) ∙ (ap (λ (l : Lane ReaderView). l.peer) now_is ∙ to));
        cuts = omega (arith, few, more);
      }

  -- no cut that was put is lost
  abbrev pub Keeps : Holding ReaderView → Holding ReaderView → Type 0
  Keeps old new = (n : ℕ) → HasPut n old.routes → HasPut n new.routes

  pub keeps_same : (old new : Holding ReaderView) → new.routes ≡ old.routes → Keeps old new
  keeps_same old new same n h = subst (λ (l : List (Lane ReaderView)). HasPut n l) (sym same) h

  pub asks : (to : ℕ) (item : Order) (old new : Holding ReaderView) → Asks to item old new → Keeps old new
  asks to item old new (inl put) n h = put_at n put.0.0 item old.routes new.routes put.0.2 h
  asks to item old new (inr none) n h = keeps_same old new (ap (λ (x : Holding ReaderView). x.routes) none.1) n h

  refused : (to dport : ℕ) (payload : List ℕ) (o q : Open ReaderView) (e : SendError) → RefusalFits IsLook to dport payload o e q → Keeps o.own q.own
  refused to dport payload o q (send.TooLong len limit) fits n h = keeps_same o.own q.own (ap (λ (x : Open ReaderView). x.own.routes) fits.3) n h
  refused to dport payload o q (send.NoRoute named) fits n h = keeps_same o.own q.own (ap (λ (x : Open ReaderView). x.own.routes) fits.3) n h
  refused to dport payload o q (send.Congested port version) fits n h =
      look_at n fits.2.0 dport (record { version = version; set = true }) o.own.routes q.own.routes fits.2.2 h
  refused to dport payload o q (send.SendFull queued len limit) fits n h =
      let look = fits.0.look in
      look_at n look.0 dport (record { version = fits.0.version; set = false }) o.own.routes q.own.routes look.2 h
  refused to dport payload o q send.Memory fits n h =
      let look = fits.0.look in
      look_at n look.0 dport (record { version = fits.0.version; set = false }) o.own.routes q.own.routes look.2 h

  sends : (to dport : ℕ) (payload : List ℕ) (o q : Open ReaderView) → SendsOrNot to dport payload o q → Keeps o.own q.own
  sends to dport payload o q (inl sent) n h =
      let look = sent.2.look in
      put_at n sent.4.0 (order_of o dport payload) sent.0 q.own.routes sent.4.2
      (look_at n look.0 dport (record { version = sent.2.version; set = false }) o.own.routes sent.0 look.2 h)
  sends to dport payload o q (inr why) n h = refused to dport payload o q why.0 why.2 n h

  pub receives : (o : Open ReaderView) (got : List Datagram) (p : Place) → ReceivesNext o got p → Keeps o.own (holding_of p)
  receives o got p (inl one) =
      keeps_same o.own (holding_of p) (ap (λ (x : Place). (holding_of x).routes) one.3 ∙ ap (λ (x : Open ReaderView). x.own.routes) one.2.3)
  receives o got p (inr none) = keeps_same o.own (holding_of p) (ap (λ (x : Place). (holding_of x).routes) none.1)

  pub sends_from : (to dport : ℕ) (payload : List ℕ) (o : Open ReaderView) (got : List Datagram) (p : Place) → SendsFrom to dport payload o got p → Keeps o.own (holding_of p)
  sends_from to dport payload o got p is n h =
      subst (λ (x : Place). HasPut n (holding_of x).routes) (sym is.2) (sends to dport payload o is.0 is.1 n h)

  pub cancels : (to dport : ℕ) (o : Open ReaderView) (got : List Datagram) (p : Place) → Cancels to dport o got p → Keeps o.own (holding_of p)
  cancels to dport o got p is n h =
      subst (λ (x : Place). HasPut n (holding_of x).routes) (sym is.2) (asks to (order.Cancel o.own.words.slot dport) o.own is.0 is.1 n h)

  pub closes : (o : Open ReaderView) (got : List Datagram) (p : Place) → Closes o got p → Keeps o.own (holding_of p)
  closes o got p is n h =
      let told = is.1.0.1 in
      subst (λ (x : Place). HasPut n (holding_of x).routes) (sym is.2)
      (all_put n (told_of o) (length o.own.routes) (order.CloseSocket o.own.words.slot) o.own.routes is.0.routes told h)
