-- On the queues of a slot stand only its orders, and cuts.
use Rattle.std.proofs.Common.{◌≡◌, ℕ, ◌<◌, ◌&&◌, nat_le, nat_lt, cond, Bool, true, false, List, length, get_or, All, Result, Ok, Err, OnOk, IfOk, IfErr, sym, ap, subst, ◌∙◌, arith}
use Rattle.std.proofs.Math.ListN.{length-map}
use Rattle.std.proofs.lemmas.Option.{get_or_from_slice_get, slice_get-get_or, slice_get_within}
use Rattle.std.proofs.lemmas.List.Elements.{All-get_or, All-set, All-push}
use Rattle.rds_model.specs.declared.order.Order.{Order}
use Rattle.rds_fmap.specs.declared.seen.Seen.{Seen}
use Rattle.rds_mail.specs.Passes.{Putter}
use Rattle.rds_socket_parts.specs.Refusals.{AskRefused}
use Rattle.rds_socket_parts.specs.declared.error.CancelError.{CancelError}
use Rattle.rds_socket_parts.specs.declared.error.NoRoute.{NoRoute}
use Rattle.rds_socket_parts.specs.Lanes.{Lane, IsLaneAt, IsOf, IsPutAt, IsPutTo, NoneTo, ArePut, ArePutOf, IsLookAt, IsLookTo, RoutesStay, fixed, with_order, with_reader}

module _ {R : Type 0} (slot : ℕ) where
  of_lane : (routes : List (Lane R)) (place : ℕ) (lane : Lane R) → IsLaneAt routes place lane → ArePutOf slot routes → All (IsOf slot) lane.pass.put
  of_lane routes place lane at all =
      subst (λ (l : Lane R). All (IsOf slot) l.pass.put) (get_or_from_slice_get routes place lane lane at) (All-get_or (λ (l : Lane R). All (IsOf slot) l.pass.put) routes place lane (slice_get_within routes place lane at) all)

  pub of_put : (item : Order) (place : ℕ) (old new : List (Lane R)) → IsOf slot item → IsPutAt place item old new → ArePutOf slot old → ArePutOf slot new
  of_put item place old new mine put all =
      let lane : Lane R = put.0 in
      subst (ArePutOf slot) (sym put.2) (All-set (λ (l : Lane R). All (IsOf slot) l.pass.put) old place (with_order lane item) (All-push (IsOf slot) lane.pass.put item (of_lane old place lane put.1 all) mine) all)

  pub of_look : (looks : R → R → ℕ → Seen → Type 0) (place port : ℕ) (seen : Seen) (old new : List (Lane R)) → IsLookAt looks place port seen old new → ArePutOf slot old → ArePutOf slot new
  of_look looks place port seen old new look all =
      subst (ArePutOf slot) (sym look.4) (All-set (λ (l : Lane R). All (IsOf slot) l.pass.put) old place (with_reader look.0 look.1) (of_lane old place look.0 look.2 all) all)

  -- an order that was put on a peer's queue, or refused
  pub of_ask : {E : Type 0} (Q : E → Type 0) (r : Result (Unit {0}) E) (peer : ℕ) (item : Order) (old new : List (Lane R)) → IsOf slot item → OnOk r (IsPutTo peer item old new) → IfErr r (λ e. Q e × (new ≡ old)) → ArePutOf slot old → ArePutOf slot new
  of_ask Q (Ok u) peer item old new mine put refused all = of_put item put.0 old new mine put.2 all
  of_ask Q (Err e) peer item old new mine put refused all = subst (ArePutOf slot) (sym refused.1) all

  -- a look at a peer's map, or none
  pub of_look_up : (looks : R → R → ℕ → Seen → Type 0) (r : Result Seen NoRoute) (peer port : ℕ) (old new : List (Lane R)) → IfOk r (λ seen. IsLookTo looks peer port seen old new) → IfErr r (λ e. (e.peer ≡ peer) × NoneTo old peer × (new ≡ old)) → ArePutOf slot old → ArePutOf slot new
  of_look_up looks (Ok seen) peer port old new look none all = of_look looks look.0 port seen old new look.2 all
  of_look_up looks (Err e) peer port old new look none all = subst (ArePutOf slot) (sym none.2) all

  of_either : (b : Bool) (lane : Lane R) (item : Order) → IsOf slot item → All (IsOf slot) lane.pass.put → All (IsOf slot) (cond b (with_order lane item) lane).pass.put
  of_either true lane item mine all = All-push (IsOf slot) lane.pass.put item all mine
  of_either false lane item mine all = all

  pub of_tell : (from upto : ℕ) (item : Order) (old new : List (Lane R)) → IsOf slot item → ArePut from upto item old new → ArePutOf slot old → ArePutOf slot new
  of_tell from upto item old new mine put all place d small =
      let within : place < length old = (let e = put.0 in omega arith) in
      let lane : Lane R = get_or old place d in
      let at : IsLaneAt old place lane = slice_get-get_or old place d within in
      let now : Lane R = cond (nat_le from place && nat_lt place upto) (with_order lane item) lane in
      subst (λ (l : Lane R). All (IsOf slot) l.pass.put) (sym (get_or_from_slice_get new place now d (put.1 place lane at))) (of_either (nat_le from place && nat_lt place upto) lane item mine (of_lane old place lane at all))

pub routes_length : {R P : Type 0} (pair : R → P) (looked : R → ℕ → Seen → Type 0) (old new : List (Lane R)) → RoutesStay pair looked old new → length new ≡ length old
routes_length pair looked old new k = sym (length-map new (fixed pair)) ∙ (ap length k.fixed_parts ∙ length-map old (fixed pair))

-- what a call on the routes answers, of the routes that the caller sees
pub put_seen : {R E : Type 0} (r : Result (Unit {0}) E) (peer : ℕ) (item order : Order) (xs z new : List (Lane R)) → item ≡ order → xs ≡ z → OnOk r (IsPutTo peer item xs new) → OnOk r (IsPutTo peer order z new)
put_seen r peer item order xs z new of is p = subst (λ ys. OnOk r (IsPutTo peer order ys new)) is (subst (λ i. OnOk r (IsPutTo peer i xs new)) of p)

pub refused_seen : {R : Type 0} (r : Result (Unit {0}) CancelError) (peer : ℕ) (xs z new : List (Lane R)) → xs ≡ z → IfErr r (λ e. AskRefused peer xs e × (new ≡ xs)) → IfErr r (AskRefused peer z)
refused_seen (Ok u) peer xs z new is p = tt
refused_seen (Err e) peer xs z new is p = subst (λ ys. AskRefused peer ys e) is p.0

pub look_seen : {R : Type 0} (looks : R → R → ℕ → Seen → Type 0) (r : Result Seen NoRoute) (peer port : ℕ) (xs z new : List (Lane R)) → xs ≡ z → IfOk r (λ seen. IsLookTo looks peer port seen xs new) → IfOk r (λ seen. IsLookTo looks peer port seen z new)
look_seen looks r peer port xs z new is p = subst (λ ys. IfOk r (λ seen. IsLookTo looks peer port seen ys new)) is p

pub none_seen : {R : Type 0} (r : Result Seen NoRoute) (peer : ℕ) (xs z new : List (Lane R)) → xs ≡ z → IfErr r (λ e. (e.peer ≡ peer) × NoneTo xs peer × (new ≡ xs)) → IfErr r (λ e. (e.peer ≡ peer) × NoneTo z peer)
none_seen (Ok seen) peer xs z new is p = tt
none_seen (Err e) peer xs z new is p = (p.0, subst (λ ys. NoneTo ys peer) is p.1)

pub note_seen : {R : Type 0} (place : ℕ) (note : Putter Order) (xs z : List (Lane R)) → xs ≡ z → (lane : Lane R) × IsLaneAt xs place lane × (note ≡ lane.pass) → (lane : Lane R) × IsLaneAt z place lane × (note ≡ lane.pass)
note_seen {R} place note xs z is p = subst (λ ys. (lane : Lane R) × IsLaneAt ys place lane × (note ≡ lane.pass)) is p
