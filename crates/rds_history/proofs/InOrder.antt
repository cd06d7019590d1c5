-- Sockets hand out what was delivered to them, in order.
use Rattle.std.proofs.Common.{◌≡◌, ℕ, suc, ◌==◌, ◌&&◌, ◌⊎◌, inl, inr, Bool, true, false, cond, Option, Some, None, Ok, List, [], ◌∷◌, ◌++◌, length, drop, refl, sym, ◌∙◌, ap, subst}
use Rattle.std.proofs.lemmas.Bool.{cases_Bool, cond-true, cond-false, eqb-true, and_parts}
use Rattle.std.specs.Option.{option_map_or}
use Rattle.rds_model.specs.declared.entry.Entry.{Entry}
use Rattle.rds_model.specs.declared.entry.Entry.TheVariants.{Accept, Cancel, Open, Pull, Read, Shut, Bad}
use Rattle.rds_model.specs.declared.order.Datagram.{Datagram}
use Rattle.rds_model.specs.Past.{newest_stream, open_stream}
use Rattle.rds_script.specs.declared.script.Placed.{Placed}
use Rattle.rds_history.specs.Events.{Event, Appended, Received}
use Rattle.rds_history.specs.Courses.{appends}
use Rattle.rds_history.specs.History.{history}
use Rattle.rds_history.specs.Journals.{journal}
use Rattle.rds_history.specs.Open.{open_one, shut_if_open}
use Rattle.rds_history.specs.Sockets.{arrived_datagrams, delivery, handed_out, queue}
use Rattle.rds_history.specs.InOrder.{HandsOutInOrder}
use Rattle.rds_history.proofs.EventInvariants.{Holds, holds_then, holds_appends, IsKept, keeps_history}

-- what was handed out is the beginning of what was delivered
abbrev pub InOrder : List Event → Type 0
InOrder past = (h slot : ℕ) → (rest : List Datagram) × (arrived_datagrams h slot past ≡ handed_out h slot past ++ rest)

append_assoc : {X : Type 0} (xs ys zs : List X) → (xs ++ ys) ++ zs ≡ xs ++ (ys ++ zs)
append_assoc [] ys zs = refl
append_assoc (x ∷ xs) ys zs = ap (λ l. x ∷ l) (append_assoc xs ys zs)

drop_front : {X : Type 0} (xs ys : List X) → drop (length xs) (xs ++ ys) ≡ ys
drop_front [] ys = refl
drop_front (x ∷ xs) ys = drop_front xs ys

ordered_entry : (h k : ℕ) (e : Entry) (past : List Event) → InOrder past → InOrder (Appended h k e ∷ past)
ordered_entry h k (Accept slot sport dport payload) past p = λ a s. p a s
ordered_entry h k (Cancel slot target) past p = λ a s. p a s
ordered_entry h k (Open stream) past p = λ a s. p a s
ordered_entry h k (Pull stream frame) past p = λ a s. p a s
ordered_entry h k (Shut stream) past p = λ a s. p a s
ordered_entry h k (Bad stream header cause) past p = λ a s. p a s
ordered_entry h k (Read stream f out) past p = λ a s. go a s (h == a) (p a s)
  where
    go : (a s : ℕ) (here : Bool) → ((rest : List Datagram) × (arrived_datagrams a s past ≡ handed_out a s past ++ rest)) →
        ((rest : List Datagram) × (cond here (arrived_datagrams a s past ++ delivery s k f out) (arrived_datagrams a s past) ≡ handed_out a s past ++ rest))
    go a s true q = (q.0 ++ delivery s k f out, ap (λ (l : List Datagram). l ++ delivery s k f out) q.1 ∙ append_assoc (handed_out a s past) q.0 (delivery s k f out))
    go a s false q = q

ordered_received : (h port slot : ℕ) (d : Datagram) (waiting : List Datagram) (past : List Event) → queue h slot past ≡ d ∷ waiting → InOrder past →
    InOrder (Received h port slot d ∷ past)
ordered_received h port slot d waiting past is p = λ a s. go a s (cases_Bool (h == a && (slot == s)))
  where
    front : (a s : ℕ) → (h == a && (slot == s)) ≡ true → arrived_datagrams a s past ≡ handed_out a s past ++ (d ∷ waiting)
    front a s here =
        let both = and_parts (h == a) (slot == s) here in
        let at : queue a s past ≡ d ∷ waiting =
        ap (λ i. queue i s past) (sym (eqb-true h a both.0)) ∙ ap (λ i. queue h i past) (sym (eqb-true slot s both.1)) ∙ is in
        let q = p a s in
        let rest : q.0 ≡ d ∷ waiting =
        sym (drop_front (handed_out a s past) q.0) ∙ ap (drop (length (handed_out a s past))) (sym q.1) ∙ at in
        q.1 ∙ ap (λ (l : List Datagram). handed_out a s past ++ l) rest

    go : (a s : ℕ) → ((h == a && (slot == s)) ≡ true) ⊎ ((h == a && (slot == s)) ≡ false) →
        ((rest : List Datagram) × (arrived_datagrams a s past ≡ handed_out a s (Received h port slot d ∷ past) ++ rest))
    go a s (inl here) = (
      waiting,
      front a s here ∙ sym (append_assoc (handed_out a s past) (d ∷ []) waiting)
          ∙ ap (λ (l : List Datagram). l ++ waiting) (sym (cond-true (h == a && (slot == s)) (handed_out a s past ++ d ∷ []) (handed_out a s past) here)),
    )
    go a s (inr there) = let q = p a s in (
      q.0,
      q.1
          ∙ ap (λ (l : List Datagram). l ++ q.0) (sym (cond-false (h == a && (slot == s)) (handed_out a s past ++ d ∷ []) (handed_out a s past) there)),
    )

ordered_shut : (limit h k : ℕ) (past : List Event) → InOrder past → Holds InOrder (shut_if_open limit h k past)
ordered_shut limit h k past p = go (open_stream (journal h k past))
  where
    go : (o : Option ℕ) → Holds InOrder (option_map_or (λ stream. appends limit h k (Shut stream) past) o (Ok past))
    go None = p
    go (Some stream) = holds_appends InOrder InOrder limit h k (Shut stream) past p (λ before q. ordered_entry h k (Shut stream) before q)

pub in_order_is_kept : IsKept InOrder
in_order_is_kept = record {
  printed = λ line past p a s. p a s;
  bound = λ h port slot sndbuf rcvbuf past p a s. p a s;
  closed = λ h port slot unread past p a s. p a s;
  marked = λ h port set bytes most past p a s. p a s;
  moved = λ h k count past p a s. p a s;
  received = ordered_received;
  appended = λ h k e past quiet p. ordered_entry h k e past p;
  opened = λ limit h k past p. holds_then InOrder InOrder (open_one limit h k past) (open_one limit k h)
      (holds_appends InOrder InOrder limit h k (Open (suc (newest_stream (journal h k past)))) past p (λ before q. ordered_entry h k (Open (suc (newest_stream (journal h k past)))) before q))
      (λ mid q. holds_appends InOrder InOrder limit k h (Open (suc (newest_stream (journal k h mid)))) mid q (λ before r. ordered_entry k h (Open (suc (newest_stream (journal k h mid)))) before r));
  shut = λ limit h k past p. holds_then InOrder InOrder (shut_if_open limit h k past) (shut_if_open limit k h) (ordered_shut limit h k past p)
      (λ mid q. ordered_shut limit k h mid q);
}

pub hands_out_in_order : (h slot : ℕ) (past : List Event) → InOrder past → HandsOutInOrder h slot past
hands_out_in_order h slot past p =
    let q = p h slot in
    ap (λ (l : List Datagram). handed_out h slot past ++ l) (ap (drop (length (handed_out h slot past))) q.1 ∙ drop_front (handed_out h slot past) q.0) ∙ sym q.1

-- so after all commands of a script
pub in_order_history : (limit hosts : ℕ) (commands : List Placed) (past : List Event) (h slot : ℕ) → history limit hosts commands [] ≡ Ok past →
    HandsOutInOrder h slot past
in_order_history limit hosts commands past h slot is =
    hands_out_in_order h slot past
    (subst (Holds InOrder) is (keeps_history InOrder in_order_is_kept limit hosts commands [] (λ a s. ([], refl))))
