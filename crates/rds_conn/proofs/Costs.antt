-- As many messages of the store pass a test as numbers that are alive do, so that steps are counted in numbers.
use Rattle.std.proofs.Common.{◌≡◌, ℕ, ◌+◌, ◌==◌, not, nat_lt, nat_le, Bool, Option, Some, IfSome, List, length, map, filter, refl, sym, ◌∙◌, ap, subst, arith}
use Rattle.std.proofs.lemmas.Bool.Decides.{nat_tests}
use Rattle.std.proofs.lemmas.List.{length-map}
use Rattle.std.proofs.lemmas.List.Filters.{length-filter_both}
use Rattle.rds_wire.specs.declared.frame.Frame.{Frame}
use Rattle.rds_model.specs.declared.entry.Entry.{Entry}
use Rattle.rds_model.specs.declared.entry.Msg.{Msg}
use Rattle.rds_model.specs.Past.{Accepted, datagram}
use Rattle.rds_model.specs.Alive.{is_from, alive_numbers}
use Rattle.rds_model.specs.Store.{message, alive_messages}
use Rattle.rds_msgs.specs.Messages.{StoreView, messages_from}
use Rattle.rds_conn.specs.declared.conn.Conn.TheInside.{Inside}
use Rattle.rds_conn.specs.Costs.{slot_numbers, acked_numbers}
use Rattle.rds_conn.specs.Freeing.{acknowledged}
use Rattle.rds_conn.specs.Invariant.{ConnectionInvariant}
use Rattle.rds_conn.proofs.Messages.{alive_known, numbers_of}
use Rattle.rds_conn.proofs.MessagesHeld.{AllTell, messages_tell, numbers_sieved}

length_sieved : (past : List Entry) (keep : ℕ → Bool) (keep_message : Msg → Bool) →
    ((n : ℕ) (d : Accepted) → datagram past n ≡ Some d → keep n ≡ keep_message (message n d)) →
    (ms : List Msg) → ms ≡ alive_messages past → length (filter keep_message ms) ≡ length (filter keep (alive_numbers past))
length_sieved past keep keep_message same ms is =
    sym (length-map (filter keep_message ms) (λ (m : Msg). m.num))
    ∙ ap length (numbers_sieved past keep keep_message same ms (subst (AllTell past) (sym is) (messages_tell past (alive_numbers past))))
    ∙ ap (λ (ns : List ℕ). length (filter keep ns))
    (ap (map (λ (m : Msg). m.num)) is ∙ numbers_of past (alive_numbers past) (alive_known past))

-- a slot has as many messages as numbers
pub length-messages_from : (slot : ℕ) (past : List Entry) (ms : List Msg) → ms ≡ alive_messages past →
    length (messages_from slot ms) ≡ length (slot_numbers slot past)
length-messages_from slot past ms is =
    length_sieved past (λ n. is_from slot (datagram past n)) (λ (m : Msg). m.slot == slot) (λ n d known. ap (is_from slot) known) ms is

-- what an acknowledgement doesn't leave, it reaches
reached : (ack n : ℕ) → nat_le n ack ≡ not (nat_lt ack n)
reached ack n = grind (arith, nat_tests)

-- as many messages leave as numbers are acknowledged
length_acked : (ack : ℕ) (past : List Entry) (ms : List Msg) → ms ≡ alive_messages past →
    length (acked_numbers ack past) + length (filter (λ (m : Msg). nat_lt ack m.num) ms) ≡ length ms
length_acked ack past ms is =
    let left = length-filter_both (λ (m : Msg). nat_lt ack m.num) (λ (m : Msg). nat_le m.num ack) (λ (m : Msg). reached ack m.num) ms in
    let numbers = length_sieved past (λ n. nat_le n ack) (λ (m : Msg). nat_le m.num ack) (λ n d known. refl) ms is in
    omega (arith, left, numbers)

-- the passing of a frame takes a step for each number that it acknowledges, and one
pub acked_steps : (c : Inside) (f : Frame) (store : StoreView) (before after : ℕ) → ConnectionInvariant c → c.splitter.waiting ≡ Some f →
    store ≡ acknowledged f.header.ack c.store → after + length store.messages ≡ before + length c.store.messages + 1 →
    IfSome c.splitter.waiting (λ g. after ≡ before + length (acked_numbers g.header.ack c.journal.past) + 1)
acked_steps c f store before after keeps waits left counted =
    let acked = length_acked f.header.ack c.journal.past c.store.messages keeps.stored.holds.alive in
    let rest = ap (λ (h : StoreView). length h.messages) left in
    subst (λ (o : Option Frame). IfSome o (λ g. after ≡ before + length (acked_numbers g.header.ack c.journal.past) + 1)) (sym waits)
    (omega (arith, acked, rest, counted))
