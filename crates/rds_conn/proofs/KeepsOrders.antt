-- What a connection keeps where a datagram is accepted, or datagrams are taken back.
use Rattle.std.proofs.Common.{◌≡◌, ◌⊎◌, inl, inr, ℕ, zero, suc, ◌+◌, ◌-◌, ◌*◌, ◌<◌, ◌≤◌, ◌^◌, ◌==◌, not, Bool, true, false, cond, Option, Some, None, is_some, IfSome, List, [], ◌∷◌, ◌++◌, length, take, map, filter, sum, get_or, refl, sym, ◌∙◌, ap, subst, arith, length-append}
use Rattle.std.specs.Prelude.{All}
use Rattle.std.proofs.lemmas.Bool.{cases_eq, and_parts, eqb-true, ne_eqb, eq-eqb}
use Rattle.std.proofs.lemmas.List.{length-map}
use Rattle.std.proofs.lemmas.List.Sums.{sum_by-append, sum_by-cons}
use Rattle.std.proofs.lemmas.List.Filters.{sum_by-filter_both}
use Rattle.std.proofs.lemmas.List.Elements.{All-nil, All-cons}
use Rattle.rds_wire.specs.declared.kind.TheConstants.{MAX_LENGTH}
use Rattle.rds_model.specs.declared.entry.Entry.{Entry}
use Rattle.rds_model.specs.declared.entry.Entry.TheVariants.{Accept, Cancel}
use Rattle.rds_model.specs.declared.entry.Msg.{Msg}
use Rattle.rds_model.specs.declared.entry.Target.{Target}
use Rattle.rds_model.specs.declared.entry.TheConstants.{NO_SLOT}
use Rattle.rds_model.specs.Past.{accepted, datagram}
use Rattle.rds_model.specs.Alive.{alive_numbers, aims_at, covers}
use Rattle.rds_model.specs.Legal.{IsLegal, IsLawfulAccept}
use Rattle.rds_model.specs.Store.{alive_messages}
use Rattle.rds_model.specs.NumberLaws.{number_of_known}
use Rattle.rds_msgs.specs.Messages.{StoreView, bytes_of, covers_message, covered_messages, uncovered_messages, after_cancel, message_numbers}
use Rattle.rds_conn.specs.declared.conn.Conn.TheInside.{Inside}
use Rattle.rds_conn.specs.Freeing.{with_freed, bytes_of_slot, Frees}
use Rattle.rds_conn.specs.Invariant.{ConnectionInvariant, IsLinked, IsStored, IsFreed}
use Rattle.rds_conn.proofs.Filters.{filter_same, not_not}
use Rattle.rds_conn.proofs.Bounds.{accepted_within}
use Rattle.rds_conn.proofs.Rising.{Rises}
use Rattle.rds_conn.proofs.AliveSteps.{alive_rises}
use Rattle.rds_conn.proofs.Messages.{numbers_of, alive_known, messages_after_cancel}
use Rattle.rds_conn.proofs.MessagesHeld.{AllTell, messages_tell, numbers_sieved, holds_after_accept, holds_after_cancel}
use Rattle.rds_conn.proofs.Totals.{total_sieved, total_all, total_none}
use Rattle.rds_conn.specs.Released.{released_bytes}
use Rattle.rds_model.specs.Alive.{alive_bytes}
use Rattle.rds_conn.proofs.ReleasedBytes.{gone_after_cancel, conserved_by}
use Rattle.rds_conn.proofs.KeepsStreams.{whole_with}
use Rattle.rds_conn.proofs.Charging.{freed_same, freed_other, length-with_freed, sum-with_freed, charged_after_accept, charged_after, charge_within}

-- each message has a number that was accepted
pub messages_below : (past : List Entry) (ms : List Msg) → AllTell past ms → All (λ (m : Msg). m.num < suc (accepted past)) ms
messages_below past [] tell = All-nil (λ (m : Msg). m.num < suc (accepted past))
messages_below past (m ∷ ms) tell =
    All-cons (λ (x : Msg). x.num < suc (accepted past)) m ms
    (let within = number_of_known past m.num (ap is_some tell.0.known) in omega (arith, within.1))
    (messages_below past ms tell.1)

-- there are no more numbers that rise than their bound
length_of_rises : (low : ℕ) (xs : List ℕ) (high : ℕ) → Rises low xs high → low + length xs ≤ high
length_of_rises low [] high rises = omega (arith, rises)
length_of_rises low (x ∷ xs) high rises = omega (arith, rises.0, length_of_rises x xs high rises.1)

-- there are as many messages as numbers that are alive, and no more than entries
pub length-alive_messages : (past : List Entry) → length (alive_messages past) ≡ length (alive_numbers past)
length-alive_messages past =
    sym (length-map (alive_messages past) (λ (m : Msg). m.num)) ∙ ap length (numbers_of past (alive_numbers past) (alive_known past))

pub few_messages : (past : List Entry) → length (alive_messages past) ≤ length past
few_messages past =
    omega (arith, length-alive_messages past, length_of_rises 0 (alive_numbers past) (accepted past) (alive_rises past), accepted_within past)

-- what the store needs for a new message
pub record IsNext (past : List Entry) (store : StoreView) (slots slot : ℕ) : Type 0 where
  pub few : length store.messages < 4294967294
  pub above : All (λ (m : Msg). m.num < suc (accepted past)) store.messages
  pub owned : (slot < store.slots) ⊎ (slot ≡ NO_SLOT)

pub next_message : (past : List Entry) (store : StoreView) (slots slot : ℕ) → IsStored past store slots → length past < 4294967294 →
    (slot < slots) ⊎ (slot ≡ NO_SLOT) → IsNext past store slots slot
next_message past store slots slot stored short owned = record {
  few = let is = ap length stored.holds.alive in omega (arith, is, few_messages past, short);
  above = messages_below past store.messages (subst (AllTell past) (sym stored.holds.alive) (messages_tell past (alive_numbers past)));
  owned = elim owned [ inl below ↦ inl (let same = stored.slots_are in omega (arith, same, below)) | inr none ↦ inr none ];
}

-- a message behind all others
pub stored_after_accept : (slot sport dport : ℕ) (payload : List ℕ) (past : List Entry) (store : StoreView) (slots : ℕ) → IsLegal past →
    IsStored past store slots →
    IsStored (Accept slot sport dport payload ∷ past) (record store {
      messages = store.messages ++ record { num = suc (accepted past); place = length past; slot = slot; dport = dport; len = length payload } ∷ [];
      spare = store.spare - 1;
    }) slots
stored_after_accept slot sport dport payload past store slots legal stored =
    let m : Msg = record { num = suc (accepted past); place = length past; slot = slot; dport = dport; len = length payload } in
    record {
      holds = holds_after_accept slot sport dport payload past store.messages store.mark legal stored.marked stored.holds;
      marked = omega (arith, stored.marked, length-append store.messages (m ∷ []));
      slots_are = stored.slots_are;
      few = stored.few;
    }

pub freed_after_accept : (slot sport dport : ℕ) (payload : List ℕ) (past : List Entry) (store : StoreView) (freed : List ℕ) (slots : ℕ) →
    length payload ≤ MAX_LENGTH → IsFreed past store freed slots →
    IsFreed (Accept slot sport dport payload ∷ past) (record store {
      messages = store.messages ++ record { num = suc (accepted past); place = length past; slot = slot; dport = dport; len = length payload } ∷ [];
      spare = store.spare - 1;
    }) freed slots
freed_after_accept slot sport dport payload past store freed slots short is =
    let m : Msg = record { num = suc (accepted past); place = length past; slot = slot; dport = dport; len = length payload } in
    record {
      slots_are = is.slots_are;
      bounded =
          let more = sum_by-append (λ (x : Msg). x.len) store.messages (m ∷ []) in
          let one = sum_by-cons (λ (x : Msg). x.len) m [] in
          omega (arith, more, one, short, is.bounded);
    }

pub keeps_send : (c : Inside) (slot sport dport : ℕ) (payload : List ℕ) → ConnectionInvariant c → 1 ≤ c.spare → 1 ≤ c.store_spare → slot < c.slots →
    IsLawfulAccept c.journal.past slot sport dport payload →
    ConnectionInvariant (record c {
      journal = record c.journal { past = Accept slot sport dport payload ∷ c.journal.past; spare = c.journal.spare - 1 };
      store = record c.store {
        messages = c.store.messages ++ record { num = c.accepted + 1; place = length c.journal.past; slot = slot; dport = dport; len = length payload } ∷ [];
        spare = c.store.spare - 1;
      };
      spare = c.spare - 1;
      charges = with_freed slot (length payload) c.charges;
      store_spare = c.store_spare - 1;
      accepted = c.accepted + 1;
    })
keeps_send c slot sport dport payload keeps some store_some within lawful =
    let past : List Entry = c.journal.past in
    let number : c.accepted + 1 ≡ suc (accepted past) = omega (arith, keeps.counted.accepted_is) in
    let store_with : ℕ → StoreView = λ n. record c.store {
      messages = c.store.messages ++ record { num = n; place = length past; slot = slot; dport = dport; len = length payload } ∷ [];
      spare = c.store.spare - 1;
    } in
    record {
      whole = whole_with (Accept slot sport dport payload) past keeps.whole lawful refl;
      room = record {
        entries = omega (arith, keeps.room.entries);
        within = omega (arith, some, keeps.room.entries, keeps.room.within);
        most = keeps.room.most;
        messages = omega (arith, keeps.room.messages);
      };
      pong = keeps.pong;
      newest = keeps.newest;
      stream = keeps.stream;
      counted = record { accepted_is = number; highest_is = keeps.counted.highest_is; last_is = keeps.counted.last_is };
      linked = linked_after c.stream keeps.linked;
      reading = keeps.reading;
      stored = subst (λ n. IsStored (Accept slot sport dport payload ∷ past) (store_with n) c.slots) (sym number)
          (stored_after_accept slot sport dport payload past c.store c.slots keeps.whole.legal keeps.stored);
      freed = subst (λ n. IsFreed (Accept slot sport dport payload ∷ past) (store_with n) c.freed c.slots) (sym number)
          (freed_after_accept slot sport dport payload past c.store c.freed c.slots lawful.payload_fits keeps.freed);
      charged = charged_after_accept (record { num = c.accepted + 1; place = length past; slot = slot; dport = dport; len = length payload })
          c.store.messages c.freed c.charges c.slots within keeps.charged;
    }
  where
    linked_after : (o : Option ℕ) → IfSome o (λ s. IsLinked s c.journal.past c.mapped c.map c.asking) →
        IfSome o (λ s. IsLinked s (Accept slot sport dport payload ∷ c.journal.past) c.mapped c.map c.asking)
    linked_after None linked = tt
    linked_after (Some s) linked = record {
      map_is = linked.map_is;
      asked = record { count = linked.asked.count; bytes = linked.asked.bytes; asked = linked.asked.asked; must = linked.asked.must };
    }

-- a cancellation leaves a store whose mark is within
pub marked_after : (keep : Msg → Bool) (mark : ℕ) (ms : List Msg) → length (filter keep (take mark ms)) ≤ length (filter keep ms)
marked_after keep zero ms = omega arith
marked_after keep (suc mark) [] = omega arith
marked_after keep (suc mark) (m ∷ ms) =
    elim (keep m) as (λ b. length (cond b (m ∷ filter keep (take mark ms)) (filter keep (take mark ms))) ≤ length (cond b (m ∷ filter keep ms) (filter keep ms))) [
      | true ↦ omega (arith, marked_after keep mark ms)
      | false ↦ marked_after keep mark ms
    ]

-- the bytes of a slot's messages that a cancellation takes are freed
pub freed_and_left : (slot y : ℕ) (target : Target) (freed : List ℕ) (ms : List Msg) → y < length freed →
    get_or (with_freed slot (bytes_of (covered_messages slot target ms)) freed) y 0 + bytes_of_slot y (uncovered_messages slot target ms)
    ≡ get_or freed y 0 + bytes_of_slot y ms
freed_and_left slot y target freed ms within =
    let cut = total_sieved (λ (m : Msg). m.len) (λ m. m.slot == y) (λ m. not (covers_message slot target m)) ms in
    let taken_is : bytes_of_slot y (filter (λ m. not (not (covers_message slot target m))) ms) ≡ bytes_of_slot y (covered_messages slot target ms) =
    ap (bytes_of_slot y) (filter_double (covers_message slot target) ms) in
    elim (cases_eq y slot) [
      | inl same ↦
          let all = total_all (λ (m : Msg). m.len) (λ m. m.slot == y) (covers_message slot target) ms
          (λ m take. eq-eqb m.slot y (sym (eqb-true slot m.slot (and_parts (slot == m.slot) (aims_at target m.dport) take).0) ∙ sym same)) in
          let here = ap (λ x. get_or (with_freed slot (bytes_of (covered_messages slot target ms)) freed) x 0) same ∙ freed_same slot (bytes_of (covered_messages slot target ms)) freed (subst (λ x. x < length freed) same within) in
          let there = ap (λ x. get_or freed x 0) same in
          omega (arith, cut, taken_is, all, here, there)
      | inr other ↦
          let none = total_none (λ (m : Msg). m.len) (λ m. m.slot == y) (covers_message slot target) ms
          (λ m take. ne_eqb m.slot y (λ e. other (sym e ∙ sym (eqb-true slot m.slot (and_parts (slot == m.slot) (aims_at target m.dport) take).0)))) in
          let here = freed_other slot y (bytes_of (covered_messages slot target ms)) freed other in
          omega (arith, cut, taken_is, none, here)
    ]
  where
    filter_double : (p : Msg → Bool) (ms : List Msg) → filter (λ m. not (not (p m))) ms ≡ filter p ms
    filter_double p ms = filter_same p (λ m. not (not (p m))) (λ m. not_not (p m)) ms

-- a cancellation frees what it takes
pub frees_cancelled : (slot : ℕ) (target : Target) (store : StoreView) (freed : List ℕ) →
    Frees store (after_cancel slot target store) freed (with_freed slot (bytes_of (covered_messages slot target store.messages)) freed)
frees_cancelled slot target store freed =
    let ms : List Msg = store.messages in
    record {
      slots = length-with_freed slot (bytes_of (covered_messages slot target ms)) freed;
      each = λ y within. freed_and_left slot y target freed ms within;
      all =
          let both = sum_by-filter_both (covers_message slot target) (λ m. not (covers_message slot target m)) (λ m. refl) (λ (m : Msg). m.len) ms in
          let more = sum-with_freed slot (bytes_of (covered_messages slot target ms)) freed in
          omega (arith, both, more);
    }

-- as long as no more is accepted, what is freed and what is left stays bounded
pub freed_after : (past later : List Entry) (store store_later : StoreView) (freed freed_later : List ℕ) (slots : ℕ) →
    accepted later ≡ accepted past → Frees store store_later freed freed_later → IsFreed past store freed slots →
    IsFreed later store_later freed_later slots
freed_after past later store store_later freed freed_later slots same frees is = record {
  slots_are = frees.slots ∙ is.slots_are;
  bounded = subst (λ n. sum freed_later + bytes_of store_later.messages ≤ MAX_LENGTH * n) (sym same) (omega (arith, frees.all, is.bounded));
}

-- what is freed is what is gone
pub frees_gone : (past later : List Entry) (store store_later : StoreView) (freed freed_later : List ℕ) (y : ℕ) →
    store.messages ≡ alive_messages past → store_later.messages ≡ alive_messages later →
    released_bytes y later + bytes_of_slot y (alive_messages later) ≡ released_bytes y past + bytes_of_slot y (alive_messages past) →
    y < length freed → Frees store store_later freed freed_later →
    get_or freed_later y 0 + released_bytes y past ≡ get_or freed y 0 + released_bytes y later
frees_gone past later store store_later freed freed_later y before_is later_is gone_is within frees =
    let each = frees.each y within in
    let before_left = ap (bytes_of_slot y) before_is in
    let later_left = ap (bytes_of_slot y) later_is in
    omega (arith, each, before_left, later_left, gone_is)

pub keeps_cancel : (c : Inside) (slot : ℕ) (target : Target) → ConnectionInvariant c → 1 ≤ c.spare → slot < c.slots →
    ConnectionInvariant (record c {
      journal = record c.journal { past = Cancel slot target ∷ c.journal.past; spare = c.journal.spare - 1 };
      store = after_cancel slot target c.store;
      freed = with_freed slot (bytes_of (covered_messages slot target c.store.messages)) c.freed;
      spare = c.spare - 1;
    })
keeps_cancel c slot target keeps some within =
    let past : List Entry = c.journal.past in
    let few = keeps.stored.few in
    record {
      whole = whole_with (Cancel slot target) past keeps.whole (λ e. omega (arith, e, within, few)) refl;
      room = record {
        entries = omega (arith, keeps.room.entries);
        within = omega (arith, some, keeps.room.entries, keeps.room.within);
        most = keeps.room.most;
        messages = keeps.room.messages;
      };
      pong = keeps.pong;
      newest = keeps.newest;
      stream = keeps.stream;
      counted = record { accepted_is = keeps.counted.accepted_is; highest_is = keeps.counted.highest_is; last_is = keeps.counted.last_is };
      linked = linked_after c.stream keeps.linked;
      reading = keeps.reading;
      stored = record {
        holds = holds_after_cancel slot target past c.store.messages c.store.mark keeps.stored.holds;
        marked = marked_after (λ m. not (covers_message slot target m)) c.store.mark c.store.messages;
        slots_are = keeps.stored.slots_are;
        few = few;
      };
      freed = freed_after past (Cancel slot target ∷ past) c.store (after_cancel slot target c.store) c.freed
          (with_freed slot (bytes_of (covered_messages slot target c.store.messages)) c.freed) c.slots refl (frees_cancelled slot target c.store c.freed) keeps.freed;
      charged = charged_after c.store (after_cancel slot target c.store) c.freed
          (with_freed slot (bytes_of (covered_messages slot target c.store.messages)) c.freed) c.charges c.slots keeps.freed.slots_are
          (frees_cancelled slot target c.store c.freed) keeps.charged;
    }
  where
    linked_after : (o : Option ℕ) → IfSome o (λ s. IsLinked s c.journal.past c.mapped c.map c.asking) →
        IfSome o (λ s. IsLinked s (Cancel slot target ∷ c.journal.past) c.mapped c.map c.asking)
    linked_after None linked = tt
    linked_after (Some s) linked = record {
      map_is = linked.map_is;
      asked = record { count = linked.asked.count; bytes = linked.asked.bytes; asked = linked.asked.asked; must = linked.asked.must };
    }

pub frees_cancel : (c : Inside) (slot : ℕ) (target : Target) (y : ℕ) → ConnectionInvariant c → y < c.slots →
    get_or (with_freed slot (bytes_of (covered_messages slot target c.store.messages)) c.freed) y 0 + released_bytes y c.journal.past
    ≡ get_or c.freed y 0 + released_bytes y (Cancel slot target ∷ c.journal.past)
frees_cancel c slot target y keeps within =
    let past : List Entry = c.journal.past in
    frees_gone past (Cancel slot target ∷ past) c.store (after_cancel slot target c.store) c.freed
    (with_freed slot (bytes_of (covered_messages slot target c.store.messages)) c.freed) y keeps.stored.holds.alive
    (ap (uncovered_messages slot target) keeps.stored.holds.alive ∙ sym (messages_after_cancel slot target past))
    (gone_after_cancel slot y target past) (let slots = keeps.freed.slots_are in omega (arith, slots, within))
    (frees_cancelled slot target c.store c.freed)

pub conserved_cancel : (c : Inside) (slot : ℕ) (target : Target) (y : ℕ) → ConnectionInvariant c → y < c.slots →
    get_or (with_freed slot (bytes_of (covered_messages slot target c.store.messages)) c.freed) y 0 + alive_bytes y (Cancel slot target ∷ c.journal.past)
    ≡ get_or c.freed y 0 + alive_bytes y c.journal.past
conserved_cancel c slot target y keeps within =
    conserved_by y c.journal.past (Cancel slot target ∷ c.journal.past) (get_or c.freed y 0)
    (get_or (with_freed slot (bytes_of (covered_messages slot target c.store.messages)) c.freed) y 0)
    (frees_cancel c slot target y keeps within) (gone_after_cancel slot y target c.journal.past)

-- the bytes of a cancellation are within 64 bits
pub freed_fits : (past : List Entry) (store : StoreView) (freed : List ℕ) (slots : ℕ) → length past < 4294967296 → IsFreed past store freed slots →
    sum freed + bytes_of store.messages < 2 ^ 64
freed_fits past store freed slots short is = omega (arith, is.bounded, accepted_within past, short)

pub cancel_fits : (c : Inside) (slot : ℕ) (target : Target) → ConnectionInvariant c → sum c.freed + bytes_of (covered_messages slot target c.store.messages) < 2 ^ 64
cancel_fits c slot target keeps =
    let both = sum_by-filter_both (covers_message slot target) (λ m. not (covers_message slot target m)) (λ m. refl) (λ (m : Msg). m.len) c.store.messages in
    let fits = freed_fits c.journal.past c.store c.freed c.slots (let within = keeps.room.within in let most = keeps.room.most in omega (arith, within, most)) keeps.freed in
    omega (arith, both, fits)

-- one datagram more is within 64 bits
pub charge_fits : (c : Inside) (slot len : ℕ) → ConnectionInvariant c → slot < c.slots → len ≤ MAX_LENGTH → get_or c.charges slot 0 + len < 2 ^ 64
charge_fits c slot len keeps within short =
    let most = charge_within c.store.messages c.freed c.charges c.slots slot keeps.freed.slots_are within keeps.charged in
    let few = accepted_within c.journal.past in
    let room = keeps.room in
    omega (arith, most, short, keeps.freed.bounded, few, room.within, room.most)

-- a connection that is ready can take one message more
pub record TakesMessage (c : Inside) : Type 0 where
  pub fits : c.accepted + 1 < 2 ^ 63
  pub number : suc (accepted c.journal.past) < 2 ^ 63
  pub few : length c.store.messages < 4294967294
  pub above : All (λ (m : Msg). m.num < c.accepted + 1) c.store.messages

pub takes_message : (c : Inside) → ConnectionInvariant c → 2 ≤ c.spare → TakesMessage c
takes_message c keeps ready =
    let past : List Entry = c.journal.past in
    let short : length past < 4294967294 = omega (arith, ready, keeps.room.entries, keeps.room.within, keeps.room.most) in
    let number : c.accepted + 1 ≡ suc (accepted past) = omega (arith, keeps.counted.accepted_is) in
    let few : accepted past ≤ length past = accepted_within past in
    let next = next_message past c.store c.slots NO_SLOT keeps.stored short (inr refl) in
    record {
      fits = omega (arith, number, few, short);
      number = omega (arith, few, short);
      few = next.few;
      above = subst (λ n. All (λ (m : Msg). m.num < n) c.store.messages) (sym number) next.above;
    }

-- the numbers that a cancellation would take
pub numbers_taken : (slot : ℕ) (target : Target) (past : List Entry) (ms : List Msg) → ms ≡ alive_messages past →
    message_numbers (covered_messages slot target ms) ≡ filter (λ n. covers slot target (datagram past n)) (alive_numbers past)
numbers_taken slot target past ms is =
    numbers_sieved past (λ n. covers slot target (datagram past n)) (covers_message slot target)
    (λ n d known. ap (covers slot target) known) ms (subst (AllTell past) (sym is) (messages_tell past (alive_numbers past)))
    ∙ ap (filter (λ n. covers slot target (datagram past n)))
    (ap (map (λ (m : Msg). m.num)) is ∙ numbers_of past (alive_numbers past) (alive_known past))
