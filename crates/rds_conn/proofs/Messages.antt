-- The messages of the numbers that are alive.
use Rattle.std.proofs.Common.{◌≡◌, inl, inr, ℕ, suc, ◌≤◌, ◌&&◌, ◌==◌, not, nat_lt, Bool, true, cond, Option, Some, None, is_some, List, [], ◌∷◌, ◌++◌, length, map, filter, refl, sym, ◌∙◌, ap}
use Rattle.std.specs.List.{filter_map, cons_option}
use Rattle.std.specs.Option.{option_map}
use Rattle.std.proofs.lemmas.Bool.{cond_both, false≢true, cases_Bool, cond-true, cond-false}
use Rattle.std.proofs.lemmas.List.Elements.{filter_map-append}
use Rattle.rds_wire.specs.declared.frame.Frame.{Frame}
use Rattle.rds_model.specs.declared.entry.Entry.{Entry}
use Rattle.rds_model.specs.declared.entry.Entry.TheVariants.{Accept, Cancel, Read}
use Rattle.rds_model.specs.declared.entry.Msg.{Msg}
use Rattle.rds_model.specs.declared.entry.Outcome.{Outcome}
use Rattle.rds_model.specs.declared.entry.Target.{Target}
use Rattle.rds_model.specs.Past.{Accepted, accepted, datagram}
use Rattle.rds_model.specs.Alive.{is_alive, up_to, alive_numbers, covers, aims_at}
use Rattle.rds_model.specs.Store.{message, alive_messages}
use Rattle.rds_model.specs.Legal.{IsLegal}
use Rattle.rds_model.specs.NumberLaws.{alive_parts}
use Rattle.rds_conn.proofs.Rising.{Rises, rises_bounds}
use Rattle.rds_conn.proofs.AliveSteps.{alive_after_accept, alive_after_cancel, alive_after_read, datagram_newest, datagram_other, is_spared, alive_rises}

-- the message of a number, where it was accepted
abbrev pub message_of : List Entry → ℕ → Option Msg
message_of past n = option_map (message n) (datagram past n)

-- the messages of numbers
abbrev pub messages_of : List Entry → List ℕ → List Msg
messages_of past ns = filter_map (message_of past) ns

-- each number was accepted
abbrev pub AllKnown : List Entry → List ℕ → Type 0
AllKnown past [] = Unit {0}
AllKnown past (n ∷ ns) = (is_some (datagram past n) ≡ true) × AllKnown past ns

known_filter : (past : List Entry) (ns : List ℕ) → AllKnown past (filter (is_alive past) ns)
known_filter past [] = tt
known_filter past (n ∷ ns) =
    cond_both (is_alive past n) (n ∷ filter (is_alive past) ns) (filter (is_alive past) ns) (AllKnown past)
    (λ alive. ((alive_parts past n alive).known, known_filter past ns))
    (λ _. known_filter past ns)

pub alive_known : (past : List Entry) → AllKnown past (alive_numbers past)
alive_known past = known_filter past (up_to (accepted past))

-- a sieve of the numbers is one of their messages
pub messages_sieved : (past : List Entry) (keep : ℕ → Bool) (keep_message : Msg → Bool) →
    ((n : ℕ) (d : Accepted) → datagram past n ≡ Some d → keep n ≡ keep_message (message n d)) →
    (ns : List ℕ) → AllKnown past ns → messages_of past (filter keep ns) ≡ filter keep_message (messages_of past ns)
messages_sieved past keep keep_message same [] known = refl
messages_sieved past keep keep_message same (n ∷ ns) known =
    go (datagram past n) refl known.0 (messages_sieved past keep keep_message same ns known.1)
  where
    go : (o : Option Accepted) → datagram past n ≡ o → is_some (datagram past n) ≡ true →
        messages_of past (filter keep ns) ≡ filter keep_message (messages_of past ns) →
        messages_of past (filter keep (n ∷ ns)) ≡ filter keep_message (messages_of past (n ∷ ns))
    go None none known rest = absurd (false≢true (sym (ap is_some none) ∙ known))
    go (Some d) some known rest =
        let shown : message_of past n ≡ Some (message n d) = ap (option_map (message n)) some in
        let right = ap (λ o. filter keep_message (cons_option o (messages_of past ns))) shown in
        elim (cases_Bool (keep n)) [
          | inl kept ↦
              ap (λ b. messages_of past (cond b (n ∷ filter keep ns) (filter keep ns))) kept
              ∙ ap (λ o. cons_option o (messages_of past (filter keep ns))) shown
              ∙ ap (λ (ms : List Msg). message n d ∷ ms) rest
              ∙ sym (cond-true (keep_message (message n d)) (message n d ∷ filter keep_message (messages_of past ns)) (filter keep_message (messages_of past ns)) (sym (same n d some) ∙ kept))
              ∙ sym right
          | inr left ↦
              ap (λ b. messages_of past (cond b (n ∷ filter keep ns) (filter keep ns))) left
              ∙ rest
              ∙ sym (cond-false (keep_message (message n d)) (message n d ∷ filter keep_message (messages_of past ns)) (filter keep_message (messages_of past ns)) (sym (same n d some) ∙ left))
              ∙ sym right
        ]

-- the messages have the numbers
pub numbers_of : (past : List Entry) (ns : List ℕ) → AllKnown past ns → map (λ (m : Msg). m.num) (messages_of past ns) ≡ ns
numbers_of past [] known = refl
numbers_of past (n ∷ ns) known = go (datagram past n) refl known.0 (numbers_of past ns known.1)
  where
    go : (o : Option Accepted) → datagram past n ≡ o → is_some (datagram past n) ≡ true →
        map (λ (m : Msg). m.num) (messages_of past ns) ≡ ns → map (λ (m : Msg). m.num) (messages_of past (n ∷ ns)) ≡ n ∷ ns
    go None none known rest = absurd (false≢true (sym (ap is_some none) ∙ known))
    go (Some d) some known rest =
        ap (λ o. map (λ (m : Msg). m.num) (cons_option o (messages_of past ns))) (ap (option_map (message n)) some)
        ∙ ap (λ (xs : List ℕ). n ∷ xs) rest

-- each number is below the next, and the last below a bound
abbrev pub Below : ℕ → List ℕ → Type 0
Below high [] = Unit {0}
Below high (n ∷ ns) = (n ≤ high) × Below high ns

below_of_rises : (low : ℕ) (ns : List ℕ) (high : ℕ) → Rises low ns high → Below high ns
below_of_rises low [] high rises = tt
below_of_rises low (n ∷ ns) high rises = (rises_bounds n ns high rises.1, below_of_rises n ns high rises.1)

-- messages don't change where the datagrams don't
pub messages_same : (past later : List Entry) (high : ℕ) → ((n : ℕ) → n ≤ high → datagram later n ≡ datagram past n) →
    (ns : List ℕ) → Below high ns → messages_of later ns ≡ messages_of past ns
messages_same past later high same [] below = refl
messages_same past later high same (n ∷ ns) below =
    ap (λ o. cons_option (option_map (message n) o) (messages_of later ns)) (same n below.0)
    ∙ ap (λ (ms : List Msg). cons_option (message_of past n) ms) (messages_same past later high same ns below.1)

-- the messages after each entry that changes them
pub messages_after_accept : (slot sport dport : ℕ) (payload : List ℕ) (past : List Entry) → IsLegal past →
    alive_messages (Accept slot sport dport payload ∷ past)
    ≡ alive_messages past ++ record { num = suc (accepted past); place = length past; slot = slot; dport = dport; len = length payload } ∷ []
messages_after_accept slot sport dport payload past legal =
    let e : Entry = Accept slot sport dport payload in
    let n : ℕ = suc (accepted past) in
    ap (messages_of (e ∷ past)) (alive_after_accept slot sport dport payload past legal)
    ∙ filter_map-append (message_of (e ∷ past)) (alive_numbers past) (n ∷ [])
    ∙ ap (λ (ms : List Msg). ms ++ messages_of (e ∷ past) (n ∷ []))
    (messages_same past (e ∷ past) (accepted past) (datagram_other slot sport dport payload past)
    (alive_numbers past) (below_of_rises 0 (alive_numbers past) (accepted past) (alive_rises past)))
    ∙ ap (λ o. alive_messages past ++ cons_option (option_map (message n) o) []) (datagram_newest slot sport dport payload past)

pub messages_after_cancel : (slot : ℕ) (target : Target) (past : List Entry) →
    alive_messages (Cancel slot target ∷ past)
    ≡ filter (λ (m : Msg). not (slot == m.slot && aims_at target m.dport)) (alive_messages past)
messages_after_cancel slot target past =
    ap (messages_of past) (alive_after_cancel slot target past)
    ∙ messages_sieved past (is_spared past slot target) (λ (m : Msg). not (slot == m.slot && aims_at target m.dport))
    (λ n d is. ap (λ o. not (covers slot target o)) is) (alive_numbers past) (alive_known past)

pub messages_after_read : (s : ℕ) (f : Frame) (o : Outcome) (past : List Entry) →
    alive_messages (Read s f o ∷ past) ≡ filter (λ (m : Msg). nat_lt f.header.ack m.num) (alive_messages past)
messages_after_read s f o past =
    ap (messages_of past) (alive_after_read s f o past)
    ∙ messages_sieved past (nat_lt f.header.ack) (λ (m : Msg). nat_lt f.header.ack m.num)
    (λ n d is. refl) (alive_numbers past) (alive_known past)
