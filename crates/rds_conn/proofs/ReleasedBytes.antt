-- The bytes that are freed are those that are gone.
use Rattle.std.proofs.Common.{◌≡◌, ℕ, suc, ◌+◌, ◌&&◌, ◌==◌, not, Bool, true, cond, Option, Some, None, is_some, List, [], ◌∷◌, length, sum_by, refl, sym, ◌∙◌, ap, arith, add-zero}
use Rattle.std.specs.List.{cons_option}
use Rattle.std.specs.Option.{option_map}
use Rattle.std.proofs.lemmas.Bool.{false≢true}
use Rattle.std.proofs.Math.Bool.{and-false}
use Rattle.rds_wire.specs.declared.frame.Frame.{Frame}
use Rattle.rds_model.specs.declared.entry.Entry.{Entry}
use Rattle.rds_model.specs.declared.entry.Entry.TheVariants.{Accept, Cancel, Read}
use Rattle.rds_model.specs.declared.entry.Msg.{Msg}
use Rattle.rds_model.specs.declared.entry.Outcome.{Outcome}
use Rattle.rds_model.specs.declared.entry.Target.{Target}
use Rattle.rds_model.specs.Past.{Accepted, accepted, datagram}
use Rattle.rds_model.specs.Alive.{is_alive, up_to, alive_numbers, is_from, payload_bytes}
use Rattle.rds_model.specs.Store.{message, alive_messages}
use Rattle.rds_model.specs.Legal.{IsLegal}
use Rattle.rds_conn.specs.Freeing.{bytes_of_slot}
use Rattle.rds_conn.specs.Released.{is_released, released_bytes}
use Rattle.rds_model.specs.Alive.{alive_bytes}
use Rattle.rds_conn.proofs.Charging.{left_after}
use Rattle.rds_conn.proofs.Totals.{total, total-cons, total-append, total_same_up_to, total_split}
use Rattle.rds_conn.proofs.Filters.{filter-filter}
use Rattle.rds_conn.proofs.Messages.{messages_of, AllKnown, alive_known, messages_after_accept}
use Rattle.rds_conn.proofs.AliveSteps.{datagram_other, alive_newest, alive_other}

-- the bytes that a slot sent, and of those the ones that are alive
abbrev from_slot : ℕ → List Entry → ℕ → Bool
from_slot slot past n = is_from slot (datagram past n)

abbrev size_of : List Entry → ℕ → ℕ
size_of past n = payload_bytes (datagram past n)

-- the sizes of numbers are the lengths of their messages
sizes_of : (slot : ℕ) (past : List Entry) (ns : List ℕ) → AllKnown past ns →
    total (size_of past) (from_slot slot past) ns ≡ bytes_of_slot slot (messages_of past ns)
sizes_of slot past [] known = refl
sizes_of slot past (n ∷ ns) known = go (datagram past n) refl known.0 (sizes_of slot past ns known.1)
  where
    go : (o : Option Accepted) → datagram past n ≡ o → is_some (datagram past n) ≡ true →
        total (size_of past) (from_slot slot past) ns ≡ bytes_of_slot slot (messages_of past ns) →
        total (size_of past) (from_slot slot past) (n ∷ ns) ≡ bytes_of_slot slot (messages_of past (n ∷ ns))
    go None none known rest = absurd (false≢true (sym (ap is_some none) ∙ known))
    go (Some d) some known rest =
        total-cons (size_of past) (from_slot slot past) n ns
        ∙ ap (λ o. cond (is_from slot o) (payload_bytes o) 0 + total (size_of past) (from_slot slot past) ns) some
        ∙ ap (λ t. cond (d.slot == slot) (length d.payload) 0 + t) rest
        ∙ sym (total-cons (λ (m : Msg). m.len) (λ m. m.slot == slot) (message n d) (messages_of past ns))
        ∙ sym (ap (λ o. bytes_of_slot slot (cons_option (option_map (message n) o) (messages_of past ns))) some)

-- what is left of a slot's messages is alive
pub left_alive : (slot : ℕ) (past : List Entry) (ms : List Msg) → ms ≡ alive_messages past → bytes_of_slot slot ms ≡ alive_bytes slot past
left_alive slot past ms is = ap (bytes_of_slot slot) is ∙ sym (sizes_of slot past (alive_numbers past) (alive_known past))

-- an accepted datagram is alive, and its bytes are those of its slot
pub alive_bytes_after_accept : (x slot sport dport : ℕ) (payload : List ℕ) (past : List Entry) → IsLegal past →
    alive_bytes x (Accept slot sport dport payload ∷ past) ≡ alive_bytes x past + cond (slot == x) (length payload) 0
alive_bytes_after_accept x slot sport dport payload past legal =
    let e : Entry = Accept slot sport dport payload in
    let m : Msg = record { num = suc (accepted past); place = length past; slot = slot; dport = dport; len = length payload } in
    sym (left_alive x (e ∷ past) (alive_messages (e ∷ past)) refl)
    ∙ ap (bytes_of_slot x) (messages_after_accept slot sport dport payload past legal)
    ∙ left_after x m (alive_messages past)
    ∙ ap (λ t. t + cond (slot == x) (length payload) 0) (left_alive x past (alive_messages past) refl)

-- as long as no datagram is accepted, what isn't alive any more is freed
pub conserved_by : (x : ℕ) (past later : List Entry) (held held_later : ℕ) → held_later + released_bytes x past ≡ held + released_bytes x later →
    released_bytes x later + bytes_of_slot x (alive_messages later) ≡ released_bytes x past + bytes_of_slot x (alive_messages past) →
    held_later + alive_bytes x later ≡ held + alive_bytes x past
conserved_by x past later held held_later freed same =
    let before = left_alive x past (alive_messages past) refl in
    let after = left_alive x later (alive_messages later) refl in
    omega (arith, freed, same, before, after)

-- what a slot sent is gone or alive
pub gone_or_left : (slot : ℕ) (past : List Entry) →
    released_bytes slot past + bytes_of_slot slot (alive_messages past) ≡ total (size_of past) (from_slot slot past) (up_to (accepted past))
gone_or_left slot past =
    ap (λ t. released_bytes slot past + t)
    (sym (sizes_of slot past (alive_numbers past) (alive_known past))
    ∙ ap (sum_by (size_of past)) (filter-filter (from_slot slot past) (is_alive past) (up_to (accepted past))))
    ∙ total_split (size_of past) (from_slot slot past) (is_alive past) (up_to (accepted past))

-- a cancellation and a reading change what is gone by what is left
pub gone_after_cancel : (slot x : ℕ) (target : Target) (past : List Entry) →
    released_bytes x (Cancel slot target ∷ past) + bytes_of_slot x (alive_messages (Cancel slot target ∷ past))
    ≡ released_bytes x past + bytes_of_slot x (alive_messages past)
gone_after_cancel slot x target past = gone_or_left x (Cancel slot target ∷ past) ∙ sym (gone_or_left x past)

pub gone_after_read : (s x : ℕ) (f : Frame) (o : Outcome) (past : List Entry) →
    released_bytes x (Read s f o ∷ past) + bytes_of_slot x (alive_messages (Read s f o ∷ past))
    ≡ released_bytes x past + bytes_of_slot x (alive_messages past)
gone_after_read s x f o past = gone_or_left x (Read s f o ∷ past) ∙ sym (gone_or_left x past)

-- an accepted datagram is alive
pub gone_after_accept : (x slot sport dport : ℕ) (payload : List ℕ) (past : List Entry) → IsLegal past →
    released_bytes x (Accept slot sport dport payload ∷ past) ≡ released_bytes x past
gone_after_accept x slot sport dport payload past legal =
    let e : Entry = Accept slot sport dport payload in
    let n : ℕ = suc (accepted past) in
    total-append (size_of (e ∷ past)) (is_released x (e ∷ past)) (up_to (accepted past)) (n ∷ [])
    ∙ ap (λ t. t + total (size_of (e ∷ past)) (is_released x (e ∷ past)) (n ∷ []))
    (total_same_up_to (size_of (e ∷ past)) (size_of past) (is_released x (e ∷ past)) (is_released x past) (accepted past)
    (λ m within.
    let same = datagram_other slot sport dport payload past m within in (
      ap payload_bytes same,
      ap (λ o. is_from x o && not (is_alive (e ∷ past) m)) same
          ∙ ap (λ b. is_from x (datagram past m) && not b) (alive_other slot sport dport payload past m within),
    )))
    ∙ ap (λ t. released_bytes x past + t)
    (total-cons (size_of (e ∷ past)) (is_released x (e ∷ past)) n []
    ∙ ap (λ b. cond (is_from x (datagram (e ∷ past) n) && not b) (size_of (e ∷ past) n) 0 + 0) (alive_newest slot sport dport payload past legal)
    ∙ ap (λ b. cond b (size_of (e ∷ past) n) 0 + 0) (and-false (is_from x (datagram (e ∷ past) n))))
    ∙ add-zero (released_bytes x past)
