-- Which frame is owed, in each of its cases.
use Rattle.std.proofs.Common.{◌≡◌, inl, inr, ℕ, ◌+◌, ◌||◌, ◌==◌, nat_le, nat_lt, Bool, true, false, Option, Some, None, List, [], ◌∷◌, length, map, sum_by, refl, sym, ◌∙◌, ap, subst}
use Rattle.std.specs.List.{list_all}
use Rattle.std.specs.Cmp.Lexicographic.{other_text}
use Rattle.std.proofs.lemmas.Bool.{cases_Bool, cond-true, cond-false, true_from_ne_false, false_from_ne_true, both_ways, le-leb, leb-true}
use Rattle.rds_wire.specs.declared.frame.Frame.{Frame}
use Rattle.rds_model.specs.declared.entry.Entry.{Entry}
use Rattle.rds_model.specs.declared.entry.Msg.{Msg}
use Rattle.rds_model.specs.declared.owed.TheConstants.{MAX_UNASKED, MAX_UNASKED_BYTES}
use Rattle.rds_model.specs.Past.{Accepted, accepted, datagram, highest_pulled}
use Rattle.rds_model.specs.Streams.{was_pulled}
use Rattle.rds_model.specs.Alive.{is_alive, due_numbers}
use Rattle.rds_model.specs.Owed.{last_map, is_last_map, unasked, is_asked, must_ask, asks_with, map_frame, ack_frame, data_frame, data_owed, owed_after_map, owed_frame}
use Rattle.rds_model.specs.Legal.{IsLegal}
use Rattle.rds_model.specs.Store.{message}
use Rattle.rds_conn.specs.declared.asking.Asking.{Asking}
use Rattle.rds_conn.specs.Asking.{IsAsking}
use Rattle.rds_conn.specs.Choosing.{IsFirstDue}
use Rattle.rds_conn.proofs.Bounds.{pulled-highest, highest-pulled}
use Rattle.rds_conn.proofs.Rising.{Rises, all_first}
use Rattle.rds_conn.proofs.AliveSteps.{due_rises}

-- a map is the last one exactly where it is the one that was pulled
pub last_of_pulled : (o : Option (List ℕ)) (map : List ℕ) → o ≡ Some map → is_last_map o map ≡ true
last_of_pulled None map same = cc
last_of_pulled (Some last) map same =
    true_from_ne_false (is_last_map (Some last) map) (λ other. let same_map : last ≡ map = cc in other_text last map (sym other) same_map)

-- a new map is owed
pub owed_map : (s : ℕ) (past : List Entry) (map : List ℕ) → is_last_map (last_map s past) map ≡ false → owed_frame s past map ≡ Some (map_frame past map)
owed_map s past map new = cond-false (is_last_map (last_map s past) map) (owed_after_map s past (due_numbers s past)) (Some (map_frame past map)) new

-- behind the map, the datagram of the least number that is due
pub owed_data : (s : ℕ) (past : List Entry) (map : List ℕ) (n : ℕ) (rest : List ℕ) (d : Accepted) → is_last_map (last_map s past) map ≡ true →
    due_numbers s past ≡ n ∷ rest → datagram past n ≡ Some d → owed_frame s past map ≡ Some (data_frame s past n d)
owed_data s past map n rest d last first known =
    cond-true (is_last_map (last_map s past) map) (owed_after_map s past (due_numbers s past)) (Some (map_frame past map)) last
    ∙ ap (owed_after_map s past) first ∙ ap (data_owed s past n) known

-- and where none is due, an acknowledgement that is asked for or asks
pub owed_last : (s : ℕ) (past : List Entry) (map : List ℕ) → is_last_map (last_map s past) map ≡ true → due_numbers s past ≡ [] →
    owed_frame s past map ≡ owed_after_map s past []
owed_last s past map last none =
    cond-true (is_last_map (last_map s past) map) (owed_after_map s past (due_numbers s past)) (Some (map_frame past map)) last
    ∙ ap (owed_after_map s past) none

pub owed_ack : (s : ℕ) (past : List Entry) → (is_asked s past || must_ask s past) ≡ true → owed_after_map s past [] ≡ Some (ack_frame past (must_ask s past))
owed_ack s past asked = cond-true (is_asked s past || must_ask s past) (Some (ack_frame past (must_ask s past))) None asked

pub owed_nothing : (s : ℕ) (past : List Entry) → (is_asked s past || must_ask s past) ≡ false → owed_after_map s past [] ≡ None
owed_nothing s past quiet = cond-false (is_asked s past || must_ask s past) (Some (ack_frame past (must_ask s past))) None quiet

-- a number that is alive was pulled before exactly where it isn't above the highest
pub again_is : (past : List Entry) (n : ℕ) → IsLegal past → is_alive past n ≡ true → nat_le n (highest_pulled past) ≡ was_pulled past n
again_is past n legal alive =
    elim (cases_Bool (was_pulled past n)) [
      | inl was ↦ le-leb n (highest_pulled past) (pulled-highest past n was) ∙ sym was
      | inr not_was ↦
          false_from_ne_true (nat_le n (highest_pulled past)) (λ within. both_ways (was_pulled past n) not_was (highest-pulled past legal n alive (leb-true n (highest_pulled past) within)))
          ∙ sym not_was
    ]

-- the rules by which a datagram asks
pub asks_is : (s : ℕ) (past : List Entry) (m : Msg) (a : Asking) (d : Accepted) (first : IsFirstDue s past m) → datagram past m.num ≡ Some d →
    IsAsking s past a →
    (was_pulled past m.num || ((nat_le MAX_UNASKED a.unasked || nat_lt MAX_UNASKED_BYTES (a.bytes + m.len)) || (length first.rest == 0)))
    ≡ asks_with s past m.num d
asks_is s past m a d first known is =
    let both : Some first.tells.d ≡ Some d = sym first.tells.known ∙ known in
    let one : first.tells.d ≡ d = cc in
    let len : m.len ≡ length d.payload = ap (λ (x : Msg). x.len) (subst (λ (x : Accepted). m ≡ message m.num x) one first.tells.is) in
    let rising = subst (λ (xs : List ℕ). Rises 0 xs (accepted past)) first.first (due_rises s past) in
    let alone : list_all (λ n. n == m.num) (due_numbers s past) ≡ (length first.rest == 0) =
    ap (list_all (λ n. n == m.num)) first.first ∙ all_first m.num first.rest (accepted past) rising.1 in
    ap (λ b. was_pulled past m.num || b) (regroup (nat_le MAX_UNASKED a.unasked) (nat_lt MAX_UNASKED_BYTES (a.bytes + m.len)) (length first.rest == 0))
    ∙ ap (λ n. was_pulled past m.num || (nat_le MAX_UNASKED n || (nat_lt MAX_UNASKED_BYTES (a.bytes + m.len) || (length first.rest == 0)))) is.count
    ∙ ap (λ n. was_pulled past m.num || (nat_le MAX_UNASKED (length (unasked s past)) || (nat_lt MAX_UNASKED_BYTES (n + m.len) || (length first.rest == 0)))) is.bytes
    ∙ ap (λ n. was_pulled past m.num || (nat_le MAX_UNASKED (length (unasked s past)) || (nat_lt MAX_UNASKED_BYTES (sum_by (λ (f : Frame). f.header.len) (unasked s past) + n) || (length first.rest == 0)))) len
    ∙ ap (λ b. was_pulled past m.num || (nat_le MAX_UNASKED (length (unasked s past)) || (nat_lt MAX_UNASKED_BYTES (sum_by (λ (f : Frame). f.header.len) (unasked s past) + length d.payload) || b))) (sym alone)
  where
    regroup : (a b c : Bool) → (a || b) || c ≡ a || (b || c)
    regroup true b c = refl
    regroup false b c = refl
