-- What a store holds after each entry.
use Rattle.std.proofs.Common.{◌≡◌, inl, inr, ℕ, zero, suc, ◌+◌, ◌≤◌, ◌&&◌, ◌==◌, not, nat_lt, Bool, true, false, cond, Option, Some, None, List, [], ◌∷◌, ◌++◌, length, take, drop, map, filter, refl, sym, ◌∙◌, ap, subst, arith, add-one}
use Rattle.std.specs.Prelude.{slice_get}
use Rattle.std.specs.List.{cons_option}
use Rattle.std.specs.Option.{option_map}
use Rattle.std.proofs.lemmas.Bool.{cases_Bool, cond-true, cond-false}
use Rattle.std.proofs.lemmas.List.{map-append}
use Rattle.rds_wire.specs.declared.frame.Frame.{Frame}
use Rattle.rds_model.specs.declared.entry.Entry.{Entry}
use Rattle.rds_model.specs.declared.entry.Entry.TheVariants.{Accept, Cancel, Open, Pull, Read}
use Rattle.rds_model.specs.declared.entry.Msg.{Msg}
use Rattle.rds_model.specs.declared.entry.Outcome.{Outcome}
use Rattle.rds_model.specs.declared.entry.Target.{Target}
use Rattle.rds_model.specs.Past.{Accepted, accepted, datagram, open_stream, is_datagram, number}
use Rattle.rds_model.specs.Alive.{alive_numbers, due_numbers, covers, aims_at}
use Rattle.rds_model.specs.Store.{message, alive_messages, due_on, HoldsMessages}
use Rattle.rds_model.specs.Legal.{IsLegal}
use Rattle.rds_conn.specs.Choosing.{IsMessage, IsNextDue}
use Rattle.rds_conn.proofs.Messages.{messages_of, alive_known, numbers_of, messages_after_accept, messages_after_cancel, messages_after_read}
use Rattle.rds_conn.proofs.AliveSteps.{alive_after_accept, due_after_accept, alive_after_cancel, due_after_cancel, alive_after_read, due_after_read, due_after_first, due_after_other, is_spared}
use Rattle.rds_conn.proofs.Untouched.{Untouched, due_of_untouched}

-- a sieve of what is behind a mark
pub drop_filter : {X : Type 0} (p : X → Bool) (m : ℕ) (xs : List X) → drop (length (filter p (take m xs))) (filter p xs) ≡ filter p (drop m xs)
drop_filter p zero xs = refl
drop_filter p (suc m) [] = refl
drop_filter p (suc m) (x ∷ xs) =
    elim (p x) as (λ b. drop (length (cond b (x ∷ filter p (take m xs)) (filter p (take m xs)))) (cond b (x ∷ filter p xs) (filter p xs)) ≡ filter p (drop m xs)) [
      | true ↦ drop_filter p m xs
      | false ↦ drop_filter p m xs
    ]

abbrev pub AllTell : List Entry → List Msg → Type 0
AllTell past [] = Unit {0}
AllTell past (m ∷ ms) = IsMessage past m × AllTell past ms

pub messages_tell : (past : List Entry) (ns : List ℕ) → AllTell past (messages_of past ns)
messages_tell past [] = tt
messages_tell past (n ∷ ns) = go (datagram past n) refl (messages_tell past ns)
  where
    go : (o : Option Accepted) → datagram past n ≡ o → AllTell past (messages_of past ns) → AllTell past (messages_of past (n ∷ ns))
    go None none rest = subst (λ o. AllTell past (cons_option (option_map (message n) o) (messages_of past ns))) (sym none) rest
    go (Some d) some rest =
        subst (λ o. AllTell past (cons_option (option_map (message n) o) (messages_of past ns))) (sym some)
        (record { d = d; known = some; is = refl }, rest)

pub tell_drop : (past : List Entry) (mark : ℕ) (ms : List Msg) → AllTell past ms → AllTell past (drop mark ms)
tell_drop past zero ms tell = tell
tell_drop past (suc mark) [] tell = tt
tell_drop past (suc mark) (m ∷ ms) tell = tell_drop past mark ms tell.1

-- the numbers of sieved messages are the sieved numbers
pub numbers_sieved : (past : List Entry) (keep : ℕ → Bool) (keep_message : Msg → Bool) →
    ((n : ℕ) (d : Accepted) → datagram past n ≡ Some d → keep n ≡ keep_message (message n d)) →
    (ms : List Msg) → AllTell past ms →
    map (λ (m : Msg). m.num) (filter keep_message ms) ≡ filter keep (map (λ (m : Msg). m.num) ms)
numbers_sieved past keep keep_message same [] tell = refl
numbers_sieved past keep keep_message same (m ∷ ms) tell =
    let rest = numbers_sieved past keep keep_message same ms tell.1 in
    let agree : keep_message m ≡ keep m.num = ap keep_message tell.0.is ∙ sym (same m.num tell.0.d tell.0.known) in
    elim (cases_Bool (keep m.num)) [
      | inl kept ↦
          ap (λ b. map (λ (x : Msg). x.num) (cond b (m ∷ filter keep_message ms) (filter keep_message ms))) (agree ∙ kept)
          ∙ ap (λ (xs : List ℕ). m.num ∷ xs) rest
          ∙ sym (cond-true (keep m.num) (m.num ∷ filter keep (map (λ (x : Msg). x.num) ms)) (filter keep (map (λ (x : Msg). x.num) ms)) kept)
      | inr left ↦
          ap (λ b. map (λ (x : Msg). x.num) (cond b (m ∷ filter keep_message ms) (filter keep_message ms))) (agree ∙ left)
          ∙ rest
          ∙ sym (cond-false (keep m.num) (m.num ∷ filter keep (map (λ (x : Msg). x.num) ms)) (filter keep (map (λ (x : Msg). x.num) ms)) left)
    ]

-- a store that is sieved with its journal
sieved : (past later : List Entry) (keep : ℕ → Bool) (keep_message : Msg → Bool) (ms : List Msg) (mark : ℕ) →
    ((n : ℕ) (d : Accepted) → datagram past n ≡ Some d → keep n ≡ keep_message (message n d)) →
    alive_messages later ≡ filter keep_message (alive_messages past) →
    due_on (open_stream later) later ≡ filter keep (due_on (open_stream past) past) →
    HoldsMessages ms mark past → HoldsMessages (filter keep_message ms) (length (filter keep_message (take mark ms))) later
sieved past later keep keep_message ms mark same alive due_numbers holds =
    let tell : AllTell past ms = subst (AllTell past) (sym holds.alive) (messages_tell past (alive_numbers past)) in
    record {
      alive = ap (filter keep_message) holds.alive ∙ sym alive;
      unpulled =
          ap (map (λ (m : Msg). m.num)) (drop_filter keep_message mark ms)
          ∙ numbers_sieved past keep keep_message same (drop mark ms) (tell_drop past mark ms tell)
          ∙ ap (filter keep) holds.unpulled
          ∙ sym due_numbers;
    }

due_on_cancel : (o : Option ℕ) (slot : ℕ) (target : Target) (past : List Entry) →
    due_on o (Cancel slot target ∷ past) ≡ filter (is_spared past slot target) (due_on o past)
due_on_cancel None slot target past = alive_after_cancel slot target past
due_on_cancel (Some s) slot target past = due_after_cancel s slot target past

pub holds_after_cancel : (slot : ℕ) (target : Target) (past : List Entry) (ms : List Msg) (mark : ℕ) → HoldsMessages ms mark past →
    HoldsMessages (filter (λ (m : Msg). not (slot == m.slot && aims_at target m.dport)) ms)
    (length (filter (λ (m : Msg). not (slot == m.slot && aims_at target m.dport)) (take mark ms))) (Cancel slot target ∷ past)
holds_after_cancel slot target past ms mark holds =
    sieved past (Cancel slot target ∷ past) (is_spared past slot target) (λ (m : Msg). not (slot == m.slot && aims_at target m.dport)) ms mark
    (λ n d is. ap (λ o. not (covers slot target o)) is) (messages_after_cancel slot target past)
    (due_on_cancel (open_stream past) slot target past) holds

due_on_read : (o : Option ℕ) (s : ℕ) (f : Frame) (came : Outcome) (past : List Entry) →
    due_on o (Read s f came ∷ past) ≡ filter (nat_lt f.header.ack) (due_on o past)
due_on_read None s f came past = alive_after_read s f came past
due_on_read (Some stream) s f came past = due_after_read stream s f came past

pub holds_after_read : (s : ℕ) (f : Frame) (o : Outcome) (past : List Entry) (ms : List Msg) (mark : ℕ) → HoldsMessages ms mark past →
    HoldsMessages (filter (λ (m : Msg). nat_lt f.header.ack m.num) ms)
    (length (filter (λ (m : Msg). nat_lt f.header.ack m.num) (take mark ms))) (Read s f o ∷ past)
holds_after_read s f o past ms mark holds =
    sieved past (Read s f o ∷ past) (nat_lt f.header.ack) (λ (m : Msg). nat_lt f.header.ack m.num) ms mark
    (λ n d is. refl) (messages_after_read s f o past) (due_on_read (open_stream past) s f o past) holds

-- an accepted datagram is a message behind all others
due_on_accept : (o : Option ℕ) (slot sport dport : ℕ) (payload : List ℕ) (past : List Entry) → IsLegal past →
    due_on o (Accept slot sport dport payload ∷ past) ≡ due_on o past ++ suc (accepted past) ∷ []
due_on_accept None slot sport dport payload past legal = alive_after_accept slot sport dport payload past legal
due_on_accept (Some s) slot sport dport payload past legal = due_after_accept s slot sport dport payload past legal

drop_push : {X : Type 0} (mark : ℕ) (xs : List X) (x : X) → mark ≤ length xs → drop mark (xs ++ x ∷ []) ≡ drop mark xs ++ x ∷ []
drop_push zero xs x within = refl
drop_push (suc mark) [] x within = absurd (omega (arith, within))
drop_push (suc mark) (y ∷ ys) x within = drop_push mark ys x (omega (arith, within))

pub holds_after_accept : (slot sport dport : ℕ) (payload : List ℕ) (past : List Entry) (ms : List Msg) (mark : ℕ) → IsLegal past →
    mark ≤ length ms → HoldsMessages ms mark past →
    HoldsMessages (ms ++ record { num = suc (accepted past); place = length past; slot = slot; dport = dport; len = length payload } ∷ []) mark
    (Accept slot sport dport payload ∷ past)
holds_after_accept slot sport dport payload past ms mark legal within holds =
    let m : Msg = record { num = suc (accepted past); place = length past; slot = slot; dport = dport; len = length payload } in
    record {
      alive = ap (λ (xs : List Msg). xs ++ m ∷ []) holds.alive ∙ sym (messages_after_accept slot sport dport payload past legal);
      unpulled =
          ap (map (λ (x : Msg). x.num)) (drop_push mark ms m within)
          ∙ map-append (λ (x : Msg). x.num) (drop mark ms) (m ∷ [])
          ∙ ap (λ (xs : List ℕ). xs ++ suc (accepted past) ∷ []) holds.unpulled
          ∙ sym (due_on_accept (open_stream past) slot sport dport payload past legal);
    }

-- where a stream is opened, or comes to its end, all messages are unpulled
pub holds_all : (past : List Entry) (ms : List Msg) → ms ≡ alive_messages past → due_on (open_stream past) past ≡ alive_numbers past → HoldsMessages ms 0 past
holds_all past ms alive due_numbers =
    record {
      alive = alive;
      unpulled = ap (map (λ (m : Msg). m.num)) alive ∙ numbers_of past (alive_numbers past) (alive_known past) ∙ sym due_numbers;
    }

pub due_after_open : (s : ℕ) (past : List Entry) → Untouched s past → due_numbers s (Open s ∷ past) ≡ alive_numbers past
due_after_open s past new = due_of_untouched s past new

-- the first datagram that is due is pulled
drop_more : {X : Type 0} (mark : ℕ) (xs : List X) (y : X) (ys : List X) → drop mark xs ≡ y ∷ ys → drop (mark + 1) xs ≡ ys
drop_more mark xs y ys is = subst (λ n. drop n xs ≡ ys) (sym (add-one mark)) (go mark xs is)
  where
    go : (mark : ℕ) (xs : List _) → drop mark xs ≡ y ∷ ys → drop (suc mark) xs ≡ ys
    go zero [] is = cc
    go zero (x ∷ xs) is = cc
    go (suc mark) [] is = cc
    go (suc mark) (x ∷ xs) is = go mark xs is

pub holds_after_data : (s : ℕ) (f : Frame) (past : List Entry) (ms : List Msg) (mark : ℕ) (m : Msg) (rest : List Msg) →
    open_stream past ≡ Some s → is_datagram f ≡ true → number f ≡ m.num → drop mark ms ≡ m ∷ rest →
    HoldsMessages ms mark past → HoldsMessages ms (mark + 1) (Pull s f ∷ past)
holds_after_data s f past ms mark m rest on data_is same next holds =
    let first : due_numbers s past ≡ m.num ∷ map (λ (x : Msg). x.num) rest =
    sym (ap (λ o. due_on o past) on) ∙ sym holds.unpulled ∙ ap (map (λ (x : Msg). x.num)) next in
    record {
      alive = holds.alive;
      unpulled =
          ap (map (λ (x : Msg). x.num)) (drop_more mark ms m rest next)
          ∙ sym (due_after_first s f past m.num (map (λ (x : Msg). x.num) rest) data_is same first)
          ∙ sym (ap (λ o. due_on o (Pull s f ∷ past)) on);
    }

pub holds_after_other : (s : ℕ) (f : Frame) (past : List Entry) (ms : List Msg) (mark : ℕ) →
    open_stream past ≡ Some s → is_datagram f ≡ false → HoldsMessages ms mark past → HoldsMessages ms mark (Pull s f ∷ past)
holds_after_other s f past ms mark on not_data holds =
    record {
      alive = holds.alive;
      unpulled =
          holds.unpulled
          ∙ ap (λ o. due_on o past) on
          ∙ sym (due_after_other s f past not_data)
          ∙ sym (ap (λ o. due_on o (Pull s f ∷ past)) on);
    }

-- the first message behind the mark is due next
get_behind : {X : Type 0} (mark : ℕ) (xs : List X) → slice_get xs mark ≡ slice_get (drop mark xs) 0
get_behind zero xs = refl
get_behind (suc mark) [] = refl
get_behind (suc mark) (x ∷ xs) = get_behind mark xs

pub next_of_held : (s : ℕ) (past : List Entry) (ms : List Msg) (mark : ℕ) → open_stream past ≡ Some s → HoldsMessages ms mark past →
    IsNextDue s past (slice_get ms mark)
next_of_held s past ms mark on holds =
    subst (IsNextDue s past) (sym (get_behind mark ms))
    (go (drop mark ms) (tell_drop past mark ms (subst (AllTell past) (sym holds.alive) (messages_tell past (alive_numbers past))))
    (sym (ap (λ o. due_on o past) on) ∙ sym holds.unpulled))
  where
    go : (behind : List Msg) → AllTell past behind → due_numbers s past ≡ map (λ (m : Msg). m.num) behind → IsNextDue s past (slice_get behind 0)
    go [] tell is = is
    go (m ∷ rest) tell is = record { rest = map (λ (x : Msg). x.num) rest; first = is; tells = tell.0 }

-- the next message is behind the mark
pub behind_mark : (mark : ℕ) (ms : List Msg) (m : Msg) → slice_get ms mark ≡ Some m → (rest : List Msg) × (drop mark ms ≡ m ∷ rest)
behind_mark mark ms m is = go (drop mark ms) (sym (get_behind mark ms) ∙ is)
  where
    go : (behind : List Msg) → slice_get behind 0 ≡ Some m → (rest : List Msg) × (behind ≡ m ∷ rest)
    go [] is = cc
    go (x ∷ rest) is = (rest, let same : x ≡ m = cc in ap (λ (y : Msg). y ∷ rest) same)
