-- After a drain there is nothing left to do between any two hosts.
use Rattle.std.proofs.Common.{◌≡◌, ◌≢◌, ◌⊎◌, inl, inr, ⊎_elim, ℕ, zero, suc, ◌==◌, ◌&&◌, ◌<◌, ◌≤◌, Bool, true, false, cond, Option, Some, None, Ok, Err, List, [], ◌∷◌, ◌++◌, map, refl, sym, ◌∙◌, ap, subst, arith}
use Rattle.std.proofs.lemmas.Bool.{cond_both, cases_eq, cases_order, cond-true, lt-ltb}
use Rattle.std.proofs.lemmas.Option.{none-some}
use Rattle.std.specs.Prelude.{nat_lt, filter}
use Rattle.std.specs.Option.{option_map_or, option_and_then}
use Rattle.std.specs.Cmp.Lexicographic.{same_text}
use Rattle.std.specs.List.{flat_map}
use Rattle.rds_model.specs.declared.entry.Entry.{Entry}
use Rattle.rds_model.specs.declared.entry.Entry.TheVariants.{Open}
use Rattle.rds_model.specs.Alive.{due_numbers}
use Rattle.rds_model.specs.Owed.{last_map, is_last_map, map_frame, owed_after_map, owed_frame}
use Rattle.rds_model.specs.Past.{open_stream, newest_stream}
use Rattle.rds_script.specs.declared.script.Command.TheVariants as command
use Rattle.rds_script.specs.declared.script.Placed.{Placed}
use Rattle.rds_text.specs.declared.host.TheConstants.{MAX_HOSTS}
use Rattle.rds_text.specs.Lines.{drained_line}
use Rattle.rds_text.specs.Ports.{below}
use Rattle.rds_history.specs.Events.{Event, Appended}
use Rattle.rds_history.specs.Courses.{Course, and_then, each, again, prints}
use Rattle.rds_history.specs.Journals.{journal, own_map}
use Rattle.rds_history.specs.Open.{open_both, open_one}
use Rattle.rds_history.specs.Drain.{HostPair, pairs, open_if_closed, round, rounds, drain}
use Rattle.rds_history.specs.History.{history}
use Rattle.rds_history.specs.Limits.{IsDrained, HasNothingToSend}
use Rattle.rds_history.proofs.EventInvariants.{Holds, holds_weaker, holds_then, holds_appends, holds_each, holds_again, keeps_after}
use Rattle.rds_history.proofs.OnlyWritten.{only_history}
use Rattle.rds_history.proofs.Rounds.{AllResting, IsSwept, swept, resting_drained}
use Rattle.rds_history.proofs.SameStreams.{SameStreams, same_history, same_streams_are_kept, journal_own, here}
use Rattle.rds_history.proofs.Turns.{IsResting}

-- a host, and two hosts, are among these
abbrev Member : ℕ → List ℕ → Type 0
Member x [] = ⊥
Member x (y ∷ ys) = (y ≡ x) ⊎ Member x ys

abbrev Has : (h k : ℕ) → List HostPair → Type 0
Has h k [] = ⊥
Has h k (p ∷ ps) = ((p.low ≡ h) × (p.high ≡ k)) ⊎ Has h k ps

member_left : (x : ℕ) (xs ys : List ℕ) → Member x xs → Member x (xs ++ ys)
member_left x [] ys is = absurd is
member_left x (z ∷ zs) ys (inl is) = inl is
member_left x (z ∷ zs) ys (inr is) = inr (member_left x zs ys is)

member_right : (x : ℕ) (xs ys : List ℕ) → Member x ys → Member x (xs ++ ys)
member_right x [] ys is = is
member_right x (z ∷ zs) ys is = inr (member_right x zs ys is)

member_below : (x n : ℕ) → x < n → Member x (below n)
member_below x zero less = absurd (omega (arith, less))
member_below x (suc n) less = go (cases_eq n x) (λ sooner. member_below x n sooner)
  where
    earlier : (n ≡ x → ⊥) → x < n
    earlier differ = ⊎_elim (λ same. absurd (differ (sym same))) (λ rest. ⊎_elim (λ is. is) (λ more. absurd (omega (arith, less, more))) rest) (cases_order x n)

    go : (n ≡ x) ⊎ (n ≡ x → ⊥) → (x < n → Member x (below n)) → Member x (below n ++ n ∷ [])
    go (inl same) rest = member_right x (below n) (n ∷ []) (inl same)
    go (inr differ) rest = member_left x (below n) (n ∷ []) (rest (earlier differ))

member_filter : (test : ℕ → Bool) (x : ℕ) (xs : List ℕ) → test x ≡ true → Member x xs → Member x (filter test xs)
member_filter test x [] passes is = absurd is
member_filter test x (y ∷ ys) passes (inl is) =
    subst (Member x) (sym (cond-true (test y) (y ∷ filter test ys) (filter test ys) (ap test is ∙ passes))) (inl is)
member_filter test x (y ∷ ys) passes (inr is) =
    cond_both (test y) (y ∷ filter test ys) (filter test ys) (Member x) (λ e. inr (member_filter test x ys passes is)) (λ e. member_filter test x ys passes is)

has_left : (h k : ℕ) (ps qs : List HostPair) → Has h k ps → Has h k (ps ++ qs)
has_left h k [] qs is = absurd is
has_left h k (p ∷ ps) qs (inl is) = inl is
has_left h k (p ∷ ps) qs (inr is) = inr (has_left h k ps qs is)

has_right : (h k : ℕ) (ps qs : List HostPair) → Has h k qs → Has h k (ps ++ qs)
has_right h k [] qs is = is
has_right h k (p ∷ ps) qs is = inr (has_right h k ps qs is)

has_map : (h k : ℕ) (xs : List ℕ) → Member k xs → Has h k (map (λ high. record { low = h; high = high }) xs)
has_map h k [] is = absurd is
has_map h k (x ∷ xs) (inl is) = inl (refl, is)
has_map h k (x ∷ xs) (inr is) = inr (has_map h k xs is)

has_flat : (f : ℕ → List HostPair) (h k : ℕ) (xs : List ℕ) → Member h xs → Has h k (f h) → Has h k (flat_map f xs)
has_flat f h k [] is has = absurd is
has_flat f h k (x ∷ xs) (inl is) has = has_left h k (f x) (flat_map f xs) (subst (λ i. Has h k (f i)) (sym is) has)
has_flat f h k (x ∷ xs) (inr is) has = has_right h k (f x) (flat_map f xs) (has_flat f h k xs is has)

-- each two hosts are a pair
has_pair : (hosts h k : ℕ) → h < k → k < hosts → Has h k (pairs hosts)
has_pair hosts h k less high =
    has_flat (λ low. map (λ at. record { low = low; high = at }) (filter (nat_lt low) (below hosts))) h k (below hosts)
    (member_below h hosts (omega (arith, less, high)))
    (has_map h k (filter (nat_lt h) (below hosts)) (member_filter (nat_lt h) k (below hosts) (lt-ltb h k less) (member_below k hosts high)))

resting_at : (limit h k : ℕ) (qs : List HostPair) (past : List Event) → Has h k qs → AllResting limit qs past →
    IsResting limit h k past × IsResting limit k h past
resting_at limit h k [] past is rest = absurd is
resting_at limit h k (q ∷ qs) past (inl is) rest = (
  subst (λ i. IsResting limit i k past) is.0 (subst (λ i. IsResting limit q.low i past) is.1 rest.0),
  subst (λ i. IsResting limit k i past) is.0 (subst (λ i. IsResting limit i q.low past) is.1 rest.1),
)
resting_at limit h k (q ∷ qs) past (inr is) rest = resting_at limit h k qs past is rest.2

-- a stream is open from a to b
abbrev Opens : (a b : ℕ) → List Event → Type 0
Opens a b past = (stream : ℕ) × (open_stream (journal a b past) ≡ Some stream)

holds_any : (c : Course) → Holds (λ (past : List Event). Unit {0}) c
holds_any (Ok past) = tt
holds_any (Err full) = tt

opens_entry : (a b h k n : ℕ) (past : List Event) → Opens a b past → Opens a b (Appended h k (Open n) ∷ past)
opens_entry a b h k n past is =
    cond_both (h == a && (k == b)) (Open n ∷ journal a b past) (journal a b past) (λ j. (stream : ℕ) × (open_stream j ≡ Some stream)) (λ own. (n, refl)) (λ other. is)

module _ (limit : ℕ) where
  kept_pair : (a b : ℕ) (p : HostPair) (past : List Event) → Opens a b past → Holds (Opens a b) (open_if_closed limit p past)
  kept_pair a b p past is = go (open_stream (journal p.low p.high past))
    where
      go : (o : Option ℕ) → Holds (Opens a b) (option_map_or (λ stream. Ok past) o (open_both limit p.low p.high past))
      go (Some stream) = is
      go None = holds_then (Opens a b) (Opens a b) (open_one limit p.low p.high past) (open_one limit p.high p.low)
          (holds_appends (Opens a b) (Opens a b) limit p.low p.high (Open (suc (newest_stream (journal p.low p.high past)))) past is
          (λ before so. opens_entry a b p.low p.high (suc (newest_stream (journal p.low p.high past))) before so))
          (λ mid so. holds_appends (Opens a b) (Opens a b) limit p.high p.low (Open (suc (newest_stream (journal p.high p.low mid)))) mid so
          (λ before now. opens_entry a b p.high p.low (suc (newest_stream (journal p.high p.low mid))) before now))

  opened_pair : (p : HostPair) (past : List Event) → Holds (Opens p.low p.high) (open_if_closed limit p past)
  opened_pair p past = go (open_stream (journal p.low p.high past)) refl
    where
      go : (o : Option ℕ) → open_stream (journal p.low p.high past) ≡ o →
          Holds (Opens p.low p.high) (option_map_or (λ stream. Ok past) o (open_both limit p.low p.high past))
      go (Some stream) is = (stream, is)
      go None is = holds_then (Opens p.low p.high) (Opens p.low p.high) (open_one limit p.low p.high past) (open_one limit p.high p.low)
          (holds_appends (λ before. Unit {0}) (Opens p.low p.high) limit p.low p.high (Open (suc (newest_stream (journal p.low p.high past)))) past tt
          (λ before so. (
            suc (newest_stream (journal p.low p.high past)),
            ap open_stream (journal_own p.low p.high p.low p.high (Open (suc (newest_stream (journal p.low p.high past)))) before (here p.low p.high)),
          )))
          (λ mid so. holds_appends (Opens p.low p.high) (Opens p.low p.high) limit p.high p.low (Open (suc (newest_stream (journal p.high p.low mid)))) mid so
          (λ before now. opens_entry p.low p.high p.high p.low (suc (newest_stream (journal p.high p.low mid))) before now))

  opened_all : (h k : ℕ) (qs : List HostPair) (past : List Event) → Has h k qs → Holds (Opens h k) (each qs (open_if_closed limit) past)
  opened_all h k [] past is = absurd is
  opened_all h k (q ∷ qs) past (inl is) =
      holds_then (Opens h k) (Opens h k) (open_if_closed limit q past) (each qs (open_if_closed limit))
      (subst (λ i. Holds (Opens i k) (open_if_closed limit q past)) is.0
      (subst (λ i. Holds (Opens q.low i) (open_if_closed limit q past)) is.1 (opened_pair q past)))
      (λ mid so. holds_each (Opens h k) qs (open_if_closed limit) mid so (λ p before now. kept_pair h k p before now))
  opened_all h k (q ∷ qs) past (inr is) =
      holds_then (λ (mid : List Event). Unit {0}) (Opens h k) (open_if_closed limit q past) (each qs (open_if_closed limit))
      (holds_any (open_if_closed limit q past)) (λ mid so. opened_all h k qs mid is)

  -- the stream of each pair is open after a drain
  drained_open : (hosts h k : ℕ) (past : List Event) → Has h k (pairs hosts) → Holds (Opens h k) (drain limit hosts past)
  drained_open hosts h k past is =
      holds_then (Opens h k) (Opens h k) (each (pairs hosts) (open_if_closed limit) past)
      (λ opened. and_then (again (rounds limit) (round limit hosts) opened) (prints drained_line))
      (opened_all h k (pairs hosts) past is)
      (λ opened so. holds_then (Opens h k) (Opens h k) (again (rounds limit) (round limit hosts) opened) (prints drained_line)
      (holds_again (Opens h k) (rounds limit) (round limit hosts) opened so
      (λ before now. holds_weaker (IsSwept limit (pairs hosts) before) (Opens h k) (round limit hosts before) (swept limit (pairs hosts) before)
      (λ later round_so. (now.0, round_so.steady.streams h k ∙ now.1))))
      (λ later now. now))

nothing_owed : (h k stream : ℕ) (past : List Event) → open_stream (journal h k past) ≡ Some stream → HasNothingToSend h k past →
    owed_frame stream (journal h k past) (own_map h past) ≡ None
nothing_owed h k stream past is idle =
    sym (ap (option_and_then (λ s. owed_frame s (journal h k past) (own_map h past))) is) ∙ idle.nothing_owed

-- where nothing is owed, the map was sent
map_sent : (stream : ℕ) (past : List Entry) (map : List ℕ) → owed_frame stream past map ≡ None → last_map stream past ≡ Some map
map_sent stream past map none = go (last_map stream past) none
  where
    on : (b : Bool) → cond b (owed_after_map stream past (due_numbers stream past)) (Some (map_frame past map)) ≡ None → b ≡ true
    on true none = refl
    on false none = absurd (none-some (map_frame past map) (sym none))

    go : (o : Option (List ℕ)) → cond (is_last_map o map) (owed_after_map stream past (due_numbers stream past)) (Some (map_frame past map)) ≡ None → o ≡ Some map
    go None none = absurd (none-some (map_frame past map) (sym none))
    go (Some last) none = ap (λ (m : List ℕ). Some m) (same_text last map (sym (on (is_last_map (Some last) map) none)))

quiet : (limit h k : ℕ) (later : List Event) → Opens h k later → SameStreams later → IsResting limit h k later → IsResting limit k h later → IsDrained h k later
quiet limit h k later is same there back =
    let open_back : open_stream (journal k h later) ≡ Some is.0 = sym (same h k).now ∙ is.1 in
    record {
      stream = is.0;
      open_here = is.1;
      open_there = open_back;
      nothing_flies = there.idle.nothing_flies;
      nothing_flies_back = back.idle.nothing_flies;
      nothing_owed = nothing_owed h k is.0 later is.1 there.idle;
      nothing_owed_back = nothing_owed k h is.0 later open_back back.idle;
      map_sent = map_sent is.0 (journal h k later) (own_map h later) (nothing_owed h k is.0 later is.1 there.idle);
      map_sent_back = map_sent is.0 (journal k h later) (own_map k later) (nothing_owed k h is.0 later open_back back.idle);
    }

turned_round : (h k : ℕ) (past : List Event) → IsDrained h k past → IsDrained k h past
turned_round h k past is = record {
  stream = is.stream;
  open_here = is.open_there;
  open_there = is.open_here;
  nothing_flies = is.nothing_flies_back;
  nothing_flies_back = is.nothing_flies;
  nothing_owed = is.nothing_owed_back;
  nothing_owed_back = is.nothing_owed;
  map_sent = is.map_sent_back;
  map_sent_back = is.map_sent;
}

module _ (limit hosts : ℕ) (few : hosts ≤ MAX_HOSTS) (commands : List Placed) (past later : List Event) (so : history limit hosts commands [] ≡ Ok past)
    (is : drain limit hosts past ≡ Ok later) where
  quiet_pair : (h k : ℕ) → h < k → k < hosts → IsDrained h k later
  quiet_pair h k less high =
      let has = has_pair hosts h k less high in
      let rest = resting_at limit h k (pairs hosts) later has (resting_drained limit hosts few past later (only_history limit hosts commands past so) is) in
      quiet limit h k later (subst (Holds (Opens h k)) is (drained_open limit hosts h k past has))
      (subst (Holds SameStreams) is (keeps_after SameStreams same_streams_are_kept limit hosts command.Drain past (same_history limit hosts commands past so)))
      rest.0 rest.1

  pub quiet_after : (h k : ℕ) → h < hosts → k < hosts → h ≢ k → IsDrained h k later
  quiet_after h k low high differ =
      ⊎_elim (λ same. absurd (differ same))
      (λ order. ⊎_elim (λ less. quiet_pair h k less high) (λ more. turned_round k h later (quiet_pair k h more low)) order) (cases_order h k)
