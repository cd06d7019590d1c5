-- The report of the items of the hosts is the report of the hosts.
use Rattle.std.proofs.Common.{◌≡◌, ◌+◌, ℕ, suc, Bool, true, false, not, ◌&&◌, ◌==◌, if◌then◌else◌, cond, List, [], ◌∷◌, ◌++◌, length, map, filter, arith, refl, sym, ap, ◌∙◌, length-append}
use Rattle.std.specs.List.{flat_map}
use Rattle.std.proofs.lemmas.Bool.{eq-eqb}
use Rattle.std.proofs.lemmas.List.{append-nil, map-append, length-map}
use Rattle.std.proofs.lemmas.List.Elements.{filter-append}
use Rattle.rds_model.specs.declared.order.Datagram.{Datagram}
use Rattle.rds_model.specs.declared.entry.Entry.{Entry}
use Rattle.rds_model.specs.declared.entry.Entry.TheVariants.{Accept, Read}
use Rattle.rds_model.specs.declared.entry.Outcome.{Outcome}
use Rattle.rds_model.specs.declared.entry.Outcome.TheVariants as outcome
use Rattle.rds_model.specs.Past.{accepted, number}
use Rattle.rds_model.specs.Alive.{was_taken_back}
use Rattle.rds_model.specs.Streams.{was_passed}
use Rattle.rds_model.specs.Pairs.{accepted_for, read_with, is_drop, is_port_0}
use Rattle.rds_report.specs.Item.{What, Accepted, Received, Unread, Dropped, Port0, Cancelled, Item}
use Rattle.rds_text.specs.FinalState.{FinalSocket, FinalHost, past_of, sockets_of}
use Rattle.rds_text.specs.Report.{Group, Counts, of_group, received, unread, counts, counts_line, data_line, group_text, pair_text}
use Rattle.rds_report.specs.Items.{item, accepted_items, sent_items, read_items, came_items, socket_items, is_lost, items}
use Rattle.rds_report.specs.ItemReport.{is_of, of_pair, is_accepted, is_received, is_unread, is_dropped, is_port0, is_cancelled_item, tally, data_lines, pair_lines}
use Rattle.rds_report.proofs.Counted.{same_counts}
use Rattle.rds_report.proofs.Selected.{eq_comm, of_kind, chosen, chosen_append, none_chosen, kindless_sent, kindless_came, kindless_sockets, kindless_map}
use Rattle.rds_report.proofs.Chosen.{EndsOnce}
use Rattle.rds_report.proofs.Sides.{AllSidesOnce, all_sent, all_came, all_kept}

-- an item between the hosts of a pair is of the pair where its ports are

pub is_between_hosts : (g : Group) (dport sport : ℕ) (what : What) → is_of g (item g.to dport g.from sport what) ≡ (sport == g.sport && (dport == g.dport))
is_between_hosts g dport sport what =
    ap (λ (b : Bool). (b && (g.dport == dport)) && ((g.from == g.from) && (g.sport == sport))) (eq-eqb g.to g.to refl)
    ∙ ap (λ (b : Bool). (g.dport == dport) && (b && (g.sport == sport))) (eq-eqb g.from g.from refl)
    ∙ ap (λ (b : Bool). b && (g.sport == sport)) (eq_comm g.dport dport) ∙ ap (λ (b : Bool). (dport == g.dport) && b) (eq_comm g.sport sport)
    ∙ swap (dport == g.dport) (sport == g.sport)
  where
    swap : (x y : Bool) → (x && y) ≡ (y && x)
    swap true true = refl
    swap true false = refl
    swap false true = refl
    swap false false = refl

more_length : (kind : What → Bool) (g : Group) (xs ys : List Item) → length (chosen kind g (xs ++ ys)) ≡ length (chosen kind g xs) + length (chosen kind g ys)
more_length kind g xs ys = ap length (chosen_append kind g xs ys) ∙ length-append (chosen kind g xs) (chosen kind g ys)

-- the acceptances of a pair
module _ (g : Group) (lost : ℕ → Bool) where
  accepted_one : (sport dport : ℕ) (b t : Bool) → is_of g (item g.to dport g.from sport Accepted) ≡ t →
      length (chosen is_accepted g (accepted_items g.from g.to sport dport b)) ≡ (if t then 1 else 0)
  accepted_one sport dport true true is = ap (λ (x : Bool). length (of_kind is_accepted (cond x (item g.to dport g.from sport Accepted ∷ cond x (item g.to dport g.from sport Cancelled ∷ []) []) (cond x (item g.to dport g.from sport Cancelled ∷ []) [])))) is
  accepted_one sport dport true false is = ap (λ (x : Bool). length (of_kind is_accepted (cond x (item g.to dport g.from sport Accepted ∷ cond x (item g.to dport g.from sport Cancelled ∷ []) []) (cond x (item g.to dport g.from sport Cancelled ∷ []) [])))) is
  accepted_one sport dport false true is = ap (λ (x : Bool). length (of_kind is_accepted (cond x (item g.to dport g.from sport Accepted ∷ []) []))) is
  accepted_one sport dport false false is = ap (λ (x : Bool). length (of_kind is_accepted (cond x (item g.to dport g.from sport Accepted ∷ []) []))) is

  cancelled_one : (sport dport : ℕ) (b t : Bool) → is_of g (item g.to dport g.from sport Accepted) ≡ t →
      length (chosen is_cancelled_item g (accepted_items g.from g.to sport dport b)) ≡ (if t then (if b then 1 else 0) else 0)
  cancelled_one sport dport true true is = ap (λ (x : Bool). length (of_kind is_cancelled_item (cond x (item g.to dport g.from sport Accepted ∷ cond x (item g.to dport g.from sport Cancelled ∷ []) []) (cond x (item g.to dport g.from sport Cancelled ∷ []) [])))) is
  cancelled_one sport dport true false is = ap (λ (x : Bool). length (of_kind is_cancelled_item (cond x (item g.to dport g.from sport Accepted ∷ cond x (item g.to dport g.from sport Cancelled ∷ []) []) (cond x (item g.to dport g.from sport Cancelled ∷ []) [])))) is
  cancelled_one sport dport false true is = ap (λ (x : Bool). length (of_kind is_cancelled_item (cond x (item g.to dport g.from sport Accepted ∷ []) []))) is
  cancelled_one sport dport false false is = ap (λ (x : Bool). length (of_kind is_cancelled_item (cond x (item g.to dport g.from sport Accepted ∷ []) []))) is

  pub accepted_count : (past : List Entry) → length (chosen is_accepted g (sent_items g.from g.to lost past)) ≡ length (accepted_for g.sport g.dport past)
  accepted_count [] = refl
  accepted_count (Accept slot sport dport payload ∷ past) =
      more_length is_accepted g (sent_items g.from g.to lost past) (accepted_items g.from g.to sport dport (lost (suc (accepted past))))
      ∙ ap (λ (n : ℕ). n + length (chosen is_accepted g (accepted_items g.from g.to sport dport (lost (suc (accepted past)))))) (accepted_count past)
      ∙ ap (λ (n : ℕ). length (accepted_for g.sport g.dport past) + n) (accepted_one sport dport (lost (suc (accepted past))) (sport == g.sport && (dport == g.dport)) (is_between_hosts g dport sport Accepted))
      ∙ go (sport == g.sport && (dport == g.dport))
    where
      go : (t : Bool) → length (accepted_for g.sport g.dport past) + (if t then 1 else 0) ≡ length (if t then accepted_for g.sport g.dport past ++ suc (accepted past) ∷ [] else accepted_for g.sport g.dport past)
      go true = sym (length-append (accepted_for g.sport g.dport past) (suc (accepted past) ∷ []))
      go false = omega arith
  accepted_count (_ ∷ past) = accepted_count past

  pub cancelled_count : (past : List Entry) → length (chosen is_cancelled_item g (sent_items g.from g.to lost past)) ≡ length (filter lost (accepted_for g.sport g.dport past))
  cancelled_count [] = refl
  cancelled_count (Accept slot sport dport payload ∷ past) =
      more_length is_cancelled_item g (sent_items g.from g.to lost past) (accepted_items g.from g.to sport dport (lost (suc (accepted past))))
      ∙ ap (λ (n : ℕ). n + length (chosen is_cancelled_item g (accepted_items g.from g.to sport dport (lost (suc (accepted past)))))) (cancelled_count past)
      ∙ ap (λ (n : ℕ). length (filter lost (accepted_for g.sport g.dport past)) + n) (cancelled_one sport dport (lost (suc (accepted past))) (sport == g.sport && (dport == g.dport)) (is_between_hosts g dport sport Accepted))
      ∙ go (sport == g.sport && (dport == g.dport))
    where
      last : (b : Bool) → (if b then 1 else 0) ≡ length (cond b (suc (accepted past) ∷ []) [])
      last true = refl
      last false = refl

      go : (t : Bool) → length (filter lost (accepted_for g.sport g.dport past)) + (if t then (if lost (suc (accepted past)) then 1 else 0) else 0) ≡ length (filter lost (if t then accepted_for g.sport g.dport past ++ suc (accepted past) ∷ [] else accepted_for g.sport g.dport past))
      go true =
          ap (λ (n : ℕ). length (filter lost (accepted_for g.sport g.dport past)) + n) (last (lost (suc (accepted past))))
          ∙ sym (ap length (filter-append lost (accepted_for g.sport g.dport past) (suc (accepted past) ∷ [])) ∙ length-append (filter lost (accepted_for g.sport g.dport past)) (filter lost (suc (accepted past) ∷ [])))
      go false = omega arith
  cancelled_count (_ ∷ past) = cancelled_count past

pub filter_twice : (p q : ℕ → Bool) (xs : List ℕ) → filter (λ n. p n && not (q n)) xs ≡ filter (λ n. not (q n)) (filter p xs)
filter_twice p q [] = refl
filter_twice p q (x ∷ xs) = go (p x) refl (filter_twice p q xs)
  where
    go : (b : Bool) → p x ≡ b → filter (λ n. p n && not (q n)) xs ≡ filter (λ n. not (q n)) (filter p xs) →
        filter (λ n. p n && not (q n)) (x ∷ xs) ≡ filter (λ n. not (q n)) (filter p (x ∷ xs))
    go true is ih =
        ap (λ (b : Bool). cond (b && not (q x)) (x ∷ filter (λ n. p n && not (q n)) xs) (filter (λ n. p n && not (q n)) xs)) is
        ∙ ap (λ (l : List ℕ). cond (not (q x)) (x ∷ l) l) ih
        ∙ sym (ap (λ (b : Bool). filter (λ n. not (q n)) (cond b (x ∷ filter p xs) (filter p xs))) is)
    go false is ih =
        ap (λ (b : Bool). cond (b && not (q x)) (x ∷ filter (λ n. p n && not (q n)) xs) (filter (λ n. p n && not (q n)) xs)) is
        ∙ ih ∙ sym (ap (λ (b : Bool). filter (λ n. not (q n)) (cond b (x ∷ filter p xs) (filter p xs))) is)

-- the reads of a pair
module _ (g : Group) where
  one_item : (what : What) (sport dport : ℕ) → of_pair g (item g.to dport g.from sport what ∷ []) ≡ (if sport == g.sport && (dport == g.dport) then item g.to dport g.from sport what ∷ [] else [])
  one_item what sport dport = ap (λ (b : Bool). cond b (item g.to dport g.from sport what ∷ []) []) (is_between_hosts g dport sport what)

  abbrev one_of : (Outcome → Bool) → Outcome → Bool → ℕ
  one_of such o t = if such o && t then 1 else 0

  cases_of : (kind : What → Bool) (what : What) (sport dport : ℕ) → kind what ≡ true →
      length (chosen kind g (item g.to dport g.from sport what ∷ [])) ≡ (if sport == g.sport && (dport == g.dport) then 1 else 0)
  cases_of kind what sport dport is = ap (λ (l : List Item). length (of_kind kind l)) (one_item what sport dport) ∙ go (sport == g.sport && (dport == g.dport))
    where
      go : (t : Bool) → length (of_kind kind (if t then item g.to dport g.from sport what ∷ [] else [])) ≡ (if t then 1 else 0)
      go true = ap (λ (b : Bool). length (cond b (item g.to dport g.from sport what ∷ []) [])) is
      go false = refl

  cases_not : (kind : What → Bool) (what : What) (sport dport : ℕ) → kind what ≡ false →
      length (chosen kind g (item g.to dport g.from sport what ∷ [])) ≡ 0
  cases_not kind what sport dport is = ap (λ (l : List Item). length (of_kind kind l)) (one_item what sport dport) ∙ go (sport == g.sport && (dport == g.dport))
    where
      go : (t : Bool) → length (of_kind kind (if t then item g.to dport g.from sport what ∷ [] else [])) ≡ 0
      go true = ap (λ (b : Bool). length (cond b (item g.to dport g.from sport what ∷ []) [])) is
      go false = refl

  dropped_one : (sport dport : ℕ) (o : Outcome) → length (chosen is_dropped g (read_items g.to dport g.from sport o)) ≡ one_of is_drop o (sport == g.sport && (dport == g.dport))
  dropped_one sport dport outcome.NoSocket = cases_of is_dropped Dropped sport dport refl
  dropped_one sport dport outcome.Ping = cases_not is_dropped Port0 sport dport refl
  dropped_one sport dport outcome.Void = cases_not is_dropped Port0 sport dport refl
  dropped_one sport dport outcome.Old = refl
  dropped_one sport dport (outcome.Slot slot) = refl
  dropped_one sport dport outcome.AckOnly = refl
  dropped_one sport dport outcome.Map = refl
  dropped_one sport dport outcome.OddMap = refl

  port0_one : (sport dport : ℕ) (o : Outcome) → length (chosen is_port0 g (read_items g.to dport g.from sport o)) ≡ one_of is_port_0 o (sport == g.sport && (dport == g.dport))
  port0_one sport dport outcome.NoSocket = cases_not is_port0 Dropped sport dport refl
  port0_one sport dport outcome.Ping = cases_of is_port0 Port0 sport dport refl
  port0_one sport dport outcome.Void = cases_of is_port0 Port0 sport dport refl
  port0_one sport dport outcome.Old = refl
  port0_one sport dport (outcome.Slot slot) = refl
  port0_one sport dport outcome.AckOnly = refl
  port0_one sport dport outcome.Map = refl
  port0_one sport dport outcome.OddMap = refl

  pub read_count : (kind : What → Bool) (such : Outcome → Bool) →
      ((sport dport : ℕ) (o : Outcome) → length (chosen kind g (read_items g.to dport g.from sport o)) ≡ one_of such o (sport == g.sport && (dport == g.dport))) →
      (past : List Entry) → length (chosen kind g (came_items g.from g.to past)) ≡ length (read_with such g.sport g.dport past)
  read_count kind such one [] = refl
  read_count kind such one (Read stream frame o ∷ past) =
      more_length kind g (came_items g.from g.to past) (read_items g.to frame.header.dport g.from frame.header.sport o)
      ∙ ap (λ (n : ℕ). n + length (chosen kind g (read_items g.to frame.header.dport g.from frame.header.sport o))) (read_count kind such one past)
      ∙ ap (λ (n : ℕ). length (read_with such g.sport g.dport past) + n) (one frame.header.sport frame.header.dport o)
      ∙ go (such o && (frame.header.sport == g.sport && (frame.header.dport == g.dport)))
    where
      go : (t : Bool) → length (read_with such g.sport g.dport past) + (if t then 1 else 0) ≡ length (if t then read_with such g.sport g.dport past ++ number frame ∷ [] else read_with such g.sport g.dport past)
      go true = sym (length-append (read_with such g.sport g.dport past) (number frame ∷ []))
      go false = omega arith
  read_count kind such one (_ ∷ past) = read_count kind such one past

  pub dropped_count : (past : List Entry) → length (chosen is_dropped g (came_items g.from g.to past)) ≡ length (read_with is_drop g.sport g.dport past)
  dropped_count past = read_count is_dropped is_drop dropped_one past

  pub port0_count : (past : List Entry) → length (chosen is_port0 g (came_items g.from g.to past)) ≡ length (read_with is_port_0 g.sport g.dport past)
  port0_count past = read_count is_port0 is_port_0 port0_one past

-- the datagrams of sockets

module _ (g : Group) where
  abbrev pub got_item : Datagram → Item
  got_item d = item g.to d.dport d.from d.sport (Received d.payload)

  abbrev pub left_item : Datagram → Item
  left_item d = item g.to d.dport d.from d.sport Unread

  abbrev is_in_group : Datagram → Bool
  is_in_group d = (d.from == g.from && (d.sport == g.sport)) && (d.dport == g.dport)

  is_of_socket : (what : What) (d : Datagram) → is_of g (item g.to d.dport d.from d.sport what) ≡ is_in_group d
  is_of_socket what d =
      ap (λ (b : Bool). (b && (g.dport == d.dport)) && ((g.from == d.from) && (g.sport == d.sport))) (eq-eqb g.to g.to refl)
      ∙ ap (λ (b : Bool). b && ((g.from == d.from) && (g.sport == d.sport))) (eq_comm g.dport d.dport)
      ∙ ap (λ (b : Bool). (d.dport == g.dport) && (b && (g.sport == d.sport))) (eq_comm g.from d.from)
      ∙ ap (λ (b : Bool). (d.dport == g.dport) && ((d.from == g.from) && b)) (eq_comm g.sport d.sport)
      ∙ swap (d.dport == g.dport) ((d.from == g.from) && (d.sport == g.sport))
    where
      swap : (x y : Bool) → (x && y) ≡ (y && x)
      swap true true = refl
      swap true false = refl
      swap false true = refl
      swap false false = refl

  chosen_map : (kind : What → Bool) (f : Datagram → Item) → ((d : Datagram) → kind (f d).what ≡ true) → ((d : Datagram) → is_of g (f d) ≡ is_in_group d) →
      (ds : List Datagram) → chosen kind g (map f ds) ≡ map f (of_group g ds)
  chosen_map kind f k o [] = refl
  chosen_map kind f k o (d ∷ ds) =
      ap (λ (b : Bool). of_kind kind (cond b (f d ∷ of_pair g (map f ds)) (of_pair g (map f ds)))) (o d) ∙ go (is_in_group d) (chosen_map kind f k o ds)
    where
      go : (b : Bool) → chosen kind g (map f ds) ≡ map f (of_group g ds) →
          of_kind kind (cond b (f d ∷ of_pair g (map f ds)) (of_pair g (map f ds))) ≡ map f (cond b (d ∷ of_group g ds) (of_group g ds))
      go true ih =
          ap (λ (b : Bool). cond b (f d ∷ chosen kind g (map f ds)) (chosen kind g (map f ds))) (k d) ∙ ap (λ (l : List Item). f d ∷ l) ih
      go false ih = ih

  pub got_chosen : (sockets : List FinalSocket) → chosen is_received g (flat_map (socket_items g.to) sockets) ≡ map got_item (of_group g (flat_map (λ (s : FinalSocket). s.got) sockets))
  got_chosen [] = refl
  got_chosen (s ∷ sockets) =
      chosen_append is_received g (socket_items g.to s) (flat_map (socket_items g.to) sockets)
      ∙ ap (λ (l : List Item). l ++ chosen is_received g (flat_map (socket_items g.to) sockets))
      (chosen_append is_received g (map got_item s.got) (map left_item s.unread)
      ∙ ap (λ (l : List Item). l ++ chosen is_received g (map left_item s.unread)) (chosen_map is_received got_item (λ d. refl) (λ d. is_of_socket (Received d.payload) d) s.got)
      ∙ ap (λ (l : List Item). map got_item (of_group g s.got) ++ l) (none_chosen is_received g (map left_item s.unread) (kindless_map is_received left_item (λ d. refl) s.unread))
      ∙ append-nil (map got_item (of_group g s.got)))
      ∙ ap (λ (l : List Item). map got_item (of_group g s.got) ++ l) (got_chosen sockets)
      ∙ sym (ap (map got_item) (filter-append is_in_group s.got (flat_map (λ (s : FinalSocket). s.got) sockets)) ∙ map-append got_item (of_group g s.got) (of_group g (flat_map (λ (s : FinalSocket). s.got) sockets)))

  pub left_chosen : (sockets : List FinalSocket) → chosen is_unread g (flat_map (socket_items g.to) sockets) ≡ map left_item (of_group g (flat_map (λ (s : FinalSocket). s.unread) sockets))
  left_chosen [] = refl
  left_chosen (s ∷ sockets) =
      chosen_append is_unread g (socket_items g.to s) (flat_map (socket_items g.to) sockets)
      ∙ ap (λ (l : List Item). l ++ chosen is_unread g (flat_map (socket_items g.to) sockets))
      (chosen_append is_unread g (map got_item s.got) (map left_item s.unread)
      ∙ ap (λ (l : List Item). l ++ chosen is_unread g (map left_item s.unread)) (none_chosen is_unread g (map got_item s.got) (kindless_map is_unread got_item (λ d. refl) s.got))
      ∙ chosen_map is_unread left_item (λ d. refl) (λ d. is_of_socket Unread d) s.unread)
      ∙ ap (λ (l : List Item). map left_item (of_group g s.unread) ++ l) (left_chosen sockets)
      ∙ sym (ap (map left_item) (filter-append is_in_group s.unread (flat_map (λ (s : FinalSocket). s.unread) sockets)) ∙ map-append left_item (of_group g s.unread) (of_group g (flat_map (λ (s : FinalSocket). s.unread) sockets)))

  got_lines : (ds : List Datagram) → flat_map (λ (i : Item). data_lines i.what) (map got_item ds) ≡ flat_map data_line ds
  got_lines [] = refl
  got_lines (d ∷ ds) = ap (λ (t : List ℕ). data_line d ++ t) (got_lines ds)

pub only_received : (xs : List Item) → flat_map (λ (i : Item). data_lines i.what) xs ≡ flat_map (λ (i : Item). data_lines i.what) (of_kind is_received xs)
only_received [] = refl
only_received (x ∷ xs) = go x.what refl (only_received xs)
  where
    go : (w : What) → x.what ≡ w → flat_map (λ (i : Item). data_lines i.what) xs ≡ flat_map (λ (i : Item). data_lines i.what) (of_kind is_received xs) →
        data_lines x.what ++ flat_map (λ (i : Item). data_lines i.what) xs ≡ flat_map (λ (i : Item). data_lines i.what) (cond (is_received x.what) (x ∷ of_kind is_received xs) (of_kind is_received xs))
    go (Received p) is ih =
        ap (λ (t : List ℕ). data_lines x.what ++ t) ih
        ∙ ap (λ (w : What). flat_map (λ (i : Item). data_lines i.what) (cond (is_received w) (x ∷ of_kind is_received xs) (of_kind is_received xs))) (sym is)
    go Accepted is ih =
        ap (λ (w : What). data_lines w ++ flat_map (λ (i : Item). data_lines i.what) xs) is ∙ ih
        ∙ ap (λ (w : What). flat_map (λ (i : Item). data_lines i.what) (cond (is_received w) (x ∷ of_kind is_received xs) (of_kind is_received xs))) (sym is)
    go Unread is ih =
        ap (λ (w : What). data_lines w ++ flat_map (λ (i : Item). data_lines i.what) xs) is ∙ ih
        ∙ ap (λ (w : What). flat_map (λ (i : Item). data_lines i.what) (cond (is_received w) (x ∷ of_kind is_received xs) (of_kind is_received xs))) (sym is)
    go Dropped is ih =
        ap (λ (w : What). data_lines w ++ flat_map (λ (i : Item). data_lines i.what) xs) is ∙ ih
        ∙ ap (λ (w : What). flat_map (λ (i : Item). data_lines i.what) (cond (is_received w) (x ∷ of_kind is_received xs) (of_kind is_received xs))) (sym is)
    go Port0 is ih =
        ap (λ (w : What). data_lines w ++ flat_map (λ (i : Item). data_lines i.what) xs) is ∙ ih
        ∙ ap (λ (w : What). flat_map (λ (i : Item). data_lines i.what) (cond (is_received w) (x ∷ of_kind is_received xs) (of_kind is_received xs))) (sym is)
    go Cancelled is ih =
        ap (λ (w : What). data_lines w ++ flat_map (λ (i : Item). data_lines i.what) xs) is ∙ ih
        ∙ ap (λ (w : What). flat_map (λ (i : Item). data_lines i.what) (cond (is_received w) (x ∷ of_kind is_received xs) (of_kind is_received xs))) (sym is)

-- a pair's lines, by its items and by the hosts

module _ (ends : List FinalHost) (once : EndsOnce ends) (sides : AllSidesOnce ends) (g : Group) where
  no_came : (kind : What → Bool) → kind Dropped ≡ false → kind Port0 ≡ false → (from to : ℕ) (past : List Entry) → chosen kind g (came_items from to past) ≡ []
  no_came kind d p from to past = none_chosen kind g (came_items from to past) (kindless_came kind d p from to past)

  no_sent : (kind : What → Bool) → kind Accepted ≡ false → kind Cancelled ≡ false → (from to : ℕ) (lost : ℕ → Bool) (past : List Entry) → chosen kind g (sent_items from to lost past) ≡ []
  no_sent kind a c from to lost past = none_chosen kind g (sent_items from to lost past) (kindless_sent kind a c from to lost past)

  no_kept : (kind : What → Bool) → ((p : List ℕ) → kind (Received p) ≡ false) → kind Unread ≡ false → (to : ℕ) (sockets : List FinalSocket) → chosen kind g (flat_map (socket_items to) sockets) ≡ []
  no_kept kind r u to sockets = none_chosen kind g (flat_map (socket_items to) sockets) (kindless_sockets kind r u to sockets)

  abbrev there : List Entry
  there = past_of g.from g.to ends

  abbrev back : List Entry
  back = past_of g.to g.from ends

  pub got_all : chosen is_received g (items ends) ≡ map (got_item g) (received ends g)
  got_all = all_kept is_received g ends (no_sent is_received refl refl) (no_came is_received refl refl) once ∙ got_chosen g (sockets_of g.to ends)

  pub tally_is : tally (of_pair g (items ends)) ≡ counts ends g
  tally_is =
      same_counts
      (ap length (all_sent is_accepted g ends (no_came is_accepted refl refl) (no_kept is_accepted (λ p. refl) refl) once sides) ∙ accepted_count g (is_lost there back) there)
      (ap length got_all ∙ length-map (received ends g) (got_item g))
      (ap length (all_kept is_unread g ends (no_sent is_unread refl refl) (no_came is_unread refl refl) once ∙ left_chosen g (sockets_of g.to ends)) ∙ length-map (unread ends g) (left_item g))
      (ap length (all_came is_dropped g ends (no_sent is_dropped refl refl) (no_kept is_dropped (λ p. refl) refl) once sides) ∙ dropped_count g back)
      (ap length (all_came is_port0 g ends (no_sent is_port0 refl refl) (no_kept is_port0 (λ p. refl) refl) once sides) ∙ port0_count g back)
      (ap length (all_sent is_cancelled_item g ends (no_came is_cancelled_item refl refl) (no_kept is_cancelled_item (λ p. refl) refl) once sides) ∙ cancelled_count g (is_lost there back) there
      ∙ ap length (filter_twice (was_taken_back there) (was_passed back) (accepted_for g.sport g.dport there)))

  pub pair_is : pair_lines g (of_pair g (items ends)) ≡ group_text ends g
  pair_is =
      ap (λ (c : Counts). pair_text g ++ (counts_line c ++ flat_map (λ (i : Item). data_lines i.what) (of_pair g (items ends)))) tally_is
      ∙ ap (λ (t : List ℕ). pair_text g ++ (counts_line (counts ends g) ++ t))
      (only_received (of_pair g (items ends)) ∙ ap (flat_map (λ (i : Item). data_lines i.what)) got_all ∙ got_lines g (received ends g))
