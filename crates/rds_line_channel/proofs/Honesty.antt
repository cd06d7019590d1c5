-- What was read of a stream is a beginning of what was written to it, once the ends of two lines have met.
use Rattle.std.proofs.Common.{◌≡◌, ◌≢◌, ◌⊎◌, inl, inr, ℕ, ◌<◌, ◌≤◌, Bool, true, false, Some, None, slice_get, List, [], ◌∷◌, ◌++◌, get_or, take, length, append_assoc, refl, sym, ap, subst, ◌∙◌, arith}
use Rattle.std.specs.List.{Contains}
use Rattle.std.proofs.lemmas.Bool.{cases_eq, cases_lt}
use Rattle.std.proofs.lemmas.List.{get_or-take, length-take, length-map}
use Rattle.std.proofs.lemmas.Option.{same_Some, slice_get-get_or, slice_get_cases}
use Rattle.rds_link.specs.Ends.{Means}
use Rattle.rds_model.specs.declared.entry.Entry.{Entry}
use Rattle.rds_model.specs.Honest.{Begins}
use Rattle.rds_model.specs.Legal.{IsLegal}
use Rattle.rds_model.specs.StreamLaws.{read_was_opened}
use Rattle.rds_model.specs.Streams.{read_bytes, written_bytes}
use Rattle.rds_line_channel.specs.Meeting.{AtEach, GotBeginning}
use Rattle.rds_line_channel.specs.NumberLaws.{number_there, same_number}
use Rattle.rds_line_channel.specs.Streams.{StreamsView, AreKept, numbers, newest_place}
use Rattle.rds_line_channel.specs.Carried.{IsOn, IsOff, IsCarriedBy}

begins_through : (x y z : List ℕ) → Begins x y → Begins y z → Begins x z
begins_through x y z first second =
    (first.0 ++ second.0, second.1 ∙ (ap (λ (l : List ℕ). l ++ second.0) first.1 ∙ append_assoc x first.0 second.0))

nil_or_not : (l : List ℕ) → (l ≡ []) ⊎ (l ≢ [])
nil_or_not [] = inl refl
nil_or_not (x ∷ l) = inr (λ e. absurd (cc))

-- a stream that was opened stands at a place below those that were not
stands_opened : {E : Type 0} (s : StreamsView E) (number : ℕ) → Contains (take s.opened (numbers s.list)) number →
    (place : ℕ) × (e : E) × (place < s.opened) × (slice_get s.list place ≡ Some (number, e))
stands_opened {E} s number found = go (slice_get_cases s.list place).1
  where
    place : ℕ
    place = found.0

    below : place < s.opened
    below = (let small = found.1 in omega (arith, length-take s.opened (numbers s.list)))

    within : place < length (numbers s.list)
    within = (let small = found.1 in omega (arith, length-take s.opened (numbers s.list)))

    there : slice_get (numbers s.list) place ≡ Some number
    there =
        slice_get-get_or (numbers s.list) place number within
        ∙ ap Some (sym (get_or-take s.opened (numbers s.list) place number below) ∙ found.2)

    go : ((x : ℕ × E) × (place < length s.list) × (slice_get s.list place ≡ Some x) × (get_or s.list place x ≡ x))
        ⊎ ((length s.list ≤ place) × (slice_get s.list place ≡ None)) →
        (at : ℕ) × (e : E) × (at < s.opened) × (slice_get s.list at ≡ Some (number, e))
    go (inl stream) =
        let is = same_Some stream.0.0 number (sym (number_there s.list place stream.0 stream.2) ∙ there) in
        (place, stream.0.1, below, stream.2 ∙ ap (λ n. Some (n, stream.0.1)) is)
    go (inr past_all) = absurd (omega (arith, within, length-map s.list (λ (x : ℕ × E). x.0)))

module _ {E : Type 0} (m : Means E) (tells : m.tells ≡ true) where
  module _ (past : List Entry) (arrived out cuts : List ℕ) (s : StreamsView E) (carried : IsCarriedBy m past arrived out s cuts)
      (place number : ℕ) (e : E) (stands : slice_get s.list place ≡ Some (number, e)) where
    -- a stream that was opened is open or was
    on_or_off : place < s.opened → (b : Bool) → s.is_open ≡ b → (place ≡ newest_place s) ⊎ (place ≢ newest_place s) →
        IsOn m past arrived out number e ⊎ IsOff m past number e
    on_or_off below false off at = inr ((carried.off tells place (below, λ on. absurd (cc))).at (number, e) stands)
    on_or_off below true on (inl here) = inl ((carried.on tells on).at (number, e) (ap (slice_get s.list) (sym here) ∙ stands))
    on_or_off below true on (inr apart) = inr ((carried.off tells place (below, λ _. apart)).at (number, e) stands)

    was_on : place < s.opened → IsOn m past arrived out number e ⊎ IsOff m past number e
    was_on below = on_or_off below s.is_open refl (cases_eq place (newest_place s))

    read_begins : IsOn m past arrived out number e ⊎ IsOff m past number e → Begins (read_bytes number past) (m.got e)
    read_begins (inl is) = (arrived, is.gets)
    read_begins (inr is) = is.gets

    sent_begins : IsOn m past arrived out number e ⊎ IsOff m past number e → Begins (m.sent e) (written_bytes number past)
    sent_begins (inl is) = (out, sym is.sends)
    sent_begins (inr is) = is.sends

    -- its end sent a beginning of what was written, whether the stream was opened or not
    sent_at_all : AreKept m s → (place < s.opened) ⊎ (s.opened ≤ place) → Begins (m.sent e) (written_bytes number past)
    sent_at_all kept (inl below) = sent_begins (was_on below)
    sent_at_all kept (inr unopened) =
        let nothing = (((kept.unused place unopened).at (number, e) stands).0 tells).0 in
        (written_bytes number past, ap (λ (l : List ℕ). l ++ written_bytes number past) (sym nothing))

  module _ (past other_past : List Entry) (arrived other_arrived out other_out cuts other_cuts : List ℕ) (s other : StreamsView E)
      (carried : IsCarriedBy m past arrived out s cuts)
      (other_carried : IsCarriedBy m other_past other_arrived other_out other other_cuts) where
    -- what one journal read is a beginning of what the other wrote
    pub honest : AreKept m other → IsLegal past → numbers other.list ≡ numbers s.list →
        AtEach (GotBeginning m) s.list other.list →
        (number : ℕ) → Begins (read_bytes number past) (written_bytes number other_past)
    honest other_kept legal same got number = go (nil_or_not (read_bytes number past))
      where
        go : (read_bytes number past ≡ []) ⊎ (read_bytes number past ≢ []) →
            Begins (read_bytes number past) (written_bytes number other_past)
        go (inl none) = (written_bytes number other_past, ap (λ (l : List ℕ). l ++ written_bytes number other_past) (sym none))
        go (inr some) =
            let opened = read_was_opened number past legal some in
            let found = subst (λ (ns : List ℕ). Contains ns number) (sym carried.opened) opened in
            let here = stands_opened s number found in
            let there = same_number s.list other.list same here.0 number here.1 here.3 in
            let was = was_on past arrived out cuts s carried here.0 number here.1 here.3 here.2 in
            let reads = read_begins past arrived out cuts s carried here.0 number here.1 here.3 was in
            let goes = got.at here.0 (number, here.1) (number, there.0) here.3 there.1 tells in
            let sent = sent_at_all other_past other_arrived other_out other_cuts other other_carried in
            let sends = sent here.0 number there.0 there.1 other_kept (cases_lt here.0 other.opened) in
            begins_through (read_bytes number past) (m.got here.1) (written_bytes number other_past) reads
            (begins_through (m.got here.1) (m.sent there.0) (written_bytes number other_past) goes sends)
