-- What an idle turn of a line shows that left nothing to be written, over ends that tell their bytes.
use Rattle.std.proofs.Common.{◌≡◌, ◌⊎◌, inl, inr, ℕ, suc, ◌≤◌, ◌-◌, if◌then◌else◌, Bool, true, false, List, [], ◌∷◌, ◌++◌, length, Option, Some, None, slice_get, refl, sym, ap, ◌∙◌, arith}
use Rattle.std.proofs.lemmas.Bool.{cond-true}
use Rattle.std.proofs.lemmas.List.{append-nil, length-map, length-take-le}
use Rattle.std.specs.Cmp.Lexicographic.{same_text}
use Rattle.std.proofs.lemmas.Option.{slice_get_within}
use Rattle.rds_frame.specs.Splitting.{IsPartial}
use Rattle.rds_frame.specs.Holding.{waiting_bytes}
use Rattle.rds_link.specs.Ends.{Means}
use Rattle.rds_link.specs.declared.end.Got.TheVariants as got
use Rattle.rds_model.specs.declared.entry.Entry.{Entry}
use Rattle.rds_model.specs.Drained.{OwesNothing}
use Rattle.rds_model.specs.Owed.{is_last_map, last_map, map_frame, owed_after_map, owed_frame}
use Rattle.rds_model.specs.Alive.{due_numbers}
use Rattle.rds_model.specs.Past.{open_stream}
use Rattle.rds_model.specs.Streams.{read_bytes, written_bytes}
use Rattle.rds_model.specs.Sums.{opens}
use Rattle.rds_line_channel.specs.StreamChanges.{ChangesAt, Receives}
use Rattle.rds_line_channel.specs.NumberLaws.{number_there}
use Rattle.rds_line_channel.specs.PlaceLaws.{at_set}
use Rattle.rds_line_channel.specs.Streams.{StreamsView, newest_place, numbers, open_number, opened_numbers}
use Rattle.rds_line.specs.Line.{LineView, line_past}
use Rattle.rds_line.specs.Turns.{FindsNoRoom, FindsNothingOwed, IsIdleTurn, LoadsOwn}
use Rattle.rds_run_rounds.specs.Rest.{HasRested, KeepsStreams}

-- where nothing is owed for a map, that map was pulled last
pub owes_nothing : (s : ℕ) (past : List Entry) (map : List ℕ) → owed_frame s past map ≡ None → OwesNothing s past
owes_nothing s past map none = record { map = map; pulled = by_last (last_map s past) none; nothing = none }
  where
    by_test : (last : List ℕ) (b : Bool) → is_last_map (Some last) map ≡ b →
        (if b then owed_after_map s past (due_numbers s past) else Some (map_frame past map)) ≡ None → Some last ≡ Some map
    by_test last true is none = ap (λ (m : List ℕ). Some m) (same_text last map (sym is))
    by_test last false is none = absurd (cc)

    by_last : (o : Option (List ℕ)) → (if is_last_map o map then owed_after_map s past (due_numbers s past) else Some (map_frame past map)) ≡ None → o ≡ Some map
    by_last None none = absurd (cc)
    by_last (Some last) none = by_test last (is_last_map (Some last) map) refl none

module _ {E : Type 0} where
  -- so many numbers of streams were opened
  pub opened_count : (s : StreamsView E) → s.opened ≤ length s.list → length (opened_numbers s) ≡ s.opened
  opened_count s within = length-take-le s.opened (numbers s.list) (omega (arith, within, length-map s.list (λ stream. stream.0)))

  -- the number of the open stream
  pub number_of_open : (s : StreamsView E) → s.is_open ≡ true → open_number s ≡ slice_get (numbers s.list) (newest_place s)
  number_of_open s on = cond-true s.is_open (slice_get (numbers s.list) (newest_place s)) None on

  -- a stream with a number is open
  on_of_number : (s : StreamsView E) (number : ℕ) → open_number s ≡ Some number → s.is_open ≡ true
  on_of_number s number is = go s.is_open refl is
    where
      go : (b : Bool) → s.is_open ≡ b → (if b then slice_get (numbers s.list) (newest_place s) else None) ≡ Some number → s.is_open ≡ true
      go true on is = on
      go false on is = absurd (cc)

-- The newest stream is open at this place before the turn. Its end knows of no bytes and hasn't found that the other end has shut.
-- What it sent is all that was written; what it got was read, but for less than a frame; and nothing is owed.
pub record Rests {E M : Type 0} (m : Means E) (old new : LineView E M) : Type 0 where
  pub place : ℕ
  pub number : ℕ
  pub before_it : E
  pub newest : old.channel.streams.opened ≡ suc place
  pub on : old.channel.streams.is_open ≡ true
  pub stood : slice_get old.channel.streams.list place ≡ Some (number, before_it)
  pub other : (m.stand before_it).other_shut ≡ false
  pub known : m.known before_it ≡ []
  pub stream : open_stream (line_past new) ≡ Some number
  pub sent : m.sent before_it ≡ written_bytes number (line_past new)
  pub got : m.got before_it ≡ read_bytes number (line_past new) ++ new.channel.conn.rest
  pub partial : IsPartial new.channel.conn.rest
  pub owes : OwesNothing number (line_past new)

module _ {E M : Type 0} (m : Means E) (tells : m.tells ≡ true) (old new : LineView E M) (rested : HasRested m old new) where
  abbrev kept : KeepsStreams m old
  kept = rested.kept

  abbrev keeps : KeepsStreams m new
  keeps = rested.keeps

  abbrev idle : IsIdleTurn m old new
  idle = rested.idle

  finds : FindsNothingOwed idle.middle new
  finds = go idle.sends
    where
      go : (FindsNothingOwed idle.middle new × LoadsOwn old new) ⊎ FindsNoRoom m idle.middle.channel new.channel → FindsNothingOwed idle.middle new
      go (inl nothing) = nothing.0
      go (inr full) = absurd (full.left rested.written)

  abbrev was : StreamsView E
  was = old.channel.streams

  abbrev is : StreamsView E
  is = new.channel.streams

  same_opened : is.opened ≡ was.opened
  same_opened =
      sym (opened_count is keeps.streams.within)
      ∙ ap length (keeps.carried.opened ∙ ap opens idle.past ∙ sym kept.carried.opened)
      ∙ opened_count was kept.streams.within

  abbrev answer : ChangesAt (Receives m got.Nothing []) (newest_place old.channel.streams) old.channel.streams.list idle.middle.channel.streams.list
  answer = idle.hears.answer

  stands : slice_get is.list (newest_place was) ≡ Some (answer.number, answer.end_after)
  stands =
      ap (λ (s : StreamsView E). slice_get s.list (newest_place was)) finds.streams
      ∙ ap (λ (l : List (ℕ × E)). slice_get l (newest_place was)) answer.stands
      ∙ at_set was.list (newest_place was) (answer.number, answer.end_after) (slice_get_within was.list (newest_place was) (answer.number, answer.end_before) answer.stood)

  stands_newest : slice_get is.list (newest_place is) ≡ Some (answer.number, answer.end_after)
  stands_newest = ap (λ (n : ℕ). slice_get is.list (n - 1)) same_opened ∙ stands

  is_number : open_number is ≡ Some answer.number
  is_number = number_of_open is idle.on ∙ number_there is.list (newest_place is) (answer.number, answer.end_after) stands_newest

  was_on : was.is_open ≡ true
  was_on = on_of_number was answer.number (kept.carried.current ∙ sym (ap open_stream idle.past) ∙ sym keeps.carried.current ∙ is_number)

  pub rests : Rests m old new
  rests =
      let way = answer.way in
      let on_it = (keeps.carried.on tells idle.on).at (answer.number, answer.end_after) stands_newest in
      let came = way.known tells in
      let none_known = way.nothing refl tells in
      record {
        place = newest_place was;
        number = answer.number;
        before_it = answer.end_before;
        newest = omega (arith, kept.streams.some was_on);
        on = was_on;
        stood = answer.stood;
        other = (way.goes (λ same. cc)).1;
        known = nil_of_front (m.known answer.end_before) came.0 (came.1 ∙ none_known);
        stream = sym keeps.carried.current ∙ is_number;
        sent =
            sym way.sent.0
            ∙ sym (append-nil (m.sent answer.end_after))
            ∙ sym (ap (λ (out : List ℕ). m.sent answer.end_after ++ out) rested.written)
            ∙ on_it.sends;
        got = sym (append-nil (m.got answer.end_before)) ∙ sym (way.got tells) ∙ on_it.gets ∙ ap (λ (bytes : List ℕ). read_bytes answer.number (line_past new) ++ bytes) arrived;
        partial = keeps.partial idle.none_waits;
        owes = owes_nothing answer.number (line_past new) new.own.map (finds.none_owed answer.number (sym keeps.carried.current ∙ is_number));
      }
    where
      nil_of_front : (xs ys : List ℕ) → xs ++ ys ≡ [] → xs ≡ []
      nil_of_front [] ys none = refl
      nil_of_front (x ∷ xs) ys none = absurd (cc)

      arrived : (waiting_bytes new.channel.conn.waiting ++ new.channel.conn.rest) ++ new.channel.piece ≡ new.channel.conn.rest
      arrived =
          (λ i. (waiting_bytes (idle.none_waits i) ++ new.channel.conn.rest) ++ idle.none_left i)
          ∙ append-nil new.channel.conn.rest
