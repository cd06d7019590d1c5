-- What a line owes after a turn that was idle or over.
use Rattle.std.proofs.Common.{◌≡◌, ◌⊎◌, inl, inr, ℕ, if◌then◌else◌, Bool, false, List, [], Option, None, Some, slice_get, sym, ap, ◌∙◌}
use Rattle.rds_link.specs.Ends.{Means}
use Rattle.rds_model.specs.declared.entry.Entry.{Entry}
use Rattle.rds_model.specs.Owed.{owed_frame}
use Rattle.rds_model.specs.Past.{open_stream}
use Rattle.rds_line_channel.specs.Streams.{StreamsView, newest_place, numbers, open_number}
use Rattle.rds_line.specs.Line.{LineView, line_past}
use Rattle.rds_line.specs.Turns.{FindsNoRoom, FindsNothingOwed, IsIdleTurn, LoadsOwn}
use Rattle.rds_run_rounds.specs.Causes.{OwesNothing}
use Rattle.rds_run_rounds.proofs.Resting.{owes_nothing}

-- where nothing is owed for some map, that map was pulled last, and nothing is owed for it
none_owed : (past : List Entry) (own : List ℕ) → ((s : ℕ) → open_stream past ≡ Some s → owed_frame s past own ≡ None) → OwesNothing past
none_owed past own none = λ s on. owes_nothing s past own (none s on)

-- nor is anything where no stream is open
pub none_open : (past : List Entry) → open_stream past ≡ None → OwesNothing past
none_open past none = λ s on. absurd (never (open_stream past) s none on)
  where
    never : (o : Option ℕ) (s : ℕ) → o ≡ None → o ≡ Some s → ⊥
    never o s none on = absurd (cc)

module _ {E : Type 0} where
  pub over_owes : (s : StreamsView E) (past : List Entry) → open_number s ≡ open_stream past → s.is_open ≡ false → OwesNothing past
  over_owes s past current closed =
      none_open past (sym current ∙ ap (λ (b : Bool). if b then slice_get (numbers s.list) (newest_place s) else None) closed)

  pub idle_owes : {M : Type 0} (m : Means E) (old new : LineView E M) → IsIdleTurn m old new → new.channel.out ≡ [] → OwesNothing (line_past new)
  idle_owes {M} m old new idle written = go idle.sends
    where
      go : (FindsNothingOwed idle.middle new × LoadsOwn old new) ⊎ FindsNoRoom m idle.middle.channel new.channel → OwesNothing (line_past new)
      go (inl nothing) = none_owed (line_past new) new.own.map nothing.0.none_owed
      go (inr full) = absurd (full.left written)
