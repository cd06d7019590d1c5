-- Both ends of a connection have a stream, or none has. Source: this project's own.
use Rattle.std.specs.Prelude.{◌≡◌, ℕ, None, List}
use Rattle.rds_model.specs.Past.{open_stream}
use Rattle.rds_history.specs.Events.{Event}
use Rattle.rds_history.specs.Journals.{journal}

-- where host h has no stream to k, k has none to h
abbrev pub EndsAgree : List Event → Type 0
EndsAgree past = (h k : ℕ) → open_stream (journal h k past) ≡ None → open_stream (journal k h past) ≡ None
