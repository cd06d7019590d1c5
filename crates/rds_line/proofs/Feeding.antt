-- What a line keeps where bytes that came are taken.
use Rattle.std.proofs.Common.{◌≡◌, ℕ, Bool, true, false, List, [], ◌∷◌, Result, Ok, Err, refl, ap, ◌∙◌}
use Rattle.std.specs.Prelude.{OnErr}
use Rattle.rds_link.specs.Ends.{Means}
use Rattle.rds_wire.specs.declared.memory.Memory.{Memory}
use Rattle.rds_model.specs.declared.entry.Entry.TheVariants.{Bad}
use Rattle.rds_model.specs.Owed.{last_map}
use Rattle.rds_model.specs.Past.{open_stream}
use Rattle.rds_conn.specs.Connection.{Connection, with_room}
use Rattle.rds_line_channel.specs.Channel.{ChannelView, CutsView, with_conn}
use Rattle.rds_line_channel.specs.Changes.{EndsRefused, TakesBytes}
use Rattle.rds_line_channel.specs.declared.channel.Taken.{Taken}
use Rattle.rds_line_channel.specs.declared.channel.Taken.TheVariants as taken
use Rattle.rds_line.specs.Keeps.{KeepsLine, IsPulled}
use Rattle.rds_line.specs.Line.{LineView, line_past}
use Rattle.rds_line.proofs.Acting.{IsQuietPast, more_past, still_past}
use Rattle.rds_line.proofs.Keeping.{keeps_plain, keeps_still, pulled_off, pulled_still}

-- no frame was pulled, and no port asked, where bytes were taken
pub taken_past : {E : Type 0} (m : Means E) (came : Result Taken Memory) {old new : ChannelView E} → (came ≡ Ok taken.Frame → TakesBytes true old new) →
    (came ≡ Ok taken.Part → TakesBytes false old new × (new.piece ≡ [])) → (came ≡ Ok taken.Refused → EndsRefused m old new) →
    OnErr came (new ≡ old) → IsQuietPast old.conn.log.past new.conn.log.past
taken_past {E} m (Ok taken.Frame) frame part refused err = still_past (ap (λ (c : Connection). c.log.past) (frame refl).feeds.rest_same)
taken_past {E} m (Ok taken.Part) frame part refused err = still_past (ap (λ (c : Connection). c.log.past) (part refl).0.feeds.rest_same)
taken_past {E} m (Ok taken.Refused) frame part refused err =
    let r = (refused refl).refuses in
    more_past (Bad r.s r.header (refused refl).fault) tt (ap (λ (c : Connection). c.log.past) r.entry)
taken_past {E} m (Err why) frame part refused err = still_past (ap (λ (c : ChannelView E). c.conn.log.past) err)

module _ {E M : Type 0} (published : M → List (List ℕ)) (pulled : Bool) where
  -- all that a line keeps
  abbrev KeepsAll : LineView E M → Type 0
  KeepsAll v = KeepsLine published v × IsPulled pulled v

  -- the journal is as it was, and so is all else that the line keeps of its channel
  record IsUnread (old new : ChannelView E) : Type 0 where
    past : new.conn.log.past ≡ old.conn.log.past
    peer : new.conn.peer ≡ old.conn.peer
    slots : new.conn.slots ≡ old.conn.slots
    freed : new.conn.freed ≡ old.conn.freed
    cuts : new.cuts.numbers ≡ old.cuts.numbers

  keeps_unread : (v : LineView E M) (channel : ChannelView E) → IsUnread v.channel channel → KeepsAll v →
      KeepsAll (record v { channel = channel })
  keeps_unread v channel u was = (
    keeps_still published v channel u.past u.peer u.slots u.freed u.cuts was.0,
    pulled_still pulled v (record v { channel = channel }) (ap open_stream u.past) (λ s. ap (last_map s) u.past) refl was.1,
  )

  module _ (v : LineView E M) (ready new : ChannelView E)
      (is_ready : ready ≡ with_conn v.channel (with_room v.channel.conn)) where
    -- bytes were taken
    fed : (waits : Bool) → TakesBytes waits ready new → KeepsAll v → KeepsAll (record v { channel = new })
    fed waits took = keeps_unread v new (record {
      past = ap (λ (c : Connection). c.log.past) took.feeds.rest_same ∙ ap (λ (c : ChannelView E). c.conn.log.past) is_ready;
      peer = ap (λ (c : Connection). c.peer) took.feeds.rest_same ∙ ap (λ (c : ChannelView E). c.conn.peer) is_ready;
      slots = ap (λ (c : Connection). c.slots) took.feeds.rest_same ∙ ap (λ (c : ChannelView E). c.conn.slots) is_ready;
      freed = ap (λ (c : Connection). c.freed) took.feeds.rest_same ∙ ap (λ (c : ChannelView E). c.conn.freed) is_ready;
      cuts = ap (λ (c : ChannelView E). c.cuts.numbers) took.is ∙ ap (λ (c : ChannelView E). c.cuts.numbers) is_ready;
    })

    -- a header was refused
    refused : (m : Means E) → EndsRefused m ready new → KeepsAll v → KeepsAll (record v { channel = new })
    refused m ends was =
        let r = ends.refuses in
        let past : new.conn.log.past ≡ Bad r.s r.header ends.fault ∷ line_past v =
        ap (λ (c : Connection). c.log.past) r.entry
        ∙ ap (λ (c : ChannelView E). Bad r.s r.header ends.fault ∷ c.conn.log.past) is_ready in (
          keeps_plain published (Bad r.s r.header ends.fault) tt v new past
              (ap (λ (c : Connection). c.peer) r.entry ∙ ap (λ (c : ChannelView E). c.conn.peer) is_ready)
              (ap (λ (c : Connection). c.slots) r.entry ∙ ap (λ (c : ChannelView E). c.conn.slots) is_ready)
              (ap (λ (c : Connection). c.freed) r.entry ∙ ap (λ (c : ChannelView E). c.conn.freed) is_ready)
              (ap (λ (c : CutsView). c.numbers) ends.cuts ∙ ap (λ (c : ChannelView E). c.cuts.numbers) is_ready) was.0,
          pulled_off pulled (record v { channel = new }) (ap open_stream past),
        )

    -- whatever became of the bytes
    pub keeps_fed : (m : Means E) (came : Result Taken Memory) → (came ≡ Ok taken.Frame → TakesBytes true ready new) →
        (came ≡ Ok taken.Part → TakesBytes false ready new × (new.piece ≡ [])) →
        (came ≡ Ok taken.Refused → EndsRefused m ready new) →
        OnErr came (new ≡ ready) → KeepsAll v → KeepsAll (record v { channel = new })
    keeps_fed m (Ok taken.Frame) frame part over err = fed true (frame refl)
    keeps_fed m (Ok taken.Part) frame part over err = fed false (part refl).0
    keeps_fed m (Ok taken.Refused) frame part over err = refused m (over refl)
    keeps_fed m (Err why) frame part over err = keeps_unread v new (record {
      past = ap (λ (c : ChannelView E). c.conn.log.past) (err ∙ is_ready);
      peer = ap (λ (c : ChannelView E). c.conn.peer) (err ∙ is_ready);
      slots = ap (λ (c : ChannelView E). c.conn.slots) (err ∙ is_ready);
      freed = ap (λ (c : ChannelView E). c.conn.freed) (err ∙ is_ready);
      cuts = ap (λ (c : ChannelView E). c.cuts.numbers) (err ∙ is_ready);
    })
