-- What a line keeps, where only its channel changed, and its journal has no entry more.
use Rattle.std.proofs.Common.{◌≡◌, ℕ, Bool, List, refl, sym, ap, subst}
use Rattle.rds_model.specs.Owed.{last_map}
use Rattle.rds_model.specs.Past.{open_stream}
use Rattle.rds_conn.specs.Connection.{Connection, with_room}
use Rattle.rds_line_channel.specs.Channel.{ChannelView, CutsView}
use Rattle.rds_line.specs.Keeps.{KeepsLine, IsPulled}
use Rattle.rds_line.specs.Line.{LineView, line_past}
use Rattle.rds_line.proofs.Keeping.{keeps_still, pulled_still}

module _ {E M : Type 0} (published : M → List (List ℕ)) (pulled : Bool) (v : LineView E M) (new : ChannelView E) where
  -- all that a line keeps, where its channel is as it was
  pub keeps_alike : new ≡ v.channel → KeepsLine published v × IsPulled pulled v →
      KeepsLine published (record v { channel = new }) × IsPulled pulled (record v { channel = new })
  keeps_alike is was =
      subst (λ (c : ChannelView E). KeepsLine published (record v { channel = c }) × IsPulled pulled (record v { channel = c }))
      (sym is) was

  -- where its journal has no entry more
  pub keeps_log : new.conn.log.past ≡ line_past v → new.conn.peer ≡ v.channel.conn.peer → new.conn.slots ≡ v.channel.conn.slots →
      new.conn.freed ≡ v.channel.conn.freed → new.cuts ≡ v.channel.cuts → KeepsLine published v × IsPulled pulled v →
      KeepsLine published (record v { channel = new }) × IsPulled pulled (record v { channel = new })
  keeps_log past peer slots freed cuts was = (
    keeps_still published v new past peer slots freed (ap (λ (c : CutsView). c.numbers) cuts) was.0,
    pulled_still pulled v (record v { channel = new }) (ap open_stream past) (λ s. ap (last_map s) past) refl was.1,
  )

  -- where its streams moved bytes
  pub keeps_conn : new.conn ≡ v.channel.conn → new.cuts ≡ v.channel.cuts → KeepsLine published v × IsPulled pulled v →
      KeepsLine published (record v { channel = new }) × IsPulled pulled (record v { channel = new })
  keeps_conn conn =
      keeps_log (ap (λ (c : Connection). c.log.past) conn) (ap (λ (c : Connection). c.peer) conn)
      (ap (λ (c : Connection). c.slots) conn)
      (ap (λ (c : Connection). c.freed) conn)

  -- where room was made in its journal besides
  pub keeps_with_room : new.conn ≡ with_room v.channel.conn → new.cuts ≡ v.channel.cuts → KeepsLine published v × IsPulled pulled v →
      KeepsLine published (record v { channel = new }) × IsPulled pulled (record v { channel = new })
  keeps_with_room conn =
      keeps_log (ap (λ (c : Connection). c.log.past) conn) (ap (λ (c : Connection). c.peer) conn)
      (ap (λ (c : Connection). c.slots) conn)
      (ap (λ (c : Connection). c.freed) conn)
