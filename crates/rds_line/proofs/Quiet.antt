-- A step is quiet where only the channel changed and no frame was pulled, and two are where each is.
use Rattle.std.proofs.Common.{◌≡◌, ℕ, ◌+◌, ◌<◌, length, refl, sym, subst, ◌∙◌}
use Rattle.rds_link.specs.Ends.{Means}
use Rattle.rds_line_channel.specs.Channel.{ChannelView}
use Rattle.rds_line.specs.Line.{IsFull, LineView, line_past}
use Rattle.rds_line.specs.Stays.{ChannelStays}
use Rattle.rds_line.specs.Steps.{StaysQuiet}
use Rattle.rds_line.proofs.Acting.{IsQuietPast}
use Rattle.rds_line.proofs.Looking.{LeavesOwn, leaves_of}
use Rattle.rds_line.proofs.Staying.{line_same, line_stays, line_through}

module _ {E M Name : Type 0} {m : Means E} {pair : M → Name} where
  pub quiet_same : (v : LineView E M) → StaysQuiet m pair v v
  quiet_same v = record { stays = line_same m pair v; orders = refl; own = refl; pulls = refl }

  pub quiet_through : {a b c : LineView E M} → StaysQuiet m pair a b → StaysQuiet m pair b c → StaysQuiet m pair a c
  quiet_through {a} {b} {c} first second = record {
    stays = line_through m pair a b c first.stays second.stays;
    orders = second.orders ∙ first.orders;
    own = second.own ∙ first.own;
    pulls = second.pulls ∙ first.pulls;
  }

  pub quiet_of : {a b c : LineView E M} → c ≡ b → StaysQuiet m pair a b → StaysQuiet m pair a c
  quiet_of {a} {b} {c} is q = subst (λ (v : LineView E M). StaysQuiet m pair a v) (sym is) q

  pub quiet_channel : (v : LineView E M) (channel : ChannelView E) → ChannelStays m v.channel channel →
      IsQuietPast (line_past v) channel.conn.log.past → StaysQuiet m pair v (record v { channel = channel })
  quiet_channel v channel stays past = record {
    stays = line_stays m pair v channel stays past.acts;
    orders = refl;
    own = refl;
    pulls = past.pulls;
  }

  -- the same where the fields of a line are known by its view
  pub quiet_inside : (inside shown : LineView E M) → inside ≡ shown → (channel : ChannelView E) →
      ChannelStays m inside.channel channel → IsQuietPast (line_past inside) channel.conn.log.past →
      StaysQuiet m pair shown (record inside { channel = channel })
  quiet_inside inside shown is channel stays past =
      subst (λ (v : LineView E M). StaysQuiet m pair v (record inside { channel = channel })) is
      (quiet_channel inside channel stays past)

  -- the host's own map stays so, too
  pub leaves_quiet : {old new : LineView E M} → StaysQuiet m pair old new → LeavesOwn old new
  leaves_quiet {old} {new} q = leaves_of m pair old new q.stays q.own q.pulls

-- the journal of a line is full where its channel, which is as before, found it so
pub full_of : {E M : Type 0} (v : LineView E M) (channel : ChannelView E) (entries : ℕ) → channel ≡ v.channel →
    (entries ≡ length (line_past v)) × (v.channel.conn.log.limit < length (line_past v) + 2) →
    IsFull entries (record v { channel = channel })
full_of {E} {M} v channel entries is full =
    subst (λ (c : ChannelView E). IsFull entries (record v { channel = c })) (sym is) (record { count = full.0; most = full.1 })
