-- How the streams stand to the journal, where the code knows each part by another term.
use Rattle.std.proofs.Common.{◌≡◌, ◌⊎◌, ◌↔◌, inl, inr, ℕ, Some, None, true, List, [], ◌∷◌, length, sym, ap, subst, ◌∙◌}
use Rattle.std.specs.Option.{IfSome, IsSome}
use Rattle.rds_link.specs.Ends.{Means}
use Rattle.rds_model.specs.declared.entry.Entry.{Entry}
use Rattle.rds_model.specs.declared.entry.Entry.TheVariants.{Shut}
use Rattle.rds_model.specs.Legal.{IsLegal, IsWhole}
use Rattle.rds_conn.specs.Connection.{Connection, stream_of, with_entries}
use Rattle.rds_line_channel.specs.Streams.{StreamsView, AreKept, numbers}
use Rattle.rds_line_channel.specs.Channel.{ChannelView}
use Rattle.rds_line_channel.specs.Carried.{IsCarriedBy}

-- two channels were given streams with the same numbers
pub same_numbers : {E : Type 0} {a b one other : ChannelView E} → one ≡ a → other ≡ b →
    numbers b.streams.list ≡ numbers a.streams.list → numbers other.streams.list ≡ numbers one.streams.list
same_numbers e f same = ap (λ v. numbers v.streams.list) f ∙ (same ∙ sym (ap (λ v. numbers v.streams.list) e))

-- what every channel's streams keep
pub kept_inside : {E : Type 0} (m : Means E) {v one : ChannelView E} → one ≡ v → AreKept m v.streams → AreKept m one.streams
kept_inside m e kept = subst (λ c. AreKept m c.streams) (sym e) kept

-- a channel's journal is legal
pub legal_inside : {E : Type 0} {v one : ChannelView E} → one ≡ v → IsWhole v.conn.log.past → IsLegal one.conn.log.past
legal_inside e whole = (subst (λ c. IsWhole c.conn.log.past) (sym e) whole).legal

-- a stream is open where one is in the journal
pub open_inside : {E : Type 0} {v one : ChannelView E} → one ≡ v → (v.streams.is_open ≡ true) ↔ IsSome (stream_of v.conn) →
    (one.streams.is_open ≡ true) ↔ IsSome (stream_of one.conn)
open_inside e both = subst (λ c. (c.streams.is_open ≡ true) ↔ IsSome (stream_of c.conn)) (sym e) both

-- where no stream is open, and one is or none is left, none is left
pub none_left : {E : Type 0} (s : StreamsView E) → (s.is_open ≡ true → ⊥) → (s.is_open ≡ true) ⊎ (s.opened ≡ length s.list) →
    s.opened ≡ length s.list
none_left s off (inl on) = absurd (off on)
none_left s off (inr last) = last

-- what a connection is once its open stream was shut
pub is_shut : (conn now : Connection) (number : ℕ) → stream_of conn ≡ Some number →
    IfSome (stream_of conn) (λ n. now ≡ record (with_entries (Shut n ∷ []) conn) { waiting = None; rest = [] }) →
    now ≡ record (with_entries (Shut number ∷ []) conn) { waiting = None; rest = [] }
is_shut conn now number on known =
    subst (λ o. IfSome o (λ n. now ≡ record (with_entries (Shut n ∷ []) conn) { waiting = None; rest = [] })) on known

module _ {E : Type 0} (m : Means E) where
  -- the tie between journal and streams, told of equal parts
  pub restated : {past past_now : List Entry} {arrived arrived_now out out_now cuts cuts_now : List ℕ} {s s_now : StreamsView E} →
      past_now ≡ past → arrived_now ≡ arrived → out_now ≡ out → s_now ≡ s → cuts_now ≡ cuts →
      IsCarriedBy m past arrived out s cuts → IsCarriedBy m past_now arrived_now out_now s_now cuts_now
  restated {past} {past_now} {arrived} {arrived_now} {out} {out_now} {cuts} {cuts_now} {s} {s_now} e f g h i carried =
      subst (λ p. IsCarriedBy m p arrived_now out_now s_now cuts_now) (sym e)
      (subst (λ a. IsCarriedBy m past a out_now s_now cuts_now) (sym f)
      (subst (λ o. IsCarriedBy m past arrived o s_now cuts_now) (sym g)
      (subst (λ v. IsCarriedBy m past arrived out v cuts_now) (sym h)
      (subst (λ c. IsCarriedBy m past arrived out s c) (sym i) carried))))
