-- What a connection keeps where bytes are taken of the stream.
use Rattle.std.proofs.Common.{◌≡◌, ℕ, ◌+◌, ◌-◌, ◌<◌, ◌≤◌, Some, None, IfSome, IsSome, List, [], ◌∷◌, length, take, refl, sym, ◌∙◌, ap, subst, arith, length-append, length-take, rules}
use Rattle.rds_wire.specs.declared.header.Header.{Header}
use Rattle.rds_wire.specs.declared.kind.Malformed.{Malformed}
use Rattle.rds_wire.specs.Kinds.{cause}
use Rattle.rds_wire.specs.HeaderLaws.{length-header_bytes}
use Rattle.rds_frame.specs.declared.took.Took.{Took}
use Rattle.rds_frame.specs.Holding.{SplitterView as Frames, HoldsAtMostOneFrame, held_bytes, refusing}
use Rattle.rds_frame.specs.Splitting.{IsClear}
use Rattle.rds_frame.specs.Taking.{TakesPiece, RefusesPiece as FrameRefuses}
use Rattle.rds_model.specs.declared.entry.Entry.TheVariants.{Bad}
use Rattle.rds_model.specs.Log.{Log}
use Rattle.rds_model.specs.Past.{highest_pulled}
use Rattle.rds_model.specs.Legal.{IsLawfulBad}
use Rattle.rds_conn.specs.declared.conn.Conn.TheInside.{Inside}
use Rattle.rds_conn.specs.Connection.{Connection, with_entries}
use Rattle.rds_conn.specs.Feeding.{RefusesHeader}
use Rattle.rds_conn.specs.Invariant.{ConnectionInvariant, connection_view}
use Rattle.rds_conn.proofs.Reading.{clear_after}

pub keeps_fed : (c : Inside) (s : ℕ) (piece : List ℕ) (took : Took) (splitter : Frames) → ConnectionInvariant c → c.stream ≡ Some s →
    TakesPiece c.highest 0 c.splitter piece took splitter → HoldsAtMostOneFrame splitter → ConnectionInvariant (record c { splitter = splitter })
keeps_fed c s piece took splitter keeps on takes held = record {
  whole = keeps.whole;
  room = keeps.room;
  pong = keeps.pong;
  newest = keeps.newest;
  stream = keeps.stream;
  counted = keeps.counted;
  linked = keeps.linked;
  reading = record {
    held = held;
    clear = clear_after c.highest 0 c.splitter splitter (take took.used piece) takes.bytes takes.clear keeps.reading.clear;
    still_open = takes.still_open;
    idle = λ none. let never : Some s ≡ None = sym on ∙ none in cc;
  };
  stored = keeps.stored;
  freed = keeps.freed;
  charged = keeps.charged;
}

-- no header with a fault became whole
pub clear_fed : (c : Inside) (s : ℕ) (piece : List ℕ) (took : Took) (splitter : Frames) → ConnectionInvariant c → c.stream ≡ Some s →
    TakesPiece c.highest 0 c.splitter piece took splitter → HoldsAtMostOneFrame splitter → IsClear (highest_pulled c.journal.past) 0 (held_bytes splitter)
clear_fed c s piece took splitter keeps on takes held =
    subst (λ n. IsClear n 0 (held_bytes splitter)) keeps.counted.highest_is (keeps_fed c s piece took splitter keeps on takes held).reading.clear

-- a header that the splitter refused is a lawful end of the stream
pub lawful_refusal : (c : Inside) (s : ℕ) (piece : List ℕ) (fault : Malformed) (splitter : Frames) → ConnectionInvariant c → c.stream ≡ Some s →
    (refused : FrameRefuses c.highest 0 c.splitter piece fault splitter) → IsLawfulBad s c.journal.past refused.header fault
lawful_refusal c s piece fault splitter keeps on refused = record {
  on = sym keeps.stream ∙ on;
  header = refused.fits;
  malformed = sym (ap (λ n. cause refused.header n 0) keeps.counted.highest_is) ∙ refused.cause;
}

-- as much of a list as was taken was there
taken_within : (n : ℕ) (xs : List ℕ) (have : ℕ) → have + length (take n xs) ≡ 48 → n ≡ 48 - have → have < 48 → n ≤ length xs
taken_within n xs have whole rest short = let len = length-take n xs in omega (arith, len, whole, rest, short)

pub refused_bytes : (c : Inside) (s : ℕ) (piece : List ℕ) (fault : Malformed) (splitter : Frames) → ConnectionInvariant c → c.stream ≡ Some s →
    (refused : FrameRefuses c.highest 0 c.splitter piece fault splitter) →
    (new : Connection) → new ≡ record (with_entries (Bad s refused.header fault ∷ []) (connection_view c)) { waiting = None; rest = [] } →
    RefusesHeader piece fault (connection_view c) new
refused_bytes c s piece fault splitter keeps on refused new is =
    let have : ℕ = length (held_bytes c.splitter) in
    let whole : have + length (take (48 - have) piece) ≡ 48 =
    sym (length-append (held_bytes c.splitter) (take (48 - have) piece)) ∙ ap length (sym refused.bytes) ∙ length-header_bytes refused.header refused.fits in
    record {
      s = s;
      header = refused.header;
      used = 48 - have;
      on = sym keeps.stream ∙ on;
      fits = refused.fits;
      fault_is = sym (ap (λ n. cause refused.header n 0) keeps.counted.highest_is) ∙ refused.cause;
      within = taken_within (48 - have) piece have whole refl refused.short;
      bytes = refused.bytes;
      entry = is;
    }

-- the entry of the header that was refused
pub recorded : (splitter : Frames) (header : Header) (journal later : Log) (s : ℕ) (fault : Malformed) → splitter ≡ refusing header →
    IfSome splitter.refused (λ h. later ≡ record journal { past = Bad s h fault ∷ journal.past; spare = journal.spare - 1 }) →
    later ≡ record journal { past = Bad s header fault ∷ journal.past; spare = journal.spare - 1 }
recorded splitter header journal later s fault after entry =
    subst (λ (e : Frames). IfSome e.refused (λ h. later ≡ record journal { past = Bad s h fault ∷ journal.past; spare = journal.spare - 1 })) after entry

pub is_refused : (splitter : Frames) (header : Header) → splitter ≡ refusing header → IsSome splitter.refused
is_refused splitter header after = subst (λ (e : Frames). IsSome e.refused) (sym after) (search rules)
