-- What is kept of a socket and of a host.
use Rattle.std.proofs.Common.{◌≡◌, ◌<◌, ℕ, zero, suc, List, [], ◌∷◌, ◌++◌, Some, get_or, length, slice_get, take, refl, sym, ap, subst, ◌∙◌, arith}
use Rattle.std.proofs.lemmas.Option.{none-some, same_Some, slice_get_within, slice_get-get_or}
use Rattle.std.proofs.Math.Seq.{take-append_seam}
use Rattle.std.specs.List.{All}
use Rattle.rds_fmap.specs.Readers.{ReaderView, WriterView, HasSeen}
use Rattle.rds_socket_parts.specs.ChangeLaws.{stay_on}
use Rattle.rds_socket.specs.Holding.{Holding, Open}
use Rattle.rds_line.specs.Line.{LineView}
use Rattle.rds_host.specs.Keeping.{LinesKeep, SlotKeeps, SlotsKeep}
use Rattle.rds_host.specs.Passes.{AreAllPasses}
use Rattle.rds_host.specs.Telling.{slots_of}
use Rattle.rds_host.specs.Ties.{AreOfHost}
use Rattle.rds_example_hosts.specs.Hosts.{AreTied, SocketKeeps}

pub keeps_then : (a b c : Open ReaderView) → SocketKeeps a b → SocketKeeps b c → SocketKeeps a c
keeps_then a b c x y = record {
  slot = record {
    stays = record {
      slot = y.slot.stays.slot ∙ x.slot.stays.slot;
      table = y.slot.stays.table ∙ x.slot.stays.table;
      meter = y.slot.stays.meter ∙ x.slot.stays.meter;
      seats = y.slot.stays.seats ∙ x.slot.stays.seats;
      bell = y.slot.stays.bell ∙ x.slot.stays.bell;
      mail = y.slot.stays.mail ∙ x.slot.stays.mail;
      routes = stay_on (λ (r : ReaderView). r.pair) HasSeen a.own.routes b.own.routes c.own.routes x.slot.stays.routes y.slot.stays.routes;
    };
    joined = y.slot.joined ∙ x.slot.joined;
  };
  told = y.told ∙ x.told;
}

-- what stands in a list of one
at_alone : {X : Type 0} (h x : X) (place : ℕ) → slice_get (h ∷ []) place ≡ Some x → h ≡ x
at_alone h x zero is = same_Some h x is
at_alone h x (suc place) is = absurd (none-some x is)

-- the only slot of a host
pub alone_keeps : (h k : Holding ReaderView) → SlotKeeps h k → SlotsKeep (h ∷ []) (k ∷ [])
alone_keeps h k keeps = record {
  count = refl;
  each = λ slot x y one other.
      subst (λ (z : Holding ReaderView). SlotKeeps z y) (at_alone h x slot one) (subst (λ (z : Holding ReaderView). SlotKeeps h z) (at_alone k y slot other) keeps);
}

each_of : {X : Type 0} (P : X → Type 0) (xs : List X) → ((i : ℕ) (x : X) → slice_get xs i ≡ Some x → P x) → All P xs
each_of P xs each k d small = each k (get_or xs k d) (slice_get-get_or xs k d small)

module _ {E : Type 0} (slots : List (Holding ReaderView)) (lines : List (LineView E WriterView)) (passes : AreAllPasses slots lines) where
  -- each slot has a route to each line
  pub routes_of : All (λ (h : Holding ReaderView). length h.routes ≡ length lines) slots
  routes_of = each_of (λ (h : Holding ReaderView). length h.routes ≡ length lines) slots passes.lanes

  -- and each line the mailbox of each slot
  pub boxes_of : All (λ (h : Holding ReaderView). All (λ (line : LineView E WriterView). h.words.slot < length line.boxes) lines) slots
  boxes_of =
      each_of (λ (h : Holding ReaderView). All (λ (line : LineView E WriterView). h.words.slot < length line.boxes) lines) slots
      (λ slot h at.
      each_of (λ (line : LineView E WriterView). h.words.slot < length line.boxes) lines
      (λ place line there.
      let is = passes.places slot h at in
      let small = slice_get_within slots slot h at in
      let held = passes.held place line there in
      omega (arith, is, small, held)))

module _ {E : Type 0} where
  -- the same slots and lines
  pub moved : (slots now : List (Holding ReaderView)) (lines after : List (LineView E WriterView)) → now ≡ slots → after ≡ lines → AreTied slots lines → AreTied now after
  moved slots now lines after one other tied =
      subst (λ (l : List (LineView E WriterView)). AreTied now l) (sym other)
      (subst (λ (l : List (Holding ReaderView)). AreTied l lines) (sym one) tied)

  module _
      (host : (slots ended : List (Holding ReaderView)) (lines after : List (LineView E WriterView)) →
      AreOfHost slots lines → SlotsKeep slots ended → LinesKeep lines after → AreOfHost ended after)
      (passes : (slots ended : List (Holding ReaderView)) (lines after : List (LineView E WriterView)) →
      AreAllPasses slots lines → SlotsKeep slots ended → LinesKeep lines after → AreAllPasses ended after) where
    -- slots and lines that were kept
    pub tied_on : (slots ended : List (Holding ReaderView)) (lines after : List (LineView E WriterView)) → AreTied slots lines → SlotsKeep slots ended → LinesKeep lines after →
        AreTied ended after
    tied_on slots ended lines after tied one other = record {
      host = host slots ended lines after tied.host one other;
      passes = passes slots ended lines after tied.passes one other;
    }

-- where there is no socket
pub none_of : (sockets : List (Open ReaderView)) (closed : List (Holding ReaderView)) → length sockets ≡ 0 → slots_of sockets closed ≡ closed
none_of [] closed none = refl
none_of (socket ∷ rest) closed none = absurd (omega (arith, none))

-- a vector whose items were lent out and came back, as many as before
pub back : {T : Type 0} (new rest : List T) (n : ℕ) → n ≡ length new → take n (new ++ rest) ≡ new
back {T} new rest n len = ap (λ i. take i (new ++ rest)) len ∙ take-append_seam new rest
