-- What belongs together of a host of a run stays so.
use Rattle.std.proofs.Common.{◌≡◌, ℕ, zero, suc, List, [], ◌∷◌, length, map, Some, slice_get, refl, sym, ap, subst, ◌∙◌}
use Rattle.std.proofs.lemmas.Option.{same_Some}
use Rattle.rds_fmap.specs.Readers.{HasSeen, ReaderView, WriterView}
use Rattle.rds_model.specs.declared.order.Datagram.{Datagram}
use Rattle.rds_mail.specs.Passes.{Putter}
use Rattle.rds_socket_parts.specs.Lanes.{Lane, RoutesStay}
use Rattle.rds_socket.specs.Holding.{Holding}
use Rattle.rds_line.specs.Line.{LineView}
use Rattle.rds_line.specs.Stays.{AreSameBoxes}
use Rattle.rds_host.specs.Keeping.{LineKeeps, LinesKeep, SlotKeeps, SlotsKeep}
use Rattle.rds_host.specs.Passes.{AreAllPasses}
use Rattle.rds_host.specs.Ties.{AreOfHost}
use Rattle.rds_run_callers.specs.Places.{Bound, Ended, IsUsed, Place, PlacesKeep, Spare, Vacant, holding_of, spared, vacant_places}
use Rattle.rds_run_callers.specs.Ends.{AreEndsOf}
use Rattle.rds_run_settling.specs.Tied.{AreTied, LineHears, LinesHear, PlacesHear, SlotHears, holdings}

-- what stands at a place of a mapped list is made of what stands there
pub at_map : {A B : Type 0} (f : A → B) (xs : List A) (i : ℕ) (b : B) → slice_get (map f xs) i ≡ Some b → (a : A) × (slice_get xs i ≡ Some a) × (b ≡ f a)
at_map f [] i b at = absurd (cc)
at_map f (x ∷ xs) zero b at = (x, refl, sym (same_Some (f x) b at))
at_map f (x ∷ xs) (suc i) b at = at_map f xs i b at

pub length_map : {A B : Type 0} (f : A → B) (xs : List A) → length (map f xs) ≡ length xs
length_map f [] = refl
length_map f (x ∷ xs) = ap suc (length_map f xs)

map_same : {A B : Type 0} (f g : A → B) (h : A → A) → ((a : A) → g (h a) ≡ f a) → (xs : List A) → map g (map h xs) ≡ map f xs
map_same f g h same [] = refl
map_same f g h same (x ∷ xs) = (λ i. same x i ∷ map g (map h xs)) ∙ ap (λ (l : List _). f x ∷ l) (map_same f g h same xs)

-- a slot that is given up holds what it held
pub spared_holds : (p : Place) → holding_of (spared p) ≡ holding_of p
spared_holds (Vacant h) = refl
spared_holds (Bound o got) = refl
spared_holds (Ended port h got) = refl
spared_holds (Spare h) = refl

pub holdings_spared : (places : List Place) → holdings (map spared places) ≡ holdings places
holdings_spared [] = refl
holdings_spared (p ∷ places) = (λ i. spared_holds p i ∷ holdings (map spared places)) ∙ ap (λ (l : List (Holding ReaderView)). holding_of p ∷ l) (holdings_spared places)

pub holdings_vacant : (slots : List (Holding ReaderView)) → holdings (vacant_places slots) ≡ slots
holdings_vacant [] = refl
holdings_vacant (h ∷ slots) = ap (λ (l : List (Holding ReaderView)). h ∷ l) (holdings_vacant slots)

-- none is vacant then
spared_used : (p : Place) → IsUsed (spared p)
spared_used (Vacant h) = tt
spared_used (Bound o got) = tt
spared_used (Ended port h got) = tt
spared_used (Spare h) = tt

pub all_used : (places : List Place) (slot : ℕ) (p : Place) → slice_get (map spared places) slot ≡ Some p → IsUsed p
all_used places slot p at =
    let was = at_map spared places slot p at in
    subst IsUsed (sym was.2) (spared_used was.0)

-- a caller that obeyed keeps its slots
pub slots_of_places : (old new : List Place) → PlacesKeep old new → SlotsKeep (holdings old) (holdings new)
slots_of_places old new keeps = record {
  count = length_map holding_of new ∙ (keeps.count ∙ sym (length_map holding_of old));
  each = λ slot h after stood stands.
      let p = at_map holding_of old slot h stood in
      let q = at_map holding_of new slot after stands in
      let kept = keeps.each slot p.0 q.0 p.1 q.1 in
      subst (λ (x : Holding ReaderView). SlotKeeps x after) (sym p.2)
      (subst (λ (x : Holding ReaderView). SlotKeeps (holding_of p.0) x) (sym q.2) (record { stays = kept.stays; joined = kept.joined }));
}

routes_same : (routes : List (Lane ReaderView)) → RoutesStay (λ (r : ReaderView). r.pair) HasSeen routes routes
routes_same routes = record { fixed_parts = refl; seen = λ place port seen is. is }

pub slots_same : (slots : List (Holding ReaderView)) → SlotsKeep slots slots
slots_same slots = record {
  count = refl;
  each = λ slot h after stood stands.
      subst (SlotKeeps h) (same_Some h after (sym stood ∙ stands)) (record {
        stays = record { slot = refl; table = refl; meter = refl; seats = refl; bell = refl; mail = refl; routes = routes_same h.routes };
        joined = refl;
      });
}

-- so does one whose mailboxes were told
slot_of_hearing : (h after : Holding ReaderView) → SlotHears h after → SlotKeeps h after
slot_of_hearing h after hears =
    subst (SlotKeeps h) (sym hears) (record {
      stays = record { slot = refl; table = refl; meter = refl; seats = refl; bell = refl; mail = refl; routes = routes_same h.routes };
      joined = refl;
    })

pub slots_of_hearing : (old new : List Place) → PlacesHear old new → SlotsKeep (holdings old) (holdings new)
slots_of_hearing old new hear = record {
  count = length_map holding_of new ∙ (hear.count ∙ sym (length_map holding_of old));
  each = λ slot h after stood stands.
      let p = at_map holding_of old slot h stood in
      let q = at_map holding_of new slot after stands in
      let heard = hear.each slot p.0 q.0 p.1 q.1 in
      subst (λ (x : Holding ReaderView). SlotKeeps x after) (sym p.2)
      (subst (λ (x : Holding ReaderView). SlotKeeps (holding_of p.0) x) (sym q.2) (slot_of_hearing (holding_of p.0) (holding_of q.0) heard.1));
}

-- and one whose slots have ended
pub slots_of_ends : (places : List Place) (closed : List (Holding ReaderView)) → AreEndsOf places closed → SlotsKeep (holdings places) closed
slots_of_ends places closed ends = record {
  count = ends.count ∙ sym (length_map holding_of places);
  each = λ slot h after stood stands.
      let p = at_map holding_of places slot h stood in
      let ended = ends.each slot p.0 after p.1 stands in
      subst (λ (x : Holding ReaderView). SlotKeeps x after) (sym p.2) (record { stays = ended.keeps.stays; joined = ended.keeps.joined });
}

pub boxes_same : (boxes : List (Putter Datagram)) → AreSameBoxes boxes boxes
boxes_same boxes = record {
  count = refl;
  each = λ slot box after stood stands.
      let is : box ≡ after = same_Some box after (sym stood ∙ stands) in
      (ap (λ (b : Putter Datagram). b.mail) (sym is), ap (λ (b : Putter Datagram). b.number) (sym is), ap (λ (b : Putter Datagram). b.splits) (sym is));
}

module _ {E : Type 0} where
  pub line_keeps_same : (line : LineView E WriterView) → LineKeeps line line
  line_keeps_same line = record { peer = refl; mail = refl; joined = refl; boxes = boxes_same line.boxes; ports = refl; words = refl; seats = refl; pair = refl }

  -- a line that was told of orders is kept
  line_of_hearing : (line after : LineView E WriterView) → LineHears line after → LineKeeps line after
  line_of_hearing line after hears =
      subst (LineKeeps line) (sym hears) (record { peer = refl; mail = refl; joined = refl; boxes = boxes_same line.boxes; ports = refl; words = refl; seats = refl; pair = refl })

  pub lines_of_hearing : (old new : List (LineView E WriterView)) → LinesHear old new → LinesKeep old new
  lines_of_hearing old new hear = record {
    count = hear.count;
    each = λ place line after stood stands. line_of_hearing line after (hear.each place line after stood stands);
  }

  pub lines_same : (lines : List (LineView E WriterView)) → LinesKeep lines lines
  lines_same lines = record {
    count = refl;
    each = λ place line after stood stands. subst (LineKeeps line) (same_Some line after (sym stood ∙ stands)) (line_keeps_same line);
  }

  -- what was made belongs together
  pub tied_made : (slots : List (Holding ReaderView)) (lines : List (LineView E WriterView)) → AreOfHost slots lines → AreAllPasses slots lines →
      AreTied (vacant_places slots) lines
  tied_made slots lines host passes = record {
    host = subst (λ (l : List (Holding ReaderView)). AreOfHost l lines) (sym (holdings_vacant slots)) host;
    passes = subst (λ (l : List (Holding ReaderView)). AreAllPasses l lines) (sym (holdings_vacant slots)) passes;
  }

  module _ (host_law : (slots ended : List (Holding ReaderView)) (lines after : List (LineView E WriterView)) →
      AreOfHost slots lines → SlotsKeep slots ended → LinesKeep lines after → AreOfHost ended after)
      (passes_law : (slots ended : List (Holding ReaderView)) (lines after : List (LineView E WriterView)) →
      AreAllPasses slots lines → SlotsKeep slots ended → LinesKeep lines after → AreAllPasses ended after) where
    -- slots and lines that are kept still belong together
    pub tied_keeps : (places new : List Place) (lines after : List (LineView E WriterView)) → AreTied places lines → SlotsKeep (holdings places) (holdings new) →
        LinesKeep lines after → AreTied new after
    tied_keeps places new lines after tied slots kept = record {
      host = host_law (holdings places) (holdings new) lines after tied.host slots kept;
      passes = passes_law (holdings places) (holdings new) lines after tied.passes slots kept;
    }

    -- so do those whose slots no socket had are given up, and whose lines were told of orders
    pub tied_spared : (places : List Place) (lines after : List (LineView E WriterView)) → AreTied places lines → LinesHear lines after →
        AreTied (map spared places) after
    tied_spared places lines after tied hear =
        let kept = lines_of_hearing lines after hear in
        let same = slots_same (holdings places) in record {
          host = subst (λ (l : List (Holding ReaderView)). AreOfHost l after) (sym (holdings_spared places))
              (host_law (holdings places) (holdings places) lines after tied.host same kept);
          passes = subst (λ (l : List (Holding ReaderView)). AreAllPasses l after) (sym (holdings_spared places))
              (passes_law (holdings places) (holdings places) lines after tied.passes same kept);
        }
