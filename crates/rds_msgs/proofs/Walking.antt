-- A cancellation walks the list of its slot.
use Rattle.std.proofs.Common.{◌≡◌, ◌≤◌, ◌+◌, ◌*◌, min, ℕ, Bool, true, false, Option, Some, None, List, [], ◌∷◌, ◌++◌, length, arith, refl, sym, ap, ◌∙◌, subst, length-append, get_or}
use Rattle.std.proofs.lemmas.List.{append_assoc, map-append, length-map}
use Rattle.std.specs.List.{AllByRecursion}
use Rattle.std.specs.Option.{IfSome}
use Rattle.rds_model.specs.declared.entry.Msg.{Msg}
use Rattle.rds_model.specs.declared.entry.Target.{Target}
use Rattle.rds_model.specs.declared.entry.TheConstants.{NO_SLOT}
use Rattle.rds_model.specs.Alive.{aims_at}
use Rattle.rds_msgs_lists.specs.Lists.{Place, ListsView, AtEach, IsOn, IsDistinct, first_index, of_socket}
use Rattle.rds_msgs.specs.Messages.{after_cancel, bytes_of, covers_message, covered_messages, messages_from}
use Rattle.rds_msgs.specs.Kept.{IsKept, IsListed, HasSlot, count_before, mark_without, message_at, messages_at, no_message, seen}
use Rattle.rds_msgs.proofs.Places.{first_of_is, none_of, all_parts, distinct_off, first_of_on}
use Rattle.rds_msgs.proofs.Counts.{count_most, moves_by, Moves}
use Rattle.rds_msgs.proofs.Keeping.{kept_off}
use Rattle.rds_msgs.proofs.Withdrawing.{Stays, stays_first, stays_past, stays_off, stays_end, between_left, covers_own, length_from}

module _ (items : List Msg) (slots slot : ℕ) (target : Target) where
  -- The walk is at `next`: of the places those up to it are passed, and it took so many bytes.
  pub record Walks (old : ListsView) (first : Option ℕ) (begun : ℕ) (now : ListsView) (mark next : Option ℕ) (bytes steps : ℕ) : Type 0 where
    pub kept : IsKept now items mark slots
    pub same : now ≡ record old { places = now.places }
    pub done : List Place
    pub todo : List Place
    pub whole : now.places ≡ done ++ todo
    pub next_is : next ≡ first_index (of_socket (min slot slots) todo)
    pub on : IfSome next (IsOn now.places)
    pub stays : Stays slot target (messages_at items old.places) (count_before first old.places) (messages_at items done) (messages_at items todo) (count_before mark now.places) bytes
    pub fewer : length now.places ≤ length old.places
    pub fits : bytes + length now.places * 4294967295 ≤ length old.places * 4294967295
    pub counted : steps + length (of_socket (min slot slots) todo) ≡ begun + length (of_socket (min slot slots) old.places)

  pub walks_first : (old : ListsView) (first : Option ℕ) (begun : ℕ) (next : Option ℕ) → IsKept old items first slots
      → next ≡ first_index (of_socket (min slot slots) old.places) → IfSome next (IsOn old.places) → Walks old first begun old first next 0 begun
  walks_first old first begun next h e on =
      record {
        kept = h;
        same = refl;
        done = [];
        todo = old.places;
        whole = refl;
        next_is = e;
        on = on;
        stays = stays_first slot target (messages_at items old.places) (count_before first old.places);
        fewer = omega arith;
        fits = omega arith;
        counted = refl;
      }

  -- The walk is at an index, whose place stands between those that it has passed and the rest.
  pub record Stands (old : ListsView) (first : Option ℕ) (begun : ℕ) (now : ListsView) (mark : Option ℕ) (at bytes steps : ℕ) : Type 0 where
    pub before : List Place
    pub place : Place
    pub rest : List Place
    pub whole : now.places ≡ before ++ place ∷ rest
    pub its : place.index ≡ at
    pub owner : place.socket ≡ min slot slots
    pub listed : IsListed items slots place
    pub stays : Stays slot target (messages_at items old.places) (count_before first old.places) (messages_at items before) (message_at items place ∷ messages_at items rest) (count_before mark now.places) bytes
    pub counted : steps + 1 + length (of_socket (min slot slots) rest) ≡ begun + length (of_socket (min slot slots) old.places)

  -- What the walk leaves, takes and costs.
  pub record Ended (old : ListsView) (first : Option ℕ) (begun : ℕ) (now : ListsView) (mark : Option ℕ) (bytes steps : ℕ) : Type 0 where
    pub left : seen now items mark slots ≡ after_cancel slot target (seen old items first slots)
    pub taken : bytes ≡ bytes_of (covered_messages slot target (messages_at items old.places))
    pub cost : steps ≤ begun + length (messages_from slot (messages_at items old.places))

  module _ (most : slots ≤ NO_SLOT) (has : HasSlot slots slot) (old : ListsView) (first : Option ℕ) (begun : ℕ) (now : ListsView) (mark : Option ℕ) (bytes steps : ℕ) where
    pub stands : (at : ℕ) → Walks old first begun now mark (Some at) bytes steps → Stands old first begun now mark at bytes steps
    stands at w =
        let f = first_of_is (min slot slots) w.todo at w.next_is in
        let l = all_parts (IsListed items slots) w.done w.todo (subst (AllByRecursion (IsListed items slots)) w.whole w.kept.listed) in
        let m = all_parts (IsListed items slots) f.before (f.place ∷ f.rest) (subst (AllByRecursion (IsListed items slots)) f.whole l.1) in
        let e : messages_at items w.todo ≡ messages_at items f.before ++ message_at items f.place ∷ messages_at items f.rest =
        ap (messages_at items) f.whole ∙ map-append (message_at items) f.before (f.place ∷ f.rest) in
        let s = stays_past slot target (messages_at items old.places) (count_before first old.places) (messages_at items w.done) (messages_at items f.before) (message_at items f.place ∷ messages_at items f.rest) (count_before mark now.places) bytes
        (between_left items slots slot most has target f.before m.0 f.none)
        (subst (λ (xs : List Msg). Stays slot target (messages_at items old.places) (count_before first old.places) (messages_at items w.done) xs (count_before mark now.places) bytes) e w.stays) in
        let n = ap (λ (ps : List Place). length ps) f.own in
        let counted = w.counted in
        record {
          before = w.done ++ f.before;
          place = f.place;
          rest = f.rest;
          whole = w.whole ∙ (ap (λ (ps : List Place). w.done ++ ps) f.whole ∙ sym (append_assoc w.done f.before (f.place ∷ f.rest)));
          its = f.its;
          owner = f.owner;
          listed = m.1.0;
          stays = subst (λ (xs : List Msg). Stays slot target (messages_at items old.places) (count_before first old.places) xs (message_at items f.place ∷ messages_at items f.rest) (count_before mark now.places) bytes)
              (sym (map-append (message_at items) w.done f.before)) s;
          counted = omega arith;
        }

    -- what one message has is not too much
    pub fits_more : (at : ℕ) → IsKept old items first slots → Walks old first begun now mark (Some at) bytes steps → bytes + 4294967295 ≤ 18446744060824649730
    fits_more at h w =
        let s = stands at w in
        let n = ap (λ (ps : List Place). length ps) s.whole ∙ length-append s.before (s.place ∷ s.rest) in
        let fits = w.fits in
        let few = h.few in
        omega arith

    -- the walk leaves the message there
    pub walks_past : (at : ℕ) (next : Option ℕ) (m : Msg) → Walks old first begun now mark (Some at) bytes steps → m ≡ get_or items at no_message → (aims : Bool) → aims ≡ aims_at target m.dport → aims ≡ false
        → AtEach now.places at (λ before p rest. next ≡ first_index (of_socket p.socket rest)) → IfSome next (IsOn now.places)
        → Walks old first begun now mark next bytes (steps + 1)
    walks_past at next m w e aims decides no' after on =
        let s = stands at w in
        let i : message_at items s.place ≡ m = ap (λ (k : ℕ). get_or items k no_message) s.its ∙ sym e in
        let c : covers_message slot target (message_at items s.place) ≡ false =
        covers_own items slots slot most has target s.place s.listed s.owner ∙ (ap (λ (n : Msg). aims_at target n.dport) i ∙ (sym decides ∙ no')) in
        let t = stays_past slot target (messages_at items old.places) (count_before first old.places) (messages_at items s.before) (message_at items s.place ∷ []) (messages_at items s.rest) (count_before mark now.places) bytes (c, tt) s.stays in
        record {
          kept = w.kept;
          same = w.same;
          done = s.before ++ s.place ∷ [];
          todo = s.rest;
          whole = s.whole ∙ sym (append_assoc s.before (s.place ∷ []) s.rest);
          next_is = after s.before s.place s.rest s.whole s.its ∙ ap (λ (j : ℕ). first_index (of_socket j s.rest)) s.owner;
          on = on;
          stays = subst (λ (xs : List Msg). Stays slot target (messages_at items old.places) (count_before first old.places) xs (messages_at items s.rest) (count_before mark now.places) bytes)
              (sym (map-append (message_at items) s.before (s.place ∷ []))) t;
          fewer = w.fewer;
          fits = w.fits;
          counted = s.counted;
        }

    -- it takes the message there
    pub walks_off : (at : ℕ) (next : Option ℕ) (m : Msg) (then' : ListsView) (left : Option ℕ) → Walks old first begun now mark (Some at) bytes steps → m ≡ get_or items at no_message → (aims : Bool) → aims ≡ aims_at target m.dport → aims ≡ true → m.len ≤ 4294967295
        → AtEach now.places at (λ before p rest. next ≡ first_index (of_socket p.socket rest)) → IfSome next (IsOn now.places)
        → AtEach now.places at (λ before p rest. then' ≡ record now { places = before ++ rest })
        → AtEach now.places at (λ before p rest. left ≡ mark_without at (first_index rest) mark)
        → Walks old first begun then' left next (bytes + m.len) (steps + 1)
    walks_off at next m then' left w e aims decides yes' small after on removed moved =
        let s = stands at w in
        let i : message_at items s.place ≡ m = ap (λ (k : ℕ). get_or items k no_message) s.its ∙ sym e in
        let c : covers_message slot target (message_at items s.place) ≡ true =
        covers_own items slots slot most has target s.place s.listed s.owner ∙ (ap (λ (n : Msg). aims_at target n.dport) i ∙ (sym decides ∙ yes')) in
        let r = removed s.before s.place s.rest s.whole s.its in
        let p : then'.places ≡ s.before ++ s.rest = ap (λ (u : ListsView). u.places) r in
        let v : left ≡ mark_without s.place.index (first_index s.rest) mark =
        moved s.before s.place s.rest s.whole s.its ∙ ap (λ (k : ℕ). mark_without k (first_index s.rest) mark) (sym s.its) in
        let d : IsDistinct (s.before ++ s.place ∷ s.rest) = subst IsDistinct s.whole w.kept.distinct in
        let moves : Moves (length (messages_at items s.before)) (count_before mark now.places) (count_before left then'.places) =
        moves_by mark left now.places then'.places s.before s.place s.rest (length (messages_at items s.before)) d (distinct_off s.before s.place s.rest d) s.whole p v (length-map s.before (message_at items)) in
        let t = stays_off slot target (messages_at items old.places) (count_before first old.places) (messages_at items s.before) (message_at items s.place) (messages_at items s.rest) (count_before mark now.places) bytes (count_before left then'.places) c moves s.stays in
        let n = ap (λ (ps : List Place). length ps) s.whole ∙ length-append s.before (s.place ∷ s.rest) in
        let o = ap (λ (ps : List Place). length ps) p ∙ length-append s.before s.rest in
        let i' : next ≡ first_index (of_socket (min slot slots) s.rest) = after s.before s.place s.rest s.whole s.its ∙ ap (λ (j : ℕ). first_index (of_socket j s.rest)) s.owner in
        let fits = w.fits in
        let fewer = w.fewer in
        record {
          kept = rw (r, v) (kept_off now items mark slots s.before s.place s.rest w.kept s.whole);
          same = r ∙ (ap (λ (u : ListsView). record u { places = s.before ++ s.rest }) w.same ∙ ap (λ (ps : List Place). record old { places = ps }) (sym p));
          done = s.before;
          todo = s.rest;
          whole = p;
          next_is = i';
          on = subst (λ (o : Option ℕ). IfSome o (IsOn then'.places)) (sym i') (subst (λ (ps : List Place). IfSome (first_index (of_socket (min slot slots) s.rest)) (IsOn ps)) (sym p) (first_of_on (min slot slots) s.before s.rest));
          stays = subst (λ (n : Msg). Stays slot target (messages_at items old.places) (count_before first old.places) (messages_at items s.before) (messages_at items s.rest) (count_before left then'.places) (bytes + n.len)) i t;
          fewer = omega arith;
          fits = omega arith;
          counted = s.counted;
        }

    pub walks_end : IsKept old items first slots → Walks old first begun now mark None bytes steps → Ended old first begun now mark bytes steps
    walks_end h w =
        let none : of_socket (min slot slots) w.todo ≡ [] = none_of (of_socket (min slot slots) w.todo) w.next_is in
        let l = all_parts (IsListed items slots) w.done w.todo (subst (AllByRecursion (IsListed items slots)) w.whole w.kept.listed) in
        let a = between_left items slots slot most has target w.todo l.1 none in
        let whole : messages_at items now.places ≡ messages_at items w.done ++ messages_at items w.todo =
        ap (messages_at items) w.whole ∙ map-append (message_at items) w.done w.todo in
        let n = length-map now.places (message_at items) in
        let c = count_most mark now.places in
        let b : count_before mark now.places ≤ length (messages_at items w.done ++ messages_at items w.todo) = omega (arith, ap (λ (ms : List Msg). length ms) whole) in
        let e = stays_end slot target (messages_at items old.places) (count_before first old.places) (messages_at items w.done) (messages_at items w.todo) (count_before mark now.places) bytes a b w.stays in
        let f = length_from items slots slot most has old.places h.listed in
        let counted = w.counted in
        let z : length (of_socket (min slot slots) w.todo) ≡ 0 = ap (λ (ps : List Place). length ps) none in
        record {
          left = rw (whole ∙ e.left, e.pulled_left, ap (λ (u : ListsView). u.spare) w.same) refl;
          taken = e.taken;
          cost = omega arith;
        }
