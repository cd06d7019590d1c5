-- What the slots' seats at a host's port table know once they have heard of what the lines' seats looked up.
use Rattle.std.proofs.Common.{◌≡◌, ℕ, ◌<◌, List, [], ◌∷◌, ◌++◌, All, Some, None, false, length, map, get_or, nat_eq, slice_get, option_map, refl, sym, ap, subst, ⊎_elim, ◌∙◌, arith}
use Rattle.std.specs.Prelude.{Contains, Option, unwrap_or}
use Rattle.std.proofs.lemmas.Bool.{eqb-false}
use Rattle.std.proofs.lemmas.List.Elements.{All-nil, All-pop, All-push, All-weaker, Contains-append_cases, Contains-append_left, Contains-append_right}
use Rattle.std.proofs.lemmas.Option.{slice_get-get_or, slice_get-map}
use Rattle.rds_bindtab.specs.LookLaws.{finds, found_claimed}
use Rattle.rds_bindtab.specs.Seats.{PortSeat, joined, knowing, note_of_steps, telling_of}
use Rattle.rds_bindtab.specs.Shared.{Taught}
use Rattle.rds_bindtab.specs.declared.view.View.{View}
use Rattle.rds_bindtab.specs.declared.view.Step.{Step}
use Rattle.rds_bindtab.specs.declared.view.Step.TheVariants.{Claimed, Looked}
use Rattle.rds_fmap.specs.Readers.{ReaderView, WriterView}
use Rattle.rds_socket.specs.Holding.{Holding, IsEnded}
use Rattle.rds_line.specs.Keeps.{KeepsLine}
use Rattle.rds_line.specs.Line.{LineView}
use Rattle.rds_host.specs.Passes.{AreAllPasses}
use Rattle.rds_host.specs.Ties.{AreOfHost}
use Rattle.rds_host_end.proofs.Places.{all_at, mapped_at, there_is}
use Rattle.rds_host_end.specs.Heard.{AreAmong, ClaimsNothing, FitsLooks, HasBeenFound, HasClaimedAll, HasHeard}
use Rattle.rds_host_end.specs.Owned.{AreFound, AreOwned}

-- a seat that heard of looks which claimed nothing has claimed the ports at which they found its slot
claimed_own : (slots : ℕ) (v w : View) → Taught slots (joined v (note_of_steps w)) → ClaimsNothing w.steps → HasClaimedAll w.steps v
claimed_own slots v w rule none port slot told mine looked =
    ⊎_elim
    (λ (own : Contains v.steps (Claimed port slot 0)). own)
    (λ (other : Contains w.steps (Claimed port slot 0)). absurd (none port slot 0 other))
    (Contains-append_cases v.steps w.steps (Claimed port slot 0)
    (found_claimed slots (joined v (note_of_steps w)) port slot told rule mine (Contains-append_right v.steps w.steps (Looked port (Some slot) told) looked)))

-- and those of whom a look had been told found it, where it has released nothing since
found_own : (slots : ℕ) (v w : View) → Taught slots (joined v (note_of_steps w)) → HasBeenFound w.steps v
found_own slots v w rule port found told telling mine at_port as_often looked tells =
    finds slots (joined v (note_of_steps w)) port found told telling rule mine at_port as_often
    (Contains-append_right v.steps w.steps (Looked port found told) looked) tells

pub fits_own : (slots : ℕ) (v w : View) → Taught slots (joined v (note_of_steps w)) → ClaimsNothing w.steps → FitsLooks w.steps v
fits_own slots v w rule none = record { claimed = claimed_own slots v w rule none; found = found_own slots v w rule }

-- so it is of fewer looks
fits_fewer : (steps more : List Step) (v : View) → AreAmong steps more → FitsLooks more v → FitsLooks steps v
fits_fewer steps more v each fits = record {
  claimed = λ port number told mine looked. fits.claimed port number told mine (each (Looked port (Some number) told) looked);
  found = λ port found told telling mine at_port as_often looked tells.
      fits.found port found told telling mine at_port as_often (each (Looked port found told) looked) tells;
}

-- the seat of a slot after it heard and made a load
pub view_after : (slot seat seen note heard last : PortSeat) → seat ≡ slot → note ≡ knowing seen (note_of_steps seen.view) → heard ≡ knowing seat (joined seat.view note.view) → last ≡ heard
    → last.view ≡ joined slot.view (note_of_steps seen.view)
view_after slot seat seen note heard last own told is same =
    ap (λ (s : PortSeat). s.view) (same ∙ is)
    ∙ (ap (λ (s : PortSeat). joined s.view note.view) own ∙ ap (λ (n : PortSeat). joined slot.view n.view) told)

claims_neither : (xs ys : List Step) → ClaimsNothing xs → ClaimsNothing ys → ClaimsNothing (xs ++ ys)
claims_neither xs ys one other port slot found has =
    ⊎_elim
    (λ (there : Contains xs (Claimed port slot found)). one port slot found there)
    (λ (there : Contains ys (Claimed port slot found)). other port slot found there)
    (Contains-append_cases xs ys (Claimed port slot found) has)

pub none_heard : (seat : PortSeat) → ClaimsNothing seat.view.steps → HasHeard seat [] seat
none_heard seat none = record {
  table = refl;
  own = λ step has. has;
  all = All-nil (λ (l : PortSeat). AreAmong l.view.steps seat.view.steps);
  claims = none;
}

pub one_more_heard : (old now new : PortSeat) (lines : List PortSeat) (line : PortSeat) → new ≡ knowing now (joined now.view (note_of_steps line.view)) → ClaimsNothing line.view.steps
    → HasHeard old lines now → HasHeard old (lines ++ line ∷ []) new
one_more_heard old now new lines line is none heard =
    let before = now.view.steps in
    let more = line.view.steps in
    subst (λ (x : PortSeat). HasHeard old (lines ++ line ∷ []) x) (sym is)
    (record {
      table = heard.table;
      own = λ step has. Contains-append_left before more step (heard.own step has);
      all = All-push (λ (l : PortSeat). AreAmong l.view.steps (before ++ more)) lines line
          (All-weaker (λ (l : PortSeat). AreAmong l.view.steps before) (λ (l : PortSeat). AreAmong l.view.steps (before ++ more))
          (λ l among step has. Contains-append_left before more step (among step has)) lines heard.all)
          (λ step has. Contains-append_right before more step has);
      claims = claims_neither before more heard.claims none;
    })

-- what holds of each value of a list holds of the one at a place
pub at_turn : {X : Type 0} (P : X → Type 0) (xs : List X) (n : ℕ) (x : X) → n < length xs → x ≡ get_or xs n x → All P xs → P x
at_turn P xs n x small is all = subst P (sym is) (all n x small)

-- the seats of some slots and lines, the last line's apart
module _ (slots lines front : List PortSeat) (last : PortSeat) (is : lines ≡ front ++ last ∷ []) where
  pub all_of_both : (P : PortSeat → Type 0) → All P lines → All P front × P last
  all_of_both P all = All-pop P lines front (Some last) is all

  module _ (tables : All (λ (slot : PortSeat). All (λ (line : PortSeat). slot.table ≡ line.table) lines) slots) where
    pub tables_of_slots : All (λ (slot : PortSeat). slot.table ≡ last.table) slots
    tables_of_slots =
        All-weaker (λ (slot : PortSeat). All (λ (line : PortSeat). slot.table ≡ line.table) lines) (λ (slot : PortSeat). slot.table ≡ last.table)
        (λ slot each. (all_of_both (λ (line : PortSeat). slot.table ≡ line.table) each).1) slots tables

    pub tables_of_lines : 0 < length slots → All (λ (line : PortSeat). last.table ≡ line.table) front
    tables_of_lines some =
        let slot = get_or slots 0 last in
        let both = all_of_both (λ (line : PortSeat). slot.table ≡ line.table) (tables 0 last some) in
        All-weaker (λ (line : PortSeat). slot.table ≡ line.table) (λ (line : PortSeat). last.table ≡ line.table) (λ line same. sym both.1 ∙ same) front both.0

  pub all_claimed : (seen : PortSeat) → HasHeard last front seen → All (λ (slot : PortSeat). FitsLooks seen.view.steps slot.view) slots
      → All (λ (slot : PortSeat). All (λ (line : PortSeat). FitsLooks line.view.steps slot.view) lines) slots
  all_claimed seen heard claimed =
      let among : All (λ (line : PortSeat). AreAmong line.view.steps seen.view.steps) lines =
      subst (λ (l : List PortSeat). All (λ (line : PortSeat). AreAmong line.view.steps seen.view.steps) l) (sym is)
      (All-push (λ (line : PortSeat). AreAmong line.view.steps seen.view.steps) front last heard.all heard.own) in
      All-weaker (λ (slot : PortSeat). FitsLooks seen.view.steps slot.view) (λ (slot : PortSeat). All (λ (line : PortSeat). FitsLooks line.view.steps slot.view) lines)
      (λ slot own.
      All-weaker (λ (line : PortSeat). AreAmong line.view.steps seen.view.steps) (λ (line : PortSeat). FitsLooks line.view.steps slot.view)
      (λ line each. fits_fewer line.view.steps seen.view.steps slot.view each own) lines among)
      slots claimed

pub some_there : {X : Type 0} (xs : List X) (len : ℕ) → len ≡ length xs → nat_eq len 0 ≡ false → 0 < length xs
some_there [] len is some = absurd (eqb-false len 0 some is)
some_there (x ∷ xs) len is some = omega arith

-- the same seats
pub same_seats : (P : PortSeat → PortSeat → Type 0) (slots others lines rest : List PortSeat) → slots ≡ others → lines ≡ rest → All (λ (slot : PortSeat). All (P slot) lines) slots
    → All (λ (slot : PortSeat). All (P slot) rest) others
same_seats P slots others lines rest one two all =
    subst (λ (l : List PortSeat). All (λ (slot : PortSeat). All (P slot) rest) l) one
    (subst (λ (l : List PortSeat). All (λ (slot : PortSeat). All (P slot) l) slots) two all)

pub each_of : {X : Type 0} (P : X → Type 0) (xs : List X) → ((i : ℕ) (x : X) → slice_get xs i ≡ Some x → P x) → All P xs
each_of P xs each k d small = each k (get_or xs k d) (slice_get-get_or xs k d small)

abbrev pub slot_seat : Holding ReaderView → PortSeat
slot_seat h = h.ports

module _ {E : Type 0} (slots : List (Holding ReaderView)) (lines : List (LineView E WriterView)) where
  abbrev pub line_seat : LineView E WriterView → PortSeat
  line_seat line = line.ports

  pub at_one_table : AreOfHost slots lines → All (λ (slot : PortSeat). All (λ (line : PortSeat). slot.table ≡ line.table) (map line_seat lines)) (map slot_seat slots)
  at_one_table host =
      each_of (λ (slot : PortSeat). All (λ (line : PortSeat). slot.table ≡ line.table) (map line_seat lines)) (map slot_seat slots) (λ i slot at.
      let h = mapped_at slot_seat slots slot i at in
      each_of (λ (line : PortSeat). slot.table ≡ line.table) (map line_seat lines) (λ k line at'.
      let l = mapped_at line_seat lines line k at' in
      ap (λ (s : PortSeat). s.table) (sym h.2) ∙ (host.ports i k h.0 l.0 h.1 l.1 ∙ ap (λ (s : PortSeat). s.table) l.2)))

  pub lines_claim_nothing : All (KeepsLine (λ w. w.published)) lines → All (λ (line : PortSeat). ClaimsNothing line.view.steps) (map line_seat lines)
  lines_claim_nothing kept =
      each_of (λ (line : PortSeat). ClaimsNothing line.view.steps) (map line_seat lines) (λ k line at.
      let l = mapped_at line_seat lines line k at in
      let keeps = all_at (KeepsLine (λ w. w.published)) lines l.0 k kept l.1 in
      subst (λ (s : PortSeat). ClaimsNothing s.view.steps) l.2 keeps.ported.claims)

  -- what the seats of the slots show of the looks of the lines
  abbrev pub AllFit : Type 0
  AllFit = All (λ (slot : PortSeat). All (λ (line : PortSeat). FitsLooks line.view.steps slot.view) (map line_seat lines)) (map slot_seat slots)

  -- that of one slot shows it of one line
  fits_at : AllFit → (slot place : ℕ) (h : Holding ReaderView) (line : LineView E WriterView) → slice_get slots slot ≡ Some h → slice_get lines place ≡ Some line →
      FitsLooks line.ports.view.steps h.ports.view
  fits_at all slot place h line at at_line =
      let of_slot = all_at (λ (s : PortSeat). All (λ (l : PortSeat). FitsLooks l.view.steps s.view) (map line_seat lines)) (map slot_seat slots) h.ports slot all
      (slice_get-map slot_seat slots slot ∙ ap (option_map slot_seat) at) in
      all_at (λ (l : PortSeat). FitsLooks l.view.steps h.ports.view) (map line_seat lines) line.ports place of_slot
      (slice_get-map line_seat lines place ∙ ap (option_map line_seat) at_line)

  -- each slot's seat is that of its place
  seat_slot : AreAllPasses slots lines → All IsEnded slots → (slot : ℕ) (h : Holding ReaderView) → slice_get slots slot ≡ Some h → h.ports.view.slot ≡ Some slot
  seat_slot all ended slot h at = (all_at IsEnded slots h slot ended at).held.slot ∙ ap Some (all.places slot h at)

  -- each delivery was looked up, and its slot has claimed what was found
  pub owned : AreAllPasses slots lines → All IsEnded slots → All (KeepsLine (λ w. w.published)) lines → AllFit → AreOwned slots lines
  owned all ended kept fits place line at_line stream slot f delivered =
      let keeps = all_at (KeepsLine (λ w. w.published)) lines line place kept at_line in
      let looked = keeps.ported.slots stream slot f delivered in
      let below = keeps.ported.below stream slot f delivered in
      let boxes = keeps.boxes in
      let held = all.held place line at_line in
      let h = there_is slots slot (omega (arith, below, boxes, held)) in (
        h.0,
        h.1,
        (fits_at fits slot place h.0 line h.1 at_line).claimed f.header.dport slot looked.0 (seat_slot all ended slot h.0 h.1) looked.1,
      )

  -- and no look that found nobody was at a port of which the line had always been told, where it is held still
  pub found : AreAllPasses slots lines → All IsEnded slots → All (KeepsLine (λ w. w.published)) lines → AllFit → AreFound slots lines
  found all ended kept fits place slot line h at_line at always stream f missed to =
      let keeps = all_at (KeepsLine (λ w. w.published)) lines line place kept at_line in
      let looked = keeps.ported.none stream f missed in
      let mine = seat_slot all ended slot h at in
      nobody
      ((fits_at fits slot place h line at at_line).found f.header.dport None looked.0 (telling_of h.ports.view)
      (mine ∙ sym (ap (λ (o : Option ℕ). Some (unwrap_or o 0)) mine)) (sym to) refl looked.1 (always.first f.header.dport None looked.0 looked.1))
    where
      nobody : {n : ℕ} → None ≡ Some n → ⊥
      nobody e = absurd (cc)
