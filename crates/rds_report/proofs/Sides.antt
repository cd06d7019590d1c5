-- The items of a kind and a pair among those of all journals and sockets.
use Rattle.std.proofs.Common.{◌≡◌, ℕ, Bool, true, false, ◌==◌, List, [], ◌∷◌, ◌++◌, refl, ap, ◌∙◌}
use Rattle.std.specs.Bool.{⊤}
use Rattle.std.specs.List.{flat_map}
use Rattle.std.proofs.lemmas.Bool.{eqb-true}
use Rattle.std.proofs.lemmas.List.{append-nil}
use Rattle.rds_model.specs.declared.entry.Entry.{Entry}
use Rattle.rds_report.specs.Item.{What, Item}
use Rattle.rds_text.specs.FinalState.{FinalSocket, FinalJournal, FinalHost, past_with, past_of, sockets_of}
use Rattle.rds_text.specs.Report.{Group}
use Rattle.rds_report.specs.Items.{sent_items, came_items, socket_items, is_lost, side_items, host_items, items}
use Rattle.rds_report.proofs.Selected.{other_to, other_from, none_sent, none_came, none_sockets, of_kind, chosen, chosen_append, chosen_spread}
use Rattle.rds_report.proofs.Chosen.{SidesOnce, EndsOnce, one_side, Own, one_end}

-- each host has at most one journal with a peer
abbrev pub AllSidesOnce : List FinalHost → Type 0
AllSidesOnce [] = ⊤
AllSidesOnce (e ∷ ends) = SidesOnce e.sides × AllSidesOnce ends

-- where the items of a kind and a pair are
module _ (kind : What → Bool) (g : Group) (all : List FinalHost) where
  abbrev at_side : ℕ → FinalJournal → List Item
  at_side addr s = chosen kind g (side_items all addr s)

  abbrev at_end : FinalHost → List Item
  at_end e = chosen kind g (host_items all e)

  end_parts : (e : FinalHost) → at_end e ≡ flat_map (at_side e.addr) e.sides ++ chosen kind g (flat_map (socket_items e.addr) e.sockets)
  end_parts e =
      chosen_append kind g (flat_map (side_items all e.addr) e.sides) (flat_map (socket_items e.addr) e.sockets)
      ∙ ap (λ (l : List Item). l ++ chosen kind g (flat_map (socket_items e.addr) e.sockets)) (chosen_spread kind g (side_items all e.addr) e.sides)

  side_parts : (addr : ℕ) (s : FinalJournal) →
      at_side addr s ≡ chosen kind g (sent_items addr s.peer (is_lost s.past (past_of s.peer addr all)) s.past) ++ chosen kind g (came_items s.peer addr s.past)
  side_parts addr s = chosen_append kind g (sent_items addr s.peer (is_lost s.past (past_of s.peer addr all)) s.past) (came_items s.peer addr s.past)

  no_sides : (addr : ℕ) → ((s : FinalJournal) → at_side addr s ≡ []) → (sides : List FinalJournal) → flat_map (at_side addr) sides ≡ []
  no_sides addr none [] = refl
  no_sides addr none (s ∷ sides) = ap (λ (l : List Item). l ++ flat_map (at_side addr) sides) (none s) ∙ no_sides addr none sides

  module _ (no_came : (from to : ℕ) (past : List Entry) → chosen kind g (came_items from to past) ≡ [])
      (no_sockets : (to : ℕ) (sockets : List FinalSocket) → chosen kind g (flat_map (socket_items to) sockets) ≡ []) where
    abbrev sent_at : List Entry → List Item
    sent_at past = chosen kind g (sent_items g.from g.to (is_lost past (past_of g.to g.from all)) past)

    only_sent : (addr : ℕ) (s : FinalJournal) → at_side addr s ≡ chosen kind g (sent_items addr s.peer (is_lost s.past (past_of s.peer addr all)) s.past)
    only_sent addr s =
        side_parts addr s ∙ ap (λ (l : List Item). chosen kind g (sent_items addr s.peer (is_lost s.past (past_of s.peer addr all)) s.past) ++ l) (no_came s.peer addr s.past)
        ∙ append-nil (chosen kind g (sent_items addr s.peer (is_lost s.past (past_of s.peer addr all)) s.past))

    only_sides : (e : FinalHost) → at_end e ≡ flat_map (at_side e.addr) e.sides
    only_sides e = end_parts e ∙ ap (λ (l : List Item). flat_map (at_side e.addr) e.sides ++ l) (no_sockets e.addr e.sockets) ∙ append-nil (flat_map (at_side e.addr) e.sides)

    sent_other : (e : FinalHost) → (e.addr == g.from) ≡ false → at_end e ≡ []
    sent_other e differs =
        only_sides e ∙ no_sides e.addr (λ s. only_sent e.addr s ∙ ap (of_kind kind)
        (none_sent g e.addr s.peer (λ dport sport what. other_from g s.peer dport e.addr sport what differs) (is_lost s.past (past_of s.peer e.addr all)) s.past)) e.sides

    sent_own : (e : FinalHost) → SidesOnce e.sides → (e.addr == g.from) ≡ true → at_end e ≡ sent_at (past_with g.to e.sides)
    sent_own e once is =
        let same : e.addr ≡ g.from = eqb-true e.addr g.from is in
        only_sides e ∙ one_side g.to (at_side e.addr) sent_at refl
        (λ s differs. only_sent e.addr s ∙ ap (of_kind kind)
        (none_sent g e.addr s.peer (λ dport sport what. other_to g s.peer dport e.addr sport what differs) (is_lost s.past (past_of s.peer e.addr all)) s.past))
        (λ s here. only_sent e.addr s
        ∙ ap (λ (a : ℕ). chosen kind g (sent_items a s.peer (is_lost s.past (past_of s.peer a all)) s.past)) same
        ∙ ap (λ (p : ℕ). chosen kind g (sent_items g.from p (is_lost s.past (past_of p g.from all)) s.past)) (eqb-true s.peer g.to here))
        e.sides once

    sent_owns : (ends : List FinalHost) → AllSidesOnce ends → Own g.from at_end sent_at (λ (e : FinalHost). past_with g.to e.sides) (past_of g.from g.to) refl (λ e ends. refl) ends
    sent_owns [] h = tt
    sent_owns (e ∷ ends) h = (sent_own e h.0, sent_owns ends h.1)

    pub all_sent : EndsOnce all → AllSidesOnce all → chosen kind g (items all) ≡ sent_at (past_of g.from g.to all)
    all_sent once sides =
        chosen_spread kind g (host_items all) all
        ∙ one_end g.from at_end sent_at (λ (e : FinalHost). past_with g.to e.sides) (past_of g.from g.to) refl (λ e ends. refl) sent_other all (sent_owns all sides) once

  module _ (no_sent : (from to : ℕ) (lost : ℕ → Bool) (past : List Entry) → chosen kind g (sent_items from to lost past) ≡ []) where
    only_came : (addr : ℕ) (s : FinalJournal) → at_side addr s ≡ chosen kind g (came_items s.peer addr s.past)
    only_came addr s =
        side_parts addr s ∙ ap (λ (l : List Item). l ++ chosen kind g (came_items s.peer addr s.past)) (no_sent addr s.peer (is_lost s.past (past_of s.peer addr all)) s.past)

    module _ (no_sockets : (to : ℕ) (sockets : List FinalSocket) → chosen kind g (flat_map (socket_items to) sockets) ≡ []) where
      abbrev came_at : List Entry → List Item
      came_at past = chosen kind g (came_items g.from g.to past)

      came_sides : (e : FinalHost) → at_end e ≡ flat_map (at_side e.addr) e.sides
      came_sides e = end_parts e ∙ ap (λ (l : List Item). flat_map (at_side e.addr) e.sides ++ l) (no_sockets e.addr e.sockets) ∙ append-nil (flat_map (at_side e.addr) e.sides)

      came_other : (e : FinalHost) → (e.addr == g.to) ≡ false → at_end e ≡ []
      came_other e differs =
          came_sides e ∙ no_sides e.addr (λ s. only_came e.addr s ∙ ap (of_kind kind)
          (none_came g s.peer e.addr (λ dport sport what. other_to g e.addr dport s.peer sport what differs) s.past)) e.sides

      came_own : (e : FinalHost) → SidesOnce e.sides → (e.addr == g.to) ≡ true → at_end e ≡ came_at (past_with g.from e.sides)
      came_own e once is =
          let same : e.addr ≡ g.to = eqb-true e.addr g.to is in
          came_sides e ∙ one_side g.from (at_side e.addr) came_at refl
          (λ s differs. only_came e.addr s ∙ ap (of_kind kind)
          (none_came g s.peer e.addr (λ dport sport what. other_from g e.addr dport s.peer sport what differs) s.past))
          (λ s here. only_came e.addr s
          ∙ ap (λ (a : ℕ). chosen kind g (came_items s.peer a s.past)) same
          ∙ ap (λ (p : ℕ). chosen kind g (came_items p g.to s.past)) (eqb-true s.peer g.from here))
          e.sides once

      came_owns : (ends : List FinalHost) → AllSidesOnce ends → Own g.to at_end came_at (λ (e : FinalHost). past_with g.from e.sides) (past_of g.to g.from) refl (λ e ends. refl) ends
      came_owns [] h = tt
      came_owns (e ∷ ends) h = (came_own e h.0, came_owns ends h.1)

      pub all_came : EndsOnce all → AllSidesOnce all → chosen kind g (items all) ≡ came_at (past_of g.to g.from all)
      all_came once sides =
          chosen_spread kind g (host_items all) all
          ∙ one_end g.to at_end came_at (λ (e : FinalHost). past_with g.from e.sides) (past_of g.to g.from) refl (λ e ends. refl) came_other all (came_owns all sides) once

    module _ (no_came : (from to : ℕ) (past : List Entry) → chosen kind g (came_items from to past) ≡ []) where
      abbrev kept_at : List FinalSocket → List Item
      kept_at sockets = chosen kind g (flat_map (socket_items g.to) sockets)

      only_sockets : (e : FinalHost) → at_end e ≡ chosen kind g (flat_map (socket_items e.addr) e.sockets)
      only_sockets e =
          end_parts e ∙ ap (λ (l : List Item). l ++ chosen kind g (flat_map (socket_items e.addr) e.sockets))
          (no_sides e.addr (λ s. only_came e.addr s ∙ no_came s.peer e.addr s.past) e.sides)

      kept_other : (e : FinalHost) → (e.addr == g.to) ≡ false → at_end e ≡ []
      kept_other e differs = only_sockets e ∙ ap (of_kind kind) (none_sockets g e.addr differs e.sockets)

      kept_owns : (ends : List FinalHost) → Own g.to at_end kept_at (λ (e : FinalHost). e.sockets) (sockets_of g.to) refl (λ e ends. refl) ends
      kept_owns [] = tt
      kept_owns (e ∷ ends) =
          ((λ is. only_sockets e ∙ ap (λ (a : ℕ). chosen kind g (flat_map (socket_items a) e.sockets)) (eqb-true e.addr g.to is)), kept_owns ends)

      pub all_kept : EndsOnce all → chosen kind g (items all) ≡ kept_at (sockets_of g.to all)
      all_kept once =
          chosen_spread kind g (host_items all) all
          ∙ one_end g.to at_end kept_at (λ (e : FinalHost). e.sockets) (sockets_of g.to) refl (λ e ends. refl) kept_other all (kept_owns all) once
