-- Which part of a list of journals or of hosts is chosen, where no two of them are alike.
use Rattle.std.proofs.Common.{◌≡◌, ◌≢◌, ◌<◌, ℕ, suc, Bool, true, false, ◌==◌, if◌then◌else◌, List, [], ◌∷◌, ◌++◌, length, get_or, arith, refl, sym, ap, ◌∙◌, subst}
use Rattle.std.specs.Bool.{⊤}
use Rattle.std.specs.List.{flat_map, AllPairs}
use Rattle.std.proofs.lemmas.Bool.{ne_eqb, eqb-true}
use Rattle.std.proofs.lemmas.List.{append-nil}
use Rattle.rds_model.specs.declared.entry.Entry.{Entry}
use Rattle.rds_text.specs.FinalState.{FinalJournal, FinalHost, past_with}

-- lists of which each differs from those after it

abbrev pub SidesDiffer : ℕ → List FinalJournal → Type 0
SidesDiffer peer [] = ⊤
SidesDiffer peer (s ∷ sides) = (s.peer == peer ≡ false) × SidesDiffer peer sides

abbrev pub SidesOnce : List FinalJournal → Type 0
SidesOnce [] = ⊤
SidesOnce (s ∷ sides) = SidesDiffer s.peer sides × SidesOnce sides

abbrev pub EndsDiffer : ℕ → List FinalHost → Type 0
EndsDiffer addr [] = ⊤
EndsDiffer addr (e ∷ ends) = (e.addr == addr ≡ false) × EndsDiffer addr ends

abbrev pub EndsOnce : List FinalHost → Type 0
EndsOnce [] = ⊤
EndsOnce (e ∷ ends) = EndsDiffer e.addr ends × EndsOnce ends

sides_differ : (s : FinalJournal) (sides : List FinalJournal) → ((k : ℕ) (d : FinalJournal) → k < length sides → s.peer ≢ (get_or sides k d).peer) → SidesDiffer s.peer sides
sides_differ s [] h = tt
sides_differ s (t ∷ sides) h =
    (ne_eqb t.peer s.peer (λ e. h 0 t (omega arith) (sym e)), sides_differ s sides (λ k d l. h (suc k) d (omega arith)))

pub sides_once : (sides : List FinalJournal) → AllPairs (λ (a b : FinalJournal). a.peer ≢ b.peer) sides → SidesOnce sides
sides_once [] h = tt
sides_once (s ∷ sides) h =
    (sides_differ s sides (λ k d l. h 0 (suc k) d (omega arith) (omega arith)), sides_once sides (λ i j d a b. h (suc i) (suc j) d (omega arith) (omega arith)))

ends_differ : (e : FinalHost) (ends : List FinalHost) → ((k : ℕ) (d : FinalHost) → k < length ends → e.addr ≢ (get_or ends k d).addr) → EndsDiffer e.addr ends
ends_differ e [] h = tt
ends_differ e (f ∷ ends) h =
    (ne_eqb f.addr e.addr (λ x. h 0 f (omega arith) (sym x)), ends_differ e ends (λ k d l. h (suc k) d (omega arith)))

pub ends_once : (ends : List FinalHost) → AllPairs (λ (a b : FinalHost). a.addr ≢ b.addr) ends → EndsOnce ends
ends_once [] h = tt
ends_once (e ∷ ends) h =
    (ends_differ e ends (λ k d l. h 0 (suc k) d (omega arith) (omega arith)), ends_once ends (λ i j d a b. h (suc i) (suc j) d (omega arith) (omega arith)))

-- of lists that differ one is chosen

module _ {A : Type 0} (peer : ℕ) (h : FinalJournal → List A) (k : List Entry → List A) (none : k [] ≡ [])
    (other : (s : FinalJournal) → (s.peer == peer) ≡ false → h s ≡ []) (own : (s : FinalJournal) → (s.peer == peer) ≡ true → h s ≡ k s.past) where
  no_side : (sides : List FinalJournal) → SidesDiffer peer sides → flat_map h sides ≡ []
  no_side [] d = refl
  no_side (s ∷ sides) d = ap (λ (l : List A). l ++ flat_map h sides) (other s d.0) ∙ no_side sides d.1

  pub one_side : (sides : List FinalJournal) → SidesOnce sides → flat_map h sides ≡ k (past_with peer sides)
  one_side [] once = sym none
  one_side (s ∷ sides) once = go (s.peer == peer) refl (one_side sides once.1)
    where
      go : (b : Bool) → (s.peer == peer) ≡ b → flat_map h sides ≡ k (past_with peer sides) → h s ++ flat_map h sides ≡ k (past_with peer (s ∷ sides))
      go true is ih =
          let same : s.peer ≡ peer = eqb-true s.peer peer is in
          ap (λ (l : List A). l ++ flat_map h sides) (own s is)
          ∙ ap (λ (l : List A). k s.past ++ l) (no_side sides (subst (λ (p : ℕ). SidesDiffer p sides) same once.0))
          ∙ append-nil (k s.past)
          ∙ ap (λ (b : Bool). k (if b then s.past else past_with peer sides)) (sym is)
      go false is ih =
          ap (λ (l : List A). l ++ flat_map h sides) (other s is) ∙ ih
          ∙ ap (λ (b : Bool). k (if b then s.past else past_with peer sides)) (sym is)

module _ {A T : Type 0} (addr : ℕ) (h : FinalHost → List A) (k : T → List A) (get : FinalHost → T) (look : List FinalHost → T) (none : k (look []) ≡ [])
    (more : (e : FinalHost) (ends : List FinalHost) → look (e ∷ ends) ≡ (if e.addr == addr then get e else look ends)) where
  abbrev Other : Type 0
  Other = (e : FinalHost) → (e.addr == addr) ≡ false → h e ≡ []

  -- each end has what it is to have
  abbrev pub Own : List FinalHost → Type 0
  Own [] = ⊤
  Own (e ∷ ends) = ((e.addr == addr) ≡ true → h e ≡ k (get e)) × Own ends

  no_end : Other → (ends : List FinalHost) → EndsDiffer addr ends → flat_map h ends ≡ []
  no_end other [] d = refl
  no_end other (e ∷ ends) d = ap (λ (l : List A). l ++ flat_map h ends) (other e d.0) ∙ no_end other ends d.1

  pub one_end : Other → (ends : List FinalHost) → Own ends → EndsOnce ends → flat_map h ends ≡ k (look ends)
  one_end other [] own once = sym none
  one_end other (e ∷ ends) own once = go (e.addr == addr) refl (one_end other ends own.1 once.1) ∙ ap k (sym (more e ends))
    where
      go : (b : Bool) → (e.addr == addr) ≡ b → flat_map h ends ≡ k (look ends) → h e ++ flat_map h ends ≡ k (if e.addr == addr then get e else look ends)
      go true is ih =
          let same : e.addr ≡ addr = eqb-true e.addr addr is in
          ap (λ (l : List A). l ++ flat_map h ends) (own.0 is)
          ∙ ap (λ (l : List A). k (get e) ++ l) (no_end other ends (subst (λ (p : ℕ). EndsDiffer p ends) same once.0))
          ∙ append-nil (k (get e))
          ∙ ap (λ (b : Bool). k (if b then get e else look ends)) (sym is)
      go false is ih =
          ap (λ (l : List A). l ++ flat_map h ends) (other e is) ∙ ih
          ∙ ap (λ (b : Bool). k (if b then get e else look ends)) (sym is)
