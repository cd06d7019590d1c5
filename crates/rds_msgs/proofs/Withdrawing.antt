-- What a cancellation leaves and takes, message by message: those that it has passed, and those to come.
use Rattle.std.proofs.Common.{◌≡◌, ◌≤◌, ◌<◌, ◌+◌, ◌-◌, ◌==◌, not, min, inl, inr, ℕ, zero, suc, true, false, List, [], ◌∷◌, ◌++◌, length, arith, refl, sym, ap, ◌∙◌, filter, take, subst, length-append, nat_lt}
use Rattle.std.proofs.lemmas.Bool.{cases_eq, cases_Bool, eq-eqb, ne_eqb}
use Rattle.std.proofs.lemmas.List.{append_assoc, take_all, length-take-le}
use Rattle.std.proofs.lemmas.List.Elements.{filter-append}
use Rattle.std.proofs.lemmas.List.Sums.{sum_by-cons}
use Rattle.std.specs.List.{AllByRecursion}
use Rattle.rds_model.specs.declared.entry.Msg.{Msg}
use Rattle.rds_model.specs.declared.entry.Target.{Target}
use Rattle.rds_model.specs.declared.entry.TheConstants.{NO_SLOT}
use Rattle.rds_model.specs.Alive.{aims_at}
use Rattle.rds_msgs_lists.specs.Lists.{Place, of_socket, is_of}
use Rattle.rds_msgs.specs.Messages.{covers_message, covered_messages, uncovered_messages, bytes_of, messages_from}
use Rattle.rds_msgs.specs.Kept.{IsListed, HasSlot, message_at, messages_at}
use Rattle.rds_msgs.proofs.Counts.{Moves}

-- the front of two lists
pub take_none : {A : Type 0} (n : ℕ) → take {A = A} n [] ≡ []
take_none zero = refl
take_none (suc n) = refl

pub take_parts : {A : Type 0} (n : ℕ) (xs ys : List A) → take n (xs ++ ys) ≡ take n xs ++ take (n - length xs) ys
take_parts {A} n [] ys = let z : n - 0 ≡ n = omega arith in rw (take_none {A = A} n, z) refl
take_parts zero (x ∷ xs) ys = let z : 0 - suc (length xs) ≡ 0 = omega arith in rw z refl
take_parts (suc n) (x ∷ xs) ys = let z : suc n - suc (length xs) ≡ n - length xs = omega arith in rw z (ap (λ zs. x ∷ zs) (take_parts n xs ys))

module _ (slot : ℕ) (target : Target) where
  -- a cancellation takes none of these
  abbrev pub AreLeft : List Msg → Type 0
  AreLeft messages = AllByRecursion (λ (m : Msg). covers_message slot target m ≡ false) messages

  pub all_left : (xs : List Msg) → AreLeft xs → uncovered_messages slot target xs ≡ xs
  all_left [] h = refl
  all_left (m ∷ xs) h = rw (h.0, all_left xs h.1) refl

  pub none_taken : (xs : List Msg) → AreLeft xs → covered_messages slot target xs ≡ []
  none_taken [] h = refl
  none_taken (m ∷ xs) h = rw (h.0, none_taken xs h.1) refl

  pub left_front : (n : ℕ) (xs : List Msg) → AreLeft xs → AreLeft (take n xs)
  left_front n [] h = rw (take_none {A = Msg} n) tt
  left_front zero (m ∷ xs) h = tt
  left_front (suc n) (m ∷ xs) h = (h.0, left_front n xs h.1)

  -- Of `old` messages, of which the first `pulled` are, a cancellation has passed `done`, and `todo` is to come; of both
  -- the first `mark` are pulled, and it took so many bytes.
  pub record Stays (old : List Msg) (pulled : ℕ) (done todo : List Msg) (mark bytes : ℕ) : Type 0 where
    pub left : done ++ uncovered_messages slot target todo ≡ uncovered_messages slot target old
    pub pulled_left : take mark done ++ uncovered_messages slot target (take (mark - length done) todo) ≡ uncovered_messages slot target (take pulled old)
    pub taken : bytes + bytes_of (covered_messages slot target todo) ≡ bytes_of (covered_messages slot target old)

  pub stays_first : (old : List Msg) (pulled : ℕ) → Stays old pulled [] old pulled 0
  stays_first old pulled =
      record {
        left = refl;
        pulled_left = let z : pulled - 0 ≡ pulled = omega arith in rw (take_none {A = Msg} pulled, z) refl;
        taken = omega arith;
      }

  -- it passes messages that it leaves
  pub stays_past : (old : List Msg) (pulled : ℕ) (done between todo : List Msg) (mark bytes : ℕ) → AreLeft between
      → Stays old pulled done (between ++ todo) mark bytes → Stays old pulled (done ++ between) todo mark bytes
  stays_past old pulled done between todo mark bytes a s =
      let p = λ (m : Msg). not (covers_message slot target m) in
      let n : length (done ++ between) ≡ length done + length between = length-append done between in
      let z : mark - (length done + length between) ≡ (mark - length done) - length between = omega arith in
      let u : uncovered_messages slot target (between ++ todo) ≡ between ++ uncovered_messages slot target todo =
      filter-append p between todo ∙ ap (λ (xs : List Msg). xs ++ uncovered_messages slot target todo) (all_left between a) in
      let f : uncovered_messages slot target (take (mark - length done) (between ++ todo)) ≡ take (mark - length done) between ++ uncovered_messages slot target (take ((mark - length done) - length between) todo) =
      ap (filter p) (take_parts (mark - length done) between todo)
      ∙ filter-append p (take (mark - length done) between) (take ((mark - length done) - length between) todo)
      ∙ ap (λ (xs : List Msg). xs ++ uncovered_messages slot target (take ((mark - length done) - length between) todo)) (all_left _ (left_front (mark - length done) between a)) in
      let c : covered_messages slot target (between ++ todo) ≡ covered_messages slot target todo =
      filter-append (covers_message slot target) between todo ∙ ap (λ (xs : List Msg). xs ++ covered_messages slot target todo) (none_taken between a) in
      record {
        left = append_assoc done between (uncovered_messages slot target todo) ∙ (ap (λ (xs : List Msg). done ++ xs) (sym u) ∙ s.left);
        pulled_left =
            rw (n, z, take_parts mark done between)
            (append_assoc (take mark done) (take (mark - length done) between) (uncovered_messages slot target (take ((mark - length done) - length between) todo))
            ∙ (ap (λ (xs : List Msg). take mark done ++ xs) (sym f) ∙ s.pulled_left));
        taken = ap (λ (xs : List Msg). bytes + bytes_of xs) (sym c) ∙ s.taken;
      }

  -- it takes the next message
  pub stays_off : (old : List Msg) (pulled : ℕ) (done : List Msg) (m : Msg) (todo : List Msg) (mark bytes left : ℕ) → covers_message slot target m ≡ true
      → Moves (length done) mark left → Stays old pulled done (m ∷ todo) mark bytes → Stays old pulled done todo left (bytes + m.len)
  stays_off old pulled done m todo mark bytes left t moves s =
      let u : uncovered_messages slot target (m ∷ todo) ≡ uncovered_messages slot target todo = rw t refl in
      let c : bytes_of (covered_messages slot target (m ∷ todo)) ≡ m.len + bytes_of (covered_messages slot target todo) =
      (let e : covered_messages slot target (m ∷ todo) ≡ m ∷ covered_messages slot target todo = rw t refl in ap bytes_of e ∙ sum_by-cons (λ (n : Msg). n.len) m (covered_messages slot target todo)) in
      let taken = s.taken in
      record {
        left = ap (λ (xs : List Msg). done ++ xs) (sym u) ∙ s.left;
        pulled_left = elim (cases_Bool (nat_lt (length done) mark)) [
          | inl b ↦
              let l : length done < mark = grind arith in
              let e = moves.pulled l in
              let i : mark - length done ≡ suc (left - length done) = omega arith in
              let f : uncovered_messages slot target (take (mark - length done) (m ∷ todo)) ≡ uncovered_messages slot target (take (left - length done) todo) = rw i (rw t refl) in
              let a : take mark done ≡ done = take_all mark done (omega arith) in
              let b : take left done ≡ done = take_all left done (omega arith) in
              rw b (ap (λ (xs : List Msg). done ++ xs) (sym f) ∙ (ap (λ (xs : List Msg). xs ++ uncovered_messages slot target (take (mark - length done) (m ∷ todo))) (sym a) ∙ s.pulled_left))
          | inr b ↦
              let l : mark ≤ length done = grind arith in
              let e : left ≡ mark = moves.other l in
              let z : mark - length done ≡ 0 = omega arith in
              rw (e, z) (subst (λ (n : ℕ). take mark done ++ uncovered_messages slot target (take n (m ∷ todo)) ≡ uncovered_messages slot target (take pulled old)) z s.pulled_left)
        ];
        taken = omega arith;
      }

  -- nothing is to come
  pub record Ends (old : List Msg) (pulled : ℕ) (now : List Msg) (mark bytes : ℕ) : Type 0 where
    pub left : now ≡ uncovered_messages slot target old
    pub pulled_left : mark ≡ length (uncovered_messages slot target (take pulled old))
    pub taken : bytes ≡ bytes_of (covered_messages slot target old)

  pub stays_end : (old : List Msg) (pulled : ℕ) (done todo : List Msg) (mark bytes : ℕ) → AreLeft todo → mark ≤ length (done ++ todo)
      → Stays old pulled done todo mark bytes → Ends old pulled (done ++ todo) mark bytes
  stays_end old pulled done todo mark bytes a most s =
      let f : take mark (done ++ todo) ≡ uncovered_messages slot target (take pulled old) =
      take_parts mark done todo ∙ (ap (λ (xs : List Msg). take mark done ++ xs) (sym (all_left _ (left_front (mark - length done) todo a))) ∙ s.pulled_left) in
      let c : bytes_of (covered_messages slot target todo) ≡ 0 = ap bytes_of (none_taken todo a) in
      let taken = s.taken in
      record {
        left = ap (λ (xs : List Msg). done ++ xs) (sym (all_left todo a)) ∙ s.left;
        pulled_left = sym (length-take-le mark (done ++ todo) most) ∙ ap (λ (xs : List Msg). length xs) f;
        taken = omega arith;
      }

-- two slots have one list only where they are one
pub same_slot : (slots a b : ℕ) → slots ≤ NO_SLOT → HasSlot slots a → HasSlot slots b → min a slots ≡ min b slots → a ≡ b
same_slot slots a b n (inl h) (inl i) e = omega arith
same_slot slots a b n (inl h) (inr i) e = absurd (omega arith)
same_slot slots a b n (inr h) (inl i) e = absurd (omega arith)
same_slot slots a b n (inr h) (inr i) e = omega arith

module _ (items : List Msg) (slots slot : ℕ) (most : slots ≤ NO_SLOT) (has : HasSlot slots slot) where
  -- a place is on the list of a slot where its message is the slot's
  pub of_is : (p : Place) → IsListed items slots p → is_of (min slot slots) p ≡ ((message_at items p).slot == slot)
  of_is p h =
      elim (cases_eq (message_at items p).slot slot) [
        | inl e ↦
            let i : p.socket ≡ min slot slots = h.0 ∙ ap (λ (s : ℕ). min s slots) e in
            eq-eqb p.socket (min slot slots) i ∙ sym (eq-eqb _ slot e)
        | inr ne ↦
            ne_eqb p.socket (min slot slots) (λ i. ne (same_slot slots _ slot most h.1 has (sym h.0 ∙ i)))
            ∙ sym (ne_eqb _ slot ne)
      ]

  -- so the target decides on it
  pub covers_own : (target : Target) (p : Place) → IsListed items slots p → p.socket ≡ min slot slots → covers_message slot target (message_at items p) ≡ aims_at target (message_at items p).dport
  covers_own target p h e =
      let s = same_slot slots (message_at items p).slot slot most h.1 has (sym h.0 ∙ e) in
      let t : (slot == (message_at items p).slot) ≡ true = eq-eqb slot _ (sym s) in
      rw t refl

  pub not_covered : (target : Target) (p : Place) → IsListed items slots p → is_of (min slot slots) p ≡ false → covers_message slot target (message_at items p) ≡ false
  not_covered target p h f =
      let o = sym (of_is p h) ∙ f in
      let t : (slot == (message_at items p).slot) ≡ false = ne_eqb slot _ (λ e. let t = eq-eqb (message_at items p).slot slot (sym e) in grind arith) in
      rw t refl

  pub between_left : (target : Target) (xs : List Place) → AllByRecursion (IsListed items slots) xs → of_socket (min slot slots) xs ≡ [] → AreLeft slot target (messages_at items xs)
  between_left target [] h e = tt
  between_left target (p ∷ xs) h e =
      elim (cases_Bool (is_of (min slot slots) p)) [
        | inl t ↦ let o : of_socket (min slot slots) (p ∷ xs) ≡ p ∷ of_socket (min slot slots) xs = rw t refl in absurd (let n = ap (λ (ps : List Place). length ps) (sym o ∙ e) in omega arith)
        | inr f ↦
            let o : of_socket (min slot slots) (p ∷ xs) ≡ of_socket (min slot slots) xs = rw f refl in
            (not_covered target p h.0 f, between_left target xs h.1 (sym o ∙ e))
      ]

  -- as many messages are the slot's as places are on its list
  pub length_from : (xs : List Place) → AllByRecursion (IsListed items slots) xs → length (messages_from slot (messages_at items xs)) ≡ length (of_socket (min slot slots) xs)
  length_from [] h = refl
  length_from (p ∷ xs) h =
      let r = length_from xs h.1 in
      let o = of_is p h.0 in
      elim (cases_Bool (is_of (min slot slots) p)) [
        | inl t ↦
            let s : ((message_at items p).slot == slot) ≡ true = sym o ∙ t in
            let a : length (messages_from slot (messages_at items (p ∷ xs))) ≡ suc (length (messages_from slot (messages_at items xs))) = rw s refl in
            let b : length (of_socket (min slot slots) (p ∷ xs)) ≡ suc (length (of_socket (min slot slots) xs)) = rw t refl in
            omega arith
        | inr f ↦
            let s : ((message_at items p).slot == slot) ≡ false = sym o ∙ f in
            let a : length (messages_from slot (messages_at items (p ∷ xs))) ≡ length (messages_from slot (messages_at items xs)) = rw s refl in
            let b : length (of_socket (min slot slots) (p ∷ xs)) ≡ length (of_socket (min slot slots) xs) = rw f refl in
            omega arith
      ]
  -- a slot that has no list has no message
