-- The table of causes at one line: what stands there, and what doesn't.
use Rattle.std.proofs.Common.{◌≡◌, ◌≢◌, ℕ, suc, ◌<◌, ◌≤◌, Bool, true, false, eqb, List, [], ◌∷◌, drop, Option, Some, None, refl, sym, ap, ◌∙◌, arith, inl, inr, codes}
use Rattle.std.specs.Prelude.{◌⊎◌, IsSomeAnd, IsTrue, Any}
use Rattle.std.specs.Bool.{beq}
use Rattle.std.specs.List.{list_all}
use Rattle.std.specs.Option.{option_map}
use Rattle.std.proofs.lemmas.Bool.{eqb-true, eqb-false, eq-eqb, ne_eqb}
use Rattle.std.proofs.lemmas.List.Folds.{list_all_at}
use Rattle.rds_script.specs.declared.cause.Cause.{Cause}
use Rattle.rds_script.specs.declared.cause.Cause.TheVariants as cause
use Rattle.rds_script.specs.declared.name.Name.{Name}
use Rattle.rds_script.specs.declared.name.Name.TheVariants.{Hosts}
use Rattle.rds_script.specs.Text.{is_text, words}
use Rattle.rds_script.specs.Line.{Place, a_host, another_host, a_number, a_payload, places, first_of, has_command}
use Rattle.rds_script.specs.Refusal.{FailsBy, LeftmostFails, IsNoCommand, WordFails, Holds, rank, IsFirstCause}
use Rattle.rds_script.specs.Grammar.{Meaning}
use Rattle.rds_script.specs.Reading.{name_word, places_of, name_of, is_hosts}
use Rattle.rds_script.proofs.NameLemmas.{places-name, name-again, places-of}
use Rattle.rds_script.proofs.Spelled.{hosts_name}

-- ---- bytes that aren't text

pub no_bad_byte : (line : List ℕ) → list_all is_text line ≡ true → Any (λ b. is_text b ≡ false) line → ⊥
no_bad_byte line all bad =
    let at = list_all_at is_text line bad.0 bad.1 bad.2 (ap is_text bad.3 ∙ bad.4) in
    cc

pub bad_byte : (line : List ℕ) → list_all is_text line ≡ false → Any (λ b. is_text b ≡ false) line
bad_byte [] e = absurd cc
bad_byte (b ∷ line) e = go (λ later. bad_byte line later) (is_text b) refl
  where
    go : (list_all is_text line ≡ false → Any (λ b. is_text b ≡ false) line) → (t : Bool) → is_text b ≡ t → Any (λ b. is_text b ≡ false) (b ∷ line)
    go more false is = (0, b, omega arith, refl, is)
    go more true is =
        let x = more (rw is at e) in
        (suc x.0, x.1, omega (arith, x.2), x.3, x.4)

-- ---- first words that are no command here

pub same_bits : (a b : Bool) → beq a b ≡ true → a ≡ b
same_bits true true e = refl
same_bits false false e = refl
same_bits true false e = absurd cc
same_bits false true e = absurd cc

module _ (hosts : ℕ) (w : List ℕ) where
  pub unknown : name_of w ≡ None → IsNoCommand hosts w
  unknown e = inl (places-name w ∙ ap (option_map places_of) e)

  pub named_hosts : (n : Name) → w ≡ name_word n → w ≡ codes "hosts" → is_hosts n ≡ true
  named_hosts n w-is is-hosts =
      let again = sym (name-again n) ∙ ap name_of (sym w-is ∙ is-hosts) ∙ name-again Hosts in
      let same : n ≡ Hosts = some_is again in
      ap is_hosts same
    where
      some_is : {a b : Name} → Some a ≡ Some b → a ≡ b
      some_is e = cc

  -- the command isn't the one that is due
  pub undue : (n : Name) → w ≡ name_word n → beq (is_hosts n) (eqb hosts 0) ≡ false → IsNoCommand hosts w
  undue n w-is e = inr (go (is_hosts n) (eqb hosts 0) refl refl (e))
    where
      go : (a b : Bool) → is_hosts n ≡ a → eqb hosts 0 ≡ b → beq (is_hosts n) (eqb hosts 0) ≡ false → ((hosts ≡ 0) × (w ≢ codes "hosts")) ⊎ ((hosts ≢ 0) × (w ≡ codes "hosts"))
      go true true p q f = absurd (let g = rw (p, q) at f in no g)
        where
          no : true ≡ false → ⊥
          no e = cc
      go true false p q f = inr (eqb-false hosts 0 q, w-is ∙ ap name_word (hosts_name n p))
      go false true p q f = inl (eqb-true hosts 0 q, λ is. let h = named_hosts n w-is is in cc)
      go false false p q f = absurd (let g = rw (p, q) at f in no g)
        where
          no : true ≡ false → ⊥
          no e = cc

  -- the command is the one that is due
  pub due : (n : Name) → w ≡ name_word n → beq (is_hosts n) (eqb hosts 0) ≡ true → IsNoCommand hosts w → ⊥
  due n w-is e (inl none) =
      let row = ap places w-is ∙ places-of n in
      cc
  due n w-is e (inr (inl x)) =
      let is : is_hosts n ≡ true = same_bits _ _ e ∙ eq-eqb hosts 0 x.0 in
      x.1 (w-is ∙ ap name_word (hosts_name n is))
  due n w-is e (inr (inr x)) =
      let some = ne_eqb hosts 0 x.0 in
      let h = named_hosts n w-is x.1 in
      let same = same_bits _ _ e in
      cc

-- ---- causes of words

abbrev IsWordCause : Cause → Type 0
IsWordCause cause.Host = Unit {0}
IsWordCause cause.SameHost = Unit {0}
IsWordCause cause.Number = Unit {0}
IsWordCause cause.Payload = Unit {0}
IsWordCause _ = ⊥

fails_word : (hosts : ℕ) (first : List ℕ) (p : Place) (w : List ℕ) (c : Cause) → FailsBy hosts first p w c → IsWordCause c
fails_word hosts first a_host w cause.Host h = tt
fails_word hosts first another_host w cause.Host h = tt
fails_word hosts first another_host w cause.SameHost h = tt
fails_word hosts first (a_number low high) w cause.Number h = tt
fails_word hosts first a_payload w cause.Payload h = tt
fails_word hosts first p w c h = absurd h

leftmost_word : (hosts : ℕ) (first : List ℕ) (ps : List Place) (ws : List (List ℕ)) (c : Cause) → LeftmostFails hosts first ps ws c → IsWordCause c
leftmost_word hosts first (p ∷ ps) (w ∷ ws) c (inl f) = fails_word hosts first p w c f
leftmost_word hosts first (p ∷ ps) (w ∷ ws) c (inr x) = leftmost_word hosts first ps ws c x.2
leftmost_word hosts first ps ws c h = absurd h

-- ---- the rows above

-- no row above this one stands
module _ (s : Meaning) (k : ℕ) (line : List ℕ) where
  pub clear : (r : ℕ) → r ≤ 7 → (1 < r → k ≢ 200000) → (2 < r → list_all is_text line ≡ true) → (3 < r → Holds s k line cause.Command → ⊥) → (4 < r → Holds s k line cause.Words → ⊥) → (5 < r → (c : Cause) → WordFails s.hosts (words line) c → ⊥) → (6 < r → Holds s k line cause.Total → ⊥) → (above : Cause) → rank above < r → Holds s k line above → ⊥
  clear r le number text command count word total cause.TooLarge lt h = h
  clear r le number text command count word total cause.Lines lt h = number lt h
  clear r le number text command count word total cause.Text lt h = no_bad_byte line (text lt) h
  clear r le number text command count word total cause.Command lt h = command lt h
  clear r le number text command count word total cause.Words lt h = count lt h
  clear r le number text command count word total cause.Host lt h = word lt cause.Host h.1
  clear r le number text command count word total cause.SameHost lt h = word lt cause.SameHost h.1
  clear r le number text command count word total cause.Number lt h = word lt cause.Number h.1
  clear r le number text command count word total cause.Payload lt h = word lt cause.Payload h.1
  clear r le number text command count word total cause.Total lt h = total lt h
  clear r le number text command count word total cause.Cuts lt h = absurd (omega arith)
  clear r le number text command count word total cause.Empty lt h = h

  -- a word that fails, where nothing above stands
  pub word_cause : (c : Cause) → IsTrue (has_command (words line)) → WordFails s.hosts (words line) c → ((above : Cause) → rank above < 5 → Holds s k line above → ⊥) → IsFirstCause s k line c
  word_cause c has f above = go c (is_word (places (first_of (words line))) f) f
    where
      is_word : (row : Option (List Place)) → IsSomeAnd row (λ ps. LeftmostFails s.hosts (first_of (drop 1 (words line))) ps (drop 1 (words line)) c) → IsWordCause c
      is_word None f = absurd f
      is_word (Some ps) f = leftmost_word s.hosts _ ps _ c f

      go : (c : Cause) → IsWordCause c → WordFails s.hosts (words line) c → IsFirstCause s k line c
      go cause.Host i f = record { holds = (has, f); first = above }
      go cause.SameHost i f = record { holds = (has, f); first = above }
      go cause.Number i f = record { holds = (has, f); first = above }
      go cause.Payload i f = record { holds = (has, f); first = above }
      go c i f = absurd i
