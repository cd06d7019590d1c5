-- A line that adds something has no cause, and no line has two; so each is what reading gives.
use Rattle.std.proofs.Common.{◌≡◌, ◌≢◌, ℕ, ◌+◌, ◌≤◌, Bool, true, false, cond, eqb, List, [], ◌∷◌, ◌++◌, length, drop, Option, Some, None, Result, Ok, Err, refl, sym, ap, subst, ◌∙◌, arith, inl, inr}
use Rattle.std.specs.Prelude.{◌⊎◌, IsSomeAnd}
use Rattle.std.specs.Bool.{beq}
use Rattle.std.specs.List.{list_all}
use Rattle.std.proofs.lemmas.Bool.{cases_order, eqb-true, eqb-false, eq-eqb, ne_eqb}
use Rattle.rds_script.specs.declared.cause.Cause.{Cause}
use Rattle.rds_script.specs.declared.cause.Cause.TheVariants as cause
use Rattle.rds_script.specs.declared.script.Command.{Command}
use Rattle.rds_script.specs.declared.script.Command.TheVariants as command
use Rattle.rds_script.specs.declared.name.Name.{Name}
use Rattle.rds_script.specs.declared.name.Name.TheVariants.{Hosts, Bind, BindAny, Send, Recv, Cancel, Close, Open, Move, Cut, Drain}
use Rattle.rds_script.specs.Text.{is_text, words}
use Rattle.rds_script.specs.Line.{Place, places, first_of, is_named, has_command, Value, the_number, SpellsHosts, SpellsCommand}
use Rattle.rds_script.specs.Script.{payload_len, cut_count, payload_total, cut_total}
use Rattle.rds_script.specs.Grammar.{Meaning}
use Rattle.rds_script.specs.Refusal.{LeftmostFails, WordFails, Holds, rank, IsFirstCause}
use Rattle.rds_script.specs.Reading.{name_word, places_of, is_hosts, as_number, values_at}
use Rattle.rds_script.proofs.Binds.{ok_is}
use Rattle.rds_script.proofs.Places.{leftmost_failed}
use Rattle.rds_script.proofs.NameLemmas.{named_by}
use Rattle.rds_script.proofs.Spelled.{command_read, IsHostsLine, hosts_read}
use Rattle.rds_script.proofs.Causes.{no_bad_byte, named_hosts}
use Rattle.rds_script.proofs.OneLine.{AddsHosts, AddsCommand, Goes, line_result, Outcome, outcome, same_command, not_command, not_words, no_bad_word, values_of_command}

-- ---- no line has two causes

-- the cause of a row, where it has one alone
cause_at : ℕ → Cause
cause_at n = at (eqb n 0) (eqb n 1) (eqb n 2) (eqb n 3) (eqb n 4) (eqb n 6) (eqb n 7)
  where
    at : (a b c d e f g : Bool) → Cause
    at a b c d e f g = cond a cause.TooLarge (cond b cause.Lines (cond c cause.Text (cond d cause.Command (cond e cause.Words (cond f cause.Total (cond g cause.Cuts cause.Empty))))))

cause_at-rank : (c : Cause) → rank c ≢ 5 → cause_at (rank c) ≡ c
unfolding cause_at
cause_at-rank cause.TooLarge h = refl
cause_at-rank cause.Lines h = refl
cause_at-rank cause.Text h = refl
cause_at-rank cause.Command h = refl
cause_at-rank cause.Words h = refl
cause_at-rank cause.Host h = absurd (h refl)
cause_at-rank cause.SameHost h = absurd (h refl)
cause_at-rank cause.Number h = absurd (h refl)
cause_at-rank cause.Payload h = absurd (h refl)
cause_at-rank cause.Total h = refl
cause_at-rank cause.Cuts h = refl
cause_at-rank cause.Empty h = refl

same_word : (hosts : ℕ) (ws : List (List ℕ)) (c d : Cause) → WordFails hosts ws c → WordFails hosts ws d → c ≡ d
same_word hosts ws c d f g = go (places (first_of ws)) f g
  where
    err_is : {A : Type 0} → ◌≡◌ {A = Result A Cause} (Err c) (Err d) → c ≡ d
    err_is e = cc

    go : (o : Option (List Place)) → IsSomeAnd o (λ ps. LeftmostFails hosts (first_of (drop 1 ws)) ps (drop 1 ws) c) → IsSomeAnd o (λ ps. LeftmostFails hosts (first_of (drop 1 ws)) ps (drop 1 ws) d) → c ≡ d
    go None f g = absurd f
    go (Some ps) f g =
        err_is (sym (leftmost_failed hosts (first_of (drop 1 ws)) ps (drop 1 ws) c f) ∙ leftmost_failed hosts (first_of (drop 1 ws)) ps (drop 1 ws) d g)

word_row : (s : Meaning) (k : ℕ) (line : List ℕ) (c : Cause) → rank c ≡ 5 → Holds s k line c → WordFails s.hosts (words line) c
word_row s k line cause.TooLarge e h = absurd h
word_row s k line cause.Lines e h = absurd (omega arith)
word_row s k line cause.Text e h = absurd (omega arith)
word_row s k line cause.Command e h = absurd (omega arith)
word_row s k line cause.Words e h = absurd (omega arith)
word_row s k line cause.Host e h = h.1
word_row s k line cause.SameHost e h = h.1
word_row s k line cause.Number e h = h.1
word_row s k line cause.Payload e h = h.1
word_row s k line cause.Total e h = absurd (omega arith)
word_row s k line cause.Cuts e h = absurd (omega arith)
word_row s k line cause.Empty e h = absurd h

pub one_cause : (s : Meaning) (k : ℕ) (line : List ℕ) (c d : Cause) → IsFirstCause s k line c → IsFirstCause s k line d → c ≡ d
one_cause s k line c d f g = elim (cases_order (rank c) (rank d)) [
  | inl same ↦ in_row same (eqb (rank c) 5) refl
  | inr other ↦
      elim other [
        | inl lt ↦ absurd (g.first c lt f.holds)
        | inr lt ↦ absurd (f.first d lt g.holds)
      ]
]
  where
    in_row : rank c ≡ rank d → (t : Bool) → eqb (rank c) 5 ≡ t → c ≡ d
    in_row same true is =
        let five = eqb-true (rank c) 5 is in
        same_word s.hosts (words line) c d (word_row s k line c five f.holds) (word_row s k line d (sym same ∙ five) g.holds)
    in_row same false is =
        let other = eqb-false (rank c) 5 is in
        sym (cause_at-rank c other) ∙ ap cause_at same ∙ cause_at-rank d (λ five. other (same ∙ five))

-- ---- a line that adds something has no cause

word_named : (n : Name) → is_named (name_word n) ≡ true
word_named Hosts = refl
word_named Bind = refl
word_named BindAny = refl
word_named Send = refl
word_named Recv = refl
word_named Cancel = refl
word_named Close = refl
word_named Open = refl
word_named Move = refl
word_named Cut = refl
word_named Drain = refl

pub spelled_has : (hosts : ℕ) (ws : List (List ℕ)) (c : Command) → SpellsCommand hosts ws c → has_command ws ≡ true
spelled_has hosts [] c h = absurd h
spelled_has hosts (w ∷ args) c h = ap is_named (command_read hosts w args c h).word ∙ word_named (named_by c)

pub hosts_has : (ws : List (List ℕ)) (number : ℕ) → SpellsHosts ws number → has_command ws ≡ true
hosts_has [] number h = absurd h
hosts_has (w ∷ args) number h = ap is_named (hosts_read w args number h).word

module _ (s : Meaning) (k : ℕ) (line : List ℕ) (cuts : cut_total s.commands ≤ 1024) (number : k ≢ 200000) (text : list_all is_text line ≡ true) where
  skipped_clear : has_command (words line) ≡ false → (c : Cause) → Holds s k line c → ⊥
  skipped_clear has cause.TooLarge h = h
  skipped_clear has cause.Lines h = number h
  skipped_clear has cause.Text h = no_bad_byte line text h
  skipped_clear has cause.Command h = let t = h.0 in cc
  skipped_clear has cause.Words h = let t = h.0 in cc
  skipped_clear has cause.Host h = let t = h.0 in cc
  skipped_clear has cause.SameHost h = let t = h.0 in cc
  skipped_clear has cause.Number h = let t = h.0 in cc
  skipped_clear has cause.Payload h = let t = h.0 in cc
  skipped_clear has cause.Total h = let t = spelled_has s.hosts (words line) h.0 h.1 in cc
  skipped_clear has cause.Cuts h = let t = spelled_has s.hosts (words line) (command.Cut h.0 h.1) h.2 in cc
  skipped_clear has cause.Empty h = h

  module _ (w : List ℕ) (args : List (List ℕ)) (parts : words line ≡ w ∷ args) (has : is_named w ≡ true) where
    module _ (n : Name) (w-is : w ≡ name_word n) (is-due : beq (is_hosts n) (eqb s.hosts 0) ≡ true) (len : length args ≡ length (places_of n)) where
      line_clear : (vs : List Value) → values_at s.hosts (first_of args) (places_of n) args ≡ Ok vs → (Holds s k line cause.Total → ⊥) → (Holds s k line cause.Cuts → ⊥) → (c : Cause) → Holds s k line c → ⊥
      line_clear vs stand no_total no_cuts cause.TooLarge h = h
      line_clear vs stand no_total no_cuts cause.Lines h = number h
      line_clear vs stand no_total no_cuts cause.Text h = no_bad_byte line text h
      line_clear vs stand no_total no_cuts cause.Command h = not_command s k line cuts number text w args parts has n w-is is-due h
      line_clear vs stand no_total no_cuts cause.Words h = not_words s k line cuts number text w args parts has n w-is is-due len h
      line_clear vs stand no_total no_cuts cause.Host h =
          no_bad_word s k line cuts number text w args parts has n w-is is-due len vs stand cause.Host h.1
      line_clear vs stand no_total no_cuts cause.SameHost h =
          no_bad_word s k line cuts number text w args parts has n w-is is-due len vs stand cause.SameHost h.1
      line_clear vs stand no_total no_cuts cause.Number h =
          no_bad_word s k line cuts number text w args parts has n w-is is-due len vs stand cause.Number h.1
      line_clear vs stand no_total no_cuts cause.Payload h =
          no_bad_word s k line cuts number text w args parts has n w-is is-due len vs stand cause.Payload h.1
      line_clear vs stand no_total no_cuts cause.Total h = no_total h
      line_clear vs stand no_total no_cuts cause.Cuts h = no_cuts h
      line_clear vs stand no_total no_cuts cause.Empty h = h

    at_words : (c : Command) → SpellsCommand s.hosts (words line) c → SpellsCommand s.hosts (w ∷ args) c
    at_words c h = subst (λ (ws : List (List ℕ)). SpellsCommand s.hosts ws c) parts h

    -- ---- the line of the hosts

    hosts_clear : (number : ℕ) → s.hosts ≡ 0 → IsHostsLine w args number → (c : Cause) → Holds s k line c → ⊥
    hosts_clear m none x =
        let is-due : beq true (eqb s.hosts 0) ≡ true = rw (eq-eqb s.hosts 0 none) refl in
        line_clear Hosts x.word is-due x.len (the_number m ∷ []) (rw x.read refl) (λ h. no_command h.0 (at_words h.0 h.1)) (λ h. no_command (command.Cut h.0 h.1) (at_words (command.Cut h.0 h.1) h.2))
      where
        no_command : (c : Command) → SpellsCommand s.hosts (w ∷ args) c → ⊥
        no_command c h =
            let y = command_read s.hosts w args c h in
            let t = named_hosts s.hosts w (named_by c) y.word x.word in
            let f = y.other in
            cc

    -- ---- the line of a command

    command_clear : (a : Command) → s.hosts ≢ 0 → SpellsCommand s.hosts (w ∷ args) a → payload_total s.commands + payload_len a ≤ 16777216 → cut_total s.commands + cut_count a ≤ 1024 → (c : Cause) → Holds s k line c → ⊥
    command_clear a some spelled total few =
        let y = command_read s.hosts w args a spelled in
        let n = named_by a in
        let is-due : beq (is_hosts n) (eqb s.hosts 0) ≡ true = rw (y.other, ne_eqb s.hosts 0 some) refl in
        let v = values_of_command s k line cuts number text w args parts has n y.word is-due y.len a y.read in
        line_clear n y.word is-due y.len v.0 v.1 no_total no_cuts
      where
        no_total : Holds s k line cause.Total → ⊥
        no_total h =
            let same = ap payload_len (same_command s.hosts w args h.0 a (at_words h.0 h.1) spelled) in
            omega (arith, h.2)

        no_cuts : Holds s k line cause.Cuts → ⊥
        no_cuts h =
            let same : 1 ≡ cut_count a = ap cut_count (same_command s.hosts w args (command.Cut h.0 h.1) a (at_words (command.Cut h.0 h.1) h.2) spelled) in
            omega (arith, h.3)

module _ (s : Meaning) (k : ℕ) (line : List ℕ) (cuts : cut_total s.commands ≤ 1024) where
  pub goes_clear : (t : Meaning) → Goes s k line t → (c : Cause) → Holds s k line c → ⊥
  goes_clear t g = go g.step
    where
      at_parts : (ws : List (List ℕ)) → words line ≡ ws → AddsHosts s (k + 1) (words line) t ⊎ AddsCommand s (k + 1) (words line) t → (c : Cause) → Holds s k line c → ⊥
      at_parts [] parts (inl a) = λ c h. subst (λ (ws : List (List ℕ)). SpellsHosts ws a.number) parts a.spelled
      at_parts [] parts (inr a) = λ c h. subst (λ (ws : List (List ℕ)). SpellsCommand s.hosts ws a.command) parts a.spelled
      at_parts (w ∷ args) parts (inl a) =
          let h = subst (λ (ws : List (List ℕ)). SpellsHosts ws a.number) parts a.spelled in
          hosts_clear s k line cuts g.number g.text w args parts (hosts_has (w ∷ args) a.number h) a.number a.none (hosts_read w args a.number h)
      at_parts (w ∷ args) parts (inr a) =
          let h = subst (λ (ws : List (List ℕ)). SpellsCommand s.hosts ws a.command) parts a.spelled in
          command_clear s k line cuts g.number g.text w args parts (spelled_has s.hosts (w ∷ args) a.command h) a.command a.some h a.total a.cuts

      go : ((has_command (words line) ≡ false) × (t ≡ s)) ⊎ (AddsHosts s (k + 1) (words line) t ⊎ AddsCommand s (k + 1) (words line) t) → (c : Cause) → Holds s k line c → ⊥
      go (inl x) = skipped_clear s k line cuts g.number g.text x.0
      go (inr x) = at_parts (words line) refl x

  -- the first cause that stands at a line is the one that reading gives
  pub cause_read : (c : Cause) → IsFirstCause s k line c → line_result s k line ≡ Err c
  cause_read c f = go (line_result s k line) refl (outcome s k line cuts (line_result s k line) refl)
    where
      go : (r : Result Meaning Cause) → line_result s k line ≡ r → Outcome s k line r → line_result s k line ≡ Err c
      go (Ok t) e g = absurd (goes_clear t g c f.holds)
      go (Err d) e g = e ∙ ap Err (one_cause s k line d c g f)

-- ---- no line adds two things

number_is : {a b : ℕ} {ws : List (List ℕ)} → ◌≡◌ {A = Result (Value × List (List ℕ)) Cause} (Ok (the_number a, ws)) (Ok (the_number b, ws)) → a ≡ b
number_is e = ap (λ (x : Value × List (List ℕ)). as_number x.0) (ok_is e)

same_hosts : (ws : List (List ℕ)) (a b : ℕ) → SpellsHosts ws a → SpellsHosts ws b → a ≡ b
same_hosts [] a b h g = absurd h
same_hosts (w ∷ args) a b h g = number_is (sym (hosts_read w args a h).read ∙ (hosts_read w args b g).read)

same_commands : (hosts : ℕ) (ws : List (List ℕ)) (a b : Command) → SpellsCommand hosts ws a → SpellsCommand hosts ws b → a ≡ b
same_commands hosts [] a b h g = absurd h
same_commands hosts (w ∷ args) a b h g = same_command hosts w args a b h g

goes_same : (s : Meaning) (k : ℕ) (line : List ℕ) (t u : Meaning) → Goes s k line t → Goes s k line u → t ≡ u
goes_same s k line t u g h = go g.step h.step
  where
    clash : has_command (words line) ≡ false → has_command (words line) ≡ true → t ≡ u
    clash e f = absurd cc

    go : ((has_command (words line) ≡ false) × (t ≡ s)) ⊎ (AddsHosts s (k + 1) (words line) t ⊎ AddsCommand s (k + 1) (words line) t) → ((has_command (words line) ≡ false) × (u ≡ s)) ⊎ (AddsHosts s (k + 1) (words line) u ⊎ AddsCommand s (k + 1) (words line) u) → t ≡ u
    go (inl x) (inl y) = x.1 ∙ sym y.1
    go (inl x) (inr (inl y)) = clash x.0 (hosts_has (words line) y.number y.spelled)
    go (inl x) (inr (inr y)) = clash x.0 (spelled_has s.hosts (words line) y.command y.spelled)
    go (inr (inl x)) (inl y) = clash y.0 (hosts_has (words line) x.number x.spelled)
    go (inr (inr x)) (inl y) = clash y.0 (spelled_has s.hosts (words line) x.command x.spelled)
    go (inr (inl x)) (inr (inl y)) =
        x.is ∙ ap (λ (n : ℕ). record s { hosts = n; hosts_line = k + 1 }) (same_hosts (words line) x.number y.number x.spelled y.spelled) ∙ sym y.is
    go (inr (inl x)) (inr (inr y)) = absurd (y.some x.none)
    go (inr (inr x)) (inr (inl y)) = absurd (x.some y.none)
    go (inr (inr x)) (inr (inr y)) =
        x.is ∙ ap (λ (c : Command). record s { commands = s.commands ++ record { line = k + 1; command = c } ∷ [] }) (same_commands s.hosts (words line) x.command y.command x.spelled y.spelled) ∙ sym y.is

-- what a line adds is what reading gives
pub goes_read : (s : Meaning) (k : ℕ) (line : List ℕ) → cut_total s.commands ≤ 1024 → (t : Meaning) → Goes s k line t → line_result s k line ≡ Ok t
goes_read s k line cuts t g = go (line_result s k line) refl (outcome s k line cuts (line_result s k line) refl)
  where
    go : (r : Result Meaning Cause) → line_result s k line ≡ r → Outcome s k line r → line_result s k line ≡ Ok t
    go (Ok u) e h = e ∙ ap Ok (goes_same s k line u t h g)
    go (Err c) e f = absurd (goes_clear s k line cuts t g c f.holds)
