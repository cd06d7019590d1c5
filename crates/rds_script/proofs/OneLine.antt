-- Reading one line: what it adds, or the first cause in the table that stands there.
use Rattle.std.proofs.Common.{◌≡◌, ◌≢◌, ℕ, ◌+◌, ◌<◌, ◌≤◌, true, false, cond, eqb, ltb, List, [], ◌∷◌, ◌++◌, length, drop, Option, Some, None, Result, Ok, Err, refl, sym, ap, subst, ◌∙◌, arith, inl, inr, codes}
use Rattle.std.specs.Prelude.{◌⊎◌, IsSomeAnd, IsTrue}
use Rattle.std.specs.Bool.{beq}
use Rattle.std.specs.List.{list_all}
use Rattle.std.specs.Option.{ok_or}
use Rattle.std.proofs.lemmas.Bool.{eqb-true, eqb-false, ltb-true, ltb-false}
use Rattle.rds_script.specs.declared.cause.Cause.{Cause}
use Rattle.rds_script.specs.declared.cause.Cause.TheVariants as cause
use Rattle.rds_script.specs.declared.script.Command.{Command}
use Rattle.rds_script.specs.declared.script.Command.TheVariants as command
use Rattle.rds_script.specs.declared.name.Name.{Name}
use Rattle.rds_script.specs.declared.name.Name.TheVariants.{Hosts}
use Rattle.rds_script.specs.Text.{is_text, words}
use Rattle.rds_script.specs.Line.{Place, places, first_of, is_named, has_command, Value, SpellsHosts, SpellsCommand}
use Rattle.rds_script.specs.Script.{payload_len, cut_count, payload_total, cut_total}
use Rattle.rds_script.specs.Grammar.{Meaning}
use Rattle.rds_script.specs.Refusal.{IsNoCommand, WordFails, Holds, IsFirstCause}
use Rattle.rds_script.specs.Reading.{◌>>=◌, name_word, places_of, name_of, is_hosts, as_number, number_at, values_at, command_at, with_command, hosts_at, named, counted, command_line, line_at}
use Rattle.rds_script.proofs.Binds.{bind_ok, bind_err, ok_is, chosen}
use Rattle.rds_script.proofs.NameLemmas.{name-word, name-again, places-of, named_by}
use Rattle.rds_script.proofs.Spelled.{hosts_name, word_fails, word_failed, command_spelled, command_values, command_read, hosts_spelled}
use Rattle.rds_script.proofs.Causes.{bad_byte, same_bits, unknown, undue, due, clear, word_cause}

-- the line says how many hosts there are
pub record AddsHosts (s : Meaning) (m : ℕ) (ws : List (List ℕ)) (t : Meaning) : Type 0 where
  pub none : s.hosts ≡ 0
  pub number : ℕ
  pub spelled : SpellsHosts ws number
  pub is : t ≡ record s { hosts = number; hosts_line = m }

-- the line adds a command
pub record AddsCommand (s : Meaning) (m : ℕ) (ws : List (List ℕ)) (t : Meaning) : Type 0 where
  pub some : s.hosts ≢ 0
  pub command : Command
  pub spelled : SpellsCommand s.hosts ws command
  pub total : payload_total s.commands + payload_len command ≤ 16777216
  pub cuts : cut_total s.commands + cut_count command ≤ 1024
  pub is : t ≡ record s { commands = s.commands ++ record { line = m; command = command } ∷ [] }

pub record Goes (s : Meaning) (k : ℕ) (line : List ℕ) (t : Meaning) : Type 0 where
  pub number : k ≢ 200000
  pub text : list_all is_text line ≡ true
  pub step : ((has_command (words line) ≡ false) × (t ≡ s)) ⊎ (AddsHosts s (k + 1) (words line) t ⊎ AddsCommand s (k + 1) (words line) t)

unfoldable pub line_result : Meaning → ℕ → List ℕ → Result Meaning Cause
line_result s k line = cond (eqb k 200000) (Err cause.Lines) (line_at s (k + 1) line)

abbrev pub Outcome : Meaning → ℕ → List ℕ → Result Meaning Cause → Type 0
Outcome s k line (Ok t) = Goes s k line t
Outcome s k line (Err c) = IsFirstCause s k line c

-- the first word and the others of a line that has a command
pub split : (ws : List (List ℕ)) → has_command ws ≡ true → (w : List ℕ) × (args : List (List ℕ)) × (ws ≡ w ∷ args) × (is_named w ≡ true)
split [] e = absurd cc
split (w ∷ args) e = (w, args, refl, e)

is_cut : (c : Command) → 0 < cut_count c → (a b : ℕ) × (c ≡ command.Cut a b)
is_cut (command.Bind h p s r) lt = absurd (omega arith)
is_cut (command.BindAny h p s r) lt = absurd (omega arith)
is_cut (command.Send h p t d b) lt = absurd (omega arith)
is_cut (command.Recv h p) lt = absurd (omega arith)
is_cut (command.Cancel h p t d) lt = absurd (omega arith)
is_cut (command.Close h p) lt = absurd (omega arith)
is_cut (command.Open h t) lt = absurd (omega arith)
is_cut (command.Move h t n) lt = absurd (omega arith)
is_cut (command.Cut h t) lt = (h, t, refl)
is_cut command.Drain lt = absurd (omega arith)

-- one more command fits, or which limit it passes
record Fits (s : Meaning) (m : ℕ) (c : Command) (t : Meaning) : Type 0 where
  total : payload_total s.commands + payload_len c ≤ 16777216
  cuts : cut_total s.commands + cut_count c ≤ 1024
  is : t ≡ record s { commands = s.commands ++ record { line = m; command = c } ∷ [] }

added_ok : (s : Meaning) (m : ℕ) (c : Command) (t : Meaning) → with_command s m c ≡ Ok t → Fits s m c t
unfolding with_command
added_ok s m c t e =
    elim (chosen (ltb 16777216 (payload_total s.commands + payload_len c)) _ _ (Ok t) e) [
      | inl x ↦ absurd (no_ok x.1)
      | inr x ↦
          elim (chosen (ltb 1024 (cut_total s.commands + cut_count c)) _ _ (Ok t) x.1) [
            | inl y ↦ absurd (no_ok y.1)
            | inr y ↦ record { total = ltb-false _ _ x.0; cuts = ltb-false _ _ y.0; is = sym (ok_is y.1) }
          ]
    ]
  where
    no_ok : {d : Cause} → ◌≡◌ {A = Result Meaning Cause} (Err d) (Ok t) → ⊥
    no_ok e = cc

abbrev PassesTotal : Meaning → Command → Cause → Type 0
PassesTotal s c d = (cause.Total ≡ d) × (16777216 < payload_total s.commands + payload_len c)

abbrev PassesCuts : Meaning → Command → Cause → Type 0
PassesCuts s c d =
    (cause.Cuts ≡ d) × (payload_total s.commands + payload_len c ≤ 16777216) × (1024 < cut_total s.commands + cut_count c)

added_err : (s : Meaning) (m : ℕ) (c : Command) (d : Cause) → with_command s m c ≡ Err d → PassesTotal s c d ⊎ PassesCuts s c d
unfolding with_command
added_err s m c d e =
    elim (chosen (ltb 16777216 (payload_total s.commands + payload_len c)) _ _ (Err d) e) [
      | inl x ↦ inl (err_is x.1, ltb-true _ _ x.0)
      | inr x ↦
          elim (chosen (ltb 1024 (cut_total s.commands + cut_count c)) _ _ (Err d) x.1) [
            | inl y ↦ inr (err_is y.1, ltb-false _ _ x.0, ltb-true _ _ y.0)
            | inr y ↦ absurd (no_error y.1)
          ]
    ]
  where
    err_is : {a : Cause} → ◌≡◌ {A = Result Meaning Cause} (Err a) (Err d) → a ≡ d
    err_is e = cc

    no_error : {t : Meaning} → ◌≡◌ {A = Result Meaning Cause} (Ok t) (Err d) → ⊥
    no_error e = cc

-- no line spells two commands
pub same_command : (hosts : ℕ) (w : List ℕ) (args : List (List ℕ)) (a b : Command) → SpellsCommand hosts (w ∷ args) a → SpellsCommand hosts (w ∷ args) b → a ≡ b
same_command hosts w args a b h g =
    let x = command_read hosts w args a h in
    let y = command_read hosts w args b g in
    let names : named_by a ≡ named_by b = some_is (sym (name-again (named_by a)) ∙ ap name_of (sym x.word ∙ y.word) ∙ name-again (named_by b)) in
    ok_is (sym x.read ∙ ap (λ (n : Name). command_at hosts n args) names ∙ y.read)
  where
    some_is : {m n : Name} → Some m ≡ Some n → m ≡ n
    some_is e = cc

module _ (s : Meaning) (k : ℕ) (line : List ℕ) (cuts : cut_total s.commands ≤ 1024) where
  module _ (number : k ≢ 200000) (text : list_all is_text line ≡ true) where
    module _ (w : List ℕ) (args : List (List ℕ)) (parts : words line ≡ w ∷ args) (has : is_named w ≡ true) where
      abbrev m : ℕ
      m = k + 1

      has_it : IsTrue (has_command (words line))
      has_it = ap has_command parts ∙ has

      no_command : IsNoCommand s.hosts w → IsFirstCause s k line cause.Command
      no_command h = record {
        holds = (has_it, subst (λ (ws : List (List ℕ)). IsNoCommand s.hosts (first_of ws)) (sym parts) h);
        first = clear s k line 3 (omega arith) (λ _. number) (λ _. text) (λ lt. absurd (omega arith)) (λ lt. absurd (omega arith)) (λ lt. absurd (omega arith)) (λ lt. absurd (omega arith));
      }

      module _ (n : Name) (w-is : w ≡ name_word n) (is-due : beq (is_hosts n) (eqb s.hosts 0) ≡ true) where
        pub not_command : Holds s k line cause.Command → ⊥
        not_command h = due s.hosts w n w-is is-due (subst (λ (ws : List (List ℕ)). IsNoCommand s.hosts (first_of ws)) parts h.1)

        wrong_count : (length args ≡ length (places_of n) → ⊥) → IsFirstCause s k line cause.Words
        wrong_count differ = record {
          holds = (has_it, subst (λ (ws : List (List ℕ)). IsSomeAnd (places (first_of ws)) (λ ps. length (drop 1 ws) ≢ length ps)) (sym parts) (subst (λ (o : Option (List Place)). IsSomeAnd o (λ ps. length args ≢ length ps)) (sym (ap places w-is ∙ places-of n)) differ));
          first = clear s k line 4 (omega arith) (λ _. number) (λ _. text) (λ _. not_command) (λ lt. absurd (omega arith)) (λ lt. absurd (omega arith)) (λ lt. absurd (omega arith));
        }

        module _ (len : length args ≡ length (places_of n)) where
          abbrev pub read_values : Result (List Value) Cause
          read_values = values_at s.hosts (first_of args) (places_of n) args

          pub not_words : Holds s k line cause.Words → ⊥
          not_words h =
              let at = subst (λ (ws : List (List ℕ)). IsSomeAnd (places (first_of ws)) (λ ps. length (drop 1 ws) ≢ length ps)) parts h.1 in
              subst (λ (o : Option (List Place)). IsSomeAnd o (λ ps. length args ≢ length ps)) (ap places w-is ∙ places-of n) at len

          bad_word : (c : Cause) → read_values ≡ Err c → IsFirstCause s k line c
          bad_word c e =
              word_cause s k line c has_it (subst (λ (ws : List (List ℕ)). WordFails s.hosts ws c) (sym parts) (word_fails s.hosts w args n w-is c len e))
              (clear s k line 5 (omega arith) (λ _. number) (λ _. text) (λ _. not_command) (λ _. not_words) (λ lt. absurd (omega arith)) (λ lt. absurd (omega arith)))

          pub no_bad_word : (vs : List Value) → read_values ≡ Ok vs → (c : Cause) → WordFails s.hosts (words line) c → ⊥
          no_bad_word vs e c f =
              let g = word_failed s.hosts w args n w-is c (subst (λ (ws : List (List ℕ)). WordFails s.hosts ws c) parts f) in
              cc

          -- ---- a line of hosts

          hosts_case : is_hosts n ≡ true → (r : Result Meaning Cause) → hosts_at s m args ≡ r → Outcome s k line r
          unfolding hosts_at
          hosts_case is (Ok t) e =
              let x = bind_ok (number_at 2 8 args) _ t e in
              let n-is = hosts_name n is in
              let w-hosts : w ≡ codes "hosts" = w-is ∙ ap name_word n-is in
              let one : length args ≡ 1 = len ∙ ap (λ (n : Name). length (places_of n)) n-is in
              record {
                number = number;
                text = text;
                step = inr (inl (record {
                  none = eqb-true s.hosts 0 (sym (same_bits _ _ is-due) ∙ is);
                  number = as_number x.0.0;
                  spelled = subst (λ (ws : List (List ℕ)). SpellsHosts ws (as_number x.0.0)) (sym parts) (hosts_spelled w args x.0 w-hosts one x.1);
                  is = sym (ok_is x.2);
                }));
              }
          hosts_case is (Err c) e = elim (bind_err (number_at 2 8 args) _ c e) [
            | inl f ↦
                let at_hosts : values_at s.hosts (first_of args) (places_of Hosts) args ≡ Err c = rw f refl in
                bad_word c (subst (λ (n : Name). values_at s.hosts (first_of args) (places_of n) args ≡ Err c) (sym (hosts_name n is)) at_hosts)
            | inr x ↦ absurd (no_error x.2)
          ]
            where
              no_error : {t : Meaning} → ◌≡◌ {A = Result Meaning Cause} (Ok t) (Err c) → ⊥
              no_error e = cc

          -- ---- a line of a command

          pub values_of_command : (c : Command) → command_at s.hosts n args ≡ Ok c → (vs : List Value) × (read_values ≡ Ok vs)
          unfolding command_at
          values_of_command c e = let x = bind_ok read_values _ c e in (x.0, x.1)

          module _ (other : is_hosts n ≡ false) (c : Command) (read : command_at s.hosts n args ≡ Ok c) where
            spelled : SpellsCommand s.hosts (words line) c
            spelled = subst (λ (ws : List (List ℕ)). SpellsCommand s.hosts ws c) (sym parts) (command_spelled s.hosts w args n w-is c other len read)

            words_stand : (d : Cause) → WordFails s.hosts (words line) d → ⊥
            words_stand = let v = values_of_command c read in no_bad_word v.0 v.1

            command_goes : (t : Meaning) → with_command s m c ≡ Ok t → Goes s k line t
            command_goes t e =
                let f = added_ok s m c t e in
                record {
                  number = number;
                  text = text;
                  step = inr (inr (record {
                    some = eqb-false s.hosts 0 (sym (same_bits _ _ is-due) ∙ other);
                    command = c;
                    spelled = spelled;
                    total = f.total;
                    cuts = f.cuts;
                    is = f.is;
                  }));
                }

            passes_total : 16777216 < payload_total s.commands + payload_len c → IsFirstCause s k line cause.Total
            passes_total lt = record {
              holds = (c, spelled, lt);
              first = clear s k line 6 (omega arith) (λ _. number) (λ _. text) (λ _. not_command) (λ _. not_words) (λ _. words_stand) (λ lt. absurd (omega arith));
            }

            passes_cuts : payload_total s.commands + payload_len c ≤ 16777216 → 1024 < cut_total s.commands + cut_count c → IsFirstCause s k line cause.Cuts
            passes_cuts le lt =
                let x = is_cut c (omega arith) in
                let one : cut_count c ≡ 1 = ap cut_count x.2 in
                record {
                  holds = (x.0, x.1, subst (SpellsCommand s.hosts (words line)) x.2 spelled, omega arith);
                  first = clear s k line 7 (omega arith) (λ _. number) (λ _. text) (λ _. not_command) (λ _. not_words) (λ _. words_stand) (λ _. fits);
                }
              where
                fits : Holds s k line cause.Total → ⊥
                fits h =
                    let same = same_command s.hosts w args h.0 c (subst (λ (ws : List (List ℕ)). SpellsCommand s.hosts ws h.0) parts h.1) (subst (λ (ws : List (List ℕ)). SpellsCommand s.hosts ws c) parts spelled) in
                    let len-is : payload_len h.0 ≡ payload_len c = ap payload_len same in
                    omega (arith, h.2)

          command_case : is_hosts n ≡ false → (r : Result Meaning Cause) → (command_at s.hosts n args >>= with_command s m) ≡ r → Outcome s k line r
          command_case other (Ok t) e =
              let x = bind_ok (command_at s.hosts n args) (with_command s m) t e in command_goes other x.0 x.1 t x.2
          command_case other (Err d) e = elim (bind_err (command_at s.hosts n args) (with_command s m) d e) [
            | inl f ↦ bad_word d (command_values s.hosts w args n w-is d f)
            | inr x ↦
                elim (added_err s m x.0 d x.2) [
                  | inl y ↦ subst (IsFirstCause s k line) y.0 (passes_total other x.0 x.1 y.1)
                  | inr y ↦ subst (IsFirstCause s k line) y.0 (passes_cuts other x.0 x.1 y.1 y.2)
                ]
          ]

        -- ---- a line whose name is known

        named_case : length args ≡ length (places_of n) → (r : Result Meaning Cause) → named s m n args ≡ r → Outcome s k line r
        unfolding named
        named_case len r e = elim (chosen (is_hosts n) (hosts_at s m args) _ r e) [
          | inl x ↦ hosts_case len x.0 r x.1
          | inr x ↦ command_case len x.0 r x.1
        ]

      counted_case : (n : Name) → w ≡ name_word n → (r : Result Meaning Cause) → counted s m n args ≡ r → Outcome s k line r
      unfolding counted
      counted_case n w-is r e = elim (chosen (beq (is_hosts n) (eqb s.hosts 0)) _ _ r e) [
        | inl x ↦
            elim (chosen (eqb (length args) (length (places_of n))) _ _ r x.1) [
              | inl y ↦ named_case n w-is x.0 (eqb-true _ _ y.0) r y.1
              | inr y ↦
                  subst (Outcome s k line) y.1 (wrong_count n w-is x.0 (λ same. eqb-false (length args) (length (places_of n)) y.0 same))
            ]
        | inr x ↦ subst (Outcome s k line) x.1 (no_command (undue s.hosts w n w-is x.0))
      ]

      words_case : (r : Result Meaning Cause) → command_line s m (w ∷ args) ≡ r → Outcome s k line r
      words_case r e = go (name_of w) refl e
        where
          go : (o : Option Name) → name_of w ≡ o → (ok_or o cause.Command >>= λ n. counted s m n args) ≡ r → Outcome s k line r
          go None none e = subst (Outcome s k line) e (no_command (unknown s.hosts w none))
          go (Some n) some e = counted_case n (name-word w n some) r e

    text_case : (r : Result Meaning Cause) → cond (has_command (words line)) (command_line s (k + 1) (words line)) (Ok s) ≡ r → Outcome s k line r
    text_case r e = elim (chosen (has_command (words line)) _ _ r e) [
      | inl x ↦
          let p = split (words line) x.0 in
          words_case p.0 p.1 p.2 p.3 r (ap (command_line s (k + 1)) (sym p.2) ∙ x.1)
      | inr x ↦
          subst (Outcome s k line) x.1 (record { number = number; text = text; step = inl (x.0, refl) })
    ]

  pub outcome : (r : Result Meaning Cause) → line_result s k line ≡ r → Outcome s k line r
  unfolding line_result line_at
  outcome r e = elim (chosen (eqb k 200000) _ _ r e) [
    | inl x ↦
        subst (Outcome s k line) x.1 (record {
          holds = eqb-true k 200000 x.0;
          first = clear s k line 1 (omega arith) (λ lt. absurd (omega arith)) (λ lt. absurd (omega arith)) (λ lt. absurd (omega arith)) (λ lt. absurd (omega arith)) (λ lt. absurd (omega arith)) (λ lt. absurd (omega arith));
        })
    | inr x ↦ few (eqb-false k 200000 x.0) x.1
  ]
    where
      few : k ≢ 200000 → line_at s (k + 1) line ≡ r → Outcome s k line r
      few number e =
          elim (chosen (list_all is_text line) _ _ r e) [
            | inl x ↦ text_case number x.0 r x.1
            | inr x ↦
                subst (Outcome s k line) x.1 (record {
                  holds = bad_byte line x.0;
                  first = clear s k line 2 (omega arith) (λ _. number) (λ lt. absurd (omega arith)) (λ lt. absurd (omega arith)) (λ lt. absurd (omega arith)) (λ lt. absurd (omega arith)) (λ lt. absurd (omega arith));
                })
          ]
