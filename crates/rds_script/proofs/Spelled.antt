-- A line of a name: what reading its words gives is what they spell.
use Rattle.std.proofs.Common.{◌≡◌, ℕ, ◌≤◌, true, false, List, [], ◌∷◌, length, Option, Some, Result, Ok, Err, refl, sym, ap, subst, ◌∙◌, arith, inl, inr, codes}
use Rattle.std.specs.Prelude.{IsSomeAnd}
use Rattle.rds_script.specs.declared.cause.Cause.{Cause}
use Rattle.rds_script.specs.declared.script.Command.{Command}
use Rattle.rds_script.specs.declared.name.Name.{Name}
use Rattle.rds_script.specs.declared.name.Name.TheVariants.{Hosts, Bind, BindAny, Send, Recv, Cancel, Close, Open, Move, Cut, Drain}
use Rattle.rds_script.specs.Line.{Place, a_number, Value, the_number, Fills, places, first_of, values_of, SpellsHosts, SpellsCommand}
use Rattle.rds_script.specs.Refusal.{LeftmostFails, WordFails}
use Rattle.rds_script.specs.Reading.{name_word, places_of, is_hosts, as_number, command_of, number_at, values_at, command_at}
use Rattle.rds_script.proofs.Binds.{bind_ok, bind_err, ok_is}
use Rattle.rds_script.proofs.Places.{With, number_taken, again, fills, fills_again, fills_length, leftmost_fails, leftmost_failed}
use Rattle.rds_script.proofs.NameLemmas.{places-of, named_by, named, made, hosts_made}

-- ---- names

pub hosts_name : (n : Name) → is_hosts n ≡ true → n ≡ Hosts
hosts_name Hosts e = refl
hosts_name Bind e = absurd cc
hosts_name BindAny e = absurd cc
hosts_name Send e = absurd cc
hosts_name Recv e = absurd cc
hosts_name Cancel e = absurd cc
hosts_name Close e = absurd cc
hosts_name Open e = absurd cc
hosts_name Move e = absurd cc
hosts_name Cut e = absurd cc
hosts_name Drain e = absurd cc

module _ (hosts : ℕ) (w : List ℕ) (args : List (List ℕ)) where
  -- ---- the row of a name

  abbrev FillsRow : List Value → Option (List Place) → Type 0
  FillsRow vs row = IsSomeAnd row (λ ps. Fills hosts (first_of args) ps args vs)

  abbrev FailsRow : Cause → Option (List Place) → Type 0
  FailsRow c row = IsSomeAnd row (λ ps. LeftmostFails hosts (first_of args) ps args c)

  module _ (n : Name) (w-is : w ≡ name_word n) where
    row-is : places w ≡ Some (places_of n)
    row-is = ap places w-is ∙ places-of n

    fills_row : (vs : List Value) → Fills hosts (first_of args) (places_of n) args vs → FillsRow vs (places w)
    fills_row vs f = subst (FillsRow vs) (sym row-is) f

    of_row : (vs : List Value) → FillsRow vs (places w) → Fills hosts (first_of args) (places_of n) args vs
    of_row vs f = subst (FillsRow vs) row-is f

    pub word_fails : (c : Cause) → length args ≡ length (places_of n) → values_at hosts (first_of args) (places_of n) args ≡ Err c → WordFails hosts (w ∷ args) c
    word_fails c len e =
        subst (FailsRow c) (sym row-is) (leftmost_fails hosts (first_of args) (places_of n) args c len e)

    pub word_failed : (c : Cause) → WordFails hosts (w ∷ args) c → values_at hosts (first_of args) (places_of n) args ≡ Err c
    word_failed c f = leftmost_failed hosts (first_of args) (places_of n) args c (subst (FailsRow c) row-is f)

    -- ---- a command

    pub command_spelled : (c : Command) → is_hosts n ≡ false → length args ≡ length (places_of n) → command_at hosts n args ≡ Ok c → SpellsCommand hosts (w ∷ args) c
    unfolding command_at
    command_spelled c other len e =
        let x = bind_ok (values_at hosts (first_of args) (places_of n) args) _ c e in
        let f = fills hosts (first_of args) (places_of n) args x.0 len x.1 in
        let m = made hosts (first_of args) n args x.0 other f in
        let spells : SpellsCommand hosts (w ∷ args) (command_of n x.0) = (w-is ∙ sym m.word, fills_row (values_of (command_of n x.0)) (subst (Fills hosts (first_of args) (places_of n) args) (sym m.values) f)) in
        subst (SpellsCommand hosts (w ∷ args)) (ok_is x.2) spells

    pub command_values : (c : Cause) → command_at hosts n args ≡ Err c → values_at hosts (first_of args) (places_of n) args ≡ Err c
    unfolding command_at
    command_values c e = elim (bind_err (values_at hosts (first_of args) (places_of n) args) _ c e) [
      | inl f ↦ f
      | inr x ↦ absurd (no_error x.2)
    ]
      where
        no_error : {d : Command} → ◌≡◌ {A = Result Command Cause} (Ok d) (Err c) → ⊥
        no_error e = cc

    pub command_failed : (c : Cause) → values_at hosts (first_of args) (places_of n) args ≡ Err c → command_at hosts n args ≡ Err c
    unfolding command_at
    command_failed c e = rw e refl

  -- the name of a line that spells a command, and what reading it gives
  pub record IsCommandLine (c : Command) (n : Name) : Type 0 where
    pub word : w ≡ name_word n
    pub other : is_hosts n ≡ false
    pub len : length args ≡ length (places_of n)
    pub read : command_at hosts n args ≡ Ok c

  -- the words after the first stand for the values of the command
  pub command_fills : (c : Command) → SpellsCommand hosts (w ∷ args) c → Fills hosts (first_of args) (places_of (named_by c)) args (values_of c)
  command_fills c h = of_row (named_by c) (h.0 ∙ sym (named c).word) (values_of c) h.1

  pub command_read : (c : Command) → SpellsCommand hosts (w ∷ args) c → IsCommandLine c (named_by c)
  unfolding command_at
  command_read c h =
      let n = named_by c in
      let k = named c in
      let w-is : w ≡ name_word n = h.0 ∙ sym k.word in
      let f = of_row n w-is (values_of c) h.1 in
      record {
        word = w-is;
        other = k.other;
        len = fills_length hosts (first_of args) (places_of n) args (values_of c) f;
        read = rw (fills_again hosts (first_of args) (places_of n) args (values_of c) f) (ap Ok k.made);
      }

-- ---- the line of the hosts

module _ (w : List ℕ) (args : List (List ℕ)) where
  pub hosts_spelled : (x : With) → w ≡ codes "hosts" → length args ≡ 1 → number_at 2 8 args ≡ Ok x → SpellsHosts (w ∷ args) (as_number x.0)
  hosts_spelled x w-is len e =
      let f = fills 0 (first_of args) (places_of Hosts) args (x.0 ∷ []) len (value args len e) in
      let v-is = hosts_made 0 (first_of args) args x.0 f in
      (w-is, fills_row 0 w args Hosts w-is (the_number (as_number x.0) ∷ []) (subst (λ (v : Value). Fills 0 (first_of args) (places_of Hosts) args (v ∷ [])) v-is f))
    where
      value : (ws : List (List ℕ)) → length ws ≡ 1 → number_at 2 8 ws ≡ Ok x → values_at 0 (first_of ws) (places_of Hosts) ws ≡ Ok (x.0 ∷ [])
      value [] len e = absurd (omega arith)
      value (w ∷ []) len e = let t = number_taken 0 w w [] 2 8 x e in rw (e, t.rest) refl
      value (v ∷ w ∷ ws) len e = absurd (omega arith)

  -- reading a line that spells the hosts
  pub record IsHostsLine (m : ℕ) : Type 0 where
    pub word : w ≡ codes "hosts"
    pub len : length args ≡ 1
    pub read : number_at 2 8 args ≡ Ok (the_number m, [])
    pub range : (2 ≤ m) × (m ≤ 8)

  pub hosts_read : (m : ℕ) → SpellsHosts (w ∷ args) m → IsHostsLine m
  hosts_read m h =
      let f = of_row 0 w args Hosts h.0 (the_number m ∷ []) h.1 in
      record {
        word = h.0;
        len = fills_length 0 (first_of args) (places_of Hosts) args (the_number m ∷ []) f;
        read = number args f;
        range = in_range args f;
      }
    where
      in_range : (ws : List (List ℕ)) → Fills 0 (first_of ws) (places_of Hosts) ws (the_number m ∷ []) → (2 ≤ m) × (m ≤ 8)
      in_range [] f = absurd f
      in_range (x ∷ []) f = (f.0.from, f.0.to)
      in_range (x ∷ y ∷ ws) f = absurd f.1

      number : (ws : List (List ℕ)) → Fills 0 (first_of ws) (places_of Hosts) ws (the_number m ∷ []) → number_at 2 8 ws ≡ Ok (the_number m, [])
      number [] f = absurd f
      number (x ∷ []) f = again 0 x x [] (a_number 2 8) (the_number m) f.0
      number (x ∷ y ∷ ws) f = absurd f.1
