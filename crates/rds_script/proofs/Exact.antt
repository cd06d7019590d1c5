-- Words that are counted only where they give no value.
use Rattle.std.proofs.Common.{◌≡◌, ℕ, Bool, true, false, cond, eqb, not, List, length, Result, Ok, Err, refl, sym, ◌∙◌}
use Rattle.std.specs.Bool.{beq}
use Rattle.std.specs.Result.{is_err}
use Rattle.std.proofs.lemmas.Bool.{eq-eqb}
use Rattle.rds_script.specs.declared.cause.Cause.{Cause}
use Rattle.rds_script.specs.declared.cause.Cause.TheVariants as cause
use Rattle.rds_script.specs.declared.fault.Fault.{Fault}
use Rattle.rds_script.specs.declared.fault.Fault.TheVariants as fault
use Rattle.rds_script.specs.declared.script.Command.{Command}
use Rattle.rds_script.specs.declared.name.Name.{Name}
use Rattle.rds_script.specs.declared.name.Name.TheVariants.{Hosts}
use Rattle.rds_script.specs.Line.{first_of}
use Rattle.rds_script.specs.Reading.{◌>>=◌, GivesOrMemory, Fails, is_hosts, places_of, values_at, command_at, with_command, hosts_at, exact, named, counted}
use Rattle.rds_script.specs.Grammar.{Meaning}
use Rattle.rds_script.proofs.Binds.{bind_ok}
use Rattle.rds_script.proofs.Places as places
use Rattle.rds_script.proofs.Spelled.{hosts_name}

module _ (hosts : ℕ) (n : Name) (ws : List (List ℕ)) where
  -- a command that was read has its number of words
  pub exact_read : (c : Command) → command_at hosts n ws ≡ Ok c → exact n ws (command_at hosts n ws) ≡ Ok c
  unfolding command_at
  exact_read c e =
      let x = bind_ok (values_at hosts (first_of ws) (places_of n) ws) _ c e in
      rw (eq-eqb _ _ (places.counted hosts (first_of ws) (places_of n) ws x.0 x.1)) e

  -- the same, where the answer is no fault
  pub exact_found : (r : Result Command Fault) → is_err r ≡ false → GivesOrMemory (λ c. c) r (command_at hosts n ws) → GivesOrMemory (λ c. c) r (exact n ws (command_at hosts n ws))
  exact_found (Ok c) e h = exact_read c h
  exact_found (Err f) e h = absurd cc

  -- words that are as many as the name wants
  pub exact_counted : (r : Result Command Fault) (read : Result Command Cause) → length ws ≡ length (places_of n) → GivesOrMemory (λ c. c) r read → GivesOrMemory (λ c. c) r (exact n ws read)
  exact_counted r read len h = rw (eq-eqb _ _ len) h

  -- a step after words that are counted
  pub exact_then : {A B : Type 0} (r : Result A Cause) (f : A → Result B Cause) → (exact n ws r >>= f) ≡ exact n ws (r >>= f)
  exact_then r f = go (eqb (length ws) (length (places_of n)))
    where
      go : (t : Bool) → (cond t r (Err cause.Words) >>= f) ≡ cond t (r >>= f) (Err cause.Words)
      go true = refl
      go false = refl

-- ---- the words after a name that is due

pub is_due : (n : Name) (a b : Bool) → a ≡ is_hosts n → not (beq a b) ≡ false → beq (is_hosts n) b ≡ true
is_due n true true a-is e = rw (← a-is) refl
is_due n false false a-is e = rw (← a-is) refl
is_due n true false a-is e = absurd cc
is_due n false true a-is e = absurd cc

module _ (s : Meaning) (m : ℕ) (n : Name) (ws : List (List ℕ)) (due : beq (is_hosts n) (eqb s.hosts 0) ≡ true) where
  pub counted_hosts : is_hosts n ≡ true → counted s m n ws ≡ exact Hosts ws (hosts_at s m ws)
  unfolding counted named
  counted_hosts is = rw (due, is, hosts_name n is) refl

  pub counted_command : is_hosts n ≡ false → counted s m n ws ≡ (exact n ws (command_at s.hosts n ws) >>= with_command s m)
  unfolding counted named
  counted_command other =
      rw (due, other) (sym (exact_then s.hosts n ws (command_at s.hosts n ws) (with_command s m)))

  pub counted_read : is_hosts n ≡ false → (c : Command) → exact n ws (command_at s.hosts n ws) ≡ Ok c → counted s m n ws ≡ with_command s m c
  counted_read other c e = counted_command other ∙ rw e refl

  pub counted_fails : is_hosts n ≡ false → (f : Fault) → Fails f (exact n ws (command_at s.hosts n ws)) → Fails f (counted s m n ws)
  counted_fails other (fault.Refused e) h = counted_command other ∙ rw h refl
  counted_fails other fault.Memory h = tt
