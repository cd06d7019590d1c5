-- The words of a line in their places: reading them finds the values that they stand for, or the leftmost that fails.
use Rattle.std.proofs.Common.{◌≡◌, ◌≢◌, ℕ, false, List, [], ◌∷◌, length, Result, Ok, Err, refl, sym, ap, subst, ◌∙◌, arith, inl, inr}
use Rattle.std.specs.Prelude.{option_and_then, ◌⊎◌}
use Rattle.std.specs.Str.{bytes_eq}
use Rattle.std.proofs.lemmas.Bool.{false_from_ne_true}
use Rattle.std.proofs.lemmas.Slice.Eq.{bytes_eq-Decides}
use Rattle.rds_script.specs.declared.cause.Cause.{Cause}
use Rattle.rds_script.specs.declared.cause.Cause.TheVariants as cause
use Rattle.rds_script.specs.Word.{IsHost, IsNumberIn, IsPayload}
use Rattle.rds_script.specs.Line.{Place, a_host, another_host, a_number, a_payload, Value, the_number, the_bytes, Stands, Fills}
use Rattle.rds_script.specs.Refusal.{FailsBy, LeftmostFails}
use Rattle.rds_script.specs.Reading.{host_of, numeral_of, in_range, payload_of, host_value, number_at, payload_at, other_than, peer_at, value_at, values_at}
use Rattle.rds_script.proofs.Binds.{bind_ok, bind_err, or_ok, or_err, none_from, ok_is, chosen}
use Rattle.rds_script.proofs.WordLemmas.{host-found, host-again, number_in-found, number_in-again}
use Rattle.rds_script.proofs.PayloadLemmas.{payload-found, payload-again}

-- a value with the words after it
abbrev pub With : Type 0
With = Value × List (List ℕ)

-- the value stands in the place, and these words come after it
pub record Taken (hosts : ℕ) (first : List ℕ) (p : Place) (w : List ℕ) (ws : List (List ℕ)) (x : With) : Type 0 where
  pub stands : Stands hosts first p w x.0
  pub rest : x.1 ≡ ws

module _ (hosts : ℕ) (first w : List ℕ) (ws : List (List ℕ)) where
  -- ---- the first of the words in its place

  take_as : (p : Place) (v : Value) (x : With) → Stands hosts first p w v → x ≡ (v, ws) → Taken hosts first p w ws x
  take_as p v x h e =
      let P : With → Type 0 = λ y. Taken hosts first p w ws y in
      subst P (sym e) (record { stands = h; rest = refl })

  host_taken : (x : With) → host_value hosts (w ∷ ws) ≡ Ok x → (n : ℕ) × IsHost hosts w n × (x ≡ (the_number n, ws))
  unfolding host_value
  host_taken x e =
      let o = or_ok (λ n. (the_number n, ws)) (host_of hosts w) cause.Host x e in
      (o.0, host-found hosts w o.0 o.1, sym o.2)

  host_again : (n : ℕ) → IsHost hosts w n → host_value hosts (w ∷ ws) ≡ Ok (the_number n, ws)
  unfolding host_value
  host_again n h = rw (host-again hosts w n h) refl

  no_host : (c : Cause) → host_value hosts (w ∷ ws) ≡ Err c → ((n : ℕ) → IsHost hosts w n → ⊥) × (cause.Host ≡ c)
  unfolding host_value
  no_host c e =
      let o = or_err (λ n. (the_number n, ws)) (host_of hosts w) cause.Host c e in
      (λ n h. let s = host-again hosts w n h in absurd cc, o.1)

  host_failed : ((n : ℕ) → IsHost hosts w n → ⊥) → host_value hosts (w ∷ ws) ≡ Err cause.Host
  unfolding host_value
  host_failed h = rw (none_from (host_of hosts w) (λ n e. h n (host-found hosts w n e))) refl

  peer_taken : (x : With) → peer_at hosts first (w ∷ ws) ≡ Ok x → Taken hosts first another_host w ws x
  unfolding peer_at
  peer_taken x e =
      let b = bind_ok (host_value hosts (w ∷ ws)) (other_than first w) x e in
      let h = host_taken b.0 b.1 in
      elim (chosen (bytes_eq w first) (Err cause.SameHost) (Ok b.0) (Ok x) b.2) [
        | inl t ↦ absurd (err-ok t.1)
        | inr t ↦
            take_as another_host (the_number h.0) x (h.1, λ same. differ t.0 same) (sym (ok_is t.1) ∙ h.2)
      ]
    where
      err-ok : ◌≡◌ {A = Result With Cause} (Err cause.SameHost) (Ok x) → ⊥
      err-ok e = cc

      differ : bytes_eq w first ≡ false → w ≡ first → ⊥
      differ t same = let s = (bytes_eq-Decides w first).1 same in cc

  peer_again : (n : ℕ) → IsHost hosts w n → w ≢ first → peer_at hosts first (w ∷ ws) ≡ Ok (the_number n, ws)
  unfolding peer_at
  peer_again n h other =
      rw (host_again n h, false_from_ne_true (bytes_eq w first) (λ t. other ((bytes_eq-Decides w first).0 t))) refl

  no_peer : (c : Cause) → peer_at hosts first (w ∷ ws) ≡ Err c → FailsBy hosts first another_host w c
  unfolding peer_at
  no_peer c e = go (bind_err (host_value hosts (w ∷ ws)) (other_than first w) c e)
    where
      same : (n : ℕ) → IsHost hosts w n → (x : With) → other_than first w x ≡ Err c → FailsBy hosts first another_host w c
      same n h x f =
          elim (chosen (bytes_eq w first) (Err cause.SameHost) (Ok x) (Err c) f) [
            | inl t ↦
                let is : cause.SameHost ≡ c = cc in
                subst (FailsBy hosts first another_host w) is (n, h, (bytes_eq-Decides w first).0 t.0)
            | inr t ↦ absurd (ok-err t.1)
          ]
        where
          ok-err : ◌≡◌ {A = Result With Cause} (Ok x) (Err c) → ⊥
          ok-err e = cc

      go : (host_value hosts (w ∷ ws) ≡ Err c) ⊎ ((x : With) × (host_value hosts (w ∷ ws) ≡ Ok x) × (other_than first w x ≡ Err c)) → FailsBy hosts first another_host w c
      go (inl f) = let n = no_host c f in subst (FailsBy hosts first another_host w) n.1 n.0
      go (inr f) = let h = host_taken f.0 f.1 in same h.0 h.1 f.0 f.2

  same_host : (n : ℕ) → IsHost hosts w n → w ≡ first → peer_at hosts first (w ∷ ws) ≡ Err cause.SameHost
  unfolding peer_at
  same_host n h same = rw (host_again n h, (bytes_eq-Decides w first).1 same) refl

  peer_failed : ((n : ℕ) → IsHost hosts w n → ⊥) → peer_at hosts first (w ∷ ws) ≡ Err cause.Host
  unfolding peer_at
  peer_failed h = rw (host_failed h) refl

  pub number_taken : (low high : ℕ) (x : With) → number_at low high (w ∷ ws) ≡ Ok x → Taken hosts first (a_number low high) w ws x
  unfolding number_at
  number_taken low high x e =
      let o = or_ok (λ n. (the_number n, ws)) (option_and_then (in_range low high) (numeral_of w)) cause.Number x e in
      take_as (a_number low high) (the_number o.0) x (number_in-found low high w o.0 o.1) (sym o.2)

  number_again : (low high n : ℕ) → IsNumberIn low high w n → number_at low high (w ∷ ws) ≡ Ok (the_number n, ws)
  unfolding number_at
  number_again low high n h = rw (number_in-again low high w n h) refl

  no_number : (low high : ℕ) (c : Cause) → number_at low high (w ∷ ws) ≡ Err c → FailsBy hosts first (a_number low high) w c
  unfolding number_at
  no_number low high c e =
      let o = or_err (λ n. (the_number n, ws)) (option_and_then (in_range low high) (numeral_of w)) cause.Number c e in
      subst (FailsBy hosts first (a_number low high) w) o.1 (λ n h. let s = number_in-again low high w n h in absurd cc)

  number_failed : (low high : ℕ) → ((n : ℕ) → IsNumberIn low high w n → ⊥) → number_at low high (w ∷ ws) ≡ Err cause.Number
  unfolding number_at
  number_failed low high h =
      rw (none_from (option_and_then (in_range low high) (numeral_of w)) (λ n e. h n (number_in-found low high w n e))) refl

  payload_taken : (x : With) → payload_at (w ∷ ws) ≡ Ok x → Taken hosts first a_payload w ws x
  unfolding payload_at
  payload_taken x e =
      let o = or_ok (λ b. (the_bytes b, ws)) (payload_of w) cause.Payload x e in
      take_as a_payload (the_bytes o.0) x (payload-found w o.0 o.1) (sym o.2)

  payload_again : (b : List ℕ) → IsPayload w b → payload_at (w ∷ ws) ≡ Ok (the_bytes b, ws)
  unfolding payload_at
  payload_again b h = rw (payload-again w b h) refl

  no_payload : (c : Cause) → payload_at (w ∷ ws) ≡ Err c → FailsBy hosts first a_payload w c
  unfolding payload_at
  no_payload c e =
      let o = or_err (λ b. (the_bytes b, ws)) (payload_of w) cause.Payload c e in
      subst (FailsBy hosts first a_payload w) o.1 (λ b h. let s = payload-again w b h in absurd cc)

  payload_failed : ((b : List ℕ) → IsPayload w b → ⊥) → payload_at (w ∷ ws) ≡ Err cause.Payload
  unfolding payload_at
  payload_failed h = rw (none_from (payload_of w) (λ b e. h b (payload-found w b e))) refl

  -- ---- any place

  taken : (p : Place) (x : With) → value_at hosts first p (w ∷ ws) ≡ Ok x → Taken hosts first p w ws x
  taken a_host x e = let h = host_taken x e in take_as a_host (the_number h.0) x h.1 h.2
  taken another_host x e = peer_taken x e
  taken (a_number low high) x e = number_taken low high x e
  taken a_payload x e = payload_taken x e

  pub again : (p : Place) (v : Value) → Stands hosts first p w v → value_at hosts first p (w ∷ ws) ≡ Ok (v, ws)
  again a_host (the_number n) h = host_again n h
  again a_host (the_bytes b) h = absurd h
  again another_host (the_number n) h = peer_again n h.0 h.1
  again another_host (the_bytes b) h = absurd h
  again (a_number low high) (the_number n) h = number_again low high n h
  again (a_number low high) (the_bytes b) h = absurd h
  again a_payload (the_number n) h = absurd h
  again a_payload (the_bytes b) h = payload_again b h

  fails : (p : Place) (c : Cause) → value_at hosts first p (w ∷ ws) ≡ Err c → FailsBy hosts first p w c
  fails a_host c e = let n = no_host c e in subst (FailsBy hosts first a_host w) n.1 n.0
  fails another_host c e = no_peer c e
  fails (a_number low high) c e = no_number low high c e
  fails a_payload c e = no_payload c e

  failed : (p : Place) (c : Cause) → FailsBy hosts first p w c → value_at hosts first p (w ∷ ws) ≡ Err c
  failed a_host cause.Host h = host_failed h
  failed another_host cause.Host h = peer_failed h
  failed another_host cause.SameHost h = same_host h.0 h.1 h.2
  failed (a_number low high) cause.Number h = number_failed low high h
  failed a_payload cause.Payload h = payload_failed h
  failed a_host c h = absurd h
  failed another_host c h = absurd h
  failed (a_number low high) c h = absurd h
  failed a_payload c h = absurd h

-- ---- all words of a line

module _ (hosts : ℕ) (first : List ℕ) where
  no_value : (p : Place) (x : With) → value_at hosts first p [] ≡ Ok x → ⊥
  unfolding host_value peer_at number_at payload_at host_of numeral_of payload_of
  no_value a_host x e = cc
  no_value another_host x e = cc
  no_value (a_number low high) x e = cc
  no_value a_payload x e = cc

  -- words that give a value for each place are as many as the places
  pub counted : (ps : List Place) (ws : List (List ℕ)) (vs : List Value) → values_at hosts first ps ws ≡ Ok vs → length ws ≡ length ps
  counted [] [] vs e = refl
  counted [] (w ∷ ws) vs e = absurd cc
  counted (p ∷ ps) [] vs e = let x = bind_ok (value_at hosts first p []) _ vs e in absurd (no_value p x.0 x.1)
  counted (p ∷ ps) (w ∷ ws) vs e =
      let x = bind_ok (value_at hosts first p (w ∷ ws)) _ vs e in
      let t = taken hosts first w ws p x.0 x.1 in
      let y = bind_ok (values_at hosts first ps x.0.1) _ vs x.2 in
      omega (arith, counted ps ws y.0 (ap (values_at hosts first ps) (sym t.rest) ∙ y.1))

  pub fills : (ps : List Place) (ws : List (List ℕ)) (vs : List Value) → length ws ≡ length ps → values_at hosts first ps ws ≡ Ok vs → Fills hosts first ps ws vs
  fills [] [] vs len e = subst (Fills hosts first [] []) (ok_is e) tt
  fills [] (w ∷ ws) vs len e = absurd (omega arith)
  fills (p ∷ ps) [] vs len e = absurd (omega arith)
  fills (p ∷ ps) (w ∷ ws) vs len e =
      let x = bind_ok (value_at hosts first p (w ∷ ws)) _ vs e in
      let t = taken hosts first w ws p x.0 x.1 in
      let y = bind_ok (values_at hosts first ps x.0.1) _ vs x.2 in
      let others = ap (values_at hosts first ps) (sym t.rest) ∙ y.1 in
      subst (Fills hosts first (p ∷ ps) (w ∷ ws)) (ok_is y.2) (t.stands, fills ps ws y.0 (omega arith) others)

  pub fills_again : (ps : List Place) (ws : List (List ℕ)) (vs : List Value) → Fills hosts first ps ws vs → values_at hosts first ps ws ≡ Ok vs
  fills_again [] [] [] h = refl
  fills_again (p ∷ ps) (w ∷ ws) (v ∷ vs) h = rw (again hosts first w ws p v h.0, fills_again ps ws vs h.1) refl
  fills_again ps ws vs h = absurd h

  pub fills_length : (ps : List Place) (ws : List (List ℕ)) (vs : List Value) → Fills hosts first ps ws vs → length ws ≡ length ps
  fills_length [] [] [] h = refl
  fills_length (p ∷ ps) (w ∷ ws) (v ∷ vs) h = omega (arith, fills_length ps ws vs h.1)
  fills_length ps ws vs h = absurd h

  pub leftmost_fails : (ps : List Place) (ws : List (List ℕ)) (c : Cause) → length ws ≡ length ps → values_at hosts first ps ws ≡ Err c → LeftmostFails hosts first ps ws c
  leftmost_fails [] [] c len e = absurd cc
  leftmost_fails [] (w ∷ ws) c len e = absurd (omega arith)
  leftmost_fails (p ∷ ps) [] c len e = absurd (omega arith)
  leftmost_fails (p ∷ ps) (w ∷ ws) c len e =
      elim (bind_err (value_at hosts first p (w ∷ ws)) _ c e) [
        | inl f ↦ inl (fails hosts first w ws p c f)
        | inr x ↦
            let t = taken hosts first w ws p x.0 x.1 in
            elim (bind_err (values_at hosts first ps x.0.1) _ c x.2) [
              | inl f ↦ inr (x.0.0, t.stands, leftmost_fails ps ws c (omega arith) (ap (values_at hosts first ps) (sym t.rest) ∙ f))
              | inr y ↦ absurd (no_error y.2)
            ]
      ]
    where
      no_error : {vs : List Value} → ◌≡◌ {A = Result (List Value) Cause} (Ok vs) (Err c) → ⊥
      no_error e = cc

  pub leftmost_failed : (ps : List Place) (ws : List (List ℕ)) (c : Cause) → LeftmostFails hosts first ps ws c → values_at hosts first ps ws ≡ Err c
  leftmost_failed (p ∷ ps) (w ∷ ws) c (inl f) = rw (failed hosts first w ws p c f) refl
  leftmost_failed (p ∷ ps) (w ∷ ws) c (inr f) =
      rw (again hosts first w ws p f.0 f.1, leftmost_failed ps ws c f.2) refl
  leftmost_failed ps ws c h = absurd h
