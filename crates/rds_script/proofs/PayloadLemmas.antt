-- A payload that is read is the one that its word spells.
use Rattle.std.proofs.Common.{◌≡◌, ℕ, ◌+◌, ◌*◌, ◌%◌, ◌<◌, ◌≤◌, Bool, true, false, cond, leb, eqb, List, [], ◌∷◌, length, Option, Some, None, Result, Ok, Err, refl, sym, ap, subst, ◌∙◌, arith, inl, inr}
use Rattle.std.specs.Prelude.{◌⊎◌}
use Rattle.std.specs.Char.{digit_value}
use Rattle.std.specs.Result.{result_ok}
use Rattle.std.proofs.lemmas.Bool.{leb-true, le-leb, eqb-true, ne_eqb}
use Rattle.std.proofs.lemmas.Bool.Decides.{nat_tests}
use Rattle.std.proofs.lemmas.List.FromFn.{fill_by_all, get_or-map-range_with_len, length-map-range_with_len}
use Rattle.std.proofs.lemmas.Option.{cond_some, option_and_then_some}
use Rattle.hex.specs.declared.error.FromHexError.{FromHexError}
use Rattle.hex.specs.declared.error.FromHexError.TheVariants.{OddLength}
use Rattle.hex.specs.Hex as hex
use Rattle.hex.specs.Hex.{decode_of, decode_pairs, hex_digit_value, pair_value, value_at, digit_or_error}
use Rattle.rds_script.specs.Word.{IsNumber, IsHex, IsCount, IsPayload, IsPlain, IsHexed, IsFilled}
use Rattle.rds_script.specs.Reading.{numeral_of, limited, counting, filled, hexed, formed, payload_of}
use Rattle.rds_script.proofs.Binds.{ok_is, ok_of, guard_some, chosen}
use Rattle.rds_script.proofs.WordLemmas.{number-found, number-again}

-- ---- hexadecimal digits

digit-found : (c v : ℕ) → hex_digit_value c ≡ Some v → (digit_value c < 16) × (v ≡ digit_value c)
digit-found c v e = grind (arith, nat_tests)

digit-again : (c : ℕ) → digit_value c < 16 → hex_digit_value c ≡ Some (digit_value c)
digit-again c lt = grind (arith, nat_tests)

-- ---- bytes that count up

count-found : (n : ℕ) → IsCount (counting n)
count-found n i lt =
    get_or-map-range_with_len (λ (k : ℕ). k % 256) 0 n i i 0 (omega (arith, length-map-range_with_len (λ (k : ℕ). k % 256) 0 n)) (omega arith)

count-again : (bytes : List ℕ) → IsCount bytes → bytes ≡ counting (length bytes)
count-again bytes h = fill_by_all (λ (k : ℕ). k % 256) bytes (length bytes) 0 refl h

-- ---- the limit

limited-found : (b c : List ℕ) → limited b ≡ Some c → (length b ≤ 2097152) × (b ≡ c)
limited-found b c e = let x = cond_some _ _ _ e in (leb-true _ _ x.0, x.1)

limited-again : (b : List ℕ) → length b ≤ 2097152 → limited b ≡ Some b
limited-again b le = rw (le-leb _ _ le) refl

-- ---- pairs of hexadecimal digits

hex_bind_ok : {A B : Type 0} (r : Result A FromHexError) (f : A → Result B FromHexError) (y : B) → (hex.◌>>=◌ r f) ≡ Ok y → (x : A) × (r ≡ Ok x) × (f x ≡ Ok y)
hex_bind_ok (Ok x) f y e = (x, refl, e)
hex_bind_ok (Err d) f y e = absurd cc

value-found : (c i v : ℕ) → value_at c i ≡ Ok v → hex_digit_value c ≡ Some v
value-found c i v e = go (hex_digit_value c) e
  where
    go : (o : Option ℕ) → digit_or_error c i o ≡ Ok v → o ≡ Some v
    go (Some x) e = cc
    go None e = absurd cc

swap_sum : (x y u v b : ℕ) → x * 16 + y ≡ b → x ≡ u → y ≡ v → b ≡ 16 * u + v
swap_sum x y u v b e p q = omega arith

swap_back : (u v b : ℕ) → b ≡ 16 * u + v → u * 16 + v ≡ b
swap_back u v b e = omega arith

-- the byte of two digits
pair-found : (high low i b : ℕ) → pair_value high low i ≡ Ok b → (digit_value high < 16) × (digit_value low < 16) × (b ≡ 16 * digit_value high + digit_value low)
pair-found high low i b e =
    let x = hex_bind_ok (value_at high i) _ b e in
    let y = hex_bind_ok (value_at low (i + 1)) _ b x.2 in
    let h = digit-found high x.0 (value-found high i x.0 x.1) in
    let l = digit-found low y.0 (value-found low (i + 1) y.0 y.1) in
    (h.0, l.0, swap_sum x.0 y.0 _ _ b (ok_is y.2) h.1 l.1)

pair-again : (high low i : ℕ) → digit_value high < 16 → digit_value low < 16 → pair_value high low i ≡ Ok (digit_value high * 16 + digit_value low)
pair-again high low i h l = rw (digit-again high h, digit-again low l) refl

pub pairs-found : (i : ℕ) (digits b : List ℕ) → decode_pairs i digits ≡ Ok b → IsHex digits b
unfolding decode_pairs
pairs-found i [] b e = subst (IsHex []) (ok_is e) tt
pairs-found i (digit ∷ []) b e = absurd cc
pairs-found i (high ∷ low ∷ digits) b e =
    let x = hex_bind_ok (pair_value high low i) _ b e in
    let y = hex_bind_ok (decode_pairs (i + 2) digits) _ b x.2 in
    let p = pair-found high low i x.0 x.1 in
    subst (IsHex (high ∷ low ∷ digits)) (ok_is y.2) (p.0, p.1, p.2, pairs-found (i + 2) digits y.0 y.1)

pub pairs-again : (i : ℕ) (digits b : List ℕ) → IsHex digits b → decode_pairs i digits ≡ Ok b
unfolding decode_pairs
pairs-again i [] [] h = refl
pairs-again i [] (byte ∷ bytes) h = absurd h
pairs-again i (digit ∷ []) [] h = absurd h
pairs-again i (digit ∷ []) (byte ∷ bytes) h = absurd h
pairs-again i (high ∷ low ∷ digits) [] h = absurd h
pairs-again i (high ∷ low ∷ digits) (byte ∷ bytes) h =
    let e : digit_value high * 16 + digit_value low ≡ byte = swap_back _ _ byte h.2 in
    rw (pair-again high low i h.0 h.1, pairs-again (i + 2) digits bytes h.3) (ap (λ (b : ℕ). Ok (b ∷ bytes)) e)

pairs-even : (digits b : List ℕ) → IsHex digits b → length digits ≡ 2 * length b
pairs-even [] [] h = refl
pairs-even [] (byte ∷ bytes) h = absurd h
pairs-even (digit ∷ []) [] h = absurd h
pairs-even (digit ∷ []) (byte ∷ bytes) h = absurd h
pairs-even (high ∷ low ∷ digits) [] h = absurd h
pairs-even (high ∷ low ∷ digits) (byte ∷ bytes) h = omega (arith, pairs-even digits bytes h.3)

decode-found : (digits b : List ℕ) → decode_of digits ≡ Ok b → IsHex digits b
decode-found digits b e = go (eqb (length digits % 2) 1) e
  where
    go : (t : Bool) → cond t (Err OddLength) (decode_pairs 0 digits) ≡ Ok b → IsHex digits b
    go true e = absurd cc
    go false e = pairs-found 0 digits b e

decode-again : (digits b : List ℕ) → IsHex digits b → decode_of digits ≡ Ok b
decode-again digits b h =
    let even = pairs-even digits b h in
    rw (ne_eqb (length digits % 2) 1 (λ odd. absurd (omega arith))) (pairs-again 0 digits b h)

-- ---- the three forms

hexed-found : (digits b : List ℕ) → hexed digits ≡ Some b → IsHex digits b × (length b ≤ 2097152)
unfolding hexed
hexed-found digits b e =
    option_and_then_some limited (result_ok (decode_of digits)) b e
    (λ x x-is l-is. let l = limited-found x b l-is in subst (λ (y : List ℕ). IsHex digits y × (length y ≤ 2097152)) l.1 (decode-found digits x (ok_of (decode_of digits) x x-is), l.0))

hexed-again : (digits b : List ℕ) → IsHex digits b → length b ≤ 2097152 → hexed digits ≡ Some b
unfolding hexed
hexed-again digits b h le = rw (decode-again digits b h) (limited-again b le)

abbrev Filled : List ℕ → List ℕ → Type 0
Filled digits b = IsNumber digits (length b) × IsCount b × (length b ≤ 2097152)

filled-found : (digits b : List ℕ) → filled digits ≡ Some b → Filled digits b
unfolding filled
filled-found digits b e =
    option_and_then_some (λ n. cond (leb n 2097152) (limited (counting n)) None) (numeral_of digits) b e (λ n n-is f-is. all n n-is (guard_some (leb n 2097152) (limited (counting n)) b f-is).1)
  where
    all : (n : ℕ) → numeral_of digits ≡ Some n → limited (counting n) ≡ Some b → Filled digits b
    all n n-is l-is =
        let l = limited-found (counting n) b l-is in
        let len : n ≡ length (counting n) = sym (length-map-range_with_len (λ (k : ℕ). k % 256) 0 n) in
        subst (Filled digits) l.1 (subst (IsNumber digits) len (number-found digits n n-is), count-found n, l.0)

filled-again : (digits b : List ℕ) → IsNumber digits (length b) → IsCount b → length b ≤ 2097152 → filled digits ≡ Some b
unfolding filled
filled-again digits b n c le =
    rw (number-again digits (length b) n, le-leb (length b) 2097152 le) (ap limited (sym (count-again b c)) ∙ limited-again b le)

-- the letter of a form and the rest of its word
module _ (form : ℕ) (rest b : List ℕ) where
  abbrev Formed : Type 0
  Formed = IsPayload (form ∷ 58 ∷ rest) b

  of_count : (eqb form 102 ≡ true) × (filled rest ≡ Some b) → Formed
  of_count t =
      let f = filled-found rest b t.1 in
      record { form = inr (inr (rest, ap (λ (k : ℕ). k ∷ 58 ∷ rest) (eqb-true form 102 t.0), f.0, f.1)); few = f.2 }

  of_digits : ((eqb form 120 ≡ true) × (hexed rest ≡ Some b)) ⊎ ((eqb form 120 ≡ false) × (cond (eqb form 102) (filled rest) None ≡ Some b)) → Formed
  of_digits (inl t) =
      let h = hexed-found rest b t.1 in
      record { form = inr (inl (rest, ap (λ (k : ℕ). k ∷ 58 ∷ rest) (eqb-true form 120 t.0), h.0)); few = h.1 }
  of_digits (inr t) = of_count (guard_some (eqb form 102) (filled rest) b t.1)

  of_form : ((eqb form 116 ≡ true) × (limited rest ≡ Some b)) ⊎ ((eqb form 116 ≡ false) × (cond (eqb form 120) (hexed rest) (cond (eqb form 102) (filled rest) None) ≡ Some b)) → Formed
  of_form (inl t) =
      let l = limited-found rest b t.1 in
      let f-is = eqb-true form 116 t.0 in
      record { form = inl cc; few = subst (λ (y : List ℕ). length y ≤ 2097152) l.1 l.0 }
  of_form (inr t) = of_digits (chosen (eqb form 120) (hexed rest) _ (Some b) t.1)

  formed-found : formed form rest ≡ Some b → Formed
  unfolding formed
  formed-found e = of_form (chosen (eqb form 116) (limited rest) _ (Some b) e)

pub payload-found : (word b : List ℕ) → payload_of word ≡ Some b → IsPayload word b
unfolding payload_of
payload-found [] b e = absurd cc
payload-found (form ∷ []) b e = absurd cc
payload-found (form ∷ colon ∷ rest) b e =
    let c = guard_some (eqb colon 58) _ b e in
    subst (λ (k : ℕ). IsPayload (form ∷ k ∷ rest) b) (sym (eqb-true colon 58 c.0)) (formed-found form rest b c.1)

pub payload-again : (word b : List ℕ) → IsPayload word b → payload_of word ≡ Some b
unfolding payload_of formed
payload-again word b h = of_form h.form
  where
    of_form : IsPlain word b ⊎ (IsHexed word b ⊎ IsFilled word b) → payload_of word ≡ Some b
    of_form (inl e) = rw e (limited-again b h.few)
    of_form (inr (inl x)) = rw x.1 (hexed-again x.0 b x.2 h.few)
    of_form (inr (inr x)) = rw x.1 (filled-again x.0 b x.2 x.3 h.few)
