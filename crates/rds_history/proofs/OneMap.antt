-- The congestion map of a host has the ports that its marks say.
use Rattle.std.proofs.Common.{◌≡◌, ◌≢◌, ◌==◌, ◌&&◌, ℕ, ◌/◌, ◌%◌, ◌<◌, ◌≤◌, ◌^◌, ◌-◌, Bool, true, false, cond, List, [], ◌∷◌, length, slice_index, slice_set, bit_or, bit_and, refl, sym, ap, ◌∙◌, subst, arith, ⊎_elim}
use Rattle.std.proofs.lemmas.Bool.{cases_eq, cases_lt, eq-eqb, ne_eqb}
use Rattle.std.proofs.lemmas.List.{get_or-set_other, get_or_past, length-set, length-replicate, get_or-replicate}
use Rattle.std.proofs.lemmas.List.Elements.{All-set, All-replicate}
use Rattle.std.proofs.lemmas.Nat.{or_lt, and_le_l, pow_below}
use Rattle.std.proofs.lemmas.Nat.Bits.{bit_at-zero}
use Rattle.std.specs.Int.{bit_at}
use Rattle.rds_wire.specs.Bytes.{IsBytes}
use Rattle.rds_cong.specs.Map.{has_port, no_ports, with_port, without_port}
use Rattle.rds_cong.specs.ChangeLaws.{has_port-with, has_port-without}
use Rattle.rds_history.specs.Events.{Event, Appended, Bound, Closed, Received, Marked, Moved, Printed}
use Rattle.rds_history.specs.Journals.{own_map, is_marked}

-- a byte that is set changes no port of another byte
elsewhere : (map : List ℕ) (i q v : ℕ) → q / 8 ≢ i → has_port (slice_set map i v) q ≡ has_port map q
elsewhere map i q v other = ap (λ b. bit_at b (q % 8) == 1) (get_or-set_other map i (q / 8) v 0 other)

module _ (map : List ℕ) (port q : ℕ) (long : length map ≡ 8192) (low : q < 65536) where
  put : has_port (with_port map port) q ≡ cond (port == q) true (has_port map q)
  put = ⊎_elim
      (λ (same : port ≡ q).
      let within : port / 8 < length map = subst (λ n. port / 8 < n) (sym long) (omega arith) in
      has_port-with map port q within ∙ rw (eq-eqb q port (sym same), eq-eqb port q same) refl)
      (λ (other : port ≢ q).
      let isnt : q ≢ port = λ e. other (sym e) in
      rw (ne_eqb port q other)
      (⊎_elim
      (λ (within : port / 8 < 8192). has_port-with map port q (subst (λ n. port / 8 < n) (sym long) within) ∙ rw (ne_eqb q port isnt) refl)
      (λ (beyond : 8192 ≤ port / 8). elsewhere map (port / 8) q (bit_or (slice_index map (port / 8)) (2 ^ (port % 8))) (λ e. omega (arith, e)))
      (cases_lt (port / 8) 8192)))
      (cases_eq port q)

  take : has_port (without_port map port) q ≡ cond (port == q) false (has_port map q)
  take = ⊎_elim
      (λ (same : port ≡ q).
      let within : port / 8 < length map = subst (λ n. port / 8 < n) (sym long) (omega arith) in
      has_port-without map port q within ∙ rw (eq-eqb q port (sym same), eq-eqb port q same) refl)
      (λ (other : port ≢ q).
      let isnt : q ≢ port = λ e. other (sym e) in
      rw (ne_eqb port q other)
      (⊎_elim
      (λ (within : port / 8 < 8192). has_port-without map port q (subst (λ n. port / 8 < n) (sym long) within) ∙ rw (ne_eqb q port isnt) refl)
      (λ (beyond : 8192 ≤ port / 8). elsewhere map (port / 8) q (bit_and (slice_index map (port / 8)) (255 - 2 ^ (port % 8))) (λ e. omega (arith, e)))
      (cases_lt (port / 8) 8192)))
      (cases_eq port q)

  -- a mark of this host's or another's
  raised : (own rest : Bool) → has_port map q ≡ rest → has_port (cond own (with_port map port) map) q ≡ cond (own && (port == q)) true rest
  raised true rest is = put ∙ ap (cond (port == q) true) is
  raised false rest is = is

  lowered : (own rest : Bool) → has_port map q ≡ rest → has_port (cond own (without_port map port) map) q ≡ cond (own && (port == q)) false rest
  lowered true rest is = take ∙ ap (cond (port == q) false) is
  lowered false rest is = is

length_if : (own : Bool) (changed map : List ℕ) → length changed ≡ 8192 → length map ≡ 8192 → length (cond own changed map) ≡ 8192
length_if true changed map a b = a
length_if false changed map a b = b

pub length-own_map : (h : ℕ) (past : List Event) → length (own_map h past) ≡ 8192
unfolding no_ports
length-own_map h [] = length-replicate {A = ℕ} 8192 0
length-own_map h (Marked host port true queued limit ∷ past) =
    let m = length-own_map h past in length_if (host == h) _ _ (length-set (own_map h past) (port / 8) _ ∙ m) m
length-own_map h (Marked host port false queued limit ∷ past) =
    let m = length-own_map h past in length_if (host == h) _ _ (length-set (own_map h past) (port / 8) _ ∙ m) m
length-own_map h (Appended a b entry ∷ past) = length-own_map h past
length-own_map h (Bound a port slot sndbuf rcvbuf ∷ past) = length-own_map h past
length-own_map h (Closed a port slot unread ∷ past) = length-own_map h past
length-own_map h (Received a port slot item ∷ past) = length-own_map h past
length-own_map h (Moved a b count ∷ past) = length-own_map h past
length-own_map h (Printed line ∷ past) = length-own_map h past

-- the map is bytes
byte_at : (map : List ℕ) (i : ℕ) → IsBytes map → slice_index map i < 256
byte_at map i bytes = ⊎_elim
    (λ (within : i < length map). bytes i 0 within)
    (λ (beyond : length map ≤ i). let none : slice_index map i ≡ 0 = get_or_past map i 0 beyond in omega arith)
    (cases_lt i (length map))

IsBytes-put : (map : List ℕ) (port : ℕ) → IsBytes map → IsBytes (with_port map port)
IsBytes-put map port bytes =
    let bit : 2 ^ (port % 8) < 2 ^ 8 = pow_below (port % 8) 8 (omega arith) in
    All-set (λ b. b < 256) map (port / 8) _ (or_lt 8 (slice_index map (port / 8)) (2 ^ (port % 8)) (byte_at map (port / 8) bytes) bit) bytes

IsBytes-taken : (map : List ℕ) (port : ℕ) → IsBytes map → IsBytes (without_port map port)
IsBytes-taken map port bytes =
    let byte = byte_at map (port / 8) bytes in
    let less : bit_and (slice_index map (port / 8)) (255 - 2 ^ (port % 8)) ≤ slice_index map (port / 8) =
    and_le_l (slice_index map (port / 8)) (255 - 2 ^ (port % 8)) in
    All-set (λ b. b < 256) map (port / 8) _ (omega arith) bytes

bytes_if : (own : Bool) (changed map : List ℕ) → IsBytes changed → IsBytes map → IsBytes (cond own changed map)
bytes_if true changed map a b = a
bytes_if false changed map a b = b

pub IsBytes-own_map : (h : ℕ) (past : List Event) → IsBytes (own_map h past)
unfolding no_ports
IsBytes-own_map h [] = All-replicate (λ b. b < 256) 8192 0 (omega arith)
IsBytes-own_map h (Marked host port true queued limit ∷ past) =
    let older = IsBytes-own_map h past in
    bytes_if (host == h) (with_port (own_map h past) port) (own_map h past) (IsBytes-put (own_map h past) port older) older
IsBytes-own_map h (Marked host port false queued limit ∷ past) =
    let older = IsBytes-own_map h past in
    bytes_if (host == h) (without_port (own_map h past) port) (own_map h past) (IsBytes-taken (own_map h past) port older) older
IsBytes-own_map h (_ ∷ past) = IsBytes-own_map h past

-- each port of the map is one whose last mark set it
pub one_map : (h : ℕ) (past : List Event) (q : ℕ) → q < 65536 → has_port (own_map h past) q ≡ is_marked h q past
unfolding no_ports
one_map h [] q low =
    ap (λ b. bit_at b (q % 8) == 1) (get_or-replicate 8192 (q / 8) 0 0 (omega arith)) ∙ ap (λ b. b == 1) (bit_at-zero (q % 8))
one_map h (Marked host port true queued limit ∷ past) q low =
    raised (own_map h past) port q (length-own_map h past) low (host == h) (is_marked h q past) (one_map h past q low)
one_map h (Marked host port false queued limit ∷ past) q low =
    lowered (own_map h past) port q (length-own_map h past) low (host == h) (is_marked h q past) (one_map h past q low)
one_map h (Appended a b entry ∷ past) q low = one_map h past q low
one_map h (Bound a port slot sndbuf rcvbuf ∷ past) q low = one_map h past q low
one_map h (Closed a port slot unread ∷ past) q low = one_map h past q low
one_map h (Received a port slot item ∷ past) q low = one_map h past q low
one_map h (Moved a b count ∷ past) q low = one_map h past q low
one_map h (Printed line ∷ past) q low = one_map h past q low
